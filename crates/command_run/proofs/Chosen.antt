-- The form that a line chooses: its place in the table, and the state that it runs on.
use mathlib.Core.List.{List}
use mathlib.Core.Option.{some, some-injective}
use mathlib.Core.Path.{◌≡◌, sym, ap, subst, ◌∙◌}
use Prim.Native.Nat.{ℕ, ◌+◌, ◌<◌}
use native.Mathlib.Omega.{arith}
use lib.ListN.{length, get_elem?}
use Rattle.rules.specs.Outcome.{ok}
use Rattle.rules.specs.Accept.{Accepted, accepted, check_form}
use Rattle.rules.specs.Split.{Item}
use Rattle.rules.specs.State.{State}
use Rattle.rules.specs.Sound.{Good}
use Rattle.rules.specs.Commands.{entry_count, Command, table_in, forms_in, candidates_from, Tried, try_names, narrowed}
use Rattle.rules.proofs.Acceptance.{All-at}
use Rattle.rules.proofs.SplitLaws.{ok_injective, some≢none}
use Rattle.rules.proofs.CommandLaws.{Begins, TriedNames, taken, untaken, tries_names, narrowed_stays, entries_below, forms_at}
use Rattle.state_marks.specs.declared.Numbers.{Numbers}
use Rattle.form_layout.specs.Layout.{GoodNames}
use Rattle.form_layout.proofs.Sizes.{accepted_names}
use Rattle.form_codes.specs.Codes.{CodedNames}
use Rattle.run.specs.Runner.{ItemsBegin}
use Rattle.command_layout.specs.Tables.{HasForms, FormOf}
use Rattle.rules.proofs.CommandForms.{commands_count}
use Rattle.command_run.specs.Chosen.{FormBegins}

module _ (is : List Item) (s : State) (g : Good (length is) s) (b : Begins is s) where
  -- the entry is one of the table's
  pub chosen :
      (cs : List Command) (x : Tried)
      → try_names is 0 (candidates_from 0 cs) s ≡ ok x
      → (k : ℕ)
      → x.entry ≡ some k
      → (k < length cs) × (narrowed x.state ≡ ok x.state)
  chosen cs x tries =
      let (y, e, n) = tries_names is s g b 0 (candidates_from 0 cs) in
      subst (λ (z : Tried). (k : ℕ) → z.entry ≡ some k → (k < length cs) × (narrowed z.state ≡ ok z.state))
      (ok_injective (sym e ∙ tries)) (first y n)
    where
      first : (y : Tried) → TriedNames is 0 (candidates_from 0 cs) s y → (k : ℕ) → y.entry ≡ some k → (k < length cs) × (narrowed y.state ≡ ok y.state)
      first y (taken j m c h q f p r) k z =
          let same : c.entry ≡ k = some-injective c.entry k z in
          let below : c.entry < 0 + length cs = All-at _ (candidates_from 0 cs) j c (entries_below 0 cs) h in
          (omega arith, narrowed_stays is s g b f)
      first y (untaken m q r) k z = absurd (some≢none (sym z))

-- ---- the form of an entry
pub form_checks :
    (cs : List Command) (fs : List Accepted) (k : ℕ) (b : List ℕ) (a : Accepted)
    → forms_in cs ≡ ok fs
    → k < length cs
    → FormOf cs k b
    → get_elem? fs k ≡ some a
    → check_form b ≡ accepted a
form_checks cs fs k b a formed below f has =
    let (c, d, here, there, accepts) = forms_at cs fs formed k below in
    let command : c ≡ f.command = some-injective c f.command (sym here ∙ f.here) in
    let same : d ≡ a = some-injective d a (sym there ∙ has) in
    sym (ap check_form (ap (λ (x : Command). x.form) command ∙ f.form)) ∙ accepts ∙ ap accepted same

pub form_there : (t : List ℕ) (h : HasForms t) (k : ℕ) → k < entry_count t → (a : Accepted) × (get_elem? h.forms k ≡ some a)
form_there t h k below =
    let count = commands_count t h.commands h.reads in
    let (c, a, here, there, accepts) = forms_at h.commands h.forms h.accepts k (omega arith) in
    (a, there)

-- the bytes that were accepted
pub form_bytes :
    (t : List ℕ) (h : HasForms t) (k : ℕ)
    → k < entry_count t
    → (a : Accepted)
    → get_elem? h.forms k ≡ some a
    → (b : List ℕ) × (check_form b ≡ accepted a)
form_bytes t h k below a has =
    let count = commands_count t h.commands h.reads in
    let (c, d, here, there, accepts) = forms_at h.commands h.forms h.accepts k (omega arith) in
    (c.form, accepts ∙ ap accepted (some-injective d a (sym there ∙ has)))

-- ---- the run of form k
module _ (t : List ℕ) (k : ℕ) (s words m : List ℕ) (p : Numbers) (o l : List ℕ) (g : FormBegins t k s words m p o l)
    (b : List ℕ) (f : (cs : List Command) → table_in t ≡ ok cs → FormOf cs k b) where
  pub chosen_checks :
      (cs : List Command) (fs : List Accepted) (a : Accepted)
      → table_in t ≡ ok cs
      → forms_in cs ≡ ok fs
      → get_elem? fs k ≡ some a
      → check_form b ≡ accepted a
  chosen_checks cs fs a reads formed has =
      let count = commands_count t cs reads in
      form_checks cs fs k b a formed (omega (arith, g.below)) (f cs reads) has

  pub accepts : (a : Accepted) × (check_form b ≡ accepted a)
  accepts =
      let (a, has) = form_there t g.forms k g.below in
      (a, chosen_checks g.forms.commands g.forms.forms a g.forms.reads g.forms.accepts has)

  pub chosen_names : GoodNames b
  chosen_names = let (a, e) = accepts in accepted_names b a e

  pub items_begin : (codes : List ℕ) → CodedNames b codes → ItemsBegin b codes s words m p 0 o l
  items_begin codes h =
      let (a, e) = accepts in
      record {
        result = a;
        accepts = e;
        coded = h;
        made = g.made;
        state = g.state;
        small = omega arith;
        room = g.room;
        zeros = g.zeros;
        entries = g.entries;
      }
