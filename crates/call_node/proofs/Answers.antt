-- What is handed back: a refusal that changes nothing, or the words of the value in an answer slice that was all 0.
use mathlib.Core.Bool.{true}
use mathlib.Core.List.{List, [], ◌++◌, append-nil}
use mathlib.Core.Option.{Option, some, some-injective, none-ne-some}
use mathlib.Core.Path.{◌≡◌, refl, sym, ap, subst, ◌∙◌}
use Prim.Native.Nat.{ℕ, zero, suc, ◌-◌, ◌≤◌}
use native.Mathlib.Nat.{zero-add, sub-zero, zero-sub}
use native.Mathlib.Omega.{arith}
use lib.ListN.{length, get_or, drop, replicate, get_elem?, length-replicate}
use lib.Seq.{sets, sets-eq, length-sets, drop-length}
use borrow.Author.Tests.{eq-eqb, ne_eqb}
use Rattle.rules.specs.Base.{◌>>?◌}
use Rattle.rules.specs.Outcome.{Outcome, ok, refused, fault, MissingItem, list_words, is_missing}
use Rattle.rules.specs.Value.{Value, words}
use Rattle.rules.specs.Form.{field_count, read_form}
use Rattle.rules.specs.Accept.{length_good, field_of}
use Rattle.rules.specs.Sheet.{sheet_area, sheet_fault}
use Rattle.rules.specs.Tree.{Tree}
use Rattle.rules.specs.Split.{Item}
use Rattle.rules.specs.State.{State}
use Rattle.rules.specs.Codes.{place_code}
use Rattle.rules.specs.Eval.{Ran as Run, eval}
use Rattle.rules.specs.Run.{padded}
use Rattle.rules.specs.Missing.{lacking}
use Rattle.rules.specs.Calls.{items_in, from_raw, to_raw, evaluated_with, evaluated, unchanged, eval_in, call_eval}
use Rattle.rules.specs.declared.Refused.{Refused}
use Rattle.rules.specs.declared.State.{State as Raw}
use Rattle.rules.proofs.Acceptance.{accepted_length, accepted_passed, good_no_fault}
use Rattle.rules.proofs.InputFaults.{no_entries_listed}
use Rattle.rules.proofs.MissingLaws.{missing_told}
use Rattle.eval_error.specs.Refusals.{refused_of, refusal_of, refused_refusal}
use Rattle.state_marks.specs.declared.Numbers.{Numbers}
use Rattle.state_marks.specs.Lent.{raw_of, numbers_of, state_of}
use Rattle.state_marks.proofs.Laws.{raw_back, in_kept, kept_fine}
use Rattle.rules.proofs.Fields.{field_parsed}
use Rattle.form_layout.specs.Layout.{GoodNames}
use Rattle.form_codes.specs.Codes.{CodedNames}
use Rattle.take_table.specs.Known.{Matchable, Known}
use Rattle.take_search.specs.States as states
use Rattle.call_table.specs.Given.{Holds}
use Rattle.eval_told.specs.declared.Ran.{Ran}
use Rattle.eval_told.specs.Told.{Told, told, told_with}
use Rattle.eval_told.specs.Nodes.{tree_at}
use Rattle.eval_told.proofs.NodeLaw.{at_tree}
use Rattle.eval_list.specs.Lists.{Writes}
use Rattle.eval_missing.specs.Missing.{Listing, Lists}
use Rattle.run_fields.specs.Line.{FieldReady}
use Rattle.call_node.specs.Node.{Answered, evaluated_answer, unchanged_by, answer_of, Admitted, ClearedAnswers, node_mark, Runs}
use Rattle.run_fields.specs.declared.RunAnswer.{RunAnswer}
use Rattle.call_node.proofs.Leaves.{few_leaves}
use Rattle.call_node.proofs.Tests.{admitted_runs}

-- ---- lists of zeros
drop_zeros : (k n : ℕ) → drop k (replicate n 0) ≡ replicate {A = ℕ} (n - k) 0
drop_zeros zero n = ap (λ (m : ℕ). replicate {A = ℕ} m 0) (sym (sub-zero n))
drop_zeros (suc k) zero = ap (λ (m : ℕ). replicate {A = ℕ} m 0) (sym (zero-sub (suc k)))
drop_zeros (suc k) (suc n) =
    let e : suc n - suc k ≡ n - k = omega arith in
    drop_zeros k n ∙ ap (λ (m : ℕ). replicate {A = ℕ} m 0) (sym e)

zero_at : (n k : ℕ) → ◌≡◌ {A = ℕ} (get_or (replicate n 0) k 0) 0
zero_at zero k = refl
zero_at (suc n) zero = refl
zero_at (suc n) (suc k) = zero_at n k

-- words in front of zeros
sets_zeros : (w : List ℕ) (n : ℕ) → length w ≤ n → sets (replicate n 0) 0 w ≡ padded n w
unfolding padded
sets_zeros w n h =
    sets-eq w (replicate n 0) 0 (omega (arith, length-replicate {A = ℕ} n 0))
    ∙ rw (zero-add (length w)) (ap {B = List ℕ} (λ (l : List ℕ). w ++ l) (drop_zeros (length w) n))

all_zero : (o : List ℕ) → sets o 0 (replicate (length o) 0) ≡ replicate {A = ℕ} (length o) 0
all_zero o =
    sets-eq (replicate (length o) 0) o 0 (omega (arith, length-replicate {A = ℕ} (length o) 0))
    ∙ rw (zero-add (length (replicate {A = ℕ} (length o) 0)), length-replicate {A = ℕ} (length o) 0, drop-length o, append-nil (replicate {A = ℕ} (length o) 0))

-- ---- the table of what is known
pub known_matchable : (b codes s words : List ℕ) (n : ℕ) → GoodNames b → CodedNames b codes → sheet_fault s ≡ 0 → Holds (sheet_area s) words n
    → Matchable b codes s words n
known_matchable b codes s words n c w made h = record {
  checked = c;
  coded = w;
  made = made;
  items = h.items;
  table = h.table;
  inside = omega (arith, h.count);
}

pub cleared_holds : (b s words o l : List ℕ) (x : Raw) (k : ℕ) → ClearedAnswers b s words o l x k → (n : ℕ) → n ≡ x.count → Holds (sheet_area s) words n
cleared_holds b s words o l x k c n e = rw e c.input.holds

-- a state has a mark for each of its items
pub cleared_few : (b s words o l : List ℕ) (x : Raw) (k : ℕ) → ClearedAnswers b s words o l x k → (n : ℕ) → n ≡ x.count → n ≤ 256
cleared_few b s words o l x k c n e = omega (arith, (in_kept (field_count b) x.count x c.input.good).small)

pub cleared_long : (b s words o l : List ℕ) (x : Raw) (k : ℕ) → ClearedAnswers b s words o l x k → length_good b ≡ true
cleared_long b s words o l x k c = accepted_length b c.input.result c.input.accepts

pub cleared_made : (b s words o l : List ℕ) (x : Raw) (k : ℕ) → ClearedAnswers b s words o l x k → sheet_fault s ≡ 0
cleared_made b s words o l x k c = c.input.made

pub cleared_checked : (b s words o l : List ℕ) (x : Raw) (k : ℕ) → ClearedAnswers b s words o l x k → GoodNames b
cleared_checked b s words o l x k c =
    let a = c.input.accepts in
    record {
      good = accepted_length b c.input.result a;
      names = good_no_fault _ 0 _ (accepted_passed b c.input.result a).names;
    }

-- ---- the run
ok_same : (a b : List Item) → ◌≡◌ {A = Outcome (List Item)} (ok a) (ok b) → a ≡ b
ok_same a b e = cc

-- what an evaluation lacked
unfoldable lost : Run Value → List MissingItem
lost r = elim r.outcome [ ok v ↦ [] | refused e ↦ e.missing | fault x ↦ [] ]

module _ (mark : ℕ) (is : List Item) (t : Tree) (s : State) (x : Told) (e : told (eval mark is t s) ≡ some x) where
  -- refused with 20, it is what the node lacks in the state that is left; else nothing
  lost_missing : x.number ≡ 20 → lost (eval mark is t s) ≡ lacking mark is t x.state
  unfolding lost told is_missing
  lost_missing h = go (eval mark is t s).outcome refl
    where
      go : (o : Outcome Value) → (eval mark is t s).outcome ≡ o → lost (eval mark is t s) ≡ lacking mark is t x.state
      go (ok v) q =
          let same = some-injective _ x (rw (q, told) at e) in
          absurd (omega (arith, h, ap (λ (y : Told). y.number) same))
      go (refused d) q =
          let same = some-injective _ x (rw (q, told) at e) in
          let twenty = eq-eqb d.number 20 (ap (λ (y : Told). y.number) same ∙ h) in
          let law = missing_told.lacks mark is t s d q in
          let left = sym (law.unchanged twenty) ∙ ap (λ (y : Told). y.state) same in
          rw (q, lost) (law.listed twenty ∙ ap (lacking mark is t) left)
      go (fault d) q = absurd (none-ne-some x (rw (q, told) at e))

  lost_nothing : (x.number ≡ 20 → ⊥) → lost (eval mark is t s) ≡ []
  unfolding lost told is_missing
  lost_nothing h = go (eval mark is t s).outcome refl
    where
      go : (o : Outcome Value) → (eval mark is t s).outcome ≡ o → lost (eval mark is t s) ≡ []
      go (ok v) q = rw (q, lost)
      go (refused d) q =
          let same = some-injective _ x (rw (q, told) at e) in
          let plain = ne_eqb d.number 20 (λ y. h (sym (ap (λ (y : Told). y.number) same) ∙ y)) in
          rw (q, lost) ((missing_told.lacks mark is t s d q).only plain)
      go (fault d) q = rw (q, lost)

-- what is told and missing, handed over with an answer slice of na words and a list of nl
abbrev handed : ℕ → ℕ → List MissingItem → Told → Answered
handed na nl l x = record {
  answer = record { number = x.number; place = x.place; tries = x.tries; words = length x.words; state = to_raw x.state };
  answers = padded na x.words;
  list = padded nl (list_words l);
}

told_handed : (na nl : ℕ) (r : Run Value) (x : Told) → told r ≡ some x → evaluated_answer (evaluated na nl r) ≡ some (handed na nl (lost r) x)
unfolding evaluated evaluated_with evaluated_answer told lost ◌>>?◌
told_handed na nl r x e = go r.outcome refl
  where
    go : (o : Outcome Value) → r.outcome ≡ o → evaluated_answer (evaluated na nl r) ≡ some (handed na nl (lost r) x)
    go (ok v) h = rw (h, evaluated, lost) (ap (λ (y : Option Told). y >>? λ z. some (handed na nl [] z)) (rw (h, told) at e))
    go (refused d) h = rw (h, evaluated, lost) (ap (λ (y : Option Told). y >>? λ z. some (handed na nl d.missing z)) (rw (h, told) at e))
    go (fault d) h = absurd (none-ne-some x (rw (h, told) at e))

module _ (b s words o l : List ℕ) (x : Raw) (k : ℕ) (c : ClearedAnswers b s words o l x k) (p : Numbers) (ep : p ≡ numbers_of x) (mark : ℕ) (em : mark ≡ node_mark b k) where
  pub node_stands : (n : ℕ) → n ≡ x.count → (known : List ℕ) → Known b (sheet_area s) words n known → FieldReady b known s words x.marks p (record { node = k; at = 0; mark = mark }) o
  node_stands n same known w =
      let i = c.input in
      let stands : get_elem? i.result.trees k ≡ some i.tree = sym (at_tree b i.result i.accepts k) ∙ i.node in
      let room = i.room in
      rw ep (record {
        stands = record {
          tree = i.tree;
          node = i.node;
          light = few_leaves b i.result i.accepts k i.tree stands;
          made = i.made;
          state = record {
            items = i.holds.items;
            table = i.holds.table;
            same = i.holds.count;
            fine = kept_fine (field_count b) x.count x (in_kept (field_count b) x.count x i.good);
            told = rw em (field_parsed (field_of (read_form b) k));
          };
          knows = subst (λ (l : ℕ). Known b (sheet_area s) words l known) (same ∙ sym i.holds.count) w;
        };
        space = record { room = omega arith; zeros = λ j _. ap (λ (l : List ℕ). get_or l j 0) c.zeros ∙ zero_at (length o) j };
      })

  -- the items of the words, and what is told of their evaluation
  module _ (m o' : List ℕ) (ran : Ran) (writes : (t : Tree) → tree_at b k ≡ some t → Writes mark (sheet_area s) words t x.marks p m o 0 o' ran) where
    over : (is : List Item) → items_in (sheet_area s) words ≡ ok is → states.Items (sheet_area s) words p is
    over is read =
        let i = c.input in
        let same : i.holds.items ≡ is = ok_same i.holds.items is (sym i.holds.read ∙ read) in
        subst (states.Items (sheet_area s) words p) same (rw ep (i.holds.table, i.holds.count))

    says : (is : List Item) (t : Tree) → states.Items (sheet_area s) words p is → (node : tree_at b k ≡ some t)
        → told (eval mark is t (from_raw x)) ≡ some (told_with ran m (writes t node).value)
    unfolding state_of
    says is t h node = rw ep at ((writes t node).same is h)

    module _ (long : length x.marks ≡ 256) where
      -- whatever the list holds
      runs_with :
          (l' : List ℕ) (r : RunAnswer)
          → r ≡ answer_of ran m
          → ((is : List Item) (t : Tree) → items_in (sheet_area s) words ≡ ok is → tree_at b k ≡ some t
          → padded (length l) (list_words (lost (eval mark is t (from_raw x)))) ≡ l')
          → Runs b s words (length o) (length l) x k o' l' r
      runs_with l' r e lists is t read node =
          let w = writes t node in
          let room = c.input.room in
          let fits = w.fits in
          let state : to_raw (state_of m ran.numbers) ≡ raw_of m ran.numbers = raw_back m ran.numbers w.left.fine (w.left.long ∙ long) in
          let put : padded (length o) w.value ≡ o' = sym (sets_zeros w.value (length o) (omega arith)) ∙ ap (λ (l : List ℕ). sets l 0 w.value) (sym c.zeros) ∙ sym w.put in
          rw (← em) (told_handed (length o) (length l) (eval mark is t (from_raw x)) (told_with ran m w.value) (says is t (over is read) node)
          ∙ rw (state, put, lists is t read node, ← w.len, e))

      -- not refused with 20: the list stays all 0
      pub node_runs : (r : RunAnswer) → (ran.number ≡ 20 → ⊥) → r ≡ answer_of ran m → Runs b s words (length o) (length l) x k o' l r
      node_runs r h e =
          runs_with l r e (λ is t read node.
          no_entries_listed (length l) _ (lost_nothing mark is t (from_raw x) (told_with ran m (writes t node).value) (says is t (over is read) node) h)
          ∙ sym c.unlisted)

    -- refused with 20: what the node lacks in the state that is left
    module _ (h : ran.number ≡ 20) where
      pub missing_stands :
          (n : ℕ)
          → n ≡ x.count
          → (known : List ℕ)
          → Known b (sheet_area s) words n known
          → Listing b known s words m ran.numbers mark k l
      missing_stands n same known w =
          let f = (node_stands n same known w).stands in
          let left = (writes f.tree f.node).left in
          record {
            stands = record {
              tree = f.tree;
              node = f.node;
              light = f.light;
              made = f.made;
              state = record { items = f.state.items; table = f.state.table; same = f.state.same ∙ sym left.count; fine = left.fine; told = f.state.told };
              knows = f.knows;
            };
            room = c.input.entries;
          }

      pub missing_runs :
          length x.marks ≡ 256
          → (l' : List ℕ) (stop : ℕ)
          → ((t : Tree) → tree_at b k ≡ some t → Lists mark (sheet_area s) words t m ran.numbers 0 l l' stop)
          → (r : RunAnswer)
          → r ≡ answer_of ran m
          → Runs b s words (length o) (length l) x k o' l' r
      missing_runs long l' stop lists r e =
          runs_with long l' r e (λ is t read node.
          let w = writes t node in
          let y = lists t node in
          let here : states.Items (sheet_area s) words ran.numbers is = ((over is read).0, (over is read).1 ∙ sym w.left.count) in
          let same : list_words (lost (eval mark is t (from_raw x))) ≡ y.entries =
          ap list_words (lost_missing mark is t (from_raw x) (told_with ran m w.value) (says is t (over is read) node) h) ∙ y.same is here in
          let room = c.input.entries in
          let few = y.few in
          let light = few_leaves b c.input.result c.input.accepts k t (sym (at_tree b c.input.result c.input.accepts k) ∙ node) in
          ap (padded (length l)) same ∙ sym (sets_zeros y.entries (length l) (omega arith)) ∙ ap (λ (z : List ℕ). sets z 0 y.entries) (sym c.unlisted) ∙ sym y.put)

-- ---- the call
module _ (b s words o l : List ℕ) (x : Raw) (k : ℕ) where
  pub call_refused : (q : Refused) → eval_in b s words o l x k ≡ refused (refusal_of q) → (r : RunAnswer) → r ≡ unchanged_by q x
      → evaluated_answer (call_eval b s words o l x k) ≡ some (record { answer = r; answers = o; list = l })
  unfolding call_eval unchanged evaluated_answer refused_of
  call_refused q h r e =
      let place : place_code (refusal_of q).place ≡ q.place = ap (λ (y : Refused). y.place) (refused_refusal q) in
      let number : (refusal_of q).number ≡ q.number = ap (λ (y : Refused). y.number) (refused_refusal q) in
      rw (h, call_eval, place, number, e) refl

  module _ (i : Admitted b s words (length o) (length l) x k) (p : List ℕ) (ep : p ≡ sets o 0 (replicate (length o) 0)) (e : List ℕ) (ee : e ≡ sets l 0 (replicate (length l) 0)) where
    clear_long : length p ≡ length o
    clear_long = ap length ep ∙ length-sets o 0 (replicate (length o) 0)

    list_long : length e ≡ length l
    list_long = ap length ee ∙ length-sets l 0 (replicate (length l) 0)

    pub call_cleared : ClearedAnswers b s words p e x k
    call_cleared = record {
      input = rw (clear_long, list_long) i;
      zeros = ep ∙ all_zero o ∙ ap (λ (n : ℕ). replicate {A = ℕ} n 0) (sym clear_long);
      unlisted = ee ∙ all_zero l ∙ ap (λ (n : ℕ). replicate {A = ℕ} n 0) (sym list_long);
    }

    pub call_runs : (o' l' : List ℕ) (r : RunAnswer) → Runs b s words (length p) (length e) x k o' l' r
        → evaluated_answer (call_eval b s words o l x k) ≡ some (record { answer = r; answers = o'; list = l' })
    unfolding call_eval
    call_runs o' l' r h =
        rw (admitted_runs b s words o l x k i, call_eval, ← clear_long, ← list_long) (h i.holds.items i.tree i.holds.read i.node)
