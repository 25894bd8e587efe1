-- What the careful run's code rests on: what an accepted run leaves, which places are misread, and their letter. A name that is not UTF-8.
use mathlib.Core.Bool.{Bool, true, false, not, ◌&&◌, false≢true, true≢false}
use mathlib.Core.List.{List, [], ◌∷◌, flatten}
use mathlib.Core.Logic.{inr}
use mathlib.Core.Option.{Option, some, none, some-injective}
use mathlib.Core.Path.{◌≡◌, refl, sym, ap, ◌∙◌}
use Prim.Native.Nat.{ℕ, ◌≤◌}
use native.Mathlib.Omega.{arith}
use borrow.Author.Tests.{eqb-true, eqb-false}
use lib.Dec.{eqb}
use lib.ListN.{length, get_elem?}
use Rattle.utf8.specs.Utf8.{well_formed}
use Rattle.rules.specs.Base.{null, same, ◌>>?◌}
use Rattle.rules.specs.Outcome.{ok, ◌>>=◌}
use Rattle.rules.specs.Sheet.{sheet_fault, arguments}
use Rattle.rules.specs.Form.{read_form}
use Rattle.rules.specs.Accept.{Accepted, accepted, check_form, Letters, letters_of}
use Rattle.rules.specs.Split.{Item, Short, Long, ArgWord, Word, PosWord, dash, equals, ArgType, short, long, Parts, Split, split_from, items_of}
use Rattle.rules.specs.Split.{before_equals, behind_equals, parts, split_long, split_short, behind_dash, split_os_argument}
use Rattle.rules.specs.Run.{Line, Report, padded, split, run}
use Rattle.rules.specs.Commands.{split_with}
use Rattle.rules.specs.Codes.{place_code}
use Rattle.rules.specs.Why.{argument_at, is_whole, unknown_in}
use Rattle.rules.specs.WhyAnswered.{behind_adjacent}
use Rattle.rules_careful.specs.Careful.{looks_like_options, is_misread, misread_letter}
use Rattle.rules_careful.specs.Looks.{BadName, long_name, short_name, short_value}
use Rattle.rules.proofs.Places.{if_elim, left, right}
use Rattle.rules.proofs.Acceptance.{lookup_inside}
use Rattle.rules.proofs.SplitLaws.{LineGood, ok_injective, same_self, some≢none, short_body_lem, dashes}
use Rattle.rules.proofs.InputFaults.{padded_nil}
use Rattle.rules.proofs.Demand1Holds.{demand1}
use Rattle.rules.proofs.Withdraws.{argument_there, rest_not_whole, word_whole}
use Rattle.rules.proofs.WhyLaws.{line_ran}

-- ---- an accepted run
-- a line that is split by these letters, and what the report of its run has of it
pub record RanLine (l : Letters) (s : List ℕ) (ni : ℕ) (r : Report) : Type 0 where
  pub made : sheet_fault s ≡ 0
  pub room : 1792 ≤ ni
  pub line : Line
  pub splits : split_with l s ≡ ok line
  pub free : line.refusal ≡ none
  pub good : LineGood (arguments s) line
  pub given : Split
  pub grouped : split_from l 0 (arguments s) ≡ ok given
  pub clear : given.ambiguous ≡ none
  pub items : line.items ≡ items_of given
  pub records : r.items ≡ padded ni line.records
  pub marks : length r.state.marks ≡ length line.items

pub record AcceptedLine (b s : List ℕ) (ni : ℕ) (r : Report) : Type 0 where
  pub result : Accepted
  pub accepts : check_form b ≡ accepted result
  pub line : RanLine (letters_of (read_form b)) s ni r

pub accepted_line : (b s : List ℕ) (ni na nl : ℕ) (r : Report) → run b s ni na nl ≡ ok r → r.number ≡ 0 → AcceptedLine b s ni r
unfolding split split_with
accepted_line b s ni na nl r e h =
    let o = line_ran b s ni na nl r e (inr h) in
    record {
      result = o.result;
      accepts = o.accepts;
      line = record {
        made = o.made;
        room = o.room;
        line = o.line;
        splits = o.splits;
        free = o.free;
        good = o.good;
        given = o.given;
        grouped = o.grouped;
        clear = o.clear;
        items = o.items;
        records = o.records;
        marks = o.marks;
      };
    }

-- its list is all 0
pub accepted_list : (b s : List ℕ) (ni na nl : ℕ) (r : Report) → run b s ni na nl ≡ ok r → r.number ≡ 0 → r.list ≡ padded nl []
accepted_list b s ni na nl r e h =
    let d = demand1 b s ni na nl in
    let same = ok_injective (sym d.answered ∙ e) in
    let number = ap (λ (x : Report). x.number) same in
    ap (λ (x : Report). x.list) (sym same) ∙ d.unlisted (λ z. omega (arith, number)) ∙ sym (padded_nil nl)

-- ---- the places that are misread
module _ (args : List (List ℕ)) (groups : List (List Item)) (i : ℕ) where
  -- of a place and its argument
  pub misread_at :
      (y : Item) (os : List ℕ)
      → get_elem? (flatten groups) i ≡ some y
      → argument_at args groups i ≡ some os
      → is_misread args groups i ≡ is_whole y os && looks_like_options os
  unfolding is_misread
  misread_at y os here a = rw (here, is_misread, a)

  pub record MisreadAt : Type 0 where
    pub item : Item
    pub text : List ℕ
    pub here : get_elem? (flatten groups) i ≡ some item
    pub argument : argument_at args groups i ≡ some text
    pub whole : is_whole item text ≡ true
    pub looks : looks_like_options text ≡ true

  pub misread_facts : is_misread args groups i ≡ true → MisreadAt
  unfolding is_misread
  misread_facts e = go (get_elem? (flatten groups) i) refl (argument_at args groups i) refl
    where
      go : (y : Option Item) → get_elem? (flatten groups) i ≡ y → (os : Option (List ℕ)) → argument_at args groups i ≡ os → MisreadAt
      go none h os a = absurd (false≢true (rw (h, is_misread) at e))
      go (some y) h none a = absurd (false≢true (rw (h, is_misread, a) at e))
      go (some y) h (some os) a =
          let both = sym (misread_at y os h a) ∙ e in
          record { item = y; text = os; here = h; argument = a; whole = left (is_whole y os) _ both; looks = right (is_whole y os) _ both }

-- whether an item that stands behind an adjacent Short or not is misread
unfoldable pub reads_as : Bool → Item → Bool
reads_as behind (Short c a t) = false
reads_as behind (Long n a t) = false
reads_as behind (ArgWord t) = false
reads_as behind (Word t) = not behind && looks_like_options t
reads_as behind (PosWord t) = false

module _ (l : Letters) (args : List (List ℕ)) (x : Split) (i : ℕ) (e : split_from l 0 args ≡ ok x) (clear : x.ambiguous ≡ none) where
  reads :
      (y : Item) (os : List ℕ)
      → get_elem? (items_of x) i ≡ some y
      → argument_at args x.groups i ≡ some os
      → is_whole y os && looks_like_options os ≡ reads_as (behind_adjacent (items_of x) i) y
  unfolding is_whole reads_as
  reads (Short c a t) os here at = refl
  reads (Long n a t) os here at = refl
  reads (ArgWord t) os here at = refl
  reads (PosWord t) os here at = refl
  reads (Word t) os here at = go (behind_adjacent (items_of x) i) refl
    where
      go : (b : Bool) → behind_adjacent (items_of x) i ≡ b → same t os && looks_like_options os ≡ not b && looks_like_options t
      go true h = rw (rest_not_whole l args x i t os e clear here at h)
      go false h = let w : t ≡ os = (word_whole l args x i t os e clear here at h).0 in rw (w, same_self os)

-- just a Word, not behind an adjacent Short, whose text looks like options
pub misread_is :
    (l : Letters) (args : List (List ℕ)) (x : Split) (i : ℕ) (y : Item)
    → split_from l 0 args ≡ ok x
    → x.ambiguous ≡ none
    → get_elem? (items_of x) i ≡ some y
    → is_misread args x.groups i ≡ reads_as (behind_adjacent (items_of x) i) y
unfolding items_of
misread_is l args x i y e clear here =
    let (os, at) = argument_there l args x i e clear (lookup_inside (items_of x) i y here) in
    misread_at args x.groups i y os here at ∙ reads l args x i e clear y os here at

-- ---- their letter
pub misread_letter_lem :
    (b : List ℕ) (args : List (List ℕ)) (groups : List (List Item)) (m : List ℕ) (i : ℕ) (y : Item)
    → get_elem? (flatten groups) i ≡ some y
    → is_misread args groups i ≡ true
    → misread_letter (letters_of (read_form b)) args groups i
    ≡ place_code (unknown_in (record { form = read_form b; arguments = args; groups = groups; marks = m; place = i }) y)
unfolding misread_letter unknown_in ◌>>?◌
misread_letter_lem b args groups m i y here e =
    let f = misread_facts args groups i e in
    let item : f.item ≡ y = some-injective f.item y (sym f.here ∙ here) in
    let whole : is_whole y f.text ≡ true = rw item at f.whole in
    rw (f.argument, whole)

-- ---- a name that is not UTF-8
-- without a `=` all stands before it
before_all : (s : List ℕ) → behind_equals s ≡ none → before_equals s ≡ s
unfolding behind_equals before_equals
before_all [] e = refl
before_all (b ∷ s) e = go (eqb b equals) refl (before_all s)
  where
    go : (t : Bool) → eqb b equals ≡ t → (behind_equals s ≡ none → before_equals s ≡ s) → before_equals (b ∷ s) ≡ b ∷ s
    go true h rest = absurd (some≢none (rw h at e))
    go false h rest = rw h (ap (λ (l : List ℕ). b ∷ l) (rest (rw h at e)))

no_parts : (t : ArgType) (n : List ℕ) (b : Option (List ℕ)) → parts t n b ≡ none → well_formed n ≡ false
unfolding parts
no_parts t n b =
    if_elim (λ (o : Option Parts). o ≡ none → well_formed n ≡ false) (well_formed n) _ none (λ w e. absurd (some≢none e)) (λ w e. w)

bad_long : (s : List ℕ) → same (dash ∷ dash ∷ s) dashes ≡ false → split_long s ≡ none → BadName (dash ∷ dash ∷ s)
unfolding split_long null
bad_long [] other e = absurd (true≢false (sym (same_self dashes) ∙ other))
bad_long (c ∷ s) other e = go (behind_equals (c ∷ s)) refl
  where
    go : (v : Option (List ℕ)) → behind_equals (c ∷ s) ≡ v → BadName (dash ∷ dash ∷ c ∷ s)
    go none h = long_name (c ∷ s) (ap well_formed (before_all (c ∷ s) h) ∙ no_parts long (c ∷ s) none (rw (h, split_long) at e))
    go (some v) h = long_name (c ∷ s) (no_parts long (before_equals (c ∷ s)) (some v) (rw (h, split_long) at e))

bad_short : (b : ℕ) (s : List ℕ) → (b ≡ dash → ⊥) → split_short b s ≡ ok none → BadName (dash ∷ b ∷ s)
unfolding split_short ◌>>=◌
bad_short b s apart e = go (behind_equals s) refl
  where
    go : (v : Option (List ℕ)) → behind_equals s ≡ v → BadName (dash ∷ b ∷ s)
    go none h = short_name b s apart h (no_parts short (b ∷ s) none (ok_injective (rw (h, split_short) at e)))
    go (some v) h = short_value b s v apart h (no_parts short (b ∷ []) _ (ok_injective (rw (h, split_short, short_body_lem b s v h) at e)))

pub bad_name_lem : (os : List ℕ) → looks_like_options os ≡ true → same os dashes ≡ false → split_os_argument os ≡ ok none → BadName os
unfolding looks_like_options split_os_argument behind_dash
bad_name_lem [] looks other e = absurd (false≢true looks)
bad_name_lem (b ∷ []) looks other e = absurd (false≢true looks)
bad_name_lem (b ∷ c ∷ s) looks other e =
    let first : b ≡ dash = eqb-true b dash looks in
    rw first (go (eqb c dash) refl (rw first at other) (rw looks at e))
  where
    go : (t : Bool) → eqb c dash ≡ t → same (dash ∷ c ∷ s) dashes ≡ false → behind_dash (c ∷ s) ≡ ok none → BadName (dash ∷ c ∷ s)
    go true h other e =
        let second : c ≡ dash = eqb-true c dash h in
        rw second (bad_long s (rw second at other) (ok_injective (rw h at e)))
    go false h other e = bad_short c s (eqb-false c dash h) (rw h at e)
