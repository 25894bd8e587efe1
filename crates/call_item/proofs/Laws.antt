-- What the calls on items hand back, from what their parts give.
use mathlib.Core.Path.{◌≡◌, refl, sym, ap, subst, ◌∙◌}
use mathlib.Core.Bool.{Bool, true, false}
use mathlib.Core.List.{List, [], ◌∷◌}
use mathlib.Core.Option.{Option, some, none}
use Prim.Native.Nat.{ℕ, suc, ◌+◌, ◌-◌, ◌*◌, ◌≤◌, ◌<◌}
use native.Mathlib.Omega.{arith}
use lib.ListN.{length, get_or, take, drop, get_elem?}
use lib.Seq.{length-take-le, drop-cons, get_or-take}
use borrow.Author.Tests.{le-ltb, lt-ltb, ne_eqb}
use Rattle.std.specs.Prelude.{if◌then◌else◌}
use Rattle.std.specs.Prelude.{Option as Optional}
use Rattle.rules.specs.Outcome.{Outcome, ok, refused, fault, refuse, ◌>>=◌}
use Rattle.rules.specs.Sheet.{sheet_area}
use Rattle.rules.specs.Split.{Item}
use Rattle.rules.specs.State.{State, Found, field_mark, in_scope, get, find, remove, with_current, conflict}
use Rattle.rules.specs.Take.{Took, took, Operand as RulesOperand, is_operand, operand, take_positional_word}
use Rattle.rules.specs.Calls.{from_raw, to_raw, state_in, most_fields, place_in, mark_in, item_from, handed, on_items, operand_or20, call_get, call_conflict, call_take_positional}
use Rattle.rules.specs.Calls.{call_only_once}
use Rattle.rules.specs.declared.State.{State as Raw}
use Rattle.rules.specs.Sound.{Good}
use Rattle.rules.specs.Codes.{place_of}
use Rattle.rules.proofs.Acceptance.{lookup_some}
use Rattle.rules.proofs.Fields.{field_parsed}
use Rattle.rules.proofs.StepLaws.{Finds, find_good, free_below_lem}
use Rattle.rules.proofs.CodeLaws.{place_some}
use Rattle.split_arg.specs.Items.{record_at}
use Rattle.state_marks.specs.declared.Numbers.{Numbers}
use Rattle.state_marks.specs.Lent.{raw_of, numbers_of, state_of, FineState}
use Rattle.state_marks.proofs.Laws.{raw_back, fine_long}
use Rattle.state_marks.proofs.Marks.{present_at_lem}
use Rattle.state_value.specs.Options.{conflict_of}
use Rattle.state_value.specs.declared.ConflictAt.{ConflictAt}
use Rattle.state_value.proofs.Given.{given_fine}
use Rattle.take_search.specs.Items.{Table, part_bytes}
use Rattle.take_search.specs.States.{CanTake}
use Rattle.take.specs.Takes.{TakesPositional, operand_of}
use Rattle.take.specs.declared.Positional.{Positional}
use Rattle.std.specs.Prelude.{Some, None, Err}
use Rattle.rules.specs.Reported.{number_of}
use Rattle.rules.specs.declared.Refusal.{Refusal as Name}
use Rattle.rules.proofs.ReportedLaws.{numbered}
use Rattle.take.specs.declared.Operand.{Operand}
use Rattle.call_table.specs.Given.{HasTable, Gives, HasState, GivesState}
use Rattle.call_table.proofs.Laws.{table_refused, table_given, state_refused, state_given, item_at}
use Rattle.rules.proofs.GivenLaws.{no_field, field_there}
use Rattle.call_answers.specs.Answers.{Coded, coded, coded_or0, answer_with, state_with, answer_of, plain_answer, state_answer_of, yes_no, conflict_code, operand_code, place_or_none}
use Rattle.take_once.specs.Once.{HasPlace, Earlier}
use Rattle.call_item.specs.Calls.{free_at, got_of, got_words, Gets, nothing_got}

-- ---- a state that is handed back as it was

pub same_state : (x : Raw) → state_in 16 x.count x ≡ ok (from_raw x) → length x.marks ≡ 256 → to_raw (from_raw x) ≡ x
unfolding state_of
same_state x g long = raw_back x.marks (numbers_of x) (given_fine 16 x.count x g) long

-- ---- a call on items and a state, with the number of fields as the code has it

module _ {A : Type 0} (s words : List ℕ) (x : Raw) (f : List Item → State → Outcome (Took A)) where
  pub items_refused : (e : Name) → GivesState {A = Unit {0}} 16 s words x (Err e)
      → on_items s words x f ≡ ok (record { number = number_of e; place = none; answer = none; state = x })
  unfolding on_items most_fields handed
  items_refused e g = ap (handed x) (state_refused 16 s words x f (number_of e) g)

  pub items_given_lem : (h : HasState 16 s words x) → on_items s words x f ≡ handed x (f h.table.holds.items (from_raw x))
  unfolding on_items most_fields
  items_given_lem h = ap (handed x) (state_given 16 s words x f h)

  pub answer_refused : (code : A → Coded) (e : Name) → GivesState {A = Unit {0}} 16 s words x (Err e)
      → answer_of code (on_items s words x f) ≡ some (answer_with (number_of e) 0 (coded 0 0 0))
  unfolding answer_of coded_or0
  answer_refused code e g = ap (answer_of code) (items_refused e g)

  pub state_answer_refused : (code : A → Coded) (e : Name) → GivesState {A = Unit {0}} 16 s words x (Err e)
      → state_answer_of code (on_items s words x f) ≡ some (state_with (number_of e) 0 (coded 0 0 0) x)
  unfolding state_answer_of coded_or0
  state_answer_refused code e g = ap (state_answer_of code) (items_refused e g)

-- ---- each call, refused by the tests of its input

module _ (s words : List ℕ) (x : Raw) (e : Name) (g : GivesState {A = Unit {0}} 16 s words x (Err e)) where
  pub conflict_refused : answer_of conflict_code (call_conflict s words x) ≡ some (answer_with (number_of e) 0 (coded 0 0 0))
  unfolding call_conflict
  conflict_refused = answer_refused s words x _ conflict_code e g

  pub positional_refused : (j : ℕ) → state_answer_of operand_code (call_take_positional s words x j) ≡ some (state_with (number_of e) 0 (coded 0 0 0) x)
  unfolding call_take_positional
  positional_refused j = state_answer_refused s words x _ operand_code e g

  pub get_refused : (i : ℕ) → Gets s words x i (nothing_got (number_of e))
  unfolding call_get got_of got_words place_of
  get_refused i =
      let n = ne_eqb (number_of e) 0 (numbered e) in
      record { same = items_refused s words x _ e g ∙ rw n; item = rw n }

pub once_refused : (s words : List ℕ) (i : ℕ) (e : Name) → Gives s words (Err e)
    → plain_answer place_or_none (call_only_once s words i) ≡ some (answer_with (number_of e) 0 (coded 0 0 0))
unfolding call_only_once plain_answer
once_refused s words i e g = ap (plain_answer place_or_none) (table_refused s words _ e g)

-- ---- `conflict`

module _ (s words : List ℕ) (x : Raw) (h : HasState 16 s words x) where
  pub conflict_ready : FineState x
  conflict_ready = given_fine 16 x.count x h.good

  pub conflict_told : (c : Optional ConflictAt)
      → ((items : List Item) → length items ≡ x.count → conflict items (from_raw x) ≡ ok (conflict_of c))
      → answer_of conflict_code (call_conflict s words x) ≡ some (answer_with 0 0 (conflict_code (conflict_of c)))
  unfolding call_conflict handed took answer_of coded_or0 ◌>>=◌
  conflict_told c said =
      let k : conflict h.table.holds.items (from_raw x) ≡ ok (conflict_of c) = said h.table.holds.items h.table.holds.count in
      ap (answer_of conflict_code) (items_given_lem s words x _ h ∙ ap (λ (o : Outcome (Option _)). handed x (o >>= λ c. took c (from_raw x))) k)

-- ---- `take_positional_word`

answer_in : Outcome (Took (Option RulesOperand)) → Option RulesOperand
answer_in (ok t) = t.answer
answer_in (refused e) = none
answer_in (fault f) = none

took_same : (o : Outcome State) (a : RulesOperand) (b : Option RulesOperand) (u : State)
    → (o >>= λ t. took (some a) t) ≡ took b u → some a ≡ b
unfolding answer_in took ◌>>=◌
took_same (ok t) a b u e = ap answer_in e
took_same (refused d) a b u e = absurd (let z : ◌≡◌ {A = ℕ} 0 1 = cc in omega arith)
took_same (fault d) a b u e = absurd (let z : ◌≡◌ {A = ℕ} 0 1 = cc in omega arith)

none_took : (s u : State) (a : RulesOperand) → took none s ≡ took (some a) u → ⊥
unfolding answer_in took
none_took s u a e = let w = ap answer_in e in let z : ◌≡◌ {A = ℕ} 0 1 = cc in omega arith

-- a word that was taken stands at one of the places
operand_below : (k : ℕ) (is : List Item) (s : State) (a : RulesOperand) (u : State) → Good (length is) s
    → take_positional_word k is s ≡ took (some a) u → a.place < length is
unfolding take_positional_word operand ◌>>=◌
operand_below k is s a u g e = let f = find_good is is_operand s g in go f.0 f.1 f.2
  where
    go : (y : Option Found) → find is is_operand s ≡ ok y → Finds is is_operand s y → a.place < length is
    go none d h = absurd (none_took s u a (sym (rw d) ∙ e))
    go (some y) d h =
        let z = took_same (remove k (with_current (some y.place) s) y.place) (operand y) (some a) u (sym (rw d) ∙ e) in
        let w : operand y ≡ a = cc in
        subst (λ (b : RulesOperand). b.place < length is) w (free_below_lem (length is) s y.place g h.free)

module _ (s words : List ℕ) (x : Raw) (h : HasState 16 s words x) (j : ℕ) where
  positional_called : (o : Outcome ℕ) → mark_in most_fields j ≡ o
      → call_take_positional s words x j
      ≡ handed x (o >>= λ mark. take_positional_word mark h.table.holds.items (from_raw x) >>= operand_or20)
  unfolding call_take_positional
  positional_called o d =
      items_given_lem s words x _ h
      ∙ ap (λ (y : Outcome ℕ). handed x (y >>= λ mark. take_positional_word mark h.table.holds.items (from_raw x) >>= operand_or20)) d

  pub positional_beyond : 16 ≤ j → state_answer_of operand_code (call_take_positional s words x j) ≡ some (state_with 28 0 (coded 0 0 0) x)
  unfolding most_fields handed state_answer_of coded_or0 ◌>>=◌
  positional_beyond l = ap (state_answer_of operand_code) (positional_called _ (no_field 16 j l))

  pub positional_ready : (k : ℕ) → k ≡ field_mark j → (p : Numbers) → p ≡ numbers_of x → CanTake (sheet_area s) words x.marks p k
  positional_ready k ek p q =
      rw q (record {
        items = h.table.holds.items;
        table = h.table.holds.table;
        same = h.table.holds.count;
        fine = given_fine 16 x.count x h.good;
        told = rw ek (field_parsed j);
      })

  module _ (l : j < 16) (k : ℕ) (ek : k ≡ field_mark j) (p : Numbers) (q : p ≡ numbers_of x) (m : List ℕ) (r : Positional)
      (t : TakesPositional k (sheet_area s) words x.marks p m r) where
    -- what the rules take
    taken : take_positional_word k h.table.holds.items (from_raw x) ≡ operand_of (sheet_area s) m r.numbers r.operand
    unfolding state_of
    taken =
        sym (ap (λ (y : Numbers). take_positional_word k h.table.holds.items (state_of x.marks y)) q)
        ∙ t.same h.table.holds.items (h.table.holds.table, h.table.holds.count ∙ ap (λ (y : Numbers). y.count) (sym q))

    handed_back : (o : Outcome (Took (Option RulesOperand))) → operand_of (sheet_area s) m r.numbers r.operand ≡ o
        → call_take_positional s words x j ≡ handed x (o >>= operand_or20)
    unfolding most_fields ◌>>=◌
    handed_back o d =
        positional_called (ok k) (field_there 16 j l ∙ ap ok (sym ek)) ∙ ap (λ (y : Outcome (Took (Option RulesOperand))). handed x (y >>= operand_or20)) (taken ∙ d)

    pub positional_missing : r.operand ≡ None → state_answer_of operand_code (call_take_positional s words x j) ≡ some (state_with 20 0 (coded 0 0 0) x)
    unfolding handed operand_or20 took state_answer_of coded_or0 ◌>>=◌
    positional_missing d = ap (state_answer_of operand_code) (handed_back _ (ap (operand_of (sheet_area s) m r.numbers) d))

    module _ (w : Operand) (d : r.operand ≡ Some w) where
      pub positional_below : w.place < 256
      unfolding state_of
      positional_below =
          let f = given_fine 16 x.count x h.good in
          let o = h.table.holds.count in
          let below = operand_below k h.table.holds.items (from_raw x) (record { place = w.place; strict = w.strict; text = part_bytes (sheet_area s) w.text })
          (state_of m r.numbers) good (taken ∙ ap (operand_of (sheet_area s) m r.numbers) d) in
          omega (arith, f.small)
        where
          good : Good (length h.table.holds.items) (from_raw x)
          good = subst (λ (l : ℕ). Good l (from_raw x)) (sym h.table.holds.count) (given_fine 16 x.count x h.good).good

      pub positional_taken : length x.marks ≡ 256 → (u : Raw) → u ≡ raw_of m r.numbers → (b : ℕ) → b ≡ yes_no w.strict
          → state_answer_of operand_code (call_take_positional s words x j)
          ≡ some (record { number = 0; place = 0; found = 1; first = w.place; second = b; state = u })
      unfolding handed operand_or20 took state_answer_of coded_or0 ◌>>=◌
      positional_taken long u eu b eb =
          ap (state_answer_of operand_code) (handed_back _ (ap (operand_of (sheet_area s) m r.numbers) d))
          ∙ rw (raw_back m r.numbers t.left.fine (t.left.long ∙ long), eu, eb)

-- ---- `only_once`

module _ (s words : List ℕ) (i n : ℕ) (t : HasTable s words n) where
  pub once_beyond : n ≤ i → plain_answer place_or_none (call_only_once s words i) ≡ some (answer_with 28 0 (coded 0 0 0))
  unfolding call_only_once plain_answer place_in ◌>>=◌
  once_beyond h =
      let l : length t.holds.items ≤ i = omega (arith, t.holds.count) in
      let step : call_only_once s words i ≡ refused (refuse 28 none) = table_given s words _ n t ∙ rw (le-ltb i (length t.holds.items) l) in
      ap (plain_answer place_or_none) step

  module _ (h : i < n) where
    pub once_place : HasPlace s words i
    once_place =
        record { made = t.made; items = t.holds.items; table = t.holds.table; below = omega (arith, t.holds.count) }

    pub once_wide : 4294967295 < i → plain_answer place_or_none (call_only_once s words i) ≡ some (answer_with 28 0 (coded 0 0 0))
    unfolding call_only_once plain_answer place_in ◌>>=◌
    once_wide w =
        let l : i < length t.holds.items = omega (arith, t.holds.count) in
        let step : call_only_once s words i ≡ refused (refuse 28 none) =
        table_given s words _ n t ∙ rw (lt-ltb i (length t.holds.items) l, le-ltb i 4294967296 (omega arith)) in
        ap (plain_answer place_or_none) step

    module _ (small : i ≤ 4294967295) (f : ℕ) (z : Earlier (sheet_area s) words i f) where
      told : plain_answer place_or_none (call_only_once s words i) ≡ some (answer_with 0 0 (place_or_none (place_of f)))
      unfolding call_only_once plain_answer place_in ◌>>=◌
      told =
          let l : i < length t.holds.items = omega (arith, t.holds.count) in
          let step : call_only_once s words i ≡ ok (place_of f) =
          table_given s words _ n t
          ∙ rw (lt-ltb i (length t.holds.items) l, lt-ltb i 4294967296 (omega arith)) (z.same t.holds.items t.holds.table l) in
          ap (plain_answer place_or_none) step

      pub once_none : f ≡ 0 → plain_answer place_or_none (call_only_once s words i) ≡ some (answer_with 0 0 (coded 0 0 0))
      unfolding place_of
      once_none d = told ∙ rw d

      pub once_told : (f ≡ 0 → ⊥) → plain_answer place_or_none (call_only_once s words i) ≡ some (answer_with 0 0 (coded 1 (f - 1) 0))
      unfolding place_of
      once_told d = told ∙ rw (place_some f d)

-- ---- `get`

-- a record as a list of its words
next : (l : List ℕ) (k m : ℕ) → suc k ≡ m → k < length l → drop k l ≡ get_or l k 0 ∷ drop m l
next l k m e h = rw (← e) (drop-cons l k 0 h)

pub record_list : (l : List ℕ) (i : ℕ) → 7 * i + 7 ≤ length l
    → get_or l (7 * i) 0 ∷ get_or l (7 * i + 1) 0 ∷ get_or l (7 * i + 2) 0 ∷ get_or l (7 * i + 3) 0 ∷ get_or l (7 * i + 4) 0 ∷ get_or l (7 * i + 5) 0 ∷ get_or l (7 * i + 6) 0 ∷ []
    ≡ record_at l i
record_list l i h =
    rw (
      next l (7 * i) (7 * i + 1) (omega arith) (omega arith),
      next l (7 * i + 1) (7 * i + 2) (omega arith) (omega arith),
      next l (7 * i + 2) (7 * i + 3) (omega arith) (omega arith),
      next l (7 * i + 3) (7 * i + 4) (omega arith) (omega arith),
      next l (7 * i + 4) (7 * i + 5) (omega arith) (omega arith),
      next l (7 * i + 5) (7 * i + 6) (omega arith) (omega arith),
      next l (7 * i + 6) (7 * i + 7) (omega arith) (omega arith),
    )

-- the code's test is that of the rules
free_get : (x : Raw) (is : List Item) (i : ℕ) → state_in 16 x.count x ≡ ok (from_raw x) → i < x.count
    → get is (from_raw x) i ≡ (if free_at x i then get_elem? is i else none)
unfolding get in_scope from_raw free_at
free_get x is i g h =
    let f = given_fine 16 x.count x g in
    let l : x.count ≤ length x.marks = fine_long x.marks (numbers_of x) f in
    rw (present_at_lem (take x.count x.marks) i (omega (arith, length-take-le x.count x.marks l)), get_or-take x.count x.marks i 0 h)

-- the scope of a good state
pub scope_small : (s words : List ℕ) (x : Raw) → HasState 16 s words x → x.end ≤ 256
scope_small s words x h =
    let f = given_fine 16 x.count x h.good in
    omega (arith, f.inside, f.small)

module _ (s words : List ℕ) (x : Raw) (p : HasState 16 s words x) (i : ℕ) where
  called : (o : Outcome (Took (Option Item))) → ((is : List Item) → Table (sheet_area s) words is → length is ≡ x.count
      → (place_in (length is) i >>= λ _. took (get is (from_raw x) i) (from_raw x)) ≡ o)
      → call_get s words x i ≡ handed x o
  unfolding call_get
  called o d =
      items_given_lem s words x _ p ∙ ap (handed x) (d p.table.holds.items p.table.holds.table p.table.holds.count)

  pub get_beyond : (w : ℕ) → w ≡ x.count → w ≤ i → Gets s words x i (nothing_got 28)
  unfolding got_of got_words place_of place_in handed ◌>>=◌
  get_beyond w ew l = record {
    same = called (refused (refuse 28 none)) (λ is t k. rw (le-ltb i (length is) (omega arith)));
    item = refl;
  }

  module _ (w : ℕ) (ew : w ≡ x.count) (l : i < w) where
    below : i < x.count
    below = omega arith

    found : length x.marks ≡ 256 → (o : Option Item) → ((is : List Item) → Table (sheet_area s) words is → length is ≡ x.count → get is (from_raw x) i ≡ o)
        → call_get s words x i ≡ ok (record { number = 0; place = none; answer = some o; state = x })
    unfolding place_in handed took ◌>>=◌
    found long o d =
        called (took o (from_raw x)) (λ is t k. rw (lt-ltb i (length is) (omega (arith, below)), d is t k))
        ∙ rw (same_state x p.good long)

    pub get_absent : length x.marks ≡ 256 → (b : Bool) → b ≡ free_at x i → b ≡ false → Gets s words x i (nothing_got 0)
    unfolding got_of got_words place_of item_from
    get_absent long b eb h = record {
      same = found long none (λ is t k. free_get x is i p.good below ∙ rw (← eb, h));
      item = refl;
    }

    pub get_room : 7 * i + 7 ≤ length words
    get_room =
        let t = p.table.holds in
        omega (arith, below, t.table.room, t.count)

    pub get_found : length x.marks ≡ 256 → (b : Bool) → b ≡ free_at x i → b ≡ true → (r : List ℕ) → r ≡ record_at words i
        → Gets s words x i (record { number = 0; place = 0; item = r })
    unfolding got_of got_words place_of
    get_found long b eb h r er =
        let t = p.table.holds in
        let y = lookup_some t.items i (omega (arith, below, t.count)) in
        let here : item_from (sheet_area s) (record_at words i) ≡ some y.0 = t.table.at i y.0 y.1 in
        rw er (record {
          same = found long (item_from (sheet_area s) (record_at words i)) (λ is v k.
              free_get x is i p.good below ∙ rw (← eb, h) (sym (item_at (sheet_area s) words is v i (omega (arith, below)))));
          item = rw here;
        })
