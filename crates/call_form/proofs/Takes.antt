-- From the takes on lent marks to what a call hands back.
use mathlib.Core.Bool.{Bool, true}
use mathlib.Core.List.{List}
use mathlib.Core.Option.{Option, some, none, some-injective, none-ne-some}
use mathlib.Core.Path.{◌≡◌, refl, sym, ◌∙◌, subst}
use Prim.Native.Nat.{ℕ, suc, ◌+◌, ◌≤◌, ◌<◌}
use native.Mathlib.Numerals.{add-one}
use native.Mathlib.Omega.{arith}
use borrow.Author.Tests.{le-leb}
use lib.ListN.{length}
use Rattle.rules.specs.Outcome.{Outcome, ok, refused, fault, ◌>>=◌, refuse}
use Rattle.rules.specs.Form.{name_count}
use Rattle.rules.specs.Sheet.{sheet_fault, sheet_area}
use Rattle.rules.specs.Split.{Item}
use Rattle.rules.specs.Tree.{Named}
use Rattle.rules.specs.State.{State, Found, command_mark, parsed, find, get, with_current}
use Rattle.rules.specs.Take.{Took, took, Taken, matches_arg, take_flag, value_text, take_value, take_arg, take_cmd}
use Rattle.rules.specs.Calls.{from_raw, item_from, handed}
use Rattle.rules.specs.Sound.{Good}
use Rattle.rules.specs.declared.State.{State as Raw}
use Rattle.rules.proofs.StepLaws.{Free, Finds, free_below_lem, find_good, remove_step, get_free, current_good_lem}
use Rattle.state_marks.specs.declared.Numbers.{Numbers}
use Rattle.state_marks.specs.Lent.{raw_of, numbers_of, state_of, Fine}
use Rattle.state_marks.proofs.Mark.{parsed_is}
use Rattle.state_marks.proofs.Laws.{raw_back}
use Rattle.state_value.proofs.Given.{given_fine}
use Rattle.form_layout.specs.Layout.{GoodNames}
use Rattle.form_codes.specs.Codes.{CodedNames}
use Rattle.take_search.specs.Items.{part_bytes}
use Rattle.take_search.specs.Search.{HasNames}
use Rattle.take_search.specs.States.{CanTake, Items}
use Rattle.take.specs.Takes.{Value, TakesFlag, TakesArg, TakesCmd, value_of}
use Rattle.take.specs.declared.Flag.{Flag}
use Rattle.std.specs.Prelude.{Some, None, Ok, Err}
use Rattle.take.specs.declared.Word.{Word}
use Rattle.take.specs.declared.NoArgument.{NoArgument}
use Rattle.take.specs.declared.Argument.{Argument}
use Rattle.split_arg.specs.Items.{record_at}
use Rattle.call_answers.specs.Answers.{Coded, coded, coded_or0, yes_no, yes_code, taken_code, answer_with, state_with, state_answer_of}
use Rattle.call_answers.specs.declared.Answer.{Answer}
use Rattle.call_answers.specs.declared.StateAnswer.{StateAnswer}
use Rattle.call_table.specs.Given.{HasState}
use Rattle.call_form.specs.Given.{HasForm}
use Rattle.call_form.specs.Answered.{SmallValue, value_answer, TakeAnswer, TestAnswer}
use Rattle.form_layout.proofs.Sizes.{accepted_names}

-- ---- what an accepted form and a good state give the takes
module _ (form sheet words : List ℕ) (x : Raw) (g : HasForm form sheet words x) where
  pub given_names : GoodNames form
  given_names = accepted_names form g.result g.accepts

  pub has_names : (codes : List ℕ) (first count : ℕ) → CodedNames form codes → first + count ≤ name_count form → HasNames form codes first count
  has_names codes first count c h = record { checked = given_names; coded = c; inside = h }

module _ (fields : ℕ) (sheet words : List ℕ) (x : Raw) (g : HasState fields sheet words x) where
  pub sheet_made : sheet_fault sheet ≡ 0
  sheet_made = g.table.made

  pub ready : (mark : ℕ) → parsed mark ≡ true → (p : Numbers) → p ≡ numbers_of x → CanTake (sheet_area sheet) words x.marks p mark
  ready mark told p e =
      let h = g.table.holds in
      rw e (record {
        items = h.items;
        table = h.table;
        same = h.count;
        fine = given_fine fields x.count x g.good;
        told = told;
      })

  -- a number that is written
  pub number_ready : (mark : ℕ) → 510 ≤ mark → (p : Numbers) → p ≡ numbers_of x → CanTake (sheet_area sheet) words x.marks p mark
  number_ready mark h = ready mark (sym (parsed_is mark) ∙ le-leb 510 mark h)

-- ---- what is handed back
module _ {A : Type 0} (code : A → Coded) (x : Raw) where
  took_hands : (o : Outcome (Took A)) (v : A) (m : List ℕ) (q : Numbers) → o ≡ took v (state_of m q) → Fine m q → length m ≡ 256
      → state_answer_of code (handed x o) ≡ some (state_with 0 0 (code v) (raw_of m q))
  unfolding took state_answer_of handed coded_or0
  took_hands o v m q e f l = rw (e, raw_back m q f l) refl

  refused_hands : (o : Outcome (Took A)) (n i : ℕ) → o ≡ refused (refuse n (some i))
      → state_answer_of code (handed x o) ≡ some (state_with n (i + 1) (coded 0 0 0) x)
  unfolding state_answer_of handed coded_or0
  refused_hands o n i e = rw (e, add-one i) refl

module _ (sheet words : List ℕ) (x : Raw) (p : Numbers) (e : p ≡ numbers_of x) (long : length x.marks ≡ 256) (m : List ℕ) (y : Raw) where
  module _ (t : Flag) (j : y ≡ raw_of m t.numbers) (f : ℕ) (yes : f ≡ yes_no t.found) (r : StateAnswer) (c : r ≡ state_with 0 0 (coded f 0 0) y) where
    module _ (mark : ℕ) where
      pub flag_hands : (n : Named) → TakesFlag mark (sheet_area sheet) words n x.marks p m t
          → TakeAnswer yes_code sheet words x (λ is. take_flag mark is n (from_raw x)) r
      unfolding state_of
      flag_hands n h = record {
        same = λ is i.
            let o = h.same is (rw e i) in
            took_hands yes_code x _ t.found m t.numbers (rw e at o) h.left.fine (h.left.long ∙ long) ∙ rw (c, j, yes) refl;
      }

      pub cmd_hands : (w : List ℕ) → TakesCmd mark (sheet_area sheet) words w x.marks p m t → mark ≡ command_mark
          → TakeAnswer yes_code sheet words x (λ is. take_cmd command_mark is w (from_raw x)) r
      unfolding state_of
      cmd_hands w h told = record {
        same = λ is i.
            let o = h.same is (rw e i) in
            let z : state_answer_of yes_code (handed x (take_cmd mark is w (from_raw x))) ≡ some r =
            took_hands yes_code x _ t.found m t.numbers (rw e at o) h.left.fine (h.left.long ∙ long) ∙ rw (c, j, yes) refl in
            subst (λ (k : ℕ). state_answer_of yes_code (handed x (take_cmd k is w (from_raw x))) ≡ some r) told z;
      }

  module _ (t : Argument) (j : y ≡ raw_of m t.numbers) (r : StateAnswer) (c : r ≡ value_answer t.value y x) where
    module _ (mark : ℕ) (n : Named) (adjacent : Bool) (h : TakesArg mark (sheet_area sheet) words n adjacent x.marks p m t) where
      module _ (is : List Item) (i : Items (sheet_area sheet) words (numbers_of x) is) where
        arg_same : take_arg mark is n adjacent (from_raw x) ≡ value_of (sheet_area sheet) m t.numbers t.value
        unfolding state_of
        arg_same = let o = h.same is (rw e i) in rw e at o

        arg_told : (v : Value) → t.value ≡ v → state_answer_of taken_code (handed x (take_arg mark is n adjacent (from_raw x))) ≡ some r
        arg_told (Ok None) k =
            took_hands taken_code x _ none m t.numbers (arg_same ∙ rw k refl) h.left.fine (h.left.long ∙ long) ∙ rw (c, j, k) refl
        arg_told (Ok (Some w)) k =
            took_hands taken_code x _ (some (record { place = w.place; text = part_bytes (sheet_area sheet) w.text })) m t.numbers (arg_same ∙ rw k refl)
            h.left.fine (h.left.long ∙ long)
            ∙ rw (c, j, k) refl
        arg_told (Err a) k = refused_hands taken_code x _ 22 a.key (arg_same ∙ rw k refl) ∙ rw (c, k) refl

      pub arg_hands : TakeAnswer taken_code sheet words x (λ is. take_arg mark is n adjacent (from_raw x)) r
      arg_hands = record { same = λ is i. arg_told is i t.value refl }

-- ---- the places that `take_arg` tells
abbrev Within : ℕ → Outcome (Took (Option Taken)) → Type 0
Within n (ok t) = (y : Taken) → t.answer ≡ some y → y.place < n
Within n (refused e) = (i : ℕ) → e.place ≡ some i → i < n
Within n (fault f) = Unit {0}

module _ (k : ℕ) (told : parsed k ≡ true) (is : List Item) (s : State) (g : Good (length is) s) where
  value_within : (key : ℕ) → Free s key → (o : Option Item) → get is s (suc key) ≡ o → Within (length is) (take_value k s key (value_text o))
  unfolding take_value value_text ◌>>=◌ took
  value_within key f none e = λ i h. subst (λ (j : ℕ). j < length is) (some-injective key i h) (free_below_lem (length is) s key g f)
  value_within key f (some x) e = go (value_text (some x))
    where
      next : suc key < length is
      next = free_below_lem (length is) s (suc key) g (get_free is s (suc key) x e)

      there : (t : List ℕ) → Within (length is) (take_value k s key (some t))
      there t =
          let a = remove_step k told (length is) (with_current (some (suc key)) s) key (current_good_lem (length is) s (suc key) g next) in
          let b = remove_step k told (length is) a.0 (suc key) a.2.good in
          rw (a.1, b.1) (λ y h. subst (λ (z : Taken). z.place < length is) (some-injective (record { place = suc key; text = t }) y h) next)

      go : (t : Option (List ℕ)) → Within (length is) (take_value k s key t)
      go none = λ i h. subst (λ (j : ℕ). j < length is) (some-injective key i h) (free_below_lem (length is) s key g f)
      go (some t) = there t

  arg_within : (n : Named) (adjacent : Bool) → Within (length is) (take_arg k is n adjacent s)
  unfolding take_arg took ◌>>=◌
  arg_within n adjacent = let f = find_good is (matches_arg n adjacent) s g in go f.0 f.1 f.2
    where
      go : (x : Option Found) → find is (matches_arg n adjacent) s ≡ ok x → Finds is (matches_arg n adjacent) s x → Within (length is) (take_arg k is n adjacent s)
      go none e h = rw e (λ y z. absurd (none-ne-some y z))
      go (some x) e h = rw e (value_within x.place h.free (get is s (suc x.place)) refl)

pub arg_small :
    (mark : ℕ) (area words : List ℕ) (n : Named) (adjacent : Bool) (m : List ℕ) (p : Numbers) (m' : List ℕ) (t : Argument)
    → CanTake area words m p mark
    → TakesArg mark area words n adjacent m p m' t
    → SmallValue t.value
unfolding took
arg_small mark area words n adjacent m p m' t q h = go t.value refl
  where
    within : Within (length q.items) (value_of area m' t.numbers t.value)
    within = subst (Within (length q.items)) (h.same q.items (q.table, q.same))
        (arg_within mark q.told q.items (state_of m p) (rw q.same q.fine.good) n adjacent)

    few : length q.items ≤ 256
    few = omega (arith, q.same, q.fine.small)

    go : (v : Value) → t.value ≡ v → SmallValue t.value
    go (Ok None) k = rw k tt
    go (Ok (Some v)) k = let w = rw k at within in rw k (omega (arith, few, w (record { place = v.place; text = part_bytes area v.text }) refl))
    go (Err a) k = let w = rw k at within in rw k (omega (arith, few, w a.key refl))

-- ---- `value_answer`
module _ (v : Value) where
  pub small_taken : (w : Word) → SmallValue v → v ≡ Ok (Some w) → w.place ≤ 256
  small_taken w h e = rw e at h

  pub small_refused : (k : NoArgument) → SmallValue v → v ≡ Err k → k.key ≤ 256
  small_refused k h e = rw e at h

  module _ (left x : Raw) (r : StateAnswer) where
    pub answer_missing : v ≡ Ok None → r ≡ state_with 0 0 (coded 0 0 0) left → r ≡ value_answer v left x
    answer_missing e h = rw e h

    pub answer_taken : (w : Word) → v ≡ Ok (Some w) → (n : ℕ) → n ≡ w.place → r ≡ state_with 0 0 (coded 1 n 0) left → r ≡ value_answer v left x
    answer_taken w e n f h = rw (e, ← f) h

    pub answer_refused : (k : NoArgument) → v ≡ Err k → r ≡ state_with 22 (k.key + 1) (coded 0 0 0) x → r ≡ value_answer v left x
    answer_refused k e h = rw e h

-- ---- `matches_arg`
pub matched_says :
    (sheet words : List ℕ) (i : ℕ) (n : Named) (adjacent found : Bool) (f : ℕ) (r : Answer)
    → ((x : Item) → item_from (sheet_area sheet) (record_at words i) ≡ some x → found ≡ matches_arg n adjacent x)
    → f ≡ yes_no found
    → r ≡ answer_with 0 0 (coded f 0 0)
    → TestAnswer sheet words i (matches_arg n adjacent) r
matched_says sheet words i n adjacent found f r h e c = record { same = λ x k. rw (c, e, h x k) refl }
