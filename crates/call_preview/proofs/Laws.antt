-- The search for a place that was used, the one or two that there are, and what is handed back of a take.
use mathlib.Core.Bool.{Bool, true, false, ◌&&◌}
use mathlib.Core.List.{List, [], ◌∷◌}
use mathlib.Core.Logic.{◌⊎◌, inl, inr}
use mathlib.Core.Option.{some, none, some-injective, none-ne-some}
use mathlib.Core.Path.{◌≡◌, refl, sym, ap, ◌∙◌, subst}
use Prim.Native.Nat.{ℕ, zero, suc, ◌+◌, ◌-◌, ◌≤◌, ◌<◌}
use native.Mathlib.Numerals.{add-one}
use native.Mathlib.Omega.{arith}
use lib.ListN.{length, get_or, drop, drop_of_length-le}
use lib.Seq.{drop-cons}
use Rattle.std.specs.Prelude.{if◌then◌else◌}
use Rattle.rules.specs.Outcome.{Outcome, ok, refused, fault, ◌>>=◌}
use Rattle.rules.specs.State.{parsed, present}
use Rattle.rules.specs.Calls.{Called, call_take_flag, call_take_arg, call_take_positional, call_take_cmd}
use Rattle.rules.specs.declared.State.{State as Raw}
use Rattle.rules_preview.specs.Preview.{used_from, used_between, Previewed, previewed, preview_of, preview_flag, preview_arg, preview_positional, preview_cmd}
use Rattle.rules_preview.specs.PreviewAnswered.{Shows}
use Rattle.rules_preview.proofs.PreviewHolds.{preview_answered}
use Rattle.rules.proofs.SplitLaws.{ok_injective}
use Rattle.state_marks.specs.Lent.{first_or}
use Rattle.call_answers.specs.Answers.{Coded, coded_or0, state_answer_of, yes_code, taken_code, operand_code}
use Rattle.call_answers.specs.declared.StateAnswer.{StateAnswer}
use Rattle.call_preview.specs.Previews.{places_of, preview_with, preview_answer_of, Marks, FewUsed}
use Rattle.call_preview.specs.declared.Places.{Places}
use Rattle.call_preview.specs.declared.PreviewAnswer.{PreviewAnswer}

-- ---- the search
-- whether place i was used, and the places from i on that were
abbrev pub used_here : List ℕ → List ℕ → ℕ → Bool
used_here b a i = present (get_or b i 0) && parsed (get_or a i 0)

abbrev pub rest : List ℕ → List ℕ → ℕ → List ℕ
rest b a i = used_from i (drop i b) (drop i a)

-- by the mark before, and then by the mark after
pub not_present : (m u : ℕ) (x : Bool) → x ≡ present m → x ≡ false → x ≡ (present m && parsed u)
not_present m u x e h = h ∙ rw (← e, h)

pub then_parsed : (m u : ℕ) (x y : Bool) → x ≡ present m → x ≡ true → y ≡ parsed u → y ≡ (present m && parsed u)
then_parsed m u x y e h f = rw (← e, h, ← f)

-- no place from the first to this one
pub record Looking (b a : List ℕ) (from i : ℕ) : Type 0 where
  pub marks : Marks b a
  pub within : i ≤ 256
  pub same : first_or 256 (rest b a i) ≡ first_or 256 (rest b a from)

pub looking_first : (b a : List ℕ) (from : ℕ) → Marks b a → from ≤ 256 → Looking b a from from
looking_first b a from marks h = record { marks = marks; within = h; same = refl }

module _ (b a : List ℕ) (marks : Marks b a) where
  rest_step : (i : ℕ) → i < 256 → rest b a i ≡ (if used_here b a i then i ∷ rest b a (suc i) else rest b a (suc i))
  unfolding used_from
  rest_step i h = rw (drop-cons b i 0 (omega (arith, marks.given)), drop-cons a i 0 (omega (arith, marks.left)))

  rest_hit : (i : ℕ) → i < 256 → used_here b a i ≡ true → rest b a i ≡ i ∷ rest b a (suc i)
  rest_hit i h e = rw e at (rest_step i h)

  rest_miss : (i : ℕ) → i < 256 → used_here b a i ≡ false → rest b a i ≡ rest b a (suc i)
  rest_miss i h e = rw e at (rest_step i h)

  rest_end : (i : ℕ) → 256 ≤ i → rest b a i ≡ []
  unfolding used_from
  rest_end i h = rw (drop_of_length-le b {i = i} (omega (arith, marks.given)))

-- ---- the loop
module _ (b a : List ℕ) (from i : ℕ) (l : Looking b a from i) where
  pub looking_next : i < 256 → (x : Bool) → x ≡ used_here b a i → x ≡ false → Looking b a from (i + 1)
  looking_next h x e g = record {
    marks = l.marks;
    within = omega arith;
    same = rw (add-one i) (ap (first_or 256) (sym (rest_miss b a l.marks i h (sym e ∙ g))) ∙ l.same);
  }

  pub found_here : i < 256 → (x : Bool) → x ≡ used_here b a i → x ≡ true → i ≡ first_or 256 (rest b a from)
  unfolding first_or
  found_here h x e g = sym (ap (first_or 256) (rest_hit b a l.marks i h (sym e ∙ g))) ∙ l.same

  pub found_none : 256 ≤ i → 256 ≡ first_or 256 (rest b a from)
  unfolding first_or
  found_none h = sym (ap (first_or 256) (rest_end b a l.marks i h)) ∙ l.same

-- ---- what a search found
module _ (b a : List ℕ) (marks : Marks b a) where
  rest_case : (n i : ℕ) → i + n ≡ 256 → (rest b a i ≡ []) ⊎ ((r : ℕ) × (r < 256) × (rest b a i ≡ r ∷ rest b a (suc r)))
  rest_case zero i e = inl (rest_end b a marks i (omega arith))
  rest_case (suc n) i e = go (used_here b a i) refl (rest_case n (suc i) (omega arith))
    where
      go : (t : Bool) → used_here b a i ≡ t
          → (rest b a (suc i) ≡ []) ⊎ ((r : ℕ) × (r < 256) × (rest b a (suc i) ≡ r ∷ rest b a (suc r)))
          → (rest b a i ≡ []) ⊎ ((r : ℕ) × (r < 256) × (rest b a i ≡ r ∷ rest b a (suc r)))
      go true h later = inr (i, omega arith, rest_hit b a marks i (omega arith) h)
      go false h later = rw (rest_miss b a marks i (omega arith) h) later

  pub record Searched (i r : ℕ) : Type 0 where
    pub none : r ≡ 256 → rest b a i ≡ []
    pub some : (r ≡ 256 → ⊥) → rest b a i ≡ r ∷ rest b a (suc r)

  pub searched : (i r : ℕ) → i ≤ 256 → r ≡ first_or 256 (rest b a i) → Searched i r
  unfolding first_or
  searched i r h e = go (rest_case (256 - i) i (omega arith))
    where
      go : (rest b a i ≡ []) ⊎ ((r : ℕ) × (r < 256) × (rest b a i ≡ r ∷ rest b a (suc r))) → Searched i r
      go (inl z) =
          let y : r ≡ 256 = e ∙ ap (first_or 256) z in
          record { none = λ _. z; some = λ f. absurd (f y) }
      go (inr (k, l, z)) =
          let y : r ≡ k = e ∙ ap (first_or 256) z in
          record { none = λ f. absurd (omega arith); some = λ _. rw y z }

  -- ---- the places
  abbrev counted : ℕ → ℕ → ℕ → Places
  counted n x y = record { count = n; lower = x; upper = y }

  module _ (x : ℕ) (e : x ≡ first_or 256 (rest b a 0)) (low : x ≤ 256) where
    pub no_places : x ≡ 256 → counted 0 0 0 ≡ places_of (used_between b a)
    unfolding used_between
    no_places z = rw ((searched 0 x (omega arith) e).none z)

    module _ (some-place : x ≡ 256 → ⊥) (y : ℕ) (f : y ≡ first_or 256 (rest b a (x + 1))) where
      next : Searched (suc x) y
      next = searched (suc x) y (omega (arith, some-place)) (rw (add-one x) at f)

      pub one_place : y ≡ 256 → counted 1 x 0 ≡ places_of (used_between b a)
      unfolding used_between
      one_place z = rw ((searched 0 x (omega arith) e).some some-place, next.none z)

      pub two_places : (y ≡ 256 → ⊥) → length (used_between b a) ≤ 2 → counted 2 x y ≡ places_of (used_between b a)
      unfolding used_between
      two_places g few =
          let here : rest b a 0 ≡ x ∷ y ∷ rest b a (suc y) = (searched 0 x (omega arith) e).some some-place ∙ ap (λ (l : List ℕ). x ∷ l) (next.some g) in
          let none = ended (rest b a (suc y)) (omega (arith, ap length here, few)) in
          rw (here, none)
        where
          ended : (l : List ℕ) → length l ≡ 0 → l ≡ []
          ended [] h = refl
          ended (z ∷ l) h = absurd (omega (arith, h))

-- ---- what is handed back
abbrev with_places : StateAnswer → Places → PreviewAnswer
with_places a p = record {
  number = a.number;
  place = a.place;
  found = a.found;
  first = a.first;
  second = a.second;
  places = p.count;
  lower = p.lower;
  upper = p.upper;
  state = a.state;
}

pub made : (before : List ℕ) (a : StateAnswer) (p : Places) → p ≡ places_of (used_between before a.state.marks) → with_places a p ≡ preview_with before a
made before a p e = ap (with_places a) e

module _ {A : Type 0} (code : A → Coded) (x : Raw) where
  -- the preview of a take that was answered so
  told : (take : Outcome (Called A)) (r : StateAnswer) (p : PreviewAnswer) → state_answer_of code take ≡ some r → p ≡ preview_with x.marks r
      → preview_answer_of code (preview_of x take) ≡ some p
  unfolding state_answer_of preview_answer_of preview_of previewed coded_or0 ◌>>=◌
  told (ok c) r p e h = ap (λ (r : StateAnswer). some (preview_with x.marks r)) (some-injective _ r e) ∙ ap some (sym h)
  told (refused d) r p e h = absurd (none-ne-some r e)
  told (fault d) r p e h = absurd (none-ne-some r e)

  -- its places are few
  few_used : (take : Outcome (Called A)) (r : StateAnswer) → Shows x take (preview_of x take) → state_answer_of code take ≡ some r → FewUsed x r
  unfolding state_answer_of preview_of previewed ◌>>=◌
  few_used (ok c) r s e =
      subst (FewUsed x) (some-injective _ r e)
      (subst (λ (p : Previewed A). length p.places ≤ 2) (sym (ok_injective s.answered)) s.few)
  few_used (refused d) r s e = absurd (none-ne-some r e)
  few_used (fault d) r s e = absurd (none-ne-some r e)

-- ---- the four
module _ (sheet slice : List ℕ) (x : Raw) (r : StateAnswer) where
  module _ (j : ℕ) (e : state_answer_of operand_code (call_take_positional sheet slice x j) ≡ some r) where
    pub positional_few : FewUsed x r
    unfolding preview_positional
    positional_few = few_used operand_code x (call_take_positional sheet slice x j) r (preview_answered.positional sheet slice x j) e

    pub positional_told : (p : PreviewAnswer) → p ≡ preview_with x.marks r → preview_answer_of operand_code (preview_positional sheet slice x j) ≡ some p
    unfolding preview_positional
    positional_told p h = told operand_code x (call_take_positional sheet slice x j) r p e h

  module _ (form : List ℕ) (k : ℕ) where
    module _ (j : ℕ) (e : state_answer_of yes_code (call_take_flag form sheet slice x k j) ≡ some r) where
      pub flag_few : FewUsed x r
      unfolding preview_flag
      flag_few = few_used yes_code x (call_take_flag form sheet slice x k j) r (preview_answered.flag form sheet slice x k j) e

      pub flag_told : (p : PreviewAnswer) → p ≡ preview_with x.marks r → preview_answer_of yes_code (preview_flag form sheet slice x k j) ≡ some p
      unfolding preview_flag
      flag_told p h = told yes_code x (call_take_flag form sheet slice x k j) r p e h

    module _ (j : ℕ) (e : state_answer_of taken_code (call_take_arg form sheet slice x k j) ≡ some r) where
      pub arg_few : FewUsed x r
      unfolding preview_arg
      arg_few = few_used taken_code x (call_take_arg form sheet slice x k j) r (preview_answered.arg form sheet slice x k j) e

      pub arg_told : (p : PreviewAnswer) → p ≡ preview_with x.marks r → preview_answer_of taken_code (preview_arg form sheet slice x k j) ≡ some p
      unfolding preview_arg
      arg_told p h = told taken_code x (call_take_arg form sheet slice x k j) r p e h

    module _ (e : state_answer_of yes_code (call_take_cmd form sheet slice x k) ≡ some r) where
      pub cmd_few : FewUsed x r
      unfolding preview_cmd
      cmd_few = few_used yes_code x (call_take_cmd form sheet slice x k) r (preview_answered.cmd form sheet slice x k) e

      pub cmd_told : (p : PreviewAnswer) → p ≡ preview_with x.marks r → preview_answer_of yes_code (preview_cmd form sheet slice x k) ≡ some p
      unfolding preview_cmd
      cmd_told p h = told yes_code x (call_take_cmd form sheet slice x k) r p e h
