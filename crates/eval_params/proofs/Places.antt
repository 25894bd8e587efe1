-- The places that the takes name are places of items, so each of them fits a word.
use mathlib.Core.Bool.{Bool, true}
use mathlib.Core.List.{List}
use mathlib.Core.Option.{Option, some, none}
use mathlib.Core.Path.{◌≡◌, refl, ap, ◌∙◌}
use Prim.Native.Nat.{ℕ, suc, ◌<◌}
use native.Mathlib.Omega.{arith}
use lib.ListN.{length}
use Rattle.rules.specs.Outcome.{Outcome, ok, refused, fault, ◌>>=◌, refuse}
use Rattle.rules.specs.Tree.{Named}
use Rattle.rules.specs.Split.{Item}
use Rattle.rules.specs.State.{State, Found, parsed, get, find, remove, with_current}
use Rattle.rules.specs.Take.{Took, took, Taken, Operand, matches_arg, value_text, take_value, take_arg, is_operand, operand, take_positional_word}
use Rattle.rules.specs.Sound.{Good}
use Rattle.rules.proofs.StepLaws.{Free, Finds, find_good, free_below_lem, get_free, current_good_lem, remove_step}
use Rattle.state_marks.specs.declared.Numbers.{Numbers}
use Rattle.state_marks.specs.Lent.{state_of}
use Rattle.std.specs.Prelude.{Some, Ok, Err}
use Rattle.take.specs.declared.Word.{Word}
use Rattle.take.specs.declared.NoArgument.{NoArgument}
use Rattle.take.specs.declared.Argument.{Argument}
use Rattle.take.specs.declared.Operand.{Operand as TookOperand}
use Rattle.take.specs.declared.Positional.{Positional}
use Rattle.take_search.specs.States.{CanTake}
use Rattle.take.specs.Takes.{value_of, operand_of, TakesArg, TakesPositional}

bind_was : {A B : Type 0} (o : Outcome A) (f : A → Outcome B) (b : B) → (o >>= f) ≡ ok b → (a : A) × (f a ≡ ok b)
unfolding ◌>>=◌
bind_was (ok a) f b e = (a, e)
bind_was (refused x) f b e = absurd (let z : ◌≡◌ {A = ℕ} 0 1 = cc in omega arith)
bind_was (fault x) f b e = absurd (let z : ◌≡◌ {A = ℕ} 0 1 = cc in omega arith)

-- the place that an answer names
abbrev value_place : Outcome (Took (Option Taken)) → Option ℕ
value_place (ok t) = elim t.answer [ none ↦ none | some x ↦ some x.place ]
value_place (refused e) = e.place
value_place (fault x) = none

abbrev operand_place : Outcome (Took (Option Operand)) → Option ℕ
operand_place (ok t) = elim t.answer [ none ↦ none | some x ↦ some x.place ]
operand_place (refused e) = none
operand_place (fault x) = none

value_item : (o : Option Item) (t : List ℕ) → value_text o ≡ some t → (x : Item) × (o ≡ some x)
unfolding value_text
value_item none t e = absurd (let z : ◌≡◌ {A = ℕ} 0 1 = cc in omega arith)
value_item (some x) t e = (x, refl)

module _ (mark : ℕ) (is : List Item) (s : State) (g : Good (length is) s) where
  operand_below : (x : Operand) (u : State) → take_positional_word mark is s ≡ took (some x) u → x.place < length is
  unfolding take_positional_word took operand ◌>>=◌
  operand_below x u e = let f = find_good is is_operand s g in go f.0 f.1 f.2
    where
      go : (o : Option Found) → find is is_operand s ≡ ok o → Finds is is_operand s o → x.place < length is
      go none h k = absurd (let q = ap operand_place (rw h at e) in let z : ◌≡◌ {A = ℕ} 0 1 = cc in omega arith)
      go (some y) h k =
          let b = bind_was (remove mark (with_current (some y.place) s) y.place) _ _ (rw h at e) in
          let q = ap operand_place b.1 in
          let v : y.place ≡ x.place = cc in
          omega (arith, free_below_lem (length is) s y.place g k.free)

  module _ (told : parsed mark ≡ true) (n : Named) (adjacent : Bool) where
    value_below : (x : Taken) (u : State) → take_arg mark is n adjacent s ≡ took (some x) u → x.place < length is
    unfolding take_arg take_value took ◌>>=◌
    value_below x u e = let f = find_good is (matches_arg n adjacent) s g in go f.0 f.1 f.2
      where
        key : (y : Found) (o : Option (List ℕ)) → value_text (get is s (suc y.place)) ≡ o → take_value mark s y.place o ≡ took (some x) u
            → x.place < length is
        key y none v h = absurd (let z : ◌≡◌ {A = ℕ} 0 1 = cc in omega arith)
        key y (some t) v h =
            let i = value_item (get is s (suc y.place)) t v in
            let b = bind_was (remove mark (with_current (some (suc y.place)) s) y.place) _ _ h in
            let d = bind_was (remove mark b.0 (suc y.place)) _ _ b.1 in
            let q = ap value_place d.1 in
            let r : suc y.place ≡ x.place = cc in
            omega (arith, free_below_lem (length is) s (suc y.place) g (get_free is s (suc y.place) i.0 i.1))

        go : (o : Option Found) → find is (matches_arg n adjacent) s ≡ ok o → Finds is (matches_arg n adjacent) s o → x.place < length is
        go none h k = absurd (let q = ap value_place (rw h at e) in let z : ◌≡◌ {A = ℕ} 0 1 = cc in omega arith)
        go (some y) h k = key y (value_text (get is s (suc y.place))) refl (rw h at e)

    -- key and value are free to be used, so only a key without a value is refused
    key_below : (i : ℕ) → take_arg mark is n adjacent s ≡ refused (refuse 22 (some i)) → i < length is
    unfolding take_arg take_value took ◌>>=◌
    key_below i e = let f = find_good is (matches_arg n adjacent) s g in go f.0 f.1 f.2
      where
        key : (y : Found) → Free s y.place → (o : Option (List ℕ)) → value_text (get is s (suc y.place)) ≡ o
            → take_value mark s y.place o ≡ refused (refuse 22 (some i)) → i < length is
        key y f none v h = let q = ap value_place h in let w : y.place ≡ i = cc in omega (arith, free_below_lem (length is) s y.place g f)
        key y f (some t) v h =
            let x = value_item (get is s (suc y.place)) t v in
            let l = free_below_lem (length is) s (suc y.place) g (get_free is s (suc y.place) x.0 x.1) in
            let a = remove_step mark told (length is) (with_current (some (suc y.place)) s) y.place (current_good_lem (length is) s (suc y.place) g l) in
            let b = remove_step mark told (length is) a.0 (suc y.place) a.2.good in
            let q = rw (a.1, b.1) at h in
            absurd (let z : ◌≡◌ {A = ℕ} 0 1 = cc in omega arith)

        go : (o : Option Found) → find is (matches_arg n adjacent) s ≡ ok o → Finds is (matches_arg n adjacent) s o → i < length is
        go none h k = absurd (let q = ap value_place (rw h at e) in let z : ◌≡◌ {A = ℕ} 0 1 = cc in omega arith)
        go (some y) h k = key y k.free (value_text (get is s (suc y.place))) refl (rw h at e)

-- ---- of the takes on lent marks

module _ (mark : ℕ) (area words m : List ℕ) (p : Numbers) (g : CanTake area words m p mark) (m' : List ℕ) where
  good : Good (length g.items) (state_of m p)
  good = rw g.same g.fine.good

  below : (i : ℕ) → i < length g.items → i < 256
  below i h = omega (arith, g.same, g.fine.small)

  pub operand_place_lem : (r : Positional) → TakesPositional mark area words m p m' r
      → (w : TookOperand) → r.operand ≡ Some w → w.place < 256
  operand_place_lem r d w e =
      let k = d.same g.items (g.table, g.same) ∙ ap (operand_of area m' r.numbers) e in
      below w.place (operand_below mark g.items (state_of m p) good _ _ k)

  module _ (n : Named) (adjacent : Bool) (r : Argument) (d : TakesArg mark area words n adjacent m p m' r) where
    pub value_place_lem : (w : Word) → r.value ≡ Ok (Some w) → w.place < 256
    value_place_lem w e =
        let k = d.same g.items (g.table, g.same) ∙ ap (value_of area m' r.numbers) e in
        below w.place (value_below mark g.items (state_of m p) good g.told n adjacent _ _ k)

    pub key_place : (k : NoArgument) → r.value ≡ Err k → k.key < 256
    key_place i e =
        let k = d.same g.items (g.table, g.same) ∙ ap (value_of area m' r.numbers) e in
        below i.key (key_below mark g.items (state_of m p) good g.told n adjacent i.key k)
