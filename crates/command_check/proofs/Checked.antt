-- What the refusal of a table says to its caller: all forms are there, or the run of the table reports it.
use mathlib.Core.Bool.{Bool, true, false, ◌&&◌}
use mathlib.Core.List.{List, [], ◌∷◌}
use mathlib.Core.Logic.{◌⊎◌, inl, inr, ⊎_elim}
use mathlib.Core.Option.{some, none, some-injective, none-ne-some}
use mathlib.Core.Path.{◌≡◌, refl, sym, ap}
use Prim.Native.Nat.{ℕ, ◌≤◌}
use native.Mathlib.Omega.{arith}
use Rattle.rules.specs.Base.{all}
use Rattle.rules.specs.Outcome.{Outcome, ok, refused, fault, ◌>>=◌, Refusal, refuse}
use Rattle.rules.specs.Accept.{Checked, Accepted, accepted, refused_at, check_form}
use Rattle.rules.specs.Codes.{place_of}
use Rattle.rules.specs.Given.{form_in}
use Rattle.rules.specs.Run.{refused_input}
use Rattle.rules.specs.Commands.{offsets_good, table_entries, entry_good, Command, table_in, forms_in, table_forms, entry_at_fault, commands_in, run_commands}
use Rattle.rules.proofs.CodeLaws.{place_code_lem}
use Rattle.rules.proofs.InputFaults.{bind_ok}
use Rattle.rules.proofs.WellMadeLaws.{check_numbers}
use Rattle.command_layout.specs.Tables.{HasForms}
use Rattle.command_check.specs.declared.TableRefused.{TableRefused}
use Rattle.command_check.specs.Told.{table_told}

-- ---- outcomes that are refused
ok_not_refused : {A : Type 0} (a : A) (x : Refusal) → ok a ≡ refused x → ⊥
ok_not_refused a x e = let z : ◌≡◌ {A = ℕ} 0 1 = cc in omega arith

refused_same : {A : Type 0} (x y : Refusal) → ◌≡◌ {A = Outcome A} (refused x) (refused y) → x ≡ y
refused_same x y e = cc

refused_by :
    {A B : Type 0} (o : Outcome A) (f : A → Outcome B) (x : Refusal)
    → (o >>= f) ≡ refused x
    → (o ≡ refused x) ⊎ ((a : A) × (o ≡ ok a) × (f a ≡ refused x))
unfolding ◌>>=◌
refused_by (ok a) f x e = inr (a, refl, e)
refused_by (refused y) f x e = let same : y ≡ x = cc in inl (rw same)
refused_by (fault y) f x e = absurd (let z : ◌≡◌ {A = ℕ} 0 1 = cc in omega arith)

-- ---- no refusal of a table has number 0
form_number : (b : List ℕ) (x : Refusal) → form_in b ≡ refused x → 1 ≤ x.number
unfolding form_in
form_number b x e = go (check_form b) refl
  where
    go : (o : Checked Accepted) → check_form b ≡ o → 1 ≤ x.number
    go (accepted a) f = absurd (ok_not_refused a x (rw (f, form_in) at e))
    go (refused_at n k) f =
        let same : refuse n k ≡ x = refused_same (refuse n k) x (rw (f, form_in) at e) in
        rw (← same) (check_numbers b n k f).0

forms_number : (cs : List Command) (x : Refusal) → forms_in cs ≡ refused x → 1 ≤ x.number
unfolding forms_in
forms_number [] x e = absurd (ok_not_refused _ x e)
forms_number (c ∷ cs) x e =
    ⊎_elim
    (form_number c.form x)
    (λ (a, f, g). ⊎_elim (forms_number cs x) (λ (fs, h, i). absurd (ok_not_refused _ x i)) (refused_by (forms_in cs) _ x g))
    (refused_by (form_in c.form) _ x e)

module _ (t : List ℕ) where
  table_number : (x : Refusal) → table_in t ≡ refused x → 1 ≤ x.number
  unfolding table_in
  table_number x e = go (offsets_good t && all entry_good (table_entries t)) refl
    where
      go : (b : Bool) → (offsets_good t && all entry_good (table_entries t)) ≡ b → 1 ≤ x.number
      go true f = absurd (ok_not_refused _ x (rw f at e))
      go false f = let same = refused_same (refuse 11 none) x (rw f at e) in rw (← same) (omega arith)

  tests_number : (x : Refusal) → table_forms t ≡ refused x → 1 ≤ x.number
  tests_number x e = ⊎_elim (table_number x) (λ (cs, f, g). forms_number cs x g) (refused_by (table_in t) forms_in x e)

  -- the later tests are not made
  tests_refused : (x : Refusal) → table_forms t ≡ refused x → (s : List ℕ) (ni na nl : ℕ) → commands_in t s ni na nl ≡ refused x
  unfolding commands_in ◌>>=◌
  tests_refused x e s ni na nl = ⊎_elim (λ f. rw f) (λ (cs, f, g). rw (f, g)) (refused_by (table_in t) forms_in x e)

  module _ (r : TableRefused) (told : table_told (table_forms t) (entry_at_fault t) ≡ some r) where
    -- number 0: the names are good and the forms accepted
    pub check_good : r.number ≡ 0 → HasForms t
    unfolding table_told
    check_good z = go (table_forms t) refl
      where
        go : (o : Outcome (List Accepted)) → table_forms t ≡ o → HasForms t
        go (ok fs) e = let (cs, f, g) = bind_ok (table_in t) forms_in fs e in record { commands = cs; reads = f; forms = fs; accepts = g }
        go (refused x) e =
            let same : x.number ≡ r.number = ap (λ (y : TableRefused). y.number) (some-injective _ r (rw e at told)) in
            absurd (omega (arith, tests_number x e))
        go (fault x) e = absurd (none-ne-some r (rw e at told))

    -- any other: whatever else is given, the run of the table reports it
    pub check_bad :
        (r.number ≡ 0 → ⊥)
        → (s : List ℕ) (ni na nl : ℕ)
        → run_commands t s ni na nl
        ≡ ok (record { report = refused_input ni na nl r.number (place_of r.place); comparisons = 0; entry = place_of r.entry })
    unfolding table_told run_commands
    check_bad z s ni na nl = go (table_forms t) refl
      where
        go :
            (o : Outcome (List Accepted))
            → table_forms t ≡ o
            → run_commands t s ni na nl
            ≡ ok (record { report = refused_input ni na nl r.number (place_of r.place); comparisons = 0; entry = place_of r.entry })
        go (ok fs) e = absurd (z (sym (ap (λ (y : TableRefused). y.number) (some-injective _ r (rw e at told)))))
        go (refused x) e =
            let same = some-injective _ r (rw e at told) in
            rw (← same, place_code_lem x.place, place_code_lem (entry_at_fault t), tests_refused x e s ni na nl, run_commands)
        go (fault x) e = absurd (none-ne-some r (rw e at told))
