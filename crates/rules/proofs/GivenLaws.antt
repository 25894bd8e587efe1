-- How the tests of the input end.
use mathlib.Core.List.{List, []}
use mathlib.Core.Option.{Option, none}
use mathlib.Core.Bool.{true}
use mathlib.Core.Path.{◌≡◌, refl, ap, ◌∙◌}
use Prim.Native.Nat.{ℕ, ◌≤◌, ◌<◌}
use native.Mathlib.Omega.{arith}
use lib.ListN.{length}
use borrow.Author.Tests.{eq-eqb, ne_eqb, le-leb, lt-leb, le-ltb, lt-ltb}
use Rattle.rules.specs.Outcome.{Outcome, ok, refused, ◌>>=◌, refuse}
use Rattle.rules.specs.Sheet.{sheet_fault}
use Rattle.rules.specs.Accept.{Checked, accepted, refused_at, Accepted, length_good, check_form}
use Rattle.rules.specs.Codes.{check_code}
use Rattle.rules.specs.Given.{form_in, sheet_in, room_in, list_room_in, input_in}
use Rattle.rules.specs.Run.{split, run_line, refused_input, report, run}
use Rattle.rules.specs.Calls.{mark_in, split_refused, split_report, call_split}
use Rattle.rules.specs.State.{field_mark}
use Rattle.rules.specs.declared.Refused.{Refused}
use Rattle.rules.proofs.Acceptance.{accepted_length}
use Rattle.rules.proofs.WellMadeLaws.{check_numbers, well_made}

-- ---- the form check: number 0 is acceptance
module _ (b : List ℕ) (r : Refused) (e : r ≡ check_code (check_form b)) (z : r.number ≡ 0) where
  pub check_accepted : (a : Accepted) × (check_form b ≡ accepted a)
  check_accepted = go (check_form b) refl
    where
      go : (c : Checked Accepted) → check_form b ≡ c → (a : Accepted) × (check_form b ≡ accepted a)
      go (accepted a) h = (a, h)
      go (refused_at n k) h =
          let m : r.number ≡ n = ap (λ (x : Refused). x.number) (e ∙ ap check_code h) in
          let least = (check_numbers b n k h).0 in
          absurd (omega arith)

  pub check_length : length_good b ≡ true
  check_length = let (a, h) = check_accepted in accepted_length b a h

  pub check_eight : 8 ≤ length b
  check_eight = let (a, h) = check_accepted in omega (arith, (well_made b a h).counts.exact)

-- how a call goes on
pub form_passed : {A : Type 0} (b : List ℕ) (a : Accepted) (f : Accepted → Outcome A) → check_form b ≡ accepted a → (form_in b >>= f) ≡ f a
unfolding form_in ◌>>=◌
form_passed b a f h = rw (h, form_in)

-- ---- the tests before a run and a split
module _ (b s : List ℕ) (ni : ℕ) where
  -- 1 to 4
  module _ (n : ℕ) (k : Option ℕ) (form : check_form b ≡ refused_at n k) where
    pub input_form : input_in b s ni ≡ refused (record { number = n; place = k; missing = [] })
    unfolding input_in form_in ◌>>=◌
    input_form = rw (form, form_in)

    pub run_form : (na nl : ℕ) → run b s ni na nl ≡ ok (refused_input ni na nl n k)
    unfolding run ◌>>=◌
    run_form na nl = rw (input_form, run)

    pub split_form : call_split b s ni ≡ ok (split_refused ni n k)
    unfolding call_split
    split_form = rw (input_form, call_split)

  module _ (a : Accepted) (form : check_form b ≡ accepted a) where
    -- 6 and 5
    module _ (sheet : sheet_fault s ≡ 0 → ⊥) where
      pub input_sheet : input_in b s ni ≡ refused (refuse (sheet_fault s) none)
      unfolding input_in form_in sheet_in ◌>>=◌
      input_sheet = rw (form, form_in, ne_eqb (sheet_fault s) 0 sheet)

      pub run_sheet : (na nl : ℕ) → run b s ni na nl ≡ ok (refused_input ni na nl (sheet_fault s) none)
      unfolding run ◌>>=◌
      run_sheet na nl = rw (input_sheet, run)

      pub split_sheet : call_split b s ni ≡ ok (split_refused ni (sheet_fault s) none)
      unfolding call_split
      split_sheet = rw (input_sheet, call_split)

    module _ (sheet : sheet_fault s ≡ 0) where
      -- 7
      module _ (short : ni < 1792) where
        pub input_short : input_in b s ni ≡ refused (refuse 7 none)
        unfolding input_in form_in sheet_in room_in ◌>>=◌
        input_short = rw (form, form_in, eq-eqb (sheet_fault s) 0 sheet, lt-leb 1792 ni short)

        pub run_short : (na nl : ℕ) → run b s ni na nl ≡ ok (refused_input ni na nl 7 none)
        unfolding run ◌>>=◌
        run_short na nl = rw (input_short, run)

        pub split_short_lem : call_split b s ni ≡ ok (split_refused ni 7 none)
        unfolding call_split
        split_short_lem = rw (input_short, call_split)

      module _ (long : 1792 ≤ ni) where
        pub input_good : input_in b s ni ≡ ok a
        unfolding input_in form_in sheet_in room_in ◌>>=◌
        input_good = rw (form, form_in, eq-eqb (sheet_fault s) 0 sheet, le-leb 1792 ni long)

        pub split_goes : call_split b s ni ≡ (split a.form s >>= λ l. ok (split_report ni l))
        unfolding call_split
        split_goes = rw (input_good, call_split)

        pub run_cramped : (na nl : ℕ) → na < 8240 → run b s ni na nl ≡ ok (refused_input ni na nl 7 none)
        unfolding run room_in ◌>>=◌
        run_cramped na nl h = rw (input_good, run, lt-leb 8240 na h)

        -- 14
        pub run_unlisted : (na nl : ℕ) → 8240 ≤ na → nl < 192 → run b s ni na nl ≡ ok (refused_input ni na nl 14 none)
        unfolding run room_in list_room_in ◌>>=◌
        run_unlisted na nl h k = rw (input_good, run, le-leb 8240 na h, lt-leb 192 nl k)

        pub run_goes :
            (na nl : ℕ)
            → 8240 ≤ na
            → 192 ≤ nl
            → run b s ni na nl ≡ (split a.form s >>= λ l. report ni na nl l (run_line a.fields l))
        unfolding run room_in list_room_in ◌>>=◌
        run_goes na nl h k = rw (input_good, run, le-leb 8240 na h, le-leb 192 nl k)

-- ---- 28: the field that a take is told
module _ (fields k : ℕ) where
  pub no_field : fields ≤ k → mark_in fields k ≡ refused (refuse 28 none)
  unfolding mark_in
  no_field h = rw (le-ltb k fields h)

  pub field_there : k < fields → mark_in fields k ≡ ok (field_mark k)
  unfolding mark_in
  field_there h = rw (lt-ltb k fields h)
