-- What `bench` reads: a form has at most 5,928 bytes and a sheet at most 33,284, so the byte behind 39,212 only says that the
-- input is too long, and what follows it changes nothing.
use mathlib.Core.Bool.{Bool, true, false}
use mathlib.Core.List.{List, ◌++◌}
use mathlib.Core.Option.{none}
use mathlib.Core.Path.{◌≡◌, refl, sym, ap, ◌∙◌}
use Prim.Native.Nat.{ℕ, ◌+◌, ◌≤◌, ◌<◌}
use native.Mathlib.Omega.{arith}
use borrow.Author.Tests.{le-leb, le-ltb, leb-true, leb-false}
use lib.Dec.{leb, ltb}
use lib.ListN.{length, take, drop, length-append, length-take, length-drop, take-append-drop}
use lib.Seq.{take_all, take-length, take-append-le, drop-append-le}
use Rattle.wire.specs.Wire.{le, number_at}
use Rattle.rules.specs.Outcome.{ok, ◌>>=◌}
use Rattle.rules.specs.Sheet.{argument_count, sheet_good, sheet_fault}
use Rattle.rules.specs.Form.{node_count, field_count, name_count, area_length, counts_good, nodes_at, names_at, area_at, form_length, form_end}
use Rattle.rules.specs.Accept.{Checked, accepted, refused_at, Accepted, length_good, check_form}
use Rattle.rules.specs.Given.{form_in, input_in}
use Rattle.rules.specs.Run.{refused_input, run}
use Rattle.rules.specs.Bench.{bench_text, bench}
use Rattle.rules.proofs.WellMadeLaws.{counts_limits}
use Rattle.rules.proofs.SheetLaws.{sheet_made, made_length}
use Rattle.rules.proofs.GivenLaws.{run_form, run_sheet}

number_append : (w : ℕ) (b c : List ℕ) (i : ℕ) → i + w ≤ length b → number_at w (b ++ c) i ≡ number_at w b i
unfolding number_at
number_append w b c i h =
    let rest = length-drop i b in
    ap (λ (l : List ℕ). le (take w l)) (drop-append-le i b c (omega arith)) ∙ ap le (take-append-le w (drop i b) c (omega arith))

-- ---- the sheet
-- 5: too long
too_long : (s : List ℕ) → 33284 < length s → ltb 256 (argument_count s) ≡ false → sheet_fault s ≡ 5
unfolding sheet_fault
too_long s h few = go (sheet_good s) refl
  where
    short : ltb (length s) 2 ≡ false
    short = le-ltb (length s) 2 (omega arith)

    go : (t : Bool) → sheet_good s ≡ t → sheet_fault s ≡ 5
    go true e = absurd (omega (arith, h, made_length s (sheet_made s (rw (short, few, e)))))
    go false e = rw (short, few, e)

-- 6 is read from the first two bytes
too_many_lem : (s : List ℕ) → 33284 < length s → ltb 256 (argument_count s) ≡ true → sheet_fault s ≡ 6
unfolding sheet_fault
too_many_lem s h many = rw (le-ltb (length s) 2 (omega arith), many)

module _ (s c : List ℕ) (h : 33284 < length s) where
  sheet_behind : (sheet_fault (s ++ c) ≡ sheet_fault s) × (0 < sheet_fault s)
  unfolding argument_count
  sheet_behind = go (ltb 256 (argument_count s)) refl
    where
      long : 33284 < length (s ++ c)
      long = omega (arith, h, length-append s c)

      same : argument_count (s ++ c) ≡ argument_count s
      same = number_append 2 s c 0 (omega (arith, h))

      go : (t : Bool) → ltb 256 (argument_count s) ≡ t → (sheet_fault (s ++ c) ≡ sheet_fault s) × (0 < sheet_fault s)
      go true e = (too_many_lem (s ++ c) long (ap (ltb 256) same ∙ e) ∙ sym (too_many_lem s h e), omega (arith, too_many_lem s h e))
      go false e = (too_long (s ++ c) long (ap (ltb 256) same ∙ e) ∙ sym (too_long s h e), omega (arith, too_long s h e))

  run_behind : (b : List ℕ) (ni na nl : ℕ) → run b (s ++ c) ni na nl ≡ run b s ni na nl
  run_behind b ni na nl = go (check_form b) refl
    where
      go : (o : Checked Accepted) → check_form b ≡ o → run b (s ++ c) ni na nl ≡ run b s ni na nl
      go (refused_at n k) e = run_form b (s ++ c) ni n k e na nl ∙ sym (run_form b s ni n k e na nl)
      go (accepted a) e =
          let (same, more) = sheet_behind in
          run_sheet b (s ++ c) ni a e (λ z. omega arith) na nl
          ∙ ap (λ (n : ℕ). ok (refused_input ni na nl n none)) same
          ∙ sym (run_sheet b s ni a e (λ z. omega arith) na nl)

-- ---- the form
module _ (b c : List ℕ) (h : 8 ≤ length b) where
  nodes_same : node_count (b ++ c) ≡ node_count b
  unfolding node_count
  nodes_same = number_append 2 b c 0 (omega arith)

  fields_same : field_count (b ++ c) ≡ field_count b
  unfolding field_count
  fields_same = number_append 2 b c 2 (omega arith)

  names_same : name_count (b ++ c) ≡ name_count b
  unfolding name_count
  names_same = number_append 2 b c 4 (omega arith)

  area_same : area_length (b ++ c) ≡ area_length b
  unfolding area_length
  area_same = number_append 2 b c 6 (omega arith)

  counts_same : counts_good (b ++ c) ≡ counts_good b
  unfolding counts_good
  counts_same =
      rw (nodes_same, fields_same, names_same, area_same, le-leb 8 (length b) h, le-leb 8 (length (b ++ c)) (omega (arith, h, length-append b c)))

  length_same : form_length (b ++ c) ≡ form_length b
  unfolding form_length area_at names_at nodes_at
  length_same = rw (nodes_same, fields_same, names_same, area_same)

form_most : (b : List ℕ) → counts_good b ≡ true → form_length b ≤ 5928
unfolding form_length area_at names_at nodes_at
form_most b e = let (nodes, fields, names, area) = counts_limits b e in omega arith

-- counts out of limits: all form, and 1
counts_bad : (b : List ℕ) → counts_good b ≡ false → bench b ≡ ok (bench_text (refused_input 1792 8240 192 1 none))
unfolding bench run form_end check_form length_good ◌>>=◌ input_in form_in
counts_bad b e = rw (e, take-length b, run, e)

module _ (b c : List ℕ) (h : length b ≡ 39213) where
  behind_form : counts_good b ≡ true → bench (b ++ c) ≡ bench b
  unfolding bench form_end ◌>>=◌
  behind_form e =
      let most = form_most b e in
      let k = form_length b in
      let rest = length-drop k b in
      rw (
        counts_same b c (omega arith),
        length_same b c (omega arith),
        e,
        le-leb k (length b) (omega arith),
        le-leb k (length (b ++ c)) (omega (arith, most, h, length-append b c)),
        take-append-le k b c (omega arith),
        drop-append-le k b c (omega arith),
        run_behind (drop k b) c (omega arith) (take k b) 1792 8240 192,
      )

  -- what stands behind the first 39,213 bytes changes nothing
  pub bench_behind : bench (b ++ c) ≡ bench b
  bench_behind = go (counts_good b) refl
    where
      go : (t : Bool) → counts_good b ≡ t → bench (b ++ c) ≡ bench b
      go true e = behind_form e
      go false e = counts_bad (b ++ c) (counts_same b c (omega arith) ∙ e) ∙ sym (counts_bad b e)

pub bench_first : (b : List ℕ) → bench (take 39213 b) ≡ bench b
bench_first b = go (leb (length b) 39213) refl
  where
    go : (t : Bool) → leb (length b) 39213 ≡ t → bench (take 39213 b) ≡ bench b
    go true e = ap bench (take_all 39213 b (leb-true (length b) 39213 e))
    go false e =
        let long = leb-false (length b) 39213 e in
        let size = length-take 39213 b in
        sym (bench_behind (take 39213 b) (drop 39213 b) (omega arith)) ∙ ap bench (take-append-drop 39213 b)
