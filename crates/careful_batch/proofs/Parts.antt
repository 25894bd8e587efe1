-- Record and parts of one sheet, and those of the first sheets.
use mathlib.Core.Bool.{false}
use mathlib.Core.List.{List, [], ◌∷◌, ◌++◌, append_assoc}
use mathlib.Core.Path.{◌≡◌, refl, sym, ap, ◌∙◌}
use Prim.Native.Nat.{ℕ, zero, suc, ◌+◌, ◌-◌, ◌*◌, ◌≤◌, ◌<◌}
use native.Mathlib.Omega.{arith}
use lib.Dec.{eqb, lit<}
use lib.ListN.{length, get_or, take, drop, set, replicate, length-replicate, length-append, length-drop, take-append-drop, replicate-append-replicate}
use lib.Seq.{sets, sets-eq, set-get_or, get_or-set_other, get_or-take, get_or-drop, drop-drop, drop_at, length-take-le}
use borrow.Author.Tests.{ne_eqb}
use Rattle.rules.specs.Outcome.{ok, ◌>>=◌}
use Rattle.rules.specs.Run.{Report, padded}
use Rattle.rules.specs.Batch.{sheet_record}
use Rattle.rules.specs.BatchAnswered.{slice_part}
use Rattle.rules_careful.specs.Careful.{refused_word, careful}
use Rattle.rules.proofs.SplitLaws.{ok_injective}
use Rattle.rules.proofs.InputFaults.{padded_nil}
use Rattle.rules.proofs.Demand1Holds.{demand1}
use Rattle.rules_careful.specs.CarefulBatch.{careful_sheet}
use Rattle.rules_careful.proofs.PaddedLaws.{run_padded}
use Rattle.batch_parts.specs.Parts.{PartFits, Replaced}
use Rattle.careful_batch.specs.Looked.{RunIs, HasRun, looked_report, MisreadTold, refused_words, HoldsWords, PartRan, HasPart, SheetLooked, LookedPart}

-- ---- a part of a slice
part_word : (w k : ℕ) (o q : List ℕ) → slice_part w k o ≡ q → (j : ℕ) → j < w → get_or o (w * k + j) 0 ≡ get_or q j 0
part_word w k o q e j h =
    sym (get_or-drop (w * k) o j 0) ∙ sym (get_or-take w (drop (w * k) o) j 0 h) ∙ ap (λ (l : List ℕ). get_or l j 0) e

-- a part that stays is replaced by itself
part_stays : (w k : ℕ) (o q : List ℕ) → PartFits w k o → slice_part w k o ≡ q → Replaced w k q o o
part_stays w k o q f e = record {
  long = ap length (sym e) ∙ length-take-le w (drop (w * k) o) (omega (arith, f.room, length-drop (w * k) o));
  words =
      sym (take-append-drop (w * k) o)
      ∙ ap (λ (l : List ℕ). take (w * k) o ++ l) (sym (take-append-drop w (drop (w * k) o)))
      ∙ ap (λ (l : List ℕ). take (w * k) o ++ (slice_part w k o ++ l)) (drop-drop w (w * k) o)
      ∙ ap (λ (l : List ℕ). take (w * k) o ++ (l ++ drop (w * k + w) o)) e;
}

-- a part that is words and then 0 is all 0 once they are cleared
cleared_part : (w k : ℕ) (o o' l : List ℕ) → PartFits w k o → length l ≤ w → slice_part w k o ≡ padded w l
    → o' ≡ sets o (w * k) (replicate (length l) 0) → Replaced w k (replicate w 0) o o'
unfolding padded
cleared_part w k o o' l f few part e =
    let n = length l in
    let m = w - n in
    let zeros = replicate {A = ℕ} n 0 in
    let tail = drop (w * k + w) o in
    let many : length zeros ≡ n = length-replicate {A = ℕ} n 0 in
    let all : n + m ≡ w = omega arith in
    let behind : drop (w * k) o ≡ l ++ (replicate m 0 ++ tail) =
    sym (take-append-drop w (drop (w * k) o))
    ∙ ap (λ (z : List ℕ). slice_part w k o ++ z) (drop-drop w (w * k) o)
    ∙ ap (λ (z : List ℕ). z ++ tail) part
    ∙ append_assoc l (replicate m 0) tail in
    let rest : drop (w * k + n) o ≡ replicate m 0 ++ tail =
    sym (drop-drop n (w * k) o) ∙ ap (λ (z : List ℕ). drop n z) behind ∙ drop_at l (replicate m 0 ++ tail) n refl in
    record {
      long = length-replicate {A = ℕ} w 0;
      words =
          e
          ∙ sets-eq zeros o (w * k) (omega (arith, many, few, f.room))
          ∙ append_assoc (take (w * k) o) zeros (drop (w * k + length zeros) o)
          ∙ ap (λ (j : ℕ). take (w * k) o ++ (zeros ++ drop (w * k + j) o)) many
          ∙ ap (λ (z : List ℕ). take (w * k) o ++ (zeros ++ z)) rest
          ∙ ap (λ (z : List ℕ). take (w * k) o ++ z) (sym (append_assoc zeros (replicate m 0) tail))
          ∙ ap (λ (z : List ℕ). take (w * k) o ++ (z ++ tail)) (replicate-append-replicate {A = ℕ} n m 0)
          ∙ ap (λ (j : ℕ). take (w * k) o ++ (replicate j 0 ++ tail)) all;
    }

pub words_cleared : (k : ℕ) (r a a' : List ℕ) (n : ℕ) → PartFits 8240 k a → HoldsWords k r a → n ≡ get_or r (4 * k + 3) 0
    → a' ≡ sets a (8240 * k) (replicate n 0) → Replaced 8240 k (replicate 8240 0) a a'
words_cleared k r a a' n f h e d =
    let size : n ≡ length h.words = e ∙ h.count in
    cleared_part 8240 k a a' h.words f h.few h.part (d ∙ ap (λ (j : ℕ). sets a (8240 * k) (replicate j 0)) size)

record_written :
    (k n p t w : ℕ) (o o' : List ℕ)
    → PartFits 4 k o
    → o' ≡ set (set (set (set o (4 * k) n) (4 * k + 1) p) (4 * k + 2) t) (4 * k + 3) w
    → Replaced 4 k (n ∷ p ∷ t ∷ w ∷ []) o o'
record_written k n p t w o o' f e =
    let one : 4 * k + 1 ≡ suc (4 * k) = omega arith in
    let two : 4 * k + 2 ≡ suc (suc (4 * k)) = omega arith in
    let three : 4 * k + 3 ≡ suc (suc (suc (4 * k))) = omega arith in
    let words = n ∷ p ∷ t ∷ w ∷ [] in
    record {
      long = refl;
      words = (rw (one, two, three) at e) ∙ sets-eq words o (4 * k) f.room ∙ append_assoc (take (4 * k) o) words (drop (4 * k + 4) o);
    }

-- three words of a record are written, and its tries stay
pub record_refused :
    (k place n : ℕ) (o o' : List ℕ)
    → n ≡ 50
    → PartFits 4 k o
    → o' ≡ set (set (set o (4 * k) n) (4 * k + 1) place) (4 * k + 3) 0
    → Replaced 4 k (refused_words k place o) o o'
record_refused k place n o o' g f h =
    let e = rw g at h in
    let at = 4 * k in
    let first = set o at 50 in
    let both = set first (at + 1) place in
    let tries : get_or both (at + 2) 0 ≡ get_or o (at + 2) 0 =
    get_or-set_other first (at + 1) (at + 2) place 0 (λ z. omega arith) ∙ get_or-set_other o at (at + 2) 50 0 (λ z. omega arith) in
    let kept : set both (at + 2) (get_or o (at + 2) 0) ≡ both = ap (λ (t : ℕ). set both (at + 2) t) (sym tries) ∙ set-get_or both (at + 2) 0 in
    record_written k 50 place (get_or o (at + 2) 0) 0 o o' f (e ∙ ap (λ (l : List ℕ). set l (at + 3) 0) (sym kept))

-- ---- one sheet
module _ (s : List ℕ) (k : ℕ) (r i a : List ℕ) where
  -- its number, its tries and its count of words
  number_is : (form : List ℕ) (x : Report) → PartRan s k r i a form x → get_or r (4 * k) 0 ≡ x.number
  unfolding sheet_record
  number_is form x p =
      let z : 4 * k ≡ 4 * k + 0 = omega arith in
      ap (λ (j : ℕ). get_or r j 0) z ∙ part_word 4 k r (sheet_record x) p.words 0 (lit< tt)

  tries_is : (form : List ℕ) (x : Report) → PartRan s k r i a form x → get_or r (4 * k + 2) 0 ≡ x.tries
  unfolding sheet_record
  tries_is form x p = part_word 4 k r (sheet_record x) p.words 2 (lit< tt)

  words_is : (form : List ℕ) (x : Report) → PartRan s k r i a form x → get_or r (4 * k + 3) 0 ≡ length x.words
  unfolding sheet_record
  words_is form x p = part_word 4 k r (sheet_record x) p.words 3 (lit< tt)

  module _ (h : HasPart s k r i a) where
    pub holds_words : HoldsWords k r a
    unfolding padded
    holds_words =
        let x = h.report in
        let shape = run_padded h.form s 1792 8240 192 x h.ran.runs in
        let d = demand1 h.form s 1792 8240 192 in
        let long : length x.answers ≡ 8240 = ap (λ (y : Report). length y.answers) (sym (ok_injective (sym d.answered ∙ h.ran.runs))) ∙ d.answers in
        let whole = length-append x.words (replicate {A = ℕ} (8240 - length x.words) 0) in
        record {
          words = x.words;
          few = omega (arith, whole, ap length shape, long);
          count = words_is h.form x h.ran;
          part = h.ran.answers ∙ shape;
        }

    stays : (form : List ℕ) (x : Report) → PartRan s k r i a form x → careful_sheet form s ≡ ok x → SheetLooked s k r r a a form
    stays form x p e = record {
      report = x;
      runs = e;
      records = part_stays 4 k r (sheet_record x) h.record_fits p.words;
      answers = part_stays 8240 k a x.answers h.answers_fit p.answers;
    }

    pub refused_stays : (get_or r (4 * k) 0 ≡ 0 → ⊥) → LookedPart s k r r i a a
    unfolding careful_sheet careful ◌>>=◌
    refused_stays n = record {
      same = λ form x p.
          let other : eqb x.number 0 ≡ false = ne_eqb x.number 0 (λ z. n (number_is form x p ∙ z)) in
          stays form x p (rw (p.runs, other));
    }

    module _ (fine : get_or r (4 * k) 0 ≡ 0) where
      -- part k of the items, as it is lent
      abbrev lent : List ℕ
      lent = take (1792 * k + 1792 - 1792 * k) (drop (1792 * k) i)

      run_is : (form : List ℕ) (x : Report) → PartRan s k r i a form x → RunIs s lent form x
      run_is form x p =
          let size : 1792 * k + 1792 - 1792 * k ≡ 1792 = omega arith in
          record {
            runs = p.runs;
            fine = sym (number_is form x p) ∙ fine;
            items = ap (λ (n : ℕ). take n (drop (1792 * k) i)) size ∙ p.items;
          }

      pub has_run : HasRun s lent
      has_run = record { form = h.form; report = h.report; ran = run_is h.form h.report h.ran }

      module _ (place : ℕ) (t : MisreadTold s lent place) where
        pub clean_stays : place ≡ 0 → LookedPart s k r r i a a
        unfolding looked_report
        clean_stays z = record { same = λ form x p. stays form x p ((rw z at t).same form x (run_is form x p)) }

        pub misread_looked :
            (place ≡ 0 → ⊥)
            → (r' a' : List ℕ)
            → Replaced 4 k (refused_words k place r) r r'
            → Replaced 8240 k (replicate 8240 0) a a'
            → LookedPart s k r r' i a a'
        unfolding looked_report sheet_record refused_word
        misread_looked n r' a' q e = go place refl
          where
            go : (m : ℕ) → place ≡ m → LookedPart s k r r' i a a'
            go zero z = absurd (n z)
            go (suc j) z = record {
              same = λ form x p. record {
                report = refused_word 8240 192 x j;
                runs = (rw z at t).same form x (run_is form x p);
                records = rw (z, tries_is form x p) at q;
                answers = rw (padded_nil 8240) e;
              };
            }
