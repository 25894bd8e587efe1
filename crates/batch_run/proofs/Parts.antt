-- Parts of a slice: one that is written, and those of the first sheets.
use mathlib.Core.List.{List, [], ◌∷◌, ◌++◌}
use mathlib.Core.Path.{◌≡◌, refl, sym, ap, ◌∙◌}
use Prim.Native.Nat.{ℕ, ◌+◌, ◌-◌, ◌*◌, ◌≤◌, ◌<◌}
use native.Mathlib.Nat.{mul-add, mul-one, mul-le-mul_left}
use native.Mathlib.Omega.{arith}
use lib.ListN.{length, take, drop, length-append}
use borrow.Rule.Slice.PartMut.{mid_of, put_mid, Post-is, mid_len}
use Rattle.wire.specs.Wire.{entry_of}
use Rattle.rules.specs.Base.{concat_map}
use Rattle.rules.specs.Run.{Report}
use Rattle.rules.specs.Batch.{sheet_count, batch_sheets, run_sheets, sheet_record}
use Rattle.rules.specs.BatchAnswered.{Roomy}
use Rattle.rules.proofs.BatchSteps.{sheet_at, sheets_more, part_written}
use Rattle.rules.proofs.ConcatLaws.{concat_more}
use Rattle.rules.proofs.BatchLaws.{batch_made, parts_fit_lem}
use Rattle.run_fields.specs.declared.Reached.{Reached}
use Rattle.batch_check.specs.Sheets.{HasSheet}
use Rattle.batch_parts.specs.Parts.{PartFits, Replaced, reached_words}
use Rattle.batch_line.specs.Reported.{SheetReported}
use Rattle.batch_run.specs.Sheets.{PartReported, BatchFits, HoldsParts, SheetsRan}

pub next_part : (w k : ℕ) → w * (k + 1) ≡ w * k + w
next_part w k = omega (arith, mul-add w k 1, mul-one w)

-- ---- one part
module _ (w k : ℕ) (o : List ℕ) (h : PartFits w k o) (ys : List ℕ) (l : length ys ≡ length (mid_of (w * k) (w * k + w - w * k) o)) where
  pub part_long : length ys ≡ w
  part_long = omega (arith, l, mid_len (w * k) (w * k + w) o h.room)

  pub part_replaced : (q : List ℕ) → ys ≡ q → Replaced w k q o (put_mid (w * k) (w * k + w - w * k) o ys)
  part_replaced q e = record {
    long = ap length (sym e) ∙ part_long;
    words =
        ap (λ (z : List ℕ). take (w * k) o ++ (ys ++ z)) (Post-is (w * k) (w * k + w) o (omega arith))
        ∙ ap (λ (z : List ℕ). take (w * k) o ++ (z ++ drop (w * k + w) o)) e;
  }

-- the parts of a sheet, from what its run left in them
pub part_reported :
    (form sheet : List ℕ) (k : ℕ) (i a l x y z : List ℕ) (r : Reached)
    → PartFits 1792 k i
    → PartFits 8240 k a
    → PartFits 192 k l
    → length x ≡ length (mid_of (1792 * k) (1792 * k + 1792 - 1792 * k) i)
    → length y ≡ length (mid_of (8240 * k) (8240 * k + 8240 - 8240 * k) a)
    → length z ≡ length (mid_of (192 * k) (192 * k + 192 - 192 * k) l)
    → SheetReported form sheet x y z r
    → PartReported form sheet k
    i (put_mid (1792 * k) (1792 * k + 1792 - 1792 * k) i x)
    a (put_mid (8240 * k) (8240 * k + 8240 - 8240 * k) a y)
    l (put_mid (192 * k) (192 * k + 192 - 192 * k) l z) r
part_reported form sheet k i a l x y z r hi ha hl u v w t = record {
  report = t.report;
  runs = rw (part_long 1792 k i hi x u, part_long 8240 k a ha y v, part_long 192 k l hl z w) at t.runs;
  words = t.words;
  items = part_replaced 1792 k i hi x u t.report.items t.items;
  answers = part_replaced 8240 k a ha y v t.report.answers t.answers;
  list = part_replaced 192 k l hl z w t.report.list t.list;
}

-- ---- the first k
module _ (w k : ℕ) (words : Report → List ℕ) (rs : List Report) (o o' : List ℕ) (h : HoldsParts w k words rs o o') where
  pub holds_next : (r : Report) (o'' : List ℕ) → Replaced w k (words r) o' o'' → HoldsParts w (k + 1) words (rs ++ (r ∷ [])) o o''
  holds_next r o'' p = record {
    long =
        let a = length-append (concat_map words rs) (words r) in
        omega (arith, ap length (concat_more words rs r), a, h.long, p.long, next_part w k);
    same =
        p.words
        ∙ ap (λ (z : List ℕ). take (w * k) z ++ (words r ++ drop (w * k + w) z)) h.same
        ∙ part_written w k (concat_map words rs) o (words r) h.long p.long
        ∙ ap (λ (z : List ℕ). z ++ drop (w * (k + 1)) o) (sym (concat_more words rs r));
  }

pub holds_none : (w : ℕ) (words : Report → List ℕ) (o : List ℕ) → HoldsParts w 0 words [] o o
unfolding concat_map
holds_none w words o = let z : w * 0 ≡ 0 = omega arith in record { long = sym z; same = rw z }

pub none_ran : (form b r i a l : List ℕ) → SheetsRan form b 0 r r i i a a l l
unfolding run_sheets
none_ran form b r i a l = record {
  reports = [];
  runs = refl;
  records = holds_none 4 sheet_record r;
  items = holds_none 1792 (λ (x : Report). x.items) i;
  answers = holds_none 8240 (λ (x : Report). x.answers) a;
  list = holds_none 192 (λ (x : Report). x.list) l;
}

-- no slice changes its length
pub record LengthsKept (r r₁ i i₁ a a₁ l l₁ : List ℕ) : Type 0 where
  pub records : length r₁ ≡ length r
  pub items : length i₁ ≡ length i
  pub answers : length a₁ ≡ length a
  pub list : length l₁ ≡ length l

pub all_kept : (r i a l : List ℕ) → LengthsKept r r i i a a l l
all_kept r i a l = record { records = refl; items = refl; answers = refl; list = refl }

pub kept_on : (r r₁ r₂ i i₁ i₂ a a₁ a₂ l l₁ l₂ : List ℕ) → LengthsKept r r₁ i i₁ a a₁ l l₁
    → length r₂ ≡ length r₁ → length i₂ ≡ length i₁ → length a₂ ≡ length a₁ → length l₂ ≡ length l₁ → LengthsKept r r₂ i i₂ a a₂ l l₂
kept_on r r₁ r₂ i i₁ i₂ a a₁ a₂ l l₁ l₂ e x y z w =
    record { records = x ∙ e.records; items = y ∙ e.items; answers = z ∙ e.answers; list = w ∙ e.list }

module _ (b r i a l : List ℕ) (f : BatchFits b r i a l) (k n : ℕ) (same : n ≡ sheet_count b) (below : k < n) where
  roomy : Roomy (sheet_count b) (length r) (length i) (length a) (length l)
  roomy = parts_fit_lem (sheet_count b) (length r) (length i) (length a) (length l) f.room

  pub has_sheet : HasSheet b k
  has_sheet = record { good = f.good; below = omega (arith, same) }

  module _ (r₁ i₁ a₁ l₁ : List ℕ) (e : LengthsKept r r₁ i i₁ a a₁ l l₁) where
    part : (w : ℕ) (o o₁ : List ℕ) → w * sheet_count b ≤ length o → length o₁ ≡ length o → PartFits w k o₁
    part w o o₁ h p =
        let s : k + 1 ≤ sheet_count b = omega (arith, same) in
        record { below = omega (arith, same, (batch_made b f.good).count); room = omega (arith, mul-le-mul_left w s, next_part w k, h, p) }

    pub record_part_lem : PartFits 4 k r₁
    record_part_lem = part 4 r r₁ roomy.records e.records

    pub items_part : PartFits 1792 k i₁
    items_part = part 1792 i i₁ roomy.items e.items

    pub answers_part : PartFits 8240 k a₁
    answers_part = part 8240 a a₁ roomy.answers e.answers

    pub list_part : PartFits 192 k l₁
    list_part = part 192 l l₁ roomy.list e.list

  pub next_ran :
      (form r₁ i₁ a₁ l₁ : List ℕ)
      → SheetsRan form b k r r₁ i i₁ a a₁ l l₁
      → (x : Reached) (s i₂ a₂ l₂ r₂ : List ℕ)
      → s ≡ entry_of 4 (sheet_count b) b k
      → PartReported form s k i₁ i₂ a₁ a₂ l₁ l₂ x
      → Replaced 4 k (reached_words x) r₁ r₂
      → SheetsRan form b (k + 1) r r₂ i i₂ a a₂ l l₂
  next_ran form r₁ i₁ a₁ l₁ d x s i₂ a₂ l₂ r₂ e p q = record {
    reports = d.reports ++ (p.report ∷ []);
    runs = sheets_more form (batch_sheets b) k s d.reports p.report (rw e (sheet_at b k (omega (arith, same)))) d.runs p.runs;
    records = holds_next 4 k sheet_record d.reports r r₁ d.records p.report r₂ (rw (← p.words) q);
    items = holds_next 1792 k (λ (x : Report). x.items) d.reports i i₁ d.items p.report i₂ p.items;
    answers = holds_next 8240 k (λ (x : Report). x.answers) d.reports a a₁ d.answers p.report a₂ p.answers;
    list = holds_next 192 k (λ (x : Report). x.list) d.reports l l₁ d.list p.report l₂ p.list;
  }

-- behind the last sheet
pub all_ran : (form b : List ℕ) (n k : ℕ) (r r₁ i i₁ a a₁ l l₁ : List ℕ) → n ≡ sheet_count b → k ≤ n → n ≤ k
    → SheetsRan form b k r r₁ i i₁ a a₁ l l₁ → SheetsRan form b (sheet_count b) r r₁ i i₁ a a₁ l l₁
all_ran form b n k r r₁ i i₁ a a₁ l l₁ e h g d = let last : k ≡ sheet_count b = omega (arith, e) in rw last at d
