-- A line whose items are counted, and then looked at.
use mathlib.Core.Bool.{Bool, true, false, not}
use mathlib.Core.List.{List, [], ◌∷◌, ◌++◌}
use mathlib.Core.Option.{Option, some, none}
use mathlib.Core.Path.{◌≡◌, refl, sym, ap, subst, ◌∙◌}
use Prim.Native.Nat.{ℕ, zero, suc, ◌+◌, ◌-◌, ◌*◌, ◌/◌, ◌≤◌, ◌<◌}
use native.Mathlib.Omega.{arith}
use lib.Dec.{eqb, ltb, lit<}
use lib.ListN.{length, get_or, take, drop, replicate}
use lib.Seq.{get_or-take, get_or-drop, length-take-le}
use borrow.Author.Tests.{eq-eqb, ne_eqb, eqb-true, ltb-true, ltb-false}
use Rattle.std.proofs.lemmas.Bool.{not-true, not-false, eqb-false}
use Rattle.std.specs.List.Sorted.{IsPartitionedBy, IsPartitionPoint}
use Rattle.std.specs.Simd.{first_chunks}
use Rattle.std.specs.Prelude.{if◌then◌else◌}
use Rattle.rules.specs.Outcome.{ok, ◌>>=◌}
use Rattle.rules.specs.Sheet.{sheet_area, arguments}
use Rattle.rules.specs.Form.{read_form}
use Rattle.rules.specs.Accept.{letters_of}
use Rattle.rules.specs.Split.{Item, items_of}
use Rattle.rules.specs.Run.{Report, padded}
use Rattle.rules.specs.Calls.{item_from}
use Rattle.rules_careful.specs.Careful.{first_misread, refused_word, look_at, careful}
use Rattle.rules.proofs.Acceptance.{lookup_some}
use Rattle.rules.proofs.SplitLaws.{some≢none, ok_injective}
use Rattle.rules.proofs.Demand1Holds.{demand1}
use Rattle.rules_careful.proofs.LooksLaws.{RanLine, accepted_line}
use Rattle.rules_careful.specs.CarefulBatch.{careful_sheet}
use Rattle.careful_words.specs.Looking.{LineIs, HasLine, Finds}
use Rattle.careful.proofs.Lines.{ran_line}
use Rattle.careful_batch.specs.Looked.{CountsItems, KindsFirst, RunIs, HasRun, looked_report, MisreadTold}

-- ---- counting
-- whether a record has a kind
abbrev pub has_kind : List ℕ → Bool
has_kind w = not (eqb (get_or w 0 0) 0)

-- record j begins at word 7 * j
chunk_at : (k : ℕ) (xs : List ℕ) (j : ℕ) (d : List ℕ) → j < k → get_or (get_or (first_chunks 7 k xs) j d) 0 0 ≡ get_or xs (7 * j) 0
chunk_at zero xs j d h = absurd (omega arith)
chunk_at (suc k) xs zero d h = get_or-take 7 xs 0 0 (lit< tt)
chunk_at (suc k) xs (suc j) d h =
    let next : 7 + 7 * j ≡ 7 * suc j = omega arith in
    chunk_at k (drop 7 xs) j d (omega arith) ∙ get_or-drop 7 xs (7 * j) 0 ∙ ap (λ (i : ℕ). get_or xs i 0) next

-- the chunks of a slice's first 1792 words are its records
module _ (words : List ℕ) (g : KindsFirst words) (records : List (List ℕ)) (chunks : records ≡ first_chunks 7 (length (take 1792 words) / 7) (take 1792 words)) where
  many : length (take 1792 words) / 7 ≡ 256
  many = let long = length-take-le 1792 words g.room in omega arith

  kind_at : (j : ℕ) (d : List ℕ) → j < 256 → get_or (get_or records j d) 0 0 ≡ get_or words (7 * j) 0
  kind_at j d h =
      rw chunks (chunk_at (length (take 1792 words) / 7) (take 1792 words) j d (omega (arith, many))) ∙ get_or-take 1792 words (7 * j) 0 (omega arith)

  module _ (size : length records ≡ length (take 1792 words) / 7) where
    pub kinds_parted : IsPartitionedBy has_kind records
    kinds_parted i j d o l h =
        let last : j < 256 = omega (arith, many) in
        let some_kind = eqb-false _ 0 (not-true _ h) in
        ap not (ne_eqb _ 0 (λ e. some_kind (kind_at j d last ∙ g.past i j o last (sym (kind_at i d (omega arith)) ∙ e))))

    pub counted : (r : ℕ) → r ≤ length records → IsPartitionPoint (λ (w : List ℕ). has_kind w ≡ true) (λ (w : List ℕ). has_kind w ≡ false) records r → CountsItems words r
    counted r h p = record {
      few = omega (arith, many);
      kinds = λ j l z. eqb-false _ 0 (not-true _ (p.0 j [] (omega arith) l)) (kind_at j [] (omega (arith, many)) ∙ z);
      ends = λ l. sym (kind_at r [] l) ∙ eqb-true _ 0 (not-false _ (p.1 r [] (omega arith) (omega (arith, many))));
    }

-- a record with no kind is no item
no_kind : (area w : List ℕ) → get_or w 0 0 ≡ 0 → item_from area w ≡ none
unfolding item_from
no_kind area w z = rw z

all_zeros : (n k : ℕ) → ◌≡◌ {A = ℕ} (get_or (replicate n 0) k 0) 0
all_zeros zero k = refl
all_zeros (suc n) zero = refl
all_zeros (suc n) (suc k) = all_zeros n k

-- past the words of a padded slice all is 0
zeros_past : (l : List ℕ) (n k : ℕ) → length l ≤ k → get_or (l ++ replicate n 0) k 0 ≡ 0
zeros_past [] n k h = all_zeros n k
zeros_past (x ∷ l) n zero h = absurd (omega arith)
zeros_past (x ∷ l) n (suc k) h = zeros_past l n k (omega arith)

padded_past : (n : ℕ) (l : List ℕ) (k : ℕ) → length l ≤ k → get_or (padded n l) k 0 ≡ 0
unfolding padded
padded_past n l k h = zeros_past l (n - length l) k h

-- ---- an accepted run
module _ (s i form : List ℕ) (x : Report) (u : RunIs s i form x) where
  abbrev accepted : RanLine (letters_of (read_form form)) s 1792 x
  accepted = (accepted_line form s 1792 8240 192 x u.runs u.fine).line

  abbrev size : ℕ
  size = length (items_of accepted.given)

  run_line_lem : LineIs s i size (letters_of (read_form form)) accepted.given
  run_line_lem =
      subst (λ (w : List ℕ). LineIs s w size (letters_of (read_form form)) accepted.given) (sym u.items)
      (ran_line (letters_of (read_form form)) s 1792 x accepted)

  -- an item has a kind
  has_kind_lem : (j : ℕ) → j < size → get_or i (7 * j) 0 ≡ 0 → ⊥
  has_kind_lem j h z =
      let (y, e) = lookup_some (items_of accepted.given) j h in
      let w = take 7 (drop (7 * j) i) in
      let same : 7 * j + 0 ≡ 7 * j = omega arith in
      let kind : get_or w 0 0 ≡ get_or i (7 * j) 0 =
      get_or-take 7 (drop (7 * j) i) 0 0 (lit< tt) ∙ get_or-drop (7 * j) i 0 0 ∙ ap (λ (k : ℕ). get_or i k 0) same in
      some≢none (sym (run_line_lem.table.at j y e) ∙ no_kind (sheet_area s) w (kind ∙ z))

  -- behind the last stands none
  none_past : (k : ℕ) → size ≤ k → get_or i (7 * k) 0 ≡ 0
  none_past k h =
      let long : length accepted.line.records ≡ 7 * size = accepted.good.records ∙ ap (λ (is : List Item). 7 * length is) accepted.items in
      ap (λ (w : List ℕ). get_or w (7 * k) 0) (u.items ∙ accepted.records) ∙ padded_past 1792 accepted.line.records (7 * k) (omega (arith, long))

  kinds_past : (j k : ℕ) → j ≤ k → get_or i (7 * j) 0 ≡ 0 → get_or i (7 * k) 0 ≡ 0
  kinds_past j k h z = go (ltb j size) refl
    where
      go : (a : Bool) → ltb j size ≡ a → get_or i (7 * k) 0 ≡ 0
      go true a = absurd (has_kind_lem j (ltb-true j size a) z)
      go false a = let p = ltb-false j size a in none_past k (omega arith)

  module _ (count : ℕ) (c : CountsItems i count) where
    counts_all : size ≡ count
    counts_all = go (ltb count size) refl (ltb size count) refl
      where
        go : (a : Bool) → ltb count size ≡ a → (b : Bool) → ltb size count ≡ b → size ≡ count
        go true a b d =
            let less = ltb-true count size a in
            absurd (has_kind_lem count less (c.ends (omega (arith, run_line_lem.few))))
        go false a true d = absurd (c.kinds size (ltb-true size count d) (none_past size (omega arith)))
        go false a false d = let p = ltb-false count size a in let q = ltb-false size count d in omega arith

    counted_line : LineIs s i count (letters_of (read_form form)) accepted.given
    counted_line = rw counts_all at run_line_lem

    looked :
        (p : ℕ)
        → Finds s i 0 count p
        → (f : Option ℕ)
        → (if eqb p count then none else some p) ≡ f
        → careful_sheet form s ≡ ok (elim f [ none ↦ x | some j ↦ refused_word 8240 192 x j ])
    unfolding careful_sheet careful look_at ◌>>=◌
    looked p h none e =
        let found : first_misread 0 (arguments s) accepted.given.groups ≡ none = h.same (letters_of (read_form form)) accepted.given counted_line ∙ e in
        rw (u.runs, eq-eqb x.number 0 u.fine, accepted.grouped, found, look_at)
    looked p h (some j) e =
        let found : first_misread 0 (arguments s) accepted.given.groups ≡ some j = h.same (letters_of (read_form form)) accepted.given counted_line ∙ e in
        rw (u.runs, eq-eqb x.number 0 u.fine, accepted.grouped, found, look_at)

pub run_room : (s i : List ℕ) → HasRun s i → 1792 ≤ length i
run_room s i h =
    let u = h.ran in
    let d = demand1 h.form s 1792 8240 192 in
    let same = ok_injective (sym d.answered ∙ u.runs) in
    omega (arith, ap length u.items, ap (λ (x : Report). length x.items) same, d.items)

pub run_kinds : (s i : List ℕ) → HasRun s i → KindsFirst i
run_kinds s i h = record { room = run_room s i h; past = λ j k l b. kinds_past s i h.form h.report h.ran j k l }

-- what is told of a line, under whatever form it was run
module _ (s i : List ℕ) (count : ℕ) (c : CountsItems i count) where
  pub line_asked : HasRun s i → HasLine s i count
  line_asked h = record {
    letters = letters_of (read_form h.form);
    given = (accepted s i h.form h.report h.ran).given;
    line = counted_line s i h.form h.report h.ran count c;
  }

  module _ (p : ℕ) (h : Finds s i 0 count p) where
    pub none_misread : p ≡ count → MisreadTold s i 0
    unfolding looked_report
    none_misread e = record { same = λ form x u. looked s i form x u count c p h none (rw (eq-eqb p count e)) }

    pub one_misread : (p ≡ count → ⊥) → MisreadTold s i (p + 1)
    unfolding looked_report
    one_misread e = let after : p + 1 ≡ suc p = omega arith in rw after (record {
      same = λ form x u. looked s i form x u count c p h (some p) (rw (ne_eqb p count e));
    })

    pub place_small : p < 4294967296
    place_small = omega (arith, h.within, c.few)

    pub place_next : p + 1 < 4294967296
    place_next = omega (arith, h.within, c.few)
