-- A line of lengths and places: read from a sheet, and counted up.
use mathlib.Core.Path.{◌≡◌, refl, sym, ◌∙◌, ap}
use mathlib.Core.Bool.{Bool, true, false}
use mathlib.Core.List.{List, [], ◌∷◌, ◌++◌, flatten}
use mathlib.Core.Option.{Option, some, none}
use Prim.Native.Nat.{ℕ, ◌+◌, ◌-◌, ◌*◌, ◌≤◌, ◌<◌}
use native.Mathlib.Nat.{zero-add}
use native.Mathlib.Omega.{arith}
use lib.ListN.{length, take, drop, replicate, length-append, length-drop, length-map, length-replicate, take-append-drop, replicate-append-replicate}
use lib.Seq.{sets, sets-eq, take_at, drop_at, take_all, length-take-le}
use Rattle.std.specs.Prelude.{if◌then◌else◌}
use Rattle.wire.specs.Wire.{offset, area_start, area, entry_of}
use Rattle.wire.specs.Laws.{good_table}
use Rattle.rules.specs.Accept.{index_of}
use Rattle.rules.specs.Base.{is_some}
use Rattle.rules.specs.Run.{padded}
use Rattle.rules.specs.Sheet.{argument_count, sheet_area, sheet_fault, arguments}
use Rattle.rules.proofs.Acceptance.{All-map}
use Rattle.rules.proofs.Demand1Holds.{padded_length}
use Rattle.rules.proofs.Formats.{good_sheet, arguments_area, counted as count-mapped}
use Rattle.rules.proofs.SheetLaws.{made_sheet}
use Rattle.rules_short.specs.Short.{lengths, places, count_up}
use Rattle.rules_short.specs.ShortAnswered.{AlphabetMade, ArgumentShort, SheetShort}
use Rattle.rules_short.proofs.SetLaws.{good_alphabet, legal_sheet}
use Rattle.rules_short.proofs.CountLaws.{Below, zeros_below, CountsTo, counts}
use Rattle.rules_short.proofs.ShortLaws.{InDigits, short_digits}
use Rattle.rules_short.proofs.RankLaws.{places_below}
use Rattle.split_sheet.specs.Checked.{HasOffset}
use Rattle.split_sheet.proofs.Arguments.{ends}
use Rattle.short_sheets.specs.Steps.{places_in, LettersIn, ShortSheet, or_zeros, counted, CountsUp, next_lengths, next_count, CanCount, Counts, total}
use Rattle.short_sheets.specs.Answers.{Given, CanRead, ReadsLine, NextLine}

-- ---- zeros behind

module _ (m : ℕ) (v : List ℕ) where
  pub take_padded : take (length v) (padded m v) ≡ v
  unfolding padded
  take_padded = take_at v (replicate (m - length v) 0) (length v) refl

  drop_padded : drop (length v) (padded m v) ≡ replicate (m - length v) 0
  unfolding padded
  drop_padded = drop_at v (replicate (m - length v) 0) (length v) refl

  still_padded : (w : List ℕ) → length w ≡ length v → w ++ replicate (m - length v) 0 ≡ padded m w
  unfolding padded
  still_padded w e = rw e

sets_zeros : (v : List ℕ) (m : ℕ) → length v ≤ m → sets (replicate m 0) 0 v ≡ padded m v
unfolding padded
sets_zeros v m h =
    let all : m ≡ length v + (m - length v) = omega arith in
    let parted : replicate {A = ℕ} m 0 ≡ replicate (length v) 0 ++ replicate (m - length v) 0 =
    ap (λ (k : ℕ). replicate {A = ℕ} k 0) all ∙ sym (replicate-append-replicate (length v) (m - length v) 0) in
    sets-eq v (replicate m 0) 0 (omega (arith, length-replicate {A = ℕ} m 0))
    ∙ rw (zero-add (length v), parted, drop_at (replicate {A = ℕ} (length v) 0) (replicate (m - length v) 0) (length v) (length-replicate (length v) 0))

-- ---- digits counted up

-- below the base, and as many
pub record Good (base : ℕ) (ds es : List ℕ) : Type 0 where
  pub below : Below base es
  pub long : length es ≡ length ds

pub counted_good : (base : ℕ) (ds : List ℕ) → 1 ≤ base → Below base ds → Good base ds (counted base ds)
unfolding counted or_zeros
counted_good base ds some-base h = go (count_up base ds) (counts (λ _. 1) base ds h)
  where
    go : (o : Option (List ℕ)) → CountsTo (λ _. 1) base ds o → Good base ds (or_zeros (length ds) o)
    go none c = record { below = zeros_below base (length ds) some-base; long = length-replicate (length ds) 0 }
    go (some es) c = record { below = c.below; long = c.size }

pub lengths_good : (base : ℕ) (ns ds : List ℕ) → Below 5 ns → Good 5 ns (next_lengths base ns ds)
unfolding next_lengths
lengths_good base ns ds h = go (is_some (count_up base ds))
  where
    go : (t : Bool) → Good 5 ns (if t then ns else counted 5 ns)
    go true = record { below = h; long = refl }
    go false = counted_good 5 ns (omega arith) h

-- ---- counting up the first of lengths and places

pub part_there : {A : Type 0} (n : ℕ) (l : List A) → n ≤ length l → n ≡ length (take n l)
part_there n l h = sym (length-take-le n l h)

module _ (base n size : ℕ) (ns ds : List ℕ) (can : CanCount base n size ns ds) (b : Bool) (es : List ℕ) (up : CountsUp base (take size ds) b es) where
  long : length (take n ns) ≡ n
  long = length-take-le n ns can.lengths

  pub counts_places : b ≡ true → Counts base n size ns ds n ns (es ++ drop size ds)
  unfolding next_count next_lengths
  counts_places e =
      let found : is_some (count_up base (take size ds)) ≡ true = sym up.found ∙ e in
      record {
        count = rw found (sym long);
        lengths = rw found (sym (take-append-drop n ns));
        places = rw up.digits;
      }

  module _ (e : b ≡ false) (b' : Bool) (es' : List ℕ) (up' : CountsUp 5 (take n ns) b' es') where
    none_found : is_some (count_up base (take size ds)) ≡ false
    none_found = sym up.found ∙ e

    pub counts_lengths : b' ≡ true → Counts base n size ns ds n (es' ++ drop n ns) (es ++ drop size ds)
    unfolding next_count next_lengths
    counts_lengths e' =
        let found : is_some (count_up 5 (take n ns)) ≡ true = sym up'.found ∙ e' in
        record { count = rw (none_found, found) (sym long); lengths = rw (none_found, up'.digits); places = rw up.digits }

    pub counts_more : b' ≡ false → Counts base n size ns ds (n + 1) (es' ++ drop n ns) (es ++ drop size ds)
    unfolding next_count next_lengths
    counts_more e' =
        let found : is_some (count_up 5 (take n ns)) ≡ false = sym up'.found ∙ e' in
        record { count = rw (none_found, found, long); lengths = rw (none_found, up'.digits); places = rw up.digits }

-- ---- how much lengths ask for

pub flatten_total : (args : List (List ℕ)) → length (flatten args) ≡ total (lengths args)
unfolding flatten lengths total
flatten_total [] = refl
flatten_total (os ∷ args) = length-append os (flatten args) ∙ rw (flatten_total args)

pub total_most : (ns : List ℕ) → Below 5 ns → total ns ≤ 4 * length ns
unfolding total
total_most [] h = omega arith
total_most (n ∷ ns) h = omega (arith, h.0, total_most ns h.1)

-- ---- what a short sheet has

module _ (al s : List ℕ) (given : Given al s) where
  pub alphabet : AlphabetMade al
  alphabet = good_alphabet al given.alphabet

  short : SheetShort al s
  short = legal_sheet al s given.sheet

  pub digits : InDigits al (arguments s)
  digits = short_digits al (arguments s) short.short

  pub made : sheet_fault s ≡ 0
  made = made_sheet s short.made

  count_is : length (lengths (arguments s)) ≡ argument_count s
  unfolding lengths arguments
  count_is = length-map (arguments s) length ∙ count-mapped (entry_of 2 (argument_count s) s) (argument_count s)

  pub few : length (lengths (arguments s)) ≤ 3
  unfolding lengths
  few = omega (arith, length-map (arguments s) length, short.short.count)

  size_most : length (flatten (arguments s)) ≤ 12
  size_most = omega (arith, flatten_total (arguments s), total_most (lengths (arguments s)) digits.sizes, few)

  places_length : length (places al (arguments s)) ≡ length (flatten (arguments s))
  unfolding places
  places_length = length-map (flatten (arguments s)) (λ b. index_of b al)

  pub places_most : length (places al (arguments s)) ≤ 12
  places_most = omega (arith, places_length, size_most)

  area_is : flatten (arguments s) ≡ drop (area_start 2 (argument_count s)) s
  unfolding sheet_area area
  area_is = arguments_area s made

-- ---- the line of a sheet

module _ (al s ns ds : List ℕ) (can : CanRead al s ns ds) where
  given : Given al s
  given = can.given

  pub line_made : sheet_fault s ≡ 0
  line_made = made al s given

  pub line_short : ShortSheet s ns
  unfolding lengths
  line_short =
      record {
        made = line_made;
        short = All-map (ArgumentShort al) (λ (os : List ℕ). length os ≤ 4) (λ os h. h.size) (arguments s) (short al s given).short.each;
        room = rw can.lengths (short al s given).short.count;
      }

  pub base_narrow : length al < 256
  base_narrow = omega (arith, (alphabet al s given).most)

  module _ (n : ℕ) (count : n ≡ argument_count s) where
    n_few : n ≤ 3
    n_few = omega (arith, count_is al s given, few al s given)

    pub start_small : area_start 2 n < 18446744073709551616
    unfolding area_start
    start_small = omega (arith, n_few)

    pub has_offset : HasOffset s n
    has_offset = record { made = line_made; within = omega arith }

    module _ (start : ℕ) (e : start ≡ area_start 2 n) where
      pub area_there : start ≤ length s
      area_there = omega (arith, rw count at e, (good_table 2 (argument_count s) s (good_sheet s line_made).table).long)

      part_is : take (length s - start) (drop start s) ≡ flatten (arguments s)
      part_is = take_all (length s - start) (drop start s) (omega (arith, length-drop start s)) ∙ rw (e, count) (sym (area_is al s given))

      pub letters_in_lem : LettersIn al (take (length s - start) (drop start s)) ds
      letters_in_lem =
          record {
            few = (alphabet al s given).most;
            room = rw (part_is, can.places) (size_most al s given);
          }

      pub reads_line :
          (ns' ds' : List ℕ)
          → ns' ≡ sets ns 0 (lengths (arguments s))
          → ds' ≡ sets ds 0 (places_in al (take (length s - start) (drop start s)))
          → ReadsLine al (arguments s) ns ds ns' ds'
      unfolding places_in places
      reads_line ns' ds' p q = record { lengths = p; places = q ∙ rw part_is }

    -- ---- counted up

    module _ (size : ℕ) (ends_at : size ≡ offset 2 s n) (ns' ds' : List ℕ) (read : ReadsLine al (arguments s) ns ds ns' ds') where
      size_is : size ≡ length (places al (arguments s))
      size_is =
          let all : offset 2 s n ≡ length (flatten (arguments s)) =
          rw count ((ends s line_made).last ∙ ap length (sym (arguments_area s line_made))) in
          ends_at ∙ all ∙ sym (places_length al s given)

      lengths_padded : ns' ≡ padded 3 (lengths (arguments s))
      lengths_padded = read.lengths ∙ rw can.lengths (sets_zeros (lengths (arguments s)) 3 (few al s given))

      places_padded : ds' ≡ padded 12 (places al (arguments s))
      places_padded = read.places ∙ rw can.places (sets_zeros (places al (arguments s)) 12 (places_most al s given))

      count_there : n ≡ length (lengths (arguments s))
      count_there = count ∙ sym (count_is al s given)

      module _ (base : ℕ) (same : base ≡ length al) where
        pub can_count : CanCount base n size ns' ds'
        can_count =
            record {
              base_some = omega (arith, (alphabet al s given).least);
              few = n_few;
              lengths = omega (arith, n_few, ap length lengths_padded, padded_length 3 (lengths (arguments s)) (few al s given));
              places =
                  omega (arith, size_is, places_most al s given, ap length places_padded, padded_length 12 (places al (arguments s)) (places_most al s given));
            }

        pub next_line : (r : ℕ) (ns'' ds'' : List ℕ) → Counts base n size ns' ds' r ns'' ds'' → NextLine al (arguments s) r ns'' ds''
        next_line r ns'' ds'' c =
            let sizes = lengths (arguments s) in
            let bytes = places al (arguments s) in
            let good = counted_good (length al) bytes (alphabet al s given).least (places_below al (arguments s) (digits al s given)) in
            let here : take n ns' ≡ sizes = rw (lengths_padded, count_there) (take_padded 3 sizes) in
            let rest : drop n ns' ≡ replicate (3 - length sizes) 0 = rw (lengths_padded, count_there) (drop_padded 3 sizes) in
            let there : take size ds' ≡ bytes = rw (places_padded, size_is) (take_padded 12 bytes) in
            let behind : drop size ds' ≡ replicate (12 - length bytes) 0 = rw (places_padded, size_is) (drop_padded 12 bytes) in
            record {
              count = c.count ∙ rw (here, there, same);
              lengths = c.lengths ∙ rw (here, there, same, rest) (still_padded 3 sizes (next_lengths (length al) sizes bytes) (lengths_good (length al) sizes bytes (digits al s given).sizes).long);
              places = c.places ∙ rw (there, same, behind) (still_padded 12 bytes (counted (length al) bytes) good.long);
            }
