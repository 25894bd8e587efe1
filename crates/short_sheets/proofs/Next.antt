-- The line that is counted up against the definition of the step, and each way out against that of the call.
use mathlib.Core.Path.{◌≡◌, refl, sym, ◌∙◌, ap}
use mathlib.Core.Bool.{Bool, true, false, not}
use mathlib.Core.List.{List, [], ◌∷◌, ◌++◌, map, flatten, map-append}
use mathlib.Core.Option.{Option, some, none}
use Prim.Native.Nat.{ℕ, zero, suc, ◌+◌, ◌-◌, ◌*◌, ◌≤◌, ◌<◌}
use native.Mathlib.Omega.{arith}
use lib.Dec.{ltb}
use lib.ListN.{length, take, replicate, length-map, length-replicate, replicate-append-replicate}
use lib.Seq.{take_at, length-take-le}
use borrow.Author.Tests.{lt-ltb, le-ltb, ltb-false}
use Rattle.std.specs.Prelude.{if◌then◌else◌}
use Rattle.wire.specs.Wire.{area_start}
use Rattle.rules.specs.Base.{is_some}
use Rattle.rules.specs.Run.{padded}
use Rattle.rules.specs.Sheet.{arguments}
use Rattle.rules.specs.Encode.{encode_sheet}
use Rattle.rules.proofs.Acceptance.{All-append, All-take}
use Rattle.rules.proofs.Demand1Holds.{padded_length}
use Rattle.rules_short.specs.Short.{alphabet_good, sheet_legal, lengths, places, count_up, parted, letter_at, next_arguments, written, next_sheet}
use Rattle.rules_short.proofs.CountLaws.{Below, zeros_below, CountsTo, counts}
use Rattle.rules_short.proofs.ShortLaws.{parted_more, alike, alike_lengths, alike_parted}
use Rattle.rules_short.proofs.RankLaws.{places_below}
use Rattle.short_check.specs.Tests.{input_fault}
use Rattle.short_sheets.specs.declared.NextSheet.{NextSheet}
use Rattle.short_sheets.specs.Steps.{or_zeros, counted, next_lengths, next_count, total, WritesSheet}
use Rattle.short_sheets.specs.Answers.{answered, told, Reports, Given, NextLine, CanWriteLine, WritesLine, CanStep, stepped}
use Rattle.short_sheets.proofs.Lines.{flatten_total, total_most, take_padded, Good, counted_good, lengths_good, alphabet, digits, few, places_most}

map_same : (f : ℕ → ℕ) (n x : ℕ) → map f (replicate n x) ≡ replicate n (f x)
map_same f zero x = refl
map_same f (suc n) x = ap (λ (l : List ℕ). f x ∷ l) (map_same f n x)

zeros_padded : (m n : ℕ) → n ≤ m → padded m (replicate n 0) ≡ replicate m 0
unfolding padded
zeros_padded m n h =
    let long = length-replicate {A = ℕ} n 0 in
    let all : n + (m - n) ≡ m = omega arith in
    rw long (replicate-append-replicate n (m - n) 0 ∙ rw all)

take_zeros : (n m : ℕ) → n ≤ m → take n (replicate {A = ℕ} m 0) ≡ replicate n 0
take_zeros n m h =
    let all : m ≡ n + (m - n) = omega arith in
    ap (λ (k : ℕ). take n (replicate {A = ℕ} k 0)) all
    ∙ ap (take n) (sym (replicate-append-replicate {A = ℕ} n (m - n) 0))
    ∙ take_at (replicate n 0) (replicate (m - n) 0) n (length-replicate {A = ℕ} n 0)

none_parted : (n : ℕ) (b : List ℕ) → parted (replicate n 0) b ≡ replicate n []
unfolding parted
none_parted zero b = refl
none_parted (suc n) b = ap (λ (l : List (List ℕ)). [] ∷ l) (none_parted n b)

-- ---- the next arguments

module _ (al : List ℕ) (args : List (List ℕ)) where
  abbrev base : ℕ
  base = length al

  abbrev ns : List ℕ
  ns = lengths args

  abbrev ds : List ℕ
  ds = places al args

  -- the definition, of any digits
  abbrev chosen : Option (List ℕ) → Option (List ℕ) → Option (List (List ℕ))
  chosen u v = elim u [
    | some es ↦ some (parted ns (map (letter_at al) es))
    | none ↦ elim v [
      | some ms ↦ some (map (λ n. replicate n (letter_at al 0)) ms)
      | none ↦ if ltb (length args) 3 then some (replicate (suc (length args)) []) else none
    ]
  ]

  abbrev count_of : Option (List ℕ) → Option (List ℕ) → ℕ
  count_of u v = if is_some u then length ns else (if is_some v then length ns else length ns + 1)

  abbrev lengths_of : Option (List ℕ) → Option (List ℕ) → List ℕ
  lengths_of u v = padded 3 (if is_some u then ns else or_zeros (length ns) v)

  abbrev places_of : Option (List ℕ) → List ℕ
  places_of u = padded 12 (or_zeros (length ds) u)

  count_same : length ns ≡ length args
  unfolding lengths
  count_same = length-map args length

  module _ (short : length ns ≤ 3) (sized : length ds ≤ 12) (bytes : length ds ≡ length (flatten args)) where
    ends : (u v : Option (List ℕ)) → 3 < count_of u v → chosen u v ≡ none
    unfolding is_some
    ends (some es) v h = absurd (omega arith)
    ends none (some ms) h = absurd (omega arith)
    ends none none h = rw (le-ltb (length args) 3 (omega (arith, count_same)))

    abbrev first : ℕ
    first = letter_at al 0

    firsts : map (letter_at al) (padded 12 (replicate (length ds) 0)) ≡ replicate 12 first
    firsts = rw (zeros_padded 12 (length ds) sized) (map_same (letter_at al) 12 0)

    padded_bytes : (es : List ℕ) → length es ≡ length ds → parted ns (map (letter_at al) (padded 12 es)) ≡ parted ns (map (letter_at al) es)
    unfolding padded
    padded_bytes es e =
        let zeros = replicate {A = ℕ} (12 - length es) 0 in
        rw (map-append (letter_at al) es zeros)
        (parted_more args (map (letter_at al) es) (map (letter_at al) zeros) (length-map es (letter_at al) ∙ e ∙ bytes))

    take_sized : (ms : List ℕ) → length ms ≡ length ns → take (length ns) (padded 3 ms) ≡ ms
    take_sized ms e = rw (← e) (take_padded 3 ms)

    alike_fits : (ms : List ℕ) → Below 5 ms → length ms ≡ length ns → length (flatten (alike first ms)) ≤ 12
    alike_fits ms h e = omega (arith, flatten_total (alike first ms), ap total (alike_lengths first ms), total_most ms h)

    goes :
        (u v : Option (List ℕ))
        → CountsTo (λ _. 1) base ds u
        → CountsTo (λ _. 1) 5 ns v
        → count_of u v ≤ 3
        → chosen u v ≡ some (parted (take (count_of u v) (lengths_of u v)) (map (letter_at al) (places_of u)))
    unfolding is_some or_zeros alike
    goes (some es) v c k h =
        ap some
        (sym (rw (take_padded 3 ns) (padded_bytes es c.size)))
    goes none (some ms) c k h =
        ap some
        (sym (rw (firsts, take_sized ms k.size) (alike_parted (letter_at al 0) ms 12 (alike_fits ms k.below k.size))))
    goes none none c k h =
        let more : length ns + 1 ≡ suc (length args) = omega (arith, count_same) in
        rw (lt-ltb (length args) 3 (omega (arith, count_same)))
        (ap some
        (sym (rw (firsts, zeros_padded 3 (length ns) short, more, take_zeros (suc (length args)) 3 (omega (arith, count_same)))
        (none_parted (suc (length args)) (replicate 12 first)))))

-- ---- the step

module _ (al s : List ℕ) (given : Given al s) (r : ℕ) (ns' ds' : List ℕ) (line : NextLine al (arguments s) r ns' ds') where
  abbrev args : List (List ℕ)
  args = arguments s

  abbrev up_places : Option (List ℕ)
  up_places = count_up (length al) (places al args)

  abbrev up_lengths : Option (List ℕ)
  up_lengths = count_up 5 (lengths args)

  count_of_lem : r ≡ count_of al args up_places up_lengths
  unfolding next_count
  count_of_lem = line.count

  lengths_of_lem : ns' ≡ lengths_of al args up_places up_lengths
  unfolding next_lengths counted
  lengths_of_lem = line.lengths

  places_of_lem : ds' ≡ places_of al args up_places
  unfolding counted
  places_of_lem = line.places

  bytes : length (places al args) ≡ length (flatten args)
  unfolding places
  bytes = length-map (flatten args) _

  below : Below (length al) (places al args)
  below = places_below al args (digits al s given)

  pub line_ends : 3 < r → next_arguments al args ≡ none
  unfolding next_arguments
  line_ends h = ends al args (few al s given) (places_most al s given) bytes up_places up_lengths (rw count_of_lem at h)

  pub line_goes : r ≤ 3 → next_arguments al args ≡ some (parted (take r ns') (map (letter_at al) ds'))
  unfolding next_arguments
  line_goes h =
      rw (count_of_lem, lengths_of_lem, places_of_lem)
      (goes al args (few al s given) (places_most al s given) bytes up_places up_lengths
      (counts (λ _. 1) (length al) (places al args) below) (counts (λ _. 1) 5 (lengths args) (digits al s given).sizes) (rw count_of_lem at h))

  -- ---- what is written

  places_good : Good (length al) (places al args) (counted (length al) (places al args))
  places_good = counted_good (length al) (places al args) (alphabet al s given).least below

  sizes_good : Good 5 (lengths args) (next_lengths (length al) (lengths args) (places al args))
  sizes_good = lengths_good (length al) (lengths args) (places al args) (digits al s given).sizes

  lengths_long : length ns' ≡ 3
  lengths_long = ap length line.lengths ∙ padded_length 3 _ (omega (arith, sizes_good.long, few al s given))

  places_long : length ds' ≡ 12
  places_long = ap length line.places ∙ padded_length 12 _ (omega (arith, places_good.long, places_most al s given))

  padded_below : (b m : ℕ) (l : List ℕ) → 0 < b → Below b l → Below b (padded m l)
  unfolding padded
  padded_below b m l h p = All-append (λ (d : ℕ). d < b) l (replicate (m - length l) 0) p (zeros_below b (m - length l) h)

  total_below : r ≤ 3 → total (take r ns') ≤ 4 * r
  total_below h =
      let all : Below 5 ns' = rw line.lengths (padded_below 5 3 _ (omega arith) sizes_good.below) in
      let long : length (take r ns') ≡ r = length-take-le r ns' (omega (arith, lengths_long)) in
      omega (arith, total_most (take r ns') (All-take (λ (d : ℕ). d < 5) r ns' all))

  pub has_line : (n : ℕ) → 22 ≤ n → r ≤ 3 → CanWriteLine al r ns' ds' n
  unfolding area_start
  has_line n room h =
      let long : length (take r ns') ≡ r = length-take-le r ns' (omega (arith, lengths_long)) in
      record {
        few = omega (arith, lengths_long);
        letters = record { below = rw line.places (padded_below (length al) 12 _ (alphabet al s given).least places_good.below) };
        room =
            record {
              few = omega arith;
              short = omega (arith, total_below h);
              within = omega (arith, total_below h, places_long);
              room = omega (arith, total_below h);
            };
      }

pub writes_line :
    (al : List ℕ) (count : ℕ) (ns ds : List ℕ) (size w : ℕ) (r : NextSheet) (ds' o : List ℕ)
    → ds' ≡ map (letter_at al) ds
    → WritesSheet size (parted (take count ns) ds') w o
    → r ≡ answered 0 0 w
    → WritesLine al count ns ds size r ds' o
writes_line al count ns ds size w r ds' o e wrote answer =
    record {
      letters = e;
      answer = answer ∙ ap (answered 0 0) (wrote.long ∙ rw e);
      output = wrote.output ∙ rw e;
    }

-- ---- what is reported

stepped_as : (al s : List ℕ) (n : ℕ) (x : Option (List (List ℕ))) → next_arguments al (arguments s) ≡ x → stepped al s n ≡ elim x [
  | none ↦ written n 0 true []
  | some args ↦ written n 0 false (encode_sheet args)
]
unfolding stepped
stepped_as al s n x e =
    ap (λ (y : Option (List (List ℕ))). elim y [ none ↦ written n 0 true [] | some args ↦ written n 0 false (encode_sheet args) ]) e

cleared : (o : List ℕ) → take 0 o ++ replicate (length o - 0) 0 ≡ padded (length o) []
unfolding padded
cleared o = refl

module _ (al s : List ℕ) (o : List ℕ) (can : CanStep al s (length o)) (k : ℕ) (ns ds : List ℕ) (line : NextLine al (arguments s) k ns ds) where
  pub last_reported :
      (r : NextSheet) (o' : List ℕ)
      → 3 < k
      → r ≡ answered 0 1 0
      → o' ≡ take 0 o ++ replicate (length o - 0) 0
      → Reports (stepped al s (length o)) r o'
  unfolding told written
  last_reported r o' h answer out =
      let as_none = stepped_as al s (length o) none (line_ends al s can.given k ns ds line h) in
      record { answer = rw as_none answer; output = rw as_none (out ∙ cleared o) }

  pub line_there : k ≤ 3 → CanWriteLine al k ns ds (length o)
  line_there h = has_line al s can.given k ns ds line (length o) can.room h

  pub next_reported :
      (r : NextSheet) (ds' o' : List ℕ)
      → k ≤ 3
      → WritesLine al k ns ds (length o) r ds' o'
      → Reports (stepped al s (length o)) r o'
  unfolding told written
  next_reported r ds' o' h wrote =
      let as_some_lem = stepped_as al s (length o) (some (parted (take k ns) (map (letter_at al) ds))) (line_goes al s can.given k ns ds line h) in
      record { answer = rw as_some_lem wrote.answer; output = rw as_some_lem wrote.output }

-- ---- the call

module _ (al s : List ℕ) (n : ℕ) where
  refusal : (f : ℕ) → f ≡ input_fault al s n → (f ≡ 0 → ⊥) → next_sheet al s n ≡ written n f false []
  unfolding input_fault next_sheet stepped
  refusal f e other = go (alphabet_good al) (sheet_legal al s) (ltb n 22) f e other
    where
      go :
          (a t l : Bool) (f : ℕ)
          → f ≡ (if not a then 16 else (if not t then 17 else (if l then 19 else 0)))
          → (f ≡ 0 → ⊥)
          → (if not a then written n 16 false [] else (if not t then written n 17 false [] else (if l then written n 19 false [] else stepped al s n)))
          ≡ written n f false []
      go false t l f e other = rw e
      go true false l f e other = rw e
      go true true true f e other = rw e
      go true true false f e other = absurd (other e)

  pub can_step : 0 ≡ input_fault al s n → CanStep al s n
  unfolding input_fault
  can_step e = go (alphabet_good al) (sheet_legal al s) (ltb n 22) refl refl refl (sym e)
    where
      go :
          (a t l : Bool)
          → alphabet_good al ≡ a
          → sheet_legal al s ≡ t
          → ltb n 22 ≡ l
          → ◌≡◌ {A = ℕ} (if not a then 16 else (if not t then 17 else (if l then 19 else 0))) 0
          → CanStep al s n
      go false t l p q w e = absurd (omega arith)
      go true false l p q w e = absurd (omega arith)
      go true true true p q w e = absurd (omega arith)
      go true true false p q w e = record { given = record { alphabet = p; sheet = q }; room = ltb-false n 22 w }

pub refused_reported :
    (al s o : List ℕ) (f : ℕ)
    → f ≡ input_fault al s (length o)
    → (f ≡ 0 → ⊥)
    → (r : NextSheet) (o' : List ℕ)
    → r ≡ answered f 0 0
    → o' ≡ take 0 o ++ replicate (length o - 0) 0
    → Reports (next_sheet al s (length o)) r o'
unfolding told written
refused_reported al s o f e other r o' answer out =
    let as-refused = refusal al s (length o) f e other in
    record { answer = rw as-refused answer; output = rw as-refused (out ∙ cleared o) }

pub step_reported :
    (al s : List ℕ) (n : ℕ) (r : NextSheet) (o : List ℕ)
    → 0 ≡ input_fault al s n
    → Reports (stepped al s n) r o
    → Reports (next_sheet al s n) r o
unfolding next_sheet stepped
step_reported al s n r o e reports =
    let can = can_step al s n e in
    rw (can.given.alphabet, can.given.sheet, le-ltb n 22 can.room) reports
