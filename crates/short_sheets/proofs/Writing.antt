-- Letters put for places, and a sheet written from lengths and bytes.
use mathlib.Core.Path.{◌≡◌, refl, sym, ◌∙◌, ap}
use mathlib.Core.List.{List, [], ◌∷◌, ◌++◌, map, flatten, append-nil}
use Prim.Native.Nat.{ℕ, zero, suc, ◌+◌, ◌-◌, ◌≤◌, ◌<◌}
use native.Mathlib.Nat.{zero-add}
use native.Mathlib.Numerals.{add-one}
use native.Mathlib.Omega.{arith}
use lib.ListN.{length, get_or, set, take, drop, length-append, length-drop, length-set, length-map, drop_of_length-le}
use lib.Seq.{length-sets, drop-cons, drop-drop, take-suc, take-length, length-take-le, set_at, get_or_at, append_snoc}
use Rattle.wire.specs.Wire.{area_start}
use Rattle.rules.specs.Run.{padded}
use Rattle.rules.specs.Encode.{encode_sheet}
use Rattle.rules.specs.Demands.{All}
use Rattle.rules.proofs.Demand1Holds.{padded_length}
use Rattle.rules_short.specs.Short.{letter_at, parted}
use Rattle.wire_write.specs.Written.{sheet_so_far, with_argument, CanBegin, CanPut}
use Rattle.wire_write.proofs.Sheets.{flatten_more, argument_written, all_written, so_far_length}
use Rattle.short_sheets.specs.Steps.{PlacesIn, total, CanWrite, WritesSheet}
use Rattle.short_sheets.proofs.Reading.{get_d_mapped}

-- ---- letters

-- the first i places are letters
pub record Lettered (al ds o : List ℕ) (i : ℕ) : Type 0 where
  pub within : i ≤ length ds
  pub same : o ≡ take i (map (letter_at al) ds) ++ drop i ds
  pub long : length o ≡ length ds

pub lettered_first : (al ds : List ℕ) → Lettered al ds ds 0
lettered_first al ds = record { within = omega arith; same = refl; long = refl }

all_get_d : (P : ℕ → Type 0) (l : List ℕ) (i : ℕ) → All P l → i < length l → P (get_or l i 0)
all_get_d P [] i h l = absurd (omega arith)
all_get_d P (x ∷ xs) zero h l = h.0
all_get_d P (x ∷ xs) (suc i) h l = all_get_d P xs i h.1 (omega arith)

module _ (al ds o : List ℕ) (i : ℕ) (z : Lettered al ds o i) where
  module _ (there : i < length ds) where
    front : length (take i (map (letter_at al) ds)) ≡ i
    front = length-take-le i (map (letter_at al) ds) (omega (arith, length-map ds (letter_at al)))

    opened : o ≡ take i (map (letter_at al) ds) ++ get_or ds i 0 ∷ drop (suc i) ds
    opened = z.same ∙ rw (drop-cons ds i 0 there)

    place : get_or o i 0 ≡ get_or ds i 0
    place = rw opened (get_or_at (take i (map (letter_at al) ds)) (get_or ds i 0) (drop (suc i) ds) 0 i front)

    pub letter_there : (d : ℕ) → d ≡ get_or o i 0 → PlacesIn al ds → d < length al
    letter_there d e has = omega (arith, place, all_get_d (λ (k : ℕ). k < length al) ds i has.below there)

    pub lettered_next : (d : ℕ) → d ≡ get_or o i 0 → Lettered al ds (set o i (get_or al d 0)) (i + 1)
    unfolding letter_at
    lettered_next d e =
        let letter : get_or al d 0 ≡ get_or (map (letter_at al) ds) i 0 =
        ap (letter_at al) (e ∙ place) ∙ sym (get_d_mapped (letter_at al) ds i there) in
        let rest = drop (suc i) ds in
        let head = take i (map (letter_at al) ds) in
        record {
          within = omega arith;
          same =
              ap (λ (l : List ℕ). set l i (get_or al d 0)) opened
              ∙ set_at head (get_or ds i 0) rest (get_or al d 0) i front
              ∙ rw (add-one i, take-suc (map (letter_at al) ds) i 0 (omega (arith, length-map ds (letter_at al))), letter)
              (sym (append_snoc head (get_or (map (letter_at al) ds) i 0) rest));
          long = length-set o i (get_or al d 0) ∙ z.long;
        }

  pub lettered_last : length ds ≤ i → o ≡ map (letter_at al) ds
  lettered_last h =
      let all : i ≡ length (map (letter_at al) ds) = omega (arith, z.within, z.long, length-map ds (letter_at al)) in
      z.same
      ∙ rw (drop_of_length-le ds {i = i} (omega (arith, z.long)), append-nil (take i (map (letter_at al) ds)), all)
      (take-length (map (letter_at al) ds))

-- ---- the sheet

-- the first k arguments are written, and the next begins at `at` in the area
pub record Written (room : ℕ) (ns area o : List ℕ) (at k : ℕ) : Type 0 where
  pub can : CanWrite room ns area
  pub args : List (List ℕ)
  pub count : length args ≡ k
  pub size : length (flatten args) ≡ at
  pub same : o ≡ padded room (sheet_so_far (length ns) args)
  pub rest : args ++ parted (drop k ns) (drop at area) ≡ parted ns area
  pub left : at + total (drop k ns) ≡ total ns
  pub within : k ≤ length ns
  pub long : length o ≡ room

pub sheet_fits : (o ns area : List ℕ) → CanWrite (length o) ns area → CanBegin o (length ns)
sheet_fits o ns area can = record { few = can.few; room = omega (arith, can.room) }

module _ (room : ℕ) (ns area : List ℕ) (can : CanWrite room ns area) (o : List ℕ) (e : o ≡ padded room (sheet_so_far (length ns) [])) where
  pub begun_length : length o ≡ room
  unfolding flatten
  begun_length =
      let fits : length (sheet_so_far (length ns) []) ≤ room = omega (arith, so_far_length (length ns) [] (omega arith), can.room) in
      ap length e ∙ padded_length room (sheet_so_far (length ns) []) fits

  pub written_first : Written (length o) ns area o 0 0
  unfolding flatten
  written_first =
      record {
        can = rw begun_length can;
        args = [];
        count = refl;
        size = refl;
        same = rw begun_length e;
        rest = refl;
        left = zero-add (total ns);
        within = omega arith;
        long = refl;
      }

module _ (room : ℕ) (ns area o : List ℕ) (at k : ℕ) (z : Written room ns area o at k) where
  abbrev can : CanWrite room ns area
  can = z.can

  module _ (less : k < length ns) (w : ℕ) (e : w ≡ get_or ns k 0) where
    behind : drop k ns ≡ w ∷ drop (suc k) ns
    behind = drop-cons ns k 0 less ∙ rw e

    argument_ends : at + w + total (drop (suc k) ns) ≡ total ns
    unfolding total
    argument_ends = omega (arith, rw behind at z.left)

    pub argument_small : at + w < 65536
    argument_small = omega (arith, argument_ends, can.short)

    pub argument_within : at + w ≤ length area
    argument_within = omega (arith, argument_ends, can.within)

    module _ (part : List ℕ) (cut : part ≡ take (at + w - at) (drop at area)) where
      cut_here : part ≡ take w (drop at area)
      cut_here = let size : at + w - at ≡ w = omega arith in cut ∙ rw size

      part_length : length part ≡ w
      part_length = ap length cut_here ∙ length-take-le w (drop at area) (omega (arith, length-drop at area, argument_within))

      pub argument_fits : CanPut o (length ns) k at part
      argument_fits =
          record {
            few = can.few;
            below = less;
            short = omega (arith, part_length, argument_ends, can.short);
            room = omega (arith, part_length, argument_ends, can.room, z.long);
          }

      module _ (o' : List ℕ) (put : o' ≡ with_argument (length ns) k at part o) where
        still_long : length o' ≡ length o
        unfolding with_argument
        still_long = ap length put ∙ simp length-sets

        pub written_next : Written room ns area o' (at + w) (k + 1)
        unfolding parted
        written_next =
            let args = z.args in
            record {
              can = can;
              args = args ++ (part ∷ []);
              count = length-append args (part ∷ []) ∙ rw z.count;
              size = ap length (flatten_more part args) ∙ length-append (flatten args) part ∙ rw (z.size, part_length);
              same =
                  put
                  ∙ rw (z.same, ← z.count, ← z.size)
                  (argument_written room (length ns) args part (omega (arith, z.count))
                  (omega (arith, z.size, part_length, argument_ends, can.room)));
              rest =
                  rw (add-one k, ← drop-drop w at area, cut_here) (append_snoc args (take w (drop at area)) _)
                  ∙ (rw behind at z.rest);
              left = rw (add-one k) argument_ends;
              within = omega arith;
              long = still_long ∙ z.long;
            }

  pub written_last :
      (size start : ℕ)
      → room ≡ size
      → start ≡ area_start 2 (length ns)
      → length ns ≤ k
      → WritesSheet size (parted ns area) (start + at) o
  unfolding parted area_start
  written_last size start s e h =
      let done : drop k ns ≡ [] = drop_of_length-le ns {i = k} h in
      let args : z.args ≡ parted ns area = sym (append-nil z.args) ∙ (rw done at z.rest) in
      let all : length z.args ≡ length ns = omega (arith, z.count, z.within) in
      let whole : sheet_so_far (length ns) z.args ≡ encode_sheet z.args = all_written (length ns) z.args all in
      record {
        long =
            omega (arith, e, z.size, so_far_length (length ns) z.args (omega arith), ap length (whole ∙ ap encode_sheet args));
        small = let few = can.few in omega (arith, e, z.left, can.short);
        output = z.same ∙ rw (whole, args, s);
      }
