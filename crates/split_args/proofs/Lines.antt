-- The loop over the arguments of a sheet: what is done, what is left, and each way out against the definition.
use mathlib.Core.Path.{◌≡◌, refl, sym, ◌∙◌, ap, ap₂, subst}
use mathlib.Core.Bool.{Bool, true, false}
use mathlib.Core.List.{List, [], ◌∷◌, ◌++◌, flatten, append_assoc, append-nil}
use mathlib.Core.Option.{Option, some, none}
use Prim.Native.Nat.{ℕ, zero, suc, ◌+◌, ◌-◌, ◌*◌, ◌^◌, ◌≤◌, ◌<◌}
use native.Mathlib.Numerals.{add-one}
use native.Mathlib.Omega.{arith}
use lib.ListN.{length, take, drop, length-append, drop_of_length-le}
use lib.Seq.{sets, length-sets, sets-eq, take_at}
use borrow.Author.Tests.{lt-ltb, le-ltb}
use Rattle.std.specs.Prelude.{Some, None}
use Rattle.wire.specs.Wire.{number_at, area_start, offset, entry_of, HasEntry}
use Rattle.wire.specs.Laws.{good_table}
use Rattle.rules.specs.Base.{concat_map}
use Rattle.rules.specs.Outcome.{Outcome, ok, refused, fault, ◌>>=◌}
use Rattle.rules.specs.Sheet.{argument_count, arguments}
use Rattle.rules.specs.Accept.{Letters}
use Rattle.rules.specs.Split.{Item, PosWord, Group, plain, split_argument, Split, positionals, joined, split_from, items_of, item_words, records_from}
use Rattle.rules.specs.Run.{too_many, ambiguity, line_of}
use Rattle.rules.specs.Demands.{has_marker}
use Rattle.rules.proofs.SplitLaws.{split_ok, flatten_append, records_from_length, MarkerAt, marker_law, ambiguous_law}
use Rattle.split_arg.proofs.LookUp.{ok_same}
use Rattle.split_group.specs.declared.Group.{Group as Made}
use Rattle.split_group.specs.Groups.{which, ArgumentFits, Makes}
use Rattle.split_group.proofs.Stores.{sets_append, has_room}
use Rattle.split_args.specs.Construct.{group_at, marker_after, line_for, refusal_number, refusal_place, SheetAndRoom, SplitWrites}
use Rattle.split_args.proofs.Sheets.{GoodSheet, good_sheet, arguments_length, has_entry, argument_next, argument_end, argument_fits, offset_there}
use Rattle.split_args.proofs.States.{marker_of, starts, empty_raw}

-- the others, where the first `--` was seen at a place (plus 1) or not
unfoldable pub rest_from : Letters → ℕ → ℕ → List (List ℕ) → Outcome Split
rest_from l zero k args = split_from l k args
rest_from l (suc i) k args = ok (record { groups = positionals args; marker = none; ambiguous = none })

unfoldable pub marker_first : ℕ → Option ℕ → Option ℕ
marker_first zero m = m
marker_first (suc i) m = some i

-- ---- `next_group`
pub group_first : (l : Letters) (m : ℕ) (os : List ℕ) → m ≡ 0 → group_at l m os ≡ split_argument l os
unfolding group_at
group_first l m os e = rw e

pub group_later : (l : Letters) (m : ℕ) (os : List ℕ) → (m ≡ 0 → ⊥) → group_at l m os ≡ ok (plain (PosWord os ∷ []))
unfolding group_at
group_later l zero os h = absurd (h refl)
group_later l (suc i) os h = refl

-- ---- places are small
pub fits_32 : (n : ℕ) → n ≤ 256 → n < 2 ^ 32
fits_32 n h = omega arith

pub fits_64 : (n : ℕ) → n ≤ 256 → n < 2 ^ 64
fits_64 n h = omega arith

-- ---- the loop's state
-- groups in front of a split
abbrev pub front : List (List Item) → ℕ → Split → Split
front gs m y = record { groups = gs ++ y.groups; marker = marker_first m y.marker; ambiguous = y.ambiguous }

pub two_bytes : (s o : List ℕ) → SheetAndRoom s o → 2 ≤ length s
two_bytes s o g = (good_sheet s g.checked).two

pub count_is : (s : List ℕ) (n : ℕ) → n ≡ number_at 2 s 0 → n ≡ argument_count s
unfolding argument_count
count_is s n e = e

-- over what the slice `b` held
pub record SplitSoFar (l : Letters) (s b o : List ℕ) (k at m : ℕ) : Type 0 where
  pub done : List (List Item)
  pub words : List ℕ
  pub whole : Split
  pub rest : Split
  pub all : split_from l 0 (arguments s) ≡ ok whole
  pub left : rest_from l m at (drop k (arguments s)) ≡ ok rest
  pub joins : whole ≡ front done m rest
  pub recorded :
      (ys : List (List Item))
      → records_from 0 (arguments s) (done ++ ys) ≡ words ++ records_from (offset 2 s k) (drop k (arguments s)) ys
  pub put : o ≡ sets b 0 words
  pub size : length words ≡ 7 * at
  pub places : at ≡ length (flatten done)
  pub few : at ≤ 256
  pub within : k ≤ argument_count s
  pub long : length o ≡ length b

pub going_first : (l : Letters) (s o : List ℕ) → SheetAndRoom s o → SplitSoFar l s o o 0 0 0
unfolding rest_from marker_first flatten
going_first l s o g =
    let h = good_sheet s g.checked in
    let x = split_ok l 0 (arguments s) in
    let first = (good_table 2 (argument_count s) s h.good).first in
    record {
      done = [];
      words = [];
      whole = x.0;
      rest = x.0;
      all = x.1;
      left = x.1;
      joins = refl;
      recorded = λ ys. rw first;
      put = refl;
      size = refl;
      places = refl;
      few = omega arith;
      within = omega arith;
      long = refl;
    }

bind_ok : {A B : Type 0} (o : Outcome A) (f : A → Outcome B) (b : B) → (o >>= f) ≡ ok b → (a : A) × (o ≡ ok a) × (f a ≡ ok b)
unfolding ◌>>=◌
bind_ok (ok a) f b e = (a, refl, e)
bind_ok (refused x) f b e = absurd (let z : ◌≡◌ {A = ℕ} 0 1 = cc in omega arith)
bind_ok (fault x) f b e = absurd (let z : ◌≡◌ {A = ℕ} 0 1 = cc in omega arith)

which_none : (a : Option ℕ) → which a ≡ None → a ≡ none
which_none none h = refl
which_none (some i) h = absurd (let z : ◌≡◌ {A = ℕ} 0 1 = cc in omega arith)

which_some : (a : Option ℕ) (i : ℕ) → which a ≡ Some i → a ≡ some i
which_some none i h = absurd (let z : ◌≡◌ {A = ℕ} 0 1 = cc in omega arith)
which_some (some k) i h = let e : k ≡ i = cc in ap some e

-- ---- one argument of what is left
-- what the others are, by the group of the first
pub record Follows (l : Letters) (at m : ℕ) (os : List ℕ) (rest : List (List ℕ)) (is : List Item) (a : Option ℕ) (b : Bool) (y : Split) : Type 0 where
  pub later : List (List Item)
  pub groups : y.groups ≡ is ∷ later
  pub stops : (i : ℕ) → a ≡ some i → (later ≡ []) × (y.marker ≡ none) × (y.ambiguous ≡ some (at + i)) × (m ≡ 0)
  pub goes :
      a ≡ none
      → (z : Split)
      × (rest_from l (marker_after m b at) (at + length is) rest ≡ ok z)
      × (later ≡ z.groups)
      × (marker_first m y.marker ≡ marker_first (marker_after m b at) z.marker)
      × (y.ambiguous ≡ z.ambiguous)

some≢none : {A B : Type 0} {a : A} → some a ≡ none → B
some≢none e = absurd (let z : ◌≡◌ {A = ℕ} 0 1 = cc in omega arith)

module _ (l : Letters) (at : ℕ) (os : List ℕ) (rest : List (List ℕ)) (is : List Item) (y : Split) where
  joined_follows :
      (a : Option ℕ) (b : Bool)
      → joined at (record { items = is; ambiguous = a; marker = b }) rest (split_from l (at + length is) rest) ≡ ok y
      → Follows l at 0 os rest is a b y
  unfolding joined rest_from marker_first
  joined_follows (some i) b e =
      let f = ok_same e in
      record {
        later = [];
        groups = sym (ap (λ (x : Split). x.groups) f);
        stops = λ j g. (
          refl,
          sym (ap (λ (x : Split). x.marker) f),
          sym (ap (λ (x : Split). x.ambiguous) f) ∙ (let h : i ≡ j = cc in rw h),
          refl,
        );
        goes = λ g. some≢none g;
      }
  joined_follows none true e =
      let f = ok_same e in
      let z : Split = record { groups = positionals rest; marker = none; ambiguous = none } in
      record {
        later = positionals rest;
        groups = sym (ap (λ (x : Split). x.groups) f);
        stops = λ j g. some≢none (sym g);
        goes = λ g. (
          z,
          rw (add-one at),
          refl,
          sym (ap (λ (x : Split). x.marker) f) ∙ rw (add-one at),
          sym (ap (λ (x : Split). x.ambiguous) f),
        );
      }
  joined_follows none false e =
      let x = bind_ok (split_from l (at + length is) rest) _ y e in
      let f = ok_same x.2 in
      record {
        later = x.0.groups;
        groups = sym (ap (λ (x : Split). x.groups) f);
        stops = λ j g. some≢none (sym g);
        goes = λ g. (
          x.0,
          x.1,
          refl,
          sym (ap (λ (x : Split). x.marker) f),
          sym (ap (λ (x : Split). x.ambiguous) f),
        );
      }

pub follows :
    (l : Letters) (at m : ℕ) (os : List ℕ) (rest : List (List ℕ)) (g : Group) (y : Split)
    → group_at l m os ≡ ok g
    → rest_from l m at (os ∷ rest) ≡ ok y
    → Follows l at m os rest g.items g.ambiguous g.marker y
unfolding group_at rest_from split_from ◌>>=◌ positionals plain marker_first
follows l at zero os rest g y e f =
    joined_follows l at os rest g.items y g.ambiguous g.marker (rw (e, split_from) at f)
follows l at (suc i) os rest g y e f =
    let same = ok_same e in
    let whole = ok_same f in
    let z : Split = record { groups = positionals rest; marker = none; ambiguous = none } in
    subst
    (λ (g : Group). Follows l at (suc i) os rest g.items g.ambiguous g.marker y)
    same
    (record {
      later = positionals rest;
      groups = sym (ap (λ (x : Split). x.groups) whole);
      stops = λ j g. some≢none (sym g);
      goes = λ g. (z, refl, refl, refl, sym (ap (λ (x : Split). x.ambiguous) whole));
    })

-- ---- the line
too_long : (l : Letters) (s : List ℕ) (x : Split) → split_from l 0 (arguments s) ≡ ok x → 256 < length (items_of x) → line_for l s ≡ ok too_many
unfolding line_of ◌>>=◌
too_long l s x e h = rw (e, lt-ltb 256 (length (items_of x)) h)

-- what is written at the start of a slice stands there
written_first : (w b : List ℕ) (n : ℕ) → length w ≡ n → n ≤ length b → take n (sets b 0 w) ≡ w
written_first w b n e h = ap (take n) (sets-eq w b 0 (omega arith)) ∙ take_at w (drop (0 + length w) b) n e

module _ (l : Letters) (s b o : List ℕ) (x : Split) (c m : ℕ) where
  ends :
      split_from l 0 (arguments s) ≡ ok x
      → length (items_of x) ≡ c
      → c ≤ 256
      → m ≤ c
      → x.marker ≡ marker_of m
      → o ≡ sets b 0 (records_from 0 (arguments s) x.groups)
      → length (records_from 0 (arguments s) x.groups) ≡ 7 * c
      → 1792 ≤ length b
      → (number place : ℕ)
      → number ≡ refusal_number (ambiguity x.ambiguous)
      → place ≡ refusal_place (ambiguity x.ambiguous)
      → SplitWrites l s o (record { number = number; place = place; count = c; marker = m })
  unfolding line_of ◌>>=◌
  ends e size few within marker put long room number place nu pl =
      let st = starts c m few within in
      record {
        line = record {
          refusal = ambiguity x.ambiguous;
          items = items_of x;
          records = records_from 0 (arguments s) x.groups;
          state = st.state;
        };
        same = rw (e, le-ltb 256 (length (items_of x)) (omega arith), size, marker, st.same);
        number = nu;
        place = pl;
        words = ap (take (7 * c)) put ∙ written_first (records_from 0 (arguments s) x.groups) b (7 * c) long (omega arith);
        marked = record { few = few; within = within };
        state = st.raw;
      }

-- ---- a turn of the loop
module _ (l : Letters) (s items : List ℕ) (given : SheetAndRoom s items) (o : List ℕ) (k at m : ℕ) (z : SplitSoFar l s items o k at m)
    (c : ℕ) (f : c ≡ argument_count s) (t : k < c) where
  h : GoodSheet s
  h = good_sheet s given.checked

  inside : k < argument_count s
  inside = omega arith

  abbrev here : List ℕ
  here = entry_of 2 (argument_count s) s k

  pub has_offset : area_start 2 k ≤ length s
  has_offset = offset_there s h k inside

  pub has_argument : HasEntry 2 c s k
  has_argument = rw f (has_entry s h k inside)

  -- what the code calls the argument and its offset
  module _ (os : List ℕ) (begin : ℕ) (e : os ≡ entry_of 2 c s k) (b : begin ≡ offset 2 s k) where
    pub fits_here : ArgumentFits os begin at
    fits_here = rw (e, f, b) (argument_fits s h k inside at z.few)

    module _ (p : List ℕ) (r : Made) (made : Makes os begin at o p r (group_at l m os)) where
      w : Makes here (offset 2 s k) at o p r (group_at l m here)
      w =
          subst (λ (x : List ℕ). Makes x (offset 2 s k) at o p r (group_at l m x)) (e ∙ ap (λ (j : ℕ). entry_of 2 j s k) f)
          (subst (λ (y : ℕ). Makes os y at o p r (group_at l m os)) b made)

      recs : List ℕ
      recs = concat_map (item_words (offset 2 s k) (offset 2 s k + length here)) w.group.items

      next : Follows l at m here (drop (k + 1) (arguments s)) w.group.items w.group.ambiguous w.group.marker z.rest
      next = follows l at m here (drop (k + 1) (arguments s)) w.group z.rest w.same (rw (argument_next s h k inside) at z.left)

      count : r.count ≡ length w.group.items
      count = ap (λ (x : Made). x.count) w.told≡

      groups : z.whole.groups ≡ z.done ++ (w.group.items ∷ next.later)
      groups = ap (λ (x : Split). x.groups) z.joins ∙ ap (λ (gs : List (List Item)). z.done ++ gs) next.groups

      total : length (items_of z.whole) ≡ at + (length w.group.items + length (flatten next.later))
      unfolding items_of flatten
      total =
          let e = z.places in
          let f = ap (λ (gs : List (List Item)). length (flatten gs)) groups in
          omega (
            arith,
            ap length (flatten_append z.done (w.group.items ∷ next.later)),
            length-append (flatten z.done) (flatten (w.group.items ∷ next.later)),
            length-append w.group.items (flatten next.later),
          )

      pub count_few : r.count ≤ 256 - at → at + r.count ≤ 256
      count_few c = omega (arith, z.few)

      fits : r.count ≤ 256 - at → p ≡ sets o (7 * at) recs
      unfolding recs
      fits c = w.words ∙ sym (has_room o at (length w.group.items) _ (omega (arith, count, z.few)))

      written : r.count ≤ 256 - at → p ≡ sets items 0 (z.words ++ recs)
      written c =
          let size = z.size in
          let place : 7 * at ≡ 0 + length z.words = omega arith in
          fits c
          ∙ ap (λ (x : List ℕ). sets x (7 * at) recs) z.put
          ∙ ap (λ (j : ℕ). sets (sets items 0 z.words) j recs) place
          ∙ sym (sets_append z.words recs items 0)

      more_records :
          (ys : List (List Item))
          → records_from 0 (arguments s) (z.done ++ (w.group.items ∷ ys))
          ≡ (z.words ++ recs) ++ records_from (offset 2 s (k + 1)) (drop (k + 1) (arguments s)) ys
      unfolding records_from recs
      more_records ys =
          z.recorded (w.group.items ∷ ys)
          ∙ ap (λ (args : List (List ℕ)). z.words ++ records_from (offset 2 s k) args (w.group.items ∷ ys)) (argument_next s h k inside)
          ∙ ap (λ (b : ℕ). z.words ++ (recs ++ records_from b (drop (k + 1) (arguments s)) ys)) (argument_end s h k inside)
          ∙ sym (append_assoc z.words recs (records_from (offset 2 s (k + 1)) (drop (k + 1) (arguments s)) ys))

      recs_size : length recs ≡ 7 * length w.group.items
      unfolding recs records_from flatten
      recs_size =
          let e = records_from_length (offset 2 s k) (here ∷ []) (w.group.items ∷ []) (omega arith) in
          sym (ap length (append-nil recs)) ∙ e ∙ omega (arith, length-append w.group.items [])

      -- ---- 8
      pub too_many_lem : 256 - at < r.count → (number : ℕ) → number ≡ 8 → SplitWrites l s p (record { number = number; place = 0; count = 0; marker = 0 })
      unfolding too_many
      too_many_lem c number eight = record {
        line = too_many;
        same = too_long l s z.whole z.all (omega (arith, total, count, z.few));
        number = eight;
        place = refl;
        words = refl;
        marked = record { few = omega arith; within = omega arith };
        state = empty_raw;
      }

      -- ---- on with the next
      pub goes_on :
          r.count ≤ 256 - at
          → r.ambiguous ≡ None
          → (m' : ℕ)
          → m' ≡ marker_after m r.marker at
          → SplitSoFar l s items p (k + 1) (at + r.count) m'
      unfolding flatten
      goes_on c a m' e =
          let none_left = which_none w.group.ambiguous (sym (ap (λ (x : Made). x.ambiguous) w.told≡) ∙ a) in
          let x = next.goes none_left in
          let marker : m' ≡ marker_after m w.group.marker at = e ∙ ap (λ (b : Bool). marker_after m b at) (ap (λ (x : Made). x.marker) w.told≡) in
          record {
            done = z.done ++ (w.group.items ∷ []);
            words = z.words ++ recs;
            whole = z.whole;
            rest = x.0;
            all = z.all;
            left = ap₂ (λ (a b : ℕ). rest_from l a (at + b) (drop (k + 1) (arguments s))) marker count ∙ x.1;
            joins =
                z.joins
                ∙ (λ i. record {
                  groups = (ap (λ (gs : List (List Item)). z.done ++ gs) (next.groups ∙ ap (λ (gs : List (List Item)). w.group.items ∷ gs) x.2)
                      ∙ sym (append_assoc z.done (w.group.items ∷ []) x.0.groups)) i;
                  marker = (x.3 ∙ ap (λ (j : ℕ). marker_first j x.0.marker) (sym marker)) i;
                  ambiguous = x.4 i;
                });
            recorded = λ ys.
                ap (records_from 0 (arguments s)) (append_assoc z.done (w.group.items ∷ []) ys) ∙ more_records ys;
            put = written c;
            size = omega (arith, length-append z.words recs, z.size, recs_size, count);
            places =
                let e = z.places in
                omega (
                  arith,
                  ap length (flatten_append z.done (w.group.items ∷ [])),
                  length-append (flatten z.done) (flatten (w.group.items ∷ [])),
                  length-append w.group.items [],
                  count,
                );
            few = omega (arith, z.few);
            within = omega arith;
            long = ap length (fits c) ∙ length-sets o (7 * at) recs ∙ z.long;
          }

      -- ---- 9
      module _ (fit : r.count ≤ 256 - at) (i : ℕ) (a : r.ambiguous ≡ Some i) where
        this : w.group.ambiguous ≡ some i
        this = which_some w.group.ambiguous i (sym (ap (λ (x : Made). x.ambiguous) w.told≡) ∙ a)

        whole_ambiguous : z.whole.ambiguous ≡ some (at + i)
        whole_ambiguous = ap (λ (x : Split). x.ambiguous) z.joins ∙ (next.stops i this).2

        last_groups : z.whole.groups ≡ z.done ++ (w.group.items ∷ [])
        last_groups = groups ∙ ap (λ (gs : List (List Item)). z.done ++ (w.group.items ∷ gs)) (next.stops i this).0

        last_total : length (items_of z.whole) ≡ at + r.count
        unfolding flatten
        last_total = omega (arith, total, count, ap (λ (gs : List (List Item)). length (flatten gs)) (next.stops i this).0)

        pub ambiguous_few : at + i + 1 ≤ 256
        ambiguous_few = omega (arith, last_total, (ambiguous_law l (arguments s) z.whole (at + i) z.all whole_ambiguous).1, z.few)

        pub place_few : at + i ≤ 256
        place_few = omega (arith, ambiguous_few)

        pub ambiguous_letter_lem : (number : ℕ) → number ≡ 9 → SplitWrites l s p (record { number = number; place = at + i + 1; count = at + r.count; marker = 0 })
        unfolding ambiguity records_from
        ambiguous_letter_lem number nine =
            let records : records_from 0 (arguments s) z.whole.groups ≡ z.words ++ recs =
            ap (records_from 0 (arguments s)) last_groups ∙ more_records [] ∙ append-nil (z.words ++ recs) in
            ends l s items p z.whole (at + r.count) 0 z.all last_total (omega (arith, z.few)) (omega arith)
            (ambiguous_law l (arguments s) z.whole (at + i) z.all whole_ambiguous).0
            (written fit ∙ ap (sets items 0) (sym records))
            (omega (arith, ap length records, length-append z.words recs, z.size, recs_size, count))
            given.room
            number (at + i + 1)
            (nine ∙ sym (ap (λ (a : Option ℕ). refusal_number (ambiguity a)) whole_ambiguous))
            ((let e : at + i + 1 ≡ suc (at + i) = omega arith in e)
            ∙ sym (ap (λ (a : Option ℕ). refusal_place (ambiguity a)) whole_ambiguous))

-- ---- the last argument is done
module _ (l : Letters) (s items : List ℕ) (given : SheetAndRoom s items) (o : List ℕ) (k at m : ℕ) (z : SplitSoFar l s items o k at m)
    (c : ℕ) (f : c ≡ argument_count s) (t : c ≤ k) where
  no_more : drop k (arguments s) ≡ []
  no_more = let h : length (arguments s) ≤ k = omega (arith, arguments_length s) in drop_of_length-le (arguments s) h

  nothing_left : z.rest ≡ record { groups = []; marker = none; ambiguous = none }
  unfolding rest_from split_from positionals
  nothing_left = go m (rw no_more at z.left)
    where
      go : (m : ℕ) → rest_from l m at [] ≡ ok z.rest → z.rest ≡ record { groups = []; marker = none; ambiguous = none }
      go zero e = sym (ok_same e)
      go (suc i) e = sym (ok_same e)

  all_groups : z.whole.groups ≡ z.done
  all_groups =
      ap (λ (x : Split). x.groups) z.joins
      ∙ ap (λ (x : Split). z.done ++ x.groups) nothing_left
      ∙ append-nil z.done

  marker_is : z.whole.marker ≡ marker_of m
  unfolding marker_first
  marker_is = ap (λ (x : Split). x.marker) z.joins ∙ ap (λ (x : Split). marker_first m x.marker) nothing_left ∙ go m
    where
      go : (m : ℕ) → marker_first m none ≡ marker_of m
      go zero = refl
      go (suc i) = refl

  no_ambiguous : z.whole.ambiguous ≡ none
  no_ambiguous = ap (λ (x : Split). x.ambiguous) z.joins ∙ ap (λ (x : Split). x.ambiguous) nothing_left

  all_items : length (items_of z.whole) ≡ at
  unfolding items_of
  all_items = ap (λ (gs : List (List Item)). length (flatten gs)) all_groups ∙ sym z.places

  marker_few : m ≤ at
  marker_few = go m marker_is
    where
      go : (m : ℕ) → z.whole.marker ≡ marker_of m → m ≤ at
      go zero e = omega arith
      go (suc i) e =
          let law = marker_law l (arguments s) z.whole z.all no_ambiguous in
          let here = subst (λ (a : Option ℕ). MarkerAt (length (items_of z.whole)) (has_marker (arguments s)) a) e law in
          omega (arith, here.1, all_items)

  pub marker_small : m ≤ 256
  marker_small = omega (arith, marker_few, z.few)

  pub all_done : SplitWrites l s o (record { number = 0; place = 0; count = at; marker = m })
  unfolding ambiguity records_from
  all_done =
      let records : records_from 0 (arguments s) z.whole.groups ≡ z.words =
      ap (records_from 0 (arguments s)) (all_groups ∙ sym (append-nil z.done))
      ∙ z.recorded []
      ∙ append-nil z.words in
      ends l s items o z.whole at m z.all all_items z.few marker_few marker_is
      (z.put ∙ ap (sets items 0) (sym records))
      (omega (arith, ap length records, z.size))
      given.room
      0 0
      (sym (ap (λ (a : Option ℕ). refusal_number (ambiguity a)) no_ambiguous))
      (sym (ap (λ (a : Option ℕ). refusal_place (ambiguity a)) no_ambiguous))
