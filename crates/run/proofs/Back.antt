-- The records that splitting wrote are a table of the items: each record, read from the area, is its item.
use mathlib.Core.Bool.{Bool, true, false}
use mathlib.Core.List.{List, [], ◌∷◌, ◌++◌, flatten, append_assoc, append-nil}
use mathlib.Core.Option.{some, none, none-ne-some}
use mathlib.Core.Path.{◌≡◌, refl, sym, ap, ◌∙◌, subst}
use Prim.Native.Nat.{ℕ, zero, suc, ◌+◌, ◌-◌, ◌*◌, ◌≤◌}
use native.Mathlib.Omega.{arith}
use lib.Dec.{eqb, ltb}
use lib.ListN.{length, take, drop, get_elem?, replicate, length-append, length-drop, length-replicate, take-append-drop}
use lib.Seq.{drop-append-add, drop_at, take_at, take-append_seam, length-take-le}
use borrow.Author.Tests.{le-leb, eqb-true}
use Rattle.rules.specs.Base.{concat_map, ◌>>?◌}
use Rattle.rules.specs.Outcome.{ok}
use Rattle.rules.specs.Sheet.{sheet_area, sheet_fault, arguments}
use Rattle.rules.specs.Accept.{Letters}
use Rattle.rules.specs.Split.{Item, Short, Long, ArgWord, Word, PosWord, item_words, records_from, Split, split_from, items_of}
use Rattle.rules.specs.State.{marker_mark, construct}
use Rattle.rules.specs.Commands.{split_with}
use Rattle.rules.specs.Run.{Line, line_of, too_many, padded}
use Rattle.rules.specs.Calls.{part_in, item_from}
use Rattle.rules.specs.Demands.{All}
use Rattle.rules.proofs.Formats.{arguments_area}
use Rattle.rules.proofs.SplitLaws.{LineGood, record_length, ok_injective, some≢none}
use Rattle.split_arg.specs.declared.Part.{Part}
use Rattle.split_arg.specs.declared.Item.TheVariants as code
use Rattle.split_arg.specs.Items.{part_of}
use Rattle.split_arg.proofs.Records.{from_record}
use Rattle.split_group.proofs.Records.{PartIs, TextIs, text_from, name_from, short_record, long_record, arg_word_record, word_record, pos_word_record}
use Rattle.take_search.specs.Items.{Table}
use Rattle.run.proofs.Within.{Suffix, Within, AllWithin, bind_ok, splits_in}

-- ---- a part of the area
part_back : (pre t post : List ℕ) → part_in (pre ++ (t ++ post)) (length pre) (length t) ≡ some t
unfolding part_in
part_back pre t post =
    let a = length-append pre (t ++ post) in
    let b = length-append t post in
    rw (le-leb (length pre + length t) (length (pre ++ (t ++ post))) (omega arith), drop_at pre (t ++ post) (length pre) refl, take-append_seam t post)

part_nothing : (area : List ℕ) → part_in area 0 0 ≡ some []
unfolding part_in
part_nothing area = rw (le-leb 0 (length area) (omega arith))

-- an empty part has offset 0
part_of_back :
    (area : List ℕ) (o n : ℕ) (t : List ℕ)
    → length t ≡ n
    → part_in area o n ≡ some t
    → part_in area (part_of o n).offset (part_of o n).length ≡ some t
unfolding part_of
part_of_back area o n t l e = go (eqb n 0) refl
  where
    empty : (t : List ℕ) → length t ≡ 0 → [] ≡ t
    empty [] h = refl
    empty (x ∷ t) h = absurd (omega arith)

    go : (b : Bool) → eqb n 0 ≡ b → part_in area (part_of o n).offset (part_of o n).length ≡ some t
    go true h = rw (h, part_of) (part_nothing area ∙ ap some (empty t (l ∙ eqb-true n 0 h)))
    go false h = rw (h, part_of) e

-- ---- an argument in the area
module _ (pre os post : List ℕ) (begin : ℕ) (b : length pre ≡ begin) where
  abbrev area : List ℕ
  area = pre ++ (os ++ post)

  part_inside : (a t c : List ℕ) → a ++ (t ++ c) ≡ os → part_in area (begin + length a) (length t) ≡ some t
  part_inside a t c e =
      let same : (pre ++ a) ++ (t ++ (c ++ post)) ≡ area =
      append_assoc pre a (t ++ (c ++ post))
      ∙ ap (λ (l : List ℕ). pre ++ (a ++ l)) (sym (append_assoc t c post))
      ∙ ap (λ (l : List ℕ). pre ++ l) (sym (append_assoc a (t ++ c) post))
      ∙ ap (λ (l : List ℕ). pre ++ (l ++ post)) e in
      let long : length (pre ++ a) ≡ begin + length a = length-append pre a ∙ ap (λ (n : ℕ). n + length a) b in
      rw (← same, ← long) (part_back (pre ++ a) t (c ++ post))

  suffix_part : (k : ℕ) → k ≤ length os → part_in area (begin + k) (length os - k) ≡ some (drop k os)
  suffix_part k h =
      let whole : take k os ++ (drop k os ++ []) ≡ os = ap (λ (l : List ℕ). take k os ++ l) (append-nil (drop k os)) ∙ take-append-drop k os in
      rw (length-take-le k os h, length-drop k os) at (part_inside (take k os) (drop k os) [] whole)

  name_part : (k : ℕ) → k + 2 ≤ length os → part_in area (begin + 2) (k + 2 - 2) ≡ some (take k (drop 2 os))
  name_part k h =
      let rest = drop 2 os in
      let whole : take 2 os ++ (take k rest ++ drop k rest) ≡ os = ap (λ (l : List ℕ). take 2 os ++ l) (take-append-drop k rest) ∙ take-append-drop 2 os in
      let long : length (take k rest) ≡ k + 2 - 2 = length-take-le k rest (omega (arith, length-drop 2 os)) ∙ omega arith in
      rw (length-take-le 2 os (omega arith), long) at (part_inside (take 2 os) (take k rest) (drop k rest) whole)

  module _ (t : List ℕ) (w : Suffix t os) where
    abbrev part : Part
    part = part_of (begin + w.0) (length os - w.0)

    text_is : TextIs (begin + length os) t part
    text_is = subst (λ (u : List ℕ). TextIs (begin + length os) u part) w.2 (text_from os begin w.0 part w.1 refl)

    text_back : part_in area part.offset part.length ≡ some t
    text_back =
        part_of_back area (begin + w.0) (length os - w.0) t (sym (ap length w.2) ∙ length-drop w.0 os)
        (suffix_part w.0 w.1 ∙ ap some w.2)

  -- the record of an item gives it back
  item_back : (x : Item) → Within os x → item_from area (item_words begin (begin + length os) x) ≡ some x
  unfolding ◌>>?◌
  item_back (Short c a t) w =
      rw (short_record begin (begin + length os) t (part t w) (text_is t w) c a, from_record area (code.Short c a (part t w)), text_back t w)
  item_back (Long n a t) (v, w) =
      let q : Part = part_of (begin + 2) (v.0 + 2 - 2) in
      let words : PartIs (begin + 2) (length n) q =
      subst (λ (u : List ℕ). PartIs (begin + 2) (length u) q) v.2 (name_from os begin v.0 q v.1 refl) in
      let long : length n ≡ v.0 + 2 - 2 =
      sym (ap length v.2) ∙ length-take-le v.0 (drop 2 os) (omega (arith, length-drop 2 os, v.1)) ∙ omega arith in
      let name : part_in area q.offset q.length ≡ some n =
      part_of_back area (begin + 2) (v.0 + 2 - 2) n long (name_part v.0 v.1 ∙ ap some v.2) in
      rw (long_record begin (begin + length os) t (part t w) (text_is t w) n q a words, from_record area (code.Long q a (part t w)), name, text_back t w)
  item_back (ArgWord t) w =
      rw (arg_word_record begin (begin + length os) t (part t w) (text_is t w), from_record area (code.ArgWord (part t w)), text_back t w)
  item_back (Word t) w =
      rw (word_record begin (begin + length os) t (part t w) (text_is t w), from_record area (code.Word (part t w)), text_back t w)
  item_back (PosWord t) w =
      rw (pos_word_record begin (begin + length os) t (part t w) (text_is t w), from_record area (code.PosWord (part t w)), text_back t w)

-- ---- records one after the other
abbrev Recorded : List ℕ → List ℕ → List Item → Type 0
Recorded area words is = (i : ℕ) (x : Item) → get_elem? is i ≡ some x → item_from area (take 7 (drop (7 * i) words)) ≡ some x

recorded_none : (area words : List ℕ) → Recorded area words []
recorded_none area words i x e = absurd (none-ne-some x e)

recorded_more : (area r w : List ℕ) (x : Item) (is : List Item) → length r ≡ 7 → item_from area r ≡ some x → Recorded area w is → Recorded area (r ++ w) (x ∷ is)
recorded_more area r w x is l h later zero y e = rw (take_at r w 7 l) (h ∙ e)
recorded_more area r w x is l h later (suc i) y e =
    let n : 7 * suc i ≡ length r + 7 * i = omega arith in
    rw (n, drop-append-add r w (7 * i)) (later i y e)

module _ (pre os post : List ℕ) (begin : ℕ) (b : length pre ≡ begin) where
  recorded_group :
      (g : List Item) (w : List ℕ) (is : List Item)
      → All (Within os) g
      → Recorded (pre ++ (os ++ post)) w is
      → Recorded (pre ++ (os ++ post)) (concat_map (item_words begin (begin + length os)) g ++ w) (g ++ is)
  unfolding concat_map
  recorded_group [] w is h later = later
  recorded_group (x ∷ g) w is h later =
      rw (append_assoc (item_words begin (begin + length os) x) (concat_map (item_words begin (begin + length os)) g) w)
      (recorded_more (pre ++ (os ++ post)) (item_words begin (begin + length os) x) _ x (g ++ is)
      (record_length begin (begin + length os) x) (item_back pre os post begin b x h.0) (recorded_group g w is h.1 later))

recorded_all :
    (pre : List ℕ) (begin : ℕ) (args : List (List ℕ)) (gs : List (List Item)) (rest : List ℕ)
    → length pre ≡ begin
    → AllWithin args gs
    → Recorded (pre ++ flatten args) (records_from begin args gs ++ rest) (flatten gs)
unfolding records_from flatten
recorded_all pre begin args [] rest b h = recorded_none (pre ++ flatten args) rest
recorded_all pre begin [] (g ∷ gs) rest b h = absurd h
recorded_all pre begin (os ∷ args) (g ∷ gs) rest b h =
    let end = begin + length os in
    let long : length (pre ++ os) ≡ end = length-append pre os ∙ ap (λ (n : ℕ). n + length os) b in
    let later : Recorded (pre ++ (os ++ flatten args)) (records_from end args gs ++ rest) (flatten gs) =
    subst (λ (l : List ℕ). Recorded l (records_from end args gs ++ rest) (flatten gs)) (append_assoc pre os (flatten args))
    (recorded_all (pre ++ os) end args gs rest long h.1) in
    rw (append_assoc (concat_map (item_words begin end) g) (records_from end args gs) rest)
    (recorded_group pre os (flatten args) begin b g (records_from end args gs ++ rest) (flatten gs) h.0 later)

-- ---- a line
-- what the items and records of a line that splitting does not refuse are
record Splits (ls : Letters) (s : List ℕ) (l : Line) : Type 0 where
  whole : Split
  same : split_from ls 0 (arguments s) ≡ ok whole
  items : l.items ≡ items_of whole
  records : l.records ≡ records_from 0 (arguments s) whole.groups

line_splits : (ls : Letters) (s : List ℕ) (l : Line) → split_with ls s ≡ ok l → l.refusal ≡ none → Splits ls s l
unfolding split_with line_of too_many
line_splits ls s l e z =
    let (x, p, q) = bind_ok (split_from ls 0 (arguments s)) (line_of (arguments s)) e in
    go x p (ltb 256 (length (items_of x))) refl q
  where
    go : (x : Split) → split_from ls 0 (arguments s) ≡ ok x → (t : Bool) → ltb 256 (length (items_of x)) ≡ t → line_of (arguments s) x ≡ ok l → Splits ls s l
    go x p true h q = absurd (some≢none (ap (λ (y : Line). y.refusal) (ok_injective (rw h at q)) ∙ z))
    go x p false h q =
        let (u, a, b) = bind_ok (construct marker_mark (length (items_of x)) x.marker) _ (rw h at q) in
        let same = ok_injective b in
        record { whole = x; same = p; items = sym (ap (λ (y : Line). y.items) same); records = sym (ap (λ (y : Line). y.records) same) }

recorded_line :
    (ls : Letters) (s : List ℕ) (x : Split) (records rest : List ℕ) (is : List Item)
    → sheet_fault s ≡ 0
    → split_from ls 0 (arguments s) ≡ ok x
    → records ≡ records_from 0 (arguments s) x.groups
    → is ≡ items_of x
    → Recorded (sheet_area s) (records ++ rest) is
unfolding items_of
recorded_line ls s x records rest is m e a b =
    rw (a, b, ← arguments_area s m) (recorded_all [] 0 (arguments s) x.groups rest refl (splits_in ls 0 (arguments s) x e))

-- the items of a line that is not refused, as they were written
pub line_table :
    (ls : Letters) (s : List ℕ) (l : Line) (n : ℕ)
    → sheet_fault s ≡ 0
    → split_with ls s ≡ ok l
    → l.refusal ≡ none
    → LineGood (arguments s) l
    → 1792 ≤ n
    → Table (sheet_area s) (padded n l.records) l.items
unfolding padded
line_table ls s l n m e z g r =
    let w = line_splits ls s l e z in
    let rest : List ℕ = replicate (n - length l.records) 0 in
    let long = length-append l.records rest in
    let more = length-replicate {A = ℕ} (n - length l.records) 0 in
    record {
      room = omega (arith, g.records, g.few);
      at = recorded_line ls s w.whole l.records rest l.items m w.same w.records w.items;
    }
