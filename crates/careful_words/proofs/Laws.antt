-- From what each step gives to what the careful run looks for.
use mathlib.Core.Bool.{Bool, true, false, not, ◌&&◌}
use mathlib.Core.List.{List, [], ◌∷◌, flatten}
use mathlib.Core.Logic.{inl}
use mathlib.Core.Option.{some, none, some-injective}
use mathlib.Core.Path.{◌≡◌, refl, sym, ap, subst, ◌∙◌}
use Prim.Native.Nat.{ℕ, zero, suc, ◌+◌, ◌-◌, ◌*◌, ◌/◌, ◌≤◌, ◌<◌}
use native.Mathlib.Omega.{arith}
use lib.Dec.{eqb, lit<}
use lib.ListN.{length, get_or, drop, length-drop}
use lib.Seq.{get_or-take, get_or-drop, length-take-le}
use native.Mathlib.Nat.{add-zero}
use borrow.Author.Tests.{eq-eqb, ne_eqb, eqb-true, eqb-false}
use Rattle.std.specs.Prelude.{if◌then◌else◌}
use Rattle.wire.specs.Wire.{area_start, area as wire_area}
use Rattle.wire.specs.Laws.{good_table, start_most}
use Rattle.rules.specs.Base.{numbers, first_fault}
use Rattle.rules.specs.Sheet.{argument_count, sheet_area, sheet_fault, arguments}
use Rattle.rules.specs.Accept.{Letters}
use Rattle.rules.specs.Split as rules
use Rattle.rules.specs.Split.{dash, Split, items_of}
use Rattle.rules.specs.Calls.{item_from}
use Rattle.rules_careful.specs.Careful.{looks_like_options, is_misread, first_misread}
use Rattle.rules.specs.WhyAnswered.{behind_adjacent}
use Rattle.rules.proofs.Acceptance.{lookup_some}
use Rattle.rules.proofs.Formats.{good_sheet}
use Rattle.rules.proofs.SplitLaws.{some≢none}
use Rattle.rules_careful.proofs.LooksLaws.{reads_as, misread_is}
use Rattle.split_arg.specs.declared.Part.{Part}
use Rattle.split_arg.specs.declared.Item.{Item}
use Rattle.split_arg.specs.declared.Item.TheVariants.{Short, Long, ArgWord, Word, PosWord}
use Rattle.split_arg.specs.Items.{record_at, part_at, item_of}
use Rattle.take_search.specs.Items.{Table, part_bytes}
use Rattle.take_search.proofs.Items.{is_short_lem, is_long_lem, is_arg_word_lem, is_word, is_pos_word_lem}
use Rattle.why_letter.specs.Withdrawn.{RestTold}
use Rattle.careful_words.specs.Looking.{looks_word, LineIs, HasLine, BeginsRecord, WordLooks, LooksAt, Finds}

-- ---- a text
pub looks_short : (os : List ℕ) → length os < 2 → false ≡ looks_like_options os
unfolding looks_like_options
looks_short [] h = refl
looks_short (b ∷ []) h = refl
looks_short (b ∷ c ∷ os) h = absurd (omega arith)

pub looks_first : (os : List ℕ) → 2 ≤ length os → eqb (get_or os 0 0) 45 ≡ looks_like_options os
unfolding looks_like_options dash
looks_first [] h = absurd (omega arith)
looks_first (b ∷ []) h = absurd (omega arith)
looks_first (b ∷ c ∷ os) h = refl

-- ---- a search place by place
module _ (p : ℕ → Bool) where
  -- from k on, n places
  none_fault : (n k : ℕ) → ((i : ℕ) → k ≤ i → i < k + n → p i ≡ false) → first_fault (λ i. not (p i)) k (numbers n k) ≡ none
  unfolding first_fault numbers
  none_fault zero k h = refl
  none_fault (suc n) k h = rw (h k (omega arith) (omega arith)) (none_fault n (suc k) (λ i a b. h i (omega arith) (omega arith)))

  one_fault : (n k j : ℕ) → k ≤ j → j < k + n → p j ≡ true → ((i : ℕ) → k ≤ i → i < j → p i ≡ false) → first_fault (λ i. not (p i)) k (numbers n k) ≡ some j
  unfolding first_fault numbers
  one_fault zero k j a b t h = absurd (omega arith)
  one_fault (suc n) k j a b t h = go (λ e. one_fault n (suc k) j (omega arith) (omega arith) t (λ i a b. h i (omega arith) b)) (eqb k j) refl
    where
      go : ((k ≡ j → ⊥) → first_fault (λ i. not (p i)) (suc k) (numbers n (suc k)) ≡ some j) → (e : Bool) → eqb k j ≡ e
          → first_fault (λ i. not (p i)) k (numbers (suc n) k) ≡ some j
      go more true e = let s : k ≡ j = eqb-true k j e in rw (s, t)
      go more false e = let d = eqb-false k j e in rw (h k (omega arith) (omega arith)) (more d)

module _ (s words : List ℕ) (from count : ℕ) where
  -- no place below this one is misread
  pub record Clean (i : ℕ) : Type 0 where
    pub behind : from ≤ i
    pub none : (l : Letters) (x : Split) → LineIs s words count l x → (j : ℕ) → from ≤ j → j < i → is_misread (arguments s) x.groups j ≡ false

  clean_first : Clean from
  clean_first = record { behind = omega arith; none = λ l x g j f h. absurd (omega arith) }

  module _ (i : ℕ) (c : Clean i) where
    module _ (h : i < count) (r : Bool) (t : LooksAt s words count (7 * i) r) where
      clean_next : r ≡ false → Clean (i + 1)
      clean_next f = record {
        behind = omega (arith, c.behind);
        none = λ l x g j a b. go l x g j a b (eqb j i) refl;
      }
        where
          go : (l : Letters) (x : Split) → LineIs s words count l x → (j : ℕ) → from ≤ j → j < i + 1 → (e : Bool) → eqb j i ≡ e
              → is_misread (arguments s) x.groups j ≡ false
          go l x g j a b true e = let z : j ≡ i = eqb-true j i e in ap (is_misread (arguments s) x.groups) z ∙ sym (t.same i refl l x g) ∙ f
          go l x g j a b false e = let d = eqb-false j i e in c.none l x g j a (omega arith)

      found_here : r ≡ true → Finds s words from count i
      unfolding first_misread items_of
      found_here e = record {
        within = omega arith;
        same = λ l x g.
            let n : length (flatten x.groups) ≡ count = g.long in
            rw (ne_eqb i count (λ z. omega arith))
            (one_fault (is_misread (arguments s) x.groups) (length (flatten x.groups) - from) from i c.behind (omega (arith, n, c.behind))
            (sym (t.same i refl l x g) ∙ e) (λ j a b. c.none l x g j a b));
      }

    found_none : count ≤ i → Finds s words from count count
    unfolding first_misread items_of
    found_none h = record {
      within = omega arith;
      same = λ l x g.
          let n : length (flatten x.groups) ≡ count = g.long in
          rw (eq-eqb count count refl)
          (none_fault (is_misread (arguments s) x.groups) (length (flatten x.groups) - from) from (λ j a b. c.none l x g j a (omega (arith, n))));
    }

  -- the same, with the word at which the record of the place begins
  pub record CleanTo (i at : ℕ) : Type 0 where
    pub here : at ≡ 7 * i
    pub clean : Clean i

  pub clean_from : (at : ℕ) → at ≡ 7 * from → CleanTo from at
  clean_from at e = record { here = e; clean = clean_first }

  module _ (i at : ℕ) (c : CleanTo i at) where
    pub is_record : i < count → BeginsRecord count at
    is_record h = record { place = i; here = c.here; below = h }

    module _ (h : i < count) (r : Bool) (t : LooksAt s words count at r) where
      here : LooksAt s words count (7 * i) r
      here = subst (λ (k : ℕ). LooksAt s words count k r) c.here t

      pub clean_on : r ≡ false → CleanTo (i + 1) (at + 7)
      clean_on e = record { here = omega (arith, c.here); clean = clean_next i c.clean h r here e }

      pub found_at : r ≡ true → Finds s words from count i
      found_at e = found_here i c.clean h r here e

    pub found_end : count ≤ i → Finds s words from count count
    found_end h = found_none i c.clean h

    pub ends_fit : HasLine s words count → i < count → at + 7 < 18446744073709551616
    ends_fit g h = omega (arith, g.line.few, c.here)

-- ---- an item
-- word k of record i
word_at_lem : (words : List ℕ) (i k : ℕ) → k < 7 → get_or (record_at words i) k 0 ≡ get_or words (7 * i + k) 0
word_at_lem words i k h = get_or-take 7 (drop (7 * i) words) k 0 h ∙ get_or-drop (7 * i) words k 0

kind_at_lem : (words : List ℕ) (i : ℕ) → get_or (record_at words i) 0 0 ≡ get_or words (7 * i) 0
kind_at_lem words i = word_at_lem words i 0 (lit< tt) ∙ ap (λ (k : ℕ). get_or words k 0) (add-zero (7 * i))

-- by the kind of its record
is_the_word : (r : List ℕ) → get_or r 0 0 ≡ 4 → item_of r ≡ Word (part_at r 5)
unfolding item_of
is_the_word r e = rw (e, item_of)

word_kind : (r : List ℕ) (t : Part) → item_of r ≡ Word t → get_or r 0 0 ≡ 4
unfolding item_of
word_kind r t e = go (eqb (get_or r 0 0) 4) refl
  where
    other : (a b c : Bool) → eqb (get_or r 0 0) 1 ≡ a → eqb (get_or r 0 0) 2 ≡ b → eqb (get_or r 0 0) 3 ≡ c → eqb (get_or r 0 0) 4 ≡ false → ⊥
    other true b c p q u f = let h = rw (p, item_of) at e in let z : ◌≡◌ {A = ℕ} 0 1 = cc in omega arith
    other false true c p q u f = let h = rw (p, q, item_of) at e in let z : ◌≡◌ {A = ℕ} 0 1 = cc in omega arith
    other false false true p q u f = let h = rw (p, q, u, item_of) at e in let z : ◌≡◌ {A = ℕ} 0 1 = cc in omega arith
    other false false false p q u f = let h = rw (p, q, u, f, item_of) at e in let z : ◌≡◌ {A = ℕ} 0 1 = cc in omega arith

    go : (b : Bool) → eqb (get_or r 0 0) 4 ≡ b → get_or r 0 0 ≡ 4
    go true h = eqb-true (get_or r 0 0) 4 h
    go false h = absurd (other (eqb (get_or r 0 0) 1) (eqb (get_or r 0 0) 2) (eqb (get_or r 0 0) 3) refl refl refl h)

no_word : (area r : List ℕ) (y : rules.Item) → item_from area r ≡ some y → (get_or r 0 0 ≡ 4 → ⊥) → looks_word y ≡ false
unfolding looks_word
no_word area r y f n = go (item_of r) refl
  where
    go : (z : Item) → item_of r ≡ z → looks_word y ≡ false
    go (Short c a t) e = rw (is_short_lem area r y f (item_of r) refl c a t e).0
    go (Long m a t) e = rw (is_long_lem area r y f (item_of r) refl m a t e).0
    go (ArgWord t) e = rw (is_arg_word_lem area r y f (item_of r) refl t e).0
    go (Word t) e = absurd (n (word_kind r t e))
    go (PosWord t) e = rw (is_pos_word_lem area r y f (item_of r) refl t e).0

module _ (s words : List ℕ) (count at : ℕ) where
  -- what is told of the item's record
  told_word : (r : Bool)
      → ((i : ℕ) → at ≡ 7 * i → (y : rules.Item) → item_from (sheet_area s) (record_at words i) ≡ some y → r ≡ looks_word y)
      → WordLooks s words count at r
  told_word r h = record { same = λ i w l x g y e. h i w y (g.table.at i y e) }

  pub looks_other : (get_or words at 0 ≡ 4 → ⊥) → WordLooks s words count at false
  looks_other n = told_word false (λ i w y f.
      sym (no_word (sheet_area s) (record_at words i) y f (λ e. n (ap (λ (k : ℕ). get_or words k 0) w ∙ sym (kind_at_lem words i) ∙ e))))

  module _ (k : get_or words at 0 ≡ 4) where
    module _ (i : ℕ) (w : at ≡ 7 * i) where
      abbrev text : Part
      text = part_at (record_at words i) 5

      word_here : (y : rules.Item) → item_from (sheet_area s) (record_at words i) ≡ some y
          → (y ≡ rules.Word (part_bytes (sheet_area s) text)) × (text.offset + text.length ≤ length (sheet_area s))
      word_here y f =
          is_word (sheet_area s) (record_at words i) y f (item_of (record_at words i)) refl text
          (is_the_word (record_at words i) (kind_at_lem words i ∙ sym (ap (λ (j : ℕ). get_or words j 0) w) ∙ k))

      size_is : text.length ≡ get_or words (at + 6) 0
      size_is = rw w (word_at_lem words i 6 (lit< tt))

      offset_is : text.offset ≡ get_or words (at + 5) 0
      offset_is = rw w (word_at_lem words i 5 (lit< tt))

      bytes_long : (y : rules.Item) → item_from (sheet_area s) (record_at words i) ≡ some y → length (part_bytes (sheet_area s) text) ≡ text.length
      unfolding part_bytes
      bytes_long y f =
          let inside = (word_here y f).1 in
          length-take-le text.length (drop text.offset (sheet_area s)) (omega (arith, length-drop text.offset (sheet_area s)))

    pub looks_short_word : get_or words (at + 6) 0 < 2 → WordLooks s words count at false
    unfolding looks_word
    looks_short_word h = told_word false (λ i w y f.
        let long = bytes_long i w y f in
        rw (word_here i w y f).0 (looks_short (part_bytes (sheet_area s) (text i w)) (omega (arith, size_is i w))))

    module _ (two : 2 ≤ get_or words (at + 6) 0) (a : ℕ) (ea : a ≡ area_start 2 (argument_count s)) (o : ℕ) (eo : o ≡ get_or words (at + 5) 0) where
      first_byte : (i : ℕ) (w : at ≡ 7 * i) → get_or (part_bytes (sheet_area s) (text i w)) 0 0 ≡ get_or s (a + o) 0
      unfolding part_bytes sheet_area wire_area
      first_byte i w =
          get_or-take (text i w).length (drop (text i w).offset (sheet_area s)) 0 0 (omega (arith, size_is i w))
          ∙ get_or-drop (text i w).offset (sheet_area s) 0 0
          ∙ get_or-drop (area_start 2 (argument_count s)) s ((text i w).offset + 0) 0
          ∙ ap (λ (k : ℕ). get_or s k 0) (let z : area_start 2 (argument_count s) + ((text i w).offset + 0) ≡ a + o = omega (arith, offset_is i w) in z)

      pub byte_there : HasLine s words count → BeginsRecord count at → a + o < length s
      unfolding sheet_area wire_area
      byte_there g h =
          let i = h.place in
          let w = h.here in
          let (y, e) = lookup_some (items_of g.given) i (omega (arith, h.below, g.line.long)) in
          let inside = (word_here i w y (g.line.table.at i y e)).1 in
          let start = (good_table 2 (argument_count s) s (good_sheet s g.line.made).table).long in
          omega (arith, inside, offset_is i w, size_is i w, length-drop (area_start 2 (argument_count s)) s, start)

      pub byte_fits : HasLine s words count → BeginsRecord count at → length s < 18446744073709551616 → a + o < 18446744073709551616
      byte_fits g h l = omega (arith, byte_there g h)

      pub looks_byte : (r : Bool) → r ≡ eqb (get_or s (a + o) 0) 45 → WordLooks s words count at r
      unfolding looks_word
      looks_byte r e = told_word r (λ i w y f.
          let long = bytes_long i w y f in
          rw (word_here i w y f).0
          (e ∙ ap (λ (b : ℕ). eqb b 45) (sym (first_byte i w)) ∙ looks_first (part_bytes (sheet_area s) (text i w)) (omega (arith, size_is i w))))

-- ---- and all of its argument
and-false : (b : Bool) → (b && false) ≡ false
and-false true = refl
and-false false = refl

and_true_is : (b : Bool) → (b && true) ≡ b
and_true_is true = refl
and_true_is false = refl

reads_word : (b : Bool) (y : rules.Item) → reads_as b y ≡ (not b && looks_word y)
unfolding reads_as looks_word
reads_word b (rules.Short c a t) = sym (and-false (not b))
reads_word b (rules.Long n a t) = sym (and-false (not b))
reads_word b (rules.ArgWord t) = sym (and-false (not b))
reads_word b (rules.Word t) = refl
reads_word b (rules.PosWord t) = sym (and-false (not b))

module _ (s words : List ℕ) (count at : ℕ) (begins : BeginsRecord count at) (r : Bool) (h : WordLooks s words count at r) where
  -- what is told of the place, by the item that stands there
  told : (v : Bool)
      → ((i : ℕ) → at ≡ 7 * i → (x : Split) → Table (sheet_area s) words (items_of x) → i < length (items_of x) → v ≡ (not (behind_adjacent (items_of x) i) && r))
      → LooksAt s words count at v
  told v f = record {
    same = λ i w l x g.
        let inside : i < length (items_of x) = omega (arith, g.long, begins.below, begins.here) in
        let (y, e) = lookup_some (items_of x) i inside in
        f i w x g.table inside
        ∙ ap (λ (b : Bool). not (behind_adjacent (items_of x) i) && b) (h.same i w l x g y e)
        ∙ sym (misread_is l (arguments s) x i y g.splits g.clear e ∙ reads_word (behind_adjacent (items_of x) i) y);
  }

  pub looks_plain : r ≡ false → LooksAt s words count at r
  looks_plain n = told r (λ i w x t b. rw n (sym (and-false (not (behind_adjacent (items_of x) i)))))

  pub looks_word_lem : r ≡ true → (j : ℕ) → j ≡ at / 7 → (z : Bool) → RestTold words j z → LooksAt s words count at (not z)
  looks_word_lem n j q z k = told (not z) (λ i w x t b.
      let same : j ≡ i = omega (arith, w) in
      let rest : RestTold words i z = subst (λ (j : ℕ). RestTold words j z) same k in
      rw n (ap not (rest.same (sheet_area s) (items_of x) t b) ∙ sym (and_true_is (not (behind_adjacent (items_of x) i)))))

pub line_made : (s words : List ℕ) (count : ℕ) → HasLine s words count → sheet_fault s ≡ 0
line_made s words count g = g.line.made

pub line_start : (s words : List ℕ) (count n : ℕ) → HasLine s words count → n ≡ argument_count s → area_start 2 n < 18446744073709551616
line_start s words count n g e = omega (arith, start_most 2 n (inl refl), (good_sheet s g.line.made).few)

pub start_is : (s : List ℕ) (n a : ℕ) → n ≡ argument_count s → a ≡ area_start 2 n → a ≡ area_start 2 (argument_count s)
start_is s n a e d = d ∙ ap (area_start 2) e

pub record_room : (s words : List ℕ) (count at : ℕ) → HasLine s words count → BeginsRecord count at → at + 7 ≤ length words
record_room s words count at g h = omega (arith, g.line.table.room, g.line.long, h.here, h.below)

pub record_before : (s words : List ℕ) (count at j : ℕ) → HasLine s words count → BeginsRecord count at → j ≡ at / 7 → 7 * j ≤ length words
record_before s words count at j g h e = omega (arith, g.line.table.room, g.line.long, h.here, h.below)

-- the place that a search tells is one
module _ (p : ℕ → Bool) where
  hit : (n k j : ℕ) → first_fault (λ i. not (p i)) k (numbers n k) ≡ some j → p j ≡ true
  unfolding first_fault numbers
  hit zero k j e = absurd (some≢none (sym e))
  hit (suc n) k j e = go (hit n (suc k) j) (p k) refl e
    where
      go : (first_fault (λ i. not (p i)) (suc k) (numbers n (suc k)) ≡ some j → p j ≡ true) → (b : Bool) → p k ≡ b
          → (if not b then first_fault (λ i. not (p i)) (suc k) (numbers n (suc k)) else some k) ≡ some j → p j ≡ true
      go more true h e = let z : k ≡ j = some-injective k j e in sym (ap p z) ∙ h
      go more false h e = more e

pub found_misread :
    (from : ℕ) (args : List (List ℕ)) (groups : List (List rules.Item)) (i : ℕ) → first_misread from args groups ≡ some i → is_misread args groups i ≡ true
unfolding first_misread
found_misread from args groups i e = hit (is_misread args groups) (length (flatten groups) - from) from i e
