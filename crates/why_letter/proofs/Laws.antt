-- What each part tells of the letter, from what its steps give.
use mathlib.Core.Bool.{Bool, true, false, not, ◌||◌}
use mathlib.Core.List.{List, [], ◌∷◌}
use mathlib.Core.Logic.{⊎_elim}
use mathlib.Core.Option.{some}
use mathlib.Core.Path.{◌≡◌, refl, sym, ap, ◌∙◌}
use Prim.Native.Nat.{ℕ, suc, ◌+◌, ◌-◌, ◌≤◌, ◌<◌}
use native.Mathlib.Omega.{arith}
use lib.ListN.{length, get_elem?, drop}
use borrow.Author.Tests.{not-true, not-false}
use types.Run.{OneOf}
use denote.Enum.Declared.{tag_of}
use Rattle.utf8.specs.Utf8.{decode_at, well_formed}
use Rattle.utf8.specs.Laws.{character}
use Rattle.std.specs.Prelude.{Option, Some, None}
use Rattle.utf8.specs.declared.Char.{Char}
use Rattle.rules.specs.Base.{contains}
use Rattle.rules.specs.Outcome.{ok}
use Rattle.rules.specs.Accept.{Letters}
use Rattle.rules.specs.Split as rules
use Rattle.rules.specs.Split.{Letter, cluster_from}
use Rattle.rules.specs.Calls.{item_from}
use Rattle.rules.specs.Why.{first_unknown}
use Rattle.rules.specs.WhyAnswered.{adjacent_short, behind_adjacent}
use Rattle.rules.proofs.Acceptance.{lookup_some}
use Rattle.rules.proofs.SplitLaws.{cluster_ok, ok_injective}
use Rattle.split_arg.specs.Clusters.{letters}
use Rattle.split_arg.proofs.LookUp.{letters_from, Next, next, none_left}
use Rattle.split_arg.specs.declared.Part.{Part}
use Rattle.split_arg.specs.declared.Item.{Item}
use Rattle.split_arg.specs.declared.Item.TheVariants.{Short, Long, ArgWord, Word, PosWord}
use Rattle.split_arg.specs.contracts.Item as T
use Rattle.split_arg.specs.Items.{record_at, item_of}
use Rattle.take_search.proofs.Items.{is_short_lem, is_long_lem, is_arg_word_lem, is_word, is_pos_word_lem}
use Rattle.why_letter.specs.Withdrawn.{SmallLetter, RestTold, LetterTold}

-- ---- the item before a place
pub rest_first : (words : List ℕ) (i : ℕ) → i ≡ 0 → RestTold words i false
unfolding behind_adjacent
rest_first words i e = record { same = λ area is t h. rw e }

before : (is : List rules.Item) (k : ℕ) (x : rules.Item) → get_elem? is k ≡ some x → behind_adjacent is (suc k) ≡ adjacent_short x
unfolding behind_adjacent
before is k x e = rw (e, behind_adjacent)

module _ (words : List ℕ) (i : ℕ) (some-before : i ≡ 0 → ⊥) (item : Item) (q : item ≡ item_of (record_at words (i - 1))) where
  -- what is told of the item before
  before_told : (r : Bool) → ((area : List ℕ) (x : rules.Item) → item_from area (record_at words (i - 1)) ≡ some x → r ≡ adjacent_short x) → RestTold words i r
  unfolding behind_adjacent
  before_told r told = record {
    same = λ area is t h.
        let x = lookup_some is (i - 1) (omega arith) in
        let n : i ≡ suc (i - 1) = omega arith in
        told area x.0 (t.at (i - 1) x.0 x.1) ∙ sym (ap (behind_adjacent is) n ∙ before is (i - 1) x.0 x.1);
  }

  pub rest_short : (c : ℕ) (own : Bool) (t : Part) → item ≡ Short c own t → RestTold words i own
  unfolding adjacent_short
  rest_short c own t e = before_told own (λ area x h. rw (is_short_lem area (record_at words (i - 1)) x h item q c own t e).0)

  pub rest_other : OneOf (1 ∷ 2 ∷ 3 ∷ 4 ∷ []) (tag_of T.the_type item) → RestTold words i false
  unfolding adjacent_short
  rest_other k = before_told false (λ area x h. go area x h item refl k)
    where
      go : (area : List ℕ) (x : rules.Item) → item_from area (record_at words (i - 1)) ≡ some x → (z : Item) → item ≡ z → OneOf (1 ∷ 2 ∷ 3 ∷ 4 ∷ []) (tag_of T.the_type z) → false ≡ adjacent_short x
      go area x h (Short d a t) e k =
          absurd (⊎_elim (λ (w : ◌≡◌ {A = ℕ} 0 1). omega arith) (⊎_elim (λ (w : ◌≡◌ {A = ℕ} 0 2). omega arith)
          (⊎_elim (λ (w : ◌≡◌ {A = ℕ} 0 3). omega arith) (λ (w : ◌≡◌ {A = ℕ} 0 4). omega arith))) k)
      go area x h (Long n a t) e k = rw (is_long_lem area (record_at words (i - 1)) x h item q n a t e).0
      go area x h (ArgWord t) e k = rw (is_arg_word_lem area (record_at words (i - 1)) x h item q t e).0
      go area x h (Word t) e k = rw (is_word area (record_at words (i - 1)) x h item q t e).0
      go area x h (PosWord t) e k = rw (is_pos_word_lem area (record_at words (i - 1)) x h item q t e).0

-- ---- no letter
pub none_small : SmallLetter None
none_small = record { small = λ c e. absurd (let z : ◌≡◌ {A = ℕ} 0 1 = cc in omega arith) }

-- ---- a letter among others
pub known_flag : (f a : Bool) (r : Bool) → r ≡ f → r ≡ true → true ≡ (f || a)
known_flag f a r e t = let z : f ≡ true = sym e ∙ t in rw z

pub known_else : (f a : Bool) (r : Bool) → r ≡ f → r ≡ false → (q : Bool) → q ≡ a → q ≡ (f || a)
known_else f a r e n q d = let z : f ≡ false = sym e ∙ n in rw z d

-- ---- the letters of a name, one after the other
-- those from byte `at` on decide
pub record Seeking (l : Letters) (name : List ℕ) (at : ℕ) : Type 0 where
  pub left : List Letter
  pub further : letters_from name at ≡ ok left
  pub good : well_formed (drop at name) ≡ true
  pub within : at ≤ length name
  pub same : (ls : List Letter) → cluster_from 0 0 name ≡ ok ls → first_unknown l ls ≡ first_unknown l left

pub seeking_first : (l : Letters) (name : List ℕ) → well_formed name ≡ true → Seeking l name 0
unfolding well_formed
seeking_first l name w =
    let (ls, e) = cluster_ok 0 0 name w in
    record { left = ls; further = e; good = w; within = omega arith; same = λ all h. ap (first_unknown l) (ok_injective (sym h ∙ e)) }

module _ (fl ar name : List ℕ) (at : ℕ) (z : Seeking (letters fl ar) name at) (x : Option Char) (d : x ≡ decode_at name at) where
  pub seeking_end : x ≡ None → LetterTold (letters fl ar) name None
  unfolding first_unknown
  seeking_end b =
      let gone = none_left name z.left at z.further z.good z.within (sym d ∙ b) in
      record { letter = none_small; same = λ ls h. sym (z.same ls h ∙ ap (first_unknown (letters fl ar)) gone) }

  module _ (c : Char) (b : x ≡ Some c) (r : Bool) (k : r ≡ (contains fl c.value || contains ar c.value)) where
    here : Next name z.left at c
    here = next name z.left at z.further z.good c (sym d ∙ b)

    pub seeking_hit : not r ≡ true → LetterTold (letters fl ar) name (Some c.value)
    unfolding first_unknown
    seeking_hit e =
        let unknown : (contains fl c.value || contains ar c.value) ≡ false = sym k ∙ not-true r e in
        record {
          letter = record { small = λ e h. let y : c.value ≡ e = cc in omega (arith, (character name at c (sym d ∙ b)).bound) };
          same = λ ls h. sym (z.same ls h ∙ ap (first_unknown (letters fl ar)) here.first ∙ rw unknown);
        }

    pub seeking_next : not r ≡ false → Seeking (letters fl ar) name (at + c.size)
    unfolding first_unknown
    seeking_next e =
        let known : (contains fl c.value || contains ar c.value) ≡ true = sym k ∙ not-false r e in
        record {
          left = here.later;
          further = here.further;
          good = here.good;
          within = (character name at c (sym d ∙ b)).within;
          same = λ ls h. z.same ls h ∙ ap (first_unknown (letters fl ar)) here.first ∙ rw known;
        }

    pub letter_fits : length name < 18446744073709551616 → at + c.size < 18446744073709551616
    letter_fits h = omega (arith, (character name at c (sym d ∙ b)).within)

    pub seeking_less : length name - (at + c.size) < length name - at
    seeking_less = let w = character name at c (sym d ∙ b) in omega (arith, w.some, w.within)
