-- From an argument that became one Word to its first unknown letter, and from a place to its argument.
use mathlib.Core.Bool.{Bool, true, false, not, false≢true}
use mathlib.Core.List.{List, [], ◌∷◌, flatten}
use mathlib.Core.Logic.{⊎_elim}
use mathlib.Core.Option.{Option, some, none}
use mathlib.Core.Path.{◌≡◌, refl, sym, ap, ◌∙◌}
use Prim.Native.Nat.{ℕ, ◌+◌, ◌-◌, ◌*◌, ◌≤◌}
use native.Mathlib.Nat.{sub-zero}
use native.Mathlib.Omega.{arith}
use lib.ListN.{length, take, drop, get_elem?, replicate}
use borrow.Author.Tests.{not-true, not-false}
use types.Run.{OneOf}
use denote.Enum.Declared.{tag_of}
use Rattle.utf8.specs.Utf8.{well_formed}
use Rattle.rules.specs.Base.{is_some, ◌>>?◌}
use Rattle.rules.specs.Sheet.{sheet_area, arguments}
use Rattle.rules.specs.Form.{read_form}
use Rattle.rules.specs.Accept.{Accepted, accepted, check_form, Letters, letters_of}
use Rattle.rules.specs.Split as rules
use Rattle.rules.specs.Split.{Letter, cluster_from, items_of}
use Rattle.rules.specs.Calls.{item_from}
use Rattle.rules.specs.Why.{LeftPlace, line_items, is_whole, argument_at, dashed_name, cluster_letters, first_unknown, unknown_in}
use Rattle.rules.specs.WhyAnswered.{behind_adjacent, Withdrawn}
use Rattle.rules.proofs.Acceptance.{lookup_some, is_some_lem}
use Rattle.rules.proofs.SplitLaws.{same_self}
use Rattle.rules.proofs.LetterLaws.{SameLetters, argument_same}
use Rattle.rules.proofs.ArgumentNames.{NameShape, name_shape, shape_parts}
use Rattle.rules.proofs.WithdrawLaws.{word_withdrawn, stopped, shape_cluster}
use Rattle.rules.proofs.Withdraws.{argument_there, rest_not_whole, word_whole}
use Rattle.form_layout.specs.Layout.{GoodNames}
use Rattle.form_layout.proofs.Sizes.{accepted_names}
use Rattle.form_letters.specs.Letters.{WroteLetters}
use Rattle.form_letters.proofs.Order.{same_letters}
use Rattle.form_letters.proofs.Words.{letters_taken}
use Rattle.split_arg.specs.Clusters.{letters}
use Rattle.split_arg.specs.declared.Part.{Part}
use Rattle.split_arg.specs.declared.Item.{Item}
use Rattle.split_arg.specs.declared.Item.TheVariants.{Short, Long, ArgWord, Word, PosWord}
use Rattle.split_arg.specs.contracts.Item as T
use Rattle.split_arg.specs.Items.{record_at, item_of}
use Rattle.take_search.specs.Items.{part_bytes, HasPart}
use Rattle.take_search.proofs.Items.{is_short_lem, is_long_lem, is_arg_word_lem, is_word, is_pos_word_lem}
use Rattle.why_letter.proofs.Laws.{none_small}
use Rattle.why_letter.proofs.Names.{take_all}
use Rattle.std.specs.Prelude.{Option as CodeOption, None}
use Rattle.why_letter.specs.Withdrawn.{letter_of, LinePlace, CanExplain, SmallLetter, RestTold, LetterTold, ClusterTold, UnknownTold}

-- ---- an argument
same_bytes : {os a b : List ℕ} {c d e f : ℕ} → os ≡ c ∷ d ∷ a → os ≡ e ∷ f ∷ b → d ∷ a ≡ f ∷ b
same_bytes p q = ap (drop 1) (sym p ∙ q)

module _ (l : Letters) (os : List ℕ) (r : Bool) (h : r ≡ is_some (dashed_name os)) where
  pub cluster_none : not r ≡ true → ClusterTold l os None
  unfolding cluster_letters ◌>>?◌ is_some
  cluster_none n = record { letter = none_small; same = λ word. go (dashed_name os) refl (sym h ∙ not-true r n) }
    where
      go : (o : Option (List ℕ)) → dashed_name os ≡ o → is_some o ≡ false → none ≡ (cluster_letters os >>? first_unknown l)
      go none e f = rw (e, cluster_letters)
      go (some name) e f = absurd (false≢true (sym f))

  module _ (n : not r ≡ false) where
    named : (name : List ℕ) × (dashed_name os ≡ some name)
    named = is_some_lem (dashed_name os) (sym h ∙ not-false r n)

    shape : NameShape os named.0
    shape = name_shape os named.0 named.1

    pub name_begins : 1 ≤ length os
    name_begins = let z = ap length shape.bytes in omega arith

    -- the name reaches to the end
    name_whole : take (length os - 1) (drop 1 os) ≡ named.0
    name_whole =
        let s = shape in
        let z : length os - 1 ≡ length (s.first ∷ s.more) = omega (arith, ap length s.bytes) in
        ap (λ (k : ℕ). take k (drop 1 os)) z
        ∙ ap (λ (k : List ℕ). take (length (s.first ∷ s.more)) (drop 1 k)) s.bytes
        ∙ take_all (s.first ∷ s.more)
        ∙ sym s.all

    pub name_good_lem : well_formed (take (length os - 1) (drop 1 os)) ≡ true
    name_good_lem = ap well_formed (name_whole ∙ shape.all) ∙ shape.utf8

    pub cluster_short : (z : CodeOption ℕ) → LetterTold l (take (length os - 1) (drop 1 os)) z → ClusterTold l os z
    unfolding ◌>>?◌
    cluster_short z k = record {
      letter = k.letter;
      same = λ word.
          let w : Withdrawn l os = word_withdrawn l os _ word (shape_parts os named.0 shape) in
          let cluster = (stopped l os w).flags in
          let c = cluster.shape in
          let this : take (length os - 1) (drop 1 os) ≡ c.first ∷ c.more = name_whole ∙ shape.all ∙ same_bytes shape.bytes c.bytes in
          k.same cluster.letters (ap (cluster_from 0 0) this ∙ c.these) ∙ sym (rw (shape_cluster os cluster.letters c));
    }

-- ---- the letters of the form
first_same : (l m : Letters) → SameLetters l m → (ls : List Letter) → first_unknown l ls ≡ first_unknown m ls
unfolding first_unknown
first_same l m s [] = refl
first_same l m s (x ∷ ls) = rw (s.flags x.character, s.arguments x.character, first_same l m s ls)

unknown_same : (l m : Letters) → SameLetters l m → (o : Option (List Letter)) → (o >>? first_unknown l) ≡ (o >>? first_unknown m)
unfolding ◌>>?◌
unknown_same l m s none = refl
unknown_same l m s (some ls) = first_same l m s ls

-- letters that the form's splitting may be done with
pub told_same : (l m : Letters) → SameLetters l m → (os : List ℕ) (r : CodeOption ℕ) → ClusterTold l os r → ClusterTold m os r
told_same l m s os r h = record {
  letter = h.letter;
  same = λ word. h.same (argument_same l m s os ∙ word) ∙ unknown_same l m s (cluster_letters os);
}

pub buffers_told :
    (form : List ℕ) (a : Accepted)
    → check_form form ≡ accepted a
    → (o p : List ℕ) (n : ℕ) (q s : List ℕ) (m : ℕ)
    → o ≡ replicate 128 0
    → q ≡ replicate 128 0
    → WroteLetters form 1 o p n
    → WroteLetters form 2 q s m
    → (os : List ℕ) (r : CodeOption ℕ)
    → ClusterTold (letters (take (n - 0) p) (take (m - 0) s)) os r
    → ClusterTold (letters_of (read_form form)) os r
buffers_told form a e o p n q s m zo zq wo wq os r h =
    let names = accepted_names form a e in
    let flags = ap (λ (j : ℕ). take j p) (sub-zero n) ∙ letters_taken form 1 o p n names zo wo in
    let others = ap (λ (j : ℕ). take j s) (sub-zero m) ∙ letters_taken form 2 q s m names zq wq in
    told_same _ (letters_of (read_form form)) (same_letters form a e) os r (rw (flags, others) at h)

-- ---- a place
pub explain_names : (b codes s words : List ℕ) (i : ℕ) → CanExplain b codes s words i → GoodNames b
explain_names b codes s words i g = accepted_names b g.result g.accepts

pub explain_room : (b codes s words : List ℕ) (i : ℕ) → CanExplain b codes s words i → 7 * i + 7 ≤ length words
explain_room b codes s words i g = omega (arith, g.line.table.room, g.line.below)

pub explain_before : (b codes s words : List ℕ) (i : ℕ) → CanExplain b codes s words i → 7 * i ≤ length words
explain_before b codes s words i g = omega (arith, g.line.table.room, g.line.below)

-- no whole argument, no letter
pub not_whole : (x : LeftPlace) (y : rules.Item) → ((os : List ℕ) → argument_at x.arguments x.groups x.place ≡ some os → is_whole y os ≡ false) → none ≡ unknown_in x y
unfolding unknown_in ◌>>?◌
not_whole x y h = go (argument_at x.arguments x.groups x.place) refl
  where
    go : (o : Option (List ℕ)) → argument_at x.arguments x.groups x.place ≡ o → none ≡ unknown_in x y
    go none e = rw (e, unknown_in)
    go (some os) e = rw (e, unknown_in, h os e)

module _ (b s words : List ℕ) (i : ℕ) where
  pub explain_item : (codes : List ℕ) → CanExplain b codes s words i → (y : rules.Item) × (item_from (sheet_area s) (record_at words i) ≡ some y)
  explain_item codes g =
      let y = lookup_some (line_items g.spot) i g.line.below in
      (y.0, g.line.table.at i y.0 y.1)

  module _ (item : Item) (q : item ≡ item_of (record_at words i)) where
    -- what is told of a place, from its item's record
    told_by :
        (r : CodeOption ℕ)
        → SmallLetter r
        → ((x : LeftPlace) (y : rules.Item) → LinePlace b s words i x → get_elem? (line_items x) i ≡ some y → item_from (sheet_area s) (record_at words i) ≡ some y → letter_of r ≡ unknown_in x y)
        → UnknownTold b s words i r
    told_by r small h = record { letter = small; same = λ x y p e. h x y p e (p.table.at i y e) }

    -- an item that is no Word is no whole argument
    pub other_not_whole :
        OneOf (0 ∷ 1 ∷ 2 ∷ 4 ∷ []) (tag_of T.the_type item)
        → (y : rules.Item)
        → item_from (sheet_area s) (record_at words i) ≡ some y
        → (os : List ℕ)
        → is_whole y os ≡ false
    unfolding is_whole
    other_not_whole k y f os = go item refl k
      where
        go : (z : Item) → item ≡ z → OneOf (0 ∷ 1 ∷ 2 ∷ 4 ∷ []) (tag_of T.the_type z) → is_whole y os ≡ false
        go (Short c a t) e k = rw (is_short_lem _ _ y f item q c a t e).0
        go (Long n a t) e k = rw (is_long_lem _ _ y f item q n a t e).0
        go (ArgWord t) e k = rw (is_arg_word_lem _ _ y f item q t e).0
        go (Word t) e k =
            absurd (⊎_elim (λ (w : ◌≡◌ {A = ℕ} 3 0). omega arith) (⊎_elim (λ (w : ◌≡◌ {A = ℕ} 3 1). omega arith)
            (⊎_elim (λ (w : ◌≡◌ {A = ℕ} 3 2). omega arith) (λ (w : ◌≡◌ {A = ℕ} 3 4). omega arith))) k)
        go (PosWord t) e k = rw (is_pos_word_lem _ _ y f item q t e).0

    pub unknown_other : OneOf (0 ∷ 1 ∷ 2 ∷ 4 ∷ []) (tag_of T.the_type item) → UnknownTold b s words i None
    unknown_other k = told_by None none_small (λ x y p e f. not_whole x y (λ os a. other_not_whole k y f os))

    module _ (t : Part) (d : item ≡ Word t) where
      abbrev text : List ℕ
      text = part_bytes (sheet_area s) t

      pub word_part_lem : (codes : List ℕ) → CanExplain b codes s words i → HasPart s t
      word_part_lem codes g =
          let y = explain_item codes g in
          record { made = g.line.made; inside = (is_word _ _ y.0 y.1 item q t d).1 }

      word_here : (y : rules.Item) → item_from (sheet_area s) (record_at words i) ≡ some y → y ≡ rules.Word text
      word_here y f = (is_word _ _ y f item q t d).0

      module _ (x : LeftPlace) (p : LinePlace b s words i x) where
        same_items : line_items x ≡ items_of p.given
        unfolding line_items items_of
        same_items = ap flatten p.groups

        same_argument : argument_at x.arguments x.groups x.place ≡ argument_at (arguments s) p.given.groups i
        same_argument = rw (p.args, p.groups, p.place)

        module _ (y : rules.Item) (e : get_elem? (line_items x) i ≡ some y) (f : item_from (sheet_area s) (record_at words i) ≡ some y) where
          text_there : get_elem? (items_of p.given) i ≡ some (rules.Word text)
          text_there = sym (ap (λ (is : List rules.Item). get_elem? is i) same_items) ∙ e ∙ ap some (word_here y f)

          behind_is : (r : Bool) → RestTold words i r → behind_adjacent (items_of p.given) i ≡ r
          behind_is r h = sym (h.same (sheet_area s) (line_items x) p.table p.below ∙ ap (λ (is : List rules.Item). behind_adjacent is i) same_items)

          rest_none : RestTold words i true → none ≡ unknown_in x y
          unfolding is_whole
          rest_none h = not_whole x y (λ os a.
              let at = sym same_argument ∙ a in
              rw (word_here y f) (rest_not_whole (letters_of (read_form b)) (arguments s) p.given i text os p.splits p.clear text_there at (behind_is true h)))

          whole_told : RestTold words i false → (r : CodeOption ℕ) → ClusterTold (letters_of (read_form b)) text r → letter_of r ≡ unknown_in x y
          unfolding unknown_in is_whole ◌>>?◌
          whole_told h r told =
              let below = rw same_items at p.below in
              let (os, a) = argument_there (letters_of (read_form b)) (arguments s) p.given i p.splits p.clear below in
              let (w, one) = word_whole (letters_of (read_form b)) (arguments s) p.given i text os p.splits p.clear text_there a (behind_is false h) in
              told.same (rw w one) ∙ rw (word_here y f, same_argument, a, ← w, same_self text, p.form)

      pub unknown_rest : (r : Bool) → RestTold words i r → r ≡ true → UnknownTold b s words i None
      unknown_rest r h e = told_by None none_small (λ x y p g f. rest_none x p y g f (rw e at h))

      pub unknown_word :
          (r : Bool) → RestTold words i r → r ≡ false
          → (os : List ℕ) → os ≡ part_bytes (sheet_area s) t
          → (z : CodeOption ℕ) → ClusterTold (letters_of (read_form b)) os z
          → UnknownTold b s words i z
      unknown_word r h e os o z told = told_by z told.letter (λ x y p g f. whole_told x p y g f (rw e at h) z (rw o at told))
