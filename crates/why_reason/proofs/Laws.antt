-- What each part of the search tells, from what its steps give.
use mathlib.Core.Bool.{Bool, true, false, not, false≢true}
use mathlib.Core.List.{List, [], ◌∷◌}
use mathlib.Core.Logic.{⊎_elim}
use mathlib.Core.Option.{Option, some, none}
use mathlib.Core.Path.{◌≡◌, refl, sym, ap, ◌∙◌}
use Prim.Native.Nat.{ℕ, suc, ◌+◌, ◌-◌, ◌*◌, ◌≤◌, ◌<◌}
use native.Mathlib.Numerals.{add-one}
use native.Mathlib.Omega.{arith}
use lib.ListN.{length, get_or, get_elem?}
use types.Run.{OneOf}
use denote.Enum.Declared.{tag_of}
use borrow.Author.Tests.{not-true, not-false}
use Rattle.std.specs.Prelude.{if◌then◌else◌, Some, None}
use Rattle.std.specs.Prelude.{Option as Optional}
use Rattle.rules.specs.Base.{all, ◌>>?◌}
use Rattle.rules.specs.Outcome.{ok, ◌>>=◌}
use Rattle.rules.specs.Sheet.{sheet_area}
use Rattle.rules.specs.Form.{Node, read_form}
use Rattle.rules.specs.Accept.{length_good}
use Rattle.rules.specs.Split as rules
use Rattle.rules.specs.Codes.{place_of}
use Rattle.rules.specs.Calls.{item_from}
use Rattle.rules.specs.State.{parsed, winner, only_once}
use Rattle.rules.specs.Take.{is_operand}
use Rattle.rules.specs.Why.{LeftPlace, line_items, lost_choice, given_earlier, reason_code, reason_detail}
use Rattle.rules.specs.Why.{winner_of, is_name, is_arg_word, used_before, names_item, is_unnamed, no_positionals, is_whole, unknown_in, first_reason, reason_at}
use Rattle.rules.proofs.Acceptance.{lookup_some, accepted_length}
use Rattle.rules.proofs.CodeLaws.{place_some}
use Rattle.rules.proofs.WhyLaws.{earlier_ok}
use Rattle.form_codes.specs.Codes.{CodedNames}
use Rattle.form_layout.specs.Layout.{GoodNames}
use Rattle.form_layout.proofs.Sizes.{accepted_names}
use Rattle.split_arg.specs.declared.Item.{Item}
use Rattle.split_arg.specs.declared.Item.TheVariants.{Short, Long, ArgWord, Word, PosWord}
use Rattle.split_arg.specs.contracts.Item as T
use Rattle.split_arg.specs.Items.{record_at, item_of}
use Rattle.state_marks.specs.Lent.{option_of}
use Rattle.take_search.proofs.Items.{is_short_lem, is_long_lem, is_arg_word_lem, is_word, is_pos_word_lem}
use Rattle.take_once.specs.Once.{HasPlace, Earlier}
use Rattle.why_names.specs.Naming.{CanName, FormNames}
use Rattle.std.specs.Prelude.{Option as CodeOption, Some, None}
use Rattle.why_letter.specs.Withdrawn.{letter_of, LinePlace, CanExplain, UnknownTold}
use Rattle.why_letter.proofs.Clusters.{not_whole, explain_item, explain_room}
use Rattle.why_reason.specs.declared.Reason.{Reason}
use Rattle.why_reason.specs.declared.ReasonKind.{ReasonKind}
use Rattle.why_reason.specs.declared.ReasonKind.TheVariants.{LostChoice, GivenEarlier, KeyUsed, Unnamed, NoPositional, UnknownLetter, NoneOfThese}
use Rattle.why_reason.specs.Reasons.{Tells, by_name, by_value, by_operand, by_item, MarkedUp, CanReason, LeftAt, NameTold, ValueTold, OperandTold, ItemTold, FindsReason}

abbrev told : ReasonKind → ℕ → Reason
told kind detail = record { kind = kind; detail = detail }

-- ---- what the calls ask
pub name_asked : (b codes s words : List ℕ) (i : ℕ) → CanExplain b codes s words i → CanName b codes s words i
name_asked b codes s words i g =
    let y = explain_item b s words i codes g in
    record {
      result = g.result;
      accepts = g.accepts;
      coded = g.coded;
      item = record { made = g.line.made; room = explain_room b codes s words i g; item = y.0; here = y.1 };
    }

pub explain_long : (b codes s words : List ℕ) (i : ℕ) → CanExplain b codes s words i → length_good b ≡ true
explain_long b codes s words i g = accepted_length b g.result g.accepts

pub reason_room : (b codes s words m : List ℕ) (i : ℕ) → CanReason b codes s words m i → 7 * i + 7 ≤ length words
reason_room b codes s words m i g = explain_room b codes s words i g.place

pub left_names : (b s words m : List ℕ) (i : ℕ) → LeftAt b s words m i → GoodNames b
left_names b s words m i g = accepted_names b g.result g.accepts

pub left_place_lem : (b s words m : List ℕ) (i : ℕ) → LeftAt b s words m i → HasPlace s words i
left_place_lem b s words m i g = record { made = g.line.made; items = line_items g.spot; table = g.line.table; below = g.line.below }

pub left_coded : (b s words m : List ℕ) (i : ℕ) → LeftAt b s words m i → (codes : List ℕ) → CodedNames b codes → CanReason b codes s words m i
left_coded b s words m i g codes h = record {
  place = record { result = g.result; accepts = g.accepts; coded = h; spot = g.spot; line = g.line };
  long = g.long;
}

pub left_small : (area words : List ℕ) (b s m : List ℕ) (i r : ℕ) → LeftAt b s words m i → Earlier area words i r → r < 4294967296
left_small area words b s m i r g e = omega (arith, g.few, e.within)

-- ---- 4
module _ (b s words : List ℕ) (i : ℕ) (r : Bool) (h : FormNames b (sheet_area s) words i r) where
  abbrev nobody : rules.Item → Bool
  nobody y = all (λ (n : Node). not (names_item (read_form b) y n)) (read_form b).nodes

  pub name_known : r ≡ true → (q : Reason) → q ≡ told NoneOfThese 0 → NameTold b s words i q
  unfolding by_name is_unnamed reason_code reason_detail
  name_known t q d = record {
    same = λ x y p e n.
        let none_left : nobody y ≡ false = not-true (nobody y) (sym (h.same y (p.table.at i y e)) ∙ t) in
        rw d (rw (p.form, n, none_left) (record { code = refl; detail = refl }));
  }

  pub name_unknown : r ≡ false → (q : Reason) → q ≡ told Unnamed 0 → NameTold b s words i q
  unfolding by_name is_unnamed reason_code reason_detail
  name_unknown f q d = record {
    same = λ x y p e n.
        let all_left : nobody y ≡ true = not-false (nobody y) (sym (h.same y (p.table.at i y e)) ∙ f) in
        rw d (rw (p.form, n, all_left) (record { code = refl; detail = refl }));
  }

-- ---- 3
before_first : (marks : List ℕ) → used_before marks 0 ≡ false
unfolding used_before
before_first marks = refl

before_is : (marks : List ℕ) (k m : ℕ) → get_elem? marks k ≡ some m → used_before marks (suc k) ≡ parsed m
unfolding used_before
before_is marks k m e = rw (e, used_before)

module _ (m : List ℕ) (i : ℕ) (q : Reason) where
  value_is : (u : Bool) → ((x : LeftPlace) → MarkedUp x m i → used_before x.marks x.place ≡ u) → q ≡ told (if u then KeyUsed else NoneOfThese) 0 → ValueTold m i q
  unfolding by_value reason_code reason_detail
  value_is true h d = record { same = λ x p. rw d (rw (h x p) (record { code = refl; detail = refl })) }
  value_is false h d = record { same = λ x p. rw d (rw (h x p) (record { code = refl; detail = refl })) }

  pub value_first : i ≡ 0 → q ≡ told NoneOfThese 0 → ValueTold m i q
  value_first e d = value_is false (λ x p. ap (used_before x.marks) (p.place ∙ e) ∙ before_first x.marks) d

  module _ (behind : i ≡ 0 → ⊥) (u : Bool) (h : u ≡ parsed (get_or m (i - 1) 0)) where
    key_is : (x : LeftPlace) → MarkedUp x m i → used_before x.marks x.place ≡ u
    key_is x p =
        let n : i ≡ suc (i - 1) = omega arith in
        ap (used_before x.marks) (p.place ∙ n) ∙ before_is x.marks (i - 1) _ (p.same (i - 1) (omega arith)) ∙ sym h

    pub value_used : u ≡ true → q ≡ told KeyUsed 0 → ValueTold m i q
    value_used t d = value_is true (λ x p. key_is x p ∙ t) d

    pub value_free : u ≡ false → q ≡ told NoneOfThese 0 → ValueTold m i q
    value_free f d = value_is false (λ x p. key_is x p ∙ f) d

-- ---- 5 and 6
module _ (b s words : List ℕ) (i : ℕ) (r : Bool) (h : r ≡ not (no_positionals (read_form b))) where
  pub operand_nobody : not r ≡ true → (q : Reason) → q ≡ told NoPositional 0 → OperandTold b s words i q
  unfolding by_operand reason_code reason_detail
  operand_nobody t q d = record {
    same = λ x y p e.
        let untaken : no_positionals (read_form b) ≡ true = not-false (no_positionals (read_form b)) (sym h ∙ not-true r t) in
        rw d (rw (p.form, untaken) (record { code = refl; detail = refl }));
  }

  module _ (f : not r ≡ false) (u : CodeOption ℕ) (k : UnknownTold b s words i u) where
    taker : no_positionals (read_form b) ≡ false
    taker = not-true (no_positionals (read_form b)) (sym h ∙ not-false r f)

    pub operand_letter : (c : ℕ) → u ≡ Some c → (q : Reason) → q ≡ told UnknownLetter c → OperandTold b s words i q
    unfolding by_operand reason_code reason_detail
    operand_letter c e q d = record {
      same = λ x y p g.
          let known = sym (k.same x y p g) ∙ ap letter_of e in
          rw d (rw (known, p.form, taker) (record { code = refl; detail = refl }));
    }

    pub operand_none : u ≡ None → (q : Reason) → q ≡ told NoneOfThese 0 → OperandTold b s words i q
    unfolding by_operand reason_code reason_detail
    operand_none e q d = record {
      same = λ x y p g.
          let known = sym (k.same x y p g) ∙ ap letter_of e in
          rw d (rw (known, p.form, taker) (record { code = refl; detail = refl }));
    }

-- ---- by the kind of the item
no_letter : (x : LeftPlace) (y : rules.Item) → ((os : List ℕ) → is_whole y os ≡ false) → unknown_in x y ≡ none
no_letter x y h = sym (not_whole x y (λ os a. h os))

for_name : (x : LeftPlace) (y : rules.Item) → is_name y ≡ true → by_item x y ≡ by_name x y
unfolding by_item by_name is_name is_arg_word is_operand is_whole
for_name x (rules.Short c a t) n = rw (no_letter x (rules.Short c a t) (λ os. refl)) refl
for_name x (rules.Long c a t) n = rw (no_letter x (rules.Long c a t) (λ os. refl)) refl
for_name x (rules.ArgWord t) n = absurd (false≢true n)
for_name x (rules.Word t) n = absurd (false≢true n)
for_name x (rules.PosWord t) n = absurd (false≢true n)

for_value : (x : LeftPlace) (t : List ℕ) → by_item x (rules.ArgWord t) ≡ by_value x
unfolding by_item by_value is_name is_unnamed is_arg_word is_operand is_whole
for_value x t = rw (no_letter x (rules.ArgWord t) (λ os. refl)) refl

for_operand : (x : LeftPlace) (y : rules.Item) → is_operand y ≡ true → by_item x y ≡ by_operand x y
unfolding by_item by_operand is_name is_unnamed is_arg_word is_operand
for_operand x (rules.Short c a t) n = absurd (false≢true n)
for_operand x (rules.Long c a t) n = absurd (false≢true n)
for_operand x (rules.ArgWord t) n = absurd (false≢true n)
for_operand x (rules.Word t) n = refl
for_operand x (rules.PosWord t) n = refl

module _ (b s words m : List ℕ) (i : ℕ) (item : Item) (q : item ≡ item_of (record_at words i)) (r : Reason) where
  -- the item of the place is the one that was read
  read_as :
      ((x : LeftPlace) (y : rules.Item) → LinePlace b s words i x → MarkedUp x m i → get_elem? (line_items x) i ≡ some y
      → item_from (sheet_area s) (record_at words i) ≡ some y → Tells (by_item x y) r)
      → ItemTold b s words m i r
  read_as h = record { same = λ x y p k e. h x y p k e (p.table.at i y e) }

  pub item_name : OneOf (0 ∷ 1 ∷ []) (tag_of T.the_type item) → NameTold b s words i r → ItemTold b s words m i r
  unfolding is_name
  item_name k h = read_as (λ x y p j e f. let n = named y f item refl k in rw (for_name x y n) (h.same x y p e n))
    where
      named : (y : rules.Item) → item_from (sheet_area s) (record_at words i) ≡ some y → (z : Item) → item ≡ z → OneOf (0 ∷ 1 ∷ []) (tag_of T.the_type z) → is_name y ≡ true
      named y f (Short c a t) e k = rw (is_short_lem _ _ y f item q c a t e).0
      named y f (Long n a t) e k = rw (is_long_lem _ _ y f item q n a t e).0
      named y f (ArgWord t) e k = absurd (⊎_elim (λ (w : ◌≡◌ {A = ℕ} 2 0). omega arith) (λ (w : ◌≡◌ {A = ℕ} 2 1). omega arith) k)
      named y f (Word t) e k = absurd (⊎_elim (λ (w : ◌≡◌ {A = ℕ} 3 0). omega arith) (λ (w : ◌≡◌ {A = ℕ} 3 1). omega arith) k)
      named y f (PosWord t) e k = absurd (⊎_elim (λ (w : ◌≡◌ {A = ℕ} 4 0). omega arith) (λ (w : ◌≡◌ {A = ℕ} 4 1). omega arith) k)

  pub item_value : OneOf (2 ∷ []) (tag_of T.the_type item) → ValueTold m i r → ItemTold b s words m i r
  item_value k h = read_as (λ x y p j e f. let (t, n) = value y f item refl k in rw (n, for_value x t) (h.same x j))
    where
      value : (y : rules.Item) → item_from (sheet_area s) (record_at words i) ≡ some y → (z : Item) → item ≡ z → OneOf (2 ∷ []) (tag_of T.the_type z) → (t : List ℕ) × (y ≡ rules.ArgWord t)
      value y f (Short c a t) e k = absurd (let w : ◌≡◌ {A = ℕ} 0 2 = k in omega arith)
      value y f (Long n a t) e k = absurd (let w : ◌≡◌ {A = ℕ} 1 2 = k in omega arith)
      value y f (ArgWord t) e k = (_, (is_arg_word_lem _ _ y f item q t e).0)
      value y f (Word t) e k = absurd (let w : ◌≡◌ {A = ℕ} 3 2 = k in omega arith)
      value y f (PosWord t) e k = absurd (let w : ◌≡◌ {A = ℕ} 4 2 = k in omega arith)

  pub item_operand : OneOf (3 ∷ 4 ∷ []) (tag_of T.the_type item) → OperandTold b s words i r → ItemTold b s words m i r
  unfolding is_operand
  item_operand k h = read_as (λ x y p j e f. rw (for_operand x y (operand y f item refl k)) (h.same x y p e))
    where
      operand : (y : rules.Item) → item_from (sheet_area s) (record_at words i) ≡ some y → (z : Item) → item ≡ z → OneOf (3 ∷ 4 ∷ []) (tag_of T.the_type z) → is_operand y ≡ true
      operand y f (Short c a t) e k = absurd (⊎_elim (λ (w : ◌≡◌ {A = ℕ} 0 3). omega arith) (λ (w : ◌≡◌ {A = ℕ} 0 4). omega arith) k)
      operand y f (Long n a t) e k = absurd (⊎_elim (λ (w : ◌≡◌ {A = ℕ} 1 3). omega arith) (λ (w : ◌≡◌ {A = ℕ} 1 4). omega arith) k)
      operand y f (ArgWord t) e k = absurd (⊎_elim (λ (w : ◌≡◌ {A = ℕ} 2 3). omega arith) (λ (w : ◌≡◌ {A = ℕ} 2 4). omega arith) k)
      operand y f (Word t) e k = rw (is_word _ _ y f item q t e).0
      operand y f (PosWord t) e k = rw (is_pos_word_lem _ _ y f item q t e).0

-- ---- the first two, and then the item
module _ (b s words m : List ℕ) (i : ℕ) (w : Optional ℕ) (won : option_of w ≡ winner (get_or m i 0)) (q : Reason) where
  winner_is : (x : LeftPlace) → MarkedUp x m i → winner_of x ≡ option_of w
  unfolding winner_of ◌>>?◌
  winner_is x p = rw (p.place, p.same i (omega arith)) (sym won)

  -- what is given, once it is known what `only_once` finds
  given : (x : LeftPlace) → LinePlace b s words i x → (e : Option ℕ) → only_once (line_items x) i ≡ ok e → (y : rules.Item) → get_elem? (line_items x) i ≡ some y
      → reason_at x ≡ ok (first_reason x y e)
  unfolding reason_at ◌>>=◌
  given x p e d y f =
      let here = ap (get_elem? (line_items x)) p.place ∙ f in
      let once = ap (only_once (line_items x)) p.place ∙ d in
      rw (here, reason_at, once)

  pub found_winner : (k : ℕ) → w ≡ Some k → q ≡ told LostChoice (k + 1) → FindsReason b s words m i q
  unfolding first_reason reason_code reason_detail
  found_winner k n d = record {
    same = λ x p h.
        let y = lookup_some (line_items x) i p.below in
        let e = earlier_ok (line_items x) i p.below in
        let lost : winner_of x ≡ some k = winner_is x h ∙ ap option_of n in
        (lost_choice k, given x p e.0 e.1 y.0 y.1 ∙ rw (lost, first_reason), rw (d, add-one k) (record { code = refl; detail = refl }));
  }

  module _ (none-won : w ≡ None) (r : ℕ) (h : Earlier (sheet_area s) words i r) where
    lost_none : (x : LeftPlace) → MarkedUp x m i → winner_of x ≡ none
    lost_none x k = winner_is x k ∙ ap option_of none-won

    pub found_earlier : (r ≡ 0 → ⊥) → q ≡ told GivenEarlier r → FindsReason b s words m i q
    unfolding first_reason reason_code reason_detail
    found_earlier n d = record {
      same = λ x p k.
          let y = lookup_some (line_items x) i p.below in
          let e = h.same (line_items x) p.table p.below ∙ ap ok (place_some r n) in
          let back : suc (r - 1) ≡ r = omega arith in
          (given_earlier (r - 1), given x p (some (r - 1)) e y.0 y.1 ∙ rw (lost_none x k, first_reason), rw d (record { code = refl; detail = back }));
    }

    pub found_item : r ≡ 0 → ItemTold b s words m i q → FindsReason b s words m i q
    unfolding first_reason by_item place_of
    found_item n t = record {
      same = λ x p k.
          let y = lookup_some (line_items x) i p.below in
          let e = h.same (line_items x) p.table p.below ∙ ap (λ (j : ℕ). ok (place_of j)) n in
          (by_item x y.0, given x p none e y.0 y.1 ∙ rw (lost_none x k, first_reason), t.same x y.0 p k y.1);
    }
