-- The nodes that match an item: the owners of the name records that are its name.
use mathlib.Core.Path.{◌≡◌, refl, sym, ◌∙◌}
use mathlib.Core.Bool.{Bool, true, false, ◌&&◌, ◌||◌, false≢true, and-true, and-false, and_assoc, or-true, or-false, or_assoc}
use mathlib.Core.List.{List, [], ◌∷◌}
use mathlib.Core.Logic.{⊎_elim}
use mathlib.Core.Option.{some}
use Prim.Native.Nat.{ℕ, zero, suc, ◌+◌, ◌-◌, ◌≤◌, ◌<◌}
use native.Mathlib.Nat.{eq-or-lt_of_le}
use native.Mathlib.Numerals.{add-one}
use native.Mathlib.Omega.{arith}
use lib.Bits.{bit_and}
use lib.Dec.{eqb, ltb}
use lib.ListN.{length, get_or, get_elem?, take, drop, set as put, length-set, drop_of_length-le}
use lib.Seq.{get_or-set_same, get_or-set_other, take-nil}
use borrow.Author.Tests.{eq-eqb, ne_eqb, le-leb, lt-leb, ltb-true, ltb-false}
use types.Run.{OneOf}
use denote.Enum.Declared.{tag_of}
use Rattle.rules.specs.Base.{contains, concat_map}
use Rattle.rules.specs.Form.{Node, Name, name_count, read_form}
use Rattle.rules.specs.Sheet.{sheet_area}
use Rattle.rules.specs.Tree.{short_of, long_of, named_by}
use Rattle.rules.specs.Take.{contains_name, matches_arg}
use Rattle.rules.proofs.Acceptance.{lookup_some}
use Rattle.rules.proofs.Places.{drop_below}
use Rattle.split_arg.specs.declared.Part.{Part}
use Rattle.split_arg.specs.declared.Item.{Item}
use Rattle.split_arg.specs.declared.Item.TheVariants.{Short, Long}
use Rattle.split_arg.specs.contracts.Item as T
use Rattle.split_arg.specs.Items.{record_at, item_of}
use Rattle.form_layout.proofs.Sizes.{names_length}
use Rattle.form_codes.specs.Codes.{names_from, named_at}
use Rattle.take_search.specs.Items.{part_bytes}
use Rattle.take_search.specs.Search.{HasItem}
use Rattle.take_search.proofs.Items.{is_short_lem, is_long_lem, other_not}
use Rattle.rules.proofs.ContainsLaws.{contains_append, names_append}
use Rattle.form_codes.proofs.NameCodes.{code_at, short_code}
use Rattle.take_table.specs.Bits.{bit_at}
use Rattle.take_table.specs.Known.{is_named, is_adjacent, node_matches, SetOf, Matchable, MatchSet, Known}
use Rattle.take_table.specs.Owners.{owns, Owners, is_loose, Lookup, has_short, has_long}
use Rattle.take_table.proofs.Bits.{bit_and_lem, bit_none}

-- ---- a node's names among all

-- whether one of the records l, which begin at number k, is the node's and passes a test
unfoldable pub meets : (Name → Bool) → Node → ℕ → List Name → Bool
meets test x k [] = false
meets test x k (m ∷ l) = (owns x k && test m) || meets test x (suc k) l

-- `any` is whether one of some records passes the test
module _ (test : Name → Bool) (any : List Name → Bool) (nil : any [] ≡ false)
    (cons : (m : Name) (l : List Name) → any (m ∷ l) ≡ (test m || any l)) (x : Node) where
  unnamed : is_named x ≡ false → (k : ℕ) (l : List Name) → meets test x k l ≡ false
  unfolding meets owns
  unnamed e k [] = refl
  unnamed e k (m ∷ l) = rw (e, unnamed e (suc k) l)

  -- behind the first of the node's names
  behind : is_named x ≡ true → (k : ℕ) (l : List Name) → x.p ≤ k → meets test x k l ≡ any (take (x.p + x.q - k) l)
  unfolding meets owns
  behind e k [] h = rw (take-nil {A = Name} (x.p + x.q - k)) (sym nil)
  behind e k (m ∷ l) h = go (ltb k (x.p + x.q)) refl (behind e (suc k) l (omega arith))
    where
      go : (t : Bool) → ltb k (x.p + x.q) ≡ t → meets test x (suc k) l ≡ any (take (x.p + x.q - suc k) l)
          → meets test x k (m ∷ l) ≡ any (take (x.p + x.q - k) (m ∷ l))
      go true t later =
          let r = ltb-true k (x.p + x.q) t in
          let z : x.p + x.q - k ≡ suc (x.p + x.q - suc k) = omega arith in
          rw (e, le-leb x.p k h, t, later, z) (sym (cons m _))
      go false t later =
          let r = ltb-false k (x.p + x.q) t in
          let z : x.p + x.q - k ≡ 0 = omega arith in
          let w : x.p + x.q - suc k ≡ 0 = omega arith in
          rw (e, le-leb x.p k h, t, later, z, w)

  -- d records before the first of them
  before : is_named x ≡ true → (d k : ℕ) (l : List Name) → x.p ≡ k + d → meets test x k l ≡ any (take x.q (drop d l))
  unfolding meets owns
  before e zero k l h =
      let z : x.p + x.q - k ≡ x.q = omega arith in
      rw z at (behind e k l (omega arith))
  before e (suc d) k [] h = rw (take-nil {A = Name} x.q) (sym nil)
  before e (suc d) k (m ∷ l) h = rw (e, lt-leb x.p k (omega arith)) (before e d (suc k) l (omega arith))

  met : (l : List Name) → meets test x 0 l ≡ (is_named x && any (take x.q (drop x.p l)))
  met l = go (is_named x) refl
    where
      go : (t : Bool) → is_named x ≡ t → meets test x 0 l ≡ (is_named x && any (take x.q (drop x.p l)))
      go true e = rw e (before e x.p 0 l (omega arith))
      go false e = rw e (unnamed e 0 l)

-- ---- the loops over the records

abbrev Joined : ℕ → ℕ → ℕ → Type 0
Joined a c set = (n : ℕ) → bit_at set n ≡ (bit_at a n || bit_at c n)

-- what is left to look at decides
pub record Gathering (b : List ℕ) (test : Name → Bool) (set k : ℕ) : Type 0 where
  pub same : (n : ℕ) (x : Node) → get_elem? (read_form b).nodes n ≡ some x
      → (bit_at set n || meets test x k (drop k (read_form b).names)) ≡ meets test x 0 (read_form b).names

module _ (b : List ℕ) (test : Name → Bool) where
  gathering_first : Gathering b test 0 0
  gathering_first = record { same = λ n x e. rw (bit_none n) }

  module _ (set k : ℕ) (z : Gathering b test set k) where
    gathering_step : (m : Name) → get_elem? (read_form b).names k ≡ some m → (set' : ℕ)
        → ((n : ℕ) (x : Node) → get_elem? (read_form b).nodes n ≡ some x → bit_at set' n ≡ (bit_at set n || (owns x k && test m)))
        → Gathering b test set' (k + 1)
    unfolding meets
    gathering_step m em set' more = record {
      same = λ n x e.
          rw (add-one k, more n x e)
          (or_assoc (bit_at set n) (owns x k && test m) _ ∙ (rw (drop_below (read_form b).names k m em) at (z.same n x e)));
    }

    gathering_last : name_count b ≤ k → SetOf b (λ x. meets test x 0 (read_form b).names) set
    unfolding meets
    gathering_last h n x e =
        sym (or-false (bit_at set n))
        ∙ (rw (drop_of_length-le (read_form b).names {i = k} (omega (arith, names_length b))) at (z.same n x e))

    module _ (count : ℕ) (table : List ℕ) (o : Owners b count table) (h : k < count)
        (m : Name) (em : get_elem? (read_form b).names k ≡ some m) where
      gathering_hit : test m ≡ true → (set' : ℕ) → Joined set (get_or table k 0) set' → Gathering b test set' (k + 1)
      gathering_hit t set' u =
          gathering_step m em set' (λ n x e. u n ∙ rw (t, o.at k h n x e, and-true (owns x k)))

      gathering_miss : test m ≡ false → Gathering b test set (k + 1)
      gathering_miss t = gathering_step m em set (λ n x e. rw (t, and-false (owns x k)) (sym (or-false (bit_at set n))))

-- ---- short names

abbrev pub is_short : List ℕ → ℕ → Name → Bool
is_short b c m = contains (short_of (read_form b).area m) c

module _ (b codes : List ℕ) (count : ℕ) (table : List ℕ) (loose : ℕ) (q : Lookup b codes count table loose) (c : ℕ) where
  pub short_first : Gathering b (is_short b c) 0 0
  short_first = gathering_first b (is_short b c)

  module _ (set k : ℕ) (z : Gathering b (is_short b c) set k) where
    module _ (h : k < count) (w want x : ℕ) (ew : w ≡ c) (et : want ≡ w + 1) (ex : x ≡ get_or codes k 0) where
      record_at_lem : (m : Name) × (get_elem? (read_form b).names k ≡ some m) × (is_short b c m ≡ eqb x want)
      record_at_lem =
          let all = q.all in
          let (m, e) = lookup_some (read_form b).names k (omega (arith, names_length b)) in
          let s : want ≡ suc c = omega arith in
          (m, e, short_code (read_form b).area m c ∙ rw (s, ex, code_at b codes k m q.coded (omega arith) e))

      pub short_hit : x ≡ want → (set' : ℕ) → Joined set (get_or table k 0) set' → Gathering b (is_short b c) set' (k + 1)
      short_hit t =
          let m = record_at_lem in
          gathering_hit b (is_short b c) set k z count table q.owners h m.0 m.1 (m.2 ∙ eq-eqb x want t)

      pub short_miss : (x ≡ want → ⊥) → Gathering b (is_short b c) set (k + 1)
      short_miss t =
          let m = record_at_lem in
          gathering_miss b (is_short b c) set k z count table q.owners h m.0 m.1 (m.2 ∙ ne_eqb x want t)

    pub short_last : count ≤ k → SetOf b (has_short b c) set
    unfolding has_short named_at named_by names_from contains concat_map
    short_last h n x e =
        let all = q.all in
        let area = (read_form b).area in
        gathering_last b (is_short b c) set k z (omega arith) n x e
        ∙ met (is_short b c) (λ l. contains (concat_map (short_of area) l) c) refl
        (λ m l. contains_append (short_of area m) (concat_map (short_of area) l) c) x (read_form b).names

-- ---- long names

abbrev pub is_long : List ℕ → List ℕ → Name → Bool
is_long b name m = contains_name (long_of (read_form b).area m) name

module _ (b name : List ℕ) (count : ℕ) (all : count ≡ name_count b) where
  pub long_first : Gathering b (is_long b name) 0 0
  long_first = gathering_first b (is_long b name)

  module _ (set k : ℕ) (z : Gathering b (is_long b name) set k) where
    module _ (h : k < count) (table : List ℕ) (o : Owners b count table) (r : Bool)
        (said : (m : Name) → get_elem? (read_form b).names k ≡ some m → r ≡ is_long b name m) where
      pub long_hit : r ≡ true → (set' : ℕ) → Joined set (get_or table k 0) set' → Gathering b (is_long b name) set' (k + 1)
      long_hit t =
          let (m, e) = lookup_some (read_form b).names k (omega (arith, names_length b)) in
          gathering_hit b (is_long b name) set k z count table o h m e (sym (said m e) ∙ t)

      pub long_miss : r ≡ false → Gathering b (is_long b name) set (k + 1)
      long_miss t =
          let (m, e) = lookup_some (read_form b).names k (omega (arith, names_length b)) in
          gathering_miss b (is_long b name) set k z count table o h m e (sym (said m e) ∙ t)

    pub long_last : count ≤ k → SetOf b (has_long b name) set
    unfolding has_long named_at named_by names_from contains_name concat_map
    long_last h n x e =
        let area = (read_form b).area in
        gathering_last b (is_long b name) set k z (omega arith) n x e
        ∙ met (is_long b name) (λ l. contains_name (concat_map (long_of area) l) name) refl
        (λ m l. names_append (long_of area m) (concat_map (long_of area) l) name) x (read_form b).names

-- ---- an item

module _ (set loose : ℕ) (own : Bool) where
  pub in_own_word : own ≡ true → (m : ℕ) → bit_at set m ≡ (bit_at set m && (bit_at loose m || own))
  in_own_word e m = rw (e, or-true (bit_at loose m)) (sym (and-true (bit_at set m)))

  pub in_next_word : own ≡ false → (m : ℕ) → bit_at (bit_and set loose) m ≡ (bit_at set m && (bit_at loose m || own))
  in_next_word e m = bit_and_lem set loose m ∙ rw (e, or-false (bit_at loose m))

module _ (b codes : List ℕ) (count : ℕ) (table : List ℕ) (loose : ℕ) (q : Lookup b codes count table loose)
    (s words : List ℕ) (i : ℕ) (item : Item) (r : item ≡ item_of (record_at words i)) where
  abbrev Matched : ℕ → Type 0
  Matched set = MatchSet b (sheet_area s) words i set

  module _ (own : Bool) (t : Part) (set set' : ℕ) (l : (m : ℕ) → bit_at set' m ≡ (bit_at set m && (bit_at loose m || own))) where
    pub short_matched : (c : ℕ) → item ≡ Short c own t → SetOf b (has_short b c) set → Matched set'
    unfolding node_matches matches_arg has_short is_loose
    short_matched c h o x e k y there =
        l k ∙ rw ((is_short_lem _ _ x e item r c own t h).0, o k y there, q.loose k y there) (and_assoc (is_named y) _ _)

    pub long_matched : (n : Part) → item ≡ Long n own t → (name : List ℕ) → name ≡ part_bytes (sheet_area s) n
        → SetOf b (has_long b name) set → Matched set'
    unfolding node_matches matches_arg has_long is_loose
    long_matched n h name v o x e k y there =
        l k ∙ rw ((is_long_lem _ _ x e item r n own t h).0, ← v, o k y there, q.loose k y there) (and_assoc (is_named y) _ _)

  pub none_matched : OneOf (2 ∷ 3 ∷ 4 ∷ []) (tag_of T.the_type item) → Matched 0
  unfolding node_matches
  none_matched g x e k y there =
      bit_none k ∙ rw (← other_not b codes s words i y.p y.q (is_adjacent y) item r g x e) (sym (and-false (is_named y)))

-- ---- all items

pub item_there : (b codes s words : List ℕ) (n i : ℕ) → Matchable b codes s words n → i < n → HasItem s words i
item_there b codes s words n i g h =
    let room = g.table.room in
    let within = g.inside in
    let (x, e) = lookup_some g.items i (omega arith) in
    record { made = g.made; room = omega arith; item = x; here = g.table.at i x e }

-- the words of the first i items are there, and `all` has every node of one of them
pub record Listing (b area words : List ℕ) (n size : ℕ) (table : List ℕ) (all i : ℕ) : Type 0 where
  pub within : i ≤ n
  pub few : n ≤ 256
  pub room : n < size
  pub long : length table ≡ size
  pub at : (j : ℕ) → j < i → MatchSet b area words j (get_or table (j + 1) 0)
  pub any : (k : ℕ) → bit_at all k ≡ false → (j : ℕ) → j < i → bit_at (get_or table (j + 1) 0) k ≡ false

neither : (x y : Bool) → (x || y) ≡ false → (x ≡ false) × (y ≡ false)
neither true y e = absurd (false≢true (sym e))
neither false y e = (refl, e)

-- a property of the word of item j, of those up to i, where that of item i was put
put_at : (t : List ℕ) (i set : ℕ) → i + 1 < length t → (j : ℕ) → j < i + 1 → (P : ℕ → Type 0) → (j ≡ i → P set) → (j < i → P (get_or t (j + 1) 0))
    → P (get_or (put t (i + 1) set) (j + 1) 0)
put_at t i set l j g P here before =
    ⊎_elim
    (λ (q : j ≡ i). rw (q, get_or-set_same t (i + 1) set 0 l) (here q))
    (λ (f : j < i). rw (get_or-set_other t (i + 1) (j + 1) set 0 (λ q. omega arith)) (before f))
    (eq-or-lt_of_le {n = j} {m = i} (omega arith))

module _ (b area words : List ℕ) (n : ℕ) (t : List ℕ) where
  pub listing_first : n ≤ 256 → n < length t → Listing b area words n (length t) t 0 0
  listing_first h l = record {
    within = omega arith;
    few = h;
    room = l;
    long = refl;
    at = λ j h. absurd (omega arith);
    any = λ k e j h. absurd (omega arith);
  }

  module _ (size all i : ℕ) (z : Listing b area words n size t all i) where
    pub listing_next : i < n → (set : ℕ) → MatchSet b area words i set → (all' : ℕ) → ((k : ℕ) → bit_at all' k ≡ (bit_at all k || bit_at set k))
        → Listing b area words n size (put t (i + 1) set) all' (i + 1)
    listing_next h set m all' u =
        let l = z.long in
        let room = z.room in
        record {
          within = omega arith;
          few = z.few;
          room = room;
          long = length-set t (i + 1) set ∙ l;
          at = λ j g. put_at t i set (omega arith) j (omega arith) (MatchSet b area words j) (λ q. rw q m) (z.at j);
          any = λ k e j g.
              let w = neither (bit_at all k) (bit_at set k) (sym (u k) ∙ e) in
              put_at t i set (omega arith) j (omega arith) (λ (v : ℕ). bit_at v k ≡ false) (λ q. w.1) (z.any k w.0 j);
        }

    pub listing_last : n ≤ i → Known b area words n (put t 0 all)
    listing_last h =
        let l = z.long in
        let room = z.room in
        record {
          long = omega (arith, length-set t 0 all);
          few = z.few;
          at = λ j x g. rw (get_or-set_other t 0 (j + 1) all 0 (λ q. omega arith)) (z.at j (omega arith) x);
          any = λ k e j g.
              rw (get_or-set_other t 0 (j + 1) all 0 (λ q. omega arith))
              (z.any k (rw (get_or-set_same t 0 all 0 (omega arith)) at e) j (omega arith));
        }
