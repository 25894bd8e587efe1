-- Laws of states: steps, what `find` finds in a good state, `remove`, the takes, the winner of two, the test of a state, scopes.
use mathlib.Core.Path.{◌≡◌, refl, sym, ap, ◌∙◌}
use mathlib.Core.Bool.{Bool, true, false, not, ◌&&◌, false≢true}
use mathlib.Core.List.{List, [], ◌∷◌}
use mathlib.Core.Option.{Option, some, none}
use mathlib.Core.Logic.{◌⊎◌, inl, inr, ⊎_elim}
use Prim.Native.Nat.{ℕ, zero, suc, ◌+◌, ◌-◌, ◌≤◌, ◌<◌}
use native.Mathlib.Nat.{le_refl, le_trans}
use native.Mathlib.Omega.{arith}
use lib.Dec.{leb, eqb, ltb}
use lib.ListN.{length, take, drop, set, replicate, get_elem?, length-set, length-replicate}
use borrow.Author.Tests.{eq-eqb, lt-ltb, le-leb, eqb-true, ltb-true, leb-true}
use Rattle.rules.specs.Base.{is_some, all}
use Rattle.rules.specs.Outcome.{Outcome, ok, refused, ◌>>=◌, at, refuse}
use Rattle.rules.specs.Tree.{Named}
use Rattle.rules.specs.Split.{Item, Short, Long, ArgWord, Word, PosWord}
use Rattle.rules.specs.State.{State, Found, Picked, marker_mark, parsed, present, construct, in_scope, present_at, present_from, unused, get, find_in, find, first, used, remove}
use Rattle.rules.specs.State.{with_current}
use Rattle.rules.specs.State.{pick_winner, save_conflicts, count_present, set_scope, used_below, mark_good, current_good, state_good}
use Rattle.rules.specs.Take.{Took, took, matches_arg, take_flag, Taken, value_text, take_value, take_arg, Operand, is_operand, operand, take_positional_word}
use Rattle.rules.specs.Eval.{won}
use Rattle.rules.specs.Demands.{All, has_text}
use Rattle.rules.specs.Sound.{Good}
use Rattle.rules.proofs.Steps.{Step}
use Rattle.rules.proofs.Places.{if_elim, both, left, right, at_below, present_below, mark_present, minus_below, write_below, set_same, set_other, set_kept, all_set, parsed_not}
use Rattle.rules.proofs.Places.{used_good, from_same, from_used, from_each, from_all, slice_below, count_from, replicate_present, all_replicate, conflicts_length}
use Rattle.rules.proofs.Places.{conflicts_present, conflicts_good, Differs, pick_case}

-- ---- steps

pub step_refl : {n : ℕ} {s : State} → Good n s → Step n s s
step_refl g = record {
  good = g;
  start = refl;
  end = refl;
  fewer = le_refl _;
  kept = λ i e. e;
  strict = λ i p q. absurd (false≢true (sym q ∙ p));
  still = λ e. refl;
}

pub step_trans : {n : ℕ} {s u w : State} → Step n s u → Step n u w → Step n s w
step_trans {s} {u} {w} a b = record {
  good = b.good;
  start = b.start ∙ a.start;
  end = b.end ∙ a.end;
  fewer = le_trans b.fewer a.fewer;
  kept = λ i e. a.kept i (b.kept i e);
  strict = λ i p q. go i p q (present_at u.marks i) refl;
  still = λ e.
      let x = a.fewer in
      let y = b.fewer in
      b.still (omega arith) ∙ a.still (omega arith);
}
  where
    go : (i : ℕ) → present_at s.marks i ≡ true → present_at w.marks i ≡ false
        → (p : Bool) → present_at u.marks i ≡ p → w.remaining < s.remaining
    go i p q true e = omega (arith, b.strict i e q, a.fewer)
    go i p q false e = omega (arith, a.strict i p e, b.fewer)

-- ---- places in scope that are present

pub record Free (s : State) (i : ℕ) : Type 0 where
  pub from : s.start ≤ i
  pub to : i < s.end
  pub here : present_at s.marks i ≡ true

pub unused_free : (s : State) → s.start ≤ s.end → All (Free s) (unused s)
unfolding unused
unused_free s o =
    from_each (Free s) s.marks (s.end - s.start) s.start
    (λ i h l e. record { from = h; to = omega arith; here = e })

pub free_at_lem : (s : State) (i : ℕ) → in_scope s i ≡ true → present_at s.marks i ≡ true → Free s i
unfolding in_scope
free_at_lem s i e p = record {
  from = leb-true _ _ (left (leb s.start i) (ltb i s.end) e);
  to = ltb-true _ _ (right (leb s.start i) (ltb i s.end) e);
  here = p;
}

pub free_below_lem : (n : ℕ) (s : State) (i : ℕ) → Good n s → Free s i → i < n
free_below_lem n s i g f = omega (arith, f.to, g.inside)

-- ---- `find`

-- what is found lies in a free place and passes the test
pub record Hit (is : List Item) (test : Item → Bool) (s : State) (x : Found) : Type 0 where
  pub free : Free s x.place
  pub item : get_elem? is x.place ≡ some x.item
  pub passes : test x.item ≡ true

abbrev pub Finds : List Item → (Item → Bool) → State → Option Found → Type 0
Finds is test s none = Unit {0}
Finds is test s (some x) = Hit is test s x

find_in_lem : (is : List Item) (test : Item → Bool) (s : State) → Good (length is) s → (l : List ℕ) → All (Free s) l
    → (x : Option Found) × (find_in is test l ≡ ok x) × Finds is test s x
unfolding find_in at ◌>>=◌
find_in_lem is test s g [] f = (none, refl, tt)
find_in_lem is test s g (i ∷ l) f =
    let b = at_below is i (free_below_lem (length is) s i g f.0) in
    rw b.1 (if_elim (λ (o : Outcome (Option Found)). (x : Option Found) × (o ≡ ok x) × Finds is test s x) (test b.0) _ _
    (λ e. (some (record { place = i; item = b.0 }), refl, record { free = f.0; item = b.1; passes = e }))
    (λ _. find_in_lem is test s g l f.1))

pub find_good : (is : List Item) (test : Item → Bool) (s : State) → Good (length is) s
    → (x : Option Found) × (find is test s ≡ ok x) × Finds is test s x
unfolding find
find_good is test s g = find_in_lem is test s g (unused s) (unused_free s g.order)

pub first_found : (is : List Item) (s : State) → Good (length is) s → (x : Option Found) × (first is s ≡ ok x)
unfolding first
first_found is s g = let f = find_good is (λ _. true) s g in (f.0, f.1)

-- ---- `remove`

-- the state after the removal of a free place
abbrev pub removed : ℕ → State → ℕ → State
removed k s i = record { marks = set s.marks i k; remaining = s.remaining - 1; current = some i; start = s.start; end = s.end }

module _ (k : ℕ) (told : parsed k ≡ true) (n : ℕ) (s : State) (i : ℕ) (g : Good n s) where
  free_long : Free s i → i < length s.marks
  free_long f = omega (arith, free_below_lem n s i g f, g.long)

  pub removed_other : (j : ℕ) → (j ≡ i → ⊥) → present_at (removed k s i).marks j ≡ present_at s.marks j
  removed_other j h = set_other s.marks i k j h

  pub removed_gone : Free s i → present_at (removed k s i).marks i ≡ false
  removed_gone f = set_same s.marks i k (free_long f) ∙ parsed_not k told

  removed_count : Free s i → suc (length (unused (removed k s i))) ≡ s.remaining
  unfolding unused
  removed_count f =
      let o = g.order in
      let b = f.to in
      from_used s.marks (set s.marks i k) i (s.end - s.start) s.start f.here
      (removed_gone f) removed_other f.from (omega arith)
      ∙ sym g.counted

  pub removed_left : Free s i → (removed k s i).remaining + 1 ≡ s.remaining
  removed_left f = let c = removed_count f in omega arith

  pub removed_good : Free s i → Good n (removed k s i)
  unfolding current_good
  removed_good f = record {
    small = g.small;
    long = length-set s.marks i k ∙ g.long;
    order = g.order;
    inside = g.inside;
    marks = all_set (mark_good parsed n) s.marks i k g.marks (used_good parsed n k told);
    current = lt-ltb i n (free_below_lem n s i g f);
    counted = let c = removed_count f in omega arith;
  }

  pub removed_step : Free s i → Step n s (removed k s i)
  removed_step f =
      let c = removed_left f in
      record {
        good = removed_good f;
        start = refl;
        end = refl;
        fewer = omega arith;
        kept = λ j e. set_kept s.marks i k j (parsed_not k told) e;
        strict = λ j p q. omega arith;
        still = λ e. absurd (omega arith);
      }

  pub remove_free : Free s i → remove k s i ≡ ok (removed k s i)
  unfolding remove in_scope ◌>>=◌ at used
  remove_free f =
      let m = at_below s.marks i (free_long f) in
      let here : present m.0 ≡ true = sym (mark_present s.marks i m.0 m.1) ∙ f.here in
      let c = removed_count f in
      let less = minus_below s.remaining 1 (omega arith) in
      rw (le-leb s.start i f.from, lt-ltb i s.end f.to, m.1, here, less, write_below s.marks i k (free_long f))

  remove_out : in_scope s i ≡ false → remove k s i ≡ ok s
  unfolding remove
  remove_out e = rw e

  remove_gone : in_scope s i ≡ true → (m : ℕ) → get_elem? s.marks i ≡ some m → present m ≡ false → remove k s i ≡ ok s
  unfolding remove ◌>>=◌ at
  remove_gone e m x p = rw (e, x, p)

  pub remove_step : (u : State) × (remove k s i ≡ ok u) × Step n s u
  unfolding in_scope
  remove_step = go (in_scope s i) refl
    where
      here : in_scope s i ≡ true → (m : ℕ) → get_elem? s.marks i ≡ some m → (p : Bool) → present m ≡ p
          → (u : State) × (remove k s i ≡ ok u) × Step n s u
      here e m x true p =
          let f = free_at_lem s i e (mark_present s.marks i m x ∙ p) in
          (removed k s i, remove_free f, removed_step f)
      here e m x false p = (s, remove_gone e m x p, step_refl g)

      go : (b : Bool) → in_scope s i ≡ b → (u : State) × (remove k s i ≡ ok u) × Step n s u
      go true e =
          let l : i < s.end = ltb-true _ _ (right (leb s.start i) (ltb i s.end) e) in
          let m = at_below s.marks i (omega (arith, g.inside, g.long)) in
          here e m.0 m.1 (present m.0) refl
      go false e = (s, remove_out e, step_refl g)

-- ---- the takes

-- a place that `get` reads is free
pub get_free : (is : List Item) (s : State) (i : ℕ) (x : Item) → get is s i ≡ some x → Free s i
unfolding get is_some
get_free is s i x e = go (in_scope s i && present_at s.marks i) refl
  where
    go : (b : Bool) → in_scope s i && present_at s.marks i ≡ b → Free s i
    go true p = free_at_lem s i (left (in_scope s i) (present_at s.marks i) p) (right (in_scope s i) (present_at s.marks i) p)
    go false p = absurd (false≢true (ap is_some (rw p at e)))

pub get_item : (is : List Item) (s : State) (i : ℕ) (x : Item) → get is s i ≡ some x → get_elem? is i ≡ some x
unfolding get is_some
get_item is s i x e = go (in_scope s i && present_at s.marks i) refl
  where
    go : (b : Bool) → in_scope s i && present_at s.marks i ≡ b → get_elem? is i ≡ some x
    go true p = rw p at e
    go false p = absurd (false≢true (ap is_some (rw p at e)))

-- a place whose item is a Word, an ArgWord or a PosWord
abbrev pub TextAt : List Item → ℕ → Type 0
TextAt is i = (x : Item) × (get_elem? is i ≡ some x) × (has_text x ≡ true)

abbrev pub TakenAt : List Item → Option Taken → Type 0
TakenAt is none = Unit {0}
TakenAt is (some x) = TextAt is x.place

abbrev pub OperandAt : List Item → Option Operand → Type 0
OperandAt is none = Unit {0}
OperandAt is (some x) = TextAt is x.place

pub current_good_lem : (n : ℕ) (s : State) (i : ℕ) → Good n s → i < n → Good n (with_current (some i) s)
unfolding with_current current_good unused
current_good_lem n s i g h = record {
  small = g.small;
  long = g.long;
  order = g.order;
  inside = g.inside;
  marks = g.marks;
  current = lt-ltb i n h;
  counted = g.counted;
}

current_free : (s : State) (c : Option ℕ) (i : ℕ) → Free s i → Free (with_current c s) i
unfolding with_current
current_free s c i f = record { from = f.from; to = f.to; here = f.here }

value_got : (o : Option Item) (t : List ℕ) → value_text o ≡ some t → (x : Item) × (o ≡ some x) × (has_text x ≡ true)
unfolding value_text is_some has_text
value_got none t e = absurd (false≢true (ap is_some e))
value_got (some (Short c a x)) t e = absurd (false≢true (ap is_some e))
value_got (some (Long n a x)) t e = absurd (false≢true (ap is_some e))
value_got (some (ArgWord x)) t e = (ArgWord x, refl, refl)
value_got (some (Word x)) t e = (Word x, refl, refl)
value_got (some (PosWord x)) t e = absurd (false≢true (ap is_some e))

operand_text : (x : Item) → is_operand x ≡ true → has_text x ≡ true
unfolding is_operand has_text
operand_text (Short c a t) e = e
operand_text (Long n a t) e = e
operand_text (ArgWord t) e = refl
operand_text (Word t) e = refl
operand_text (PosWord t) e = refl

-- `current` is set, and then a free place is removed
current_removed : (k : ℕ) → parsed k ≡ true → (n : ℕ) (s : State) (c i : ℕ) → Good n s → c < n → Free s i
    → (remove k (with_current (some c) s) i ≡ ok (removed k s i)) × Step n s (removed k s i)
unfolding with_current
current_removed k told n s c i g h f =
    (remove_free k told n (with_current (some c) s) i (current_good_lem n s c g h) (current_free s (some c) i f), removed_step k told n s i g f)

module _ (k : ℕ) (told : parsed k ≡ true) (is : List Item) where
  pub flag_takes : (m : Named) (s : State) → Good (length is) s
      → (t : Took Bool) × (take_flag k is m s ≡ ok t) × Step (length is) s t.state
  unfolding take_flag took ◌>>=◌
  flag_takes m s g = let f = find_good is (matches_arg m false) s g in go f.0 f.1 f.2
    where
      go : (x : Option Found) → find is (matches_arg m false) s ≡ ok x → Finds is (matches_arg m false) s x
          → (t : Took Bool) × (take_flag k is m s ≡ ok t) × Step (length is) s t.state
      go none e h = (record { answer = false; state = s }, rw e, step_refl g)
      go (some x) e h =
          let r = remove_free k told (length is) s x.place g h.free in
          (record { answer = true; state = removed k s x.place }, rw (e, r), removed_step k told (length is) s x.place g h.free)

  value_taken : (s : State) (key : ℕ) (t : List ℕ) → Good (length is) s → Free s key → Free s (suc key) → TextAt is (suc key)
      → (v : Took (Option Taken)) × (take_value k s key (some t) ≡ ok v) × Step (length is) s v.state × TakenAt is v.answer
  unfolding take_value took ◌>>=◌
  value_taken s key t g f next here =
      let a = current_removed k told (length is) s (suc key) key g (free_below_lem (length is) s (suc key) g next) f in
      let b = remove_step k told (length is) (removed k s key) (suc key) a.1.good in
      (record { answer = some (record { place = suc key; text = t }); state = b.0 }, rw (a.0, b.1), step_trans a.1 b.2, here)

  pub arg_takes : (m : Named) (adjacent : Bool) (s : State) → Good (length is) s
      → ((t : Took (Option Taken)) × (take_arg k is m adjacent s ≡ ok t) × Step (length is) s t.state × TakenAt is t.answer)
      ⊎ ((i : ℕ) × (take_arg k is m adjacent s ≡ refused (refuse 22 (some i))))
  unfolding take_arg take_value took ◌>>=◌
  arg_takes m adjacent s g = let f = find_good is (matches_arg m adjacent) s g in go f.0 f.1 f.2
    where
      ends : Type 0
      ends =
          ((t : Took (Option Taken)) × (take_arg k is m adjacent s ≡ ok t) × Step (length is) s t.state × TakenAt is t.answer)
          ⊎ ((i : ℕ) × (take_arg k is m adjacent s ≡ refused (refuse 22 (some i))))

      key : (x : Found) → find is (matches_arg m adjacent) s ≡ ok (some x) → Free s x.place → (o : Option (List ℕ))
          → value_text (get is s (suc x.place)) ≡ o → ends
      key x e f none v = inr (x.place, rw (e, v))
      key x e f (some t) v =
          let got = value_got (get is s (suc x.place)) t v in
          let here : TextAt is (suc x.place) = (got.0, get_item is s (suc x.place) got.0 got.1, got.2) in
          let r = value_taken s x.place t g f (get_free is s (suc x.place) got.0 got.1) here in
          inl (r.0, rw (e, v, r.1), r.2, r.3)

      go : (x : Option Found) → find is (matches_arg m adjacent) s ≡ ok x → Finds is (matches_arg m adjacent) s x → ends
      go none e h = inl (record { answer = none; state = s }, rw e, step_refl g, tt)
      go (some x) e h = key x e h.free (value_text (get is s (suc x.place))) refl

  pub positional_takes : (s : State) → Good (length is) s
      → (t : Took (Option Operand)) × (take_positional_word k is s ≡ ok t) × Step (length is) s t.state × OperandAt is t.answer
  unfolding take_positional_word took operand ◌>>=◌
  positional_takes s g = let f = find_good is is_operand s g in go f.0 f.1 f.2
    where
      go : (x : Option Found) → find is is_operand s ≡ ok x → Finds is is_operand s x
          → (t : Took (Option Operand)) × (take_positional_word k is s ≡ ok t) × Step (length is) s t.state × OperandAt is t.answer
      go none e h = (record { answer = none; state = s }, rw e, step_refl g, tt)
      go (some x) e h =
          let i : ℕ = x.place in
          let r = current_removed k told (length is) s i i g (free_below_lem (length is) s i g h.free) h.free in
          (record { answer = some (operand x); state = removed k s i }, rw (e, r.0), r.1, (x.item, h.item, operand_text x.item h.passes))

-- ---- the winner of two

pub saved_good : (n : ℕ) (s loser : State) (w : ℕ) → Good n s → w < n → Good n (save_conflicts s loser w)
unfolding save_conflicts unused
saved_good n s loser w g h =
    let low : w < 256 = omega (arith, g.small) in
    record {
      small = g.small;
      long = conflicts_length w s.marks loser.marks ∙ g.long;
      order = g.order;
      inside = g.inside;
      marks = conflicts_good n w s.marks loser.marks h g.marks;
      current = g.current;
      counted = g.counted ∙ ap length (sym (from_same _ s.marks _ _ (λ j _. conflicts_present w low s.marks loser.marks j)));
    }

-- the winner has used a place that the loser has not
won_step : (n : ℕ) (s a b : State) (w : ℕ) → Step n s a → Step n s b
    → present_at a.marks w ≡ false → present_at b.marks w ≡ true → Step n s (won a b (some w))
unfolding won save_conflicts unused
won_step n s a b w p q gone here =
    let lower : a.remaining < s.remaining = p.strict w (q.kept w here) gone in
    let below : w < n = omega (arith, present_below b.marks w here, q.good.long) in
    let low : w < 256 = omega (arith, p.good.small) in
    record {
      good = saved_good n a b w p.good below;
      start = p.start;
      end = p.end;
      fewer = p.fewer;
      kept = λ j e. p.kept j (sym (conflicts_present w low a.marks b.marks j) ∙ e);
      strict = λ j x y. lower;
      still = λ e. absurd (omega arith);
    }

pub won_first : (n : ℕ) (s a b : State) → Good n s → Step n s a → Step n s b
    → (pick_winner a b).first ≡ true → Step n s (won a b (pick_winner a b).place)
unfolding pick_winner won
won_first n s a b g p q e = ⊎_elim
    (λ (none-differs : pick_winner a b ≡ record { first = true; place = none }). rw none-differs p)
    (λ (d : Differs 0 a.marks b.marks (pick_winner a b)).
    let w : d.first ≡ true = sym d.wins ∙ e in
    let z : 0 + d.place ≡ d.place = omega arith in
    rw (d.at, z) (won_step n s a b d.place p q (d.ours ∙ ap not w) (d.theirs ∙ w)))
    (pick_case 0 a.marks b.marks)

pub won_second : (n : ℕ) (s a b : State) → Good n s → Step n s a → Step n s b
    → (pick_winner a b).first ≡ false → Step n s (won b a (pick_winner a b).place)
unfolding pick_winner won
won_second n s a b g p q e = ⊎_elim
    (λ (none-differs : pick_winner a b ≡ record { first = true; place = none }).
    absurd (false≢true (sym e ∙ ap (λ (x : Picked). x.first) none-differs)))
    (λ (d : Differs 0 a.marks b.marks (pick_winner a b)).
    let w : d.first ≡ false = sym d.wins ∙ e in
    let z : 0 + d.place ≡ d.place = omega arith in
    rw (d.at, z) (won_step n s b a d.place q p (d.theirs ∙ w) (d.ours ∙ ap not w)))
    (pick_case 0 a.marks b.marks)

-- ---- the test of a state

-- marks that are used by fields below a number are parsed
below_good : (fields n m : ℕ) → mark_good (used_below fields) n m ≡ true → mark_good parsed n m ≡ true
unfolding mark_good used_below
below_good fields n m h = go (eqb m 0) refl (parsed m) refl
  where
    go : (z : Bool) → eqb m 0 ≡ z → (b : Bool) → parsed m ≡ b → mark_good parsed n m ≡ true
    go true z b e = rw z
    go false z true e = rw (z, e)
    go false z false e = let k = rw (z, e) at h in rw (z, e) k

pub all_used : (fields n : ℕ) (l : List ℕ) → all (mark_good (used_below fields) n) l ≡ true → all (mark_good parsed n) l ≡ true
unfolding all
all_used fields n [] h = refl
all_used fields n (m ∷ l) h =
    both _ _ (below_good fields n m (left _ (all (mark_good (used_below fields) n) l) h))
    (all_used fields n l (right (mark_good (used_below fields) n m) _ h))

pub good_test : (fields n : ℕ) (s : State) → Good n s → all (mark_good (used_below fields) n) s.marks ≡ true → state_good fields n s ≡ true
unfolding state_good
good_test fields n s g marks =
    rw (eq-eqb _ _ g.long, le-leb _ _ g.small, le-leb _ _ g.order, le-leb _ _ g.inside, marks, g.current, eq-eqb _ _ g.counted)

each_test : (a b c d e f : Bool) → a && b && c && d && e && f ≡ true
    → (a ≡ true) × (b ≡ true) × (c ≡ true) × (d ≡ true) × (e ≡ true) × (f ≡ true)
each_test true true true true true true h = (refl, refl, refl, refl, refl, refl)
each_test true true true true true false h = absurd (false≢true h)
each_test true true true true false f h = absurd (false≢true h)
each_test true true true false e f h = absurd (false≢true h)
each_test true true false d e f h = absurd (false≢true h)
each_test true false c d e f h = absurd (false≢true h)
each_test false b c d e f h = absurd (false≢true h)

-- a state that the test lets through, and its marks
pub test_good : (fields n : ℕ) (s : State) → state_good fields n s ≡ true
    → Good n s × (all (mark_good (used_below fields) n) s.marks ≡ true)
unfolding state_good
test_good fields n s h =
    let order : Bool = leb s.start s.end in
    let inside : Bool = leb s.end n in
    let marks : Bool = all (mark_good (used_below fields) n) s.marks in
    let counted : Bool = eqb s.remaining (length (unused s)) in
    let t = each_test (eqb (length s.marks) n) (leb n 256) (order && inside) marks (current_good n s.current) counted h in (
      record {
        small = leb-true _ _ t.1;
        long = eqb-true _ _ t.0;
        order = leb-true _ _ (left order inside t.2);
        inside = leb-true _ _ (right order inside t.2);
        marks = all_used fields n s.marks t.3;
        current = t.4;
        counted = eqb-true _ _ t.5;
      },
      t.3,
    )

-- ---- places that remain
present_few : (marks : List ℕ) (n i : ℕ) → length (present_from marks n i) ≤ n
unfolding present_from
present_few marks zero i = omega arith
present_few marks (suc n) i =
    let rest = present_few marks n (suc i) in
    if_elim (λ (l : List ℕ). length l ≤ suc n) (present_at marks i) _ _ (λ _. omega arith) (λ _. omega arith)

pub remaining_within : (n : ℕ) (s : State) → Good n s → s.remaining ≤ n
unfolding unused
remaining_within n s g = omega (arith, g.counted, g.order, g.inside, present_few s.marks (s.end - s.start) s.start)

-- ---- scopes

pub zero_present : present 0 ≡ true
unfolding present parsed marker_mark
zero_present = refl

pub zero_good : (used : ℕ → Bool) (n : ℕ) → mark_good used n 0 ≡ true
unfolding mark_good
zero_good used n = refl

-- all n places are unused
fresh : (n k : ℕ) → k ≡ n → length (present_from (replicate n 0) k 0) ≡ n
fresh n k e = from_all (replicate n 0) k 0 (λ i _ l. replicate_present n 0 i zero_present (omega arith)) ∙ e

-- `construct`, with no `--` and with the place of one
construct_fresh : (k n : ℕ) → n ≤ 256 → (s : State) × (construct k n none ≡ ok s) × Good n s × (s.remaining ≡ n)
unfolding construct current_good unused
construct_fresh k n few = (
  record { marks = replicate n 0; remaining = n; current = none; start = 0; end = n },
  refl,
  record {
    small = few;
    long = length-replicate n 0;
    order = omega arith;
    inside = omega arith;
    marks = all_replicate (mark_good parsed n) n 0 (zero_good parsed n);
    current = refl;
    counted = sym (fresh n (n - 0) (omega arith));
  },
  refl,
)

construct_marked : (k : ℕ) → parsed k ≡ true → (n i : ℕ) → n ≤ 256 → i < n
    → (s : State) × (construct k n (some i) ≡ ok s) × Good n s × (s.remaining + 1 ≡ n)
unfolding construct current_good unused ◌>>=◌ at
construct_marked k told n i few h =
    let zeros : List ℕ = replicate n 0 in
    let long : length zeros ≡ n = length-replicate n 0 in
    let inside : i < length zeros = rw long h in
    let gone : present_at (set zeros i k) i ≡ false = set_same zeros i k inside ∙ parsed_not k told in
    let here : present_at zeros i ≡ true = replicate_present n 0 i zero_present h in
    let count = from_used zeros (set zeros i k) i (n - 0) 0 here gone (set_other zeros i k) (omega arith) (omega arith)
    ∙ fresh n (n - 0) (omega arith) in (
      record { marks = set zeros i k; remaining = n - 1; current = none; start = 0; end = n },
      rw (write_below zeros i k inside, minus_below n 1 (omega arith)),
      record {
        small = few;
        long = length-set zeros i k ∙ long;
        order = omega arith;
        inside = omega arith;
        marks = all_set (mark_good parsed n) zeros i k (all_replicate (mark_good parsed n) n 0 (zero_good parsed n)) (used_good parsed n k told);
        current = refl;
        counted = omega arith;
      },
      omega arith,
    )

-- the place of the first `--`, where there is one
abbrev pub Within : ℕ → Option ℕ → Type 0
Within n none = Unit {0}
Within n (some i) = i < n

-- what remains: all, or all but the first `--`
abbrev pub Remains : ℕ → Option ℕ → ℕ → Type 0
Remains n none r = r ≡ n
Remains n (some i) r = r + 1 ≡ n

pub construct_good : (k : ℕ) → parsed k ≡ true → (n : ℕ) (marker : Option ℕ) → n ≤ 256 → Within n marker
    → (s : State) × (construct k n marker ≡ ok s) × Good n s × Remains n marker s.remaining
construct_good k told n none few h = construct_fresh k n few
construct_good k told n (some i) few h = construct_marked k told n i few h

pub set_scope_good : (n : ℕ) (s : State) (a b : ℕ) → Good n s → a ≤ b → b ≤ n
    → (u : State) × (set_scope s a b ≡ ok u) × Good n u × (u.start ≡ a) × (u.end ≡ b)
unfolding set_scope unused ◌>>=◌ at
set_scope_good n s a b g h l =
    let long = g.long in (
      record { marks = s.marks; remaining = count_present (take (b - a) (drop a s.marks)); current = s.current; start = a; end = b },
      rw (slice_below a b s.marks h (omega arith)),
      record {
        small = g.small;
        long = long;
        order = h;
        inside = l;
        marks = g.marks;
        current = g.current;
        counted = count_from s.marks (b - a) a (omega arith);
      },
      refl,
      refl,
    )
