-- The repeat: what its loop keeps, and what each way out says.
use mathlib.Core.Bool.{Bool, true, false}
use mathlib.Core.List.{List, [], ◌∷◌, ◌++◌, map, flatten}
use mathlib.Core.Option.{Option, some, none, some-injective}
use mathlib.Core.Path.{◌≡◌, refl, sym, ◌∙◌, ap, ap₂, subst}
use Prim.Native.Nat.{ℕ, zero, suc, ◌+◌, ◌*◌, ◌≤◌, ◌<◌}
use native.Mathlib.Omega.{arith}
use lib.Dec.{eqb}
use lib.ListN.{length, replicate, get_elem?, length-append}
use lib.Seq.{sets, length-sets}
use borrow.Author.Tests.{ltb-true}
use Rattle.std.specs.Prelude.{if◌then◌else◌}
use Rattle.rules.specs.Outcome.{ok, refuse}
use Rattle.rules.specs.Value.{Value, words}
use Rattle.rules.specs.Sheet.{sheet_area}
use Rattle.rules.specs.Tree.{Tree}
use Rattle.rules.specs.Split.{Item}
use Rattle.rules.specs.State.{State}
use Rattle.rules.specs.Calls.{from_raw}
use Rattle.rules.specs.Eval.{Ran as Run, Visit, ended, fewer, swallowed, idle, repeat, repeated, eval}
use Rattle.rules.specs.Sound.{leaves}
use Rattle.rules.proofs.Steps.{Step, most, Runs}
use Rattle.eval_structs.specs.declared.Counting.{Counting}
use Rattle.eval_structs.specs.declared.Counting.TheVariants.{Counted, Uncounted, Absent, PassedOn}
use Rattle.eval_structs.specs.Decisions.{with_remaining, counted_of, option_way}
use Rattle.std.specs.Prelude.{Option as Maybe, Some, None}
use Rattle.eval_structs.specs.Laws.{idle_remaining}
use Rattle.state_marks.specs.declared.Numbers.{Numbers}
use Rattle.state_marks.specs.Lent.{state_of}
use Rattle.take_search.specs.States.{CanTake, LeftState, Items}
use Rattle.take_search.proofs.States.{left_same}
use Rattle.eval_told.specs.declared.Ran.{Ran}
use Rattle.eval_told.specs.Told.{told, Numbered, scalar_words, answered}
use Rattle.eval_told.specs.Nodes.{tree_at}
use Rattle.eval_shortcut.specs.Stands.{Scalar}
use Rattle.eval_told.specs.Lists.{told_list, last_words, prefixed}
use Rattle.eval_told.proofs.Visits.{runs_numbered}
use Rattle.eval_told.proofs.Repeats.{told_state, told_tries, prefixed_none, Went, turn_uncounted, turn_absent, turn_passed, turn_idle, turn_counted, list_ended, list_refused}
use Rattle.eval_shortcut.specs.Marks.{keeps_marks}
use Rattle.eval_shortcut.specs.Children.{Hint, Turns}
use Rattle.eval_shortcut.proofs.Words.{scalar_short}
use Rattle.eval_shortcut.specs.Children.{NodeSays}
use Rattle.eval_shortcut.proofs.Absent.{absent_by}
use Rattle.eval_shortcut.proofs.Steps.{few_left, child_runs, child_told, child_left}
use Rattle.eval_node.specs.declared.Repeat.{Repeat}
use Rattle.eval_words.specs.declared.Repeated.{Repeated}
use Rattle.eval_words.specs.Values.{no_value, OneMoreFits, one_more, ended_with, passed_on, next_from}
use Rattle.eval_words.specs.Stored.{WroteValue}
use Rattle.eval_node.specs.Cycle.{listed, Room, Repeating, Repeats}
use Rattle.eval_words.proofs.Words.{sets_append, sets_back}
use Rattle.eval_node.proofs.Hints.{hint_first, hint_next}

-- ---- lists
lists_same :
    {A : Type 0} (l k : List A)
    → length l ≡ length k
    → ((i : ℕ) (x y : A) → get_elem? l i ≡ some x → get_elem? k i ≡ some y → x ≡ y)
    → l ≡ k
lists_same [] [] e h = refl
lists_same [] (y ∷ k) e h = absurd (omega arith)
lists_same (x ∷ l) [] e h = absurd (omega arith)
lists_same (x ∷ l) (y ∷ k) e h =
    ap₂ (λ a (r : List _). a ∷ r) (h 0 x y refl refl) (lists_same l k (omega arith) (λ i. h (suc i)))

-- the words are the items of one list
items_same : (area words : List ℕ) (p : Numbers) (is js : List Item) → Items area words p is → Items area words p js → is ≡ js
items_same area words p is js a b =
    lists_same is js (a.1 ∙ sym b.1)
    (λ i x y e q. some-injective x y (sym (a.0.at i x e) ∙ b.0.at i y q))

-- the words of some values
abbrev pub all_words : List Value → List ℕ
all_words vs = flatten (map words vs)

all_more : (vs : List Value) (v : Value) → all_words (vs ++ (v ∷ [])) ≡ all_words vs ++ words v
unfolding flatten
all_more [] v = append-nil (words v)
  where
    append-nil : (l : List ℕ) → l ++ [] ≡ l
    append-nil [] = refl
    append-nil (x ∷ l) = ap (λ (t : List ℕ). x ∷ t) (append-nil l)
all_more (u ∷ vs) v = ap (λ (l : List ℕ). words u ++ l) (all_more vs v) ∙ append_three (words u) (all_words vs) (words v)
  where
    append_three : (l m k : List ℕ) → l ++ (m ++ k) ≡ (l ++ m) ++ k
    append_three [] m k = refl
    append_three (x ∷ l) m k = ap (λ (t : List ℕ). x ∷ t) (append_three l m k)

last_more : (vs : List Value) (v : Value) → last_words (map words (vs ++ (v ∷ []))) ≡ words v
unfolding last_words
last_more [] v = refl
last_more (u ∷ []) v = refl
last_more (u ∷ (w ∷ vs)) v = last_more (w ∷ vs) v

length_more : (vs : List Value) (v : Value) → length (vs ++ (v ∷ [])) ≡ length vs + 1
length_more vs v = length-append vs (v ∷ [])

map_length : (vs : List Value) → length (map words vs) ≡ length vs
map_length [] = refl
map_length (v ∷ vs) = ap suc (map_length vs)

-- ---- what is decided
counted_fewer : (n : ℕ) (catch : Bool) (given left : ℕ) (len : Option ℕ) → option_way n catch given left len ≡ Counted → fewer left len ≡ true
unfolding option_way
counted_fewer n catch given left len = go (eqb n 0) (fewer left len) (swallowed catch (refuse n none) (with_remaining given) (with_remaining left))
  where
    go : (a b c : Bool) → (if a then (if b then Counted else Uncounted) else (if c then Absent else PassedOn)) ≡ Counted → b ≡ true
    go true true c e = refl
    go true false c e = let z : ◌≡◌ {A = ℕ} 0 1 = cc in absurd (omega arith)
    go false b true e = let z : ◌≡◌ {A = ℕ} 0 1 = cc in absurd (omega arith)
    go false b false e = let z : ◌≡◌ {A = ℕ} 0 1 = cc in absurd (omega arith)

-- what remained after the last that counted; more than ever remains, before the first
abbrev pub left_of : Maybe ℕ → ℕ
left_of None = 257
left_of (Some n) = n

-- fewer remain than after the last that counted
fewer_less : (l : ℕ) (last : Maybe ℕ) → l ≤ 256 → fewer l (counted_of last) ≡ true → l < left_of last
unfolding fewer
fewer_less l None h e = omega arith
fewer_less l (Some n) h e = ltb-true l n e

-- ---- the values so far: counted, written, and the last of them
pub record Kept (writes : Bool) (at : ℕ) (o₀ o : List ℕ) (vs : List Value) (all : Repeated) : Type 0 where
  pub count : all.count ≡ length vs
  pub cost : all.tries ≤ 64 * length vs
  pub short : length (all_words vs) ≤ 2 * length vs
  pub size : all.size ≡ (if writes then length (all_words vs) else 0)
  pub put : o ≡ (if writes then sets o₀ (at + 1) (all_words vs) else o₀)
  pub long : length o ≡ length o₀
  pub latest : last_words (map words vs) ≡ scalar_words all.len all.word

kept_first : (writes : Bool) (at : ℕ) (o : List ℕ) (p : Numbers) → Kept writes at o o [] (no_value p)
unfolding flatten last_words scalar_words
kept_first writes at o p = record {
  count = refl;
  cost = omega arith;
  short = omega arith;
  size = none writes;
  put = unwritten writes;
  long = refl;
  latest = refl;
}
  where
    none : (b : Bool) → 0 ≡ (if b then length {A = ℕ} [] else 0)
    none true = refl
    none false = refl

    unwritten : (b : Bool) → o ≡ (if b then sets o (at + 1) [] else o)
    unwritten true = refl
    unwritten false = refl

if_size : (b : Bool) (n k : ℕ) → b ≡ true → n ≡ (if b then k else 0) → n ≡ k
if_size b n k t h = subst (λ (c : Bool). n ≡ (if c then k else 0)) t h

pub if_taken : {A : Type 0} (b : Bool) (x y z : A) → x ≡ (if b then y else z) → b ≡ true → x ≡ y
if_taken {A} b x y z h t = subst (λ (c : Bool). x ≡ (if c then y else z)) t h

if_length : (b : Bool) (o w : List ℕ) (at : ℕ) → length (if b then sets o at w else o) ≡ length o
if_length true o w at = length-sets o at w
if_length false o w at = refl

kept_more :
    (writes : Bool) (at : ℕ) (o₀ o : List ℕ) (vs : List Value) (all : Repeated) (v : Value) (ran : Ran) (o' : List ℕ) (width : ℕ)
    → Kept writes at o₀ o vs all
    → words v ≡ scalar_words ran.len ran.word
    → ran.tries ≤ 64
    → WroteValue writes o (at + 1 + all.size) ran.len ran.word o' width
    → Kept writes at o₀ o' (vs ++ (v ∷ [])) (one_more all ran width)
kept_more writes at o₀ o vs all v ran o' width k e few w =
    let n = length_more vs v in
    let l : length (all_words (vs ++ (v ∷ []))) ≡ length (all_words vs) + length (scalar_words ran.len ran.word) =
    ap length (all_more vs v) ∙ length-append (all_words vs) (words v) ∙ ap (λ (t : List ℕ). length (all_words vs) + length t) e in
    let h = scalar_short ran.len ran.word in
    record {
      count = ap (λ (i : ℕ). i + 1) k.count ∙ sym n;
      cost = omega (arith, k.cost);
      short = omega (arith, k.short);
      size = sizes writes k.size w.width l;
      put = writing writes k.size k.put w.same;
      long = ap length w.same ∙ if_length writes o (scalar_words ran.len ran.word) (at + 1 + all.size) ∙ k.long;
      latest = last_more vs v ∙ e;
    }
  where
    sizes :
        (b : Bool)
        → all.size ≡ (if b then length (all_words vs) else 0)
        → width ≡ (if b then length (scalar_words ran.len ran.word) else 0)
        → length (all_words (vs ++ (v ∷ []))) ≡ length (all_words vs) + length (scalar_words ran.len ran.word)
        → all.size + width ≡ (if b then length (all_words (vs ++ (v ∷ []))) else 0)
    sizes true p q l = omega arith
    sizes false p q l = omega arith

    writing :
        (b : Bool)
        → all.size ≡ (if b then length (all_words vs) else 0)
        → o ≡ (if b then sets o₀ (at + 1) (all_words vs) else o₀)
        → o' ≡ (if b then sets o (at + 1 + all.size) (scalar_words ran.len ran.word) else o)
        → o' ≡ (if b then sets o₀ (at + 1) (all_words (vs ++ (v ∷ []))) else o₀)
    writing true p q r =
        r
        ∙ ap₂ (λ (l : List ℕ) (i : ℕ). sets l (at + 1 + i) (scalar_words ran.len ran.word)) q p
        ∙ sym (sets_append (all_words vs) (scalar_words ran.len ran.word) o₀ (at + 1))
        ∙ ap (λ (t : List ℕ). sets o₀ (at + 1) t) (ap (λ (t : List ℕ). all_words vs ++ t) (sym e) ∙ sym (all_more vs v))
    writing false p q r = r ∙ q

-- ---- what is still to be run is the whole
pub record Turning (b known sh ws m₀ : List ℕ) (how : Repeat) (o₀ : List ℕ) (mark : ℕ) (p : Numbers) (m o : List ℕ)
    (s : Numbers) (from : ℕ) (last : Maybe ℕ) (all : Repeated) : Type 0 where
  pub asked : Repeating b known sh ws m₀ p mark how o₀
  pub fuel : ℕ
  pub bound : ℕ
  pub trace : List Visit
  pub values : List Value
  pub whole :
      repeated how.catch how.stops (eval mark asked.below.stands.state.items asked.below.stands.tree) (state_of m₀ p)
      ≡ prefixed all.tries trace values
      (repeat how.catch how.stops fuel (counted_of last) (eval mark asked.below.stands.state.items asked.below.stands.tree) (state_of m s))
  pub ahead : (l : ℕ) → l ≤ s.remaining → fewer l (counted_of last) ≡ true → l < bound
  pub more : bound < fuel
  pub few : length values + bound ≤ 257
  pub left : LeftState m₀ p m s
  pub hint : Hint asked.below.stands.tree (sheet_area sh) ws m s from
  pub kept : Kept how.writes how.at o₀ o values all

module _ (b known sh ws m₀ : List ℕ) (how : Repeat) (o₀ : List ℕ) (mark : ℕ) (p : Numbers) where
  abbrev n : ℕ
  n = how.child

  abbrev catch : Bool
  catch = how.catch

  abbrev stops : Bool
  stops = how.stops

  abbrev writes : Bool
  writes = how.writes

  abbrev at : ℕ
  at = how.at

  pub turn_first :
      Repeating b known sh ws m₀ p mark how o₀
      → (from : ℕ)
      → from ≡ p.start
      → (all : Repeated)
      → all ≡ no_value p
      → Turning b known sh ws m₀ how o₀ mark p m₀ o₀ p from None all
  unfolding repeated state_of from_raw
  turn_first z from h all e =
      let f = few_left m₀ p z.below.stands.state.fine in
      rw e (record {
        asked = z;
        fuel = p.remaining + 2;
        bound = p.remaining + 1;
        trace = [];
        values = [];
        whole =
            sym (prefixed_none _);
        ahead = λ l h q. omega arith;
        more = omega arith;
        few = omega arith;
        left = left_same m₀ p z.below.stands.state.fine;
        hint = hint_first z.below.stands.tree (sheet_area sh) ws m₀ p z.below.stands.state.fine from h;
        kept = kept_first writes at o₀ p;
      })

  module _
      (m o : List ℕ)
      (s : Numbers)
      (from : ℕ)
      (last : Maybe ℕ)
      (all : Repeated)
      (i : Turning b known sh ws m₀ how o₀ mark p m o s from last all)
    where
      abbrev tree : Tree
      tree = i.asked.below.stands.tree

      abbrev items : List Item
      items = i.asked.below.stands.state.items

      abbrev run : State → Run Value
      run = eval mark items tree

      abbrev ready : CanTake (sheet_area sh) ws m s mark
      ready = record {
        items = items;
        table = i.asked.below.stands.state.table;
        same = i.asked.below.stands.state.same ∙ sym i.left.count;
        fine = i.left.fine;
        told = i.asked.below.stands.state.told;
      }

      -- the child in the state at hand
      abbrev turn_ready : Scalar b known sh ws m s mark n
      turn_ready = record {
        stands = record {
          tree = tree;
          node = i.asked.below.stands.node;
          light = i.asked.below.stands.light;
          made = i.asked.below.stands.made;
          state = ready;
          knows = i.asked.below.stands.knows;
        };
        scalar = i.asked.below.scalar;
      }

      abbrev pub turn_asks : Turns b known sh ws m s mark n from
      turn_asks = record { below = turn_ready; hint = i.hint }

      pub long_kept : length o ≡ length o₀
      long_kept = i.kept.long

      pub long_wrote : (k len word : ℕ) (o' : List ℕ) (width : ℕ) → WroteValue writes o k len word o' width → length o' ≡ length o₀
      long_wrote k len word o' width g = ap length g.same ∙ if_length writes o (scalar_words len word) k ∙ i.kept.long

      pub long_wiped : (o' : List ℕ) → o' ≡ (if writes then sets o (at + 1) (replicate all.size 0) else o) → length o' ≡ length o₀
      long_wiped o' e = ap length e ∙ if_length writes o (replicate all.size 0) (at + 1) ∙ i.kept.long

      pub space_kept : writes ≡ true → at + 1 ≤ length o
      space_kept t = let r = (i.asked.space t).room in omega (arith, i.kept.long)

      module _ (m' : List ℕ) (ran : Ran) (said : NodeSays b sh ws m s mark n m' ran) where
        abbrev these : Items (sheet_area sh) ws s items
        these = (ready.table, ready.same)

        ran_told : told (run (state_of m s)) ≡ some (answered ran m')
        ran_told = child_told b known sh ws m s mark n turn_ready m' ran said items these

        ran_runs : Runs (length items) tree (state_of m s) (run (state_of m s))
        ran_runs = child_runs b known sh ws m s mark n turn_ready m' ran said items these

        ran_numbered : Numbered (run (state_of m s)).outcome
        ran_numbered = runs_numbered (length items) tree (state_of m s) (run (state_of m s)) ran_runs

        -- an evaluation of a child without a repeat
        ran_cheap : ran.tries ≤ 64
        unfolding most
        ran_cheap =
            let h = told_tries (run (state_of m s)) (answered ran m') ran_told in
            let k : (run (state_of m s)).tries ≤ leaves tree = rw i.asked.flat at ran_runs.cost in
            omega (arith, i.asked.below.stands.light)

        ran_left : LeftState m₀ p m' ran.numbers
        ran_left =
            let l = child_left b known sh ws m s mark n turn_ready m' ran said in
            record { count = l.count ∙ i.left.count; long = l.long ∙ i.left.long; fine = l.fine }

        ran_fewer : ran.numbers.remaining ≤ s.remaining
        unfolding state_of from_raw
        ran_fewer =
            let e = told_state (run (state_of m s)) (answered ran m') ran_told in
            subst (λ (u : State). u.remaining ≤ s.remaining) e ran_runs.step.fewer

        -- where the next turn may search from
        ran_hint : (f : ℕ) → f ≡ next_from from s.remaining ran.numbers → Hint tree (sheet_area sh) ws m' ran.numbers f
        ran_hint f e =
            let u = told_state (run (state_of m s)) (answered ran m') ran_told in
            let k = subst (λ (v : State). Step (length items) (state_of m s) v) u ran_runs.step in
            let l = child_left b known sh ws m s mark n turn_ready m' ran said in
            rw e (hint_next (sheet_area sh) ws m s mark ready m' ran.numbers l k tree from i.hint u)

        pub turn_fits : all.tries + ran.tries ≤ 16512
        turn_fits = omega (arith, ran_cheap, i.kept.cost, i.few)

        -- the fuel lasts for this turn
        fuelled : (k : ℕ) × (i.fuel ≡ suc k)
        fuelled = go i.fuel i.more
          where
            go : (f : ℕ) → i.bound < f → (k : ℕ) × (f ≡ suc k)
            go zero h = absurd (omega arith)
            go (suc f) h = (f, refl)

        this_turn :
            repeated catch stops run (state_of m₀ p)
            ≡ prefixed all.tries i.trace i.values (repeat catch stops (suc fuelled.0) (counted_of last) run (state_of m s))
        this_turn =
            i.whole
            ∙ ap (λ (f : ℕ). prefixed all.tries i.trace i.values (repeat catch stops f (counted_of last) run (state_of m s))) fuelled.1

        abbrev Decides : Counting → Type 0
        Decides w = option_way ran.number catch s.remaining ran.numbers.remaining (counted_of last) ≡ w

        abbrev Answers : List ℕ → List ℕ → Repeated → Type 0
        Answers m'' o' r = (t : Tree) → tree_at b n ≡ some t → Repeats mark (sheet_area sh) ws t how m₀ p m'' o₀ o' r

        -- what was told of the items at hand is told of any
        answers :
            (m'' o' : List ℕ) (r : Repeated) (vs : List (List ℕ))
            → told_list (repeated catch stops run (state_of m₀ p)) ≡ some (listed r m'' vs)
            → r.count ≡ length vs
            → (writes ≡ true → r.size ≡ length (flatten vs))
            → last_words vs ≡ scalar_words r.len r.word
            → o' ≡ (if writes then sets o₀ (at + 1) (flatten vs) else o₀)
            → length vs ≤ 257
            → length (flatten vs) ≤ 514
            → r.tries ≤ 16512
            → LeftState m₀ p m'' r.numbers
            → Answers m'' o' r
        answers m'' o' r vs e c z l w few fits cost left t q =
            let u = some-injective tree t (sym i.asked.below.stands.node ∙ q) in
            record {
              values = vs;
              same = λ is a.
                  subst (λ (v : Tree). told_list (repeated catch stops (eval mark is v) (state_of m₀ p)) ≡ some (listed r m'' vs)) u
                  (subst (λ (js : List Item). told_list (repeated catch stops (eval mark js tree) (state_of m₀ p)) ≡ some (listed r m'' vs))
                  (items_same (sheet_area sh) ws p items is (i.asked.below.stands.state.table, i.asked.below.stands.state.same) a)
                  e);
              count = c;
              size = z;
              last = l;
              put = w;
              few = few;
              fits = fits;
              cost = cost;
              left = left;
            }

        -- ---- the repeat ends with the values so far
        Ended : State → Type 0
        Ended t = repeated catch stops run (state_of m₀ p) ≡ Went catch stops fuelled.0 (counted_of last) run (state_of m s) (answered ran m')
            ran_told ran_numbered all.tries i.trace i.values i.values (ended (ok []) t)

        few_values : length (map words i.values) ≤ 257
        few_values = let l = map_length i.values in omega (arith, i.few)

        few_words : length (all_words i.values) ≤ 514
        few_words = omega (arith, i.kept.short, i.few)

        written : writes ≡ true → all.size ≡ length (all_words i.values)
        written t = if_size writes all.size (length (all_words i.values)) t i.kept.size

        ends : (m'' : List ℕ) (q : Numbers) (r : Repeated) → r ≡ ended_with all ran.tries q → Ended (state_of m'' q) → LeftState m₀ p m'' q → Answers m'' o r
        unfolding Ended
        ends m'' q r e w l =
            rw e
            (answers m'' o (ended_with all ran.tries q) (map words i.values)
            (ap told_list w ∙ list_ended (all.tries + ran.tries) (i.trace ++ (run (state_of m s)).trace) i.values (state_of m'' q))
            (i.kept.count ∙ sym (map_length i.values))
            written
            i.kept.latest
            i.kept.put
            few_values
            few_words
            turn_fits
            l)

        pub turn_ends : Decides Uncounted → (r : Repeated) → r ≡ ended_with all ran.tries ran.numbers → Answers m' o r
        unfolding Ended state_of from_raw
        turn_ends w r e =
            ends m' ran.numbers r e
            (this_turn ∙ turn_uncounted catch stops fuelled.0 (counted_of last) run (state_of m s) (answered ran m') ran_told ran_numbered all.tries i.trace i.values w)
            ran_left

        -- the marks are put back, or are as they were
        put_back :
            Decides Absent
            → (keeps : Bool)
            → ((t : Tree) → tree_at b n ≡ some t → keeps ≡ keeps_marks catch t)
            → (before : List ℕ)
            → (keeps ≡ true → before ≡ m)
            → (if keeps then before else m') ≡ m
        put_back w true k before f = f refl
        put_back w false k before f =
            absent_by b known sh ws m s mark n turn_ready m' ran said catch false k refl (counted_of last) w

        pub turn_stops :
            Decides Absent
            → (keeps : Bool)
            → ((t : Tree) → tree_at b n ≡ some t → keeps ≡ keeps_marks catch t)
            → (before : List ℕ)
            → (keeps ≡ true → before ≡ m)
            → (m'' : List ℕ)
            → m'' ≡ (if keeps then before else m')
            → (r : Repeated)
            → r ≡ ended_with all ran.tries s
            → Answers m'' o r
        unfolding Ended state_of from_raw
        turn_stops w keeps k before f m'' em r e =
            rw (em ∙ put_back w keeps k before f)
            (ends m s r e
            (this_turn ∙ turn_absent catch stops fuelled.0 (counted_of last) run (state_of m s) (answered ran m') ran_told ran_numbered all.tries i.trace i.values w)
            i.left)

        -- ---- a refusal is passed on, and nothing is written any more
        wiped :
            (o' : List ℕ)
            → o' ≡ (if writes then sets o (at + 1) (replicate all.size 0) else o)
            → o' ≡ (if writes then sets o₀ (at + 1) [] else o₀)
        wiped o' e = go writes i.asked.space i.kept.size i.kept.put e
          where
            go :
                (c : Bool)
                → (c ≡ true → Room o₀ at)
                → all.size ≡ (if c then length (all_words i.values) else 0)
                → o ≡ (if c then sets o₀ (at + 1) (all_words i.values) else o₀)
                → o' ≡ (if c then sets o (at + 1) (replicate all.size 0) else o)
                → o' ≡ (if c then sets o₀ (at + 1) [] else o₀)
            go true z k h q =
                q
                ∙ ap₂ (λ (l : List ℕ) (j : ℕ). sets l (at + 1) (replicate j 0)) h k
                ∙ sets_back (all_words i.values) o₀ (at + 1) (λ j l. (z refl).zeros j (omega arith))
            go false z k h q = q ∙ h

        pub turn_refused :
            Decides PassedOn
            → (o' : List ℕ)
            → o' ≡ (if writes then sets o (at + 1) (replicate all.size 0) else o)
            → (r : Repeated)
            → r ≡ passed_on all ran
            → Answers m' o' r
        unfolding state_of from_raw flatten last_words scalar_words
        turn_refused w o' g r e =
            let x = turn_passed catch stops fuelled.0 (counted_of last) run (state_of m s) (answered ran m') ran_told ran_numbered all.tries i.trace i.values w in
            rw e
            (answers m' o' (passed_on all ran) []
            (ap told_list (this_turn ∙ x.same)
            ∙ list_refused (all.tries + ran.tries) (i.trace ++ (run (state_of m s)).trace) i.values x.refusal (state_of m' ran.numbers)
            ∙ (λ j. some (record { number = x.number j; place = x.place j; tries = all.tries + ran.tries; values = []; state = state_of m' ran.numbers })))
            refl
            (λ t. refl)
            refl
            (wiped o' g)
            (omega arith)
            (omega arith)
            turn_fits
            ran_left)

        -- ---- a value more
        module _ (w : Decides Counted) where
          near : ran.numbers.remaining < i.bound
          near = i.ahead ran.numbers.remaining ran_fewer (counted_fewer ran.number catch s.remaining ran.numbers.remaining (counted_of last) w)

          pub turn_less : ran.numbers.remaining < left_of last
          turn_less =
              let h = few_left m' ran.numbers ran_left.fine in
              fewer_less ran.numbers.remaining last h (counted_fewer ran.number catch s.remaining ran.numbers.remaining (counted_of last) w)

          pub turn_space : writes ≡ true → at + 1 + all.size + 2 ≤ length o
          turn_space t =
              let z = written t in
              let r = (i.asked.space t).room in
              omega (arith, near, i.few, i.kept.short, i.kept.long)

          module _ (o' : List ℕ) (width : ℕ) (g : WroteValue writes o (at + 1 + all.size) ran.len ran.word o' width) where
            pub turn_adds : OneMoreFits all ran width
            turn_adds = record {
              tries = turn_fits;
              count = omega (arith, i.kept.count, i.few);
              size = small writes i.kept.size;
              width = narrow writes g.width;
            }
              where
                small : (c : Bool) → all.size ≡ (if c then length (all_words i.values) else 0) → all.size ≤ 514
                small true e = omega (arith, few_words)
                small false e = omega arith

                narrow : (c : Bool) → width ≡ (if c then length (scalar_words ran.len ran.word) else 0) → width ≤ 2
                narrow true e = omega (arith, scalar_short ran.len ran.word)
                narrow false e = omega arith

            module _ (r : Repeated) (e : r ≡ one_more all ran width) (c : Bool) (d : c ≡ idle stops (with_remaining s.remaining) (with_remaining ran.numbers.remaining)) where
              idles : idle stops (state_of m s) (state_of m' ran.numbers) ≡ c
              unfolding state_of from_raw
              idles = idle_remaining stops (state_of m s) (state_of m' ran.numbers) ∙ sym d

              pub turn_idles : c ≡ true → Answers m' o' r
              unfolding state_of from_raw
              turn_idles q =
                  let x = turn_idle catch stops fuelled.0 (counted_of last) run (state_of m s) (answered ran m') ran_told ran_numbered all.tries i.trace i.values (idles ∙ q) w in
                  let vs = i.values ++ (x.value ∷ []) in
                  let k = kept_more writes at o₀ o i.values all x.value ran o' width i.kept x.words ran_cheap g in
                  let n = length_more i.values x.value in
                  let l = map_length vs in
                  rw e
                  (answers m' o' (one_more all ran width) (map words vs)
                  (ap told_list (this_turn ∙ x.same) ∙ list_ended (all.tries + ran.tries) (i.trace ++ (run (state_of m s)).trace) vs (state_of m' ran.numbers))
                  (k.count ∙ sym l)
                  (λ t. if_size writes (all.size + width) (length (all_words vs)) t k.size)
                  k.latest
                  k.put
                  (omega (arith, i.few, near))
                  (omega (arith, k.short, i.few, near))
                  turn_fits
                  ran_left)

              pub turn_next :
                  c ≡ false
                  → (next : ℕ)
                  → next ≡ next_from from s.remaining ran.numbers
                  → Turning b known sh ws m₀ how o₀ mark p m' o' ran.numbers next (Some ran.numbers.remaining) r
              unfolding state_of from_raw fewer
              turn_next q next en =
                  let x = turn_counted catch stops fuelled.0 (counted_of last) run (state_of m s) (answered ran m') ran_told ran_numbered
                  all.tries i.trace i.values (idles ∙ q) w in
                  let h = few_left m' ran.numbers ran_left.fine in
                  let n = length_more i.values x.value in
                  let f = fuelled.1 in
                  rw e
                  (record {
                    asked = i.asked;
                    fuel = fuelled.0;
                    bound = ran.numbers.remaining;
                    trace = i.trace ++ (run (state_of m s)).trace;
                    values = i.values ++ (x.value ∷ []);
                    whole =
                        this_turn
                        ∙ x.same;
                    ahead = λ l a z. ltb-true l ran.numbers.remaining z;
                    more = omega (arith, i.more, near);
                    few = omega (arith, i.few, near);
                    left = ran_left;
                    hint = ran_hint next en;
                    kept = kept_more writes at o₀ o i.values all x.value ran o' width i.kept x.words ran_cheap g;
                  })
