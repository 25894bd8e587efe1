-- Every preview, on any input: the take on a copy, and exactly the places that it would use.
use mathlib.Core.Bool.{Bool, true, false, and-eq-true_iff}
use mathlib.Core.List.{List, ◌++◌}
use mathlib.Core.Option.{Option, some, none, some-injective, none-ne-some}
use mathlib.Core.Path.{◌≡◌, refl, sym, ap, ◌∙◌, subst}
use Prim.Native.Nat.{ℕ, ◌-◌, ◌≤◌}
use native.Mathlib.Omega.{arith}
use lib.Dec.{eqb, ltb}
use lib.ListN.{length, get_or, take, drop, replicate, get_elem?, take-append-drop}
use Rattle.rules.specs.Base.{contains, ◌>>?◌}
use Rattle.rules.specs.Outcome.{Outcome, ok, refused, fault, refuse, ◌>>=◌}
use Rattle.rules.specs.Tree.{zeros}
use Rattle.rules.specs.Accept.{Accepted}
use Rattle.rules.specs.Split.{Item}
use Rattle.rules.specs.State.{State, parsed, command_mark, state_good}
use Rattle.rules.specs.Take.{Took, Taken, Operand, take_flag, take_arg, take_positional_word, take_cmd}
use Rattle.rules.specs.Given.{form_in, sheet_in, slice_in}
use Rattle.rules.specs.Run.{padded}
use Rattle.rules.specs.Codes.{place_code}
use Rattle.rules.specs.Calls.{items_in, from_raw, to_raw, most_fields, state_in, asked, mark_in, flag_names, argument_key, command_name, operand_or20, Called, handed, on_items, on_form}
use Rattle.rules.specs.Calls.{call_take_flag, call_take_arg, call_take_positional, call_take_cmd}
use Rattle.rules.specs.declared.State.{State as Raw}
use Rattle.rules.specs.Sound.{Good}
use Rattle.rules.specs.CallsAnswered.{Hands}
use Rattle.rules.proofs.Places.{if_elim}
use Rattle.rules.proofs.Fields.{field_parsed}
use Rattle.rules.proofs.SplitLaws.{ok_injective}
use Rattle.rules.proofs.Turning.{Leaves, bind_leaves, any_leaves, same_leaves}
use Rattle.rules.proofs.CallsAnswer.{if_ok, state_good_lem, command_parsed, calls_answered}
use Rattle.rules_preview.specs.Preview.{used_between, Previewed, previewed, preview_of, preview_flag, preview_arg, preview_positional, preview_cmd}
use Rattle.rules_preview.specs.PreviewAnswered.{Shows, OneIf, PreviewAnswered}
use Rattle.rules_preview.proofs.UsedLaws.{between_rising, between_exactly, between_same, between_padded, stays_padded, written_long, written_few, written_used, written_others}
use Rattle.rules_preview.proofs.TakesUse.{Uses, FlagPlaces, ArgPlaces, WordPlaces, CmdPlaces, flag_uses, arg_uses, positional_uses, cmd_uses}

-- ---- a state that 29 lets through: its marks, and nothing behind them
record Given (x : Raw) (s : State) : Type 0 where
  marks : take x.count x.marks ≡ s.marks
  behind : zeros (drop x.count x.marks) ≡ true

state_given : (fields n : ℕ) (x : Raw) (s : State) → state_in fields n x ≡ ok s → Given x s
unfolding state_in from_raw
state_given fields n x s h =
    let behind : Bool = zeros (drop x.count x.marks) in
    let (t, e) = if_ok _ (from_raw x) s (refuse 29 none) h in
    let p = (and-eq-true_iff _ (state_good fields n (from_raw x))).0 t in
    record { marks = ap (λ (u : State). u.marks) e; behind = ((and-eq-true_iff (eqb x.count n) behind).0 p.0).1 }

-- ---- what a call did that was not refused
record Did {A : Type 0} (Q : A → List ℕ → State → Type 0) (x : Raw) (t : Took A) : Type 0 where
  start : State
  given : Given x start
  uses : Uses Q start t

module _ {A : Type 0} (Q : A → List ℕ → State → Type 0) (x : Raw) (t : Took A) (did : Did Q x t) where
  abbrev before : List ℕ
  before = did.start.marks

  abbrev past : List ℕ
  past = drop x.count x.marks

  abbrev left : List ℕ
  left = t.state.marks

  whole : x.marks ≡ before ++ past
  whole = sym (take-append-drop x.count x.marks) ∙ ap (λ (l : List ℕ). l ++ past) did.given.marks

  long : length left ≡ length before
  long = written_long did.uses.mark before left did.uses.places did.uses.written

  did_places : used_between x.marks (padded 256 left) ≡ did.uses.places
  unfolding padded
  did_places =
      ap (λ (l : List ℕ). used_between l (left ++ replicate (256 - length left) 0)) whole
      ∙ between_padded before left past (256 - length left) long
      ∙ written_used did.uses.mark before did.uses.told left did.uses.places did.uses.written

  did_others : (i : ℕ) → contains did.uses.places i ≡ false → get_or (padded 256 left) i 0 ≡ get_or x.marks i 0
  unfolding padded
  did_others i h =
      stays_padded before left past (256 - length left) i did.given.behind long
      (written_others did.uses.mark before left did.uses.places did.uses.written i h)
      ∙ ap (λ (l : List ℕ). get_or l i 0) (sym whole)

  did_few : length did.uses.places ≤ 2
  did_few = written_few did.uses.mark before left did.uses.places did.uses.written

-- ---- the preview of a call
fault_not : {A : Type 0} {x : Raw} {l : List ℕ} (o : Outcome (Called A)) → ((c : Called A) → o ≡ ok c → ⊥) → Hands l x o → ⊥
fault_not o h hands = h hands.called hands.answered

module _ {A : Type 0} (Q : A → List ℕ → State → Type 0) (x : Raw) where
  shows : {l : List ℕ} (o : Outcome (Took A)) → Leaves (Did Q x) o → Hands l x (handed x o) → Shows x (handed x o) (preview_of x (handed x o))
  unfolding handed preview_of previewed to_raw ◌>>=◌
  shows (ok t) did hands =
      let c : Called A = record { number = 0; place = none; answer = some t.answer; state = to_raw t.state } in
      record {
        shown = previewed x c;
        answered = refl;
        taken = refl;
        exactly = between_exactly x.marks c.state.marks;
        rising = between_rising x.marks c.state.marks;
        few = rw (did_places Q x t did) (did_few Q x t did);
        others = λ i h. did_others Q x t did i (rw (did_places Q x t did) at h);
        refused = λ h. absurd (h refl);
      }
  shows (refused e) did hands =
      let c : Called A = record { number = e.number; place = e.place; answer = none; state = x } in
      record {
        shown = previewed x c;
        answered = refl;
        taken = refl;
        exactly = between_exactly x.marks x.marks;
        rising = between_rising x.marks x.marks;
        few = rw (between_same x.marks) (omega arith);
        others = λ i h. refl;
        refused = λ h. (refl, between_same x.marks, refl);
      }
  shows (fault f) did hands = absurd (fault_not _ (λ c e. let z : ◌≡◌ {A = ℕ} 0 1 = cc in omega arith) hands)

  -- an answer, and what is known of its places
  beside : (o : Outcome (Took A)) → Leaves (Did Q x) o → (p : Previewed A) (a : A) → preview_of x (handed x o) ≡ ok p → p.taken.answer ≡ some a
      → (u : State) × Q a p.places u × (p.taken.number ≡ 0) × (p.taken.state ≡ to_raw u)
  unfolding handed preview_of previewed to_raw ◌>>=◌
  beside (ok t) did p a e h =
      subst Beside (ok_injective e)
      (λ h. let z = some-injective t.answer a h in
      (t.state, subst (λ (b : A). Q b (used_between x.marks (padded 256 t.state.marks)) t.state) z (rw (did_places Q x t did) did.uses.more), refl, refl)) h
    where
      Beside : Previewed A → Type 0
      Beside p = p.taken.answer ≡ some a → (u : State) × Q a p.places u × (p.taken.number ≡ 0) × (p.taken.state ≡ to_raw u)
  beside (refused r) did p a e h = absurd (none-ne-some a (rw (← ok_injective e) at h))
  beside (fault f) did p a e h = absurd (let z : ◌≡◌ {A = ℕ} 0 1 = cc in omega arith)

-- ---- the calls
leaves_map : {A : Type 0} (P R : A → Type 0) → ((a : A) → P a → R a) → (o : Outcome A) → Leaves P o → Leaves R o
leaves_map P R f (ok a) h = f a h
leaves_map P R f (refused e) h = tt
leaves_map P R f (fault x) h = tt

mark_parsed : (fields k : ℕ) → Leaves (λ m. parsed m ≡ true) (mark_in fields k)
unfolding mark_in
mark_parsed fields k = if_elim (Leaves (λ (m : ℕ). parsed m ≡ true)) (ltb k fields) _ (refused (refuse 28 none)) (λ _. field_parsed k) (λ _. tt)

module _ (sheet slice : List ℕ) (x : Raw) where
  -- behind the tests of sheet, items and state
  abbrev items_then : {A : Type 0} → ℕ → (List Item → State → Outcome (Took A)) → Outcome (Took A)
  items_then fields f = sheet_in sheet >>= λ area. slice_in 1792 slice >>= λ l. items_in area l >>= λ is. state_in fields (length is) x >>= f is

  items_did :
      {A : Type 0} (Q : A → List ℕ → State → Type 0) (fields : ℕ) (f : List Item → State → Outcome (Took A))
      → ((is : List Item) (s : State) → Good (length is) s → Leaves (Uses Q s) (f is s))
      → Leaves (Did Q x) (items_then fields f)
  items_did Q fields f h =
      bind_leaves _ _ (sheet_in sheet) _ (any_leaves (sheet_in sheet))
      (λ area _. bind_leaves _ _ (slice_in 1792 slice) _ (any_leaves (slice_in 1792 slice))
      (λ l _. bind_leaves _ _ (items_in area l) _ (any_leaves (items_in area l))
      (λ is _. bind_leaves _ _ (state_in fields (length is) x) _ (same_leaves (state_in fields (length is) x))
      (λ s e. leaves_map (Uses Q s) (Did Q x) (λ t u. record { start = s; given = state_given fields (length is) x s e; uses = u }) (f is s)
      (h is s (state_good_lem fields (length is) x s e))))))

  positional_then : ℕ → Outcome (Took Operand)
  positional_then j = items_then most_fields (λ is s. mark_in most_fields j >>= λ mark. take_positional_word mark is s >>= operand_or20)

  positional_did : (j : ℕ) → Leaves (Did WordPlaces x) (positional_then j)
  unfolding positional_then
  positional_did j = items_did WordPlaces most_fields _ (λ is s g.
      bind_leaves _ _ (mark_in most_fields j) _ (mark_parsed most_fields j) (λ mark told. positional_uses mark told is s g))

  module _ (form : List ℕ) where
    form_did :
        {A : Type 0} (Q : A → List ℕ → State → Type 0) (f : Accepted → List Item → State → Outcome (Took A))
        → ((a : Accepted) (is : List Item) (s : State) → Good (length is) s → Leaves (Uses Q s) (f a is s))
        → Leaves (Did Q x) (form_in form >>= λ a. items_then (length a.fields) (f a))
    form_did Q f h = bind_leaves _ _ (form_in form) _ (any_leaves (form_in form)) (λ a _. items_did Q (length a.fields) (f a) (h a))

    flag_then : ℕ → ℕ → Outcome (Took Bool)
    flag_then k j = form_in form >>= λ a. items_then (length a.fields) (λ is s.
        asked (get_elem? a.trees k >>? flag_names) >>= λ m. mark_in (length a.fields) j >>= λ mark. take_flag mark is m s)

    flag_did : (k j : ℕ) → Leaves (Did FlagPlaces x) (flag_then k j)
    unfolding flag_then
    flag_did k j = form_did FlagPlaces _ (λ a is s g.
        bind_leaves _ _ (asked (get_elem? a.trees k >>? flag_names)) _ (any_leaves (asked (get_elem? a.trees k >>? flag_names)))
        (λ m _. bind_leaves _ _ (mark_in (length a.fields) j) _ (mark_parsed (length a.fields) j) (λ mark told. flag_uses mark told is s g m)))

    arg_then : ℕ → ℕ → Outcome (Took (Option Taken))
    arg_then k j = form_in form >>= λ a. items_then (length a.fields) (λ is s.
        asked (get_elem? a.trees k >>? argument_key) >>= λ m. mark_in (length a.fields) j >>= λ mark. take_arg mark is m.named m.adjacent s)

    arg_did : (k j : ℕ) → Leaves (Did ArgPlaces x) (arg_then k j)
    unfolding arg_then
    arg_did k j = form_did ArgPlaces _ (λ a is s g.
        bind_leaves _ _ (asked (get_elem? a.trees k >>? argument_key)) _ (any_leaves (asked (get_elem? a.trees k >>? argument_key)))
        (λ m _. bind_leaves _ _ (mark_in (length a.fields) j) _ (mark_parsed (length a.fields) j)
        (λ mark told. arg_uses mark told is s g m.named m.adjacent)))

    cmd_then : ℕ → Outcome (Took Bool)
    cmd_then k = form_in form >>= λ a. items_then (length a.fields) (λ is s. asked (command_name a k) >>= λ w. take_cmd command_mark is w s)

    cmd_did : (k : ℕ) → Leaves (Did CmdPlaces x) (cmd_then k)
    unfolding cmd_then
    cmd_did k = form_did CmdPlaces _ (λ a is s g.
        bind_leaves _ _ (asked (command_name a k)) _ (any_leaves (asked (command_name a k))) (λ w _. cmd_uses command_mark command_parsed is s g w))

-- a command's places by its answer alone
one_if : (b : Bool) (l : List ℕ) (u : State) → CmdPlaces b l u → OneIf b l
one_if true l u h = h
one_if false l u h = h.0

-- no `current`
cleared : (u : State) (x : Raw) → u.current ≡ none → x ≡ to_raw u → x.current ≡ 0
unfolding to_raw
cleared u x e h = ap (λ (y : Raw). y.current) h ∙ ap place_code e

pub preview_answered : PreviewAnswered
unfolding preview_flag preview_arg preview_positional preview_cmd call_take_flag call_take_arg call_take_positional call_take_cmd on_form on_items
    flag_then arg_then positional_then cmd_then
preview_answered = record {
  flag = λ form sheet slice x k j. shows FlagPlaces x (flag_then sheet slice x form k j) (flag_did sheet slice x form k j) (calls_answered.take_flag form sheet slice x k j);
  arg = λ form sheet slice x k j. shows ArgPlaces x (arg_then sheet slice x form k j) (arg_did sheet slice x form k j) (calls_answered.take_arg form sheet slice x k j);
  positional = λ sheet slice x j. shows WordPlaces x (positional_then sheet slice x j) (positional_did sheet slice x j) (calls_answered.take_positional sheet slice x j);
  cmd = λ form sheet slice x k. shows CmdPlaces x (cmd_then sheet slice x form k) (cmd_did sheet slice x form k) (calls_answered.take_cmd form sheet slice x k);
  flag_places = λ form sheet slice x k j p b e h. (beside FlagPlaces x (flag_then sheet slice x form k j) (flag_did sheet slice x form k j) p b e h).1;
  arg_places = λ form sheet slice x k j p t e h. (beside ArgPlaces x (arg_then sheet slice x form k j) (arg_did sheet slice x form k j) p t e h).1;
  positional_places = λ sheet slice x j p o e h. (beside WordPlaces x (positional_then sheet slice x j) (positional_did sheet slice x j) p o e h).1;
  cmd_places = λ form sheet slice x k p b e h.
      let (u, places, _, _) = beside CmdPlaces x (cmd_then sheet slice x form k) (cmd_did sheet slice x form k) p b e h in one_if b p.places u places;
  cmd_not = λ form sheet slice x k p e h.
      let (u, places, number, state) = beside CmdPlaces x (cmd_then sheet slice x form k) (cmd_did sheet slice x form k) p false e h in
      (number, cleared u p.taken.state places.1 state);
}
