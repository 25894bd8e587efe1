-- The run, by how the tests of the input, splitting and the fields end.
use mathlib.Core.Bool.{true}
use mathlib.Core.List.{List, []}
use mathlib.Core.Option.{Option, some, none, some-injective, none-ne-some}
use mathlib.Core.Path.{◌≡◌, refl, sym, ap, ◌∙◌, subst}
use Prim.Native.Nat.{ℕ, ◌+◌, ◌-◌, ◌≤◌, ◌<◌}
use native.Mathlib.Omega.{arith}
use lib.ListN.{length, get_or, get_elem?, replicate}
use lib.Seq.{sets}
use Rattle.rules.specs.Outcome.{Outcome, ok, refused, fault, ◌>>=◌, MissingItem, list_words, Refusal}
use Rattle.rules.specs.Value.{Value}
use Rattle.rules.specs.Codes.{place_code, check_code, place_of}
use Rattle.rules.specs.Base.{concat_map}
use Rattle.rules.specs.Form.{Form, field_count, read_form}
use Rattle.rules.specs.Sheet.{sheet_area, sheet_fault}
use Rattle.rules.specs.Tree.{Tree}
use Rattle.rules.specs.Accept.{Checked as Tested, accepted, refused_at, Accepted, check_form, length_good, letters_of}
use Rattle.rules.specs.Split.{Item}
use Rattle.rules.specs.State.{State, field_mark, empty_state}
use Rattle.rules.specs.Eval.{Ran as Run}
use Rattle.rules.specs.Eval as eval
use Rattle.rules.specs.Run.{Line, split, padded, refused_input, report_with, report, run, run_all, run_line}
use Rattle.rules.specs.Missing.{lacking}
use Rattle.rules.specs.Calls.{to_raw}
use Rattle.rules.specs.declared.State.{State as Raw}
use Rattle.rules.specs.declared.Refused.{Refused}
use Rattle.rules.proofs.Fields.{field_parsed}
use Rattle.rules.proofs.Acceptance.{accepted_form, accepted_length, accepted_passed, good_no_fault}
use Rattle.state_marks.specs.declared.Numbers.{Numbers}
use Rattle.state_marks.specs.Lent.{raw_of, state_of}
use Rattle.rules.proofs.CodeLaws.{place_code_lem, code_place}
use Rattle.rules.proofs.GivenLaws.{run_form, run_sheet, run_short, run_cramped, run_unlisted, run_goes}
use Rattle.rules.proofs.InputFaults.{list_length, no_entries_listed}
use Rattle.rules.proofs.MissingLaws.{missing_told}
use Rattle.state_marks.proofs.Laws.{raw_back}
use Rattle.form_codes.specs.Codes.{CodedNames}
use Rattle.take_search.specs.States.{Items}
use Rattle.take_table.specs.Known.{Matchable, Known}
use Rattle.eval_told.specs.Told.{Told}
use Rattle.eval_told.specs.Nodes.{tree_at}
use Rattle.eval_missing.specs.Missing.{Listing, Lists}
use Rattle.split_args.proofs.States.{padded_words, all_zero, fill_long}
use Rattle.split_args.specs.declared.Ended.{Ended as Split}
use Rattle.split_args.specs.Construct.{starting_state as begun, Unmarked, SplitEnds}
use Rattle.rules.proofs.GivenLaws.{check_accepted}
use Rattle.run_fields.specs.Line.{Starts, told_all, missing_of, RunsAll, refused_with}
use Rattle.run_fields.proofs.Lacked.{left_items, none_missing, refused_inside, refused_number, refused_marked, refused_field, refused_missing}
use Rattle.run_fields.specs.declared.Reached.{Reached}
use Rattle.run.specs.Runner.{Ended, run_answer, ended, answer_of, CheckedInput, AfterSplit, LineFault, sheet, items, answers, list, LineTested, InputTested, ItemsBegin, RunsListed}
use Rattle.run.proofs.States.{zero_at}
use Rattle.run.proofs.Begun.{LineBegins, line_refused, state_is, line_begins}

-- ---- slices
nothing_padded : (n : ℕ) → padded n [] ≡ replicate n 0
unfolding padded
nothing_padded n = let z : n - 0 ≡ n = omega arith in rw z

-- ---- answers
answer_same :
    {n m k l t u v w : ℕ} {x y : Raw} {i j p q c d : List ℕ}
    → n ≡ m
    → k ≡ l
    → t ≡ u
    → v ≡ w
    → x ≡ y
    → i ≡ j
    → p ≡ q
    → c ≡ d
    → ended (record { number = n; place = k; tries = t; words = v; state = x }) i p c
    ≡ ended (record { number = m; place = l; tries = u; words = w; state = y }) j q d
answer_same a b c d e f g h =
    λ z. ended (record { number = a z; place = b z; tries = c z; words = d z; state = e z }) (f z) (g z) (h z)

pub refused_answer :
    (number place : ℕ) (i a l i' a' l' : List ℕ) (r : Reached)
    → i' ≡ sets i 0 (replicate (length i) 0)
    → a' ≡ sets a 0 (replicate (length a) 0)
    → l' ≡ sets l 0 (replicate (length l) 0)
    → r ≡ refused_with number place 0 0 (record { count = 0; remaining = 0; current = 0; start = 0; end = 0 })
    → run_answer (ok (refused_input (length i) (length a) (length l) number (place_of place))) ≡ ended (answer_of r (replicate 256 0)) i' a' l'
unfolding run_answer refused_input to_raw empty_state padded
refused_answer number place i a l i' a' l' r p q u e =
    rw e (answer_same refl (code_place place) refl refl refl
    (nothing_padded (length i) ∙ sym (p ∙ all_zero i (length i) refl))
    (nothing_padded (length a) ∙ sym (q ∙ all_zero a (length a) refl))
    (nothing_padded (length l) ∙ sym (u ∙ all_zero l (length l) refl)))

pub unmarked_answer :
    (x : Option Ended) (r : Reached) (m i a l : List ℕ)
    → Unmarked m
    → x ≡ ended (answer_of r (replicate 256 0)) i a l
    → x ≡ ended (answer_of r m) i a l
unmarked_answer x r m i a l u e = e ∙ ap (λ (n : List ℕ). ended (answer_of r n) i a l) (sym u.zeros)

-- ---- the tests of the line
module _ (s : List ℕ) (ni na nl : ℕ) (f : ℕ) (t : f ≡ sheet_fault s) where
  pub sheet_refused : (f ≡ 0 → ⊥) → LineTested s ni na nl f
  sheet_refused h = rw t (record { good = λ z. absurd (h (t ∙ z)); bad = λ z. sheet z })

  module _ (y : f ≡ 0) where
    pub items_short : ni < 1792 → LineTested s ni na nl 7
    items_short h = record { good = λ z. absurd (omega arith); bad = λ z. items (sym t ∙ y) h }

    module _ (i : 1792 ≤ ni) where
      pub answers_short : na < 8240 → LineTested s ni na nl 7
      answers_short h = record { good = λ z. absurd (omega arith); bad = λ z. answers (sym t ∙ y) i h }

      module _ (o : 8240 ≤ na) where
        pub list_short : nl < 192 → LineTested s ni na nl 14
        list_short h = record { good = λ z. absurd (omega arith); bad = λ z. list (sym t ∙ y) i o h }

        pub line_good : 192 ≤ nl → LineTested s ni na nl 0
        line_good h = record { good = λ z. record { checked = sym t ∙ y; items = i; answers = o; list = h }; bad = λ z. absurd (z refl) }

-- ---- and of the form
module _ (b s : List ℕ) (ni na nl : ℕ) (r : Refused) (e : r ≡ check_code (check_form b)) where
  -- 1 to 4
  pub form_refused : (r.number ≡ 0 → ⊥) → r.place < 4294967296 → InputTested b s ni na nl r
  form_refused z small = go (check_form b) refl
    where
      go : (c : Tested Accepted) → check_form b ≡ c → InputTested b s ni na nl r
      go (accepted a) g = absurd (z (ap (λ (y : Refused). y.number) (e ∙ ap check_code g)))
      go (refused_at m k) g =
          rw (e ∙ ap check_code g) (record {
            good = λ y. absurd (z (ap (λ (y : Refused). y.number) (e ∙ ap check_code g) ∙ y));
            bad = λ _. run_form b s ni m k g na nl ∙ ap (λ (j : Option ℕ). ok (refused_input ni na nl m j)) (sym (place_code_lem k));
            small = omega (arith, small, ap (λ (y : Refused). y.place) (e ∙ ap check_code g));
          })

  module _ (z : r.number ≡ 0) where
    line_bad : (n : ℕ) → LineFault s ni na nl n → run b s ni na nl ≡ ok (refused_input ni na nl n none)
    line_bad n (sheet h) = let (a, g) = check_accepted b r e z in run_sheet b s ni a g h na nl
    line_bad n (items t h) = let (a, g) = check_accepted b r e z in run_short b s ni a g t h na nl
    line_bad n (answers t i h) = let (a, g) = check_accepted b r e z in run_cramped b s ni a g t i na nl h
    line_bad n (list t i o h) = let (a, g) = check_accepted b r e z in run_unlisted b s ni a g t i na nl o h

    -- the line's refusals have no place
    pub line_tested : (n : ℕ) → LineTested s ni na nl n → (q : Refused) → q ≡ record { number = n; place = 0 } → InputTested b s ni na nl q
    unfolding place_of
    line_tested n t q w =
        let (a, g) = check_accepted b r e z in
        rw w (record {
          good = λ y items answers list l m k.
              let f = t.good y in
              record {
                ready = record { result = a; accepts = g; checked = f.checked; room = omega (arith, f.items, l) };
                space = omega (arith, f.answers, m);
                entries = omega (arith, f.list, k);
              };
          bad = λ y. line_bad n (t.bad y);
          small = omega arith;
        })

-- refused, with what the slices then hold
pub input_refused :
    (b s : List ℕ) (ni na nl : ℕ) (q : Refused)
    → InputTested b s ni na nl q
    → (q.number ≡ 0 → ⊥)
    → (x : Option Ended)
    → run_answer (ok (refused_input ni na nl q.number (place_of q.place))) ≡ x
    → run_answer (run b s ni na nl) ≡ x
input_refused b s ni na nl q t z x h = ap run_answer (t.bad z) ∙ h

-- ---- what is reported
run_is :
    (b s : List ℕ) (ni na nl : ℕ) (a : Accepted) (l : Line)
    → check_form b ≡ accepted a
    → sheet_fault s ≡ 0
    → 1792 ≤ ni
    → 8240 ≤ na
    → 192 ≤ nl
    → split a.form s ≡ ok l
    → run b s ni na nl ≡ report ni na nl l (run_line a.fields l)
unfolding ◌>>=◌
run_is b s ni na nl a l e f i o k h = run_goes b s ni a e f i na nl o k ∙ rw h

abbrev with_outcome_lem : Run (List Value) → Outcome (List Value) → Run (List Value)
with_outcome_lem r o = record { outcome = o; state = r.state; tries = r.tries; trace = r.trace }

abbrev handed : ℕ → ℕ → ℕ → Line → List MissingItem → Told → Option Ended
handed ni na nl l e y =
    ended (record { number = y.number; place = y.place; tries = y.tries; words = length y.words; state = to_raw y.state })
    (padded ni l.records)
    (padded na y.words)
    (padded nl (list_words e))

reported_told :
    (ni na nl : ℕ) (l : Line) (r : Run (List Value)) (x : Told)
    → told_all r ≡ some x
    → run_answer (report ni na nl l r) ≡ handed ni na nl l (missing_of r) x
unfolding report report_with run_answer told_all missing_of
reported_told ni na nl l r x h = go r.outcome h
  where
    go :
        (o : Outcome (List Value))
        → told_all (with_outcome_lem r o) ≡ some x
        → run_answer (report ni na nl l (with_outcome_lem r o)) ≡ handed ni na nl l (missing_of (with_outcome_lem r o)) x
    go (ok vs) e = ap (handed ni na nl l []) (some-injective _ x e)
    go (refused v) e = ap (handed ni na nl l v.missing) (some-injective _ x e)
    go (fault v) e = absurd (none-ne-some x e)

-- what is missing of an accepted form's fields fits the list
reached_fits :
    (b : List ℕ) (a : Accepted)
    → check_form b ≡ accepted a
    → (is : List Item) (s : State)
    → length (list_words (missing_of (run_all 0 is a.fields s))) ≤ 192
unfolding missing_of
reached_fits b a e is s = go (run_all 0 is a.fields s).outcome refl
  where
    go : (o : Outcome (List Value)) → (run_all 0 is a.fields s).outcome ≡ o → length (list_words (missing_of (run_all 0 is a.fields s))) ≤ 192
    go (ok vs) h = rw (h, missing_of) (omega (arith, list_length []))
    go (refused x) h = rw (h, missing_of) (omega (arith, list_length x.missing, missing_told.fits b a e 0 is s x h))
    go (fault x) h = rw (h, missing_of) (omega (arith, list_length []))

-- a line's fields ran from a state over its items on: what is reported stands in the slices, which were cleared before
module _ (b : List ℕ) (a : Accepted) (accepts : check_form b ≡ accepted a) (area words : List ℕ) (ni na nl : ℕ) (l : Line) (m : List ℕ) (p : Numbers)
    (items : Items area words p l.items) (long : length m ≡ 256) (m' a' a'' k' k'' : List ℕ) (r : Reached)
    (ran : RunsListed area words 0 a.fields m p m' a' a'' k' k'' r) where
  pub fields_answer : words ≡ padded ni l.records → a' ≡ replicate na 0 → k' ≡ replicate nl 0 → 8240 ≤ na → 192 ≤ nl
      → run_answer (report ni na nl l (run_all 0 l.items a.fields (state_of m p))) ≡ ended (answer_of r m') words a'' k''
  fields_answer written cleared unlisted space room =
      let u = ran.reached in
      let told = u.same l.items items in
      let fits = reached_fits b a accepts l.items (state_of m p) in
      let entries = list_words (missing_of (run_all 0 l.items a.fields (state_of m p))) in
      reported_told ni na nl l (run_all 0 l.items a.fields (state_of m p)) _ told
      ∙ answer_same refl refl refl (sym u.count)
      (raw_back m' r.numbers u.left.fine (u.left.long ∙ long))
      (sym written)
      (sym (u.put ∙ ap (λ (o : List ℕ). sets o 0 u.values) cleared ∙ padded_words u.values na (omega (arith, u.few, space))))
      (sym (ran.listed l.items items ∙ ap (λ (o : List ℕ). sets o 0 entries) unlisted ∙ padded_words entries nl (omega (arith, fits, room))))

-- a line that was refused before any try, with what the slices then hold
pub refused_line_lem :
    (ni na nl : ℕ) (l : Line) (e : Refusal) (s : State) (m : List ℕ) (p : Numbers) (words : List ℕ) (number place : ℕ) (r : Reached)
    → e.number ≡ number
    → place_code e.place ≡ place
    → e.missing ≡ []
    → raw_of m p ≡ to_raw s
    → words ≡ padded ni l.records
    → r ≡ refused_with number place 0 0 p
    → run_answer (report ni na nl l (eval.ended (refused e) s)) ≡ ended (answer_of r m) words (replicate na 0) (replicate nl 0)
unfolding report report_with run_answer eval.ended
refused_line_lem ni na nl l e s m p words number place r numbered placed plain state written h =
    rw h
    (answer_same numbered placed refl refl (sym state) (sym written) (nothing_padded na) (no_entries_listed nl e.missing plain))

-- ---- a line that was split
line_stops : (ts : List Tree) (l : Line) (e : Refusal) → l.refusal ≡ some e → run_line ts l ≡ eval.ended (refused e) l.state
unfolding run_line
line_stops ts l e h = rw h

module _ (form codes sheet i a k m : List ℕ) (x : Split) (d : AfterSplit form codes sheet i a k m x) (m₁ : List ℕ) (p : Numbers)
    (q : raw_of m₁ p ≡ begun x.count x.marker) where
  c : CheckedInput form sheet i a k
  c = d.input

  w : SplitEnds (letters_of (read_form form)) sheet (length i) i x
  w = d.ends

  splits : split c.ready.result.form sheet ≡ ok w.line
  unfolding split
  splits = ap (λ (f : Form). split f sheet) (accepted_form form c.ready.result c.ready.accepts) ∙ w.same

  runs : run form sheet (length i) (length a) (length k)
      ≡ report (length i) (length a) (length k) w.line (run_line c.ready.result.fields w.line)
  runs =
      run_is form sheet (length i) (length a) (length k) c.ready.result w.line c.ready.accepts c.ready.checked
      c.ready.room c.space c.entries splits

  -- 8 or 9
  pub splitting_refused : (x.number ≡ 0 → ⊥) → (r : Reached) → r ≡ refused_with x.number x.place 0 0 p
      → run_answer (run form sheet (length i) (length a) (length k)) ≡ ended (answer_of r m₁) i a k
  splitting_refused y r h =
      let e = line_refused (letters_of (read_form form)) sheet (length i) i x w y in
      let state = state_is (letters_of (read_form form)) sheet (length i) i x w m₁ p q in
      let stops = line_stops c.ready.result.fields w.line e.refusal e.there in
      ap run_answer (runs ∙ ap (report (length i) (length a) (length k) w.line) stops)
      ∙ refused_line_lem (length i) (length a) (length k) w.line e.refusal w.line.state m₁ p i x.number x.place r
      e.number e.place e.plain state w.words h
      ∙ answer_same refl refl refl refl refl refl (sym d.unanswered) (sym d.unlisted)

  module _ (y : x.number ≡ 0) where
    begins : LineBegins sheet i m₁ p w.line
    begins = line_begins (letters_of (read_form form)) sheet (length i) i x w m₁ p q y c.ready.checked c.ready.room

    pub fields_start : ItemsBegin form codes sheet i m₁ p 0 a k
    fields_start = record {
      result = c.ready.result;
      accepts = c.ready.accepts;
      coded = d.coded;
      made = c.ready.checked;
      state = record { items = w.line.items; table = begins.table; same = begins.count; fine = begins.fine; told = field_parsed 0 };
      small = omega arith;
      room = c.space;
      zeros = λ j. ap (λ (l : List ℕ). get_or l j 0) d.unanswered ∙ zero_at (length a) j;
      entries = c.entries;
    }

    module _ (m' a'' k'' : List ℕ) (r : Reached)
        (reaches : (b : Accepted) → check_form form ≡ accepted b → RunsListed (sheet_area sheet) i 0 b.fields m₁ p m' a a'' k k'' r) where
      pub fields_end : run_answer (run form sheet (length i) (length a) (length k)) ≡ ended (answer_of r m') i a'' k''
      unfolding run_line
      fields_end =
          let l = w.line in
          let b = c.ready.result in
          let all : run_line b.fields l ≡ run_all 0 l.items b.fields (state_of m₁ p) = rw (begins.free, run_line, begins.same) in
          ap run_answer (runs ∙ ap (report (length i) (length a) (length k) l) all)
          ∙ fields_answer form b c.ready.accepts (sheet_area sheet) i (length i) (length a) (length k) l m₁ p (begins.table, begins.count)
          begins.long m' a a'' k k'' r (reaches b c.ready.accepts) w.words d.unanswered d.unlisted c.space c.entries

-- the slices were cleared, and the line split by the form's letters
module _ (form sheet i a k : List ℕ) (c : CheckedInput form sheet i a k) (a' : List ℕ) (z : a' ≡ sets a 0 (replicate (length a) 0))
    (k' : List ℕ) (v : k' ≡ sets k 0 (replicate (length k) 0)) where
  pub after_split : (codes : List ℕ) → CodedNames form codes → (i' : List ℕ) → length i' ≡ length i → (x : Split)
      → SplitEnds (letters_of (read_form form)) sheet (length i) i' x → (m : List ℕ) → Unmarked m → AfterSplit form codes sheet i' a' k' m x
  after_split codes h i' l x w m u = record {
    input = record {
      ready = record { result = c.ready.result; accepts = c.ready.accepts; checked = c.ready.checked; room = omega (arith, c.ready.room, l) };
      space = omega (arith, c.space, fill_long a' a 0 (length a) z);
      entries = omega (arith, c.entries, fill_long k' k 0 (length k) v);
    };
    coded = h;
    ends = rw l w;
    unanswered = zeros a a' z;
    unlisted = zeros k k' v;
    unmarked = u;
  }
    where
      zeros : (o o' : List ℕ) → o' ≡ sets o 0 (replicate (length o) 0) → o' ≡ replicate (length o') 0
      zeros o o' e = e ∙ all_zero o (length o) refl ∙ ap (λ (n : ℕ). replicate n 0) (sym (fill_long o' o 0 (length o) e))

  pub cleared_answer : (n : ℕ) → n ≡ length i → (x : Option Ended)
      → run_answer (run form sheet n (length a') (length k')) ≡ x → run_answer (run form sheet (length i) (length a) (length k)) ≡ x
  cleared_answer n l x h = rw (l, fill_long a' a 0 (length a) z, fill_long k' k 0 (length k) v) at h

-- ---- which nodes each item matches
module _ (b codes s words m : List ℕ) (p : Numbers) (first : ℕ) (o l : List ℕ) (g : ItemsBegin b codes s words m p first o l) (n : ℕ) (e : n ≡ p.count) where
  pub items_few : n ≤ 256
  items_few = omega (arith, g.state.fine.small)

  pub items_matchable : Matchable b codes s words n
  items_matchable = record {
    checked = record {
      good = accepted_length b g.result g.accepts;
      names = good_no_fault _ 0 _ (accepted_passed b g.result g.accepts).names;
    };
    coded = g.coded;
    made = g.made;
    items = g.state.items;
    table = g.state.table;
    inside = omega (arith, g.state.same);
  }

  pub items_start : (known : List ℕ) → Known b (sheet_area s) words n known → Starts b known s words m p first o
  items_start known k = record {
    result = g.result;
    accepts = g.accepts;
    made = g.made;
    state = g.state;
    knows = subst (λ (l : ℕ). Known b (sheet_area s) words l known) (e ∙ sym g.state.same) k;
    small = g.small;
    room = g.room;
    zeros = g.zeros;
  }

-- ---- the fields have run: what is missing
module _ (b known s words m : List ℕ) (p : Numbers) (first : ℕ) (o : List ℕ) (g : Starts b known s words m p first o) (m' o' : List ℕ) (r : Reached)
    (ran : (a : Accepted) → check_form b ≡ accepted a → RunsAll (sheet_area s) words first a.fields m p m' o o' r) where
  pub unlisted_runs :
      (l : List ℕ)
      → (r.number ≡ 20 → ⊥)
      → (a : Accepted)
      → check_form b ≡ accepted a
      → RunsListed (sheet_area s) words first a.fields m p m' o o' l l r
  unfolding list_words concat_map
  unlisted_runs l z a f = record {
    reached = ran a f;
    listed = λ is i. sym (ap (λ (x : List MissingItem). sets l 0 (list_words x)) (none_missing _ _ _ _ _ _ _ _ g a f _ _ _ _ (ran a f) z is i));
  }

  module _ (z : r.number ≡ 20) where
    pub list_good : length_good b ≡ true
    list_good = accepted_length b g.result g.accepts

    pub list_inside : r.field < field_count b
    list_inside = refused_inside _ _ _ _ _ _ _ _ g g.result g.accepts _ _ _ _ (ran g.result g.accepts) z

    pub list_number : 512 + (first + r.field) < 65536
    list_number = refused_number _ _ _ _ _ _ _ _ g g.result g.accepts _ _ _ _ (ran g.result g.accepts) z

    module _ (node : ℕ) (h : get_elem? (read_form b).fields r.field ≡ some node) (mark : ℕ) (em : mark ≡ field_mark (first + r.field)) (l : List ℕ) where
      pub list_begins : 192 ≤ length l → Listing b known s words m' r.numbers mark node l
      list_begins entries = record {
        stands = refused_marked _ _ _ _ _ _ _ _ g g.result g.accepts _ _ _ _ (ran g.result g.accepts) z node h mark em;
        room = entries;
      }

      pub list_runs :
          (l' : List ℕ) (stop : ℕ)
          → ((t : Tree) → tree_at b node ≡ some t → Lists mark (sheet_area s) words t m' r.numbers 0 l l' stop)
          → (a : Accepted)
          → check_form b ≡ accepted a
          → RunsListed (sheet_area s) words first a.fields m p m' o o' l l' r
      list_runs l' stop lists a f =
          let there = refused_field _ _ _ _ _ _ _ _ g a f _ _ _ _ (ran a f) z node h in
          let w = lists there.tree there.node in
          record {
            reached = ran a f;
            listed = λ is i.
                w.put
                ∙ ap (sets l 0) (sym (w.same is (left_items _ _ _ _ _ _ _ _ g a f _ _ _ _ (ran a f) is i)))
                ∙ ap (λ (u : ℕ). sets l 0 (list_words (lacking u is there.tree (state_of m' r.numbers)))) em
                ∙ ap (λ (x : List MissingItem). sets l 0 (list_words x)) (sym (refused_missing _ _ _ _ _ _ _ _ g a f _ _ _ _ (ran a f) z node h is i));
          }

-- ---- the state, put together
pub joined_answer : (x : Option Ended) (r : Reached) (m i a l : List ℕ) (s : Raw) → x ≡ ended (answer_of r m) i a l → s ≡ raw_of m r.numbers
    → x ≡ ended (record { number = r.number; place = r.place; tries = r.tries; words = r.words; state = s }) i a l
joined_answer x r m i a l s e h = e ∙ answer_same refl refl refl refl (sym h) refl refl refl
