-- Laws of commands: splitting by a table's letters, where the command word stands, trying names, and the run from a match on.
use mathlib.Core.Bool.{Bool, true, false, not, ◌&&◌, ◌||◌, false≢true, and-eq-true_iff}
use mathlib.Core.List.{List, [], ◌∷◌, ◌++◌, map, flatten, append_assoc}
use mathlib.Core.Logic.{◌⊎◌, inl, inr, ⊎_elim}
use mathlib.Core.Option.{Option, some, none, some-injective}
use mathlib.Core.Path.{◌≡◌, refl, sym, ap, subst, ◌∙◌}
use Prim.Native.Nat.{ℕ, zero, suc, ◌+◌, ◌-◌, ◌≤◌, ◌<◌}
use native.Mathlib.Nat.{add-zero, zero-add, suc-add}
use native.Mathlib.Omega.{arith}
use lib.Dec.{leb, eqb, ltb}
use lib.ListN.{length, take, drop, set, get_elem?, replicate, length-append, length-replicate, length-map}
use borrow.Author.Tests.{eq-eqb, ne_eqb, eqb-true, eqb-false, le-leb, leb-true}
use Rattle.std.specs.Prelude.{if◌then◌else◌}
use Rattle.wire.specs.Wire.{offset, area_start, area, entry_of}
use Rattle.rules.specs.Base.{all, null, contains, numbers, slice, concat_map, first_fault}
use Rattle.rules.specs.Outcome.{Outcome, ok, refused, fault, ◌>>=◌, at, args_iter635, set_scope561, list_words, is_missing, Refusal, refuse}
use Rattle.rules.specs.Sheet.{sheet_fault, arguments}
use Rattle.rules.specs.Form.{Name, name_bytes, name_good, Form}
use Rattle.rules.specs.Accept.{Checked, Accepted, accepted, refused_at, check_form, Letters, letters_of}
use Rattle.rules.specs.Split.{Item, PosWord, Split, positionals, joined, split_from, items_of}
use Rattle.rules.specs.State.{State, Found, marker_mark, command_mark, construct, present_at, present_from, unused, find_in, find, first, with_current, set_scope}
use Rattle.rules.specs.Take.{Took, took, command_text, is_command, take_command, take_cmd}
use Rattle.rules.specs.Value.{BaseValue, Value, answer_words}
use Rattle.rules.specs.Eval.{Visit, Ran, ended}
use Rattle.rules.specs.Run.{Line, too_many, line_of, split, run_all, Report, refused_input, report_with, report}
use Rattle.rules.specs.Demands.{All, Bytes, Means, has_marker, places_left, Ends}
use Rattle.rules.specs.WellMade.{SheetMade}
use Rattle.rules.specs.Sound.{Good}
use Rattle.rules.specs.Given.{form_in, sheet_in, room_in, list_room_in}
use Rattle.rules.specs.Commands.{entry_count, offsets_good, table_entries, entry_names, entry_area, entry_form_at, Command, read_command, of_type, command_name_good, entry_good, table_in}
use Rattle.rules.specs.Commands.{forms_in}
use Rattle.rules.specs.Commands.{form_good, split_with, tried_names, Candidate, candidates_of, candidates_from, Tried, try_names, narrowed}
use Rattle.rules.specs.Commands.{CommandTable, entry_at_fault, commands_in, table_letters, fields_at, run_chosen, run_table, CommandReport, command_report, run_commands}
use Rattle.rules.specs.CommandsAnswered.{all_names, Ordered, ChosenRun, Compared, Matched, Unmatched, Tries, CommandsDemand3}
use Rattle.rules.specs.CommandsAnswered.{refused_later, CommandsEnd, refused_inputs, refused_form, refused_line, refused_names, ran, Filled, CommandsAnswered}
use Rattle.rules.specs.CallsAnswered.{OneOf}
use Rattle.rules.specs.Answered.{RunNumber}
use Rattle.rules.proofs.ContainsLaws.{contains_append}
use Rattle.rules.proofs.Places.{minus_below, write_below, set_other, replicate_present}
use Rattle.rules.proofs.StepLaws.{Within, Free, Hit, Finds, find_good, removed, remove_free, removed_good, removed_left, set_scope_good, zero_present}
use Rattle.rules.proofs.SplitLaws.{some≢none, ok_injective, argument_grouped, Ended, Splits, splits, split_ok, split_ended, marker_below, LineGood, line_of_lem}
use Rattle.rules.proofs.LetterLaws.{SameLetters, split_same}
use Rattle.rules.proofs.Acceptance.{All-append, All-split, All-at, All-map, all_true, lookup_inside, lookup_more, accepted_sound}
use Rattle.rules.proofs.WellMadeLaws.{check_fault}
use Rattle.rules.proofs.Uses.{leaves_law}
use Rattle.rules.proofs.SheetLaws.{made_sheet, sheet_fault_lem}
use Rattle.rules.proofs.EvalSound.{Any}
use Rattle.rules.proofs.Fields.{RunsAll, all_means, all_sound}
use Rattle.rules.proofs.Meanings.{line_meaning, accepted_mean}
use Rattle.rules.proofs.WordsFix.{words_fix}
use Rattle.rules.proofs.Demand3Holds.{visits_counted, visits_faultless}
use Rattle.rules.proofs.InputFaults.{bind_ok, padded_nil, list_length, no_entries_listed}
use Rattle.rules.proofs.MissingLaws.{missing_told}
use Rattle.rules.proofs.Demand1Holds.{padded_length, few_fields}
use Rattle.rules.proofs.CallsAnswer.{command_parsed, form_checked, if_ok, contains_more, numbers_contain, form_number, sheet_number}
use Rattle.rules.proofs.Formats.{bytes_drop, bytes_take}

-- ---- splitting by letters
-- a form's split is by its own
pub split_with_lem : (f : Form) (s : List ℕ) → split f s ≡ split_with (letters_of f) s
unfolding split split_with
split_with_lem f s = refl

-- two lists of letters with the same members split alike
pub letters_alike : (l m : Letters) → SameLetters l m → (s : List ℕ) → split_with l s ≡ split_with m s
unfolding split_with
letters_alike l m same s = rw (split_same l m same 0 (arguments s))

-- a table's letters are those of its first form and of the others
module _ (a : Accepted) (fs : List Accepted) (c : ℕ) where
  pub table_flags : contains (table_letters (a ∷ fs)).flags c ≡ (contains (letters_of a.form).flags c || contains (table_letters fs).flags c)
  unfolding table_letters concat_map
  table_flags = contains_append (letters_of a.form).flags (table_letters fs).flags c

  pub table_arguments :
      contains (table_letters (a ∷ fs)).arguments c ≡ (contains (letters_of a.form).arguments c || contains (table_letters fs).arguments c)
  unfolding table_letters concat_map
  table_arguments = contains_append (letters_of a.form).arguments (table_letters fs).arguments c

-- ---- where a command word may stand
-- only PosWords, which `take_cmd` does not compare
abbrev Wordless : List Item → Type 0
Wordless is = All (λ (x : Item). command_text x ≡ none) is

positionals_wordless : (rest : List (List ℕ)) → Wordless (flatten (positionals rest))
unfolding positionals flatten command_text
positionals_wordless [] = tt
positionals_wordless (os ∷ rest) = (refl, positionals_wordless rest)

-- the first `--` is not before the place that splitting begins at
ended_from : (k n : ℕ) (has : Bool) (m a : Option ℕ) (i : ℕ) → Ended k n has m a → m ≡ some i → k ≤ i
ended_from k n has none a i h z = absurd (some≢none (sym z))
ended_from k n has (some j) none i h z = let same = some-injective j i z in omega arith
ended_from k n has (some j) (some b) i h z = absurd h

joined_wordless :
    (k : ℕ) (os : List ℕ) (rest : List (List ℕ)) (is : List Item) (a : Option ℕ) (m : Bool) (others : Outcome Split) (x : Split)
    → (m ≡ true → is ≡ PosWord os ∷ [])
    → Splits (k + length is) rest others
    → ((y : Split) → others ≡ ok y → y.marker ≡ some (k + length is) → Wordless (items_of y))
    → joined k (record { items = is; ambiguous = a; marker = m }) rest others ≡ ok x
    → x.marker ≡ some k
    → Wordless (items_of x)
unfolding joined items_of flatten ◌>>=◌ command_text
joined_wordless k os rest is (some i) m others x one r later e z =
    absurd (some≢none (sym (rw (← ok_injective e) at z)))
joined_wordless k os rest is none true others x one r later e z =
    rw (← ok_injective e, one refl) (refl, positionals_wordless rest)
joined_wordless k os rest [] none false others x one r later e z =
    let same = ok_injective (rw r.same at e) in
    let marker : r.split.marker ≡ some k = rw (← same) at z in
    rw (← same) (later r.split r.same (rw (add-zero k) marker))
joined_wordless k os rest (y ∷ is) none false others x one r later e z =
    let same = ok_injective (rw r.same at e) in
    let marker : r.split.marker ≡ some k = rw (← same) at z in
    absurd (omega (arith, ended_from _ _ _ r.split.marker r.split.ambiguous k r.ended marker))

-- where `--` is the first item, all are PosWords
marker_wordless : (l : Letters) (k : ℕ) (args : List (List ℕ)) (x : Split) → split_from l k args ≡ ok x → x.marker ≡ some k → Wordless (items_of x)
unfolding split_from ◌>>=◌
marker_wordless l k [] x e z = absurd (some≢none (sym (rw (← ok_injective e) at z)))
marker_wordless l k (os ∷ rest) x e z =
    let g = argument_grouped l os in
    let is = g.group.items in
    joined_wordless k os rest is g.group.ambiguous g.group.marker (split_from l (k + length is) rest) x
    (λ e. (g.one (sym g.marker ∙ e)).0) (splits l (k + length is) rest)
    (λ y f w. marker_wordless l (k + length is) rest y f w) (rw g.same at e) z

-- place 0 is present, or there is no command word
abbrev pub Front : List Item → List ℕ → Type 0
Front is marks = (present_at marks 0 ≡ true) ⊎ Wordless is

fresh_front : (is : List Item) → Front is (replicate (length is) 0)
fresh_front [] = inr tt
fresh_front (x ∷ is) = inl (replicate_present (suc (length is)) 0 0 zero_present (omega arith))

marked_front : (is : List Item) (i k : ℕ) → (i ≡ 0 → Wordless is) → Front is (set (replicate (length is) 0) i k)
marked_front is zero k h = inr (h refl)
marked_front [] (suc i) k h = inr tt
marked_front (x ∷ is) (suc i) k h =
    inl (set_other (replicate (suc (length is)) 0) (suc i) k 0 (λ e. omega arith)
    ∙ replicate_present (suc (length is)) 0 0 zero_present (omega arith))

-- the state that a line begins in
pub record Begins (is : List Item) (s : State) : Type 0 where
  pub current : s.current ≡ none
  pub start : s.start ≡ 0
  pub end : s.end ≡ length is
  pub front : Front is s.marks

construct_begins :
    (k : ℕ) (is : List Item) (m : Option ℕ) (s : State)
    → Within (length is) m
    → (m ≡ some 0 → Wordless is)
    → construct k (length is) m ≡ ok s
    → Begins is s
unfolding construct at ◌>>=◌
construct_begins k is none s h w e = rw (← ok_injective e) (record { current = refl; start = refl; end = refl; front = fresh_front is })
construct_begins k is (some i) s h w e =
    let zeros : List ℕ = replicate (length is) 0 in
    let inside : i < length zeros = rw (length-replicate {A = ℕ} (length is) 0) h in
    let made = rw (write_below zeros i k inside, minus_below (length is) 1 (omega arith)) at e in
    rw (← ok_injective made) (record { current = refl; start = refl; end = refl; front = marked_front is i k (λ z. w (ap some z)) })

line_begins :
    (l : Letters) (args : List (List ℕ)) (x : Split) (y : Line)
    → split_from l 0 args ≡ ok x
    → line_of args x ≡ ok y
    → y.refusal ≡ none
    → Begins y.items y.state
unfolding line_of too_many
line_begins l args x y e g z = go (ltb 256 (length (items_of x))) refl
  where
    go : (t : Bool) → ltb 256 (length (items_of x)) ≡ t → Begins y.items y.state
    go true h = absurd (some≢none (ap (λ (l : Line). l.refusal) (ok_injective (rw h at g)) ∙ z))
    go false h =
        let (s, made, same) = bind_ok (construct marker_mark (length (items_of x)) x.marker) _ y (rw h at g) in
        let below = marker_below (length (items_of x)) (has_marker args) x.marker x.ambiguous (split_ended l 0 args x e) in
        rw (← ok_injective same) (construct_begins marker_mark (items_of x) x.marker s below (marker_wordless l 0 args x e) made)

-- a sheet, split by letters
pub record SplitsWith (l : Letters) (s : List ℕ) : Type 0 where
  pub line : Line
  pub splits : split_with l s ≡ ok line
  pub good : (line ≡ too_many) ⊎ LineGood (arguments s) line
  pub begins : line.refusal ≡ none → Begins line.items line.state

pub splits_with : (l : Letters) (s : List ℕ) → SplitsWith l s
unfolding split_with ◌>>=◌
splits_with l s =
    let (x, e) = split_ok l 0 (arguments s) in
    let (y, g, good) = line_of_lem l (arguments s) x e in
    record { line = y; splits = rw (e, g); good = good; begins = line_begins l (arguments s) x y e g }

-- ---- `take_cmd`
-- the first present item has the text, and is used; or the state stays, with `current` cleared
pub data Compares (is : List Item) (w : List ℕ) (s : State) : Took Bool → Type 0 where
  takes :
      (x : Found)
      → first is s ≡ ok (some x)
      → is_command w (some x) ≡ true
      → Free s x.place
      → Compares is w s (record { answer = true; state = removed command_mark s x.place })
  passes :
      (x : Option Found)
      → first is s ≡ ok x
      → is_command w x ≡ false
      → Compares is w s (record { answer = false; state = with_current none s })

pub compares : (is : List Item) (w : List ℕ) (s : State) → Good (length is) s → (t : Took Bool) × (take_cmd command_mark is w s ≡ ok t) × Compares is w s t
unfolding take_cmd first take_command took with_current is_command ◌>>=◌
compares is w s g = let f = find_good is (λ _. true) s g in go f.0 f.1 f.2
  where
    found : (x : Found) → find is (λ _. true) s ≡ ok (some x) → Free s x.place → (b : Bool) → is_command w (some x) ≡ b
        → (t : Took Bool) × (take_cmd command_mark is w s ≡ ok t) × Compares is w s t
    found x e f true c =
        let r = remove_free command_mark command_parsed (length is) s x.place g f in
        (record { answer = true; state = removed command_mark s x.place }, rw (e, c, r), takes x e c f)
    found x e f false c = (record { answer = false; state = with_current none s }, rw (e, c), passes (some x) e c)

    go : (x : Option Found) → find is (λ _. true) s ≡ ok x → Finds is (λ _. true) s x
        → (t : Took Bool) × (take_cmd command_mark is w s ≡ ok t) × Compares is w s t
    go none e h = (record { answer = false; state = with_current none s }, rw e, passes none e refl)
    go (some x) e h = found x e h.free (is_command w (some x)) refl

-- ---- the place of a command word
first_zero : (is : List Item) (marks : List ℕ) (n : ℕ) (x : Found) → present_at marks 0 ≡ true
    → find_in is (λ _. true) (present_from marks n 0) ≡ ok (some x) → x.place ≡ 0
unfolding present_from find_in at ◌>>=◌
first_zero is marks zero x p e = absurd (some≢none (sym (ok_injective e)))
first_zero is marks (suc n) x p e = go (get_elem? is 0) (rw p at e)
  where
    go : (o : Option Item) → (at args_iter635 o >>= λ y. ok (some (record { place = 0; item = y }))) ≡ ok (some x) → x.place ≡ 0
    go none h = absurd (let z : ◌≡◌ {A = ℕ} 0 1 = cc in omega arith)
    go (some y) h = ap (λ (f : Found). f.place) (sym (some-injective _ _ (ok_injective h)))

wordless_no : (w : List ℕ) (x : Found) → command_text x.item ≡ none → is_command w (some x) ≡ true → ⊥
unfolding is_command
wordless_no w x e c = false≢true (rw (e, is_command) at c)

-- it is always 0
pub word_first : (is : List Item) (s : State) → Good (length is) s → Begins is s → (w : List ℕ) (x : Found)
    → first is s ≡ ok (some x) → is_command w (some x) ≡ true → x.place ≡ 0
unfolding first find unused
word_first is s g b w x e c =
    ⊎_elim
    (λ (p : present_at s.marks 0 ≡ true).
    first_zero is s.marks (s.end - 0) x p (subst (λ (k : ℕ). find_in is (λ _. true) (present_from s.marks (s.end - k) k) ≡ ok (some x)) b.start e))
    (λ (no : Wordless is).
    let f = find_good is (λ _. true) s g in
    let here : Hit is (λ _. true) s x = subst (Finds is (λ _. true) s) (ok_injective (sym f.1 ∙ e)) f.2 in
    absurd (wordless_no w x (All-at (λ (y : Item). command_text y ≡ none) is x.place x.item no here.item) c))
    b.front

-- ---- trying names
cleared : (s : State) → s.current ≡ none → with_current none s ≡ s
unfolding with_current
cleared s e = ap (λ (c : Option ℕ). record { marks = s.marks; remaining = s.remaining; current = c; start = s.start; end = s.end }) (sym e)

-- how it ends, after n comparisons: one of the names is taken, at place 0; or none is, and the state stays
pub data TriedNames (is : List Item) (n : ℕ) (cs : List Candidate) (s : State) : Tried → Type 0 where
  taken :
      (j m : ℕ) (c : Candidate)
      → get_elem? cs j ≡ some c
      → m ≡ suc (n + j)
      → Free s 0
      → Compared is s true c
      → All (Compared is s false) (take j cs)
      → TriedNames is n cs s (record { entry = some c.entry; comparisons = m; state = removed command_mark s 0 })
  untaken :
      (m : ℕ)
      → m ≡ n + length cs
      → All (Compared is s false) cs
      → TriedNames is n cs s (record { entry = none; comparisons = m; state = s })

tried_later :
    (is : List Item) (n : ℕ) (c : Candidate) (cs : List Candidate) (s : State) (x : Tried)
    → Compared is s false c
    → TriedNames is (suc n) cs s x
    → TriedNames is n (c ∷ cs) s x
tried_later is n c cs s x p (taken j m d h e f q r) = taken (suc j) m d h (omega arith) f q (p, r)
tried_later is n c cs s x p (untaken m e r) = untaken m (omega arith) (p, r)

module _ (is : List Item) (s : State) (g : Good (length is) s) (b : Begins is s) where
  pub tries_names : (n : ℕ) (cs : List Candidate) → (x : Tried) × (try_names is n cs s ≡ ok x) × TriedNames is n cs s x
  unfolding try_names ◌>>=◌
  tries_names n [] = (record { entry = none; comparisons = n; state = s }, refl, untaken n (omega arith) tt)
  tries_names n (c ∷ cs) = let t = compares is c.word s g in go t.0 t.1 t.2 (tries_names (suc n) cs)
    where
      go :
          (t : Took Bool)
          → take_cmd command_mark is c.word s ≡ ok t
          → Compares is c.word s t
          → (x : Tried) × (try_names is (suc n) cs s ≡ ok x) × TriedNames is (suc n) cs s x
          → (x : Tried) × (try_names is n (c ∷ cs) s ≡ ok x) × TriedNames is n (c ∷ cs) s x
      go t e (takes x h w f) rest =
          let front : x.place ≡ 0 = word_first is s g b c.word x h w in
          let same : Free s 0 = rw front at f in (
            record { entry = some c.entry; comparisons = suc n; state = removed command_mark s 0 },
            rw (e, front),
            taken 0 (suc n) c refl (omega arith) same (some x, h, w) tt,
          )
      go t e (passes x h w) rest = (rest.0, rw (e, cleared s b.current, rest.1), tried_later is n c cs s rest.0 (x, h, w) rest.2)

  -- on a match the scope is all places again, and one place fewer remains than before
  pub narrows :
      Free s 0
      → (u : State)
      × (narrowed (removed command_mark s 0) ≡ ok u)
      × Good (length is) u
      × ((u.start ≡ 0) × (u.end ≡ length is))
      × (length (unused u) + 1 ≡ s.remaining)
  unfolding narrowed set_scope unused ◌>>=◌
  narrows f =
      let r : State = removed command_mark s 0 in
      let good = removed_good command_mark command_parsed (length is) s 0 g f in
      let (u, e, h, start, end) = set_scope_good (length is) r 0 s.end good (omega arith) g.inside in
      let (part, h₁, same) = bind_ok (at set_scope561 (slice 0 s.end r.marks)) _ u e in
      let marks : r.marks ≡ u.marks = ap (λ (x : State). x.marks) (ok_injective same) in
      let left : unused u ≡ unused r = rw (← marks, start, end, b.start) in
      let count = removed_left command_mark command_parsed (length is) s 0 g f in
      (u, e, h, (start, end ∙ b.end), omega (arith, ap length left, good.counted))

  -- which is the state as it was
  pub narrowed_stays : Free s 0 → narrowed (removed command_mark s 0) ≡ ok (removed command_mark s 0)
  unfolding narrowed set_scope unused ◌>>=◌
  narrowed_stays f =
      let r : State = removed command_mark s 0 in
      let (u, e, good, scope, left) = narrows f in
      let before = removed_good command_mark command_parsed (length is) s 0 g f in
      let (part, h, same) = bind_ok (at set_scope561 (slice 0 s.end r.marks)) _ u e in
      let fields = ok_injective same in
      let marks : u.marks ≡ r.marks = sym (ap (λ (x : State). x.marks) fields) in
      let end : u.end ≡ r.end = sym (ap (λ (x : State). x.end) fields) in
      let start : u.start ≡ r.start = scope.0 ∙ sym b.start in
      let current : u.current ≡ r.current = sym (ap (λ (x : State). x.current) fields) in
      let places : unused u ≡ unused r = rw (marks, start, end) in
      let remaining : u.remaining ≡ r.remaining = good.counted ∙ ap length places ∙ sym before.counted in
      e ∙ ap ok (λ i. record { marks = marks i; remaining = remaining i; current = current i; start = start i; end = end i })

-- ---- the forms of a table
abbrev pub FormAt : List Command → List Accepted → ℕ → Type 0
FormAt cs fs k =
    (c : Command) × (a : Accepted) × (get_elem? cs k ≡ some c) × (get_elem? fs k ≡ some a) × (check_form c.form ≡ accepted a)

form_at : (c : Command) (cs : List Command) (a : Accepted) (fs : List Accepted) → check_form c.form ≡ accepted a
    → ((k : ℕ) → k < length cs → FormAt cs fs k) → (k : ℕ) → k < suc (length cs) → FormAt (c ∷ cs) (a ∷ fs) k
form_at c cs a fs x rest zero h = (c, a, refl, refl, x)
form_at c cs a fs x rest (suc k) h = rest k (omega arith)

pub forms_step : (c : Command) (cs : List Command) (fs : List Accepted) → forms_in (c ∷ cs) ≡ ok fs
    → (a : Accepted) × (rest : List Accepted) × (check_form c.form ≡ accepted a) × (forms_in cs ≡ ok rest) × (a ∷ rest ≡ fs)
unfolding forms_in
forms_step c cs fs e =
    let (a, x, y) = bind_ok (form_in c.form) _ fs e in
    let (rest, z, same) = bind_ok (forms_in cs) _ fs y in
    (a, rest, form_checked c.form a x, z, ok_injective same)

-- none is at fault
all_formed : (cs : List Command) (fs : List Accepted) → forms_in cs ≡ ok fs → (j : ℕ) → first_fault form_good j cs ≡ none
unfolding first_fault form_good
all_formed [] fs e j = refl
all_formed (c ∷ cs) fs e j =
    let (a, rest, accepts, formed, same) = forms_step c cs fs e in
    rw (accepts, form_good, all_formed cs rest formed (suc j))

pub no_entry_lem : (t : List ℕ) (cs : List Command) (fs : List Accepted) → table_in t ≡ ok cs → forms_in cs ≡ ok fs → entry_at_fault t ≡ none
unfolding entry_at_fault
no_entry_lem t cs fs e f = rw (e, entry_at_fault, all_formed cs fs f 0)

pub forms_at : (cs : List Command) (fs : List Accepted) → forms_in cs ≡ ok fs → (k : ℕ) → k < length cs → FormAt cs fs k
forms_at [] fs e k h = absurd (omega arith)
forms_at (c ∷ cs) fs e k h = go (forms_step c cs fs e) (λ rest z. forms_at cs rest z)
  where
    go :
        (a : Accepted) × (rest : List Accepted) × (check_form c.form ≡ accepted a) × (forms_in cs ≡ ok rest) × (a ∷ rest ≡ fs)
        → ((rest : List Accepted) → forms_in cs ≡ ok rest → (k : ℕ) → k < length cs → FormAt cs rest k)
        → FormAt (c ∷ cs) fs k
    go (a, rest, x, z, same) later = subst (λ (l : List Accepted). FormAt (c ∷ cs) l k) same (form_at c cs a rest x (later rest z) k h)

-- ---- the names of a table
all_map : {A B : Type 0} (f : A → B) (P : B → Type 0) (l : List A) → All (λ (a : A). P (f a)) l → All P (map f l)
all_map f P [] h = tt
all_map f P (a ∷ l) h = (h.0, all_map f P l h.1)

all_every : {A : Type 0} (P : A → Type 0) (l : List A) → ((a : A) → P a) → All P l
all_every P [] h = tt
all_every P (a ∷ l) h = (h a, all_every P l h)

-- long and short names alone
abbrev pub Typed : Command → Type 0
Typed c = All (λ (x : Name). x.type ≤ 1) c.names

abbrev candidate : ℕ → List ℕ → Candidate
candidate k w = record { word = w; entry = k }

abbrev named : List ℕ → ℕ → List Name → List (List ℕ)
named area t l = concat_map (λ x. if eqb x.type t then name_bytes area x ∷ [] else []) l

types_all : (area : List ℕ) (l : List Name) → All (λ (x : Name). x.type ≤ 1) l → length (named area 1 l) + length (named area 0 l) ≡ length l
unfolding concat_map
types_all area [] h = refl
types_all area (x ∷ l) h = let rest = types_all area l h.1 in go (eqb x.type 1) refl rest
  where
    go :
        (t : Bool)
        → eqb x.type 1 ≡ t
        → length (named area 1 l) + length (named area 0 l) ≡ length l
        → length (named area 1 (x ∷ l)) + length (named area 0 (x ∷ l)) ≡ suc (length l)
    go true e rest = let z : eqb x.type 0 ≡ false = rw (eqb-true x.type 1 e) in rw (e, z) (omega arith)
    go false e rest =
        let n = eqb-false x.type 1 e in
        let z = eq-eqb x.type 0 (omega (arith, h.0)) in
        rw (e, z) (omega arith)

-- as many names are tried as there are
entry_names_lem : (k : ℕ) (c : Command) → Typed c → length (candidates_of k c) ≡ length c.names
unfolding candidates_of tried_names of_type
entry_names_lem k c h = simp (length-map, length-append) (omega (arith, types_all c.area c.names h))

pub names_all : (k : ℕ) (cs : List Command) → All Typed cs → length (candidates_from k cs) ≡ all_names cs
unfolding candidates_from all_names
names_all k [] h = refl
names_all k (c ∷ cs) h =
    omega (arith, length-append (candidates_of k c) (candidates_from (suc k) cs), entry_names_lem k c h.0, names_all (suc k) cs h.1)

-- each has the number of an entry
entry_number : (k : ℕ) (c : Command) → All (λ (x : Candidate). x.entry ≡ k) (candidates_of k c)
unfolding candidates_of
entry_number k c = numbered (tried_names c)
  where
    numbered : (l : List (List ℕ)) → All (λ (x : Candidate). x.entry ≡ k) (map (candidate k) l)
    numbered [] = tt
    numbered (w ∷ l) = (refl, numbered l)

pub entries_below : (k : ℕ) (cs : List Command) → All (λ (x : Candidate). x.entry < k + length cs) (candidates_from k cs)
unfolding candidates_from
entries_below k [] = tt
entries_below k (c ∷ cs) =
    All-append (λ (x : Candidate). x.entry < k + suc (length cs)) (candidates_of k c) (candidates_from (suc k) cs)
    (All-map _ _ (λ x h. omega arith) (candidates_of k c) (entry_number k c))
    (All-map _ _ (λ x h. omega arith) (candidates_from (suc k) cs) (entries_below (suc k) cs))

-- ---- the order of trying
candidates_append : (k : ℕ) (cs ds : List Command) → candidates_from k (cs ++ ds) ≡ candidates_from k cs ++ candidates_from (k + length cs) ds
unfolding candidates_from
candidates_append k [] ds = rw (add-zero k)
candidates_append k (c ∷ cs) ds =
    let e : suc k + length cs ≡ k + suc (length cs) = omega arith in
    rw (candidates_append (suc k) cs ds, e) (sym (append_assoc (candidates_of k c) (candidates_from (suc k) cs) _))

pub lookup_behind : {A : Type 0} (l m : List A) (i : ℕ) → get_elem? (l ++ m) (length l + i) ≡ get_elem? m i
lookup_behind [] m i = rw (zero-add i)
lookup_behind (a ∷ l) m i = rw (suc-add (length l) i) (lookup_behind l m i)

pub lookup_map : {A B : Type 0} (f : A → B) (l : List A) (i : ℕ) (a : A) → get_elem? l i ≡ some a → get_elem? (map f l) i ≡ some (f a)
lookup_map f [] i a e = absurd (some≢none (sym e))
lookup_map f (x ∷ l) zero a e = ap (λ y. some (f y)) (some-injective x a e)
lookup_map f (x ∷ l) (suc i) a e = lookup_map f l i a e

module _ (before after : List Command) (c : Command) (typed : All Typed before) where
  -- name i of the entry behind these
  name_at :
      (i : ℕ) (w : List ℕ)
      → get_elem? (tried_names c) i ≡ some w
      → get_elem? (candidates_from 0 (before ++ (c ∷ after))) (all_names before + i) ≡ some (candidate (length before) w)
  unfolding candidates_from candidates_of
  name_at i w e =
      let k : ℕ = length before in
      let here = lookup_map (candidate k) (tried_names c) i w e in
      rw (
        candidates_append 0 before (c ∷ after),
        ← names_all 0 before typed,
        zero-add k,
        lookup_behind (candidates_from 0 before) (candidates_of k c ++ candidates_from (suc k) after) i,
      )
      (lookup_more (candidates_of k c) (candidates_from (suc k) after) i (candidate k w) here)

  pub typed_ordered : Ordered before c (candidates_from 0 (before ++ (c ∷ after)))
  unfolding tried_names
  typed_ordered = record {
    long = λ j w e. name_at j w (lookup_more (of_type 1 c) (of_type 0 c) j w e);
    short = λ j w e. name_at (length (of_type 1 c) + j) w (lookup_behind (of_type 1 c) (of_type 0 c) j ∙ e);
  }

-- ---- a table that 11 lets through
name_typed : (area : List ℕ) (x : Name) → command_name_good area x ≡ true → x.type ≤ 1
unfolding command_name_good
name_typed area x e = leb-true x.type 1 ((and-eq-true_iff (name_good area x) (leb x.type 1)).0 e).1

third : (a b c d : Bool) → a && b && c && d ≡ true → c ≡ true
third true true c d e = ((and-eq-true_iff c d).0 e).0
third true false c d e = absurd (false≢true e)
third false b c d e = absurd (false≢true e)

good_typed : (e : List ℕ) → entry_good e ≡ true → Typed (read_command e)
unfolding entry_good
good_typed e h =
    let counts : Bool = leb (entry_names e) 128 && leb (entry_area e) 4096 in
    let fits : Bool = leb (entry_form_at e) (length e) in
    let good : Bool = all (command_name_good (read_command e).area) (read_command e).names in
    let names = third counts fits good (not (null (of_type 1 (read_command e)))) h in
    All-map _ _ (name_typed (read_command e).area) (read_command e).names (all_true (command_name_good (read_command e).area) (read_command e).names names)

module _ (t : List ℕ) (cs : List Command) (e : table_in t ≡ ok cs) where
  pub table_entries_lem : (all entry_good (table_entries t) ≡ true) × (map read_command (table_entries t) ≡ cs)
  unfolding table_in
  table_entries_lem =
      let (good, same) = if_ok (offsets_good t && all entry_good (table_entries t)) (map read_command (table_entries t)) cs (refuse 11 none) e in
      (((and-eq-true_iff (offsets_good t) (all entry_good (table_entries t))).0 good).1, same)

  pub table_typed : All Typed cs
  table_typed =
      let (good, same) = table_entries_lem in
      rw (← same) (all_map read_command Typed (table_entries t) (All-map _ _ good_typed (table_entries t) (all_true entry_good (table_entries t) good)))

  pub table_bytes : Bytes t → All (λ (c : Command). Bytes c.form) cs
  unfolding table_entries entry_of area read_command
  table_bytes small =
      rw (← table_entries_lem.1)
      (all_map read_command _ (table_entries t) (all_map (entry_of 4 n t) _ (numbers n 0) (all_every _ (numbers n 0) each)))
    where
      n : ℕ
      n = entry_count t

      each : (k : ℕ) → Bytes (drop (entry_form_at (entry_of 4 n t k)) (entry_of 4 n t k))
      each k =
          let behind = bytes_drop _ (bytes_drop t small (area_start 4 n)) (offset 4 t k) in
          bytes_drop (entry_of 4 n t k) (bytes_take (offset 4 t (k + 1) - offset 4 t k) _ behind) (entry_form_at (entry_of 4 n t k))

pub names_ordered :
    (t : List ℕ) (before after : List Command) (c : Command)
    → table_in t ≡ ok (before ++ (c ∷ after))
    → Ordered before c (candidates_from 0 (before ++ (c ∷ after)))
names_ordered t before after c e = typed_ordered before after c (All-split Typed before (c ∷ after) (table_typed t _ e)).0

-- ---- from a match on
-- the tests before a run are passed
pub commands_go :
    (table s : List ℕ) (cs : List Command) (fs : List Accepted)
    → table_in table ≡ ok cs
    → forms_in cs ≡ ok fs
    → sheet_fault s ≡ 0
    → (ni na nl : ℕ)
    → 1792 ≤ ni
    → 8240 ≤ na
    → 192 ≤ nl
    → commands_in table s ni na nl ≡ ok (record { commands = cs; forms = fs })
unfolding commands_in sheet_in room_in list_room_in ◌>>=◌
commands_go table s cs fs t f sheet ni na nl i o k =
    rw (t, f, eq-eqb (sheet_fault s) 0 sheet, le-leb 1792 ni i, le-leb 8240 na o, le-leb 192 nl k)

module _ (table s : List ℕ) (cs : List Command) (fs : List Accepted) (l : Line) (splits : split_with (table_letters fs) s ≡ ok l) (unrefused : l.refusal ≡ none) where
  -- what is reported is the run of the chosen form
  chosen_goes :
      (ni na nl : ℕ)
      → commands_in table s ni na nl ≡ ok (record { commands = cs; forms = fs })
      → (x : Tried)
      → try_names l.items 0 (candidates_from 0 cs) l.state ≡ ok x
      → (k : ℕ)
      → x.entry ≡ some k
      → (a : Accepted)
      → get_elem? fs k ≡ some a
      → (u : State)
      → narrowed x.state ≡ ok u
      → run_commands table s ni na nl
      ≡ command_report ni na nl l (record { comparisons = x.comparisons; entry = some k; ran = run_all 0 l.items a.fields u })
  unfolding run_commands run_table run_chosen fields_at ◌>>=◌
  chosen_goes ni na nl passed x tries k chosen a has u narrows =
      rw (passed, run_commands, splits, unrefused, run_table, tries, chosen, run_chosen, narrows, has, fields_at)

module _ (table s : List ℕ) (cs : List Command) (fs : List Accepted) (tabled : table_in table ≡ ok cs) (formed : forms_in cs ≡ ok fs) (sheet : sheet_fault s ≡ 0) where
  module _ (l : Line) (splits : split_with (table_letters fs) s ≡ ok l) (unrefused : l.refusal ≡ none) where
    module _ (x : Tried) (tries : try_names l.items 0 (candidates_from 0 cs) l.state ≡ ok x) (k : ℕ) (chosen : x.entry ≡ some k) where
      module _ (a : Accepted) (has : get_elem? fs k ≡ some a) (u : State) (narrows : narrowed x.state ≡ ok u) where
        chosen_run :
            (b : List ℕ)
            → Bytes b
            → check_form b ≡ accepted a
            → length l.items ≤ 256
            → Good (length l.items) u
            → length (unused u) + 1 ≡ places_left (arguments s) (length l.items)
            → ChosenRun (Means l.items a.form.names) table s l x k a u
        chosen_run b small accepts few good left =
            let is : List Item = l.items in
            let M : BaseValue → Type 0 = Means is a.form.names in
            let means = line_meaning is a.form.names few in
            let r = all_means 0 is M means a.fields (accepted_sound b a accepts) (accepted_mean is b a small accepts) u good in
            let trace : List Visit = (run_all 0 is a.fields u).trace in
            record {
              faultless = visits_faultless M (length is) trace r.passed;
              ends = r.ends;
              counted = visits_counted M (length is) trace r.passed;
              remaining = good.counted;
              word = left;
              tries = rw (← good.counted, ← leaves_law b a accepts) r.cost;
              reported = λ ni na nl i o j.
                  chosen_goes table s cs fs l splits unrefused ni na nl (commands_go table s cs fs tabled formed sheet ni na nl i o j)
                  x tries k chosen a has u narrows;
              values = words_fix is a.form.names few a.fields;
            }

    module _ (small : Bytes table) (g : LineGood (arguments s) l) (b : Begins l.items l.state) where
      matched_line :
          (x : Tried)
          → try_names l.items 0 (candidates_from 0 cs) l.state ≡ ok x
          → TriedNames l.items 0 (candidates_from 0 cs) l.state x
          → (k : ℕ)
          → x.entry ≡ some k
          → Matched table s (record { commands = cs; forms = fs }) l x k
      matched_line x e (untaken m q r) k z = absurd (some≢none (sym z))
      matched_line x e (taken j m c h q f p r) k z =
          let same : c.entry ≡ k = some-injective c.entry k z in
          let below : c.entry < 0 + length cs = All-at _ (candidates_from 0 cs) j c (entries_below 0 cs) h in
          let (u, to, good, scope, left) = narrows l.items l.state g.good b f in
          let (d, a, at, has, accepts) = forms_at cs fs formed k (omega arith) in
          let bytes = All-at (λ (c : Command). Bytes c.form) cs k d (table_bytes table cs tabled small) at in
          record {
            form = a;
            has = has;
            before = j;
            name = c;
            comparisons = q ∙ ap suc (zero-add j);
            here = h;
            entry = same;
            equal = p;
            others = r;
            place = refl;
            state = u;
            narrows = to;
            scope = scope;
            whole = chosen_run x e k z a has u to d.form bytes accepts g.few good (left ∙ g.remaining unrefused);
          }

      unmatched_line :
          (x : Tried)
          → TriedNames l.items 0 (candidates_from 0 cs) l.state x
          → x.entry ≡ none
          → Unmatched (record { commands = cs; forms = fs }) l x
      unmatched_line x (taken j m c h q f p r) z = absurd (some≢none z)
      unmatched_line x (untaken m q r) z = record {
        state = sym (cleared l.state b.current);
        comparisons = q ∙ zero-add _ ∙ names_all 0 cs (table_typed table cs tabled);
        others = r;
      }

      tries_line : Tries table s (record { commands = cs; forms = fs }) l
      tries_line =
          let (x, e, n) = tries_names l.items l.state g.good b 0 (candidates_from 0 cs) in
          record { tried = x; tries = e; matched = matched_line x e n; unmatched = unmatched_line x n }

-- a line that is not refused
unrefused_good : (s : List ℕ) (l : Line) → (l ≡ too_many) ⊎ LineGood (arguments s) l → l.refusal ≡ none → LineGood (arguments s) l
unfolding too_many
unrefused_good s l h z = ⊎_elim (λ (t : l ≡ too_many). absurd (some≢none (sym (ap (λ (y : Line). y.refusal) t) ∙ z))) (λ g. g) h

-- F is the form that the line chooses, of any table of bytes whose forms are all accepted, and S any sheet
pub commands_demand3 :
    (table s : List ℕ) (t : CommandTable)
    → Bytes table
    → SheetMade s
    → table_in table ≡ ok t.commands
    → forms_in t.commands ≡ ok t.forms
    → CommandsDemand3 table s t
commands_demand3 table s t small made tabled formed =
    let w = splits_with (table_letters t.forms) s in
    record {
      line = w.line;
      splits = w.splits;
      tries = λ z.
          tries_line table s t.commands t.forms tabled formed (made_sheet s made) w.line w.splits z small
          (unrefused_good s w.line w.good z) (w.begins z);
    }

-- ---- every input is answered
-- 11
pub table_answers : (t : List ℕ) → ((cs : List Command) × (table_in t ≡ ok cs)) ⊎ (table_in t ≡ refused (refuse 11 none))
unfolding table_in
table_answers t = go (offsets_good t && all entry_good (table_entries t)) refl
  where
    go : (b : Bool) → (offsets_good t && all entry_good (table_entries t)) ≡ b → ((cs : List Command) × (table_in t ≡ ok cs)) ⊎ (table_in t ≡ refused (refuse 11 none))
    go true e = inl (map read_command (table_entries t), rw e)
    go false e = inr (rw e)

-- 1 to 4: the first form that is not accepted
record FormRefused (j : ℕ) (cs : List Command) : Type 0 where
  command : Command
  entry : ℕ
  number : ℕ
  place : Option ℕ
  here : get_elem? cs entry ≡ some command
  refuses : check_form command.form ≡ refused_at number place
  before : All (λ (d : Command). form_good d ≡ true) (take entry cs)
  same : forms_in cs ≡ refused (refuse number place)
  told : first_fault form_good j cs ≡ some (j + entry)

forms_answer : (j : ℕ) (cs : List Command) → ((fs : List Accepted) × (forms_in cs ≡ ok fs) × (first_fault form_good j cs ≡ none)) ⊎ FormRefused j cs
unfolding forms_in form_in first_fault form_good ◌>>=◌
forms_answer j [] = inl ([], refl, refl)
forms_answer j (c ∷ cs) = go (check_form c.form) refl (forms_answer (suc j) cs)
  where
    go :
        (o : Checked Accepted)
        → check_form c.form ≡ o
        → ((fs : List Accepted) × (forms_in cs ≡ ok fs) × (first_fault form_good (suc j) cs ≡ none)) ⊎ FormRefused (suc j) cs
        → ((fs : List Accepted) × (forms_in (c ∷ cs) ≡ ok fs) × (first_fault form_good j (c ∷ cs) ≡ none)) ⊎ FormRefused j (c ∷ cs)
    go (refused_at n p) e rest = inr (record {
      command = c;
      entry = 0;
      number = n;
      place = p;
      here = refl;
      refuses = e;
      before = tt;
      same = rw (e, form_in);
      told = rw (e, form_good, add-zero j);
    })
    go (accepted a) e (inl (fs, same, none-at)) = inl (a ∷ fs, rw (e, form_in, same), rw (e, form_good, none-at))
    go (accepted a) e (inr r) = inr (record {
      command = r.command;
      entry = suc r.entry;
      number = r.number;
      place = r.place;
      here = r.here;
      refuses = r.refuses;
      before = (rw (e, form_good), r.before);
      same = rw (e, form_in, r.same);
      told = rw (e, form_good, r.told) (ap some (omega arith));
    })

-- 6 and 5, 7, 14
abbrev Rooms : (ni na nl : ℕ) → Type 0
Rooms ni na nl = (1792 ≤ ni) × (8240 ≤ na) × (192 ≤ nl)

module _ {A : Type 0} (s : List ℕ) (ni na nl : ℕ) (a : A) where
  abbrev Rest : Outcome A
  Rest = sheet_in s >>= λ _. room_in 1792 ni >>= λ _. room_in 8240 na >>= λ _. list_room_in nl >>= λ _. ok a

  rest_answers : ((Rest ≡ ok a) × Rooms ni na nl) ⊎ ((n : ℕ) × OneOf (6 ∷ 5 ∷ 7 ∷ 14 ∷ []) n × (Rest ≡ refused (refuse n none)))
  unfolding sheet_in room_in list_room_in contains all ◌>>=◌
  rest_answers = go (eqb (sheet_fault s) 0) (leb 1792 ni) (leb 8240 na) (leb 192 nl) refl refl refl refl
    where
      sheet_refused : eqb (sheet_fault s) 0 ≡ false → OneOf (6 ∷ 5 ∷ 7 ∷ 14 ∷ []) (sheet_fault s)
      sheet_refused e =
          let more = eqb-false (sheet_fault s) 0 e in
          let n = sheet_number s (sheet_fault s) (sheet_fault_lem s (omega arith)) in
          contains_more (6 ∷ 5 ∷ []) (6 ∷ 5 ∷ 7 ∷ 14 ∷ []) (sheet_fault s) refl n

      go :
          (p q r t : Bool)
          → eqb (sheet_fault s) 0 ≡ p
          → leb 1792 ni ≡ q
          → leb 8240 na ≡ r
          → leb 192 nl ≡ t
          → ((Rest ≡ ok a) × Rooms ni na nl) ⊎ ((n : ℕ) × OneOf (6 ∷ 5 ∷ 7 ∷ 14 ∷ []) n × (Rest ≡ refused (refuse n none)))
      go false q r t e f g h = inr (sheet_fault s, sheet_refused e, rw e)
      go true false r t e f g h = inr (7, refl, rw (e, f))
      go true true false t e f g h = inr (7, refl, rw (e, f, g))
      go true true true false e f g h = inr (14, refl, rw (e, f, g, h))
      go true true true true e f g h = inl (rw (e, f, g, h), (leb-true 1792 ni f, leb-true 8240 na g, leb-true 192 nl h))

-- the slices of each report
input_filled : (ni na nl n : ℕ) (p : Option ℕ) → Filled ni na nl (refused_input ni na nl n p)
unfolding refused_input
input_filled ni na nl n p = record {
  items = padded_length ni [] (omega arith);
  answers = padded_length na [] (omega arith);
  list = padded_length nl [] (omega arith);
  unlisted = λ _. padded_nil nl;
}

later_filled : (ni na nl : ℕ) (l : Line) (s : State) (n : ℕ) (p : Option ℕ) → length l.records ≤ ni → Filled ni na nl (refused_later ni na nl l s n p)
later_filled ni na nl l s n p h = record {
  items = padded_length ni l.records h;
  answers = padded_length na [] (omega arith);
  list = padded_length nl [] (omega arith);
  unlisted = λ _. padded_nil nl;
}

records_fit : (s : List ℕ) (l : Line) (n : ℕ) → (l ≡ too_many) ⊎ LineGood (arguments s) l → 1792 ≤ n → length l.records ≤ n
unfolding too_many
records_fit s l n h i =
    ⊎_elim (λ (t : l ≡ too_many). rw t (omega arith)) (λ (g : LineGood (arguments s) l). omega (arith, g.records, g.few)) h

-- the run of a form's fields is reported under such a number
abbrev Reported : (ni na nl : ℕ) → Line → Ran (List Value) → Type 0
Reported ni na nl l r = (y : Report) × (report ni na nl l r ≡ ok y) × RunNumber y.number × Filled ni na nl y

module _ (ni na nl : ℕ) (rooms : Rooms ni na nl) (l : Line) (fits : length l.records ≤ ni) (few : length l.items ≤ 256) where
  module _ (b : List ℕ) (a : Accepted) (accepts : check_form b ≡ accepted a) (u : State) (good : Good (length l.items) u) where
    run_told : Reported ni na nl l (run_all 0 l.items a.fields u)
    unfolding report report_with is_missing
    run_told = go r.outcome refl runs.ends
      where
        r : Ran (List Value)
        r = run_all 0 l.items a.fields u

        runs : RunsAll Any (length l.items) a.fields u r
        runs = all_sound 0 l.items a.fields (accepted_sound b a accepts) u good

        go : (o : Outcome (List Value)) → r.outcome ≡ o → Ends Any a.fields o → Reported ni na nl l r
        go (ok vs) e x = (
          report_with ni na nl l r 0 none (answer_words vs) [],
          rw (e, report),
          inl refl,
          record {
            items = padded_length ni l.records fits;
            answers = padded_length na (answer_words vs) (omega (arith, runs.words vs e few, few_fields b a accepts, rooms.1));
            list = ap length (no_entries_listed nl [] refl) ∙ length-replicate nl 0;
            unlisted = λ _. no_entries_listed nl [] refl;
          },
        )
        go (refused d) e x = (
          report_with ni na nl l r d.number d.place [] d.missing,
          rw (e, report),
          inr x,
          record {
            items = padded_length ni l.records fits;
            answers = padded_length na [] (omega arith);
            list = padded_length nl (list_words d.missing)
                (omega (arith, list_length d.missing, rooms.2, missing_told.fits b a accepts 0 l.items u d e));
            unlisted = λ h. no_entries_listed nl d.missing ((missing_told.run 0 l.items a.fields u d e).only (ne_eqb d.number 20 h));
          },
        )
        go (fault f) e x = absurd x

module _ (table s : List ℕ) (ni na nl : ℕ) where
  abbrev Answer : Type 0
  Answer = (r : CommandReport) × (run_commands table s ni na nl ≡ ok r) × CommandsEnd table s ni na nl r × Filled ni na nl r.report

  -- refused by a test of the input
  input_answer :
      (n : ℕ) (p k : Option ℕ)
      → commands_in table s ni na nl ≡ refused (refuse n p)
      → entry_at_fault table ≡ k
      → run_commands table s ni na nl ≡ ok (record { report = refused_input ni na nl n p; comparisons = 0; entry = k })
  unfolding run_commands
  input_answer n p k e f = rw (e, run_commands, f)

  table_refused : table_in table ≡ refused (refuse 11 none) → Answer
  unfolding commands_in entry_at_fault contains ◌>>=◌
  table_refused e = (_, input_answer 11 none none (rw e) (rw (e, entry_at_fault)), refused_inputs 11 refl, input_filled ni na nl 11 none)

  module _ (cs : List Command) (tabled : table_in table ≡ ok cs) where
    form_refused : FormRefused 0 cs → Answer
    unfolding commands_in entry_at_fault ◌>>=◌
    form_refused f =
        let number = form_number f.command.form f.number f.place (check_fault f.command.form f.number f.place f.refuses) in
        let entry : entry_at_fault table ≡ some f.entry = rw (tabled, entry_at_fault, f.told, zero-add f.entry) in (
          _,
          input_answer f.number f.place (some f.entry) (rw (tabled, f.same)) entry,
          refused_form cs f.command f.entry f.number f.place tabled f.here f.refuses f.before number,
          input_filled ni na nl f.number f.place,
        )

    module _ (fs : List Accepted) (formed : forms_in cs ≡ ok fs) where
      later_refused : (n : ℕ) → first_fault form_good 0 cs ≡ none → OneOf (6 ∷ 5 ∷ 7 ∷ 14 ∷ []) n
          → commands_in table s ni na nl ≡ refused (refuse n none) → Answer
      unfolding entry_at_fault contains all
      later_refused n whole one e = (
        _,
        input_answer n none none e (rw (tabled, entry_at_fault, whole)),
        refused_inputs n (contains_more (6 ∷ 5 ∷ 7 ∷ 14 ∷ []) (11 ∷ 6 ∷ 5 ∷ 7 ∷ 14 ∷ []) n refl one),
        input_filled ni na nl n none,
      )

      module _
          (passed : commands_in table s ni na nl ≡ ok (record { commands = cs; forms = fs })) (rooms : Rooms ni na nl)
          (l : Line) (splits : split_with (table_letters fs) s ≡ ok l) (good : (l ≡ too_many) ⊎ LineGood (arguments s) l)
        where
          -- 8 and 9
          line_answer : (n : ℕ) (p : Option ℕ) → l.refusal ≡ some (refuse n p) → OneOf (8 ∷ 9 ∷ []) n → Answer
          unfolding run_commands run_table command_report report report_with list_words concat_map ended ◌>>=◌
          line_answer n p e one = (
            record { report = refused_later ni na nl l l.state n p; comparisons = 0; entry = none },
            rw (passed, run_commands, splits, e, run_table),
            refused_line cs fs l n p tabled formed splits e one,
            later_filled ni na nl l l.state n p (records_fit s l ni good rooms.0),
          )

          refused_answer : (e : Refusal) → l.refusal ≡ some e → Answer
          unfolding too_many contains
          refused_answer e z =
              ⊎_elim
              (λ (same : l ≡ too_many). line_answer 8 none (ap (λ (y : Line). y.refusal) same) refl)
              (λ (g : LineGood (arguments s) l). let (i, same, below) = g.refusal e z in line_answer 9 (some i) (rw same at z) refl)
              good

          module _ (unrefused : l.refusal ≡ none) (g : LineGood (arguments s) l) (b : Begins l.items l.state) where
            names_many : (j m : ℕ) (c : Candidate) → get_elem? (candidates_from 0 cs) j ≡ some c → m ≡ suc (0 + j) → (1 ≤ m) × (m ≤ all_names cs)
            names_many j m c h q =
                let below = lookup_inside (candidates_from 0 cs) j c h in
                let many = names_all 0 cs (table_typed table cs tabled) in
                (omega arith, omega arith)

            ran_answer :
                (o : Ran (List Value)) (m k : ℕ)
                → (1 ≤ m) × (m ≤ all_names cs)
                → k < length fs
                → Reported ni na nl l o
                → run_commands table s ni na nl ≡ command_report ni na nl l (record { comparisons = m; entry = some k; ran = o })
                → Answer
            unfolding command_report ◌>>=◌
            ran_answer o m k few below (y, told, number, filled) goes =
                (record { report = y; comparisons = m; entry = some k }, goes ∙ rw told, ran cs fs y m k tabled formed number few below, filled)

            -- 31; or the run
            tried_answer :
                (x : Tried)
                → try_names l.items 0 (candidates_from 0 cs) l.state ≡ ok x
                → TriedNames l.items 0 (candidates_from 0 cs) l.state x
                → Answer
            unfolding run_commands run_table run_chosen command_report report report_with list_words concat_map ended fields_at ◌>>=◌
            tried_answer x e (untaken m q r) =
                let all_names_lem : m ≡ all_names cs = q ∙ zero-add _ ∙ names_all 0 cs (table_typed table cs tabled) in
                let state = cleared l.state b.current in (
                  record { report = refused_later ni na nl l (with_current none l.state) 31 none; comparisons = all_names cs; entry = none },
                  rw (passed, run_commands, splits, unrefused, run_table, e, state, all_names_lem),
                  refused_names cs fs l tabled formed splits unrefused,
                  later_filled ni na nl l (with_current none l.state) 31 none (records_fit s l ni good rooms.0),
                )
            tried_answer x e (taken j m c h q f p r) =
                let below : c.entry < 0 + length cs = All-at _ (candidates_from 0 cs) j c (entries_below 0 cs) h in
                let (u, to, sound, scope, left) = narrows l.items l.state g.good b f in
                let (d, a, at, has, accepts) = forms_at cs fs formed c.entry (omega arith) in
                ran_answer (run_all 0 l.items a.fields u) m c.entry (names_many j m c h q) (lookup_inside fs c.entry a has)
                (run_told ni na nl rooms l (records_fit s l ni good rooms.0) g.few d.form a accepts u sound)
                (chosen_goes table s cs fs l splits unrefused ni na nl passed x e c.entry refl a has u to)

      -- the tests are passed
      passed_answer : commands_in table s ni na nl ≡ ok (record { commands = cs; forms = fs }) → Rooms ni na nl → Answer
      passed_answer passed rooms = go w.line.refusal refl
        where
          w : SplitsWith (table_letters fs) s
          w = splits_with (table_letters fs) s

          go : (o : Option Refusal) → w.line.refusal ≡ o → Answer
          go (some e) z = refused_answer passed rooms w.line w.splits w.good e z
          go none z =
              let g = unrefused_good s w.line w.good z in
              let (x, e, n) = tries_names w.line.items w.line.state g.good (w.begins z) 0 (candidates_from 0 cs) in
              tried_answer passed rooms w.line w.splits w.good z g (w.begins z) x e n

  every_answer : Answer
  unfolding commands_in ◌>>=◌
  every_answer = go (table_answers table)
    where
      formed : (cs : List Command) → table_in table ≡ ok cs → (fs : List Accepted) → forms_in cs ≡ ok fs → first_fault form_good 0 cs ≡ none → Answer
      formed cs e fs f whole =
          ⊎_elim
          (λ p. passed_answer cs e fs f (rw (e, f) p.0) p.1)
          (λ p. later_refused cs e fs f p.0 whole p.1 (rw (e, f) p.2))
          (rest_answers {A = CommandTable} s ni na nl (record { commands = cs; forms = fs }))

      go : ((cs : List Command) × (table_in table ≡ ok cs)) ⊎ (table_in table ≡ refused (refuse 11 none)) → Answer
      go (inl (cs, e)) = ⊎_elim (λ f. formed cs e f.0 f.1 f.2) (form_refused cs e) (forms_answer 0 cs)
      go (inr e) = table_refused e

-- the numbers
abbrev Numbers : List ℕ
Numbers = 0 ∷ 11 ∷ 1 ∷ 2 ∷ 3 ∷ 4 ∷ 6 ∷ 5 ∷ 7 ∷ 14 ∷ 8 ∷ 9 ∷ 31 ∷ 20 ∷ 21 ∷ 22 ∷ 23 ∷ 24 ∷ 25 ∷ 26 ∷ 27 ∷ []

run_number : (n : ℕ) → RunNumber n → OneOf Numbers n
unfolding contains all numbers
run_number n (inl e) = rw e
run_number n (inr h) = contains_more (numbers 8 20) Numbers n refl (numbers_contain 8 20 n h.0 (omega arith))

end_number : (table s : List ℕ) (ni na nl : ℕ) (r : CommandReport) → CommandsEnd table s ni na nl r → OneOf Numbers r.report.number
unfolding contains all refused_input
end_number table s ni na nl r (refused_inputs n one) = contains_more (11 ∷ 6 ∷ 5 ∷ 7 ∷ 14 ∷ []) Numbers n refl one
end_number table s ni na nl r (refused_form cs c k n p e h x b one) = contains_more (1 ∷ 2 ∷ 3 ∷ 4 ∷ []) Numbers n refl one
end_number table s ni na nl r (refused_line cs fs l n p e f x z one) = contains_more (8 ∷ 9 ∷ []) Numbers n refl one
end_number table s ni na nl r (refused_names cs fs l e f x z) = refl
end_number table s ni na nl r (ran cs fs y n k e f number few below) = run_number y.number number

-- table, sheet and lengths are any
pub commands_answered : (table s : List ℕ) (ni na nl : ℕ) → CommandsAnswered table s ni na nl
commands_answered table s ni na nl =
    let (r, e, end, filled) = every_answer table s ni na nl in
    record { answer = r; answered = e; ends = end; number = end_number table s ni na nl r end; filled = filled }
