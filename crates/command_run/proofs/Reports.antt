-- What is reported of a line under a table of commands, and how it is handed back.
use mathlib.Core.List.{List}
use mathlib.Core.Option.{Option, some, none, none-ne-some}
use mathlib.Core.Path.{◌≡◌, refl, sym, ap, ◌∙◌}
use Prim.Native.Nat.{ℕ, zero, suc, ◌-◌, ◌<◌}
use native.Mathlib.Omega.{arith}
use lib.ListN.{length, get_or, get_elem?, replicate, length-replicate}
use lib.Seq.{sets}
use borrow.Author.Tests.{eq-eqb, ne_eqb, le-leb, lt-leb}
use Rattle.rules.specs.Outcome.{Outcome, ok, refused, fault, ◌>>=◌, Refusal, refuse}
use Rattle.rules.specs.Codes.{place_code, place_of}
use Rattle.rules.specs.Sheet.{sheet_area, sheet_fault}
use Rattle.rules.specs.Accept.{Accepted, Letters}
use Rattle.rules.specs.State.{State, command_mark}
use Rattle.rules.specs.Eval as eval
use Rattle.rules.specs.Run.{Line, Report, refused_input, report_with, report, run_all}
use Rattle.rules.specs.Calls.{to_raw}
use Rattle.rules.specs.Given.{sheet_in, room_in, list_room_in}
use Rattle.rules.specs.Commands.{entry_count, Command, table_in, forms_in, commands_in, table_letters, candidates_from, try_names}
use Rattle.rules.specs.Commands.{narrowed, fields_at, run_chosen, run_table, command_report, run_commands}
use Rattle.rules.proofs.Fields.{field_parsed}
use Rattle.rules.proofs.CallsAnswer.{command_parsed}
use Rattle.rules.proofs.CommandLaws.{commands_go, no_entry_lem}
use Rattle.state_marks.specs.declared.Numbers.{Numbers}
use Rattle.state_marks.specs.Lent.{raw_of, state_of}
use Rattle.state_marks.proofs.Laws.{raw_back}
use Rattle.take_search.specs.States.{CanTake}
use Rattle.split_args.specs.Construct.{starting_state as begun, MarkerWithin, SplitEnds, Unmarked}
use Rattle.split_args.proofs.States.{all_zero}
use Rattle.run_fields.specs.declared.Reached.{Reached}
use Rattle.run_fields.specs.Line.{refused_with}
use Rattle.run.specs.Runner.{run_answer, ended, answer_of, LineFault, sheet, items, answers, list, RunsListed}
use Rattle.run.proofs.Runs.{refused_line_lem, fields_answer}
use Rattle.run.proofs.States.{zero_at}
use Rattle.run.proofs.Begun.{LineBegins, unrefused_good, unrefused_begins, line_splits, line_refused, state_is, line_begins, padded_long}
use Rattle.command_layout.specs.Tables.{HasCommands, HasForms}
use Rattle.rules.proofs.CommandForms.{commands_count}
use Rattle.command_names.specs.Trying.{TriesNames}
use Rattle.rules.specs.declared.State.{State as Raw}
use Rattle.split_args.specs.declared.Ended.{Ended as Split}
use Rattle.command_names.specs.declared.Tried.{Tried as Names}
use Rattle.command_run.specs.declared.Commanded.{Commanded as Done}
use Rattle.command_run.specs.Commanded.{Ended, commands_answer, commanded_as, CheckedTable}
use Rattle.command_run.specs.Chosen.{LineSplit, FormBegins}
use Rattle.command_run.proofs.Chosen.{chosen, form_bytes, form_there}

-- ---- from a run's report to a table's
module _ (n e : ℕ) (k : Option ℕ) (r : Reached) (m i a l : List ℕ) (d : Done) (c : place_code k ≡ e) (same : d ≡ record { comparisons = n; entry = e; reached = r }) where
  told_ok : (y : Report) → run_answer (ok y) ≡ ended (answer_of r m) i a l
      → commands_answer (ok (record { report = y; comparisons = n; entry = k })) ≡ commanded_as d m i a l
  unfolding commands_answer
  told_ok y h = rw (h, commands_answer, c, same)

  told_report : (o : Outcome Report) → run_answer o ≡ ended (answer_of r m) i a l
      → commands_answer (o >>= λ y. ok (record { report = y; comparisons = n; entry = k })) ≡ commanded_as d m i a l
  unfolding run_answer ◌>>=◌
  told_report (ok y) h = told_ok y h
  told_report (refused x) h = absurd (none-ne-some _ h)
  told_report (fault x) h = absurd (none-ne-some _ h)

-- ---- refused because of the input
module _ (t s : List ℕ) (ni na nl : ℕ) where
  -- 6 and 5, 7, 14
  tests_bad : HasForms t → (n : ℕ) → LineFault s ni na nl n → commands_in t s ni na nl ≡ refused (refuse n none)
  unfolding commands_in sheet_in room_in list_room_in ◌>>=◌
  tests_bad h n (sheet x) = rw (h.reads, h.accepts, ne_eqb (sheet_fault s) 0 x)
  tests_bad h n (items c x) = rw (h.reads, h.accepts, eq-eqb (sheet_fault s) 0 c, lt-leb 1792 ni x)
  tests_bad h n (answers c i x) = rw (h.reads, h.accepts, eq-eqb (sheet_fault s) 0 c, le-leb 1792 ni i, lt-leb 8240 na x)
  tests_bad h n (list c i o x) = rw (h.reads, h.accepts, eq-eqb (sheet_fault s) 0 c, le-leb 1792 ni i, le-leb 8240 na o, lt-leb 192 nl x)

  pub line_bad :
      HasForms t
      → (n : ℕ)
      → LineFault s ni na nl n
      → run_commands t s ni na nl ≡ ok (record { report = refused_input ni na nl n (place_of 0); comparisons = 0; entry = none })
  unfolding run_commands place_of
  line_bad h n f = rw (tests_bad h n f, run_commands, no_entry_lem t h.commands h.forms h.reads h.accepts)

  -- what is handed back of any refusal of the input
  pub input_refused :
      (number place : ℕ) (k : Option ℕ) (e : ℕ) (r : Reached) (m i a l : List ℕ) (d : Done)
      → run_commands t s ni na nl ≡ ok (record { report = refused_input ni na nl number (place_of place); comparisons = 0; entry = k })
      → run_answer (ok (refused_input ni na nl number (place_of place))) ≡ ended (answer_of r (replicate 256 0)) i a l
      → Unmarked m
      → place_code k ≡ e
      → d ≡ record { comparisons = 0; entry = e; reached = r }
      → commands_answer (run_commands t s ni na nl) ≡ commanded_as d m i a l
  unfolding ◌>>=◌
  input_refused number place k e r m i a l d runs told u c same =
      ap commands_answer runs
      ∙ told_report 0 e k r m i a l d c same (ok (refused_input ni na nl number (place_of place)))
      (told ∙ ap (λ (x : List ℕ). ended (answer_of r x) i a l) (sym u.zeros))

-- the number of an entry
pub entry_next : (e k : ℕ) → (e ≡ 0 → ⊥) → k ≡ e - 1 → e ≡ suc k
entry_next zero k h s = absurd (h refl)
entry_next (suc e) k h s = ap suc (omega arith)

-- ---- a line that is split
module _ (t s words m : List ℕ) (p : Numbers) (o l : List ℕ) (g : LineSplit t s words m p o l) where
  abbrev ni : ℕ
  ni = length words

  abbrev na : ℕ
  na = length o

  abbrev nl : ℕ
  nl = length l

  passed : commands_in t s ni na nl ≡ ok (record { commands = g.forms.commands; forms = g.forms.forms })
  passed =
      commands_go t s g.forms.commands g.forms.forms g.forms.reads g.forms.accepts g.room.checked ni na nl
      g.room.items g.room.answers g.room.list

  pub commands_there : HasCommands t
  commands_there = record { commands = g.forms.commands; reads = g.forms.reads }

  -- how the names are tried
  pub can_take : CanTake (sheet_area s) words m p command_mark
  can_take = record { items = g.line.items; table = g.table; same = g.count; fine = g.fine; told = command_parsed }

  module _ (m' : List ℕ) (x : Names) (tries : (cs : List Command) → table_in t ≡ ok cs → TriesNames (sheet_area s) words cs m p m' x) where
    tried : TriesNames (sheet_area s) words g.forms.commands m p m' x
    tried = tries g.forms.commands g.forms.reads

    told : try_names g.line.items 0 (candidates_from 0 g.forms.commands) g.line.state
        ≡ ok (record { entry = place_of x.entry; comparisons = x.comparisons; state = state_of m' x.numbers })
    told = rw (← g.same) (tried.same g.line.items (g.table, g.count))

    back : to_raw (state_of m' x.numbers) ≡ raw_of m' x.numbers
    back = raw_back m' x.numbers tried.left.fine (tried.left.long ∙ g.long)

    -- 31
    pub unmatched : x.entry ≡ 0 → (r : Reached) → r ≡ refused_with 31 0 0 0 x.numbers → (d : Done) → d ≡ record { comparisons = x.comparisons; entry = 0; reached = r }
        → commands_answer (run_commands t s ni na nl) ≡ commanded_as d m' words o l
    unfolding run_commands run_table run_chosen command_report report report_with place_of ◌>>=◌
    unmatched z r h d same =
        let e : Refusal = refuse 31 none in
        let u : State = state_of m' x.numbers in
        let taken = rw z at told in
        let ran = refused_line_lem ni na nl g.line e u m' x.numbers words 31 0 r refl refl refl (sym back) g.written h in
        let zeros = rw (← g.answers, ← g.list) at ran in
        rw (passed, run_commands, g.splits, g.free, run_table, taken, run_chosen)
        (told_report x.comparisons 0 none r m' words o l d refl same (report ni na nl g.line (eval.ended (refused e) u)) zeros)

    -- a name of entry k was taken
    module _ (k : ℕ) (z : x.entry ≡ suc k) where
      both : (k < length g.forms.commands) × (narrowed (state_of m' x.numbers) ≡ ok (state_of m' x.numbers))
      unfolding place_of
      both =
          let ls : Letters = table_letters g.forms.forms in
          let good = unrefused_good ls s g.line g.splits g.free in
          let begins = unrefused_begins ls s g.line g.splits g.free in
          chosen g.line.items g.line.state good.good begins g.forms.commands _ told k (rw z)

      pub below : k < entry_count t
      below = omega (arith, commands_count t g.forms.commands g.forms.reads, both.0)

      pub form_begins : FormBegins t k s words m' x.numbers o l
      form_begins = record {
        forms = g.forms;
        below = below;
        made = g.room.checked;
        state = record {
          items = g.line.items;
          table = g.table;
          same = g.count ∙ sym tried.left.count;
          fine = tried.left.fine;
          told = field_parsed 0;
        };
        room = g.room.answers;
        zeros = λ j. ap (λ (w : List ℕ). get_or w j 0) g.answers ∙ zero_at na j;
        entries = g.room.list;
      }

      module _ (m'' o' l' : List ℕ) (r : Reached)
          (ran : (cs : List Command) (fs : List Accepted) (a : Accepted) → table_in t ≡ ok cs → forms_in cs ≡ ok fs → get_elem? fs k ≡ some a
          → RunsListed (sheet_area s) words 0 a.fields m' x.numbers m'' o o' l l' r) where
        pub matched : (d : Done) → d ≡ record { comparisons = x.comparisons; entry = x.entry; reached = r }
            → commands_answer (run_commands t s ni na nl) ≡ commanded_as d m'' words o' l'
        unfolding run_commands run_table run_chosen fields_at command_report report report_with place_of ◌>>=◌
        matched d same =
            let (a, has) = form_there t g.forms k below in
            let u : State = state_of m' x.numbers in
            let taken = rw z at told in
            let answer = answer_of_lem a has in
            rw (passed, run_commands, g.splits, g.free, run_table, taken, run_chosen, both.1, has, fields_at)
            (told_report x.comparisons (suc k) (some k) r m'' words o' l' d refl
            (same ∙ ap (λ (e : ℕ). record { comparisons = x.comparisons; entry = e; reached = r }) z)
            (report ni na nl g.line (run_all 0 g.line.items a.fields u)) answer)
          where
            answer_of_lem : (a : Accepted) → get_elem? g.forms.forms k ≡ some a
                → run_answer (report ni na nl g.line (run_all 0 g.line.items a.fields (state_of m' x.numbers))) ≡ ended (answer_of r m'') words o' l'
            answer_of_lem a has =
                let (f, accepts) = form_bytes t g.forms k below a has in
                fields_answer f a accepts (sheet_area s) words ni na nl g.line m' x.numbers (g.table, g.count ∙ sym tried.left.count)
                (tried.left.long ∙ g.long) m'' o o' l l' r (ran g.forms.commands g.forms.forms a g.forms.reads g.forms.accepts has)
                g.written g.answers g.list g.room.answers g.room.list

-- ---- a checked table, and its sheet split
pub marker_within :
    (t s i a k : List ℕ)
    → CheckedTable t s i a k
    → (i' : List ℕ) (x : Split)
    → ((cs : List Command) (fs : List Accepted) → table_in t ≡ ok cs → forms_in cs ≡ ok fs → SplitEnds (table_letters fs) s (length i) i' x)
    → MarkerWithin x.count x.marker
marker_within t s i a k c i' x w = (w c.forms.commands c.forms.forms c.forms.reads c.forms.accepts).marked

-- its answer slice and its list cleared
module _ (t s i a k : List ℕ) (c : CheckedTable t s i a k) (a' : List ℕ) (y : a' ≡ sets a 0 (replicate (length a) 0))
    (k' : List ℕ) (v : k' ≡ sets k 0 (replicate (length k) 0)) (i' : List ℕ) (x : Split)
    (w : (cs : List Command) (fs : List Accepted) → table_in t ≡ ok cs → forms_in cs ≡ ok fs → SplitEnds (table_letters fs) s (length i) i' x)
    (m : List ℕ) (p : Numbers) (q : raw_of m p ≡ begun x.count x.marker) where
  abbrev ls : Letters
  ls = table_letters c.forms.forms

  ends : SplitEnds ls s (length i) i' x
  ends = w c.forms.commands c.forms.forms c.forms.reads c.forms.accepts

  cleared : a' ≡ replicate (length a) 0
  cleared = y ∙ all_zero a (length a) refl

  unlisted : k' ≡ replicate (length k) 0
  unlisted = v ∙ all_zero k (length k) refl

  goes : commands_in t s (length i) (length a) (length k) ≡ ok (record { commands = c.forms.commands; forms = c.forms.forms })
  goes =
      commands_go t s c.forms.commands c.forms.forms c.forms.reads c.forms.accepts c.line.checked
      (length i) (length a) (length k) c.line.items c.line.answers c.line.list

  -- 8 or 9
  pub splitting_refused : (x.number ≡ 0 → ⊥) → (r : Reached) → r ≡ refused_with x.number x.place 0 0 p → (d : Done)
      → d ≡ record { comparisons = 0; entry = 0; reached = r }
      → commands_answer (run_commands t s (length i) (length a) (length k)) ≡ commanded_as d m i' a' k'
  unfolding run_commands run_table command_report report report_with ◌>>=◌
  splitting_refused n r h d same =
      let l : Line = ends.line in
      let e = line_refused ls s (length i) i' x ends n in
      let ran =
      refused_line_lem (length i) (length a) (length k) l e.refusal l.state m p i' x.number x.place r e.number e.place e.plain
      (state_is ls s (length i) i' x ends m p q) ends.words h in
      let told = rw (← cleared, ← unlisted) at ran in
      rw (goes, run_commands, line_splits ls s (length i) i' x ends, e.there, run_table)
      (told_report 0 0 none r m i' a' k' d refl same (report (length i) (length a) (length k) l (eval.ended (refused e.refusal) l.state)) told)

  module _ (n : x.number ≡ 0) where
    begins : LineBegins s i' m p ends.line
    begins = line_begins ls s (length i) i' x ends m p q n c.line.checked c.line.items

    kept : length i' ≡ length i
    kept =
        let good = unrefused_good ls s ends.line (line_splits ls s (length i) i' x ends) begins.free in
        ap length ends.words ∙ padded_long (length i) ends.line.records (omega (arith, good.records, good.few, c.line.items))

    answers_kept : length a' ≡ length a
    answers_kept = ap length cleared ∙ length-replicate {A = ℕ} (length a) 0

    list_kept : length k' ≡ length k
    list_kept = ap length unlisted ∙ length-replicate {A = ℕ} (length k) 0

    pub line_split : LineSplit t s i' m p a' k'
    line_split = record {
      forms = c.forms;
      room = record {
        checked = c.line.checked;
        items = omega (arith, kept, c.line.items);
        answers = omega (arith, answers_kept, c.line.answers);
        list = omega (arith, list_kept, c.line.list);
      };
      line = ends.line;
      splits = line_splits ls s (length i) i' x ends;
      free = begins.free;
      written = rw kept ends.words;
      table = begins.table;
      fine = begins.fine;
      long = begins.long;
      count = begins.count;
      same = begins.same;
      answers = cleared ∙ ap (λ (j : ℕ). replicate j 0) (sym answers_kept);
      list = unlisted ∙ ap (λ (j : ℕ). replicate j 0) (sym list_kept);
    }

    -- the run is told the lengths that the slices had
    pub split_answer :
        (z : Option Ended)
        → commands_answer (run_commands t s (length i') (length a') (length k')) ≡ z
        → commands_answer (run_commands t s (length i) (length a) (length k)) ≡ z
    split_answer z h = rw (kept, answers_kept, list_kept) at h

-- ---- the state, put together
pub joined_answer : (x : Option Ended) (d : Done) (m i a l : List ℕ) (s : Raw) → x ≡ commanded_as d m i a l → s ≡ raw_of m d.reached.numbers
    → x ≡ some (record {
      answer = record {
        number = d.reached.number;
        place = d.reached.place;
        tries = d.reached.tries;
        words = d.reached.words;
        comparisons = d.comparisons;
        entry = d.entry;
        state = s;
      };
      items = i;
      answers = a;
      list = l;
    })
joined_answer x d m i a l s e h = rw h e
