-- What the careful run of a table rests on: what an accepted run of it leaves, and that its command word stands at place 0.
use mathlib.Core.Bool.{Bool, true, false, false≢true, true≢false}
use mathlib.Core.List.{List, []}
use mathlib.Core.Logic.{◌⊎◌, ⊎_elim}
use mathlib.Core.Option.{Option, some, none, some-injective}
use mathlib.Core.Path.{◌≡◌, refl, sym, ap, subst, ◌∙◌}
use Prim.Native.Nat.{ℕ, suc, ◌≤◌}
use native.Mathlib.Nat.{zero-add}
use native.Mathlib.Omega.{arith}
use borrow.Author.Tests.{eqb-true, leb-true}
use lib.Dec.{leb, eqb, ltb}
use lib.ListN.{length, get_elem?, replicate}
use Rattle.rules.specs.Base.{contains, same}
use Rattle.rules.specs.Outcome.{Outcome, ok, refused, fault, ◌>>=◌, MissingItem, Refusal, refuse}
use Rattle.rules.specs.Value.{Value, answer_words}
use Rattle.rules.specs.Sheet.{sheet_fault, sheet_area, arguments}
use Rattle.rules.specs.Accept.{Accepted}
use Rattle.rules.specs.Split.{Item, Word, Split, split_from, items_of}
use Rattle.rules.specs.State.{State, Found, marker_mark, command_mark, construct, first}
use Rattle.rules.specs.Take.{Took, command_text, is_command, take_cmd}
use Rattle.rules.specs.Sound.{Good}
use Rattle.rules.specs.Eval.{Ran}
use Rattle.rules.specs.Given.{sheet_in, room_in, list_room_in}
use Rattle.rules.specs.Run.{Line, too_many, line_of, run_all, Report, padded, refused_input, report_with, report as reported}
use Rattle.rules.specs.Commands.{Command, table_in, forms_in, CommandTable, commands_in, table_letters, split_with, Candidate, candidates_from}
use Rattle.rules.specs.Commands.{Tried, try_names, narrowed, fields_at, run_chosen, Commanded, run_table, CommandReport, command_report, run_commands}
use Rattle.rules.specs.CommandsAnswered.{CommandsEnd, refused_inputs, refused_form, refused_line, refused_names, ran}
use Rattle.rules.proofs.Acceptance.{All-at, accepted_sound}
use Rattle.rules.proofs.StepLaws.{Finds, find_good, removed}
use Rattle.rules.proofs.SplitLaws.{some≢none, ok_injective, same_true, LineGood, ambiguity_none}
use Rattle.rules.proofs.InputFaults.{bind_ok}
use Rattle.rules.proofs.CallsAnswer.{if_ok}
use Rattle.rules.proofs.Fields.{all_sound}
use Rattle.rules.proofs.CommandLaws.{Begins, SplitsWith, splits_with, Compares, takes, passes, compares, word_first}
use Rattle.rules.proofs.CommandLaws.{TriedNames, taken, untaken, tries_names, narrows, entries_below, no_entry_lem, forms_at, commands_answered}
use Rattle.rules_careful.specs.LooksCommands.{CommandWord}
use Rattle.rules_careful.proofs.LooksLaws.{RanLine}

-- ---- a line that splitting does not refuse
line_items_lem : (args : List (List ℕ)) (x : Split) (l : Line) → line_of args x ≡ ok l → l.refusal ≡ none → (x.ambiguous ≡ none) × (l.items ≡ items_of x)
unfolding line_of too_many
line_items_lem args x l e u = go (ltb 256 (length (items_of x))) refl
  where
    go : (t : Bool) → ltb 256 (length (items_of x)) ≡ t → (x.ambiguous ≡ none) × (l.items ≡ items_of x)
    go true t = absurd (some≢none (ap (λ (l : Line). l.refusal) (ok_injective (rw t at e)) ∙ u))
    go false t =
        let (s, h, k) = bind_ok (construct marker_mark (length (items_of x)) x.marker) _ l (rw t at e) in
        let same = ok_injective k in
        (ambiguity_none x.ambiguous (ap (λ (l : Line). l.refusal) same ∙ u), sym (ap (λ (l : Line). l.items) same))

unrefused : (s : List ℕ) (l : Line) → (l ≡ too_many) ⊎ LineGood (arguments s) l → l.refusal ≡ none → LineGood (arguments s) l
unfolding too_many
unrefused s l h z = ⊎_elim (λ (t : l ≡ too_many). absurd (some≢none (sym (ap (λ (y : Line). y.refusal) t) ∙ z))) (λ g. g) h

-- whatever the outcome, the report has the items of the line and the state reached
report_keeps :
    (ni na nl : ℕ) (l : Line) (x : Ran (List Value)) (r : Report)
    → reported ni na nl l x ≡ ok r
    → (r.items ≡ padded ni l.records) × (r.state ≡ x.state)
unfolding reported report_with
report_keeps ni na nl l x r e = go x.outcome refl
  where
    told :
        (n : ℕ) (k : Option ℕ) (w : List ℕ) (m : List MissingItem)
        → report_with ni na nl l x n k w m ≡ r
        → (r.items ≡ padded ni l.records) × (r.state ≡ x.state)
    told n k w m same = (ap (λ (r : Report). r.items) (sym same), ap (λ (r : Report). r.state) (sym same))

    go : (o : Outcome (List Value)) → x.outcome ≡ o → (r.items ≡ padded ni l.records) × (r.state ≡ x.state)
    go (ok vs) q = told 0 none (answer_words vs) [] (ok_injective (rw (q, reported) at e))
    go (refused d) q = told d.number d.place [] d.missing (ok_injective (rw (q, reported) at e))
    go (fault f) q = absurd (let bad = rw (q, reported) at e in let z : ◌≡◌ {A = ℕ} 0 1 = cc in omega arith)

-- the run of the chosen form
chosen_ran :
    (is : List Item) (fs : List Accepted) (t : Tried) (k : ℕ) (u : State) (a : Accepted) (o : Ran (List Value))
    → t.entry ≡ some k
    → narrowed t.state ≡ ok u
    → get_elem? fs k ≡ some a
    → run_chosen is fs t ≡ ok o
    → run_all 0 is a.fields u ≡ o
unfolding run_chosen fields_at ◌>>=◌
chosen_ran is fs t k u a o entry to has runs = ok_injective (rw (entry, run_chosen, to, has, fields_at) at runs)

-- ---- the command word
module _ (is : List Item) (s : State) (g : Good (length is) s) (b : Begins is s) (word : List ℕ) (x : Option Found) (e : first is s ≡ ok x) (c : is_command word x ≡ true) where
  -- `take_cmd` takes it, at place 0
  takes_word : (u : State) × (take_cmd command_mark is word s ≡ ok (record { answer = true; state = u })) × (u.current ≡ some 0)
  takes_word = let t = compares is word s g in go t.0 t.1 t.2
    where
      go : (t : Took Bool) → take_cmd command_mark is word s ≡ ok t → Compares is word s t
          → (u : State) × (take_cmd command_mark is word s ≡ ok (record { answer = true; state = u })) × (u.current ≡ some 0)
      go t h (takes y f w free) = (removed command_mark s y.place, h, ap some (word_first is s g b word y f w))
      go t h (passes y f w) =
          absurd (true≢false (sym c ∙ ap (is_command word) (ok_injective (sym e ∙ f)) ∙ w))

  -- a Word there is this one
  word_text_lem : (os : List ℕ) → get_elem? is 0 ≡ some (Word os) → word ≡ os
  unfolding first is_command command_text
  word_text_lem os here = let f = find_good is (λ _. true) s g in go x refl
    where
      go : (y : Option Found) → x ≡ y → word ≡ os
      go none h = absurd (false≢true (rw (h, is_command) at c))
      go (some y) h =
          let f = find_good is (λ _. true) s g in
          let there = subst (Finds is (λ _. true) s) (ok_injective (sym f.1 ∙ e) ∙ h) f.2 in
          let found : first is s ≡ ok (some y) = e ∙ ap ok h in
          let same_word : is_command word (some y) ≡ true = sym (ap (is_command word) h) ∙ c in
          let front = word_first is s g b word y found same_word in
          let item : y.item ≡ Word os = some-injective y.item (Word os) (sym there.item ∙ ap (get_elem? is) front ∙ here) in
          sym (same_true os word (rw (item, is_command) at same_word))

-- ---- an accepted run of a table
pub record AcceptedTable (t s : List ℕ) (ni : ℕ) (r : CommandReport) : Type 0 where
  pub commands : List Command
  pub forms : List Accepted
  pub tabled : table_in t ≡ ok commands
  pub formed : forms_in commands ≡ ok forms
  pub line : RanLine (table_letters forms) s ni r.report
  pub word : List ℕ
  pub command : CommandWord t s r word
  pub text : (os : List ℕ) → get_elem? (items_of line.given) 0 ≡ some (Word os) → word ≡ os

module _ (t s : List ℕ) (ni na nl : ℕ) (r : CommandReport) (e : run_commands t s ni na nl ≡ ok r) (fine : r.report.number ≡ 0) where
  abbrev Entered : Type 0
  Entered = (cs : List Command) × (fs : List Accepted) × (k : ℕ) × (table_in t ≡ ok cs) × (forms_in cs ≡ ok fs) × (r.entry ≡ some k)

  -- the form of an entry ran
  entered : Entered
  unfolding contains refused_input
  entered = let a = commands_answered t s ni na nl in go a.answer a.ends (ok_injective (sym a.answered ∙ e))
    where
      number : (x : CommandReport) → x ≡ r → x.report.number ≡ 0
      number x same = ap (λ (y : CommandReport). y.report.number) same ∙ fine

      go : (x : CommandReport) → CommandsEnd t s ni na nl x → x ≡ r → Entered
      go x (refused_inputs n one) same = absurd (false≢true (rw (number x same) at one))
      go x (refused_form cs c k n p a h f b one) same = absurd (false≢true (rw (number x same) at one))
      go x (refused_line cs fs l n p a f h z one) same = absurd (false≢true (rw (number x same) at one))
      go x (refused_names cs fs l a f h z) same = absurd (let z = number x same in omega (arith, z))
      go x (ran cs fs y n k a f h few below) same = (cs, fs, k, a, f, ap (λ (y : CommandReport). y.entry) (sym same))

  abbrev Goes : CommandTable → Outcome CommandReport
  Goes x = split_with (table_letters x.forms) s >>= λ l. run_table x l >>= command_report ni na nl l

  -- so the tests were passed
  passed : (x : CommandTable) × (commands_in t s ni na nl ≡ ok x) × (Goes x ≡ ok r)
  unfolding run_commands
  passed = go (commands_in t s ni na nl) refl
    where
      go : (o : Outcome CommandTable) → commands_in t s ni na nl ≡ o → (x : CommandTable) × (commands_in t s ni na nl ≡ ok x) × (Goes x ≡ ok r)
      go (ok x) h = (x, h, rw (h, run_commands) at e)
      go (refused d) h =
          let (cs, fs, k, tabled, formed, entry) = entered in
          let told = ap (λ (y : CommandReport). y.entry) (ok_injective (rw (h, run_commands) at e)) in
          absurd (some≢none (sym entry ∙ sym told ∙ no_entry_lem t cs fs tabled formed))
      go (fault d) h = absurd (let bad = rw (h, run_commands) at e in let z : ◌≡◌ {A = ℕ} 0 1 = cc in omega arith)

  abbrev table : CommandTable
  table = passed.0

  record Tested : Type 0 where
    tabled : table_in t ≡ ok table.commands
    formed : forms_in table.commands ≡ ok table.forms
    made : sheet_fault s ≡ 0
    room : 1792 ≤ ni

  tested : Tested
  unfolding commands_in sheet_in room_in
  tested =
      let (cs, tabled, a) = bind_ok (table_in t) _ table passed.1 in
      let (fs, formed, b) = bind_ok (forms_in cs) _ table a in
      let (area, sheet, c) = bind_ok (sheet_in s) _ table b in
      let (m, items, d) = bind_ok (room_in 1792 ni) _ table c in
      let (o, answers, f) = bind_ok (room_in 8240 na) _ table d in
      let (n, list, h) = bind_ok (list_room_in nl) _ table f in
      let same : record { commands = cs; forms = fs } ≡ table = ok_injective h in
      let commands = ap (λ (x : CommandTable). x.commands) same in
      let forms = ap (λ (x : CommandTable). x.forms) same in
      record {
        tabled = tabled ∙ ap ok commands;
        formed = ap forms_in (sym commands) ∙ formed ∙ ap ok forms;
        made = eqb-true (sheet_fault s) 0 (if_ok (eqb (sheet_fault s) 0) (sheet_area s) area (refuse (sheet_fault s) none) sheet).0;
        room = leb-true 1792 ni (if_ok (leb 1792 ni) ni m (refuse 7 none) items).0;
      }

  abbrev split : SplitsWith (table_letters table.forms) s
  split = splits_with (table_letters table.forms) s

  abbrev l : Line
  l = split.line

  -- how the run of the table ended, and its report
  record Ended : Type 0 where
    commanded : Commanded
    goes : run_table table l ≡ ok commanded
    report : Report
    reports : reported ni na nl l commanded.ran ≡ ok report
    same : record { report = report; comparisons = commanded.comparisons; entry = commanded.entry } ≡ r

  over : Ended
  unfolding command_report
  over =
      let (y, splits, a) = bind_ok (split_with (table_letters table.forms) s) _ r passed.2 in
      let line : y ≡ l = ok_injective (sym splits ∙ split.splits) in
      let goes : (run_table table l >>= command_report ni na nl l) ≡ ok r = rw line at a in
      let (c, went, b) = bind_ok (run_table table l) _ r goes in
      let (x, told, same) = bind_ok (reported ni na nl l c.ran) _ r b in
      record { commanded = c; goes = went; report = x; reports = told; same = ok_injective same }

  entry_told : over.commanded.entry ≡ r.entry
  entry_told = ap (λ (x : CommandReport). x.entry) over.same

  -- splitting did not refuse the line, and a name was taken
  record Chosen : Type 0 where
    free : l.refusal ≡ none
    tried : Tried
    tries : try_names l.items 0 (candidates_from 0 table.commands) l.state ≡ ok tried
    runs : run_chosen l.items table.forms tried ≡ ok over.commanded.ran
    compared : tried.comparisons ≡ r.comparisons
    entry : tried.entry ≡ r.entry

  chosen : Chosen
  unfolding run_table
  chosen = go l.refusal refl
    where
      go : (o : Option Refusal) → l.refusal ≡ o → Chosen
      go (some d) h =
          let none_told = ap (λ (c : Commanded). c.entry) (ok_injective (rw (h, run_table) at over.goes)) in
          absurd (some≢none (sym entered.5 ∙ sym entry_told ∙ sym none_told))
      go none h =
          let (x, tries, a) = bind_ok (try_names l.items 0 (candidates_from 0 table.commands) l.state) _ over.commanded (rw (h, run_table) at over.goes) in
          let (o, runs, b) = bind_ok (run_chosen l.items table.forms x) _ over.commanded a in
          let same : record { comparisons = x.comparisons; entry = x.entry; ran = o } ≡ over.commanded = ok_injective b in
          record {
            free = h;
            tried = x;
            tries = tries;
            runs = runs ∙ ap ok (ap (λ (c : Commanded). c.ran) same);
            compared = ap (λ (c : Commanded). c.comparisons) same ∙ ap (λ (y : CommandReport). y.comparisons) over.same;
            entry = ap (λ (c : Commanded). c.entry) same ∙ entry_told;
          }

  good : LineGood (arguments s) l
  good = unrefused s l split.good chosen.free

  begins : Begins l.items l.state
  begins = split.begins chosen.free

  -- the name that was taken
  record Named : Type 0 where
    before : ℕ
    name : Candidate
    here : get_elem? (candidates_from 0 table.commands) before ≡ some name
    compared : r.comparisons ≡ suc before
    entry : r.entry ≡ some name.entry
    first_is : Option Found
    found : first l.items l.state ≡ ok first_is
    equal : is_command name.word first_is ≡ true
    -- and a mark for each item at the end of its form's run
    marks : length over.commanded.ran.state.marks ≡ length l.items

  named : Named
  named =
      let (x, tries, n) = tries_names l.items l.state good.good begins 0 (candidates_from 0 table.commands) in
      let same : x ≡ chosen.tried = ok_injective (sym tries ∙ chosen.tries) in
      go x n (ap (λ (y : Tried). y.comparisons) same ∙ chosen.compared) (ap (λ (y : Tried). y.entry) same ∙ chosen.entry)
      (ap (run_chosen l.items table.forms) same ∙ chosen.runs)
    where
      go :
          (x : Tried)
          → TriedNames l.items 0 (candidates_from 0 table.commands) l.state x
          → x.comparisons ≡ r.comparisons
          → x.entry ≡ r.entry
          → run_chosen l.items table.forms x ≡ ok over.commanded.ran
          → Named
      go x (untaken m q others) compared entry runs = absurd (some≢none (sym entered.5 ∙ sym entry))
      go x (taken j m c h q free equal others) compared entry runs =
          let below = All-at _ (candidates_from 0 table.commands) j c (entries_below 0 table.commands) h in
          let (u, to, sound, scope, left) = narrows l.items l.state good.good begins free in
          let (d, a, at, has, accepts) = forms_at table.commands table.forms tested.formed c.entry (omega arith) in
          let ended = chosen_ran l.items table.forms x c.entry u a over.commanded.ran refl to has runs in
          record {
            before = j;
            name = c;
            here = h;
            compared = sym compared ∙ q ∙ ap suc (zero-add j);
            entry = sym entry;
            first_is = equal.0;
            found = equal.1;
            equal = equal.2;
            marks =
                sym (ap (λ (y : Ran (List Value)). length y.state.marks) ended)
                ∙ (all_sound 0 l.items a.fields (accepted_sound d.form a accepts) u sound).step.good.long;
          }

  pub accepted_table : AcceptedTable t s ni r
  unfolding split_with
  accepted_table =
      let (x, grouped, k) = bind_ok (split_from (table_letters table.forms) 0 (arguments s)) _ l split.splits in
      let (clear, items) = line_items_lem (arguments s) x l k chosen.free in
      let (records, state) = report_keeps ni na nl l over.commanded.ran over.report over.reports in
      let n = named in
      let (u, matched, place) = takes_word l.items l.state good.good begins n.name.word n.first_is n.found n.equal in
      let told : over.report ≡ r.report = ap (λ (y : CommandReport). y.report) over.same in
      record {
        commands = table.commands;
        forms = table.forms;
        tabled = tested.tabled;
        formed = tested.formed;
        line = record {
          made = tested.made;
          room = tested.room;
          line = l;
          splits = split.splits;
          free = chosen.free;
          good = good;
          given = x;
          grouped = grouped;
          clear = clear;
          items = items;
          records = sym (ap (λ (y : Report). y.items) told) ∙ records;
          marks = sym (ap (λ (y : Report). length y.state.marks) told) ∙ ap (λ (y : State). length y.marks) state ∙ n.marks;
        };
        word = n.name.word;
        command = record {
          commands = table.commands;
          forms = table.forms;
          tabled = tested.tabled;
          formed = tested.formed;
          line = l;
          splits = split.splits;
          before = n.before;
          entry = n.name.entry;
          name = n.here;
          compared = n.compared;
          chosen = n.entry;
          state = u;
          matched = matched;
          place = place;
        };
        text = λ os here.
            word_text_lem l.items l.state good.good begins n.name.word n.first_is n.found n.equal os (rw items here);
      }

-- its list is all 0, and its answers fill their slice
pub accepted_filled :
    (t s : List ℕ) (ni na nl : ℕ) (r : CommandReport)
    → run_commands t s ni na nl ≡ ok r
    → r.report.number ≡ 0
    → (length r.report.answers ≡ na) × (r.report.list ≡ replicate nl 0)
accepted_filled t s ni na nl r e fine =
    let a = commands_answered t s ni na nl in
    let same = ok_injective (sym a.answered ∙ e) in
    let number = ap (λ (x : CommandReport). x.report.number) same in (
      ap (λ (x : CommandReport). length x.report.answers) (sym same) ∙ a.filled.answers,
      ap (λ (x : CommandReport). x.report.list) (sym same) ∙ a.filled.unlisted (λ z. omega (arith, number)),
    )
