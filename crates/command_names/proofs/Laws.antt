-- One name, and the loops over the names of an entry and over the entries of a table.
use mathlib.Core.Bool.{Bool, true, false}
use mathlib.Core.List.{List, [], ◌∷◌, ◌++◌}
use mathlib.Core.Option.{some}
use mathlib.Core.Path.{◌≡◌, refl, sym, ap, ◌∙◌, subst}
use Prim.Native.Nat.{ℕ, suc, ◌+◌, ◌*◌, ◌≤◌, ◌<◌}
use native.Mathlib.Nat.{zero-add}
use native.Mathlib.Numerals.{add-one}
use native.Mathlib.Omega.{arith}
use lib.Dec.{leb}
use lib.ListN.{length, take, drop, get_elem?, drop_of_length-le}
use borrow.Author.Tests.{leb-true}
use Rattle.wire.specs.Wire.{entry_of}
use Rattle.rules.specs.Base.{concat_map}
use Rattle.rules.specs.Outcome.{ok}
use Rattle.rules.specs.Codes.{place_of}
use Rattle.rules.specs.Form.{name_bytes, type_good, name_good}
use Rattle.rules.specs.Sheet.{sheet_area, sheet_fault}
use Rattle.rules.specs.Split.{Item}
use Rattle.rules.specs.State.{command_mark}
use Rattle.rules.specs.Take.{took, take_cmd}
use Rattle.rules.specs.Commands.{Command, entry_count, entry_names, entry_good, read_command, command_name_good, table_entries, table_in, Candidate, candidates_of, candidates_from}
use Rattle.rules.specs.Commands.{try_names}
use Rattle.rules.proofs.Acceptance.{and-true, all_true, All-at}
use Rattle.rules.proofs.CodeLaws.{place_next}
use Rattle.rules.proofs.SplitLaws.{ok_injective}
use Rattle.state_marks.specs.declared.Numbers.{Numbers}
use Rattle.state_marks.specs.Lent.{state_of}
use Rattle.state_marks.specs.Written.{command_number}
use Rattle.state_marks.proofs.Mark.{command_told, command_parsed}
use Rattle.form_names.specs.Names.{name_of}
use Rattle.form_names.specs.declared.Name as names
use Rattle.take_search.specs.States.{CanTake, LeftState, Items}
use Rattle.take.specs.Takes.{TakesCmd}
use Rattle.take.specs.declared.Flag.{Flag}
use Rattle.command_layout.specs.Tables.{HasEntry, HasRecord, EntryFits, HasCommands}
use Rattle.command_layout.proofs.Entries.{good_entry, names_length, good_offsets, table_offsets, table_entries_lem}
use Rattle.rules.proofs.CommandForms.{commands_count, entry_there, command_there}
use Rattle.command_names.specs.declared.Tried.{Tried}
use Rattle.command_names.specs.Trying.{CanTry, type_candidates, none_taken, tried_behind, Tries, TriesNames}
use Rattle.command_names.proofs.Candidates.{name_of_type, name_of_other, type_next, entry_both, entries_next}
use Rattle.command_names.proofs.Passing.{try_taken, try_passed, then_on, then_done, Passed}
use Rattle.command_names.proofs.Passing.{passed_none, passed_all, passed_then, passed_more, passed_taken, none_tried, tries_all}

-- from the state that was left
take_again : (area words m : List ℕ) (p : Numbers) (mark : ℕ) (m' : List ℕ) (q : Numbers) → CanTake area words m p mark → LeftState m p m' q
    → CanTake area words m' q mark
take_again area words m p mark m' q can l = record {
  items = can.items;
  table = can.table;
  same = can.same ∙ sym l.count;
  fine = l.fine;
  told = can.told;
}

-- ---- an entry that can be tried
module _ (e s words m : List ℕ) (p : Numbers) (number : ℕ) (can : CanTry e s words m p number) where
  pub can_fit : EntryFits e
  can_fit = (good_entry e can.good).fits

  pub can_head : 4 ≤ length e
  can_head = can_fit.counts.head

  pub can_record : (k : ℕ) → k < entry_names e → HasRecord e k
  can_record k l = record { fits = can_fit; below = l }

  pub number_fits : number < 4294967296
  number_fits = omega (arith, can.low)

  pub code_fits : number + 1 < 4294967296
  code_fits = omega (arith, can.low)

  pub can_take : CanTake (sheet_area s) words m p command_number
  can_take = record {
    items = can.state.items;
    table = can.state.table;
    same = can.state.same;
    fine = can.state.fine;
    told = command_parsed;
  }

  can_again : (m' : List ℕ) (q : Numbers) → LeftState m p m' q → CanTry e s words m' q number
  can_again m' q l = record {
    good = can.good;
    made = can.made;
    state = take_again (sheet_area s) words m p command_mark m' q can.state l;
    low = can.low;
  }

  -- ---- one name
  module _ (k : ℕ) (x : names.Name) (here : get_elem? (read_command e).names k ≡ some (name_of x)) where
    pub name_fits : (a : List ℕ) → a ≡ (read_command e).area → x.offset + x.size ≤ length a
    unfolding command_name_good name_good
    name_fits a same =
        let area = (read_command e).area in
        let all-good = all_true (command_name_good area) (read_command e).names (good_entry e can.good).names in
        let good = All-at _ (read_command e).names k (name_of x) all-good here in
        let named = (and-true (name_good area (name_of x)) (leb x.kind 1) good).0 in
        let inside = (and-true (leb (x.offset + x.size) (length area)) (type_good x.kind (name_bytes area (name_of x))) named).0 in
        rw same (leb-true (x.offset + x.size) (length area) inside)

    module _ (t : ℕ) where
      abbrev one : List Candidate
      one = type_candidates t number (read_command e).area (take 1 (drop k (read_command e).names))

      -- of another type
      pub name_other : (x.kind ≡ t → ⊥) → (r : Tried) → r ≡ none_taken 0 p → Tries (sheet_area s) words one 1 m p m r
      name_other other r q =
          rw (q, name_of_other t number (read_command e).area (read_command e).names k (name_of x) here other)
          (none_tried (sheet_area s) words 1 m p can.state.fine)

      module _ (is-type : x.kind ≡ t) (a w : List ℕ) (area : a ≡ (read_command e).area) (word : w ≡ name_bytes a (name_of x))
          (m' : List ℕ) (f : Flag) (takes : TakesCmd command_number (sheet_area s) words w m p m' f) where
        only : one ≡ record { word = w; entry = number } ∷ []
        only = name_of_type t number (read_command e).area (read_command e).names k (name_of x) here is-type ∙ rw (word, area)

        took_word : (b : Bool) → f.found ≡ b → (is : List Item) → Items (sheet_area s) words p is
            → take_cmd command_mark is w (state_of m p) ≡ took b (state_of m' f.numbers)
        took_word b q is i = rw (command_told, q) at (takes.same is i)

        pub name_taken : f.found ≡ true
            → Tries (sheet_area s) words one 1 m p m' (record { entry = number + 1; comparisons = 1; numbers = f.numbers })
        name_taken q = rw only (record {
          same = λ is i n rest.
              let sum : suc n ≡ n + 1 = omega arith in
              try_taken is n _ rest (state_of m p) (state_of m' f.numbers) (took_word true q is i)
              ∙ ap (λ (j : ℕ). ok (record { entry = some number; comparisons = j; state = state_of m' f.numbers })) sum
              ∙ sym (then_done is n rest m' _ number (place_next number));
          few = omega arith;
          left = takes.left;
        })

        pub name_passed : f.found ≡ false → (r : Tried) → r ≡ none_taken 1 f.numbers → Tries (sheet_area s) words one 1 m p m' r
        unfolding place_of
        name_passed q r made = rw (made, only) (record {
          same = λ is i n rest.
              let sum : suc n ≡ n + 1 = omega arith in
              try_passed is n _ rest (state_of m p) (state_of m' f.numbers) (took_word false q is i)
              ∙ ap (λ (j : ℕ). try_names is j rest (state_of m' f.numbers)) sum
              ∙ sym (then_on is n rest m' (none_taken 1 f.numbers) refl);
          few = omega arith;
          left = takes.left;
        })

-- ---- the names of one type: all, and those from record k on
abbrev all_of : ℕ → ℕ → List ℕ → List Candidate
all_of t number e = type_candidates t number (read_command e).area (read_command e).names

abbrev left_of : ℕ → ℕ → List ℕ → ℕ → List Candidate
left_of t number e k = type_candidates t number (read_command e).area (drop k (read_command e).names)

pub record KindLoop (e s words m₀ : List ℕ) (p₀ : Numbers) (number t n : ℕ) (m : List ℕ) (p : Numbers) (compared k : ℕ) : Type 0 where
  pub start : CanTry e s words m₀ p₀ number
  pub count : n ≡ entry_names e
  pub few : compared ≤ k
  pub within : k ≤ n
  pub passed : Passed (sheet_area s) words (all_of t number e) (left_of t number e k) m₀ p₀ compared m p

module _ (e s words m₀ : List ℕ) (p₀ : Numbers) (number t n : ℕ) where
  pub kind_first : CanTry e s words m₀ p₀ number → n ≡ entry_names e → KindLoop e s words m₀ p₀ number t n m₀ p₀ 0 0
  kind_first can c = record {
    start = can;
    count = c;
    few = omega arith;
    within = omega arith;
    passed = passed_none _ _ _ m₀ p₀ _ refl can.state.fine;
  }

  module _ (m : List ℕ) (p : Numbers) (compared k : ℕ) (g : KindLoop e s words m₀ p₀ number t n m p compared k) where
    limit : n ≤ 128
    limit = omega (arith, g.count, (good_entry e g.start.good).fits.counts.names)

    pub kind_can : CanTry e s words m p number
    kind_can = can_again e s words m₀ p₀ number g.start m p g.passed.state

    pub kind_below : k < n → k < entry_names e
    kind_below l = omega (arith, g.count)

    pub kind_end : n ≤ k → (r : Tried) → r ≡ none_taken compared p → Tries (sheet_area s) words (all_of t number e) 128 m₀ p₀ m r
    unfolding type_candidates concat_map
    kind_end l r q =
        let long = names_length e in
        let none_left : drop k (read_command e).names ≡ [] = drop_of_length-le (read_command e).names {i = k} (omega (arith, g.count)) in
        rw q
        (passed_all _ _ _ m₀ p₀ _ compared m p g.passed (ap (type_candidates t number (read_command e).area) none_left) 128
        (omega (arith, limit, g.few, g.within)))

    module _ (l : k < n) (m' : List ℕ) (r : Tried)
        (tried : Tries (sheet_area s) words (type_candidates t number (read_command e).area (take 1 (drop k (read_command e).names))) 1 m p m' r)
      where
        next_name : left_of t number e k ≡ type_candidates t number (read_command e).area (take 1 (drop k (read_command e).names)) ++ left_of t number e (suc k)
        next_name = type_next t number (read_command e).area (read_command e).names k (omega (arith, names_length e, g.count))

        pub kind_sum : compared + r.comparisons < 4294967296
        kind_sum = omega (arith, limit, g.few, tried.few)

        pub kind_taken : (r.entry ≡ 0 → ⊥) → (x : Tried) → x ≡ tried_behind compared r → Tries (sheet_area s) words (all_of t number e) 128 m₀ p₀ m' x
        kind_taken z x q =
            rw q (passed_taken _ _ _ m₀ p₀ _ compared m p g.passed _ _ next_name 1 m' r tried z 128 (omega (arith, limit, g.few, tried.few)))

        pub kind_next : r.entry ≡ 0 → KindLoop e s words m₀ p₀ number t n m' r.numbers (compared + r.comparisons) (k + 1)
        kind_next z = record {
          start = g.start;
          count = g.count;
          few = omega (arith, g.few, tried.few);
          within = omega arith;
          passed = rw (add-one k) (passed_more _ _ _ m₀ p₀ _ compared m p g.passed _ _ next_name 1 m' r tried z);
        }

-- ---- the names of an entry
module _ (e s words m : List ℕ) (p : Numbers) (number : ℕ) (can : CanTry e s words m p number) (m₁ : List ℕ) (long : Tried)
    (longs : Tries (sheet_area s) words (all_of 1 number e) 128 m p m₁ long) where
  all_left : Passed (sheet_area s) words (candidates_of number (read_command e)) (all_of 1 number e ++ all_of 0 number e) m p 0 m p
  all_left = passed_none _ _ _ m p _ (entry_both number (read_command e)) can.state.fine

  pub entry_long : (long.entry ≡ 0 → ⊥) → Tries (sheet_area s) words (candidates_of number (read_command e)) 256 m p m₁ long
  entry_long z =
      rw (zero-add long.comparisons) at (passed_taken _ _ _ m p _ 0 m p all_left _ _ refl 128 m₁ long longs z 256 (omega (arith, longs.few)))

  module _ (z : long.entry ≡ 0) where
    pub entry_can : CanTry e s words m₁ long.numbers number
    entry_can = can_again e s words m p number can m₁ long.numbers longs.left

    module _ (m₂ : List ℕ) (short : Tried) (shorts : Tries (sheet_area s) words (all_of 0 number e) 128 m₁ long.numbers m₂ short) where
      longs_passed : Passed (sheet_area s) words (candidates_of number (read_command e)) (all_of 0 number e) m p long.comparisons m₁ long.numbers
      longs_passed = rw (zero-add long.comparisons) at (passed_more _ _ _ m p _ 0 m p all_left _ _ refl 128 m₁ long longs z)

      pub entry_sum : long.comparisons + short.comparisons < 4294967296
      entry_sum = omega (arith, longs.few, shorts.few)

      pub entry_short : (x : Tried) → x ≡ tried_behind long.comparisons short
          → Tries (sheet_area s) words (candidates_of number (read_command e)) 256 m p m₂ x
      entry_short x q =
          rw q (passed_then _ _ _ m p _ long.comparisons m₁ long.numbers longs_passed 128 m₂ short shorts 256 (omega (arith, longs.few, shorts.few)))

-- ---- the names of a table
pub record TableLoop (t s words m₀ : List ℕ) (p₀ : Numbers) (n : ℕ) (m : List ℕ) (p : Numbers) (compared k : ℕ) : Type 0 where
  pub table : HasCommands t
  pub made : sheet_fault s ≡ 0
  pub start : CanTake (sheet_area s) words m₀ p₀ command_mark
  pub count : n ≡ entry_count t
  pub few : compared ≤ 256 * k
  pub within : k ≤ n
  pub passed : Passed (sheet_area s) words (candidates_from 0 table.commands) (candidates_from k (drop k table.commands)) m₀ p₀ compared m p

module _ (t s words m₀ : List ℕ) (p₀ : Numbers) (n : ℕ) where
  pub table_head : HasCommands t → 2 ≤ length t
  table_head h = let o = good_offsets t (table_offsets t h.commands h.reads) in omega (arith, o.long, o.least)

  pub table_first : HasCommands t → sheet_fault s ≡ 0 → CanTake (sheet_area s) words m₀ p₀ command_mark → n ≡ entry_count t
      → TableLoop t s words m₀ p₀ n m₀ p₀ 0 0
  table_first h made can c = record {
    table = h;
    made = made;
    start = can;
    count = c;
    few = omega arith;
    within = omega arith;
    passed = passed_none _ _ _ m₀ p₀ _ refl can.fine;
  }

  module _ (m : List ℕ) (p : Numbers) (compared k : ℕ) (g : TableLoop t s words m₀ p₀ n m p compared k) where
    abbrev cs : List Command
    cs = g.table.commands

    abbrev reads : table_in t ≡ ok cs
    reads = g.table.reads

    many : n ≤ 32
    many = omega (arith, g.count, (good_offsets t (table_offsets t cs reads)).most)

    -- however it is said which commands they are
    told_names : (m' : List ℕ) (r : Tried) → Tries (sheet_area s) words (candidates_from 0 cs) 8192 m₀ p₀ m' r
        → (ds : List Command) → table_in t ≡ ok ds → TriesNames (sheet_area s) words ds m₀ p₀ m' r
    told_names m' r h ds q =
        subst (λ (l : List Command). TriesNames (sheet_area s) words l m₀ p₀ m' r) (ok_injective (sym reads ∙ q))
        (tries_all (sheet_area s) words cs 8192 m₀ p₀ m' r h)

    pub table_end : n ≤ k → (r : Tried) → r ≡ none_taken compared p
        → (ds : List Command) → table_in t ≡ ok ds → TriesNames (sheet_area s) words ds m₀ p₀ m r
    unfolding candidates_from
    table_end l r q =
        let none_left : drop k cs ≡ [] = drop_of_length-le cs {i = k} (omega (arith, g.count, commands_count t cs reads)) in
        told_names m r
        (rw q
        (passed_all _ _ _ m₀ p₀ _ compared m p g.passed (ap (candidates_from k) none_left) 8192 (omega (arith, many, g.few, g.within))))

    module _ (l : k < n) where
      pub table_entry : HasEntry t k
      table_entry = record { good = table_offsets t cs reads; below = omega (arith, g.count) }

      module _ (e : List ℕ) (entry : e ≡ entry_of 4 (entry_count t) t k) where
        command : get_elem? cs k ≡ some (read_command e)
        command = rw entry (command_there t cs reads k (omega (arith, g.count)))

        pub table_can : CanTry e s words m p k
        table_can =
            let all-good = all_true entry_good (table_entries t) (table_entries_lem t cs reads) in
            let there = entry_there t k (omega (arith, g.count)) in
            record {
              good = rw entry (All-at _ (table_entries t) k _ all-good there);
              made = g.made;
              state = take_again (sheet_area s) words m₀ p₀ command_mark m p g.start g.passed.state;
              low = omega (arith, many);
            }

        module _ (m' : List ℕ) (r : Tried) (tried : Tries (sheet_area s) words (candidates_of k (read_command e)) 256 m p m' r) where
          next_entry : candidates_from k (drop k cs) ≡ candidates_of k (read_command e) ++ candidates_from (suc k) (drop (suc k) cs)
          next_entry = entries_next cs k (read_command e) command

          pub table_sum : compared + r.comparisons < 4294967296
          table_sum = omega (arith, many, g.few, tried.few)

          pub table_taken : (r.entry ≡ 0 → ⊥) → (x : Tried) → x ≡ tried_behind compared r
              → (ds : List Command) → table_in t ≡ ok ds → TriesNames (sheet_area s) words ds m₀ p₀ m' x
          table_taken z x q =
              told_names m' x
              (rw q
              (passed_taken _ _ _ m₀ p₀ _ compared m p g.passed _ _ next_entry 256 m' r tried z 8192 (omega (arith, many, g.few, tried.few))))

          pub table_next : r.entry ≡ 0 → TableLoop t s words m₀ p₀ n m' r.numbers (compared + r.comparisons) (k + 1)
          table_next z = record {
            table = g.table;
            made = g.made;
            start = g.start;
            count = g.count;
            few = omega (arith, g.few, tried.few);
            within = omega arith;
            passed = rw (add-one k) (passed_more _ _ _ m₀ p₀ _ compared m p g.passed _ _ next_entry 256 m' r tried z);
          }
