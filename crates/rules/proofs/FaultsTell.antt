-- What is at fault tells the refusal: its number and place are reported, and no others.
use mathlib.Core.Bool.{Bool, true, false, true≢false}
use mathlib.Core.List.{List, [], ◌∷◌}
use mathlib.Core.Logic.{◌⊎◌, inl, inr}
use mathlib.Core.Option.{Option, some, none, some-injective, none-ne-some}
use mathlib.Core.Path.{◌≡◌, refl, sym, ap, ◌∙◌, subst}
use Prim.Native.Nat.{ℕ, zero, suc, ◌+◌, ◌≤◌, ◌<◌}
use native.Mathlib.Nat.{zero-add}
use native.Mathlib.Omega.{arith}
use borrow.Author.Tests.{eq-eqb, eqb-true, lt-ltb, le-ltb, ltb-true, ltb-false}
use lib.Dec.{ltb}
use lib.ListN.{length, take, get_elem?}
use Rattle.rules.specs.Base.{occurrences, numbers, first_fault}
use Rattle.rules.specs.Outcome.{ok, refused, Refusal, ◌>>=◌, refuse}
use Rattle.rules.specs.Sheet.{argument_count, sheet_good, sheet_fault}
use Rattle.rules.specs.Form.{Name, Form, node_count, read_form, name_good}
use Rattle.rules.specs.Tree.{Tree}
use Rattle.rules.specs.Accept.{Checked, accepted, refused_at, Accepted, length_good, trees_from, uses, used_once, trees_at, check_use, check_records, check_form}
use Rattle.rules.specs.Split.{Split, items_of}
use Rattle.rules.specs.Eval.{ended}
use Rattle.rules.specs.Run.{Line, too_many, line_of, refused_input, Report, report, report_with, split, run_line, run}
use Rattle.rules.specs.Demands.{All}
use Rattle.rules.specs.WellMade.{NameMade, NodesMade, CountsMade, SheetMade}
use Rattle.rules.specs.Answered.{FormFault, bad_counts, bad_name, bad_node, bad_field, bad_use, SheetFault, many_arguments, bad_sheet, Splits, AtFault, bad_form, sheet_at_fault}
use Rattle.rules.specs.Answered.{short_slice, short_list}
use Rattle.rules.specs.Answered.{many_items, ambiguous_letter}
use Rattle.rules.proofs.Acceptance.{All-at, good_no_fault, no_fault, numbers_all, if_true, if_false, lookup_inside, accepted_form}
use Rattle.rules.proofs.Uses.{used_once_lem}
use Rattle.rules.proofs.WellMadeLaws.{length_counts, counts_length, name_made, each_good, node_count_lem, trees_count, nodes_made, nodes_trees, fields_made, fields_is, first_number}
use Rattle.rules.proofs.WellMadeLaws.{trees_refused, lower_made, next_not_made, made_accepted}
use Rattle.rules.proofs.SheetLaws.{sheet_made, made_sheet}
use Rattle.rules.proofs.InputFaults.{stopped, few_line}
use Rattle.rules.proofs.GivenLaws.{run_form, run_sheet, run_short, run_cramped, run_unlisted, run_goes}
use Rattle.rules.proofs.SplitLaws.{ok_injective}

-- ---- the form
fault_first :
    {A : Type 0} (p : A → Bool) (j : ℕ) (l : List A) (k : ℕ) (x : A)
    → All (λ (a : A). p a ≡ true) (take k l)
    → get_elem? l k ≡ some x
    → p x ≡ false
    → first_fault p j l ≡ some (j + k)
unfolding first_fault
fault_first p j [] k x a e f = absurd (none-ne-some x e)
fault_first p j (y ∷ l) zero x a e f =
    let here : p y ≡ false = ap p (some-injective y x e) ∙ f in
    rw here (ap {B = Option ℕ} some (omega arith))
fault_first p j (y ∷ l) (suc k) x a e f = rw a.0 (fault_first p (suc j) l k x a.1 e f ∙ ap {B = Option ℕ} some (omega arith))

fewer_made : (f : Form) (n m : ℕ) → m ≤ n → NodesMade f n → NodesMade f m
fewer_made f n m h w = record { kind = w.kind; repeats = w.repeats; each = λ k x l e. w.each k x (omega arith) e }

-- of two numbers that neither is below the other
pub same_number : (n m : ℕ) → (n < m → ⊥) → (m < n → ⊥) → n ≡ m
same_number n m h k = omega arith

nodes_refused :
    (f : Form) (k : ℕ)
    → NodesMade f k
    → (NodesMade f (suc k) → ⊥)
    → trees_from f [] f.nodes ≡ refused_at 3 (some k)
nodes_refused f k w bad = go (trees_from f [] f.nodes) refl
  where
    go : (c : Checked (List Tree)) → trees_from f [] f.nodes ≡ c → c ≡ refused_at 3 (some k)
    go (accepted ts) e = absurd (bad (nodes_made f f.nodes ts (suc k) e (λ j x l h. h)))
    go (refused_at m j) e =
        let r = trees_refused f [] f.nodes m j e in
        let i = r.at in
        let below = lower_made f r.node r.trees i r.stands r.lower in
        let not = next_not_made f r.node r.trees i r.stands r.lower r.fails in
        let same = same_number i k (λ l. not (fewer_made f k (suc i) (omega arith) w)) (λ l. bad (fewer_made f i (suc k) (omega arith) below)) in
        rw (r.number, r.place ∙ ap {B = Option ℕ} some (zero-add i ∙ same))

uses_refused :
    (f : Form) (k n : ℕ)
    → k < n
    → (occurrences k (uses f) ≡ 1 → ⊥)
    → ((j : ℕ) → j < k → occurrences j (uses f) ≡ 1)
    → first_fault (used_once f) 0 (numbers n 0) ≡ some k
unfolding used_once
uses_refused f k n l bad lower = go (first_fault (used_once f) 0 (numbers n 0)) refl
  where
    go : (o : Option ℕ) → first_fault (used_once f) 0 (numbers n 0) ≡ o → o ≡ some k
    go none e =
        let once = used_once_lem f (numbers n 0) (no_fault (used_once f) 0 (numbers n 0) e) in
        absurd (bad (numbers_all (λ (k : ℕ). occurrences k (uses f) ≡ 1) n 0 once k (omega arith) (omega arith)))
    go (some i) e =
        let (a, b, c, d) = first_number (used_once f) n 0 i e in
        let same = same_number i k
        (λ l. true≢false (sym (eq-eqb (occurrences i (uses f)) 1 (lower i l)) ∙ c))
        (λ l. bad (eqb-true (occurrences k (uses f)) 1 (d k (omega arith) l))) in
        ap {B = Option ℕ} some same

not_good : (area : List ℕ) (m : Name) → (NameMade area m → ⊥) → name_good area m ≡ false
not_good area m h = go (name_good area m) refl
  where
    go : (t : Bool) → name_good area m ≡ t → t ≡ false
    go true e = absurd (h (name_made area m e))
    go false e = refl

not_counts : (b : List ℕ) → (CountsMade b → ⊥) → length_good b ≡ false
not_counts b h = go (length_good b) refl
  where
    go : (t : Bool) → length_good b ≡ t → t ≡ false
    go true e = absurd (h (length_counts b e))
    go false e = refl

module _ (b : List ℕ) where
  counts_checked : CountsMade b → check_form b ≡ check_records (read_form b)
  unfolding check_form
  counts_checked c = if_true (length_good b) (check_records (read_form b)) (refused_at 1 none) (counts_length b c)

  module _ (c : CountsMade b) (names : All (NameMade (read_form b).area) (read_form b).names) where
    names_good : first_fault (name_good (read_form b).area) 0 (read_form b).names ≡ none
    names_good =
        good_no_fault (name_good (read_form b).area) 0 (read_form b).names (each_good (read_form b).area (read_form b).names names)

    trees_checked :
        (o : Checked (List Tree))
        → trees_from (read_form b) [] (read_form b).nodes ≡ o
        → check_form b ≡ (elim o [ refused_at n k ↦ refused_at n k | accepted ts ↦ check_use (read_form b) ts ])
    unfolding check_records
    trees_checked o e = counts_checked c ∙ rw (names_good, check_records, e)

    module _ (nodes : NodesMade (read_form b) (node_count b)) where
      all_trees : (ts : List Tree) × (trees_from (read_form b) [] (read_form b).nodes ≡ accepted ts)
      all_trees =
          let f = read_form b in
          let count = node_count_lem b in
          let (ts, e, known) =
          nodes_trees f f.nodes (node_count b) nodes (λ j x h. let l = lookup_inside f.nodes j x h in (omega arith, h)) in
          (ts, e)

      field_refused : (i k : ℕ) → get_elem? (read_form b).fields i ≡ some k → node_count b ≤ k → check_form b ≡ refused_at 4 none
      unfolding check_use
      field_refused i k at h =
          let (ts, e) = all_trees in
          trees_checked (accepted ts) e ∙ go ts e (trees_at ts (read_form b).fields) refl
        where
          go :
              (ts : List Tree)
              → trees_from (read_form b) [] (read_form b).nodes ≡ accepted ts
              → (o : Option (List Tree))
              → trees_at ts (read_form b).fields ≡ o
              → check_use (read_form b) ts ≡ refused_at 4 none
          go ts e none g = rw (g, check_use)
          go ts e (some us) g =
              let below = All-at (λ (k : ℕ). k < node_count b) (read_form b).fields i k (fields_made b ts us e g) at in
              absurd (omega arith)

      use_refused :
          (k : ℕ)
          → All (λ (j : ℕ). j < node_count b) (read_form b).fields
          → first_fault (used_once (read_form b)) 0 (numbers (length (read_form b).nodes) 0) ≡ some k
          → check_form b ≡ refused_at 4 (some k)
      unfolding check_use
      use_refused k fields once =
          let (ts, e) = all_trees in
          let ks = (read_form b).fields in
          let (us, g) = fields_is ts ks (subst (λ (n : ℕ). All (λ (k : ℕ). k < n) ks) (sym (trees_count b ts e)) fields) in
          trees_checked (accepted ts) e ∙ rw (g, once, check_use)

pub fault_checked : (b : List ℕ) (n : ℕ) (k : Option ℕ) → FormFault b n k → check_form b ≡ refused_at n k
unfolding check_form check_records
fault_checked b n k (bad_counts c) = if_false (length_good b) (check_records (read_form b)) (refused_at 1 none) (not_counts b c)
fault_checked b n k (bad_name i m c lower at bad) =
    let area = (read_form b).area in
    let ms = (read_form b).names in
    let e = fault_first (name_good area) 0 ms i m (each_good area (take i ms) lower) at (not_good area m bad) in
    counts_checked b c ∙ rw (e, check_records, zero-add i)
fault_checked b n k (bad_node i c names lower bad) = trees_checked b c names (refused_at 3 (some i)) (nodes_refused (read_form b) i lower bad)
fault_checked b n k (bad_field i j c names nodes at h) = field_refused b c names nodes i j at h
fault_checked b n k (bad_use i c names nodes fields l bad lower) =
    use_refused b c names nodes i fields (uses_refused (read_form b) i (length (read_form b).nodes) (omega (arith, l, node_count_lem b)) bad lower)

-- ---- the sheet
fault_sheet : (s : List ℕ) (n : ℕ) → SheetFault s n → (sheet_fault s ≡ n) × (0 < n)
unfolding sheet_fault
fault_sheet s n (many_arguments c h) = (rw (le-ltb (length s) 2 c, lt-ltb 256 (argument_count s) h), omega arith)
fault_sheet s n (bad_sheet bad few) = (short (ltb (length s) 2) refl, omega arith)
  where
    good : ltb (length s) 2 ≡ false → (t : Bool) → sheet_good s ≡ t → sheet_fault s ≡ 5
    good p true q =
        let small = le-ltb 256 (argument_count s) (few (ltb-false (length s) 2 p)) in
        absurd (bad (sheet_made s (rw (p, small, q))))
    good p false q =
        let small = le-ltb 256 (argument_count s) (few (ltb-false (length s) 2 p)) in
        rw (p, small, q)

    short : (t : Bool) → ltb (length s) 2 ≡ t → sheet_fault s ≡ 5
    short true p = rw p
    short false p = good p (sheet_good s) refl

-- ---- the run
-- how it is refused
record Refused (b s : List ℕ) (ni na nl n : ℕ) (k : Option ℕ) : Type 0 where
  report : Report
  answered : run b s ni na nl ≡ ok report
  number : report.number ≡ n
  place : report.place ≡ k

module _ (b s : List ℕ) (ni na nl : ℕ) where
  input_told : (n : ℕ) (k : Option ℕ) → run b s ni na nl ≡ ok (refused_input ni na nl n k) → Refused b s ni na nl n k
  unfolding refused_input
  input_told n k e = record { report = refused_input ni na nl n k; answered = e; number = refl; place = refl }

  module _ (a : Accepted) (form : check_form b ≡ accepted a) where
    sheet_told : (n : ℕ) → SheetFault s n → Refused b s ni na nl n none
    sheet_told n x =
        let (e, h) = fault_sheet s n x in
        input_told n none (run_sheet b s ni a form (λ z. omega arith) na nl ∙ ap (λ (m : ℕ). ok (refused_input ni na nl m none)) e)

    module _ (sheet : SheetMade s) where
      items_told : ni < 1792 → Refused b s ni na nl 7 none
      items_told h = input_told 7 none (run_short b s ni a form (made_sheet s sheet) h na nl)

      slice_told : (ni < 1792) ⊎ (na < 8240) → Refused b s ni na nl 7 none
      slice_told (inl h) = items_told h
      slice_told (inr h) = go (ltb ni 1792) refl
        where
          go : (t : Bool) → ltb ni 1792 ≡ t → Refused b s ni na nl 7 none
          go true e = items_told (ltb-true ni 1792 e)
          go false e = input_told 7 none (run_cramped b s ni a form (made_sheet s sheet) (ltb-false ni 1792 e) na nl h)

      list_told_lem : 1792 ≤ ni → 8240 ≤ na → nl < 192 → Refused b s ni na nl 14 none
      list_told_lem items answers h = input_told 14 none (run_unlisted b s ni a form (made_sheet s sheet) items na nl answers h)

      line_told :
          (l : Line) (e : Refusal)
          → 1792 ≤ ni
          → 8240 ≤ na
          → 192 ≤ nl
          → split (read_form b) s ≡ ok l
          → l.refusal ≡ some e
          → Refused b s ni na nl e.number e.place
      unfolding report report_with run_line ended ◌>>=◌
      line_told l e items answers list h u = record {
        report = report_with ni na nl l (ended (refused e) l.state) e.number e.place [] e.missing;
        answered = run_goes b s ni a form (made_sheet s sheet) items na nl answers list ∙ rw (accepted_form b a form, h, u, run_line);
        number = refl;
        place = refl;
      }

-- what is split
many_split : (b s : List ℕ) (x : Split) → Splits b s x → 256 < length (items_of x) → split (read_form b) s ≡ ok too_many
unfolding split line_of ◌>>=◌
many_split b s x h many = rw (h, lt-ltb 256 (length (items_of x)) many)

few_split :
    (b s : List ℕ) (x : Split) (i : ℕ)
    → Splits b s x
    → length (items_of x) ≤ 256
    → x.ambiguous ≡ some i
    → split (read_form b) s ≡ ok (stopped s x i)
unfolding split ◌>>=◌
few_split b s x i h few a = rw h (few_line b s x i h few a)

faults_told : (b s : List ℕ) (ni na nl n : ℕ) (k : Option ℕ) → AtFault b s ni na nl n k → Refused b s ni na nl n k
unfolding too_many
faults_told b s ni na nl n k (bad_form m j x) = input_told b s ni na nl m j (run_form b s ni m j (fault_checked b m j x) na nl)
faults_told b s ni na nl n k (sheet_at_fault m w x) = let (a, e) = made_accepted b w in sheet_told b s ni na nl a e m x
faults_told b s ni na nl n k (short_slice w sheet h) = let (a, e) = made_accepted b w in slice_told b s ni na nl a e sheet h
faults_told b s ni na nl n k (short_list w sheet items answers h) =
    let (a, e) = made_accepted b w in
    list_told_lem b s ni na nl a e sheet items answers h
faults_told b s ni na nl n k (many_items x w sheet items answers list h many) =
    let (a, e) = made_accepted b w in
    line_told b s ni na nl a e sheet too_many (refuse 8 none) items answers list (many_split b s x h many) refl
faults_told b s ni na nl n k (ambiguous_letter x i w sheet items answers list h few u) =
    let (a, e) = made_accepted b w in
    line_told b s ni na nl a e sheet (stopped s x i) (refuse 9 (some i)) items answers list (few_split b s x i h few u) refl

-- what is at fault is the number and the place that is reported
pub fault_told :
    (b s : List ℕ) (ni na nl : ℕ) (r : Report)
    → run b s ni na nl ≡ ok r
    → (n : ℕ) (k : Option ℕ)
    → AtFault b s ni na nl n k
    → (r.number ≡ n) × (r.place ≡ k)
fault_told b s ni na nl r e n k x =
    let t = faults_told b s ni na nl n k x in
    let same = ok_injective (sym e ∙ t.answered) in
    (ap (λ (r : Report). r.number) same ∙ t.number, ap (λ (r : Report). r.place) same ∙ t.place)
