-- Document 02's joining of two forms: the first's nodes, names and fields, then the second's with every reference moved up; and the
-- run of both on one line.
use Rattle.std.specs.Prelude.{Bool, false, ◌&&◌, List, [], ◌∷◌, ◌++◌, map, ℕ, ◌+◌, leb, eqb, length}
use Rattle.std.proofs.Math.Option.{Option, some, none}
use Rattle.std.specs.Prelude.{if◌then◌else◌}
use Rattle.rules.specs.Outcome.{Outcome, ok, refused, fault, ◌>>=◌, MissingItem, Refusal}
use Rattle.rules.specs.Value.{Kind, one, text, item, name, BaseValue, is_yes, is_text, is_number, Value, base, absent, present, nil, cons}
use Rattle.rules.specs.Sheet.{arguments}
use Rattle.rules.specs.Form.{Node, Name, Form}
use Rattle.rules.specs.Tree.{Tree, Flag, Argument, Positional, Optional, Many, Some, Count, Last, Choice, Fallback, Guard, same_kind, kind_of}
use Rattle.rules.specs.Accept.{Accepted, accepted, refused_at, check_form, Letters, letters_of}
use Rattle.rules.specs.Split.{Item, split_from}
use Rattle.rules.specs.State.{State, first}
use Rattle.rules.specs.Eval.{Visit, Ran, ended, ◌then◌}
use Rattle.rules.specs.Given.{sheet_in, room_in, list_room_in}
use Rattle.rules.specs.Run.{Line, line_of, run_fields, left_over, Report, padded, refused_input, report}
use Rattle.rules.specs.Encode.{encode_form}

-- ---- the form
-- How far the second's numbers move up: by the nodes, the names and the area of the first
pub record Moves : Type 0 where
  pub nodes : ℕ
  pub names : ℕ
  pub area : ℕ

unfoldable pub moves_behind : Form → Moves
moves_behind f = record { nodes = length f.nodes; names = length f.names; area = length f.area }

-- a name's bytes stand behind the first's area
unfoldable pub move_name : Moves → Name → Name
move_name d m = record { type = m.type; offset = d.area + m.offset; size = m.size }

unfoldable pub is_text_kind : Option Kind → Bool
is_text_kind none = false
is_text_kind (some k) = same_kind (one text) k

-- p is the first name of a flag or an argument (kinds 1 and 2), says which words a positional takes (3), and else is a child
unfoldable pub move_p : Moves → Node → ℕ
move_p d x = if leb x.kind 2 then d.names + x.p else (if eqb x.kind 3 then x.p else d.nodes + x.p)

-- q is a child of a choice (9) alone
unfoldable pub move_q : Moves → Node → ℕ
move_q d x = if eqb x.kind 9 then d.nodes + x.q else x.q

-- r is a name of a fallback (10) whose value is a text, 0 too
unfoldable pub move_r : Moves → Option Kind → Node → ℕ
move_r d k x = if eqb x.kind 10 && is_text_kind k then d.names + x.r else x.r

-- a node, by its kind and the kind of its value
unfoldable pub move_node : Moves → Option Kind → Node → Node
move_node d k x = record { kind = x.kind; p = move_p d x; q = move_q d x; r = move_r d k x; lo = x.lo; hi = x.hi }

-- nodes and their trees, which tell the kinds
unfoldable pub move_nodes : Moves → List Tree → List Node → List Node
move_nodes d [] xs = []
move_nodes d (t ∷ ts) [] = []
move_nodes d (t ∷ ts) (x ∷ xs) = move_node d (kind_of t) x ∷ move_nodes d ts xs

unfoldable pub join_by : Moves → Accepted → Accepted → Form
join_by d a b = record {
  fields = a.form.fields ++ map (λ k. d.nodes + k) b.form.fields;
  nodes = a.form.nodes ++ move_nodes d b.trees b.form.nodes;
  names = a.form.names ++ map (move_name d) b.form.names;
  area = a.form.area ++ b.form.area;
}

unfoldable pub join_forms : Accepted → Accepted → Form
join_forms a b = join_by (moves_behind a.form) a b

-- ---- what moves up in trees, values, lists and what is kept of an evaluation
unfoldable pub move_base : Moves → BaseValue → BaseValue
move_base d (is_yes b) = is_yes b
move_base d (is_text (item i)) = is_text (item i)
move_base d (is_text (name k)) = is_text (name (d.names + k))
move_base d (is_number n) = is_number n

unfoldable pub move_tree : Moves → Tree → Tree
move_tree d (Flag n m w) = Flag (d.nodes + n) m w
move_tree d (Argument n m b a) = Argument (d.nodes + n) m b a
move_tree d (Positional n p b) = Positional (d.nodes + n) p b
move_tree d (Optional c t) = Optional c (move_tree d t)
move_tree d (Many c t) = Many c (move_tree d t)
move_tree d (Some c t) = Some c (move_tree d t)
move_tree d (Count t) = Count (move_tree d t)
move_tree d (Last t) = Last (move_tree d t)
move_tree d (Choice t u) = Choice (move_tree d t) (move_tree d u)
move_tree d (Fallback v t) = Fallback (move_base d v) (move_tree d t)
move_tree d (Guard l h t) = Guard l h (move_tree d t)

unfoldable pub move_value : Moves → Value → Value
move_value d (base v) = base (move_base d v)
move_value d absent = absent
move_value d (present v) = present (move_value d v)
move_value d nil = nil
move_value d (cons v w) = cons (move_value d v) (move_value d w)

unfoldable pub move_missing : Moves → MissingItem → MissingItem
move_missing d x = record { node = d.nodes + x.node; start = x.start; end = x.end }

unfoldable pub move_refusal : Moves → Refusal → Refusal
move_refusal d e = record { number = e.number; place = e.place; missing = map (move_missing d) e.missing }

unfoldable pub move_outcome : {A B : Type 0} → Moves → (A → B) → Outcome A → Outcome B
move_outcome d f (ok v) = ok (f v)
move_outcome d f (refused e) = refused (move_refusal d e)
move_outcome d f (fault x) = fault x

-- states and kinds stay
unfoldable pub move_visit : Moves → Visit → Visit
move_visit d v = record { kind = v.kind; given = v.given; outcome = move_outcome d (move_value d) v.outcome; left = v.left }

unfoldable pub move_ran : {A B : Type 0} → Moves → (A → B) → Ran A → Ran B
move_ran d f r = record {
  outcome = move_outcome d f r.outcome;
  state = r.state;
  tries = r.tries;
  trace = map (move_visit d) r.trace;
}

-- ---- the run of both
-- the sheet is split with the short names of both
unfoldable pub letters_of_both : Form → Form → Letters
letters_of_both f g = record {
  flags = (letters_of f).flags ++ (letters_of g).flags;
  arguments = (letters_of f).arguments ++ (letters_of g).arguments;
}

unfoldable pub split_both : Form → Form → List ℕ → Outcome Line
split_both f g s = split_from (letters_of_both f g) 0 (arguments s) >>= line_of (arguments s)

-- the first's fields and then the second's, numbered on, on the same state; what the second tells moves up; 27 once, at the end
unfoldable pub run_both : Accepted → Accepted → List Item → State → Ran (List Value)
run_both a b is s =
    run_fields 0 is a.fields s then λ vs t.
    move_ran (moves_behind a.form) (map (move_value (moves_behind a.form))) (run_fields (length a.fields) is b.fields t) then λ ws u.
    ended (first is u >>= left_over (vs ++ ws)) u

unfoldable pub run_line_both : Accepted → Accepted → Line → Ran (List Value)
run_line_both a b l = elim l.refusal [ some e ↦ ended (refused e) l.state | none ↦ run_both a b l.items l.state ]

-- what a run of both reports: sheet bytes, and the lengths of the item slice, the answer slice and the list slice
unfoldable pub run_two : Accepted → Accepted → List ℕ → ℕ → ℕ → ℕ → Outcome Report
run_two a b s ni na nl = elim (sheet_in s >>= λ _. room_in 1792 ni >>= λ _. room_in 8240 na >>= λ _. list_room_in nl) [
  | ok _ ↦ split_both a.form b.form s >>= λ l. report ni na nl l (run_line_both a b l)
  | refused e ↦ ok (refused_input ni na nl e.number e.place)
  | fault x ↦ fault x
]

-- ---- what is reported: 0, 1 to 4 of the form at fault (1 or 2, else 0), or 18; the joined form, and its length
pub record JoinReport : Type 0 where
  pub number : ℕ
  pub place : Option ℕ
  pub length : ℕ
  pub form : ℕ
  pub output : List ℕ

-- a form, and 0 to the end of an output of n bytes
unfoldable pub joined : ℕ → Form → JoinReport
joined n f = record { number = 0; place = none; length = length (encode_form f); form = 0; output = padded n (encode_form f) }

unfoldable pub not_joined : ℕ → (number : ℕ) → Option ℕ → (form : ℕ) → JoinReport
not_joined n number place form = record { number = number; place = place; length = 0; form = form; output = padded n [] }

-- nodes up to 64, fields up to 16, names up to 128, area up to 4,096
unfoldable pub in_limits : Form → Bool
in_limits f =
    leb (length f.nodes) 64 && (leb (length f.fields) 16 && (leb (length f.names) 128 && leb (length f.area) 4096))

-- 18: a limit would be passed, or the output is under 8 + 2 × 16 + 16 × 64 + 6 × 128 + 4,096 bytes
unfoldable pub join_into : ℕ → Form → JoinReport
join_into n f = if in_limits f && leb 5928 n then joined n f else not_joined n 18 none 0

-- first form, second form, and the length of the output
unfoldable pub join : (first second : List ℕ) → ℕ → JoinReport
join x y n = elim (check_form x) [
  | refused_at k p ↦ not_joined n k p 1
  | accepted a ↦ elim (check_form y) [
    | refused_at k p ↦ not_joined n k p 2
    | accepted b ↦ join_into n (join_forms a b)
  ]
]
