-- What holds of every joining.
use Rattle.std.specs.Prelude.{◌&&◌, List, ◌++◌, map, ◌⊎◌, ◌≡◌, ℕ, ◌-◌, ◌≤◌, ◌<◌, length, replicate}
use Rattle.std.proofs.Math.Option.{none}
use Rattle.rules.specs.Form.{Form, portable}
use Rattle.rules.specs.Tree.{Tree, kind_of}
use Rattle.rules.specs.Accept.{Accepted, accepted, refused_at, check_form, letters_of}
use Rattle.rules.specs.Split.{Item}
use Rattle.rules.specs.State.{State}
use Rattle.rules.specs.Eval.{eval}
use Rattle.rules.specs.Run.{run}
use Rattle.rules.specs.Encode.{encode_form}
use Rattle.rules_join.specs.Join.{Moves, moves_behind, join_forms, move_tree, move_value, move_ran, letters_of_both, run_two, JoinReport}

-- The evaluation of a moved tree is the moved evaluation, whatever the mark, the items and the state: the same state and tries, the
-- trace, the value and the list moved. And its kind is the one it had
pub record TreeMoved (d : Moves) (t : Tree) : Type 0 where
  pub kind : kind_of (move_tree d t) ≡ kind_of t
  pub eval : (mark : ℕ) (is : List Item) (s : State) → eval mark is (move_tree d t) s ≡ move_ran d (move_value d) (eval mark is t s)

-- the joined form, accepted: the trees of the first and then the moved trees of the second, as nodes and as fields
unfoldable pub joined_accepted : Accepted → Accepted → Accepted
joined_accepted a b = record {
  form = join_forms a b;
  trees = a.trees ++ map (move_tree (moves_behind a.form)) b.trees;
  fields = a.fields ++ map (move_tree (moves_behind a.form)) b.fields;
}

-- two accepted forms whose join is in all limits
pub record LimitsKept (f : Form) : Type 0 where
  pub nodes : length f.nodes ≤ 64
  pub fields : length f.fields ≤ 16
  pub names : length f.names ≤ 128
  pub area : length f.area ≤ 4096

pub record Joins (a b : Accepted) : Type 0 where
  -- it passes the form check
  pub accepts : check_form (encode_form (join_forms a b)) ≡ accepted (joined_accepted a b)
  -- the kind of each field is the one it had
  pub kinds : map kind_of (joined_accepted a b).fields ≡ map kind_of a.fields ++ map kind_of b.fields
  pub letters : letters_of (join_forms a b) ≡ letters_of_both a.form b.form
  pub portable : portable (join_forms a b) ≡ (portable a.form && portable b.form)
  -- its run is the run of both
  pub run : (s : List ℕ) (ni na nl : ℕ) → run (encode_form (join_forms a b)) s ni na nl ≡ run_two a b s ni na nl

-- no form: length 0, and the whole output 0
pub record Cleared (n : ℕ) (r : JoinReport) : Type 0 where
  pub size : r.length ≡ 0
  pub output : r.output ≡ replicate n 0

-- a form, and 0 to the end of the output
pub record Written (n : ℕ) (b : List ℕ) (r : JoinReport) : Type 0 where
  pub size : r.length ≡ length b
  pub fits : length b ≤ 5928
  pub output : r.output ≡ b ++ replicate (n - length b) 0

-- Every two forms, of bytes, and every output are answered in one of four ways
pub data JoinAnswered (x y : List ℕ) (n : ℕ) (r : JoinReport) : Type 0 where
  -- 1 to 4 of the first form
  first_refused : check_form x ≡ refused_at r.number r.place → r.form ≡ 1 → Cleared n r → JoinAnswered x y n r
  -- then of the second
  second_refused :
      (a : Accepted) → check_form x ≡ accepted a → check_form y ≡ refused_at r.number r.place → r.form ≡ 2 → Cleared n r
      → JoinAnswered x y n r
  -- then 18
  too_large :
      (a b : Accepted) → check_form x ≡ accepted a → check_form y ≡ accepted b
      → r.number ≡ 18 → r.place ≡ none → r.form ≡ 0
      → (LimitsKept (join_forms a b) → ⊥) ⊎ (n < 5928)
      → Cleared n r
      → JoinAnswered x y n r
  joined_form :
      (a b : Accepted) → check_form x ≡ accepted a → check_form y ≡ accepted b
      → r.number ≡ 0 → r.place ≡ none → r.form ≡ 0
      → LimitsKept (join_forms a b) → 5928 ≤ n
      → Written n (encode_form (join_forms a b)) r
      → Joins a b
      → JoinAnswered x y n r
