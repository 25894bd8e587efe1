-- What holds of a careful run: what it accepts is read as it looks.
use Rattle.std.specs.Prelude.{true, false, List, [], ◌∷◌, ◌⊎◌, ◌≡◌, ℕ, suc, ◌≤◌, ◌<◌, take, replicate}
use Rattle.std.proofs.Math.Option.{some, none}
use Rattle.std.proofs.Math.ListN.{get_elem?}
use Rattle.utf8.specs.Utf8.{well_formed}
use Rattle.rules.specs.Base.{same}
use Rattle.rules.specs.Outcome.{ok}
use Rattle.rules.specs.Sheet.{arguments}
use Rattle.rules.specs.Form.{read_form}
use Rattle.rules.specs.Accept.{Letters, letters_of}
use Rattle.rules.specs.Split.{Item, Word, dash, before_equals, behind_equals, Split, split_from, items_of}
use Rattle.rules.specs.Run.{Report, run}
use Rattle.rules.specs.Demands.{has_marker}
use Rattle.rules.specs.Why.{is_name}
use Rattle.rules.specs.WhyAnswered.{HasUnknown, Withdrawn}
use Rattle.rules_careful.specs.Careful.{looks_like_options, is_misread, CarefulReport, careful}

-- ---- an argument that looks like options
-- before the first `--`, and it is none itself
pub record LooksLike (args : List (List ℕ)) (k : ℕ) (os : List ℕ) : Type 0 where
  pub there : get_elem? args k ≡ some os
  pub before : has_marker (take k args) ≡ false
  pub other : same os (dash ∷ dash ∷ []) ≡ false
  pub looks : looks_like_options os ≡ true

-- it was read as options: its first item is a Short or a Long
pub record ReadAsOptions (x : Split) (k : ℕ) : Type 0 where
  pub first : Item
  pub more : List Item
  pub group : get_elem? x.groups k ≡ some (first ∷ more)
  pub option : is_name first ≡ true

-- ---- a name that is not UTF-8
pub data BadName : List ℕ → Type 0 where
  long_name : (s : List ℕ) → well_formed (before_equals s) ≡ false → BadName (dash ∷ dash ∷ s)
  short_name : (b : ℕ) (s : List ℕ) → (b ≡ dash → ⊥) → behind_equals s ≡ none → well_formed (b ∷ s) ≡ false → BadName (dash ∷ b ∷ s)
  short_value : (b : ℕ) (s v : List ℕ) → (b ≡ dash → ⊥) → behind_equals s ≡ some v → well_formed (b ∷ []) ≡ false → BadName (dash ∷ b ∷ s)

-- ---- what is refused with 50
-- a sheet that is split by these letters and looked at from a place on, the report of its run, and what is reported instead
pub record Misread (l : Letters) (from : ℕ) (s : List ℕ) (na nl : ℕ) (r x : Report) (letter : ℕ) : Type 0 where
  pub accepted : r.number ≡ 0
  pub given : Split
  pub splits : split_from l 0 (arguments s) ≡ ok given
  -- the lowest place, of an argument that looks like options, is one Word
  pub argument : ℕ
  pub text : List ℕ
  pub looks : LooksLike (arguments s) argument text
  pub group : get_elem? given.groups argument ≡ some (Word text ∷ [])
  pub place : ℕ
  pub told : x.place ≡ some place
  pub item : get_elem? (items_of given) place ≡ some (Word text)
  pub behind : from ≤ place
  pub lowest : (i : ℕ) → from ≤ i → i < place → is_misread (arguments s) given.groups i ≡ false
  -- why: a letter that no option has, or a name that is not UTF-8
  pub unknown : (c : ℕ) → letter ≡ suc c → HasUnknown l text c × Withdrawn l text
  pub not_utf8 : letter ≡ 0 → BadName text
  -- what is left
  pub tries : x.tries ≡ r.tries
  pub words : x.words ≡ []
  pub state : x.state ≡ r.state
  pub items : x.items ≡ r.items
  pub answers : x.answers ≡ replicate na 0
  pub list : x.list ≡ replicate nl 0

-- every input is answered: with 50, or as the run answers; and accepted, every argument that looks like options was read as options
pub record Looks (b s : List ℕ) (ni na nl : ℕ) : Type 0 where
  pub report : Report
  pub ran : run b s ni na nl ≡ ok report
  pub answer : CarefulReport
  pub answered : careful b s ni na nl ≡ ok answer
  pub number : (answer.report.number ≡ 50) ⊎ ((answer.report ≡ report) × (answer.letter ≡ 0))
  pub accepted :
      answer.report.number ≡ 0
      → (x : Split)
      → split_from (letters_of (read_form b)) 0 (arguments s) ≡ ok x
      → (k : ℕ) (os : List ℕ)
      → LooksLike (arguments s) k os
      → ReadAsOptions x k
  pub misread : answer.report.number ≡ 50 → Misread (letters_of (read_form b)) 0 s na nl report answer.report answer.letter
