-- What a preview promises: it is the take on a copy, its places are exactly those that the take would use, and no other mark changes.
use Rattle.std.specs.Prelude.{Bool, true, false, ◌&&◌, List, [], ◌∷◌, ◌≡◌, ℕ, suc, ◌≤◌, ◌<◌, length, get_or}
use Rattle.std.proofs.Math.Option.{Option, some, none}
use Rattle.std.proofs.Math.ListN.{get_elem?}
use Rattle.rules.specs.Base.{contains}
use Rattle.rules.specs.Outcome.{Outcome, ok}
use Rattle.rules.specs.State.{parsed, present_at}
use Rattle.rules.specs.Take.{Taken, Operand}
use Rattle.rules.specs.Calls.{Called, call_take_flag, call_take_arg, call_take_positional, call_take_cmd}
use Rattle.rules.specs.Demands.{All}
use Rattle.rules.specs.declared.State.{State as Raw}
use Rattle.rules_preview.specs.Preview.{Previewed, preview_flag, preview_arg, preview_positional, preview_cmd}

unfoldable pub used_at : List ℕ → ℕ → Bool
used_at marks i = elim (get_elem? marks i) [ none ↦ false | some m ↦ parsed m ]

abbrev pub Rising : List ℕ → Type 0
Rising [] = Unit {0}
Rising (i ∷ is) = All (λ j. i < j) is × Rising is

-- A preview beside the take on the same input: it is answered, it is what the take hands back, and of its places
pub record Shows {A : Type 0} (x : Raw) (take : Outcome (Called A)) (preview : Outcome (Previewed A)) : Type 0 where
  pub shown : Previewed A
  pub answered : preview ≡ ok shown
  pub taken : take ≡ ok shown.taken
  -- a place is among them exactly if it is present before and used after
  pub exactly : (i : ℕ) → contains shown.places i ≡ (present_at x.marks i && used_at shown.taken.state.marks i)
  pub rising : Rising shown.places
  pub few : length shown.places ≤ 2
  -- every other mark stays, also those past the count
  pub others : (i : ℕ) → contains shown.places i ≡ false → get_or shown.taken.state.marks i 0 ≡ get_or x.marks i 0
  -- refused, there are none, and the state is the one that was given
  pub refused : (shown.taken.number ≡ 0 → ⊥) → (shown.taken.answer ≡ none) × (shown.places ≡ []) × (shown.taken.state ≡ x)

-- how many places a flag or a command has: one if it is there
abbrev pub OneIf : Bool → List ℕ → Type 0
OneIf true l = length l ≡ 1
OneIf false l = l ≡ []

-- an argument: the key, and the value right behind it
abbrev pub KeyAndValue : Option Taken → List ℕ → Type 0
KeyAndValue none l = l ≡ []
KeyAndValue (some t) l = (key : ℕ) × (t.place ≡ suc key) × (l ≡ key ∷ t.place ∷ [])

-- Every preview, on any input
pub record PreviewAnswered : Type 0 where
  pub flag :
      (form sheet slice : List ℕ) (x : Raw) (k j : ℕ)
      → Shows x (call_take_flag form sheet slice x k j) (preview_flag form sheet slice x k j)
  pub arg :
      (form sheet slice : List ℕ) (x : Raw) (k j : ℕ)
      → Shows x (call_take_arg form sheet slice x k j) (preview_arg form sheet slice x k j)
  pub positional :
      (sheet slice : List ℕ) (x : Raw) (j : ℕ)
      → Shows x (call_take_positional sheet slice x j) (preview_positional sheet slice x j)
  pub cmd :
      (form sheet slice : List ℕ) (x : Raw) (k : ℕ)
      → Shows x (call_take_cmd form sheet slice x k) (preview_cmd form sheet slice x k)
  -- the places beside the answer
  pub flag_places :
      (form sheet slice : List ℕ) (x : Raw) (k j : ℕ) (p : Previewed Bool) (b : Bool)
      → preview_flag form sheet slice x k j ≡ ok p
      → p.taken.answer ≡ some b
      → OneIf b p.places
  pub arg_places :
      (form sheet slice : List ℕ) (x : Raw) (k j : ℕ) (p : Previewed (Option Taken)) (t : Option Taken)
      → preview_arg form sheet slice x k j ≡ ok p
      → p.taken.answer ≡ some t
      → KeyAndValue t p.places
  pub positional_places :
      (sheet slice : List ℕ) (x : Raw) (j : ℕ) (p : Previewed Operand) (o : Operand)
      → preview_positional sheet slice x j ≡ ok p
      → p.taken.answer ≡ some o
      → p.places ≡ o.place ∷ []
  pub cmd_places :
      (form sheet slice : List ℕ) (x : Raw) (k : ℕ) (p : Previewed Bool) (b : Bool)
      → preview_cmd form sheet slice x k ≡ ok p
      → p.taken.answer ≡ some b
      → OneIf b p.places
  -- a command that is not taken is no refusal, and `current` is cleared
  pub cmd_not :
      (form sheet slice : List ℕ) (x : Raw) (k : ℕ) (p : Previewed Bool)
      → preview_cmd form sheet slice x k ≡ ok p
      → p.taken.answer ≡ some false
      → (p.taken.number ≡ 0) × (p.taken.state.current ≡ 0)
