-- Values from nothing: the repeats of a form whose child may be idle, that is, may have a value although it uses nothing of the line.
use Rattle.std.specs.Prelude.{Bool, true, false, ◌||◌, List, [], ◌∷◌, ℕ, suc, ◌+◌, ◌^◌}
use Rattle.std.specs.Prelude.{if◌then◌else◌}
use Rattle.rules.specs.Outcome.{Outcome, ok, ◌>>=◌}
use Rattle.rules.specs.Tree.{Tree, Flag, Argument, Positional, Optional, Many, Some, Count, Last, Choice, Fallback, Guard}
use Rattle.rules.specs.Accept.{Accepted}
use Rattle.rules.specs.Given.{form_in}

-- A switch, an optional and a fallback may; a required flag, an argument and a positional may not; a guard as its child, a choice if
-- either side may. No repeat is beneath a repeat: of repeats it says what is true, and the call does not use it
unfoldable pub may_idle : Tree → Bool
may_idle (Flag n m switch) = switch
may_idle (Argument n m b a) = false
may_idle (Positional n p b) = false
may_idle (Optional c t) = true
may_idle (Many c t) = true
may_idle (Some c t) = may_idle t
may_idle (Count t) = true
may_idle (Last t) = may_idle t
may_idle (Choice t u) = may_idle t || may_idle u
may_idle (Fallback v t) = true
may_idle (Guard l h t) = may_idle t

-- a node of kind 5 to 8 whose child may be idle
unfoldable pub is_idle_repeat : Tree → Bool
is_idle_repeat (Flag n m switch) = false
is_idle_repeat (Argument n m b a) = false
is_idle_repeat (Positional n p b) = false
is_idle_repeat (Optional c t) = false
is_idle_repeat (Many c t) = may_idle t
is_idle_repeat (Some c t) = may_idle t
is_idle_repeat (Count t) = may_idle t
is_idle_repeat (Last t) = may_idle t
is_idle_repeat (Choice t u) = false
is_idle_repeat (Fallback v t) = false
is_idle_repeat (Guard l h t) = false

-- their numbers, rising, among the trees from node k on
unfoldable pub idle_from : ℕ → List Tree → List ℕ
idle_from k [] = []
idle_from k (t ∷ ts) = if is_idle_repeat t then k ∷ idle_from (suc k) ts else idle_from (suc k) ts

unfoldable pub idle_repeats : Accepted → List ℕ
idle_repeats a = idle_from 0 a.trees

-- the call on a form, which is refused with 1 to 4
unfoldable pub call_idle : List ℕ → Outcome (List ℕ)
call_idle form = form_in form >>= λ a. ok (idle_repeats a)

-- a set of numbers as the bits of a number: bit n for n
unfoldable pub bit_set : List ℕ → ℕ
bit_set [] = 0
bit_set (n ∷ ns) = 2 ^ n + bit_set ns
