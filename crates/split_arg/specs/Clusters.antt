-- What the code's Outcome means: the outcome of a cluster, with letters counted from the front of the name and places in bytes.
use Rattle.std.specs.Prelude.{◌≡◌, List, [], map, ℕ, ◌≤◌, ◌<◌, length, take, drop}
use Rattle.rules.specs.Outcome.{ok}
use Rattle.rules.specs.Accept.{Letters}
use Rattle.rules.specs.Split.{Letter, cluster_from, Cluster, single, all_flags, argument_letter, withdrawn, ambiguous, look_up, disambiguate_short}
use Rattle.split_arg.specs.declared.Letters.{Letters as Given}
use Rattle.split_arg.specs.declared.Outcome.{Outcome}
use Rattle.split_arg.specs.declared.Outcome.TheVariants.{Single, AllFlags, Argument, Withdrawn, Ambiguous}

abbrev pub letters : List ℕ → List ℕ → Letters
letters flags arguments = record { flags = flags; arguments = arguments }

-- the letters that the code is given
abbrev pub meaning : Given → Letters
meaning g = letters g.flags.now g.arguments.now

unfoldable pub characters : List Letter → List ℕ
characters ls = map (λ (x : Letter). x.character) ls

abbrev pub cluster_of : List ℕ → List Letter → Outcome → Cluster
cluster_of name ls (Single c) = single c
cluster_of name ls (AllFlags n) = all_flags (take n (characters ls))
cluster_of name ls (Argument n c k) = argument_letter (take n (characters ls)) c (drop k name)
cluster_of name ls (Withdrawn k) = withdrawn k
cluster_of name ls (Ambiguous n) = ambiguous (take n (characters ls))

-- the letters counted are there, and the rest lies in the name
abbrev pub CountedLetters : List ℕ → List Letter → Outcome → Type 0
CountedLetters name ls (Single c) = length ls ≡ 1
CountedLetters name ls (AllFlags n) = n ≡ length ls
CountedLetters name ls (Argument n c k) = (n < length ls) × (k ≤ length name)
CountedLetters name ls (Withdrawn k) = k < length name
CountedLetters name ls (Ambiguous n) = n < length ls

-- an outcome of the letters of a name
pub record Outcomes (name : List ℕ) (r : Outcome) (o : List Letter → Cluster) : Type 0 where
  pub all : List Letter
  pub these : cluster_from 0 0 name ≡ ok all
  pub same : cluster_of name all r ≡ o all
  pub counted : CountedLetters name all r

abbrev pub LooksUp : Letters → List ℕ → Outcome → Type 0
LooksUp l name r = Outcomes name r (look_up l [])

abbrev pub Disambiguates : Letters → List ℕ → Outcome → Type 0
Disambiguates l name r = Outcomes name r (disambiguate_short l)
