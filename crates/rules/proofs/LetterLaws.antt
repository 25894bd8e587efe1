-- Splitting asks of the letters only which they hold: letters in another order split alike.
use mathlib.Core.Path.{◌≡◌, refl, ap}
use mathlib.Core.List.{List, [], ◌∷◌, ◌++◌}
use mathlib.Core.Option.{Option, some, none}
use Prim.Native.Nat.{ℕ, ◌+◌}
use lib.ListN.{length}
use Rattle.rules.specs.Base.{contains}
use Rattle.rules.specs.Outcome.{Outcome, ok, refused, fault, ◌>>=◌}
use Rattle.rules.specs.Accept.{Letters}
use Rattle.rules.specs.Split.{Letter, cluster_from, look_up, disambiguate_short, cluster_group, ArgType, short, long, Parts}
use Rattle.rules.specs.Split.{Group, short_group, parts_group, split_os_argument, split_argument, joined, split_from}
use Rattle.rules.specs.Demands.{All}

pub record SameLetters (l m : Letters) : Type 0 where
  pub flags : (c : ℕ) → contains l.flags c ≡ contains m.flags c
  pub arguments : (c : ℕ) → contains l.arguments c ≡ contains m.arguments c

module _ (l m : Letters) where
  -- where each argument is split alike, so are all
  pub split_alike :
      (k : ℕ) (args : List (List ℕ))
      → All (λ (os : List ℕ). split_argument l os ≡ split_argument m os) args
      → split_from l k args ≡ split_from m k args
  unfolding split_from ◌>>=◌
  split_alike k [] h = refl
  split_alike k (os ∷ rest) h = rw h.0 (go (split_argument m os) (λ j. split_alike j rest h.1))
    where
      go :
          (o : Outcome Group)
          → ((j : ℕ) → split_from l j rest ≡ split_from m j rest)
          → (o >>= λ g. joined k g rest (split_from l (k + length g.items) rest))
          ≡ (o >>= λ g. joined k g rest (split_from m (k + length g.items) rest))
      go (ok g) e = ap (joined k g rest) (e (k + length g.items))
      go (refused r) e = refl
      go (fault r) e = refl

  module _ (same : SameLetters l m) where
    look_up_same : (before : List ℕ) (ls : List Letter) → look_up l before ls ≡ look_up m before ls
    unfolding look_up
    look_up_same before [] = refl
    look_up_same before (x ∷ ls) =
        rw (same.flags x.character, same.arguments x.character, look_up_same (before ++ (x.character ∷ [])) ls)

    cluster_same : (ls : List Letter) → disambiguate_short l ls ≡ disambiguate_short m ls
    unfolding disambiguate_short
    cluster_same [] = refl
    cluster_same (x ∷ ls) = rw (look_up_same [] (x ∷ ls))

    short_same : (os n : List ℕ) (body : Option (List ℕ)) → short_group l os n body ≡ short_group m os n body
    unfolding short_group ◌>>=◌
    short_same os n none = go (cluster_from 0 0 n)
      where
        go :
            (o : Outcome (List Letter))
            → (o >>= λ ls. ok (cluster_group os (disambiguate_short l ls))) ≡ (o >>= λ ls. ok (cluster_group os (disambiguate_short m ls)))
        go (ok ls) = rw (cluster_same ls)
        go (refused r) = refl
        go (fault r) = refl
    short_same os n (some v) = refl

    parts_same :
        (os : List ℕ) (t : ArgType) (n : List ℕ) (body : Option (List ℕ))
        → parts_group l os (record { type = t; name = n; body = body }) ≡ parts_group m os (record { type = t; name = n; body = body })
    unfolding parts_group
    parts_same os short n body = short_same os n body
    parts_same os long n body = refl

    pub argument_same : (os : List ℕ) → split_argument l os ≡ split_argument m os
    unfolding split_argument ◌>>=◌
    argument_same os = go (split_os_argument os) refl
      where
        go : (o : Outcome (Option Parts)) → split_os_argument os ≡ o → split_argument l os ≡ split_argument m os
        go (ok none) e = rw (e, split_argument)
        go (ok (some x)) e = rw (e, split_argument) (parts_same os x.type x.name x.body)
        go (refused r) e = rw (e, split_argument)
        go (fault r) e = rw (e, split_argument)

    pub split_same : (k : ℕ) (args : List (List ℕ)) → split_from l k args ≡ split_from m k args
    split_same k args = split_alike k args (all args)
      where
        all : (args : List (List ℕ)) → All (λ (os : List ℕ). split_argument l os ≡ split_argument m os) args
        all [] = tt
        all (os ∷ rest) = (argument_same os, all rest)
