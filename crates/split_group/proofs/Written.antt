-- What the splitting of one argument writes: as many items as its outcome says, and nothing outside of their places.
use mathlib.Core.Bool.{Bool, true, false}
use mathlib.Core.List.{List, [], ◌∷◌}
use mathlib.Core.Logic.{◌⊎◌, inl, inr}
use mathlib.Core.Option.{none}
use mathlib.Core.Path.{◌≡◌, refl, sym, ap, ◌∙◌}
use Prim.Native.Nat.{ℕ, zero, suc, ◌+◌, ◌*◌, ◌≤◌, ◌<◌}
use native.Mathlib.Omega.{arith}
use lib.Dec.{leb}
use lib.ListN.{length, set, get_elem?}
use lib.Seq.{sets, length-sets}
use Rattle.std.specs.Prelude.{if◌then◌else◌}
use Rattle.rules.specs.Base.{concat_map}
use Rattle.rules.specs.Outcome.{Outcome, ok, ◌>>=◌}
use Rattle.rules.specs.Accept.{Letters}
use Rattle.rules.specs.Split.{Cluster, cluster_group, short_group, item_words, Group as Meaning}
use Rattle.rules.specs.Clusters.{outcome_of, item_count}
use Rattle.rules.proofs.SplitLaws.{group_length, ok_injective}
use Rattle.rules.proofs.ClusterLaws.{clusters_known}
use Rattle.split_group.specs.declared.Group.{Group}
use Rattle.split_group.specs.Groups.{stored, Makes, Untouched}

-- ---- stores
set_other : (l : List ℕ) (i k a : ℕ) → (k ≡ i → ⊥) → get_elem? (set l i a) k ≡ get_elem? l k
set_other [] i k a h = refl
set_other (x ∷ l) zero zero a h = absurd (h refl)
set_other (x ∷ l) zero (suc k) a h = refl
set_other (x ∷ l) (suc i) zero a h = refl
set_other (x ∷ l) (suc i) (suc k) a h = set_other l i k a (λ e. h (ap suc e))

sets_outside : (w l : List ℕ) (i k : ℕ) → (k < i) ⊎ (i + length w ≤ k) → get_elem? (sets l i w) k ≡ get_elem? l k
sets_outside [] l i k h = refl
sets_outside (x ∷ w) l i k (inl h) =
    sets_outside w (set l i x) (suc i) k (inl (omega arith)) ∙ set_other l i k x (λ e. omega arith)
sets_outside (x ∷ w) l i k (inr h) =
    sets_outside w (set l i x) (suc i) k (inr (omega arith)) ∙ set_other l i k x (λ e. omega arith)

stored_untouched : (o : List ℕ) (at n : ℕ) (w : List ℕ) → length w ≡ 7 * n → Untouched o (stored o at n w) at n
unfolding stored
stored_untouched o at n w e = go (leb (at + n) 256)
  where
    go : (t : Bool) → Untouched o (if t then sets o (7 * at) w else o) at n
    go true = record {
      long = length-sets o (7 * at) w;
      outside = λ k h. sets_outside w o (7 * at) k (end k h);
    }
      where
        end : (k : ℕ) → (k < 7 * at) ⊎ (7 * (at + n) ≤ k) → (k < 7 * at) ⊎ (7 * at + length w ≤ k)
        end k (inl h) = inl h
        end k (inr h) = inr (omega arith)
    go false = record { long = refl; outside = λ k h. refl }

-- ---- one argument, whatever its outcome
module _ (os : List ℕ) (begin at : ℕ) (before after : List ℕ) (r : Group) where
  pub argument_untouched : (o : Outcome Meaning) → Makes os begin at before after r o → Untouched before after at r.count
  argument_untouched o m =
      let is = m.group.items in
      let count : r.count ≡ length is = ap (λ (g : Group). g.count) m.told≡ in
      let w = concat_map (item_words begin (begin + length os)) is in
      let u = stored_untouched before at (length is) w (group_length begin (begin + length os) is) in
      rw (m.words, count) u

  -- a cluster: as many as its outcome says, which is known from the name and the letters
  pub cluster_counted :
      (l : Letters) (name : List ℕ) (c : Cluster)
      → outcome_of l name ≡ ok c
      → Makes os begin at before after r (short_group l os name none)
      → r.count ≡ item_count c
  unfolding ◌>>=◌ cluster_group
  cluster_counted l name c e m =
      let made : ok m.group ≡ ok (cluster_group os c) = sym m.same ∙ clusters_known.known l os name ∙ rw e in
      let same : m.group ≡ cluster_group os c = ok_injective made in
      ap (λ (g : Group). g.count) m.told≡ ∙ ap (λ (g : Meaning). length g.items) same ∙ clusters_known.counted os c
