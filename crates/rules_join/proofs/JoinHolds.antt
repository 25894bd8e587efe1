-- Every joining of two forms of bytes is answered.
use mathlib.Core.Bool.{Bool, true, false, ◌&&◌, false≢true}
use mathlib.Core.List.{List}
use mathlib.Core.Logic.{◌⊎◌, inl, inr}
use mathlib.Core.Option.{Option, none}
use mathlib.Core.Path.{◌≡◌, refl, sym, ◌∙◌}
use Prim.Native.Nat.{ℕ, ◌<◌}
use lib.Dec.{leb}
use borrow.Author.Tests.{leb-true, leb-false}
use Rattle.std.specs.Prelude.{if◌then◌else◌}
use Rattle.rules.specs.Form.{Form}
use Rattle.rules.specs.Accept.{Accepted, Checked, accepted, refused_at, check_form}
use Rattle.rules.specs.Run.{padded, run}
use Rattle.rules.specs.Encode.{encode_form}
use Rattle.rules.specs.Demands.{Bytes}
use Rattle.rules.proofs.InputFaults.{padded_nil}
use Rattle.rules_join.specs.Join.{join_forms, joined, not_joined, in_limits, join_into, join}
use Rattle.rules_join.specs.JoinAnswered.{LimitsKept, Joins, Cleared, Written, JoinAnswered, first_refused, second_refused, too_large, joined_form}
use Rattle.rules_join.proofs.RunLaws.{kinds_joined, run_joined}
use Rattle.rules_join.proofs.LimitLaws.{kept_limits, limits_kept, encode_fits}
use Rattle.rules_join.proofs.JoinAccepts.{join_accepts, join_letters, join_portable}

-- no form
not_joined_lem : (n k : ℕ) (p : Option ℕ) (i : ℕ) → Cleared n (not_joined n k p i)
unfolding not_joined
not_joined_lem n k p i = record { size = refl; output = padded_nil n }

-- a form
written : (n : ℕ) (f : Form) → LimitsKept f → Written n (encode_form f) (joined n f)
unfolding joined padded
written n f h = record { size = refl; fits = encode_fits f h; output = refl }

module _ (x y : List ℕ) (n : ℕ) (bytes : Bytes x) (more : Bytes y) where
  module _ (a b : Accepted) (e : check_form x ≡ accepted a) (g : check_form y ≡ accepted b) where
    joins : LimitsKept (join_forms a b) → Joins a b
    joins h =
        let accepts = join_accepts x y a b e g bytes more h in
        let letters = join_letters x y a b e g in
        record {
          accepts = accepts;
          kinds = kinds_joined a b;
          letters = letters;
          portable = join_portable x y a b e g;
          run = run_joined a b accepts letters;
        }

    too_large_lem : (LimitsKept (join_forms a b) → ⊥) ⊎ (n < 5928) → JoinAnswered x y n (not_joined n 18 none 0)
    unfolding not_joined
    too_large_lem h = too_large a b e g refl refl refl h (not_joined_lem n 18 none 0)

    into_answered : JoinAnswered x y n (join_into n (join_forms a b))
    unfolding join_into joined
    into_answered = go (in_limits (join_forms a b)) refl (leb 5928 n) refl
      where
        go :
            (s : Bool)
            → in_limits (join_forms a b) ≡ s
            → (t : Bool)
            → leb 5928 n ≡ t
            → JoinAnswered x y n (if s && t then joined n (join_forms a b) else not_joined n 18 none 0)
        go true h true r =
            let kept = limits_kept (join_forms a b) h in
            joined_form a b e g refl refl refl kept (leb-true 5928 n r) (written n (join_forms a b) kept) (joins kept)
        go true h false r = too_large_lem (inr (leb-false 5928 n r))
        go false h t r = too_large_lem (inl (λ kept. false≢true (sym h ∙ kept_limits (join_forms a b) kept)))

  pub join_answered : JoinAnswered x y n (join x y n)
  unfolding join not_joined
  join_answered = first (check_form x) refl
    where
      second : (a : Accepted) → check_form x ≡ accepted a → (c : Checked Accepted) → check_form y ≡ c → JoinAnswered x y n (join x y n)
      second a e (refused_at k p) g = rw (e, g, join) (second_refused a e g refl (not_joined_lem n k p 2))
      second a e (accepted b) g = rw (e, g, join) (into_answered a b e g)

      first : (c : Checked Accepted) → check_form x ≡ c → JoinAnswered x y n (join x y n)
      first (refused_at k p) e = rw (e, join) (first_refused e refl (not_joined_lem n k p 1))
      first (accepted a) e = second a e (check_form y) refl
