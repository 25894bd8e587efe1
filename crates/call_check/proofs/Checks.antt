-- The answers of the calls that ask about a form.
use mathlib.Core.Bool.{Bool, true, false}
use mathlib.Core.List.{List, [], ◌∷◌}
use mathlib.Core.Option.{some, none}
use mathlib.Core.Path.{◌≡◌, refl, sym, ap, ◌∙◌}
use Prim.Native.Nat.{ℕ, zero, suc, ◌≤◌, ◌<◌}
use native.Mathlib.Omega.{arith}
use lib.ListN.{length, get_elem?}
use Rattle.rules.specs.Base.{◌>>?◌}
use Rattle.rules.specs.Outcome.{Outcome, ok, ◌>>=◌}
use Rattle.rules.specs.Value.{Kind}
use Rattle.rules.specs.Form.{Form, node_count, read_form, portable}
use Rattle.rules.specs.Tree.{Tree, kind_of}
use Rattle.rules.specs.Accept.{Checked, accepted, refused_at, Accepted, check_form}
use Rattle.rules.specs.Codes.{check_code, kind_code}
use Rattle.rules.specs.Calls.{form_in, asked, call_kind, call_portable}
use Rattle.rules.specs.declared.Refused.{Refused}
use Rattle.rules.specs.Sound.{Sound}
use Rattle.rules.proofs.Acceptance.{All-at, is_some_lem, lookup_some, accepted_form, accepted_trees, accepted_trees_sound}
use Rattle.rules.proofs.GivenLaws.{check_accepted, form_passed}
use Rattle.form_layout.proofs.Sizes.{nodes_length}
use Rattle.call_answers.specs.Answers.{yes_no}
use Rattle.call_check.specs.Reader.{told, yes_code}

pub told_refused :
    {A : Type 0} (code : A → ℕ) (b : List ℕ) (f : Accepted → Outcome A) (r : Refused)
    → r ≡ check_code (check_form b)
    → (r.number ≡ 0 → ⊥)
    → told code (form_in b >>= f) ≡ some (record { number = r.number; place = r.place; answer = 0 })
unfolding form_in ◌>>=◌
told_refused code b f r e z = go (check_form b) refl
  where
    go : (c : Checked Accepted) → check_form b ≡ c → told code (form_in b >>= f) ≡ some (record { number = r.number; place = r.place; answer = 0 })
    go (accepted a) h = absurd (z (ap (λ (x : Refused). x.number) (e ∙ ap check_code h)))
    go (refused_at n k) h =
        let same = e ∙ ap check_code h in
        rw (h, form_in) (sym (ap (λ (x : Refused). some (record { number = x.number; place = x.place; answer = 0 })) same))

past : {A : Type 0} (l : List A) (k : ℕ) → length l ≤ k → get_elem? l k ≡ none
past [] k h = refl
past (x ∷ l) zero h = absurd (omega arith)
past (x ∷ l) (suc k) h = past l k (omega arith)

-- ---- the kind of a node
module _ (b : List ℕ) (k : ℕ) (r : Refused) (e : r ≡ check_code (check_form b)) where
  pub kind_refused : (r.number ≡ 0 → ⊥) → told kind_code (call_kind b k) ≡ some (record { number = r.number; place = r.place; answer = 0 })
  unfolding call_kind
  kind_refused z = told_refused kind_code b _ r e z

  pub kind_past : r.number ≡ 0 → (n : ℕ) → n ≡ node_count b → n ≤ k → told kind_code (call_kind b k) ≡ some (record { number = 28; place = 0; answer = 0 })
  unfolding call_kind asked ◌>>?◌
  kind_past z n m h =
      let (a, g) = check_accepted b r e z in
      let long = accepted_trees b a g ∙ ap (λ (f : Form). length f.nodes) (accepted_form b a g) ∙ nodes_length b in
      rw (form_passed b a (λ a. asked (get_elem? a.trees k >>? kind_of)) g, past a.trees k (omega (arith, long, m, h)))

  pub kind_there :
      r.number ≡ 0
      → (n : ℕ)
      → n ≡ node_count b
      → k < n
      → (v : ℕ)
      → ((a : Accepted) (t : Tree) (κ : Kind) → check_form b ≡ accepted a → get_elem? a.trees k ≡ some t → kind_of t ≡ some κ → v ≡ kind_code κ)
      → told kind_code (call_kind b k) ≡ some (record { number = 0; place = 0; answer = v })
  unfolding call_kind asked ◌>>?◌
  kind_there z n m h v says =
      let (a, g) = check_accepted b r e z in
      let long = accepted_trees b a g ∙ ap (λ (f : Form). length f.nodes) (accepted_form b a g) ∙ nodes_length b in
      let (t, u) = lookup_some a.trees k (omega (arith, long, m, h)) in
      let (κ, w) = is_some_lem (kind_of t) (All-at Sound a.trees k t (accepted_trees_sound b a g) u).kind in
      rw (form_passed b a (λ a. asked (get_elem? a.trees k >>? kind_of)) g, u, w, says a t κ g u w)

-- ---- the portable mark
as_yes : (v : Bool) → yes_code v ≡ yes_no v
as_yes true = refl
as_yes false = refl

module _ (b : List ℕ) (r : Refused) (e : r ≡ check_code (check_form b)) where
  pub portable_refused : (r.number ≡ 0 → ⊥) → told yes_code (call_portable b) ≡ some (record { number = r.number; place = r.place; answer = 0 })
  unfolding call_portable
  portable_refused z = told_refused yes_code b _ r e z

  pub portable_told : r.number ≡ 0 → (v : Bool) → v ≡ portable (read_form b) → (n : ℕ) → n ≡ yes_no v
      → told yes_code (call_portable b) ≡ some (record { number = 0; place = 0; answer = n })
  unfolding call_portable
  portable_told z v h n m =
      let (a, g) = check_accepted b r e z in
      rw (form_passed b a (λ a. ok (portable a.form)) g, accepted_form b a g, ← h, m, as_yes v)
