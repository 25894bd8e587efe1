-- A node that word 0 does not have is in no item's word: a search for it finds nothing.
use mathlib.Core.Bool.{Bool, true, not}
use mathlib.Core.List.{List}
use mathlib.Core.Path.{◌≡◌, sym, ◌∙◌}
use Prim.Native.Nat.{ℕ, ◌≤◌}
use native.Mathlib.Nat.{le_refl}
use lib.ListN.{get_or}
use borrow.Author.Tests.{not-true}
use Rattle.rules.specs.Split.{Item}
use Rattle.take_search.specs.Search.{Sought}
use Rattle.take_search.proofs.Search.{sought_end, sought_all}
use Rattle.take_table.specs.Bits.{bit_at}
use Rattle.take_table.specs.Known.{TableTells}

module _ (table : List ℕ) (node : ℕ) (absent : Bool) (e : absent ≡ not (bit_at (get_or table 0 0) node)) (h : absent ≡ true) where
  pub absent_sought : (marks : List ℕ) (from end : ℕ) → from ≤ end → (area words : List ℕ) (test : Item → Bool)
      → TableTells table end node area words test
      → Sought area words test marks from end end
  absent_sought marks from end o area words test s =
      let none = s.none (not-true (bit_at (get_or table 0 0) node) (sym e ∙ h)) in
      sought_all area words test marks from end end end (λ k a b p x q. sym (s.at k x b q) ∙ none k b) o (le_refl end) (sought_end area words test marks end)
