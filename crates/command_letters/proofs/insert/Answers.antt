-- By whether the letter stands at its place. Assumes nothing.
use mathlib.Core.Path.{◌≡◌, sym}
use Prim.Native.Nat.{ℕ, ◌<◌}
use lib.ListN.{get_or}
use native.Mathlib.Omega.{arith}
use borrow.Author.Rules.{rules}
use Rattle.command_letters.proofs.Inserts.{front_long, place_within, kept, placed}
use Rattle.command_letters.proofs.insert.Goals as goal
use Rattle.command_letters.proofs.insert.Goals.{else-at-n-via-then-at-n+else-out-at, else-at-n-via-else-at-n}

pub slice_bounds-place-end-2 : goal.slice_bounds-place-end-2
slice_bounds-place-end-2 c = sym (front_long _ _ _ c.requires)

pub store-requires : goal.store-requires
store-requires c = search (place_within, rules)

pub returns-then-out-at : goal.returns-then-out-at
returns-then-out-at c = search kept

pub returns : goal.returns
returns c =
    let at : ℕ = c.place-at.result in
    let apart : at < c.args.n → get_or c.args.out.now at 0 ≡ c.args.letter → ⊥ =
    elim c.else-at-n.branch [
      | else-at-n-via-then-at-n+else-out-at w ↦ λ h e. w.if-out-at.false e
      | else-at-n-via-else-at-n w ↦ λ h e. omega (arith, w.if-at-n.false)
    ] in
    placed _ _ _ _ c.requires c.place-at.ensures apart _ c.store.ensures
