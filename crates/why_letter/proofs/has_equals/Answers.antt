-- What the library searches is what the definition looks at. Assumes nothing.
use mathlib.Core.List.{List}
use mathlib.Core.Path.{ap, ◌∙◌}
use Prim.Native.Nat.{ℕ, ◌-◌}
use native.Mathlib.Omega.{arith}
use lib.ListN.{length, drop, length-drop}
use lib.Seq.{take_all}
use Rattle.rules.specs.Base.{is_some}
use Rattle.rules.specs.Split.{behind_equals}
use Rattle.why_letter.proofs.Names.{any_equals}
use Rattle.why_letter.proofs.has_equals.Goals as goal

pub returns : goal.returns
returns c =
    let os = c.args.os.now in
    let from = c.args.from in
    c.contains.ensures.value
    ∙ any_equals _
    ∙ ap (λ (s : List ℕ). is_some (behind_equals s)) (take_all (length os - from) (drop from os) (omega (arith, length-drop from os)))
