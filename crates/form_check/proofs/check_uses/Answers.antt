-- Fields, then children, then the lowest node not used once. Assumes nothing.
use mathlib.Core.Bool.{not}
use mathlib.Core.Path.{refl, sym, ap}
use lib.ListN.{take}
use lib.Dec.{eqb}
use lib.Seq.{length-take-le}
use Rattle.std.proofs.Common.{rules, tests}
use Rattle.std.proofs.lemmas.Iterator.{YieldsList-from_slice}
use Rattle.std.proofs.lemmas.Iterator.Search.{position_from_yields_List}
use Rattle.std.specs.Prelude.{◌≡◌, position}
use native.Mathlib.Omega.{arith}
use Rattle.form_check.proofs.Verdict.{uses_outside, uses_fault, uses_good}
use Rattle.form_layout.proofs.Sizes.{sized}
use Rattle.form_check.proofs.Counting.{found_some, found_none, not_not}
use Rattle.rules.specs.Reported.{told}
use Rattle.form_check.proofs.check_uses.Goals as goal

pub node_count-n-requires : goal.node_count-n-requires
node_count-n-requires c = (sized _ c.requires).counts.long

pub count_fields-requires : goal.count_fields-requires
count_fields-requires c = (c.requires, omega (arith, c.node_count-n.ensures, sized _ c.requires))

pub returns-then-not-count_fields : goal.returns-then-not-count_fields
returns-then-not-count_fields c = λ ts e. uses_outside _ ts e _ c.node_count-n.ensures _ _ _ c.count_fields.ensures _ (ap not c.if-not-count_fields.true) (ap told c.from.ensures)

pub slice_bounds-counts-end : goal.slice_bounds-counts-end
slice_bounds-counts-end c = omega (arith, c.count_children.array_long, c.node_count-n.ensures, sized _ c.requires)

pub slice_bounds-iter-end : goal.slice_bounds-iter-end
slice_bounds-iter-end c = sym (length-take-le _ c.count_children.new.counts (omega (arith, c.count_children.array_long, c.node_count-n.ensures, sized _ c.requires)))

pub returns-in-Some : goal.returns-in-Some
returns-in-Some c =
    let first : c.position.result ≡ position (λ x. not (eqb x 1)) (take c.node_count-n.result c.count_children.new.counts) =
    position_from_yields_List (λ x. not (eqb x 1)) _ _ c.position.result c.position.ensures.ran
    (YieldsList-from_slice (take c.node_count-n.result c.count_children.new.counts) c.iter.ensures.rest) (λ x b q k. search (rules, tests)) in
    λ ts e. uses_fault _ ts e _ c.node_count-n.ensures _ _ _ c.count_fields.ensures _ (ap not c.if-not-count_fields.false) (sized _ c.requires).counts.nodes.1
    refl _ c.count_children.ensures _
    (found_some (λ x. not (eqb x 1)) _ _ (λ k. not_not _) _ (omega (arith, c.count_children.array_long, c.node_count-n.ensures, sized _ c.requires)) _ first _ c.in-Some.is)
    (ap told c.at.ensures)

pub returns-in-None : goal.returns-in-None
returns-in-None c =
    let first : c.position.result ≡ position (λ x. not (eqb x 1)) (take c.node_count-n.result c.count_children.new.counts) =
    position_from_yields_List (λ x. not (eqb x 1)) _ _ c.position.result c.position.ensures.ran
    (YieldsList-from_slice (take c.node_count-n.result c.count_children.new.counts) c.iter.ensures.rest) (λ x b q k. search (rules, tests)) in
    λ ts e. uses_good _ ts e _ c.node_count-n.ensures _ _ _ c.count_fields.ensures _ (ap not c.if-not-count_fields.false) (sized _ c.requires).counts.nodes.1
    refl _ c.count_children.ensures
    (found_none (λ x. not (eqb x 1)) _ _ (λ k. not_not _) _ (omega (arith, c.count_children.array_long, c.node_count-n.ensures, sized _ c.requires)) _ first c.in-None.is)
    refl
