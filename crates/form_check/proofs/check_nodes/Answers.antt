use native.Mathlib.Omega.{arith}
use mathlib.Core.Path.{refl, sym, ◌∙◌, ap}
use lib.ListN.{length, take}
use lib.Dec.{eqb}
use lib.Seq.{length-take-le}
use Rattle.std.proofs.Common.{rules, tests}
use Rattle.std.proofs.lemmas.Iterator.{YieldsList-from_slice}
use Rattle.std.proofs.lemmas.Iterator.Search.{position_from_yields_List}
use Rattle.std.specs.Prelude.{◌≡◌, position}
use Rattle.form_layout.proofs.Sizes.{sized, nodes_length}
use Rattle.form_kinds.proofs.Table.{codes_length}
use Rattle.form_check.proofs.Climbing.{nodes_small, nodes_bad, nodes_good}
use Rattle.form_check.proofs.Counting.{found_some, found_none}
use Rattle.rules.specs.Reported.{told}
use Rattle.form_check.proofs.check_nodes.Goals as goal

pub node_count-n-requires : goal.node_count-n-requires
node_count-n-requires c = (sized _ c.requires).counts.long

pub greatest-requires : goal.greatest-requires
greatest-requires c = ap length c.fill_all.ensures ∙ codes_length _ 64

pub returns-then-greatest-lt-AT_FAULT : goal.returns-then-greatest-lt-AT_FAULT
returns-then-greatest-lt-AT_FAULT c =
    nodes_small _ _ (nodes_length c.args.b.now ∙ sym c.node_count-n.ensures)
    (omega (arith, c.node_count-n.ensures, sized _ c.requires))
    _ c.fill_all.ensures _ _ c.greatest.ensures c.if-greatest-lt-AT_FAULT.true refl

pub slice_bounds-codes-end : goal.slice_bounds-codes-end
slice_bounds-codes-end c = omega (arith, c.fill_all.array_long, c.node_count-n.ensures, sized _ c.requires)

pub slice_bounds-iter-end : goal.slice_bounds-iter-end
slice_bounds-iter-end c = sym (length-take-le _ c.fill_all.new.table (omega (arith, c.fill_all.array_long, c.node_count-n.ensures, sized _ c.requires)))

pub returns-in-Some : goal.returns-in-Some
returns-in-Some c =
    let first : c.position.result ≡ position (λ x. eqb x 32) (take c.node_count-n.result c.fill_all.new.table) =
    position_from_yields_List (λ x. eqb x 32) _ _ c.position.result c.position.ensures.ran
    (YieldsList-from_slice (take c.node_count-n.result c.fill_all.new.table) c.iter.ensures.rest) (λ x b q k. search (rules, tests)) in
    nodes_bad _ _ (nodes_length c.args.b.now ∙ sym c.node_count-n.ensures)
    (omega (arith, c.node_count-n.ensures, sized _ c.requires))
    _ c.fill_all.ensures _ _
    (found_some (λ x. eqb x 32) _ _ (λ k. refl) _ (omega (arith, c.fill_all.array_long, c.node_count-n.ensures, sized _ c.requires)) _ first _ c.in-Some.is)
    (ap told c.at.ensures)

pub returns-in-None : goal.returns-in-None
returns-in-None c =
    let first : c.position.result ≡ position (λ x. eqb x 32) (take c.node_count-n.result c.fill_all.new.table) =
    position_from_yields_List (λ x. eqb x 32) _ _ c.position.result c.position.ensures.ran
    (YieldsList-from_slice (take c.node_count-n.result c.fill_all.new.table) c.iter.ensures.rest) (λ x b q k. search (rules, tests)) in
    nodes_good _ _ (nodes_length c.args.b.now ∙ sym c.node_count-n.ensures)
    (omega (arith, c.node_count-n.ensures, sized _ c.requires))
    _ c.fill_all.ensures _
    (found_none (λ x. eqb x 32) _ _ (λ k. refl) _ (omega (arith, c.fill_all.array_long, c.node_count-n.ensures, sized _ c.requires)) _ first c.in-None.is)
    refl
