use borrow.Author.Rules.{rules}
use native.Mathlib.Omega.{arith}
use mathlib.Core.Path.{◌≡◌, refl, sym, ap}
use lib.ListN.{length}
use Rattle.form_layout.specs.Kinds.{kind_number}
use Rattle.form_layout.proofs.KindNumbers.{not_kind}
use Rattle.eval_list.proofs.Sides.{aside_ready, second_ready, sides_ready, choice_ends}
use Rattle.eval_list.proofs.Nodes.{there, done, optional_is, optional_less, optional_ready, many_is, many_ready, some_is, some_ready, choice_less, choice_ready, choice_done}
use mathlib.Core.Path.{◌∙◌}
use Rattle.eval_list.proofs.Options.{given, shift_ready, present_ends, absent_ends}
use Rattle.eval_list.proofs.+lists.Goals as goal
use Rattle.eval_list.proofs.+lists.Goals.{run_optional_list-then-made, run_optional_list-else-made}

-- run_either

pub run_either-run_list-x-requires : goal.run_either-run_list-x-requires
run_either-run_list-x-requires t c = (omega arith, c.requires.first)

pub run_either-set_aside-kept-requires : goal.run_either-set_aside-kept-requires
run_either-set_aside-kept-requires t c = aside_ready c.requires c.run_list-x.ensures refl

pub run_either-run_list-y-requires : goal.run_either-run_list-y-requires
run_either-run_list-y-requires t c = (omega arith, second_ready c.requires c.run_list-x.ensures refl c.set_aside-kept.ensures)

pub run_either-choose-made-requires : goal.run_either-choose-made-requires
run_either-choose-made-requires t c = sides_ready c.requires c.run_list-x.ensures refl c.set_aside-kept.ensures c.run_list-y.ensures

pub run_either-slice_bounds-settle-end : goal.run_either-slice_bounds-settle-end
run_either-slice_bounds-settle-end t c =
    let long : length c.set_aside-kept.result ≡ 515 = search (rules, c.set_aside-kept.type_inv) in
    sym long

pub run_either-settle-requires : goal.run_either-settle-requires
run_either-settle-requires t c =
    let long : length c.set_aside-kept.result ≡ 515 = search (rules, c.set_aside-kept.type_inv) in
    omega (arith, long, (aside_ready c.requires c.run_list-x.ensures refl).0)

pub run_either-returns : goal.run_either-returns
run_either-returns t c =
    choice_ends c.requires c.run_list-x.ensures refl c.set_aside-kept.ensures c.run_list-y.ensures c.choose-made.ensures refl
    c.settle.ensures

-- run_list

pub run_list-node_at-x-requires : goal.run_list-node_at-x-requires
run_list-node_at-x-requires t c = there c.requires

pub run_list-run_optional_list-requires : goal.run_list-run_optional_list-requires
run_list-run_optional_list-requires t c =
    (optional_less c.requires _ c.node_at-x.ensures (ap kind_number c.in-Optional.is) c.decreases, optional_ready c.requires _ c.node_at-x.ensures (ap kind_number c.in-Optional.is))

pub run_list-run_many-requires : goal.run_list-run_many-requires
run_list-run_many-requires t c = many_ready c.requires _ c.node_at-x.ensures (ap kind_number c.in-Many.is)

pub run_list-run_some-requires : goal.run_list-run_some-requires
run_list-run_some-requires t c = some_ready c.requires _ c.node_at-x.ensures (ap kind_number c.in-AtLeastOne.is)

pub run_list-run_either-requires : goal.run_list-run_either-requires
run_list-run_either-requires t c = (
  choice_less c.requires _ c.node_at-x.ensures (not_kind _ 4 refl c.in_default.not-Optional) (not_kind _ 5 refl c.in_default.not-Many) (not_kind _ 6 refl c.in_default.not-AtLeastOne) c.decreases,
  choice_ready c.requires _ c.node_at-x.ensures (not_kind _ 4 refl c.in_default.not-Optional) (not_kind _ 5 refl c.in_default.not-Many) (not_kind _ 6 refl c.in_default.not-AtLeastOne),
)

pub run_list-returns-in-Optional : goal.run_list-returns-in-Optional
run_list-returns-in-Optional t c = done c.requires (optional_is c.requires _ c.node_at-x.ensures (ap kind_number c.in-Optional.is)) c.run_optional_list.ensures

pub run_list-returns-in-Many : goal.run_list-returns-in-Many
run_list-returns-in-Many t c = done c.requires (many_is c.requires _ c.node_at-x.ensures (ap kind_number c.in-Many.is)) c.run_many.ensures

pub run_list-returns-in-AtLeastOne : goal.run_list-returns-in-AtLeastOne
run_list-returns-in-AtLeastOne t c = done c.requires (some_is c.requires _ c.node_at-x.ensures (ap kind_number c.in-AtLeastOne.is)) c.run_some.ensures

pub run_list-returns-in_default : goal.run_list-returns-in_default
run_list-returns-in_default t c =
    choice_done c.requires _ c.node_at-x.ensures (not_kind _ 4 refl c.in_default.not-Optional) (not_kind _ 5 refl c.in_default.not-Many)
    (not_kind _ 6 refl c.in_default.not-AtLeastOne) c.run_either.ensures

-- run_optional_list

pub run_optional_list-run_list-ran-requires : goal.run_optional_list-run_list-ran-requires
run_optional_list-run_list-ran-requires t c = (omega arith, c.requires.below)

pub run_optional_list-optional-made-requires : goal.run_optional_list-optional-made-requires
run_optional_list-optional-made-requires t c = given c.requires c.run_list-ran.ensures

pub run_optional_list-shift-requires : goal.run_optional_list-shift-requires
run_optional_list-shift-requires t c = shift_ready c.requires c.run_list-ran.ensures c.optional-made.ensures c.if-made.true _ refl

pub run_optional_list-returns : goal.run_optional_list-returns
run_optional_list-returns t c =
    elim c.if-made.branch [
      | run_optional_list-then-made w ↦
          λ u g. present_ends c.requires c.run_list-ran.ensures c.optional-made.ensures u g w.if-made.true _ refl
          _ (w.out-is ∙ w.shift.ensures)
      | run_optional_list-else-made w ↦
          λ u g. absent_ends c.requires c.run_list-ran.ensures c.optional-made.ensures u g w.if-made.false _ w.out-is
    ]
