use native.Mathlib.Omega.{arith}
use Rattle.form_layout.specs.Kinds.{kind_number}
use Rattle.eval_shortcut.proofs.OneSide.{searchable, first_few, first_ends, second_few, second_ends}
use Rattle.eval_shortcut.proofs.Steps.{choice_sides, choice_ends}
use Rattle.eval_node.proofs.Lasts.{count_asks, count_refuses, count_ends}
use Rattle.eval_shortcut.proofs.Steps.{fallback_there, fallback_value_lem}
use Rattle.eval_shortcut.proofs.OneSide.{searchable, fallback_stays}
use Rattle.eval_shortcut.proofs.Steps.{fallback_there, fallback_given, fallback_value_lem, fallback_ends}
use Rattle.eval_shortcut.proofs.Steps.{guard_ends}
use Rattle.eval_node.proofs.Lasts.{last_asks, last_refuses, last_ends, again_ready, again_fits, again_ends}
use Rattle.eval_shortcut.proofs.Given.{flag_ready, flag_skips, argument_turn, positional_skips, flag_again, argument_again, positional_says}
use Rattle.eval_shortcut.proofs.Steps.{optional_given, optional_ends}
use Rattle.eval_shortcut.proofs.Absent.{has_tree, optional_short, optional_unchanged}
use Rattle.eval_shortcut.proofs.Given.{form_long, node_below, flag_ready, argument_ready, positional_ready, flag_node, argument_node, positional_says, optional_less, optional_ready}
use Rattle.eval_shortcut.proofs.Given.{optional_says, count_less, count_ready, count_says, last_less, last_ready, last_says, guard_is, guard_less, guard_ready, guard_says, fallback_less}
use Rattle.eval_shortcut.proofs.Given.{fallback_ready, choice_less, choice_less₂, choice_ready, choice_says}
use mathlib.Core.Path.{refl, sym, ap, ◌∙◌}
use Rattle.eval_shortcut.proofs.Absent.{has_tree}
use Rattle.eval_shortcut.proofs.Given.{form_long, node_below}
use Rattle.eval_shortcut.proofs.Wraps.{leaf_within}
use Rattle.eval_node.proofs.Turns.{if_taken, turn_first, turn_asks, space_kept, turn_fits, turn_ends, turn_stops, turn_refused, turn_less}
use Rattle.eval_node.proofs.Turns.{turn_space, turn_adds, turn_idles, turn_next}
use Rattle.eval_shortcut.proofs.Wraps.{leaf_turns, leaf_within, leaf_ran}
use Rattle.eval_node.proofs.+nodes.Goals as goal

-- choice

pub choice-alone-requires : goal.choice-alone-requires
choice-alone-requires t c = (searchable _ _ _ _ _ _ _ _ c.requires.first, searchable _ _ _ _ _ _ _ _ c.requires.second)

pub choice-run_node-x-requires : goal.choice-run_node-x-requires
choice-run_node-x-requires t c = (omega arith, c.requires.first)

pub choice-first_alone-requires : goal.choice-first_alone-requires
choice-first_alone-requires t c = first_few _ _ _ _ _ _ _ _ _ c.requires (c.alone.ensures.alone c.if-alone.true) _ _ c.run_node-x.ensures

pub choice-returns-then-alone : goal.choice-returns-then-alone
choice-returns-then-alone t c = first_ends _ _ _ _ _ _ _ _ _ c.requires (c.alone.ensures.alone c.if-alone.true) _ _ c.run_node-x.ensures _ c.first_alone.ensures.by_index

pub choice-alone-requires-2 : goal.choice-alone-requires-2
choice-alone-requires-2 t c = (searchable _ _ _ _ _ _ _ _ c.requires.second, searchable _ _ _ _ _ _ _ _ c.requires.first)

pub choice-run_node-y-requires : goal.choice-run_node-y-requires
choice-run_node-y-requires t c = (omega arith, c.requires.second)

pub choice-second_alone-requires : goal.choice-second_alone-requires
choice-second_alone-requires t c = second_few _ _ _ _ _ _ _ _ _ c.requires (c.alone-2.ensures.alone c.if-alone-2.true) _ _ c.run_node-y.ensures

pub choice-returns-then-alone-2 : goal.choice-returns-then-alone-2
choice-returns-then-alone-2 t c = second_ends _ _ _ _ _ _ _ _ _ c.requires (c.alone-2.ensures.alone c.if-alone-2.true) _ _ c.run_node-y.ensures _ c.second_alone.ensures.by_index

pub choice-choice_copied-requires : goal.choice-choice_copied-requires
choice-choice_copied-requires t c = (omega arith, c.requires)

pub choice-returns : goal.choice-returns
choice-returns t c = c.choice_copied.ensures

-- choice_copied

pub choice_copied-run_node-x-requires : goal.choice_copied-run_node-x-requires
choice_copied-run_node-x-requires t c = (omega arith, c.requires.first)

pub choice_copied-run_node-y-requires : goal.choice_copied-run_node-y-requires
choice_copied-run_node-y-requires t c = (omega arith, c.requires.second)

pub choice_copied-choose-requires : goal.choice_copied-choose-requires
choice_copied-choose-requires t c = choice_sides _ _ _ _ _ _ _ _ _ c.requires _ _ c.run_node-x.ensures _ _ c.run_node-y.ensures

pub choice_copied-returns : goal.choice_copied-returns
choice_copied-returns t c = choice_ends _ _ _ _ _ _ _ _ _ c.requires _ _ c.run_node-x.ensures _ _ c.run_node-y.ensures _ _ c.choose.ensures

-- count

pub count-run_repeat-all-requires : goal.count-run_repeat-all-requires
count-run_repeat-all-requires t c = let how = c.counting-how.ensures in rw how (omega arith, count_asks _ _ _ _ _ _ _ _ c.requires _)

pub count-returns-then-all-ne0 : goal.count-returns-then-all-ne0
count-returns-then-all-ne0 t c = count_refuses _ _ _ _ _ _ _ _ c.requires _ _ _ _ (rw c.counting-how.ensures at c.run_repeat-all.ensures) _ c.if-all-ne0.true c.refused_list.ensures

pub count-returns : goal.count-returns
count-returns t c = count_ends _ _ _ _ _ _ _ _ c.requires _ _ _ _ (rw c.counting-how.ensures at c.run_repeat-all.ensures) _ c.if-all-ne0.false c.counted.ensures

-- fallback

pub fallback-stays-requires : goal.fallback-stays-requires
fallback-stays-requires t c = searchable _ _ _ _ _ _ _ _ c.requires.below

pub fallback-run_node-ran-requires : goal.fallback-run_node-ran-requires
fallback-run_node-ran-requires t c = (omega arith, c.requires.below)

pub fallback-returns-then-ran-eq0 : goal.fallback-returns-then-ran-eq0
fallback-returns-then-ran-eq0 t c = fallback_value_lem _ _ _ _ _ _ _ _ _ c.requires _ _ c.run_node-ran.ensures c.if-ran-eq0.true

pub fallback-fallback_word-word-requires : goal.fallback-fallback_word-word-requires
fallback-fallback_word-word-requires t c = fallback_there _ _ _ _ _ _ _ _ _ c.requires _ _ c.run_node-ran.ensures

pub fallback-returns-then-stays : goal.fallback-returns-then-stays
fallback-returns-then-stays t c =
    fallback_stays _ _ _ _ _ _ _ _ _ c.requires (c.stays.ensures.stays c.if-stays.true) _ _ c.run_node-ran.ensures _ c.fallback_word-word.ensures _
    c.fallback_unchanged.ensures.by_index

pub fallback-fallback_copied-requires : goal.fallback-fallback_copied-requires
fallback-fallback_copied-requires t c = (omega arith, c.requires)

pub fallback-returns : goal.fallback-returns
fallback-returns t c = c.fallback_copied.ensures

-- fallback_copied

pub fallback_copied-run_node-ran-requires : goal.fallback_copied-run_node-ran-requires
fallback_copied-run_node-ran-requires t c = (omega arith, c.requires.below)

pub fallback_copied-returns-then-ran-eq0 : goal.fallback_copied-returns-then-ran-eq0
fallback_copied-returns-then-ran-eq0 t c = fallback_value_lem _ _ _ _ _ _ _ _ _ c.requires _ _ c.run_node-ran.ensures c.if-ran-eq0.true

pub fallback_copied-fallback_word-word-requires : goal.fallback_copied-fallback_word-word-requires
fallback_copied-fallback_word-word-requires t c = fallback_there _ _ _ _ _ _ _ _ _ c.requires _ _ c.run_node-ran.ensures

pub fallback_copied-fallback-requires : goal.fallback_copied-fallback-requires
fallback_copied-fallback-requires t c = fallback_given _ _ _ _ _ _ _ _ _ c.requires _ _ c.run_node-ran.ensures

pub fallback_copied-returns : goal.fallback_copied-returns
fallback_copied-returns t c = fallback_ends _ _ _ _ _ _ _ _ _ c.requires _ _ c.run_node-ran.ensures _ c.fallback_word-word.ensures _ _ c.fallback.ensures

-- guard

pub guard-run_node-ran-requires : goal.guard-run_node-ran-requires
guard-run_node-ran-requires t c = (omega arith, c.requires.below)

pub guard-returns : goal.guard-returns
guard-returns t c = guard_ends _ _ _ _ _ _ _ _ _ _ c.requires _ _ c.run_node-ran.ensures _ c.guard.ensures

-- last

pub last-run_repeat-all-requires : goal.last-run_repeat-all-requires
last-run_repeat-all-requires t c = let how = c.counting-how.ensures in rw how (omega arith, last_asks _ _ _ _ _ _ _ _ c.requires _)

pub last-returns-then-all-ne0 : goal.last-returns-then-all-ne0
last-returns-then-all-ne0 t c = last_refuses _ _ _ _ _ _ _ _ c.requires _ _ _ _ (rw c.counting-how.ensures at c.run_repeat-all.ensures) c.if-all-ne0.true _ c.refused_list.ensures

pub last-returns-then-all-ne0-2 : goal.last-returns-then-all-ne0-2
last-returns-then-all-ne0-2 t c = last_ends _ _ _ _ _ _ _ _ c.requires _ _ _ _ (rw c.counting-how.ensures at c.run_repeat-all.ensures) c.if-all-ne0.false c.if-all-ne0-2.true _ c.last_value.ensures

pub last-run_node-again-requires : goal.last-run_node-again-requires
last-run_node-again-requires t c = (omega arith, again_ready _ _ _ _ _ _ _ _ c.requires _ _ _ _ (rw c.counting-how.ensures at c.run_repeat-all.ensures))

pub last-more_tries-requires : goal.last-more_tries-requires
last-more_tries-requires t c = again_fits _ _ _ _ _ _ _ _ c.requires _ _ _ _ (rw c.counting-how.ensures at c.run_repeat-all.ensures) _ _ c.run_node-again.ensures

pub last-returns : goal.last-returns
last-returns t c =
    let all = rw c.counting-how.ensures at c.run_repeat-all.ensures in
    again_ends _ _ _ _ _ _ _ _ c.requires _ _ _ _ all _ _ c.run_node-again.ensures c.if-all-ne0.false c.if-all-ne0-2.false _ c.more_tries.ensures

-- leaf

pub leaf-eval_flag_from-requires : goal.leaf-eval_flag_from-requires
leaf-eval_flag_from-requires t c =
    let r = flag_ready _ _ _ _ _ _ _ _ c.requires.0.below _ c.requires.1 in
    (r.0, r.1, r.2, (flag_skips _ _ _ _ _ _ _ _ c.requires.0.below _ c.requires.1 _ c.requires.0.hint (ap kind_number c.in-Flag.is)).inside)

pub leaf-eval_argument_from-requires : goal.leaf-eval_argument_from-requires
leaf-eval_argument_from-requires t c = argument_turn _ _ _ _ _ _ _ _ c.requires.0.below _ c.requires.1 _ c.requires.0.hint (ap kind_number c.in-Argument.is)

pub leaf-eval_positional_from-requires : goal.leaf-eval_positional_from-requires
leaf-eval_positional_from-requires t c =
    let pre = c.requires in (
      pre.0.below.stands.made,
      pre.0.below.stands.state,
      positional_skips _ _ _ _ _ _ _ _ pre.0.below _ pre.1 _
          pre.0.hint (ap kind_number c.in-Positional.is),
    )

pub leaf-run_node-requires : goal.leaf-run_node-requires
leaf-run_node-requires t c = (omega arith, c.requires.0.below)

pub leaf-returns-in-Flag : goal.leaf-returns-in-Flag
leaf-returns-in-Flag t c = flag_again _ _ _ _ _ _ _ _ c.requires.0.below _ c.requires.1 _ _ _ c.requires.0.hint (ap kind_number c.in-Flag.is) c.eval_flag_from.ensures

pub leaf-returns-in-Argument : goal.leaf-returns-in-Argument
leaf-returns-in-Argument t c = argument_again _ _ _ _ _ _ _ _ c.requires.0.below _ c.requires.1 _ _ _ c.requires.0.hint (ap kind_number c.in-Argument.is) c.eval_argument_from.ensures

pub leaf-returns-in-Positional : goal.leaf-returns-in-Positional
leaf-returns-in-Positional t c = positional_says _ _ _ _ _ _ _ _ c.requires.0.below _ c.requires.1 _ _ (ap kind_number c.in-Positional.is) c.eval_positional_from.ensures

pub leaf-returns-in_default : goal.leaf-returns-in_default
leaf-returns-in_default t c = c.run_node.ensures

-- optional

pub optional-keeps_marks-requires : goal.optional-keeps_marks-requires
optional-keeps_marks-requires t c = has_tree _ _ _ _ _ _ _ _ c.requires.below

pub optional-run_node-ran-requires : goal.optional-run_node-ran-requires
optional-run_node-ran-requires t c = (omega arith, c.requires.below)

pub optional-optional-requires : goal.optional-optional-requires
optional-optional-requires t c = optional_given _ _ _ _ _ _ _ _ _ c.requires _ _ c.run_node-ran.ensures

pub optional-returns-then-keeps_marks : goal.optional-returns-then-keeps_marks
optional-returns-then-keeps_marks t c = optional_ends _ _ _ _ _ _ _ _ _ c.requires _ _ c.run_node-ran.ensures _ _ c.optional.ensures

pub optional-run_node-ran-requires-2 : goal.optional-run_node-ran-requires-2
optional-run_node-ran-requires-2 t c = (omega arith, c.requires.below)

pub optional-optional_unchanged-requires : goal.optional-optional_unchanged-requires
optional-optional_unchanged-requires t c = optional_short _ _ _ _ _ _ _ _ _ c.requires _ c.keeps_marks.ensures c.if-keeps_marks.false _ _ c.run_node-ran-2.ensures

pub optional-returns : goal.optional-returns
optional-returns t c = optional_unchanged _ _ _ _ _ _ _ _ _ c.requires _ c.keeps_marks.ensures c.if-keeps_marks.false _ _ c.run_node-ran-2.ensures _ c.optional_unchanged.ensures.by_index

-- run_node

pub run_node-node_at-x-requires : goal.run_node-node_at-x-requires
run_node-node_at-x-requires t c = (form_long _ _ _ _ _ _ _ _ c.requires, node_below _ _ _ _ _ _ _ _ c.requires)

pub run_node-eval_flag-requires : goal.run_node-eval_flag-requires
run_node-eval_flag-requires t c = flag_ready _ _ _ _ _ _ _ _ c.requires _ c.node_at-x.ensures

pub run_node-eval_argument-requires : goal.run_node-eval_argument-requires
run_node-eval_argument-requires t c = argument_ready _ _ _ _ _ _ _ _ c.requires _ c.node_at-x.ensures (ap kind_number c.in-Argument.is)

pub run_node-eval_positional-requires : goal.run_node-eval_positional-requires
run_node-eval_positional-requires t c = positional_ready _ _ _ _ _ _ _ _ c.requires _ c.node_at-x.ensures

pub run_node-optional-requires : goal.run_node-optional-requires
run_node-optional-requires t c =
    let l = optional_less _ _ _ _ _ _ _ _ c.requires _ c.node_at-x.ensures (ap kind_number c.in-Optional.is) in
    (omega arith, optional_ready _ _ _ _ _ _ _ _ c.requires _ c.node_at-x.ensures (ap kind_number c.in-Optional.is))

pub run_node-count-requires : goal.run_node-count-requires
run_node-count-requires t c =
    let l = count_less _ _ _ _ _ _ _ _ c.requires _ c.node_at-x.ensures (ap kind_number c.in-Count.is) in
    (omega arith, count_ready _ _ _ _ _ _ _ _ c.requires _ c.node_at-x.ensures (ap kind_number c.in-Count.is))

pub run_node-last-requires : goal.run_node-last-requires
run_node-last-requires t c =
    let l = last_less _ _ _ _ _ _ _ _ c.requires _ c.node_at-x.ensures (ap kind_number c.in-Last.is) in
    (omega arith, last_ready _ _ _ _ _ _ _ _ c.requires _ c.node_at-x.ensures (ap kind_number c.in-Last.is))

pub run_node-choice-requires : goal.run_node-choice-requires
run_node-choice-requires t c =
    let l = choice_less _ _ _ _ _ _ _ _ c.requires _ c.node_at-x.ensures (ap kind_number c.in-Choice.is) in
    let r = choice_less₂ _ _ _ _ _ _ _ _ c.requires _ c.node_at-x.ensures (ap kind_number c.in-Choice.is) in
    (omega arith, choice_ready _ _ _ _ _ _ _ _ c.requires _ c.node_at-x.ensures (ap kind_number c.in-Choice.is))

pub run_node-fallback-requires : goal.run_node-fallback-requires
run_node-fallback-requires t c =
    let l = fallback_less _ _ _ _ _ _ _ _ c.requires _ c.node_at-x.ensures (ap kind_number c.in-Fallback.is) in
    (omega arith, fallback_ready _ _ _ _ _ _ _ _ c.requires _ c.node_at-x.ensures (ap kind_number c.in-Fallback.is))

pub run_node-guard-requires : goal.run_node-guard-requires
run_node-guard-requires t c =
    let k = guard_is _ _ _ _ _ _ _ _ c.requires _ c.node_at-x.ensures c.in_default.not-Flag c.in_default.not-Argument
    c.in_default.not-Positional c.in_default.not-Optional c.in_default.not-Count c.in_default.not-Last c.in_default.not-Choice c.in_default.not-Fallback in
    let l = guard_less _ _ _ _ _ _ _ _ c.requires _ c.node_at-x.ensures k in
    (omega arith, guard_ready _ _ _ _ _ _ _ _ c.requires _ c.node_at-x.ensures k)

pub run_node-returns-in-Flag : goal.run_node-returns-in-Flag
run_node-returns-in-Flag t c = flag_node _ _ _ _ _ _ _ _ c.requires _ c.node_at-x.ensures _ _ (ap kind_number c.in-Flag.is) c.eval_flag.ensures

pub run_node-returns-in-Argument : goal.run_node-returns-in-Argument
run_node-returns-in-Argument t c = argument_node _ _ _ _ _ _ _ _ c.requires _ c.node_at-x.ensures _ _ (ap kind_number c.in-Argument.is) c.eval_argument.ensures

pub run_node-returns-in-Positional : goal.run_node-returns-in-Positional
run_node-returns-in-Positional t c = positional_says _ _ _ _ _ _ _ _ c.requires _ c.node_at-x.ensures _ _ (ap kind_number c.in-Positional.is) c.eval_positional.ensures

pub run_node-returns-in-Optional : goal.run_node-returns-in-Optional
run_node-returns-in-Optional t c = optional_says _ _ _ _ _ _ _ _ c.requires _ c.node_at-x.ensures _ _ (ap kind_number c.in-Optional.is) c.optional.ensures

pub run_node-returns-in-Count : goal.run_node-returns-in-Count
run_node-returns-in-Count t c = count_says _ _ _ _ _ _ _ _ c.requires _ c.node_at-x.ensures _ _ (ap kind_number c.in-Count.is) c.count.ensures

pub run_node-returns-in-Last : goal.run_node-returns-in-Last
run_node-returns-in-Last t c = last_says _ _ _ _ _ _ _ _ c.requires _ c.node_at-x.ensures _ _ (ap kind_number c.in-Last.is) c.last.ensures

pub run_node-returns-in-Choice : goal.run_node-returns-in-Choice
run_node-returns-in-Choice t c = choice_says _ _ _ _ _ _ _ _ c.requires _ c.node_at-x.ensures _ _ (ap kind_number c.in-Choice.is) c.choice.ensures

pub run_node-returns-in-Fallback : goal.run_node-returns-in-Fallback
run_node-returns-in-Fallback t c = c.fallback.ensures

pub run_node-returns-in_default : goal.run_node-returns-in_default
run_node-returns-in_default t c =
    let k = guard_is _ _ _ _ _ _ _ _ c.requires _ c.node_at-x.ensures c.in_default.not-Flag c.in_default.not-Argument
    c.in_default.not-Positional c.in_default.not-Optional c.in_default.not-Count c.in_default.not-Last c.in_default.not-Choice c.in_default.not-Fallback in
    guard_says _ _ _ _ _ _ _ _ c.requires _ c.node_at-x.ensures _ _ k c.guard.ensures

-- run_repeat

pub run_repeat-leaf_below-leaf-requires : goal.run_repeat-leaf_below-leaf-requires
run_repeat-leaf_below-leaf-requires t c = (c.requires.below.stands.tree, c.requires.below.stands.node)

pub run_repeat-node_at-requires : goal.run_repeat-node_at-requires
run_repeat-node_at-requires t c =
    let within = leaf_within _ _ _ _ _ _ _ _ c.requires.below _ c.leaf_below-leaf.ensures.searched in
    (form_long _ _ _ _ _ _ _ _ c.requires.below, omega (arith, within, node_below _ _ _ _ _ _ _ _ c.requires.below))

pub run_repeat-keeps_marks-keeps-requires : goal.run_repeat-keeps_marks-keeps-requires
run_repeat-keeps_marks-keeps-requires t c = has_tree _ _ _ _ _ _ _ _ c.requires.below

pub run_repeat-loop-out-init : goal.run_repeat-loop-out-init
run_repeat-loop-out-init t c = (turn_first _ _ _ _ _ _ _ _ _ c.requires _ refl _ c.nothing-all.ensures, λ e. refl)

pub run_repeat-turn-ran-requires : goal.run_repeat-turn-ran-requires
run_repeat-turn-ran-requires t c = (omega arith, (turn_asks _ _ _ _ _ _ _ _ _ _ _ _ _ _ _ c.loop-out.invariant.0, c.leaf_below-leaf.ensures.searched, c.node_at.ensures))

pub run_repeat-write_value-width-requires : goal.run_repeat-write_value-width-requires
run_repeat-write_value-width-requires t c = turn_space _ _ _ _ _ _ _ _ _ _ _ _ _ _ _ c.loop-out.invariant.0 _ _ c.turn-ran.ensures (sym c.parse_option.ensures ∙ c.in-Counted.is)

pub run_repeat-one_more-all-requires : goal.run_repeat-one_more-all-requires
run_repeat-one_more-all-requires t c =
    turn_adds _ _ _ _ _ _ _ _ _ _ _ _ _ _ _ c.loop-out.invariant.0 _ _ c.turn-ran.ensures (sym c.parse_option.ensures ∙ c.in-Counted.is) _ _
    c.write_value-width.ensures

pub run_repeat-returns-then-idle : goal.run_repeat-returns-then-idle
run_repeat-returns-then-idle t c =
    turn_idles _ _ _ _ _ _ _ _ _ _ _ _ _ _ _ c.loop-out.invariant.0 _ _ c.turn-ran.ensures (sym c.parse_option.ensures ∙ c.in-Counted.is) _ _
    c.write_value-width.ensures _ c.one_more-all.ensures _ c.idle.ensures c.if-idle.true

pub run_repeat-loop-out-smaller : goal.run_repeat-loop-out-smaller
run_repeat-loop-out-smaller t c = turn_less _ _ _ _ _ _ _ _ _ _ _ _ _ _ _ c.loop-out.invariant.0 _ _ c.turn-ran.ensures (sym c.parse_option.ensures ∙ c.in-Counted.is)

pub run_repeat-loop-out-preserved : goal.run_repeat-loop-out-preserved
run_repeat-loop-out-preserved t c =
    let loop = c.loop-out in (
      turn_next _ _ _ _ _ _ _ _ _ _ _ _ _ _ _ loop.invariant.0 _ _ c.turn-ran.ensures (sym c.parse_option.ensures ∙ c.in-Counted.is) _ _
          c.write_value-width.ensures _ c.one_more-all.ensures _ c.idle.ensures c.if-idle.false _ c.next_from-from.ensures,
      if_taken _ _ _ _ c.copy_if.ensures,
    )

pub run_repeat-ended-requires : goal.run_repeat-ended-requires
run_repeat-ended-requires t c = turn_fits _ _ _ _ _ _ _ _ _ _ _ _ _ _ _ c.loop-out.invariant.0 _ _ c.turn-ran.ensures

pub run_repeat-returns-in-Uncounted : goal.run_repeat-returns-in-Uncounted
run_repeat-returns-in-Uncounted t c =
    turn_ends _ _ _ _ _ _ _ _ _ _ _ _ _ _ _ c.loop-out.invariant.0 _ _ c.turn-ran.ensures (sym c.parse_option.ensures ∙ c.in-Uncounted.is) _
    c.ended.ensures

pub run_repeat-ended-requires-in-Absent : goal.run_repeat-ended-requires-in-Absent
run_repeat-ended-requires-in-Absent t c = turn_fits _ _ _ _ _ _ _ _ _ _ _ _ _ _ _ c.loop-out.invariant.0 _ _ c.turn-ran.ensures

pub run_repeat-returns-in-Absent : goal.run_repeat-returns-in-Absent
run_repeat-returns-in-Absent t c =
    turn_stops _ _ _ _ _ _ _ _ _ _ _ _ _ _ _ c.loop-out.invariant.0 _ _ c.turn-ran.ensures (sym c.parse_option.ensures ∙ c.in-Absent.is) _
    c.keeps_marks-keeps.ensures _ c.loop-out.invariant.1 _ c.copy_if-in-Absent.ensures _ c.ended-in-Absent.ensures

pub run_repeat-unwrite-requires : goal.run_repeat-unwrite-requires
run_repeat-unwrite-requires t c = space_kept _ _ _ _ _ _ _ _ _ _ _ _ _ _ _ c.loop-out.invariant.0

pub run_repeat-passed_on-requires : goal.run_repeat-passed_on-requires
run_repeat-passed_on-requires t c = turn_fits _ _ _ _ _ _ _ _ _ _ _ _ _ _ _ c.loop-out.invariant.0 _ _ c.turn-ran.ensures

pub run_repeat-returns-in-PassedOn : goal.run_repeat-returns-in-PassedOn
run_repeat-returns-in-PassedOn t c =
    turn_refused _ _ _ _ _ _ _ _ _ _ _ _ _ _ _ c.loop-out.invariant.0 _ _ c.turn-ran.ensures (sym c.parse_option.ensures ∙ c.in-PassedOn.is) _
    c.unwrite.ensures _ c.passed_on.ensures

-- turn

pub turn-leaf-ran-requires : goal.turn-leaf-ran-requires
turn-leaf-ran-requires t c =
    let l = leaf_within _ _ _ _ _ _ _ _ c.requires.0.below _ c.requires.1 in
    (omega arith, (leaf_turns _ _ _ _ _ _ _ _ _ c.requires.0 _ c.requires.1, c.requires.2))

pub turn-wrap-requires : goal.turn-wrap-requires
turn-wrap-requires t c = leaf_ran _ _ _ _ _ _ _ _ _ c.requires.0 _ c.requires.1 _ _ c.leaf-ran.ensures

pub turn-returns : goal.turn-returns
turn-returns t c = c.wrap.ensures _ _ _ _ _ _ c.requires.0.below c.leaf-ran.ensures
