-- A turn keeps the bound, and goes one place on in the scan; the end of the scan is what `call_find` finds. Assumes nothing.
use Rattle.std.proofs.Common.{◌+◌, ◌≤◌, drop, sym, ◌∙◌, ap, subst}
use borrow.Author.Rules.{rules}
use Rattle.call_find.specs.declared.Seen.{Seen}
use Rattle.call_find.specs.Scan.{scan}
use Rattle.call_find.proofs.Scan.{started_able, turned_most, scan_end, scan_step}
use Rattle.call_find.proofs.Laws.{stopped, found_by}
use Rattle.call_find.proofs.find.Goals as goal

pub refused_at-requires : goal.refused_at-requires
refused_at-requires c = c.in-Err.ensures.small

pub returns-in-Err : goal.returns-in-Err
returns-in-Err c = stopped _ _ _ _ _ _ c.in-Err.ensures _ c.refused_at.ensures

pub turn-seen-requires : goal.turn-seen-requires
turn-seen-requires c = (started_able _ _ _ _ c.in-Ok.ensures, search rules)

pub loop-i-preserved : goal.loop-i-preserved
loop-i-preserved c =
    let a = c.args in
    let g = c.in-Ok.search in
    let u = c.loop-i.invariant in
    let e = c.turn-seen.ensures in
    record {
      small = subst (λ (d : Seen). d.found ≤ d.count + 1) (sym e) (turned_most a.form.now a.sheet.now a.s g _ c.loop-i.i c.loop-i.seen u.small);
      same =
          u.same ∙ scan_step a.form.now a.sheet.now a.s g a.items.now c.loop-i.i c.loop-i.seen _ c.loop-i-test.true
          ∙ ap (scan a.form.now a.sheet.now a.s g (drop (c.loop-i.i + 1) a.items.now) (c.loop-i.i + 1)) (sym e);
    }

pub returns : goal.returns
returns c =
    let a = c.args in
    let g = c.in-Ok.search in
    let t = scan_end a.form.now a.sheet.now a.s g a.items.now c.loop-i.i c.loop-i.seen c.loop-i-test.false in
    found_by a.form.now a.sheet.now a.items.now a.s a.node g c.in-Ok.ensures c.loop-i.seen
    (sym (c.loop-i.invariant.same ∙ t)) c.finish.result c.finish.ensures
