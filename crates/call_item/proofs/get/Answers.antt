-- Each refusal in its turn, then the record. Assumes nothing.
use borrow.Author.Rules.{rules}
use mathlib.Core.Path.{◌≡◌, refl}
use lib.ListN.{length}
use Rattle.call_item.proofs.Laws.{get_refused, get_beyond, scope_small, get_absent, get_room, get_found}
use Rattle.call_item.proofs.get.Goals as goal

pub returns-in-Err : goal.returns-in-Err
returns-in-Err c = rw c.nothing.ensures (get_refused _ _ _ _ c.in-Err.ensures _)

pub returns-then-s-place : goal.returns-then-s-place
returns-then-s-place c = rw c.nothing-then-s-place.ensures (get_beyond _ _ _ c.in_default.ensures _ _ refl c.if-s-place.true)

pub is_free-requires : goal.is_free-requires
is_free-requires c = scope_small _ _ _ c.in_default.ensures

pub record_words-item-requires : goal.record_words-item-requires
record_words-item-requires c = get_room _ _ _ c.in_default.ensures _ _ refl c.if-s-place.false

pub returns-then-is_free : goal.returns-then-is_free
returns-then-is_free c =
    let long : length c.args.s.marks ≡ 256 = search (rules, c.well_formed) in
    get_found _ _ _ c.in_default.ensures _ _ refl c.if-s-place.false long _ c.is_free.ensures c.if-is_free.true _ c.record_words-item.ensures

pub returns-else-is_free : goal.returns-else-is_free
returns-else-is_free c =
    let long : length c.args.s.marks ≡ 256 = search (rules, c.well_formed) in
    get_absent _ _ _ c.in_default.ensures _ _ refl c.if-s-place.false long _ c.is_free.ensures c.if-is_free.false
