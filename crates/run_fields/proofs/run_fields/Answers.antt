use mathlib.Core.Path.{refl}
use Rattle.run_fields.proofs.LeftOver.{all_refused, scope_order, all_empty, place_fits, place_more, all_left}
use Rattle.run_fields.proofs.run_fields.Goals as goal

pub returns-then-all-ne0 : goal.returns-then-all-ne0
returns-then-all-ne0 c = λ a e. all_refused _ _ _ _ _ _ _ _ c.requires _ _ _ a e (c.each_field-all.ensures a e) c.if-all-ne0.true

pub first_present-place-requires : goal.first_present-place-requires
first_present-place-requires c =
    scope_order _ _ _ _ _ _ _ _ c.requires _ _ _ c.requires.result c.requires.accepts (c.each_field-all.ensures c.requires.result c.requires.accepts) _ _ refl
    refl

pub returns-then-end-place : goal.returns-then-end-place
returns-then-end-place c =
    λ a e. all_empty _ _ _ _ _ _ _ _ c.requires _ _ _ a e (c.each_field-all.ensures a e) _ _ _ refl refl c.first_present-place.ensures
    c.if-end-place.true

pub overflow_cast-place : goal.overflow_cast-place
overflow_cast-place c =
    record {
      fits = place_fits _ _ _ _ _ _ _ _ c.requires _ _ _ c.requires.result c.requires.accepts (c.each_field-all.ensures c.requires.result c.requires.accepts) _ _ _
          refl refl c.first_present-place.ensures;
    }

pub overflow_add-place : goal.overflow_add-place
overflow_add-place c =
    record {
      fits = place_more _ _ _ _ _ _ _ _ c.requires _ _ _ c.requires.result c.requires.accepts (c.each_field-all.ensures c.requires.result c.requires.accepts) _ _ _
          refl refl c.first_present-place.ensures;
    }

pub returns : goal.returns
returns c =
    λ a e. all_left _ _ _ _ _ _ _ _ c.requires _ _ _ a e (c.each_field-all.ensures a e) _ _ _ refl refl c.first_present-place.ensures
    c.if-all-ne0.false c.if-end-place.false _ refl _ c.fill.ensures _ c.refused.ensures
