-- The kind of the value is asked for fallbacks alone. Assumes nothing.
use mathlib.Core.Path.{◌≡◌, refl, ap}
use borrow.Author.Rules.{rules}
use Rattle.form_layout.specs.declared.Kind.TheVariants.{Fallback}
use Rattle.form_layout.specs.Kinds.{kind_number}
use Rattle.form_layout.proofs.KindNumbers.{not_kind}
use Rattle.form_join.proofs.MovedLaws.{other_kind, fallback_kind}
use Rattle.form_join.proofs.has_text.Goals as goal

pub returns-then-eq : goal.returns-then-eq
returns-then-eq c =
    let e : c.args.x.kind ≡ Fallback = search rules in
    fallback_kind _ _ _ (ap kind_number e) _ c.kind.ensures

pub returns-else-eq : goal.returns-else-eq
returns-else-eq c = other_kind _ _ _ (not_kind _ 10 refl (λ e. search rules)) _ c.if-eq.false
