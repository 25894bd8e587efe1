-- W, then the three ranges and what lies between them. Assumes nothing.
use mathlib.Core.Path.{sym, ◌∙◌}
use native.Mathlib.Omega.{arith}
use borrow.Author.Tests.{le-leb, lt-leb}
use Rattle.form_names.proofs.Records.{portable_vendors, portable_digit, portable_upper, portable_between, portable_lower}
use Rattle.form_names.proofs.portable_character.Goals as goal

pub returns-in-87 : goal.returns-in-87
returns-in-87 c = search portable_vendors

pub returns-in-48-to-57 : goal.returns-in-48-to-57
returns-in-48-to-57 c = sym (le-leb 48 _ (omega arith)) ∙ portable_digit c.args.c (λ e. omega arith) (omega arith)

pub returns-in-65-to-90 : goal.returns-in-65-to-90
returns-in-65-to-90 c = sym (le-leb 65 _ (omega arith)) ∙ portable_upper c.args.c (λ e. omega arith) (omega arith) (omega arith)

pub returns-in-97-to-122 : goal.returns-in-97-to-122
returns-in-97-to-122 c = sym (le-leb _ 122 (omega arith)) ∙ portable_lower c.args.c (λ e. omega arith) (omega arith) (omega arith) (omega arith)

pub returns-in_default : goal.returns-in_default
returns-in_default c = sym (lt-leb 48 _ (omega arith)) ∙ portable_digit c.args.c (λ e. omega arith) (omega arith)

pub returns-in_default-2 : goal.returns-in_default-2
returns-in_default-2 c = sym (lt-leb 65 _ (omega arith)) ∙ portable_upper c.args.c (λ e. omega arith) (omega arith) (omega arith)

pub returns-in_default-3 : goal.returns-in_default-3
returns-in_default-3 c = portable_between c.args.c (λ e. omega arith) (omega arith) (omega arith) (omega arith)

pub returns-in_default-4 : goal.returns-in_default-4
returns-in_default-4 c = sym (lt-leb _ 122 (omega arith)) ∙ portable_lower c.args.c (λ e. omega arith) (omega arith) (omega arith) (omega arith)
