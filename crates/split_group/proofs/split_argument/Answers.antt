-- By what `split_os_argument` finds (`Groups`). Assumes nothing.
use native.Mathlib.Omega.{arith}
use borrow.Author.Rules.{rules}
use Rattle.split_group.proofs.Groups.{cluster_in, value_in, long_fits, long_inside, named_fits, named_inside, value_inside}
use Rattle.split_group.proofs.Groups.{no_name, short_name_lem, short_value_name, a_long, a_long_value}
use Rattle.split_group.proofs.split_argument.Goals as goal

pub split_cluster-requires : goal.split_cluster-requires
split_cluster-requires c = let found = rw c.in-Some-Short.field-0-is at c.in-Some-Short.is in (search cluster_in, search rules)

pub split_value-requires : goal.split_value-requires
split_value-requires c = let found = rw c.in-Some-ShortBody.field-0-is at c.in-Some-ShortBody.is in search value_in

pub overflow_add-name : goal.overflow_add-name
overflow_add-name c = let found = rw c.in-Some-Long.field-0-is at c.in-Some-Long.is in record { fits = search long_fits }

pub text-long-requires : goal.text-long-requires
text-long-requires c = let found = rw c.in-Some-Long.field-0-is at c.in-Some-Long.is in (search long_inside, omega arith)

pub overflow_add-name-in-Some-LongBody : goal.overflow_add-name-in-Some-LongBody
overflow_add-name-in-Some-LongBody c =
    let found = rw c.in-Some-LongBody.field-0-is at c.in-Some-LongBody.is in record { fits = search named_fits }

pub text-long-requires-in-Some-LongBody : goal.text-long-requires-in-Some-LongBody
text-long-requires-in-Some-LongBody c =
    let found = rw c.in-Some-LongBody.field-0-is at c.in-Some-LongBody.is in (search named_inside, omega arith)

pub text-value-requires : goal.text-value-requires
text-value-requires c = let found = rw c.in-Some-LongBody.field-0-is at c.in-Some-LongBody.is in search (value_inside, rules)

pub returns-in-None : goal.returns-in-None
returns-in-None c = search no_name

pub returns-in-Some-Short : goal.returns-in-Some-Short
returns-in-Some-Short c = let found = rw c.in-Some-Short.field-0-is at c.in-Some-Short.is in search short_name_lem

pub returns-in-Some-ShortBody : goal.returns-in-Some-ShortBody
returns-in-Some-ShortBody c = let found = rw c.in-Some-ShortBody.field-0-is at c.in-Some-ShortBody.is in search short_value_name

pub returns-in-Some-Long : goal.returns-in-Some-Long
returns-in-Some-Long c = let found = rw c.in-Some-Long.field-0-is at c.in-Some-Long.is in search a_long

pub returns-in-Some-LongBody : goal.returns-in-Some-LongBody
returns-in-Some-LongBody c = let found = rw c.in-Some-LongBody.field-0-is at c.in-Some-LongBody.is in search a_long_value
