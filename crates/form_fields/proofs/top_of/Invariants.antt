-- Invariant: from node m on it goes up from `at` as from n. Assumes nothing.
use Rattle.form_fields.proofs.Owners.{TopFrom}
use Rattle.form_fields.proofs.top_of.Given as goal

abbrev pub invariant-loop-m : goal.invariant-loop-m
invariant-loop-m l = TopFrom l.b l.n l.m l.at
