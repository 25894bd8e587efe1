use Rattle.std.proofs.Common.{◌≡◌, sym, ap, ◌∙◌, ℕ, ◌+◌, ◌-◌, ◌*◌, get_or, drop, arith, rules}
use Rattle.eval_number.specs.Number.{option_of, read_on, too_large_lem, digit_next, digit_bad, digits_end, unsigned_empty, unsigned_some}
use Rattle.eval_number.proofs.unsigned.Goals as goal

pub returns-then-is_empty : goal.returns-then-is_empty
returns-then-is_empty c = search (rules, unsigned_empty)

pub returns-then-not-is_ascii_digit : goal.returns-then-not-is_ascii_digit
returns-then-not-is_ascii_digit c =
    let s = c.args.digits.now in
    let bad = digit_bad c.loop-b.n s c.loop-b.b-index c.loop-b-test.true (sym c.is_ascii_digit.ensures.value ∙ c.if-not-is_ascii_digit.true) in
    sym (c.loop-b.invariant.same ∙ bad) ∙ unsigned_some s (omega (arith, c.loop-b-test.true))

pub returns-in_err-checked_mul : goal.returns-in_err-checked_mul
returns-in_err-checked_mul c =
    let s = c.args.digits.now in
    let next = digit_next c.loop-b.n s c.loop-b.b-index c.loop-b-test.true (sym c.is_ascii_digit.ensures.value ∙ c.if-not-is_ascii_digit.false) in
    let far = too_large_lem (c.loop-b.n * 10 + (get_or s c.loop-b.b-index 0 - 48)) (drop (c.loop-b.b-index + 1) s) (omega (arith, c.in_err-checked_mul.ensures)) in
    ap option_of c.from_residual.ensures ∙ sym (c.loop-b.invariant.same ∙ next ∙ far) ∙ unsigned_some s (omega (arith, c.loop-b-test.true))

pub returns-in_err-n : goal.returns-in_err-n
returns-in_err-n c =
    let s = c.args.digits.now in
    let next = digit_next c.loop-b.n s c.loop-b.b-index c.loop-b-test.true (sym c.is_ascii_digit.ensures.value ∙ c.if-not-is_ascii_digit.false) in
    let far = too_large_lem (c.loop-b.n * 10 + (get_or s c.loop-b.b-index 0 - 48)) (drop (c.loop-b.b-index + 1) s)
    (omega (arith, c.in_ok-checked_mul.ensures, c.from.ensures, c.in_err-n.ensures)) in
    ap option_of c.from_residual-in_err-n.ensures ∙ sym (c.loop-b.invariant.same ∙ next ∙ far) ∙ unsigned_some s (omega (arith, c.loop-b-test.true))

pub loop-b-preserved : goal.loop-b-preserved
loop-b-preserved c =
    let s = c.args.digits.now in
    let next = digit_next c.loop-b.n s c.loop-b.b-index c.loop-b-test.true (sym c.is_ascii_digit.ensures.value ∙ c.if-not-is_ascii_digit.false) in
    let n : c.loop-b.n * 10 + (get_or s c.loop-b.b-index 0 - 48) ≡ c.in_ok-n.n = omega (arith, c.in_ok-checked_mul.ensures, c.from.ensures, c.in_ok-n.ensures) in
    record {
      small = omega (arith, c.in_ok-checked_mul.ensures, c.from.ensures, c.in_ok-n.ensures);
      same = c.loop-b.invariant.same ∙ next ∙ ap (λ (k : ℕ). read_on k (drop (c.loop-b.b-index + 1) s)) n;
    }

pub returns : goal.returns
returns c =
    let s = c.args.digits.now in
    sym (c.loop-b.invariant.same ∙ digits_end c.loop-b.n s c.loop-b.b-index c.loop-b-test.false c.loop-b.invariant.small)
    ∙ unsigned_some s (search rules)
