use Rattle.std.proofs.Common.{arith}
use Rattle.std.proofs.lemmas.Str.{digit_value_digit}
use Rattle.std.proofs.lemmas.Str.Parse.{digits_value-take-le, digit_at}
use Rattle.std.proofs.lemmas.Int.Digits.{digits_value_more}
use Rattle.line_laws.proofs.Digits.{ten_digits}
use Rattle.schedule_text.proofs.fields.value_of.Goals as goal

pub overflow_mul-value : goal.overflow_mul-value
overflow_mul-value c =
    let all = ten_digits c.args.digits.now c.requires.all c.requires.few in
    let part = digits_value-take-le 10 c.args.digits.now c.loop-digit.digit-index (omega arith) in
    let now = c.loop-digit.invariant in
    omega (arith, all, part, now)

pub overflow_sub-value : goal.overflow_sub-value
overflow_sub-value c =
    let range = digit_at c.args.digits.now c.loop-digit.digit-index c.requires.all (omega (arith, c.loop-digit-test.true)) in
    omega (arith, range.0)

pub overflow_add-value : goal.overflow_add-value
overflow_add-value c =
    let all = ten_digits c.args.digits.now c.requires.all c.requires.few in
    let part = digits_value-take-le 10 c.args.digits.now c.loop-digit.digit-index (omega arith) in
    let now = c.loop-digit.invariant in
    let range = digit_at c.args.digits.now c.loop-digit.digit-index c.requires.all (omega (arith, c.loop-digit-test.true)) in
    omega (arith, all, part, now, range.1)

pub loop-digit-preserved : goal.loop-digit-preserved
loop-digit-preserved c =
    let range = digit_at c.args.digits.now c.loop-digit.digit-index c.requires.all (omega (arith, c.loop-digit-test.true)) in
    let more = digits_value_more 10 c.args.digits.now c.loop-digit.digit-index (omega (arith, c.loop-digit-test.true)) in
    let value = digit_value_digit _ range in
    let now = c.loop-digit.invariant in
    omega (arith, more, value, now)
