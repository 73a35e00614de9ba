use Rattle.std.proofs.Common.{length-take, ap, arith}
use Rattle.std.specs.List.{prefix_len}
use Rattle.std.specs.Char.{is_ascii_digit}
use Rattle.text_rules.specs.LineForms.{Reach}
use Rattle.line_laws.proofs.Digits.{digits_at_front, take_digits}
use Rattle.schedule_text.proofs.reaches.reach_of_number.Goals as goal

pub longest-count-requires-clause-within : goal.longest-count-requires-clause-within
longest-count-requires-clause-within c = omega (arith, c.min.ensures, c.digits_len.ensures.most)

pub longest-count-requires-clause-digits : goal.longest-count-requires-clause-digits
longest-count-requires-clause-digits c =
    take_digits c.args.bytes.now (prefix_len is_ascii_digit c.args.bytes.now) c.min.result (omega (arith, c.min.ensures, c.digits_len.ensures.value))
    (digits_at_front c.args.bytes.now)

pub slice_bounds-value_of-end : goal.slice_bounds-value_of-end
slice_bounds-value_of-end c =
    let len = length-take c.longest-count.result c.args.bytes.now in
    omega (arith, len, c.min.ensures, c.digits_len.ensures.most, c.longest-count.ensures.most)

pub value_of-requires-clause-all : goal.value_of-requires-clause-all
value_of-requires-clause-all c =
    take_digits c.args.bytes.now (prefix_len is_ascii_digit c.args.bytes.now) c.longest-count.result
    (omega (arith, c.min.ensures, c.digits_len.ensures.value, c.longest-count.ensures.most)) (digits_at_front c.args.bytes.now)

pub returns-clause-most : goal.returns-clause-most
returns-clause-most c =
    let count = ap (λ (r : Reach). r.count) c.new-2.ensures in
    omega (arith, count, c.min.ensures, c.digits_len.ensures.most, c.longest-count.ensures.most)
