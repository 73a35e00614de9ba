use Rattle.std.proofs.Common.{◌<◌, ◌&&◌, nat_le, ap, sym, ◌∙◌, arith}
use Rattle.std.specs.Str.Parse.{digits_value}
use Rattle.line_laws.proofs.Numerals.{same_numeral}
use Rattle.schedule_text.proofs.reaches.is_numeral_up_to.Goals as goal

pub returns-else-is_numeral-clause-value : goal.returns-else-is_numeral-clause-value
returns-else-is_numeral-clause-value c =
    let small : c.args.high < 10000000000 = let fits = c.ranges.high.fits in omega (arith, fits) in
    let same = same_numeral c.args.digits.now c.args.high c.requires.all small c.requires.some in
    c.if-is_numeral.false
    ∙ sym (same ∙ ap (λ t. t && nat_le (digits_value 10 c.args.digits.now) c.args.high) (sym c.is_numeral.ensures ∙ c.if-is_numeral.false))
