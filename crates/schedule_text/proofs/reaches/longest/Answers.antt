use Rattle.line_laws.proofs.Digits.{take_digits}
use Rattle.schedule_text.proofs.reaches.longest.Goals as goal

pub is_numeral_up_to-requires-clause-all : goal.is_numeral_up_to-requires-clause-all
is_numeral_up_to-requires-clause-all c =
    take_digits c.args.bytes.now c.args.most c.loop-count.count c.loop-count.invariant.most c.requires.digits
