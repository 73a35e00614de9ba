use Rattle.std.proofs.Common.{sym, ◌∙◌, arith}
use Rattle.line_laws.proofs.Steps.{shared_end}
use Rattle.schedule_text.proofs.reaches.shared.Goals as goal

pub returns-else-count-bytes-clause-value : goal.returns-else-count-bytes-clause-value
returns-else-count-bytes-clause-value c =
    let end = c.if-count-bytes.false in
    sym (shared_end c.args.word.now c.args.bytes.now c.loop-count.count (omega (arith, end))) ∙ c.loop-count.invariant.value
