use Rattle.std.proofs.Common.{arith}
use Rattle.node_frames.proofs.ReadingLemmas.{column_read}
use Rattle.node_frames.proofs.reading.line_of.Goals as goal

pub overflow_add-result : goal.overflow_add-result
overflow_add-result c =
    let bad = c.in-Err-BadLine in
    let within = column_read c.args.text.now bad.field-0 bad.column bad.reason bad.ensures.read bad.field-0-is in
    omega (arith, within, c.requires)
