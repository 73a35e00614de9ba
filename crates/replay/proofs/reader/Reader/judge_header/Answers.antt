use Rattle.std.proofs.Common.{◌++◌, ap, ◌∙◌}
use Rattle.text_rules.specs.ReadLine.{header_of}
use Rattle.text_rules.specs.BadLine.{header_forms}
use Rattle.replay.proofs.BadLineLemmas.{on_ok_more, found_at, header_text}
use Rattle.replay.proofs.reader.Reader.judge_header.Goals as goal

pub returns-in-Err-BadLine-clause-text : goal.returns-in-Err-BadLine-clause-text
returns-in-Err-BadLine-clause-text c =
    let r = c.args.self.now in
    let found =
    found_at header_of header_forms c.as_slice.result.now r.reading.part c.in-Err-BadLine.field-0 c.in-Err-BadLine.column c.in-Err-BadLine.reason c.in-Err-BadLine.ensures.read c.in-Err-BadLine.field-0-is
    (c.as_slice.ensures.value ∙ ap (λ r. r.reading.part) c.self.view_is) in
    on_ok_more c.refuse.result _ _ _ c.refuse.ensures.text (ap (λ t. c.args.text.now ++ t) (header_text c.args.self.now.totals r.reading c.in-Err-BadLine.column c.in-Err-BadLine.reason found))
