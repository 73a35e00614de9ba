use Rattle.std.proofs.Common.{◌≡◌, true, Some, ◌++◌, refl, ap, ◌∙◌}
use Rattle.text_rules.specs.ReadEvent.{event_of}
use Rattle.text_rules.specs.BadLine.{event_forms, bad_at, Byte, Short}
use Rattle.schedule_text.specs.LineAnswer.{why_of}
use Rattle.replay.proofs.BadLineLemmas.{on_ok_more, found_at, good_text, byte_text, short_text}
use Rattle.replay.proofs.cuts.cut_event.Goals as goal

pub returns-in-Ok : goal.returns-in-Ok
returns-in-Ok c =
    let part = c.args.part.now in
    on_ok_more c.cut.result _ _ _ c.cut.ensures (ap (λ t. c.args.text.now ++ t) (good_text event_forms c.args.lines part part c.in-Ok.ensures.read.1 refl))

pub returns-in-Byte : goal.returns-in-Byte
returns-in-Byte c =
    let part = c.args.part.now in
    let found =
    found_at event_of event_forms part part c.in-Err-BadLine.field-0 c.in-Err-BadLine.column c.in-Err-BadLine.reason c.in-Err-BadLine.ensures.read c.in-Err-BadLine.field-0-is refl in
    let at : bad_at true event_forms part ≡ Some (c.in-Err-BadLine.column, Byte) = found.1 ∙ ap (λ w. Some (c.in-Err-BadLine.column, why_of w)) c.in-Byte.is in
    on_ok_more c.bad.result _ _ _ c.bad.ensures (ap (λ t. c.args.text.now ++ t) (byte_text event_forms c.args.lines c.in-Err-BadLine.column part at))

pub returns-in-Short : goal.returns-in-Short
returns-in-Short c =
    let part = c.args.part.now in
    let found =
    found_at event_of event_forms part part c.in-Err-BadLine.field-0 c.in-Err-BadLine.column c.in-Err-BadLine.reason c.in-Err-BadLine.ensures.read c.in-Err-BadLine.field-0-is refl in
    let at : bad_at true event_forms part ≡ Some (c.in-Err-BadLine.column, Short) = found.1 ∙ ap (λ w. Some (c.in-Err-BadLine.column, why_of w)) c.in-Short.is in
    on_ok_more c.cut-in-Short.result _ _ _ c.cut-in-Short.ensures (ap (λ t. c.args.text.now ++ t) (short_text event_forms c.args.lines c.in-Err-BadLine.column part at))
