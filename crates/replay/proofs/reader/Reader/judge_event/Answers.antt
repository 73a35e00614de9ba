use Rattle.std.proofs.Common.{◌≡◌, Some, sym, ap, subst, ◌∙◌}
use Rattle.std.specs.Prelude.{IfOk}
use Rattle.text_rules.specs.ReadEvent.{event_of}
use Rattle.text_rules.specs.BadLine.{event_forms}
use Rattle.replay.specs.ReaderView.{ReaderView}
use Rattle.replay.specs.Told.{Tells, line_told}
use Rattle.replay.proofs.BadLineLemmas.{found_at}
use Rattle.replay.proofs.Telling.{bad_tells}
use Rattle.replay.proofs.reader.Reader.judge_event.Goals as goal

pub returns-in-Ok-clause-told : goal.returns-in-Ok-clause-told
returns-in-Ok-clause-told c =
    let v = c.args.self.now in
    let same = c.as_slice.ensures.value ∙ ap (λ (r : ReaderView). r.reading.part) c.self.view_is in
    let line : event_of v.reading.part ≡ Some c.in-Ok.event = ap event_of (sym same) ∙ c.in-Ok.ensures.read.0 in
    subst (λ o. IfOk c.run.result (λ s. Tells (line_told v v.reading.cluster o) v c.args.text.now c.run.new.text s c.run.new.self)) (sym line) c.run.ensures.told

pub returns-in-Err-BadLine-clause-told : goal.returns-in-Err-BadLine-clause-told
returns-in-Err-BadLine-clause-told c =
    let v = c.args.self.now in
    let found =
    found_at event_of event_forms c.as_slice.result.now v.reading.part c.in-Err-BadLine.field-0 c.in-Err-BadLine.column c.in-Err-BadLine.reason c.in-Err-BadLine.ensures.read c.in-Err-BadLine.field-0-is
    (c.as_slice.ensures.value ∙ ap (λ (r : ReaderView). r.reading.part) c.self.view_is) in
    bad_tells v c.refuse.new.self c.in-Err-BadLine.column c.in-Err-BadLine.reason c.args.text.now c.refuse.new.text c.refuse.result c.requires.cluster found c.refuse.ensures.text c.refuse.ensures.status c.refuse.ensures.same
