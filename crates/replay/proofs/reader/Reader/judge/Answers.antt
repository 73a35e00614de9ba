use Rattle.std.proofs.Common.{◌≡◌, None, not, ap, subst, ◌∙◌}
use Rattle.std.specs.Prelude.{IsSome}
use Rattle.replay.specs.ReaderView.{ReaderView}
use Rattle.replay.proofs.Telling.{none_there, some_there, header_tells, event_tells}
use Rattle.replay.proofs.reader.Reader.judge.Goals as goal

pub returns-then-is_none-clause-told : goal.returns-then-is_none-clause-told
returns-then-is_none-clause-told c =
    let none : c.args.self.now.reading.cluster ≡ None =
    subst (λ (v : ReaderView). v.reading.cluster ≡ None) c.self.view_is (none_there c.self.inside.cluster (c.is_none.ensures ∙ ap not c.if-is_none.true)) in
    let e = c.judge_header.ensures in
    header_tells c.args.self.now c.judge_header.new.self c.args.text.now c.judge_header.new.text c.judge_header.result none e.text e.place e.stop e.totals e.counts

pub returns-clause-told : goal.returns-clause-told
returns-clause-told c =
    let some : IsSome c.args.self.now.reading.cluster =
    subst (λ (v : ReaderView). IsSome v.reading.cluster) c.self.view_is (some_there c.self.inside.cluster (c.is_none.ensures ∙ ap not c.if-is_none.false)) in
    event_tells c.args.self.now c.judge_event.new.self c.args.text.now c.judge_event.new.text c.judge_event.result some c.judge_event.ensures.told
