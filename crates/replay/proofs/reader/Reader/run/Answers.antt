use Rattle.std.proofs.Common.{◌≡◌, Some, sym, ap, subst}
use Rattle.std.specs.Prelude.{IfOk}
use Rattle.std.specs.Option.{option_map}
use Rattle.text_rules.specs.ReadEvent.{event_of}
use Rattle.cluster_parts.specs.Ends.{Ends}
use Rattle.cluster_parts.specs.State.{cluster_of}
use Rattle.replay.specs.ReaderView.{ReaderView, reader_of}
use Rattle.replay.specs.Told.{Tells, line_told}
use Rattle.replay.proofs.Lines.{line_counted}
use Rattle.replay.proofs.Telling.{made_tells, left_tells}
use Rattle.replay.proofs.reader.Reader.run.Goals as goal

pub step-requires : goal.step-requires
step-requires c = line_counted c.args.event.now c.requires.has

pub returns-in-Ok-clause-told : goal.returns-in-Ok-clause-told
returns-in-Ok-clause-told c =
    let v : ReaderView = reader_of c.self.inside.totals c.self.inside.lines c.self.inside.part.items c.self.inside.cluster c.self.inside.counter in
    let e = c.args.event.now in
    let line : event_of v.reading.part ≡ Some e = subst (λ (x : ReaderView). event_of x.reading.part ≡ Some e) (sym c.self.view_is) c.requires.line in
    let ends = subst (λ r. Ends (cluster_of c.in-Some.cluster) e r (cluster_of c.step.new.self)) c.in-Ok.is c.step.ensures.ends in
    subst (λ (x : ReaderView). IfOk c.tell.result (λ s. Tells (line_told x x.reading.cluster (Some e)) x c.args.text.now c.tell.new.text s c.tell.new.self)) c.self.view_is
    (made_tells {T = Unit {0}} v c.tell.new.self (cluster_of c.in-Some.cluster) (cluster_of c.step.new.self) e tt c.args.text.now c.tell.new.text c.tell.result (ap (option_map cluster_of) c.in-Some.is)
    line ends c.tell.ensures.last c.tell.ensures.some)

pub returns-in-Err-Differs-clause-told : goal.returns-in-Err-Differs-clause-told
returns-in-Err-Differs-clause-told c =
    let v : ReaderView = reader_of c.self.inside.totals c.self.inside.lines c.self.inside.part.items c.self.inside.cluster c.self.inside.counter in
    let e = c.args.event.now in
    let line : event_of v.reading.part ≡ Some e = subst (λ (x : ReaderView). event_of x.reading.part ≡ Some e) (sym c.self.view_is) c.requires.line in
    let ends = subst (λ r. Ends (cluster_of c.in-Some.cluster) e r (cluster_of c.step.new.self)) c.in-Err-Differs.is c.step.ensures.ends in
    subst (λ (x : ReaderView). IfOk c.stop.result (λ s. Tells (line_told x x.reading.cluster (Some e)) x c.args.text.now c.stop.new.text s c.stop.new.self)) c.self.view_is
    (left_tells v c.stop.new.self (cluster_of c.in-Some.cluster) (cluster_of c.step.new.self) e c.in-Err-Differs.field-0 _ _ _ c.args.text.now c.stop.new.text c.stop.result
    (ap (option_map cluster_of) c.in-Some.is) line ends c.in-Err-Differs.field-0-is c.stop.ensures.text)
