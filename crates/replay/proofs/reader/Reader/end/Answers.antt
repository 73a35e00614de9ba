use Rattle.std.proofs.Common.{◌≡◌, ◌==◌, ◌++◌, not, true, false, length, sym, ap, subst, ◌∙◌}
use Rattle.std.specs.Prelude.{IsSome}
use Rattle.text_rules.specs.BadLine.{bad_at, event_forms}
use Rattle.replay_rules.specs.Due.{bad_line}
use Rattle.replay.specs.ReaderView.{ReaderView}
use Rattle.replay.specs.Told.{closing_of}
use Rattle.replay.proofs.Telling.{some_there, end_counted, end_event}
use Rattle.replay.proofs.reader.Reader.end.Goals as goal

pub returns-then-is_empty-clause-text : goal.returns-then-is_empty-clause-text
returns-then-is_empty-clause-text c = λ k.
    let some : IsSome c.args.self.now.reading.cluster =
    subst (λ (v : ReaderView). IsSome v.reading.cluster) c.self.view_is (some_there c.self.inside.cluster (c.is_none.ensures ∙ ap not c.if-is_none.false)) in
    let empty : (length c.self.inside.part.items == 0) ≡ true =
    ap (λ n. n == 0) (sym c.self.inside.part.ok.0) ∙ (sym c.is_empty.ensures ∙ c.if-is_empty.true) in
    let none : (length c.args.self.now.reading.part == 0) ≡ true = subst (λ (v : ReaderView). (length v.reading.part == 0) ≡ true) c.self.view_is empty in
    c.in_ok-end.ensures
    ∙ ap (λ t. c.args.text.now ++ t)
    (ap (λ (v : ReaderView). closing_of v.totals v.counts) c.self.view_is ∙ end_counted c.args.self.now some none k)

pub returns-clause-text : goal.returns-clause-text
returns-clause-text c = λ k.
    let some : IsSome c.args.self.now.reading.cluster =
    subst (λ (v : ReaderView). IsSome v.reading.cluster) c.self.view_is (some_there c.self.inside.cluster (c.is_none.ensures ∙ ap not c.if-is_none.false)) in
    let more : (length c.self.inside.part.items == 0) ≡ false =
    ap (λ n. n == 0) (sym c.self.inside.part.ok.0) ∙ (sym c.is_empty.ensures ∙ c.if-is_empty.false) in
    let rest : (length c.args.self.now.reading.part == 0) ≡ false = subst (λ (v : ReaderView). (length v.reading.part == 0) ≡ false) c.self.view_is more in
    c.in_ok-cut_event.ensures
    ∙ (ap (λ p. c.args.text.now ++ bad_line c.self.inside.lines (bad_at false event_forms p)) c.as_slice-2.ensures.value
    ∙ (ap (λ (v : ReaderView). c.args.text.now ++ bad_line v.reading.lines (bad_at false event_forms v.reading.part)) c.self.view_is
    ∙ ap (λ t. c.args.text.now ++ t) (sym (end_event c.args.self.now.totals c.args.self.now.reading some rest).0)))
