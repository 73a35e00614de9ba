use Rattle.std.proofs.Common.{◌≡◌, ◌-◌, ◌==◌, Some, refl, ap, ◌∙◌}
use Rattle.disk_model.specs.Disk.{told_at}
use Rattle.text_rules.specs.FieldBytes.{pick}
use Rattle.redo_log.proofs.AnswerLemmas.{answered_at, never_stops}
use Rattle.redo_log.proofs.walk.Walk.answer.Goals as goal

pub returns-in-Ok-clause-value : goal.returns-in-Ok-clause-value
returns-in-Ok-clause-value g c = λ log told.
    let now : told_at (g.S.Storage.logs c.args.s.now) c.self.inside.reader.node ≡ Some log = rw (ap (λ v. v.reading.node) c.self.view_is) told in
    let kept = c.whole_then-self-inside.ensures ∙ ap (λ l. pick (c.self.inside.pending - 1 == 0) l c.self.inside.whole) c.place-end.ensures.value in
    (answered_at _ _ _ log c.in-Ok.head c.place-place.result c.self.view_is (c.requires.stands log told) c.self.invariant.2 c.requires.pending c.place-place.ensures.value c.place-place.ensures.within.0 (c.in-Ok.ensures.reads log now) c.in-Ok.ensures.limit c.place-end.ensures.within.0 (c.in-Ok.ensures.entry log now) kept refl).value

pub returns-in-Ok-clause-rest : goal.returns-in-Ok-clause-rest
returns-in-Ok-clause-rest g c = λ log told.
    let now : told_at (g.S.Storage.logs c.args.s.now) c.self.inside.reader.node ≡ Some log = rw (ap (λ v. v.reading.node) c.self.view_is) told in
    let kept = c.whole_then-self-inside.ensures ∙ ap (λ l. pick (c.self.inside.pending - 1 == 0) l c.self.inside.whole) c.place-end.ensures.value in
    (answered_at _ _ _ log c.in-Ok.head c.place-place.result c.self.view_is (c.requires.stands log told) c.self.invariant.2 c.requires.pending c.place-place.ensures.value c.place-place.ensures.within.0 (c.in-Ok.ensures.reads log now) c.in-Ok.ensures.limit c.place-end.ensures.within.0 (c.in-Ok.ensures.entry log now) kept refl).rest

pub returns-in-Ok-clause-whole : goal.returns-in-Ok-clause-whole
returns-in-Ok-clause-whole g c = λ log told.
    let now : told_at (g.S.Storage.logs c.args.s.now) c.self.inside.reader.node ≡ Some log = rw (ap (λ v. v.reading.node) c.self.view_is) told in
    let kept = c.whole_then-self-inside.ensures ∙ ap (λ l. pick (c.self.inside.pending - 1 == 0) l c.self.inside.whole) c.place-end.ensures.value in
    (answered_at _ _ _ log c.in-Ok.head c.place-place.result c.self.view_is (c.requires.stands log told) c.self.invariant.2 c.requires.pending c.place-place.ensures.value c.place-place.ensures.within.0 (c.in-Ok.ensures.reads log now) c.in-Ok.ensures.limit c.place-end.ensures.within.0 (c.in-Ok.ensures.entry log now) kept refl).whole

pub returns-in-Ok-clause-stands : goal.returns-in-Ok-clause-stands
returns-in-Ok-clause-stands g c = λ log told.
    let now : told_at (g.S.Storage.logs c.args.s.now) c.self.inside.reader.node ≡ Some log = rw (ap (λ v. v.reading.node) c.self.view_is) told in
    let kept = c.whole_then-self-inside.ensures ∙ ap (λ l. pick (c.self.inside.pending - 1 == 0) l c.self.inside.whole) c.place-end.ensures.value in
    (answered_at _ _ _ log c.in-Ok.head c.place-place.result c.self.view_is (c.requires.stands log told) c.self.invariant.2 c.requires.pending c.place-place.ensures.value c.place-place.ensures.within.0 (c.in-Ok.ensures.reads log now) c.in-Ok.ensures.limit c.place-end.ensures.within.0 (c.in-Ok.ensures.entry log now) kept refl).stands

pub returns-in-Err-Stopped-clause-value : goal.returns-in-Err-Stopped-clause-value
returns-in-Err-Stopped-clause-value g c = λ log told.
    let now : told_at (g.S.Storage.logs c.args.s.now) c.self.inside.reader.node ≡ Some log = rw (ap (λ v. v.reading.node) c.self.view_is) told in
    let torn = rw c.in-Err-Stopped.field-0-is at c.in-Err-Stopped.ensures.err in
    absurd (never_stops _ _ log c.self.view_is (c.requires.stands log told) c.requires.pending (torn log now))

pub returns-in-Err-Stopped-clause-rest : goal.returns-in-Err-Stopped-clause-rest
returns-in-Err-Stopped-clause-rest g c = λ log told.
    let now : told_at (g.S.Storage.logs c.args.s.now) c.self.inside.reader.node ≡ Some log = rw (ap (λ v. v.reading.node) c.self.view_is) told in
    let torn = rw c.in-Err-Stopped.field-0-is at c.in-Err-Stopped.ensures.err in
    absurd (never_stops _ _ log c.self.view_is (c.requires.stands log told) c.requires.pending (torn log now))

pub returns-in-Err-Stopped-clause-whole : goal.returns-in-Err-Stopped-clause-whole
returns-in-Err-Stopped-clause-whole g c = λ log told.
    let now : told_at (g.S.Storage.logs c.args.s.now) c.self.inside.reader.node ≡ Some log = rw (ap (λ v. v.reading.node) c.self.view_is) told in
    let torn = rw c.in-Err-Stopped.field-0-is at c.in-Err-Stopped.ensures.err in
    absurd (never_stops _ _ log c.self.view_is (c.requires.stands log told) c.requires.pending (torn log now))

pub returns-in-Err-Stopped-clause-last : goal.returns-in-Err-Stopped-clause-last
returns-in-Err-Stopped-clause-last g c = λ _ log told.
    let now : told_at (g.S.Storage.logs c.args.s.now) c.self.inside.reader.node ≡ Some log = rw (ap (λ v. v.reading.node) c.self.view_is) told in
    let torn = rw c.in-Err-Stopped.field-0-is at c.in-Err-Stopped.ensures.err in
    absurd (never_stops _ _ log c.self.view_is (c.requires.stands log told) c.requires.pending (torn log now))

pub returns-in-Err-Stopped-clause-stands : goal.returns-in-Err-Stopped-clause-stands
returns-in-Err-Stopped-clause-stands g c = λ log told.
    let now : told_at (g.S.Storage.logs c.args.s.now) c.self.inside.reader.node ≡ Some log = rw (ap (λ v. v.reading.node) c.self.view_is) told in
    let torn = rw c.in-Err-Stopped.field-0-is at c.in-Err-Stopped.ensures.err in
    absurd (never_stops _ _ log c.self.view_is (c.requires.stands log told) c.requires.pending (torn log now))
