use Rattle.std.proofs.Common.{◌≡◌, ℕ, List, Some, true, refl, ap, ◌∙◌}
use Rattle.disk_model.specs.Disk.{told_at}
use Rattle.redo_log.specs.Told.{IsLog}
use Rattle.redo_log.specs.Walks.{Standing, Stands, node_of, to_come, first_seen, after_first, whole_after}
use Rattle.redo_log.proofs.StepLemmas.{carried, carried_on, measured_at}
use Rattle.redo_log.proofs.walk.Walk.next.Goals as goal

pub returns-clause-value : goal.returns-clause-value
returns-clause-value g c =
    let measured : Standing = record { config = c.self.inside.config; reading = c.measure.new.self; is_measured = true; whole = c.self.inside.whole; pending = c.self.inside.pending; low = c.self.inside.low; format = c.self.inside.format } in
    carried c.onward-2.result
    (λ o. (log : List ℕ) → IsLog (g.S.Storage.logs c.measure.new.s) (node_of measured) log → o ≡ first_seen (to_come measured log))
    (λ o. (log : List ℕ) → IsLog (g.S.Storage.logs c.args.s.now) (node_of c.args.self.now) log → o ≡ first_seen (to_come c.args.self.now log))
    c.onward-2.ensures.value
    (λ o all log told.
    let here : told_at (g.S.Storage.logs c.args.s.now) c.self.inside.reader.node ≡ Some log = rw (ap (λ v. v.reading.node) c.self.view_is) told in
    let now : told_at (g.S.Storage.logs c.measure.new.s) c.measure.new.self.node ≡ Some log = rw (c.in_ok-measure.ensures.logs, c.in_ok-measure.ensures.node) here in
    let step = measured_at _ _ measured log c.self.view_is (c.requires.stands log told) c.if-self.false c.in_ok-measure.ensures.start.0 c.in_ok-measure.ensures.start.1 c.in_ok-measure.ensures.start.2 c.in_ok-measure.ensures.start.3 (c.in_ok-measure.ensures.end log here) refl in
    all log now ∙ ap first_seen step.come)

pub returns-clause-rest : goal.returns-clause-rest
returns-clause-rest g c =
    let measured : Standing = record { config = c.self.inside.config; reading = c.measure.new.self; is_measured = true; whole = c.self.inside.whole; pending = c.self.inside.pending; low = c.self.inside.low; format = c.self.inside.format } in
    carried_on c.onward-2.result
    ((log : List ℕ) → IsLog (g.S.Storage.logs c.measure.new.s) (node_of measured) log → to_come c.onward-2.new.self log ≡ after_first (to_come measured log))
    ((log : List ℕ) → IsLog (g.S.Storage.logs c.args.s.now) (node_of c.args.self.now) log → to_come c.onward-2.new.self log ≡ after_first (to_come c.args.self.now log))
    c.onward-2.ensures.rest
    (λ all log told.
    let here : told_at (g.S.Storage.logs c.args.s.now) c.self.inside.reader.node ≡ Some log = rw (ap (λ v. v.reading.node) c.self.view_is) told in
    let now : told_at (g.S.Storage.logs c.measure.new.s) c.measure.new.self.node ≡ Some log = rw (c.in_ok-measure.ensures.logs, c.in_ok-measure.ensures.node) here in
    let step = measured_at _ _ measured log c.self.view_is (c.requires.stands log told) c.if-self.false c.in_ok-measure.ensures.start.0 c.in_ok-measure.ensures.start.1 c.in_ok-measure.ensures.start.2 c.in_ok-measure.ensures.start.3 (c.in_ok-measure.ensures.end log here) refl in
    all log now ∙ ap after_first step.come)

pub returns-clause-whole : goal.returns-clause-whole
returns-clause-whole g c =
    let measured : Standing = record { config = c.self.inside.config; reading = c.measure.new.self; is_measured = true; whole = c.self.inside.whole; pending = c.self.inside.pending; low = c.self.inside.low; format = c.self.inside.format } in
    carried_on c.onward-2.result
    ((log : List ℕ) → IsLog (g.S.Storage.logs c.measure.new.s) (node_of measured) log → c.onward-2.new.self.whole ≡ whole_after measured.whole (to_come measured log))
    ((log : List ℕ) → IsLog (g.S.Storage.logs c.args.s.now) (node_of c.args.self.now) log → c.onward-2.new.self.whole ≡ whole_after c.args.self.now.whole (to_come c.args.self.now log))
    c.onward-2.ensures.whole
    (λ all log told.
    let here : told_at (g.S.Storage.logs c.args.s.now) c.self.inside.reader.node ≡ Some log = rw (ap (λ v. v.reading.node) c.self.view_is) told in
    let now : told_at (g.S.Storage.logs c.measure.new.s) c.measure.new.self.node ≡ Some log = rw (c.in_ok-measure.ensures.logs, c.in_ok-measure.ensures.node) here in
    let step = measured_at _ _ measured log c.self.view_is (c.requires.stands log told) c.if-self.false c.in_ok-measure.ensures.start.0 c.in_ok-measure.ensures.start.1 c.in_ok-measure.ensures.start.2 c.in_ok-measure.ensures.start.3 (c.in_ok-measure.ensures.end log here) refl in
    all log now ∙ (ap (λ k. whole_after k (to_come measured log)) step.whole ∙ ap (whole_after c.args.self.now.whole) step.come))

pub returns-clause-stands : goal.returns-clause-stands
returns-clause-stands g c =
    let measured : Standing = record { config = c.self.inside.config; reading = c.measure.new.self; is_measured = true; whole = c.self.inside.whole; pending = c.self.inside.pending; low = c.self.inside.low; format = c.self.inside.format } in
    carried_on c.onward-2.result
    ((log : List ℕ) → IsLog (g.S.Storage.logs c.measure.new.s) (node_of measured) log → Stands c.onward-2.new.self log)
    ((log : List ℕ) → IsLog (g.S.Storage.logs c.args.s.now) (node_of c.args.self.now) log → Stands c.onward-2.new.self log)
    c.onward-2.ensures.stands
    (λ all log told.
    let here : told_at (g.S.Storage.logs c.args.s.now) c.self.inside.reader.node ≡ Some log = rw (ap (λ v. v.reading.node) c.self.view_is) told in
    let now : told_at (g.S.Storage.logs c.measure.new.s) c.measure.new.self.node ≡ Some log = rw (c.in_ok-measure.ensures.logs, c.in_ok-measure.ensures.node) here in
    let step = measured_at _ _ measured log c.self.view_is (c.requires.stands log told) c.if-self.false c.in_ok-measure.ensures.start.0 c.in_ok-measure.ensures.start.1 c.in_ok-measure.ensures.start.2 c.in_ok-measure.ensures.start.3 (c.in_ok-measure.ensures.end log here) refl in
    all log now)
