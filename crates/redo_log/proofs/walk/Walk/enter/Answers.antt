use Rattle.std.proofs.Common.{◌≡◌, [], Some, refl, sym, ap, ◌∙◌}
use Rattle.disk_model.specs.Disk.{told_at}
use Rattle.redo_log.specs.Walks.{Reading}
use Rattle.redo_log.proofs.StepLemmas.{entered_at, ended_at}
use Rattle.redo_log.proofs.walk.Walk.enter.Goals as goal

pub returns-in-Ok-clause-entered : goal.returns-in-Ok-clause-entered
returns-in-Ok-clause-entered g c = λ _. (
  c.in-Ok.ensures.some,
  λ log told.
      let now : told_at (g.S.Storage.logs c.args.s.now) c.widen.new.self.node ≡ Some log = rw (c.widen.ensures.fixed.0, ap (λ v. v.reading.node) c.self.view_is) told in
      entered_at _ _ _ c.widen.new.self log c.in-Ok.opening c.self.view_is (c.requires.stands log told) c.requires.measured c.requires.pending c.widen.ensures.place c.widen.ensures.fixed.2 (c.in-Ok.ensures.reads log now) c.in-Ok.ensures.place (c.in-Ok.ensures.ok log now) (c.in-Ok.ensures.entries log now) c.in-Ok.ensures.some refl,
)

pub returns-in-Err-Stopped-clause-ended : goal.returns-in-Err-Stopped-clause-ended
returns-in-Err-Stopped-clause-ended g c = λ _ log told.
    let now : told_at (g.S.Storage.logs c.args.s.now) c.widen.new.self.node ≡ Some log = rw (c.widen.ensures.fixed.0, ap (λ v. v.reading.node) c.self.view_is) told in
    let torn = rw c.in-Err-Stopped.field-0-is at c.in-Err-Stopped.ensures.err in
    let end : c.stand.new.self.end ≡ c.self.inside.reader.end = ap (λ (r : Reading). r.end) c.stand.ensures ∙ c.pass_record.ensures.fixed.1 ∙ c.widen.ensures.fixed.1 in
    let empty : c.stand.new.self ≡ record (c.stand.new.self) { place = c.self.inside.whole; limit = c.self.inside.whole; from = 0; piece = [] } = c.stand.ensures ∙ ap (λ (r : Reading). let t : Reading = record r { place = c.self.inside.whole; limit = c.self.inside.whole; from = 0; piece = [] } in t) (sym c.stand.ensures) in
    ended_at _ _ _ c.widen.new.self log c.self.view_is (c.requires.stands log told) c.requires.measured c.requires.pending c.widen.ensures.place c.widen.ensures.fixed.2 end c.self.invariant.0 empty (torn log now) refl
