use Rattle.std.proofs.Common.{◌≡◌, ◌≤◌, ◌+◌, length, Some, ap, ◌∙◌, arith}
use Rattle.disk_model.specs.Disk.{told_at}
use Rattle.redo_log.proofs.ReadableLemmas.{placed_put, some_same, some_none}
use Rattle.redo_log.proofs.apply.apply_at.Goals as goal

pub returns-in-Ok-clause-applied : goal.returns-in-Ok-clause-applied
returns-in-Ok-clause-applied g c = λ log x told is.
    let node = c.reach.ensures.fixed.0 ∙ c.in_ok-measure.ensures.node ∙ ap (λ r. r.node) c.open-reader.ensures in
    let first : told_at (g.S.Storage.logs c.args.s.now) c.open-reader.result.node ≡ Some log = rw (ap (λ r. r.node) c.open-reader.ensures) told in
    let now : told_at (g.S.Storage.logs c.measure.new.s) c.reach.new.self.node ≡ Some log = rw (c.in_ok-measure.ensures.logs, node) told in
    let end = c.in_ok-measure.ensures.end log first in
    let limit = c.reach.ensures.fixed.2 ∙ end in
    let at : c.args.place + 12 ≤ length log → c.reach.new.self.place ≡ c.args.place + 12 = (λ within.
    let sum : c.saturating_add.result ≡ c.args.place + 12 = omega (arith, c.saturating_add.ensures, c.in_ok-measure.ensures.fits, end) in
    c.reach.ensures.place (omega (arith, sum, end)) ∙ sum) in
    let put = placed_put c.args.config.now c.size.result log c.args.place c.args.whole x c.reach.new.self c.args.raw.now c.size.ensures.value is limit at in
    some_same _ c.put_part.new.raw _ (c.in-Ok.ensures.ok log now) put

pub returns-in-Err-Stopped-clause-applied : goal.returns-in-Err-Stopped-clause-applied
returns-in-Err-Stopped-clause-applied g c = λ log x told is.
    let node = c.reach.ensures.fixed.0 ∙ c.in_ok-measure.ensures.node ∙ ap (λ r. r.node) c.open-reader.ensures in
    let first : told_at (g.S.Storage.logs c.args.s.now) c.open-reader.result.node ≡ Some log = rw (ap (λ r. r.node) c.open-reader.ensures) told in
    let now : told_at (g.S.Storage.logs c.measure.new.s) c.reach.new.self.node ≡ Some log = rw (c.in_ok-measure.ensures.logs, node) told in
    let end = c.in_ok-measure.ensures.end log first in
    let limit = c.reach.ensures.fixed.2 ∙ end in
    let at : c.args.place + 12 ≤ length log → c.reach.new.self.place ≡ c.args.place + 12 = (λ within.
    let sum : c.saturating_add.result ≡ c.args.place + 12 = omega (arith, c.saturating_add.ensures, c.in_ok-measure.ensures.fits, end) in
    c.reach.ensures.place (omega (arith, sum, end)) ∙ sum) in
    let put = placed_put c.args.config.now c.size.result log c.args.place c.args.whole x c.reach.new.self c.args.raw.now c.size.ensures.value is limit at in
    let torn = rw c.in-Err-Stopped.field-0-is at c.in-Err-Stopped.ensures.err in
    absurd (some_none _ _ put (torn log now))
