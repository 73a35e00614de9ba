use Rattle.std.proofs.Common.{ap}
use Rattle.node_rules.specs.OpenTxs.{pending_of}
use Rattle.node_rules.specs.AccessRule.{image_of, write_of}
use Rattle.home_laws.proofs.GrantNeeds.{granted_slot}
use Rattle.home.specs.Grants.{work_at}
use Rattle.home.proofs.Granting.{granted_tells, granted_fault, granted_image}
use Rattle.home.proofs.Ended.{came, may_end, ended_prepared, ended_right, ended_shelf, ended_txs}
use Rattle.home.proofs.parts.Parts.grant.Goals as goal

pub bring-requires-clause-slot : goal.bring-requires-clause-slot
bring-requires-clause-slot g c = granted_slot c.args.self.now.home c.args.tx c.args.lock c.requires.home c.requires.waits

pub finish-requires : goal.finish-requires
finish-requires g c =
    let h = c.args.self.now.home in
    let was = came tt tt c.args.lock.page c.args.version (image_of c.args.copy.now) h c.bring.new.self.home c.requires.home (granted_slot h c.args.tx c.args.lock c.requires.home c.requires.waits) c.in_ok-bring.ensures.image in
    record { may = may_end c.args.tx c.args.lock c.args.self.now c.bring.new.self c.requires.home c.requires.prepared c.requires.waits c.bring.ensures.same was }

pub returns-in_err-bring-clause-told : goal.returns-in_err-bring-clause-told
returns-in_err-bring-clause-told g c ps told =
    granted_fault c.args.tx c.args.lock c.args.version (image_of c.args.copy.now) tt (work_at ps c.args.self.now.home) _ c.bring.new.self.home _ c.from_residual.result c.from_residual.ensures.1 (c.in_err-bring.ensures.told ps told)

pub returns-clause-told : goal.returns-clause-told
returns-clause-told g c ps told =
    granted_tells c.args.tx c.args.lock c.args.version (image_of c.args.copy.now) tt (work_at ps c.args.self.now.home) _ c.bring.new.self.home _ c.finish.result (ap (λ v. v.home.txs) c.bring.ensures.same)
    (c.in_ok-bring.ensures.told ps told) c.finish.ensures.reply c.finish.ensures.home

pub returns-clause-image : goal.returns-clause-image
returns-clause-image g c =
    granted_image c.args.tx c.args.lock c.args.version (image_of c.args.copy.now) tt c.args.self.now.home c.bring.new.self.home _ _ c.finish.result (ap (λ v. v.home.txs) c.bring.ensures.same)
    c.in_ok-bring.ensures.image c.finish.ensures.reply c.finish.ensures.home

pub returns-clause-prepared : goal.returns-clause-prepared
returns-clause-prepared g c =
    let h = c.args.self.now.home in
    let was = came tt tt c.args.lock.page c.args.version (image_of c.args.copy.now) h c.bring.new.self.home c.requires.home (granted_slot h c.args.tx c.args.lock c.requires.home c.requires.waits) c.in_ok-bring.ensures.image in
    ended_prepared c.args.tx c.args.lock c.args.self.now c.bring.new.self c.requires.home c.requires.prepared c.requires.waits c.bring.ensures.same was
    (write_of (pending_of c.bring.new.self.home.txs c.args.tx)) c.finish.new.self c.finish.ensures.home c.finish.ensures.same c.finish.ensures.places c.finish.ensures.replies

pub returns-clause-right : goal.returns-clause-right
returns-clause-right g c =
    let h = c.args.self.now.home in
    let was = came tt tt c.args.lock.page c.args.version (image_of c.args.copy.now) h c.bring.new.self.home c.requires.home (granted_slot h c.args.tx c.args.lock c.requires.home c.requires.waits) c.in_ok-bring.ensures.image in
    ended_right c.args.tx c.args.lock c.args.self.now c.bring.new.self c.requires.home c.requires.prepared c.requires.waits c.bring.ensures.same was
    (write_of (pending_of c.bring.new.self.home.txs c.args.tx)) c.finish.new.self c.finish.ensures.home c.finish.ensures.same c.finish.ensures.places c.finish.ensures.replies

pub returns-clause-shelf : goal.returns-clause-shelf
returns-clause-shelf g c =
    ended_shelf c.args.tx c.args.lock (write_of (pending_of c.bring.new.self.home.txs c.args.tx)) c.args.self.now c.bring.new.self c.finish.new.self c.bring.ensures.same c.finish.ensures.home

pub returns-clause-txs : goal.returns-clause-txs
returns-clause-txs g c =
    ended_txs c.args.tx c.args.lock (write_of (pending_of c.bring.new.self.home.txs c.args.tx)) c.args.self.now c.bring.new.self c.finish.new.self c.bring.ensures.same c.finish.ensures.home
