use Rattle.std.proofs.Common.{rules, ◌≡◌, Err, Some, sym, subst}
use Rattle.pcl_base.specs.Faults.{Rose}
use Rattle.pcl_base.specs.declared.trace.Call.{Call}
use Rattle.pcl_base.specs.declared.trace.Call.TheVariants.{Write}
use Rattle.node_rules.specs.OwnerRule.{put_change}
use Rattle.home.specs.declared.fault.HomeFault.TheVariants.{Failed}
use Rattle.home.specs.Device.{work_on, told_by, Made}
use Rattle.page_owner.specs.Released.{put_calls}
use Rattle.page_owner.proofs.Releasing.{put_logs, failed_write, failed_logs, failed_as_write}
use Rattle.page_owner.proofs.release.put_change.Goals as goal

pub returns-in-Ok-clause-logs : goal.returns-in-Ok-clause-logs
returns-in-Ok-clause-logs g c = put_logs _ _ _ _ _ _ c.in-Ok.ensures.made

pub returns-in-Err-Failed-clause-made : goal.returns-in-Err-Failed-clause-made
returns-in-Err-Failed-clause-made g c =
    let is : c.take_change.result ≡ Err (Failed c.in-Err-Failed.field-0-0 c.in-Err-Failed.field-0-1) = search rules in
    let same : put_calls c.args.changed c.args.r.now.page c.args.r.now.change c.args.home.now ≡ (put_change c.args.r.now.page c.in-Some.change (work_on c.args.home.now)).calls = search rules in
    subst
    (λ l. Made c.args.home.now.txs.node l (told_by (g.S.Storage.pages c.args.s.now) (g.S.Storage.logs c.args.s.now) (g.S.Storage.stops c.args.s.now)) (Some Write)
    (told_by (g.S.Storage.pages c.take_change.new.s) (g.S.Storage.logs c.take_change.new.s) (g.S.Storage.stops c.take_change.new.s)))
    (sym same) (failed_as_write _ _ _ _ _ _ c.take_change.result _ _ is c.take_change.ensures.made)

pub returns-in-Err-Failed-clause-logs : goal.returns-in-Err-Failed-clause-logs
returns-in-Err-Failed-clause-logs g c =
    let is : c.take_change.result ≡ Err (Failed c.in-Err-Failed.field-0-0 c.in-Err-Failed.field-0-1) = search rules in
    failed_logs _ _ _ _ _ _ c.take_change.result _ _ is c.take_change.ensures.made

pub returns-in-Err-Failed-clause-cause : goal.returns-in-Err-Failed-clause-cause
returns-in-Err-Failed-clause-cause g c =
    let is : c.take_change.result ≡ Err (Failed c.in-Err-Failed.field-0-0 c.in-Err-Failed.field-0-1) = search rules in
    subst (λ (k : Call). Rose (g.S.Storage.faults c.args.s.now k) (g.S.Storage.faults c.take_change.new.s k))
    (failed_write _ _ _ _ _ _ c.take_change.result _ _ is c.take_change.ensures.made)
    (c.take_change.ensures.cause c.in-Err-Failed.field-0-0 c.in-Err-Failed.field-0-1 is)
