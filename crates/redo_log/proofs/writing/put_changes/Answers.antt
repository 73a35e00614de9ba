use Rattle.text_rules.specs.LogRecord.{logged_bytes}
use Rattle.redo_log.proofs.WritingLemmas.{one_written}
use Rattle.redo_log.proofs.writing.put_changes.Goals as goal

pub loop-logged-preserved : goal.loop-logged-preserved
loop-logged-preserved c = one_written logged_bytes c.args.changes.now c.loop-logged.logged-index c.logged-item.result _ _ _ c.loop-logged-test.true c.logged-item.is c.loop-logged.invariant c.in_ok-put_logged.ensures
