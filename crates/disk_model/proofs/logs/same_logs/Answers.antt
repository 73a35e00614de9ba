use Rattle.std.proofs.Common.{arith, length-append, ◌∙◌, ap}
use Rattle.std.proofs.lemmas.List.{take_more}
use Rattle.disk_model.proofs.LogLemmas.{AreCopies-append}
use Rattle.disk_model.proofs.logs.same_logs.Goals as goal

pub loop-log-preserved : goal.loop-log-preserved
loop-log-preserved c =
    record {
      copies = rw (take_more c.args.logs.now c.loop-log.log-index c.log-item.result c.loop-log-test.true, c.in_ok-push.ensures.items)
          (AreCopies-append _ _ _ _ c.loop-log.invariant.copies (c.in_ok-copy.ensures.bytes ∙ ap (λ l. l.bytes) c.log-item.is) (rw (← c.log-item.is) c.in_ok-copy.ensures.room));
      count = simp (c.in_ok-push.ensures.items, length-append) (omega arith);
    }
