use Rattle.std.proofs.Common.{subst, sym}
use Rattle.std.specs.Io.KnownBytes.{Appends, append_known}
use Rattle.replay.proofs.Holding.{grew_nothing}
use Rattle.replay.proofs.run.store.Goals as goal

pub returns-then-as_slice-lt-MUCH-clause-stored : goal.returns-then-as_slice-lt-MUCH-clause-stored
returns-then-as_slice-lt-MUCH-clause-stored g c = (
  grew_nothing (g.O.Sink.written c.args.output.now),
  (λ a text e. subst (λ t. Appends a (append_known (g.O.Sink.written c.args.output.now) t) text) (sym c.in-Ok.ensures.gathered) e),
)
