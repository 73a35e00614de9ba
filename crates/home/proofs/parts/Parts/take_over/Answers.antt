use Rattle.std.proofs.Common.{sym, subst}
use Rattle.pcl_base.specs.declared.lock.Kind.TheVariants.{Own}
use Rattle.home.specs.Parts.{IsPrepared}
use Rattle.home.proofs.Moving.{turned_prepared}
use Rattle.home.proofs.parts.Parts.take_over.Goals as goal

pub returns-clause-prepared : goal.returns-clause-prepared
returns-clause-prepared c prepared =
    c.spend_rights.ensures.prepared (subst IsPrepared (sym c.turn_all.ensures) (turned_prepared c.args.partition Own c.args.self.now prepared))
