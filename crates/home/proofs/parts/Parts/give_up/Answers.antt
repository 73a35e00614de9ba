use Rattle.std.proofs.Common.{sym, subst}
use Rattle.pcl_base.specs.declared.lock.Kind.TheVariants.{Registered}
use Rattle.home.specs.Parts.{IsPrepared}
use Rattle.home.proofs.Moving.{turned_prepared, pool_prepared}
use Rattle.home.proofs.parts.Parts.give_up.Goals as goal

pub returns-clause-prepared : goal.returns-clause-prepared
returns-clause-prepared c prepared =
    subst IsPrepared (sym c.clean_pages.ensures)
    (pool_prepared c.turn_all.new.self _ (subst IsPrepared (sym c.turn_all.ensures) (turned_prepared c.args.partition Registered c.args.self.now prepared)))
