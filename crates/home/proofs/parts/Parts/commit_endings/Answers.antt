use Rattle.std.proofs.Common.{ap, sym, ◌∙◌, map}
use Rattle.pcl_base.specs.declared.lock.Held.{Held}
use Rattle.pcl_base.specs.declared.lock.Kind.TheVariants.{Own}
use Rattle.pcl_base.specs.declared.tx.Mode.TheVariants.{Shared}
use Rattle.node_rules.specs.OpenTxs.{locks_of}
use Rattle.home.specs.Commits.{commit_end}
use Rattle.home.specs.Parts.{PartsView}
use Rattle.home.proofs.Committing.{map_over}
use Rattle.home.proofs.Telling.{lock_may, commit_tells}
use Rattle.home.proofs.parts.Parts.commit_endings.Goals as goal

abbrev first_lock : Held
first_lock = record { page = 0; mode = Shared; kind = Own }

pub commit_end-requires : goal.commit_end-requires
commit_end-requires c =
    lock_may c.args.self.now.home c.args.tx c.locks-locks.result.now c.loop-lock.lock-index first_lock c.requires.home c.requires.none c.requires.below
    (c.locks-locks.ensures.value ∙ ap (λ (v : PartsView). locks_of v.home.txs c.args.tx) c.self.view_is) c.loop-lock-test.true

pub returns : goal.returns
returns c =
    map_over (commit_end c.args.self.now.home c.args.tx) c.locks-locks.result.now c.loop-lock.lock-index c.loop-lock.ends.items _ c.loop-lock-test.false c.loop-lock.invariant
    ∙ (ap (map (commit_end c.args.self.now.home c.args.tx)) (c.locks-locks.ensures.value ∙ ap (λ (v : PartsView). locks_of v.home.txs c.args.tx) c.self.view_is)
    ∙ sym (commit_tells c.args.self.now.home c.args.tx c.requires.home c.requires.none))
