use Rattle.std.proofs.Common.{sym, subst}
use Rattle.home_laws.specs.Homes.{IsHome}
use Rattle.home_laws.proofs.Partitions.{take_over_is_sound_law}
use Rattle.home.proofs.Moving.{seen_listed, take_over_listed}
use Rattle.home.proofs.home.Home.take_over.Goals as goal

pub take_over-requires-clause-txs : goal.take_over-requires-clause-txs
take_over-requires-clause-txs c = (seen_listed c.args.list.now _ _ c.self.view_is c.requires.listed).txs

pub take_over-requires-clause-rights : goal.take_over-requires-clause-rights
take_over-requires-clause-rights c = (seen_listed c.args.list.now _ _ c.self.view_is c.requires.listed).rights

pub invariant_of-self : goal.invariant_of-self
invariant_of-self c = (
  subst IsHome (sym c.take_over.ensures.home) (take_over_is_sound_law c.args.partition c.self.inside.parts.home c.self.invariant.0),
  c.take_over.ensures.prepared c.self.invariant.1,
)

pub returns-clause-listed : goal.returns-clause-listed
returns-clause-listed c =
    seen_listed c.args.list.now _ _ c.take_over.ensures.home
    (take_over_listed c.args.list.now c.args.partition c.self.inside.parts.home (seen_listed c.args.list.now _ _ c.self.view_is c.requires.listed))
