use Rattle.std.proofs.Common.{sym, subst}
use Rattle.home_laws.specs.Homes.{IsHome}
use Rattle.home_laws.proofs.Given.{given_up_is_sound}
use Rattle.home.proofs.Moving.{seen_listed, given_up_listed}
use Rattle.home.proofs.home.Home.give_up.Goals as goal

pub give_up-requires-clause-txs : goal.give_up-requires-clause-txs
give_up-requires-clause-txs c = (seen_listed c.args.list.now _ _ c.self.view_is c.requires.listed).txs

pub invariant_of-self : goal.invariant_of-self
invariant_of-self c = (
  subst IsHome (sym c.give_up.ensures.home) (given_up_is_sound c.args.partition c.self.inside.parts.home c.self.invariant.0),
  c.give_up.ensures.prepared c.self.invariant.1,
)

pub returns-clause-listed : goal.returns-clause-listed
returns-clause-listed c =
    seen_listed c.args.list.now _ _ c.give_up.ensures.home
    (given_up_listed c.args.list.now c.args.partition c.self.inside.parts.home (seen_listed c.args.list.now _ _ c.self.view_is c.requires.listed))
