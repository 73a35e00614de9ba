use Rattle.std.proofs.Common.{◌≡◌, true, None, refl, sym, subst}
use Rattle.pcl_base.specs.declared.lock.Kind.TheVariants.{Own}
use Rattle.node_rules.specs.OpenTxs.{pending_of, waits_as}
use Rattle.node_rules.specs.NodeState.{HomeState}
use Rattle.home.proofs.Ended.{own_after}
use Rattle.home.proofs.Moving.{seen_listed, granted_listed}
use Rattle.home.proofs.home.Home.grant_own.Goals as goal

pub invariant_of-self : goal.invariant_of-self
invariant_of-self g c =
    let waits = subst (λ (h : HomeState). waits_as (pending_of h.txs c.args.tx) c.args.page c.args.mode ≡ true) (sym c.self.view_is) c.requires.waits in (
      own_after c.args.tx (record { page = c.args.page; mode = c.args.mode; kind = Own }) c.args.version None c.self.inside.parts c.grant.new.self c.grant.result c.self.invariant.0 waits refl
          c.grant.ensures.image c.grant.ensures.err,
      c.grant.ensures.prepared,
    )

pub returns-clause-listed : goal.returns-clause-listed
returns-clause-listed g c = λ list lists.
    granted_listed list c.args.tx (record { page = c.args.page; mode = c.args.mode; kind = Own }) c.grant.result c.self.inside.parts c.grant.new.self c.grant.ensures.txs c.grant.ensures.shelf c.grant.ensures.err
    (seen_listed list _ _ c.self.view_is lists)
