use Rattle.std.proofs.Common.{◌∙◌, List, ap, sym, subst, length}
use Rattle.node_rules.specs.OpenTxs.{OpenTx}
use Rattle.node_rules.specs.NodeState.{HomeState}
use Rattle.home_laws.specs.Homes.{IsHome}
use Rattle.home_laws.proofs.Given.{born_is_sound}
use Rattle.home.specs.Parts.{PartsView, IsPrepared}
use Rattle.home.proofs.home.Home.be_born.Goals as goal

pub invariant_of-self : goal.invariant_of-self
invariant_of-self c =
    let memory = c.self.invariant.1.0 in
    let none = ap (λ (h : HomeState). length h.txs.txs) c.self.view_is ∙ ap (λ (l : List OpenTx). length l) c.requires.none in
    subst (λ (v : PartsView). IsHome v.home × IsPrepared v) (sym c.be_born.ensures) (
      born_is_sound c.args.born c.self.inside.parts.home c.self.invariant.0 none,
      (record { rights = memory.rights; places = memory.places; replies = memory.replies }, c.self.invariant.1.1),
    )
