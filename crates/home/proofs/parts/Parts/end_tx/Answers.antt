use Rattle.std.proofs.Common.{◌∙◌, sym, subst, arith}
use Rattle.home.specs.Parts.{IsPrepared}
use Rattle.home.proofs.Closing.{closed_waits, closed_node}
use Rattle.home.proofs.parts.Parts.end_tx.Goals as goal

pub returns-in-Some-clause-prepared : goal.returns-in-Some-clause-prepared
returns-in-Some-clause-prepared c prepared =
    let before = subst IsPrepared (sym c.self.view_is) prepared in
    let fewer = closed_waits c.self.inside.txs c.end.new.self c.args.tx c.in-Some.ensures.closed in
    let rights = before.0.rights in
    let places = before.0.places in
    let replies = before.0.replies in (
      record { rights = omega (arith, rights, fewer); places = omega (arith, places, fewer); replies = omega (arith, replies, fewer) },
      before.1 ∙ sym (closed_node c.self.inside.txs c.end.new.self c.args.tx c.in-Some.ensures.closed),
    )
