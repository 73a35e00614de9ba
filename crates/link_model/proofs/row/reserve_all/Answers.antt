use Rattle.std.proofs.Common.{◌<◌, ◌∙◌, length, le_trans, rules}
use Rattle.link_model.proofs.RowLemmas.{kept_messages, not_lower, all_above}
use Rattle.link_model.proofs.row.reserve_all.Goals as goal

pub returns-in_err-reserve-clause-messages : goal.returns-in_err-reserve-clause-messages
returns-in_err-reserve-clause-messages c =
    let less : c.loop-link.link-index < length c.loop-link.links = search rules in
    kept_messages _ _ _ _ less c.reserve.ensures.messages ∙ c.loop-link.invariant.0

pub returns-in_err-reserve-clause-spares : goal.returns-in_err-reserve-clause-spares
returns-in_err-reserve-clause-spares c =
    let less : c.loop-link.link-index < length c.loop-link.links = search rules in
    λ b. le_trans (c.loop-link.invariant.2 b) (not_lower c.loop-link.links c.loop-link.link-index c.reserve.new.self c.link-item.result less c.reserve.ensures.spare b)

pub loop-link-preserved : goal.loop-link-preserved
loop-link-preserved c =
    let less : c.loop-link.link-index < length c.loop-link.links = search rules in (
      kept_messages _ _ _ _ less c.reserve.ensures.messages ∙ c.loop-link.invariant.0,
      all_above c.loop-link.links c.loop-link.link-index c.args.n c.reserve.new.self less c.loop-link.invariant.1 c.in_ok-reserve.ensures.ok,
      λ b. le_trans (c.loop-link.invariant.2 b) (not_lower c.loop-link.links c.loop-link.link-index c.reserve.new.self c.link-item.result less c.reserve.ensures.spare b),
    )
