use Rattle.std.proofs.Common.{◌≡◌, [], ◌∷◌, ◌<◌, ◌∙◌, arith, rules, length-append}
use Rattle.messages.proofs.ListLemmas.{item_read, item_stopped, items_read, list_counted, bytes_of_one_more, all_and_one_more}
use Rattle.messages.proofs.list.list.Goals as goal

pub returns-in_err-item-clause-err : goal.returns-in_err-item-clause-err
returns-in_err-item-clause-err g c =
    let less : c.loop.counter < c.in_ok-count.count = omega arith in
    let whole = list_counted _ _ _ _ c.in_ok-count.ensures.ok ∙ c.loop.invariant.0 ∙ item_stopped _ _ _ _ _ _ less c.in_err-item.ensures.err in
    search (rules, whole)

pub loop-preserved : goal.loop-preserved
loop-preserved g c =
    let less : c.loop.counter < c.in_ok-count.count = omega arith in
    rw c.in_ok-push.ensures.items (
      c.loop.invariant.0 ∙ item_read _ _ _ _ _ _ _ less c.in_ok-item.ensures.ok,
      bytes_of_one_more g.T.Item.bytes c.loop.items.items c.in_ok-item.item _ _ _ c.loop.invariant.1 c.in_ok-item.ensures.spelt,
      omega (arith, c.loop.invariant.2, length-append c.loop.items.items (c.in_ok-item.item ∷ [])),
      all_and_one_more (g.T.Item.IsItem c.args.config.now c.args.partition) c.loop.items.items c.in_ok-item.item c.loop.invariant.3 c.in_ok-item.ensures.is_item,
    )

pub returns-clause-ok : goal.returns-clause-ok
returns-clause-ok g c =
    let all : c.loop.counter ≡ c.in_ok-count.count = omega arith in
    rw c.of.ensures (list_counted _ _ _ _ c.in_ok-count.ensures.ok ∙ c.loop.invariant.0 ∙ items_read _ _ _ _ _ all)
