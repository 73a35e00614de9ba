use Rattle.std.proofs.Common.{◌≡◌, ◌∙◌, ◌+◌, ◌-◌, sym, ap, List, Some, is_some, nat_eq, arith}
use Rattle.std.proofs.lemmas.Bool.{false≢true}
use Rattle.std.proofs.lemmas.Map.Steps.{set_value_same}
use Rattle.std.specs.Map.{set_value, values_of}
use Rattle.node_rules.specs.OpenTxs.{OpenTx, OpenTxs, open_at, with_lock, add, lock_on, pages_of_open, waiting_of_open, waits_on}
use Rattle.tx_table.specs.Counts.{locks_in, waits_in}
use Rattle.tx_table.proofs.Serials.{values_changed}
use Rattle.tx_table.proofs.Changes.{open_there, counted_set, locks_least, waits_least, grown_fits, on_any_err}
use Rattle.tx_table.proofs.table.TxTable.add.Goals as goal

pub at-open-requires : goal.at-open-requires
at-open-requires c =
    let there = open_there 0 c.self.inside.last c.self.inside.txs c.args.self.now c.args.tx c.self.invariant.linked (ap (λ (s : OpenTxs). s.txs) c.self.view_is) c.requires in
    ap (λ o. is_some o) (sym there) ∙ c.requires

pub invariant_of-self : goal.invariant_of-self
invariant_of-self c =
    let v = c.at-open.result.now in
    let w = c.add.new.self in
    let same = c.in_err-add.ensures.err in
    let locks : locks_in w ≡ locks_in v = ap locks_in same in
    let waits : waits_in w ≡ waits_in v = ap waits_in same in
    counted_set c.self.inside.last c.args.tx.serial c.self.inside.locks c.self.inside.waits c.self.inside.locks c.self.inside.waits v w c.self.inside.txs
    c.self.invariant (sym c.at-open.ensures.value) c.add.ensures.serial
    (omega (arith, locks)) (omega (arith, waits)) c.self.invariant.small

pub returns-in_err-add-clause-err : goal.returns-in_err-add-clause-err
returns-in_err-add-clause-err c =
    let s = c.args.tx.serial in
    let es = c.self.inside.txs in
    on_any_err c.from_residual.result _
    (ap (λ (l : List OpenTx). record { node = c.self.inside.node; born = c.self.inside.born; last = c.self.inside.last; txs = l })
    (ap values_of (ap (λ w. set_value (nat_eq s) es w) c.in_err-add.ensures.err ∙ set_value_same (nat_eq s) es c.at-open.result.now (sym c.at-open.ensures.value)))
    ∙ c.self.view_is)

pub returns-in_err-add-clause-held : goal.returns-in_err-add-clause-held
returns-in_err-add-clause-held c =
    let there = open_there 0 c.self.inside.last c.self.inside.txs c.args.self.now c.args.tx c.self.invariant.linked (ap (λ (s : OpenTxs). s.txs) c.self.view_is) c.requires in
    let here : open_at c.args.self.now c.args.tx ≡ Some c.at-open.result.now = there ∙ sym c.at-open.ensures.value in
    λ held. absurd (false≢true (c.in_err-add.ensures.held (ap (λ o. is_some (lock_on (pages_of_open o) c.args.lock.page)) (sym here) ∙ held)))

pub returns-in_err-add-clause-waits : goal.returns-in_err-add-clause-waits
returns-in_err-add-clause-waits c =
    let there = open_there 0 c.self.inside.last c.self.inside.txs c.args.self.now c.args.tx c.self.invariant.linked (ap (λ (s : OpenTxs). s.txs) c.self.view_is) c.requires in
    let here : open_at c.args.self.now c.args.tx ≡ Some c.at-open.result.now = there ∙ sym c.at-open.ensures.value in
    λ waits. absurd (false≢true (c.in_err-add.ensures.waits (ap (λ o. waits_on (waiting_of_open o) c.args.lock.page) (sym here) ∙ waits)))

pub overflow_sub-self : goal.overflow_sub-self
overflow_sub-self c =
    let least = locks_least c.self.inside.last c.args.tx.serial c.self.inside.locks c.self.inside.waits c.at-open.result.now c.self.inside.txs c.self.invariant (sym c.at-open.ensures.value) in
    let is = c.sizes-before.ensures.locks in
    omega (arith, least, is)

pub overflow_sub-self-2 : goal.overflow_sub-self-2
overflow_sub-self-2 c =
    let least = waits_least c.self.inside.last c.args.tx.serial c.self.inside.locks c.self.inside.waits c.at-open.result.now c.self.inside.txs c.self.invariant (sym c.at-open.ensures.value) in
    let is = c.sizes-before.ensures.waits in
    omega (arith, least, is)

pub overflow_add-self : goal.overflow_add-self
overflow_add-self c =
    let v = c.at-open.result.now in
    let w = c.add.new.self in
    let fits = grown_fits c.self.inside.last c.args.tx.serial c.self.inside.locks c.self.inside.waits c.room-room.result v w c.self.inside.txs c.args.self.now.txs
    c.self.invariant (sym c.at-open.ensures.value) (ap (λ (s : OpenTxs). s.txs) c.self.view_is) c.in_ok-add.ensures.size c.room-room.ensures in
    let before = c.sizes-before.ensures.locks in
    let after = c.sizes-after.ensures.locks in
    omega (arith, fits, before, after)

pub invariant_of-self-2 : goal.invariant_of-self-2
invariant_of-self-2 c =
    let v = c.at-open.result.now in
    let w = c.add.new.self in
    let there = sym c.at-open.ensures.value in
    let fits = grown_fits c.self.inside.last c.args.tx.serial c.self.inside.locks c.self.inside.waits c.room-room.result v w c.self.inside.txs c.args.self.now.txs
    c.self.invariant there (ap (λ (s : OpenTxs). s.txs) c.self.view_is) c.in_ok-add.ensures.size c.room-room.ensures in
    let locks = locks_least c.self.inside.last c.args.tx.serial c.self.inside.locks c.self.inside.waits v c.self.inside.txs c.self.invariant there in
    let waits = waits_least c.self.inside.last c.args.tx.serial c.self.inside.locks c.self.inside.waits v c.self.inside.txs c.self.invariant there in
    let locks_before = c.sizes-before.ensures.locks in
    let locks_after = c.sizes-after.ensures.locks in
    let waits_before = c.sizes-before.ensures.waits in
    let waits_after = c.sizes-after.ensures.waits in
    counted_set c.self.inside.last c.args.tx.serial c.self.inside.locks c.self.inside.waits
    (c.self.inside.locks - c.sizes-before.result.0 + c.sizes-after.result.0) (c.self.inside.waits - c.sizes-before.result.1 + c.sizes-after.result.1)
    v w c.self.inside.txs c.self.invariant there c.add.ensures.serial
    (omega (arith, locks, locks_before, locks_after)) (omega (arith, waits, waits_before, waits_after))
    (omega (arith, fits, locks_before, locks_after, waits_before, waits_after))

pub returns-clause-ok : goal.returns-clause-ok
unfolding add
returns-clause-ok c =
    let s = c.args.tx.serial in
    let v = c.at-open.result.now in
    ap (λ (l : List OpenTx). record { node = c.self.inside.node; born = c.self.inside.born; last = c.self.inside.last; txs = l })
    (values_changed (with_lock c.args.lock) 0 c.self.inside.last s v c.add.new.self c.self.inside.txs c.self.invariant.linked (sym c.at-open.ensures.value) c.in_ok-add.ensures.ok)
    ∙ ap (λ (x : OpenTxs). add x c.args.tx c.args.lock) c.self.view_is
