use Rattle.std.proofs.Common.{◌≡◌, ◌∙◌, ◌+◌, sym, ap, List, Some, is_some, nat_eq, arith}
use Rattle.std.proofs.lemmas.Map.Steps.{set_value_same}
use Rattle.std.specs.Map.{set_value, values_of}
use Rattle.node_rules.specs.OpenTxs.{OpenTx, OpenTxs, open_at, wait, waiting_of_open}
use Rattle.tx_table.specs.Counts.{locks_in, waits_in, one_if, lock_count, wait_count}
use Rattle.tx_table.proofs.Serials.{values_changed}
use Rattle.tx_table.proofs.Changes.{open_there, counted_set, on_any_err}
use Rattle.tx_table.proofs.table.TxTable.wait.Goals as goal

pub at-requires : goal.at-requires
at-requires c =
    let there = open_there 0 c.self.inside.last c.self.inside.txs c.args.self.now c.args.tx c.self.invariant.linked (ap (λ (s : OpenTxs). s.txs) c.self.view_is) c.requires.«open» in
    ap (λ o. is_some o) (sym there) ∙ c.requires.«open»

pub wait-requires : goal.wait-requires
wait-requires c =
    let there = open_there 0 c.self.inside.last c.self.inside.txs c.args.self.now c.args.tx c.self.invariant.linked (ap (λ (s : OpenTxs). s.txs) c.self.view_is) c.requires.«open» in
    let here : open_at c.args.self.now c.args.tx ≡ Some c.at.result.now = there ∙ sym c.at.ensures.value in
    ap (λ o. waiting_of_open o) (sym here) ∙ c.requires.none

pub invariant_of-self : goal.invariant_of-self
invariant_of-self c =
    let v = c.at.result.now in
    let w = c.wait.new.self in
    let same = c.in_err-wait.ensures.err in
    let locks : locks_in w ≡ locks_in v = ap locks_in same in
    let waits : waits_in w ≡ waits_in v = ap waits_in same in
    counted_set c.self.inside.last c.args.tx.serial c.self.inside.locks c.self.inside.waits c.self.inside.locks c.self.inside.waits v w c.self.inside.txs
    c.self.invariant (sym c.at.ensures.value) c.wait.ensures.serial
    (omega (arith, locks)) (omega (arith, waits)) c.self.invariant.small

pub returns-in_err-wait-clause-err : goal.returns-in_err-wait-clause-err
returns-in_err-wait-clause-err c =
    let s = c.args.tx.serial in
    let es = c.self.inside.txs in
    on_any_err c.from_residual.result _
    (ap (λ (l : List OpenTx). record { node = c.self.inside.node; born = c.self.inside.born; last = c.self.inside.last; txs = l })
    (ap values_of (ap (λ w. set_value (nat_eq s) es w) c.in_err-wait.ensures.err ∙ set_value_same (nat_eq s) es c.at.result.now (sym c.at.ensures.value)))
    ∙ c.self.view_is)

pub invariant_of-self-2 : goal.invariant_of-self-2
invariant_of-self-2 c =
    let v = c.at.result.now in
    let w = c.wait.new.self in
    let there = open_there 0 c.self.inside.last c.self.inside.txs c.args.self.now c.args.tx c.self.invariant.linked (ap (λ (s : OpenTxs). s.txs) c.self.view_is) c.requires.«open» in
    let here : open_at c.args.self.now c.args.tx ≡ Some v = there ∙ sym c.at.ensures.value in
    let none : waits_in v ≡ 0 = ap one_if (ap (λ o. waiting_of_open o) (sym here) ∙ c.requires.none) in
    let locks : locks_in w ≡ locks_in v = ap locks_in c.in_ok-wait.ensures.ok in
    let waits : waits_in w ≡ 1 = ap waits_in c.in_ok-wait.ensures.ok in
    let txs = ap (λ (s : OpenTxs). s.txs) c.self.view_is in
    let held : c.self.inside.locks ≡ lock_count c.args.self.now.txs = c.self.invariant.locks ∙ ap lock_count txs in
    let waiting : c.self.inside.waits ≡ wait_count c.args.self.now.txs = c.self.invariant.waits ∙ ap wait_count txs in
    let room = c.room.ensures in
    let some = c.if-room-eq0.false in
    counted_set c.self.inside.last c.args.tx.serial c.self.inside.locks c.self.inside.waits c.self.inside.locks (c.self.inside.waits + 1) v w c.self.inside.txs
    c.self.invariant (sym c.at.ensures.value) c.wait.ensures.serial
    (omega (arith, locks)) (omega (arith, waits, none)) (omega (arith, held, waiting, room, some))

pub returns-clause-ok : goal.returns-clause-ok
unfolding wait
returns-clause-ok c =
    let s = c.args.tx.serial in
    let v = c.at.result.now in
    ap (λ (l : List OpenTx). record { node = c.self.inside.node; born = c.self.inside.born; last = c.self.inside.last; txs = l })
    (values_changed (λ (x : OpenTx). record x { waiting = Some c.args.access }) 0 c.self.inside.last s v c.wait.new.self c.self.inside.txs c.self.invariant.linked (sym c.at.ensures.value) c.in_ok-wait.ensures.ok)
    ∙ ap (λ (x : OpenTxs). wait x c.args.tx c.args.access) c.self.view_is
