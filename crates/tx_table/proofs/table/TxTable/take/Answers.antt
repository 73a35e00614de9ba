use Rattle.std.proofs.Common.{◌∙◌, ◌-◌, ◌==◌, not, sym, ap, subst, List, ℕ, arith}
use Rattle.std.specs.List.{filter}
use Rattle.std.specs.Map.{values_of}
use Rattle.node_rules.specs.OpenTxs.{OpenTx, OpenTxs, with_serial}
use Rattle.tx_table.specs.Counts.{IsCounted}
use Rattle.tx_table.proofs.Serials.{with_serial_lookup, values_removed}
use Rattle.tx_table.proofs.Changes.{counted_gone, locks_least, waits_least}
use Rattle.tx_table.proofs.table.TxTable.take.Goals as goal

pub invariant_of-self : goal.invariant_of-self
invariant_of-self c =
    subst (λ (l : List (ℕ × OpenTx)). IsCounted c.self.inside.last l c.self.inside.locks c.self.inside.waits) (sym c.in-None.ensures.none) c.self.invariant

pub returns-in-None-clause-value : goal.returns-in-None-clause-value
returns-in-None-clause-value c =
    c.in-None.ensures.value
    ∙ (sym (with_serial_lookup 0 c.self.inside.last c.args.serial c.self.inside.txs c.self.invariant.linked)
    ∙ ap (λ (s : OpenTxs). with_serial s.txs c.args.serial) c.self.view_is)

pub returns-in-None-clause-none : goal.returns-in-None-clause-none
returns-in-None-clause-none c =
    ap (λ (l : List (ℕ × OpenTx)). record { node = c.self.inside.node; born = c.self.inside.born; last = c.self.inside.last; txs = values_of l }) c.in-None.ensures.none
    ∙ c.self.view_is

pub overflow_sub-self : goal.overflow_sub-self
overflow_sub-self c =
    let least = locks_least c.self.inside.last c.args.serial c.self.inside.locks c.self.inside.waits c.in-Some.«open» c.self.inside.txs c.self.invariant (sym c.in-Some.ensures.value) in
    let is = c.sizes-locks.ensures.locks in
    omega (arith, least, is)

pub overflow_sub-self-in-Some : goal.overflow_sub-self-in-Some
overflow_sub-self-in-Some c =
    let least = waits_least c.self.inside.last c.args.serial c.self.inside.locks c.self.inside.waits c.in-Some.«open» c.self.inside.txs c.self.invariant (sym c.in-Some.ensures.value) in
    let is = c.sizes-locks.ensures.waits in
    omega (arith, least, is)

pub invariant_of-self-in-Some : goal.invariant_of-self-in-Some
invariant_of-self-in-Some c =
    let there = sym c.in-Some.ensures.value in
    let v = c.in-Some.«open» in
    let locks = locks_least c.self.inside.last c.args.serial c.self.inside.locks c.self.inside.waits v c.self.inside.txs c.self.invariant there in
    let waits = waits_least c.self.inside.last c.args.serial c.self.inside.locks c.self.inside.waits v c.self.inside.txs c.self.invariant there in
    let locks_is = c.sizes-locks.ensures.locks in
    let waits_is = c.sizes-locks.ensures.waits in
    subst (λ (l : List (ℕ × OpenTx)). IsCounted c.self.inside.last l (c.self.inside.locks - c.sizes-locks.result.0) (c.self.inside.waits - c.sizes-locks.result.1)) (sym c.in-Some.ensures.rest)
    (counted_gone c.self.inside.last c.args.serial c.self.inside.locks c.self.inside.waits
    (c.self.inside.locks - c.sizes-locks.result.0) (c.self.inside.waits - c.sizes-locks.result.1) v c.self.inside.txs c.self.invariant there
    (omega (arith, locks, locks_is)) (omega (arith, waits, waits_is)))

pub returns-in-Some-clause-value : goal.returns-in-Some-clause-value
returns-in-Some-clause-value c =
    c.in-Some.ensures.value
    ∙ (sym (with_serial_lookup 0 c.self.inside.last c.args.serial c.self.inside.txs c.self.invariant.linked)
    ∙ ap (λ (s : OpenTxs). with_serial s.txs c.args.serial) c.self.view_is)

pub returns-in-Some-clause-closed : goal.returns-in-Some-clause-closed
returns-in-Some-clause-closed c =
    ap (λ (l : List OpenTx). record { node = c.self.inside.node; born = c.self.inside.born; last = c.self.inside.last; txs = l })
    (ap values_of c.in-Some.ensures.rest ∙ values_removed 0 c.self.inside.last c.args.serial c.self.inside.txs c.self.invariant.linked)
    ∙ ap (λ (s : OpenTxs). record s { txs = filter (λ x. not (x.serial == c.args.serial)) s.txs }) c.self.view_is
