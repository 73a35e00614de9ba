use Rattle.std.proofs.Common.{◌≡◌, ◌∙◌, sym, ap, is_some, None, Option}
use Rattle.std.proofs.lemmas.Bool.{false≢true}
use Rattle.std.specs.List.{position}
use Rattle.pcl_base.specs.declared.lock.Held.{Held}
use Rattle.node_rules.specs.OpenTxs.{OpenTx, lock_on}
use Rattle.tx_table.proofs.Locks.{lock_none, is_on}
use Rattle.tx_table.proofs.open.Open.add.Goals as goal

pub returns-in-None-clause-held : goal.returns-in-None-clause-held
returns-in-None-clause-held c =
    let now = c.args.self.now in
    let p = c.args.lock.page in
    let pages : c.as_slice.result.now ≡ now.pages = c.as_slice.ensures.value ∙ ap (λ (o : OpenTx). o.pages) c.self.view_is in
    let none : lock_on now.pages p ≡ None = lock_none now.pages p (ap (λ hs. position (is_on p) hs) (sym pages) ∙ sym c.in-None.ensures) in
    λ held. absurd (false≢true (ap (λ (o : Option Held). is_some o) (sym none) ∙ held))
