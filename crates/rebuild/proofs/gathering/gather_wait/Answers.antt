use Rattle.node_rules.specs.LockRule.{ask}
use Rattle.rebuild.proofs.Entries.{lent_put, is_ok, on_ok}
use Rattle.rebuild.proofs.Made.{made_at}
use Rattle.rebuild.proofs.gathering.gather_wait.Goals as goal

pub returns-clause-table : goal.returns-clause-table
returns-clause-table c =
    let wait = c.args.wait.now in
    on_ok _ _ c.ask.result
    (λ done. lent_put (λ e. ask e (record { tx = wait.tx; mode = wait.mode; have = wait.have })) c.args.t.now _ wait.page c.in_ok-entry.field-0.now c.ask.new.self c.in_ok-entry.ensures.value c.in_ok-entry.ensures.table (c.entry.follows.holds c.ask.new.self (is_ok c.entry.result c.in_ok-entry.field-0 c.in_ok-entry.was)) done)
    c.ask.ensures.ok

pub returns-clause-made : goal.returns-clause-made
returns-clause-made c =
    on_ok _ _ c.ask.result
    (λ done. made_at c.args.t.now _ c.args.wait.now.page c.in_ok-entry.field-0.now c.ask.new.self c.in_ok-entry.ensures.value (c.entry.follows.holds c.ask.new.self (is_ok c.entry.result c.in_ok-entry.field-0 c.in_ok-entry.was)))
    c.ask.ensures.ok
