use Rattle.node_rules.specs.LockRule.{reported_right}
use Rattle.rebuild.proofs.Entries.{lent_put, is_ok, on_ok}
use Rattle.rebuild.proofs.Made.{made_at}
use Rattle.rebuild.proofs.gathering.gather_right.Goals as goal

pub returns-clause-table : goal.returns-clause-table
returns-clause-table c =
    let right = c.args.right.now in
    on_ok _ _ c.reported_right.result
    (λ done. lent_put (λ e. reported_right e c.args.from) c.args.t.now _ right.page c.in_ok-entry.field-0.now c.reported_right.new.self c.in_ok-entry.ensures.value c.in_ok-entry.ensures.table (c.entry.follows.holds c.reported_right.new.self (is_ok c.entry.result c.in_ok-entry.field-0 c.in_ok-entry.was)) done)
    c.reported_right.ensures.ok

pub returns-clause-made : goal.returns-clause-made
returns-clause-made c =
    on_ok _ _ c.reported_right.result
    (λ done. made_at c.args.t.now _ c.args.right.now.page c.in_ok-entry.field-0.now c.reported_right.new.self c.in_ok-entry.ensures.value (c.entry.follows.holds c.reported_right.new.self (is_ok c.entry.result c.in_ok-entry.field-0 c.in_ok-entry.was)))
    c.reported_right.ensures.ok
