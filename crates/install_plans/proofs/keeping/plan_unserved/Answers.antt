use Rattle.std.proofs.Common.{◌≡◌, not, false, ap, ◌∙◌}
use Rattle.node_rules.specs.LockTable.{LockTable}
use Rattle.node_rules.specs.InstallRule.{purge_table}
use Rattle.install_laws.specs.InstallPlans.{Stays}
use Rattle.lock_table.specs.Tables.{TableView, table_of}
use Rattle.install_plans.proofs.Gathered.{complete_of, rebuilt_as}
use Rattle.install_plans.proofs.keeping.plan_unserved.Goals as goal

pub returns-clause-planned : goal.returns-clause-planned
returns-clause-planned g c = λ d n before pages logs config number seen.
    let t = c.args.t.now in
    let u = c.purge.new.t in
    let v = c.args.view.now in
    let made = c.in_ok-purge.ensures in
    let live : c.as_slice.result.now ≡ v.live = c.as_slice.ensures.value ∙ c.in_ok-live.ensures in
    let same : table_of u ≡ purge_table v.live (table_of t) = made.purged ∙ (λ i. purge_table (live i) (table_of (c.in_ok-table.ensures i))) in
    let place : u.partition ≡ t.partition = made.place.partition ∙ ap (λ (x : TableView). x.partition) c.in_ok-table.ensures in
    let serving : (table_of u).serving ≡ false = ap (λ (x : LockTable). x.serving) same ∙ c.requires.serving in
    rebuilt_as Stays d n before u t.partition (purge_table v.live (table_of t)) c.plan_rebuilt.result place same
    (c.plan_rebuilt.ensures.planned d n before pages logs config number (complete_of n.view v u.partition (table_of u) (not c.missing-complete.result) seen serving (ap not c.missing-complete.ensures)))
