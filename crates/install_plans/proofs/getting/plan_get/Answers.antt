use Rattle.std.proofs.Common.{◌≡◌, not, false, refl, ap, sym, ◌∙◌, subst}
use Rattle.node_rules.specs.LockTable.{LockTable, open_table}
use Rattle.node_rules.specs.NodeState.{HomeState, number_of}
use Rattle.node_rules.specs.Reports.{gather, missing, own_report}
use Rattle.node_rules.specs.InstallRule.{new_table, take_over}
use Rattle.install_laws.specs.InstallPlans.{IsTaken, plan_get}
use Rattle.lock_table.specs.Tables.{table_of}
use Rattle.rebuild.specs.Parts.{IsReportOf}
use Rattle.install_plans.proofs.Gathered.{gather_serving, complete_of, open_serves, rebuilt_as}
use Rattle.install_plans.proofs.Owned.{report_own}
use Rattle.install_plans.proofs.Reported.{own_reported, own_taken_over}
use Rattle.install_plans.proofs.getting.plan_get.Goals as goal

pub gather-requires-clause-pages : goal.gather-requires-clause-pages
gather-requires-clause-pages g c =
    let h = c.args.home.now in
    let t = c.in_ok-table.table in
    let own : c.in_ok-own.own ≡ own_report c.args.q h =
    own_reported c.args.by.now.config c.args.q h c.txs.result.now h.shelf c.pool.result.now c.requires.config c.txs.ensures.value refl c.pool.ensures.value
    c.in_ok-own.own (c.in_ok-own.ensures.told h.shelf h.written) in
    subst (IsReportOf t) (sym own) (report_own c.args.q h t c.txs.ensures.home (c.in_ok-table.ensures.config ∙ sym c.requires.config) c.in_ok-table.ensures.partition)

pub returns-clause-planned : goal.returns-clause-planned
unfolding plan_get
returns-clause-planned g c = λ d n before pages logs home seen.
    let k = c.args.by.now.config in
    let q = c.args.q in
    let h = c.args.home.now in
    let t = c.in_ok-table.table in
    let u = c.gather.new.t in
    let v = c.args.view.now in
    let made = c.in_ok-complete.ensures in
    let config : n.home.config ≡ k = ap (λ (x : HomeState). x.config) home ∙ c.requires.config in
    let number : number_of n ≡ c.args.by.now.me = ap (λ (x : HomeState). x.txs.node) home ∙ c.requires.number in
    let own : c.in_ok-own.own ≡ own_report q (take_over q n.home) =
    own_taken_over k q h c.txs.result.now h.shelf c.pool.result.now c.requires.config c.txs.ensures.value refl c.pool.ensures.value
    c.in_ok-own.own (c.in_ok-own.ensures.taken h.shelf h.written) ∙ ap (λ x. own_report q (take_over q x)) (sym home) in
    let opened : table_of t ≡ open_table n.home.config q false = c.in_ok-table.ensures.table ∙ ap (λ s. open_table s q false) (sym config) in
    let same : table_of u ≡ new_table q (number_of n) (take_over q n.home) = made.gathered ∙ (λ i. gather (opened i) (sym number i) (own i)) in
    let place : u.partition ≡ q = made.place.partition ∙ c.in_ok-table.ensures.partition in
    let serving : (table_of u).serving ≡ false = ap (λ (x : LockTable). x.serving) made.gathered ∙ (gather_serving (table_of t) c.args.by.now.me c.in_ok-own.own ∙ open_serves k q (table_of t) c.in_ok-table.ensures.table) in
    let whole : c.in_ok-complete.complete ≡ not (missing (table_of u) v u.partition) = made.complete ∙ (λ i. not (missing (sym made.gathered i) v (sym made.place.partition i))) in
    rebuilt_as IsTaken d n before u q (new_table q (number_of n) (take_over q n.home)) c.plan_rebuilt.result place same
    (c.plan_rebuilt.ensures.planned d n before pages logs config number (complete_of n.view v u.partition (table_of u) c.in_ok-complete.complete seen serving whole))
