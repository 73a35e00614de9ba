-- A table that is kept and served.
use Rattle.std.proofs.Common.{◌≡◌, ℕ, ◌<◌, nat_lt, true, false, Option, Some, None, List, fold, ap, sym, ◌∙◌, subst}
use Rattle.std.specs.List.{filter}
use Rattle.std.specs.Option.{IfSome}
use Rattle.pcl_base.specs.Limits.{Sizes}
use Rattle.pcl_base.specs.declared.log.Record.{Record}
use Rattle.run_rules.specs.Disk.{Disk}
use Rattle.run_rules.specs.Redo.{greatest, records_in, all_records}
use Rattle.run_rules.specs.Views.{View}
use Rattle.node_rules.specs.LockTable.{LockTable, entry_at, pages_of, serve}
use Rattle.node_rules.specs.LockRule.{LockEntry}
use Rattle.node_rules.specs.NodeState.{NodeState, number_of}
use Rattle.node_rules.specs.Work.{Goes, Differs, and_so}
use Rattle.node_rules.specs.InstallRule.{lost_nodes, purge_table}
use Rattle.install_laws.specs.InstallPlans.{Stays, Due, plan_pages, plan_settling, with_settled, is_newer, plan_served}
use Rattle.install_laws.proofs.Outcomes.{On}
use Rattle.install_laws.proofs.Redoing.{serving_kept}
use Rattle.partition_redo.specs.Chains.{PlannedView, AreAll, IsRedone, Bad, first_bad}
use Rattle.install_plans.specs.Plans.{set_one, writes_by, listed_by, versions_by}
use Rattle.install_plans.proofs.Done.{redone_pages, redone_settled, done, differs}

-- whether a page is newer hangs on its entry alone
newer_by : (rs : List Record) (u t : LockTable) (p : ℕ) → entry_at u p ≡ entry_at t p → is_newer rs u p ≡ is_newer rs t p
newer_by rs u t p same = ap (λ (e : LockEntry). nat_lt e.version (greatest rs p)) same

serve_again : (t : LockTable) → t.serving ≡ true → serve t ≡ t
serve_again t serving = λ i. record t { serving = sym serving i }

module _ (c : Sizes) (d : Disk) (q : ℕ) (n : NodeState) (me : ℕ) (before : Option View) (v : View) (t : LockTable) (within : q < c.nodes) (config : n.home.config ≡ c) (number : number_of n ≡ me) where
  abbrev lost : List Record
  lost = records_in c d (lost_nodes before v)

  -- the rule's plan, at the numbers of the configuration and the node
  named : plan_served true d d.pages before v q n t ≡ redone_settled (is_newer lost) c d (newer_by lost) q me Stays false (purge_table v.live) t within
  named = λ i. and_so (plan_pages (is_newer (records_in (config i) d (lost_nodes before v))) (all_records (config i) d) d.pages (pages_of (config i) q) t)
      (λ r. with_settled Stays false r.writes (plan_settling (number i) (pages_of (config i) q) (purge_table v.live r.table)))

  pub kept : (later : LockTable) (r : Option PlannedView) (ds : List Due) → t.serving ≡ true
      → AreAll (IsRedone c d) (filter (is_newer lost t) (pages_of c q)) (versions_by r) → first_bad d (filter (is_newer lost t) (pages_of c q)) ≡ None
      → listed_by r ≡ filter (is_newer lost t) (pages_of c q) → IfSome r (λ x. x.config ≡ c)
      → later ≡ (plan_settling me (pages_of c q) (purge_table v.live (serve (fold set_one t (versions_by r))))).table
      → ds ≡ (plan_settling me (pages_of c q) (purge_table v.live (serve (fold set_one t (versions_by r))))).decisions
      → plan_served true d d.pages before v q n t ≡ Goes (record { turnover = Stays; writes = writes_by d r; table = Some later; begins = false; decisions = ds; told = None })
  kept later r ds serving all good listed of table decisions =
      let still : (fold set_one t (versions_by r)).serving ≡ true =
      subst (On (λ x. x.table.serving ≡ true)) (redone_pages (is_newer lost) c d (newer_by lost) q me Stays false (purge_table v.live) t within r all good listed of)
      (serving_kept (is_newer lost) (all_records c d) d.pages (pages_of c q) t true serving) in
      let same : serve (fold set_one t (versions_by r)) ≡ fold set_one t (versions_by r) = serve_again (fold set_one t (versions_by r)) still in
      named
      ∙ done (is_newer lost) c d (newer_by lost) q me Stays false (purge_table v.live) t within later r ds all good listed of
      (table ∙ ap (λ u. (plan_settling me (pages_of c q) (purge_table v.live u)).table) same) (decisions ∙ ap (λ u. (plan_settling me (pages_of c q) (purge_table v.live u)).decisions) same)

  pub not_kept : (b : Bad) → first_bad d (filter (is_newer lost t) (pages_of c q)) ≡ Some b → plan_served true d d.pages before v q n t ≡ Differs b.page b.expected b.found
  not_kept b bad = named ∙ differs (is_newer lost) c d (newer_by lost) q me Stays false (purge_table v.live) t within b bad
