-- A table that is rebuilt and misses no report.
use Rattle.std.proofs.Common.{◌≡◌, ℕ, ◌<◌, true, Option, Some, None, List, [], ◌∷◌, fold, refl, ap, sym, ◌∙◌, subst}
use Rattle.std.specs.List.{filter}
use Rattle.std.specs.Option.{IfSome}
use Rattle.pcl_base.specs.Limits.{Sizes}
use Rattle.run_rules.specs.Disk.{Disk}
use Rattle.run_rules.specs.Redo.{all_records}
use Rattle.node_rules.specs.LockTable.{LockTable, pages_of, serve}
use Rattle.node_rules.specs.NodeState.{NodeState, number_of}
use Rattle.node_rules.specs.Work.{Goes, Differs, and_so}
use Rattle.install_laws.specs.InstallPlans.{Turnover, Due, plan_pages, plan_settling, with_settled, plan_complete}
use Rattle.partition_redo.specs.Chains.{PlannedView, AreAll, IsRedone, Bad, first_bad}
use Rattle.install_plans.specs.Plans.{set_one, writes_by, listed_by, versions_by}
use Rattle.install_plans.proofs.Done.{redone_settled, done, differs}

-- each page is asked for
each_page : (ps : List ℕ) → filter (λ p. true) ps ≡ ps
each_page [] = refl
each_page (p ∷ ps) = ap (λ l. p ∷ l) (each_page ps)

module _ (c : Sizes) (d : Disk) (q : ℕ) (n : NodeState) (me : ℕ) (turnover : Turnover) (t : LockTable) (within : q < c.nodes) (config : n.home.config ≡ c) (number : number_of n ≡ me) where
  -- the rule's plan, at the numbers of the configuration and the node
  named : plan_complete true turnover d d.pages q n t ≡ redone_settled (λ u p. true) c d (λ u v p same. refl) q me turnover true serve t within
  named = λ i. and_so (plan_pages (λ u p. true) (all_records (config i) d) d.pages (pages_of (config i) q) t)
      (λ r. with_settled turnover true r.writes (plan_settling (number i) (pages_of (config i) q) (serve r.table)))

  pub completed : (later : LockTable) (r : Option PlannedView) (ds : List Due)
      → AreAll (IsRedone c d) (pages_of c q) (versions_by r) → first_bad d (pages_of c q) ≡ None → listed_by r ≡ pages_of c q → IfSome r (λ x. x.config ≡ c)
      → later ≡ (plan_settling me (pages_of c q) (serve (fold set_one t (versions_by r)))).table → ds ≡ (plan_settling me (pages_of c q) (serve (fold set_one t (versions_by r)))).decisions
      → plan_complete true turnover d d.pages q n t ≡ Goes (record { turnover = turnover; writes = writes_by d r; table = Some later; begins = true; decisions = ds; told = None })
  completed later r ds all good listed of table decisions =
      let every : filter (λ p. true) (pages_of c q) ≡ pages_of c q = each_page (pages_of c q) in
      named
      ∙ done (λ u p. true) c d (λ u v p same. refl) q me turnover true serve t within later r ds
      (subst (λ l. AreAll (IsRedone c d) l (versions_by r)) (sym every) all) (subst (λ l. first_bad d l ≡ None) (sym every) good) (listed ∙ sym every) of table decisions

  pub not_completed : (b : Bad) → first_bad d (pages_of c q) ≡ Some b → plan_complete true turnover d d.pages q n t ≡ Differs b.page b.expected b.found
  not_completed b bad =
      named
      ∙ differs (λ u p. true) c d (λ u v p same. refl) q me turnover true serve t within b (subst (λ l. first_bad d l ≡ Some b) (sym (each_page (pages_of c q))) bad)
