-- No page differs that is read for a report.
use Rattle.std.proofs.Common.{◌≡◌, refl, ℕ, ◌<◌, Bool, true, false, List, Option, Some, None, arith}
use Rattle.pcl_base.specs.declared.event.Event.{Event}
use Rattle.pcl_base.specs.declared.message.Body.TheVariants as body
use Rattle.pcl_base.specs.declared.message.Message.{Message}
use Rattle.pcl_base.specs.declared.message.Report.{Report}
use Rattle.node_rules.specs.InstallRule.{complete, on_report, on_report_in, take_report}
use Rattle.node_rules.specs.LockTable.{LockTable}
use Rattle.node_rules.specs.NodeState.{NodeState, Deliver, table_at}
use Rattle.node_rules.specs.NodeStep.{do_event}
use Rattle.node_rules.specs.Work.{Differs}
use Rattle.node_laws.proofs.Bases.{base_of}
use Rattle.cluster_rules.specs.Clusters.{Cluster}
use Rattle.page_protocol.specs.State.{Page}
use Rattle.page_relation.specs.Together.{IsParty}
use Rattle.page_relation.specs.Work.StepEnds.{start_of}
use Rattle.page_relation.specs.Work.Taken.{taken_of}
use Rattle.settle_relation.specs.Arriving.{IsTakenIn}
use Rattle.settle_relation.proofs.Requesting.{acts, goes_on}
use Rattle.report_relation.specs.Gathering.{gathered}
use Rattle.report_relation.specs.Completion.Agreeing.{NoReportDiffers}
use Rattle.report_relation.specs.Completion.Reported.{MayTake}
use Rattle.report_relation.proofs.CompletionParts.Agreed.{completing_agrees}
use Rattle.report_relation.proofs.CompletionParts.Gathering.{gathered_midway, gathered_related}
use Rattle.report_relation.proofs.CompletionParts.Reported.{gathered_may, report_inside}

module _ (c : Cluster) (e : Event) (n from : ℕ) (s : NodeState) (m : Message) (r : Report) (blank : List ℕ) (page : ℕ → Page)
    (all : (p : ℕ) → p < c.config.pages → IsTakenIn c e n p from s m blank (page p) × MayTake c e n p from s r (page p)) (some : 0 < c.config.pages) (party : IsParty c from n m) (is : m.body ≡ body.Report r) where
  -- the first page has all that isn't of a page
  first : IsTakenIn c e n 0 from s m blank (page 0)
  first = (all 0 some).0

  last_agrees : (t : LockTable) → table_at s r.partition ≡ Some t → t.serving ≡ false → (k expected found : ℕ)
      → complete c.disk r.partition (gathered r.partition t from r (taken_of c s)) ≡ Differs k expected found → ⊥
  last_agrees t there off =
      completing_agrees blank (base_of s) c e n r.partition (acts c e n 0 from s m blank (page 0) first) first.order (report_inside c e n 0 from s m blank (page 0) first r is)
      (gathered r.partition t from r (taken_of c s)) refl (gathered_midway c e n 0 from s m blank (page 0) first r is t there)
      (λ p low at.
      let i = (all p low).0 in
      let may = (all p low).1 in
      record {
        page = page p;
        reached = i.reached;
        related = gathered_related c e n p from s m blank (page p) i r is t there party off (λ same. may.behind t (record { there = there; rebuilt = off }) same);
        entered = i.entered;
        may = gathered_may c e n p from s m blank (page p) i r is may t there off;
        quiet = may.quiet;
      })

  reporting_agrees : (k expected found : ℕ) → on_report c.disk from r (taken_of c s) ≡ Differs k expected found → ⊥
  unfolding on_report
  reporting_agrees k expected found differs = by (table_at s r.partition) refl differs
    where
      taken : (t : LockTable) → table_at s r.partition ≡ Some t → (b : Bool) → t.serving ≡ b → take_report b c.disk from r t (taken_of c s) ≡ Differs k expected found → ⊥
      taken t there true on done = absurd (cc)
      taken t there false off done = last_agrees t there off k expected found done

      by : (o : Option LockTable) → table_at s r.partition ≡ o → on_report_in c.disk from r o (taken_of c s) ≡ Differs k expected found → ⊥
      by None there done = absurd (cc)
      by (Some t) there done = taken t there t.serving refl done

  pub report_agrees : (k expected found : ℕ) → do_event c.disk (Deliver from m) (start_of c s) ≡ Differs k expected found → ⊥
  report_agrees k expected found differs =
      reporting_agrees k expected found (goes_on c e n 0 from s m blank (page 0) first (body.Report r) (Differs k expected found) is differs)

pub no_report_differs_law : NoReportDiffers
no_report_differs_law c e n from s m r blank page k expected found cluster all party is differs =
    let pages = cluster.limits.some_pages in
    report_agrees c e n from s m r blank page all (omega (arith, pages)) party is k expected found differs
