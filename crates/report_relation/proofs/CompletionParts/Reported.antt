-- A report that is taken, also where no further one is missing.
use Rattle.std.proofs.Common.{◌≡◌, refl, subst, ℕ, ◌<◌, false, List, Some}
use Rattle.pcl_base.specs.Limits.{Sizes}
use Rattle.pcl_base.specs.declared.event.Event.{Event}
use Rattle.pcl_base.specs.declared.message.Body.TheVariants as body
use Rattle.pcl_base.specs.declared.message.Message.{Message}
use Rattle.pcl_base.specs.declared.message.Report.{Report}
use Rattle.text_rules.specs.MessageBytes.{IsBody}
use Rattle.node_rules.specs.LockTable.{LockTable}
use Rattle.node_rules.specs.NodeState.{NodeState, table_at}
use Rattle.node_rules.specs.Work.{Goes, Work}
use Rattle.node_laws.proofs.Bases.{base_of}
use Rattle.cluster_rules.specs.Clusters.{Cluster}
use Rattle.page_protocol.specs.State.{Page}
use Rattle.page_relation.specs.Together.{IsParty}
use Rattle.page_relation.specs.Work.Keeping.{Leads}
use Rattle.page_relation.specs.Work.Taken.{taken_of}
use Rattle.settle_relation.specs.Arriving.{IsTakenIn, IsWhole}
use Rattle.settle_relation.proofs.Requesting.{acts, can, ended, goes_on, midway}
use Rattle.settle_relation.proofs.Turns.{IsBetween}
use Rattle.report_relation.specs.Gathering.{gathered}
use Rattle.report_relation.proofs.Reporting.{report_by}
use Rattle.report_relation.specs.Completion.Completed.{MayBeWhole}
use Rattle.report_relation.specs.Completion.Reported.{MayTake, ReportIsKept}
use Rattle.report_relation.proofs.CompletionParts.Completed.{completes}

module _ (c : Cluster) (e : Event) (n p from : ℕ) (s : NodeState) (m : Message) (blank : List ℕ) (a : Page) (i : IsTakenIn c e n p from s m blank a) (r : Report) (is : m.body ≡ body.Report r) where
  -- its partition is one
  pub report_inside : r.partition < c.config.nodes
  report_inside = subst (λ (k : Sizes). r.partition < k.nodes) (midway c e n p from s m blank a i).config named.0
    where
      named : IsBody s.home.config (body.Report r)
      named = subst (IsBody s.home.config) is (can c e n p from s m blank a i)

  -- the table with the report may be completed
  pub gathered_may : MayTake c e n p from s r a → (t : LockTable) → table_at s r.partition ≡ Some t → t.serving ≡ false → MayBeWhole c e n p r.partition (gathered r.partition t from r (taken_of c s)) a
  gathered_may may t there off =
      record { same = refl; logs = i.cluster.disk.logs; whole = λ v u at ready. may.whole t (record { there = there; rebuilt = off }) v u at ready }

  module _ (party : IsParty c from n m) (may : MayTake c e n p from s r a) where
    pub last_leads : (x : Work) → IsWhole c n from s m x → Leads c e n p (IsBetween (base_of s) c e n) a x
    last_leads x whole =
        report_by c e n p from s m blank a i party r is x (λ t there off at. may.behind t (record { there = there; rebuilt = off }) at)
        (λ t there off related mid done.
        completes (base_of s) c e n p (acts c e n p from s m blank a i) i.order i.below r.partition report_inside may.quiet refl blank (gathered r.partition t from r (taken_of c s)) x a i.reached related
        (mid, i.entered, gathered_may may t there off) done)
        (goes_on c e n p from s m blank a i (body.Report r) (Goes x) is whole.goes)

pub report_is_kept_law : ReportIsKept
report_is_kept_law c e n p from s m r x blank a i whole party is may = ended c e n p from s m blank a i x whole (last_leads c e n p from s m blank a i r is party may x whole)
