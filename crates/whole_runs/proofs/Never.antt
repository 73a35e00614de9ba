-- No page differs in any step.
use Rattle.std.proofs.Common.{◌≡◌, refl, sym, subst, ℕ, List, [], ◌∷◌, Option, Some, None}
use Rattle.pcl_base.specs.declared.event.Event.{Event}
use Rattle.pcl_base.specs.declared.message.Body.{Body}
use Rattle.pcl_base.specs.declared.message.Body.TheVariants as body
use Rattle.pcl_base.specs.declared.message.Message.{Message}
use Rattle.node_rules.specs.NodeState.{NodeState, NodeEvent, Begin, Read, Write, Commit, Abort, Deliver, Evict, Flush, Install, Cut}
use Rattle.pcl_base.specs.declared.reply.Reason.{Reason}
use Rattle.run_rules.specs.Views.{View}
use Rattle.node_rules.specs.NodeStep.{begin_work, do_event, unless_refused, plan_of, nodestep}
use Rattle.node_rules.specs.Refusals.{refusal}
use Rattle.node_rules.specs.Work.{Outcome, Goes, Differs, Work, and_so}
use Rattle.cluster_rules.specs.Clusters.{Cluster, opening}
use Rattle.cluster_rules.specs.ClusterStep.{step}
use Rattle.cluster_rules.specs.Run.{last_from}
use Rattle.cluster_laws.specs.Handed.{IsHanded}
use Rattle.page_relation.specs.Loss.Writes.{IsNoReport}
use Rattle.page_relation.specs.Laws as pages
use Rattle.whole_runs.proofs.RestParts.Left.{only_redoing_differs_law}
use Rattle.whole_runs.proofs.InstallParts.NoneDiffers.{no_install_differs_law}
use Rattle.whole_runs.proofs.ReportParts.Agreed.{no_report_differs_law}
use Rattle.whole_runs.specs.Runs.{IsKnownRun, NoStepDiffers}
use Rattle.whole_runs.proofs.Going.{opening_is_known, steps_go_on_law}

last_is_known : (b : List ℕ) (es : List Event) (c : Cluster) → IsKnownRun b c → IsKnownRun b (last_from c es)
last_is_known b [] c k = k
last_is_known b (e ∷ es) c k = last_is_known b es (step c e) (steps_go_on_law b c e k)

module _ (b : List ℕ) (c : Cluster) (k : IsKnownRun b c) (e : Event) (n : ℕ) (s : NodeState) (page expected found : ℕ) where
  abbrev Never : NodeEvent → Type 0
  Never ev = IsHanded c e n s ev → nodestep s ev c.disk ≡ Differs page expected found → ⊥

  delivered : (from : ℕ) (m : Message) (x : Body) → m.body ≡ x → Never (Deliver from m)
  delivered from m (body.Report r) same h d = no_report_differs_law b c k.run k.facts e n s from m r page expected found same h d
  delivered from m (body.Request r) same h d = only_redoing_differs_law b c e n s (Deliver from m) page expected found k.run h (subst IsNoReport (sym same) tt) d
  delivered from m (body.Grant g) same h d = only_redoing_differs_law b c e n s (Deliver from m) page expected found k.run h (subst IsNoReport (sym same) tt) d
  delivered from m (body.Release r) same h d = only_redoing_differs_law b c e n s (Deliver from m) page expected found k.run h (subst IsNoReport (sym same) tt) d
  delivered from m (body.Revoke q) same h d = only_redoing_differs_law b c e n s (Deliver from m) page expected found k.run h (subst IsNoReport (sym same) tt) d
  delivered from m (body.Return r) same h d = only_redoing_differs_law b c e n s (Deliver from m) page expected found k.run h (subst IsNoReport (sym same) tt) d

  installed : (v : View) → Never (Install v)
  unfolding nodestep
  installed v h d = by (refusal s (Install v)) refl d
    where
      gone : (o : Outcome Work) → do_event c.disk (Install v) (begin_work s c.disk) ≡ o → refusal s (Install v) ≡ None → and_so o plan_of ≡ Differs page expected found → ⊥
      gone (Goes w) same free d = absurd (cc)
      gone (Differs q x y) same free d = no_install_differs_law b c e n s v q x y k.run k.facts h free same

      by : (o : Option Reason) → refusal s (Install v) ≡ o → and_so (unless_refused o c.disk (Install v) (begin_work s c.disk)) plan_of ≡ Differs page expected found → ⊥
      by (Some r) same d = absurd (cc)
      by None free d = gone (do_event c.disk (Install v) (begin_work s c.disk)) refl free d

  never : (ev : NodeEvent) → Never ev
  never (Install v) h d = installed v h d
  never (Deliver from m) h d = delivered from m m.body refl h d
  never Begin h d = only_redoing_differs_law b c e n s Begin page expected found k.run h tt d
  never (Read t p) h d = only_redoing_differs_law b c e n s (Read t p) page expected found k.run h tt d
  never (Write t p place bytes) h d = only_redoing_differs_law b c e n s (Write t p place bytes) page expected found k.run h tt d
  never (Commit t) h d = only_redoing_differs_law b c e n s (Commit t) page expected found k.run h tt d
  never (Abort t) h d = only_redoing_differs_law b c e n s (Abort t) page expected found k.run h tt d
  never (Evict p) h d = only_redoing_differs_law b c e n s (Evict p) page expected found k.run h tt d
  never (Flush p) h d = only_redoing_differs_law b c e n s (Flush p) page expected found k.run h tt d
  never Cut h d = only_redoing_differs_law b c e n s Cut page expected found k.run h tt d

pub no_step_differs_law : NoStepDiffers
no_step_differs_law c es e n s ev page expected found limits h d =
    never (pages.blank c) _ (last_is_known (pages.blank c) es (opening c) (opening_is_known c limits)) e n s page expected found ev h d
