-- The events that redo no page keep the pages of a cluster of a run, so those that may are left.
use Rattle.std.proofs.Common.{◌≡◌, refl, sym, subst, ℕ, List, Option, Some, None}
use Rattle.pcl_base.specs.declared.message.Body.{Body}
use Rattle.pcl_base.specs.declared.message.Message.{Message}
use Rattle.pcl_base.specs.declared.reply.Reason.{Reason}
use Rattle.node_rules.specs.NodeState.{NodeEvent, Read, Write, Commit, Abort, Deliver, Install}
use Rattle.node_rules.specs.NodeStep.{begin_work, do_event, unless_refused, plan_of, nodestep}
use Rattle.node_rules.specs.Refusals.{refusal}
use Rattle.cluster_rules.specs.Clusters.{Cluster}
use Rattle.node_rules.specs.Work.{Outcome, Goes, Differs, Work, and_so}
use Rattle.page_relation.specs.Loss.Writes.{IsNoReport, RedoesNothing}
use Rattle.related_runs.specs.Between.Events.{ActsByEvent, ActsOn, TakesIn}
use Rattle.related_runs.proofs.BetweenParts.Events.{events_keep_pages_law}
use Rattle.whole_runs.proofs.HaltParts.Stopping.{all_stops_are_related_law}
use Rattle.whole_runs.proofs.ActParts.Answering.{no_act_differs_law}
use Rattle.whole_runs.proofs.ActParts.Whole.{acted_is_kept_law}
use Rattle.whole_runs.specs.Rest.Closing.{RedoingKeeps, RedoingIsLeft, OnlyRedoingDiffers}

-- an event that redoes no page
acts_on : (blank : List ℕ) (c : Cluster) (ev : NodeEvent) → RedoesNothing ev → ActsOn blank c ev
acts_on blank c ev nothing e n s w is made =
    acted_is_kept_law blank ev nothing c e n s w is (record { handed = made.handed; free = made.free; goes = made.goes; whole = made.whole })

-- a message that is no report
takes_in : (blank : List ℕ) (c : Cluster) (from : ℕ) (m : Message) (b : Body) → m.body ≡ b → IsNoReport b → TakesIn blank c from m
takes_in blank c from m b same none e n s w is made taken = acts_on blank c (Deliver from m) (subst IsNoReport (sym same) none) e n s w is made

acts : (blank : List ℕ) (c : Cluster) → RedoingKeeps blank c → ActsByEvent blank c
acts blank c k =
    record {
      reads = λ t p. acts_on blank c (Read t p) tt;
      writes = λ t p place bytes. acts_on blank c (Write t p place bytes) tt;
      commits = λ t. acts_on blank c (Commit t) tt;
      aborts = λ t. acts_on blank c (Abort t) tt;
      installs = k.installs;
      requests = λ from m r same. takes_in blank c from m _ same tt;
      grants = λ from m g same. takes_in blank c from m _ same tt;
      releases = λ from m r same. takes_in blank c from m _ same tt;
      returns = λ from m r same. takes_in blank c from m _ same tt;
      reports = k.reports;
      stopped_installs = λ v. all_stops_are_related_law blank c (Install v);
      stopped_reports = λ from m r same. all_stops_are_related_law blank c (Deliver from m);
    }

pub redoing_is_left_law : RedoingIsLeft
redoing_is_left_law blank c e k = events_keep_pages_law blank c e (acts blank c k)

pub only_redoing_differs_law : OnlyRedoingDiffers
unfolding nodestep
only_redoing_differs_law blank c e n s ev page expected found is handed nothing differs = by (refusal s ev) refl differs
  where
    gone : (o : Outcome Work) → do_event c.disk ev (begin_work s c.disk) ≡ o → refusal s ev ≡ None → and_so o plan_of ≡ Differs page expected found → ⊥
    gone (Goes w) same free d = absurd (cc)
    gone (Differs q x y) same free d = no_act_differs_law blank ev nothing c e n s is handed free q x y same

    by : (o : Option Reason) → refusal s ev ≡ o → and_so (unless_refused o c.disk ev (begin_work s c.disk)) plan_of ≡ Differs page expected found → ⊥
    by (Some r) same d = absurd (cc)
    by None free d = gone (do_event c.disk ev (begin_work s c.disk)) refl free d
