-- Kinds of steps that lose a node.
use Rattle.std.proofs.Common.{◌≡◌, subst, ℕ, ◌^◌, ◌<◌, List, [], ◌∷◌, Option, Some, None}
use Rattle.std.specs.Prelude.{IfSome}
use Rattle.pcl_base.specs.declared.event.Event.{Event}
use Rattle.pcl_base.specs.declared.event.Event.TheVariants as event
use Rattle.pcl_base.specs.declared.reply.Reply.TheVariants as reply
use Rattle.node_rules.specs.DiskCalls.{Left}
use Rattle.node_rules.specs.NodeState.{NodeState, NodeEvent, partition}
use Rattle.node_rules.specs.NodeStep.{Plan, nodestep}
use Rattle.node_rules.specs.Work.{Goes}
use Rattle.cluster_rules.specs.Clusters.{Cluster, stop_at, lose, note_entry, answer}
use Rattle.cluster_rules.specs.ClusterStep.{halted, left_of}
use Rattle.cluster_laws.specs.Handed.{IsHanded}
use Rattle.page_relation.specs.Loss.Writes.{ScriptsFit, RedoesNothing}
use Rattle.page_relation.proofs.LossParts.Halted.{differing_is_related_law}
use Rattle.page_relation.proofs.LossParts.Ordinary.{ordinary_halts_are_related_law}
use Rattle.page_relation.proofs.LossParts.Wholes.{quiet_events_keep_related_law}
use Rattle.related_runs.specs.RunLaws.{IsOfRun, LeavesPages}
use Rattle.related_runs.specs.Between.Whole.{LostKindsAreLeft, HaltedPagesAreLeft}
use Rattle.related_runs.proofs.BetweenParts.Leaving.{pages_are_between_law, runs_have_entered, lost_writes, lost_entered}
use Rattle.related_runs.proofs.BetweenParts.Wrote.{runs_have_writes_law}

-- a node that crashes
crashed_left : (blank : List ℕ) (c : Cluster) → IsOfRun blank c → (n : ℕ) → LeavesPages blank (answer (event.Crash n) reply.Crashed (lose n c))
unfolding lose
crashed_left blank c is n =
    pages_are_between_law blank (answer (event.Crash n) reply.Crashed (lose n c)) ((quiet_events_keep_related_law blank c is.related).crashed n).pages
    (λ m p low. lost_entered c.nodes n (partition c.config p) p (λ k. runs_have_entered blank c is k p low) m)
    (lost_writes c.nodes c.trace (record { event = event.Crash n; replies = reply.Crashed ∷ []; sent = []; halted = None }) n (runs_have_writes_law blank c is))

-- a page that differs
differs_left : (blank : List ℕ) (c : Cluster) → IsOfRun blank c → (e : Event) (n : ℕ) (s : NodeState) (ev : NodeEvent) → IsHanded c e n s ev → LeavesPages blank (note_entry e [] [] None (lose n c))
unfolding lose
differs_left blank c is e n s ev h =
    pages_are_between_law blank (note_entry e [] [] None (lose n c)) (differing_is_related_law blank c e n s ev is.related h).pages
    (λ m p low. lost_entered c.nodes n (partition c.config p) p (λ k. runs_have_entered blank c is k p low) m)
    (lost_writes c.nodes c.trace (record { event = e; replies = []; sent = []; halted = None }) n (runs_have_writes_law blank c is))

-- a stop
pub halted_pages_are_left_law : HaltedPagesAreLeft
unfolding lose
halted_pages_are_left_law blank c e n l is pages =
    pages_are_between_law blank (halted e n l c) pages
    (λ m p low. lost_entered c.nodes n (partition c.config p) p (λ k. runs_have_entered blank c is k p low) m)
    (lost_writes c.nodes c.trace (record { event = e; replies = []; sent = []; halted = Some (record { call = l.call; kept = l.kept }) }) n (runs_have_writes_law blank c is))

-- what a kept record asks of the cluster
pub scripts_fit : (blank : List ℕ) (c : Cluster) (is : IsOfRun blank c) → ScriptsFit c is.related.pages.page
scripts_fit blank c is =
    record {
      within = is.within;
      wrote = λ t p low holds. is.between.wrote p low t holds;
      serials = λ n s up. subst (λ (o : Option NodeState). IfSome o (λ (m : NodeState). m.home.txs.last < 2 ^ 32)) up (is.serials n);
    }

stopped_left : (blank : List ℕ) (c : Cluster) → IsOfRun blank c → (e : Event) (n : ℕ) (s : NodeState) (ev : NodeEvent) (p : Plan) (l : Left) → IsHanded c e n s ev
    → nodestep s ev c.disk ≡ Goes p → left_of n c.disk p.calls (stop_at c n) ≡ Some l → RedoesNothing ev → LeavesPages blank (halted e n l c)
stopped_left blank c is e n s ev p l h goes stops redoes =
    halted_pages_are_left_law blank c e n l is
    (ordinary_halts_are_related_law blank c e n s ev p l is.related (record { handed = h; goes = goes }) stops redoes (scripts_fit blank c is)).pages

pub lost_kinds_are_left_law : LostKindsAreLeft
lost_kinds_are_left_law blank c is =
    record { crashed = crashed_left blank c is; differs = differs_left blank c is; stopped = stopped_left blank c is }
