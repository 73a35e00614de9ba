-- Accesses that wait were asked for last, and homes give fewer serials than there are.
use Rattle.std.proofs.Common.{◌≡◌, refl, sym, subst, ◌∙◌, ℕ, ◌^◌, ◌<◌, List, [], ◌∷◌, Option, Some, None, arith}
use Rattle.std.specs.Prelude.{IfSome}
use Rattle.std.specs.List.{fold}
use Rattle.pcl_base.specs.declared.lock.Pending.{Pending}
use Rattle.pcl_base.specs.declared.tx.TxId.{TxId}
use Rattle.run_rules.specs.Script.{Moment, moments, last_write}
use Rattle.node_rules.specs.NodeState.{NodeState, first_node, start_node}
use Rattle.node_rules.specs.OpenTxs.{pending_of}
use Rattle.cluster_rules.specs.Clusters.{Cluster, opening, node_at}
use Rattle.cluster_rules.specs.ClusterStep.{step}
use Rattle.cluster_laws.proofs.Lists.{look_counted}
use Rattle.cluster_laws.proofs.Steps.{plans_are_good_law}
use Rattle.cluster_laws.specs.Link.StepLaws.{IsNodeStep, node_stays, node_acts, node_lost, node_starts}
use Rattle.cluster_laws.proofs.LinkParts.Nodes.{nodes_step_law}
use Rattle.cluster_laws.specs.Ask.Asked as ask
use Rattle.cluster_laws.proofs.AskParts.Kept.{steps_wait_as_asked_law}
use Rattle.page_laws.specs.Moment.Looks.{asked_last}
use Rattle.page_relation.specs.Together.{WaitsAsAsked}
use Rattle.related_runs.specs.Parts.{StepsHaveAsked, OpeningHasSerials, StepsHaveSerials}
use Rattle.related_runs.proofs.Stepped.{steps_keep_serials_law}

-- two ways to say what was asked for last
folded : (t : TxId) (w : Option (ℕ × List ℕ)) (ms : List Moment) → ask.asked_last t w ms ≡ fold (last_write t) w ms
unfolding ask.asked_last
folded t w [] = refl
folded t w (m ∷ ms) = folded t (last_write t w m) ms

same_asked : (c : Cluster) (t : TxId) → ask.asked_last t None (moments c.trace) ≡ asked_last t c.trace
unfolding asked_last
same_asked c t = folded t None (moments c.trace)

moved : (o : Option Pending) (v w : Option (ℕ × List ℕ)) → v ≡ w → IfSome o (λ (p : Pending). p.write ≡ v) → IfSome o (λ (p : Pending). p.write ≡ w)
moved None v w same a = tt
moved (Some p) v w same a = a ∙ same

to_there : (c : Cluster) (t : TxId) (o : Option NodeState) → WaitsAsAsked c t o → ask.WaitsAsAsked c t o
to_there c t None a = tt
to_there c t (Some s) a = moved (pending_of s.home.txs t) (asked_last t c.trace) (ask.asked_last t None (moments c.trace)) (sym (same_asked c t)) a

to_here : (c : Cluster) (t : TxId) (o : Option NodeState) → ask.WaitsAsAsked c t o → WaitsAsAsked c t o
to_here c t None a = tt
to_here c t (Some s) a = moved (pending_of s.home.txs t) (ask.asked_last t None (moments c.trace)) (asked_last t c.trace) (same_asked c t) a

pub steps_have_asked_law : StepsHaveAsked
steps_have_asked_law c e i h t =
    to_here (step c e) t (node_at (step c e) t.node) (steps_wait_as_asked_law c e i (λ u. to_there c u (node_at c u.node) (h u)) t)

-- serials
abbrev FewSerials : Option NodeState → Type 0
FewSerials o = IfSome o (λ (s : NodeState). s.home.txs.last < 2 ^ 32)

pub opening_has_serials_law : OpeningHasSerials
unfolding opening first_node
opening_has_serials_law c n = look_counted (λ j o. FewSerials o) None (λ k. Some (first_node c k)) c.nodes 0 n (λ j low. omega arith) (λ j. tt)

pub steps_have_serials_law : StepsHaveSerials
unfolding start_node
steps_have_serials_law c e i h n = by (nodes_step_law c e n i)
  where
    by : IsNodeStep c e n (node_at (step c e) n) → FewSerials (node_at (step c e) n)
    by (node_stays same) = subst FewSerials (sym same) (h n)
    by (node_acts s ev p planned same) =
        subst FewSerials (sym same)
        (steps_keep_serials_law s ev c.disk p (plans_are_good_law c e n s ev p i planned.handed planned.goes).step (subst FewSerials planned.handed.up (h n)))
    by (node_lost same) = subst FewSerials (sym same) tt
    by (node_starts same down) = subst FewSerials (sym same) (omega arith)
