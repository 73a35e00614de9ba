-- The turn of a partition that the node keeps.
use Rattle.std.proofs.Common.{◌≡◌, refl, ap, ◌∙◌, ℕ, ◌+◌, ◌==◌, nat_lt, Bool, true, false, List, Option, Some, None, arith}
use Rattle.std.proofs.lemmas.Bool.Decides.{nat_tests}
use Rattle.pcl_base.specs.declared.event.Event.{Event}
use Rattle.run_rules.specs.Views.{View, born_of, owner_of}
use Rattle.node_rules.specs.InstallRule.{keep_in, owned_before}
use Rattle.node_rules.specs.NodeState.{Install, NodeState, number_of, partition, table_at}
use Rattle.node_rules.specs.Words.{pick}
use Rattle.node_rules.specs.Work.{Goes, Work}
use Rattle.cluster_rules.specs.Clusters.{Cluster}
use Rattle.cluster_laws.specs.Call.Calls.{BeginsWith, on_log}
use Rattle.page_protocol.specs.State.{Page}
use Rattle.page_protocol.specs.Steps.{Reached}
use Rattle.report_relation.specs.Completing.{NewHaveNoRight}
use Rattle.settle_relation.specs.Midway.{IsMidway}
use Rattle.page_relation.specs.Work.Events.{IsEntered}
use Rattle.page_relation.specs.Work.Keeping.{IsWorkOf, Leads}
use Rattle.report_relation.specs.Completion.Completed.{Owns}
use Rattle.install_relation.specs.Installing.{numbers_at}
use Rattle.install_relation.proofs.Begun as begun
use Rattle.install_relation.proofs.Moving.{kept_midway}
use Rattle.whole_runs.specs.Install.Turns.{IsKeptBy, IsNow, IsTurn, KeptGoesOn}
use Rattle.whole_runs.proofs.InstallParts.Early.{unviewed_are_quiet_law}
use Rattle.whole_runs.proofs.InstallParts.Keeping.{keep_goes_on}
use Rattle.whole_runs.proofs.InstallParts.Kept.{is_kept, is_purged}
use Rattle.whole_runs.proofs.InstallParts.Logs.{kept_logs, same_logs}
use Rattle.whole_runs.proofs.InstallParts.Standing.{acts, inside, inside_node, member, old_whole, whole}

-- after its turn the node has a table of the partition just where it owns it
pub owns_then : (s : NodeState) (v : View) (q : ℕ) → Owns (numbers_at s v (q + 1)) q
owns_then s v q =
    ap (λ (b : Bool). pick b (owned_before (Some v) q (number_of s)) (owned_before s.view q (number_of s))) (let next : nat_lt q (q + 1) ≡ true = grind (arith, nat_tests) in next)

module _ (blank : List ℕ) (c : Cluster) (e : Event) (n p : ℕ) (s : NodeState) (v : View) (w : Work) (i : IsTurn blank c e n p s v w) where
  abbrev q : ℕ
  q = partition c.config p

  pub quiet : NewHaveNoRight c p
  quiet = unviewed_are_quiet_law c p i.facts.unviewed

  module _ (kept : IsKeptBy c n p v) where
    abbrev calls : BeginsWith (on_log s c.disk (Install v)) w.calls
    calls = i.waits.installing.calls

    midway : IsMidway (numbers_at s v (q + 1)) c e n w
    midway = kept_midway c e n s v i.install q (inside blank c e n p s v w i) w i.waits.installing.midway kept.1

    owned : owned_before s.view q (number_of s) ≡ true
    owned =
        (begun.installs c e n s v i.install).keeps q (inside_node blank c e n p s v w i) kept.1
        ∙ (ap (λ (m : ℕ). owner_of v q == m) (member blank c e n p s v w i).number ∙ kept.0)

    older : (old : View) → s.view ≡ Some old → (born_of v (number_of s) == v.epoch) ≡ false
    older = (begun.installs c e n s v i.install).goes_on

    pub goes_on : (x : Work) (a : Page) → Reached blank a → IsWorkOf c e n p w a → IsEntered a → keep_in (table_at w.node q) c.disk s.view v q w ≡ Goes x → Leads c e n p (IsNow c e n p s v) a x
    goes_on x a reached related entered goes = by s.view refl owned goes
      where
        by : (o : Option View) → s.view ≡ o → owned_before o q (number_of s) ≡ true → keep_in (table_at w.node q) c.disk o v q w ≡ Goes x → Leads c e n p (IsNow c e n p s v) a x
        by None view had done = absurd (cc)
        by (Some old) view had done =
            keep_goes_on (numbers_at s v (q + 1)) c e n p (acts blank c e n p s v w i) i.run.related.order i.low (inside blank c e n p s v w i) quiet (owns_then s v q) old v
            (old_whole blank c e n p s v w i old view) (whole blank c e n p s v w i) blank w x a reached related midway entered
            (λ t at. record {
              mid = midway;
              entered = entered;
              kept = is_kept blank c e n p s old v w t i kept view at;
              logs = kept_logs blank c e n p s v w i (older old view) w calls;
              same = same_logs blank c e n p s v w i w calls;
            }) (λ t at rebuilt. is_purged blank c e n p s old v w t i kept view at rebuilt) done

pub kept_goes_on_law : KeptGoesOn
kept_goes_on_law blank c e n p s v w x a i kept reached related entered goes = goes_on blank c e n p s v w i kept x a reached related entered goes
