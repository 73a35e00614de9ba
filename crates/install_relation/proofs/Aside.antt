-- The turn of another partition in an install.
use Rattle.std.proofs.Common.{◌≡◌, refl, subst, ◌∙◌, ℕ, ◌+◌, ◌<◌, ◌==◌, Bool, true, false}
use Rattle.pcl_base.specs.declared.event.Event.{Event}
use Rattle.run_rules.specs.Views.{View, owner_of, since_of}
use Rattle.node_rules.specs.InstallRule.{get_partition, install_by, install_partition, tell_new_owner}
use Rattle.node_rules.specs.NodeState.{NodeState, Install, number_of, partition}
use Rattle.node_rules.specs.Work.{Work, Goes}
use Rattle.cluster_rules.specs.Clusters.{Cluster}
use Rattle.cluster_laws.specs.Call.Calls.{BeginsWith, on_log}
use Rattle.cluster_laws.proofs.CallParts.Owned.{Calls}
use Rattle.page_relation.proofs.WorkParts.Framing.{unseen_self, unseen_then}
use Rattle.settle_relation.specs.Midway.{IsMidway}
use Rattle.settle_relation.proofs.Carrying.{on_goes}
use Rattle.report_relation.specs.Completion.Completed.{IsBeside}
use Rattle.report_relation.proofs.CompletionParts.Beside.{complete_beside}
use Rattle.install_relation.specs.Installing.{IsInstall, numbers_at}
use Rattle.install_relation.specs.Taking.{taken}
use Rattle.install_relation.proofs.Beside.{keep_beside}
use Rattle.install_relation.proofs.Calling.{partition_calls}
use Rattle.install_relation.proofs.Elsewhere.{taking_elsewhere_law, telling_elsewhere_law}
use Rattle.install_relation.proofs.Moving.{taken_midway, told_midway, kept_midway}

module _ (c : Cluster) (e : Event) (n : ℕ) (s : NodeState) (v : View) (i : IsInstall c e n s v) (q : ℕ) (low : q < c.config.nodes) where
  -- the calls of any partition's turn write pages alone
  pub still_called : (w x : Work) → BeginsWith (on_log s c.disk (Install v)) w.calls → install_partition c.disk s.view v q w ≡ Goes x → BeginsWith (on_log s c.disk (Install v)) x.calls
  still_called w x calls goes =
      on_goes (Calls (on_log s c.disk (Install v))) (install_partition c.disk s.view v q w) x goes (partition_calls (on_log s c.disk (Install v)) c.disk s.view v q w calls)

  module _ (p : ℕ) (other : (q == partition c.config p) ≡ false) (w x : Work) (m : IsMidway (numbers_at s v q) c e n w) where
    abbrev Beside : Work → Work → Type 0
    Beside = IsBeside (numbers_at s v (q + 1)) c e n p

    gets : (owner_of v q == number_of w.node) ≡ true → get_partition c.disk q w ≡ Goes x → Beside w x
    unfolding get_partition
    gets owns goes =
        let first = taken_midway c e n s v i q low w m owns in
        let more = complete_beside (numbers_at s v (q + 1)) c e n p q low other (taken q w) x first goes in
        record { midway = more.midway; unseen = unseen_then c e n p w (taken q w) x (taking_elsewhere_law c e n p q w (m.good.home.config ∙ m.config) other) more.unseen }

    tells : (owner_of v q == number_of w.node) ≡ false → tell_new_owner s.view v q w ≡ x → Beside w x
    tells apart same =
        subst (Beside w) same
        (record { midway = told_midway c e n s v i q low w m apart; unseen = telling_elsewhere_law c e n p q s.view v w (m.good.home.config ∙ m.config) other })

    pub aside : install_partition c.disk s.view v q w ≡ Goes x → Beside w x
    unfolding install_partition
    aside = by (owner_of v q == number_of w.node) refl (since_of v q == v.epoch) refl
      where
        by : (a : Bool) → (owner_of v q == number_of w.node) ≡ a → (b : Bool) → (since_of v q == v.epoch) ≡ b → install_by a b c.disk s.view v q w ≡ Goes x → Beside w x
        by true own true new goes = gets own goes
        by true own false old goes = keep_beside (numbers_at s v (q + 1)) c e n p q low other s.view v w x (kept_midway c e n s v i q low w m old) goes
        by false own true new goes = tells own (let same : tell_new_owner s.view v q w ≡ x = cc in same)
        by false own false old goes =
            let same : w ≡ x = cc in
            subst (Beside w) same (record { midway = kept_midway c e n s v i q low w m old; unseen = unseen_self c e n p w })
