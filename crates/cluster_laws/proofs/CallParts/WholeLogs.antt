-- The logs of nodes in a view are whole records.
use Rattle.std.proofs.Common.{◌≡◌, ◌≢◌, ◌⊎◌, ⊎_elim, inl, inr, refl, ap, sym, subst, ◌∙◌, ℕ, ◌<◌, false, List, [], ◌∷◌, length, slice_index_or, Option, Some, None, arith}
use Rattle.std.specs.Prelude.{IfSome}
use Rattle.std.specs.List.{fold}
use Rattle.std.proofs.lemmas.Bool.Decides.{nat_tests}
use Rattle.pcl_base.specs.Limits.{Sizes}
use Rattle.pcl_base.specs.declared.event.Event.{Event}
use Rattle.pcl_base.specs.declared.reply.Reply.TheVariants as reply
use Rattle.run_rules.specs.Disk.{Disk, log_at, fresh_disk}
use Rattle.run_rules.specs.Views.{View}
use Rattle.node_rules.specs.DiskCalls.{DiskCall, Stop, Left, all_done}
use Rattle.node_rules.specs.NodeState.{NodeState, NodeEvent, start_node}
use Rattle.node_rules.specs.Work.{Outcome, Goes, Differs}
use Rattle.node_rules.specs.NodeStep.{Plan, nodestep}
use Rattle.node_laws.proofs.Lists.{set_look, set_at}
use Rattle.redo_laws.specs.Words.{IsWhole}
use Rattle.cluster_rules.specs.Clusters.{Cluster, opening, node_at, stop_at, lose, answer, last_view}
use Rattle.cluster_rules.specs.ClusterStep.{links_after, made, made_or_halted, left_of, after_plan, node_step, start_one, start_all, all_nodes, returning, refuse, arm, make_view, make_reopened}
use Rattle.cluster_laws.specs.Handed.{IsHanded}
use Rattle.cluster_laws.specs.Epochs.{StaysInView, HasInstalled}
use Rattle.cluster_laws.specs.Sound.{IsMember, IsCluster}
use Rattle.cluster_laws.proofs.Cases.{by_step}
use Rattle.cluster_laws.proofs.Epochs.{steps_keep_views_law}
use Rattle.cluster_laws.proofs.Lists.{look_same}
use Rattle.cluster_laws.proofs.Steps.{up_is_member_law}
use Rattle.cluster_laws.specs.Call.Calls.{log_of_node, log_calls, log_by}
use Rattle.cluster_laws.specs.Call.CallLaws.{HasWholeLog, HaveWholeLogs, OpeningHasWholeLogs, CommitsHaveNumbers, StepsKeepWholeLogs}
use Rattle.cluster_laws.proofs.CallParts.Disks.{calls_keep_other_logs_law, calls_change_log_law, stops_keep_other_logs_law}
use Rattle.cluster_laws.proofs.CallParts.Events.{steps_begin_with_logs_law}
use Rattle.cluster_laws.proofs.CallParts.OwnLogs.{joined_log, IsBorn, born_with, IsReady, step_whole}

-- what is known of the log of a node in a view
any_view : {W : Type 0} (o : Option View) → W → IfSome o (λ v. W)
any_view None w = tt
any_view (Some v) w = w

whole_in : (c : Cluster) (m : ℕ) (s : NodeState) (v : View) → HaveWholeLogs c → node_at c m ≡ Some s → s.view ≡ Some v → IsWhole c.config (log_at c.disk m)
whole_in c m s v h up own =
    subst (λ (o : Option View). IfSome o (λ v. IsWhole c.config (log_at c.disk m))) own (subst (HasWholeLog c m) up (h m))

-- the acting node
acted : (c : Cluster) (e : Event) (m : ℕ) (s : NodeState) (ev : NodeEvent) (p : Plan) → IsCluster c → HaveWholeLogs c → CommitsHaveNumbers c e → IsHanded c e m s ev → nodestep s ev c.disk ≡ Goes p
    → IfSome p.node.view (λ v. IsWhole c.config (log_at (all_done m c.disk p.calls) m))
acted c e m s ev p i h numbers handed goes = by (steps_keep_views_law s ev c.disk p goes)
  where
    known : (m < c.config.nodes) × IsMember c.config c.views m s
    known = up_is_member_law c m s i handed.up

    is : IsMember c.config c.views m s
    is = known.1

    same_log : log_of_node s c.disk ≡ log_at c.disk m
    same_log = ap (log_at c.disk) is.number

    ready : (IsWhole c.config (log_at c.disk m) ⊎ IsBorn s ev) → IsReady s c.disk ev
    ready w =
        record {
          limits = is.sound.limits;
          home = is.sound.home;
          numbers = λ t asked. numbers m s t (subst (IsHanded c e m s) asked handed);
          whole = ⊎_elim (λ x. inl (subst (λ (k : Sizes). IsWhole k (log_of_node s c.disk)) (sym is.config) (subst (IsWhole c.config) (sym same_log) x))) (λ b. inr b) w;
        }

    after : (IsWhole c.config (log_at c.disk m) ⊎ IsBorn s ev) → IsWhole c.config (log_at (all_done m c.disk p.calls) m)
    after w =
        let begins = steps_begin_with_logs_law s ev c.disk p goes in
        let joined : fold log_by (log_at c.disk m) p.calls ≡ fold log_by (log_at c.disk m) (log_calls s c.disk ev) =
        ap (fold log_by (log_at c.disk m)) begins.joined ∙ joined_log (log_at c.disk m) (log_calls s c.disk ev) begins.writes begins.all in
        let log : log_at (all_done m c.disk p.calls) m ≡ fold log_by (log_at c.disk m) (log_calls s c.disk ev) =
        calls_change_log_law m c.disk p.calls (subst (λ (k : ℕ). m < k) (sym i.disk.logs) known.0) ∙ joined in
        let own = step_whole s c.disk ev (ready w) in
        subst (IsWhole c.config) (sym log)
        (subst (λ (bs : List ℕ). IsWhole c.config (fold log_by bs (log_calls s c.disk ev))) same_log
        (subst (λ (k : Sizes). IsWhole k (fold log_by (log_of_node s c.disk) (log_calls s c.disk ev))) is.config own))

    stays : StaysInView s p.node → (o : Option View) → s.view ≡ o → IfSome p.node.view (λ v. IsWhole c.config (log_at (all_done m c.disk p.calls) m))
    stays st None own = subst (λ (o : Option View). IfSome o (λ v. IsWhole c.config (log_at (all_done m c.disk p.calls) m))) (sym (st.view ∙ own)) tt
    stays st (Some v) own = any_view p.node.view (after (inl (whole_in c m s v h handed.up own)))

    comes : HasInstalled s ev p.node → (o : Option View) → s.view ≡ o → IsWhole c.config (log_at (all_done m c.disk p.calls) m)
    comes has None own = after (inr (born_with s ev p.node has own))
    comes has (Some v) own = after (inl (whole_in c m s v h handed.up own))

    by : StaysInView s p.node ⊎ HasInstalled s ev p.node → IfSome p.node.view (λ v. IsWhole c.config (log_at (all_done m c.disk p.calls) m))
    by (inl st) = stays st s.view refl
    by (inr has) = any_view p.node.view (comes has s.view refl)

-- other nodes, and one that is lost
lost_whole : (c d : Cluster) (m n : ℕ) → m < length d.nodes → HasWholeLog c n (node_at c n) → d.nodes ≡ c.nodes → d.config ≡ c.config → (n ≢ m → log_at d.disk n ≡ log_at c.disk n)
    → HasWholeLog (lose m d) n (node_at (lose m d) n)
unfolding lose
lost_whole c d m n low old nodes config log =
    set_at (HasWholeLog (lose m d) n) None d.nodes m n None low (λ at. tt)
    (λ other.
    of (node_at d n)
    (subst (λ (ns : List (Option NodeState)). HasWholeLog c n (slice_index_or ns n None)) (sym nodes) old)
    (log (λ f. absurd (grind (arith, nat_tests, other, f)))))
  where
    of : (o : Option NodeState) → HasWholeLog c n o → log_at d.disk n ≡ log_at c.disk n → HasWholeLog (lose m d) n o
    of None w same = tt
    of (Some s) w same = view s.view w
      where
        view : (v : Option View) → IfSome v (λ v. IsWhole c.config (log_at c.disk n)) → IfSome v (λ v. IsWhole d.config (log_at d.disk n))
        view None w = tt
        view (Some v) w = subst (λ (k : Sizes). IsWhole k (log_at d.disk n)) (sym config) (subst (IsWhole c.config) (sym same) w)

-- a cluster of the same nodes, sizes and disk
same_disk : (c d : Cluster) (n : ℕ) → d.nodes ≡ c.nodes → d.config ≡ c.config → d.disk ≡ c.disk → HasWholeLog c n (node_at c n) → HasWholeLog d n (node_at d n)
same_disk c d n nodes config disk w =
    subst (λ (ns : List (Option NodeState)). HasWholeLog d n (slice_index_or ns n None)) (sym nodes) (of (node_at c n) w)
  where
    of : (o : Option NodeState) → HasWholeLog c n o → HasWholeLog d n o
    of None w = tt
    of (Some s) w = view s.view w
      where
        view : (v : Option View) → IfSome v (λ v. IsWhole c.config (log_at c.disk n)) → IfSome v (λ v. IsWhole d.config (log_at d.disk n))
        view None w = tt
        view (Some v) w =
            subst (λ (k : Sizes). IsWhole k (log_at d.disk n)) (sym config)
            (subst (λ (x : Disk). IsWhole c.config (log_at x n)) (sym disk) w)

stepped_whole : (c : Cluster) (e : Event) (m : ℕ) (s : NodeState) (ev : NodeEvent) (n : ℕ) → IsCluster c → HaveWholeLogs c → CommitsHaveNumbers c e → IsHanded c e m s ev
    → HasWholeLog (node_step e m s ev c) n (node_at (node_step e m s ev c) n)
unfolding node_step
stepped_whole c e m s ev n i h numbers handed = by (nodestep s ev c.disk) refl
  where
    low : m < length c.nodes
    low = subst (λ (k : ℕ). m < k) (sym i.nodes) (up_is_member_law c m s i handed.up).0

    made_whole : (p : Plan) → nodestep s ev c.disk ≡ Goes p → HasWholeLog (made e m p c) n (node_at (made e m p c) n)
    made_whole p goes =
        set_at (HasWholeLog (made e m p c) n) None c.nodes m n (Some p.node) low
        (λ at. subst (λ (k : ℕ). IfSome p.node.view (λ v. IsWhole c.config (log_at (all_done m c.disk p.calls) k))) (sym at) (acted c e m s ev p i h numbers handed goes))
        (λ other. of (node_at c n) (h n) (calls_keep_other_logs_law m n c.disk p.calls (λ f. absurd (grind (arith, nat_tests, other, f)))))
      where
        of : (o : Option NodeState) → HasWholeLog c n o → log_at (all_done m c.disk p.calls) n ≡ log_at c.disk n → HasWholeLog (made e m p c) n o
        of None w same = tt
        of (Some x) w same = view x.view w
          where
            view : (v : Option View) → IfSome v (λ v. IsWhole c.config (log_at c.disk n)) → IfSome v (λ v. IsWhole c.config (log_at (all_done m c.disk p.calls) n))
            view None w = tt
            view (Some v) w = subst (IsWhole c.config) (sym same) w

    left : (calls : List DiskCall) (o : Option Stop) (l : Left) → left_of m c.disk calls o ≡ Some l → n ≢ m → log_at l.disk n ≡ log_at c.disk n
    left calls None l e other = absurd (cc)
    left calls (Some st) l e other = stops_keep_other_logs_law m n c.disk calls st l other e

    ended : (p : Plan) → nodestep s ev c.disk ≡ Goes p → (o : Option Left) → left_of m c.disk p.calls (stop_at c m) ≡ o → HasWholeLog (made_or_halted e m p o c) n (node_at (made_or_halted e m p o c) n)
    ended p goes None at = made_whole p goes
    ended p goes (Some l) at =
        same_disk (lose m (record c { disk = l.disk; links = links_after e [] c.links })) (made_or_halted e m p (Some l) c) n refl refl refl
        (lost_whole c (record c { disk = l.disk; links = links_after e [] c.links }) m n low (h n) refl refl (left p.calls (stop_at c m) l at))

    by : (o : Outcome Plan) → nodestep s ev c.disk ≡ o → HasWholeLog (after_plan e m c o) n (node_at (after_plan e m c o) n)
    by (Goes p) goes = ended p goes (left_of m c.disk p.calls (stop_at c m)) refl
    by (Differs p expected found) goes = same_disk (lose m c) (after_plan e m c (Differs p expected found)) n refl refl refl (lost_whole c c m n low (h n) refl refl (λ other. refl))

-- nodes that start are in no view
started_whole : (k : ℕ) (ns : List ℕ) (c : Cluster) (n : ℕ) → HasWholeLog c n (node_at c n) → HasWholeLog (start_all k ns c) n (node_at (start_all k ns c) n)
unfolding start_node
started_whole k [] c n w = w
started_whole k (m ∷ ms) c n w =
    started_whole k ms (start_one k c m) n
    (set_look (HasWholeLog (start_one k c m) n) None c.nodes m n (Some (start_node c.config m k)) (λ at. tt) w)

-- a node that crashes
crashed_whole : (c : Cluster) (n m : ℕ) → HasWholeLog c n (node_at c n) → HasWholeLog (lose m c) n (node_at (lose m c) n)
unfolding lose
crashed_whole c n m w = set_look (HasWholeLog (lose m c) n) None c.nodes m n None (λ at. tt) w

pub steps_keep_whole_logs_law : StepsKeepWholeLogs
steps_keep_whole_logs_law c e i h numbers n =
    by_step (λ d. HasWholeLog d n (node_at d n)) c e
    (record {
      refused = λ r. same_disk c (refuse e r c) n refl refl refl (h n);
      crashed = λ m is. same_disk (lose m c) (answer e reply.Crashed (lose m c)) n refl refl refl (crashed_whole c n m (h n));
      armed = λ m call stops is. same_disk c (arm e m call stops c) n refl refl refl (h n);
      handed = λ m s ev handed. stepped_whole c e m s ev n i h numbers handed;
      viewed = λ live owners v made drops.
          same_disk (start_all (last_view c).epoch (returning (last_view c) v (all_nodes c)) c) (make_view false e v c) n refl refl refl
          (started_whole (last_view c).epoch (returning (last_view c) v (all_nodes c)) c n (h n));
      reopened = λ v made down.
          same_disk (start_all (last_view c).epoch (all_nodes c) c) (make_reopened false e v c) n refl refl refl (started_whole (last_view c).epoch (all_nodes c) c n (h n));
    })

pub opening_has_whole_logs_law : OpeningHasWholeLogs
unfolding opening
opening_has_whole_logs_law c n = of (node_at (opening c) n)
  where
    none : log_at (fresh_disk c) n ≡ []
    none = look_same (λ (x : List ℕ). x ≡ []) c.nodes n [] [] refl refl

    of : (o : Option NodeState) → HasWholeLog (opening c) n o
    of None = tt
    of (Some s) = any_view s.view (subst (IsWhole c) (sym none) refl)
