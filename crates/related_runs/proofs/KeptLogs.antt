-- Through a step from a related cluster the logs of nodes in a view stay whole.
use Rattle.std.proofs.Common.{◌≡◌, ◌⊎◌, inl, inr, refl, sym, ap, subst, ◌∙◌, ℕ, ◌^◌, ◌<◌, ◌≤◌, ◌==◌, nat_le, not, Bool, true, false, List, [], ◌∷◌, length, map, Option, Some, None, is_some, arith}
use Rattle.std.specs.Prelude.{IfSome}
use Rattle.std.specs.List.{AllByRecursion, list_any}
use Rattle.std.proofs.lemmas.Bool.Decides.{nat_tests}
use Rattle.pcl_base.specs.declared.event.Event.{Event}
use Rattle.pcl_base.specs.declared.lock.Held.{Held}
use Rattle.pcl_base.specs.declared.log.Logged.{Logged}
use Rattle.pcl_base.specs.declared.reply.Reason.{Reason}
use Rattle.pcl_base.specs.declared.reply.Reason.TheVariants as reason
use Rattle.pcl_base.specs.declared.reply.Reply.TheVariants as reply
use Rattle.pcl_base.specs.declared.tx.TxId.{TxId}
use Rattle.run_rules.specs.Disk.{Disk, log_at}
use Rattle.run_rules.specs.Views.{View}
use Rattle.node_rules.specs.Words.{pick, head_of}
use Rattle.node_rules.specs.AccessRule.{version_or}
use Rattle.node_rules.specs.BufferRule.{find, private_bytes}
use Rattle.node_rules.specs.DiskCalls.{Stop, stopped_in}
use Rattle.node_rules.specs.EndRule.{pages_written, logged, commit_record, at_version_end}
use Rattle.node_rules.specs.NodeState.{NodeState, NodeEvent, Commit, number_of}
use Rattle.node_rules.specs.NodeStep.{plan_of, begin_work, unless_refused, nodestep}
use Rattle.node_rules.specs.OpenTxs.{OpenTx, is_open, open_at, held_by, pending_of, waits_on, with_serial}
use Rattle.node_rules.specs.Refusals.{refusal, refusal_in_view}
use Rattle.node_rules.specs.Work.{Goes, and_so, reply}
use Rattle.redo_laws.specs.Words.{IsWhole, HasNumbers}
use Rattle.home_laws.specs.Homes.{AreSerials, is_exclusive_lock}
use Rattle.home_laws.specs.RefusedEnds.{commit_refusal}
use Rattle.home_laws.proofs.EndNeeds.{commit_allowed}
use Rattle.home_laws.proofs.Opens.{open_is_own, there_is, open_serial}
use Rattle.home_laws.proofs.Tests.{and_left, and_right, number_equal}
use Rattle.node_laws.specs.Nodes.{IsViewOf}
use Rattle.node_laws.proofs.Events.{not_refused}
use Rattle.node_laws.proofs.Lists.{set_at}
use Rattle.cluster_rules.specs.Clusters.{Cluster, node_at, stop_at}
use Rattle.cluster_rules.specs.ClusterStep.{named, left_of, made, made_or_halted, after_plan, node_step, step}
use Rattle.cluster_laws.specs.Handed.{handed_to, IsHanded}
use Rattle.cluster_laws.specs.Sound.{IsMember, IsCluster}
use Rattle.cluster_laws.proofs.Cases.{handed_is_stepped_law}
use Rattle.cluster_laws.proofs.Steps.{up_is_member_law}
use Rattle.cluster_laws.specs.Call.CallLaws.{HasWholeLog, HaveWholeLogs, CommitsHaveNumbers}
use Rattle.cluster_laws.proofs.CallParts.WholeLogs.{steps_keep_whole_logs_law}
use Rattle.page_laws.proofs.WrittenParts.Logging.{record_can_be_written_law}
use Rattle.page_relation.specs.Together.{IsRelated}
use Rattle.related_runs.specs.Parts.{RelatedKeepsLogs}
use Rattle.related_runs.proofs.Current.{member, has_current}

-- an event is handed to a node, or to none
record IsHandedOn (c : Cluster) (e : Event) : Type 0 where
  node : ℕ
  state : NodeState
  event : NodeEvent
  handed : IsHanded c e node state event

handed_or_none : (c : Cluster) (e : Event) → IsHandedOn c e ⊎ ((n : ℕ) (s : NodeState) (ev : NodeEvent) → IsHanded c e n s ev → ⊥)
handed_or_none c e = known (list_any (nat_le c.config.nodes) (named e)) refl
  where
    gets : list_any (nat_le c.config.nodes) (named e) ≡ false → (n : ℕ) → head_of (named e) ≡ Some n → (s : NodeState) → node_at c n ≡ Some s → (o : Option NodeEvent) → handed_to c s e ≡ o
        → IsHandedOn c e ⊎ ((n : ℕ) (s : NodeState) (ev : NodeEvent) → IsHanded c e n s ev → ⊥)
    gets low n acts s up (Some ev) g = inl (record { node = n; state = s; event = ev; handed = record { known = low; acts = acts; up = up; event = g } })
    gets low n acts s up None g = inr (λ m x ev h. none m x ev h)
      where
        none : (m : ℕ) (x : NodeState) (ev : NodeEvent) → IsHanded c e m x ev → ⊥
        none m x ev h =
            let first : Some n ≡ Some m = sym acts ∙ h.acts in
            let at : n ≡ m = cc in
            let same : Some s ≡ Some x = sym up ∙ ap (node_at c) at ∙ h.up in
            let is : s ≡ x = cc in
            let bad : None ≡ Some ev = sym g ∙ ap (λ (y : NodeState). handed_to c y e) is ∙ h.event in
            absurd (cc)

    up : list_any (nat_le c.config.nodes) (named e) ≡ false → (n : ℕ) → head_of (named e) ≡ Some n → (o : Option NodeState) → node_at c n ≡ o
        → IsHandedOn c e ⊎ ((n : ℕ) (s : NodeState) (ev : NodeEvent) → IsHanded c e n s ev → ⊥)
    up low n acts (Some s) at = gets low n acts s at (handed_to c s e) refl
    up low n acts None at = inr (λ m x ev h. none m x ev h)
      where
        none : (m : ℕ) (x : NodeState) (ev : NodeEvent) → IsHanded c e m x ev → ⊥
        none m x ev h =
            let first : Some n ≡ Some m = sym acts ∙ h.acts in
            let is : n ≡ m = cc in
            let bad : None ≡ Some x = sym at ∙ ap (node_at c) is ∙ h.up in
            absurd (cc)

    acts : list_any (nat_le c.config.nodes) (named e) ≡ false → (o : Option ℕ) → head_of (named e) ≡ o → IsHandedOn c e ⊎ ((n : ℕ) (s : NodeState) (ev : NodeEvent) → IsHanded c e n s ev → ⊥)
    acts low (Some n) a = up low n a (node_at c n) refl
    acts low None a = inr (λ m x ev h. let bad : None ≡ Some m = sym a ∙ h.acts in absurd (cc))

    known : (b : Bool) → list_any (nat_le c.config.nodes) (named e) ≡ b → IsHandedOn c e ⊎ ((n : ℕ) (s : NodeState) (ev : NodeEvent) → IsHanded c e n s ev → ⊥)
    known true k = inr (λ m x ev h. let bad : true ≡ false = sym k ∙ h.known in absurd (cc))
    known false k = acts k (head_of (named e)) refl

-- a refused event leaves the logs
refused_goes : (s : NodeState) (ev : NodeEvent) (d : Disk) (r : Reason) → refusal s ev ≡ Some r → nodestep s ev d ≡ Goes (plan_of (reply (reply.Refused r) (begin_work s d)))
unfolding nodestep
refused_goes s ev d r refused = ap (λ (o : Option Reason). and_so (unless_refused o d ev (begin_work s d)) plan_of) refused

nothing_stopped : (n : ℕ) (d : Disk) (o : Option Stop) → left_of n d [] o ≡ None
unfolding stopped_in
nothing_stopped n d None = refl
nothing_stopped n d (Some st) = refl

refused_whole : (c : Cluster) (e : Event) (n : ℕ) (s : NodeState) (ev : NodeEvent) (r : Reason) → IsCluster c → HaveWholeLogs c → IsHanded c e n s ev → refusal s ev ≡ Some r → HaveWholeLogs (step c e)
unfolding node_step
refused_whole c e n s ev r i h handed refused m =
    subst (λ (k : Cluster). HasWholeLog k m (node_at k m))
    (sym
    (handed_is_stepped_law c e n s ev handed ∙ ap (after_plan e n c) (refused_goes s ev c.disk r refused)
    ∙ ap (λ o. made_or_halted e n (plan_of (reply (reply.Refused r) (begin_work s c.disk))) o c) (nothing_stopped n c.disk (stop_at c n))))
    (set_at (HasWholeLog (made e n (plan_of (reply (reply.Refused r) (begin_work s c.disk))) c) m) None c.nodes n m (Some s) (subst (λ (k : ℕ). n < k) (sym i.nodes) (up_is_member_law c n s i handed.up).0)
    (λ at. subst (λ (k : ℕ). IfSome s.view (λ v. IsWhole c.config (log_at c.disk k))) (sym at) (subst (HasWholeLog c n) handed.up (h n)))
    (λ other. of (node_at c m) (h m)))
  where
    of : (o : Option NodeState) → HasWholeLog c m o → HasWholeLog (made e n (plan_of (reply (reply.Refused r) (begin_work s c.disk))) c) m o
    of None w = tt
    of (Some x) w = w

-- ---- the numbers of a commit's record

least_last : (low last : ℕ) (xs : List OpenTx) → AreSerials low last xs → low ≤ last
least_last low last [] rise = rise
least_last low last (x ∷ xs) rise = let above = rise.0 in let rest = least_last x.serial last xs rise.1 in omega (arith, above, rest)

serial_most : (low last s : ℕ) (x : OpenTx) (xs : List OpenTx) → AreSerials low last xs → with_serial xs s ≡ Some x → s ≤ last
unfolding with_serial
serial_most low last s x [] rise found = absurd (cc)
serial_most low last s x (y ∷ xs) rise found = by (y.serial == s) refl (serial_most y.serial last s x xs rise.1) (least_last y.serial last xs rise.1)
  where
    by : (b : Bool) → (y.serial == s) ≡ b → (with_serial xs s ≡ Some x → s ≤ last) → y.serial ≤ last → s ≤ last
    by true e rest most = grind (arith, nat_tests)
    by false e rest most = rest (sym (ap (λ b. pick b (Some y) (with_serial xs s)) e) ∙ found)

-- a lock that is exclusive is one
exclusive_held : (o : Option Held) → is_exclusive_lock o ≡ true → is_some o ≡ true
exclusive_held None e = absurd (cc)
exclusive_held (Some l) e = refl

no_items : (ps : List ℕ) → length ps ≡ 0 → ps ≡ []
no_items [] e = refl
no_items (p ∷ ps) e = absurd (omega (arith, e))

module _ (blank : List ℕ) (c : Cluster) (r : IsRelated blank c) (n : ℕ) (s : NodeState) (up : node_at c n ≡ Some s) (few : s.home.txs.last < 2 ^ 32) (t : TxId) (none : refusal s (Commit t) ≡ None) where
  is : IsMember c.config c.views n s
  is = member blank c r n s up

  seen : refusal_in_view s (Commit t) ≡ None
  unfolding refusal
  seen = (not_refused (not (is_some s.view)) reason.NotInView (refusal_in_view s (Commit t)) none).1

  may : (is_open s.home.txs t ≡ true) × (pending_of s.home.txs t ≡ None) × (at_version_end s.home t ≡ false)
  unfolding commit_refusal
  may = commit_allowed t s.home seen

  in_view : s.view ≡ None → ⊥
  unfolding refusal
  in_view e = let bad = (not_refused (not (is_some s.view)) reason.NotInView (refusal_in_view s (Commit t)) none).0 in no_view s.view e bad
    where
      no_view : (o : Option View) → o ≡ None → not (is_some o) ≡ false → ⊥
      no_view None same f = absurd (cc)
      no_view (Some v) same f = absurd (cc)

  born : s.home.txs.born < 2 ^ 32
  born = by s.view refl is.sound.view
    where
      by : (o : Option View) → s.view ≡ o → IfSome o (IsViewOf s) → s.home.txs.born < 2 ^ 32
      by None e w = absurd (in_view e)
      by (Some v) e w =
          let same = w.born in
          let upto = w.whole.born_upto (number_of s) is.sound.home.txs.node in
          let epoch = w.epoch in
          let low = is.sound.epoch.1 in
          omega (arith, same, upto, epoch, low)

  -- a page that was written is held exclusively, so its copy is the current one
  written_low : (p : ℕ) → is_some (private_bytes s.home.pool t p) ≡ true → version_or (find s.home.pool p) < 2 ^ 64
  written_low p some =
      let has = has_current blank c r n s up t p (exclusive_held (held_by s.home.txs t p) (sym (is.sound.home.filled t p) ∙ some)) (ap (λ o. waits_on o p) may.1) in
      let version : version_or (find s.home.pool p) ≡ (r.pages.page p).now = ap version_or has.version in
      let below = (r.pages.related p has.low).history.below in
      omega (arith, version, below)

  numbers : HasNumbers (commit_record s.home t)
  unfolding commit_record
  numbers = by (length (pages_written s.home t) == 0) refl
    where
      names : (t.node ≡ s.home.txs.node) × (t.born ≡ s.home.txs.born)
      names =
          let own = open_is_own s.home.txs t may.0 in
          (number_equal t.node s.home.txs.node (and_left (t.node == s.home.txs.node) (t.born == s.home.txs.born) own), number_equal t.born s.home.txs.born (and_right (t.node == s.home.txs.node) (t.born == s.home.txs.born) own))

      recent : t.serial ≤ s.home.txs.last
      recent =
          let x = there_is (open_at s.home.txs t) may.0 in
          serial_most 0 s.home.txs.last t.serial x.0 s.home.txs.txs is.sound.home.txs.serials (open_serial s.home.txs t x.0 x.1)

      by : (b : Bool) → (length (pages_written s.home t) == 0) ≡ b → HasNumbers (record { tx = t; changes = map (logged s.home t) (pages_written s.home t) })
      by true e =
          record {
            born = let low = born in let same = names.1 in omega (arith, low, same);
            serial = let low = few in let most = recent in omega (arith, low, most);
            versions = subst (λ (ps : List ℕ). AllByRecursion (λ (x : Logged). x.version < 2 ^ 64) (map (logged s.home t) ps)) (sym (no_items (pages_written s.home t) (number_equal (length (pages_written s.home t)) 0 e))) tt;
          }
      by false e =
          (record_can_be_written_law s.home t
          (record {
            limits = is.sound.limits;
            home = is.sound.home;
            there = may.0;
            waits = may.1;
            some = grind (arith, nat_tests, e);
            last = may.2;
            born = born;
            serial = few;
            versions = written_low;
          })).numbers

pub related_keeps_logs_law : RelatedKeepsLogs
related_keeps_logs_law blank c e r serials = by (handed_or_none c e)
  where
    by : IsHandedOn c e ⊎ ((n : ℕ) (s : NodeState) (ev : NodeEvent) → IsHanded c e n s ev → ⊥) → HaveWholeLogs (step c e)
    by (inr none) = steps_keep_whole_logs_law c e r.cluster r.logs (λ n s t h. absurd (none n s (Commit t) h))
    by (inl on) = of (refusal on.state on.event) refl
      where
        of : (o : Option Reason) → refusal on.state on.event ≡ o → HaveWholeLogs (step c e)
        of (Some x) refused = refused_whole c e on.node on.state on.event x r.cluster r.logs on.handed refused
        of None none = steps_keep_whole_logs_law c e r.cluster r.logs fit
          where
            fit : CommitsHaveNumbers c e
            fit n s t h =
                let first : Some on.node ≡ Some n = sym on.handed.acts ∙ h.acts in
                let at : on.node ≡ n = cc in
                let same : Some on.state ≡ Some s = sym on.handed.up ∙ ap (node_at c) at ∙ h.up in
                let is_same : on.state ≡ s = cc in
                let gets : Some on.event ≡ Some (Commit t) = sym on.handed.event ∙ ap (λ (y : NodeState). handed_to c y e) is_same ∙ h.event in
                let asked : on.event ≡ Commit t = cc in
                numbers blank c r n s h.up (subst (λ (o : Option NodeState). IfSome o (λ (x : NodeState). x.home.txs.last < 2 ^ 32)) h.up (serials n)) t
                (ap (λ (y : NodeState). refusal y (Commit t)) (sym is_same) ∙ ap (refusal on.state) (sym asked) ∙ none)
