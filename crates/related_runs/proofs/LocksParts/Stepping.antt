-- Through a step of a node who holds a page there has accessed it.
use Rattle.std.proofs.Common.{◌≡◌, ◌≢◌, inl, inr, refl, ap, sym, subst, ◌∙◌, ℕ, ◌+◌, Bool, true, false, List, [], ◌∷◌, ◌++◌, map, Option, Some, None, is_some, option_map}
use Rattle.std.specs.Prelude.{IfSome}
use Rattle.std.specs.List.{fold}
use Rattle.pcl_base.specs.declared.event.Event.{Event}
use Rattle.pcl_base.specs.declared.event.Event.TheVariants as event
use Rattle.pcl_base.specs.declared.message.Message.{Message}
use Rattle.pcl_base.specs.declared.trace.Entry.{Entry}
use Rattle.pcl_base.specs.declared.tx.TxId.{TxId}
use Rattle.run_rules.specs.Script.{is_refused, asked, moments, last_write}
use Rattle.run_rules.specs.Views.{View}
use Rattle.cluster_laws.specs.Ask.Asked as ask
use Rattle.cluster_laws.proofs.AskParts.Acting.{asks_now}
use Rattle.cluster_laws.proofs.AskParts.Events.{AsksFor, refused_is}
use Rattle.cluster_laws.proofs.AskParts.Events as answers
use Rattle.cluster_laws.proofs.AskParts.Lists.{own_name}
use Rattle.cluster_laws.proofs.AskParts.Traces.{none_refused}
use Rattle.cluster_laws.proofs.AskParts.Waiting.{IsAsked}
use Rattle.node_rules.specs.Words.{pick}
use Rattle.node_rules.specs.NodeState.{NodeState, NodeEvent, number_of}
use Rattle.node_rules.specs.NodeState as node
use Rattle.node_rules.specs.NodeStep.{Plan, nodestep}
use Rattle.node_rules.specs.OpenTxs.{OpenTx, is_own, with_serial, pages_of_open, held_by, lock_on}
use Rattle.node_rules.specs.Refusals.{refusal}
use Rattle.node_rules.specs.Work.{Goes}
use Rattle.node_laws.proofs.Lists.{all_weaker}
use Rattle.cluster_rules.specs.Clusters.{Cluster, sent_by, view_of_epoch}
use Rattle.cluster_rules.specs.Links.{head_at}
use Rattle.cluster_laws.specs.Handed.{handed_to, IsHanded}
use Rattle.cluster_laws.specs.Sound.{IsCluster}
use Rattle.page_laws.specs.Moment.Looks.{accesses_in}
use Rattle.related_runs.specs.Locks.Used.{NodeUses, HaveUsedLocks, AllAsked}
use Rattle.related_runs.proofs.LocksParts.Accesses.{HasGrant, ever_accessed, entry_accesses}
use Rattle.related_runs.proofs.LocksParts.Acting.{Starts, PlanRight, steps_right}
use Rattle.related_runs.proofs.LocksParts.Granting.{listed}
use Rattle.related_runs.proofs.LocksParts.Marks.{Has, IsFine, FineTxs, nothing_held}
use Rattle.related_runs.proofs.LocksParts.Starting.{AsksSo, folded, held_before, said, starts_fine, read_asks, write_asks}

-- a lock is there, or is none
pub is_there : {X : Type 0} → (o : Option X) → o ≢ None → is_some o ≡ true
is_there None some = absurd (some refl)
is_there (Some x) some = refl

pub there_is : {X : Type 0} → (o : Option X) → is_some o ≡ true → o ≢ None
there_is None some e = cc
there_is (Some x) some e = cc

module _ (c : Cluster) (e : Event) (n : ℕ) (s : NodeState) (ev : NodeEvent) (p : Plan) (i : IsCluster c) (h : AllAsked c) (all : HaveUsedLocks c) (handed : IsHanded c e n s ev)
    (goes : nodestep s ev c.disk ≡ Goes p) where
  -- the entry of the step
  abbrev pub entry : Entry
  entry = record { event = e; replies = p.replies; sent = map (sent_by n) p.sends; halted = None }

  -- the node before the step
  pub before : NodeUses c.trace s
  before = subst (λ (o : Option NodeState). IfSome o (NodeUses c.trace)) handed.up (all n)

  -- what the node's event asks for
  asks_for : (e2 : Event) → e ≡ e2 → handed_to c s e2 ≡ Some ev → refusal s ev ≡ None → AsksSo c e n s ev i h handed ev
  asks_for (event.Read u q) is g none =
      let same : node.Read u q ≡ ev = cc in
      subst (AsksSo c e n s ev i h handed) same (read_asks c e n s ev i h handed u q is none (sym same))
  asks_for (event.Write u q place bytes) is g none =
      let same : node.Write u q place bytes ≡ ev = cc in
      subst (AsksSo c e n s ev i h handed) same (write_asks c e n s ev i h handed u q place bytes is none (sym same))
  asks_for (event.Begin m) is g none = let same : node.Begin ≡ ev = cc in subst (AsksSo c e n s ev i h handed) same tt
  asks_for (event.Commit u) is g none = let same : node.Commit u ≡ ev = cc in subst (AsksSo c e n s ev i h handed) same tt
  asks_for (event.Abort u) is g none = let same : node.Abort u ≡ ev = cc in subst (AsksSo c e n s ev i h handed) same tt
  asks_for (event.Deliver from to) is g none = of (is_some s.view) (head_at c.links from to) g
    where
      of : (b : Bool) (o : Option Message) → pick b (option_map (node.Deliver from) o) None ≡ Some ev → AsksSo c e n s ev i h handed ev
      of false o q = absurd (cc)
      of true None q = absurd (cc)
      of true (Some m) q = let same : node.Deliver from m ≡ ev = cc in subst (AsksSo c e n s ev i h handed) same tt
  asks_for (event.Evict m q) is g none = let same : node.Evict q ≡ ev = cc in subst (AsksSo c e n s ev i h handed) same tt
  asks_for (event.Flush m q) is g none = let same : node.Flush q ≡ ev = cc in subst (AsksSo c e n s ev i h handed) same tt
  asks_for (event.Crash m) is g none = absurd (cc)
  asks_for (event.View live owners) is g none = absurd (cc)
  asks_for (event.Install m) is g none = of (view_of_epoch c.views (s.epoch + 1)) g
    where
      of : (o : Option View) → option_map node.Install o ≡ Some ev → AsksSo c e n s ev i h handed ev
      of None q = absurd (cc)
      of (Some v) q = let same : node.Install v ≡ ev = cc in subst (AsksSo c e n s ev i h handed) same tt
  asks_for event.Reopen is g none = absurd (cc)
  asks_for (event.Arm m call stops) is g none = absurd (cc)
  asks_for (event.Cut m) is g none = let same : node.Cut ≡ ev = cc in subst (AsksSo c e n s ev i h handed) same tt

  module _ (none : refusal s ev ≡ None) where
    pub asking : AsksSo c e n s ev i h handed ev
    asking = asks_for e refl handed.event none

    pub fine : FineTxs s.home.txs.node s.home.txs.born (said c e n s ev i h handed) (held_before s (λ k. record { node = s.home.txs.node; born = s.home.txs.born; serial = k })) [] s.home.txs
    fine = starts_fine c e n s ev i h handed none

    abbrev Start : OpenTx → Type 0
    Start x = IsFine s.home.txs.node s.home.txs.born (said c e n s ev i h handed) (held_before s (λ k. record { node = s.home.txs.node; born = s.home.txs.born; serial = k })) [] x

    asks_too : (ev2 : NodeEvent) → AsksSo c e n s ev i h handed ev2 → AsksFor (said c e n s ev i h handed) ev2
    asks_too node.Begin is = tt
    asks_too (node.Read u q) is = is.0
    asks_too (node.Write u q place bytes) is = is.0
    asks_too (node.Commit u) is = tt
    asks_too (node.Abort u) is = tt
    asks_too (node.Deliver from m) is = tt
    asks_too (node.Evict q) is = tt
    asks_too (node.Flush q) is = tt
    asks_too (node.Install v) is = tt
    asks_too node.Cut is = tt

    -- so the step refuses nothing
    answered : is_refused entry ≡ false
    answered =
        none_refused p.replies
        (answers.steps_right (said c e n s ev i h handed) s ev c.disk p none (asks_too ev asking) (all_weaker Start (IsAsked (said c e n s ev i h handed)) (λ x a. a.0) s.home.txs.txs fine.1) goes).1

    -- by the names of the node after it
    module _ (number born : ℕ) where
      abbrev names : ℕ → TxId
      names k = record { node = number; born = born; serial = k }

      abbrev wants : ℕ → Option (ℕ × List ℕ)
      wants k = asks_now c e (names k)

      same_wants : (t : TxId) → asks_now c e t ≡ fold (last_write t) (fold (last_write t) None (moments c.trace)) (asked e)
      same_wants t =
          folded t (ask.asked_last t None (moments c.trace)) (asked e)
          ∙ ap (λ (w : Option (ℕ × List ℕ)). fold (last_write t) w (asked e)) (folded t None (moments c.trace))

      -- who held the page has accessed it, and who has been granted an access
      accessed : (t : TxId) (q : ℕ) → names t.serial ≡ t → Has number born wants (held_before s names) p.replies t.serial q → accesses_in t q (c.trace ++ entry ∷ []) ≢ []
      accessed t q named (inl old) =
          ever_accessed c.trace entry t q (before t q (there_is (held_by s.home.txs t q) (subst (λ (u : TxId). is_some (held_by s.home.txs u q) ≡ true) named old)))
      accessed t q named (inr given) =
          entry_accesses t q c.trace entry answered
          (subst (λ (w : Option (ℕ × List ℕ)). HasGrant t w q p.replies) (same_wants t) (subst (λ (u : TxId). HasGrant u (asks_now c e u) q p.replies) named given))

      pub ended : Starts number born wants (held_before s names) s c.disk ev → NodeUses (c.trace ++ entry ∷ []) p.node
      ended start t q held = by (is_own p.node.home.txs t) refl (is_there (held_by p.node.home.txs t q) held)
        where
          right : PlanRight number born wants (held_before s names) p
          right = steps_right number born wants (held_before s names) s ev c.disk p none start goes

          none_held : is_some (lock_on [] q) ≡ true → ⊥
          none_held bad = absurd (nothing_held q bad)

          at : names t.serial ≡ t → (o : Option OpenTx) → IfSome o (λ (x : OpenTx). (x.serial ≡ t.serial) × IsFine number born wants (held_before s names) p.replies x)
              → is_some (lock_on (pages_of_open o) q) ≡ true → accesses_in t q (c.trace ++ entry ∷ []) ≢ []
          at named None is locked = absurd (none_held locked)
          at named (Some x) is locked = accessed t q named (subst (λ (k : ℕ). Has number born wants (held_before s names) p.replies k q) is.0 (is.1.1 q locked))

          by : (b : Bool) → is_own p.node.home.txs t ≡ b → is_some (lock_on (pages_of_open (pick b (with_serial p.node.home.txs.txs t.serial) None)) q) ≡ true
              → accesses_in t q (c.trace ++ entry ∷ []) ≢ []
          by false own locked = absurd (none_held locked)
          by true own locked =
              at
              (sym
              (own_name p.node.home.txs t own
              ∙ ap (λ (k : ℕ). (let u : TxId = record { node = k; born = p.node.home.txs.born; serial = t.serial } in u)) right.0.0
              ∙ ap (λ (k : ℕ). (let u : TxId = record { node = number; born = k; serial = t.serial } in u)) right.0.1))
              (with_serial p.node.home.txs.txs t.serial) (listed (IsFine number born wants (held_before s names) p.replies) p.node.home.txs.txs t.serial right.1) locked
