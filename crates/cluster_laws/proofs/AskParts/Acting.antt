-- The acting node of a step: what its transactions wait for is what they asked for last.
use Rattle.std.proofs.Common.{◌≡◌, ◌⊎◌, inl, inr, refl, ap, sym, subst, ◌∙◌, ℕ, ◌+◌, ◌==◌, ◌&&◌, not, Bool, true, false, List, [], ◌∷◌, length, Option, Some, None, is_some, option_map, arith}
use Rattle.std.specs.Prelude.{IfSome}
use Rattle.std.specs.List.{list_any}
use Rattle.pcl_base.specs.declared.event.Event.{Event}
use Rattle.pcl_base.specs.declared.event.Event.TheVariants as event
use Rattle.pcl_base.specs.declared.lock.Pending.{Pending}
use Rattle.pcl_base.specs.declared.message.Message.{Message}
use Rattle.pcl_base.specs.declared.reply.Reason.{Reason}
use Rattle.pcl_base.specs.declared.reply.Reason.TheVariants as reason
use Rattle.pcl_base.specs.declared.trace.Entry.{Entry}
use Rattle.pcl_base.specs.declared.tx.TxId.{TxId}
use Rattle.run_rules.specs.Script.{is_refusal, is_refused, asked, moments}
use Rattle.run_rules.specs.Views.{View, born_of}
use Rattle.node_rules.specs.Words.{pick, same_tx, head_of}
use Rattle.node_rules.specs.NodeState.{NodeState, NodeEvent, number_of}
use Rattle.node_rules.specs.NodeState as node
use Rattle.node_rules.specs.NodeStep.{Plan, nodestep}
use Rattle.node_rules.specs.OpenTxs.{OpenTx, OpenTxs, name_of, is_own, is_open, with_serial, waiting_of_open, pending_of}
use Rattle.node_rules.specs.Refusals.{may_install, not_open, waits, refuse_if, refusal}
use Rattle.node_rules.specs.Work.{Goes}
use Rattle.home_laws.proofs.Tests.{tx_same, tx_equal, not_false}
use Rattle.node_laws.specs.Nodes.{IsViewOf}
use Rattle.node_laws.proofs.Events.{not_refused}
use Rattle.node_laws.proofs.Lists.{all_weaker}
use Rattle.cluster_rules.specs.Clusters.{Cluster, node_at, view_of_epoch}
use Rattle.cluster_rules.specs.ClusterStep.{named}
use Rattle.cluster_rules.specs.Links.{head_at}
use Rattle.cluster_laws.specs.Epochs.{StaysInView, HasInstalled}
use Rattle.cluster_laws.specs.Handed.{handed_to, IsHanded}
use Rattle.cluster_laws.specs.Laws.{IsGoodPlan}
use Rattle.cluster_laws.specs.Sound.{IsMember, IsCluster}
use Rattle.cluster_laws.proofs.Epochs.{steps_keep_views_law}
use Rattle.cluster_laws.proofs.Steps.{up_is_member_law, plans_are_good_law}
use Rattle.cluster_laws.proofs.EraParts.Lives.{live_known}
use Rattle.cluster_laws.proofs.EraParts.Nexts.{follows_born}
use Rattle.cluster_laws.specs.Ask.Asked.{asked_last, WaitsAsAsked, AllWaitAsAsked}
use Rattle.cluster_laws.proofs.AskParts.Waiting.{IsAsked, AreAsked, Asks}
use Rattle.cluster_laws.proofs.AskParts.Events.{AsksFor, steps_right, refused_is}
use Rattle.cluster_laws.proofs.AskParts.Lists.{own_name, waits_named}
use Rattle.cluster_laws.proofs.AskParts.Traces.{asks_of, asks_refused, none_refused}

-- what is told of another function that says the same
asked_same : (f g : ℕ → Option (ℕ × List ℕ)) → ((k : ℕ) → f k ≡ g k) → (xs : List OpenTx) → AreAsked f xs → AreAsked g xs
asked_same f g same xs all = all_weaker (IsAsked f) (IsAsked g) (λ x a. of x x.waiting a) xs all
  where
    of : (x : OpenTx) (o : Option Pending) → IfSome o (λ (w : Pending). w.write ≡ f x.serial) → IfSome o (λ (w : Pending). w.write ≡ g x.serial)
    of x None a = tt
    of x (Some w) a = a ∙ same x.serial

-- what a transaction asked for last, before an event and with it
abbrev pub asks : Cluster → TxId → Option (ℕ × List ℕ)
asks c t = asked_last t None (moments c.trace)

abbrev pub asks_now : Cluster → Event → TxId → Option (ℕ × List ℕ)
asks_now c e t = asked_last t (asks c t) (asked e)

-- another transaction asks for nothing
asks_other : (t u : TxId) (w v : Option (ℕ × List ℕ)) → same_tx t u ≡ false → pick (same_tx t u) v w ≡ w
asks_other t u w v other = ap (λ (b : Bool). pick b v w) other

apart : (t u : TxId) (n : ℕ) → Some u.node ≡ Some n → (t.node == n) ≡ false → same_tx t u ≡ false
apart t u n a other =
    let at : u.node ≡ n = cc in
    ap (λ (b : Bool). b && t.born == u.born && t.serial == u.serial) (ap (λ (k : ℕ). t.node == k) at ∙ other)

pub others_ask : (e : Event) (n : ℕ) (t : TxId) (w : Option (ℕ × List ℕ)) → head_of (named e) ≡ Some n → (t.node == n) ≡ false → asked_last t w (asked e) ≡ w
unfolding asked_last
others_ask (event.Read u p) n t w a other = asks_other t u w None (apart t u n a other)
others_ask (event.Write u p place bytes) n t w a other = asks_other t u w (Some (place, bytes)) (apart t u n a other)
others_ask (event.Begin m) n t w a other = refl
others_ask (event.Commit u) n t w a other = refl
others_ask (event.Abort u) n t w a other = refl
others_ask (event.Deliver from to) n t w a other = refl
others_ask (event.Evict m p) n t w a other = refl
others_ask (event.Flush m p) n t w a other = refl
others_ask (event.Crash m) n t w a other = refl
others_ask (event.View live owners) n t w a other = refl
others_ask (event.Install m) n t w a other = refl
others_ask event.Reopen n t w a other = refl
others_ask (event.Arm m call stops) n t w a other = refl
others_ask (event.Cut m) n t w a other = refl

-- an access that isn't refused
record MayAsk (n : NodeState) (t : TxId) : Type 0 where
  in_view : is_some n.view ≡ true
  open_now : is_open n.home.txs t ≡ true
  waits_not : pending_of n.home.txs t ≡ None

may_ask : (n : NodeState) (t : TxId) (further : Option Reason) → refuse_if (not (is_some n.view)) reason.NotInView (refuse_if (not_open n t) reason.NoTx (refuse_if (waits n t) reason.TxWaits further)) ≡ None
    → MayAsk n t
may_ask n t further none =
    let one = not_refused (not (is_some n.view)) reason.NotInView (refuse_if (not_open n t) reason.NoTx (refuse_if (waits n t) reason.TxWaits further)) none in
    let two = not_refused (not_open n t) reason.NoTx (refuse_if (waits n t) reason.TxWaits further) one.1 in
    let three = not_refused (waits n t) reason.TxWaits further two.1 in
    record { in_view = not_false (is_some n.view) one.0; open_now = not_false (is_open n.home.txs t) two.0; waits_not = nothing (pending_of n.home.txs t) three.0 }
  where
    nothing : (o : Option Pending) → is_some o ≡ false → o ≡ None
    nothing None e = refl
    nothing (Some x) e = absurd (cc)

own_open : (s : OpenTxs) (t : TxId) → is_open s t ≡ true → is_own s t ≡ true
own_open s t there = by (is_own s t) there
  where
    by : (b : Bool) → is_some (pick b (with_serial s.txs t.serial) None) ≡ true → b ≡ true
    by true e = refl
    by false e = absurd (cc)

-- what a transaction waits for is what it asked for last, with the event: of the asking one nothing waits
asked_with : (t u : TxId) (o : Option Pending) (w v : Option (ℕ × List ℕ)) → (t ≡ u → o ≡ None) → IfSome o (λ (x : Pending). x.write ≡ w) → IfSome o (λ (x : Pending). x.write ≡ pick (same_tx t u) v w)
asked_with t u o w v free a = by (same_tx t u) refl
  where
    by : (b : Bool) → same_tx t u ≡ b → IfSome o (λ (x : Pending). x.write ≡ pick b v w)
    by true e = subst (λ (y : Option Pending). IfSome y (λ (x : Pending). x.write ≡ v)) (sym (free (tx_equal t u e))) tt
    by false e = a

module _ (c : Cluster) (e : Event) (n : ℕ) (s : NodeState) (ev : NodeEvent) (p : Plan) (i : IsCluster c) (h : AllWaitAsAsked c) (handed : IsHanded c e n s ev) (goes : nodestep s ev c.disk ≡ Goes p) where
  is : IsMember c.config c.views n s
  is = (up_is_member_law c n s i handed.up).1

  good : IsGoodPlan c n s ev p
  good = plans_are_good_law c e n s ev p i handed goes

  -- before the event, by names
  waits_before : (t : TxId) → IfSome (pending_of s.home.txs t) (λ (w : Pending). w.write ≡ asks c t)
  waits_before t = by (is_own s.home.txs t) refl
    where
      by : (b : Bool) → is_own s.home.txs t ≡ b → IfSome (pending_of s.home.txs t) (λ (w : Pending). w.write ≡ asks c t)
      by false own = subst (λ (b : Bool). IfSome (waiting_of_open (pick b (with_serial s.home.txs.txs t.serial) None)) (λ (w : Pending). w.write ≡ asks c t)) (sym own) tt
      by true own =
          let node : t.node ≡ n = ap (λ (u : TxId). u.node) (own_name s.home.txs t own) ∙ is.number in
          subst (WaitsAsAsked c t) handed.up (subst (λ (k : ℕ). WaitsAsAsked c t (node_at c k)) node (h t))

  -- the names of a node in a view stay
  number : number_of p.node ≡ number_of s
  number = good.member.number ∙ sym is.number

  view_of : (m : NodeState) (v : View) → IfSome m.view (IsViewOf m) → m.view ≡ Some v → IsViewOf m v
  view_of m v of own = subst (λ (o : Option View). IfSome o (IsViewOf m)) own of

  born : (v : View) → s.view ≡ Some v → p.node.home.txs.born ≡ s.home.txs.born
  born v own = by (steps_keep_views_law s ev c.disk p goes)
    where
      before : IsViewOf s v
      before = view_of s v is.sound.view own

      by : StaysInView s p.node ⊎ HasInstalled s ev p.node → p.node.home.txs.born ≡ s.home.txs.born
      by (inl st) =
          sym (view_of p.node v good.member.sound.view (st.view ∙ own)).born ∙ ap (born_of v) number ∙ before.born
      by (inr has) =
          sym (view_of p.node has.next good.member.sound.view has.view).born
          ∙ ap (born_of has.next) number
          ∙ follows_born s.home.config v has.next (number_of s) before.whole (subst (λ (o : Option View). may_install s o has.next ≡ true) own has.allowed) (live_known s.home.config v (number_of s) before.whole before.live) before.live
          ∙ before.born

  name : (v : View) → s.view ≡ Some v → (k : ℕ) → name_of s.home.txs k ≡ name_of p.node.home.txs k
  name v own k =
      ap (λ (m : ℕ). (let u : TxId = record { node = m; born = s.home.txs.born; serial = k } in u)) (sym number)
      ∙ ap (λ (m : ℕ). (let u : TxId = record { node = number_of p.node; born = m; serial = k } in u)) (sym (born v own))

  -- an event that isn't refused
  waits_with : (e2 : Event) → handed_to c s e2 ≡ Some ev → refusal s ev ≡ None → (t : TxId) → IfSome (pending_of s.home.txs t) (λ (w : Pending). w.write ≡ asks_now c e2 t)
  unfolding asked_last refusal
  waits_with (event.Read u q) g none t =
      let same : node.Read u q ≡ ev = cc in
      asked_with t u (pending_of s.home.txs t) (asks c t) None
      (λ f. ap (pending_of s.home.txs) f ∙ (may_ask s u _ (ap (refusal s) same ∙ none)).waits_not) (waits_before t)
  waits_with (event.Write u q place bytes) g none t =
      let same : node.Write u q place bytes ≡ ev = cc in
      asked_with t u (pending_of s.home.txs t) (asks c t) (Some (place, bytes))
      (λ f. ap (pending_of s.home.txs) f ∙ (may_ask s u _ (ap (refusal s) same ∙ none)).waits_not) (waits_before t)
  waits_with (event.Begin m) g none t = waits_before t
  waits_with (event.Commit u) g none t = waits_before t
  waits_with (event.Abort u) g none t = waits_before t
  waits_with (event.Deliver from to) g none t = waits_before t
  waits_with (event.Evict m q) g none t = waits_before t
  waits_with (event.Flush m q) g none t = waits_before t
  waits_with (event.Crash m) g none t = waits_before t
  waits_with (event.View live owners) g none t = waits_before t
  waits_with (event.Install m) g none t = waits_before t
  waits_with event.Reopen g none t = waits_before t
  waits_with (event.Arm m call stops) g none t = waits_before t
  waits_with (event.Cut m) g none t = waits_before t

  -- the access of an event is what its transaction asks for
  asks_this : (u : TxId) (w : Option (ℕ × List ℕ)) (old : TxId → Option (ℕ × List ℕ)) → MayAsk s u
      → w ≡ pick (same_tx (name_of p.node.home.txs u.serial) u) w (old (name_of p.node.home.txs u.serial))
  asks_this u w old may = by s.view refl may.in_view
    where
      by : (o : Option View) → s.view ≡ o → is_some o ≡ true → w ≡ pick (same_tx (name_of p.node.home.txs u.serial) u) w (old (name_of p.node.home.txs u.serial))
      by None own there = absurd (cc)
      by (Some v) own there =
          let named : name_of p.node.home.txs u.serial ≡ u = sym (name v own u.serial) ∙ sym (own_name s.home.txs u (own_open s.home.txs u may.open_now)) in
          let same : same_tx (name_of p.node.home.txs u.serial) u ≡ true = ap (λ (t : TxId). same_tx t u) named ∙ tx_same u in
          ap (λ (b : Bool). pick b w (old (name_of p.node.home.txs u.serial))) (sym same)

  asks_for : (e2 : Event) → handed_to c s e2 ≡ Some ev → refusal s ev ≡ None → AsksFor (λ k. asks_now c e2 (name_of p.node.home.txs k)) ev
  unfolding asked_last refusal
  asks_for (event.Read u q) g none =
      let same : node.Read u q ≡ ev = cc in
      subst (AsksFor (λ k. asks_now c (event.Read u q) (name_of p.node.home.txs k))) same (asks_this u None (asks c) (may_ask s u _ (ap (refusal s) same ∙ none)))
  asks_for (event.Write u q place bytes) g none =
      let same : node.Write u q place bytes ≡ ev = cc in
      subst (AsksFor (λ k. asks_now c (event.Write u q place bytes) (name_of p.node.home.txs k))) same (asks_this u (Some (place, bytes)) (asks c) (may_ask s u _ (ap (refusal s) same ∙ none)))
  asks_for (event.Begin m) g none = let same : node.Begin ≡ ev = cc in subst (AsksFor _) same tt
  asks_for (event.Commit u) g none = let same : node.Commit u ≡ ev = cc in subst (AsksFor _) same tt
  asks_for (event.Abort u) g none = let same : node.Abort u ≡ ev = cc in subst (AsksFor _) same tt
  asks_for (event.Deliver from to) g none = of (is_some s.view) (head_at c.links from to) g
    where
      of : (b : Bool) (o : Option Message) → pick b (option_map (node.Deliver from) o) None ≡ Some ev → AsksFor (λ k. asks_now c (event.Deliver from to) (name_of p.node.home.txs k)) ev
      of false o q = absurd (cc)
      of true None q = absurd (cc)
      of true (Some m) q = let same : node.Deliver from m ≡ ev = cc in subst (AsksFor _) same tt
  asks_for (event.Evict m q) g none = let same : node.Evict q ≡ ev = cc in subst (AsksFor _) same tt
  asks_for (event.Flush m q) g none = let same : node.Flush q ≡ ev = cc in subst (AsksFor _) same tt
  asks_for (event.Crash m) g none = absurd (cc)
  asks_for (event.View live owners) g none = absurd (cc)
  asks_for (event.Install m) g none = of (view_of_epoch c.views (s.epoch + 1)) g
    where
      of : (o : Option View) → option_map node.Install o ≡ Some ev → AsksFor (λ k. asks_now c (event.Install m) (name_of p.node.home.txs k)) ev
      of None q = absurd (cc)
      of (Some v) q = let same : node.Install v ≡ ev = cc in subst (AsksFor _) same tt
  asks_for event.Reopen g none = absurd (cc)
  asks_for (event.Arm m call stops) g none = absurd (cc)
  asks_for (event.Cut m) g none = let same : node.Cut ≡ ev = cc in subst (AsksFor _) same tt

  -- what waits before the event, by the names after it
  starts_asked : refusal s ev ≡ None → Asks (λ k. asks_now c e (name_of p.node.home.txs k)) s.home
  starts_asked none = by s.view refl
    where
      nobody : (xs : List OpenTx) → length xs ≡ 0 → AreAsked (λ k. asks_now c e (name_of p.node.home.txs k)) xs
      nobody [] e = tt
      nobody (x ∷ xs) e = absurd (omega (arith, e))

      by : (o : Option View) → s.view ≡ o → Asks (λ k. asks_now c e (name_of p.node.home.txs k)) s.home
      by None own = nobody s.home.txs.txs (is.sound.idle own)
      by (Some v) own =
          asked_same (λ k. asks_now c e (name_of s.home.txs k)) (λ k. asks_now c e (name_of p.node.home.txs k)) (λ k. ap (asks_now c e) (name v own k)) s.home.txs.txs
          (waits_named (asks_now c e) s.home.txs 0 s.home.txs.last is.sound.home.txs.serials (waits_with e handed.event none))

  -- and after it, where the entry is of the event and has the replies
  pub acted : (x : Entry) → x.event ≡ e → x.replies ≡ p.replies → AreAsked (λ k. asks_of (name_of p.node.home.txs k) (asks c (name_of p.node.home.txs k)) x) p.node.home.txs.txs
  acted x event replies = by (refusal s ev) refl
    where
      by : (o : Option Reason) → refusal s ev ≡ o → AreAsked (λ k. asks_of (name_of p.node.home.txs k) (asks c (name_of p.node.home.txs k)) x) p.node.home.txs.txs
      by None none =
          let right = steps_right (λ k. asks_now c e (name_of p.node.home.txs k)) s ev c.disk p none (asks_for e handed.event none) (starts_asked none) goes in
          let fine : is_refused x ≡ false = ap (list_any is_refusal) replies ∙ none_refused p.replies right.1 in
          asked_same (λ k. asks_now c e (name_of p.node.home.txs k)) (λ k. asks_of (name_of p.node.home.txs k) (asks c (name_of p.node.home.txs k)) x)
          (λ k.
          ap (λ (y : Event). asks_now c y (name_of p.node.home.txs k)) (sym event)
          ∙ ap (λ (b : Bool). asked_last (name_of p.node.home.txs k) (asks c (name_of p.node.home.txs k)) (pick b [] (asked x.event))) (sym fine))
          p.node.home.txs.txs right.0
      by (Some r) refused =
          let is_so = refused_is s ev c.disk p r refused goes in
          let yes_refused : is_refused x ≡ true = ap (list_any is_refusal) (replies ∙ is_so.1) in
          subst (λ (m : NodeState). AreAsked (λ k. asks_of (name_of m.home.txs k) (asks c (name_of m.home.txs k)) x) m.home.txs.txs) (sym is_so.0)
          (asked_same (λ k. asks c (name_of s.home.txs k)) (λ k. asks_of (name_of s.home.txs k) (asks c (name_of s.home.txs k)) x)
          (λ k. sym (asks_refused (name_of s.home.txs k) (asks c (name_of s.home.txs k)) x yes_refused)) s.home.txs.txs
          (waits_named (asks c) s.home.txs 0 s.home.txs.last is.sound.home.txs.serials waits_before))
