-- What is known of the transactions of a node as a step begins.
use Rattle.std.proofs.Common.{◌≡◌, refl, ap, sym, subst, ◌∙◌, ℕ, ◌+◌, ◌<◌, ◌==◌, ◌&&◌, not, Bool, true, false, List, [], ◌∷◌, length, Option, Some, None, is_some, option_map, arith}
use Rattle.std.specs.Prelude.{IfSome}
use Rattle.pcl_base.specs.declared.event.Event.{Event}
use Rattle.pcl_base.specs.declared.event.Event.TheVariants as event
use Rattle.pcl_base.specs.declared.lock.Pending.{Pending}
use Rattle.pcl_base.specs.declared.message.Message.{Message}
use Rattle.pcl_base.specs.declared.reply.Reason.{Reason}
use Rattle.pcl_base.specs.declared.reply.Reason.TheVariants as reason
use Rattle.pcl_base.specs.declared.tx.TxId.{TxId}
use Rattle.run_rules.specs.Views.{View, born_of, follows}
use Rattle.node_rules.specs.Words.{pick, same_tx}
use Rattle.node_rules.specs.NodeState.{NodeState, NodeEvent, number_of}
use Rattle.node_rules.specs.NodeState as node
use Rattle.node_rules.specs.OpenTxs.{OpenTx, OpenTxs, name_of, is_own, is_open, with_serial, waiting_of_open, pending_of}
use Rattle.node_rules.specs.Refusals.{may_install, not_open, waits, refuse_if, refusal}
use Rattle.home_laws.proofs.Tests.{number_same, number_equal, and_left, and_right, tx_same, tx_equal, not_false}
use Rattle.node_laws.specs.Nodes.{IsViewOf}
use Rattle.node_laws.proofs.Events.{not_refused}
use Rattle.cluster_rules.specs.Clusters.{Cluster, node_at, view_of_epoch}
use Rattle.cluster_rules.specs.Links.{head_at}
use Rattle.cluster_laws.specs.Handed.{handed_to, IsHanded}
use Rattle.cluster_laws.specs.Sound.{IsMember, IsCluster}
use Rattle.cluster_laws.proofs.Lists.{both_true}
use Rattle.cluster_laws.proofs.Steps.{up_is_member_law}
use Rattle.cluster_laws.proofs.EraParts.Lives.{live_known}
use Rattle.cluster_laws.proofs.EraParts.Nexts.{follows_born, follows_epoch}
use Rattle.cluster_laws.specs.Ask.Asked.{asked_last, WaitsAsAsked, AllWaitAsAsked}
use Rattle.cluster_laws.proofs.AskParts.Acting.{asks, asks_now}
use Rattle.cluster_laws.proofs.AskParts.Waiting.{AreAsked}
use Rattle.cluster_laws.proofs.AskParts.Lists.{own_name, waits_named}
use Rattle.account_versions.proofs.AskedParts.Homes.{Known, WellHome}
use Rattle.account_versions.proofs.AskedParts.Events.{Suits}

-- an access that isn't refused
record MayAsk (n : NodeState) (t : TxId) : Type 0 where
  in_view : is_some n.view ≡ true
  open_now : is_open n.home.txs t ≡ true
  waits_not : pending_of n.home.txs t ≡ None

may_ask : (n : NodeState) (t : TxId) (further : Option Reason) → refuse_if (not (is_some n.view)) reason.NotInView (refuse_if (not_open n t) reason.NoTx (refuse_if (waits n t) reason.TxWaits further)) ≡ None
    → MayAsk n t
may_ask n t further none =
    let one = not_refused (not (is_some n.view)) reason.NotInView (refuse_if (not_open n t) reason.NoTx (refuse_if (waits n t) reason.TxWaits further)) none in
    let two = not_refused (not_open n t) reason.NoTx (refuse_if (waits n t) reason.TxWaits further) one.1 in
    let three = not_refused (waits n t) reason.TxWaits further two.1 in
    record { in_view = not_false (is_some n.view) one.0; open_now = not_false (is_open n.home.txs t) two.0; waits_not = nothing (pending_of n.home.txs t) three.0 }
  where
    nothing : (o : Option Pending) → is_some o ≡ false → o ≡ None
    nothing None e = refl
    nothing (Some x) e = absurd (cc)

own_open : (s : OpenTxs) (t : TxId) → is_open s t ≡ true → is_own s t ≡ true
own_open s t there = by (is_own s t) there
  where
    by : (b : Bool) → is_some (pick b (with_serial s.txs t.serial) None) ≡ true → b ≡ true
    by true e = refl
    by false e = absurd (cc)

-- what a transaction waits for is what it asked for last, with the event: of the asking one nothing waits
asked_with : (t u : TxId) (o : Option Pending) (w v : Option (ℕ × List ℕ)) → (t ≡ u → o ≡ None) → IfSome o (λ (x : Pending). x.write ≡ w) → IfSome o (λ (x : Pending). x.write ≡ pick (same_tx t u) v w)
asked_with t u o w v free a = by (same_tx t u) refl
  where
    by : (b : Bool) → same_tx t u ≡ b → IfSome o (λ (x : Pending). x.write ≡ pick b v w)
    by true e = subst (λ (y : Option Pending). IfSome y (λ (x : Pending). x.write ≡ v)) (sym (free (tx_equal t u e))) tt
    by false e = a

-- a view that may be installed
may_install_now : (s : NodeState) (view : View) → refusal s (node.Install view) ≡ None → may_install s s.view view ≡ true
unfolding refusal
may_install_now s view none = not_false (may_install s s.view view) (not_refused (not (may_install s s.view view)) reason.NoView None none).0

module _ (c : Cluster) (e : Event) (n : ℕ) (s : NodeState) (ev : NodeEvent) (i : IsCluster c) (h : AllWaitAsAsked c) (handed : IsHanded c e n s ev) (none : refusal s ev ≡ None) where
  is : IsMember c.config c.views n s
  is = (up_is_member_law c n s i handed.up).1

  -- before the event, by names
  waits_before : (t : TxId) → IfSome (pending_of s.home.txs t) (λ (w : Pending). w.write ≡ asks c t)
  waits_before t = by (is_own s.home.txs t) refl
    where
      by : (b : Bool) → is_own s.home.txs t ≡ b → IfSome (pending_of s.home.txs t) (λ (w : Pending). w.write ≡ asks c t)
      by false own = subst (λ (b : Bool). IfSome (waiting_of_open (pick b (with_serial s.home.txs.txs t.serial) None)) (λ (w : Pending). w.write ≡ asks c t)) (sym own) tt
      by true own =
          let node : t.node ≡ n = ap (λ (u : TxId). u.node) (own_name s.home.txs t own) ∙ is.number in
          subst (WaitsAsAsked c t) handed.up (subst (λ (k : ℕ). WaitsAsAsked c t (node_at c k)) node (h t))

  -- with the event
  waits_with : (e2 : Event) → handed_to c s e2 ≡ Some ev → (t : TxId) → IfSome (pending_of s.home.txs t) (λ (w : Pending). w.write ≡ asks_now c e2 t)
  unfolding asked_last refusal
  waits_with (event.Read u q) g t =
      let same : node.Read u q ≡ ev = cc in
      asked_with t u (pending_of s.home.txs t) (asks c t) None (λ f. ap (pending_of s.home.txs) f ∙ (may_ask s u _ (ap (refusal s) same ∙ none)).waits_not) (waits_before t)
  waits_with (event.Write u q place bytes) g t =
      let same : node.Write u q place bytes ≡ ev = cc in
      asked_with t u (pending_of s.home.txs t) (asks c t) (Some (place, bytes)) (λ f. ap (pending_of s.home.txs) f ∙ (may_ask s u _ (ap (refusal s) same ∙ none)).waits_not) (waits_before t)
  waits_with (event.Begin m) g t = waits_before t
  waits_with (event.Commit u) g t = waits_before t
  waits_with (event.Abort u) g t = waits_before t
  waits_with (event.Deliver from to) g t = waits_before t
  waits_with (event.Evict m q) g t = waits_before t
  waits_with (event.Flush m q) g t = waits_before t
  waits_with (event.Crash m) g t = waits_before t
  waits_with (event.View live owners) g t = waits_before t
  waits_with (event.Install m) g t = waits_before t
  waits_with event.Reopen g t = waits_before t
  waits_with (event.Arm m call stops) g t = waits_before t
  waits_with (event.Cut m) g t = waits_before t

  -- whether a transaction asked for a write
  abbrev pub wants_now : TxId → Bool
  wants_now t = is_some (asks_now c e t)

  -- ---- a node in a view

  -- names of its node and its birth are those of its transactions
  gives_now : (x : OpenTxs) (t : TxId) → x.node == s.home.txs.node && x.born == s.home.txs.born ≡ true → is_own x t ≡ true → is_some (asks_now c e (name_of s.home.txs t.serial)) ≡ true → wants_now t ≡ true
  gives_now x t named own some =
      let node : x.node ≡ s.home.txs.node = number_equal x.node s.home.txs.node (and_left (x.node == s.home.txs.node) (x.born == s.home.txs.born) named) in
      let born : x.born ≡ s.home.txs.born = number_equal x.born s.home.txs.born (and_right (x.node == s.home.txs.node) (x.born == s.home.txs.born) named) in
      let same : t ≡ name_of s.home.txs t.serial =
      own_name x t own
      ∙ ap (λ (k : ℕ). (let u : TxId = record { node = k; born = x.born; serial = t.serial } in u)) node
      ∙ ap (λ (k : ℕ). (let u : TxId = record { node = s.home.txs.node; born = k; serial = t.serial } in u)) born in
      ap (λ (u : TxId). is_some (asks_now c e u)) same ∙ some

  abbrev in_view : Known
  in_view =
      record {
        said = λ k. asks_now c e (name_of s.home.txs k);
        named = λ a b. a == s.home.txs.node && b == s.home.txs.born;
        wants = wants_now;
        gives = gives_now;
      }

  viewed_home : WellHome in_view s.home
  viewed_home = (
    both_true (s.home.txs.node == s.home.txs.node) (s.home.txs.born == s.home.txs.born) (number_same s.home.txs.node) (number_same s.home.txs.born),
    waits_named (asks_now c e) s.home.txs 0 s.home.txs.last is.sound.home.txs.serials (waits_with e handed.event),
  )

  -- the access of an event is what its transaction asks for
  names_open : (u : TxId) → MayAsk s u → same_tx (name_of s.home.txs u.serial) u ≡ true
  names_open u may = ap (λ (t : TxId). same_tx t u) (sym (own_name s.home.txs u (own_open s.home.txs u may.open_now))) ∙ tx_same u

  asks_this : (u : TxId) (w : Option (ℕ × List ℕ)) → MayAsk s u → w ≡ pick (same_tx (name_of s.home.txs u.serial) u) w (asks c (name_of s.home.txs u.serial))
  asks_this u w may = ap (λ (b : Bool). pick b w (asks c (name_of s.home.txs u.serial))) (sym (names_open u may))

  wants_this : (u : TxId) (w : ℕ × List ℕ) → is_some (pick (same_tx u u) (Some w) (asks c u)) ≡ true
  wants_this u w = ap (λ (b : Bool). is_some (pick b (Some w) (asks c u))) (tx_same u)

  none_wants : {X : Type 0} → (let o : Option (ℕ × List ℕ) = None in is_some o) ≡ true → X
  none_wants e = absurd (cc)

  -- no life begins with a view that follows the node's own
  view_of : (v : View) → s.view ≡ Some v → IsViewOf s v
  view_of v own = subst (λ (o : Option View). IfSome o (IsViewOf s)) own is.sound.view

  lives_on : (v view : View) → s.view ≡ Some v → may_install s s.view view ≡ true → (born_of view (number_of s) == view.epoch) ≡ true → ⊥
  lives_on v view own may begins =
      let before : IsViewOf s v = view_of v own in
      let after : follows s.home.config v view ≡ true = subst (λ (o : Option View). may_install s o view ≡ true) own may in
      let low : number_of s < s.home.config.nodes = live_known s.home.config v (number_of s) before.whole before.live in
      let born = follows_born s.home.config v view (number_of s) before.whole after low before.live in
      let upto = before.whole.born_upto (number_of s) low in
      let epoch = follows_epoch s.home.config v view after in
      let at = number_equal (born_of view (number_of s)) view.epoch begins in
      omega (arith, born, upto, epoch, at)

  viewed_suits : (e2 : Event) → e ≡ e2 → handed_to c s e2 ≡ Some ev → (v : View) → s.view ≡ Some v → Suits in_view s ev
  unfolding asked_last refusal
  viewed_suits (event.Read u q) eq g v own =
      let same : node.Read u q ≡ ev = cc in
      let may = may_ask s u _ (ap (refusal s) same ∙ none) in
      subst (Suits in_view s) same
      (record {
        said = asks_this u None may ∙ ap (λ (y : Event). asks_now c y (name_of s.home.txs u.serial)) (sym eq);
        wants = λ some. none_wants some;
      })
  viewed_suits (event.Write u q place bytes) eq g v own =
      let same : node.Write u q place bytes ≡ ev = cc in
      let may = may_ask s u _ (ap (refusal s) same ∙ none) in
      subst (Suits in_view s) same
      (record {
        said = asks_this u (Some (place, bytes)) may ∙ ap (λ (y : Event). asks_now c y (name_of s.home.txs u.serial)) (sym eq);
        wants = λ some. ap (λ (y : Event). is_some (asks_now c y u)) eq ∙ wants_this u (place, bytes);
      })
  viewed_suits (event.Begin m) eq g v own = let same : node.Begin ≡ ev = cc in subst (Suits in_view s) same tt
  viewed_suits (event.Commit u) eq g v own = let same : node.Commit u ≡ ev = cc in subst (Suits in_view s) same tt
  viewed_suits (event.Abort u) eq g v own = let same : node.Abort u ≡ ev = cc in subst (Suits in_view s) same tt
  viewed_suits (event.Deliver from to) eq g v own = of (is_some s.view) (head_at c.links from to) g
    where
      of : (b : Bool) (o : Option Message) → pick b (option_map (node.Deliver from) o) None ≡ Some ev → Suits in_view s ev
      of false o q = absurd (cc)
      of true None q = absurd (cc)
      of true (Some m) q = let same : node.Deliver from m ≡ ev = cc in subst (Suits in_view s) same tt
  viewed_suits (event.Evict m q) eq g v own = let same : node.Evict q ≡ ev = cc in subst (Suits in_view s) same tt
  viewed_suits (event.Flush m q) eq g v own = let same : node.Flush q ≡ ev = cc in subst (Suits in_view s) same tt
  viewed_suits (event.Crash m) eq g v own = absurd (cc)
  viewed_suits (event.View live owners) eq g v own = absurd (cc)
  viewed_suits (event.Install m) eq g v own = of (view_of_epoch c.views (s.epoch + 1)) g
    where
      of : (o : Option View) → option_map node.Install o ≡ Some ev → Suits in_view s ev
      of None q = absurd (cc)
      of (Some view) q =
          let same : node.Install view ≡ ev = cc in
          subst (Suits in_view s) same (λ begins. absurd (lives_on v view own (may_install_now s view (ap (refusal s) same ∙ none)) begins))
  viewed_suits event.Reopen eq g v own = absurd (cc)
  viewed_suits (event.Arm m call stops) eq g v own = absurd (cc)
  viewed_suits (event.Cut m) eq g v own = let same : node.Cut ≡ ev = cc in subst (Suits in_view s) same tt

  -- ---- a node in no view

  abbrev in_none : Known
  in_none = record { said = λ k. None; named = λ a b. true; wants = wants_now; gives = λ x t named own some. none_wants some }

  idle_home : s.view ≡ None → WellHome in_none s.home
  idle_home own = (refl, nobody s.home.txs.txs (is.sound.idle own))
    where
      nobody : (xs : List OpenTx) → length xs ≡ 0 → AreAsked (λ k. None) xs
      nobody [] e = tt
      nobody (x ∷ xs) e = absurd (cc)

  not_asking : (u : TxId) → s.view ≡ None → MayAsk s u → ⊥
  not_asking u own may = let bad : false ≡ true = sym (ap is_some own) ∙ may.in_view in absurd (cc)

  idle_suits : (ev2 : NodeEvent) → refusal s ev2 ≡ None → s.view ≡ None → Suits in_none s ev2
  unfolding refusal
  idle_suits (node.Read u q) free own = absurd (not_asking u own (may_ask s u _ free))
  idle_suits (node.Write u q place bytes) free own = absurd (not_asking u own (may_ask s u _ free))
  idle_suits node.Begin free own = tt
  idle_suits (node.Commit u) free own = tt
  idle_suits (node.Abort u) free own = tt
  idle_suits (node.Deliver from m) free own = tt
  idle_suits (node.Evict q) free own = tt
  idle_suits (node.Flush q) free own = tt
  idle_suits (node.Install view) free own = λ begins. refl
  idle_suits node.Cut free own = tt

  -- each node knows so much that it grants well
  pub record Starts : Type 0 where
    pub known : Known
    pub wants : known.wants ≡ wants_now
    pub home : WellHome known s.home
    pub suits : Suits known s ev

  pub starts : Starts
  starts = by s.view refl
    where
      by : (o : Option View) → s.view ≡ o → Starts
      by (Some v) own = record { known = in_view; wants = refl; home = viewed_home; suits = viewed_suits e refl handed.event v own }
      by None own = record { known = in_none; wants = refl; home = idle_home own; suits = idle_suits ev none own }
