-- What a step starts from: the exclusive locks and the waiting accesses of its node.
use Rattle.std.proofs.Common.{◌≡◌, inl, refl, ap, sym, subst, ◌∙◌, ℕ, ◌≤◌, ◌==◌, ◌&&◌, not, Bool, true, false, List, [], ◌∷◌, Option, Some, None, is_some, arith, eqb-true}
use Rattle.std.specs.Prelude.{IfSome}
use Rattle.std.specs.List.{AllByRecursion, fold}
use Rattle.std.proofs.lemmas.Bool.Decides.{nat_tests}
use Rattle.pcl_base.specs.declared.event.Event.{Event}
use Rattle.pcl_base.specs.declared.event.Event.TheVariants as event
use Rattle.pcl_base.specs.declared.lock.Pending.{Pending}
use Rattle.pcl_base.specs.declared.reply.Reason.{Reason}
use Rattle.pcl_base.specs.declared.reply.Reason.TheVariants as reason
use Rattle.pcl_base.specs.declared.tx.TxId.{TxId}
use Rattle.run_rules.specs.Script.{Moment, moments, last_write}
use Rattle.cluster_laws.specs.Ask.Asked as ask
use Rattle.cluster_laws.proofs.AskParts.Acting.{asks, asks_now}
use Rattle.cluster_laws.proofs.AskParts.Lists.{own_name}
use Rattle.home_laws.specs.Homes.{AreSerials, IsAccess, is_exclusive_lock}
use Rattle.home_laws.proofs.Tests.{tx_same, tx_equal, not_false}
use Rattle.node_rules.specs.Words.{pick, same_tx}
use Rattle.node_rules.specs.NodeState.{NodeState, NodeEvent}
use Rattle.node_rules.specs.NodeState as node
use Rattle.node_rules.specs.OpenTxs.{OpenTx, OpenTxs, name_of, is_own, is_open, open_at, with_serial, waiting_of_open, pages_of_open, pending_of, held_by, lock_on}
use Rattle.node_rules.specs.Refusals.{not_open, waits, refuse_if, refusal}
use Rattle.node_laws.proofs.Events.{not_refused}
use Rattle.cluster_rules.specs.Clusters.{Cluster, node_at}
use Rattle.cluster_laws.specs.Handed.{handed_to, IsHanded}
use Rattle.cluster_laws.specs.Sound.{IsMember, IsCluster}
use Rattle.cluster_laws.proofs.Steps.{up_is_member_law}
use Rattle.page_laws.specs.Moment.Looks.{asked_last}
use Rattle.page_relation.specs.Together.{WaitsAsAsked}
use Rattle.related_runs.specs.Parts.{HaveAsked}
use Rattle.related_runs.proofs.BetweenParts.Marks.{WaitIs, IsFine, FineTxs}

-- ---- open transactions by their serials

serial_is : (xs : List OpenTx) (k : ℕ) (x : OpenTx) → with_serial xs k ≡ Some x → x.serial ≡ k
unfolding with_serial
serial_is [] k x e = absurd (cc)
serial_is (y ∷ ys) k x e = by (y.serial == k) refl e (serial_is ys k x)
  where
    by : (b : Bool) → (y.serial == k) ≡ b → pick b (Some y) (with_serial ys k) ≡ Some x → (with_serial ys k ≡ Some x → x.serial ≡ k) → x.serial ≡ k
    by true t e rest = let same : y ≡ x = cc in sym (ap (λ (z : OpenTx). z.serial) same) ∙ eqb-true y.serial k t
    by false t e rest = rest e

none_below : (low last : ℕ) (xs : List OpenTx) (k : ℕ) → AreSerials low last xs → k ≤ low → with_serial xs k ≡ None
unfolding with_serial
none_below low last [] k s le = refl
none_below low last (x ∷ xs) k s le = by (x.serial == k) refl (none_below x.serial last xs k s.1 (let up = s.0 in omega (arith, le, up)))
  where
    by : (b : Bool) → (x.serial == k) ≡ b → with_serial xs k ≡ None → pick b (Some x) (with_serial xs k) ≡ None
    by true e rest = let same = eqb-true x.serial k e in let up = s.0 in absurd (omega (arith, same, up, le))
    by false e rest = rest

-- what holds of the one of each serial holds of all
each_listed : (P : OpenTx → Type 0) (low last : ℕ) (xs : List OpenTx) → AreSerials low last xs → ((k : ℕ) → IfSome (with_serial xs k) P) → AllByRecursion P xs
unfolding with_serial
each_listed P low last [] s each = tt
each_listed P low last (x ∷ xs) s each = (
  subst (λ (b : Bool). IfSome (pick b (Some x) (with_serial xs x.serial)) P) (equal x.serial) (each x.serial),
  each_listed P x.serial last xs s.1 (λ k. by k (x.serial == k) refl (each k)),
)
  where
    equal : (n : ℕ) → (n == n) ≡ true
    equal n = grind (arith, nat_tests)

    by : (k : ℕ) (b : Bool) → (x.serial == k) ≡ b → IfSome (pick b (Some x) (with_serial xs k)) P → IfSome (with_serial xs k) P
    by k true e rest = subst (λ (o : Option OpenTx). IfSome o P) (sym (none_below x.serial last xs k s.1 (let same = eqb-true x.serial k e in omega (arith, same)))) tt
    by k false e rest = rest

name_own : (s : OpenTxs) (k : ℕ) → is_own s (name_of s k) ≡ true
name_own s k = both (s.node == s.node) (s.born == s.born) (grind (arith, nat_tests)) (grind (arith, nat_tests))
  where
    both : (a b : Bool) → a ≡ true → b ≡ true → a && b ≡ true
    both true true p q = refl
    both true false p q = q
    both false b p q = p

open_is : (s : OpenTxs) (k : ℕ) → open_at s (name_of s k) ≡ with_serial s.txs k
open_is s k = ap (λ (b : Bool). pick b (with_serial s.txs k) None) (name_own s k)

-- ---- what was asked for last, before and with an event

-- two ways to say it
pub folded : (t : TxId) (w : Option (ℕ × List ℕ)) (ms : List Moment) → ask.asked_last t w ms ≡ fold (last_write t) w ms
unfolding ask.asked_last
folded t w [] = refl
folded t w (m ∷ ms) = folded t (last_write t w m) ms

same_asked : (c : Cluster) (t : TxId) → asks c t ≡ asked_last t c.trace
unfolding asked_last
same_asked c t = folded t None (moments c.trace)

moved : (o : Option Pending) (v w : Option (ℕ × List ℕ)) → v ≡ w → IfSome o (λ (p : Pending). p.write ≡ v) → IfSome o (λ (p : Pending). p.write ≡ w)
moved None v w same a = tt
moved (Some p) v w same a = a ∙ same

at_node : (c : Cluster) (t : TxId) (s : NodeState) (o : Option NodeState) → o ≡ Some s → WaitsAsAsked c t o → IfSome (pending_of s.home.txs t) (λ (p : Pending). p.write ≡ asked_last t c.trace)
at_node c t s o same a = subst (WaitsAsAsked c t) same a

-- an access that isn't refused
record MayAsk (n : NodeState) (t : TxId) : Type 0 where
  open_now : is_open n.home.txs t ≡ true
  waits_not : pending_of n.home.txs t ≡ None

may_ask : (n : NodeState) (t : TxId) (further : Option Reason) → refuse_if (not (is_some n.view)) reason.NotInView (refuse_if (not_open n t) reason.NoTx (refuse_if (waits n t) reason.TxWaits further)) ≡ None
    → MayAsk n t
may_ask n t further none =
    let one = not_refused (not (is_some n.view)) reason.NotInView (refuse_if (not_open n t) reason.NoTx (refuse_if (waits n t) reason.TxWaits further)) none in
    let two = not_refused (not_open n t) reason.NoTx (refuse_if (waits n t) reason.TxWaits further) one.1 in
    let three = not_refused (waits n t) reason.TxWaits further two.1 in
    record { open_now = not_false (is_open n.home.txs t) two.0; waits_not = nothing (pending_of n.home.txs t) three.0 }
  where
    nothing : (o : Option Pending) → is_some o ≡ false → o ≡ None
    nothing None e = refl
    nothing (Some x) e = absurd (cc)

own_open : (s : OpenTxs) (t : TxId) → is_open s t ≡ true → is_own s t ≡ true
own_open s t there = by (is_own s t) there
  where
    by : (b : Bool) → is_some (pick b (with_serial s.txs t.serial) None) ≡ true → b ≡ true
    by true e = refl
    by false e = absurd (cc)

-- the exclusive locks of transactions by their names
abbrev pub held_before : NodeState → (ℕ → TxId) → ℕ → ℕ → Type 0
held_before s names k q = is_exclusive_lock (held_by s.home.txs (names k) q) ≡ true

-- of the asking transaction nothing waits
asked_with : (t u : TxId) (o : Option Pending) (w v : Option (ℕ × List ℕ)) → (t ≡ u → o ≡ None) → IfSome o (λ (x : Pending). x.write ≡ w) → IfSome o (λ (x : Pending). x.write ≡ pick (same_tx t u) v w)
asked_with t u o w v free a = by (same_tx t u) refl
  where
    by : (b : Bool) → same_tx t u ≡ b → IfSome o (λ (x : Pending). x.write ≡ pick b v w)
    by true e = subst (λ (y : Option Pending). IfSome y (λ (x : Pending). x.write ≡ v)) (sym (free (tx_equal t u e))) tt
    by false e = a

module _ (c : Cluster) (e : Event) (n : ℕ) (s : NodeState) (ev : NodeEvent) (i : IsCluster c) (h : HaveAsked c) (handed : IsHanded c e n s ev) where
  pub member : IsMember c.config c.views n s
  member = (up_is_member_law c n s i handed.up).1

  -- before the event, by names
  waits_before : (t : TxId) → IfSome (pending_of s.home.txs t) (λ (w : Pending). w.write ≡ asks c t)
  waits_before t = by (is_own s.home.txs t) refl
    where
      by : (b : Bool) → is_own s.home.txs t ≡ b → IfSome (pending_of s.home.txs t) (λ (w : Pending). w.write ≡ asks c t)
      by false own = subst (λ (b : Bool). IfSome (waiting_of_open (pick b (with_serial s.home.txs.txs t.serial) None)) (λ (w : Pending). w.write ≡ asks c t)) (sym own) tt
      by true own =
          moved (pending_of s.home.txs t) (asked_last t c.trace) (asks c t) (sym (same_asked c t))
          (at_node c t s (node_at c t.node) (ap (node_at c) (ap (λ (u : TxId). u.node) (own_name s.home.txs t own) ∙ member.number) ∙ handed.up) (h t))

  -- with an event that isn't refused
  waits_with : (e2 : Event) → handed_to c s e2 ≡ Some ev → refusal s ev ≡ None → (t : TxId) → IfSome (pending_of s.home.txs t) (λ (w : Pending). w.write ≡ asks_now c e2 t)
  unfolding ask.asked_last refusal
  waits_with (event.Read u q) g none t =
      let same : node.Read u q ≡ ev = cc in
      asked_with t u (pending_of s.home.txs t) (asks c t) None
      (λ f. ap (pending_of s.home.txs) f ∙ (may_ask s u _ (ap (refusal s) same ∙ none)).waits_not) (waits_before t)
  waits_with (event.Write u q place bytes) g none t =
      let same : node.Write u q place bytes ≡ ev = cc in
      asked_with t u (pending_of s.home.txs t) (asks c t) (Some (place, bytes))
      (λ f. ap (pending_of s.home.txs) f ∙ (may_ask s u _ (ap (refusal s) same ∙ none)).waits_not) (waits_before t)
  waits_with (event.Begin m) g none t = waits_before t
  waits_with (event.Commit u) g none t = waits_before t
  waits_with (event.Abort u) g none t = waits_before t
  waits_with (event.Deliver from to) g none t = waits_before t
  waits_with (event.Evict m q) g none t = waits_before t
  waits_with (event.Flush m q) g none t = waits_before t
  waits_with (event.Crash m) g none t = waits_before t
  waits_with (event.View live owners) g none t = waits_before t
  waits_with (event.Install m) g none t = waits_before t
  waits_with event.Reopen g none t = waits_before t
  waits_with (event.Arm m call stops) g none t = waits_before t
  waits_with (event.Cut m) g none t = waits_before t

  -- the access of an event is what its transaction asks for
  asks_this : (u : TxId) (w : Option (ℕ × List ℕ)) (old : TxId → Option (ℕ × List ℕ)) → MayAsk s u
      → w ≡ pick (same_tx (name_of s.home.txs u.serial) u) w (old (name_of s.home.txs u.serial))
  asks_this u w old may =
      let named : name_of s.home.txs u.serial ≡ u = sym (own_name s.home.txs u (own_open s.home.txs u may.open_now)) in
      let same : same_tx (name_of s.home.txs u.serial) u ≡ true = ap (λ (t : TxId). same_tx t u) named ∙ tx_same u in
      ap (λ (b : Bool). pick b w (old (name_of s.home.txs u.serial))) (sym same)

  -- what the node's event asks for
  abbrev pub said : ℕ → Option (ℕ × List ℕ)
  said k = asks_now c e (name_of s.home.txs k)

  module _ (none : refusal s ev ≡ None) where
    abbrev Start : OpenTx → Type 0
    Start x = IsFine s.home.txs.node s.home.txs.born said (held_before s (name_of s.home.txs)) [] x

    access_waits : (k : ℕ) (o : Option Pending) → IfSome o (λ (w : Pending). w.write ≡ said k) → IfSome o (IsAccess s.home.config)
        → IfSome o (WaitIs s.home.txs.node s.home.txs.born said (held_before s (name_of s.home.txs)) k)
    access_waits k None a b = tt
    access_waits k (Some w) a b = (a, b.mode)

    started : (k : ℕ) (o : Option OpenTx) → with_serial s.home.txs.txs k ≡ o → IfSome o Start
    started k None at = tt
    started k (Some x) at = (
      subst (λ (j : ℕ). IfSome x.waiting (WaitIs s.home.txs.node s.home.txs.born said (held_before s (name_of s.home.txs)) j)) (sym serial)
          (subst (λ (o : Option OpenTx). IfSome (waiting_of_open o) (WaitIs s.home.txs.node s.home.txs.born said (held_before s (name_of s.home.txs)) k)) (open_is s.home.txs k ∙ at)
          (access_waits k (pending_of s.home.txs (name_of s.home.txs k)) (waits_with e handed.event none (name_of s.home.txs k)) (member.sound.home.waits (name_of s.home.txs k)))),
      λ q exclusive. inl
          (subst (λ (j : ℕ). held_before s (name_of s.home.txs) j q) (sym serial)
          (ap (λ (o : Option OpenTx). is_exclusive_lock (lock_on (pages_of_open o) q)) (open_is s.home.txs k ∙ at) ∙ exclusive)),
    )
      where
        serial : x.serial ≡ k
        serial = serial_is s.home.txs.txs k x at

    pub starts_fine : FineTxs s.home.txs.node s.home.txs.born said (held_before s (name_of s.home.txs)) [] s.home.txs
    starts_fine = ((refl, refl), each_listed Start 0 s.home.txs.last s.home.txs.txs member.sound.home.txs.serials (λ k. started k (with_serial s.home.txs.txs k) refl))

  pub read_asks : (u : TxId) (q : ℕ) → e ≡ event.Read u q → refusal s ev ≡ None → ev ≡ node.Read u q → None ≡ said u.serial
  unfolding ask.asked_last refusal
  read_asks u q is none same =
      subst (λ (x : Event). None ≡ asks_now c x (name_of s.home.txs u.serial)) (sym is) (asks_this u None (asks c) (may_ask s u _ (ap (refusal s) (sym same) ∙ none)))

  pub write_asks : (u : TxId) (q place : ℕ) (bytes : List ℕ) → e ≡ event.Write u q place bytes → refusal s ev ≡ None → ev ≡ node.Write u q place bytes → Some (place, bytes) ≡ said u.serial
  unfolding ask.asked_last refusal
  write_asks u q place bytes is none same =
      subst (λ (x : Event). Some (place, bytes) ≡ asks_now c x (name_of s.home.txs u.serial)) (sym is)
      (asks_this u (Some (place, bytes)) (asks c) (may_ask s u _ (ap (refusal s) (sym same) ∙ none)))
