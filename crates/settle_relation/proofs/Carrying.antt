-- Decisions that are carried out, and pages that are settled: what is known of the work stays, and other pages aren't seen.
use Rattle.std.proofs.Common.{◌≡◌, ◌≢◌, refl, ap, sym, subst, ◌∙◌, ℕ, ◌==◌, ◌&&◌, Bool, true, false, List, length, Option, Some, None, is_some, arith}
use Rattle.std.specs.Prelude.{IfSome}
use Rattle.std.proofs.lemmas.Bool.Decides.{nat_tests}
use Rattle.pcl_base.specs.Limits.{Sizes}
use Rattle.pcl_base.specs.declared.event.Event.{Event}
use Rattle.pcl_base.specs.declared.lock.Decision.{Decision}
use Rattle.pcl_base.specs.declared.lock.Decision.TheVariants as decision
use Rattle.pcl_base.specs.declared.lock.Held.{Held}
use Rattle.pcl_base.specs.declared.lock.Kind.TheVariants as kind
use Rattle.pcl_base.specs.declared.lock.Pending.{Pending}
use Rattle.pcl_base.specs.declared.message.Body.TheVariants as body
use Rattle.pcl_base.specs.declared.trace.CopyKind.TheVariants as copy
use Rattle.pcl_base.specs.declared.tx.Mode.{Mode}
use Rattle.pcl_base.specs.declared.tx.TxId.{TxId}
use Rattle.text_rules.specs.MessageBytes.{IsTx, IsPage, IsCopy, IsRight}
use Rattle.text_rules.specs.StoredPage.{PageAt}
use Rattle.run_rules.specs.Script.{is_refusal}
use Rattle.node_rules.specs.AccessRule.{Granted, on_pool, bring, clean_copy, from_disk, granted, locked, perform, unless_current, write_of}
use Rattle.node_rules.specs.BufferRule.{Copy, bytes_of_copy, copy_at, install, version_of_copy}
use Rattle.node_rules.specs.CopyRule.{is_version, copy_for}
use Rattle.node_rules.specs.LockRule.{LockEntry}
use Rattle.node_rules.specs.LockTable.{LockTable, put_entry}
use Rattle.node_rules.specs.NodeState.{number_of, table_of}
use Rattle.node_rules.specs.OpenTxs.{OpenTxs, add, is_open, pending_of, waits_as, waits_on}
use Rattle.node_rules.specs.OwnerRule.{carry_grant, carry_out, copy_part, grant_own, send_grant, told, with_table}
use Rattle.node_rules.specs.Words.{pick, same_mode, same_tx}
use Rattle.node_rules.specs.Work.{HomeWork, Outcome, Goes, Differs, Work, and_so, read_page, send, work_of_home, with_home_work}
use Rattle.home_laws.specs.AccessLaws.{IsImage}
use Rattle.home_laws.specs.Homes.{is_right_kind, is_write_of}
use Rattle.home_laws.proofs.GrantNeeds.{granted_open, granted_slot}
use Rattle.home_laws.proofs.Needs.{waiting_private}
use Rattle.home_laws.proofs.Tests.{tx_equal}
use Rattle.step_laws.proofs.Outcomes.{On, on_any, on_so, on_then}
use Rattle.node_laws.specs.Nodes.{IsEntry}
use Rattle.node_laws.proofs.Entries.{IsDecision}
use Rattle.node_laws.proofs.Grants.{granted_good}
use Rattle.node_laws.proofs.Pages.{entry_good}
use Rattle.node_laws.proofs.Stored.{home_copy}
use Rattle.node_laws.proofs.Works.{Base, IsHomeWork, part_of}
use Rattle.cluster_rules.specs.Clusters.{Cluster}
use Rattle.page_laws.specs.Look.Accesses.{HasLock}
use Rattle.page_laws.proofs.LookParts.Accessing.{locking_is_seen_law}
use Rattle.page_laws.specs.Moment.Looks.{asked_last}
use Rattle.page_relation.specs.Work.Granting.{MayGrant}
use Rattle.page_relation.specs.Work.Landing.{trace_of}
use Rattle.page_relation.specs.Work.Letting.{CalledBy}
use Rattle.page_relation.proofs.WorkParts.Called.{granted_called}
use Rattle.settle_relation.proofs.Midway.{IsMidway, StillWaits, home_midway, midway_on, reply_midway, send_midway, still_same}

-- a value that an outcome gives
pub on_goes : {X : Type 0} (P : X → Type 0) (o : Outcome X) (x : X) → o ≡ Goes x → On P o → P x
on_goes P o x is on = subst (On P) is on

-- ---- what a grant leaves of the transactions

bring_txs : (p v : ℕ) (image : Option (List ℕ)) (w : HomeWork) → On (λ (x : HomeWork). x.home.txs ≡ w.home.txs) (bring p v image w)
unfolding bring
bring_txs p v image w = by (is_version (version_of_copy (copy_at w.home.pool p)) v) image
  where
    disk : (at : PageAt) (b : Bool) → On (λ (x : HomeWork). x.home.txs ≡ w.home.txs) (pick b (Goes (on_pool (λ k. install k p (clean_copy at)) w)) (Differs p v at.version))
    disk at true = refl
    disk at false = tt

    by : (b : Bool) (o : Option (List ℕ)) → On (λ (x : HomeWork). x.home.txs ≡ w.home.txs) (unless_current b p v o w)
    by true o = refl
    by false (Some bytes) = refl
    by false None =
        on_then (λ (at : PageAt). Unit {0}) (λ (x : HomeWork). x.home.txs ≡ w.home.txs) (read_page w.pages p) (from_disk p v w) (on_any (read_page w.pages p))
        (λ at any. disk at (at.version == v))

-- the transactions are as before but for the lock, and the answer is no refusal
record IsAnswered (s : OpenTxs) (g : Granted) : Type 0 where
  txs : g.work.home.txs ≡ s
  fine : is_refusal g.reply ≡ false

performed_is : (t : TxId) (p : ℕ) (o : Option (ℕ × List ℕ)) (w : HomeWork) → IsAnswered w.home.txs (perform t p o w)
unfolding perform
performed_is t p None w = record { txs = refl; fine = refl }
performed_is t p (Some x) w = record { txs = refl; fine = refl }

granted_is : (t : TxId) (l : Held) (v : ℕ) (image : Option (List ℕ)) (w : HomeWork) → On (IsAnswered (add w.home.txs t l)) (granted t l v image w)
unfolding granted
granted_is t l v image w =
    on_so (λ (x : HomeWork). x.home.txs ≡ w.home.txs) (IsAnswered (add w.home.txs t l)) (bring l.page v image w) (locked t l (write_of (pending_of w.home.txs t))) (bring_txs l.page v image w)
    (λ x same. subst (λ (s : OpenTxs). IsAnswered (add s t l) (locked t l (write_of (pending_of w.home.txs t)) x)) same
    (performed_is t l.page (write_of (pending_of w.home.txs t)) (record x { home = record (x.home) { txs = add x.home.txs t l } })))

picked_still : (b : Bool) (o : Option Pending) → IfSome (pick b None o) (λ (x : Pending). o ≡ Some x)
picked_still true o = tt
picked_still false None = tt
picked_still false (Some x) = refl

-- who waits after a lock was given waited before
pub locked_still : (s : OpenTxs) (t : TxId) (l : Held) → is_open s t ≡ true → StillWaits s (add s t l)
locked_still s t l there u = by (same_tx u t) refl
  where
    has : HasLock t l s (add s t l)
    has = locking_is_seen_law s t l there

    by : (b : Bool) → same_tx u t ≡ b → IfSome (pending_of (add s t l) u) (λ (x : Pending). pending_of s u ≡ Some x)
    by true is =
        let same : u ≡ t = tx_equal u t is in
        subst (λ (k : TxId). IfSome (pending_of (add s t l) k) (λ (x : Pending). pending_of s k ≡ Some x)) (sym same)
        (subst (λ (o : Option Pending). IfSome o (λ (x : Pending). pending_of s t ≡ Some x)) (sym has.waits) (picked_still (waits_on (pending_of s t) l.page) (pending_of s t)))
    by false is = subst (λ (o : Option Pending). IfSome o (λ (x : Pending). pending_of s u ≡ Some x)) (sym (has.other_waits u is)) (still_same s u)

-- an image that a grant brings is a whole page
copy_is : (size : ℕ) (have : Option ℕ) (v : ℕ) (o : Option Copy) → IfSome o (λ x. length x.bytes ≡ size) → IsCopy size (copy_part (copy_for have v (version_of_copy o)) (bytes_of_copy o))
unfolding copy_for
copy_is size have v o sized = by (is_version have v) o sized
  where
    image : (b : Bool) (x : Copy) → length x.bytes ≡ size → IsCopy size (copy_part (pick b copy.Image copy.OnDisk) x.bytes)
    image true x h = h
    image false x h = tt

    by : (b : Bool) (o : Option Copy) → IfSome o (λ x. length x.bytes ≡ size) → IsCopy size (copy_part (pick b copy.Current (pick (is_version (version_of_copy o) v) copy.Image copy.OnDisk)) (bytes_of_copy o))
    by true o h = tt
    by false None h = tt
    by false (Some x) h = image (x.version == v) x h

-- a write that waits was asked for
asked_write : (o : Option Pending) (write : ℕ × List ℕ) (v : Option (ℕ × List ℕ)) → write_of o ≡ Some write → IfSome o (λ (x : Pending). x.write ≡ v) → v ≡ Some write
asked_write None write v is asked = absurd (cc)
asked_write (Some x) write v is asked = sym asked ∙ is

-- and is a write of the page
waits_write : (o : Option Pending) (p : ℕ) (m : Mode) (write : ℕ × List ℕ) → waits_as o p m ≡ true → write_of o ≡ Some write → is_write_of o p ≡ true
waits_write None p m write waits is = absurd (cc)
waits_write (Some x) p m write waits is = both (x.page == p) waits
  where
    both : (a : Bool) → (a && same_mode x.mode m) ≡ true → (a && is_some x.write) ≡ true
    both true e = ap is_some is
    both false e = absurd (cc)

module _ (b : Base) (c : Cluster) (e : Event) (n : ℕ) where
  -- a grant to an own transaction
  pub granted_midway : (t : TxId) (l : Held) (v : ℕ) (image : Option (List ℕ)) (w : Work) (g : Granted) → waits_as (pending_of w.node.home.txs t) l.page l.mode ≡ true
      → is_right_kind l.kind ≡ false → IsImage w.node.home.config.size image → IsPage b.config l.page → IsMidway b c e n w → granted t l v image (work_of_home w) ≡ Goes g
      → IsMidway b c e n (told w g)
  granted_midway t l v image w g waits kinds sized low i goes =
      reply_midway b c e n g.reply (with_home_work w g.work) answered.fine
      (home_midway b c e n g.work w
      (on_goes (λ (y : Granted). IsHomeWork b y.work) (granted t l v image (work_of_home w)) g goes (granted_good b t l v image (work_of_home w) waits kinds sized low (part_of b i.base w i.good)))
      (on_goes (λ (y : Granted). CalledBy n c.disk y.work) (granted t l v image (work_of_home w)) g goes (granted_called n c.disk t l v image (work_of_home w) i.called))
      (subst (StillWaits w.node.home.txs) (sym answered.txs) (locked_still w.node.home.txs t l (granted_open w.node.home t l i.good.home.home waits))) i)
    where
      answered : IsAnswered (add w.node.home.txs t l) g
      answered = on_goes (IsAnswered (add w.node.home.txs t l)) (granted t l v image (work_of_home w)) g goes (granted_is t l v image (work_of_home w))

  -- what it needs
  pub may_grant : (t : TxId) (l : Held) (w : Work) → waits_as (pending_of w.node.home.txs t) l.page l.mode ≡ true → IsMidway b c e n w → MayGrant c e n t l.page w
  may_grant t l w waits i =
      record {
        opened = granted_open w.node.home t l i.good.home.home waits;
        slot = granted_slot w.node.home t l i.good.home.home waits;
        private = λ write is. waiting_private w.node.home t l.page i.good.home.home (waits_write (pending_of w.node.home.txs t) l.page l.mode write waits is);
        asked = λ write is. asked_write (pending_of w.node.home.txs t) write (asked_last t (trace_of c e n w)) is (i.asked t);
        called = i.called;
      }

  module _ (r : ℕ) (low : IsPage b.config r) where
    -- another entry of a page
    pub entry_midway : (t : LockTable) (x : LockEntry) (w : Work) → table_of w.node r ≡ Some t → IsEntry b.config b.number x → IsMidway b c e n w
        → IsMidway b c e n (with_table r (put_entry t r x) w)
    entry_midway t x w there is i =
        midway_on b c e n w (with_table r (put_entry t r x) w) i (entry_good b i.base r low t x w there is i.good) i.called (still_same w.node.home.txs) (λ u. refl)

    -- a message of a grant
    sent_midway : (t : TxId) (m : Mode) (right : Bool) (have : Option ℕ) (v : ℕ) (w : Work) → (t.node == number_of w.node) ≡ false → IsTx b.config t → IsRight m right
        → IsMidway b c e n w → IsMidway b c e n (send_grant t m right have r v w)
    sent_midway t m right have v w away tx is i =
        send_midway b c e n t.node _ w (tx.0, other)
        (tx, low, is, copy_is b.config.size have v (copy_at w.node.home.pool r) (sized (copy_at w.node.home.pool r) (home_copy w.node.home r i.good.home.home))) i
      where
        number : number_of w.node ≡ b.number
        number = i.good.home.number

        other : t.node ≢ b.number
        other = grind (arith, nat_tests, number, away)

        sized : (o : Option Copy) → IfSome o (λ x. IsPage w.node.home.config r × (length x.bytes ≡ w.node.home.config.size)) → IfSome o (λ x. length x.bytes ≡ b.config.size)
        sized None h = tt
        sized (Some x) h = h.1 ∙ ap (λ (k : Sizes). k.size) i.good.home.config

    own_midway : (x : Bool) (t : TxId) (m : Mode) (v : ℕ) (w z : Work) → waits_as (pending_of w.node.home.txs t) r m ≡ x → IsMidway b c e n w → grant_own x t m r v w ≡ Goes z
        → IsMidway b c e n z
    own_midway false t m v w z waits i goes = let same : w ≡ z = cc in subst (IsMidway b c e n) same i
    own_midway true t m v w z waits i goes = by (granted t l v None (work_of_home w)) refl goes
      where
        l : Held
        l = record { page = r; mode = m; kind = kind.Own }

        by : (o : Outcome Granted) → granted t l v None (work_of_home w) ≡ o → and_so o (told w) ≡ Goes z → IsMidway b c e n z
        by (Goes g) is done = let same : told w g ≡ z = cc in subst (IsMidway b c e n) same (granted_midway t l v None w g waits refl tt low i is)
        by (Differs q expected found) is done = absurd (cc)

    pub carry_midway : (v : ℕ) (d : Decision) (w z : Work) → IsDecision b.config b.number d → IsMidway b c e n w → carry_out r v d w ≡ Goes z → IsMidway b c e n z
    unfolding carry_out
    carry_midway v (decision.Grant t m right have) w z is i goes = by (t.node == number_of w.node) refl goes
      where
        by : (own : Bool) → (t.node == number_of w.node) ≡ own → carry_grant own t m right have r v w ≡ Goes z → IsMidway b c e n z
        by true at done = own_midway (waits_as (pending_of w.node.home.txs t) r m) t m v w z refl i done
        by false away done = let same : send_grant t m right have r v w ≡ z = cc in subst (IsMidway b c e n) same (sent_midway t m right have v w away is.0 is.1 i)
    carry_midway v (decision.Revoke k) w z is i goes =
        let same : send k (body.Revoke r) w ≡ z = cc in
        subst (IsMidway b c e n) same (send_midway b c e n k (body.Revoke r) w is low i)
