-- Granted writes at a home: each is of a transaction that waits for one, or that asks for it now.
use Rattle.std.proofs.Common.{◌≡◌, refl, ap, sym, subst, ◌∙◌, ℕ, nat_lt, ◌==◌, Bool, true, false, List, Option, Some, None, is_some}
use Rattle.std.specs.Prelude.{IfSome, ⊤}
use Rattle.pcl_base.specs.declared.lock.Held.{Held}
use Rattle.pcl_base.specs.declared.lock.Pending.{Pending}
use Rattle.pcl_base.specs.declared.message.Change.{Change}
use Rattle.pcl_base.specs.declared.message.Grant.{Grant}
use Rattle.pcl_base.specs.declared.reply.Reply.{Reply}
use Rattle.pcl_base.specs.declared.reply.Reply.TheVariants as reply
use Rattle.pcl_base.specs.declared.tx.TxId.{TxId}
use Rattle.text_rules.specs.StoredPage.{PageAt}
use Rattle.node_rules.specs.Words.{pick}
use Rattle.node_rules.specs.AccessRule.{Access, Accessed, Granted, Arrived, Next, Now, AskOwn, AskOwner, on_pool, let_go, make_room, take_slot, take_private, pin_once, take_frames, perform, under_right, next_of, waiting, is_held, is_allowed, access_in, access, bring, locked, write_of, granted, arrive, arrived, kind_of, image_of, shelf_after, readers_after, on_grant, now_done}
use Rattle.node_rules.specs.BufferRule.{Slot, Copy, copy_at, has_slot, free_frames, victim, has_private, find, place, private, pin, clean}
use Rattle.node_rules.specs.InstallRule.{write_newer}
use Rattle.node_rules.specs.NodeState.{HomeState}
use Rattle.node_rules.specs.OpenTxs.{OpenTxs, held_by, is_own, with_serial, waiting_of_open, pending_of, waits_as, add, wait}
use Rattle.node_rules.specs.OwnerRule.{put_change, into_slot, has_room}
use Rattle.node_rules.specs.Work.{HomeWork, Outcome, Goes, Differs, with_pool, write_page, write_copy, write_back}
use Rattle.step_laws.proofs.Homes.{HasLock, granted_home}
use Rattle.step_laws.proofs.Outcomes.{On, on_so, on_more, on_any}
use Rattle.cluster_laws.proofs.AskParts.Waiting.{AreAsked, added, waits}
use Rattle.cluster_laws.proofs.AskParts.Lists.{listed_waits}

-- ---- what leaves the open transactions alone

module _ (P : OpenTxs → Type 0) where
  back_same : (p : ℕ) (w : HomeWork) → P w.home.txs → P (write_back p w).home.txs
  unfolding write_back
  back_same p w i = by (copy_at w.home.pool p)
    where
      dirty : (x : Bool) (c : Copy) → P (pick x (record (write_page p (record { version = c.version; bytes = c.bytes }) w) { home = with_pool w.home (clean w.home.pool p) }) w).home.txs
      dirty true c = i
      dirty false c = i

      by : (o : Option Copy) → P (write_copy p o w).home.txs
      by None = i
      by (Some c) = dirty c.dirty c

  pub written_same : (p : ℕ) (w : HomeWork) → P w.home.txs → P (write_back p w).home.txs
  written_same = back_same

  gone_same : (o : Option Slot) (w : HomeWork) → P w.home.txs → P (let_go o w).home.txs
  gone_same None w i = i
  gone_same (Some s) w i = back_same s.page w i

  room_same : (keep : ℕ) (w : HomeWork) → P w.home.txs → P (make_room keep w).home.txs
  unfolding make_room
  room_same keep w i = by (nat_lt 0 (free_frames w.home.pool))
    where
      by : (x : Bool) → P (pick x w (let_go (victim w.home.pool keep) w)).home.txs
      by true = i
      by false = gone_same (victim w.home.pool keep) w i

  slot_same : (p : ℕ) (w : HomeWork) → P w.home.txs → P (take_slot p w).home.txs
  unfolding take_slot
  slot_same p w i = by (has_slot w.home.pool p)
    where
      by : (x : Bool) → P (pick x w (on_pool (λ q. place q p) (make_room p w))).home.txs
      by true = i
      by false = room_same p w i

  private_same : (t : TxId) (p : ℕ) (o : Option (ℕ × List ℕ)) (w : HomeWork) → P w.home.txs → P (take_private t p o w).home.txs
  unfolding take_private
  private_same t p None w i = i
  private_same t p (Some x) w i = by (has_private w.home.pool t p)
    where
      by : (x : Bool) → P (pick x w (on_pool (λ q. private q t p) (make_room p w))).home.txs
      by true = i
      by false = room_same p w i

  pinned_same : (t : TxId) (p : ℕ) (w : HomeWork) → P w.home.txs → P (pin_once t p w).home.txs
  pinned_same t p w i = by (is_some (held_by w.home.txs t p))
    where
      by : (x : Bool) → P (pick x w (on_pool (λ q. pin q p) w)).home.txs
      by true = i
      by false = i

  frames_same : (a : Access) (w : HomeWork) → P w.home.txs → P (take_frames a w).home.txs
  unfolding take_frames
  frames_same a w i = pinned_same a.tx a.page _ (private_same a.tx a.page a.write _ (slot_same a.page w i))

  pub changed_same : (p : ℕ) (c : Change) (w : HomeWork) → P w.home.txs → P (put_change p c w).home.txs
  changed_same p c w i = by (has_slot w.home.pool p) (free_frames w.home.pool == 0) (has_room p w)
    where
      by : (x y z : Bool) → P (pick x (into_slot p c w) (pick y (pick z (into_slot p c (on_pool (λ q. place q p) (make_room p w))) (write_page p (record { version = c.version; bytes = c.image }) w)) (into_slot p c (on_pool (λ q. place q p) w)))).home.txs
      by true y z = i
      by false true true = room_same p w i
      by false true false = i
      by false false z = i

  pub newer_same : (x : Bool) (p : ℕ) (at : PageAt) (w : HomeWork) → P w.home.txs → P (write_newer x p at w).home.txs
  newer_same true p at w i = i
  newer_same false p at w i = i

-- ---- what is known of a node's transactions in a step

-- a reply grants a write to a transaction of these alone
abbrev pub GrantsTo : (TxId → Bool) → Reply → Type 0
GrantsTo wants (reply.Done t p v) = wants t ≡ true
GrantsTo wants _ = ⊤

-- what each asked for last, by its serial; under which names; and which of them asked for a write
pub record Known : Type 0 where
  pub said : ℕ → Option (ℕ × List ℕ)
  pub named : ℕ → ℕ → Bool
  pub wants : TxId → Bool
  pub gives : (s : OpenTxs) (t : TxId) → named s.node s.born ≡ true → is_own s t ≡ true → is_some (said t.serial) ≡ true → wants t ≡ true

both : {X : Type 0} (P Q : X → Type 0) (o : Outcome X) → On P o → On Q o → On (λ x. P x × Q x) o
both P Q (Goes x) a b = (a, b)
both P Q (Differs p e d) a b = tt

module _ (k : Known) where
  -- a granted write is of a transaction that asked for one
  abbrev pub IsWell : Reply → Type 0
  IsWell r = GrantsTo k.wants r

  -- transactions under their names, each waiting for what it asked for
  abbrev pub WellTxs : OpenTxs → Type 0
  WellTxs s = (k.named s.node s.born ≡ true) × AreAsked k.said s.txs

  abbrev pub WellHome : HomeState → Type 0
  WellHome h = WellTxs h.txs

  -- a write that waits is of a transaction that asked for one
  writes_there : (s : OpenTxs) (t : TxId) → WellTxs s → is_some (write_of (pending_of s t)) ≡ true → k.wants t ≡ true
  writes_there s t i = by (is_own s t) refl
    where
      asks : (o : Option Pending) → IfSome o (λ (w : Pending). w.write ≡ k.said t.serial) → is_some (write_of o) ≡ true → is_some (k.said t.serial) ≡ true
      asks None a e = absurd (cc)
      asks (Some w) a e = sym (ap (λ (o : Option (ℕ × List ℕ)). is_some o) a) ∙ e

      by : (b : Bool) → is_own s t ≡ b → is_some (write_of (waiting_of_open (pick b (with_serial s.txs t.serial) None))) ≡ true → k.wants t ≡ true
      by false own e = absurd (cc)
      by true own e = k.gives s t i.0 own (asks (waiting_of_open (with_serial s.txs t.serial)) (listed_waits k.said s.txs t.serial i.1) e)

  -- what is answered to a granted access
  performed_well : (t : TxId) (p : ℕ) (o : Option (ℕ × List ℕ)) (w : HomeWork) → (is_some o ≡ true → k.wants t ≡ true) → IsWell (perform t p o w).reply
  unfolding perform
  performed_well t p None w wants = tt
  performed_well t p (Some x) w wants = wants refl

  performed_txs : (t : TxId) (p : ℕ) (o : Option (ℕ × List ℕ)) (w : HomeWork) → WellHome w.home → WellHome (perform t p o w).work.home
  unfolding perform
  performed_txs t p None w i = i
  performed_txs t p (Some x) w i = i

  added_well : (s : OpenTxs) (t : TxId) (l : Held) → WellTxs s → WellTxs (add s t l)
  unfolding add
  added_well s t l i = (i.0, added k.said s t l i.1)

  abbrev pub WellGranted : Granted → Type 0
  WellGranted g = WellHome g.work.home × IsWell g.reply

  answered_well : (t : TxId) (l : Held) (v : ℕ) (image : Option (List ℕ)) (w : HomeWork) → WellHome w.home → On (λ (g : Granted). IsWell g.reply) (granted t l v image w)
  unfolding granted
  answered_well t l v image w i =
      on_so (λ (x : HomeWork). ⊤) (λ (g : Granted). IsWell g.reply) (bring l.page v image w) (locked t l (write_of (pending_of w.home.txs t))) (on_any (bring l.page v image w))
      (λ x any. performed_well t l.page (write_of (pending_of w.home.txs t)) _ (writes_there w.home.txs t i))

  pub granted_well : (t : TxId) (l : Held) (v : ℕ) (image : Option (List ℕ)) (w : HomeWork) → WellHome w.home → On WellGranted (granted t l v image w)
  granted_well t l v image w i =
      both (λ (g : Granted). WellHome g.work.home) (λ (g : Granted). IsWell g.reply) (granted t l v image w)
      (on_more (λ (g : Granted). HasLock t l w.home g.work.home) (λ (g : Granted). WellHome g.work.home) (granted t l v image w)
      (λ g has. subst WellTxs (sym has.txs) (added_well w.home.txs t l i)) (granted_home t l v image w))
      (answered_well t l v image w i)

  -- a grant that arrives
  abbrev pub WellArrived : Arrived → Type 0
  WellArrived a = WellHome a.work.home × IfSome a.reply IsWell

  pub arrived_well : (g : Grant) (owned : Bool) (w : HomeWork) → WellHome w.home → On WellArrived (on_grant g owned w)
  unfolding on_grant
  arrived_well g owned w i = by (waits_as (pending_of w.home.txs g.tx) g.page g.mode)
    where
      shelved : HomeWork
      shelved = record w { home = record (w.home) { shelf = shelf_after g w.home.shelf } }

      by : (x : Bool) → On WellArrived (arrive x g owned shelved)
      by false = (i, tt)
      by true =
          on_so WellGranted WellArrived _ arrived
          (granted_well g.tx (record { page = g.page; mode = g.mode; kind = kind_of owned g.right }) g.version (image_of g.copy)
          (record shelved { home = record (shelved.home) { shelf = readers_after g shelved.home.shelf } }) i)
          (λ x c. c)

  -- ---- an access

  abbrev pub WellNext : Next → Type 0
  WellNext (Now r) = IsWell r
  WellNext (AskOwn a) = ⊤
  WellNext (AskOwner r) = ⊤

  abbrev pub WellAccessed : Accessed → Type 0
  WellAccessed x = WellHome x.work.home × WellNext x.next

  -- what an access asks for is what its transaction asked for last
  pub record IsAsking (a : Access) : Type 0 where
    pub said : a.write ≡ k.said a.tx.serial
    pub wants : is_some a.write ≡ true → k.wants a.tx ≡ true

  waiting_well : (a : Access) (h : HomeState) → IsAsking a → WellHome h → WellHome (waiting a h)
  unfolding wait
  waiting_well a h asks i = (i.0, waits k.said h.txs a.tx _ asks.said i.1)

  pub access_well : (a : Access) (owned : Bool) (w : HomeWork) → IsAsking a → WellHome w.home → WellAccessed (access a owned w)
  unfolding access access_in
  access_well a owned w asks i = by (is_held a g.home) (is_allowed a owned g.home)
    where
      g : HomeWork
      g = take_frames a w

      got : WellHome g.home
      got = frames_same WellTxs a w i

      next_well : (x : Bool) → WellNext (next_of a x (find g.home.pool a.page))
      next_well true = tt
      next_well false = tt

      none_wants : (let o : Option (ℕ × List ℕ) = None in is_some o) ≡ true → k.wants a.tx ≡ true
      none_wants e = absurd (cc)

      by : (x y : Bool) → WellAccessed (pick x (now_done (perform a.tx a.page a.write g))
          (pick y (now_done (perform a.tx a.page None (record g { home = under_right a.tx a.page g.home })))
          (record { next = next_of a owned (find g.home.pool a.page); work = record g { home = waiting a g.home } })))
      by true y = (performed_txs a.tx a.page a.write g got, performed_well a.tx a.page a.write g asks.wants)
      by false true = (
        performed_txs a.tx a.page None (record g { home = under_right a.tx a.page g.home }) (added_well g.home.txs a.tx _ got),
        performed_well a.tx a.page None (record g { home = under_right a.tx a.page g.home }) none_wants,
      )
      by false false = (waiting_well a g.home asks got, next_well owned)
