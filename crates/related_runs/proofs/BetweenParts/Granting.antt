-- Exclusive locks through what happens at a home.
use Rattle.std.proofs.Common.{◌≡◌, inl, inr, refl, ap, sym, subst, ◌∙◌, ℕ, nat_lt, ◌==◌, Bool, true, false, List, [], ◌∷◌, ◌++◌, Option, Some, None, is_some, eqb-true}
use Rattle.std.specs.Prelude.{IfSome, ⊤}
use Rattle.std.specs.List.{AllByRecursion}
use Rattle.pcl_base.specs.declared.lock.Held.{Held}
use Rattle.pcl_base.specs.declared.lock.Kind.TheVariants as kind
use Rattle.pcl_base.specs.declared.lock.Pending.{Pending}
use Rattle.pcl_base.specs.declared.message.Change.{Change}
use Rattle.pcl_base.specs.declared.message.Grant.{Grant}
use Rattle.pcl_base.specs.declared.reply.Reply.{Reply}
use Rattle.pcl_base.specs.declared.tx.Mode.{Mode}
use Rattle.pcl_base.specs.declared.tx.Mode.TheVariants.{Shared, Exclusive}
use Rattle.pcl_base.specs.declared.tx.TxId.{TxId}
use Rattle.text_rules.specs.StoredPage.{PageAt}
use Rattle.cluster_laws.proofs.AskParts.Lists.{own_name}
use Rattle.home_laws.proofs.Tests.{and_right}
use Rattle.node_rules.specs.Words.{pick, same_mode, is_exclusive}
use Rattle.node_rules.specs.AccessRule.{Access, Granted, Arrived, mode_of_write, on_pool, let_go, make_room, take_slot, take_private, pin_once, take_frames, perform, under_right, next_of, waiting, is_held, is_allowed, access_in, access, from_disk, unless_current, bring, locked, write_of, granted, arrive, arrived, kind_of, image_of, shelf_after, readers_after, on_grant, now_done, clean_copy, answer_with, on_revoke}
use Rattle.node_rules.specs.BufferRule.{Pool, Copy, Slot, copy_at, has_slot, free_frames, victim, has_private, find, place, private, pin, install, clean}
use Rattle.node_rules.specs.CopyRule.{is_version}
use Rattle.node_rules.specs.EndRule.{closed, publish_all, abort, commit}
use Rattle.node_rules.specs.InstallRule.{write_newer}
use Rattle.node_rules.specs.NodeState.{HomeState}
use Rattle.node_rules.specs.OpenTxs.{OpenTx, add, is_own, with_serial, waiting_of_open, held_by, pending_of, waits_as}
use Rattle.node_rules.specs.OwnerRule.{put_change, into_slot, has_room}
use Rattle.node_rules.specs.Shelf.{right_on, Right}
use Rattle.node_rules.specs.Work.{HomeWork, Goes, Differs, with_pool, write_page, write_copy, write_back, read_page}
use Rattle.step_laws.proofs.Outcomes.{On, on_then, on_so, on_any}
use Rattle.related_runs.proofs.BetweenParts.Marks.{IsDoneOf, done_back, name, Has, WaitIs, IsFine, Fine, fine_more, added, waits, kinds_set, closes}

-- the transaction of a serial, where there is one
pub listed : (P : OpenTx → Type 0) (xs : List OpenTx) (k : ℕ) → AllByRecursion P xs → IfSome (with_serial xs k) (λ (x : OpenTx). (x.serial ≡ k) × P x)
unfolding with_serial
listed P [] k all = tt
listed P (x ∷ xs) k all = by (x.serial == k) refl (listed P xs k all.1)
  where
    by : (b : Bool) → (x.serial == k) ≡ b → IfSome (with_serial xs k) (λ (y : OpenTx). (y.serial ≡ k) × P y) → IfSome (pick b (Some x) (with_serial xs k)) (λ (y : OpenTx). (y.serial ≡ k) × P y)
    by true e rest = (eqb-true x.serial k e, all.0)
    by false e rest = rest

module _ (node born : ℕ) (f : ℕ → Option (ℕ × List ℕ)) (Old : ℕ → ℕ → Type 0) where
  -- ---- a transaction that waits

  -- it is one of the node's, and a write that it waits for is what it asked for last
  record IsAwaited (t : TxId) (m : Mode) (o : Option (ℕ × List ℕ)) : Type 0 where
    named : t ≡ name node born f Old t.serial
    write : is_exclusive m ≡ true → (is_some o ≡ true) × (is_some (f t.serial) ≡ true)

  mode_writes : (o : Option (ℕ × List ℕ)) (m n : Mode) → n ≡ mode_of_write o → same_mode n m ≡ true → is_exclusive m ≡ true → is_some o ≡ true
  mode_writes (Some w) m n is same e = refl
  mode_writes None Shared n is same e = absurd (cc)
  mode_writes None Exclusive n is same e = let bad : same_mode Shared Exclusive ≡ true = ap (λ (k : Mode). same_mode k Exclusive) (sym is) ∙ same in absurd (cc)

  awaited_by : (k p : ℕ) (m : Mode) (o : Option Pending) → IfSome o (WaitIs node born f Old k) → waits_as o p m ≡ true → is_exclusive m ≡ true → (is_some (write_of o) ≡ true) × (is_some (f k) ≡ true)
  awaited_by k p m None is waits e = absurd (cc)
  awaited_by k p m (Some w) is waits e =
      let some = mode_writes w.write m w.mode is.1 (and_right (w.page == p) (same_mode w.mode m) waits) e in
      (some, sym (ap (λ (o : Option (ℕ × List ℕ)). is_some o) is.0) ∙ some)

  is_awaited : (rs : List Reply) (h : HomeState) (t : TxId) (p : ℕ) (m : Mode) → Fine node born f Old rs h → waits_as (pending_of h.txs t) p m ≡ true → IsAwaited t m (write_of (pending_of h.txs t))
  is_awaited rs h t p m i = by (is_own h.txs t) refl
    where
      of : (o : Option OpenTx) → IfSome o (λ (x : OpenTx). (x.serial ≡ t.serial) × IsFine node born f Old rs x) → IfSome (waiting_of_open o) (WaitIs node born f Old t.serial)
      of None is = tt
      of (Some x) is = subst (λ (k : ℕ). IfSome x.waiting (WaitIs node born f Old k)) is.0 is.1.0

      by : (b : Bool) → is_own h.txs t ≡ b → waits_as (waiting_of_open (pick b (with_serial h.txs.txs t.serial) None)) p m ≡ true
          → IsAwaited t m (write_of (waiting_of_open (pick b (with_serial h.txs.txs t.serial) None)))
      by false own waits = absurd (cc)
      by true own waits =
          record {
            named =
                own_name h.txs t own
                ∙ ap (λ (k : ℕ). (let u : TxId = record { node = k; born = h.txs.born; serial = t.serial } in u)) i.0.0
                ∙ ap (λ (k : ℕ). (let u : TxId = record { node = node; born = k; serial = t.serial } in u)) i.0.1;
            write = λ e. awaited_by t.serial p m (waiting_of_open (with_serial h.txs.txs t.serial)) (of (with_serial h.txs.txs t.serial) (listed (IsFine node born f Old rs) h.txs.txs t.serial i.1)) waits e;
          }

  module _ (rs : List Reply) where
    -- a home's transactions, in short
    abbrev pub Kept : HomeState → Type 0
    Kept h = Fine node born f Old rs h

    abbrev pub WorkKept : HomeWork → Type 0
    WorkKept w = Kept w.home

    pub revoked_kept : (p : ℕ) (h : HomeState) → Kept h → Kept (on_revoke p h).home
    unfolding on_revoke
    revoked_kept p h all = by (right_on h.shelf p)
      where
        by : (o : Option Right) → Kept (answer_with p o h).home
        by None = all
        by (Some r) = kinds_set node born f Old rs h.txs _ p kind.Registered all

    closed_kept : (h : HomeState) (t : TxId) (b : Pool) → Kept h → Kept (closed h t b)
    unfolding closed
    closed_kept h t b all = closes node born f Old rs h.txs t all

    pub aborted_kept : (t : TxId) (w : HomeWork) → WorkKept w → WorkKept (abort t w).work
    unfolding abort
    aborted_kept t w all = closed_kept w.home t w.home.pool all

    pub committed_kept : (t : TxId) (w : HomeWork) → WorkKept w → WorkKept (commit t w).work
    unfolding commit
    committed_kept t w all = closed_kept w.home t (publish_all w.home t) all

    -- ---- frames

    pub back_kept : (p : ℕ) (w : HomeWork) → WorkKept w → WorkKept (write_back p w)
    unfolding write_back
    back_kept p w b = by (copy_at w.home.pool p)
      where
        dirty : (x : Bool) (c : Copy) → WorkKept (pick x (record (write_page p (record { version = c.version; bytes = c.bytes }) w) { home = with_pool w.home (clean w.home.pool p) }) w)
        dirty true c = b
        dirty false c = b

        by : (o : Option Copy) → WorkKept (write_copy p o w)
        by None = b
        by (Some c) = dirty c.dirty c

    gone_kept : (o : Option Slot) (w : HomeWork) → WorkKept w → WorkKept (let_go o w)
    gone_kept None w b = b
    gone_kept (Some s) w b = back_kept s.page w b

    room_kept : (keep : ℕ) (w : HomeWork) → WorkKept w → WorkKept (make_room keep w)
    unfolding make_room
    room_kept keep w b = by (nat_lt 0 (free_frames w.home.pool))
      where
        by : (x : Bool) → WorkKept (pick x w (let_go (victim w.home.pool keep) w))
        by true = b
        by false = gone_kept (victim w.home.pool keep) w b

    slot_kept : (p : ℕ) (w : HomeWork) → WorkKept w → WorkKept (take_slot p w)
    unfolding take_slot
    slot_kept p w b = by (has_slot w.home.pool p)
      where
        by : (x : Bool) → WorkKept (pick x w (on_pool (λ q. place q p) (make_room p w)))
        by true = b
        by false = room_kept p w b

    private_kept : (t : TxId) (p : ℕ) (o : Option (ℕ × List ℕ)) (w : HomeWork) → WorkKept w → WorkKept (take_private t p o w)
    unfolding take_private
    private_kept t p None w b = b
    private_kept t p (Some x) w b = by (has_private w.home.pool t p)
      where
        by : (x : Bool) → WorkKept (pick x w (on_pool (λ q. private q t p) (make_room p w)))
        by true = b
        by false = room_kept p w b

    pinned_kept : (t : TxId) (p : ℕ) (w : HomeWork) → WorkKept w → WorkKept (pin_once t p w)
    pinned_kept t p w b = by (is_some (held_by w.home.txs t p))
      where
        by : (x : Bool) → WorkKept (pick x w (on_pool (λ q. pin q p) w))
        by true = b
        by false = b

    frames_kept : (a : Access) (w : HomeWork) → WorkKept w → WorkKept (take_frames a w)
    unfolding take_frames
    frames_kept a w b = pinned_kept a.tx a.page _ (private_kept a.tx a.page a.write _ (slot_kept a.page w b))

    performed_kept : (t : TxId) (p : ℕ) (o : Option (ℕ × List ℕ)) (w : HomeWork) → WorkKept w → WorkKept (perform t p o w).work
    unfolding perform
    performed_kept t p None w b = b
    performed_kept t p (Some x) w b = b

    -- an access
    pub access_kept : (a : Access) (owned : Bool) (w : HomeWork) → a.write ≡ f a.tx.serial → WorkKept w → WorkKept (access a owned w).work
    unfolding access access_in
    access_kept a owned w is b = by (is_held a g.home) (is_allowed a owned g.home)
      where
        g : HomeWork
        g = take_frames a w

        got : WorkKept g
        got = frames_kept a w b

        not_exclusive : is_exclusive Shared ≡ true → ⊥
        not_exclusive e = cc

        by : (x y : Bool) → WorkKept (pick x (now_done (perform a.tx a.page a.write g))
            (pick y (now_done (perform a.tx a.page None (record g { home = under_right a.tx a.page g.home })))
            (record { next = next_of a owned (find g.home.pool a.page); work = record g { home = waiting a g.home } }))).work
        by true y = performed_kept a.tx a.page a.write g got
        by false true =
            performed_kept a.tx a.page None (record g { home = under_right a.tx a.page g.home })
            (added node born f Old rs g.home.txs a.tx (record { page = a.page; mode = Shared; kind = kind.Right }) (λ e. absurd (not_exclusive e)) got)
        by false false = waits node born f Old rs g.home.txs a.tx _ (is, refl) got

    -- a page that is brought
    bring_kept : (p v : ℕ) (image : Option (List ℕ)) (w : HomeWork) → WorkKept w → On WorkKept (bring p v image w)
    unfolding bring
    bring_kept p v image w b = by (is_version (find w.home.pool p) v) image
      where
        disk : (at : PageAt) (x : Bool) → On WorkKept (pick x (Goes (on_pool (λ q. install q p (clean_copy at)) w)) (Differs p v at.version))
        disk at true = b
        disk at false = tt

        by : (x : Bool) (o : Option (List ℕ)) → On WorkKept (unless_current x p v o w)
        by true o = b
        by false (Some bytes) = b
        by false None =
            on_then (λ (at : PageAt). ⊤) WorkKept (read_page w.pages p) (from_disk p v w) (on_any (read_page w.pages p)) (λ at any. disk at (at.version == v))

    -- a change
    pub put_kept : (p : ℕ) (c : Change) (w : HomeWork) → WorkKept w → WorkKept (put_change p c w)
    put_kept p c w b = by (has_slot w.home.pool p) (free_frames w.home.pool == 0) (has_room p w)
      where
        by : (x y z : Bool) → WorkKept (pick x (into_slot p c w) (pick y (pick z (into_slot p c (on_pool (λ q. place q p) (make_room p w))) (write_page p (record { version = c.version; bytes = c.image }) w)) (into_slot p c (on_pool (λ q. place q p) w))))
        by true y z = b
        by false true true = room_kept p w b
        by false true false = b
        by false false z = b

    pub newer_kept : (x : Bool) (p : ℕ) (at : PageAt) (w : HomeWork) → WorkKept w → WorkKept (write_newer x p at w)
    newer_kept true p at w b = b
    newer_kept false p at w b = b

  -- ---- grants

  -- the reply that grants a write
  done_reply : (t : TxId) (p : ℕ) (o : Option (ℕ × List ℕ)) (w : HomeWork) → is_some o ≡ true → IsDoneOf t p (perform t p o w).reply
  unfolding perform
  done_reply t p None w e = absurd (cc)
  done_reply t p (Some x) w e = (refl, refl)

  -- a home with the reply behind those before
  abbrev pub GrantKept : List Reply → Granted → Type 0
  GrantKept rs g = Kept (rs ++ g.reply ∷ []) g.work.home

  pub granted_kept : (rs : List Reply) (t : TxId) (l : Held) (v : ℕ) (image : Option (List ℕ)) (w : HomeWork) → waits_as (pending_of w.home.txs t) l.page l.mode ≡ true
      → Kept rs w.home → On (GrantKept rs) (granted t l v image w)
  unfolding granted
  granted_kept rs t l v image w waits b =
      on_so (WorkKept rs) (GrantKept rs) (bring l.page v image w) (locked t l (write_of (pending_of w.home.txs t))) (bring_kept rs l.page v image w b) done
    where
      awaited : IsAwaited t l.mode (write_of (pending_of w.home.txs t))
      awaited = is_awaited rs w.home t l.page l.mode b waits

      done : (x : HomeWork) → Kept rs x.home → GrantKept rs (locked t l (write_of (pending_of w.home.txs t)) x)
      done x c = performed_kept (rs ++ r ∷ []) t l.page (write_of (pending_of w.home.txs t)) y (added node born f Old (rs ++ r ∷ []) x.home.txs t l has (fine_more node born f Old rs (r ∷ []) x.home c))
        where
          y : HomeWork
          y = record x { home = record (x.home) { txs = add x.home.txs t l } }

          r : Reply
          r = (perform t l.page (write_of (pending_of w.home.txs t)) y).reply

          has : is_exclusive l.mode ≡ true → Has node born f Old (rs ++ r ∷ []) t.serial l.page
          has e =
              let some = awaited.write e in
              inr (
                some.1,
                done_back (name node born f Old t.serial) l.page rs (r ∷ [])
                    (inl (subst (λ (u : TxId). IsDoneOf u l.page r) awaited.named (done_reply t l.page (write_of (pending_of w.home.txs t)) y some.0))),
              )

  -- a reply that may be missing
  abbrev pub with_reply : List Reply → Option Reply → List Reply
  with_reply rs None = rs
  with_reply rs (Some r) = rs ++ r ∷ []

  abbrev pub ArrivalKept : List Reply → Arrived → Type 0
  ArrivalKept rs a = Kept (with_reply rs a.reply) a.work.home

  pub arrived_kept : (rs : List Reply) (g : Grant) (owned : Bool) (w : HomeWork) → Kept rs w.home → On (ArrivalKept rs) (on_grant g owned w)
  unfolding on_grant
  arrived_kept rs g owned w b = by (waits_as (pending_of w.home.txs g.tx) g.page g.mode) refl
    where
      shelved : HomeWork
      shelved = record w { home = record (w.home) { shelf = shelf_after g w.home.shelf } }

      by : (x : Bool) → waits_as (pending_of w.home.txs g.tx) g.page g.mode ≡ x → On (ArrivalKept rs) (arrive x g owned shelved)
      by false e = b
      by true e =
          on_so (GrantKept rs) (ArrivalKept rs) _ arrived
          (granted_kept rs g.tx (record { page = g.page; mode = g.mode; kind = kind_of owned g.right }) g.version (image_of g.copy)
          (record shelved { home = record (shelved.home) { shelf = readers_after g shelved.home.shelf } }) e b)
          (λ x c. c)
