-- What a home does writes pages alone, but for a commit's record.
use Rattle.std.proofs.Common.{ap, sym, ◌∙◌, ℕ, nat_lt, ◌==◌, Bool, true, false, List, [], ◌∷◌, ◌++◌, append_assoc, append-nil, Option, Some, None, is_some}
use Rattle.std.specs.Prelude.{⊤}
use Rattle.pcl_base.specs.declared.lock.Held.{Held}
use Rattle.pcl_base.specs.declared.message.Change.{Change}
use Rattle.pcl_base.specs.declared.message.Grant.{Grant}
use Rattle.pcl_base.specs.declared.tx.TxId.{TxId}
use Rattle.text_rules.specs.StoredPage.{PageAt, stored_bytes}
use Rattle.node_rules.specs.Words.{pick}
use Rattle.node_rules.specs.AccessRule.{Access, Granted, Arrived, on_pool, let_go, make_room, take_slot, take_private, pin_once, take_frames, perform, under_right, next_of, waiting, is_held, is_allowed, access_in, access, from_disk, unless_current, bring, locked, write_of, granted, arrive, arrived, kind_of, image_of, shelf_after, readers_after, on_grant, now_done, clean_copy}
use Rattle.node_rules.specs.BufferRule.{Copy, Slot, copy_at, has_slot, free_frames, victim, has_private, find, place, private, pin, install, clean}
use Rattle.node_rules.specs.CopyRule.{is_version}
use Rattle.node_rules.specs.DiskCalls.{DiskCall, WritePage}
use Rattle.node_rules.specs.OpenTxs.{held_by, pending_of, waits_as}
use Rattle.node_rules.specs.OwnerRule.{put_change, into_slot, has_room}
use Rattle.node_rules.specs.Work.{HomeWork, Goes, Differs, with_pool, write_page, write_copy, write_back, read_page}
use Rattle.node_laws.proofs.Lists.{all_push}
use Rattle.step_laws.proofs.Outcomes.{On, on_then, on_so, on_any}
use Rattle.cluster_laws.specs.Call.Calls.{IsWrite, BeginsWith}

module _ (K : List DiskCall) where
  -- no call, or one page more
  pub begun : BeginsWith K K
  begun = record { writes = []; all = tt; joined = sym (append-nil K) }

  pub pushed : (calls : List DiskCall) (p : ℕ) (bytes : List ℕ) → BeginsWith K calls → BeginsWith K (calls ++ WritePage p bytes ∷ [])
  pushed calls p bytes b =
      record {
        writes = b.writes ++ WritePage p bytes ∷ [];
        all = all_push IsWrite b.writes (WritePage p bytes) b.all tt;
        joined = ap (λ (xs : List DiskCall). xs ++ WritePage p bytes ∷ []) b.joined ∙ append_assoc K b.writes (WritePage p bytes ∷ []);
      }

  abbrev pub Writes : HomeWork → Type 0
  Writes w = BeginsWith K w.calls

  -- frames
  pub back_writes : (p : ℕ) (w : HomeWork) → Writes w → Writes (write_back p w)
  unfolding write_back
  back_writes p w b = by (copy_at w.home.pool p)
    where
      dirty : (x : Bool) (c : Copy) → Writes (pick x (record (write_page p (record { version = c.version; bytes = c.bytes }) w) { home = with_pool w.home (clean w.home.pool p) }) w)
      dirty true c = pushed w.calls p (stored_bytes p (record { version = c.version; bytes = c.bytes })) b
      dirty false c = b

      by : (o : Option Copy) → Writes (write_copy p o w)
      by None = b
      by (Some c) = dirty c.dirty c

  gone_writes : (o : Option Slot) (w : HomeWork) → Writes w → Writes (let_go o w)
  gone_writes None w b = b
  gone_writes (Some s) w b = back_writes s.page w b

  pub room_writes : (keep : ℕ) (w : HomeWork) → Writes w → Writes (make_room keep w)
  unfolding make_room
  room_writes keep w b = by (nat_lt 0 (free_frames w.home.pool))
    where
      by : (x : Bool) → Writes (pick x w (let_go (victim w.home.pool keep) w))
      by true = b
      by false = gone_writes (victim w.home.pool keep) w b

  slot_writes : (p : ℕ) (w : HomeWork) → Writes w → Writes (take_slot p w)
  unfolding take_slot
  slot_writes p w b = by (has_slot w.home.pool p)
    where
      by : (x : Bool) → Writes (pick x w (on_pool (λ q. place q p) (make_room p w)))
      by true = b
      by false = room_writes p w b

  private_writes : (t : TxId) (p : ℕ) (o : Option (ℕ × List ℕ)) (w : HomeWork) → Writes w → Writes (take_private t p o w)
  unfolding take_private
  private_writes t p None w b = b
  private_writes t p (Some x) w b = by (has_private w.home.pool t p)
    where
      by : (x : Bool) → Writes (pick x w (on_pool (λ q. private q t p) (make_room p w)))
      by true = b
      by false = room_writes p w b

  pinned_writes : (t : TxId) (p : ℕ) (w : HomeWork) → Writes w → Writes (pin_once t p w)
  pinned_writes t p w b = by (is_some (held_by w.home.txs t p))
    where
      by : (x : Bool) → Writes (pick x w (on_pool (λ q. pin q p) w))
      by true = b
      by false = b

  pub frames_writes : (a : Access) (w : HomeWork) → Writes w → Writes (take_frames a w)
  unfolding take_frames
  frames_writes a w b = pinned_writes a.tx a.page _ (private_writes a.tx a.page a.write _ (slot_writes a.page w b))

  -- accesses
  pub performed_writes : (t : TxId) (p : ℕ) (o : Option (ℕ × List ℕ)) (w : HomeWork) → Writes w → Writes (perform t p o w).work
  unfolding perform
  performed_writes t p None w b = b
  performed_writes t p (Some x) w b = b

  pub access_writes : (a : Access) (owned : Bool) (w : HomeWork) → Writes w → Writes (access a owned w).work
  unfolding access access_in
  access_writes a owned w b = by (is_held a f.home) (is_allowed a owned f.home)
    where
      f : HomeWork
      f = take_frames a w

      got : Writes f
      got = frames_writes a w b

      by : (x y : Bool) → Writes (pick x (now_done (perform a.tx a.page a.write f))
          (pick y (now_done (perform a.tx a.page None (record f { home = under_right a.tx a.page f.home })))
          (record { next = next_of a owned (find f.home.pool a.page); work = record f { home = waiting a f.home } }))).work
      by true y = performed_writes a.tx a.page a.write f got
      by false true = performed_writes a.tx a.page None (record f { home = under_right a.tx a.page f.home }) got
      by false false = got

  -- grants
  bring_writes : (p v : ℕ) (image : Option (List ℕ)) (w : HomeWork) → Writes w → On Writes (bring p v image w)
  unfolding bring
  bring_writes p v image w b = by (is_version (find w.home.pool p) v) image
    where
      disk : (at : PageAt) (x : Bool) → On Writes (pick x (Goes (on_pool (λ q. install q p (clean_copy at)) w)) (Differs p v at.version))
      disk at true = b
      disk at false = tt

      by : (x : Bool) (o : Option (List ℕ)) → On Writes (unless_current x p v o w)
      by true o = b
      by false (Some bytes) = b
      by false None =
          on_then (λ (at : PageAt). ⊤) Writes (read_page w.pages p) (from_disk p v w) (on_any (read_page w.pages p)) (λ at any. disk at (at.version == v))

  pub granted_writes : (t : TxId) (l : Held) (v : ℕ) (image : Option (List ℕ)) (w : HomeWork) → Writes w → On (λ (g : Granted). Writes g.work) (granted t l v image w)
  unfolding granted
  granted_writes t l v image w b =
      on_so Writes (λ (g : Granted). Writes g.work) (bring l.page v image w) (locked t l (write_of (pending_of w.home.txs t))) (bring_writes l.page v image w b)
      (λ x c. performed_writes t l.page (write_of (pending_of w.home.txs t)) _ c)

  pub arrived_writes : (g : Grant) (owned : Bool) (w : HomeWork) → Writes w → On (λ (a : Arrived). Writes a.work) (on_grant g owned w)
  unfolding on_grant
  arrived_writes g owned w b = by (waits_as (pending_of w.home.txs g.tx) g.page g.mode)
    where
      shelved : HomeWork
      shelved = record w { home = record (w.home) { shelf = shelf_after g w.home.shelf } }

      by : (x : Bool) → On (λ (a : Arrived). Writes a.work) (arrive x g owned shelved)
      by false = b
      by true =
          on_so (λ (x : Granted). Writes x.work) (λ (a : Arrived). Writes a.work) _ arrived
          (granted_writes g.tx (record { page = g.page; mode = g.mode; kind = kind_of owned g.right }) g.version (image_of g.copy)
          (record shelved { home = record (shelved.home) { shelf = readers_after g shelved.home.shelf } }) b)
          (λ x c. c)

  -- a change
  pub changed_writes : (p : ℕ) (c : Change) (w : HomeWork) → Writes w → Writes (put_change p c w)
  changed_writes p c w b = by (has_slot w.home.pool p) (free_frames w.home.pool == 0) (has_room p w)
    where
      by : (x y z : Bool) → Writes (pick x (into_slot p c w) (pick y (pick z (into_slot p c (on_pool (λ q. place q p) (make_room p w))) (write_page p (record { version = c.version; bytes = c.image }) w)) (into_slot p c (on_pool (λ q. place q p) w))))
      by true y z = b
      by false true true = room_writes p w b
      by false true false = pushed w.calls p (stored_bytes p (record { version = c.version; bytes = c.image })) b
      by false false z = b
