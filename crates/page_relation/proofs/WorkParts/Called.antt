-- What a home does leaves the pages that its calls leave.
use Rattle.std.proofs.Common.{◌≡◌, ap, sym, ◌∙◌, ℕ, nat_lt, ◌==◌, Bool, true, false, List, [], ◌∷◌, ◌++◌, slice_set, Option, Some, None, is_some}
use Rattle.std.specs.Prelude.{⊤}
use Rattle.std.proofs.lemmas.List.Sums.{fold-append}
use Rattle.pcl_base.specs.declared.lock.Held.{Held}
use Rattle.pcl_base.specs.declared.message.Change.{Change}
use Rattle.pcl_base.specs.declared.message.Grant.{Grant}
use Rattle.pcl_base.specs.declared.tx.TxId.{TxId}
use Rattle.text_rules.specs.StoredPage.{PageAt, stored_bytes}
use Rattle.run_rules.specs.Disk.{Disk}
use Rattle.node_rules.specs.Words.{pick}
use Rattle.node_rules.specs.AccessRule.{Access, Granted, Arrived, on_pool, let_go, make_room, take_slot, take_private, pin_once, take_frames, perform, under_right, next_of, waiting, is_held, is_allowed, access_in, access, from_disk, unless_current, bring, locked, write_of, granted, arrive, arrived, kind_of, image_of, shelf_after, readers_after, on_grant, now_done, clean_copy}
use Rattle.node_rules.specs.BufferRule.{Copy, Slot, copy_at, has_slot, free_frames, victim, has_private, find, place, private, pin, install, clean}
use Rattle.node_rules.specs.CopyRule.{is_version}
use Rattle.node_rules.specs.DiskCalls.{DiskCall, WritePage, done, all_done}
use Rattle.node_rules.specs.OpenTxs.{add, held_by, pending_of, waits_as}
use Rattle.node_rules.specs.OwnerRule.{put_change, into_slot, has_room}
use Rattle.node_rules.specs.Work.{HomeWork, Goes, Differs, with_pool, write_page, write_copy, write_back, read_page}
use Rattle.step_laws.proofs.Outcomes.{On, on_then, on_so, on_any}
use Rattle.page_relation.specs.Work.Letting.{CalledBy}

module _ (n : ℕ) (d : Disk) where
  -- one page more
  pub pushed : (pages : List (List ℕ)) (calls : List DiskCall) (p : ℕ) (bytes : List ℕ) → pages ≡ (all_done n d calls).pages
      → slice_set pages p bytes ≡ (all_done n d (calls ++ WritePage p bytes ∷ [])).pages
  unfolding done
  pushed pages calls p bytes is =
      ap (λ (ps : List (List ℕ)). slice_set ps p bytes) is ∙ sym (ap (λ (x : Disk). x.pages) (fold-append (done n) d calls (WritePage p bytes ∷ [])))

  -- frames
  pub back_called : (p : ℕ) (w : HomeWork) → CalledBy n d w → CalledBy n d (write_back p w)
  unfolding write_back
  back_called p w b = by (copy_at w.home.pool p)
    where
      dirty : (x : Bool) (c : Copy) → CalledBy n d (pick x (record (write_page p (record { version = c.version; bytes = c.bytes }) w) { home = with_pool w.home (clean w.home.pool p) }) w)
      dirty true c = pushed w.pages w.calls p (stored_bytes p (record { version = c.version; bytes = c.bytes })) b
      dirty false c = b

      by : (o : Option Copy) → CalledBy n d (write_copy p o w)
      by None = b
      by (Some c) = dirty c.dirty c

  gone_called : (o : Option Slot) (w : HomeWork) → CalledBy n d w → CalledBy n d (let_go o w)
  gone_called None w b = b
  gone_called (Some s) w b = back_called s.page w b

  pub room_called : (keep : ℕ) (w : HomeWork) → CalledBy n d w → CalledBy n d (make_room keep w)
  unfolding make_room
  room_called keep w b = by (nat_lt 0 (free_frames w.home.pool))
    where
      by : (x : Bool) → CalledBy n d (pick x w (let_go (victim w.home.pool keep) w))
      by true = b
      by false = gone_called (victim w.home.pool keep) w b

  slot_called : (p : ℕ) (w : HomeWork) → CalledBy n d w → CalledBy n d (take_slot p w)
  unfolding take_slot
  slot_called p w b = by (has_slot w.home.pool p)
    where
      by : (x : Bool) → CalledBy n d (pick x w (on_pool (λ q. place q p) (make_room p w)))
      by true = b
      by false = room_called p w b

  private_called : (t : TxId) (p : ℕ) (o : Option (ℕ × List ℕ)) (w : HomeWork) → CalledBy n d w → CalledBy n d (take_private t p o w)
  unfolding take_private
  private_called t p None w b = b
  private_called t p (Some x) w b = by (has_private w.home.pool t p)
    where
      by : (x : Bool) → CalledBy n d (pick x w (on_pool (λ q. private q t p) (make_room p w)))
      by true = b
      by false = room_called p w b

  pinned_called : (t : TxId) (p : ℕ) (w : HomeWork) → CalledBy n d w → CalledBy n d (pin_once t p w)
  pinned_called t p w b = by (is_some (held_by w.home.txs t p))
    where
      by : (x : Bool) → CalledBy n d (pick x w (on_pool (λ q. pin q p) w))
      by true = b
      by false = b

  pub frames_called : (a : Access) (w : HomeWork) → CalledBy n d w → CalledBy n d (take_frames a w)
  unfolding take_frames
  frames_called a w b = pinned_called a.tx a.page (take_private a.tx a.page a.write (take_slot a.page w)) (private_called a.tx a.page a.write (take_slot a.page w) (slot_called a.page w b))

  -- accesses
  pub performed_called : (t : TxId) (p : ℕ) (o : Option (ℕ × List ℕ)) (w : HomeWork) → CalledBy n d w → CalledBy n d (perform t p o w).work
  unfolding perform
  performed_called t p None w b = b
  performed_called t p (Some x) w b = b

  pub access_called : (a : Access) (owned : Bool) (w : HomeWork) → CalledBy n d w → CalledBy n d (access a owned w).work
  unfolding access access_in
  access_called a owned w b = by (is_held a f.home) (is_allowed a owned f.home)
    where
      f : HomeWork
      f = take_frames a w

      got : CalledBy n d f
      got = frames_called a w b

      by : (x y : Bool) → CalledBy n d (pick x (now_done (perform a.tx a.page a.write f))
          (pick y (now_done (perform a.tx a.page None (record f { home = under_right a.tx a.page f.home })))
          (record { next = next_of a owned (find f.home.pool a.page); work = record f { home = waiting a f.home } }))).work
      by true y = performed_called a.tx a.page a.write f got
      by false true = performed_called a.tx a.page None (record f { home = under_right a.tx a.page f.home }) got
      by false false = got

  -- grants
  bring_called : (p v : ℕ) (image : Option (List ℕ)) (w : HomeWork) → CalledBy n d w → On (CalledBy n d) (bring p v image w)
  unfolding bring
  bring_called p v image w b = by (is_version (find w.home.pool p) v) image
    where
      disk : (at : PageAt) (x : Bool) → On (CalledBy n d) (pick x (Goes (on_pool (λ q. install q p (clean_copy at)) w)) (Differs p v at.version))
      disk at true = b
      disk at false = tt

      by : (x : Bool) (o : Option (List ℕ)) → On (CalledBy n d) (unless_current x p v o w)
      by true o = b
      by false (Some bytes) = b
      by false None =
          on_then (λ (at : PageAt). ⊤) (CalledBy n d) (read_page w.pages p) (from_disk p v w) (on_any (read_page w.pages p)) (λ at any. disk at (at.version == v))

  pub granted_called : (t : TxId) (l : Held) (v : ℕ) (image : Option (List ℕ)) (w : HomeWork) → CalledBy n d w → On (λ (g : Granted). CalledBy n d g.work) (granted t l v image w)
  unfolding granted
  granted_called t l v image w b =
      on_so (CalledBy n d) (λ (g : Granted). CalledBy n d g.work) (bring l.page v image w) (locked t l (write_of (pending_of w.home.txs t))) (bring_called l.page v image w b)
      (λ x c. performed_called t l.page (write_of (pending_of w.home.txs t)) (record x { home = record (x.home) { txs = add x.home.txs t l } }) c)

  pub arrived_called : (g : Grant) (owned : Bool) (w : HomeWork) → CalledBy n d w → On (λ (a : Arrived). CalledBy n d a.work) (on_grant g owned w)
  unfolding on_grant
  arrived_called g owned w b = by (waits_as (pending_of w.home.txs g.tx) g.page g.mode)
    where
      shelved : HomeWork
      shelved = record w { home = record (w.home) { shelf = shelf_after g w.home.shelf } }

      by : (x : Bool) → On (λ (a : Arrived). CalledBy n d a.work) (arrive x g owned shelved)
      by false = b
      by true =
          on_so (λ (x : Granted). CalledBy n d x.work) (λ (a : Arrived). CalledBy n d a.work) _ arrived
          (granted_called g.tx (record { page = g.page; mode = g.mode; kind = kind_of owned g.right }) g.version (image_of g.copy)
          (record shelved { home = record (shelved.home) { shelf = readers_after g shelved.home.shelf } }) b)
          (λ x c. c)

  -- a change
  pub changed_called : (p : ℕ) (c : Change) (w : HomeWork) → CalledBy n d w → CalledBy n d (put_change p c w)
  changed_called p c w b = by (has_slot w.home.pool p) (free_frames w.home.pool == 0) (has_room p w)
    where
      by : (x y z : Bool) → CalledBy n d (pick x (into_slot p c w) (pick y (pick z (into_slot p c (on_pool (λ q. place q p) (make_room p w))) (write_page p (record { version = c.version; bytes = c.image }) w)) (into_slot p c (on_pool (λ q. place q p) w))))
      by true y z = b
      by false true true = room_called p w b
      by false true false = pushed w.pages w.calls p (stored_bytes p (record { version = c.version; bytes = c.image })) b
      by false false z = b
