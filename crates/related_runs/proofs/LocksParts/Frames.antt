-- Frames, ends and copies leave the locks of open transactions as they are, or take some away.
use Rattle.std.proofs.Common.{ℕ, nat_lt, ◌==◌, Bool, true, false, List, Option, Some, None, is_some}
use Rattle.std.specs.Prelude.{⊤}
use Rattle.pcl_base.specs.declared.lock.Kind.TheVariants as kind
use Rattle.pcl_base.specs.declared.message.Change.{Change}
use Rattle.pcl_base.specs.declared.reply.Reply.{Reply}
use Rattle.pcl_base.specs.declared.tx.TxId.{TxId}
use Rattle.text_rules.specs.StoredPage.{PageAt}
use Rattle.node_rules.specs.Words.{pick}
use Rattle.node_rules.specs.AccessRule.{Access, on_pool, let_go, make_room, take_slot, take_private, pin_once, take_frames, perform, from_disk, unless_current, bring, clean_copy, answer_with, on_revoke}
use Rattle.node_rules.specs.BufferRule.{Pool, Copy, Slot, copy_at, has_slot, free_frames, victim, has_private, find, place, private, pin, install, clean}
use Rattle.node_rules.specs.CopyRule.{is_version}
use Rattle.node_rules.specs.EndRule.{closed, publish_all, abort, commit}
use Rattle.node_rules.specs.InstallRule.{write_newer}
use Rattle.node_rules.specs.NodeState.{HomeState}
use Rattle.node_rules.specs.OpenTxs.{held_by}
use Rattle.node_rules.specs.OwnerRule.{put_change, into_slot, has_room}
use Rattle.node_rules.specs.Shelf.{right_on, Right}
use Rattle.node_rules.specs.Work.{HomeWork, Goes, Differs, with_pool, write_page, write_copy, write_back, read_page}
use Rattle.step_laws.proofs.Outcomes.{On, on_then, on_any}
use Rattle.related_runs.proofs.LocksParts.Marks.{Fine, kinds_set, closes}

module _ (node born : ℕ) (f : ℕ → Option (ℕ × List ℕ)) (Old : ℕ → ℕ → Type 0) (rs : List Reply) where
  -- a home's transactions, in short
  abbrev pub Kept : HomeState → Type 0
  Kept h = Fine node born f Old rs h

  abbrev pub WorkKept : HomeWork → Type 0
  WorkKept w = Kept w.home

  pub revoked_kept : (p : ℕ) (h : HomeState) → Kept h → Kept (on_revoke p h).home
  unfolding on_revoke
  revoked_kept p h all = by (right_on h.shelf p)
    where
      by : (o : Option Right) → Kept (answer_with p o h).home
      by None = all
      by (Some r) = kinds_set node born f Old rs h.txs _ p kind.Registered all

  pub closed_kept : (h : HomeState) (t : TxId) (b : Pool) → Kept h → Kept (closed h t b)
  unfolding closed
  closed_kept h t b all = closes node born f Old rs h.txs t all

  pub aborted_kept : (t : TxId) (w : HomeWork) → WorkKept w → WorkKept (abort t w).work
  unfolding abort
  aborted_kept t w all = closed_kept w.home t w.home.pool all

  pub committed_kept : (t : TxId) (w : HomeWork) → WorkKept w → WorkKept (commit t w).work
  unfolding commit
  committed_kept t w all = closed_kept w.home t (publish_all w.home t) all

  -- ---- frames

  pub back_kept : (p : ℕ) (w : HomeWork) → WorkKept w → WorkKept (write_back p w)
  unfolding write_back
  back_kept p w b = by (copy_at w.home.pool p)
    where
      dirty : (x : Bool) (c : Copy) → WorkKept (pick x (record (write_page p (record { version = c.version; bytes = c.bytes }) w) { home = with_pool w.home (clean w.home.pool p) }) w)
      dirty true c = b
      dirty false c = b

      by : (o : Option Copy) → WorkKept (write_copy p o w)
      by None = b
      by (Some c) = dirty c.dirty c

  gone_kept : (o : Option Slot) (w : HomeWork) → WorkKept w → WorkKept (let_go o w)
  gone_kept None w b = b
  gone_kept (Some s) w b = back_kept s.page w b

  room_kept : (keep : ℕ) (w : HomeWork) → WorkKept w → WorkKept (make_room keep w)
  unfolding make_room
  room_kept keep w b = by (nat_lt 0 (free_frames w.home.pool))
    where
      by : (x : Bool) → WorkKept (pick x w (let_go (victim w.home.pool keep) w))
      by true = b
      by false = gone_kept (victim w.home.pool keep) w b

  slot_kept : (p : ℕ) (w : HomeWork) → WorkKept w → WorkKept (take_slot p w)
  unfolding take_slot
  slot_kept p w b = by (has_slot w.home.pool p)
    where
      by : (x : Bool) → WorkKept (pick x w (on_pool (λ q. place q p) (make_room p w)))
      by true = b
      by false = room_kept p w b

  private_kept : (t : TxId) (p : ℕ) (o : Option (ℕ × List ℕ)) (w : HomeWork) → WorkKept w → WorkKept (take_private t p o w)
  unfolding take_private
  private_kept t p None w b = b
  private_kept t p (Some x) w b = by (has_private w.home.pool t p)
    where
      by : (x : Bool) → WorkKept (pick x w (on_pool (λ q. private q t p) (make_room p w)))
      by true = b
      by false = room_kept p w b

  pinned_kept : (t : TxId) (p : ℕ) (w : HomeWork) → WorkKept w → WorkKept (pin_once t p w)
  pinned_kept t p w b = by (is_some (held_by w.home.txs t p))
    where
      by : (x : Bool) → WorkKept (pick x w (on_pool (λ q. pin q p) w))
      by true = b
      by false = b

  pub frames_kept : (a : Access) (w : HomeWork) → WorkKept w → WorkKept (take_frames a w)
  unfolding take_frames
  frames_kept a w b = pinned_kept a.tx a.page _ (private_kept a.tx a.page a.write _ (slot_kept a.page w b))

  pub performed_kept : (t : TxId) (p : ℕ) (o : Option (ℕ × List ℕ)) (w : HomeWork) → WorkKept w → WorkKept (perform t p o w).work
  unfolding perform
  performed_kept t p None w b = b
  performed_kept t p (Some x) w b = b

  -- a page that is brought
  pub bring_kept : (p v : ℕ) (image : Option (List ℕ)) (w : HomeWork) → WorkKept w → On WorkKept (bring p v image w)
  unfolding bring
  bring_kept p v image w b = by (is_version (find w.home.pool p) v) image
    where
      disk : (at : PageAt) (x : Bool) → On WorkKept (pick x (Goes (on_pool (λ q. install q p (clean_copy at)) w)) (Differs p v at.version))
      disk at true = b
      disk at false = tt

      by : (x : Bool) (o : Option (List ℕ)) → On WorkKept (unless_current x p v o w)
      by true o = b
      by false (Some bytes) = b
      by false None =
          on_then (λ (at : PageAt). ⊤) WorkKept (read_page w.pages p) (from_disk p v w) (on_any (read_page w.pages p)) (λ at any. disk at (at.version == v))

  -- a change
  pub put_kept : (p : ℕ) (c : Change) (w : HomeWork) → WorkKept w → WorkKept (put_change p c w)
  put_kept p c w b = by (has_slot w.home.pool p) (free_frames w.home.pool == 0) (has_room p w)
    where
      by : (x y z : Bool) → WorkKept (pick x (into_slot p c w) (pick y (pick z (into_slot p c (on_pool (λ q. place q p) (make_room p w))) (write_page p (record { version = c.version; bytes = c.image }) w)) (into_slot p c (on_pool (λ q. place q p) w))))
      by true y z = b
      by false true true = room_kept p w b
      by false true false = b
      by false false z = b

  pub newer_kept : (x : Bool) (p : ℕ) (at : PageAt) (w : HomeWork) → WorkKept w → WorkKept (write_newer x p at w)
  newer_kept true p at w b = b
  newer_kept false p at w b = b
