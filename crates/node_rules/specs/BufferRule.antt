-- The buffer rule: slots by last use, private copies, and the frames that they take.
use Rattle.std.specs.Prelude.{ℕ, ◌+◌, ◌-◌, ◌==◌, ◌&&◌, ◌||◌, not, nat_le, Bool, true, false, List, [], ◌∷◌, ◌++◌, length, Option, Some, None, is_some}
use Rattle.std.specs.List.{filter}
use Rattle.pcl_base.specs.declared.tx.TxId.{TxId}
use Rattle.text_rules.specs.ChangedRanges.{put}
use Rattle.node_rules.specs.Words.{pick, same_tx, or_else}

-- the content of a slot: a page's version and bytes, and whether the disk lacks them
pub record Copy : Type 0 where
  pub version : ℕ
  pub bytes : List ℕ
  pub dirty : Bool

-- a slot of a page: a copy, or a place without content; and by how many transactions it is pinned
pub record Slot : Type 0 where
  pub page : ℕ
  pub copy : Option Copy
  pub pins : ℕ

-- a transaction's private copy of a page, without content until its write is granted
pub record PrivateCopy : Type 0 where
  pub tx : TxId
  pub page : ℕ
  pub bytes : Option (List ℕ)

-- a node's frames, the bytes of a page, the slots by last use, and the private copies
pub record Pool : Type 0 where
  pub frames : ℕ
  pub size : ℕ
  pub slots : List Slot
  pub privates : List PrivateCopy

-- a buffer in which every frame is free
abbrev pub open_pool : ℕ → ℕ → Pool
open_pool frames size = record { frames = frames; size = size; slots = []; privates = [] }

-- the frames that neither a slot nor a private copy has
abbrev pub free_frames : Pool → ℕ
free_frames b = b.frames - (length b.slots + length b.privates)

-- the slot of a page, and its copy
unfoldable pub slot_in : List Slot → ℕ → Option Slot
slot_in [] p = None
slot_in (s ∷ ss) p = pick (s.page == p) (Some s) (slot_in ss p)

-- the slot of a page in a buffer
abbrev pub slot_at : Pool → ℕ → Option Slot
slot_at b p = slot_in b.slots p

-- whether a page has a slot
abbrev pub has_slot : Pool → ℕ → Bool
has_slot b p = is_some (slot_at b p)

-- the copy in a slot, if any
abbrev pub copy_of_slot : Option Slot → Option Copy
copy_of_slot None = None
copy_of_slot (Some s) = s.copy

-- the copy of a page, if any
abbrev pub copy_at : Pool → ℕ → Option Copy
copy_at b p = copy_of_slot (slot_at b p)

-- the version of a copy
abbrev pub version_of_copy : Option Copy → Option ℕ
version_of_copy None = None
version_of_copy (Some c) = Some c.version

-- the bytes of a copy
abbrev pub bytes_of_copy : Option Copy → List ℕ
bytes_of_copy None = []
bytes_of_copy (Some c) = c.bytes

-- whether a copy is dirty
abbrev pub is_dirty_copy : Option Copy → Bool
is_dirty_copy None = false
is_dirty_copy (Some c) = c.dirty

-- the version of a page's copy
abbrev pub find : Pool → ℕ → Option ℕ
find b p = version_of_copy (copy_at b p)

-- whether a slot is pinned
abbrev pub is_pinned : Slot → Bool
is_pinned s = not (s.pins == 0)

-- the same of a slot that may be missing
abbrev pub pinned_slot : Option Slot → Bool
pinned_slot None = false
pinned_slot (Some s) = is_pinned s

-- whether a page's slot is pinned
abbrev pub pinned : Pool → ℕ → Bool
pinned b p = pinned_slot (slot_at b p)

-- whether a page's copy is dirty
abbrev pub dirty : Pool → ℕ → Bool
dirty b p = is_dirty_copy (copy_at b p)

-- whether a private copy is that of a transaction and a page
abbrev pub is_private : TxId → ℕ → PrivateCopy → Bool
is_private t p x = same_tx x.tx t && x.page == p

-- the private copy of a transaction and a page
unfoldable pub private_in : List PrivateCopy → TxId → ℕ → Option PrivateCopy
private_in [] t p = None
private_in (x ∷ xs) t p = pick (is_private t p x) (Some x) (private_in xs t p)

-- the same in a buffer
abbrev pub private_at : Pool → TxId → ℕ → Option PrivateCopy
private_at b t p = private_in b.privates t p

-- whether it is there
abbrev pub has_private : Pool → TxId → ℕ → Bool
has_private b t p = is_some (private_at b t p)

-- its bytes, once it was filled
abbrev pub bytes_of_private : Option PrivateCopy → Option (List ℕ)
bytes_of_private None = None
bytes_of_private (Some x) = x.bytes

-- the bytes of a private copy that was filled
abbrev pub private_bytes : Pool → TxId → ℕ → Option (List ℕ)
private_bytes b t p = bytes_of_private (private_at b t p)

-- the frames that an access needs: one where the page has no slot, and one more for a write without
-- a private copy
abbrev pub one_unless : Bool → ℕ
one_unless true = 0
one_unless false = 1

-- how many frames an access needs
abbrev pub need : Pool → TxId → ℕ → Bool → ℕ
need b t p write = one_unless (has_slot b p) + one_unless (not write || has_private b t p)

-- the unpinned slots of other pages
abbrev pub may_go : ℕ → Slot → Bool
may_go keep s = not (s.page == keep) && not (is_pinned s)

-- how many slots of other pages can go
abbrev pub can_go : Pool → ℕ → ℕ
can_go b keep = length (filter (may_go keep) b.slots)

-- whether an access finds its frames
unfoldable pub fits : Pool → TxId → ℕ → Bool → Bool
fits b t p write = nat_le (need b t p write) (free_frames b + can_go b p)

-- the victim: the last unpinned slot of another page
unfoldable pub last_to_go : List Slot → ℕ → Option Slot
last_to_go [] keep = None
last_to_go (s ∷ ss) keep = or_else (last_to_go ss keep) (pick (may_go keep s) (Some s) None)

-- the slot that goes for a page
abbrev pub victim : Pool → ℕ → Option Slot
victim b keep = last_to_go b.slots keep

-- the slots without that of a page
abbrev pub slots_without : List Slot → ℕ → List Slot
slots_without ss p = filter (λ s. not (s.page == p)) ss

-- the slots with a change of that of a page
unfoldable pub change_slot : (Slot → Slot) → List Slot → ℕ → List Slot
change_slot f [] p = []
change_slot f (s ∷ ss) p = pick (s.page == p) (f s) s ∷ change_slot f ss p

-- a new place stands in front
unfoldable pub place : Pool → ℕ → Pool
place b p = record b { slots = record { page = p; copy = None; pins = 0 } ∷ b.slots }

-- a frame for a private copy
unfoldable pub private : Pool → TxId → ℕ → Pool
private b t p = record b { privates = b.privates ++ record { tx = t; page = p; bytes = None } ∷ [] }

-- a page's slot moves to the front
abbrev pub in_front : Option Slot → List Slot → List Slot
in_front None ss = ss
in_front (Some s) ss = s ∷ slots_without ss s.page

-- a page's slot moves to the front
unfoldable pub touch : Pool → ℕ → Pool
touch b p = record b { slots = in_front (slot_at b p) b.slots }

-- one pin more; one pin less, and a place without pins is freed
unfoldable pub pin : Pool → ℕ → Pool
pin b p = record b { slots = change_slot (λ s. record s { pins = s.pins + 1 }) b.slots p }

-- whether a slot stays without pins
abbrev pub is_kept : Slot → Bool
is_kept s = is_some s.copy || is_pinned s

-- the slots that stay
abbrev pub free_places : List Slot → List Slot
free_places ss = filter is_kept ss

-- one pin less
unfoldable pub unpin : Pool → ℕ → Pool
unpin b p = record b { slots = free_places (change_slot (λ s. record s { pins = s.pins - 1 }) b.slots p) }

-- a page's slot gets a copy
unfoldable pub install : Pool → ℕ → Copy → Pool
install b p c = record b { slots = change_slot (λ s. record s { copy = Some c }) b.slots p }

-- a page's copy is on disk
abbrev pub cleaned : Option Copy → Option Copy
cleaned None = None
cleaned (Some c) = Some (record c { dirty = false })

-- the copy of a page is clean
unfoldable pub clean : Pool → ℕ → Pool
clean b p = record b { slots = change_slot (λ s. record s { copy = cleaned s.copy }) b.slots p }

-- a page's slot leaves the buffer
unfoldable pub evict : Pool → ℕ → Pool
evict b p = record b { slots = slots_without b.slots p }

-- the private copies with other bytes in that of a transaction and a page
unfoldable pub change_private : (Option (List ℕ) → Option (List ℕ)) → List PrivateCopy → TxId → ℕ → List PrivateCopy
change_private f [] t p = []
change_private f (x ∷ xs) t p =
    pick (is_private t p x) (record x { bytes = f x.bytes }) x ∷ change_private f xs t p

-- the private copy gets the bytes of the page's copy
unfoldable pub fill : Pool → TxId → ℕ → Pool
fill b t p =
    record b { privates = change_private (λ old. Some (bytes_of_copy (copy_at b p))) b.privates t p }

-- bytes over a copy that was filled, from a place on
abbrev pub over_filled : ℕ → List ℕ → Option (List ℕ) → Option (List ℕ)
over_filled place bytes None = None
over_filled place bytes (Some page) = Some (put place bytes page)

-- bytes are put into a private copy
unfoldable pub change : Pool → TxId → ℕ → ℕ → List ℕ → Pool
change b t p place bytes =
    record b { privates = change_private (over_filled place bytes) b.privates t p }

-- a private copy is given up
unfoldable pub discard : Pool → TxId → ℕ → Pool
discard b t p = record b { privates = filter (λ x. not (is_private t p x)) b.privates }

-- the page's copy becomes the private copy at the next version
abbrev pub published : Bool → Option (List ℕ) → Option Copy → Option Copy
published dirty (Some bytes) (Some c) = Some (record { version = c.version + 1; bytes = bytes; dirty = dirty })
published dirty _ c = c

-- a private copy becomes the page's copy, and its frame is free
unfoldable pub publish : Pool → TxId → ℕ → Bool → Pool
publish b t p dirty =
    discard (record b { slots = change_slot (λ s. record s { copy = published dirty (private_bytes b t p) s.copy }) b.slots p }) t p
