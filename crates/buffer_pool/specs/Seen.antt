-- What is seen of a buffer: its slots by last use and its private copies, with their images.
use Rattle.std.specs.Prelude.{◌≡◌, ℕ, List, [], length, Option, Some, None, Bool, true, false, slice_index_or}
use Rattle.node_rules.specs.BufferRule.{Pool, Copy, PrivateCopy, Slot as SlotRow}
use Rattle.buffer_pool.specs.declared.uses.Use.{Use}
use Rattle.buffer_pool.specs.declared.uses.Use.TheVariants.{Free, Slot, Private}
use Rattle.buffer_pool.specs.declared.uses.Content.{Content}
use Rattle.buffer_pool.specs.Entries.{Entries, IsTable, rows, rows_back}
use Rattle.buffer_pool.specs.Images.{ImagesView, IsSized}

-- the image in a frame
abbrev pub image_at : List (List ℕ) → ℕ → List ℕ
image_at images k = slice_index_or images k []

-- a copy with its bytes
abbrev pub copy_seen : List ℕ → Option Content → Option Copy
copy_seen bytes None = None
copy_seen bytes (Some c) = Some (record { version = c.version; bytes = bytes; dirty = c.dirty })

-- the slot in a frame
abbrev pub slot_of_use : List ℕ → Use → Option SlotRow
slot_of_use bytes Free = None
slot_of_use bytes (Slot s) = Some (record { page = s.page; copy = copy_seen bytes s.content; pins = s.pins })
slot_of_use bytes (Private x) = None

abbrev pub slot_seen : List (List ℕ) → ℕ × Use → Option SlotRow
slot_seen images e = slot_of_use (image_at images e.0) e.1

-- the content of a private copy that was filled
abbrev pub if_filled : Bool → List ℕ → Option (List ℕ)
if_filled true bytes = Some bytes
if_filled false bytes = None

-- the private copy in a frame
abbrev pub private_of_use : List ℕ → Use → Option PrivateCopy
private_of_use bytes Free = None
private_of_use bytes (Slot s) = None
private_of_use bytes (Private x) = Some (record { tx = x.tx; page = x.page; bytes = if_filled x.filled bytes })

abbrev pub private_seen : List (List ℕ) → ℕ × Use → Option PrivateCopy
private_seen images e = private_of_use (image_at images e.0) e.1

-- the pool of the buffer rule that images and entries make
abbrev pub pool_of : ImagesView → Entries → Pool
pool_of v es =
    record {
      frames = length es;
      size = v.size;
      slots = rows (slot_seen v.images) es;
      privates = rows_back (private_seen v.images) es;
    }

-- there is an image for each frame, of the size of a page
pub record IsSound (v : ImagesView) (es : Entries) : Type 0 where
  pub table : IsTable es
  pub many : length v.images ≡ length es
  pub sized : IsSized v
