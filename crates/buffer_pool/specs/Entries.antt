-- The frames of a buffer by last use: each frame's number, and what it is used for.
use Rattle.std.specs.Prelude.{◌≡◌, ℕ, zero, suc, ◌+◌, ◌≤◌, ◌<◌, ◌==◌, ◌&&◌, not, cond, nat_eq, Bool, true, false, List, [], ◌∷◌, ◌++◌, length, Option, Some, None, is_some}
use Rattle.std.specs.List.{AllByRecursion, IsDistinct}
use Rattle.std.specs.Map.{lookup, remove_entry, keys_of}
use Rattle.pcl_base.specs.declared.tx.TxId.{TxId}
use Rattle.node_rules.specs.Words.{or_else, same_tx}
use Rattle.buffer_pool.specs.declared.uses.Use.{Use}
use Rattle.buffer_pool.specs.declared.uses.Use.TheVariants.{Free, Slot, Private}
use Rattle.buffer_pool.specs.declared.uses.SlotUse.{SlotUse}
use Rattle.buffer_pool.specs.declared.uses.PrivateUse.{PrivateUse}

-- the frames, the one that was used last first
abbrev pub Entries : Type 0
Entries = List (ℕ × Use)

-- the items that the entries give, in their order
abbrev pub with_item : {R : Type 0} → Option R → List R → List R
with_item None rs = rs
with_item (Some r) rs = r ∷ rs

unfoldable pub rows : {R : Type 0} → (ℕ × Use → Option R) → Entries → List R
rows g [] = []
rows g (e ∷ es) = with_item (g e) (rows g es)

-- the same, the last one first
abbrev pub item_list : {R : Type 0} → Option R → List R
item_list None = []
item_list (Some r) = r ∷ []

unfoldable pub rows_back : {R : Type 0} → (ℕ × Use → Option R) → Entries → List R
rows_back g [] = []
rows_back g (e ∷ es) = rows_back g es ++ item_list (g e)

-- the first item, and the last one
unfoldable pub first_row : {R : Type 0} → (ℕ × Use → Option R) → Entries → Option R
first_row g [] = None
first_row g (e ∷ es) = or_else (g e) (first_row g es)

unfoldable pub last_row : {R : Type 0} → (ℕ × Use → Option R) → Entries → Option R
last_row g [] = None
last_row g (e ∷ es) = or_else (last_row g es) (g e)

-- how many frames have a use that passes
unfoldable pub count : (Use → Bool) → Entries → ℕ
count test [] = 0
count test (e ∷ es) = cond (test e.1) 1 0 + count test es

-- whether a frame is free
abbrev pub is_free : Use → Bool
is_free Free = true
is_free (Slot s) = false
is_free (Private x) = false

-- whether a frame is the slot of a page
abbrev pub is_slot_of : ℕ → Use → Bool
is_slot_of p Free = false
is_slot_of p (Slot s) = s.page == p
is_slot_of p (Private x) = false

-- whether a frame is the private copy of a transaction and a page
abbrev pub is_private_of : TxId → ℕ → Use → Bool
is_private_of t p Free = false
is_private_of t p (Slot s) = false
is_private_of t p (Private x) = same_tx x.tx t && x.page == p

-- whether a frame is an unpinned slot
abbrev pub is_loose : Use → Bool
is_loose Free = false
is_loose (Slot s) = s.pins == 0
is_loose (Private x) = false

-- whether a frame is the unpinned slot of another page
abbrev pub goes_for : ℕ → Use → Bool
goes_for keep Free = false
goes_for keep (Slot s) = not (s.page == keep) && (s.pins == 0)
goes_for keep (Private x) = false

-- whether a frame is a place without a pin
abbrev pub is_bare : Use → Bool
is_bare Free = false
is_bare (Slot s) = not (is_some s.content) && (s.pins == 0)
is_bare (Private x) = false

-- the slot of a page in a frame, with the frame's number
abbrev pub slot_if : Bool → ℕ → SlotUse → Option (ℕ × SlotUse)
slot_if true k s = Some (k, s)
slot_if false k s = None

abbrev pub slot_in_use : ℕ → ℕ → Use → Option (ℕ × SlotUse)
slot_in_use p k Free = None
slot_in_use p k (Slot s) = slot_if (s.page == p) k s
slot_in_use p k (Private x) = None

abbrev pub slot_here : ℕ → ℕ × Use → Option (ℕ × SlotUse)
slot_here p e = slot_in_use p e.0 e.1

-- the private copy of a transaction and a page in a frame
abbrev pub private_if : Bool → ℕ → PrivateUse → Option (ℕ × PrivateUse)
private_if true k x = Some (k, x)
private_if false k x = None

abbrev pub private_in_use : TxId → ℕ → ℕ → Use → Option (ℕ × PrivateUse)
private_in_use t p k Free = None
private_in_use t p k (Slot s) = None
private_in_use t p k (Private x) = private_if (same_tx x.tx t && x.page == p) k x

abbrev pub private_here : TxId → ℕ → ℕ × Use → Option (ℕ × PrivateUse)
private_here t p e = private_in_use t p e.0 e.1

-- the page of a slot that can go
abbrev pub page_if : Bool → ℕ → Option ℕ
page_if true p = Some p
page_if false p = None

abbrev pub page_in_use : ℕ → Use → Option ℕ
page_in_use keep Free = None
page_in_use keep (Slot s) = page_if (not (s.page == keep) && (s.pins == 0)) s.page
page_in_use keep (Private x) = None

abbrev pub page_to_go : ℕ → ℕ × Use → Option ℕ
page_to_go keep e = page_in_use keep e.1

-- a use, and the same where it is a place without a pin, which is freed
abbrev pub freed_if : Bool → Use → Use
freed_if true u = Free
freed_if false u = u

abbrev pub freed : ℕ × Use → ℕ × Use
freed e = (e.0, freed_if (is_bare e.1) e.1)

-- the use of a frame, if it is one of the buffer's
abbrev pub use_at : Entries → ℕ → Option Use
use_at es k = lookup (nat_eq k) es

-- a free frame comes into use, in front
abbrev pub TakesFree : Entries → Use → Entries → Type 0
TakesFree old u new = (k : ℕ) × (use_at old k ≡ Some Free) × (new ≡ (k, u) ∷ remove_entry (nat_eq k) old)

-- what holds of the entries of every buffer
pub record IsTable (es : Entries) : Type 0 where
  pub distinct : IsDistinct nat_eq (keys_of es)
  pub below : AllByRecursion (λ e. e.0 < length es) es
  pub frames : (1 ≤ length es) × (length es ≤ 4096)
  pub one_slot : (p : ℕ) → count (is_slot_of p) es ≤ 1
  pub one_private : (t : TxId) (p : ℕ) → count (is_private_of t p) es ≤ 1

-- the page of a slot, and the transaction and page of a private copy
abbrev pub slot_page : Option Use → Option ℕ
slot_page None = None
slot_page (Some Free) = None
slot_page (Some (Slot s)) = Some s.page
slot_page (Some (Private x)) = None

abbrev pub private_owner : Option Use → Option (TxId × ℕ)
private_owner None = None
private_owner (Some Free) = None
private_owner (Some (Slot s)) = None
private_owner (Some (Private x)) = Some (x.tx, x.page)

-- whether a frame is there and isn't free
abbrev pub is_used : Option Use → Bool
is_used None = false
is_used (Some u) = not (is_free u)

-- all frames are free
unfoldable pub fresh : ℕ → Entries
fresh zero = []
fresh (suc n) = (n, Free) ∷ fresh n
