-- The open transactions in their slots, found by serial.
use Rattle.std.specs.Prelude.{◌≢◌, ℕ, List, [], ◌∷◌, Option, None, Some, IsSome, slice_index_or}
use Rattle.node_rules.specs.OpenTxs.{OpenTx}

-- what stands in a slot
abbrev pub slot : List (Option OpenTx) → ℕ → Option OpenTx
slot slots k = slice_index_or slots k None

-- a serial and its transaction, before those of later ones
abbrev pub row : ℕ → Option OpenTx → List (ℕ × OpenTx) → List (ℕ × OpenTx)
row serial None rest = rest
row serial (Some x) rest = (serial, x) ∷ rest

-- the transactions by serial, from the slot of each serial
abbrev pub rows : List (Option OpenTx) → List (ℕ × ℕ) → List (ℕ × OpenTx)
rows slots [] = []
rows slots (e ∷ es) = row e.0 (slot slots e.1) (rows slots es)

-- no serial has this slot
abbrev pub IsFree : ℕ → List (ℕ × ℕ) → Type 0
IsFree k [] = Unit {0}
IsFree k (e ∷ es) = (e.1 ≢ k) × IsFree k es

-- each serial has a slot of its own, in which a transaction stands
abbrev pub HasSlots : List (Option OpenTx) → List (ℕ × ℕ) → Type 0
HasSlots slots [] = Unit {0}
HasSlots slots (e ∷ es) = IsSome (slot slots e.1) × IsFree e.1 es × HasSlots slots es
