-- How the open transactions stand under their serials.
use Rattle.std.specs.Prelude.{◌≡◌, ℕ, ◌<◌, ◌≤◌, List, [], ◌∷◌, Option, Some}
use Rattle.node_rules.specs.OpenTxs.{OpenTx, OpenTxs}

-- each transaction stands under its own serial, and serials rise from above the lowest to the last
abbrev pub IsLinked : ℕ → ℕ → List (ℕ × OpenTx) → Type 0
IsLinked low last [] = Unit {0}
IsLinked low last (e ∷ es) =
    (low < e.0) × (e.0 ≤ last) × (e.1.serial ≡ e.0) × IsLinked e.0 last es

-- the serials of transactions rise from above the lowest to the last
abbrev pub IsRising : ℕ → ℕ → List OpenTx → Type 0
IsRising low last [] = Unit {0}
IsRising low last (x ∷ xs) = (low < x.serial) × (x.serial ≤ last) × IsRising x.serial last xs

-- what holds of the open transactions of every node: their serials rise, from 1 to the last that was
-- given, so each serial stands once
abbrev pub IsNumbered : OpenTxs → Type 0
IsNumbered s = IsRising 0 s.last s.txs

-- each of these transactions is the one that a look by its serial finds
abbrev pub AllAt : (ℕ → Option OpenTx) → List OpenTx → Type 0
AllAt look [] = Unit {0}
AllAt look (x ∷ xs) = (look x.serial ≡ Some x) × AllAt look xs
