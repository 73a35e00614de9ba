-- The ledger that a trace leaves, where each of its sends has a cause.
use Rattle.std.specs.Prelude.{◌≡◌, List, [], ◌∷◌, ◌++◌, Option, Some, None}
use Rattle.pcl_base.specs.Limits.{Sizes}
use Rattle.pcl_base.specs.declared.trace.Entry.{Entry}
use Rattle.run_rules.specs.Account.{IsAccounted, after_entry}
use Rattle.run_rules.specs.Ledger.{Ledger, first_ledger}

-- the rest of a trace, where there is a ledger
abbrev pub and_then : Option Ledger → (Ledger → Option Ledger) → Option Ledger
and_then None further = None
and_then (Some l) further = further l

-- the ledger after some entries
unfoldable pub ledger_after : List Entry → Ledger → Option Ledger
ledger_after [] l = Some l
ledger_after (e ∷ es) l = and_then (after_entry e l) (ledger_after es)

-- a trace leaves this ledger
abbrev pub Leaves : Sizes → List Entry → Ledger → Type 0
Leaves c trace l = ledger_after trace (first_ledger c) ≡ Some l

-- A trace that leaves a ledger is accounted for.
abbrev pub LedgersAccount : Type 0
LedgersAccount = (c : Sizes) (trace : List Entry) (l : Ledger) → Leaves c trace l → IsAccounted c trace

-- A further entry whose sends have their causes leaves the ledger after it.
abbrev pub LedgersGoOn : Type 0
LedgersGoOn = (c : Sizes) (trace : List Entry) (e : Entry) (l m : Ledger) → Leaves c trace l → after_entry e l ≡ Some m → Leaves c (trace ++ e ∷ []) m

-- And no other.
abbrev pub LedgersAreOne : Type 0
LedgersAreOne = (c : Sizes) (trace : List Entry) (e : Entry) (l m : Ledger) → Leaves c trace l → Leaves c (trace ++ e ∷ []) m → after_entry e l ≡ Some m
