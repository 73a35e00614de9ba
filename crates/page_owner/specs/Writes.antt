-- The stored pages as changing calls leave them.
use Rattle.std.specs.Prelude.{ℕ, List, slice_set}
use Rattle.std.specs.List.{fold}
use Rattle.node_rules.specs.DiskCalls.{DiskCall, WritePage}

-- the pages after a call, and after some calls
abbrev pub page_done : List (List ℕ) → DiskCall → List (List ℕ)
page_done l (WritePage p bytes) = slice_set l p bytes
page_done l call = l

abbrev pub after_calls : List (List ℕ) → List DiskCall → List (List ℕ)
after_calls pages calls = fold page_done pages calls
