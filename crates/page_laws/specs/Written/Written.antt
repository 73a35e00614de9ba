-- What a transaction wrote of a page: the runs of places outside which its private copy is the page before.
use Rattle.std.specs.Prelude.{◌≡◌, ℕ, ◌+◌, ◌≤◌, ◌&&◌, nat_lt, nat_le, Bool, false, List, [], length, slice_index_or, Some}
use Rattle.std.specs.List.{list_any}
use Rattle.pcl_base.specs.declared.tx.TxId.{TxId}
use Rattle.text_rules.specs.ChangedRanges as text
use Rattle.node_rules.specs.BufferRule.{private_bytes}
use Rattle.node_rules.specs.EndRule.{logged}
use Rattle.node_rules.specs.NodeState.{HomeState, Run, cover, runs_at}
use Rattle.home_laws.specs.Homes.{AreRuns}
use Rattle.page_protocol.specs.Bytes.{put, put_all}
use Rattle.page_laws.specs.Storage.Looks.{ranges_of_part}

-- whether a place lies in one of some runs
abbrev pub is_inside : List Run → ℕ → Bool
is_inside runs i = list_any (λ r. nat_le r.from i && nat_lt i r.to) runs

-- A page differs from an earlier one of its length within these runs alone.
pub record DiffersWithin (runs : List Run) (before after : List ℕ) : Type 0 where
  pub long : length after ≡ length before
  pub outside : (i : ℕ) → is_inside runs i ≡ false → slice_index_or after i 0 ≡ slice_index_or before i 0

-- A page doesn't differ from itself.
abbrev pub NothingDiffers : Type 0
NothingDiffers = (page : List ℕ) → DiffersWithin [] page page

-- A piece is put into a page as the machine of one page puts it.
abbrev pub PieceIsPut : Type 0
PieceIsPut = (place : ℕ) (piece page : List ℕ) → text.put place piece page ≡ put place piece page

-- After a piece within the page its places may differ too.
abbrev pub PieceDiffers : Type 0
PieceDiffers =
    (runs : List Run) (before page : List ℕ) (place : ℕ) (piece : List ℕ) → place + length piece ≤ length page → DiffersWithin runs before page
    → DiffersWithin (cover runs place (place + length piece)) before (put place piece page)

-- What a commit logs of a page, put over the page before, gives the private copy.
abbrev pub LoggedIsPut : Type 0
LoggedIsPut =
    (h : HomeState) (t : TxId) (p : ℕ) (before image : List ℕ) → private_bytes h.pool t p ≡ Some image → AreRuns (length before) 0 (runs_at h.written t p)
    → DiffersWithin (runs_at h.written t p) before image → put_all (ranges_of_part (logged h t p).part) before ≡ image
