-- What follows of the sizes of a storage: which numbers are in range, and how long a page is.
use Rattle.std.proofs.Common.{◌≡◌, sym, ap, ◌∙◌, subst, ℕ, ◌+◌, ◌<◌, List, [], length, All, Option, Some, None, IfSome, arith}
use Rattle.std.specs.Prelude.{slice_get, slice_index_or}
use Rattle.std.proofs.lemmas.Option.{slice_get-get_or}
use Rattle.pcl_base.specs.Limits.{Sizes}
use Rattle.disk_model.specs.Disk.{Pages, Logs, Rooms, told_at, IsIn, HasLength, HasSizes}

-- a node below N has a log
pub log_is_in : (c : Sizes) (pages : Pages) (logs : Logs) (rooms : Rooms) (n : ℕ) → HasSizes c pages logs rooms → n < c.nodes → IsIn logs n
log_is_in c pages None rooms n sizes below = tt
log_is_in c pages (Some l) rooms n sizes below = let count = sizes.logs_told in omega arith

-- and a spare room
pub room_is_in : (c : Sizes) (pages : Pages) (logs : Logs) (rooms : Rooms) (n : ℕ) → HasSizes c pages logs rooms → n < c.nodes → IsIn rooms n
room_is_in c pages logs None n sizes below = tt
room_is_in c pages logs (Some l) n sizes below = let count = sizes.rooms_told in omega arith

-- a page below P is stored
pub page_is_in : (c : Sizes) (pages : Pages) (logs : Logs) (rooms : Rooms) (p : ℕ) → HasSizes c pages logs rooms → p < c.pages → IsIn pages p
page_is_in c None logs rooms p sizes below = tt
page_is_in c (Some l) logs rooms p sizes below = let count = sizes.pages_told.0 in omega arith

-- in B + 16 bytes
pub page_has_length : (c : Sizes) (pages : Pages) (logs : Logs) (rooms : Rooms) (p n : ℕ) → HasSizes c pages logs rooms → p < c.pages → n ≡ c.size + 16 → HasLength (told_at pages p) n
page_has_length c None logs rooms p n sizes below is = tt
page_has_length c (Some l) logs rooms p n sizes below is =
    let count = sizes.pages_told.0 in
    let found = slice_get-get_or l p [] (omega arith) in
    let long = sizes.pages_told.1 p [] (omega arith) in
    subst (λ (o : Option (List ℕ)). HasLength o n) (sym found) (long ∙ sym is)
