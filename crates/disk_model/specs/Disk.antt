-- What a storage shows of its content, and what its calls do to that.
use Rattle.std.specs.Prelude.{◌≡◌, ◌≢◌, ℕ, ◌+◌, ◌<◌, ◌≤◌, List, [], ◌++◌, length, take, drop, All, Option, IfSome, slice_get, slice_index, slice_index_or, slice_set}
use Rattle.std.specs.Option.{option_map, option_and_then}
use Rattle.pcl_base.specs.Limits.{Sizes}

-- stored pages, logs, or spare rooms of logs, where the storage tells them
abbrev pub Pages : Type 0
Pages = Option (List (List ℕ))

abbrev pub Logs : Type 0
Logs = Option (List (List ℕ))

abbrev pub Rooms : Type 0
Rooms = Option (List ℕ)

-- what stands at a number, where it is told
abbrev pub told_at : {X : Type 0} → Option (List X) → ℕ → Option X
told_at xs n = option_and_then (λ l. slice_get l n) xs

-- the number is one of the list's, where that is told
abbrev pub IsIn : {X : Type 0} → Option (List X) → ℕ → Type 0
IsIn xs n = IfSome xs (λ l. n < length l)

-- these are the told bytes
abbrev pub AreBytes : Option (List ℕ) → List ℕ → Type 0
AreBytes o bytes = IfSome o (λ b. b ≡ bytes)

-- so many bytes are there
abbrev pub HasLength : Option (List ℕ) → ℕ → Type 0
HasLength o n = IfSome o (λ b. length b ≡ n)

-- at least so many bytes are there
abbrev pub ReachesTo : Option (List ℕ) → ℕ → Type 0
ReachesTo o n = IfSome o (λ b. n ≤ length b)

-- the spare room of a log is at least n
abbrev pub HasRoom : Rooms → ℕ → ℕ → Type 0
HasRoom rooms node n = IfSome rooms (λ l. n ≤ slice_index l node)

-- so many logs have a spare room
abbrev pub AreRooms : Rooms → ℕ → Type 0
AreRooms rooms n = IfSome rooms (λ l. length l ≡ n)

-- no spare room is lower than before, and none is gone
pub record NotLowered (old new : Rooms) : Type 0 where
  pub kept : (node n : ℕ) → HasRoom old node n → HasRoom new node n
  pub many : (n : ℕ) → AreRooms old n → AreRooms new n

-- the spare room of one log is lower by k at most, and that of no other; none is gone
pub record LoweredAtMost (old new : Rooms) (node k : ℕ) : Type 0 where
  pub many : (n : ℕ) → AreRooms old n → AreRooms new n
  pub named : (n : ℕ) → HasRoom old node (n + k) → HasRoom new node n
  pub others : (other n : ℕ) → other ≢ node → HasRoom old other n → HasRoom new other n

-- the pages after a write
abbrev pub with_page : Pages → ℕ → List ℕ → Pages
with_page pages p bytes = option_map (λ l. slice_set l p bytes) pages

-- the logs with one of them changed
abbrev pub with_log : Logs → ℕ → (List ℕ → List ℕ) → Logs
with_log logs node change = option_map (λ l. slice_set l node (change (slice_index_or l node []))) logs

-- the logs after a force
abbrev pub with_appended : Logs → ℕ → List ℕ → Logs
with_appended logs node bytes = with_log logs node (λ b. b ++ bytes)

-- the logs after a trim: the first `keep` bytes stay
abbrev pub with_trimmed : Logs → ℕ → ℕ → Logs
with_trimmed logs node keep = with_log logs node (λ b. take keep b)

-- the logs after a cut: the first `count` bytes are gone
abbrev pub with_cut : Logs → ℕ → ℕ → Logs
with_cut logs node count = with_log logs node (λ b. drop count b)

-- a prefix of the bytes was appended
pub record AppendsPrefix (old new : Logs) (node : ℕ) (bytes : List ℕ) : Type 0 where
  pub count : ℕ
  pub most : count ≤ length bytes
  pub same : new ≡ with_appended old node (take count bytes)

-- P pages of B + 16 bytes, where pages are told, and N logs and rooms, where these are told
pub record HasSizes (c : Sizes) (pages : Pages) (logs : Logs) (rooms : Rooms) : Type 0 where
  pub pages_told : IfSome pages (λ l. (length l ≡ c.pages) × All (λ b. length b ≡ c.size + 16) l)
  pub logs_told : IfSome logs (λ l. length l ≡ c.nodes)
  pub rooms_told : AreRooms rooms c.nodes
