-- How the table of a buffer keeps its frames.
use Rattle.std.specs.Prelude.{◌≡◌, ℕ, ◌+◌, ◌*◌, ◌<◌, ◌≤◌, nat_eq, cond, map, Bool, true, false, List, length, Option, Some, None}
use Rattle.std.specs.List.{AllByRecursion, IsDistinct}
use Rattle.std.specs.Map.{lookup, keys_of}
use Rattle.pcl_base.specs.declared.tx.TxId.{TxId}
use Rattle.buffer_pool.specs.declared.uses.Use.{Use}
use Rattle.buffer_pool.specs.declared.uses.Use.TheVariants.{Free, Slot, Private}
use Rattle.buffer_pool.specs.declared.uses.Name.{Name}
use Rattle.buffer_pool.specs.declared.uses.Name.TheVariants.{Slot as SlotName, Private as PrivateName}
use Rattle.buffer_pool.specs.contracts.uses.NamePartialEq.TheImpl.{eq-value}
use Rattle.buffer_pool.specs.Entries.{Entries, count, is_free, is_loose, is_bare, use_at, freed}

-- the name of a private copy
abbrev pub private_name : TxId → ℕ → Name
private_name t p = PrivateName t.node t.born t.serial p

-- what a frame is found by
abbrev pub name_of : Use → Option Name
name_of Free = None
name_of (Slot s) = Some (SlotName s.page)
name_of (Private x) = Some (private_name x.tx x.page)

-- whether two names are the same, as the list of names compares them
abbrev pub same_name : Name → Name → Bool
same_name n m = (eq-value).it n m

-- a used frame is found by its name. What left may still be listed.
abbrev pub IsListed : List (Name × ℕ) → ℕ → Option Name → Type 0
IsListed names k None = Unit {0}
IsListed names k (Some n) = lookup (same_name n) names ≡ Some k

pub record IsKept (es : Entries) (names : List (Name × ℕ)) (free : List ℕ) (name_room room loose bare : ℕ) : Type 0 where
  pub distinct : IsDistinct nat_eq (keys_of es)
  pub below : AllByRecursion (λ e. e.0 < length es) es
  pub frames : (1 ≤ length es) × (length es ≤ 4096)
  pub listed : AllByRecursion (λ e. IsListed names e.0 (name_of e.1)) es
  pub free_use : AllByRecursion (λ k. use_at es k ≡ Some Free) free
  pub once : IsDistinct nat_eq free
  pub number : length free ≡ count is_free es
  pub names_fit : 2 * length es ≤ length names + name_room
  pub free_fits : length es ≤ room
  pub loose_number : loose ≡ count is_loose es
  pub bare_number : bare ≡ count is_bare es

-- the frame of a name, where it is
abbrev pub named_if : Bool → ℕ → Option ℕ
named_if true k = Some k
named_if false k = None

abbrev pub named_use : Name → ℕ → Option Name → Option ℕ
named_use n k None = None
named_use n k (Some m) = named_if (same_name n m) k

abbrev pub named_here : Name → ℕ × Use → Option ℕ
named_here n e = named_use n e.0 (name_of e.1)

-- the frames with one of them freed where it is a place without a pin
abbrev pub freed_at : ℕ → Entries → Entries
freed_at k es = map (λ e. cond (nat_eq k e.0) (freed e) e) es
