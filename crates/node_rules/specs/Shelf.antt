-- The rights of a node to read pages of others, in the order of their acceptance.
use Rattle.std.specs.Prelude.{ℕ, ◌==◌, not, Bool, false, List, [], ◌∷◌, ◌++◌, Option, Some, None, is_some}
use Rattle.std.specs.List.{filter}
use Rattle.pcl_base.specs.declared.tx.TxId.{TxId}
use Rattle.node_rules.specs.Words.{pick, same_tx, among}

-- a right: the page, the version that may be read, and the transactions that read under it in the
-- order in which they began to
pub record Right : Type 0 where
  pub page : ℕ
  pub version : ℕ
  pub readers : List TxId

-- the right of a page
unfoldable pub right_on : List Right → ℕ → Option Right
right_on [] p = None
right_on (r ∷ rs) p = pick (r.page == p) (Some r) (right_on rs p)

-- whether there is a right of a page at a version
abbrev pub is_at : Option Right → ℕ → Bool
is_at None v = false
is_at (Some r) v = r.version == v

-- whether a page may be read at a version
abbrev pub may_read : List Right → ℕ → ℕ → Bool
may_read rs p v = is_at (right_on rs p) v

-- a right is accepted where none of its page is there
unfoldable pub accept : List Right → ℕ → ℕ → List Right
accept rs p v =
    pick (is_some (right_on rs p)) rs (rs ++ record { page = p; version = v; readers = [] } ∷ [])

-- the rights with a change of that of a page
unfoldable pub change_right : (Right → Right) → List Right → ℕ → List Right
change_right f [] p = []
change_right f (r ∷ rs) p = pick (r.page == p) (f r) r ∷ change_right f rs p

-- a transaction reads under a right, where it doesn't already
abbrev pub with_one_reader : TxId → Right → Right
with_one_reader t r = pick (among r.readers t) r (record r { readers = r.readers ++ t ∷ [] })

-- a transaction reads under the right of a page
unfoldable pub add_reader : List Right → ℕ → TxId → List Right
add_reader rs p t = change_right (with_one_reader t) rs p

-- a transaction reads no more
unfoldable pub end_reader : List Right → ℕ → TxId → List Right
end_reader rs p t = change_right (λ r. record r { readers = filter (λ u. not (same_tx u t)) r.readers }) rs p

-- the right of a page is spent; its readers are answered where there is one
unfoldable pub spend : List Right → ℕ → List Right
spend rs p = filter (λ r. not (r.page == p)) rs

-- the readers of a right, if there is one
abbrev pub readers_of : Option Right → List TxId
readers_of None = []
readers_of (Some r) = r.readers
