-- What reports are made of, and what a table takes of them.
use Rattle.std.specs.Prelude.{◌≡◌, ◌<◌, ◌%◌, ◌==◌, ◌&&◌, ◌||◌, ℕ, Bool, nat_eq, nat_lt, List}
use Rattle.std.specs.List.{All, list_any}
use Rattle.pcl_base.specs.Limits.{Sizes}
use Rattle.pcl_base.specs.declared.message.Report.{Report}
use Rattle.node_rules.specs.OpenTxs.{OpenTxs}
use Rattle.node_rules.specs.Shelf.{Right}
use Rattle.node_rules.specs.BufferRule.{Pool}
use Rattle.node_rules.specs.NodeState.{Written, HomeState}
use Rattle.lock_table.specs.Tables.{TableView, IsPageOf}

-- a home by its parts; no report tells which places were written
abbrev pub home_of : Sizes → OpenTxs → List Right → Pool → List Written → HomeState
home_of c s rs b w = record { config = c; txs = s; shelf = rs; pool = b; written = w }

-- a table is that of one of a configuration's partitions
pub record IsTableOf (c : Sizes) (t : TableView) : Type 0 where
  pub config : c ≡ t.config
  pub partition : t.partition < c.nodes

-- whether a page is one of a partition
abbrev pub is_page : Sizes → ℕ → ℕ → Bool
is_page c q p = nat_lt p c.pages && (p % c.nodes == q)

-- each page that a report names is one of the table's
pub record IsReportOf (t : TableView) (r : Report) : Type 0 where
  pub locks : All (λ x. IsPageOf t x.page) r.locks
  pub rights : All (λ x. IsPageOf t x.page) r.rights
  pub waits : All (λ x. IsPageOf t x.page) r.waits

-- whether a report names a page
abbrev pub names_page : Report → ℕ → Bool
names_page r p = (list_any (λ x. nat_eq p x.page) r.locks || list_any (λ x. nat_eq p x.page) r.rights) || list_any (λ x. nat_eq p x.page) r.waits
