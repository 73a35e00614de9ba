-- What a report of a node lists of one page.
use Rattle.std.specs.Prelude.{◌≡◌, ℕ, Bool, true, false, Option, Some, None, is_some}
use Rattle.pcl_base.specs.declared.lock.Held.{Held}
use Rattle.pcl_base.specs.declared.tx.Mode.{Mode}
use Rattle.pcl_base.specs.declared.tx.TxId.{TxId}
use Rattle.node_rules.specs.NodeState.{HomeState, partition}
use Rattle.node_rules.specs.OpenTxs.{held_by}
use Rattle.node_rules.specs.Reports.{is_listed, report, own_report}
use Rattle.node_rules.specs.Shelf.{right_on}
use Rattle.node_rules.specs.Words.{pick}
use Rattle.home_laws.specs.Homes.{IsHome}
use Rattle.page_relation.specs.Messages.{mode_listed, lists_right}

-- the mode of a lock as it is listed: of registered locks alone, or of all kinds
abbrev pub listed_mode : Bool → Option Held → Option Mode
listed_mode all None = None
listed_mode all (Some l) = pick (is_listed all l.kind) (Some l.mode) None

-- a report lists of each transaction its registered lock on the page, and each right
pub record ReportLists (p : ℕ) (h : HomeState) : Type 0 where
  pub locks : (t : TxId) → mode_listed (report (partition h.config p) h).locks t p ≡ listed_mode false (held_by h.txs t p)
  pub rights : is_some (right_on h.shelf p) ≡ true → lists_right (report (partition h.config p) h).rights p ≡ true
  pub own : (t : TxId) → mode_listed (own_report (partition h.config p) h).locks t p ≡ listed_mode true (held_by h.txs t p)

abbrev pub ReportIsListed : Type 0
ReportIsListed = (p : ℕ) (h : HomeState) → IsHome h → ReportLists p h
