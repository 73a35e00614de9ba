-- What is needed of a cluster where eras from some era on lose their dead, and rights that were given back count for
-- fewer eras.
use Rattle.std.specs.Prelude.{◌≡◌, ℕ, ◌<◌, ◌≤◌, ◌&&◌, leb, ltb, Bool, true, false, Option, Some, None, ⊤}
use Rattle.std.specs.List.{AllByRecursion}
use Rattle.pcl_base.specs.declared.message.Body.{Body}
use Rattle.pcl_base.specs.declared.message.Body.TheVariants as body
use Rattle.pcl_base.specs.declared.message.Message.{Message}
use Rattle.pcl_base.specs.declared.tx.TxId.{TxId}
use Rattle.node_rules.specs.LockRule.{mode_of}
use Rattle.node_rules.specs.LockTable.{LockTable, entry_at}
use Rattle.node_rules.specs.NodeState.{NodeState, partition, table_at}
use Rattle.cluster_rules.specs.Clusters.{Cluster, node_at}
use Rattle.cluster_laws.specs.Era.Eras.{era_at, era_in}
use Rattle.cluster_laws.specs.Link.Coming.{coming}
use Rattle.page_protocol.specs.Eras.{buried}
use Rattle.page_protocol.specs.State.{pick, Right, NoRight, Flying, Shelf, Returning, Dead, Page}
use Rattle.page_relation.specs.Messages.{mode_listed}
use Rattle.page_relation.specs.Relation.{IsPageOf}

-- the state in which eras from this one on have nothing of the dead
abbrev pub burial : Page → ℕ → (TxId → Bool) → Page
burial a low dead =
    record a {
      listed = λ t f. pick (dead t && leb low f) None (a.listed t f);
      home = λ t. pick (dead t) (buried low (a.home t)) (a.home t);
    }

-- a right that was given back for a later era counts for no era from this one on
abbrev pub lower : ℕ → Right → Right
lower low NoRight = NoRight
lower low (Flying g) = Flying g
lower low (Shelf v) = Shelf v
lower low (Returning upto readers) = pick (ltb low upto) (Returning low readers) (Returning upto readers)
lower low Dead = Dead

-- the state in which those of some nodes do
abbrev pub lowered : Page → ℕ → (ℕ → Bool) → Page
lowered a low gone = record a { right = λ m. pick (gone m) (lower low (a.right m)) (a.right m) }

-- a table that is being rebuilt for such an era has no dead holder
abbrev pub HoldsNone : ℕ → (TxId → Bool) → ℕ → ℕ → Option NodeState → Type 0
HoldsNone low dead p q None = ⊤
HoldsNone low dead p q (Some s) =
    (t : LockTable) (u : TxId) → table_at s q ≡ Some t → t.serving ≡ false → low ≤ era_in s.view q → dead u ≡ true → mode_of (entry_at t p).holders u ≡ None

-- a release, or a report, of such an era names no dead one
abbrev pub NamesNone : ℕ → (TxId → Bool) → ℕ → ℕ → ℕ → Body → Type 0
NamesNone low dead p from f (body.Request r) = ⊤
NamesNone low dead p from f (body.Grant g) = ⊤
NamesNone low dead p from f (body.Release r) = low ≤ f → dead r.tx ≡ false
NamesNone low dead p from f (body.Revoke page) = ⊤
NamesNone low dead p from f (body.Return r) = ⊤
NamesNone low dead p from f (body.Report r) = low ≤ f → (t : TxId) → t.node ≡ from → dead t ≡ true → mode_listed r.locks t p ≡ None

abbrev pub NamedIn : Cluster → ℕ → ℕ → (TxId → Bool) → ℕ → ℕ → Message → Type 0
NamedIn d q low dead p from m = NamesNone low dead p from (era_at d q m.epoch) m.body

-- So the dead may be buried: no table of an era from this one on has one of them, and nothing that comes and counts names one.
pub record MayBury (d : Cluster) (p low : ℕ) (dead : TxId → Bool) : Type 0 where
  pub tables : (m : ℕ) → HoldsNone low dead p (partition d.config p) (node_at d m)
  pub messages : (from to : ℕ) → AllByRecursion (NamedIn d (partition d.config p) low dead p from) (coming d p from to)

-- That keeps the relation.
abbrev pub BuryingIsRelated : Type 0
BuryingIsRelated =
    (d : Cluster) (p low : ℕ) (dead : TxId → Bool) (a : Page) → a.era < low → MayBury d p low dead → IsPageOf d p a → IsPageOf d p (burial a low dead)

-- So does what counts for fewer eras.
abbrev pub LoweringIsRelated : Type 0
LoweringIsRelated =
    (d : Cluster) (p low : ℕ) (gone : ℕ → Bool) (a : Page) → a.era < low → IsPageOf d p a → IsPageOf d p (lowered a low gone)
