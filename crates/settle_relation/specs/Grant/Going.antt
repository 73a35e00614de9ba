-- Homes of transactions that went on, with other copies, scripts and private copies: what tables and messages say stays.
use Rattle.std.specs.Prelude.{◌≡◌, ℕ, List, Option}
use Rattle.pcl_base.specs.declared.tx.TxId.{TxId}
use Rattle.cluster_rules.specs.Clusters.{Cluster}
use Rattle.page_protocol.specs.Bytes.{Access, Copy}
use Rattle.page_protocol.specs.State.{Home, Ended, Page, IsFresh}
use Rattle.page_relation.specs.Messages.{IsTold}
use Rattle.page_relation.specs.Relation.{TablesAre, LinksAre}

-- A home that went on: it isn't fresh where it wasn't, what it told stands or isn't asked for any more, and an end stays.
pub record GoesOn (h k : Home) : Type 0 where
  pub begun : IsFresh k → IsFresh h
  pub told : (have : Option ℕ) → IsTold have h → IsTold have k
  pub ended : (change : Option ℕ) (e : ℕ) → h ≡ Ended change e → k ≡ Ended change e

-- a state with other homes, copies, scripts and private copies
abbrev pub gone_on : Page → (TxId → Home) → (ℕ → Option Copy) → (TxId → List Access) → (TxId → List ℕ) → Page
gone_on a home slot script image = record a { home = home; slot = slot; script = script; image = image }

-- what tables have of it
abbrev pub TablesGoOn : Type 0
TablesGoOn =
    (d : Cluster) (p q : ℕ) (a : Page) (home : TxId → Home) (slot : ℕ → Option Copy) (script : TxId → List Access) (image : TxId → List ℕ)
    → ((t : TxId) → GoesOn (a.home t) (home t)) → TablesAre d p q a → TablesAre d p q (gone_on a home slot script image)

-- what messages say of it
abbrev pub LinksGoOn : Type 0
LinksGoOn =
    (d : Cluster) (p q : ℕ) (a : Page) (home : TxId → Home) (slot : ℕ → Option Copy) (script : TxId → List Access) (image : TxId → List ℕ)
    → ((t : TxId) → GoesOn (a.home t) (home t)) → LinksAre d p q a → LinksAre d p q (gone_on a home slot script image)
