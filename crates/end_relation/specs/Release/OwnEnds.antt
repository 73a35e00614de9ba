-- The end of a transaction at its own node's table.
use Rattle.std.specs.Prelude.{◌≡◌, ◌≢◌, ℕ, ◌<◌, ◌==◌, true, false, List, Option, Some}
use Rattle.std.specs.List.{AllByRecursion}
use Rattle.pcl_base.specs.declared.event.Event.{Event}
use Rattle.pcl_base.specs.declared.message.Message.{Message}
use Rattle.pcl_base.specs.declared.reply.Reply.{Reply}
use Rattle.pcl_base.specs.declared.tx.TxId.{TxId}
use Rattle.node_rules.specs.EndRule.{Ending}
use Rattle.node_rules.specs.LockTable.{LockTable}
use Rattle.node_rules.specs.NodeState.{NodeState, NodeEvent, partition, table_at, table_of}
use Rattle.node_rules.specs.OwnerRule.{tell_end}
use Rattle.node_rules.specs.Work.{Work, Goes, Differs}
use Rattle.node_laws.proofs.Bases.{base_of}
use Rattle.cluster_rules.specs.Clusters.{Cluster, node_at}
use Rattle.cluster_rules.specs.Links.{link_at}
use Rattle.cluster_laws.specs.Handed.{IsHanded}
use Rattle.cluster_laws.specs.Sound.{IsCluster}
use Rattle.cluster_laws.specs.Era.Eras.{era_at, era_in}
use Rattle.cluster_laws.specs.Link.Coming.{coming}
use Rattle.cluster_laws.specs.Link.Orders.{is_report, how_many}
use Rattle.page_protocol.specs.State.{Ended, Page}
use Rattle.page_protocol.specs.Steps.{Reached}
use Rattle.page_relation.specs.Messages.{is_release}
use Rattle.page_relation.specs.Relation.{LinksAre}
use Rattle.page_relation.specs.Together.{IsParty}
use Rattle.page_relation.specs.Work.Events.{IsEntered}
use Rattle.page_relation.specs.Work.Keeping.{IsWorkOf, Keeps}
use Rattle.page_relation.specs.Work.Landing.{land, Acts}
use Rattle.page_relation.specs.Work.StepEnds.{start_of}
use Rattle.page_relation.specs.Work.Unseen.{IsUnseen}
use Rattle.end_relation.specs.Release.Midway.{IsMidway, SettleKeeps, SettleElsewhere, SettleGoes}
use Rattle.end_relation.specs.Release.Owing.{IsUntold, OwesEnd}

-- An end that is told at the own table of its page, where settling the page keeps the relation.
abbrev pub OwnEndKeeps : Type 0
OwnEndKeeps =
    (c : Cluster) (e : Event) (n p : ℕ) (s : NodeState) (t : TxId) (x : Ending) (tb : LockTable) → Acts c n → node_at c n ≡ Some s → p < c.config.pages → x.page ≡ p
    → SettleKeeps (base_of s) c e n p p
    → Keeps c e n p (λ w a. IsMidway (base_of s) c e n w × OwesEnd c e n p t x.change w a × (table_of w.node p ≡ Some tb)) (tell_end t x)
    (λ w a. IsMidway (base_of s) c e n w × IsEntered a)

-- One of another page isn't seen, where settling that page isn't.
abbrev pub OwnEndElsewhere : Type 0
OwnEndElsewhere =
    (c : Cluster) (e : Event) (n p : ℕ) (s : NodeState) (t : TxId) (x : Ending) (tb : LockTable) (w y : Work) → Acts c n → node_at c n ≡ Some s → (x.page == p) ≡ false
    → x.page < c.config.pages → SettleElsewhere (base_of s) c e n p x.page → IsMidway (base_of s) c e n w → table_of w.node x.page ≡ Some tb → tell_end t x w ≡ Goes y
    → IsUnseen c e n p w y × IsMidway (base_of s) c e n y

-- It meets no page that differs, where settling the page doesn't.
abbrev pub NoOwnEndDiffers : Type 0
NoOwnEndDiffers =
    (c : Cluster) (e : Event) (n : ℕ) (s : NodeState) (t : TxId) (x : Ending) (tb : LockTable) (blank : List ℕ) (w : Work) (a : Page) → Acts c n → node_at c n ≡ Some s
    → x.page < c.config.pages → SettleGoes (base_of s) c e n x.page → IsMidway (base_of s) c e n w → OwesEnd c e n x.page t x.change w a → table_of w.node x.page ≡ Some tb → Reached blank a
    → IsWorkOf c e n x.page w a → (q k l : ℕ) → tell_end t x w ≡ Differs q k l → ⊥

-- That nothing tells an end stays through what isn't seen of the page.
abbrev pub UntoldStays : Type 0
UntoldStays =
    (c : Cluster) (e : Event) (n p : ℕ) (t : TxId) (w x : Work) (a : Page) → Acts c n → IsUnseen c e n p w x → IsUntold c e n p t w a → IsUntold c e n p t x a

-- No release of a transaction that hasn't ended counts.
abbrev pub OpenIsUnreleased : Type 0
OpenIsUnreleased =
    (d : Cluster) (p q : ℕ) (a : Page) (t : TxId) → LinksAre d p q a → ((v : Option ℕ) (f : ℕ) → a.home t ≢ Ended v f) → (x y : ℕ)
    → how_many (is_release t) (coming d p x y) ≡ 0

-- No report of a node comes that is of the era of its own table.
abbrev pub OwnIsUnreported : Type 0
OwnIsUnreported =
    (c : Cluster) (e : Event) (n p : ℕ) (s : NodeState) (ev : NodeEvent) (rs : List Reply) (a : Page) (t : TxId) (tb : LockTable) → IsCluster c → IsHanded c e n s ev
    → ((x y : ℕ) → AllByRecursion (IsParty c x y) (link_at c.links x y)) → table_at s (partition c.config p) ≡ Some tb → a.reached n ≡ era_in s.view (partition c.config p) → t.node ≡ n
    → (x y : ℕ)
    → AllByRecursion (λ (m : Message). is_report m.body ≡ true → x ≡ t.node → era_at c (partition c.config p) m.epoch ≢ a.reached n)
    (coming (land c e n (record (start_of c s) { replies = rs })) p x y)
