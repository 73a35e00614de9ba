-- Changes of a work that aren't seen at a page.
use Rattle.std.specs.Prelude.{◌≡◌, ◌≢◌, ℕ, true, false, List, [], ◌∷◌, ◌++◌, Option, Some}
use Rattle.std.specs.List.{AllByRecursion}
use Rattle.pcl_base.specs.declared.event.Event.{Event}
use Rattle.pcl_base.specs.declared.message.Body.{Body}
use Rattle.pcl_base.specs.declared.reply.Reply.{Reply}
use Rattle.pcl_base.specs.declared.reply.Reply.TheVariants as reply
use Rattle.pcl_base.specs.declared.tx.TxId.{TxId}
use Rattle.run_rules.specs.Script.{told}
use Rattle.node_rules.specs.DiskCalls.{DiskCall, WritePage, all_done}
use Rattle.node_rules.specs.LockRule.{LockEntry}
use Rattle.node_rules.specs.LockTable.{LockTable, put_entry}
use Rattle.node_rules.specs.NodeState.{partition, table_at, put_table}
use Rattle.node_rules.specs.OwnerRule.{with_table}
use Rattle.node_rules.specs.Work.{HomeWork, Work, reply, send, with_home_work, with_node}
use Rattle.cluster_rules.specs.Clusters.{Cluster}
use Rattle.cluster_rules.specs.ClusterStep.{is_taken}
use Rattle.cluster_laws.specs.Link.Coming.{speaks_of}
use Rattle.page_laws.specs.Look.Parts.{SameLife}
use Rattle.page_laws.specs.Moment.Looks.{asked_last}
use Rattle.page_relation.specs.Work.Landing.{trace_of, disk_of}
use Rattle.page_relation.specs.Work.Unseen.{SamePage, SameTable, SameStored, IsUnseen}

-- a reply that tells no access and no commit, and isn't that of a message that stays
abbrev pub QuietReplies : Type 0
QuietReplies =
    (c : Cluster) (e : Event) (n p : ℕ) (r : Reply) (w : Work) → is_taken (r ∷ []) ≡ true → told r ≡ [] → IsUnseen c e n p w (reply r w)

-- a granted read of another page
abbrev pub ReadsElsewhere : Type 0
ReadsElsewhere =
    (c : Cluster) (e : Event) (n p q v : ℕ) (t : TxId) (bytes : List ℕ) (w : Work) → p ≢ q → IsUnseen c e n p w (reply (reply.Value t q v bytes) w)

-- a granted write of another page
abbrev pub WritesElsewhere : Type 0
WritesElsewhere =
    (c : Cluster) (e : Event) (n p q v : ℕ) (t : TxId) (write : ℕ × List ℕ) (w : Work) → p ≢ q → asked_last t (trace_of c e n w) ≡ Some write
    → IsUnseen c e n p w (reply (reply.Done t q v) w)

-- a message that doesn't speak of the page
abbrev pub SendsElsewhere : Type 0
SendsElsewhere =
    (c : Cluster) (e : Event) (n p to : ℕ) (body : Body) (w : Work) → speaks_of c.config p body ≡ false → IsUnseen c e n p w (send to body w)

-- a home that has the same of the page, whose calls leave what is stored of it
abbrev pub HomesElsewhere : Type 0
HomesElsewhere =
    (c : Cluster) (e : Event) (n p : ℕ) (w : Work) (h : HomeWork) → SameLife w.node.home h.home → SamePage p w.node.home h.home
    → SameStored c.config p (disk_of c n w) (all_done n c.disk h.calls) → IsUnseen c e n p w (with_home_work w h)

-- a table of a partition that has the same of the page, or isn't its own
abbrev pub TablesElsewhere : Type 0
TablesElsewhere =
    (c : Cluster) (e : Event) (n p q : ℕ) (t : Option LockTable) (w : Work) → (q ≡ partition c.config p → SameTable p (table_at w.node q) t)
    → IsUnseen c e n p w (with_node w (put_table w.node q t))

-- an entry of another page
abbrev pub EntriesElsewhere : Type 0
EntriesElsewhere =
    (c : Cluster) (e : Event) (n p r : ℕ) (t : LockTable) (x : LockEntry) (w : Work) → p ≢ r → w.node.home.config ≡ c.config
    → table_at w.node (partition c.config r) ≡ Some t → IsUnseen c e n p w (with_table r (put_entry t r x) w)

-- page writes of other pages
abbrev pub IsWriteElsewhere : ℕ → DiskCall → Type 0
IsWriteElsewhere p (WritePage q bytes) = p ≢ q
IsWriteElsewhere p _ = ⊥

-- they leave what is stored of the page
abbrev pub CallsElsewhere : Type 0
CallsElsewhere =
    (c : Cluster) (n p : ℕ) (calls more : List DiskCall) → AllByRecursion (IsWriteElsewhere p) more
    → SameStored c.config p (all_done n c.disk calls) (all_done n c.disk (calls ++ more))
