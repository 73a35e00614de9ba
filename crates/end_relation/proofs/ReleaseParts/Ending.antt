-- A work once an end has come to the own table, related to the machine's state then.
use Rattle.std.proofs.Common.{◌≡◌, ◌≢◌, refl, ap, sym, subst, ◌∙◌, ℕ, ◌==◌, Bool, true, false, List, Option, Some}
use Rattle.std.specs.List.{AllByRecursion}
use Rattle.pcl_base.specs.Limits.{Sizes}
use Rattle.pcl_base.specs.declared.event.Event.{Event}
use Rattle.pcl_base.specs.declared.lock.Pending.{Pending}
use Rattle.pcl_base.specs.declared.message.Message.{Message}
use Rattle.pcl_base.specs.declared.tx.TxId.{TxId}
use Rattle.node_rules.specs.DiskCalls.{all_done}
use Rattle.node_rules.specs.LockRule.{LockEntry}
use Rattle.node_rules.specs.LockTable.{LockTable, put_entry}
use Rattle.node_rules.specs.NodeState.{NodeState, partition, put_table, table_at}
use Rattle.node_rules.specs.OwnerRule.{with_table}
use Rattle.node_rules.specs.Work.{HomeWork, Work, with_home_work}
use Rattle.cluster_rules.specs.Clusters.{Cluster, node_at}
use Rattle.cluster_laws.specs.Era.Eras.{era_at, era_in}
use Rattle.cluster_laws.specs.Link.Coming.{coming}
use Rattle.cluster_laws.specs.Link.Orders.{is_report, how_many}
use Rattle.page_laws.specs.Look.Ends.{version_of_right}
use Rattle.page_laws.specs.Look.Parts.{SameBesideCopies}
use Rattle.page_protocol.specs.Bytes.{Copy}
use Rattle.page_protocol.specs.State.{Ended, Page, current}
use Rattle.page_relation.specs.Homes.{wait_on}
use Rattle.page_relation.specs.Messages.{is_release}
use Rattle.page_relation.specs.Relation.{CopiesAre}
use Rattle.page_relation.specs.Tables.{TableIs, TableOf}
use Rattle.page_laws.specs.Storage.Looks.{IsStored}
use Rattle.page_relation.specs.Work.Keeping.{IsWorkOf}
use Rattle.page_relation.specs.Work.Landing.{land, Acts, trace_of}
use Rattle.page_relation.specs.Work.Unseen.{SameStanding, SameUse, SameTold}
use Rattle.page_relation.proofs.WorkParts.Comings.{coming_same}
use Rattle.page_relation.proofs.WorkParts.Framing.{history_stays_law, homes_stay_law, nodes_stay_law, links_stay_law}
use Rattle.end_relation.specs.Release.Owing.{ended_as, IsUntold}
use Rattle.end_relation.proofs.ReleaseParts.Machine.{homes_after, links_after}
use Rattle.end_relation.proofs.ReleaseParts.Tables.{put_there, tables_changed}

-- the work with another home, and another entry of page q in its table
abbrev pub entered : ℕ → LockTable → LockEntry → HomeWork → Work → Work
entered q tb y h w = with_table q (put_entry tb q y) (with_home_work w h)

-- no release and no report comes in the changed work either
untold_landed : (c : Cluster) (e : Event) (n : ℕ) (w : Work) (q f : ℕ) (t : TxId) (x : ℕ) (ms : List Message)
    → AllByRecursion (λ (m : Message). is_report m.body ≡ true → x ≡ t.node → era_at c q m.epoch ≢ f) ms
    → AllByRecursion (λ (m : Message). is_report m.body ≡ true → x ≡ t.node → era_at (land c e n w) q m.epoch ≢ f) ms
unfolding land era_at
untold_landed c e n w q f t x ms all = all

module _ (c : Cluster) (e : Event) (n p : ℕ) (acts : Acts c n) (w : Work) (h : HomeWork) (beside : SameBesideCopies w.node.home h.home) (tb : LockTable) (y : LockEntry)
    (config : w.node.home.config ≡ c.config) (there : table_at w.node (partition c.config p) ≡ Some tb) where
  abbrev after : Work
  after = entered p tb y h w

  standing : SameStanding w.node after.node
  standing = record { config = beside.life.config; number = beside.life.node; epoch = refl; view = refl }

  uses : SameUse p w.node.home after.node.home
  uses =
      record {
        held = λ t. beside.locks.held t p;
        waits = λ t. ap (λ (o : Option Pending). wait_on o p) (beside.locks.waits t);
        bytes = λ t. beside.privates.bytes t p;
        runs = λ t. beside.privates.runs t p;
      }

  told : SameTold c.config p (trace_of c e n w) (trace_of c e n after)
  told = record { accesses = λ t. refl; now_same = refl }

  pub there_after : table_at after.node (partition c.config p) ≡ Some (put_entry tb p y)
  there_after =
      ap (λ (k : ℕ). table_at (with_table_at k) (partition c.config p)) (ap (λ (z : Sizes). partition z p) (beside.life.config ∙ config))
      ∙ put_there w.node.tables (partition c.config p) tb (put_entry tb p y) there
    where
      with_table_at : ℕ → NodeState
      with_table_at k = put_table (with_home_work w h).node k (Some (put_entry tb p y))

  pub ends_as : (t : TxId) (change : Option ℕ) (a : Page) (ended : a.home t ≡ Ended change (a.reached n)) (v : ℕ) (slot : ℕ → Option Copy) (disk : Copy) (mark : Bool)
      → let b : Page = ended_as a t (a.reached n) v slot disk mark in
      IsUntold c e n p t w a
      → IsStored c.config (all_done n c.disk h.calls) p disk a.log
      → CopiesAre (land c e n after) p slot a.owner mark
      → (TableIs a p n (era_in w.node.view (partition c.config p)) tb.serving tb → TableIs b p n (era_in w.node.view (partition c.config p)) tb.serving (put_entry tb p y))
      → ((m : ℕ) → (m == n) ≡ false → TableOf a p (partition c.config p) m (node_at c m) → TableOf b p (partition c.config p) m (node_at c m))
      → IsWorkOf c e n p w a → IsWorkOf c e n p after b
  unfolding land
  ends_as t change a ended v slot disk mark untold stored copies own others is =
      record {
        history = history_stays_law c e n p w after a.hist (current a) told is.history;
        stored = stored;
        copies = copies;
        homes =
            homes_after a t change (a.reached n) ended v slot disk mark (land c e n after) p
            (homes_stay_law c e n p w after (current a) a acts standing beside.life uses told is.homes);
        nodes = nodes_stay_law c e n p (partition c.config p) a.era w after a.right a.reached acts standing (ap version_of_right (beside.rights p)) is.nodes;
        tables =
            tables_changed c e n p (partition c.config p) w after a (ended_as a t (a.reached n) v slot disk mark) tb (put_entry tb p y) acts refl there there_after refl refl refl refl own others
            is.tables;
        links =
            links_after a t change (a.reached n) ended v slot disk mark (land c e n after) p (partition c.config p)
            (λ x k. ap (how_many (is_release t)) (same x k) ∙ untold.unreleased x k)
            (λ x k. untold_landed c e n after (partition c.config p) (a.reached n) t x (coming (land c e n after) p x k)
            (subst (AllByRecursion (λ (m : Message). is_report m.body ≡ true → x ≡ t.node → era_at c (partition c.config p) m.epoch ≢ a.reached n)) (sym (same x k)) (untold.unreported x k)))
            (links_stay_law c e n p (partition c.config p) w after a acts standing refl (λ k. refl) is.links);
      }
    where
      same : (x k : ℕ) → coming (land c e n after) p x k ≡ coming (land c e n w) p x k
      same x k = coming_same c e n p acts w after standing refl (λ b. refl) x k
