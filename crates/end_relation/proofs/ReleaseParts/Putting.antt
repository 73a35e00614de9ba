-- The change of a release at the table of its page: the copy goes to its place and the end into the entry.
use Rattle.std.proofs.Common.{◌≡◌, refl, ap, sym, subst, ◌∙◌, ℕ, ◌<◌, ◌≤◌, ◌^◌, Bool, true, List, [], ◌∷◌, ◌++◌, Option, Some, arith}
use Rattle.pcl_base.specs.declared.event.Event.{Event}
use Rattle.pcl_base.specs.declared.message.Change.{Change}
use Rattle.pcl_base.specs.declared.tx.TxId.{TxId}
use Rattle.run_rules.specs.Disk.{Disk}
use Rattle.text_rules.specs.StoredPage.{stored_bytes}
use Rattle.node_rules.specs.BufferRule.{copy_at, copy_of_slot, is_dirty_copy, slot_at}
use Rattle.node_rules.specs.DiskCalls.{WritePage, all_done}
use Rattle.node_rules.specs.LockRule.{end_tx, takes_change}
use Rattle.node_rules.specs.LockTable.{LockTable, entry_at}
use Rattle.node_rules.specs.NodeState.{NodeState}
use Rattle.node_rules.specs.OwnerRule.{dirty_copy, put_change}
use Rattle.node_rules.specs.Words.{pick}
use Rattle.node_rules.specs.Work.{Work, work_of_home}
use Rattle.home_laws.specs.Homes.{IsHome}
use Rattle.home_laws.proofs.Tests.{none_there, number_same}
use Rattle.cluster_rules.specs.Clusters.{Cluster, node_at}
use Rattle.page_laws.specs.Look.Buffers.{stored_copy}
use Rattle.page_laws.specs.Look.Ends.{HasChange, kept, stored}
use Rattle.page_laws.proofs.LookParts.Alike.{beside_then}
use Rattle.page_laws.proofs.LookParts.Copies.{lets_beside}
use Rattle.page_laws.proofs.LookParts.Turning.{change_is_seen_law}
use Rattle.page_protocol.specs.Bytes.{Copy}
use Rattle.page_protocol.specs.Invariant.{ChangeIs}
use Rattle.page_protocol.specs.State.{Ended, Page}
use Rattle.page_protocol.specs.Steps.{Reached}
use Rattle.page_protocol.specs.Storage.{flushing}
use Rattle.page_protocol.proofs.Keeps.{reached_holds}
use Rattle.page_relation.specs.Looks.{copy_in, slot_in, slot_of}
use Rattle.page_laws.specs.Storage.Looks.{IsStored}
use Rattle.page_relation.specs.Work.Events.{IsEntered}
use Rattle.page_relation.specs.Work.Keeping.{IsWorkOf, Leads}
use Rattle.page_relation.specs.Work.Landing.{Acts}
use Rattle.page_relation.specs.Work.Letting.{CalledBy}
use Rattle.page_relation.proofs.WorkParts.Nodes.{at_node}
use Rattle.page_relation.proofs.WorkParts.Storing.{flushing_stores, has_page}
use Rattle.end_relation.specs.Release.Owing.{IsUntold}
use Rattle.end_relation.proofs.ReleaseParts.Cases.{change_ends, disk_ends, stored_now}
use Rattle.end_relation.proofs.ReleaseParts.Ending.{entered}
use Rattle.end_relation.proofs.ReleaseParts.Owners.{HasOwn}
use Rattle.end_relation.proofs.ReleaseParts.Stored.{put_logs, put_raw, put_stored, stored_same}

-- a change that is still to come to the authority has the current version
pub change_is_now : (blank : List ℕ) (a : Page) (t : TxId) (v e : ℕ) → Reached blank a → a.home t ≡ Ended (Some v) e → a.era ≤ e → v ≡ a.now
change_is_now blank a t v e reached ended low = subst (ChangeIs a.era a.now) ended ((reached_holds blank a reached).entry_holds.changes t) low

-- the copy of the acting node
pub own_slot : (c : Cluster) (e : Event) (n p : ℕ) (w : Work) (a : Page) → Acts c n → IsWorkOf c e n p w a → copy_in (copy_at w.node.home.pool p) ≡ a.slot n
unfolding slot_of
own_slot c e n p w a acts is = at_node c e n acts w n (λ o. slot_in o p ≡ a.slot n) refl (is.copies.slot_same n)

flushed_disk : (c : Cluster) (n p : ℕ) (d : Disk) (a : Page) (x : Copy) → IsStored c.config d p (flushing a x).disk (flushing a x).log → IsStored c.config d p x a.log
unfolding flushing
flushed_disk c n p d a x is = is

below_end : (c : Cluster) (e : Event) (n p : ℕ) (w : Work) (a : Page) → IsWorkOf c e n p w a → a.now < 2 ^ 64
below_end c e n p w a is = is.history.below

module _ (c : Cluster) (e : Event) (n p : ℕ) (s : NodeState) (w : Work) (tb : LockTable) (a : Page) (blank : List ℕ) (acts : Acts c n) (up : node_at c n ≡ Some s) (own : HasOwn c n p s w tb)
    (reached : Reached blank a) (is : IsWorkOf c e n p w a) (low : p < c.config.pages) (home : IsHome w.node.home) (called : CalledBy n c.disk (work_of_home w)) where
  -- the change goes into the slot or is written at once
  pub put_ends : tb.serving ≡ true → (t : TxId) (x : Change) → a.home t ≡ Ended (Some x.version) (a.reached n) → a.era ≤ a.reached n → x.image ≡ a.hist x.version → IsUntold c e n p t w a
      → takes_change (entry_at tb p) t (Some x.version) ≡ true
      → Leads c e n p (λ y b. IsEntered b) a (entered p tb (end_tx (entry_at tb p) t (Some x.version)) (put_change p x (work_of_home w)) w)
  put_ends serves t x ended now image untold taken = by (change_is_seen_law p x (work_of_home w) home)
    where
      as_stored : IsStored c.config (all_done n c.disk w.calls) p a.disk a.log
      as_stored = stored_now c e n p w a is

      fits : x.version < 2 ^ 64
      fits =
          let same = change_is_now blank a t x.version (a.reached n) reached ended now in
          let below = below_end c e n p w a is in
          omega (arith, same, below)

      by : HasChange p x (work_of_home w) (put_change p x (work_of_home w))
          → Leads c e n p (λ y b. IsEntered b) a (entered p tb (end_tx (entry_at tb p) t (Some x.version)) (put_change p x (work_of_home w)) w)
      by (kept m lets beside copies pages) =
          let copy : copy_at (put_change p x (work_of_home w)).home.pool p ≡ Some (dirty_copy x) =
          copies p ∙ ap (λ (b : Bool). pick b (Some (dirty_copy x)) (copy_at m.home.pool p)) (number_same p) in
          change_ends c e n p s w tb a blank acts up own reached is serves t x.version (put_change p x (work_of_home w)) ended untold taken
          (beside_then w.node.home m.home (put_change p x (work_of_home w)).home (lets_beside p (work_of_home w) m lets) beside)
          (ap copy_in copy ∙ ap (λ (bytes : List ℕ). some_copy x.version bytes) image)
          (ap is_dirty_copy copy)
          (stored_same c.config (all_done n c.disk w.calls) (all_done n c.disk (put_change p x (work_of_home w)).calls) p a.disk a.log
          (put_raw n c.disk p x (work_of_home w) called m lets pages) (put_logs n c.disk p x (work_of_home w) called) as_stored)
        where
          some_copy : ℕ → List ℕ → Option Copy
          some_copy v bytes = Some (record { version = v; bytes = bytes })
      by (stored none same pages) =
          disk_ends c e n p s w tb a blank acts up own reached is serves t x.version (put_change p x (work_of_home w)) ended untold taken same
          (sym (own_slot c e n p w a acts is) ∙ ap (λ o. copy_in (copy_of_slot o)) (none_there (slot_at w.node.home.pool p) none))
          (subst (λ (bytes : List ℕ). IsStored c.config (all_done n c.disk (put_change p x (work_of_home w)).calls) p (record { version = x.version; bytes = bytes }) a.log) image
          (subst (λ (d : Disk). IsStored c.config d p (record { version = x.version; bytes = x.image }) a.log) (sym (put_stored n c.disk p x (work_of_home w) called pages))
          (flushed_disk c n p (all_done n c.disk (w.calls ++ WritePage p (stored_bytes p (stored_copy (dirty_copy x))) ∷ [])) a (record { version = x.version; bytes = x.image })
          (flushing_stores c n p w a (record { version = x.version; bytes = x.image }) (has_page c n p w.calls acts low) fits as_stored))))
