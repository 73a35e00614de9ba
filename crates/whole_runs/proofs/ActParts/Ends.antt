-- Ends of transactions.
use Rattle.std.proofs.Common.{◌≡◌, subst, ℕ, ◌<◌, ◌==◌, false, sym, List, Some, None}
use Rattle.std.specs.Prelude.{◌^◌, IfSome, Option}
use Rattle.pcl_base.specs.Limits.{Sizes}
use Rattle.pcl_base.specs.declared.event.Event.{Event}
use Rattle.pcl_base.specs.declared.tx.TxId.{TxId}
use Rattle.node_rules.specs.EndRule.{Ending}
use Rattle.node_rules.specs.LockTable.{LockTable}
use Rattle.node_rules.specs.NodeState.{NodeState, NodeEvent, Commit, Abort, table_of}
use Rattle.node_rules.specs.OwnerRule.{tell_end}
use Rattle.node_rules.specs.Refusals.{refusal}
use Rattle.node_rules.specs.Work.{Work, Goes}
use Rattle.node_laws.proofs.Bases.{base_of}
use Rattle.cluster_rules.specs.Clusters.{Cluster, node_at}
use Rattle.cluster_laws.specs.Handed.{IsHanded}
use Rattle.page_protocol.specs.State.{Page}
use Rattle.page_relation.specs.Work.Landing.{Acts}
use Rattle.cluster_laws.specs.Link.EpochLaws.{IsInOrder}
use Rattle.page_relation.specs.Loss.Writes.{ScriptsFit}
use Rattle.settle_relation.specs.Midway.{IsMidway}
use Rattle.settle_relation.proofs.Elsewhere.{settle_on}
use Rattle.settle_relation.proofs.Turns.{settle_keeps}
use Rattle.end_relation.specs.Release.Midway.{SettleElsewhere}
use Rattle.end_relation.specs.Release.Owing as release
use Rattle.end_relation.proofs.ReleaseParts.Laws.{own_end_keeps_law, own_end_elsewhere_law}
use Rattle.end_relation.specs.Ends.{CanEnd}
use Rattle.end_relation.specs.Midway.{OwesOwn, IsElsewhere, OwnEndsKeep}
use Rattle.end_relation.proofs.Committed.{commit_is_kept_law}
use Rattle.end_relation.proofs.Events.{abort_is_kept_law}
use Rattle.related_runs.specs.RunLaws.{IsOfRun}
use Rattle.whole_runs.specs.Act.Acted.{ActKeeps}
use Rattle.whole_runs.proofs.ActParts.Steps.{acts}

-- the end that is owed
pub owes_it : (c : Cluster) (e : Event) (n p : ℕ) (s : NodeState) (t : TxId) (x : Ending) (tb : LockTable) (w : Work) (a : Page) → OwesOwn (base_of s) c e n p t x tb w a
    → release.OwesEnd c e n p t x.change w a
owes_it c e n p s t x tb w a is =
    record { ended = is.owes.ended; untold = is.untold; image = is.owes.image; entered = is.owes.entered; copy = is.owes.copy }

module _ (c : Cluster) (e : Event) (n : ℕ) (s : NodeState) (on : Acts c n) (order : IsInOrder c) (up : node_at c n ≡ Some s) (t : TxId) where
  -- settling another page isn't seen
  settles_unseen : (p q : ℕ) → q < c.config.pages → SettleElsewhere (base_of s) c e n p q
  settles_unseen p q low w x other mid goes =
      let is = settle_on (base_of s) c e n p q (subst (λ (k : Sizes). q < k.pages) (sym mid.config) low) w x mid goes in (is.unseen other, is.midway)

  own_elsewhere : (p : ℕ) (x : Ending) (tb : LockTable) (w y : Work) → (x.page == p) ≡ false → x.page < c.config.pages → IsMidway (base_of s) c e n w → table_of w.node x.page ≡ Some tb
      → tell_end t x w ≡ Goes y → IsElsewhere (base_of s) c e n p w y
  own_elsewhere p x tb w y other low mid there goes =
      let is = own_end_elsewhere_law c e n p s t x tb w y on up other low (settles_unseen p x.page low) mid there goes in record { unseen = is.0; midway = is.1 }

  -- ends at own tables keep the relation
  pub own_keep : (p : ℕ) → p < c.config.pages → OwnEndsKeep (base_of s) c e n p t
  own_keep p low =
      record {
        elsewhere = own_elsewhere p;
        own = λ x tb at blank w y a reached related known goes.
            own_end_keeps_law c e n p s t x tb on up low at (settle_keeps (base_of s) c e n p on order low p low) blank w y a reached related
            (known.midway, owes_it c e n p s t x tb w a known, known.table) goes;
      }

module _ (blank : List ℕ) (c : Cluster) (e : Event) (n : ℕ) (s : NodeState) (ev : NodeEvent) (t : TxId) (is : IsOfRun blank c) (h : IsHanded c e n s ev) (free : refusal s ev ≡ None) where
  pub can_end : CanEnd blank c e n s ev t is.related
  can_end = record { handed = h; free = free; entered = is.between.entered; own = own_keep c e n s (acts blank c e n s ev is h) is.related.order h.up t }

-- scripts fit
pub scripts_fit : (blank : List ℕ) (c : Cluster) (is : IsOfRun blank c) → ScriptsFit c is.related.pages.page
scripts_fit blank c is =
    record {
      within = is.within;
      wrote = λ t p low holds. is.between.wrote p low t holds;
      serials = λ n s up. subst (λ (o : Option NodeState). IfSome o (λ (k : NodeState). k.home.txs.last < 2 ^ 32)) up (is.serials n);
    }

pub abort_acts : (blank : List ℕ) (t : TxId) → ActKeeps blank (Abort t)
abort_acts blank t c e n s w is whole =
    abort_is_kept_law blank c e n s t w is.related (can_end blank c e n s (Abort t) t is whole.handed whole.free) whole.goes whole.whole

pub commit_acts : (blank : List ℕ) (t : TxId) → ActKeeps blank (Commit t)
commit_acts blank t c e n s w is whole =
    commit_is_kept_law blank c e n s t w is.related (can_end blank c e n s (Commit t) t is whole.handed whole.free) (scripts_fit blank c is) whole.goes whole.whole
