-- Clusters whose pages are as they are between two events, and what of that stays.
use Rattle.std.proofs.Common.{◌≡◌, refl, ap, sym, ◌∙◌, ℕ, Bool, true, false, List, [], ◌∷◌, ◌++◌, slice_index_or, slice_set, Option, Some, None}
use Rattle.std.specs.Prelude.{IfSome}
use Rattle.std.specs.List.{fold}
use Rattle.pcl_base.specs.declared.trace.Entry.{Entry}
use Rattle.pcl_base.specs.declared.tx.TxId.{TxId}
use Rattle.run_rules.specs.Script.{moments_of, moments, last_write, script_from, script}
use Rattle.node_rules.specs.NodeState.{NodeState, start_node}
use Rattle.node_rules.specs.OpenTxs.{is_own, lock_on, pages_of_open, with_serial}
use Rattle.node_rules.specs.Words.{pick}
use Rattle.home_laws.specs.Homes.{is_exclusive_lock}
use Rattle.pcl_base.specs.Limits.{Sizes}
use Rattle.cluster_rules.specs.Clusters.{Cluster}
use Rattle.page_protocol.specs.Bytes.{Access, Read, Write, writes}
use Rattle.page_laws.specs.Moment.Looks.{accesses_of, accesses_in}
use Rattle.page_laws.proofs.MomentParts.Entries.{moments_more}
use Rattle.page_relation.proofs.LossParts.Lost.{by_lost}
use Rattle.page_relation.proofs.LossParts.Started.{start_clean}
use Rattle.related_runs.specs.RunLaws.{IsOfRun}
use Rattle.related_runs.proofs.Traces.{script_joined, accesses_joined}
use Rattle.related_runs.specs.Between.Between.{NodeWrites, EnteredIn, HaveEntered}
use Rattle.related_runs.specs.Between.Whole.{PagesAreBetween}
use Rattle.related_runs.proofs.BetweenParts.Seen.{entered_is_seen_law, seen_is_entered_law}
use Rattle.related_runs.proofs.BetweenParts.Wrote.{writes_are_wrote_law}

pub pages_are_between_law : PagesAreBetween
pages_are_between_law blank c pages entered writes =
    record {
      pages = pages;
      between =
          record {
            entered = λ p low. seen_is_entered_law blank c p (pages.page p) (pages.reached p low) (pages.related p low) (λ n. entered n p low);
            wrote = λ p low. writes_are_wrote_law c p (pages.page p) (pages.related p low) writes;
          };
    }

-- a cluster of a run
pub runs_have_entered : (blank : List ℕ) (c : Cluster) → IsOfRun blank c → HaveEntered c
runs_have_entered blank c is n p low = entered_is_seen_law c p n (is.related.pages.page p) (is.related.pages.related p low) (is.between.entered p low)

-- ---- a trace that grows

pub writes_front : (xs ys : List Access) → writes xs ≡ true → writes (xs ++ ys) ≡ true
writes_front [] ys e = absurd (cc)
writes_front (Read bytes ∷ xs) ys e = writes_front xs ys e
writes_front (Write place piece ∷ xs) ys e = refl

pub writes_back : (xs ys : List Access) → writes ys ≡ true → writes (xs ++ ys) ≡ true
writes_back [] ys e = e
writes_back (Read bytes ∷ xs) ys e = writes_back xs ys e
writes_back (Write place piece ∷ xs) ys e = refl

-- a further entry brings the accesses of its moments
pub accesses_grow : (t : TxId) (p : ℕ) (old : List Entry) (x : Entry)
    → accesses_in t p (old ++ x ∷ []) ≡ accesses_in t p old ++ accesses_of p (script_from t (fold (last_write t) None (moments old)) (moments_of x))
unfolding accesses_in
accesses_grow t p old x =
    ap (λ ms. accesses_of p (script t ms)) (moments_more old x) ∙ ap (accesses_of p) (script_joined t None (moments old) (moments_of x))
    ∙ accesses_joined p (script t (moments old)) (script_from t (fold (last_write t) None (moments old)) (moments_of x))

-- so what was written is written
pub ever_written : (old : List Entry) (x : Entry) (t : TxId) (p : ℕ) → writes (accesses_in t p old) ≡ true → writes (accesses_in t p (old ++ x ∷ [])) ≡ true
ever_written old x t p wrote =
    ap writes (accesses_grow t p old x)
    ∙ writes_front (accesses_in t p old) (accesses_of p (script_from t (fold (last_write t) None (moments old)) (moments_of x))) wrote

pub writes_stay : (old : List Entry) (x : Entry) (o : Option NodeState) → IfSome o (NodeWrites old) → IfSome o (NodeWrites (old ++ x ∷ []))
writes_stay old x None all = tt
writes_stay old x (Some s) all = λ t p exclusive. ever_written old x t p (all t p exclusive)

-- ---- a node that is lost

pub none_entered : (q p : ℕ) → EnteredIn q p None
none_entered q p t x at serves dirty slot = absurd (cc)

pub lost_writes : (ss : List (Option NodeState)) (old : List Entry) (x : Entry) (n : ℕ) → ((m : ℕ) → IfSome (slice_index_or ss m None) (NodeWrites old))
    → (m : ℕ) → IfSome (slice_index_or (slice_set ss n None) m None) (NodeWrites (old ++ x ∷ []))
lost_writes ss old x n all m =
    by_lost ss n m (λ b o. IfSome o (NodeWrites (old ++ x ∷ []))) (λ e. tt) (λ e. writes_stay old x (slice_index_or ss m None) (all m))

pub lost_entered : (ss : List (Option NodeState)) (n q p : ℕ) → ((m : ℕ) → EnteredIn q p (slice_index_or ss m None)) → (m : ℕ) → EnteredIn q p (slice_index_or (slice_set ss n None) m None)
lost_entered ss n q p all m = by_lost ss n m (λ b o. EnteredIn q p o) (λ e. none_entered q p) (λ e. all m)

-- ---- a node that starts

pub not_locked : (own : Bool) (k p : ℕ) → is_exclusive_lock (lock_on (pages_of_open (pick own (with_serial [] k) None)) p) ≡ true → ⊥
unfolding with_serial lock_on
not_locked true k p e = cc
not_locked false k p e = cc

pub start_writes : (trace : List Entry) (c : Sizes) (n k : ℕ) → NodeWrites trace (start_node c n k)
unfolding start_node
start_writes trace c n k t p exclusive = absurd (not_locked (is_own (start_node c n k).home.txs t) t.serial p exclusive)

pub start_entered : (c : Sizes) (n k q p : ℕ) → EnteredIn q p (Some (start_node c n k))
start_entered c n k q p t x at serves dirty slot = let bad : true ≡ false = sym dirty ∙ start_clean c n k p in absurd (cc)
