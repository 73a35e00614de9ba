-- Nodes that stay as they are, that are lost, and that start, once the trace has grown.
use Rattle.std.proofs.Common.{◌≡◌, refl, ℕ, Bool, true, false, List, [], ◌∷◌, ◌++◌, slice_index_or, slice_set, Option, Some, None}
use Rattle.std.specs.Prelude.{IfSome}
use Rattle.pcl_base.specs.Limits.{Sizes}
use Rattle.pcl_base.specs.declared.trace.Entry.{Entry}
use Rattle.node_rules.specs.NodeState.{NodeState, start_node, first_node}
use Rattle.node_rules.specs.OpenTxs.{is_own, lock_on, pages_of_open, with_serial}
use Rattle.node_rules.specs.Words.{pick}
use Rattle.page_relation.proofs.LossParts.Lost.{by_lost}
use Rattle.related_runs.specs.Locks.Used.{NodeUses}
use Rattle.related_runs.proofs.LocksParts.Accesses.{ever_accessed}

pub uses_stay : (old : List Entry) (x : Entry) (o : Option NodeState) → IfSome o (NodeUses old) → IfSome o (NodeUses (old ++ x ∷ []))
uses_stay old x None all = tt
uses_stay old x (Some s) all = λ t p held. ever_accessed old x t p (all t p held)

pub lost_uses : (ss : List (Option NodeState)) (old : List Entry) (x : Entry) (n : ℕ) → ((m : ℕ) → IfSome (slice_index_or ss m None) (NodeUses old))
    → (m : ℕ) → IfSome (slice_index_or (slice_set ss n None) m None) (NodeUses (old ++ x ∷ []))
lost_uses ss old x n all m =
    by_lost ss n m (λ b o. IfSome o (NodeUses (old ++ x ∷ []))) (λ e. tt) (λ e. uses_stay old x (slice_index_or ss m None) (all m))

-- a node without transactions
pub none_held : (own : Bool) (k p : ℕ) → lock_on (pages_of_open (pick own (with_serial [] k) None)) p ≡ None
unfolding with_serial lock_on
none_held true k p = refl
none_held false k p = refl

pub start_uses : (trace : List Entry) (c : Sizes) (n k : ℕ) → NodeUses trace (start_node c n k)
unfolding start_node
start_uses trace c n k t p held = absurd (held (none_held (is_own (start_node c n k).home.txs t) t.serial p))

pub first_uses : (c : Sizes) (k : ℕ) → NodeUses [] (first_node c k)
unfolding first_node
first_uses c k t p held = absurd (held (none_held (is_own (first_node c k).home.txs t) t.serial p))
