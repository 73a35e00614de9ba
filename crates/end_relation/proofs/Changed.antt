-- Which pages the endings of a transaction have a change of, and the copies that it leaves.
use Rattle.std.proofs.Common.{◌≡◌, refl, ap, ◌∙◌, ℕ, ◌==◌, ◌&&◌, ◌||◌, Bool, true, false, List, [], ◌∷◌, map, Option, Some, None, is_some}
use Rattle.std.specs.List.{list_any}
use Rattle.pcl_base.specs.declared.lock.Held.{Held}
use Rattle.pcl_base.specs.declared.tx.TxId.{TxId}
use Rattle.node_rules.specs.BufferRule.{Copy, copy_at, cleaned, private_bytes, published}
use Rattle.node_rules.specs.EndRule.{ending, endings, pages_at_end, is_written, change_if, new_version, new_bytes, is_own_lock}
use Rattle.node_rules.specs.NodeState.{HomeState, NodeState, table_of}
use Rattle.node_rules.specs.OpenTxs.{held_by, pending_of, waits_on}
use Rattle.node_rules.specs.OwnerRule.{is_unserved}
use Rattle.node_rules.specs.Words.{pick}
use Rattle.node_rules.specs.Work.{Work}
use Rattle.home_laws.specs.Homes.{IsHome, is_exclusive_lock}
use Rattle.home_laws.proofs.Closed.{times_at_end}
use Rattle.home_laws.proofs.EndNeeds.{is_written_is}
use Rattle.home_laws.proofs.Rising.{any_times}
use Rattle.home_laws.proofs.Tests.{number_equal}
use Rattle.cluster_rules.specs.Clusters.{Cluster}
use Rattle.end_relation.specs.Over.{changes}
use Rattle.end_relation.proofs.Overs.{MayClose, left_copy, IsOverWork}

-- a page at which the end is told
abbrev pub touches : HomeState → TxId → ℕ → Bool
touches h t p = is_some (held_by h.txs t p) || waits_on (pending_of h.txs t) p

pub some_change : (d : Bool) (v : ℕ) (bytes : List ℕ) → is_some (change_if d v bytes) ≡ d
some_change true v bytes = refl
some_change false v bytes = refl

changes_among : (h : HomeState) (t : TxId) (b : Bool) (p : ℕ) (ps : List ℕ) → changes p (map (ending h t b) ps) ≡ ((b && is_written h t p) && list_any (λ q. q == p) ps)
changes_among h t b p [] = none (b && is_written h t p)
  where
    none : (d : Bool) → false ≡ (d && false)
    none true = refl
    none false = refl
changes_among h t b p (q ∷ ps) =
    ap (λ (d : Bool). (d && q == p) || changes p (map (ending h t b) ps)) (some_change (b && is_written h t q) (new_version h q) (new_bytes h t q))
    ∙ ap (λ (d : Bool). ((b && is_written h t q) && q == p) || d) (changes_among h t b p ps)
    ∙ by (q == p) refl
  where
    both : (w r : Bool) → ((w && true) || (w && r)) ≡ (w && (true || r))
    both true r = refl
    both false r = refl

    rest : (v w r : Bool) → ((v && false) || (w && r)) ≡ (w && (false || r))
    rest true w r = refl
    rest false w r = refl

    by : (d : Bool) → (q == p) ≡ d → (((b && is_written h t q) && d) || ((b && is_written h t p) && list_any (λ k. k == p) ps)) ≡ ((b && is_written h t p) && (d || list_any (λ k. k == p) ps))
    by true is =
        ap (λ (k : ℕ). ((b && is_written h t k) && true) || ((b && is_written h t p) && list_any (λ j. j == p) ps)) (number_equal q p is)
        ∙ both (b && is_written h t p) (list_any (λ j. j == p) ps)
    by false is = rest (b && is_written h t q) (b && is_written h t p) (list_any (λ j. j == p) ps)

-- a page that the end doesn't change, and one that it does
pub changes_none : (h : HomeState) (t : TxId) (b : Bool) (p : ℕ) → (b && is_written h t p) ≡ false → changes p (endings h t b) ≡ false
unfolding endings
changes_none h t b p none = changes_among h t b p (pages_at_end h t) ∙ ap (λ (d : Bool). d && list_any (λ q. q == p) (pages_at_end h t)) none

pub changes_some : (h : HomeState) (t : TxId) (b : Bool) (p : ℕ) → IsHome h → (b && is_written h t p) ≡ true → touches h t p ≡ true → changes p (endings h t b) ≡ true
unfolding endings
changes_some h t b p is some touched =
    changes_among h t b p (pages_at_end h t)
    ∙ (λ i. some i && (any_times p (pages_at_end h t) (touches h t p) (times_at_end h t p is) ∙ touched) i)

pub exclusive_some : (o : Option Held) → is_exclusive_lock o ≡ true → is_some o ≡ true
exclusive_some None e = absurd (cc)
exclusive_some (Some l) e = refl

-- ---- the copies

module _ (b : Bool) (t : TxId) (c : Cluster) (s : NodeState) (x : Work) (may : MayClose b s t) (is : IsOverWork b t c s x) (p : ℕ) where
  pub written_is_lock : (b && is_written s.home t p) ≡ (b && is_exclusive_lock (held_by s.home.txs t p))
  written_is_lock = by b may.waits
    where
      by : (d : Bool) → (d ≡ true → pending_of s.home.txs t ≡ None) → (d && is_written s.home t p) ≡ (d && is_exclusive_lock (held_by s.home.txs t p))
      by true waits = is_written_is s.home t p may.home (waits refl)
      by false waits = refl

  -- a page that isn't changed
  pub unwritten_copy : (b && is_exclusive_lock (held_by s.home.txs t p)) ≡ false → copy_at x.node.home.pool p ≡ copy_at s.home.pool p
  unwritten_copy none =
      is.copies p
      ∙ ap (λ (d : Bool). pick (d && is_unserved (table_of s p)) (cleaned (left_copy b s.home t p)) (left_copy b s.home t p)) (changes_none s.home t b p (written_is_lock ∙ none))
      ∙ by b none
    where
      by : (d : Bool) → (d && is_exclusive_lock (held_by s.home.txs t p)) ≡ false → left_copy d s.home t p ≡ copy_at s.home.pool p
      by true shared = ap (λ (k : Bool). pick k (published (is_own_lock (held_by s.home.txs t p)) (private_bytes s.home.pool t p) (copy_at s.home.pool p)) (copy_at s.home.pool p)) shared
      by false shared = refl

  -- one that is
  pub written_copy : b ≡ true → is_exclusive_lock (held_by s.home.txs t p) ≡ true
      → copy_at x.node.home.pool p
      ≡ pick (is_unserved (table_of s p)) (cleaned (published (is_own_lock (held_by s.home.txs t p)) (private_bytes s.home.pool t p) (copy_at s.home.pool p)))
      (published (is_own_lock (held_by s.home.txs t p)) (private_bytes s.home.pool t p) (copy_at s.home.pool p))
  written_copy commits locked =
      is.copies p
      ∙ ap (λ (d : Bool). pick (d && is_unserved (table_of s p)) (cleaned (left_copy b s.home t p)) (left_copy b s.home t p))
      (changes_some s.home t b p may.home (written_is_lock ∙ both) (ap (λ (d : Bool). d || waits_on (pending_of s.home.txs t) p) (exclusive_some (held_by s.home.txs t p) locked)))
      ∙ ap (λ (o : Option Copy). pick (is_unserved (table_of s p)) (cleaned o) o) (left ∙ ap (λ (k : Bool). pick k (published (is_own_lock (held_by s.home.txs t p)) (private_bytes s.home.pool t p) (copy_at s.home.pool p)) (copy_at s.home.pool p)) locked)
    where
      both : (b && is_exclusive_lock (held_by s.home.txs t p)) ≡ true
      both = (λ i. commits i && locked i)

      left : left_copy b s.home t p ≡ left_copy true s.home t p
      left = ap (λ (d : Bool). left_copy d s.home t p) commits
