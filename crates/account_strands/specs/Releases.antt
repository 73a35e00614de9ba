-- The causes of releases, against the ledger before the sends of an entry.
use Rattle.std.specs.Prelude.{◌≡◌, ◌==◌, ◌&&◌, ◌||◌, not, ℕ, Bool, true, false, List, [], ◌∷◌, Option, ⊤, slice_index}
use Rattle.std.specs.List.{AllByRecursion, list_any}
use Rattle.pcl_base.specs.declared.message.Body.{Body}
use Rattle.pcl_base.specs.declared.message.Body.TheVariants as body
use Rattle.pcl_base.specs.declared.trace.Entry.{Entry}
use Rattle.pcl_base.specs.declared.tx.TxId.{TxId}
use Rattle.run_rules.specs.Ledger.{Ledger, is_of, wants_page}
use Rattle.run_rules.specs.Taking.{commits}
use Rattle.run_rules.specs.Causes.{owner_for, is_end, is_change}
use Rattle.cluster_rules.specs.Clusters.{version_of_change}
use Rattle.node_rules.specs.NodeState.{Outgoing}
use Rattle.node_rules.specs.Words.{same_tx}

-- whether a release of node n has its cause in an entry: what `release` of the account asks
abbrev pub may_release : Entry → ℕ → ℕ → TxId → ℕ → Option ℕ → Ledger → Bool
may_release e n to t p change l =
    list_any (is_end e.event t) e.replies
    && (owner_for l n p == to
    && ((list_any (wants_page t p) l.asked || list_any (is_of t p) l.registered)
    && (not (list_any (is_of t p) l.released)
    && is_change (commits e.event t && list_any (is_of t p) l.done) (slice_index l.versions p) change)))

-- a release has its cause; of other messages nothing is said
abbrev pub HasRelease : Entry → ℕ → Ledger → ℕ → Body → Type 0
HasRelease e n l to (body.Release r) = may_release e n to r.tx r.page (version_of_change r.change) l ≡ true
HasRelease e n l to _ = ⊤

-- a message isn't a release of this transaction and page
abbrev pub is_release_of : TxId → ℕ → Body → Bool
is_release_of t p (body.Release r) = same_tx r.tx t && r.page == p
is_release_of t p _ = false

-- no later message releases what one does
abbrev pub ReleasesOnce : Body → List Outgoing → Type 0
ReleasesOnce (body.Release r) os = AllByRecursion (λ (o : Outgoing). is_release_of r.tx r.page o.message.body ≡ false) os
ReleasesOnce _ os = ⊤

-- each release among some messages of node n has its cause, and no two release the same
unfoldable pub HaveReleases : Entry → ℕ → Ledger → List Outgoing → Type 0
HaveReleases e n l [] = ⊤
HaveReleases e n l (o ∷ os) = HasRelease e n l o.to o.message.body × ReleasesOnce o.message.body os × HaveReleases e n l os
