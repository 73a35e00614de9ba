-- What a commit tells, lock by lock, and what it leaves.
use Rattle.std.proofs.Common.{◌≡◌, ℕ, ◌<◌, true, false, List, [], ◌∷◌, length, get_or, map, Some, None, refl, ap, sym, subst, ◌∙◌, arith}
use Rattle.std.specs.List.{All, AllByRecursion, fold}
use Rattle.std.proofs.lemmas.List.Elements.{All-head, All-tail}
use Rattle.pcl_base.specs.declared.tx.TxId.{TxId}
use Rattle.pcl_base.specs.declared.lock.Held.{Held}
use Rattle.pcl_base.specs.declared.lock.Kind.{Kind}
use Rattle.pcl_base.specs.declared.lock.Kind.TheVariants as kind
use Rattle.node_rules.specs.Words.{is_exclusive}
use Rattle.node_rules.specs.OpenTxs.{lock_on, waits_on, end_pages, is_open, locks_of, pending_of, held_by}
use Rattle.node_rules.specs.BufferRule.{Pool, publish}
use Rattle.node_rules.specs.NodeState.{HomeState}
use Rattle.node_rules.specs.EndRule.{Ending, ending, endings, kind_at_end, registered_if, change_if, is_written, new_version, new_bytes, pages_written, pages_at_end, publish_all, closed, is_own_lock}
use Rattle.home_laws.specs.Homes.{IsHome, AreOnce, is_exclusive_lock}
use Rattle.home_laws.specs.EndNeeds.{IsBelowLast, IsPublishable, MayUnpin}
use Rattle.home_laws.proofs.Opens.{locks_once}
use Rattle.home_laws.proofs.Serials.{one_if}
use Rattle.home_laws.proofs.EndNeeds.{is_written_is, times_held, may_publish_start}
use Rattle.home_laws.proofs.EndSteps.{ending_pages, nothing_left, may_unpin_published}
use Rattle.home.specs.Commits.{told, commit_end}
use Rattle.home.specs.Ends.{left}
use Rattle.home.proofs.Discarded.{once_found}
use Rattle.home.proofs.Committing.{all_at}

-- the pages at the end of a transaction that doesn't wait
locked_pages : (hs : List Held) → end_pages hs None ≡ map (λ g. g.page) hs
unfolding end_pages
locked_pages [] = refl
locked_pages (h ∷ hs) = ap (λ l. h.page ∷ l) (locked_pages hs)

same_kind : (k : Kind) → registered_if false k ≡ k
same_kind kind.Own = refl
same_kind kind.Registered = refl
same_kind kind.Right = refl

-- what is told of a lock that is found by its page
told_lock : (h : HomeState) (t : TxId) (g : Held) → IsHome h → pending_of h.txs t ≡ None → held_by h.txs t g.page ≡ Some g → told (ending h t true g.page) ≡ commit_end h t g
told_lock h t g is waits found =
    let kinds : kind_at_end (held_by h.txs t g.page) (waits_on (pending_of h.txs t) g.page) ≡ g.kind =
    (λ i. kind_at_end (found i) (waits_on (waits i) g.page)) ∙ same_kind g.kind in
    let writes : is_written h t g.page ≡ is_exclusive g.mode = is_written_is h t g.page is waits ∙ ap is_exclusive_lock found in
    λ i. told (record { page = g.page; kind = kinds i; change = change_if (writes i) (new_version h g.page) (new_bytes h t g.page) })

told_locks : (h : HomeState) (t : TxId) (gs : List Held) → IsHome h → pending_of h.txs t ≡ None → All (λ g. held_by h.txs t g.page ≡ Some g) gs
    → map told (map (ending h t true) (map (λ g. g.page) gs)) ≡ map (commit_end h t) gs
told_locks h t [] is waits found = refl
told_locks h t (g ∷ gs) is waits found =
    let first = told_lock h t g is waits (All-head (λ x. held_by h.txs t x.page ≡ Some x) g gs found) in
    let rest = told_locks h t gs is waits (All-tail (λ x. held_by h.txs t x.page ≡ Some x) g gs found) in
    λ i. first i ∷ rest i

-- all that a commit tells
pub commit_tells : (h : HomeState) (t : TxId) → IsHome h → pending_of h.txs t ≡ None → map told (endings h t true) ≡ map (commit_end h t) (locks_of h.txs t)
unfolding endings
commit_tells h t is waits =
    let once = locks_once h.txs t is.txs.once in
    ap (λ w. map told (map (ending h t true) (end_pages (locks_of h.txs t) w))) waits
    ∙ (ap (λ l. map told (map (ending h t true) l)) (locked_pages (locks_of h.txs t))
    ∙ told_locks h t (locks_of h.txs t) is waits (λ k d within. once_found (locks_of h.txs t) k d once within))

-- the page of an exclusive lock may be published
pub lock_may : (h : HomeState) (t : TxId) (ls : List Held) (i : ℕ) (d : Held) → IsHome h → pending_of h.txs t ≡ None → AllByRecursion (IsBelowLast h.pool) (pages_written h t) → ls ≡ locks_of h.txs t → i < length ls
    → is_exclusive (get_or ls i d).mode ≡ true → IsPublishable t h.pool (get_or ls i d).page
lock_may h t ls i d is waits below locks within mode =
    let g : Held = get_or ls i d in
    let once : AreOnce ls = subst AreOnce (sym locks) (locks_once h.txs t is.txs.once) in
    let found : held_by h.txs t g.page ≡ Some g = ap (λ l. lock_on l g.page) (sym locks) ∙ once_found ls i d once within in
    let count = times_held h t g.page is waits in
    let one : one_if (is_exclusive_lock (held_by h.txs t g.page)) ≡ 1 = ap (λ o. one_if (is_exclusive_lock o)) found ∙ ap one_if mode in
    all_at (IsPublishable t h.pool) g.page (pages_written h t) (omega (arith, count, one)) (may_publish_start h t is waits below).each

-- the pages of what is told are those at the end
pub told_pages : (h : HomeState) (t : TxId) → map (λ (e : Ending). e.page) (map told (endings h t true)) ≡ pages_at_end h t
told_pages h t = each (endings h t true) ∙ ending_pages h t true
  where
    each : (es : List Ending) → map (λ (e : Ending). e.page) (map told es) ≡ map (λ (e : Ending). e.page) es
    each [] = refl
    each (e ∷ es) = ap (λ l. e.page ∷ l) (each es)

-- all pages that were written are published
pub published : (h g : HomeState) (t : TxId) (ps : List ℕ) (b : Pool) → g ≡ h → ps ≡ pages_written h t → b ≡ fold (λ c p. publish c t p (is_own_lock (held_by g.txs t p))) g.pool ps → b ≡ publish_all h t
published h g t ps b home pages made = made ∙ (λ i. fold (λ c p. publish c t p (is_own_lock (held_by (home i).txs t p))) (home i).pool (pages i))

pub end_pages_are : (h : HomeState) (t : TxId) (es : List Ending) → es ≡ map told (endings h t true) → map (λ (e : Ending). e.page) es ≡ pages_at_end h t
end_pages_are h t es same = ap (map (λ (e : Ending). e.page)) same ∙ told_pages h t

-- then all pages at the end may be unpinned
pub unpin_after : (h : HomeState) (t : TxId) (ps : List ℕ) (b : Pool) → IsHome h → is_open h.txs t ≡ true → ps ≡ pages_at_end h t → b ≡ publish_all h t → MayUnpin ps b
unpin_after h t ps b is there pages pool = subst (λ l. MayUnpin l b) (sym pages) (subst (MayUnpin (pages_at_end h t)) (sym pool) (may_unpin_published h t is there))

-- a home whose transaction has published, and then without the transaction
pub published_closed : (h g : HomeState) (t : TxId) (b : Pool) (ps : List ℕ) → g ≡ record h { pool = b } → b ≡ publish_all h t → ps ≡ pages_at_end h t → left g t ps ≡ closed h t (publish_all h t)
unfolding closed
published_closed h g t b ps home pool pages =
    ap (λ (k : HomeState). left k t ps) home
    ∙ (λ i. left (record h { pool = (pool ∙ sym (nothing_left h t)) i }) t (pages i))
