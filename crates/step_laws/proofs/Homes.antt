-- Counts of a home's waiting accesses, locks and rights by a weight of their pages, and what a grant
-- to an own transaction makes of them.
use Rattle.std.proofs.Common.{◌≡◌, ℕ, ◌+◌, ◌≤◌, ◌==◌, Bool, true, false, List, [], ◌∷◌, Option, Some, None, refl, ap, ◌∙◌, arith}
use Rattle.std.specs.Prelude.{⊤}
use Rattle.pcl_base.specs.declared.tx.TxId.{TxId}
use Rattle.pcl_base.specs.declared.lock.Held.{Held}
use Rattle.pcl_base.specs.declared.lock.Pending.{Pending}
use Rattle.text_rules.specs.StoredPage.{PageAt}
use Rattle.node_rules.specs.Words.{pick}
use Rattle.node_rules.specs.OpenTxs.{OpenTx, add, with_lock, put_lock, change_open, waits_on, pending_of}
use Rattle.node_rules.specs.Shelf.{Right}
use Rattle.node_rules.specs.BufferRule.{find, install}
use Rattle.node_rules.specs.CopyRule.{is_version}
use Rattle.node_rules.specs.NodeState.{HomeState}
use Rattle.node_rules.specs.Work.{HomeWork, Goes, Differs, read_page}
use Rattle.node_rules.specs.AccessRule.{Granted, on_pool, clean_copy, bring, unless_current, new_content, from_disk, granted, locked, perform, write_of}
use Rattle.step_laws.specs.Most.{sum_of}
use Rattle.step_laws.proofs.Outcomes.{On, on_then, on_so, on_any}

-- the weight of an access that waits
abbrev pub weight_of : (ℕ → ℕ) → Option Pending → ℕ
weight_of f None = 0
weight_of f (Some w) = f w.page

-- the waiting accesses, the locks and the rights, each by the weight of its page
abbrev pub waits_by : (ℕ → ℕ) → List OpenTx → ℕ
waits_by f xs = sum_of (λ x. weight_of f x.waiting) xs

abbrev pub locks_by : (ℕ → ℕ) → List OpenTx → ℕ
locks_by f xs = sum_of (λ x. sum_of (λ l. f l.page) x.pages) xs

abbrev pub shelf_by : (ℕ → ℕ) → List Right → ℕ
shelf_by f rs = sum_of (λ r. f r.page) rs

-- all of them
abbrev pub stock : (ℕ → ℕ) → HomeState → ℕ
stock f h = waits_by f h.txs.txs + locks_by f h.txs.txs + shelf_by f h.shelf

-- a home with the same transactions and rights
pub record IsSame (a b : HomeState) : Type 0 where
  pub config : b.config ≡ a.config
  pub txs : b.txs ≡ a.txs
  pub shelf : b.shelf ≡ a.shelf

pub same_home : (h : HomeState) → IsSame h h
same_home h = record { config = refl; txs = refl; shelf = refl }

-- a home in which a transaction got a lock
pub record HasLock (t : TxId) (l : Held) (a b : HomeState) : Type 0 where
  pub config : b.config ≡ a.config
  pub txs : b.txs ≡ add a.txs t l
  pub shelf : b.shelf ≡ a.shelf

bring_same : (p version : ℕ) (image : Option (List ℕ)) (w : HomeWork) → On (λ (x : HomeWork). IsSame w.home x.home) (bring p version image w)
unfolding bring
bring_same p version image w = by (is_version (find w.home.pool p) version)
  where
    read_by : (at : PageAt) (b : Bool) → On (λ (x : HomeWork). IsSame w.home x.home) (pick b (Goes (on_pool (λ pool. install pool p (clean_copy at)) w)) (Differs p version at.version))
    read_by at true = record { config = refl; txs = refl; shelf = refl }
    read_by at false = tt

    content : (o : Option (List ℕ)) → On (λ (x : HomeWork). IsSame w.home x.home) (new_content p version o w)
    content (Some bytes) = record { config = refl; txs = refl; shelf = refl }
    content None =
        on_then (λ (x : PageAt). ⊤) (λ (x : HomeWork). IsSame w.home x.home) (read_page w.pages p) (from_disk p version w) (on_any (read_page w.pages p))
        (λ at any. read_by at (at.version == version))

    by : (b : Bool) → On (λ (x : HomeWork). IsSame w.home x.home) (unless_current b p version image w)
    by true = same_home w.home
    by false = content image

locked_home : (t : TxId) (l : Held) (write : Option (ℕ × List ℕ)) (w : HomeWork) → HasLock t l w.home (locked t l write w).work.home
unfolding perform
locked_home t l None w = record { config = refl; txs = refl; shelf = refl }
locked_home t l (Some write) w = record { config = refl; txs = refl; shelf = refl }

pub granted_home : (t : TxId) (l : Held) (version : ℕ) (image : Option (List ℕ)) (w : HomeWork) → On (λ (g : Granted). HasLock t l w.home g.work.home) (granted t l version image w)
unfolding granted
granted_home t l version image w =
    on_so (λ (x : HomeWork). IsSame w.home x.home) (λ (g : Granted). HasLock t l w.home g.work.home) (bring l.page version image w) (locked t l (write_of (pending_of w.home.txs t)))
    (bring_same l.page version image w)
    (λ x same.
    let has = locked_home t l (write_of (pending_of w.home.txs t)) x in
    record {
      config = has.config ∙ same.config;
      txs = has.txs ∙ ap (λ s. add s t l) same.txs;
      shelf = has.shelf ∙ same.shelf;
    })

pub change_sum : (f : OpenTx → ℕ) (g : OpenTx → OpenTx) → ((x : OpenTx) → f (g x) ≤ f x) → (xs : List OpenTx) (n : ℕ) → sum_of f (change_open g xs n) ≤ sum_of f xs
unfolding change_open
change_sum f g each [] n = omega arith
change_sum f g each (x ∷ xs) n = by (x.serial == n) (change_sum f g each xs n)
  where
    by : (b : Bool) → sum_of f (change_open g xs n) ≤ sum_of f xs → f (pick b (g x) x) + sum_of f (change_open g xs n) ≤ f x + sum_of f xs
    by true rest = let here = each x in omega (arith, here, rest)
    by false rest = omega (arith, rest)

put_lock_sum : (f : ℕ → ℕ) (l : Held) → f l.page ≡ 0 → (hs : List Held) → sum_of (λ h. f h.page) (put_lock hs l) ≤ sum_of (λ h. f h.page) hs
unfolding put_lock
put_lock_sum f l none [] = omega (arith, none)
put_lock_sum f l none (h ∷ hs) = by (h.page == l.page) (put_lock_sum f l none hs)
  where
    by : (b : Bool) → sum_of (λ h. f h.page) (put_lock hs l) ≤ sum_of (λ h. f h.page) hs → sum_of (λ h. f h.page) (pick b (l ∷ hs) (h ∷ put_lock hs l)) ≤ f h.page + sum_of (λ h. f h.page) hs
    by true rest = omega (arith, none)
    by false rest = omega (arith, rest)

wait_less : (f : ℕ → ℕ) (b : Bool) (o : Option Pending) → weight_of f (pick b None o) ≤ weight_of f o
wait_less f true o = omega arith
wait_less f false o = omega arith

-- a lock without weight
pub lock_waits : (f : ℕ → ℕ) (t : TxId) (l : Held) (a b : HomeState) → HasLock t l a b → waits_by f b.txs.txs ≤ waits_by f a.txs.txs
unfolding add
lock_waits f t l a b has =
    let less = change_sum (λ x. weight_of f x.waiting) (with_lock l) (λ x. wait_less f (waits_on x.waiting l.page) x.waiting) a.txs.txs t.serial in
    let same : waits_by f b.txs.txs ≡ waits_by f (add a.txs t l).txs = ap (λ s. waits_by f s.txs) has.txs in
    omega (arith, less, same)

pub lock_stock : (f : ℕ → ℕ) (t : TxId) (l : Held) (a b : HomeState) → f l.page ≡ 0 → HasLock t l a b → stock f b ≤ stock f a
unfolding add
lock_stock f t l a b none has =
    let waits = lock_waits f t l a b has in
    let less = change_sum (λ x. sum_of (λ l. f l.page) x.pages) (with_lock l) (λ x. put_lock_sum f l none x.pages) a.txs.txs t.serial in
    let same : locks_by f b.txs.txs ≡ locks_by f (add a.txs t l).txs = ap (λ s. locks_by f s.txs) has.txs in
    let shelf : shelf_by f b.shelf ≡ shelf_by f a.shelf = ap (shelf_by f) has.shelf in
    omega (arith, waits, less, same, shelf)

pub same_stock : (f : ℕ → ℕ) (a b : HomeState) → IsSame a b → stock f b ≡ stock f a
same_stock f a b same =
    let waits : waits_by f b.txs.txs ≡ waits_by f a.txs.txs = ap (λ s. waits_by f s.txs) same.txs in
    let locks : locks_by f b.txs.txs ≡ locks_by f a.txs.txs = ap (λ s. locks_by f s.txs) same.txs in
    let shelf : shelf_by f b.shelf ≡ shelf_by f a.shelf = ap (shelf_by f) same.shelf in
    omega (arith, waits, locks, shelf)
