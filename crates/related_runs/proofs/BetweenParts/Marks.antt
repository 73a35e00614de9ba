-- Which locks of open transactions are exclusive, and that a reply of the step has granted each that is new.
use Rattle.std.proofs.Common.{◌≡◌, ◌⊎◌, inl, inr, refl, ap, sym, subst, ◌∙◌, ℕ, ◌==◌, not, Bool, true, false, List, [], ◌∷◌, ◌++◌, Option, Some, None, is_some, eqb-true}
use Rattle.std.specs.Prelude.{IfSome}
use Rattle.std.specs.List.{AllByRecursion}
use Rattle.pcl_base.specs.Limits.{Sizes}
use Rattle.pcl_base.specs.declared.lock.Held.{Held}
use Rattle.pcl_base.specs.declared.lock.Kind.{Kind}
use Rattle.pcl_base.specs.declared.lock.Pending.{Pending}
use Rattle.pcl_base.specs.declared.reply.Reply.{Reply}
use Rattle.pcl_base.specs.declared.reply.Reply.TheVariants as reply
use Rattle.pcl_base.specs.declared.tx.TxId.{TxId}
use Rattle.home_laws.specs.Homes.{is_exclusive_lock}
use Rattle.home_laws.proofs.Locks.{put_here, put_there}
use Rattle.node_rules.specs.Words.{pick, is_exclusive}
use Rattle.node_rules.specs.AccessRule.{mode_of_write, kinds_on}
use Rattle.node_rules.specs.InstallRule.{all_kinds, kinds_of_locks}
use Rattle.node_rules.specs.NodeState.{HomeState, partition}
use Rattle.node_rules.specs.OpenTxs.{OpenTx, OpenTxs, begin, lock_on, waits_on, kind_on, change_open, with_lock, put_lock, add, wait, set_kind, close_tx}
use Rattle.node_laws.proofs.Lists.{all_push, all_filter, all_map, all_weaker}

-- a reply that grants the transaction a write of the page
abbrev pub IsDoneOf : TxId → ℕ → Reply → Type 0
IsDoneOf t q (reply.Done u p v) = (u ≡ t) × (p ≡ q)
IsDoneOf t q _ = ⊥

-- one of some replies does
abbrev pub HasDone : TxId → ℕ → List Reply → Type 0
HasDone t q [] = ⊥
HasDone t q (r ∷ rs) = IsDoneOf t q r ⊎ HasDone t q rs

pub done_front : (t : TxId) (q : ℕ) (rs ss : List Reply) → HasDone t q rs → HasDone t q (rs ++ ss)
done_front t q [] ss h = absurd h
done_front t q (r ∷ rs) ss (inl h) = inl h
done_front t q (r ∷ rs) ss (inr h) = inr (done_front t q rs ss h)

pub done_back : (t : TxId) (q : ℕ) (rs ss : List Reply) → HasDone t q ss → HasDone t q (rs ++ ss)
done_back t q [] ss h = h
done_back t q (r ∷ rs) ss h = inr (done_back t q rs ss h)

-- ---- locks

-- an exclusive lock once another is put in is that one or was there
pub put_exclusive : (hs : List Held) (l : Held) (q : ℕ) → is_exclusive_lock (lock_on (put_lock hs l) q) ≡ true
    → ((l.page ≡ q) × (is_exclusive l.mode ≡ true)) ⊎ (is_exclusive_lock (lock_on hs q) ≡ true)
put_exclusive hs l q e = by (l.page == q) refl
  where
    by : (b : Bool) → (l.page == q) ≡ b → ((l.page ≡ q) × (is_exclusive l.mode ≡ true)) ⊎ (is_exclusive_lock (lock_on hs q) ≡ true)
    by true f =
        let same : l.page ≡ q = eqb-true l.page q f in
        inl (same, sym (ap is_exclusive_lock (put_here hs l)) ∙ ap (λ (k : ℕ). is_exclusive_lock (lock_on (put_lock hs l) k)) same ∙ e)
    by false f = inr (sym (ap is_exclusive_lock (put_there hs l q f)) ∙ e)

-- another kind leaves it so
pub kind_exclusive : (hs : List Held) (p : ℕ) (k : Kind) (q : ℕ) → is_exclusive_lock (lock_on (kind_on hs p k) q) ≡ is_exclusive_lock (lock_on hs q)
unfolding kind_on lock_on
kind_exclusive [] p k q = refl
kind_exclusive (h ∷ hs) p k q = by (h.page == p) (h.page == q) (kind_exclusive hs p k q)
  where
    last : (y : Bool) (x : Held) → is_exclusive x.mode ≡ is_exclusive h.mode → is_exclusive_lock (lock_on (kind_on hs p k) q) ≡ is_exclusive_lock (lock_on hs q)
        → is_exclusive_lock (pick y (Some x) (lock_on (kind_on hs p k) q)) ≡ is_exclusive_lock (pick y (Some h) (lock_on hs q))
    last true x same rest = same
    last false x same rest = rest

    by : (a b : Bool) → is_exclusive_lock (lock_on (kind_on hs p k) q) ≡ is_exclusive_lock (lock_on hs q)
        → is_exclusive_lock (pick ((pick a (record h { kind = k }) h).page == q) (Some (pick a (record h { kind = k }) h)) (lock_on (kind_on hs p k) q)) ≡ is_exclusive_lock (pick (h.page == q) (Some h) (lock_on hs q))
    by true b rest = last (h.page == q) (record h { kind = k }) refl rest
    by false b rest = last (h.page == q) h refl rest

pub kinds_exclusive : (c : Sizes) (r : ℕ) (k : Kind) (hs : List Held) (q : ℕ) → is_exclusive_lock (lock_on (kinds_of_locks c r k hs) q) ≡ is_exclusive_lock (lock_on hs q)
unfolding lock_on
kinds_exclusive c r k [] q = refl
kinds_exclusive c r k (h ∷ hs) q = by (partition c h.page == r) (kinds_exclusive c r k hs q)
  where
    last : (y : Bool) (x : Held) → is_exclusive x.mode ≡ is_exclusive h.mode → is_exclusive_lock (lock_on (kinds_of_locks c r k hs) q) ≡ is_exclusive_lock (lock_on hs q)
        → is_exclusive_lock (pick y (Some x) (lock_on (kinds_of_locks c r k hs) q)) ≡ is_exclusive_lock (pick y (Some h) (lock_on hs q))
    last true x same rest = same
    last false x same rest = rest

    by : (a : Bool) → is_exclusive_lock (lock_on (kinds_of_locks c r k hs) q) ≡ is_exclusive_lock (lock_on hs q)
        → is_exclusive_lock (pick ((pick a (record h { kind = k }) h).page == q) (Some (pick a (record h { kind = k }) h)) (lock_on (kinds_of_locks c r k hs) q)) ≡ is_exclusive_lock (pick (h.page == q) (Some h) (lock_on hs q))
    by true rest = last (h.page == q) (record h { kind = k }) refl rest
    by false rest = last (h.page == q) h refl rest

-- no lock
pub nothing_locked : (q : ℕ) → is_exclusive_lock (lock_on [] q) ≡ true → ⊥
unfolding lock_on
nothing_locked q e = cc

-- ---- open transactions

-- Names of node and birth; what each transaction asked for last; and the exclusive locks that were there before the step.
module _ (node born : ℕ) (f : ℕ → Option (ℕ × List ℕ)) (Old : ℕ → ℕ → Type 0) where
  abbrev pub name : ℕ → TxId
  name k = record { node = node; born = born; serial = k }

  -- an exclusive lock was there, or the write was granted for which its transaction had asked
  abbrev pub Has : List Reply → ℕ → ℕ → Type 0
  Has rs k q = Old k q ⊎ ((is_some (f k) ≡ true) × HasDone (name k) q rs)

  -- an access that waits is the one asked for last, in its mode
  abbrev pub WaitIs : ℕ → Pending → Type 0
  WaitIs k w = (w.write ≡ f k) × (w.mode ≡ mode_of_write w.write)

  abbrev pub LocksHave : List Reply → OpenTx → Type 0
  LocksHave rs x = (q : ℕ) → is_exclusive_lock (lock_on x.pages q) ≡ true → Has rs x.serial q

  abbrev pub IsFine : List Reply → OpenTx → Type 0
  IsFine rs x = IfSome x.waiting (WaitIs x.serial) × LocksHave rs x

  abbrev pub AreFine : List Reply → List OpenTx → Type 0
  AreFine rs xs = AllByRecursion (IsFine rs) xs

  -- the open transactions of the node
  abbrev pub FineTxs : List Reply → OpenTxs → Type 0
  FineTxs rs s = ((s.node ≡ node) × (s.born ≡ born)) × AreFine rs s.txs

  -- a home
  abbrev pub Fine : List Reply → HomeState → Type 0
  Fine rs h = FineTxs rs h.txs

  -- further replies
  has_more : (rs ss : List Reply) (k q : ℕ) → Has rs k q → Has (rs ++ ss) k q
  has_more rs ss k q (inl old) = inl old
  has_more rs ss k q (inr done) = inr (done.0, done_front (name k) q rs ss done.1)

  has_first : (r : Reply) (rs : List Reply) (k q : ℕ) → Has rs k q → Has (r ∷ rs) k q
  has_first r rs k q (inl old) = inl old
  has_first r rs k q (inr done) = inr (done.0, inr done.1)

  pub txs_more : (rs ss : List Reply) (s : OpenTxs) → FineTxs rs s → FineTxs (rs ++ ss) s
  txs_more rs ss s i =
      (i.0, all_weaker (IsFine rs) (IsFine (rs ++ ss)) (λ x a. (a.0, λ q e. has_more rs ss x.serial q (a.1 q e))) s.txs i.1)

  pub fine_more : (rs ss : List Reply) (h : HomeState) → Fine rs h → Fine (rs ++ ss) h
  fine_more rs ss h i = txs_more rs ss h.txs i

  pub fine_first : (r : Reply) (rs : List Reply) (h : HomeState) → Fine rs h → Fine (r ∷ rs) h
  fine_first r rs h i =
      (i.0, all_weaker (IsFine rs) (IsFine (r ∷ rs)) (λ x a. (a.0, λ q e. has_first r rs x.serial q (a.1 q e))) h.txs.txs i.1)

  module _ (rs : List Reply) where
    -- a change of one of them
    changed : (g : OpenTx → OpenTx) (k : ℕ) → ((x : OpenTx) → x.serial ≡ k → IsFine rs x → IsFine rs (g x)) → (xs : List OpenTx) → AreFine rs xs → AreFine rs (change_open g xs k)
    unfolding change_open
    changed g k on [] all = tt
    changed g k on (x ∷ xs) all = (by (x.serial == k) refl, changed g k on xs all.1)
      where
        by : (b : Bool) → (x.serial == k) ≡ b → IsFine rs (pick b (g x) x)
        by true e = on x (eqb-true x.serial k e) all.0
        by false e = all.0

    locked_fine : (l : Held) (x : OpenTx) → (is_exclusive l.mode ≡ true → Has rs x.serial l.page) → IsFine rs x → IsFine rs (with_lock l x)
    locked_fine l x has a = (by (waits_on x.waiting l.page), λ q e. locks q (put_exclusive x.pages l q e))
      where
        by : (b : Bool) → IfSome (pick b None x.waiting) (WaitIs x.serial)
        by true = tt
        by false = a.0

        locks : (q : ℕ) → ((l.page ≡ q) × (is_exclusive l.mode ≡ true)) ⊎ (is_exclusive_lock (lock_on x.pages q) ≡ true) → Has rs x.serial q
        locks q (inl new) = subst (Has rs x.serial) new.0 (has new.1)
        locks q (inr old) = a.1 q old

    pub added : (s : OpenTxs) (t : TxId) (l : Held) → (is_exclusive l.mode ≡ true → Has rs t.serial l.page) → FineTxs rs s → FineTxs rs (add s t l)
    unfolding add
    added s t l has all =
        (all.0, changed (with_lock l) t.serial (λ x same a. locked_fine l x (λ e. subst (λ (k : ℕ). Has rs k l.page) (sym same) (has e)) a) s.txs all.1)

    pub waits : (s : OpenTxs) (t : TxId) (w : Pending) → WaitIs t.serial w → FineTxs rs s → FineTxs rs (wait s t w)
    unfolding wait
    waits s t w is all = (all.0, changed (λ x. record x { waiting = Some w }) t.serial (λ x same a. (subst (λ (k : ℕ). WaitIs k w) (sym same) is, a.1)) s.txs all.1)

    kind_set : (s : OpenTxs) (t : TxId) (p : ℕ) (k : Kind) → FineTxs rs s → FineTxs rs (set_kind s t p k)
    unfolding set_kind
    kind_set s t p k all =
        (all.0, changed (λ x. record x { pages = kind_on x.pages p k }) t.serial (λ x same a. (a.0, λ q e. a.1 q (sym (kind_exclusive x.pages p k q) ∙ e))) s.txs all.1)

    pub kinds_set : (s : OpenTxs) (ts : List TxId) (p : ℕ) (k : Kind) → FineTxs rs s → FineTxs rs (kinds_on s ts p k)
    unfolding kinds_on
    kinds_set s [] p k all = all
    kinds_set s (t ∷ ts) p k all = kinds_set (set_kind s t p k) ts p k (kind_set s t p k all)

    pub closes : (s : OpenTxs) (t : TxId) → FineTxs rs s → FineTxs rs (close_tx s t)
    unfolding close_tx
    closes s t all = (all.0, all_filter (IsFine rs) (λ x. not (x.serial == t.serial)) s.txs all.1)

    pub begins : (s : OpenTxs) → FineTxs rs s → FineTxs rs (begin s)
    unfolding begin
    begins s all = (all.0, all_push (IsFine rs) s.txs _ all.1 (tt, λ q e. absurd (nothing_locked q e)))

    pub kinds_fine : (q : ℕ) (k : Kind) (h : HomeState) → Fine rs h → Fine rs (all_kinds q k h)
    kinds_fine q k h i = (
      i.0,
      all_map (IsFine rs) (IsFine rs) (λ (x : OpenTx). record x { pages = kinds_of_locks h.config q k x.pages })
          (λ x a. (a.0, λ p e. a.1 p (sym (kinds_exclusive h.config q k x.pages p) ∙ e))) h.txs.txs i.1,
    )
