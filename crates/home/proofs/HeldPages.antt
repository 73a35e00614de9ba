-- Which pages a transaction holds when locks get other kinds.
use Rattle.std.proofs.Common.{◌≡◌, ℕ, suc, ◌+◌, ◌<◌, ◌≤◌, ◌==◌, not, cond, Bool, true, false, Option, Some, None, is_some, List, [], ◌∷◌, length, drop, get_or, refl, ap, sym, ◌∙◌, arith}
use Rattle.std.specs.List.{All}
use Rattle.std.proofs.Math.Seq.{drop-cons}
use Rattle.std.proofs.Math.ListN.{drop_of_length-le}
use Rattle.std.proofs.lemmas.List.Elements.{All-weaker}
use Rattle.pcl_base.specs.declared.tx.TxId.{TxId}
use Rattle.pcl_base.specs.declared.lock.Held.{Held}
use Rattle.pcl_base.specs.declared.lock.Kind.{Kind}
use Rattle.node_rules.specs.Words.{pick}
use Rattle.node_rules.specs.OpenTxs.{OpenTx, OpenTxs, open_at, is_open, is_own, with_serial, lock_on, kind_on, held_by, pages_of_open, change_open, set_kind}
use Rattle.node_rules.specs.Shelf.{Right, right_on, spend}
use Rattle.node_rules.specs.NodeState.{HomeState}
use Rattle.node_rules.specs.AccessRule.{Answered, kinds_on, answer_with, on_revoke}
use Rattle.tx_table.specs.Counts.{waits_in, wait_count}

-- another kind on a page takes no page away
on_case : (b c : Bool) (h g : Held) (l m : Option Held) → is_some l ≡ is_some m → is_some (pick b (Some h) l) ≡ is_some (pick b (Some g) m)
on_case true c h g l m rest = refl
on_case false c h g l m rest = rest

page_kept : (b : Bool) (h : Held) (k : Kind) → (pick b (record h { kind = k }) h).page ≡ h.page
page_kept true h k = refl
page_kept false h k = refl

pub kind_keeps : (hs : List Held) (p q : ℕ) (k : Kind) → is_some (lock_on (kind_on hs p k) q) ≡ is_some (lock_on hs q)
unfolding lock_on kind_on
kind_keeps [] p q k = refl
kind_keeps (h ∷ hs) p q k =
    ap (λ n. is_some (pick (n == q) (Some (pick (h.page == p) (record h { kind = k }) h)) (lock_on (kind_on hs p k) q))) (page_kept (h.page == p) h k)
    ∙ on_case (h.page == q) true (pick (h.page == p) (record h { kind = k }) h) h (lock_on (kind_on hs p k) q) (lock_on hs q) (kind_keeps hs p q k)

-- whether an open transaction, if there is one, holds a page
abbrev holds : Option OpenTx → ℕ → Bool
holds o p = is_some (lock_on (pages_of_open o) p)

same_holds : (b c : Bool) (x : OpenTx) (p q : ℕ) (k : Kind) (l m : Option OpenTx) → holds l q ≡ holds m q
    → holds (pick b (Some (pick c (record x { pages = kind_on x.pages p k }) x)) l) q ≡ holds (pick b (Some x) m) q
same_holds true true x p q k l m rest = kind_keeps x.pages p q k
same_holds true false x p q k l m rest = refl
same_holds false c x p q k l m rest = rest

serial_kept : (c : Bool) (x : OpenTx) (p : ℕ) (k : Kind) → (pick c (record x { pages = kind_on x.pages p k }) x).serial ≡ x.serial
serial_kept true x p k = refl
serial_kept false x p k = refl

held_in : (xs : List OpenTx) (a b p q : ℕ) (k : Kind) → holds (with_serial (change_open (λ x. record x { pages = kind_on x.pages p k }) xs a) b) q ≡ holds (with_serial xs b) q
unfolding with_serial change_open
held_in [] a b p q k = refl
held_in (x ∷ xs) a b p q k =
    ap (λ n. holds (pick (n == b) (Some (pick (x.serial == a) (record x { pages = kind_on x.pages p k }) x)) (with_serial (change_open (λ x. record x { pages = kind_on x.pages p k }) xs a) b)) q) (serial_kept (x.serial == a) x p k)
    ∙ same_holds (x.serial == b) (x.serial == a) x p q k (with_serial (change_open (λ x. record x { pages = kind_on x.pages p k }) xs a) b) (with_serial xs b) (held_in xs a b p q k)

own_case : (own : Bool) (l m : Option OpenTx) (q : ℕ) → holds l q ≡ holds m q → holds (pick own l None) q ≡ holds (pick own m None) q
own_case true l m q same = same
own_case false l m q same = refl

-- who holds a page holds it when a lock gets another kind
pub set_kind_keeps : (s : OpenTxs) (t u : TxId) (p q : ℕ) (k : Kind) → is_some (held_by (set_kind s u p k) t q) ≡ is_some (held_by s t q)
unfolding set_kind
set_kind_keeps s t u p q k = own_case (is_own s t) _ _ q (held_in s.txs u.serial t.serial p q k)

-- who holds a page is open
held_case : (o : Option OpenTx) (p : ℕ) → holds o p ≡ true → is_some o ≡ true
unfolding lock_on
held_case None p held = held
held_case (Some x) p held = refl

pub held_is_open : (s : OpenTxs) (t : TxId) (p : ℕ) → is_some (held_by s t p) ≡ true → is_open s t ≡ true
held_is_open s t p held = held_case (open_at s t) p held

-- all others hold what they held
pub all_held : (s r : OpenTxs) (ts : List TxId) (u : TxId) (p : ℕ) (k : Kind) → r ≡ set_kind s u p k
    → All (λ t. is_some (held_by s t p) ≡ true) ts → All (λ t. is_some (held_by r t p) ≡ true) ts
all_held s r ts u p k changed held =
    All-weaker (λ t. is_some (held_by s t p) ≡ true) (λ t. is_some (held_by r t p) ≡ true) (λ t h. ap (λ x. is_some (held_by x t p)) changed ∙ (set_kind_keeps s t u p p k ∙ h)) ts held

-- the next one of those whose locks change
pub kinds_next : (s r : OpenTxs) (ts : List TxId) (i : ℕ) (d : TxId) (p : ℕ) (k : Kind) → i < length ts → r ≡ set_kind s (get_or ts i d) p k
    → kinds_on r (drop (i + 1) ts) p k ≡ kinds_on s (drop i ts) p k
unfolding kinds_on
kinds_next s r ts i d p k within changed =
    let more : i + 1 ≡ suc i = omega arith in
    ap (λ x. kinds_on x (drop (i + 1) ts) p k) changed
    ∙ (ap (λ n. kinds_on (set_kind s (get_or ts i d) p k) (drop n ts) p k) more
    ∙ ap (λ l. kinds_on s l p k) (sym (drop-cons ts i d within)))

-- none is left
pub kinds_over : (s : OpenTxs) (ts : List TxId) (i p : ℕ) (k : Kind) → length ts ≤ i → kinds_on s (drop i ts) p k ≡ s
unfolding kinds_on
kinds_over s ts i p k over = ap (λ l. kinds_on s l p k) (drop_of_length-le ts over)

-- other kinds change neither the node nor who waits
waiting_kept : (c : Bool) (x : OpenTx) (p : ℕ) (k : Kind) → waits_in (pick c (record x { pages = kind_on x.pages p k }) x) ≡ waits_in x
waiting_kept true x p k = refl
waiting_kept false x p k = refl

waits_kept : (xs : List OpenTx) (a p : ℕ) (k : Kind) → wait_count (change_open (λ x. record x { pages = kind_on x.pages p k }) xs a) ≡ wait_count xs
unfolding change_open
waits_kept [] a p k = refl
waits_kept (x ∷ xs) a p k =
    let first = waiting_kept (x.serial == a) x p k in
    let rest = waits_kept xs a p k in
    omega (arith, first, rest)

pub kinds_wait : (s : OpenTxs) (ts : List TxId) (p : ℕ) (k : Kind) → wait_count (kinds_on s ts p k).txs ≡ wait_count s.txs
unfolding kinds_on set_kind
kinds_wait s [] p k = refl
kinds_wait s (t ∷ ts) p k = kinds_wait (set_kind s t p k) ts p k ∙ waits_kept s.txs t.serial p k

pub kinds_node : (s : OpenTxs) (ts : List TxId) (p : ℕ) (k : Kind) → (kinds_on s ts p k).node ≡ s.node
unfolding kinds_on set_kind
kinds_node s [] p k = refl
kinds_node s (t ∷ ts) p k = kinds_node (set_kind s t p k) ts p k

-- a right that isn't there is spent without a change
spend_none : (rs : List Right) (p : ℕ) → right_on rs p ≡ None → spend rs p ≡ rs
unfolding right_on spend
spend_none [] p none = refl
spend_none (r ∷ rs) p none = by_test (r.page == p) none (spend_none rs p)
  where
    by_test : (b : Bool) → pick b (Some r) (right_on rs p) ≡ None → (right_on rs p ≡ None → spend rs p ≡ rs)
        → cond (not b) (r ∷ spend rs p) (spend rs p) ≡ r ∷ rs
    by_test true none rest = absurd (cc)
    by_test false none rest = ap (λ l. r ∷ l) (rest none)

-- a revocation without a right
pub revoked_none : (p : ℕ) (h : HomeState) (rs : List Right) → right_on h.shelf p ≡ None → rs ≡ spend h.shelf p
    → (let a : Answered = record { answer = None; home = record h { shelf = rs } } in a) ≡ on_revoke p h
unfolding on_revoke
revoked_none p h rs none spent =
    ap (λ (l : List Right). let a : Answered = record { answer = None; home = record h { shelf = l } } in a) (spent ∙ spend_none h.shelf p none)
    ∙ ap (λ o. answer_with p o h) (sym none)
