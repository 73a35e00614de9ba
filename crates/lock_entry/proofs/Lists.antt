-- What the lists of an entry have, in the words of iterators.
use Rattle.std.proofs.Common.{◌≡◌, ℕ, ◌==◌, Bool, true, false, not, ◌&&◌, ◌||◌, List, [], ◌∷◌, Some, None, is_some, cond, zero, suc, ◌+◌, ◌<◌, ◌≤◌, length, get_or, drop, drop-cons, refl, ap, sym, ◌∙◌, arith}
use Rattle.std.specs.List.{list_any}
use Rattle.std.proofs.lemmas.Bool.Decides.{nat_tests}
use Rattle.pcl_base.specs.declared.tx.TxId.{TxId}
use Rattle.pcl_base.specs.declared.tx.Mode.TheVariants.{Shared}
use Rattle.pcl_base.specs.declared.lock.Holder.{Holder}
use Rattle.pcl_base.specs.declared.lock.Waiter.{Waiter}
use Rattle.node_rules.specs.Words.{pick, same_tx, is_exclusive}
use Rattle.node_rules.specs.LockRule.{LockEntry, mode_of, has_right, first_upgrade, waiting_without, gives_right, register}

-- nothing is left past the end
pub drop_past : {X : Type 0} (xs : List X) (i : ℕ) → length xs ≤ i → drop i xs ≡ []
drop_past [] zero past = refl
drop_past [] (suc i) past = refl
drop_past (x ∷ xs) zero past = absurd (omega arith)
drop_past (x ∷ xs) (suc i) past = drop_past xs i (omega arith)

-- what a look past the end of holders gives
abbrev pub no_holder : Holder
no_holder = record { tx = record { node = 0; born = 0; serial = 0 }; mode = Shared }

and_assoc : (a b c : Bool) → (a && b) && c ≡ (a && (b && c))
and_assoc true b c = refl
and_assoc false b c = refl

-- the test of a holder's fields one after another
pub same_by : (hs : List Holder) (t : TxId) (i : ℕ) (r : Bool)
    → r ≡ ((get_or hs i no_holder).tx.node == t.node && ((get_or hs i no_holder).tx.born == t.born && (get_or hs i no_holder).tx.serial == t.serial))
    → same_tx (get_or hs i no_holder).tx t ≡ r
same_by hs t i r tested =
    let u = (get_or hs i no_holder).tx in
    and_assoc (u.node == t.node) (u.born == t.born) (u.serial == t.serial) ∙ sym tested

-- the holder at a place is the transaction's, or another's
pub mode_here : (hs : List Holder) (t : TxId) (i : ℕ) (d : Holder) → i < length hs → same_tx (get_or hs i d).tx t ≡ true
    → mode_of (drop i hs) t ≡ Some (get_or hs i d).mode
unfolding mode_of
mode_here hs t i d within same =
    let h = get_or hs i d in
    ap (λ l. mode_of l t) (drop-cons hs i d within) ∙ ap (λ b. pick b (Some h.mode) (mode_of (drop (suc i) hs) t)) same

pub mode_next : (hs : List Holder) (t : TxId) (i : ℕ) (d : Holder) → i < length hs → same_tx (get_or hs i d).tx t ≡ false
    → mode_of (drop (i + 1) hs) t ≡ mode_of (drop i hs) t
unfolding mode_of
mode_next hs t i d within other =
    let h = get_or hs i d in
    let next : i + 1 ≡ suc i = omega arith in
    ap (λ k. mode_of (drop k hs) t) next
    ∙ sym (ap (λ l. mode_of l t) (drop-cons hs i d within) ∙ ap (λ b. pick b (Some h.mode) (mode_of (drop (suc i) hs) t)) other)

pub mode_past : (hs : List Holder) (t : TxId) (i : ℕ) → length hs ≤ i → mode_of (drop i hs) t ≡ None
unfolding mode_of
mode_past hs t i past = ap (λ l. mode_of l t) (drop_past hs i past)

-- the one that waits at a place is a holder, or isn't
pub upgrade_here : (hs : List Holder) (ws : List Waiter) (i : ℕ) (d : Waiter) → i < length ws
    → is_some (mode_of hs (get_or ws i d).tx) ≡ true → first_upgrade hs (drop i ws) ≡ Some (get_or ws i d)
unfolding first_upgrade
upgrade_here hs ws i d within holds =
    let w = get_or ws i d in
    ap (λ l. first_upgrade hs l) (drop-cons ws i d within) ∙ ap (λ b. pick b (Some w) (first_upgrade hs (drop (suc i) ws))) holds

pub upgrade_next : (hs : List Holder) (ws : List Waiter) (i : ℕ) (d : Waiter) → i < length ws
    → is_some (mode_of hs (get_or ws i d).tx) ≡ false → first_upgrade hs (drop (i + 1) ws) ≡ first_upgrade hs (drop i ws)
unfolding first_upgrade
upgrade_next hs ws i d within other =
    let w = get_or ws i d in
    let next : i + 1 ≡ suc i = omega arith in
    ap (λ k. first_upgrade hs (drop k ws)) next
    ∙ sym (ap (λ l. first_upgrade hs l) (drop-cons ws i d within) ∙ ap (λ b. pick b (Some w) (first_upgrade hs (drop (suc i) ws))) other)

pub upgrade_past : (hs : List Holder) (ws : List Waiter) (i : ℕ) → length ws ≤ i → first_upgrade hs (drop i ws) ≡ None
unfolding first_upgrade
upgrade_past hs ws i past = ap (λ l. first_upgrade hs l) (drop_past ws i past)

pub exclusive_beside_step : (b x rest now : Bool) (ws : List Waiter) (w : Waiter) → x ≡ is_exclusive w.mode → rest ≡ list_any (λ w. is_exclusive w.mode) ws
    → ((not b && x) || rest) ≡ list_any (λ w. is_exclusive w.mode) (cond (not b) (w ∷ ws) ws)
exclusive_beside_step true x rest now ws w e same = same
exclusive_beside_step false x rest now ws w e same = cc

-- an exclusive request waits among the others
pub exclusive_waits_beside : (ws : List Waiter) (t : TxId)
    → list_any (λ w. not (same_tx w.tx t) && is_exclusive w.mode) ws ≡ list_any (λ w. is_exclusive w.mode) (waiting_without ws t)
exclusive_waits_beside [] t = refl
exclusive_waits_beside (w ∷ ws) t =
    exclusive_beside_step (same_tx w.tx t) (is_exclusive w.mode) (list_any (λ w. not (same_tx w.tx t) && is_exclusive w.mode) ws) true (waiting_without ws t) w refl (exclusive_waits_beside ws t)

-- registering transactions is registering the first one and then the rest
pub register_first : (hs : List Holder) (t : TxId) (ts : List TxId) → register hs (t ∷ ts) ≡ register (register hs (t ∷ [])) ts
unfolding register
register_first hs t ts = refl

-- one more transaction is registered
pub register_step : (hs later : List Holder) (ts : List TxId) (i : ℕ) (d : TxId) → i < length ts
    → later ≡ register hs (get_or ts i d ∷ []) → register later (drop (i + 1) ts) ≡ register hs (drop i ts)
register_step hs later ts i d within registered =
    let t = get_or ts i d in
    let next : suc i ≡ i + 1 = omega arith in
    let front : drop i ts ≡ t ∷ drop (i + 1) ts = drop-cons ts i d within ∙ ap (λ k. t ∷ drop k ts) next in
    ap (λ l. register l (drop (i + 1) ts)) registered
    ∙ (sym (register_first hs t (drop (i + 1) ts)) ∙ ap (λ l. register hs l) (sym front))

-- all are registered
pub register_end : (hs : List Holder) (ts : List TxId) (i : ℕ) → length ts ≤ i → hs ≡ register hs (drop i ts)
unfolding register
register_end hs ts i past = sym (ap (λ l. register hs l) (drop_past ts i past))

not_equal : (m n : ℕ) → (m ≡ n → ⊥) → (m == n) ≡ false
not_equal m n other = grind (arith, nat_tests)

-- a right is given where the node isn't the owner, has none, and no exclusive request waits beside
pub gives_right_by : (owner : ℕ) (e : LockEntry) (w : Waiter) (waits : Bool) → (w.tx.node ≡ owner → ⊥) → has_right e.rights w.tx.node ≡ false
    → waits ≡ list_any (λ x. not (same_tx x.tx w.tx) && is_exclusive x.mode) e.waiting → not waits ≡ gives_right owner e w
unfolding gives_right
gives_right_by owner e w waits elsewhere none beside =
    let other = not_equal w.tx.node owner elsewhere in
    let same = beside ∙ exclusive_waits_beside e.waiting w.tx in
    sym (λ i. not (other i) && (not (none i) && not (sym same i)))
