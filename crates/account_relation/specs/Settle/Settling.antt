-- Settling an entry, against what the account has at its owner: items of those that wait, and rights that are out.
use Rattle.std.specs.Prelude.{◌≡◌, ◌==◌, ℕ, Bool, true, false, List, [], ◌∷◌, ⊤}
use Rattle.std.specs.List.{AllByRecursion, list_any}
use Rattle.pcl_base.specs.declared.lock.Decision.{Decision}
use Rattle.pcl_base.specs.declared.lock.Decision.TheVariants.{Grant, Revoke}
use Rattle.pcl_base.specs.declared.lock.RightMark.{RightMark}
use Rattle.pcl_base.specs.declared.lock.Waiter.{Waiter}
use Rattle.pcl_base.specs.declared.tx.Mode.{Mode}
use Rattle.pcl_base.specs.declared.tx.TxId.{TxId}
use Rattle.run_rules.specs.Causes.{without_first, change_first, may_revoke, out_if}
use Rattle.run_rules.specs.Ledger.{Want, Out, is_want}
use Rattle.node_rules.specs.LockRule.{LockEntry, has_right, settle}
use Rattle.node_rules.specs.Words.{pick, is_exclusive}
use Rattle.rule_laws.specs.Settling.{revoked}

-- whether some items have one of a transaction, a page and a mode
abbrev pub has_item : List Want → TxId → ℕ → Mode → Bool
has_item ws t p m = list_any (is_want t p m) ws

-- who waits from another node has an item
abbrev pub AreWanted : ℕ → ℕ → List Want → List Waiter → Type 0
AreWanted owner p ws waiting = AllByRecursion (λ (w : Waiter). (w.tx.node == owner) ≡ false → has_item ws w.tx p w.mode ≡ true) waiting

-- the items once a transaction was granted: one of another node takes its first one
abbrev pub items_after : ℕ → ℕ → TxId → Mode → List Want → List Want
items_after owner p t m ws = pick (t.node == owner) ws (without_first (is_want t p m) ws)

-- the items once some decisions were carried out
unfoldable pub items_left : ℕ → ℕ → List Decision → List Want → List Want
items_left owner p [] ws = ws
items_left owner p (Grant t m right have ∷ ds) ws = items_left owner p ds (items_after owner p t m ws)
items_left owner p (Revoke n ∷ ds) ws = items_left owner p ds ws

-- each grant to another node finds its item
unfoldable pub FindItems : ℕ → ℕ → List Decision → List Want → Type 0
FindItems owner p [] ws = ⊤
FindItems owner p (Grant t m right have ∷ ds) ws = ((t.node == owner) ≡ false → has_item ws t p m ≡ true) × FindItems owner p ds (items_after owner p t m ws)
FindItems owner p (Revoke n ∷ ds) ws = FindItems owner p ds ws

-- Where all that wait have items, each grant of a settling finds its own, and those that wait on have theirs.
abbrev pub GrantsFindItems : Type 0
GrantsFindItems =
    (owner p : ℕ) (e : LockEntry) (ws : List Want) → AreWanted owner p ws e.waiting
    → FindItems owner p (settle owner e).decisions ws × AreWanted owner p (items_left owner p (settle owner e).decisions ws) (settle owner e).entry.waiting

-- each right that isn't revoked is out, and no node has two
abbrev pub AreOut : ℕ → List Out → List RightMark → Type 0
AreOut p outs [] = ⊤
AreOut p outs (r ∷ rs) = (r.revoked ≡ false → list_any (may_revoke r.node p) outs ≡ true) × (has_right rs r.node ≡ false) × AreOut p outs rs

-- the rights that are out once some decisions were carried out
unfoldable pub outs_left : ℕ → List Decision → List Out → List Out
outs_left p [] outs = outs
outs_left p (Grant t m right have ∷ ds) outs = outs_left p ds (out_if right t.node p outs)
outs_left p (Revoke n ∷ ds) outs = outs_left p ds (change_first (may_revoke n p) (λ (r : Out). record r { revoked = true }) outs)

-- each revocation finds a right that is out and wasn't asked back
unfoldable pub FindOuts : ℕ → List Decision → List Out → Type 0
FindOuts p [] outs = ⊤
FindOuts p (Grant t m right have ∷ ds) outs = FindOuts p ds (out_if right t.node p outs)
FindOuts p (Revoke n ∷ ds) outs =
    (list_any (may_revoke n p) outs ≡ true) × FindOuts p ds (change_first (may_revoke n p) (λ (r : Out). record r { revoked = true }) outs)

-- Where all rights of an entry are out, each revocation of a settling finds its own, and those that stay are out.
abbrev pub RevocationsFindRights : Type 0
RevocationsFindRights =
    (owner p : ℕ) (e : LockEntry) (outs : List Out) → AreOut p outs e.rights
    → FindOuts p (settle owner e).decisions outs × AreOut p (outs_left p (settle owner e).decisions outs) (settle owner e).entry.rights

-- Where a settling revokes, one that wants to write waits on.
abbrev pub AWriterWaits : Type 0
AWriterWaits =
    (owner n : ℕ) (ns : List ℕ) (e : LockEntry) → revoked (settle owner e).decisions ≡ n ∷ ns → list_any (λ (w : Waiter). is_exclusive w.mode) (settle owner e).entry.waiting ≡ true
