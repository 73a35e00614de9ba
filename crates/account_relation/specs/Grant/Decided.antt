-- What an owner sends for the decisions about a page, and that each of these messages has its cause.
use Rattle.std.specs.Prelude.{◌≡◌, ◌≢◌, ◌==◌, ℕ, ◌<◌, Bool, true, false, List, [], ◌∷◌, ◌++◌, length, Option, Some, ⊤}
use Rattle.std.specs.List.{AllByRecursion, list_all}
use Rattle.pcl_base.specs.declared.lock.Decision.{Decision}
use Rattle.pcl_base.specs.declared.lock.Decision.TheVariants.{Grant, Revoke}
use Rattle.pcl_base.specs.declared.message.Body.TheVariants as body
use Rattle.pcl_base.specs.declared.message.CopyPart.{CopyPart}
use Rattle.pcl_base.specs.declared.tx.Mode.{Mode}
use Rattle.pcl_base.specs.declared.tx.TxId.{TxId}
use Rattle.pcl_base.specs.declared.trace.Entry.{Entry}
use Rattle.run_rules.specs.Account.{one_send, and_then}
use Rattle.run_rules.specs.Causes.{Sending, holds}
use Rattle.run_rules.specs.Ledger.{wanted_at, rights_at, view_at}
use Rattle.run_rules.specs.Taking.{From}
use Rattle.node_rules.specs.LockRule.{LockEntry, settle}
use Rattle.node_rules.specs.LockTable.{LockTable, entry_at}
use Rattle.node_rules.specs.NodeState.{Outgoing, number_of, table_of}
use Rattle.node_rules.specs.OwnerRule.{settle_page}
use Rattle.node_rules.specs.Work.{Work, Goes}
use Rattle.cluster_rules.specs.Clusters.{sent_by}
use Rattle.account_relation.specs.Settle.Settling.{items_left, FindItems, outs_left, FindOuts}

-- a grant of a page to the node of its transaction, at some version and with some word of the copy
pub record IsGrantTo (t : TxId) (p : ℕ) (m : Mode) (right : Bool) (o : Outgoing) : Type 0 where
  pub to : o.to ≡ t.node
  pub version : ℕ
  pub copy : CopyPart
  pub says : o.message.body ≡ body.Grant (record { tx = t; page = p; mode = m; right = right; version = version; copy = copy })

-- a first message, and the rest
abbrev pub First : (Outgoing → Type 0) → (List Outgoing → Type 0) → List Outgoing → Type 0
First is rest [] = ⊥
First is rest (o ∷ os) = is o × rest os

-- nothing for a transaction of the node itself
abbrev pub UnlessOwn : Bool → (Outgoing → Type 0) → (List Outgoing → Type 0) → List Outgoing → Type 0
UnlessOwn true is rest os = rest os
UnlessOwn false is rest os = First is rest os

-- a revocation of a page to a node
abbrev pub IsRevocationTo : ℕ → ℕ → Outgoing → Type 0
IsRevocationTo n p o = (o.to ≡ n) × (o.message.body ≡ body.Revoke p)

-- these are the messages for some decisions of node n about page p, in their order
unfoldable pub AreSendsOf : ℕ → ℕ → List Decision → List Outgoing → Type 0
AreSendsOf n p [] os = os ≡ []
AreSendsOf n p (Grant t m right have ∷ ds) os = UnlessOwn (t.node == n) (IsGrantTo t p m right) (AreSendsOf n p ds) os
AreSendsOf n p (Revoke k ∷ ds) os = First (IsRevocationTo k p) (AreSendsOf n p ds) os

-- no transaction of the node itself is given a right
unfoldable pub GivesOwnNone : ℕ → List Decision → Type 0
GivesOwnNone n [] = ⊤
GivesOwnNone n (Grant t m right have ∷ ds) = ((t.node == n) ≡ true → right ≡ false) × GivesOwnNone n ds
GivesOwnNone n (Revoke k ∷ ds) = GivesOwnNone n ds

-- Settling gives none to its owner.
abbrev pub OwnersGetNoRights : Type 0
OwnersGetNoRights = (n : ℕ) (e : LockEntry) → GivesOwnNone n (settle n e).decisions

-- a work that goes on from another one, and has sent what some decisions say
pub record SendsOn (n p : ℕ) (ds : List Decision) (w x : Work) : Type 0 where
  pub more : List Outgoing
  pub sends : x.sends ≡ w.sends ++ more
  pub are : AreSendsOf n p ds more
  pub number : number_of x.node ≡ n

-- What the settling of a page sends, where its table is served: what its decisions say.
abbrev pub SettlesSend : Type 0
SettlesSend =
    (n p : ℕ) (t : LockTable) (w x : Work) → number_of w.node ≡ n → table_of w.node p ≡ Some t → t.serving ≡ true → settle_page p w ≡ Goes x
    → SendsOn n p (settle n (entry_at t p)).decisions w x

-- the sends of an entry, one after the other, before it is asked whether writers wait
unfoldable pub sent_on : Entry → Option From → ℕ → List Outgoing → Sending → Option Sending
sent_on e f n [] s = Some s
sent_on e f n (o ∷ os) s = and_then (one_send e f (Some n) (sent_by n o) s) (sent_on e f n os)

-- node n may send these: it holds the page's partition, and they go to others, at the epoch of its view
pub record MaySend (n p : ℕ) (os : List Outgoing) (s : Sending) : Type 0 where
  pub holds_page : holds s.ledger n p ≡ true
  pub wanted : n < length s.ledger.wanted
  pub rights : n < length s.ledger.rights
  pub well : AllByRecursion (λ (o : Outgoing). (o.to ≢ n) × (o.message.epoch ≡ (view_at s.ledger n).epoch)) os

-- they have their causes, and the items and rights of the node are used as the decisions say; rights of the page alone
-- were asked back
pub record HaveFound (e : Entry) (f : Option From) (n p : ℕ) (ds : List Decision) (os : List Outgoing) (s : Sending) : Type 0 where
  pub after : Sending
  pub goes : sent_on e f n os s ≡ Some after
  pub wanted : wanted_at after.ledger n ≡ items_left n p ds (wanted_at s.ledger n)
  pub rights : rights_at after.ledger n ≡ outs_left p ds (rights_at s.ledger n)
  pub asked_back : (test : ℕ → Bool) → test p ≡ true → list_all test s.revoked ≡ true → list_all test after.revoked ≡ true

-- The messages for decisions whose grants find their items and whose revocations find their rights have their causes.
abbrev pub DecisionsHaveCauses : Type 0
DecisionsHaveCauses =
    (e : Entry) (f : Option From) (n p : ℕ) (ds : List Decision) (os : List Outgoing) (s : Sending) → AreSendsOf n p ds os → GivesOwnNone n ds
    → FindItems n p ds (wanted_at s.ledger n) → FindOuts p ds (rights_at s.ledger n) → MaySend n p os s → HaveFound e f n p ds os s
