-- What the node of a transaction has of the page, where the relation holds.
use Rattle.std.proofs.Common.{◌≡◌, refl, ap, sym, subst, ◌∙◌, ℕ, ◌==◌, ◌&&◌, Bool, true, false, List, Option, Some, None, arith}
use Rattle.std.proofs.lemmas.Bool.Decides.{nat_tests}
use Rattle.pcl_base.specs.declared.event.Event.{Event}
use Rattle.pcl_base.specs.declared.lock.Held.{Held}
use Rattle.pcl_base.specs.declared.lock.Pending.{Pending}
use Rattle.pcl_base.specs.declared.tx.Mode.{Mode}
use Rattle.pcl_base.specs.declared.tx.Mode.TheVariants.{Shared, Exclusive}
use Rattle.pcl_base.specs.declared.tx.TxId.{TxId}
use Rattle.node_rules.specs.AccessRule.{bytes_or, bytes_read}
use Rattle.node_rules.specs.BufferRule as buffer
use Rattle.node_rules.specs.BufferRule.{bytes_of_copy, copy_at, find, private_bytes, version_of_copy}
use Rattle.node_rules.specs.NodeState.{NodeState}
use Rattle.node_rules.specs.OpenTxs.{is_open, held_by, pending_of}
use Rattle.node_rules.specs.Words.{same_tx}
use Rattle.node_rules.specs.Work.{Work}
use Rattle.cluster_rules.specs.Clusters.{Cluster, last_view}
use Rattle.page_laws.specs.Look.Parts.{SameLife, is_place}
use Rattle.page_protocol.specs.Homes.{seen_by, seen}
use Rattle.page_protocol.specs.State.{Home, Fresh, Asking, Holding, HoldingAsks, Reading, ReadingAsks, Ended, Gone, Page, bytes_of, version_of, upd}
use Rattle.page_protocol.specs.State as machine
use Rattle.page_protocol.proofs.Basics.{by_test, same_tx_true}
use Rattle.page_relation.specs.Homes.{IsOpenAs, Stands, StandsIn, wait_on, image_of, ImageIn, is_unborn}
use Rattle.page_relation.specs.Looks.{copy_in, slot_in, slot_of}
use Rattle.page_relation.specs.Work.Keeping.{IsWorkOf}
use Rattle.page_relation.specs.Work.Landing.{land, Acts}
use Rattle.page_relation.specs.Work.Unseen.{SameStanding}
use Rattle.page_relation.proofs.WorkParts.Nodes.{at_node, stands_as, unborn_same}
use Rattle.end_relation.specs.Access.Altered.{MayBecome}

pub own_page : (p : ℕ) → (p == p) ≡ true
own_page p = grind (arith, nat_tests)

-- the two tests of transactions are the same
pub tests_same : (t u : TxId) → same_tx t u ≡ machine.same_tx t u
tests_same t u = by (t.node == u.node) (t.born == u.born) (t.serial == u.serial)
  where
    by : (a b c : Bool) → (a && b && c) ≡ (a && (b && c))
    by true b c = refl
    by false b c = refl

none_of_both : (a b : Bool) → a ≡ false → (a && b) ≡ false
none_of_both true b e = absurd (cc)
none_of_both false b e = refl

-- another transaction has another place
pub apart : (t u : TxId) (p : ℕ) → machine.same_tx u t ≡ false → is_place t p u p ≡ false
apart t u p e = none_of_both (same_tx u t) (p == p) (tests_same u t ∙ e)

pub rules_apart : (t u : TxId) → machine.same_tx u t ≡ false → same_tx u t ≡ false
rules_apart t u e = tests_same u t ∙ e

-- what a read gives is what the machine sees
pub seen_is : (h : Home) (image slot : List ℕ) → bytes_or (image_of h image) slot ≡ seen_by h image slot
seen_is Fresh image slot = refl
seen_is (Asking m have) image slot = refl
seen_is (Holding Shared) image slot = refl
seen_is (Holding Exclusive) image slot = refl
seen_is HoldingAsks image slot = refl
seen_is Reading image slot = refl
seen_is ReadingAsks image slot = refl
seen_is (Ended v e) image slot = refl
seen_is Gone image slot = refl

copy_bytes : (o : Option buffer.Copy) → bytes_of_copy o ≡ bytes_of (copy_in o)
copy_bytes None = refl
copy_bytes (Some x) = refl

pub copy_version : (o : Option buffer.Copy) → version_of_copy o ≡ version_of (copy_in o)
copy_version None = refl
copy_version (Some x) = refl

-- a home becomes itself
pub may_stay : (h : Home) → MayBecome h h
may_stay h = record { asked = λ r e have is. is; ended = λ v e is. is }

-- one transaction stands elsewhere
pub may_one : (a : Page) (t : TxId) (h : Home) → MayBecome (a.home t) h → (u : TxId) → MayBecome (a.home u) (upd a.home t h u)
may_one a t h here u =
    by_test (machine.same_tx u t) (MayBecome (a.home u)) h (a.home u) (λ e. subst (λ (v : TxId). MayBecome (a.home v) h) (sym (same_tx_true u t e)) here) (λ e. may_stay (a.home u))

-- another transaction stands as before
pub stands_like : (s x : NodeState) (last p : ℕ) (u : TxId) (h : Home) → SameStanding s x → SameLife s.home x.home → held_by x.home.txs u p ≡ held_by s.home.txs u p
    → wait_on (pending_of x.home.txs u) p ≡ wait_on (pending_of s.home.txs u) p → StandsIn last (Some s) u p h → StandsIn last (Some x) u p h
stands_like s x last p u h standing life held waits =
    stands_as h (is_open s.home.txs u) (is_open x.home.txs u) (is_unborn s.view s u) (is_unborn x.view x u) (held_by s.home.txs u p) (held_by x.home.txs u p)
    (wait_on (pending_of s.home.txs u) p) (wait_on (pending_of x.home.txs u) p) (life.alive u) (unborn_same s x standing u life) held waits

-- an open transaction by what it holds and waits for
pub stands_open : (x : NodeState) (last p : ℕ) (u : TxId) (h : Home) (l : Option Held) (m : Option Mode) → is_open x.home.txs u ≡ true → held_by x.home.txs u p ≡ l
    → wait_on (pending_of x.home.txs u) p ≡ m → IsOpenAs l m h → StandsIn last (Some x) u p h
stands_open x last p u h l m opened held waits is =
    stands_as h true (is_open x.home.txs u) (is_unborn x.view x u) (is_unborn x.view x u) l (held_by x.home.txs u p) m (wait_on (pending_of x.home.txs u) p) opened refl held waits is

module _ (c : Cluster) (e : Event) (n p : ℕ) (acts : Acts c n) (w : Work) (a : Page) (related : IsWorkOf c e n p w a) where
  -- the node's copy
  pub slot_here : copy_in (copy_at w.node.home.pool p) ≡ a.slot n
  unfolding slot_of
  slot_here = at_node c e n acts w n (λ o. slot_in o p ≡ a.slot n) refl (related.copies.slot_same n)

  module _ (t : TxId) (mine : t.node ≡ n) where
    pub slot_of_tx : copy_in (copy_at w.node.home.pool p) ≡ a.slot t.node
    slot_of_tx = slot_here ∙ sym (ap a.slot mine)

    -- its version
    pub found : find w.node.home.pool p ≡ version_of (a.slot t.node)
    found = copy_version (copy_at w.node.home.pool p) ∙ ap version_of slot_of_tx

    -- the private copy of the transaction
    pub private_here : private_bytes w.node.home.pool t p ≡ image_of (a.home t) (a.image t)
    private_here = at_node c e n acts w t.node (λ o. ImageIn o t p (a.home t) (a.image t)) mine (related.homes.images t)

    -- what it reads
    pub read_here : bytes_read w.node.home.pool t p ≡ seen a t
    read_here =
        ap (λ o. bytes_or o (bytes_of_copy (copy_at w.node.home.pool p))) private_here
        ∙ ap (bytes_or (image_of (a.home t) (a.image t))) (copy_bytes (copy_at w.node.home.pool p) ∙ ap bytes_of slot_of_tx)
        ∙ seen_is (a.home t) (a.image t) (bytes_of (a.slot t.node))

    -- where it stands
    pub stands_here : StandsIn (last_view c).epoch (Some w.node) t p (a.home t)
    unfolding land
    stands_here = at_node c e n acts w t.node (λ o. StandsIn (last_view c).epoch o t p (a.home t)) mine (related.homes.stands t)

    pub open_here : is_open w.node.home.txs t ≡ true → IsOpenAs (held_by w.node.home.txs t p) (wait_on (pending_of w.node.home.txs t) p) (a.home t)
    open_here opened =
        subst (λ (b : Bool). Stands b (is_unborn w.node.view w.node t) (held_by w.node.home.txs t p) (wait_on (pending_of w.node.home.txs t) p) (a.home t)) opened stands_here

    pub idle_here : is_open w.node.home.txs t ≡ true → pending_of w.node.home.txs t ≡ None → IsOpenAs (held_by w.node.home.txs t p) None (a.home t)
    idle_here opened idle = subst (λ (o : Option Pending). IsOpenAs (held_by w.node.home.txs t p) (wait_on o p) (a.home t)) idle (open_here opened)
