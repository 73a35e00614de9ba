-- Who is named by the right on a node's shelf holds the page there, so its lock was used where each lock of the node was.
use Rattle.std.proofs.Common.{◌≡◌, ◌≢◌, refl, subst, ℕ, ◌||◌, Bool, true, false, List, [], ◌∷◌, Option, Some, None, is_some}
use Rattle.std.specs.List.{AllByRecursion}
use Rattle.std.proofs.lemmas.List.Elements.{recursion_from_All}
use Rattle.pcl_base.specs.declared.event.Event.{Event}
use Rattle.pcl_base.specs.declared.lock.Held.{Held}
use Rattle.pcl_base.specs.declared.lock.Kind.{Kind}
use Rattle.pcl_base.specs.declared.lock.Kind.TheVariants as kind
use Rattle.pcl_base.specs.declared.tx.Mode.{Mode}
use Rattle.pcl_base.specs.declared.tx.Mode.TheVariants.{Shared, Exclusive}
use Rattle.pcl_base.specs.declared.tx.TxId.{TxId}
use Rattle.node_rules.specs.OpenTxs.{is_open, held_by, pending_of}
use Rattle.node_rules.specs.Shelf as rules
use Rattle.node_rules.specs.Shelf.{right_on, readers_of}
use Rattle.node_rules.specs.Work.{Work}
use Rattle.cluster_rules.specs.Clusters.{Cluster, last_view}
use Rattle.home_laws.specs.Homes.{IsHome}
use Rattle.home_laws.proofs.Locks.{held_open}
use Rattle.page_protocol.specs.Authority.{LockUsed, HaveUsed, NamesUsed}
use Rattle.page_protocol.specs.Bytes.{Access}
use Rattle.page_protocol.specs.State.{Home, Page, has, lock_of}
use Rattle.page_protocol.specs.State as machine
use Rattle.page_protocol.proofs.Basics.{same_tx_true}
use Rattle.page_relation.specs.Homes.{wait_on, stand_of, held_stand, Stands, StandsIn, is_unborn}
use Rattle.page_relation.specs.Work.Keeping.{IsWorkOf}
use Rattle.page_relation.specs.Work.Landing.{land, Acts}
use Rattle.page_relation.proofs.WorkParts.Nodes.{at_node}

-- one of those who have something
named_of : (P : TxId → Type 0) (ts : List TxId) (t : TxId) → AllByRecursion P ts → has t ts ≡ true → P t
named_of P [] t all named = absurd (cc)
named_of P (u ∷ ts) t all named = by (machine.same_tx u t) refl named (λ n. named_of P ts t all.1 n)
  where
    by : (b : Bool) → machine.same_tx u t ≡ b → (b || has t ts) ≡ true → (has t ts ≡ true → P t) → P t
    by true same n rest = subst P (same_tx_true u t same) all.0
    by false other n rest = rest n

-- a lock at home is one in the machine
lock_used : (l : Option Held) (w : Option Mode) (have : Option ℕ) (script : List Access) → is_some l ≡ true → LockUsed (lock_of (stand_of l w have)) script → script ≢ []
lock_used None w have script there used = absurd (cc)
lock_used (Some l) w have script there used = by l.mode l.kind w used
  where
    by : (m : Mode) (k : Kind) (o : Option Mode) → LockUsed (lock_of (held_stand m k o)) script → script ≢ []
    by Exclusive k o u = u
    by Shared kind.Own None u = u
    by Shared kind.Own (Some m) u = u
    by Shared kind.Registered None u = u
    by Shared kind.Registered (Some m) u = u
    by Shared kind.Right None u = u
    by Shared kind.Right (Some m) u = u

stands_used : (opened unborn : Bool) (l : Option Held) (w : Option Mode) (h : Home) (script : List Access) → opened ≡ true → is_some l ≡ true → Stands opened unborn l w h
    → LockUsed (lock_of h) script → script ≢ []
stands_used true unborn l w h script begun there is used = lock_used l w is.0 script there (subst (λ (k : Home). LockUsed (lock_of k) script) is.1 used)
stands_used false unborn l w h script begun there is used = absurd (cc)

-- who holds the page at the acting node has accessed it
pub holder_used_law : (c : Cluster) (e : Event) (n p : ℕ) (w : Work) (a : Page) → Acts c n → HaveUsed a n → IsWorkOf c e n p w a
    → (t : TxId) → t.node ≡ n → is_some (held_by w.node.home.txs t p) ≡ true → a.script t ≢ []
unfolding land
holder_used_law c e n p w a acts used is t at held =
    stands_used (is_open w.node.home.txs t) (is_unborn w.node.view w.node t) (held_by w.node.home.txs t p) (wait_on (pending_of w.node.home.txs t) p) (a.home t) (a.script t)
    (held_open w.node.home.txs t p held) held
    (at_node c e n acts w t.node (λ o. StandsIn (last_view c).epoch o t p (a.home t)) at (is.homes.stands t)) (used t at)

-- so has who is named by its right
pub names_used_law : (c : Cluster) (e : Event) (n p : ℕ) (w : Work) (a : Page) (r : rules.Right) → Acts c n → IsHome w.node.home → right_on w.node.home.shelf p ≡ Some r → HaveUsed a n
    → IsWorkOf c e n p w a → NamesUsed a n r.readers
names_used_law c e n p w a r acts home there used is t at named =
    holder_used_law c e n p w a acts used is t at
    (named_of (λ u. is_some (held_by w.node.home.txs u p) ≡ true) r.readers t
    (subst (λ (o : Option rules.Right). AllByRecursion (λ u. is_some (held_by w.node.home.txs u p) ≡ true) (readers_of o)) there
    (recursion_from_All (λ u. is_some (held_by w.node.home.txs u p) ≡ true) (readers_of (right_on w.node.home.shelf p)) (home.readers p)))
    named)
