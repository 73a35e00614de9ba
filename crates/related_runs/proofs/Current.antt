-- Who holds a page of a related cluster and doesn't wait for it has the page's current version.
use Rattle.std.proofs.Common.{◌≡◌, refl, sym, ap, subst, ◌∙◌, ℕ, ◌<◌, ◌==◌, Bool, true, false, List, Option, Some, None, is_some}
use Rattle.std.specs.Prelude.{IfSome}
use Rattle.pcl_base.specs.Limits.{Sizes}
use Rattle.pcl_base.specs.declared.lock.Held.{Held}
use Rattle.pcl_base.specs.declared.lock.Kind.{Kind}
use Rattle.pcl_base.specs.declared.lock.Kind.TheVariants as kind
use Rattle.pcl_base.specs.declared.lock.Pending.{Pending}
use Rattle.pcl_base.specs.declared.tx.Mode.{Mode}
use Rattle.pcl_base.specs.declared.tx.Mode.TheVariants.{Shared, Exclusive}
use Rattle.pcl_base.specs.declared.tx.TxId.{TxId}
use Rattle.node_rules.specs.Words.{pick}
use Rattle.node_rules.specs.BufferRule as buffer
use Rattle.node_rules.specs.BufferRule.{find}
use Rattle.node_rules.specs.NodeState.{HomeState, NodeState}
use Rattle.node_rules.specs.OpenTxs.{is_open, is_own, held_by, pending_of, waits_on, with_serial}
use Rattle.home_laws.proofs.Locks.{held_open}
use Rattle.home_laws.proofs.Tests.{and_left, number_equal}
use Rattle.cluster_rules.specs.Clusters.{Cluster, node_at, last_view}
use Rattle.cluster_laws.specs.Sound.{IsMember}
use Rattle.page_protocol.specs.Bytes.{Leaves}
use Rattle.page_protocol.specs.Homes.{seen}
use Rattle.page_protocol.specs.State.{Home, IsGranted, Page, current, version_of}
use Rattle.page_protocol.proofs.Keeps.{reached_holds}
use Rattle.page_protocol.proofs.Promises.{fresh_law}
use Rattle.page_laws.specs.Moment.Looks.{accesses_in}
use Rattle.page_relation.specs.Homes.{shared_stand, held_stand, IsOpenAs, Stands, StandsIn, is_unborn, wait_on}
use Rattle.page_relation.specs.Looks.{copy_in, slot_in, slot_of}
use Rattle.page_relation.specs.Relation.{IsPageOf}
use Rattle.page_relation.specs.Together.{IsRelated}

-- who holds a page and doesn't wait for it is granted it
shared_granted : (k : Kind) → IsGranted (shared_stand k None)
shared_granted kind.Own = tt
shared_granted kind.Registered = tt
shared_granted kind.Right = tt

held_granted : (m : Mode) (k : Kind) → IsGranted (held_stand m k None)
held_granted Exclusive k = tt
held_granted Shared k = shared_granted k

not_waited : (o : Option Pending) (q : ℕ) → waits_on o q ≡ false → wait_on o q ≡ None
not_waited None q e = refl
not_waited (Some w) q e = ap (λ b. pick b (Some w.mode) None) e

granted_as : (o : Option Held) (w : Option Mode) (h : Home) → is_some o ≡ true → w ≡ None → IsOpenAs o w h → IsGranted h
granted_as None w h some none is = absurd (cc)
granted_as (Some l) w h some none is =
    subst IsGranted (sym (is.1 ∙ ap (λ (x : Option Mode). held_stand l.mode l.kind x) none)) (held_granted l.mode l.kind)

stands_granted : (b u : Bool) (o : Option Held) (w : Option Mode) (h : Home) → b ≡ true → is_some o ≡ true → w ≡ None → Stands b u o w h → IsGranted h
stands_granted true u o w h on some none is = granted_as o w h some none is
stands_granted false u o w h on some none is = absurd (cc)

same_version : (o : Option buffer.Copy) → version_of (copy_in o) ≡ buffer.version_of_copy o
same_version None = refl
same_version (Some x) = refl

-- whose home it is
own_node : (h : HomeState) (t : TxId) → is_open h.txs t ≡ true → t.node ≡ h.txs.node
own_node h t there = by (is_own h.txs t) refl there
  where
    by : (b : Bool) → is_own h.txs t ≡ b → is_some (pick b (with_serial h.txs.txs t.serial) None) ≡ true → t.node ≡ h.txs.node
    by true own e = number_equal t.node h.txs.node (and_left (t.node == h.txs.node) (t.born == h.txs.born) own)
    by false own e = absurd (cc)

-- the current version at its node, and what its accesses leave
abbrev IsFreshNow : Page → TxId → Type 0
IsFreshNow a t = (version_of (a.slot t.node) ≡ Some a.now) × Leaves (a.script t) (a.hist a.now) (seen a t)

module _ (blank : List ℕ) (d : Cluster) (r : IsRelated blank d) (n : ℕ) (m : NodeState) (up : node_at d n ≡ Some m) where
  pub member : IsMember d.config d.views n m
  member = subst (λ (o : Option NodeState). IfSome o (IsMember d.config d.views n)) up (r.cluster.members n)

  -- what a transaction holds and doesn't wait for: its node has the current version, and its accesses leave something
  pub record HasCurrent (t : TxId) (q : ℕ) : Type 0 where
    pub low : q < d.config.pages
    pub version : find m.home.pool q ≡ Some (r.pages.page q).now
    pub leaves : Leaves (accesses_in t q d.trace) (current (r.pages.page q)).bytes (seen (r.pages.page q) t)

  pub has_current : (t : TxId) (q : ℕ) → is_some (held_by m.home.txs t q) ≡ true → waits_on (pending_of m.home.txs t) q ≡ false → HasCurrent t q
  unfolding slot_of
  has_current t q holds waits =
      record {
        low = low;
        version =
            sym (same_version (buffer.copy_at m.home.pool q)) ∙ sym (ap (λ (o : Option NodeState). version_of (slot_in o q)) here)
            ∙ ap version_of (rel.copies.slot_same t.node) ∙ fresh.0;
        leaves = subst (λ xs. Leaves xs (current (r.pages.page q)).bytes (seen (r.pages.page q) t)) (rel.homes.scripts t) fresh.1;
      }
    where
      low : q < d.config.pages
      low = subst (λ (c : Sizes). q < c.pages) member.config (member.sound.home.held t q holds).0

      rel : IsPageOf d q (r.pages.page q)
      rel = r.pages.related q low

      there : is_open m.home.txs t ≡ true
      there = held_open m.home.txs t q holds

      here : node_at d t.node ≡ Some m
      here = ap (node_at d) (own_node m.home t there ∙ member.number) ∙ up

      granted : IsGranted ((r.pages.page q).home t)
      granted =
          stands_granted (is_open m.home.txs t) (is_unborn m.view m t) (held_by m.home.txs t q) (wait_on (pending_of m.home.txs t) q) ((r.pages.page q).home t) there holds
          (not_waited (pending_of m.home.txs t) q waits)
          (subst (λ (o : Option NodeState). StandsIn (last_view d).epoch o t q ((r.pages.page q).home t)) here (rel.homes.stands t))

      fresh : IsFreshNow (r.pages.page q) t
      fresh = fresh_law blank (r.pages.page q) (reached_holds blank (r.pages.page q) (r.pages.reached q low)) t granted
