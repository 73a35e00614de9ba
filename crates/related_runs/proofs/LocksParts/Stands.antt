-- Who has a lock in a state of the machine of one page has accessed the page: between two events, and within a step.
use Rattle.std.proofs.Common.{◌≡◌, ◌≢◌, refl, ap, sym, subst, ◌∙◌, ℕ, ◌==◌, ◌||◌, nat_lt, suc, Bool, true, false, List, [], ◌∷◌, ◌++◌, Option, Some, None, is_some, arith, eqb-true}
use Rattle.std.specs.Prelude.{IfSome}
use Rattle.std.specs.List.{All}
use Rattle.pcl_base.specs.declared.event.Event.{Event}
use Rattle.pcl_base.specs.declared.lock.Held.{Held}
use Rattle.pcl_base.specs.declared.lock.Kind.{Kind}
use Rattle.pcl_base.specs.declared.lock.Kind.TheVariants as kind
use Rattle.pcl_base.specs.declared.trace.Entry.{Entry}
use Rattle.pcl_base.specs.declared.tx.Mode.{Mode}
use Rattle.pcl_base.specs.declared.tx.Mode.TheVariants.{Shared, Exclusive}
use Rattle.pcl_base.specs.declared.tx.TxId.{TxId}
use Rattle.home_laws.specs.Homes.{IsHome}
use Rattle.node_rules.specs.NodeState.{NodeState}
use Rattle.node_rules.specs.OpenTxs.{is_open, held_by, pending_of}
use Rattle.node_rules.specs.Shelf as shelf
use Rattle.node_rules.specs.Shelf.{right_on, readers_of}
use Rattle.node_rules.specs.Work.{Work}
use Rattle.cluster_rules.specs.Clusters.{Cluster, node_at, last_view}
use Rattle.page_protocol.specs.Bytes.{Access}
use Rattle.page_protocol.specs.State.{Home, Fresh, Asking, Holding, HoldingAsks, Reading, ReadingAsks, Ended, Gone, IsFresh, IsClosed, lock_of, same_tx, has, Page}
use Rattle.page_protocol.proofs.Basics.{same_tx_true}
use Rattle.page_laws.specs.Moment.Looks.{accesses_in}
use Rattle.page_relation.specs.Homes.{shared_stand, held_stand, stand_of, Stands, StandsIn, is_unborn, wait_on}
use Rattle.page_relation.specs.Relation.{IsPageOf}
use Rattle.page_relation.specs.Work.Landing.{IsLanded, land, trace_of}
use Rattle.page_relation.proofs.WorkParts.Landed.{landing_is_seen_law}
use Rattle.page_protocol.specs.Authority.{LockUsed}
use Rattle.related_runs.specs.Locks.Seen.{UsedIsSeen, IsEarly, WorksAreUsed, ReadersAreUsed}
use Rattle.related_runs.specs.Locks.Used.{NodeUses}
use Rattle.related_runs.proofs.LocksParts.Accesses.{ever_accessed, some_same}
use Rattle.related_runs.proofs.LocksParts.Stepping.{there_is}

-- ---- where a transaction stands

module _ (script : List Access) where
  fresh_free : (h : Home) → IsFresh h → LockUsed (lock_of h) script
  fresh_free Fresh is = tt
  fresh_free (Asking m have) is = absurd is
  fresh_free (Holding m) is = absurd is
  fresh_free HoldingAsks is = absurd is
  fresh_free Reading is = absurd is
  fresh_free ReadingAsks is = absurd is
  fresh_free (Ended c e) is = absurd is
  fresh_free Gone is = absurd is

  closed_free : (h : Home) → IsClosed h → LockUsed (lock_of h) script
  closed_free Fresh is = tt
  closed_free (Asking m have) is = absurd is
  closed_free (Holding m) is = absurd is
  closed_free HoldingAsks is = absurd is
  closed_free Reading is = absurd is
  closed_free ReadingAsks is = absurd is
  closed_free (Ended c e) is = tt
  closed_free Gone is = tt

  -- a lock that was used
  shared_used : (k : Kind) (w : Option Mode) → script ≢ [] → LockUsed (lock_of (shared_stand k w)) script
  shared_used kind.Own None some = some
  shared_used kind.Own (Some m) some = some
  shared_used kind.Registered None some = some
  shared_used kind.Registered (Some m) some = some
  shared_used kind.Right None some = some
  shared_used kind.Right (Some m) some = some

  held_used : (m : Mode) (k : Kind) (w : Option Mode) → script ≢ [] → LockUsed (lock_of (held_stand m k w)) script
  held_used Exclusive k w some = some
  held_used Shared k w some = shared_used k w some

  open_used : (o : Option Held) (w : Option Mode) (have : Option ℕ) → (o ≢ None → script ≢ []) → LockUsed (lock_of (stand_of o w have)) script
  open_used None None have used = tt
  open_used None (Some m) have used = tt
  open_used (Some l) w have used = held_used l.mode l.kind w (used (there_is (Some l) refl))

  stands_used : (b u : Bool) (o : Option Held) (w : Option Mode) (h : Home) → Stands b u o w h → (o ≢ None → script ≢ []) → LockUsed (lock_of h) script
  stands_used true u o w h is used = subst (λ (x : Home). LockUsed (lock_of x) script) (sym is.1) (open_used o w is.0 used)
  stands_used false true o w h is used = fresh_free h is
  stands_used false false o w h is used = closed_free h is

  -- at a node, which may be down
  node_used : (last : ℕ) (o : Option NodeState) (t : TxId) (p : ℕ) (h : Home) → StandsIn last o t p h → IfSome o (λ (s : NodeState). held_by s.home.txs t p ≢ None → script ≢ [])
      → LockUsed (lock_of h) script
  node_used last None t p h is used = stands_used false (nat_lt last t.born) None None h is (λ some. absurd (some refl))
  node_used last (Some s) t p h is used =
      stands_used (is_open s.home.txs t) (is_unborn s.view s t) (held_by s.home.txs t p) (wait_on (pending_of s.home.txs t) p) h is used

-- ---- a cluster

-- each transaction that holds page p at a node has accessed it
abbrev PageUses : ℕ → List Entry → Option NodeState → Type 0
PageUses p trace o = IfSome o (λ (s : NodeState). (t : TxId) → held_by s.home.txs t p ≢ None → accesses_in t p trace ≢ [])

of_page : (p : ℕ) (trace : List Entry) (o : Option NodeState) → IfSome o (NodeUses trace) → PageUses p trace o
of_page p trace None all = tt
of_page p trace (Some s) all = λ t held. all t p held

of_tx : (p : ℕ) (trace : List Entry) (o : Option NodeState) (t : TxId) → PageUses p trace o → IfSome o (λ (s : NodeState). held_by s.home.txs t p ≢ None → accesses_in t p trace ≢ [])
of_tx p trace None t all = tt
of_tx p trace (Some s) t all = all t

page_is_seen : (c : Cluster) (p : ℕ) (a : Page) → IsPageOf c p a → (t : TxId) → PageUses p c.trace (node_at c t.node) → LockUsed (lock_of (a.home t)) (a.script t)
page_is_seen c p a r t all =
    subst (LockUsed (lock_of (a.home t))) (sym (r.homes.scripts t))
    (node_used (accesses_in t p c.trace) (last_view c).epoch (node_at c t.node) t p (a.home t) (r.homes.stands t) (of_tx p c.trace (node_at c t.node) t all))

pub used_is_seen_law : UsedIsSeen
used_is_seen_law c p a r used t = page_is_seen c p a r t (of_page p c.trace (node_at c t.node) (used t.node))

-- ---- a work of a step

pages_grow : (p : ℕ) (old : List Entry) (x : Entry) (o : Option NodeState) → PageUses p old o → PageUses p (old ++ x ∷ []) o
pages_grow p old x None all = tt
pages_grow p old x (Some s) all = λ t held. ever_accessed old x t p (all t held)

-- a reader under a right is one of its list
reads : (P : TxId → Type 0) (us : List TxId) (t : TxId) → All P us → has t us ≡ true → P t
reads P [] t all e = absurd (cc)
reads P (u ∷ us) t all e = by (same_tx u t) refl e (reads P us t (λ k d low. all (suc k) d (omega (arith, low))))
  where
    by : (b : Bool) → same_tx u t ≡ b → (b || has t us) ≡ true → (has t us ≡ true → P t) → P t
    by true same f rest = subst P (same_tx_true u t same) (all 0 t (omega arith))
    by false same f rest = rest f

module _ (c : Cluster) (e : Event) (n p : ℕ) (s : NodeState) (w : Work) (a : Page) (i : IsEarly c e n p s w a) where
  landed : IsLanded c e n w
  landed = landing_is_seen_law c e n w i.acts

  before : PageUses p c.trace (Some s)
  before = subst (PageUses p c.trace) i.up (of_page p c.trace (node_at c n) (i.used n))

  -- who holds the page at the acting node has accessed it
  here : (t : TxId) → held_by w.node.home.txs t p ≢ None → accesses_in t p (trace_of c e n w) ≢ []
  here t held = ever_accessed c.trace _ t p (before t (i.holds t held))

  at : (m : ℕ) → PageUses p (trace_of c e n w) (node_at (land c e n w) m)
  at m = by (m == n) refl
    where
      by : (b : Bool) → (m == n) ≡ b → PageUses p (trace_of c e n w) (node_at (land c e n w) m)
      by true same = subst (PageUses p (trace_of c e n w)) (sym (ap (node_at (land c e n w)) (eqb-true m n same) ∙ landed.node)) here
      by false other =
          subst (PageUses p (trace_of c e n w)) (sym (landed.others m other)) (pages_grow p c.trace _ (node_at c m) (of_page p c.trace (node_at c m) (i.used m)))

  work_is_used : (t : TxId) → LockUsed (lock_of (a.home t)) (a.script t)
  work_is_used t = page_is_seen (land c e n w) p a i.related t (subst (λ (trace : List Entry). PageUses p trace (node_at (land c e n w) t.node)) (sym landed.trace) (at t.node))

  reader_is_used : (r : shelf.Right) → IsHome w.node.home → right_on w.node.home.shelf p ≡ Some r → (t : TxId) → has t r.readers ≡ true → a.script t ≢ []
  reader_is_used r home on t reader =
      some_same (accesses_in t p (trace_of c e n w)) (a.script t) (i.related.homes.scripts t ∙ ap (accesses_in t p) landed.trace) (here t (there_is (held_by w.node.home.txs t p) holds))
    where
      readers : All (λ (u : TxId). is_some (held_by w.node.home.txs u p) ≡ true) r.readers
      readers = subst (λ (o : Option shelf.Right). All (λ (u : TxId). is_some (held_by w.node.home.txs u p) ≡ true) (readers_of o)) on (home.readers p)

      holds : is_some (held_by w.node.home.txs t p) ≡ true
      holds = reads (λ (u : TxId). is_some (held_by w.node.home.txs u p) ≡ true) r.readers t readers reader

pub works_are_used_law : WorksAreUsed
works_are_used_law c e n p s w a i t = work_is_used c e n p s w a i t

pub readers_are_used_law : ReadersAreUsed
readers_are_used_law c e n p s w a r i home on t reader = reader_is_used c e n p s w a i r home on t reader
