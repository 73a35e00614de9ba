-- The copies of the page once a transaction was closed.
use Rattle.std.proofs.Common.{◌≡◌, refl, sym, ap, subst, ◌∙◌, ℕ, suc, ◌+◌, ◌==◌, ◌&&◌, eqb, Bool, true, false, List, Option, Some, None, is_some, arith, mod-lt}
use Rattle.std.proofs.lemmas.Bool.Decides.{nat_tests}
use Rattle.pcl_base.specs.Limits.{Sizes}
use Rattle.pcl_base.specs.declared.event.Event.{Event}
use Rattle.pcl_base.specs.declared.lock.Held.{Held}
use Rattle.pcl_base.specs.declared.tx.Mode.TheVariants.{Exclusive}
use Rattle.pcl_base.specs.declared.tx.TxId.{TxId}
use Rattle.node_rules.specs.BufferRule as buffer
use Rattle.node_rules.specs.BufferRule.{copy_at, cleaned, published, private_bytes, dirty, is_dirty_copy}
use Rattle.node_rules.specs.EndRule.{is_own_lock}
use Rattle.node_rules.specs.InstallRule.{owned_before}
use Rattle.node_rules.specs.LockTable.{LockTable}
use Rattle.node_rules.specs.NodeState.{NodeState, partition, table_at, table_of, number_of, is_serving}
use Rattle.node_rules.specs.OpenTxs.{held_by}
use Rattle.node_rules.specs.OwnerRule.{is_unserved}
use Rattle.node_rules.specs.Words.{pick}
use Rattle.node_rules.specs.Work.{Work}
use Rattle.home_laws.specs.Homes.{is_exclusive_lock}
use Rattle.cluster_rules.specs.Clusters.{Cluster, node_at}
use Rattle.cluster_laws.specs.Sound.{IsMember}
use Rattle.cluster_laws.proofs.Steps.{up_is_member_law}
use Rattle.page_protocol.specs.Bytes.{Copy, Ranges}
use Rattle.page_protocol.specs.Homes.{committing}
use Rattle.page_protocol.specs.Invariant.{Inv}
use Rattle.page_protocol.specs.State.{Holding, Page, current}
use Rattle.page_protocol.specs.State as machine
use Rattle.page_protocol.specs.Steps.{Reached}
use Rattle.page_protocol.proofs.Basics.{updn_same, updn_other}
use Rattle.page_protocol.proofs.Keeps.{reached_holds}
use Rattle.page_relation.specs.Homes.{KindFits, KindIn}
use Rattle.page_relation.specs.Looks.{copy_in, slot_in, slot_of, dirty_in, dirty_of}
use Rattle.page_relation.specs.Relation.{CopiesAre, IsPageOf}
use Rattle.page_relation.specs.Work.Landing.{land, Acts}
use Rattle.page_relation.proofs.WorkParts.Storing.{copies_by}
use Rattle.end_relation.proofs.Changed.{exclusive_some, written_copy}
use Rattle.end_relation.proofs.Overs.{MayClose, IsOverWork}
use Rattle.end_relation.proofs.Passing.{slot_now, image}
use Rattle.end_relation.proofs.Serving.{serving_is}

-- two tests of numbers
same_tests : (m n o : ℕ) → m ≡ n → eqb m o ≡ (n == o)
same_tests m n o same = by (eqb m o) (n == o) refl refl
  where
    by : (x y : Bool) → eqb m o ≡ x → (n == o) ≡ y → x ≡ y
    by true true e f = refl
    by false false e f = refl
    by true false e f = absurd (grind (arith, nat_tests, e, f, same))
    by false true e f = absurd (grind (arith, nat_tests, e, f, same))

-- a copy that may have been cleaned
same_copy : (u : Bool) (z : buffer.Copy) → copy_in (pick u (cleaned (Some z)) (Some z)) ≡ Some (record { version = z.version; bytes = z.bytes })
same_copy true z = refl
same_copy false z = refl

-- it is dirty where the own table serves
marked : (o : Option LockTable) (z : buffer.Copy) → z.dirty ≡ is_some o → is_dirty_copy (pick (is_unserved o) (cleaned (Some z)) (Some z)) ≡ is_serving o
marked None z own = own
marked (Some b) z own = by b.serving
  where
    by : (d : Bool) → is_dirty_copy (pick (pick d false true) (cleaned (Some z)) (Some z)) ≡ d
    by true = own
    by false = refl

own_kind : (o : Option Held) (owned : Bool) → is_some o ≡ true → KindFits owned o → is_own_lock o ≡ owned
own_kind None owned e fits = absurd (cc)
own_kind (Some l) owned e fits = fits

never : (x : Bool) → (x && false) ≡ false
never true = refl
never false = refl

module _ (blank : List ℕ) (c : Cluster) (e : Event) (n p : ℕ) (s : NodeState) (t : TxId) (x : Work) (acts : Acts c n) (up : node_at c n ≡ Some s) (a : Page) (r : IsPageOf c p a) where
  -- the node's own copy before
  slot_before : copy_in (copy_at s.home.pool p) ≡ a.slot n
  unfolding slot_of
  slot_before = sym (ap (λ (o : Option NodeState). slot_in o p) up) ∙ r.copies.slot_same n

  dirty_before : dirty s.home.pool p ≡ (a.dirty && n == a.owner)
  unfolding dirty_of
  dirty_before = sym (ap (λ (o : Option NodeState). dirty_in o p) up) ∙ r.copies.dirty_same n

  slot_others : (m : ℕ) → slot_in (node_at c m) p ≡ a.slot m
  unfolding slot_of
  slot_others m = r.copies.slot_same m

  dirty_others : (m : ℕ) → dirty_in (node_at c m) p ≡ (a.dirty && m == a.owner)
  unfolding dirty_of
  dirty_others m = r.copies.dirty_same m

  -- a copy that stays
  pub copies_kept : copy_at x.node.home.pool p ≡ copy_at s.home.pool p → CopiesAre (land c e n x) p a.slot a.owner a.dirty
  copies_kept same =
      copies_by c e n p x a.slot a.owner a.dirty acts (ap copy_in same ∙ slot_before) (ap is_dirty_copy same ∙ dirty_before) (λ m other. slot_others m) (λ m other. dirty_others m)

  -- whether the node serves the page
  served_here : is_serving (table_of s p) ≡ (a.served && n == a.owner)
  served_here =
      ap (λ (k : Sizes). is_serving (table_at s (partition k p))) (up_is_member_law c n s acts.cluster up).1.config
      ∙ serving_is c n p s a up r

  module _ (b : Bool) (reached : Reached blank a) (mine : t.node ≡ n) (may : MayClose b s t) (is : IsOverWork b t c s x) (commits_it : b ≡ true) (locked : is_exclusive_lock (held_by s.home.txs t p) ≡ true)
      (holds : a.home t ≡ Holding Exclusive) (ranges : Ranges) where
    member : IsMember c.config c.views n s
    member = (up_is_member_law c n s acts.cluster up).1

    inv : Inv blank a
    inv = reached_holds blank a reached

    -- its lock is of the kind of an own page exactly where there is a table
    owned : is_own_lock (held_by s.home.txs t p) ≡ is_some (table_of s p)
    owned =
        own_kind (held_by s.home.txs t p) (owned_before s.view (partition s.home.config p) (number_of s)) (exclusive_some (held_by s.home.txs t p) locked)
        (subst (λ (o : Option NodeState). KindIn o t p) (ap (node_at c) mine ∙ up) (r.homes.kinds t))
        ∙ sym (member.sound.owned (partition s.home.config p) (mod-lt p (let some = member.sound.limits.some_nodes in omega (arith, some))))

    -- the copy that it leaves
    abbrev made : buffer.Copy → buffer.Copy
    made y = record { version = y.version + 1; bytes = a.image t; dirty = is_own_lock (held_by s.home.txs t p) }

    found : (y : buffer.Copy) × (copy_at s.home.pool p ≡ Some y) × (y.version ≡ a.now)
    found = by (copy_at s.home.pool p) refl (slot_now blank c n s t acts.cluster up mine b may p a reached r commits_it holds)
      where
        by : (o : Option buffer.Copy) → copy_at s.home.pool p ≡ o → copy_in o ≡ Some (current a) → (y : buffer.Copy) × (copy_at s.home.pool p ≡ Some y) × (y.version ≡ a.now)
        by None there now = absurd (cc)
        by (Some y) there now = let same : record { version = y.version; bytes = y.bytes } ≡ current a = cc in (y, there, ap (λ (z : Copy). z.version) same)

    copy_is : copy_at x.node.home.pool p ≡ pick (is_unserved (table_of s p)) (cleaned (Some (made found.0))) (Some (made found.0))
    copy_is =
        written_copy b t c s x may is p commits_it locked
        ∙ ap (λ (o : Option (List ℕ)). pick (is_unserved (table_of s p)) (cleaned (published (is_own_lock (held_by s.home.txs t p)) o (copy_at s.home.pool p))) (published (is_own_lock (held_by s.home.txs t p)) o (copy_at s.home.pool p)))
        (image blank c n s t acts.cluster up mine b may p a reached r commits_it holds)
        ∙ ap (λ (o : Option buffer.Copy). pick (is_unserved (table_of s p)) (cleaned (published (is_own_lock (held_by s.home.txs t p)) (Some (a.image t)) o)) (published (is_own_lock (held_by s.home.txs t p)) (Some (a.image t)) o)) found.1

    pub slot_after : (committing a t ranges).slot n ≡ Some (record { version = suc a.now; bytes = a.image t })
    unfolding committing
    slot_after =
        subst (λ (m : ℕ). machine.updn a.slot m (Some (record { version = suc a.now; bytes = a.image t })) n ≡ Some (record { version = suc a.now; bytes = a.image t })) (sym mine)
        (updn_same a.slot n (Some (record { version = suc a.now; bytes = a.image t })))

    slot_there : (m : ℕ) → (m == n) ≡ false → a.slot m ≡ (committing a t ranges).slot m
    unfolding committing
    slot_there m other = sym (updn_other a.slot t.node m _ (λ same. grind (arith, nat_tests, same, other, mine)))

    test_is : (a.served && eqb t.node a.owner) ≡ (a.served && n == a.owner)
    test_is = ap (λ (d : Bool). a.served && d) (same_tests t.node n a.owner mine)

    pub dirty_is : (committing a t ranges).dirty ≡ machine.pick (a.served && n == a.owner) true a.dirty
    unfolding committing
    dirty_is = ap (λ (d : Bool). machine.pick d true a.dirty) test_is

    dirty_here : (a.served && n == a.owner) ≡ (machine.pick (a.served && n == a.owner) true a.dirty && n == a.owner)
    dirty_here = by a.served (n == a.owner) refl
      where
        clean : (d : Bool) → a.dirty ≡ d → a.served ≡ false → false ≡ (d && true)
        clean true on off = let bad : true ≡ false = sym (inv.kept_holds.dirty_served on) ∙ off in absurd (cc)
        clean false on off = refl

        by : (u v : Bool) → a.served ≡ u → (u && v) ≡ (machine.pick (u && v) true a.dirty && v)
        by true true on = refl
        by true false on = sym (never a.dirty)
        by false true on = clean a.dirty refl on
        by false false on = sym (never a.dirty)

    dirty_there : (m : ℕ) → (m == n) ≡ false → (a.dirty && m == a.owner) ≡ (machine.pick (a.served && n == a.owner) true a.dirty && m == a.owner)
    dirty_there m other = by a.served (n == a.owner) refl
      where
        apart : (d : Bool) → (m == a.owner) ≡ d → (n == a.owner) ≡ true → (a.dirty && d) ≡ (true && d)
        apart true at here = absurd (grind (arith, nat_tests, at, here, other))
        apart false at here = never a.dirty

        by : (u v : Bool) → (n == a.owner) ≡ v → (a.dirty && m == a.owner) ≡ (machine.pick (u && v) true a.dirty && m == a.owner)
        by true true here = apart (m == a.owner) refl here
        by true false here = refl
        by false v here = refl

    -- a copy that was changed
    pub copies_changed : CopiesAre (land c e n x) p (committing a t ranges).slot a.owner (committing a t ranges).dirty
    copies_changed =
        copies_by c e n p x (committing a t ranges).slot a.owner (committing a t ranges).dirty acts
        (ap copy_in copy_is ∙ same_copy (is_unserved (table_of s p)) (made found.0) ∙ ap (λ (v : ℕ). Some (record { version = v; bytes = a.image t })) version_is ∙ sym slot_after)
        (ap is_dirty_copy copy_is ∙ marked (table_of s p) (made found.0) owned ∙ served_here ∙ dirty_here ∙ sym (ap (λ (d : Bool). d && n == a.owner) dirty_is))
        (λ m other. slot_others m ∙ slot_there m other)
        (λ m other. dirty_others m ∙ dirty_there m other ∙ sym (ap (λ (d : Bool). d && m == a.owner) dirty_is))
      where
        version_is : found.0.version + 1 ≡ suc a.now
        version_is = let same = found.2 in omega (arith, same)
