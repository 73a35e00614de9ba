-- What an end is to one page, and that a commit and an abort are that.
use Rattle.std.proofs.Common.{◌≡◌, ◌≢◌, refl, sym, ap, subst, ◌∙◌, ℕ, suc, ◌-◌, ◌<◌, ◌≤◌, ◌^◌, ◌==◌, Bool, true, false, List, [], ◌∷◌, length, Option, Some, None, is_some, arith}
use Rattle.std.proofs.lemmas.Bool.Decides.{nat_tests}
use Rattle.pcl_base.specs.Limits.{Sizes}
use Rattle.pcl_base.specs.declared.lock.Held.{Held}
use Rattle.pcl_base.specs.declared.lock.Kind.{Kind}
use Rattle.pcl_base.specs.declared.lock.Kind.TheVariants as kind
use Rattle.pcl_base.specs.declared.lock.Pending.{Pending}
use Rattle.pcl_base.specs.declared.tx.Mode.{Mode}
use Rattle.pcl_base.specs.declared.tx.Mode.TheVariants.{Shared, Exclusive}
use Rattle.pcl_base.specs.declared.tx.TxId.{TxId}
use Rattle.run_rules.specs.Disk.{Disk}
use Rattle.node_rules.specs.AccessRule.{version_or}
use Rattle.node_rules.specs.BufferRule as buffer
use Rattle.node_rules.specs.BufferRule.{find, version_of_copy, copy_at, private_bytes}
use Rattle.node_rules.specs.EndRule.{pages_written, new_version, logged, at_version_end}
use Rattle.node_rules.specs.NodeState.{NodeState, Run, runs_at}
use Rattle.node_rules.specs.OpenTxs.{held_by, pending_of}
use Rattle.node_rules.specs.Words.{is_exclusive}
use Rattle.cluster_rules.specs.Clusters.{Cluster, node_at, last_view}
use Rattle.cluster_laws.specs.Sound.{IsMember, IsCluster}
use Rattle.cluster_laws.proofs.Steps.{up_is_member_law}
use Rattle.home_laws.specs.Homes.{AreRuns, AreWrittenRuns, is_exclusive_lock}
use Rattle.home_laws.proofs.Serials.{one_if}
use Rattle.home_laws.proofs.Unpins.{times}
use Rattle.page_laws.specs.Moment.Machine.{CommitStep, wrote, read, untouched}
use Rattle.page_protocol.specs.Bytes.{Copy, Ranges, Access, writes, put_all}
use Rattle.page_protocol.specs.Homes.{ending, committing_reads, committing}
use Rattle.page_protocol.specs.Invariant.{Inv, SlotOk, ScriptOk}
use Rattle.page_protocol.specs.State.{Home, Fresh, Holding, Reading, Page, current, IsFresh, IsGranted}
use Rattle.page_protocol.specs.Steps.{Reached, Run as Steps, here, then, ends_open, commits_reads, commits}
use Rattle.page_protocol.proofs.Keeps.{reached_holds}
use Rattle.page_relation.specs.Homes.{held_stand, IsOpenAs, Stands, StandsIn, is_unborn, wait_on, image_of, ImageIn, runs_in}
use Rattle.page_relation.specs.Looks.{copy_in, slot_in, slot_of}
use Rattle.page_relation.specs.Relation.{IsPageOf}
use Rattle.page_laws.specs.Storage.Looks.{IsStored, ranges_of_part}
use Rattle.page_laws.proofs.StorageParts.AsSteps.{records_are_old_law}
use Rattle.page_laws.specs.Written.Written.{DiffersWithin}
use Rattle.page_laws.proofs.WrittenParts.Differing.{logged_is_put_law}
use Rattle.page_laws.proofs.WrittenParts.Logging.{none_passes}
use Rattle.page_laws.proofs.WrittenParts.Looked.{times_look}
use Rattle.page_relation.proofs.LossParts.Unwritten.{Unwritten, reached_unwritten}
use Rattle.end_relation.proofs.Overs.{MayClose}

-- What an end of t, which is a commit or not, is to page p, on which t has this lock.
pub data Passes (c : Cluster) (p : ℕ) (t : TxId) (b : Bool) (o : Option Held) (disk : Disk) (a : Page) : Page → Type 0 where
  is_changed : (ranges : Ranges) → b ≡ true → is_exclusive_lock o ≡ true → a.home t ≡ Holding Exclusive → writes (a.script t) ≡ true → put_all ranges (a.hist a.now) ≡ a.image t
      → length (a.image t) ≡ c.config.size → suc a.now < 2 ^ 64 → IsStored c.config disk p (committing a t ranges).disk (committing a t ranges).log → Passes c p t b o disk a (committing a t ranges)
  is_read : b ≡ true → is_exclusive_lock o ≡ false → IsGranted (a.home t) → writes (a.script t) ≡ false → IsStored c.config disk p a.disk a.log → Passes c p t b o disk a (committing_reads a t)
  is_given_up : b ≡ false → (IsFresh (a.home t) → ⊥) → IsStored c.config disk p a.disk a.log → Passes c p t b o disk a (ending a t)
  is_unused : a.home t ≡ Fresh → a.script t ≡ [] → o ≡ None → IsStored c.config disk p a.disk a.log → Passes c p t b o disk a a

-- it is what the machine does
pub passes_run : (c : Cluster) (p : ℕ) (t : TxId) (b : Bool) (o : Option Held) (disk : Disk) (a k : Page) → Passes c p t b o disk a k → Steps a k
passes_run c p t b o disk a k (is_changed ranges commits_it locked holds some made long fits stored) = then here (commits t ranges holds some made)
passes_run c p t b o disk a k (is_read commits_it locked granted none stored) = then here (commits_reads t granted none)
passes_run c p t b o disk a k (is_given_up aborts begun stored) = then here (ends_open t)
passes_run c p t b o disk a k (is_unused none empty free stored) = here

-- a commit is a commit of the machine
pub passes_commit : (c : Cluster) (p : ℕ) (t : TxId) (o : Option Held) (disk : Disk) (a k : Page) → Passes c p t true o disk a k → CommitStep t a k
passes_commit c p t o disk a k (is_changed ranges commits_it locked holds some made long fits stored) = wrote ranges holds some
passes_commit c p t o disk a k (is_read commits_it locked granted none stored) = read granted none
passes_commit c p t o disk a k (is_given_up aborts begun stored) = absurd (cc)
passes_commit c p t o disk a k (is_unused none empty free stored) = untouched empty

-- ---- where a transaction stands that waits for nothing

holds_of : (o : Option Held) (h : Home) → is_exclusive_lock o ≡ true → IsOpenAs o None h → h ≡ Holding Exclusive
holds_of None h e st = absurd (cc)
holds_of (Some l) h e st = st.1 ∙ by l.mode e
  where
    by : (m : Mode) → is_exclusive m ≡ true → held_stand m l.kind None ≡ Holding Exclusive
    by Shared f = absurd (cc)
    by Exclusive f = refl

-- it has the page shared, or not at all
data Unheld (o : Option Held) (h : Home) : Type 0 where
  is_fresh : h ≡ Fresh → o ≡ None → Unheld o h
  is_granted : IsGranted h → ((s : List Access) → Unwritten h s → writes s ≡ false) → Unheld o h

unheld : (o : Option Held) (h : Home) → is_exclusive_lock o ≡ false → IsOpenAs o None h → Unheld o h
unheld None h e st = is_fresh st.1 refl
unheld (Some l) h e st = by l.mode l.kind e st.1
  where
    shared : h ≡ Holding Shared → Unheld (Some l) h
    shared is = is_granted (subst IsGranted (sym is) tt) (λ s u. subst (λ (k : Home). Unwritten k s) is u)

    reading : h ≡ Reading → Unheld (Some l) h
    reading is = is_granted (subst IsGranted (sym is) tt) (λ s u. subst (λ (k : Home). Unwritten k s) is u)

    by : (m : Mode) (k : Kind) → is_exclusive m ≡ false → h ≡ held_stand m k None → Unheld (Some l) h
    by Exclusive k f is = absurd (cc)
    by Shared kind.Right f is = reading is
    by Shared kind.Own f is = shared is
    by Shared kind.Registered f is = shared is

-- the version of a copy that the machine has
version_same : (o : Option buffer.Copy) (x : Copy) → copy_in o ≡ Some x → version_or (version_of_copy o) ≡ x.version
version_same None x e = absurd (cc)
version_same (Some y) x e = let same : record { version = y.version; bytes = y.bytes } ≡ x = cc in ap (λ (z : Copy). z.version) same

are_runs : (size : ℕ) (runs : List Run) → AreWrittenRuns size true runs → AreRuns size 0 runs
are_runs size [] bad = absurd bad
are_runs size (r ∷ rs) are = are

module _ (blank : List ℕ) (c : Cluster) (n : ℕ) (s : NodeState) (t : TxId) (i : IsCluster c) (up : node_at c n ≡ Some s) (mine : t.node ≡ n) (b : Bool) (may : MayClose b s t) (p : ℕ) (a : Page)
    (reached : Reached blank a) (r : IsPageOf c p a) where
  member : IsMember c.config c.views n s
  member = (up_is_member_law c n s i up).1

  home_up : node_at c t.node ≡ Some s
  home_up = ap (node_at c) mine ∙ up

  inv : Inv blank a
  inv = reached_holds blank a reached

  -- where it stands
  pub open_stand : IsOpenAs (held_by s.home.txs t p) (wait_on (pending_of s.home.txs t) p) (a.home t)
  open_stand =
      subst (λ (d : Bool). Stands d (is_unborn s.view s t) (held_by s.home.txs t p) (wait_on (pending_of s.home.txs t) p) (a.home t)) may.there
      (subst (λ (o : Option NodeState). StandsIn (last_view c).epoch o t p (a.home t)) home_up (r.homes.stands t))

  pub filled : is_some (private_bytes s.home.pool t p) ≡ is_exclusive_lock (held_by s.home.txs t p)
  filled = may.home.filled t p

  module _ (commits_it : b ≡ true) where
    still : pending_of s.home.txs t ≡ None
    still = may.waits commits_it

    pub stand : IsOpenAs (held_by s.home.txs t p) None (a.home t)
    stand = subst (λ (w : Option Pending). IsOpenAs (held_by s.home.txs t p) (wait_on w p) (a.home t)) still open_stand

    pub holds : is_exclusive_lock (held_by s.home.txs t p) ≡ true → a.home t ≡ Holding Exclusive
    holds locked = holds_of (held_by s.home.txs t p) (a.home t) locked stand

    -- the node's copy is the current page
    pub slot_now : a.home t ≡ Holding Exclusive → copy_in (copy_at s.home.pool p) ≡ Some (current a)
    unfolding slot_of
    slot_now is =
        sym (ap (λ (o : Option NodeState). slot_in o p) home_up) ∙ r.copies.slot_same t.node ∙ subst (SlotOk (current a) (a.slot t.node)) is (inv.accesses_hold.slots t)

    pub version : a.home t ≡ Holding Exclusive → version_or (find s.home.pool p) ≡ a.now
    version is = version_same (copy_at s.home.pool p) (current a) (slot_now is)

    -- the private copy
    pub image : a.home t ≡ Holding Exclusive → private_bytes s.home.pool t p ≡ Some (a.image t)
    image is =
        subst (λ (o : Option NodeState). ImageIn o t p (a.home t) (a.image t)) home_up (r.homes.images t)
        ∙ ap (λ (h : Home). image_of h (a.image t)) is

    differs : a.home t ≡ Holding Exclusive → DiffersWithin (runs_at s.home.written t p) (a.hist a.now) (a.image t)
    differs is = subst (λ (o : Option NodeState). DiffersWithin (runs_in o t p) (a.hist a.now) (a.image t)) home_up (r.homes.written t is)

    size_same : length (a.hist a.now) ≡ s.home.config.size
    size_same = r.history.sizes a.now ∙ sym (ap (λ (k : Sizes). k.size) member.config)

    made : is_exclusive_lock (held_by s.home.txs t p) ≡ true → put_all (ranges_of_part (logged s.home t p).part) (a.hist a.now) ≡ a.image t
    made locked =
        logged_is_put_law s.home t p (a.hist a.now) (a.image t) (image (holds locked))
        (subst (λ (k : ℕ). AreRuns k 0 (runs_at s.home.written t p)) (sym size_same)
        (are_runs s.home.config.size (runs_at s.home.written t p)
        (subst (λ (d : Bool). AreWrittenRuns s.home.config.size d (runs_at s.home.written t p)) locked (may.home.runs t p))))
        (differs (holds locked))

    fits : at_version_end s.home t ≡ false → is_exclusive_lock (held_by s.home.txs t p) ≡ true → suc a.now < 2 ^ 64
    unfolding at_version_end
    fits last locked =
        let count : 1 ≤ times p (pages_written s.home t) = (let at = times_look s.home t may.home still p ∙ ap one_if (filled ∙ locked) in omega (arith, at)) in
        let off : (version_or (find s.home.pool p) == 2 ^ 64 - 1) ≡ false = none_passes (λ q. version_or (find s.home.pool q) == 2 ^ 64 - 1) (pages_written s.home t) p last count in
        let same = version (holds locked) in
        let apart : a.now ≢ 2 ^ 64 - 1 = λ at. grind (arith, nat_tests, off, same, at) in
        below a.now apart r.history.below
      where
        below : (k : ℕ) → k ≢ 2 ^ 64 - 1 → k < 2 ^ 64 → suc k < 2 ^ 64
        below k apart low = grind (arith, nat_tests, apart, low)

    pub next : a.home t ≡ Holding Exclusive → new_version s.home p ≡ suc a.now
    next is = let same = version is in omega (arith, same)

    -- no record of the next version is there
    pub none_later : a.home t ≡ Holding Exclusive → (v : ℕ) → new_version s.home p ≤ v → a.log n v ≡ None
    none_later is v high = by (a.log n v) refl
      where
        by : (o : Option Ranges) → a.log n v ≡ o → a.log n v ≡ None
        by None e = e
        by (Some ranges) e = let low = records_are_old_law blank a reached n v ranges e in let same = next is in absurd (omega (arith, low, high, same))

    -- a commit
    pub commit_passes : (disk : Disk) → at_version_end s.home t ≡ false → (a.home t ≡ Holding Exclusive → writes (a.script t) ≡ true)
        → (is_exclusive_lock (held_by s.home.txs t p) ≡ true → IsStored c.config disk p (committing a t (ranges_of_part (logged s.home t p).part)).disk (committing a t (ranges_of_part (logged s.home t p).part)).log)
        → (is_exclusive_lock (held_by s.home.txs t p) ≡ false → IsStored c.config disk p a.disk a.log) → (k : Page) × Passes c p t b (held_by s.home.txs t p) disk a k
    commit_passes disk last wrote_it stored_wrote stored_elsewhere = by (is_exclusive_lock (held_by s.home.txs t p)) refl
      where
        rest : is_exclusive_lock (held_by s.home.txs t p) ≡ false → Unheld (held_by s.home.txs t p) (a.home t) → (k : Page) × Passes c p t b (held_by s.home.txs t p) disk a k
        rest none (is_fresh is free) = (a, is_unused is (subst (ScriptOk (a.hist a.now) (a.script t) (a.image t)) is (inv.accesses_hold.scripts t)) free (stored_elsewhere none))
        rest none (is_granted granted quiet) = (_, is_read commits_it none granted (quiet (a.script t) (reached_unwritten blank a reached t)) (stored_elsewhere none))

        by : (d : Bool) → is_exclusive_lock (held_by s.home.txs t p) ≡ d → (k : Page) × Passes c p t b (held_by s.home.txs t p) disk a k
        by true locked = (
          _,
          is_changed (ranges_of_part (logged s.home t p).part) commits_it locked (holds locked) (wrote_it (holds locked)) (made locked) ((differs (holds locked)).long ∙ r.history.sizes a.now) (fits last locked)
              (stored_wrote locked),
        )
        by false shared = rest shared (unheld (held_by s.home.txs t p) (a.home t) shared stand)

  -- an abort
  pub abort_passes : (disk : Disk) → b ≡ false → IsStored c.config disk p a.disk a.log → (k : Page) × Passes c p t b (held_by s.home.txs t p) disk a k
  abort_passes disk aborts stored = by (held_by s.home.txs t p) (wait_on (pending_of s.home.txs t) p) refl open_stand
    where
      given : (IsFresh (a.home t) → ⊥) → (k : Page) × Passes c p t b (held_by s.home.txs t p) disk a k
      given begun = (_, is_given_up aborts begun stored)

      held : (l : Held) (w : Option Mode) (h : Home) → h ≡ held_stand l.mode l.kind w → IsFresh h → ⊥
      held l w h is fresh = of l.mode l.kind w (subst IsFresh is fresh)
        where
          of : (m : Mode) (k : Kind) (v : Option Mode) → IsFresh (held_stand m k v) → ⊥
          of Exclusive k v f = f
          of Shared kind.Right None f = f
          of Shared kind.Right (Some m) f = f
          of Shared kind.Own None f = f
          of Shared kind.Own (Some m) f = f
          of Shared kind.Registered None f = f
          of Shared kind.Registered (Some m) f = f

      by : (o : Option Held) (w : Option Mode) → held_by s.home.txs t p ≡ o → IsOpenAs o w (a.home t) → (k : Page) × Passes c p t b (held_by s.home.txs t p) disk a k
      by None None free st = (a, is_unused st.1 (subst (ScriptOk (a.hist a.now) (a.script t) (a.image t)) st.1 (inv.accesses_hold.scripts t)) free stored)
      by None (Some m) free st = given (λ fresh. subst IsFresh st.1 fresh)
      by (Some l) w locked st = given (held l w (a.home t) st.1)
