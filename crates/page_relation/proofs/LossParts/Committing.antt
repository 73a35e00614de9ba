-- A commit whose record was forced, at each page.
use Rattle.std.proofs.Common.{◌≡◌, ◌≢◌, refl, sym, ap, subst, ◌∙◌, ℕ, suc, ◌-◌, ◌<◌, ◌≤◌, ◌^◌, ◌==◌, Bool, true, false, List, [], ◌∷◌, length, Option, Some, None, is_some, arith, eqb-true}
use Rattle.std.proofs.lemmas.Bool.Decides.{nat_tests}
use Rattle.pcl_base.specs.Limits.{Sizes}
use Rattle.pcl_base.specs.declared.lock.Held.{Held}
use Rattle.pcl_base.specs.declared.lock.Kind.{Kind}
use Rattle.pcl_base.specs.declared.lock.Kind.TheVariants as kind
use Rattle.pcl_base.specs.declared.lock.Pending.{Pending}
use Rattle.pcl_base.specs.declared.tx.Mode.{Mode}
use Rattle.pcl_base.specs.declared.tx.Mode.TheVariants.{Shared, Exclusive}
use Rattle.pcl_base.specs.declared.tx.TxId.{TxId}
use Rattle.text_rules.specs.LogRecord.{record_bytes}
use Rattle.run_rules.specs.Disk.{log_at}
use Rattle.node_rules.specs.AccessRule.{version_or}
use Rattle.node_rules.specs.BufferRule as buffer
use Rattle.node_rules.specs.BufferRule.{find, version_of_copy, copy_at, private_bytes}
use Rattle.node_rules.specs.DiskCalls.{Force, done}
use Rattle.node_rules.specs.EndRule.{pages_written, new_version, logged, commit_record, at_version_end}
use Rattle.node_rules.specs.NodeState.{NodeState, Run, runs_at, Commit}
use Rattle.node_rules.specs.OpenTxs.{held_by, pending_of}
use Rattle.node_rules.specs.Refusals.{refusal}
use Rattle.node_rules.specs.Words.{is_exclusive}
use Rattle.rule_laws.proofs.Turns.{and_left}
use Rattle.cluster_rules.specs.Clusters.{Cluster, node_at, last_view}
use Rattle.cluster_laws.specs.Sound.{IsMember, IsCluster}
use Rattle.cluster_laws.proofs.Steps.{up_is_member_law}
use Rattle.home_laws.specs.Homes.{AreRuns, AreWrittenRuns, is_exclusive_lock}
use Rattle.home_laws.proofs.Opens.{open_is_own}
use Rattle.home_laws.proofs.Serials.{one_if}
use Rattle.page_protocol.specs.Bytes.{Copy, Ranges, Access, writes, put_all}
use Rattle.page_protocol.specs.Homes.{committing}
use Rattle.page_protocol.specs.Invariant.{Inv, SlotOk, ScriptOk}
use Rattle.page_protocol.specs.State.{Home, Fresh, Holding, Reading, Page, current, IsGranted}
use Rattle.page_protocol.specs.Steps.{Reached}
use Rattle.page_protocol.proofs.Keeps.{reached_holds}
use Rattle.page_relation.specs.Homes.{held_stand, IsOpenAs, Stands, StandsIn, is_unborn, wait_on, image_of, ImageIn, runs_in}
use Rattle.page_relation.specs.Looks.{copy_in, slot_in, slot_of}
use Rattle.page_relation.specs.Relation.{IsPageOf}
use Rattle.redo_laws.specs.Laws.{HasLog}
use Rattle.redo_laws.specs.Words.{IsWhole}
use Rattle.page_laws.specs.Storage.Looks.{IsStored, ranges_of_part, with_record}
use Rattle.page_laws.proofs.StorageParts.AsSteps.{records_are_old_law}
use Rattle.page_laws.specs.Written.Record.{MayCommit}
use Rattle.page_laws.specs.Written.Written.{DiffersWithin}
use Rattle.page_laws.proofs.WrittenParts.Differing.{logged_is_put_law}
use Rattle.page_laws.proofs.WrittenParts.Logging.{none_passes, commit_is_logged_law, commit_is_elsewhere_law}
use Rattle.page_laws.proofs.WrittenParts.Looked.{times_look}
use Rattle.home_laws.proofs.Unpins.{times}
use Rattle.page_relation.proofs.LossParts.Halting.{MayEnd, may_end}
use Rattle.page_relation.proofs.LossParts.Past.{Forced, page_wrote, page_read, page_untouched}
use Rattle.page_relation.proofs.LossParts.Unwritten.{Unwritten, reached_unwritten}

-- ---- where a transaction stands that waits for nothing

holds_of : (o : Option Held) (h : Home) → is_exclusive_lock o ≡ true → IsOpenAs o None h → h ≡ Holding Exclusive
holds_of None h e st = absurd (cc)
holds_of (Some l) h e st = st.1 ∙ by l.mode e
  where
    by : (m : Mode) → is_exclusive m ≡ true → held_stand m l.kind None ≡ Holding Exclusive
    by Shared f = absurd (cc)
    by Exclusive f = refl

-- it has the page shared, or not at all
data Unheld (h : Home) : Type 0 where
  is_fresh : h ≡ Fresh → Unheld h
  is_granted : IsGranted h → ((s : List Access) → Unwritten h s → writes s ≡ false) → Unheld h

unheld : (o : Option Held) (h : Home) → is_exclusive_lock o ≡ false → IsOpenAs o None h → Unheld h
unheld None h e st = is_fresh st.1
unheld (Some l) h e st = by l.mode l.kind e st.1
  where
    shared : h ≡ Holding Shared → Unheld h
    shared is = is_granted (subst IsGranted (sym is) tt) (λ s u. subst (λ (k : Home). Unwritten k s) is u)

    reading : h ≡ Reading → Unheld h
    reading is = is_granted (subst IsGranted (sym is) tt) (λ s u. subst (λ (k : Home). Unwritten k s) is u)

    by : (m : Mode) (k : Kind) → is_exclusive m ≡ false → h ≡ held_stand m k None → Unheld h
    by Exclusive k f is = absurd (cc)
    by Shared kind.Right f is = reading is
    by Shared kind.Own f is = shared is
    by Shared kind.Registered f is = shared is

held_there : (o : Option Held) → is_exclusive_lock o ≡ true → is_some o ≡ true
held_there None e = absurd (cc)
held_there (Some l) e = refl

-- the version of a copy that the machine has
version_same : (o : Option buffer.Copy) (x : Copy) → copy_in o ≡ Some x → version_or (version_of_copy o) ≡ x.version
version_same None x e = absurd (cc)
version_same (Some y) x e = let same : record { version = y.version; bytes = y.bytes } ≡ x = cc in ap (λ (z : Copy). z.version) same

are_runs : (size : ℕ) (runs : List Run) → AreWrittenRuns size true runs → AreRuns size 0 runs
are_runs size [] bad = absurd bad
are_runs size (r ∷ rs) are = are

none_later : (log : ℕ → ℕ → Option Ranges) (n v now : ℕ) → ((ranges : Ranges) → log n v ≡ Some ranges → v ≤ now) → suc now ≤ v → log n v ≡ None
none_later log n v now old high = by (log n v) refl
  where
    by : (o : Option Ranges) → log n v ≡ o → log n v ≡ None
    by None e = e
    by (Some ranges) e = let low = old ranges e in absurd (omega (arith, low, high))

module _ (blank : List ℕ) (c : Cluster) (n : ℕ) (s : NodeState) (t : TxId) (i : IsCluster c) (up : node_at c n ≡ Some s) (allowed : refusal s (Commit t) ≡ None) where
  member : IsMember c.config c.views n s
  member = (up_is_member_law c n s i up).1

  may : MayEnd s t
  may = may_end s t allowed

  pub mine : t.node ≡ n
  mine = eqb-true t.node s.home.txs.node (and_left (t.node == s.home.txs.node) (t.born == s.home.txs.born) (open_is_own s.home.txs t may.there)) ∙ member.number

  home_up : node_at c t.node ≡ Some s
  home_up = ap (node_at c) mine ∙ up

  -- a page that it wrote is one of the database
  pub page_low : (q : ℕ) → is_some (private_bytes s.home.pool t q) ≡ true → q < c.config.pages
  page_low q there =
      subst (λ (k : Sizes). q < k.pages) member.config
      (member.sound.home.held t q (held_there (held_by s.home.txs t q) (sym (member.sound.home.filled t q) ∙ there))).0

  -- ---- one page

  module _ (p : ℕ) (a : Page) (reached : Reached blank a) (r : IsPageOf c p a) where
    inv : Inv blank a
    inv = reached_holds blank a reached

    stand : IsOpenAs (held_by s.home.txs t p) None (a.home t)
    stand =
        subst (λ (w : Option Pending). IsOpenAs (held_by s.home.txs t p) (wait_on w p) (a.home t)) may.waits
        (subst (λ (b : Bool). Stands b (is_unborn s.view s t) (held_by s.home.txs t p) (wait_on (pending_of s.home.txs t) p) (a.home t)) may.there
        (subst (λ (o : Option NodeState). StandsIn (last_view c).epoch o t p (a.home t)) home_up (r.homes.stands t)))

    holds : is_some (private_bytes s.home.pool t p) ≡ true → a.home t ≡ Holding Exclusive
    holds some = holds_of (held_by s.home.txs t p) (a.home t) (sym (member.sound.home.filled t p) ∙ some) stand

    -- the node's copy is the current page
    version : a.home t ≡ Holding Exclusive → version_or (find s.home.pool p) ≡ a.now
    unfolding slot_of
    version is =
        version_same (copy_at s.home.pool p) (current a)
        (sym (ap (λ (o : Option NodeState). slot_in o p) home_up) ∙ r.copies.slot_same t.node ∙ subst (SlotOk (current a) (a.slot t.node)) is (inv.accesses_hold.slots t))

    -- the private copy
    image : a.home t ≡ Holding Exclusive → private_bytes s.home.pool t p ≡ Some (a.image t)
    image is =
        subst (λ (o : Option NodeState). ImageIn o t p (a.home t) (a.image t)) home_up (r.homes.images t)
        ∙ ap (λ (h : Home). image_of h (a.image t)) is

    differs : a.home t ≡ Holding Exclusive → DiffersWithin (runs_at s.home.written t p) (a.hist a.now) (a.image t)
    differs is = subst (λ (o : Option NodeState). DiffersWithin (runs_in o t p) (a.hist a.now) (a.image t)) home_up (r.homes.written t is)

    size_same : length (a.hist a.now) ≡ s.home.config.size
    size_same = r.history.sizes a.now ∙ sym (ap (λ (k : Sizes). k.size) member.config)

    made : is_some (private_bytes s.home.pool t p) ≡ true → put_all (ranges_of_part (logged s.home t p).part) (a.hist a.now) ≡ a.image t
    made some =
        logged_is_put_law s.home t p (a.hist a.now) (a.image t) (image (holds some))
        (subst (λ (k : ℕ). AreRuns k 0 (runs_at s.home.written t p)) (sym size_same)
        (are_runs s.home.config.size (runs_at s.home.written t p)
        (subst (λ (b : Bool). AreWrittenRuns s.home.config.size b (runs_at s.home.written t p)) (sym (member.sound.home.filled t p) ∙ some) (member.sound.home.runs t p))))
        (differs (holds some))

    fits : is_some (private_bytes s.home.pool t p) ≡ true → suc a.now < 2 ^ 64
    unfolding at_version_end
    fits some =
        let count : 1 ≤ times p (pages_written s.home t) = (let at = times_look s.home t member.sound.home may.waits p ∙ ap one_if some in omega (arith, at)) in
        let off : (version_or (find s.home.pool p) == 2 ^ 64 - 1) ≡ false = none_passes (λ q. version_or (find s.home.pool q) == 2 ^ 64 - 1) (pages_written s.home t) p may.last count in
        let same = version (holds some) in
        let apart : a.now ≢ 2 ^ 64 - 1 = λ at. grind (arith, nat_tests, off, same, at) in
        below a.now apart r.history.below
      where
        below : (k : ℕ) → k ≢ 2 ^ 64 - 1 → k < 2 ^ 64 → suc k < 2 ^ 64
        below k apart low = grind (arith, nat_tests, apart, low)

    pub version_low : is_some (private_bytes s.home.pool t p) ≡ true → version_or (find s.home.pool p) < 2 ^ 64
    version_low some = let same = version (holds some) in let low = r.history.below in omega (arith, same, low)

    -- what is stored once the record is forced
    module _ (log : HasLog s.home.config c.disk n) (whole : IsWhole s.home.config (log_at c.disk n)) (can : MayCommit s.home t) where
      stored_wrote : is_some (private_bytes s.home.pool t p) ≡ true
          → IsStored c.config (done n c.disk (Force t (record_bytes (commit_record s.home t)))) p (committing a t (ranges_of_part (logged s.home t p).part)).disk (committing a t (ranges_of_part (logged s.home t p).part)).log
      unfolding committing
      stored_wrote some =
          subst (λ (k : ℕ). IsStored c.config (done n c.disk (Force t (record_bytes (commit_record s.home t)))) p a.disk (with_record a.log k (suc a.now) (ranges_of_part (logged s.home t p).part))) (sym mine)
          (subst (λ (v : ℕ). IsStored c.config (done n c.disk (Force t (record_bytes (commit_record s.home t)))) p a.disk (with_record a.log n v (ranges_of_part (logged s.home t p).part))) next
          (subst (λ (k : Sizes). IsStored k (done n c.disk (Force t (record_bytes (commit_record s.home t)))) p a.disk (with_record a.log n (new_version s.home p) (ranges_of_part (logged s.home t p).part))) member.config
          (commit_is_logged_law c.disk n s.home t p a.disk a.log log whole can some
          (λ v high. none_later a.log n v a.now (λ ranges e. records_are_old_law blank a reached n v ranges e) (let same = next in omega (arith, same, high)))
          (subst (λ (k : Sizes). IsStored k c.disk p a.disk a.log) (sym member.config) r.stored))))
        where
          next : new_version s.home p ≡ suc a.now
          next = let same = version (holds some) in omega (arith, same)

      stored_elsewhere : private_bytes s.home.pool t p ≡ None → IsStored c.config (done n c.disk (Force t (record_bytes (commit_record s.home t)))) p a.disk a.log
      stored_elsewhere none =
          subst (λ (k : Sizes). IsStored k (done n c.disk (Force t (record_bytes (commit_record s.home t)))) p a.disk a.log) member.config
          (commit_is_elsewhere_law c.disk n s.home t p a.disk a.log whole can none (subst (λ (k : Sizes). IsStored k c.disk p a.disk a.log) (sym member.config) r.stored))

      -- the page past the commit point
      pub forced_page : (a.home t ≡ Holding Exclusive → writes (a.script t) ≡ true) → (b : Page) × Forced c p t (done n c.disk (Force t (record_bytes (commit_record s.home t)))) a b
      forced_page wrote_it = by (private_bytes s.home.pool t p) refl
        where
          rest : private_bytes s.home.pool t p ≡ None → Unheld (a.home t) → (b : Page) × Forced c p t (done n c.disk (Force t (record_bytes (commit_record s.home t)))) a b
          rest none (is_fresh is) = (a, page_untouched (subst (ScriptOk (a.hist a.now) (a.script t) (a.image t)) is (inv.accesses_hold.scripts t)) (stored_elsewhere none))
          rest none (is_granted granted quiet) = (_, page_read granted (quiet (a.script t) (reached_unwritten blank a reached t)) (stored_elsewhere none))

          by : (o : Option (List ℕ)) → private_bytes s.home.pool t p ≡ o → (b : Page) × Forced c p t (done n c.disk (Force t (record_bytes (commit_record s.home t)))) a b
          by (Some bytes) e =
              let some : is_some (private_bytes s.home.pool t p) ≡ true = ap (λ (o : Option (List ℕ)). is_some o) e in (
                _,
                page_wrote (ranges_of_part (logged s.home t p).part) (holds some) (wrote_it (holds some)) (made some)
                    ((differs (holds some)).long ∙ r.history.sizes a.now) (fits some) (stored_wrote some),
              )
          by None e =
              rest e
              (unheld (held_by s.home.txs t p) (a.home t) (sym (member.sound.home.filled t p) ∙ ap (λ (o : Option (List ℕ)). is_some o) e) stand)
