-- What holds of the writes and the decisions of each plan.
use Rattle.std.proofs.Common.{◌≡◌, ℕ, ◌+◌, ◌≤◌, ◌==◌, nat_lt, Bool, true, false, List, [], ◌∷◌, Option, Some, None, Result, Ok, Err, refl, subst, arith}
use Rattle.std.specs.Prelude.{⊤}
use Rattle.std.proofs.lemmas.Bool.Decides.{nat_tests}
use Rattle.std.specs.List.{AllByRecursion}
use Rattle.pcl_base.specs.declared.log.Record.{Record}
use Rattle.text_rules.specs.StoredPage.{PageAt, BadNumber, stored_page}
use Rattle.run_rules.specs.Disk.{Disk, raw_page}
use Rattle.run_rules.specs.Redo.{redone, records_in, all_records}
use Rattle.run_rules.specs.Views.{View, owner_of, since_of}
use Rattle.node_rules.specs.Words.{pick}
use Rattle.node_rules.specs.LockRule.{Settled, settle}
use Rattle.node_rules.specs.LockTable.{LockTable, entry_at, put_entry, serve, pages_of}
use Rattle.node_rules.specs.NodeState.{NodeState, number_of, partition, table_at}
use Rattle.node_rules.specs.Work.{Outcome, Goes, Differs, and_then, and_so, page_or_differs}
use Rattle.node_rules.specs.InstallRule.{lost_nodes, purge_table, is_complete, owned_before}
use Rattle.install_laws.specs.InstallPlans.{Turnover, Stays, IsTaken, PageWrite, Due, RedoPlan, PartitionPlan, decided, plan_redo, plan_page, after_writes, plan_pages, plan_settling, unsettled, with_settled, plan_complete, plan_rebuilt, plan_get, is_newer, plan_served, plan_kept, plan_left, plan_by, plan_partition}
use Rattle.install_laws.specs.Laws.{AreNewer, WritesAreNewer}
use Rattle.install_laws.proofs.Words.{AreRising, pages_are_of, pages_rise}
use Rattle.install_laws.proofs.Outcomes.{On, on_so}
use Rattle.install_laws.proofs.Settling.{decided_of}
use Rattle.install_laws.proofs.Redoing.{all_append, writes_of}

-- something holds of the writes of a plan, and something of its decisions
pub record HasParts (W : List PageWrite → Type 0) (D : List Due → Type 0) (plan : PartitionPlan) : Type 0 where
  pub writes : W plan.writes
  pub decisions : D plan.decisions

pub settling_of : (P : ℕ → Type 0) (me : ℕ) (ps : List ℕ) (t : LockTable) → AllByRecursion P ps → AllByRecursion (λ (x : Due). P x.page) (plan_settling me ps t).decisions
unfolding plan_settling
settling_of P me [] t all = tt
settling_of P me (p ∷ ps) t all =
    let s : Settled = settle me (entry_at t p) in
    all_append (λ (x : Due). P x.page) (decided p s) (plan_settling me ps (put_entry t p s.entry)).decisions (decided_of P p s.entry.version s.decisions all.0) (settling_of P me ps (put_entry t p s.entry) all.1)

-- where it holds of none, and of what redo and settling of the partition's pages plan
module _ (d : Disk) (pages : List (List ℕ)) (q : ℕ) (n : NodeState) (W : List PageWrite → Type 0) (D : List Due → Type 0) (no_writes : W []) (nothing : D [])
    (redo : (needed : LockTable → ℕ → Bool) (t : LockTable) → On (λ r. W r.writes) (plan_pages needed (all_records n.home.config d) pages (pages_of n.home.config q) t))
    (settling : (t : LockTable) → D (plan_settling (number_of n) (pages_of n.home.config q) t).decisions) where
  unsettled_has : (o : Turnover) (t : Option LockTable) → HasParts W D (unsettled o t)
  unsettled_has o t = record { writes = no_writes; decisions = nothing }

  redone_has : (needed : LockTable → ℕ → Bool) (o : Turnover) (begins : Bool) (t : LockTable) (f : LockTable → LockTable)
      → On (HasParts W D)
      (and_so (plan_pages needed (all_records n.home.config d) pages (pages_of n.home.config q) t)
      (λ r. with_settled o begins r.writes (plan_settling (number_of n) (pages_of n.home.config q) (f r.table))))
  redone_has needed o begins t f =
      on_so (λ r. W r.writes) (HasParts W D) (plan_pages needed (all_records n.home.config d) pages (pages_of n.home.config q) t)
      (λ r. with_settled o begins r.writes (plan_settling (number_of n) (pages_of n.home.config q) (f r.table))) (redo needed t)
      (λ r ws. record { writes = ws; decisions = settling (f r.table) })

  rebuilt_has : (o : Turnover) (t : LockTable) → On (HasParts W D) (plan_rebuilt o d pages q n t)
  unfolding plan_rebuilt
  rebuilt_has o t = by (is_complete n.view q (Some t))
    where
      by : (b : Bool) → On (HasParts W D) (plan_complete b o d pages q n t)
      by true = redone_has (λ u p. true) o true t serve
      by false = unsettled_has o (Some t)

  served_has : (b : Bool) (before : Option View) (v : View) (t : LockTable) → On (HasParts W D) (plan_served b d pages before v q n t)
  served_has true before v t = redone_has (is_newer (records_in n.home.config d (lost_nodes before v))) Stays false t (purge_table v.live)
  served_has false before v t = rebuilt_has Stays (purge_table v.live t)

  kept_has : (o : Option LockTable) (before : Option View) (v : View) → On (HasParts W D) (plan_kept o d pages before v q n)
  kept_has None before v = unsettled_has Stays None
  kept_has (Some t) before v = served_has t.serving before v t

  left_has : (b : Bool) (to : ℕ) → HasParts W D (plan_left b to q n)
  left_has true to = record { writes = no_writes; decisions = nothing }
  left_has false to = record { writes = no_writes; decisions = nothing }

  by_has : (own new : Bool) (before : Option View) (v : View) → On (HasParts W D) (plan_by own new d pages before v q n)
  unfolding plan_get
  by_has true true before v = rebuilt_has IsTaken _
  by_has true false before v = kept_has (table_at n q) before v
  by_has false true before v = left_has (owned_before before q (number_of n)) (owner_of v q)
  by_has false false before v = unsettled_has Stays (table_at n q)

  pub plan_parts : (before : Option View) (v : View) → On (HasParts W D) (plan_partition d pages before v q n)
  unfolding plan_partition
  plan_parts before v = by_has (owner_of v q == number_of n) (since_of v q == v.epoch) before v

-- what redo plans to write is newer than what is stored
module _ (rs : List Record) (pages : List (List ℕ)) where
  newer_from : (low m : ℕ) (ws : List PageWrite) → low ≤ m → AreNewer rs pages m ws → AreNewer rs pages low ws
  newer_from low m [] less are = tt
  newer_from low m (x ∷ xs) less are = let from = are.0 in (omega (arith, less, from), are.1, are.2)

  module _ (needed : LockTable → ℕ → Bool) where
    abbrev Rest : ℕ → List ℕ → Type 0
    Rest p ps = (u : LockTable) → AreRising (p + 1) ps → On (λ r. AreNewer rs pages (p + 1) r.writes) (plan_pages needed rs pages ps u)

    redo_newer : (low : ℕ) (ps : List ℕ) (t : LockTable) → AreRising low ps → On (λ r. AreNewer rs pages low r.writes) (plan_pages needed rs pages ps t)
    unfolding plan_pages
    redo_newer low [] t rising = tt
    redo_newer low (p ∷ ps) t rising = by_need (needed t p) (redo_newer (p + 1) ps)
      where
        skipped : Rest p ps → (u : LockTable) → On (λ r. AreNewer rs pages low r.writes) (and_so (plan_pages needed rs pages ps u) (after_writes []))
        skipped rest u =
            let from = rising.0 in
            on_so (λ r. AreNewer rs pages (p + 1) r.writes) (λ r. AreNewer rs pages low r.writes) (plan_pages needed rs pages ps u) (after_writes []) (rest u rising.1)
            (λ r are. newer_from low (p + 1) r.writes (omega (arith, from)) are)

        by_test : Rest p ps → (old : PageAt) → stored_page p (raw_page pages p) ≡ Ok old → (b : Bool) → nat_lt old.version (redone rs p old).version ≡ b
            → On (λ r. AreNewer rs pages low r.writes)
            (and_so (plan_pages needed rs pages ps (plan_redo p old (redone rs p old) t).table) (after_writes (pick b (record { page = p; at = redone rs p old } ∷ []) [])))
        by_test rest old stored true e =
            on_so (λ r. AreNewer rs pages (p + 1) r.writes) (λ r. AreNewer rs pages low r.writes) (plan_pages needed rs pages ps (plan_redo p old (redone rs p old) t).table)
            (after_writes (record { page = p; at = redone rs p old } ∷ [])) (rest (plan_redo p old (redone rs p old) t).table rising.1)
            (λ r are. (rising.0, record { old = old; stored = stored; redone = refl; newer = grind (arith, nat_tests) }, are))
        by_test rest old stored false e = skipped rest (plan_redo p old (redone rs p old) t).table

        by_page : Rest p ps → (o : Result PageAt BadNumber) → stored_page p (raw_page pages p) ≡ o
            → On (λ r. AreNewer rs pages low r.writes)
            (and_then (and_so (page_or_differs p o) (λ old. plan_redo p old (redone rs p old) t)) (λ r. and_so (plan_pages needed rs pages ps r.table) (after_writes r.writes)))
        by_page rest (Ok old) stored = by_test rest old stored (nat_lt old.version (redone rs p old).version) refl
        by_page rest (Err bad) stored = tt

        by_need : (b : Bool) → Rest p ps → On (λ r. AreNewer rs pages low r.writes) (and_then (plan_page b rs pages p t) (λ r. and_so (plan_pages needed rs pages ps r.table) (after_writes r.writes)))
        by_need true rest = by_page rest (stored_page p (raw_page pages p)) refl
        by_need false rest = skipped rest t

pub writes_are_newer_law : WritesAreNewer
writes_are_newer_law d pages before v q n plan low goes =
    let parts : HasParts (λ ws. AllByRecursion (λ (x : PageWrite). partition n.home.config x.page ≡ q) ws × AreNewer (all_records n.home.config d) pages 0 ws) (λ ds. ⊤) plan =
    subst (λ o. On (HasParts (λ ws. AllByRecursion (λ (x : PageWrite). partition n.home.config x.page ≡ q) ws × AreNewer (all_records n.home.config d) pages 0 ws) (λ ds. ⊤)) o) goes
    (plan_parts d pages q n (λ ws. AllByRecursion (λ (x : PageWrite). partition n.home.config x.page ≡ q) ws × AreNewer (all_records n.home.config d) pages 0 ws) (λ ds. ⊤) (tt, tt) tt both (λ t. tt) before v) in
    parts.writes
  where
    pair : (o : Outcome RedoPlan) → On (λ r. AllByRecursion (λ (x : PageWrite). partition n.home.config x.page ≡ q) r.writes) o → On (λ r. AreNewer (all_records n.home.config d) pages 0 r.writes) o
        → On (λ r. AllByRecursion (λ (x : PageWrite). partition n.home.config x.page ≡ q) r.writes × AreNewer (all_records n.home.config d) pages 0 r.writes) o
    pair (Goes r) a b = (a, b)
    pair (Differs p e f) a b = tt

    both : (needed : LockTable → ℕ → Bool) (t : LockTable)
        → On (λ r. AllByRecursion (λ (x : PageWrite). partition n.home.config x.page ≡ q) r.writes × AreNewer (all_records n.home.config d) pages 0 r.writes)
        (plan_pages needed (all_records n.home.config d) pages (pages_of n.home.config q) t)
    both needed t =
        pair (plan_pages needed (all_records n.home.config d) pages (pages_of n.home.config q) t)
        (writes_of needed (all_records n.home.config d) pages (λ p. partition n.home.config p ≡ q) (pages_of n.home.config q) t (pages_are_of n.home.config q low))
        (redo_newer (all_records n.home.config d) pages needed 0 (pages_of n.home.config q) t (pages_rise n.home.config q low))
