-- A plan, as long as nothing changes from which it was made.
use Rattle.std.proofs.Common.{◌≡◌, ℕ, ◌%◌, List, [], ◌∷◌, ◌++◌, map, Option, Some, None, refl, ap, sym, subst, ◌∙◌, arith}
use Rattle.std.specs.List.{AllByRecursion}
use Rattle.std.specs.Prelude.{IfSome}
use Rattle.pcl_base.specs.Limits.{Sizes}
use Rattle.pcl_base.specs.declared.log.Record.{Record}
use Rattle.text_rules.specs.LogRecord.{records_of}
use Rattle.text_rules.specs.MessageBytes.{IsPageOf}
use Rattle.text_rules.specs.StoredPage.{stored_page}
use Rattle.run_rules.specs.Disk.{Disk, raw_page, log_at}
use Rattle.run_rules.specs.Redo.{records_in, all_records}
use Rattle.run_rules.specs.Views.{count_from}
use Rattle.disk_model.specs.Disk.{Pages, Logs}
use Rattle.install_laws.specs.InstallPlans.{PageWrite, PartitionPlan as Planned}
use Rattle.partition_redo.specs.declared.site.Chain.{Chain}
use Rattle.partition_redo.specs.Chains.{PlannedView}
use Rattle.partition_redo.specs.Plans.{AreAlike}
use Rattle.partition_redo.proofs.Plans.{count_all}
use Rattle.partition_redo.proofs.Staying.{chains_stay, entries_stay, newer_stay}
use Rattle.install_plans.specs.Plans.{CanRedo, RedoesOwn, plan_of, write_of, writes_by, writes_of}
use Rattle.partition_steps.specs.Carried.{AreRising, CanWrite}
use Rattle.partition_steps.specs.Laws.{PlansAreSame, PlansStay, StaysTwice}
use Rattle.partition_steps.specs.Stays.{HasSameRecords, IsSameFor, StaysFor, WasDisk}

-- the whole records of all logs
records_alike : (c : Sizes) (d e : Disk) (ns : List ℕ) → AllByRecursion (λ n. records_of c (log_at e n) ≡ records_of c (log_at d n)) ns → records_in c e ns ≡ records_in c d ns
unfolding records_in
records_alike c d e [] all = refl
records_alike c d e (n ∷ ns) all = λ i. all.0 i ++ records_alike c d e ns all.1 i

pub all_alike : (c : Sizes) (d e : Disk) → HasSameRecords c d e → all_records c e ≡ all_records c d
all_alike c d e same = records_alike c d e (count_from 0 c.nodes) (count_all (λ n. records_of c (log_at e n) ≡ records_of c (log_at d n)) 0 c.nodes (λ n less. same n (omega (arith, less))))

-- the pages of chains
chain_pages : (c : Sizes) (q : ℕ) (d e : Disk) (xs : List Chain) → IsSameFor c q d e → AllByRecursion (λ x. IsPageOf c q x.page) xs → AllByRecursion (λ x. raw_page e.pages x.page ≡ raw_page d.pages x.page) xs
chain_pages c q d e [] same own = tt
chain_pages c q d e (x ∷ xs) same own = (same.pages x.page own.0, chain_pages c q d e xs same own.1)

disks_alike : (c : Sizes) (q : ℕ) (d e : Disk) (r : PlannedView) → IsSameFor c q d e → RedoesOwn c q r → AreAlike c d e r.chains
disks_alike c q d e r same own = record { pages = chain_pages c q d e r.chains same own; records = same.records }

-- the same is written
writes_alike : (rs more : List Record) (c : Sizes) (q : ℕ) (d e : Disk) (xs : List Chain) → more ≡ rs → IsSameFor c q d e → AllByRecursion (λ x. IsPageOf c q x.page) xs
    → writes_of more e.pages (map (λ x. x.page) xs) ≡ writes_of rs d.pages (map (λ x. x.page) xs)
unfolding writes_of
writes_alike rs more c q d e [] is same own = refl
writes_alike rs more c q d e (x ∷ xs) is same own =
    λ i. write_of (is i) x.page (stored_page x.page (same.pages x.page own.0 i)) ++ writes_alike rs more c q d e xs is same own.1 i

pub writes_same : (c : Sizes) (q : ℕ) (d e : Disk) (r : PlannedView) → r.config ≡ c → IsSameFor c q d e → RedoesOwn c q r → writes_by e (Some r) ≡ writes_by d (Some r)
writes_same c q d e r config same own =
    writes_alike (all_records r.config d) (all_records r.config e) c q d e r.chains
    (all_alike r.config d e (subst (λ (k : Sizes). HasSameRecords k d e) (sym config) same.records)) same own

pub plans_are_same_law : PlansAreSame
plans_are_same_law c me q pages logs p d e t same fits = by p.redo fits.redo fits.own
  where
    with_writes : List PageWrite → Planned
    with_writes ws = record (plan_of d t p) { writes = ws }

    by : (r : Option PlannedView) → IfSome r (CanRedo c me pages logs) → IfSome r (RedoesOwn c q) → with_writes (writes_by e r) ≡ with_writes (writes_by d r)
    by None can own = refl
    by (Some r) can own = ap with_writes (writes_same c q d e r can.config same own)

pages_stay : (e : Disk) (xs : List Chain) → AllByRecursion (λ x. raw_page e.pages x.page ≡ raw_page e.pages x.page) xs
pages_stay e [] = tt
pages_stay e (x ∷ xs) = (refl, pages_stay e xs)

-- a redo that can still be carried out
module _ (c : Sizes) (me q : ℕ) (pages : Pages) (logs : Logs) (later : Pages) (more : Logs) (stays : StaysFor c q pages logs later more) (r : PlannedView) (own : RedoesOwn c q r) where
  redo_stays : CanRedo c me pages logs r → CanRedo c me later more r
  redo_stays can = record {
    config = can.config;
    node = can.node;
    stand = λ e told.
        let was = stays.for_logs e told in
        let d : Disk = record { pages = e.pages; logs = was.d.logs } in
        entries_stay c d e r.chains (record { pages = pages_stay e r.chains; records = was.same }) (can.stand d was.told);
    chains = λ e seen told.
        let was = stays.for_disk e seen told in
        chains_stay c was.d e r.chains (disks_alike c q was.d e r was.same own) (can.chains was.d was.pages_told was.logs_told);
    newer = λ e seen told.
        let was = stays.for_disk e seen told in
        newer_stay c was.d e r.chains (disks_alike c q was.d e r was.same own) (can.newer was.d was.pages_told was.logs_told);
  }

  pub write_stays : CanWrite c me pages logs r → CanWrite c me later more r
  write_stays can = record {
    redo = redo_stays can.redo;
    rising = λ e seen told.
        let was = stays.for_disk e seen told in
        subst (AreRising 0) (sym (writes_same c q was.d e r can.redo.config was.same own)) (can.rising was.d was.pages_told was.logs_told);
  }

pub plans_stay_law : PlansStay
plans_stay_law c me q pages logs later more p stays can = record {
  fits = record { redo = redo p.redo can.fits.redo can.fits.own; own = can.fits.own; table = can.fits.table };
  redo = write p.redo can.redo can.fits.own;
}
  where
    redo : (r : Option PlannedView) → IfSome r (CanRedo c me pages logs) → IfSome r (RedoesOwn c q) → IfSome r (CanRedo c me later more)
    redo None has own = tt
    redo (Some r) has own = redo_stays c me q pages logs later more stays r own has

    write : (r : Option PlannedView) → IfSome r (CanWrite c me pages logs) → IfSome r (RedoesOwn c q) → IfSome r (CanWrite c me later more)
    write None has own = tt
    write (Some r) has own = write_stays c me q pages logs later more stays r own has

pub stays_twice_law : StaysTwice
stays_twice_law c q pages logs later more last most first then = record {
  for_logs = λ e told.
      let b = then.for_logs e told in
      let a = first.for_logs b.d b.told in
      record { d = a.d; told = a.told; same = λ n less. b.same n less ∙ a.same n less };
  for_disk = λ e seen told.
      let b = then.for_disk e seen told in
      let a = first.for_disk b.d b.pages_told b.logs_told in
      record {
        d = a.d;
        pages_told = a.pages_told;
        logs_told = a.logs_told;
        same = record { pages = λ p own. b.same.pages p own ∙ a.same.pages p own; records = λ n less. b.same.records n less ∙ a.same.records n less };
      };
}

-- pages of one partition aren't of another
other_pages : (c : Sizes) (q r p : ℕ) (xs : List Chain) → (r ≡ q → ⊥) → IsPageOf c r p → AllByRecursion (λ x. IsPageOf c q x.page) xs → AllByRecursion (λ s. s ≡ p → ⊥) (map (λ x. x.page) xs)
other_pages c q r p [] apart own all = tt
other_pages c q r p (x ∷ xs) apart own all = (λ same. apart (sym own.1 ∙ ap (λ s. s % c.nodes) (sym same) ∙ all.0.1), other_pages c q r p xs apart own all.1)

-- what redo leaves of another partition
pub others_stay : (c : Sizes) (q r : ℕ) (pages later : Pages) (logs more : Logs) (x : PlannedView) → RedoesOwn c q x → (r ≡ q → ⊥) → more ≡ logs → (pages ≡ None → later ≡ None)
    → ((d : Disk) (l : List (List ℕ)) (p : ℕ) → pages ≡ Some d.pages → logs ≡ Some d.logs → later ≡ Some l → AllByRecursion (λ s. s ≡ p → ⊥) (map (λ y. y.page) x.chains) → raw_page l p ≡ raw_page d.pages p)
    → StaysFor c r pages logs later more
others_stay c q r pages later logs more x own apart same untold others = record {
  for_logs = λ e told. record { d = e; told = sym same ∙ told; same = λ n less. refl };
  for_disk = λ e seen told. was e seen told pages refl;
}
  where
    was : (e : Disk) → later ≡ Some e.pages → more ≡ Some e.logs → (o : Pages) → pages ≡ o → WasDisk c r pages logs e
    was e seen told None is = absurd (none (sym (untold is) ∙ seen))
      where
        none : {X : Type 0} {x : X} → None ≡ Some x → ⊥
        none e = absurd (cc)
    was e seen told (Some l) is =
        let d : Disk = record { pages = l; logs = e.logs } in
        record {
          d = d;
          pages_told = is;
          logs_told = sym same ∙ told;
          same = record {
            pages = λ p mine. others d e.pages p is (sym same ∙ told) seen (other_pages c q r p x.chains apart mine own);
            records = λ n less. refl;
          };
        }
