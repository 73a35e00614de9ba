-- From what is known of all tables and births to what is needed of one page.
use Rattle.std.proofs.Common.{◌≡◌, ◌⊎◌, refl, ℕ, ◌<◌, ◌≤◌, ◌==◌, nat_le, Bool, true, false, List, [], ◌∷◌, arith}
use Rattle.std.specs.List.{AllByRecursion}
use Rattle.std.proofs.lemmas.Bool.Decides.{nat_tests}
use Rattle.pcl_base.specs.declared.lock.Waiter.{Waiter}
use Rattle.run_rules.specs.Views.{View, born_of, since_of}
use Rattle.node_rules.specs.LockTable.{LockTable, PageEntry, entry_in, marked}
use Rattle.node_rules.specs.Words.{pick}
use Rattle.cluster_laws.proofs.EraParts.Ages.{era_is, eras_are_reached_law, eras_never_fall_law}
use Rattle.related_runs.specs.Parties.{IsLiving}
use Rattle.report_relation.specs.Bury.Joining.{BirthsAreBeforeNewEras, WaitersAreKnown}
use Rattle.report_relation.specs.Bury.Whole.{WaitsFor}

module _ (v : View) (t : LockTable) (era : ℕ) where
  abbrev Marks : Waiter → Type 0
  Marks y = (marked t y.tx.node ≡ true) ⊎ (era < born_of v y.tx.node)

  both : (ws : List Waiter) → AllByRecursion (λ (y : Waiter). IsLiving v y.tx) ws → AllByRecursion Marks ws → AllByRecursion (WaitsFor v t era) ws
  both [] lives marks = tt
  both (y ∷ ys) lives marks = (record { living = lives.0; marks = marks.0 }, both ys lives.1 marks.1)

  pub waits_known : (p : ℕ) (xs : List PageEntry) → AllByRecursion (λ (x : PageEntry). AllByRecursion (λ (y : Waiter). IsLiving v y.tx) x.entry.waiting) xs
      → AllByRecursion (λ (x : PageEntry). AllByRecursion Marks x.entry.waiting) xs → AllByRecursion (WaitsFor v t era) (entry_in xs p).waiting
  unfolding entry_in
  waits_known p [] lives marks = tt
  waits_known p (x ∷ xs) lives marks = by (x.page == p) (both x.entry.waiting lives.0 marks.0) (waits_known p xs lives.1 marks.1)
    where
      by : (b : Bool) → AllByRecursion (WaitsFor v t era) x.entry.waiting → AllByRecursion (WaitsFor v t era) (entry_in xs p).waiting
          → AllByRecursion (WaitsFor v t era) (pick b x.entry (entry_in xs p)).waiting
      by true one rest = one
      by false one rest = rest

pub waiters_are_known_law : WaitersAreKnown
waiters_are_known_law v t p era lives marks = waits_known v t era p t.entries lives marks

pub births_are_before_new_eras_law : BirthsAreBeforeNewEras
births_are_before_new_eras_law c q birth epoch v cluster there made era before new = by (nat_le v.epoch birth) refl
  where
    by : (b : Bool) → nat_le v.epoch birth ≡ b → birth < since_of v q
    by true test =
        let after : v.epoch ≤ birth = grind (arith, nat_tests, test) in
        let rises = eras_never_fall_law c q v.epoch birth cluster after made in
        let own = era_is c v.epoch v there q in
        let most = eras_are_reached_law c q epoch cluster in
        absurd (omega (arith, rises, own, most, era, before, new))
    by false test = grind (arith, nat_tests, test, new)
