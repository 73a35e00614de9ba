-- What is known of a work inside a step stays through redo.
use Rattle.std.proofs.Common.{◌≡◌, refl, sym, subst, ℕ, ◌<◌, nat_lt, Bool, true, false, List, length, Option, Some, None}
use Rattle.std.specs.List.{AllByRecursion}
use Rattle.pcl_base.specs.Limits.{Sizes}
use Rattle.pcl_base.specs.declared.event.Event.{Event}
use Rattle.pcl_base.specs.declared.log.Record.{Record}
use Rattle.text_rules.specs.MessageBytes.{IsPage, IsPageOf}
use Rattle.text_rules.specs.StoredPage.{PageAt}
use Rattle.run_rules.specs.Redo.{redone}
use Rattle.run_rules.specs.Views.{count_from}
use Rattle.node_rules.specs.InstallRule.{redo_page, redo_to, version_in, write_newer}
use Rattle.node_rules.specs.LockTable.{LockTable, set_version}
use Rattle.node_rules.specs.NodeState.{table_at}
use Rattle.node_rules.specs.Work.{HomeWork, Outcome, Work, Goes, Differs, and_so, read_page, with_node, work_of_home}
use Rattle.home_laws.proofs.Leaves.{clean_is_sound_law}
use Rattle.step_laws.proofs.Outcomes.{On, on_so}
use Rattle.node_laws.proofs.Records.{FitRecord, records_fit, redone_long, read_long}
use Rattle.node_laws.proofs.Stored.{wrote}
use Rattle.node_laws.proofs.Tables.{version_is}
use Rattle.node_laws.proofs.Works.{Base, IsBase, IsHomeWork, IsGood, part_of, good_home, has_table, good_table}
use Rattle.cluster_rules.specs.Clusters.{Cluster}
use Rattle.page_relation.specs.Work.Letting.{CalledBy}
use Rattle.settle_relation.proofs.Carrying.{on_goes}
use Rattle.settle_relation.proofs.Midway.{IsMidway, StillWaits, midway_on, still_same}
use Rattle.report_relation.specs.Redoing.{records}
use Rattle.report_relation.proofs.Restored.{wrote_called}

module _ (b : Base) (base : IsBase b) (q : ℕ) (low : q < b.config.nodes) where
  version_good : (p v : ℕ) (w : Work) → IsPageOf b.config q p → IsGood b w → IsGood b (with_node w (version_in q p v (table_at w.node q) w.node))
  version_good p v w page good = by (table_at w.node q) refl
    where
      by : (o : Option LockTable) → table_at w.node q ≡ o → IsGood b (with_node w (version_in q p v o w.node))
      by None there = good
      by (Some t) there =
          let has = has_table b base q t w low there good in good_table b base q (set_version t p v) w has.0 (version_is b.config b.number q t p v page has.1) good

  newer_good : (x : Bool) (p : ℕ) (at : PageAt) (w : HomeWork) → IsPage b.config p → length at.bytes ≡ b.config.size → IsHomeWork b w → IsHomeWork b (write_newer x p at w)
  newer_good false p at w page sized is = is
  newer_good true p at w page sized is =
      let of = is.home in
      record {
        home = record { config = of.config; number = of.number; born = of.born; home = clean_is_sound_law p w.home of.home; rights = of.rights };
        stored = wrote b.config p at w.pages w.calls page sized is.stored;
      }

  pub redo_good : (rs : List Record) → AllByRecursion (FitRecord b.config.size) rs → (p : ℕ) (w : Work) → IsPageOf b.config q p → IsGood b w → On (IsGood b) (redo_page rs q p w)
  unfolding redo_page
  redo_good rs fit p w page good =
      on_so (λ (at : PageAt). length at.bytes ≡ b.config.size) (IsGood b) (read_page w.pages p) (λ old. redo_to q p old (redone rs p old) w)
      (read_long b.config.size w.pages p (good.stored.pages p page.0))
      (λ old sized.
      let new : PageAt = redone rs p old in
      let versioned : Work = with_node w (version_in q p new.version (table_at w.node q) w.node) in
      good_home b base (write_newer (nat_lt old.version new.version) p new (work_of_home w)) versioned
      (newer_good (nat_lt old.version new.version) p new (work_of_home w) page.0 (redone_long b.config.size rs p old fit sized) (part_of b base w good))
      (version_good p new.version w page good))

-- a page of the partition that is redone
pub redo_midway : (b : Base) (c : Cluster) (e : Event) (n q r : ℕ) (w x : Work) → q < b.config.nodes → IsPageOf b.config q r → IsMidway b c e n w → redo_page (records c) q r w ≡ Goes x → IsMidway b c e n x
unfolding redo_page
redo_midway b c e n q r w x low page i goes = by (read_page w.pages r) refl goes
  where
    fit : AllByRecursion (FitRecord b.config.size) (records c)
    fit = subst (λ (k : Sizes). AllByRecursion (FitRecord k.size) (records c)) (sym i.config) (records_fit c.config c.disk (count_from 0 c.config.nodes))

    good : IsGood b x
    good = on_goes (IsGood b) (redo_page (records c) q r w) x goes (redo_good b i.base q low (records c) fit r w page i.good)

    of : (old new : PageAt) (y : Bool) → CalledBy n c.disk (work_of_home w) → CalledBy n c.disk (write_newer y r new (work_of_home w))
    of old new true is = wrote_called c n w true r new is
    of old new false is = is

    still : (new : PageAt) (y : Bool) → StillWaits w.node.home.txs (write_newer y r new (work_of_home w)).home.txs
    still new true = still_same w.node.home.txs
    still new false = still_same w.node.home.txs

    by : (o : Outcome PageAt) → read_page w.pages r ≡ o → and_so o (λ old. redo_to q r old (redone (records c) r old) w) ≡ Goes x → IsMidway b c e n x
    by (Differs k expected found) is done = absurd (cc)
    by (Goes old) is done =
        let new : PageAt = redone (records c) r old in
        let same : redo_to q r old new w ≡ x = cc in
        subst (λ (k : Work). IsMidway b c e n k) same
        (midway_on b c e n w (redo_to q r old new w) i (subst (IsGood b) (sym same) good) (of old new (nat_lt old.version new.version) i.called) (still new (nat_lt old.version new.version)) (λ t. refl))
