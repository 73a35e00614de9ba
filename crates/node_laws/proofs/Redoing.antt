-- Redo of a partition's pages, and a table that is completed and served.
use Rattle.std.proofs.Common.{◌≡◌, refl, subst, sym, ℕ, ◌<◌, nat_lt, Bool, true, false, List, length, Option, Some, None}
use Rattle.std.specs.List.{AllByRecursion}
use Rattle.pcl_base.specs.Limits.{Sizes}
use Rattle.pcl_base.specs.declared.log.Record.{Record}
use Rattle.pcl_base.specs.declared.reply.Reply.TheVariants as reply
use Rattle.text_rules.specs.MessageBytes.{IsPage, IsPageOf}
use Rattle.text_rules.specs.StoredPage.{PageAt}
use Rattle.run_rules.specs.Disk.{Disk}
use Rattle.run_rules.specs.Redo.{redone, greatest, records_in, all_records}
use Rattle.run_rules.specs.Views.{View, count_from}
use Rattle.node_rules.specs.LockTable.{LockTable, pages_of, set_version, serve}
use Rattle.node_rules.specs.NodeState.{table_at, put_table}
use Rattle.node_rules.specs.Work.{HomeWork, Work, for_each, work_of_home, with_node, reply, read_page}
use Rattle.node_rules.specs.OwnerRule.{settle_page}
use Rattle.node_rules.specs.InstallRule.{write_newer, version_in, redo_to, redo_page, settle_all, serve_table, begin_serving, complete_if, is_complete, complete, redo_if, redo_lost, version_of_page, lost_nodes, purge_table, purged, purge_work, keep_served, keep_in}
use Rattle.home_laws.proofs.Leaves.{clean_is_sound_law}
use Rattle.step_laws.proofs.Outcomes.{On, on_then, on_so, on_each}
use Rattle.node_laws.specs.Nodes.{IsTable}
use Rattle.node_laws.proofs.Records.{FitRecord, records_fit, redone_long, read_long}
use Rattle.node_laws.proofs.Stored.{wrote}
use Rattle.node_laws.proofs.Tables.{pages_are, version_is, serve_is, purge_table_is}
use Rattle.node_laws.proofs.Works.{Base, IsBase, IsHomeWork, IsGood, part_of, good_reply, good_home, has_table, good_table}
use Rattle.node_laws.proofs.Pages.{settle_good}

module _ (b : Base) (base : IsBase b) (q : ℕ) (low : q < b.config.nodes) where
  -- another table in the place of the one that is there
  table_changed : (f : LockTable → LockTable) → ((t : LockTable) → IsTable b.config b.number q t → IsTable b.config b.number q (f t)) → (t : LockTable) (w : Work) → table_at w.node q ≡ Some t
      → IsGood b w → IsGood b (with_node w (put_table w.node q (Some (f t))))
  table_changed f each t w there good = let has = has_table b base q t w low there good in good_table b base q (f t) w has.0 (each t has.1) good

  version_good : (p v : ℕ) (w : Work) → IsPageOf b.config q p → IsGood b w → IsGood b (with_node w (version_in q p v (table_at w.node q) w.node))
  version_good p v w page good = by (table_at w.node q) refl
    where
      by : (o : Option LockTable) → table_at w.node q ≡ o → IsGood b (with_node w (version_in q p v o w.node))
      by None there = good
      by (Some t) there = table_changed (λ t. set_version t p v) (λ t is. version_is b.config b.number q t p v page is) t w there good

  newer_good : (x : Bool) (p : ℕ) (at : PageAt) (w : HomeWork) → IsPage b.config p → length at.bytes ≡ b.config.size → IsHomeWork b w → IsHomeWork b (write_newer x p at w)
  newer_good false p at w page sized is = is
  newer_good true p at w page sized is =
      let of = is.home in
      record {
        home = record { config = of.config; number = of.number; born = of.born; home = clean_is_sound_law p w.home of.home; rights = of.rights };
        stored = wrote b.config p at w.pages w.calls page sized is.stored;
      }

  redo_good : (rs : List Record) → AllByRecursion (FitRecord b.config.size) rs → (p : ℕ) (w : Work) → IsPageOf b.config q p → IsGood b w → On (IsGood b) (redo_page rs q p w)
  unfolding redo_page
  redo_good rs fit p w page good =
      on_so (λ (at : PageAt). length at.bytes ≡ b.config.size) (IsGood b) (read_page w.pages p) (λ old. redo_to q p old (redone rs p old) w)
      (read_long b.config.size w.pages p (good.stored.pages p page.0))
      (λ old sized.
      let new : PageAt = redone rs p old in
      let versioned : Work = with_node w (version_in q p new.version (table_at w.node q) w.node) in
      good_home b base (write_newer (nat_lt old.version new.version) p new (work_of_home w)) versioned
      (newer_good (nat_lt old.version new.version) p new (work_of_home w) page.0 (redone_long b.config.size rs p old fit sized) (part_of b base w good))
      (version_good p new.version w page good))

  same_pages : (w : Work) → IsGood b w → AllByRecursion (IsPageOf b.config q) (pages_of w.node.home.config q)
  same_pages w good = subst (λ (c : Sizes). AllByRecursion (IsPageOf b.config q) (pages_of c q)) (sym good.home.config) (pages_are b.config q low)

  records_good : (w : Work) (d : Disk) (ns : List ℕ) → IsGood b w → AllByRecursion (FitRecord b.config.size) (records_in w.node.home.config d ns)
  records_good w d ns good = subst (λ (c : Sizes). AllByRecursion (FitRecord c.size) (records_in w.node.home.config d ns)) good.home.config (records_fit w.node.home.config d ns)

  settle_all_good : (w : Work) → IsGood b w → On (IsGood b) (settle_all q w)
  settle_all_good w good = on_each (IsGood b) (IsPageOf b.config q) settle_page (λ p x page is. settle_good b base p page.0 x is) (pages_of w.node.home.config q) (same_pages w good) w good

  serving_good : (w : Work) → IsGood b w → On (IsGood b) (begin_serving q w)
  serving_good w good =
      settle_all_good (reply (reply.Serving q) (with_node w (serve_table q (table_at w.node q) w.node)))
      (good_reply b base (reply.Serving q) (with_node w (serve_table q (table_at w.node q) w.node)) (by (table_at w.node q) refl))
    where
      by : (o : Option LockTable) → table_at w.node q ≡ o → IsGood b (with_node w (serve_table q o w.node))
      by None there = good
      by (Some t) there = table_changed serve (λ t is. serve_is b.config b.number q t is) t w there good

  -- a table that is served once no report is missing
  pub complete_good : (d : Disk) (w : Work) → IsGood b w → On (IsGood b) (complete d q w)
  unfolding complete
  complete_good d w good = by (is_complete w.node.view q (table_at w.node q))
    where
      by : (x : Bool) → On (IsGood b) (complete_if x d q w)
      by false = good
      by true =
          on_then (IsGood b) (IsGood b) (for_each (redo_page (all_records w.node.home.config d) q) (pages_of w.node.home.config q) w) (begin_serving q)
          (on_each (IsGood b) (IsPageOf b.config q) (redo_page (all_records w.node.home.config d) q)
          (λ p x page is. redo_good (all_records w.node.home.config d) (records_good w d (count_from 0 w.node.home.config.nodes) good) p x page is) (pages_of w.node.home.config q) (same_pages w good) w good)
          serving_good

  purge_good : (v : View) (w : Work) → IsGood b w → IsGood b (purge_work q v w)
  purge_good v w good = by (table_at w.node q) refl
    where
      by : (o : Option LockTable) → table_at w.node q ≡ o → IsGood b (with_node w (purged q v.live o w.node))
      by None there = good
      by (Some t) there = table_changed (purge_table v.live) (λ t is. purge_table_is b.config b.number q v.live t is) t w there good

  lost_good : (lost rs : List Record) → AllByRecursion (FitRecord b.config.size) rs → (p : ℕ) (w : Work) → IsPageOf b.config q p → IsGood b w → On (IsGood b) (redo_lost lost rs q p w)
  lost_good lost rs fit p w page good = by (nat_lt (version_of_page (table_at w.node q) p) (greatest lost p))
    where
      by : (x : Bool) → On (IsGood b) (redo_if x rs q p w)
      by true = redo_good rs fit p w page good
      by false = good

  -- a partition that the node keeps
  pub keep_good : (o : Option LockTable) (d : Disk) (before : Option View) (v : View) (w : Work) → IsGood b w → On (IsGood b) (keep_in o d before v q w)
  keep_good None d before v w good = good
  keep_good (Some t) d before v w good = by t.serving
    where
      by : (x : Bool) → On (IsGood b) (keep_served x d before v q w)
      by true =
          on_then (IsGood b) (IsGood b)
          (for_each (redo_lost (records_in w.node.home.config d (lost_nodes before v)) (all_records w.node.home.config d) q) (pages_of w.node.home.config q) w)
          (λ x. settle_all q (purge_work q v x))
          (on_each (IsGood b) (IsPageOf b.config q) (redo_lost (records_in w.node.home.config d (lost_nodes before v)) (all_records w.node.home.config d) q)
          (λ p x page is. lost_good (records_in w.node.home.config d (lost_nodes before v)) (all_records w.node.home.config d) (records_good w d (count_from 0 w.node.home.config.nodes) good) p x page is)
          (pages_of w.node.home.config q) (same_pages w good) w good)
          (λ x is. settle_all_good (purge_work q v x) (purge_good v x is))
      by false = complete_good d (purge_work q v w) (purge_good v w good)
