-- A partition that the node keeps is worked off.
use Rattle.std.proofs.Common.{◌≡◌, refl, sym, subst, ◌∙◌, ℕ, ◌<◌, not, Bool, true, false, length, List, Option, Some, None}
use Rattle.pcl_base.specs.Limits.{Sizes}
use Rattle.pcl_base.specs.declared.event.Event.{Event}
use Rattle.run_rules.specs.Redo.{all_records, records_in}
use Rattle.run_rules.specs.Views.{View, is_live, since_of}
use Rattle.rule_laws.specs.LaterViews.{IsWhole}
use Rattle.node_rules.specs.InstallRule.{complete, keep_in, keep_served, lost_nodes, purge_table, purge_work, purged as purged_node, redo_lost, settle_all}
use Rattle.node_rules.specs.LockTable.{LockTable, pages_of}
use Rattle.node_rules.specs.NodeState.{partition, table_at}
use Rattle.node_rules.specs.Work.{Differs, Goes, Outcome, Work, and_then, for_each, with_node}
use Rattle.node_laws.proofs.Tables.{pages_are}
use Rattle.node_laws.proofs.Works.{Base}
use Rattle.cluster_rules.specs.Clusters.{Cluster}
use Rattle.cluster_laws.proofs.EraParts.Lives.{live_known}
use Rattle.kept_relation.specs.Clearing.{IsClear}
use Rattle.kept_relation.specs.Known.{dead_of, gone_in}
use Rattle.kept_relation.specs.Redoing.{MayRedo}
use Rattle.kept_relation.proofs.AllRedo.{redo_keeps_law}
use Rattle.kept_relation.proofs.Purged.{purging_early_leads_law, put_there}
use Rattle.kept_relation.proofs.Serving.{purge_leads}
use Rattle.cluster_laws.specs.Link.EpochLaws.{IsInOrder}
use Rattle.page_protocol.specs.State.{Page}
use Rattle.page_protocol.specs.Steps.{Reached, here}
use Rattle.report_relation.specs.Completing.{IsReady, NewHaveNoRight}
use Rattle.report_relation.specs.Serving.{HasWhole}
use Rattle.report_relation.proofs.AllSettled.{all_are_settled_law}
use Rattle.settle_relation.specs.Midway.{IsMidway}
use Rattle.page_relation.specs.Work.Events.{IsEntered}
use Rattle.page_relation.specs.Work.Keeping.{IsWorkOf, Leads}
use Rattle.page_relation.specs.Work.Landing.{Acts, disk_of}
use Rattle.page_relation.proofs.WorkParts.Kept.{leads_on, reached_on}
use Rattle.report_relation.specs.Bury.Kept.{IsKept}
use Rattle.report_relation.specs.Bury.Whole.{IsKnown}
use Rattle.report_relation.proofs.BuryParts.KeptEarly.{kept_is_clear_early_law}
use Rattle.report_relation.proofs.BuryParts.KeptServed.{kept_is_clear_law}
use Rattle.report_relation.proofs.BuryParts.KnownWhole.{known_is_whole_law}
use Rattle.report_relation.proofs.BuryParts.Living.{both_parts}
use Rattle.report_relation.specs.Completion.Completed.{MayBeWhole, Owns}
use Rattle.report_relation.proofs.CompletionParts.Completed.{complete_keeps_law}
use Rattle.install_relation.proofs.Beside.{purge_midway}
use Rattle.whole_runs.proofs.InstallParts.Logs.{AreLogs}
use Rattle.whole_runs.proofs.InstallParts.Lost.{all_lost_midway, among_lost}

-- a work before the partition, and its table
pub record MayGoOn (b : Base) (c : Cluster) (e : Event) (n p : ℕ) (old v : View) (w : Work) (a : Page) (t : LockTable) : Type 0 where
  pub mid : IsMidway b c e n w
  pub entered : IsEntered a
  pub kept : IsKept c e n p old v w t
  pub logs : (disk_of c n w).logs ≡ c.disk.logs
  pub same : AreLogs c (disk_of c n w)

module _ (b : Base) (c : Cluster) (e : Event) (n p : ℕ) (acts : Acts c n) (order : IsInOrder c) (low : p < c.config.pages) (inside : partition c.config p < c.config.nodes) (quiet : NewHaveNoRight c p) (owns : Owns b (partition c.config p)) where
  abbrev q : ℕ
  q = partition c.config p

  abbrev pub IsDone : Work → Page → Type 0
  IsDone w a = IsMidway b c e n w × IsEntered a

  -- a table that is known, where it misses no report, may be completed
  pub known_may : (blank : List ℕ) (v : View) (t : LockTable) (w : Work) (a : Page) → Reached blank a → IsWorkOf c e n p w a → IsEntered a → AreLogs c (disk_of c n w) → table_at w.node q ≡ Some t → IsKnown c e n p v w t
      → MayBeWhole c e n p q w a
  known_may blank v t w a reached related entered logs there known =
      record {
        same = logs.same;
        logs = logs.logs;
        whole = λ u k at ready. (let led = whole u k ready in record { page = led.page; run = led.run; related = led.related; entered = led.known.0; whole = led.known.1 });
      }
    where
      whole : (u : View) (k : LockTable) → IsReady c n q w u k → Leads c e n p (λ y d. IsEntered d × HasWhole c e n p q (since_of u q) y k d) a w
      whole u k ready =
          known_is_whole_law c e n p u k blank w a acts inside ready
          (subst (λ (y : View). IsKnown c e n p y w k) view (subst (λ (y : LockTable). IsKnown c e n p v w y) table known)) reached related entered
        where
          views : Some v ≡ Some u
          views = sym known.owner.view ∙ ready.in_view

          tables : Some t ≡ Some k
          tables = sym there ∙ ready.there

          view : v ≡ u
          view = cc

          table : t ≡ k
          table = cc

  -- and is
  pub known_completes : (blank : List ℕ) (v : View) (t : LockTable) (w x : Work) (a : Page) → Reached blank a → IsWorkOf c e n p w a → IsMidway b c e n w → IsEntered a → AreLogs c (disk_of c n w) → table_at w.node q ≡ Some t
      → IsKnown c e n p v w t → complete c.disk q w ≡ Goes x → Leads c e n p IsDone a x
  known_completes blank v t w x a reached related mid entered logs there known goes =
      complete_keeps_law b c e n p q acts order low inside quiet owns blank w x a reached related (mid, entered, known_may blank v t w a reached related entered logs there known) goes

  module _ (old v : View) (was : IsWhole c.config old) (now : IsWhole c.config v) where
    below : (m : ℕ) → is_live old.live m ≡ true → m < length v.live
    below m lived = subst (λ (k : ℕ). m < k) (sym now.live) (live_known c.config old m was lived)

    abbrev lost : List ℕ
    lost = lost_nodes (Some old) v

    abbrev one : ℕ → Work → Outcome Work
    one = redo_lost (records_in c.config c.disk lost) (all_records c.config c.disk) q

    abbrev Clear : Work → Page → Type 0
    Clear w a = IsClear c e n p v lost (length v.live) (dead_of (is_live old.live) v) (gone_in (is_live old.live) v) w a

    -- ---- one that is served

    module _ (blank : List ℕ) (w : Work) (a : Page) (t : LockTable) (reached : Reached blank a) (related : IsWorkOf c e n p w a) (i : MayGoOn b c e n p old v w a t) (on : t.serving ≡ true) where
      pub config : w.node.home.config ≡ c.config
      config = i.mid.good.home.config ∙ i.mid.config

      pub cleared : Leads c e n p (λ y d. IsEntered d × Clear y d) a w
      cleared =
          kept_is_clear_law c e n p (length v.live) old v lost t blank w a acts inside i.kept on
          (λ m there. among_lost old v m (below m (both_parts (is_live old.live m) (not (is_live v.live m)) there).0) there) below reached related i.entered

      pub cleared_reached : Reached blank cleared.page
      cleared_reached = reached_on blank a cleared.page reached cleared.run

      pub may_redo : MayRedo c n q w cleared.page w cleared.page
      may_redo =
          record {
            since = record {
              claims = record { listed = refl; home = refl; right = refl; era = refl };
              standing = record { config = refl; number = refl; epoch = refl; view = refl };
              replies = refl;
              sends = refl;
            };
            entered = cleared.known.0;
            called = i.mid.called;
            logs = i.logs;
            config = config;
            table = t;
            there = i.kept.there;
            serving = on;
          }

      -- once it is redone and purged
      pub purges : (m : Work) → for_each one (pages_of c.config q) w ≡ Goes m → Leads c e n p IsDone a (purge_work q v m)
      purges m done =
          let led = redo_keeps_law c e n p lost w cleared.page acts low blank w m cleared.page cleared_reached cleared.related may_redo done in
          let purged =
          purge_leads c e n p acts low (Some old) v (length v.live) (dead_of (is_live old.live) v) (gone_in (is_live old.live) v) (IsMidway b c e n) w m cleared.page led.page acts
          cleared.known.1 led.known led.related in
          let mid : IsMidway b c e n m = all_lost_midway b c e n q inside (records_in c.config c.disk lost) (pages_of c.config q) (pages_are c.config q inside) w m i.mid done in
          leads_on c e n p IsDone a cleared.page (purge_work q v m) cleared.run
          (leads_on c e n p IsDone cleared.page led.page (purge_work q v m) led.run
          (record {
            page = purged.page;
            run = purged.run;
            related = purged.related;
            known = (purge_midway b c e n q v m (subst (λ (z : Sizes). q < z.nodes) (sym mid.config) inside) mid, purged.known);
          }))

      serves : (x : Work) → keep_served true c.disk (Some old) v q w ≡ Goes x → Leads c e n p IsDone a x
      serves x goes = by (for_each one (pages_of c.config q) w) refl (subst (λ (z : Sizes). worked z ≡ Goes x) config goes)
        where
          worked : Sizes → Outcome Work
          worked z = and_then (for_each (redo_lost (records_in z c.disk lost) (all_records z c.disk) q) (pages_of z q) w) (λ m. settle_all q (purge_work q v m))

          by : (o : Outcome Work) → for_each one (pages_of c.config q) w ≡ o → and_then o (λ m. settle_all q (purge_work q v m)) ≡ Goes x → Leads c e n p IsDone a x
          by (Differs k expected found) done rest = absurd (cc)
          by (Goes m) done rest =
              let purged = purges m done in
              leads_on c e n p IsDone a purged.page x purged.run
              (all_are_settled_law b c e n p q acts order low inside blank (purge_work q v m) x purged.page (reached_on blank a purged.page reached purged.run) purged.related purged.known rest)

    -- ---- one that is being rebuilt

    module _ (blank : List ℕ) (w : Work) (a : Page) (t : LockTable) (reached : Reached blank a) (related : IsWorkOf c e n p w a) (i : MayGoOn b c e n p old v w a t) (off : t.serving ≡ false) (known : IsKnown c e n p v (purge_work q v w) (purge_table v.live t)) where
      there_then : table_at (purge_work q v w).node q ≡ Some (purge_table v.live t)
      there_then =
          subst (λ (o : Option LockTable). table_at (with_node w (purged_node q v.live o w.node)).node q ≡ Some (purge_table v.live t)) (sym i.kept.there)
          (put_there w.node.tables q t (Some (purge_table v.live t)) i.kept.there)

      logs : AreLogs c (disk_of c n (purge_work q v w))
      logs = i.same

      -- once it is purged
      pub purges_early : Leads c e n p (λ y d. IsEntered d × MayBeWhole c e n p q y d) a (purge_work q v w)
      purges_early =
          let cleared = kept_is_clear_early_law c e n p (length v.live) old v t blank w a acts inside i.kept off below reached related i.entered in
          let early = cleared.known.1 in
          let there : Reached blank cleared.page = reached_on blank a cleared.page reached cleared.run in
          let purged =
          purging_early_leads_law c e n p (length v.live) t v w cleared.page (dead_of (is_live old.live) v) (gone_in (is_live old.live) v) acts i.kept.there off early.are early.fits early.alone early.spared
          cleared.related cleared.known.0 in
          leads_on c e n p (λ y d. IsEntered d × MayBeWhole c e n p q y d) a cleared.page (purge_work q v w) cleared.run
          (record {
            page = purged.page;
            run = purged.run;
            related = purged.related;
            known = (
              purged.known,
              known_may blank v (purge_table v.live t) (purge_work q v w) purged.page (reached_on blank cleared.page purged.page there purged.run) purged.related purged.known logs there_then known,
            );
          })

      rebuilds : (x : Work) → keep_served false c.disk (Some old) v q w ≡ Goes x → Leads c e n p IsDone a x
      rebuilds x goes =
          leads_on c e n p IsDone a purges_early.page x purges_early.run
          (complete_keeps_law b c e n p q acts order low inside quiet owns blank (purge_work q v w) x purges_early.page (reached_on blank a purges_early.page reached purges_early.run) purges_early.related
          (purge_midway b c e n q v w (subst (λ (z : Sizes). q < z.nodes) (sym i.mid.config) inside) i.mid, purges_early.known.0, purges_early.known.1) goes)

    -- a table, or none
    pub keep_goes_on : (blank : List ℕ) (w x : Work) (a : Page) → Reached blank a → IsWorkOf c e n p w a → IsMidway b c e n w → IsEntered a
        → ((t : LockTable) → table_at w.node q ≡ Some t → MayGoOn b c e n p old v w a t)
        → ((t : LockTable) → table_at w.node q ≡ Some t → t.serving ≡ false → IsKnown c e n p v (purge_work q v w) (purge_table v.live t))
        → keep_in (table_at w.node q) c.disk (Some old) v q w ≡ Goes x → Leads c e n p IsDone a x
    keep_goes_on blank w x a reached related mid entered may known goes = of (table_at w.node q) refl goes
      where
        by : (t : LockTable) → table_at w.node q ≡ Some t → (d : Bool) → t.serving ≡ d → keep_served d c.disk (Some old) v q w ≡ Goes x → Leads c e n p IsDone a x
        by t there true on done = serves blank w a t reached related (may t there) on x done
        by t there false off done = rebuilds blank w a t reached related (may t there) off (known t there off) x done

        of : (o : Option LockTable) → table_at w.node q ≡ o → keep_in o c.disk (Some old) v q w ≡ Goes x → Leads c e n p IsDone a x
        of None there done =
            let same : w ≡ x = cc in
            subst (Leads c e n p IsDone a) same (record { page = a; run = here; related = related; known = (mid, entered) })
        of (Some t) there done = by t there t.serving refl done
