-- A partition that a node keeps: redo, purge, and then what comes after them.
use Rattle.std.proofs.Common.{◌≡◌, refl, subst, ℕ, ◌<◌, ◌==◌, Bool, true, false, List, [], ◌∷◌, Option, Some, None}
use Rattle.pcl_base.specs.Limits.{Sizes}
use Rattle.pcl_base.specs.declared.event.Event.{Event}
use Rattle.pcl_base.specs.declared.tx.TxId.{TxId}
use Rattle.run_rules.specs.Redo.{all_records, records_in}
use Rattle.run_rules.specs.Views.{View}
use Rattle.node_rules.specs.InstallRule.{complete, keep_in, keep_served, lost_nodes, purge_work, redo_lost, settle_all}
use Rattle.node_rules.specs.LockTable.{LockTable, pages_of}
use Rattle.node_rules.specs.NodeState.{partition, table_at}
use Rattle.node_rules.specs.Work.{Differs, Goes, Outcome, Work, and_then, for_each}
use Rattle.cluster_rules.specs.Clusters.{Cluster, node_at}
use Rattle.cluster_laws.specs.Era.Eras.{era_in}
use Rattle.page_protocol.specs.State.{Page}
use Rattle.page_protocol.specs.Steps.{Reached, here}
use Rattle.page_relation.specs.Work.Events.{IsEntered}
use Rattle.page_relation.specs.Work.Keeping.{IsWorkOf, Keeps, Leads}
use Rattle.page_relation.specs.Work.Landing.{Acts}
use Rattle.page_relation.proofs.WorkParts.Kept.{leads_on, reached_on}
use Rattle.kept_relation.specs.Clearing.{IsClear}
use Rattle.kept_relation.specs.Emptying.{AreDead, dead_below, nobody}
use Rattle.kept_relation.specs.Purging.{AreSpared, FitsRebuilt, HasNoTable}
use Rattle.kept_relation.specs.Redoing.{IsRedone, MayRedo}
use Rattle.kept_relation.proofs.AllRedo.{redo_keeps_law}
use Rattle.kept_relation.proofs.Clear.{clear_stays_law}
use Rattle.kept_relation.proofs.Purged.{purging_early_leads_law, purging_leads_law}

-- something that is known of works through a list of operations
known_through : {X : Type 0} (Mid : Work → Type 0) (f : X → Work → Outcome Work) → ((r : X) (w x : Work) → Mid w → f r w ≡ Goes x → Mid x) → (rs : List X) (w x : Work) → Mid w
    → for_each f rs w ≡ Goes x → Mid x
unfolding for_each
known_through Mid f each [] w x i goes = let same : w ≡ x = cc in subst Mid same i
known_through Mid f each (r ∷ rs) w x i goes = by (f r w) refl goes (λ m y. known_through Mid f each rs m y)
  where
    by : (o : Outcome Work) → f r w ≡ o → and_then o (for_each f rs) ≡ Goes x → ((m y : Work) → Mid m → for_each f rs m ≡ Goes y → Mid y) → Mid x
    by (Goes m) is rest next = next m x (each r w m i is) rest
    by (Differs k expected found) is rest next = absurd (cc)

-- Mid is what is known of a work inside a step, whatever page it is of.
module _ (c : Cluster) (e : Event) (n p : ℕ) (acts : Acts c n) (low : p < c.config.pages) (before : Option View) (v : View) (k : ℕ) (dead : TxId → Bool) (gone : ℕ → Bool) (Mid : Work → Type 0) where
  abbrev q : ℕ
  q = partition c.config p

  abbrev lost : List ℕ
  lost = lost_nodes before v

  abbrev one : ℕ → Work → Outcome Work
  one = redo_lost (records_in c.config c.disk lost) (all_records c.config c.disk) q

  -- before a partition that is served is worked off
  pub record MayServe (w : Work) (a : Page) : Type 0 where
    pub mid : Mid w
    pub may : MayRedo c n q w a w a
    pub clear : IsClear c e n p v lost k dead gone w a

  abbrev pub IsSettled : Work → Page → Type 0
  IsSettled w a = Mid w × IsEntered a

  -- the purge after redo
  pub purge_leads : (w x : Work) (a b : Page) → Acts c n → IsClear c e n p v lost k dead gone w a → IsRedone c n q lost w a x b → IsWorkOf c e n p x b
      → Leads c e n p (λ y d. IsEntered d) b (purge_work q v x)
  purge_leads w x a b acts clear is related =
      let now : IsClear c e n p v lost k dead gone x b = clear_stays_law c e n p v lost k dead gone w x a b acts is.may.since clear in
      purging_leads_law c e n p k is.may.table v x b dead gone acts is.may.there is.may.serving now.are
      (record { logs = λ m there. is.none m (now.lost_too m there); shelves = now.shelves; readers = now.readers }) now.fits now.spared related is.may.entered

  -- where the pages' settling keeps the relation, so does all of it
  module _ (redo_mid : (r : ℕ) (w x : Work) → Mid w → one r w ≡ Goes x → Mid x) (purge_mid : (w : Work) → Mid w → Mid (purge_work q v w))
      (settle : Keeps c e n p IsSettled (settle_all q) IsSettled) where
    pub serve_keeps : Keeps c e n p MayServe (keep_served true c.disk before v q) IsSettled
    serve_keeps blank w x a reached related i goes =
        by (for_each one (pages_of c.config q) w) refl (subst (λ (z : Sizes). whole z ≡ Goes x) i.may.config goes)
      where
        whole : Sizes → Outcome Work
        whole z = and_then (for_each (redo_lost (records_in z c.disk lost) (all_records z c.disk) q) (pages_of z q) w) (λ m. settle_all q (purge_work q v m))

        by : (o : Outcome Work) → for_each one (pages_of c.config q) w ≡ o → and_then o (λ m. settle_all q (purge_work q v m)) ≡ Goes x → Leads c e n p IsSettled a x
        by (Goes m) done rest =
            let led = redo_keeps_law c e n p lost w a acts low blank w m a reached related i.may done in
            let cleared = purge_leads w m a led.page acts i.clear led.known led.related in
            let there : Reached blank led.page = reached_on blank a led.page reached led.run in
            let then_there : Reached blank cleared.page = reached_on blank led.page cleared.page there cleared.run in
            let mid : Mid m = known_through Mid one redo_mid (pages_of c.config q) w m i.mid done in
            leads_on c e n p IsSettled a led.page x led.run
            (leads_on c e n p IsSettled led.page cleared.page x cleared.run
            (settle blank (purge_work q v m) x cleared.page then_there cleared.related (purge_mid m mid, cleared.known) rest))
        by (Differs k expected found) done rest = absurd (cc)

  -- ---- a table that is still being rebuilt

  -- before it is worked off
  pub record MayRebuild (w : Work) (a : Page) : Type 0 where
    pub mid : Mid w
    pub entered : IsEntered a
    pub table : LockTable
    pub there : table_at w.node q ≡ Some table
    pub rebuilt : table.serving ≡ false
    pub are : AreDead a (era_in w.node.view q) dead gone
    pub fits : FitsRebuilt v.live a (era_in w.node.view q) table (dead_below k dead)
    pub alone : (m : ℕ) → (m == n) ≡ false → HasNoTable q (era_in w.node.view q) (node_at c m)
    pub spared : AreSpared c e n p w a (era_in w.node.view q) (dead_below k dead) nobody

  pub rebuild_keeps : ((w : Work) → Mid w → Mid (purge_work q v w)) → Keeps c e n p IsSettled (complete c.disk q) IsSettled
      → Keeps c e n p MayRebuild (keep_served false c.disk before v q) IsSettled
  rebuild_keeps purge_mid completes blank w x a reached related i goes =
      let cleared = purging_early_leads_law c e n p k i.table v w a dead gone acts i.there i.rebuilt i.are i.fits i.alone i.spared related i.entered in
      leads_on c e n p IsSettled a cleared.page x cleared.run
      (completes blank (purge_work q v w) x cleared.page (reached_on blank a cleared.page reached cleared.run) cleared.related (purge_mid w i.mid, cleared.known) goes)

  -- ---- a table, or none

  -- before a partition that is kept is worked off
  pub record MayKeep (w : Work) (a : Page) : Type 0 where
    pub mid : Mid w
    pub entered : IsEntered a
    pub serves : (t : LockTable) → table_at w.node q ≡ Some t → t.serving ≡ true → MayServe w a
    pub rebuilds : (t : LockTable) → table_at w.node q ≡ Some t → t.serving ≡ false → MayRebuild w a

  pub kept_keeps : ((r : ℕ) (w x : Work) → Mid w → one r w ≡ Goes x → Mid x) → ((w : Work) → Mid w → Mid (purge_work q v w)) → Keeps c e n p IsSettled (settle_all q) IsSettled
      → Keeps c e n p IsSettled (complete c.disk q) IsSettled → Keeps c e n p MayKeep (λ w. keep_in (table_at w.node q) c.disk before v q w) IsSettled
  kept_keeps redo_mid purge_mid settle completes blank w x a reached related i goes = of (table_at w.node q) refl goes
    where
      by : (t : LockTable) → table_at w.node q ≡ Some t → (b : Bool) → t.serving ≡ b → keep_served b c.disk before v q w ≡ Goes x → Leads c e n p IsSettled a x
      by t there true on done = serve_keeps redo_mid purge_mid settle blank w x a reached related (i.serves t there on) done
      by t there false on done = rebuild_keeps purge_mid completes blank w x a reached related (i.rebuilds t there on) done

      of : (o : Option LockTable) → table_at w.node q ≡ o → keep_in o c.disk before v q w ≡ Goes x → Leads c e n p IsSettled a x
      of None there done =
          let same : w ≡ x = cc in
          subst (Leads c e n p IsSettled a) same (record { page = a; run = here; related = related; known = (i.mid, i.entered) })
      of (Some t) there done = by t there t.serving refl done
