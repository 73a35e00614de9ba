-- A partition that the acting node keeps is worked off.
use Rattle.std.proofs.Common.{◌≡◌, inl, inr, refl, ap, sym, subst, ◌∙◌, ℕ, zero, suc, ◌+◌, ◌<◌, ◌≤◌, ◌==◌, ◌||◌, not, cond, Bool, true, false, List, ◌∷◌, length, Option, Some, None, arith}
use Rattle.std.specs.List.{filter, list_any}
use Rattle.std.proofs.lemmas.Bool.Decides.{nat_tests}
use Rattle.pcl_base.specs.declared.event.Event.{Event}
use Rattle.run_rules.specs.Redo.{all_records, records_in}
use Rattle.run_rules.specs.Views.{View, count_from, is_live, since_of}
use Rattle.rule_laws.specs.LaterViews.{IsWhole}
use Rattle.node_rules.specs.InstallRule.{complete, keep_in, keep_served, lost_nodes, purge_table, purge_work, purged as purged_node, redo_lost, settle_all}
use Rattle.node_rules.specs.LockTable.{LockTable}
use Rattle.node_rules.specs.NodeState.{partition, table_at}
use Rattle.node_rules.specs.Work.{Goes, Work, with_node, work_of_home}
use Rattle.cluster_rules.specs.Clusters.{Cluster, view_of_epoch}
use Rattle.cluster_laws.specs.Sound.{IsCluster}
use Rattle.cluster_laws.proofs.EraParts.Ages.{seen}
use Rattle.cluster_laws.proofs.EraParts.Lives.{live_known}
use Rattle.kept_relation.specs.Clearing.{IsClear}
use Rattle.kept_relation.specs.Known.{dead_of, gone_in}
use Rattle.kept_relation.proofs.Purged.{purging_early_leads_law, put_there}
use Rattle.kept_relation.proofs.Serving.{serve_keeps}
use Rattle.page_protocol.specs.State.{Page}
use Rattle.page_protocol.specs.Steps.{Reached, here}
use Rattle.report_relation.specs.Completing.{IsReady}
use Rattle.report_relation.specs.Serving.{HasWhole}
use Rattle.page_laws.specs.Storage.Looks.{is_among}
use Rattle.page_relation.specs.Work.Events.{IsEntered}
use Rattle.page_relation.specs.Work.Keeping.{IsWorkOf, Keeps, Leads}
use Rattle.page_relation.specs.Work.Landing.{Acts, disk_of}
use Rattle.page_relation.specs.Work.Letting.{CalledBy}
use Rattle.page_relation.proofs.WorkParts.Kept.{leads_on, reached_on}
use Rattle.report_relation.specs.Bury.Kept.{IsClearEarly, IsKept}
use Rattle.report_relation.specs.Bury.Whole.{IsKnown}
use Rattle.report_relation.proofs.BuryParts.KeptEarly.{kept_is_clear_early_law}
use Rattle.report_relation.proofs.BuryParts.KeptServed.{kept_is_clear_law}
use Rattle.report_relation.proofs.BuryParts.Living.{both_parts}
use Rattle.report_relation.proofs.BuryParts.KnownWhole.{known_is_whole_law}

-- ---- numbers that pass a test are found

or_true : (a b : Bool) → b ≡ true → (a || b) ≡ true
or_true true b e = refl
or_true false b e = e

found : (f : ℕ → Bool) (m : ℕ) (a n : ℕ) → f m ≡ true → a ≤ m → m < a + n → list_any (λ k. k == m) (filter f (count_from a n)) ≡ true
unfolding count_from
found f m a zero is low high = absurd (omega (arith, low, high))
found f m a (suc n) is low high = by (a == m) refl (λ other. found f m (a + 1) n is other (omega (arith, high)))
  where
    here_it_is : (b : Bool) → b ≡ true → (xs : List ℕ) → (a == m) ≡ true → list_any (λ k. k == m) (cond b (a ∷ xs) xs) ≡ true
    here_it_is true e xs same = ap (λ (x : Bool). x || list_any (λ k. k == m) xs) same
    here_it_is false e xs same = absurd (cc)

    later : (b : Bool) (xs : List ℕ) → list_any (λ k. k == m) xs ≡ true → list_any (λ k. k == m) (cond b (a ∷ xs) xs) ≡ true
    later true xs rest = or_true (a == m) (list_any (λ k. k == m) xs) rest
    later false xs rest = rest

    by : (b : Bool) → (a == m) ≡ b → (a + 1 ≤ m → list_any (λ k. k == m) (filter f (count_from (a + 1) n)) ≡ true) → list_any (λ k. k == m) (cond (f a) (a ∷ filter f (count_from (a + 1) n)) (filter f (count_from (a + 1) n))) ≡ true
    by true same rest =
        let at : m ≡ a = grind (arith, nat_tests, same) in
        here_it_is (f a) (ap f (sym at) ∙ is) (filter f (count_from (a + 1) n)) same
    by false other rest = later (f a) (filter f (count_from (a + 1) n)) (rest (grind (arith, nat_tests, other, low)))

-- a view that was made is whole
pub whole_view : (c : Cluster) (v : View) → IsCluster c → view_of_epoch c.views v.epoch ≡ Some v → IsWhole c.config v
whole_view c v cluster there =
    elim (seen c v.epoch cluster) [
      | inl has ↦
          (let both : Some has.view ≡ Some v = sym has.there ∙ there in
          let same : has.view ≡ v = cc in
          subst (IsWhole c.config) same has.whole)
      | inr none ↦ (let bad : Some v ≡ None = sym there ∙ none in absurd (cc))
    ]

-- the nodes that a view drops are lost
among_lost : (old v : View) (m : ℕ) → m < length v.live → gone_in (is_live old.live) v m ≡ true → is_among (lost_nodes (Some old) v) m ≡ true
among_lost old v m low is = found (gone_in (is_live old.live) v) m 0 (length v.live) is (omega arith) (omega (arith, low))

-- Mid is what is known of a work inside a step, whatever page it is of.
module _ (c : Cluster) (e : Event) (n p : ℕ) (acts : Acts c n) (low : p < c.config.pages) (known : partition c.config p < c.config.nodes) (old v : View) (Mid : Work → Type 0) where
  abbrev q : ℕ
  q = partition c.config p

  abbrev pub IsDone : Work → Page → Type 0
  IsDone w a = Mid w × IsEntered a

  -- before a partition that is kept is worked off: what is known of its table, and where it is being rebuilt, of the purged one
  pub record MayKeepOn (w : Work) (a : Page) : Type 0 where
    pub mid : Mid w
    pub entered : IsEntered a
    pub kept : (t : LockTable) → table_at w.node q ≡ Some t → IsKept c e n p old v w t
    pub purged_known : (t : LockTable) → table_at w.node q ≡ Some t → t.serving ≡ false → IsKnown c e n p v (purge_work q v w) (purge_table v.live t)
    pub called : CalledBy n c.disk (work_of_home w)
    pub logs : (disk_of c n w).logs ≡ c.disk.logs
    pub config : w.node.home.config ≡ c.config

  -- completing keeps the relation where a table without a missing report comes to have all of its era
  abbrev pub CompletesOn : Type 0
  CompletesOn =
      (blank : List ℕ) (w x : Work) (a : Page) → Reached blank a → IsWorkOf c e n p w a → Mid w → IsEntered a
      → ((u : View) (t : LockTable) → IsReady c n q w u t → Leads c e n p (λ y b. IsEntered b × HasWhole c e n p q (since_of u q) y t b) a w) → complete c.disk q w ≡ Goes x
      → Leads c e n p IsDone a x

  module _ (redo_mid : (r : ℕ) (w x : Work) → Mid w → redo_lost (records_in c.config c.disk (lost_nodes (Some old) v)) (all_records c.config c.disk) q r w ≡ Goes x → Mid x)
      (purge_mid : (w : Work) → Mid w → Mid (purge_work q v w)) (settle : Keeps c e n p IsDone (settle_all q) IsDone) (completes : CompletesOn) where
    -- one that is served
    serves : (blank : List ℕ) (w x : Work) (a : Page) (t : LockTable) → Reached blank a → IsWorkOf c e n p w a → MayKeepOn w a → table_at w.node q ≡ Some t → t.serving ≡ true
        → keep_served true c.disk (Some old) v q w ≡ Goes x → Leads c e n p IsDone a x
    serves blank w x a t reached related i there on goes =
        leads_on c e n p IsDone a cleared.page x cleared.run
        (serve_keeps c e n p acts low (Some old) v (length v.live) (dead_of (is_live old.live) v) (gone_in (is_live old.live) v) Mid redo_mid purge_mid settle blank w x cleared.page
        (reached_on blank a cleared.page reached cleared.run) cleared.related
        (record {
          mid = i.mid;
          may =
              record {
                since =
                    record {
                      claims = record { listed = refl; home = refl; right = refl; era = refl };
                      standing = record { config = refl; number = refl; epoch = refl; view = refl };
                      replies = refl;
                      sends = refl;
                    };
                entered = cleared.known.0;
                called = i.called;
                logs = i.logs;
                config = i.config;
                table = t;
                there = there;
                serving = on;
              };
          clear = cleared.known.1;
        }) goes)
      where
        kept : IsKept c e n p old v w t
        kept = i.kept t there

        whole_old : IsWhole c.config old
        whole_old = whole_view c old acts.cluster kept.earlier

        whole_now : IsWhole c.config v
        whole_now = whole_view c v acts.cluster kept.owner.there

        below : (m : ℕ) → is_live old.live m ≡ true → m < length v.live
        below m was = subst (λ (k : ℕ). m < k) (sym whole_now.live) (live_known c.config old m whole_old was)

        cleared : Leads c e n p (λ y b. IsEntered b × IsClear c e n p v (lost_nodes (Some old) v) (length v.live) (dead_of (is_live old.live) v) (gone_in (is_live old.live) v) y b) a w
        cleared =
            kept_is_clear_law c e n p (length v.live) old v (lost_nodes (Some old) v) t blank w a acts known kept on
            (λ m there. among_lost old v m (below m (both_parts (is_live old.live m) (not (is_live v.live m)) there).0) there) below reached related i.entered

    -- one that is being rebuilt
    rebuilds : (blank : List ℕ) (w x : Work) (a : Page) (t : LockTable) → Reached blank a → IsWorkOf c e n p w a → MayKeepOn w a → table_at w.node q ≡ Some t → t.serving ≡ false
        → keep_served false c.disk (Some old) v q w ≡ Goes x → Leads c e n p IsDone a x
    rebuilds blank w x a t reached related i there off goes =
        leads_on c e n p IsDone a cleared.page x cleared.run
        (leads_on c e n p IsDone cleared.page purged.page x purged.run
        (completes blank (purge_work q v w) x purged.page purged_reached purged.related (purge_mid w i.mid) purged.known whole goes))
      where
        kept : IsKept c e n p old v w t
        kept = i.kept t there

        whole_old : IsWhole c.config old
        whole_old = whole_view c old acts.cluster kept.earlier

        whole_now : IsWhole c.config v
        whole_now = whole_view c v acts.cluster kept.owner.there

        below : (m : ℕ) → is_live old.live m ≡ true → m < length v.live
        below m was = subst (λ (k : ℕ). m < k) (sym whole_now.live) (live_known c.config old m whole_old was)

        cleared : Leads c e n p (λ y b. IsEntered b × IsClearEarly c e n p (length v.live) old v t y b) a w
        cleared = kept_is_clear_early_law c e n p (length v.live) old v t blank w a acts known kept off below reached related i.entered

        cleared_reached : Reached blank cleared.page
        cleared_reached = reached_on blank a cleared.page reached cleared.run

        purged : Leads c e n p (λ y b. IsEntered b) cleared.page (purge_work q v w)
        purged =
            let early = cleared.known.1 in
            purging_early_leads_law c e n p (length v.live) t v w cleared.page (dead_of (is_live old.live) v) (gone_in (is_live old.live) v) acts there off early.are early.fits early.alone early.spared
            cleared.related cleared.known.0

        purged_reached : Reached blank purged.page
        purged_reached = reached_on blank cleared.page purged.page cleared_reached purged.run

        there_then : table_at (purge_work q v w).node q ≡ Some (purge_table v.live t)
        there_then =
            subst (λ (o : Option LockTable). table_at (with_node w (purged_node q v.live o w.node)).node q ≡ Some (purge_table v.live t)) (sym there)
            (put_there w.node.tables q t (Some (purge_table v.live t)) there)

        whole : (u : View) (k : LockTable) → IsReady c n q (purge_work q v w) u k → Leads c e n p (λ y b. IsEntered b × HasWhole c e n p q (since_of u q) y k b) purged.page (purge_work q v w)
        whole u k ready = known_is_whole_law c e n p u k blank (purge_work q v w) purged.page acts known ready now purged_reached purged.related purged.known
          where
            views : Some v ≡ Some u
            views = sym (i.purged_known t there off).owner.view ∙ ready.in_view

            tables : Some (purge_table v.live t) ≡ Some k
            tables = sym there_then ∙ ready.there

            now : IsKnown c e n p u (purge_work q v w) k
            now =
                let view : v ≡ u = cc views in
                let table : purge_table v.live t ≡ k = cc tables in
                subst (λ (y : View). IsKnown c e n p y (purge_work q v w) k) view
                (subst (λ (y : LockTable). IsKnown c e n p v (purge_work q v w) y) table (i.purged_known t there off))

    -- a table, or none
    pub keep_on : Keeps c e n p MayKeepOn (λ w. keep_in (table_at w.node q) c.disk (Some old) v q w) IsDone
    keep_on blank w x a reached related i goes = of (table_at w.node q) refl goes
      where
        by : (t : LockTable) → table_at w.node q ≡ Some t → (b : Bool) → t.serving ≡ b → keep_served b c.disk (Some old) v q w ≡ Goes x → Leads c e n p IsDone a x
        by t there true on done = serves blank w x a t reached related i there on done
        by t there false off done = rebuilds blank w x a t reached related i there off done

        of : (o : Option LockTable) → table_at w.node q ≡ o → keep_in o c.disk (Some old) v q w ≡ Goes x → Leads c e n p IsDone a x
        of None there done =
            let same : w ≡ x = cc in
            subst (Leads c e n p IsDone a) same (record { page = a; run = here; related = related; known = (i.mid, i.entered) })
        of (Some t) there done = by t there t.serving refl done
