-- No page differs that is read for a partition that the node keeps.
use Rattle.std.proofs.Common.{◌≡◌, refl, sym, subst, ◌∙◌, ℕ, ◌<◌, Bool, true, false, List, Some}
use Rattle.std.specs.List.{AllByRecursion}
use Rattle.pcl_base.specs.Limits.{Sizes}
use Rattle.pcl_base.specs.declared.event.Event.{Event}
use Rattle.text_rules.specs.MessageBytes.{IsPageOf}
use Rattle.run_rules.specs.Redo.{all_records, records_in}
use Rattle.run_rules.specs.Views.{View}
use Rattle.rule_laws.specs.LaterViews.{IsWhole}
use Rattle.node_rules.specs.InstallRule.{keep_in, keep_served, lost_nodes, purge_table, purge_work, redo_lost, settle_all}
use Rattle.node_rules.specs.LockTable.{LockTable, pages_of}
use Rattle.node_rules.specs.NodeState.{partition}
use Rattle.node_rules.specs.OwnerRule.{settle_page}
use Rattle.node_rules.specs.Work.{Differs, Goes, Outcome, Work, and_then, for_each}
use Rattle.node_laws.proofs.Tables.{pages_are}
use Rattle.node_laws.proofs.Works.{Base}
use Rattle.cluster_rules.specs.Clusters.{Cluster}
use Rattle.kept_relation.specs.Redoing.{MayRedo}
use Rattle.kept_relation.proofs.AllRedo.{redo_agrees_law}
use Rattle.cluster_laws.specs.Link.EpochLaws.{IsInOrder}
use Rattle.page_protocol.specs.State.{Page}
use Rattle.page_protocol.specs.Steps.{Reached}
use Rattle.report_relation.specs.Completing.{NewHaveNoRight}
use Rattle.settle_relation.specs.Midway.{IsMidway}
use Rattle.settle_relation.proofs.Agreeing.{settle_agrees}
use Rattle.settle_relation.proofs.Turns.{IsBetween, settle_keeps}
use Rattle.page_relation.specs.Work.Keeping.{IsWorkOf}
use Rattle.page_relation.specs.Work.Landing.{Acts}
use Rattle.page_relation.proofs.WorkParts.Kept.{reached_on}
use Rattle.report_relation.specs.Bury.Whole.{IsKnown}
use Rattle.report_relation.specs.Completion.Agreeing.{CanComplete}
use Rattle.report_relation.specs.Completion.Completed.{Owns}
use Rattle.report_relation.proofs.CompletionParts.Agreed.{complete_agrees_law}
use Rattle.install_relation.proofs.Beside.{purge_midway}
use Rattle.whole_runs.proofs.InstallParts.Agreeing.{HasState, all_agree, differs_in, led_to}
use Rattle.whole_runs.proofs.InstallParts.Keeping.{MayGoOn, cleared, cleared_reached, may_redo, purges, purges_early}
use Rattle.whole_runs.proofs.InstallParts.Lost.{all_lost_midway}
use Rattle.whole_runs.proofs.InstallParts.RedoOne.{one_leads}

-- a page of a partition, with a state from which that may be worked off
pub record CanGoOn (blank : List ℕ) (b : Base) (c : Cluster) (e : Event) (n p : ℕ) (old v : View) (w : Work) (t : LockTable) : Type 0 where
  pub page : Page
  pub reached : Reached blank page
  pub related : IsWorkOf c e n p w page
  pub may : MayGoOn b c e n p old v w page t
  pub quiet : NewHaveNoRight c p
  pub known : t.serving ≡ false → IsKnown c e n p v (purge_work (partition c.config p) v w) (purge_table v.live t)

-- a page that may be redone, since a work of which it had a state
record Redoing (blank : List ℕ) (c : Cluster) (e : Event) (n p q : ℕ) (first m : Work) : Type 0 where
  start : Page
  state : HasState blank c e n p (λ x a. MayRedo c n q first start x a) m

module _ (blank : List ℕ) (b : Base) (c : Cluster) (e : Event) (n q : ℕ) (acts : Acts c n) (order : IsInOrder c) (inside : q < c.config.nodes) (owns : Owns b q) (old v : View) (was : IsWhole c.config old) (now : IsWhole c.config v) (w : Work) (mid : IsMidway b c e n w) (t : LockTable) where
  pages : AllByRecursion (IsPageOf c.config q) (pages_of c.config q)
  pages = pages_are c.config q inside

  abbrev lost : List ℕ
  lost = lost_nodes (Some old) v

  abbrev one : ℕ → ℕ → Work → Outcome Work
  one j = redo_lost (records_in c.config c.disk lost) (all_records c.config c.disk) j

  module _ (all : (p : ℕ) → IsPageOf c.config q p → CanGoOn blank b c e n p old v w t) where
    -- ---- one that is served

    abbrev Redoes : Work → Type 0
    Redoes m = (p : ℕ) → IsPageOf c.config q p → Redoing blank c e n p q w m

    first_redoes : t.serving ≡ true → Redoes w
    first_redoes on p of =
        subst (λ (j : ℕ). Redoing blank c e n p j w w) of.1
        (record {
          start = (cleared b c e n p acts order of.0 here has.quiet own old v was now blank w has.page t has.reached has.related has.may on).page;
          state =
              let led = cleared b c e n p acts order of.0 here has.quiet own old v was now blank w has.page t has.reached has.related has.may on in
              record {
                page = led.page;
                reached = cleared_reached b c e n p acts order of.0 here has.quiet own old v was now blank w has.page t has.reached has.related has.may on;
                related = led.related;
                known = may_redo b c e n p acts order of.0 here has.quiet own old v was now blank w has.page t has.reached has.related has.may on;
              };
        })
      where
        has : CanGoOn blank b c e n p old v w t
        has = all p of

        here : partition c.config p < c.config.nodes
        here = subst (λ (j : ℕ). j < c.config.nodes) (sym of.1) inside

        own : Owns b (partition c.config p)
        own = subst (Owns b) (sym of.1) owns

    redo_agrees : (r : ℕ) (m : Work) → IsPageOf c.config q r → Redoes m → (k expected found : ℕ) → one q r m ≡ Differs k expected found → ⊥
    redo_agrees r m of redoes k expected found is =
        let had = (redoes r of).state in
        redo_agrees_law c e n r (records_in c.config c.disk lost) (all_records c.config c.disk) blank m had.page acts had.reached had.related had.known.called k expected found
        (subst (λ (j : ℕ). one j r m ≡ Differs k expected found) (sym of.1) is)

    redo_keeps : (r : ℕ) (m x : Work) → IsPageOf c.config q r → Redoes m → one q r m ≡ Goes x → Redoes x
    redo_keeps r m x of redoes goes p in_it = by q in_it.1 (redoes p in_it) goes
      where
        by : (j : ℕ) → partition c.config p ≡ j → Redoing blank c e n p j w m → one j r m ≡ Goes x → Redoing blank c e n p j w x
        by j same =
            subst (λ (j : ℕ). Redoing blank c e n p j w m → one j r m ≡ Goes x → Redoing blank c e n p j w x) same
            (λ had went.
            record {
              start = had.start;
              state =
                  led_to blank c e n p (λ y a. MayRedo c n (partition c.config p) w had.start y a) had.state.page x had.state.reached
                  (one_leads c e n p lost w had.start acts in_it.0 r blank m x had.state.page had.state.reached had.state.related had.state.known went);
            })

    -- ---- settling

    abbrev Settles : Work → Type 0
    Settles m = (p : ℕ) → IsPageOf c.config q p → HasState blank c e n p (IsBetween b c e n) m

    settling_agrees : (r : ℕ) (m : Work) → IsPageOf c.config q r → Settles m → (k expected found : ℕ) → settle_page r m ≡ Differs k expected found → ⊥
    settling_agrees r m of settles k expected found is =
        let had = settles r of in settle_agrees b c e n r acts order of.0 blank m had.page had.reached had.related had.known k expected found is

    settling_keeps : (r : ℕ) (m x : Work) → IsPageOf c.config q r → Settles m → settle_page r m ≡ Goes x → Settles x
    settling_keeps r m x of settles goes p in_it =
        let had = settles p in_it in
        led_to blank c e n p (IsBetween b c e n) had.page x had.reached (settle_keeps b c e n p acts order in_it.0 r of.0 blank m x had.page had.reached had.related had.known goes)

    then_settles : t.serving ≡ true → (m : Work) → for_each (one q) (pages_of c.config q) w ≡ Goes m → Settles (purge_work q v m)
    then_settles on m goes p of = by q of.1 inside owns goes
      where
        has : CanGoOn blank b c e n p old v w t
        has = all p of

        by : (j : ℕ) → partition c.config p ≡ j → j < c.config.nodes → Owns b j → for_each (one j) (pages_of c.config j) w ≡ Goes m → HasState blank c e n p (IsBetween b c e n) (purge_work j v m)
        by j same =
            subst (λ (j : ℕ). j < c.config.nodes → Owns b j → for_each (one j) (pages_of c.config j) w ≡ Goes m → HasState blank c e n p (IsBetween b c e n) (purge_work j v m)) same
            (λ here own went.
            led_to blank c e n p (IsBetween b c e n) has.page (purge_work (partition c.config p) v m) has.reached
            (purges b c e n p acts order of.0 here has.quiet own old v was now blank w has.page t has.reached has.related has.may on m went))

    served_agrees : t.serving ≡ true → (k expected found : ℕ) → keep_served true c.disk (Some old) v q w ≡ Differs k expected found → ⊥
    served_agrees on k expected found is =
        differs_in (for_each (one q) (pages_of c.config q) w) (λ m. settle_all q (purge_work q v m)) k expected found (subst (λ (z : Sizes). worked z ≡ Differs k expected found) config is)
        (all_agree Redoes (IsPageOf c.config q) (one q) redo_agrees redo_keeps (pages_of c.config q) pages w (first_redoes on)) settled
      where
        config : w.node.home.config ≡ c.config
        config = mid.good.home.config ∙ mid.config

        worked : Sizes → Outcome Work
        worked z = and_then (for_each (redo_lost (records_in z c.disk lost) (all_records z c.disk) q) (pages_of z q) w) (λ m. settle_all q (purge_work q v m))

        settled : (m : Work) → for_each (one q) (pages_of c.config q) w ≡ Goes m → settle_all q (purge_work q v m) ≡ Differs k expected found → ⊥
        settled m goes more =
            all_agree Settles (IsPageOf c.config q) settle_page settling_agrees settling_keeps (pages_of c.config q) pages (purge_work q v m) (then_settles on m goes) k expected found
            (subst (λ (z : Sizes). for_each settle_page (pages_of z q) (purge_work q v m) ≡ Differs k expected found) (purged.good.home.config ∙ purged.config) more)
          where
            redone : IsMidway b c e n m
            redone = all_lost_midway b c e n q inside (records_in c.config c.disk lost) (pages_of c.config q) pages w m mid goes

            purged : IsMidway b c e n (purge_work q v m)
            purged = purge_midway b c e n q v m (subst (λ (z : Sizes). q < z.nodes) (sym redone.config) inside) redone

    -- ---- one that is being rebuilt

    can_complete : t.serving ≡ false → (p : ℕ) → p < c.config.pages → partition c.config p ≡ q → CanComplete blank c e n p q (purge_work q v w)
    can_complete off p low same = by q same inside owns
      where
        has : CanGoOn blank b c e n p old v w t
        has = all p (low, same)

        by : (j : ℕ) → partition c.config p ≡ j → j < c.config.nodes → Owns b j → CanComplete blank c e n p j (purge_work j v w)
        by j same =
            subst (λ (j : ℕ). j < c.config.nodes → Owns b j → CanComplete blank c e n p j (purge_work j v w)) same
            (λ here own.
            let led = purges_early b c e n p acts order low here has.quiet own old v was now blank w has.page t has.reached has.related has.may off (has.known off) in
            record { page = led.page; reached = reached_on blank has.page led.page has.reached led.run; related = led.related; entered = led.known.0; may = led.known.1; quiet = has.quiet })

    rebuilt_agrees : t.serving ≡ false → (k expected found : ℕ) → keep_served false c.disk (Some old) v q w ≡ Differs k expected found → ⊥
    rebuilt_agrees off k expected found is =
        complete_agrees_law blank b c e n q k expected found (purge_work q v w) acts order inside owns
        (purge_midway b c e n q v w (subst (λ (z : Sizes). q < z.nodes) (sym mid.config) inside) mid) (can_complete off) is

    pub kept_agrees : (k expected found : ℕ) → keep_in (Some t) c.disk (Some old) v q w ≡ Differs k expected found → ⊥
    kept_agrees k expected found is = by t.serving refl is
      where
        by : (d : Bool) → t.serving ≡ d → keep_served d c.disk (Some old) v q w ≡ Differs k expected found → ⊥
        by true on done = served_agrees on k expected found done
        by false off done = rebuilt_agrees off k expected found done
