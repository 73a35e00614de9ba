-- No page differs that is read in the turn of a partition in an install.
use Rattle.std.proofs.Common.{◌≡◌, refl, ap, sym, subst, ◌∙◌, ℕ, ◌+◌, ◌<◌, ◌==◌, Bool, true, false, List, Option, Some, None, eqb-true}
use Rattle.pcl_base.specs.Limits.{Sizes}
use Rattle.pcl_base.specs.declared.event.Event.{Event}
use Rattle.text_rules.specs.MessageBytes.{IsPageOf}
use Rattle.run_rules.specs.Views.{View, owner_of, since_of}
use Rattle.node_rules.specs.InstallRule.{get_partition, install_by, install_partition, keep_in, owned_before}
use Rattle.node_rules.specs.LockTable.{LockTable}
use Rattle.node_rules.specs.NodeState.{NodeState, number_of, partition, table_at}
use Rattle.node_rules.specs.Work.{Differs, Work}
use Rattle.rule_laws.specs.LaterViews.{IsWhole}
use Rattle.cluster_rules.specs.Clusters.{Cluster, view_of_epoch}
use Rattle.cluster_laws.proofs.EraParts.Epochs.{whole_at}
use Rattle.cluster_laws.proofs.EraParts.Lives.{stands}
use Rattle.page_protocol.specs.State.{Page}
use Rattle.page_protocol.specs.Steps.{Reached}
use Rattle.related_runs.specs.RunLaws.{IsOfRun}
use Rattle.settle_relation.specs.Midway.{IsMidway}
use Rattle.kept_relation.proofs.TurnParts.Going.{view_is_kept_law}
use Rattle.page_relation.specs.Work.Events.{IsEntered}
use Rattle.page_relation.specs.Work.Keeping.{Leads}
use Rattle.page_relation.proofs.WorkParts.Kept.{reached_on}
use Rattle.report_relation.specs.Completion.Agreeing.{CanComplete}
use Rattle.report_relation.proofs.CompletionParts.Agreed.{complete_agrees_law}
use Rattle.install_relation.specs.Installing.{IsInstall, IsInstalling, IsWaiting, numbers_at}
use Rattle.install_relation.specs.Taking.{taken}
use Rattle.install_relation.specs.Whole.{IsInstallOf}
use Rattle.install_relation.proofs.Begun as begun
use Rattle.install_relation.proofs.Getting.{getting_first_is_kept_law, getting_is_kept_law}
use Rattle.install_relation.proofs.Moving.{kept_midway, taken_midway}
use Rattle.install_relation.proofs.OwnTurn as own
use Rattle.cluster_facts.specs.Facts.{HaveFacts}
use Rattle.whole_runs.specs.Install.Turns.{IsGotBy, IsKeptBy, IsTurn}
use Rattle.whole_runs.proofs.InstallParts.Going.{owns_then, quiet}
use Rattle.whole_runs.proofs.InstallParts.Installed.{is_install}
use Rattle.whole_runs.proofs.InstallParts.Kept.{is_kept, is_purged}
use Rattle.whole_runs.proofs.InstallParts.KeptAgreed.{CanGoOn, kept_agrees}
use Rattle.whole_runs.proofs.InstallParts.Logs.{kept_logs, same_logs}
use Rattle.whole_runs.proofs.InstallParts.Standing.{since_stays}
use Rattle.whole_runs.proofs.InstallParts.Taken.{taken_may_complete_law}

-- ---- one page

module _ (blank : List ℕ) (c : Cluster) (e : Event) (n p : ℕ) (s : NodeState) (v : View) (w : Work) (i : IsTurn blank c e n p s v w) where
  abbrev q : ℕ
  q = partition c.config p

  abbrev page : Page
  page = i.run.related.pages.page p

  of : IsInstallOf c e n p s v blank page
  of = is_install blank c e n p s v page i.run i.facts i.install i.low (i.run.related.pages.reached p i.low) (i.run.between.entered p i.low) (i.run.related.pages.related p i.low)

  -- where the node gets its partition
  gets_led : IsGotBy c n p v → Leads c e n p (λ x b. IsEntered page → IsEntered b) page (taken q w)
  gets_led got = by s.view refl
    where
      era : since_of v q ≡ v.epoch
      era = eqb-true (since_of v q) v.epoch got.1

      by : (o : Option View) → s.view ≡ o → Leads c e n p (λ x b. IsEntered page → IsEntered b) page (taken q w)
      by (Some old) at =
          getting_is_kept_law c e n p s old v w page blank (own.act c e n p s v blank page of w i.waits) (own.may_turn c e n p s v blank page of w i.waits era) (own.goes_on c e n p s v blank page of w i.waits old at)
          (own.gets c e n p s v blank page of w i.waits got.1 got.0) (own.before_related c e n p s v blank page of w i.waits)
      by None none =
          getting_first_is_kept_law c e n p s v w page blank (own.act c e n p s v blank page of w i.waits) (own.may_turn c e n p s v blank page of w i.waits era) (own.begins c e n p s v blank page of w i.waits none)
          (own.gets c e n p s v blank page of w i.waits got.1 got.0) (own.bare c e n p s v blank page of w i.waits none) (own.before_related c e n p s v blank page of w i.waits)

  can_complete : IsGotBy c n p v → CanComplete blank c e n p q (taken q w)
  can_complete got =
      let led = gets_led got in
      let there : Reached blank led.page = reached_on blank page led.page of.reached led.run in
      let entered : IsEntered led.page = led.known of.entered in
      record {
        page = led.page;
        reached = there;
        related = led.related;
        entered = entered;
        may = taken_may_complete_law blank c e n p s v w led.page i got there led.related entered;
        quiet = quiet blank c e n p s v w i;
      }

  -- where the node keeps it
  can_go_on : (old : View) → s.view ≡ Some old → IsKeptBy c n p v → (t : LockTable) → table_at w.node q ≡ Some t → IsMidway (numbers_at s v (q + 1)) c e n w
      → CanGoOn blank (numbers_at s v (q + 1)) c e n p old v w t
  can_go_on old view kept t at midway =
      record {
        page = page;
        reached = of.reached;
        related =
            view_is_kept_law c e n p s old v w page (own.act c e n p s v blank page of w i.waits) (own.has c e n p s v blank page of w i.waits) view (own.goes_on c e n p s v blank page of w i.waits old view).born
            (since_stays blank c e n p s v w i old view kept.1) (own.before_related c e n p s v blank page of w i.waits);
        may =
            record {
              mid = midway;
              entered = of.entered;
              kept = is_kept blank c e n p s old v w t i kept view at;
              logs = kept_logs blank c e n p s v w i ((begun.installs c e n s v i.install).goes_on old view) w i.waits.installing.calls;
              same = same_logs blank c e n p s v w i w i.waits.installing.calls;
            };
        quiet = quiet blank c e n p s v w i;
        known = λ rebuilt. is_purged blank c e n p s old v w t i kept view at rebuilt;
      }

-- ---- the pages of a partition

module _ (blank : List ℕ) (c : Cluster) (e : Event) (n q : ℕ) (s : NodeState) (v : View) (w : Work) (run : IsOfRun blank c) (facts : HaveFacts c) (install : IsInstall c e n s v) (inside : q < c.config.nodes) (m : IsInstalling c e n s v q w)
    (waits : (p : ℕ) → p < c.config.pages → partition c.config p ≡ q → IsWaiting c e n p s v (partition c.config p) w) where
  turn : (p : ℕ) → p < c.config.pages → partition c.config p ≡ q → IsTurn blank c e n p s v w
  turn p low same = record { run = run; facts = facts; install = install; low = low; waits = waits p low same }

  number : number_of w.node ≡ n
  number = m.midway.good.home.number ∙ m.midway.number

  -- known at the node by its number
  at_node : (x : Bool) → (owner_of v q == number_of w.node) ≡ x → (owner_of v q == n) ≡ x
  at_node x is = ap (λ (j : ℕ). owner_of v q == j) (sym number) ∙ is

  gets_agree : (owner_of v q == number_of w.node) ≡ true → (since_of v q == v.epoch) ≡ true → (k expected found : ℕ) → get_partition c.disk q w ≡ Differs k expected found → ⊥
  unfolding get_partition
  gets_agree owns new k expected found is =
      complete_agrees_law blank (numbers_at s v (q + 1)) c e n q k expected found (taken q w) (begun.acts c e n s v install) run.related.order inside (owns_then s v q)
      (taken_midway c e n s v install q inside w m.midway owns) all is
    where
      all : (p : ℕ) → p < c.config.pages → partition c.config p ≡ q → CanComplete blank c e n p q (taken q w)
      all p low same =
          subst (λ (j : ℕ). ((owner_of v j == n) ≡ true) × ((since_of v j == v.epoch) ≡ true) → CanComplete blank c e n p j (taken j w)) same
          (λ got. can_complete blank c e n p s v w (turn p low same) got) (at_node true owns, new)

  keeps_agree : (owner_of v q == number_of w.node) ≡ true → (since_of v q == v.epoch) ≡ false → (k expected found : ℕ) → keep_in (table_at w.node q) c.disk s.view v q w ≡ Differs k expected found → ⊥
  keeps_agree owns older k expected found is = by s.view refl owned (table_at w.node q) refl is
    where
      midway : IsMidway (numbers_at s v (q + 1)) c e n w
      midway = kept_midway c e n s v install q inside w m.midway older

      owned : owned_before s.view q (number_of s) ≡ true
      owned =
          (begun.installs c e n s v install).keeps q (subst (λ (z : Sizes). q < z.nodes) (sym (begun.member c e n s v install).config) inside) older
          ∙ (ap (λ (j : ℕ). owner_of v q == j) (begun.member c e n s v install).number ∙ at_node true owns)

      of_table : (old : View) → s.view ≡ Some old → (t : LockTable) → table_at w.node q ≡ Some t → keep_in (Some t) c.disk (Some old) v q w ≡ Differs k expected found → ⊥
      of_table old view t at done =
          kept_agrees blank (numbers_at s v (q + 1)) c e n q (begun.acts c e n s v install) run.related.order inside (owns_then s v q) old v was now w midway t all k expected found done
        where
          all : (p : ℕ) → IsPageOf c.config q p → CanGoOn blank (numbers_at s v (q + 1)) c e n p old v w t
          all p of =
              subst
              (λ (j : ℕ). ((owner_of v j == n) ≡ true) × ((since_of v j == v.epoch) ≡ false) → table_at w.node j ≡ Some t → IsMidway (numbers_at s v (j + 1)) c e n w
              → CanGoOn blank (numbers_at s v (j + 1)) c e n p old v w t) of.1
              (λ kept there mid. can_go_on blank c e n p s v w (turn p of.0 of.1) old view kept t there mid) (at_node true owns, older) at midway

          was : IsWhole c.config old
          was = whole_at c old.epoch old install.cluster (let st = stands c n s old (begun.member c e n s v install) view in subst (λ (j : ℕ). view_of_epoch c.views j ≡ Some old) (sym st.epoch) st.there)

          now : IsWhole c.config v
          now = whole_at c (s.epoch + 1) v install.cluster (begun.next c e n s v install)

      by : (o : Option View) → s.view ≡ o → owned_before o q (number_of s) ≡ true → (u : Option LockTable) → table_at w.node q ≡ u → keep_in u c.disk o v q w ≡ Differs k expected found → ⊥
      by o view had None at done = absurd (cc)
      by None view had (Some t) at done = absurd (cc)
      by (Some old) view had (Some t) at done = of_table old view t at done

  pub turn_agrees : (k expected found : ℕ) → install_partition c.disk s.view v q w ≡ Differs k expected found → ⊥
  unfolding install_partition
  turn_agrees k expected found is = by (owner_of v q == number_of w.node) refl (since_of v q == v.epoch) refl is
    where
      by : (a : Bool) → (owner_of v q == number_of w.node) ≡ a → (d : Bool) → (since_of v q == v.epoch) ≡ d → install_by a d c.disk s.view v q w ≡ Differs k expected found → ⊥
      by true owns true new done = gets_agree owns new k expected found done
      by true owns false older done = keeps_agree owns older k expected found done
      by false owns true new done = absurd (cc)
      by false owns false older done = absurd (cc)
