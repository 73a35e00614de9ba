-- The turn of the page's own partition where another node had it, or where it stays.
use Rattle.std.proofs.Common.{◌≡◌, refl, ap, sym, subst, ◌∙◌, ℕ, ◌+◌, ◌<◌, ◌==◌, Bool, true, false, List, length, Option, Some, None, eqb-true}
use Rattle.pcl_base.specs.Limits.{Sizes}
use Rattle.pcl_base.specs.declared.event.Event.{Event}
use Rattle.run_rules.specs.Views.{View, owner_of, since_of}
use Rattle.node_rules.specs.InstallRule.{get_partition, install_by, install_partition, keep_in, owned_before, tell_new_owner}
use Rattle.node_rules.specs.NodeState.{NodeState, number_of, partition, table_at}
use Rattle.node_rules.specs.Work.{Work, Goes}
use Rattle.cluster_rules.specs.Clusters.{Cluster}
use Rattle.page_protocol.specs.Eras.{joining}
use Rattle.page_protocol.specs.State.{Page}
use Rattle.page_protocol.specs.Steps.{Reached, here, then}
use Rattle.page_relation.specs.Work.Events.{IsEntered}
use Rattle.page_relation.specs.Work.Keeping.{IsWorkOf, Leads}
use Rattle.page_relation.proofs.WorkParts.Kept.{leads_on, reached_on}
use Rattle.settle_relation.specs.Midway.{IsMidway}
use Rattle.report_relation.specs.Completing.{IsReady}
use Rattle.report_relation.specs.Completion.Completed.{CanBeWhole, MayBeWhole, Owns}
use Rattle.report_relation.proofs.CompletionParts.Completed.{complete_keeps_law}
use Rattle.kept_relation.specs.Turn.Standing.{as_before}
use Rattle.kept_relation.proofs.TurnParts.Going.{view_is_kept_law}
use Rattle.kept_relation.proofs.TurnParts.Joining.{join_is_kept_law}
use Rattle.install_relation.specs.Installing.{IsWaiting, numbers_at}
use Rattle.install_relation.specs.Taking.{taken}
use Rattle.install_relation.specs.Whole.{IsInstallOf, IsTurned, MayOwn, OwnTurnIsKept}
use Rattle.install_relation.proofs.Begun.{member, installs}
use Rattle.install_relation.proofs.Getting.{getting_is_kept_law, getting_first_is_kept_law}
use Rattle.install_relation.proofs.Good.{here_new}
use Rattle.install_relation.proofs.Logging.{records_stay, logs_stay}
use Rattle.install_relation.proofs.Moving.{number_test, taken_midway, told_midway, kept_midway}
use Rattle.install_relation.proofs.OwnTurn.{low, act, before_related, may_turn, goes_on, begins, gets, bare, has_none, has_table, has}
use Rattle.install_relation.proofs.Resigning.{tells_as_owner_law}
use Rattle.install_relation.proofs.Starting.{tells_first_law}
use Rattle.install_relation.proofs.Told.{tells_on_law}

-- a node that joins an era leaves the entry
entered_joined : (a : Page) (n era : ℕ) → IsEntered a → IsEntered (joining a n era)
unfolding joining
entered_joined a n era is = is

module _ (c : Cluster) (e : Event) (n p : ℕ) (s : NodeState) (v : View) (w : Work) (blank : List ℕ) (a : Page) (i : IsInstallOf c e n p s v blank a) (own : MayOwn c e n p s v blank a) (m : IsWaiting c e n p s v (partition c.config p) w) where
  abbrev q : ℕ
  q = partition c.config p

  abbrev Turned : Work → Page → Type 0
  Turned = IsTurned c e n s v (q + 1)

  below : q < c.config.nodes
  below = low c e n p s v blank a i w m

  related : IsWorkOf c e n p (as_before s w) a
  related = before_related c e n p s v blank a i w m

  -- known at the node by its number
  at_node : (k : ℕ) (x : Bool) → (k == number_of w.node) ≡ x → (k == n) ≡ x
  at_node k x is = ap (λ (j : ℕ). k == j) (sym (has c e n p s v blank a i w m).number) ∙ is

  -- ---- it gets the partition

  taken_leads : (since_of v q == v.epoch) ≡ true → (owner_of v q == n) ≡ true → Leads c e n p (λ x b. IsEntered a → IsEntered b) a (taken q w)
  taken_leads new owns = by s.view refl
    where
      era : since_of v q ≡ v.epoch
      era = eqb-true (since_of v q) v.epoch new

      by : (o : Option View) → s.view ≡ o → Leads c e n p (λ x b. IsEntered a → IsEntered b) a (taken q w)
      by (Some old) at =
          getting_is_kept_law c e n p s old v w a blank (act c e n p s v blank a i w m) (may_turn c e n p s v blank a i w m era) (goes_on c e n p s v blank a i w m old at)
          (gets c e n p s v blank a i w m new owns) related
      by None none =
          getting_first_is_kept_law c e n p s v w a blank (act c e n p s v blank a i w m) (may_turn c e n p s v blank a i w m era) (begins c e n p s v blank a i w m none)
          (gets c e n p s v blank a i w m new owns) (bare c e n p s v blank a i w m none) related

  same_view : (u : View) → w.node.view ≡ Some u → v ≡ u
  same_view u at = (let same : Some v ≡ Some u = sym m.installing.midway.good.view ∙ at in cc)

  whole : (since_of v q == v.epoch) ≡ true → (owner_of v q == n) ≡ true → (b : Page) → Reached blank b → IsEntered b → IsWorkOf c e n p (taken q w) b → MayBeWhole c e n p q (taken q w) b
  whole new owns b reached entered is =
      record {
        same = records_stay c n s v (member c e n s v i.install).config (member c e n s v i.install).number room (taken q w) m.installing.calls;
        logs = logs_stay c n s v (member c e n s v i.install).config (member c e n s v i.install).number room (taken q w) m.installing.calls ∙ i.install.cluster.disk.logs;
        whole = λ u t same ready.
            subst (λ (x : View). CanBeWhole c e n p q (taken q w) x t b) (same_view u ready.in_view)
            (own.gets w b t m owns (eqb-true (since_of v q) v.epoch new) reached entered is (subst (λ (x : View). IsReady c n q (taken q w) x t) (sym (same_view u ready.in_view)) ready));
      }
    where
      room : n < length c.disk.logs
      room = subst (λ (k : ℕ). n < k) (sym i.install.cluster.disk.logs) (act c e n p s v blank a i w m).known

  owns_it : Owns (numbers_at s v (q + 1)) q
  owns_it = here_new s.view v (number_of s) q

  get_leads : (x : Work) → (since_of v q == v.epoch) ≡ true → (owner_of v q == number_of w.node) ≡ true → get_partition c.disk q w ≡ Goes x → Leads c e n p Turned a x
  unfolding get_partition
  get_leads x new owns goes =
      let owned = at_node (owner_of v q) true owns in
      let led = taken_leads new owned in
      let there : Reached blank led.page = reached_on blank a led.page i.reached led.run in
      let entered : IsEntered led.page = led.known i.entered in
      leads_on c e n p Turned a led.page x led.run
      (complete_keeps_law (numbers_at s v (q + 1)) c e n p q (act c e n p s v blank a i w m) i.order i.below below i.quiet owns_it blank (taken q w) x led.page there led.related
      (taken_midway c e n s v i.install q below w m.installing.midway owns, entered, whole new owned led.page there entered led.related) goes)

  -- ---- the partition stays

  era_stays : (old : View) → s.view ≡ Some old → (since_of v q == v.epoch) ≡ false → since_of v q ≡ since_of old q
  era_stays old at kept = (installs c e n s v i.install).stays old q (subst (λ (k : Sizes). q < k.nodes) (sym (member c e n s v i.install).config) below) at kept

  now_related : (old : View) → s.view ≡ Some old → (since_of v q == v.epoch) ≡ false → IsWorkOf c e n p w a
  now_related old at kept =
      view_is_kept_law c e n p s old v w a (act c e n p s v blank a i w m) (has c e n p s v blank a i w m) at (goes_on c e n p s v blank a i w m old at).born (era_stays old at kept) related

  midway_on : (since_of v q == v.epoch) ≡ false → IsMidway (numbers_at s v (q + 1)) c e n w
  midway_on kept = kept_midway c e n s v i.install q below w m.installing.midway kept

  -- a node that begins its life gets each partition that it owns
  keep_leads : (x : Work) → (since_of v q == v.epoch) ≡ false → (owner_of v q == number_of w.node) ≡ true → keep_in (table_at w.node q) c.disk s.view v q w ≡ Goes x → Leads c e n p Turned a x
  keep_leads x kept owns goes = by s.view refl
    where
      by : (o : Option View) → s.view ≡ o → Leads c e n p Turned a x
      by (Some old) at = own.keeps w x old at m (at_node (owner_of v q) true owns) (era_stays old at kept) (now_related old at kept) (midway_on kept) goes
      by None none =
          let same = (installs c e n s v i.install).keeps q (subst (λ (k : Sizes). q < k.nodes) (sym (member c e n s v i.install).config) below) kept in
          let was : owned_before s.view q (number_of s) ≡ false = ap (λ (o : Option View). owned_before o q (number_of s)) none in
          let now : (owner_of v q == number_of s) ≡ true = number_test c e n s v i.install q below w m.installing.midway (owner_of v q) true owns in
          let bad : false ≡ true = sym was ∙ same ∙ now in
          absurd (cc)

  same_leads : (x : Work) → (since_of v q == v.epoch) ≡ false → w ≡ x → Leads c e n p Turned a x
  same_leads x kept same = subst (Leads c e n p Turned a) same (by s.view refl)
    where
      by : (o : Option View) → s.view ≡ o → Leads c e n p Turned a w
      by (Some old) at = record { page = a; run = here; related = now_related old at kept; known = (midway_on kept, i.entered) }
      by None none =
          let first = begins c e n p s v blank a i w m none in
          let joined = join_is_kept_law c e n p s v w a (act c e n p s v blank a i w m) (has c e n p s v blank a i w m) none first.empty first.born first.free related in
          record { page = joining a n (since_of v q); run = then here joined.step; related = joined.related; known = (midway_on kept, entered_joined a n (since_of v q) i.entered) }

  -- ---- another node gets it

  tell_leads : (x : Work) → (since_of v q == v.epoch) ≡ true → (owner_of v q == number_of w.node) ≡ false → tell_new_owner s.view v q w ≡ x → Leads c e n p Turned a x
  tell_leads x new other same =
      subst (Leads c e n p Turned a) same
      (let led = by s.view refl in record { page = led.page; run = led.run; related = led.related; known = (told_midway c e n s v i.install q below w m.installing.midway other, led.known i.entered) })
    where
      era : since_of v q ≡ v.epoch
      era = eqb-true (since_of v q) v.epoch new

      away : (owner_of v q == n) ≡ false
      away = at_node (owner_of v q) false other

      of : (old : View) → s.view ≡ Some old → (b : Bool) → owned_before s.view q n ≡ b → Leads c e n p (λ x b. IsEntered a → IsEntered b) a (tell_new_owner s.view v q w)
      of old at true owned =
          tells_as_owner_law c e n p s old v w a blank (act c e n p s v blank a i w m) (may_turn c e n p s v blank a i w m era) away (goes_on c e n p s v blank a i w m old at)
          (has_table c e n p s v blank a i w m owned) related
      of old at false not =
          tells_on_law c e n p s old v w a blank (act c e n p s v blank a i w m) (may_turn c e n p s v blank a i w m era) away (goes_on c e n p s v blank a i w m old at)
          (has_none c e n p s v blank a i w m not) related

      by : (o : Option View) → s.view ≡ o → Leads c e n p (λ x b. IsEntered a → IsEntered b) a (tell_new_owner s.view v q w)
      by (Some old) at = of old at (owned_before s.view q n) refl
      by None none =
          tells_first_law c e n p s v w a blank (act c e n p s v blank a i w m) (may_turn c e n p s v blank a i w m era) away (begins c e n p s v blank a i w m none) related

  pub own_leads : (x : Work) → install_partition c.disk s.view v q w ≡ Goes x → Leads c e n p Turned a x
  unfolding install_partition
  own_leads x = by (owner_of v q == number_of w.node) refl (since_of v q == v.epoch) refl
    where
      by : (d : Bool) → (owner_of v q == number_of w.node) ≡ d → (b : Bool) → (since_of v q == v.epoch) ≡ b → install_by d b c.disk s.view v q w ≡ Goes x → Leads c e n p Turned a x
      by true owns true new goes = get_leads x new owns goes
      by true owns false kept goes = keep_leads x kept owns goes
      by false other true new goes = tell_leads x new other (let same : tell_new_owner s.view v q w ≡ x = cc in same)
      by false other false kept goes = same_leads x kept (let same : w ≡ x = cc in same)

pub own_turn_is_kept_law : OwnTurnIsKept
own_turn_is_kept_law c e n p s v w x blank a i own m goes = own_leads c e n p s v w blank a i own m x goes
