-- A whole install: partition after partition, before and after the turn of the page's own.
use Rattle.std.proofs.Common.{◌≡◌, ◌⊎◌, inl, inr, refl, ap, sym, subst, ◌∙◌, ℕ, zero, suc, ◌+◌, ◌≤◌, ◌<◌, ◌==◌, Bool, true, false, List, arith, eqb-true}
use Rattle.std.proofs.lemmas.Bool.Decides.{nat_tests}
use Rattle.std.proofs.lemmas.Nat.{mod_below}
use Rattle.pcl_base.specs.Limits.{Sizes}
use Rattle.pcl_base.specs.declared.event.Event.{Event}
use Rattle.run_rules.specs.Views.{View, count_from}
use Rattle.node_rules.specs.InstallRule.{install_partition, install_view}
use Rattle.node_rules.specs.NodeState.{NodeState, Install, partition}
use Rattle.node_rules.specs.NodeStep.{do_event}
use Rattle.node_rules.specs.Work.{Work, Outcome, Goes, Differs, and_then, for_each}
use Rattle.cluster_rules.specs.Clusters.{Cluster}
use Rattle.page_protocol.specs.State.{Page}
use Rattle.page_relation.specs.Relation.{IsPageOf}
use Rattle.page_relation.specs.Work.Keeping.{Leads}
use Rattle.page_relation.specs.Work.StepEnds.{start_of}
use Rattle.page_relation.proofs.WorkParts.Ended.{end_is_landed_law}
use Rattle.page_relation.proofs.WorkParts.Framing.{unseen_is_kept_law, unseen_self, unseen_then}
use Rattle.install_relation.specs.Installing.{IsWaiting}
use Rattle.install_relation.specs.Unseen.{entered}
use Rattle.install_relation.specs.Whole.{IsInstallOf, IsTurned, MayOwn, InstallIsKept, OthersAreUnseen}
use Rattle.install_relation.proofs.Aside.{aside, still_called}
use Rattle.install_relation.proofs.Begun.{member, acts, begins_installing}
use Rattle.install_relation.proofs.OwnGets.{own_leads}

pub others_are_unseen_law : OthersAreUnseen
others_are_unseen_law c e n p q s v w x i low other m goes =
    let beside = aside c e n s v i q low p other w x m.midway goes in
    (record { midway = beside.midway; calls = still_called c e n s v i q low w x m.calls goes }, beside.unseen)

module _ (c : Cluster) (e : Event) (n p : ℕ) (s : NodeState) (v : View) (blank : List ℕ) (a : Page) (i : IsInstallOf c e n p s v blank a) (own : MayOwn c e n p s v blank a) where
  abbrev q : ℕ
  q = partition c.config p

  inside : q < c.config.nodes
  inside = mod_below p c.config.nodes i.install.cluster.limits.some_nodes

  -- when k partitions are done: the page's own one waits, or had its turn
  abbrev pub Stage : ℕ → Work → Type 0
  Stage k w = ((k ≤ q) × IsWaiting c e n p s v k w) ⊎ ((q < k) × Leads c e n p (IsTurned c e n s v k) a w)

  other_turn : (k : ℕ) → k < c.config.nodes → (k == q) ≡ false → (w x : Work) → Stage k w → install_partition c.disk s.view v k w ≡ Goes x → Stage (k + 1) x
  other_turn k low other w x (inl (le, m)) goes =
      let on = others_are_unseen_law c e n p k s v w x i.install low other m.installing goes in
      let next : k + 1 ≤ q = grind (arith, nat_tests, le, other) in
      inl (next, record { installing = on.0; unseen = unseen_then c e n p (entered c.disk v s (start_of c s)) w x m.unseen on.1 })
  other_turn k low other w x (inr (less, led)) goes =
      let beside = aside c e n s v i.install k low p other w x led.known.0 goes in
      inr (
        omega (arith, less),
        record {
          page = led.page;
          run = led.run;
          related = unseen_is_kept_law c e n p w x led.page (acts c e n s v i.install) beside.unseen led.related;
          known = (beside.midway, led.known.1);
        },
      )

  own_turn : (k : ℕ) → k ≡ q → (w x : Work) → Stage k w → install_partition c.disk s.view v k w ≡ Goes x → Stage (k + 1) x
  own_turn k at w x (inl (le, m)) goes =
      subst (λ (j : ℕ). Stage (j + 1) x) (sym at)
      (inr (omega arith, own_leads c e n p s v w blank a i own (subst (λ (j : ℕ). IsWaiting c e n p s v j w) at m) x (subst (λ (j : ℕ). install_partition c.disk s.view v j w ≡ Goes x) at goes)))
  own_turn k at w x (inr (less, led)) goes = absurd (omega (arith, less, at))

  pub turn : (k : ℕ) → k < c.config.nodes → (w x : Work) → Stage k w → install_partition c.disk s.view v k w ≡ Goes x → Stage (k + 1) x
  turn k low w x stage goes = by (k == q) refl
    where
      by : (b : Bool) → (k == q) ≡ b → Stage (k + 1) x
      by true same = own_turn k (eqb-true k q same) w x stage goes
      by false other = other_turn k low other w x stage goes

  -- all partitions that are left
  walk : (m k : ℕ) → k + m ≤ c.config.nodes → (w x : Work) → Stage k w → for_each (install_partition c.disk s.view v) (count_from k m) w ≡ Goes x → Stage (k + m) x
  unfolding for_each count_from
  walk zero k upto w x stage goes =
      let same : w ≡ x = cc in
      subst (λ (y : Work). Stage (k + 0) y) same (subst (λ (j : ℕ). Stage j w) (omega arith) stage)
  walk (suc m) k upto w x stage goes = by (install_partition c.disk s.view v k w) refl goes (walk m (k + 1))
    where
      low : k < c.config.nodes
      low = omega (arith, upto)

      by : (o : Outcome Work) → install_partition c.disk s.view v k w ≡ o → and_then o (for_each (install_partition c.disk s.view v) (count_from (k + 1) m)) ≡ Goes x
          → (k + 1 + m ≤ c.config.nodes → (y z : Work) → Stage (k + 1) y → for_each (install_partition c.disk s.view v) (count_from (k + 1) m) y ≡ Goes z → Stage (k + 1 + m) z)
          → Stage (k + suc m) x
      by (Goes y) is rest further =
          subst (λ (j : ℕ). Stage j x) (omega arith) (further (omega (arith, upto)) y x (turn k low w y stage is) rest)
      by (Differs r expected found) is rest further = absurd (cc)

  pub begins_stage : Stage 0 (entered c.disk v s (start_of c s))
  begins_stage = inl (omega arith, record { installing = begins_installing c e n s v i.install; unseen = unseen_self c e n p (entered c.disk v s (start_of c s)) })

  pub view_leads : (x : Work) → do_event c.disk (Install v) (start_of c s) ≡ Goes x → Leads c e n p (IsTurned c e n s v c.config.nodes) a x
  unfolding install_view do_event
  view_leads x goes =
      last (walk c.config.nodes 0 (omega arith) (entered c.disk v s (start_of c s)) x begins_stage
      (sym (ap (λ (k : Sizes). for_each (install_partition c.disk s.view v) (count_from 0 k.nodes) (entered c.disk v s (start_of c s))) (member c e n s v i.install).config) ∙ goes))
    where
      last : Stage (0 + c.config.nodes) x → Leads c e n p (IsTurned c e n s v c.config.nodes) a x
      last (inl (le, m)) = absurd (let room = inside in omega (arith, le, room))
      last (inr (less, led)) = subst (λ (j : ℕ). Leads c e n p (IsTurned c e n s v j) a x) (let same : 0 + c.config.nodes ≡ c.config.nodes = omega arith in same) led

pub install_is_kept_law : InstallIsKept
install_is_kept_law c e n p s v x blank a i own goes whole =
    let led = view_leads c e n p s v blank a i own x goes in
    record {
      page = led.page;
      run = led.run;
      related = subst (λ (d : Cluster). IsPageOf d p led.page) (sym (end_is_landed_law c e n s (Install v) x i.install.handed i.install.free goes whole)) led.related;
      known = led.known.1;
    }
