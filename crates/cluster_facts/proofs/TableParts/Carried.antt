-- Through every step the tables of nodes have holders of lives in their view, and rights of nodes that are live there.
use Rattle.std.proofs.Common.{◌≡◌, ◌⊎◌, inl, inr, refl, sym, ap, subst, ◌∙◌, ℕ, ◌+◌, ◌<◌, not, Bool, true, false, List, [], ◌∷◌, Option, Some, None, is_some, replicate}
use Rattle.std.specs.Prelude.{IfSome}
use Rattle.std.specs.List.{AllByRecursion}
use Rattle.pcl_base.specs.Limits.{Sizes}
use Rattle.pcl_base.specs.declared.event.Event.{Event}
use Rattle.pcl_base.specs.declared.lock.Verdict.TheVariants as verdict
use Rattle.pcl_base.specs.declared.lock.Waiter.{Waiter}
use Rattle.pcl_base.specs.declared.message.Body.{Body}
use Rattle.pcl_base.specs.declared.message.Body.TheVariants as body
use Rattle.pcl_base.specs.declared.message.Message.{Message}
use Rattle.pcl_base.specs.declared.message.ReportLock.{ReportLock}
use Rattle.pcl_base.specs.declared.message.ReportRight.{ReportRight}
use Rattle.pcl_base.specs.declared.message.ReportWait.{ReportWait}
use Rattle.pcl_base.specs.declared.reply.Reason.{Reason}
use Rattle.pcl_base.specs.declared.reply.Reason.TheVariants as reason
use Rattle.pcl_base.specs.declared.tx.TxId.{TxId}
use Rattle.run_rules.specs.Views.{View, is_live, born_of, first}
use Rattle.rule_laws.specs.LaterViews.{IsBetween}
use Rattle.rule_laws.proofs.Successors.{taken_is_between_law}
use Rattle.node_rules.specs.InstallRule.{owned_before}
use Rattle.node_rules.specs.Judging.{judge}
use Rattle.node_rules.specs.LockTable.{PageEntry, LockTable, open_table}
use Rattle.node_rules.specs.NodeState.{NodeState, NodeEvent, first_node, start_node, number_of, partition, table_at}
use Rattle.node_rules.specs.NodeState as node
use Rattle.node_rules.specs.NodeStep.{Plan, partition_of, judge_in}
use Rattle.node_rules.specs.Refusals.{refuse_if, may_install, refusal}
use Rattle.node_laws.specs.Nodes.{IsViewOf}
use Rattle.node_laws.proofs.Lists.{all_weaker, all_each, set_look}
use Rattle.cluster_rules.specs.Clusters.{Cluster, opening, node_at, view_of_epoch}
use Rattle.cluster_rules.specs.ClusterStep.{step}
use Rattle.cluster_rules.specs.Links.{link_at}
use Rattle.cluster_laws.specs.Epochs.{StaysInView, HasInstalled}
use Rattle.cluster_laws.specs.Handed.{IsHanded}
use Rattle.cluster_laws.specs.Laws.{IsGoodPlan}
use Rattle.cluster_laws.specs.Sound.{IsMember, IsCluster}
use Rattle.cluster_laws.proofs.Epochs.{steps_keep_views_law}
use Rattle.cluster_laws.proofs.Lists.{look_counted, look_same}
use Rattle.cluster_laws.proofs.Steps.{up_is_member_law, plans_are_good_law}
use Rattle.cluster_laws.specs.Era.Counts.{is_dropped}
use Rattle.cluster_laws.specs.Era.CountLaws.{IsOfView}
use Rattle.cluster_laws.specs.Era.Eras.{born_in, born_at}
use Rattle.cluster_laws.proofs.EraParts.Counted.{counting_is_of_view_law}
use Rattle.cluster_laws.proofs.EraParts.Lives.{live_known}
use Rattle.cluster_laws.proofs.EraParts.Nexts.{follows_born}
use Rattle.cluster_laws.specs.Link.StepLaws.{IsPlanned, IsNodeStep, node_stays, node_acts, node_lost, node_starts}
use Rattle.cluster_laws.proofs.LinkParts.Nodes.{nodes_step_law}
use Rattle.page_relation.specs.Together.{IsOf, PartiesAre, IsParty}
use Rattle.related_runs.specs.Parties.{IsLiving, WaitLiving, TablesLiving, HaveLiving, HaveParties}
use Rattle.cluster_facts.proofs.WaitingParts.Coming.{head_all, delivered}
use Rattle.cluster_facts.specs.Table.Lives.{EntryLives, TableLives, TablesHaveLives, HaveTableLives, OpeningHasTableLives, StepsHaveTableLives}
use Rattle.cluster_facts.proofs.TableParts.Entries.{EntryHas, TableHas, open_has}
use Rattle.cluster_facts.proofs.TableParts.Events.{NodeHas, Brings, Hears}
use Rattle.cluster_facts.proofs.TableParts.Stepping.{GoesOn, going_on, plans_have}

-- a transaction of a life in a view, and a node that is live in it, where there is a view
abbrev LifeIn : Option View → ℕ → TxId → Type 0
LifeIn None q t = ⊥
LifeIn (Some v) q t = IsLiving v t

abbrev LiveIn : Option View → ℕ → ℕ → Type 0
LiveIn None q m = ⊥
LiveIn (Some v) q m = is_live v.live m ≡ true

-- holders and rights, and those who wait, are all of a table
all_with : {X : Type 0} (P Q R : X → Type 0) → ((x : X) → P x → Q x → R x) → (xs : List X) → AllByRecursion P xs → AllByRecursion Q xs → AllByRecursion R xs
all_with P Q R k [] ps qs = tt
all_with P Q R k (x ∷ xs) ps qs = (k x ps.0 qs.0, all_with P Q R k xs ps.1 qs.1)

module _ (v : View) (q : ℕ) where
  abbrev Lives : LockTable → Type 0
  Lives t = TableHas (LifeIn (Some v) q) (LiveIn (Some v) q) t

  joined : (t : LockTable) → TableLives v t → WaitLiving v t → Lives t
  joined t lives waits =
      all_with (λ (x : PageEntry). EntryLives v x.entry) (λ (x : PageEntry). AllByRecursion (λ (w : Waiter). IsLiving v w.tx) x.entry.waiting)
      (λ (x : PageEntry). EntryHas (LifeIn (Some v) q) (LiveIn (Some v) q) x.entry) (λ x a b. (a.0, a.1, b)) t.entries lives waits

  parted : (t : LockTable) → Lives t → TableLives v t
  parted t has =
      all_weaker (λ (x : PageEntry). EntryHas (LifeIn (Some v) q) (LiveIn (Some v) q) x.entry) (λ (x : PageEntry). EntryLives v x.entry) (λ x a. (a.0, a.1)) t.entries has

-- ---- a step
module _ (c : Cluster) (e : Event) (i : IsCluster c) (living : HaveLiving c) (parties : HaveParties c) (lives : HaveTableLives c) (n : ℕ) (s : NodeState) (ev : NodeEvent) (p : Plan) (planned : IsPlanned c e n s ev p) where
  up : node_at c n ≡ Some s
  up = planned.handed.up

  member : IsMember c.config c.views n s
  member = (up_is_member_law c n s i up).1

  good : IsGoodPlan c n s ev p
  good = plans_are_good_law c e n s ev p i planned.handed planned.goes

  before : NodeHas (LifeIn s.view) (LiveIn s.view) s
  before =
      by s.view refl (subst (λ (o : Option NodeState). IfSome o TablesHaveLives) up (lives n)) (subst (λ (o : Option NodeState). IfSome o TablesLiving) up (living n))
    where
      none : (q : ℕ) → q < s.home.config.nodes → s.view ≡ None → (x : Option LockTable) → table_at s q ≡ x → IfSome x (TableHas (LifeIn None q) (LiveIn None q))
      none q low at None there = tt
      none q low at (Some t) there =
          let bad : true ≡ false = ap (λ (o : Option LockTable). is_some o) (sym there) ∙ member.sound.owned q low ∙ ap (λ (o : Option View). owned_before o q (number_of s)) at in
          absurd (cc)

      both : (v : View) (q : ℕ) (x : Option LockTable) → IfSome x (TableLives v) → IfSome x (WaitLiving v) → IfSome x (TableHas (LifeIn (Some v) q) (LiveIn (Some v) q))
      both v q None a b = tt
      both v q (Some t) a b = joined v q t a b

      by : (o : Option View) → s.view ≡ o → IfSome o (λ v. (q : ℕ) → q < s.home.config.nodes → IfSome (table_at s q) (TableLives v))
          → IfSome o (λ v. (q : ℕ) → q < s.home.config.nodes → IfSome (table_at s q) (WaitLiving v)) → NodeHas (LifeIn o) (LiveIn o) s
      by None at a b = λ q low. none q low at (table_at s q) refl
      by (Some v) at a b = λ q low. both v q (table_at s q) (a q low) (b q low)

  -- where the step leaves the node in a view
  module _ (w : View) (view : p.node.view ≡ Some w) where
    abbrev After : ℕ → TxId → Type 0
    After q t = LifeIn (Some w) q t

    abbrev AfterLive : ℕ → ℕ → Type 0
    AfterLive q m = LiveIn (Some w) q m

    own : (q : ℕ) (t : TxId) → t.node ≡ number_of s → t.born ≡ p.node.home.txs.born → After q t
    own q t of at = record { live = ap (is_live w.live) here ∙ is.live; born = at ∙ sym is.born ∙ ap (born_of w) (sym here) }
      where
        is : IsViewOf p.node w
        is = subst (λ (o : Option View). IfSome o (IsViewOf p.node)) view good.member.sound.view

        here : t.node ≡ number_of p.node
        here = of ∙ member.number ∙ sym good.member.number

    -- the view stays
    same_view : StaysInView s p.node → s.view ≡ Some w
    same_view x = sym x.view ∙ view

    life_stays : StaysInView s p.node → (q : ℕ) (t : TxId) → LifeIn s.view q t → After q t
    life_stays x q t is = subst (λ (o : Option View). LifeIn o q t) (same_view x) is

    live_stays : StaysInView s p.node → (q m : ℕ) → LiveIn s.view q m → AfterLive q m
    live_stays x q m is = subst (λ (o : Option View). LiveIn o q m) (same_view x) is

    -- a further view
    module _ (x : HasInstalled s ev p.node) where
      next : x.next ≡ w
      next = let both : Some x.next ≡ Some w = sym x.view ∙ view in cc

      goes_on : (q : ℕ) (t : TxId) → is_live x.next.live t.node ≡ true → LifeIn s.view q t → After q t
      goes_on q t now is = subst (λ (k : View). IsLiving k t) next (by s.view refl is)
        where
          by : (o : Option View) → s.view ≡ o → LifeIn o q t → IsLiving x.next t
          by None at was = absurd was
          by (Some u) at was =
              let of : IsViewOf s u = subst (λ (o : Option View). IfSome o (IsViewOf s)) at member.sound.view in
              let may : may_install s (Some u) x.next ≡ true = subst (λ (o : Option View). may_install s o x.next ≡ true) at x.allowed in
              record { live = now; born = was.born ∙ sym (follows_born s.home.config u x.next t.node of.whole may (live_known s.home.config u t.node of.whole was.live) was.live) }

      further : (q : ℕ) → GoesOn s (LifeIn s.view) After (LiveIn s.view) AfterLive q ev
      further q =
          subst (λ (k : NodeEvent). GoesOn s (LifeIn s.view) After (LiveIn s.view) AfterLive q k) (sym x.asked) (λ old owned. (
            (λ t now is. goes_on q t now is),
            (λ m now is. subst (λ (k : View). is_live k.live m ≡ true) next now),
          ))

      unrefused : refusal s (node.Install x.next) ≡ None
      unfolding refusal
      unrefused = ap (λ (b : Bool). refuse_if (not b) reason.NoView None) x.allowed

      never : (r : Reason) → refusal s ev ≡ Some r → ⊥
      never r refused = let bad : Some r ≡ None = sym refused ∙ ap (refusal s) x.asked ∙ unrefused in absurd (cc)

    on : (q : ℕ) → GoesOn s (LifeIn s.view) After (LiveIn s.view) AfterLive q ev
    on q = by (steps_keep_views_law s ev c.disk p planned.goes)
      where
        by : StaysInView s p.node ⊎ HasInstalled s ev p.node → GoesOn s (LifeIn s.view) After (LiveIn s.view) AfterLive q ev
        by (inl x) = going_on s (LifeIn s.view) After (LiveIn s.view) AfterLive q ev (λ t is. life_stays x q t is) (λ m is. live_stays x q m is)
        by (inr x) = further x q

    refused : (r : Reason) → refusal s ev ≡ Some r → (q : ℕ) → ((t : TxId) → LifeIn s.view q t → After q t) × ((m : ℕ) → LiveIn s.view q m → AfterLive q m)
    refused r is q = by (steps_keep_views_law s ev c.disk p planned.goes)
      where
        by : StaysInView s p.node ⊎ HasInstalled s ev p.node → ((t : TxId) → LifeIn s.view q t → After q t) × ((m : ℕ) → LiveIn s.view q m → AfterLive q m)
        by (inl x) = ((λ t k. life_stays x q t k), (λ m k. live_stays x q m k))
        by (inr x) = absurd (never x r is)

    -- what a message brings that is taken
    module _ (from : ℕ) (m : Message) (there : s.view ≡ Some w) (q : ℕ) (taken : judge w (number_of s) from m.epoch q ≡ verdict.Taken) where
      between : IsBetween w (number_of s) from m.epoch q
      between = (taken_is_between_law w (number_of s) from m.epoch q).0 taken

      of_view : IsOfView c w n from q m.epoch
      of_view = counting_is_of_view_law c n s w from q m.epoch i up there (ap (λ x. not (is_dropped x)) taken) between.reached

      sent : (u : View) → view_of_epoch c.views m.epoch ≡ Some u → (t : TxId) → IsOf u from t → IsLiving w t
      unfolding born_at
      sent u made t is =
          record {
            live = ap (is_live w.live) is.node ∙ between.sender;
            born = is.born ∙ ap (λ o. born_in o from) (sym made) ∙ of_view.sender.born ∙ ap (born_of w) (sym is.node);
          }

    brings : (from : ℕ) (m : Message) (there : s.view ≡ Some w) (party : IsParty c from n m) (x : Body) → PartiesAre c party.view from n m.epoch x
        → judge w (number_of s) from m.epoch (partition_of s.home.config x) ≡ verdict.Taken → Brings s.home.config After AfterLive from x
    brings from m there party (body.Request r) is taken = sent from m there (partition s.home.config r.page) taken party.view party.made r.tx is.1
    brings from m there party (body.Grant g) is taken = tt
    brings from m there party (body.Release r) is taken = tt
    brings from m there party (body.Revoke k) is taken = tt
    brings from m there party (body.Return r) is taken =
        all_weaker (IsOf party.view from) (IsLiving w) (λ t k. sent from m there (partition s.home.config r.page) taken party.view party.made t k) r.readers is.1
    brings from m there party (body.Report r) is taken = (
      record {
        locks = all_weaker (λ (x : ReportLock). IsOf party.view from x.tx) (λ (x : ReportLock). IsLiving w x.tx) (λ x k. sent from m there r.partition taken party.view party.made x.tx k) r.locks is.2;
        waits = all_weaker (λ (x : ReportWait). IsOf party.view from x.tx) (λ (x : ReportWait). IsLiving w x.tx) (λ x k. sent from m there r.partition taken party.view party.made x.tx k) r.waits is.3;
      },
      all_each (λ (x : ReportRight). is_live w.live from ≡ true) (λ x. (between from m there r.partition taken).sender) r.rights,
    )

    hear_message : (from : ℕ) (m : Message) → ev ≡ node.Deliver from m → IsHanded c e n s (node.Deliver from m) → Hears s After AfterLive (node.Deliver from m)
    hear_message from m is handed = λ taken.
        brings from m there party m.body party.parties (ap (λ (o : Option View). judge_in o (number_of s) from m.epoch (partition_of s.home.config m.body)) (sym there) ∙ taken)
      where
        party : IsParty c from n m
        party = head_all (IsParty c from n) (link_at c.links from n) m (parties from n) (delivered c e n s from m handed)

        there : s.view ≡ Some w
        there = by (steps_keep_views_law s ev c.disk p planned.goes)
          where
            by : StaysInView s p.node ⊎ HasInstalled s ev p.node → s.view ≡ Some w
            by (inl y) = same_view y
            by (inr y) = let bad : node.Deliver from m ≡ node.Install y.next = sym is ∙ y.asked in absurd (cc)

    hear : (x : NodeEvent) → ev ≡ x → IsHanded c e n s x → Hears s After AfterLive x
    hear node.Begin is h = tt
    hear (node.Read t k) is h = tt
    hear (node.Write t k place bytes) is h = tt
    hear (node.Commit t) is h = tt
    hear (node.Abort t) is h = tt
    hear (node.Evict k) is h = tt
    hear (node.Flush k) is h = tt
    hear (node.Install v) is h = tt
    hear node.Cut is h = tt
    hear (node.Deliver from m) is h = hear_message from m is h

    after : NodeHas After AfterLive p.node
    after =
        plans_have s ev c.disk p good.step (LifeIn s.view) After (LiveIn s.view) AfterLive (λ q t is. is.live) own before (λ none q low. on q) (λ r is q low. refused r is q) (hear ev refl planned.handed)

  acts : TablesHaveLives p.node
  acts = by p.node.view refl
    where
      each : (v : View) (q : ℕ) (o : Option LockTable) → IfSome o (TableHas (LifeIn (Some v) q) (LiveIn (Some v) q)) → IfSome o (TableLives v)
      each v q None is = tt
      each v q (Some t) is = parted v q t is

      by : (o : Option View) → p.node.view ≡ o → IfSome o (λ v. (q : ℕ) → q < p.node.home.config.nodes → IfSome (table_at p.node q) (TableLives v))
      by None at = tt
      by (Some v) at = λ q low. each v q (table_at p.node q) (after v at q low)

pub steps_have_table_lives_law : StepsHaveTableLives
unfolding start_node
steps_have_table_lives_law c e i living parties lives n = by (nodes_step_law c e n i)
  where
    by : IsNodeStep c e n (node_at (step c e) n) → IfSome (node_at (step c e) n) TablesHaveLives
    by (node_stays same) = subst (λ (o : Option NodeState). IfSome o TablesHaveLives) (sym same) (lives n)
    by (node_acts s ev p planned same) = subst (λ (o : Option NodeState). IfSome o TablesHaveLives) (sym same) (acts c e i living parties lives n s ev p planned)
    by (node_lost same) = subst (λ (o : Option NodeState). IfSome o TablesHaveLives) (sym same) tt
    by (node_starts same down) = subst (λ (o : Option NodeState). IfSome o TablesHaveLives) (sym same) tt

-- in the opening cluster the tables are empty
first_lives : (c : Sizes) (k : ℕ) → TablesHaveLives (first_node c k)
unfolding first_node
first_lives c k q low =
    set_look (λ (o : Option LockTable). IfSome o (TableLives (first c))) None (replicate c.nodes None) k q (Some (open_table c k true))
    (λ same. parted (first c) q (open_table c k true) (open_has (LifeIn (Some (first c)) q) (LiveIn (Some (first c)) q) c k true))
    (look_same (λ (o : Option LockTable). IfSome o (TableLives (first c))) c.nodes q None None tt tt)

pub opening_has_table_lives_law : OpeningHasTableLives
unfolding opening first_node
opening_has_table_lives_law c n =
    look_counted (λ j (o : Option NodeState). IfSome o TablesHaveLives) None (λ k. Some (first_node c k)) c.nodes 0 n (λ j low. first_lives c (0 + j)) (λ j. tt)
