-- What is known of a birth stays known through every step.
use Rattle.std.proofs.Common.{◌≡◌, ◌⊎◌, inl, inr, refl, sym, ap, subst, ◌∙◌, ℕ, ◌+◌, ◌<◌, ◌≤◌, ◌==◌, Bool, true, false, Option, Some, None, is_some, replicate, slice_index_or, arith}
use Rattle.std.specs.Prelude.{IfSome}
use Rattle.std.proofs.lemmas.Bool.Decides.{nat_tests}
use Rattle.pcl_base.specs.Limits.{Sizes}
use Rattle.pcl_base.specs.declared.event.Event.{Event}
use Rattle.run_rules.specs.Views.{View, owner_of}
use Rattle.node_rules.specs.InstallRule.{owned_before}
use Rattle.node_rules.specs.LockTable.{LockTable}
use Rattle.node_rules.specs.NodeState.{NodeState, NodeEvent, table_at, start_node, number_of, is_serving}
use Rattle.node_rules.specs.NodeStep.{Plan}
use Rattle.cluster_rules.specs.Clusters.{Cluster, node_at, last_view}
use Rattle.cluster_rules.specs.ClusterStep.{step}
use Rattle.cluster_laws.specs.Epochs.{StaysInView}
use Rattle.cluster_laws.specs.Laws.{IsGoodPlan}
use Rattle.cluster_laws.specs.Sound.{IsMember, IsCluster}
use Rattle.cluster_laws.proofs.Lists.{look_same}
use Rattle.cluster_laws.proofs.Steps.{plans_are_good_law}
use Rattle.cluster_laws.specs.Era.EraLaws.{Lives}
use Rattle.cluster_laws.specs.Era.Eras.{era_in, era_at, owner_at, born_at, life_in, life_of}
use Rattle.cluster_laws.proofs.EraParts.Ages.{steps_keep_eras_law, eras_never_fall_law, eras_are_reached_law, eras_have_one_owner_law, owners_were_born_law}
use Rattle.cluster_laws.proofs.EraParts.Epochs.{steps_keep_made_law}
use Rattle.cluster_laws.proofs.EraParts.Lives.{members_know_eras_law, up_nodes_live_law}
use Rattle.cluster_laws.specs.Link.StepLaws.{IsPlanned, IsNodeStep, node_stays, node_acts, node_lost, node_starts}
use Rattle.cluster_laws.proofs.LinkParts.Nodes.{nodes_step_law}
use Rattle.cluster_laws.proofs.LinkParts.Rising.{epochs_go_on_law}
use Rattle.cluster_facts.specs.Known.Births.{KnownBirth, KnownStays}
use Rattle.cluster_facts.proofs.KnownParts.Known.{below_or_not, before_era, OwnsIn, owns_in, member_of}
use Rattle.cluster_facts.proofs.KnownParts.Gaining.{steps_gain_law}

module _ (c : Cluster) (e : Event) (i : IsCluster c) (q : ℕ) (low : q < c.config.nodes) where
  eras : (x : ℕ) → x ≤ (last_view c).epoch → era_at (step c e) q x ≡ era_at c q x
  eras x upto = (steps_keep_eras_law c e x i upto).eras q

  -- ---- a node that acts
  module _ (n : ℕ) (s : NodeState) (ev : NodeEvent) (p : Plan) (planned : IsPlanned c e n s ev p) where
    member : IsMember c.config c.views n s
    member = member_of c i q n s planned.handed.up

    good : IsGoodPlan c n s ev p
    good = plans_are_good_law c e n s ev p i planned.handed planned.goes

    pub not_below : s.epoch ≤ p.node.epoch
    not_below = by (epochs_go_on_law c e n s ev p i planned)
      where
        by : StaysInView s p.node ⊎ (s.epoch < p.node.epoch) → s.epoch ≤ p.node.epoch
        by (inl x) = let same = x.epoch in omega (arith, same)
        by (inr less) = omega (arith, less)

    -- a node that had no table has one of a later era
    risen : table_at s q ≡ None → OwnsIn c i q n p.node → era_at c q s.epoch < era_at c q p.node.epoch
    risen none owns = by s.view refl
      where
        -- it was in no view
        began : s.view ≡ None → s.epoch < p.node.epoch
        began at = by (epochs_go_on_law c e n s ev p i planned)
          where
            by : StaysInView s p.node ⊎ (s.epoch < p.node.epoch) → s.epoch < p.node.epoch
            by (inl x) = absurd (let bad : Some owns.view ≡ None = sym owns.there ∙ x.view ∙ at in cc)
            by (inr less) = less

        -- it didn't own the partition
        owned : (u : View) → s.view ≡ Some u → owner_at c q s.epoch ≡ n → ⊥
        owned u at own =
            let is : owner_of u q ≡ n = sym ((members_know_eras_law c n s u member at).owners q) ∙ own in
            let test : owned_before s.view q (number_of s) ≡ true = ap (λ (o : Option View). owned_before o q (number_of s)) at ∙ ap (λ (k : ℕ). owner_of u q == k) member.number ∙ grind (arith, nat_tests, is) in
            let bad : false ≡ true = sym (ap (λ (o : Option LockTable). is_some o) none) ∙ member.sound.owned q (subst (λ (k : Sizes). q < k.nodes) (sym member.config) low) ∙ test in
            cc

        by : (o : Option View) → s.view ≡ o → era_at c q s.epoch < era_at c q p.node.epoch
        by None at =
            let less = began at in
            let life : life_of s ≡ s.epoch + 1 = ap (life_in s) at in
            let lives : Lives c n (life_of s) p.node.epoch = up_nodes_live_law c n s p.node.epoch i planned.handed.up (omega (arith, life, less)) good.member.reached in
            let born : born_at c n p.node.epoch ≡ s.epoch + 1 = lives.born ∙ life in
            let owner : born_at c n p.node.epoch ≤ era_at c q p.node.epoch = subst (λ (k : ℕ). born_at c k p.node.epoch ≤ era_at c q p.node.epoch) owns.owner (owners_were_born_law c q p.node.epoch i low) in
            let upto = eras_are_reached_law c q s.epoch i in
            omega (arith, born, owner, upto)
        by (Some u) at =
            below_or_not (era_at c q s.epoch) (era_at c q p.node.epoch)
            (λ le.
            let on = eras_never_fall_law c q s.epoch p.node.epoch i not_below good.member.reached in
            let same : era_at c q s.epoch ≡ era_at c q p.node.epoch = omega (arith, le, on) in
            owned u at (eras_have_one_owner_law c q s.epoch p.node.epoch i same ∙ owns.owner))

    module _ (birth : ℕ) (k : KnownBirth c q birth) where
      upto_then : era_at c q birth ≤ era_at c q p.node.epoch
      upto_then =
          let now = k.reached n s planned.handed.up in
          let on = eras_never_fall_law c q s.epoch p.node.epoch i not_below good.member.reached in
          omega (arith, now, on)

      -- where it had no table, or one that was rebuilt
      below_then : (t : LockTable) → table_at p.node q ≡ Some t → IfSome (table_at s q) (λ (x : LockTable). x.serving ≡ false) → birth < era_at c q p.node.epoch
      below_then t there was = by (table_at s q) refl was
        where
          owns : OwnsIn c i q n p.node
          owns = owns_in c i q low n p.node t good.member there

          by : (o : Option LockTable) → table_at s q ≡ o → IfSome o (λ (x : LockTable). x.serving ≡ false) → birth < era_at c q p.node.epoch
          by None at is =
              let rise = risen at owns in
              let now = k.reached n s planned.handed.up in
              before_era c i q birth (era_at c q p.node.epoch) p.node.epoch good.member.reached refl k.made (omega (arith, rise, now))
          by (Some x) at is =
              let less = k.rebuilt n s x planned.handed.up at is in
              let era = (owns_in c i q low n s x member at).era in
              let on = eras_never_fall_law c q s.epoch p.node.epoch i not_below good.member.reached in
              omega (arith, less, era, on)

      served_then : (t : LockTable) → table_at p.node q ≡ Some t → birth ≤ p.node.epoch
      served_then t there = by (table_at s q) refl
        where
          of : (x : LockTable) (b : Bool) → x.serving ≡ b → table_at s q ≡ Some x → birth ≤ p.node.epoch
          of x true f at = let now = k.served n s x planned.handed.up at f in let up = not_below in omega (arith, now, up)
          of x false f at =
              let less = below_then t there (subst (λ (o : Option LockTable). IfSome o (λ (x : LockTable). x.serving ≡ false)) (sym at) f) in
              let upto = eras_are_reached_law c q p.node.epoch i in
              omega (arith, less, upto)

          by : (o : Option LockTable) → table_at s q ≡ o → birth ≤ p.node.epoch
          by None at =
              let less = below_then t there (subst (λ (o : Option LockTable). IfSome o (λ (x : LockTable). x.serving ≡ false)) (sym at) tt) in
              let upto = eras_are_reached_law c q p.node.epoch i in
              omega (arith, less, upto)
          by (Some x) at = of x x.serving refl at

      rebuilt_then : (t : LockTable) → table_at p.node q ≡ Some t → t.serving ≡ false → birth < era_in p.node.view q
      rebuilt_then t there serves = subst (λ (x : ℕ). birth < x) (owns_in c i q low n p.node t good.member there).era (below_then t there (by (table_at s q) refl))
        where
          of : (x : LockTable) (b : Bool) → x.serving ≡ b → table_at s q ≡ Some x → x.serving ≡ false
          of x false f at = f
          of x true f at =
              absurd (
              let still : IfSome (table_at p.node q) (λ (x : LockTable). x.serving ≡ true) =
              (steps_gain_law s ev c.disk p good.step).served q (subst (λ (k : Sizes). q < k.nodes) (sym member.config) low) (ap (λ (o : Option LockTable). is_serving o) at ∙ f) in
              let here : t.serving ≡ true = subst (λ (o : Option LockTable). IfSome o (λ (x : LockTable). x.serving ≡ true)) there still in
              let bad : true ≡ false = sym here ∙ serves in cc
              )

          by : (o : Option LockTable) → table_at s q ≡ o → IfSome o (λ (x : LockTable). x.serving ≡ false)
          by None at = tt
          by (Some x) at = of x x.serving refl at

  -- ---- all nodes
  module _ (birth : ℕ) (k : KnownBirth c q birth) where
    -- what is kept of a node
    record Knows (s : NodeState) : Type 0 where
      upto : era_at c q birth ≤ era_at c q s.epoch
      made : s.epoch ≤ (last_view c).epoch
      served : (t : LockTable) → table_at s q ≡ Some t → t.serving ≡ true → birth ≤ s.epoch
      rebuilt : (t : LockTable) → table_at s q ≡ Some t → t.serving ≡ false → birth < era_in s.view q

    none_there : (m : ℕ) (t : LockTable) → slice_index_or (replicate m None) q None ≡ Some t → ⊥
    none_there m t at =
        let is : IfSome (slice_index_or (replicate m None) q None) (λ (x : LockTable). ⊥) = look_same (λ (o : Option LockTable). IfSome o (λ (x : LockTable). ⊥)) m q None None tt tt in
        subst (λ (o : Option LockTable). IfSome o (λ (x : LockTable). ⊥)) at is

    starts : (n : ℕ) → Knows (start_node c.config n (last_view c).epoch)
    unfolding start_node
    starts n =
        record {
          upto = eras_never_fall_law c q birth (last_view c).epoch i k.made (omega arith);
          made = omega arith;
          served = λ t at serves. absurd (none_there c.config.nodes t at);
          rebuilt = λ t at serves. absurd (none_there c.config.nodes t at);
        }

    knows_all : (n : ℕ) → IfSome (node_at (step c e) n) Knows
    knows_all n = by (nodes_step_law c e n i)
      where
        here : (o : Option NodeState) → node_at c n ≡ o → IfSome o Knows
        here None up = tt
        here (Some s) up =
            record {
              upto = k.reached n s up;
              made = (member_of c i q n s up).reached;
              served = λ t at serves. k.served n s t up at serves;
              rebuilt = λ t at serves. k.rebuilt n s t up at serves;
            }

        by : IsNodeStep c e n (node_at (step c e) n) → IfSome (node_at (step c e) n) Knows
        by (node_stays now) = subst (λ (o : Option NodeState). IfSome o Knows) (sym now) (here (node_at c n) refl)
        by (node_acts s ev p planned now) =
            subst (λ (o : Option NodeState). IfSome o Knows) (sym now)
            (record {
              upto = upto_then n s ev p planned birth k;
              made = (plans_are_good_law c e n s ev p i planned.handed planned.goes).member.reached;
              served = λ t at serves. served_then n s ev p planned birth k t at;
              rebuilt = λ t at serves. rebuilt_then n s ev p planned birth k t at serves;
            })
        by (node_lost now) = subst (λ (o : Option NodeState). IfSome o Knows) (sym now) tt
        by (node_starts now down) = subst (λ (o : Option NodeState). IfSome o Knows) (sym now) (starts n)

    knows : (n : ℕ) (s : NodeState) → node_at (step c e) n ≡ Some s → Knows s
    knows n s up = subst (λ (o : Option NodeState). IfSome o Knows) up (knows_all n)

    stays_known : KnownBirth (step c e) q birth
    stays_known =
        record {
          made = (let le = k.made in let more = (steps_keep_made_law c e i).last in omega (arith, le, more));
          reached = λ n s up.
              let is = knows n s up in
              let upto = is.upto in
              let one = eras birth k.made in
              let two = eras s.epoch is.made in
              omega (arith, upto, one, two);
          served = λ n s t up at serves. (knows n s up).served t at serves;
          rebuilt = λ n s t up at serves. (knows n s up).rebuilt t at serves;
        }

pub known_stays_law : KnownStays
known_stays_law c e q birth i low k = stays_known c e i q low birth k
