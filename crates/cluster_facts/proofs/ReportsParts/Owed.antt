-- A report that is owed in an epoch is owed in each earlier one of the era.
use Rattle.std.proofs.Common.{◌≡◌, ◌⊎◌, inl, inr, refl, sym, ap, subst, ◌∙◌, ℕ, ◌+◌, ◌<◌, ◌≤◌, not, nat_lt, true, Option, Some, None, arith}
use Rattle.std.proofs.lemmas.Bool.Decides.{nat_tests}
use Rattle.pcl_base.specs.declared.lock.Verdict.{Verdict}
use Rattle.pcl_base.specs.declared.lock.Verdict.TheVariants as verdict
use Rattle.run_rules.specs.Views.{View, is_live, since_of, born_of}
use Rattle.rule_laws.specs.LaterViews.{IsBetween}
use Rattle.rule_laws.proofs.Successors.{taken_is_between_law, held_is_ahead_law}
use Rattle.node_rules.specs.Judging.{judge}
use Rattle.node_rules.specs.NodeState.{NodeState, number_of}
use Rattle.cluster_rules.specs.Clusters.{Cluster, node_at}
use Rattle.cluster_laws.specs.Sound.{IsMember, IsCluster}
use Rattle.cluster_laws.proofs.Steps.{up_is_member_law}
use Rattle.cluster_laws.specs.Era.Counts.{is_dropped, counts_at, counts_in}
use Rattle.cluster_laws.specs.Era.CountLaws.{IsOfView}
use Rattle.cluster_laws.specs.Era.EraLaws.{KnowsEras}
use Rattle.cluster_laws.specs.Era.Eras.{era_at, born_at, life_of, life_in}
use Rattle.cluster_laws.proofs.EraParts.Ages.{births_never_fall_law, eras_go_on_law, eras_have_one_owner_law, owners_were_born_law}
use Rattle.cluster_laws.proofs.EraParts.Counted.{counting_is_of_view_law}
use Rattle.cluster_laws.proofs.EraParts.Lives.{Stands, stands, members_know_eras_law, lives_go_on_law, up_nodes_live_law}
use Rattle.cluster_laws.proofs.EraParts.Nexts.{order}
use Rattle.cluster_facts.specs.Reports.Reported.{IsOwed}

-- what the owner's view has of an era, and of the two nodes
pub record IsOver (c : Cluster) (v : View) (a b q era : ℕ) : Type 0 where
  pub since : since_of v q ≡ era
  pub live : is_live v.live a ≡ true
  pub sender : born_of v a ≤ era
  pub receiver : born_of v b ≤ era

module _ (c : Cluster) (i : IsCluster c) (a b q k : ℕ) (owed : IsOwed c a b q k) where
  abbrev era : ℕ
  era = era_at c q k

  -- the owner was born by the era
  owner_born : born_at c b k ≤ era
  owner_born = subst (λ (n : ℕ). born_at c n k ≤ era) owed.owner (owners_were_born_law c q k i owed.low)

  judged : (v : View) (me : ℕ) (x : Verdict) → judge v me a k q ≡ x → not (is_dropped x) ≡ true → k ≤ v.epoch → judge v me a k q ≡ verdict.Taken
  judged v me verdict.Taken e counts low = e
  judged v me verdict.Held e counts low = let ahead = (held_is_ahead_law v me a k q).0 e in absurd (omega (arith, ahead, low))
  judged v me verdict.Dropped e counts low = absurd (cc)

  -- where the receiver's view is of the era
  pub owed_view : (s : NodeState) (v : View) → node_at c b ≡ Some s → s.view ≡ Some v → era ≤ v.epoch → IsOver c v a b q era
  owed_view s v up there low = by (order v.epoch k)
    where
      member : IsMember c.config c.views b s
      member = (up_is_member_law c b s i up).1

      at : Stands c b s v
      at = stands c b s v member there

      knows : KnowsEras c b s v
      knows = members_know_eras_law c b s v member there

      counts : counts_at s (Some v) a q k ≡ true
      counts =
          subst (λ (o : Option View). counts_at s o a q k ≡ true) there (subst (λ (o : Option NodeState). counts_in o a q k ≡ true) up owed.counts)

      by : (v.epoch < k) ⊎ (k ≤ v.epoch) → IsOver c v a b q era
      by (inr upto) =
          let is : IsOfView c v b a q k = counting_is_of_view_law c b s v a q k i up there counts upto in
          let between : IsBetween v (number_of s) a k q = (taken_is_between_law v (number_of s) a k q).0 (judged v (number_of s) (judge v (number_of s) a k q) refl counts upto) in
          record {
            since = sym is.era;
            live = between.sender;
            sender = subst (λ (x : ℕ). x ≤ era) is.sender.born owed.born;
            receiver = subst (λ (x : ℕ). x ≤ era) is.receiver.born owner_born;
          }
      by (inl before) =
          let epoch : v.epoch ≡ s.epoch = at.epoch in
          let born : born_at c a k ≤ era = owed.born in
          let then : s.epoch ≤ k = omega (arith, before, epoch) in
          let lives = lives_go_on_law c a k s.epoch i owed.live (omega (arith, born, low, epoch)) then in
          let falls = births_never_fall_law c b s.epoch k i then owed.made in
          let was = owner_born in
          record {
            since = sym (knows.eras q) ∙ eras_go_on_law c q k s.epoch i owed.made (omega (arith, low, epoch)) then;
            live = sym (knows.lives a) ∙ lives.live;
            sender = subst (λ (x : ℕ). x ≤ era) (sym lives.born ∙ knows.births a) born;
            receiver = subst (λ (x : ℕ). x ≤ era) (knows.births b) (omega (arith, falls, was));
          }

  module _ (j : ℕ) (low : era ≤ j) (upto : j ≤ k) where
    still_counts : counts_in (node_at c b) a q j ≡ true
    still_counts = by (node_at c b) refl owed.counts
      where
        unseen : (s : NodeState) → node_at c b ≡ Some s → s.view ≡ None → s.epoch < k → nat_lt s.epoch j ≡ true
        unseen s up none ahead = of (order s.epoch j)
          where
            of : (s.epoch < j) ⊎ (j ≤ s.epoch) → nat_lt s.epoch j ≡ true
            of (inl l) = grind (arith, nat_tests, l)
            of (inr l) =
                let life : life_of s ≡ s.epoch + 1 = ap (life_in s) none in
                let lives = up_nodes_live_law c b s k i up (omega (arith, life, ahead)) owed.made in
                let born = lives.born in
                let was = owner_born in
                absurd (omega (arith, l, life, born, was, low))

        viewed : (s : NodeState) (v : View) → node_at c b ≡ Some s → s.view ≡ Some v → not (is_dropped (judge v (number_of s) a j q)) ≡ true
        viewed s v up there = of (order v.epoch j)
          where
            number : number_of s ≡ b
            number = (up_is_member_law c b s i up).1.number

            of : (v.epoch < j) ⊎ (j ≤ v.epoch) → not (is_dropped (judge v (number_of s) a j q)) ≡ true
            of (inl l) = ap (λ (x : Verdict). not (is_dropped x)) ((held_is_ahead_law v (number_of s) a j q).1 l)
            of (inr l) =
                let over : IsOver c v a b q era = owed_view s v up there (omega (arith, low, l)) in
                let since = over.since in
                let sender = over.sender in
                let receiver : born_of v (number_of s) ≤ era = subst (λ (n : ℕ). born_of v n ≤ era) (sym number) over.receiver in
                ap (λ (x : Verdict). not (is_dropped x))
                ((taken_is_between_law v (number_of s) a j q).1
                (record { sender = over.live; sent = omega (arith, sender, low); received = omega (arith, receiver, low); owned = omega (arith, since, low); reached = l }))

        by : (o : Option NodeState) → node_at c b ≡ o → counts_in o a q k ≡ true → counts_in o a q j ≡ true
        by None up counts = absurd (cc)
        by (Some s) up counts = seen s.view refl counts
          where
            seen : (o : Option View) → s.view ≡ o → counts_at s o a q k ≡ true → counts_at s o a q j ≡ true
            seen None none counts = unseen s up none (grind (arith, nat_tests, counts))
            seen (Some v) there counts = viewed s v up there

    pub era_before : era_at c q j ≡ era
    era_before = eras_go_on_law c q k j i owed.made low upto

    pub owed_before : IsOwed c a b q j
    owed_before =
        let born = owed.born in
        let lives = lives_go_on_law c a k j i owed.live (omega (arith, born, low)) upto in
        let made = owed.made in
        let same = era_before in
        let was = lives.born in
        record {
          other = owed.other;
          low = owed.low;
          made = omega (arith, made, upto);
          live = lives.live;
          born = omega (arith, same, was, born);
          owner = eras_have_one_owner_law c q j k i same ∙ owed.owner;
          counts = still_counts;
        }
