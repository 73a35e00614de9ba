-- What is known of a message of a page that counts.
use Rattle.std.proofs.Common.{◌≡◌, ◌⊎◌, inl, inr, refl, ℕ, ◌<◌, ◌≤◌, cond, Bool, true, false, List, [], ◌∷◌, Option, Some, None, arith, ltb-true}
use Rattle.std.specs.List.{AllByRecursion, filter}
use Rattle.pcl_base.specs.declared.message.Message.{Message}
use Rattle.run_rules.specs.Views.{View, since_of}
use Rattle.node_rules.specs.NodeState.{NodeState, partition}
use Rattle.rule_laws.proofs.Turns.{and_right}
use Rattle.cluster_rules.specs.Clusters.{Cluster, node_at, last_view}
use Rattle.cluster_rules.specs.Links.{link_at}
use Rattle.cluster_laws.specs.Sound.{IsOnLink, IsMember, IsCluster}
use Rattle.cluster_laws.proofs.Steps.{up_is_member_law}
use Rattle.cluster_laws.specs.Era.Counts.{counts_at, counts_in}
use Rattle.cluster_laws.specs.Era.Eras.{era_at}
use Rattle.cluster_laws.proofs.EraParts.Ages.{eras_never_fall_law}
use Rattle.cluster_laws.proofs.EraParts.Counted.{counting_is_of_view_law}
use Rattle.cluster_laws.proofs.EraParts.Lives.{stands, members_know_eras_law}
use Rattle.cluster_laws.proofs.EraParts.Nexts.{order}
use Rattle.cluster_laws.specs.Link.Coming.{speaks_of, is_coming, coming}
use Rattle.page_relation.specs.Tables.{ReachedBy, ReachedIn}

-- what holds of all items that pass a test
pub all_passing : {X : Type 0} (P Q : X → Type 0) (test : X → Bool) → ((x : X) → P x → test x ≡ true → Q x) → (xs : List X) → AllByRecursion P xs → AllByRecursion Q (filter test xs)
all_passing P Q test f [] all = tt
all_passing P Q test f (x ∷ xs) all = by (test x) refl (all_passing P Q test f xs all.1)
  where
    by : (b : Bool) → test x ≡ b → AllByRecursion Q (filter test xs) → AllByRecursion Q (cond b (x ∷ filter test xs) (filter test xs))
    by true e rest = (f x all.0 e, rest)
    by false e rest = rest

-- a message that counts is of no earlier era than the one that serves
counting_era : (c : Cluster) (q era y x r epoch : ℕ) → IsCluster c → ReachedIn c q era (node_at c y) r → epoch ≤ (last_view c).epoch → counts_in (node_at c y) x q epoch ≡ true → era ≤ era_at c q epoch
counting_era c q era y x r epoch i reached high counts = up (node_at c y) refl reached counts
  where
    member : (s : NodeState) → node_at c y ≡ Some s → IsMember c.config c.views y s
    member s at = (up_is_member_law c y s i at).1

    in_view : (s : NodeState) (v : View) → node_at c y ≡ Some s → s.view ≡ Some v → era ≤ since_of v q → counts_at s (Some v) x q epoch ≡ true → era ≤ era_at c q epoch
    in_view s v at own le counted = by (order v.epoch epoch)
      where
        by : (v.epoch < epoch) ⊎ (epoch ≤ v.epoch) → era ≤ era_at c q epoch
        by (inl later) =
            let known = (members_know_eras_law c y s v (member s at) own).eras q in
            let same = (stands c y s v (member s at) own).epoch in
            let rise = eras_never_fall_law c q s.epoch epoch i (omega (arith, same, later)) high in
            omega (arith, known, rise, le)
        by (inr upto) = let era = (counting_is_of_view_law c y s v x q epoch i at own counted upto).era in omega (arith, era, le)

    of : (s : NodeState) → node_at c y ≡ Some s → (o : Option View) → s.view ≡ o → ReachedBy c q era s o r → counts_at s o x q epoch ≡ true → era ≤ era_at c q epoch
    of s at None own bound counted =
        let less = ltb-true s.epoch epoch counted in
        let low = bound.1 in
        let rise = eras_never_fall_law c q s.epoch epoch i (omega (arith, less)) high in
        omega (arith, low, rise)
    of s at (Some v) own bound counted = let same = bound.0 in let low = bound.1 in in_view s v at own (omega (arith, same, low)) counted

    up : (o : Option NodeState) → node_at c y ≡ o → ReachedIn c q era o r → counts_in o x q epoch ≡ true → era ≤ era_at c q epoch
    up None at bound counted = absurd (cc)
    up (Some s) at bound counted = of s at s.view refl bound counted

-- each message of a page that comes
pub coming_eras : (c : Cluster) (p era x y r : ℕ) → IsCluster c → ReachedIn c (partition c.config p) era (node_at c y) r
    → AllByRecursion (λ (m : Message). (m.epoch ≤ (last_view c).epoch) × (era ≤ era_at c (partition c.config p) m.epoch)) (coming c p x y)
unfolding coming
coming_eras c p era x y r i reached =
    all_passing (IsOnLink c.config (last_view c).epoch x y) (λ (m : Message). (m.epoch ≤ (last_view c).epoch) × (era ≤ era_at c (partition c.config p) m.epoch)) (is_coming c.config p x (node_at c y))
    (λ m on test. (
      on.epoch,
      counting_era c (partition c.config p) era y x r m.epoch i reached on.epoch (and_right (speaks_of c.config p m.body) (counts_in (node_at c y) x (partition c.config p) m.epoch) test),
    ))
    (link_at c.links x y) (i.links.messages x y)

-- two facts of all items
pub both_all : {X : Type 0} (P Q : X → Type 0) (xs : List X) → AllByRecursion P xs → AllByRecursion Q xs → AllByRecursion (λ x. P x × Q x) xs
both_all P Q [] a b = tt
both_all P Q (x ∷ xs) a b = ((a.0, b.0), both_all P Q xs a.1 b.1)
