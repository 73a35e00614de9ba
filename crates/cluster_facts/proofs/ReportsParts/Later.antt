-- The view that a node installs is later than the node, and leaves the eras of partitions that go on.
use Rattle.std.proofs.Common.{◌≡◌, refl, sym, subst, ℕ, ◌+◌, ◌<◌, ◌==◌, ◌&&◌, nat_lt, Bool, true, false, Option, Some, None, arith}
use Rattle.std.specs.Prelude.{IfSome}
use Rattle.std.specs.List.{list_all}
use Rattle.std.proofs.lemmas.Bool.Decides.{nat_tests}
use Rattle.run_rules.specs.Views.{View, born_of, since_of, owner_of, count_from}
use Rattle.node_rules.specs.NodeState.{NodeState, number_of}
use Rattle.node_rules.specs.Refusals.{owns_new, may_install}
use Rattle.node_rules.specs.Words.{pick}
use Rattle.home_laws.proofs.Tests.{and_left, and_right}
use Rattle.node_laws.specs.Nodes.{IsViewOf, IsSound}
use Rattle.node_laws.proofs.Views.{moved_of}
use Rattle.cluster_laws.proofs.EraParts.Nexts.{follows_epoch}

module _ (n : NodeState) (sound : IsSound n) where
  pub is_view : (v : View) → n.view ≡ Some v → IsViewOf n v
  is_view v there = subst (λ (o : Option View). IfSome o (IsViewOf n)) there sound.view

  module _ (v : View) (may : may_install n n.view v ≡ true) where
    -- a node in no view begins its life with it
    pub begins : n.view ≡ None → born_of v (number_of n) ≡ v.epoch
    begins none =
        let m = subst (λ (o : Option View). may_install n o v ≡ true) none may in
        let front = and_left (born_of v (number_of n) == v.epoch && nat_lt n.epoch v.epoch) (list_all (owns_new v (number_of n)) (count_from 0 n.home.config.nodes)) m in
        let born = and_left (born_of v (number_of n) == v.epoch) (nat_lt n.epoch v.epoch) front in
        grind (arith, nat_tests, born)

    -- it is the next one
    pub follows_next : (u : View) → n.view ≡ Some u → v.epoch ≡ n.epoch + 1
    follows_next u there =
        let m = subst (λ (o : Option View). may_install n o v ≡ true) there may in
        let next = follows_epoch n.home.config u v m in
        let at = (is_view u there).epoch in
        omega (arith, next, at)

    pub install_later : n.epoch < v.epoch
    install_later = by n.view refl
      where
        by : (o : Option View) → n.view ≡ o → n.epoch < v.epoch
        by None none =
            let m = subst (λ (o : Option View). may_install n o v ≡ true) none may in
            let front = and_left (born_of v (number_of n) == v.epoch && nat_lt n.epoch v.epoch) (list_all (owns_new v (number_of n)) (count_from 0 n.home.config.nodes)) m in
            let later = and_right (born_of v (number_of n) == v.epoch) (nat_lt n.epoch v.epoch) front in
            grind (arith, nat_tests, later)
        by (Some u) there = let next = follows_next u there in omega (arith, next)

    -- a partition that goes on has its era
    pub goes_on_era : (u : View) (q : ℕ) → n.view ≡ Some u → q < n.home.config.nodes → (since_of v q == v.epoch) ≡ false → since_of v q ≡ since_of u q
    goes_on_era u q there low old =
        let of : IsViewOf n u = is_view u there in
        let moved = moved_of n.home.config u v of.whole (subst (λ (o : Option View). may_install n o v ≡ true) there may) in
        by (owner_of u q == owner_of v q) (moved.since q (subst (λ (k : ℕ). q < k) (sym of.whole.since) low))
      where
        by : (b : Bool) → since_of v q ≡ pick b (since_of u q) v.epoch → since_of v q ≡ since_of u q
        by true is = is
        by false is = absurd (grind (arith, nat_tests, is, old))
