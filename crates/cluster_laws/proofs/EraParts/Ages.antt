-- Eras and births by their epochs.
use Rattle.std.proofs.Common.{◌≡◌, ◌⊎◌, inl, inr, refl, ap, sym, subst, ◌∙◌, ℕ, zero, suc, ◌<◌, ◌≤◌, true, false, List, [], ◌∷◌, length, slice_index, Option, Some, None, arith}
use Rattle.pcl_base.specs.Limits.{Sizes}
use Rattle.run_rules.specs.Views.{View, is_live, first, owner_of, since_of, born_of}
use Rattle.rule_laws.specs.LaterViews.{IsWhole}
use Rattle.rule_laws.proofs.Successors.{never_falls_law, first_is_whole_law}
use Rattle.node_rules.specs.NodeState.{owner_in}
use Rattle.cluster_rules.specs.Clusters.{Cluster, view_of_epoch}
use Rattle.cluster_laws.specs.Sound.{IsCluster}
use Rattle.cluster_laws.specs.Era.Eras.{era_in, born_in, live_in, era_at, owner_at, born_at, live_at}
use Rattle.cluster_laws.specs.Era.EraLaws.{HasView, IsOwnedOn, StepsKeepEras, ErasNeverFall, BirthsNeverFall, ErasAreReached, BirthsAreReached, ErasHaveOneOwner, ErasGoOn, OwnersAreLive, OwnersWereBorn}
use Rattle.cluster_laws.proofs.EraParts.Nexts.{order}
use Rattle.cluster_laws.proofs.EraParts.Epochs.{Next, by_epochs, found, low_of, first_at, one_view, epochs_have_views_law, steps_keep_made_law, later_epochs_law}

-- past its end a list has nothing
past_end : (xs : List ℕ) (q : ℕ) → length xs ≤ q → slice_index xs q ≡ 0
past_end [] q l = refl
past_end (x ∷ xs) zero l = absurd (omega arith)
past_end (x ∷ xs) (suc q) l = past_end xs q (omega arith)

module _ (c : Cluster) (e : ℕ) (v : View) (at : view_of_epoch c.views e ≡ Some v) where
  pub era_is : (q : ℕ) → era_at c q e ≡ since_of v q
  unfolding era_at
  era_is q = ap (λ (o : Option View). era_in o q) at

  pub owner_is : (q : ℕ) → owner_at c q e ≡ owner_of v q
  unfolding owner_at
  owner_is q = ap (λ (o : Option View). owner_in o q) at

  pub born_is : (n : ℕ) → born_at c n e ≡ born_of v n
  unfolding born_at
  born_is n = ap (λ (o : Option View). born_in o n) at

  pub live_is : (n : ℕ) → live_at c n e ≡ is_live v.live n
  unfolding live_at
  live_is n = ap (λ (o : Option View). live_in o n) at

pub steps_keep_eras_law : StepsKeepEras
unfolding era_at owner_at born_at live_at
steps_keep_eras_law c e k i le =
    let same = (steps_keep_made_law c e i).made k le in
    record {
      eras = λ q. ap (λ (o : Option View). era_in o q) same;
      owners = λ q. ap (λ (o : Option View). owner_in o q) same;
      births = λ n. ap (λ (o : Option View). born_in o n) same;
      lives = λ n. ap (λ (o : Option View). live_in o n) same;
    }

module _ (c : Cluster) (e : ℕ) (at : view_of_epoch c.views e ≡ None) where
  era_none : (q : ℕ) → era_at c q e ≡ 0
  unfolding era_at
  era_none q = ap (λ (o : Option View). era_in o q) at

  owner_none : (q : ℕ) → owner_at c q e ≡ 0
  unfolding owner_at
  owner_none q = ap (λ (o : Option View). owner_in o q) at

  pub born_none : (n : ℕ) → born_at c n e ≡ 0
  unfolding born_at
  born_none n = ap (λ (o : Option View). born_in o n) at

  pub live_none : (n : ℕ) → live_at c n e ≡ false
  unfolding live_at
  live_none n = ap (λ (o : Option View). live_in o n) at

-- an epoch has a view or none
pub seen : (c : Cluster) (e : ℕ) → IsCluster c → HasView c e ⊎ (view_of_epoch c.views e ≡ None)
seen c e i = by (view_of_epoch c.views e) refl
  where
    by : (o : Option View) → view_of_epoch c.views e ≡ o → HasView c e ⊎ (view_of_epoch c.views e ≡ None)
    by None at = inr at
    by (Some v) at = inl (found c e v i at)

pub eras_never_fall_law : ErasNeverFall
eras_never_fall_law c q e k i le high = by (seen c e i)
  where
    by : HasView c e ⊎ (view_of_epoch c.views e ≡ None) → era_at c q e ≤ era_at c q k
    by (inr none) = let is = era_none c e none q in omega (arith, is)
    by (inl h) =
        let low = (low_of c e h.view i h.there).0 in
        let g = epochs_have_views_law c k i (omega (arith, low, le)) high in
        let up = (never_falls_law c.config h.view g.view h.whole (later_epochs_law c e k h.view g.view i le h.there g.there)).since q in
        let one = era_is c e h.view h.there q in
        let two = era_is c k g.view g.there q in
        omega (arith, up, one, two)

pub births_never_fall_law : BirthsNeverFall
births_never_fall_law c n e k i le high = by (seen c e i)
  where
    by : HasView c e ⊎ (view_of_epoch c.views e ≡ None) → born_at c n e ≤ born_at c n k
    by (inr none) = let is = born_none c e none n in omega (arith, is)
    by (inl h) =
        let low = (low_of c e h.view i h.there).0 in
        let g = epochs_have_views_law c k i (omega (arith, low, le)) high in
        let up = (never_falls_law c.config h.view g.view h.whole (later_epochs_law c e k h.view g.view i le h.there g.there)).born n in
        let one = born_is c e h.view h.there n in
        let two = born_is c k g.view g.there n in
        omega (arith, up, one, two)

-- what a view says of a partition, and of one that isn't there
pub since_upto : (c : Sizes) (v : View) (q : ℕ) → IsWhole c v → since_of v q ≤ v.epoch
since_upto c v q i = by (order q c.nodes)
  where
    by : (q < c.nodes) ⊎ (c.nodes ≤ q) → since_of v q ≤ v.epoch
    by (inl low) = i.since_upto q low
    by (inr past) = let long = i.since in let none = past_end v.since q (omega (arith, long, past)) in omega (arith, none)

pub born_upto : (c : Sizes) (v : View) (n : ℕ) → IsWhole c v → born_of v n ≤ v.epoch
born_upto c v n i = by (order n c.nodes)
  where
    by : (n < c.nodes) ⊎ (c.nodes ≤ n) → born_of v n ≤ v.epoch
    by (inl low) = i.born_upto n low
    by (inr past) = let long = i.born in let none = past_end v.born n (omega (arith, long, past)) in omega (arith, none)

owner_past : (c : Sizes) (v : View) (q : ℕ) → IsWhole c v → c.nodes ≤ q → owner_of v q ≡ 0
owner_past c v q i past = let long = i.owners in past_end v.owners q (omega (arith, long, past))

since_past : (c : Sizes) (v : View) (q : ℕ) → IsWhole c v → c.nodes ≤ q → since_of v q ≡ 0
since_past c v q i past = let long = i.since in past_end v.since q (omega (arith, long, past))

pub eras_are_reached_law : ErasAreReached
eras_are_reached_law c q e i = by (seen c e i)
  where
    by : HasView c e ⊎ (view_of_epoch c.views e ≡ None) → era_at c q e ≤ e
    by (inr none) = let is = era_none c e none q in omega (arith, is)
    by (inl h) =
        let up = since_upto c.config h.view q h.whole in
        let one = era_is c e h.view h.there q in
        let at = h.epoch in
        omega (arith, up, one, at)

pub births_are_reached_law : BirthsAreReached
births_are_reached_law c n e i = by (seen c e i)
  where
    by : HasView c e ⊎ (view_of_epoch c.views e ≡ None) → born_at c n e ≤ e
    by (inr none) = let is = born_none c e none n in omega (arith, is)
    by (inl h) =
        let up = born_upto c.config h.view n h.whole in
        let one = born_is c e h.view h.there n in
        let at = h.epoch in
        omega (arith, up, one, at)

-- between two views of one era the owner is the same
owned_on : (c : Cluster) (q e k : ℕ) (v w : View) → IsCluster c → q < c.config.nodes → e ≤ k → view_of_epoch c.views e ≡ Some v → view_of_epoch c.views k ≡ Some w
    → since_of w q ≤ e → (since_of v q ≡ since_of w q) × (owner_of v q ≡ owner_of w q)
owned_on c q e k v w i low le a b =
    by_epochs c (λ k w. since_of w q ≤ e → (since_of v q ≡ since_of w q) × (owner_of v q ≡ owner_of w q)) e i (low_of c e v i a).0
    (λ u at upto. (let one = one_view c e e v u refl a at in (ap (λ (x : View). since_of x q) one, ap (λ (x : View). owner_of x q) one)))
    (λ j u x from n rest upto. on j u x from n rest upto (n.on.owned q low)) k w b le
  where
    on : (j : ℕ) (u x : View) → e ≤ j → Next c j u x → (since_of u q ≤ e → (since_of v q ≡ since_of u q) × (owner_of v q ≡ owner_of u q)) → since_of x q ≤ e
        → IsOwnedOn u x q ⊎ (since_of x q ≡ x.epoch) → (since_of v q ≡ since_of x q) × (owner_of v q ≡ owner_of x q)
    on j u x from n rest upto (inl o) =
        let era = o.era in
        let r = rest (omega (arith, era, upto)) in
        (r.0 ∙ sym o.era, r.1 ∙ sym o.owner)
    on j u x from n rest upto (inr new) = let at = n.epoch_next in absurd (omega (arith, new, at, from, upto))

pub eras_go_on_law : ErasGoOn
eras_go_on_law c q e k i high from le = by (seen c e i) (seen c k i) (order q c.config.nodes)
  where
    by : HasView c e ⊎ (view_of_epoch c.views e ≡ None) → HasView c k ⊎ (view_of_epoch c.views k ≡ None) → (q < c.config.nodes) ⊎ (c.config.nodes ≤ q)
        → era_at c q k ≡ era_at c q e
    by (inl h) (inl g) (inl low) =
        let one = era_is c e h.view h.there q in
        let two = era_is c k g.view g.there q in
        let on = (owned_on c q k e g.view h.view i low le g.there h.there (omega (arith, one, from))).0 in
        two ∙ on ∙ sym one
    by (inl h) (inl g) (inr past) =
        let one = era_is c e h.view h.there q in
        let two = era_is c k g.view g.there q in
        two ∙ since_past c.config g.view q g.whole past ∙ sym (since_past c.config h.view q h.whole past) ∙ sym one
    by (inl h) (inr none) (inl low) =
        let one = era_is c e h.view h.there q in
        let some = h.whole.since_from q low in
        let g = epochs_have_views_law c k i (omega (arith, one, some, from)) (omega (arith, le, high)) in
        let bad : None ≡ Some g.view = sym none ∙ g.there in
        absurd (cc)
    by (inl h) (inr none) (inr past) =
        let one = era_is c e h.view h.there q in
        era_none c k none q ∙ sym (since_past c.config h.view q h.whole past) ∙ sym one
    by (inr none) (inl g) any =
        let low = (low_of c k g.view i g.there).0 in
        let h = epochs_have_views_law c e i (omega (arith, low, le)) high in
        let bad : None ≡ Some h.view = sym none ∙ h.there in
        absurd (cc)
    by (inr none) (inr any) b = era_none c k any q ∙ sym (era_none c e none q)

one_owner : (c : Cluster) (q e k : ℕ) (h : HasView c e) (g : HasView c k) → IsCluster c → e ≤ k → era_at c q e ≡ era_at c q k → owner_at c q e ≡ owner_at c q k
one_owner c q e k h g i le era =
    owner_is c e h.view h.there q ∙ by (order q c.config.nodes) ∙ sym (owner_is c k g.view g.there q)
  where
    by : (q < c.config.nodes) ⊎ (c.config.nodes ≤ q) → owner_of h.view q ≡ owner_of g.view q
    by (inl low) =
        let one = era_is c e h.view h.there q in
        let two = era_is c k g.view g.there q in
        let up = since_upto c.config h.view q h.whole in
        let at = h.epoch in
        (owned_on c q e k h.view g.view i low le h.there g.there (omega (arith, one, two, era, up, at))).1
    by (inr past) = owner_past c.config h.view q h.whole past ∙ sym (owner_past c.config g.view q g.whole past)

pub eras_have_one_owner_law : ErasHaveOneOwner
eras_have_one_owner_law c q e k i era = by (seen c e i) (seen c k i)
  where
    two : (h : HasView c e) (g : HasView c k) → (e < k) ⊎ (k ≤ e) → owner_at c q e ≡ owner_at c q k
    two h g (inl less) = one_owner c q e k h g i (omega (arith, less)) era
    two h g (inr le) = sym (one_owner c q k e g h i le (sym era))

    past : (j : ℕ) (h : HasView c j) → era_at c q j ≡ 0 → owner_at c q j ≡ 0
    past j h none = owner_is c j h.view h.there q ∙ of (order q c.config.nodes)
      where
        of : (q < c.config.nodes) ⊎ (c.config.nodes ≤ q) → owner_of h.view q ≡ 0
        of (inl low) =
            let one = era_is c j h.view h.there q in
            let some = h.whole.since_from q low in
            absurd (omega (arith, one, some, none))
        of (inr out) = owner_past c.config h.view q h.whole out

    by : HasView c e ⊎ (view_of_epoch c.views e ≡ None) → HasView c k ⊎ (view_of_epoch c.views k ≡ None) → owner_at c q e ≡ owner_at c q k
    by (inl h) (inl g) = two h g (order e k)
    by (inl h) (inr none) = past e h (era ∙ era_none c k none q) ∙ sym (owner_none c k none q)
    by (inr none) (inl g) = owner_none c e none q ∙ sym (past k g (sym era ∙ era_none c e none q))
    by (inr none) (inr any) = owner_none c e none q ∙ sym (owner_none c k any q)

pub owners_are_live_law : OwnersAreLive
owners_are_live_law c q e i low from high =
    let h = epochs_have_views_law c e i from high in
    live_is c e h.view h.there (owner_at c q e)
    ∙ subst (λ (n : ℕ). is_live h.view.live n ≡ true) (sym (owner_is c e h.view h.there q)) (h.whole.owner_live q low)

owner_born : (c : Cluster) (q e : ℕ) (w : View) → IsCluster c → q < c.config.nodes → view_of_epoch c.views e ≡ Some w → 1 ≤ e → born_of w (owner_of w q) ≤ since_of w q
owner_born c q e w i low at from =
    by_epochs c (λ k w. born_of w (owner_of w q) ≤ since_of w q) 1 i (omega arith)
    (λ u here. subst (λ (x : View). born_of x (owner_of x q) ≤ since_of x q) (sym (first_at c u i here)) opened)
    (λ j u x any n rest. on j u x n rest (n.on.owned q low)) e w at from
  where
    opened : born_of (first c.config) (owner_of (first c.config) q) ≤ since_of (first c.config) q
    opened =
        let whole = first_is_whole_law c.config in
        let born = whole.born_upto (owner_of (first c.config) q) (whole.owner_known q low) in
        let since = whole.since_from q low in
        omega (arith, born, since)

    on : (j : ℕ) (u x : View) → Next c j u x → born_of u (owner_of u q) ≤ since_of u q → IsOwnedOn u x q ⊎ (since_of x q ≡ x.epoch) → born_of x (owner_of x q) ≤ since_of x q
    on j u x n rest (inl o) =
        let era = o.era in
        let lives = o.lives in
        let owner : born_of u (owner_of x q) ≡ born_of u (owner_of u q) = ap (born_of u) o.owner in
        omega (arith, era, lives, owner, rest)
    on j u x n rest (inr new) = let up = born_upto c.config x (owner_of x q) n.whole_next in omega (arith, new, up)

pub owners_were_born_law : OwnersWereBorn
owners_were_born_law c q e i low = by (seen c e i)
  where
    by : HasView c e ⊎ (view_of_epoch c.views e ≡ None) → born_at c (owner_at c q e) e ≤ era_at c q e
    by (inr none) = let is = born_none c e none (owner_at c q e) in omega (arith, is)
    by (inl h) =
        let born = owner_born c q e h.view i low h.there (low_of c e h.view i h.there).0 in
        let era = era_is c e h.view h.there q in
        let is = born_is c e h.view h.there (owner_at c q e) in
        let own : born_of h.view (owner_at c q e) ≡ born_of h.view (owner_of h.view q) = ap (born_of h.view) (owner_is c e h.view h.there q) in
        omega (arith, born, era, is, own)
