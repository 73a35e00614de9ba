-- The lives of nodes.
use Rattle.std.proofs.Common.{◌≡◌, ◌⊎◌, inl, inr, refl, sym, subst, ◌∙◌, ℕ, zero, suc, ◌+◌, ◌<◌, ◌≤◌, ◌==◌, ◌&&◌, nat_lt, Bool, true, false, List, [], ◌∷◌, length, Option, Some, None, is_some, arith, eqb-true}
use Rattle.std.specs.Prelude.{IfSome}
use Rattle.std.specs.List.{slice_get, list_all}
use Rattle.pcl_base.specs.Limits.{Sizes}
use Rattle.run_rules.specs.Views.{View, is_live, follows, born_of, count_from}
use Rattle.node_rules.specs.Words.{pick}
use Rattle.node_rules.specs.NodeState.{NodeState, number_of}
use Rattle.node_rules.specs.Refusals.{owns_new}
use Rattle.node_laws.specs.Nodes.{IsViewOf}
use Rattle.rule_laws.specs.LaterViews.{IsWhole}
use Rattle.rule_laws.proofs.Turns.{and_left}
use Rattle.cluster_rules.specs.Clusters.{Cluster, view_of_epoch}
use Rattle.cluster_laws.specs.Sound.{MoveAfter, MoveFrom, IsMember, MayBeginNext, IsCluster, moves_from}
use Rattle.cluster_laws.proofs.Steps.{up_is_member_law}
use Rattle.cluster_laws.specs.Era.Eras.{born_at, life_in, life_of}
use Rattle.cluster_laws.specs.Era.EraLaws.{HasView, IsLivedOn, IsBorn, Lives, LivesGoOn, MembersKnowEras, UpNodesLive}
use Rattle.cluster_laws.proofs.EraParts.Nexts.{order, follows_born}
use Rattle.cluster_laws.proofs.EraParts.Epochs.{Next, by_epochs, whole_at, epoch_at, low_of, one_view, epochs_have_views_law, placed}
use Rattle.cluster_laws.proofs.EraParts.Ages.{era_is, owner_is, born_is, born_upto, live_is, live_none, seen}

-- a node lives with a birth in a view
pub record LivesIn (v : View) (n b : ℕ) : Type 0 where
  pub live : is_live v.live n ≡ true
  pub born : born_of v n ≡ b

pub lives_at : (c : Cluster) (e : ℕ) (v : View) (n born : ℕ) → view_of_epoch c.views e ≡ Some v → LivesIn v n born → Lives c n born e
lives_at c e v n born at i = record { live = live_is c e v at n ∙ i.live; born = born_is c e v at n ∙ i.born }

-- the view of a node that is up
pub record Stands (c : Cluster) (n : ℕ) (s : NodeState) (v : View) : Type 0 where
  pub there : view_of_epoch c.views s.epoch ≡ Some v
  pub epoch : v.epoch ≡ s.epoch
  pub live : is_live v.live n ≡ true
  pub born : born_of v n ≡ s.home.txs.born
  pub upto : born_of v n ≤ v.epoch

pub stands : (c : Cluster) (n : ℕ) (s : NodeState) (v : View) → IsMember c.config c.views n s → s.view ≡ Some v → Stands c n s v
stands c n s v is own =
    let of : IsViewOf s v = subst (λ (o : Option View). IfSome o (IsViewOf s)) own is.sound.view in
    record {
      there = subst (λ (o : Option View). IfSome o (λ w. view_of_epoch c.views s.epoch ≡ Some w)) own is.view;
      epoch = of.epoch;
      live = subst (λ (k : ℕ). is_live v.live k ≡ true) is.number of.live;
      born = subst (λ (k : ℕ). born_of v k ≡ s.home.txs.born) is.number of.born;
      upto = born_upto s.home.config v n of.whole;
    }

pub members_know_eras_law : MembersKnowEras
members_know_eras_law c n s v is own =
    let at = stands c n s v is own in
    record {
      eras = λ q. era_is c s.epoch v at.there q;
      owners = λ q. owner_is c s.epoch v at.there q;
      births = λ k. born_is c s.epoch v at.there k;
      lives = λ k. live_is c s.epoch v at.there k;
      own = lives_at c s.epoch v n s.home.txs.born at.there (record { live = at.live; born = at.born });
    }

-- a node that is live is one of the cluster's
has_flag : (live : List Bool) (n : ℕ) → is_live live n ≡ true → n < length live
has_flag [] n e = absurd (cc)
has_flag (b ∷ live) zero e = omega arith
has_flag (b ∷ live) (suc n) e = let rest = has_flag live n e in omega (arith, rest)

pub live_known : (c : Sizes) (v : View) (n : ℕ) → IsWhole c v → is_live v.live n ≡ true → n < c.nodes
live_known c v n i live = let low = has_flag v.live n live in let long = i.live in omega (arith, low, long)

-- a live node was so in each view from its birth on
lived_from : (c : Cluster) (n e k : ℕ) (w : View) → IsCluster c → view_of_epoch c.views e ≡ Some w → 1 ≤ e → is_live w.live n ≡ true → born_of w n ≤ k → k ≤ e
    → Lives c n (born_of w n) k
lived_from c n e k w i at from =
    by_epochs c (λ e w. is_live w.live n ≡ true → born_of w n ≤ k → k ≤ e → Lives c n (born_of w n) k) 1 i (omega arith)
    (λ u here live low high. here_at 1 u here live (opened u here live low high))
    (λ j u x any d rest live low high. on j u x d rest live low high (d.on.lived n (live_known c.config x n d.whole_next live)) (order k (suc j))) e w at from
  where
    here_at : (e : ℕ) (w : View) → view_of_epoch c.views e ≡ Some w → is_live w.live n ≡ true → k ≡ e → Lives c n (born_of w n) k
    here_at e w there live alike = subst (Lives c n (born_of w n)) (sym alike) (lives_at c e w n (born_of w n) there (record { live = live; born = refl }))

    opened : (u : View) → view_of_epoch c.views 1 ≡ Some u → is_live u.live n ≡ true → born_of u n ≤ k → k ≤ 1 → k ≡ 1
    opened u here live low high =
        let whole = whole_at c 1 u i here in
        let some = whole.born_from n (live_known c.config u n whole live) in
        omega (arith, some, low, high)

    on : (j : ℕ) (u x : View) → Next c j u x → (is_live u.live n ≡ true → born_of u n ≤ k → k ≤ j → Lives c n (born_of u n) k) → is_live x.live n ≡ true → born_of x n ≤ k → k ≤ suc j
        → IsLivedOn u x n ⊎ IsBorn x n → (k < suc j) ⊎ (suc j ≤ k) → Lives c n (born_of x n) k
    on j u x d rest live low high any (inr ge) = here_at (suc j) x d.there live (omega (arith, high, ge))
    on j u x d rest live low high (inl l) (inl less) =
        let born = l.born in
        subst (λ (b : ℕ). Lives c n b k) (sym l.born) (rest (l.live live) (omega (arith, born, low)) (omega (arith, less)))
    on j u x d rest live low high (inr b) (inl less) =
        let born = b.born in
        let at = d.epoch_next in
        absurd (omega (arith, born, at, low, less))

pub lives_go_on_law : LivesGoOn
lives_go_on_law c n e k i live low high = by (seen c e i)
  where
    by : HasView c e ⊎ (view_of_epoch c.views e ≡ None) → Lives c n (born_at c n e) k
    by (inl h) =
        let is = born_is c e h.view h.there n in
        subst (λ (b : ℕ). Lives c n b k) (sym is)
        (lived_from c n e k h.view i h.there (low_of c e h.view i h.there).0 (sym (live_is c e h.view h.there n) ∙ live) (omega (arith, is, low)) high)
    by (inr none) = let bad : false ≡ true = sym (live_none c e none n) ∙ live in absurd (cc)

-- from the first epoch of which a node knows, each view moves the one before
move_placed : (c : Sizes) (e : ℕ) (u : View) (vs : List View) (k : ℕ) (v w : View) → MoveAfter c e u vs → slice_get (u ∷ vs) k ≡ Some v → slice_get (u ∷ vs) (suc k) ≡ Some w → e ≤ v.epoch → follows c v w ≡ true
move_placed c e u [] k v w m a b le = absurd (cc)
move_placed c e u (x ∷ vs) zero v w m a b le =
    let one : u ≡ v = cc in
    let two : x ≡ w = cc in
    subst (λ (y : View). follows c v y ≡ true) two
    (subst (λ (y : View). follows c y x ≡ true) one (m.0 (subst (λ (y : View). e ≤ y.epoch) (sym one) le)))
move_placed c e u (x ∷ vs) (suc k) v w m a b le = move_placed c e x vs k v w m.1 a b le

move_at : (c : Sizes) (e : ℕ) (vs : List View) (k : ℕ) (v w : View) → MoveFrom c e vs → slice_get vs k ≡ Some v → slice_get vs (suc k) ≡ Some w → e ≤ v.epoch → follows c v w ≡ true
move_at c e [] k v w m a b le = absurd (cc)
move_at c e (u ∷ us) k v w m a b le = move_placed c e u us k v w m a b le

move_next : (c : Cluster) (e k : ℕ) (v w : View) → IsCluster c → MoveFrom c.config e c.views → e ≤ k → Next c k v w → follows c.config v w ≡ true
move_next c e zero v w i m le d = let low = (low_of c zero v i d.here).0 in absurd (omega (arith, low))
move_next c e (suc j) v w i m le d =
    let at = d.epoch in
    move_at c.config e c.views j v w m (sym (placed c j i) ∙ d.here) (sym (placed c (suc j) i) ∙ d.there) (omega (arith, at, le))

-- at the first epoch of which it knows a node lives its life
begun : (c : Cluster) (n : ℕ) (s : NodeState) (u : View) → IsCluster c → IsMember c.config c.views n s → (o : Option View) → s.view ≡ o → view_of_epoch c.views (pick (is_some o) s.epoch (s.epoch + 1)) ≡ Some u
    → LivesIn u n (life_in s o)
begun c n s u i is (Some v) own at =
    let view : view_of_epoch c.views s.epoch ≡ Some v = subst (λ (o : Option View). IfSome o (λ w. view_of_epoch c.views s.epoch ≡ Some w)) own is.view in
    let of : IsViewOf s v = subst (λ (o : Option View). IfSome o (IsViewOf s)) own is.sound.view in
    let alike = one_view c s.epoch s.epoch v u refl view at in
    subst (λ (x : View). LivesIn x n s.home.txs.born) alike
    (record {
      live = subst (λ (k : ℕ). is_live v.live k ≡ true) is.number of.live;
      born = subst (λ (k : ℕ). born_of v k ≡ s.home.txs.born) is.number of.born;
    })
begun c n s u i is None own at =
    let b : MayBeginNext c.views s = is.begins own in
    let alike = one_view c (s.epoch + 1) (s.epoch + 1) b.next u refl b.there at in
    let epoch = epoch_at c (s.epoch + 1) b.next i b.there in
    let first = eqb-true (born_of b.next (number_of s)) b.next.epoch
    (and_left (born_of b.next (number_of s) == b.next.epoch) (nat_lt s.epoch b.next.epoch) (and_left (born_of b.next (number_of s) == b.next.epoch && nat_lt s.epoch b.next.epoch) (list_all (owns_new b.next (number_of s)) (count_from 0 s.home.config.nodes)) b.allowed)) in
    subst (λ (x : View). LivesIn x n (s.epoch + 1)) alike
    (record {
      live = subst (λ (o : Option View). IfSome o (λ w. is_live w.live n ≡ true)) b.there (is.kept (s.epoch + 1) (omega arith));
      born = subst (λ (k : ℕ). born_of b.next k ≡ s.epoch + 1) is.number (first ∙ epoch);
    })

up_lives : (c : Cluster) (n : ℕ) (s : NodeState) → IsCluster c → IsMember c.config c.views n s → n < c.config.nodes → (e : ℕ) (w : View) → view_of_epoch c.views e ≡ Some w → moves_from s ≤ e
    → LivesIn w n (life_of s)
up_lives c n s i is low =
    by_epochs c (λ k w. LivesIn w n (life_of s)) (moves_from s) i (from (is_some s.view) is.sound.epoch.0) (λ u at. begun c n s u i is s.view refl at)
    (λ k v w le d rest.
    record {
      live =
          subst (λ (o : Option View). IfSome o (λ x. is_live x.live n ≡ true)) d.there
          (is.kept (suc k) (after (is_some s.view) k le));
      born = follows_born c.config v w n d.whole (move_next c (moves_from s) k v w i is.follow le d) low rest.live ∙ rest.born;
    })
  where
    from : (b : Bool) → 1 ≤ s.epoch → 1 ≤ pick b s.epoch (s.epoch + 1)
    from true one = one
    from false one = omega arith

    after : (b : Bool) (k : ℕ) → pick b s.epoch (s.epoch + 1) ≤ k → s.epoch < suc k
    after true k le = omega (arith, le)
    after false k le = omega (arith, le)

-- before that, from its birth on
early : (c : Cluster) (n : ℕ) (s : NodeState) (e : ℕ) → IsCluster c → IsMember c.config c.views n s → (o : Option View) → s.view ≡ o → life_in s o ≤ e → e < pick (is_some o) s.epoch (s.epoch + 1)
    → Lives c n (life_in s o) e
early c n s e i is None own from less = absurd (omega (arith, from, less))
early c n s e i is (Some v) own from less =
    let view : view_of_epoch c.views s.epoch ≡ Some v = subst (λ (o : Option View). IfSome o (λ w. view_of_epoch c.views s.epoch ≡ Some w)) own is.view in
    let lives = lives_at c s.epoch v n s.home.txs.born view (begun c n s v i is (Some v) own view) in
    let born = lives.born in
    subst (λ (b : ℕ). Lives c n b e) born (lives_go_on_law c n s.epoch e i lives.live (omega (arith, born, from)) (omega (arith, less)))

pub up_nodes_live_law : UpNodesLive
up_nodes_live_law c n s e i up from high =
    let known = up_is_member_law c n s i up in
    by known.1 known.0 (order e (moves_from s))
  where
    some : (o : Option View) → 1 ≤ s.home.txs.born → 1 ≤ life_in s o
    some None born = omega arith
    some (Some v) born = born

    by : IsMember c.config c.views n s → n < c.config.nodes → (e < moves_from s) ⊎ (moves_from s ≤ e) → Lives c n (life_of s) e
    by is low (inr le) =
        let one = some s.view is.sound.born in
        let h = epochs_have_views_law c e i (omega (arith, one, from)) high in
        lives_at c e h.view n (life_of s) h.there (up_lives c n s i is low e h.view h.there le)
    by is low (inl less) = early c n s e i is s.view refl from less
