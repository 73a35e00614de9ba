-- The views of a cluster by their epochs.
use Rattle.std.proofs.Common.{◌≡◌, ◌⊎◌, inl, inr, refl, ap, sym, subst, ◌∙◌, ℕ, zero, suc, ◌+◌, ◌<◌, ◌≤◌, ◌==◌, Bool, true, false, List, [], ◌∷◌, ◌++◌, length, Option, Some, None, arith}
use Rattle.std.specs.List.{slice_get}
use Rattle.std.proofs.lemmas.Bool.Decides.{nat_tests}
use Rattle.pcl_base.specs.Limits.{Sizes}
use Rattle.pcl_base.specs.declared.event.Event.{Event}
use Rattle.run_rules.specs.Views.{View, first}
use Rattle.node_rules.specs.Words.{pick}
use Rattle.node_rules.specs.NodeState.{NodeState, NodeEvent}
use Rattle.node_rules.specs.DiskCalls.{Left}
use Rattle.node_rules.specs.Work.{Outcome, Goes, Differs}
use Rattle.node_rules.specs.NodeStep.{Plan, nodestep}
use Rattle.rule_laws.specs.LaterViews.{IsWhole, IsNext, moves, reopens, IsLater, same, after}
use Rattle.cluster_rules.specs.Clusters.{Cluster, view_of_epoch, last_or, last_view, stop_at, lose}
use Rattle.cluster_rules.specs.ClusterStep.{all_nodes, returning, start_one, start_all, made_or_halted, left_of, after_plan, node_step}
use Rattle.cluster_laws.specs.Sound.{FollowOn, AreViews, IsCluster}
use Rattle.cluster_laws.proofs.Cases.{by_step}
use Rattle.cluster_laws.proofs.Numbered.{views_placed, views_are_whole_law, views_are_numbered_law}
use Rattle.cluster_laws.proofs.Views.{next_epoch, last_right, last_push}
use Rattle.cluster_laws.specs.Era.EraLaws.{HasView, EpochsHaveViews, LastViewIsThere, NoFurtherViews, AreKept, StepsKeepMade, LaterEpochs, GoesOn}
use Rattle.cluster_laws.proofs.EraParts.Nexts.{order, next_goes_on_law}

got : {X : Type 0} (xs : List X) (k : ℕ) → k < length xs → (x : X) × (slice_get xs k ≡ Some x)
got [] k low = absurd (omega (arith, low))
got (x ∷ xs) zero low = (x, refl)
got (x ∷ xs) (suc k) low = got xs k (omega (arith, low))

-- of two views in a row the second is the next one
next_placed : (c : Sizes) (u : View) (vs : List View) (k : ℕ) (v w : View) → FollowOn c u vs → slice_get (u ∷ vs) k ≡ Some v → slice_get (u ∷ vs) (suc k) ≡ Some w → IsNext c v w
next_placed c u [] k v w f a b = absurd (cc)
next_placed c u (x ∷ vs) zero v w f a b =
    let one : u ≡ v = cc in
    let two : x ≡ w = cc in
    subst (λ (y : View). IsNext c v y) two (subst (λ (y : View). IsNext c y x) one f.0)
next_placed c u (x ∷ vs) (suc k) v w f a b = next_placed c x vs k v w f.1 a b

pair_next : (c : Sizes) (vs : List View) (k : ℕ) (v w : View) → AreViews c vs → slice_get vs k ≡ Some v → slice_get vs (suc k) ≡ Some w → IsNext c v w
pair_next c [] k v w are a b = absurd are
pair_next c (u ∷ vs) k v w are a b = next_placed c u vs k v w are.1 a b

first_placed : (c : Sizes) (vs : List View) (v : View) → AreViews c vs → slice_get vs 0 ≡ Some v → v ≡ first c
first_placed c [] v are a = absurd are
first_placed c (u ∷ vs) v are a = let one : u ≡ v = cc in sym one ∙ are.0

pub placed : (c : Cluster) (k : ℕ) → IsCluster c → view_of_epoch c.views (suc k) ≡ slice_get c.views k
placed c k i = ap (view_of_epoch c.views) (let one : suc k ≡ k + 1 = omega arith in one) ∙ views_placed c.config c.views k i.views

pub found : (c : Cluster) (e : ℕ) (v : View) → IsCluster c → view_of_epoch c.views e ≡ Some v → HasView c e
found c e v i at =
    let w = (views_are_whole_law c e v i at).0 in record { view = v; there = at; epoch = w.epoch; whole = w.whole }

pub whole_at : (c : Cluster) (e : ℕ) (v : View) → IsCluster c → view_of_epoch c.views e ≡ Some v → IsWhole c.config v
whole_at c e v i at = (views_are_whole_law c e v i at).0.whole

pub epoch_at : (c : Cluster) (e : ℕ) (v : View) → IsCluster c → view_of_epoch c.views e ≡ Some v → v.epoch ≡ e
epoch_at c e v i at = (views_are_whole_law c e v i at).0.epoch

pub low_of : (c : Cluster) (e : ℕ) (v : View) → IsCluster c → view_of_epoch c.views e ≡ Some v → (1 ≤ e) × (e ≤ (last_view c).epoch)
low_of c e v i at = let w = views_are_whole_law c e v i at in (w.0.low, w.1)

pub epochs_have_views_law : EpochsHaveViews
epochs_have_views_law c zero i low high = absurd (omega (arith, low))
epochs_have_views_law c (suc k) i low high =
    let long = (views_are_numbered_law c i).0 in
    let g = got c.views k (omega (arith, long, high)) in
    found c (suc k) g.0 i (placed c k i ∙ g.1)

got_last : (v : View) (vs : List View) → slice_get (v ∷ vs) (length vs) ≡ Some (last_or v vs)
got_last v [] = refl
got_last v (w ∷ ws) = got_last w ws

last_placed : (c : Sizes) (vs : List View) (k : ℕ) → AreViews c vs → length vs ≡ suc k → slice_get vs k ≡ Some (last_or (first c) vs)
last_placed c [] k are long = absurd are
last_placed c (v ∷ vs) k are long =
    let same : k ≡ length vs = omega (arith, long) in
    ap (slice_get (v ∷ vs)) same ∙ got_last v vs

pub last_view_is_there_law : LastViewIsThere
last_view_is_there_law c i = by (last_view c).epoch refl
  where
    by : (k : ℕ) → (last_view c).epoch ≡ k → view_of_epoch c.views (last_view c).epoch ≡ Some (last_view c)
    by zero is = let low = (last_right c.config c.views i.views).low in absurd (omega (arith, is, low))
    by (suc k) is =
        ap (view_of_epoch c.views) is ∙ placed c k i ∙ last_placed c.config c.views k i.views ((views_are_numbered_law c i).0 ∙ is)

pub no_further_views_law : NoFurtherViews
no_further_views_law c e i out = by (view_of_epoch c.views e) refl out
  where
    by : (o : Option View) → view_of_epoch c.views e ≡ o → (e ≡ 0) ⊎ ((last_view c).epoch < e) → view_of_epoch c.views e ≡ None
    by None at any = at
    by (Some v) at (inl none) = let low = (low_of c e v i at).0 in absurd (omega (arith, none, low))
    by (Some v) at (inr late) = let high = (low_of c e v i at).1 in absurd (omega (arith, late, high))

-- two views in a row
pub record Next (c : Cluster) (k : ℕ) (v w : View) : Type 0 where
  pub here : view_of_epoch c.views k ≡ Some v
  pub there : view_of_epoch c.views (suc k) ≡ Some w
  pub whole : IsWhole c.config v
  pub whole_next : IsWhole c.config w
  pub epoch : v.epoch ≡ k
  pub epoch_next : w.epoch ≡ suc k
  pub next : IsNext c.config v w
  pub on : GoesOn c.config v w

next_at : (c : Cluster) (k : ℕ) (v w : View) → IsCluster c → view_of_epoch c.views k ≡ Some v → view_of_epoch c.views (suc k) ≡ Some w → Next c k v w
next_at c zero v w i a b = let low = (low_of c zero v i a).0 in absurd (omega (arith, low))
next_at c (suc j) v w i a b =
    let whole = whole_at c (suc j) v i a in
    let n = pair_next c.config c.views j v w i.views (sym (placed c j i) ∙ a) (sym (placed c (suc j) i) ∙ b) in
    record {
      here = a;
      there = b;
      whole = whole;
      whole_next = whole_at c (suc (suc j)) w i b;
      epoch = epoch_at c (suc j) v i a;
      epoch_next = epoch_at c (suc (suc j)) w i b;
      next = n;
      on = next_goes_on_law c.config v w whole n;
    }

-- what holds at an epoch and from each to the next holds at all later ones
pub by_epochs : (c : Cluster) (P : ℕ → View → Type 0) (m : ℕ) → IsCluster c → 1 ≤ m → ((u : View) → view_of_epoch c.views m ≡ Some u → P m u)
    → ((k : ℕ) (v w : View) → m ≤ k → Next c k v w → P k v → P (suc k) w) → (e : ℕ) (w : View) → view_of_epoch c.views e ≡ Some w → m ≤ e → P e w
by_epochs c P m i one base on zero w at low = absurd (omega (arith, one, low))
by_epochs c P m i one base on (suc k) w at low = by (order m (suc k)) (λ v here le. by_epochs c P m i one base on k v here le)
  where
    by : (m < suc k) ⊎ (suc k ≤ m) → ((v : View) → view_of_epoch c.views k ≡ Some v → m ≤ k → P k v) → P (suc k) w
    by (inl less) rest =
        let high = (low_of c (suc k) w i at).1 in
        let v = epochs_have_views_law c k i (omega (arith, one, less)) (omega (arith, high)) in
        on k v.view w (omega (arith, less)) (next_at c k v.view w i v.there at) (rest v.view v.there (omega (arith, less)))
    by (inr ge) rest =
        let alike : m ≡ suc k = omega (arith, low, ge) in
        subst (λ (j : ℕ). P j w) alike (base w (ap (view_of_epoch c.views) alike ∙ at))

pub first_at : (c : Cluster) (v : View) → IsCluster c → view_of_epoch c.views 1 ≡ Some v → v ≡ first c.config
first_at c v i at = first_placed c.config c.views v i.views (sym (placed c 0 i) ∙ at)

-- the views at one epoch are one
pub one_view : (c : Cluster) (e k : ℕ) (v w : View) → e ≡ k → view_of_epoch c.views e ≡ Some v → view_of_epoch c.views k ≡ Some w → v ≡ w
one_view c e k v w alike a b = let two : Some v ≡ Some w = sym a ∙ ap (view_of_epoch c.views) alike ∙ b in cc

pub later_epochs_law : LaterEpochs
later_epochs_law c e k v w i le a b =
    by_epochs c (λ k w. IsLater c.config v w) e i (low_of c e v i a).0
    (λ u at. subst (IsLater c.config v) (one_view c e e v u refl a at) same)
    (λ j u x low n rest. after rest n.next) k w b le

-- a further view leaves the others
push_other : (vs : List View) (x : View) (e : ℕ) → (x.epoch == e) ≡ false → view_of_epoch (vs ++ x ∷ []) e ≡ view_of_epoch vs e
unfolding view_of_epoch
push_other [] x e other = ap (λ (b : Bool). (let o : Option View = pick b (Some x) None in o)) other
push_other (v ∷ vs) x e other = ap (λ (o : Option View). pick (v.epoch == e) (Some v) o) (push_other vs x e other)

same_kept : (c d : Cluster) → d.config ≡ c.config → d.views ≡ c.views → AreKept c d
same_kept c d config views =
    let last : (last_view d).epoch ≡ (last_view c).epoch =
    ap (λ (k : Sizes). (last_or (first k) d.views).epoch) config ∙ ap (λ (vs : List View). (last_or (first c.config) vs).epoch) views in
    record { last = omega (arith, last); made = λ e le. ap (λ (vs : List View). view_of_epoch vs e) views }

push_kept : (c d : Cluster) (x : View) → IsNext c.config (last_view c) x → d.config ≡ c.config → d.views ≡ c.views ++ x ∷ [] → AreKept c d
push_kept c d x n config views =
    let at = (next_epoch c.config (last_view c) x n).0 in
    let last : (last_view d).epoch ≡ x.epoch =
    ap (λ (vs : List View). (last_or (first d.config) vs).epoch) views ∙ ap (λ (v : View). v.epoch) (last_push (first d.config) c.views x) in
    record {
      last = omega (arith, at, last);
      made = λ e le. ap (λ (vs : List View). view_of_epoch vs e) views ∙ push_other c.views x e (other (x.epoch == e) refl (omega (arith, at, le)));
    }
  where
    other : {e : ℕ} (b : Bool) → (x.epoch == e) ≡ b → e < x.epoch → (x.epoch == e) ≡ false
    other true t less = absurd (grind (arith, nat_tests, t, less))
    other false t less = t

started_same : (k : ℕ) (ns : List ℕ) (c : Cluster) → ((start_all k ns c).views ≡ c.views) × ((start_all k ns c).config ≡ c.config)
started_same k [] c = (refl, refl)
started_same k (n ∷ ns) c = started_same k ns (start_one k c n)

stepped_kept : (c : Cluster) (e : Event) (n : ℕ) (s : NodeState) (ev : NodeEvent) → AreKept c (node_step e n s ev c)
unfolding node_step lose
stepped_kept c e n s ev = by (nodestep s ev c.disk)
  where
    whole : (p : Plan) (o : Option Left) → AreKept c (made_or_halted e n p o c)
    whole p None = same_kept c _ refl refl
    whole p (Some l) = same_kept c _ refl refl

    by : (o : Outcome Plan) → AreKept c (after_plan e n c o)
    by (Goes p) = whole p (left_of n c.disk p.calls (stop_at c n))
    by (Differs p expected found) = same_kept c _ refl refl

lost_kept : (c : Cluster) (n : ℕ) → AreKept c (lose n c)
unfolding lose
lost_kept c n = same_kept c (lose n c) refl refl

pub steps_keep_made_law : StepsKeepMade
steps_keep_made_law c e i =
    by_step (AreKept c) c e
    (record {
      refused = λ r. same_kept c _ refl refl;
      crashed = λ n is. (let k = lost_kept c n in record { last = k.last; made = k.made });
      armed = λ n call kept is. same_kept c _ refl refl;
      handed = λ n s ev h. stepped_kept c e n s ev;
      viewed = λ live owners v made drops.
          let s = started_same (last_view c).epoch (returning (last_view c) v (all_nodes c)) c in
          push_kept c _ v (moves live owners made) s.1 (ap (λ (vs : List View). vs ++ v ∷ []) s.0);
      reopened = λ v made down.
          let s = started_same (last_view c).epoch (all_nodes c) c in
          push_kept c _ v (reopens made) s.1 (ap (λ (vs : List View). vs ++ v ∷ []) s.0);
    })
