-- Nodes that are up: at the beginning, at a further view, and after a step.
use Rattle.std.proofs.Common.{◌≡◌, refl, ap, sym, subst, ◌∙◌, ℕ, zero, suc, ◌+◌, ◌<◌, ◌≤◌, ◌==◌, ◌&&◌, ◌||◌, not, Bool, true, false, List, [], ◌∷◌, ◌++◌, Option, Some, None, is_some, Ok, nat_lt, arith, eqb-true, lt-ltb}
use Rattle.std.specs.Prelude.{IfSome}
use Rattle.std.specs.List.{list_all}
use Rattle.std.proofs.lemmas.Option.{IfSome_then}
use Rattle.std.proofs.lemmas.List.{get_or-replicate}
use Rattle.std.proofs.lemmas.Bool.Decides.{nat_tests}
use Rattle.pcl_base.specs.Limits.{Sizes, InLimits}
use Rattle.run_rules.specs.Views.{View, is_live, first, follows, owner_of, since_of, born_of, next, anew, count_from}
use Rattle.node_rules.specs.Words.{pick}
use Rattle.node_rules.specs.NodeState.{NodeState, number_of, first_node, start_node}
use Rattle.node_rules.specs.Refusals.{owns_new, may_begin}
use Rattle.rule_laws.specs.LaterViews.{IsWhole, IsNext, IsMoved}
use Rattle.rule_laws.proofs.Successors.{next_moves_law}
use Rattle.node_laws.specs.Nodes.{IsSound}
use Rattle.node_laws.proofs.Starts.{first_is_sound_law, start_is_sound_law}
use Rattle.cluster_rules.specs.Clusters.{view_of_epoch, last_or}
use Rattle.cluster_laws.specs.Sound.{AreViews, IsMember, MoveFrom, moves_from}
use Rattle.cluster_laws.specs.Epochs.{StaysInView}
use Rattle.cluster_laws.proofs.Lists.{both_true}
use Rattle.cluster_laws.proofs.Moving.{move_push, move_all, move_later}
use Rattle.cluster_laws.proofs.Views.{next_epoch, last_right, found_right, last_push, found_push, if_push, none_later, push_found}

-- whether a node may begin with a view, by what the test reads
abbrev begins_at : ℕ → ℕ → ℕ → View → Bool
begins_at me e nodes v = (born_of v me == v.epoch && nat_lt e v.epoch) && list_all (owns_new v me) (count_from 0 nodes)

all_listed : (p : ℕ → Bool) (n a : ℕ) → ((i : ℕ) → i < n → p (a + i) ≡ true) → list_all p (count_from a n) ≡ true
unfolding count_from
all_listed p zero a f = refl
all_listed p (suc n) a f =
    both_true (p a) (list_all p (count_from (a + 1) n)) (subst (λ (k : ℕ). p k ≡ true) (omega arith) (f 0 (omega arith)))
    (all_listed p n (a + 1) (λ i low. subst (λ (k : ℕ). p k ≡ true) (omega arith) (f (suc i) (omega (arith, low)))))

begins_with : (me e nodes : ℕ) (v : View) → born_of v me ≡ v.epoch → e < v.epoch → ((q : ℕ) → q < nodes → owner_of v q ≡ me → since_of v q ≡ v.epoch)
    → begins_at me e nodes v ≡ true
begins_with me e nodes v born less since =
    both_true (born_of v me == v.epoch && nat_lt e v.epoch) (list_all (owns_new v me) (count_from 0 nodes))
    (both_true (born_of v me == v.epoch) (nat_lt e v.epoch) (grind (arith, nat_tests, born)) (lt-ltb e v.epoch less))
    (all_listed (owns_new v me) nodes 0 (λ i low. new (0 + i) (omega (arith, low))))
  where
    new : (q : ℕ) → q < nodes → owns_new v me q ≡ true
    new q low = of (owner_of v q == me) refl
      where
        of : (b : Bool) → (owner_of v q == me) ≡ b → not b || since_of v q == v.epoch ≡ true
        of true t = let same = since q low (eqb-true (owner_of v q) me t) in grind (arith, nat_tests, same)
        of false t = refl

-- a node that a view brings back may begin with it
pub returns_with : (c : Sizes) (v x : View) (live : List Bool) (owners : List ℕ) (n : ℕ) → IsWhole c v → next c v live owners ≡ Ok x → n < c.nodes → is_live x.live n ≡ true → is_live v.live n ≡ false
    → may_begin (start_node c n v.epoch) x ≡ true
unfolding start_node
returns_with c v x live owners n i e low now before =
    begins_with n v.epoch c.nodes x born (omega (arith, at)) since
  where
    moved : IsMoved v x
    moved = next_moves_law c v x live owners i e

    at : x.epoch ≡ v.epoch + 1
    at = moved.epoch

    born : born_of x n ≡ x.epoch
    born = moved.born n (subst (λ (k : ℕ). n < k) (sym i.born) low) ∙ of (is_live x.live n) (is_live v.live n) now before
      where
        of : (a b : Bool) → a ≡ true → b ≡ false → pick (a && not b) x.epoch (born_of v n) ≡ x.epoch
        of true false p q = refl
        of true true p q = absurd (cc)
        of false b p q = absurd (cc)

    since : (q : ℕ) → q < c.nodes → owner_of x q ≡ n → since_of x q ≡ x.epoch
    since q under own = moved.since q (subst (λ (k : ℕ). q < k) (sym i.since) under) ∙ of (owner_of v q == owner_of x q) refl
      where
        of : (b : Bool) → (owner_of v q == owner_of x q) ≡ b → pick b (since_of v q) x.epoch ≡ x.epoch
        of false t = refl
        of true t =
            let same = eqb-true (owner_of v q) (owner_of x q) t in
            let was : is_live v.live n ≡ true = subst (λ (k : ℕ). is_live v.live k ≡ true) (same ∙ own) (i.owner_live q under) in
            absurd (cc)

-- a node that starts again after all were down may begin with the view
pub reopens_with : (c : Sizes) (e n : ℕ) → n < c.nodes → may_begin (start_node c n e) (anew c (e + 1)) ≡ true
unfolding start_node
reopens_with c e n low =
    begins_with n e c.nodes (anew c (e + 1)) (get_or-replicate c.nodes n (e + 1) 0 low) (omega arith)
    (λ q under own. get_or-replicate c.nodes q (e + 1) 0 under)

pub live_anew : (c : Sizes) (e n : ℕ) → n < c.nodes → is_live (anew c e).live n ≡ true
live_anew c e n low = get_or-replicate c.nodes n true false low

first_below : (b : Bool) (e k : ℕ) → e + 1 ≤ k → pick b e (e + 1) ≤ k
first_below true e k le = omega (arith, le)
first_below false e k le = le

-- a node at view 1
pub member_first : (c : Sizes) (n : ℕ) → InLimits c → n < c.nodes → IsMember c (first c ∷ []) n (first_node c n)
unfolding first_node view_of_epoch
member_first c n lim low =
    record {
      sound = first_is_sound_law c n lim low;
      config = refl;
      number = refl;
      reached = omega arith;
      view = refl;
      kept = λ e less. of (1 == e);
      begins = λ none. absurd (cc);
      follow = tt;
    }
  where
    of : (b : Bool) → IfSome (pick b (Some (first c)) None) (λ v. is_live v.live n ≡ true)
    of true = get_or-replicate c.nodes n true false low
    of false = tt

module _ (c : Sizes) (vs : List View) (n : ℕ) where
  -- a further view that keeps the node
  pub member_push : (x : View) (s : NodeState) → AreViews c vs → IsNext c (last_or (first c) vs) x → is_live x.live n ≡ true → follows c (last_or (first c) vs) x ≡ true
      → IsMember c vs n s → IsMember c (vs ++ x ∷ []) n s
  member_push x s are is live moves i =
      let at = (next_epoch c (last_or (first c) vs) x is).0 in
      let last = ap (λ (v : View). v.epoch) (last_push (first c) vs x) in
      let reached = i.reached in
      record {
        sound = i.sound;
        config = i.config;
        number = i.number;
        reached = omega (arith, at, last, reached);
        view = IfSome_then s.view i.view (λ v h. found_push vs x s.epoch v h);
        kept = λ e less. if_push (λ (v : View). is_live v.live n ≡ true) vs x e (i.kept e less) live;
        begins = λ none.
            let b = i.begins none in
            record { next = b.next; there = found_push vs x (s.epoch + 1) b.next b.there; allowed = b.allowed };
        follow = move_push c (moves_from s) vs x are i.follow (λ under. moves);
      }

  -- a node that starts before a further view
  pub member_start : (x : View) → InLimits c → n < c.nodes → AreViews c vs → IsNext c (last_or (first c) vs) x → is_live x.live n ≡ true
      → may_begin (start_node c n (last_or (first c) vs).epoch) x ≡ true → IsMember c (vs ++ x ∷ []) n (start_node c n (last_or (first c) vs).epoch)
  unfolding start_node
  member_start x lim low are is live begins =
      let right = last_right c vs are in
      let at = (next_epoch c (last_or (first c) vs) x is).0 in
      let last = ap (λ (v : View). v.epoch) (last_push (first c) vs x) in
      record {
        sound = start_is_sound_law c n (last_or (first c) vs).epoch lim low right.low right.high;
        config = refl;
        number = refl;
        reached = omega (arith, at, last);
        view = tt;
        kept = λ e less.
            if_push (λ (v : View). is_live v.live n ≡ true) vs x e
            (subst (λ (o : Option View). IfSome o (λ v. is_live v.live n ≡ true)) (sym (none_later c vs e are less)) tt) live;
        begins = λ none.
            record {
              next = x;
              there =
                  subst (λ (e : ℕ). view_of_epoch (vs ++ x ∷ []) e ≡ Some x) at
                  (push_found vs x (none_later c vs x.epoch are (omega (arith, at))));
              allowed = begins;
            };
        follow =
            move_push c ((last_or (first c) vs).epoch + 1) vs x are (move_all c ((last_or (first c) vs).epoch + 1) vs are (omega arith))
            (λ under. absurd (omega (arith, under)));
      }

  -- a step that keeps the view
  pub member_stays : (s m : NodeState) → IsMember c vs n s → IsSound m → m.home.config ≡ s.home.config → number_of m ≡ number_of s → StaysInView s m → IsMember c vs n m
  member_stays s m i sound config number stays =
      let same = stays.epoch in
      let reached = i.reached in
      record {
        sound = sound;
        config = config ∙ i.config;
        number = number ∙ i.number;
        reached = omega (arith, same, reached);
        view =
            subst (λ (e : ℕ). IfSome m.view (λ v. view_of_epoch vs e ≡ Some v)) (sym stays.epoch)
            (subst (λ (o : Option View). IfSome o (λ v. view_of_epoch vs s.epoch ≡ Some v)) (sym stays.view) i.view);
        kept = λ e less. i.kept e (omega (arith, same, less));
        begins = λ none.
            let b = i.begins (sym stays.view ∙ none) in
            record {
              next = b.next;
              there = subst (λ (e : ℕ). view_of_epoch vs (e + 1) ≡ Some b.next) (sym stays.epoch) b.there;
              allowed =
                  ap (λ (k : ℕ). begins_at k m.epoch m.home.config.nodes b.next) number
                  ∙ ap (λ (e : ℕ). begins_at (number_of s) e m.home.config.nodes b.next) stays.epoch
                  ∙ ap (λ (k : Sizes). begins_at (number_of s) s.epoch k.nodes b.next) config
                  ∙ b.allowed;
            };
        follow =
            let same : moves_from m ≡ moves_from s =
            ap (λ (o : Option View). (let k : ℕ = pick (is_some o) m.epoch (m.epoch + 1) in k)) stays.view
            ∙ ap (λ (e : ℕ). (let k : ℕ = pick (is_some s.view) e (e + 1) in k)) stays.epoch in
            subst (λ (k : ℕ). MoveFrom c k vs) (sym same) i.follow;
      }

  -- a step that installs the next view
  pub member_installs : (s m : NodeState) (x : View) → AreViews c vs → view_of_epoch vs (s.epoch + 1) ≡ Some x → IsMember c vs n s → IsSound m → m.home.config ≡ s.home.config → number_of m ≡ number_of s
      → m.epoch ≡ x.epoch → m.view ≡ Some x → IsMember c vs n m
  member_installs s m x are there i sound config number epoch view =
      let found = found_right c vs (s.epoch + 1) x are there in
      let at = found.epoch in
      let under = found.reached in
      record {
        sound = sound;
        config = config ∙ i.config;
        number = number ∙ i.number;
        reached = omega (arith, epoch, at, under);
        view =
            subst (λ (o : Option View). IfSome o (λ v. view_of_epoch vs m.epoch ≡ Some v)) (sym view)
            (subst (λ (e : ℕ). view_of_epoch vs e ≡ Some x) (sym (epoch ∙ at)) there);
        kept = λ e less. i.kept e (omega (arith, epoch, at, less));
        begins = λ none. absurd (cc);
        follow =
            subst (λ (o : Option View). MoveFrom c (pick (is_some o) m.epoch (m.epoch + 1)) vs) (sym view)
            (move_later c (moves_from s) m.epoch vs (first_below (is_some s.view) s.epoch m.epoch (omega (arith, epoch, at))) i.follow);
      }
