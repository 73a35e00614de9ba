-- Views that move the one before.
use Rattle.std.proofs.Common.{◌≡◌, refl, ap, sym, subst, ◌∙◌, ℕ, zero, suc, ◌+◌, ◌<◌, ◌≤◌, ◌==◌, ◌&&◌, not, Bool, true, false, List, [], ◌∷◌, ◌++◌, Option, Some, None, is_some, Result, Ok, arith}
use Rattle.std.specs.Bool.{beq}
use Rattle.std.specs.List.{slice_get}
use Rattle.std.specs.Prelude.{IfSome}
use Rattle.std.proofs.lemmas.Bool.Decides.{nat_tests}
use Rattle.pcl_base.specs.Limits.{Sizes}
use Rattle.pcl_base.specs.declared.reply.Reason.TheVariants as reason
use Rattle.run_rules.specs.Views.{View, first, next, moved, same_numbers, same_flags, same_view, is_that, follows}
use Rattle.node_rules.specs.Words.{pick}
use Rattle.node_rules.specs.NodeState.{NodeState}
use Rattle.node_rules.specs.Refusals.{may_begin, may_install, refuse_if, refusal}
use Rattle.cluster_rules.specs.Clusters.{view_of_epoch, last_or}
use Rattle.cluster_laws.specs.Sound.{FollowOn, AreViews, MoveAfter, MoveFrom, MayBeginNext, IsMember}
use Rattle.cluster_laws.specs.ViewLaws.{NoViewIsRefused}
use Rattle.cluster_laws.proofs.Lists.{both_true}
use Rattle.cluster_laws.proofs.Views.{next_is, found_right}
use Rattle.cluster_laws.proofs.Numbered.{counted, views_placed}

-- a view is equal to itself
same_flag : (b : Bool) → beq b b ≡ true
same_flag true = refl
same_flag false = refl

equal : (n : ℕ) → (n == n) ≡ true
equal n = grind (arith, nat_tests)

flags_self : (bs : List Bool) → same_flags bs bs ≡ true
unfolding same_flags
flags_self [] = refl
flags_self (b ∷ bs) = both_true (beq b b) (same_flags bs bs) (same_flag b) (flags_self bs)

numbers_self : (ns : List ℕ) → same_numbers ns ns ≡ true
unfolding same_numbers
numbers_self [] = refl
numbers_self (n ∷ ns) = both_true (n == n) (same_numbers ns ns) (equal n) (numbers_self ns)

view_self : (v : View) → same_view v v ≡ true
view_self v =
    let f = flags_self v.live in
    let o = numbers_self v.owners in
    let s = numbers_self v.since in
    let b = numbers_self v.born in
    let e = equal v.epoch in
    five (v.epoch == v.epoch) (same_flags v.live v.live) (same_numbers v.owners v.owners) (same_numbers v.since v.since) (same_numbers v.born v.born) e f o s b
  where
    five : (a b c d e : Bool) → a ≡ true → b ≡ true → c ≡ true → d ≡ true → e ≡ true → a && b && c && d && e ≡ true
    five true true true true e p q r s t = t
    five true true true false e p q r s t = s
    five true true false d e p q r s t = r
    five true false c d e p q r s t = q
    five false b c d e p q r s t = p

-- a moved view follows
pub next_follows : (c : Sizes) (v w : View) (live : List Bool) (owners : List ℕ) → next c v live owners ≡ Ok w → follows c v w ≡ true
unfolding follows
next_follows c v w live owners e =
    let same = (next_is c v w live owners e).0 in
    subst (λ (x : View). is_that (next c v x.live x.owners) x ≡ true) same
    (ap (λ (r : Result View ℕ). is_that r (moved v live owners)) (e ∙ ap (λ (x : View). Ok x) (sym same)) ∙ view_self (moved v live owners))

after_push : (c : Sizes) (e : ℕ) (v : View) (ws : List View) (x : View) → MoveAfter c e v ws → (e ≤ (last_or v ws).epoch → follows c (last_or v ws) x ≡ true)
    → MoveAfter c e v (ws ++ x ∷ [])
after_push c e v [] x m f = (f, tt)
after_push c e v (w ∷ ws) x m f = (m.0, after_push c e w ws x m.1 f)

-- a further view
pub move_push : (c : Sizes) (e : ℕ) (vs : List View) (x : View) → AreViews c vs → MoveFrom c e vs → (e ≤ (last_or (first c) vs).epoch → follows c (last_or (first c) vs) x ≡ true)
    → MoveFrom c e (vs ++ x ∷ [])
move_push c e [] x bad m f = absurd bad
move_push c e (v ∷ vs) x are m f = after_push c e v vs x m f

after_later : (c : Sizes) (e k : ℕ) (v : View) (ws : List View) → e ≤ k → MoveAfter c e v ws → MoveAfter c k v ws
after_later c e k v [] le m = tt
after_later c e k v (w ∷ ws) le m = (λ under. m.0 (omega (arith, le, under)), after_later c e k w ws le m.1)

-- from a later epoch on
pub move_later : (c : Sizes) (e k : ℕ) (vs : List View) → e ≤ k → MoveFrom c e vs → MoveFrom c k vs
move_later c e k [] le m = tt
move_later c e k (v ∷ vs) le m = after_later c e k v vs le m

after_all : (c : Sizes) (e : ℕ) (v : View) (ws : List View) → FollowOn c v ws → (last_or v ws).epoch < e → MoveAfter c e v ws
after_all c e v [] f less = tt
after_all c e v (w ∷ ws) f less =
    let long = counted c v (w ∷ ws) f in
    (λ under. absurd (omega (arith, long, less, under)), after_all c e w ws f.1 less)

-- from an epoch on that no view has reached
pub move_all : (c : Sizes) (e : ℕ) (vs : List View) → AreViews c vs → (last_or (first c) vs).epoch < e → MoveFrom c e vs
move_all c e [] bad less = absurd bad
move_all c e (v ∷ vs) are less = after_all c e v vs are.1 less

-- of two views in a row the second follows
after_at : (c : Sizes) (e : ℕ) (u : View) (vs : List View) (k : ℕ) (v w : View) → MoveAfter c e u vs → slice_get (u ∷ vs) k ≡ Some v → slice_get (u ∷ vs) (suc k) ≡ Some w → e ≤ v.epoch → follows c v w ≡ true
after_at c e u [] k v w m a b le = absurd (cc)
after_at c e u (x ∷ vs) zero v w m a b le =
    let one : u ≡ v = cc in
    let two : x ≡ w = cc in
    subst (λ (y : View). follows c v y ≡ true) two
    (subst (λ (y : View). follows c y x ≡ true) one (m.0 (subst (λ (y : View). e ≤ y.epoch) (sym one) le)))
after_at c e u (x ∷ vs) (suc k) v w m a b le = after_at c e x vs k v w m.1 a b le

move_at : (c : Sizes) (e : ℕ) (vs : List View) (k : ℕ) (v w : View) → MoveFrom c e vs → slice_get vs k ≡ Some v → slice_get vs (suc k) ≡ Some w → e ≤ v.epoch → follows c v w ≡ true
move_at c e [] k v w m a b le = absurd (cc)
move_at c e (u ∷ us) k v w m a b le = after_at c e u us k v w m a b le

pair_follows : (c : Sizes) (vs : List View) (e : ℕ) (v w : View) → AreViews c vs → MoveFrom c e vs → 1 ≤ e → view_of_epoch vs e ≡ Some v → view_of_epoch vs (e + 1) ≡ Some w → follows c v w ≡ true
pair_follows c vs zero v w are m low a b = absurd (omega (arith, low))
pair_follows c vs (suc k) v w are m low a b =
    let found = (found_right c vs (suc k) v are a).epoch in
    let one : k + 1 ≡ suc k = omega arith in
    move_at c (suc k) vs k v w m (sym (views_placed c vs k are) ∙ ap (view_of_epoch vs) one ∙ a) (sym (views_placed c vs (suc k) are) ∙ b) (omega (arith, found))

not_refused : (b : Bool) → b ≡ true → refuse_if (not b) reason.NoView None ≡ None
not_refused true e = refl
not_refused false e = absurd (cc)

-- the view after a member's own is allowed
next_allowed : (c : Sizes) (vs : List View) (n : ℕ) (s : NodeState) (v : View) → AreViews c vs → IsMember c vs n s → view_of_epoch vs (s.epoch + 1) ≡ Some v → may_install s s.view v ≡ true
next_allowed c vs n s v are is there = by s.view refl is.view is.follow
  where
    by : (o : Option View) → s.view ≡ o → IfSome o (λ w. view_of_epoch vs s.epoch ≡ Some w) → MoveFrom c (pick (is_some o) s.epoch (s.epoch + 1)) vs → may_install s o v ≡ true
    by None e own follow =
        let b : MayBeginNext vs s = is.begins e in
        let found : Some b.next ≡ Some v = sym b.there ∙ there in
        let same : b.next ≡ v = cc in
        subst (λ (x : View). may_begin s x ≡ true) same b.allowed
    by (Some before) e own follow = subst (λ (k : Sizes). follows k before v ≡ true) (sym is.config) (pair_follows c vs s.epoch before v are follow is.sound.epoch.0 own there)

pub no_view_is_refused_law : NoViewIsRefused
unfolding refusal
no_view_is_refused_law c n s v i up there =
    not_refused (may_install s s.view v)
    (next_allowed c.config c.views n s v i.views (subst (λ (o : Option NodeState). IfSome o (IsMember c.config c.views n)) up (i.members n)) there)
