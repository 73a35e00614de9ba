-- Equal events are the same.
use Rattle.std.proofs.Common.{◌≡◌, ℕ, Bool, true, false, ◌&&◌, refl, ap, subst, ◌∙◌, List, nat_eq}
use Rattle.std.specs.Bool.{Decides}
use Rattle.std.specs.Cmp.Lexicographic.{pointwise, pointwise_decides}
use Rattle.std.proofs.lemmas.Bool.{and_from, and_parts, false≢true}
use Rattle.std.proofs.lemmas.Bool.Decides.{Decides-eqb}
use Rattle.pcl_base.specs.declared.tx.TxId.{TxId}
use Rattle.pcl_base.specs.declared.event.Event.{Event}
use Rattle.pcl_base.specs.declared.event.Event.TheVariants as event
use Rattle.pcl_base.specs.contracts.event.EventPartialEq.TheImpl.{ghosts}

-- ---- numbers, flags, and lists of them

num : (m n : ℕ) → nat_eq m n ≡ true → m ≡ n
num m n h = (Decides-eqb m n).0 h

num_self : (n : ℕ) → nat_eq n n ≡ true
num_self n = (Decides-eqb n n).1 refl

nums : (xs ys : List ℕ) → pointwise nat_eq xs ys ≡ true → xs ≡ ys
nums xs ys h = (pointwise_decides Decides-eqb xs ys).0 h

nums_self : (xs : List ℕ) → pointwise nat_eq xs xs ≡ true
nums_self xs = (pointwise_decides Decides-eqb xs xs).1 refl

same_flag : (a b : Bool) → Decides (mathlib.Core.Bool.beq a b) (a ≡ b)
same_flag true true = (λ h. refl, λ e. refl)
same_flag true false = (λ h. absurd (cc), λ e. absurd (cc))
same_flag false true = (λ h. absurd (cc), λ e. absurd (cc))
same_flag false false = (λ h. refl, λ e. refl)

-- ---- transactions

abbrev tx_of : ℕ → ℕ → ℕ → TxId
tx_of node born serial = record { node = node; born = born; serial = serial }

tx : (t u : TxId) → (nat_eq t.node u.node && (nat_eq t.born u.born && nat_eq t.serial u.serial)) ≡ true → t ≡ u
tx t u h =
    let parts = and_parts (nat_eq t.node u.node) (nat_eq t.born u.born && nat_eq t.serial u.serial) h in
    let more = and_parts (nat_eq t.born u.born) (nat_eq t.serial u.serial) parts.1 in
    ap (λ n. tx_of n t.born t.serial) (num t.node u.node parts.0)
    ∙ (ap (λ n. tx_of u.node n t.serial) (num t.born u.born more.0) ∙ ap (λ n. tx_of u.node u.born n) (num t.serial u.serial more.1))

tx_self : (t : TxId) → (nat_eq t.node t.node && (nat_eq t.born t.born && nat_eq t.serial t.serial)) ≡ true
tx_self t =
    and_from (nat_eq t.node t.node) (nat_eq t.born t.born && nat_eq t.serial t.serial) (num_self t.node)
    (and_from (nat_eq t.born t.born) (nat_eq t.serial t.serial) (num_self t.born) (num_self t.serial))

-- ---- events

both : (a b : Bool) → a ≡ true → b ≡ true → (a && b) ≡ true
both a b h k = and_from a b h k

pub event_self : (a : Event) → ghosts.eq a a ≡ true
event_self (event.Begin n) = num_self n
event_self (event.Read t p) = both _ _ (tx_self t) (num_self p)
event_self (event.Write t p i bs) = both _ _ (tx_self t) (both _ _ (num_self p) (both _ _ (num_self i) (nums_self bs)))
event_self (event.Commit t) = tx_self t
event_self (event.Abort t) = tx_self t
event_self (event.Deliver x y) = both _ _ (num_self x) (num_self y)
event_self (event.Evict n p) = both _ _ (num_self n) (num_self p)
event_self (event.Flush n p) = both _ _ (num_self n) (num_self p)
event_self (event.Crash n) = num_self n
event_self (event.View l o) = both _ _ ((pointwise_decides same_flag l l).1 refl) (nums_self o)
event_self (event.Install n) = num_self n
event_self event.Reopen = refl
event_self (event.Arm n k j) = both _ _ (num_self n) (both _ _ (num_self k) (num_self j))
event_self (event.Cut n) = num_self n

pair : {A B : Type 0} (f : A → B → Event) {a a2 : A} {b b2 : B} → a ≡ a2 → b ≡ b2 → f a b ≡ f a2 b2
pair f {a2 = a2} {b = b} h k = ap (λ x. f x b) h ∙ ap (f a2) k

event_same : (a b : Event) → ghosts.eq a b ≡ true → a ≡ b
event_same (event.Begin n) (event.Begin m) h = ap event.Begin (num n m h)
event_same (event.Read t p) (event.Read u q) h = let k = and_parts _ _ h in pair event.Read (tx t u k.0) (num p q k.1)
event_same (event.Write t p i bs) (event.Write u q j cs) h =
    let k = and_parts _ _ h in
    let l = and_parts _ _ k.1 in
    let m = and_parts _ _ l.1 in
    pair (λ x y. event.Write x y i bs) (tx t u k.0) (num p q l.0) ∙ pair (event.Write u q) (num i j m.0) (nums bs cs m.1)
event_same (event.Commit t) (event.Commit u) h = ap event.Commit (tx t u h)
event_same (event.Abort t) (event.Abort u) h = ap event.Abort (tx t u h)
event_same (event.Deliver x y) (event.Deliver v w) h = let k = and_parts _ _ h in pair event.Deliver (num x v k.0) (num y w k.1)
event_same (event.Evict n p) (event.Evict m q) h = let k = and_parts _ _ h in pair event.Evict (num n m k.0) (num p q k.1)
event_same (event.Flush n p) (event.Flush m q) h = let k = and_parts _ _ h in pair event.Flush (num n m k.0) (num p q k.1)
event_same (event.Crash n) (event.Crash m) h = ap event.Crash (num n m h)
event_same (event.View l o) (event.View k w) h =
    let g = and_parts _ _ h in pair event.View ((pointwise_decides same_flag l k).0 g.0) (nums o w g.1)
event_same (event.Install n) (event.Install m) h = ap event.Install (num n m h)
event_same event.Reopen event.Reopen h = refl
event_same (event.Arm n k j) (event.Arm m l i) h =
    let g = and_parts _ _ h in
    let f = and_parts _ _ g.1 in
    ap (λ x. event.Arm x k j) (num n m g.0) ∙ pair (event.Arm m) (num k l f.0) (num j i f.1)
event_same (event.Cut n) (event.Cut m) h = ap event.Cut (num n m h)
event_same _ _ h = absurd (false≢true h)

pub event_decides : (a b : Event) (r : Bool) → r ≡ ghosts.eq a b → Decides r (a ≡ b)
event_decides a b r e = (λ h. event_same a b (subst (λ x. x ≡ true) e h), λ same. e ∙ subst (λ x. ghosts.eq a x ≡ true) same (event_self a))
