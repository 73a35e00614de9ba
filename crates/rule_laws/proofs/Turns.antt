-- Settling turn by turn: what is left, what is granted, and what is revoked.
use Rattle.std.proofs.Common.{◌≡◌, ◌⊎◌, ℕ, zero, suc, ◌+◌, ◌<◌, ◌≤◌, ◌==◌, ◌&&◌, ◌||◌, not, cond, Bool, true, false, List, [], ◌∷◌, length, Option, Some, None, fold, Contains, refl, sym, ap, subst, ◌∙◌, arith, inl, inr, is_some, eqb-true}
use Rattle.std.specs.List.{list_any, list_all}
use Rattle.std.proofs.lemmas.Bool.Decides.{nat_tests}
use Rattle.pcl_base.specs.declared.tx.TxId.{TxId}
use Rattle.pcl_base.specs.declared.tx.Mode.{Mode}
use Rattle.pcl_base.specs.declared.tx.Mode.TheVariants.{Shared, Exclusive}
use Rattle.pcl_base.specs.declared.lock.Holder.{Holder}
use Rattle.pcl_base.specs.declared.lock.Waiter.{Waiter}
use Rattle.pcl_base.specs.declared.lock.RightMark.{RightMark}
use Rattle.pcl_base.specs.declared.lock.Decision.{Decision}
use Rattle.pcl_base.specs.declared.lock.Decision.TheVariants.{Grant, Revoke}
use Rattle.node_rules.specs.Words.{pick, same_tx, is_exclusive, or_else, head_of}
use Rattle.node_rules.specs.LockRule.{LockEntry, Turn, Rest, Next, mode_of, turn, turn_at, turn_for, turn_shared, turn_exclusive, go_on, settle_within, settle, candidate, first_upgrade, held_beside, exclusive_beside, waits_in, waiting_without, gives_right, with_right, with_reader, with_writer, revocations, all_revoked}
use Rattle.rule_laws.specs.Settling.{IsBarred, IsSettledAt, IsSettled, SettlingSettles, GrantsWaited, GrantsOnce, OthersWaitOn, RevokesAll, granted, revoked, unrevoked, once_if, count_of}
use Rattle.rule_laws.proofs.Lists.{contains_there, contains_split, contains_none, contains_filtered, any_in}

-- a transaction is the same as itself
pub same_self : (t : TxId) → same_tx t t ≡ true
same_self t = grind (arith, nat_tests)

-- the candidate waits
upgrade_in : (hs : List Holder) (ws : List Waiter) (w : Waiter) → first_upgrade hs ws ≡ Some w → Contains ws w
unfolding first_upgrade
upgrade_in hs [] w e = absurd (cc)
upgrade_in hs (x ∷ ws) w e = by (is_some (mode_of hs x.tx)) (first_upgrade hs ws) (upgrade_in hs ws w) e
  where
    by : (b : Bool) (o : Option Waiter) → (o ≡ Some w → Contains ws w) → pick b (Some x) o ≡ Some w → Contains (x ∷ ws) w
    by true o h q = let same : x ≡ w = cc in (0, omega arith, same)
    by false o h q = contains_there x w ws (h q)

head_in : (ws : List Waiter) (w : Waiter) → head_of ws ≡ Some w → Contains ws w
head_in [] w e = absurd (cc)
head_in (x ∷ ws) w e = let same : x ≡ w = cc in (0, omega arith, same)

pub candidate_in : (e : LockEntry) (w : Waiter) → candidate e ≡ Some w → Contains e.waiting w
unfolding candidate
candidate_in e w q = by (first_upgrade e.holders e.waiting) refl q
  where
    by : (o : Option Waiter) → first_upgrade e.holders e.waiting ≡ o → or_else o (head_of e.waiting) ≡ Some w → Contains e.waiting w
    by None p r = head_in e.waiting w r
    by (Some x) p r = upgrade_in e.holders e.waiting w (p ∙ r)

-- nobody waits where there is no candidate
none_waits : (hs : List Holder) (ws : List Waiter) → or_else (first_upgrade hs ws) (head_of ws) ≡ None → ws ≡ []
none_waits hs [] e = refl
none_waits hs (w ∷ ws) e = absurd (by (first_upgrade hs (w ∷ ws)) e)
  where
    by : (o : Option Waiter) → or_else o (Some w) ≡ None → ⊥
    by None q = cc
    by (Some x) q = cc

pub no_candidate : (e : LockEntry) → candidate e ≡ None → e.waiting ≡ []
unfolding candidate
no_candidate e q = none_waits e.holders e.waiting q

empty_settled : (e : LockEntry) → e.waiting ≡ [] → IsSettled e
unfolding candidate first_upgrade
empty_settled e none =
    let q : candidate e ≡ None = ap (λ (ws : List Waiter). or_else (first_upgrade e.holders ws) (head_of ws)) none in
    subst (λ (o : Option Waiter). IsSettledAt e o) (sym q) none

-- fewer wait without one that waits
not_more : (ws : List Waiter) (t : TxId) → length (waiting_without ws t) ≤ length ws
not_more [] t = omega arith
not_more (w ∷ ws) t = by (same_tx w.tx t) (waiting_without ws t) (not_more ws t)
  where
    by : (b : Bool) (l : List Waiter) → length l ≤ length ws → length (cond (not b) (w ∷ l) l) ≤ suc (length ws)
    by true l h = omega arith
    by false l h = omega arith

pub fewer : (ws : List Waiter) (t : TxId) → waits_in ws t ≡ true → length (waiting_without ws t) < length ws
fewer [] t e = absurd (cc)
fewer (w ∷ ws) t e = by (same_tx w.tx t) (waiting_without ws t) (waits_in ws t) (not_more ws t) (fewer ws t) e
  where
    by : (b : Bool) (l : List Waiter) (r : Bool) → length l ≤ length ws → (r ≡ true → length l < length ws) → b || r ≡ true
        → length (cond (not b) (w ∷ l) l) < suc (length ws)
    by true l r h k q = omega arith
    by false l r h k q = let less = k q in omega arith

pub waits : (ws : List Waiter) (w : Waiter) → Contains ws w → waits_in ws w.tx ≡ true
waits ws w c = any_in (λ x. same_tx x.tx w.tx) ws w c (same_self w.tx)

-- a test of two tests
pub and_left : (a b : Bool) → a && b ≡ true → a ≡ true
and_left true b e = refl
and_left false b e = e

pub and_right : (a b : Bool) → a && b ≡ true → b ≡ true
and_right true b e = e
and_right false b e = absurd (cc)

pub not_true : (a : Bool) → not a ≡ true → a ≡ false
not_true true e = absurd (cc)
not_true false e = refl

-- what is the same transaction is equal
pub same_equal : (t u : TxId) → same_tx t u ≡ true → t ≡ u
same_equal t u e =
    let front = and_left (t.node == u.node && t.born == u.born) (t.serial == u.serial) e in
    let node = eqb-true t.node u.node (and_left (t.node == u.node) (t.born == u.born) front) in
    let born = eqb-true t.born u.born (and_right (t.node == u.node) (t.born == u.born) front) in
    let serial = eqb-true t.serial u.serial (and_right (t.node == u.node && t.born == u.born) (t.serial == u.serial) e) in
    (λ i. record { node = node i; born = born i; serial = serial i })

-- tests of what waits
abbrev pub writer_waits : List Waiter → Bool
writer_waits ws = list_any (λ x. is_exclusive x.mode) ws

pub writer_there : (ws : List Waiter) (w : Waiter) → Contains ws w → w.mode ≡ Exclusive → writer_waits ws ≡ true
writer_there ws w c m = any_in (λ x. is_exclusive x.mode) ws w c (ap is_exclusive m)

pub none_without : (p : Waiter → Bool) (ws : List Waiter) (t : TxId) → list_any p ws ≡ false → list_any p (waiting_without ws t) ≡ false
none_without p [] t e = refl
none_without p (w ∷ ws) t e = by (p w) (same_tx w.tx t) refl (list_any p ws) e (waiting_without ws t) (none_without p ws t)
  where
    by : (b c : Bool) → p w ≡ b → (r : Bool) → b || r ≡ false → (l : List Waiter) → (r ≡ false → list_any p l ≡ false)
        → list_any p (cond (not c) (w ∷ l) l) ≡ false
    by true c q r f l h = absurd (cc)
    by false true q r f l h = h f
    by false false q r f l h = ap (λ (b : Bool). b || list_any p l) q ∙ h f

pub gone : (ws : List Waiter) (t : TxId) → waits_in (waiting_without ws t) t ≡ false
gone [] t = refl
gone (w ∷ ws) t = by (same_tx w.tx t) refl (gone ws t)
  where
    by : (b : Bool) → same_tx w.tx t ≡ b → waits_in (waiting_without ws t) t ≡ false → waits_in (cond (not b) (w ∷ waiting_without ws t) (waiting_without ws t)) t ≡ false
    by true q h = h
    by false q h = ap (λ (b : Bool). b || waits_in (waiting_without ws t) t) q ∙ h

-- a turn that goes on grants one that waits, takes it from those that wait, and lets the rights as they
-- are unless no exclusive request waits any more
record GoesOn (e : LockEntry) (d : Decision) (later : LockEntry) : Type 0 where
  w : Waiter
  right : Bool
  inside : Contains e.waiting w
  decision : d ≡ Grant w.tx w.mode right w.have
  waiting : later.waiting ≡ waiting_without e.waiting w.tx
  rights : (later.rights ≡ e.rights) ⊎ (writer_waits later.waiting ≡ false)

-- a turn that rests leaves a settled entry with the same that wait, grants nothing, and revokes nothing
-- or all
record Rests (e : LockEntry) (ds : List Decision) (later : LockEntry) : Type 0 where
  settled : IsSettled later
  grants : granted ds ≡ []
  waiting : later.waiting ≡ e.waiting
  revokes : (revoked ds ≡ []) ⊎ (revoked ds ≡ unrevoked e.rights)
  quiet : writer_waits e.waiting ≡ false → revoked ds ≡ []

abbrev IsTurn : LockEntry → Turn → Type 0
IsTurn e (Rest ds later) = Rests e ds later
IsTurn e (Next d later) = GoesOn e d later

shared_right : (owner : ℕ) (e : LockEntry) (w : Waiter) → gives_right owner e w ≡ true → writer_waits (waiting_without e.waiting w.tx) ≡ false
unfolding gives_right
shared_right owner e w g = not_true _ (and_right _ _ (and_right _ _ g))

shared_turn : (owner : ℕ) (e : LockEntry) (w : Waiter) → candidate e ≡ Some w → w.mode ≡ Shared → IsTurn e (turn_shared owner e w)
shared_turn owner e w q m = by (exclusive_beside e.holders w.tx) refl (gives_right owner e w) refl
  where
    by : (b : Bool) → exclusive_beside e.holders w.tx ≡ b → (g : Bool) → gives_right owner e w ≡ g
        → IsTurn e (pick b (Rest [] e) (Next (Grant w.tx Shared g w.have) (pick g (with_right e w) (with_reader e w))))
    by true x g h =
        record {
          settled = subst (λ (o : Option Waiter). IsSettledAt e o) (sym q) (subst (λ (k : Mode). IsBarred e w k) (sym m) x);
          grants = refl;
          waiting = refl;
          revokes = inl refl;
          quiet = λ a. refl;
        }
    by false x true h =
        record {
          w = w;
          right = true;
          inside = candidate_in e w q;
          decision = ap (λ (k : Mode). Grant w.tx k true w.have) (sym m);
          waiting = refl;
          rights = inr (shared_right owner e w h);
        }
    by false x false h =
        record {
          w = w;
          right = false;
          inside = candidate_in e w q;
          decision = ap (λ (k : Mode). Grant w.tx k false w.have) (sym m);
          waiting = refl;
          rights = inl refl;
        }

-- revocations grant nothing and revoke what wasn't revoked
no_grants : (rs : List RightMark) → granted (revocations rs) ≡ []
unfolding revocations
no_grants [] = refl
no_grants (r ∷ rs) = by r.revoked (revocations rs) (no_grants rs)
  where
    by : (b : Bool) (ds : List Decision) → granted ds ≡ [] → granted (pick b ds (Revoke r.node ∷ ds)) ≡ []
    by true ds h = h
    by false ds h = h

all_unrevoked : (rs : List RightMark) → revoked (revocations rs) ≡ unrevoked rs
unfolding revocations
all_unrevoked [] = refl
all_unrevoked (r ∷ rs) = by r.revoked (revocations rs) (unrevoked rs) (all_unrevoked rs)
  where
    by : (b : Bool) (ds : List Decision) (ns : List ℕ) → revoked ds ≡ ns → revoked (pick b ds (Revoke r.node ∷ ds)) ≡ pick b ns (r.node ∷ ns)
    by true ds ns h = h
    by false ds ns h = ap (λ l. r.node ∷ l) h

marks_revoked : (rs : List RightMark) → list_all (λ r. r.revoked) (all_revoked rs) ≡ true
marks_revoked [] = refl
marks_revoked (r ∷ rs) = marks_revoked rs

barred_exclusive : (held : Bool) (rs : List RightMark) → held || not (length rs == 0) ≡ true → (held ≡ true) ⊎ (1 ≤ length (all_revoked rs))
barred_exclusive true rs e = inl refl
barred_exclusive false [] e = absurd (cc)
barred_exclusive false (r ∷ rs) e = inr (omega arith)

candidate_kept : (e : LockEntry) (rs : List RightMark) → candidate (record e { rights = rs }) ≡ candidate e
unfolding candidate
candidate_kept e rs = refl

exclusive_turn : (e : LockEntry) (w : Waiter) → candidate e ≡ Some w → w.mode ≡ Exclusive → IsTurn e (turn_exclusive e w)
exclusive_turn e w q m = by (held_beside e.holders w.tx || not (length e.rights == 0)) refl
  where
    by : (b : Bool) → held_beside e.holders w.tx || not (length e.rights == 0) ≡ b
        → IsTurn e (pick b (Rest (revocations e.rights) (record e { rights = all_revoked e.rights })) (Next (Grant w.tx Exclusive false w.have) (with_writer e w)))
    by true x =
        let later : LockEntry = record e { rights = all_revoked e.rights } in
        let now : candidate later ≡ Some w = candidate_kept e (all_revoked e.rights) ∙ q in
        let barred : IsBarred later w Exclusive = (barred_exclusive (held_beside e.holders w.tx) e.rights x, marks_revoked e.rights) in
        record {
          settled = subst (λ (o : Option Waiter). IsSettledAt later o) (sym now) (subst (λ (k : Mode). IsBarred later w k) (sym m) barred);
          grants = no_grants e.rights;
          waiting = refl;
          revokes = inr (all_unrevoked e.rights);
          quiet = λ a. let there = writer_there e.waiting w (candidate_in e w q) m in absurd (cc);
        }
    by false x =
        record {
          w = w;
          right = false;
          inside = candidate_in e w q;
          decision = ap (λ (k : Mode). Grant w.tx k false w.have) (sym m);
          waiting = refl;
          rights = inl refl;
        }

turn_is : (owner : ℕ) (e : LockEntry) → IsTurn e (turn owner e)
unfolding turn
turn_is owner e = by (candidate e) refl
  where
    mode_by : (w : Waiter) → candidate e ≡ Some w → (k : Mode) → w.mode ≡ k → IsTurn e (turn_for owner e w k)
    mode_by w q Shared m = shared_turn owner e w q m
    mode_by w q Exclusive m = exclusive_turn e w q m

    by : (o : Option Waiter) → candidate e ≡ o → IsTurn e (turn_at owner e o)
    by None q =
        record {
          settled = empty_settled e (no_candidate e q);
          grants = refl;
          waiting = refl;
          revokes = inl refl;
          quiet = λ a. refl;
        }
    by (Some w) q = mode_by w q w.mode refl

-- after enough turns the entry is settled
settled_on : (n owner : ℕ) (e : LockEntry) (t : Turn) → IsTurn e t → length e.waiting ≤ suc n
    → ((later : LockEntry) → length later.waiting ≤ n → IsSettled (settle_within n owner later).entry)
    → IsSettled (go_on t (settle_within n owner)).entry
settled_on n owner e (Rest ds later) f long h = f.settled
settled_on n owner e (Next d later) f long h =
    let less = fewer e.waiting f.w.tx (waits e.waiting f.w f.inside) in
    let same = ap (λ (l : List Waiter). length l) f.waiting in
    h later (omega (arith, less, same))

settled_within : (n owner : ℕ) (e : LockEntry) → length e.waiting ≤ n → IsSettled (settle_within n owner e).entry
unfolding settle_within
settled_within zero owner e long = empty_settled e (none e.waiting long)
  where
    none : (ws : List Waiter) → length ws ≤ 0 → ws ≡ []
    none [] l = refl
    none (w ∷ ws) l = absurd (omega arith)
settled_within (suc n) owner e long = settled_on n owner e (turn owner e) (turn_is owner e) long (settled_within n owner)

pub settling_settles_law : SettlingSettles
unfolding settle
settling_settles_law owner e = settled_within (length e.waiting) owner e (omega arith)

-- what a turn that goes on grants first
first_granted : (e : LockEntry) (d : Decision) (later : LockEntry) (ds : List Decision) (f : GoesOn e d later) → granted (d ∷ ds) ≡ f.w ∷ granted ds
first_granted e d later ds f = ap (λ (x : Decision). granted (x ∷ ds)) f.decision

first_revoked : (e : LockEntry) (d : Decision) (later : LockEntry) (ds : List Decision) (f : GoesOn e d later) → revoked (d ∷ ds) ≡ revoked ds
first_revoked e d later ds f = ap (λ (x : Decision). revoked (x ∷ ds)) f.decision

-- what is granted waited
waited_on : (n owner : ℕ) (e : LockEntry) (t : Turn) → IsTurn e t → (w : Waiter)
    → ((later : LockEntry) → Contains (granted (settle_within n owner later).decisions) w → Contains later.waiting w)
    → Contains (granted (go_on t (settle_within n owner)).decisions) w → Contains e.waiting w
waited_on n owner e (Rest ds later) f w h c = absurd (contains_none w (subst (λ (l : List Waiter). Contains l w) f.grants c))
waited_on n owner e (Next d later) f w h c =
    let ds = (settle_within n owner later).decisions in
    elim (contains_split f.w w (granted ds) (subst (λ (l : List Waiter). Contains l w) (first_granted e d later ds f) c)) [
      | inl same ↦ subst (λ (x : Waiter). Contains e.waiting x) same f.inside
      | inr more ↦ contains_filtered (λ x. not (same_tx x.tx f.w.tx)) e.waiting w (subst (λ (l : List Waiter). Contains l w) f.waiting (h later more))
    ]

waited_within : (n owner : ℕ) (w : Waiter) (e : LockEntry) → Contains (granted (settle_within n owner e).decisions) w → Contains e.waiting w
unfolding settle_within
waited_within zero owner w e c = absurd (contains_none w c)
waited_within (suc n) owner w e c = waited_on n owner e (turn owner e) (turn_is owner e) w (waited_within n owner w) c

pub grants_waited_law : GrantsWaited
unfolding settle
grants_waited_law owner e w c = waited_within (length e.waiting) owner w e c

-- one that is granted waits no more
once_more : (ws : List Waiter) (u t : TxId) → waits_in ws u ≡ true
    → once_if (same_tx u t) + once_if (waits_in (waiting_without ws u) t) ≤ once_if (waits_in ws t)
once_more ws u t there = by (same_tx u t) refl
  where
    rest : (b c : Bool) → (b ≡ false → c ≡ false) → once_if c ≤ once_if b
    rest true true h = omega arith
    rest true false h = omega arith
    rest false true h = let no : true ≡ false = h refl in absurd (cc)
    rest false false h = omega arith

    by : (b : Bool) → same_tx u t ≡ b → once_if b + once_if (waits_in (waiting_without ws u) t) ≤ once_if (waits_in ws t)
    by true q =
        let same = same_equal u t q in
        let none : once_if (waits_in (waiting_without ws u) t) ≡ 0 =
        ap once_if (ap (λ (x : TxId). waits_in (waiting_without ws x) t) same ∙ gone ws t) in
        let one : once_if (waits_in ws t) ≡ 1 = ap once_if (ap (λ (x : TxId). waits_in ws x) (sym same) ∙ there) in
        omega (arith, none, one)
    by false q =
        let kept = rest (waits_in ws t) (waits_in (waiting_without ws u) t) (none_without (λ x. same_tx x.tx t) ws u) in omega (arith, kept)

once_on : (n owner : ℕ) (e : LockEntry) (turned : Turn) → IsTurn e turned → (t : TxId)
    → ((later : LockEntry) → count_of (granted (settle_within n owner later).decisions) t ≤ once_if (waits_in later.waiting t))
    → count_of (granted (go_on turned (settle_within n owner)).decisions) t ≤ once_if (waits_in e.waiting t)
once_on n owner e (Rest ds later) f t h =
    let none = ap (λ (l : List Waiter). count_of l t) f.grants in omega (arith, none)
once_on n owner e (Next d later) f t h =
    let ds = (settle_within n owner later).decisions in
    let front = ap (λ (l : List Waiter). count_of l t) (first_granted e d later ds f) in
    let now = ap (λ (l : List Waiter). once_if (waits_in l t)) f.waiting in
    omega (arith, front, h later, now, once_more e.waiting f.w.tx t (waits e.waiting f.w f.inside))

once_within : (n owner : ℕ) (t : TxId) (e : LockEntry) → count_of (granted (settle_within n owner e).decisions) t ≤ once_if (waits_in e.waiting t)
unfolding settle_within
once_within zero owner t e = omega arith
once_within (suc n) owner t e = once_on n owner e (turn owner e) (turn_is owner e) t (once_within n owner t)

pub grants_once_law : GrantsOnce
unfolding settle
grants_once_law owner e t = once_within (length e.waiting) owner t e

-- the others wait on
abbrev left_of : List Waiter → List Waiter → List Waiter
left_of ws gs = fold (λ l w. waiting_without l w.tx) ws gs

others_on : (n owner : ℕ) (e : LockEntry) (t : Turn) → IsTurn e t
    → ((later : LockEntry) → (settle_within n owner later).entry.waiting ≡ left_of later.waiting (granted (settle_within n owner later).decisions))
    → (go_on t (settle_within n owner)).entry.waiting ≡ left_of e.waiting (granted (go_on t (settle_within n owner)).decisions)
others_on n owner e (Rest ds later) f h = f.waiting ∙ sym (ap (λ (l : List Waiter). left_of e.waiting l) f.grants)
others_on n owner e (Next d later) f h =
    let ds = (settle_within n owner later).decisions in
    h later
    ∙ (ap (λ (l : List Waiter). left_of l (granted ds)) f.waiting
    ∙ sym (ap (λ (l : List Waiter). left_of e.waiting l) (first_granted e d later ds f)))

others_within : (n owner : ℕ) (e : LockEntry) → (settle_within n owner e).entry.waiting ≡ left_of e.waiting (granted (settle_within n owner e).decisions)
unfolding settle_within
others_within zero owner e = refl
others_within (suc n) owner e = others_on n owner e (turn owner e) (turn_is owner e) (others_within n owner)

pub others_wait_on_law : OthersWaitOn
unfolding settle
others_wait_on_law owner e = others_within (length e.waiting) owner e

-- where no exclusive request waits nothing is revoked
quiet_on : (n owner : ℕ) (e : LockEntry) (t : Turn) → IsTurn e t → writer_waits e.waiting ≡ false
    → ((later : LockEntry) → writer_waits later.waiting ≡ false → revoked (settle_within n owner later).decisions ≡ [])
    → revoked (go_on t (settle_within n owner)).decisions ≡ []
quiet_on n owner e (Rest ds later) f q h = f.quiet q
quiet_on n owner e (Next d later) f q h =
    let ds = (settle_within n owner later).decisions in
    first_revoked e d later ds f
    ∙ h later (ap writer_waits f.waiting ∙ none_without (λ x. is_exclusive x.mode) e.waiting f.w.tx q)

quiet_within : (n owner : ℕ) (e : LockEntry) → writer_waits e.waiting ≡ false → revoked (settle_within n owner e).decisions ≡ []
unfolding settle_within
quiet_within zero owner e q = refl
quiet_within (suc n) owner e q = quiet_on n owner e (turn owner e) (turn_is owner e) q (quiet_within n owner)

revokes_on : (n owner : ℕ) (e : LockEntry) (t : Turn) → IsTurn e t
    → ((later : LockEntry) → (revoked (settle_within n owner later).decisions ≡ []) ⊎ (revoked (settle_within n owner later).decisions ≡ unrevoked later.rights))
    → (revoked (go_on t (settle_within n owner)).decisions ≡ []) ⊎ (revoked (go_on t (settle_within n owner)).decisions ≡ unrevoked e.rights)
revokes_on n owner e (Rest ds later) f h = f.revokes
revokes_on n owner e (Next d later) f h =
    let ds = (settle_within n owner later).decisions in
    let first = first_revoked e d later ds f in
    elim f.rights [
      | inr none ↦ inl (first ∙ quiet_within n owner later none)
      | inl same ↦ elim (h later) [ inl a ↦ inl (first ∙ a) | inr b ↦ inr (first ∙ (b ∙ ap unrevoked same)) ]
    ]

revokes_within : (n owner : ℕ) (e : LockEntry) → (revoked (settle_within n owner e).decisions ≡ []) ⊎ (revoked (settle_within n owner e).decisions ≡ unrevoked e.rights)
unfolding settle_within
revokes_within zero owner e = inl refl
revokes_within (suc n) owner e = revokes_on n owner e (turn owner e) (turn_is owner e) (revokes_within n owner)

pub revokes_all_law : RevokesAll
unfolding settle
revokes_all_law owner e = revokes_within (length e.waiting) owner e
