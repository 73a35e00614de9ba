-- What keeps a lock entry compatible.
use Rattle.std.proofs.Common.{◌≡◌, inl, inr, ℕ, zero, suc, ◌==◌, ◌&&◌, ◌||◌, not, cond, Bool, true, false, List, [], ◌∷◌, ◌++◌, length, Option, Some, None, is_some, filter, Contains, refl, sym, ap, subst, ◌∙◌, arith, ne_eqb}
use Rattle.std.specs.List.{list_any}
use Rattle.pcl_base.specs.declared.tx.TxId.{TxId}
use Rattle.pcl_base.specs.declared.tx.Mode.{Mode}
use Rattle.pcl_base.specs.declared.tx.Mode.TheVariants.{Shared, Exclusive}
use Rattle.pcl_base.specs.declared.lock.Holder.{Holder}
use Rattle.pcl_base.specs.declared.lock.Waiter.{Waiter}
use Rattle.pcl_base.specs.declared.lock.RightMark.{RightMark}
use Rattle.pcl_base.specs.declared.lock.Decision.TheVariants.{Grant}
use Rattle.node_rules.specs.Words.{pick, same_tx, is_exclusive, covers, flag_at}
use Rattle.node_rules.specs.LockRule.{LockEntry, Turn, Rest, Next, mode_of, turn, turn_at, turn_for, turn_shared, turn_exclusive, go_on, settle_within, settle, candidate, held_beside, exclusive_beside, waits_in, has_right, rights_without, gives_right, with_right, with_reader, with_writer, hold_alone, revocations, all_revoked, register, ask, end_tx, returned, purge}
use Rattle.rule_laws.specs.Compatible.{HasNoWriter, IsCompatible, WriterIsAlone, IdleIsCompatible, AskKeeps, SettlingKeeps, EndKeeps, ReturnKeeps, PurgeKeeps}
use Rattle.rule_laws.proofs.Lists.{any_in}
use Rattle.rule_laws.proofs.Turns.{same_self, same_equal, gone, candidate_in, waits}

-- whether a holder is exclusive
abbrev writes : List Holder → Bool
writes hs = list_any (λ h. is_exclusive h.mode) hs

or_false : (a b : Bool) → a || b ≡ false → (a ≡ false) × (b ≡ false)
or_false false b e = (refl, e)
or_false true b e = absurd (cc)

or_both : (a b : Bool) → a ≡ false → b ≡ false → a || b ≡ false
or_both a b p q = ap (λ (x : Bool). x || b) p ∙ q

-- a test that no item passes, after a filter and after a push
any_filtered : {X : Type 0} (p q : X → Bool) (xs : List X) → list_any p xs ≡ false → list_any p (filter q xs) ≡ false
any_filtered p q [] e = refl
any_filtered {X} p q (x ∷ xs) e = by (q x) (any_filtered p q xs (or_false (p x) (list_any p xs) e).1)
  where
    by : (b : Bool) → list_any p (filter q xs) ≡ false → list_any p (cond b (x ∷ filter q xs) (filter q xs)) ≡ false
    by true h = or_both (p x) (list_any p (filter q xs)) (or_false (p x) (list_any p xs) e).0 h
    by false h = h

any_pushed : {X : Type 0} (p : X → Bool) (xs : List X) (y : X) → list_any p xs ≡ false → p y ≡ false → list_any p (xs ++ y ∷ []) ≡ false
any_pushed p [] y e q = or_both (p y) false q refl
any_pushed p (x ∷ xs) y e q =
    let o = or_false (p x) (list_any p xs) e in or_both (p x) (list_any p (xs ++ y ∷ [])) o.0 (any_pushed p xs y o.1 q)

-- an exclusive holder stands beside every other transaction
mode_found : (h : Holder) (hs : List Holder) (t : TxId) (b : Bool) → same_tx h.tx t ≡ b → mode_of (h ∷ hs) t ≡ pick b (Some h.mode) (mode_of hs t)
unfolding mode_of
mode_found h hs t b q = ap (λ (x : Bool). pick x (Some h.mode) (mode_of hs t)) q

stands_beside : (hs : List Holder) (t u : TxId) → mode_of hs t ≡ Some Exclusive → same_tx t u ≡ false → exclusive_beside hs u ≡ true
unfolding mode_of
stands_beside [] t u e other = absurd (cc)
stands_beside (h ∷ hs) t u e other = by (same_tx h.tx t) refl (mode_of hs t) (λ q. stands_beside hs t u q other) e
  where
    by : (b : Bool) → same_tx h.tx t ≡ b → (o : Option Mode) → (o ≡ Some Exclusive → exclusive_beside hs u ≡ true) → pick b (Some h.mode) o ≡ Some Exclusive
        → (not (same_tx h.tx u) && is_exclusive h.mode) || exclusive_beside hs u ≡ true
    by true q o f r =
        let mode : h.mode ≡ Exclusive = cc in
        let same = same_equal h.tx t q in
        ap (λ (x : Bool). (not x && is_exclusive h.mode) || exclusive_beside hs u) (ap (λ (x : TxId). same_tx x u) same ∙ other)
        ∙ ap (λ (m : Mode). is_exclusive m || exclusive_beside hs u) mode
    by false q o f r = ap (λ (x : Bool). (not (same_tx h.tx u) && is_exclusive h.mode) || x) (f r) ∙ or_true (not (same_tx h.tx u) && is_exclusive h.mode)
      where
        or_true : (b : Bool) → b || true ≡ true
        or_true true = refl
        or_true false = refl

-- the only holder isn't one that waits
not_waiting : (ws : List Waiter) (t : TxId) (w : Waiter) → waits_in ws t ≡ false → Contains ws w → same_tx t w.tx ≡ false
not_waiting ws t w none c = by (same_tx t w.tx) refl
  where
    by : (b : Bool) → same_tx t w.tx ≡ b → b ≡ false
    by false q = refl
    by true q =
        let same = same_equal t w.tx q in
        let there : waits_in ws t ≡ true = ap (λ (x : TxId). waits_in ws x) same ∙ waits ws w c in
        cc

-- a shared grant is given only where no holder is exclusive
no_writer : (e : LockEntry) (w : Waiter) → IsCompatible e → candidate e ≡ Some w → exclusive_beside e.holders w.tx ≡ false → HasNoWriter e
no_writer e w (inl n) q beside = n
no_writer e w (inr o) q beside =
    let only = o.1 in
    let apart = not_waiting e.waiting o.0 w only.settled (candidate_in e w q) in
    let there = stands_beside e.holders o.0 w.tx only.exclusive apart in
    absurd (cc)

-- what holds the page alone
alone_mode : (hs : List Holder) (t : TxId) → mode_of (hold_alone hs t) t ≡ Some Exclusive
unfolding mode_of hold_alone
alone_mode [] t = ap (λ (x : Bool). pick x (Some Exclusive) None) (same_self t)
alone_mode (h ∷ hs) t = by (same_tx h.tx t) refl (alone_mode hs t)
  where
    by : (b : Bool) → same_tx h.tx t ≡ b → mode_of (hold_alone hs t) t ≡ Some Exclusive
        → mode_of (pick b (record { tx = t; mode = Exclusive } ∷ hs) (h ∷ hold_alone hs t)) t ≡ Some Exclusive
    by true q r = ap (λ (x : Bool). pick x (Some Exclusive) (mode_of hs t)) (same_self t)
    by false q r = ap (λ (x : Bool). pick x (Some h.mode) (mode_of (hold_alone hs t) t)) q ∙ r

alone_beside : (hs : List Holder) (t : TxId) → held_beside hs t ≡ false → held_beside (hold_alone hs t) t ≡ false
unfolding hold_alone
alone_beside [] t e = ap (λ (x : Bool). not x || false) (same_self t)
alone_beside (h ∷ hs) t e = by (same_tx h.tx t) refl (or_false (not (same_tx h.tx t)) (held_beside hs t) e) (alone_beside hs t)
  where
    by : (b : Bool) → same_tx h.tx t ≡ b → (not (same_tx h.tx t) ≡ false) × (held_beside hs t ≡ false) → (held_beside hs t ≡ false → held_beside (hold_alone hs t) t ≡ false)
        → held_beside (pick b (record { tx = t; mode = Exclusive } ∷ hs) (h ∷ hold_alone hs t)) t ≡ false
    by true q o r = ap (λ (x : Bool). not x || held_beside hs t) (same_self t) ∙ o.1
    by false q o r = or_both (not (same_tx h.tx t)) (held_beside (hold_alone hs t) t) o.0 (r o.1)

empty_rights : (rs : List RightMark) → not (length rs == 0) ≡ false → rs ≡ []
empty_rights [] e = refl
empty_rights (r ∷ rs) e =
    let some : length (r ∷ rs) == 0 ≡ false = ne_eqb (length (r ∷ rs)) 0 (λ n. omega arith) in
    let bad : true ≡ false = ap not (sym some) ∙ e in
    absurd (cc)

-- a turn keeps the entry compatible
abbrev KeepsTurn : LockEntry → Turn → Type 0
KeepsTurn e (Rest ds later) = IsCompatible later
KeepsTurn e (Next d later) = IsCompatible later

shared_keeps : (owner : ℕ) (e : LockEntry) (w : Waiter) → IsCompatible e → candidate e ≡ Some w → KeepsTurn e (turn_shared owner e w)
shared_keeps owner e w i q = by (exclusive_beside e.holders w.tx) refl (gives_right owner e w)
  where
    by : (b : Bool) → exclusive_beside e.holders w.tx ≡ b → (g : Bool)
        → KeepsTurn e (pick b (Rest [] e) (Next (Grant w.tx Shared g w.have) (pick g (with_right e w) (with_reader e w))))
    by true x g = i
    by false x true = inl (no_writer e w i q x)
    by false x false = inl (any_pushed (λ h. is_exclusive h.mode) e.holders (record { tx = w.tx; mode = Shared }) (no_writer e w i q x) refl)

exclusive_keeps : (e : LockEntry) (w : Waiter) → IsCompatible e → KeepsTurn e (turn_exclusive e w)
exclusive_keeps e w i = by (held_beside e.holders w.tx || not (length e.rights == 0)) refl i
  where
    by : (b : Bool) → held_beside e.holders w.tx || not (length e.rights == 0) ≡ b → IsCompatible e
        → KeepsTurn e (pick b (Rest (revocations e.rights) (record e { rights = all_revoked e.rights })) (Next (Grant w.tx Exclusive false w.have) (with_writer e w)))
    by true x (inl n) = inl n
    by true x (inr o) =
        let only = o.1 in
        inr (o.0, record { exclusive = only.exclusive; alone = only.alone; no_rights = ap all_revoked only.no_rights; settled = only.settled })
    by false x j =
        let both = or_false (held_beside e.holders w.tx) (not (length e.rights == 0)) x in
        inr (
          w.tx,
          record {
            exclusive = alone_mode e.holders w.tx;
            alone = alone_beside e.holders w.tx both.0;
            no_rights = empty_rights e.rights both.1;
            settled = gone e.waiting w.tx;
          },
        )

turn_keeps : (owner : ℕ) (e : LockEntry) → IsCompatible e → KeepsTurn e (turn owner e)
unfolding turn
turn_keeps owner e i = by (candidate e) refl
  where
    mode_by : (w : Waiter) → candidate e ≡ Some w → (k : Mode) → KeepsTurn e (turn_for owner e w k)
    mode_by w q Shared = shared_keeps owner e w i q
    mode_by w q Exclusive = exclusive_keeps e w i

    by : (o : Option Waiter) → candidate e ≡ o → KeepsTurn e (turn_at owner e o)
    by None q = i
    by (Some w) q = mode_by w q w.mode

keeps_on : (n owner : ℕ) (e : LockEntry) (t : Turn) → KeepsTurn e t
    → ((later : LockEntry) → IsCompatible later → IsCompatible (settle_within n owner later).entry)
    → IsCompatible (go_on t (settle_within n owner)).entry
keeps_on n owner e (Rest ds later) f h = f
keeps_on n owner e (Next d later) f h = h later f

keeps_within : (n owner : ℕ) (e : LockEntry) → IsCompatible e → IsCompatible (settle_within n owner e).entry
unfolding settle_within
keeps_within zero owner e i = i
keeps_within (suc n) owner e i = keeps_on n owner e (turn owner e) (turn_keeps owner e i) (keeps_within n owner)

pub settling_keeps_law : SettlingKeeps
unfolding settle
settling_keeps_law owner e i = keeps_within (length e.waiting) owner e i

pub idle_is_compatible_law : IdleIsCompatible
idle_is_compatible_law v = inl refl

-- a request
covered : (e : LockEntry) (t : TxId) (w : Waiter) → mode_of e.holders t ≡ Some Exclusive → same_tx w.tx t ≡ true → covers (mode_of e.holders w.tx) w.mode ≡ true
covered e t w x q =
    let same = same_equal w.tx t q in
    ap (λ (u : TxId). covers (mode_of e.holders u) w.mode) same ∙ ap (λ (o : Option Mode). covers o w.mode) x

pub ask_keeps_law : AskKeeps
unfolding ask
ask_keeps_law e w i = by (waits_in e.waiting w.tx || covers (mode_of e.holders w.tx) w.mode) refl i
  where
    by : (b : Bool) → waits_in e.waiting w.tx || covers (mode_of e.holders w.tx) w.mode ≡ b → IsCompatible e
        → IsCompatible (pick b e (record e { waiting = e.waiting ++ w ∷ [] }))
    by true x j = j
    by false x (inl n) = inl n
    by false x (inr o) =
        let only = o.1 in
        let both = or_false (waits_in e.waiting w.tx) (covers (mode_of e.holders w.tx) w.mode) x in
        inr (
          o.0,
          record {
            exclusive = only.exclusive;
            alone = only.alone;
            no_rights = only.no_rights;
            settled = any_pushed (λ x. same_tx x.tx o.0) e.waiting w only.settled (apart o.0 only.exclusive both.1 (same_tx w.tx o.0) refl);
          },
        )
      where
        apart : (t : TxId) → mode_of e.holders t ≡ Some Exclusive → covers (mode_of e.holders w.tx) w.mode ≡ false → (b : Bool) → same_tx w.tx t ≡ b → b ≡ false
        apart t m c false q = refl
        apart t m c true q = let there = covered e t w m q in absurd (cc)

-- holders that pass a test which a transaction passes, or which it doesn't
passing_mode : (p : TxId → Bool) (hs : List Holder) (t : TxId) → p t ≡ true → mode_of (filter (λ h. p h.tx) hs) t ≡ mode_of hs t
unfolding mode_of
passing_mode p [] t e = refl
passing_mode p (h ∷ hs) t e = by (p h.tx) refl (same_tx h.tx t) refl (passing_mode p hs t e)
  where
    by : (b : Bool) → p h.tx ≡ b → (c : Bool) → same_tx h.tx t ≡ c → mode_of (filter (λ h. p h.tx) hs) t ≡ mode_of hs t
        → mode_of (cond b (h ∷ filter (λ h. p h.tx) hs) (filter (λ h. p h.tx) hs)) t ≡ pick c (Some h.mode) (mode_of hs t)
    by true x c q r = ap (λ (y : Bool). pick y (Some h.mode) (mode_of (filter (λ h. p h.tx) hs) t)) q ∙ ap (λ (o : Option Mode). pick c (Some h.mode) o) r
    by false x false q r = r
    by false x true q r = let passes : p h.tx ≡ true = ap p (same_equal h.tx t q) ∙ e in absurd (cc)

failing_all : (p : TxId → Bool) (hs : List Holder) (t : TxId) → p t ≡ false → held_beside hs t ≡ false → filter (λ h. p h.tx) hs ≡ []
failing_all p [] t e a = refl
failing_all p (h ∷ hs) t e a =
    let o = or_false (not (same_tx h.tx t)) (held_beside hs t) a in
    let fails : p h.tx ≡ false = ap p (same_equal h.tx t (not_false (same_tx h.tx t) o.0)) ∙ e in
    ap (λ (b : Bool). cond b (h ∷ filter (λ h. p h.tx) hs) (filter (λ h. p h.tx) hs)) fails ∙ failing_all p hs t e o.1
  where
    not_false : (b : Bool) → not b ≡ false → b ≡ true
    not_false true x = refl
    not_false false x = absurd (cc)

-- an entry of which the holders that pass a test stay
filtered_keeps : (p : TxId → Bool) (q : Waiter → Bool) (r : RightMark → Bool) (e : LockEntry) (v : ℕ) → IsCompatible e
    → IsCompatible (record { version = v; holders = filter (λ h. p h.tx) e.holders; rights = filter r e.rights; waiting = filter q e.waiting })
filtered_keeps p q r e v (inl n) = inl (any_filtered (λ h. is_exclusive h.mode) (λ h. p h.tx) e.holders n)
filtered_keeps p q r e v (inr o) = by (p o.0) refl
  where
    by : (b : Bool) → p o.0 ≡ b → IsCompatible (record { version = v; holders = filter (λ h. p h.tx) e.holders; rights = filter r e.rights; waiting = filter q e.waiting })
    by true x =
        inr (
          o.0,
          record {
            exclusive = passing_mode p e.holders o.0 x ∙ o.1.exclusive;
            alone = any_filtered (λ h. not (same_tx h.tx o.0)) (λ h. p h.tx) e.holders o.1.alone;
            no_rights = ap (filter r) o.1.no_rights;
            settled = any_filtered (λ w. same_tx w.tx o.0) q e.waiting o.1.settled;
          },
        )
    by false x = inl (ap writes (failing_all p e.holders o.0 x o.1.alone))

all_pass : (rs : List RightMark) → filter (λ r. true) rs ≡ rs
all_pass [] = refl
all_pass (r ∷ rs) = ap (λ l. r ∷ l) (all_pass rs)

pub end_keeps_law : EndKeeps
unfolding end_tx
end_keeps_law e t change i =
    let later = end_tx e t change in
    subst (λ (rs : List RightMark). IsCompatible (record later { rights = rs })) (all_pass e.rights)
    (filtered_keeps (λ u. not (same_tx u t)) (λ w. not (same_tx w.tx t)) (λ r. true) e later.version i)

pub purge_keeps_law : PurgeKeeps
unfolding purge
purge_keeps_law e live i = filtered_keeps (λ u. flag_at live u.node) (λ w. flag_at live w.tx.node) (λ r. flag_at live r.node) e e.version i

-- a right that comes back
registered_keeps : (hs : List Holder) (ts : List TxId) → writes hs ≡ false → writes (register hs ts) ≡ false
unfolding register
registered_keeps hs [] n = n
registered_keeps hs (t ∷ ts) n = registered_keeps (pick (is_some (mode_of hs t)) hs (hs ++ record { tx = t; mode = Shared } ∷ [])) ts (by (is_some (mode_of hs t)))
  where
    by : (b : Bool) → writes (pick b hs (hs ++ record { tx = t; mode = Shared } ∷ [])) ≡ false
    by true = n
    by false = any_pushed (λ h. is_exclusive h.mode) hs (record { tx = t; mode = Shared }) n refl

pub return_keeps_law : ReturnKeeps
unfolding returned
return_keeps_law e n readers i = by (has_right e.rights n) refl i
  where
    by : (b : Bool) → has_right e.rights n ≡ b → IsCompatible e
        → IsCompatible (pick b (record e { rights = rights_without e.rights n; holders = register e.holders readers }) e)
    by false x j = j
    by true x (inl none) = inl (registered_keeps e.holders readers none)
    by true x (inr o) = let none : has_right e.rights n ≡ false = ap (λ (rs : List RightMark). has_right rs n) o.1.no_rights in absurd (cc)

-- an exclusive holder of a compatible entry
only_tx : (hs : List Holder) (t : TxId) (h : Holder) → held_beside hs t ≡ false → Contains hs h → h.tx ≡ t
only_tx hs t h alone c = same_equal h.tx t (by (same_tx h.tx t) refl)
  where
    by : (b : Bool) → same_tx h.tx t ≡ b → b ≡ true
    by true q = refl
    by false q = let beside : held_beside hs t ≡ true = any_in (λ g. not (same_tx g.tx t)) hs h c (ap not q) in absurd (cc)

pub writer_is_alone_law : WriterIsAlone
writer_is_alone_law e h other (inl none) c m d =
    let there : writes e.holders ≡ true = any_in (λ g. is_exclusive g.mode) e.holders h c (ap is_exclusive m) in absurd (cc)
writer_is_alone_law e h other (inr o) c m d =
    (only_tx e.holders o.0 other o.1.alone d ∙ sym (only_tx e.holders o.0 h o.1.alone c), o.1.no_rights)
