-- Entries after messages, against items and rights.
use Rattle.std.proofs.Common.{◌≡◌, refl, ap, sym, ◌∙◌, ℕ, ◌==◌, ◌&&◌, ◌||◌, not, cond, Bool, true, false, List, [], ◌∷◌, ◌++◌, eqb-true, arith}
use Rattle.std.specs.List.{AllByRecursion, filter, list_any}
use Rattle.std.proofs.lemmas.Bool.Decides.{nat_tests}
use Rattle.pcl_base.specs.declared.tx.Mode.{Mode}
use Rattle.pcl_base.specs.declared.tx.Mode.TheVariants.{Shared, Exclusive}
use Rattle.pcl_base.specs.declared.tx.TxId.{TxId}
use Rattle.pcl_base.specs.declared.lock.RightMark.{RightMark}
use Rattle.pcl_base.specs.declared.lock.Waiter.{Waiter}
use Rattle.run_rules.specs.Causes.{may_revoke}
use Rattle.run_rules.specs.Ledger.{Want, Out, is_want, wants_page, is_out, same_mode}
use Rattle.node_rules.specs.LockRule.{waits_in, has_right, rights_without, mode_of, register, ask, end_tx, returned, reported_right, purge}
use Rattle.node_rules.specs.Words.{pick, same_tx, covers, flag_at}
use Rattle.home_laws.proofs.Tests.{and_left, not_true, number_same, tx_same, tx_equal}
use Rattle.node_laws.proofs.Lists.{all_push, all_weaker, all_filter}
use Rattle.account_relation.specs.Settle.Settling.{has_item, AreWanted, AreOut}
use Rattle.account_relation.specs.Entry.Entries.{AskingIsWanted, EndingIsWanted, PurgingIsWanted, ReturningIsOut, ReportingIsOut, PurgingIsOut}

either : (a b : Bool) → b ≡ true → a || b ≡ true
either true b e = refl
either false b e = e

-- ---- items

item_more : (ws : List Want) (x : Want) (t : TxId) (p : ℕ) (m : Mode) → has_item ws t p m ≡ true → has_item (ws ++ x ∷ []) t p m ≡ true
item_more [] x t p m has = absurd (cc)
item_more (y ∷ ys) x t p m has = by (is_want t p m y) refl has (item_more ys x t p m)
  where
    by : (b : Bool) → is_want t p m y ≡ b → b || has_item ys t p m ≡ true → (has_item ys t p m ≡ true → has_item (ys ++ x ∷ []) t p m ≡ true) → is_want t p m y || has_item (ys ++ x ∷ []) t p m ≡ true
    by true is has rest = ap (λ b. b || has_item (ys ++ x ∷ []) t p m) is
    by false is has rest = ap (λ b. b || has_item (ys ++ x ∷ []) t p m) is ∙ rest has

own_mode : (m : Mode) → same_mode m m ≡ true
own_mode Shared = refl
own_mode Exclusive = refl

item_last : (ws : List Want) (t : TxId) (p : ℕ) (m : Mode) → has_item (ws ++ record { tx = t; page = p; mode = m } ∷ []) t p m ≡ true
item_last [] t p m = all_three (same_tx t t) (p == p) (same_mode m m) (tx_same t) (number_same p) (own_mode m)
  where
    all_three : (a b c : Bool) → a ≡ true → b ≡ true → c ≡ true → ((a && b) && c) || false ≡ true
    all_three a b c x y z = cc
item_last (y ∷ ys) t p m = either (is_want t p m y) (has_item (ys ++ record { tx = t; page = p; mode = m } ∷ []) t p m) (item_last ys t p m)

pub asking_is_wanted_law : AskingIsWanted
unfolding ask
asking_is_wanted_law owner p e ws w are = by (waits_in e.waiting w.tx || covers (mode_of e.holders w.tx) w.mode)
  where
    more : AreWanted owner p (ws ++ record { tx = w.tx; page = p; mode = w.mode } ∷ []) e.waiting
    more =
        all_weaker (λ (x : Waiter). (x.tx.node == owner) ≡ false → has_item ws x.tx p x.mode ≡ true)
        (λ (x : Waiter). (x.tx.node == owner) ≡ false → has_item (ws ++ record { tx = w.tx; page = p; mode = w.mode } ∷ []) x.tx p x.mode ≡ true)
        (λ x has foreign. item_more ws (record { tx = w.tx; page = p; mode = w.mode }) x.tx p x.mode (has foreign)) e.waiting are

    by : (b : Bool) → AreWanted owner p (ws ++ record { tx = w.tx; page = p; mode = w.mode } ∷ []) (pick b e (record e { waiting = e.waiting ++ w ∷ [] })).waiting
    by true = more
    by false =
        all_push (λ (x : Waiter). (x.tx.node == owner) ≡ false → has_item (ws ++ record { tx = w.tx; page = p; mode = w.mode } ∷ []) x.tx p x.mode ≡ true) e.waiting w more (λ foreign. item_last ws w.tx p w.mode)

-- an item of another transaction stays
item_stays : (ws : List Want) (t u : TxId) (p : ℕ) (m : Mode) → same_tx u t ≡ false → has_item ws u p m ≡ true → has_item (filter (λ w. not (wants_page t p w)) ws) u p m ≡ true
item_stays [] t u p m other has = has
item_stays (y ∷ ys) t u p m other has = by (is_want u p m y) (wants_page t p y) refl refl has (item_stays ys t u p m other)
  where
    apart : is_want u p m y ≡ true → wants_page t p y ≡ true → ⊥
    apart a b =
        let first = tx_equal y.tx u (and_left (same_tx y.tx u) (y.page == p) (and_left (same_tx y.tx u && y.page == p) (same_mode y.mode m) a)) in
        let second : same_tx y.tx t ≡ true = and_left (same_tx y.tx t) (y.page == p) b in
        let bad : same_tx u t ≡ true = ap (λ (x : TxId). same_tx x t) (sym first) ∙ second in
        cc

    kept : List Want
    kept = filter (λ w. not (wants_page t p w)) ys

    by : (a b : Bool) → is_want u p m y ≡ a → wants_page t p y ≡ b → a || has_item ys u p m ≡ true → (has_item ys u p m ≡ true → has_item kept u p m ≡ true)
        → has_item (cond (not (wants_page t p y)) (y ∷ kept) kept) u p m ≡ true
    by true true a b has rest = absurd (apart a b)
    by true false a b has rest = ap (λ x. has_item (cond (not x) (y ∷ kept) kept) u p m) b ∙ ap (λ x. x || has_item kept u p m) a
    by false true a b has rest = ap (λ x. has_item (cond (not x) (y ∷ kept) kept) u p m) b ∙ rest has
    by false false a b has rest = ap (λ x. has_item (cond (not x) (y ∷ kept) kept) u p m) b ∙ ap (λ x. x || has_item kept u p m) a ∙ rest has

-- the rest of a list, and what its items have by a test
all_filtered : {X : Type 0} (P Q : X → Type 0) (f : X → Bool) → ((x : X) → f x ≡ true → P x → Q x) → (xs : List X) → AllByRecursion P xs → AllByRecursion Q (filter f xs)
all_filtered P Q f k [] all = tt
all_filtered P Q f k (x ∷ xs) all = by (f x) refl (all_filtered P Q f k xs all.1)
  where
    by : (b : Bool) → f x ≡ b → AllByRecursion Q (filter f xs) → AllByRecursion Q (cond b (x ∷ filter f xs) (filter f xs))
    by true is rest = (k x is all.0, rest)
    by false is rest = rest

pub ending_is_wanted_law : EndingIsWanted
unfolding end_tx
ending_is_wanted_law owner p e ws t change are =
    all_filtered (λ (x : Waiter). (x.tx.node == owner) ≡ false → has_item ws x.tx p x.mode ≡ true)
    (λ (x : Waiter). (x.tx.node == owner) ≡ false → has_item (filter (λ w. not (wants_page t p w)) ws) x.tx p x.mode ≡ true) (λ (x : Waiter). not (same_tx x.tx t))
    (λ x other has foreign. item_stays ws t x.tx p x.mode (not_true (same_tx x.tx t) other) (has foreign)) e.waiting are

pub purging_is_wanted_law : PurgingIsWanted
unfolding purge
purging_is_wanted_law owner p e ws live are =
    all_filter (λ (x : Waiter). (x.tx.node == owner) ≡ false → has_item ws x.tx p x.mode ≡ true) (λ (w : Waiter). flag_at live w.tx.node) e.waiting are

-- ---- rights

out_more : (p n m : ℕ) (outs : List Out) → list_any (may_revoke m p) outs ≡ true → list_any (may_revoke m p) (outs ++ record { node = n; page = p; revoked = false } ∷ []) ≡ true
out_more p n m [] has = absurd (cc)
out_more p n m (y ∷ ys) has = by (may_revoke m p y) refl has (out_more p n m ys)
  where
    by : (b : Bool) → may_revoke m p y ≡ b → b || list_any (may_revoke m p) ys ≡ true
        → (list_any (may_revoke m p) ys ≡ true → list_any (may_revoke m p) (ys ++ record { node = n; page = p; revoked = false } ∷ []) ≡ true)
        → may_revoke m p y || list_any (may_revoke m p) (ys ++ record { node = n; page = p; revoked = false } ∷ []) ≡ true
    by true is has rest = ap (λ b. b || list_any (may_revoke m p) (ys ++ record { node = n; page = p; revoked = false } ∷ [])) is
    by false is has rest = ap (λ b. b || list_any (may_revoke m p) (ys ++ record { node = n; page = p; revoked = false } ∷ [])) is ∙ rest has

all_more : (p n : ℕ) (outs : List Out) (rs : List RightMark) → AreOut p outs rs → AreOut p (outs ++ record { node = n; page = p; revoked = false } ∷ []) rs
all_more p n outs [] are = tt
all_more p n outs (r ∷ rs) are = ((λ free. out_more p n r.node outs (are.0 free)), are.1, all_more p n outs rs are.2)

-- fewer marks: a node that has none among all has none among some
fewer_marks : (f : RightMark → Bool) (rs : List RightMark) (n : ℕ) → has_right rs n ≡ false → has_right (filter f rs) n ≡ false
fewer_marks f [] n none = none
fewer_marks f (r ∷ rs) n none = by (r.node == n) (f r) refl none (fewer_marks f rs n)
  where
    by : (a b : Bool) → (r.node == n) ≡ a → a || has_right rs n ≡ false → (has_right rs n ≡ false → has_right (filter f rs) n ≡ false) → has_right (cond b (r ∷ filter f rs) (filter f rs)) n ≡ false
    by true b is none rest = absurd (cc)
    by false true is none rest = ap (λ x. x || has_right (filter f rs) n) is ∙ rest none
    by false false is none rest = rest none

purged_marks : (p : ℕ) (outs : List Out) (f : RightMark → Bool) (rs : List RightMark) → AreOut p outs rs → AreOut p outs (filter f rs)
purged_marks p outs f [] are = tt
purged_marks p outs f (r ∷ rs) are = by (f r) (purged_marks p outs f rs are.2)
  where
    by : (b : Bool) → AreOut p outs (filter f rs) → AreOut p outs (cond b (r ∷ filter f rs) (filter f rs))
    by true rest = (are.0, fewer_marks f rs r.node are.1, rest)
    by false rest = rest

pub purging_is_out_law : PurgingIsOut
unfolding purge
purging_is_out_law p e outs live are = purged_marks p outs (λ (r : RightMark). flag_at live r.node) e.rights are

new_out : (p n : ℕ) (outs : List Out) → list_any (may_revoke n p) (outs ++ record { node = n; page = p; revoked = false } ∷ []) ≡ true
new_out p n [] = all_true (n == n) (p == p) (number_same n) (number_same p)
  where
    all_true : (a b : Bool) → a ≡ true → b ≡ true → ((a && b) && true) || false ≡ true
    all_true a b x y = cc
new_out p n (y ∷ ys) = either (may_revoke n p y) (list_any (may_revoke n p) (ys ++ record { node = n; page = p; revoked = false } ∷ [])) (new_out p n ys)
  where
    either : (a b : Bool) → b ≡ true → a || b ≡ true
    either true b e = refl
    either false b e = e

-- marks of which none is of a node, and one of it
no_other : (rs : List RightMark) (n m : ℕ) (r : RightMark) → r.node ≡ n → has_right rs m ≡ false → (m == n) ≡ false → has_right (rs ++ r ∷ []) m ≡ false
no_other [] n m r is none other = by (r.node == m) refl
  where
    by : (b : Bool) → (r.node == m) ≡ b → b || false ≡ false
    by true e = absurd (grind (arith, nat_tests, e, is, other))
    by false e = refl
no_other (x ∷ rs) n m r is none other = by (x.node == m) refl none (no_other rs n m r is)
  where
    by : (b : Bool) → (x.node == m) ≡ b → b || has_right rs m ≡ false → (has_right rs m ≡ false → (m == n) ≡ false → has_right (rs ++ r ∷ []) m ≡ false) → (x.node == m) || has_right (rs ++ r ∷ []) m ≡ false
    by true e none rest = absurd (cc)
    by false e none rest = ap (λ b. b || has_right (rs ++ r ∷ []) m) e ∙ rest none other

none_is : (rs : List RightMark) (x : RightMark) (n : ℕ) → has_right (x ∷ rs) n ≡ false → ((x.node == n) ≡ false) × (has_right rs n ≡ false)
none_is rs x n none = by (x.node == n) none
  where
    by : (b : Bool) → b || has_right rs n ≡ false → (b ≡ false) × (has_right rs n ≡ false)
    by true e = absurd (cc)
    by false e = (refl, e)

out_pushed : (p n : ℕ) (outs : List Out) (rs : List RightMark) → has_right rs n ≡ false → AreOut p outs rs
    → AreOut p (outs ++ record { node = n; page = p; revoked = false } ∷ []) (rs ++ record { node = n; revoked = false } ∷ [])
out_pushed p n outs [] none are = ((λ free. new_out p n outs), refl, tt)
out_pushed p n outs (x ∷ rs) none are =
    let apart = none_is rs x n none in (
      (λ free. out_more p n x.node outs (are.0 free)),
      no_other rs n x.node (record { node = n; revoked = false }) refl are.1 apart.0,
      out_pushed p n outs rs apart.1 are.2,
    )

pub reporting_is_out_law : ReportingIsOut
unfolding reported_right
reporting_is_out_law p n e outs are = by (has_right e.rights n) refl
  where
    by : (b : Bool) → has_right e.rights n ≡ b
        → AreOut p (outs ++ record { node = n; page = p; revoked = false } ∷ []) (pick b e (record e { rights = e.rights ++ record { node = n; revoked = false } ∷ [] })).rights
    by true is = all_more p n outs e.rights are
    by false is = out_pushed p n outs e.rights is are

-- a right of another node stays
out_stays : (p n m : ℕ) (outs : List Out) → (m == n) ≡ false → list_any (may_revoke m p) outs ≡ true → list_any (may_revoke m p) (filter (λ r. not (is_out n p r)) outs) ≡ true
out_stays p n m [] other has = has
out_stays p n m (y ∷ ys) other has = by (may_revoke m p y) (is_out n p y) refl refl has (out_stays p n m ys other)
  where
    apart : may_revoke m p y ≡ true → is_out n p y ≡ true → ⊥
    apart a b =
        let first = eqb-true y.node m (and_left (y.node == m) (y.page == p) (and_left (y.node == m && y.page == p) (not y.revoked) a)) in
        let second = eqb-true y.node n (and_left (y.node == n) (y.page == p) b) in
        let same : m ≡ n = sym first ∙ second in
        grind (arith, nat_tests, other, same)

    kept : List Out
    kept = filter (λ r. not (is_out n p r)) ys

    by : (a b : Bool) → may_revoke m p y ≡ a → is_out n p y ≡ b → a || list_any (may_revoke m p) ys ≡ true → (list_any (may_revoke m p) ys ≡ true → list_any (may_revoke m p) kept ≡ true)
        → list_any (may_revoke m p) (cond (not (is_out n p y)) (y ∷ kept) kept) ≡ true
    by true true a b has rest = absurd (apart a b)
    by true false a b has rest = ap (λ x. list_any (may_revoke m p) (cond (not x) (y ∷ kept) kept)) b ∙ ap (λ x. x || list_any (may_revoke m p) kept) a
    by false true a b has rest = ap (λ x. list_any (may_revoke m p) (cond (not x) (y ∷ kept) kept)) b ∙ rest has
    by false false a b has rest = ap (λ x. list_any (may_revoke m p) (cond (not x) (y ∷ kept) kept)) b ∙ ap (λ x. x || list_any (may_revoke m p) kept) a ∙ rest has

-- where a node has none of the rights, all others stay out
others_stay : (p n : ℕ) (outs : List Out) (rs : List RightMark) → has_right rs n ≡ false → AreOut p outs rs → AreOut p (filter (λ r. not (is_out n p r)) outs) rs
others_stay p n outs [] none are = tt
others_stay p n outs (r ∷ rs) none are =
    let apart = none_is rs r n none in ((λ free. out_stays p n r.node outs apart.0 (are.0 free)), are.1, others_stay p n outs rs apart.1 are.2)

none_left : (rs : List RightMark) (n : ℕ) → has_right (rights_without rs n) n ≡ false
none_left [] n = refl
none_left (r ∷ rs) n = by (r.node == n) refl (none_left rs n)
  where
    by : (b : Bool) → (r.node == n) ≡ b → has_right (rights_without rs n) n ≡ false → has_right (cond (not (r.node == n)) (r ∷ rights_without rs n) (rights_without rs n)) n ≡ false
    by true is rest = ap (λ x. has_right (cond (not x) (r ∷ rights_without rs n) (rights_without rs n)) n) is ∙ rest
    by false is rest = ap (λ x. has_right (cond (not x) (r ∷ rights_without rs n) (rights_without rs n)) n) is ∙ ap (λ x. x || has_right (rights_without rs n) n) is ∙ rest

pub returning_is_out_law : ReturningIsOut
unfolding returned
returning_is_out_law p n e outs readers are = by (has_right e.rights n) refl
  where
    by : (b : Bool) → has_right e.rights n ≡ b
        → AreOut p (filter (λ r. not (is_out n p r)) outs) (pick b (record e { rights = rights_without e.rights n; holders = register e.holders readers }) e).rights
    by true is = others_stay p n outs (rights_without e.rights n) (none_left e.rights n) (purged_marks p outs (λ (r : RightMark). not (r.node == n)) e.rights are)
    by false is = others_stay p n outs e.rights is are
