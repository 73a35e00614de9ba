-- A lock in the place of the one on its page, else last.
use Rattle.std.proofs.Common.{◌≡◌, ℕ, zero, suc, ◌+◌, ◌<◌, ◌==◌, nat_lt, Bool, true, false, not, cond, Option, Some, None, is_some, List, [], ◌∷◌, ◌++◌, length, set, get_or, refl, ap, sym, ◌∙◌, arith}
use Rattle.std.proofs.lemmas.Bool.Decides.{nat_tests}
use Rattle.std.specs.List.{position, position_or_len}
use Rattle.pcl_base.specs.declared.lock.Held.{Held}
use Rattle.pcl_base.specs.declared.lock.Kind.{Kind}
use Rattle.pcl_base.specs.declared.lock.Pending.{Pending}
use Rattle.node_rules.specs.Words.{pick}
use Rattle.node_rules.specs.OpenTxs.{OpenTx, lock_on, put_lock, waits_on, with_lock, kind_on}

-- whether a lock is on a page
abbrev pub is_on : ℕ → Held → Bool
is_on p h = h.page == p

some_number : (m n : ℕ) → Some m ≡ Some n → m ≡ n
some_number m n same = cc

pub position_some : (c : Bool) (n i : ℕ) → cond c (Some n) None ≡ Some i → (c ≡ true) × (n ≡ i)
position_some true n i same = (refl, some_number n i same)
position_some false n i same = absurd (cc)

pub position_none : (c : Bool) (n : ℕ) → cond c (Some n) None ≡ None → c ≡ false
position_none true n none = absurd (cc)
position_none false n none = refl

less_before : (n k : ℕ) → nat_lt (1 + n) (suc k) ≡ true → nat_lt n k ≡ true
less_before n k less = grind (arith, nat_tests)

not_less_before : (n k : ℕ) → nat_lt (1 + n) (suc k) ≡ false → nat_lt n k ≡ false
not_less_before n k more = grind (arith, nat_tests)

zero_less : (k : ℕ) → nat_lt 0 (suc k) ≡ false → ⊥
zero_less k more = grind (arith, nat_tests)

put_case : (h l : Held) (hs : List Held) (n : ℕ) (b : Bool) → nat_lt (cond (not b) (1 + n) 0) (suc (length hs)) ≡ true
    → (nat_lt n (length hs) ≡ true → set hs n l ≡ put_lock hs l)
    → set (h ∷ hs) (cond (not b) (1 + n) 0) l ≡ pick b (l ∷ hs) (h ∷ put_lock hs l)
put_case h l hs n true less rest = refl
put_case h l hs n false less rest =
    let next : 1 + n ≡ suc n = omega arith in
    ap (λ k. set (h ∷ hs) k l) next ∙ ap (λ xs. h ∷ xs) (rest (less_before n (length hs) less))

put_found : (hs : List Held) (l : Held) → nat_lt (position_or_len (is_on l.page) hs) (length hs) ≡ true
    → set hs (position_or_len (is_on l.page) hs) l ≡ put_lock hs l
unfolding put_lock
put_found [] l less = absurd (cc)
put_found (h ∷ hs) l less = put_case h l hs (position_or_len (is_on l.page) hs) (h.page == l.page) less (put_found hs l)

-- a write at the place of the page's lock
pub put_at : (hs : List Held) (l : Held) (i : ℕ) → position (is_on l.page) hs ≡ Some i → set hs i l ≡ put_lock hs l
put_at hs l i found =
    let parts = position_some (nat_lt (position_or_len (is_on l.page) hs) (length hs)) (position_or_len (is_on l.page) hs) i found in
    ap (λ k. set hs k l) (sym parts.1) ∙ put_found hs l parts.0

pub place_within : (hs : List Held) (p i : ℕ) → position (is_on p) hs ≡ Some i → i < length hs
place_within hs p i found =
    let parts = position_some (nat_lt (position_or_len (is_on p) hs) (length hs)) (position_or_len (is_on p) hs) i found in
    less_than (position_or_len (is_on p) hs) (length hs) i parts.0 parts.1
  where
    less_than : (m k i : ℕ) → nat_lt m k ≡ true → m ≡ i → i < k
    less_than m k i less same = grind (arith, nat_tests)

last_case : (h l : Held) (hs : List Held) (n : ℕ) (b : Bool) → nat_lt (cond (not b) (1 + n) 0) (suc (length hs)) ≡ false
    → (nat_lt n (length hs) ≡ false → hs ++ l ∷ [] ≡ put_lock hs l)
    → (h ∷ hs) ++ l ∷ [] ≡ pick b (l ∷ hs) (h ∷ put_lock hs l)
last_case h l hs n true more rest = absurd (zero_less (length hs) more)
last_case h l hs n false more rest = ap (λ xs. h ∷ xs) (rest (not_less_before n (length hs) more))

put_absent : (hs : List Held) (l : Held) → nat_lt (position_or_len (is_on l.page) hs) (length hs) ≡ false → hs ++ l ∷ [] ≡ put_lock hs l
unfolding put_lock
put_absent [] l more = refl
put_absent (h ∷ hs) l more = last_case h l hs (position_or_len (is_on l.page) hs) (h.page == l.page) more (put_absent hs l)

-- a lock on a page that isn't held goes last
pub put_last : (hs : List Held) (l : Held) → position (is_on l.page) hs ≡ None → hs ++ l ∷ [] ≡ put_lock hs l
put_last hs l none = put_absent hs l (position_none (nat_lt (position_or_len (is_on l.page) hs) (length hs)) (position_or_len (is_on l.page) hs) none)

none_case : (h : Held) (hs : List Held) (p n : ℕ) (b : Bool) → nat_lt (cond (not b) (1 + n) 0) (suc (length hs)) ≡ false
    → (nat_lt n (length hs) ≡ false → lock_on hs p ≡ None) → pick b (Some h) (lock_on hs p) ≡ None
none_case h hs p n true more rest = absurd (zero_less (length hs) more)
none_case h hs p n false more rest = rest (not_less_before n (length hs) more)

none_on : (hs : List Held) (p : ℕ) → nat_lt (position_or_len (is_on p) hs) (length hs) ≡ false → lock_on hs p ≡ None
unfolding lock_on
none_on [] p more = refl
none_on (h ∷ hs) p more = none_case h hs p (position_or_len (is_on p) hs) (h.page == p) more (none_on hs p)

-- no lock is on a page without a place
pub lock_none : (hs : List Held) (p : ℕ) → position (is_on p) hs ≡ None → lock_on hs p ≡ None
lock_none hs p none = none_on hs p (position_none (nat_lt (position_or_len (is_on p) hs) (length hs)) (position_or_len (is_on p) hs) none)

-- a transaction with a lock
pub with_lock_is : (o : OpenTx) (l : Held) (ps : List Held) (ws : Option Pending) (b : Bool) → ps ≡ put_lock o.pages l → waits_on o.waiting l.page ≡ b
    → ws ≡ pick b None o.waiting → record { serial = o.serial; pages = ps; waiting = ws } ≡ with_lock l o
with_lock_is o l ps ws b pages test waiting =
    let ended : ws ≡ pick (waits_on o.waiting l.page) None o.waiting = waiting ∙ ap (λ c. pick c None o.waiting) (sym test) in
    λ i. record { serial = o.serial; pages = pages i; waiting = ended i }

-- what is waited for is there
pub some_waits : (w : Option Pending) (p : ℕ) → waits_on w p ≡ true → is_some w ≡ true
some_waits None p waits = absurd (cc)
some_waits (Some w) p waits = refl

-- the first n locks have another kind, if they are on the page
pub kinds : ℕ → List Held → ℕ → Kind → List Held
kinds zero hs p k = hs
kinds (suc n) [] p k = []
kinds (suc n) (h ∷ hs) p k = pick (h.page == p) (record h { kind = k }) h ∷ kinds n hs p k

kinds_more : (n : ℕ) (hs : List Held) (p : ℕ) (k : Kind) (d : Held) → n < length hs
    → set (kinds n hs p k) n (pick ((get_or (kinds n hs p k) n d).page == p) (record (get_or (kinds n hs p k) n d) { kind = k }) (get_or (kinds n hs p k) n d)) ≡ kinds (suc n) hs p k
unfolding kinds
kinds_more zero [] p k d within = absurd (omega arith)
kinds_more zero (h ∷ hs) p k d within = refl
kinds_more (suc n) [] p k d within = absurd (omega arith)
kinds_more (suc n) (h ∷ hs) p k d within =
    ap (λ l. pick (h.page == p) (record h { kind = k }) h ∷ l) (kinds_more n hs p k d (omega arith))

pub kinds_none : (hs : List Held) (p : ℕ) (k : Kind) → kinds 0 hs p k ≡ hs
unfolding kinds
kinds_none hs p k = refl

kinds_all : (hs : List Held) (p : ℕ) (k : Kind) → kinds (length hs) hs p k ≡ kind_on hs p k
unfolding kinds kind_on
kinds_all [] p k = refl
kinds_all (h ∷ hs) p k = ap (λ l. pick (h.page == p) (record h { kind = k }) h ∷ l) (kinds_all hs p k)

-- one more lock has its kind
pub kinds_step : (now first : List Held) (n p : ℕ) (k : Kind) (d x : Held) → now ≡ kinds n first p k → n < length first
    → x ≡ pick ((get_or now n d).page == p) (record (get_or now n d) { kind = k }) (get_or now n d) → set now n x ≡ kinds (n + 1) first p k
kinds_step now first n p k d x same within new =
    let next : suc n ≡ n + 1 = omega arith in
    ap (λ y. set now n y) new
    ∙ (ap (λ l. set l n (pick ((get_or l n d).page == p) (record (get_or l n d) { kind = k }) (get_or l n d))) same
    ∙ (kinds_more n first p k d within ∙ ap (λ m. kinds m first p k) next))

-- all have theirs
pub kinds_end : (now first : List Held) (n p : ℕ) (k : Kind) → now ≡ kinds n first p k → n ≡ length first → now ≡ kind_on first p k
kinds_end now first n p k same whole = same ∙ (ap (λ m. kinds m first p k) whole ∙ kinds_all first p k)
