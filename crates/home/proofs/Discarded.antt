-- The private copies of a transaction, given up one after the other.
use Rattle.std.proofs.Common.{◌≡◌, ℕ, zero, suc, ◌+◌, ◌<◌, ◌≤◌, ◌==◌, ◌&&◌, ◌||◌, not, cond, Bool, true, false, List, [], ◌∷◌, ◌++◌, length, take, drop, get_or, map, Option, Some, None, is_some, refl, ap, sym, ◌∙◌, arith}
use Rattle.std.proofs.Math.Seq.{drop-cons}
use Rattle.std.proofs.Math.ListN.{drop_of_length-le}
use Rattle.std.proofs.lemmas.List.{take_all}
use Rattle.std.specs.List.{All, filter, fold}
use Rattle.std.proofs.lemmas.List.Folds.{fold-map}
use Rattle.std.proofs.lemmas.List.Elements.{All-nil, All-cons, All-weaker}
use Rattle.pcl_base.specs.declared.tx.TxId.{TxId}
use Rattle.pcl_base.specs.declared.lock.Held.{Held}
use Rattle.pcl_base.specs.declared.lock.Pending.{Pending}
use Rattle.node_rules.specs.Words.{pick, same_tx, is_exclusive}
use Rattle.node_rules.specs.OpenTxs.{lock_on}
use Rattle.node_rules.specs.BufferRule.{Pool, PrivateCopy, private_in, has_private, is_private, discard}
use Rattle.node_rules.specs.EndRule.{discard_all}
use Rattle.home_laws.specs.Homes.{AreOnce, is_exclusive_lock, is_write_of}
use Rattle.home_laws.proofs.Words.{and_true, equal, swap_test, self_test}
use Rattle.home_laws.proofs.Privates.{undiscarded}
use Rattle.home.specs.Ends.{discard_last, listed}
use Rattle.home.proofs.Removed.{removes, removes_all}

-- the pages of locks, given up one after the other
abbrev pub step : TxId → Pool → Held → Pool
step t b h = discard b t h.page

abbrev pub discards : TxId → Pool → List Held → Pool
discards t b hs = fold (step t) b hs

-- nothing is given up where there is no private copy
none_of : (t : TxId) (p : ℕ) (xs : List PrivateCopy) → is_some (private_in xs t p) ≡ false → filter (λ x. not (is_private t p x)) xs ≡ xs
unfolding private_in
none_of t p [] none = refl
none_of t p (x ∷ xs) none = by_test (is_private t p x) none (none_of t p xs)
  where
    by_test : (b : Bool) → is_some (pick b (Some x) (private_in xs t p)) ≡ false → (is_some (private_in xs t p) ≡ false → filter (λ y. not (is_private t p y)) xs ≡ xs)
        → cond (not b) (x ∷ filter (λ y. not (is_private t p y)) xs) (filter (λ y. not (is_private t p y)) xs) ≡ x ∷ xs
    by_test true none rest = absurd (cc)
    by_test false none rest = ap (λ l. x ∷ l) (rest none)

pub discard_none : (b : Pool) (t : TxId) (p : ℕ) → has_private b t p ≡ false → discard b t p ≡ b
unfolding discard
discard_none b t p none = ap (λ (l : List PrivateCopy). let c : Pool = record b { privates = l } in c) (none_of t p b.privates none)

-- what stays of the other pages
pub stays : (b : Pool) (t : TxId) (p q : ℕ) → (q == p) ≡ false → has_private (discard b t p) t q ≡ has_private b t q
stays b t p q other = ap is_some (undiscarded b t t p q (by_both (same_tx t t)))
  where
    by_both : (x : Bool) → (x && q == p) ≡ false
    by_both true = other
    by_both false = refl

-- no later lock is on this page
apart : (p : ℕ) (gs : List Held) (j : ℕ) (e : Held) → lock_on gs p ≡ None → j < length gs → (p == (get_or gs j e).page) ≡ false
unfolding lock_on
apart p [] j e none within = absurd (omega arith)
apart p (g ∷ gs) zero e none within = first (g.page == p) refl none
  where
    first : (b : Bool) → (g.page == p) ≡ b → pick b (Some g) (lock_on gs p) ≡ None → (p == g.page) ≡ false
    first true e none = absurd (cc)
    first false e none = swap_test p g.page ∙ e
apart p (g ∷ gs) (suc j) e none within = later (g.page == p) none (λ n. apart p gs j e n (omega arith))
  where
    later : (b : Bool) → pick b (Some g) (lock_on gs p) ≡ None → (lock_on gs p ≡ None → (p == (get_or gs j e).page) ≡ false) → (p == (get_or gs j e).page) ≡ false
    later true none rest = absurd (cc)
    later false none rest = rest none

-- a lock isn't among those before it
pub once_before : (hs : List Held) (i : ℕ) (d : Held) → AreOnce hs → i < length hs → lock_on (take i hs) (get_or hs i d).page ≡ None
unfolding lock_on
once_before [] i d once within = absurd (omega arith)
once_before (h ∷ hs) zero d once within = refl
once_before (h ∷ hs) (suc i) d once within = ap (λ b. pick b (Some h) (lock_on (take i hs) (get_or hs i d).page)) (apart h.page hs i d once.0 (omega arith)) ∙ once_before hs i d once.1 (omega arith)

-- which pages aren't among the first ones
pub before_next : (hs : List Held) (i : ℕ) (d : Held) (p : ℕ) → i < length hs → lock_on (take (suc i) hs) p ≡ None
    → (lock_on (take i hs) p ≡ None) × ((get_or hs i d).page == p) ≡ false
unfolding lock_on
before_next [] i d p within none = absurd (omega arith)
before_next (h ∷ hs) zero d p within none = (refl, first (h.page == p) none)
  where
    first : (b : Bool) → pick b (Some h) None ≡ None → b ≡ false
    first true none = absurd (cc)
    first false none = refl
before_next (h ∷ hs) (suc i) d p within none = later (h.page == p) refl none (before_next hs i d p (omega arith))
  where
    later : (b : Bool) → (h.page == p) ≡ b → pick b (Some h) (lock_on (take (suc i) hs) p) ≡ None
        → (lock_on (take (suc i) hs) p ≡ None → (lock_on (take i hs) p ≡ None) × ((get_or hs i d).page == p) ≡ false)
        → (pick (h.page == p) (Some h) (lock_on (take i hs) p) ≡ None) × ((get_or hs i d).page == p) ≡ false
    later true e none rest = absurd (cc)
    later false e none rest =
        let parts = rest none in
        (ap (λ b. pick b (Some h) (lock_on (take i hs) p)) e ∙ parts.0, parts.1)

-- the lock at a place is the one on its page
pub once_found : (hs : List Held) (i : ℕ) (d : Held) → AreOnce hs → i < length hs → lock_on hs (get_or hs i d).page ≡ Some (get_or hs i d)
unfolding lock_on
once_found [] i d once within = absurd (omega arith)
once_found (h ∷ hs) zero d once within = ap (λ b. pick b (Some h) (lock_on hs h.page)) (self_test h.page)
once_found (h ∷ hs) (suc i) d once within =
    let rest = once_found hs i d once.1 (omega arith) in
    ap (λ b. pick b (Some h) (lock_on hs (get_or hs i d).page)) (apart (h.page == (get_or hs i d).page) refl rest) ∙ rest
  where
    apart : (b : Bool) → (h.page == (get_or hs i d).page) ≡ b → lock_on hs (get_or hs i d).page ≡ Some (get_or hs i d) → b ≡ false
    apart true e found =
        let same = ap (lock_on hs) (equal h.page (get_or hs i d).page e) in
        let bad : None ≡ Some (get_or hs i d) = sym once.0 ∙ (same ∙ found) in
        absurd (cc)
    apart false e found = refl

abbrev pub drops : TxId → Pool → List ℕ → Pool
drops t b ps = fold (λ c p. discard c t p) b ps

-- a private copy of the transaction is found by its page
found_more : (t : TxId) (p : ℕ) (y : PrivateCopy) (xs : List PrivateCopy) → is_some (private_in xs t p) ≡ true → is_some (private_in (y ∷ xs) t p) ≡ true
unfolding private_in
found_more t p y xs there = by_test (is_private t p y)
  where
    by_test : (b : Bool) → is_some (pick b (Some y) (private_in xs t p)) ≡ true
    by_test true = refl
    by_test false = there

found_first : (t : TxId) (x : PrivateCopy) (xs : List PrivateCopy) → same_tx x.tx t ≡ true → is_some (private_in (x ∷ xs) t x.page) ≡ true
unfolding private_in
found_first t x xs own =
    let page = self_test x.page in
    let here : (same_tx x.tx t && x.page == x.page) ≡ true = (λ i. own i && page i) in
    ap (λ b. is_some (pick b (Some x) (private_in xs t x.page))) here

pub all_found : (t : TxId) (xs : List PrivateCopy) → All (λ x. same_tx x.tx t ≡ true → is_some (private_in xs t x.page) ≡ true) xs
all_found t [] = All-nil (λ x. same_tx x.tx t ≡ true → is_some (private_in [] t x.page) ≡ true)
all_found t (x ∷ xs) =
    All-cons (λ y. same_tx y.tx t ≡ true → is_some (private_in (x ∷ xs) t y.page) ≡ true) x xs (found_first t x xs)
    (All-weaker (λ y. same_tx y.tx t ≡ true → is_some (private_in xs t y.page) ≡ true) (λ y. same_tx y.tx t ≡ true → is_some (private_in (x ∷ xs) t y.page) ≡ true)
    (λ y there own. found_more t y.page x xs (there own)) xs (all_found t xs))

-- all copies of a transaction are given up by their pages
drops_are : (t : TxId) (ps : List ℕ) (b : Pool) → drops t b ps ≡ record b { privates = removes (λ (x : PrivateCopy). same_tx x.tx t) (λ (x : PrivateCopy). x.page) b.privates ps }
unfolding discard
drops_are t [] b = refl
drops_are t (p ∷ ps) b = drops_are t ps (discard b t p)

pub drops_all : (t : TxId) (ps : List ℕ) (b : Pool) → All (λ x. same_tx x.tx t ≡ true → listed ps x.page ≡ true) b.privates → drops t b ps ≡ discard_all b t
drops_all t ps b all =
    drops_are t ps b
    ∙ ap (λ (l : List PrivateCopy). let c : Pool = record b { privates = l } in c) (removes_all (λ (x : PrivateCopy). same_tx x.tx t) (λ (x : PrivateCopy). x.page) ps b.privates all)

-- the pages of locks
pub listed_locks : (hs : List Held) (p : ℕ) → listed (map (λ h. h.page) hs) p ≡ is_some (lock_on hs p)
unfolding lock_on
listed_locks [] p = refl
listed_locks (h ∷ hs) p = by_test (h.page == p) (listed_locks hs p)
  where
    by_test : (b : Bool) → listed (map (λ g. g.page) hs) p ≡ is_some (lock_on hs p) → (b || listed (map (λ g. g.page) hs) p) ≡ is_some (pick b (Some h) (lock_on hs p))
    by_test true rest = refl
    by_test false rest = rest

listed_more : (ps : List ℕ) (q p : ℕ) → listed (ps ++ q ∷ []) p ≡ (listed ps p || q == p)
listed_more [] q p = by_test (q == p)
  where
    by_test : (b : Bool) → (b || false) ≡ b
    by_test true = refl
    by_test false = refl
listed_more (x ∷ xs) q p = by_test (x == p) (listed_more xs q p)
  where
    by_test : (b : Bool) → listed (xs ++ q ∷ []) p ≡ (listed xs p || q == p) → (b || listed (xs ++ q ∷ []) p) ≡ ((b || listed xs p) || q == p)
    by_test true rest = refl
    by_test false rest = rest

drops_more : (t : TxId) (ps : List ℕ) (q : ℕ) (b : Pool) → drops t b (ps ++ q ∷ []) ≡ discard (drops t b ps) t q
drops_more t [] q b = refl
drops_more t (p ∷ ps) q b = drops_more t ps q (discard b t p)

discards_are : (t : TxId) (hs : List Held) (b : Pool) → discards t b hs ≡ drops t b (map (λ h. h.page) hs)
discards_are t hs b = sym (fold-map (λ c p. discard c t p) (λ (h : Held). h.page) b hs)

-- a page with a private copy is locked, or the page of a waiting write
abbrev pub HasCopies : TxId → List Held → Option Pending → Pool → Type 0
HasCopies t hs w b = (p : ℕ) → has_private b t p ≡ (is_exclusive_lock (lock_on hs p) || is_write_of w p)

is_locked : (o : Option Held) → is_exclusive_lock o ≡ true → is_some o ≡ true
is_locked None e = absurd (cc)
is_locked (Some h) e = refl

of_locks : (t : TxId) (hs : List Held) (w : Option Pending) (b : Pool) → HasCopies t hs w b → ((p : ℕ) → is_write_of w p ≡ true → is_some (lock_on hs p) ≡ true)
    → All (λ x. same_tx x.tx t ≡ true → listed (map (λ h. h.page) hs) x.page ≡ true) b.privates
of_locks t hs w b copies waits =
    All-weaker (λ x. same_tx x.tx t ≡ true → is_some (private_in b.privates t x.page) ≡ true) (λ x. same_tx x.tx t ≡ true → listed (map (λ h. h.page) hs) x.page ≡ true)
    (λ x there own. listed_locks hs x.page ∙ either (is_exclusive_lock (lock_on hs x.page)) (is_write_of w x.page) (is_locked (lock_on hs x.page)) (waits x.page) (sym (copies x.page) ∙ there own)) b.privates (all_found t b.privates)
  where
    either : {P : Type 0} (c d : Bool) → (c ≡ true → P) → (d ≡ true → P) → (c || d) ≡ true → P
    either true d f g e = f refl
    either false d f g e = g e

of_all : (t : TxId) (hs : List Held) (x : Pending) (b : Pool) → HasCopies t hs (Some x) b
    → All (λ y. same_tx y.tx t ≡ true → listed (map (λ h. h.page) hs ++ x.page ∷ []) y.page ≡ true) b.privates
of_all t hs x b copies =
    All-weaker (λ y. same_tx y.tx t ≡ true → is_some (private_in b.privates t y.page) ≡ true) (λ y. same_tx y.tx t ≡ true → listed (map (λ h. h.page) hs ++ x.page ∷ []) y.page ≡ true)
    (λ y there own.
    listed_more (map (λ h. h.page) hs) x.page y.page
    ∙ (ap (λ d. d || x.page == y.page) (listed_locks hs y.page)
    ∙ either (lock_on hs y.page) (x.page == y.page) (is_some x.write) (sym (copies y.page) ∙ there own))) b.privates (all_found t b.privates)
  where
    either : (o : Option Held) (c d : Bool) → (is_exclusive_lock o || (c && d)) ≡ true → (is_some o || c) ≡ true
    either (Some h) c d e = refl
    either None true d e = refl
    either None false d e = absurd (cc)

-- after the locks the copy of a waiting write, and none is left
pub last_discarded : (t : TxId) (hs : List Held) (w : Option Pending) (b : Pool) → HasCopies t hs w b → discard_last (discards t b hs) t hs w ≡ discard_all b t
last_discarded t hs None b copies =
    discards_are t hs b ∙ drops_all t (map (λ h. h.page) hs) b (of_locks t hs None b copies (λ p e. absurd (cc)))
last_discarded t hs (Some x) b copies = by_write (is_some x.write) (is_some (lock_on hs x.page)) refl refl
  where
    by_write : (c d : Bool) → is_some x.write ≡ c → is_some (lock_on hs x.page) ≡ d
        → pick (c && not d) (discard (discards t b hs) t x.page) (discards t b hs) ≡ discard_all b t
    by_write true false e f =
        ap (λ y. discard y t x.page) (discards_are t hs b)
        ∙ (sym (drops_more t (map (λ h. h.page) hs) x.page b)
        ∙ drops_all t (map (λ h. h.page) hs ++ x.page ∷ []) b (of_all t hs x b copies))
    by_write true true e f =
        discards_are t hs b ∙ drops_all t (map (λ h. h.page) hs) b (of_locks t hs (Some x) b copies (λ p waits. ap (λ q. is_some (lock_on hs q)) (sym (equal x.page p (and_true (x.page == p) (is_some x.write) waits).0)) ∙ f))
    by_write false d e f =
        discards_are t hs b ∙ drops_all t (map (λ h. h.page) hs) b (of_locks t hs (Some x) b copies (λ p waits. let bad : false ≡ true = sym e ∙ (and_true (x.page == p) (is_some x.write) waits).1 in absurd (cc)))

-- one lock more, whose private copy is given up where it is there
pub discard_next : (t : TxId) (hs : List Held) (i : ℕ) (d : Held) (w : Option Pending) (first b c : Pool) → AreOnce hs → i < length hs
    → c ≡ discard b t (get_or hs i d).page → discards t b (drop i hs) ≡ discards t first hs
    → ((p : ℕ) → lock_on (take i hs) p ≡ None → has_private b t p ≡ (is_exclusive_lock (lock_on hs p) || is_write_of w p))
    → (discards t c (drop (i + 1) hs) ≡ discards t first hs)
    × ((p : ℕ) → lock_on (take (i + 1) hs) p ≡ None → has_private c t p ≡ (is_exclusive_lock (lock_on hs p) || is_write_of w p))
discard_next t hs i d w first b c once within changed rest copies =
    let more : suc i ≡ i + 1 = omega arith in (
      ap (λ x. discards t x (drop (i + 1) hs)) changed
          ∙ (ap (λ n. discards t (discard b t (get_or hs i d).page) (drop n hs)) (sym more)
          ∙ (ap (discards t b) (sym (drop-cons hs i d within)) ∙ rest)),
      λ p none.
          let parts = before_next hs i d p within (ap (λ n. lock_on (take n hs) p) more ∙ none) in
          ap (λ x. has_private x t p) changed
          ∙ (stays b t (get_or hs i d).page p (swap_test p (get_or hs i d).page ∙ parts.1) ∙ copies p parts.0),
    )

-- the copy of a lock's page
pub copy_there : (t : TxId) (hs : List Held) (i : ℕ) (d : Held) (w : Option Pending) (b : Pool) → AreOnce hs → i < length hs
    → ((p : ℕ) → lock_on (take i hs) p ≡ None → has_private b t p ≡ (is_exclusive_lock (lock_on hs p) || is_write_of w p))
    → has_private b t (get_or hs i d).page ≡ (is_exclusive (get_or hs i d).mode || is_write_of w (get_or hs i d).page)
copy_there t hs i d w b once within copies =
    copies (get_or hs i d).page (once_before hs i d once within)
    ∙ ap (λ o. is_exclusive_lock o || is_write_of w (get_or hs i d).page) (once_found hs i d once within)

-- nothing is given up where there is no copy
pub none_next : (t : TxId) (hs : List Held) (i : ℕ) (d : Held) (w : Option Pending) (first b : Pool) → AreOnce hs → i < length hs
    → has_private b t (get_or hs i d).page ≡ false → discards t b (drop i hs) ≡ discards t first hs
    → ((p : ℕ) → lock_on (take i hs) p ≡ None → has_private b t p ≡ (is_exclusive_lock (lock_on hs p) || is_write_of w p))
    → (discards t b (drop (i + 1) hs) ≡ discards t first hs)
    × ((p : ℕ) → lock_on (take (i + 1) hs) p ≡ None → has_private b t p ≡ (is_exclusive_lock (lock_on hs p) || is_write_of w p))
none_next t hs i d w first b once within none rest copies =
    discard_next t hs i d w first b b once within (sym (discard_none b t (get_or hs i d).page none)) rest copies

-- after all locks
pub none_listed : (t : TxId) (hs : List Held) (i p : ℕ) (w : Option Pending) (b : Pool) → length hs ≤ i
    → ((q : ℕ) → lock_on (take i hs) q ≡ None → has_private b t q ≡ (is_exclusive_lock (lock_on hs q) || is_write_of w q))
    → lock_on hs p ≡ None → has_private b t p ≡ is_write_of w p
none_listed t hs i p w b over copies none =
    copies p (ap (λ l. lock_on l p) (take_all i hs over) ∙ none) ∙ ap (λ o. is_exclusive_lock o || is_write_of w p) none

pub all_discarded : (t : TxId) (hs : List Held) (i : ℕ) (w : Option Pending) (first b : Pool) → length hs ≤ i → HasCopies t hs w first
    → discards t b (drop i hs) ≡ discards t first hs → discard_last b t hs w ≡ discard_all first t
all_discarded t hs i w first b over copies rest =
    let same : b ≡ discards t first hs = ap (discards t b) (sym (drop_of_length-le hs over)) ∙ rest in
    ap (λ x. discard_last x t hs w) same ∙ last_discarded t hs w first copies
