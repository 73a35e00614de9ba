-- The locks of the open transactions on pages of a partition get a kind.
use Rattle.std.proofs.Common.{◌≡◌, ℕ, zero, suc, ◌+◌, ◌<◌, ◌≤◌, ◌==◌, ◌%◌, ◌&&◌, Bool, true, false, List, [], ◌∷◌, length, map, drop, get_or, Option, Some, None, is_some, refl, ap, sym, subst, ◌∙◌, arith}
use Rattle.std.proofs.Math.Seq.{drop-cons}
use Rattle.std.proofs.Math.ListN.{drop_of_length-le}
use Rattle.std.proofs.lemmas.Bool.Decides.{nat_tests}
use Rattle.std.proofs.lemmas.List.Elements.{All-nil, All-cons}
use Rattle.std.specs.Prelude.{⊤}
use Rattle.std.specs.List.{All, fold}
use Rattle.pcl_base.specs.Limits.{Sizes}
use Rattle.pcl_base.specs.declared.tx.TxId.{TxId}
use Rattle.pcl_base.specs.declared.lock.Held.{Held}
use Rattle.pcl_base.specs.declared.lock.Kind.{Kind}
use Rattle.node_rules.specs.Words.{pick}
use Rattle.node_rules.specs.OpenTxs.{OpenTx, OpenTxs, is_own, with_serial, locks_of, pages_of_open, lock_on, kind_on, name_of, change_open, change_tx, set_kind}
use Rattle.tx_table.specs.Counts.{waits_in, wait_count}
use Rattle.home_laws.specs.Homes.{AreSerials}
use Rattle.home_laws.proofs.OneTx.{unchanged}
use Rattle.home.specs.Moves.{with_kinds, kind_if}
use Rattle.home.proofs.Turned.{turned, turned_all, turned_none, self_listed}

abbrev pub page_held : Held → ℕ
page_held h = h.page

abbrev pub of_kind : Kind → Held → Held
of_kind k h = record h { kind = k }

abbrev pub in_part : Sizes → ℕ → ℕ → Bool
in_part c q p = p % c.nodes == q

-- the locks of a transaction on these pages, where they are of the partition
abbrev pub kinds_at : Sizes → ℕ → Kind → List ℕ → OpenTx → OpenTx
kinds_at c q k ps x = record x { pages = map (turned page_held (of_kind k) (in_part c q) ps) x.pages }

-- one page first
locks_first : (c : Sizes) (q p : ℕ) (k : Kind) (ps : List ℕ) (b : Bool) (hs : List Held)
    → map (turned page_held (of_kind k) (in_part c q) ps) (pick b (kind_on hs p k) hs) ≡ map (λ h. turned page_held (of_kind k) (in_part c q) ps (pick b (pick (h.page == p) (of_kind k h) h) h)) hs
unfolding kind_on
locks_first c q p k ps false hs = refl
locks_first c q p k ps true [] = refl
locks_first c q p k ps true (h ∷ hs) =
    ap (λ l. turned page_held (of_kind k) (in_part c q) ps (pick (h.page == p) (of_kind k h) h) ∷ l) (locks_first c q p k ps true hs)

-- a change after a change
changed_twice : (f g h : OpenTx → OpenTx) → ((x : OpenTx) → (f x).serial ≡ x.serial) → ((x : OpenTx) → g (f x) ≡ h x) → (xs : List OpenTx) (n : ℕ)
    → change_open g (change_open f xs n) n ≡ change_open h xs n
unfolding change_open
changed_twice f g h keeps both [] n = refl
changed_twice f g h keeps both (x ∷ xs) n = by_serial (x.serial == n) refl (changed_twice f g h keeps both xs n)
  where
    by_serial : (b : Bool) → (x.serial == n) ≡ b → change_open g (change_open f xs n) n ≡ change_open h xs n
        → pick ((pick b (f x) x).serial == n) (g (pick b (f x) x)) (pick b (f x) x) ∷ change_open g (change_open f xs n) n ≡ pick b (h x) x ∷ change_open h xs n
    by_serial true e rest =
        ap (λ d. pick d (g (f x)) (f x) ∷ change_open g (change_open f xs n) n) (ap (λ m. m == n) (keeps x) ∙ e)
        ∙ ap (λ y. y ∷ change_open g (change_open f xs n) n) (both x) ∙ ap (λ l. h x ∷ l) rest
    by_serial false e rest = ap (λ d. pick d (g x) x ∷ change_open g (change_open f xs n) n) e ∙ ap (λ l. x ∷ l) rest

pub kinds_first : (c : Sizes) (q p : ℕ) (k : Kind) (ps : List ℕ) (s : OpenTxs) (t : TxId)
    → change_tx (kinds_at c q k ps) (kind_if (in_part c q p) s t p k) t ≡ change_tx (kinds_at c q k (p ∷ ps)) s t
unfolding set_kind
kinds_first c q p k ps s t = by_part (in_part c q p)
  where
    by_part : (b : Bool) → change_tx (kinds_at c q k ps) (pick b (set_kind s t p k) s) t ≡ change_tx (λ x. record x { pages = map (λ h. turned page_held (of_kind k) (in_part c q) ps (pick b (pick (h.page == p) (of_kind k h) h) h)) x.pages }) s t
    by_part false = refl
    by_part true =
        ap (λ (l : List OpenTx). let r : OpenTxs = record s { txs = l } in r)
        (changed_twice (λ x. record x { pages = kind_on x.pages p k }) (kinds_at c q k ps)
        (λ x. record x { pages = map (λ h. turned page_held (of_kind k) (in_part c q) ps (pick true (pick (h.page == p) (of_kind k h) h) h)) x.pages })
        (λ x. refl) (λ x. ap (λ (l : List Held). let y : OpenTx = record x { pages = l } in y) (locks_first c q p k ps true x.pages)) s.txs t.serial)

-- none is left
idle : (f : OpenTx → OpenTx) → ((x : OpenTx) → f x ≡ x) → (xs : List OpenTx) (n : ℕ) → change_open f xs n ≡ xs
unfolding change_open
idle f same [] n = refl
idle f same (x ∷ xs) n = ap (λ l. pick (x.serial == n) (f x) x ∷ l) (idle f same xs n) ∙ ap (λ y. y ∷ xs) (by_serial (x.serial == n))
  where
    by_serial : (b : Bool) → pick b (f x) x ≡ x
    by_serial true = same x
    by_serial false = refl

pub kinds_none : (c : Sizes) (q : ℕ) (k : Kind) (s : OpenTxs) (t : TxId) → change_tx (kinds_at c q k []) s t ≡ s
kinds_none c q k s t =
    ap (λ (l : List OpenTx). let r : OpenTxs = record s { txs = l } in r)
    (idle (kinds_at c q k []) (λ x. ap (λ (l : List Held). let y : OpenTx = record x { pages = l } in y) (turned_none page_held (of_kind k) (in_part c q) x.pages)) s.txs t.serial)

-- two changes that agree on the transaction
abbrev Agree : (OpenTx → OpenTx) → (OpenTx → OpenTx) → Option OpenTx → Type 0
Agree f g None = ⊤
Agree f g (Some x) = f x ≡ g x

agree : (f g : OpenTx → OpenTx) (low last : ℕ) (xs : List OpenTx) (n : ℕ) → AreSerials low last xs → Agree f g (with_serial xs n) → change_open f xs n ≡ change_open g xs n
unfolding change_open with_serial
agree f g low last [] n rise same = refl
agree f g low last (x ∷ xs) n rise same = by_serial (x.serial == n) refl same (agree f g x.serial last xs n rise.1)
  where
    by_serial : (b : Bool) → (x.serial == n) ≡ b → Agree f g (pick b (Some x) (with_serial xs n)) → (Agree f g (with_serial xs n) → change_open f xs n ≡ change_open g xs n)
        → pick b (f x) x ∷ change_open f xs n ≡ pick b (g x) x ∷ change_open g xs n
    by_serial true e same rest =
        let le : n ≤ x.serial = grind (arith, nat_tests) in
        ap (λ y. y ∷ change_open f xs n) same ∙ ap (λ l. g x ∷ l) (unchanged f x.serial last xs n rise.1 le ∙ sym (unchanged g x.serial last xs n rise.1 le))
    by_serial false e same rest = ap (λ l. x ∷ l) (rest same)

pub kinds_all : (c : Sizes) (q : ℕ) (k : Kind) (s : OpenTxs) (t : TxId) → is_own s t ≡ true → AreSerials 0 s.last s.txs
    → change_tx (kinds_at c q k (map page_held (locks_of s t))) s t ≡ change_tx (with_kinds c q k) s t
kinds_all c q k s t own rise =
    ap (λ (l : List OpenTx). let r : OpenTxs = record s { txs = l } in r)
    (agree (kinds_at c q k (map page_held (locks_of s t))) (with_kinds c q k) 0 s.last s.txs t.serial rise
    (subst (λ b. Agree (kinds_at c q k (map page_held (pages_of_open (pick b (with_serial s.txs t.serial) None)))) (with_kinds c q k) (with_serial s.txs t.serial)) (sym own) (by_open (with_serial s.txs t.serial))))
  where
    by_open : (o : Option OpenTx) → Agree (kinds_at c q k (map page_held (pages_of_open o))) (with_kinds c q k) o
    by_open None = tt
    by_open (Some x) =
        ap (λ (l : List Held). let y : OpenTx = record x { pages = l } in y)
        (turned_all page_held (of_kind k) (in_part c q) (λ h. refl) (map page_held x.pages) x.pages (self_listed (λ h. in_part c q h.page) page_held x.pages))

-- the pages of the locks stay
pages_kept : (hs : List Held) (p : ℕ) (k : Kind) → map page_held (kind_on hs p k) ≡ map page_held hs
unfolding kind_on
pages_kept [] p k = refl
pages_kept (h ∷ hs) p k = ap (λ n. n ∷ map page_held (kind_on hs p k)) (by_page (h.page == p)) ∙ ap (λ l. h.page ∷ l) (pages_kept hs p k)
  where
    by_page : (b : Bool) → (pick b (record h { kind = k }) h).page ≡ h.page
    by_page true = refl
    by_page false = refl

open_pages : (xs : List OpenTx) (n p : ℕ) (k : Kind) → map page_held (pages_of_open (with_serial (change_open (λ x. record x { pages = kind_on x.pages p k }) xs n) n)) ≡ map page_held (pages_of_open (with_serial xs n))
unfolding change_open with_serial
open_pages [] n p k = refl
open_pages (x ∷ xs) n p k = by_serial (x.serial == n) refl (open_pages xs n p k)
  where
    by_serial : (b : Bool) → (x.serial == n) ≡ b
        → map page_held (pages_of_open (with_serial (change_open (λ x. record x { pages = kind_on x.pages p k }) xs n) n)) ≡ map page_held (pages_of_open (with_serial xs n))
        → map page_held (pages_of_open (pick ((pick b (record x { pages = kind_on x.pages p k }) x).serial == n) (Some (pick b (record x { pages = kind_on x.pages p k }) x)) (with_serial (change_open (λ x. record x { pages = kind_on x.pages p k }) xs n) n)))
        ≡ map page_held (pages_of_open (pick b (Some x) (with_serial xs n)))
    by_serial true e rest =
        ap (λ d. map page_held (pages_of_open (pick d (Some (record x { pages = kind_on x.pages p k })) (with_serial (change_open (λ x. record x { pages = kind_on x.pages p k }) xs n) n)))) e ∙ pages_kept x.pages p k
    by_serial false e rest =
        ap (λ d. map page_held (pages_of_open (pick d (Some x) (with_serial (change_open (λ x. record x { pages = kind_on x.pages p k }) xs n) n)))) e ∙ rest

pub locks_kept : (b : Bool) (s : OpenTxs) (t : TxId) (p : ℕ) (k : Kind) → map page_held (locks_of (kind_if b s t p k) t) ≡ map page_held (locks_of s t)
unfolding set_kind
locks_kept false s t p k = refl
locks_kept true s t p k = by_own (is_own s t) (open_pages s.txs t.serial p k)
  where
    by_own : (d : Bool) → map page_held (pages_of_open (with_serial (change_open (λ x. record x { pages = kind_on x.pages p k }) s.txs t.serial) t.serial)) ≡ map page_held (pages_of_open (with_serial s.txs t.serial))
        → map page_held (pages_of_open (pick d (with_serial (change_open (λ x. record x { pages = kind_on x.pages p k }) s.txs t.serial) t.serial) None)) ≡ map page_held (pages_of_open (pick d (with_serial s.txs t.serial) None))
    by_own true same = same
    by_own false same = refl

-- the page at a place of the locks
pub page_next : (hs : List Held) (i : ℕ) (d : Held) → i < length hs → drop i (map page_held hs) ≡ (get_or hs i d).page ∷ drop (i + 1) (map page_held hs)
page_next [] i d within = absurd (omega (arith, within))
page_next (h ∷ hs) zero d within = refl
page_next (h ∷ hs) (suc i) d within =
    let more : suc i + 1 ≡ suc (i + 1) = omega arith in
    page_next hs i d (omega (arith, within)) ∙ ap (λ n. (get_or hs i d).page ∷ drop n (map page_held (h ∷ hs))) (sym more)

pub lock_there : (hs : List Held) (i : ℕ) (d : Held) → i < length hs → is_some (lock_on hs (get_or hs i d).page) ≡ true
unfolding lock_on
lock_there [] i d within = absurd (omega (arith, within))
lock_there (h ∷ hs) zero d within = ap (λ b. is_some (pick b (Some h) (lock_on hs h.page))) (let same : (h.page == h.page) ≡ true = grind (arith, nat_tests) in same)
lock_there (h ∷ hs) (suc i) d within = by_page (h.page == (get_or hs i d).page) (lock_there hs i d (omega (arith, within)))
  where
    by_page : (b : Bool) → is_some (lock_on hs (get_or hs i d).page) ≡ true → is_some (pick b (Some h) (lock_on hs (get_or hs i d).page)) ≡ true
    by_page true rest = refl
    by_page false rest = rest

-- all transactions, one after the other
pub serials_stay : (f : OpenTx → OpenTx) → ((x : OpenTx) → (f x).serial ≡ x.serial) → (low last : ℕ) (xs : List OpenTx) (n : ℕ) → AreSerials low last xs → AreSerials low last (change_open f xs n)
unfolding change_open
serials_stay f keeps low last [] n rise = rise
serials_stay f keeps low last (x ∷ xs) n rise =
    let same = by_serial (x.serial == n) in
    (omega (arith, same, rise.0), subst (λ m. AreSerials m last (change_open f xs n)) (sym same) (serials_stay f keeps x.serial last xs n rise.1))
  where
    by_serial : (b : Bool) → (pick b (f x) x).serial ≡ x.serial
    by_serial true = keeps x
    by_serial false = refl

-- changes of later ones leave the first
first_stays : (f : OpenTx → OpenTx) (x : OpenTx) (low last : ℕ) (xs ys : List OpenTx) → x.serial ≤ low → AreSerials low last ys
    → fold (λ l (y : OpenTx). change_open f l y.serial) (x ∷ xs) ys ≡ x ∷ fold (λ l (y : OpenTx). change_open f l y.serial) xs ys
unfolding change_open
first_stays f x low last xs [] le rise = refl
first_stays f x low last xs (y ∷ ys) le rise =
    let above = rise.0 in
    let differs : (x.serial == y.serial) ≡ false = grind (arith, nat_tests) in
    ap (λ b. fold (λ l (z : OpenTx). change_open f l z.serial) (pick b (f x) x ∷ change_open f xs y.serial) ys) differs
    ∙ first_stays f x y.serial last (change_open f xs y.serial) ys (omega (arith, le, above)) rise.1

changes_all : (f : OpenTx → OpenTx) → ((x : OpenTx) → (f x).serial ≡ x.serial) → (low last : ℕ) (xs : List OpenTx) → AreSerials low last xs
    → fold (λ l (y : OpenTx). change_open f l y.serial) xs xs ≡ map f xs
unfolding change_open
changes_all f keeps low last [] rise = refl
changes_all f keeps low last (x ∷ xs) rise =
    let same : (x.serial == x.serial) ≡ true = grind (arith, nat_tests) in
    let le : (f x).serial ≤ x.serial = (let e = keeps x in omega (arith, e)) in
    ap (λ b. fold (λ l (z : OpenTx). change_open f l z.serial) (pick b (f x) x ∷ change_open f xs x.serial) xs) same
    ∙ ap (λ l. fold (λ l (z : OpenTx). change_open f l z.serial) (f x ∷ l) xs) (unchanged f x.serial last xs x.serial rise.1 (omega arith))
    ∙ first_stays f (f x) x.serial last xs xs le rise.1
    ∙ ap (λ l. f x ∷ l) (changes_all f keeps x.serial last xs rise.1)

by_names : (f : OpenTx → OpenTx) (s r : OpenTxs) (ys : List OpenTx)
    → fold (λ z t. change_tx f z t) r (map (λ (x : OpenTx). name_of s x.serial) ys) ≡ record r { txs = fold (λ l (y : OpenTx). change_open f l y.serial) r.txs ys }
by_names f s r [] = refl
by_names f s r (y ∷ ys) = by_names f s (change_tx f r (name_of s y.serial)) ys

pub names_change : (f : OpenTx → OpenTx) → ((x : OpenTx) → (f x).serial ≡ x.serial) → (s : OpenTxs) → AreSerials 0 s.last s.txs
    → fold (λ z t. change_tx f z t) s (map (λ (x : OpenTx). name_of s x.serial) s.txs) ≡ record s { txs = map f s.txs }
names_change f keeps s rise =
    by_names f s s s.txs ∙ ap (λ (l : List OpenTx). let r : OpenTxs = record s { txs = l } in r) (changes_all f keeps 0 s.last s.txs rise)

-- names of this node and birth
own_name : (s : OpenTxs) (n : ℕ) → is_own s (name_of s n) ≡ true
own_name s n = ap (λ b. b && s.born == s.born) (itself s.node) ∙ itself s.born
  where
    itself : (m : ℕ) → (m == m) ≡ true
    itself m = grind (arith, nat_tests)

pub names_own : (s : OpenTxs) (xs : List OpenTx) → All (λ t. is_own s t ≡ true) (map (λ (x : OpenTx). name_of s x.serial) xs)
names_own s [] = All-nil (λ t. is_own s t ≡ true)
names_own s (x ∷ xs) = All-cons (λ t. is_own s t ≡ true) (name_of s x.serial) (map (λ (y : OpenTx). name_of s y.serial) xs) (own_name s x.serial) (names_own s xs)

-- the next page of the locks, and none
pages_long : (hs : List Held) → length (map page_held hs) ≡ length hs
pages_long [] = refl
pages_long (h ∷ hs) = let rest = pages_long hs in omega (arith, rest)

pub as_many : (hs gs : List Held) → map page_held hs ≡ map page_held gs → length hs ≡ length gs
as_many hs gs same = sym (pages_long hs) ∙ ap (λ l. length l) same ∙ pages_long gs

pub turn_next : (c : Sizes) (q : ℕ) (k : Kind) (s r : OpenTxs) (t : TxId) (i : ℕ) (d : Held) → i < length (locks_of s t)
    → r ≡ kind_if (in_part c q (get_or (locks_of s t) i d).page) s t (get_or (locks_of s t) i d).page k
    → change_tx (kinds_at c q k (drop (i + 1) (map page_held (locks_of r t)))) r t ≡ change_tx (kinds_at c q k (drop i (map page_held (locks_of s t)))) s t
turn_next c q k s r t i d within changed =
    let p = (get_or (locks_of s t) i d).page in
    let same : map page_held (locks_of r t) ≡ map page_held (locks_of s t) = ap (λ x. map page_held (locks_of x t)) changed ∙ locks_kept (in_part c q p) s t p k in
    ap (λ ps. change_tx (kinds_at c q k (drop (i + 1) ps)) r t) same
    ∙ ap (λ x. change_tx (kinds_at c q k (drop (i + 1) (map page_held (locks_of s t)))) x t) changed
    ∙ kinds_first c q p k (drop (i + 1) (map page_held (locks_of s t))) s t
    ∙ ap (λ ps. change_tx (kinds_at c q k ps) s t) (sym (page_next (locks_of s t) i d within))

pub turn_over : (c : Sizes) (q : ℕ) (k : Kind) (s : OpenTxs) (t : TxId) (i : ℕ) → length (locks_of s t) ≤ i
    → change_tx (kinds_at c q k (drop i (map page_held (locks_of s t)))) s t ≡ s
turn_over c q k s t i over =
    let long = pages_long (locks_of s t) in
    ap (λ ps. change_tx (kinds_at c q k ps) s t) (drop_of_length-le (map page_held (locks_of s t)) (omega (arith, long, over))) ∙ kinds_none c q k s t

-- the next transaction
pub name_next : (f : OpenTx → OpenTx) (s r : OpenTxs) (ts : List TxId) (i : ℕ) (d : TxId) → i < length ts → r ≡ change_tx f s (get_or ts i d)
    → fold (λ z t. change_tx f z t) r (drop (i + 1) ts) ≡ fold (λ z t. change_tx f z t) s (drop i ts)
name_next f s r ts i d within changed =
    let more : i + 1 ≡ suc i = omega arith in
    ap (λ x. fold (λ z t. change_tx f z t) x (drop (i + 1) ts)) changed
    ∙ ap (λ n. fold (λ z t. change_tx f z t) (change_tx f s (get_or ts i d)) (drop n ts)) more
    ∙ ap (λ l. fold (λ z t. change_tx f z t) s l) (sym (drop-cons ts i d within))

pub name_over : (f : OpenTx → OpenTx) (s : OpenTxs) (ts : List TxId) (i : ℕ) → length ts ≤ i → fold (λ z t. change_tx f z t) s (drop i ts) ≡ s
name_over f s ts i over = ap (λ l. fold (λ z t. change_tx f z t) s l) (drop_of_length-le ts over)

-- who waits goes on waiting
pub waits_stay : (c : Sizes) (q : ℕ) (k : Kind) (xs : List OpenTx) → wait_count (map (with_kinds c q k) xs) ≡ wait_count xs
waits_stay c q k [] = refl
waits_stay c q k (x ∷ xs) = ap (λ n. waits_in x + n) (waits_stay c q k xs)
