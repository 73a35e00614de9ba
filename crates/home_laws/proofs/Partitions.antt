-- The locks on the pages of a partition get a kind, and its copies become clean: a home stays sound.
use Rattle.std.proofs.Common.{◌≡◌, ℕ, ◌==◌, ◌||◌, not, cond, Bool, true, false, List, [], ◌∷◌, length, map, Option, Some, None, is_some, refl, ap, sym, subst, ◌∙◌, arith}
use Rattle.std.proofs.lemmas.List.Elements.{All-nil, All-map, All-weaker}
use Rattle.std.specs.List.{filter, All}
use Rattle.std.specs.Option.{option_map}
use Rattle.pcl_base.specs.Limits.{Sizes}
use Rattle.pcl_base.specs.declared.tx.TxId.{TxId}
use Rattle.pcl_base.specs.declared.lock.Held.{Held}
use Rattle.pcl_base.specs.declared.lock.Kind.{Kind}
use Rattle.pcl_base.specs.declared.lock.Kind.TheVariants as kind
use Rattle.node_rules.specs.Words.{pick, among}
use Rattle.node_rules.specs.OpenTxs.{OpenTx, OpenTxs, with_serial, lock_on, waits_on, held_by, mode_held, pending_of, pages_of_open, waiting_of_open, open_at, is_own}
use Rattle.node_rules.specs.Shelf.{Right, right_on, readers_of}
use Rattle.node_rules.specs.NodeState.{partition}
use Rattle.node_rules.specs.InstallRule.{kinds_of_locks}
use Rattle.home_laws.specs.Homes.{AreOpen, AreSerials, AreOnce, uses, is_right_kind, is_right_lock}
use Rattle.home_laws.specs.EndLaws.{TakeOverIsSound}
use Rattle.home_laws.proofs.Words.{not_both, equal}
use Rattle.home_laws.proofs.Serials.{one_if}
use Rattle.home_laws.proofs.Slots.{length_if}
use Rattle.home_laws.proofs.Transactions.{HoldSame, held_same}

-- the kind of a lock on a page, where that is one of the partition
abbrev pub with_kind : Bool → Kind → Held → Held
with_kind b k h = pick b (record h { kind = k }) h

-- the lock of a page
lock_case : (c : Sizes) (q p : ℕ) (k : Kind) (h : Held) (b : Bool) → (h.page == p) ≡ b → (o r : Option Held) → o ≡ option_map (with_kind (partition c p == q) k) r
    → pick ((with_kind (partition c h.page == q) k h).page == p) (Some (with_kind (partition c h.page == q) k h)) o ≡ option_map (with_kind (partition c p == q) k) (pick b (Some h) r)
lock_case c q p k h b e o r rest = by_page (ap (λ n. n == p) (same_page (partition c h.page == q)) ∙ e)
  where
    same_page : (d : Bool) → (with_kind d k h).page ≡ h.page
    same_page true = refl
    same_page false = refl

    by_test : (d : Bool) → (h.page == p) ≡ d → pick d (Some (with_kind (partition c h.page == q) k h)) o ≡ option_map (with_kind (partition c p == q) k) (pick d (Some h) r)
    by_test true f = ap (λ n. Some (with_kind (partition c n == q) k h)) (equal h.page p f)
    by_test false f = rest

    by_page : ((with_kind (partition c h.page == q) k h).page == p) ≡ b → pick ((with_kind (partition c h.page == q) k h).page == p) (Some (with_kind (partition c h.page == q) k h)) o ≡ option_map (with_kind (partition c p == q) k) (pick b (Some h) r)
    by_page f = ap (λ d. pick d (Some (with_kind (partition c h.page == q) k h)) o) f ∙ by_test b e

pub lock_kinds : (c : Sizes) (q p : ℕ) (k : Kind) (hs : List Held) → lock_on (kinds_of_locks c q k hs) p ≡ option_map (with_kind (partition c p == q) k) (lock_on hs p)
unfolding lock_on
lock_kinds c q p k [] = refl
lock_kinds c q p k (h ∷ hs) = lock_case c q p k h (h.page == p) refl (lock_on (kinds_of_locks c q k hs) p) (lock_on hs p) (lock_kinds c q p k hs)

some_kinds : (f : Held → Held) (o : Option Held) → is_some (option_map f o) ≡ is_some o
some_kinds f None = refl
some_kinds f (Some h) = refl

none_kinds : (f : Held → Held) (o : Option Held) → o ≡ None → option_map f o ≡ None
none_kinds f o e = ap (option_map f) e

mode_kinds : (b : Bool) (k : Kind) (o : Option Held) → mode_held (option_map (with_kind b k) o) ≡ mode_held o
mode_kinds b k None = refl
mode_kinds true k (Some h) = refl
mode_kinds false k (Some h) = refl

right_kinds : (b : Bool) (k : Kind) (o : Option Held) → is_right_kind k ≡ false → is_right_lock (option_map (with_kind b k) o) ≡ true → (b ≡ false) × (is_right_lock o ≡ true)
right_kinds b k None other right = absurd (cc)
right_kinds true k (Some h) other right = absurd (not_both (is_right_kind k) right other)
right_kinds false k (Some h) other right = (refl, right)

once_kinds : (c : Sizes) (q : ℕ) (k : Kind) (hs : List Held) → AreOnce hs → AreOnce (kinds_of_locks c q k hs)
once_kinds c q k [] once = tt
once_kinds c q k (h ∷ hs) once = (
  lock_kinds c q (with_kind (partition c h.page == q) k h).page k hs ∙ none_kinds (with_kind (partition c (with_kind (partition c h.page == q) k h).page == q) k) (lock_on hs (with_kind (partition c h.page == q) k h).page) (here (partition c h.page == q)),
  once_kinds c q k hs once.1,
)
  where
    here : (d : Bool) → lock_on hs (with_kind d k h).page ≡ None
    here true = once.0
    here false = once.0

-- a transaction whose locks have a kind
abbrev pub tx_kinds : Sizes → ℕ → Kind → OpenTx → OpenTx
tx_kinds c q k x = record x { pages = kinds_of_locks c q k x.pages }

serial_case : (f : OpenTx → OpenTx) (x : OpenTx) (o r : Option OpenTx) (b : Bool) → o ≡ option_map f r → pick b (Some (f x)) o ≡ option_map f (pick b (Some x) r)
serial_case f x o r true e = refl
serial_case f x o r false e = e

serial_kinds : (c : Sizes) (q : ℕ) (k : Kind) (xs : List OpenTx) (n : ℕ) → with_serial (map (tx_kinds c q k) xs) n ≡ option_map (tx_kinds c q k) (with_serial xs n)
unfolding with_serial
serial_kinds c q k [] n = refl
serial_kinds c q k (x ∷ xs) n = serial_case (tx_kinds c q k) x (with_serial (map (tx_kinds c q k) xs) n) (with_serial xs n) (x.serial == n) (serial_kinds c q k xs n)

-- the open transactions
abbrev pub txs_kinds : Sizes → ℕ → Kind → OpenTxs → OpenTxs
txs_kinds c q k s = record s { txs = map (tx_kinds c q k) s.txs }

open_kinds : (c : Sizes) (q : ℕ) (k : Kind) (s : OpenTxs) (t : TxId) → open_at (txs_kinds c q k s) t ≡ option_map (tx_kinds c q k) (open_at s t)
open_kinds c q k s t = by_own (is_own s t)
  where
    by_own : (b : Bool) → pick b (with_serial (map (tx_kinds c q k) s.txs) t.serial) None ≡ option_map (tx_kinds c q k) (pick b (with_serial s.txs t.serial) None)
    by_own true = serial_kinds c q k s.txs t.serial
    by_own false = refl

pub held_kinds : (c : Sizes) (q : ℕ) (k : Kind) (s : OpenTxs) (t : TxId) (p : ℕ) → held_by (txs_kinds c q k s) t p ≡ option_map (with_kind (partition c p == q) k) (held_by s t p)
unfolding lock_on
held_kinds c q k s t p = ap (λ o. lock_on (pages_of_open o) p) (open_kinds c q k s t) ∙ by_open (open_at s t)
  where
    by_open : (o : Option OpenTx) → lock_on (pages_of_open (option_map (tx_kinds c q k) o)) p ≡ option_map (with_kind (partition c p == q) k) (lock_on (pages_of_open o) p)
    by_open None = refl
    by_open (Some x) = lock_kinds c q p k x.pages

pending_kinds : (c : Sizes) (q : ℕ) (k : Kind) (s : OpenTxs) (t : TxId) → pending_of (txs_kinds c q k s) t ≡ pending_of s t
pending_kinds c q k s t = ap waiting_of_open (open_kinds c q k s t) ∙ by_open (open_at s t)
  where
    by_open : (o : Option OpenTx) → waiting_of_open (option_map (tx_kinds c q k) o) ≡ waiting_of_open o
    by_open None = refl
    by_open (Some x) = refl

uses_kinds : (c : Sizes) (q p : ℕ) (k : Kind) (x : OpenTx) → uses p (tx_kinds c q k x) ≡ uses p x
uses_kinds c q p k x = ap (λ b. b || waits_on x.waiting p) (ap is_some (lock_kinds c q p k x.pages) ∙ some_kinds (with_kind (partition c p == q) k) (lock_on x.pages p))

users_kinds : (c : Sizes) (q p : ℕ) (k : Kind) (xs : List OpenTx) → length (filter (uses p) (map (tx_kinds c q k) xs)) ≡ length (filter (uses p) xs)
users_kinds c q p k [] = refl
users_kinds c q p k (x ∷ xs) =
    let l = length_if (uses p (tx_kinds c q k x)) (tx_kinds c q k x) (filter (uses p) (map (tx_kinds c q k) xs)) in
    let r = length_if (uses p x) x (filter (uses p) xs) in
    let test : one_if (uses p (tx_kinds c q k x)) ≡ one_if (uses p x) = ap one_if (uses_kinds c q p k x) in
    let rest = users_kinds c q p k xs in
    omega (arith, l, r, test, rest)

length_kinds : (c : Sizes) (q : ℕ) (k : Kind) (xs : List OpenTx) → length (map (tx_kinds c q k) xs) ≡ length xs
length_kinds c q k [] = refl
length_kinds c q k (x ∷ xs) = let rest = length_kinds c q k xs in omega (arith, rest)

serials_kinds : (c : Sizes) (q : ℕ) (k : Kind) (low last : ℕ) (xs : List OpenTx) → AreSerials low last xs → AreSerials low last (map (tx_kinds c q k) xs)
serials_kinds c q k low last [] s = s
serials_kinds c q k low last (x ∷ xs) s = (s.0, serials_kinds c q k x.serial last xs s.1)

pub same_kinds : (c : Sizes) (q : ℕ) (k : Kind) (s : OpenTxs) → AreOpen c s → HoldSame c s (txs_kinds c q k s)
same_kinds c q k s is =
    let long = length_kinds c q k s.txs in
    record {
      are =
          record {
            node = is.node;
            few = omega (arith, long, is.few);
            serials = serials_kinds c q k 0 s.last s.txs is.serials;
            once = All-map (λ (x : OpenTx). AreOnce x.pages) (tx_kinds c q k) s.txs (All-weaker (λ (x : OpenTx). AreOnce x.pages) (λ x. AreOnce (kinds_of_locks c q k x.pages)) (λ x once. once_kinds c q k x.pages once) s.txs is.once);
            born = λ some. is.born (omega (arith, long, some));
          };
      users = λ p. users_kinds c q p k s.txs;
      modes = λ t p. ap mode_held (held_kinds c q k s t p) ∙ mode_kinds (partition c p == q) k (held_by s t p);
      waits = λ t. pending_kinds c q k s t;
    }

-- no lock comes to be under a right
pub right_before : (c : Sizes) (q : ℕ) (k : Kind) (s : OpenTxs) (t : TxId) (p : ℕ) → is_right_kind k ≡ false → is_right_lock (held_by (txs_kinds c q k s) t p) ≡ true → ((partition c p == q) ≡ false) × (is_right_lock (held_by s t p) ≡ true)
right_before c q k s t p other right = right_kinds (partition c p == q) k (held_by s t p) other (ap is_right_lock (sym (held_kinds c q k s t p)) ∙ right)

-- the rights that stay
spent_case : (c : Sizes) (q p : ℕ) (r : Right) (o l : Option Right) (b d : Bool) → (r.page == p) ≡ b → (partition c r.page == q) ≡ d → o ≡ pick (partition c p == q) None l → (rest : List Right) → right_on rest p ≡ o
    → right_on (cond (not d) (r ∷ rest) rest) p ≡ pick (partition c p == q) None (pick b (Some r) l)
unfolding right_on
spent_case c q p r o l true true e f h rest g =
    let same : (partition c p == q) ≡ true = ap (λ n. partition c n == q) (sym (equal r.page p e)) ∙ f in
    g ∙ h ∙ ap (λ d. pick d None l) same ∙ sym (ap (λ d. pick d None (Some r)) same)
spent_case c q p r o l true false e f h rest g =
    let other : (partition c p == q) ≡ false = ap (λ n. partition c n == q) (sym (equal r.page p e)) ∙ f in
    ap (λ b. pick b (Some r) (right_on rest p)) e ∙ sym (ap (λ d. pick d None (Some r)) other)
spent_case c q p r o l false true e f h rest g = g ∙ h
spent_case c q p r o l false false e f h rest g = ap (λ b. pick b (Some r) (right_on rest p)) e ∙ g ∙ h

pub right_spent : (c : Sizes) (q p : ℕ) (rs : List Right) → right_on (filter (λ r. not (partition c r.page == q)) rs) p ≡ pick (partition c p == q) None (right_on rs p)
unfolding right_on
right_spent c q p [] = none (partition c p == q)
  where
    none : (b : Bool) → None ≡ (let x : Option Right = pick b None None in x)
    none true = refl
    none false = refl
right_spent c q p (r ∷ rs) =
    spent_case c q p r (pick (partition c p == q) None (right_on rs p)) (right_on rs p) (r.page == p) (partition c r.page == q) refl refl refl (filter (λ x. not (partition c x.page == q)) rs) (right_spent c q p rs)

pub take_over_is_sound_law : TakeOverIsSound
take_over_is_sound_law q h is =
    held_same h (txs_kinds h.config q kind.Own h.txs) (filter (λ r. not (partition h.config r.page == q)) h.shelf) is (same_kinds h.config q kind.Own h.txs is.txs) readers reading
  where
    readers : (p : ℕ) → All (λ t. is_some (held_by h.txs t p) ≡ true) (readers_of (right_on (filter (λ r. not (partition h.config r.page == q)) h.shelf) p))
    readers p = subst (λ (o : Option Right). All (λ t. is_some (held_by h.txs t p) ≡ true) (readers_of o)) (sym (right_spent h.config q p h.shelf)) (by_part (partition h.config p == q))
      where
        by_part : (b : Bool) → All (λ t. is_some (held_by h.txs t p) ≡ true) (readers_of (pick b None (right_on h.shelf p)))
        by_part true = All-nil (λ t. is_some (held_by h.txs t p) ≡ true)
        by_part false = is.readers p

    reading : (t : TxId) (p : ℕ) → is_right_lock (held_by (txs_kinds h.config q kind.Own h.txs) t p) ≡ true → among (readers_of (right_on (filter (λ r. not (partition h.config r.page == q)) h.shelf) p)) t ≡ true
    reading t p right =
        let before = right_before h.config q kind.Own h.txs t p refl right in
        ap (λ o. among (readers_of o) t) (right_spent h.config q p h.shelf ∙ ap (λ b. pick b None (right_on h.shelf p)) before.0) ∙ is.reading t p before.1
