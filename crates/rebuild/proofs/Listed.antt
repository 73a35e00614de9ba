-- The lists of a report, made one transaction after another.
use Rattle.std.proofs.Common.{◌≡◌, ℕ, suc, ◌+◌, ◌<◌, ◌≤◌, ◌==◌, ◌&&◌, Bool, true, false, cond, List, [], ◌∷◌, ◌++◌, map, length, get_or, drop, drop-cons, refl, ap, sym, ◌∙◌, arith}
use Rattle.std.proofs.Math.ListN.{drop_of_length-le}
use Rattle.std.proofs.lemmas.List.{append_assoc, append-nil}
use Rattle.std.specs.List.{filter}
use Rattle.pcl_base.specs.Limits.{Sizes}
use Rattle.pcl_base.specs.declared.tx.TxId.{TxId}
use Rattle.pcl_base.specs.declared.lock.Held.{Held}
use Rattle.pcl_base.specs.declared.message.ReportLock.{ReportLock}
use Rattle.pcl_base.specs.declared.message.ReportRight.{ReportRight}
use Rattle.pcl_base.specs.declared.message.ReportWait.{ReportWait}
use Rattle.node_rules.specs.Words.{pick}
use Rattle.node_rules.specs.NodeState.{partition}
use Rattle.node_rules.specs.OpenTxs.{OpenTx, OpenTxs, name_of, open_at, pages_of_open, waiting_of_open, locks_of, pending_of}
use Rattle.node_rules.specs.BufferRule.{Pool}
use Rattle.node_rules.specs.Shelf.{Right}
use Rattle.node_rules.specs.Reports.{is_listed, locks_in, wait_in, all_locks, all_waits, all_rights}
use Rattle.tx_table.specs.Links.{AllAt, IsNumbered}
use Rattle.tx_table.proofs.Numbers.{names_find}

front : {X : Type 0} (xs : List X) (i : ℕ) (d : X) → i < length xs → drop i xs ≡ get_or xs i d ∷ drop (i + 1) xs
front xs i d within =
    let next : suc i ≡ i + 1 = omega arith in
    drop-cons xs i d within ∙ ap (λ k. get_or xs i d ∷ drop k xs) next

-- whether a lock is listed
abbrev is_in : Sizes → ℕ → Bool → Held → Bool
is_in c q all h = partition c h.page == q && is_listed all h.kind

abbrev listed_as : TxId → Held → ReportLock
listed_as t h = record { tx = t; page = h.page; mode = h.mode }

-- a lock that is listed, one that isn't, and no more locks
pub locks_listed : (c : Sizes) (q : ℕ) (all : Bool) (t : TxId) (hs : List Held) (i : ℕ) (d : Held) (out later : List ReportLock) → i < length hs
    → is_in c q all (get_or hs i d) ≡ true → later ≡ out ++ listed_as t (get_or hs i d) ∷ []
    → later ++ locks_in c q all t (drop (i + 1) hs) ≡ out ++ locks_in c q all t (drop i hs)
unfolding locks_in
locks_listed c q all t hs i d out later within is made =
    let rest = locks_in c q all t (drop (i + 1) hs) in
    let x = listed_as t (get_or hs i d) in
    ap (λ l. l ++ rest) made
    ∙ (append_assoc out (x ∷ []) rest
    ∙ ap (λ l. out ++ l) (sym (ap (λ b. pick b (x ∷ rest) rest) is) ∙ sym (ap (locks_in c q all t) (front hs i d within))))

pub locks_past : (c : Sizes) (q : ℕ) (all : Bool) (t : TxId) (hs : List Held) (i : ℕ) (d : Held) (out : List ReportLock) → i < length hs
    → is_in c q all (get_or hs i d) ≡ false → out ++ locks_in c q all t (drop (i + 1) hs) ≡ out ++ locks_in c q all t (drop i hs)
unfolding locks_in
locks_past c q all t hs i d out within is =
    let rest = locks_in c q all t (drop (i + 1) hs) in
    let x = listed_as t (get_or hs i d) in
    ap (λ l. out ++ l) (sym (ap (λ b. pick b (x ∷ rest) rest) is) ∙ sym (ap (locks_in c q all t) (front hs i d within)))

pub locks_end : (c : Sizes) (q : ℕ) (all : Bool) (t : TxId) (hs : List Held) (i : ℕ) (out : List ReportLock) → length hs ≤ i
    → out ≡ out ++ locks_in c q all t (drop i hs)
unfolding locks_in
locks_end c q all t hs i out past = sym (ap (λ l. out ++ locks_in c q all t l) (drop_of_length-le hs past) ∙ append-nil out)

-- the locks, and the waiting accesses, of the transactions of these names
abbrev pub locks_by : Sizes → ℕ → Bool → OpenTxs → List TxId → List ReportLock
locks_by c q all s [] = []
locks_by c q all s (t ∷ ts) = locks_in c q all t (locks_of s t) ++ locks_by c q all s ts

abbrev pub waits_by : Sizes → ℕ → Pool → OpenTxs → List TxId → List ReportWait
waits_by c q b s [] = []
waits_by c q b s (t ∷ ts) = wait_in c q b t (pending_of s t) ++ waits_by c q b s ts

-- what one more transaction has is listed
pub locks_by_step : (c : Sizes) (q : ℕ) (all : Bool) (s : OpenTxs) (ts : List TxId) (i : ℕ) (d : TxId) (out later : List ReportLock) → i < length ts
    → later ≡ out ++ locks_in c q all (get_or ts i d) (locks_of s (get_or ts i d))
    → later ++ locks_by c q all s (drop (i + 1) ts) ≡ out ++ locks_by c q all s (drop i ts)
locks_by_step c q all s ts i d out later within made =
    let here = locks_in c q all (get_or ts i d) (locks_of s (get_or ts i d)) in
    let rest = locks_by c q all s (drop (i + 1) ts) in
    ap (λ l. l ++ rest) made ∙ (append_assoc out here rest ∙ ap (λ l. out ++ l) (sym (ap (locks_by c q all s) (front ts i d within))))

pub waits_by_step : (c : Sizes) (q : ℕ) (b : Pool) (s : OpenTxs) (ts : List TxId) (i : ℕ) (d : TxId) (out later : List ReportWait) → i < length ts
    → later ≡ out ++ wait_in c q b (get_or ts i d) (pending_of s (get_or ts i d))
    → later ++ waits_by c q b s (drop (i + 1) ts) ≡ out ++ waits_by c q b s (drop i ts)
waits_by_step c q b s ts i d out later within made =
    let here = wait_in c q b (get_or ts i d) (pending_of s (get_or ts i d)) in
    let rest = waits_by c q b s (drop (i + 1) ts) in
    ap (λ l. l ++ rest) made ∙ (append_assoc out here rest ∙ ap (λ l. out ++ l) (sym (ap (waits_by c q b s) (front ts i d within))))

-- the names of all open transactions give the lists of the report
locks_of_names : (c : Sizes) (q : ℕ) (all : Bool) (s : OpenTxs) (xs : List OpenTx) → AllAt (λ serial. open_at s (name_of s serial)) xs
    → locks_by c q all s (map (λ x. name_of s x.serial) xs) ≡ all_locks c q all s xs
unfolding all_locks
locks_of_names c q all s [] found = refl
locks_of_names c q all s (x ∷ xs) found =
    λ i. locks_in c q all (name_of s x.serial) (pages_of_open (found.0 i)) ++ locks_of_names c q all s xs found.1 i

waits_of_names : (c : Sizes) (q : ℕ) (b : Pool) (s : OpenTxs) (xs : List OpenTx) → AllAt (λ serial. open_at s (name_of s serial)) xs
    → waits_by c q b s (map (λ x. name_of s x.serial) xs) ≡ all_waits c q b s xs
unfolding all_waits
waits_of_names c q b s [] found = refl
waits_of_names c q b s (x ∷ xs) found =
    λ i. wait_in c q b (name_of s x.serial) (waiting_of_open (found.0 i)) ++ waits_of_names c q b s xs found.1 i

-- all of them are listed
pub locks_by_end : (c : Sizes) (q : ℕ) (all : Bool) (s : OpenTxs) (ts : List TxId) (i : ℕ) (out : List ReportLock) → length ts ≤ i
    → ts ≡ map (λ x. name_of s x.serial) s.txs → IsNumbered s
    → out ++ locks_by c q all s (drop i ts) ≡ locks_by c q all s ts → out ≡ all_locks c q all s s.txs
locks_by_end c q all s ts i out past names numbered listed =
    sym (ap (λ l. out ++ locks_by c q all s l) (drop_of_length-le ts past) ∙ append-nil out)
    ∙ (listed ∙ (ap (locks_by c q all s) names ∙ locks_of_names c q all s s.txs (names_find s numbered)))

pub waits_by_end : (c : Sizes) (q : ℕ) (b : Pool) (s : OpenTxs) (ts : List TxId) (i : ℕ) (out : List ReportWait) → length ts ≤ i
    → ts ≡ map (λ x. name_of s x.serial) s.txs → IsNumbered s
    → out ++ waits_by c q b s (drop i ts) ≡ waits_by c q b s ts → out ≡ all_waits c q b s s.txs
waits_by_end c q b s ts i out past names numbered listed =
    sym (ap (λ l. out ++ waits_by c q b s l) (drop_of_length-le ts past) ∙ append-nil out)
    ∙ (listed ∙ (ap (waits_by c q b s) names ∙ waits_of_names c q b s s.txs (names_find s numbered)))

-- a right as a report lists it, from its page and version, and from itself
abbrev pub from_pair : ℕ × ℕ → ReportRight
from_pair a = record { page = a.0; version = a.1 }

abbrev from_right : Right → ReportRight
from_right r = record { page = r.page; version = r.version }

right_case : (b : Bool) (l : List (ℕ × ℕ)) (m : List Right) (r : Right) → map from_pair l ≡ map from_right m
    → map from_pair (cond b ((r.page, r.version) ∷ l) l) ≡ map from_right (cond b (r ∷ m) m)
right_case true l m r rest = ap (λ k. from_right r ∷ k) rest
right_case false l m r rest = rest

-- the rights by their pages and versions
pub rights_listed : (c : Sizes) (q : ℕ) (rs : List Right)
    → map from_pair (filter (λ a. partition c a.0 == q) (map (λ r. (r.page, r.version)) rs)) ≡ all_rights c q rs
rights_listed c q [] = refl
rights_listed c q (r ∷ rs) = right_case (partition c r.page == q) _ _ r (rights_listed c q rs)
