-- Numbers that are counted item after item, and stay at the last number.
use Rattle.std.proofs.Common.{◌≡◌, ℕ, ◌+◌, ◌*◌, min, List, [], ◌∷◌, length, Option, Some, None, refl, ap, ◌∙◌, arith}
use Rattle.pcl_base.specs.declared.lock.Pending.{Pending}
use Rattle.node_rules.specs.LockTable.{LockTable, PageEntry}
use Rattle.node_rules.specs.NodeState.{NodeEvent, NodeState}
use Rattle.node_rules.specs.OpenTxs.{OpenTx}
use Rattle.tx_table.specs.Counts.{lock_count, one_if, wait_count}
use Rattle.step_laws.specs.Most.{brought, most, one_access, rights_in, sum_of, waiting_in}
use Rattle.node_parts.specs.Counts.{lists_in, lists_of}

-- both sums of a table, and of all tables
both : (xs : List PageEntry) → sum_of (λ x. lists_of x.entry) xs ≡ sum_of (λ x. length x.entry.waiting) xs + sum_of (λ x. length x.entry.rights) xs
both [] = refl
both (x ∷ xs) = let rest = both xs in omega (arith, rest)

table_both : (o : Option LockTable) → lists_in o ≡ waiting_in o + rights_in o
table_both None = refl
table_both (Some t) = both t.entries

all_both : (ts : List (Option LockTable)) → sum_of lists_in ts ≡ sum_of waiting_in ts + sum_of rights_in ts
all_both [] = refl
all_both (t ∷ ts) =
    let here = table_both t in
    let rest = all_both ts in
    omega (arith, here, rest)

-- what open transactions wait for, and hold
access_is : (o : Option Pending) → one_if o ≡ one_access o
access_is None = refl
access_is (Some w) = refl

accesses_are : (xs : List OpenTx) → wait_count xs ≡ sum_of (λ x. one_access x.waiting) xs
accesses_are [] = refl
accesses_are (x ∷ xs) =
    let here = access_is x.waiting in
    let rest = accesses_are xs in
    omega (arith, here, rest)

locks_are : (xs : List OpenTx) → lock_count xs ≡ sum_of (λ x. length x.pages) xs
locks_are [] = refl
locks_are (x ∷ xs) = let rest = locks_are xs in omega (arith, rest)

-- sums that stay at the last number, one after another
cap_left : (m x y : ℕ) → min (min x m + y) m ≡ min (x + y) m
cap_left m x y = omega arith

cap_right : (m x y : ℕ) → min (x + min y m) m ≡ min (x + y) m
cap_right m x y = omega arith

pub capped : (m a b c d e f ab abc abcd abcde all : ℕ) → ab ≡ min (a + min b m) m → abc ≡ min (ab + c) m → abcd ≡ min (abc + d) m → abcde ≡ min (abcd + e) m
    → all ≡ min (abcde + min f m) m → all ≡ min (a + b + c + d + e + f) m
capped m a b c d e f ab abc abcd abcde all one two three four five =
    let first = one ∙ cap_right m a b in
    let second = two ∙ (ap (λ n. min (n + c) m) first ∙ cap_left m (a + b) c) in
    let third = three ∙ (ap (λ n. min (n + d) m) second ∙ cap_left m (a + b + c) d) in
    let fourth = four ∙ (ap (λ n. min (n + e) m) third ∙ cap_left m (a + b + c + d) e) in
    five ∙ (cap_right m abcde f ∙ (ap (λ n. min (n + f) m) fourth ∙ cap_left m (a + b + c + d + e) f))

-- the bound of a step is the sum of what is counted
pub most_is : (n : NodeState) (event : NodeEvent)
    → 2 * n.home.config.nodes + 2 + sum_of lists_in n.tables + wait_count n.home.txs.txs + lock_count n.home.txs.txs + length n.home.shelf + brought event ≡ most n event
most_is n event =
    let tables = all_both n.tables in
    let accesses = accesses_are n.home.txs.txs in
    let locks = locks_are n.home.txs.txs in
    omega (arith, tables, accesses, locks)
