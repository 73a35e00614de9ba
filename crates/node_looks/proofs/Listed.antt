-- Lists that are made item after item.
use Rattle.std.proofs.Common.{◌≡◌, ℕ, suc, ◌+◌, ◌-◌, ◌<◌, ◌≤◌, true, false, List, [], ◌∷◌, ◌++◌, map, length, get_or, drop, Option, Some, unwrap_or, refl, ap, sym, ◌∙◌, arith}
use Rattle.std.proofs.Math.ListN.{drop_of_length-le}
use Rattle.std.proofs.Math.Seq.{drop-cons}
use Rattle.std.proofs.lemmas.List.{append_assoc, append-nil}
use Rattle.pcl_base.specs.declared.tx.TxId.{TxId}
use Rattle.run_rules.specs.Views.{count_from}
use Rattle.node_rules.specs.Words.{pick}
use Rattle.node_rules.specs.LockRule.{LockEntry, idle}
use Rattle.node_rules.specs.LockTable.{entry_at}
use Rattle.node_rules.specs.NodeState.{NodeState}
use Rattle.node_rules.specs.OpenTxs.{OpenTx, OpenTxs, name_of, open_at, pages_of_open, locks_of}
use Rattle.lock_table.specs.Tables.{TableView, entry_of, found, kept_version, table_of}
use Rattle.tx_table.specs.Links.{AllAt, IsNumbered}
use Rattle.tx_table.proofs.Numbers.{names_find}
use Rattle.node_looks.specs.declared.looks.HoldItem.{HoldItem}
use Rattle.node_looks.specs.declared.looks.WaitItem.{WaitItem}
use Rattle.node_looks.specs.Looks.{holds_in, holds_of, waiters_in, waits_at, waits_in, waits_on}

front : {X : Type 0} (xs : List X) (i : ℕ) (d : X) → i < length xs → drop i xs ≡ get_or xs i d ∷ drop (i + 1) xs
front xs i d within =
    let next : suc i ≡ i + 1 = omega arith in
    drop-cons xs i d within ∙ ap (λ k. get_or xs i d ∷ drop k xs) next

-- what the transactions of these names hold
abbrev pub holds_by : OpenTxs → List TxId → List HoldItem
holds_by s [] = []
holds_by s (t ∷ ts) = holds_in t (locks_of s t) ++ holds_by s ts

pub holds_step : (s : OpenTxs) (ts : List TxId) (i : ℕ) (d : TxId) (out later : List HoldItem) → i < length ts
    → later ≡ out ++ holds_in (get_or ts i d) (locks_of s (get_or ts i d))
    → later ++ holds_by s (drop (i + 1) ts) ≡ out ++ holds_by s (drop i ts)
holds_step s ts i d out later within made =
    let here = holds_in (get_or ts i d) (locks_of s (get_or ts i d)) in
    let rest = holds_by s (drop (i + 1) ts) in
    ap (λ l. l ++ rest) made ∙ (append_assoc out here rest ∙ ap (λ l. out ++ l) (sym (ap (holds_by s) (front ts i d within))))

holds_of_names : (s : OpenTxs) (xs : List OpenTx) → AllAt (λ serial. open_at s (name_of s serial)) xs
    → holds_by s (map (λ x. name_of s x.serial) xs) ≡ holds_of s xs
unfolding holds_of
holds_of_names s [] found = refl
holds_of_names s (x ∷ xs) found =
    ap (λ o. holds_in (name_of s x.serial) (pages_of_open o) ++ holds_by s (map (λ x. name_of s x.serial) xs)) found.0
    ∙ ap (λ l. holds_in (name_of s x.serial) x.pages ++ l) (holds_of_names s xs found.1)

pub holds_end : (s : OpenTxs) (ts : List TxId) (i : ℕ) (out : List HoldItem) → length ts ≤ i → ts ≡ map (λ x. name_of s x.serial) s.txs → IsNumbered s
    → out ++ holds_by s (drop i ts) ≡ holds_by s ts → out ≡ holds_of s s.txs
holds_end s ts i out past names numbered listed =
    sym (ap (λ l. out ++ holds_by s l) (drop_of_length-le ts past) ∙ append-nil out)
    ∙ (listed ∙ (ap (holds_by s) names ∙ holds_of_names s s.txs (names_find s numbered)))

-- the next number in a row, and none that is left
pub left_next : (i end : ℕ) → i < end → count_from i (end - i) ≡ i ∷ count_from (i + 1) (end - (i + 1))
unfolding count_from
left_next i end below = let one : end - i ≡ suc (end - (i + 1)) = omega (arith, below) in ap (count_from i) one

pub left_none : (i end : ℕ) → end ≤ i → count_from i (end - i) ≡ []
unfolding count_from
left_none i end past = let none : end - i ≡ 0 = omega (arith, past) in ap (count_from i) none

-- who waits for one more page
pub waits_step : (n : NodeState) (i end : ℕ) (out later : List WaitItem) → i < end → later ≡ out ++ waits_at n i
    → later ++ waits_on n (count_from (i + 1) (end - (i + 1))) ≡ out ++ waits_on n (count_from i (end - i))
unfolding waits_on
waits_step n i end out later below made =
    let rest = waits_on n (count_from (i + 1) (end - (i + 1))) in
    ap (λ l. l ++ rest) made ∙ (append_assoc out (waits_at n i) rest ∙ ap (λ l. out ++ l) (sym (ap (waits_on n) (left_next i end below))))

pub waits_end : (n : NodeState) (i end : ℕ) (out : List WaitItem) → end ≤ i → out ≡ out ++ waits_on n (count_from i (end - i))
unfolding waits_on
waits_end n i end out past = sym (ap (λ l. out ++ waits_on n l) (left_none i end past) ∙ append-nil out)

-- who waits for a page of a table: nobody where it isn't served
pub waits_unserved : (t : TableView) (p : ℕ) (out : List WaitItem) → t.serving ≡ false → out ≡ out ++ waits_in p (waiters_in (Some (table_of t)) p)
waits_unserved t p out not_served =
    sym (append-nil out) ∙ ap (λ b. out ++ waits_in p (pick b (entry_at (table_of t) p).waiting [])) (sym not_served)

-- else those of its entry
pub waits_served : (t : TableView) (p : ℕ) (e : Option LockEntry) → t.serving ≡ true → entry_at (table_of t) p ≡ entry_of t p → e ≡ found t p
    → waits_in p (unwrap_or e (idle (kept_version t p))).waiting ≡ waits_in p (waiters_in (Some (table_of t)) p)
waits_served t p e served entry is =
    ap (λ o. waits_in p (unwrap_or o (idle (kept_version t p))).waiting) is
    ∙ (ap (λ (x : LockEntry). waits_in p x.waiting) (sym entry) ∙ ap (λ b. waits_in p (pick b (entry_at (table_of t) p).waiting [])) (sym served))
