-- A node that has one table, which is served: a page's entry is changed and settled.
use Rattle.std.proofs.Common.{◌≡◌, refl, ap, ◌∙◌, ℕ, ◌%◌, true, List, [], ◌∷◌, slice_set, slice_index_or, None, Some}
use Rattle.std.specs.Prelude.{Option}
use Rattle.std.proofs.Math.Nat.{mod-one}
use Rattle.pcl_base.specs.Limits.{Sizes}
use Rattle.node_rules.specs.LockRule.{LockEntry, Settled, settle}
use Rattle.node_rules.specs.LockTable.{LockTable, entry_at, put_entry}
use Rattle.node_rules.specs.NodeState.{NodeState, number_of, partition, table_of}
use Rattle.node_rules.specs.Work.{Work, for_each}
use Rattle.node_rules.specs.OwnerRule.{with_table, carry_out, carry_all, settle_served, settle_in, settle_page, enter_in, enter}
use Rattle.single_laws.proofs.Entries.{put_here}

-- each page is of partition 0
pub partition_zero : (c : Sizes) (p : ℕ) → c.nodes ≡ 1 → partition c p ≡ 0
partition_zero c p one = ap (λ n. p % n) one ∙ mod-one p

-- the work with another table
abbrev pub with_one : LockTable → Work → Work
with_one tb w = record w { node = record (w.node) { tables = Some tb ∷ [] } }

pub table_is : (n : NodeState) (tb : LockTable) (p : ℕ) → n.home.config.nodes ≡ 1 → n.tables ≡ Some tb ∷ [] → table_of n p ≡ Some tb
table_is n tb p one tables = ap (λ q. slice_index_or n.tables q None) (partition_zero n.home.config p one) ∙ ap (λ ts. slice_index_or ts 0 None) tables

pub put_is : (w : Work) (tb new : LockTable) (p : ℕ) → w.node.home.config.nodes ≡ 1 → w.node.tables ≡ Some tb ∷ [] → with_table p new w ≡ with_one new w
put_is w tb new p one tables =
    let same : slice_set w.node.tables (partition w.node.home.config p) (Some new) ≡ Some new ∷ []
    = ap (λ q. slice_set w.node.tables q (Some new)) (partition_zero w.node.home.config p one) ∙ ap (λ ts. slice_set ts 0 (Some new)) tables in
    ap (λ (ts : List (Option LockTable)). let x : Work = record w { node = record (w.node) { tables = ts } } in x) same

-- the entry that a change of it leaves
abbrev pub settled : (LockEntry → LockEntry) → ℕ → Work → LockTable → Settled
settled f p w tb = settle (number_of w.node) (f (entry_at tb p))

-- the table after it
abbrev pub entered_table : (LockEntry → LockEntry) → ℕ → Work → LockTable → LockTable
entered_table f p w tb = put_entry (put_entry tb p (f (entry_at tb p))) p (settled f p w tb).entry

pub entered : (f : LockEntry → LockEntry) (p : ℕ) (w : Work) (tb : LockTable) → w.node.home.config.nodes ≡ 1 → w.node.tables ≡ Some tb ∷ [] → tb.serving ≡ true
    → enter f p w ≡ for_each (carry_out p (settled f p w tb).entry.version) (settled f p w tb).decisions (with_one (entered_table f p w tb) w)
unfolding enter settle_page
entered f p w tb one tables serving =
    ap (λ o. enter_in f p o w) (table_is w.node tb p one tables)
    ∙ ap (settle_page p) (put_is w tb first p one tables)
    ∙ ap (λ o. settle_in p o mid) (table_is mid.node first p one refl)
    ∙ ap (λ b. settle_served b p first mid) serving
    ∙ ap (λ e. carry_all p first (settle (number_of w.node) e) mid) (put_here tb p (f (entry_at tb p)))
    ∙ ap (for_each (carry_out p (settled f p w tb).entry.version) (settled f p w tb).decisions) (put_is mid first (entered_table f p w tb) p one refl)
  where
    first : LockTable
    first = put_entry tb p (f (entry_at tb p))

    mid : Work
    mid = with_one first w
