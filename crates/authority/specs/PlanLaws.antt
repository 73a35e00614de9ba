-- What an owner plans is what a step of its node does: the planned entry takes its place in the table,
-- and the decisions are carried out in order.
use Rattle.std.specs.Prelude.{◌≡◌, ℕ, List, Option, Some}
use Rattle.pcl_base.specs.declared.tx.TxId.{TxId}
use Rattle.pcl_base.specs.declared.lock.Waiter.{Waiter}
use Rattle.pcl_base.specs.declared.message.Change.{Change}
use Rattle.node_rules.specs.LockRule.{ask, returned, takes_change}
use Rattle.node_rules.specs.LockTable.{LockTable, entry_at, put_entry}
use Rattle.node_rules.specs.NodeState.{number_of, table_of}
use Rattle.node_rules.specs.Work.{Work, Outcome, for_each}
use Rattle.node_rules.specs.OwnerRule.{with_table, carry_out, settle_page, enter, end_in, change_if_served, version_of_change}
use Rattle.authority.specs.Plans.{Plan, plan_request, plan_release, plan_return, plan_settle}

-- a plan for a page of a table is carried out
abbrev pub carry_plan : ℕ → LockTable → Plan → Work → Outcome Work
carry_plan p t x w = for_each (carry_out p x.entry.version) x.decisions (with_table p (put_entry t p x.entry) w)

-- a request that arrives
abbrev pub RequestsArePlanned : Type 0
RequestsArePlanned =
    (t : LockTable) (p : ℕ) (a : Waiter) (w : Work) → table_of w.node p ≡ Some t
    → enter (λ e. ask e a) p w ≡ carry_plan p t (plan_request t (number_of w.node) p a) w

-- a right that comes back
abbrev pub ReturnsArePlanned : Type 0
ReturnsArePlanned =
    (t : LockTable) (p from : ℕ) (readers : List TxId) (w : Work) → table_of w.node p ≡ Some t
    → enter (λ e. returned e from readers) p w ≡ carry_plan p t (plan_return t (number_of w.node) p from readers) w

-- a release that arrives, or the end of an own transaction
abbrev pub EndsArePlanned : Type 0
EndsArePlanned =
    (t : LockTable) (p : ℕ) (tx : TxId) (c : Option Change) (w : Work) → table_of w.node p ≡ Some t
    → enter (end_in tx (change_if_served t.serving c)) p w ≡ carry_plan p t (plan_release t (number_of w.node) p tx (version_of_change c)) w

-- whether the change that a release brings is taken
abbrev pub ChangesAreTaken : Type 0
ChangesAreTaken =
    (t : LockTable) (me p : ℕ) (tx : TxId) (c : Option Change)
    → takes_change (entry_at t p) tx (version_of_change (change_if_served t.serving c)) ≡ (plan_release t me p tx (version_of_change c)).changed

-- a page that is settled, where its table has its entry
abbrev pub SettlingIsPlanned : Type 0
SettlingIsPlanned =
    (t : LockTable) (p : ℕ) (w : Work) → table_of w.node p ≡ Some t → put_entry t p (entry_at t p) ≡ t
    → settle_page p w ≡ carry_plan p t (plan_settle t (number_of w.node) p) w
