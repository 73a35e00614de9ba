-- The owner's dirty copy and the entry, in a state of the machine and at the nodes of a cluster.
use Rattle.std.proofs.Common.{◌≡◌, refl, ap, sym, subst, ◌∙◌, ℕ, ◌==◌, ◌&&◌, Bool, true, Option, Some, None, arith, eqb-true}
use Rattle.std.proofs.lemmas.Bool.Decides.{nat_tests}
use Rattle.node_rules.specs.LockTable.{LockTable, entry_at}
use Rattle.node_rules.specs.NodeState.{NodeState, is_serving, table_at, partition}
use Rattle.cluster_rules.specs.Clusters.{node_at}
use Rattle.home_laws.proofs.Tests.{and_left, and_right}
use Rattle.page_protocol.specs.State.{Page}
use Rattle.page_protocol.proofs.Keeps.{reached_holds}
use Rattle.page_relation.specs.Looks.{slot_of, dirty_of}
use Rattle.page_relation.specs.Tables.{TableIs, TableIn, TableOf, serves_in}
use Rattle.cluster_laws.specs.Era.Eras.{era_in}
use Rattle.related_runs.specs.Between.Between.{table_in, EnteredIsSeen, SeenIsEntered}

-- the entry of the table that serves is the machine's
table_entry : (a : Page) (p q n : ℕ) (o : Option NodeState) (t : LockTable) → TableOf a p q n o → table_in o q ≡ Some t → t.serving ≡ true → (entry_at t p).version ≡ a.entry
table_entry a p q n None t of at serves = absurd (cc)
table_entry a p q n (Some s) t of at serves =
    let is : TableIs a p n (era_in s.view q) t.serving t = subst (TableIn a p n (era_in s.view q)) at of in
    let served : TableIs a p n (era_in s.view q) true t = subst (λ (b : Bool). TableIs a p n (era_in s.view q) b t) serves is in
    served.version

pub entered_is_seen_law : EnteredIsSeen
unfolding slot_of dirty_of
entered_is_seen_law c p n a r entered t x at serves dirty slot =
    let both : (a.dirty && n == a.owner) ≡ true = sym (r.copies.dirty_same n) ∙ dirty in
    let own : n ≡ a.owner = eqb-true n a.owner (and_right a.dirty (n == a.owner) both) in
    let same = table_entry a p (partition c.config p) n (node_at c n) t (r.tables.tables n) at serves in
    let le = entered x (and_left a.dirty (n == a.owner) both) (sym (ap a.slot own) ∙ sym (r.copies.slot_same n) ∙ slot) in
    omega (arith, le, same)

-- a node that serves has a table
record Serving (o : Option NodeState) (q : ℕ) : Type 0 where
  table : LockTable
  there : table_in o q ≡ Some table
  serves : table.serving ≡ true

serving : (o : Option NodeState) (q : ℕ) → serves_in o q ≡ true → Serving o q
serving None q e = absurd (cc)
serving (Some s) q e = by (table_at s q) refl e
  where
    by : (x : Option LockTable) → table_at s q ≡ x → is_serving x ≡ true → Serving (Some s) q
    by None at e = absurd (cc)
    by (Some t) at e = record { table = t; there = at; serves = e }

same_number : (n : ℕ) → (n == n) ≡ true
same_number n = grind (arith, nat_tests)

pub seen_is_entered_law : SeenIsEntered
unfolding slot_of dirty_of
seen_is_entered_law blank c p a reached r each x dirty slot =
    let served : a.served ≡ true = (reached_holds blank a reached).kept_holds.dirty_served dirty in
    let there : Serving (node_at c a.owner) (partition c.config p) = serving (node_at c a.owner) (partition c.config p) (r.tables.serving served) in
    let same = table_entry a p (partition c.config p) a.owner (node_at c a.owner) there.table (r.tables.tables a.owner) there.there there.serves in
    let le = each a.owner there.table x there.there there.serves
    (r.copies.dirty_same a.owner ∙ ap (λ (b : Bool). a.dirty && b) (same_number a.owner) ∙ ap (λ (b : Bool). b && true) dirty)
    (r.copies.slot_same a.owner ∙ slot) in
    omega (arith, le, same)
