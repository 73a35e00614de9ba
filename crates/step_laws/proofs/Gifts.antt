-- What a whole event has given, and how that follows from caps.
use Rattle.std.proofs.Common.{◌≡◌, ◌⊎◌, ℕ, ◌+◌, ◌≤◌, List, [], ◌∷◌, length, Option, Some, None, refl, ap, inl, arith}
use Rattle.std.specs.List.{AllByRecursion}
use Rattle.pcl_base.specs.declared.lock.Pending.{Pending}
use Rattle.pcl_base.specs.declared.reply.Reply.{Reply}
use Rattle.node_rules.specs.LockRule.{LockEntry}
use Rattle.node_rules.specs.LockTable.{LockTable, PageEntry}
use Rattle.node_rules.specs.OpenTxs.{OpenTx}
use Rattle.node_rules.specs.NodeState.{NodeState, Outgoing}
use Rattle.node_rules.specs.Shelf.{Right}
use Rattle.node_rules.specs.Work.{Work, Outcome}
use Rattle.node_rules.specs.OwnerRule.{enter}
use Rattle.step_laws.specs.Most.{sum_of, one_access, waiting_in, rights_in, accesses, waiting, rights, locks, items_sent, HasFewReaders}
use Rattle.step_laws.proofs.Sums.{sum_most, sum_ones, sum_split}
use Rattle.step_laws.proofs.Settles.{due, load, due_few}
use Rattle.step_laws.proofs.Tables.{in_table, in_tables, tables_less}
use Rattle.step_laws.proofs.Outcomes.{On, on_more}
use Rattle.step_laws.proofs.Homes.{weight_of, waits_by, stock}
use Rattle.step_laws.proofs.Works.{Cap, Holds, given}
use Rattle.step_laws.proofs.Pages.{enter_holds}

-- replies and sends are k at most, and items i
pub record Gave (k i : ℕ) (w : Work) : Type 0 where
  pub given : given w ≤ k
  pub items : items_sent w.sends ≤ i

-- what waits in tables, and the rights there
table_load : (o : Option LockTable) → in_table load o ≤ waiting_in o + rights_in o
table_load None = omega arith
table_load (Some t) = sum_split (λ (x : PageEntry). load x.entry) (λ x. length x.entry.waiting) (λ x. length x.entry.rights) (λ x. omega arith) t.entries

pub tables_load : (n : NodeState) → in_tables load n ≤ sum_of waiting_in n.tables + sum_of rights_in n.tables
tables_load n = sum_split (in_table load) waiting_in rights_in table_load n.tables

pub tables_due : (n : NodeState) → in_tables due n ≤ sum_of waiting_in n.tables + sum_of rights_in n.tables
tables_due n =
    let less = tables_less due load due_few n in
    let all = tables_load n in
    omega (arith, less, all)

-- counts by weights that are 1 at most
module _ (f : ℕ → ℕ) (each : (p : ℕ) → f p ≤ 1) where
  wait_one : (o : Option Pending) → weight_of f o ≤ one_access o
  wait_one None = omega arith
  wait_one (Some w) = each w.page

  pub waits_ones : (xs : List OpenTx) → waits_by f xs ≤ sum_of (λ x. one_access x.waiting) xs
  waits_ones xs = sum_most (λ (x : OpenTx). weight_of f x.waiting) (λ x. one_access x.waiting) (λ x. wait_one x.waiting) xs

  counted : {X : Type 0} (g : X → ℕ) (xs : List X) → sum_of (λ x. f (g x)) xs ≤ length xs
  counted g xs =
      let less = sum_most (λ x. f (g x)) (λ x. 1) (λ x. each (g x)) xs in
      let ones = sum_ones (λ x. 1) (λ x. refl) xs in
      omega (arith, less, ones)

  pub stock_ones : (n : NodeState) → stock f n.home ≤ sum_of (λ x. one_access x.waiting) n.home.txs.txs + locks n + length n.home.shelf
  stock_ones n =
      let waits = waits_ones n.home.txs.txs in
      let locks = sum_most (λ (x : OpenTx). sum_of (λ l. f l.page) x.pages) (λ x. length x.pages) (λ x. counted (λ l. l.page) x.pages) n.home.txs.txs in
      let shelf = counted (λ (r : Right). r.page) n.home.shelf in
      omega (arith, waits, locks, shelf)

-- the caps of a work under no weight
abbrev pub cap_of : Work → Cap
cap_of w =
    record {
      config = w.node.home.config;
      weight = λ p. 0;
      items = items_sent w.sends;
      stock = stock (λ p. 0) w.node.home;
      waits = waits_by (λ p. 0) w.node.home.txs.txs;
    }

pub holds_of : (f : LockEntry → ℕ) (w : Work) → Holds f (cap_of w) (given w + in_tables f w.node) w
holds_of f w = record { given = omega arith; items = omega arith; stock = omega arith; waits = omega arith; config = refl }

pub holds_gave : (w : Work) (k : ℕ) (o : Outcome Work) → On (Holds due (cap_of w) k) o → On (Gave k (items_sent w.sends)) o
holds_gave w k o held =
    on_more (Holds due (cap_of w) k) (Gave k (items_sent w.sends)) o
    (λ x h.
    let now = h.given in
    record { given = omega (arith, now); items = h.items })
    held

-- a page's entry is changed and settled
pub entered : (m : LockEntry → ℕ) (f : LockEntry → LockEntry) (j p : ℕ) → ((e : LockEntry) → due e ≤ m e) → m (record { version = 0; holders = []; rights = []; waiting = [] }) ≡ 0
    → ((e : LockEntry) → m (f e) ≤ m e + j) → (w : Work) → On (Gave (given w + in_tables m w.node + j) (items_sent w.sends)) (enter f p w)
entered m f j p most none change w =
    holds_gave w (given w + in_tables m w.node + j) (enter f p w) (enter_holds (cap_of w) p refl m f j most none change (given w + in_tables m w.node) w (holds_of m w))

-- a work with the same replies, sends and tables
pub record IsQuiet (a b : Work) : Type 0 where
  pub replies : b.replies ≡ a.replies
  pub sends : b.sends ≡ a.sends
  pub tables : b.node.tables ≡ a.node.tables

pub quiet_self : (w : Work) → IsQuiet w w
quiet_self w = record { replies = refl; sends = refl; tables = refl }

pub quiet_given : (a b : Work) → IsQuiet a b → given b ≡ given a
quiet_given a b q =
    let replies = ap (λ (rs : List Reply). length rs) q.replies in
    let sends = ap (λ (ss : List Outgoing). length ss) q.sends in
    omega (arith, replies, sends)

pub quiet_items : (a b : Work) → IsQuiet a b → items_sent b.sends ≡ items_sent a.sends
quiet_items a b q = ap items_sent q.sends

pub quiet_tables : (f : LockEntry → ℕ) (a b : Work) → IsQuiet a b → in_tables f b.node ≡ in_tables f a.node
quiet_tables f a b q = ap (sum_of (in_table f)) q.tables

-- what a node and an event that brings b items count
abbrev pub rest : NodeState → ℕ → ℕ
rest n b = waiting n + rights n + locks n + b

-- what the home has
abbrev pub listed : NodeState → ℕ
listed n = accesses n + locks n + length n.home.shelf

-- a step gives two at most, or one for each node and one more, beside what is counted
pub record IsDone (n : NodeState) (b : ℕ) (w : Work) : Type 0 where
  pub given : (given w ≤ 2 + rest n b) ⊎ (given w ≤ n.home.config.nodes + 1 + rest n b)
  pub items : HasFewReaders n → items_sent w.sends ≤ listed n

pub gave_done : (n : NodeState) (b k i : ℕ) (o : Outcome Work) → k ≤ 2 + rest n b → i ≤ listed n → On (Gave k i) o → On (IsDone n b) o
gave_done n b k i o less few gave =
    on_more (Gave k i) (IsDone n b) o
    (λ x h.
    let now = h.given in
    let items = h.items in
    record { given = inl (omega (arith, less, now)); items = λ readers. omega (arith, few, items) })
    gave

pub all_of : {X : Type 0} (P : X → Type 0) → ((x : X) → P x) → (xs : List X) → AllByRecursion P xs
all_of P each [] = tt
all_of P each (x ∷ xs) = (each x, all_of P each xs)
