-- What is planned for the end of a transaction of the node, page by page, and what telling it needs.
use Rattle.std.specs.Prelude.{◌≡◌, ⊤, ℕ, ◌+◌, ◌<◌, ◌≤◌, Bool, true, false, List, [], ◌∷◌, ◌++◌, map, length, Option, Some, None, IsSome, is_some}
use Rattle.std.specs.List.{AllByRecursion}
use Rattle.pcl_base.specs.declared.lock.Held.{Held}
use Rattle.pcl_base.specs.declared.lock.Pending.{Pending}
use Rattle.pcl_base.specs.declared.tx.TxId.{TxId}
use Rattle.node_rules.specs.Words.{is_exclusive, pick}
use Rattle.node_rules.specs.EndRule.{Ending, new_version}
use Rattle.node_rules.specs.LockTable.{LockTable, entry_at}
use Rattle.node_rules.specs.NodeState.{HomeState, NodeState, number_of, table_of}
use Rattle.node_rules.specs.OpenTxs.{lock_on, locks_of, pending_of}
use Rattle.node_rules.specs.OwnerRule.{version_of_change}
use Rattle.authority.specs.Plans.{plan_release}
use Rattle.authority.specs.declared.outcome.Outcome.{Outcome}
use Rattle.home.specs.Ends.{listed}
use Rattle.node_parts.specs.Outputs.{OutputsView}
use Rattle.node_parts.specs.State.{PartsView, IsNode, node_of}
use Rattle.node_parts.specs.Stock.{StockView}
use Rattle.node_parts.specs.Tables.{AreTidyBut, TablesView, made_at}
use Rattle.page_owner.specs.Planned.{IsPlanFor}
use Rattle.own_steps.specs.declared.page_end.PageEnd.{PageEnd}

-- a page at an end, with the version of the change of which its entry is told
abbrev pub due : Ending → ℕ × Option ℕ
due e = (e.page, version_of_change e.change)

-- the same of a lock, where `commits` tells whether the transaction commits
abbrev pub lock_due : Bool → HomeState → Held → ℕ × Option ℕ
lock_due false h l = (l.page, None)
lock_due true h l = (l.page, pick (is_exclusive l.mode) (Some (new_version h l.page)) None)

-- the same of the page that is waited for, where it isn't held
abbrev pub waited_due : List Held → Option Pending → List (ℕ × Option ℕ)
waited_due hs None = []
waited_due hs (Some w) = pick (is_some (lock_on hs w.page)) [] ((w.page, None) ∷ [])

-- the same of all pages of a transaction, in order
abbrev pub dues : Bool → HomeState → TxId → List (ℕ × Option ℕ)
dues commits h t = map (lock_due commits h) (locks_of h.txs t) ++ waited_due (locks_of h.txs t) (pending_of h.txs t)

-- the pages of them
abbrev pub due_pages : List (ℕ × Option ℕ) → List ℕ
due_pages ds = map (λ d. d.0) ds

-- a plan for a page, where the node owns it
abbrev pub IsDuePlan : NodeState → ℕ → TxId → ℕ × Option ℕ → Option Outcome → Type 0
IsDuePlan n me t d planned = IsPlanFor (table_of n d.0) (λ tb. plan_release tb me d.0 t d.1) planned

-- what is planned for such a page
abbrev pub IsEndPlan : NodeState → ℕ → TxId → ℕ × Option ℕ → PageEnd → Type 0
IsEndPlan n me t d x = (x.page ≡ d.0) × IsDuePlan n me t d x.planned

-- the plans of some pages, in order
abbrev pub AreEndPlans : NodeState → ℕ → TxId → List (ℕ × Option ℕ) → List PageEnd → Type 0
AreEndPlans n me t [] [] = ⊤
AreEndPlans n me t (d ∷ ds) (x ∷ xs) = IsEndPlan n me t d x × AreEndPlans n me t ds xs
AreEndPlans n me t [] (x ∷ xs) = ⊥
AreEndPlans n me t (d ∷ ds) [] = ⊥

-- how many decisions plans have
abbrev pub decisions_of : Option Outcome → ℕ
decisions_of None = 0
decisions_of (Some o) = length o.decisions.items

abbrev pub decisions_in : List PageEnd → ℕ
decisions_in [] = 0
decisions_in (x ∷ xs) = decisions_of x.planned + decisions_in xs

-- there is room for the entry of a page where one is planned
pub record HasEntry (v : TablesView) (x : PageEnd) : Type 0 where
  pub made : is_some x.planned ≡ true → IsSome (made_at v x.page)

-- the node owns a page for whose entry something is planned
pub record IsOwned (n : NodeState) (x : PageEnd) : Type 0 where
  pub own : is_some x.planned ≡ true → is_some (table_of n x.page) ≡ true

-- the pages of plans
abbrev pub pages_in : List PageEnd → List ℕ
pages_in xs = map (λ x. x.page) xs

-- each page is there once
abbrev pub AreApart : List ℕ → Type 0
AreApart [] = ⊤
AreApart (p ∷ ps) = (listed ps p ≡ false) × AreApart ps

-- the parts of a node that ends a transaction: these ends are still to be told, their entries are planned,
-- there is room for these, and every other entry is in use
pub record AwaitsEnds (v : PartsView) (t : TxId) (ds : List (ℕ × Option ℕ)) (xs : List PageEnd) : Type 0 where
  pub node : IsNode (node_of v)
  pub number : v.me ≡ number_of (node_of v)
  pub config : v.tables.config ≡ v.home.config
  pub plans : AreEndPlans (node_of v) v.me t ds xs
  pub rooms : AllByRecursion (HasEntry v.tables) xs
  pub below : AllByRecursion (λ p. p < v.home.config.pages) (due_pages ds)
  pub apart : AreApart (due_pages ds)
  pub tidy : AreTidyBut (due_pages ds) v.tables

-- the same of one end
pub record MayTell (v : PartsView) (t : TxId) (d : ℕ × Option ℕ) (planned : Option Outcome) : Type 0 where
  pub node : IsNode (node_of v)
  pub number : v.me ≡ number_of (node_of v)
  pub config : v.tables.config ≡ v.home.config
  pub plan : IsDuePlan (node_of v) v.me t d planned
  pub room : is_some planned ≡ true → IsSome (made_at v.tables d.0)
  pub below : d.0 < v.home.config.pages

-- a table is there as before, and has the same entry of a page
abbrev pub SameEntry : Option LockTable → Option LockTable → ℕ → Type 0
SameEntry None None p = ⊤
SameEntry (Some t) (Some u) p = (u.serving ≡ t.serving) × (entry_at u p ≡ entry_at t p)
SameEntry None (Some u) p = ⊥
SameEntry (Some t) None p = ⊥

-- there is memory for what is told at these pages: for each decision an image, a reply and a message, and
-- for each page a message
pub record HasMemoryFor (xs : List PageEnd) (stock : StockView) (out : OutputsView) : Type 0 where
  pub images : decisions_in xs ≤ stock.count
  pub replies : decisions_in xs ≤ out.reply_room
  pub sends : decisions_in xs + length xs ≤ out.send_room

-- an end with so many decisions used at most that much
pub record UsesEnd (count : ℕ) (stock later : StockView) (out after : OutputsView) : Type 0 where
  pub size : later.size ≡ stock.size
  pub images : stock.count ≤ later.count + count
  pub replies : out.reply_room ≤ after.reply_room + count
  pub sends : out.send_room ≤ after.send_room + (count + 1)
