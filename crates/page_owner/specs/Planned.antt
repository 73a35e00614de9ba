-- What a node plans for one of its own pages, and what it needs to put the plan in.
use Rattle.std.specs.Prelude.{◌≡◌, ⊤, ℕ, List, [], ◌∷◌, Option, Some, None, IsSome}
use Rattle.node_rules.specs.LockRule.{Settled}
use Rattle.node_rules.specs.LockTable.{LockTable}
use Rattle.node_rules.specs.NodeState.{number_of}
use Rattle.authority.specs.Plans.{Plan}
use Rattle.authority.specs.declared.outcome.Outcome.{Outcome}
use Rattle.node_parts.specs.State.{PartsView, IsNode, node_of}
use Rattle.node_parts.specs.Tables.{AreTidyBut, made_at}

-- a plan as the owner's rules see it, and the entry and the decisions of it
abbrev pub plan_of : Outcome → Plan
plan_of o = record { entry = o.entry; changed = o.changed; decisions = o.decisions.items }

abbrev pub settled_of : Outcome → Settled
settled_of o = record { decisions = o.decisions.items; entry = o.entry }

-- there is a plan exactly where there is a table, and it is that of the table
abbrev pub IsPlanFor : Option LockTable → (LockTable → Plan) → Option Outcome → Type 0
IsPlanFor None plan None = ⊤
IsPlanFor None plan (Some o) = ⊥
IsPlanFor (Some t) plan None = ⊥
IsPlanFor (Some t) plan (Some o) = plan_of o ≡ plan t

-- the parts of a node within a step: what holds of every node, but that the entries of some pages, for
-- which there is room, may have empty lists
pub record ArePartsBut (pages : List ℕ) (v : PartsView) : Type 0 where
  pub node : IsNode (node_of v)
  pub number : v.me ≡ number_of (node_of v)
  pub config : v.tables.config ≡ v.home.config
  pub tidy : AreTidyBut pages v.tables

-- the node's number, epoch and view are the same
pub record SameView (old new : PartsView) : Type 0 where
  pub me : new.me ≡ old.me
  pub epoch : new.epoch ≡ old.epoch
  pub view : new.view ≡ old.view

-- the parts of a node with room for the entry of a page, among some pages whose entries may have empty lists
pub record MayEnter (page : ℕ) (v : PartsView) : Type 0 where
  pub node : IsNode (node_of v)
  pub number : v.me ≡ number_of (node_of v)
  pub config : v.tables.config ≡ v.home.config
  pub made : IsSome (made_at v.tables page)

-- the parts of a node with room for the entry of a page: no other entry has empty lists
pub record HasMade (page : ℕ) (v : PartsView) : Type 0 where
  pub node : IsNode (node_of v)
  pub number : v.me ≡ number_of (node_of v)
  pub config : v.tables.config ≡ v.home.config
  pub made : IsSome (made_at v.tables page)
  pub tidy : AreTidyBut (page ∷ []) v.tables
