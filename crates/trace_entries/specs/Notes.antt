-- What the notes of an entry need of memory: a list for each return, and three for each report.
use Rattle.std.specs.Prelude.{ℕ, ◌≤◌, List, length}
use Rattle.std.specs.List.{AllByRecursion}
use Rattle.pcl_base.specs.declared.trace.Sent.{Sent}
use Rattle.node_rules.specs.NodeState.{Outgoing}
use Rattle.step_laws.specs.Most.{items_in}
use Rattle.listing_laws.specs.Lists.{lists_sent}

-- the notes so far, for how many more there is room, how many of them may have lists, and how many items
-- each of these may have
pub record NotesView : Type 0 where
  pub sent : List Sent
  pub room : ℕ
  pub lists : ℕ
  pub size : ℕ

-- there is memory for the notes of these messages
pub record HasMemory (v : NotesView) (sends : List Outgoing) : Type 0 where
  pub notes : length sends ≤ v.room
  pub lists : lists_sent sends ≤ v.lists
  pub items : AllByRecursion (λ o. items_in o.message.body ≤ v.size) sends
