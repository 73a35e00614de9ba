-- How much memory plans take, and what is left of it.
use Rattle.std.specs.Prelude.{◌≡◌, ℕ, ◌+◌, ◌≤◌, Bool, List, [], ◌∷◌, length, is_some}
use Rattle.node_rules.specs.Words.{pick}
use Rattle.node_parts.specs.Outputs.{OutputsView}
use Rattle.node_parts.specs.Stock.{StockView}
use Rattle.install_plans.specs.declared.plan.PartitionPlan.{PartitionPlan}
use Rattle.partition_steps.specs.declared.needs.Needs.{Needs}

-- one where a flag is set
abbrev pub one_if : Bool → ℕ
one_if b = pick b 1 0

-- a plan: an image, a reply and a message for each decision, a reply where the partition begins to be
-- served, and a message for the report
abbrev pub needs_of : PartitionPlan → Needs
needs_of p =
    record {
      images = length p.decisions.items;
      replies = length p.decisions.items + one_if p.begins;
      sends = length p.decisions.items + one_if (is_some p.report);
    }

-- no memory, and that for two things
abbrev pub no_needs : Needs
no_needs = record { images = 0; replies = 0; sends = 0 }

abbrev pub both : Needs → Needs → Needs
both a b = record { images = a.images + b.images; replies = a.replies + b.replies; sends = a.sends + b.sends }

-- the same of some plans, each with its partition
abbrev pub needs_of_all : List (ℕ × PartitionPlan) → Needs
needs_of_all [] = no_needs
needs_of_all (x ∷ xs) = both (needs_of x.1) (needs_of_all xs)

-- there is memory for them
pub record HasMemoryFor (n : Needs) (stock : StockView) (out : OutputsView) : Type 0 where
  pub images : n.images ≤ stock.count
  pub replies : n.replies ≤ out.reply_room
  pub sends : n.sends ≤ out.send_room

-- they used at most that much
pub record UsesAtMost (n : Needs) (stock later : StockView) (out after : OutputsView) : Type 0 where
  pub size : later.size ≡ stock.size
  pub images : stock.count ≤ later.count + n.images
  pub replies : out.reply_room ≤ after.reply_room + n.replies
  pub sends : out.send_room ≤ after.send_room + n.sends
