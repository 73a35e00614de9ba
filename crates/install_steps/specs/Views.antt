-- What holds of a node's parts while a view is installed, and which plans fit a view.
use Rattle.std.specs.Prelude.{◌≡◌, ◌<◌, ⊤, ℕ, ◌+◌, ◌==◌, Bool, true, false, List, [], ◌∷◌, is_some}
use Rattle.run_rules.specs.Views.{View, owner_of}
use Rattle.node_rules.specs.OpenTxs.{OpenTxs}
use Rattle.node_parts.specs.State.{PartsView}
use Rattle.node_parts.specs.Tables.{place_at}
use Rattle.install_plans.specs.declared.plan.TableAfter.{TableAfter}
use Rattle.install_plans.specs.declared.plan.TableAfter.TheVariants.{AsBefore, Is, Gone}
use Rattle.install_plans.specs.declared.plan.PartitionPlan.{PartitionPlan}

-- no transaction was begun
pub record IsUnbegun (s : OpenTxs) : Type 0 where
  pub none : s.txs ≡ []
  pub first : s.last ≡ 0

-- whether there is a table after a plan, where there was one or not
abbrev pub stands_after : TableAfter → Bool → Bool
stands_after AsBefore before = before
stands_after (Is t) before = true
stands_after Gone before = false

-- the same for the plan of a partition at a node
abbrev pub ends_with_table : PartsView → ℕ → PartitionPlan → Bool
ends_with_table v q p = stands_after p.table (is_some (place_at v.tables.places q))

-- the plan at a place is that of the partition of this number, and leaves a table where the node owns it
-- in the view
pub record IsAptAt (v : PartsView) (w : View) (k : ℕ) (x : ℕ × PartitionPlan) : Type 0 where
  pub number : x.0 ≡ k
  pub below : k < v.home.config.nodes
  pub table : ends_with_table v k x.1 ≡ (owner_of w k == v.me)

-- the same of plans from a place on
abbrev pub AreAptFrom : PartsView → View → ℕ → List (ℕ × PartitionPlan) → Type 0
AreAptFrom v w k [] = ⊤
AreAptFrom v w k (x ∷ xs) = IsAptAt v w k x × AreAptFrom v w (k + 1) xs

-- a later node has the same number, of its transactions too, and the same configuration
pub record KeepsNumbers (old new : PartsView) : Type 0 where
  pub me : new.me ≡ old.me
  pub number : new.home.txs.node ≡ old.home.txs.node
  pub config : new.home.config ≡ old.home.config
