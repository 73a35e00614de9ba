-- Parts of clusters that no run comes to.
use Rattle.std.specs.Prelude.{ℕ, true, false, [], ◌∷◌}
use Rattle.pcl_base.specs.declared.message.Body.TheVariants.{Revoke}
use Rattle.pcl_base.specs.declared.message.Message.{Message}
use Rattle.run_rules.specs.Views.{View, first, moved}
use Rattle.node_rules.specs.NodeState.{first_node, start_node}
use Rattle.cluster_rules.specs.ClusterRows.{two}
use Rattle.cluster_laws.specs.Sound.{AreViews, IsMember, IsOnLink}

-- a message of an epoch
abbrev pub of_epoch : ℕ → Message
of_epoch e = record { epoch = e; body = Revoke 1 }

-- view 2, without node 1
abbrev pub without_one : View
without_one = moved (first two) (true ∷ false ∷ []) (0 ∷ 0 ∷ [])

-- a message of an epoch without a view
abbrev pub NoMessageIsAhead : Type 0
NoMessageIsAhead = IsOnLink two 1 0 1 (of_epoch 2) → ⊥

-- a message from a node to itself
abbrev pub NoMessageToItself : Type 0
NoMessageToItself = IsOnLink two 1 0 0 (of_epoch 1) → ⊥

-- a view that is made twice
abbrev pub NoViewTwice : Type 0
NoViewTwice = AreViews two (first two ∷ first two ∷ []) → ⊥

-- a node that is up while a later view drops it
abbrev pub NoNodeIsDropped : Type 0
NoNodeIsDropped = IsMember two (first two ∷ without_one ∷ []) 1 (first_node two 1) → ⊥

-- a node that starts without a view to begin with
abbrev pub NoNodeStartsAlone : Type 0
NoNodeStartsAlone = IsMember two (first two ∷ []) 0 (start_node two 0 1) → ⊥

-- a node at the place of another one
abbrev pub NoNodeElsewhere : Type 0
NoNodeElsewhere = IsMember two (first two ∷ []) 0 (first_node two 1) → ⊥
