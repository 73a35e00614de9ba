-- The numbers of a configuration and their limits.
use Rattle.std.specs.Prelude.{ℕ, ◌≤◌, ◌&&◌, Bool, true, false, nat_le, Result, Ok, Err}
use Rattle.pcl_base.specs.declared.config.ConfigFault.{ConfigFault}
use Rattle.pcl_base.specs.declared.config.ConfigFault.TheVariants.{BadNodes, BadPages, BadSize, BadFrames}

-- N nodes, P pages of B bytes, and F frames in each node's buffer
pub record Sizes : Type 0 where
  pub nodes : ℕ
  pub pages : ℕ
  pub size : ℕ
  pub frames : ℕ

-- the limits of each number
pub record InLimits (c : Sizes) : Type 0 where
  pub some_nodes : 1 ≤ c.nodes
  pub most_nodes : c.nodes ≤ 16
  pub some_pages : 1 ≤ c.pages
  pub most_pages : c.pages ≤ 65536
  pub least_size : 8 ≤ c.size
  pub most_size : c.size ≤ 4096
  pub least_frames : 2 ≤ c.frames
  pub most_frames : c.frames ≤ 4096

-- whether a number is within two limits
abbrev pub is_between : ℕ → ℕ → ℕ → Bool
is_between low high n = nat_le low n && nat_le n high

-- x at a number within its limits, else the fault
abbrev pub within : {X : Type 0} → Bool → ConfigFault → Result X ConfigFault → Result X ConfigFault
within true fault x = x
within false fault x = Err fault

-- the configuration of four numbers, or the first of them that is out of its limits
abbrev pub config_of : ℕ → ℕ → ℕ → ℕ → Result Sizes ConfigFault
config_of nodes pages size frames =
    within (is_between 1 16 nodes) BadNodes
    (within (is_between 1 65536 pages) BadPages
    (within (is_between 8 4096 size) BadSize
    (within (is_between 2 4096 frames) BadFrames
    (Ok (record { nodes = nodes; pages = pages; size = size; frames = frames })))))
