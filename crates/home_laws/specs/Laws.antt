-- The laws of a home: each rule keeps what holds of every home.
use Rattle.std.specs.Prelude.{ℕ, ◌<◌}
use Rattle.pcl_base.specs.Limits.{Sizes, InLimits}
use Rattle.node_rules.specs.NodeState.{open_home}
use Rattle.home_laws.specs.Homes.{IsHome}

-- a home where nothing was begun is sound
abbrev pub OpenHomeIsSound : Type 0
OpenHomeIsSound = (c : Sizes) (me born : ℕ) → InLimits c → me < c.nodes → IsHome (open_home c me born)
