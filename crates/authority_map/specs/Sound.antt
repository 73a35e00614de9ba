-- What holds of every view.
use Rattle.std.specs.Prelude.{◌≡◌, ℕ, ◌≤◌, ◌&&◌, nat_lt, Bool, true, List, length}
use Rattle.std.specs.List.{list_all}
use Rattle.pcl_base.specs.Limits.{Sizes, is_between}
use Rattle.run_rules.specs.Views.{View, is_live}

-- the numbers of a configuration of n nodes; views depend on no other of its numbers
abbrev pub of_nodes : ℕ → Sizes
of_nodes n = record { nodes = n; pages = 1; size = 8; frames = 2 }

-- whether a node is one of the live ones
abbrev pub is_among : List Bool → ℕ → Bool
is_among live n = nat_lt n (length live) && is_live live n

-- 1 to 16 nodes; an owner, an epoch since which it owns, and an epoch of birth for each; each owner is
-- live; each of these epochs is 1 to that of the view
pub record IsSound (v : View) : Type 0 where
  pub some_nodes : 1 ≤ length v.live
  pub most_nodes : length v.live ≤ 16
  pub each_owner : length v.owners ≡ length v.live
  pub each_since : length v.since ≡ length v.live
  pub each_born : length v.born ≡ length v.live
  pub live_owners : list_all (is_among v.live) v.owners ≡ true
  pub since_within : list_all (is_between 1 v.epoch) v.since ≡ true
  pub born_within : list_all (is_between 1 v.epoch) v.born ≡ true
