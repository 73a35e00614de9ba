-- What is kept stays within the limits of a cluster.
use Rattle.std.specs.Prelude.{◌≡◌, ℕ, ◌≤◌, ◌<◌, List, [], ◌∷◌, length}
use Rattle.std.specs.List.{AllByRecursion}
use Rattle.text_rules.specs.Generator.{Making}

-- each number is below the later ones
abbrev pub IsRising : List ℕ → Type 0
IsRising [] = Unit {0}
IsRising (n ∷ ns) = AllByRecursion (λ m. n < m) ns × IsRising ns

-- a node is live, each live node and each owner is a node, and there are at most 16 of them
pub record IsWithin (s : Making) : Type 0 where
  pub some_live : 1 ≤ length s.live
  pub rising : IsRising s.live
  pub live : AllByRecursion (λ n. n < length s.serials) s.live
  pub owned : length s.owners ≡ length s.serials
  pub owners : AllByRecursion (λ n. n < length s.serials) s.owners
  pub few : length s.serials ≤ 16
