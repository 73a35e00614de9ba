-- The links of a sweep, and those of some sweeps one after the other.
use Rattle.std.specs.Prelude.{ℕ, zero, suc, ◌≤◌, ◌==◌, ◌&&◌, not, Bool, List, [], ◌∷◌, ◌++◌, Option, Some, None, map, flat_map, filter}
use Rattle.pcl_base.specs.declared.event.Event.{Event}
use Rattle.pcl_base.specs.declared.event.Event.TheVariants.{Deliver}

-- the first of some, and the others
abbrev pub first_of : {X : Type 0} → List X → Option X
first_of [] = None
first_of (x ∷ xs) = Some x

abbrev pub rest_of : {X : Type 0} → List X → List X
rest_of [] = []
rest_of (x ∷ xs) = xs

-- the links from a node to each other live one, and all between live ones
abbrev pub links_from : ℕ → List ℕ → List (ℕ × ℕ)
links_from x live = map (λ (y : ℕ). (x, y)) (filter (λ y. not (x == y)) live)

abbrev pub links_of : List ℕ → List (ℕ × ℕ)
links_of live = flat_map (λ x. links_from x live) live

-- the deliveries on some links
abbrev pub delivered : List (ℕ × ℕ) → List Event
delivered links = map (λ (link : ℕ × ℕ). Deliver link.0 link.1) links

-- a list so many times
abbrev pub repeated : {X : Type 0} → ℕ → List X → List X
repeated zero xs = []
repeated (suc n) xs = xs ++ repeated n xs

-- the links of one sweep, and those on which a delivery is due
pub record SweepsView : Type 0 where
  pub sweep : List (ℕ × ℕ)
  pub due : List (ℕ × ℕ)

-- both ends of a link are nodes
abbrev pub IsLink : ℕ × ℕ → Type 0
IsLink link = (link.0 ≤ 15) × (link.1 ≤ 15)

-- whether neither end of a link is a node
abbrev pub avoids : ℕ → ℕ × ℕ → Bool
avoids n link = not (link.0 == n) && not (link.1 == n)
