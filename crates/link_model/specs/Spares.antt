-- Links with room: for each link its messages, and for how many more there is surely room.
use Rattle.std.specs.Prelude.{◌≡◌, ℕ, ◌+◌, ◌≤◌, List, [], map, slice_index, slice_index_or, slice_set}
use Rattle.pcl_base.specs.declared.message.Message.{Message}
use Rattle.cluster_rules.specs.Links.{Links}

-- one link: its messages and its spare
pub record LinkView : Type 0 where
  pub messages : List Message
  pub spare : ℕ

-- the messages and the spares of the links from one node
abbrev pub messages_of : List LinkView → List (List Message)
messages_of row = map (λ (q : LinkView). q.messages) row

abbrev pub spares_of : List LinkView → List ℕ
spares_of row = map (λ (q : LinkView). q.spare) row

-- all links: for each sender a list for each receiver, and the spares in the same order
pub record LinksView : Type 0 where
  pub links : Links
  pub spares : List (List ℕ)

-- the spare of the link from a to b
abbrev pub spare_at : List (List ℕ) → ℕ → ℕ → ℕ
spare_at spares a b = slice_index (slice_index_or spares a []) b

-- no spare of the links from one node, and of all links, is lower
abbrev pub NotLowerFrom : List ℕ → List ℕ → Type 0
NotLowerFrom before now = (b : ℕ) → slice_index before b ≤ slice_index now b

abbrev pub NotLower : List (List ℕ) → List (List ℕ) → Type 0
NotLower before now = (a b : ℕ) → spare_at before a b ≤ spare_at now a b

-- the spare of one link may be one lower, and no other changes
abbrev pub put_spare : List (List ℕ) → ℕ → ℕ → ℕ → List (List ℕ)
put_spare spares a b spare = slice_set spares a (slice_set (slice_index_or spares a []) b spare)

pub record UsesOne (before now : List (List ℕ)) (a b : ℕ) : Type 0 where
  pub others : now ≡ put_spare before a b (spare_at now a b)
  pub one : spare_at before a b ≤ spare_at now a b + 1

-- the spare of one link is higher, and no other changes
pub record FreesOne (before now : List (List ℕ)) (a b : ℕ) : Type 0 where
  pub others : now ≡ put_spare before a b (spare_at now a b)
  pub one : spare_at before a b + 1 ≤ spare_at now a b
