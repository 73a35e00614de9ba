-- Links: for each ordered pair of nodes the messages on the way, first in, first out.
use Rattle.std.specs.Prelude.{ℕ, Bool, List, [], ◌∷◌, ◌++◌, replicate, slice_index_or, slice_set, map, Option}
use Rattle.pcl_base.specs.declared.message.Message.{Message}
use Rattle.node_rules.specs.NodeState.{Outgoing}
use Rattle.node_rules.specs.Words.{pick, head_of}

-- a list for each sender of a list for each receiver of the messages on their link
abbrev pub Links : Type 0
Links = List (List (List Message))

-- no message on any link
abbrev pub empty_links : ℕ → Links
empty_links n = replicate n (replicate n [])

-- the messages on the link from a to b
abbrev pub row_at : Links → ℕ → List (List Message)
row_at ls a = slice_index_or ls a []

-- the messages on the link from a to b
unfoldable pub link_at : Links → ℕ → ℕ → List Message
link_at ls a b = slice_index_or (row_at ls a) b []

-- other messages on the link from a to b
unfoldable pub put_link : Links → ℕ → ℕ → List Message → Links
put_link ls a b ms = slice_set ls a (slice_set (row_at ls a) b ms)

-- the head of the link from a to b, and the links without it
abbrev pub head_at : Links → ℕ → ℕ → Option Message
head_at ls a b = head_of (link_at ls a b)

-- the messages behind the first one
abbrev pub tail_of : List Message → List Message
tail_of [] = []
tail_of (m ∷ ms) = ms

-- the head of a link is gone
abbrev pub take_head : Links → ℕ → ℕ → Links
take_head ls a b = put_link ls a b (tail_of (link_at ls a b))

-- a message goes last on its link where its receiver is up, and else is lost
abbrev pub send : (ℕ → Bool) → ℕ → Links → Outgoing → Links
send up from ls o =
    pick (up o.to) (put_link ls from o.to (link_at ls from o.to ++ o.message ∷ [])) ls

-- some messages go on their links, one after the other
unfoldable pub send_all : (ℕ → Bool) → ℕ → Links → List Outgoing → Links
send_all up from ls [] = ls
send_all up from ls (o ∷ os) = send_all up from (send up from ls o) os

-- the links into b are empty
unfoldable pub clear_into : Links → ℕ → Links
clear_into ls b = map (λ (row : List (List Message)). slice_set row b []) ls
