-- What stands on a link after each change of the links.
use Rattle.std.specs.Prelude.{◌≡◌, ℕ, ◌<◌, ◌==◌, ◌&&◌, Bool, List, [], ◌++◌, length}
use Rattle.std.specs.List.{AllByRecursion}
use Rattle.pcl_base.specs.Limits.{Sizes}
use Rattle.pcl_base.specs.declared.event.Event.{Event}
use Rattle.pcl_base.specs.declared.message.Message.{Message}
use Rattle.pcl_base.specs.declared.reply.Reply.{Reply}
use Rattle.node_rules.specs.Words.{pick}
use Rattle.node_rules.specs.NodeState.{Outgoing}
use Rattle.cluster_rules.specs.ClusterStep.{is_taken, links_after}
use Rattle.cluster_rules.specs.Links.{Links, empty_links, row_at, link_at, put_link, tail_of, take_head, send_all, clear_into}
use Rattle.cluster_laws.specs.Sound.{AreLinks}
use Rattle.cluster_laws.specs.Link.Coming.{sent_to, delivers}

-- a link for each pair of n nodes
pub record IsSquare (n : ℕ) (ls : Links) : Type 0 where
  pub rows : length ls ≡ n
  pub row : (a : ℕ) → a < n → length (row_at ls a) ≡ n

-- the links of a cluster are such
abbrev pub LinksAreSquare : Type 0
LinksAreSquare = (c : Sizes) (last : ℕ) (ls : Links) → AreLinks c last ls → IsSquare c.nodes ls

-- and stay so
abbrev pub SquaresStay : Type 0
SquaresStay =
    (n : ℕ) (ls : Links) (a b : ℕ) (ms : List Message) (up : ℕ → Bool) (os : List Outgoing) → IsSquare n ls
    → IsSquare n (put_link ls a b ms) × IsSquare n (send_all up a ls os) × IsSquare n (clear_into ls b)

-- no messages
abbrev pub EmptyLinks : Type 0
EmptyLinks = (n x y : ℕ) → link_at (empty_links n) x y ≡ []

-- other messages on a link
abbrev pub PutOnLinks : Type 0
PutOnLinks =
    (n : ℕ) (ls : Links) (a b x y : ℕ) (ms : List Message) → IsSquare n ls → a < n → b < n
    → link_at (put_link ls a b ms) x y ≡ pick (x == a && y == b) ms (link_at ls x y)

-- a link without its head; the others are as before
abbrev pub TakenFromLinks : Type 0
TakenFromLinks =
    (ls : Links) (a b x y : ℕ) → link_at (take_head ls a b) x y ≡ pick (x == a && y == b) (tail_of (link_at ls x y)) (link_at ls x y)

-- links into a node are empty
abbrev pub ClearedLinks : Type 0
ClearedLinks = (ls : Links) (b x y : ℕ) → link_at (clear_into ls b) x y ≡ pick (y == b) [] (link_at ls x y)

-- what is sent goes last on its link, in its order, where the receiver is up
abbrev pub SentOnLinks : Type 0
SentOnLinks =
    (n : ℕ) (up : ℕ → Bool) (from : ℕ) (ls : Links) (os : List Outgoing) (x y : ℕ) → IsSquare n ls → from < n
    → AllByRecursion (λ o. o.to < n) os
    → link_at (send_all up from ls os) x y ≡ link_at ls x y ++ pick (x == from && up y) (sent_to y os) []

-- the links once the head was taken, if it was
abbrev pub HeadsAfter : Type 0
HeadsAfter =
    (e : Event) (rs : List Reply) (ls : Links) (x y : ℕ)
    → link_at (links_after e rs ls) x y ≡ pick (delivers e x y && is_taken rs) (tail_of (link_at ls x y)) (link_at ls x y)
