-- A step in the making: the state so far, the pages as the calls so far leave them, and these calls.
use Rattle.std.specs.Prelude.{ℕ, List, [], ◌∷◌, ◌++◌, slice_set, Option, Some, None, Result, Ok, Err}
use Rattle.pcl_base.specs.declared.message.Body.{Body}
use Rattle.pcl_base.specs.declared.reply.Reply.{Reply}
use Rattle.text_rules.specs.StoredPage.{PageAt, BadNumber, stored_bytes, stored_page}
use Rattle.node_rules.specs.Words.{pick}
use Rattle.node_rules.specs.BufferRule.{Pool, Copy, copy_at, clean}
use Rattle.node_rules.specs.NodeState.{HomeState, NodeState, Outgoing}
use Rattle.run_rules.specs.Disk.{raw_page}
use Rattle.node_rules.specs.DiskCalls.{DiskCall, WritePage}

-- a value, or a page that was read with another number or version than it must have
pub data Outcome (X : Type 0) : Type 0 where
  Goes : X → Outcome X
  Differs : ℕ → ℕ → ℕ → Outcome X

-- what follows where all went well
abbrev pub and_then : {X Y : Type 0} → Outcome X → (X → Outcome Y) → Outcome Y
and_then (Goes x) f = f x
and_then (Differs p expected found) f = Differs p expected found

-- what follows where nothing more can differ
abbrev pub and_so : {X Y : Type 0} → Outcome X → (X → Y) → Outcome Y
and_so (Goes x) f = Goes (f x)
and_so (Differs p expected found) f = Differs p expected found

-- a step that goes on with each item of a list
unfoldable pub for_each : {X W : Type 0} → (X → W → Outcome W) → List X → W → Outcome W
for_each f [] w = Goes w
for_each f (x ∷ xs) w = and_then (f x w) (for_each f xs)

-- the work of a home
pub record HomeWork : Type 0 where
  pub home : HomeState
  pub pages : List (List ℕ)
  pub calls : List DiskCall

-- the work of a node: with its replies and sends
pub record Work : Type 0 where
  pub node : NodeState
  pub pages : List (List ℕ)
  pub calls : List DiskCall
  pub replies : List Reply
  pub sends : List Outgoing

-- the home's part of a node's work
abbrev pub work_of_home : Work → HomeWork
work_of_home w = record { home = w.node.home; pages = w.pages; calls = w.calls }

-- the work with another home
abbrev pub with_home : Work → HomeState → Work
with_home w h = record w { node = record (w.node) { home = h } }

-- the work with what the home made of its part
abbrev pub with_home_work : Work → HomeWork → Work
with_home_work w h =
    record w { node = record (w.node) { home = h.home }; pages = h.pages; calls = h.calls }

-- the work with another state
abbrev pub with_node : Work → NodeState → Work
with_node w n = record w { node = n }

-- the home with another buffer
abbrev pub with_pool : HomeState → Pool → HomeState
with_pool h b = record h { pool = b }

-- a further reply, and a further message, whose epoch is that of its sender
abbrev pub reply : Reply → Work → Work
reply r w = record w { replies = w.replies ++ r ∷ [] }

-- a reply that may be missing
abbrev pub some_reply : Option Reply → Work → Work
some_reply None w = w
some_reply (Some r) w = reply r w

-- a further message, whose epoch is that of its sender
abbrev pub send : ℕ → Body → Work → Work
send to body w =
    record w {
      sends = w.sends ++ record { to = to; message = record { epoch = w.node.epoch; body = body } } ∷ [];
    }

-- a page is written
abbrev pub write_page : ℕ → PageAt → HomeWork → HomeWork
write_page p at w =
    record w {
      pages = slice_set w.pages p (stored_bytes p at);
      calls = w.calls ++ WritePage p (stored_bytes p at) ∷ [];
    }

-- a page is read
abbrev pub page_or_differs : ℕ → Result PageAt BadNumber → Outcome PageAt
page_or_differs p (Ok at) = Goes at
page_or_differs p (Err bad) = Differs p bad.expected bad.found

-- a page is read, as the calls so far leave it
abbrev pub read_page : List (List ℕ) → ℕ → Outcome PageAt
read_page pages p = page_or_differs p (stored_page p (raw_page pages p))

-- the page's copy is written to disk, where it is dirty
abbrev pub write_copy : ℕ → Option Copy → HomeWork → HomeWork
write_copy p None w = w
write_copy p (Some c) w =
    pick c.dirty
    (record (write_page p (record { version = c.version; bytes = c.bytes }) w) {
      home = with_pool w.home (clean w.home.pool p);
    })
    w

-- a dirty copy of a page is written
unfoldable pub write_back : ℕ → HomeWork → HomeWork
write_back p w = write_copy p (copy_at w.home.pool p) w
