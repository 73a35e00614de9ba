-- The generated schedule.
use Rattle.std.specs.Prelude.{ℕ, zero, suc, ◌+◌, ◌*◌, ◌%◌, ◌==◌, ◌&&◌, ◌||◌, Bool, true, false, not, nat_le, List, [], ◌∷◌, ◌++◌, length, map, flat_map, filter, take, slice_index, slice_set}
use Rattle.std.specs.List.{list_any}
use Rattle.pcl_base.specs.Limits.{Sizes}
use Rattle.pcl_base.specs.declared.tx.TxId.{TxId}
use Rattle.pcl_base.specs.declared.event.Event.{Event}
use Rattle.pcl_base.specs.declared.event.Event.TheVariants.{Begin, Read, Write, Commit, Abort, Deliver, Crash, View, Install}
use Rattle.text_rules.specs.ScheduleLine.{line_of, header_line}
use Rattle.text_rules.specs.TraceText.{ended}

-- what the generator keeps: the state of the draws, the live nodes rising, the owner of each
-- partition, and the last serial of each node
pub record Making : Type 0 where
  pub draws : ℕ
  pub live : List ℕ
  pub owners : List ℕ
  pub serials : List ℕ

-- what a part of a round gives: a value, its events, and what is kept then
pub record Made (X : Type 0) : Type 0 where
  pub value : X
  pub events : List Event
  pub next : Making

-- a part of a round
abbrev pub Part : Type 0 → Type 0
Part X = Making → Made X

infixr 10 ◌>>=◌
infixr 10 ◌>>◌
-- events before those of a part
abbrev pub behind : {X : Type 0} → List Event → Made X → Made X
behind events m = record m { events = events ++ m.events }

-- one part and then the one that its value leads to
abbrev pub ◌>>=◌ : {X Y : Type 0} → Part X → (X → Part Y) → Part Y
(part >>= further) s = let m = part s in behind m.events (further m.value m.next)

abbrev pub ◌>>◌ : {X Y : Type 0} → Part X → Part Y → Part Y
part >> further = part >>= λ x. further

-- a value without an event
abbrev pub give : {X : Type 0} → X → Part X
give x s = record { value = x; events = []; next = s }

-- events without a value
abbrev pub say : List Event → Part (Unit {0})
say events s = record { value = tt; events = events; next = s }

-- what is kept
abbrev pub kept : Part Making
kept s = give s s

-- keeping something else
abbrev pub keep : Making → Part (Unit {0})
keep next s = give tt next

-- the state after a draw
abbrev pub drawn : ℕ → ℕ
drawn draws = (75 * draws + 74) % 65537

-- a draw below k
abbrev pub draw : ℕ → Part ℕ
draw k s = record { value = drawn s.draws % k; events = []; next = record s { draws = drawn s.draws } }

-- a live node by a draw
abbrev pub draw_live : Part ℕ
draw_live = do
  s ← kept
  k ← draw (length s.live)
  give (slice_index s.live k)

-- a transaction at a node, under the node's next serial
abbrev pub begin : ℕ → Part TxId
begin node = do
  s ← kept
  keep (record s { serials = slice_set s.serials node (slice_index s.serials node + 1) })
  say (Begin node ∷ [])
  give (record { node = node; born = 1; serial = slice_index s.serials node + 1 })

-- an access that writes, of a page by a transaction
abbrev pub access_at : TxId → ℕ → Bool → Part (Unit {0})
access_at t p true = do
  byte ← draw 256
  say (Write t p 0 (byte ∷ []) ∷ [])
access_at t p false = say (Read t p ∷ [])

-- an access: one of three writes
abbrev pub access : ℕ → TxId → Part (Unit {0})
access pages t = do
  p ← draw pages
  third ← draw 3
  access_at t p (third == 0)

-- a delivery on each link between two live nodes
abbrev pub deliveries : List ℕ → List Event
deliveries live = flat_map (λ x. map (λ y. Deliver x y) (filter (λ y. not (x == y)) live)) live

abbrev pub sweep : Part (Unit {0})
sweep = do
  s ← kept
  say (deliveries s.live)

-- the owner of a partition after a node was lost: another one by a draw where it was that node's
abbrev pub new_owner : Bool → ℕ → Part ℕ
new_owner true owner = draw_live
new_owner false owner = give owner

abbrev pub new_owners : ℕ → List ℕ → Part (List ℕ)
new_owners lost [] = give []
new_owners lost (owner ∷ owners) = do
  first ← new_owner (owner == lost) owner
  rest ← new_owners lost owners
  give (first ∷ rest)

-- 0, 1, .., n - 1
abbrev pub numbers_below : ℕ → List ℕ
numbers_below zero = []
numbers_below (suc n) = numbers_below n ++ n ∷ []

-- a flag for each node
abbrev pub flags_of : ℕ → List ℕ → List Bool
flags_of nodes live = map (λ n. list_any (λ x. x == n) live) (numbers_below nodes)

-- a live node is lost, and the others go on
abbrev pub failure : ℕ → Part (Unit {0})
failure nodes = do
  lost ← draw_live
  say (Crash lost ∷ [])
  s ← kept
  keep (record s { live = filter (λ x. not (x == lost)) s.live })
  owners ← new_owners lost s.owners
  t ← kept
  keep (record t { owners = owners })
  say (View (flags_of nodes t.live) owners ∷ map (λ x. Install x) t.live)
  sweep
  sweep

-- a failure where it is due and at least two nodes are live
abbrev pub failure_if : Bool → ℕ → Part (Unit {0})
failure_if true nodes = failure nodes
failure_if false nodes = give tt

abbrev pub maybe_failure : Bool → ℕ → Part (Unit {0})
maybe_failure due nodes = do
  s ← kept
  failure_if (due && nat_le 2 (length s.live)) nodes

-- an access of each transaction, and a sweep
abbrev pub turn : ℕ → TxId → TxId → Part (Unit {0})
turn pages a b = do
  access pages a
  access pages b
  sweep

-- round r
abbrev pub round : Sizes → ℕ → Part (Unit {0})
round c r = do
  x ← draw_live
  y ← draw_live
  a ← begin x
  b ← begin y
  turn c.pages a b
  maybe_failure ((r == 20) || (r == 40)) c.nodes
  turn c.pages a b
  turn c.pages a b
  say (Commit a ∷ Abort a ∷ Commit b ∷ Abort b ∷ [])
  sweep

-- n rounds from round r on
abbrev pub rounds : Sizes → ℕ → ℕ → Part (Unit {0})
rounds c r zero = give tt
rounds c r (suc n) = round c r >> rounds c (r + 1) n

-- what is kept at first
abbrev pub first_making : Sizes → ℕ → Making
first_making c seed =
    record { draws = seed; live = numbers_below c.nodes; owners = numbers_below c.nodes; serials = map (λ n. 0) (numbers_below c.nodes) }

-- the events of a generated schedule: as many as asked for of those of as many rounds
abbrev pub made_events : Sizes → ℕ → ℕ → List Event
made_events c seed lines = take lines (rounds c 1 lines (first_making c seed)).events

-- the text of a generated schedule
abbrev pub made_text : Sizes → ℕ → ℕ → List ℕ
made_text c seed lines =
    ended (header_line (record { nodes = c.nodes; pages = c.pages; size = c.size; frames = c.frames }))
    ++ flat_map (λ e. ended (line_of e)) (made_events c seed lines)
