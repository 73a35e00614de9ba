-- Steps of one node, for computed rows.
use Rattle.std.specs.Prelude.{ℕ, true, false, List, [], ◌∷◌}
use Rattle.pcl_base.specs.Limits.{Sizes}
use Rattle.pcl_base.specs.declared.tx.TxId.{TxId}
use Rattle.pcl_base.specs.declared.tx.Mode.TheVariants.{Shared}
use Rattle.pcl_base.specs.declared.log.Part.TheVariants.{Ranges}
use Rattle.pcl_base.specs.declared.message.Body.{Body}
use Rattle.pcl_base.specs.declared.message.Body.TheVariants as body
use Rattle.pcl_base.specs.declared.message.CopyPart.TheVariants.{Image}
use Rattle.pcl_base.specs.declared.reply.Reply.{Reply}
use Rattle.run_rules.specs.Views.{View}
use Rattle.text_rules.specs.LogRecord.{record_bytes}
use Rattle.text_rules.specs.StoredPage.{stored_bytes}
use Rattle.node_rules.specs.NodeState.{NodeState, NodeEvent, Deliver, Outgoing, first_node}
use Rattle.run_rules.specs.Disk.{Disk, fresh_disk}
use Rattle.node_rules.specs.DiskCalls.{DiskCall, all_done}
use Rattle.node_rules.specs.Work.{Outcome, Goes, Differs}
use Rattle.node_rules.specs.NodeStep.{Plan, nodestep}

-- what a step answers and sends, and its changing calls
pub record Told : Type 0 where
  pub replies : List Reply
  pub sends : List Outgoing
  pub calls : List DiskCall

-- what a step tells
abbrev pub told : List Reply → List Outgoing → List DiskCall → Told
told replies sends calls = record { replies = replies; sends = sends; calls = calls }

-- a step that tells nothing
abbrev pub nothing : Told
nothing = told [] [] []

-- a step, and what comes after it
abbrev pub further : Outcome Plan → Disk → (NodeState → Disk → Told → Told) → Told
further (Goes p) d go = go p.node (all_done 0 d p.calls) (told p.replies p.sends p.calls)
further (Differs p expected found) d go = nothing

-- what the last of some steps of node 0 tells
unfoldable pub last_told : List NodeEvent → NodeState → Disk → Told → Told
last_told [] n d t = t
last_told (e ∷ es) n d t = further (nodestep n e d) d (last_told es)

-- two nodes with four pages of eight bytes, and two frames each
abbrev pub two : Sizes
two = record { nodes = 2; pages = 4; size = 8; frames = 2 }

-- three nodes with a page each
abbrev pub three : Sizes
three = record { nodes = 3; pages = 3; size = 8; frames = 2 }

-- node 0 from its start on, over some disk
abbrev pub over_disk : Sizes → Disk → List NodeEvent → Told
over_disk c d es = last_told es (first_node c 0) d nothing

-- what the last step of node 0 over a fresh disk tells
abbrev pub from_start : List NodeEvent → Told
from_start es = over_disk two (fresh_disk two) es

-- the first two transactions of node 0, and one of node 1
abbrev pub t1 : TxId
t1 = record { node = 0; born = 1; serial = 1 }

-- its second one
abbrev pub t2 : TxId
t2 = record { node = 0; born = 1; serial = 2 }

-- the first of node 1
abbrev pub other : TxId
other = record { node = 1; born = 1; serial = 1 }

-- pages with one byte in front
abbrev pub front : ℕ → List ℕ
front b = b ∷ 0 ∷ 0 ∷ 0 ∷ 0 ∷ 0 ∷ 0 ∷ 0 ∷ []

-- the record of a transaction that writes such a byte, and the page as it is stored then
abbrev pub wrote : TxId → ℕ → ℕ → List ℕ
wrote t p b =
    record_bytes (record {
      tx = t;
      changes = record { page = p; version = 1; part = Ranges (record { place = 0; bytes = b ∷ [] } ∷ []) } ∷ [];
    })

-- such a page as it is stored
abbrev pub stored : ℕ → ℕ → List ℕ
stored p b = stored_bytes p (record { version = 1; bytes = front b })

-- a message of epoch 1 from node 1, and one to it
abbrev pub from_one : Body → NodeEvent
from_one b = Deliver 1 (record { epoch = 1; body = b })

-- a message to node 1
abbrev pub to_one : Body → Outgoing
to_one b = record { to = 1; message = record { epoch = 1; body = b } }

-- a shared grant with a right of page 1 at a version, whose bytes come along
abbrev pub grant_with_right : TxId → ℕ → Body
grant_with_right t v =
    body.Grant (record { tx = t; page = 1; mode = Shared; right = true; version = v; copy = Image (front v) })

-- node 1 is lost, and node 0 owns all
abbrev pub alone : View
alone = record { epoch = 2; live = true ∷ false ∷ []; owners = 0 ∷ 0 ∷ []; since = 1 ∷ 2 ∷ []; born = 1 ∷ 1 ∷ [] }

-- of three nodes node 2 is lost, and node 0 owns its partition
abbrev pub two_left : View
two_left =
    record {
      epoch = 2;
      live = true ∷ true ∷ false ∷ [];
      owners = 0 ∷ 1 ∷ 0 ∷ [];
      since = 1 ∷ 1 ∷ 2 ∷ [];
      born = 1 ∷ 1 ∷ 1 ∷ [];
    }

-- a disk whose log of node 1 has the record of its transaction on page 1
abbrev pub left_by_one : Disk
left_by_one = record (fresh_disk two) { logs = [] ∷ wrote other 1 9 ∷ [] }
