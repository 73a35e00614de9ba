-- What serving leaves of the input, of the output and of the storage, by its status.
use Rattle.std.specs.Prelude.{◌≡◌, ◌≢◌, ℕ, ◌==◌, ◌||◌, ◌⊎◌, Bool, List, ◌++◌, Option, Some, None, IsTrue}
use Rattle.std.specs.Io.KnownBytes.{Appends, Consumes, IsAtEnd}
use Rattle.pcl_base.specs.Faults.{Rose}
use Rattle.pcl_base.specs.Limits.{Sizes}
use Rattle.pcl_base.specs.declared.trace.Call.{Call}
use Rattle.run_rules.specs.Disk.{Disk}
use Rattle.node_rules.specs.NodeState.{NodeState, start_node}
use Rattle.frame_rules.specs.Serving.{Progress, Going, Ended, Served, serve_from}
use Rattle.frame_rules.specs.Halting.{MayServe}
use Rattle.node_frames.specs.Front.{DecidesNothing}
use Rattle.node_frames.specs.Written.{AppendsPart}
use Rattle.serving_parts.specs.Sides.{Sides, Tells, NoneIsToFail}

-- one node before its next frame: its number, its state, how many frames it may still read, and the number
-- of the next one
pub record Link : Type 0 where
  pub me : ℕ
  pub node : NodeState
  pub most : ℕ
  pub number : ℕ

-- the same before the first frame: the node is in no view
abbrev pub first_link : Sizes → ℕ → ℕ → Link
first_link c me limit = record { me = me; node = start_node c me 0; most = limit; number = 1 }

-- what may be served of some bytes over a disk, and what the rules serve where no call of the storage fails
abbrev pub MayBe : Link → Disk → List ℕ → Served → Type 0
MayBe k d bytes s = MayServe k.most k.number bytes k.node d s

abbrev pub due : Link → Disk → List ℕ → Served
due k d bytes = serve_from k.most k.number bytes k.node d

-- the statuses that come with what frames give, and all of them
abbrev pub is_served : ℕ → Bool
is_served status = status == 0 || (status == 3 || (status == 6 || (status == 7 || status == 10)))

abbrev pub is_known : ℕ → Bool
is_known status = is_served status || (status == 4 || (status == 5 || status == 9))

-- the status with which serving has ended
abbrev pub status_in : Progress → Option ℕ
status_in (Going n d) = None
status_in (Ended status d) = Some status

-- the same is written, with the same status. Where no page differs the same is left on disk too; where one
-- does, some calls of the last step may have been made before that page was read
pub record Alike (s t : Served) : Type 0 where
  pub written : s.written ≡ t.written
  pub status : status_in s.progress ≡ status_in t.progress
  pub same : status_in t.progress ≢ Some 10 → s ≡ t

-- what may be served of some bytes; where none of the node's calls is to fail, it is what the rules serve
pub record ServesBy (k : Link) (d : Disk) (old : Sides) (bytes : List ℕ) (s : Served) : Type 0 where
  pub may : MayBe k d bytes s
  pub exact : NoneIsToFail k.me old.outs.store → Alike s (due k d bytes)

-- serving is over with a status that frames decide: the whole text is written
pub record IsOver (k : Link) (d : Disk) (old new : Sides) (taken : List ℕ) (status : ℕ) : Type 0 where
  pub s : Served
  pub serves : ServesBy k d old taken s
  pub after : Disk
  pub end : s.progress ≡ Ended status after
  pub text : Appends old.outs.written new.outs.written s.written
  pub left : Tells new.outs.store after

-- the source failed behind some whole frames: their text is written, and what follows them decides nothing
pub record IsUnread (k : Link) (d : Disk) (old new : Sides) (taken : List ℕ) : Type 0 where
  pub front : List ℕ
  pub part : List ℕ
  pub all : taken ≡ front ++ part
  pub nothing : DecidesNothing part
  pub over : IsOver k d old new front 0

-- the sink failed, or memory is wanted: a beginning is written of what some of the bytes taken give
pub record WritesPart (k : Link) (d : Disk) (old new : Sides) (taken : List ℕ) : Type 0 where
  pub front : List ℕ
  pub part : List ℕ
  pub all : taken ≡ front ++ part
  pub s : Served
  pub serves : ServesBy k d old front s
  pub text : AppendsPart old.outs.written new.outs.written s.written

-- The outcome of serving, of which `taken` are the bytes that the source gave. 0, 3, 6, 7 and 10 are due to
-- these bytes, and their whole text is written; 4 comes only where the source failed, 5 only where the sink
-- failed, 6 only where the storage failed; 9 is want of memory.
pub record Outcome (k : Link) (old new : Sides) (status : ℕ) : Type 0 where
  pub taken : List ℕ
  pub consumed : Consumes old.left new.left taken
  pub known : IsTrue (is_known status)
  pub end : status ≡ 0 → IsAtEnd new.left
  pub failed_source : status ≡ 4 → Rose old.source new.source
  pub failed_sink : status ≡ 5 → Rose old.outs.sink new.outs.sink
  pub failed_storage : status ≡ 6 → (c : Call) × Rose (old.outs.store.counts c) (new.outs.store.counts c)
  pub over : (d : Disk) → Tells old.outs.store d → IsTrue (is_served status) → IsOver k d old new taken status
  pub unread : (d : Disk) → Tells old.outs.store d → status ≡ 4 → IsUnread k d old new taken
  pub part : (d : Disk) → Tells old.outs.store d → (status ≡ 5) ⊎ (status ≡ 9) → WritesPart k d old new taken
