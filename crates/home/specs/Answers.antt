-- What the answer of a call tells of the home and of its changing calls.
use Rattle.std.specs.Prelude.{◌≡◌, ℕ, Bool, true, false, not, nat_le, List, Option, Some, None, is_some, Result, Ok, Err}
use Rattle.pcl_base.specs.declared.reply.Reason.{Reason}
use Rattle.pcl_base.specs.declared.reply.Reason.TheVariants as reason
use Rattle.pcl_base.specs.declared.trace.Call.TheVariants as call
use Rattle.node_rules.specs.BufferRule.{find, pinned, evict}
use Rattle.node_rules.specs.NodeState.{HomeState}
use Rattle.node_rules.specs.DiskCalls.{DiskCall}
use Rattle.node_rules.specs.Work.{HomeWork, write_back}
use Rattle.node_rules.specs.AccessRule.{on_pool}
use Rattle.node_rules.specs.Refusals.{refuse_if}
use Rattle.home.specs.declared.fault.HomeFault.{HomeFault}
use Rattle.home.specs.declared.fault.HomeFault.TheVariants.{Refused, Failed, Differs, NoMemory}
use Rattle.home.specs.Device.{Told, Made}

-- the first reason against an eviction of a page's copy, and against writing it
abbrev pub evict_refusal : ℕ → HomeState → Option Reason
evict_refusal p h =
    refuse_if (nat_le h.config.pages p) reason.NoPage
    (refuse_if (not (is_some (find h.pool p))) reason.NoCopy (refuse_if (pinned h.pool p) reason.Pinned None))

abbrev pub flush_refusal : ℕ → HomeState → Option Reason
flush_refusal p h =
    refuse_if (nat_le h.config.pages p) reason.NoPage (refuse_if (not (is_some (find h.pool p))) reason.NoCopy None)

-- a copy is written where it is dirty, and leaves
abbrev pub evict_copy : ℕ → HomeWork → HomeWork
evict_copy p w = on_pool (λ b. evict b p) (write_back p w)

-- the reason of a refusal
abbrev pub refused_as : {T : Type 0} → Result T HomeFault → Option Reason
refused_as (Err (Refused r)) = Some r
refused_as _ = None

-- the home after an answer: as before where the call was refused or wanted memory
abbrev pub home_after : {T : Type 0} → Result T HomeFault → HomeState → HomeState → HomeState
home_after (Err (Refused r)) old new = old
home_after (Err NoMemory) old new = old
home_after _ old new = new

-- what became of the changing calls of node n by an answer: all of them are made, none of them, or those
-- up to one that failed
abbrev pub Leaves : {T : Type 0} → ℕ → Result T HomeFault → List DiskCall → Told → Told → Type 0
Leaves n (Ok x) calls old new = Made n calls old None new
Leaves n (Err (Refused r)) calls old new = new ≡ old
Leaves n (Err (Failed k kept)) calls old new = (kept ≡ false) × Made n calls old (Some k) new
Leaves n (Err (Differs p expected found)) calls old new = ⊥
Leaves n (Err NoMemory) calls old new = new ≡ old

-- the answer where the writes are done or one of them failed
abbrev pub answer_if : {T : Type 0} → Bool → T → Result T HomeFault
answer_if true x = Ok x
answer_if false x = Err (Failed call.Write false)
