-- What a commit tells, and what it leaves of the storage.
use Rattle.std.specs.Prelude.{◌≡◌, ◌≢◌, ℕ, ◌<◌, ◌≤◌, ◌⊎◌, Bool, true, false, List, [], length, take, map, Option, Some, None, IfSome}
use Rattle.std.specs.List.{filter, fold}
use Rattle.std.specs.Option.{option_map}
use Rattle.pcl_base.specs.Faults.{Rose}
use Rattle.pcl_base.specs.declared.tx.TxId.{TxId}
use Rattle.pcl_base.specs.declared.lock.Held.{Held}
use Rattle.pcl_base.specs.declared.lock.Kind.{Kind}
use Rattle.pcl_base.specs.declared.lock.Kind.TheVariants as kind
use Rattle.pcl_base.specs.declared.message.Change.{Change}
use Rattle.pcl_base.specs.declared.trace.Call.{Call}
use Rattle.pcl_base.specs.declared.trace.Call.TheVariants as call
use Rattle.disk_model.specs.Disk.{Logs, with_appended}
use Rattle.disk_model.specs.Stops.{Stops, Failing, Done, Stopped, change_fate, after_change, reading_fate, after_read, kept_bytes}
use Rattle.text_rules.specs.LogRecord.{record_bytes}
use Rattle.node_rules.specs.Words.{is_exclusive}
use Rattle.node_rules.specs.NodeState.{HomeState}
use Rattle.node_rules.specs.DiskCalls.{DiskCall, Force}
use Rattle.node_rules.specs.EndRule.{Ending, change_if, new_version, new_bytes, commit, commit_record}
use Rattle.home.specs.declared.fault.HomeFault.{HomeFault}
use Rattle.home.specs.declared.fault.HomeFault.TheVariants.{Refused, Failed, Differs, NoMemory}
use Rattle.home.specs.Device.{work_on}

-- the image that is told of a page: none where it was held by an own lock
abbrev pub image_told : Kind → List ℕ → List ℕ
image_told kind.Own image = []
image_told _ image = image

-- an ending as it is told: of a page that was held by an own lock the change has no image
abbrev pub told : Ending → Ending
told e =
    record e { change = option_map (λ (c : Change). let d : Change = record c { image = image_told e.kind c.image } in d) e.change }

-- what a commit tells of a lock's page
abbrev pub commit_end : HomeState → TxId → Held → Ending
commit_end h t l =
    told
    (record {
      page = l.page;
      kind = l.kind;
      change = change_if (is_exclusive l.mode) (new_version h l.page) (new_bytes h t l.page);
    })

-- the pages of exclusive locks
abbrev pub exclusive_pages : List Held → List ℕ
exclusive_pages hs = map (λ (h : Held). h.page) (filter (λ (h : Held). is_exclusive h.mode) hs)

-- the logs after the calls of a commit at node n
abbrev pub log_done : ℕ → Logs → DiskCall → Logs
log_done n logs (Force t bytes) = with_appended logs n bytes
log_done n logs call = logs

abbrev pub logs_done : ℕ → Logs → List DiskCall → Logs
logs_done n logs calls = fold (log_done n) logs calls

-- the stops after them: each is a changing call
abbrev pub stops_done : ℕ → Stops → List DiskCall → Stops
stops_done n stops calls = fold (λ s c. after_change s n) stops calls

-- the failing reads after them: before each of them the length of the log is asked
abbrev pub failing_done : ℕ → Failing → List DiskCall → Failing
failing_done n failing calls = fold (λ f c. after_read f n) failing calls

-- the length of the log couldn't be asked once more, after the force
abbrev pub Unasked : ℕ → ℕ → Failing → ℕ → Type 0
Unasked before now failing n = Rose before now × (reading_fate (after_read failing n) n ≢ Done)

-- what a force that failed leaves: a prefix of the bytes was appended. Where the logs are told, the flag
-- is true where that is all of them, and false where it isn't, or where the length of the log couldn't
-- be asked
pub record IsTorn (kept : Bool) (n : ℕ) (bytes : List ℕ) (unasked : Type 0) (old new : Logs) : Type 0 where
  pub count : ℕ
  pub most : count ≤ length bytes
  pub same : new ≡ with_appended old n (take count bytes)
  pub whole : kept ≡ true → IfSome old (λ l. count ≡ length bytes)
  pub part : kept ≡ false → IfSome old (λ l. (count < length bytes) ⊎ unasked)

-- the logs after a commit that failed: before its force, or in it
abbrev pub FailedLogs : Call → Bool → ℕ → List ℕ → Type 0 → Logs → Logs → Type 0
FailedLogs call.Log kept n bytes unasked old new = (kept ≡ false) × (new ≡ old)
FailedLogs call.Force kept n bytes unasked old new = IsTorn kept n bytes unasked old new
FailedLogs _ kept n bytes unasked old new = ⊥

-- the logs after a commit of node n, by its fault: those of its calls, those before, or those of a force
-- of these bytes that failed
abbrev pub LogsLeft : Option HomeFault → Logs → ℕ → List ℕ → Type 0 → Logs → Logs → Type 0
LogsLeft None after n bytes unasked old new = new ≡ after
LogsLeft (Some (Refused r)) after n bytes unasked old new = new ≡ old
LogsLeft (Some (Failed k kept)) after n bytes unasked old new = FailedLogs k kept n bytes unasked old new
LogsLeft (Some (Differs p expected found)) after n bytes unasked old new = ⊥
LogsLeft (Some NoMemory) after n bytes unasked old new = new ≡ old

-- the stops after a commit of node n: its force is one changing call, also where it failed
abbrev pub stops_failed : Call → ℕ → Stops → Stops
stops_failed call.Force n stops = after_change stops n
stops_failed _ n stops = stops

abbrev pub stops_left : Option HomeFault → Stops → ℕ → Stops → Stops
stops_left None after n stops = after
stops_left (Some (Failed k kept)) after n stops = stops_failed k n stops
stops_left (Some _) after n stops = stops

-- the failing reads after a commit of node n: the length of the log is asked before its force, and once
-- more after a force that failed
abbrev pub failing_failed : Call → ℕ → Failing → Failing
failing_failed call.Log n failing = after_read failing n
failing_failed call.Force n failing = after_read (after_read failing n) n
failing_failed _ n failing = failing

abbrev pub failing_left : Option HomeFault → Failing → ℕ → Failing → Failing
failing_left None after n failing = after
failing_left (Some (Failed k kept)) after n failing = failing_failed k n failing
failing_left (Some _) after n failing = failing

-- what the stop and the failing read of node n decide of a commit that forces these bytes
pub record IsDecided (fault : Option HomeFault) (n : ℕ) (bytes : List ℕ) (stops : Stops) (failing : Failing) (old new : Logs) : Type 0 where
  -- whether the length of the log is asked before the force
  pub asked : (kept : Bool) → reading_fate failing n ≡ Done → fault ≢ Some (Failed call.Log kept)
  pub unasked : (k : ℕ) → reading_fate failing n ≡ Stopped k → fault ≢ None
  -- whether the bytes are forced, and what a stopped force leaves
  pub forced : (kept : Bool) → change_fate stops n ≡ Done → fault ≢ Some (Failed call.Force kept)
  pub stopped : (k : ℕ) → change_fate stops n ≡ Stopped k → fault ≢ None
  pub left : (k : ℕ) (kept : Bool) → change_fate stops n ≡ Stopped k → fault ≡ Some (Failed call.Force kept) → new ≡ with_appended old n (kept_bytes k bytes)
  -- where the length can't be asked after a force that failed, the flag is false
  pub unknown : (k : ℕ) → reading_fate (after_read failing n) n ≡ Stopped k → fault ≢ Some (Failed call.Force true)

-- the bytes of the record of a commit, and the calls that it makes
abbrev pub commit_bytes : HomeState → TxId → List ℕ
commit_bytes h t = record_bytes (commit_record h t)

abbrev pub commit_calls : HomeState → TxId → List DiskCall
commit_calls h t = (commit t (work_on h)).work.calls

-- the logs after the commit of a transaction, with the counts of failed calls of logs before and after it
abbrev pub CommitLogs : HomeState → TxId → Option HomeFault → ℕ → ℕ → Failing → Logs → Logs → Type 0
CommitLogs h t fault before now failing old new =
    LogsLeft fault (logs_done h.txs.node old (commit_calls h t)) h.txs.node (commit_bytes h t) (Unasked before now failing h.txs.node) old new

-- what stops and failing reads decide of it
abbrev pub CommitDecided : HomeState → TxId → Option HomeFault → Stops → Failing → Logs → Logs → Type 0
CommitDecided h t fault stops failing old new = IsDecided fault h.txs.node (commit_bytes h t) stops failing old new
