-- The text of a trace. Each line ends with a newline.
use Rattle.std.specs.Prelude.{ℕ, ◌+◌, List, [], ◌∷◌, ◌++◌, length, map, flat_map, sum_by, codes, Option, Some, None, Bool, true, false}
use Rattle.std.specs.Fmt.{decimal}
use Rattle.std.specs.List.{join_with_byte}
use Rattle.text_rules.specs.ScheduleLine.{header_line, line_of, tx_text, bytes_text, spaced}
use Rattle.pcl_base.specs.declared.tx.TxId.{TxId}
use Rattle.pcl_base.specs.declared.tx.Mode.{Mode}
use Rattle.pcl_base.specs.declared.tx.Mode.TheVariants.{Shared, Exclusive}
use Rattle.pcl_base.specs.declared.event.Header.{Header}
use Rattle.pcl_base.specs.declared.message.ReportLock.{ReportLock}
use Rattle.pcl_base.specs.declared.message.ReportRight.{ReportRight}
use Rattle.pcl_base.specs.declared.message.ReportWait.{ReportWait}
use Rattle.pcl_base.specs.declared.reply.Reason.{Reason}
use Rattle.pcl_base.specs.declared.reply.Reason.TheVariants.{NoNode, Down, NotInView, NoTx, TxWaits, NoPage, BadRange, VersionEnd, NoFrame, EmptyLink, NoCopy, Pinned, NotOwner, BadView, NoView, StillUp, SerialEnd, TooMany}
use Rattle.pcl_base.specs.declared.reply.Reply.{Reply}
use Rattle.pcl_base.specs.declared.reply.Reply.TheVariants.{Begun, Committed, Aborted, Value, Done, Waits, Taken, Held, Dropped, Evicted, Flushed, Crashed, Armed, Cut, Viewed, Installed, Reopened, Serving, Refused}
use Rattle.pcl_base.specs.declared.trace.Call.{Call}
use Rattle.pcl_base.specs.declared.trace.Call.TheVariants.{Read as read_call, Log as log_call, Write as write_call, Force as force_call, Trim as trim_call, Cut as cut_call}
use Rattle.pcl_base.specs.declared.trace.Halt.{Halt}
use Rattle.pcl_base.specs.declared.trace.CopyKind.{CopyKind}
use Rattle.pcl_base.specs.declared.trace.CopyKind.TheVariants.{Current, Image, OnDisk}
use Rattle.pcl_base.specs.declared.trace.Note.{Note}
use Rattle.pcl_base.specs.declared.trace.Note.TheVariants.{Request, Grant, Release, Revoke, Return, Report}
use Rattle.pcl_base.specs.declared.trace.Sent.{Sent}
use Rattle.pcl_base.specs.declared.trace.Entry.{Entry}

-- a line with its newline
abbrev pub ended : List ℕ → List ℕ
ended line = line ++ 10 ∷ []

-- a transaction's name after a space
abbrev pub spaced_tx : TxId → List ℕ
spaced_tx t = codes " " ++ tx_text t

-- a refusal's number and name
abbrev pub reason_text : Reason → List ℕ
reason_text NoNode = codes "1 NoNode"
reason_text Down = codes "2 Down"
reason_text NotInView = codes "3 NotInView"
reason_text NoTx = codes "4 NoTx"
reason_text TxWaits = codes "5 TxWaits"
reason_text NoPage = codes "6 NoPage"
reason_text BadRange = codes "7 BadRange"
reason_text VersionEnd = codes "8 VersionEnd"
reason_text NoFrame = codes "9 NoFrame"
reason_text EmptyLink = codes "10 EmptyLink"
reason_text NoCopy = codes "11 NoCopy"
reason_text Pinned = codes "12 Pinned"
reason_text NotOwner = codes "13 NotOwner"
reason_text (BadView rule) = codes "14 BadView" ++ spaced rule
reason_text NoView = codes "15 NoView"
reason_text StillUp = codes "16 StillUp"
reason_text SerialEnd = codes "17 SerialEnd"
reason_text TooMany = codes "18 TooMany"

-- the line of a reply
abbrev pub reply_line : Reply → List ℕ
reply_line (Begun t) = codes "begun" ++ spaced_tx t
reply_line (Committed t) = codes "committed" ++ spaced_tx t
reply_line (Aborted t) = codes "aborted" ++ spaced_tx t
reply_line (Value t p v bytes) = codes "value" ++ spaced_tx t ++ spaced p ++ spaced v ++ codes " " ++ bytes_text bytes
reply_line (Done t p v) = codes "done" ++ spaced_tx t ++ spaced p ++ spaced v
reply_line (Waits t p) = codes "waits" ++ spaced_tx t ++ spaced p
reply_line Taken = codes "taken"
reply_line Held = codes "held"
reply_line Dropped = codes "dropped"
reply_line Evicted = codes "evicted"
reply_line Flushed = codes "flushed"
reply_line Crashed = codes "crashed"
reply_line Armed = codes "armed"
reply_line (Cut count) = codes "cut" ++ spaced count
reply_line (Viewed epoch) = codes "view" ++ spaced epoch
reply_line (Installed epoch) = codes "installed" ++ spaced epoch
reply_line (Reopened epoch) = codes "reopened" ++ spaced epoch
reply_line (Serving q) = codes "serving" ++ spaced q
reply_line (Refused reason) = codes "refused " ++ reason_text reason

-- the word of a kind of device call
abbrev pub call_text : Call → List ℕ
call_text read_call = codes "read"
call_text log_call = codes "log"
call_text write_call = codes "write"
call_text force_call = codes "force"
call_text trim_call = codes "trim"
call_text cut_call = codes "cut"

-- the transaction whose record a halt kept
abbrev pub kept_text : Option TxId → List ℕ
kept_text (Some t) = codes " kept" ++ spaced_tx t
kept_text None = []

-- the line of a halt, where there is one
abbrev pub halt_text : Option Halt → List ℕ
halt_text (Some h) = ended (codes "halted " ++ call_text h.call ++ kept_text h.kept)
halt_text None = []

abbrev pub mode_text : Mode → List ℕ
mode_text Shared = codes "S"
mode_text Exclusive = codes "X"

-- a version, or `-` for none
abbrev pub version_text : Option ℕ → List ℕ
version_text (Some v) = decimal v
version_text None = codes "-"

-- what a release brings: `V image`, or `-` for nothing
abbrev pub change_text : Option ℕ → List ℕ
change_text (Some v) = decimal v ++ codes " image"
change_text None = codes "-"

-- whether a grant carries a lock or a right
abbrev pub right_text : Bool → List ℕ
right_text true = codes "right"
right_text false = codes "lock"

-- where the page of a grant is
abbrev pub copy_text : CopyKind → List ℕ
copy_text Current = codes "current"
copy_text Image = codes "image"
copy_text OnDisk = codes "disk"

-- items with commas between them, or `-` for none
abbrev pub list_text : List (List ℕ) → List ℕ
list_text [] = codes "-"
list_text (x ∷ xs) = join_with_byte 44 (x ∷ xs)

-- the items of a report's lists
abbrev pub wait_text : ReportWait → List ℕ
wait_text w = tx_text w.tx ++ codes ":" ++ decimal w.page ++ codes ":" ++ mode_text w.mode ++ codes ":" ++ version_text w.have

abbrev pub lock_text : ReportLock → List ℕ
lock_text l = tx_text l.tx ++ codes ":" ++ decimal l.page ++ codes ":" ++ mode_text l.mode

abbrev pub mark_text : ReportRight → List ℕ
mark_text r = decimal r.page ++ codes ":" ++ decimal r.version

-- what a message says, without the bytes of images
abbrev pub note_text : Note → List ℕ
note_text (Request t p mode have) = codes "request" ++ spaced_tx t ++ spaced p ++ codes " " ++ mode_text mode ++ codes " " ++ version_text have
note_text (Grant t p mode right v copy) = codes "grant" ++ spaced_tx t ++ spaced p ++ codes " " ++ mode_text mode ++ codes " " ++ right_text right ++ spaced v ++ codes " " ++ copy_text copy
note_text (Release t p change) = codes "release" ++ spaced_tx t ++ spaced p ++ codes " " ++ change_text change
note_text (Revoke p) = codes "revoke" ++ spaced p
note_text (Return p readers) = codes "return" ++ spaced p ++ codes " " ++ list_text (map tx_text readers)
note_text (Report q waits locks rights) =
    codes "report" ++ spaced q ++ codes " waits " ++ list_text (map wait_text waits) ++ codes " locks " ++ list_text (map lock_text locks)
    ++ codes " rights " ++ list_text (map mark_text rights)

-- the line of a message
abbrev pub sent_line : Sent → List ℕ
sent_line s = codes "send" ++ spaced s.from ++ spaced s.to ++ spaced s.epoch ++ codes " " ++ note_text s.note

-- the line that was read, after `> `
abbrev pub echo_text : List ℕ → List ℕ
echo_text line = ended (codes "> " ++ line)

-- the text of an entry: its line, its replies, its halt and its sends
abbrev pub entry_text : Entry → List ℕ
entry_text e =
    echo_text (line_of e.event) ++ flat_map (λ r. ended (reply_line r)) e.replies ++ halt_text e.halted
    ++ flat_map (λ s. ended (sent_line s)) e.sent

-- how many commit points a reply or a halt is
abbrev pub reply_commits : Reply → ℕ
reply_commits (Committed t) = 1
reply_commits _ = 0

abbrev pub kept_commits : Option TxId → ℕ
kept_commits (Some t) = 1
kept_commits None = 0

abbrev pub halt_commits : Option Halt → ℕ
halt_commits (Some h) = kept_commits h.kept
halt_commits None = 0

-- the commit points of an entry
abbrev pub entry_commits : Entry → ℕ
entry_commits e = sum_by reply_commits e.replies + halt_commits e.halted

-- the last line: the number of events and of commit points
abbrev pub end_text : ℕ → ℕ → List ℕ
end_text events commits = ended (codes "end" ++ spaced events ++ spaced commits)

-- the text of a trace
abbrev pub trace_text : Header → List Entry → List ℕ
trace_text h trace =
    echo_text (header_line h) ++ flat_map entry_text trace ++ end_text (length trace) (sum_by entry_commits trace)
