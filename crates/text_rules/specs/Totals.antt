-- The totals of a trace, and their text.
use Rattle.std.specs.Prelude.{ℕ, Bool, true, false, List, ◌++◌, length, flat_map, count_by, sum_by, codes, is_some}
use Rattle.pcl_base.specs.declared.reply.Reply.{Reply}
use Rattle.pcl_base.specs.declared.reply.Reply.TheVariants.{Begun, Aborted, Value, Done, Waits, Held, Dropped, Refused}
use Rattle.pcl_base.specs.declared.trace.Note.{Note}
use Rattle.pcl_base.specs.declared.trace.Note.TheVariants.{Request, Grant, Release, Revoke, Return, Report}
use Rattle.pcl_base.specs.declared.trace.CopyKind.{CopyKind}
use Rattle.pcl_base.specs.declared.trace.CopyKind.TheVariants.{Image}
use Rattle.pcl_base.specs.declared.trace.Entry.{Entry}
use Rattle.text_rules.specs.TraceText.{ended, entry_commits}
use Rattle.text_rules.specs.ScheduleLine.{spaced}

-- the counts, in the order of their lines
pub record Totals : Type 0 where
  pub events : ℕ
  pub begun : ℕ
  pub values : ℕ
  pub done : ℕ
  pub waits : ℕ
  pub committed : ℕ
  pub aborted : ℕ
  pub held : ℕ
  pub dropped : ℕ
  pub refused : ℕ
  pub halted : ℕ
  pub requests : ℕ
  pub grants : ℕ
  pub releases : ℕ
  pub revokes : ℕ
  pub returns : ℕ
  pub reports : ℕ
  pub images : ℕ

-- the kinds of replies that are counted
abbrev pub is_begun : Reply → Bool
is_begun (Begun t) = true
is_begun _ = false

abbrev pub is_value : Reply → Bool
is_value (Value t p v bytes) = true
is_value _ = false

abbrev pub is_done : Reply → Bool
is_done (Done t p v) = true
is_done _ = false

abbrev pub is_waiting : Reply → Bool
is_waiting (Waits t p) = true
is_waiting _ = false

abbrev pub is_aborted : Reply → Bool
is_aborted (Aborted t) = true
is_aborted _ = false

abbrev pub is_held : Reply → Bool
is_held Held = true
is_held _ = false

abbrev pub is_dropped : Reply → Bool
is_dropped Dropped = true
is_dropped _ = false

abbrev pub is_refused : Reply → Bool
is_refused (Refused reason) = true
is_refused _ = false

-- the kinds of messages
abbrev pub is_request : Note → Bool
is_request (Request t p mode have) = true
is_request _ = false

abbrev pub is_grant : Note → Bool
is_grant (Grant t p mode right v copy) = true
is_grant _ = false

abbrev pub is_release : Note → Bool
is_release (Release t p change) = true
is_release _ = false

abbrev pub is_revocation : Note → Bool
is_revocation (Revoke p) = true
is_revocation _ = false

abbrev pub is_return : Note → Bool
is_return (Return p readers) = true
is_return _ = false

abbrev pub is_report : Note → Bool
is_report (Report q waits locks rights) = true
is_report _ = false

-- whether a grant says that it brings the page
abbrev pub is_image : CopyKind → Bool
is_image Image = true
is_image _ = false

-- whether an image travels with a message
abbrev pub has_image : Note → Bool
has_image (Grant t p mode right v copy) = is_image copy
has_image (Release t p change) = is_some change
has_image _ = false

-- how many replies of a trace pass a test
abbrev pub replies_at : (Reply → Bool) → List Entry → ℕ
replies_at test trace = count_by test (flat_map (λ e. e.replies) trace)

-- how many messages of a trace pass a test
abbrev pub sends_at : (Note → Bool) → List Entry → ℕ
sends_at test trace = count_by (λ s. test s.note) (flat_map (λ e. e.sent) trace)

-- the totals of a trace
abbrev pub totals_of : List Entry → Totals
totals_of trace =
    record {
      events = length trace;
      begun = replies_at is_begun trace;
      values = replies_at is_value trace;
      done = replies_at is_done trace;
      waits = replies_at is_waiting trace;
      committed = sum_by entry_commits trace;
      aborted = replies_at is_aborted trace;
      held = replies_at is_held trace;
      dropped = replies_at is_dropped trace;
      refused = replies_at is_refused trace;
      halted = count_by (λ e. is_some e.halted) trace;
      requests = sends_at is_request trace;
      grants = sends_at is_grant trace;
      releases = sends_at is_release trace;
      revokes = sends_at is_revocation trace;
      returns = sends_at is_return trace;
      reports = sends_at is_report trace;
      images = sends_at has_image trace;
    }

-- a word and its count
abbrev pub total_line : List ℕ → ℕ → List ℕ
total_line word count = ended (word ++ spaced count)

-- the text of totals
abbrev pub totals_text : Totals → List ℕ
totals_text t =
    total_line (codes "events") t.events ++ total_line (codes "begun") t.begun ++ total_line (codes "values") t.values
    ++ total_line (codes "done") t.done ++ total_line (codes "waits") t.waits ++ total_line (codes "committed") t.committed
    ++ total_line (codes "aborted") t.aborted ++ total_line (codes "held") t.held ++ total_line (codes "dropped") t.dropped
    ++ total_line (codes "refused") t.refused ++ total_line (codes "halted") t.halted ++ total_line (codes "requests") t.requests
    ++ total_line (codes "grants") t.grants ++ total_line (codes "releases") t.releases ++ total_line (codes "revokes") t.revokes
    ++ total_line (codes "returns") t.returns ++ total_line (codes "reports") t.reports ++ total_line (codes "images") t.images
