-- What a commit logs of each page.
use Rattle.std.specs.Prelude.{◌≡◌, ◌≢◌, ℕ, ◌^◌, ◌<◌, ◌≤◌, true, false, length, Option, None, is_some}
use Rattle.std.specs.List.{AllByRecursion, Contains}
use Rattle.pcl_base.specs.Limits.{InLimits}
use Rattle.pcl_base.specs.declared.tx.TxId.{TxId}
use Rattle.text_rules.specs.LogRecord.{record_bytes}
use Rattle.run_rules.specs.Disk.{Disk, log_at}
use Rattle.node_rules.specs.AccessRule.{version_or}
use Rattle.node_rules.specs.BufferRule.{find, private_bytes}
use Rattle.node_rules.specs.DiskCalls.{Force, done}
use Rattle.node_rules.specs.EndRule.{pages_written, new_version, logged, commit_record, at_version_end}
use Rattle.node_rules.specs.NodeState.{HomeState}
use Rattle.node_rules.specs.OpenTxs.{is_open, pending_of}
use Rattle.redo_laws.specs.Laws.{HasLog, CanBeWritten}
use Rattle.redo_laws.specs.Words.{IsWhole}
use Rattle.home_laws.specs.Homes.{IsHome}
use Rattle.page_protocol.specs.Bytes.{Copy, Ranges}
use Rattle.page_laws.specs.Storage.Looks.{IsStored, ranges_of_part, with_record}

-- the record of a commit has each page of which its transaction has a private copy with content, and no other
pub record HasWritten (h : HomeState) (t : TxId) : Type 0 where
  pub there : (p : ℕ) → is_some (private_bytes h.pool t p) ≡ true → Contains (commit_record h t).changes (logged h t p)
  pub others : (p : ℕ) → private_bytes h.pool t p ≡ None → AllByRecursion (λ x. x.page ≢ p) (commit_record h t).changes

-- A transaction that waits for nothing logs what it wrote.
abbrev pub RecordHasWritten : Type 0
RecordHasWritten = (h : HomeState) (t : TxId) → IsHome h → pending_of h.txs t ≡ None → HasWritten h t

-- a transaction that may commit and has written: it is open and waits for nothing, no page that it wrote is at
-- the last version, and the numbers of its node and of its pages are of their types
pub record MayCommit (h : HomeState) (t : TxId) : Type 0 where
  pub limits : InLimits h.config
  pub home : IsHome h
  pub there : is_open h.txs t ≡ true
  pub waits : pending_of h.txs t ≡ None
  pub some : 1 ≤ length (pages_written h t)
  pub last : at_version_end h t ≡ false
  pub born : h.txs.born < 2 ^ 32
  pub serial : h.txs.last < 2 ^ 32
  pub versions : (p : ℕ) → is_some (private_bytes h.pool t p) ≡ true → version_or (find h.pool p) < 2 ^ 64

-- Its record has bytes of its own.
abbrev pub RecordCanBeWritten : Type 0
RecordCanBeWritten = (h : HomeState) (t : TxId) → MayCommit h t → CanBeWritten h.config (commit_record h t)

-- A commit logs the next version of a page that it wrote.
abbrev pub CommitIsLogged : Type 0
CommitIsLogged =
    (d : Disk) (n : ℕ) (h : HomeState) (t : TxId) (p : ℕ) (disk : Copy) (log : ℕ → ℕ → Option Ranges) → HasLog h.config d n → IsWhole h.config (log_at d n) → MayCommit h t
    → is_some (private_bytes h.pool t p) ≡ true → ((v : ℕ) → new_version h p ≤ v → log n v ≡ None) → IsStored h.config d p disk log
    → IsStored h.config (done n d (Force t (record_bytes (commit_record h t)))) p disk (with_record log n (new_version h p) (ranges_of_part (logged h t p).part))

-- It changes nothing of what is stored of a page that it didn't write.
abbrev pub CommitIsElsewhere : Type 0
CommitIsElsewhere =
    (d : Disk) (n : ℕ) (h : HomeState) (t : TxId) (p : ℕ) (disk : Copy) (log : ℕ → ℕ → Option Ranges) → IsWhole h.config (log_at d n) → MayCommit h t
    → private_bytes h.pool t p ≡ None → IsStored h.config d p disk log
    → IsStored h.config (done n d (Force t (record_bytes (commit_record h t)))) p disk log
