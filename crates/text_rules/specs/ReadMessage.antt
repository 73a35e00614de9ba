-- Reading a message field by field from the left.
use Rattle.std.specs.Prelude.{ℕ, ◌-◌, ◌%◌, ◌==◌, ◌&&◌, Bool, true, false, nat_le, nat_lt, List, length, Option, Some, None, Result, Ok, Err}
use Rattle.std.specs.Int.{w8, w32, w64}
use Rattle.pcl_base.specs.Limits.{Sizes}
use Rattle.pcl_base.specs.declared.tx.TxId.{TxId}
use Rattle.pcl_base.specs.declared.tx.Mode.{Mode}
use Rattle.pcl_base.specs.declared.tx.Mode.TheVariants.{Shared, Exclusive}
use Rattle.pcl_base.specs.declared.message.Message.{Message}
use Rattle.pcl_base.specs.declared.message.Body.{Body}
use Rattle.pcl_base.specs.declared.message.Body.TheVariants.{Request as a_request, Grant as a_grant, Release as a_release, Revoke as a_revocation, Return as a_return, Report as a_report}
use Rattle.pcl_base.specs.declared.message.CopyPart.{CopyPart}
use Rattle.pcl_base.specs.declared.message.CopyPart.TheVariants.{Current, Image, OnDisk}
use Rattle.pcl_base.specs.declared.message.Change.{Change}
use Rattle.pcl_base.specs.declared.message.ReportWait.{ReportWait}
use Rattle.pcl_base.specs.declared.message.ReportLock.{ReportLock}
use Rattle.pcl_base.specs.declared.message.ReportRight.{ReportRight}
use Rattle.text_rules.specs.FieldBytes.{Fault, BadKind, BadField, Stop, Reader, pick, give, ◌>>=◌, allowed, piece, number, number_from, at_least, items, whole}

-- a transaction
abbrev pub tx_field : Sizes → Reader TxId
tx_field c = do
  node ← number_from 0 (c.nodes - 1) w8
  born ← at_least 1 w32
  serial ← at_least 1 w32
  give (record { node = node; born = born; serial = serial })

-- a page of the database, and one of a partition
abbrev pub page_field : Sizes → Reader ℕ
page_field c = allowed BadField (λ p. nat_lt p c.pages) (number w32)

abbrev pub page_of_field : Sizes → ℕ → Reader ℕ
page_of_field c q = allowed BadField (λ p. nat_lt p c.pages && (p % c.nodes == q)) (number w32)

-- a mode
abbrev pub mode_field : Reader Mode
mode_field = do
  code ← number_from 1 2 w8
  give (pick (code == 1) Shared Exclusive)

-- a flag
abbrev pub flag_field : Reader Bool
flag_field = do
  code ← number_from 0 1 w8
  give (code == 1)

-- what stands only behind a flag that is set
abbrev pub optional : {X : Type 0} → Reader X → Bool → Reader (Option X)
optional read false = give None
optional read true = do
  x ← read
  give (Some x)

-- the version of a copy, if there is one
abbrev pub version_field : Reader (Option ℕ)
version_field = do
  flag ← flag_field
  optional (number w64) flag

-- the right of a grant: none where the mode is exclusive
abbrev pub right_field : Mode → Reader Bool
right_field Shared = flag_field
right_field Exclusive = do
  code ← number_from 0 0 w8
  give false

-- where the page of a grant is
abbrev pub copy_part : ℕ → ℕ → Reader CopyPart
copy_part size code =
    pick (code == 2) (piece size >>= λ bytes. give (Image bytes)) (give (pick (code == 1) Current OnDisk))

abbrev pub copy_field : ℕ → Reader CopyPart
copy_field size = do
  code ← number_from 1 3 w8
  copy_part size code

-- what a release brings
abbrev pub change_part : ℕ → Reader Change
change_part size = do
  version ← at_least 1 w64
  image ← piece size
  give (record { version = version; image = image })

abbrev pub change_field : ℕ → Reader (Option Change)
change_field size = do
  flag ← flag_field
  optional (change_part size) flag

-- a list: the number of its items and the items
abbrev pub list_field : {X : Type 0} → Reader X → Reader (List X)
list_field read = do
  count ← number w32
  items count read

-- the items of a report
abbrev pub wait_field : Sizes → ℕ → Reader ReportWait
wait_field c q = do
  tx ← tx_field c
  page ← page_of_field c q
  mode ← mode_field
  have ← version_field
  give (record { tx = tx; page = page; mode = mode; have = have })

abbrev pub lock_field : Sizes → ℕ → Reader ReportLock
lock_field c q = do
  tx ← tx_field c
  page ← page_of_field c q
  mode ← mode_field
  give (record { tx = tx; page = page; mode = mode })

abbrev pub right_item : Sizes → ℕ → Reader ReportRight
right_item c q = do
  page ← page_of_field c q
  version ← number w64
  give (record { page = page; version = version })

-- the bodies, each by its kind
abbrev pub request_field : Sizes → Reader Body
request_field c = do
  tx ← tx_field c
  page ← page_field c
  mode ← mode_field
  have ← version_field
  give (a_request (record { tx = tx; page = page; mode = mode; have = have }))

abbrev pub grant_field : Sizes → Reader Body
grant_field c = do
  tx ← tx_field c
  page ← page_field c
  mode ← mode_field
  right ← right_field mode
  version ← number w64
  copy ← copy_field c.size
  give (a_grant (record { tx = tx; page = page; mode = mode; right = right; version = version; copy = copy }))

abbrev pub release_field : Sizes → Reader Body
release_field c = do
  tx ← tx_field c
  page ← page_field c
  change ← change_field c.size
  give (a_release (record { tx = tx; page = page; change = change }))

abbrev pub revocation_field : Sizes → Reader Body
revocation_field c = do
  page ← page_field c
  give (a_revocation page)

abbrev pub return_field : Sizes → Reader Body
return_field c = do
  page ← page_field c
  readers ← list_field (tx_field c)
  give (a_return (record { page = page; readers = readers }))

abbrev pub report_field : Sizes → Reader Body
report_field c = do
  q ← number_from 0 (c.nodes - 1) w8
  waits ← list_field (wait_field c q)
  locks ← list_field (lock_field c q)
  rights ← list_field (right_item c q)
  give (a_report (record { partition = q; waits = waits; locks = locks; rights = rights }))

-- the body of a kind from 1 to 6
abbrev pub body_field : Sizes → ℕ → Reader Body
body_field c kind =
    pick (kind == 1) (request_field c)
    (pick (kind == 2) (grant_field c)
    (pick (kind == 3) (release_field c)
    (pick (kind == 4) (revocation_field c)
    (pick (kind == 5) (return_field c) (report_field c)))))

-- the kind of a message
abbrev pub kind_field : Reader ℕ
kind_field = allowed BadKind (λ k. nat_le 1 k && nat_le k 6) (number w8)

-- a message
abbrev pub message_field : Sizes → Reader Message
message_field c = do
  epoch ← at_least 1 w32
  kind ← kind_field
  body ← body_field c kind
  give (record { epoch = epoch; body = body })

-- the first fault from the left, and the place of the first byte of the field at fault, or of the
-- first byte too many, counted from 0
pub record Refusal : Type 0 where
  pub fault : Fault
  pub place : ℕ

-- what was read of so many bytes
abbrev pub placed : {X : Type 0} → ℕ → Result X Stop → Result X Refusal
placed count (Ok x) = Ok x
placed count (Err s) = Err (record { fault = s.fault; place = count - s.left })

-- the message that all the bytes are, or why they are none
abbrev pub decoded : Sizes → List ℕ → Result Message Refusal
decoded c bytes = placed (length bytes) (whole (message_field c bytes))
