-- Messages between nodes as bytes.
use Rattle.std.specs.Prelude.{◌≡◌, ℕ, ◌%◌, ◌<◌, ◌≤◌, Bool, true, false, List, [], ◌∷◌, ◌++◌, length, map, Option, Some, None, ⊤}
use Rattle.std.specs.Int.{w32, w64, to_be_bytes}
use Rattle.std.specs.List.{concat, AllByRecursion}
use Rattle.pcl_base.specs.Limits.{Sizes}
use Rattle.pcl_base.specs.declared.tx.TxId.{TxId}
use Rattle.pcl_base.specs.declared.tx.Mode.{Mode}
use Rattle.pcl_base.specs.declared.tx.Mode.TheVariants.{Shared, Exclusive}
use Rattle.pcl_base.specs.declared.message.Message.{Message}
use Rattle.pcl_base.specs.declared.message.Body.{Body}
use Rattle.pcl_base.specs.declared.message.Body.TheVariants.{Request as a_request, Grant as a_grant, Release as a_release, Revoke as a_revocation, Return as a_return, Report as a_report}
use Rattle.pcl_base.specs.declared.message.CopyPart.{CopyPart}
use Rattle.pcl_base.specs.declared.message.CopyPart.TheVariants.{Current, Image, OnDisk}
use Rattle.pcl_base.specs.declared.message.Change.{Change}
use Rattle.pcl_base.specs.declared.message.ReportWait.{ReportWait}
use Rattle.pcl_base.specs.declared.message.ReportLock.{ReportLock}
use Rattle.pcl_base.specs.declared.message.ReportRight.{ReportRight}

-- a transaction: its node, born and serial
abbrev pub tx_bytes : TxId → List ℕ
tx_bytes t = t.node ∷ (to_be_bytes w32 t.born ++ to_be_bytes w32 t.serial)

-- a mode is one byte
abbrev pub mode_byte : Mode → ℕ
mode_byte Shared = 1
mode_byte Exclusive = 2

-- a flag is one byte
abbrev pub flag_byte : Bool → ℕ
flag_byte false = 0
flag_byte true = 1

-- a flag, and where it is set the version
abbrev pub version_bytes : Option ℕ → List ℕ
version_bytes None = 0 ∷ []
version_bytes (Some v) = 1 ∷ to_be_bytes w64 v

-- what a grant says of the copy, with the bytes of an image
abbrev pub copy_bytes : CopyPart → List ℕ
copy_bytes Current = 1 ∷ []
copy_bytes (Image bytes) = 2 ∷ bytes
copy_bytes OnDisk = 3 ∷ []

-- a flag, and where it is set the version and the image
abbrev pub change_bytes : Option Change → List ℕ
change_bytes None = 0 ∷ []
change_bytes (Some ch) = 1 ∷ (to_be_bytes w64 ch.version ++ ch.image)

-- the number of items and the items
abbrev pub list_bytes : {X : Type 0} → (X → List ℕ) → List X → List ℕ
list_bytes item xs = to_be_bytes w32 (length xs) ++ concat (map item xs)

-- the items of a report
abbrev pub wait_bytes : ReportWait → List ℕ
wait_bytes w = tx_bytes w.tx ++ to_be_bytes w32 w.page ++ mode_byte w.mode ∷ version_bytes w.have

abbrev pub lock_bytes : ReportLock → List ℕ
lock_bytes l = tx_bytes l.tx ++ to_be_bytes w32 l.page ++ mode_byte l.mode ∷ []

abbrev pub right_bytes : ReportRight → List ℕ
right_bytes r = to_be_bytes w32 r.page ++ to_be_bytes w64 r.version

-- the kind of a message and its body
abbrev pub body_bytes : Body → List ℕ
body_bytes (a_request r) = 1 ∷ (tx_bytes r.tx ++ to_be_bytes w32 r.page ++ mode_byte r.mode ∷ version_bytes r.have)
body_bytes (a_grant g) =
    2 ∷ (tx_bytes g.tx ++ to_be_bytes w32 g.page ++ mode_byte g.mode ∷ flag_byte g.right ∷ to_be_bytes w64 g.version ++ copy_bytes g.copy)
body_bytes (a_release r) = 3 ∷ (tx_bytes r.tx ++ to_be_bytes w32 r.page ++ change_bytes r.change)
body_bytes (a_revocation page) = 4 ∷ to_be_bytes w32 page
body_bytes (a_return r) = 5 ∷ (to_be_bytes w32 r.page ++ list_bytes tx_bytes r.readers)
body_bytes (a_report r) =
    6 ∷ (r.partition ∷ list_bytes wait_bytes r.waits ++ list_bytes lock_bytes r.locks ++ list_bytes right_bytes r.rights)

-- the bytes of a message
abbrev pub message_bytes : Message → List ℕ
message_bytes m = to_be_bytes w32 m.epoch ++ body_bytes m.body

-- the transactions and pages of a cluster of these sizes
abbrev pub IsTx : Sizes → TxId → Type 0
IsTx c t = (t.node < c.nodes) × (1 ≤ t.born) × (1 ≤ t.serial)

abbrev pub IsPage : Sizes → ℕ → Type 0
IsPage c page = page < c.pages

-- a page of a partition
abbrev pub IsPageOf : Sizes → ℕ → ℕ → Type 0
IsPageOf c q page = (page < c.pages) × (page % c.nodes ≡ q)

-- an exclusive grant carries no right
abbrev pub IsRight : Mode → Bool → Type 0
IsRight Shared right = ⊤
IsRight Exclusive right = right ≡ false

-- an image is a page of that many bytes
abbrev pub IsCopy : ℕ → CopyPart → Type 0
IsCopy size Current = ⊤
IsCopy size (Image bytes) = length bytes ≡ size
IsCopy size OnDisk = ⊤

-- a change brings a version of at least 1 and a page
abbrev pub IsChange : ℕ → Option Change → Type 0
IsChange size None = ⊤
IsChange size (Some ch) = (1 ≤ ch.version) × (length ch.image ≡ size)

-- the bodies that have bytes
abbrev pub IsBody : Sizes → Body → Type 0
IsBody c (a_request r) = IsTx c r.tx × IsPage c r.page
IsBody c (a_grant g) = IsTx c g.tx × IsPage c g.page × IsRight g.mode g.right × IsCopy c.size g.copy
IsBody c (a_release r) = IsTx c r.tx × IsPage c r.page × IsChange c.size r.change
IsBody c (a_revocation page) = IsPage c page
IsBody c (a_return r) = IsPage c r.page × (length r.readers < 4294967296) × AllByRecursion (IsTx c) r.readers
IsBody c (a_report r) =
    (r.partition < c.nodes)
    × (length r.waits < 4294967296) × AllByRecursion (λ w. IsTx c w.tx × IsPageOf c r.partition w.page) r.waits
    × (length r.locks < 4294967296) × AllByRecursion (λ l. IsTx c l.tx × IsPageOf c r.partition l.page) r.locks
    × (length r.rights < 4294967296) × AllByRecursion (λ t. IsPageOf c r.partition t.page) r.rights

-- the messages that have bytes, each one spelling, where their numbers are of their types
pub record IsMessage (c : Sizes) (m : Message) : Type 0 where
  pub epoch : 1 ≤ m.epoch
  pub body : IsBody c m.body

-- the partition that a body speaks of
abbrev pub partition_of : Sizes → Body → ℕ
partition_of c (a_request r) = r.page % c.nodes
partition_of c (a_grant g) = g.page % c.nodes
partition_of c (a_release r) = r.page % c.nodes
partition_of c (a_revocation page) = page % c.nodes
partition_of c (a_return r) = r.page % c.nodes
partition_of c (a_report r) = r.partition
