-- The lines of a schedule, without their newlines: which events and headers have one, and what it is.
use Rattle.std.specs.Prelude.{ℕ, ◌<◌, ◌≤◌, Bool, true, false, List, [], ◌∷◌, ◌++◌, length, map, codes}
use Rattle.std.specs.Fmt.{decimal}
use Rattle.std.specs.List.{join_with_byte, AllByRecursion}
use Rattle.hex.specs.Hex.{encode_lower}
use Rattle.pcl_base.specs.declared.tx.TxId.{TxId}
use Rattle.pcl_base.specs.declared.event.Header.{Header}
use Rattle.pcl_base.specs.declared.event.Event.{Event}
use Rattle.pcl_base.specs.declared.event.Event.TheVariants.{Begin, Read, Write, Commit, Abort, Deliver, Evict, Flush, Crash, View, Install, Reopen, Arm, Cut}

-- a number after a space
abbrev pub spaced : ℕ → List ℕ
spaced n = codes " " ++ decimal n

-- a transaction's name
abbrev pub tx_text : TxId → List ℕ
tx_text t = decimal t.node ++ codes "." ++ decimal t.born ++ codes "." ++ decimal t.serial

-- bytes as pairs of hexadecimal digits, or `-` for none
abbrev pub bytes_text : List ℕ → List ℕ
bytes_text [] = codes "-"
bytes_text (b ∷ bs) = encode_lower (b ∷ bs)

-- a flag for each node
abbrev pub flag_text : Bool → ℕ
flag_text true = 49
flag_text false = 48

-- numbers with commas between them
abbrev pub numbers_text : List ℕ → List ℕ
numbers_text ns = join_with_byte 44 (map decimal ns)

-- the first line of a schedule
abbrev pub header_line : Header → List ℕ
header_line h = codes "pcl 1" ++ spaced h.nodes ++ spaced h.pages ++ spaced h.size ++ spaced h.frames

-- the line of an event
abbrev pub line_of : Event → List ℕ
line_of (Begin n) = codes "begin " ++ decimal n
line_of (Read t p) = codes "read " ++ tx_text t ++ spaced p
line_of (Write t p place bytes) = codes "write " ++ tx_text t ++ spaced p ++ spaced place ++ codes " " ++ bytes_text bytes
line_of (Commit t) = codes "commit " ++ tx_text t
line_of (Abort t) = codes "abort " ++ tx_text t
line_of (Deliver x y) = codes "deliver " ++ decimal x ++ spaced y
line_of (Evict n p) = codes "evict " ++ decimal n ++ spaced p
line_of (Flush n p) = codes "flush " ++ decimal n ++ spaced p
line_of (Crash n) = codes "crash " ++ decimal n
line_of (View live owners) = codes "view " ++ map flag_text live ++ codes " " ++ numbers_text owners
line_of (Install n) = codes "install " ++ decimal n
line_of Reopen = codes "reopen"
line_of (Arm n k j) = codes "arm " ++ decimal n ++ spaced k ++ spaced j
line_of (Cut n) = codes "cut " ++ decimal n

-- a node is written as 0 to 15, a page as 0 to 65,535
abbrev pub HasNode : ℕ → Type 0
HasNode n = n ≤ 15

abbrev pub HasPage : ℕ → Type 0
HasPage p = p ≤ 65535

-- a transaction's birth and serial are counted from 1
pub record HasTx (t : TxId) : Type 0 where
  pub node : HasNode t.node
  pub first_born : 1 ≤ t.born
  pub last_born : t.born ≤ 4294967295
  pub first_serial : 1 ≤ t.serial
  pub last_serial : t.serial ≤ 4294967295

-- the numbers of a first line are at most 65,536
pub record HasHeader (h : Header) : Type 0 where
  pub nodes : h.nodes ≤ 65536
  pub pages : h.pages ≤ 65536
  pub size : h.size ≤ 65536
  pub frames : h.frames ≤ 65536

-- the events that have a line
abbrev pub HasLine : Event → Type 0
HasLine (Begin n) = HasNode n
HasLine (Read t p) = HasTx t × HasPage p
HasLine (Write t p place bytes) = HasTx t × HasPage p × (place ≤ 4095) × (length bytes ≤ 4096) × AllByRecursion (λ b. b < 256) bytes
HasLine (Commit t) = HasTx t
HasLine (Abort t) = HasTx t
HasLine (Deliver x y) = HasNode x × HasNode y
HasLine (Evict n p) = HasNode n × HasPage p
HasLine (Flush n p) = HasNode n × HasPage p
HasLine (Crash n) = HasNode n
HasLine (View live owners) = (1 ≤ length live) × (length live ≤ 16) × (1 ≤ length owners) × (length owners ≤ 16) × AllByRecursion HasNode owners
HasLine (Install n) = HasNode n
HasLine Reopen = Unit {0}
HasLine (Arm n k j) = HasNode n × (1 ≤ k) × (k ≤ 4294967295) × (j ≤ 4294967295)
HasLine (Cut n) = HasNode n
