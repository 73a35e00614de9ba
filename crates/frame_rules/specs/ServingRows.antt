-- Inputs of one node over frames, to compute serving on.
use Rattle.std.specs.Prelude.{ℕ, List, [], ◌∷◌, codes}
use Rattle.pcl_base.specs.Limits.{Sizes}
use Rattle.run_rules.specs.Disk.{fresh_disk}
use Rattle.text_rules.specs.ByteRows.{bytes_of}
use Rattle.frame_rules.specs.Serving.{Served, Ended, served}
use Rattle.frame_rules.specs.Halting.{MayBeServed}

-- one node with a page of eight bytes
abbrev pub one_node : Sizes
one_node = record { nodes = 1; pages = 1; size = 8; frames = 2 }

-- node 0 over a fresh disk, with at most so many frames
abbrev pub serves : Sizes → ℕ → List ℕ → Served
serves c most text = served c 0 most (fresh_disk c) (bytes_of text)

-- what is written, as hexadecimal digits, with the status, where the disk is left as it was
abbrev pub writes : Sizes → List ℕ → ℕ → Served
writes c text status = record { written = bytes_of text; progress = Ended status (fresh_disk c) }

-- what node 0 may write over a fresh disk where a call of the storage fails
abbrev pub MayWrite : Sizes → List ℕ → List ℕ → Type 0
MayWrite c text written = MayBeServed c 0 9 (fresh_disk c) (bytes_of text) (writes c written 6)

-- view 1 of one node, and the line `begin 0`
abbrev pub first_view : List ℕ
first_view = codes "0000000f560000000101000000000100000001"

abbrev pub begins : List ℕ
begins = codes "000000084c626567696e2030"

-- view 1 of two nodes
abbrev pub view_of_two : List ℕ
view_of_two = codes "0000001956000000010101000100000001000000010000000100000001"

-- the line `write 0.1.1 0 0 01`
abbrev pub writes_one : List ℕ
writes_one = codes "000000134c777269746520302e312e3120302030203031"

-- the line `commit 0.1.1`
abbrev pub commits : List ℕ
commits = codes "0000000d4c636f6d6d697420302e312e31"

-- view 2 of two nodes, in which node 0 was born in epoch 1
abbrev pub second_view : List ℕ
second_view = codes "0000001956000000020101000100000001000000010000000100000001"

-- a revocation of page 1 from node 1 in epoch 2
abbrev pub revokes_in_2 : List ℕ
revokes_in_2 = codes "0000000b4d01000000020400000001"

-- what node 0 of two writes when it installs view 1
abbrev pub installs_1 : List ℕ
installs_1 = codes "0000000d52696e7374616c6c656420310a000000144d01000000010601000000000000000000000000"

-- an input that one bad frame ends, and the last line of output
pub record Malformed : Type 0 where
  pub text : List ℕ
  pub line : List ℕ

abbrev pub malformed_frame : List ℕ → List ℕ → Malformed
malformed_frame text line = record { text = text; line = line }

-- bad frames to node 0 of two
abbrev pub malformed : List Malformed
malformed =
    malformed_frame (codes "000000") (codes "bad 1 4 cut\n")
    ∷ malformed_frame (codes "00000000") (codes "bad 1 1 length\n")
    ∷ malformed_frame (codes "08000001") (codes "bad 1 1 length\n")
    ∷ malformed_frame (codes "0000000158") (codes "bad 1 5 kind\n")
    ∷ malformed_frame (codes "000000064c626567696e") (codes "bad 1 11 short\n")
    ∷ malformed_frame (codes "000000084c63726173682030") (codes "bad 1 6 byte\n")
    ∷ malformed_frame (codes "000000064d0100000001") (codes "bad 1 11 Short\n")
    ∷ malformed_frame (codes "000000064d0000000001") (codes "bad 1 6 BadField\n")
    ∷ []
