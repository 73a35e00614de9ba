-- Frames to compute the definitions on, with N 2, P 4 and B 8.
use Rattle.std.specs.Prelude.{ℕ, true, false, List, [], ◌∷◌, codes, Result, Err}
use Rattle.pcl_base.specs.declared.event.Event.TheVariants as line
use Rattle.pcl_base.specs.declared.message.Body.TheVariants.{Revoke}
use Rattle.pcl_base.specs.declared.tx.TxId.{TxId}
use Rattle.run_rules.specs.Views.{View}
use Rattle.text_rules.specs.FieldBytes.{Short, BadKind, BadField, TooLong}
use Rattle.text_rules.specs.BadLine.{Byte, Short as short_line}
use Rattle.text_rules.specs.ByteRows.{bytes_of, two_nodes}
use Rattle.frame_rules.specs.Frames.{Frame, LineFrame, MessageFrame, ViewFrame}
use Rattle.frame_rules.specs.ReadFrame.{Reason, BadLength, CutOff, NoKind, InLine, InField, BadFrame, bad_frame, Front, AtEnd, Bad, Whole, front_of, frame_of}

-- what the first frame of some bytes is to node 0 of two
abbrev pub read_front : Front → Result Frame BadFrame
read_front AtEnd = Err (bad_frame 0 CutOff)
read_front (Bad bad) = Err bad
read_front (Whole body left) = frame_of two_nodes 0 body

abbrev pub read_frame : List ℕ → Result Frame BadFrame
read_frame text = read_front (front_of (bytes_of text))

-- a transaction of node 0, and one of node 1
abbrev pub own_tx : TxId
own_tx = record { node = 0; born = 1; serial = 1 }

abbrev pub other_tx : TxId
other_tx = record { node = 1; born = 1; serial = 1 }

-- a view in which node 1 is lost
abbrev pub lost : View
lost = record { epoch = 2; live = true ∷ false ∷ []; owners = 0 ∷ 0 ∷ []; since = 1 ∷ 2 ∷ []; born = 1 ∷ 1 ∷ [] }

-- a frame and its bytes as hexadecimal digits
pub record Spelt : Type 0 where
  pub frame : Frame
  pub text : List ℕ

abbrev pub spelt : Frame → List ℕ → Spelt
spelt frame text = record { frame = frame; text = text }

-- frames of each kind, and a line of each word
abbrev pub good_frames : List Spelt
good_frames =
    spelt (LineFrame (line.Begin 0)) (codes "000000084c626567696e2030")
    ∷ spelt (LineFrame (line.Begin 15)) (codes "000000094c626567696e203135")
    ∷ spelt (LineFrame (line.Read own_tx 1)) (codes "0000000d4c7265616420302e312e312031")
    ∷ spelt (LineFrame (line.Write own_tx 0 0 (1 ∷ []))) (codes "000000134c777269746520302e312e3120302030203031")
    ∷ spelt (LineFrame (line.Commit other_tx)) (codes "0000000d4c636f6d6d697420312e312e31")
    ∷ spelt (LineFrame (line.Abort own_tx)) (codes "0000000c4c61626f727420302e312e31")
    ∷ spelt (LineFrame (line.Evict 0 3)) (codes "0000000a4c657669637420302033")
    ∷ spelt (LineFrame (line.Flush 0 3)) (codes "0000000a4c666c75736820302033")
    ∷ spelt (LineFrame (line.Cut 0)) (codes "000000064c6375742030")
    ∷ spelt (MessageFrame 1 (record { epoch = 1; body = Revoke 2 })) (codes "0000000b4d01000000010400000002")
    ∷ spelt (ViewFrame lost) (codes "0000001956000000020100000000000001000000020000000100000001")
    ∷ []

-- a bad frame, its place and its reason
pub record Broken : Type 0 where
  pub text : List ℕ
  pub place : ℕ
  pub reason : Reason

abbrev pub broken : List ℕ → ℕ → Reason → Broken
broken text place reason = record { text = text; place = place; reason = reason }

-- bad lengths, ends within a frame, and kinds
abbrev pub bad_fronts : List Broken
bad_fronts =
    broken (codes "00") 2 CutOff
    ∷ broken (codes "000000") 4 CutOff
    ∷ broken (codes "00000000") 1 BadLength
    ∷ broken (codes "0800000058") 6 CutOff
    ∷ broken (codes "08000001") 1 BadLength
    ∷ broken (codes "ffffffff") 1 BadLength
    ∷ broken (codes "00000001") 5 CutOff
    ∷ broken (codes "0000000258") 6 CutOff
    ∷ broken (codes "0000000158") 5 NoKind
    ∷ broken (codes "0000000150") 5 NoKind
    ∷ broken (codes "0000000154") 5 NoKind
    ∷ broken (codes "0000000152") 5 NoKind
    ∷ []

-- bad lines
abbrev pub bad_lines : List Broken
bad_lines =
    broken (codes "000000014c") 6 (InLine short_line)
    ∷ broken (codes "000000064c626567696e") 11 (InLine short_line)
    ∷ broken (codes "000000094c626567696e20300a") 13 (InLine Byte)
    ∷ broken (codes "000000094c626567696e203136") 13 (InLine Byte)
    ∷ broken (codes "000000084c63726173682030") 6 (InLine Byte)
    ∷ broken (codes "000000084c637261736820") 12 CutOff
    ∷ broken (codes "000000074c637261736820") 12 (InLine short_line)
    ∷ broken (codes "000000074c72656f70656e") 6 (InLine Byte)
    ∷ broken (codes "0000000a4c766965772030312030") 6 (InLine Byte)
    ∷ []

-- bad messages
abbrev pub bad_messages : List Broken
bad_messages =
    broken (codes "000000014d") 6 (InField Short)
    ∷ broken (codes "000000064d0000000001") 6 (InField BadField)
    ∷ broken (codes "000000064d0200000001") 6 (InField BadField)
    ∷ broken (codes "000000064d0100000000") 7 (InField BadField)
    ∷ broken (codes "000000064d0100000001") 11 (InField Short)
    ∷ broken (codes "000000074d010000000107") 11 (InField BadKind)
    ∷ broken (codes "0000000b4d01000000010400000004") 12 (InField BadField)
    ∷ broken (codes "0000000c4d0100000001040000000200") 16 (InField TooLong)
    ∷ []

-- bad views
abbrev pub bad_views : List Broken
bad_views =
    broken (codes "000000055600000000") 6 (InField BadField)
    ∷ broken (codes "0000000756000000020101") 12 (InField Short)
    ∷ broken (codes "0000000756000000020001") 10 (InField BadField)
    ∷ broken (codes "0000000756000000020102") 11 (InField BadField)
    ∷ broken (codes "000000085600000002010001") 12 (InField BadField)
    ∷ broken (codes "000000085600000002010102") 12 (InField BadField)
    ∷ broken (codes "0000000d56000000020100000000000000") 14 (InField BadField)
    ∷ broken (codes "000000115600000002010000000000000100000003") 18 (InField BadField)
    ∷ broken (codes "0000001956000000020100000000000001000000020000000100000000") 26 (InField BadField)
    ∷ broken (codes "0000001a5600000002010000000000000100000002000000010000000100") 30 (InField TooLong)
    ∷ []
