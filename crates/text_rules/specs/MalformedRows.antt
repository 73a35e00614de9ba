-- Messages and records to compute their bytes on, with N 2, P 4 and B 8.
use Rattle.std.specs.Prelude.{ℕ, List, [], ◌∷◌, true, false, codes, Some, None}
use Rattle.pcl_base.specs.declared.tx.TxId.{TxId}
use Rattle.pcl_base.specs.declared.tx.Mode.TheVariants.{Shared, Exclusive}
use Rattle.pcl_base.specs.declared.message.Message.{Message}
use Rattle.pcl_base.specs.declared.message.Body.{Body}
use Rattle.pcl_base.specs.declared.message.Body.TheVariants.{Request as a_request, Grant as a_grant, Release as a_release, Return as a_return, Report as a_report}
use Rattle.pcl_base.specs.declared.message.CopyPart.TheVariants.{Image, OnDisk}
use Rattle.text_rules.specs.FieldBytes.{Fault, Short, BadKind, BadField, TooLong}
use Rattle.text_rules.specs.ByteRows.{bytes_of}

-- transaction 1.2.3
abbrev pub second_tx : TxId
second_tx = record { node = 1; born = 2; serial = 3 }

-- a page
abbrev pub page_bytes : List ℕ
page_bytes = bytes_of (codes "0000beef00000000")

-- a message and its bytes as hexadecimal digits
pub record Spelt : Type 0 where
  pub message : Message
  pub text : List ℕ

abbrev pub spelt : ℕ → Body → List ℕ → Spelt
spelt epoch body text = record { message = record { epoch = epoch; body = body }; text = text }

-- a message of each kind
abbrev pub all_kinds : List Spelt
all_kinds =
    spelt 1 (a_request (record { tx = second_tx; page = 3; mode = Exclusive; have = None }))
    (codes "0000000101010000000200000003000000030200")
    ∷ spelt 1 (a_request (record { tx = second_tx; page = 3; mode = Shared; have = Some 5 }))
    (codes "00000001010100000002000000030000000301010000000000000005")
    ∷ spelt 2 (a_grant (record { tx = second_tx; page = 1; mode = Shared; right = true; version = 7; copy = OnDisk }))
    (codes "0000000202010000000200000003000000010101000000000000000703")
    ∷ spelt 2 (a_grant (record { tx = second_tx; page = 1; mode = Exclusive; right = false; version = 7; copy = Image page_bytes }))
    (codes "00000002020100000002000000030000000102000000000000000007020000beef00000000")
    ∷ spelt 2 (a_release (record { tx = second_tx; page = 1; change = Some (record { version = 8; image = page_bytes }) }))
    (codes "0000000203010000000200000003000000010100000000000000080000beef00000000")
    ∷ spelt 2 (a_release (record { tx = second_tx; page = 1; change = None }))
    (codes "00000002030100000002000000030000000100")
    ∷ spelt 2 (a_return (record { page = 1; readers = second_tx ∷ [] }))
    (codes "00000002050000000100000001010000000200000003")
    ∷ spelt 2
    (a_report
    (record {
      partition = 1;
      waits = record { tx = second_tx; page = 3; mode = Exclusive; have = Some 4 } ∷ [];
      locks = record { tx = second_tx; page = 1; mode = Shared } ∷ [];
      rights = record { page = 1; version = 6 } ∷ record { page = 3; version = 2 } ∷ [];
    }))
    (codes "00000002060100000001010000000200000003000000030201000000000000000400000001010000000200000003000000010100000002000000010000000000000006000000030000000000000002")
    ∷ []

-- bytes that are no message, the fault, and the place where its field begins
pub record Broken : Type 0 where
  pub text : List ℕ
  pub fault : Fault
  pub place : ℕ

abbrev pub broken : List ℕ → Fault → ℕ → Broken
broken text fault place = record { text = text; fault = fault; place = place }

abbrev pub malformed : List Broken
malformed =
    broken (codes "") Short 0
    ∷ broken (codes "00000000") BadField 0
    ∷ broken (codes "0000000004") BadField 0
    ∷ broken (codes "000000") Short 0
    ∷ broken (codes "00000001") Short 4
    ∷ broken (codes "0000000100") BadKind 4
    ∷ broken (codes "0000000107") BadKind 4
    ∷ broken (codes "000000010102") BadField 5
    ∷ broken (codes "00000001010100000000") BadField 6
    ∷ broken (codes "0000000101010000000200000000") BadField 10
    ∷ broken (codes "000000010101000000020000000300000004") BadField 14
    ∷ broken (codes "00000001010100000002000000030000000300") BadField 18
    ∷ broken (codes "00000001010100000002000000030000000303") BadField 18
    ∷ broken (codes "0000000101010000000200000003000000030202") BadField 19
    ∷ broken (codes "000000010101000000020000000300000003020100") Short 20
    ∷ broken (codes "0000000102010000000200000003000000030201") BadField 19
    ∷ broken (codes "0000000102010000000200000003000000030102") BadField 19
    ∷ broken (codes "0000000102010000000200000003000000030200000000000000000100") BadField 28
    ∷ broken (codes "0000000102010000000200000003000000030200000000000000000104") BadField 28
    ∷ broken (codes "000000010201000000020000000300000003020000000000000000010200") Short 29
    ∷ broken (codes "000000010301000000020000000300000003010000000000000000") BadField 19
    ∷ broken (codes "0000000103010000000200000003000000030100000000000000010000beef000000") Short 27
    ∷ broken (codes "00000001050000000300000001") Short 13
    ∷ broken (codes "0000000105000000030000000000") TooLong 13
    ∷ broken (codes "000000010602") BadField 5
    ∷ broken (codes "0000000106010000000101000000020000000300000002") BadField 19
    ∷ broken (codes "000000010601000000000000000101000000020000000300000004") BadField 23
    ∷ broken (codes "0000000106010000000000000000ffffffff0000000100000000000000") Short 22
    ∷ broken (codes "00000001060100000000000000000000000100000000") BadField 18
    ∷ []

-- records of two pages in both formats
abbrev pub good_records : List (List ℕ)
good_records =
    codes "00000039010000000100000001000000020000000000000000000000010000beef000000000000000300000000000000090000beef00000000"
    ∷ codes "0000003d810000000100000001000000020000000000000000000000010002000000011100020002223300000001000000000000000100010007000144"
    ∷ []

-- bytes that begin with no record
abbrev pub no_records : List (List ℕ)
no_records =
    codes "00000025020000000100000001000000010000000000000000000000010000beef00000000"
    ∷ codes "000000257f0000000100000001000000010000000000000000000000010000beef00000000"
    ∷ codes "000000248200000001000000010000000100000000000000000000000100010000000111"
    ∷ codes "00000025000000000000000001000000010000000000000000000000010000beef00000000"
    ∷ codes "00000025000000000100000000000000010000000000000000000000010000beef00000000"
    ∷ codes "0000001100000000010000000100000000"
    ∷ codes "00000025000000000100000001000000010000000400000000000000010000beef00000000"
    ∷ codes "00000025000000000100000001000000010000000000000000000000000000beef00000000"
    ∷ codes "00000039000000000100000001000000020000000100000000000000010000beef000000000000000100000000000000020000beef00000000"
    ∷ codes "00000039000000000100000001000000020000000100000000000000010000beef000000000000000000000000000000020000beef00000000"
    ∷ codes "00000026000000000100000001000000010000000000000000000000010000beef0000000000"
    ∷ codes "00000024000000000100000001000000010000000000000000000000010000beef00000000"
    ∷ codes "0000001f800000000100000001000000010000000000000000000000010000"
    ∷ codes "0000002380000000010000000100000001000000000000000000000001000100000000"
    ∷ codes "0000002980000000010000000100000001000000000000000000000001000200000001110001000122"
    ∷ codes "00000025800000000100000001000000010000000000000000000000010001000700021122"
    ∷ codes "0000002980000000010000000100000001000000000000000000000001000200040001110000000122"
    ∷ codes "000000248000000001000000010000000100000004000000000000000100010000000111"
    ∷ codes "00000025800000000100000001000000010000000000000000000000010000beef00000000"
    ∷ []
