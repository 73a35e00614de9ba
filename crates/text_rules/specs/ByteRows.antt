-- Worked rows of bytes.
use Rattle.std.specs.Prelude.{ℕ, ◌+◌, ◌*◌, ◌-◌, nat_lt, List, [], ◌∷◌, codes}
use Rattle.pcl_base.specs.Limits.{Sizes}
use Rattle.pcl_base.specs.declared.tx.TxId.{TxId}
use Rattle.pcl_base.specs.declared.log.Record.{Record}
use Rattle.pcl_base.specs.declared.log.Part.TheVariants.{Image, Ranges}
use Rattle.pcl_base.specs.declared.log.ChangedRange.{ChangedRange}
use Rattle.text_rules.specs.FieldBytes.{pick}
use Rattle.text_rules.specs.StoredPage.{PageAt}
use Rattle.pcl_base.specs.declared.message.Message.{Message}
use Rattle.pcl_base.specs.declared.message.Body.TheVariants.{Revoke as a_revocation}

-- the value of a lower-case hexadecimal digit
abbrev pub digit_of : ℕ → ℕ
digit_of code = pick (nat_lt code 58) (code - 48) (code - 87)

-- the bytes of hexadecimal digits, two a byte
abbrev pub bytes_of : List ℕ → List ℕ
bytes_of [] = []
bytes_of (high ∷ []) = []
bytes_of (high ∷ low ∷ rest) = (16 * digit_of high + digit_of low) ∷ bytes_of rest

-- two nodes and four pages of eight bytes
abbrev pub two_nodes : Sizes
two_nodes = record { nodes = 2; pages = 4; size = 8; frames = 2 }

abbrev pub first_tx : TxId
first_tx = record { node = 0; born = 1; serial = 1 }

-- transaction 0.1.1 has written beef at place 2 of page 0
abbrev pub first_change : Record
first_change = record { tx = first_tx; changes = record { page = 0; version = 1; part = Image (bytes_of (codes "0000beef00000000")) } ∷ [] }

abbrev pub range : ℕ → List ℕ → ChangedRange
range place bytes = record { place = place; bytes = bytes }

abbrev pub first_ranges : Record
first_ranges =
    record { tx = first_tx; changes = record { page = 0; version = 1; part = Ranges (range 2 (bytes_of (codes "beef")) ∷ []) } ∷ [] }

abbrev pub record_one : List ℕ
record_one = codes "00000025000000000100000001000000010000000000000000000000010000beef00000000"

abbrev pub record_two : List ℕ
record_two = codes "0000002580000000010000000100000001000000000000000000000001000100020002beef"

abbrev pub first_page : PageAt
first_page = record { version = 1; bytes = bytes_of (codes "0000beef00000000") }

abbrev pub stored_one : List ℕ
stored_one = codes "000000000000000100000000000000010000beef00000000"

-- a revocation of page 1 in epoch 1
abbrev pub a_revocation_message : Message
a_revocation_message = record { epoch = 1; body = a_revocation 1 }
