-- Texts and bytes that can't be taken for one another.
use Rattle.std.specs.Prelude.{◌≡◌, ◌^◌, ◌<◌, List, ℕ, [], ◌++◌}
use Rattle.std.specs.List.{AllByRecursion}
use Rattle.pcl_base.specs.Limits.{Sizes, InLimits}
use Rattle.pcl_base.specs.declared.event.Event.{Event}
use Rattle.pcl_base.specs.declared.log.Record.{Record}
use Rattle.text_rules.specs.LogRecord.{IsRecord, record_bytes}
use Rattle.text_rules.specs.ScheduleLine.{HasLine, line_of}

-- the bytes of a record are no proper front of another record's
abbrev pub NoRecordIsFront : Type 0
NoRecordIsFront =
    (c : Sizes) (r s : Record) (more : List ℕ) → InLimits c → IsRecord c r → IsRecord c s → record_bytes r ++ more ≡ record_bytes s
    → more ≡ []

-- the numbers of a record are of their types
pub record HasNumbers (r : Record) : Type 0 where
  pub born : r.tx.born < 2 ^ 32
  pub serial : r.tx.serial < 2 ^ 32
  pub versions : AllByRecursion (λ x. x.version < 2 ^ 64) r.changes

-- two records with the same bytes are the same
abbrev pub RecordsDiffer : Type 0
RecordsDiffer =
    (c : Sizes) (r s : Record) → InLimits c → IsRecord c r → IsRecord c s → HasNumbers r → HasNumbers s → record_bytes r ≡ record_bytes s
    → r ≡ s

-- two events with the same line are the same
abbrev pub LinesDiffer : Type 0
LinesDiffer = (a b : Event) → HasLine a → HasLine b → line_of a ≡ line_of b → a ≡ b
