-- What was written is read again.
use Rattle.std.specs.Prelude.{◌≡◌, ℕ, ◌<◌, ◌^◌, Option, Some, None, Ok, ⊤}
use Rattle.std.specs.List.{AllByRecursion}
use Rattle.pcl_base.specs.Limits.{Sizes, InLimits}
use Rattle.pcl_base.specs.declared.tx.TxId.{TxId}
use Rattle.pcl_base.specs.declared.message.Message.{Message}
use Rattle.pcl_base.specs.declared.message.Change.{Change}
use Rattle.pcl_base.specs.declared.message.Body.{Body}
use Rattle.pcl_base.specs.declared.message.Body.TheVariants.{Request as a_request, Grant as a_grant, Release as a_release, Revoke as a_revocation, Return as a_return, Report as a_report}
use Rattle.text_rules.specs.MessageBytes.{IsMessage, message_bytes}
use Rattle.text_rules.specs.ReadMessage.{decoded}

-- the numbers of a transaction are of their types
abbrev pub IsTxOfTypes : TxId → Type 0
IsTxOfTypes t = (t.born < 2 ^ 32) × (t.serial < 2 ^ 32)

-- a version, if there is one
abbrev pub IsVersionOfType : Option ℕ → Type 0
IsVersionOfType None = ⊤
IsVersionOfType (Some v) = v < 2 ^ 64

abbrev pub IsChangeOfType : Option Change → Type 0
IsChangeOfType None = ⊤
IsChangeOfType (Some ch) = ch.version < 2 ^ 64

-- the numbers of a body are of their types
abbrev pub IsBodyOfTypes : Body → Type 0
IsBodyOfTypes (a_request r) = IsTxOfTypes r.tx × IsVersionOfType r.have
IsBodyOfTypes (a_grant g) = IsTxOfTypes g.tx × (g.version < 2 ^ 64)
IsBodyOfTypes (a_release r) = IsTxOfTypes r.tx × IsChangeOfType r.change
IsBodyOfTypes (a_revocation page) = ⊤
IsBodyOfTypes (a_return r) = AllByRecursion IsTxOfTypes r.readers
IsBodyOfTypes (a_report r) =
    AllByRecursion (λ w. IsTxOfTypes w.tx × IsVersionOfType w.have) r.waits
    × AllByRecursion (λ l. IsTxOfTypes l.tx) r.locks
    × AllByRecursion (λ t. t.version < 2 ^ 64) r.rights

-- a message of the grammar whose numbers are of their types is what its bytes are
abbrev pub ReadAgain : Type 0
ReadAgain =
    (c : Sizes) (m : Message) → InLimits c → IsMessage c m → m.epoch < 2 ^ 32 → IsBodyOfTypes m.body
    → decoded c (message_bytes m) ≡ Ok m
