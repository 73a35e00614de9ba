-- Events and their lines, to compute the definitions on.
use Rattle.std.specs.Prelude.{[], ◌∷◌, true, false, None}
use Rattle.pcl_base.specs.declared.tx.TxId.{TxId}
use Rattle.pcl_base.specs.declared.tx.Mode.TheVariants.{Exclusive}
use Rattle.pcl_base.specs.declared.event.Header.{Header}
use Rattle.pcl_base.specs.declared.event.Event.{Event}
use Rattle.pcl_base.specs.declared.event.Event.TheVariants.{Begin, Read, Write, View}
use Rattle.pcl_base.specs.declared.reply.Reason.TheVariants.{BadView}
use Rattle.pcl_base.specs.declared.reply.Reply.TheVariants.{Value, Refused}
use Rattle.pcl_base.specs.declared.trace.Note.TheVariants.{Request}
use Rattle.pcl_base.specs.declared.trace.Entry.{Entry}

-- a first line
abbrev pub a_header : Header
a_header = record { nodes = 1; pages = 1; size = 8; frames = 4 }

-- a transaction
abbrev pub first_tx : TxId
first_tx = record { node = 0; born = 1; serial = 12 }

-- events
abbrev pub a_write : Event
a_write = Write first_tx 65535 4095 (190 ∷ 239 ∷ [])

abbrev pub an_empty_write : Event
an_empty_write = Write first_tx 0 0 []

abbrev pub a_view : Event
a_view = View (true ∷ false ∷ []) (0 ∷ 10 ∷ [])

-- a read with its answer, a refusal, and a step that sends
abbrev pub a_read : Entry
a_read = record { event = Read first_tx 3; replies = Value first_tx 3 2 (0 ∷ 171 ∷ []) ∷ []; sent = []; halted = None }

abbrev pub a_refusal : Entry
a_refusal = record { event = a_view; replies = Refused (BadView 6) ∷ []; sent = []; halted = None }

abbrev pub a_send : Entry
a_send =
    record {
      event = Begin 3;
      replies = [];
      sent = record { from = 0; to = 1; epoch = 7; note = Request first_tx 5 Exclusive None } ∷ [];
      halted = None;
    }
