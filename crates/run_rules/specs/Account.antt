-- The account: every message is a lock request, a grant, a release, a revocation or the answer to
-- one, or a recovery report, each with its cause in the trace, and each cause is used once.
use Rattle.std.specs.Prelude.{◌≡◌, ℕ, ◌+◌, ◌==◌, ◌&&◌, ◌||◌, not, Bool, true, false, List, [], ◌∷◌, ◌++◌, Option, Some, None, is_some}
use Rattle.std.specs.List.{list_any, fold}
use Rattle.pcl_base.specs.Limits.{Sizes}
use Rattle.pcl_base.specs.declared.event.Event.{Event}
use Rattle.pcl_base.specs.declared.event.Event.TheVariants as event
use Rattle.pcl_base.specs.declared.reply.Reply.{Reply}
use Rattle.pcl_base.specs.declared.reply.Reply.TheVariants as reply
use Rattle.pcl_base.specs.declared.trace.Entry.{Entry}
use Rattle.pcl_base.specs.declared.trace.Note.{Note}
use Rattle.pcl_base.specs.declared.trace.Note.TheVariants as note
use Rattle.pcl_base.specs.declared.trace.Sent.{Sent}
use Rattle.run_rules.specs.Words.{pick}
use Rattle.run_rules.specs.Ledger.{Ledger, first_ledger, view_at, is_up, link_at, put_link, actor, lose}
use Rattle.run_rules.specs.Taking.{From, taken_of, without_head, made_view, own_write, hear, halt_point, take_if}
use Rattle.run_rules.specs.Causes.{Sending, before_sends, with_ledger, request, grant, release, revoke, still_wait, answer, report}

-- the cause of a message by its kind
abbrev pub cause : Entry → Option From → ℕ → ℕ → Note → Sending → Option Sending
cause e f n to (note.Request t p m have) s = request e n to t p m s
cause e f n to (note.Grant t p m right v copy) s = grant n to t p m right s
cause e f n to (note.Release t p change) s = release e n to t p change s
cause e f n to (note.Revoke p) s = revoke n to p s
cause e f n to (note.Return p readers) s = answer f n to p readers s
cause e f n to (note.Report q waits locks rights) s = report e n to q waits locks s

-- a message goes last on its link where the receiver is up
abbrev pub on_link : Sent → Ledger → Ledger
on_link x l =
    pick (is_up l x.to) (record l { links = put_link l.links x.from x.to (link_at l.links x.from x.to ++ x.note ∷ []) }) l

-- a message with a cause goes on its link
abbrev pub then_on_link : Sent → Option Sending → Option Sending
then_on_link x None = None
then_on_link x (Some s) = Some (with_ledger s (on_link x s.ledger))

-- a send: of the acting node to another one, with the epoch of its view, and with a cause
abbrev pub cause_if : Bool → Entry → Option From → ℕ → Sent → Sending → Option Sending
cause_if false e f n x s = None
cause_if true e f n x s = then_on_link x (cause e f n x.to x.note s)

-- one send after the other has to have its cause
unfoldable pub one_send : Entry → Option From → Option ℕ → Sent → Sending → Option Sending
one_send e f None x s = None
one_send e f (Some n) x s =
    cause_if ((x.from == n && not (x.to == n)) && x.epoch == (view_at s.ledger n).epoch) e f n x s

-- the next send, where there was a cause
abbrev pub and_then : Option Sending → (Sending → Option Sending) → Option Sending
and_then None further = None
and_then (Some s) further = further s

-- each send of an entry has its cause, and the writers for whom rights were asked back wait at its end
unfoldable pub all_sends : Entry → Option From → Option ℕ → List Sent → Sending → Option Sending
all_sends e f n [] s = still_wait n s
all_sends e f n (x ∷ xs) s = and_then (one_send e f n x s) (all_sends e f n xs)

-- a crash or a halt
abbrev pub is_crashed : Reply → Bool
is_crashed reply.Crashed = true
is_crashed _ = false

-- whether an event is a crash
abbrev pub is_crash : Event → Bool
is_crash (event.Crash n) = true
is_crash _ = false

-- whether the acting node is lost in an entry
abbrev pub is_lost : Entry → Bool
is_lost e = (is_crash e.event && list_any is_crashed e.replies) || is_some e.halted

-- the ledger once it is
abbrev pub lose_if : Bool → Option ℕ → Ledger → Ledger
lose_if true (Some n) l = lose n l
lose_if _ n l = l

-- the ledger before the sends of an entry
unfoldable pub heard : Entry → Ledger → Ledger
heard e l =
    take_if (actor e.event) (taken_of e.event e.replies l)
    (halt_point e.halted
    (fold (hear e.event (actor e.event)) (own_write e e.event (made_view e e.event (without_head e e.event l))) e.replies))

-- the ledger after an entry, or none where a send has no cause
abbrev pub after_sends : Entry → Option Sending → Option Ledger
after_sends e None = None
after_sends e (Some s) = Some (lose_if (is_lost e) (actor e.event) s.ledger)

-- an entry tells what it tells, and then sends
unfoldable pub after_entry : Entry → Ledger → Option Ledger
after_entry e l =
    after_sends e
    (all_sends e (taken_of e.event e.replies l) (actor e.event) e.sent (before_sends (heard e l)))

-- the first entry, counted from n, with a send that has no cause
abbrev pub go_on : ℕ → Option Ledger → (Ledger → Option ℕ) → Option ℕ
go_on n None further = Some n
go_on n (Some l) further = further l

-- the same from a ledger on
unfoldable pub account_from : ℕ → List Entry → Ledger → Option ℕ
account_from n [] l = None
account_from n (e ∷ es) l = go_on n (after_entry e l) (account_from (n + 1) es)

-- the first entry of a trace with a send that has no cause
abbrev pub account_fault : Sizes → List Entry → Option ℕ
account_fault c trace = account_from 1 trace (first_ledger c)

-- the account holds: each send of the trace has its cause
abbrev pub IsAccounted : Sizes → List Entry → Type 0
IsAccounted c trace = account_fault c trace ≡ None
