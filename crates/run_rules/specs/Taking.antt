-- What an entry tells the account before its sends: the message that was taken, views, installs,
-- granted writes, commit points, and what the message brings.
use Rattle.std.specs.Prelude.{ℕ, ◌+◌, ◌==◌, ◌&&◌, ◌||◌, not, Bool, true, false, List, [], ◌∷◌, ◌++◌, map, slice_index, slice_set, Option, Some, None, is_some, Result, Ok, Err}
use Rattle.std.specs.List.{filter, list_any, fold}
use Rattle.pcl_base.specs.declared.tx.TxId.{TxId}
use Rattle.pcl_base.specs.declared.tx.Mode.{Mode}
use Rattle.pcl_base.specs.declared.event.Event.{Event}
use Rattle.pcl_base.specs.declared.event.Event.TheVariants as event
use Rattle.pcl_base.specs.declared.message.ReportRight.{ReportRight}
use Rattle.pcl_base.specs.declared.message.ReportWait.{ReportWait}
use Rattle.pcl_base.specs.declared.reply.Reply.{Reply}
use Rattle.pcl_base.specs.declared.reply.Reply.TheVariants as reply
use Rattle.pcl_base.specs.declared.trace.Entry.{Entry}
use Rattle.pcl_base.specs.declared.trace.Halt.{Halt}
use Rattle.pcl_base.specs.declared.trace.Note.{Note}
use Rattle.pcl_base.specs.declared.trace.Note.TheVariants as note
use Rattle.run_rules.specs.Words.{pick, same_tx}
use Rattle.run_rules.specs.Views.{View, first, next, reopen}
use Rattle.run_rules.specs.Ledger.{Ledger, Want, Of, Out, is_of, is_want, wants_page, is_out, wanted_at, rights_at, put_wanted, put_rights, link_at, put_link, head_of, tail_of, all_nodes, returning, last_view, with_view, view_of_epoch, install}

-- replies of a kind
abbrev pub is_taken : Reply → Bool
is_taken reply.Taken = true
is_taken _ = false

-- a message was dropped
abbrev pub is_dropped : Reply → Bool
is_dropped reply.Dropped = true
is_dropped _ = false

-- a view was made
abbrev pub is_viewed : Reply → Bool
is_viewed (reply.Viewed e) = true
is_viewed _ = false

-- an access of that transaction and page waits
abbrev pub is_waiting : TxId → ℕ → Reply → Bool
is_waiting t p (reply.Waits u q) = same_tx u t && q == p
is_waiting t p _ = false

-- a message that was taken, and its sender
pub record From : Type 0 where
  pub from : ℕ
  pub note : Note

-- a message with its sender, where there is one
abbrev pub from_if : ℕ → Option Note → Option From
from_if a None = None
from_if a (Some m) = Some (record { from = a; note = m })

-- the message that an entry took
abbrev pub taken_of : Event → List Reply → Ledger → Option From
taken_of (event.Deliver a b) rs l = pick (list_any is_taken rs) (from_if a (head_of (link_at l.links a b))) None
taken_of _ rs l = None

-- the head of the link leaves it where the message was taken or dropped, or where the step halted
abbrev pub without_head : Entry → Event → Ledger → Ledger
without_head e (event.Deliver a b) l =
    pick (list_any (λ r. is_taken r || is_dropped r) e.replies || is_some e.halted)
    (record l { links = put_link l.links a b (tail_of (link_at l.links a b)) }) l
without_head e _ l = l

-- a view that was made, and the reopening of all nodes
abbrev pub add_view : (View → List ℕ) → Result View ℕ → Ledger → Ledger
add_view up (Err rule) l = l
add_view up (Ok v) l = with_view (up v) v l

-- the views after an event
abbrev pub made_view : Entry → Event → Ledger → Ledger
made_view e (event.View live owners) l =
    pick (list_any is_viewed e.replies)
    (add_view (λ v. returning (last_view l) v (all_nodes l)) (next l.config (last_view l) live owners) l) l
made_view e _ l = l

-- a write that waits at its own node
abbrev pub own_write : Entry → Event → Ledger → Ledger
own_write e (event.Write t p place bytes) l =
    pick (list_any (is_waiting t p) e.replies)
    (record l { writing = l.writing ++ record { tx = t; page = p } ∷ [] }) l
own_write e _ l = l

-- the pages that a transaction wrote have one version more
abbrev pub one_more : List ℕ → Of → List ℕ
one_more vs x = slice_set vs x.page (slice_index vs x.page + 1)

-- a commit point of a transaction
unfoldable pub commit_point : TxId → Ledger → Ledger
commit_point t l =
    record l { versions = fold one_more l.versions (filter (λ x. same_tx x.tx t) l.done) }

-- a transaction waits no more: for a page, and at its end
abbrev pub waits_no_more : TxId → Ledger → Ledger
waits_no_more t l = record l { writing = filter (λ x. not (same_tx x.tx t)) l.writing }

-- a write of a transaction was granted
unfoldable pub wrote : TxId → ℕ → Ledger → Ledger
wrote t p l =
    record l {
      done = pick (list_any (is_of t p) l.done) l.done (l.done ++ record { tx = t; page = p } ∷ []);
      writing = filter (λ x. not (is_of t p x)) l.writing;
    }

-- the acting node has installed the view of an epoch
abbrev pub install_epoch : Option ℕ → ℕ → Ledger → Ledger
install_epoch None e l = l
install_epoch (Some n) e l = install n (view_of_epoch (first l.config) l.views e) l

-- a transaction's accesses end with its commit or abort alone
abbrev pub commits : Event → TxId → Bool
commits (event.Commit u) t = same_tx u t
commits _ t = false

-- the abort of a transaction
abbrev pub aborts : Event → TxId → Bool
aborts (event.Abort u) t = same_tx u t
aborts _ t = false

-- the end of a transaction, where the event is that end
abbrev pub ended_if : Bool → TxId → Ledger → Ledger
ended_if ends t l = pick ends (waits_no_more t l) l

-- an install and a reopening tell of themselves alone
abbrev pub install_by : Event → Option ℕ → ℕ → Ledger → Ledger
install_by (event.Install m) n e l = install_epoch n e l
install_by _ n e l = l

abbrev pub reopen_by : Event → Ledger → Ledger
reopen_by event.Reopen l = add_view (λ v. all_nodes l) (reopen l.config (last_view l)) l
reopen_by _ l = l

-- what one reply to an event tells
unfoldable pub hear : Event → Option ℕ → Ledger → Reply → Ledger
hear e n l (reply.Done t p v) = wrote t p l
hear e n l (reply.Committed t) = ended_if (commits e t) t (commit_point t l)
hear e n l (reply.Aborted t) = ended_if (aborts e t) t l
hear e n l (reply.Installed epoch) = install_by e n epoch l
hear e n l (reply.Reopened epoch) = reopen_by e l
hear e n l _ = l

-- a halt that kept a record is a commit point
abbrev pub kept_point : Option TxId → Ledger → Ledger
kept_point None l = l
kept_point (Some t) l = commit_point t l

-- the commit point of a halt, if any
abbrev pub halt_point : Option Halt → Ledger → Ledger
halt_point None l = l
halt_point (Some h) l = kept_point h.kept l

-- items of a report that was taken
abbrev pub want_of : ReportWait → Want
want_of w = record { tx = w.tx; page = w.page; mode = w.mode }

-- a right of a report that was taken
abbrev pub out_of : ℕ → ReportRight → Out
out_of n r = record { node = n; page = r.page; revoked = false }

-- a grant that reached the transaction's node answers its request; without a right the lock is
-- registered
abbrev pub answered : TxId → ℕ → Mode → Bool → Ledger → Ledger
answered t p m right l =
    record l {
      asked = filter (λ w. not (is_want t p m w)) l.asked;
      registered = pick right l.registered (l.registered ++ record { tx = t; page = p } ∷ []);
    }

-- what a message brings to the node that took it
unfoldable pub take : ℕ → ℕ → Note → Ledger → Ledger
take n from (note.Request t p m have) l = put_wanted n (wanted_at l n ++ record { tx = t; page = p; mode = m } ∷ []) l
take n from (note.Grant t p m right v copy) l =
    pick (t.node == n && list_any (is_want t p m) l.asked) (answered t p m right l) l
take n from (note.Release t p change) l = put_wanted n (filter (λ w. not (wants_page t p w)) (wanted_at l n)) l
take n from (note.Revoke p) l = l
take n from (note.Return p readers) l = put_rights n (filter (λ r. not (is_out from p r)) (rights_at l n)) l
take n from (note.Report q waits locks rights) l =
    put_rights n (rights_at l n ++ map (out_of from) rights)
    (put_wanted n (wanted_at l n ++ map want_of waits) l)

-- the same of a message that may be missing
abbrev pub take_from : ℕ → Option From → Ledger → Ledger
take_from n None l = l
take_from n (Some f) l = take n f.from f.note l

-- the acting node takes it
abbrev pub take_if : Option ℕ → Option From → Ledger → Ledger
take_if None f l = l
take_if (Some n) f l = take_from n f l
