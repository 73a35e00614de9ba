-- The ledger of a step has the views of the nodes after it.
use Rattle.std.proofs.Common.{◌≡◌, refl, ◌∙◌, ℕ, ◌==◌, ◌&&◌, ◌||◌, Bool, true, false, List, [], ◌∷◌, ◌++◌, Option, Some, None, is_some, Result, Ok, Err}
use Rattle.std.specs.List.{AllByRecursion, list_any, fold}
use Rattle.pcl_base.specs.declared.event.Event.{Event}
use Rattle.pcl_base.specs.declared.event.Event.TheVariants as event
use Rattle.pcl_base.specs.declared.reply.Reply.{Reply}
use Rattle.pcl_base.specs.declared.reply.Reply.TheVariants as reply
use Rattle.pcl_base.specs.declared.trace.Entry.{Entry}
use Rattle.pcl_base.specs.declared.trace.Halt.{Halt}
use Rattle.pcl_base.specs.declared.trace.Note.{Note}
use Rattle.pcl_base.specs.declared.trace.Note.TheVariants as note
use Rattle.pcl_base.specs.declared.tx.TxId.{TxId}
use Rattle.run_rules.specs.Words.{pick}
use Rattle.run_rules.specs.Views.{View, next, reopen}
use Rattle.run_rules.specs.Causes.{is_install}
use Rattle.run_rules.specs.Ledger as ledger
use Rattle.run_rules.specs.Ledger.{Ledger, first_ledger, view_at, installed_at, is_want, actor, link_at as ledger_link, put_link as put_ledger_link, tail_of as further_notes}
use Rattle.run_rules.specs.Taking.{From, taken_of, without_head, made_view, own_write, is_waiting, wrote, commit_point, commits, aborts, ended_if, install_epoch, install_by, reopen_by, hear, kept_point, halt_point, answered, take, take_if, is_viewed}
use Rattle.run_rules.specs.Taking as taking
use Rattle.run_rules.specs.Account.{heard}

-- ---- what an entry leaves alone

-- what nodes have seen is the same in two ledgers
pub record SameSeen (l m : Ledger) : Type 0 where
  pub config : m.config ≡ l.config
  pub seen : m.seen ≡ l.seen
  pub installed : m.installed ≡ l.installed

pub seen_self : (l : Ledger) → SameSeen l l
seen_self l = record { config = refl; seen = refl; installed = refl }

pub seen_then : (l m k : Ledger) → SameSeen l m → SameSeen m k → SameSeen l k
seen_then l m k a b = record { config = b.config ∙ a.config; seen = b.seen ∙ a.seen; installed = b.installed ∙ a.installed }

-- whether a reply to an event tells an install
abbrev pub tells : Event → Reply → Bool
tells e (reply.Installed n) = is_install e
tells e _ = false

take_seen : (n from : ℕ) (x : Note) (l : Ledger) → SameSeen l (take n from x l)
unfolding take
take_seen n from (note.Request t p m have) l = record { config = refl; seen = refl; installed = refl }
take_seen n from (note.Grant t p m right v copy) l = by (t.node == n && list_any (is_want t p m) l.asked)
  where
    by : (b : Bool) → SameSeen l (pick b (answered t p m right l) l)
    by true = record { config = refl; seen = refl; installed = refl }
    by false = seen_self l
take_seen n from (note.Release t p change) l = record { config = refl; seen = refl; installed = refl }
take_seen n from (note.Revoke p) l = seen_self l
take_seen n from (note.Return p readers) l = record { config = refl; seen = refl; installed = refl }
take_seen n from (note.Report q waits locks rights) l = record { config = refl; seen = refl; installed = refl }

taken_seen : (o : Option ℕ) (f : Option From) (l : Ledger) → SameSeen l (take_if o f l)
taken_seen None f l = seen_self l
taken_seen (Some n) None l = seen_self l
taken_seen (Some n) (Some f) l = take_seen n f.from f.note l

pointed_seen : (o : Option TxId) (l : Ledger) → SameSeen l (kept_point o l)
unfolding commit_point
pointed_seen None l = seen_self l
pointed_seen (Some t) l = record { config = refl; seen = refl; installed = refl }

halt_seen : (h : Option Halt) (l : Ledger) → SameSeen l (halt_point h l)
halt_seen None l = seen_self l
halt_seen (Some h) l = pointed_seen h.kept l

ended_seen : (b : Bool) (t : TxId) (l k : Ledger) → SameSeen l k → SameSeen l (ended_if b t k)
ended_seen true t l k s = record { config = s.config; seen = s.seen; installed = s.installed }
ended_seen false t l k s = s

installed_seen : (e : Event) (o : Option ℕ) (epoch : ℕ) (l : Ledger) → is_install e ≡ false → SameSeen l (install_by e o epoch l)
installed_seen (event.Begin n) o epoch l none = seen_self l
installed_seen (event.Read t p) o epoch l none = seen_self l
installed_seen (event.Write t p place bytes) o epoch l none = seen_self l
installed_seen (event.Commit t) o epoch l none = seen_self l
installed_seen (event.Abort t) o epoch l none = seen_self l
installed_seen (event.Deliver from to) o epoch l none = seen_self l
installed_seen (event.Evict n p) o epoch l none = seen_self l
installed_seen (event.Flush n p) o epoch l none = seen_self l
installed_seen (event.Crash n) o epoch l none = seen_self l
installed_seen (event.View live owners) o epoch l none = seen_self l
installed_seen (event.Install n) o epoch l none = absurd (cc)
installed_seen event.Reopen o epoch l none = seen_self l
installed_seen (event.Arm n call kept) o epoch l none = seen_self l
installed_seen (event.Cut n) o epoch l none = seen_self l

added_seen : (up : View → List ℕ) (r : Result View ℕ) (l : Ledger) → SameSeen l (taking.add_view up r l)
added_seen up (Err rule) l = seen_self l
added_seen up (Ok v) l = record { config = refl; seen = refl; installed = refl }

reopened_seen : (e : Event) (l : Ledger) → SameSeen l (reopen_by e l)
reopened_seen (event.Begin n) l = seen_self l
reopened_seen (event.Read t p) l = seen_self l
reopened_seen (event.Write t p place bytes) l = seen_self l
reopened_seen (event.Commit t) l = seen_self l
reopened_seen (event.Abort t) l = seen_self l
reopened_seen (event.Deliver from to) l = seen_self l
reopened_seen (event.Evict n p) l = seen_self l
reopened_seen (event.Flush n p) l = seen_self l
reopened_seen (event.Crash n) l = seen_self l
reopened_seen (event.View live owners) l = seen_self l
reopened_seen (event.Install n) l = seen_self l
reopened_seen event.Reopen l = added_seen (λ v. ledger.all_nodes l) (reopen l.config (ledger.last_view l)) l
reopened_seen (event.Arm n call kept) l = seen_self l
reopened_seen (event.Cut n) l = seen_self l

hear_seen : (e : Event) (o : Option ℕ) (l : Ledger) (r : Reply) → tells e r ≡ false → SameSeen l (hear e o l r)
unfolding hear wrote
hear_seen e o l (reply.Begun t) none = seen_self l
hear_seen e o l (reply.Committed t) none = ended_seen (commits e t) t l (commit_point t l) (pointed_seen (Some t) l)
hear_seen e o l (reply.Aborted t) none = ended_seen (aborts e t) t l l (seen_self l)
hear_seen e o l (reply.Value t p v bytes) none = seen_self l
hear_seen e o l (reply.Done t p v) none = record { config = refl; seen = refl; installed = refl }
hear_seen e o l (reply.Waits t p) none = seen_self l
hear_seen e o l reply.Taken none = seen_self l
hear_seen e o l reply.Held none = seen_self l
hear_seen e o l reply.Dropped none = seen_self l
hear_seen e o l reply.Evicted none = seen_self l
hear_seen e o l reply.Flushed none = seen_self l
hear_seen e o l reply.Crashed none = seen_self l
hear_seen e o l reply.Armed none = seen_self l
hear_seen e o l (reply.Cut n) none = seen_self l
hear_seen e o l (reply.Viewed n) none = seen_self l
hear_seen e o l (reply.Installed n) none = installed_seen e o n l none
hear_seen e o l (reply.Reopened n) none = reopened_seen e l
hear_seen e o l (reply.Serving q) none = seen_self l
hear_seen e o l (reply.Refused x) none = seen_self l

pub all_heard_seen : (e : Event) (o : Option ℕ) (rs : List Reply) (l : Ledger) → AllByRecursion (λ r. tells e r ≡ false) rs → SameSeen l (fold (hear e o) l rs)
all_heard_seen e o [] l none = seen_self l
all_heard_seen e o (r ∷ rs) l none = seen_then l (hear e o l r) (fold (hear e o) (hear e o l r) rs) (hear_seen e o l r none.0) (all_heard_seen e o rs (hear e o l r) none.1)

written_seen : (x : Entry) (e : Event) (l : Ledger) → SameSeen l (own_write x e l)
written_seen x (event.Begin n) l = seen_self l
written_seen x (event.Read t p) l = seen_self l
written_seen x (event.Write t p place bytes) l = by (list_any (is_waiting t p) x.replies)
  where
    by : (b : Bool) → SameSeen l (pick b (record l { writing = l.writing ++ record { tx = t; page = p } ∷ [] }) l)
    by true = record { config = refl; seen = refl; installed = refl }
    by false = seen_self l
written_seen x (event.Commit t) l = seen_self l
written_seen x (event.Abort t) l = seen_self l
written_seen x (event.Deliver from to) l = seen_self l
written_seen x (event.Evict n p) l = seen_self l
written_seen x (event.Flush n p) l = seen_self l
written_seen x (event.Crash n) l = seen_self l
written_seen x (event.View live owners) l = seen_self l
written_seen x (event.Install n) l = seen_self l
written_seen x event.Reopen l = seen_self l
written_seen x (event.Arm n call kept) l = seen_self l
written_seen x (event.Cut n) l = seen_self l

viewed_seen : (x : Entry) (e : Event) (l : Ledger) → SameSeen l (made_view x e l)
viewed_seen x (event.Begin n) l = seen_self l
viewed_seen x (event.Read t p) l = seen_self l
viewed_seen x (event.Write t p place bytes) l = seen_self l
viewed_seen x (event.Commit t) l = seen_self l
viewed_seen x (event.Abort t) l = seen_self l
viewed_seen x (event.Deliver from to) l = seen_self l
viewed_seen x (event.Evict n p) l = seen_self l
viewed_seen x (event.Flush n p) l = seen_self l
viewed_seen x (event.Crash n) l = seen_self l
viewed_seen x (event.View live owners) l = by (list_any is_viewed x.replies)
  where
    k : Ledger
    k = taking.add_view (λ v. ledger.returning (ledger.last_view l) v (ledger.all_nodes l)) (next l.config (ledger.last_view l) live owners) l

    by : (b : Bool) → SameSeen l (pick b k l)
    by true = added_seen (λ v. ledger.returning (ledger.last_view l) v (ledger.all_nodes l)) (next l.config (ledger.last_view l) live owners) l
    by false = seen_self l
viewed_seen x (event.Install n) l = seen_self l
viewed_seen x event.Reopen l = seen_self l
viewed_seen x (event.Arm n call kept) l = seen_self l
viewed_seen x (event.Cut n) l = seen_self l

head_seen : (x : Entry) (e : Event) (l : Ledger) → SameSeen l (without_head x e l)
head_seen x (event.Begin n) l = seen_self l
head_seen x (event.Read t p) l = seen_self l
head_seen x (event.Write t p place bytes) l = seen_self l
head_seen x (event.Commit t) l = seen_self l
head_seen x (event.Abort t) l = seen_self l
head_seen x (event.Deliver a b) l = by (list_any (λ r. taking.is_taken r || taking.is_dropped r) x.replies || is_some x.halted)
  where
    k : Ledger
    k = record l { links = put_ledger_link l.links a b (further_notes (ledger_link l.links a b)) }

    by : (y : Bool) → SameSeen l (pick y k l)
    by true = record { config = refl; seen = refl; installed = refl }
    by false = seen_self l
head_seen x (event.Evict n p) l = seen_self l
head_seen x (event.Flush n p) l = seen_self l
head_seen x (event.Crash n) l = seen_self l
head_seen x (event.View live owners) l = seen_self l
head_seen x (event.Install n) l = seen_self l
head_seen x event.Reopen l = seen_self l
head_seen x (event.Arm n call kept) l = seen_self l
head_seen x (event.Cut n) l = seen_self l

-- before its replies, and after them
pub before_seen : (x : Entry) (l : Ledger) → SameSeen l (own_write x x.event (made_view x x.event (without_head x x.event l)))
before_seen x l =
    let a : Ledger = without_head x x.event l in
    let b : Ledger = made_view x x.event a in
    seen_then l a _ (head_seen x x.event l) (seen_then a b _ (viewed_seen x x.event a) (written_seen x x.event b))

pub behind_seen : (x : Entry) (f : Option From) (l : Ledger) → SameSeen l (take_if (actor x.event) f (halt_point x.halted l))
behind_seen x f l = let h : Ledger = halt_point x.halted l in seen_then l h _ (halt_seen x.halted l) (taken_seen (actor x.event) f h)

-- an entry that tells no install
pub heard_seen : (x : Entry) (l : Ledger) → AllByRecursion (λ r. tells x.event r ≡ false) x.replies → SameSeen l (heard x l)
unfolding heard
heard_seen x l none =
    let k : Ledger = own_write x x.event (made_view x x.event (without_head x x.event l)) in
    let f : Ledger = fold (hear x.event (actor x.event)) k x.replies in
    seen_then l k _ (before_seen x l) (seen_then k f _ (all_heard_seen x.event (actor x.event) x.replies k none) (behind_seen x (taken_of x.event x.replies l) f))
