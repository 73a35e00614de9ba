-- What an entry leaves alone in the ledger before its sends.
use Rattle.std.proofs.Common.{◌≡◌, refl, ◌∙◌, ℕ, ◌==◌, ◌&&◌, Bool, true, false, List, [], ◌∷◌, ◌++◌, Option, Some, None}
use Rattle.std.specs.List.{list_any, fold}
use Rattle.pcl_base.specs.declared.event.Event.{Event}
use Rattle.pcl_base.specs.declared.event.Event.TheVariants as event
use Rattle.pcl_base.specs.declared.reply.Reply.{Reply}
use Rattle.pcl_base.specs.declared.reply.Reply.TheVariants as reply
use Rattle.pcl_base.specs.declared.trace.Entry.{Entry}
use Rattle.pcl_base.specs.declared.trace.Halt.{Halt}
use Rattle.pcl_base.specs.declared.trace.Note.{Note}
use Rattle.pcl_base.specs.declared.trace.Note.TheVariants as note
use Rattle.pcl_base.specs.declared.tx.TxId.{TxId}
use Rattle.run_rules.specs.Words.{pick}
use Rattle.run_rules.specs.Ledger.{Ledger, is_want, install, actor}
use Rattle.run_rules.specs.Taking.{From, taken_of, without_head, made_view, own_write, is_waiting, wrote, commit_point, commits, aborts, ended_if, install_epoch, install_by, reopen_by, hear, kept_point, halt_point, answered, take, take_if}
use Rattle.run_rules.specs.Account.{heard}

-- the whole cluster is the same in two ledgers
pub record SameWorld (l m : Ledger) : Type 0 where
  pub config : m.config ≡ l.config
  pub up : m.up ≡ l.up
  pub links : m.links ≡ l.links
  pub views : m.views ≡ l.views

pub same_self : (l : Ledger) → SameWorld l l
same_self l = record { config = refl; up = refl; links = refl; views = refl }

pub same_then : (l m k : Ledger) → SameWorld l m → SameWorld m k → SameWorld l k
same_then l m k a b = record { config = b.config ∙ a.config; up = b.up ∙ a.up; links = b.links ∙ a.links; views = b.views ∙ a.views }

-- an event of a node
abbrev pub is_local : Event → Bool
is_local (event.View live owners) = false
is_local event.Reopen = false
is_local _ = true

take_same : (n from : ℕ) (x : Note) (l : Ledger) → SameWorld l (take n from x l)
unfolding take
take_same n from (note.Request t p m have) l = record { config = refl; up = refl; links = refl; views = refl }
take_same n from (note.Grant t p m right v copy) l = by (t.node == n && list_any (is_want t p m) l.asked)
  where
    by : (b : Bool) → SameWorld l (pick b (answered t p m right l) l)
    by true = record { config = refl; up = refl; links = refl; views = refl }
    by false = same_self l
take_same n from (note.Release t p change) l = record { config = refl; up = refl; links = refl; views = refl }
take_same n from (note.Revoke p) l = same_self l
take_same n from (note.Return p readers) l = record { config = refl; up = refl; links = refl; views = refl }
take_same n from (note.Report q waits locks rights) l = record { config = refl; up = refl; links = refl; views = refl }

taken_same : (o : Option ℕ) (f : Option From) (l : Ledger) → SameWorld l (take_if o f l)
taken_same None f l = same_self l
taken_same (Some n) None l = same_self l
taken_same (Some n) (Some f) l = take_same n f.from f.note l

pointed_same : (o : Option TxId) (l : Ledger) → SameWorld l (kept_point o l)
unfolding commit_point
pointed_same None l = same_self l
pointed_same (Some t) l = record { config = refl; up = refl; links = refl; views = refl }

halt_same : (h : Option Halt) (l : Ledger) → SameWorld l (halt_point h l)
halt_same None l = same_self l
halt_same (Some h) l = pointed_same h.kept l

ended_same : (b : Bool) (t : TxId) (l k : Ledger) → SameWorld l k → SameWorld l (ended_if b t k)
ended_same true t l k s = record { config = s.config; up = s.up; links = s.links; views = s.views }
ended_same false t l k s = s

epoch_same : (o : Option ℕ) (e : ℕ) (l : Ledger) → SameWorld l (install_epoch o e l)
unfolding install
epoch_same None e l = same_self l
epoch_same (Some n) e l = record { config = refl; up = refl; links = refl; views = refl }

installed_same : (e : Event) (o : Option ℕ) (epoch : ℕ) (l : Ledger) → SameWorld l (install_by e o epoch l)
installed_same (event.Begin n) o epoch l = same_self l
installed_same (event.Read t p) o epoch l = same_self l
installed_same (event.Write t p place bytes) o epoch l = same_self l
installed_same (event.Commit t) o epoch l = same_self l
installed_same (event.Abort t) o epoch l = same_self l
installed_same (event.Deliver from to) o epoch l = same_self l
installed_same (event.Evict n p) o epoch l = same_self l
installed_same (event.Flush n p) o epoch l = same_self l
installed_same (event.Crash n) o epoch l = same_self l
installed_same (event.View live owners) o epoch l = same_self l
installed_same (event.Install n) o epoch l = epoch_same o epoch l
installed_same event.Reopen o epoch l = same_self l
installed_same (event.Arm n call kept) o epoch l = same_self l
installed_same (event.Cut n) o epoch l = same_self l

reopened_same : (e : Event) (l : Ledger) → is_local e ≡ true → SameWorld l (reopen_by e l)
reopened_same (event.Begin n) l local = same_self l
reopened_same (event.Read t p) l local = same_self l
reopened_same (event.Write t p place bytes) l local = same_self l
reopened_same (event.Commit t) l local = same_self l
reopened_same (event.Abort t) l local = same_self l
reopened_same (event.Deliver from to) l local = same_self l
reopened_same (event.Evict n p) l local = same_self l
reopened_same (event.Flush n p) l local = same_self l
reopened_same (event.Crash n) l local = same_self l
reopened_same (event.View live owners) l local = same_self l
reopened_same (event.Install n) l local = same_self l
reopened_same event.Reopen l local = absurd (cc)
reopened_same (event.Arm n call kept) l local = same_self l
reopened_same (event.Cut n) l local = same_self l

hear_same : (e : Event) (o : Option ℕ) (l : Ledger) (r : Reply) → is_local e ≡ true → SameWorld l (hear e o l r)
unfolding hear wrote
hear_same e o l (reply.Begun t) local = same_self l
hear_same e o l (reply.Committed t) local = ended_same (commits e t) t l (commit_point t l) (pointed_same (Some t) l)
hear_same e o l (reply.Aborted t) local = ended_same (aborts e t) t l l (same_self l)
hear_same e o l (reply.Value t p v bytes) local = same_self l
hear_same e o l (reply.Done t p v) local = record { config = refl; up = refl; links = refl; views = refl }
hear_same e o l (reply.Waits t p) local = same_self l
hear_same e o l reply.Taken local = same_self l
hear_same e o l reply.Held local = same_self l
hear_same e o l reply.Dropped local = same_self l
hear_same e o l reply.Evicted local = same_self l
hear_same e o l reply.Flushed local = same_self l
hear_same e o l reply.Crashed local = same_self l
hear_same e o l reply.Armed local = same_self l
hear_same e o l (reply.Cut n) local = same_self l
hear_same e o l (reply.Viewed n) local = same_self l
hear_same e o l (reply.Installed n) local = installed_same e o n l
hear_same e o l (reply.Reopened n) local = reopened_same e l local
hear_same e o l (reply.Serving q) local = same_self l
hear_same e o l (reply.Refused x) local = same_self l

all_heard_same : (e : Event) (o : Option ℕ) (rs : List Reply) (l : Ledger) → is_local e ≡ true → SameWorld l (fold (hear e o) l rs)
all_heard_same e o [] l local = same_self l
all_heard_same e o (r ∷ rs) l local = same_then l (hear e o l r) (fold (hear e o) (hear e o l r) rs) (hear_same e o l r local) (all_heard_same e o rs (hear e o l r) local)

written_same : (x : Entry) (e : Event) (l : Ledger) → SameWorld l (own_write x e l)
written_same x (event.Begin n) l = same_self l
written_same x (event.Read t p) l = same_self l
written_same x (event.Write t p place bytes) l = by (list_any (is_waiting t p) x.replies)
  where
    by : (b : Bool) → SameWorld l (pick b (record l { writing = l.writing ++ record { tx = t; page = p } ∷ [] }) l)
    by true = record { config = refl; up = refl; links = refl; views = refl }
    by false = same_self l
written_same x (event.Commit t) l = same_self l
written_same x (event.Abort t) l = same_self l
written_same x (event.Deliver from to) l = same_self l
written_same x (event.Evict n p) l = same_self l
written_same x (event.Flush n p) l = same_self l
written_same x (event.Crash n) l = same_self l
written_same x (event.View live owners) l = same_self l
written_same x (event.Install n) l = same_self l
written_same x event.Reopen l = same_self l
written_same x (event.Arm n call kept) l = same_self l
written_same x (event.Cut n) l = same_self l

viewed_same : (x : Entry) (e : Event) (l : Ledger) → is_local e ≡ true → SameWorld l (made_view x e l)
viewed_same x (event.Begin n) l local = same_self l
viewed_same x (event.Read t p) l local = same_self l
viewed_same x (event.Write t p place bytes) l local = same_self l
viewed_same x (event.Commit t) l local = same_self l
viewed_same x (event.Abort t) l local = same_self l
viewed_same x (event.Deliver from to) l local = same_self l
viewed_same x (event.Evict n p) l local = same_self l
viewed_same x (event.Flush n p) l local = same_self l
viewed_same x (event.Crash n) l local = same_self l
viewed_same x (event.View live owners) l local = absurd (cc)
viewed_same x (event.Install n) l local = same_self l
viewed_same x event.Reopen l local = absurd (cc)
viewed_same x (event.Arm n call kept) l local = same_self l
viewed_same x (event.Cut n) l local = same_self l

-- before its replies nothing but the head of its link
pub before_same : (x : Entry) (l : Ledger) → is_local x.event ≡ true → SameWorld (without_head x x.event l) (own_write x x.event (made_view x x.event (without_head x x.event l)))
before_same x l local =
    let a : Ledger = without_head x x.event l in
    let b : Ledger = made_view x x.event a in
    same_then a b _ (viewed_same x x.event a local) (written_same x x.event b)

-- an entry of a node's event tells of the whole cluster that the head of a link is gone, or nothing
pub heard_same : (x : Entry) (l : Ledger) → is_local x.event ≡ true → SameWorld (without_head x x.event l) (heard x l)
unfolding heard
heard_same x l local =
    let a : Ledger = without_head x x.event l in
    let b : Ledger = made_view x x.event a in
    let k : Ledger = own_write x x.event b in
    let f : Ledger = fold (hear x.event (actor x.event)) k x.replies in
    let h : Ledger = halt_point x.halted f in
    same_then a b _ (viewed_same x x.event a local)
    (same_then b k _ (written_same x x.event b)
    (same_then k f _ (all_heard_same x.event (actor x.event) x.replies k local)
    (same_then f h _ (halt_same x.halted f) (taken_same (actor x.event) (taken_of x.event x.replies l) h))))
