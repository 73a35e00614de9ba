-- What each part of an entry makes of the granted writes and the versions of a ledger: what its moments tell.
use Rattle.std.proofs.Common.{◌≡◌, refl, ap, sym, ◌∙◌, ℕ, ◌==◌, ◌&&◌, ◌||◌, Bool, true, false, List, [], ◌∷◌, ◌++◌, Option, Some, None, is_some, Result, Ok, Err}
use Rattle.std.specs.List.{list_any, filter, fold, flat_map}
use Rattle.pcl_base.specs.declared.event.Event.{Event}
use Rattle.pcl_base.specs.declared.event.Event.TheVariants as event
use Rattle.pcl_base.specs.declared.reply.Reply.{Reply}
use Rattle.pcl_base.specs.declared.reply.Reply.TheVariants as reply
use Rattle.pcl_base.specs.declared.trace.Entry.{Entry}
use Rattle.pcl_base.specs.declared.trace.Halt.{Halt}
use Rattle.pcl_base.specs.declared.trace.Note.{Note}
use Rattle.pcl_base.specs.declared.trace.Note.TheVariants as note
use Rattle.pcl_base.specs.declared.tx.TxId.{TxId}
use Rattle.run_rules.specs.Words.{pick, same_tx}
use Rattle.run_rules.specs.Views.{View, next, reopen}
use Rattle.run_rules.specs.Ledger as ledger
use Rattle.run_rules.specs.Ledger.{Ledger, Of, is_of, is_want, install, actor, link_at, put_link, tail_of}
use Rattle.run_rules.specs.Taking.{From, taken_of, without_head, made_view, own_write, is_waiting, one_more, wrote, commit_point, commits, aborts, ended_if, install_epoch, install_by, reopen_by, hear, kept_point, halt_point, answered, take, take_if, is_viewed, is_taken, is_dropped}
use Rattle.run_rules.specs.Taking as taking
use Rattle.run_rules.specs.Account.{heard}
use Rattle.run_rules.specs.Script.{Moment, Writes, Commits, asked, is_refused, told, kept_tx, kept, moments_of}

-- the granted writes and the versions of a ledger
pub record Core : Type 0 where
  pub done : List Of
  pub versions : List ℕ

abbrev pub core_of : Ledger → Core
core_of l = record { done = l.done; versions = l.versions }

-- what a moment makes of them
abbrev pub core_after : Core → Moment → Core
core_after k (Writes t p v) = record k { done = pick (list_any (is_of t p) k.done) k.done (k.done ++ record { tx = t; page = p } ∷ []) }
core_after k (Commits t) = record k { versions = fold one_more k.versions (filter (λ x. same_tx x.tx t) k.done) }
core_after k _ = k

abbrev pub cores_after : Core → List Moment → Core
cores_after k ms = fold core_after k ms

pub cores_joined : (k : Core) (ms ns : List Moment) → cores_after k (ms ++ ns) ≡ cores_after (cores_after k ms) ns
cores_joined k [] ns = refl
cores_joined k (m ∷ ms) ns = cores_joined (core_after k m) ms ns

-- ---- what tells nothing of them

take_core : (n from : ℕ) (x : Note) (l : Ledger) → core_of (take n from x l) ≡ core_of l
unfolding take
take_core n from (note.Request t p m have) l = refl
take_core n from (note.Grant t p m right v copy) l = by (t.node == n && list_any (is_want t p m) l.asked)
  where
    by : (b : Bool) → core_of (pick b (answered t p m right l) l) ≡ core_of l
    by true = refl
    by false = refl
take_core n from (note.Release t p change) l = refl
take_core n from (note.Revoke p) l = refl
take_core n from (note.Return p readers) l = refl
take_core n from (note.Report q waits locks rights) l = refl

taken_core : (o : Option ℕ) (f : Option From) (l : Ledger) → core_of (take_if o f l) ≡ core_of l
taken_core None f l = refl
taken_core (Some n) None l = refl
taken_core (Some n) (Some f) l = take_core n f.from f.note l

ended_core : (b : Bool) (t : TxId) (l : Ledger) → core_of (ended_if b t l) ≡ core_of l
ended_core true t l = refl
ended_core false t l = refl

epoch_core : (o : Option ℕ) (e : ℕ) (l : Ledger) → core_of (install_epoch o e l) ≡ core_of l
unfolding install
epoch_core None e l = refl
epoch_core (Some n) e l = refl

installed_core : (e : Event) (o : Option ℕ) (epoch : ℕ) (l : Ledger) → core_of (install_by e o epoch l) ≡ core_of l
installed_core (event.Begin n) o epoch l = refl
installed_core (event.Read t p) o epoch l = refl
installed_core (event.Write t p place bytes) o epoch l = refl
installed_core (event.Commit t) o epoch l = refl
installed_core (event.Abort t) o epoch l = refl
installed_core (event.Deliver a b) o epoch l = refl
installed_core (event.Evict n p) o epoch l = refl
installed_core (event.Flush n p) o epoch l = refl
installed_core (event.Crash n) o epoch l = refl
installed_core (event.View live owners) o epoch l = refl
installed_core (event.Install n) o epoch l = epoch_core o epoch l
installed_core event.Reopen o epoch l = refl
installed_core (event.Arm n call stops) o epoch l = refl
installed_core (event.Cut n) o epoch l = refl

added_core : (up : View → List ℕ) (r : Result View ℕ) (l : Ledger) → core_of (taking.add_view up r l) ≡ core_of l
added_core up (Err rule) l = refl
added_core up (Ok v) l = refl

reopened_core : (e : Event) (l : Ledger) → core_of (reopen_by e l) ≡ core_of l
reopened_core (event.Begin n) l = refl
reopened_core (event.Read t p) l = refl
reopened_core (event.Write t p place bytes) l = refl
reopened_core (event.Commit t) l = refl
reopened_core (event.Abort t) l = refl
reopened_core (event.Deliver a b) l = refl
reopened_core (event.Evict n p) l = refl
reopened_core (event.Flush n p) l = refl
reopened_core (event.Crash n) l = refl
reopened_core (event.View live owners) l = refl
reopened_core (event.Install n) l = refl
reopened_core event.Reopen l = added_core (λ v. ledger.all_nodes l) (reopen l.config (ledger.last_view l)) l
reopened_core (event.Arm n call stops) l = refl
reopened_core (event.Cut n) l = refl

written_core : (x : Entry) (e : Event) (l : Ledger) → core_of (own_write x e l) ≡ core_of l
written_core x (event.Begin n) l = refl
written_core x (event.Read t p) l = refl
written_core x (event.Write t p place bytes) l = by (list_any (is_waiting t p) x.replies)
  where
    by : (b : Bool) → core_of (pick b (record l { writing = l.writing ++ record { tx = t; page = p } ∷ [] }) l) ≡ core_of l
    by true = refl
    by false = refl
written_core x (event.Commit t) l = refl
written_core x (event.Abort t) l = refl
written_core x (event.Deliver a b) l = refl
written_core x (event.Evict n p) l = refl
written_core x (event.Flush n p) l = refl
written_core x (event.Crash n) l = refl
written_core x (event.View live owners) l = refl
written_core x (event.Install n) l = refl
written_core x event.Reopen l = refl
written_core x (event.Arm n call stops) l = refl
written_core x (event.Cut n) l = refl

viewed_core : (x : Entry) (e : Event) (l : Ledger) → core_of (made_view x e l) ≡ core_of l
viewed_core x (event.Begin n) l = refl
viewed_core x (event.Read t p) l = refl
viewed_core x (event.Write t p place bytes) l = refl
viewed_core x (event.Commit t) l = refl
viewed_core x (event.Abort t) l = refl
viewed_core x (event.Deliver a b) l = refl
viewed_core x (event.Evict n p) l = refl
viewed_core x (event.Flush n p) l = refl
viewed_core x (event.Crash n) l = refl
viewed_core x (event.View live owners) l = by (list_any is_viewed x.replies)
  where
    k : Ledger
    k = taking.add_view (λ v. ledger.returning (ledger.last_view l) v (ledger.all_nodes l)) (next l.config (ledger.last_view l) live owners) l

    by : (b : Bool) → core_of (pick b k l) ≡ core_of l
    by true = added_core (λ v. ledger.returning (ledger.last_view l) v (ledger.all_nodes l)) (next l.config (ledger.last_view l) live owners) l
    by false = refl
viewed_core x (event.Install n) l = refl
viewed_core x event.Reopen l = refl
viewed_core x (event.Arm n call stops) l = refl
viewed_core x (event.Cut n) l = refl

head_core : (x : Entry) (e : Event) (l : Ledger) → core_of (without_head x e l) ≡ core_of l
head_core x (event.Begin n) l = refl
head_core x (event.Read t p) l = refl
head_core x (event.Write t p place bytes) l = refl
head_core x (event.Commit t) l = refl
head_core x (event.Abort t) l = refl
head_core x (event.Deliver a b) l = by (list_any (λ r. is_taken r || is_dropped r) x.replies || is_some x.halted)
  where
    k : Ledger
    k = record l { links = put_link l.links a b (tail_of (link_at l.links a b)) }

    by : (y : Bool) → core_of (pick y k l) ≡ core_of l
    by true = refl
    by false = refl
head_core x (event.Evict n p) l = refl
head_core x (event.Flush n p) l = refl
head_core x (event.Crash n) l = refl
head_core x (event.View live owners) l = refl
head_core x (event.Install n) l = refl
head_core x event.Reopen l = refl
head_core x (event.Arm n call stops) l = refl
head_core x (event.Cut n) l = refl

-- ---- replies and halts

hear_core : (e : Event) (o : Option ℕ) (l : Ledger) (r : Reply) → core_of (hear e o l r) ≡ cores_after (core_of l) (told r)
unfolding hear wrote commit_point
hear_core e o l (reply.Begun t) = refl
hear_core e o l (reply.Committed t) = ended_core (commits e t) t (commit_point t l)
hear_core e o l (reply.Aborted t) = ended_core (aborts e t) t l
hear_core e o l (reply.Value t p v bytes) = refl
hear_core e o l (reply.Done t p v) = refl
hear_core e o l (reply.Waits t p) = refl
hear_core e o l reply.Taken = refl
hear_core e o l reply.Held = refl
hear_core e o l reply.Dropped = refl
hear_core e o l reply.Evicted = refl
hear_core e o l reply.Flushed = refl
hear_core e o l reply.Crashed = refl
hear_core e o l reply.Armed = refl
hear_core e o l (reply.Cut n) = refl
hear_core e o l (reply.Viewed n) = refl
hear_core e o l (reply.Installed n) = installed_core e o n l
hear_core e o l (reply.Reopened n) = reopened_core e l
hear_core e o l (reply.Serving q) = refl
hear_core e o l (reply.Refused x) = refl

replies_core : (e : Event) (o : Option ℕ) (rs : List Reply) (l : Ledger) → core_of (fold (hear e o) l rs) ≡ cores_after (core_of l) (flat_map told rs)
replies_core e o [] l = refl
replies_core e o (r ∷ rs) l =
    replies_core e o rs (hear e o l r) ∙ ap (λ k. cores_after k (flat_map told rs)) (hear_core e o l r) ∙ sym (cores_joined (core_of l) (told r) (flat_map told rs))

pointed_core : (o : Option TxId) (l : Ledger) → core_of (kept_point o l) ≡ cores_after (core_of l) (kept_tx o)
unfolding commit_point
pointed_core None l = refl
pointed_core (Some t) l = refl

halt_core : (h : Option Halt) (l : Ledger) → core_of (halt_point h l) ≡ cores_after (core_of l) (kept h)
halt_core None l = refl
halt_core (Some h) l = pointed_core h.kept l

-- ---- an entry

-- what an event asks for tells nothing of them
asked_core : (b : Bool) (e : Event) (k : Core) → cores_after k (pick b [] (asked e)) ≡ k
asked_core true e k = refl
asked_core false (event.Begin n) k = refl
asked_core false (event.Read t p) k = refl
asked_core false (event.Write t p place bytes) k = refl
asked_core false (event.Commit t) k = refl
asked_core false (event.Abort t) k = refl
asked_core false (event.Deliver a b) k = refl
asked_core false (event.Evict n p) k = refl
asked_core false (event.Flush n p) k = refl
asked_core false (event.Crash n) k = refl
asked_core false (event.View live owners) k = refl
asked_core false (event.Install n) k = refl
asked_core false event.Reopen k = refl
asked_core false (event.Arm n call stops) k = refl
asked_core false (event.Cut n) k = refl

pub moments_core : (x : Entry) (k : Core) → cores_after k (moments_of x) ≡ cores_after (cores_after k (flat_map told x.replies)) (kept x.halted)
unfolding moments_of
moments_core x k =
    cores_joined k (pick (is_refused x) [] (asked x.event)) (flat_map told x.replies ++ kept x.halted)
    ∙ ap (λ j. cores_after j (flat_map told x.replies ++ kept x.halted)) (asked_core (is_refused x) x.event k)
    ∙ cores_joined k (flat_map told x.replies) (kept x.halted)

pub heard_core : (x : Entry) (l : Ledger) → core_of (heard x l) ≡ cores_after (core_of l) (moments_of x)
unfolding heard
heard_core x l =
    let a : Ledger = without_head x x.event l in
    let b : Ledger = made_view x x.event a in
    let k : Ledger = own_write x x.event b in
    let f : Ledger = fold (hear x.event (actor x.event)) k x.replies in
    let before : core_of k ≡ core_of l = written_core x x.event b ∙ viewed_core x x.event a ∙ head_core x x.event l in
    taken_core (actor x.event) (taken_of x.event x.replies l) (halt_point x.halted f)
    ∙ halt_core x.halted f
    ∙ ap (λ j. cores_after j (kept x.halted)) (replies_core x.event (actor x.event) x.replies k ∙ ap (λ j. cores_after j (flat_map told x.replies)) before)
    ∙ sym (moments_core x (core_of l))
