-- The memory and the frames of an access, once it is done or waits.
use Rattle.std.proofs.Common.{◌≡◌, ℕ, ◌+◌, ◌<◌, ◌≤◌, ◌&&◌, ◌||◌, not, Bool, true, false, [], IfSome, Option, Some, None, is_some, refl, ap, sym, subst, ◌∙◌, arith, List, ◌⊎◌, inl, inr}
use Rattle.std.specs.Prelude.{Result, Ok, Err, OnOk, OnErr, IfOk}
use Rattle.pcl_base.specs.declared.tx.TxId.{TxId}
use Rattle.pcl_base.specs.declared.tx.Mode.TheVariants.{Shared}
use Rattle.pcl_base.specs.declared.lock.Kind.TheVariants as kind
use Rattle.node_rules.specs.OpenTxs.{held_by, wait, add}
use Rattle.node_rules.specs.Shelf.{Right}
use Rattle.node_rules.specs.BufferRule.{Pool, Slot, Copy, slot_at, copy_at, version_of_copy, find, pin}
use Rattle.node_rules.specs.NodeState.{HomeState}
use Rattle.node_rules.specs.AccessRule.{Access, mode_of_write, is_held, perform, waiting, take_frames, under_right, is_allowed, has_version, Next as NextRule, Now as now}
use Rattle.tx_table.specs.Counts.{wait_count}
use Rattle.home_laws.specs.Homes.{IsHome, is_exclusive_lock, is_write_of, pins_of}
use Rattle.home_laws.proofs.Allowed.{MayAccess}
use Rattle.home_laws.proofs.Covering.{uncovered_exclusive, or_false}
use Rattle.home_laws.proofs.Needs.{pins_few}
use Rattle.home_laws.proofs.Waits.{waiting_waits_more, locked_waits_same}
use Rattle.home_laws.proofs.Frames.{frames_home}
use Rattle.pcl_base.specs.declared.reply.Reply.{Reply}
use Rattle.pcl_base.specs.declared.fault.NoMemory.{NoMemory as Wanting}
use Rattle.pcl_base.specs.declared.trace.Call.{Call}
use Rattle.pcl_base.specs.declared.trace.Call.TheVariants as call
use Rattle.node_rules.specs.DiskCalls.{DiskCall}
use Rattle.node_rules.specs.Work.{with_pool}
use Rattle.home_laws.proofs.Tests.{and_right}
use Rattle.home.specs.declared.fault.HomeFault.{HomeFault}
use Rattle.home.specs.declared.fault.HomeFault.TheVariants.{Refused, Failed, Differs, NoMemory}
use Rattle.home.specs.declared.access.Next.{Next}
use Rattle.home.specs.Answers.{refused_as, home_after, Leaves, answer_if}
use Rattle.home.specs.Asked.{next_as, done_as}
use Rattle.home.specs.Device.{work_on, Told, Made, MadeIf}
use Rattle.home.specs.Parts.{PartsView, HasMemory, IsPrepared, KeepsMemory, MayTakeFrames}

pub if_ok : {T E : Type 0} {P Q : T → Type 0} (r : Result T E) → IfOk r P → ((x : T) → P x → Q x) → IfOk r Q
if_ok (Ok x) p f = f x p
if_ok (Err e) p f = tt

-- what a granted access does to the open transactions: nothing
pub perform_txs : (t : TxId) (p : ℕ) (write : Option (ℕ × List ℕ)) (h : HomeState) → (perform t p write (work_on h)).work.home.txs ≡ h.txs
unfolding perform
perform_txs t p None h = refl
perform_txs t p (Some w) h = refl

-- the memory stays where the open transactions do
pub prepared_as : (old new : PartsView) (h : HomeState) → IsPrepared old → new ≡ record old { home = h } → h.txs ≡ old.home.txs → IsPrepared new
prepared_as old new h prepared same txs =
    let now : PartsView = record old { home = h } in
    let memory : HasMemory (wait_count h.txs.txs) now =
    subst (λ n. HasMemory n now) (ap (λ s. wait_count s.txs) (sym txs)) (record { rights = prepared.0.rights; places = prepared.0.places; replies = prepared.0.replies }) in
    subst IsPrepared (sym same) (memory, prepared.1 ∙ ap (λ s. s.node) (sym txs))

-- the memory for one more grant is enough for the places of a write
less : (old mid : PartsView) (h : HomeState) (places : ℕ) → IsPrepared old → mid.home ≡ old.home → KeepsMemory old mid → HasMemory (wait_count old.home.txs.txs + 1) mid → mid.places ≤ places + 1 → h.txs ≡ old.home.txs
    → IsPrepared (record mid { home = h; places = places })
less old mid h places prepared same keeps memory room txs =
    let count = ap (λ s. wait_count s.txs) txs in
    let rights = memory.rights in
    let replies = memory.replies in
    let most = memory.places in (
      record { rights = omega (arith, count, rights); places = omega (arith, count, most, room); replies = omega (arith, count, replies) },
      keeps.node ∙ prepared.1 ∙ ap (λ s. s.node) (sym txs),
    )

pub write_prepared : {T E : Type 0} (t : TxId) (p : ℕ) (write : Option (ℕ × List ℕ)) (old mid new : PartsView) (r : Result T E) → IsPrepared old → mid.home ≡ old.home → KeepsMemory old mid → HasMemory (wait_count old.home.txs.txs + 1) mid
    → OnOk r (new ≡ record mid { home = (perform t p write (work_on mid.home)).work.home; places = new.places }) → OnErr r (new ≡ record mid { places = new.places }) → mid.places ≤ new.places + 1 → IsPrepared new
write_prepared t p write old mid new (Ok x) prepared same keeps memory done failed room =
    subst IsPrepared (sym done) (less old mid (perform t p write (work_on mid.home)).work.home new.places prepared same keeps memory room (perform_txs t p write mid.home ∙ ap (λ h. h.txs) same))
write_prepared t p write old mid new (Err e) prepared same keeps memory done failed room =
    subst IsPrepared (sym failed) (less old mid mid.home new.places prepared same keeps memory room (ap (λ h. h.txs) same))

-- the same where the memory was wanting
pub kept_prepared : (old mid : PartsView) → IsPrepared old → mid.home ≡ old.home → KeepsMemory old mid → IsPrepared mid
kept_prepared old mid prepared same keeps =
    let count = ap (λ (h : HomeState). wait_count h.txs.txs) same in
    let rights = prepared.0.rights in
    let places = prepared.0.places in
    let replies = prepared.0.replies in
    let r = keeps.rights in
    let p = keeps.places in
    let q = keeps.replies in (
      record { rights = omega (arith, count, rights, r); places = omega (arith, count, places, p); replies = omega (arith, count, replies, q) },
      keeps.node ∙ prepared.1 ∙ ap (λ (h : HomeState). h.txs.node) (sym same),
    )

-- the frames of an access that waits
pub may_take : (a : Access) (h : HomeState) → IsHome h → MayAccess a h → is_held a h ≡ false → MayTakeFrames a h.config h.pool
may_take a h home may free = record {
  sound = home.buffer;
  size = home.sizes.1;
  page = may.page;
  fits = may.fits;
  none =
      home.privates a.tx a.page ∙ ap (λ w. is_exclusive_lock (held_by h.txs a.tx a.page) || is_write_of w a.page) may.idle
      ∙ or_false (is_exclusive_lock (held_by h.txs a.tx a.page)) ∙ uncovered_exclusive (held_by h.txs a.tx a.page) (mode_of_write a.write) free;
  go = λ k d lt e. (home.kept k d lt, home.below k d lt);
  below = home.below;
  few = pins_few h a.page home;
}

wait_node : (a : Access) (h : HomeState) → h.txs.node ≡ (waiting a h).txs.node
unfolding wait
wait_node a h = refl

-- the memory of an access that waits
pub wait_prepared : (a : Access) (old mid entered new : PartsView) → IsHome old.home → MayAccess a old.home → IsPrepared old → mid.home ≡ old.home → KeepsMemory old mid → HasMemory (wait_count old.home.txs.txs + 1) mid
    → entered ≡ record mid { home = waiting a mid.home } → new ≡ record entered { home = (take_frames a (work_on entered.home)).home } → IsPrepared new
wait_prepared a old mid entered new home may prepared same keeps memory enters takes =
    let more = waiting_waits_more old.home a.tx (record { page = a.page; mode = mode_of_write a.write; write = a.write }) home may.there may.idle in
    let txs : entered.home.txs ≡ (waiting a old.home).txs = ap (λ v. v.home.txs) enters ∙ ap (λ h. (waiting a h).txs) same in
    let frames : (take_frames a (work_on entered.home)).home.txs ≡ entered.home.txs = ap (λ h. h.txs) (frames_home a (work_on entered.home)) in
    let count = ap (λ s. wait_count s.txs) (frames ∙ txs) in
    let rights = memory.rights in
    let places = memory.places in
    let replies = memory.replies in
    let kept_rights = ap (λ v. v.rights) enters in
    let kept_places = ap (λ v. v.places) enters in
    let kept_replies = ap (λ v. v.replies) enters in
    let node = ap (λ v. v.node) enters ∙ keeps.node ∙ prepared.1 in
    subst IsPrepared (sym takes) (
      record { rights = omega (arith, count, more, rights, kept_rights); places = omega (arith, count, more, places, kept_places); replies = omega (arith, count, more, replies, kept_replies) },
      node ∙ wait_node a old.home ∙ sym (ap (λ s. s.node) (frames ∙ txs)),
    )

-- the memory after a read under the right
right_node : (t : TxId) (p : ℕ) (h : HomeState) → h.txs.node ≡ (under_right t p h).txs.node
unfolding add
right_node t p h = refl

pub right_prepared : (a : Access) (old mid added new : PartsView) (h : HomeState) → IsHome old.home → MayAccess a old.home → IsPrepared old → mid.home ≡ old.home → KeepsMemory old mid → HasMemory (wait_count old.home.txs.txs + 1) mid
    → added.places ≡ mid.places → added.replies ≡ mid.replies → added.node ≡ mid.node → mid.rights ≤ added.rights + 1 → new ≡ record added { home = h } → (h.txs ≡ (under_right a.tx a.page old.home).txs) ⊎ (h.txs ≡ old.home.txs) → IsPrepared new
right_prepared a old mid added new h home may prepared same keeps memory places replies node room made (inl txs) =
    let waits = locked_waits_same old.home a.tx (record { page = a.page; mode = Shared; kind = kind.Right }) home may.there may.idle in
    let count = ap (λ s. wait_count s.txs) txs in
    let r = memory.rights in
    let p = memory.places in
    let q = memory.replies in
    subst IsPrepared (sym made) (
      record { rights = omega (arith, count, waits, r, room); places = omega (arith, count, waits, p, places); replies = omega (arith, count, waits, q, replies) },
      node ∙ keeps.node ∙ prepared.1 ∙ right_node a.tx a.page old.home ∙ sym (ap (λ s. s.node) txs),
    )
right_prepared a old mid added new h home may prepared same keeps memory places replies node room made (inr txs) =
    let count = ap (λ s. wait_count s.txs) txs in
    let r = memory.rights in
    let p = memory.places in
    let q = memory.replies in
    subst IsPrepared (sym made) (
      record { rights = omega (arith, count, r, room); places = omega (arith, count, p, places); replies = omega (arith, count, q, replies) },
      node ∙ keeps.node ∙ prepared.1 ∙ sym (ap (λ s. s.node) txs),
    )

-- a slot has few pins
pub few_pins : (h : HomeState) (p : ℕ) → IsHome h → IfSome (slot_at h.pool p) (λ s. s.pins < 4294967295)
few_pins h p home = few (slot_at h.pool p) (pins_few h p home)
  where
    few : (o : Option Slot) → pins_of o ≤ 1024 → IfSome o (λ s. s.pins < 4294967295)
    few None le = tt
    few (Some s) le = omega (arith, le)

-- a page whose right's version the copy has
version_copy : (shelf : List Right) (p : ℕ) (o : Option Copy) → has_version shelf p (version_of_copy o) ≡ true → is_some o ≡ true
version_copy shelf p None e = absurd (cc)
version_copy shelf p (Some c) e = refl

pub allowed_copy : (a : Access) (owned : Bool) (h : HomeState) → is_allowed a owned h ≡ true → is_some (copy_at h.pool a.page) ≡ true
allowed_copy a owned h e =
    version_copy h.shelf a.page (copy_at h.pool a.page)
    (and_right (not (is_some a.write)) (has_version h.shelf a.page (find h.pool a.page)) (and_right (not owned) (not (is_some a.write) && has_version h.shelf a.page (find h.pool a.page)) e))

pub pin_size : (b : Pool) (p : ℕ) → (pin b p).size ≡ b.size
unfolding pin
pin_size b p = refl

-- the home with a reader under the right
pub right_home : (t : TxId) (p : ℕ) (pinned added mid : PartsView) (h : HomeState) → pinned ≡ record added { home = with_pool added.home (pin added.home.pool p) }
    → added ≡ record mid { home = under_right t p mid.home; marks = added.marks; rights = added.rights } → mid.home ≡ h → pinned.home ≡ under_right t p (with_pool h (pin h.pool p))
right_home t p pinned added mid h pins adds same =
    ap (λ v. v.home) pins ∙ ap (λ v. with_pool v.home (pin v.home.pool p)) adds ∙ ap (λ k. with_pool (under_right t p k) (pin k.pool p)) same

-- the answer of an access that was done at once
pub done_refused : (r : Result Reply Wanting) → refused_as (done_as r) ≡ None
done_refused (Ok x) = refl
done_refused (Err e) = refl

pub done_next : (r : Result Reply Wanting) (x : NextRule) → IfOk r (λ y. x ≡ now y) → IfOk (done_as r) (λ n. next_as n ≡ x)
done_next (Ok y) x e = sym e
done_next (Err f) x e = tt

pub done_home : (r : Result Reply Wanting) (old new h : HomeState) → OnOk r (new ≡ h) → OnErr r (new ≡ old) → new ≡ home_after (done_as r) old h
done_home (Ok x) old new h done failed = done
done_home (Err e) old new h done failed = failed

pub done_cause : (r : Result Reply Wanting) (k : Call) (kept : Bool) → done_as r ≡ Err (Failed k kept) → ⊥
done_cause (Ok x) k kept e = cc
done_cause (Err f) k kept e = cc

-- a granted access makes no call
pub perform_calls : (t : TxId) (p : ℕ) (write : Option (ℕ × List ℕ)) (h : HomeState) → (perform t p write (work_on h)).work.calls ≡ []
unfolding perform
perform_calls t p None h = refl
perform_calls t p (Some w) h = refl

-- what holds of a home after an answer
pub after_home : {T : Type 0} (r : Result T HomeFault) (old new h : HomeState) → new ≡ home_after r old h → IsHome old → IsHome h → IsHome new
after_home {T} r old new h same was is = subst IsHome (sym same) (of r)
  where
    of : (x : Result T HomeFault) → IsHome (home_after x old h)
    of (Ok y) = is
    of (Err (Refused e)) = was
    of (Err (Failed k kept)) = is
    of (Err (Differs p expected found)) = is
    of (Err NoMemory) = was

-- what became of the calls by an answer
pub done_leaves : (n : ℕ) (r : Result Reply Wanting) (x : Result Next HomeFault) (calls : List DiskCall) (old : Told) → x ≡ done_as r → calls ≡ [] → Leaves n x calls old old
done_leaves n r x calls old same none = subst (λ y. Leaves n y calls old old) (sym same) (subst (λ l. Leaves n (done_as r) l old old) (sym none) (of r))
  where
    of : (y : Result Reply Wanting) → Leaves n (done_as y) [] old old
    of (Ok reply) = refl
    of (Err e) = refl

pub failed_made : (n : ℕ) (d : Bool) (calls : List DiskCall) (old new : Told) → d ≡ false → MadeIf n true d calls old new → Made n calls old (Some call.Write) new
failed_made n true calls old new e made = absurd (cc)
failed_made n false calls old new e made = made

pub done_made : (n : ℕ) (d : Bool) (calls : List DiskCall) (old new : Told) → d ≡ true → MadeIf n true d calls old new → Made n calls old None new
done_made n true calls old new e made = made
done_made n false calls old new e made = absurd (cc)

-- the same of a node of another name, and of the same calls by another name
pub leaves_as : {T : Type 0} (n m : ℕ) (x : Result T HomeFault) (cs ds : List DiskCall) (old new : Told) → n ≡ m → cs ≡ ds → Leaves m x ds old new → Leaves n x cs old new
leaves_as n m x cs ds old new node same made = subst (λ l. Leaves n x l old new) (sym same) (subst (λ k. Leaves k x ds old new) (sym node) made)

pub ended_leaves : {T : Type 0} (n : ℕ) (d : Bool) (y : T) (x : Result T HomeFault) (calls : List DiskCall) (old new : Told) → x ≡ answer_if d y → MadeIf n true d calls old new → Leaves n x calls old new
ended_leaves n true y x calls old new same made = subst (λ z. Leaves n z calls old new) (sym same) made
ended_leaves n false y x calls old new same made = subst (λ z. Leaves n z calls old new) (sym same) (refl, made)
