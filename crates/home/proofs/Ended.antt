-- What a grant that is waited for needs and leaves.
use Rattle.std.proofs.Common.{◌≡◌, ℕ, ◌+◌, ◌≤◌, true, false, List, [], length, Option, Some, None, is_some, IfSome, Result, Ok, Err, refl, ap, sym, subst, ◌∙◌, arith}
use Rattle.std.specs.Prelude.{OnOk, IfOk, OnErr}
use Rattle.pcl_base.specs.declared.tx.TxId.{TxId}
use Rattle.pcl_base.specs.declared.lock.Held.{Held}
use Rattle.pcl_base.specs.declared.reply.Reply.{Reply}
use Rattle.node_rules.specs.OpenTxs.{held_by, pending_of, waits_as, add}
use Rattle.node_rules.specs.BufferRule.{install, find, has_slot}
use Rattle.node_rules.specs.CopyRule.{is_version}
use Rattle.node_rules.specs.NodeState.{HomeState, runs_at}
use Rattle.node_rules.specs.Work.{HomeWork, Outcome, Goes, Differs, with_pool}
use Rattle.node_rules.specs.AccessRule.{Granted, bring, clean_copy, perform, locked, write_of, granted}
use Rattle.tx_table.specs.Counts.{wait_count}
use Rattle.home_laws.specs.Homes.{IsHome, AreWrittenRuns, is_right_kind}
use Rattle.home_laws.proofs.Brought.{HasBrought, bring_is}
use Rattle.home_laws.proofs.Covering.{uncovered_exclusive}
use Rattle.home_laws.proofs.Granted.{awaited, granted_sound}
use Rattle.home_laws.proofs.GrantNeeds.{granted_waits, granted_may_do}
use Rattle.home_laws.proofs.Waits.{granted_waits_less}
use Rattle.home.specs.declared.fault.HomeFault.{HomeFault}
use Rattle.home.specs.Device.{work_on}
use Rattle.home.specs.Grants.{PutsBytes, brought, outcome, ByImage, MayEnd}
use Rattle.home.specs.Parts.{PartsView, IsPrepared}
use Rattle.home.proofs.Granting.{bring_current, bring_image}

-- the image that stands for the content: the given one, or some bytes that were read
pub by_given : {X : Type 0} (x : X) (p version : ℕ) (image : Option (List ℕ)) (h : HomeState) → IfSome image (λ b. length b ≡ h.config.size) → is_version (find h.pool p) version ≡ true
    → ByImage p version image (λ i. brought x (bring p version i (work_on h))) h x h
by_given x p version image h size current = record {
  image = image;
  stands = record { same = λ e. refl; size = size; there = λ e. absurd (cc) };
  goes = ap (brought x) (bring_current p version image (work_on h) current);
}

pub by_bytes : {X : Type 0} (x : X) (p version : ℕ) (given : Option (List ℕ)) (bytes : List ℕ) (h new : HomeState) → (is_some given ≡ true → Some bytes ≡ given) → length bytes ≡ h.config.size
    → is_version (find h.pool p) version ≡ false → new ≡ with_pool h (install h.pool p (clean_copy (record { version = version; bytes = bytes })))
    → ByImage p version given (λ i. brought x (bring p version i (work_on h))) h x new
by_bytes {X = X} x p version given bytes h new same size other is = record {
  image = Some bytes;
  stands = record { same = same; size = size; there = λ e. refl };
  goes = ap (brought x) (bring_image p version bytes (work_on h) other) ∙ ap (λ k. (let z : Outcome (X × HomeState) = Goes (x, k) in z)) (sym is);
}

-- what was brought by an image
pub record Came (p : ℕ) (h mid : HomeState) : Type 0 where
  pub done : HomeWork
  pub has : HasBrought p (work_on h) done
  pub home : done.home ≡ mid

pub came : {X : Type 0} (x y : X) (p version : ℕ) (given : Option (List ℕ)) (h mid : HomeState) → IsHome h → has_slot h.pool p ≡ true
    → ByImage p version given (λ i. brought x (bring p version i (work_on h))) h y mid → Came p h mid
came {X = X} x y p version given h mid home slot by_image = by (bring p version by_image.image (work_on h)) refl by_image.goes
  where
    by : (o : Outcome HomeWork) → bring p version by_image.image (work_on h) ≡ o → brought x o ≡ Goes (y, mid) → Came p h mid
    by (Goes w) e f =
        let same : (let z : X × HomeState = (x, w.home) in z) ≡ (y, mid) = cc in
        record {
          done = w;
          has = bring_is p version by_image.image (work_on h) w home.buffer slot home.sizes.1 by_image.stands.size (λ other none. let there = by_image.stands.there other in absurd (cc)) e;
          home = ap (λ z. z.1) same;
        }
    by (Differs q m n) e f = absurd (cc)

-- what a grant needs, once its page was brought
module _ (t : TxId) (l : Held) (old new : PartsView) (home : IsHome old.home) (prepared : IsPrepared old) (waits : waits_as (pending_of old.home.txs t) l.page l.mode ≡ true)
    (same : new ≡ record old { home = with_pool old.home new.home.pool }) (was : Came l.page old.home new.home) where
  abbrev h : HomeState
  h = old.home

  is_pool : was.has.pool ≡ new.home.pool
  is_pool = ap (λ k. k.pool) (sym was.has.home ∙ was.home)

  home_is : new.home ≡ with_pool h was.has.pool
  home_is = sym was.home ∙ was.has.home

  waiting_less : wait_count (add h.txs t l).txs + 1 ≡ wait_count h.txs.txs
  waiting_less = granted_waits_less h t l home (granted_waits h t l home waits)

  not_written : is_some (write_of (pending_of h.txs t)) ≡ true → runs_at h.written t l.page ≡ []
  not_written e =
      let is = awaited h t l home waits in
      subst (λ d. AreWrittenRuns h.config.size d (runs_at h.written t l.page)) (uncovered_exclusive (held_by h.txs t l.page) is.access.mode is.uncovered) (home.runs t l.page)

  pub may_end : MayEnd t l.page new
  may_end = subst (MayEnd t l.page) (sym same ∙ refl) (subst (λ (k : HomeState). MayEnd t l.page (record old { home = k })) (ap (with_pool h) is_pool) ends)
    where
      ends : MayEnd t l.page (record old { home = with_pool h was.has.pool })
      ends = record {
        sound = was.has.brought.buffer;
        size = was.has.brought.size ∙ home.sizes.1;
        waits = granted_waits h t l home waits;
        may = granted_may_do h t l home waits was.has.pool was.has.brought.there (was.has.brought.size ∙ home.sizes.1) was.has.brought.privates;
        first = not_written;
        places = let a = waiting_less in let b = prepared.0.places in omega (arith, a, b);
        replies = let a = waiting_less in let b = prepared.0.replies in omega (arith, a, b);
      }

  -- the memory after it
  locked_txs : (write : Option (ℕ × List ℕ)) (k : HomeState) → (locked t l write (work_on k)).work.home.txs ≡ add k.txs t l
  unfolding perform
  locked_txs None k = refl
  locked_txs (Some w) k = refl

  txs_node : (s : HomeState) → (add s.txs t l).node ≡ s.txs.node
  unfolding add
  txs_node s = refl

  module _ (write : Option (ℕ × List ℕ)) (end : PartsView) (made : end.home ≡ (locked t l write (work_on new.home)).work.home)
      (kept : end ≡ record new { home = end.home; places = end.places; replies = end.replies }) (places : new.places ≤ end.places + 1) (replies : new.replies ≤ end.replies + 1) where
    end_txs : end.home.txs ≡ add h.txs t l
    end_txs = ap (λ k. k.txs) made ∙ locked_txs write new.home ∙ ap (λ (k : HomeState). add k.txs t l) home_is

    end_count : wait_count end.home.txs.txs + 1 ≡ wait_count h.txs.txs
    end_count = ap (λ s. wait_count s.txs + 1) end_txs ∙ waiting_less

    end_rights : end.rights ≡ old.rights
    end_rights = ap (λ v. v.rights) kept ∙ ap (λ v. v.rights) same

    -- the memory for one more right is left
    pub ended_right : wait_count end.home.txs.txs + 1 ≤ end.rights
    ended_right =
        let count = end_count in
        let a = prepared.0.rights in
        let r = end_rights in
        omega (arith, count, a, r)

    pub ended_prepared : IsPrepared end
    ended_prepared =
        let count = end_count in
        let a = prepared.0.rights in
        let b = prepared.0.places in
        let c = prepared.0.replies in
        let r = end_rights in
        let p = ap (λ v. v.places) same in
        let q = ap (λ v. v.replies) same in (
          record { rights = omega (arith, count, a, r); places = omega (arith, count, b, p, places); replies = omega (arith, count, c, q, replies) },
          ap (λ v. v.node) kept ∙ ap (λ v. v.node) same ∙ prepared.1 ∙ sym (txs_node h) ∙ ap (λ s. s.node) (sym end_txs),
        )

-- a grant leaves the rights as they are
locked_shelf : (t : TxId) (l : Held) (write : Option (ℕ × List ℕ)) (h : HomeState) → (locked t l write (work_on h)).work.home.shelf ≡ h.shelf
unfolding perform
locked_shelf t l None h = refl
locked_shelf t l (Some w) h = refl

pub ended_shelf : (t : TxId) (l : Held) (write : Option (ℕ × List ℕ)) (old new end : PartsView) → new ≡ record old { home = with_pool old.home new.home.pool }
    → end.home ≡ (locked t l write (work_on new.home)).work.home → end.home.shelf ≡ old.home.shelf
ended_shelf t l write old new end same made = ap (λ k. k.shelf) made ∙ locked_shelf t l write new.home ∙ ap (λ v. v.home.shelf) same

-- and adds its lock
lock_added : (t : TxId) (l : Held) (write : Option (ℕ × List ℕ)) (h : HomeState) → (locked t l write (work_on h)).work.home.txs ≡ add h.txs t l
unfolding perform
lock_added t l None h = refl
lock_added t l (Some w) h = refl

pub ended_txs : (t : TxId) (l : Held) (write : Option (ℕ × List ℕ)) (old new end : PartsView) → new ≡ record old { home = with_pool old.home new.home.pool }
    → end.home ≡ (locked t l write (work_on new.home)).work.home → end.home.txs ≡ add old.home.txs t l
ended_txs t l write old new end same made = ap (λ k. k.txs) made ∙ lock_added t l write new.home ∙ ap (λ v. add v.home.txs t l) same

-- the lock comes with the access or after it
pub locked_after : (t : TxId) (l : Held) (write : Option (ℕ × List ℕ)) (h : HomeState) → (locked t l write (work_on h)).work.home
    ≡ record ((perform t l.page write (work_on h)).work.home) { txs = add (perform t l.page write (work_on h)).work.home.txs t l }
unfolding perform
locked_after t l None h = refl
locked_after t l (Some w) h = refl

pub locked_answer : (t : TxId) (l : Held) (write : Option (ℕ × List ℕ)) (h : HomeState) → (locked t l write (work_on h)).reply ≡ (perform t l.page write (work_on h)).reply
unfolding perform
locked_answer t l None h = refl
locked_answer t l (Some w) h = refl

pub performed_txs : (t : TxId) (p : ℕ) (write : Option (ℕ × List ℕ)) (h : HomeState) → (perform t p write (work_on h)).work.home.txs ≡ h.txs
unfolding perform
performed_txs t p None h = refl
performed_txs t p (Some w) h = refl

-- the home after a grant by a lock that isn't under a right
pub own_sound : (t : TxId) (l : Held) (version : ℕ) (given : Option (List ℕ)) (h new : HomeState) (r : Reply) → IsHome h → waits_as (pending_of h.txs t) l.page l.mode ≡ true → is_right_kind l.kind ≡ false
    → ByImage l.page version given (λ i. outcome (granted t l version i (work_on h))) h r new → IsHome new
own_sound t l version given h new r home waits other by_image = by (granted t l version by_image.image (work_on h)) refl by_image.goes
  where
    by : (o : Outcome Granted) → granted t l version by_image.image (work_on h) ≡ o → outcome o ≡ Goes (r, new) → IsHome new
    by (Goes g) e f =
        let same : (let z : Reply × HomeState = (g.reply, g.work.home) in z) ≡ (r, new) = cc in
        subst IsHome (ap (λ z. z.1) same)
        (granted_sound t l version by_image.image (work_on h) g home waits other by_image.stands.size (λ apart none. let there = by_image.stands.there apart in absurd (cc)) e)
    by (Differs q m n) e f = absurd (cc)

-- the page was read
pub read_image : {X : Type 0} (x : X) (p version : ℕ) (given : Option (List ℕ)) (r : Result X HomeFault) (h new : HomeState) → ((y : X) → y ≡ x) → given ≡ None → h.pool.size ≡ h.config.size
    → is_version (find h.pool p) version ≡ false → new ≡ with_pool h new.pool → OnOk r (PutsBytes p version h.pool new.pool)
    → IfOk r (λ y. ByImage p version given (λ i. brought x (bring p version i (work_on h))) h y new)
read_image x p version given (Err e) h new one none size other same puts = tt
read_image x p version given (Ok y) h new one none size other same puts =
    subst (λ z. ByImage p version given (λ i. brought x (bring p version i (work_on h))) h z new) (sym (one y))
    (by_bytes x p version given puts.bytes h new (λ e. let no = none in absurd (cc)) (puts.size ∙ size) other (same ∙ ap (with_pool h) puts.same))

pub own_after : (t : TxId) (l : Held) (version : ℕ) (given : Option (List ℕ)) (old new : PartsView) (r : Result Reply HomeFault) → IsHome old.home → waits_as (pending_of old.home.txs t) l.page l.mode ≡ true → is_right_kind l.kind ≡ false
    → IfOk r (λ y. ByImage l.page version given (λ i. outcome (granted t l version i (work_on old.home))) old.home y new.home) → OnErr r (new ≡ old) → IsHome new.home
own_after t l version given old new (Ok y) home waits other by_image same = own_sound t l version given old.home new.home y home waits other by_image
own_after t l version given old new (Err e) home waits other by_image same = subst (λ (v : PartsView). IsHome v.home) (sym same) home
