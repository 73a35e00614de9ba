-- The accesses for which the open transactions of a home wait.
use Rattle.std.proofs.Common.{◌≡◌, refl, ap, sym, ◌∙◌, ℕ, nat_lt, ◌==◌, not, Bool, true, false, List, [], ◌∷◌, Option, Some, None, is_some, eqb-true}
use Rattle.std.specs.Prelude.{IfSome, ⊤}
use Rattle.std.specs.List.{AllByRecursion}
use Rattle.pcl_base.specs.declared.lock.Held.{Held}
use Rattle.pcl_base.specs.declared.lock.Kind.{Kind}
use Rattle.pcl_base.specs.declared.lock.Kind.TheVariants as kind
use Rattle.pcl_base.specs.declared.lock.Pending.{Pending}
use Rattle.pcl_base.specs.declared.message.Change.{Change}
use Rattle.pcl_base.specs.declared.message.Grant.{Grant}
use Rattle.pcl_base.specs.declared.reply.Reply.{Reply}
use Rattle.pcl_base.specs.declared.tx.TxId.{TxId}
use Rattle.text_rules.specs.StoredPage.{PageAt}
use Rattle.run_rules.specs.Script.{is_refusal}
use Rattle.node_rules.specs.Words.{pick}
use Rattle.node_rules.specs.AccessRule.{Access, Accessed, Granted, Arrived, Next, Now, AskOwn, AskOwner, on_pool, let_go, make_room, take_slot, take_private, pin_once, take_frames, perform, under_right, next_of, waiting, is_held, is_allowed, access_in, access, from_disk, unless_current, bring, locked, write_of, granted, arrive, arrived, kind_of, image_of, shelf_after, readers_after, on_grant, now_done, clean_copy, kinds_on, answer_with, on_revoke}
use Rattle.node_rules.specs.BufferRule.{Pool, Copy, Slot, copy_at, has_slot, free_frames, victim, has_private, find, place, private, pin, install, clean}
use Rattle.node_rules.specs.CopyRule.{is_version}
use Rattle.node_rules.specs.EndRule.{closed, publish_all, abort, commit}
use Rattle.node_rules.specs.InstallRule.{write_newer, all_kinds, kinds_of_locks}
use Rattle.node_rules.specs.NodeState.{HomeState}
use Rattle.node_rules.specs.OpenTxs.{OpenTx, OpenTxs, begin, held_by, pending_of, waits_as, waits_on, kind_on, change_open, with_lock, add, wait, set_kind, close_tx}
use Rattle.node_rules.specs.OwnerRule.{put_change, into_slot, has_room}
use Rattle.node_rules.specs.Shelf.{right_on, Right}
use Rattle.node_rules.specs.Work.{HomeWork, Goes, Differs, with_pool, write_page, write_copy, write_back, read_page}
use Rattle.node_laws.proofs.Lists.{all_push, all_filter, all_map}
use Rattle.step_laws.proofs.Outcomes.{On, on_then, on_so, on_any}

module _ (f : ℕ → Option (ℕ × List ℕ)) where
  -- a transaction that waits does so for what f says
  abbrev pub IsAsked : OpenTx → Type 0
  IsAsked x = IfSome x.waiting (λ (w : Pending). w.write ≡ f x.serial)

  abbrev pub AreAsked : List OpenTx → Type 0
  AreAsked xs = AllByRecursion IsAsked xs

  -- a change of one of them
  changed : (g : OpenTx → OpenTx) (k : ℕ) → ((x : OpenTx) → x.serial ≡ k → IsAsked x → IsAsked (g x)) → (xs : List OpenTx) → AreAsked xs → AreAsked (change_open g xs k)
  unfolding change_open
  changed g k on [] all = tt
  changed g k on (x ∷ xs) all = (by (x.serial == k) refl, changed g k on xs all.1)
    where
      by : (b : Bool) → (x.serial == k) ≡ b → IsAsked (pick b (g x) x)
      by true e = on x (eqb-true x.serial k e) all.0
      by false e = all.0

  locked_asked : (l : Held) (x : OpenTx) → IsAsked x → IsAsked (with_lock l x)
  locked_asked l x a = by (waits_on x.waiting l.page)
    where
      by : (b : Bool) → IfSome (pick b None x.waiting) (λ (w : Pending). w.write ≡ f x.serial)
      by true = tt
      by false = a

  pub added : (s : OpenTxs) (t : TxId) (l : Held) → AreAsked s.txs → AreAsked (add s t l).txs
  unfolding add
  added s t l all = changed (with_lock l) t.serial (λ x same a. locked_asked l x a) s.txs all

  pub waits : (s : OpenTxs) (t : TxId) (w : Pending) → w.write ≡ f t.serial → AreAsked s.txs → AreAsked (wait s t w).txs
  unfolding wait
  waits s t w is all = changed (λ x. record x { waiting = Some w }) t.serial (λ x same a. is ∙ ap f (sym same)) s.txs all

  kind_set : (s : OpenTxs) (t : TxId) (p : ℕ) (k : Kind) → AreAsked s.txs → AreAsked (set_kind s t p k).txs
  unfolding set_kind
  kind_set s t p k all = changed (λ x. record x { pages = kind_on x.pages p k }) t.serial (λ x same a. a) s.txs all

  kinds_set : (s : OpenTxs) (ts : List TxId) (p : ℕ) (k : Kind) → AreAsked s.txs → AreAsked (kinds_on s ts p k).txs
  unfolding kinds_on
  kinds_set s [] p k all = all
  kinds_set s (t ∷ ts) p k all = kinds_set (set_kind s t p k) ts p k (kind_set s t p k all)

  closes : (s : OpenTxs) (t : TxId) → AreAsked s.txs → AreAsked (close_tx s t).txs
  unfolding close_tx
  closes s t all = all_filter IsAsked (λ x. not (x.serial == t.serial)) s.txs all

  pub begins : (s : OpenTxs) → AreAsked s.txs → AreAsked (begin s).txs
  unfolding begin
  begins s all = all_push IsAsked s.txs _ all tt

  -- a home's transactions
  abbrev pub Asks : HomeState → Type 0
  Asks h = AreAsked h.txs.txs

  pub kinds_asked : (q : ℕ) (k : Kind) (h : HomeState) → Asks h → Asks (all_kinds q k h)
  kinds_asked q k h all =
      all_map IsAsked IsAsked (λ (x : OpenTx). record x { pages = kinds_of_locks h.config q k x.pages }) (λ x a. a) h.txs.txs all

  pub revoked_asks : (p : ℕ) (h : HomeState) → Asks h → Asks (on_revoke p h).home
  unfolding on_revoke
  revoked_asks p h all = by (right_on h.shelf p)
    where
      by : (o : Option Right) → Asks (answer_with p o h).home
      by None = all
      by (Some r) = kinds_set h.txs _ p kind.Registered all

  pub closed_asks : (h : HomeState) (t : TxId) (b : Pool) → Asks h → Asks (closed h t b)
  unfolding closed
  closed_asks h t b all = closes h.txs t all

  pub aborted_asks : (t : TxId) (w : HomeWork) → Asks w.home → Asks (abort t w).work.home
  unfolding abort
  aborted_asks t w all = closed_asks w.home t w.home.pool all

  pub committed_asks : (t : TxId) (w : HomeWork) → Asks w.home → Asks (commit t w).work.home
  unfolding commit
  committed_asks t w all = closed_asks w.home t (publish_all w.home t) all

  abbrev pub WorkAsks : HomeWork → Type 0
  WorkAsks w = Asks w.home

  -- frames
  pub back_asks : (p : ℕ) (w : HomeWork) → WorkAsks w → WorkAsks (write_back p w)
  unfolding write_back
  back_asks p w b = by (copy_at w.home.pool p)
    where
      dirty : (x : Bool) (c : Copy) → WorkAsks (pick x (record (write_page p (record { version = c.version; bytes = c.bytes }) w) { home = with_pool w.home (clean w.home.pool p) }) w)
      dirty true c = b
      dirty false c = b

      by : (o : Option Copy) → WorkAsks (write_copy p o w)
      by None = b
      by (Some c) = dirty c.dirty c

  gone_asks : (o : Option Slot) (w : HomeWork) → WorkAsks w → WorkAsks (let_go o w)
  gone_asks None w b = b
  gone_asks (Some s) w b = back_asks s.page w b

  room_asks : (keep : ℕ) (w : HomeWork) → WorkAsks w → WorkAsks (make_room keep w)
  unfolding make_room
  room_asks keep w b = by (nat_lt 0 (free_frames w.home.pool))
    where
      by : (x : Bool) → WorkAsks (pick x w (let_go (victim w.home.pool keep) w))
      by true = b
      by false = gone_asks (victim w.home.pool keep) w b

  slot_asks : (p : ℕ) (w : HomeWork) → WorkAsks w → WorkAsks (take_slot p w)
  unfolding take_slot
  slot_asks p w b = by (has_slot w.home.pool p)
    where
      by : (x : Bool) → WorkAsks (pick x w (on_pool (λ q. place q p) (make_room p w)))
      by true = b
      by false = room_asks p w b

  private_asks : (t : TxId) (p : ℕ) (o : Option (ℕ × List ℕ)) (w : HomeWork) → WorkAsks w → WorkAsks (take_private t p o w)
  unfolding take_private
  private_asks t p None w b = b
  private_asks t p (Some x) w b = by (has_private w.home.pool t p)
    where
      by : (x : Bool) → WorkAsks (pick x w (on_pool (λ q. private q t p) (make_room p w)))
      by true = b
      by false = room_asks p w b

  pinned_asks : (t : TxId) (p : ℕ) (w : HomeWork) → WorkAsks w → WorkAsks (pin_once t p w)
  pinned_asks t p w b = by (is_some (held_by w.home.txs t p))
    where
      by : (x : Bool) → WorkAsks (pick x w (on_pool (λ q. pin q p) w))
      by true = b
      by false = b

  frames_asks : (a : Access) (w : HomeWork) → WorkAsks w → WorkAsks (take_frames a w)
  unfolding take_frames
  frames_asks a w b = pinned_asks a.tx a.page _ (private_asks a.tx a.page a.write _ (slot_asks a.page w b))

  -- what is granted is no refusal
  abbrev pub Answers : Granted → Type 0
  Answers g = WorkAsks g.work × (is_refusal g.reply ≡ false)

  performed_asks : (t : TxId) (p : ℕ) (o : Option (ℕ × List ℕ)) (w : HomeWork) → WorkAsks w → Answers (perform t p o w)
  unfolding perform
  performed_asks t p None w b = (b, refl)
  performed_asks t p (Some x) w b = (b, refl)

  -- what an access comes to
  abbrev pub Comes : Next → Type 0
  Comes (Now r) = is_refusal r ≡ false
  Comes (AskOwn a) = ⊤
  Comes (AskOwner r) = ⊤

  abbrev pub Accesses : Accessed → Type 0
  Accesses x = WorkAsks x.work × Comes x.next

  pub access_asks : (a : Access) (owned : Bool) (w : HomeWork) → a.write ≡ f a.tx.serial → WorkAsks w → Accesses (access a owned w)
  unfolding access access_in
  access_asks a owned w is b = by (is_held a g.home) (is_allowed a owned g.home)
    where
      g : HomeWork
      g = take_frames a w

      got : WorkAsks g
      got = frames_asks a w b

      asks : (x : Bool) → Comes (next_of a x (find g.home.pool a.page))
      asks true = tt
      asks false = tt

      by : (x y : Bool) → Accesses (pick x (now_done (perform a.tx a.page a.write g))
          (pick y (now_done (perform a.tx a.page None (record g { home = under_right a.tx a.page g.home })))
          (record { next = next_of a owned (find g.home.pool a.page); work = record g { home = waiting a g.home } })))
      by true y = performed_asks a.tx a.page a.write g got
      by false true = performed_asks a.tx a.page None (record g { home = under_right a.tx a.page g.home }) (added g.home.txs a.tx _ got)
      by false false = (waits g.home.txs a.tx _ is got, asks owned)

  -- grants
  bring_asks : (p v : ℕ) (image : Option (List ℕ)) (w : HomeWork) → WorkAsks w → On WorkAsks (bring p v image w)
  unfolding bring
  bring_asks p v image w b = by (is_version (find w.home.pool p) v) image
    where
      disk : (at : PageAt) (x : Bool) → On WorkAsks (pick x (Goes (on_pool (λ q. install q p (clean_copy at)) w)) (Differs p v at.version))
      disk at true = b
      disk at false = tt

      by : (x : Bool) (o : Option (List ℕ)) → On WorkAsks (unless_current x p v o w)
      by true o = b
      by false (Some bytes) = b
      by false None =
          on_then (λ (at : PageAt). ⊤) WorkAsks (read_page w.pages p) (from_disk p v w) (on_any (read_page w.pages p)) (λ at any. disk at (at.version == v))

  pub granted_asks : (t : TxId) (l : Held) (v : ℕ) (image : Option (List ℕ)) (w : HomeWork) → WorkAsks w → On Answers (granted t l v image w)
  unfolding granted
  granted_asks t l v image w b =
      on_so WorkAsks Answers (bring l.page v image w) (locked t l (write_of (pending_of w.home.txs t))) (bring_asks l.page v image w b)
      (λ x c. performed_asks t l.page (write_of (pending_of w.home.txs t)) _ (added x.home.txs t l c))

  -- a reply that may be missing
  abbrev pub Replies : Option Reply → Type 0
  Replies o = IfSome o (λ r. is_refusal r ≡ false)

  pub arrived_asks : (g : Grant) (owned : Bool) (w : HomeWork) → WorkAsks w → On (λ (a : Arrived). WorkAsks a.work × Replies a.reply) (on_grant g owned w)
  unfolding on_grant
  arrived_asks g owned w b = by (waits_as (pending_of w.home.txs g.tx) g.page g.mode)
    where
      shelved : HomeWork
      shelved = record w { home = record (w.home) { shelf = shelf_after g w.home.shelf } }

      by : (x : Bool) → On (λ (a : Arrived). WorkAsks a.work × Replies a.reply) (arrive x g owned shelved)
      by false = (b, tt)
      by true =
          on_so Answers (λ (a : Arrived). WorkAsks a.work × Replies a.reply) _ arrived
          (granted_asks g.tx (record { page = g.page; mode = g.mode; kind = kind_of owned g.right }) g.version (image_of g.copy)
          (record shelved { home = record (shelved.home) { shelf = readers_after g shelved.home.shelf } }) b)
          (λ x c. c)

  -- a change
  pub changed_asks : (p : ℕ) (c : Change) (w : HomeWork) → WorkAsks w → WorkAsks (put_change p c w)
  changed_asks p c w b = by (has_slot w.home.pool p) (free_frames w.home.pool == 0) (has_room p w)
    where
      by : (x y z : Bool) → WorkAsks (pick x (into_slot p c w) (pick y (pick z (into_slot p c (on_pool (λ q. place q p) (make_room p w))) (write_page p (record { version = c.version; bytes = c.image }) w)) (into_slot p c (on_pool (λ q. place q p) w))))
      by true y z = b
      by false true true = room_asks p w b
      by false true false = b
      by false false z = b

  pub newer_asks : (x : Bool) (p : ℕ) (at : PageAt) (w : HomeWork) → WorkAsks w → WorkAsks (write_newer x p at w)
  newer_asks true p at w b = b
  newer_asks false p at w b = b
