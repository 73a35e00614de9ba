-- An access of a page that isn't held as it has to be is granted at once, at a node that is alone.
use Rattle.std.proofs.Common.{◌≡◌, refl, sym, ap, subst, ◌∙◌, ℕ, ◌+◌, ◌≤◌, ◌==◌, ◌&&◌, Bool, true, false, [], ◌∷◌, length, None, Some, is_some, arith}
use Rattle.std.specs.Prelude.{Option, option_map}
use Rattle.std.proofs.lemmas.Bool.Decides.{nat_tests}
use Rattle.pcl_base.specs.Limits.{Sizes}
use Rattle.pcl_base.specs.declared.tx.TxId.{TxId}
use Rattle.pcl_base.specs.declared.lock.Held.{Held}
use Rattle.pcl_base.specs.declared.lock.Kind.TheVariants as kind
use Rattle.pcl_base.specs.declared.lock.Pending.{Pending}
use Rattle.pcl_base.specs.declared.lock.Waiter.{Waiter}
use Rattle.pcl_base.specs.declared.lock.Decision.TheVariants as decision
use Rattle.pcl_base.specs.declared.reply.Reply.TheVariants as reply
use Rattle.run_rules.specs.Base.{Base, version_at}
use Rattle.run_rules.specs.Disk.{Disk}
use Rattle.run_rules.specs.Script.{script}
use Rattle.run_rules.specs.Now.{Story}
use Rattle.node_rules.specs.Words.{pick, same_mode}
use Rattle.node_rules.specs.OpenTxs.{OpenTx, is_open, open_at, held_by, mode_held, pending_of, waits_on, waits_as, with_lock, add, wait}
use Rattle.node_rules.specs.BufferRule.{find, has_private, private_bytes, private_in, bytes_of_private}
use Rattle.node_rules.specs.LockRule.{Settled, settle, ask}
use Rattle.node_rules.specs.LockTable.{LockTable, entry_at, put_entry}
use Rattle.node_rules.specs.NodeState.{HomeState}
use Rattle.node_rules.specs.Work.{HomeWork, Work, Outcome, Goes, and_then, and_so, for_each, with_pool, with_home_work}
use Rattle.node_rules.specs.AccessRule.{Access, Granted, mode_of_write, perform, is_held, next_of, waiting, write_of, locked, granted}
use Rattle.node_rules.specs.OwnerRule.{enter, carry_out, carry_grant, grant_own, told, waits_first}
use Rattle.node_rules.specs.NodeStep.{begin_work}
use Rattle.home_laws.specs.Homes.{IsHome}
use Rattle.home_laws.proofs.Tests.{number_same, number_equal}
use Rattle.home_laws.proofs.Allowed.{MayAccess}
use Rattle.home_laws.proofs.Frames.{frames_taken}
use Rattle.home_laws.proofs.WaitingAccess.{wait_is_sound}
use Rattle.home_laws.proofs.Granted.{granted_sound}
use Rattle.home_laws.proofs.Locks.{add_here, add_elsewhere, add_pending, wait_held_here, wait_here}
use Rattle.home_laws.proofs.OneTx.{open_here, length_changed}
use Rattle.single_laws.proofs.Working.{seen_same}
use Rattle.single_laws.proofs.Pages.{same_copies}
use Rattle.single_laws.proofs.Entries.{held_entry, granted_alone, settled_alone, put_here, put_there}
use Rattle.single_laws.proofs.Entering.{with_one, entered}
use Rattle.single_laws.proofs.Alone.{look_of, IsOwn, Busy, Kept, fresh_work, node_of, wrote_same}
use Rattle.single_laws.proofs.Bringing.{Brought, brought}
use Rattle.single_laws.proofs.Framing.{access_done, performed_txs, mode_self, framed, Framed, Ends, AccessEnds}

module _ (c : Sizes) (base : Base) (d : Disk) (s : Story) (h : HomeState) (tb : LockTable) (a : Access)
    (few : c.pages ≤ 65536) (one : c.nodes ≡ 1) (home : IsHome h) (kept : Kept c base d s (fresh_work h d)) (busy : Busy h tb base s a.tx) (serving : tb.serving ≡ true) (may : MayAccess a h)
    (f : Framed c base d s h tb a) (free : is_held a h ≡ false) where
  abbrev pending : Pending
  pending = record { page = a.page; mode = mode_of_write a.write; write = a.write }

  abbrev waiter : Waiter
  waiter = record { tx = a.tx; mode = mode_of_write a.write; have = find (frames_taken h a) a.page }

  abbrev lock : Held
  lock = record { page = a.page; mode = mode_of_write a.write; kind = kind.Own }

  abbrev waits_home : HomeState
  waits_home = waiting a (with_pool h (frames_taken h a))

  abbrev pub waits_work : HomeWork
  waits_work = record (framed d h a) { home = waiting a (with_pool h (frames_taken h a)) }

  abbrev asked_work : Work
  asked_work = with_home_work (begin_work (node_of c h tb) d) waits_work

  waits_kept : Kept c base d s waits_work
  unfolding wait
  waits_kept =
      record {
        config = kept.config;
        node = kept.node;
        born = kept.born;
        known = kept.known;
        fine = kept.fine;
        pages = same_copies c base d (framed d h a) waits_home (λ q. refl) f.kept.pages;
        serials = kept.serials;
        later = kept.later;
      }

  slot_is : Brought c base d s a.page waits_work waits_kept f.below f.is.there f.is.buffer f.sized
  slot_is = brought c base d s a.page waits_work waits_kept f.below f.is.there f.is.buffer f.sized

  -- the home with its lock, before the access is done
  abbrev locked_home : HomeState
  locked_home = record (with_pool waits_home slot_is.pool) { txs = add (wait h.txs a.tx pending) a.tx lock }

  abbrev locked_work : HomeWork
  locked_work = record waits_work { home = locked_home }

  abbrev done : Granted
  done = perform a.tx a.page a.write locked_work

  -- the transactions
  waits_there : is_open (wait h.txs a.tx pending) a.tx ≡ true
  unfolding wait
  waits_there = ap is_some (open_here (λ x. record x { waiting = Some pending }) (λ x. refl) h.txs a.tx) ∙ mapped (open_at h.txs a.tx) busy.there
    where
      mapped : (o : Option OpenTx) → is_some o ≡ true → is_some (option_map (λ (x : OpenTx). record x { waiting = Some pending }) o) ≡ true
      mapped None e = e
      mapped (Some x) e = refl

  waits_now : pending_of (wait h.txs a.tx pending) a.tx ≡ Some pending
  waits_now = wait_here h.txs a.tx pending busy.there

  locked_there : is_open (add (wait h.txs a.tx pending) a.tx lock) a.tx ≡ true
  unfolding add
  locked_there = ap is_some (open_here (with_lock lock) (λ x. refl) (wait h.txs a.tx pending) a.tx) ∙ mapped (open_at (wait h.txs a.tx pending) a.tx) waits_there
    where
      mapped : (o : Option OpenTx) → is_some o ≡ true → is_some (option_map (with_lock lock) o) ≡ true
      mapped None e = e
      mapped (Some x) e = refl

  locked_one : length (add (wait h.txs a.tx pending) a.tx lock).txs ≡ 1
  unfolding add wait
  locked_one =
      length_changed (with_lock lock) (wait h.txs a.tx pending).txs a.tx.serial
      ∙ length_changed (λ x. record x { waiting = Some pending }) h.txs.txs a.tx.serial ∙ busy.one

  locked_waits : pending_of (add (wait h.txs a.tx pending) a.tx lock) a.tx ≡ None
  locked_waits =
      add_pending (wait h.txs a.tx pending) a.tx lock waits_there
      ∙ ap (λ o. pick (waits_on o a.page) None o) waits_now ∙ ap (λ b. pick b None (Some pending)) (number_same a.page)

  lock_here : held_by (add (wait h.txs a.tx pending) a.tx lock) a.tx a.page ≡ Some lock
  lock_here = add_here (wait h.txs a.tx pending) a.tx lock waits_there

  lock_there : (q : ℕ) → (a.page == q) ≡ false → held_by (add (wait h.txs a.tx pending) a.tx lock) a.tx q ≡ held_by h.txs a.tx q
  lock_there q other = add_elsewhere (wait h.txs a.tx pending) a.tx lock waits_there q other ∙ wait_held_here h.txs a.tx pending busy.there q

  locked_own : (q : ℕ) → IsOwn (held_by (add (wait h.txs a.tx pending) a.tx lock) a.tx q)
  locked_own q = by (a.page == q) refl
    where
      by : (e : Bool) → (a.page == q) ≡ e → IsOwn (held_by (add (wait h.txs a.tx pending) a.tx lock) a.tx q)
      by true e = subst (λ n. IsOwn (held_by (add (wait h.txs a.tx pending) a.tx lock) a.tx n)) (number_equal a.page q e) (subst IsOwn (sym lock_here) refl)
      by false e = subst IsOwn (sym (lock_there q e)) (busy.own q)

  -- the table
  abbrev first_table : LockTable
  first_table = put_entry tb a.page (ask (entry_at tb a.page) waiter)

  abbrev last_table : LockTable
  last_table = put_entry first_table a.page (held_entry (version_at base a.page) a.tx (Some (mode_of_write a.write)))

  locked_entries : (q : ℕ) → entry_at last_table q ≡ held_entry (version_at base q) a.tx (mode_held (held_by (add (wait h.txs a.tx pending) a.tx lock) a.tx q))
  locked_entries q = by (a.page == q) refl
    where
      by : (e : Bool) → (a.page == q) ≡ e → entry_at last_table q ≡ held_entry (version_at base q) a.tx (mode_held (held_by (add (wait h.txs a.tx pending) a.tx lock) a.tx q))
      by true e =
          subst (λ n. entry_at last_table n ≡ held_entry (version_at base n) a.tx (mode_held (held_by (add (wait h.txs a.tx pending) a.tx lock) a.tx n))) (number_equal a.page q e)
          (put_here first_table a.page (held_entry (version_at base a.page) a.tx (Some (mode_of_write a.write)))
          ∙ ap (λ o. held_entry (version_at base a.page) a.tx (mode_held o)) (sym lock_here))
      by false e =
          put_there first_table a.page q (held_entry (version_at base a.page) a.tx (Some (mode_of_write a.write))) e
          ∙ put_there tb a.page q (ask (entry_at tb a.page) waiter) e
          ∙ busy.entries q
          ∙ ap (λ o. held_entry (version_at base q) a.tx (mode_held o)) (sym (lock_there q e))

  locked_look : (q : ℕ) → private_bytes slot_is.pool a.tx q ≡ private_bytes (frames_taken h a) a.tx q
  locked_look q = ap (λ xs. bytes_of_private (private_in xs a.tx q)) slot_is.privates

  locked_busy : Busy locked_home last_table base s a.tx
  unfolding add wait
  locked_busy =
      record {
        there = locked_there;
        one = locked_one;
        name = busy.name;
        recent = busy.recent;
        waits = locked_waits;
        own = locked_own;
        entries = locked_entries;
        work = seen_same (script a.tx s.seen) base (look_of (frames_taken h a) a.tx) (look_of slot_is.pool a.tx) locked_look f.busy.work;
        wrote = wrote_same (with_pool h (frames_taken h a)) locked_home base a.tx refl locked_look f.busy.wrote;
      }

  locked_kept : Kept c base d s locked_work
  unfolding add wait
  locked_kept =
      record {
        config = kept.config;
        node = kept.node;
        born = kept.born;
        known = kept.known;
        fine = kept.fine;
        pages = same_copies c base d (record waits_work { home = with_pool waits_home slot_is.pool }) locked_home (λ q. refl) slot_is.pages;
        serials = kept.serials;
        later = kept.later;
      }

  has_now : is_some a.write ≡ true → has_private slot_is.pool a.tx a.page ≡ true
  has_now e = ap (λ xs. is_some (private_in xs a.tx a.page)) slot_is.privates ∙ f.has e

  -- the grant
  awaited : waits_as (pending_of (wait h.txs a.tx pending) a.tx) a.page (mode_of_write a.write) ≡ true
  awaited =
      ap (λ o. waits_as o a.page (mode_of_write a.write)) waits_now
      ∙ ap (λ b. b && same_mode (mode_of_write a.write) (mode_of_write a.write)) (number_same a.page) ∙ mode_self (mode_of_write a.write)

  grant_goes : granted a.tx lock (version_at base a.page) None waits_work ≡ Goes done
  unfolding granted
  grant_goes =
      ap (λ (o : Outcome HomeWork). and_so o (locked a.tx lock (write_of (pending_of (wait h.txs a.tx pending) a.tx)))) slot_is.goes
      ∙ ap (λ o. let g : Outcome Granted = Goes (locked a.tx lock (write_of o) (record waits_work { home = with_pool waits_home slot_is.pool })) in g) waits_now

  done_home : IsHome done.work.home
  done_home =
      granted_sound a.tx lock (version_at base a.page) None waits_work done (wait_is_sound a h home may (frames_taken h a) f.is free) awaited refl tt
      (λ other image. f.kept.pages.raw a.page f.below ∙ ap (λ (x : Sizes). x.size + 16) (sym kept.config)) grant_goes

  -- carrying it out
  abbrev table_work : Work
  table_work = with_one last_table asked_work

  carried : carry_out a.page (version_at base a.page) (decision.Grant a.tx (mode_of_write a.write) false (find (frames_taken h a) a.page)) table_work ≡ Goes (told table_work done)
  unfolding carry_out wait
  carried =
      let node : (a.tx.node == h.txs.node) ≡ true = let me = kept.node in let name = ap (λ (u : TxId). u.node) busy.name in grind (arith, nat_tests) in
      ap (λ b. carry_grant b a.tx (mode_of_write a.write) false (find (frames_taken h a) a.page) a.page (version_at base a.page) table_work) node
      ∙ ap (λ b. grant_own b a.tx (mode_of_write a.write) a.page (version_at base a.page) table_work) awaited
      ∙ ap (λ (o : Outcome Granted). and_so o (told table_work)) grant_goes

  -- then it waits no more
  waits_no_more : waits_first a.tx a.page (told table_work done) ≡ told table_work done
  waits_no_more =
      ap (λ o. pick (is_some o) (record (told table_work done) { replies = reply.Waits a.tx a.page ∷ (told table_work done).replies }) (told table_work done))
      (ap (λ s. pending_of s a.tx) (performed_txs a.tx a.page a.write locked_work) ∙ locked_waits)

  settles : settle h.txs.node (ask (entry_at tb a.page) waiter) ≡ granted_alone (version_at base a.page) a.tx (mode_of_write a.write) (find (frames_taken h a) a.page)
  settles =
      let node : (a.tx.node == h.txs.node) ≡ true = let me = kept.node in let name = ap (λ (u : TxId). u.node) busy.name in grind (arith, nat_tests) in
      ap (λ e. settle h.txs.node (ask e waiter)) (busy.entries a.page)
      ∙ settled_alone (version_at base a.page) h.txs.node a.tx (mode_held (held_by h.txs a.tx a.page)) (mode_of_write a.write) (find (frames_taken h a) a.page) node free

  enters : enter (λ e. ask e waiter) a.page asked_work ≡ Goes (told table_work done)
  unfolding for_each wait
  enters =
      let config : h.config.nodes ≡ 1 = ap (λ (x : Sizes). x.nodes) kept.config ∙ one in
      entered (λ e. ask e waiter) a.page asked_work tb config refl serving
      ∙ ap (λ (x : Settled). for_each (carry_out a.page x.entry.version) x.decisions (with_one (put_entry first_table a.page x.entry) asked_work)) settles
      ∙ ap (λ (o : Outcome Work). and_then o (for_each (carry_out a.page (version_at base a.page)) [])) carried

  pub free_ends : AccessEnds c d s h tb a (record { next = next_of a true (find (frames_taken h a) a.page); work = waits_work })
  free_ends =
      subst (Ends c d s a)
      (sym (ap (λ (o : Outcome Work). and_so o (waits_first a.tx a.page)) enters ∙ ap (λ (x : Work). let o : Outcome Work = Goes x in o) waits_no_more))
      (λ few_open.
      record {
        home = done.work.home;
        table = last_table;
        node = refl;
        quiet = refl;
        fits = λ sent.
            access_done c base d s a.tx a.page locked_work last_table locked_kept locked_busy f.below slot_is.there serving slot_is.sound slot_is.sized a.write f.within has_now done_home sent;
      })
