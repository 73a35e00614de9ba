-- The frames of an access of a node that is alone are taken; a page that is held is accessed at once.
use Rattle.std.proofs.Common.{◌≡◌, refl, ap, subst, ◌∙◌, ℕ, ◌<◌, ◌≤◌, ◌==◌, ◌||◌, Bool, true, false, List, [], ◌∷◌, None, Some, is_some}
use Rattle.std.specs.Prelude.{Option, IfSome}
use Rattle.pcl_base.specs.Limits.{Sizes}
use Rattle.pcl_base.specs.declared.tx.TxId.{TxId}
use Rattle.pcl_base.specs.declared.tx.Mode.{Mode}
use Rattle.pcl_base.specs.declared.tx.Mode.TheVariants.{Shared, Exclusive}
use Rattle.pcl_base.specs.declared.event.Event.{Event}
use Rattle.pcl_base.specs.declared.event.Event.TheVariants as event
use Rattle.pcl_base.specs.declared.trace.Sent.{Sent}
use Rattle.run_rules.specs.Base.{Base}
use Rattle.run_rules.specs.Disk.{Disk}
use Rattle.run_rules.specs.Script.{script}
use Rattle.run_rules.specs.Now.{Story}
use Rattle.node_rules.specs.Words.{same_mode}
use Rattle.node_rules.specs.OpenTxs.{held_by}
use Rattle.node_rules.specs.BufferRule.{copy_at, has_private, private_bytes, bytes_of_private}
use Rattle.node_rules.specs.LockTable.{LockTable}
use Rattle.node_rules.specs.NodeState.{HomeState}
use Rattle.node_rules.specs.DiskCalls.{all_done}
use Rattle.node_rules.specs.Work.{HomeWork, Work, Outcome, and_so, with_pool, with_home_work}
use Rattle.node_rules.specs.AccessRule.{Access, Accessed, mode_of_write, take_frames, perform, is_held, now_done}
use Rattle.node_rules.specs.OwnerRule.{go_on}
use Rattle.node_rules.specs.NodeStep.{plan_of, begin_work}
use Rattle.buffer_pool.specs.Buffer.{IsBuffer}
use Rattle.home_laws.specs.Homes.{IsHome, IsWithin}
use Rattle.home_laws.proofs.Tests.{number_equal}
use Rattle.home_laws.proofs.Allowed.{MayAccess}
use Rattle.home_laws.proofs.Frames.{frames_taken, frames_home}
use Rattle.home_laws.proofs.Taken.{IsTaken, taken}
use Rattle.home_laws.proofs.Covering.{covers_some}
use Rattle.home_laws.proofs.HeldAccess.{held_copy, held_sound}
use Rattle.home_laws.proofs.Steps.{other_page}
use Rattle.single_laws.proofs.Working.{Working, seen_same}
use Rattle.single_laws.proofs.Told.{Fits, entry}
use Rattle.single_laws.proofs.Pages.{PagesAre}
use Rattle.single_laws.proofs.Frames.{frame_pages}
use Rattle.single_laws.proofs.Alone.{look_of, Busy, Kept, Alone, fresh_work, node_of, StepOk, wrote_same}
use Rattle.single_laws.proofs.Performs.{read_done, write_done}

-- the event of an access
abbrev pub event_of : TxId → ℕ → Option (ℕ × List ℕ) → Event
event_of t p None = event.Read t p
event_of t p (Some x) = event.Write t p x.0 x.1

-- a granted access, of either kind
pub access_done : (c : Sizes) (base : Base) (d : Disk) (s : Story) (t : TxId) (p : ℕ) (w : HomeWork) (tb : LockTable) → Kept c base d s w → Busy w.home tb base s t → p < c.pages
    → is_some (copy_at w.home.pool p) ≡ true → tb.serving ≡ true → IsBuffer w.home.pool → w.home.pool.size ≡ c.size → (write : Option (ℕ × List ℕ)) → IfSome write (IsWithin c.size)
    → (is_some write ≡ true → has_private w.home.pool t p ≡ true) → IsHome (perform t p write w).work.home → (sent : List Sent)
    → Fits s (entry (event_of t p write) ((perform t p write w).reply ∷ []) sent) (λ u. Alone c (perform t p write w).work.home tb (all_done 0 d (perform t p write w).work.calls) u)
unfolding perform
access_done c base d s t p w tb kept busy below there serving buffer size None within has home sent =
    read_done c base d s t p w tb kept busy below there serving home sent
access_done c base d s t p w tb kept busy below there serving buffer size (Some x) within has home sent =
    write_done c base d s t p w tb kept busy below there serving x buffer size within (has refl) home sent

-- the table of a step doesn't matter for what an access leaves of the transactions
pub performed_txs : (t : TxId) (p : ℕ) (write : Option (ℕ × List ℕ)) (w : HomeWork) → (perform t p write w).work.home.txs ≡ w.home.txs
unfolding perform
performed_txs t p None w = refl
performed_txs t p (Some x) w = refl

pub mode_self : (m : Mode) → same_mode m m ≡ true
mode_self Shared = refl
mode_self Exclusive = refl

or_true : (b c : Bool) → c ≡ true → (b || c) ≡ true
or_true true c e = refl
or_true false c e = e

-- the work once its frames are taken
abbrev pub framed : Disk → HomeState → Access → HomeWork
framed d h a = record (take_frames a (fresh_work h d)) { home = with_pool h (frames_taken h a) }

-- what holds of it
pub record Framed (c : Sizes) (base : Base) (d : Disk) (s : Story) (h : HomeState) (tb : LockTable) (a : Access) : Type 0 where
  pub is : IsTaken h a.tx a.page (is_some a.write) (is_some (held_by h.txs a.tx a.page)) (frames_taken h a)
  pub kept : Kept c base d s (framed d h a)
  pub busy : Busy (with_pool h (frames_taken h a)) tb base s a.tx
  pub below : a.page < c.pages
  pub sized : (frames_taken h a).size ≡ c.size
  pub within : IfSome a.write (IsWithin c.size)
  pub has : is_some a.write ≡ true → has_private (frames_taken h a) a.tx a.page ≡ true

-- what an access comes to
abbrev pub Ends : Sizes → Disk → Story → Access → Outcome Work → Type 0
Ends c d s a o = StepOk c (event_of a.tx a.page a.write) s d (and_so o plan_of)

abbrev pub AccessEnds : Sizes → Disk → Story → HomeState → LockTable → Access → Accessed → Type 0
AccessEnds c d s h tb a x = Ends c d s a (go_on a.tx a.page x.next (with_home_work (begin_work (node_of c h tb) d) x.work))

module _ (c : Sizes) (base : Base) (d : Disk) (s : Story) (h : HomeState) (tb : LockTable) (a : Access)
    (few : c.pages ≤ 65536) (one : c.nodes ≡ 1) (home : IsHome h) (kept : Kept c base d s (fresh_work h d)) (busy : Busy h tb base s a.tx) (serving : tb.serving ≡ true) (may : MayAccess a h) where
  is : IsTaken h a.tx a.page (is_some a.write) (is_some (held_by h.txs a.tx a.page)) (frames_taken h a)
  is = taken a h home may

  framed_pages : PagesAre c base d (framed d h a)
  framed_pages =
      subst (λ (x : HomeState). PagesAre c base d (record (take_frames a (fresh_work h d)) { home = x })) (frames_home a (fresh_work h d))
      (frame_pages c base d kept.fine few one a (fresh_work h d) kept.pages)

  same_look : (q : ℕ) → private_bytes (frames_taken h a) a.tx q ≡ private_bytes h.pool a.tx q
  same_look q = by (a.page == q) refl
    where
      by : (e : Bool) → (a.page == q) ≡ e → private_bytes (frames_taken h a) a.tx q ≡ private_bytes h.pool a.tx q
      by true e = subst (λ n. private_bytes (frames_taken h a) a.tx n ≡ private_bytes h.pool a.tx n) (number_equal a.page q e) is.privates.bytes
      by false e = ap bytes_of_private (is.privates.others a.tx q (other_page a.tx a.page q e))

  framed_work : Working (script a.tx s.seen) base (look_of (frames_taken h a) a.tx)
  framed_work = seen_same (script a.tx s.seen) base (look_of h.pool a.tx) (look_of (frames_taken h a) a.tx) same_look busy.work

  pub frames_are : Framed c base d s h tb a
  frames_are =
      record {
        is = is;
        kept = record { config = kept.config; node = kept.node; born = kept.born; known = kept.known; fine = kept.fine; pages = framed_pages; serials = kept.serials; later = kept.later };
        busy = record { there = busy.there; one = busy.one; name = busy.name; recent = busy.recent; waits = busy.waits; own = busy.own; entries = busy.entries; work = framed_work; wrote = wrote_same h (with_pool h (frames_taken h a)) base a.tx refl same_look busy.wrote };
        below = subst (λ (x : Sizes). a.page < x.pages) kept.config may.page;
        sized = is.size ∙ ap (λ (x : Sizes). x.size) kept.config;
        within = subst (λ (x : Sizes). IfSome a.write (IsWithin x.size)) kept.config may.inside;
        has = λ e. is.privates.there ∙ or_true (has_private h.pool a.tx a.page) (is_some a.write) e;
      }

  -- a page that is held
  pub held_ends : Framed c base d s h tb a → is_held a h ≡ true → AccessEnds c d s h tb a (now_done (perform a.tx a.page a.write (framed d h a)))
  held_ends f held few_open =
      record {
        home = (perform a.tx a.page a.write (framed d h a)).work.home;
        table = tb;
        node = refl;
        quiet = refl;
        fits = λ sent.
            access_done c base d s a.tx a.page (framed d h a) tb f.kept f.busy f.below
            (held_copy a h home may (frames_taken h a) f.is (covers_some (held_by h.txs a.tx a.page) (mode_of_write a.write) held))
            serving f.is.buffer f.sized a.write f.within f.has (held_sound a h home may (frames_taken h a) f.is (framed d h a) held) sent;
      }
