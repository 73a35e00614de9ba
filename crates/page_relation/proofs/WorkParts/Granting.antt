-- A grant of another page that is carried out.
use Rattle.std.proofs.Common.{◌≡◌, ◌≢◌, refl, ap, sym, subst, ◌∙◌, ℕ, ◌==◌, ◌&&◌, Bool, true, false, List, Option, Some, None, is_some, arith, eqb-true}
use Rattle.std.specs.Prelude.{⊤}
use Rattle.std.proofs.lemmas.Bool.Decides.{nat_tests}
use Rattle.pcl_base.specs.declared.event.Event.{Event}
use Rattle.pcl_base.specs.declared.lock.Held.{Held}
use Rattle.pcl_base.specs.declared.lock.Pending.{Pending}
use Rattle.pcl_base.specs.declared.reply.Reply.{Reply}
use Rattle.pcl_base.specs.declared.tx.Mode.{Mode}
use Rattle.pcl_base.specs.declared.tx.TxId.{TxId}
use Rattle.text_rules.specs.StoredPage.{PageAt}
use Rattle.node_rules.specs.AccessRule.{Granted, on_pool, bring, bytes_read, clean_copy, from_disk, granted, perform, unless_current, version_or, write_of}
use Rattle.node_rules.specs.BufferRule.{PrivateCopy, copy_at, find, has_private, install, private_in}
use Rattle.node_rules.specs.CopyRule.{is_version}
use Rattle.node_rules.specs.DiskCalls.{all_done}
use Rattle.node_rules.specs.OpenTxs.{add, is_open, pending_of, waits_on}
use Rattle.node_rules.specs.OwnerRule.{told}
use Rattle.node_rules.specs.Words.{pick, same_tx}
use Rattle.node_rules.specs.Work.{HomeWork, Work, Outcome, Goes, Differs, read_page, reply, work_of_home, with_home_work}
use Rattle.home_laws.proofs.Tests.{tx_equal}
use Rattle.step_laws.proofs.Outcomes.{On, on_any, on_then}
use Rattle.cluster_rules.specs.Clusters.{Cluster}
use Rattle.cluster_laws.specs.Call.Calls.{BeginsWith}
use Rattle.cluster_laws.proofs.CallParts.Written.{begun, granted_writes}
use Rattle.page_laws.specs.Look.Accesses.{HasLock, IsWritten}
use Rattle.page_laws.specs.Look.Buffers.{IsAlike}
use Rattle.page_laws.specs.Look.Ends.{version_of_right}
use Rattle.page_laws.specs.Look.Grants.{IsBroughtTo, current, comes, IsCarriedOut, with_lock_of}
use Rattle.page_laws.specs.Look.Parts.{SameLife, is_place}
use Rattle.page_laws.proofs.LookParts.Accessing.{reading_is_seen_law, writing_is_seen_law, locking_is_seen_law}
use Rattle.page_laws.proofs.LookParts.Granting.{bringing_is_seen_law, grant_is_seen_law}
use Rattle.page_laws.specs.Moment.Looks.{asked_last}
use Rattle.page_relation.specs.Homes.{wait_on}
use Rattle.page_relation.specs.Work.Granting.{GrantsElsewhere}
use Rattle.page_relation.specs.Work.Landing.{trace_of, disk_of}
use Rattle.page_relation.specs.Work.Letting.{CalledBy}
use Rattle.page_relation.specs.Work.Unseen.{SameStored, SamePage, IsUnseen}
use Rattle.page_relation.proofs.WorkParts.Called.{granted_called}
use Rattle.page_relation.proofs.WorkParts.Framing.{life_self, life_then, page_self, page_then, unseen_then}
use Rattle.page_relation.proofs.WorkParts.Letting.{disk_same, logs_after}
use Rattle.page_relation.proofs.WorkParts.Quiet.{homes_elsewhere_law, reads_elsewhere_law, writes_elsewhere_law}
use Rattle.page_relation.proofs.WorkParts.Storing.{page_beside}

-- what a home's work keeps: its life, the page, and the stored pages
record IsKept (p : ℕ) (v x : HomeWork) : Type 0 where
  life : SameLife v.home x.home
  page : SamePage p v.home x.home
  pages : x.pages ≡ v.pages

kept_then : (p : ℕ) (u v x : HomeWork) → IsKept p u v → IsKept p v x → IsKept p u x
kept_then p u v x a b =
    record { life = life_then u.home v.home x.home a.life b.life; page = page_then p u.home v.home x.home a.page b.page; pages = b.pages ∙ a.pages }

kept_alike : (p : ℕ) (v x : HomeWork) → IsAlike v x → IsKept p v x
kept_alike p v x a = record { life = a.rest.life; page = page_beside p v.home x.home a.rest (a.copies p); pages = a.pages }

-- the page is brought
kept_brought : (p q version : ℕ) (image : Option (List ℕ)) (v x : HomeWork) → (q == p) ≡ false → IsBroughtTo q version image v x → IsKept p v x
kept_brought p q version image v x other (current is same) =
    subst (IsKept p v) (sym same) (record { life = life_self v.home; page = page_self p v.home; pages = refl })
kept_brought p q version image v x other (comes at is source rest copies pages) =
    record {
      life = rest.life;
      page = page_beside p v.home x.home rest (copies p ∙ ap (λ (b : Bool). pick b (Some (clean_copy at)) (copy_at v.home.pool p)) other);
      pages = pages;
    }

-- another place
turned : (p q : ℕ) → (q == p) ≡ false → (p == q) ≡ false
turned p q other = by (p == q) refl
  where
    by : (b : Bool) → (p == q) ≡ b → b ≡ false
    by true is = absurd (let same : p ≡ q = eqb-true p q is in grind (arith, nat_tests, other, same))
    by false is = refl

and_none : (a b : Bool) → b ≡ false → (a && b) ≡ false
and_none true b e = e
and_none false b e = refl

elsewhere : (t u : TxId) (p q : ℕ) → (q == p) ≡ false → is_place t q u p ≡ false
elsewhere t u p q other = and_none (same_tx u t) (p == q) (turned p q other)

-- an access of another page ends, which isn't seen at the page
wait_ended : (o : Option Pending) (p q : ℕ) → (q == p) ≡ false → wait_on (pick (waits_on o q) None o) p ≡ wait_on o p
wait_ended None p q other = by (waits_on None q)
  where
    by : (b : Bool) → wait_on (pick b None (let o : Option Pending = None in o)) p ≡ None
    by true = refl
    by false = refl
wait_ended (Some w) p q other = by (w.page == q) refl
  where
    by : (b : Bool) → (w.page == q) ≡ b → wait_on (pick b None (Some w)) p ≡ pick (w.page == p) (Some w.mode) None
    by true is =
        let at : w.page ≡ q = eqb-true w.page q is in
        sym (ap (λ (b : Bool). pick b (let m : Option Mode = Some w.mode in m) None) (ap (λ (k : ℕ). k == p) at ∙ other))
    by false is = refl

-- the transaction gets its lock
kept_locked : (p : ℕ) (t : TxId) (l : Held) (v : HomeWork) → (l.page == p) ≡ false → HasLock t l v.home.txs (add v.home.txs t l) → IsKept p v (with_lock_of t l v)
kept_locked p t l v other has =
    record {
      life = record { config = refl; node = has.named.0; born = has.named.1; last = has.named.2; alive = has.alive };
      page =
          record {
            uses =
                record {
                  held = λ u. has.other_held u p (elsewhere t u p l.page other);
                  waits = λ u. waits u (same_tx u t) refl;
                  bytes = λ u. refl;
                  runs = λ u. refl;
                };
            copy = refl;
            right = refl;
          };
      pages = refl;
    }
  where
    waits : (u : TxId) (b : Bool) → same_tx u t ≡ b → wait_on (pending_of (add v.home.txs t l) u) p ≡ wait_on (pending_of v.home.txs u) p
    waits u true is =
        let same : u ≡ t = tx_equal u t is in
        ap (λ (k : TxId). wait_on (pending_of (add v.home.txs t l) k) p) same
        ∙ ap (λ (o : Option Pending). wait_on o p) has.waits
        ∙ wait_ended (pending_of v.home.txs t) p l.page other
        ∙ sym (ap (λ (k : TxId). wait_on (pending_of v.home.txs k) p) same)
    waits u false is = ap (λ (o : Option Pending). wait_on o p) (has.other_waits u is)

-- the access is done
kept_written : (p q : ℕ) (t : TxId) (write : ℕ × List ℕ) (v : HomeWork) (g : Granted) → (q == p) ≡ false → IsWritten t q write v g → IsKept p v g.work
kept_written p q t write v g other is =
    record {
      life = is.life;
      page =
          record {
            uses =
                record {
                  held = λ u. is.locks.held u p;
                  waits = λ u. ap (λ (o : Option Pending). wait_on o p) (is.locks.waits u);
                  bytes = λ u. is.other_bytes u p (elsewhere t u p q other);
                  runs = λ u. is.other_runs u p (elsewhere t u p q other);
                };
            copy = is.copies p;
            right = ap version_of_right (is.rights p);
          };
      pages = is.pages;
    }

-- a home's work that is kept isn't seen, where its calls write pages alone
unseen_kept : (c : Cluster) (e : Event) (n p : ℕ) (w : Work) (x : HomeWork) → IsKept p (work_of_home w) x → CalledBy n c.disk (work_of_home w) → CalledBy n c.disk x
    → BeginsWith w.calls x.calls → IsUnseen c e n p w (with_home_work w x)
unseen_kept c e n p w x is called after begins =
    homes_elsewhere_law c e n p w x is.life is.page
    (subst (SameStored c.config p (disk_of c n w)) (disk_same (disk_of c n w) (all_done n c.disk x.calls) (sym called ∙ sym is.pages ∙ after) (sym (logs_after n c.disk w.calls x.calls begins)))
    (λ disk log old. old))

-- a value of an outcome that goes
on_goes : {X : Type 0} (P : X → Type 0) (o : Outcome X) (x : X) → o ≡ Goes x → On P o → P x
on_goes P o x is on = subst (On P) is on

-- what a performed access is to another page: its reply isn't seen either
performed : (c : Cluster) (e : Event) (n p : ℕ) (t : TxId) (q : ℕ) (o : Option (ℕ × List ℕ)) (k : HomeWork) (w : Work) → (q == p) ≡ false → p ≢ q
    → ((write : ℕ × List ℕ) → o ≡ Some write → has_private k.home.pool t q ≡ true) → ((write : ℕ × List ℕ) → o ≡ Some write → asked_last t (trace_of c e n w) ≡ Some write)
    → IsKept p k (perform t q o k).work × IsUnseen c e n p w (reply (perform t q o k).reply w)
performed c e n p t q None k w other apart private asked =
    let is = reading_is_seen_law t q k in (
      kept_alike p k (perform t q None k).work is.work,
      subst (λ (r : Reply). IsUnseen c e n p w (reply r w)) (sym is.reply)
          (reads_elsewhere_law c e n p q (version_or (find k.home.pool q)) t (bytes_read k.home.pool t q) w apart),
    )
performed c e n p t q (Some write) k w other apart private asked =
    let is = writing_is_seen_law t q write k (private write refl) in (
      kept_written p q t write k (perform t q (Some write) k) other is,
      subst (λ (r : Reply). IsUnseen c e n p w (reply r w)) (sym is.reply)
          (writes_elsewhere_law c e n p q (version_or (find k.home.pool q)) t write w apart (asked write refl)),
    )

-- bringing a page leaves the private copies
bring_privates : (q version : ℕ) (image : Option (List ℕ)) (v : HomeWork) → On (λ (x : HomeWork). x.home.pool.privates ≡ v.home.pool.privates) (bring q version image v)
unfolding bring install
bring_privates q version image v = by (is_version (find v.home.pool q) version) image
  where
    disk : (at : PageAt) (b : Bool) → On (λ (x : HomeWork). x.home.pool.privates ≡ v.home.pool.privates) (pick b (Goes (on_pool (λ k. install k q (clean_copy at)) v)) (Differs q version at.version))
    disk at true = refl
    disk at false = tt

    by : (b : Bool) (o : Option (List ℕ)) → On (λ (x : HomeWork). x.home.pool.privates ≡ v.home.pool.privates) (unless_current b q version o v)
    by true o = refl
    by false (Some bytes) = refl
    by false None =
        on_then (λ (at : PageAt). ⊤) (λ (x : HomeWork). x.home.pool.privates ≡ v.home.pool.privates) (read_page v.pages q) (from_disk q version v) (on_any (read_page v.pages q))
        (λ at any. disk at (at.version == version))

-- and which transactions are open
brought_open : (q version : ℕ) (image : Option (List ℕ)) (v x : HomeWork) (t : TxId) → IsBroughtTo q version image v x → is_open x.home.txs t ≡ is_open v.home.txs t
brought_open q version image v x t (current same is) = ap (λ (y : HomeWork). is_open y.home.txs t) is
brought_open q version image v x t (comes at same source rest copies pages) = rest.life.alive t

pub grants_elsewhere_law : GrantsElsewhere
grants_elsewhere_law c e n p t l version image w g other may goes =
    unseen_then c e n p w x (told w g)
    (unseen_kept c e n p w g.work (kept_then p v is.work g.work brought (kept_then p is.work k g.work locked performed_kept)) may.called
    (on_goes (λ (y : Granted). CalledBy n c.disk y.work) (granted t l version image v) g goes (granted_called n c.disk t l version image v may.called))
    (on_goes (λ (y : Granted). BeginsWith w.calls y.work.calls) (granted t l version image v) g goes (granted_writes w.calls t l version image v (begun w.calls))))
    (subst (λ (y : Granted). IsUnseen c e n p x (reply y.reply x)) (sym is.done) done.1)
  where
    v : HomeWork
    v = work_of_home w

    x : Work
    x = with_home_work w g.work

    is : IsCarriedOut t l version image v g
    is = grant_is_seen_law t l version image v g goes

    apart : p ≢ l.page
    apart same = absurd (grind (arith, nat_tests, other, same))

    to : IsBroughtTo l.page version image v is.work
    to = bringing_is_seen_law l.page version image v is.work may.slot is.brought

    brought : IsKept p v is.work
    brought = kept_brought p l.page version image v is.work other to

    k : HomeWork
    k = with_lock_of t l is.work

    locked : IsKept p is.work k
    locked = kept_locked p t l is.work other (locking_is_seen_law is.work.home.txs t l (brought_open l.page version image v is.work t to ∙ may.opened))

    private : (write : ℕ × List ℕ) → write_of (pending_of v.home.txs t) ≡ Some write → has_private k.home.pool t l.page ≡ true
    private write some =
        ap (λ (xs : List PrivateCopy). is_some (private_in xs t l.page))
        (on_goes (λ (y : HomeWork). y.home.pool.privates ≡ v.home.pool.privates) (bring l.page version image v) is.work is.brought (bring_privates l.page version image v))
        ∙ may.private write some

    done : IsKept p k (perform t l.page (write_of (pending_of v.home.txs t)) k).work × IsUnseen c e n p x (reply (perform t l.page (write_of (pending_of v.home.txs t)) k).reply x)
    done = performed c e n p t l.page (write_of (pending_of v.home.txs t)) k x other apart private may.asked

    performed_kept : IsKept p k g.work
    performed_kept = subst (λ (y : Granted). IsKept p k y.work) (sym is.done) done.0
