-- Copies that are let go, and the frames of an access.
use Rattle.std.proofs.Common.{◌≡◌, ◌≢◌, refl, ap, sym, subst, ◌∙◌, ℕ, ◌<◌, ◌^◌, ◌==◌, ◌&&◌, Bool, true, false, List, [], ◌∷◌, ◌++◌, append_assoc, slice_set, Option, Some, None, arith, eqb-true}
use Rattle.std.proofs.lemmas.Bool.Decides.{nat_tests}
use Rattle.std.proofs.lemmas.List.Sums.{fold-append}
use Rattle.pcl_base.specs.declared.event.Event.{Event}
use Rattle.pcl_base.specs.declared.tx.TxId.{TxId}
use Rattle.text_rules.specs.StoredPage.{stored_bytes}
use Rattle.run_rules.specs.Disk.{Disk}
use Rattle.node_rules.specs.AccessRule.{take_frames}
use Rattle.node_rules.specs.BufferRule as buffer
use Rattle.node_rules.specs.BufferRule.{copy_at, dirty, is_dirty_copy}
use Rattle.node_rules.specs.DiskCalls.{DiskCall, WritePage, done, all_done}
use Rattle.node_rules.specs.NodeState.{HomeState}
use Rattle.node_rules.specs.Words.{pick}
use Rattle.node_rules.specs.Work.{HomeWork, Work, work_of_home, with_home_work}
use Rattle.node_laws.proofs.Lists.{all_append}
use Rattle.cluster_rules.specs.Clusters.{Cluster}
use Rattle.cluster_laws.specs.Call.Calls.{IsWrite, BeginsWith}
use Rattle.cluster_laws.proofs.CallParts.Disks.{writes_keep_logs_law}
use Rattle.cluster_laws.proofs.CallParts.Written.{begun, pushed as pushed_call, frames_writes}
use Rattle.page_laws.specs.Look.Buffers.{stored_copy, HasLeft, LetsGo, all, one, is_used_by}
use Rattle.page_laws.specs.Look.Parts.{SameBesideCopies}
use Rattle.page_laws.proofs.LookParts.Copies.{frames_are_seen_law}
use Rattle.page_protocol.specs.Bytes.{Copy}
use Rattle.page_protocol.specs.State.{Page, IsClosed}
use Rattle.page_protocol.specs.State as machine
use Rattle.page_protocol.specs.Steps.{flushes, evicts, here, then}
use Rattle.page_protocol.specs.Storage.{flushing, evicting}
use Rattle.page_protocol.proofs.Keeps.{reached_holds}
use Rattle.page_relation.specs.Looks.{copy_in}
use Rattle.page_relation.specs.Relation.{CopiesAre}
use Rattle.page_laws.specs.Storage.Looks.{IsStored}
use Rattle.page_relation.specs.Work.Events.{IsEntered, IsUnused}
use Rattle.page_relation.specs.Work.Keeping.{Leads}
use Rattle.page_relation.specs.Work.Landing.{land, disk_of}
use Rattle.page_relation.specs.Work.Letting.{CalledBy, LettingGoLeads, FramesKeep}
use Rattle.page_relation.specs.Work.Rest.{SameRest}
use Rattle.page_relation.specs.Work.Unseen.{SameStored, IsUnseen}
use Rattle.page_relation.proofs.WorkParts.Called.{pushed, frames_called}
use Rattle.page_relation.proofs.WorkParts.Framing.{life_self, page_self, unseen_is_kept_law}
use Rattle.page_relation.proofs.WorkParts.Kept.{reached_on, leads_on}
use Rattle.page_relation.proofs.WorkParts.Quiet.{homes_elsewhere_law, calls_elsewhere_law}
use Rattle.page_relation.proofs.WorkParts.Storing.{IsHere, has_page, page_beside, slot_here, dirty_here, slot_there, dirty_there, copies_by, stored_alone, stored_is, closed_here, flushing_stores, evicting_rest, evicting_copies, evicting_entered, evicting_stores, both_left, both_right, left_out, none_of, own_page}

-- some calls, and then page writes, and then page writes
begins_then : (front middle calls : List DiskCall) → BeginsWith front middle → BeginsWith middle calls → BeginsWith front calls
begins_then front middle calls a b =
    record {
      writes = a.writes ++ b.writes;
      all = all_append IsWrite a.writes b.writes a.all b.all;
      joined = b.joined ∙ ap (λ (xs : List DiskCall). xs ++ b.writes) a.joined ∙ append_assoc front a.writes b.writes;
    }

-- they leave the logs
pub logs_after : (n : ℕ) (d : Disk) (front calls : List DiskCall) → BeginsWith front calls → (all_done n d calls).logs ≡ (all_done n d front).logs
logs_after n d front calls b =
    ap (λ (xs : List DiskCall). (all_done n d xs).logs) b.joined
    ∙ ap (λ (x : Disk). x.logs) (fold-append (done n) d front b.writes)
    ∙ writes_keep_logs_law n (all_done n d front) b.writes b.all

-- the same pages and logs are the same disk
pub disk_same : (d f : Disk) → d.pages ≡ f.pages → d.logs ≡ f.logs → d ≡ f
disk_same d f pages logs = (λ i. record { pages = pages i; logs = logs i })

-- a home's work with other calls
abbrev calling : HomeWork → List DiskCall → HomeWork
calling x calls = record x { calls = calls }

-- what is known once copies were let go: calls that lead to the home, with its pages
record IsLet (c : Cluster) (e : Event) (n p : ℕ) (w : Work) (x : HomeWork) (a : Page) : Type 0 where
  calls : List DiskCall
  begins : BeginsWith w.calls calls
  called : x.pages ≡ (all_done n c.disk calls).pages
  leads : Leads c e n p (λ y b. IsEntered b) a (with_home_work w (calling x calls))

-- the machine's flush and eviction
both_rest : (a : Page) (x : Copy) (n : ℕ) → SameRest a (evicting (flushing a x) n)
unfolding evicting flushing
both_rest a x n =
    record { now = refl; hist = refl; reached = refl; right = refl; home = refl; script = refl; image = refl; era = refl; owner = refl; served = refl; entry = refl; sent = refl; listed = refl }

both_copies : (c : Cluster) (e : Event) (n p : ℕ) (w x : Work) (a : Page) (y : Copy) → IsHere c e n p w a → copy_at x.node.home.pool p ≡ None → n ≡ a.owner
    → CopiesAre (land c e n x) p (evicting (flushing a y) n).slot (evicting (flushing a y) n).owner (evicting (flushing a y) n).dirty
unfolding evicting flushing
both_copies c e n p w x a y h copy owner =
    copies_by c e n p x (evicting (flushing a y) n).slot a.owner false h.acts
    (ap copy_in copy ∙ ap (λ (b : Bool). machine.pick b None (a.slot n)) (sym (own_page n)))
    (ap is_dirty_copy copy)
    (λ m other. slot_there c e n p w a h m other ∙ ap (λ (b : Bool). machine.pick b None (a.slot m)) (sym other))
    (λ m other. dirty_there c e n p w a h m other ∙ none_of a.dirty (m == a.owner) (ap (λ (k : ℕ). m == k) (sym owner) ∙ other))

both_entered : (a : Page) (x : Copy) (n : ℕ) → IsEntered (evicting (flushing a x) n)
unfolding evicting flushing
both_entered a x n y on there = absurd (cc)

both_stores : (c : Cluster) (n p : ℕ) (d : Disk) (a : Page) (x : Copy) → IsStored c.config d p (flushing a x).disk (flushing a x).log
    → IsStored c.config d p (evicting (flushing a x) n).disk (evicting (flushing a x) n).log
unfolding evicting
both_stores c n p d a x is = is

unmarked_then : (a : Page) (x : Copy) → (flushing a x).dirty ≡ false
unfolding flushing
unmarked_then a x = refl

closed_then : (a : Page) (x : Copy) (n : ℕ) → ((t : TxId) → t.node ≡ n → IsClosed (a.home t)) → (t : TxId) → t.node ≡ n → IsClosed ((flushing a x).home t)
unfolding flushing
closed_then a x n closed = closed

-- a dirty copy of the page leaves
leaves_dirty : (c : Cluster) (e : Event) (n p : ℕ) (w : Work) (m : HomeWork) (a : Page) → IsHere c e n p w a → HasLeft p (work_of_home w) m → IsUnused p w
    → (x : buffer.Copy) → copy_at w.node.home.pool p ≡ Some x → x.dirty ≡ true
    → Leads c e n p (λ y b. IsEntered b) a (with_home_work w (calling m (w.calls ++ WritePage p (stored_bytes p (stored_copy x)) ∷ [])))
leaves_dirty c e n p w m a h left unused x there mark =
    record {
      page = evicting (flushing a own) n;
      run =
          then (then here (flushes own dirty_is slot_is (h.entered own dirty_is slot_is)))
          (evicts n (λ is. unmarked_then a own) (closed_then a own n (closed_here c e n p w a h.acts h.related unused)));
      related =
          stored_alone c e n p w y a (evicting (flushing a own) n) h.acts h.related (both_rest a own n) refl refl refl refl refl left.rest
          (both_stores c n p (disk_of c n y) a own (flushing_stores c n p w a own (has_page c n p w.calls h.acts h.low) fits (stored_is c e n p w a h.related)))
          (both_copies c e n p w y a own h
          (left.copies p ∙ ap (λ (b : Bool). pick b None (copy_at w.node.home.pool p)) (own_page p)) owner_is);
      known = both_entered a own n;
    }
  where
    own : Copy
    own = record { version = x.version; bytes = x.bytes }

    y : Work
    y = with_home_work w (calling m (w.calls ++ WritePage p (stored_bytes p (stored_copy x)) ∷ []))

    marks : true ≡ (a.dirty && n == a.owner)
    marks = sym (ap is_dirty_copy there ∙ mark) ∙ dirty_here c e n p w a h

    dirty_is : a.dirty ≡ true
    dirty_is = both_left a.dirty (n == a.owner) marks

    owner_is : n ≡ a.owner
    owner_is = eqb-true n a.owner (both_right a.dirty (n == a.owner) marks)

    slot_is : a.slot a.owner ≡ Some own
    slot_is = ap a.slot (sym owner_is) ∙ sym (slot_here c e n p w a h) ∙ ap copy_in there

    fits : own.version < 2 ^ 64
    fits =
        let old = ((reached_holds h.blank a h.reached).stores_hold.slots_are a.owner own slot_is).old in
        let below = h.related.history.below in
        omega (arith, old, below)

-- a clean one leaves
leaves_clean : (c : Cluster) (e : Event) (n p : ℕ) (w : Work) (m : HomeWork) (a : Page) → IsHere c e n p w a → HasLeft p (work_of_home w) m → IsUnused p w
    → dirty w.node.home.pool p ≡ false → Leads c e n p (λ y b. IsEntered b) a (with_home_work w (calling m w.calls))
leaves_clean c e n p w m a h left unused clean_is =
    record {
      page = evicting a n;
      run =
          then here
          (evicts n (λ is. left_out a.dirty (n == a.owner) (ap (λ (k : ℕ). n == k) (sym is) ∙ own_page n) (sym clean_is ∙ dirty_here c e n p w a h))
          (closed_here c e n p w a h.acts h.related unused));
      related =
          stored_alone c e n p w (with_home_work w (calling m w.calls)) a (evicting a n) h.acts h.related (evicting_rest a n) refl refl refl refl refl left.rest
          (evicting_stores c n p w a (stored_is c e n p w a h.related))
          (evicting_copies c e n p w (with_home_work w (calling m w.calls)) a h
          (left.copies p ∙ ap (λ (b : Bool). pick b None (copy_at w.node.home.pool p)) (own_page p)) clean_is);
      known = evicting_entered a n h.entered;
    }

-- a copy of another page leaves
leaves_other : (c : Cluster) (e : Event) (n p q : ℕ) (w : Work) (m : HomeWork) (a : Page) (calls : List DiskCall) → IsHere c e n p w a → HasLeft q (work_of_home w) m
    → (q == p) ≡ false → SameStored c.config p (disk_of c n w) (all_done n c.disk calls) → Leads c e n p (λ y b. IsEntered b) a (with_home_work w (calling m calls))
leaves_other c e n p q w m a calls h left other stored =
    record {
      page = a;
      run = here;
      related =
          unseen_is_kept_law c e n p w (with_home_work w (calling m calls)) a h.acts
          (homes_elsewhere_law c e n p w (calling m calls) left.rest.life
          (page_beside p w.node.home m.home left.rest (left.copies p ∙ ap (λ (b : Bool). pick b None (copy_at w.node.home.pool p)) other)) stored)
          h.related;
      known = h.entered;
    }

-- the copy of a dirty page
dirty_copy : (o : Option buffer.Copy) → is_dirty_copy o ≡ true → (x : buffer.Copy) × (o ≡ Some x) × (x.dirty ≡ true)
dirty_copy None e = absurd (cc)
dirty_copy (Some x) e = (x, refl, e)

-- one copy leaves
one_leaves : (c : Cluster) (e : Event) (n p q : ℕ) (w : Work) (m : HomeWork) (a : Page) → IsHere c e n p w a → HasLeft q (work_of_home w) m → IsUnused q w
    → CalledBy n c.disk (work_of_home w) → IsLet c e n p w m a
one_leaves c e n p q w m a h left unused called = by (dirty w.node.home.pool q) refl
  where
    apart : (q == p) ≡ false → p ≢ q
    apart other same = absurd (grind (arith, nat_tests, other, same))

    clean_leads : dirty w.node.home.pool q ≡ false → (b : Bool) → (q == p) ≡ b → Leads c e n p (λ y b. IsEntered b) a (with_home_work w (calling m w.calls))
    clean_leads unmarked true same =
        let is : q ≡ p = eqb-true q p same in
        leaves_clean c e n p w m a h (subst (λ (k : ℕ). HasLeft k (work_of_home w) m) is left) (subst (λ (k : ℕ). IsUnused k w) is unused)
        (subst (λ (k : ℕ). dirty w.node.home.pool k ≡ false) is unmarked)
    clean_leads unmarked false other = leaves_other c e n p q w m a w.calls h left other (λ disk log is. is)

    dirty_leads : (x : buffer.Copy) → copy_at w.node.home.pool q ≡ Some x → x.dirty ≡ true → (b : Bool) → (q == p) ≡ b
        → Leads c e n p (λ y b. IsEntered b) a (with_home_work w (calling m (w.calls ++ WritePage q (stored_bytes q (stored_copy x)) ∷ [])))
    dirty_leads x there mark true same =
        let is : p ≡ q = sym (eqb-true q p same) in
        subst (λ (k : ℕ). Leads c e n p (λ y b. IsEntered b) a (with_home_work w (calling m (w.calls ++ WritePage k (stored_bytes k (stored_copy x)) ∷ [])))) is
        (leaves_dirty c e n p w m a h (subst (λ (k : ℕ). HasLeft k (work_of_home w) m) (sym is) left) (subst (λ (k : ℕ). IsUnused k w) (sym is) unused) x
        (subst (λ (k : ℕ). copy_at w.node.home.pool k ≡ Some x) (sym is) there) mark)
    dirty_leads x there mark false other =
        leaves_other c e n p q w m a (w.calls ++ WritePage q (stored_bytes q (stored_copy x)) ∷ []) h left other
        (calls_elsewhere_law c n p w.calls (WritePage q (stored_bytes q (stored_copy x)) ∷ []) (apart other, tt))

    by : (b : Bool) → dirty w.node.home.pool q ≡ b → IsLet c e n p w m a
    by false unmarked =
        record { calls = w.calls; begins = begun w.calls; called = left.stored.unwritten unmarked ∙ called; leads = clean_leads unmarked (q == p) refl }
    by true marked =
        let copy = dirty_copy (copy_at w.node.home.pool q) marked in
        record {
          calls = w.calls ++ WritePage q (stored_bytes q (stored_copy copy.0)) ∷ [];
          begins = pushed_call w.calls w.calls q (stored_bytes q (stored_copy copy.0)) (begun w.calls);
          called = left.stored.written copy.0 copy.1 copy.2 ∙ pushed n c.disk w.pages w.calls q (stored_bytes q (stored_copy copy.0)) called;
          leads = dirty_leads copy.0 copy.1 copy.2 (q == p) refl;
        }

-- what left one home left another that has the same
left_of_same : (q : ℕ) (v u m : HomeWork) → u.home ≡ v.home → u.pages ≡ v.pages → HasLeft q v m → HasLeft q u m
left_of_same q v u m homes pages left =
    record {
      rest = subst (λ (h : HomeState). SameBesideCopies h m.home) (sym homes) left.rest;
      copies = λ r. left.copies r ∙ ap (λ (h : HomeState). pick (q == r) None (copy_at h.pool r)) (sym homes);
      stored =
          record {
            written = λ x there mark.
                left.stored.written x (ap (λ (h : HomeState). copy_at h.pool q) (sym homes) ∙ there) mark
                ∙ ap (λ (ps : List (List ℕ)). slice_set ps q (stored_bytes q (stored_copy x))) (sym pages);
            unwritten = λ unmarked. left.stored.unwritten (ap (λ (h : HomeState). dirty h.pool q) (sym homes) ∙ unmarked) ∙ sym pages;
          };
    }

-- copies leave, one after the other
all_leave : (c : Cluster) (e : Event) (n p r : ℕ) (v x : HomeWork) → LetsGo r v x → (w : Work) (a : Page) → IsHere c e n p w a → w.node.home ≡ v.home → w.pages ≡ v.pages
    → CalledBy n c.disk (work_of_home w) → IsLet c e n p w x a
all_leave c e n p r v x (all _ _ alike) w a h homes pages called =
    record {
      calls = w.calls;
      begins = begun w.calls;
      called = alike.pages ∙ sym pages ∙ called;
      leads =
          record {
            page = a;
            run = here;
            related =
                unseen_is_kept_law c e n p w (with_home_work w (calling x w.calls)) a h.acts
                (homes_elsewhere_law c e n p w (calling x w.calls) beside.life
                (page_beside p w.node.home x.home beside (alike.copies p ∙ ap (λ (k : HomeState). copy_at k.pool p) (sym homes))) (λ disk log is. is))
                h.related;
            known = h.entered;
          };
    }
  where
    beside : SameBesideCopies w.node.home x.home
    beside = subst (λ (k : HomeState). SameBesideCopies k x.home) (sym homes) alike.rest
all_leave c e n p r v x (one _ m _ q apart unused left rest) w a h homes pages called =
    let first = one_leaves c e n p q w m a h (left_of_same q v (work_of_home w) m homes pages left) (λ t. ap (λ (k : HomeState). is_used_by k.txs q t) homes ∙ unused t) called in
    let next : Work = with_home_work w (calling m first.calls) in
    let second =
    all_leave c e n p r m x rest next first.leads.page
    (record {
      acts = h.acts;
      low = h.low;
      blank = h.blank;
      reached = reached_on h.blank a first.leads.page h.reached first.leads.run;
      related = first.leads.related;
      entered = first.leads.known;
    })
    refl refl first.called in
    record {
      calls = second.calls;
      begins = begins_then w.calls first.calls second.calls first.begins second.begins;
      called = second.called;
      leads = leads_on c e n p (λ y b. IsEntered b) a first.leads.page (with_home_work w (calling x second.calls)) first.leads.run second.leads;
    }

pub letting_go_leads_law : LettingGoLeads
letting_go_leads_law c e n p r w x blank a acts low reached related entered lets begins called after =
    record {
      page = let_be.leads.page;
      run = let_be.leads.run;
      related = unseen_is_kept_law c e n p y (with_home_work w x) let_be.leads.page acts same let_be.leads.related;
      known = let_be.leads.known;
    }
  where
    let_be : IsLet c e n p w x a
    let_be =
        all_leave c e n p r (work_of_home w) x lets w a
        (record { acts = acts; low = low; blank = blank; reached = reached; related = related; entered = entered }) refl refl called

    y : Work
    y = with_home_work w (calling x let_be.calls)

    disks : all_done n c.disk let_be.calls ≡ all_done n c.disk x.calls
    disks =
        disk_same (all_done n c.disk let_be.calls) (all_done n c.disk x.calls) (sym let_be.called ∙ after)
        (logs_after n c.disk w.calls let_be.calls let_be.begins ∙ sym (logs_after n c.disk w.calls x.calls begins))

    same : IsUnseen c e n p y (with_home_work w x)
    same =
        homes_elsewhere_law c e n p y x (life_self x.home) (page_self p x.home)
        (subst (SameStored c.config p (all_done n c.disk let_be.calls)) disks (λ disk log is. is))

pub frames_keep_law : FramesKeep
frames_keep_law c e n p access acts low blank w x a reached related known goes =
    let same : with_home_work w (take_frames access (work_of_home w)) ≡ x = cc in
    subst (λ (y : Work). Leads c e n p (λ z b. IsEntered b) a y) same
    (letting_go_leads_law c e n p access.page w (take_frames access (work_of_home w)) blank a acts low reached related known.entered
    (frames_are_seen_law access (work_of_home w) known.home known.allowed) (frames_writes w.calls access (work_of_home w) (begun w.calls)) known.called
    (frames_called n c.disk access (work_of_home w) known.called))
