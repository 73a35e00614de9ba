-- Copies that are written back and leave.
use Rattle.std.proofs.Common.{◌≡◌, ◌≢◌, refl, ap, sym, subst, ◌∙◌, ℕ, ◌<◌, ◌≤◌, ◌^◌, ◌==◌, ◌&&◌, ◌||◌, Bool, true, false, List, [], ◌∷◌, ◌++◌, length, map, slice_index_or, Option, Some, None, is_some, arith, eqb-true}
use Rattle.std.specs.List.{filter}
use Rattle.std.proofs.lemmas.Bool.Decides.{nat_tests}
use Rattle.std.proofs.lemmas.List.Sums.{fold-append}
use Rattle.pcl_base.specs.declared.event.Event.{Event}
use Rattle.pcl_base.specs.declared.lock.Held.{Held}
use Rattle.pcl_base.specs.declared.lock.Pending.{Pending}
use Rattle.pcl_base.specs.declared.tx.Mode.{Mode}
use Rattle.pcl_base.specs.declared.tx.TxId.{TxId}
use Rattle.text_rules.specs.StoredPage.{stored_bytes}
use Rattle.run_rules.specs.Disk.{Disk}
use Rattle.run_rules.specs.Now.{now}
use Rattle.node_rules.specs.AccessRule.{on_pool}
use Rattle.node_rules.specs.BufferRule as buffer
use Rattle.node_rules.specs.BufferRule.{copy_at, cleaned, clean, dirty, is_dirty_copy, evict}
use Rattle.node_rules.specs.DiskCalls.{DiskCall, WritePage, Force, TrimLog, CutLog, done, all_done}
use Rattle.node_rules.specs.LockTable.{LockTable}
use Rattle.node_rules.specs.NodeState.{HomeState, Outgoing, partition, table_at}
use Rattle.node_rules.specs.OpenTxs.{held_by, pending_of, waits_on, is_open}
use Rattle.node_rules.specs.Words.{pick}
use Rattle.node_rules.specs.Work.{HomeWork, Work, with_pool, work_of_home, with_home_work, write_page, write_copy, write_back}
use Rattle.node_laws.proofs.Lists.{set_length}
use Rattle.cluster_rules.specs.Clusters.{Cluster, node_at, last_view, sent_by}
use Rattle.cluster_rules.specs.ClusterStep.{is_taken}
use Rattle.cluster_laws.specs.Link.Coming.{sent_to}
use Rattle.page_laws.specs.Look.Buffers.{IsCleaned, stored_copy, HasLeft, is_used_by}
use Rattle.page_laws.specs.Look.Ends.{version_of_right}
use Rattle.page_laws.specs.Look.Parts.{SameBesideCopies}
use Rattle.page_laws.proofs.LookParts.Copies.{cleaning_is_seen_law, writing_back_is_seen_law, leaving_is_seen_law}
use Rattle.page_protocol.specs.Bytes.{Copy}
use Rattle.page_laws.specs.Moment.Looks.{accesses_in, with_entry}
use Rattle.page_protocol.specs.State.{Home, Fresh, Page, current, IsFresh, IsClosed}
use Rattle.page_protocol.specs.State as machine
use Rattle.page_protocol.specs.Steps.{flushes, evicts, here, then, Reached}
use Rattle.page_protocol.specs.Storage.{flushing, evicting}
use Rattle.page_protocol.proofs.Keeps.{reached_holds}
use Rattle.page_laws.specs.Storage.Stored.{HasPage}
use Rattle.page_laws.proofs.StorageParts.AsSteps.{pages_are_written_law}
use Rattle.page_relation.specs.Homes.{wait_on, Stands, StandsIn, is_unborn}
use Rattle.page_relation.specs.Looks.{copy_in, slot_in, slot_of, dirty_in, dirty_of}
use Rattle.page_relation.specs.Relation.{CopiesAre}
use Rattle.page_laws.specs.Storage.Looks.{IsStored, page_of}
use Rattle.page_relation.specs.Work.Events.{IsEntered, back, gone, IsUnused, BackKeeps, GoneKeeps}
use Rattle.page_relation.specs.Work.Keeping.{IsWorkOf, Leads}
use Rattle.page_relation.specs.Work.Landing.{land, Acts, trace_of, disk_of}
use Rattle.page_relation.specs.Work.Rest.{SameRest, RestIs}
use Rattle.page_relation.specs.Work.Unseen.{SameStanding, SameUse, SameCopy, SameTable, SameStored, SameTold, speaks, SamePage, IsUnseen}
use Rattle.page_relation.proofs.WorkParts.Framing.{entry_self, history_stays_law, homes_stay_law, nodes_stay_law, tables_stay_law, links_stay_law, unseen_is_kept_law}
use Rattle.page_relation.proofs.WorkParts.Kept.{reached_on, leads_on}
use Rattle.page_relation.proofs.WorkParts.Nodes.{of_node, at_node, at_other}
use Rattle.page_relation.proofs.WorkParts.Quiet.{homes_elsewhere_law, calls_elsewhere_law}
use Rattle.page_relation.proofs.WorkParts.Resting.{rest_stays_law}

-- ---- the disk

-- calls leave the number of pages
pages_long : (n : ℕ) (d : Disk) (calls : List DiskCall) → length (all_done n d calls).pages ≡ length d.pages
unfolding done
pages_long n d [] = refl
pages_long n d (WritePage q bytes ∷ calls) = pages_long n (done n d (WritePage q bytes)) calls ∙ set_length d.pages q bytes
pages_long n d (Force t bytes ∷ calls) = pages_long n (done n d (Force t bytes)) calls
pages_long n d (TrimLog keep ∷ calls) = pages_long n (done n d (TrimLog keep)) calls
pages_long n d (CutLog count ∷ calls) = pages_long n (done n d (CutLog count)) calls

pub has_page : (c : Cluster) (n p : ℕ) (calls : List DiskCall) → Acts c n → p < c.config.pages → HasPage c.config (all_done n c.disk calls) p
has_page c n p calls acts low = record { limits = acts.cluster.limits; count = pages_long n c.disk calls ∙ acts.cluster.disk.pages.0; page = low }

-- ---- what a home has of the page beside its copy

pub page_beside : (p : ℕ) (h g : HomeState) → SameBesideCopies h g → SameCopy p h g → SamePage p h g
page_beside p h g rest copy =
    record {
      uses =
          record {
            held = λ t. rest.locks.held t p;
            waits = λ t. ap (λ (o : Option Pending). wait_on o p) (rest.locks.waits t);
            bytes = λ t. rest.privates.bytes t p;
            runs = λ t. rest.privates.runs t p;
          };
      copy = copy;
      right = ap version_of_right (rest.rights p);
    }

-- ---- writing back

-- a dirty copy is written, and nothing is done with a clean one
back_by : (q : ℕ) (v : HomeWork) (P : HomeWork → Type 0) → (dirty v.home.pool q ≡ false → P v)
    → ((x : buffer.Copy) → copy_at v.home.pool q ≡ Some x → x.dirty ≡ true → P (record (write_page q (stored_copy x) v) { home = with_pool v.home (clean v.home.pool q) }))
    → P (write_back q v)
unfolding write_back
back_by q v P kept written = by (copy_at v.home.pool q) refl
  where
    of : (x : buffer.Copy) → copy_at v.home.pool q ≡ Some x → (d : Bool) → x.dirty ≡ d
        → P (pick d (record (write_page q (stored_copy x) v) { home = with_pool v.home (clean v.home.pool q) }) v)
    of x is true d = written x is d
    of x is false d = kept (ap is_dirty_copy is ∙ d)

    by : (o : Option buffer.Copy) → copy_at v.home.pool q ≡ o → P (write_copy q o v)
    by None is = kept (ap is_dirty_copy is)
    by (Some x) is = of x is x.dirty refl

-- what is known of a work once a copy was written back
pub record IsBack (q : ℕ) (w x : Work) : Type 0 where
  pub rest : SameBesideCopies w.node.home x.node.home
  pub clean : dirty x.node.home.pool q ≡ false

clean_now : (o : Option buffer.Copy) → is_dirty_copy (cleaned o) ≡ false
clean_now None = refl
clean_now (Some x) = refl

copy_cleaned : (o : Option buffer.Copy) → copy_in (cleaned o) ≡ copy_in o
copy_cleaned None = refl
copy_cleaned (Some x) = refl

pub own_page : (p : ℕ) → (p == p) ≡ true
own_page p = grind (arith, nat_tests)

pub is_back : (q : ℕ) (w : Work) → IsBack q w (back q w)
is_back q w =
    let seen = writing_back_is_seen_law q (work_of_home w) in
    record {
      rest = seen.home.rest;
      clean =
          ap is_dirty_copy (seen.home.copies q ∙ ap (λ (b : Bool). pick b (cleaned (copy_at w.node.home.pool q)) (copy_at w.node.home.pool q)) (own_page q))
          ∙ clean_now (copy_at w.node.home.pool q);
    }

-- a copy of another page
back_elsewhere : (c : Cluster) (e : Event) (n p q : ℕ) (w : Work) → (q == p) ≡ false → IsUnseen c e n p w (back q w)
back_elsewhere c e n p q w other =
    let seen = writing_back_is_seen_law q (work_of_home w) in
    homes_elsewhere_law c e n p w (write_back q (work_of_home w)) seen.home.rest.life
    (page_beside p w.node.home (write_back q (work_of_home w)).home seen.home.rest
    (seen.home.copies p ∙ ap (λ (b : Bool). pick b (cleaned (copy_at w.node.home.pool p)) (copy_at w.node.home.pool p)) other))
    (back_by q (work_of_home w) (λ h. SameStored c.config p (disk_of c n w) (all_done n c.disk h.calls)) (λ unwritten disk log is. is)
    (λ x there is. calls_elsewhere_law c n p w.calls (WritePage q (stored_bytes q (stored_copy x)) ∷ []) (apart, tt)))
  where
    apart : p ≢ q
    apart same = absurd (grind (arith, nat_tests, other, same))

-- both are so
pub both_left : (a b : Bool) → true ≡ (a && b) → a ≡ true
both_left true b e = refl
both_left false b e = absurd (cc)

pub both_right : (a b : Bool) → true ≡ (a && b) → b ≡ true
both_right true b e = sym e
both_right false b e = absurd (cc)

pub left_out : (a b : Bool) → b ≡ true → false ≡ (a && b) → a ≡ false
left_out true b is e = absurd (cc)
left_out false b is e = refl

pub none_of : (a b : Bool) → b ≡ false → (a && b) ≡ false
none_of true b e = e
none_of false b e = refl

-- a work and a state that are related
pub record IsHere (c : Cluster) (e : Event) (n p : ℕ) (w : Work) (a : Page) : Type 0 where
  pub acts : Acts c n
  pub low : p < c.config.pages
  pub blank : List ℕ
  pub reached : Reached blank a
  pub related : IsWorkOf c e n p w a
  pub entered : IsEntered a

-- the copy of the acting node
pub slot_here : (c : Cluster) (e : Event) (n p : ℕ) (w : Work) (a : Page) → IsHere c e n p w a → copy_in (copy_at w.node.home.pool p) ≡ a.slot n
unfolding slot_of
slot_here c e n p w a h = at_node c e n h.acts w n (λ o. slot_in o p ≡ a.slot n) refl (h.related.copies.slot_same n)

pub dirty_here : (c : Cluster) (e : Event) (n p : ℕ) (w : Work) (a : Page) → IsHere c e n p w a → dirty w.node.home.pool p ≡ (a.dirty && n == a.owner)
unfolding dirty_of
dirty_here c e n p w a h = at_node c e n h.acts w n (λ o. dirty_in o p ≡ (a.dirty && n == a.owner)) refl (h.related.copies.dirty_same n)

-- the copies of other nodes
pub slot_there : (c : Cluster) (e : Event) (n p : ℕ) (w : Work) (a : Page) → IsHere c e n p w a → (m : ℕ) → (m == n) ≡ false → slot_in (node_at c m) p ≡ a.slot m
unfolding slot_of
slot_there c e n p w a h m other = at_other c e n h.acts w m (λ o. slot_in o p ≡ a.slot m) other (h.related.copies.slot_same m)

pub dirty_there : (c : Cluster) (e : Event) (n p : ℕ) (w : Work) (a : Page) → IsHere c e n p w a → (m : ℕ) → (m == n) ≡ false → dirty_in (node_at c m) p ≡ (a.dirty && m == a.owner)
unfolding dirty_of
dirty_there c e n p w a h m other = at_other c e n h.acts w m (λ o. dirty_in o p ≡ (a.dirty && m == a.owner)) other (h.related.copies.dirty_same m)

-- copies by the acting node and the others
pub copies_by : (c : Cluster) (e : Event) (n p : ℕ) (x : Work) (slot : ℕ → Option Copy) (owner : ℕ) (mark : Bool) → Acts c n
    → copy_in (copy_at x.node.home.pool p) ≡ slot n → dirty x.node.home.pool p ≡ (mark && n == owner)
    → ((m : ℕ) → (m == n) ≡ false → slot_in (node_at c m) p ≡ slot m) → ((m : ℕ) → (m == n) ≡ false → dirty_in (node_at c m) p ≡ (mark && m == owner))
    → CopiesAre (land c e n x) p slot owner mark
unfolding slot_of dirty_of
copies_by c e n p x slot owner mark acts ours marked theirs others =
    record {
      slot_same = λ m. of_node c e n acts x m (λ o. slot_in o p ≡ slot m) (λ same. subst (λ (k : ℕ). copy_in (copy_at x.node.home.pool p) ≡ slot k) (sym same) ours) (theirs m);
      dirty_same = λ m.
          of_node c e n acts x m (λ o. dirty_in o p ≡ (mark && m == owner))
          (λ same. subst (λ (k : ℕ). dirty x.node.home.pool p ≡ (mark && k == owner)) (sym same) marked) (others m);
    }

-- a work that changes the copy and what is stored alone, with a state of the machine that does
pub stored_alone : (c : Cluster) (e : Event) (n p : ℕ) (w x : Work) (a b : Page) → Acts c n → IsWorkOf c e n p w a → SameRest a b
    → x.replies ≡ w.replies → x.sends ≡ w.sends → x.node.tables ≡ w.node.tables → x.node.epoch ≡ w.node.epoch → x.node.view ≡ w.node.view
    → SameBesideCopies w.node.home x.node.home → IsStored c.config (disk_of c n x) p b.disk b.log → CopiesAre (land c e n x) p b.slot b.owner b.dirty
    → IsWorkOf c e n p x b
unfolding land
stored_alone c e n p w x a b acts is same replies sends tables epoch view beside stored copies =
    record {
      history = rest.history (history_stays_law c e n p w x a.hist (current a) told is.history);
      stored = stored;
      copies = copies;
      homes = rest.homes (homes_stay_law c e n p w x (current a) a acts standing beside.life uses told is.homes);
      nodes = rest.nodes (nodes_stay_law c e n p (partition c.config p) a.era w x a.right a.reached acts standing (ap version_of_right (beside.rights p)) is.nodes);
      tables = rest.tables (tables_stay_law c e n p (partition c.config p) w x a acts standing entries is.tables);
      links =
          rest.links
          (links_stay_law c e n p (partition c.config p) w x a acts standing (ap is_taken replies) (λ b. ap (λ (os : List Outgoing). filter (speaks c.config p) (sent_to b os)) sends) is.links);
    }
  where
    rest : RestIs (land c e n x) p (partition c.config p) a b
    rest = rest_stays_law (land c e n x) p (partition c.config p) a b same

    traces : trace_of c e n x ≡ trace_of c e n w
    traces = (λ i. with_entry c.trace e (replies i) (map (sent_by n) (sends i)))

    told : SameTold c.config p (trace_of c e n w) (trace_of c e n x)
    told = record { accesses = λ t. ap (accesses_in t p) traces; now_same = ap (now c.config) traces }

    standing : SameStanding w.node x.node
    standing = record { config = beside.life.config; number = beside.life.node; epoch = epoch; view = view }

    uses : SameUse p w.node.home x.node.home
    uses =
        record {
          held = λ t. beside.locks.held t p;
          waits = λ t. ap (λ (o : Option Pending). wait_on o p) (beside.locks.waits t);
          bytes = λ t. beside.privates.bytes t p;
          runs = λ t. beside.privates.runs t p;
        }

    entries : SameTable p (table_at w.node (partition c.config p)) (table_at x.node (partition c.config p))
    entries =
        subst (λ (ts : List (Option LockTable)). SameTable p (table_at w.node (partition c.config p)) (slice_index_or ts (partition c.config p) None)) (sym tables)
        (entry_self p (table_at w.node (partition c.config p)))

-- the machine's flush
flushing_rest : (a : Page) (x : Copy) → SameRest a (flushing a x)
unfolding flushing
flushing_rest a x =
    record { now = refl; hist = refl; reached = refl; right = refl; home = refl; script = refl; image = refl; era = refl; owner = refl; served = refl; entry = refl; sent = refl; listed = refl }

pub flushing_stores : (c : Cluster) (n p : ℕ) (w : Work) (a : Page) (x : Copy) → HasPage c.config (disk_of c n w) p → x.version < 2 ^ 64 → IsStored c.config (disk_of c n w) p a.disk a.log
    → IsStored c.config (all_done n c.disk (w.calls ++ WritePage p (stored_bytes p (page_of x)) ∷ [])) p (flushing a x).disk (flushing a x).log
flushing_stores c n p w a x has fits is =
    subst (λ (d : Disk). IsStored c.config d p (flushing a x).disk (flushing a x).log) (sym (fold-append (done n) c.disk w.calls (WritePage p (stored_bytes p (page_of x)) ∷ [])))
    ((pages_are_written_law c.config (disk_of c n w) n p a has is).flushes x fits)

flushing_copies : (c : Cluster) (e : Event) (n p : ℕ) (w x : Work) (a : Page) (y : Copy) → IsHere c e n p w a → copy_at x.node.home.pool p ≡ cleaned (copy_at w.node.home.pool p)
    → n ≡ a.owner → CopiesAre (land c e n x) p (flushing a y).slot (flushing a y).owner (flushing a y).dirty
unfolding flushing
flushing_copies c e n p w x a y h copy owner =
    copies_by c e n p x a.slot a.owner false h.acts (ap copy_in copy ∙ copy_cleaned (copy_at w.node.home.pool p) ∙ slot_here c e n p w a h)
    (ap is_dirty_copy copy ∙ clean_now (copy_at w.node.home.pool p)) (slot_there c e n p w a h)
    (λ m other. dirty_there c e n p w a h m other ∙ none_of a.dirty (m == a.owner) (ap (λ (k : ℕ). m == k) (sym owner) ∙ other))

flushing_entered : (a : Page) (x : Copy) → IsEntered (flushing a x)
unfolding flushing
flushing_entered a x y on there = absurd (cc)

-- what is stored, by the calls
pub stored_is : (c : Cluster) (e : Event) (n p : ℕ) (w : Work) (a : Page) → IsWorkOf c e n p w a → IsStored c.config (disk_of c n w) p a.disk a.log
unfolding land
stored_is c e n p w a is = is.stored

-- a dirty copy of the page
flush_leads : (c : Cluster) (e : Event) (n p : ℕ) (w : Work) (a : Page) → IsHere c e n p w a → (x : buffer.Copy) → copy_at w.node.home.pool p ≡ Some x → x.dirty ≡ true
    → Leads c e n p (λ y b. IsEntered b) a (with_home_work w (record (write_page p (stored_copy x) (work_of_home w)) { home = with_pool w.node.home (clean w.node.home.pool p) }))
flush_leads c e n p w a h x there mark =
    record {
      page = flushing a own;
      run = then here (flushes own dirty_is slot_is (h.entered own dirty_is slot_is));
      related =
          stored_alone c e n p w y a (flushing a own) h.acts h.related (flushing_rest a own) refl refl refl refl refl seen.rest
          (flushing_stores c n p w a own (has_page c n p w.calls h.acts h.low) fits (stored_is c e n p w a h.related))
          (flushing_copies c e n p w y a own h
          (seen.copies p ∙ ap (λ (b : Bool). pick b (cleaned (copy_at w.node.home.pool p)) (copy_at w.node.home.pool p)) (own_page p)) owner_is);
      known = flushing_entered a own;
    }
  where
    own : Copy
    own = record { version = x.version; bytes = x.bytes }

    y : Work
    y = with_home_work w (record (write_page p (stored_copy x) (work_of_home w)) { home = with_pool w.node.home (clean w.node.home.pool p) })

    seen : IsCleaned p w.node.home y.node.home
    seen = cleaning_is_seen_law p w.node.home

    marks : true ≡ (a.dirty && n == a.owner)
    marks = sym (ap is_dirty_copy there ∙ mark) ∙ dirty_here c e n p w a h

    dirty_is : a.dirty ≡ true
    dirty_is = both_left a.dirty (n == a.owner) marks

    owner_is : n ≡ a.owner
    owner_is = eqb-true n a.owner (both_right a.dirty (n == a.owner) marks)

    slot_is : a.slot a.owner ≡ Some own
    slot_is = ap a.slot (sym owner_is) ∙ sym (slot_here c e n p w a h) ∙ ap copy_in there

    fits : own.version < 2 ^ 64
    fits =
        let old = ((reached_holds h.blank a h.reached).stores_hold.slots_are a.owner own slot_is).old in
        let below = h.related.history.below in
        omega (arith, old, below)

-- a copy that is written back leads to a state
pub back_leads : (c : Cluster) (e : Event) (n p q : ℕ) (w : Work) (a : Page) → IsHere c e n p w a → Leads c e n p (λ y b. IsEntered b) a (back q w)
back_leads c e n p q w a h = by (q == p) refl
  where
    stays : Leads c e n p (λ y b. IsEntered b) a w
    stays = record { page = a; run = here; related = h.related; known = h.entered }

    own : Leads c e n p (λ y b. IsEntered b) a (back p w)
    own = back_by p (work_of_home w) (λ k. Leads c e n p (λ y b. IsEntered b) a (with_home_work w k)) (λ unwritten. stays) (flush_leads c e n p w a h)

    by : (b : Bool) → (q == p) ≡ b → Leads c e n p (λ y b. IsEntered b) a (back q w)
    by true same = subst (λ (k : ℕ). Leads c e n p (λ y b. IsEntered b) a (back k w)) (sym (eqb-true q p same)) own
    by false other =
        record { page = a; run = here; related = unseen_is_kept_law c e n p w (back q w) a h.acts (back_elsewhere c e n p q w other) h.related; known = h.entered }

-- ---- leaving

-- where nobody uses the page all its transactions are closed
fresh_closed : (h : Home) → IsFresh h → IsClosed h
fresh_closed Fresh f = tt
fresh_closed (machine.Asking m v) f = absurd f
fresh_closed (machine.Holding m) f = absurd f
fresh_closed machine.HoldingAsks f = absurd f
fresh_closed machine.Reading f = absurd f
fresh_closed machine.ReadingAsks f = absurd f
fresh_closed (machine.Ended v e) f = absurd f
fresh_closed machine.Gone f = absurd f

closed_as : (h : Home) (o u : Bool) → Stands o u None None h → IsClosed h
closed_as h true u s = subst IsClosed (sym s.1) tt
closed_as h false true s = fresh_closed h s
closed_as h false false s = s

none_held : (l : Option Held) (b : Bool) → (is_some l || b) ≡ false → l ≡ None
none_held None b e = refl
none_held (Some l) b e = absurd (cc)

none_waits : (l : Option Held) (w : Option Pending) (p : ℕ) → (is_some l || waits_on w p) ≡ false → wait_on w p ≡ None
none_waits (Some l) w p e = absurd (cc)
none_waits None None p e = refl
none_waits None (Some w) p e = ap (λ (b : Bool). pick b (Some w.mode) None) e

pub closed_here : (c : Cluster) (e : Event) (n p : ℕ) (w : Work) (a : Page) → Acts c n → IsWorkOf c e n p w a → IsUnused p w → (t : TxId) → t.node ≡ n → IsClosed (a.home t)
unfolding land
closed_here c e n p w a acts is unused t at =
    closed_as (a.home t) (is_open w.node.home.txs t) (is_unborn w.node.view w.node t)
    (subst (λ (m : Option Mode). Stands (is_open w.node.home.txs t) (is_unborn w.node.view w.node t) None m (a.home t))
    (none_waits (held_by w.node.home.txs t p) (pending_of w.node.home.txs t) p (unused t))
    (subst (λ (l : Option Held). Stands (is_open w.node.home.txs t) (is_unborn w.node.view w.node t) l (wait_on (pending_of w.node.home.txs t) p) (a.home t))
    (none_held (held_by w.node.home.txs t p) (waits_on (pending_of w.node.home.txs t) p) (unused t))
    (at_node c e n acts w t.node (λ o. StandsIn (last_view c).epoch o t p (a.home t)) at (is.homes.stands t))))

-- the copy leaves
abbrev out : ℕ → Work → Work
out q w = with_home_work w (on_pool (λ b. evict b q) (work_of_home w))

pub evicting_rest : (a : Page) (n : ℕ) → SameRest a (evicting a n)
unfolding evicting
evicting_rest a n =
    record { now = refl; hist = refl; reached = refl; right = refl; home = refl; script = refl; image = refl; era = refl; owner = refl; served = refl; entry = refl; sent = refl; listed = refl }

pub evicting_copies : (c : Cluster) (e : Event) (n p : ℕ) (w x : Work) (a : Page) → IsHere c e n p w a → copy_at x.node.home.pool p ≡ None → dirty w.node.home.pool p ≡ false
    → CopiesAre (land c e n x) p (evicting a n).slot (evicting a n).owner (evicting a n).dirty
unfolding evicting
evicting_copies c e n p w x a h copy unmarked =
    copies_by c e n p x (evicting a n).slot a.owner a.dirty h.acts
    (ap copy_in copy ∙ ap (λ (b : Bool). machine.pick b None (a.slot n)) (sym (own_page n)))
    (ap is_dirty_copy copy ∙ (sym unmarked ∙ dirty_here c e n p w a h))
    (λ m other. slot_there c e n p w a h m other ∙ ap (λ (b : Bool). machine.pick b None (a.slot m)) (sym other))
    (dirty_there c e n p w a h)

pub evicting_entered : (a : Page) (n : ℕ) → IsEntered a → IsEntered (evicting a n)
unfolding evicting
evicting_entered a n entered x on there = by (a.owner == n) there
  where
    by : (b : Bool) → machine.pick b None (a.slot a.owner) ≡ Some x → x.version ≤ a.entry
    by true is = absurd (cc)
    by false is = entered x on is

pub evicting_stores : (c : Cluster) (n p : ℕ) (w : Work) (a : Page) → IsStored c.config (disk_of c n w) p a.disk a.log → IsStored c.config (disk_of c n w) p (evicting a n).disk (evicting a n).log
unfolding evicting
evicting_stores c n p w a is = is

-- a clean copy that leaves
left_of_clean : (q : ℕ) (w : Work) → dirty w.node.home.pool q ≡ false → HasLeft q (work_of_home w) (on_pool (λ b. evict b q) (work_of_home w))
left_of_clean q w unmarked =
    subst (λ (v : HomeWork). HasLeft q (work_of_home w) (on_pool (λ b. evict b q) v)) same (leaving_is_seen_law q (work_of_home w))
  where
    same : write_back q (work_of_home w) ≡ work_of_home w
    same = back_by q (work_of_home w) (λ v. v ≡ work_of_home w) (λ e. refl) (λ x there mark. let bad = sym (ap is_dirty_copy there ∙ mark) ∙ unmarked in absurd (cc))

out_leads : (c : Cluster) (e : Event) (n p q : ℕ) (w : Work) (a : Page) → IsHere c e n p w a → dirty w.node.home.pool q ≡ false → IsUnused q w → Leads c e n p (λ y b. IsEntered b) a (out q w)
out_leads c e n p q w a h unmarked unused = by (q == p) refl
  where
    seen : HasLeft q (work_of_home w) (on_pool (λ b. evict b q) (work_of_home w))
    seen = left_of_clean q w unmarked

    elsewhere : (q == p) ≡ false → IsUnseen c e n p w (out q w)
    elsewhere other =
        homes_elsewhere_law c e n p w (on_pool (λ b. evict b q) (work_of_home w)) seen.rest.life
        (page_beside p w.node.home (out q w).node.home seen.rest (seen.copies p ∙ ap (λ (b : Bool). pick b None (copy_at w.node.home.pool p)) other)) (λ disk log is. is)

    own : q ≡ p → Leads c e n p (λ y b. IsEntered b) a (out q w)
    own same =
        let gone_is : copy_at (out q w).node.home.pool p ≡ None =
        seen.copies p ∙ ap (λ (b : Bool). pick b None (copy_at w.node.home.pool p)) (ap (λ (k : ℕ). k == p) same ∙ own_page p) in
        let clean_is : dirty w.node.home.pool p ≡ false = subst (λ (k : ℕ). dirty w.node.home.pool k ≡ false) same unmarked in
        record {
          page = evicting a n;
          run =
              then here
              (evicts n (λ is. left_out a.dirty (n == a.owner) (ap (λ (k : ℕ). n == k) (sym is) ∙ own_page n) (sym clean_is ∙ dirty_here c e n p w a h))
              (closed_here c e n p w a h.acts h.related (subst (λ (k : ℕ). IsUnused k w) same unused)));
          related =
              stored_alone c e n p w (out q w) a (evicting a n) h.acts h.related (evicting_rest a n) refl refl refl refl refl seen.rest
              (evicting_stores c n p w a (stored_is c e n p w a h.related)) (evicting_copies c e n p w (out q w) a h gone_is clean_is);
          known = evicting_entered a n h.entered;
        }

    by : (b : Bool) → (q == p) ≡ b → Leads c e n p (λ y b. IsEntered b) a (out q w)
    by true same = own (eqb-true q p same)
    by false other = record { page = a; run = here; related = unseen_is_kept_law c e n p w (out q w) a h.acts (elsewhere other) h.related; known = h.entered }

same_uses : (q : ℕ) (h g : HomeState) (t : TxId) → SameBesideCopies h g → is_used_by g.txs q t ≡ is_used_by h.txs q t
same_uses q h g t rest = (λ i. is_some (rest.locks.held t q i) || waits_on (rest.locks.waits t i) q)

-- written back where it is dirty, and then it leaves
pub gone_leads : (c : Cluster) (e : Event) (n p q : ℕ) (w : Work) (a : Page) → IsHere c e n p w a → IsUnused q w → Leads c e n p (λ y b. IsEntered b) a (gone q w)
gone_leads c e n p q w a h unused =
    let first = back_leads c e n p q w a h in
    let known = is_back q w in
    leads_on c e n p (λ y b. IsEntered b) a first.page (gone q w) first.run
    (out_leads c e n p q (back q w) first.page
    (record { acts = h.acts; low = h.low; blank = h.blank; reached = reached_on h.blank a first.page h.reached first.run; related = first.related; entered = first.known })
    known.clean
    (λ t. same_uses q w.node.home (back q w).node.home t known.rest ∙ unused t))

pub back_keeps_law : BackKeeps
back_keeps_law c e n p q acts low blank w x a reached related entered goes =
    let same : back q w ≡ x = cc in
    subst (λ (y : Work). Leads c e n p (λ z b. IsEntered b) a y) same
    (back_leads c e n p q w a (record { acts = acts; low = low; blank = blank; reached = reached; related = related; entered = entered }))

pub gone_keeps_law : GoneKeeps
gone_keeps_law c e n p q acts low blank w x a reached related known goes =
    let same : gone q w ≡ x = cc in
    subst (λ (y : Work). Leads c e n p (λ z b. IsEntered b) a y) same
    (gone_leads c e n p q w a (record { acts = acts; low = low; blank = blank; reached = reached; related = related; entered = known.0 }) known.1)
