-- A step that a stop ends without a commit point.
use Rattle.std.proofs.Common.{◌≡◌, refl, sym, ap, subst, ◌∙◌, ℕ, zero, suc, ◌<◌, ◌≤◌, ◌==◌, ◌&&◌, not, Bool, true, false, List, [], ◌∷◌, ◌++◌, length, Option, Some, None, is_some, arith, append-nil}
use Rattle.std.specs.Prelude.{IfSome}
use Rattle.std.specs.List.{AllByRecursion}
use Rattle.std.proofs.lemmas.Bool.Decides.{nat_tests}
use Rattle.pcl_base.specs.Limits.{Sizes}
use Rattle.pcl_base.specs.declared.event.Event.{Event}
use Rattle.pcl_base.specs.declared.reply.Reason.{Reason}
use Rattle.pcl_base.specs.declared.reply.Reason.TheVariants as reason
use Rattle.pcl_base.specs.declared.trace.Entry.{Entry}
use Rattle.pcl_base.specs.declared.trace.Halt.{Halt}
use Rattle.pcl_base.specs.declared.tx.TxId.{TxId}
use Rattle.text_rules.specs.LogRecord.{record_bytes, whole_len, IsRecord}
use Rattle.run_rules.specs.Disk.{Disk, log_at}
use Rattle.run_rules.specs.Script.{asked, kept_tx, moments}
use Rattle.run_rules.specs.Views.{View}
use Rattle.node_rules.specs.CutRule.{cuttable}
use Rattle.node_rules.specs.DiskCalls.{DiskCall, Force, TrimLog, CutLog, Stop, Left, done, all_done, stopped}
use Rattle.node_rules.specs.EndRule.{pages_written, commit_record, at_version_end}
use Rattle.node_rules.specs.NodeState.{NodeState, NodeEvent, Commit}
use Rattle.node_rules.specs.OpenTxs.{is_open, pending_of}
use Rattle.node_rules.specs.Refusals.{refuse_if, waits, refusal_in_view, refusal}
use Rattle.node_rules.specs.Words.{pick}
use Rattle.node_rules.specs.Work.{Goes}
use Rattle.cluster_rules.specs.Clusters.{Cluster, node_at}
use Rattle.cluster_rules.specs.ClusterStep.{links_after}
use Rattle.cluster_rules.specs.Links.{Links, link_at, tail_of, clear_into}
use Rattle.cluster_laws.specs.Handed.{IsHanded}
use Rattle.cluster_laws.specs.Sound.{IsMember, IsCluster}
use Rattle.cluster_laws.proofs.Steps.{up_is_member_law}
use Rattle.home_laws.proofs.Records.{record_is_sound_law}
use Rattle.cluster_laws.specs.Call.Calls.{IsWrite, log_of_node}
use Rattle.cluster_laws.specs.Call.CallLaws.{HasWholeLog, HaveWholeLogs}
use Rattle.cluster_laws.specs.Link.Coming.{delivers}
use Rattle.cluster_laws.proofs.LinkParts.Heads.{delivers_is, handed_head}
use Rattle.cluster_laws.proofs.LinkParts.Linked.{cleared_links_law, heads_after_law}
use Rattle.page_laws.specs.Moment.Looks.{with_entry, with_halt, Adds}
use Rattle.page_laws.proofs.MomentParts.Entries.{event_adds_law, halt_adds_law}
use Rattle.page_protocol.specs.Bytes.{Copy}
use Rattle.page_protocol.specs.State.{Page}
use Rattle.page_protocol.specs.Storage.{cutting}
use Rattle.page_protocol.proofs.Keeps.{and_then}
use Rattle.redo_laws.specs.Words.{IsWhole}
use Rattle.page_laws.specs.Storage.Looks.{IsStored}
use Rattle.page_laws.specs.Storage.Stored.{HasPage, forced_by}
use Rattle.page_laws.proofs.StorageParts.Calls.{torn_is_not_logged_law, trimmed_is_stored_law}
use Rattle.page_relation.specs.Loss.Leads.{LeadsTo}
use Rattle.page_relation.specs.Loss.Writes.{WritesRise, MayWrite, elsewhere, versions}
use Rattle.page_relation.proofs.LossParts.Crashes.{Loses}
use Rattle.page_relation.proofs.LossParts.Disks.{disk_related, pages_done, writes_lead, writes_elsewhere, Cuts, cut_leads}
use Rattle.page_relation.proofs.LossParts.Losing.{left_cluster}
use Rattle.page_relation.proofs.LossParts.Stops.{FirstCall, no_call, forces, trims, cuts_off, Halts, nothing, a_piece, some_writes, all_front}

-- ---- the links and the trace

-- the links once the acting node is lost
pub halted_links : (c : Cluster) (e : Event) (n : ℕ) (s : NodeState) (ev : NodeEvent) → IsCluster c → IsHanded c e n s ev → (x y : ℕ) → link_at (clear_into (links_after e [] c.links) n) x y ≡ pick (y == n) [] (link_at c.links x y)
halted_links c e n s ev i h x y = cleared_links_law (links_after e [] c.links) n x y ∙ by (y == n) refl
  where
    of : (b : Bool) → delivers e x y ≡ b → (y == n) ≡ false → pick (b && true) (tail_of (link_at c.links x y)) (link_at c.links x y) ≡ link_at c.links x y
    of true d other = let same = (handed_head c e x y n s ev i (delivers_is e x y d) h).1 in absurd (grind (arith, nat_tests, other, same))
    of false d other = refl

    by : (b : Bool) → (y == n) ≡ b → pick b [] (link_at (links_after e [] c.links) x y) ≡ pick b [] (link_at c.links x y)
    by true other = refl
    by false other = heads_after_law e [] c.links x y ∙ of (delivers e x y) refl other

-- a halt without a commit point tells what the event asks for
pub halt_adds_none : (trace : List Entry) (e : Event) (halt : Halt) → halt.kept ≡ None → Adds trace (asked e) (with_halt trace e [] halt)
halt_adds_none trace e halt none =
    subst (λ (o : Option TxId). Adds (with_entry trace e [] []) (kept_tx o) (with_halt trace e [] halt)) none (halt_adds_law trace e halt [] [])
    ∙ append-nil (moments (with_entry trace e [] [])) ∙ event_adds_law trace e []

-- ---- what a commit needs

passes : (b : Bool) (r : Reason) (o : Option Reason) → refuse_if b r o ≡ None → (b ≡ false) × (o ≡ None)
passes true r o e = absurd (cc)
passes false r o e = (refl, e)

-- a transaction that isn't refused to commit
pub record MayEnd (s : NodeState) (t : TxId) : Type 0 where
  pub view : View
  pub in_view : s.view ≡ Some view
  pub there : is_open s.home.txs t ≡ true
  pub waits : pending_of s.home.txs t ≡ None
  pub last : at_version_end s.home t ≡ false

not_false : (b : Bool) → not b ≡ false → b ≡ true
not_false true e = refl
not_false false e = absurd (cc)

none_there : {X : Type 0} (o : Option X) → is_some o ≡ false → o ≡ None
none_there None e = refl
none_there (Some x) e = absurd (cc)

pub may_end : (s : NodeState) (t : TxId) → refusal s (Commit t) ≡ None → MayEnd s t
unfolding refusal
may_end s t e = by s.view refl
  where
    all : (not (is_some s.view) ≡ false) × (refusal_in_view s (Commit t) ≡ None)
    all = passes (not (is_some s.view)) reason.NotInView (refusal_in_view s (Commit t)) e

    two : (not (is_open s.home.txs t) ≡ false) × (refuse_if (waits s t) reason.TxWaits (refuse_if (at_version_end s.home t) reason.VersionEnd None) ≡ None)
    two = passes (not (is_open s.home.txs t)) reason.NoTx (refuse_if (waits s t) reason.TxWaits (refuse_if (at_version_end s.home t) reason.VersionEnd None)) all.1

    three : (is_some (pending_of s.home.txs t) ≡ false) × (refuse_if (at_version_end s.home t) reason.VersionEnd None ≡ None)
    three = passes (is_some (pending_of s.home.txs t)) reason.TxWaits (refuse_if (at_version_end s.home t) reason.VersionEnd None) two.1

    four : at_version_end s.home t ≡ false
    four = (passes (at_version_end s.home t) reason.VersionEnd None three.1).0

    by : (o : Option View) → s.view ≡ o → MayEnd s t
    by None own = let bad : true ≡ false = sym (ap (λ (x : Option View). not (is_some x)) own) ∙ all.0 in absurd (cc)
    by (Some v) own =
        record {
          view = v;
          in_view = own;
          there = not_false (is_open s.home.txs t) two.0;
          waits = none_there (pending_of s.home.txs t) three.0;
          last = four;
        }

-- the log of a node in a view
pub log_whole : (c : Cluster) (n : ℕ) (s : NodeState) (v : View) → HaveWholeLogs c → node_at c n ≡ Some s → s.view ≡ Some v → IsWhole c.config (log_at c.disk n)
log_whole c n s v whole up own =
    subst (λ (o : Option View). IfSome o (λ v. IsWhole c.config (log_at c.disk n))) own (subst (HasWholeLog c n) up (whole n))

pub some_pages : (k : ℕ) → (k == 0) ≡ false → 1 ≤ k
some_pages zero e = absurd (cc)
some_pages (suc k) e = omega arith

-- ---- the storage that a stop leaves

pub all_pages : (n : ℕ) (d : Disk) (calls : List DiskCall) → length (all_done n d calls).pages ≡ length d.pages
all_pages n d [] = refl
all_pages n d (call ∷ calls) = all_pages n (done n d call) calls ∙ pages_done n d call

module _ (c : Cluster) (n p : ℕ) (s : NodeState) (ev : NodeEvent) (ls : Links) (ss : List (Option Stop)) (trace : List Entry) (a : Page) where
  -- the state of the page once the node is lost, over some storage
  abbrev On : Disk → Type 0
  On d = Loses a (left_cluster c n ls d ss trace) p n

  -- the same with what a call left of the storage, where that is the same of the page
  stored_on : (d f : Disk) (x : On d) → IsStored c.config f p x.page.disk x.page.log → On f
  stored_on d f x stored =
      record {
        page = x.page;
        run = x.run;
        related = disk_related (left_cluster c n ls d ss trace) p x.page f x.page.disk x.page.log stored x.related;
        hist = x.hist;
        now = x.now;
        disk = x.disk;
        off = x.off;
      }

  -- page writes
  pub written_on : (d : Disk) (calls : List DiskCall) → HasPage c.config d p → AllByRecursion IsWrite calls → MayWrite a p n calls → On d → LeadsTo a (left_cluster c n ls (all_done n d calls) ss trace) p
  written_on d calls has all (elsewhere none) x =
      record { page = x.page; run = x.run; related = writes_elsewhere (left_cluster c n ls d ss trace) n p calls x.page d all none x.related }
  written_on d calls has all (versions own rise) x =
      record { page = to.page; run = and_then x.run to.run; related = to.related }
    where
      risen : WritesRise x.page.hist x.page.now p x.page.disk.version calls
      risen =
          subst (λ (h : ℕ → List ℕ). WritesRise h x.page.now p x.page.disk.version calls) (sym x.hist)
          (subst (λ (k : ℕ). WritesRise a.hist k p x.page.disk.version calls) (sym x.now)
          (subst (λ (y : Copy). WritesRise a.hist a.now p y.version calls) (sym x.disk) rise))

      to : LeadsTo x.page (left_cluster c n ls (all_done n d calls) ss trace) p
      to = writes_lead (left_cluster c n ls d ss trace) n p calls x.page d has all risen (x.off own) x.related

  module _ (i : IsCluster c) (up : node_at c n ≡ Some s) (whole : HaveWholeLogs c) (low : p < c.config.pages) where
    member : IsMember c.config c.views n s
    member = (up_is_member_law c n s i up).1

    inside : n < length c.disk.logs
    inside = let known = (up_is_member_law c n s i up).0 in let long = i.disk.logs in omega (arith, known, long)

    has_page : HasPage c.config c.disk p
    has_page = record { limits = i.limits; count = i.disk.pages.0; page = low }

    log_same : log_of_node s c.disk ≡ log_at c.disk n
    log_same = ap (log_at c.disk) member.number

    -- a piece of a record
    piece_on : (t : TxId) (kept : ℕ) → refusal s (Commit t) ≡ None → (length (pages_written s.home t) == 0) ≡ false → kept < length (record_bytes (commit_record s.home t)) → On c.disk
        → On (stopped n c.disk (Force t (record_bytes (commit_record s.home t))) kept)
    piece_on t kept allowed some less x =
        let may = may_end s t allowed in
        stored_on c.disk (stopped n c.disk (Force t (record_bytes (commit_record s.home t))) kept) x
        (torn_is_not_logged_law c.config c.disk n p kept t (commit_record s.home t) x.page.disk x.page.log (log_whole c n s may.view whole up may.in_view) i.limits
        (subst (λ (k : Sizes). IsRecord k (commit_record s.home t)) member.config (record_is_sound_law s.home t member.sound.home may.there may.waits (some_pages (length (pages_written s.home t)) some)))
        less x.related.stored)

    -- a trim
    trim_on : On c.disk → On (done n c.disk (TrimLog (whole_len s.home.config (log_of_node s c.disk))))
    trim_on x =
        subst (λ (k : ℕ). On (done n c.disk (TrimLog k))) (sym (ap (λ (k : Sizes). whole_len k (log_of_node s c.disk)) member.config ∙ ap (whole_len c.config) log_same))
        (stored_on c.disk (done n c.disk (TrimLog (whole_len c.config (log_at c.disk n)))) x (trimmed_is_stored_law c.config c.disk n p x.page.disk x.page.log x.related.stored))

    -- a cut
    cut_on : (count : ℕ) → cuttable s.home.config c.disk.pages (log_of_node s c.disk) ≡ Goes count → On c.disk → On (done n c.disk (CutLog count))
    unfolding cutting
    cut_on count goes x =
        record {
          page = cutting x.page n cut.upto;
          run = and_then x.run cut.run;
          related = cut.related;
          hist = x.hist;
          now = x.now;
          disk = x.disk;
          off = x.off;
        }
      where
        cut : Cuts (left_cluster c n ls c.disk ss trace) n p count x.page
        cut =
            cut_leads (left_cluster c n ls c.disk ss trace) n p count x.page inside
            (sym (ap (λ (k : Sizes). cuttable k c.disk.pages (log_of_node s c.disk)) member.config ∙ ap (cuttable c.config c.disk.pages) log_same) ∙ goes) x.related

    -- what a stop leaves where no record was appended
    pub stop_leads : (first writes : List DiskCall) (l : Left) → FirstCall s c.disk ev first → Halts n c.disk first writes l → AllByRecursion IsWrite writes → l.kept ≡ None → ((front back : List DiskCall) → writes ≡ front ++ back → forced_by first ≡ None → MayWrite a p n front) → On c.disk
        → LeadsTo a (left_cluster c n ls l.disk ss trace) p
    stop_leads first writes l at (nothing disk none) all kept may x =
        subst (λ (f : Disk). LeadsTo a (left_cluster c n ls f ss trace) p) (sym disk) (record { page = x.page; run = x.run; related = x.related })
    stop_leads first writes l at (a_piece t bytes k is less disk none) all kept may x =
        let y = piece at is in
        subst (λ (f : Disk). LeadsTo a (left_cluster c n ls f ss trace) p) (sym disk) (record { page = y.page; run = y.run; related = y.related })
      where
        piece : {xs : List DiskCall} → FirstCall s c.disk ev xs → xs ≡ Force t bytes ∷ [] → On (stopped n c.disk (Force t bytes) k)
        piece no_call e = absurd (cc)
        piece (forces u asked allowed some) e =
            let tx : u ≡ t = cc in
            let same : record_bytes (commit_record s.home u) ≡ bytes = cc in
            subst (λ (b : List ℕ). On (stopped n c.disk (Force t b) k)) same
            (subst (λ (v : TxId). On (stopped n c.disk (Force v (record_bytes (commit_record s.home u))) k)) tx
            (piece_on u k (subst (λ (y : NodeEvent). refusal s y ≡ None) asked allowed) some (subst (λ (b : List ℕ). k < length b) (sym same) less) x))
        piece trims e = absurd (cc)
        piece (cuts_off count goes) e = absurd (cc)
    stop_leads first writes l at (some_writes front back parts disk forced) all kept may x =
        subst (λ (f : Disk). LeadsTo a (left_cluster c n ls f ss trace) p) (sym disk)
        (of at (sym forced ∙ kept))
      where
        ours : AllByRecursion IsWrite front
        ours = all_front front back (subst (AllByRecursion IsWrite) parts all)

        then_writes : (xs : List DiskCall) → On (all_done n c.disk xs) → LeadsTo a (left_cluster c n ls (all_done n (all_done n c.disk xs) front) ss trace) p
        then_writes xs y =
            written_on (all_done n c.disk xs) front (record { limits = i.limits; count = all_pages n c.disk xs ∙ i.disk.pages.0; page = low }) ours (may front back parts (sym forced ∙ kept)) y

        of : {xs : List DiskCall} → FirstCall s c.disk ev xs → forced_by xs ≡ None → LeadsTo a (left_cluster c n ls (all_done n (all_done n c.disk xs) front) ss trace) p
        of no_call e = then_writes [] x
        of (forces u asked allowed some) e = absurd (cc)
        of trims e = then_writes (TrimLog (whole_len s.home.config (log_of_node s c.disk)) ∷ []) (trim_on x)
        of (cuts_off count goes) e = then_writes (CutLog count ∷ []) (cut_on count goes x)
