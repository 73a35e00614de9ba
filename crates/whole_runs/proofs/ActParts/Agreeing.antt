-- No page differs that is read for an event of a transaction, or for a cut.
use Rattle.std.proofs.Common.{◌≡◌, sym, ap, ◌∙◌, ℕ, ◌<◌, not, true, false, arith, List, Some, None, is_some}
use Rattle.std.proofs.lemmas.Bool.Decides.{nat_tests}
use Rattle.pcl_base.specs.Limits.{Sizes}
use Rattle.pcl_base.specs.declared.event.Event.{Event}
use Rattle.pcl_base.specs.declared.reply.Reason.TheVariants as reason
use Rattle.pcl_base.specs.declared.tx.TxId.{TxId}
use Rattle.run_rules.specs.Disk.{log_at}
use Rattle.node_rules.specs.CutRule.{cuttable}
use Rattle.node_rules.specs.NodeState.{NodeState, Begin, Read, Write, Commit, Abort, Evict, Flush, Cut, number_of}
use Rattle.node_rules.specs.NodeStep.{do_event, cut_front}
use Rattle.node_rules.specs.Refusals.{refusal, refusal_in_view, refuse_if, not_open, waits, no_page, no_frame, bad_range}
use Rattle.node_rules.specs.Work.{Outcome, Goes, Differs, and_so}
use Rattle.node_laws.proofs.Bases.{base_of}
use Rattle.node_laws.proofs.Events.{not_refused}
use Rattle.cluster_rules.specs.Clusters.{Cluster, node_at}
use Rattle.page_laws.specs.Storage.Stored.{AreNumbered}
use Rattle.page_laws.proofs.StorageParts.ReadPages.{cut_is_found_law}
use Rattle.cluster_laws.specs.Link.EpochLaws.{IsInOrder}
use Rattle.page_relation.specs.Work.Landing.{Acts}
use Rattle.page_relation.specs.Work.StepEnds.{start_of}
use Rattle.settle_relation.proofs.Agreeing.{settle_agrees}
use Rattle.end_relation.specs.Access.Midway.{SettleGoes}
use Rattle.end_relation.proofs.AccessParts.Whole.{read_goes_law, write_goes_law}
use Rattle.end_relation.specs.Release.Midway.{SettleGoes as OwnSettleGoes}
use Rattle.end_relation.proofs.ReleaseParts.Laws.{no_own_end_differs_law}
use Rattle.end_relation.specs.Midway.{OwnEndsGo}
use Rattle.end_relation.proofs.Going.{abort_goes_law, commit_goes_law}
use Rattle.whole_runs.specs.Act.Acted.{ActAgrees}
use Rattle.whole_runs.proofs.ActParts.Ends.{can_end, owes_it, scripts_fit}
use Rattle.whole_runs.proofs.ActParts.Steps.{acts, low_page, member}

-- ---- events that read no page

pub begin_agrees : (blank : List ℕ) → ActAgrees blank Begin
unfolding do_event
begin_agrees blank c e n s is h free q expected found differs = absurd (cc)

pub evict_agrees : (blank : List ℕ) (p : ℕ) → ActAgrees blank (Evict p)
unfolding do_event
evict_agrees blank p c e n s is h free q expected found differs = absurd (cc)

pub flush_agrees : (blank : List ℕ) (p : ℕ) → ActAgrees blank (Flush p)
unfolding do_event
flush_agrees blank p c e n s is h free q expected found differs = absurd (cc)

-- ---- a cut

pub cut_agrees : (blank : List ℕ) → ActAgrees blank Cut
unfolding do_event
cut_agrees blank c e n s is h free q expected found differs =
    let bad : Goes (cut_front (start_of c s) count.0) ≡ Differs q expected found = sym (ap (λ (o : Outcome ℕ). and_so o (cut_front (start_of c s))) count.1) ∙ differs in absurd (cc)
  where
    config : s.home.config ≡ c.config
    config = (member blank c e n s Cut is h).config

    numbered : AreNumbered s.home.config c.disk
    numbered =
        record {
          count = is.related.cluster.disk.pages.0 ∙ sym (ap (λ (k : Sizes). k.pages) config);
          read = λ p low. ap is_some (is.related.pages.related p (low_page blank c e n s Cut is h p low)).stored.disk_same;
        }

    count : (k : ℕ) × (cuttable s.home.config c.disk.pages (log_at c.disk (number_of s)) ≡ Goes k)
    count = cut_is_found_law s.home.config c.disk (log_at c.disk (number_of s)) numbered

-- ---- accesses

settles_agree : SettleGoes
settles_agree b c e n q page expected found blank w a on order low reached related mid enters differs = settle_agrees b c e n q on order low blank w a reached related (mid, enters) page expected found differs

below : (s : NodeState) (p : ℕ) → no_page s p ≡ false → p < s.home.config.pages
below s p h = grind (arith, nat_tests, h)

read_below : (s : NodeState) (t : TxId) (p : ℕ) → refusal s (Read t p) ≡ None → p < s.home.config.pages
unfolding refusal
read_below s t p free =
    let frames = refuse_if (no_frame s t p false) reason.NoFrame None in
    let one = not_refused (not (is_some s.view)) reason.NotInView (refusal_in_view s (Read t p)) free in
    let two = not_refused (not_open s t) reason.NoTx (refuse_if (waits s t) reason.TxWaits (refuse_if (no_page s p) reason.NoPage frames)) one.1 in
    let three = not_refused (waits s t) reason.TxWaits (refuse_if (no_page s p) reason.NoPage frames) two.1 in
    below s p (not_refused (no_page s p) reason.NoPage frames three.1).0

write_below : (s : NodeState) (t : TxId) (p place : ℕ) (piece : List ℕ) → refusal s (Write t p place piece) ≡ None → p < s.home.config.pages
unfolding refusal
write_below s t p place piece free =
    let frames = refuse_if (bad_range s place piece) reason.BadRange (refuse_if (no_frame s t p true) reason.NoFrame None) in
    let one = not_refused (not (is_some s.view)) reason.NotInView (refusal_in_view s (Write t p place piece)) free in
    let two = not_refused (not_open s t) reason.NoTx (refuse_if (waits s t) reason.TxWaits (refuse_if (no_page s p) reason.NoPage frames)) one.1 in
    let three = not_refused (waits s t) reason.TxWaits (refuse_if (no_page s p) reason.NoPage frames) two.1 in
    below s p (not_refused (no_page s p) reason.NoPage frames three.1).0

pub read_agrees : (blank : List ℕ) (t : TxId) (p : ℕ) → ActAgrees blank (Read t p)
read_agrees blank t p c e n s is h free q expected found differs =
    let low = low_page blank c e n s (Read t p) is h p (read_below s t p free) in
    read_goes_law c e n p q expected found t s blank (is.related.pages.page p) settles_agree is.related.cluster is.related.order is.related.asked h free (is.related.pages.reached p low)
    (is.between.entered p low) (is.related.pages.related p low) differs

pub write_agrees : (blank : List ℕ) (t : TxId) (p place : ℕ) (piece : List ℕ) → ActAgrees blank (Write t p place piece)
write_agrees blank t p place piece c e n s is h free q expected found differs =
    let low = low_page blank c e n s (Write t p place piece) is h p (write_below s t p place piece free) in
    write_goes_law c e n p place q expected found piece t s blank (is.related.pages.page p) settles_agree is.related.cluster is.related.order is.related.asked h free (is.related.pages.reached p low)
    (is.between.entered p low) (is.related.pages.related p low) differs

-- ---- ends

-- none does where a page is settled at its owner
pub own_settles : (c : Cluster) (e : Event) (n : ℕ) (s : NodeState) → Acts c n → IsInOrder c → (p : ℕ) → p < c.config.pages → OwnSettleGoes (base_of s) c e n p
own_settles c e n s on order p low blank w a q x y mid related enters reached differs = settle_agrees (base_of s) c e n p on order low blank w a reached related (mid, enters) q x y differs

own_go : (blank : List ℕ) (c : Cluster) (e : Event) (n : ℕ) (s : NodeState) (t : TxId) → Acts c n → IsInOrder c → node_at c n ≡ Some s → OwnEndsGo blank (base_of s) c e n t
own_go blank c e n s t on order up x tb w a q expected found low reached related owes differs =
    no_own_end_differs_law c e n s t x tb blank w a on up low (own_settles c e n s on order x.page low) owes.midway (owes_it c e n x.page s t x tb w a owes) owes.table reached related q expected found
    differs

pub abort_agrees : (blank : List ℕ) (t : TxId) → ActAgrees blank (Abort t)
abort_agrees blank t c e n s is h free q expected found differs =
    abort_goes_law blank c e n s t is.related q expected found (can_end blank c e n s (Abort t) t is h free)
    (own_go blank c e n s t (acts blank c e n s (Abort t) is h) is.related.order h.up) differs

pub commit_agrees : (blank : List ℕ) (t : TxId) → ActAgrees blank (Commit t)
commit_agrees blank t c e n s is h free q expected found differs =
    commit_goes_law blank c e n s t is.related q expected found (can_end blank c e n s (Commit t) t is h free) (scripts_fit blank c is)
    (own_go blank c e n s t (acts blank c e n s (Commit t) is h) is.related.order h.up) differs
