-- The version that a commit makes of a page is the ledger's after the commit point.
use Rattle.std.proofs.Common.{◌≡◌, refl, ap, sym, subst, ◌∙◌, ℕ, ◌+◌, ◌<◌, not, Bool, true, false, List, slice_index, Option, Some, None, is_some}
use Rattle.std.specs.Prelude.{IfSome}
use Rattle.std.specs.List.{list_any}
use Rattle.pcl_base.specs.declared.event.Event.{Event}
use Rattle.pcl_base.specs.declared.lock.Held.{Held}
use Rattle.pcl_base.specs.declared.lock.Pending.{Pending}
use Rattle.pcl_base.specs.declared.reply.Reason.{Reason}
use Rattle.pcl_base.specs.declared.reply.Reason.TheVariants as reason
use Rattle.pcl_base.specs.declared.tx.TxId.{TxId}
use Rattle.run_rules.specs.Account.{heard}
use Rattle.run_rules.specs.Base.{BasePage, Base, version_at}
use Rattle.run_rules.specs.Ledger.{Ledger, is_of}
use Rattle.run_rules.specs.Now.{now}
use Rattle.run_rules.specs.Running as running
use Rattle.run_rules.specs.Script.{moments, script}
use Rattle.home_laws.specs.Homes.{is_exclusive_lock}
use Rattle.home_laws.proofs.Tests.{one}
use Rattle.node_rules.specs.AccessRule.{version_or}
use Rattle.node_rules.specs.EndRule.{is_written, at_version_end, new_version}
use Rattle.node_rules.specs.NodeState.{NodeState, Commit}
use Rattle.node_rules.specs.NodeStep.{Plan}
use Rattle.node_rules.specs.OpenTxs.{held_by, pending_of, waits_on}
use Rattle.node_rules.specs.Refusals.{not_open, waits, refuse_if, refusal}
use Rattle.node_laws.proofs.Events.{not_refused}
use Rattle.cluster_rules.specs.Clusters.{Cluster}
use Rattle.page_protocol.specs.State.{Page, current}
use Rattle.page_laws.specs.Moment.Looks.{HasPage, accesses_in}
use Rattle.related_runs.specs.Between.Between.{NodeWrites}
use Rattle.related_runs.proofs.BetweenParts.Wrote.{runs_have_writes_law}
use Rattle.related_runs.proofs.Current.{HasCurrent, has_current, member}
use Rattle.account_relation.specs.Replies.{AreReplies, AreAnswers}
use Rattle.account_relation.proofs.FirstReplies.{steps_answer_law}
use Rattle.account_strands.specs.Versions.{HaveVersions}
use Rattle.account_versions.proofs.TraceParts.Closing.{ledgers_have_writes_law, clusters_have_versions_law}
use Rattle.account_versions.proofs.TraceParts.Counting.{committed_look}
use Rattle.account_versions.proofs.TraceParts.Scripts.{scripts_have_writes_law}
use Rattle.account_commits.specs.Commits.{entry_of, IsCommit, WrittenIsDone, CommitsHaveVersions}
use Rattle.account_commits.proofs.CommitParts.Points.{point_heard}
use Rattle.account_commits.proofs.CommitParts.Writing.{accesses_write, written_exclusive}

-- a commit that isn't refused waits for nothing
waits_none : (s : NodeState) (t : TxId) → refusal s (Commit t) ≡ None → pending_of s.home.txs t ≡ None
unfolding refusal
waits_none s t free =
    let further : Option Reason = refuse_if (at_version_end s.home t) reason.VersionEnd None in
    let one = not_refused (not (is_some s.view)) reason.NotInView (refuse_if (not_open s t) reason.NoTx (refuse_if (waits s t) reason.TxWaits further)) free in
    let two = not_refused (not_open s t) reason.NoTx (refuse_if (waits s t) reason.TxWaits further) one.1 in
    let three = not_refused (waits s t) reason.TxWaits further two.1 in
    nothing (pending_of s.home.txs t) three.0
  where
    nothing : (o : Option Pending) → is_some o ≡ false → o ≡ None
    nothing None e = refl
    nothing (Some w) e = absurd (cc)

-- a page of now
version_now : (o : Option Base) (q : ℕ) (a : Page) (pages : ℕ) (vs : List ℕ) → HasPage o q (current a) → IfSome o (λ (b : Base). (p : ℕ) → p < pages → slice_index vs p ≡ version_at b p) → q < pages → slice_index vs q ≡ a.now
version_now None q a pages vs has all low = absurd has
version_now (Some b) q a pages vs has all low = all q low ∙ ap (λ (x : BasePage). x.version) has

exclusive_held : (o : Option Held) → is_exclusive_lock o ≡ true → is_some o ≡ true
exclusive_held None e = absurd (cc)
exclusive_held (Some x) e = refl

not_waiting : (o : Option Pending) (q : ℕ) → o ≡ None → waits_on o q ≡ false
not_waiting o q none = ap (λ (x : Option Pending). waits_on x q) none

module _ (blank : List ℕ) (c : Cluster) (e : Event) (n : ℕ) (s : NodeState) (t : TxId) (p : Plan) (l : Ledger) (q : ℕ) (i : IsCommit blank c e n s t p l) (wrote : is_written s.home t q ≡ true) where
  none_waits : pending_of s.home.txs t ≡ None
  none_waits = waits_none s t i.free

  exclusive : is_exclusive_lock (held_by s.home.txs t q) ≡ true
  exclusive = written_exclusive s.home t q (member blank c i.run.related n s i.handed.up).sound.home none_waits wrote

  -- its script writes the page
  scripted : list_any (running.writes q) (script t (moments c.trace)) ≡ true
  unfolding accesses_in
  scripted =
      sym (accesses_write q (script t (moments c.trace)))
      ∙ subst (λ (o : Option NodeState). IfSome o (NodeWrites c.trace)) i.handed.up (runs_have_writes_law blank c i.run n) t q exclusive

  is_done : list_any (is_of t q) l.done ≡ true
  is_done = (ledgers_have_writes_law c.config c.trace l i.leaves).done t q ∙ sym (scripts_have_writes_law t q (moments c.trace) i.asked) ∙ scripted

  -- its copy has the version of now
  copied : HasCurrent blank c i.run.related n s i.handed.up t q
  copied = has_current blank c i.run.related n s i.handed.up t q (exclusive_held (held_by s.home.txs t q) exclusive) (not_waiting (pending_of s.home.txs t) q none_waits)

  has : HaveVersions c l
  has = clusters_have_versions_law c l i.asked i.leaves

  now_here : slice_index l.versions q ≡ (i.run.related.pages.page q).now
  now_here =
      version_now (now c.config c.trace) q (i.run.related.pages.page q) c.config.pages l.versions (i.run.related.pages.related q copied.low).history.now_same has.now copied.low

  answers : AreAnswers (Commit t) p.replies
  answers = subst (λ (o : Option Reason). AreReplies o (Commit t) p.replies) i.free (steps_answer_law s (Commit t) c.disk p i.goes)

  made : new_version s.home q ≡ slice_index (heard (entry_of e n p) l).versions q
  made =
      ap (λ (o : Option ℕ). version_or o + 1) copied.version
      ∙ ap (λ (v : ℕ). v + 1) (sym now_here)
      ∙ ap (λ (b : Bool). slice_index l.versions q + one b) (sym is_done)
      ∙ sym (committed_look t l.done l.versions q (subst (λ (k : ℕ). q < k) (sym has.pages) copied.low) ((ledgers_have_writes_law c.config c.trace l i.leaves).once t q))
      ∙ ap (λ (vs : List ℕ). slice_index vs q) (sym (point_heard t (entry_of e n p) l refl answers))

pub written_is_done_law : WrittenIsDone
written_is_done_law blank c e n s t p l q i wrote = is_done blank c e n s t p l q i wrote

pub commits_have_versions_law : CommitsHaveVersions
commits_have_versions_law blank c e n s t p l q i wrote = made blank c e n s t p l q i wrote
