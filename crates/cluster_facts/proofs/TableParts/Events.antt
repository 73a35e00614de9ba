-- What holds in the tables of a node after an event that installs no view.
use Rattle.std.proofs.Common.{◌≡◌, refl, ap, ◌∙◌, ℕ, ◌<◌, ◌==◌, Bool, true, false, Some, None}
use Rattle.std.specs.Prelude.{IfSome, ⊤}
use Rattle.std.specs.List.{AllByRecursion}
use Rattle.pcl_base.specs.Limits.{Sizes}
use Rattle.pcl_base.specs.declared.lock.Verdict.{Verdict}
use Rattle.pcl_base.specs.declared.lock.Verdict.TheVariants as verdict
use Rattle.pcl_base.specs.declared.message.Body.{Body}
use Rattle.pcl_base.specs.declared.message.Body.TheVariants as body
use Rattle.pcl_base.specs.declared.message.Message.{Message}
use Rattle.pcl_base.specs.declared.message.ReportRight.{ReportRight}
use Rattle.pcl_base.specs.declared.reply.Reply.TheVariants as reply
use Rattle.pcl_base.specs.declared.tx.TxId.{TxId}
use Rattle.text_rules.specs.MessageBytes.{IsBody}
use Rattle.run_rules.specs.Disk.{Disk, log_at}
use Rattle.run_rules.specs.Views.{View}
use Rattle.node_rules.specs.AccessRule.{Access}
use Rattle.node_rules.specs.CutRule.{cuttable}
use Rattle.node_rules.specs.EndRule.{abort, commit}
use Rattle.node_rules.specs.LockRule.{ask, returned}
use Rattle.node_rules.specs.NodeState.{HomeState, NodeState, NodeEvent, Begin, Read, Write, Commit, Abort, Deliver, Evict, Flush, Install, Cut, partition, number_of, table_at, table_of}
use Rattle.node_rules.specs.NodeStep.{begin_work, work_off, by_verdict, judge_in, partition_of, take_message, cut_if, cut_front, do_event}
use Rattle.node_rules.specs.OpenTxs.{OpenTxs, is_open, begin}
use Rattle.node_rules.specs.OwnerRule.{do_access}
use Rattle.node_rules.specs.Refusals.{refusal, refusal_in_view}
use Rattle.node_rules.specs.Work.{Work, work_of_home, write_back, reply}
use Rattle.home_laws.specs.Refused.{access_refusal}
use Rattle.home_laws.specs.RefusedEnds.{commit_refusal, abort_refusal}
use Rattle.home_laws.proofs.Allowed.{allowed}
use Rattle.home_laws.proofs.EndNeeds.{commit_allowed, abort_allowed}
use Rattle.home_laws.proofs.Kept.{home_written}
use Rattle.home_laws.proofs.Opens.{open_is_own}
use Rattle.home_laws.proofs.Tests.{and_left, and_right, number_equal}
use Rattle.step_laws.proofs.Outcomes.{On, on_so, on_any}
use Rattle.node_laws.specs.Nodes.{IsSound, CanCome, DiskFits}
use Rattle.node_laws.proofs.Bases.{base_is, base_of, base_sound, begun_good}
use Rattle.node_laws.proofs.Ends.{abort_good, commit_good}
use Rattle.node_laws.proofs.Grants.{access_good}
use Rattle.node_laws.proofs.Works.{IsBase, IsHomeOf, IsHomeWork, part_of}
use Rattle.related_runs.proofs.Stepped.{seen}
use Rattle.cluster_facts.proofs.TableParts.Entries.{TableHas, Lists, ask_has, returned_has}
use Rattle.cluster_facts.proofs.TableParts.Keeping.{IsHere, here_home}
use Rattle.cluster_facts.proofs.TableParts.Ending.{Goes, enter_goes, end_goes, access_goes, release_goes, grant_goes, revoke_goes, report_goes}

-- in each table of a node P holds of each transaction, and R of each node
abbrev pub NodeHas : (ℕ → TxId → Type 0) → (ℕ → ℕ → Type 0) → NodeState → Type 0
NodeHas P R n = (q : ℕ) → q < n.home.config.nodes → IfSome (table_at n q) (TableHas (P q) (R q))

-- what a message from a node brings
abbrev pub Brings : Sizes → (ℕ → TxId → Type 0) → (ℕ → ℕ → Type 0) → ℕ → Body → Type 0
Brings c P R from (body.Request r) = P (partition c r.page) r.tx
Brings c P R from (body.Grant g) = ⊤
Brings c P R from (body.Release r) = ⊤
Brings c P R from (body.Revoke p) = ⊤
Brings c P R from (body.Return r) = AllByRecursion (P (partition c r.page)) r.readers
Brings c P R from (body.Report r) =
    Lists (P r.partition) (R r.partition) r × AllByRecursion (λ (x : ReportRight). R r.partition from) r.rights

-- the verdict on a message at a node
abbrev pub verdict_of : NodeState → ℕ → Message → Verdict
verdict_of n from m = judge_in n.view (number_of n) from m.epoch (partition_of n.home.config m.body)

-- what an event brings, of a message that is taken
abbrev pub Hears : NodeState → (ℕ → TxId → Type 0) → (ℕ → ℕ → Type 0) → NodeEvent → Type 0
Hears n P R (Deliver from m) = verdict_of n from m ≡ verdict.Taken → Brings n.home.config P R from m.body
Hears n P R event = ⊤

-- ---- an event that installs no view
module _ (n : NodeState) (d : Disk) (sound : IsSound n) (fits : DiskFits n.home.config d) (Q : ℕ → TxId → Type 0) (S : ℕ → ℕ → Type 0) (gives : (q : ℕ) (t : TxId) → Q q t → S q t.node)
    (own : (q : ℕ) (t : TxId) → t.node ≡ number_of n → t.born ≡ n.home.txs.born → Q q t) (tables : NodeHas Q S n) where
  abbrev Says : Work → Type 0
  Says w = Goes n.home.config sound.limits.some_nodes (number_of n) n.home.txs.born Q S gives w

  base : IsBase (base_of n)
  base = base_is (base_of n) (base_sound n sound)

  part : IsHomeWork (base_of n) (work_of_home (begin_work n d))
  part = part_of (base_of n) base (begin_work n d) (begun_good n d sound fits)

  here_of : (h : HomeState) → IsHomeOf (base_of n) h → IsHere n.home.config sound.limits.some_nodes (number_of n) n.home.txs.born h
  here_of h of = record { config = of.config; node = of.number; life = of.born }

  start : Says (begin_work n d)
  start = (here_of n.home part.home, (sound.places, tables))

  own_tx : (t : TxId) → is_open n.home.txs t ≡ true → (q : ℕ) → Q q t
  own_tx t open_now q =
      let ours = open_is_own n.home.txs t open_now in
      own q t (number_equal t.node n.home.txs.node (and_left (t.node == n.home.txs.node) (t.born == n.home.txs.born) ours))
      (number_equal t.born n.home.txs.born (and_right (t.node == n.home.txs.node) (t.born == n.home.txs.born) ours))

  access_says : (a : Access) → access_refusal a n.home ≡ None → On Says (do_access a (begin_work n d))
  access_says a none =
      let may = allowed a n.home none in
      access_goes n.home.config sound.limits.some_nodes (number_of n) n.home.txs.born Q S gives a (own_tx a.tx may.there) (begin_work n d)
      (here_of _ (access_good (base_of n) a _ (work_of_home (begin_work n d)) none may.page part).home) start

  commit_says : (t : TxId) → refusal_in_view n (Commit t) ≡ None → On Says (do_event d (Commit t) (begin_work n d))
  unfolding do_event commit_refusal
  commit_says t none =
      let may = commit_allowed t n.home none in
      end_goes n.home.config sound.limits.some_nodes (number_of n) n.home.txs.born Q S gives t (reply.Committed t) (begin_work n d) (commit t (work_of_home (begin_work n d)))
      (here_of _ (commit_good (base_of n) t (work_of_home (begin_work n d)) may.0 may.1 part).work.home, start.1)

  abort_says : (t : TxId) → refusal_in_view n (Abort t) ≡ None → On Says (do_event d (Abort t) (begin_work n d))
  unfolding do_event abort_refusal
  abort_says t none =
      let may = abort_allowed t n.home none in
      end_goes n.home.config sound.limits.some_nodes (number_of n) n.home.txs.born Q S gives t (reply.Aborted t) (begin_work n d) (abort t (work_of_home (begin_work n d)))
      (here_of _ (abort_good (base_of n) t (work_of_home (begin_work n d)) may part).work.home, start.1)

  message_says : (from : ℕ) (m : Message) → IsBody n.home.config m.body → (verdict_of n from m ≡ verdict.Taken → Brings n.home.config Q S from m.body) → On Says (take_message d from m (begin_work n d))
  unfolding take_message
  message_says from m fit may = by (judge_in n.view (number_of n) from m.epoch (partition_of n.home.config m.body)) refl
    where
      off : (x : Body) → IsBody n.home.config x → Brings n.home.config Q S from x → On Says (work_off d from x (reply reply.Taken (begin_work n d)))
      off (body.Request r) i k =
          enter_goes n.home.config sound.limits.some_nodes (number_of n) n.home.txs.born Q S gives r.page (λ e. ask e (record { tx = r.tx; mode = r.mode; have = r.have }))
          (λ e all. ask_has (Q (partition n.home.config r.page)) (S (partition n.home.config r.page)) e (record { tx = r.tx; mode = r.mode; have = r.have }) k all) (reply reply.Taken (begin_work n d)) start
      off (body.Grant g) i k = grant_goes n.home.config sound.limits.some_nodes (number_of n) n.home.txs.born Q S gives (table_of n g.page) g (reply reply.Taken (begin_work n d)) start
      off (body.Release r) i k = release_goes n.home.config sound.limits.some_nodes (number_of n) n.home.txs.born Q S gives r (reply reply.Taken (begin_work n d)) start
      off (body.Revoke p) i k = revoke_goes n.home.config sound.limits.some_nodes (number_of n) n.home.txs.born Q S gives from p (reply reply.Taken (begin_work n d)) start
      off (body.Return r) i k =
          enter_goes n.home.config sound.limits.some_nodes (number_of n) n.home.txs.born Q S gives r.page (λ e. returned e from r.readers) (λ e all. returned_has (Q (partition n.home.config r.page)) (S (partition n.home.config r.page)) from r.readers e k all)
          (reply reply.Taken (begin_work n d)) start
      off (body.Report r) i k = report_goes n.home.config sound.limits.some_nodes (number_of n) n.home.txs.born Q S gives d from r (reply reply.Taken (begin_work n d)) i.0 k.0 k.1 start

      by : (x : Verdict) → judge_in n.view (number_of n) from m.epoch (partition_of n.home.config m.body) ≡ x → On Says (by_verdict x d from m.body (begin_work n d))
      by verdict.Taken e = off m.body fit (may e)
      by verdict.Held e = start
      by verdict.Dropped e = start

  cut_says : On Says (do_event d Cut (begin_work n d))
  unfolding do_event
  cut_says =
      on_so (λ (k : ℕ). ⊤) Says (cuttable n.home.config d.pages (log_at d (number_of n))) (cut_front (begin_work n d)) (on_any (cuttable n.home.config d.pages (log_at d (number_of n))))
      (λ k any. by k (k == 0))
    where
      by : (k : ℕ) (x : Bool) → Says (reply (reply.Cut k) (cut_if x k (begin_work n d)))
      by k true = start
      by k false = start

  back_here : (p : ℕ) (h : HomeState) → h.config ≡ (write_back p (work_of_home (begin_work n d))).home.config → h.txs ≡ (write_back p (work_of_home (begin_work n d))).home.txs
      → IsHere n.home.config sound.limits.some_nodes (number_of n) n.home.txs.born h
  back_here p h config txs =
      let same = home_written p (work_of_home (begin_work n d)) in
      here_home n.home.config sound.limits.some_nodes (number_of n) n.home.txs.born n.home h (config ∙ ap (λ (x : HomeState). x.config) same) (ap (λ (s : OpenTxs). s.node) txs ∙ ap (λ (x : HomeState). x.txs.node) same)
      (ap (λ (s : OpenTxs). s.born) txs ∙ ap (λ (x : HomeState). x.txs.born) same) start.0

  pub event_says : (event : NodeEvent) → ((w : View) → event ≡ Install w → ⊥) → CanCome n event → Hears n Q S event → refusal n event ≡ None → On Says (do_event d event (begin_work n d))
  unfolding refusal do_event access_refusal begin
  event_says Begin other can hear none = (record { config = refl; node = refl; life = refl }, start.1)
  event_says (Read t p) other can hear none = access_says (record { tx = t; page = p; write = None }) (seen n (refusal_in_view n (Read t p)) none)
  event_says (Write t p place bytes) other can hear none = access_says (record { tx = t; page = p; write = Some (place, bytes) }) (seen n (refusal_in_view n (Write t p place bytes)) none)
  event_says (Commit t) other can hear none = commit_says t (seen n (refusal_in_view n (Commit t)) none)
  event_says (Abort t) other can hear none = abort_says t (seen n (refusal_in_view n (Abort t)) none)
  event_says (Deliver from m) other can hear none = message_says from m can.1.body hear
  event_says (Evict p) other can hear none = (back_here p _ refl refl, start.1)
  event_says (Flush p) other can hear none = (back_here p _ refl refl, start.1)
  event_says (Install w) other can hear none = absurd (other w refl)
  event_says Cut other can hear none = cut_says
