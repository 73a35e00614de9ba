-- An end, whole, of one page.
use Rattle.std.proofs.Common.{◌≡◌, ◌≢◌, refl, sym, ap, subst, ◌∙◌, ℕ, ◌<◌, ◌==◌, not, Bool, true, false, List, [], ◌∷◌, Option, Some, None, is_some, eqb-true}
use Rattle.std.specs.List.{AllByRecursion}
use Rattle.pcl_base.specs.declared.event.Event.{Event}
use Rattle.pcl_base.specs.declared.reply.Reason.TheVariants as reason
use Rattle.pcl_base.specs.declared.message.Message.{Message}
use Rattle.pcl_base.specs.declared.tx.TxId.{TxId}
use Rattle.text_rules.specs.MessageBytes.{IsTx}
use Rattle.pcl_base.specs.declared.lock.Held.{Held}
use Rattle.run_rules.specs.Disk.{Disk}
use Rattle.run_rules.specs.Now.{now}
use Rattle.run_rules.specs.Views.{View}
use Rattle.node_rules.specs.DiskCalls.{all_done}
use Rattle.node_rules.specs.EndRule.{Ending, commit, abort, endings}
use Rattle.node_rules.specs.InstallRule.{owned_before}
use Rattle.node_rules.specs.LockTable.{LockTable}
use Rattle.node_rules.specs.NodeState.{NodeState, Abort, number_of, partition, table_of}
use Rattle.node_rules.specs.NodeStep.{do_event}
use Rattle.node_rules.specs.OpenTxs.{is_open, held_by, pending_of}
use Rattle.node_rules.specs.OwnerRule.{tell_end}
use Rattle.node_rules.specs.Refusals.{refusal_in_view, refusal}
use Rattle.node_rules.specs.Work.{HomeWork, Work, Goes, for_each, work_of_home}
use Rattle.rule_laws.proofs.Turns.{and_left}
use Rattle.home_laws.proofs.Opens.{open_is_own}
use Rattle.node_laws.proofs.Bases.{base_of}
use Rattle.node_laws.proofs.Ends.{IsEnding}
use Rattle.node_laws.proofs.Events.{not_refused}
use Rattle.node_laws.proofs.Transactions.{open_is_tx}
use Rattle.cluster_rules.specs.Clusters.{Cluster, node_at, stop_at}
use Rattle.cluster_rules.specs.ClusterStep.{left_of, step}
use Rattle.cluster_laws.specs.Sound.{IsMember, IsCluster}
use Rattle.cluster_laws.proofs.Steps.{up_is_member_law}
use Rattle.cluster_laws.specs.Link.Coming.{coming}
use Rattle.cluster_laws.specs.Era.Eras.{era_at}
use Rattle.cluster_laws.specs.Link.Orders.{is_report, how_many}
use Rattle.page_laws.specs.Moment.Looks.{accesses_in, HasPage, with_entry}
use Rattle.page_laws.specs.Moment.Tells.{TellsSame}
use Rattle.page_laws.specs.Storage.Looks.{IsStored}
use Rattle.page_laws.proofs.MomentParts.Growing.{nothing_tells_law}
use Rattle.page_protocol.specs.Homes.{ending as giving_up}
use Rattle.page_protocol.specs.State.{Page, current}
use Rattle.page_protocol.specs.Steps.{Reached}
use Rattle.page_protocol.proofs.Keeps.{and_then}
use Rattle.page_relation.specs.Homes.{wait_on}
use Rattle.page_relation.specs.Messages.{is_release}
use Rattle.page_relation.specs.Relation.{IsPageOf}
use Rattle.page_relation.specs.Together.{IsRelated}
use Rattle.page_relation.specs.Work.Events.{IsEntered}
use Rattle.page_relation.specs.Work.Keeping.{IsWorkOf, Leads}
use Rattle.page_relation.specs.Work.Landing.{land, Acts, trace_of, disk_of}
use Rattle.page_relation.specs.Work.StepEnds.{start_of, Follows}
use Rattle.page_relation.proofs.WorkParts.Ended.{end_is_landed_law}
use Rattle.page_relation.proofs.WorkParts.Kept.{reached_on}
use Rattle.page_relation.proofs.WorkParts.Started.{acting}
use Rattle.end_relation.specs.Ends.{CanEnd, LeavesEnd, AbortLeaves, AbortIsKept}
use Rattle.end_relation.specs.Midway.{IsMidway}
use Rattle.end_relation.specs.Over.{event_of, reply_of, closed_of, over_of}
use Rattle.end_relation.specs.Owing.{SameComing}
use Rattle.end_relation.proofs.Closing.{standing_over}
use Rattle.end_relation.proofs.Overs.{MayClose, IsOverWork, over_is}
use Rattle.end_relation.proofs.Owing.{owed, unowed, all_owed}
use Rattle.end_relation.proofs.Passing.{Passes, is_changed, is_given_up, is_read, is_unused, passes_run, open_stand, abort_passes}
use Rattle.end_relation.proofs.Past.{page_past}
use Rattle.end_relation.proofs.Starting.{ends_are, over_midway}
use Rattle.end_relation.proofs.Telling.{IsTelling}
use Rattle.end_relation.proofs.Told.{tells_all}
use Rattle.end_relation.proofs.Traced.{end_adds, end_trace, end_coming}
use Rattle.end_relation.proofs.Untold.{unreleased_before, unreported_before}

-- the endings, and what the step does with them
told_are : (b : Bool) (t : TxId) (w : HomeWork) → (closed_of b t w).endings ≡ endings w.home t b
unfolding commit abort
told_are true t w = refl
told_are false t w = refl

event_is : (b : Bool) (t : TxId) (c : Cluster) (s : NodeState)
    → do_event c.disk (event_of b t) (start_of c s) ≡ for_each (tell_end t) (closed_of b t (work_of_home (start_of c s))).endings (over_of b t c s)
unfolding do_event
event_is true t c s = refl
event_is false t c s = refl

module _ (blank : List ℕ) (c : Cluster) (e : Event) (n : ℕ) (s : NodeState) (b : Bool) (t : TxId) (r : IsRelated blank c) (is : CanEnd blank c e n s (event_of b t) t r) (may : MayClose b s t) where
  pub acts : Acts c n
  acts = acting c e n s (event_of b t) r.cluster is.handed

  member : IsMember c.config c.views n s
  member = (up_is_member_law c n s r.cluster is.handed.up).1

  pub mine : t.node ≡ n
  mine = eqb-true t.node s.home.txs.node (and_left (t.node == s.home.txs.node) (t.born == s.home.txs.born) (open_is_own s.home.txs t may.there)) ∙ member.number

  pub over_it : IsOverWork b t c s (over_of b t c s)
  over_it = over_is b t c s may

  -- what is told
  pub endings_are : AllByRecursion (IsEnding s.home.config) (endings s.home t b)
  endings_are = subst (AllByRecursion (IsEnding s.home.config)) (told_are b t (work_of_home (start_of c s))) (ends_are c e n s b t r.cluster is.handed r.asked may over_it).endings

  pub event_goes : do_event c.disk (event_of b t) (start_of c s) ≡ for_each (tell_end t) (endings s.home t b) (over_of b t c s)
  event_goes = event_is b t c s ∙ ap (λ (es : List Ending). for_each (tell_end t) es (over_of b t c s)) (told_are b t (work_of_home (start_of c s)))

  -- a page that stands where its owner is to be told
  pub record Stood (p : ℕ) (es : List Ending) (w : Work) : Type 0 where
    pub page : Page
    pub reached : Reached blank page
    pub related : IsWorkOf c e n p w page
    pub known : IsTelling (base_of s) c e n p t es w page

  -- no message tells the end of a page before the step
  pub unreleased : (p : ℕ) → p < c.config.pages → (y z : ℕ) → how_many (is_release t) (coming c p y z) ≡ 0
  unreleased p low =
      unreleased_before c p t (r.pages.page p) (held_by s.home.txs t p) (wait_on (pending_of s.home.txs t) p)
      (open_stand blank c n s t r.cluster is.handed.up mine b may p (r.pages.page p) (r.pages.reached p low) (r.pages.related p low)) (r.pages.related p low)

  pub tx : IsTx s.home.config t
  tx = open_is_tx s.home t may.home may.there

  pub unreported : (p : ℕ) → p < c.config.pages → (v : Work) (a : Page) (tb : LockTable) → IsMidway (base_of s) c e n v → IsWorkOf c e n p v a → table_of v.node p ≡ Some tb
      → (y z : ℕ) → AllByRecursion (λ (m : Message). is_report m.body ≡ true → y ≡ t.node → era_at c (partition c.config p) m.epoch ≢ a.reached n) (coming c p y z)
  unreported p low = unreported_before c e n p s t acts r.order is.handed.up tx (unreleased p low) r.parties mine

  -- one page, from the state that the end leads to
  module _ (p : ℕ) (low : p < c.config.pages) (k : Page) (passes : Passes c p t b (held_by s.home.txs t p) (disk_of c n (over_of b t c s)) (r.pages.page p) k)
      (has : HasPage (now c.config (trace_of c e n (over_of b t c s))) p (current k)) (scripts : (u : TxId) → (r.pages.page p).script u ≡ accesses_in u p (trace_of c e n (over_of b t c s))) where
    abbrev a : Page
    a = r.pages.page p

    past : IsPageOf (land c e n (over_of b t c s)) p k
    past = page_past blank c e n p s b t r.cluster is.handed acts mine may (over_of b t c s) over_it a (r.pages.reached p low) (r.pages.related p low) k passes has scripts

    same_links : SameComing c e n p (over_of b t c s)
    same_links = end_coming c e n s b t r.cluster is.handed p (over_of b t c s) (standing_over t s (over_of b t c s) over_it.over) over_it.replies over_it.sends

    telling : IsTelling (base_of s) c e n p t (endings s.home t b) (over_of b t c s) k
    telling =
        record {
          midway = over_midway c e n s b t r.cluster is.handed r.asked may over_it;
          owed =
              all_owed (SameComing c e n p (over_of b t c s)) (owned_before s.view (partition s.home.config p) (number_of s)) n t p s.home b k may.home
              (λ touched. owed blank c e n p s b t acts is.handed.up mine may (over_of b t c s) over_it a (r.pages.reached p low) (r.pages.related p low) (is.entered p low) touched k passes) same_links
              (λ untouched. unowed blank c e n p s b t acts is.handed.up mine may (over_of b t c s) over_it a (r.pages.reached p low) (r.pages.related p low) (is.entered p low) untouched k passes);
        }

    reached_after : Reached blank k
    reached_after = reached_on blank a k (r.pages.reached p low) (passes_run c p t b (held_by s.home.txs t p) (disk_of c n (over_of b t c s)) a k passes)

    -- the page stands where its owner is to be told
    pub stands_there : Stood p (endings s.home t b) (over_of b t c s)
    stands_there = record { page = k; reached = reached_after; related = past; known = telling }

    pub leaves : LeavesEnd c e n p s b t a
    leaves =
        record {
          page = k;
          run = passes_run c p t b (held_by s.home.txs t p) (disk_of c n (over_of b t c s)) a k passes;
          related = past;
          midway = telling.midway;
          owed = telling.owed;
        }

    -- one that stands so
    module _ (w : Work) (goes : do_event c.disk (event_of b t) (start_of c s) ≡ Goes w) (whole : left_of n c.disk w.calls (stop_at c n) ≡ None) where
      all_told : Leads c e n p (λ v j. IsEntered j) k w
      all_told =
          tells_all c e n p s t acts r.order is.handed.up tx (unreleased p low) (unreported p low) (is.own p low) (endings s.home t b)
          endings_are blank (over_of b t c s) w k reached_after past telling (sym event_goes ∙ goes)

      pub end_follows : Follows p IsEntered a (step c e)
      end_follows =
          record {
            page = all_told.page;
            run = and_then (passes_run c p t b (held_by s.home.txs t p) (disk_of c n (over_of b t c s)) a k passes) all_told.run;
            related = subst (λ (d : Cluster). IsPageOf d p all_told.page) (sym (end_is_landed_law c e n s (event_of b t) w is.handed is.free goes whole)) all_told.related;
            known = all_told.known;
          }

-- ---- an abort

-- a transaction that isn't refused to abort
not_false : (d : Bool) → not d ≡ false → d ≡ true
not_false true f = refl
not_false false f = absurd (cc)

may_abort : (c : Cluster) (n : ℕ) (s : NodeState) (t : TxId) → IsCluster c → node_at c n ≡ Some s → refusal s (Abort t) ≡ None → MayClose false s t
unfolding refusal
may_abort c n s t i up free = by s.view refl
  where
    all : (not (is_some s.view) ≡ false) × (refusal_in_view s (Abort t) ≡ None)
    all = not_refused (not (is_some s.view)) reason.NotInView (refusal_in_view s (Abort t)) free

    there : is_open s.home.txs t ≡ true
    there = not_false (is_open s.home.txs t) (not_refused (not (is_open s.home.txs t)) reason.NoTx None all.1).0

    by : (o : Option View) → s.view ≡ o → MayClose false s t
    by None own = absurd (let bad : true ≡ false = sym (ap (λ (x : Option View). not (is_some x)) own) ∙ all.0 in cc)
    by (Some v) own = record { home = (up_is_member_law c n s i up).1.sound.home; view = v; in_view = own; there = there; waits = λ bad. absurd (cc) }

-- what an abort leaves of the current page
given_up_current : (c : Cluster) (p : ℕ) (t : TxId) (d : Disk) (o : Option Held) (a k : Page) → Passes c p t false o d a k → current k ≡ current a
unfolding giving_up
given_up_current c p t d o a k (is_changed ranges commits_it locked holds some made long fits stored) = absurd (cc)
given_up_current c p t d o a k (is_read commits_it shared granted none stored) = absurd (cc)
given_up_current c p t d o a k (is_given_up aborts begun stored) = refl
given_up_current c p t d o a k (is_unused none empty free stored) = refl

module _ (blank : List ℕ) (c : Cluster) (e : Event) (n : ℕ) (s : NodeState) (t : TxId) (r : IsRelated blank c) (is : CanEnd blank c e n s (Abort t) t r) where
  pub may_give_up : MayClose false s t
  may_give_up = may_abort c n s t r.cluster is.handed.up is.free

  seen : IsOverWork false t c s (over_of false t c s)
  seen = over_it blank c e n s false t r is may_give_up

  traced : trace_of c e n (over_of false t c s) ≡ with_entry c.trace e (reply_of false t ∷ []) []
  traced = end_trace c e n s false t r.cluster is.handed (over_of false t c s) seen.replies seen.sends

  tells : TellsSame c.config c.trace (with_entry c.trace e (reply_of false t ∷ []) [])
  tells = nothing_tells_law c.config c.trace (with_entry c.trace e (reply_of false t ∷ []) []) (end_adds c e n s false t r.cluster is.handed)

  module _ (p : ℕ) (low : p < c.config.pages) where
    pub passed : (k : Page) × Passes c p t false (held_by s.home.txs t p) (disk_of c n (over_of false t c s)) (r.pages.page p) k
    passed =
        abort_passes blank c n s t r.cluster is.handed.up (mine blank c e n s false t r is may_give_up) false may_give_up p (r.pages.page p) (r.pages.reached p low) (r.pages.related p low)
        (disk_of c n (over_of false t c s)) refl
        (subst (λ (d : Disk). IsStored c.config d p (r.pages.page p).disk (r.pages.page p).log) (sym (ap (all_done n c.disk) seen.calls)) (r.pages.related p low).stored)

    pub has_now : HasPage (now c.config (trace_of c e n (over_of false t c s))) p (current passed.0)
    has_now =
        subst (λ o. HasPage o p (current passed.0)) (sym (ap (now c.config) traced ∙ tells.now_same))
        (subst (HasPage (now c.config c.trace) p) (sym (given_up_current c p t (disk_of c n (over_of false t c s)) (held_by s.home.txs t p) (r.pages.page p) passed.0 passed.1)) (r.pages.related p low).history.now_same)

    pub has_scripts : (u : TxId) → (r.pages.page p).script u ≡ accesses_in u p (trace_of c e n (over_of false t c s))
    has_scripts u = (r.pages.related p low).homes.scripts u ∙ sym (tells.accesses u p) ∙ sym (ap (accesses_in u p) traced)

pub abort_leaves_law : AbortLeaves
abort_leaves_law blank c e n s t r is p low =
    leaves blank c e n s false t r is (may_give_up blank c e n s t r is) p low (passed blank c e n s t r is p low).0 (passed blank c e n s t r is p low).1 (has_now blank c e n s t r is p low)
    (has_scripts blank c e n s t r is p low)

pub abort_is_kept_law : AbortIsKept
abort_is_kept_law blank c e n s t w r is goes whole p low =
    end_follows blank c e n s false t r is (may_give_up blank c e n s t r is) p low (passed blank c e n s t r is p low).0 (passed blank c e n s t r is p low).1
    (has_now blank c e n s t r is p low) (has_scripts blank c e n s t r is p low) w goes whole
