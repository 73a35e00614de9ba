-- A step on an event that installs no view: its tables, its view, and what it sends.
use Rattle.std.proofs.Common.{◌≡◌, refl, sym, ap, subst, ◌∙◌, ℕ, ◌==◌, Bool, true, false, Option, Some, None, option_map, arith, eqb-true}
use Rattle.std.specs.Prelude.{⊤, IfSome}
use Rattle.std.proofs.lemmas.Bool.Decides.{nat_tests}
use Rattle.pcl_base.specs.declared.lock.Verdict.{Verdict}
use Rattle.pcl_base.specs.declared.lock.Verdict.TheVariants as verdict
use Rattle.pcl_base.specs.declared.message.Body.{Body}
use Rattle.pcl_base.specs.declared.message.Body.TheVariants as body
use Rattle.pcl_base.specs.declared.message.Message.{Message}
use Rattle.pcl_base.specs.declared.message.Report.{Report}
use Rattle.pcl_base.specs.declared.reply.Reply.TheVariants as reply
use Rattle.run_rules.specs.Disk.{Disk, log_at}
use Rattle.run_rules.specs.Views.{View}
use Rattle.node_rules.specs.CutRule.{cuttable}
use Rattle.node_rules.specs.EndRule.{abort, commit}
use Rattle.node_rules.specs.InstallRule.{take_report, on_report_in, on_report}
use Rattle.node_rules.specs.LockRule.{ask, returned}
use Rattle.node_rules.specs.LockTable.{LockTable, mark}
use Rattle.node_rules.specs.NodeState.{NodeState, NodeEvent, Begin, Read, Write, Commit, Abort, Deliver, Evict, Flush, Install, Cut, number_of, table_at, table_of, put_table}
use Rattle.node_rules.specs.NodeStep.{begin_work, work_off, by_verdict, judge_in, partition_of, take_message, open_tx, evict_copy, flush_copy, cut_if, cut_front, cut_log, do_event}
use Rattle.node_rules.specs.Reports.{gather}
use Rattle.node_rules.specs.Words.{pick}
use Rattle.node_rules.specs.Work.{Work, work_of_home, with_node, reply}
use Rattle.step_laws.proofs.Outcomes.{On, on_so, on_any}
use Rattle.node_laws.proofs.Lists.{set_at}
use Rattle.cluster_facts.proofs.ReportsParts.Events.{Going, same_going, enter_going, complete_going, access_going, end_going, release_going, grant_going, revoke_going}
use Rattle.cluster_facts.proofs.ReportsParts.Flags.{TableGoesOn, table_same, flagged, heard_body, heard_by, heard, gathered_on, there_below}
use Rattle.cluster_facts.proofs.ReportsParts.Walking.{GoesOnAs, as_it_is}

module _ (n : NodeState) (d : Disk) where
  begun : Work
  begun = begin_work n d

  start : Going n.view (table_at n) (begin_work n d)
  start = record { view_is = refl; tables = λ q. table_same (table_at n q); said = tt }

  taken : Going n.view (table_at n) (reply reply.Taken (begin_work n d))
  taken = record { view_is = refl; tables = λ q. table_same (table_at n q); said = tt }

  -- ---- a report
  module _ (from : ℕ) (r : Report) where
    abbrev Heard : ℕ → Option LockTable
    Heard q = heard_body from q (body.Report r) (table_at n q)

    unheard : (x : Bool) (o : Option LockTable) → (x ≡ true → IfSome o (λ t. t.serving ≡ true)) → TableGoesOn (pick x (option_map (flagged from) o) o) o
    unheard false o k = table_same o
    unheard true None k = tt
    unheard true (Some t) k = subst (λ (b : Bool). GoesOnAs (pick b t (mark t from)) t) (sym (k refl)) (as_it_is t)

    -- where the table isn't being rebuilt
    left : IfSome (table_at n r.partition) (λ t. t.serving ≡ true) → Going n.view Heard (reply reply.Taken (begin_work n d))
    left k =
        record {
          view_is = refl;
          tables = λ q. unheard (r.partition == q) (table_at n q) (λ e. subst (λ (j : ℕ). IfSome (table_at n j) (λ t. t.serving ≡ true)) (eqb-true r.partition q e) k);
          said = tt;
        }

    -- the report is put into the table
    put : (t : LockTable) → table_at n r.partition ≡ Some t → t.serving ≡ false
        → Going n.view Heard (with_node (reply reply.Taken (begin_work n d)) (put_table n r.partition (Some (gather t from r))))
    put t there rebuilt =
        record {
          view_is = refl;
          tables = λ q.
              set_at (λ (o : Option LockTable). TableGoesOn (Heard q) o) None n.tables r.partition q (Some (gather t from r)) (there_below n.tables r.partition t there)
              (λ same. here q (r.partition == q) refl same) (λ other. elsewhere q (r.partition == q) refl other);
          said = tt;
        }
      where
        here : (q : ℕ) (x : Bool) → (r.partition == q) ≡ x → q ≡ r.partition → TableGoesOn (pick x (option_map (flagged from) (table_at n q)) (table_at n q)) (Some (gather t from r))
        here q false e same = absurd (grind (arith, nat_tests, e, same))
        here q true e same =
            subst (λ (o : Option LockTable). TableGoesOn (option_map (flagged from) o) (Some (gather t from r))) (sym (ap (table_at n) same ∙ there))
            (subst (λ (b : Bool). GoesOnAs (pick b t (mark t from)) (gather t from r)) (sym rebuilt) (gathered_on t from r))

        elsewhere : (q : ℕ) (x : Bool) → (r.partition == q) ≡ x → (q == r.partition) ≡ false → TableGoesOn (pick x (option_map (flagged from) (table_at n q)) (table_at n q)) (table_at n q)
        elsewhere q false e other = table_same (table_at n q)
        elsewhere q true e other = absurd (grind (arith, nat_tests, e, other))

    report_goes : On (Going n.view Heard) (on_report d from r (reply reply.Taken (begin_work n d)))
    unfolding on_report
    report_goes = by (table_at n r.partition) refl
      where
        took : (x : Bool) (t : LockTable) → table_at n r.partition ≡ Some t → t.serving ≡ x → On (Going n.view Heard) (take_report x d from r t (reply reply.Taken (begin_work n d)))
        took true t there e = left (subst (λ (o : Option LockTable). IfSome o (λ t. t.serving ≡ true)) (sym there) e)
        took false t there e = complete_going n.view Heard d r.partition (with_node (reply reply.Taken (begin_work n d)) (put_table n r.partition (Some (gather t from r)))) (put t there e)

        by : (o : Option LockTable) → table_at n r.partition ≡ o → On (Going n.view Heard) (on_report_in d from r o (reply reply.Taken (begin_work n d)))
        by None there = left (subst (λ (o : Option LockTable). IfSome o (λ t. t.serving ≡ true)) (sym there) tt)
        by (Some t) there = took t.serving t there refl

  -- ---- a message
  body_goes : (from : ℕ) (b : Body) → On (Going n.view (λ q. heard_body from q b (table_at n q))) (work_off d from b (reply reply.Taken (begin_work n d)))
  body_goes from (body.Request r) = enter_going n.view (table_at n) (λ e. ask e (record { tx = r.tx; mode = r.mode; have = r.have })) r.page (reply reply.Taken (begin_work n d)) taken
  body_goes from (body.Grant g) = grant_going n.view (table_at n) (table_of n g.page) g (reply reply.Taken (begin_work n d)) taken
  body_goes from (body.Release r) = release_going n.view (table_at n) r (reply reply.Taken (begin_work n d)) taken
  body_goes from (body.Revoke p) = revoke_going n.view (table_at n) from p (reply reply.Taken (begin_work n d)) taken
  body_goes from (body.Return r) = enter_going n.view (table_at n) (λ e. returned e from r.readers) r.page (reply reply.Taken (begin_work n d)) taken
  body_goes from (body.Report r) = report_goes from r

  message_goes : (from : ℕ) (m : Message) → On (Going n.view (heard n (Deliver from m))) (take_message d from m (begin_work n d))
  unfolding take_message
  message_goes from m = by (judge_in n.view (number_of n) from m.epoch (partition_of n.home.config m.body))
    where
      by : (x : Verdict) → On (Going n.view (λ q. heard_by x from q m.body (table_at n q))) (by_verdict x d from m.body (begin_work n d))
      by verdict.Taken = body_goes from m.body
      by verdict.Held = same_going n.view (table_at n) (begin_work n d) (reply reply.Held (begin_work n d)) refl refl refl start
      by verdict.Dropped = same_going n.view (table_at n) (begin_work n d) (reply reply.Dropped (begin_work n d)) refl refl refl start

  cut_goes : On (Going n.view (table_at n)) (cut_log d (begin_work n d))
  cut_goes =
      on_so (λ (k : ℕ). ⊤) (Going n.view (table_at n)) (cuttable n.home.config d.pages (log_at d (number_of n))) (cut_front (begin_work n d)) (on_any (cuttable n.home.config d.pages (log_at d (number_of n))))
      (λ k any. by k (k == 0))
    where
      by : (k : ℕ) (x : Bool) → Going n.view (table_at n) (reply (reply.Cut k) (cut_if x k (begin_work n d)))
      by k true = same_going n.view (table_at n) (begin_work n d) (reply (reply.Cut k) (cut_if true k (begin_work n d))) refl refl refl start
      by k false = same_going n.view (table_at n) (begin_work n d) (reply (reply.Cut k) (cut_if false k (begin_work n d))) refl refl refl start

  pub event_goes : (event : NodeEvent) → ((w : View) → event ≡ Install w → ⊥) → On (Going n.view (heard n event)) (do_event d event (begin_work n d))
  unfolding do_event
  event_goes Begin other = same_going n.view (table_at n) (begin_work n d) (open_tx (begin_work n d)) refl refl refl start
  event_goes (Read t p) other = access_going n.view (table_at n) (record { tx = t; page = p; write = None }) (begin_work n d) start
  event_goes (Write t p place bytes) other = access_going n.view (table_at n) (record { tx = t; page = p; write = Some (place, bytes) }) (begin_work n d) start
  event_goes (Commit t) other = end_going n.view (table_at n) (reply.Committed t) t (begin_work n d) (commit t (work_of_home (begin_work n d))) start
  event_goes (Abort t) other = end_going n.view (table_at n) (reply.Aborted t) t (begin_work n d) (abort t (work_of_home (begin_work n d))) start
  event_goes (Deliver from m) other = message_goes from m
  event_goes (Evict p) other = same_going n.view (table_at n) (begin_work n d) (evict_copy p (begin_work n d)) refl refl refl start
  event_goes (Flush p) other = same_going n.view (table_at n) (begin_work n d) (flush_copy p (begin_work n d)) refl refl refl start
  event_goes (Install w) other = absurd (other w refl)
  event_goes Cut other = cut_goes
