-- What an install sends: a list for each partition at most.
use Rattle.std.proofs.Common.{◌≡◌, ◌+◌, ◌==◌, nat_lt, ℕ, zero, suc, ap, Bool, true, false, List, length, Option, Some, None, refl, subst, arith}
use Rattle.std.specs.Prelude.{⊤}
use Rattle.pcl_base.specs.declared.log.Record.{Record}
use Rattle.pcl_base.specs.declared.message.Body.TheVariants as body
use Rattle.pcl_base.specs.declared.reply.Reply.TheVariants as reply
use Rattle.run_rules.specs.Disk.{Disk}
use Rattle.run_rules.specs.Redo.{redone, greatest, records_in, all_records}
use Rattle.run_rules.specs.Views.{View, owner_of, since_of, born_of, count_from}
use Rattle.text_rules.specs.StoredPage.{PageAt}
use Rattle.text_rules.specs.LogRecord.{whole_len}
use Rattle.node_rules.specs.LockTable.{LockTable, pages_of}
use Rattle.node_rules.specs.NodeState.{NodeState, Outgoing, number_of, table_at, put_table}
use Rattle.node_rules.specs.Work.{Work, for_each, with_node, reply, read_page}
use Rattle.node_rules.specs.OwnerRule.{settle_page}
use Rattle.node_rules.specs.Reports.{report}
use Rattle.node_rules.specs.InstallRule.{redo_to, redo_page, settle_all, serve_table, begin_serving, complete_if, is_complete, complete, take_over, new_table, get_partition, lost_nodes, redo_if, redo_lost, version_of_page, purge_work, keep_served, keep_in, owned_before, left_if, send_report, tell_new_owner, install_by, install_partition, trim_if, own_log, born_at, begin_life, in_view, install_view}
use Rattle.node_rules.specs.NodeStep.{begin_work}
use Rattle.step_laws.proofs.Sums.{sum_push}
use Rattle.step_laws.proofs.Outcomes.{On, on_then, on_so, on_more, on_count, on_any}
use Rattle.listing_laws.specs.Lists.{one_list}
use Rattle.listing_laws.proofs.Sends.{Few, each_few, settled}

module _ (k : ℕ) where
  redone_few : (rs : List Record) (q p : ℕ) (w : Work) → Few k w → On (Few k) (redo_page rs q p w)
  unfolding redo_page
  redone_few rs q p w h =
      on_so (λ (x : PageAt). ⊤) (Few k) (read_page w.pages p) (λ old. redo_to q p old (redone rs p old) w) (on_any (read_page w.pages p)) (λ old any. h)

  lost_few : (lost rs : List Record) (q p : ℕ) (w : Work) → Few k w → On (Few k) (redo_lost lost rs q p w)
  lost_few lost rs q p w h = by (nat_lt (version_of_page (table_at w.node q) p) (greatest lost p))
    where
      by : (b : Bool) → On (Few k) (redo_if b rs q p w)
      by true = redone_few rs q p w h
      by false = h

  all_settled : (q : ℕ) (w : Work) → Few k w → On (Few k) (settle_all q w)
  all_settled q w h = each_few k settle_page (settled k) (pages_of w.node.home.config q) w h

  serving_few : (q : ℕ) (w : Work) → Few k w → On (Few k) (begin_serving q w)
  serving_few q w h = all_settled q (reply (reply.Serving q) (with_node w (serve_table q (table_at w.node q) w.node))) h

  pub completed : (d : Disk) (q : ℕ) (w : Work) → Few k w → On (Few k) (complete d q w)
  unfolding complete
  completed d q w h = by (is_complete w.node.view q (table_at w.node q))
    where
      by : (b : Bool) → On (Few k) (complete_if b d q w)
      by true =
          on_then (Few k) (Few k) (for_each (redo_page (all_records w.node.home.config d) q) (pages_of w.node.home.config q) w) (begin_serving q)
          (each_few k (redo_page (all_records w.node.home.config d) q) (redone_few (all_records w.node.home.config d) q) (pages_of w.node.home.config q) w h)
          (λ x few. serving_few q x few)
      by false = h

  got_few : (d : Disk) (q : ℕ) (w : Work) → Few k w → On (Few k) (get_partition d q w)
  unfolding get_partition
  got_few d q w h =
      completed d q
      (with_node w
      (put_table (record (w.node) { home = take_over q w.node.home }) q
      (Some (new_table q (number_of w.node) (take_over q w.node.home))))) h

  kept_few : (o : Option LockTable) (d : Disk) (before : Option View) (v : View) (q : ℕ) (w : Work) → Few k w → On (Few k) (keep_in o d before v q w)
  kept_few None d before v q w h = h
  kept_few (Some t) d before v q w h = by t.serving
    where
      by : (b : Bool) → On (Few k) (keep_served b d before v q w)
      by true =
          let lost : List Record = records_in w.node.home.config d (lost_nodes before v) in
          let rs : List Record = all_records w.node.home.config d in
          on_then (Few k) (Few k) (for_each (redo_lost lost rs q) (pages_of w.node.home.config q) w) (λ x. settle_all q (purge_work q v x))
          (each_few k (redo_lost lost rs q) (lost_few lost rs q) (pages_of w.node.home.config q) w h)
          (λ x few. all_settled q (purge_work q v x) few)
      by false = completed d q (purge_work q v w) h

  more_few : (w : Work) → Few k w → Few (k + 1) w
  more_few w h = omega (arith, h)

  told_few : (before : Option View) (v : View) (q : ℕ) (w : Work) → Few k w → Few (k + 1) (tell_new_owner before v q w)
  told_few before v q w h = by (left_if (owned_before before q (number_of w.node)) q w.node)
    where
      by : (n : NodeState) → Few (k + 1) (send_report q (owner_of v q) (with_node w n))
      by n =
          let sent : Outgoing = record { to = owner_of v q; message = record { epoch = n.epoch; body = body.Report (report q n.home) } } in
          let more = sum_push (λ (o : Outgoing). one_list o.message.body) w.sends sent in
          omega (arith, h, more)

  partition_few : (d : Disk) (before : Option View) (v : View) (q : ℕ) (w : Work) → Few k w → On (Few (k + 1)) (install_partition d before v q w)
  unfolding install_partition
  partition_few d before v q w h = by (owner_of v q == number_of w.node) (since_of v q == v.epoch)
    where
      by : (a b : Bool) → On (Few (k + 1)) (install_by a b d before v q w)
      by true true = on_more (Few k) (Few (k + 1)) (get_partition d q w) more_few (got_few d q w h)
      by true false = on_more (Few k) (Few (k + 1)) (keep_in (table_at w.node q) d before v q w) more_few (kept_few (table_at w.node q) d before v q w h)
      by false true = told_few before v q w h
      by false false = more_few w h

counted : (a n : ℕ) → length (count_from a n) ≡ n
unfolding count_from
counted a zero = refl
counted a (suc n) = ap suc (counted (a + 1) n)

trimmed_few : (b : Bool) (keep : ℕ) (w : Work) → Few 0 w → Few 0 (trim_if b keep w)
trimmed_few true keep w h = h
trimmed_few false keep w h = h

begun_few : (b : Bool) (d : Disk) (v : View) (w : Work) → Few 0 w → Few 0 (begin_life b d v w)
begun_few true d v w h =
    let x : Work = with_node w (born_at v.epoch w.node) in
    trimmed_few (nat_lt (whole_len x.node.home.config (own_log d x)) (length (own_log d x))) (whole_len x.node.home.config (own_log d x)) x h
begun_few false d v w h = h

pub install_few : (n : NodeState) (d : Disk) (v : View) → On (Few n.home.config.nodes) (install_view d v (begin_work n d))
unfolding install_view
install_few n d v =
    let w : Work = begin_work n d in
    let all = counted 0 n.home.config.nodes in
    let answered : Work = reply (reply.Installed v.epoch) (with_node w (in_view v w.node)) in
    subst (λ (k : ℕ). On (Few k) (install_view d v w)) (omega (arith, all))
    (on_count Few (install_partition d n.view v) (λ q k x few. partition_few k d n.view v q x few) (count_from 0 n.home.config.nodes) 0
    (begin_life (born_of v (number_of n) == v.epoch) d v answered) (begun_few (born_of v (number_of n) == v.epoch) d v answered (omega arith)))
