-- What the install of a view leaves of a node's tables, and which reports it sends.
use Rattle.std.proofs.Common.{◌≡◌, refl, sym, ap, subst, ◌∙◌, ℕ, zero, suc, ◌+◌, ◌<◌, ◌≤◌, ◌==◌, nat_lt, Bool, true, false, List, [], ◌∷◌, ◌++◌, length, replicate, slice_index_or, slice_set, Option, Some, None, arith, eqb-true}
use Rattle.std.specs.List.{AllByRecursion}
use Rattle.std.proofs.lemmas.Bool.Decides.{nat_tests}
use Rattle.pcl_base.specs.declared.message.Body.{Body}
use Rattle.pcl_base.specs.declared.message.Body.TheVariants as body
use Rattle.pcl_base.specs.declared.message.Report.{Report}
use Rattle.pcl_base.specs.declared.reply.Reply.TheVariants as reply
use Rattle.run_rules.specs.Disk.{Disk}
use Rattle.run_rules.specs.Views.{View, owner_of, since_of, born_of, count_from}
use Rattle.text_rules.specs.LogRecord.{whole_len}
use Rattle.node_rules.specs.InstallRule.{complete, take_over, new_table, get_partition, keep_in, owned_before, left_if, tell_new_owner, install_by, install_partition, trim_if, own_log, born_at, begin_life, in_view, install_view}
use Rattle.node_rules.specs.LockTable.{LockTable, open_table}
use Rattle.node_rules.specs.NodeState.{HomeState, NodeState, Outgoing, number_of, table_at, put_table}
use Rattle.node_rules.specs.NodeStep.{begin_work}
use Rattle.node_rules.specs.Reports.{report, own_report}
use Rattle.node_rules.specs.Words.{pick}
use Rattle.node_rules.specs.Work.{Work, with_node, for_each, reply, send}
use Rattle.step_laws.proofs.Outcomes.{On, on_then, on_more}
use Rattle.node_laws.proofs.Lists.{all_push, set_look, set_length, set_at}
use Rattle.cluster_facts.proofs.ReportsParts.Done.{DoneBy, Done}
use Rattle.cluster_facts.proofs.ReportsParts.Flags.{TableGoesOn, table_same, table_further, gather_flags}
use Rattle.cluster_facts.proofs.ReportsParts.Sending.{is_request, reports_of, HasOut, reports_last, out_more, out_last, none_decided, unasked}
use Rattle.cluster_facts.proofs.ReportsParts.Walking.{is_decided, GoesOnAs, completed_walk, stayed_walk}

module _ (n : NodeState) (v : View) where
  -- what is sent for the partitions below k: no requests, and a report of each partition whose owner is new and another
  pub record Sending (k : ℕ) (os : List Outgoing) : Type 0 where
    pub unasked : AllByRecursion (λ (o : Outgoing). is_request o.message.body ≡ false) os
    pub once : (q : ℕ) → reports_of q os ≤ 1
    pub none : (q : ℕ) → k ≤ q → reports_of q os ≡ 0
    pub told : (q : ℕ) → q < k → (since_of v q == v.epoch) ≡ true → (owner_of v q == number_of n) ≡ false → HasOut (owner_of v q) q os

  abbrev At : ℕ → ℕ → Option LockTable → Type 0
  At k q o = (q < k → Done n v q o) × (k ≤ q → TableGoesOn (table_at n q) o)

  -- the work once the reports below j are sent, and the tables below k are done
  record Stage (j k : ℕ) (w : Work) : Type 0 where
    number : number_of w.node ≡ number_of n
    view_is : w.node.view ≡ Some v
    places : length w.node.tables ≡ length n.tables
    tables : (q : ℕ) → At k q (table_at w.node q)
    sending : Sending j w.sends

  done_further : (q : ℕ) (t u : LockTable) → GoesOnAs t u → Done n v q (Some t) → Done n v q (Some u)
  done_further q t u on is = by (since_of v q == v.epoch) is
    where
      by : (x : Bool) → DoneBy n v x q (Some t) → DoneBy n v x q (Some u)
      by false is = table_further (table_at n q) t u on is
      by true is = λ own. let new = is own in (new.0, on.reported ∙ new.1)

  at_further : (k q : ℕ) (t u : LockTable) → GoesOnAs t u → At k q (Some t) → At k q (Some u)
  at_further k q t u on is = ((λ l. done_further q t u on (is.0 l)), (λ l. table_further (table_at n q) t u on (is.1 l)))

  stage_same : (j k : ℕ) (w x : Work) → number_of x.node ≡ number_of w.node → x.node.tables ≡ w.node.tables → x.node.view ≡ w.node.view → x.sends ≡ w.sends → Stage j k w → Stage j k x
  stage_same j k w x number tables seen sends i =
      record {
        number = number ∙ i.number;
        view_is = seen ∙ i.view_is;
        places = ap (λ (ts : List (Option LockTable)). length ts) tables ∙ i.places;
        tables = λ q. subst (λ (ts : List (Option LockTable)). At k q (slice_index_or ts q None)) (sym tables) (i.tables q);
        sending = subst (Sending j) (sym sends) i.sending;
      }

  stage_put : (j k q : ℕ) (t u : LockTable) (w : Work) → table_at w.node q ≡ Some t → GoesOnAs t u → Stage j k w → Stage j k (with_node w (put_table w.node q (Some u)))
  stage_put j k q t u w there on i =
      record {
        number = i.number;
        view_is = i.view_is;
        places = set_length w.node.tables q (Some u) ∙ i.places;
        tables = λ a.
            set_look (λ (o : Option LockTable). At k a o) None w.node.tables q a (Some u)
            (λ same. at_further k a t u on (subst (λ (o : Option LockTable). At k a o) (ap (table_at w.node) same ∙ there) (i.tables a))) (i.tables a);
        sending = i.sending;
      }

  sending_decided : (j to e : ℕ) (b : Body) (os : List Outgoing) → is_decided b ≡ true → Sending j os → Sending j (os ++ record { to = to; message = record { epoch = e; body = b } } ∷ [])
  sending_decided j to e b os is s =
      let o : Outgoing = record { to = to; message = record { epoch = e; body = b } } in
      record {
        unasked = all_push (λ (o : Outgoing). is_request o.message.body ≡ false) os o s.unasked (unasked b is);
        once = λ q. (let sum = reports_last q os o in let none = none_decided q b is in let was = s.once q in omega (arith, sum, none, was));
        none = λ q l. (let sum = reports_last q os o in let none = none_decided q b is in let was = s.none q l in omega (arith, sum, none, was));
        told = λ q l new other. out_more (owner_of v q) q os (o ∷ []) (s.told q l new other);
      }

  stage_sent : (j k to : ℕ) (b : Body) (w : Work) → is_decided b ≡ true → Stage j k w → Stage j k (send to b w)
  stage_sent j k to b w is i =
      record { number = i.number; view_is = i.view_is; places = i.places; tables = i.tables; sending = sending_decided j to w.node.epoch b w.sends is i.sending }

  complete_stage : (j k : ℕ) (d : Disk) (q : ℕ) (w : Work) → Stage j k w → On (Stage j k) (complete d q w)
  complete_stage j k = completed_walk (Stage j k) (λ w x replies config. stage_same j k w x) (stage_put j k) (stage_sent j k)

  keep_stage : (j k : ℕ) (o : Option LockTable) (d : Disk) (before : Option View) (q : ℕ) (w : Work) → Stage j k w → On (Stage j k) (keep_in o d before v q w)
  keep_stage j k o d before q w i = stayed_walk (Stage j k) (λ w x replies config. stage_same j k w x) (stage_put j k) (stage_sent j k) o d before v q w i

  -- ---- one partition
  module _ (q : ℕ) (low : q < length n.tables) where
    -- no report is owed
    advanced : ((since_of v q == v.epoch) ≡ true → (owner_of v q == number_of n) ≡ false → ⊥) → (os : List Outgoing) → Sending q os → Sending (q + 1) os
    advanced quiet os s =
        record { unasked = s.unasked; once = s.once; none = λ a l. s.none a (omega (arith, l)); told = λ a l new other. by a l new other (a == q) refl }
      where
        by : (a : ℕ) → a < q + 1 → (since_of v a == v.epoch) ≡ true → (owner_of v a == number_of n) ≡ false → (x : Bool) → (a == q) ≡ x → HasOut (owner_of v a) a os
        by a l new other true e =
            let same = eqb-true a q e in
            absurd (quiet (subst (λ (k : ℕ). (since_of v k == v.epoch) ≡ true) same new) (subst (λ (k : ℕ). (owner_of v k == number_of n) ≡ false) same other))
        by a l new other false e = s.told a (grind (arith, nat_tests, l, e)) new other

    -- the table of this partition is done
    at_next : (a : ℕ) (o : Option LockTable) → (a ≡ q → TableGoesOn (table_at n a) o → Done n v a o) → At q a o → At (q + 1) a o
    at_next a o here is = ((λ l. by l (a == q) refl), (λ l. is.1 (omega (arith, l))))
      where
        by : a < q + 1 → (x : Bool) → (a == q) ≡ x → Done n v a o
        by l true e = let same = eqb-true a q e in here same (is.1 (omega (arith, same)))
        by l false e = is.0 (grind (arith, nat_tests, l, e))

    old_done : (since_of v q == v.epoch) ≡ false → (a : ℕ) (o : Option LockTable) → a ≡ q → TableGoesOn (table_at n a) o → Done n v a o
    old_done old a o same is = subst (λ (x : Bool). DoneBy n v x a o) (sym (ap (λ (k : ℕ). since_of v k == v.epoch) same ∙ old)) is

    other_done : (since_of v q == v.epoch) ≡ true → (owner_of v q == number_of n) ≡ false → (a : ℕ) (o : Option LockTable) → a ≡ q → Done n v a o
    other_done new other a o same =
        subst (λ (x : Bool). DoneBy n v x a o) (sym (ap (λ (k : ℕ). since_of v k == v.epoch) same ∙ new))
        (λ own. (let bad : true ≡ false = sym own ∙ ap (λ (k : ℕ). owner_of v k == number_of n) same ∙ other in absurd (cc)))

    -- a partition that goes on
    stay_next : (since_of v q == v.epoch) ≡ false → (w : Work) → Stage q q w → Stage (q + 1) (q + 1) w
    stay_next old w i =
        record {
          number = i.number;
          view_is = i.view_is;
          places = i.places;
          tables = λ a. at_next a (table_at w.node a) (old_done old a (table_at w.node a)) (i.tables a);
          sending = advanced (λ new other. (let bad : true ≡ false = sym new ∙ old in absurd (cc))) w.sends i.sending;
        }

    -- one that another node gets
    left_stage : (since_of v q == v.epoch) ≡ true → (owner_of v q == number_of n) ≡ false → (x : Bool) (w : Work) → Stage q q w → Stage q (q + 1) (with_node w (left_if x q w.node))
    left_stage new other false w i =
        record {
          number = i.number;
          view_is = i.view_is;
          places = i.places;
          tables = λ a. at_next a (table_at w.node a) (λ same on. other_done new other a (table_at w.node a) same) (i.tables a);
          sending = i.sending;
        }
    left_stage new other true w i =
        record {
          number = i.number;
          view_is = i.view_is;
          places = set_length w.node.tables q None ∙ i.places;
          tables = λ a.
              set_look (λ (o : Option LockTable). At (q + 1) a o) None w.node.tables q a None (λ same. ((λ l. other_done new other a None same), (λ l. absurd (omega (arith, same, l)))))
              (at_next a (table_at w.node a) (λ same on. other_done new other a (table_at w.node a) same) (i.tables a));
          sending = i.sending;
        }

    told_next : (e : ℕ) (r : Report) (os : List Outgoing) → r.partition ≡ q → Sending q os → Sending (q + 1) (os ++ record { to = owner_of v q; message = record { epoch = e; body = body.Report r } } ∷ [])
    told_next e r os same s =
        record {
          unasked = all_push (λ (o : Outgoing). is_request o.message.body ≡ false) os o s.unasked refl;
          once = λ a. (let sum = reports_last a os o in let was = s.once a in let none = s.none a in once a sum was none (r.partition == a) refl);
          none = λ a l. (let sum = reports_last a os o in let was = s.none a (omega (arith, l)) in none a l sum was (r.partition == a) refl);
          told = λ a l new other. told a l new other (a == q) refl;
        }
      where
        o : Outgoing
        o = record { to = owner_of v q; message = record { epoch = e; body = body.Report r } }

        once : (a : ℕ) → reports_of a (os ++ o ∷ []) ≡ reports_of a os + pick (r.partition == a) 1 0 → reports_of a os ≤ 1 → (q ≤ a → reports_of a os ≡ 0) → (x : Bool) → (r.partition == a) ≡ x → reports_of a (os ++ o ∷ []) ≤ 1
        once a sum was none true t =
            let at = eqb-true r.partition a t in
            let zero = none (omega (arith, at, same)) in
            let one : reports_of a (os ++ o ∷ []) ≡ reports_of a os + 1 = sum ∙ ap (λ (b : Bool). reports_of a os + pick b 1 0) t in
            omega (arith, one, zero)
        once a sum was none false t = let one : reports_of a (os ++ o ∷ []) ≡ reports_of a os + 0 = sum ∙ ap (λ (b : Bool). reports_of a os + pick b 1 0) t in omega (arith, one, was)

        none : (a : ℕ) → q + 1 ≤ a → reports_of a (os ++ o ∷ []) ≡ reports_of a os + pick (r.partition == a) 1 0 → reports_of a os ≡ 0 → (x : Bool) → (r.partition == a) ≡ x → reports_of a (os ++ o ∷ []) ≡ 0
        none a l sum was true t = let at = eqb-true r.partition a t in absurd (omega (arith, at, same, l))
        none a l sum was false t = let one : reports_of a (os ++ o ∷ []) ≡ reports_of a os + 0 = sum ∙ ap (λ (b : Bool). reports_of a os + pick b 1 0) t in omega (arith, one, was)

        told : (a : ℕ) → a < q + 1 → (since_of v a == v.epoch) ≡ true → (owner_of v a == number_of n) ≡ false → (x : Bool) → (a == q) ≡ x → HasOut (owner_of v a) a (os ++ o ∷ [])
        told a l new other true t = let at = eqb-true a q t in subst (λ (k : ℕ). HasOut (owner_of v k) k (os ++ o ∷ [])) (sym at) (out_last (owner_of v q) q os o refl same)
        told a l new other false t = out_more (owner_of v a) a os (o ∷ []) (s.told a (grind (arith, nat_tests, l, t)) new other)

    tell_stage : (before : Option View) (w : Work) → (since_of v q == v.epoch) ≡ true → (owner_of v q == number_of n) ≡ false → Stage q q w → Stage (q + 1) (q + 1) (tell_new_owner before v q w)
    unfolding report
    tell_stage before w new other i =
        let x : Work = with_node w (left_if (owned_before before q (number_of w.node)) q w.node) in
        let left = left_stage new other (owned_before before q (number_of w.node)) w i in
        record {
          number = left.number;
          view_is = left.view_is;
          places = left.places;
          tables = left.tables;
          sending = told_next x.node.epoch (report q x.node.home) x.sends refl left.sending;
        }

    -- one that the node gets
    new_reported : (h : HomeState) (me : ℕ) → (new_table q me h).reported ≡ slice_set (replicate h.config.nodes false) me true
    unfolding open_table
    new_reported h me = (gather_flags (open_table h.config q false) me (own_report q h)).0

    got_stage : (w : Work) → (since_of v q == v.epoch) ≡ true → Stage q q w
        → Stage q (q + 1) (with_node w (put_table (record (w.node) { home = take_over q w.node.home }) q (Some (new_table q (number_of w.node) (take_over q w.node.home)))))
    got_stage w new i =
        let h : HomeState = take_over q w.node.home in
        let t : LockTable = new_table q (number_of w.node) h in
        record {
          number = i.number;
          view_is = i.view_is;
          places = set_length w.node.tables q (Some t) ∙ i.places;
          tables = λ a.
              set_at (λ (o : Option LockTable). At (q + 1) a o) None w.node.tables q a (Some t) (subst (λ (k : ℕ). q < k) (sym i.places) low)
              (λ same. (
                (λ l.
                    subst (λ (x : Bool). DoneBy n v x a (Some t)) (sym (ap (λ (k : ℕ). since_of v k == v.epoch) same ∙ new))
                    (λ own. (h.config.nodes, new_reported h (number_of w.node) ∙ ap (λ (k : ℕ). slice_set (replicate h.config.nodes false) k true) i.number))),
                (λ l. absurd (omega (arith, same, l))),
              ))
              (λ other. at_next a (table_at w.node a) (λ same on. absurd (grind (arith, nat_tests, other, same))) (i.tables a));
          sending = i.sending;
        }

    get_stage : (d : Disk) (w : Work) → (since_of v q == v.epoch) ≡ true → (owner_of v q == number_of n) ≡ true → Stage q q w → On (Stage (q + 1) (q + 1)) (get_partition d q w)
    unfolding get_partition
    get_stage d w new own i =
        on_more (Stage q (q + 1)) (Stage (q + 1) (q + 1)) (complete d q x)
        (λ y s. record {
          number = s.number;
          view_is = s.view_is;
          places = s.places;
          tables = s.tables;
          sending = advanced (λ new other. (let bad : true ≡ false = sym own ∙ other in absurd (cc))) y.sends s.sending;
        })
        (complete_stage q (q + 1) d q x (got_stage w new i))
      where
        x : Work
        x = with_node w (put_table (record (w.node) { home = take_over q w.node.home }) q (Some (new_table q (number_of w.node) (take_over q w.node.home))))

    partition_stage : (d : Disk) (before : Option View) (w : Work) → Stage q q w → On (Stage (q + 1) (q + 1)) (install_partition d before v q w)
    unfolding install_partition
    partition_stage d before w i = by (owner_of v q == number_of w.node) (since_of v q == v.epoch) (ap (λ (k : ℕ). owner_of v q == k) (sym i.number)) refl
      where
        by : (x y : Bool) → (owner_of v q == number_of n) ≡ x → (since_of v q == v.epoch) ≡ y → On (Stage (q + 1) (q + 1)) (install_by x y d before v q w)
        by true true own new = get_stage d w new own i
        by true false own old =
            on_more (Stage q q) (Stage (q + 1) (q + 1)) (keep_in (table_at w.node q) d before v q w) (λ x s. stay_next old x s) (keep_stage q q (table_at w.node q) d before q w i)
        by false true other new = tell_stage before w new other i
        by false false other old = stay_next old w i

  -- ---- all of them
  partitions_stage : (d : Disk) (before : Option View) (k q : ℕ) → q + k ≤ length n.tables → (w : Work) → Stage q q w → On (Stage (q + k) (q + k)) (for_each (install_partition d before v) (count_from q k) w)
  unfolding for_each count_from
  partitions_stage d before zero q low w i = subst (λ (j : ℕ). Stage j j w) (omega arith) i
  partitions_stage d before (suc k) q low w i =
      subst (λ (j : ℕ). On (Stage j j) (for_each (install_partition d before v) (count_from q (suc k)) w)) (omega arith)
      (on_then (Stage (q + 1) (q + 1)) (Stage (q + 1 + k) (q + 1 + k)) (install_partition d before v q w) (for_each (install_partition d before v) (count_from (q + 1) k))
      (partition_stage q (omega (arith, low)) d before w i) (λ x j. partitions_stage d before k (q + 1) (omega (arith, low)) x j))

  trimmed : (y : Bool) (keep : ℕ) (w : Work) → Stage 0 0 w → Stage 0 0 (trim_if y keep w)
  trimmed true keep w i = stage_same 0 0 w (trim_if true keep w) refl refl refl refl i
  trimmed false keep w i = i

  first_stage : (d : Disk) → Stage 0 0 (reply (reply.Installed v.epoch) (with_node (begin_work n d) (in_view v n)))
  first_stage d =
      record {
        number = refl;
        view_is = refl;
        places = refl;
        tables = λ q. ((λ l. absurd (omega (arith, l))), (λ l. table_same (table_at n q)));
        sending = record { unasked = tt; once = λ q. omega arith; none = λ q l. refl; told = λ q l new other. absurd (omega (arith, l)) };
      }

  begun : (d : Disk) (x : Bool) → Stage 0 0 (begin_life x d v (reply (reply.Installed v.epoch) (with_node (begin_work n d) (in_view v n))))
  begun d false = first_stage d
  begun d true =
      let w : Work = reply (reply.Installed v.epoch) (with_node (begin_work n d) (in_view v n)) in
      let x : Work = with_node w (born_at v.epoch w.node) in
      trimmed (nat_lt (whole_len x.node.home.config (own_log d x)) (length (own_log d x))) (whole_len x.node.home.config (own_log d x)) x (stage_same 0 0 w x refl refl refl refl (first_stage d))

  -- what an install leaves
  pub record IsInstalled (w : Work) : Type 0 where
    pub view_is : w.node.view ≡ Some v
    pub tables : (q : ℕ) → q < n.home.config.nodes → Done n v q (table_at w.node q)
    pub sending : Sending n.home.config.nodes w.sends

  pub install_goes : (d : Disk) → length n.tables ≡ n.home.config.nodes → On IsInstalled (install_view d v (begin_work n d))
  unfolding install_view
  install_goes d places =
      on_more (Stage (0 + n.home.config.nodes) (0 + n.home.config.nodes)) IsInstalled (install_view d v (begin_work n d))
      (λ w s. record { view_is = s.view_is; tables = λ q l. (s.tables q).0 (omega (arith, l)); sending = subst (λ (k : ℕ). Sending k w.sends) (omega arith) s.sending })
      (partitions_stage d n.view n.home.config.nodes 0 (omega (arith, places)) (begin_life (born_of v (number_of n) == v.epoch) d v (reply (reply.Installed v.epoch) (with_node (begin_work n d) (in_view v n))))
      (begun d (born_of v (number_of n) == v.epoch)))
