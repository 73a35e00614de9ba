-- The runs of a cluster of one node that has at most one open transaction at a time.
use Rattle.std.proofs.Common.{◌≡◌, refl, sym, ap, subst, ◌∙◌, ℕ, ◌≤◌, ◌||◌, not, nat_le, Bool, true, false, List, [], ◌∷◌, ◌++◌, map, length, slice_index_or, slice_set, None, Some, is_some, Ok, Err, arith}
use Rattle.std.specs.Prelude.{Option, Result}
use Rattle.std.specs.List.{list_any}
use Rattle.std.proofs.lemmas.Bool.Decides.{nat_tests}
use Rattle.pcl_base.specs.Limits.{Sizes}
use Rattle.pcl_base.specs.declared.event.Event.{Event}
use Rattle.pcl_base.specs.declared.event.Event.TheVariants as event
use Rattle.pcl_base.specs.declared.reply.Reason.{Reason}
use Rattle.pcl_base.specs.declared.reply.Reason.TheVariants as reason
use Rattle.pcl_base.specs.declared.reply.Reply.{Reply}
use Rattle.pcl_base.specs.declared.reply.Reply.TheVariants as reply
use Rattle.pcl_base.specs.declared.trace.Entry.{Entry}
use Rattle.run_rules.specs.Disk.{Disk}
use Rattle.run_rules.specs.Now.{Story, first_story, first_fault}
use Rattle.run_rules.specs.Serial.{is_serial}
use Rattle.run_rules.specs.Ledger.{first_ledger}
use Rattle.run_rules.specs.Account.{account_fault}
use Rattle.run_rules.specs.Views.{View, first, count_from, reopen}
use Rattle.run_rules.specs.Fresh.{is_fresh}
use Rattle.node_rules.specs.LockTable.{LockTable}
use Rattle.node_rules.specs.NodeState.{HomeState, NodeState, NodeEvent}
use Rattle.node_rules.specs.NodeState as node
use Rattle.node_rules.specs.DiskCalls.{Stop, all_done}
use Rattle.node_rules.specs.Work.{Outcome, Goes, Differs}
use Rattle.node_rules.specs.NodeStep.{Plan, nodestep}
use Rattle.cluster_rules.specs.Clusters.{Cluster, node_at, is_up, stop_at, sent_by, view_of_epoch, last_view}
use Rattle.cluster_rules.specs.ClusterStep.{later_stop, links_after, left_of, made_or_halted, after_plan, node_step, deliver_head, install_next, do_event, if_up, if_known, make_reopened, reopen_or_refuse, step}
use Rattle.cluster_rules.specs.Links.{link_at, head_at, send_all}
use Rattle.single_laws.specs.Alone.{is_plain, open_in}
use Rattle.single_laws.proofs.Told.{Fits, entry, refused_fits, known_after, known_more, no_fault_more, account_more}
use Rattle.single_laws.proofs.Alone.{Alone, Made, StepOk, node_of}
use Rattle.single_laws.proofs.Nodes.{read_step, write_step}
use Rattle.single_laws.proofs.Begins.{begin_step}
use Rattle.single_laws.proofs.Copies.{evict_step, flush_step}
use Rattle.single_laws.proofs.Ends.{abort_step}
use Rattle.single_laws.proofs.Commits.{commit_step}
use Rattle.single_laws.proofs.Cuts.{cut_step}

-- a cluster of one node that is alone, whose trace has no fault so far
pub record IsAlone (c : Sizes) (k : Cluster) : Type 0 where
  pub config : k.config ≡ c
  pub home : HomeState
  pub table : LockTable
  pub nodes : k.nodes ≡ Some (node_of c home table) ∷ []
  pub stops : k.stops ≡ None ∷ []
  pub links : k.links ≡ ([] ∷ []) ∷ []
  pub views : k.views ≡ first c ∷ []
  pub alone : Alone c home table k.disk (known_after (first_story c) k.trace)
  pub fresh : first_fault is_fresh 1 (first_story c) k.trace ≡ None
  pub serial : first_fault is_serial 1 (first_story c) k.trace ≡ None
  pub account : account_fault c k.trace ≡ None

-- one entry more
module _ (c : Sizes) (k : Cluster) (is : IsAlone c k) where
  abbrev so_far : Story
  so_far = known_after (first_story c) k.trace

  abbrev Noted : Entry → HomeState → LockTable → Disk → Type 0
  Noted x h tb d = Fits so_far x (λ u. Alone c h tb d u)

  noted_alone : (x : Entry) (h : HomeState) (tb : LockTable) (d : Disk) → Noted x h tb d → Alone c h tb d (known_after (first_story c) (k.trace ++ x ∷ []))
  noted_alone x h tb d fits = subst (λ u. Alone c h tb d u) (sym (known_more (first_story c) k.trace x)) fits.then

  noted_fresh : (x : Entry) (h : HomeState) (tb : LockTable) (d : Disk) → Noted x h tb d → first_fault is_fresh 1 (first_story c) (k.trace ++ x ∷ []) ≡ None
  noted_fresh x h tb d fits = no_fault_more is_fresh 1 (first_story c) k.trace x is.fresh fits.fresh

  noted_serial : (x : Entry) (h : HomeState) (tb : LockTable) (d : Disk) → Noted x h tb d → first_fault is_serial 1 (first_story c) (k.trace ++ x ∷ []) ≡ None
  noted_serial x h tb d fits = no_fault_more is_serial 1 (first_story c) k.trace x is.serial fits.serial

  -- what a step of the cluster has to keep, where at most one transaction is open after it
  abbrev Keeps : Cluster → Type 0
  Keeps next = open_in (node_at next 0) ≤ 1 → IsAlone c next

  -- a refused event
  refused_keeps : (e : Event) (r : Reason) → Keeps (record k { trace = k.trace ++ entry e (reply.Refused r ∷ []) [] ∷ [] })
  refused_keeps e r few_open =
      let fits : Noted (entry e (reply.Refused r ∷ []) []) is.home is.table k.disk = refused_fits so_far is.alone.base e r [] _ is.alone.kept.known is.alone in
      record {
        config = is.config;
        home = is.home;
        table = is.table;
        nodes = is.nodes;
        stops = is.stops;
        links = is.links;
        views = is.views;
        alone = noted_alone (entry e (reply.Refused r ∷ []) []) is.home is.table k.disk fits;
        fresh = noted_fresh (entry e (reply.Refused r ∷ []) []) is.home is.table k.disk fits;
        serial = noted_serial (entry e (reply.Refused r ∷ []) []) is.home is.table k.disk fits;
        account = account_more 1 (first_ledger c) k.trace (entry e (reply.Refused r ∷ []) []) is.account refl;
      }

  -- a step of the node
  plan_keeps : (e : Event) → ((rs : List Reply) → links_after e rs k.links ≡ k.links) → (o : Outcome Plan) → StepOk c e so_far k.disk o → Keeps (after_plan e 0 k o)
  unfolding send_all
  plan_keeps e linked (Differs p expected found) ok = absurd ok
  plan_keeps e linked (Goes p) ok = subst (λ x. Keeps (made_or_halted e 0 p x k)) (sym no_stop) made_keeps
    where
      no_stop : left_of 0 k.disk p.calls (stop_at k 0) ≡ None
      no_stop = ap (λ (ss : List (Option Stop)). left_of 0 k.disk p.calls (slice_index_or ss 0 None)) is.stops

      made_keeps : Keeps (made_or_halted e 0 p None k)
      made_keeps few_open =
          let nodes : slice_set k.nodes 0 (Some p.node) ≡ Some p.node ∷ [] = ap (λ ns. slice_set ns 0 (Some p.node)) is.nodes in
          let few : length p.node.home.txs.txs ≤ 1 = subst (λ ns. open_in (slice_index_or ns 0 None) ≤ 1) nodes few_open in
          let made : Made c e so_far k.disk p = ok few in
          let fits = made.fits (map (sent_by 0) p.sends) in
          record {
            config = is.config;
            home = made.home;
            table = made.table;
            nodes = nodes ∙ ap (λ n. Some n ∷ []) made.node;
            stops = ap (λ (ss : List (Option Stop)). slice_set ss 0 (later_stop (length p.calls) (slice_index_or ss 0 None))) is.stops;
            alone = noted_alone (entry e p.replies (map (sent_by 0) p.sends)) made.home made.table (all_done 0 k.disk p.calls) fits;
            fresh = noted_fresh (entry e p.replies (map (sent_by 0) p.sends)) made.home made.table (all_done 0 k.disk p.calls) fits;
            links = ap (send_all (is_up k) 0 (links_after e p.replies k.links)) made.quiet ∙ linked p.replies ∙ is.links;
            views = is.views;
            serial = noted_serial (entry e p.replies (map (sent_by 0) p.sends)) made.home made.table (all_done 0 k.disk p.calls) fits;
            account = account_more 1 (first_ledger c) k.trace (entry e p.replies (map (sent_by 0) p.sends)) is.account (ap (map (sent_by 0)) made.quiet);
          }

  -- an event that names a node, of which there is but one
  at_node : c.nodes ≡ 1 → (e : Event) (n : ℕ) (ev : NodeEvent) → ((x : NodeState) → do_event e x k ≡ node_step e n x ev k) → ((rs : List Reply) → links_after e rs k.links ≡ k.links)
      → StepOk c e so_far k.disk (nodestep (node_of c is.home is.table) ev k.disk) → Keeps (if_known (not (nat_le k.config.nodes n || false)) e n k)
  unfolding node_step
  at_node one e n ev goes linked ok = by (nat_le k.config.nodes n) refl
    where
      by : (b : Bool) → nat_le k.config.nodes n ≡ b → Keeps (if_known (not (b || false)) e n k)
      by true f = refused_keeps e reason.NoNode
      by false f =
          let nodes : k.config.nodes ≡ 1 = ap (λ (x : Sizes). x.nodes) is.config ∙ one in
          let zero_is : n ≡ 0 = grind (arith, nat_tests) in
          let there : node_at k n ≡ Some (node_of c is.home is.table) = ap (node_at k) zero_is ∙ ap (λ ns. slice_index_or ns 0 None) is.nodes in
          subst Keeps
          (sym (ap (λ o. if_up e o k) there ∙ goes (node_of c is.home is.table) ∙ ap (λ m. after_plan e m k (nodestep (node_of c is.home is.table) ev k.disk)) zero_is))
          (plan_keeps e linked (nodestep (node_of c is.home is.table) ev k.disk) ok)

  -- where no message is on its way, none is delivered
  delivers_keep : c.nodes ≡ 1 → (x y : ℕ) → Keeps (if_known (not (nat_le k.config.nodes y || (nat_le k.config.nodes x || false))) (event.Deliver x y) y k)
  unfolding link_at
  delivers_keep one x y = by (nat_le k.config.nodes y) refl (nat_le k.config.nodes x) refl
    where
      by : (a : Bool) → nat_le k.config.nodes y ≡ a → (b : Bool) → nat_le k.config.nodes x ≡ b → Keeps (if_known (not (a || (b || false))) (event.Deliver x y) y k)
      by true e b f = refused_keeps (event.Deliver x y) reason.NoNode
      by false e true f = refused_keeps (event.Deliver x y) reason.NoNode
      by false e false f =
          let nodes : k.config.nodes ≡ 1 = ap (λ (x : Sizes). x.nodes) is.config ∙ one in
          let zero_y : y ≡ 0 = grind (arith, nat_tests) in
          let zero_x : x ≡ 0 = grind (arith, nat_tests) in
          let there : node_at k y ≡ Some (node_of c is.home is.table) = ap (node_at k) zero_y ∙ ap (λ ns. slice_index_or ns 0 None) is.nodes in
          let empty : head_at k.links x y ≡ None = ap (λ ls. head_at ls x y) is.links ∙ ap (λ n. head_at (([] ∷ []) ∷ []) n y) zero_x ∙ ap (head_at (([] ∷ []) ∷ []) 0) zero_y in
          subst Keeps (sym (ap (λ o. if_up (event.Deliver x y) o k) there ∙ ap (λ o. deliver_head (event.Deliver x y) x y (node_of c is.home is.table) o k) empty))
          (refused_keeps (event.Deliver x y) reason.EmptyLink)

  -- where no other view was made, none is installed
  installs_keep : c.nodes ≡ 1 → (n : ℕ) → Keeps (if_known (not (nat_le k.config.nodes n || false)) (event.Install n) n k)
  unfolding view_of_epoch
  installs_keep one n = by (nat_le k.config.nodes n) refl
    where
      by : (b : Bool) → nat_le k.config.nodes n ≡ b → Keeps (if_known (not (b || false)) (event.Install n) n k)
      by true f = refused_keeps (event.Install n) reason.NoNode
      by false f =
          let nodes : k.config.nodes ≡ 1 = ap (λ (x : Sizes). x.nodes) is.config ∙ one in
          let zero_is : n ≡ 0 = grind (arith, nat_tests) in
          let there : node_at k n ≡ Some (node_of c is.home is.table) = ap (node_at k) zero_is ∙ ap (λ ns. slice_index_or ns 0 None) is.nodes in
          subst Keeps (sym (ap (λ o. if_up (event.Install n) o k) there ∙ ap (λ vs. install_next (event.Install n) n (node_of c is.home is.table) (view_of_epoch vs 2) k) is.views))
          (refused_keeps (event.Install n) reason.NoView)

  -- while the node is up, the cluster isn't reopened
  reopens_keep : c.nodes ≡ 1 → Keeps (reopen_or_refuse event.Reopen (reopen k.config (last_view k)) k)
  unfolding count_from
  reopens_keep one = by (reopen k.config (last_view k))
    where
      up : list_any (is_up k) (count_from 0 k.config.nodes) ≡ true
      up =
          let nodes : k.config.nodes ≡ 1 = ap (λ (x : Sizes). x.nodes) is.config ∙ one in
          ap (λ n. list_any (is_up k) (count_from 0 n)) nodes ∙ ap (λ ns. is_some (slice_index_or ns 0 None) || false) is.nodes

      by : (r : Result View ℕ) → Keeps (reopen_or_refuse event.Reopen r k)
      by (Err rule) = refused_keeps event.Reopen (reason.BadView rule)
      by (Ok v) = subst (λ b. Keeps (make_reopened b event.Reopen v k)) (sym up) (refused_keeps event.Reopen reason.StillUp)

  pub step_keeps : c.pages ≤ 65536 → c.nodes ≡ 1 → (e : Event) → is_plain e ≡ true → Keeps (step k e)
  unfolding step
  step_keeps few one (event.Begin n) plain = at_node one (event.Begin n) n node.Begin (λ x. refl) (λ rs. refl) (begin_step c few one is.home is.table k.disk so_far is.alone n)
  step_keeps few one (event.Read t p) plain = at_node one (event.Read t p) t.node (node.Read t p) (λ x. refl) (λ rs. refl) (read_step c few one is.home is.table k.disk so_far is.alone t p)
  step_keeps few one (event.Write t p place bytes) plain =
      at_node one (event.Write t p place bytes) t.node (node.Write t p place bytes) (λ x. refl) (λ rs. refl) (write_step c few one is.home is.table k.disk so_far is.alone t p place bytes)
  step_keeps few one (event.Commit t) plain = at_node one (event.Commit t) t.node (node.Commit t) (λ x. refl) (λ rs. refl) (commit_step c few one is.home is.table k.disk so_far is.alone t)
  step_keeps few one (event.Abort t) plain = at_node one (event.Abort t) t.node (node.Abort t) (λ x. refl) (λ rs. refl) (abort_step c few one is.home is.table k.disk so_far is.alone t)
  step_keeps few one (event.Evict n p) plain = at_node one (event.Evict n p) n (node.Evict p) (λ x. refl) (λ rs. refl) (evict_step c few one is.home is.table k.disk so_far is.alone n p)
  step_keeps few one (event.Flush n p) plain = at_node one (event.Flush n p) n (node.Flush p) (λ x. refl) (λ rs. refl) (flush_step c few one is.home is.table k.disk so_far is.alone n p)
  step_keeps few one (event.Cut n) plain = at_node one (event.Cut n) n node.Cut (λ x. refl) (λ rs. refl) (cut_step c few one is.home is.table k.disk so_far is.alone n)
  step_keeps few one (event.Deliver x y) plain = delivers_keep one x y
  step_keeps few one (event.Install n) plain = installs_keep one n
  step_keeps few one event.Reopen plain = reopens_keep one
  step_keeps few one (event.Crash n) plain = absurd (cc)
  step_keeps few one (event.View live owners) plain = absurd (cc)
  step_keeps few one (event.Arm n call kept) plain = absurd (cc)
