-- An install that is ready, once the node is in the view.
use Rattle.std.proofs.Common.{◌≡◌, ℕ, ◌+◌, ◌≤◌, Bool, true, false, List, [], ◌∷◌, ◌++◌, map, Some, Result, refl, ap, sym, subst, ◌∙◌, arith}
use Rattle.std.specs.Prelude.{IfSome}
use Rattle.pcl_base.specs.Limits.{Sizes}
use Rattle.pcl_base.specs.declared.reply.Reply.TheVariants as reply
use Rattle.run_rules.specs.Disk.{Disk}
use Rattle.run_rules.specs.Views.{View}
use Rattle.node_rules.specs.DiskCalls.{DiskCall}
use Rattle.node_rules.specs.InstallRule.{install_view}
use Rattle.node_rules.specs.OpenTxs.{OpenTx, name_of}
use Rattle.node_rules.specs.NodeState.{HomeState, NodeState}
use Rattle.disk_model.specs.Disk.{Pages, Logs, ReachesTo, told_at}
use Rattle.home.specs.Device.{Told}
use Rattle.home.specs.Moves.{Lists}
use Rattle.install_laws.specs.InstallPlans.{carry_install}
use Rattle.node_parts.specs.Comes.{Comes, work_of}
use Rattle.node_parts.specs.declared.fault.StepFault.{StepFault}
use Rattle.page_owner.specs.Writes.{after_calls}
use Rattle.node_parts.specs.Outputs.{OutputsView}
use Rattle.node_parts.specs.State.{AreParts, PartsView, node_of}
use Rattle.node_parts.specs.Tables.{AreTidyBut, TablesView}
use Rattle.partition_steps.specs.Carried.{AreTurning, CanCarryEach}
use Rattle.install_steps.specs.declared.ready.Ready.{Ready}
use Rattle.install_steps.specs.Births.{KeepsRecords, entered, trim_calls}
use Rattle.install_steps.specs.Calls.{AreFrom, LeavesCalls, all_calls, install_calls}
use Rattle.install_steps.specs.Plans.{seen_plan}
use Rattle.install_steps.specs.Ready.{IsReady, MayWork}
use Rattle.install_steps.proofs.Readying.{apt_from}
use Rattle.install_steps.proofs.Started.{IsStarted, started_calls, started_comes}

-- the node that is in the view
pub record IsEntered (v m : PartsView) (w : View) (b : Bool) (old mid : OutputsView) : Type 0 where
  pub node : node_of m ≡ entered b w (node_of v)
  pub me : m.me ≡ v.me
  pub tables : m.tables ≡ v.tables
  pub replies : mid.replies ≡ old.replies ++ reply.Installed w.epoch ∷ []
  pub sends : mid.sends ≡ old.sends
  pub reply_room : old.reply_room ≤ mid.reply_room + 1
  pub send_room : mid.send_room ≡ old.send_room

module _ (v m : PartsView) (w : View) (pages : Pages) (logs : Logs) (old mid : OutputsView) (r : Ready) (parts : AreParts v) (ready : IsReady v w pages logs old r) (is : IsEntered v m w r.is_born old mid) where
  home_is : m.home ≡ (entered r.is_born w (node_of v)).home
  home_is = ap (λ (n : NodeState). n.home) is.node

  config_of : (b : Bool) → (entered b w (node_of v)).home.config ≡ v.home.config
  config_of true = refl
  config_of false = refl

  config_is : m.home.config ≡ v.home.config
  config_is = ap (λ (h : HomeState). h.config) home_is ∙ config_of r.is_born

  number_of_home : (b : Bool) → (entered b w (node_of v)).home.txs.node ≡ v.home.txs.node
  number_of_home true = refl
  number_of_home false = refl

  number_is : m.me ≡ m.home.txs.node
  number_is = is.me ∙ (parts.number ∙ (sym (number_of_home r.is_born) ∙ sym (ap (λ (h : HomeState). h.txs.node) home_is)))

  turns : AreTurning m
  turns = record {
    number = number_is;
    below = let low = parts.node.number in let me = is.me in let number = parts.number in let nodes = ap (λ (c : Sizes). c.nodes) config_is in omega (arith, low, me, number, nodes);
    config = ap (λ (t : TablesView). t.config) is.tables ∙ (parts.config ∙ sym config_is);
    tidy = subst (AreTidyBut []) (sym is.tables) parts.tidy;
  }

  lists_of : (b : Bool) → (b ≡ true → v.home.txs.txs ≡ []) → Lists r.memory.list (entered b w (node_of v)).home
  lists_of false none = ready.list
  lists_of true none = record {
    txs =
        ready.list.txs ∙ (ap (λ (xs : List OpenTx). map (λ (x : OpenTx). name_of v.home.txs x.serial) xs) (none refl)
        ∙ sym (ap (λ (xs : List OpenTx). map (λ (x : OpenTx). name_of (entered true w (node_of v)).home.txs x.serial) xs) (none refl)));
    rights = ready.list.rights;
  }

  -- it may go on
  pub ready_works : MayWork m r.keep r.plan.plans.items r.plan.differs r.memory.list r.memory.stock pages logs mid
  ready_works = record {
    turning = turns;
    from = subst (λ (c : Sizes). AreFrom c.nodes 0 r.plan.plans.items) (sym config_is) (apt_from v w pages logs 0 0 r.plan.plans.items (omega arith) ready.apt.apt);
    can = subst (λ (c : Sizes). CanCarryEach c m.me pages logs r.plan.plans.items) (sym config_is) (subst (λ (k : ℕ). CanCarryEach v.home.config k pages logs r.plan.plans.items) (sym is.me) ready.can);
    keeps = subst (λ (c : Sizes). KeepsRecords c m.me r.keep logs) (sym config_is) (subst (λ (k : ℕ). KeepsRecords v.home.config k r.keep logs) (sym is.me) ready.keeps);
    within = subst (λ (n : ℕ). IfSome r.keep (λ k. ReachesTo (told_at logs n) k)) (sym is.me) ready.within;
    other = ready.apt.differs;
    listed = subst (Lists r.memory.list) (sym home_is) (lists_of r.is_born (λ yes. (ready.unbegun yes).none));
    memory =
        let images = ready.memory.images in
        let sends = ready.memory.sends in
        let room = ready.further in
        let replies = is.reply_room in
        let same = is.send_room in
        record { images = images; replies = omega (arith, room, replies); sends = omega (arith, sends, same) };
    size = let same = ready.size in let size = ap (λ (c : Sizes). c.size) config_is in omega (arith, same, size);
  }

  -- and it is an install that has begun
  pub ready_started : (d : Disk) → pages ≡ Some d.pages → logs ≡ Some d.logs → IsStarted d w (node_of v) r.is_born r.keep (node_of m) r.plan old mid
  ready_started d stored told = record {
    tables = parts.node.places;
    none = λ yes. (ready.unbegun (ready.born ∙ yes)).none;
    born = ready.born;
    kept = ready.kept d told;
    node = is.node;
    replies = is.replies;
    sends = is.sends;
    planned = ready.planned d stored told;
  }

  -- it comes to what the rules say
  pub ready_comes : (X : Type 0) (a : Result X StepFault) (d : Disk) → pages ≡ Some d.pages → logs ≡ Some d.logs → (cs : List DiskCall) (last : NodeState) (new : OutputsView)
      → Comes (carry_install (record { plans = map (seen_plan d (node_of m)) r.plan.plans.items; differs = r.plan.differs }) (work_of (node_of m) d.pages (cs ++ trim_calls r.keep) mid)) a
      (work_of last (after_calls d.pages (trim_calls r.keep ++ all_calls d r.plan.plans.items)) (cs ++ (trim_calls r.keep ++ all_calls d r.plan.plans.items)) new)
      → Comes (install_view d w (work_of (node_of v) d.pages cs old)) a (work_of last (after_calls d.pages (install_calls d w (node_of v))) (cs ++ install_calls d w (node_of v)) new)
  ready_comes X a d stored told cs last new comes =
      started_comes d w (node_of v) r.is_born r.keep (node_of m) r.plan old mid (ready_started d stored told) X cs a last new comes

  -- and its calls are those of the rules
  pub ready_made : (X : Type 0) (a : Result X StepFault) (d : Disk) → pages ≡ Some d.pages → logs ≡ Some d.logs → (before after : Told)
      → LeavesCalls m.me a (trim_calls r.keep ++ all_calls d r.plan.plans.items) before after → LeavesCalls v.me a (install_calls d w (node_of v)) before after
  ready_made X a d stored told before after made =
      subst (λ (l : List DiskCall). LeavesCalls v.me a l before after) (sym (started_calls d w (node_of v) r.is_born r.keep (node_of m) r.plan old mid (ready_started d stored told)))
      (subst (λ (k : ℕ). LeavesCalls k a (trim_calls r.keep ++ all_calls d r.plan.plans.items) before after) is.me made)
