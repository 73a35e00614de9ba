-- An install as its plans, carried out from the node that is in the view.
use Rattle.std.proofs.Common.{◌≡◌, ℕ, nat_lt, Bool, true, false, [], ◌∷◌, ◌++◌, length, Some, None, refl, ap, sym, subst, ◌∙◌, append-nil}
use Rattle.pcl_base.specs.declared.reply.Reply.TheVariants as reply
use Rattle.text_rules.specs.LogRecord.{whole_len}
use Rattle.run_rules.specs.Disk.{Disk, log_at}
use Rattle.run_rules.specs.Views.{View}
use Rattle.node_rules.specs.Words.{pick}
use Rattle.node_rules.specs.NodeState.{NodeState, number_of}
use Rattle.node_rules.specs.Work.{Work, with_node, reply}
use Rattle.node_rules.specs.InstallRule.{born_at, begin_life, in_view, install_view, trim_if}
use Rattle.node_rules.specs.NodeStep.{begin_work}
use Rattle.install_laws.specs.InstallPlans.{InstallPlan, plan_install, carry_install}
use Rattle.install_laws.specs.Laws.{HasTables, begun}
use Rattle.install_laws.proofs.Apart.{plans_come_first_law}
use Rattle.install_plans.proofs.Births.{births_change_no_plan_law}
use Rattle.install_steps.specs.Births.{is_born_in, kept_if, trim_calls, entered}

-- the work that has begun: the node is in the view, `installed` is answered, and the torn rest is trimmed
abbrev pub started : Disk → View → Work → Work
started d v w =
    record {
      node = entered (is_born_in v w.node) v w.node;
      pages = w.pages;
      calls = w.calls ++ trim_calls (kept_if (is_born_in v w.node) d w.node);
      replies = w.replies ++ reply.Installed v.epoch ∷ [];
      sends = w.sends;
    }

pub begun_is : (d : Disk) (v : View) (w : Work) → begun d v w ≡ started d v w
begun_is d v w = by (is_born_in v w.node)
  where
    answered : Work
    answered = reply (reply.Installed v.epoch) (with_node w (in_view v w.node))

    alive : Work
    alive = with_node answered (born_at v.epoch answered.node)

    started_if : Bool → Work
    started_if b =
        record {
          node = entered b v w.node;
          pages = w.pages;
          calls = w.calls ++ trim_calls (kept_if b d w.node);
          replies = w.replies ++ reply.Installed v.epoch ∷ [];
          sends = w.sends;
        }

    trimmed : (b : Bool) (keep : ℕ) → trim_if b keep alive ≡ record (alive) { calls = w.calls ++ trim_calls (pick b (Some keep) None) }
    trimmed true keep = refl
    trimmed false keep = λ i. record (alive) { calls = sym (append-nil w.calls) i }

    by : (b : Bool) → begin_life b d v answered ≡ started_if b
    by true = trimmed (nat_lt (whole_len w.node.home.config (log_at d (number_of w.node))) (length (log_at d (number_of w.node)))) (whole_len w.node.home.config (log_at d (number_of w.node)))
    by false = λ i. record (answered) { calls = sym (append-nil w.calls) i }

module _ (d : Disk) (v : View) (n : NodeState) (none : is_born_in v n ≡ true → n.home.txs.txs ≡ []) where
  -- the plans of a work that has begun are those of the node that is in the view
  pub begun_plans : (w : Work) → w.node ≡ n → plan_install d d.pages n.view v (begun d v w).node ≡ plan_install d d.pages n.view v (in_view v n)
  begun_plans w same =
      ap (plan_install d d.pages n.view v) (ap (λ (x : Work). x.node) (begun_is d v w) ∙ ap (λ (m : NodeState). entered (is_born_in v m) v m) same ∙ sym (ap (λ (x : Work). x.node) (begun_is d v (begin_work n d))))
      ∙ births_change_no_plan_law d v n none

  -- an install is these plans, carried out
  pub install_is : (w : Work) → HasTables n → w.node ≡ n → w.pages ≡ d.pages → install_view d v w ≡ carry_install (plan_install d d.pages n.view v (in_view v n)) (started d v w)
  install_is w tables same pages =
      plans_come_first_law d v w (subst HasTables (sym same) tables)
      ∙ (ap (λ (x : InstallPlan). carry_install x (begun d v w)) (ap (λ ps. plan_install d ps w.node.view v (begun d v w).node) pages ∙ ap (λ (m : NodeState). plan_install d d.pages m.view v (begun d v w).node) same ∙ begun_plans w same)
      ∙ ap (carry_install (plan_install d d.pages n.view v (in_view v n))) (begun_is d v w))
