-- A birth changes no plan of an install, where the node that is born has no open transaction.
use Rattle.std.proofs.Common.{◌≡◌, ℕ, zero, suc, ◌+◌, ◌<◌, ◌==◌, nat_lt, Bool, true, false, List, [], length, slice_index_or, Option, None, refl, ap, sym, ◌∙◌, arith}
use Rattle.pcl_base.specs.Limits.{Sizes}
use Rattle.pcl_base.specs.declared.reply.Reply.TheVariants as reply
use Rattle.text_rules.specs.LogRecord.{whole_len}
use Rattle.run_rules.specs.Disk.{Disk}
use Rattle.run_rules.specs.Views.{View, born_of, count_from}
use Rattle.node_rules.specs.LockTable.{LockTable}
use Rattle.node_rules.specs.OpenTxs.{OpenTx, OpenTxs}
use Rattle.node_rules.specs.BufferRule.{Pool}
use Rattle.node_rules.specs.NodeState.{HomeState, NodeState, number_of}
use Rattle.node_rules.specs.Work.{Work, Outcome, with_node, reply}
use Rattle.node_rules.specs.Reports.{all_locks, all_waits, report, own_report}
use Rattle.node_rules.specs.InstallRule.{born_at, begin_life, in_view, own_log, trim_if}
use Rattle.node_rules.specs.NodeStep.{begin_work}
use Rattle.install_laws.specs.InstallPlans.{PartitionPlan, before_others, plan_all, plan_partition}
use Rattle.install_laws.specs.Laws.{begun}
use Rattle.install_laws.proofs.Reports.{HomeSame, home_same_self}
use Rattle.install_laws.proofs.Apart.{plan_seen}
use Rattle.install_plans.specs.Laws.{BirthsChangeNoPlan}

-- where nothing is open, no name of a transaction is told
waits_none : (c : Sizes) (q : ℕ) (b : Pool) (s t : OpenTxs) (xs : List OpenTx) → xs ≡ [] → all_waits c q b s xs ≡ all_waits c q b t xs
unfolding all_waits
waits_none c q b s t xs none = ap (all_waits c q b s) none ∙ sym (ap (all_waits c q b t) none)

locks_none : (c : Sizes) (q : ℕ) (all : Bool) (s t : OpenTxs) (xs : List OpenTx) → xs ≡ [] → all_locks c q all s xs ≡ all_locks c q all t xs
unfolding all_locks
locks_none c q all s t xs none = ap (all_locks c q all s) none ∙ sym (ap (all_locks c q all t) none)

abbrev born_home : ℕ → HomeState → HomeState
born_home e h = record h { txs = record (h.txs) { born = e } }

born_same : (r e : ℕ) (h : HomeState) → h.txs.txs ≡ [] → HomeSame r h (born_home e h)
unfolding report own_report
born_same r e h none = record {
  config = refl;
  number = refl;
  own = λ i. record {
    partition = r;
    waits = waits_none h.config r h.pool (born_home e h).txs h.txs h.txs.txs none i;
    locks = locks_none h.config r true (born_home e h).txs h.txs h.txs.txs none i;
    rights = [];
  };
  told = λ i. record {
    partition = r;
    waits = waits_none h.config r h.pool (born_home e h).txs h.txs h.txs.txs none i;
    locks = locks_none h.config r false (born_home e h).txs h.txs h.txs.txs none i;
    rights = (report r h).rights;
  };
}

-- a node that tells the same
record IsAlike (a b : NodeState) : Type 0 where
  home : (r : ℕ) → HomeSame r a.home b.home
  view : b.view ≡ a.view
  tables : b.tables ≡ a.tables
  config : b.home.config ≡ a.home.config

begun_alike : (d : Disk) (v : View) (n : NodeState) → ((born_of v (number_of n) == v.epoch) ≡ true → n.home.txs.txs ≡ []) → IsAlike (in_view v n) (begun d v (begin_work n d)).node
begun_alike d v n none = by (born_of v (number_of n) == v.epoch) none
  where
    answered : Work
    answered = reply (reply.Installed v.epoch) (with_node (begin_work n d) (in_view v n))

    alive : Work
    alive = with_node answered (born_at v.epoch answered.node)

    trimmed : (b : Bool) (keep : ℕ) → n.home.txs.txs ≡ [] → IsAlike (in_view v n) (trim_if b keep alive).node
    trimmed true keep empty = record { home = λ r. born_same r v.epoch n.home empty; view = refl; tables = refl; config = refl }
    trimmed false keep empty = record { home = λ r. born_same r v.epoch n.home empty; view = refl; tables = refl; config = refl }

    by : (b : Bool) → (b ≡ true → n.home.txs.txs ≡ []) → IsAlike (in_view v n) (begin_life b d v answered).node
    by true empty = trimmed (nat_lt (whole_len alive.node.home.config (own_log d alive)) (length (own_log d alive))) (whole_len alive.node.home.config (own_log d alive)) (empty refl)
    by false empty = record { home = λ r. home_same_self r n.home; view = refl; tables = refl; config = refl }

all_alike : (f g : ℕ → Outcome PartitionPlan) (k a end : ℕ) → a + k ≡ end → ((q : ℕ) → q < end → f q ≡ g q) → plan_all f (count_from a k) ≡ plan_all g (count_from a k)
unfolding plan_all count_from
all_alike f g zero a end ends same = refl
all_alike f g (suc k) a end ends same =
    λ i. before_others a (same a (omega (arith, ends)) i) (all_alike f g k (a + 1) end (omega (arith, ends)) same i)

pub births_change_no_plan_law : BirthsChangeNoPlan
births_change_no_plan_law d v n none =
    ap (λ (c : Sizes). plan_all (λ q. plan_partition d d.pages n.view v q m) (count_from 0 c.nodes)) is.config
    ∙ all_alike (λ q. plan_partition d d.pages n.view v q m) (λ q. plan_partition d d.pages n.view v q (in_view v n)) n.home.config.nodes 0 n.home.config.nodes (omega arith)
    (λ q low. plan_seen d n.view v q (in_view v n) m d.pages d.pages low (is.home q) is.view (ap (λ (ts : List (Option LockTable)). slice_index_or ts q None) is.tables) (λ p of. refl))
  where
    m : NodeState
    m = (begun d v (begin_work n d)).node

    is : IsAlike (in_view v n) m
    is = begun_alike d v n none
