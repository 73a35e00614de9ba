use Rattle.std.proofs.Common.{◌<◌, ◌≤◌, ◌+◌, ◌-◌, ◌&&◌, ◌++◌, not, ℕ, Bool, List, Vec, Global, vec_len, vec_capacity, ap, sym, ◌∙◌, subst, arith}
use Rattle.std.specs.List.{AllByRecursion, filter}
use Rattle.run_rules.specs.Views.{View, is_live, count_from}
use Rattle.cluster_rules.specs.Clusters.{last_view}
use Rattle.cluster_rules.specs.ClusterStep.{returning}
use Rattle.cluster_parts.specs.State.{cluster_of}
use Rattle.node_laws.proofs.Lists.{all_push}
use Rattle.cluster.proofs.Counting.{count_done, count_passed, count_taken}
use Rattle.cluster.proofs.Viewing.{last_long}
use Rattle.cluster.proofs.parts.ClusterParts.returning.Goals.{then-comes_back, else-comes_back}
use Rattle.cluster.proofs.parts.ClusterParts.returning.Goals as goal

pub comes_back-requires-clause-before : goal.comes_back-requires-clause-before
comes_back-requires-clause-before c =
    let long = last_long c.args.self.now c.last_view-before.result.now c.requires.parts c.last_view-before.ensures in
    let all = c.loop-n.invariant.all in
    let test = c.loop-n-test.true in
    omega (arith, long, all, test)

pub loop-n-preserved : goal.loop-n-preserved
loop-n-preserved c =
    let f : ℕ → Bool = λ n. is_live c.args.view.now.live n && not (is_live c.last_view-before.result.now.live n) in
    let node = c.loop-n.n in
    let end = c.nodes-nodes.result in
    let left : List ℕ = filter f (count_from (node + 1) (end - (node + 1))) in
    let inv = c.loop-n.invariant in
    let all = inv.all in
    let room = inv.room in
    let test = c.loop-n-test.true in
    let low : node < c.args.self.now.config.nodes = omega (arith, all, test) in
    elim c.if-comes_back.branch [
      | then-comes_back w ↦
          let len = w.push_reserved.ensures.len in
          let cap = w.push_reserved.ensures.capacity in
          record {
            rest = ap (λ (l : Vec ℕ Global). l.items ++ left) w.numbers-is
                ∙ (count_taken f node end c.loop-n.numbers.items w.push_reserved.new.self.items test (sym c.comes_back.ensures ∙ w.if-comes_back.true) w.push_reserved.ensures.items ∙ inv.rest);
            room = subst (λ (l : Vec ℕ Global). vec_len l + (end - (node + 1)) ≤ vec_capacity l) (sym w.numbers-is) (omega (arith, room, len, cap, test));
            below = subst (AllByRecursion (λ n. n < c.args.self.now.config.nodes)) (sym (ap (λ (l : Vec ℕ Global). l.items) w.numbers-is ∙ w.push_reserved.ensures.items))
                (all_push (λ n. n < c.args.self.now.config.nodes) c.loop-n.numbers.items node inv.below low);
            all = inv.all;
          }
      | else-comes_back w ↦
          record {
            rest = ap (λ (l : Vec ℕ Global). l.items ++ left) w.numbers-is
                ∙ (count_passed f node end c.loop-n.numbers.items test (sym c.comes_back.ensures ∙ w.if-comes_back.false) ∙ inv.rest);
            room = subst (λ (l : Vec ℕ Global). vec_len l + (end - (node + 1)) ≤ vec_capacity l) (sym w.numbers-is) (omega (arith, room, test));
            below = subst (λ (l : Vec ℕ Global). AllByRecursion (λ n. n < c.args.self.now.config.nodes) l.items) (sym w.numbers-is) inv.below;
            all = inv.all;
          }
    ]

pub returns-clause-numbers : goal.returns-clause-numbers
returns-clause-numbers c =
    let f : ℕ → Bool = λ n. is_live c.args.view.now.live n && not (is_live c.last_view-before.result.now.live n) in
    count_done f c.loop-n.n c.nodes-nodes.result c.loop-n.numbers.items c.loop-n-test.false
    ∙ c.loop-n.invariant.rest
    ∙ ap (λ (b : View). returning b c.args.view.now (count_from 0 c.nodes-nodes.result)) c.last_view-before.ensures
    ∙ ap (λ (k : ℕ). returning (last_view (cluster_of c.args.self.now)) c.args.view.now (count_from 0 k)) c.loop-n.invariant.all
