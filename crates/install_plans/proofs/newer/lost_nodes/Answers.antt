use Rattle.std.proofs.Common.{◌<◌, ◌-◌, ◌+◌, ◌&&◌, ◌++◌, not, ℕ, Bool, List, Vec, Global, ap, sym, ◌∙◌, subst, arith}
use Rattle.std.proofs.lemmas.List.Elements.{All-push}
use Rattle.std.specs.List.{All, filter}
use Rattle.run_rules.specs.Views.{is_live, count_from}
use Rattle.node_rules.specs.InstallRule.{live_before}
use Rattle.install_plans.proofs.Filtered.{count_taken, count_passed, count_done}
use Rattle.install_plans.proofs.newer.lost_nodes.Goals.{then-is_lost+in_ok-push, else-is_lost}
use Rattle.install_plans.proofs.newer.lost_nodes.Goals as goal

pub loop-node-preserved : goal.loop-node-preserved
loop-node-preserved c =
    let f : ℕ → Bool = λ n. live_before c.args.before.now n && not (is_live c.args.view.now.live n) in
    let node = c.loop-node.node in
    let end = c.nodes-node-end.result in
    let left : List ℕ = filter f (count_from (node + 1) (end - (node + 1))) in
    let inv = c.loop-node.invariant in
    let all = inv.end in
    let within = c.loop-node-test.true in
    let low : node < c.args.by.now.config.nodes = omega (arith, all, within) in
    elim c.if-is_lost.branch [
      | then-is_lost+in_ok-push w ↦
          record {
            rest = ap (λ (l : Vec ℕ Global). l.items ++ left) w.lost-is
                ∙ (count_taken f node end c.loop-node.lost.items w.push.new.self.items within (sym c.is_lost.ensures ∙ w.if-is_lost.true) w.in_ok-push.ensures.items ∙ inv.rest);
            below = subst (All (λ n. n < c.args.by.now.config.nodes)) (sym (ap (λ (l : Vec ℕ Global). l.items) w.lost-is ∙ w.in_ok-push.ensures.items))
                (All-push (λ n. n < c.args.by.now.config.nodes) c.loop-node.lost.items node inv.below low);
            end = inv.end;
          }
      | else-is_lost w ↦
          record {
            rest = ap (λ (l : Vec ℕ Global). l.items ++ left) w.lost-is
                ∙ (count_passed f node end c.loop-node.lost.items within (sym c.is_lost.ensures ∙ w.if-is_lost.false) ∙ inv.rest);
            below = subst (λ (l : Vec ℕ Global). All (λ n. n < c.args.by.now.config.nodes) l.items) (sym w.lost-is) inv.below;
            end = inv.end;
          }
    ]

pub returns-clause-lost : goal.returns-clause-lost
returns-clause-lost c =
    let f : ℕ → Bool = λ n. live_before c.args.before.now n && not (is_live c.args.view.now.live n) in
    count_done f c.loop-node.node c.nodes-node-end.result c.loop-node.lost.items c.loop-node-test.false ∙ c.loop-node.invariant.rest
