use Rattle.std.proofs.Common.{◌<◌, ◌∙◌, subst, sym, ℕ, List, arith}
use Rattle.std.specs.List.{AllByRecursion}
use Rattle.node_laws.proofs.Lists.{all_push}
use Rattle.cluster.proofs.Counting.{plain_done, plain_next}
use Rattle.cluster.proofs.parts.ClusterParts.numbers.Goals as goal

pub loop-n-preserved : goal.loop-n-preserved
loop-n-preserved c =
    let room = c.loop-n.invariant.room in
    let len = c.push_reserved.ensures.len in
    let cap = c.push_reserved.ensures.capacity in
    let test = c.loop-n-test.true in
    let all = c.loop-n.invariant.all in
    let low : c.loop-n.n < c.args.self.now.config.nodes = omega (arith, test, all) in
    record {
      rest = plain_next c.loop-n.n _ c.loop-n.numbers.items c.push_reserved.new.self.items c.loop-n-test.true c.push_reserved.ensures.items ∙ c.loop-n.invariant.rest;
      room = omega (arith, room, len, cap, test);
      below = subst (λ (l : List ℕ). AllByRecursion (λ n. n < c.args.self.now.config.nodes) l) (sym c.push_reserved.ensures.items)
          (all_push (λ n. n < c.args.self.now.config.nodes) c.loop-n.numbers.items c.loop-n.n c.loop-n.invariant.below low);
      all = c.loop-n.invariant.all;
    }

pub returns-clause-numbers : goal.returns-clause-numbers
returns-clause-numbers c = plain_done c.loop-n.n _ c.loop-n.numbers.items c.loop-n-test.false ∙ c.loop-n.invariant.rest
