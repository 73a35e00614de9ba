use Rattle.std.proofs.Common.{◌∷◌, [], ◌++◌, Some, ap, ◌∙◌, arith}
use Rattle.node_rules.specs.NodeState.{NodeState, first_node}
use Rattle.cluster.proofs.Counting.{map_done, map_next}
use Rattle.cluster.proofs.starts.first_nodes.Goals as goal

pub loop-n-preserved : goal.loop-n-preserved
loop-n-preserved c =
    let room = c.loop-n.invariant.room in
    let len = c.push_reserved.ensures.len in
    let cap = c.push_reserved.ensures.capacity in
    let low = c.loop-n-test.true in
    record {
      made = map_next (λ n. Some (first_node c.args.config.now n)) c.loop-n.n _ c.loop-n.nodes.items c.push_reserved.new.self.items c.loop-n-test.true
          (c.push_reserved.ensures.items ∙ ap (λ (s : NodeState). c.loop-n.nodes.items ++ Some s ∷ []) c.in-Ok.ensures)
          ∙ c.loop-n.invariant.made;
      room = omega (arith, room, len, cap, low);
      all = c.loop-n.invariant.all;
    }

pub returns : goal.returns
returns c = map_done (λ n. Some (first_node c.args.config.now n)) c.loop-n.n _ c.loop-n.nodes.items c.loop-n-test.false ∙ c.loop-n.invariant.made
