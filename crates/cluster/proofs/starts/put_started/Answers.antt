use Rattle.std.proofs.Common.{◌≡◌, ◌+◌, ◌<◌, List, Option, ap, sym, subst, ◌∙◌, drop, get_or, length, slice_set, arith}
use Rattle.node_rules.specs.NodeState.{NodeState}
use Rattle.node_laws.proofs.Lists.{set_length}
use Rattle.cluster.specs.Starts.{with_started}
use Rattle.cluster.proofs.Starting.{put_done, put_step}
use Rattle.cluster.proofs.starts.put_started.Goals as goal

pub loop-i-preserved : goal.loop-i-preserved
loop-i-preserved c =
    let low = c.loop-i-test.true in
    let each = c.loop-i.invariant.each in
    let in_list : c.loop-i.i < length c.loop-i.started.items = omega (arith, low, each) in
    let node : c.take.result ≡ get_or c.loop-i.started.items c.loop-i.i c.take.result =
    subst (λ (o : Option NodeState). o ≡ get_or c.loop-i.started.items c.loop-i.i o) (sym c.take.ensures.value) c.index_mut-at.ensures.value in
    record {
      rest = ap (λ (nodes : List (Option NodeState)). with_started nodes (drop (c.loop-i.i + 1) c.args.numbers.now) (drop (c.loop-i.i + 1) (slice_set c.loop-i.started.items c.loop-i.i c.take.new.self))) c.put_at.ensures
          ∙ ap (λ (o : Option NodeState). with_started (slice_set c.loop-i.nodes (get_or c.args.numbers.now c.loop-i.i 0) c.take.result) (drop (c.loop-i.i + 1) c.args.numbers.now) (drop (c.loop-i.i + 1) (slice_set c.loop-i.started.items c.loop-i.i o))) c.take.ensures.after
          ∙ put_step c.loop-i.nodes c.args.numbers.now c.loop-i.started.items c.loop-i.i c.take.result low in_list node
          ∙ c.loop-i.invariant.rest;
      long = ap (λ (nodes : List (Option NodeState)). length nodes) c.put_at.ensures
          ∙ set_length c.loop-i.nodes (get_or c.args.numbers.now c.loop-i.i 0) c.take.result
          ∙ c.loop-i.invariant.long;
      each = set_length c.loop-i.started.items c.loop-i.i c.take.new.self ∙ c.loop-i.invariant.each;
    }

pub returns : goal.returns
returns c =
    sym (put_done c.loop-i.nodes c.args.numbers.now (drop c.loop-i.i c.loop-i.started.items) c.loop-i.i c.loop-i-test.false) ∙ c.loop-i.invariant.rest
