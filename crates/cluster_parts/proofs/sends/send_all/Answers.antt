use Rattle.std.proofs.Common.{◌≡◌, ◌∷◌, [], ℕ, Bool, List, None, is_some, slice_index_or, length, ap, sym, subst, ◌∙◌, arith}
use Rattle.std.specs.Vec.Iter.{into_iter_items, into_iter_len}
use Rattle.node_rules.specs.NodeState.{Outgoing}
use Rattle.cluster_rules.specs.Links.{Links, send_all}
use Rattle.cluster_parts.specs.Steps.{HaveRoom}
use Rattle.cluster_parts.proofs.Sending.{none_left, send_next, send_none}
use Rattle.cluster_parts.proofs.sends.send_all.Goals as goal

pub send_one-requires-clause-sender : goal.send_one-requires-clause-sender
send_one-requires-clause-sender g c = c.loop-outgoing.invariant.room.0

pub send_one-requires-clause-receiver : goal.send_one-requires-clause-receiver
send_one-requires-clause-receiver g c = (subst (HaveRoom c.loop-outgoing.links c.args.from) c.in-Some.ensures.items c.loop-outgoing.invariant.room).1.0.0

pub send_one-requires-clause-room : goal.send_one-requires-clause-room
send_one-requires-clause-room g c =
    let enough = (subst (HaveRoom c.loop-outgoing.links c.args.from) c.in-Some.ensures.items c.loop-outgoing.invariant.room).1.0.1 in
    omega (arith, enough)

pub loop-outgoing-preserved : goal.loop-outgoing-preserved
loop-outgoing-preserved g c =
    let up : ℕ → Bool = λ n. is_some (slice_index_or c.args.nodes.now n None) in
    let rest : List Outgoing = into_iter_items c.next.new.self in
    let items : into_iter_items c.loop-outgoing.left ≡ c.in-Some.outgoing ∷ rest = c.in-Some.ensures.items in
    let gone = c.in-Some.ensures.len in
    let was = c.loop-outgoing.invariant.len in
    let short = ap length items in
    record {
      room = c.send_one.ensures.room rest (subst (HaveRoom c.loop-outgoing.links c.args.from) items c.loop-outgoing.invariant.room);
      rest = ap (λ (ls : Links). send_all up c.args.from ls rest) c.send_one.ensures.links
          ∙ sym (send_next up c.args.from c.loop-outgoing.links.links c.in-Some.outgoing rest)
          ∙ ap (send_all up c.args.from c.loop-outgoing.links.links) (sym items)
          ∙ c.loop-outgoing.invariant.rest;
      len = omega (arith, gone, was, short);
    }

pub returns : goal.returns
returns g c =
    let gone : into_iter_len c.loop-outgoing.left ≡ 0 = c.in_default.ensures.cases.0 in
    let was = c.loop-outgoing.invariant.len in
    let empty : into_iter_items c.loop-outgoing.left ≡ [] = none_left (into_iter_items c.loop-outgoing.left) (omega (arith, gone, was)) in
    sym (send_none (λ n. is_some (slice_index_or c.args.nodes.now n None)) c.args.from c.loop-outgoing.links.links (into_iter_items c.loop-outgoing.left) empty) ∙ c.loop-outgoing.invariant.rest
