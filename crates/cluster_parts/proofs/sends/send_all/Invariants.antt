use Rattle.std.proofs.Common.{◌≡◌, None, is_some, slice_index_or, length}
use Rattle.std.specs.Vec.Iter.{into_iter_items, into_iter_len}
use Rattle.cluster_rules.specs.Links.{send_all}
use Rattle.cluster_parts.specs.Steps.{HaveRoom}
use Rattle.cluster_parts.proofs.sends.send_all.Given as goal

abbrev pub decreases-loop-outgoing : goal.decreases-loop-outgoing
decreases-loop-outgoing g l = into_iter_len l.left

abbrev pub invariant-loop-outgoing : goal.invariant-loop-outgoing
invariant-loop-outgoing g l = record {
  room : HaveRoom l.links l.from (into_iter_items l.left);
  rest : send_all (λ n. is_some (slice_index_or l.nodes n None)) l.from l.links.links (into_iter_items l.left)
      ≡ send_all (λ n. is_some (slice_index_or l.nodes n None)) l.from l.fn.links.links l.fn.sends.items;
  len : into_iter_len l.left ≡ length (into_iter_items l.left);
}
