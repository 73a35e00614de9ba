use Rattle.std.proofs.Common.{◌≡◌, ◌++◌, ◌∷◌, [], ◌+◌, ℕ, List, ap, sym, subst, ◌∙◌, append_assoc, map, drop, drop-cons, add-one}
use Rattle.pcl_base.specs.declared.trace.Sent.{Sent}
use Rattle.node_rules.specs.NodeState.{Outgoing}
use Rattle.cluster_rules.specs.Clusters.{sent_by}
use Rattle.trace_entries.specs.Notes.{HasMemory}
use Rattle.trace_entries.proofs.NoteLemmas.{memory_left}
use Rattle.trace_entries.proofs.notes.Notes.of.Goals as goal

pub loop-outgoing-preserved : goal.loop-outgoing-preserved
loop-outgoing-preserved c =
    let all : List Outgoing = c.args.sends.now in
    let i : ℕ = c.loop-outgoing.outgoing-index in
    let o : Outgoing = c.outgoing-item.result in
    let rest : List Outgoing = drop (i + 1) all in
    let split : drop i all ≡ o ∷ rest = rw (add-one) (drop-cons all i o c.loop-outgoing-test.true) ∙ ap (λ (x : Outgoing). x ∷ rest) (sym c.outgoing-item.is) in
    record {
      sent =
          ap (λ (s : List Sent). s ++ map (sent_by c.args.from) rest) c.put.ensures.sent
          ∙ append_assoc c.loop-outgoing.notes.sent (sent_by c.args.from o ∷ []) (map (sent_by c.args.from) rest)
          ∙ ap (λ (os : List Outgoing). c.loop-outgoing.notes.sent ++ map (sent_by c.args.from) os) (sym split)
          ∙ c.loop-outgoing.invariant.sent;
      memory = memory_left c.loop-outgoing.notes c.put.new.self o rest (subst (HasMemory c.loop-outgoing.notes) split c.loop-outgoing.invariant.memory) c.put.ensures.room c.put.ensures.lists c.put.ensures.size;
    }
