-- What a message comes to that changes nothing on disk.
use Rattle.std.proofs.Common.{◌≡◌, ℕ, ◌++◌, List, [], Result, sym, subst, append-nil}
use Rattle.pcl_base.specs.declared.message.Body.{Body}
use Rattle.run_rules.specs.Disk.{Disk}
use Rattle.node_rules.specs.DiskCalls.{DiskCall}
use Rattle.node_rules.specs.NodeState.{NodeState}
use Rattle.node_rules.specs.NodeStep.{work_off}
use Rattle.node_rules.specs.Work.{Work}
use Rattle.node_parts.specs.Comes.{Comes, work_of}
use Rattle.node_parts.specs.Outputs.{OutputsView}
use Rattle.node_parts.specs.declared.fault.StepFault.{StepFault}
use Rattle.page_owner.specs.Released.{body_calls}
use Rattle.page_owner.specs.Writes.{after_calls}

module _ (d : Disk) (from : ℕ) (before after : NodeState) (w : Work) (ps : List (List ℕ)) (cs : List DiskCall) (out : OutputsView) (a : Result (Unit {0}) StepFault) where
  abbrev Off : Body → Type 0
  Off b = Comes (work_off d from b w) a (work_of after (after_calls ps (body_calls b before)) (cs ++ body_calls b before) out)

  -- a message without calls, by its body
  pub off_without : (b c : Body) → b ≡ c → body_calls c before ≡ [] → Comes (work_off d from c w) a (work_of after ps cs out) → Off b
  off_without b c same none comes =
      subst Off (sym same)
      (subst (λ l. Comes (work_off d from c w) a (work_of after (after_calls ps l) (cs ++ l) out)) (sym none)
      (subst (λ l. Comes (work_off d from c w) a (work_of after ps l out)) (sym (append-nil cs)) comes))
