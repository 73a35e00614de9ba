use Rattle.std.proofs.Common.{◌≡◌, ◌++◌, ◌==◌, drop, map}
use Rattle.std.specs.List.{filter}
use Rattle.run_rules.specs.Taking.{want_of}
use Rattle.pcl_base.specs.declared.message.ReportWait.{ReportWait}
use Rattle.msg_account.proofs.wants.Wants.push_waits_of.Given as goal

-- what was put and what is left to be put are the whole
abbrev pub invariant-loop-wait : goal.invariant-loop-wait
invariant-loop-wait l = l.self ++ map want_of (filter (λ (w : ReportWait). w.tx.node == l.node) (drop l.wait-index l.waits)) ≡ l.initial.self ++ map want_of (filter (λ (w : ReportWait). w.tx.node == l.node) l.waits)
