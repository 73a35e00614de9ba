use Rattle.std.proofs.Common.{◌≡◌, ◌++◌, ◌==◌, drop, map}
use Rattle.std.specs.List.{filter}
use Rattle.run_rules.specs.Causes.{lock_of}
use Rattle.pcl_base.specs.declared.message.ReportLock.{ReportLock}
use Rattle.msg_account.proofs.pairs.Pairs.push_locks_of.Given as goal

-- what was put and what is left to be put are the whole
abbrev pub invariant-loop-lock : goal.invariant-loop-lock
invariant-loop-lock l = l.self ++ map lock_of (filter (λ (w : ReportLock). w.tx.node == l.node) (drop l.lock-index l.locks)) ≡ l.initial.self ++ map lock_of (filter (λ (w : ReportLock). w.tx.node == l.node) l.locks)
