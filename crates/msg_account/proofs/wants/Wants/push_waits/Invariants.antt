use Rattle.std.proofs.Common.{◌≡◌, ◌++◌, drop, map}
use Rattle.run_rules.specs.Taking.{want_of}
use Rattle.msg_account.proofs.wants.Wants.push_waits.Given as goal

-- what was put and what is left to be put are the whole
abbrev pub invariant-loop-wait : goal.invariant-loop-wait
invariant-loop-wait l = l.self ++ map want_of (drop l.wait-index l.waits) ≡ l.initial.self ++ map want_of l.waits
