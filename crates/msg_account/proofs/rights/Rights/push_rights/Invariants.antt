use Rattle.std.proofs.Common.{◌≡◌, ◌++◌, drop, map}
use Rattle.run_rules.specs.Taking.{out_of}
use Rattle.msg_account.proofs.rights.Rights.push_rights.Given as goal

-- what was put and what is left to be put are the whole
abbrev pub invariant-loop-right : goal.invariant-loop-right
invariant-loop-right l = l.self ++ map (out_of l.node) (drop l.right-index l.rights) ≡ l.initial.self ++ map (out_of l.node) l.rights
