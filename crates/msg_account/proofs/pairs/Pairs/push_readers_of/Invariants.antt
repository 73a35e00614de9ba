use Rattle.std.proofs.Common.{◌≡◌, ◌++◌, drop}
use Rattle.run_rules.specs.Causes.{of_node}
use Rattle.msg_account.proofs.pairs.Pairs.push_readers_of.Given as goal

-- what was put and what is left to be put are the whole
abbrev pub invariant-loop-reader : goal.invariant-loop-reader
invariant-loop-reader l = l.self ++ of_node l.node l.page (drop l.reader-index l.readers) ≡ l.initial.self ++ of_node l.node l.page l.readers
