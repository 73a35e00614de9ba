use Rattle.std.proofs.Common.{◌≡◌, ◌-◌, length}
use Rattle.node_rules.specs.LockRule.{first_upgrade, settle_within}
use Rattle.lock_entry.proofs.Settling.{resumed}
use Rattle.lock_entry.proofs.entry.Entry.take_turns.Given as goal

abbrev pub invariant-loop-taken : goal.invariant-loop-taken
invariant-loop-taken l = record {
  most : l.most ≡ length l.fn.self.waiting;
  upgrade : l.upgrade ≡ first_upgrade l.self.holders l.self.waiting;
  rest : resumed l.decisions.items (settle_within (l.most - l._taken) l.owner l.self) ≡ resumed l.fn.decisions.items (settle_within l.most l.owner l.fn.self);
}
