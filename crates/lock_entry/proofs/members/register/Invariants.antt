use Rattle.std.proofs.Common.{◌≡◌, ◌+◌, ◌-◌, ◌≤◌, length, drop}
use Rattle.node_rules.specs.LockRule.{register}
use Rattle.lock_entry.proofs.members.register.Given as goal

abbrev pub invariant-loop-tx : goal.invariant-loop-tx
invariant-loop-tx l = record {
  room : length l.holders.items + (length l.readers - l.tx-index) ≤ l.holders.capacity;
  rest : register l.holders.items (drop l.tx-index l.readers) ≡ register l.initial.holders.items l.readers;
}
