use Rattle.std.proofs.Common.{◌≡◌, ◌+◌, ◌*◌, ◌≤◌, [], length, nat_eq}
use Rattle.std.specs.List.{AllByRecursion, IsDistinct}
use Rattle.std.specs.Map.{keys_of}
use Rattle.indexmap.specs.IndexMap.{spare}
use Rattle.buffer_pool.specs.Kept.{IsListed, name_of}
use Rattle.buffer_pool.proofs.Names.{relisted, IsPartly}
use Rattle.buffer_pool.proofs.order.list_all.Given as goal

abbrev pub invariant-loop-frame : goal.invariant-loop-frame
invariant-loop-frame l = record {
  rest : relisted l.names.entries l.frame-iterator ≡ relisted [] l.order.entries;
  partly : IsPartly l.fn.names.entries l.names.entries l.frame-iterator;
  listed : AllByRecursion (λ e. IsListed l.fn.names.entries e.0 (name_of e.1)) l.frame-iterator;
  distinct : IsDistinct nat_eq (keys_of l.frame-iterator);
  room : length l.order.entries + length l.frame-iterator ≤ spare l.names;
  all : 2 * length l.order.entries ≤ length l.names.entries + spare l.names;
}
