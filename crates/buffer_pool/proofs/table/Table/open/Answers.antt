use Rattle.std.proofs.Common.{◌≤◌, length, arith, ap}
use Rattle.std.proofs.lemmas.List.FromFn.{length-range_with_len}
use Rattle.std.specs.Vec.{vec_capacity}
use Rattle.buffer_pool.proofs.Freed.{kept_opened}
use Rattle.buffer_pool.proofs.Tables.{table_of_kept}
use Rattle.buffer_pool.proofs.table.Table.open.Goals as goal

pub invariant_of-result : goal.invariant_of-result
invariant_of-result c =
    let room : c.args.frames ≤ vec_capacity c.in_ok-numbers.field-0 = omega (arith, ap length c.in_ok-numbers.ensures, length-range_with_len 0 c.args.frames, c.in_ok-numbers.field-0.ok.0) in
    rw (c.in_ok-all_free.ensures, c.in_ok-with_capacity.ensures.empty, c.in_ok-numbers.ensures)
    (kept_opened c.args.frames _ _ c.requires.0 c.requires.1 c.in_ok-with_capacity.ensures.spare room)

pub returns-clause-sound : goal.returns-clause-sound
returns-clause-sound c = table_of_kept _ _ _ _ _ _ _ (invariant_of-result c)
