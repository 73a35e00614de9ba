use Rattle.std.proofs.Common.{◌≡◌, ◌+◌, None, length, sym, ap, subst, ◌∙◌, arith}
use Rattle.std.specs.List.{AllByRecursion}
use Rattle.std.specs.Map.{lookup}
use Rattle.buffer_pool.specs.Kept.{IsListed, name_of, same_name}
use Rattle.buffer_pool.proofs.Names.{list_kept, moved_here}
use Rattle.buffer_pool.proofs.order.list.Goals as goal

pub returns-then-move_name-clause-listed : goal.returns-then-move_name-clause-listed
returns-then-move_name-clause-listed c =
    list_kept c.make_room.new.names.entries c.move_name.new.names.entries c.args.name c.args.frame c.args.order.now.entries (c.move_name.ensures.moved c.if-move_name.true) c.requires.none c.make_room.ensures.listed

pub returns-then-move_name-clause-new : goal.returns-then-move_name-clause-new
returns-then-move_name-clause-new c =
    moved_here c.make_room.new.names.entries c.move_name.new.names.entries c.args.name c.args.frame (c.move_name.ensures.moved c.if-move_name.true)

pub returns-clause-listed : goal.returns-clause-listed
returns-clause-listed c =
    let kept : c.move_name.new.names.entries ≡ c.make_room.new.names.entries = ap (λ m. m.entries) (c.move_name.ensures.absent c.if-move_name.false).1 in
    list_kept c.move_name.new.names.entries c.insert.new.self.entries c.args.name c.args.frame c.args.order.now.entries c.in-Ok.ensures.updates.0 c.requires.none
    (subst (λ l. AllByRecursion (λ e. IsListed l e.0 (name_of e.1)) c.args.order.now.entries) (sym kept) c.make_room.ensures.listed)

pub returns-clause-new : goal.returns-clause-new
returns-clause-new c = moved_here c.move_name.new.names.entries c.insert.new.self.entries c.args.name c.args.frame c.in-Ok.ensures.updates.0

pub returns-clause-room : goal.returns-clause-room
returns-clause-room c =
    let kept : c.move_name.new.names.entries ≡ c.make_room.new.names.entries = ap (λ m. m.entries) (c.move_name.ensures.absent c.if-move_name.false).1 in
    let none : c.in-Ok._none ≡ None = c.in-Ok.ensures.old ∙ ap (λ l. lookup (same_name c.args.name) l) kept ∙ (c.move_name.ensures.absent c.if-move_name.false).0 in
    let more : length c.insert.new.self.entries ≡ length c.move_name.new.names.entries + 1 = rw none at c.in-Ok.ensures.len in
    omega (arith, c.move_name.ensures.len, c.move_name.ensures.spare, c.in-Ok.ensures.spare, c.make_room.ensures.room)
