use Rattle.std.proofs.Common.{◌≡◌, ◌≤◌, ◌∷◌, ◌++◌, length, ap, sym, subst, ◌∙◌, arith}
use Rattle.std.specs.Vec.Iter.{into_iter_items}
use Rattle.pcl_base.specs.Limits.{Sizes}
use Rattle.disk_model.specs.Disk.{HasSizes}
use Rattle.node_parts.specs.State.{node_of}
use Rattle.page_owner.specs.Writes.{after_calls}
use Rattle.partition_steps.specs.Carried.{CanCarryEach, place_after, plan_calls}
use Rattle.partition_steps.specs.Memory.{HasMemoryFor, needs_of_all}
use Rattle.install_steps.specs.Calls.{AreFrom}
use Rattle.install_steps.proofs.Carrying.{first_broken, first_failed, memory_next, none_comes, none_left, rest_can, rest_comes, rest_from, rest_made}
use Rattle.node_parts.specs.Tables.{place_at}
use Rattle.install_steps.proofs.planned.+carry_rest.Goals as goal

pub carry_rest-requires : goal.carry_rest-requires
carry_rest-requires g n c = λ κs below.
    let items : into_iter_items c.args.plans ≡ c.in-Some.first ∷ into_iter_items c.next.new.self = c.in-Some.ensures.items in
    let from = subst (AreFrom c.args.parts.now.home.config.nodes 0) items c.requires.from in
    let can = subst (CanCarryEach c.args.parts.now.home.config c.args.parts.now.me (g.S.Storage.pages c.args.s.now) (g.S.Storage.logs c.args.s.now)) items c.requires.plans in
    let gone = c.in-Some.ensures.len in
    let was = c.requires.len in
    let short = ap length items in
    let is = c.decreases in
    let e = c.carry.ensures in
    let used = c.in-Ok.ensures.used in
    let wide = c.requires.size in
    let kept = used.size in (
      omega (arith, gone, is),
      (
        below,
        (
          e.turning,
          (
            omega (arith, gone, was, short),
            (
              rest_from c.args.parts.now c.carry.new.parts (g.S.Storage.pages c.args.s.now) (g.S.Storage.logs c.args.s.now) (g.S.Storage.pages c.carry.new.s) (g.S.Storage.logs c.carry.new.s) c.in-Some.first (into_iter_items c.next.new.self) e.same from e.others can,
              (
                rest_can c.args.parts.now c.carry.new.parts (g.S.Storage.pages c.args.s.now) (g.S.Storage.logs c.args.s.now) (g.S.Storage.pages c.carry.new.s) (g.S.Storage.logs c.carry.new.s) c.in-Some.first (into_iter_items c.next.new.self) e.same from e.others can e.view.me,
                (
                  e.listed,
                  (
                    subst (λ (k : Sizes). HasSizes k (g.S.Storage.pages c.carry.new.s) (g.S.Storage.logs c.carry.new.s) (g.S.Storage.rooms c.carry.new.s)) (sym e.same.config) e.sizes,
                    (
                      memory_next c.in-Some.first (into_iter_items c.next.new.self) c.args.memory.now.stock c.carry.new.memory.stock c.args.out.now c.carry.new.out (subst (λ l. HasMemoryFor (needs_of_all l) c.args.memory.now.stock c.args.out.now) items c.requires.memory) used,
                      (
                          subst (λ (k : Sizes). k.size ≤ c.carry.new.memory.stock.size) (sym e.same.config) (omega (arith, wide, kept))
                          ),
                    ),
                  ),
                ),
              ),
            ),
          ),
        ),
      ),
    )

pub returns-in-None-clause-comes : goal.returns-in-None-clause-comes
returns-in-None-clause-comes g n c = λ d cs stored told.
    let gone = c.in-None.ensures.cases.0 in
    let was = c.requires.len in
    none_comes (Unit {0}) (tt {0}) d (node_of c.args.parts.now) (into_iter_items c.args.plans) cs c.args.out.now (none_left (into_iter_items c.args.plans) (omega (arith, gone, was)))

pub returns-in-Ok-clause-comes : goal.returns-in-Ok-clause-comes
returns-in-Ok-clause-comes g n c = λ d cs stored told.
    let items : into_iter_items c.args.plans ≡ c.in-Some.first ∷ into_iter_items c.next.new.self = c.in-Some.ensures.items in
    let from = subst (AreFrom c.args.parts.now.home.config.nodes 0) items c.requires.from in
    let can = subst (CanCarryEach c.args.parts.now.home.config c.args.parts.now.me (g.S.Storage.pages c.args.s.now) (g.S.Storage.logs c.args.s.now)) items c.requires.plans in
    let e = c.carry.ensures in
    let x = c.in-Some.first in
    rest_comes c.args.parts.now c.carry.new.parts _ _ _ _ x (into_iter_items c.next.new.self) e.same from e.others can d (place_after x.1.table (place_at c.args.parts.now.tables.places x.0)) stored told (c.in-Ok.ensures.done d stored told) e.logs c.in-Ok.ensures.places
    (Unit {0}) (Unit {0}) (tt {0}) c.carry_rest.result (into_iter_items c.args.plans) cs c.args.out.now c.carry.new.out c.carry_rest.new.out (node_of c.carry_rest.new.parts) items (c.in-Ok.ensures.comes d cs stored told)
    (c.carry_rest.ensures.comes (record { pages = after_calls d.pages (plan_calls d x.1); logs = d.logs }) (cs ++ plan_calls d x.1) (c.in-Ok.ensures.done d stored told) (e.logs ∙ told))

pub returns-in-Ok-clause-made : goal.returns-in-Ok-clause-made
returns-in-Ok-clause-made g n c = λ d stored told.
    let items : into_iter_items c.args.plans ≡ c.in-Some.first ∷ into_iter_items c.next.new.self = c.in-Some.ensures.items in
    let from = subst (AreFrom c.args.parts.now.home.config.nodes 0) items c.requires.from in
    let can = subst (CanCarryEach c.args.parts.now.home.config c.args.parts.now.me (g.S.Storage.pages c.args.s.now) (g.S.Storage.logs c.args.s.now)) items c.requires.plans in
    let e = c.carry.ensures in
    let x = c.in-Some.first in
    rest_made c.args.parts.now c.carry.new.parts _ _ _ _ x (into_iter_items c.next.new.self) e.same from e.others can d (place_after x.1.table (place_at c.args.parts.now.tables.places x.0)) stored told (c.in-Ok.ensures.done d stored told) e.logs c.in-Ok.ensures.places
    (Unit {0}) c.carry_rest.result (into_iter_items c.args.plans) _ _ _ items e.view.me c.carry_rest.ensures.fault (c.in-Ok.ensures.made d stored told)
    (c.carry_rest.ensures.made (record { pages = after_calls d.pages (plan_calls d x.1); logs = d.logs }) (c.in-Ok.ensures.done d stored told) (e.logs ∙ told))

pub returns-in-Err-clause-comes : goal.returns-in-Err-clause-comes
returns-in-Err-clause-comes g n c = λ d cs stored told.
    first_failed (Unit {0}) (Unit {0}) d (node_of c.args.parts.now) (node_of c.carry.new.parts) c.in-Some.first (into_iter_items c.next.new.self) (into_iter_items c.args.plans) cs c.args.out.now c.carry.new.out c.in-Err.fault _
    c.in-Some.ensures.items (c.in-Err.ensures.comes d cs stored told)

pub returns-in-Err-clause-made : goal.returns-in-Err-clause-made
returns-in-Err-clause-made g n c = λ d stored told.
    first_broken (Unit {0}) (Unit {0}) d c.args.parts.now.me c.in-Some.first (into_iter_items c.next.new.self) (into_iter_items c.args.plans) c.in-Err.fault _ _ c.in-Some.ensures.items c.in-Err.ensures.fault (c.in-Err.ensures.made d stored told)
