use Rattle.std.proofs.Common.{◌≡◌, ◌<◌, ◌≤◌, ◌++◌, ◌∷◌, [], ℕ, List, length, length-append, ap, sym, subst, ◌∙◌, arith}
use Rattle.frame_pool.specs.Frames.{IsTaken, PoolView, times}
use Rattle.std.specs.Vec.{vec_capacity}
use Rattle.frame_pool.specs.Region.{IsSound}
use Rattle.frame_pool.proofs.Views.{seen, pool_from_sound, free_within, sound_given, below_now, absent_now, given_free, taken_beside}
use Rattle.frame_pool.proofs.pool.Pool.give.Goals as goal

pub push_reserved-requires : goal.push_reserved-requires
push_reserved-requires c =
    let number : c.f.inside.number ≡ c.args.f = c.f.view_is in
    let below : c.f.inside.number < c.self.inside.count = below_now c.self.inside.count c.self.inside.size c.self.inside.bytes.items c.self.inside.free.items c.args.self.now c.args.f c.f.inside.number c.self.view_is number c.requires in
    let absent : times c.f.inside.number c.self.inside.free.items ≡ 0 = absent_now c.self.inside.count c.self.inside.size c.self.inside.bytes.items c.self.inside.free.items c.args.self.now c.args.f c.f.inside.number c.self.view_is number c.requires in
    let after : IsSound c.self.inside.count c.self.inside.size c.self.inside.bytes.items (c.self.inside.free.items ++ c.f.inside.number ∷ []) (vec_capacity c.self.inside.free) = sound_given c.f.inside.number c.self.invariant below absent in
    let fits : length (c.self.inside.free.items ++ c.f.inside.number ∷ []) ≤ c.self.inside.count = free_within after in
    omega (arith, length-append c.self.inside.free.items (c.f.inside.number ∷ []), c.self.inside.free.ok.0, c.self.invariant.room_for_all)

pub invariant_of-self : goal.invariant_of-self
invariant_of-self c =
    let number : c.f.inside.number ≡ c.args.f = c.f.view_is in
    let below : c.f.inside.number < c.self.inside.count = below_now c.self.inside.count c.self.inside.size c.self.inside.bytes.items c.self.inside.free.items c.args.self.now c.args.f c.f.inside.number c.self.view_is number c.requires in
    let absent : times c.f.inside.number c.self.inside.free.items ≡ 0 = absent_now c.self.inside.count c.self.inside.size c.self.inside.bytes.items c.self.inside.free.items c.args.self.now c.args.f c.f.inside.number c.self.view_is number c.requires in
    let after : IsSound c.self.inside.count c.self.inside.size c.self.inside.bytes.items (c.self.inside.free.items ++ c.f.inside.number ∷ []) (vec_capacity c.self.inside.free) = sound_given c.f.inside.number c.self.invariant below absent in
    rw (c.push_reserved.ensures.items, c.push_reserved.ensures.capacity) after

pub returns-clause-sound : goal.returns-clause-sound
returns-clause-sound c =
    let number : c.f.inside.number ≡ c.args.f = c.f.view_is in
    let below : c.f.inside.number < c.self.inside.count = below_now c.self.inside.count c.self.inside.size c.self.inside.bytes.items c.self.inside.free.items c.args.self.now c.args.f c.f.inside.number c.self.view_is number c.requires in
    let absent : times c.f.inside.number c.self.inside.free.items ≡ 0 = absent_now c.self.inside.count c.self.inside.size c.self.inside.bytes.items c.self.inside.free.items c.args.self.now c.args.f c.f.inside.number c.self.view_is number c.requires in
    let after : IsSound c.self.inside.count c.self.inside.size c.self.inside.bytes.items (c.self.inside.free.items ++ c.f.inside.number ∷ []) (vec_capacity c.self.inside.free) = sound_given c.f.inside.number c.self.invariant below absent in
    rw c.push_reserved.ensures.items (pool_from_sound after)

pub returns-clause-is_free : goal.returns-clause-is_free
returns-clause-is_free c = λ t.
    let items : c.push_reserved.new.self.items ≡ c.self.inside.free.items ++ c.args.f ∷ [] = c.push_reserved.ensures.items ∙ ap (λ n. c.self.inside.free.items ++ n ∷ []) c.f.view_is in
    given_free (seen c.self.inside.count c.self.inside.size c.self.inside.bytes.items c.self.inside.free.items) c.args.f
    (subst (λ (ns : List ℕ). IsTaken (seen c.self.inside.count c.self.inside.size c.self.inside.bytes.items ns) c.args.f) items t)

pub returns-clause-others_held : goal.returns-clause-others_held
returns-clause-others_held c = λ n other t.
    let items : c.push_reserved.new.self.items ≡ c.self.inside.free.items ++ c.args.f ∷ [] = c.push_reserved.ensures.items ∙ ap (λ m. c.self.inside.free.items ++ m ∷ []) c.f.view_is in
    subst (λ (ns : List ℕ). IsTaken (seen c.self.inside.count c.self.inside.size c.self.inside.bytes.items ns) n) (sym items)
    (taken_beside (seen c.self.inside.count c.self.inside.size c.self.inside.bytes.items c.self.inside.free.items) c.args.f n other (subst (λ (p : PoolView). IsTaken p n) (sym c.self.view_is) t))
