use Rattle.std.proofs.Common.{◌≡◌, append-nil, sym, subst, ◌∙◌}
use Rattle.frame_pool.specs.Frames.{IsTaken, PoolView}
use Rattle.frame_pool.proofs.Views.{seen, pool_from_sound, sound_taken, taken_last, last_free, taken_kept}
use Rattle.frame_pool.proofs.pool.Pool.take.Goals as goal

pub returns-in_err-number-clause-sound : goal.returns-in_err-number-clause-sound
returns-in_err-number-clause-sound c =
    let same : c.self.inside.free.items ≡ c.pop.new.self.items = c.in_err-number.ensures.items ∙ append-nil c.pop.new.self.items in
    rw (← same) (pool_from_sound c.self.invariant)

pub invariant_of-self-2 : goal.invariant_of-self-2
invariant_of-self-2 c = rw c.in_ok-number.ensures.capacity (sound_taken c.pop.new.self.items c.self.inside.free.items c.in_ok-number.number c.in_ok-number.ensures.items c.self.invariant)

pub returns-clause-held : goal.returns-clause-held
returns-clause-held c = taken_last c.pop.new.self.items c.self.inside.free.items c.in_ok-number.number c.in_ok-number.ensures.items c.self.invariant

pub returns-clause-sound : goal.returns-clause-sound
returns-clause-sound c = pool_from_sound (sound_taken c.pop.new.self.items c.self.inside.free.items c.in_ok-number.number c.in_ok-number.ensures.items c.self.invariant)

pub returns-clause-was_free : goal.returns-clause-was_free
returns-clause-was_free c = λ t.
    last_free (seen c.self.inside.count c.self.inside.size c.self.inside.bytes.items c.self.inside.free.items) c.pop.new.self.items c.in_ok-number.number c.in_ok-number.ensures.items
    (subst (λ (p : PoolView). IsTaken p c.in_ok-number.number) (sym c.self.view_is) t)

pub returns-clause-others_held : goal.returns-clause-others_held
returns-clause-others_held c = λ n t.
    taken_kept (seen c.self.inside.count c.self.inside.size c.self.inside.bytes.items c.self.inside.free.items) c.pop.new.self.items c.in_ok-number.number n c.in_ok-number.ensures.items
    (subst (λ (p : PoolView). IsTaken p n) (sym c.self.view_is) t)
