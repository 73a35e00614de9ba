-- A copy of a home's buffer that is written, becomes clean or leaves.
use Rattle.std.proofs.Common.{◌≡◌, ℕ, ◌==◌, not, false, Option, Some, None, refl, ap, sym, subst, ◌∙◌}
use Rattle.pcl_base.specs.Limits.{Sizes}
use Rattle.node_rules.specs.BufferRule.{Pool, Slot, slot_at, copy_at, pinned, pinned_slot, evict}
use Rattle.node_rules.specs.NodeState.{HomeState}
use Rattle.node_rules.specs.Work.{HomeWork, with_pool, write_back}
use Rattle.node_rules.specs.AccessRule.{on_pool}
use Rattle.home_laws.specs.Homes.{IsHome, pins_of}
use Rattle.home_laws.specs.EndLaws.{WriteBackIsSound, EvictIsSound, CleanIsSound}
use Rattle.home_laws.proofs.Pools.{PoolIs, pool_of_home}
use Rattle.home_laws.proofs.Kept.{Keeps, kept_is_home, keeps_then, keeps_clean, keeps_evict, written_if, home_written, keeps_written}

pub write_back_is_sound_law : WriteBackIsSound
write_back_is_sound_law p w is =
    subst IsHome (sym (home_written p w))
    (kept_is_home w.home (written_if (copy_at w.home.pool p) w.home.pool p) is (keeps_written w.home.config w.home.pool p (pool_of_home w.home is)))

pub clean_is_sound_law : CleanIsSound
clean_is_sound_law p h is = kept_is_home h _ is (keeps_clean h.config h.pool p (pool_of_home h is))

-- a slot that was written has as many pins as before
still_free : (o p : Option Slot) → pins_of o ≡ pins_of p → pinned_slot p ≡ false → pinned_slot o ≡ false
still_free None p e f = refl
still_free (Some s) None e f = ap (λ n. not (n == 0)) e
still_free (Some s) (Some r) e f = ap (λ n. not (n == 0)) e ∙ f

-- the buffer once an unpinned copy was written and left
abbrev pub left_pool : Pool → ℕ → Pool
left_pool b p = evict (written_if (copy_at b p) b p) p

pub keeps_left : (c : Sizes) (b : Pool) (p : ℕ) → PoolIs c b → pinned b p ≡ false → Keeps c b (left_pool b p)
keeps_left c b p is free =
    let k = keeps_written c b p is in
    keeps_then c b (written_if (copy_at b p) b p) (left_pool b p) k
    (keeps_evict c (written_if (copy_at b p) b p) p k.is (still_free (slot_at (written_if (copy_at b p) b p) p) (slot_at b p) (k.pins p) free))

-- the home once a page's copy was written and left
pub home_left : (p : ℕ) (w : HomeWork) → (on_pool (λ b. evict b p) (write_back p w)).home ≡ with_pool w.home (left_pool w.home.pool p)
home_left p w = ap (λ (h : HomeState). with_pool h (evict h.pool p)) (home_written p w)

pub evict_is_sound_law : EvictIsSound
evict_is_sound_law p w is free =
    subst IsHome (sym (home_left p w)) (kept_is_home w.home (left_pool w.home.pool p) is (keeps_left w.home.config w.home.pool p (pool_of_home w.home is) free))
