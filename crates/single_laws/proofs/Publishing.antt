-- The copies of a home's buffer when a transaction ends: a written page has the private copy at the
-- next version, and any other page is as before.
use Rattle.std.proofs.Common.{◌≡◌, refl, sym, ap, subst, ◌∙◌, ℕ, ◌+◌, ◌==◌, ◌&&◌, Bool, true, false, List, [], ◌∷◌, None, Some, is_some, arith}
use Rattle.std.specs.Prelude.{Option, option_map}
use Rattle.std.specs.List.{fold}
use Rattle.std.proofs.lemmas.Bool.Decides.{nat_tests}
use Rattle.pcl_base.specs.declared.tx.TxId.{TxId}
use Rattle.node_rules.specs.Words.{same_tx}
use Rattle.node_rules.specs.OpenTxs.{held_by, pending_of}
use Rattle.node_rules.specs.BufferRule.{Pool, Slot, Copy, slot_in, copy_at, copy_of_slot, private_bytes, bytes_of_private, published, publish, discard}
use Rattle.node_rules.specs.NodeState.{HomeState}
use Rattle.node_rules.specs.EndRule.{pages_written, pages_at_end, publish_all, discard_all, is_own_lock, closed}
use Rattle.home_laws.specs.Homes.{IsHome}
use Rattle.home_laws.proofs.Tests.{number_equal}
use Rattle.home_laws.proofs.Serials.{one_if}
use Rattle.home_laws.proofs.Slots.{slot_changed, slot_unchanged}
use Rattle.home_laws.proofs.Pools.{PoolIs, pool_of_home, all_discarded_is}
use Rattle.home_laws.proofs.Publishes.{with_published, unpublished}
use Rattle.home_laws.proofs.EndSteps.{publish_all_follows}
use Rattle.home_laws.proofs.Unpins.{times, copy_unpins}
use Rattle.home_laws.proofs.Written.{times_more}
use Rattle.page_laws.proofs.WrittenParts.Looked.{times_look}

-- ---- one page after the other

copy_here : (b : Pool) (t : TxId) (p : ℕ) (dirty : Bool) → copy_at (publish b t p dirty) p ≡ published dirty (private_bytes b t p) (copy_at b p)
unfolding publish discard
copy_here b t p dirty = ap copy_of_slot (slot_changed (with_published dirty (private_bytes b t p)) (λ s. refl) b.slots p) ∙ mapped (slot_in b.slots p)
  where
    mapped : (o : Option Slot) → copy_of_slot (option_map (with_published dirty (private_bytes b t p)) o) ≡ published dirty (private_bytes b t p) (copy_of_slot o)
    mapped None = none (private_bytes b t p)
      where
        none : (o : Option (List ℕ)) → None ≡ published dirty o None
        none None = refl
        none (Some bytes) = refl
    mapped (Some s) = refl

copy_there : (b : Pool) (t : TxId) (p q : ℕ) (dirty : Bool) → (q == p) ≡ false → copy_at (publish b t p dirty) q ≡ copy_at b q
unfolding publish discard
copy_there b t p q dirty other = ap copy_of_slot (slot_unchanged (with_published dirty (private_bytes b t p)) (λ s. refl) b.slots p q other)

both_false : (a b : Bool) → b ≡ false → (a && b) ≡ false
both_false true b e = e
both_false false b e = refl

bytes_there : (b : Pool) (t : TxId) (p q : ℕ) (dirty : Bool) → (q == p) ≡ false → private_bytes (publish b t p dirty) t q ≡ private_bytes b t q
bytes_there b t p q dirty other = ap bytes_of_private (unpublished b t t p q dirty (both_false (same_tx t t) (q == p) other))

-- some pages are published
abbrev publishes : TxId → (ℕ → Bool) → Pool → List ℕ → Pool
publishes t g b ps = fold (λ x p. publish x t p (g p)) b ps

copy_left : (t : TxId) (g : ℕ → Bool) (ps : List ℕ) (b : Pool) (q : ℕ) → times q ps ≡ 0 → copy_at (publishes t g b ps) q ≡ copy_at b q
copy_left t g [] b q none = refl
copy_left t g (p ∷ ps) b q none =
    let count = times_more p q ps in
    let rest : times q ps ≡ 0 = omega (arith, count, none) in
    let other : (q == p) ≡ false = differs (p == q) refl (omega (arith, count, none)) in
    copy_left t g ps (publish b t p (g p)) q rest ∙ copy_there b t p q (g p) other
  where
    differs : (c : Bool) → (p == q) ≡ c → one_if c ≡ 0 → (q == p) ≡ false
    differs true e zero = absurd (omega (arith, zero))
    differs false e zero = grind (arith, nat_tests)

copy_once : (t : TxId) (g : ℕ → Bool) (ps : List ℕ) (b : Pool) (q : ℕ) → times q ps ≡ 1 → copy_at (publishes t g b ps) q ≡ published (g q) (private_bytes b t q) (copy_at b q)
copy_once t g [] b q one = absurd (omega (arith, one))
copy_once t g (p ∷ ps) b q one = by (p == q) refl (times_more p q ps) (λ rest. copy_once t g ps (publish b t p (g p)) q rest)
  where
    by : (c : Bool) → (p == q) ≡ c → times q (p ∷ ps) ≡ one_if c + times q ps
        → (times q ps ≡ 1 → copy_at (publishes t g (publish b t p (g p)) ps) q ≡ published (g q) (private_bytes (publish b t p (g p)) t q) (copy_at (publish b t p (g p)) q))
        → copy_at (publishes t g (publish b t p (g p)) ps) q ≡ published (g q) (private_bytes b t q) (copy_at b q)
    by true e count go =
        let rest : times q ps ≡ 0 = omega (arith, count, one) in
        copy_left t g ps (publish b t p (g p)) q rest
        ∙ subst (λ n. copy_at (publish b t n (g n)) q ≡ published (g q) (private_bytes b t q) (copy_at b q)) (sym (number_equal p q e)) (copy_here b t q (g q))
    by false e count go =
        let other : (q == p) ≡ false = grind (arith, nat_tests) in
        go (omega (arith, count, one))
        ∙ ap (λ o. published (g q) o (copy_at (publish b t p (g p)) q)) (bytes_there b t p q (g p) other)
        ∙ ap (published (g q) (private_bytes b t q)) (copy_there b t p q (g p) other)

-- ---- a transaction that doesn't wait

module _ (h : HomeState) (t : TxId) (home : IsHome h) (waits : pending_of h.txs t ≡ None) where
  -- the copies once all is published
  pub copy_published : (p : ℕ) → copy_at (publish_all h t) p ≡ published (is_own_lock (held_by h.txs t p)) (private_bytes h.pool t p) (copy_at h.pool p)
  copy_published p = by (private_bytes h.pool t p) refl
    where
      unchanged : (dirty : Bool) (o : Option Copy) → o ≡ published dirty None o
      unchanged dirty None = refl
      unchanged dirty (Some x) = refl

      by : (o : Option (List ℕ)) → private_bytes h.pool t p ≡ o → copy_at (publish_all h t) p ≡ published (is_own_lock (held_by h.txs t p)) (private_bytes h.pool t p) (copy_at h.pool p)
      by None e =
          copy_left t (λ q. is_own_lock (held_by h.txs t q)) (pages_written h t) h.pool p (times_look h t home waits p ∙ ap (λ o. one_if (is_some o)) e)
          ∙ unchanged (is_own_lock (held_by h.txs t p)) (copy_at h.pool p)
          ∙ ap (λ o. published (is_own_lock (held_by h.txs t p)) o (copy_at h.pool p)) (sym e)
      by (Some bytes) e = copy_once t (λ q. is_own_lock (held_by h.txs t q)) (pages_written h t) h.pool p (times_look h t home waits p ∙ ap (λ o. one_if (is_some o)) e)

  -- and once it is closed
  pub copy_closed : (b : Pool) (p : ℕ) → PoolIs h.config b → copy_at (closed h t b).pool p ≡ copy_at b p
  unfolding closed
  copy_closed b p is = copy_unpins h.config (pages_at_end h t) (discard_all b t) p (all_discarded_is h.config b t is)

  pub copy_committed : (p : ℕ) → copy_at (closed h t (publish_all h t)).pool p ≡ published (is_own_lock (held_by h.txs t p)) (private_bytes h.pool t p) (copy_at h.pool p)
  copy_committed p = copy_closed (publish_all h t) p (publish_all_follows h t home).is ∙ copy_published p

  pub copy_aborted : (p : ℕ) → copy_at (closed h t h.pool).pool p ≡ copy_at h.pool p
  copy_aborted p = copy_closed h.pool p (pool_of_home h home)
