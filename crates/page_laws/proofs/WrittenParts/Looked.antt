-- The private copies of a transaction that doesn't wait: it has one, with content, of each page that it wrote.
use Rattle.std.proofs.Common.{◌≡◌, refl, sym, ap, ◌∙◌, ℕ, ◌≤◌, ◌||◌, cond, Bool, true, false, List, [], ◌∷◌, length, None, Some, is_some, arith}
use Rattle.std.specs.Prelude.{Option}
use Rattle.std.specs.List.{filter}
use Rattle.pcl_base.specs.declared.tx.TxId.{TxId}
use Rattle.node_rules.specs.Words.{pick}
use Rattle.node_rules.specs.OpenTxs.{held_by, pending_of}
use Rattle.node_rules.specs.BufferRule.{PrivateCopy, has_private, is_private, private_in, private_at, private_bytes}
use Rattle.node_rules.specs.NodeState.{HomeState}
use Rattle.node_rules.specs.EndRule.{pages_written, is_written}
use Rattle.home_laws.specs.Homes.{IsHome, is_exclusive_lock, is_write_of}
use Rattle.home_laws.proofs.Covering.{or_false}
use Rattle.home_laws.proofs.Serials.{one_if}
use Rattle.home_laws.proofs.PrivateLooks.{none_of}
use Rattle.home_laws.proofs.Unpins.{times}
use Rattle.home_laws.proofs.Rising.{any_times}
use Rattle.home_laws.proofs.Written.{times_written}

-- a private copy that is there counts
counted : (t : TxId) (p : ℕ) (xs : List PrivateCopy) → is_some (private_in xs t p) ≡ true → 1 ≤ length (filter (is_private t p) xs)
unfolding private_in
counted t p [] e = absurd (cc)
counted t p (x ∷ xs) e = of (is_private t p x) e (counted t p xs)
  where
    of : (b : Bool) → is_some (pick b (Some x) (private_in xs t p)) ≡ true → (is_some (private_in xs t p) ≡ true → 1 ≤ length (filter (is_private t p) xs)) → 1 ≤ length (cond b (x ∷ filter (is_private t p) xs) (filter (is_private t p) xs))
    of true e go = omega arith
    of false e go = go e

module _ (h : HomeState) (t : TxId) (home : IsHome h) (waits : pending_of h.txs t ≡ None) where
  -- it has a private copy, with content, of the pages that it holds exclusively
  pub private_lock : (p : ℕ) → has_private h.pool t p ≡ is_exclusive_lock (held_by h.txs t p)
  private_lock p = home.privates t p ∙ ap (λ w. is_exclusive_lock (held_by h.txs t p) || is_write_of w p) waits ∙ or_false (is_exclusive_lock (held_by h.txs t p))

  pub private_look : (p : ℕ) → has_private h.pool t p ≡ is_some (private_bytes h.pool t p)
  private_look p = private_lock p ∙ sym (home.filled t p)

  -- so often is a page written
  pub times_look : (p : ℕ) → times p (pages_written h t) ≡ one_if (is_some (private_bytes h.pool t p))
  times_look p = times_written t p h.pool.privates ∙ by (private_at h.pool t p) refl ∙ ap one_if (private_look p)
    where
      by : (o : Option PrivateCopy) → private_at h.pool t p ≡ o → length (filter (is_private t p) h.pool.privates) ≡ one_if (is_some (private_at h.pool t p))
      by None e = none_of h.pool.privates t p e ∙ sym (ap (λ x. one_if (is_some x)) e)
      by (Some x) e =
          let least = counted t p h.pool.privates (ap is_some e) in
          let most = home.buffer.one_private t p in
          let same : length (filter (is_private t p) h.pool.privates) ≡ 1 = omega (arith, least, most) in
          same ∙ sym (ap (λ y. one_if (is_some y)) e)

  pub written_look : (p : ℕ) → is_written h t p ≡ is_some (private_bytes h.pool t p)
  written_look p = any_times p (pages_written h t) (is_some (private_bytes h.pool t p)) (times_look p)
