-- What a home gives to the steps of a grant that is waited for.
use Rattle.std.proofs.Common.{◌≡◌, ℕ, ◌<◌, ◌==◌, ◌&&◌, true, List, Option, Some, None, is_some, IfSome, refl, ap, sym, subst, ◌∙◌}
use Rattle.pcl_base.specs.declared.tx.TxId.{TxId}
use Rattle.pcl_base.specs.declared.lock.Held.{Held}
use Rattle.node_rules.specs.OpenTxs.{is_open, held_by, pending_of, waits_on, waits_as}
use Rattle.node_rules.specs.BufferRule.{Pool, copy_at, has_slot, private_in}
use Rattle.node_rules.specs.NodeState.{HomeState, runs_at}
use Rattle.node_rules.specs.Work.{with_pool}
use Rattle.home_laws.specs.Homes.{IsHome, IsWithin, is_exclusive_lock, is_write_of}
use Rattle.home_laws.specs.AccessNeeds.{MayDo}
use Rattle.home_laws.proofs.Tests.{number_same}
use Rattle.home_laws.proofs.Runs.{written_runs}
use Rattle.home_laws.proofs.Granted.{IsAwaited, awaited, slot_there, there}
use Rattle.home_laws.proofs.Needs.{waiting_private}

-- a grant of what a transaction waits for
module _ (h : HomeState) (t : TxId) (l : Held) (home : IsHome h) (waits : waits_as (pending_of h.txs t) l.page l.mode ≡ true) where
  granted_is : IsAwaited h t l
  granted_is = awaited h t l home waits

  pub granted_page : l.page < h.config.pages
  granted_page = subst (λ n. n < h.config.pages) granted_is.page granted_is.may.page

  pub granted_slot : has_slot h.pool l.page ≡ true
  granted_slot = slot_there h t l home granted_is

  pub granted_open : is_open h.txs t ≡ true
  granted_open = there h t l home granted_is

  pub granted_waits : waits_on (pending_of h.txs t) l.page ≡ true
  granted_waits = ap (λ o. waits_on o l.page) granted_is.waits ∙ ap (λ n. n == l.page) granted_is.page ∙ number_same l.page

  -- its write, once the page has a copy
  pub granted_may_do : (b : Pool) → is_some (copy_at b l.page) ≡ true → b.size ≡ h.config.size → b.privates ≡ h.pool.privates
      → IfSome (pending_of h.txs t) (λ w. MayDo t l.page w.write (with_pool h b))
  granted_may_do b copy size same = subst (λ o. IfSome o (λ w. MayDo t l.page w.write (with_pool h b))) (sym granted_is.waits) (by granted_is.access.write refl)
    where
      by : (write : Option (ℕ × List ℕ)) → granted_is.access.write ≡ write → MayDo t l.page write (with_pool h b)
      by None e = copy
      by (Some write) e =
          let within : IsWithin h.config.size write = subst (λ o. IfSome o (IsWithin h.config.size)) e granted_is.may.inside in
          let writes : is_write_of (pending_of h.txs t) l.page ≡ true =
          ap (λ o. is_write_of o l.page) granted_is.waits ∙ ap (λ n. n == l.page && is_some granted_is.access.write) granted_is.page ∙ ap (λ d. d && is_some granted_is.access.write) (number_same l.page) ∙ ap is_some e in
          record {
            copy = copy;
            private = ap (λ xs. is_some (private_in xs t l.page)) same ∙ waiting_private h t l.page home writes;
            some = within.0;
            inside = within.1;
            size = size;
            runs = written_runs h.config.size (is_exclusive_lock (held_by h.txs t l.page)) (runs_at h.written t l.page) (home.runs t l.page);
          }
