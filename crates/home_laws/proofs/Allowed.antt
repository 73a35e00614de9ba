-- What an access has that isn't refused.
use Rattle.std.proofs.Common.{◌≡◌, ℕ, ◌+◌, ◌<◌, ◌≤◌, not, nat_le, Bool, true, false, List, Option, Some, None, is_some, IfSome, refl, arith}
use Rattle.std.proofs.lemmas.Bool.Decides.{nat_tests}
use Rattle.pcl_base.specs.declared.reply.Reason.{Reason}
use Rattle.pcl_base.specs.declared.reply.Reason.TheVariants as reason
use Rattle.node_rules.specs.OpenTxs.{is_open, pending_of}
use Rattle.node_rules.specs.BufferRule.{need, fits, free_frames, can_go}
use Rattle.node_rules.specs.NodeState.{HomeState}
use Rattle.node_rules.specs.AccessRule.{Access}
use Rattle.node_rules.specs.Refusals.{refuse_if}
use Rattle.home_laws.specs.Homes.{IsWithin}
use Rattle.home_laws.specs.Refused.{access_refusal, is_bad_range}
use Rattle.home_laws.proofs.Tests.{not_false, none_there}

-- the transaction is open and doesn't wait, the page is one of the database, a write lies within it,
-- and there are frames
pub record MayAccess (a : Access) (h : HomeState) : Type 0 where
  pub there : is_open h.txs a.tx ≡ true
  pub idle : pending_of h.txs a.tx ≡ None
  pub page : a.page < h.config.pages
  pub inside : IfSome a.write (IsWithin h.config.size)
  pub fits : need h.pool a.tx a.page (is_some a.write) ≤ free_frames h.pool + can_go h.pool a.page

not_refused : (c : Bool) (r : Reason) (further : Option Reason) → refuse_if c r further ≡ None → (c ≡ false) × (further ≡ None)
not_refused true r further e = absurd (cc)
not_refused false r further e = (refl, e)

within : (size : ℕ) (write : Option (ℕ × List ℕ)) → is_bad_range size write ≡ false → IfSome write (IsWithin size)
within size None e = tt
within size (Some write) e = (grind (arith, nat_tests), grind (arith, nat_tests))

pub allowed : (a : Access) (h : HomeState) → access_refusal a h ≡ None → MayAccess a h
unfolding access_refusal fits
allowed a h none =
    let b = is_bad_range h.config.size a.write in
    let f = not (fits h.pool a.tx a.page (is_some a.write)) in
    let last = refuse_if f reason.NoFrame None in
    let range = refuse_if b reason.BadRange last in
    let page = refuse_if (nat_le h.config.pages a.page) reason.NoPage range in
    let first = not_refused (not (is_open h.txs a.tx)) reason.NoTx (refuse_if (is_some (pending_of h.txs a.tx)) reason.TxWaits page) none in
    let second = not_refused (is_some (pending_of h.txs a.tx)) reason.TxWaits page first.1 in
    let third = not_refused (nat_le h.config.pages a.page) reason.NoPage range second.1 in
    let fourth = not_refused b reason.BadRange last third.1 in
    let fifth = not_refused f reason.NoFrame None fourth.1 in
    let frames : fits h.pool a.tx a.page (is_some a.write) ≡ true = not_false (fits h.pool a.tx a.page (is_some a.write)) fifth.0 in
    let above = third.0 in
    record {
      there = not_false (is_open h.txs a.tx) first.0;
      idle = none_there (pending_of h.txs a.tx) second.0;
      page = grind (arith, nat_tests);
      inside = within h.config.size a.write fourth.0;
      fits = grind (arith, nat_tests);
    }
