-- What the machine knows of a grant that is taken: it is of the current version, and so is the entry.
use Rattle.std.proofs.Common.{inl, inr, ◌⊎◌, ◌≡◌, sym, subst, ◌∙◌, ℕ, ◌≤◌, true, List, Option, Some, None, arith}
use Rattle.pcl_base.specs.declared.tx.Mode.{Mode}
use Rattle.pcl_base.specs.declared.tx.TxId.{TxId}
use Rattle.page_protocol.specs.Bytes.{Copy}
use Rattle.page_protocol.specs.Homes.{Takes, Waits}
use Rattle.page_protocol.specs.Invariant.{Counts, Covers, Inv, Lags, RightOk, SlotHas}
use Rattle.page_protocol.specs.State.{In, Flying, Lives, NoRight, Page, Sent, current}
use Rattle.page_protocol.specs.Steps.{Reached}
use Rattle.page_protocol.proofs.Keeps.{reached_holds}
use Rattle.page_protocol.proofs.KeepsHomes.{copy_is, lives_not_past, waits_lives}

covers_none : (l : Option Mode) (m : Mode) → l ≡ None → Covers l m → ⊥
covers_none None m e is = is
covers_none (Some k) m e is = absurd (cc)

module _ (blank : List ℕ) (a : Page) (reached : Reached blank a) where
  i : Inv blank a
  i = reached_holds blank a reached

  -- a copy of the current version is the current page
  pub slot_current : (n : ℕ) (x : Copy) → a.slot n ≡ Some x → x.version ≡ a.now → x ≡ current a
  slot_current n x there same = copy_is a.now a.hist x (i.stores_hold.slots_are n x there) (omega (arith, same))

  -- and the page on disk is, where it has that version
  pub disk_current : a.disk.version ≡ a.now → a.disk ≡ current a
  disk_current same = copy_is a.now a.hist a.disk i.stores_hold.disk_is (omega (arith, same))

  -- the owner's dirty copy is the current page, where the entry has the current version
  pub dirty_current : (a.served ≡ true → a.entry ≡ a.now) → a.dirty ≡ true → (x : Copy) → a.slot a.owner ≡ Some x → x ≡ current a
  dirty_current entry on x there = by (i.kept_holds.in_reach served)
    where
      served : a.served ≡ true
      served = i.kept_holds.dirty_served on

      enough : (v : ℕ) → SlotHas (a.slot a.owner) v → v ≤ x.version
      enough v has = let same : has.copy ≡ x = (let one = has.there in cc) in subst (λ (y : Copy). v ≤ y.version) same has.enough

      now_is : a.now ≤ x.version → x ≡ current a
      now_is low = copy_is a.now a.hist x (i.stores_hold.slots_are a.owner x there) low

      by : (a.entry ≤ a.disk.version) ⊎ ((a.dirty ≡ true) × SlotHas (a.slot a.owner) a.entry) → x ≡ current a
      by (inl low) =
          let is = entry served in
          let most = enough a.disk.version (i.kept_holds.dirty_new on) in
          now_is (omega (arith, is, low, most))
      by (inr has) =
          let is = entry served in
          let most = enough a.entry has.1 in
          now_is (omega (arith, is, most))

  -- a grant without a right
  module _ (g : Sent) (sent : In g a.sent) (takes : Takes a g.tx.node) (waits : Waits (a.home g.tx) g.mode) where
    pub counts : Counts g.mode g.version g.word (a.listed g.tx a.era) (a.slot g.tx.node) a.disk (current a)
    counts = i.grants_hold.grants g sent (omega (arith, takes)) (waits_lives (a.home g.tx) g.mode waits)

    pub granted_entry : a.served ≡ true → a.entry ≡ a.now
    granted_entry served = by (i.entry_holds.version served)
      where
        lags : (l : Lags a.era a.now a.entry a.log a.listed a.home) → (a.listed g.tx a.era ≡ None) ⊎ (g.tx ≡ l.writer) → a.entry ≡ a.now
        lags l (inl none) = absurd (covers_none (a.listed g.tx a.era) g.mode none counts.covered)
        lags l (inr same) =
            let past = l.is_past in
            absurd (lives_not_past (a.home l.writer) (subst (λ (t : TxId). Lives (a.home t)) same (waits_lives (a.home g.tx) g.mode waits)) past)

        by : (a.entry ≡ a.now) ⊎ Lags a.era a.now a.entry a.log a.listed a.home → a.entry ≡ a.now
        by (inl same) = same
        by (inr l) = lags l (i.locks_hold.exclusive l.writer g.tx l.holds)

  -- a right on its way
  module _ (n : ℕ) (g : Sent) (flying : a.right n ≡ Flying g) where
    pub right_ok : RightOk a.era (a.slot n) a.disk (current a) (a.reached n) a.home n (Flying g)
    right_ok = subst (RightOk a.era (a.slot n) a.disk (current a) (a.reached n) a.home n) flying (i.grants_hold.rights n)

    pub flying_entry : a.served ≡ true → a.entry ≡ a.now
    flying_entry served = by (i.entry_holds.version served)
      where
        by : (a.entry ≡ a.now) ⊎ Lags a.era a.now a.entry a.log a.listed a.home → a.entry ≡ a.now
        by (inl same) = same
        by (inr l) = let bad : Flying g ≡ NoRight = sym flying ∙ i.locks_hold.no_rights l.writer n l.holds in absurd (cc)
