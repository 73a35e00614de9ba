-- No writer waits after any change of an entry in which none did.
use Rattle.std.proofs.Common.{◌≡◌, ℕ, ◌&&◌, ◌||◌, not, Bool, true, false, List, Option, Some, None, refl, sym, ap, subst, ◌∙◌, inl, inr}
use Rattle.pcl_base.specs.declared.tx.TxId.{TxId}
use Rattle.pcl_base.specs.declared.tx.Mode.{Mode}
use Rattle.pcl_base.specs.declared.tx.Mode.TheVariants.{Exclusive}
use Rattle.pcl_base.specs.declared.lock.Holder.{Holder}
use Rattle.pcl_base.specs.declared.lock.Waiter.{Waiter}
use Rattle.pcl_base.specs.declared.lock.Decision.{Decision}
use Rattle.node_rules.specs.Words.{pick, same_tx, covers, among, flag_at, or_else}
use Rattle.node_rules.specs.LockRule.{LockEntry, mode_of, has_right, waits_in, ask, end_tx, returned, reported, reported_right, purge, settle}
use Rattle.page_protocol.specs.Authority.{with_shared}
use Rattle.rule_laws.proofs.Turns.{same_equal}
use Rattle.page_laws.specs.Entry.Decisions.{NoWriterWaits, Settles, rests, locks, gives, revokes}
use Rattle.page_laws.specs.Entry.Looks.{IsAsked, IsWithout, WritersWaitForNothing}
use Rattle.page_laws.proofs.EntryParts.Words.{same_tells}
use Rattle.page_laws.proofs.EntryParts.Decided.{settling_decides_law, locked_keeps, given_keeps, marked_keeps}
use Rattle.page_laws.proofs.EntryParts.Looked.{and_none, asking_is_seen_law, ending_is_seen_law, returning_is_seen_law, reported_lock, reported_too, purging_is_seen_law}

-- writers wait for nothing
settled_keeps : (owner : ℕ) (e : LockEntry) (ds : List Decision) (after : LockEntry) → Settles owner e ds after → NoWriterWaits e → NoWriterWaits after
settled_keeps owner e ds after (rests _) i = i
settled_keeps owner e ds after (locks _ middle _ t m have rest l s) i = settled_keeps owner middle rest after s (locked_keeps e middle t m have l i)
settled_keeps owner e ds after (gives _ middle _ t have rest l s) i = settled_keeps owner middle rest after s (given_keeps owner e middle t have l i)
settled_keeps owner e ds after (revokes _ middle _ n rest l s) i = settled_keeps owner middle rest after s (marked_keeps e middle n l i)

pub same_lists : (e later : LockEntry) → later.holders ≡ e.holders → later.waiting ≡ e.waiting → NoWriterWaits e → NoWriterWaits later
same_lists e later h w i t x =
    ap (λ (ws : List Waiter). waits_in ws t) w ∙ i t (subst (λ (hs : List Holder). mode_of hs t ≡ Some Exclusive) h x)

pub asked_keeps : (e : LockEntry) (w : Waiter) (later : LockEntry) → IsAsked e w later → NoWriterWaits e → NoWriterWaits later
asked_keeps e w later a i t x =
    let writer : mode_of e.holders t ≡ Some Exclusive = subst (λ (hs : List Holder). mode_of hs t ≡ Some Exclusive) a.holders x in
    a.waits t
    ∙ (ap (λ b. b || (same_tx w.tx t && not (covers (mode_of e.holders w.tx) w.mode))) (i t writer) ∙ not_pushed writer)
  where
    not_pushed : mode_of e.holders t ≡ Some Exclusive → same_tx w.tx t && not (covers (mode_of e.holders w.tx) w.mode) ≡ false
    not_pushed writer =
        elim (same_tells w.tx t) [
          | inl same ↦
              let covered : covers (mode_of e.holders w.tx) w.mode ≡ true = ap (λ (o : Option Mode). covers o w.mode) (ap (λ (u : TxId). mode_of e.holders u) same.1 ∙ writer) in
              ap (λ b. same_tx w.tx t && not b) covered ∙ and_none (same_tx w.tx t)
          | inr other ↦ ap (λ b. b && not (covers (mode_of e.holders w.tx) w.mode)) other.0
        ]

without_keeps : (e : LockEntry) (t : TxId) (later : LockEntry) → IsWithout e t later → NoWriterWaits e → NoWriterWaits later
without_keeps e t later a i u x =
    a.waits u ∙ (ap (λ b. not (same_tx t u) && b) (i u (still (same_tx t u) (sym (a.holders u) ∙ x))) ∙ and_none (not (same_tx t u)))
  where
    still : (b : Bool) → pick b None (mode_of e.holders u) ≡ Some Exclusive → mode_of e.holders u ≡ Some Exclusive
    still true q = absurd (cc)
    still false q = q

returned_keeps : (e : LockEntry) (n : ℕ) (readers : List TxId) → NoWriterWaits e → NoWriterWaits (returned e n readers)
returned_keeps e n readers i = by (has_right e.rights n) refl
  where
    still : (b : Bool) (o : Option Mode) → pick b (with_shared o) o ≡ Some Exclusive → o ≡ Some Exclusive
    still true None q = absurd (cc)
    still true (Some m) q = q
    still false o q = q

    by : (b : Bool) → has_right e.rights n ≡ b → NoWriterWaits (returned e n readers)
    by true q = λ t x.
        let r = (returning_is_seen_law e n readers).0 q in
        ap (λ (ws : List Waiter). waits_in ws t) r.waiting ∙ i t (still (among readers t) (mode_of e.holders t) (sym (r.holders t) ∙ x))
    by false q = subst (λ (y : LockEntry). NoWriterWaits y) (sym ((returning_is_seen_law e n readers).1 q)) i

reported_keeps : (e : LockEntry) (t : TxId) (m : Mode) → NoWriterWaits e → (m ≡ Exclusive → waits_in e.waiting t ≡ false) → NoWriterWaits (reported e t m)
reported_keeps e t m i f u x =
    let r = reported_lock e t m in
    ap (λ (ws : List Waiter). waits_in ws u) r.waiting ∙ by (mode_of e.holders u) refl (same_tx t u) refl (sym (r.holders u) ∙ x)
  where
    by : (o : Option Mode) → mode_of e.holders u ≡ o → (b : Bool) → same_tx t u ≡ b → or_else o (pick b (Some m) None) ≡ Some Exclusive → waits_in e.waiting u ≡ false
    by (Some k) q b s y = i u (q ∙ y)
    by None q true s y = let writes : m ≡ Exclusive = cc in subst (λ (v : TxId). waits_in e.waiting v ≡ false) (same_equal t u s) (f writes)
    by None q false s y = absurd (cc)

purged_keeps : (e : LockEntry) (live : List Bool) → NoWriterWaits e → NoWriterWaits (purge e live)
purged_keeps e live i t x =
    let r = purging_is_seen_law e live in
    r.waits t ∙ (ap (λ b. flag_at live t.node && b) (i t (still (flag_at live t.node) (sym (r.holders t) ∙ x))) ∙ and_none (flag_at live t.node))
  where
    still : (b : Bool) → pick b (mode_of e.holders t) None ≡ Some Exclusive → mode_of e.holders t ≡ Some Exclusive
    still true q = q
    still false q = absurd (cc)

pub writers_wait_for_nothing_law : WritersWaitForNothing
writers_wait_for_nothing_law e i =
    record {
      asked = λ w. asked_keeps e w (ask e w) (asking_is_seen_law e w) i;
      settled = λ owner. settled_keeps owner e (settle owner e).decisions (settle owner e).entry (settling_decides_law owner e i) i;
      ended = λ t change. without_keeps e t (end_tx e t change) ((ending_is_seen_law e t).looks change) i;
      back = λ n readers. returned_keeps e n readers i;
      lock = λ t m f. reported_keeps e t m i f;
      right = λ n. same_lists e (reported_right e n) (reported_too e n).holders (reported_too e n).waiting i;
      purged = λ live. purged_keeps e live i;
    }
