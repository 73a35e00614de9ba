-- The steps of an end, one after the other: publishing, giving private copies up, and unpinning.
use Rattle.std.proofs.Common.{◌≡◌, ℕ, ◌<◌, ◌≤◌, ◌==◌, ◌&&◌, not, cond, Bool, true, false, List, [], ◌∷◌, length, map, Option, Some, None, is_some, IfSome, refl, ap, sym, subst, ◌∙◌, arith}
use Rattle.std.proofs.lemmas.Bool.Decides.{nat_tests}
use Rattle.std.specs.List.{filter, fold, AllByRecursion}
use Rattle.pcl_base.specs.declared.tx.TxId.{TxId}
use Rattle.node_rules.specs.Words.{pick, same_tx}
use Rattle.node_rules.specs.OpenTxs.{held_by, is_open}
use Rattle.node_rules.specs.BufferRule.{Pool, PrivateCopy, Slot, slot_at, has_slot, pinned, pinned_slot, copy_at, copy_of_slot, version_of_copy, is_private, private_in, private_at, private_bytes, bytes_of_private, publish, discard, unpin}
use Rattle.node_rules.specs.NodeState.{HomeState}
use Rattle.node_rules.specs.EndRule.{Ending, endings, ending, pages_written, pages_at_end, publish_all, discard_all, is_own_lock}
use Rattle.home_laws.specs.Homes.{IsHome, pins_of}
use Rattle.home_laws.specs.EndNeeds.{IsPublishable, MayPublish, MayUnpin}
use Rattle.home_laws.proofs.Words.{not_both, equal, self_test}
use Rattle.home_laws.proofs.Serials.{one_if}
use Rattle.home_laws.proofs.Slots.{slot_unchanged}
use Rattle.home_laws.proofs.Privates.{discarded}
use Rattle.home_laws.proofs.Pools.{pool_of_home}
use Rattle.home_laws.proofs.Unpins.{times, pins_once, once_unpinned}
use Rattle.home_laws.proofs.Closed.{Follows, times_at_end, users_closed}
use Rattle.home_laws.proofs.Publishes.{with_published, unpublished, follows_publishes}
use Rattle.home_laws.proofs.Written.{times_more, times_written}

-- another page is as before once one is published
copy_elsewhere : (b : Pool) (t : TxId) (p q : ℕ) (dirty : Bool) → (q == p) ≡ false → copy_at (publish b t p dirty) q ≡ copy_at b q
unfolding publish discard
copy_elsewhere b t p q dirty other = ap copy_of_slot (slot_unchanged (with_published dirty (private_bytes b t p)) (λ s. refl) b.slots p q other)

both_false : (a b : Bool) → b ≡ false → (a && b) ≡ false
both_false true b e = e
both_false false b e = refl

publishable_still : (t : TxId) (b : Pool) (p q : ℕ) (dirty : Bool) → (q == p) ≡ false → IsPublishable t b q → IsPublishable t (publish b t p dirty) q
publishable_still t b p q dirty other is =
    let private = unpublished b t t p q dirty (both_false (same_tx t t) (q == p) other) in
    let copy = copy_elsewhere b t p q dirty other in
    record {
      private = ap is_some private ∙ is.private;
      bytes = ap (λ o. is_some (bytes_of_private o)) private ∙ is.bytes;
      copy = ap is_some copy ∙ is.copy;
      below_last = subst (λ o. IfSome (version_of_copy o) (λ v. v < 18446744073709551615)) (sym copy) is.below_last;
    }

rest_publishable : (t : TxId) (b : Pool) (p : ℕ) (dirty : Bool) (ps : List ℕ) → times p ps ≡ 0 → AllByRecursion (IsPublishable t b) ps → AllByRecursion (IsPublishable t (publish b t p dirty)) ps
rest_publishable t b p dirty [] none all = tt
rest_publishable t b p dirty (q ∷ ps) none all =
    let count = times_more q p ps in
    let other = differs (q == p) (omega (arith, count, none)) in
    (publishable_still t b p q dirty other all.0, rest_publishable t b p dirty ps (omega (arith, count, none)) all.1)
  where
    differs : (c : Bool) → one_if c ≡ 0 → c ≡ false
    differs true zero = absurd (omega (arith, zero))
    differs false zero = refl

-- once the first page is published, the rest may be
pub may_publish_next : (t : TxId) (p : ℕ) (ps : List ℕ) (b : Pool) (dirty : Bool) → MayPublish t (p ∷ ps) b → MayPublish t ps (publish b t p dirty)
may_publish_next t p ps b dirty may = record { each = rest_publishable t b p dirty ps may.apart.0 may.each.1; apart = may.apart.1 }

pub may_publish_first : (t : TxId) (p : ℕ) (ps : List ℕ) (b : Pool) → MayPublish t (p ∷ ps) b → IsPublishable t b p
may_publish_first t p ps b may = may.each.0

-- a private copy that is given up is there no more, and one that was gone stays so
published_gone : (b : Pool) (t : TxId) (p : ℕ) (dirty : Bool) → private_at (publish b t p dirty) t p ≡ None
unfolding publish
published_gone b t p dirty = discarded _ t p

gone_publishes : (t : TxId) (g : ℕ → Bool) (ps : List ℕ) (b : Pool) (p : ℕ) → (is_some (private_at b t p) ≡ true → 1 ≤ times p ps) → private_at (fold (λ d q. publish d t q (g q)) b ps) t p ≡ None
gone_publishes t g [] b p there = none (private_at b t p) there
  where
    none : (o : Option PrivateCopy) → (is_some o ≡ true → 1 ≤ 0) → o ≡ None
    none None f = refl
    none (Some x) f = absurd (omega (arith, f refl))
gone_publishes t g (q ∷ ps) b p there = gone_publishes t g ps (publish b t q (g q)) p (later (p == q) refl)
  where
    later : (c : Bool) → (p == q) ≡ c → is_some (private_at (publish b t q (g q)) t p) ≡ true → 1 ≤ times p ps
    later true e some =
        let gone : private_at (publish b t q (g q)) t p ≡ None = subst (λ n. private_at (publish b t q (g q)) t n ≡ None) (sym (equal p q e)) (published_gone b t q (g q)) in
        absurd (not_both (is_some (private_at (publish b t q (g q)) t p)) some (ap is_some gone))
    later false e some =
        let same = unpublished b t t q p (g q) (both_false (same_tx t t) (p == q) e) in
        let before = there (ap is_some (sym same) ∙ some) in
        let count = times_more q p ps in
        let turned : (q == p) ≡ false = grind (arith, nat_tests) in
        let zero : one_if (q == p) ≡ 0 = ap one_if turned in
        omega (arith, before, count, zero)

-- where none is there, none is given up
none_kept : (t : TxId) (xs : List PrivateCopy) → ((p : ℕ) → private_in xs t p ≡ None) → filter (λ x. not (same_tx x.tx t)) xs ≡ xs
unfolding private_in
none_kept t [] none = refl
none_kept t (x ∷ xs) none = by_tx (same_tx x.tx t) refl (none_kept t xs (λ p. rest (is_private t p x) (private_in xs t p) (none p)))
  where
    rest : (b : Bool) (o : Option PrivateCopy) → pick b (Some x) o ≡ None → o ≡ None
    rest true o e = absurd (cc)
    rest false o e = e

    by_tx : (b : Bool) → same_tx x.tx t ≡ b → filter (λ y. not (same_tx y.tx t)) xs ≡ xs → cond (not b) (x ∷ filter (λ y. not (same_tx y.tx t)) xs) (filter (λ y. not (same_tx y.tx t)) xs) ≡ x ∷ xs
    by_tx true e same =
        let here : is_private t x.page x ≡ true = (λ i. e i && self_test x.page i) in
        let found : Some x ≡ None = sym (ap (λ b. pick b (Some x) (private_in xs t x.page)) here) ∙ none x.page in
        absurd (cc)
    by_tx false e same = ap (λ l. x ∷ l) same

pub nothing_discarded : (b : Pool) (t : TxId) → ((p : ℕ) → private_at b t p ≡ None) → discard_all b t ≡ b
nothing_discarded b t none = ap (λ (l : List PrivateCopy). let c : Pool = record b { privates = l } in c) (none_kept t b.privates none)

-- once all pages are published, no private copy of the transaction is left
counted : (t : TxId) (p : ℕ) (xs : List PrivateCopy) → is_some (private_in xs t p) ≡ true → 1 ≤ length (filter (is_private t p) xs)
unfolding private_in
counted t p [] e = absurd (cc)
counted t p (x ∷ xs) e = by_name (is_private t p x) e (counted t p xs)
  where
    by_name : (b : Bool) → is_some (pick b (Some x) (private_in xs t p)) ≡ true → (is_some (private_in xs t p) ≡ true → 1 ≤ length (filter (is_private t p) xs)) → 1 ≤ length (cond b (x ∷ filter (is_private t p) xs) (filter (is_private t p) xs))
    by_name true e rest = omega arith
    by_name false e rest = rest e

pub all_published : (h : HomeState) (t : TxId) (p : ℕ) → private_at (publish_all h t) t p ≡ None
all_published h t p =
    gone_publishes t (λ q. is_own_lock (held_by h.txs t q)) (pages_written h t) h.pool p
    (λ some. let count = times_written t p h.pool.privates in let one = counted t p h.pool.privates some in omega (arith, count, one))

pub nothing_left : (h : HomeState) (t : TxId) → discard_all (publish_all h t) t ≡ publish_all h t
nothing_left h t = nothing_discarded (publish_all h t) t (all_published h t)

-- the buffer after all that has the pins and the copies of before
pub publish_all_follows : (h : HomeState) (t : TxId) → IsHome h → Follows h.config t h.pool (publish_all h t)
publish_all_follows h t is =
    follows_publishes h.config h.pool t (λ p. is_own_lock (held_by h.txs t p)) (pages_written h t) h.pool
    (record { is = pool_of_home h is; pins = λ p. refl; copies = λ p some. some; privates = λ u p other. refl })

-- the pages at which an end is told
pub ending_pages : (h : HomeState) (t : TxId) (commits : Bool) → map (λ (e : Ending). e.page) (endings h t commits) ≡ pages_at_end h t
unfolding endings
ending_pages h t commits = each (pages_at_end h t)
  where
    each : (ps : List ℕ) → map (λ (e : Ending). e.page) (map (ending h t commits) ps) ≡ ps
    each [] = refl
    each (p ∷ ps) = ap (λ l. p ∷ l) (each ps)

-- each of them has a pin for it
pub pages_pinned : (h : HomeState) (t : TxId) (p : ℕ) → IsHome h → is_open h.txs t ≡ true → times p (pages_at_end h t) ≤ pins_of (slot_at h.pool p)
pages_pinned h t p is there =
    let count = times_at_end h t p is in
    let users = users_closed h t p is there in
    let pins = is.pins p in
    omega (arith, count, users, pins)

-- so unpinning may begin, before or after publishing
pub may_unpin_start : (h : HomeState) (t : TxId) → IsHome h → is_open h.txs t ≡ true → MayUnpin (pages_at_end h t) h.pool
may_unpin_start h t is there = record { one_slot = is.buffer.one_slot; pins = λ p. pages_pinned h t p is there }

pub may_unpin_published : (h : HomeState) (t : TxId) → IsHome h → is_open h.txs t ≡ true → MayUnpin (pages_at_end h t) (publish_all h t)
may_unpin_published h t is there =
    let f = publish_all_follows h t is in
    record { one_slot = f.is.buffer.one_slot; pins = λ p. let same = f.pins p in let pinned = pages_pinned h t p is there in omega (arith, same, pinned) }

-- the slot of the first page is there and has a pin
pub may_unpin_first : (p : ℕ) (ps : List ℕ) (b : Pool) → MayUnpin (p ∷ ps) b → (has_slot b p ≡ true) × (pinned b p ≡ true)
may_unpin_first p ps b may =
    let count = times_more p p ps in
    let self : one_if (p == p) ≡ 1 = ap one_if (self_test p) in
    of_slot (slot_at b p) (omega (arith, count, self, may.pins p))
  where
    of_slot : (o : Option Slot) → 1 ≤ pins_of o → (is_some o ≡ true) × (pinned_slot o ≡ true)
    of_slot None l = absurd (omega (arith, l))
    of_slot (Some s) l = let some : (s.pins == 0) ≡ false = grind (arith, nat_tests) in (refl, ap not some)

-- once it has one pin less, the rest may be unpinned
pub may_unpin_next : (p : ℕ) (ps : List ℕ) (b : Pool) → MayUnpin (p ∷ ps) b → MayUnpin ps (unpin b p)
may_unpin_next p ps b may =
    record {
      one_slot = λ q. once_unpinned b p q (may.one_slot q);
      pins = λ q. let left = pins_once b p q (may.one_slot q) in let count = times_more p q ps in let before = may.pins q in omega (arith, left, count, before);
    }
