-- Dirty copies are versions of their page; what a node writes back of them.
use Rattle.std.proofs.Common.{◌≡◌, ◌≢◌, inl, inr, refl, sym, ap, subst, ◌∙◌, ℕ, ◌≤◌, ◌==◌, ◌&&◌, nat_lt, Bool, true, false, List, [], ◌∷◌, ◌++◌, Option, Some, None, is_some, arith, eqb-true}
use Rattle.std.proofs.lemmas.Bool.Decides.{nat_tests}
use Rattle.text_rules.specs.StoredPage.{stored_bytes}
use Rattle.pcl_base.specs.declared.tx.TxId.{TxId}
use Rattle.node_rules.specs.AccessRule.{Access, on_pool, let_go, make_room, take_slot, take_private, pin_once, take_frames}
use Rattle.node_rules.specs.BufferRule as buffer
use Rattle.node_rules.specs.BufferRule.{Slot, Pool, copy_at, copy_of_slot, slot_in, has_slot, has_private, free_frames, victim, place, private, pin, clean, cleaned, evict}
use Rattle.node_rules.specs.DiskCalls.{DiskCall, WritePage, Force, TrimLog, CutLog}
use Rattle.node_rules.specs.NodeState.{NodeState}
use Rattle.node_rules.specs.OpenTxs.{held_by}
use Rattle.node_rules.specs.Words.{pick}
use Rattle.node_rules.specs.Work.{HomeWork, with_pool, write_page, write_copy, write_back}
use Rattle.cluster_rules.specs.Clusters.{Cluster, node_at}
use Rattle.home_laws.proofs.Taken.{pinned_copy}
use Rattle.page_laws.proofs.LookParts.Copies.{cleaning_is_seen_law}
use Rattle.page_laws.proofs.LookParts.Alike.{copy_left}
use Rattle.page_protocol.specs.Bytes.{Copy}
use Rattle.page_protocol.specs.Invariant.{Inv, SlotHas}
use Rattle.page_protocol.specs.State.{Page}
use Rattle.page_relation.specs.Looks.{copy_in, slot_of, slot_in as slot_in_node, dirty_of, dirty_in}
use Rattle.page_relation.specs.Relation.{IsPageOf}
use Rattle.page_relation.specs.Loss.Writes.{IsVersion, WritesRise, NoWrites, MayWrite, elsewhere, versions}

-- ---- further calls

pub none_more : (p q : ℕ) (bytes : List ℕ) (calls : List DiskCall) → q ≢ p → NoWrites p calls → NoWrites p (calls ++ WritePage q bytes ∷ [])
none_more p q bytes [] other none = (other, tt)
none_more p q bytes (WritePage k b ∷ calls) other none = (none.0, none_more p q bytes calls other none.1)
none_more p q bytes (Force t b ∷ calls) other none = none_more p q bytes calls other none
none_more p q bytes (TrimLog keep ∷ calls) other none = none_more p q bytes calls other none
none_more p q bytes (CutLog count ∷ calls) other none = none_more p q bytes calls other none

pub rise_more : (hist : ℕ → List ℕ) (top p low q : ℕ) (bytes : List ℕ) (calls : List DiskCall) → q ≢ p → WritesRise hist top p low calls → WritesRise hist top p low (calls ++ WritePage q bytes ∷ [])
rise_more hist top p low q bytes [] other rise = inl (other, tt)
rise_more hist top p low q bytes (WritePage k b ∷ calls) other (inl away) = inl (away.0, rise_more hist top p low q bytes calls other away.1)
rise_more hist top p low q bytes (WritePage k b ∷ calls) other (inr here) = inr (here.0, here.1, here.2, rise_more hist top p here.0 q bytes calls other here.3)
rise_more hist top p low q bytes (Force t b ∷ calls) other rise = rise_more hist top p low q bytes calls other rise
rise_more hist top p low q bytes (TrimLog keep ∷ calls) other rise = rise_more hist top p low q bytes calls other rise
rise_more hist top p low q bytes (CutLog count ∷ calls) other rise = rise_more hist top p low q bytes calls other rise

pub rise_first : (hist : ℕ → List ℕ) (top p low w : ℕ) (bytes : List ℕ) (calls : List DiskCall) → IsVersion hist top p low bytes w → NoWrites p calls → WritesRise hist top p low (calls ++ WritePage p bytes ∷ [])
rise_first hist top p low w bytes [] is none = inr (w, refl, is, tt)
rise_first hist top p low w bytes (WritePage k b ∷ calls) is none = inl (none.0, rise_first hist top p low w bytes calls is none.1)
rise_first hist top p low w bytes (Force t b ∷ calls) is none = rise_first hist top p low w bytes calls is none
rise_first hist top p low w bytes (TrimLog keep ∷ calls) is none = rise_first hist top p low w bytes calls is none
rise_first hist top p low w bytes (CutLog count ∷ calls) is none = rise_first hist top p low w bytes calls is none

-- ---- beginnings of calls

none_front : (p : ℕ) (xs ys : List DiskCall) → NoWrites p (xs ++ ys) → NoWrites p xs
none_front p [] ys none = tt
none_front p (WritePage q bytes ∷ xs) ys none = (none.0, none_front p xs ys none.1)
none_front p (Force t bytes ∷ xs) ys none = none_front p xs ys none
none_front p (TrimLog keep ∷ xs) ys none = none_front p xs ys none
none_front p (CutLog count ∷ xs) ys none = none_front p xs ys none

rise_front : (hist : ℕ → List ℕ) (top p low : ℕ) (xs ys : List DiskCall) → WritesRise hist top p low (xs ++ ys) → WritesRise hist top p low xs
rise_front hist top p low [] ys rise = tt
rise_front hist top p low (WritePage q bytes ∷ xs) ys (inl other) = inl (other.0, rise_front hist top p low xs ys other.1)
rise_front hist top p low (WritePage q bytes ∷ xs) ys (inr here) = inr (here.0, here.1, here.2, rise_front hist top p here.0 xs ys here.3)
rise_front hist top p low (Force t bytes ∷ xs) ys rise = rise_front hist top p low xs ys rise
rise_front hist top p low (TrimLog keep ∷ xs) ys rise = rise_front hist top p low xs ys rise
rise_front hist top p low (CutLog count ∷ xs) ys rise = rise_front hist top p low xs ys rise

pub may_front : (a : Page) (p n : ℕ) (xs ys : List DiskCall) → MayWrite a p n (xs ++ ys) → MayWrite a p n xs
may_front a p n xs ys (elsewhere none) = elsewhere (none_front p xs ys none)
may_front a p n xs ys (versions own rise) = versions own (rise_front a.hist a.now p a.disk.version xs ys rise)

-- ---- a dirty copy

-- the owner's copy, which is a version that the disk may get
pub record IsOurs (a : Page) (p n : ℕ) (x : buffer.Copy) : Type 0 where
  pub own : a.owner ≡ n
  pub version : IsVersion a.hist a.now p a.disk.version (stored_bytes p (record { version = x.version; bytes = x.bytes })) x.version

and_right_true : (x y : Bool) → (x && y) ≡ true → (x ≡ true) × (y ≡ true)
and_right_true true y e = (refl, e)
and_right_true false y e = absurd (cc)

pub dirty_is_ours : (blank : List ℕ) (c : Cluster) (n p : ℕ) (s : NodeState) (a : Page) (x : buffer.Copy) → Inv blank a → IsPageOf c p a → node_at c n ≡ Some s → copy_at s.home.pool p ≡ Some x → x.dirty ≡ true → IsOurs a p n x
unfolding slot_of dirty_of
dirty_is_ours blank c n p s a x inv r up at marked =
    record {
      own = sym here;
      version = record { least = newer (inv.kept_holds.dirty_new both.0); most = old; made = ap (λ (b : List ℕ). stored_bytes p (record { version = x.version; bytes = b })) same };
    }
  where
    both : (a.dirty ≡ true) × ((n == a.owner) ≡ true)
    both =
        and_right_true a.dirty (n == a.owner)
        (sym (r.copies.dirty_same n) ∙ ap (λ (o : Option NodeState). dirty_in o p) up ∙ ap (λ (o : Option buffer.Copy). buffer.is_dirty_copy o) at ∙ marked)

    here : n ≡ a.owner
    here = eqb-true n a.owner both.1

    there : a.slot n ≡ Some (record { version = x.version; bytes = x.bytes })
    there = sym (r.copies.slot_same n) ∙ ap (λ (o : Option NodeState). slot_in_node o p) up ∙ ap copy_in at

    old : x.version ≤ a.now
    old = (inv.stores_hold.slots_are n (record { version = x.version; bytes = x.bytes }) there).old

    same : x.bytes ≡ a.hist x.version
    same = (inv.stores_hold.slots_are n (record { version = x.version; bytes = x.bytes }) there).same

    newer : SlotHas (a.slot a.owner) a.disk.version → a.disk.version ≤ x.version
    newer has =
        let e : Some has.copy ≡ Some (record { version = x.version; bytes = x.bytes }) = sym has.there ∙ ap a.slot (sym here) ∙ there in
        let y : has.copy ≡ record { version = x.version; bytes = x.bytes } = cc in
        subst (λ (z : Copy). a.disk.version ≤ z.version) y has.enough

-- ---- the work of a home

-- What a home has done so far, for page p: it was not written, and a dirty copy of it is the owner's; or it was
-- written, and no copy of it is dirty.
pub data Safe (a : Page) (p n : ℕ) (w : HomeWork) : Type 0 where
  not_yet : NoWrites p w.calls → ((x : buffer.Copy) → copy_at w.home.pool p ≡ Some x → x.dirty ≡ true → IsOurs a p n x) → Safe a p n w
  once : a.owner ≡ n → WritesRise a.hist a.now p a.disk.version w.calls → ((x : buffer.Copy) → copy_at w.home.pool p ≡ Some x → x.dirty ≡ true → ⊥) → Safe a p n w

module _ (a : Page) (p n : ℕ) where
  pub safe_writes : (w : HomeWork) → Safe a p n w → MayWrite a p n w.calls
  safe_writes w (not_yet none ours) = elsewhere none
  safe_writes w (once own rise none) = versions (λ on. own) rise

  -- another pool, in which no copy of the page is dirty that wasn't
  pub safe_pool : (w : HomeWork) (b : Pool) → ((x : buffer.Copy) → copy_at b p ≡ Some x → x.dirty ≡ true → copy_at w.home.pool p ≡ Some x) → Safe a p n w → Safe a p n (record w { home = with_pool w.home b })
  safe_pool w b old (not_yet none ours) = not_yet none (λ x at marked. ours x (old x at marked) marked)
  safe_pool w b old (once own rise none) = once own rise (λ x at marked. none x (old x at marked) marked)

  -- a copy that was cleaned isn't dirty
  none_dirty : (o : Option buffer.Copy) (x : buffer.Copy) → cleaned o ≡ Some x → x.dirty ≡ true → ⊥
  none_dirty None x e marked = absurd (cc)
  none_dirty (Some y) x e marked =
      let same : record y { dirty = false } ≡ x = cc in
      let bad : false ≡ true = ap (λ (z : buffer.Copy). z.dirty) same ∙ marked in
      absurd (cc)

  -- where another page was cleaned, or this one
  cleaned_old : (w : HomeWork) (q : ℕ) (x : buffer.Copy) → copy_at (clean w.home.pool q) p ≡ Some x → x.dirty ≡ true → ((q == p) ≡ false) × (copy_at w.home.pool p ≡ Some x)
  cleaned_old w q x at marked = by (q == p) refl (sym ((cleaning_is_seen_law q w.home).copies p) ∙ at)
    where
      by : (b : Bool) → (q == p) ≡ b → pick b (cleaned (copy_at w.home.pool p)) (copy_at w.home.pool p) ≡ Some x → ((q == p) ≡ false) × (copy_at w.home.pool p ≡ Some x)
      by true e is = absurd (none_dirty (copy_at w.home.pool p) x is marked)
      by false e is = (e, is)

  -- a dirty copy is written, and is clean then
  written_safe : (w : HomeWork) (q : ℕ) (x : buffer.Copy) → copy_at w.home.pool q ≡ Some x → x.dirty ≡ true → Safe a p n w
      → Safe a p n (record (write_page q (record { version = x.version; bytes = x.bytes }) w) { home = with_pool w.home (clean w.home.pool q) })
  written_safe w q x at marked safe = by (q == p) refl safe
    where
      by : (b : Bool) → (q == p) ≡ b → Safe a p n w → Safe a p n (record (write_page q (record { version = x.version; bytes = x.bytes }) w) { home = with_pool w.home (clean w.home.pool q) })
      by true e (not_yet none ours) =
          let same : q ≡ p = eqb-true q p e in
          let mine : IsOurs a p n x = ours x (ap (copy_at w.home.pool) (sym same) ∙ at) marked in
          once mine.own
          (subst (λ (k : ℕ). WritesRise a.hist a.now p a.disk.version (w.calls ++ WritePage k (stored_bytes k (record { version = x.version; bytes = x.bytes })) ∷ [])) (sym same)
          (rise_first a.hist a.now p a.disk.version x.version (stored_bytes p (record { version = x.version; bytes = x.bytes })) w.calls mine.version none))
          (λ y found dirt. (let bad : true ≡ false = sym e ∙ (cleaned_old w q y found dirt).0 in absurd (cc)))
      by true e (once own rise none) = absurd (none x (ap (copy_at w.home.pool) (sym (eqb-true q p e)) ∙ at) marked)
      by false e (not_yet none ours) =
          not_yet (none_more p q (stored_bytes q (record { version = x.version; bytes = x.bytes })) w.calls (λ same. grind (arith, nat_tests, e, same)) none)
          (λ y found dirt. ours y (cleaned_old w q y found dirt).1 dirt)
      by false e (once own rise none) =
          once own (rise_more a.hist a.now p a.disk.version q (stored_bytes q (record { version = x.version; bytes = x.bytes })) w.calls (λ same. grind (arith, nat_tests, e, same)) rise)
          (λ y found dirt. none y (cleaned_old w q y found dirt).1 dirt)

  pub back_safe : (q : ℕ) (w : HomeWork) → Safe a p n w → Safe a p n (write_back q w)
  unfolding write_back
  back_safe q w safe = by (copy_at w.home.pool q) refl
    where
      marked : (b : Bool) (x : buffer.Copy) → x.dirty ≡ b → copy_at w.home.pool q ≡ Some x
          → Safe a p n (pick b (record (write_page q (record { version = x.version; bytes = x.bytes }) w) { home = with_pool w.home (clean w.home.pool q) }) w)
      marked true x e at = written_safe w q x at e safe
      marked false x e at = safe

      by : (o : Option buffer.Copy) → copy_at w.home.pool q ≡ o → Safe a p n (write_copy q o w)
      by None at = safe
      by (Some x) at = marked x.dirty x refl at

  evicted_safe : (q : ℕ) (w : HomeWork) → Safe a p n w → Safe a p n (on_pool (λ b. evict b q) w)
  unfolding evict
  evicted_safe q w safe = safe_pool w (evict w.home.pool q) (λ x at marked. by x (q == p) (sym (copy_left w.home.pool.slots q p) ∙ at)) safe
    where
      by : (x : buffer.Copy) (b : Bool) → pick b None (copy_of_slot (slot_in w.home.pool.slots p)) ≡ Some x → copy_at w.home.pool p ≡ Some x
      by x true is = absurd (cc)
      by x false is = is

  pub room_safe : (keep : ℕ) (w : HomeWork) → Safe a p n w → Safe a p n (make_room keep w)
  unfolding make_room
  room_safe keep w safe = by (nat_lt 0 (free_frames w.home.pool))
    where
      gone : (o : Option Slot) → Safe a p n (let_go o w)
      gone None = safe
      gone (Some s) = evicted_safe s.page (write_back s.page w) (back_safe s.page w safe)

      by : (x : Bool) → Safe a p n (pick x w (let_go (victim w.home.pool keep) w))
      by true = safe
      by false = gone (victim w.home.pool keep)

  pub placed_safe : (q : ℕ) (w : HomeWork) → Safe a p n w → Safe a p n (on_pool (λ b. place b q) w)
  unfolding place slot_in
  placed_safe q w safe = safe_pool w (place w.home.pool q) (λ x at marked. by x (q == p) at) safe
    where
      by : (x : buffer.Copy) (b : Bool) → copy_of_slot (pick b (Some (record { page = q; copy = None; pins = 0 })) (slot_in w.home.pool.slots p)) ≡ Some x → copy_at w.home.pool p ≡ Some x
      by x true is = absurd (cc)
      by x false is = is

  slot_safe : (q : ℕ) (w : HomeWork) → Safe a p n w → Safe a p n (take_slot q w)
  unfolding take_slot
  slot_safe q w safe = by (has_slot w.home.pool q)
    where
      by : (x : Bool) → Safe a p n (pick x w (on_pool (λ b. place b q) (make_room q w)))
      by true = safe
      by false = placed_safe q (make_room q w) (room_safe q w safe)

  private_safe : (t : TxId) (q : ℕ) (o : Option (ℕ × List ℕ)) (w : HomeWork) → Safe a p n w → Safe a p n (take_private t q o w)
  unfolding take_private private
  private_safe t q None w safe = safe
  private_safe t q (Some x) w safe = by (has_private w.home.pool t q)
    where
      by : (x : Bool) → Safe a p n (pick x w (on_pool (λ b. private b t q) (make_room q w)))
      by true = safe
      by false = safe_pool (make_room q w) (private (make_room q w).home.pool t q) (λ x at marked. at) (room_safe q w safe)

  pinned_safe : (t : TxId) (q : ℕ) (w : HomeWork) → Safe a p n w → Safe a p n (pin_once t q w)
  pinned_safe t q w safe = by (is_some (held_by w.home.txs t q))
    where
      by : (x : Bool) → Safe a p n (pick x w (on_pool (λ b. pin b q) w))
      by true = safe
      by false = safe_pool w (pin w.home.pool q) (λ x at marked. sym (pinned_copy w.home.pool q p) ∙ at) safe

  pub frames_safe : (x : Access) (w : HomeWork) → Safe a p n w → Safe a p n (take_frames x w)
  unfolding take_frames
  frames_safe x w safe = pinned_safe x.tx x.page _ (private_safe x.tx x.page x.write _ (slot_safe x.page w safe))
