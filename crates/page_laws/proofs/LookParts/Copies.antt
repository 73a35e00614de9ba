-- Copies that become clean, are written back, or leave, and the frames of an access.
use Rattle.std.proofs.Common.{◌≡◌, ℕ, ◌==◌, ◌||◌, not, nat_lt, Bool, true, false, List, [], ◌∷◌, slice_set, Option, Some, None, is_some, refl, sym, ap, subst, ◌∙◌, arith}
use Rattle.std.specs.Prelude.{option_map}
use Rattle.std.proofs.lemmas.Bool.Decides.{nat_tests}
use Rattle.pcl_base.specs.declared.tx.TxId.{TxId}
use Rattle.text_rules.specs.StoredPage.{stored_bytes}
use Rattle.node_rules.specs.Words.{pick, or_else}
use Rattle.node_rules.specs.OpenTxs.{held_by, waits_on}
use Rattle.node_rules.specs.BufferRule.{Slot, Copy, PrivateCopy, slot_in, slot_at, copy_at, copy_of_slot, has_slot, has_private, private_in, private_bytes, bytes_of_private, is_dirty_copy, dirty, is_pinned, cleaned, clean, evict, free_frames, one_unless, is_private, victim, place, private, pin}
use Rattle.node_rules.specs.NodeState.{HomeState}
use Rattle.node_rules.specs.Work.{HomeWork, with_pool, write_back, write_copy, write_page}
use Rattle.node_rules.specs.AccessRule.{on_pool, let_go, make_room, take_slot, take_private, pin_once, take_frames}
use Rattle.buffer_pool.specs.Buffer.{IsBuffer}
use Rattle.home_laws.specs.Homes.{pins_of, users}
use Rattle.home_laws.proofs.Tests.{number_equal, number_turned, not_true, and_left, and_right, none_there}
use Rattle.home_laws.proofs.Users.{users_least}
use Rattle.home_laws.proofs.Kept.{with_clean}
use Rattle.home_laws.proofs.SlotLooks.{goes_may, goes_there}
use Rattle.home_laws.proofs.PrivateLooks.{unfilled, appended}
use Rattle.home_laws.proofs.Frames.{slot_taken, slot_home}
use Rattle.home_laws.proofs.Room.{room_home, roomy_is}
use Rattle.home_laws.proofs.Allowed.{MayAccess, allowed}
use Rattle.home_laws.proofs.Taken.{with_slot, pinned_copy}
use Rattle.page_laws.specs.Look.Parts.{SameBesideCopies}
use Rattle.page_laws.specs.Look.Buffers.{IsCleaned, CleaningIsSeen, stored_copy, IsWrittenBack, WritingBackIsSeen, HasLeft, LeavingIsSeen, is_used_by, IsAlike, LetsGo, all, one, FramesAreSeen}
use Rattle.page_laws.proofs.LookParts.Alike.{beside_self, beside_then, beside_pool, alike_self, alike_then, copy_changed, copy_left}

-- clean copies
cleaned_copy : (o : Option Slot) → copy_of_slot (option_map with_clean o) ≡ cleaned (copy_of_slot o)
cleaned_copy None = refl
cleaned_copy (Some s) = refl

pub cleaning_is_seen_law : CleaningIsSeen
unfolding clean
cleaning_is_seen_law p h =
    record {
      rest = beside_pool h (clean h.pool p) (λ u q. refl);
      copies = λ q. copy_changed with_clean cleaned (λ s. refl) cleaned_copy h.pool.slots p q;
    }

-- a copy that is written back
unchanged : (p : ℕ) (h : HomeState) → dirty h.pool p ≡ false → IsCleaned p h h
unchanged p h e = record { rest = beside_self h; copies = λ q. by q (p == q) refl }
  where
    already : (o : Option Copy) → is_dirty_copy o ≡ false → o ≡ cleaned o
    already None d = refl
    already (Some c) d = (λ i. Some (record c { dirty = d i }))

    by : (q : ℕ) (b : Bool) → (p == q) ≡ b → copy_at h.pool q ≡ pick b (cleaned (copy_at h.pool q)) (copy_at h.pool q)
    by q true f = already (copy_at h.pool q) (subst (λ n. dirty h.pool n ≡ false) (number_equal p q f) e)
    by q false f = refl

pub writing_back_is_seen_law : WritingBackIsSeen
unfolding write_back
writing_back_is_seen_law p w = by (copy_at w.home.pool p) refl
  where
    absent : dirty w.home.pool p ≡ false → IsWrittenBack p w w
    absent e =
        record {
          home = unchanged p w.home e;
          stored = record { written = λ c f d. let bad : is_dirty_copy (Some c) ≡ false = ap is_dirty_copy (sym f) ∙ e in absurd (cc); unwritten = λ f. refl };
        }

    of : (c : Copy) → copy_at w.home.pool p ≡ Some c → (d : Bool) → c.dirty ≡ d
        → IsWrittenBack p w (pick d (record (write_page p (stored_copy c) w) { home = with_pool w.home (clean w.home.pool p) }) w)
    of c f true d =
        record {
          home = cleaning_is_seen_law p w.home;
          stored =
              record {
                written = λ k g e. let same : c ≡ k = some_same c k (sym f ∙ g) in ap (λ (x : Copy). slice_set w.pages p (stored_bytes p (stored_copy x))) same;
                unwritten = λ e. let bad : c.dirty ≡ false = sym (ap is_dirty_copy f) ∙ e in absurd (cc);
              };
        }
      where
        some_same : (x y : Copy) → Some x ≡ Some y → x ≡ y
        some_same x y e = cc
    of c f false d = absent (ap is_dirty_copy f ∙ d)

    by : (o : Option Copy) → copy_at w.home.pool p ≡ o → IsWrittenBack p w (write_copy p o w)
    by None e = absent (ap is_dirty_copy e)
    by (Some c) e = of c e c.dirty refl

-- a copy that leaves
pub leaving_is_seen_law : LeavingIsSeen
unfolding evict
leaving_is_seen_law p w =
    let back = writing_back_is_seen_law p w in
    record {
      rest = beside_then w.home (write_back p w).home (on_pool (λ b. evict b p) (write_back p w)).home back.home.rest (beside_pool (write_back p w).home (evict (write_back p w).home.pool p) (λ u q. refl));
      copies = λ q. copy_left (write_back p w).home.pool.slots p q ∙ (ap (λ o. pick (p == q) None o) (back.home.copies q) ∙ by (p == q) (cleaned (copy_at w.home.pool q)) (copy_at w.home.pool q));
      stored = record { written = back.stored.written; unwritten = back.stored.unwritten };
    }
  where
    by : (b : Bool) (x y : Option Copy) → pick b None (pick b x y) ≡ pick b None y
    by true x y = refl
    by false x y = refl

-- one after the other
left_after : (q : ℕ) (w m x : HomeWork) → IsAlike w m → HasLeft q m x → HasLeft q w x
left_after q w m x a l =
    record {
      rest = beside_then w.home m.home x.home a.rest l.rest;
      copies = λ r. l.copies r ∙ ap (λ o. pick (q == r) None o) (a.copies r);
      stored =
          record {
            written = λ c e d. l.stored.written c (a.copies q ∙ e) d ∙ ap (λ ps. slice_set ps q (stored_bytes q (stored_copy c))) a.pages;
            unwritten = λ e. l.stored.unwritten (ap is_dirty_copy (a.copies q) ∙ e) ∙ a.pages;
          };
    }

same_uses : (w x : HomeWork) (q : ℕ) (u : TxId) → SameBesideCopies w.home x.home → is_used_by x.home.txs q u ≡ is_used_by w.home.txs q u
same_uses w x q u s = (λ i. is_some (s.locks.held u q i) || waits_on (s.locks.waits u i) q)

lets_after : (p : ℕ) (w m x : HomeWork) → IsAlike w m → LetsGo p m x → LetsGo p w x
lets_after p w m x a (all _ _ b) = all w x (alike_then w m x a b)
lets_after p w m x a (one _ k _ q apart unused left rest) =
    one w k x q apart (λ u. sym (same_uses w m q u a.rest) ∙ unused u) (left_after q w m k a left) rest

pub lets_then : (p : ℕ) (w m x : HomeWork) → LetsGo p w m → LetsGo p m x → LetsGo p w x
lets_then p w m x (all _ _ a) s = lets_after p w m x a s
lets_then p w m x (one _ k _ q apart unused left rest) s = one w k x q apart unused left (lets_then p k m x rest s)

-- room for a frame
pub room_is_seen : (p : ℕ) (w : HomeWork) → IsBuffer w.home.pool → ((q : ℕ) → (p == q) ≡ false → pins_of (slot_at w.home.pool q) ≡ users w.home.txs q) → LetsGo p w (make_room p w)
unfolding make_room
room_is_seen p w sound pins = by (nat_lt 0 (free_frames w.home.pool))
  where
    of : (o : Option Slot) → victim w.home.pool p ≡ o → LetsGo p w (let_go o w)
    of None e = all w w (alike_self w)
    of (Some s) e =
        let may = goes_may w.home.pool.slots p s e in
        let there = goes_there w.home.pool.slots p s sound.one_slot e in
        let apart : (s.page == p) ≡ false = not_true (s.page == p) (and_left (not (s.page == p)) (not (is_pinned s)) may) in
        let other : (p == s.page) ≡ false = number_turned s.page p apart in
        let free : not (is_pinned s) ≡ true = and_right (not (s.page == p)) (not (is_pinned s)) may in
        let none : s.pins ≡ 0 = grind (arith, nat_tests) in
        let nobody : users w.home.txs s.page ≡ 0 = sym (pins s.page other) ∙ (ap pins_of there ∙ none) in
        let x : HomeWork = on_pool (λ b. evict b s.page) (write_back s.page w) in
        one w x x s.page other (λ u. unused u nobody) (leaving_is_seen_law s.page w) (all x x (alike_self x))
      where
        unused : (u : TxId) → users w.home.txs s.page ≡ 0 → is_used_by w.home.txs s.page u ≡ false
        unused u nobody = by_use (is_used_by w.home.txs s.page u) refl
          where
            by_use : (b : Bool) → is_used_by w.home.txs s.page u ≡ b → b ≡ false
            by_use false f = refl
            by_use true f = let some = users_least w.home.txs u s.page f in absurd (omega (arith, some, nobody))

    by : (b : Bool) → LetsGo p w (pick b w (let_go (victim w.home.pool p) w))
    by true = all w w (alike_self w)
    by false = of (victim w.home.pool p) refl

-- the slot of the page
slot_is_seen : (p : ℕ) (w : HomeWork) → IsBuffer w.home.pool → ((q : ℕ) → (p == q) ≡ false → pins_of (slot_at w.home.pool q) ≡ users w.home.txs q)
    → (has_slot w.home.pool p ≡ false → slot_at (make_room p w).home.pool p ≡ slot_at w.home.pool p) → LetsGo p w (take_slot p w)
unfolding take_slot place slot_in
slot_is_seen p w sound pins same = by (has_slot w.home.pool p) refl
  where
    x : HomeWork
    x = make_room p w

    placed : slot_at x.home.pool p ≡ None → IsAlike x (on_pool (λ b. place b p) x)
    placed none =
        record {
          rest = beside_pool x.home (place x.home.pool p) (λ u q. refl);
          copies = λ q. of q (p == q) refl;
          pages = refl;
        }
      where
        of : (q : ℕ) (b : Bool) → (p == q) ≡ b → copy_of_slot (pick b (Some (record { page = p; copy = None; pins = 0 })) (slot_in x.home.pool.slots q)) ≡ copy_at x.home.pool q
        of q true e = sym (subst (λ n. copy_at x.home.pool n ≡ None) (number_equal p q e) (ap copy_of_slot none))
        of q false e = refl

    by : (b : Bool) → has_slot w.home.pool p ≡ b → LetsGo p w (pick b w (on_pool (λ b. place b p) x))
    by true e = all w w (alike_self w)
    by false e =
        let none : slot_at x.home.pool p ≡ None = same e ∙ none_there (slot_at w.home.pool p) e in
        lets_then p w x (on_pool (λ b. place b p) x) (room_is_seen p w sound pins) (all x (on_pool (λ b. place b p) x) (placed none))

-- the private copy of a write
private_is_seen : (t : TxId) (p : ℕ) (write : Option (ℕ × List ℕ)) (w : HomeWork) → IsBuffer w.home.pool → ((q : ℕ) → (p == q) ≡ false → pins_of (slot_at w.home.pool q) ≡ users w.home.txs q)
    → LetsGo p w (take_private t p write w)
unfolding take_private private private_in
private_is_seen t p None w sound pins = all w w (alike_self w)
private_is_seen t p (Some write) w sound pins = by (has_private w.home.pool t p)
  where
    x : HomeWork
    x = make_room p w

    bytes : (u : TxId) (q : ℕ) → private_bytes (private x.home.pool t p) u q ≡ private_bytes x.home.pool u q
    bytes u q = ap bytes_of_private (appended x.home.pool.privates (unfilled t p ∷ []) u q) ∙ of (private_in x.home.pool.privates u q) (is_private u q (unfilled t p))
      where
        of : (o : Option PrivateCopy) (b : Bool) → bytes_of_private (or_else o (pick b (Some (unfilled t p)) None)) ≡ bytes_of_private o
        of None true = refl
        of None false = refl
        of (Some y) b = refl

    by : (b : Bool) → LetsGo p w (pick b w (on_pool (λ b. private b t p) x))
    by true = all w w (alike_self w)
    by false =
        lets_then p w x (on_pool (λ b. private b t p) x) (room_is_seen p w sound pins)
        (all x (on_pool (λ b. private b t p) x) (record { rest = beside_pool x.home (private x.home.pool t p) bytes; copies = λ q. refl; pages = refl }))

-- the pin
pin_is_seen : (t : TxId) (p : ℕ) (w : HomeWork) → IsAlike w (pin_once t p w)
unfolding pin
pin_is_seen t p w = by (is_some (held_by w.home.txs t p))
  where
    by : (b : Bool) → IsAlike w (pick b w (on_pool (λ b. pin b p) w))
    by true = alike_self w
    by false = record { rest = beside_pool w.home (pin w.home.pool p) (λ u q. refl); copies = λ q. pinned_copy w.home.pool p q; pages = refl }

pub frames_are_seen_law : FramesAreSeen
unfolding take_frames
frames_are_seen_law a w is fine =
    let may = allowed a w.home fine in
    let p : ℕ = a.page in
    let x : HomeWork = take_slot p w in
    let y : HomeWork = take_private a.tx p a.write x in
    let taken = with_slot a w.home is may in
    let home : x.home ≡ with_pool w.home (slot_taken w.home.pool p) = slot_home p w in
    let sound : IsBuffer x.home.pool = subst (λ (h : HomeState). IsBuffer h.pool) (sym home) taken.framed.buffer in
    let pins : (q : ℕ) → (p == q) ≡ false → pins_of (slot_at x.home.pool q) ≡ users x.home.txs q =
    (λ q other. subst (λ (h : HomeState). pins_of (slot_at h.pool q) ≡ users h.txs q) (sym home) (taken.framed.pins q ∙ is.pins q)) in
    lets_then p w x (pin_once a.tx p y) (slot_is_seen p w is.buffer (λ q other. is.pins q) (kept may))
    (lets_then p x y (pin_once a.tx p y) (private_is_seen a.tx p a.write x sound pins) (all y (pin_once a.tx p y) (pin_is_seen a.tx p y)))
  where
    kept : MayAccess a w.home → has_slot w.home.pool a.page ≡ false → slot_at (make_room a.page w).home.pool a.page ≡ slot_at w.home.pool a.page
    kept may none =
        let fits = may.fits in
        let first : one_unless (has_slot w.home.pool a.page) ≡ 1 = ap one_unless none in
        ap (λ (h : HomeState). slot_at h.pool a.page) (room_home a.page w) ∙ (roomy_is a.page w.home.pool is.buffer (omega (arith, fits, first))).page

-- what is seen after copies were let go
pub lets_beside : (p : ℕ) (w x : HomeWork) → LetsGo p w x → SameBesideCopies w.home x.home
lets_beside p w x (all _ _ a) = a.rest
lets_beside p w x (one _ m _ q apart unused left rest) = beside_then w.home m.home x.home left.rest (lets_beside p m x rest)

pub lets_copy : (p : ℕ) (w x : HomeWork) → LetsGo p w x → copy_at x.home.pool p ≡ copy_at w.home.pool p
lets_copy p w x (all _ _ a) = a.copies p
lets_copy p w x (one _ m _ q apart unused left rest) =
    lets_copy p m x rest ∙ (left.copies p ∙ ap (λ b. pick b None (copy_at w.home.pool p)) (number_turned p q apart))
