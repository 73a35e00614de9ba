-- The calls of the frames of an access: each stage adds those of its own, which go by the buffer alone.
use Rattle.std.proofs.Common.{◌≡◌, ℕ, ◌++◌, nat_lt, Bool, true, false, List, [], ◌∷◌, Option, Some, None, is_some, refl, ap, sym, ◌∙◌, append-nil}
use Rattle.pcl_base.specs.declared.tx.TxId.{TxId}
use Rattle.node_rules.specs.Words.{pick}
use Rattle.node_rules.specs.OpenTxs.{held_by}
use Rattle.node_rules.specs.BufferRule.{Pool, Slot, Copy, copy_at, has_slot, has_private, free_frames, victim, place, private, pin, clean}
use Rattle.text_rules.specs.StoredPage.{stored_bytes}
use Rattle.node_rules.specs.DiskCalls.{DiskCall, WritePage}
use Rattle.node_rules.specs.Work.{HomeWork, with_pool, write_page, write_copy, write_back}
use Rattle.node_rules.specs.AccessRule.{Access, make_room, let_go, take_slot, take_private, pin_once, take_frames, on_pool}
use Rattle.node_rules.specs.NodeState.{HomeState}
use Rattle.home_laws.proofs.Frames.{slot_taken, slot_home, private_home, pin_home}
use Rattle.home.specs.Device.{work_on}

-- the calls of writing a copy back, and of making room
abbrev copy_calls : ℕ → Option Copy → List DiskCall
copy_calls p None = []
copy_calls p (Some c) = pick c.dirty (WritePage p (stored_bytes p (record { version = c.version; bytes = c.bytes })) ∷ []) []

abbrev victim_calls : Option Slot → Pool → List DiskCall
victim_calls None b = []
victim_calls (Some s) b = copy_calls s.page (copy_at b s.page)

abbrev room_calls : ℕ → Pool → List DiskCall
room_calls keep b = pick (nat_lt 0 (free_frames b)) [] (victim_calls (victim b keep) b)

back_calls : (p : ℕ) (w : HomeWork) → (write_back p w).calls ≡ w.calls ++ copy_calls p (copy_at w.home.pool p)
unfolding write_back
back_calls p w = by_case (copy_at w.home.pool p)
  where
    by_case : (o : Option Copy) → (write_copy p o w).calls ≡ w.calls ++ copy_calls p o
    by_case None = sym (append-nil w.calls)
    by_case (Some c) = of c.dirty
      where
        of : (d : Bool) → (pick d (record (write_page p (record { version = c.version; bytes = c.bytes }) w) { home = with_pool w.home (clean w.home.pool p) }) w).calls
            ≡ w.calls ++ pick d (WritePage p (stored_bytes p (record { version = c.version; bytes = c.bytes })) ∷ []) []
        of true = refl
        of false = sym (append-nil w.calls)

room_has : (keep : ℕ) (w : HomeWork) → (make_room keep w).calls ≡ w.calls ++ room_calls keep w.home.pool
unfolding make_room
room_has keep w = by_case (nat_lt 0 (free_frames w.home.pool))
  where
    of : (o : Option Slot) → (let_go o w).calls ≡ w.calls ++ victim_calls o w.home.pool
    of None = sym (append-nil w.calls)
    of (Some s) = back_calls s.page w

    by_case : (d : Bool) → (pick d w (let_go (victim w.home.pool keep) w)).calls ≡ w.calls ++ pick d [] (victim_calls (victim w.home.pool keep) w.home.pool)
    by_case true = sym (append-nil w.calls)
    by_case false = of (victim w.home.pool keep)

-- the calls of a slot and of a private copy
abbrev slot_calls : ℕ → Pool → List DiskCall
slot_calls p b = pick (has_slot b p) [] (room_calls p b)

abbrev private_calls : TxId → ℕ → Option (ℕ × List ℕ) → Pool → List DiskCall
private_calls t p None b = []
private_calls t p (Some write) b = pick (has_private b t p) [] (room_calls p b)

slot_has : (p : ℕ) (w : HomeWork) → (take_slot p w).calls ≡ w.calls ++ slot_calls p w.home.pool
unfolding take_slot
slot_has p w = by_case (has_slot w.home.pool p)
  where
    by_case : (d : Bool) → (pick d w (on_pool (λ b. place b p) (make_room p w))).calls ≡ w.calls ++ pick d [] (room_calls p w.home.pool)
    by_case true = sym (append-nil w.calls)
    by_case false = room_has p w

private_has : (t : TxId) (p : ℕ) (write : Option (ℕ × List ℕ)) (w : HomeWork) → (take_private t p write w).calls ≡ w.calls ++ private_calls t p write w.home.pool
unfolding take_private
private_has t p None w = sym (append-nil w.calls)
private_has t p (Some write) w = by_case (has_private w.home.pool t p)
  where
    by_case : (d : Bool) → (pick d w (on_pool (λ b. private b t p) (make_room p w))).calls ≡ w.calls ++ pick d [] (room_calls p w.home.pool)
    by_case true = sym (append-nil w.calls)
    by_case false = room_has p w

pin_has : (t : TxId) (p : ℕ) (w : HomeWork) → (pin_once t p w).calls ≡ w.calls
pin_has t p w = by_case (is_some (held_by w.home.txs t p))
  where
    by_case : (d : Bool) → (pick d w (on_pool (λ b. pin b p) w)).calls ≡ w.calls
    by_case true = refl
    by_case false = refl

-- the calls of an access are those of its slot, and then those of its private copy
pub frames_have : (a : Access) (w : HomeWork) → (take_frames a w).calls ≡ (take_slot a.page w).calls ++ (take_private a.tx a.page a.write (work_on (take_slot a.page w).home)).calls
unfolding take_frames
frames_have a w =
    pin_has a.tx a.page (take_private a.tx a.page a.write (take_slot a.page w))
    ∙ private_has a.tx a.page a.write (take_slot a.page w)
    ∙ ap (λ l. (take_slot a.page w).calls ++ l) (sym (private_has a.tx a.page a.write (work_on (take_slot a.page w).home)))

-- the calls of an access go by the buffer alone
pub frames_same : (a : Access) (h g : HomeState) → h.pool ≡ g.pool → (take_frames a (work_on h)).calls ≡ (take_frames a (work_on g)).calls
frames_same a h g same = of h ∙ ap (λ b. slot_calls a.page b ++ private_calls a.tx a.page a.write (slot_taken b a.page)) same ∙ sym (of g)
  where
    of : (k : HomeState) → (take_frames a (work_on k)).calls ≡ slot_calls a.page k.pool ++ private_calls a.tx a.page a.write (slot_taken k.pool a.page)
    of k =
        frames_have a (work_on k) ∙ ap (λ l. l ++ (take_private a.tx a.page a.write (work_on (take_slot a.page (work_on k)).home)).calls) (slot_has a.page (work_on k))
        ∙ ap (λ l. slot_calls a.page k.pool ++ l) (private_has a.tx a.page a.write (work_on (take_slot a.page (work_on k)).home))
        ∙ ap (λ (x : HomeState). slot_calls a.page k.pool ++ private_calls a.tx a.page a.write x.pool) (slot_home a.page (work_on k))

-- the home of an access, stage by stage
pub frames_steps : (a : Access) (h : HomeState)
    → (pin_once a.tx a.page (work_on (take_private a.tx a.page a.write (work_on (take_slot a.page (work_on h)).home)).home)).home ≡ (take_frames a (work_on h)).home
unfolding take_frames
frames_steps a h =
    let slot : HomeWork = take_slot a.page (work_on h) in
    let write : HomeWork = take_private a.tx a.page a.write slot in
    let same : (take_private a.tx a.page a.write (work_on slot.home)).home ≡ write.home = private_home a.tx a.page a.write (work_on slot.home) ∙ sym (private_home a.tx a.page a.write slot) in
    ap (λ (x : HomeState). (pin_once a.tx a.page (work_on x)).home) same
    ∙ pin_home a.tx a.page (work_on write.home) ∙ sym (pin_home a.tx a.page write)
