-- The frames that an access takes: the slot of its page, the private copy of a write, and the pin.
use Rattle.std.proofs.Common.{◌≡◌, ℕ, ◌+◌, ◌<◌, ◌≤◌, ◌==◌, ◌&&◌, ◌||◌, not, Bool, true, false, List, [], ◌∷◌, ◌++◌, Option, Some, None, is_some, refl, ap, sym, subst, ◌∙◌, arith}
use Rattle.std.proofs.lemmas.List.Elements.{All-cons}
use Rattle.pcl_base.specs.declared.tx.TxId.{TxId}
use Rattle.node_rules.specs.Words.{pick}
use Rattle.node_rules.specs.OpenTxs.{held_by}
use Rattle.node_rules.specs.BufferRule.{Pool, free_frames, slot_at, slot_in, has_slot, private_at, private_in, has_private, private_bytes, bytes_of_private, is_pinned, is_kept, one_unless, may_go, can_go, place, private, pin}
use Rattle.node_rules.specs.NodeState.{HomeState}
use Rattle.node_rules.specs.Work.{HomeWork, with_pool}
use Rattle.node_rules.specs.AccessRule.{Access, make_room, take_slot, take_private, pin_once, take_frames}
use Rattle.buffer_pool.specs.Buffer.{IsBuffer}
use Rattle.home_laws.specs.Homes.{pins_of}
use Rattle.home_laws.proofs.Tests.{one, number_same, number_equal, none_there}
use Rattle.home_laws.proofs.SlotLooks.{counted}
use Rattle.home_laws.proofs.PrivateLooks.{same_place, unfilled, appended_here, appended_there}
use Rattle.home_laws.proofs.Buffers.{bare, place_sound, private_sound}
use Rattle.home_laws.proofs.Room.{roomy, room_home, IsFramed, framed_self, framed_then, roomy_is}

-- a place for a page
pub place_framed : (p : ℕ) (b : Pool) → IsBuffer b → slot_at b p ≡ None → 1 ≤ free_frames b → IsFramed p b (place b p)
unfolding place slot_in
place_framed p b sound none room = record {
  buffer = place_sound b p none room sound;
  frames = refl;
  size = refl;
  pins = λ q. pins q (p == q) refl;
  slots = λ q e. slots q e (p == q) refl;
  keep = λ e. let no : is_some (slot_at b p) ≡ false = ap is_some none in absurd (cc);
  below = λ n l a. All-cons (λ s. s.page < n) (bare p) b.slots l a;
  kept = λ a. All-cons (λ s. (s.page == p) ≡ false → is_kept s ≡ true) (bare p) b.slots (λ e. let yes = number_same p in absurd (cc)) a;
  whole = λ e a. let no : is_some (slot_at b p) ≡ false = ap is_some none in absurd (cc);
}
  where
    pins : (q : ℕ) (d : Bool) → (p == q) ≡ d → pins_of (pick (p == q) (Some (bare p)) (slot_in b.slots q)) ≡ pins_of (slot_at b q)
    pins q true e =
        let zero : pins_of (slot_at b q) ≡ 0 = subst (λ n. pins_of (slot_at b n) ≡ 0) (number_equal p q e) (ap pins_of none) in
        ap (λ c. pins_of (pick c (Some (bare p)) (slot_in b.slots q))) e ∙ sym zero
    pins q false e = ap (λ c. pins_of (pick c (Some (bare p)) (slot_in b.slots q))) e

    slots : (q : ℕ) → 1 ≤ pins_of (slot_at b q) → (d : Bool) → (p == q) ≡ d → pick (p == q) (Some (bare p)) (slot_in b.slots q) ≡ slot_at b q
    slots q some true e =
        let zero : pins_of (slot_at b q) ≡ 0 = subst (λ n. pins_of (slot_at b n) ≡ 0) (number_equal p q e) (ap pins_of none) in
        absurd (omega (arith, some, zero))
    slots q some false e = ap (λ c. pick c (Some (bare p)) (slot_in b.slots q)) e

pub place_there : (p : ℕ) (b : Pool) → is_some (slot_at (place b p) p) ≡ true
unfolding place slot_in
place_there p b = ap (λ c. is_some (pick c (Some (bare p)) (slot_in b.slots p))) (number_same p)

place_can_go : (p : ℕ) (b : Pool) → can_go (place b p) p ≡ can_go b p
unfolding place
place_can_go p b =
    let no : one (may_go p (bare p)) ≡ 0 = ap (λ c. one (not c && not (is_pinned (bare p)))) (number_same p) in
    omega (arith, counted (may_go p) (bare p) b.slots, no)

place_free : (p : ℕ) (b : Pool) → 1 ≤ free_frames b → free_frames (place b p) + 1 ≡ free_frames b
unfolding place
place_free p b room = omega (arith, room)

-- the slot of an access
abbrev pub slot_taken : Pool → ℕ → Pool
slot_taken b p = pick (has_slot b p) b (place (roomy b p) p)

pub slot_home : (p : ℕ) (w : HomeWork) → (take_slot p w).home ≡ with_pool w.home (slot_taken w.home.pool p)
unfolding take_slot
slot_home p w = by (has_slot w.home.pool p)
  where
    by : (d : Bool) → (pick d w (record (make_room p w) { home = with_pool (make_room p w).home (place (make_room p w).home.pool p) })).home ≡ with_pool w.home (pick d w.home.pool (place (roomy w.home.pool p) p))
    by true = refl
    by false = ap (λ (h : HomeState). with_pool h (place h.pool p)) (room_home p w)

-- the slot is there, and what was free for it is used
pub record IsPlaced (p : ℕ) (b new : Pool) : Type 0 where
  pub framed : IsFramed p b new
  pub there : is_some (slot_at new p) ≡ true
  pub rest : one_unless (has_slot b p) + (free_frames new + can_go new p) ≡ free_frames b + can_go b p
  pub privates : new.privates ≡ b.privates

pub slot_taken_is : (p : ℕ) (b : Pool) → IsBuffer b → one_unless (has_slot b p) ≤ free_frames b + can_go b p → IsPlaced p b (slot_taken b p)
unfolding place
slot_taken_is p b sound enough = by (has_slot b p) refl enough
  where
    by : (d : Bool) → has_slot b p ≡ d → one_unless d ≤ free_frames b + can_go b p → IsPlaced p b (pick d b (place (roomy b p) p))
    by true e le = record { framed = framed_self p b sound; there = e; rest = (let zero : one_unless (has_slot b p) ≡ 0 = ap one_unless e in omega (arith, zero)); privates = refl }
    by false e le =
        let room = roomy_is p b sound le in
        let none : slot_at (roomy b p) p ≡ None = room.page ∙ none_there (slot_at b p) e in
        let placed = place_framed p (roomy b p) room.framed.buffer none room.room in
        let free = place_free p (roomy b p) room.room in
        let goes = place_can_go p (roomy b p) in
        let rest = room.rest in
        let needs : one_unless (has_slot b p) ≡ 1 = ap one_unless e in
        record {
          framed = framed_then p b (roomy b p) (place (roomy b p) p) room.framed placed;
          there = place_there p (roomy b p);
          rest = omega (arith, free, goes, rest, needs);
          privates = room.privates;
        }

-- the private copy of an access
abbrev pub private_taken : Pool → TxId → ℕ → Option (ℕ × List ℕ) → Pool
private_taken b t p None = b
private_taken b t p (Some write) = pick (has_private b t p) b (private (roomy b p) t p)

pub private_home : (t : TxId) (p : ℕ) (write : Option (ℕ × List ℕ)) (w : HomeWork) → (take_private t p write w).home ≡ with_pool w.home (private_taken w.home.pool t p write)
unfolding take_private
private_home t p None w = refl
private_home t p (Some write) w = by (has_private w.home.pool t p)
  where
    by : (d : Bool) → (pick d w (record (make_room p w) { home = with_pool (make_room p w).home (private (make_room p w).home.pool t p) })).home ≡ with_pool w.home (pick d w.home.pool (private (roomy w.home.pool p) t p))
    by true = refl
    by false = ap (λ (h : HomeState). with_pool h (private h.pool t p)) (room_home p w)

-- the private copies of an access: the others stay, and that of a write is there
pub record HasWrite (t : TxId) (p : ℕ) (write : Bool) (b new : Pool) : Type 0 where
  pub others : (u : TxId) (q : ℕ) → same_place u q t p ≡ false → private_at new u q ≡ private_at b u q
  pub there : has_private new t p ≡ (has_private b t p || write)
  pub bytes : private_bytes new t p ≡ private_bytes b t p

or_false : (d : Bool) → d ≡ (d || false)
or_false true = refl
or_false false = refl

pub record IsWritable (t : TxId) (p : ℕ) (write : Bool) (b new : Pool) : Type 0 where
  pub framed : IsFramed p b new
  pub privates : HasWrite t p write b new

private_framed : (t : TxId) (p : ℕ) (b : Pool) → IsBuffer b → private_at b t p ≡ None → 1 ≤ free_frames b → IsFramed p b (private b t p)
unfolding private
private_framed t p b sound none room = record { buffer = private_sound b t p none room sound; frames = refl; size = refl; pins = λ q. refl; slots = λ q e. refl; keep = λ e. refl; below = λ n l a. a; kept = λ a. a; whole = λ e a. a }

private_writes : (t : TxId) (p : ℕ) (b mid : Pool) → mid.privates ≡ b.privates → private_at b t p ≡ None → HasWrite t p true b (private mid t p)
unfolding private
private_writes t p b mid same none = record {
  others = λ u q other. appended_there mid.privates t u p q other ∙ ap (λ xs. private_in xs u q) same;
  there = ap is_some now ∙ sym (ap (λ o. is_some o || true) none);
  bytes = ap bytes_of_private now ∙ sym (ap bytes_of_private none);
}
  where
    now : private_in (mid.privates ++ unfilled t p ∷ []) t p ≡ Some (unfilled t p)
    now = appended_here mid.privates t p (ap (λ xs. private_in xs t p) same ∙ none)

pub private_taken_is : (t : TxId) (p : ℕ) (write : Option (ℕ × List ℕ)) (b : Pool) → IsBuffer b → one_unless (not (is_some write) || has_private b t p) ≤ free_frames b + can_go b p → IsWritable t p (is_some write) b (private_taken b t p write)
private_taken_is t p None b sound enough = record { framed = framed_self p b sound; privates = record { others = λ u q e. refl; there = or_false (has_private b t p); bytes = refl } }
private_taken_is t p (Some write) b sound enough = by (has_private b t p) refl enough
  where
    by : (d : Bool) → has_private b t p ≡ d → one_unless d ≤ free_frames b + can_go b p → IsWritable t p true b (pick d b (private (roomy b p) t p))
    by true e le = record { framed = framed_self p b sound; privates = record { others = λ u q h. refl; there = e ∙ sym (ap (λ d. d || true) e); bytes = refl } }
    by false e le =
        let room = roomy_is p b sound le in
        let none : private_at b t p ≡ None = none_there (private_at b t p) e in
        let absent : private_at (roomy b p) t p ≡ None = ap (λ xs. private_in xs t p) room.privates ∙ none in
        record {
          framed = framed_then p b (roomy b p) (private (roomy b p) t p) room.framed (private_framed t p (roomy b p) room.framed.buffer absent room.room);
          privates = private_writes t p b (roomy b p) room.privates none;
        }

-- the pin of an access
abbrev pub pin_taken : Bool → Pool → ℕ → Pool
pin_taken held b p = pick held b (pin b p)

pub pin_home : (t : TxId) (p : ℕ) (w : HomeWork) → (pin_once t p w).home ≡ with_pool w.home (pin_taken (is_some (held_by w.home.txs t p)) w.home.pool p)
pin_home t p w = by (is_some (held_by w.home.txs t p))
  where
    by : (d : Bool) → (pick d w (record w { home = with_pool w.home (pin w.home.pool p) })).home ≡ with_pool w.home (pick d w.home.pool (pin w.home.pool p))
    by true = refl
    by false = refl

-- the buffer with the frames of an access
abbrev pub frames_taken : HomeState → Access → Pool
frames_taken h a =
    pin_taken (is_some (held_by h.txs a.tx a.page)) (private_taken (slot_taken h.pool a.page) a.tx a.page a.write) a.page

pub frames_home : (a : Access) (w : HomeWork) → (take_frames a w).home ≡ with_pool w.home (frames_taken w.home a)
unfolding take_frames
frames_home a w =
    pin_home a.tx a.page (take_private a.tx a.page a.write (take_slot a.page w))
    ∙ ap (λ (h : HomeState). with_pool h (pin_taken (is_some (held_by h.txs a.tx a.page)) h.pool a.page)) (private_home a.tx a.page a.write (take_slot a.page w))
    ∙ ap (λ (h : HomeState). with_pool h (pin_taken (is_some (held_by h.txs a.tx a.page)) (private_taken h.pool a.tx a.page a.write) a.page)) (slot_home a.page w)
