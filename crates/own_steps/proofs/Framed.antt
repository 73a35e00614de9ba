-- What an access at home does to the pages and the calls of the work that it gets.
use Rattle.std.proofs.Common.{◌≡◌, ℕ, nat_lt, Bool, true, false, List, Option, Some, None, is_some, refl, ap, sym, subst, ◌∙◌, append-nil}
use Rattle.std.proofs.lemmas.List.{append_assoc}
use Rattle.std.proofs.lemmas.List.Sums.{fold-append}
use Rattle.pcl_base.specs.declared.tx.TxId.{TxId}
use Rattle.node_rules.specs.Words.{pick}
use Rattle.node_rules.specs.OpenTxs.{add, held_by, wait}
use Rattle.node_rules.specs.BufferRule.{Slot, evict, find, free_frames, has_private, has_slot, pin, place, private, victim}
use Rattle.node_rules.specs.NodeState.{HomeState}
use Rattle.node_rules.specs.Work.{HomeWork, with_pool}
use Rattle.node_rules.specs.AccessRule.{Access, Accessed, access, access_in, is_allowed, is_held, let_go, make_room, next_of, now_done, on_pool, perform, pin_once, take_frames, take_private, take_slot, under_right, waiting}
use Rattle.home.specs.Device.{work_on}
use Rattle.home_laws.proofs.Frames.{frames_home}
use Rattle.page_owner.specs.Carry.{SameNode}
use Rattle.page_owner.specs.Writes.{page_done}
use Rattle.page_owner.proofs.Frames.{then_made, write_back_frames}
use Rattle.own_steps.proofs.Made.{AreWrites, room_writes}

-- a part of an access adds its calls to those of the work that it gets
abbrev pub IsFramed : (HomeWork → HomeWork) → Type 0
IsFramed f = (w : HomeWork) → f w ≡ then_made w (f (work_on w.home))

pub same_work : (w : HomeWork) (h : HomeState) → record w { home = h } ≡ then_made w (work_on h)
same_work w h = ap (λ l. record { home = h; pages = w.pages; calls = l }) (sym (append-nil w.calls))

-- what is made of what was made
pub made_twice : (w x y : HomeWork) → then_made (then_made w x) y ≡ then_made w (then_made x y)
made_twice w x y = λ i. record { home = y.home; pages = sym (fold-append page_done w.pages x.calls y.calls) i; calls = append_assoc w.calls x.calls y.calls i }

both_framed : (f g : HomeWork → HomeWork) → IsFramed f → IsFramed g → IsFramed (λ w. g (f w))
both_framed f g first second w =
    let x : HomeWork = f (work_on w.home) in
    ap g (first w) ∙ second (then_made w x) ∙ made_twice w x (g (work_on x.home)) ∙ ap (then_made w) (sym (second x))

room_framed : (keep : ℕ) → IsFramed (make_room keep)
unfolding make_room
room_framed keep w = by (nat_lt 0 (free_frames w.home.pool)) (victim w.home.pool keep)
  where
    by : (d : Bool) (o : Option Slot) → pick d w (let_go o w) ≡ then_made w (pick d (work_on w.home) (let_go o (work_on w.home)))
    by true o = same_work w w.home
    by false None = same_work w w.home
    by false (Some s) = ap (on_pool (λ b. evict b s.page)) (write_back_frames s.page w)

slot_framed : (p : ℕ) → IsFramed (take_slot p)
unfolding take_slot
slot_framed p w = by (has_slot w.home.pool p)
  where
    by : (d : Bool) → pick d w (on_pool (λ b. place b p) (make_room p w)) ≡ then_made w (pick d (work_on w.home) (on_pool (λ b. place b p) (make_room p (work_on w.home))))
    by true = same_work w w.home
    by false = ap (on_pool (λ b. place b p)) (room_framed p w)

private_framed : (t : TxId) (p : ℕ) (write : Option (ℕ × List ℕ)) → IsFramed (take_private t p write)
unfolding take_private
private_framed t p None w = same_work w w.home
private_framed t p (Some x) w = by (has_private w.home.pool t p)
  where
    by : (d : Bool) → pick d w (on_pool (λ b. private b t p) (make_room p w)) ≡ then_made w (pick d (work_on w.home) (on_pool (λ b. private b t p) (make_room p (work_on w.home))))
    by true = same_work w w.home
    by false = ap (on_pool (λ b. private b t p)) (room_framed p w)

pin_framed : (t : TxId) (p : ℕ) → IsFramed (pin_once t p)
pin_framed t p w = by (is_some (held_by w.home.txs t p))
  where
    by : (d : Bool) → pick d w (on_pool (λ b. pin b p) w) ≡ then_made w (pick d (work_on w.home) (on_pool (λ b. pin b p) (work_on w.home)))
    by true = same_work w w.home
    by false = same_work w (with_pool w.home (pin w.home.pool p))

frames_framed : (a : Access) → IsFramed (take_frames a)
unfolding take_frames
frames_framed a =
    both_framed (λ w. take_private a.tx a.page a.write (take_slot a.page w)) (pin_once a.tx a.page)
    (both_framed (take_slot a.page) (take_private a.tx a.page a.write) (slot_framed a.page) (private_framed a.tx a.page a.write)) (pin_framed a.tx a.page)

-- an access whose frames were taken
abbrev pub made_after : HomeWork → Accessed → Accessed
made_after w x = record { next = x.next; work = then_made w x.work }

in_framed : (a : Access) (owned : Bool) (w x : HomeWork) → access_in a owned (then_made w x) ≡ made_after w (access_in a owned x)
unfolding access_in perform
in_framed a owned w x = by (is_held a x.home) (is_allowed a owned x.home) a.write
  where
    asks : HomeWork → Accessed
    asks k = record { next = next_of a owned (find k.home.pool a.page); work = record k { home = waiting a k.home } }

    by : (held may : Bool) (o : Option (ℕ × List ℕ))
        → pick held (now_done (perform a.tx a.page o (then_made w x))) (pick may (now_done (perform a.tx a.page None (record (then_made w x) { home = under_right a.tx a.page x.home }))) (asks (then_made w x)))
        ≡ made_after w (pick held (now_done (perform a.tx a.page o x)) (pick may (now_done (perform a.tx a.page None (record x { home = under_right a.tx a.page x.home }))) (asks x)))
    by true may None = refl
    by true may (Some y) = refl
    by false true o = refl
    by false false o = refl

pub access_framed : (a : Access) (owned : Bool) (w : HomeWork) → access a owned w ≡ made_after w (access a owned (work_on w.home))
unfolding access
access_framed a owned w = ap (access_in a owned) (frames_framed a w) ∙ in_framed a owned w (take_frames a (work_on w.home))

-- its calls are writes
slot_writes : (p : ℕ) (w : HomeWork) → AreWrites w.calls → AreWrites (take_slot p w).calls
unfolding take_slot
slot_writes p w writes = by (has_slot w.home.pool p)
  where
    by : (d : Bool) → AreWrites (pick d w (on_pool (λ b. place b p) (make_room p w))).calls
    by true = writes
    by false = room_writes p w writes

private_writes : (t : TxId) (p : ℕ) (write : Option (ℕ × List ℕ)) (w : HomeWork) → AreWrites w.calls → AreWrites (take_private t p write w).calls
unfolding take_private
private_writes t p None w writes = writes
private_writes t p (Some x) w writes = by (has_private w.home.pool t p)
  where
    by : (d : Bool) → AreWrites (pick d w (on_pool (λ b. private b t p) (make_room p w))).calls
    by true = writes
    by false = room_writes p w writes

pin_writes : (t : TxId) (p : ℕ) (w : HomeWork) → AreWrites w.calls → AreWrites (pin_once t p w).calls
pin_writes t p w writes = by (is_some (held_by w.home.txs t p))
  where
    by : (d : Bool) → AreWrites (pick d w (on_pool (λ b. pin b p) w)).calls
    by true = writes
    by false = writes

frames_writes : (a : Access) (w : HomeWork) → AreWrites w.calls → AreWrites (take_frames a w).calls
unfolding take_frames
frames_writes a w writes =
    pin_writes a.tx a.page (take_private a.tx a.page a.write (take_slot a.page w))
    (private_writes a.tx a.page a.write (take_slot a.page w) (slot_writes a.page w writes))

in_calls : (a : Access) (owned : Bool) (x : HomeWork) → (access_in a owned x).work.calls ≡ x.calls
unfolding access_in perform
in_calls a owned x = by (is_held a x.home) (is_allowed a owned x.home) a.write
  where
    asks : Accessed
    asks = record { next = next_of a owned (find x.home.pool a.page); work = record x { home = waiting a x.home } }

    by : (held may : Bool) (o : Option (ℕ × List ℕ))
        → (pick held (now_done (perform a.tx a.page o x)) (pick may (now_done (perform a.tx a.page None (record x { home = under_right a.tx a.page x.home }))) asks)).work.calls ≡ x.calls
    by true may None = refl
    by true may (Some y) = refl
    by false true o = refl
    by false false o = refl

pub access_writes : (a : Access) (owned : Bool) (h : HomeState) → AreWrites (access a owned (work_on h)).work.calls
unfolding access
access_writes a owned h = subst AreWrites (sym (in_calls a owned (take_frames a (work_on h)))) (frames_writes a (work_on h) tt)

-- its home is of the same node
in_same : (a : Access) (owned : Bool) (x : HomeWork) → SameNode x.home (access_in a owned x).work.home
unfolding access_in perform add wait
in_same a owned x = by (is_held a x.home) (is_allowed a owned x.home) a.write
  where
    asks : Accessed
    asks = record { next = next_of a owned (find x.home.pool a.page); work = record x { home = waiting a x.home } }

    by : (held may : Bool) (o : Option (ℕ × List ℕ))
        → SameNode x.home (pick held (now_done (perform a.tx a.page o x)) (pick may (now_done (perform a.tx a.page None (record x { home = under_right a.tx a.page x.home }))) asks)).work.home
    by true may None = record { config = refl; node = refl; born = refl }
    by true may (Some y) = record { config = refl; node = refl; born = refl }
    by false true o = record { config = refl; node = refl; born = refl }
    by false false o = record { config = refl; node = refl; born = refl }

pub access_same : (a : Access) (owned : Bool) (h : HomeState) → SameNode h (access a owned (work_on h)).work.home
unfolding access
access_same a owned h =
    let is = frames_home a (work_on h) in
    let same = in_same a owned (take_frames a (work_on h)) in
    record {
      config = same.config ∙ ap (λ (k : HomeState). k.config) is;
      node = same.node ∙ ap (λ (k : HomeState). k.txs.node) is;
      born = same.born ∙ ap (λ (k : HomeState). k.txs.born) is;
    }
