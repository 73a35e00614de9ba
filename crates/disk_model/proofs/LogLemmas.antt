-- Logs of a storage in memory: their bytes and rooms once one of them was changed, and copies.
use Rattle.std.proofs.Common.{◌≡◌, ◌≢◌, ℕ, zero, suc, ◌+◌, ◌<◌, ◌≤◌, List, [], ◌∷◌, ◌++◌, length, Some, Result, Ok, Err, OnOk, slice_index_or, slice_set, arith, ap, sym, ◌∙◌, refl}
use Rattle.std.proofs.Math.Seq.{map-set_same}
use Rattle.std.proofs.lemmas.List.{map-set, get_or-map}
use Rattle.disk_model.specs.Disk.{NotLowered, LoweredAtMost}
use Rattle.disk_model.specs.Memory.{LogDisk, no_log, bytes_in, rooms_in, AreCopies}

-- one more copy at the end
pub AreCopies-append : (ls ms : List LogDisk) (l m : LogDisk) → AreCopies ls ms → m.bytes ≡ l.bytes → l.room ≤ m.room → AreCopies (ls ++ l ∷ []) (ms ++ m ∷ [])
AreCopies-append [] [] l m all bytes room = (bytes, room, tt)
AreCopies-append [] (y ∷ ms) l m all bytes room = absurd all
AreCopies-append (x ∷ ls) [] l m all bytes room = absurd all
AreCopies-append (x ∷ ls) (y ∷ ms) l m all bytes room = (all.0, all.1, AreCopies-append ls ms l m all.2 bytes room)

-- an item is the same whatever stands past the end
same_item : (ls : List LogDisk) (i : ℕ) (d e : LogDisk) → i < length ls → slice_index_or ls i d ≡ slice_index_or ls i e
same_item [] i d e within = absurd (omega arith)
same_item (x ∷ ls) zero d e within = refl
same_item (x ∷ ls) (suc i) d e within = same_item ls i d e (omega arith)

-- the room of a log
found_room : (ls : List LogDisk) (i : ℕ) (d : LogDisk) → i < length ls → (slice_index_or ls i no_log).room ≡ (slice_index_or ls i d).room
found_room ls i d within = ap (λ l. l.room) (same_item ls i no_log d within)

-- a changed log among the logs' bytes
pub bytes_changed : (ls : List LogDisk) (i : ℕ) (d new : LogDisk) (f : List ℕ → List ℕ) → i < length ls → new.bytes ≡ f (slice_index_or ls i d).bytes → bytes_in (slice_set ls i new) ≡ slice_set (bytes_in ls) i (f (slice_index_or (bytes_in ls) i []))
bytes_changed ls i d new f within changed =
    map-set (λ x. x.bytes) ls i new
    ∙ ap (λ b. slice_set (bytes_in ls) i b) (changed ∙ ap f (sym (get_or-map (λ x. x.bytes) ls i d [] within)))

-- a log whose bytes are the same changes no bytes
pub bytes_kept : (ls : List LogDisk) (i : ℕ) (d new : LogDisk) → new.bytes ≡ (slice_index_or ls i d).bytes → bytes_in (slice_set ls i new) ≡ bytes_in ls
bytes_kept ls i d new same = map-set_same (λ x. x.bytes) ls i new d same

-- the bytes of a log
pub found_bytes : (ls : List LogDisk) (i : ℕ) (d : LogDisk) → i < length ls → slice_index_or (bytes_in ls) i [] ≡ (slice_index_or ls i d).bytes
found_bytes ls i d within = get_or-map (λ x. x.bytes) ls i d [] within

-- the room of a log among the rooms
pub found_among_rooms : (ls : List LogDisk) (i : ℕ) (d : LogDisk) → i < length ls → slice_index_or (rooms_in ls) i 0 ≡ (slice_index_or ls i d).room
found_among_rooms ls i d within = get_or-map (λ x. x.room) ls i d 0 within

-- the room of a log that was put there
pub room_set : (ls : List LogDisk) (i n : ℕ) (l : LogDisk) → i < length ls → n ≤ l.room → n ≤ slice_index_or (rooms_in (slice_set ls i l)) i 0
room_set [] i n l within h = absurd (omega arith)
room_set (x ∷ ls) zero n l within h = h
room_set (x ∷ ls) (suc i) n l within h = room_set ls i n l (omega arith) h

-- what follows from a fact of `Ok`
pub on_ok : {T E : Type 0} {P Q : Type 0} (r : Result T E) → (P → Q) → OnOk r P → OnOk r Q
on_ok (Ok x) f h = f h
on_ok (Err e) f h = h

kept_at : (ls : List LogDisk) (i k n : ℕ) (l : LogDisk) → (slice_index_or ls i no_log).room ≤ l.room → n ≤ slice_index_or (rooms_in ls) k 0 → n ≤ slice_index_or (rooms_in (slice_set ls i l)) k 0
kept_at [] i k n l more h = h
kept_at (x ∷ ls) zero zero n l more h = omega arith
kept_at (x ∷ ls) zero (suc k) n l more h = h
kept_at (x ∷ ls) (suc i) zero n l more h = h
kept_at (x ∷ ls) (suc i) (suc k) n l more h = kept_at ls i k n l more h

-- a changed log leaves as many rooms
rooms_many : (ls : List LogDisk) (i : ℕ) (l : LogDisk) → length (rooms_in (slice_set ls i l)) ≡ length (rooms_in ls)
rooms_many [] i l = refl
rooms_many (x ∷ ls) zero l = refl
rooms_many (x ∷ ls) (suc i) l = ap suc (rooms_many ls i l)

-- where the changed log has at least its room, no room is lowered
pub rooms_kept : (ls : List LogDisk) (i : ℕ) (d l : LogDisk) → i < length ls → (slice_index_or ls i d).room ≤ l.room → NotLowered (Some (rooms_in ls)) (Some (rooms_in (slice_set ls i l)))
rooms_kept ls i d l within more =
    let least : (slice_index_or ls i no_log).room ≤ l.room = rw (found_room ls i d within) more in
    record { kept = λ k n h. kept_at ls i k n l least h; many = λ n h. rooms_many ls i l ∙ h }

named_at : (ls : List LogDisk) (i n by : ℕ) (l : LogDisk) → (slice_index_or ls i no_log).room ≤ l.room + by → n + by ≤ slice_index_or (rooms_in ls) i 0 → n ≤ slice_index_or (rooms_in (slice_set ls i l)) i 0
named_at [] i n by l more h = omega arith
named_at (x ∷ ls) zero n by l more h = omega arith
named_at (x ∷ ls) (suc i) n by l more h = named_at ls i n by l more h

other_at : (ls : List LogDisk) (i k n : ℕ) (l : LogDisk) → k ≢ i → n ≤ slice_index_or (rooms_in ls) k 0 → n ≤ slice_index_or (rooms_in (slice_set ls i l)) k 0
other_at [] i k n l ne h = h
other_at (x ∷ ls) zero zero n l ne h = absurd (ne refl)
other_at (x ∷ ls) zero (suc k) n l ne h = h
other_at (x ∷ ls) (suc i) zero n l ne h = h
other_at (x ∷ ls) (suc i) (suc k) n l ne h = other_at ls i k n l (λ e. ne (ap suc e)) h

-- where the changed log has at least its room but for a number of bytes, rooms are lowered by that at most
pub rooms_lowered : (ls : List LogDisk) (i by : ℕ) (d l : LogDisk) → i < length ls → (slice_index_or ls i d).room ≤ l.room + by → LoweredAtMost (Some (rooms_in ls)) (Some (rooms_in (slice_set ls i l))) i by
rooms_lowered ls i by d l within more =
    let least : (slice_index_or ls i no_log).room ≤ l.room + by = rw (found_room ls i d within) more in
    record { many = λ n h. rooms_many ls i l ∙ h; named = λ n h. named_at ls i n by l least h; others = λ k n ne h. other_at ls i k n l ne h }
