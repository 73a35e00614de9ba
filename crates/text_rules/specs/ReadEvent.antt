-- Reading a line of any of the fourteen words, and a schedule line by line.
use Rattle.std.specs.Prelude.{ℕ, zero, suc, ◌==◌, ◌&&◌, ◌||◌, Bool, nat_le, List, [], ◌∷◌, map, take, drop, codes, Option, Some, None}
use Rattle.std.specs.List.{prefix_len}
use Rattle.pcl_base.specs.declared.event.Header.{Header}
use Rattle.pcl_base.specs.declared.event.Event.{Event}
use Rattle.pcl_base.specs.declared.event.Event.TheVariants.{Abort, Deliver, Evict, Flush, Crash, View, Install, Reopen, Arm, Cut}
use Rattle.text_rules.specs.ReadLine.{◌>>=◌, where_true, after_word, at_end, number_at, spaced_at, tx_at, begin_of, read_of, write_of, commit_of, event_after, header_of}

-- 1 to 16 flags at the front, with the bytes after them
abbrev pub is_flag : ℕ → Bool
is_flag b = b == 48 || b == 49

abbrev pub flags_before : ℕ → List ℕ → Option (List Bool × List ℕ)
flags_before n bs = where_true (nat_le 1 n && nat_le n 16) (map (λ b. b == 49) (take n bs), drop n bs)

unfoldable pub flags_at : List ℕ → Option (List Bool × List ℕ)
flags_at bs = flags_before (prefix_len is_flag bs) bs

-- up to n further owners, each after a comma, and nothing after them
unfoldable pub more_owners : ℕ → List ℕ → Option (List ℕ)
more_owners n [] = Some []
more_owners zero (b ∷ bs) = None
more_owners (suc n) (b ∷ bs) = do
  rest ← after_word (codes ",") (b ∷ bs)
  owner ← number_at 0 15 rest
  owners ← more_owners n owner.1
  Some (owner.0 ∷ owners)

-- 1 to 16 owners
unfoldable pub owners_of : List ℕ → Option (List ℕ)
owners_of bs = do
  owner ← number_at 0 15 bs
  owners ← more_owners 15 owner.1
  Some (owner.0 ∷ owners)

-- the event of a line after its word
unfoldable pub abort_of : List ℕ → Option Event
abort_of bs = do
  tx ← tx_at bs
  at_end (Abort tx.0) tx.1

unfoldable pub deliver_of : List ℕ → Option Event
deliver_of bs = do
  from ← number_at 0 15 bs
  to ← spaced_at 0 15 from.1
  at_end (Deliver from.0 to.0) to.1

unfoldable pub evict_of : List ℕ → Option Event
evict_of bs = do
  node ← number_at 0 15 bs
  page ← spaced_at 0 65535 node.1
  at_end (Evict node.0 page.0) page.1

unfoldable pub flush_of : List ℕ → Option Event
flush_of bs = do
  node ← number_at 0 15 bs
  page ← spaced_at 0 65535 node.1
  at_end (Flush node.0 page.0) page.1

unfoldable pub crash_of : List ℕ → Option Event
crash_of bs = do
  node ← number_at 0 15 bs
  at_end (Crash node.0) node.1

unfoldable pub view_of : List ℕ → Option Event
view_of bs = do
  live ← flags_at bs
  rest ← after_word (codes " ") live.1
  owners ← owners_of rest
  Some (View live.0 owners)

unfoldable pub install_of : List ℕ → Option Event
install_of bs = do
  node ← number_at 0 15 bs
  at_end (Install node.0) node.1

unfoldable pub reopen_of : List ℕ → Option Event
reopen_of bs = at_end Reopen bs

unfoldable pub arm_of : List ℕ → Option Event
arm_of bs = do
  node ← number_at 0 15 bs
  call ← spaced_at 1 4294967295 node.1
  kept ← spaced_at 0 4294967295 call.1
  at_end (Arm node.0 call.0 kept.0) kept.1

unfoldable pub cut_of : List ℕ → Option Event
cut_of bs = do
  node ← number_at 0 15 bs
  at_end (Cut node.0) node.1

-- the event of a line: by the word that it begins with
unfoldable pub event_of : List ℕ → Option Event
event_of bs =
    event_after (after_word (codes "begin ") bs) begin_of
    (event_after (after_word (codes "read ") bs) read_of
    (event_after (after_word (codes "write ") bs) write_of
    (event_after (after_word (codes "commit ") bs) commit_of
    (event_after (after_word (codes "abort ") bs) abort_of
    (event_after (after_word (codes "deliver ") bs) deliver_of
    (event_after (after_word (codes "evict ") bs) evict_of
    (event_after (after_word (codes "flush ") bs) flush_of
    (event_after (after_word (codes "crash ") bs) crash_of
    (event_after (after_word (codes "view ") bs) view_of
    (event_after (after_word (codes "install ") bs) install_of
    (event_after (after_word (codes "reopen") bs) reopen_of
    (event_after (after_word (codes "arm ") bs) arm_of
    (event_after (after_word (codes "cut ") bs) cut_of None)))))))))))))

-- the events of some lines, where each is a line of the grammar
unfoldable pub events_of : List (List ℕ) → Option (List Event)
events_of [] = Some []
events_of (line ∷ lines) = do
  event ← event_of line
  events ← events_of lines
  Some (event ∷ events)

-- a schedule by its lines: the numbers of the first one, and the events of the others
unfoldable pub schedule_of : List (List ℕ) → Option (Header × List Event)
schedule_of [] = None
schedule_of (line ∷ lines) = do
  header ← header_of line
  events ← events_of lines
  Some (header, events)
