-- What views keep from one to the next, and what becomes of a message at later views.
use Rattle.std.specs.Prelude.{◌≡◌, ◌↔◌, ℕ, ◌+◌, ◌<◌, ◌≤◌, ◌==◌, ◌&&◌, not, Bool, true, List, length, Ok}
use Rattle.pcl_base.specs.Limits.{Sizes}
use Rattle.pcl_base.specs.declared.lock.Verdict.TheVariants.{Taken, Held, Dropped}
use Rattle.run_rules.specs.Views.{View, is_live, owner_of, since_of, born_of, first, next, reopen}
use Rattle.node_rules.specs.Words.{pick}
use Rattle.node_rules.specs.Judging.{judge}

-- every list of a view has an item for each node, every partition has a live owner, and every since
-- and every birth is an epoch up to the view's
pub record IsWhole (c : Sizes) (v : View) : Type 0 where
  pub live : length v.live ≡ c.nodes
  pub owners : length v.owners ≡ c.nodes
  pub since : length v.since ≡ c.nodes
  pub born : length v.born ≡ c.nodes
  pub owner_known : (q : ℕ) → q < c.nodes → owner_of v q < c.nodes
  pub owner_live : (q : ℕ) → q < c.nodes → is_live v.live (owner_of v q) ≡ true
  pub since_from : (q : ℕ) → q < c.nodes → 1 ≤ since_of v q
  pub since_upto : (q : ℕ) → q < c.nodes → since_of v q ≤ v.epoch
  pub born_from : (n : ℕ) → n < c.nodes → 1 ≤ born_of v n
  pub born_upto : (n : ℕ) → n < c.nodes → born_of v n ≤ v.epoch

-- the view after another one, whose nodes go on or begin anew
pub data IsNext (c : Sizes) (v w : View) : Type 0 where
  moves : (live : List Bool) (owners : List ℕ) → next c v live owners ≡ Ok w → IsNext c v w
  reopens : reopen c v ≡ Ok w → IsNext c v w

-- the views that come after one, and itself
pub data IsLater (c : Sizes) (v : View) : View → Type 0 where
  same : IsLater c v v
  after : {w x : View} → IsLater c v w → IsNext c w x → IsLater c v x

abbrev pub FirstIsWhole : Type 0
FirstIsWhole = (c : Sizes) → IsWhole c (first c)

abbrev pub WholeStays : Type 0
WholeStays = (c : Sizes) (v w : View) → IsWhole c v → IsNext c v w → IsWhole c w

-- a next view has the next epoch; this is since of just the partitions with another owner, and the birth
-- of just the nodes that are live again
pub record IsMoved (v w : View) : Type 0 where
  pub epoch : w.epoch ≡ v.epoch + 1
  pub since : (q : ℕ) → q < length v.since → since_of w q ≡ pick (owner_of v q == owner_of w q) (since_of v q) w.epoch
  pub born : (n : ℕ) → n < length v.born → born_of w n ≡ pick (is_live w.live n && not (is_live v.live n)) w.epoch (born_of v n)

abbrev pub NextMoves : Type 0
NextMoves = (c : Sizes) (v w : View) (live : List Bool) (owners : List ℕ) → IsWhole c v → next c v live owners ≡ Ok w → IsMoved v w

-- no since and no birth falls, and the epoch doesn't
pub record IsNotBelow (v w : View) : Type 0 where
  pub epoch : v.epoch ≤ w.epoch
  pub since : (q : ℕ) → since_of v q ≤ since_of w q
  pub born : (n : ℕ) → born_of v n ≤ born_of w n

abbrev pub NeverFalls : Type 0
NeverFalls = (c : Sizes) (v w : View) → IsWhole c v → IsLater c v w → IsNotBelow v w

-- a message that is dropped at a view is dropped at each later one
abbrev pub DroppedStays : Type 0
DroppedStays =
    (c : Sizes) (v w : View) (me from epoch q : ℕ) → IsWhole c v → IsLater c v w → judge v me from epoch q ≡ Dropped
    → judge w me from epoch q ≡ Dropped

-- the sender of a message is live, and its epoch is none of an earlier life or an earlier owner and is
-- not above the view's
pub record IsBetween (v : View) (me from epoch q : ℕ) : Type 0 where
  pub sender : is_live v.live from ≡ true
  pub sent : born_of v from ≤ epoch
  pub received : born_of v me ≤ epoch
  pub owned : since_of v q ≤ epoch
  pub reached : epoch ≤ v.epoch

abbrev pub TakenIsBetween : Type 0
TakenIsBetween = (v : View) (me from epoch q : ℕ) → (judge v me from epoch q ≡ Taken) ↔ IsBetween v me from epoch q

-- a message is held just while its epoch is above the view's
abbrev pub HeldIsAhead : Type 0
HeldIsAhead = (v : View) (me from epoch q : ℕ) → (judge v me from epoch q ≡ Held) ↔ (v.epoch < epoch)
