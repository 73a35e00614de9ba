-- The changing calls within a call: what they do to all that a storage tells and such calls change.
use Rattle.std.specs.Prelude.{◌≡◌, ◌≢◌, ◌⊎◌, ℕ, Bool, true, false, List, [], ◌∷◌, Option, Some, None}
use Rattle.pcl_base.specs.declared.trace.Call.{Call}
use Rattle.pcl_base.specs.declared.trace.Call.TheVariants as call
use Rattle.disk_model.specs.Disk.{Pages, Logs, with_page, with_appended, with_trimmed, with_cut}
use Rattle.disk_model.specs.Stops.{Stops, Fate, change_fate, after_change, left_by, kept_bytes}
use Rattle.node_rules.specs.NodeState.{HomeState}
use Rattle.node_rules.specs.DiskCalls.{DiskCall, WritePage, Force, TrimLog, CutLog, word_of}
use Rattle.node_rules.specs.Work.{HomeWork}

-- the work of a call that begins at a home; what it does to home and calls needs no page
abbrev pub work_on : HomeState → HomeWork
work_on h = record { home = h; pages = []; calls = [] }

-- what a storage tells of what changing calls change: the pages, the logs, and the armed stops
pub record Told : Type 0 where
  pub pages : Pages
  pub logs : Logs
  pub stops : Stops

abbrev pub told_by : Pages → Logs → Stops → Told
told_by pages logs stops = record { pages = pages; logs = logs; stops = stops }

-- the same once a changing call of node n is done
abbrev pub told_done : ℕ → DiskCall → Told → Told
told_done n (WritePage p bytes) d = told_by (with_page d.pages p bytes) d.logs (after_change d.stops n)
told_done n (Force t bytes) d = told_by d.pages (with_appended d.logs n bytes) (after_change d.stops n)
told_done n (TrimLog keep) d = told_by d.pages (with_trimmed d.logs n keep) (after_change d.stops n)
told_done n (CutLog count) d = told_by d.pages (with_cut d.logs n count) (after_change d.stops n)

-- the same once a call was made and is undone
abbrev pub told_undone : ℕ → Told → Told
told_undone n d = told_by d.pages d.logs (after_change d.stops n)

-- the same once a call failed that keeps so many bytes: a force appends these, another call is undone
-- at 0, else done
abbrev pub told_left : ℕ → DiskCall → ℕ → Told → Told
told_left n (Force t bytes) kept d =
    told_by d.pages (with_appended d.logs n (kept_bytes kept bytes)) (after_change d.stops n)
told_left n call kept d = left_by kept (told_undone n d) (told_done n call d)

-- no armed stop decides the next changing call of node n
abbrev pub IsUnstopped : ℕ → Told → Type 0
IsUnstopped n d = (kept : ℕ) → change_fate d.stops n ≢ Fate.Stopped kept

-- a changing call of node n failed: it kept some of what it does, and as much as its stop says where
-- one is told
pub record CallFails (n : ℕ) (call : DiskCall) (old new : Told) : Type 0 where
  pub kept : ℕ
  pub same : new ≡ told_left n call kept old
  pub fate : change_fate old.stops n ≢ Fate.Done
  pub stopped : (k : ℕ) → change_fate old.stops n ≡ Fate.Stopped k → new ≡ told_left n call k old

-- changing calls of node n one after the other: all are done, or one of this kind failed, which ends
-- them
abbrev pub Made : ℕ → List DiskCall → Told → Option Call → Told → Type 0
Made n [] old None new = new ≡ old
Made n [] old (Some k) new = ⊥
Made n (call ∷ calls) old None new = IsUnstopped n old × Made n calls (told_done n call old) None new
Made n (call ∷ calls) old (Some k) new =
    ((k ≡ word_of call) × CallFails n call old new)
    ⊎ (IsUnstopped n old × Made n calls (told_done n call old) (Some k) new)

-- page writes are made as long as none failed before; the second flag tells whether none has failed
-- then
abbrev pub MadeIf : ℕ → Bool → Bool → List DiskCall → Told → Told → Type 0
MadeIf n true true calls old new = Made n calls old None new
MadeIf n true false calls old new = Made n calls old (Some call.Write) new
MadeIf n false true calls old new = ⊥
MadeIf n false false calls old new = new ≡ old

-- where a flag fell, a count rose
abbrev pub RoseIf : Bool → Bool → Type 0 → Type 0
RoseIf true false rose = rose
RoseIf _ _ rose = Unit {0}
