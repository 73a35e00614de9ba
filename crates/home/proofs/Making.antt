-- Changing calls that are made one after the other.
use Rattle.std.proofs.Common.{◌≡◌, ℕ, ◌==◌, ◌++◌, Bool, true, false, List, [], ◌∷◌, Option, Some, None, refl, ap, sym, subst, ◌∙◌, ◌⊎◌, inl, inr}
use Rattle.std.specs.Prelude.{◌≢◌}
use Rattle.pcl_base.specs.declared.trace.Call.{Call}
use Rattle.disk_model.specs.Disk.{Pages, Logs, with_page}
use Rattle.disk_model.specs.Stops.{Stops, Fate, change_fate, after_change, pick, left_by}
use Rattle.node_rules.specs.DiskCalls.{DiskCall, WritePage}
use Rattle.home.specs.Device.{Told, told_by, told_done, told_left, Made, MadeIf}

-- the same is told where pages, logs and stops are the same
pub told_same : (pages more : Pages) (logs more_logs : Logs) (stops more_stops : Stops) → more ≡ pages → more_logs ≡ logs → more_stops ≡ stops → told_by more more_logs more_stops ≡ told_by pages logs stops
told_same pages more logs more_logs stops more_stops same_pages same_logs same_stops =
    ap (λ x. told_by x more_logs more_stops) same_pages ∙ ap (λ x. told_by pages x more_stops) same_logs ∙ ap (λ x. told_by pages logs x) same_stops

-- two lists that are made one after the other are made as one
pub made_both : (n : ℕ) (xs ys : List DiskCall) (old mid : Told) (o : Option Call) (new : Told) → Made n xs old None mid → Made n ys mid o new → Made n (xs ++ ys) old o new
made_both n [] ys old mid o new first second = subst (λ d. Made n ys d o new) first second
made_both n (x ∷ xs) ys old mid None new first second = (first.0, made_both n xs ys (told_done n x old) mid None new first.1 second)
made_both n (x ∷ xs) ys old mid (Some k) new first second = inr (first.0, made_both n xs ys (told_done n x old) mid (Some k) new first.1 second)

-- none is made after one that failed
pub made_first : (n : ℕ) (xs ys : List DiskCall) (old : Told) (k : Call) (new : Told) → Made n xs old (Some k) new → Made n (xs ++ ys) old (Some k) new
made_first n [] ys old k new made = absurd made
made_first n (x ∷ xs) ys old k new (inl fails) = inl fails
made_first n (x ∷ xs) ys old k new (inr (free, rest)) = inr (free, made_first n xs ys (told_done n x old) k new rest)

pub made_then : (n : ℕ) (going done : Bool) (xs ys : List DiskCall) (old mid new : Told) → MadeIf n true going xs old mid → MadeIf n going done ys mid new → MadeIf n true done (xs ++ ys) old new
made_then n true true xs ys old mid new first second = made_both n xs ys old mid None new first second
made_then n true false xs ys old mid new first second = made_both n xs ys old mid _ new first second
made_then n false true xs ys old mid new first second = absurd second
made_then n false false xs ys old mid new first second = subst (λ d. MadeIf n true false (xs ++ ys) old d) (sym second) (made_first n xs ys old _ mid first)

-- the same calls by another name, and of another name of the node
pub made_as : (n : ℕ) (going done : Bool) (cs ds : List DiskCall) (old new : Told) → cs ≡ ds → MadeIf n going done ds old new → MadeIf n going done cs old new
made_as n going done cs ds old new same made = subst (λ l. MadeIf n going done l old new) (sym same) made

pub made_by : (n m : ℕ) (going done : Bool) (calls : List DiskCall) (old new : Told) → n ≡ m → MadeIf m going done calls old new → MadeIf n going done calls old new
made_by n m going done calls old new same made = subst (λ k. MadeIf k going done calls old new) (sym same) made

-- no call
pub made_none : (n : ℕ) (going : Bool) (old : Told) → MadeIf n going going [] old old
made_none n true old = refl
made_none n false old = refl

-- a page write that is done
pub write_made : (n p : ℕ) (raw bytes : List ℕ) (pages more : Pages) (logs more_logs : Logs) (stops more_stops : Stops)
    → more ≡ with_page pages p raw → more_logs ≡ logs → more_stops ≡ after_change stops n → raw ≡ bytes → ((kept : ℕ) → change_fate stops n ≢ Fate.Stopped kept)
    → MadeIf n true true (WritePage p bytes ∷ []) (told_by pages logs stops) (told_by more more_logs more_stops)
write_made n p raw bytes pages more logs more_logs stops more_stops written same after is free =
    (free, told_same (with_page pages p bytes) more logs more_logs (after_change stops n) more_stops (written ∙ ap (with_page pages p) is) same after)

-- a page write that failed
left_told : (b : Bool) (pages more : Pages) (logs : Logs) (stops : Stops) → told_by (pick b pages more) logs stops ≡ pick b (told_by pages logs stops) (told_by more logs stops)
left_told true pages more logs stops = refl
left_told false pages more logs stops = refl

pub write_failed : (n p : ℕ) (raw bytes : List ℕ) (pages more : Pages) (logs more_logs : Logs) (stops more_stops : Stops)
    → (more ≡ pages) ⊎ (more ≡ with_page pages p raw) → more_logs ≡ logs → more_stops ≡ after_change stops n → raw ≡ bytes → change_fate stops n ≢ Fate.Done
    → ((kept : ℕ) → change_fate stops n ≡ Fate.Stopped kept → more ≡ left_by kept pages (with_page pages p raw))
    → MadeIf n true false (WritePage p bytes ∷ []) (told_by pages logs stops) (told_by more more_logs more_stops)
write_failed n p raw bytes pages more logs more_logs stops more_stops torn same after is fate left = of torn
  where
    by_stop : (kept : ℕ) → change_fate stops n ≡ Fate.Stopped kept → told_by more more_logs more_stops ≡ told_left n (WritePage p bytes) kept (told_by pages logs stops)
    by_stop kept stopped =
        told_same (left_by kept pages (with_page pages p bytes)) more logs more_logs (after_change stops n) more_stops (left kept stopped ∙ ap (λ b. left_by kept pages (with_page pages p b)) is) same after
        ∙ left_told (kept == 0) pages (with_page pages p bytes) logs (after_change stops n)

    of : (more ≡ pages) ⊎ (more ≡ with_page pages p raw) → MadeIf n true false (WritePage p bytes ∷ []) (told_by pages logs stops) (told_by more more_logs more_stops)
    of (inl old) =
        inl (
          refl,
          record {
            kept = 0;
            same = told_same pages more logs more_logs (after_change stops n) more_stops old same after;
            fate = fate;
            stopped = by_stop;
          },
        )
    of (inr done) =
        inl (
          refl,
          record {
            kept = 1;
            same = told_same (with_page pages p bytes) more logs more_logs (after_change stops n) more_stops (done ∙ ap (with_page pages p) is) same after;
            fate = fate;
            stopped = by_stop;
          },
        )
