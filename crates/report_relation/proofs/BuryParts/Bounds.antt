-- No more than some nodes have a right of a page.
use Rattle.std.proofs.Common.{◌≡◌, refl, ap, ◌∙◌, ℕ, suc, ◌≤◌, ◌+◌, eqb, Bool, false, arith}
use Rattle.std.proofs.lemmas.Bool.Decides.{nat_tests}
use Rattle.page_protocol.specs.Authority.{dropping, giving, granting, losing, releasing, releasing_change, releasing_to_disk, returning, spending}
use Rattle.page_protocol.specs.Eras.{burying, completing, crashing, falling, joining, lowering, purging, redoing, reporting, settled}
use Rattle.page_protocol.specs.Homes.{accepting, asking, committing, committing_reads, ending, keeping_right, reading, reading_under, taking_right, upgrading, writing}
use Rattle.page_protocol.specs.State.{NoRight, Page, Right, opening, pick, updn}
use Rattle.page_protocol.specs.Steps.{Run, Step, accepts, asks, buries, commits, commits_reads, completes, crashes, cuts, drops_answer, drops_grant, drops_right, ends_open, evicts, falls, flushes, gives_right, grants_lock, here, joins, keeps_right, loses, lowers, purges, purges_early, reads, reads_under, redoes, releases, releases_change, releases_early, releases_to_disk, reports, restores, retells, returns_right, revokes, takes_right, then, turns, upgrades, upgrades_reader, writes_piece}
use Rattle.page_protocol.specs.Storage.{cutting, evicting, flushing, restoring}
use Rattle.report_relation.specs.Bury.Running.{RightsAreBounded}

-- the rights of nodes from some number on
abbrev Bounded : (ℕ → Right) → Type 0
Bounded right = (bound : ℕ) × ((m : ℕ) → bound ≤ m → right m ≡ NoRight)

not_it : (m n : ℕ) → suc n ≤ m → eqb m n ≡ false
not_it m n after = grind (arith, nat_tests, after)

-- one right more
with_one : (right : ℕ → Right) (n : ℕ) (r : Right) → Bounded right → Bounded (updn right n r)
with_one right n r old = (old.0 + suc n, λ m after. ap (λ (b : Bool). pick b r (right m)) (not_it m n (omega (arith, after))) ∙ old.1 m (omega (arith, after)))

of_each : (right : ℕ → Right) (f : Right → Right) → f NoRight ≡ NoRight → Bounded right → Bounded (λ m. f (right m))
of_each right f none old = (old.0, λ m after. ap f (old.1 m after) ∙ none)

step_bounded : (a b : Page) → Step a b → Bounded a.right → Bounded b.right
unfolding asking upgrading accepting taking_right keeping_right reading_under reading writing ending committing_reads committing granting giving spending returning dropping releasing releasing_change releasing_to_disk losing crashing falling purging burying lowering redoing reporting joining completing restoring flushing evicting cutting
step_bounded a _ (asks t m e) old = old
step_bounded a _ (retells t m h e) old = old
step_bounded a _ (upgrades t e) old = old
step_bounded a _ (upgrades_reader t e) old = old
step_bounded a _ (accepts g i k w) old = old
step_bounded a _ (takes_right g h e k w) old = with_one a.right g.tx.node _ old
step_bounded a _ (keeps_right g e k) old = with_one a.right g.tx.node _ old
step_bounded a _ (reads_under t v c e r s l) old = old
step_bounded a _ (reads t g) old = old
step_bounded a _ (writes_piece t k l g) old = old
step_bounded a _ (ends_open t) old = old
step_bounded a _ (commits_reads t g w) old = old
step_bounded a _ (commits t r g w l) old = old
step_bounded a _ (grants_lock t m w s n l f k) old = old
step_bounded a _ (gives_right t w s n r f k) old = with_one a.right t.node _ old
step_bounded a _ (revokes n v rs r k l u) old = with_one a.right n _ old
step_bounded a _ (turns n v e rs r k l m u h) old = with_one a.right n _ old
step_bounded a _ (returns_right n rs r) old = with_one a.right n _ old
step_bounded a _ (drops_right n r) old = with_one a.right n _ old
step_bounded a _ (drops_grant n g r) old = with_one a.right n _ old
step_bounded a _ (drops_answer n u rs r k) old = with_one a.right n _ old
step_bounded a _ (releases t c h n) old = old
step_bounded a _ (releases_change t s h) old = old
step_bounded a _ (releases_to_disk t s h n) old = old
step_bounded a _ (releases_early t c e l h) old = old
step_bounded a _ (loses t c e h n) old = old
step_bounded a _ (crashes n o) old = with_one a.right n _ old
step_bounded a _ falls old = old
step_bounded a _ (purges n d s l i) old = old
step_bounded a _ (redoes s) old = old
step_bounded a _ (purges_early n e d l i) old = old
step_bounded a _ (buries e d l i) old = old
step_bounded a _ (lowers n u l rs r k m i) old = with_one a.right n _ old
step_bounded a _ (reports n e l k u) old = old
step_bounded a _ (joins n e l k i) old = old
step_bounded a _ (completes e o s l i) old = of_each a.right (settled e) refl old
step_bounded a _ (restores w l k i) old = old
step_bounded a _ (flushes c d s l) old = old
step_bounded a _ (evicts n d i) old = old
step_bounded a _ (cuts n w l) old = old

run_bounded : (a b : Page) → Run a b → Bounded a.right → Bounded b.right
run_bounded a _ here old = old
run_bounded a c (then {b} run step) old = step_bounded b c step (run_bounded a b run old)

pub rights_are_bounded_law : RightsAreBounded
rights_are_bounded_law blank a reached =
    let bounded = run_bounded (opening blank reached.0 reached.1) a reached.2 (0, λ m after. refl) in
    record { bound = bounded.0; none = bounded.1 }
