-- A right that is given back is given back for no era above the one after its node's own.
use Rattle.std.proofs.Common.{◌≡◌, refl, sym, subst, ℕ, suc, ◌≤◌, eqb, eqb-true, ltb, Bool, true, false, arith}
use Rattle.std.specs.Prelude.{⊤, List}
use Rattle.pcl_base.specs.declared.tx.TxId.{TxId}
use Rattle.pcl_base.specs.declared.tx.Mode.TheVariants.{Shared}
use Rattle.page_protocol.specs.Authority.{dropping, giving, granting, losing, releasing, releasing_change, releasing_to_disk, returning, spending}
use Rattle.page_protocol.specs.Eras.{burying, completing, crashing, falling, joining, lost, lowering, purging, redoing, reporting, settled}
use Rattle.page_protocol.specs.Homes.{accepting, asking, committing, committing_reads, ending, keeping_right, reading, reading_under, taking_right, upgrading, writing}
use Rattle.page_protocol.specs.Laws.{IsGivenBackInTime}
use Rattle.page_protocol.specs.State.{Dead, Flying, NoRight, Page, Returning, Right, Shelf, opening, pick, updn}
use Rattle.page_protocol.specs.Steps.{Reached, Run, Step, accepts, asks, buries, commits, commits_reads, completes, crashes, cuts, drops_answer, drops_grant, drops_right, ends_open, evicts, falls, flushes, gives_right, grants_lock, here, joins, keeps_right, loses, lowers, purges, purges_early, reads, reads_under, redoes, releases, releases_change, releases_early, releases_to_disk, reports, restores, retells, returns_right, revokes, takes_right, then, turns, upgrades, upgrades_reader, writes_piece}
use Rattle.page_protocol.specs.Storage.{cutting, evicting, flushing, restoring}

-- it is so of a node that has reached this era
abbrev InTime : ℕ → Right → Type 0
InTime reached NoRight = ⊤
InTime reached (Flying g) = ⊤
InTime reached (Shelf v) = ⊤
InTime reached (Returning upto readers) = upto ≤ suc reached
InTime reached Dead = ⊤

-- another right of one node, and another era that one has reached
changed : (reached : ℕ → ℕ) (f : ℕ → Right) (n : ℕ) (x : Right) → ((m : ℕ) → InTime (reached m) (f m)) → InTime (reached n) x → (m : ℕ) → InTime (reached m) (updn f n x m)
changed reached f n x all one m = by (eqb m n) refl
  where
    by : (b : Bool) → eqb m n ≡ b → InTime (reached m) (pick b x (f m))
    by true e = subst (λ (k : ℕ). InTime (reached k) x) (sym (eqb-true m n e)) one
    by false e = all m

later : (r : Right) (low high : ℕ) → low ≤ high → InTime low r → InTime high r
later NoRight low high p is = tt
later (Flying g) low high p is = tt
later (Shelf v) low high p is = tt
later (Returning upto readers) low high p is = omega (arith, p, is)
later Dead low high p is = tt

moved : (reached : ℕ → ℕ) (f : ℕ → Right) (n e : ℕ) → reached n ≤ e → ((m : ℕ) → InTime (reached m) (f m)) → (m : ℕ) → InTime (updn reached n e m) (f m)
moved reached f n e low all m = by (eqb m n) refl
  where
    by : (b : Bool) → eqb m n ≡ b → InTime (pick b e (reached m)) (f m)
    by true same = later (f m) (reached m) e (subst (λ (k : ℕ). reached k ≤ e) (sym (eqb-true m n same)) low) (all m)
    by false same = all m

lost_in_time : (reached : ℕ) (r : Right) → InTime reached r → InTime reached (lost r)
lost_in_time reached NoRight is = tt
lost_in_time reached (Flying g) is = tt
lost_in_time reached (Shelf v) is = tt
lost_in_time reached (Returning upto readers) is = is
lost_in_time reached Dead is = tt

settled_in_time : (reached e : ℕ) (r : Right) → InTime reached r → InTime reached (settled e r)
settled_in_time reached e NoRight is = tt
settled_in_time reached e (Flying g) is = tt
settled_in_time reached e (Shelf v) is = tt
settled_in_time reached e (Returning upto readers) is = by (ltb e upto)
  where
    by : (b : Bool) → InTime reached (pick b (Returning upto readers) NoRight)
    by true = is
    by false = tt
settled_in_time reached e Dead is = tt

-- both at once: the right is given back for the era that is reached then
turned : (reached : ℕ → ℕ) (f : ℕ → Right) (n e : ℕ) (readers : List TxId) → reached n ≤ e → ((m : ℕ) → InTime (reached m) (f m)) → (m : ℕ) → InTime (updn reached n e m) (updn f n (Returning e readers) m)
turned reached f n e readers low all m = by (eqb m n)
  where
    by : (b : Bool) → InTime (pick b e (reached m)) (pick b (Returning e readers) (f m))
    by true = omega arith
    by false = all m

abbrev AllInTime : Page → Type 0
AllInTime a = (n : ℕ) → InTime (a.reached n) (a.right n)

step_in_time : {a b : Page} → Step a b → AllInTime a → AllInTime b
unfolding asking upgrading accepting taking_right keeping_right reading_under reading writing ending committing_reads committing granting giving spending returning dropping releasing releasing_change releasing_to_disk losing crashing falling purging burying lowering redoing reporting joining completing restoring flushing evicting cutting
step_in_time {a} (asks t m e) all = all
step_in_time {a} (retells t m h e) all = all
step_in_time {a} (upgrades t e) all = all
step_in_time {a} (upgrades_reader t e) all = all
step_in_time {a} (accepts g p r w) all = all
step_in_time {a} (takes_right g h f r w) all = changed a.reached a.right g.tx.node (Shelf g.version) all tt
step_in_time {a} (keeps_right g f r) all = changed a.reached a.right g.tx.node (Shelf g.version) all tt
step_in_time {a} (reads_under t v c h r s e) all = all
step_in_time {a} (reads t g) all = all
step_in_time {a} (writes_piece t place piece h) all = all
step_in_time {a} (ends_open t) all = all
step_in_time {a} (commits_reads t g w) all = all
step_in_time {a} (commits t ranges h w f) all = all
step_in_time {a} (grants_lock t m w s n l f k) all = all
step_in_time {a} (gives_right t w s n r f k) all = changed a.reached a.right t.node (Flying (record { tx = t; mode = Shared; version = a.entry; word = w })) all tt
step_in_time {a} (revokes n v readers r e f u) all = changed a.reached a.right n (Returning (suc a.era) readers) all (omega (arith, e))
step_in_time {a} (turns n v e readers r p q f u h) all = turned a.reached a.right n e readers (omega (arith, q)) all
step_in_time {a} (returns_right n readers r) all = changed a.reached a.right n NoRight all tt
step_in_time {a} (drops_right n r) all = changed a.reached a.right n NoRight all tt
step_in_time {a} (drops_grant n g r) all = changed a.reached a.right n NoRight all tt
step_in_time {a} (drops_answer n upto readers r f) all = changed a.reached a.right n NoRight all tt
step_in_time {a} (releases t c h n) all = all
step_in_time {a} (releases_change t s h) all = all
step_in_time {a} (releases_to_disk t s h e) all = all
step_in_time {a} (releases_early t c e p h) all = all
step_in_time {a} (loses t c e h f) all = all
step_in_time {a} (crashes n f) all = changed a.reached a.right n (lost (a.right n)) all (lost_in_time (a.reached n) (a.right n) (all n))
step_in_time {a} falls all = all
step_in_time {a} (purges n dead s l d) all = all
step_in_time {a} (redoes s) all = all
step_in_time {a} (purges_early n e dead p d) all = all
step_in_time {a} (buries e dead p closed) all = all
step_in_time {a} (lowers n upto low readers r p q f) all =
    changed a.reached a.right n (Returning low readers) all (let was : upto ≤ suc (a.reached n) = subst (InTime (a.reached n)) r (all n) in omega arith)
step_in_time {a} (reports n e p q u) all = moved a.reached a.right n e (omega (arith, q)) all
step_in_time {a} (joins n e p q f) all = moved a.reached a.right n e q all
step_in_time {a} (completes e o s p f) all = λ n. settled_in_time (a.reached n) e (a.right n) (all n)
step_in_time {a} (restores w p q r) all = all
step_in_time {a} (flushes c d e p) all = all
step_in_time {a} (evicts n f g) all = all
step_in_time {a} (cuts n w p) all = all

run_in_time : (a b : Page) → Run a b → AllInTime a → AllInTime b
run_in_time a b here all = all
run_in_time a b (then {b = m} r s) all = step_in_time s (run_in_time a m r all)

pub in_time : (blank : List ℕ) (a : Page) → Reached blank a → IsGivenBackInTime a
in_time blank a reached n upto readers given = subst (InTime (a.reached n)) given (run_in_time (opening blank reached.0 reached.1) a reached.2 (λ m. tt) n)
