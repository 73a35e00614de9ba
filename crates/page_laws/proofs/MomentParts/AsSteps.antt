-- Granted accesses and commits as the machine's steps.
use Rattle.std.proofs.Common.{◌≡◌, refl, sym, ap, subst, ◌∙◌, ℕ, suc, ◌<◌, eqb, cond, true, false, List, [], ◌∷◌, ◌++◌, Option, Some, arith}
use Rattle.std.proofs.lemmas.Bool.Decides.{nat_tests}
use Rattle.pcl_base.specs.Limits.{Sizes}
use Rattle.pcl_base.specs.declared.trace.Entry.{Entry}
use Rattle.pcl_base.specs.declared.tx.Mode.TheVariants.{Shared, Exclusive}
use Rattle.pcl_base.specs.declared.tx.TxId.{TxId}
use Rattle.run_rules.specs.Base.{BasePage}
use Rattle.page_protocol.specs.Bytes.{Access, Read, Write, Leaves, writes, version_after}
use Rattle.page_protocol.specs.Homes.{seen, reading, writing, committing_reads, committing}
use Rattle.page_protocol.specs.Invariant.{ScriptOk, Inv}
use Rattle.page_protocol.specs.State.{pick, same_tx, upd, updn, Home, Fresh, Asking, Holding, HoldingAsks, Reading, ReadingAsks, Ended, Gone, IsGranted, Page, current}
use Rattle.page_protocol.proofs.Keeps.{reached_holds}
use Rattle.page_protocol.proofs.Promises.{fresh_law}
use Rattle.page_laws.specs.Moment.Looks.{accesses_in, IsNow}
use Rattle.page_laws.specs.Moment.Machine.{HasScripts, ReadsAreReading, WritesAreWriting, CommitStep, wrote, read, untouched, CommitsAreCommitting}
use Rattle.page_laws.specs.Moment.Tells.{TellsAccess}
use Rattle.page_laws.proofs.MomentParts.Committing.{commit_runs_law}
use Rattle.page_laws.proofs.MomentParts.Growing.{read_tells_law, write_tells_law, commit_tells_law}

-- scripts of the machine and of the trace after the same access
scripts_more : (a : Page) (old new : List Entry) (c : Sizes) (u : TxId) (q : ℕ) (x : Access) → HasScripts old q a → TellsAccess c old new u q x
    → (t : TxId) → upd a.script u (a.script u ++ x ∷ []) t ≡ accesses_in t q new
scripts_more a old new c u q x same tells t =
    ap (λ xs. pick (same_tx t u) (xs ++ x ∷ []) (a.script t)) (same u) ∙ ap (pick (same_tx t u) (accesses_in u q old ++ x ∷ [])) (same t) ∙ sym (tells.here t)

some_same : (v w : ℕ) → (let o : Option ℕ = Some v in o) ≡ Some w → v ≡ w
some_same v w e = cc

pub reads_are_reading_law : ReadsAreReading
unfolding reading
reads_are_reading_law c old new u q v blank a adds reached same = (
  scripts_more a old new c u q (Read (seen a u)) same (read_tells_law c old new u q v (seen a u) adds).0,
  λ granted has version fresh.
      let is = fresh_law blank a (reached_holds blank a reached) u granted in
      (read_tells_law c old new u q v (seen a u) adds).1
      (record { page = current a; has = has; version = some_same v a.now (sym version ∙ is.0); leaves = subst (λ xs. Leaves xs (a.hist a.now) (seen a u)) (same u) is.1 })
      fresh,
)

pub writes_are_writing_law : WritesAreWriting
unfolding writing
writes_are_writing_law c old new u q v place piece blank a adds was reached same = (
  scripts_more a old new c u q (Write place piece) same (write_tells_law c old new u q v place piece was adds).0,
  λ granted has version fresh.
      let is = fresh_law blank a (reached_holds blank a reached) u granted in
      (write_tells_law c old new u q v place piece was adds).1 (current a) has (some_same v a.now (sym version ∙ is.0)) fresh,
)

-- ---- a commit

-- accesses that don't write leave the page
reads_leave : (xs : List Access) (page left : List ℕ) → writes xs ≡ false → Leaves xs page left → page ≡ left
reads_leave [] page left none l = l
reads_leave (Read bytes ∷ xs) page left none l = reads_leave xs page left none l.1
reads_leave (Write place piece ∷ xs) page left none l = absurd (cc)

reads_stay : (xs : List Access) (page left : List ℕ) → writes xs ≡ false → Leaves xs page left → Leaves xs page page
reads_stay xs page left none l = subst (Leaves xs page) (sym (reads_leave xs page left none l)) l

granted_leaves : (page image : List ℕ) (xs : List Access) (h : Home) → IsGranted h → writes xs ≡ false → ScriptOk page xs image h → Leaves xs page page
granted_leaves page image xs Fresh g none ok = absurd g
granted_leaves page image xs (Asking m v) g none ok = absurd g
granted_leaves page image xs (Holding Shared) g none ok = ok
granted_leaves page image xs (Holding Exclusive) g none ok = reads_stay xs page image none ok
granted_leaves page image xs HoldingAsks g none ok = absurd g
granted_leaves page image xs Reading g none ok = ok
granted_leaves page image xs ReadingAsks g none ok = absurd g
granted_leaves page image xs (Ended v e) g none ok = absurd g
granted_leaves page image xs Gone g none ok = absurd g

own_version : (f : ℕ → List ℕ) (v : ℕ) (bytes : List ℕ) → updn f v bytes v ≡ bytes
own_version f v bytes =
    let same : eqb v v ≡ true = grind (arith, nat_tests) in ap (λ b. pick b bytes (f v)) same

-- what a commit leaves of a page
pub record IsLeft (t : TxId) (a b : Page) : Type 0 where
  pub leaves : Leaves (a.script t) (a.hist a.now) (b.hist b.now)
  pub version : version_after (a.script t) a.now ≡ b.now
  pub scripts : (u : TxId) → b.script u ≡ a.script u

commit_leaves : (blank : List ℕ) (t : TxId) (a b : Page) → Inv blank a → CommitStep t a b → IsLeft t a b
unfolding committing committing_reads
commit_leaves blank t a b i (wrote ranges holds some) =
    record {
      leaves = subst (Leaves (a.script t) (a.hist a.now)) (sym (own_version a.hist (suc a.now) (a.image t))) (subst (ScriptOk (a.hist a.now) (a.script t) (a.image t)) holds (i.accesses_hold.scripts t));
      version = ap (λ b. cond b (suc a.now) a.now) some;
      scripts = λ u. refl;
    }
commit_leaves blank t a b i (read granted none) =
    record {
      leaves = granted_leaves (a.hist a.now) (a.image t) (a.script t) (a.home t) granted none (i.accesses_hold.scripts t);
      version = ap (λ b. cond b (suc a.now) a.now) none;
      scripts = λ u. refl;
    }
commit_leaves blank t a b i (untouched none) =
    record {
      leaves = subst (λ xs. Leaves xs (a.hist a.now) (a.hist a.now)) (sym none) refl;
      version = ap (λ xs. version_after xs a.now) none;
      scripts = λ u. refl;
    }

pub commits_are_committing_law : CommitsAreCommitting
commits_are_committing_law c old new u blank page next adds reached steps within are =
    record {
      now_same = record { base = after.base; known = after.known; pages = λ p low. after.pages p low ∙ ap (λ v. let x : BasePage = record { version = v; bytes = (next p).hist (next p).now } in x) (version p low) };
      scripts = λ p low t. (left p low).scripts t ∙ are.scripts p low t ∙ sym ((commit_tells_law c old new u adds).accesses t p);
    }
  where
    left : (p : ℕ) → p < c.pages → IsLeft u (page p) (next p)
    left p low = commit_leaves blank u (page p) (next p) (reached_holds blank (page p) (reached p low)) (steps p low)

    version : (p : ℕ) → p < c.pages → version_after (accesses_in u p old) (page p).now ≡ (next p).now
    version p low = ap (λ xs. version_after xs (page p).now) (sym (are.scripts p low u)) ∙ (left p low).version

    after : IsNow c new (λ p. record { version = version_after (accesses_in u p old) (page p).now; bytes = (next p).hist (next p).now })
    after =
        commit_runs_law c old new u (λ p. current (page p)) (λ p. (next p).hist (next p).now) adds are.now_same
        (λ p low. subst (λ xs. Leaves xs ((page p).hist (page p).now) ((next p).hist (next p).now)) (are.scripts p low u) (left p low).leaves) within
