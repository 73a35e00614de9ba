-- Which pages a script writes, and what running it makes of their versions.
use Rattle.std.proofs.Common.{◌≡◌, refl, ap, sym, subst, ◌∙◌, ℕ, zero, suc, ◌+◌, ◌<◌, ◌==◌, ◌&&◌, ◌||◌, Bool, true, false, List, [], ◌∷◌, ◌++◌, length, Option, Some, None, is_some, Result, Ok, Err, arith}
use Rattle.std.specs.Prelude.{IfSome}
use Rattle.std.specs.List.{list_any}
use Rattle.std.specs.Result.{result_ok}
use Rattle.pcl_base.specs.declared.script.Step.{Step}
use Rattle.pcl_base.specs.declared.script.Step.TheVariants as step
use Rattle.pcl_base.specs.declared.tx.TxId.{TxId}
use Rattle.run_rules.specs.Words.{pick, same_tx}
use Rattle.run_rules.specs.Base.{Base, version_at}
use Rattle.run_rules.specs.Now.{ran_on}
use Rattle.run_rules.specs.Running.{Difference, worked, writes, raised_from, with_versions}
use Rattle.run_rules.specs.Script.{Moment, Asks, Gets, Writes, Commits, last_write, write_step, steps_at, script_from}
use Rattle.run_laws.specs.Laws.{AreWritten}
use Rattle.run_laws.proofs.Runs.{worked-written}
use Rattle.home_laws.proofs.Tests.{one, tx_turned, tx_equal, tx_same}
use Rattle.account_versions.specs.Asked.{IsAskedFor, AreAskedFor}
use Rattle.account_versions.specs.Written.{grants_write, was_granted, ScriptsHaveWrites}
use Rattle.account_versions.proofs.TraceParts.Counting.{or_none}

-- ---- the writes of a script

any_joined : (p : ℕ) (xs ys : List Step) → list_any (writes p) (xs ++ ys) ≡ list_any (writes p) xs || list_any (writes p) ys
any_joined p [] ys = refl
any_joined p (x ∷ xs) ys = by (writes p x) (any_joined p xs ys)
  where
    by : (b : Bool) → list_any (writes p) (xs ++ ys) ≡ list_any (writes p) xs || list_any (writes p) ys → b || list_any (writes p) (xs ++ ys) ≡ (b || list_any (writes p) xs) || list_any (writes p) ys
    by true rest = refl
    by false rest = rest

-- the same two names
tx_same_turned : (t u : TxId) → same_tx t u ≡ same_tx u t
tx_same_turned t u = by (same_tx t u) refl
  where
    by : (b : Bool) → same_tx t u ≡ b → b ≡ same_tx u t
    by true e = sym (ap (λ (v : TxId). same_tx u v) (tx_equal t u e) ∙ tx_same u)
    by false e = sym (tx_turned t u e)

-- one moment
moment_writes : (t : TxId) (p : ℕ) (w : Option (ℕ × List ℕ)) (m : Moment) → IsAskedFor t w m → list_any (writes p) (steps_at t w m) ≡ grants_write t p m
moment_writes t p w (Asks u v) asked = refl
moment_writes t p w (Gets u q v bytes) asked = by (same_tx t u)
  where
    by : (b : Bool) → list_any (writes p) (pick b (step.Read q bytes ∷ []) []) ≡ false
    by true = refl
    by false = refl
moment_writes t p w (Writes u q v) asked = ap (λ (b : Bool). list_any (writes p) (pick b (write_step q w) [])) (tx_same_turned t u) ∙ by (same_tx u t) w (λ e. asked (tx_same_turned t u ∙ e))
  where
    by : (b : Bool) (o : Option (ℕ × List ℕ)) → (b ≡ true → is_some o ≡ true) → list_any (writes p) (pick b (write_step q o) []) ≡ b && q == p
    by true None asked = let bad = asked refl in absurd (cc)
    by true (Some x) asked = or_none (q == p)
    by false o asked = refl
moment_writes t p w (Commits u) asked = refl

script_writes : (t : TxId) (p : ℕ) (w : Option (ℕ × List ℕ)) (ms : List Moment) → AreAskedFor t w ms → list_any (writes p) (script_from t w ms) ≡ was_granted t p ms
unfolding script_from AreAskedFor
script_writes t p w [] asked = refl
script_writes t p w (m ∷ ms) asked =
    any_joined p (steps_at t w m) (script_from t (last_write t w m) ms)
    ∙ ap (λ (b : Bool). b || list_any (writes p) (script_from t (last_write t w m) ms)) (moment_writes t p w m asked.0)
    ∙ ap (λ (b : Bool). grants_write t p m || b) (script_writes t p (last_write t w m) ms asked.1)

pub scripts_have_writes_law : ScriptsHaveWrites
scripts_have_writes_law t p ms asked = script_writes t p None ms (asked t)

-- what was asked for stays so in a beginning
pub asked_front : (t : TxId) (w : Option (ℕ × List ℕ)) (ms ns : List Moment) → AreAskedFor t w (ms ++ ns) → AreAskedFor t w ms
unfolding AreAskedFor
asked_front t w [] ns asked = tt
asked_front t w (m ∷ ms) ns asked = (asked.0, asked_front t (last_write t w m) ms ns asked.1)

-- ---- versions

raised_version : (steps : List Step) (k : ℕ) (pages : Base) (p : ℕ) → p < length pages
    → version_at (raised_from steps k pages) p ≡ version_at pages p + one (list_any (writes (k + p)) steps)
unfolding raised_from
raised_version steps k [] p low = absurd (omega (arith, low))
raised_version steps k (page ∷ pages) zero low = by (list_any (writes k) steps) ∙ ap (λ (n : ℕ). page.version + one (list_any (writes n) steps)) (let e : k ≡ k + 0 = omega arith in e)
  where
    by : (b : Bool) → pick b (page.version + 1) page.version ≡ page.version + one b
    by true = refl
    by false = omega arith
raised_version steps k (page ∷ pages) (suc p) low =
    raised_version steps (k + 1) pages p (omega (arith, low))
    ∙ ap (λ (n : ℕ). version_at pages p + one (list_any (writes n) steps)) (let e : k + 1 + p ≡ k + suc p = omega arith in e)

raised_length : (steps : List Step) (k : ℕ) (pages : Base) → length (raised_from steps k pages) ≡ length pages
unfolding raised_from
raised_length steps k [] = refl
raised_length steps k (page ∷ pages) = ap suc (raised_length steps (k + 1) pages)

-- a base with so many pages, whose versions are those of another one, but for the pages that some steps write
pub record IsRaised (steps : List Step) (before after : Base) : Type 0 where
  pub count : length after ≡ length before
  pub versions : (p : ℕ) → p < length before → version_at after p ≡ version_at before p + one (list_any (writes p) steps)

pub run_raises : (steps : List Step) (o : Option Base) → IfSome (ran_on o steps) (λ (after : Base). (before : Base) × (o ≡ Some before) × IsRaised steps before after)
unfolding ran_on
run_raises steps None = tt
run_raises steps (Some before) = by (worked before 0 steps) refl
  where
    by : (r : Result Base Difference) → worked before 0 steps ≡ r
        → IfSome (result_ok (with_versions steps r)) (λ (after : Base). (b : Base) × (let o : Option Base = Some before in o ≡ Some b) × IsRaised steps b after)
    by (Ok w) ran =
        let is : AreWritten steps before w = worked-written steps before 0 w ran in (
          before,
          refl,
          record {
            count = raised_length steps 0 w ∙ is.count;
            versions = λ p low.
                raised_version steps 0 w p (subst (λ (n : ℕ). p < n) (sym is.count) low)
                ∙ ap (λ (n : ℕ). n + one (list_any (writes (0 + p)) steps)) (is.versions p)
                ∙ ap (λ (n : ℕ). version_at before p + one (list_any (writes n) steps)) (let e : 0 + p ≡ p = omega arith in e);
          },
        )
    by (Err d) ran = tt
