-- Moment by moment the granted writes and versions of a ledger stay beside what is known of now.
use Rattle.std.proofs.Common.{◌≡◌, refl, ap, sym, subst, ◌∙◌, ℕ, ◌+◌, ◌<◌, ◌≤◌, ◌||◌, Bool, false, List, [], ◌∷◌, ◌++◌, length, replicate, slice_index, Option, Some, None, arith}
use Rattle.std.specs.Prelude.{IfSome}
use Rattle.std.specs.List.{list_any, filter, fold}
use Rattle.pcl_base.specs.Limits.{Sizes}
use Rattle.pcl_base.specs.declared.tx.TxId.{TxId}
use Rattle.run_rules.specs.Words.{same_tx}
use Rattle.run_rules.specs.Base.{BasePage, Base, version_at}
use Rattle.run_rules.specs.Ledger.{is_of, first_ledger}
use Rattle.run_rules.specs.Now.{Story, first_story, ran_on, after, after_all}
use Rattle.run_rules.specs.Script.{Moment, Asks, Gets, Writes, Commits, script}
use Rattle.run_rules.specs.Taking.{one_more}
use Rattle.home_laws.proofs.Tests.{one}
use Rattle.account_strands.proofs.Opening.{all_zero, blank_version, again_length}
use Rattle.account_versions.specs.Asked.{WritesAreAsked}
use Rattle.account_versions.specs.Written.{grants_write, was_granted}
use Rattle.account_versions.proofs.TraceParts.Cores.{Core, core_of, core_after, cores_after}
use Rattle.account_versions.proofs.TraceParts.Counting.{or_none, any_more, noted_any, noted_once, raised_length, committed_look}
use Rattle.account_versions.proofs.TraceParts.Scripts.{scripts_have_writes_law, asked_front, IsRaised, run_raises}

-- each page of a base has the version of a list
abbrev pub HasAll : ℕ → List ℕ → Base → Type 0
HasAll pages vs b = (length b ≡ pages) × ((p : ℕ) → p < pages → slice_index vs p ≡ version_at b p)

-- granted writes and versions of a ledger of so many pages, beside what is known of now
pub record Fits (pages : ℕ) (s : Story) (k : Core) : Type 0 where
  pub count : length k.versions ≡ pages
  pub done : (t : TxId) (p : ℕ) → list_any (is_of t p) k.done ≡ was_granted t p s.seen
  pub once : (t : TxId) (p : ℕ) → length (filter (is_of t p) k.done) ≤ 1
  pub now : WritesAreAsked s.seen → IfSome s.base (HasAll pages k.versions)

-- a moment that grants no write
quiet_more : (t : TxId) (p : ℕ) (seen : List Moment) (m : Moment) → grants_write t p m ≡ false → was_granted t p seen ≡ was_granted t p (seen ++ m ∷ [])
quiet_more t p seen m none = sym (any_more (grants_write t p) seen m ∙ ap (λ b. was_granted t p seen || b) none ∙ or_none (was_granted t p seen))

-- what was asked for before a further moment
before_more : (seen : List Moment) (m : Moment) → WritesAreAsked (seen ++ m ∷ []) → WritesAreAsked seen
before_more seen m asked t = asked_front t None seen (m ∷ []) (asked t)

module _ (pages : ℕ) where
  quiet_fits : (s : Story) (k : Core) (m : Moment) → ((t : TxId) (p : ℕ) → grants_write t p m ≡ false) → Fits pages s k → Fits pages (record { seen = s.seen ++ m ∷ []; base = s.base }) k
  quiet_fits s k m none is =
      record {
        count = is.count;
        done = λ t p. is.done t p ∙ quiet_more t p s.seen m (none t p);
        once = is.once;
        now = λ asked. is.now (before_more s.seen m asked);
      }

  -- a commit point
  point_fits : (s : Story) (k : Core) (u : TxId) → Fits pages s k → Fits pages (record { seen = s.seen ++ Commits u ∷ []; base = ran_on s.base (script u s.seen) }) (core_after k (Commits u))
  point_fits s k u is =
      record {
        count = raised_length (filter (λ x. same_tx x.tx u) k.done) k.versions ∙ is.count;
        done = λ t p. is.done t p ∙ quiet_more t p s.seen (Commits u) refl;
        once = is.once;
        now = λ asked. by (before_more s.seen (Commits u) asked) (ran_on s.base (script u s.seen)) (run_raises (script u s.seen) s.base);
      }
    where
      raised : WritesAreAsked s.seen → (before after : Base) → HasAll pages k.versions before → IsRaised (script u s.seen) before after
          → HasAll pages (fold one_more k.versions (filter (λ x. same_tx x.tx u) k.done)) after
      raised asked before after all up = (
        up.count ∙ all.0,
        λ p low.
            committed_look u k.done k.versions p (subst (λ (n : ℕ). p < n) (sym is.count) low) (is.once u p)
            ∙ ap (λ (n : ℕ). n + one (list_any (is_of u p) k.done)) (all.1 p low)
            ∙ ap (λ (b : Bool). version_at before p + one b) (is.done u p ∙ sym (scripts_have_writes_law u p s.seen asked))
            ∙ sym (up.versions p (subst (λ (n : ℕ). p < n) (sym all.0) low)),
      )

      by : WritesAreAsked s.seen → (o : Option Base) → IfSome o (λ (after : Base). (before : Base) × (s.base ≡ Some before) × IsRaised (script u s.seen) before after)
          → IfSome o (HasAll pages (fold one_more k.versions (filter (λ x. same_tx x.tx u) k.done)))
      by asked None ran = tt
      by asked (Some b) ran = raised asked ran.0 b (subst (λ (o : Option Base). IfSome o (HasAll pages k.versions)) ran.1 (is.now asked)) ran.2

  moment_fits : (s : Story) (k : Core) (m : Moment) → Fits pages s k → Fits pages (after s m) (core_after k m)
  unfolding after
  moment_fits s k (Asks u v) is = quiet_fits s k (Asks u v) (λ t p. refl) is
  moment_fits s k (Gets u q v bytes) is = quiet_fits s k (Gets u q v bytes) (λ t p. refl) is
  moment_fits s k (Writes u q v) is =
      record {
        count = is.count;
        done = λ t p.
            noted_any u q t p k.done ∙ ap (λ b. b || grants_write t p (Writes u q v)) (is.done t p) ∙ sym (any_more (grants_write t p) s.seen (Writes u q v));
        once = λ t p. noted_once u q t p k.done (is.once t p);
        now = λ asked. is.now (before_more s.seen (Writes u q v) asked);
      }
  moment_fits s k (Commits u) is = point_fits s k u is

  pub all_fit : (ms : List Moment) (s : Story) (k : Core) → Fits pages s k → Fits pages (after_all s ms) (cores_after k ms)
  all_fit [] s k is = is
  all_fit (m ∷ ms) s k is = all_fit ms (after s m) (core_after k m) (moment_fits s k m is)

  pub all_seen : (ms : List Moment) (s : Story) → (after_all s ms).seen ≡ s.seen ++ ms
  unfolding after
  all_seen [] s = sym (append_none s.seen)
    where
      append_none : (xs : List Moment) → xs ++ [] ≡ xs
      append_none [] = refl
      append_none (x ∷ xs) = ap (λ ys. x ∷ ys) (append_none xs)
  all_seen (m ∷ ms) s = all_seen ms (after s m) ∙ joined s.seen
    where
      joined : (xs : List Moment) → (xs ++ m ∷ []) ++ ms ≡ xs ++ m ∷ ms
      joined [] = refl
      joined (x ∷ xs) = ap (λ ys. x ∷ ys) (joined xs)

-- the first ledger
pub first_fits : (c : Sizes) → Fits c.pages (first_story c) (core_of (first_ledger c))
first_fits c =
    record {
      count = again_length 0 c.pages;
      done = λ t p. refl;
      once = λ t p. few;
      now = λ asked. ((let x : BasePage = record { version = 0; bytes = replicate c.size 0 } in again_length x c.pages), λ p low. all_zero c.pages p ∙ sym (blank_version c.pages p (record { version = 0; bytes = replicate c.size 0 }) (record { version = 0; bytes = [] }) refl refl));
    }
  where
    few : 0 ≤ 1
    few = omega arith
