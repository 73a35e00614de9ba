-- Redo of some pages of a table, from the versions to which it leads.
use Rattle.std.proofs.Common.{◌≡◌, ℕ, ◌+◌, ◌<◌, ◌≤◌, ◌==◌, nat_lt, Bool, true, false, cond, Option, Some, None, is_some, List, [], ◌∷◌, ◌++◌, fold, refl, ap, sym, ◌∙◌, arith}
use Rattle.std.specs.Prelude.{Result, Ok, Err}
use Rattle.std.proofs.lemmas.Bool.Decides.{nat_tests}
use Rattle.std.specs.List.{AllByRecursion, filter}
use Rattle.pcl_base.specs.Limits.{Sizes}
use Rattle.text_rules.specs.StoredPage.{PageAt, BadNumber, stored_page}
use Rattle.run_rules.specs.Disk.{Disk, raw_page}
use Rattle.run_rules.specs.Redo.{redone, all_records, redone_if, redo}
use Rattle.node_rules.specs.Words.{pick}
use Rattle.node_rules.specs.LockRule.{LockEntry}
use Rattle.node_rules.specs.LockTable.{LockTable, entry_at, put_entry, set_version}
use Rattle.node_rules.specs.Work.{Outcome, Goes, Differs, and_then, and_so, page_or_differs}
use Rattle.install_laws.specs.InstallPlans.{PageWrite, RedoPlan, plan_redo, plan_page, after_writes, plan_pages}
use Rattle.install_laws.proofs.Words.{AreRising}
use Rattle.partition_redo.specs.Chains.{AreAll, IsRedone, Bad, bad_or, first_bad}
use Rattle.install_plans.specs.Plans.{set_one, write_of, writes_of}
use Rattle.install_plans.proofs.Settled.{entry_put}

-- the entries of some pages are as in another table
abbrev pub Same : LockTable → LockTable → List ℕ → Type 0
Same u t ps = AllByRecursion (λ p. entry_at u p ≡ entry_at t p) ps

pub same_all : (t : LockTable) (ps : List ℕ) → Same t t ps
same_all t [] = tt
same_all t (p ∷ ps) = (refl, same_all t ps)

same_kept : (p low : ℕ) (e : LockEntry) (u t : LockTable) (ps : List ℕ) → p < low → AreRising low ps → Same u t ps → Same (put_entry u p e) t ps
same_kept p low e u t [] less rising same = tt
same_kept p low e u t (r ∷ rs) less rising same =
    let from : low ≤ r = rising.0 in (
      entry_put u.entries p e r ∙ (ap (λ b. pick b e (entry_at u r)) (apart p r (omega (arith, less, from))) ∙ same.0),
      same_kept p (r + 1) e u t rs (omega (arith, less, from)) rising.1 same.1,
    )
  where
    apart : (p r : ℕ) → p < r → (p == r) ≡ false
    apart p r less = grind (arith, nat_tests)

abbrev version_in : Option PageAt → ℕ
version_in None = 0
version_in (Some at) = at.version

-- the outcome at a page that may differ
abbrev differs_at : Option Bad → Outcome RedoPlan
differs_at None = Differs 0 0 0
differs_at (Some x) = Differs x.page x.expected x.found

module _ (needed : LockTable → ℕ → Bool) (c : Sizes) (d : Disk) (local : (u t : LockTable) (p : ℕ) → entry_at u p ≡ entry_at t p → needed u p ≡ needed t p) (t : LockTable) where
  -- what redo of some pages comes to, where none of them differs
  abbrev Comes : List ℕ → List ℕ → LockTable → List (ℕ × ℕ) → Type 0
  Comes ps fs u vs =
      plan_pages needed (all_records c d) d.pages ps u
      ≡ Goes (record { table = fold set_one u vs; writes = writes_of (all_records c d) d.pages fs })

  -- and where one differs
  abbrev Fails : List ℕ → LockTable → Bad → Type 0
  Fails ps u b = plan_pages needed (all_records c d) d.pages ps u ≡ Differs b.page b.expected b.found

  abbrev next : List ℕ → RedoPlan → Outcome RedoPlan
  next ps r = and_so (plan_pages needed (all_records c d) d.pages ps r.table) (after_writes r.writes)

  redone_next : (p : ℕ) (ps fs : List ℕ) (u : LockTable) (vs : List (ℕ × ℕ)) → AreRising (p + 1) ps → Same u t ps
      → AreAll (IsRedone c d) (p ∷ fs) vs → first_bad d (p ∷ fs) ≡ None
      → ((w : LockTable) (ws : List (ℕ × ℕ)) → Same w t ps → AreAll (IsRedone c d) fs ws → first_bad d fs ≡ None → Comes ps fs w ws)
      → (o : Result PageAt BadNumber) → stored_page p (raw_page d.pages p) ≡ o
      → and_then (and_so (page_or_differs p o) (λ old. plan_redo p old (redone (all_records c d) p old) u)) (next ps)
      ≡ Goes (record { table = fold set_one u vs; writes = write_of (all_records c d) p o ++ writes_of (all_records c d) d.pages fs })
  unfolding redo
  redone_next p ps fs u [] rising same all good rest o is = absurd all
  redone_next p ps fs u (v ∷ vs) rising same all good rest (Err bad) is =
      let none : true ≡ false = ap is_some (sym (ap (λ x. bad_or p x (first_bad d fs)) is) ∙ good) in absurd (cc)
  redone_next p ps fs u (v ∷ vs) rising same all good rest (Ok old) is =
      let new : PageAt = redone (all_records c d) p old in
      let found : Some new ≡ Some all.0.1.0 = sym (ap (redone_if (all_records c d) p) is) ∙ all.0.1.1 in
      let version : new.version ≡ v.1 = ap version_in found ∙ all.0.1.2 in
      let later : set_version u p new.version ≡ set_version u v.0 v.1 = λ i. set_version u (sym all.0.0 i) (version i) in
      let fine : first_bad d fs ≡ None = sym (ap (λ x. bad_or p x (first_bad d fs)) is) ∙ good in
      let ws : List PageWrite = pick (nat_lt old.version new.version) (record { page = p; at = new } ∷ []) [] in
      ap (λ x. and_so x (after_writes ws))
      (rest (set_version u p new.version) vs (same_kept p (p + 1) (record (entry_at u p) { version = new.version }) u t ps (omega arith) rising same) all.1 fine)
      ∙ ap (λ w. let r : RedoPlan = record { table = fold set_one w vs; writes = ws ++ writes_of (all_records c d) d.pages fs } in Goes r) later

  -- redo of the pages that need it
  pub redone_all : (low : ℕ) (ps : List ℕ) (u : LockTable) (vs : List (ℕ × ℕ)) → AreRising low ps → Same u t ps
      → AreAll (IsRedone c d) (filter (needed t) ps) vs → first_bad d (filter (needed t) ps) ≡ None → Comes ps (filter (needed t) ps) u vs
  unfolding plan_pages writes_of
  redone_all low [] u [] rising same all good = refl
  redone_all low [] u (v ∷ vs) rising same all good = absurd all
  redone_all low (p ∷ ps) u vs rising same all good =
      by (needed t p) refl all good (λ w ws more alls fine. redone_all (p + 1) ps w ws rising.1 more alls fine)
    where
      fs : List ℕ
      fs = filter (needed t) ps

      by : (b : Bool) → needed t p ≡ b → AreAll (IsRedone c d) (cond b (p ∷ fs) fs) vs → first_bad d (cond b (p ∷ fs) fs) ≡ None
          → ((w : LockTable) (ws : List (ℕ × ℕ)) → Same w t ps → AreAll (IsRedone c d) fs ws → first_bad d fs ≡ None → Comes ps fs w ws)
          → and_then (plan_page (needed u p) (all_records c d) d.pages p u) (next ps)
          ≡ Goes (record { table = fold set_one u vs; writes = writes_of (all_records c d) d.pages (cond b (p ∷ fs) fs) })
      by true is alls fine rest =
          ap (λ b. and_then (plan_page b (all_records c d) d.pages p u) (next ps)) (local u t p same.0 ∙ is)
          ∙ redone_next p ps fs u vs rising.1 same.1 alls fine rest (stored_page p (raw_page d.pages p)) refl
      by false is alls fine rest =
          ap (λ b. and_then (plan_page b (all_records c d) d.pages p u) (next ps)) (local u t p same.0 ∙ is)
          ∙ ap (λ x. and_so x (after_writes [])) (rest u vs same.1 alls fine)

  bad_next : (p : ℕ) (ps fs : List ℕ) (u : LockTable) (b : Bad) → AreRising (p + 1) ps → Same u t ps → first_bad d (p ∷ fs) ≡ Some b
      → ((w : LockTable) → Same w t ps → first_bad d fs ≡ Some b → Fails ps w b)
      → (o : Result PageAt BadNumber) → stored_page p (raw_page d.pages p) ≡ o
      → and_then (and_so (page_or_differs p o) (λ old. plan_redo p old (redone (all_records c d) p old) u)) (next ps) ≡ Differs b.page b.expected b.found
  bad_next p ps fs u b rising same bad rest (Err n) is =
      let first : Some (record { page = p; expected = n.expected; found = n.found }) ≡ Some b = sym (ap (λ x. bad_or p x (first_bad d fs)) is) ∙ bad in
      ap differs_at first
  bad_next p ps fs u b rising same bad rest (Ok old) is =
      let new : PageAt = redone (all_records c d) p old in
      let ws : List PageWrite = pick (nat_lt old.version new.version) (record { page = p; at = new } ∷ []) [] in
      let later : first_bad d fs ≡ Some b = sym (ap (λ x. bad_or p x (first_bad d fs)) is) ∙ bad in
      ap (λ x. and_so x (after_writes ws))
      (rest (set_version u p new.version) (same_kept p (p + 1) (record (entry_at u p) { version = new.version }) u t ps (omega arith) rising same) later)

  -- redo of pages one of which differs
  pub bad_one : (low : ℕ) (ps : List ℕ) (u : LockTable) (b : Bad) → AreRising low ps → Same u t ps → first_bad d (filter (needed t) ps) ≡ Some b → Fails ps u b
  unfolding plan_pages
  bad_one low [] u b rising same bad = absurd (cc)
  bad_one low (p ∷ ps) u b rising same bad =
      by (needed t p) refl bad (λ w more later. bad_one (p + 1) ps w b rising.1 more later)
    where
      fs : List ℕ
      fs = filter (needed t) ps

      by : (x : Bool) → needed t p ≡ x → first_bad d (cond x (p ∷ fs) fs) ≡ Some b
          → ((w : LockTable) → Same w t ps → first_bad d fs ≡ Some b → Fails ps w b)
          → and_then (plan_page (needed u p) (all_records c d) d.pages p u) (next ps) ≡ Differs b.page b.expected b.found
      by true is first rest =
          ap (λ x. and_then (plan_page x (all_records c d) d.pages p u) (next ps)) (local u t p same.0 ∙ is)
          ∙ bad_next p ps fs u b rising.1 same.1 first rest (stored_page p (raw_page d.pages p)) refl
      by false is first rest =
          ap (λ x. and_then (plan_page x (all_records c d) d.pages p u) (next ps)) (local u t p same.0 ∙ is)
          ∙ ap (λ x. and_so x (after_writes [])) (rest u same.1 first)
