-- Redo of some pages is planning it from what is stored, and then writing the pages and putting the table.
use Rattle.std.proofs.Common.{◌≡◌, ℕ, ◌+◌, ◌<◌, ◌≤◌, nat_lt, Bool, true, false, List, [], ◌∷◌, ◌++◌, length, Some, None, refl, ap, sym, subst, ◌∙◌, arith}
use Rattle.std.specs.List.{AllByRecursion}
use Rattle.pcl_base.specs.declared.log.Record.{Record}
use Rattle.text_rules.specs.StoredPage.{PageAt, stored_page, stored_bytes}
use Rattle.run_rules.specs.Disk.{raw_page}
use Rattle.run_rules.specs.Redo.{redone}
use Rattle.node_rules.specs.Words.{pick}
use Rattle.node_rules.specs.LockTable.{LockTable}
use Rattle.node_rules.specs.NodeState.{HomeState, table_at}
use Rattle.node_rules.specs.Work.{HomeWork, Work, Outcome, Goes, Differs, and_then, and_so, for_each, work_of_home, with_home_work, with_node, read_page, page_or_differs}
use Rattle.node_rules.specs.InstallRule.{write_newer, version_in, redo_to, redo_page, redo_if}
use Rattle.install_laws.specs.InstallPlans.{PageWrite, RedoPlan, plan_redo, plan_page, after_writes, plan_pages, write_one, write_all, put_planned}
use Rattle.install_laws.proofs.Words.{AreRising, set_here, set_other, set_twice, set_length, more_other}
use Rattle.install_laws.proofs.Outcomes.{On, on_then, on_so}
use Rattle.install_laws.proofs.Grants.{with_tables}
use Rattle.install_laws.proofs.Settling.{put_same}

pub write_append : (xs ys : List PageWrite) (w : HomeWork) → write_all (xs ++ ys) w ≡ write_all ys (write_all xs w)
unfolding write_all
write_append [] ys w = refl
write_append (x ∷ xs) ys w = write_append xs ys (write_one x w)

-- writes change the buffer of a home alone
pub write_home : (xs : List PageWrite) (w : HomeWork) → (write_all xs w).home ≡ (let h : HomeState = record (w.home) { pool = (write_all xs w).home.pool } in h)
unfolding write_all
write_home [] w = refl
write_home (x ∷ xs) w = write_home xs (write_one x w)

-- and no other page
pub write_pages : (xs : List PageWrite) (w : HomeWork) (p : ℕ) → AllByRecursion (λ (x : PageWrite). p ≡ x.page → ⊥) xs → raw_page (write_all xs w).pages p ≡ raw_page w.pages p
unfolding write_all
write_pages [] w p all = refl
write_pages (x ∷ xs) w p all = write_pages xs (write_one x w) p all.1 ∙ set_other w.pages x.page p (stored_bytes x.page x.at) [] all.0

-- the work after planned writes, with the table
abbrev pub redone_work : ℕ → Work → RedoPlan → Work
redone_work q w r = with_home_work (put_planned q (Some r.table) w) (write_all r.writes (work_of_home w))

redone_more : (q : ℕ) (w : Work) (r s : RedoPlan) → redone_work q (redone_work q w r) s ≡ redone_work q w (after_writes r.writes s)
redone_more q w r s =
    λ i. with_home_work (with_tables (set_twice w.node.tables q (Some r.table) (Some s.table) i) w) (sym (write_append r.writes s.writes (work_of_home w)) i)

page_redone : (rs : List Record) (pages : List (List ℕ)) (q p : ℕ) (t : LockTable) (w : Work) → table_at w.node q ≡ Some t → raw_page w.pages p ≡ raw_page pages p
    → (b : Bool) → redo_if b rs q p w ≡ and_so (plan_page b rs pages p t) (redone_work q w)
unfolding redo_page write_all
page_redone rs pages q p t w there same false = ap Goes (sym (put_same q t w there))
page_redone rs pages q p t w there same true =
    ap (λ raw. and_so (page_or_differs p (stored_page p raw)) (λ old. redo_to q p old (redone rs p old) w)) same ∙ by (read_page pages p)
  where
    written : (old new : PageAt) (b : Bool) → with_home_work (with_node w (version_in q p new.version (Some t) w.node)) (write_newer b p new (work_of_home w))
        ≡ redone_work q w (record (plan_redo p old new t) { writes = pick b (record { page = p; at = new } ∷ []) [] })
    written old new true = refl
    written old new false = refl

    by : (o : Outcome PageAt) → and_so o (λ old. redo_to q p old (redone rs p old) w) ≡ and_so (and_so o (λ old. plan_redo p old (redone rs p old) t)) (redone_work q w)
    by (Goes old) =
        ap Goes (ap (λ o. with_home_work (with_node w (version_in q p (redone rs p old).version o w.node)) (write_newer (nat_lt old.version (redone rs p old).version) p (redone rs p old) (work_of_home w))) there
        ∙ written old (redone rs p old) (nat_lt old.version (redone rs p old).version))
    by (Differs n e f) = refl

-- what redo of one page writes is that page
page_writes : (P : ℕ → Type 0) (b : Bool) (rs : List Record) (pages : List (List ℕ)) (p : ℕ) (t : LockTable) → P p → On (λ r. AllByRecursion (λ (x : PageWrite). P x.page) r.writes) (plan_page b rs pages p t)
page_writes P false rs pages p t here = tt
page_writes P true rs pages p t here = by (read_page pages p)
  where
    written : (old new : PageAt) (b : Bool) → AllByRecursion (λ (x : PageWrite). P x.page) (let ws : List PageWrite = pick b (record { page = p; at = new } ∷ []) [] in ws)
    written old new true = (here, tt)
    written old new false = tt

    by : (o : Outcome PageAt) → On (λ r. AllByRecursion (λ (x : PageWrite). P x.page) r.writes) (and_so o (λ old. plan_redo p old (redone rs p old) t))
    by (Goes old) = written old (redone rs p old) (nat_lt old.version (redone rs p old).version)
    by (Differs n e f) = tt

all_more : {X : Type 0} (P Q : X → Type 0) → ((x : X) → P x → Q x) → (xs : List X) → AllByRecursion P xs → AllByRecursion Q xs
all_more P Q f [] all = tt
all_more P Q f (x ∷ xs) all = (f x all.0, all_more P Q f xs all.1)

pub all_append : {X : Type 0} (P : X → Type 0) (xs ys : List X) → AllByRecursion P xs → AllByRecursion P ys → AllByRecursion P (xs ++ ys)
all_append P [] ys all more = more
all_append P (x ∷ xs) ys all more = (all.0, all_append P xs ys all.1 more)

-- some values, one after another
redone_then : (q : ℕ) (w : Work) (P : RedoPlan → Type 0) (o : Outcome RedoPlan) (f : Work → Outcome Work) (g : RedoPlan → Outcome RedoPlan) → On P o
    → ((r : RedoPlan) → P r → f (redone_work q w r) ≡ and_so (g r) (redone_work q (redone_work q w r)))
    → and_then (and_so o (redone_work q w)) f ≡ and_so (and_then o (λ r. and_so (g r) (after_writes r.writes))) (redone_work q w)
redone_then q w P (Differs n e d) f g h k = refl
redone_then q w P (Goes r) f g h k = k r h ∙ by (g r)
  where
    by : (o : Outcome RedoPlan) → and_so o (redone_work q (redone_work q w r)) ≡ and_so (and_so o (after_writes r.writes)) (redone_work q w)
    by (Goes s) = ap Goes (redone_more q w r s)
    by (Differs n e d) = refl

module _ (needed : LockTable → ℕ → Bool) (rs : List Record) (pages : List (List ℕ)) where
  pub redo_is_planned : (q : ℕ) (f : ℕ → Work → Outcome Work) → ((p : ℕ) (t : LockTable) (w : Work) → table_at w.node q ≡ Some t → f p w ≡ redo_if (needed t p) rs q p w)
      → (ps : List ℕ) (low : ℕ) → AreRising low ps → (t : LockTable) (w : Work) → q < length w.node.tables → table_at w.node q ≡ Some t
      → ((x : ℕ) → low ≤ x → raw_page w.pages x ≡ raw_page pages x)
      → for_each f ps w ≡ and_so (plan_pages needed rs pages ps t) (redone_work q w)
  unfolding for_each plan_pages write_all
  redo_is_planned q f each [] low rising t w inside there same = ap Goes (sym (put_same q t w there))
  redo_is_planned q f each (p ∷ ps) low rising t w inside there same =
      ap (λ o. and_then o (for_each f ps)) (each p t w there ∙ page_redone rs pages q p t w there (same p rising.0) (needed t p))
      ∙ redone_then q w (λ r. AllByRecursion (λ (x : PageWrite). x.page ≡ p) r.writes) (plan_page (needed t p) rs pages p t) (for_each f ps) (λ r. plan_pages needed rs pages ps r.table)
      (page_writes (λ n. n ≡ p) (needed t p) rs pages p t refl)
      (λ r ws.
      redo_is_planned q f each ps (p + 1) rising.1 r.table (redone_work q w r) (subst (λ n. q < n) (sym (set_length w.node.tables q (Some r.table))) inside)
      (set_here w.node.tables q (Some r.table) None inside)
      (λ x more.
      write_pages r.writes (work_of_home w) x
      (all_more (λ (y : PageWrite). y.page ≡ p) (λ y. x ≡ y.page → ⊥) (λ y e s. more_other p x (omega (arith, more)) (s ∙ e)) r.writes ws)
      ∙ same x (omega (arith, more, rising.0))))

  -- what is written are some of the pages
  pub writes_of : (P : ℕ → Type 0) (ps : List ℕ) (t : LockTable) → AllByRecursion P ps → On (λ r. AllByRecursion (λ (x : PageWrite). P x.page) r.writes) (plan_pages needed rs pages ps t)
  unfolding plan_pages
  writes_of P [] t all = tt
  writes_of P (p ∷ ps) t all =
      on_then (λ r. AllByRecursion (λ (x : PageWrite). P x.page) r.writes) (λ r. AllByRecursion (λ (x : PageWrite). P x.page) r.writes)
      (plan_page (needed t p) rs pages p t) (λ r. and_so (plan_pages needed rs pages ps r.table) (after_writes r.writes)) (page_writes P (needed t p) rs pages p t all.0)
      (λ r ws.
      on_so (λ s. AllByRecursion (λ (x : PageWrite). P x.page) s.writes) (λ s. AllByRecursion (λ (x : PageWrite). P x.page) s.writes)
      (plan_pages needed rs pages ps r.table) (after_writes r.writes) (writes_of P ps r.table all.1)
      (λ s more. all_append (λ (x : PageWrite). P x.page) r.writes s.writes ws more))

  -- and the table is served as it was
  pub serving_kept : (ps : List ℕ) (t : LockTable) (b : Bool) → t.serving ≡ b → On (λ r. r.table.serving ≡ b) (plan_pages needed rs pages ps t)
  unfolding plan_pages
  serving_kept [] t b e = e
  serving_kept (p ∷ ps) t b e =
      on_then (λ r. r.table.serving ≡ b) (λ r. r.table.serving ≡ b)
      (plan_page (needed t p) rs pages p t) (λ r. and_so (plan_pages needed rs pages ps r.table) (after_writes r.writes)) (page_serving (needed t p))
      (λ r same.
      on_so (λ s. s.table.serving ≡ b) (λ s. s.table.serving ≡ b) (plan_pages needed rs pages ps r.table) (after_writes r.writes) (serving_kept ps r.table b same) (λ s later. later))
    where
      page_read : (o : Outcome PageAt) → On (λ r. r.table.serving ≡ b) (and_so o (λ old. plan_redo p old (redone rs p old) t))
      page_read (Goes old) = e
      page_read (Differs n d f) = tt

      page_serving : (d : Bool) → On (λ r. r.table.serving ≡ b) (plan_page d rs pages p t)
      page_serving true = page_read (read_page pages p)
      page_serving false = e

  -- redo of the same stored pages
  pub pages_same : (more : List (List ℕ)) (ps : List ℕ) (t : LockTable) → AllByRecursion (λ p. raw_page more p ≡ raw_page pages p) ps → plan_pages needed rs more ps t ≡ plan_pages needed rs pages ps t
  unfolding plan_pages
  pages_same more [] t all = refl
  pages_same more (p ∷ ps) t all =
      ap (λ o. and_then o (λ r. and_so (plan_pages needed rs more ps r.table) (after_writes r.writes))) (page_same (needed t p))
      ∙ by (plan_page (needed t p) rs pages p t) (λ u. pages_same more ps u all.1)
    where
      page_same : (b : Bool) → plan_page b rs more p t ≡ plan_page b rs pages p t
      page_same true = ap (λ raw. and_so (page_or_differs p (stored_page p raw)) (λ old. plan_redo p old (redone rs p old) t)) all.0
      page_same false = refl

      by : (o : Outcome RedoPlan) → ((u : LockTable) → plan_pages needed rs more ps u ≡ plan_pages needed rs pages ps u)
          → and_then o (λ r. and_so (plan_pages needed rs more ps r.table) (after_writes r.writes)) ≡ and_then o (λ r. and_so (plan_pages needed rs pages ps r.table) (after_writes r.writes))
      by (Goes r) rest = ap (λ p. and_so p (after_writes r.writes)) (rest r.table)
      by (Differs n e f) rest = refl
