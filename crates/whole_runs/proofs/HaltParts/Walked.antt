-- Redo of the pages of a partition, as writes of one page.
use Rattle.std.proofs.Common.{◌≡◌, ◌≢◌, refl, sym, ap, subst, ◌∙◌, ℕ, ◌≤◌, ◌==◌, ◌||◌, nat_lt, Bool, true, false, List, [], ◌∷◌, ◌++◌, arith, eqb-true}
use Rattle.std.specs.Prelude.{⊤}
use Rattle.std.specs.List.{AllByRecursion}
use Rattle.std.proofs.lemmas.Bool.Decides.{nat_tests}
use Rattle.std.proofs.lemmas.List.{get_or-set_other}
use Rattle.pcl_base.specs.declared.log.Record.{Record}
use Rattle.text_rules.specs.StoredPage.{PageAt, stored_page, stored_bytes}
use Rattle.run_rules.specs.Disk.{Disk, raw_page}
use Rattle.run_rules.specs.Redo.{redone}
use Rattle.node_rules.specs.DiskCalls.{DiskCall, WritePage}
use Rattle.node_rules.specs.InstallRule.{write_newer, version_in, redo_to, redo_page}
use Rattle.node_rules.specs.NodeState.{NodeState, table_at}
use Rattle.node_rules.specs.Work.{Work, Outcome, Goes, and_then, and_so, for_each, work_of_home, with_home_work, with_node, page_or_differs, read_page}
use Rattle.step_laws.proofs.Outcomes.{On, on_then, on_so, on_each, on_any}
use Rattle.page_protocol.specs.State.{Page, current}
use Rattle.page_laws.specs.Storage.Looks.{page_of}
use Rattle.related_runs.proofs.PageLists.{has_page, ArePages}
use Rattle.page_relation.specs.Loss.Writes.{NoWrites, MayWrite, elsewhere, versions}
use Rattle.page_relation.proofs.LossParts.Counting.{both_all}
use Rattle.page_relation.proofs.LossParts.Dirty.{none_more, rise_more, rise_first}

-- page p was not written, and is read as it is on the disk
pub record Untouched (d : Disk) (p : ℕ) (w : Work) : Type 0 where
  pub page : raw_page w.pages p ≡ raw_page d.pages p
  pub none : NoWrites p w.calls

abbrev pub May : Page → ℕ → ℕ → Work → Type 0
May a p n w = MayWrite a p n w.calls

pub may_more : (a : Page) (p n q : ℕ) (bytes : List ℕ) (calls : List DiskCall) → q ≢ p → MayWrite a p n calls → MayWrite a p n (calls ++ WritePage q bytes ∷ [])
may_more a p n q bytes calls other (elsewhere none) = elsewhere (none_more p q bytes calls other none)
may_more a p n q bytes calls other (versions own rise) = versions own (rise_more a.hist a.now p a.disk.version q bytes calls other rise)

-- no page of a list is this one
pub none_of : (p : ℕ) (xs : List ℕ) → has_page xs p ≡ false → AllByRecursion (λ (x : ℕ). x ≢ p) xs
none_of p [] none = tt
none_of p (x ∷ xs) none = by (x == p) refl none (none_of p xs)
  where
    by : (b : Bool) → (x == p) ≡ b → (b || has_page xs p) ≡ false → (has_page xs p ≡ false → AllByRecursion (λ (y : ℕ). y ≢ p) xs) → (x ≢ p) × AllByRecursion (λ (y : ℕ). y ≢ p) xs
    by true e bad further = absurd (cc)
    by false e rest further = (λ same. grind (arith, nat_tests, e, same), further rest)

-- what redo needs of the page
pub record Redoable (d : Disk) (a : Page) (p n : ℕ) (rs : List Record) : Type 0 where
  pub read : read_page d.pages p ≡ Goes (page_of a.disk)
  pub comes : redone rs p (page_of a.disk) ≡ page_of (current a)
  pub low : a.disk.version ≤ a.now
  pub own : a.served ≡ true → a.owner ≡ n

module _ (d : Disk) (p : ℕ) (rs : List Record) (q : ℕ) where
  -- redo of another page
  pub away_untouched : (x : ℕ) (w : Work) → x ≢ p → Untouched d p w → On (Untouched d p) (redo_page rs q x w)
  unfolding redo_page
  away_untouched x w other u =
      on_so (λ (at : PageAt). ⊤) (Untouched d p) (read_page w.pages x) (λ old. redo_to q x old (redone rs x old) w) (on_any (read_page w.pages x))
      (λ old any. by (nat_lt old.version (redone rs x old).version) (redone rs x old) (version_in q x (redone rs x old).version (table_at w.node q) w.node))
    where
      by : (b : Bool) (at : PageAt) (k : NodeState) → Untouched d p (with_home_work (with_node w k) (write_newer b x at (work_of_home w)))
      by true at k =
          record {
            page = get_or-set_other w.pages x p (stored_bytes x at) [] (λ same. other (sym same)) ∙ u.page;
            none = none_more p x (stored_bytes x at) w.calls other u.none;
          }
      by false at k = record { page = u.page; none = u.none }

  pub away_may : (a : Page) (n x : ℕ) (w : Work) → x ≢ p → May a p n w → On (May a p n) (redo_page rs q x w)
  unfolding redo_page
  away_may a n x w other may =
      on_so (λ (at : PageAt). ⊤) (May a p n) (read_page w.pages x) (λ old. redo_to q x old (redone rs x old) w) (on_any (read_page w.pages x))
      (λ old any. by (nat_lt old.version (redone rs x old).version) (redone rs x old) (version_in q x (redone rs x old).version (table_at w.node q) w.node))
    where
      by : (b : Bool) (at : PageAt) (k : NodeState) → May a p n (with_home_work (with_node w k) (write_newer b x at (work_of_home w)))
      by true at k = may_more a p n x (stored_bytes x at) w.calls other may
      by false at k = may

  -- redo of the page itself
  pub here_may : (a : Page) (n : ℕ) (w : Work) → Redoable d a p n rs → Untouched d p w → On (May a p n) (redo_page rs q p w)
  unfolding redo_page
  here_may a n w able u =
      subst (λ (o : Outcome PageAt). On (May a p n) (and_so o (λ old. redo_to q p old (redone rs p old) w))) (sym read)
      (subst (λ (at : PageAt). May a p n (redo_to q p (page_of a.disk) at w)) (sym able.comes)
      (by (nat_lt a.disk.version a.now) (version_in q p a.now (table_at w.node q) w.node)))
    where
      read : read_page w.pages p ≡ Goes (page_of a.disk)
      read = ap (λ raw. page_or_differs p (stored_page p raw)) u.page ∙ able.read

      by : (b : Bool) (k : NodeState) → May a p n (with_home_work (with_node w k) (write_newer b p (page_of (current a)) (work_of_home w)))
      by true k =
          versions able.own
          (rise_first a.hist a.now p a.disk.version a.now (stored_bytes p (page_of (current a))) w.calls (record { least = able.low; most = omega arith; made = refl }) u.none)
      by false k = elsewhere u.none

-- a walk over numbers, each of them once, of which one makes of some facts others
module _ (L : ℕ → Type 0) (A B : Work → Type 0) (p : ℕ) (f : ℕ → Work → Outcome Work) (ends : (w : Work) → A w → B w) (away : (x : ℕ) (w : Work) → L x → x ≢ p → A w → On A (f x w))
    (after : (x : ℕ) (w : Work) → L x → x ≢ p → B w → On B (f x w)) (here : (w : Work) → A w → On B (f p w)) where
  step_on : (x : ℕ) (xs : List ℕ) (w : Work) → L x → AllByRecursion L xs → has_page xs x ≡ false → A w → ((y : Work) → A y → On B (for_each f xs y)) → On B (and_then (f x w) (for_each f xs))
  step_on x xs w in_list all once u rest = by (x == p) refl
    where
      by : (b : Bool) → (x == p) ≡ b → On B (and_then (f x w) (for_each f xs))
      by true e =
          let same : x ≡ p = eqb-true x p e in
          on_then B B (f x w) (for_each f xs) (subst (λ (k : ℕ). On B (f k w)) (sym same) (here w u))
          (λ y may. on_each B (λ (k : ℕ). L k × (k ≢ p)) f (λ k z other m. after k z other.0 other.1 m) xs
          (both_all L (λ (k : ℕ). k ≢ p) xs all (none_of p xs (subst (λ (k : ℕ). has_page xs k ≡ false) same once))) y may)
      by false e = on_then A B (f x w) (for_each f xs) (away x w in_list (λ same. grind (arith, nat_tests, e, same)) u) rest

  pub walked : (xs : List ℕ) → AllByRecursion L xs → ArePages xs → (w : Work) → A w → On B (for_each f xs w)
  unfolding for_each
  walked [] all once w u = ends w u
  walked (x ∷ xs) all once w u = step_on x xs w all.0 all.1 once.0 u (walked xs all.1 once.1)
