-- The pages at the end of a transaction: their plans, one by one, and what holds of the pages.
use Rattle.std.proofs.Common.{◌≡◌, ℕ, zero, suc, ◌+◌, ◌-◌, ◌^◌, ◌<◌, ◌≤◌, ◌==◌, ◌||◌, Bool, true, false, cond, List, [], ◌∷◌, ◌++◌, length, map, take, get_or, Option, Some, None, is_some, refl, ap, sym, subst, ◌∙◌, append-nil, arith}
use Rattle.std.specs.List.{filter, list_any}
use Rattle.std.proofs.lemmas.List.{map-append, take_more}
use Rattle.pcl_base.specs.declared.lock.Held.{Held}
use Rattle.pcl_base.specs.declared.lock.Pending.{Pending}
use Rattle.pcl_base.specs.declared.tx.TxId.{TxId}
use Rattle.node_rules.specs.Words.{is_exclusive, pick}
use Rattle.node_rules.specs.AccessRule.{version_or}
use Rattle.node_rules.specs.BufferRule.{find}
use Rattle.node_rules.specs.EndRule.{at_version_end}
use Rattle.node_rules.specs.NodeState.{HomeState, NodeState}
use Rattle.node_rules.specs.OpenTxs.{lock_on, locks_of, pending_of}
use Rattle.home.specs.Commits.{exclusive_pages}
use Rattle.home.proofs.Committing.{end_is}
use Rattle.home.proofs.Discarded.{once_found}
use Rattle.home_laws.specs.Homes.{AreOnce, IsHome}
use Rattle.home_laws.proofs.Opens.{locks_once}
use Rattle.own_steps.specs.Ends.{AreEndPlans, IsEndPlan, waited_due}
use Rattle.own_steps.specs.declared.page_end.PageEnd.{PageEnd}

-- a list that is taken whole
pub taken_all : {X : Type 0} (xs : List X) (i : ℕ) → length xs ≤ i → take i xs ≡ xs
taken_all [] zero over = refl
taken_all [] (suc i) over = refl
taken_all (x ∷ xs) zero over = absurd (omega (arith, over))
taken_all (x ∷ xs) (suc i) over = ap (λ l. x ∷ l) (taken_all xs i (omega (arith, over)))

module _ (n : NodeState) (me : ℕ) (t : TxId) where
  -- one plan more
  plans_more : (ds : List (ℕ × Option ℕ)) (xs : List PageEnd) (d : ℕ × Option ℕ) (x : PageEnd) → AreEndPlans n me t ds xs → IsEndPlan n me t d x → AreEndPlans n me t (ds ++ d ∷ []) (xs ++ x ∷ [])
  plans_more [] [] d x are is = (is, tt)
  plans_more [] (y ∷ xs) d x are is = absurd are
  plans_more (e ∷ ds) [] d x are is = absurd are
  plans_more (e ∷ ds) (y ∷ xs) d x are is = (are.0, plans_more ds xs d x are.1 is)

  pub plans_next : {Y : Type 0} (f : Y → ℕ × Option ℕ) (ls : List Y) (i : ℕ) (l : Y) (xs ys : List PageEnd) (x : PageEnd) → i < length ls → ys ≡ xs ++ x ∷ []
      → AreEndPlans n me t (map f (take i ls)) xs → IsEndPlan n me t (f (get_or ls i l)) x → AreEndPlans n me t (map f (take (i + 1) ls)) ys
  plans_next f ls i l xs ys x within pushed are is =
      subst (λ z. AreEndPlans n me t (map f (take (i + 1) ls)) z) (sym pushed)
      (subst (λ z. AreEndPlans n me t z (xs ++ x ∷ [])) (sym (ap (map f) (take_more ls i l within) ∙ map-append f (take i ls) (get_or ls i l ∷ [])))
      (plans_more (map f (take i ls)) xs (f (get_or ls i l)) x are is))

  pub plans_over : {Y : Type 0} (f : Y → ℕ × Option ℕ) (ls : List Y) (i : ℕ) (xs : List PageEnd) → length ls ≤ i → AreEndPlans n me t (map f (take i ls)) xs → AreEndPlans n me t (map f ls) xs
  plans_over f ls i xs over are = subst (λ z. AreEndPlans n me t (map f z) xs) (taken_all ls i over) are

  -- all plans, where no other page is waited for, or one is
  pub plans_all : (ds ws : List (ℕ × Option ℕ)) (xs : List PageEnd) → ws ≡ [] → AreEndPlans n me t ds xs → AreEndPlans n me t (ds ++ ws) xs
  plans_all ds ws xs none are = subst (λ z. AreEndPlans n me t (ds ++ z) xs) (sym none) (subst (λ z. AreEndPlans n me t z xs) (sym (append-nil ds)) are)

  pub plans_last : (ds ws : List (ℕ × Option ℕ)) (xs ys : List PageEnd) (d : ℕ × Option ℕ) (x : PageEnd) → ws ≡ d ∷ [] → ys ≡ xs ++ x ∷ [] → AreEndPlans n me t ds xs → IsEndPlan n me t d x
      → AreEndPlans n me t (ds ++ ws) ys
  plans_last ds ws xs ys d x one pushed are is =
      subst (λ z. AreEndPlans n me t (ds ++ z) ys) (sym one) (subst (λ z. AreEndPlans n me t (ds ++ d ∷ []) z) (sym pushed) (plans_more ds xs d x are is))

-- the page that is waited for
pub none_due : (hs : List Held) (w : Option Pending) → w ≡ None → waited_due hs w ≡ []
none_due hs w none = ap (waited_due hs) none

pub held_due : (hs : List Held) (w : Option Pending) (x : Pending) → w ≡ Some x → is_some (lock_on hs x.page) ≡ true → waited_due hs w ≡ []
held_due hs w x some held = ap (waited_due hs) some ∙ ap (λ b. pick b [] (let d : ℕ × Option ℕ = (x.page, None) in d ∷ [])) held

pub free_due : (hs : List Held) (w : Option Pending) (x : Pending) → w ≡ Some x → is_some (lock_on hs x.page) ≡ false → waited_due hs w ≡ (let d : ℕ × Option ℕ = (x.page, None) in d ∷ [])
free_due hs w x some free = ap (waited_due hs) some ∙ ap (λ b. pick b [] (let d : ℕ × Option ℕ = (x.page, None) in d ∷ [])) free

-- the page of a lock is one of the database
pub lock_below : (h : HomeState) (t : TxId) (ls : List Held) (i : ℕ) (d : Held) → IsHome h → ls ≡ locks_of h.txs t → i < length ls → (get_or ls i d).page < h.config.pages
lock_below h t ls i d is locks within =
    let once : AreOnce ls = subst AreOnce (sym locks) (locks_once h.txs t is.txs.once) in
    let found = ap (λ l. is_some (lock_on l (get_or ls i d).page)) (sym locks) ∙ ap is_some (once_found ls i d once within) in
    (is.held t (get_or ls i d).page found).0

-- no exclusive lock is of a page at the last version
either_left : (a b : Bool) → (a || b) ≡ false → a ≡ false
either_left true b e = absurd (cc)
either_left false b e = refl

either_right : (a b : Bool) → (a || b) ≡ false → b ≡ false
either_right true b e = absurd (cc)
either_right false b e = e

module _ (f : ℕ → Bool) (d : Held) where
  abbrev NotAt : List Held → ℕ → Type 0
  NotAt ls i = i < length ls → is_exclusive (get_or ls i d).mode ≡ true → f (get_or ls i d).page ≡ false

  not_case : (l : Held) (ls : List Held) (b : Bool) → is_exclusive l.mode ≡ b → (list_any f (exclusive_pages ls) ≡ false → (i : ℕ) → NotAt ls i)
      → list_any f (map (λ (h : Held). h.page) (cond b (l ∷ filter (λ (h : Held). is_exclusive h.mode) ls) (filter (λ (h : Held). is_exclusive h.mode) ls))) ≡ false → (i : ℕ) → NotAt (l ∷ ls) i
  not_case l ls true e rest none zero within mode = either_left (f l.page) (list_any f (exclusive_pages ls)) none
  not_case l ls true e rest none (suc i) within mode = rest (either_right (f l.page) (list_any f (exclusive_pages ls)) none) i (omega (arith, within)) mode
  not_case l ls false e rest none zero within mode = absurd (cc)
  not_case l ls false e rest none (suc i) within mode = rest none i (omega (arith, within)) mode

  not_any : (ls : List Held) → list_any f (exclusive_pages ls) ≡ false → (i : ℕ) → NotAt ls i
  not_any [] none i within mode = absurd (omega (arith, within))
  not_any (l ∷ ls) none i within mode = not_case l ls (is_exclusive l.mode) refl (not_any ls) none i within mode

pub lock_last : (h : HomeState) (t : TxId) (ls : List Held) (i : ℕ) (d : Held) → IsHome h → pending_of h.txs t ≡ None → at_version_end h t ≡ false → ls ≡ locks_of h.txs t → i < length ls
    → is_exclusive (get_or ls i d).mode ≡ true → (version_or (find h.pool (get_or ls i d).page) == 2 ^ 64 - 1) ≡ false
lock_last h t ls i d is waits last locks within mode =
    not_any (λ p. version_or (find h.pool p) == 2 ^ 64 - 1) d ls
    (ap (λ l. list_any (λ p. version_or (find h.pool p) == 2 ^ 64 - 1) (exclusive_pages l)) locks ∙ end_is h t is waits ∙ last) i within mode
