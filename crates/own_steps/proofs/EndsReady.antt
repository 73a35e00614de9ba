-- The pages at the end of a transaction that is open at a home, and the parts that await its ends.
use Rattle.std.proofs.Common.{◌≡◌, ℕ, suc, ◌<◌, ◌==◌, ◌||◌, Bool, true, false, List, [], ◌∷◌, ◌++◌, length, map, get_or, Option, Some, None, is_some, refl, ap, sym, subst, ◌∙◌, arith}
use Rattle.std.specs.List.{AllByRecursion}
use Rattle.std.specs.Option.{IfSome}
use Rattle.std.proofs.lemmas.List.{map-append}
use Rattle.pcl_base.specs.Limits.{Sizes}
use Rattle.pcl_base.specs.declared.lock.Held.{Held}
use Rattle.pcl_base.specs.declared.lock.Pending.{Pending}
use Rattle.pcl_base.specs.declared.tx.TxId.{TxId}
use Rattle.node_rules.specs.Words.{pick}
use Rattle.node_rules.specs.NodeState.{HomeState, NodeState, table_of}
use Rattle.node_rules.specs.OpenTxs.{lock_on, locks_of, pending_of}
use Rattle.home.specs.Ends.{listed}
use Rattle.home_laws.specs.Homes.{AreOnce, IsAccess, IsHome}
use Rattle.home_laws.proofs.Opens.{locks_once}
use Rattle.home_laws.proofs.Words.{swap_test}
use Rattle.node_parts.specs.State.{PartsView, node_of}
use Rattle.node_parts.specs.Tables.{AreTidyBut}
use Rattle.page_owner.specs.Planned.{ArePartsBut, SameView}
use Rattle.own_steps.specs.Ends.{AreApart, AreEndPlans, AwaitsEnds, HasEntry, IsOwned, due_pages, dues, lock_due, pages_in, waited_due}
use Rattle.own_steps.specs.declared.page_end.PageEnd.{PageEnd}
use Rattle.own_steps.proofs.Dues.{lock_below}
use Rattle.own_steps.proofs.EndsTold.{plan_pages, some_owned}

-- the pages of locks, and the page that is waited for without a lock
abbrev waited_pages : List Held → Option Pending → List ℕ
waited_pages hs w = due_pages (waited_due hs w)

lock_pages : (c : Bool) (h : HomeState) (ls : List Held) → due_pages (map (lock_due c h) ls) ≡ map (λ (l : Held). l.page) ls
lock_pages c h [] = refl
lock_pages c h (l ∷ ls) = λ i. one c i ∷ lock_pages c h ls i
  where
    one : (c : Bool) → (lock_due c h l).0 ≡ l.page
    one true = refl
    one false = refl

pub pages_are : (c : Bool) (h : HomeState) (t : TxId) → due_pages (dues c h t) ≡ map (λ (l : Held). l.page) (locks_of h.txs t) ++ waited_pages (locks_of h.txs t) (pending_of h.txs t)
pages_are c h t =
    map-append (λ (d : ℕ × Option ℕ). d.0) (map (lock_due c h) (locks_of h.txs t)) (waited_due (locks_of h.txs t) (pending_of h.txs t))
    ∙ ap (λ l. l ++ waited_pages (locks_of h.txs t) (pending_of h.txs t)) (lock_pages c h (locks_of h.txs t))

-- all are pages of the database
all_of : (P : ℕ → Type 0) (ls : List Held) (ws : List ℕ) → ((i : ℕ) (d : Held) → i < length ls → P (get_or ls i d).page) → AllByRecursion P ws → AllByRecursion P (map (λ (l : Held). l.page) ls ++ ws)
all_of P [] ws each all = all
all_of P (l ∷ ls) ws each all = (each 0 l (omega arith), all_of P ls ws (λ i d within. each (suc i) d (omega (arith, within))) all)

waited_below : (h : HomeState) (hs : List Held) (w : Option Pending) → IfSome w (IsAccess h.config) → AllByRecursion (λ p. p < h.config.pages) (waited_pages hs w)
waited_below h hs None may = tt
waited_below h hs (Some w) may = by (is_some (lock_on hs w.page))
  where
    by : (b : Bool) → AllByRecursion (λ p. p < h.config.pages) (due_pages (pick b [] ((w.page, None) ∷ [])))
    by true = tt
    by false = (may.page, tt)

pub dues_below : (c : Bool) (h : HomeState) (t : TxId) → IsHome h → AllByRecursion (λ p. p < h.config.pages) (due_pages (dues c h t))
dues_below c h t is =
    subst (AllByRecursion (λ p. p < h.config.pages)) (sym (pages_are c h t))
    (all_of (λ p. p < h.config.pages) (locks_of h.txs t) (waited_pages (locks_of h.txs t) (pending_of h.txs t)) (λ i d within. lock_below h t (locks_of h.txs t) i d is refl within)
    (waited_below h (locks_of h.txs t) (pending_of h.txs t) (is.waits t)))

-- each is there once
abbrev NotHeld : List Held → ℕ → Type 0
NotHeld hs p = is_some (lock_on hs p) ≡ false

none_of : (a b : Bool) → a ≡ false → b ≡ false → (a || b) ≡ false
none_of true b first second = absurd (cc)
none_of false b first second = second

some_of : (b : Bool) (h : Held) (o : Option Held) → is_some (pick b (Some h) o) ≡ false → (b ≡ false) × (is_some o ≡ false)
some_of true h o e = absurd (cc)
some_of false h o e = (refl, e)

not_held : (h : Held) (hs : List Held) (p : ℕ) → NotHeld (h ∷ hs) p → ((h.page == p) ≡ false) × NotHeld hs p
unfolding lock_on
not_held h hs p none = some_of (h.page == p) h (lock_on hs p) none

unlisted_locks : (hs : List Held) (ws : List ℕ) (p : ℕ) → NotHeld hs p → listed ws p ≡ false → listed (map (λ (l : Held). l.page) hs ++ ws) p ≡ false
unlisted_locks [] ws p none rest = rest
unlisted_locks (h ∷ hs) ws p none rest =
    let no = not_held h hs p none in
    none_of (h.page == p) (listed (map (λ (l : Held). l.page) hs ++ ws) p) no.0 (unlisted_locks hs ws p no.1 rest)

unlisted_waits : (h : Held) (hs : List Held) (ws : List ℕ) → AllByRecursion (NotHeld (h ∷ hs)) ws → listed ws h.page ≡ false
unlisted_waits h hs [] none = refl
unlisted_waits h hs (p ∷ ws) none =
    none_of (p == h.page) (listed ws h.page) (swap_test p h.page ∙ (not_held h hs p none.0).0) (unlisted_waits h hs ws none.1)

fewer : (h : Held) (hs : List Held) (ws : List ℕ) → AllByRecursion (NotHeld (h ∷ hs)) ws → AllByRecursion (NotHeld hs) ws
fewer h hs [] none = tt
fewer h hs (p ∷ ws) none = ((not_held h hs p none.0).1, fewer h hs ws none.1)

apart_pages : (hs : List Held) (ws : List ℕ) → AreOnce hs → AreApart ws → AllByRecursion (NotHeld hs) ws → AreApart (map (λ (l : Held). l.page) hs ++ ws)
apart_pages [] ws once apart none = apart
apart_pages (h ∷ hs) ws once apart none =
    (unlisted_locks hs ws h.page (ap is_some once.0) (unlisted_waits h hs ws none), apart_pages hs ws once.1 apart (fewer h hs ws none))

waited_apart : (hs : List Held) (w : Option Pending) → AreApart (waited_pages hs w) × AllByRecursion (NotHeld hs) (waited_pages hs w)
waited_apart hs None = (tt, tt)
waited_apart hs (Some w) = by (is_some (lock_on hs w.page)) refl
  where
    by : (b : Bool) → is_some (lock_on hs w.page) ≡ b → AreApart (due_pages (pick b [] ((w.page, None) ∷ []))) × AllByRecursion (NotHeld hs) (due_pages (pick b [] ((w.page, None) ∷ [])))
    by true e = (tt, tt)
    by false e = ((refl, tt), (e, tt))

pub dues_apart : (c : Bool) (h : HomeState) (t : TxId) → IsHome h → AreApart (due_pages (dues c h t))
dues_apart c h t is =
    let last = waited_apart (locks_of h.txs t) (pending_of h.txs t) in
    subst AreApart (sym (pages_are c h t)) (apart_pages (locks_of h.txs t) (waited_pages (locks_of h.txs t) (pending_of h.txs t)) (locks_once h.txs t is.txs.once) last.0 last.1)

-- the same of plans
pub plans_below : (n : NodeState) (me : ℕ) (t : TxId) (c : Sizes) (ds : List (ℕ × Option ℕ)) (xs : List PageEnd) → AreEndPlans n me t ds xs → AllByRecursion (λ p. p < c.pages) (due_pages ds)
    → AllByRecursion (λ x. x.page < c.pages) xs
plans_below n me t c [] [] are all = tt
plans_below n me t c [] (x ∷ xs) are all = absurd are
plans_below n me t c (d ∷ ds) [] are all = absurd are
plans_below n me t c (d ∷ ds) (x ∷ xs) are all = (subst (λ p. p < c.pages) (sym are.0.0) all.0, plans_below n me t c ds xs are.1 all.1)

pub plans_owned : (n : NodeState) (me : ℕ) (t : TxId) (ds : List (ℕ × Option ℕ)) (xs : List PageEnd) → AreEndPlans n me t ds xs → AllByRecursion (IsOwned n) xs
plans_owned n me t [] [] are = tt
plans_owned n me t [] (x ∷ xs) are = absurd are
plans_owned n me t (d ∷ ds) [] are = absurd are
plans_owned n me t (d ∷ ds) (x ∷ xs) are =
    (record { own = λ some. ap (λ p. is_some (table_of n p)) are.0.0 ∙ some_owned n me t d x.planned are.0.1 some }, plans_owned n me t ds xs are.1)

-- the parts for whose ends memory was taken
pub awaits_made : (v w : PartsView) (t : TxId) (c : Bool) (xs : List PageEnd) → IsHome v.home → AreEndPlans (node_of v) v.me t (dues c v.home t) xs → ArePartsBut (pages_in xs) w → node_of w ≡ node_of v → SameView v w
    → AllByRecursion (HasEntry w.tables) xs → AwaitsEnds w t (dues c v.home t) xs
awaits_made v w t c xs home plans but same view rooms = record {
  node = but.node;
  number = but.number;
  config = but.config;
  plans = subst (λ k. AreEndPlans (node_of w) k t (dues c v.home t) xs) (sym view.me) (subst (λ n. AreEndPlans n v.me t (dues c v.home t) xs) (sym same) plans);
  rooms = rooms;
  below = subst (λ (n : NodeState). AllByRecursion (λ p. p < n.home.config.pages) (due_pages (dues c v.home t))) (sym same) (dues_below c v.home t home);
  apart = dues_apart c v.home t home;
  tidy = subst (λ l. AreTidyBut l w.tables) (plan_pages (node_of v) v.me t (dues c v.home t) xs plans) but.tidy;
}

-- a step that goes no further
pub given_back : (v w : PartsView) → node_of w ≡ node_of v → (h : HomeState) → h ≡ w.home → h ≡ v.home
given_back v w same h is = is ∙ ap (λ (n : NodeState). n.home) same
