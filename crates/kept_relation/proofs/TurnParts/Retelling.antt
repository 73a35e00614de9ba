-- What the homes of a node told is brought up to its copy, one transaction after the other.
use Rattle.std.proofs.Common.{◌≡◌, ◌≢◌, ◌⊎◌, inl, inr, refl, ap, sym, subst, ◌∙◌, ℕ, ◌==◌, ◌||◌, Bool, true, false, List, [], ◌∷◌, Option, Some, None, eqb-true, arith}
use Rattle.std.proofs.lemmas.Bool.Decides.{nat_tests}
use Rattle.pcl_base.specs.declared.lock.Held.{Held}
use Rattle.pcl_base.specs.declared.lock.Kind.{Kind}
use Rattle.pcl_base.specs.declared.lock.Kind.TheVariants as kind
use Rattle.pcl_base.specs.declared.tx.Mode.{Mode}
use Rattle.pcl_base.specs.declared.tx.Mode.TheVariants.{Shared, Exclusive}
use Rattle.pcl_base.specs.declared.tx.TxId.{TxId}
use Rattle.page_protocol.proofs.Basics.{same_tx_true, same_tx_tells}
use Rattle.page_protocol.specs.Homes.{asking}
use Rattle.page_protocol.specs.State.{Page, Home, Fresh, Asking, Holding, HoldingAsks, Reading, ReadingAsks, Ended, Gone, IsFresh, IsClosed, pick, same_tx, has, version_of}
use Rattle.page_protocol.specs.Steps.{Run, here, then, retells}
use Rattle.page_relation.specs.Homes.{Stands, stand_of, held_stand, shared_stand, image_of}
use Rattle.kept_relation.specs.Turn.Telling.{retold}

-- twice is once
retold_twice : (have : Option ℕ) (h : Home) → retold have (retold have h) ≡ retold have h
retold_twice have Fresh = refl
retold_twice have (Asking m told) = refl
retold_twice have (Holding m) = refl
retold_twice have HoldingAsks = refl
retold_twice have Reading = refl
retold_twice have ReadingAsks = refl
retold_twice have (Ended c e) = refl
retold_twice have Gone = refl

-- where it stands stays
retold_fresh : (have : Option ℕ) (h : Home) → IsFresh h → IsFresh (retold have h)
retold_fresh have Fresh f = f
retold_fresh have (Asking m told) f = f
retold_fresh have (Holding m) f = f
retold_fresh have HoldingAsks f = f
retold_fresh have Reading f = f
retold_fresh have ReadingAsks f = f
retold_fresh have (Ended c e) f = f
retold_fresh have Gone f = f

pub fresh_retold : (have : Option ℕ) (h : Home) → IsFresh (retold have h) → IsFresh h
fresh_retold have Fresh f = f
fresh_retold have (Asking m told) f = f
fresh_retold have (Holding m) f = f
fresh_retold have HoldingAsks f = f
fresh_retold have Reading f = f
fresh_retold have ReadingAsks f = f
fresh_retold have (Ended c e) f = f
fresh_retold have Gone f = f

retold_closed : (have : Option ℕ) (h : Home) → IsClosed h → IsClosed (retold have h)
retold_closed have Fresh f = f
retold_closed have (Asking m told) f = f
retold_closed have (Holding m) f = f
retold_closed have HoldingAsks f = f
retold_closed have Reading f = f
retold_closed have ReadingAsks f = f
retold_closed have (Ended c e) f = f
retold_closed have Gone f = f

closed_same : (have : Option ℕ) (h : Home) → IsClosed h → retold have h ≡ h
closed_same have Fresh f = refl
closed_same have (Asking m told) f = absurd f
closed_same have (Holding m) f = refl
closed_same have HoldingAsks f = refl
closed_same have Reading f = refl
closed_same have ReadingAsks f = refl
closed_same have (Ended c e) f = refl
closed_same have Gone f = refl

shared_retold : (have : Option ℕ) (k : Kind) (w : Option Mode) → retold have (shared_stand k w) ≡ shared_stand k w
shared_retold have kind.Right None = refl
shared_retold have kind.Right (Some m) = refl
shared_retold have kind.Own None = refl
shared_retold have kind.Own (Some m) = refl
shared_retold have kind.Registered None = refl
shared_retold have kind.Registered (Some m) = refl

stand_retold : (have told : Option ℕ) (l : Option Held) (w : Option Mode) → retold have (stand_of l w told) ≡ stand_of l w have
stand_retold have told None None = refl
stand_retold have told None (Some m) = refl
stand_retold have told (Some l) w = by l.mode
  where
    by : (m : Mode) → retold have (held_stand m l.kind w) ≡ held_stand m l.kind w
    by Exclusive = refl
    by Shared = shared_retold have l.kind w

pub stands_retold : (have : Option ℕ) (o u : Bool) (l : Option Held) (w : Option Mode) (h : Home) → Stands o u l w h → Stands o u l w (retold have h)
stands_retold have true u l w h is = (have, ap (retold have) is.1 ∙ stand_retold have is.0 l w)
stands_retold have false true l w h is = retold_fresh have h is
stands_retold have false false l w h is = retold_closed have h is

pub image_retold : (have : Option ℕ) (h : Home) (image : List ℕ) → image_of (retold have h) image ≡ image_of h image
image_retold have Fresh image = refl
image_retold have (Asking m told) image = refl
image_retold have (Holding m) image = refl
image_retold have HoldingAsks image = refl
image_retold have Reading image = refl
image_retold have ReadingAsks image = refl
image_retold have (Ended c e) image = refl
image_retold have Gone image = refl

asking_holds : (m k : Mode) (have : Option ℕ) → Asking k have ≡ Holding m → ⊥
asking_holds m k have e = absurd (cc)

pub holds_retold : (have : Option ℕ) (h : Home) (m : Mode) → retold have h ≡ Holding m → h ≡ Holding m
holds_retold have Fresh m e = e
holds_retold have (Asking k told) m e = absurd (asking_holds m k have e)
holds_retold have (Holding k) m e = e
holds_retold have HoldingAsks m e = e
holds_retold have Reading m e = e
holds_retold have ReadingAsks m e = e
holds_retold have (Ended c x) m e = e
holds_retold have Gone m e = e

-- ---- the run

-- one transaction, and several
abbrev told_at : (ℕ → Option ℕ) → (TxId → Home) → TxId → TxId → Home
told_at have home t u = pick (same_tx u t) (retold (have t.node) (home t)) (home u)

abbrev told_all : (ℕ → Option ℕ) → List TxId → (TxId → Home) → TxId → Home
told_all have [] home = home
told_all have (t ∷ ts) home = told_all have ts (told_at have home t)

-- where it stands of one that doesn't wait for its first access nothing changes
at_same : (have : ℕ → Option ℕ) (home : TxId → Home) (t u : TxId) → retold (have t.node) (home t) ≡ home t → told_at have home t u ≡ home u
at_same have home t u same = by (same_tx u t) refl
  where
    by : (b : Bool) → same_tx u t ≡ b → pick b (retold (have t.node) (home t)) (home u) ≡ home u
    by true e = same ∙ ap home (sym (same_tx_true u t e))
    by false e = refl

same_self : (t : TxId) → same_tx t t ≡ true
same_self t = by (same_tx t t) refl (same_tx_tells t t)
  where
    by : (b : Bool) → same_tx t t ≡ b → ((same_tx t t ≡ true) × (t ≡ t)) ⊎ ((same_tx t t ≡ false) × (t ≢ t)) → same_tx t t ≡ true
    by b e (inl one) = one.0
    by b e (inr two) = absurd (two.1 refl)

same_back : (t u : TxId) → same_tx t u ≡ same_tx u t
same_back t u = by (same_tx t u) refl (same_tx u t) refl
  where
    by : (b : Bool) → same_tx t u ≡ b → (k : Bool) → same_tx u t ≡ k → b ≡ k
    by true e true f = refl
    by true e false f = sym (same_self u) ∙ sym (ap (λ (x : TxId). same_tx u x) (same_tx_true t u e)) ∙ f
    by false e true f = sym e ∙ ap (λ (x : TxId). same_tx t x) (same_tx_true u t f) ∙ same_self t
    by false e false f = refl

-- of each transaction
all_told : (have : ℕ → Option ℕ) (ts : List TxId) (home : TxId → Home) (u : TxId) → told_all have ts home u ≡ pick (has u ts) (retold (have u.node) (home u)) (home u)
all_told have [] home u = refl
all_told have (t ∷ ts) home u = all_told have ts (told_at have home t) u ∙ by (same_tx u t) refl (has u ts) ∙ ap (λ (b : Bool). pick (b || has u ts) (retold (have u.node) (home u)) (home u)) (sym (same_back t u))
  where
    by : (b : Bool) → same_tx u t ≡ b → (k : Bool)
        → pick k (retold (have u.node) (pick b (retold (have t.node) (home t)) (home u))) (pick b (retold (have t.node) (home t)) (home u)) ≡ pick (b || k) (retold (have u.node) (home u)) (home u)
    by true e true =
        ap (λ (x : TxId). retold (have u.node) (retold (have x.node) (home x))) (sym (same_tx_true u t e)) ∙ retold_twice (have u.node) (home u)
    by true e false = ap (λ (x : TxId). retold (have x.node) (home x)) (sym (same_tx_true u t e))
    by false e true = refl
    by false e false = refl

-- the machine's steps, from what was told so far
module _ (a : Page) where
  abbrev have : ℕ → Option ℕ
  have m = version_of (a.slot m)

  abbrev with_homes : (TxId → Home) → Page
  with_homes home = record a { home = home }

  told_step : (t : TxId) (home : TxId → Home) (m : Mode) (told : Option ℕ) → home t ≡ Asking m told → Run a (with_homes home) → Run a (with_homes (told_at have home t))
  unfolding asking
  told_step t home m told e run =
      subst (Run a) (λ i. with_homes (λ u. pick (same_tx u t) (same i) (home u))) (then run (retells t m told e))
    where
      same : Asking m (have t.node) ≡ retold (have t.node) (home t)
      same = sym (ap (retold (have t.node)) e)

  same_run : (t : TxId) (home : TxId → Home) → retold (have t.node) (home t) ≡ home t → Run a (with_homes home) → Run a (with_homes (told_at have home t))
  same_run t home same run = subst (Run a) (λ i. with_homes (λ u. sym (at_same have home t u same) i)) run

  one_told : (t : TxId) (home : TxId → Home) (h : Home) → home t ≡ h → Run a (with_homes home) → Run a (with_homes (told_at have home t))
  one_told t home (Asking m told) e run = told_step t home m told e run
  one_told t home Fresh e run = same_run t home (ap (retold (have t.node)) e ∙ sym e) run
  one_told t home (Holding m) e run = same_run t home (ap (retold (have t.node)) e ∙ sym e) run
  one_told t home HoldingAsks e run = same_run t home (ap (retold (have t.node)) e ∙ sym e) run
  one_told t home Reading e run = same_run t home (ap (retold (have t.node)) e ∙ sym e) run
  one_told t home ReadingAsks e run = same_run t home (ap (retold (have t.node)) e ∙ sym e) run
  one_told t home (Ended c x) e run = same_run t home (ap (retold (have t.node)) e ∙ sym e) run
  one_told t home Gone e run = same_run t home (ap (retold (have t.node)) e ∙ sym e) run

  run_from : (ts : List TxId) (home : TxId → Home) → Run a (with_homes home) → Run a (with_homes (told_all have ts home))
  run_from [] home run = run
  run_from (t ∷ ts) home run = run_from ts (told_at have home t) (one_told t home (home t) refl run)

  -- all that wait for their first access, whose names stand in a list
  pub run_told : (n : ℕ) (ts : List TxId) → ((u : TxId) → has u ts ≡ true → u.node ≡ n) → ((u : TxId) → u.node ≡ n → has u ts ≡ false → IsClosed (a.home u))
      → Run a (with_homes (λ u. pick (u.node == n) (retold (have n) (a.home u)) (a.home u)))
  run_told n ts own all = subst (Run a) (λ i. with_homes (λ u. whole u i)) (run_from ts a.home here)
    where
      whole : (u : TxId) → told_all have ts a.home u ≡ pick (u.node == n) (retold (have n) (a.home u)) (a.home u)
      whole u = all_told have ts a.home u ∙ by (has u ts) refl (u.node == n) refl
        where
          by : (k : Bool) → has u ts ≡ k → (b : Bool) → (u.node == n) ≡ b → pick k (retold (have u.node) (a.home u)) (a.home u) ≡ pick b (retold (have n) (a.home u)) (a.home u)
          by true e true f = ap (λ (x : ℕ). retold (have x) (a.home u)) (own u e)
          by true e false f = absurd (let is = own u e in grind (arith, nat_tests, is, f))
          by false e true f = sym (closed_same (have n) (a.home u) (all u (eqb-true u.node n f) e))
          by false e false f = refl
