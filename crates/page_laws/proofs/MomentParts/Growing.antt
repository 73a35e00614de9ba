-- What the looks of a trace are after one moment more.
use Rattle.std.proofs.Common.{◌≡◌, ◌≢◌, refl, sym, ap, ◌∙◌, ℕ, ◌+◌, ◌==◌, ◌&&◌, Bool, true, false, List, [], ◌∷◌, ◌++◌, Option, Some, None, arith, append-nil, append_assoc}
use Rattle.std.specs.List.{fold, flat_map}
use Rattle.std.specs.Cmp.Lexicographic.{bytes_decides}
use Rattle.std.proofs.lemmas.Bool.Decides.{nat_tests}
use Rattle.std.proofs.lemmas.Grind.{flat_map-append}
use Rattle.std.proofs.lemmas.List.Sums.{fold-append}
use Rattle.pcl_base.specs.Limits.{Sizes}
use Rattle.pcl_base.specs.declared.script.Step.{Step}
use Rattle.pcl_base.specs.declared.script.Step.TheVariants as step
use Rattle.pcl_base.specs.declared.trace.Entry.{Entry}
use Rattle.pcl_base.specs.declared.tx.TxId.{TxId}
use Rattle.run_rules.specs.Base.{Base, BasePage, version_at, bytes_at}
use Rattle.run_rules.specs.Fresh.{written_over, is_current, is_current_in, all_current, is_fresh, IsFresh}
use Rattle.run_rules.specs.Now.{Story, first_story, ran_on, base_after, after, after_all, after_entry, story, now, first_fault}
use Rattle.run_rules.specs.Script.{Moment, Asks, Gets, Writes, Commits, moments_of, moments, last_write, write_step, steps_at, script_from, script}
use Rattle.run_rules.specs.Serial.{committed, serial}
use Rattle.run_rules.specs.Words.{pick, same_tx, same_bytes}
use Rattle.run_laws.proofs.Scripts.{script-grows}
use Rattle.page_protocol.specs.Bytes.{Copy, Access, Read, Write, Leaves}
use Rattle.page_protocol.specs.State.{upd}
use Rattle.page_protocol.specs.State as machine
use Rattle.page_protocol.proofs.Basics.{same_tx_true}
use Rattle.page_laws.specs.Moment.Looks.{accesses_of, accesses_in, asked_last, HasPage, Adds}
use Rattle.page_laws.specs.Moment.Tells.{NothingTells, AskTells, IsRight, TellsAccess, ReadTells, WriteTells, CommitTells, EmptyTells}
use Rattle.page_laws.proofs.MomentParts.ByPage.{writes_are_left_law}

-- the two tests of transactions are the same
tests_same : (t u : TxId) → same_tx t u ≡ machine.same_tx t u
tests_same t u = by (t.node == u.node) (t.born == u.born) (t.serial == u.serial)
  where
    by : (a b c : Bool) → (a && b && c) ≡ (a && (b && c))
    by true b c = refl
    by false b c = refl

-- ---- accesses and what was asked for

accesses_joined : (p : ℕ) (xs ys : List Step) → accesses_of p (xs ++ ys) ≡ accesses_of p xs ++ accesses_of p ys
unfolding accesses_of
accesses_joined p [] ys = refl
accesses_joined p (step.Read q bytes ∷ xs) ys = by (q == p) (accesses_joined p xs ys)
  where
    by : (b : Bool) → accesses_of p (xs ++ ys) ≡ accesses_of p xs ++ accesses_of p ys
        → pick b (Read bytes ∷ accesses_of p (xs ++ ys)) (accesses_of p (xs ++ ys)) ≡ pick b (Read bytes ∷ accesses_of p xs) (accesses_of p xs) ++ accesses_of p ys
    by true ih = ap (λ xs. Read bytes ∷ xs) ih
    by false ih = ih
accesses_joined p (step.Write q place bytes ∷ xs) ys = by (q == p) (accesses_joined p xs ys)
  where
    by : (b : Bool) → accesses_of p (xs ++ ys) ≡ accesses_of p xs ++ accesses_of p ys
        → pick b (Write place bytes ∷ accesses_of p (xs ++ ys)) (accesses_of p (xs ++ ys)) ≡ pick b (Write place bytes ∷ accesses_of p xs) (accesses_of p xs) ++ accesses_of p ys
    by true ih = ap (λ xs. Write place bytes ∷ xs) ih
    by false ih = ih

no_steps : (p : ℕ) → accesses_of p [] ≡ []
unfolding accesses_of
no_steps p = refl

one_read : (p q : ℕ) (bytes : List ℕ) (b : Bool) → (q == p) ≡ b → accesses_of p (step.Read q bytes ∷ []) ≡ pick b (Read bytes ∷ []) []
unfolding accesses_of
one_read p q bytes b e = ap (λ x. pick x (Read bytes ∷ []) []) e

one_write : (p q place : ℕ) (bytes : List ℕ) (b : Bool) → (q == p) ≡ b → accesses_of p (step.Write q place bytes ∷ []) ≡ pick b (Write place bytes ∷ []) []
unfolding accesses_of
one_write p q place bytes b e = ap (λ x. pick x (Write place bytes ∷ []) []) e

own_page : (q : ℕ) → (q == q) ≡ true
own_page q = grind (arith, nat_tests)

other_page : (p q : ℕ) → p ≢ q → (q == p) ≡ false
other_page p q differs = by (q == p) refl
  where
    by : (b : Bool) → (q == p) ≡ b → (q == p) ≡ false
    by true e = absurd (differs (grind (arith, nat_tests)))
    by false e = e

module _ (c : Sizes) (old new : List Entry) (m : Moment) (adds : Adds old (m ∷ []) new) where
  grow : (t : TxId) (p : ℕ) → accesses_in t p new ≡ accesses_in t p old ++ accesses_of p (steps_at t (asked_last t old) m)
  unfolding accesses_in asked_last
  grow t p =
      ap (λ ms. accesses_of p (script t ms)) adds
      ∙ ap (accesses_of p) (script-grows t (moments old) m)
      ∙ accesses_joined p (script t (moments old)) (steps_at t (asked_last t old) m)

  -- a moment that adds no step on the page
  stay : (t : TxId) (p : ℕ) → accesses_of p (steps_at t (asked_last t old) m) ≡ [] → accesses_in t p new ≡ accesses_in t p old
  stay t p none = grow t p ∙ ap (λ xs. accesses_in t p old ++ xs) none ∙ append-nil (accesses_in t p old)

  asked_more : (t : TxId) → asked_last t new ≡ last_write t (asked_last t old) m
  unfolding asked_last
  asked_more t = ap (λ ms. fold (last_write t) None ms) adds ∙ fold-append (last_write t) None (moments old) (m ∷ [])

  order_more : serial new ≡ serial old ++ committed m
  unfolding serial
  order_more =
      ap (flat_map committed) adds ∙ flat_map-append committed (moments old) (m ∷ []) ∙ ap (λ ts. flat_map committed (moments old) ++ ts) (append-nil (committed m))

-- ---- what is known

seen_more : (s : Story) (ms : List Moment) → (after_all s ms).seen ≡ s.seen ++ ms
unfolding after
seen_more s [] = sym (append-nil s.seen)
seen_more s (m ∷ ms) = seen_more (after s m) ms ∙ append_assoc s.seen (m ∷ []) ms

pub story_seen : (c : Sizes) (trace : List Entry) → (story c trace).seen ≡ moments trace
story_seen c trace = seen_more (first_story c) (moments trace)

and_assoc : (a b c : Bool) → (a && (b && c)) ≡ ((a && b) && c)
and_assoc true b c = refl
and_assoc false b c = refl

current_joined : (s : Story) (xs ys : List Moment) → all_current s (xs ++ ys) ≡ (all_current s xs && all_current (after_all s xs) ys)
unfolding all_current
current_joined s [] ys = refl
current_joined s (m ∷ xs) ys =
    ap (λ b. is_current_in s.base s.seen m && b) (current_joined (after s m) xs ys)
    ∙ and_assoc (is_current_in s.base s.seen m) (all_current (after s m) xs) (all_current (after_all (after s m) xs) ys)

moments_step : (e : Entry) (es : List Entry) → moments (e ∷ es) ≡ moments_of e ++ moments es
unfolding moments
moments_step e es = refl

no_moments : moments [] ≡ []
unfolding moments
no_moments = refl

-- a trace is fresh where all its granted accesses are current
all_of_fresh : (n : ℕ) (s : Story) (es : List Entry) → first_fault is_fresh n s es ≡ None → all_current s (moments es) ≡ true
unfolding first_fault all_current
all_of_fresh n s [] none = ap (all_current s) no_moments
all_of_fresh n s (e ∷ es) none =
    ap (all_current s) (moments_step e es) ∙ current_joined s (moments_of e) (moments es)
    ∙ by (all_current s (moments_of e)) none (all_of_fresh (n + 1) (after_entry s e) es)
  where
    by : (b : Bool) → pick b (first_fault is_fresh (n + 1) (after_entry s e) es) (Some n) ≡ None
        → (first_fault is_fresh (n + 1) (after_entry s e) es ≡ None → all_current (after_entry s e) (moments es) ≡ true)
        → (b && all_current (after_entry s e) (moments es)) ≡ true
    by true f go = go f
    by false f go = absurd (cc)

fresh_of_all : (n : ℕ) (s : Story) (es : List Entry) → all_current s (moments es) ≡ true → first_fault is_fresh n s es ≡ None
unfolding first_fault
fresh_of_all n s [] all = refl
fresh_of_all n s (e ∷ es) all =
    by (all_current s (moments_of e)) (sym (ap (all_current s) (moments_step e es) ∙ current_joined s (moments_of e) (moments es)) ∙ all) (fresh_of_all (n + 1) (after_entry s e) es)
  where
    by : (b : Bool) → (b && all_current (after_entry s e) (moments es)) ≡ true
        → (all_current (after_entry s e) (moments es) ≡ true → first_fault is_fresh (n + 1) (after_entry s e) es ≡ None)
        → pick b (first_fault is_fresh (n + 1) (after_entry s e) es) (Some n) ≡ None
    by true f go = go f
    by false f go = absurd (cc)

both_true : (a b : Bool) → a ≡ true → b ≡ true → (a && b) ≡ true
both_true true b e f = f
both_true false b e f = e

module _ (c : Sizes) (old new : List Entry) (m : Moment) (adds : Adds old (m ∷ []) new) where
  now_more : now c new ≡ base_after (story c old) m
  unfolding after
  now_more =
      ap (λ ms. (after_all (first_story c) ms).base) adds ∙ ap (λ (s : Story). s.base) (fold-append after (first_story c) (moments old) (m ∷ []))

  fresh_more : is_current_in (now c old) (moments old) m ≡ true → IsFresh c old → IsFresh c new
  unfolding all_current
  fresh_more current fresh =
      fresh_of_all 1 (first_story c) new
      (ap (all_current (first_story c)) adds
      ∙ current_joined (first_story c) (moments old) (m ∷ [])
      ∙ both_true (all_current (first_story c) (moments old)) (is_current_in (now c old) (story c old).seen m && true) (all_of_fresh 1 (first_story c) old fresh)
      (both_true (is_current_in (now c old) (story c old).seen m) true (ap (λ seen. is_current_in (now c old) seen m) (story_seen c old) ∙ current) refl))

-- ---- the laws

pub nothing_tells_law : NothingTells
unfolding accesses_in asked_last serial
nothing_tells_law c old new adds =
    let same : moments new ≡ moments old = adds ∙ append-nil (moments old) in
    record {
      accesses = λ t p. ap (λ ms. accesses_of p (script t ms)) same;
      asked = λ t. ap (λ ms. fold (last_write t) None ms) same;
      now_same = ap (λ ms. (after_all (first_story c) ms).base) same;
      order = ap (flat_map committed) same;
      fresh = λ fresh. fresh_of_all 1 (first_story c) new (ap (all_current (first_story c)) same ∙ all_of_fresh 1 (first_story c) old fresh);
    }

-- nothing is asked of a moment that is no granted access
free_in : (o : Option Base) (seen : List Moment) (m : Moment) → ((base : Base) → is_current base seen m ≡ true) → is_current_in o seen m ≡ true
free_in None seen m free = refl
free_in (Some base) seen m free = free base

pub ask_tells_law : AskTells
ask_tells_law c old new u w adds =
    record {
      accesses = λ t p. stay c old new (Asks u w) adds t p (no_steps p);
      asked = λ t. asked_more c old new (Asks u w) adds t ∙ ap (λ b. machine.pick b w (asked_last t old)) (tests_same t u);
      now_same = now_more c old new (Asks u w) adds;
      order = order_more c old new (Asks u w) adds ∙ append-nil (serial old);
      fresh = fresh_more c old new (Asks u w) adds (free_in (now c old) (moments old) (Asks u w) (λ base. refl));
    }

-- a granted access that adds a step
access_tells : (c : Sizes) (old new : List Entry) (m : Moment) (u : TxId) (q : ℕ) (s : Step) (a : Access) → Adds old (m ∷ []) new
    → ((t : TxId) (b : Bool) → same_tx t u ≡ b → steps_at t (asked_last t old) m ≡ pick b (s ∷ []) []) → ((p : ℕ) (b : Bool) → (q == p) ≡ b → accesses_of p (s ∷ []) ≡ pick b (a ∷ []) [])
    → ((t : TxId) → last_write t (asked_last t old) m ≡ asked_last t old) → base_after (story c old) m ≡ now c old → committed m ≡ [] → TellsAccess c old new u q a
access_tells c old new m u q s a adds steps one asks base none =
    record {
      here = λ t. by t (machine.same_tx t u) refl;
      there = λ t p differs. stay c old new m adds t p (other t p differs (same_tx t u) refl);
      asked = λ t. asked_more c old new m adds t ∙ asks t;
      now_same = now_more c old new m adds ∙ base;
      order = order_more c old new m adds ∙ ap (λ ts. serial old ++ ts) none ∙ append-nil (serial old);
    }
  where
    other : (t : TxId) (p : ℕ) → p ≢ q → (b : Bool) → same_tx t u ≡ b → accesses_of p (steps_at t (asked_last t old) m) ≡ []
    other t p differs true e = ap (accesses_of p) (steps t true e) ∙ one p false (other_page p q differs)
    other t p differs false e = ap (accesses_of p) (steps t false e) ∙ no_steps p

    by : (t : TxId) (b : Bool) → machine.same_tx t u ≡ b → accesses_in t q new ≡ machine.pick b (accesses_in u q old ++ a ∷ []) (accesses_in t q old)
    by t true e =
        let same : t ≡ u = same_tx_true t u e in
        grow c old new m adds t q
        ∙ ap (λ xs. accesses_in t q old ++ xs) (ap (accesses_of q) (steps t true (tests_same t u ∙ e)) ∙ one q true (own_page q))
        ∙ ap (λ v. accesses_in v q old ++ a ∷ []) same
    by t false e = stay c old new m adds t q (ap (accesses_of q) (steps t false (tests_same t u ∙ e)) ∙ no_steps q)

same_test : (xs ys : List ℕ) → xs ≡ ys → same_bytes xs ys ≡ true
same_test xs ys e = (bytes_decides xs ys).1 e

number_same : (v w : ℕ) → v ≡ w → (v == w) ≡ true
number_same v w e = grind (arith, nat_tests)

pub read_tells_law : ReadTells
unfolding accesses_in
read_tells_law c old new u q v bytes adds = (
  access_tells c old new (Gets u q v bytes) u q (step.Read q bytes) (Read bytes) adds
      (λ t b e. ap (λ x. pick x (step.Read q bytes ∷ []) []) e) (λ p b e. one_read p q bytes b e) (λ t. refl) refl refl,
  λ right fresh. fresh_more c old new (Gets u q v bytes) adds (current right (now c old) right.has) fresh,
)
  where
    current : (right : IsRight c old u q v bytes) (o : Option Base) → HasPage o q right.page → is_current_in o (moments old) (Gets u q v bytes) ≡ true
    current right None has = absurd has
    current right (Some base) has =
        let version = ap (λ (x : BasePage). x.version) has in
        let same = ap (λ (x : BasePage). x.bytes) has in
        let left : Leaves (accesses_of q (script u (moments old))) right.page.bytes bytes = right.leaves in
        both_true (v == version_at base q) _ (number_same v (version_at base q) (right.version ∙ sym version))
        (same_test bytes (written_over (script u (moments old)) q (bytes_at base q))
        (sym (ap (written_over (script u (moments old)) q) same ∙ writes_are_left_law (script u (moments old)) q right.page.bytes bytes left)))

pub write_tells_law : WriteTells
write_tells_law c old new u q v place piece was adds = (
  access_tells c old new (Writes u q v) u q (step.Write q place piece) (Write place piece) adds
      (λ t b e. by t b e) (λ p b e. one_write p q place piece b e) (λ t. refl) refl refl,
  λ page has version fresh. fresh_more c old new (Writes u q v) adds (current page version (now c old) has) fresh,
)
  where
    by : (t : TxId) (b : Bool) → same_tx t u ≡ b → steps_at t (asked_last t old) (Writes u q v) ≡ pick b (step.Write q place piece ∷ []) []
    by t false e = ap (λ x. pick x (write_step q (asked_last t old)) []) e
    by t true e =
        let same : t ≡ u = same_tx_true t u (sym (tests_same t u) ∙ e) in
        ap (λ x. pick x (write_step q (asked_last t old)) []) e ∙ ap (write_step q) (ap (λ x. asked_last x old) same ∙ was)

    current : (page : Copy) → v ≡ page.version → (o : Option Base) → HasPage o q page → is_current_in o (moments old) (Writes u q v) ≡ true
    current page version None has = absurd has
    current page version (Some base) has = number_same v (version_at base q) (version ∙ sym (ap (λ (x : BasePage). x.version) has))

pub commit_tells_law : CommitTells
commit_tells_law c old new u adds =
    record {
      accesses = λ t p. stay c old new (Commits u) adds t p (no_steps p);
      asked = λ t. asked_more c old new (Commits u) adds t;
      ran = now_more c old new (Commits u) adds ∙ ap (λ seen. ran_on (now c old) (script u seen)) (story_seen c old);
      order = order_more c old new (Commits u) adds;
      fresh = fresh_more c old new (Commits u) adds (free_in (now c old) (moments old) (Commits u) (λ base. refl));
    }

pub empty_tells_law : EmptyTells
unfolding accesses_of accesses_in asked_last serial first_fault script_from
empty_tells_law c =
    record {
      accesses = λ t p. ap (λ ms. accesses_of p (script t ms)) no_moments ∙ nothing t p;
      asked = λ t. ap (λ ms. fold (last_write t) None ms) no_moments;
      order = ap (flat_map committed) no_moments;
      fresh = refl;
    }
  where
    nothing : (t : TxId) (p : ℕ) → accesses_of p (script t []) ≡ []
    nothing t p = refl
