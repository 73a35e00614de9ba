-- What a trace tells once further moments are behind it: a granted access whose transaction's script leaves
-- something of the page in the end was fresh at its place.
use Rattle.std.proofs.Common.{◌≡◌, refl, sym, ap, subst, ◌∙◌, ℕ, ◌+◌, ◌==◌, ◌&&◌, Bool, true, false, List, [], ◌∷◌, ◌++◌, Option, Some, None, arith, append-nil, append_assoc}
use Rattle.std.specs.Prelude.{⊤}
use Rattle.std.specs.List.{AllByRecursion, fold}
use Rattle.std.specs.Cmp.Lexicographic.{bytes_decides}
use Rattle.std.proofs.lemmas.Bool.Decides.{nat_tests}
use Rattle.std.proofs.lemmas.List.Sums.{fold-append}
use Rattle.pcl_base.specs.Limits.{Sizes}
use Rattle.pcl_base.specs.declared.script.Step.{Step}
use Rattle.pcl_base.specs.declared.script.Step.TheVariants as step
use Rattle.pcl_base.specs.declared.trace.Entry.{Entry}
use Rattle.pcl_base.specs.declared.tx.TxId.{TxId}
use Rattle.run_rules.specs.Base.{Base, BasePage, version_at, bytes_at}
use Rattle.run_rules.specs.Fresh.{written_over, is_current_in, all_current, is_fresh, IsFresh}
use Rattle.run_rules.specs.Now.{Story, first_story, after, after_all, after_entry, story, now, first_fault}
use Rattle.run_rules.specs.Script.{Moment, Asks, Gets, Writes, Commits, moments_of, moments, last_write, steps_at, script_from, script}
use Rattle.run_rules.specs.Words.{pick, same_tx, same_bytes}
use Rattle.page_protocol.specs.Bytes.{Copy, Access, Read, Write, put, Leaves}
use Rattle.page_laws.specs.Moment.Looks.{accesses_of, HasPage}
use Rattle.page_laws.proofs.MomentParts.ByPage.{writes_are_left_law}
use Rattle.page_laws.proofs.MomentParts.Growing.{story_seen}

-- a script of some moments and of those behind them
pub script_joined : (t : TxId) (w : Option (ℕ × List ℕ)) (xs ys : List Moment) → script_from t w (xs ++ ys) ≡ script_from t w xs ++ script_from t (fold (last_write t) w xs) ys
unfolding script_from
script_joined t w [] ys = refl
script_joined t w (m ∷ xs) ys =
    ap (λ s. steps_at t w m ++ s) (script_joined t (last_write t w m) xs ys)
    ∙ sym (append_assoc (steps_at t w m) (script_from t (last_write t w m) xs) (script_from t (fold (last_write t) (last_write t w m) xs) ys))

pub accesses_joined : (p : ℕ) (xs ys : List Step) → accesses_of p (xs ++ ys) ≡ accesses_of p xs ++ accesses_of p ys
unfolding accesses_of
accesses_joined p [] ys = refl
accesses_joined p (step.Read q bytes ∷ xs) ys = by (q == p) (accesses_joined p xs ys)
  where
    by : (b : Bool) → accesses_of p (xs ++ ys) ≡ accesses_of p xs ++ accesses_of p ys
        → pick b (Read bytes ∷ accesses_of p (xs ++ ys)) (accesses_of p (xs ++ ys)) ≡ pick b (Read bytes ∷ accesses_of p xs) (accesses_of p xs) ++ accesses_of p ys
    by true ih = ap (λ zs. Read bytes ∷ zs) ih
    by false ih = ih
accesses_joined p (step.Write q place bytes ∷ xs) ys = by (q == p) (accesses_joined p xs ys)
  where
    by : (b : Bool) → accesses_of p (xs ++ ys) ≡ accesses_of p xs ++ accesses_of p ys
        → pick b (Write place bytes ∷ accesses_of p (xs ++ ys)) (accesses_of p (xs ++ ys)) ≡ pick b (Write place bytes ∷ accesses_of p xs) (accesses_of p xs) ++ accesses_of p ys
    by true ih = ap (λ zs. Write place bytes ∷ zs) ih
    by false ih = ih

-- what the first of two scripts leaves
record IsSplit (xs ys : List Access) (page left : List ℕ) : Type 0 where
  middle : List ℕ
  front : Leaves xs page middle
  back : Leaves ys middle left

leaves_split : (xs ys : List Access) (page left : List ℕ) → Leaves (xs ++ ys) page left → IsSplit xs ys page left
leaves_split [] ys page left l = record { middle = page; front = refl; back = l }
leaves_split (Read bytes ∷ xs) ys page left l =
    let rest = leaves_split xs ys page left l.1 in record { middle = rest.middle; front = (l.0, rest.front); back = rest.back }
leaves_split (Write place piece ∷ xs) ys page left l =
    let rest = leaves_split xs ys (put place piece page) left l in record { middle = rest.middle; front = rest.front; back = rest.back }

leaves_read : (bytes : List ℕ) (ys : List Access) (page left : List ℕ) → Leaves (Read bytes ∷ ys) page left → bytes ≡ page
leaves_read bytes ys page left l = l.0

own_page : (q : ℕ) → (q == q) ≡ true
own_page q = grind (arith, nat_tests)

own_name : (t : TxId) → same_tx t t ≡ true
own_name t = grind (arith, nat_tests)

-- the script of a read, and of what comes behind it
read_first : (u : TxId) (q v : ℕ) (bytes : List ℕ) (w : Option (ℕ × List ℕ)) (ms : List Moment)
    → accesses_of q (script_from u w (Gets u q v bytes ∷ ms)) ≡ Read bytes ∷ accesses_of q (script_from u w ms)
unfolding script_from accesses_of
read_first u q v bytes w ms =
    ap (λ b. accesses_of q (pick b (step.Read q bytes ∷ []) [] ++ script_from u w ms)) (own_name u)
    ∙ ap (λ b. pick b (Read bytes ∷ accesses_of q (script_from u w ms)) (accesses_of q (script_from u w ms))) (own_page q)

read_splits : (u : TxId) (q v : ℕ) (bytes : List ℕ) (seen ms all : List Moment) → all ≡ seen ++ Gets u q v bytes ∷ ms
    → accesses_of q (script u all) ≡ accesses_of q (script u seen) ++ Read bytes ∷ accesses_of q (script_from u (fold (last_write u) None seen) ms)
read_splits u q v bytes seen ms all same =
    ap (λ xs. accesses_of q (script u xs)) same
    ∙ ap (accesses_of q) (script_joined u None seen (Gets u q v bytes ∷ ms))
    ∙ accesses_joined q (script u seen) (script_from u (fold (last_write u) None seen) (Gets u q v bytes ∷ ms))
    ∙ ap (λ xs. accesses_of q (script u seen) ++ xs) (read_first u q v bytes (fold (last_write u) None seen) ms)

-- A granted access of transaction u that is right in the end: it has the version of the page that the commits
-- have made, of which all accesses of u leave something.
pub record IsRightAt (o : Option Base) (all : List Moment) (u : TxId) (q v : ℕ) : Type 0 where
  pub page : Copy
  pub has : HasPage o q page
  pub version : v ≡ page.version
  pub left : List ℕ
  pub leaves : Leaves (accesses_of q (script u all)) page.bytes left

-- a moment that is no granted access
abbrev pub IsQuiet : Moment → Type 0
IsQuiet (Asks u w) = ⊤
IsQuiet (Gets u q v bytes) = ⊥
IsQuiet (Writes u q v) = ⊥
IsQuiet (Commits u) = ⊤

-- a granted access that is right in the end; and no commit point
abbrev pub IsRightIn : Option Base → List Moment → Moment → Type 0
IsRightIn o all (Asks u w) = ⊤
IsRightIn o all (Gets u q v bytes) = IsRightAt o all u q v
IsRightIn o all (Writes u q v) = IsRightAt o all u q v
IsRightIn o all (Commits u) = ⊥

both_true : (a b : Bool) → a ≡ true → b ≡ true → (a && b) ≡ true
both_true true b e f = f
both_true false b e f = e

same_test : (xs ys : List ℕ) → xs ≡ ys → same_bytes xs ys ≡ true
same_test xs ys e = (bytes_decides xs ys).1 e

same_number : (v w : ℕ) → v ≡ w → (v == w) ≡ true
same_number v w e = grind (arith, nat_tests)

read_current : (o : Option Base) (all seen ms : List Moment) (u : TxId) (q v : ℕ) (bytes : List ℕ) → all ≡ seen ++ Gets u q v bytes ∷ ms → IsRightAt o all u q v
    → is_current_in o seen (Gets u q v bytes) ≡ true
read_current None all seen ms u q v bytes same r = absurd r.has
read_current (Some base) all seen ms u q v bytes same r =
    let later : List Access = accesses_of q (script_from u (fold (last_write u) None seen) ms) in
    let split : IsSplit (accesses_of q (script u seen)) (Read bytes ∷ later) r.page.bytes r.left =
    leaves_split (accesses_of q (script u seen)) (Read bytes ∷ later) r.page.bytes r.left
    (subst (λ xs. Leaves xs r.page.bytes r.left) (read_splits u q v bytes seen ms all same) r.leaves) in
    let read : bytes ≡ split.middle = leaves_read bytes later split.middle r.left split.back in
    let version = ap (λ (x : BasePage). x.version) r.has in
    let page = ap (λ (x : BasePage). x.bytes) r.has in
    both_true (v == version_at base q) _ (same_number v (version_at base q) (r.version ∙ sym version))
    (same_test bytes (written_over (script u seen) q (bytes_at base q))
    (read ∙ sym (writes_are_left_law (script u seen) q r.page.bytes split.middle split.front) ∙ ap (written_over (script u seen) q) (sym page)))

write_current : (o : Option Base) (all seen : List Moment) (u : TxId) (q v : ℕ) → IsRightAt o all u q v → is_current_in o seen (Writes u q v) ≡ true
write_current None all seen u q v r = absurd r.has
write_current (Some base) all seen u q v r = same_number v (version_at base q) (r.version ∙ sym (ap (λ (x : BasePage). x.version) r.has))

ask_current : (o : Option Base) (seen : List Moment) (u : TxId) (w : Option (ℕ × List ℕ)) → is_current_in o seen (Asks u w) ≡ true
ask_current None seen u w = refl
ask_current (Some base) seen u w = refl

commit_current : (o : Option Base) (seen : List Moment) (u : TxId) → is_current_in o seen (Commits u) ≡ true
commit_current None seen u = refl
commit_current (Some base) seen u = refl

-- granted accesses that are right in the end are current, and leave the base
right_current : (s : Story) (all ms : List Moment) → all ≡ s.seen ++ ms → AllByRecursion (IsRightIn s.base all) ms → all_current s ms ≡ true
unfolding all_current after
right_current s all [] same right = refl
right_current s all (Asks u w ∷ ms) same right =
    both_true (is_current_in s.base s.seen (Asks u w)) _ (ask_current s.base s.seen u w)
    (right_current (after s (Asks u w)) all ms (same ∙ sym (append_assoc s.seen (Asks u w ∷ []) ms)) right.1)
right_current s all (Gets u q v bytes ∷ ms) same right =
    both_true (is_current_in s.base s.seen (Gets u q v bytes)) _ (read_current s.base all s.seen ms u q v bytes same right.0)
    (right_current (after s (Gets u q v bytes)) all ms (same ∙ sym (append_assoc s.seen (Gets u q v bytes ∷ []) ms)) right.1)
right_current s all (Writes u q v ∷ ms) same right =
    both_true (is_current_in s.base s.seen (Writes u q v)) _ (write_current s.base all s.seen u q v right.0)
    (right_current (after s (Writes u q v)) all ms (same ∙ sym (append_assoc s.seen (Writes u q v ∷ []) ms)) right.1)
right_current s all (Commits u ∷ ms) same right = absurd right.0

right_base : (o : Option Base) (s : Story) (all ms : List Moment) → AllByRecursion (IsRightIn o all) ms → (after_all s ms).base ≡ s.base
unfolding after
right_base o s all [] right = refl
right_base o s all (Asks u w ∷ ms) right = right_base o (after s (Asks u w)) all ms right.1
right_base o s all (Gets u q v bytes ∷ ms) right = right_base o (after s (Gets u q v bytes)) all ms right.1
right_base o s all (Writes u q v ∷ ms) right = right_base o (after s (Writes u q v)) all ms right.1
right_base o s all (Commits u ∷ ms) right = absurd right.0

-- moments without granted accesses are current
quiet_current : (s : Story) (ms : List Moment) → AllByRecursion IsQuiet ms → all_current s ms ≡ true
unfolding all_current
quiet_current s [] quiet = refl
quiet_current s (Asks u w ∷ ms) quiet =
    both_true (is_current_in s.base s.seen (Asks u w)) _ (ask_current s.base s.seen u w) (quiet_current (after s (Asks u w)) ms quiet.1)
quiet_current s (Gets u q v bytes ∷ ms) quiet = absurd quiet.0
quiet_current s (Writes u q v ∷ ms) quiet = absurd quiet.0
quiet_current s (Commits u ∷ ms) quiet =
    both_true (is_current_in s.base s.seen (Commits u)) _ (commit_current s.base s.seen u) (quiet_current (after s (Commits u)) ms quiet.1)

seen_more : (s : Story) (ms : List Moment) → (after_all s ms).seen ≡ s.seen ++ ms
unfolding after
seen_more s [] = sym (append-nil s.seen)
seen_more s (m ∷ ms) = seen_more (after s m) ms ∙ append_assoc s.seen (m ∷ []) ms

and_assoc : (a b c : Bool) → (a && (b && c)) ≡ ((a && b) && c)
and_assoc true b c = refl
and_assoc false b c = refl

current_joined : (s : Story) (xs ys : List Moment) → all_current s (xs ++ ys) ≡ (all_current s xs && all_current (after_all s xs) ys)
unfolding all_current
current_joined s [] ys = refl
current_joined s (m ∷ xs) ys =
    ap (λ b. is_current_in s.base s.seen m && b) (current_joined (after s m) xs ys)
    ∙ and_assoc (is_current_in s.base s.seen m) (all_current (after s m) xs) (all_current (after_all (after s m) xs) ys)

moments_step : (e : Entry) (es : List Entry) → moments (e ∷ es) ≡ moments_of e ++ moments es
unfolding moments
moments_step e es = refl

pub no_moments : moments [] ≡ []
unfolding moments
no_moments = refl

-- a trace is fresh exactly where all its granted accesses are current
all_of_fresh : (n : ℕ) (s : Story) (es : List Entry) → first_fault is_fresh n s es ≡ None → all_current s (moments es) ≡ true
unfolding first_fault all_current
all_of_fresh n s [] none = ap (all_current s) no_moments
all_of_fresh n s (e ∷ es) none =
    ap (all_current s) (moments_step e es) ∙ current_joined s (moments_of e) (moments es)
    ∙ by (all_current s (moments_of e)) none (all_of_fresh (n + 1) (after_entry s e) es)
  where
    by : (b : Bool) → pick b (first_fault is_fresh (n + 1) (after_entry s e) es) (Some n) ≡ None
        → (first_fault is_fresh (n + 1) (after_entry s e) es ≡ None → all_current (after_entry s e) (moments es) ≡ true)
        → (b && all_current (after_entry s e) (moments es)) ≡ true
    by true f go = go f
    by false f go = absurd (cc)

fresh_of_all : (n : ℕ) (s : Story) (es : List Entry) → all_current s (moments es) ≡ true → first_fault is_fresh n s es ≡ None
unfolding first_fault
fresh_of_all n s [] all = refl
fresh_of_all n s (e ∷ es) all =
    by (all_current s (moments_of e)) (sym (ap (all_current s) (moments_step e es) ∙ current_joined s (moments_of e) (moments es)) ∙ all) (fresh_of_all (n + 1) (after_entry s e) es)
  where
    by : (b : Bool) → (b && all_current (after_entry s e) (moments es)) ≡ true
        → (all_current (after_entry s e) (moments es) ≡ true → first_fault is_fresh (n + 1) (after_entry s e) es ≡ None)
        → pick b (first_fault is_fresh (n + 1) (after_entry s e) es) (Some n) ≡ None
    by true f go = go f
    by false f go = absurd (cc)

-- moments without granted accesses, and then granted accesses that are right in the end, keep a trace fresh
pub fresh_then : (c : Sizes) (old new : List Entry) (front rest : List Moment) → moments new ≡ moments old ++ (front ++ rest) → AllByRecursion IsQuiet front
    → AllByRecursion (IsRightIn (now c new) (moments new)) rest → IsFresh c old → IsFresh c new
fresh_then c old new front rest adds quiet right fresh =
    fresh_of_all 1 (first_story c) new
    (ap (all_current (first_story c)) adds ∙ current_joined (first_story c) (moments old) (front ++ rest)
    ∙ both_true (all_current (first_story c) (moments old)) _ (all_of_fresh 1 (first_story c) old fresh)
    (current_joined (story c old) front rest ∙ both_true (all_current (story c old) front) _ (quiet_current (story c old) front quiet) last))
  where
    before : Story
    before = after_all (story c old) front

    whole : story c new ≡ after_all before rest
    whole =
        ap (after_all (first_story c)) adds ∙ fold-append after (first_story c) (moments old) (front ++ rest)
        ∙ fold-append after (story c old) front rest

    base : now c new ≡ before.base
    base = ap (λ (s : Story). s.base) whole ∙ right_base (now c new) before (moments new) rest right

    seen : moments new ≡ before.seen ++ rest
    seen =
        adds ∙ sym (append_assoc (moments old) front rest)
        ∙ ap (λ ms. (ms ++ front) ++ rest) (sym (story_seen c old))
        ∙ ap (λ ms. ms ++ rest) (sym (seen_more (story c old) front))

    last : all_current before rest ≡ true
    last = right_current before (moments new) rest seen (subst (λ o. AllByRecursion (IsRightIn o (moments new)) rest) base right)
