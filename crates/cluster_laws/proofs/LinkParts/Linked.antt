-- What stands on a link after each change of the links.
use Rattle.std.proofs.Common.{◌≡◌, refl, ap, sym, subst, ◌∙◌, ℕ, zero, suc, ◌<◌, ◌==◌, ◌&&◌, Bool, true, false, List, [], ◌∷◌, ◌++◌, append_assoc, append-nil, length, slice_index_or, slice_set, arith, eqb-true}
use Rattle.std.specs.List.{AllByRecursion}
use Rattle.std.proofs.lemmas.Bool.Decides.{nat_tests}
use Rattle.pcl_base.specs.declared.event.Event.TheVariants as event
use Rattle.pcl_base.specs.declared.message.Message.{Message}
use Rattle.node_rules.specs.Words.{pick}
use Rattle.node_rules.specs.NodeState.{Outgoing}
use Rattle.node_laws.proofs.Lists.{set_look, set_length}
use Rattle.cluster_rules.specs.ClusterStep.{is_taken}
use Rattle.cluster_rules.specs.Links.{Links, row_at, link_at, put_link, tail_of, take_head, send, send_all, clear_into}
use Rattle.cluster_laws.proofs.Linked.{row_cleared, length_cleared}
use Rattle.cluster_laws.proofs.Lists.{look_same}
use Rattle.cluster_laws.specs.Link.Coming.{sent_to}
use Rattle.cluster_laws.specs.Link.LinkLaws.{IsSquare, LinksAreSquare, SquaresStay, EmptyLinks, PutOnLinks, TakenFromLinks, ClearedLinks, SentOnLinks, HeadsAfter}

-- tests of places
test_next : (j i : ℕ) → (suc j == suc i) ≡ (j == i)
test_next j i = grind (arith, nat_tests)

test_later : (j : ℕ) → (suc j == 0) ≡ false
test_later j = grind (arith, nat_tests)

test_first : (i : ℕ) → (0 == suc i) ≡ false
test_first i = grind (arith, nat_tests)

-- an item of a list after one was put into a place
set_at : {X : Type 0} (d : X) (xs : List X) (i j : ℕ) (y : X) → i < length xs → slice_index_or (slice_set xs i y) j d ≡ pick (j == i) y (slice_index_or xs j d)
set_at d [] i j y low = absurd (omega (arith, low))
set_at d (x ∷ xs) zero zero y low = refl
set_at d (x ∷ xs) zero (suc j) y low = ap (λ b. pick b y (slice_index_or xs j d)) (sym (test_later j))
set_at d (x ∷ xs) (suc i) zero y low = ap (λ b. pick b y x) (sym (test_first i))
set_at d (x ∷ xs) (suc i) (suc j) y low = set_at d xs i j y (omega (arith, low)) ∙ ap (λ b. pick b y (slice_index_or xs j d)) (sym (test_next j i))

-- the same where an item is changed, and none is still none
set_by : {X : Type 0} (d : X) (f : X → X) (xs : List X) (i j : ℕ) → f d ≡ d → slice_index_or (slice_set xs i (f (slice_index_or xs i d))) j d ≡ pick (j == i) (f (slice_index_or xs j d)) (slice_index_or xs j d)
set_by d f [] i j none = by (j == i)
  where
    by : (b : Bool) → d ≡ pick b (f d) d
    by true = sym none
    by false = refl
set_by d f (x ∷ xs) zero zero none = refl
set_by d f (x ∷ xs) zero (suc j) none = ap (λ b. pick b (f (slice_index_or xs j d)) (slice_index_or xs j d)) (sym (test_later j))
set_by d f (x ∷ xs) (suc i) zero none = ap (λ b. pick b (f x) x) (sym (test_first i))
set_by d f (x ∷ xs) (suc i) (suc j) none = set_by d f xs i j none ∙ ap (λ b. pick b (f (slice_index_or xs j d)) (slice_index_or xs j d)) (sym (test_next j i))

pub links_are_square_law : LinksAreSquare
links_are_square_law c last ls i = record { rows = i.rows; row = i.row }

pub square_put : (n : ℕ) (ls : Links) (a b : ℕ) (ms : List Message) → IsSquare n ls → IsSquare n (put_link ls a b ms)
unfolding put_link
square_put n ls a b ms i =
    record {
      rows = set_length ls a (slice_set (row_at ls a) b ms) ∙ i.rows;
      row = λ x low.
          set_look (λ (r : List (List Message)). length r ≡ n) [] ls a x (slice_set (row_at ls a) b ms)
          (λ e. set_length (row_at ls a) b ms ∙ i.row a (subst (λ (y : ℕ). y < n) e low)) (i.row x low);
    }

square_send : (n : ℕ) (up : ℕ → Bool) (from : ℕ) (ls : Links) (o : Outgoing) → IsSquare n ls → IsSquare n (send up from ls o)
square_send n up from ls o i = by (up o.to)
  where
    by : (b : Bool) → IsSquare n (pick b (put_link ls from o.to (link_at ls from o.to ++ o.message ∷ [])) ls)
    by true = square_put n ls from o.to (link_at ls from o.to ++ o.message ∷ []) i
    by false = i

pub square_sent : (n : ℕ) (up : ℕ → Bool) (from : ℕ) (ls : Links) (os : List Outgoing) → IsSquare n ls → IsSquare n (send_all up from ls os)
unfolding send_all
square_sent n up from ls [] i = i
square_sent n up from ls (o ∷ os) i = square_sent n up from (send up from ls o) os (square_send n up from ls o i)

square_cleared : (n : ℕ) (ls : Links) (b : ℕ) → IsSquare n ls → IsSquare n (clear_into ls b)
square_cleared n ls b i =
    record {
      rows = length_cleared ls b ∙ i.rows;
      row = λ a low. ap (λ (r : List (List Message)). length r) (row_cleared ls b a) ∙ set_length (row_at ls a) b [] ∙ i.row a low;
    }

pub squares_stay_law : SquaresStay
squares_stay_law n ls a b ms up os i = (square_put n ls a b ms i, square_sent n up a ls os i, square_cleared n ls b i)

pub empty_links_law : EmptyLinks
unfolding link_at
empty_links_law n x y =
    look_same (λ (r : List (List Message)). slice_index_or r y [] ≡ []) n x _ [] (look_same (λ (ms : List Message). ms ≡ []) n y [] [] refl refl) refl

pub put_on_links_law : PutOnLinks
unfolding put_link link_at
put_on_links_law n ls a b x y ms i low low2 =
    ap (λ (r : List (List Message)). slice_index_or r y []) (set_at [] ls a x (slice_set (row_at ls a) b ms) (subst (λ (k : ℕ). a < k) (sym i.rows) low))
    ∙ by (x == a) refl
  where
    by : (t : Bool) → (x == a) ≡ t → slice_index_or (pick t (slice_set (row_at ls a) b ms) (row_at ls x)) y [] ≡ pick (t && y == b) ms (slice_index_or (row_at ls x) y [])
    by true e =
        set_at [] (row_at ls a) b y ms (subst (λ (k : ℕ). b < k) (sym (i.row a low)) low2)
        ∙ ap (λ (k : ℕ). pick (y == b) ms (slice_index_or (row_at ls k) y [])) (sym (eqb-true x a e))
    by false e = refl

pub taken_from_links_law : TakenFromLinks
unfolding put_link link_at
taken_from_links_law ls a b x y =
    ap (λ (r : List (List Message)). slice_index_or r y [])
    (set_by [] (λ r. slice_set r b (tail_of (slice_index_or r b []))) ls a x refl)
    ∙ by (x == a)
  where
    by : (t : Bool) → slice_index_or (pick t (slice_set (row_at ls x) b (tail_of (slice_index_or (row_at ls x) b []))) (row_at ls x)) y []
        ≡ pick (t && y == b) (tail_of (slice_index_or (row_at ls x) y [])) (slice_index_or (row_at ls x) y [])
    by true = set_by [] tail_of (row_at ls x) b y refl
    by false = refl

-- an item that is emptied
set_none : {X : Type 0} (d : X) (xs : List X) (i j : ℕ) → slice_index_or (slice_set xs i d) j d ≡ pick (j == i) d (slice_index_or xs j d)
set_none d xs i j = set_by d (λ x. d) xs i j refl

pub cleared_links_law : ClearedLinks
unfolding link_at
cleared_links_law ls b x y = ap (λ (r : List (List Message)). slice_index_or r y []) (row_cleared ls b x) ∙ set_none [] (row_at ls x) b y

-- one that is sent
sent_one : (n : ℕ) (up : ℕ → Bool) (from : ℕ) (ls : Links) (o : Outgoing) (x y : ℕ) → IsSquare n ls → from < n → o.to < n
    → link_at (send up from ls o) x y ≡ link_at ls x y ++ pick (x == from && up y) (pick (o.to == y) (o.message ∷ []) []) []
sent_one n up from ls o x y i low low2 = by (up o.to) refl
  where
    none : (b t : Bool) → (o.to == y) ≡ t → up o.to ≡ false → link_at ls x y ≡ link_at ls x y ++ pick (b && up y) (pick t (o.message ∷ []) []) []
    none b false e f = gone b (up y)
      where
        gone : (b u : Bool) → link_at ls x y ≡ link_at ls x y ++ pick (b && u) [] []
        gone true true = sym (append-nil (link_at ls x y))
        gone true false = sym (append-nil (link_at ls x y))
        gone false u = sym (append-nil (link_at ls x y))
    none b true e f = down b (up y) (ap up (sym (eqb-true o.to y e)) ∙ f)
      where
        down : (b u : Bool) → u ≡ false → link_at ls x y ≡ link_at ls x y ++ pick (b && u) (o.message ∷ []) []
        down b true t = absurd (cc)
        down true false t = sym (append-nil (link_at ls x y))
        down false false t = sym (append-nil (link_at ls x y))

    by : (t : Bool) → up o.to ≡ t → link_at (pick t (put_link ls from o.to (link_at ls from o.to ++ o.message ∷ [])) ls) x y ≡ link_at ls x y ++ pick (x == from && up y) (pick (o.to == y) (o.message ∷ []) []) []
    by false e = none (x == from) (o.to == y) refl e
    by true e =
        put_on_links_law n ls from o.to x y (link_at ls from o.to ++ o.message ∷ []) i low low2
        ∙ at (x == from) (y == o.to) (o.to == y) refl refl refl
      where
        at : (a b t : Bool) → (x == from) ≡ a → (y == o.to) ≡ b → (o.to == y) ≡ t
            → pick (a && b) (link_at ls from o.to ++ o.message ∷ []) (link_at ls x y) ≡ link_at ls x y ++ pick (a && up y) (pick t (o.message ∷ []) []) []
        at false b t p q r = sym (append-nil (link_at ls x y))
        at true true true p q r =
            let same = eqb-true y o.to q in
            let alike : link_at ls from o.to ≡ link_at ls x y = ap (λ (k : ℕ). link_at ls k o.to) (sym (eqb-true x from p)) ∙ ap (link_at ls x) (sym same) in
            ap (λ (ms : List Message). ms ++ o.message ∷ []) alike
            ∙ ap (λ (u : Bool). link_at ls x y ++ pick u (o.message ∷ []) []) (sym (ap up same ∙ e))
        at true true false p q r = let same = eqb-true y o.to q in absurd (grind (arith, nat_tests, r, same))
        at true false true p q r = let same = eqb-true o.to y r in absurd (grind (arith, nat_tests, q, same))
        at true false false p q r = of (up y)
          where
            of : (u : Bool) → link_at ls x y ≡ link_at ls x y ++ pick u [] []
            of true = sym (append-nil (link_at ls x y))
            of false = sym (append-nil (link_at ls x y))

pub sent_on_links_law : SentOnLinks
unfolding send_all sent_to
sent_on_links_law n up from ls [] x y i low all = by (x == from && up y)
  where
    by : (b : Bool) → link_at ls x y ≡ link_at ls x y ++ pick b [] []
    by true = sym (append-nil (link_at ls x y))
    by false = sym (append-nil (link_at ls x y))
sent_on_links_law n up from ls (o ∷ os) x y i low all =
    sent_on_links_law n up from (send up from ls o) os x y (square_send n up from ls o i) low all.1
    ∙ ap (λ (ms : List Message). ms ++ pick (x == from && up y) (sent_to y os) []) (sent_one n up from ls o x y i low all.0)
    ∙ append_assoc (link_at ls x y) (pick (x == from && up y) (pick (o.to == y) (o.message ∷ []) []) []) (pick (x == from && up y) (sent_to y os) [])
    ∙ ap (λ (ms : List Message). link_at ls x y ++ ms) (by (x == from && up y) (o.to == y))
  where
    by : (a b : Bool) → pick a (pick b (o.message ∷ []) []) [] ++ pick a (sent_to y os) [] ≡ pick a (pick b (o.message ∷ sent_to y os) (sent_to y os)) []
    by true true = refl
    by true false = refl
    by false b = refl

and_true : (b : Bool) → b ≡ b && true
and_true true = refl
and_true false = refl

and_false : (b : Bool) → false ≡ b && false
and_false true = refl
and_false false = refl

pub heads_after_law : HeadsAfter
heads_after_law (event.Deliver from to) rs ls x y = by (is_taken rs)
  where
    by : (b : Bool) → link_at (pick b (take_head ls from to) ls) x y ≡ pick ((x == from && y == to) && b) (tail_of (link_at ls x y)) (link_at ls x y)
    by true = taken_from_links_law ls from to x y ∙ ap (λ (t : Bool). pick t (tail_of (link_at ls x y)) (link_at ls x y)) (and_true (x == from && y == to))
    by false = ap (λ (t : Bool). pick t (tail_of (link_at ls x y)) (link_at ls x y)) (and_false (x == from && y == to))
heads_after_law (event.Begin n) rs ls x y = refl
heads_after_law (event.Read t p) rs ls x y = refl
heads_after_law (event.Write t p place bytes) rs ls x y = refl
heads_after_law (event.Commit t) rs ls x y = refl
heads_after_law (event.Abort t) rs ls x y = refl
heads_after_law (event.Evict n p) rs ls x y = refl
heads_after_law (event.Flush n p) rs ls x y = refl
heads_after_law (event.Crash n) rs ls x y = refl
heads_after_law (event.View live owners) rs ls x y = refl
heads_after_law (event.Install n) rs ls x y = refl
heads_after_law event.Reopen rs ls x y = refl
heads_after_law (event.Arm n call stops) rs ls x y = refl
heads_after_law (event.Cut n) rs ls x y = refl

-- what holds of all messages that are sent holds of those to one node
pub sent_have : (P : Outgoing → Type 0) (Q : Message → Type 0) (b : ℕ) (os : List Outgoing) → ((o : Outgoing) → P o → o.to ≡ b → Q o.message) → AllByRecursion P os → AllByRecursion Q (sent_to b os)
unfolding sent_to
sent_have P Q b [] f all = tt
sent_have P Q b (o ∷ os) f all = by (o.to == b) refl (sent_have P Q b os f all.1)
  where
    by : (t : Bool) → (o.to == b) ≡ t → AllByRecursion Q (sent_to b os) → AllByRecursion Q (pick t (o.message ∷ sent_to b os) (sent_to b os))
    by true e rest = (f o all.0 (eqb-true o.to b e), rest)
    by false e rest = rest
