-- Views one after another, and messages at them.
use Rattle.std.proofs.Common.{◌≡◌, ◌⊎◌, inl, inr, ℕ, zero, suc, ◌+◌, ◌<◌, ◌≤◌, ◌==◌, ◌&&◌, ◌||◌, not, Bool, true, false, List, [], ◌∷◌, length, replicate, slice_index, nat_lt, Option, Some, None, Result, Ok, Err, refl, sym, ap, subst, ◌∙◌, arith, eqb-true, ltb-true, ltb-false, lt-ltb, le-ltb}
use Rattle.std.specs.List.{list_all}
use Rattle.std.proofs.lemmas.List.{length-replicate, get_or-replicate}
use Rattle.pcl_base.specs.Limits.{Sizes}
use Rattle.pcl_base.specs.declared.lock.Verdict.TheVariants.{Taken, Held, Dropped}
use Rattle.run_rules.specs.Views.{View, count_from, is_live, owner_of, since_of, born_of, first_broken, keeps_one, keeps_two, keeps_four, keeps_six, since_after, born_after, moved, anew, unless_broken, next, reopen}
use Rattle.node_rules.specs.Words.{pick}
use Rattle.node_rules.specs.Judging.{judge, is_past}
use Rattle.rule_laws.specs.LaterViews.{IsWhole, IsNext, moves, reopens, IsLater, same, after, IsMoved, IsNotBelow, IsBetween, FirstIsWhole, WholeStays, NextMoves, NeverFalls, DroppedStays, TakenIsBetween, HeldIsAhead}
use Rattle.rule_laws.proofs.Turns.{and_left, and_right, not_true}

-- numbers in a row
length-count_from : (a n : ℕ) → length (count_from a n) ≡ n
unfolding count_from
length-count_from a zero = refl
length-count_from a (suc n) = ap suc (length-count_from (a + 1) n)

count_from_at : (a n q : ℕ) → q < n → slice_index (count_from a n) q ≡ a + q
unfolding count_from
count_from_at a zero q l = absurd (omega arith)
count_from_at a (suc n) zero l = omega arith
count_from_at a (suc n) (suc q) l = let rest = count_from_at (a + 1) n q (omega arith) in omega (arith, rest)

-- a view in which everything begins anew
whole_anew : (c : Sizes) (e : ℕ) → 1 ≤ e → IsWhole c (anew c e)
whole_anew c e some =
    record {
      live = length-replicate c.nodes true;
      owners = length-count_from 0 c.nodes;
      since = length-replicate c.nodes e;
      born = length-replicate c.nodes e;
      owner_known = λ q l. let own = count_from_at 0 c.nodes q l in omega (arith, own);
      owner_live = λ q l. let own = count_from_at 0 c.nodes q l in get_or-replicate c.nodes (owner_of (anew c e) q) true false (omega (arith, own));
      since_from = λ q l. let at = get_or-replicate c.nodes q e 0 l in omega (arith, at);
      since_upto = λ q l. let at = get_or-replicate c.nodes q e 0 l in omega (arith, at);
      born_from = λ q l. let at = get_or-replicate c.nodes q e 0 l in omega (arith, at);
      born_upto = λ q l. let at = get_or-replicate c.nodes q e 0 l in omega (arith, at);
    }

pub first_is_whole_law : FirstIsWhole
first_is_whole_law c = whole_anew c 1 (omega arith)

-- a view that no rule breaks
record IsKept (c : Sizes) (v : View) (live : List Bool) (owners : List ℕ) : Type 0 where
  one : keeps_one c live owners ≡ true
  four : keeps_four c live owners ≡ true

kept_by : (a b d e : Bool) → pick (not a) (Some 1) (pick (not b) (Some 2) (pick (not d) (Some 4) (pick (not e) (Some 6) (let o : Option ℕ = None in o)))) ≡ None → (a ≡ true) × (d ≡ true)
kept_by true true true e q = (refl, refl)
kept_by true true false e q = absurd (cc)
kept_by true false d e q = absurd (cc)
kept_by false b d e q = absurd (cc)

kept : (c : Sizes) (v : View) (live : List Bool) (owners : List ℕ) → first_broken c v live owners ≡ None → IsKept c v live owners
kept c v live owners q =
    let k = kept_by (keeps_one c live owners) (keeps_two live) (keeps_four c live owners) (keeps_six v) q in
    record { one = k.0; four = k.1 }

unbroken : (b : Option ℕ) (v w : View) → unless_broken b v ≡ Ok w → (b ≡ None) × (v ≡ w)
unbroken None v w e = (refl, cc)
unbroken (Some n) v w e = absurd (cc)

next_is : (c : Sizes) (v w : View) (live : List Bool) (owners : List ℕ) → next c v live owners ≡ Ok w → IsKept c v live owners × (moved v live owners ≡ w)
unfolding next
next_is c v w live owners e =
    let u = unbroken (first_broken c v live owners) (moved v live owners) w e in (kept c v live owners u.0, u.1)

reopen_is : (c : Sizes) (v w : View) → reopen c v ≡ Ok w → anew c (v.epoch + 1) ≡ w
unfolding reopen
reopen_is c v w e = by (keeps_six v) e
  where
    by : (b : Bool) → pick {X = Result View ℕ} b (Ok (anew c (v.epoch + 1))) (Err 6) ≡ Ok w → anew c (v.epoch + 1) ≡ w
    by true q = cc
    by false q = absurd (cc)

-- since and born, place by place
length-since : (e n : ℕ) (old new since : List ℕ) → length old ≡ n → length new ≡ n → length since ≡ n → length (since_after e old new since) ≡ n
unfolding since_after
length-since e n [] new since p q r = p
length-since e n (x ∷ old) [] since p q r = q
length-since e n (x ∷ old) (y ∷ new) [] p q r = r
length-since e zero (x ∷ old) (y ∷ new) (s ∷ since) p q r = absurd (omega arith)
length-since e (suc n) (x ∷ old) (y ∷ new) (s ∷ since) p q r =
    let rest = length-since e n old new since (omega arith) (omega arith) (omega arith) in omega (arith, rest)

since_at : (e : ℕ) (old new since : List ℕ) (q : ℕ) → q < length old → q < length new → q < length since
    → slice_index (since_after e old new since) q ≡ pick (slice_index old q == slice_index new q) (slice_index since q) e
unfolding since_after
since_at e [] new since q a b d = absurd (omega arith)
since_at e (x ∷ old) [] since q a b d = absurd (omega arith)
since_at e (x ∷ old) (y ∷ new) [] q a b d = absurd (omega arith)
since_at e (x ∷ old) (y ∷ new) (s ∷ since) zero a b d = refl
since_at e (x ∷ old) (y ∷ new) (s ∷ since) (suc q) a b d = since_at e old new since q (omega arith) (omega arith) (omega arith)

length-born : (e n : ℕ) (old new : List Bool) (born : List ℕ) → length old ≡ n → length new ≡ n → length born ≡ n → length (born_after e old new born) ≡ n
unfolding born_after
length-born e n [] new born p q r = p
length-born e n (x ∷ old) [] born p q r = q
length-born e n (x ∷ old) (y ∷ new) [] p q r = r
length-born e zero (x ∷ old) (y ∷ new) (s ∷ born) p q r = absurd (omega arith)
length-born e (suc n) (x ∷ old) (y ∷ new) (s ∷ born) p q r =
    let rest = length-born e n old new born (omega arith) (omega arith) (omega arith) in omega (arith, rest)

born_at : (e : ℕ) (old new : List Bool) (born : List ℕ) (n : ℕ) → n < length old → n < length new → n < length born
    → slice_index (born_after e old new born) n ≡ pick (is_live new n && not (is_live old n)) e (slice_index born n)
unfolding born_after
born_at e [] new born n a b d = absurd (omega arith)
born_at e (x ∷ old) [] born n a b d = absurd (omega arith)
born_at e (x ∷ old) (y ∷ new) [] n a b d = absurd (omega arith)
born_at e (x ∷ old) (y ∷ new) (s ∷ born) zero a b d = refl
born_at e (x ∷ old) (y ∷ new) (s ∷ born) (suc n) a b d = born_at e old new born n (omega arith) (omega arith) (omega arith)

-- owners are known and live
owned_at : (nodes : ℕ) (live : List Bool) (owners : List ℕ) (q : ℕ) → list_all (λ o. nat_lt o nodes && is_live live o) owners ≡ true → q < length owners
    → (slice_index owners q < nodes) × (is_live live (slice_index owners q) ≡ true)
owned_at nodes live [] q e l = absurd (omega arith)
owned_at nodes live (o ∷ owners) zero e l =
    let here = and_left (nat_lt o nodes && is_live live o) (list_all (λ o. nat_lt o nodes && is_live live o) owners) e in
    (ltb-true o nodes (and_left (nat_lt o nodes) (is_live live o) here), and_right (nat_lt o nodes) (is_live live o) here)
owned_at nodes live (o ∷ owners) (suc q) e l =
    owned_at nodes live owners q (and_right (nat_lt o nodes && is_live live o) (list_all (λ o. nat_lt o nodes && is_live live o) owners) e) (omega arith)

-- a choice of two numbers is within their limits
pick_within : (b : Bool) (x y low high : ℕ) → low ≤ x → low ≤ y → x ≤ high → y ≤ high → (low ≤ pick b x y) × (pick b x y ≤ high)
pick_within true x y low high a b d e = (a, d)
pick_within false x y low high a b d e = (b, e)

-- the lengths of what a view is made of
kept_lengths : (c : Sizes) (v : View) (live : List Bool) (owners : List ℕ) → IsKept c v live owners → (length live ≡ c.nodes) × (length owners ≡ c.nodes)
kept_lengths c v live owners k = (
  eqb-true (length live) c.nodes (and_left (length live == c.nodes) (length owners == c.nodes) k.one),
  eqb-true (length owners) c.nodes (and_right (length live == c.nodes) (length owners == c.nodes) k.one),
)

moved_since : (c : Sizes) (v : View) (live : List Bool) (owners : List ℕ) → IsWhole c v → IsKept c v live owners → (q : ℕ) → q < c.nodes
    → since_of (moved v live owners) q ≡ pick (owner_of v q == slice_index owners q) (since_of v q) (v.epoch + 1)
moved_since c v live owners i k q l =
    let n = kept_lengths c v live owners k in
    let a = i.owners in
    let b = n.1 in
    let d = i.since in
    since_at (v.epoch + 1) v.owners owners v.since q (omega arith) (omega arith) (omega arith)

moved_born : (c : Sizes) (v : View) (live : List Bool) (owners : List ℕ) → IsWhole c v → IsKept c v live owners → (n : ℕ) → n < c.nodes
    → born_of (moved v live owners) n ≡ pick (is_live live n && not (is_live v.live n)) (v.epoch + 1) (born_of v n)
moved_born c v live owners i k n l =
    let m = kept_lengths c v live owners k in
    let a = i.live in
    let b = m.0 in
    let d = i.born in
    born_at (v.epoch + 1) v.live live v.born n (omega arith) (omega arith) (omega arith)

whole_moved : (c : Sizes) (v : View) (live : List Bool) (owners : List ℕ) → IsWhole c v → IsKept c v live owners → IsWhole c (moved v live owners)
whole_moved c v live owners i k =
    let m = kept_lengths c v live owners k in
    let long = m.1 in
    let owned : (q : ℕ) → q < c.nodes → (slice_index owners q < c.nodes) × (is_live live (slice_index owners q) ≡ true) = λ q l. owned_at c.nodes live owners q k.four (omega arith) in
    let since : (q : ℕ) → q < c.nodes → (1 ≤ since_of (moved v live owners) q) × (since_of (moved v live owners) q ≤ v.epoch + 1) = λ q l.
    let a = i.since_from q l in
    let b = i.since_upto q l in
    subst (λ (x : ℕ). (1 ≤ x) × (x ≤ v.epoch + 1)) (sym (moved_since c v live owners i k q l))
    (pick_within (owner_of v q == slice_index owners q) (since_of v q) (v.epoch + 1) 1 (v.epoch + 1) a (omega arith) (omega arith) (omega arith)) in
    let born : (n : ℕ) → n < c.nodes → (1 ≤ born_of (moved v live owners) n) × (born_of (moved v live owners) n ≤ v.epoch + 1) = λ n l.
    let a = i.born_from n l in
    let b = i.born_upto n l in
    subst (λ (x : ℕ). (1 ≤ x) × (x ≤ v.epoch + 1)) (sym (moved_born c v live owners i k n l))
    (pick_within (is_live live n && not (is_live v.live n)) (v.epoch + 1) (born_of v n) 1 (v.epoch + 1) (omega arith) a (omega arith) (omega arith)) in
    record {
      live = m.0;
      owners = m.1;
      since = length-since (v.epoch + 1) c.nodes v.owners owners v.since i.owners m.1 i.since;
      born = length-born (v.epoch + 1) c.nodes v.live live v.born i.live m.0 i.born;
      owner_known = λ q l. (owned q l).0;
      owner_live = λ q l. (owned q l).1;
      since_from = λ q l. (since q l).0;
      since_upto = λ q l. (since q l).1;
      born_from = λ q l. (born q l).0;
      born_upto = λ q l. (born q l).1;
    }

pub whole_stays_law : WholeStays
whole_stays_law c v w i (moves live owners e) =
    let n = next_is c v w live owners e in subst (λ (x : View). IsWhole c x) n.1 (whole_moved c v live owners i n.0)
whole_stays_law c v w i (reopens e) = subst (λ (x : View). IsWhole c x) (reopen_is c v w e) (whole_anew c (v.epoch + 1) (omega arith))

pub next_moves_law : NextMoves
next_moves_law c v w live owners i e =
    let n = next_is c v w live owners e in
    let a = i.since in
    let b = i.born in
    subst (λ (x : View). IsMoved v x) n.1
    (record {
      epoch = refl;
      since = λ q l. moved_since c v live owners i n.0 q (omega arith);
      born = λ m l. moved_born c v live owners i n.0 m (omega arith);
    })

-- past its end a list has nothing
past_end : (xs : List ℕ) (q : ℕ) → length xs ≤ q → slice_index xs q ≡ 0
past_end [] q l = refl
past_end (x ∷ xs) zero l = absurd (omega arith)
past_end (x ∷ xs) (suc q) l = past_end xs q (omega arith)

order : (a b : ℕ) → (a < b) ⊎ (b ≤ a)
order a b = by (nat_lt a b) refl
  where
    by : (t : Bool) → nat_lt a b ≡ t → (a < b) ⊎ (b ≤ a)
    by true e = inl (ltb-true a b e)
    by false e = inr (ltb-false a b e)

not_below_moved : (c : Sizes) (v : View) (live : List Bool) (owners : List ℕ) → IsWhole c v → IsKept c v live owners → IsNotBelow v (moved v live owners)
not_below_moved c v live owners i k =
    record {
      epoch = omega arith;
      since = λ q.
          elim (order q c.nodes) [
            | inl l ↦ let a = i.since_upto q l in
                subst (λ (x : ℕ). since_of v q ≤ x) (sym (moved_since c v live owners i k q l))
                (pick_from (owner_of v q == slice_index owners q) (since_of v q) (v.epoch + 1) (since_of v q) (omega arith) (omega arith))
            | inr l ↦ let a = i.since in let none = past_end v.since q (omega arith) in omega (arith, none)
          ];
      born = λ n.
          elim (order n c.nodes) [
            | inl l ↦ let a = i.born_upto n l in
                subst (λ (x : ℕ). born_of v n ≤ x) (sym (moved_born c v live owners i k n l))
                (pick_from (is_live live n && not (is_live v.live n)) (v.epoch + 1) (born_of v n) (born_of v n) (omega arith) (omega arith))
            | inr l ↦ let a = i.born in let none = past_end v.born n (omega arith) in omega (arith, none)
          ];
    }
  where
    pick_from : (b : Bool) (x y low : ℕ) → low ≤ x → low ≤ y → low ≤ pick b x y
    pick_from true x y low a b = a
    pick_from false x y low a b = b

not_below_anew : (c : Sizes) (v : View) → IsWhole c v → IsNotBelow v (anew c (v.epoch + 1))
not_below_anew c v i =
    record {
      epoch = omega arith;
      since = λ q. at q v.since i.since (i.since_upto q);
      born = λ n. at n v.born i.born (i.born_upto n);
    }
  where
    at : (q : ℕ) (xs : List ℕ) → length xs ≡ c.nodes → (q < c.nodes → slice_index xs q ≤ v.epoch) → slice_index xs q ≤ slice_index (replicate c.nodes (v.epoch + 1)) q
    at q xs n h =
        elim (order q c.nodes) [
          | inl l ↦ let new = get_or-replicate c.nodes q (v.epoch + 1) 0 l in let old = h l in omega (arith, new, old)
          | inr l ↦ let none = past_end xs q (omega arith) in omega (arith, none)
        ]

not_below_next : (c : Sizes) (v w : View) → IsWhole c v → IsNext c v w → IsNotBelow v w
not_below_next c v w i (moves live owners e) =
    let n = next_is c v w live owners e in subst (λ (x : View). IsNotBelow v x) n.1 (not_below_moved c v live owners i n.0)
not_below_next c v w i (reopens e) = subst (λ (x : View). IsNotBelow v x) (reopen_is c v w e) (not_below_anew c v i)

whole_later : (c : Sizes) {v w : View} → IsWhole c v → IsLater c v w → IsWhole c w
whole_later c i same = i
whole_later c i (after {w} {x} l s) = whole_stays_law c w x (whole_later c i l) s

not_below_later : (c : Sizes) {v w : View} → IsWhole c v → IsLater c v w → IsNotBelow v w
not_below_later c {v} i same = record { epoch = omega arith; since = λ q. omega arith; born = λ n. omega arith }
not_below_later c {v} i (after {w} {x} l s) =
    let a = not_below_later c i l in
    let b = not_below_next c w x (whole_later c i l) s in
    let up = a.epoch in
    let on = b.epoch in
    record {
      epoch = omega arith;
      since = λ q. let d = a.since q in let f = b.since q in omega arith;
      born = λ n. let d = a.born n in let f = b.born n in omega arith;
    }

pub never_falls_law : NeverFalls
never_falls_law c v w i l = not_below_later c i l

-- a message that is dropped
record IsDropped (v : View) (me from epoch q : ℕ) : Type 0 where
  reached : epoch ≤ v.epoch
  past : is_past v me from epoch q ≡ true

dropped_by : (a b : Bool) → pick a Held (pick b Dropped Taken) ≡ Dropped → (a ≡ false) × (b ≡ true)
dropped_by true b e = absurd (cc)
dropped_by false true e = (refl, refl)
dropped_by false false e = absurd (cc)

dropped_is : (v : View) (me from epoch q : ℕ) → judge v me from epoch q ≡ Dropped → IsDropped v me from epoch q
unfolding judge
dropped_is v me from epoch q e =
    let d = dropped_by (nat_lt v.epoch epoch) (is_past v me from epoch q) e in
    record { reached = ltb-false v.epoch epoch d.0; past = d.1 }

is_dropped : (v : View) (me from epoch q : ℕ) → IsDropped v me from epoch q → judge v me from epoch q ≡ Dropped
unfolding judge
is_dropped v me from epoch q d =
    ap (λ (b : Bool). pick b Held (pick (is_past v me from epoch q) Dropped Taken)) (le-ltb v.epoch epoch d.reached)
    ∙ ap (λ (b : Bool). pick b Dropped Taken) d.past

-- where one of four tests holds and each makes its own later one hold, one of the later four holds
some_later : (a b d e f g h k : Bool) → (a ≡ true → f || g ≡ true) → (b ≡ true → g ≡ true) → (d ≡ true → h ≡ true) → (e ≡ true → k ≡ true)
    → a || (b || (d || e)) ≡ true → f || (g || (h || k)) ≡ true
some_later true b d e f g h k p q r s x = first_two f g h k (p refl)
  where
    first_two : (f g h k : Bool) → f || g ≡ true → f || (g || (h || k)) ≡ true
    first_two true g h k y = refl
    first_two false true h k y = refl
    first_two false false h k y = absurd (cc)
some_later false true d e f g h k p q r s x = second f g h k (q refl)
  where
    second : (f g h k : Bool) → g ≡ true → f || (g || (h || k)) ≡ true
    second true g h k y = refl
    second false true h k y = refl
    second false false h k y = absurd (cc)
some_later false false true e f g h k p q r s x = third f g h k (r refl)
  where
    third : (f g h k : Bool) → h ≡ true → f || (g || (h || k)) ≡ true
    third true g h k y = refl
    third false true h k y = refl
    third false false true k y = refl
    third false false false k y = absurd (cc)
some_later false false false true f g h k p q r s x = fourth f g h k (s refl)
  where
    fourth : (f g h k : Bool) → k ≡ true → f || (g || (h || k)) ≡ true
    fourth true g h k y = refl
    fourth false true h k y = refl
    fourth false false true k y = refl
    fourth false false false k y = y
some_later false false false false f g h k p q r s x = absurd (cc)

below_later : (m x y : ℕ) → x ≤ y → nat_lt m x ≡ true → nat_lt m y ≡ true
below_later m x y l e = let low = ltb-true m x e in lt-ltb m y (omega arith)

-- a node that is live has a flag
has_flag : (live : List Bool) (n : ℕ) → is_live live n ≡ true → n < length live
has_flag [] n e = absurd (cc)
has_flag (b ∷ live) zero e = omega arith
has_flag (b ∷ live) (suc n) e = let rest = has_flag live n e in omega arith

-- a node that wasn't live is live later only by a new birth
reborn : (c : Sizes) (v w : View) (n : ℕ) → IsWhole c v → IsNext c v w → is_live v.live n ≡ false → is_live w.live n ≡ true → v.epoch < born_of w n
reborn c v w n i (moves live owners e) off on =
    let m = next_is c v w live owners e in
    let long = (kept_lengths c v live owners m.0).0 in
    let lives : is_live live n ≡ true = ap (λ (x : View). is_live x.live n) m.1 ∙ on in
    let flag = has_flag live n lives in
    let again : is_live live n && not (is_live v.live n) ≡ true =
    ap (λ (b : Bool). b && not (is_live v.live n)) lives ∙ ap not off in
    let birth : born_of w n ≡ v.epoch + 1 =
    ap (λ (x : View). born_of x n) (sym m.1)
    ∙ (moved_born c v live owners i m.0 n (omega arith) ∙ ap (λ (b : Bool). pick b (v.epoch + 1) (born_of v n)) again) in
    omega (arith, birth)
reborn c v w n i (reopens e) off on =
    let r = reopen_is c v w e in
    let flag = has_flag w.live n on in
    let long : length w.live ≡ c.nodes = ap (λ (x : View). length x.live) (sym r) ∙ length-replicate c.nodes true in
    let birth : born_of w n ≡ v.epoch + 1 =
    ap (λ (x : View). born_of x n) (sym r) ∙ get_or-replicate c.nodes n (v.epoch + 1) 0 (omega arith) in
    omega (arith, birth)

lost_later : (c : Sizes) (v w : View) (n epoch : ℕ) → IsWhole c v → IsNext c v w → epoch ≤ v.epoch → not (is_live v.live n) ≡ true
    → not (is_live w.live n) || nat_lt epoch (born_of w n) ≡ true
lost_later c v w n epoch i s low off = by (is_live w.live n) refl
  where
    by : (b : Bool) → is_live w.live n ≡ b → not b || nat_lt epoch (born_of w n) ≡ true
    by false e = refl
    by true e = let birth = reborn c v w n i s (not_true (is_live v.live n) off) e in lt-ltb epoch (born_of w n) (omega arith)

dropped_next : (c : Sizes) (v w : View) (me from epoch q : ℕ) → IsWhole c v → IsNext c v w → IsDropped v me from epoch q → IsDropped w me from epoch q
dropped_next c v w me from epoch q i s d =
    let up = not_below_next c v w i s in
    let low = d.reached in
    let on = up.epoch in
    record {
      reached = omega arith;
      past = some_later (not (is_live v.live from)) (nat_lt epoch (born_of v from)) (nat_lt epoch (born_of v me)) (nat_lt epoch (since_of v q))
          (not (is_live w.live from)) (nat_lt epoch (born_of w from)) (nat_lt epoch (born_of w me)) (nat_lt epoch (since_of w q))
          (λ e. lost_later c v w from epoch i s low e)
          (λ e. below_later epoch (born_of v from) (born_of w from) (up.born from) e)
          (λ e. below_later epoch (born_of v me) (born_of w me) (up.born me) e)
          (λ e. below_later epoch (since_of v q) (since_of w q) (up.since q) e)
          d.past;
    }

dropped_later : (c : Sizes) {v w : View} (me from epoch q : ℕ) → IsWhole c v → IsLater c v w → IsDropped v me from epoch q → IsDropped w me from epoch q
dropped_later c me from epoch q i same d = d
dropped_later c me from epoch q i (after {w} {x} l s) d =
    dropped_next c w x me from epoch q (whole_later c i l) s (dropped_later c me from epoch q i l d)

pub dropped_stays_law : DroppedStays
dropped_stays_law c v w me from epoch q i l e = is_dropped w me from epoch q (dropped_later c me from epoch q i l (dropped_is v me from epoch q e))

-- a message that is taken
four_fail : (a b d e : Bool) → a || (b || (d || e)) ≡ false → (a ≡ false) × (b ≡ false) × (d ≡ false) × (e ≡ false)
four_fail false false false e x = (refl, refl, refl, x)
four_fail false false true e x = absurd (cc)
four_fail false true d e x = absurd (cc)
four_fail true b d e x = absurd (cc)

taken_by : (a b : Bool) → pick a Held (pick b Dropped Taken) ≡ Taken → (a ≡ false) × (b ≡ false)
taken_by true b e = absurd (cc)
taken_by false true e = absurd (cc)
taken_by false false e = (refl, refl)

taken_to : (v : View) (me from epoch q : ℕ) → judge v me from epoch q ≡ Taken → IsBetween v me from epoch q
unfolding judge
taken_to v me from epoch q e =
    let t = taken_by (nat_lt v.epoch epoch) (is_past v me from epoch q) e in
    let f = four_fail (not (is_live v.live from)) (nat_lt epoch (born_of v from)) (nat_lt epoch (born_of v me)) (nat_lt epoch (since_of v q)) t.1 in
    record {
      sender = not_false (is_live v.live from) f.0;
      sent = ltb-false epoch (born_of v from) f.1;
      received = ltb-false epoch (born_of v me) f.2;
      owned = ltb-false epoch (since_of v q) f.3;
      reached = ltb-false v.epoch epoch t.0;
    }
  where
    not_false : (b : Bool) → not b ≡ false → b ≡ true
    not_false true x = refl
    not_false false x = absurd (cc)

taken_from : (v : View) (me from epoch q : ℕ) → IsBetween v me from epoch q → judge v me from epoch q ≡ Taken
unfolding judge
taken_from v me from epoch q b =
    let none : is_past v me from epoch q ≡ false =
    fail_all (not (is_live v.live from)) (nat_lt epoch (born_of v from)) (nat_lt epoch (born_of v me)) (nat_lt epoch (since_of v q))
    (ap not b.sender) (le-ltb epoch (born_of v from) b.sent) (le-ltb epoch (born_of v me) b.received) (le-ltb epoch (since_of v q) b.owned) in
    ap (λ (x : Bool). pick x Held (pick (is_past v me from epoch q) Dropped Taken)) (le-ltb v.epoch epoch b.reached)
    ∙ ap (λ (x : Bool). pick x Dropped Taken) none
  where
    fail_all : (a b d e : Bool) → a ≡ false → b ≡ false → d ≡ false → e ≡ false → a || (b || (d || e)) ≡ false
    fail_all a b d e p q r s = ap (λ (x : Bool). x || (b || (d || e))) p ∙ (ap (λ (x : Bool). x || (d || e)) q ∙ (ap (λ (x : Bool). x || e) r ∙ s))

pub taken_is_between_law : TakenIsBetween
taken_is_between_law v me from epoch q = (taken_to v me from epoch q, taken_from v me from epoch q)

held_by : (a b : Bool) → pick a Held (pick b Dropped Taken) ≡ Held → a ≡ true
held_by true b e = refl
held_by false true e = absurd (cc)
held_by false false e = absurd (cc)

pub held_is_ahead_law : HeldIsAhead
unfolding judge
held_is_ahead_law v me from epoch q = (
  λ e. ltb-true v.epoch epoch (held_by (nat_lt v.epoch epoch) (is_past v me from epoch q) e),
  λ l. ap (λ (x : Bool). pick x Held (pick (is_past v me from epoch q) Dropped Taken)) (lt-ltb v.epoch epoch l),
)
