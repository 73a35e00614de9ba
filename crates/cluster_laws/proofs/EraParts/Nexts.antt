-- Two views in a row: partitions and nodes go on, or are of the new epoch.
use Rattle.std.proofs.Common.{◌≡◌, ◌⊎◌, inl, inr, refl, sym, subst, ◌∙◌, ℕ, zero, suc, ◌+◌, ◌<◌, ◌≤◌, ◌==◌, ◌&&◌, not, nat_lt, Bool, true, false, List, [], ◌∷◌, slice_index, Result, Ok, Err, eqb-true, ltb-true, ltb-false}
use Rattle.std.proofs.lemmas.List.{get_or-replicate}
use Rattle.pcl_base.specs.Limits.{Sizes}
use Rattle.run_rules.specs.Views.{View, is_live, owner_of, since_of, born_of, next, anew, same_numbers, same_flags, same_view, is_that, follows}
use Rattle.node_rules.specs.Words.{pick}
use Rattle.rule_laws.specs.LaterViews.{IsWhole, moves, reopens, IsMoved}
use Rattle.rule_laws.proofs.Successors.{next_moves_law, whole_stays_law}
use Rattle.rule_laws.proofs.Turns.{and_left, and_right}
use Rattle.cluster_laws.proofs.Views.{reopen_is, next_epoch}
use Rattle.cluster_laws.specs.Era.EraLaws.{IsOwnedOn, IsLivedOn, IsBorn, GoesOn, NextGoesOn}

-- which of two numbers is less
pub order : (a b : ℕ) → (a < b) ⊎ (b ≤ a)
order a b = by (nat_lt a b) refl
  where
    by : (t : Bool) → nat_lt a b ≡ t → (a < b) ⊎ (b ≤ a)
    by true e = inl (ltb-true a b e)
    by false e = inr (ltb-false a b e)

-- where a node was born, in a moved view
born_on : (v w : View) (n : ℕ) → born_of w n ≡ pick (is_live w.live n && not (is_live v.live n)) w.epoch (born_of v n) → is_live v.live n ≡ true → born_of w n ≡ born_of v n
born_on v w n is was = by (is_live w.live n) (is_live v.live n) was is
  where
    by : (a b : Bool) → b ≡ true → born_of w n ≡ pick (a && not b) w.epoch (born_of v n) → born_of w n ≡ born_of v n
    by true true t e = e
    by false true t e = e
    by a false t e = absurd (cc)

moved_on : (c : Sizes) (v w : View) → IsWhole c v → IsWhole c w → IsMoved v w → GoesOn c v w
moved_on c v w i j m =
    record {
      epoch = m.epoch;
      owned = λ q low. owned q low (owner_of v q == owner_of w q) refl (m.since q (subst (λ (k : ℕ). q < k) (sym i.since) low));
      lived = λ n low. lived n (is_live w.live n) (is_live v.live n) refl refl (m.born n (subst (λ (k : ℕ). n < k) (sym i.born) low));
    }
  where
    lives : (q : ℕ) → q < c.nodes → owner_of v q ≡ owner_of w q → born_of w (owner_of w q) ≡ born_of v (owner_of w q)
    lives q low same =
        born_on v w (owner_of w q) (m.born (owner_of w q) (subst (λ (k : ℕ). owner_of w q < k) (sym i.born) (j.owner_known q low)))
        (subst (λ (k : ℕ). is_live v.live k ≡ true) same (i.owner_live q low))

    owned : (q : ℕ) → q < c.nodes → (b : Bool) → (owner_of v q == owner_of w q) ≡ b → since_of w q ≡ pick b (since_of v q) w.epoch → IsOwnedOn v w q ⊎ (since_of w q ≡ w.epoch)
    owned q low true t e =
        let same = eqb-true (owner_of v q) (owner_of w q) t in
        inl (record { owner = sym same; era = e; lives = lives q low same })
    owned q low false t e = inr e

    lived : (n : ℕ) (a b : Bool) → is_live w.live n ≡ a → is_live v.live n ≡ b → born_of w n ≡ pick (a && not b) w.epoch (born_of v n) → IsLivedOn v w n ⊎ IsBorn w n
    lived n true true l k e = inl (record { born = e; live = λ on. k })
    lived n true false l k e = inr (record { born = e; live = l })
    lived n false b l k e = inl (record { born = e; live = λ on. (let bad : false ≡ true = sym l ∙ on in absurd (cc)) })

reopened_on : (c : Sizes) (v : View) → GoesOn c v (anew c (v.epoch + 1))
reopened_on c v =
    record {
      epoch = refl;
      owned = λ q low. inr (get_or-replicate c.nodes q (v.epoch + 1) 0 low);
      lived = λ n low. inr (record { born = get_or-replicate c.nodes n (v.epoch + 1) 0 low; live = get_or-replicate c.nodes n true false low });
    }

pub next_goes_on_law : NextGoesOn
next_goes_on_law c v w i (moves live owners e) =
    moved_on c v w i (whole_stays_law c v w i (moves live owners e)) (next_moves_law c v w live owners i e)
next_goes_on_law c v w i (reopens e) = subst (GoesOn c v) (reopen_is c v w e).0 (reopened_on c v)

-- a view that moves the one before keeps the births of those that were live
numbers_same : (xs ys : List ℕ) (i : ℕ) → same_numbers xs ys ≡ true → slice_index xs i ≡ slice_index ys i
unfolding same_numbers
numbers_same [] [] i e = refl
numbers_same [] (y ∷ ys) i e = absurd (cc)
numbers_same (x ∷ xs) [] i e = absurd (cc)
numbers_same (x ∷ xs) (y ∷ ys) zero e = eqb-true x y (and_left (x == y) (same_numbers xs ys) e)
numbers_same (x ∷ xs) (y ∷ ys) (suc i) e = numbers_same xs ys i (and_right (x == y) (same_numbers xs ys) e)

-- what two equal views have in common
pub record IsAlike (v w : View) : Type 0 where
  pub epoch : v.epoch ≡ w.epoch
  pub born : same_numbers v.born w.born ≡ true

alike : (v w : View) → same_view v w ≡ true → IsAlike v w
alike v w e =
    of (v.epoch == w.epoch) (same_flags v.live w.live) (same_numbers v.owners w.owners) (same_numbers v.since w.since) (same_numbers v.born w.born) refl refl e
  where
    of : (a b d f g : Bool) → (v.epoch == w.epoch) ≡ a → same_numbers v.born w.born ≡ g → a && b && d && f && g ≡ true → IsAlike v w
    of true true true true true at born t = record { epoch = eqb-true v.epoch w.epoch at; born = born }
    of true true true true false at born t = absurd (cc)
    of true true true false g at born t = absurd (cc)
    of true true false f g at born t = absurd (cc)
    of true false d f g at born t = absurd (cc)
    of false b d f g at born t = absurd (cc)

-- what follows was moved
pub record IsMovedTo (c : Sizes) (v w : View) : Type 0 where
  pub to : View
  pub made : next c v w.live w.owners ≡ Ok to
  pub alike : IsAlike to w

pub follows_is : (c : Sizes) (v w : View) → follows c v w ≡ true → IsMovedTo c v w
unfolding follows
follows_is c v w e = by (next c v w.live w.owners) refl e
  where
    by : (r : Result View ℕ) → next c v w.live w.owners ≡ r → is_that r w ≡ true → IsMovedTo c v w
    by (Ok x) made t = record { to = x; made = made; alike = alike x w t }
    by (Err rule) made t = absurd (cc)

pub follows_epoch : (c : Sizes) (v w : View) → follows c v w ≡ true → w.epoch ≡ v.epoch + 1
follows_epoch c v w e =
    let m = follows_is c v w e in
    sym m.alike.epoch ∙ (next_epoch c v m.to (moves w.live w.owners m.made)).0

pub follows_born : (c : Sizes) (v w : View) (n : ℕ) → IsWhole c v → follows c v w ≡ true → n < c.nodes → is_live v.live n ≡ true → born_of w n ≡ born_of v n
follows_born c v w n i e low was =
    let m = follows_is c v w e in
    let moved : IsMoved v m.to = next_moves_law c v m.to w.live w.owners i m.made in
    sym (numbers_same m.to.born w.born n m.alike.born)
    ∙ born_on v m.to n (moved.born n (subst (λ (k : ℕ). n < k) (sym i.born) low)) was
