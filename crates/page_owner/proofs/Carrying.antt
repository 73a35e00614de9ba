-- A rule that goes on with each item of a list, done item by item.
use Rattle.std.proofs.Common.{◌≡◌, ℕ, suc, ◌+◌, ◌<◌, ◌≤◌, List, length, get_or, drop, drop-cons, Ok, Err, refl, ap, sym, subst, ◌∙◌, arith}
use Rattle.std.proofs.Math.ListN.{drop_of_length-le}
use Rattle.node_rules.specs.Work.{Work, Outcome, Goes, Differs, and_then, for_each}
use Rattle.node_parts.specs.declared.fault.StepFault.{StepFault}
use Rattle.node_parts.specs.declared.fault.StepFault.TheVariants as fault
use Rattle.node_parts.specs.Comes.{Comes}

-- the rule goes on with the work that was made of the first part
pub and_done : {X : Type 0} (o : Outcome Work) (f : Work → Outcome Work) (x : X) (w : Work) → Comes o (Ok x) w → and_then o f ≡ f w
and_done (Goes k) f x w done = ap f done
and_done (Differs p m n) f x w done = absurd done

-- the first part failed, and with it the rule
pub and_failed : (X Y : Type 0) (o : Outcome Work) (f : Work → Outcome Work) (e : StepFault) (w : Work) → Comes {T = X} o (Err e) w → Comes {T = Y} (and_then o f) (Err e) w
and_failed X Y (Differs p m n) f (fault.Differs q a b) w failed = failed
and_failed X Y (Differs p m n) f (fault.Halted call kept) w failed = tt
and_failed X Y (Differs p m n) f fault.NoMemory w failed = tt
and_failed X Y (Goes k) f (fault.Differs q a b) w failed = absurd failed
and_failed X Y (Goes k) f (fault.Halted call kept) w failed = any (f k)
  where
    any : (o : Outcome Work) → Comes {T = Y} o (Err (fault.Halted call kept)) w
    any (Goes k) = tt
    any (Differs p m n) = tt
and_failed X Y (Goes k) f fault.NoMemory w failed = any (f k)
  where
    any : (o : Outcome Work) → Comes {T = Y} o (Err fault.NoMemory) w
    any (Goes k) = tt
    any (Differs p m n) = tt

module _ {X : Type 0} (f : X → Work → Outcome Work) (xs : List X) (i : ℕ) (start now later : Work) (rest : for_each f (drop i xs) now ≡ for_each f xs start) where
  front : (d : X) → i < length xs → for_each f (drop i xs) now ≡ and_then (f (get_or xs i d) now) (for_each f (drop (suc i) xs))
  unfolding for_each
  front d within = ap (λ l. for_each f l now) (drop-cons xs i d within)

  -- one more item is done
  pub each_step : {Y : Type 0} (d : X) (y : Y) → i < length xs → Comes (f (get_or xs i d) now) (Ok y) later → for_each f (drop (i + 1) xs) later ≡ for_each f xs start
  each_step d y within done =
      let next : i + 1 ≡ suc i = omega arith in
      ap (λ k. for_each f (drop k xs) later) next
      ∙ sym (and_done (f (get_or xs i d) now) (for_each f (drop (suc i) xs)) y later done)
      ∙ sym (front d within) ∙ rest

  -- an item failed
  pub each_failed : (Y Z : Type 0) (d : X) (e : StepFault) → i < length xs → Comes {T = Y} (f (get_or xs i d) now) (Err e) later → Comes {T = Z} (for_each f xs start) (Err e) later
  each_failed Y Z d e within failed =
      subst (λ o. Comes {T = Z} o (Err e) later) (sym (front d within) ∙ rest)
      (and_failed Y Z (f (get_or xs i d) now) (for_each f (drop (suc i) xs)) e later failed)

  -- all are done
  pub each_done : {Y : Type 0} (y : Y) → length xs ≤ i → Comes (for_each f xs start) (Ok y) now
  unfolding for_each
  each_done {Y = Y} y past =
      subst (λ o. Comes {T = Y} o (Ok y) now) (sym (ap (λ l. for_each f l now) (drop_of_length-le xs past)) ∙ rest) refl
