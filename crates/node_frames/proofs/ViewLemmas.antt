-- Reading the flags, owners and epochs of a view one by one.
use Rattle.std.proofs.Common.{◌≡◌, ◌∙◌, ℕ, suc, ◌+◌, ◌-◌, ◌<◌, ◌&&◌, Bool, true, false, nat_lt, zero, List, map, [], ◌∷◌, ◌++◌, length, Ok, Err, refl, ap, sym, arith, append_assoc, append-nil, length-append}
use Rattle.std.specs.List.{list_all}
use Rattle.std.proofs.lemmas.List.Folds.{list_all-append}
use Rattle.std.proofs.lemmas.Bool.{lt-ltb}
use Rattle.run_rules.specs.Views.{is_live}
use Rattle.text_rules.specs.FieldBytes.{Stop}
use Rattle.messages.specs.Reading.{prefixed}
use Rattle.messages.proofs.ListLemmas.{prefixed_one}
use Rattle.text_rules.specs.MessageBytes.{flag_byte}
use Rattle.frame_rules.specs.Frames.{is_live_node, epochs_bytes}
use Rattle.frame_rules.specs.ReadFrame.{live_field, live_fields}
use Rattle.std.specs.Int.{w32, to_be_bytes}

-- a flag that was read
pub flag_read : (me n i : ℕ) (made : List Bool) (s t : List ℕ) (x : Bool) → i < n → live_field me i s ≡ Ok (x, t) → prefixed made (live_fields me i (n - i) s) ≡ prefixed (made ++ x ∷ []) (live_fields me (i + 1) (n - (i + 1)) t)
flag_read me n i made s t x less is =
    let e : n - i ≡ suc (n - (i + 1)) = omega arith in
    rw e (rw is (prefixed_one made x (live_fields me (i + 1) (n - (i + 1)) t)))

-- a flag that stopped the reading
pub flag_stopped : (me n i : ℕ) (made : List Bool) (s : List ℕ) (e : Stop) → i < n → live_field me i s ≡ Err e → prefixed made (live_fields me i (n - i) s) ≡ Err e
flag_stopped me n i made s e less is =
    let more : n - i ≡ suc (n - (i + 1)) = omega arith in
    rw more (rw is refl)

-- all flags that there are
pub flags_read : (me n i : ℕ) (made : List Bool) (s : List ℕ) → i ≡ n → prefixed made (live_fields me i (n - i) s) ≡ Ok (made, s)
flags_read me n i made s same =
    let none : n - i ≡ 0 = omega arith in
    rw none (ap (λ xs. Ok (xs, s)) (append-nil made))

-- one more item for which a test holds
pub all_one_more : {X : Type 0} (p : X → Bool) (made : List X) (x : X) → list_all p made ≡ true → p x ≡ true → list_all p (made ++ x ∷ []) ≡ true
all_one_more p made x all one = list_all-append p made (x ∷ []) ∙ rw all (rw one refl)

-- one more byte
pub byte_one_more : (made : List ℕ) (x : ℕ) (all s t : List ℕ) → all ≡ made ++ s → s ≡ x ∷ t → all ≡ (made ++ x ∷ []) ++ t
byte_one_more made x all s t is next = is ∙ ap (λ v. made ++ v) next ∙ sym (append_assoc made (x ∷ []) t)

-- one more flag
pub flag_one_more : (made : List Bool) (x : Bool) (all s t : List ℕ) → all ≡ map flag_byte made ++ s → s ≡ flag_byte x ∷ t → all ≡ map flag_byte (made ++ x ∷ []) ++ t
flag_one_more [] x all s t is next = is ∙ next
flag_one_more (y ∷ made) x all s t is next =
    is ∙ ap (λ v. flag_byte y ∷ v) (flag_one_more made x (map flag_byte made ++ s) s t refl next)

-- one more epoch
pub epoch_one_more : (made : List ℕ) (x : ℕ) (all s t : List ℕ) → all ≡ epochs_bytes made ++ s → s ≡ to_be_bytes w32 x ++ t → all ≡ epochs_bytes (made ++ x ∷ []) ++ t
epoch_one_more [] x all s t is next = is ∙ next ∙ ap (λ v. v ++ t) (sym (append-nil (to_be_bytes w32 x)))
epoch_one_more (y ∷ made) x all s t is next =
    is ∙ append_assoc (to_be_bytes w32 y) (epochs_bytes made) s
    ∙ ap (λ v. to_be_bytes w32 y ++ v) (epoch_one_more made x (epochs_bytes made ++ s) s t refl next)
    ∙ sym (append_assoc (to_be_bytes w32 y) (epochs_bytes (made ++ x ∷ [])) t)

-- the second of two that hold
pub and_second : (a b : Bool) → (a && b) ≡ true → b ≡ true
and_second true b both = both
and_second false b both = absurd (cc)

-- one more flag: those that were set are, and the last one where it is set
pub set_one_more : (live : List Bool) (x : Bool) (me n : ℕ) → length live ≡ n → (me < n → is_live live me ≡ true) → (n ≡ me → x ≡ true) → me < n + 1 → is_live (live ++ x ∷ []) me ≡ true
set_one_more [] x me n same kept set less =
    let first : me ≡ 0 = omega (arith, less, same) in
    rw first (set (omega (arith, less, same)))
set_one_more (y ∷ live) x zero n same kept set less = kept (omega (arith, same))
set_one_more (y ∷ live) x (suc me) zero same kept set less = absurd (omega (arith, same))
set_one_more (y ∷ live) x (suc me) (suc n) same kept set less =
    set_one_more live x me n (omega (arith, same)) (λ l. kept (omega (arith, l))) (λ e. set (ap suc e)) (omega (arith, less))

-- the nodes that were live are live behind one more flag, and so is its node where it is set
pub live_one_more : (live : List Bool) (x : Bool) (me n : ℕ) → length live ≡ n → (me < n → is_live_node live me ≡ true) → (n ≡ me → x ≡ true) → me < n + 1 → is_live_node (live ++ x ∷ []) me ≡ true
live_one_more live x me n same kept set less =
    let within : nat_lt me (length (live ++ x ∷ [])) ≡ true = lt-ltb me (length (live ++ x ∷ [])) (omega (arith, less, same, length-append live (x ∷ []))) in
    rw within (set_one_more live x me n same (λ l. and_second (nat_lt me (length live)) (is_live live me) (kept l)) set less)
