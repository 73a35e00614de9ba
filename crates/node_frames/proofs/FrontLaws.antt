-- The front of bytes of which a length and a body were read.
use Rattle.std.proofs.Common.{◌≡◌, ◌∙◌, ℕ, ◌+◌, ◌<◌, ◌≤◌, inl, inr, true, false, nat_le, List, [], ◌∷◌, ◌++◌, length, take, drop, Option, Some, Ok, Err, refl, sym, ap, subst, arith, append_assoc, length-append}
use Rattle.std.proofs.KnownBytes.{Consumes-trans}
use Rattle.std.proofs.lemmas.Bool.{le-leb, lt-leb}
use Rattle.std.proofs.Math.Seq.{take-append_seam, drop-append_seam}
use Rattle.std.specs.Int.{w32, from_be_bytes}
use Rattle.pcl_base.specs.Faults.{Rose}
use Rattle.frame_rules.specs.ReadFrame.{CutOff, bad_frame, Bad as bad_front, Whole, front_of, length_front, body_front}
use Rattle.node_frames.specs.declared.fault.InputFault.{InputFault}
use Rattle.node_frames.specs.declared.fault.InputFault.TheVariants.{Bad, Source, NoMemory}
use Rattle.node_frames.specs.Front.{IsHead, DecidesNothing, IsBadFront, LengthRead, BodyRead, FrontRead}

-- four bytes and what follows them
pub front_of_four : (head rest : List ℕ) → length head ≡ 4 → front_of (head ++ rest) ≡ length_front (from_be_bytes w32 head) rest
front_of_four [] rest four = absurd (omega (arith, four))
front_of_four (a ∷ []) rest four = absurd (omega (arith, four))
front_of_four (a ∷ b ∷ []) rest four = absurd (omega (arith, four))
front_of_four (a ∷ b ∷ c ∷ []) rest four = absurd (omega (arith, four))
front_of_four (a ∷ b ∷ c ∷ d ∷ []) rest four =
    let more : nat_le 4 (length (a ∷ b ∷ c ∷ d ∷ rest)) ≡ true = le-leb 4 (length (a ∷ b ∷ c ∷ d ∷ rest)) (omega arith) in rw more refl
front_of_four (a ∷ b ∷ c ∷ d ∷ e ∷ head) rest four = absurd (omega (arith, four))

-- a length that is allowed, and what follows it
pub front_of_head : (head rest : List ℕ) (n : ℕ) → IsHead head n → front_of (head ++ rest) ≡ body_front n rest
front_of_head head rest n h =
    let least : nat_le 1 n ≡ true = le-leb 1 n h.least in
    let most : nat_le n 134217728 ≡ true = le-leb n 134217728 h.most in
    front_of_four head rest h.four ∙ rw h.number (rw least (rw most refl))

-- a whole body, and what follows it
pub front_of_whole : (head body rest : List ℕ) (n : ℕ) → IsHead head n → length body ≡ n → front_of ((head ++ body) ++ rest) ≡ Whole body rest
front_of_whole head body rest n h same =
    let all : nat_le n (length (body ++ rest)) ≡ true = le-leb n (length (body ++ rest)) (omega (arith, same, length-append body rest)) in
    let body_is : take n (body ++ rest) ≡ body = subst (λ k. take k (body ++ rest) ≡ body) same (take-append_seam body rest) in
    let rest_is : drop n (body ++ rest) ≡ rest = subst (λ k. drop k (body ++ rest) ≡ rest) same (drop-append_seam body rest) in
    ap front_of (append_assoc head body rest) ∙ front_of_head head (body ++ rest) n h ∙ rw all (rw body_is (rw rest_is refl))

-- a body that is cut off
pub front_of_cut : (head body : List ℕ) (n : ℕ) → IsHead head n → length body < n → front_of (head ++ body) ≡ bad_front (bad_frame (5 + length body) CutOff)
front_of_cut head body n h short =
    let less : nat_le n (length body) ≡ false = lt-leb n (length body) short in front_of_head head body n h ∙ rw less refl

-- a beginning of a body decides nothing yet
pub part_decides_nothing : (head body : List ℕ) (n : ℕ) → IsHead head n → length body < n → DecidesNothing (head ++ body)
part_decides_nothing head body n h short =
    let place : 5 + length body ≡ 1 + length (head ++ body) = omega (arith, h.four, length-append head body) in
    inr (front_of_cut head body n h short ∙ ap (λ k. bad_front (bad_frame k CutOff)) place)

-- a count that has risen behind another one
pub risen_on : (a b c : ℕ) → a ≤ b → Rose b c → Rose a c
risen_on a b c later (inl less) = inl (omega (arith, later, less))
risen_on a b c later (inr last) = inr last

-- a length and then its body
pub read_whole : {X : Type 0} (x : X) {left left' left'' : Option (List ℕ)} {f f' f'' : ℕ} {body : List ℕ} (o : Option ℕ) (n : ℕ) → LengthRead left left' f f' (Ok o) → o ≡ Some n → BodyRead {X = X} left' left'' f' f'' body n (Ok x) → FrontRead left left'' f f'' body (Ok true)
read_whole x {left = left} {left' = left'} {f = f} {f' = f'} {body = body} o n l is b =
    let head : LengthRead left left' f f' (Ok (Some n)) = subst (λ r. LengthRead left left' f f' (Ok r)) is l in
    record {
      taken = head.taken ++ b.taken;
      consumed = Consumes-trans _ _ _ _ _ head.consumed b.consumed;
      later = omega (arith, head.later, b.later);
      front = λ rest. front_of_whole head.taken b.taken rest n head.told b.told.1 ∙ ap (λ v. Whole v rest) (sym b.told.0);
    }

-- a length and then no body
pub read_failed : {X : Type 0} {left left' left'' : Option (List ℕ)} {f f' f'' : ℕ} {body : List ℕ} (o : Option ℕ) (n : ℕ) (fault : InputFault) → LengthRead left left' f f' (Ok o) → o ≡ Some n → BodyRead {X = X} left' left'' f' f'' body n (Err fault) → FrontRead left left'' f f'' body (Err fault)
read_failed {left = left} {left' = left'} {left'' = left''} {f = f} {f' = f'} o n (Bad place reason) l is b =
    let head : LengthRead left left' f f' (Ok (Some n)) = subst (λ r. LengthRead left left' f f' (Ok r)) is l in
    record {
      taken = head.taken ++ b.taken;
      consumed = Consumes-trans _ _ _ _ _ head.consumed b.consumed;
      later = omega (arith, head.later, b.later);
      front =
          subst (λ bad. IsBadFront left'' (head.taken ++ b.taken) bad.place bad.reason) (sym b.told.place)
          (b.told.end, front_of_cut head.taken b.taken n head.told b.told.short);
    }
read_failed {left = left} {left' = left'} {f = f} {f' = f'} o n Source l is b =
    let head : LengthRead left left' f f' (Ok (Some n)) = subst (λ r. LengthRead left left' f f' (Ok r)) is l in
    record {
      taken = head.taken ++ b.taken;
      consumed = Consumes-trans _ _ _ _ _ head.consumed b.consumed;
      later = omega (arith, head.later, b.later);
      front = (risen_on _ _ _ head.later b.told.0, part_decides_nothing head.taken b.taken n head.told b.told.1);
    }
read_failed {left = left} {left' = left'} {f = f} {f' = f'} o n NoMemory l is b =
    let head : LengthRead left left' f f' (Ok (Some n)) = subst (λ r. LengthRead left left' f f' (Ok r)) is l in
    record {
      taken = head.taken ++ b.taken;
      consumed = Consumes-trans _ _ _ _ _ head.consumed b.consumed;
      later = omega (arith, head.later, b.later);
      front = part_decides_nothing head.taken b.taken n head.told b.told;
    }
