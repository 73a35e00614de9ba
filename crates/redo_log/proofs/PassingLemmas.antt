-- Passing over fields whose bytes aren't kept.
use Rattle.std.proofs.Common.{◌≡◌, refl, ap, ◌∙◌, ℕ, suc, ◌+◌, ◌-◌, ◌<◌, Bool, List, ◌∷◌, Option, Some, None, IfSome, Result, Ok, Err, arith}
use Rattle.std.specs.Int.{w16, w32, w64}
use Rattle.pcl_base.specs.Limits.{Sizes}
use Rattle.pcl_base.specs.declared.log.Part.{Part}
use Rattle.pcl_base.specs.declared.log.ChangedRange.{ChangedRange}
use Rattle.text_rules.specs.FieldBytes.{Stop, after, give, number_from, at_least, piece, whole}
use Rattle.text_rules.specs.LogRecord.{ranges_field, part_field, changes_field}
use Rattle.redo_log.specs.Walks.{rest_of}
use Rattle.redo_log.specs.Heads.{head_field, IsEntry}
use Rattle.redo_log.specs.declared.entries.Head.{Head}

-- what a value is made into changes nothing of what is left
pub rest_given : {X Y : Type 0} (f : X → Y) (r : Result (X × List ℕ) Stop) → rest_of (after r (λ x. give (f x))) ≡ rest_of r
rest_given f (Ok p) = refl
rest_given f (Err s) = refl

-- a range
pub range_passed : (size low n place count : ℕ) (a b d e : List ℕ) (bytes : List ℕ) → number_from low size w16 a ≡ Ok (place, b) → number_from 1 (size - place) w16 b ≡ Ok (count, d) → piece count d ≡ Ok (bytes, e) → rest_of (ranges_field size low (suc n) a) ≡ rest_of (ranges_field size (place + count + 1) n e)
range_passed size low n place count a b d e bytes p q r =
    rw (p, q, r) (rest_given (λ (rs : List ChangedRange). record { place = place; bytes = bytes } ∷ rs) (ranges_field size (place + count + 1) n e))

-- a step that passes one of n items, and then the others
pub step_passed : (F G : ℕ → Option (List ℕ)) (n i : ℕ) (all : Option (List ℕ)) → i < n → all ≡ F (n - i) → ((m : ℕ) → F (suc m) ≡ G m) → all ≡ G (n - (i + 1))
step_passed F G n i all less whole is =
    let more : n - i ≡ suc (n - (i + 1)) = omega arith in
    whole ∙ ap F more ∙ is (n - (i + 1))

-- a step that doesn't pass one of n items
pub step_broken : (o : Option Stop) (Told Now : List ℕ → Type 0) (F : List ℕ → ℕ → Option (List ℕ)) (all : List ℕ → Option (List ℕ)) (n i : ℕ) → i < n → ((log : List ℕ) → Told log → Now log) → ((log : List ℕ) → Told log → all log ≡ F log (n - i)) → IfSome o (λ t. (log : List ℕ) → Now log → (m : ℕ) → F log (suc m) ≡ None) → IfSome o (λ t. (log : List ℕ) → Told log → all log ≡ None)
step_broken None Told Now F all n i less now whole is = is
step_broken (Some t) Told Now F all n i less now whole is = λ log told.
    let more : n - i ≡ suc (n - (i + 1)) = omega arith in
    whole log told ∙ ap (F log) more ∙ is log (now log told) (n - (i + 1))

-- what a head says, where it was read
abbrev head_or : Head → Result (Head × List ℕ) Stop → Head
head_or h (Ok p) = p.0
head_or h (Err s) = h

abbrev rest_or : List ℕ → Result (Head × List ℕ) Stop → List ℕ
rest_or a (Ok p) = p.1
rest_or a (Err s) = a

-- the fields of a head
pub record IsHead (c : Sizes) (low : ℕ) (a : List ℕ) (h : Head) (b : List ℕ) : Type 0 where
  pub behind : List ℕ
  pub page : number_from low (c.pages - 1) w32 a ≡ Ok (h.page, behind)
  pub version : at_least 1 w64 behind ≡ Ok (h.version, b)

pub head_split : (c : Sizes) (low : ℕ) (a : List ℕ) (h : Head) (b : List ℕ) → head_field c low a ≡ Ok (h, b) → IsHead c low a h b
head_split c low a h b is = by_page (number_from low (c.pages - 1) w32 a) refl is
  where
    further : ℕ → List ℕ → Result (Head × List ℕ) Stop
    further page d = after (at_least 1 w64 d) (λ version. give (record { page = page; version = version }))

    by_version : (page : ℕ) (d : List ℕ) (r : Result (ℕ × List ℕ) Stop) → number_from low (c.pages - 1) w32 a ≡ Ok (page, d) → at_least 1 w64 d ≡ r → after r (λ version. give (record { page = page; version = version })) ≡ Ok (h, b) → IsHead c low a h b
    by_version page d (Err s) e f g = absurd (cc)
    by_version page d (Ok x) e f g =
        let p : page ≡ h.page = ap (λ (r : Result (Head × List ℕ) Stop). (head_or h r).page) g in
        let v : x.0 ≡ h.version = ap (λ (r : Result (Head × List ℕ) Stop). (head_or h r).version) g in
        let t : x.1 ≡ b = ap (λ (r : Result (Head × List ℕ) Stop). rest_or b r) g in
        record {
          behind = d;
          page = e ∙ ap (λ (n : ℕ). Ok (n, d)) p;
          version = f ∙ (λ i. Ok (v i, t i));
        }

    by_page : (r : Result (ℕ × List ℕ) Stop) → number_from low (c.pages - 1) w32 a ≡ r → after r (λ page d. after (at_least 1 w64 d) (λ version. give (record { page = page; version = version }))) ≡ Ok (h, b) → IsHead c low a h b
    by_page (Err s) e g = absurd (cc)
    by_page (Ok x) e g = by_version x.0 x.1 (at_least 1 w64 x.1) e refl g

-- a part, where one was read
pub record IsPartAt (size : ℕ) (w : Bool) (a : List ℕ) (b : List ℕ) : Type 0 where
  pub part : Part
  pub is : part_field size w a ≡ Ok (part, b)

pub part_read : (size : ℕ) (w : Bool) (a b : List ℕ) → rest_of (part_field size w a) ≡ Some b → IsPartAt size w a b
part_read size w a b is = by (part_field size w a) refl is
  where
    by : (r : Result (Part × List ℕ) Stop) → part_field size w a ≡ r → rest_of r ≡ Some b → IsPartAt size w a b
    by (Err s) e f = absurd (cc)
    by (Ok x) e f = let t : x.1 ≡ b = cc in record { part = x.0; is = e ∙ ap (λ (d : List ℕ). let r : Result (Part × List ℕ) Stop = Ok (x.0, d) in r) t }

-- an entry, where one was read
pub entry_read : (c : Sizes) (w : Bool) (low n : ℕ) (h : Head) (part : Part) (a b d : List ℕ) → IsHead c low a h b → part_field c.size w b ≡ Ok (part, d) → changes_field c w low (suc n) a ≡ after (changes_field c w (h.page + 1) n d) (λ xs. give (record { page = h.page; version = h.version; part = part } ∷ xs))
entry_read c w low n h part a b d is p = rw (is.page, is.version, p) refl

-- an entry, whose part isn't kept
pub entry_is : (c : Sizes) (w : Bool) (low : ℕ) (h : Head) (a b d : List ℕ) → head_field c low a ≡ Ok (h, b) → rest_of (part_field c.size w b) ≡ Some d → IsEntry c w low a h d
entry_is c w low h a b d p q =
    let part = part_read c.size w b d q in
    let head = head_split c low a h b p in
    record {
      behind = b;
      part = part.part;
      is = part.is;
      head = p;
      changes = λ n. entry_read c w low n h part.part a b d head part.is;
    }
