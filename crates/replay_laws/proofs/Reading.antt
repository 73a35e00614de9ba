-- Reading byte by byte, and one part after the other.
use Rattle.std.proofs.Common.{◌≡◌, refl, sym, ap, ◌∙◌, ℕ, Bool, List, [], ◌∷◌, ◌++◌, append_assoc}
use Rattle.pcl_base.specs.declared.event.Event.{Event}
use Rattle.pcl_base.specs.declared.trace.Entry.{Entry}
use Rattle.replay_rules.specs.Due.{Place, Told, silent, joined, and_then, fed_at, read_from, at_end, due, first_place}
use Rattle.replay_rules.specs.Due.Place.{Stopped}

-- a told by its parts
abbrev pub told_by : List Event → List Entry → List ℕ → Place → Told
told_by events entries text place = record { events = events; entries = entries; text = text; place = place }

pub told_same : (es es' : List Event) (ns ns' : List Entry) (t t' : List ℕ) (p : Place) → es ≡ es' → ns ≡ ns' → t ≡ t'
    → told_by es ns t p ≡ told_by es' ns' t' p
told_same es es' ns ns' t t' p e f g =
    ap (λ x. told_by x ns t p) e ∙ (ap (λ x. told_by es' x t p) f ∙ ap (λ x. told_by es' ns' x p) g)

pub joined_assoc : (a b d : Told) → joined (joined a b) d ≡ joined a (joined b d)
joined_assoc a b d =
    told_same ((a.events ++ b.events) ++ d.events) (a.events ++ (b.events ++ d.events))
    ((a.entries ++ b.entries) ++ d.entries) (a.entries ++ (b.entries ++ d.entries))
    ((a.text ++ b.text) ++ d.text) (a.text ++ (b.text ++ d.text)) d.place
    (append_assoc a.events b.events d.events) (append_assoc a.entries b.entries d.entries) (append_assoc a.text b.text d.text)

-- what is due to the rest of an input
abbrev pub rest_of : Bool → Place → List ℕ → Told
rest_of totals p bs = and_then (read_from totals p bs) (at_end totals)

-- one byte and what is due to the bytes behind it
pub rest-cons : (t : Bool) (p : Place) (b : ℕ) (bs : List ℕ) → rest_of t p (b ∷ bs) ≡ joined (fed_at t p b) (rest_of t (fed_at t p b).place bs)
unfolding read_from
rest-cons t p b bs =
    joined_assoc (fed_at t p b) (read_from t (fed_at t p b).place bs) (at_end t (read_from t (fed_at t p b).place bs).place)

-- what stopped stays so
pub rest-stopped : (t : Bool) (status : ℕ) (bs : List ℕ) → rest_of t (Stopped status) bs ≡ silent (Stopped status)
unfolding read_from at_end
rest-stopped t status [] = refl
rest-stopped t status (b ∷ bs) = rest-cons t (Stopped status) b bs ∙ ap (joined (silent (Stopped status))) (rest-stopped t status bs)

-- reading two parts
pub read-append : (t : Bool) (p : Place) (xs ys : List ℕ) → read_from t p (xs ++ ys) ≡ and_then (read_from t p xs) (λ q. read_from t q ys)
unfolding read_from
read-append t p [] ys = refl
read-append t p (x ∷ xs) ys =
    ap (joined (fed_at t p x)) (read-append t (fed_at t p x).place xs ys)
    ∙ sym (joined_assoc (fed_at t p x) (read_from t (fed_at t p x).place xs) (read_from t (read_from t (fed_at t p x).place xs).place ys))

pub due_is : (t : Bool) (input : List ℕ) → due t input ≡ rest_of t first_place input
unfolding due
due_is t input = refl
