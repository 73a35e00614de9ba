-- What is appended piece by piece.
use Rattle.std.proofs.Common.{ℕ, List, [], ◌++◌, append_assoc, Option, Some, None, refl, sym, ap, ◌∙◌}
use Rattle.std.specs.Io.KnownBytes.{Appends, Keeps, Consumes}
use Rattle.std.proofs.lemmas.List.{append-nil}

-- one after the other
pub appends_both : (a b c : Option (List ℕ)) (x y : List ℕ) → Appends a b x → Appends b c y → Appends a c (x ++ y)
appends_both None b c x y first second = tt
appends_both (Some xs) None c x y first second = absurd first
appends_both (Some xs) (Some ys) None x y first second = absurd second
appends_both (Some xs) (Some ys) (Some zs) x y first second = second ∙ ap (λ q. q ++ y) first ∙ append_assoc xs x y

-- nothing is appended
pub appends_nothing : (a : Option (List ℕ)) → Appends a a []
appends_nothing None = tt
appends_nothing (Some xs) = sym (append-nil xs)

-- what keeps the bytes appends nothing more
pub appends_kept : (a b c : Option (List ℕ)) (x : List ℕ) → Appends a b x → Keeps b c → Appends a c x
appends_kept None b c x first kept = tt
appends_kept (Some xs) None c x first kept = absurd first
appends_kept (Some xs) (Some ys) None x first kept = absurd kept
appends_kept (Some xs) (Some ys) (Some zs) x first kept = kept ∙ first

-- the same of what a source loses
pub consumes_both : (a b c : Option (List ℕ)) (x y : List ℕ) → Consumes a b x → Consumes b c y → Consumes a c (x ++ y)
consumes_both None b c x y first second = tt
consumes_both (Some xs) None c x y first second = absurd first
consumes_both (Some xs) (Some ys) None x y first second = absurd second
consumes_both (Some xs) (Some ys) (Some zs) x y first second = first ∙ ap (λ q. x ++ q) second ∙ sym (append_assoc x y zs)

pub consumes_nothing : (a : Option (List ℕ)) → Consumes a a []
consumes_nothing None = tt
consumes_nothing (Some xs) = refl

pub consumes_kept : (a b c : Option (List ℕ)) (x : List ℕ) → Consumes a b x → Keeps b c → Consumes a c x
consumes_kept None b c x first kept = tt
consumes_kept (Some xs) None c x first kept = absurd first
consumes_kept (Some xs) (Some ys) None x first kept = absurd kept
consumes_kept (Some xs) (Some ys) (Some zs) x first kept = first ∙ ap (λ q. x ++ q) (sym kept)
