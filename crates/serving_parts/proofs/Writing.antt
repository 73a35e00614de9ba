-- Frames that are written one after the other.
use Rattle.std.proofs.Common.{◌≡◌, sym, ap, subst, ◌∙◌, ℕ, suc, ◌+◌, ◌<◌, ◌≤◌, List, ◌∷◌, ◌++◌, drop, drop-cons, get_or, length, flat_map, append_assoc, Option, Result, Ok, Err, arith}
use Rattle.std.specs.Io.KnownBytes.{Appends}
use Rattle.std.proofs.KnownBytes.{Appends-trans}
use Rattle.node_rules.specs.NodeState.{Outgoing}
use Rattle.frame_rules.specs.WrittenFrames.{sent_frame}
use Rattle.serving_parts.specs.declared.end.End.{End}
use Rattle.serving_parts.specs.declared.end.End.TheVariants.{Decided, Source, Sink, Memory}
use Rattle.serving_parts.specs.Written.{Wrote}
use Rattle.serving_parts.proofs.Moving.{risen_later, part_behind, part_before}

-- a text behind one that was written
pub wrote_behind : (X : Type 0) (a b c : Option (List ℕ)) (s s1 s2 : ℕ) (xs ys : List ℕ) (result : Result X End) → Appends a b xs → s ≤ s1 → Wrote b c s1 s2 ys result → Wrote a c s s2 (xs ++ ys) result
wrote_behind X a b c s s1 s2 xs ys (Ok x) first later w = Appends-trans a b c xs ys first w
wrote_behind X a b c s s1 s2 xs ys (Err (Decided status)) first later w = w
wrote_behind X a b c s s1 s2 xs ys (Err Source) first later w = w
wrote_behind X a b c s s1 s2 xs ys (Err Sink) first later w = (risen_later s s1 s2 later w.0, part_behind a b c xs ys first w.1)
wrote_behind X a b c s s1 s2 xs ys (Err Memory) first later w = part_behind a b c xs ys first w

-- a text that wasn't written whole, before another one
pub wrote_before : (X Y : Type 0) (a b : Option (List ℕ)) (s s1 : ℕ) (xs ys : List ℕ) (end : End) → Wrote {X = X} a b s s1 xs (Err end) → Wrote {X = Y} a b s s1 (xs ++ ys) (Err end)
wrote_before X Y a b s s1 xs ys (Decided status) w = w
wrote_before X Y a b s s1 xs ys Source w = w
wrote_before X Y a b s s1 xs ys Sink w = (w.0, part_before a b xs ys w.1)
wrote_before X Y a b s s1 xs ys Memory w = part_before a b xs ys w

-- one message more
item_front : {X : Type 0} (xs : List X) (i : ℕ) (x : X) → x ≡ get_or xs i x → i < length xs → x ∷ drop (i + 1) xs ≡ drop i xs
item_front xs i x is within =
    let next : i + 1 ≡ suc i = omega arith in
    (λ k. is k ∷ drop (next k) xs) ∙ sym (drop-cons xs i x within)

pub sends_next : (text : List ℕ) (xs : List Outgoing) (i : ℕ) (x : Outgoing) → x ≡ get_or xs i x → i < length xs → text ++ flat_map sent_frame (drop i xs) ≡ flat_map sent_frame xs
    → (text ++ sent_frame x) ++ flat_map sent_frame (drop (i + 1) xs) ≡ flat_map sent_frame xs
sends_next text xs i x is within before =
    append_assoc text (sent_frame x) (flat_map sent_frame (drop (i + 1) xs))
    ∙ ap (λ l. text ++ flat_map sent_frame l) (item_front xs i x is within)
    ∙ before

-- a text that is all that is to be written
pub wrote_all : (X : Type 0) (a b : Option (List ℕ)) (s s1 : ℕ) (xs ys : List ℕ) (result : Result X End) → xs ≡ ys → Wrote a b s s1 xs result → Wrote a b s s1 ys result
wrote_all X a b s s1 xs ys result same w = subst (λ l. Wrote a b s s1 l result) same w
