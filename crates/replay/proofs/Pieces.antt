-- The next byte of a piece.
use Rattle.std.proofs.Common.{◌≡◌, ℕ, ◌+◌, ◌<◌, List, [], ◌∷◌, ◌++◌, length, take, drop, get_or, sym, subst, Option, Some, None}
use Rattle.std.proofs.lemmas.List.{take-append-drop, take_more}
use Rattle.replay.specs.ReaderView.{ReaderView}
use Rattle.replay.specs.Wrote.{Went, Broke}
use Rattle.replay.proofs.Going.{both_went, went_broke, went_within, broke_within}

more : (piece : List ℕ) (i : ℕ) → i < length piece → take (i + 1) piece ≡ take i piece ++ get_or piece i 0 ∷ []
more piece i inside = take_more piece i 0 inside

pub next_went : (v w z : ReaderView) (piece : List ℕ) (i : ℕ) (a b c : Option (List ℕ)) (s : Option ℕ) → i < length piece → Went v (take i piece) a b None w
    → Went w (get_or piece i 0 ∷ []) b c s z → Went v (take (i + 1) piece) a c s z
next_went v w z piece i a b c s inside before byte =
    subst (λ l. Went v l a c s z) (sym (more piece i inside)) (both_went v w z (take i piece) (get_or piece i 0 ∷ []) a b c s before byte)

pub next_stopped : (v w z : ReaderView) (piece : List ℕ) (i : ℕ) (a b c : Option (List ℕ)) (status : ℕ) → i < length piece → Went v (take i piece) a b None w
    → Went w (get_or piece i 0 ∷ []) b c (Some status) z → Went v piece a c (Some status) z
next_stopped v w z piece i a b c status inside before byte =
    subst (λ l. Went v l a c (Some status) z) (take-append-drop (i + 1) piece)
    (went_within v z (take (i + 1) piece) (drop (i + 1) piece) a c status (next_went v w z piece i a b c (Some status) inside before byte))

pub next_broke : (v w : ReaderView) (piece : List ℕ) (i : ℕ) (a b c : Option (List ℕ)) → i < length piece → Went v (take i piece) a b None w
    → Broke w (get_or piece i 0 ∷ []) b c → Broke v piece a c
next_broke v w piece i a b c inside before byte =
    let both : Broke v (take (i + 1) piece) a c =
    subst (λ l. Broke v l a c) (sym (more piece i inside)) (went_broke v w (take i piece) (get_or piece i 0 ∷ []) a b c before byte) in
    subst (λ l. Broke v l a c) (take-append-drop (i + 1) piece) (broke_within v (take (i + 1) piece) (drop (i + 1) piece) a c both)
