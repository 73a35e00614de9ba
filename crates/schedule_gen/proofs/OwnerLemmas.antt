-- The owners after a node was lost.
use Rattle.std.proofs.Common.{◌≡◌, ℕ, ◌==◌, Bool, true, false, List, [], ◌∷◌, ◌++◌, refl}
use Rattle.text_rules.specs.Generator.{Making, drawn, new_owner, new_owners}

-- nothing is said
silent_case : (lost o : ℕ) (os : List ℕ) (s : Making) (b : Bool) → ((t : Making) → (new_owners lost os t).events ≡ []) → ((new_owner b o s).events ++ ((new_owners lost os (new_owner b o s).next).events ++ [])) ≡ []
silent_case lost o os s true so = rw (so (record s { draws = drawn s.draws })) refl
silent_case lost o os s false so = rw (so s) refl

pub new_owners_silent : (lost : ℕ) (os : List ℕ) (s : Making) → (new_owners lost os s).events ≡ []
new_owners_silent lost [] s = refl
new_owners_silent lost (o ∷ os) s = silent_case lost o os s (o == lost) (new_owners_silent lost os)

-- the live nodes stay
live_case : (lost o : ℕ) (os : List ℕ) (s : Making) (b : Bool) → ((t : Making) → (new_owners lost os t).next.live ≡ t.live) → (new_owners lost os (new_owner b o s).next).next.live ≡ s.live
live_case lost o os s true so = so (record s { draws = drawn s.draws })
live_case lost o os s false so = so s

pub live_stay : (lost : ℕ) (os : List ℕ) (s : Making) → (new_owners lost os s).next.live ≡ s.live
live_stay lost [] s = refl
live_stay lost (o ∷ os) s = live_case lost o os s (o == lost) (live_stay lost os)
