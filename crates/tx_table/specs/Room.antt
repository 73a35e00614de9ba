-- The room that an open transaction keeps.
use Rattle.std.specs.Prelude.{◌≡◌, ℕ, ◌<◌, Bool, true}

-- while an access waits, there is room for the lock that will end it
abbrev pub IsReady : Bool → ℕ → ℕ → Type 0
IsReady waits held room = waits ≡ true → held < room
