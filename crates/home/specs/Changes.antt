-- Where a change that was taken goes.
use Rattle.std.specs.Prelude.{ℕ, ◌||◌, nat_lt, Bool, is_some}
use Rattle.node_rules.specs.BufferRule.{Pool, has_slot, free_frames, victim}

-- whether a page has a slot, or a frame is free or can be freed for it
abbrev pub has_frame : ℕ → Pool → Bool
has_frame p b = has_slot b p || nat_lt 0 (free_frames b) || is_some (victim b p)
