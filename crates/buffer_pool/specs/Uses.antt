-- What becomes of the content of a slot.
use Rattle.std.specs.Prelude.{◌+◌, Bool, false, Option, Some, None}
use Rattle.buffer_pool.specs.declared.uses.Content.{Content}

abbrev pub is_dirty_content : Option Content → Bool
is_dirty_content None = false
is_dirty_content (Some c) = c.dirty

-- it is on disk
abbrev pub cleaned_content : Option Content → Option Content
cleaned_content None = None
cleaned_content (Some c) = Some (record c { dirty = false })

-- the next version
abbrev pub published_content : Bool → Option Content → Option Content
published_content dirty None = None
published_content dirty (Some c) = Some (record { version = c.version + 1; dirty = dirty })
