-- What happens to the page on disk, to slots and to logs.
use Rattle.std.specs.Prelude.{ℕ, false, ◌&&◌, eqb, leb, None}
use Rattle.page_protocol.specs.State.{pick, updn, Page}
use Rattle.page_protocol.specs.Bytes.{Copy}

-- The page of some version is written to disk: by a redo, or by a step that was stopped later.
unfoldable pub restoring : Page → ℕ → Page
restoring a w = record a { disk = record { version = w; bytes = a.hist w } }

-- The owner writes its dirty copy, which is clean from then on.
unfoldable pub flushing : Page → Copy → Page
flushing a c = record a { disk = c; dirty = false }

-- A node gives up its copy.
unfoldable pub evicting : Page → ℕ → Page
evicting a n = record a { slot = updn a.slot n None }

-- A node cuts the records up to a version from its log.
unfoldable pub cutting : Page → ℕ → ℕ → Page
cutting a n w = record a { log = λ m v. pick (eqb m n && leb v w) None (a.log m v) }
