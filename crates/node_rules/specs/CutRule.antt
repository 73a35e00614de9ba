-- How much of a log may be cut from its front.
use Rattle.std.specs.Prelude.{ℕ, ◌+◌, nat_le, Bool, true, false, List, [], ◌∷◌, length}
use Rattle.pcl_base.specs.Limits.{Sizes}
use Rattle.pcl_base.specs.declared.log.Record.{Record}
use Rattle.pcl_base.specs.declared.log.Logged.{Logged}
use Rattle.text_rules.specs.LogRecord.{record_bytes, records_of}
use Rattle.node_rules.specs.Work.{Outcome, Goes, and_then, and_so, read_page}

-- whether the disk has every page of a record at its version or a later one, page by page up to the
-- first that it hasn't
abbrev pub further_if : Bool → Outcome Bool → Outcome Bool
further_if true further = further
further_if false further = Goes false

-- whether the disk has every page of a record
unfoldable pub on_disk : List (List ℕ) → List Logged → Outcome Bool
on_disk pages [] = Goes true
on_disk pages (x ∷ xs) =
    and_then (read_page pages x.page) (λ at. further_if (nat_le x.version at.version) (on_disk pages xs))

-- the length of the records up to the first that the disk hasn't
abbrev pub count_if : ℕ → Outcome ℕ → Bool → Outcome ℕ
count_if n further false = Goes 0
count_if n further true = and_so further (λ m. n + m)

-- the length of the records that the disk has, up to the first that it hasn't
unfoldable pub records_on_disk : List (List ℕ) → List Record → Outcome ℕ
records_on_disk pages [] = Goes 0
records_on_disk pages (r ∷ rs) =
    and_then (on_disk pages r.changes) (count_if (length (record_bytes r)) (records_on_disk pages rs))

-- how many bytes of a log may be cut
unfoldable pub cuttable : Sizes → List (List ℕ) → List ℕ → Outcome ℕ
cuttable c pages log = records_on_disk pages (records_of c log)
