-- What an entry makes of a page behind the head of a stored page.
use Rattle.std.specs.Prelude.{List, ℕ, ◌++◌, take, drop, Option, Some, None, Result, Ok, Err}
use Rattle.pcl_base.specs.declared.log.Part.{Part}
use Rattle.pcl_base.specs.declared.log.Part.TheVariants.{Image, Ranges}
use Rattle.pcl_base.specs.declared.log.ChangedRange.{ChangedRange}
use Rattle.text_rules.specs.FieldBytes.{Stop}
use Rattle.text_rules.specs.ChangedRanges.{put_ranges}

-- the page with a part of it put over it: an image is all of it
abbrev pub with_part : Part → List ℕ → List ℕ
with_part (Image bytes) page = bytes
with_part (Ranges rs) page = put_ranges rs page

-- the same behind sixteen bytes, which stay
abbrev pub applied : Part → List ℕ → List ℕ
applied part raw = take 16 raw ++ with_part part (drop 16 raw)

-- what ranges that were read make of a page behind sixteen bytes
abbrev pub put_read : Result (List ChangedRange × List ℕ) Stop → List ℕ → Option (List ℕ)
put_read (Ok p) raw = Some (take 16 raw ++ put_ranges p.0 (drop 16 raw))
put_read (Err s) raw = None

-- what a part that was read makes of it
abbrev pub part_put : Result (Part × List ℕ) Stop → List ℕ → Option (List ℕ)
part_put (Ok p) raw = Some (applied p.0 raw)
part_put (Err s) raw = None
