-- Parts of a record whose numbers have room in its bytes.
use Rattle.std.specs.Prelude.{◌+◌, ◌≤◌, List, length, All, ⊤}
use Rattle.pcl_base.specs.declared.log.Logged.{Logged}
use Rattle.pcl_base.specs.declared.log.Part.{Part}
use Rattle.pcl_base.specs.declared.log.Part.TheVariants.{Image, Ranges}
use Rattle.pcl_base.specs.declared.log.ChangedRange.{ChangedRange}

-- a range that ends within the longest page
abbrev pub IsSmallRange : ChangedRange → Type 0
IsSmallRange r = r.place + length r.bytes ≤ 4096

-- ranges of one page
pub record AreSmallRanges (rs : List ChangedRange) : Type 0 where
  pub count : length rs ≤ 4097
  pub each : All IsSmallRange rs

-- a part
abbrev pub IsSmallPart : Part → Type 0
IsSmallPart (Image bytes) = ⊤
IsSmallPart (Ranges rs) = AreSmallRanges rs

-- a changed page
abbrev pub IsSmallLogged : Logged → Type 0
IsSmallLogged x = IsSmallPart x.part
