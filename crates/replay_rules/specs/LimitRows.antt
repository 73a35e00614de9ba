-- Readings at the limits of lines and of bytes.
use Rattle.std.specs.Prelude.{ℕ, List, ◌++◌, replicate, codes, Some}
use Rattle.cluster_rules.specs.Clusters.{opening}
use Rattle.replay_rules.specs.Due.{Reading}

-- behind so many lines, and some bytes of the next one
abbrev pub reading : ℕ → List ℕ → Reading
reading lines part = record { lines = lines; part = part; cluster = Some (opening (record { nodes = 1; pages = 1; size = 8; frames = 2 })) }

-- the longest line that there is, of 8,234 bytes
abbrev pub longest_line : List ℕ
longest_line = codes "write 15.4294967295.4294967295 65535 4095 " ++ replicate 8192 97
