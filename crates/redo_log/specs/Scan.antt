-- Records before the rest of a log.
use Rattle.std.specs.Prelude.{List, ◌++◌}
use Rattle.pcl_base.specs.declared.log.Record.{Record}
use Rattle.text_rules.specs.LogRecord.{Log}

-- records before those of a log
abbrev pub joined : List Record → Log → Log
joined made log = record log { records = made ++ log.records }
