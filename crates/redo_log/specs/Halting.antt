-- Why reading a log in pieces gave up.
use Rattle.std.specs.Prelude.{Option, Some, None}
use Rattle.text_rules.specs.FieldBytes.{Stop}
use Rattle.redo_log.specs.Stopping.{stop_of}
use Rattle.redo_log.specs.declared.reader.Halt.{Halt}
use Rattle.redo_log.specs.declared.reader.Halt.TheVariants.{Failed, Stopped}

-- the stop of a field that failed
abbrev pub halt_stop : Halt → Option Stop
halt_stop Failed = None
halt_stop (Stopped s) = Some (stop_of s)
