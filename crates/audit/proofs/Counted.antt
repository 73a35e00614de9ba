-- The call of a stop on a line is counted from 1.
use Rattle.pcl_base.specs.declared.event.Event.{Event}
use Rattle.pcl_base.specs.declared.event.Event.TheVariants as event
use Rattle.text_rules.specs.ScheduleLine.{HasLine}
use Rattle.cluster_parts.specs.State.{IsCounted}

pub line_counted : (e : Event) → HasLine e → IsCounted e
line_counted (event.Arm n k j) h = h.1
line_counted (event.Begin n) h = tt
line_counted (event.Read t p) h = tt
line_counted (event.Write t p i bs) h = tt
line_counted (event.Commit t) h = tt
line_counted (event.Abort t) h = tt
line_counted (event.Deliver x y) h = tt
line_counted (event.Evict n p) h = tt
line_counted (event.Flush n p) h = tt
line_counted (event.Crash n) h = tt
line_counted (event.View l o) h = tt
line_counted (event.Install n) h = tt
line_counted event.Reopen h = tt
line_counted (event.Cut n) h = tt
