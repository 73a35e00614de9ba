-- Lines that are events.
use Rattle.std.proofs.Common.{◌≡◌, length, ap, arith}
use Rattle.pcl_base.specs.declared.event.Event.{Event}
use Rattle.pcl_base.specs.declared.event.Event.TheVariants as event
use Rattle.text_rules.specs.ScheduleLine.{HasLine}
use Rattle.line_laws.proofs.EventLines.{event_back}
use Rattle.cluster_parts.specs.State.{IsCounted}
use Rattle.replay_rules.specs.Due.{Reading, most_bytes}
use Rattle.replay_laws.proofs.LineSizes.{event_fits}
use Rattle.replay.specs.Outcome.{DiffersNext}

-- a line of so many bytes that it is in no grammar isn't an event
pub too_long : (r : Reading) → length r.part ≡ most_bytes → DiffersNext r → ⊥
too_long r long d =
    let back = event_back r.part d.event d.line in
    let fits = event_fits d.event back.0 in
    let few = fits.0 in
    let same = ap length back.1 in
    absurd (omega (arith, few, same, long))

-- the call of a stop that has a line is counted from 1
pub line_counted : (e : Event) → HasLine e → IsCounted e
line_counted (event.Arm n k j) h = h.1
line_counted (event.Begin n) h = tt
line_counted (event.Read t p) h = tt
line_counted (event.Write t p i bs) h = tt
line_counted (event.Commit t) h = tt
line_counted (event.Abort t) h = tt
line_counted (event.Deliver x y) h = tt
line_counted (event.Evict n p) h = tt
line_counted (event.Flush n p) h = tt
line_counted (event.Crash n) h = tt
line_counted (event.View l o) h = tt
line_counted (event.Install n) h = tt
line_counted event.Reopen h = tt
line_counted (event.Cut n) h = tt
