-- The cluster to which a schedule was read is one of its run.
use Rattle.std.proofs.Common.{◌≡◌, ℕ, ◌==◌, Bool, true, false, List, [], ◌∷◌, ◌++◌, length, Option, Some, None, Result, Ok, Err, refl, sym, ap, ◌∙◌}
use Rattle.std.specs.Prelude.{⊤, IfSome}
use Rattle.std.specs.List.{fold}
use Rattle.pcl_base.specs.Limits.{Sizes, InLimits, config_of}
use Rattle.pcl_base.specs.declared.config.ConfigFault.{ConfigFault}
use Rattle.pcl_base.specs.declared.event.Event.{Event}
use Rattle.pcl_base.specs.declared.event.Header.{Header}
use Rattle.text_rules.specs.ReadLine.{header_of}
use Rattle.text_rules.specs.ReadEvent.{event_of}
use Rattle.node_rules.specs.Words.{pick}
use Rattle.cluster_rules.specs.Clusters.{Cluster, opening}
use Rattle.cluster_rules.specs.ClusterStep.{step}
use Rattle.cluster_rules.specs.Run.{last}
use Rattle.replay_rules.specs.Due.{Reading, Place, Told, first_place, with_sizes, with_header, with_event, judged_by, judged, grown, long, silent, fed, fed_at, read_from, most_lines, most_bytes}
use Rattle.replay_rules.specs.Due.Place.{Going, Stopped}
use Rattle.replay.proofs.Alone.{config_limits}

-- a cluster of the run of a schedule
pub record IsOfSchedule (c : Cluster) : Type 0 where
  pub sizes : Sizes
  pub limits : InLimits sizes
  pub events : List Event
  pub same : c ≡ last sizes events

-- the place has one, if it has a cluster
abbrev pub HasRun : Place → Type 0
HasRun (Going r) = IfSome r.cluster IsOfSchedule
HasRun (Stopped status) = ⊤

folded : (c : Cluster) (es : List Event) (e : Event) → fold step c (es ++ e ∷ []) ≡ step (fold step c es) e
folded c [] e = refl
folded c (x ∷ es) e = folded (step c x) es e

next_run : (c : Cluster) (e : Event) → IsOfSchedule c → IsOfSchedule (step c e)
next_run c e is =
    record { sizes = is.sizes; limits = is.limits; events = is.events ++ e ∷ []; same = ap (λ d. step d e) is.same ∙ sym (folded (opening is.sizes) is.events e) }

header_run : (t : Bool) (r : Reading) (o : Option Header) → HasRun (with_header t r o).place
header_run t r None = tt
header_run t r (Some h) = by (config_of h.nodes h.pages h.size h.frames) refl
  where
    by : (o : Result Sizes ConfigFault) → config_of h.nodes h.pages h.size h.frames ≡ o → HasRun (with_sizes t r h o).place
    by (Ok c) e = record { sizes = c; limits = config_limits h.nodes h.pages h.size h.frames c e; events = []; same = refl }
    by (Err fault) e = tt

event_run : (t : Bool) (r : Reading) (c : Cluster) (o : Option Event) → IsOfSchedule c → HasRun (with_event t r c o).place
event_run t r c None is = tt
event_run t r c (Some e) is = next_run c e is

line_run : (t : Bool) (r : Reading) (o : Option Cluster) → IfSome o IsOfSchedule → HasRun (judged_by t r o).place
line_run t r None is = header_run t r (header_of r.part)
line_run t r (Some c) is = event_run t r c (event_of r.part) is

whole_run : (t : Bool) (r : Reading) → IfSome r.cluster IsOfSchedule → HasRun (judged t r).place
unfolding judged
whole_run t r is = line_run t r r.cluster is

-- a place that is chosen
picked : (b : Bool) (x y : Told) → HasRun x.place → HasRun y.place → HasRun (pick b x y).place
picked true x y p q = p
picked false x y p q = q

byte_run : (t : Bool) (r : Reading) (b : ℕ) → IfSome r.cluster IsOfSchedule → HasRun (fed t r b).place
unfolding fed
byte_run t r b is =
    let more : Reading = record r { part = r.part ++ b ∷ [] } in
    picked (r.lines == most_lines) (long r) _ tt
    (picked (b == 10) (judged t r) (grown t more) (whole_run t r is) (picked (length more.part == most_bytes) (judged t more) (silent (Going more)) (whole_run t more is) is))

place_run : (t : Bool) (p : Place) (b : ℕ) → HasRun p → HasRun (fed_at t p b).place
place_run t (Going r) b is = byte_run t r b is
place_run t (Stopped status) b is = tt

bytes_run : (t : Bool) (p : Place) (bs : List ℕ) → HasRun p → HasRun (read_from t p bs).place
unfolding read_from
bytes_run t p [] is = is
bytes_run t p (b ∷ bs) is = bytes_run t (fed_at t p b).place bs (place_run t p b is)

-- from the first byte on
pub read_run : (t : Bool) (bs : List ℕ) → HasRun (read_from t first_place bs).place
read_run t bs = bytes_run t first_place bs tt
