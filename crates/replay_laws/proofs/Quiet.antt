-- Before its totals `summary` writes nothing.
use Rattle.std.proofs.Common.{◌≡◌, refl, sym, subst, ℕ, ◌==◌, Bool, true, false, List, [], ◌∷◌, ◌++◌, length, Option, Some, None, Result, Ok, Err}
use Rattle.pcl_base.specs.Limits.{Sizes, config_of}
use Rattle.pcl_base.specs.declared.config.ConfigFault.{ConfigFault}
use Rattle.pcl_base.specs.declared.event.Event.{Event}
use Rattle.pcl_base.specs.declared.event.Header.{Header}
use Rattle.text_rules.specs.ReadLine.{header_of}
use Rattle.text_rules.specs.ReadEvent.{event_of}
use Rattle.node_rules.specs.Words.{pick}
use Rattle.cluster_rules.specs.Clusters.{Cluster}
use Rattle.replay_rules.specs.Due.{Reading, Place, Told, first_place, most_lines, most_bytes, silent, long, with_sizes, with_header, with_event, judged_by, judged, grown, fed, fed_at, read_from}
use Rattle.replay_rules.specs.Due.Place.{Going, Stopped}
use Rattle.replay_rules.specs.Outcome.{so_far, GoesOn}
use Rattle.replay_laws.proofs.Outcomes.{stays}

-- where reading goes on, nothing was written
abbrev IsQuietAt : Place → List ℕ → Type 0
IsQuietAt (Going r) text = text ≡ []
IsQuietAt (Stopped status) text = Unit {0}

abbrev IsQuiet : Told → Type 0
IsQuiet told = IsQuietAt told.place told.text

sizes_quiet : (r : Reading) (h : Header) (o : Result Sizes ConfigFault) → IsQuiet (with_sizes true r h o)
sizes_quiet r h (Ok c) = refl
sizes_quiet r h (Err fault) = tt

header_quiet : (r : Reading) (o : Option Header) → IsQuiet (with_header true r o)
header_quiet r (Some h) = sizes_quiet r h (config_of h.nodes h.pages h.size h.frames)
header_quiet r None = tt

event_quiet : (r : Reading) (c : Cluster) (o : Option Event) → IsQuiet (with_event true r c o)
event_quiet r c (Some e) = refl
event_quiet r c None = tt

judged_quiet : (r : Reading) (o : Option Cluster) → IsQuiet (judged_by true r o)
judged_quiet r (Some c) = event_quiet r c (event_of r.part)
judged_quiet r None = header_quiet r (header_of r.part)

line_quiet : (r : Reading) → IsQuiet (judged true r)
unfolding judged
line_quiet r = judged_quiet r r.cluster

picked : (b : Bool) (x y : Told) → IsQuiet x → IsQuiet y → IsQuiet (pick b x y)
picked true x y p q = p
picked false x y p q = q

byte_quiet : (r : Reading) (b : ℕ) → IsQuiet (fed true r b)
unfolding fed
byte_quiet r b =
    let more : Reading = record r { part = r.part ++ b ∷ [] } in
    picked (r.lines == most_lines) (long r) (pick (b == 10) (judged true r) (grown true more)) tt
    (picked (b == 10) (judged true r) (grown true more) (line_quiet r)
    (picked (length more.part == most_bytes) (judged true more) (silent (Going more)) (line_quiet more) refl))

fed_quiet : (p : Place) (b : ℕ) → IsQuiet (fed_at true p b)
fed_quiet (Going r) b = byte_quiet r b
fed_quiet (Stopped status) b = tt

-- behind a first part
then_quiet : (place : Place) (text : List ℕ) (bs : List ℕ) → IsQuietAt place text → IsQuiet (read_from true place bs)
    → IsQuietAt (read_from true place bs).place (text ++ (read_from true place bs).text)
then_quiet (Going r) text bs none rest =
    subst (λ l. IsQuietAt (read_from true (Going r) bs).place (l ++ (read_from true (Going r) bs).text)) (sym none) rest
then_quiet (Stopped status) text bs none rest =
    subst (λ p. IsQuietAt p (text ++ (read_from true (Stopped status) bs).text)) (sym (stays true status bs)) tt

none_yet : (p : Place) → IsQuiet (silent p)
none_yet (Going r) = refl
none_yet (Stopped status) = tt

bytes_quiet : (p : Place) (bs : List ℕ) → IsQuiet (read_from true p bs)
unfolding read_from
bytes_quiet p [] = none_yet p
bytes_quiet p (b ∷ bs) =
    then_quiet (fed_at true p b).place (fed_at true p b).text bs (fed_quiet p b) (bytes_quiet (fed_at true p b).place bs)

pub totals_quiet : (taken : List ℕ) → GoesOn true taken → (so_far true taken).text ≡ []
totals_quiet taken on = subst (λ p. IsQuietAt p (so_far true taken).text) on.1 (bytes_quiet first_place taken)
