-- A whole run that was told, and what its trace tells.
use Rattle.std.proofs.Common.{◌≡◌, ℕ, ◌≤◌, Bool, true, false, List, refl, sym, ap, subst, Option, Result, Ok, Err}
use Rattle.std.proofs.lemmas.Bool.{and_parts, leb-true}
use Rattle.pcl_base.specs.Limits.{Sizes, InLimits, config_of, is_between, within}
use Rattle.pcl_base.specs.declared.config.ConfigFault.{ConfigFault}
use Rattle.pcl_base.specs.declared.config.ConfigFault.TheVariants.{BadNodes, BadPages, BadSize, BadFrames}
use Rattle.single_laws.proofs.Runs.{alone_is_accounted_law}
use Rattle.whole_runs.proofs.Going.{ends_are_true_law}
use Rattle.replay_rules.specs.Outcome.{Outcome as OutcomeOfRules}
use Rattle.replay_rules.specs.Schedule.{RanWhole}
use Rattle.replay_laws.proofs.Outcomes.{ran_whole}
use Rattle.replay.specs.TracedRun.{IsTraced}

-- a number that passes the test is between the limits
between : (low high n : ℕ) → is_between low high n ≡ true → (low ≤ n) × (n ≤ high)
between low high n h = let parts = and_parts _ _ h in (leb-true low n parts.0, leb-true n high parts.1)

-- the sizes of an answer, if it has them
sizes_or : Sizes → Result Sizes ConfigFault → Sizes
sizes_or c (Ok d) = d
sizes_or c (Err fault) = c

abbrev judged_by : Bool → Bool → Bool → Bool → Sizes → Result Sizes ConfigFault
judged_by nodes pages size frames d = within nodes BadNodes (within pages BadPages (within size BadSize (within frames BadFrames (Ok d))))

limits_by : (nodes pages size frames : Bool) (d c : Sizes) → nodes ≡ is_between 1 16 d.nodes → pages ≡ is_between 1 65536 d.pages
    → size ≡ is_between 8 4096 d.size → frames ≡ is_between 2 4096 d.frames → judged_by nodes pages size frames d ≡ Ok c → InLimits c
unfolding sizes_or
limits_by false pages size frames d c a b e f h = absurd (cc (h))
limits_by true false size frames d c a b e f h = absurd (cc (h))
limits_by true true false frames d c a b e f h = absurd (cc (h))
limits_by true true true false d c a b e f h = absurd (cc (h))
limits_by true true true true d c a b e f h =
    let nodes = between 1 16 d.nodes (sym a) in
    let pages = between 1 65536 d.pages (sym b) in
    let size = between 8 4096 d.size (sym e) in
    let frames = between 2 4096 d.frames (sym f) in
    let limits : InLimits d =
    record {
      some_nodes = nodes.0;
      most_nodes = nodes.1;
      some_pages = pages.0;
      most_pages = pages.1;
      least_size = size.0;
      most_size = size.1;
      least_frames = frames.0;
      most_frames = frames.1;
    } in
    subst InLimits (ap (sizes_or d) h) limits

-- a configuration is within the limits
pub config_limits : (nodes pages size frames : ℕ) (c : Sizes) → config_of nodes pages size frames ≡ Ok c → InLimits c
config_limits nodes pages size frames c h =
    let d : Sizes = record { nodes = nodes; pages = pages; size = size; frames = frames } in
    limits_by (is_between 1 16 nodes) (is_between 1 65536 pages) (is_between 8 4096 size) (is_between 2 4096 frames) d c refl refl refl refl h

pub traced_run : (t : Bool) (left left' written written' : Option (List ℕ)) (source source' sink sink' : ℕ)
    → OutcomeOfRules t left left' written written' source source' sink sink' 0 → IsTraced t left left' written written'
traced_run t left left' written written' source source' sink sink' o =
    let run : RanWhole t left left' written written' = ran_whole t left left' written written' source source' sink sink' o in
    let limits = config_limits run.header.nodes run.header.pages run.header.size run.header.frames run.sizes run.schedule.numbers in
    let true_run = ends_are_true_law run.sizes run.events limits in
    record {
      run = run;
      fresh = true_run.fresh;
      serial = true_run.serial;
      durable = true_run.durable;
      account = λ one alone. alone_is_accounted_law run.sizes run.events limits one alone;
    }
