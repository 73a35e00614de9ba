-- From each step to every run.
use Rattle.std.proofs.Common.{◌≡◌, refl, sym, subst, ◌∙◌, ℕ, List, [], ◌∷◌}
use Rattle.std.specs.List.{AllByRecursion}
use Rattle.pcl_base.specs.Limits.{Sizes, InLimits}
use Rattle.pcl_base.specs.declared.event.Event.{Event}
use Rattle.run_rules.specs.Account.{IsAccounted}
use Rattle.run_rules.specs.Fresh.{IsFresh}
use Rattle.cluster_rules.specs.Clusters.{Cluster, opening}
use Rattle.cluster_rules.specs.ClusterStep.{step}
use Rattle.cluster_rules.specs.Run.{run_from, run, last_from, last}
use Rattle.cluster_rules.specs.Safe.{Safe}
use Rattle.cluster_laws.proofs.LinkParts.Stepped.{sizes_stay_law}
use Rattle.page_laws.proofs.MomentParts.Growing.{empty_tells_law}
use Rattle.page_relation.specs.Laws.{blank}
use Rattle.related_runs.specs.RunLaws.{IsOfRun}
use Rattle.related_runs.proofs.FreshSteps.{related_stays_fresh_law}
use Rattle.related_runs.proofs.GoingOn.{opening_is_of_run_law, steps_go_on_law as kept_go_on}
use Rattle.related_runs.proofs.Safe.{related_is_serial_law, related_is_durable_law}
use Rattle.cluster_facts.proofs.Joined.{opening_has_facts_law, steps_have_facts_law}
use Rattle.whole_runs.specs.Runs.{IsKnownRun, StepsGoOn, RunsAreKnown, IsTrue, RunsAreTrue, EndsAreTrue, RunsAreSafe}
use Rattle.whole_runs.proofs.Redoing.{steps_keep_pages_law}

pub steps_go_on_law : StepsGoOn
steps_go_on_law blank c e k =
    let left = steps_keep_pages_law blank c e k in
    record { run = kept_go_on blank c e left k.run; facts = steps_have_facts_law blank c e k.run left.pages k.facts }

pub opening_is_known : (c : Sizes) → InLimits c → IsKnownRun (blank c) (opening c)
opening_is_known c limits = record { run = opening_is_of_run_law c limits; facts = opening_has_facts_law c }

known_from : (b : List ℕ) (es : List Event) (c : Cluster) → IsKnownRun b c → AllByRecursion (IsKnownRun b) (run_from c es)
unfolding run_from
known_from b [] c k = (k, tt)
known_from b (e ∷ es) c k = (k, known_from b es (step c e) (steps_go_on_law b c e k))

pub runs_are_known_law : RunsAreKnown
unfolding run
runs_are_known_law c es limits = known_from (blank c) es (opening c) (opening_is_known c limits)

true_of : (b : List ℕ) (c : Sizes) (d : Cluster) → d.config ≡ c → IsOfRun b d → IsFresh d.config d.trace → IsTrue c d
true_of b c d same is fresh =
    subst (λ (k : Sizes). IsTrue k d) same (record { fresh = fresh; serial = related_is_serial_law b d is.related; durable = related_is_durable_law b d is.related })

true_from : (b : List ℕ) (c : Sizes) (es : List Event) (d : Cluster) → d.config ≡ c → IsKnownRun b d → IsFresh d.config d.trace → AllByRecursion (IsTrue c) (run_from d es) × IsTrue c (last_from d es)
unfolding run_from
true_from b c [] d same k fresh = let is = true_of b c d same k.run fresh in ((is, tt), is)
true_from b c (e ∷ es) d same k fresh =
    let next = steps_go_on_law b d e k in
    let rest = true_from b c es (step d e) (sizes_stay_law d e ∙ same) next (related_stays_fresh_law b d e k.run.related.cluster fresh next.run.related) in
    ((true_of b c d same k.run fresh, rest.0), rest.1)

all_true : (c : Sizes) (es : List Event) → InLimits c → AllByRecursion (IsTrue c) (run c es) × IsTrue c (last c es)
unfolding run opening
all_true c es limits = true_from (blank c) c es (opening c) refl (opening_is_known c limits) (empty_tells_law c).fresh

pub runs_are_true_law : RunsAreTrue
runs_are_true_law c es limits = (all_true c es limits).0

pub ends_are_true_law : EndsAreTrue
ends_are_true_law c es limits = (all_true c es limits).1

-- ---- with the account

safe_of : (c : Sizes) (d : Cluster) → d.config ≡ c → IsTrue c d → IsAccounted d.config d.trace → Safe d
safe_of c d same is account =
    let own : IsTrue d.config d = subst (λ (k : Sizes). IsTrue k d) (sym same) is in
    record { fresh = own.fresh; serial = own.serial; durable = own.durable; account = account }

safe_from : (c : Sizes) (es : List Event) (d : Cluster) → d.config ≡ c → AllByRecursion (IsTrue c) (run_from d es)
    → AllByRecursion (λ k. IsAccounted k.config k.trace) (run_from d es) → AllByRecursion Safe (run_from d es)
unfolding run_from
safe_from c [] d same is account = (safe_of c d same is.0 account.0, tt)
safe_from c (e ∷ es) d same is account = (safe_of c d same is.0 account.0, safe_from c es (step d e) (sizes_stay_law d e ∙ same) is.1 account.1)

pub runs_are_safe_law : RunsAreSafe
unfolding run opening
runs_are_safe_law c es limits account = safe_from c es (opening c) refl (runs_are_true_law c es limits) account
