-- Begins, evictions, flushes, cuts, and messages that aren't taken.
use Rattle.std.proofs.Common.{ℕ, List}
use Rattle.node_rules.specs.NodeState.{Begin, Evict, Flush, Cut}
use Rattle.page_relation.proofs.WorkParts.Beginning.{begin_is_kept_law}
use Rattle.page_relation.proofs.WorkParts.Simple.{evict_is_kept_law, flush_is_kept_law, cut_is_kept_law, untaken_is_kept_law}
use Rattle.whole_runs.specs.Act.Acted.{ActKeeps, UntakenActIsKept}
use Rattle.whole_runs.proofs.ActParts.Steps.{follows_itself, unstopped}

pub begin_acts : (blank : List ℕ) → ActKeeps blank Begin
begin_acts blank c e n s w is whole p low =
    follows_itself p (is.related.pages.page p) _ (is.between.entered p low)
    (begin_is_kept_law c e n p s (is.related.pages.page p) is.related.cluster whole.handed (is.related.pages.related p low))

pub evict_acts : (blank : List ℕ) (q : ℕ) → ActKeeps blank (Evict q)
evict_acts blank q c e n s w is whole p low =
    evict_is_kept_law c e n p q s blank (is.related.pages.page p) is.related.cluster whole.handed (unstopped c e n s (Evict q) w whole) low (is.related.pages.reached p low) (is.between.entered p low)
    (is.related.pages.related p low)

pub flush_acts : (blank : List ℕ) (q : ℕ) → ActKeeps blank (Flush q)
flush_acts blank q c e n s w is whole p low =
    flush_is_kept_law c e n p q s blank (is.related.pages.page p) is.related.cluster whole.handed (unstopped c e n s (Flush q) w whole) low (is.related.pages.reached p low) (is.between.entered p low)
    (is.related.pages.related p low)

pub cut_acts : (blank : List ℕ) → ActKeeps blank Cut
cut_acts blank c e n s w is whole p low =
    cut_is_kept_law c e n p s w (is.related.pages.page p) is.related.cluster whole.handed (unstopped c e n s Cut w whole) whole.goes (is.between.entered p low) (is.related.pages.related p low)

pub untaken_acts : UntakenActIsKept
untaken_acts blank c e n from s m is h untaken p low =
    follows_itself p (is.related.pages.page p) _ (is.between.entered p low)
    (untaken_is_kept_law c e n p from m s (is.related.pages.page p) is.related.cluster h untaken (is.related.pages.related p low))
