-- The disk of a cluster of one node that is alone is durable.
use Rattle.std.proofs.Common.{◌≡◌, refl, ap, ◌∙◌, ℕ, zero, suc, ◌+◌, ◌<◌, ◌≤◌, ◌==◌, ◌&&◌, Bool, true, false, List, [], ◌∷◌, None, Some, arith}
use Rattle.std.specs.Prelude.{Option}
use Rattle.std.proofs.lemmas.List.Sums.{fold-append}
use Rattle.pcl_base.specs.Limits.{Sizes}
use Rattle.pcl_base.specs.declared.trace.Entry.{Entry}
use Rattle.text_rules.specs.StoredPage.{PageAt}
use Rattle.run_rules.specs.Words.{pick}
use Rattle.run_rules.specs.Base.{Base, version_at, bytes_at}
use Rattle.run_rules.specs.Disk.{Disk}
use Rattle.run_rules.specs.Redo.{redo}
use Rattle.run_rules.specs.Views.{count_from}
use Rattle.run_rules.specs.Script.{moments_of, moments}
use Rattle.run_rules.specs.Now.{Story, first_story, after, after_all, after_entry}
use Rattle.run_rules.specs.Durable.{is_page_of, first_lost, fault_against, durable_fault, IsDurable}
use Rattle.cluster_rules.specs.Clusters.{Cluster}
use Rattle.home_laws.proofs.Tests.{number_same}
use Rattle.single_laws.proofs.Working.{same_test}
use Rattle.single_laws.proofs.Told.{known_after}
use Rattle.single_laws.proofs.Pages.{at}
use Rattle.single_laws.proofs.Clusters.{IsAlone}

-- what is known, entry by entry
story_known : (s : Story) (es : List Entry) → after_all s (moments es) ≡ known_after s es
unfolding moments
story_known s [] = refl
story_known s (e ∷ es) = fold-append after s (moments_of e) (moments es) ∙ story_known (after_entry s e) es

both_true : (a b : Bool) → a ≡ true → b ≡ true → (a && b) ≡ true
both_true true b e f = f
both_true false b e f = e

-- no page is lost
none_lost : (c : Sizes) (d : Disk) (base : Base) (n a : ℕ) → ((p : ℕ) → a ≤ p → p < a + n → redo c d p ≡ Some (at base p)) → first_lost c d base (count_from a n) ≡ None
unfolding first_lost count_from
none_lost c d base zero a each = refl
none_lost c d base (suc n) a each =
    ap (λ (o : Option PageAt). pick (is_page_of base a o) (first_lost c d base (count_from (a + 1) n)) (Some a)) (each a (omega arith) (omega arith))
    ∙ ap (λ b. pick b (first_lost c d base (count_from (a + 1) n)) (Some a))
    (both_true (version_at base a == version_at base a) _ (number_same (version_at base a)) (same_test (bytes_at base a) (bytes_at base a) refl))
    ∙ none_lost c d base n (a + 1) (λ p low high. each p (omega (arith, low)) (omega (arith, high)))

pub durable_of : (c : Sizes) (k : Cluster) → IsAlone c k → IsDurable c k.trace k.disk
unfolding durable_fault
durable_of c k is =
    ap (fault_against c k.disk) (ap (λ (s : Story). s.base) (story_known (first_story c) k.trace) ∙ is.alone.kept.known)
    ∙ none_lost c k.disk is.alone.base c.pages 0 (λ p low high. is.alone.kept.pages.redone.redo_is p (omega (arith, high)))
