-- The storage is durable where each page has a state of the machine.
use Rattle.std.proofs.Common.{◌≡◌, refl, sym, ap, ◌∙◌, ℕ, zero, suc, ◌+◌, ◌<◌, ◌≤◌, ◌==◌, ◌&&◌, Bool, true, false, List, Option, Some, None, arith}
use Rattle.std.proofs.lemmas.Bool.Decides.{nat_tests}
use Rattle.pcl_base.specs.Limits.{Sizes}
use Rattle.text_rules.specs.StoredPage.{PageAt}
use Rattle.run_rules.specs.Base.{BasePage, Base, version_at, bytes_at}
use Rattle.run_rules.specs.Disk.{Disk}
use Rattle.run_rules.specs.Durable.{is_page_of, first_lost, fault_against, durable_fault}
use Rattle.run_rules.specs.Redo.{redo}
use Rattle.run_rules.specs.Views.{count_from}
use Rattle.run_rules.specs.Words.{pick as pick_rule, same_bytes}
use Rattle.std.specs.Cmp.Lexicographic.{bytes_decides}
use Rattle.page_laws.specs.Storage.Redone.{KeptIsDurable}
use Rattle.page_laws.proofs.StorageParts.Redos.{redone_is_current_law}

same_test : (xs : List ℕ) → same_bytes xs xs ≡ true
same_test xs = (bytes_decides xs xs).1 refl

both_true : (a b : Bool) → a ≡ true → b ≡ true → (a && b) ≡ true
both_true true b e f = f
both_true false b e f = e

none_lost : (c : Sizes) (d : Disk) (base : Base) (n a : ℕ) → ((p : ℕ) → a ≤ p → p < a + n → redo c d p ≡ Some (record { version = version_at base p; bytes = bytes_at base p }))
    → first_lost c d base (count_from a n) ≡ None
unfolding first_lost count_from
none_lost c d base zero a each = refl
none_lost c d base (suc n) a each =
    let version : (version_at base a == version_at base a) ≡ true = grind (arith, nat_tests) in
    ap (λ (o : Option PageAt). pick_rule (is_page_of base a o) (first_lost c d base (count_from (a + 1) n)) (Some a)) (each a (omega arith) (omega arith))
    ∙ ap (λ b. pick_rule b (first_lost c d base (count_from (a + 1) n)) (Some a)) (both_true (version_at base a == version_at base a) _ version (same_test (bytes_at base a)))
    ∙ none_lost c d base n (a + 1) (λ p low high. each p (omega (arith, low)) (omega (arith, high)))

pub kept_is_durable_law : KeptIsDurable
unfolding durable_fault
kept_is_durable_law c trace d base count known kept =
    ap (fault_against c d) known
    ∙ none_lost c d base c.pages 0
    (λ p low high.
    let one = kept p (omega (arith, high)) in
    (redone_is_current_law c d p one.page count one.stored one.durable).1
    ∙ ap (λ (x : BasePage). let o : Option PageAt = Some (record { version = x.version; bytes = x.bytes }) in o) (sym one.current_is))
