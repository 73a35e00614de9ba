-- The pages that a plan writes.
use Rattle.std.proofs.Common.{◌≡◌, refl, sym, ap, ◌∙◌, ℕ, suc, ◌<◌, ◌≤◌, ◌==◌, not, cond, nat_lt, Bool, true, false, List, [], ◌∷◌, ◌++◌, length, map, is_some, Some, None, arith, subst}
use Rattle.std.specs.Prelude.{IfOk}
use Rattle.std.specs.List.{filter}
use Rattle.std.proofs.lemmas.Bool.Decides.{nat_tests}
use Rattle.pcl_base.specs.Limits.{Sizes}
use Rattle.text_rules.specs.StoredPage.{PageAt, stored_bytes}
use Rattle.run_rules.specs.Words.{pick}
use Rattle.run_rules.specs.Disk.{Disk}
use Rattle.run_rules.specs.Redo.{all_records, redone}
use Rattle.partition_redo.specs.declared.site.Site.{Site}
use Rattle.partition_redo.specs.declared.site.Chain.{Chain}
use Rattle.partition_redo.specs.Chains.{IsChain, IsNewer, has_sites, written_pages}
use Rattle.partition_redo.specs.Writes.{write_of, page_write}
use Rattle.partition_redo.specs.Plans.{NewerAreWritten}
use Rattle.partition_redo.proofs.Applying.{redone_is}

-- one more chain, and the first one
pub written_more : (xs : List Chain) (x : Chain) → written_pages (x ∷ xs) ≡ written_pages (x ∷ []) ++ written_pages xs
written_more xs x = one (has_sites x)
  where
    one : (b : Bool) → map (λ (y : Chain). y.page) (cond b (x ∷ filter has_sites xs) (filter has_sites xs)) ≡ map (λ (y : Chain). y.page) (cond b (x ∷ []) []) ++ written_pages xs
    one true = refl
    one false = refl

pub written_one : (x : Chain) (b : Bool) → (length x.sites == 0) ≡ b → written_pages (x ∷ []) ≡ cond b [] (x.page ∷ [])
written_one x true is = ap (λ (t : Bool). map (λ (y : Chain). y.page) (cond (not t) (x ∷ []) [])) is
written_one x false is = ap (λ (t : Bool). map (λ (y : Chain). y.page) (cond (not t) (x ∷ []) [])) is

-- a version that is the same as another one, against a third
not_above : (low new v : ℕ) → new ≡ v → v ≤ low → nat_lt low new ≡ false
not_above low new v same most = grind (arith, nat_tests)

is_above : (low new v : ℕ) → new ≡ v → low < v → nat_lt low new ≡ true
is_above low new v same less = grind (arith, nat_tests)

some : (n : ℕ) → (suc n == 0) ≡ false
some n = grind (arith, nat_tests)

-- redo writes something of the page of a chain exactly where the chain has entries
chain_written : (c : Sizes) (d : Disk) (x : Chain) → IsChain c d x → IsNewer d x → is_some (page_write (all_records c d) d.pages x.page) ≡ has_sites x
chain_written c d x h newer =
    ap (λ r. is_some (write_of (all_records c d) x.page r)) h.stored ∙ by_sites x.sites refl
  where
    version : (redone (all_records c d) x.page h.old).version ≡ x.version
    version = ap (λ (a : PageAt). a.version) (redone_is c d x.page h.old h.new h.stored h.redone) ∙ h.version

    tested : (b : Bool) → nat_lt h.old.version (redone (all_records c d) x.page h.old).version ≡ b
        → is_some (pick (nat_lt h.old.version (redone (all_records c d) x.page h.old).version) (Some (stored_bytes x.page (redone (all_records c d) x.page h.old))) None) ≡ b
    tested true is = ap (λ (t : Bool). is_some (pick t (Some (stored_bytes x.page (redone (all_records c d) x.page h.old))) None)) is
    tested false is = ap (λ (t : Bool). is_some (pick t (Some (stored_bytes x.page (redone (all_records c d) x.page h.old))) None)) is

    by_sites : (ss : List Site) → x.sites ≡ ss
        → is_some (pick (nat_lt h.old.version (redone (all_records c d) x.page h.old).version) (Some (stored_bytes x.page (redone (all_records c d) x.page h.old))) None) ≡ has_sites x
    by_sites [] is =
        tested false (not_above h.old.version _ x.version version (h.fresh is)) ∙ sym (ap (λ (ss : List Site). not (length ss == 0)) is)
    by_sites (s ∷ ss) is =
        let has : has_sites x ≡ true = ap (λ (rs : List Site). not (length rs == 0)) is ∙ ap not (some (length ss)) in
        let less : h.old.version < x.version = subst (λ r. IfOk r (λ (old : PageAt). old.version < x.version)) h.stored (newer has) in
        tested true (is_above h.old.version _ x.version version less) ∙ sym has

pub newer_are_written : NewerAreWritten
newer_are_written c d [] all newer = refl
newer_are_written c d (x ∷ xs) all newer =
    ap (λ (b : Bool). map (λ (y : Chain). y.page) (cond b (x ∷ filter has_sites xs) (filter has_sites xs))) (sym (chain_written c d x all.0 newer.0))
    ∙ by_write (is_some (page_write (all_records c d) d.pages x.page)) (newer_are_written c d xs all.1 newer.1)
  where
    rest : List ℕ
    rest = filter (λ p. is_some (page_write (all_records c d) d.pages p)) (map (λ (y : Chain). y.page) xs)

    by_write : (b : Bool) → written_pages xs ≡ rest → map (λ (y : Chain). y.page) (cond b (x ∷ filter has_sites xs) (filter has_sites xs)) ≡ cond b (x.page ∷ rest) rest
    by_write true same = ap (λ (ps : List ℕ). x.page ∷ ps) same
    by_write false same = same
