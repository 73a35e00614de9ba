-- A work of an install before and after it comes to the partition of a page.
use Rattle.std.proofs.Common.{◌≡◌, ◌≢◌, refl, sym, ap, subst, ◌∙◌, ℕ, suc, zero, ◌+◌, ◌<◌, ◌≤◌, ◌==◌, ◌||◌, Bool, true, false, List, [], length, slice_index_or, Option, Some, None, arith}
use Rattle.std.specs.Prelude.{⊤}
use Rattle.std.specs.List.{AllByRecursion}
use Rattle.std.proofs.lemmas.Bool.Decides.{nat_tests}
use Rattle.std.proofs.lemmas.List.{get_or-set_other}
use Rattle.pcl_base.specs.Limits.{Sizes}
use Rattle.text_rules.specs.MessageBytes as bytes
use Rattle.run_rules.specs.Disk.{Disk, raw_page}
use Rattle.run_rules.specs.Views.{View, count_from}
use Rattle.node_rules.specs.DiskCalls.{DiskCall}
use Rattle.node_rules.specs.LockTable.{LockTable, pages_of}
use Rattle.node_rules.specs.NodeState.{partition}
use Rattle.node_rules.specs.Work.{Outcome, Goes, Differs}
use Rattle.step_laws.proofs.Outcomes.{On}
use Rattle.node_laws.proofs.Lists.{all_weaker, set_length}
use Rattle.node_laws.proofs.Tables.{pages_are}
use Rattle.cluster_laws.proofs.Lists.{all_any}
use Rattle.page_protocol.specs.State.{Page}
use Rattle.related_runs.proofs.PageLists.{has_page, ArePages}
use Rattle.page_relation.specs.Loss.Writes.{NoWrites, MayWrite}
use Rattle.page_relation.proofs.LossParts.Dirty.{none_more}
use Rattle.whole_runs.proofs.HaltParts.Resting.{Asked, IsFree}
use Rattle.whole_runs.proofs.HaltParts.Walked.{may_more}

-- sizes, number and view stay
pub record Stays (k : Sizes) (n : ℕ) (v : View) (calls : List DiskCall) (pages : List (List ℕ)) (tables : List (Option LockTable)) (sizes : Sizes) (me : ℕ) (seen : Option View) : Type 0 where
  pub config : sizes ≡ k
  pub number : me ≡ n
  pub view : seen ≡ Some v

-- the page was not written, and the table of its partition is the old one
pub record Waits (k : Sizes) (d : Disk) (p n : ℕ) (old : List (Option LockTable)) (v : View) (calls : List DiskCall) (pages : List (List ℕ)) (tables : List (Option LockTable)) (sizes : Sizes) (me : ℕ) (seen : Option View) : Type 0 where
  pub page : raw_page pages p ≡ raw_page d.pages p
  pub none : NoWrites p calls
  pub table : slice_index_or tables (partition k p) None ≡ slice_index_or old (partition k p) None
  pub room : length tables ≡ length old
  pub stays : Stays k n v calls pages tables sizes me seen

-- what was written is what may be
abbrev pub Past : Page → ℕ → Sizes → ℕ → View → Asked
Past a p k n v calls pages tables sizes me seen = MayWrite a p n calls × Stays k n v calls pages tables sizes me seen

-- a page of a partition other than this one's
abbrev Other : Sizes → ℕ → ℕ → ℕ → Type 0
Other k p q x = (x ≢ p) × (partition k x ≡ q)

others : (k : Sizes) (p q : ℕ) → q < k.nodes → q ≢ partition k p → (config : Sizes) → config ≡ k → AllByRecursion (Other k p q) (pages_of config q)
others k p q low other config same =
    subst (λ (x : Sizes). AllByRecursion (Other k p q) (pages_of x q)) (sym same)
    (all_weaker (bytes.IsPageOf k q) (Other k p q) (λ x of. ((λ here. other (sym of.1 ∙ ap (partition k) here)), of.1)) (pages_of k q) (pages_are k q low))

pub stays_free : (k : Sizes) (n : ℕ) (v : View) (q : ℕ) → IsFree (Stays k n v) q (λ (x : ℕ). ⊤)
stays_free k n v q =
    record {
      pages = λ w i. all_any (pages_of w.node.home.config q);
      settles = λ x t w f i. record { config = i.config; number = i.number; view = i.view };
      tables = λ o w i. record { config = i.config; number = i.number; view = i.view };
      writes = λ x b w f i. record { config = i.config; number = i.number; view = i.view };
    }

pub past_free : (a : Page) (p : ℕ) (k : Sizes) (n : ℕ) (v : View) (q : ℕ) → q < k.nodes → q ≢ partition k p → IsFree (Past a p k n v) q (Other k p q)
past_free a p k n v q low other =
    record {
      pages = λ w i. others k p q low other w.node.home.config i.1.config;
      settles = λ x t w f i. (i.0, record { config = i.1.config; number = i.1.number; view = i.1.view });
      tables = λ o w i. (i.0, record { config = i.1.config; number = i.1.number; view = i.1.view });
      writes = λ x b w f i. (may_more a p n x b w.calls f.0 i.0, record { config = i.1.config; number = i.1.number; view = i.1.view });
    }

pub waits_free : (k : Sizes) (d : Disk) (p n : ℕ) (old : List (Option LockTable)) (v : View) (q : ℕ) → q < k.nodes → q ≢ partition k p → IsFree (Waits k d p n old v) q (Other k p q)
waits_free k d p n old v q low other =
    record {
      pages = λ w i. others k p q low other w.node.home.config i.stays.config;
      settles = λ x t w f i. record {
        page = i.page;
        none = i.none;
        table =
            get_or-set_other w.node.tables (partition w.node.home.config x) (partition k p) (Some t) None
            (λ same. other (sym f.1 ∙ ap (λ (c : Sizes). partition c x) (sym i.stays.config) ∙ sym same)) ∙ i.table;
        room = set_length w.node.tables (partition w.node.home.config x) (Some t) ∙ i.room;
        stays = record { config = i.stays.config; number = i.stays.number; view = i.stays.view };
      };
      tables = λ o w i. record {
        page = i.page;
        none = i.none;
        table = get_or-set_other w.node.tables q (partition k p) o None (λ same. other (sym same)) ∙ i.table;
        room = set_length w.node.tables q o ∙ i.room;
        stays = record { config = i.stays.config; number = i.stays.number; view = i.stays.view };
      };
      writes = λ x b w f i. record {
        page = get_or-set_other w.pages x p b [] (λ same. f.0 (sym same)) ∙ i.page;
        none = none_more p x b w.calls f.0 i.none;
        table = i.table;
        room = i.room;
        stays = record { config = i.stays.config; number = i.stays.number; view = i.stays.view };
      };
    }

-- two facts of a value
pub on_both : {X : Type 0} (P Q : X → Type 0) (o : Outcome X) → On P o → On Q o → On (λ x. P x × Q x) o
on_both P Q (Goes x) a b = (a, b)
on_both P Q (Differs p e d) a b = tt

-- numbers in a row
below_none : (q a n : ℕ) → q < a → has_page (count_from a n) q ≡ false
unfolding count_from
below_none q a zero low = refl
below_none q a (suc n) low = by (a == q) refl (below_none q (a + 1) n (omega (arith, low)))
  where
    by : (b : Bool) → (a == q) ≡ b → has_page (count_from (a + 1) n) q ≡ false → (b || has_page (count_from (a + 1) n) q) ≡ false
    by true e rest = absurd (grind (arith, nat_tests, e, low))
    by false e rest = rest

pub counted_once : (a n : ℕ) → ArePages (count_from a n)
unfolding count_from
counted_once a zero = tt
counted_once a (suc n) = (below_none a (a + 1) n (omega arith), counted_once (a + 1) n)

pub counted_low : (top a n : ℕ) → a + n ≤ top → AllByRecursion (λ (x : ℕ). x < top) (count_from a n)
unfolding count_from
counted_low top a zero low = tt
counted_low top a (suc n) low = (omega (arith, low), counted_low top (a + 1) n (omega (arith, low)))
