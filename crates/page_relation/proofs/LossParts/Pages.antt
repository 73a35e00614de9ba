-- The pages of a cluster, each of which the machine leads on.
use Rattle.std.proofs.Common.{◌≡◌, refl, sym, subst, ◌∙◌, ℕ, ◌<◌, nat_lt, Bool, true, false, List, lt-ltb, ltb-true}
use Rattle.pcl_base.specs.Limits.{Sizes}
use Rattle.cluster_rules.specs.Clusters.{Cluster}
use Rattle.page_protocol.specs.State.{Page}
use Rattle.page_protocol.specs.Steps.{Run, Reached}
use Rattle.page_protocol.proofs.Keeps.{and_then}
use Rattle.page_relation.specs.Relation.{IsPageOf}
use Rattle.page_relation.specs.Together.{HasPages}
use Rattle.page_relation.specs.Loss.Leads.{LeadsTo}

pub reached_on : (blank : List ℕ) (a b : Page) → Reached blank a → Run a b → Reached blank b
reached_on blank a b r run = (r.0, r.1, and_then r.2 run)

-- a state that the machine leads to, of a page of the database
record Chosen (blank : List ℕ) (c d : Cluster) (p : ℕ) : Type 0 where
  page : Page
  reached : p < c.config.pages → Reached blank page
  related : p < c.config.pages → IsPageOf d p page

pub pages_lead : (blank : List ℕ) (c d : Cluster) (h : HasPages blank c) → d.config ≡ c.config → ((p : ℕ) → p < c.config.pages → LeadsTo (h.page p) d p) → HasPages blank d
pages_lead blank c d h same leads =
    record {
      page = λ p. (chosen p).page;
      reached = λ p low. (chosen p).reached (subst (λ (k : Sizes). p < k.pages) same low);
      related = λ p low. (chosen p).related (subst (λ (k : Sizes). p < k.pages) same low);
    }
  where
    by : (p : ℕ) (b : Bool) → nat_lt p c.config.pages ≡ b → Chosen blank c d p
    by p true e =
        let low = ltb-true p c.config.pages e in
        let to = leads p low in
        record { page = to.page; reached = λ l. reached_on blank (h.page p) to.page (h.reached p low) to.run; related = λ l. to.related }
    by p false e =
        record {
          page = h.page p;
          reached = λ l. (let bad : true ≡ false = sym (lt-ltb p c.config.pages l) ∙ e in absurd (cc));
          related = λ l. (let bad : true ≡ false = sym (lt-ltb p c.config.pages l) ∙ e in absurd (cc));
        }

    chosen : (p : ℕ) → Chosen blank c d p
    chosen p = by p (nat_lt p c.config.pages) refl
