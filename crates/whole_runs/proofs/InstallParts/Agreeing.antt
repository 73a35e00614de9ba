-- Operations of several pages, of which none differs.
use Rattle.std.proofs.Common.{◌≡◌, refl, ℕ, List, [], ◌∷◌}
use Rattle.std.specs.List.{AllByRecursion}
use Rattle.pcl_base.specs.declared.event.Event.{Event}
use Rattle.node_rules.specs.Work.{Differs, Goes, Outcome, Work, and_then, for_each}
use Rattle.cluster_rules.specs.Clusters.{Cluster}
use Rattle.page_protocol.specs.State.{Page}
use Rattle.page_protocol.specs.Steps.{Reached}
use Rattle.page_relation.specs.Work.Keeping.{IsWorkOf, Leads}
use Rattle.page_relation.proofs.WorkParts.Kept.{reached_on}

-- one of two differs
pub differs_in : {X : Type 0} (o : Outcome X) (f : X → Outcome X) (k expected found : ℕ) → and_then o f ≡ Differs k expected found
    → ((k expected found : ℕ) → o ≡ Differs k expected found → ⊥) → ((x : X) → o ≡ Goes x → f x ≡ Differs k expected found → ⊥) → ⊥
differs_in (Goes x) f k expected found is first rest = rest x refl is
differs_in (Differs q d g) f k expected found is first rest = first q d g refl

-- a state of a page, of which something is known with the work
pub record HasState (blank : List ℕ) (c : Cluster) (e : Event) (n p : ℕ) (Known : Work → Page → Type 0) (w : Work) : Type 0 where
  pub page : Page
  pub reached : Reached blank page
  pub related : IsWorkOf c e n p w page
  pub known : Known w page

pub led_to : (blank : List ℕ) (c : Cluster) (e : Event) (n p : ℕ) (Known : Work → Page → Type 0) (a : Page) (x : Work) → Reached blank a → Leads c e n p Known a x → HasState blank c e n p Known x
led_to blank c e n p Known a x reached to = record { page = to.page; reached = reached_on blank a to.page reached to.run; related = to.related; known = to.known }

-- Where each page of a list has a state, none differs, if an operation of one keeps all states and doesn't differ at its own.
module _ (S : Work → Type 0) (L : ℕ → Type 0) (f : ℕ → Work → Outcome Work) (agrees : (r : ℕ) (w : Work) → L r → S w → (k expected found : ℕ) → f r w ≡ Differs k expected found → ⊥)
    (keeps : (r : ℕ) (w x : Work) → L r → S w → f r w ≡ Goes x → S x) where
  pub all_agree : (rs : List ℕ) → AllByRecursion L rs → (w : Work) → S w → (k expected found : ℕ) → for_each f rs w ≡ Differs k expected found → ⊥
  unfolding for_each
  all_agree [] all w s k expected found is = absurd (cc)
  all_agree (r ∷ rs) all w s k expected found is =
      differs_in (f r w) (for_each f rs) k expected found is (agrees r w all.0 s) (λ x goes more. all_agree rs all.1 x (keeps r w x all.0 s goes) k expected found more)
