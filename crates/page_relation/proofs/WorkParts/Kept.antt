-- How operations that keep the relation are put together.
use Rattle.std.proofs.Common.{◌≡◌, refl, subst, ◌∙◌, ℕ, List, [], ◌∷◌}
use Rattle.std.specs.List.{AllByRecursion}
use Rattle.pcl_base.specs.declared.event.Event.{Event}
use Rattle.node_rules.specs.Work.{Work, Outcome, Goes, Differs, and_then, and_so, for_each}
use Rattle.cluster_rules.specs.Clusters.{Cluster}
use Rattle.page_protocol.specs.State.{Page}
use Rattle.page_protocol.specs.Steps.{Run, Reached, here}
use Rattle.page_protocol.proofs.Keeps.{and_then as runs_then}
use Rattle.page_relation.specs.Work.Keeping.{Leads, Keeps}

-- a state that a run leads to is reached
pub reached_on : (blank : List ℕ) (a b : Page) → Reached blank a → Run a b → Reached blank b
reached_on blank a b reached more = (reached.0, reached.1, runs_then reached.2 more)

module _ (c : Cluster) (e : Event) (n p : ℕ) where
  -- a further run
  pub leads_on : (Last : Work → Page → Type 0) (a b : Page) (x : Work) → Run a b → Leads c e n p Last b x → Leads c e n p Last a x
  leads_on Last a b x run more = record { page = more.page; run = runs_then run more.run; related = more.related; known = more.known }

  -- nothing at all
  pub nothing_keeps : (Known : Work → Page → Type 0) → Keeps c e n p Known Goes Known
  nothing_keeps Known blank w x a reached related known goes =
      let same : w ≡ x = cc in
      subst (λ (y : Work). Leads c e n p Known a y) same (record { page = a; run = here; related = related; known = known })

  -- two operations, one after the other
  pub two_keep : (First Between Last : Work → Page → Type 0) (f g : Work → Outcome Work) → Keeps c e n p First f Between → Keeps c e n p Between g Last
      → Keeps c e n p First (λ w. and_then (f w) g) Last
  two_keep First Between Last f g kf kg blank w x a reached related known goes = by (f w) refl goes
    where
      by : (o : Outcome Work) → f w ≡ o → and_then o g ≡ Goes x → Leads c e n p Last a x
      by (Goes m) is after =
          let first = kf blank w m a reached related known is in
          leads_on Last a first.page x first.run (kg blank m x first.page (reached_on blank a first.page reached first.run) first.related first.known after)
      by (Differs q expected found) is after = absurd (cc)

  -- an operation and a change with which nothing differs
  pub changed_keep : (First Between Last : Work → Page → Type 0) (f : Work → Outcome Work) (g : Work → Work) → Keeps c e n p First f Between
      → Keeps c e n p Between (λ w. Goes (g w)) Last → Keeps c e n p First (λ w. and_so (f w) g) Last
  changed_keep First Between Last f g kf kg blank w x a reached related known goes =
      two_keep First Between Last f (λ w. Goes (g w)) kf kg blank w x a reached related known (same (f w) ∙ goes)
    where
      same : (o : Outcome Work) → and_then o (λ w. Goes (g w)) ≡ and_so o g
      same (Goes m) = refl
      same (Differs q expected found) = refl

  -- one for each item of a list
  pub each_keeps : (X : Type 0) (Known : Work → Page → Type 0) (f : X → Work → Outcome Work) (xs : List X) → AllByRecursion (λ x. Keeps c e n p Known (f x) Known) xs
      → Keeps c e n p Known (for_each f xs) Known
  unfolding for_each
  each_keeps X Known f [] all = nothing_keeps Known
  each_keeps X Known f (x ∷ xs) all = two_keep Known Known Known (f x) (for_each f xs) all.0 (each_keeps X Known f xs all.1)

  -- with more known before, and less after
  pub fewer_keep : (First Before After Last : Work → Page → Type 0) (f : Work → Outcome Work) → ((w : Work) (a : Page) → First w a → Before w a)
      → ((w : Work) (a : Page) → After w a → Last w a) → Keeps c e n p Before f After → Keeps c e n p First f Last
  fewer_keep First Before After Last f more less keeps blank w x a reached related known goes =
      let led = keeps blank w x a reached related (more w a known) goes in
      record { page = led.page; run = led.run; related = led.related; known = less x led.page led.known }
