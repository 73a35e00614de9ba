-- The redo of all pages of a partition, whose table is being rebuilt.
use Rattle.std.proofs.Common.{◌≡◌, ◌≢◌, ◌⊎◌, inl, inr, refl, ap, sym, subst, ◌∙◌, ℕ, ◌<◌, ◌==◌, nat_lt, Bool, true, false, List, [], ◌∷◌, Option, Some, Contains, arith, eqb-true}
use Rattle.std.proofs.lemmas.Bool.Decides.{nat_tests}
use Rattle.pcl_base.specs.declared.event.Event.{Event}
use Rattle.text_rules.specs.StoredPage.{PageAt, stored_bytes}
use Rattle.run_rules.specs.Redo.{redone}
use Rattle.node_rules.specs.BufferRule.{copy_at, cleaned}
use Rattle.node_rules.specs.DiskCalls.{WritePage}
use Rattle.node_rules.specs.InstallRule.{redo_page, redo_to, version_of_page, write_newer}
use Rattle.node_rules.specs.LockTable.{LockTable, entry_at, set_version}
use Rattle.node_rules.specs.NodeState.{partition, table_at}
use Rattle.node_rules.specs.Words.{pick}
use Rattle.node_rules.specs.Work.{Outcome, Work, Goes, Differs, and_so, and_then, for_each, read_page, work_of_home}
use Rattle.rule_laws.proofs.Lists.{contains_none, contains_split}
use Rattle.cluster_rules.specs.Clusters.{Cluster}
use Rattle.page_laws.proofs.EntryParts.Tabled.{tables_are_seen_law}
use Rattle.page_laws.specs.Look.Buffers.{IsCleaned}
use Rattle.page_laws.proofs.LookParts.Copies.{cleaning_is_seen_law}
use Rattle.page_protocol.specs.State.{Page}
use Rattle.page_protocol.specs.Steps.{Reached, here}
use Rattle.page_protocol.proofs.Keeps.{and_then as runs_then}
use Rattle.page_relation.specs.Work.Keeping.{IsWorkOf}
use Rattle.page_relation.specs.Work.Landing.{Acts}
use Rattle.page_relation.specs.Work.Rest.{SameRest}
use Rattle.page_relation.specs.Work.Unseen.{SameEntry, SameTable}
use Rattle.page_relation.proofs.WorkParts.Framing.{unseen_is_kept_law}
use Rattle.page_relation.proofs.WorkParts.Kept.{reached_on}
use Rattle.page_relation.proofs.WorkParts.Quiet.{calls_elsewhere_law, homes_elsewhere_law, tables_elsewhere_law}
use Rattle.page_relation.proofs.WorkParts.Storing.{page_beside}
use Rattle.settle_relation.proofs.Deciding.{put_there}
use Rattle.report_relation.specs.Redoing.{IsRedone, MayRedo, RedoIsRelated, RedoLeads, records}
use Rattle.report_relation.proofs.Restored.{own_leads, redo_is, redone_may, redone_to, wrote_to}

same_itself : (a : Page) → SameRest a a
same_itself a =
    record { now = refl; hist = refl; reached = refl; right = refl; home = refl; script = refl; image = refl; era = refl; owner = refl; served = refl; entry = refl; sent = refl; listed = refl }

same_then : (a b d : Page) → SameRest a b → SameRest b d → SameRest a d
same_then a b d f g =
    record {
      now = g.now ∙ f.now;
      hist = g.hist ∙ f.hist;
      reached = g.reached ∙ f.reached;
      right = g.right ∙ f.right;
      home = g.home ∙ f.home;
      script = g.script ∙ f.script;
      image = g.image ∙ f.image;
      era = g.era ∙ f.era;
      owner = g.owner ∙ f.owner;
      served = g.served ∙ f.served;
      entry = g.entry ∙ f.entry;
      sent = g.sent ∙ f.sent;
      listed = g.listed ∙ f.listed;
    }

module _ (c : Cluster) (e : Event) (n p : ℕ) (acts : Acts c n) (low : p < c.config.pages) where
  abbrev q : ℕ
  q = partition c.config p

  -- ---- another page

  module _ (r : ℕ) (other : (r == p) ≡ false) (w : Work) (a : Page) (may : MayRedo c n q w a) where
    entry_other : (at : PageAt) → entry_at (set_version may.table r at.version) p ≡ entry_at may.table p
    entry_other at =
        (tables_are_seen_law may.table).put r (record (entry_at may.table r) { version = at.version }) p
        ∙ ap (λ (b : Bool). pick b (record (entry_at may.table r) { version = at.version }) (entry_at may.table p)) other

    wrote_related : (b : Bool) (at : PageAt) → IsWorkOf c e n p w a → IsWorkOf c e n p (wrote_to b r at w) a
    wrote_related false at is = is
    wrote_related true at is =
        unseen_is_kept_law c e n p w (wrote_to true r at w) a acts
        (homes_elsewhere_law c e n p w (write_newer true r at (work_of_home w)) seen.rest.life
        (page_beside p w.node.home (write_newer true r at (work_of_home w)).home seen.rest
        (seen.copies p ∙ ap (λ (b : Bool). pick b (cleaned (copy_at w.node.home.pool p)) (copy_at w.node.home.pool p)) other))
        (calls_elsewhere_law c n p w.calls (WritePage r (stored_bytes r at) ∷ []) (apart, tt))) is
      where
        seen : IsCleaned r w.node.home (write_newer true r at (work_of_home w)).home
        seen = cleaning_is_seen_law r w.node.home

        apart : p ≢ r
        apart same = absurd (grind (arith, nat_tests, other, same))

    redone_related : (b : Bool) (at : PageAt) → IsWorkOf c e n p w a → IsWorkOf c e n p (redone_to q r may.table at (wrote_to b r at w)) a
    redone_related b at is =
        unseen_is_kept_law c e n p (wrote_to b r at w) (redone_to q r may.table at (wrote_to b r at w)) a acts
        (tables_elsewhere_law c e n p q (Some (set_version may.table r at.version)) (wrote_to b r at w) (λ same. tables b)) (wrote_related b at is)
      where
        entries : SameEntry p may.table (set_version may.table r at.version)
        entries = record { serving = refl; entry = entry_other at; marks = λ m. refl }

        tables : (b : Bool) → SameTable p (table_at (wrote_to b r at w).node q) (Some (set_version may.table r at.version))
        tables true = subst (λ (o : Option LockTable). SameTable p o (Some (set_version may.table r at.version))) (sym may.there) entries
        tables false = subst (λ (o : Option LockTable). SameTable p o (Some (set_version may.table r at.version))) (sym may.there) entries

    still_redone : (b : Bool) (at : PageAt) → IsRedone q p w a → IsRedone q p (redone_to q r may.table at (wrote_to b r at w)) a
    still_redone b at old =
        record {
          disk = old.disk;
          entry =
              ap (λ (o : Option LockTable). version_of_page o p) (by b) ∙ ap (λ k. k.version) (entry_other at) ∙ sym (ap (λ (o : Option LockTable). version_of_page o p) may.there) ∙ old.entry;
        }
      where
        by : (b : Bool) → table_at (redone_to q r may.table at (wrote_to b r at w)).node q ≡ Some (set_version may.table r at.version)
        by true = put_there w.node.tables q may.table (Some (set_version may.table r at.version)) may.there
        by false = put_there w.node.tables q may.table (Some (set_version may.table r at.version)) may.there

    -- keeps the relation with the same state
    other_leads : (x : Work) → IsWorkOf c e n p w a → redo_page (records c) q r w ≡ Goes x → RedoLeads c e n p q (IsRedone q p w a) a x
    unfolding redo_page
    other_leads x is goes = by (read_page w.pages r) goes
      where
        of : (old : PageAt) → redo_to q r old (redone (records c) r old) w ≡ x → RedoLeads c e n p q (IsRedone q p w a) a x
        of old done =
            subst (λ (k : Work). RedoLeads c e n p q (IsRedone q p w a) a k) (sym (redo_is q r old (redone (records c) r old) may.table w may.there) ∙ done)
            (let at : PageAt = redone (records c) r old in
            let b : Bool = nat_lt old.version at.version in
            record { page = a; run = here; same = same_itself a; related = redone_related b at is; may = redone_may c n w q r b at a a may refl; done = still_redone b at })

        by : (o : Outcome PageAt) → and_so o (λ old. redo_to q r old (redone (records c) r old) w) ≡ Goes x → RedoLeads c e n p q (IsRedone q p w a) a x
        by (Goes old) done = of old (cc)
        by (Differs k expected found) done = absurd (cc)

  -- ---- one page after the other

  each_leads : (rs : List ℕ) (blank : List ℕ) (w x : Work) (a : Page) → Reached blank a → MayRedo c n q w a → IsWorkOf c e n p w a → for_each (redo_page (records c) q) rs w ≡ Goes x
      → RedoLeads c e n p q (IsRedone q p w a ⊎ Contains rs p) a x
  unfolding for_each
  each_leads [] blank w x a reached may is goes =
      let same : w ≡ x = cc in
      subst (λ (k : Work). RedoLeads c e n p q (IsRedone q p w a ⊎ Contains [] p) a k) same
      (record { page = a; run = here; same = same_itself a; related = is; may = may; done = λ d. elim d [ inl old ↦ old | inr inside ↦ absurd (contains_none p inside) ] })
  each_leads (r ∷ rs) blank w x a reached may is goes = by (redo_page (records c) q r w) refl goes (λ y d. each_leads rs blank y x d)
    where
      joined : (y : Work) (D2 : Type 0) (first : RedoLeads c e n p q D2 a y) → ((IsRedone q p w a ⊎ Contains (r ∷ rs) p) → IsRedone q p y first.page ⊎ Contains rs p)
          → RedoLeads c e n p q (IsRedone q p y first.page ⊎ Contains rs p) first.page x → RedoLeads c e n p q (IsRedone q p w a ⊎ Contains (r ∷ rs) p) a x
      joined y D2 first to rest =
          record {
            page = rest.page;
            run = runs_then first.run rest.run;
            same = same_then a first.page rest.page first.same rest.same;
            related = rest.related;
            may = rest.may;
            done = λ d. rest.done (to d);
          }

      by : (o : Outcome Work) → redo_page (records c) q r w ≡ o → and_then o (for_each (redo_page (records c) q) rs) ≡ Goes x
          → ((y : Work) (d : Page) → Reached blank d → MayRedo c n q y d → IsWorkOf c e n p y d → for_each (redo_page (records c) q) rs y ≡ Goes x
          → RedoLeads c e n p q (IsRedone q p y d ⊎ Contains rs p) d x)
          → RedoLeads c e n p q (IsRedone q p w a ⊎ Contains (r ∷ rs) p) a x
      by (Differs k expected found) is_so done further = absurd (cc)
      by (Goes y) is_so done further = of (r == p) refl
        where
          of : (b : Bool) → (r == p) ≡ b → RedoLeads c e n p q (IsRedone q p w a ⊎ Contains (r ∷ rs) p) a x
          of true same =
              let first : RedoLeads c e n p q (IsRedone q p w a ⊎ Contains (r ∷ rs) p) a y =
              own_leads c e n p blank w a acts low reached may is (IsRedone q p w a ⊎ Contains (r ∷ rs) p) y (subst (λ (k : ℕ). redo_page (records c) q k w ≡ Goes y) (eqb-true r p same) is_so) in
              joined y (IsRedone q p w a ⊎ Contains (r ∷ rs) p) first (λ d. inl (first.done d)) (further y first.page (reached_on blank a first.page reached first.run) first.may first.related done)
          of false other =
              let first : RedoLeads c e n p q (IsRedone q p w a) a y = other_leads r other w a may y is is_so in
              joined y (IsRedone q p w a) first
              (λ d. elim d [
                | inl old ↦ inl (first.done old)
                | inr inside ↦
                    elim (contains_split r p rs inside) [
                      | inl same ↦ (let is_same : (r == p) ≡ true = grind (arith, nat_tests, same) in absurd (cc))
                      | inr later ↦ inr later
                    ]
              ])
              (further y first.page (reached_on blank a first.page reached first.run) first.may first.related done)

pub redo_is_related_law : RedoIsRelated
redo_is_related_law c e n p rs blank w x a acts low reached may is goes = each_leads c e n p acts low rs blank w x a reached may is goes
