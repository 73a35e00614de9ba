-- The redo of one page of a partition for lost nodes.
use Rattle.std.proofs.Common.{◌≡◌, refl, ap, sym, subst, ◌∙◌, ℕ, ◌<◌, ◌==◌, nat_lt, Bool, true, false, List, Option, eqb-true}
use Rattle.pcl_base.specs.declared.event.Event.{Event}
use Rattle.pcl_base.specs.declared.log.Record.{Record}
use Rattle.text_rules.specs.StoredPage.{PageAt}
use Rattle.run_rules.specs.Redo.{all_records, greatest, records_in, redone}
use Rattle.node_rules.specs.InstallRule.{redo_if, redo_lost, redo_page, redo_to, version_of_page}
use Rattle.node_rules.specs.LockTable.{LockTable}
use Rattle.node_rules.specs.NodeState.{partition, table_at}
use Rattle.node_rules.specs.Work.{Differs, Goes, Outcome, Work, and_so, read_page}
use Rattle.cluster_rules.specs.Clusters.{Cluster}
use Rattle.cluster_laws.specs.Era.Eras.{era_in}
use Rattle.page_protocol.specs.State.{Page}
use Rattle.page_protocol.specs.Steps.{Reached, here}
use Rattle.page_relation.specs.Tables.{TableIs}
use Rattle.page_laws.specs.Storage.Machine.{TellsEntry}
use Rattle.page_laws.proofs.StorageParts.AsSteps.{greatest_tells_entry_law}
use Rattle.page_relation.specs.Work.Keeping.{IsWorkOf, Leads}
use Rattle.page_relation.specs.Work.Landing.{Acts, disk_of}
use Rattle.page_relation.proofs.WorkParts.Framing.{unseen_is_kept_law}
use Rattle.page_relation.proofs.WorkParts.Storing.{IsHere, stored_is}
use Rattle.kept_relation.specs.Redoing.{IsRedone, MayRedo}
use Rattle.kept_relation.proofs.OwnRedo.{redo_leads}
use Rattle.kept_relation.proofs.Purged.{own_table}
use Rattle.kept_relation.proofs.Redoes.{records_same, redo_may, redo_unseen, same_self}

redo_opens : (rs : List Record) (q r : ℕ) (w : Work) → redo_page rs q r w ≡ and_so (read_page w.pages r) (λ old. redo_to q r old (redone rs r old) w)
unfolding redo_page
redo_opens rs q r w = refl

module _ (c : Cluster) (e : Event) (n p : ℕ) (lost : List ℕ) (first : Work) (start : Page) (acts : Acts c n) (low : p < c.config.pages) where
  abbrev q : ℕ
  q = partition c.config p

  abbrev lost_records : List Record
  lost_records = records_in c.config c.disk lost

  abbrev records : List Record
  records = all_records c.config c.disk

  abbrev one : ℕ → Work → Outcome Work
  one r w = redo_lost lost_records records q r w

  -- the page itself
  own_leads : (blank : List ℕ) (w x : Work) (a : Page) → Reached blank a → IsWorkOf c e n p w a → MayRedo c n q first start w a → one p w ≡ Goes x → Leads c e n p (IsRedone c n q lost first start) a x
  own_leads blank w x a reached related i goes = by (nat_lt (version_of_page (table_at w.node q) p) (greatest lost_records p)) refl goes
    where
      mine : TableIs a p n (era_in w.node.view q) true i.table
      mine = own_table c e n p i.table w a true acts i.there i.serving related

      h : IsHere c e n p w a
      h = record { acts = acts; low = low; blank = blank; reached = reached; related = related; entered = i.entered }

      tells : TellsEntry lost a (greatest (records_in c.config (disk_of c n w) lost) p)
      tells = greatest_tells_entry_law c.config (disk_of c n w) p lost blank a reached mine.serves (stored_is c e n p w a related)

      same_test : nat_lt (version_of_page (table_at w.node q) p) (greatest lost_records p) ≡ nat_lt a.entry (greatest (records_in c.config (disk_of c n w) lost) p)
      same_test =
          ap (λ (o : Option LockTable). nat_lt (version_of_page o p) (greatest lost_records p)) i.there
          ∙ ap (λ (v : ℕ). nat_lt v (greatest lost_records p)) mine.version
          ∙ ap (λ (rs : List Record). nat_lt a.entry (greatest rs p)) (sym (records_same c.config c.disk (disk_of c n w) i.logs lost))

      by : (t : Bool) → nat_lt (version_of_page (table_at w.node q) p) (greatest lost_records p) ≡ t → redo_if t records q p w ≡ Goes x → Leads c e n p (IsRedone c n q lost first start) a x
      by true test done = redo_leads c e n p w a h i.table i.there i.serving first start i (tells.newer (sym same_test ∙ test)) lost x done
      by false test done =
          let same : w ≡ x = cc in
          subst (Leads c e n p (IsRedone c n q lost first start) a) same
          (record { page = a; run = here; related = related; known = record { may = i; none = tells.as_old (sym same_test ∙ test) } })

  -- another page
  other_leads : (r : ℕ) (w x : Work) (a : Page) → (r == p) ≡ false → IsWorkOf c e n p w a → MayRedo c n q first start w a → one r w ≡ Goes x → (IsWorkOf c e n p x a) × MayRedo c n q first start x a
  other_leads r w x a other related i goes = by (nat_lt (version_of_page (table_at w.node q) r) (greatest lost_records r)) goes
    where
      of : (o : Outcome PageAt) → and_so o (λ old. redo_to q r old (redone records r old) w) ≡ Goes x → (IsWorkOf c e n p x a) × MayRedo c n q first start x a
      of (Goes old) done =
          let same : redo_to q r old (redone records r old) w ≡ x = cc in
          subst (λ (k : Work). (IsWorkOf c e n p k a) × MayRedo c n q first start k a) same (
            unseen_is_kept_law c e n p w (redo_to q r old (redone records r old) w) a acts (redo_unseen c e n p r q i.table w i.there other old (redone records r old)) related,
            redo_may c n q first start r old (redone records r old) w a a i i.entered (same_self a),
          )
      of (Differs k expected found) done = absurd (cc)

      by : (t : Bool) → redo_if t records q r w ≡ Goes x → (IsWorkOf c e n p x a) × MayRedo c n q first start x a
      by true done = of (read_page w.pages r) (sym (redo_opens records q r w) ∙ done)
      by false done =
          let same : w ≡ x = cc in
          subst (λ (k : Work). (IsWorkOf c e n p k a) × MayRedo c n q first start k a) same (related, i)

  -- any page of the partition
  pub one_leads : (r : ℕ) (blank : List ℕ) (w x : Work) (a : Page) → Reached blank a → IsWorkOf c e n p w a → MayRedo c n q first start w a → one r w ≡ Goes x
      → Leads c e n p (λ y d. MayRedo c n q first start y d) a x
  one_leads r blank w x a reached related i goes = by (r == p) refl
    where
      by : (t : Bool) → (r == p) ≡ t → Leads c e n p (λ y d. MayRedo c n q first start y d) a x
      by true at =
          let led = own_leads blank w x a reached related i (subst (λ (k : ℕ). one k w ≡ Goes x) (eqb-true r p at) goes) in
          record { page = led.page; run = led.run; related = led.related; known = led.known.may }
      by false at = let done = other_leads r w x a at related i goes in record { page = a; run = here; related = done.0; known = done.1 }
