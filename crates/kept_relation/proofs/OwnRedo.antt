-- The redo of the page itself.
use Rattle.std.proofs.Common.{◌≡◌, refl, ap, sym, subst, ◌∙◌, ℕ, suc, ◌==◌, nat_lt, Bool, true, false, List, [], ◌∷◌, length, Option, Some, None, arith}
use Rattle.std.proofs.lemmas.Bool.Decides.{nat_tests}
use Rattle.std.proofs.lemmas.List.Sums.{fold-append}
use Rattle.pcl_base.specs.declared.event.Event.{Event}
use Rattle.pcl_base.specs.declared.lock.Pending.{Pending}
use Rattle.pcl_base.specs.declared.log.Record.{Record}
use Rattle.text_rules.specs.StoredPage.{PageAt, stored_bytes}
use Rattle.run_rules.specs.Disk.{Disk}
use Rattle.run_rules.specs.Redo.{all_records, redone}
use Rattle.run_rules.specs.Views.{count_from}
use Rattle.node_rules.specs.BufferRule as buffer
use Rattle.node_rules.specs.BufferRule.{cleaned, copy_at, is_dirty_copy}
use Rattle.node_rules.specs.DiskCalls.{WritePage, done}
use Rattle.node_rules.specs.InstallRule.{redo_page, redo_to, version_in, write_newer}
use Rattle.node_rules.specs.LockTable.{LockTable, entry_at, set_version}
use Rattle.node_rules.specs.NodeState.{NodeState, is_serving, partition, put_table, table_at}
use Rattle.node_rules.specs.Words.{pick}
use Rattle.node_rules.specs.Work.{Goes, Outcome, Work, and_so, with_home_work, with_node, work_of_home}
use Rattle.cluster_rules.specs.Clusters.{Cluster, node_at}
use Rattle.page_laws.proofs.EntryParts.Tabled.{tables_are_seen_law}
use Rattle.cluster_laws.specs.Era.Eras.{era_in}
use Rattle.page_laws.specs.Look.Buffers.{IsCleaned}
use Rattle.page_laws.specs.Look.Ends.{version_of_right}
use Rattle.page_laws.proofs.LookParts.Copies.{cleaning_is_seen_law}
use Rattle.page_protocol.specs.Bytes.{Ranges}
use Rattle.page_protocol.specs.Eras.{redoing}
use Rattle.page_protocol.specs.State.{Page, current}
use Rattle.page_protocol.specs.Steps.{Reached, Run, here, redoes, then}
use Rattle.page_protocol.proofs.Keeps.{reached_holds}
use Rattle.page_laws.specs.Storage.Looks.{IsStored, page_of}
use Rattle.page_laws.specs.Storage.Machine.{at_version}
use Rattle.page_laws.proofs.StorageParts.AsSteps.{current_is_redone_law, pages_are_written_law, records_are_old_law}
use Rattle.page_relation.specs.Homes.{wait_on}
use Rattle.page_relation.specs.Looks.{copy_in}
use Rattle.page_relation.specs.Relation.{CopiesAre, HomesAre, NodesAre, LinksAre, TablesAre}
use Rattle.page_relation.specs.Tables.{IsServed, TableIn, TableIs, TableOf, serves_in}
use Rattle.page_relation.specs.Work.Events.{IsEntered}
use Rattle.page_relation.specs.Work.Keeping.{IsWorkOf, Leads}
use Rattle.page_relation.specs.Work.Landing.{disk_of, land}
use Rattle.page_relation.specs.Work.Unseen.{SameStanding, SameUse}
use Rattle.page_relation.proofs.WorkParts.Framing.{history_stays_law, homes_stay_law, links_stay_law, nodes_stay_law}
use Rattle.page_relation.proofs.WorkParts.Kept.{reached_on}
use Rattle.page_relation.proofs.WorkParts.Nodes.{at_other, kept_node, of_node}
use Rattle.page_relation.proofs.WorkParts.Storing.{IsHere, copies_by, dirty_there, has_page, none_of, own_page, slot_here, slot_there, stored_is}
use Rattle.kept_relation.specs.Redoing.{HaveNoNext, IsRedone, MayRedo, SameClaims}
use Rattle.kept_relation.proofs.Purged.{era_landed, own_table, put_there}
use Rattle.kept_relation.proofs.Redoes.{reads_disk, records_same, redo_may}

clean_now : (o : Option buffer.Copy) → is_dirty_copy (cleaned o) ≡ false
clean_now None = refl
clean_now (Some x) = refl

copy_cleaned : (o : Option buffer.Copy) → copy_in (cleaned o) ≡ copy_in o
copy_cleaned None = refl
copy_cleaned (Some x) = refl

redoing_entered : (a : Page) → IsEntered (redoing a)
unfolding redoing
redoing_entered a y on there = absurd (cc)

redoing_claims : (a : Page) → SameClaims a (redoing a)
unfolding redoing
redoing_claims a = record { listed = refl; home = refl; right = refl; era = refl }

entered_now : (a : Page) → (redoing a).entry ≡ (redoing a).now
unfolding redoing
entered_now a = refl

-- no log goes on from the current version
pub nothing_next : (blank : List ℕ) (a : Page) (lost : List ℕ) → Reached blank a → a.entry ≡ a.now → HaveNoNext lost a
nothing_next blank a lost reached same m among = by (a.log m (suc a.entry)) refl
  where
    by : (o : Option Ranges) → a.log m (suc a.entry) ≡ o → o ≡ None
    by None at = refl
    by (Some ranges) at = absurd (let old = records_are_old_law blank a reached m (suc a.entry) ranges at in omega (arith, old, same))

module _ (c : Cluster) (e : Event) (n p : ℕ) (w : Work) (a : Page) (h : IsHere c e n p w a) (t : LockTable) (at : table_at w.node (partition c.config p) ≡ Some t) (serving : t.serving ≡ true) where
  abbrev q : ℕ
  q = partition c.config p

  abbrev b : Page
  b = redoing a

  abbrev z : Work
  z = with_home_work (with_node w (put_table w.node q (Some (set_version t p a.now)))) (write_newer true p (at_version a a.now) (work_of_home w))

  seen : IsCleaned p w.node.home z.node.home
  seen = cleaning_is_seen_law p w.node.home

  mine : TableIs a p n (era_in w.node.view q) true t
  mine = own_table c e n p t w a true h.acts at serving h.related

  standing : SameStanding w.node z.node
  standing = record { config = refl; number = refl; epoch = refl; view = refl }

  copy : copy_at z.node.home.pool p ≡ cleaned (copy_at w.node.home.pool p)
  copy = seen.copies p ∙ ap (λ (x : Bool). pick x (cleaned (copy_at w.node.home.pool p)) (copy_at w.node.home.pool p)) (own_page p)

  copies_redone : CopiesAre (land c e n z) p b.slot b.owner b.dirty
  unfolding redoing
  copies_redone =
      copies_by c e n p z a.slot a.owner false h.acts (ap copy_in copy ∙ copy_cleaned (copy_at w.node.home.pool p) ∙ slot_here c e n p w a h)
      (ap is_dirty_copy copy ∙ clean_now (copy_at w.node.home.pool p)) (slot_there c e n p w a h)
      (λ m other. dirty_there c e n p w a h m other ∙ none_of a.dirty (m == a.owner) (ap (λ (k : ℕ). m == k) (sym mine.here) ∙ other))

  stored_redone : IsStored c.config (disk_of c n z) p b.disk b.log
  stored_redone =
      let below = h.related.history.below in
      subst (λ (d : Disk). IsStored c.config d p b.disk b.log) (sym (fold-append (done n) c.disk w.calls (WritePage p (stored_bytes p (at_version a a.now)) ∷ [])))
      ((pages_are_written_law c.config (disk_of c n w) n p a (has_page c n p w.calls h.acts h.low) (stored_is c e n p w a h.related)).redoes below)

  there : table_at z.node q ≡ Some (set_version t p a.now)
  there = put_there w.node.tables q t (Some (set_version t p a.now)) at

  entry : entry_at (set_version t p a.now) p ≡ record (entry_at t p) { version = a.now }
  entry = (tables_are_seen_law t).version p a.now p ∙ ap (λ (x : Bool). pick x (record (entry_at t p) { version = a.now }) (entry_at t p)) (own_page p)

  served_redone : IsServed b.served b.owner b.era b.entry b.listed b.right b.reached b.home n (era_in w.node.view q) (entry_at (set_version t p a.now) p)
  unfolding redoing
  served_redone =
      subst (IsServed b.served b.owner b.era b.entry b.listed b.right b.reached b.home n (era_in w.node.view q)) (sym entry)
      (record {
        serves = mine.serves;
        here = mine.here;
        now = mine.now;
        version = refl;
        holders = mine.holders;
        rights = mine.rights;
        waiting = mine.waiting;
        writers = mine.writers;
      })

  beside : (m : ℕ) → (m == n) ≡ false → (o : Option NodeState) → TableOf a p q m o → TableOf b p q m o
  unfolding redoing
  beside m other None old = tt
  beside m other (Some s) old = in_table (table_at s q) old
    where
      by : (x : LockTable) (on : Bool) → TableIs a p m (era_in s.view q) on x → TableIs (redoing a) p m (era_in s.view q) on x
      by x true served = let is = served.here in let own = mine.here in absurd (grind (arith, nat_tests, other, is, own))
      by x false rebuilt =
          record { later = rebuilt.later; reaches = rebuilt.reaches; holders = rebuilt.holders; rights = rebuilt.rights; waiting = rebuilt.waiting; writers = rebuilt.writers }

      in_table : (k : Option LockTable) → TableIn a p m (era_in s.view q) k → TableIn (redoing a) p m (era_in s.view q) k
      in_table None old = tt
      in_table (Some x) old = by x x.serving old

  ours : (m : ℕ) → m ≡ n → TableOf b p q m (Some z.node)
  ours m same =
      subst (λ (k : ℕ). TableOf b p q k (Some z.node)) (sym same)
      (subst (λ (o : Option LockTable). TableIn b p n (era_in w.node.view q) o) (sym there)
      (subst (λ (x : Bool). TableIs b p n (era_in w.node.view q) x (set_version t p a.now)) (sym serving) served_redone))

  tables_redone : TablesAre (land c e n w) p q a → TablesAre (land c e n z) p q b
  unfolding redoing
  tables_redone is =
      record {
        tables = λ m. of_node c e n h.acts z m (λ o. TableOf (redoing a) p q m o) (ours m) (λ other. beside m other (node_at c m) (at_other c e n h.acts w m (λ o. TableOf a p q m o) other (is.tables m)));
        serving = λ now. kept_node c e n h.acts w z a.owner (λ o. serves_in o q ≡ true) (λ same old. ap is_serving there ∙ serving) (is.serving now);
        era = era_landed c e n w z q a.era a.owner is.era;
      }

  homes_redone : HomesAre (land c e n w) p (current a) a → HomesAre (land c e n z) p (current b) b
  unfolding redoing
  homes_redone is =
      let k : HomesAre (land c e n z) p (current a) a =
      homes_stay_law c e n p w z (current a) a h.acts standing seen.rest.life uses (record { accesses = λ u. refl; now_same = refl }) is in
      record { stands = k.stands; kinds = k.kinds; scripts = k.scripts; images = k.images; written = k.written }
    where
      uses : SameUse p w.node.home z.node.home
      uses =
          record {
            held = λ u. seen.rest.locks.held u p;
            waits = λ u. ap (λ (o : Option Pending). wait_on o p) (seen.rest.locks.waits u);
            bytes = λ u. seen.rest.privates.bytes u p;
            runs = λ u. seen.rest.privates.runs u p;
          }

  nodes_redone : NodesAre (land c e n w) p q a.era a.right a.reached → NodesAre (land c e n z) p q b.era b.right b.reached
  unfolding redoing
  nodes_redone is = nodes_stay_law c e n p q a.era w z a.right a.reached h.acts standing (ap version_of_right (seen.rest.rights p)) is

  links_redone : LinksAre (land c e n w) p q a → LinksAre (land c e n z) p q b
  unfolding redoing
  links_redone is =
      let k : LinksAre (land c e n z) p q a = links_stay_law c e n p q w z a h.acts standing refl (λ m. refl) is in
      record { say = k.say; ordered = k.ordered; once = k.once }

  all_redone : IsWorkOf c e n p w a → IsWorkOf c e n p z b
  unfolding land redoing
  all_redone is =
      record {
        history = history_stays_law c e n p w z a.hist (current a) (record { accesses = λ u. refl; now_same = refl }) is.history;
        stored = stored_redone;
        copies = copies_redone;
        homes = homes_redone is.homes;
        nodes = nodes_redone is.nodes;
        tables = tables_redone is.tables;
        links = links_redone is.links;
      }

  -- where the entry lags behind
  module _ (first : Work) (start : Page) (i : MayRedo c n (partition c.config p) first start w a) (lag : suc a.entry ≡ a.now) where
    logs_long : length (disk_of c n w).logs ≡ c.config.nodes
    logs_long = ap length i.logs ∙ h.acts.cluster.disk.logs

    redone_is : redone (all_records c.config c.disk) p (page_of a.disk) ≡ at_version a a.now
    redone_is =
        ap (λ (rs : List Record). redone rs p (page_of a.disk)) (sym (records_same c.config c.disk (disk_of c n w) i.logs (count_from 0 c.config.nodes)))
        ∙ (current_is_redone_law c.config (disk_of c n w) p h.blank a h.reached logs_long (stored_is c e n p w a h.related)).0

    is_newer : nat_lt a.disk.version a.now ≡ true
    is_newer =
        let behind = (reached_holds h.blank a h.reached).kept_holds.disk_behind mine.serves in
        grind (arith, nat_tests, behind, lag)

    goes_to : redo_page (all_records c.config c.disk) q p w ≡ Goes z
    unfolding redo_page
    goes_to =
        ap (λ (o : Outcome PageAt). and_so o (λ old. redo_to q p old (redone (all_records c.config c.disk) p old) w)) (reads_disk c e n p w a i.called h.related)
        ∙ ap (λ (new : PageAt). Goes (redo_to q p (page_of a.disk) new w)) redone_is
        ∙ (λ j. Goes (with_home_work (with_node w (version_in q p a.now (at j) w.node)) (write_newer (is_newer j) p (at_version a a.now) (work_of_home w))))

    pub redo_leads : (lost : List ℕ) (x : Work) → redo_page (all_records c.config c.disk) q p w ≡ Goes x → Leads c e n p (IsRedone c n q lost first start) a x
    redo_leads lost x goes =
        let both : Goes z ≡ Goes x = sym goes_to ∙ goes in
        let same : z ≡ x = cc in
        subst (Leads c e n p (IsRedone c n q lost first start) a) same
        (record {
          page = b;
          run = run;
          related = all_redone h.related;
          known = record { may = may; none = nothing_next h.blank b lost (reached_on h.blank a b h.reached run) (entered_now a) };
        })
      where
        run : Run a b
        run = then here (redoes mine.serves)

        may : MayRedo c n q first start z b
        may =
            subst (λ (k : Work). MayRedo c n q first start k b)
            (λ j. with_home_work (with_node w (version_in q p a.now (at j) w.node)) (write_newer (is_newer j) p (at_version a a.now) (work_of_home w)))
            (redo_may c n q first start p (page_of a.disk) (at_version a a.now) w a b i (redoing_entered a) (redoing_claims a))
