-- The redo of the page, and of other pages, whose table is being rebuilt.
use Rattle.std.proofs.Common.{◌≡◌, refl, ap, sym, subst, ◌∙◌, ℕ, ◌<◌, ◌≤◌, ◌==◌, ◌&&◌, nat_lt, Bool, true, false, List, [], ◌∷◌, ◌++◌, length, slice_index_or, Option, Some, None, arith}
use Rattle.std.proofs.lemmas.List.Sums.{fold-append}
use Rattle.pcl_base.specs.Limits.{Sizes}
use Rattle.pcl_base.specs.declared.event.Event.{Event}
use Rattle.pcl_base.specs.declared.log.Record.{Record}
use Rattle.text_rules.specs.LogRecord.{records_of}
use Rattle.text_rules.specs.StoredPage.{PageAt, stored_bytes}
use Rattle.run_rules.specs.Disk.{Disk, log_at}
use Rattle.run_rules.specs.Redo.{all_records, records_in, redone}
use Rattle.run_rules.specs.Views.{count_from}
use Rattle.node_rules.specs.BufferRule as buffer
use Rattle.node_rules.specs.BufferRule.{copy_at, cleaned, clean, dirty, is_dirty_copy}
use Rattle.node_rules.specs.DiskCalls.{WritePage, done, all_done}
use Rattle.node_rules.specs.InstallRule.{redo_page, redo_to, version_in, version_of_page, write_newer}
use Rattle.node_rules.specs.LockTable.{LockTable, entry_at, set_version}
use Rattle.node_rules.specs.NodeState.{partition, put_table, table_at}
use Rattle.node_rules.specs.Words.{pick}
use Rattle.node_rules.specs.Work.{Outcome, Work, Goes, Differs, and_so, read_page, work_of_home, with_home_work, with_node}
use Rattle.cluster_rules.specs.Clusters.{Cluster}
use Rattle.cluster_laws.specs.Era.Eras.{era_in}
use Rattle.page_laws.specs.Look.Buffers.{IsCleaned}
use Rattle.page_laws.proofs.LookParts.Copies.{cleaning_is_seen_law}
use Rattle.page_protocol.specs.State.{Page}
use Rattle.page_protocol.specs.Steps.{Reached, here, then, restores}
use Rattle.page_protocol.specs.Storage.{restoring}
use Rattle.page_protocol.proofs.Keeps.{reached_holds}
use Rattle.page_laws.specs.Storage.Looks.{IsStored, page_of}
use Rattle.page_laws.specs.Storage.Machine.{at_version}
use Rattle.page_laws.proofs.StorageParts.AsSteps.{current_is_redone_law, current_stands_law, pages_are_written_law}
use Rattle.page_laws.proofs.StorageParts.ReadPages.{stored_is_read_law}
use Rattle.page_relation.specs.Looks.{copy_in}
use Rattle.page_relation.specs.Tables.{IsRebuilt, TableIs}
use Rattle.page_relation.specs.Work.Events.{IsEntered}
use Rattle.page_relation.specs.Work.Keeping.{IsWorkOf}
use Rattle.page_relation.specs.Work.Landing.{Acts, disk_of}
use Rattle.page_relation.specs.Work.Letting.{CalledBy}
use Rattle.page_relation.specs.Work.Rest.{SameRest}
use Rattle.page_relation.proofs.WorkParts.Called.{pushed}
use Rattle.page_relation.proofs.WorkParts.Storing.{IsHere, copies_by, dirty_there, has_page, own_page, slot_here, slot_there, stored_alone, stored_is}
use Rattle.settle_relation.proofs.Deciding.{put_here, put_there}
use Rattle.report_relation.specs.Redoing.{MayRedo, RedoAgrees, RedoLeads, records}
use Rattle.report_relation.proofs.Tabled.{table_put}

-- ---- records and copies

-- other pages leave the records
records_same : (c : Sizes) (d : Disk) (pages : List (List ℕ)) (ns : List ℕ) → records_in c (record d { pages = pages }) ns ≡ records_in c d ns
unfolding records_in
records_same c d pages [] = refl
records_same c d pages (n ∷ ns) = ap (λ (rest : List Record). records_of c (log_at d n) ++ rest) (records_same c d pages ns)

clean_now : (o : Option buffer.Copy) → is_dirty_copy (cleaned o) ≡ false
clean_now None = refl
clean_now (Some x) = refl

copy_cleaned : (o : Option buffer.Copy) → copy_in (cleaned o) ≡ copy_in o
copy_cleaned None = refl
copy_cleaned (Some x) = refl

-- another version in the entry of a table that is being rebuilt
versioned : (a : Page) (p n e v : ℕ) (t : LockTable) → TableIs a p n e false t → TableIs a p n e false (set_version t p v)
versioned a p n e v t is =
    subst (IsRebuilt a.era a.listed a.right a.reached a.home e (set_version t p v)) (sym (put_here t p (record (entry_at t p) { version = v })))
    (record { later = is.later; reaches = is.reaches; holders = is.holders; rights = is.rights; waiting = is.waiting; writers = is.writers })

-- the work once the page is written, where that is newer
abbrev pub wrote_to : Bool → ℕ → PageAt → Work → Work
wrote_to b r at w = with_home_work w (write_newer b r at (work_of_home w))

-- and once its entry has the version
abbrev pub redone_to : ℕ → ℕ → LockTable → PageAt → Work → Work
redone_to q r t at z = with_node z (put_table z.node q (Some (set_version t r at.version)))

pub redo_is : (q r : ℕ) (old new : PageAt) (t : LockTable) (w : Work) → table_at w.node q ≡ Some t → redo_to q r old new w ≡ redone_to q r t new (wrote_to (nat_lt old.version new.version) r new w)
redo_is q r old new t w there =
    ap (λ (o : Option LockTable). with_home_work (with_node w (version_in q r new.version o w.node)) (write_newer (nat_lt old.version new.version) r new (work_of_home w))) there

module _ (c : Cluster) (n : ℕ) (w : Work) where
  -- a page that is written
  pub wrote_disk : (p : ℕ) (bytes : List ℕ) → all_done n c.disk (w.calls ++ WritePage p bytes ∷ []) ≡ done n (disk_of c n w) (WritePage p bytes)
  wrote_disk p bytes = fold-append (done n) c.disk w.calls (WritePage p bytes ∷ [])

  pub wrote_records : (b : Bool) (r : ℕ) (at : PageAt) → all_records c.config (disk_of c n (wrote_to b r at w)) ≡ all_records c.config (disk_of c n w)
  unfolding done
  wrote_records false r at = refl
  wrote_records true r at =
      ap (λ (d : Disk). all_records c.config d) (wrote_disk r (stored_bytes r at))
      ∙ records_same c.config (disk_of c n w) (done n (disk_of c n w) (WritePage r (stored_bytes r at))).pages (count_from 0 c.config.nodes)

  pub wrote_logs : (b : Bool) (r : ℕ) (at : PageAt) → length (disk_of c n (wrote_to b r at w)).logs ≡ length (disk_of c n w).logs
  unfolding done
  wrote_logs false r at = refl
  wrote_logs true r at = ap (λ (d : Disk). length d.logs) (wrote_disk r (stored_bytes r at))

  pub wrote_called : (b : Bool) (r : ℕ) (at : PageAt) → CalledBy n c.disk (work_of_home w) → CalledBy n c.disk (work_of_home (wrote_to b r at w))
  wrote_called false r at is = is
  wrote_called true r at is = pushed n c.disk w.pages w.calls r (stored_bytes r at) is

  -- what is known of the work after it
  pub redone_may : (q r : ℕ) (b : Bool) (at : PageAt) (a d : Page) (may : MayRedo c n q w a) → d.served ≡ a.served → MayRedo c n q (redone_to q r may.table at (wrote_to b r at w)) d
  redone_may q r b at a d may served =
      record {
        called = wrote_called b r at may.called;
        same = wrote_records b r at ∙ may.same;
        logs = wrote_logs b r at ∙ may.logs;
        nobody = served ∙ may.nobody;
        table = set_version may.table r at.version;
        there = by b;
        rebuilt = may.rebuilt;
      }
    where
      by : (b : Bool) → table_at (redone_to q r may.table at (wrote_to b r at w)).node q ≡ Some (set_version may.table r at.version)
      by true = put_there w.node.tables q may.table (Some (set_version may.table r at.version)) may.there
      by false = put_there w.node.tables q may.table (Some (set_version may.table r at.version)) may.there

-- ---- the page itself

module _ (c : Cluster) (e : Event) (n p : ℕ) (w : Work) (a : Page) (called : CalledBy n c.disk (work_of_home w)) (is : IsWorkOf c e n p w a) where
  stored : IsStored c.config (disk_of c n w) p a.disk a.log
  stored = stored_is c e n p w a is

  -- it is read as it is on disk
  pub read : read_page w.pages p ≡ Goes (page_of a.disk)
  read = ap (λ (ps : List (List ℕ)). read_page ps p) called ∙ stored_is_read_law c.config (disk_of c n w) p a.disk a.log stored

  pub goes_to : (q : ℕ) (rs : List Record) (x : Work) → redo_page rs q p w ≡ Goes x → redo_to q p (page_of a.disk) (redone rs p (page_of a.disk)) w ≡ x
  unfolding redo_page
  goes_to q rs x goes =
      let both : Goes (redo_to q p (page_of a.disk) (redone rs p (page_of a.disk)) w) ≡ Goes x = sym (ap (λ (o : Outcome PageAt). and_so o (λ old. redo_to q p old (redone rs p old) w)) read) ∙ goes in
      cc

  pub agrees : (q : ℕ) (rs : List Record) (k expected found : ℕ) → redo_page rs q p w ≡ Differs k expected found → ⊥
  unfolding redo_page
  agrees q rs k expected found bad =
      let both : Goes (redo_to q p (page_of a.disk) (redone rs p (page_of a.disk)) w) ≡ Differs k expected found = sym (ap (λ (o : Outcome PageAt). and_so o (λ old. redo_to q p old (redone rs p old) w)) read) ∙ bad in
      absurd (cc)

pub redo_agrees_law : RedoAgrees
redo_agrees_law c e n p q k expected found w a called is bad = agrees c e n p w a called is q (records c) k expected found bad

module _ (c : Cluster) (e : Event) (n p : ℕ) (blank : List ℕ) (w : Work) (a : Page) (acts : Acts c n) (low : p < c.config.pages) (reached : Reached blank a) (may : MayRedo c n (partition c.config p) w a) (is : IsWorkOf c e n p w a) where
  abbrev q : ℕ
  q = partition c.config p

  abbrev at : PageAt
  at = at_version a a.now

  abbrev t : LockTable
  t = may.table

  clean_off : a.dirty ≡ false
  clean_off = by a.dirty refl
    where
      by : (b : Bool) → a.dirty ≡ b → b ≡ false
      by true on = let served = (reached_holds blank a reached).kept_holds.dirty_served on in let off = may.nobody in absurd (cc)
      by false off = refl

  entered : IsEntered a
  entered x on there = let off = clean_off in absurd (cc)

  at_home : IsHere c e n p w a
  at_home = record { acts = acts; low = low; blank = blank; reached = reached; related = is; entered = entered }

  -- with the version in the entry
  with_version : (z : Work) (b : Page) → table_at z.node q ≡ Some t → IsWorkOf c e n p z b → IsWorkOf c e n p (redone_to q p t at z) b
  with_version z b there old =
      table_put c e n p acts t (set_version t p a.now) z b there refl
      (λ fits.
      subst (λ (x : Bool). TableIs b p n (era_in z.node.view q) x (set_version t p a.now)) (sym may.rebuilt)
      (versioned b p n (era_in z.node.view q) a.now t (subst (λ (x : Bool). TableIs b p n (era_in z.node.view q) x t) may.rebuilt fits))) old

  entry_is : (z : Work) → z.node.tables ≡ w.node.tables → version_of_page (table_at (redone_to q p t at z).node q) p ≡ a.now
  entry_is z same =
      ap (λ (o : Option LockTable). version_of_page o p)
      (put_there z.node.tables q t (Some (set_version t p a.now)) (ap (λ ts. slice_index_or ts q None) same ∙ may.there))
      ∙ ap (λ k. k.version) (put_here t p (record (entry_at t p) { version = a.now }))

  -- it is written
  restored_leads : (Done : Type 0) → RedoLeads c e n p q Done a (redone_to q p t at (wrote_to true p at w))
  unfolding restoring
  restored_leads Done =
      record {
        page = restoring a a.now;
        run = then here (restores a.now old (omega arith) (λ on. let off = may.nobody in absurd (cc)));
        same = same;
        related =
            with_version z (restoring a a.now) may.there
            (stored_alone c e n p w z a (restoring a a.now) acts is same refl refl refl refl refl seen.rest
            (subst (λ (d : Disk). IsStored c.config d p (record { version = a.now; bytes = a.hist a.now }) a.log) (sym (wrote_disk c n w p (stored_bytes p at)))
            ((pages_are_written_law c.config (disk_of c n w) n p a (has_page c n p w.calls acts low) (stored_is c e n p w a is)).restores a.now is.history.below))
            (copies_by c e n p z a.slot a.owner a.dirty acts (ap copy_in copy ∙ copy_cleaned (copy_at w.node.home.pool p) ∙ slot_here c e n p w a at_home)
            (ap is_dirty_copy copy ∙ clean_now (copy_at w.node.home.pool p) ∙ sym (ap (λ (b : Bool). b && n == a.owner) clean_off)) (slot_there c e n p w a at_home)
            (dirty_there c e n p w a at_home)));
        may = redone_may c n w q p true at a (restoring a a.now) may refl;
        done = λ so. record { disk = refl; entry = entry_is z refl };
      }
    where
      z : Work
      z = wrote_to true p at w

      old : a.disk.version ≤ a.now
      old = (reached_holds blank a reached).stores_hold.disk_is.old

      same : SameRest a (restoring a a.now)
      same =
          record { now = refl; hist = refl; reached = refl; right = refl; home = refl; script = refl; image = refl; era = refl; owner = refl; served = refl; entry = refl; sent = refl; listed = refl }

      seen : IsCleaned p w.node.home z.node.home
      seen = cleaning_is_seen_law p w.node.home

      copy : copy_at z.node.home.pool p ≡ cleaned (copy_at w.node.home.pool p)
      copy = seen.copies p ∙ ap (λ (b : Bool). pick b (cleaned (copy_at w.node.home.pool p)) (copy_at w.node.home.pool p)) (own_page p)

  -- it stands there
  stood_leads : (Done : Type 0) → nat_lt a.disk.version a.now ≡ false → RedoLeads c e n p q Done a (redone_to q p t at (wrote_to false p at w))
  stood_leads Done no_newer =
      record {
        page = a;
        run = here;
        same = record { now = refl; hist = refl; reached = refl; right = refl; home = refl; script = refl; image = refl; era = refl; owner = refl; served = refl; entry = refl; sent = refl; listed = refl };
        related = with_version w a may.there is;
        may = redone_may c n w q p false at a a may refl;
        done = λ so. record { disk = (current_stands_law c.config (disk_of c n w) p blank a reached (stored_is c e n p w a is) no_newer).is_current; entry = entry_is w refl };
      }

  pub own_leads : (Done : Type 0) (x : Work) → redo_page (records c) q p w ≡ Goes x → RedoLeads c e n p q Done a x
  own_leads Done x goes =
      subst (λ (k : Work). RedoLeads c e n p q Done a k)
      (sym (redo_is q p (page_of a.disk) at t w may.there) ∙ ap (λ (k : PageAt). redo_to q p (page_of a.disk) k w) (sym new) ∙ goes_to c e n p w a may.called is q (records c) x goes)
      (by (nat_lt a.disk.version a.now) refl)
    where
      new : redone (records c) p (page_of a.disk) ≡ at
      new =
          ap (λ (rs : List Record). redone rs p (page_of a.disk)) (sym may.same)
          ∙ (current_is_redone_law c.config (disk_of c n w) p blank a reached may.logs (stored_is c e n p w a is)).0

      by : (b : Bool) → nat_lt a.disk.version a.now ≡ b → RedoLeads c e n p q Done a (redone_to q p t at (wrote_to b p at w))
      by true newer = restored_leads Done
      by false older = stood_leads Done older
