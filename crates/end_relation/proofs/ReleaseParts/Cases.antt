-- An end at the own table, case by case: the machine's step, and the relation after it.
use Rattle.std.proofs.Common.{◌≡◌, ◌≢◌, refl, ap, sym, subst, ◌∙◌, ℕ, ◌<◌, ◌≤◌, ◌==◌, ◌&&◌, Bool, true, false, List, Option, Some, None, arith}
use Rattle.std.proofs.lemmas.Bool.Decides.{nat_tests}
use Rattle.pcl_base.specs.declared.event.Event.{Event}
use Rattle.pcl_base.specs.declared.tx.Mode.TheVariants.{Exclusive}
use Rattle.pcl_base.specs.declared.tx.TxId.{TxId}
use Rattle.node_rules.specs.BufferRule.{copy_at, dirty}
use Rattle.node_rules.specs.DiskCalls.{all_done}
use Rattle.node_rules.specs.LockRule.{LockEntry, end_tx, takes_change}
use Rattle.node_rules.specs.LockTable.{LockTable, entry_at, put_entry}
use Rattle.node_rules.specs.NodeState.{HomeState, NodeState, partition}
use Rattle.node_rules.specs.Work.{HomeWork, Work, work_of_home}
use Rattle.cluster_rules.specs.Clusters.{Cluster, node_at}
use Rattle.page_laws.specs.Entry.Steps.{IsStepTo}
use Rattle.page_laws.proofs.EntryParts.Stepped.{release_is_step_law, change_is_step_law}
use Rattle.cluster_laws.specs.Era.Eras.{era_in}
use Rattle.page_laws.specs.Look.Parts.{SameBesideCopies}
use Rattle.page_laws.proofs.LookParts.Alike.{beside_self}
use Rattle.page_protocol.specs.Authority.{releasing, releasing_change, releasing_to_disk}
use Rattle.page_protocol.specs.Bytes.{Copy}
use Rattle.page_protocol.specs.Invariant.{EndsOk}
use Rattle.page_protocol.specs.State.{Ended, Page, updn}
use Rattle.page_protocol.specs.Steps.{Step, Reached, here, then, releases_early}
use Rattle.page_protocol.proofs.Basics.{updn_same, updn_other}
use Rattle.page_protocol.proofs.Keeps.{reached_holds}
use Rattle.page_relation.specs.Looks.{copy_in, slot_in, slot_of, dirty_in, dirty_of}
use Rattle.page_relation.specs.Relation.{CopiesAre}
use Rattle.page_relation.specs.Tables.{TableIs}
use Rattle.page_laws.specs.Storage.Looks.{IsStored}
use Rattle.page_relation.specs.Work.Events.{IsEntered}
use Rattle.page_relation.specs.Work.Keeping.{IsWorkOf, Leads}
use Rattle.page_relation.specs.Work.Landing.{land, Acts}
use Rattle.page_relation.proofs.WorkParts.Framing.{copies_stay_law}
use Rattle.page_relation.proofs.WorkParts.Nodes.{at_other}
use Rattle.page_relation.proofs.WorkParts.Storing.{copies_by, none_of}
use Rattle.end_relation.specs.Release.Owing.{ended_as, IsUntold}
use Rattle.end_relation.proofs.ReleaseParts.Ending.{entered, ends_as}
use Rattle.end_relation.proofs.ReleaseParts.OwnTables.{IsTabled, is_tabled, served_entry, beside_served, beside_rebuilt}
use Rattle.end_relation.proofs.ReleaseParts.Owners.{HasOwn}
use Rattle.end_relation.proofs.ReleaseParts.Tables.{served_own, rebuilt_own}

-- a writer that has ended is the exclusive holder
pub writer_holds : (blank : List ℕ) (a : Page) (t : TxId) (change : Option ℕ) (e v : ℕ) → Reached blank a → a.home t ≡ Ended change e → a.era ≤ e → change ≡ Some v → a.listed t e ≡ Some Exclusive
writer_holds blank a t change e v reached ended low is =
    let ends : EndsOk a.era (a.reached t.node) (a.listed t) (Ended (Some v) e) =
    subst (EndsOk a.era (a.reached t.node) (a.listed t)) (ended ∙ ap (λ (o : Option ℕ). Ended o e) is) ((reached_holds blank a reached).locks_hold.ends t) in
    ends.2 low

pub stored_now : (c : Cluster) (e : Event) (n p : ℕ) (w : Work) (a : Page) → IsWorkOf c e n p w a → IsStored c.config (all_done n c.disk w.calls) p a.disk a.log
unfolding land
stored_now c e n p w a is = is.stored

releasing_as : (a : Page) (t : TxId) (e : ℕ) (y : LockEntry) → IsStepTo a (releasing a t e) y → IsStepTo a (ended_as a t e a.entry a.slot a.disk a.dirty) y
unfolding releasing
releasing_as a t e y is = is

changing_as : (a : Page) (t : TxId) (v : ℕ) (y : LockEntry) → IsStepTo a (releasing_change a t v) y
    → IsStepTo a (ended_as a t a.era v (updn a.slot a.owner (Some (record { version = v; bytes = a.hist v }))) a.disk true) y
unfolding releasing_change
changing_as a t v y is = is

storing_as : (a : Page) (t : TxId) (v : ℕ) (y : LockEntry) → IsStepTo a (releasing_to_disk a t v) y
    → IsStepTo a (ended_as a t a.era v a.slot (record { version = v; bytes = a.hist v }) a.dirty) y
unfolding releasing_to_disk
storing_as a t v y is = is

early_is : (a : Page) (t : TxId) (e : ℕ) → Step a (releasing a t e) → Step a (ended_as a t e a.entry a.slot a.disk a.dirty)
unfolding releasing
early_is a t e step = step

early_as : (a : Page) (t : TxId) (change : Option ℕ) (e : ℕ) → a.era < e → a.home t ≡ Ended change e → Step a (ended_as a t e a.entry a.slot a.disk a.dirty)
early_as a t change e later ended = early_is a t e (releases_early t change e later ended)

-- the copies once the change is in the own slot
change_copies : (c : Cluster) (e : Event) (n p : ℕ) (x w : Work) (a : Page) (v : ℕ) → Acts c n → n ≡ a.owner → copy_in (copy_at x.node.home.pool p) ≡ Some (record { version = v; bytes = a.hist v })
    → dirty x.node.home.pool p ≡ true → IsWorkOf c e n p w a → CopiesAre (land c e n x) p (updn a.slot a.owner (Some (record { version = v; bytes = a.hist v }))) a.owner true
unfolding slot_of dirty_of
change_copies c e n p x w a v acts own copy marked is =
    copies_by c e n p x (updn a.slot a.owner (Some (record { version = v; bytes = a.hist v }))) a.owner true acts
    (copy ∙ sym (ap (updn a.slot a.owner (Some (record { version = v; bytes = a.hist v }))) own ∙ updn_same a.slot a.owner (Some (record { version = v; bytes = a.hist v }))))
    (marked ∙ sym (let at : (n == a.owner) ≡ true = grind (arith, nat_tests, own) in at))
    (λ m other. at_other c e n acts w m (λ o. slot_in o p ≡ a.slot m) other (is.copies.slot_same m) ∙ sym (updn_other a.slot a.owner m (Some (record { version = v; bytes = a.hist v })) (apart m other)))
    (λ m other. at_other c e n acts w m (λ o. dirty_in o p ≡ (a.dirty && m == a.owner)) other (is.copies.dirty_same m) ∙ none_of a.dirty (m == a.owner) (beside m other) ∙ sym (beside m other))
  where
    apart : (m : ℕ) → (m == n) ≡ false → m ≢ a.owner
    apart m other same = let at : m ≡ n = same ∙ sym own in absurd (grind (arith, nat_tests, other, at))

    beside : (m : ℕ) → (m == n) ≡ false → (m == a.owner) ≡ false
    beside m other = ap (λ (k : ℕ). m == k) (sym own) ∙ other

change_entered : (a : Page) (t : TxId) (f v : ℕ) → IsEntered (ended_as a t f v (updn a.slot a.owner (Some (record { version = v; bytes = a.hist v }))) a.disk true)
change_entered a t f v x on there =
    let same : Some x ≡ Some (record { version = v; bytes = a.hist v }) = sym there ∙ updn_same a.slot a.owner (Some (record { version = v; bytes = a.hist v })) in
    let is : x ≡ record { version = v; bytes = a.hist v } = some_same x (record { version = v; bytes = a.hist v }) same in
    subst (λ (y : Copy). y.version ≤ v) (sym is) (omega arith)
  where
    some_same : (x y : Copy) → Some x ≡ Some y → x ≡ y
    some_same x y e = cc

module _ (c : Cluster) (e : Event) (n p : ℕ) (s : NodeState) (w : Work) (tb : LockTable) (a : Page) (blank : List ℕ) (acts : Acts c n) (up : node_at c n ≡ Some s) (own : HasOwn c n p s w tb)
    (reached : Reached blank a) (is : IsWorkOf c e n p w a) where
  pub tabled : IsTabled c n p w tb a
  tabled = is_tabled c e n p s w tb a acts own is

  pub as_served : tb.serving ≡ true → TableIs a p n (era_in w.node.view (partition c.config p)) true tb
  as_served serves = subst (λ (b : Bool). TableIs a p n (era_in w.node.view (partition c.config p)) b tb) serves tabled.table

  -- the end without a change, or with one that isn't the next
  pub served_ends : tb.serving ≡ true → (t : TxId) (change : Option ℕ) → a.home t ≡ Ended change (a.reached n) → IsUntold c e n p t w a → takes_change (entry_at tb p) t change ≡ false → IsEntered a
      → Leads c e n p (λ y b. IsEntered b) a (entered p tb (end_tx (entry_at tb p) t change) (work_of_home w) w)
  served_ends serves t change ended untold late kept =
      record {
        page = ended_as a t (a.reached n) a.entry a.slot a.disk a.dirty;
        run = then here step.step;
        related =
            ends_as c e n p acts w (work_of_home w) (beside_self w.node.home) tb (end_tx (entry_at tb p) t change) own.config own.there t change a ended a.entry a.slot a.disk a.dirty untold
            (stored_now c e n p w a is)
            (copies_stay_law c e n p w (entered p tb (end_tx (entry_at tb p) t change) (work_of_home w) w) a.slot a.owner a.dirty acts refl is.copies)
            (λ old. subst
            (λ (b : Bool). TableIs (ended_as a t (a.reached n) a.entry a.slot a.disk a.dirty) p n (era_in w.node.view (partition c.config p)) b (put_entry tb p (end_tx (entry_at tb p) t change))) (sym serves)
            (served_own a t change (a.reached n) ended a.entry a.slot a.disk a.dirty p n (era_in w.node.view (partition c.config p)) tb change table step.entry))
            (beside_served c e n p s w tb a acts up own tabled t change ended a.slot a.disk a.dirty a.entry table.here now)
            is;
        known = kept;
      }
    where
      table : TableIs a p n (era_in w.node.view (partition c.config p)) true tb
      table = as_served serves

      now : a.reached n ≡ a.era
      now = tabled.era_same ∙ table.now

      step : IsStepTo a (ended_as a t (a.reached n) a.entry a.slot a.disk a.dirty) (end_tx (entry_at tb p) t change)
      step =
          subst (λ (k : ℕ). IsStepTo a (ended_as a t k a.entry a.slot a.disk a.dirty) (end_tx (entry_at tb p) t change)) (sym now)
          (releasing_as a t a.era (end_tx (entry_at tb p) t change)
          (release_is_step_law a (entry_at tb p) t change (served_entry a p n (era_in w.node.view (partition c.config p)) tb table) (ended ∙ ap (Ended change) now) late
          (λ v is. writer_holds blank a t change a.era v reached (ended ∙ ap (Ended change) now) (omega arith) is)))

  -- the end at a table that is being rebuilt
  pub rebuilt_ends : tb.serving ≡ false → (t : TxId) (change told : Option ℕ) → a.home t ≡ Ended change (a.reached n) → IsUntold c e n p t w a → IsEntered a
      → Leads c e n p (λ y b. IsEntered b) a (entered p tb (end_tx (entry_at tb p) t told) (work_of_home w) w)
  rebuilt_ends unserved t change told ended untold kept =
      record {
        page = ended_as a t (a.reached n) a.entry a.slot a.disk a.dirty;
        run = then here (early_as a t change (a.reached n) later ended);
        related =
            ends_as c e n p acts w (work_of_home w) (beside_self w.node.home) tb (end_tx (entry_at tb p) t told) own.config own.there t change a ended a.entry a.slot a.disk a.dirty untold
            (stored_now c e n p w a is)
            (copies_stay_law c e n p w (entered p tb (end_tx (entry_at tb p) t told) (work_of_home w) w) a.slot a.owner a.dirty acts refl is.copies)
            (λ old. subst
            (λ (b : Bool). TableIs (ended_as a t (a.reached n) a.entry a.slot a.disk a.dirty) p n (era_in w.node.view (partition c.config p)) b (put_entry tb p (end_tx (entry_at tb p) t told))) (sym unserved)
            (rebuilt_own a t change (a.reached n) ended a.entry a.slot a.disk a.dirty p n (era_in w.node.view (partition c.config p)) tb told (sym tabled.era_same) table))
            (beside_rebuilt c e n p s w tb a acts up own tabled t change ended a.slot a.disk a.dirty later)
            is;
        known = kept;
      }
    where
      table : TableIs a p n (era_in w.node.view (partition c.config p)) false tb
      table = subst (λ (b : Bool). TableIs a p n (era_in w.node.view (partition c.config p)) b tb) unserved tabled.table

      later : a.era < a.reached n
      later = subst (λ (k : ℕ). a.era < k) (sym tabled.era_same) table.later

  -- the end with the next version, whose copy is in the own slot after it
  pub change_ends : tb.serving ≡ true → (t : TxId) (v : ℕ) (h : HomeWork) → a.home t ≡ Ended (Some v) (a.reached n) → IsUntold c e n p t w a → takes_change (entry_at tb p) t (Some v) ≡ true
      → SameBesideCopies w.node.home h.home → copy_in (copy_at h.home.pool p) ≡ Some (record { version = v; bytes = a.hist v }) → dirty h.home.pool p ≡ true
      → IsStored c.config (all_done n c.disk h.calls) p a.disk a.log
      → Leads c e n p (λ y b. IsEntered b) a (entered p tb (end_tx (entry_at tb p) t (Some v)) h w)
  change_ends serves t v h ended untold taken beside copy marked stored =
      record {
        page = ended_as a t (a.reached n) v slot a.disk true;
        run = then here step.step;
        related =
            ends_as c e n p acts w h beside tb (end_tx (entry_at tb p) t (Some v)) own.config own.there t (Some v) a ended v slot a.disk true untold stored
            (change_copies c e n p (entered p tb (end_tx (entry_at tb p) t (Some v)) h w) w a v acts table.here copy marked is)
            (λ old. subst
            (λ (b : Bool). TableIs (ended_as a t (a.reached n) v slot a.disk true) p n (era_in w.node.view (partition c.config p)) b (put_entry tb p (end_tx (entry_at tb p) t (Some v)))) (sym serves)
            (served_own a t (Some v) (a.reached n) ended v slot a.disk true p n (era_in w.node.view (partition c.config p)) tb (Some v) table step.entry))
            (beside_served c e n p s w tb a acts up own tabled t (Some v) ended slot a.disk true v table.here now)
            is;
        known = change_entered a t (a.reached n) v;
      }
    where
      slot : ℕ → Option Copy
      slot = updn a.slot a.owner (Some (record { version = v; bytes = a.hist v }))

      table : TableIs a p n (era_in w.node.view (partition c.config p)) true tb
      table = as_served serves

      now : a.reached n ≡ a.era
      now = tabled.era_same ∙ table.now

      step : IsStepTo a (ended_as a t (a.reached n) v (updn a.slot a.owner (Some (record { version = v; bytes = a.hist v }))) a.disk true) (end_tx (entry_at tb p) t (Some v))
      step =
          subst (λ (k : ℕ). IsStepTo a (ended_as a t k v (updn a.slot a.owner (Some (record { version = v; bytes = a.hist v }))) a.disk true) (end_tx (entry_at tb p) t (Some v))) (sym now)
          (changing_as a t v (end_tx (entry_at tb p) t (Some v))
          (change_is_step_law a (entry_at tb p) t v (served_entry a p n (era_in w.node.view (partition c.config p)) tb table) table.serves (ended ∙ ap (Ended (Some v)) now) taken).to_slot)

  -- the end with the next version, which is on disk after it
  pub disk_ends : tb.serving ≡ true → (t : TxId) (v : ℕ) (h : HomeWork) → a.home t ≡ Ended (Some v) (a.reached n) → IsUntold c e n p t w a → takes_change (entry_at tb p) t (Some v) ≡ true
      → h.home ≡ w.node.home → a.slot n ≡ None → IsStored c.config (all_done n c.disk h.calls) p (record { version = v; bytes = a.hist v }) a.log
      → Leads c e n p (λ y b. IsEntered b) a (entered p tb (end_tx (entry_at tb p) t (Some v)) h w)
  disk_ends serves t v h ended untold taken same empty stored =
      record {
        page = ended_as a t (a.reached n) v a.slot (record { version = v; bytes = a.hist v }) a.dirty;
        run = then here step.step;
        related =
            ends_as c e n p acts w h (subst (SameBesideCopies w.node.home) (sym same) (beside_self w.node.home)) tb (end_tx (entry_at tb p) t (Some v)) own.config own.there t (Some v) a ended v a.slot
            (record { version = v; bytes = a.hist v }) a.dirty untold stored
            (copies_stay_law c e n p w (entered p tb (end_tx (entry_at tb p) t (Some v)) h w) a.slot a.owner a.dirty acts (ap (λ (g : HomeState). copy_at g.pool p) same) is.copies)
            (λ old. subst
            (λ (b : Bool). TableIs (ended_as a t (a.reached n) v a.slot (record { version = v; bytes = a.hist v }) a.dirty) p n (era_in w.node.view (partition c.config p)) b (put_entry tb p (end_tx (entry_at tb p) t (Some v)))) (sym serves)
            (served_own a t (Some v) (a.reached n) ended v a.slot (record { version = v; bytes = a.hist v }) a.dirty p n (era_in w.node.view (partition c.config p)) tb (Some v) table step.entry))
            (beside_served c e n p s w tb a acts up own tabled t (Some v) ended a.slot (record { version = v; bytes = a.hist v }) a.dirty v table.here now)
            is;
        known = λ x on there. let bad : Some x ≡ None = sym there ∙ owner_empty in absurd (cc);
      }
    where
      table : TableIs a p n (era_in w.node.view (partition c.config p)) true tb
      table = as_served serves

      now : a.reached n ≡ a.era
      now = tabled.era_same ∙ table.now

      owner_empty : a.slot a.owner ≡ None
      owner_empty = ap a.slot (sym table.here) ∙ empty

      step : IsStepTo a (ended_as a t (a.reached n) v a.slot (record { version = v; bytes = a.hist v }) a.dirty) (end_tx (entry_at tb p) t (Some v))
      step =
          subst (λ (k : ℕ). IsStepTo a (ended_as a t k v a.slot (record { version = v; bytes = a.hist v }) a.dirty) (end_tx (entry_at tb p) t (Some v))) (sym now)
          (storing_as a t v (end_tx (entry_at tb p) t (Some v))
          ((change_is_step_law a (entry_at tb p) t v (served_entry a p n (era_in w.node.view (partition c.config p)) tb table) table.serves (ended ∙ ap (Ended (Some v)) now) taken).to_disk owner_empty))
