-- The change of a release of another page, seen from this one: copies may leave for it.
use Rattle.std.proofs.Common.{◌≡◌, ◌≢◌, refl, ap, sym, subst, ◌∙◌, ℕ, ◌<◌, ◌==◌, Bool, true, false, List, [], ◌∷◌, Option, Some, None, arith}
use Rattle.std.proofs.lemmas.Bool.Decides.{nat_tests}
use Rattle.pcl_base.specs.declared.event.Event.{Event}
use Rattle.pcl_base.specs.declared.message.Change.{Change}
use Rattle.text_rules.specs.StoredPage.{stored_bytes}
use Rattle.node_rules.specs.BufferRule.{copy_at}
use Rattle.node_rules.specs.DiskCalls.{WritePage}
use Rattle.node_rules.specs.LockRule.{LockEntry}
use Rattle.node_rules.specs.LockTable.{LockTable, put_entry}
use Rattle.node_rules.specs.NodeState.{partition, table_at}
use Rattle.node_rules.specs.OwnerRule.{dirty_copy, put_change, put_taken, with_table}
use Rattle.node_rules.specs.Words.{pick}
use Rattle.node_rules.specs.Work.{HomeWork, Work, work_of_home, with_home_work}
use Rattle.home_laws.specs.Homes.{IsHome}
use Rattle.cluster_rules.specs.Clusters.{Cluster}
use Rattle.page_laws.specs.Look.Buffers.{stored_copy}
use Rattle.page_laws.specs.Look.Ends.{HasChange, kept, stored}
use Rattle.page_laws.specs.Look.Parts.{SameLife}
use Rattle.page_laws.proofs.LookParts.Alike.{life_self}
use Rattle.page_laws.proofs.LookParts.Turning.{change_is_seen_law}
use Rattle.page_protocol.specs.State.{Page}
use Rattle.page_protocol.specs.Steps.{Reached, here}
use Rattle.page_relation.specs.Work.Events.{IsEntered}
use Rattle.page_relation.specs.Work.Keeping.{IsWorkOf, Leads}
use Rattle.page_relation.specs.Work.Landing.{Acts, disk_of}
use Rattle.page_relation.specs.Work.Letting.{CalledBy}
use Rattle.page_relation.specs.Work.Unseen.{SamePage, SameStored, IsUnseen}
use Rattle.page_relation.proofs.WorkParts.Framing.{page_self, unseen_is_kept_law}
use Rattle.page_relation.proofs.WorkParts.Letting.{letting_go_leads_law}
use Rattle.page_relation.proofs.WorkParts.Quiet.{calls_elsewhere_law, entries_elsewhere_law, homes_elsewhere_law}
use Rattle.page_relation.proofs.WorkParts.Storing.{page_beside}
use Rattle.end_relation.proofs.ReleaseParts.Midway.{put_same}
use Rattle.end_relation.proofs.ReleaseParts.Stored.{lets_calling, put_begins, put_called, put_stored}

-- where nothing more is seen
pub same_leads : (c : Cluster) (e : Event) (n p : ℕ) (a : Page) (w x : Work) → Acts c n → Leads c e n p (λ y b. IsEntered b) a w → IsUnseen c e n p w x → Leads c e n p (λ y b. IsEntered b) a x
same_leads c e n p a w x acts led same =
    record { page = led.page; run = led.run; related = unseen_is_kept_law c e n p w x led.page acts same led.related; known = led.known }

module _ (c : Cluster) (e : Event) (n p r : ℕ) (w : Work) (a : Page) (blank : List ℕ) (acts : Acts c n) (low : p < c.config.pages) (reached : Reached blank a) (is : IsWorkOf c e n p w a)
    (entered : IsEntered a) (home : IsHome w.node.home) (called : CalledBy n c.disk (work_of_home w)) (other : (r == p) ≡ false) where
  apart : p ≢ r
  apart same = absurd (grind (arith, nat_tests, other, same))

  put_elsewhere : (x : Change) → Leads c e n p (λ y b. IsEntered b) a (with_home_work w (put_change r x (work_of_home w)))
  put_elsewhere x = by (change_is_seen_law r x (work_of_home w) home)
    where
      put : HomeWork
      put = put_change r x (work_of_home w)

      by : HasChange r x (work_of_home w) (put_change r x (work_of_home w)) → Leads c e n p (λ y b. IsEntered b) a (with_home_work w (put_change r x (work_of_home w)))
      by (kept m lets beside copies pages) =
          same_leads c e n p a (with_home_work w left) (with_home_work w (put_change r x (work_of_home w))) acts
          (letting_go_leads_law c e n p r w left blank a acts low reached is entered (lets_calling r (put_change r x (work_of_home w)).calls (work_of_home w) m lets)
          (put_begins n c.disk r x (work_of_home w) called) called (sym pages ∙ put_called n c.disk r x (work_of_home w) called))
          (homes_elsewhere_law c e n p (with_home_work w left) (put_change r x (work_of_home w)) beside.life
          (page_beside p m.home (put_change r x (work_of_home w)).home beside
          (copies p ∙ ap (λ (b : Bool). pick b (Some (dirty_copy x)) (copy_at m.home.pool p)) other))
          (λ disk log old. old))
        where
          left : HomeWork
          left = record m { calls = (put_change r x (work_of_home w)).calls }
      by (stored none same pages) =
          record {
            page = a;
            run = here;
            related =
                unseen_is_kept_law c e n p w (with_home_work w (put_change r x (work_of_home w))) a acts
                (homes_elsewhere_law c e n p w (put_change r x (work_of_home w)) (subst (SameLife w.node.home) (sym same) (life_self w.node.home))
                (subst (SamePage p w.node.home) (sym same) (page_self p w.node.home))
                (subst (SameStored c.config p (disk_of c n w)) (sym (put_stored n c.disk r x (work_of_home w) called pages))
                (calls_elsewhere_law c n p w.calls (WritePage r (stored_bytes r (stored_copy (dirty_copy x))) ∷ []) (apart, tt))))
                is;
            known = entered;
          }

  pub taken_elsewhere : (taken : Bool) (o : Option Change) → Leads c e n p (λ y b. IsEntered b) a (put_taken taken r o w)
  taken_elsewhere true (Some x) = put_elsewhere x
  taken_elsewhere true None = record { page = a; run = here; related = is; known = entered }
  taken_elsewhere false o = record { page = a; run = here; related = is; known = entered }

-- what a change leaves of the node
pub taken_tables : (taken : Bool) (r : ℕ) (o : Option Change) (w : Work) → (put_taken taken r o w).node.tables ≡ w.node.tables
taken_tables true r (Some x) w = refl
taken_tables true r None w = refl
taken_tables false r o w = refl

pub taken_config : (taken : Bool) (r : ℕ) (o : Option Change) (w : Work) → (put_taken taken r o w).node.home.config ≡ w.node.home.config
taken_config true r (Some x) w = (put_same r x (work_of_home w)).config
taken_config true r None w = refl
taken_config false r o w = refl

-- an entry of another page
pub entry_elsewhere : (c : Cluster) (e : Event) (n p r : ℕ) (tb : LockTable) (y : LockEntry) (w : Work) → (r == p) ≡ false → w.node.home.config ≡ c.config
    → table_at w.node (partition c.config r) ≡ Some tb → IsUnseen c e n p w (with_table r (put_entry tb r y) w)
entry_elsewhere c e n p r tb y w other config there = entries_elsewhere_law c e n p r tb y w (λ same. absurd (grind (arith, nat_tests, other, same))) config there
