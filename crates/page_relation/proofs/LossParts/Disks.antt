-- What calls on the storage make of a page's state, where nothing else changes.
use Rattle.std.proofs.Common.{◌≡◌, inl, inr, refl, sym, subst, ◌∙◌, ℕ, ◌<◌, true, false, List, [], ◌∷◌, length, Option, arith}
use Rattle.std.specs.List.{AllByRecursion}
use Rattle.run_rules.specs.Disk.{Disk, log_at}
use Rattle.node_rules.specs.CutRule.{cuttable}
use Rattle.node_rules.specs.DiskCalls.{DiskCall, WritePage, Force, TrimLog, CutLog, done, all_done}
use Rattle.node_rules.specs.Work.{Goes}
use Rattle.node_laws.proofs.Lists.{set_length}
use Rattle.cluster_rules.specs.Clusters.{Cluster}
use Rattle.cluster_laws.specs.Call.Calls.{IsWrite}
use Rattle.cluster_laws.specs.Era.Eras.{era_at, owner_at}
use Rattle.cluster_laws.specs.Link.Coming.{coming}
use Rattle.page_protocol.specs.Bytes.{Copy, Ranges}
use Rattle.page_protocol.specs.State.{Page}
use Rattle.page_protocol.specs.Steps.{Run, here, then, restores, cuts}
use Rattle.page_protocol.specs.Storage.{restoring, cutting}
use Rattle.page_protocol.proofs.Keeps.{and_then}
use Rattle.page_relation.specs.Looks.{slot_of, dirty_of, shelf_of}
use Rattle.page_relation.specs.Relation.{IsPageOf}
use Rattle.page_laws.specs.Storage.Looks.{IsStored, without}
use Rattle.page_laws.specs.Storage.Stored.{HasPage}
use Rattle.page_laws.specs.Storage.Machine.{at_version}
use Rattle.page_laws.proofs.StorageParts.AsSteps.{cuts_are_cutting_law}
use Rattle.page_laws.proofs.StorageParts.Calls.{written_is_stored_law, written_elsewhere_law}
use Rattle.page_relation.specs.Loss.Leads.{LeadsTo}
use Rattle.page_relation.specs.Loss.Writes.{IsVersion, WritesRise, NoWrites}

-- another storage
abbrev pub on_disk : Cluster → Disk → Cluster
on_disk c d = record c { disk = d }

pub disk_related : (c : Cluster) (p : ℕ) (a : Page) (d : Disk) (disk : Copy) (log : ℕ → ℕ → Option Ranges) → IsStored c.config d p disk log → IsPageOf c p a
    → IsPageOf (on_disk c d) p (record a { disk = disk; log = log })
unfolding slot_of dirty_of shelf_of era_at owner_at coming
disk_related c p a d disk log stored r =
    record {
      history = record { now_same = r.history.now_same; below = r.history.below; sizes = r.history.sizes };
      stored = stored;
      copies = record { slot_same = r.copies.slot_same; dirty_same = r.copies.dirty_same };
      homes =
          record {
            stands = r.homes.stands;
            kinds = r.homes.kinds;
            scripts = r.homes.scripts;
            images = r.homes.images;
            written = r.homes.written;
          };
      nodes = record { shelves = r.nodes.shelves; eras = r.nodes.eras };
      tables =
          record {
            tables = λ m. r.tables.tables m;
            serving = r.tables.serving;
            era =
                record {
                  epoch = r.tables.era.epoch;
                  low = r.tables.era.low;
                  made = r.tables.era.made;
                  era_there = r.tables.era.era_there;
                  owner_there = r.tables.era.owner_there;
                };
          };
      links = record { say = λ x y. r.links.say x y; ordered = r.links.ordered; once = r.links.once };
    }

-- ---- page writes

pub pages_done : (n : ℕ) (d : Disk) (call : DiskCall) → length (done n d call).pages ≡ length d.pages
unfolding done
pages_done n d (WritePage p bytes) = set_length d.pages p bytes
pages_done n d (Force t bytes) = refl
pages_done n d (TrimLog keep) = refl
pages_done n d (CutLog count) = refl

-- a page that is written
write_leads : (c : Cluster) (n p w : ℕ) (a : Page) (d : Disk) (bytes : List ℕ) → HasPage c.config d p → IsVersion a.hist a.now p a.disk.version bytes w → a.served ≡ false → IsPageOf (on_disk c d) p a
    → IsPageOf (on_disk c (done n d (WritePage p bytes))) p (restoring a w)
unfolding restoring
write_leads c n p w a d bytes has is off r =
    disk_related (on_disk c d) p a (done n d (WritePage p bytes)) (record { version = w; bytes = a.hist w }) a.log
    (subst (λ (b : List ℕ). IsStored c.config (done n d (WritePage p b)) p (record { version = w; bytes = a.hist w }) a.log) (sym is.made)
    (written_is_stored_law c.config d n p (at_version a w) a.disk a.log has (let high = is.most in let below = r.history.below in omega (arith, high, below)) r.stored)) r

-- page writes, one after the other
pub writes_lead : (c : Cluster) (n p : ℕ) (calls : List DiskCall) (a : Page) (d : Disk) → HasPage c.config d p → AllByRecursion IsWrite calls → WritesRise a.hist a.now p a.disk.version calls → a.served ≡ false
    → IsPageOf (on_disk c d) p a → LeadsTo a (on_disk c (all_done n d calls)) p
unfolding restoring
writes_lead c n p [] a d has all rise off r = record { page = a; run = here; related = r }
writes_lead c n p (WritePage q bytes ∷ calls) a d has all (inl other) off r =
    writes_lead c n p calls a (done n d (WritePage q bytes))
    (record { limits = has.limits; count = pages_done n d (WritePage q bytes) ∙ has.count; page = has.page }) all.1 other.1 off
    (disk_related (on_disk c d) p a (done n d (WritePage q bytes)) a.disk a.log (written_elsewhere_law c.config d n p q bytes a.disk a.log (λ same. other.0 (sym same)) r.stored) r)
writes_lead c n p (WritePage q bytes ∷ calls) a d has all (inr it) off r =
    let rest : LeadsTo (restoring a it.0) (on_disk c (all_done n (done n d (WritePage q bytes)) calls)) p =
    writes_lead c n p calls (restoring a it.0) (done n d (WritePage q bytes))
    (record { limits = has.limits; count = pages_done n d (WritePage q bytes) ∙ has.count; page = has.page }) all.1 it.3 off
    (subst (λ (k : ℕ). IsPageOf (on_disk c (done n d (WritePage k bytes))) p (restoring a it.0)) (sym it.1) (write_leads c n p it.0 a d bytes has it.2 off r)) in
    record {
      page = rest.page;
      run = and_then (then here (restores it.0 it.2.least it.2.most (λ on. (let bad : true ≡ false = sym on ∙ off in absurd (cc))))) rest.run;
      related = rest.related;
    }
writes_lead c n p (Force t bytes ∷ calls) a d has all rise off r = absurd all.0
writes_lead c n p (TrimLog keep ∷ calls) a d has all rise off r = absurd all.0
writes_lead c n p (CutLog count ∷ calls) a d has all rise off r = absurd all.0

-- writes of other pages
pub writes_elsewhere : (c : Cluster) (n p : ℕ) (calls : List DiskCall) (a : Page) (d : Disk) → AllByRecursion IsWrite calls → NoWrites p calls → IsPageOf (on_disk c d) p a
    → IsPageOf (on_disk c (all_done n d calls)) p a
writes_elsewhere c n p [] a d all none r = r
writes_elsewhere c n p (WritePage q bytes ∷ calls) a d all none r =
    writes_elsewhere c n p calls a (done n d (WritePage q bytes)) all.1 none.1
    (disk_related (on_disk c d) p a (done n d (WritePage q bytes)) a.disk a.log (written_elsewhere_law c.config d n p q bytes a.disk a.log (λ same. none.0 (sym same)) r.stored) r)
writes_elsewhere c n p (Force t bytes ∷ calls) a d all none r = absurd all.0
writes_elsewhere c n p (TrimLog keep ∷ calls) a d all none r = absurd all.0
writes_elsewhere c n p (CutLog count ∷ calls) a d all none r = absurd all.0

-- a cut
pub record Cuts (c : Cluster) (n p count : ℕ) (a : Page) : Type 0 where
  pub upto : ℕ
  pub run : Run a (cutting a n upto)
  pub related : IsPageOf (on_disk c (done n c.disk (CutLog count))) p (cutting a n upto)

pub cut_leads : (c : Cluster) (n p count : ℕ) (a : Page) → n < length c.disk.logs → cuttable c.config c.disk.pages (log_at c.disk n) ≡ Goes count → IsPageOf c p a → Cuts c n p count a
unfolding cutting
cut_leads c n p count a inside goes r =
    let cut = cuts_are_cutting_law c.config c.disk n p count a inside goes r.stored in
    record {
      upto = cut.upto;
      run = then here (cuts n cut.upto cut.on_disk);
      related = disk_related c p a (done n c.disk (CutLog count)) a.disk (without a.log n cut.upto) cut.left r;
    }
