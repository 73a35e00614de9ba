-- The redo of a page for lost nodes: the machine's redo of that page, and nothing of others.
use Rattle.std.proofs.Common.{◌≡◌, ◌≢◌, refl, ap, sym, subst, ◌∙◌, ℕ, ◌==◌, nat_lt, Bool, true, false, List, [], ◌∷◌, ◌++◌, slice_index_or, Option, Some, Result, Ok, Err, arith}
use Rattle.std.proofs.lemmas.Bool.Decides.{nat_tests}
use Rattle.std.proofs.lemmas.List.Sums.{fold-append}
use Rattle.pcl_base.specs.Limits.{Sizes}
use Rattle.pcl_base.specs.declared.event.Event.{Event}
use Rattle.text_rules.specs.LogRecord.{records_of}
use Rattle.text_rules.specs.StoredPage.{BadNumber, PageAt, stored_bytes, stored_page}
use Rattle.run_rules.specs.Disk.{Disk, raw_page}
use Rattle.run_rules.specs.Redo.{records_in}
use Rattle.node_rules.specs.BufferRule.{cleaned, copy_at}
use Rattle.node_rules.specs.DiskCalls.{DiskCall, WritePage, all_done, done}
use Rattle.node_rules.specs.InstallRule.{redo_to, version_in, write_newer}
use Rattle.node_rules.specs.LockTable.{LockTable, entry_at, set_version}
use Rattle.node_rules.specs.NodeState.{number_of, put_table, table_at}
use Rattle.node_rules.specs.Words.{pick}
use Rattle.node_rules.specs.Work.{Goes, Work, page_or_differs, read_page, with_home_work, with_node, work_of_home}
use Rattle.cluster_rules.specs.Clusters.{Cluster}
use Rattle.page_laws.proofs.EntryParts.Tabled.{tables_are_seen_law}
use Rattle.page_laws.specs.Look.Buffers.{IsCleaned}
use Rattle.page_laws.proofs.LookParts.Copies.{cleaning_is_seen_law}
use Rattle.page_protocol.specs.Bytes.{Copy}
use Rattle.page_protocol.specs.State.{Page}
use Rattle.page_laws.specs.Storage.Looks.{copy_on, copy_read, page_of}
use Rattle.page_relation.specs.Work.Events.{IsEntered}
use Rattle.page_relation.specs.Work.Keeping.{IsWorkOf}
use Rattle.page_relation.specs.Work.Landing.{disk_of}
use Rattle.page_relation.specs.Work.Letting.{CalledBy}
use Rattle.page_relation.specs.Work.Unseen.{IsUnseen, SameEntry, SameTable}
use Rattle.page_relation.proofs.WorkParts.Called.{pushed}
use Rattle.page_relation.proofs.WorkParts.Framing.{life_self, page_self, unseen_then}
use Rattle.page_relation.proofs.WorkParts.Quiet.{calls_elsewhere_law, homes_elsewhere_law, tables_elsewhere_law}
use Rattle.page_relation.proofs.WorkParts.Storing.{page_beside, stored_is}
use Rattle.kept_relation.specs.Redoing.{IsSince, MayRedo, SameClaims}
use Rattle.kept_relation.proofs.Purged.{put_there}

-- ---- reading

read_as : (p : ℕ) (o : Result PageAt BadNumber) (disk : Copy) → copy_read o ≡ Some disk → page_or_differs p o ≡ Goes (page_of disk)
read_as p (Ok at) disk is =
    let same : record { version = at.version; bytes = at.bytes } ≡ disk = cc in
    ap (λ (k : Copy). Goes (page_of k)) same
read_as p (Err bad) disk is = absurd (cc)

-- the page that is read is the machine's
pub reads_disk : (c : Cluster) (e : Event) (n p : ℕ) (w : Work) (a : Page) → CalledBy n c.disk (work_of_home w) → IsWorkOf c e n p w a → read_page w.pages p ≡ Goes (page_of a.disk)
unfolding copy_on
reads_disk c e n p w a called is =
    ap (λ (ps : List (List ℕ)). read_page ps p) called ∙ read_as p (stored_page p (raw_page (disk_of c n w).pages p)) a.disk (stored_is c e n p w a is).disk_same

pub records_same : (c : Sizes) (d f : Disk) → f.logs ≡ d.logs → (ns : List ℕ) → records_in c f ns ≡ records_in c d ns
unfolding records_in
records_same c d f logs [] = refl
records_same c d f logs (m ∷ ns) =
    (λ i. records_of c (slice_index_or (logs i) m []) ++ records_same c d f logs ns i)

-- ---- another page

written_logs : (n : ℕ) (d : Disk) (calls : List DiskCall) (p : ℕ) (bytes : List ℕ) → (all_done n d (calls ++ WritePage p bytes ∷ [])).logs ≡ (all_done n d calls).logs
unfolding done
written_logs n d calls p bytes = ap (λ (x : Disk). x.logs) (fold-append (done n) d calls (WritePage p bytes ∷ []))

version_elsewhere : (p r v : ℕ) (t : LockTable) → (r == p) ≡ false → SameEntry p t (set_version t r v)
version_elsewhere p r v t other =
    record {
      serving = refl;
      entry = (tables_are_seen_law t).version r v p ∙ ap (λ (b : Bool). pick b (record (entry_at t r) { version = v }) (entry_at t p)) other;
      marks = λ m. refl;
    }

module _ (c : Cluster) (e : Event) (n p r : ℕ) (q : ℕ) (t : LockTable) (w : Work) (at : table_at w.node q ≡ Some t) (other : (r == p) ≡ false) where
  apart : p ≢ r
  apart same = absurd (grind (arith, nat_tests, other, same))

  entry_unseen : (v : ℕ) → IsUnseen c e n p w (with_node w (put_table w.node q (Some (set_version t r v))))
  entry_unseen v =
      tables_elsewhere_law c e n p q (Some (set_version t r v)) w
      (λ same. subst (λ (o : Option LockTable). SameTable p o (Some (set_version t r v))) (sym at) (version_elsewhere p r v t other))

  newer_unseen : (y : Bool) (k : PageAt) (x : Work) → IsUnseen c e n p x (with_home_work x (write_newer y r k (work_of_home x)))
  newer_unseen false k x = homes_elsewhere_law c e n p x (work_of_home x) (life_self x.node.home) (page_self p x.node.home) (λ disk log is. is)
  newer_unseen true k x =
      let seen : IsCleaned r x.node.home (write_newer true r k (work_of_home x)).home = cleaning_is_seen_law r x.node.home in
      homes_elsewhere_law c e n p x (write_newer true r k (work_of_home x)) seen.rest.life
      (page_beside p x.node.home (write_newer true r k (work_of_home x)).home seen.rest
      (seen.copies p ∙ ap (λ (b : Bool). pick b (cleaned (copy_at x.node.home.pool p)) (copy_at x.node.home.pool p)) other))
      (calls_elsewhere_law c n p x.calls (WritePage r (stored_bytes r k) ∷ []) (apart, tt))

  pub redo_unseen : (old new : PageAt) → IsUnseen c e n p w (redo_to q r old new w)
  redo_unseen old new =
      subst (λ (o : Option LockTable). IsUnseen c e n p w (with_home_work (with_node w (version_in q r new.version o w.node)) (write_newer (nat_lt old.version new.version) r new (work_of_home w))))
      (sym at)
      (unseen_then c e n p w (with_node w (put_table w.node q (Some (set_version t r new.version))))
      (with_home_work (with_node w (put_table w.node q (Some (set_version t r new.version)))) (write_newer (nat_lt old.version new.version) r new (work_of_home w)))
      (entry_unseen new.version) (newer_unseen (nat_lt old.version new.version) new (with_node w (put_table w.node q (Some (set_version t r new.version))))))

same_then : (a b d : Page) → SameClaims a b → SameClaims b d → SameClaims a d
same_then a b d x y = record { listed = y.listed ∙ x.listed; home = y.home ∙ x.home; right = y.right ∙ x.right; era = y.era ∙ x.era }

pub same_self : (a : Page) → SameClaims a a
same_self a = record { listed = refl; home = refl; right = refl; era = refl }

-- what is known of the work stays
module _ (c : Cluster) (n q : ℕ) (first : Work) (start : Page) where
  since_on : (w x : Work) (a b : Page) → IsSince first w start a → SameClaims a b → x.node.home.config ≡ w.node.home.config → number_of x.node ≡ number_of w.node → x.node.epoch ≡ w.node.epoch
      → x.node.view ≡ w.node.view → x.replies ≡ w.replies → x.sends ≡ w.sends → IsSince first x start b
  since_on w x a b i claims config number epoch view replies sends =
      record {
        claims = same_then start a b i.claims claims;
        standing =
            record {
              config = config ∙ i.standing.config;
              number = number ∙ i.standing.number;
              epoch = epoch ∙ i.standing.epoch;
              view = view ∙ i.standing.view;
            };
        replies = replies ∙ i.replies;
        sends = sends ∙ i.sends;
      }

  newer_may : (y : Bool) (r : ℕ) (k : PageAt) (v : ℕ) (w : Work) (a b : Page) → (i : MayRedo c n q first start w a) → IsEntered b → SameClaims a b
      → MayRedo c n q first start (with_home_work (with_node w (put_table w.node q (Some (set_version i.table r v)))) (write_newer y r k (work_of_home w))) b
  newer_may false r k v w a b i entered claims =
      record {
        since =
            since_on w (with_home_work (with_node w (put_table w.node q (Some (set_version i.table r v)))) (write_newer false r k (work_of_home w))) a b i.since claims refl refl refl refl refl refl;
        entered = entered;
        called = i.called;
        logs = i.logs;
        config = i.config;
        table = set_version i.table r v;
        there = put_there w.node.tables q i.table (Some (set_version i.table r v)) i.there;
        serving = i.serving;
      }
  newer_may true r k v w a b i entered claims =
      record {
        since =
            since_on w (with_home_work (with_node w (put_table w.node q (Some (set_version i.table r v)))) (write_newer true r k (work_of_home w))) a b i.since claims refl refl refl refl refl refl;
        entered = entered;
        called = pushed n c.disk w.pages w.calls r (stored_bytes r k) i.called;
        logs = written_logs n c.disk w.calls r (stored_bytes r k) ∙ i.logs;
        config = i.config;
        table = set_version i.table r v;
        there = put_there w.node.tables q i.table (Some (set_version i.table r v)) i.there;
        serving = i.serving;
      }

  pub redo_may : (r : ℕ) (old new : PageAt) (w : Work) (a b : Page) → MayRedo c n q first start w a → IsEntered b → SameClaims a b → MayRedo c n q first start (redo_to q r old new w) b
  redo_may r old new w a b i entered claims =
      subst (λ (o : Option LockTable). MayRedo c n q first start (with_home_work (with_node w (version_in q r new.version o w.node)) (write_newer (nat_lt old.version new.version) r new (work_of_home w))) b)
      (sym i.there) (newer_may (nat_lt old.version new.version) r new new.version w a b i entered claims)
