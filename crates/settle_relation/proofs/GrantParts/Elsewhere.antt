-- A granted access of another page.
use Rattle.std.proofs.Common.{◌≡◌, ◌≢◌, refl, ap, sym, subst, ℕ, ◌==◌, ◌&&◌, Bool, true, false, List, Option, Some, None, arith}
use Rattle.std.proofs.lemmas.Bool.Decides.{nat_tests}
use Rattle.pcl_base.specs.declared.lock.Pending.{Pending}
use Rattle.pcl_base.specs.declared.reply.Reply.{Reply}
use Rattle.pcl_base.specs.declared.tx.TxId.{TxId}
use Rattle.node_rules.specs.AccessRule.{Granted, bytes_read, perform, version_or}
use Rattle.node_rules.specs.BufferRule.{find}
use Rattle.node_rules.specs.DiskCalls.{DiskCall, all_done}
use Rattle.node_rules.specs.OwnerRule.{told}
use Rattle.node_rules.specs.Words.{same_tx}
use Rattle.node_rules.specs.Work.{HomeWork, Work, reply, with_home_work, work_of_home}
use Rattle.home_laws.proofs.Tests.{number_turned}
use Rattle.cluster_rules.specs.Clusters.{Cluster}
use Rattle.page_laws.specs.Look.Accesses.{IsRead, IsWritten}
use Rattle.page_laws.specs.Look.Ends.{version_of_right}
use Rattle.page_laws.specs.Look.Parts.{is_place}
use Rattle.page_laws.proofs.LookParts.Accessing.{reading_is_seen_law, writing_is_seen_law}
use Rattle.page_relation.specs.Homes.{wait_on}
use Rattle.page_relation.specs.Work.Landing.{disk_of}
use Rattle.page_relation.specs.Work.Unseen.{SamePage, SameStored, IsUnseen}
use Rattle.page_relation.proofs.WorkParts.Framing.{unseen_then}
use Rattle.page_relation.proofs.WorkParts.Quiet.{homes_elsewhere_law, reads_elsewhere_law, writes_elsewhere_law}
use Rattle.page_relation.proofs.WorkParts.Storing.{page_beside}
use Rattle.settle_relation.specs.Grant.Performing.{PerformsElsewhere}
use Rattle.settle_relation.proofs.GrantParts.Performing.{same_calls}

and_none : (a b : Bool) → b ≡ false → (a && b) ≡ false
and_none true b e = e
and_none false b e = refl

elsewhere : (t u : TxId) (p q : ℕ) → (q == p) ≡ false → is_place t q u p ≡ false
elsewhere t u p q other = and_none (same_tx u t) (p == q) (number_turned q p other)

-- a write of another page leaves what a home has of the page
pub written_elsewhere : (p q : ℕ) (t : TxId) (write : ℕ × List ℕ) (v : HomeWork) (g : Granted) → (q == p) ≡ false → IsWritten t q write v g → SamePage p v.home g.work.home
written_elsewhere p q t write v g other is =
    record {
      uses =
          record {
            held = λ u. is.locks.held u p;
            waits = λ u. ap (λ (o : Option Pending). wait_on o p) (is.locks.waits u);
            bytes = λ u. is.other_bytes u p (elsewhere t u p q other);
            runs = λ u. is.other_runs u p (elsewhere t u p q other);
          };
      copy = is.copies p;
      right = ap version_of_right (is.rights p);
    }

stored_by : (c : Cluster) (n p : ℕ) (w : Work) (calls : List DiskCall) → calls ≡ w.calls → SameStored c.config p (disk_of c n w) (all_done n c.disk calls)
stored_by c n p w calls same = subst (λ (ds : List DiskCall). SameStored c.config p (disk_of c n w) (all_done n c.disk ds)) (sym same) (λ disk log is. is)

pub performs_elsewhere_law : PerformsElsewhere
performs_elsewhere_law c e n p t q None w other may =
    unseen_then c e n p w (with_home_work w g.work) (told w g)
    (homes_elsewhere_law c e n p w g.work is.work.rest.life (page_beside p w.node.home g.work.home is.work.rest (is.work.copies p))
    (stored_by c n p w g.work.calls (same_calls t q None (work_of_home w))))
    (subst (λ (r : Reply). IsUnseen c e n p (with_home_work w g.work) (reply r (with_home_work w g.work))) (sym is.reply)
    (reads_elsewhere_law c e n p q (version_or (find w.node.home.pool q)) t (bytes_read w.node.home.pool t q) (with_home_work w g.work) apart))
  where
    g : Granted
    g = perform t q None (work_of_home w)

    is : IsRead t q (work_of_home w) g
    is = reading_is_seen_law t q (work_of_home w)

    apart : p ≢ q
    apart same = absurd (grind (arith, nat_tests, other, same))
performs_elsewhere_law c e n p t q (Some write) w other may =
    unseen_then c e n p w (with_home_work w g.work) (told w g)
    (homes_elsewhere_law c e n p w g.work is.life (written_elsewhere p q t write (work_of_home w) g other is)
    (stored_by c n p w g.work.calls (same_calls t q (Some write) (work_of_home w))))
    (subst (λ (r : Reply). IsUnseen c e n p (with_home_work w g.work) (reply r (with_home_work w g.work))) (sym is.reply)
    (writes_elsewhere_law c e n p q (version_or (find w.node.home.pool q)) t write (with_home_work w g.work) apart may.1))
  where
    g : Granted
    g = perform t q (Some write) (work_of_home w)

    is : IsWritten t q write (work_of_home w) g
    is = writing_is_seen_law t q write (work_of_home w) may.0

    apart : p ≢ q
    apart same = absurd (grind (arith, nat_tests, other, same))
