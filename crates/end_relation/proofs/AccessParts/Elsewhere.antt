-- An access of another page isn't seen.
use Rattle.std.proofs.Common.{◌≡◌, ◌≢◌, refl, ap, sym, ◌∙◌, ℕ, ◌==◌, ◌&&◌, Bool, true, false, List, Option, Some, None, is_some, arith, eqb-true}
use Rattle.std.proofs.lemmas.Bool.Decides.{nat_tests}
use Rattle.pcl_base.specs.declared.event.Event.{Event}
use Rattle.pcl_base.specs.declared.lock.Pending.{Pending}
use Rattle.pcl_base.specs.declared.tx.Mode.{Mode}
use Rattle.pcl_base.specs.declared.tx.TxId.{TxId}
use Rattle.node_rules.specs.AccessRule.{Access, bytes_read, mode_of_write, perform, under_right, version_or, waiting}
use Rattle.node_rules.specs.BufferRule.{find, has_private}
use Rattle.node_rules.specs.OpenTxs.{is_open, pending_of, waits_on}
use Rattle.node_rules.specs.OwnerRule.{told}
use Rattle.node_rules.specs.Shelf.{right_on}
use Rattle.node_rules.specs.Words.{pick, same_tx}
use Rattle.node_rules.specs.Work.{Work, work_of_home, with_home, with_home_work}
use Rattle.home_laws.proofs.Tests.{tx_equal}
use Rattle.cluster_rules.specs.Clusters.{Cluster}
use Rattle.page_laws.specs.Look.Accesses.{IsRead, IsWritten, IsUnderRight, IsWaiting}
use Rattle.page_laws.specs.Look.Ends.{version_of_right}
use Rattle.page_laws.specs.Look.Parts.{is_place}
use Rattle.page_laws.proofs.LookParts.Accessing.{reading_is_seen_law, writing_is_seen_law, reading_under_is_seen_law, waiting_is_seen_law}
use Rattle.page_laws.specs.Moment.Looks.{asked_last}
use Rattle.page_relation.specs.Homes.{wait_on}
use Rattle.page_relation.specs.Work.Landing.{trace_of}
use Rattle.page_relation.specs.Work.Unseen.{IsUnseen}
use Rattle.page_relation.proofs.WorkParts.Framing.{unseen_then}
use Rattle.page_relation.proofs.WorkParts.Quiet.{homes_elsewhere_law, reads_elsewhere_law, writes_elsewhere_law}
use Rattle.page_relation.proofs.WorkParts.Storing.{page_beside}

turned : (p q : ℕ) → (q == p) ≡ false → (p == q) ≡ false
turned p q other = by (p == q) refl
  where
    by : (b : Bool) → (p == q) ≡ b → b ≡ false
    by true is = absurd (let same : p ≡ q = eqb-true p q is in grind (arith, nat_tests, other, same))
    by false is = refl

and_none : (a b : Bool) → b ≡ false → (a && b) ≡ false
and_none true b e = e
and_none false b e = refl

elsewhere : (t u : TxId) (p q : ℕ) → (q == p) ≡ false → is_place t q u p ≡ false
elsewhere t u p q other = and_none (same_tx u t) (p == q) (turned p q other)

module _ (c : Cluster) (e : Event) (n p q : ℕ) (other : (q == p) ≡ false) (w : Work) (t : TxId) where
  apart : p ≢ q
  apart same = absurd (grind (arith, nat_tests, other, same))

  -- an access that is done
  pub read_elsewhere : IsUnseen c e n p w (told w (perform t q None (work_of_home w)))
  unfolding perform
  read_elsewhere =
      unseen_then c e n p w (with_home_work w (perform t q None (work_of_home w)).work) (told w (perform t q None (work_of_home w)))
      (homes_elsewhere_law c e n p w (perform t q None (work_of_home w)).work is.work.rest.life
      (page_beside p w.node.home (perform t q None (work_of_home w)).work.home is.work.rest (is.work.copies p)) (λ disk log old. old))
      (reads_elsewhere_law c e n p q (version_or (find w.node.home.pool q)) t (bytes_read w.node.home.pool t q) (with_home_work w (perform t q None (work_of_home w)).work) apart)
    where
      is : IsRead t q (work_of_home w) (perform t q None (work_of_home w))
      is = reading_is_seen_law t q (work_of_home w)

  pub write_elsewhere : (write : ℕ × List ℕ) → has_private w.node.home.pool t q ≡ true → asked_last t (trace_of c e n w) ≡ Some write
      → IsUnseen c e n p w (told w (perform t q (Some write) (work_of_home w)))
  unfolding perform
  write_elsewhere write there asked =
      unseen_then c e n p w (with_home_work w (perform t q (Some write) (work_of_home w)).work) (told w (perform t q (Some write) (work_of_home w)))
      (homes_elsewhere_law c e n p w (perform t q (Some write) (work_of_home w)).work is.life
      (record {
        uses =
            record {
              held = λ u. is.locks.held u p;
              waits = λ u. ap (λ (o : Option Pending). wait_on o p) (is.locks.waits u);
              bytes = λ u. is.other_bytes u p (elsewhere t u p q other);
              runs = λ u. is.other_runs u p (elsewhere t u p q other);
            };
        copy = is.copies p;
        right = ap version_of_right (is.rights p);
      })
      (λ disk log old. old))
      (writes_elsewhere_law c e n p q (version_or (find w.node.home.pool q)) t write (with_home_work w (perform t q (Some write) (work_of_home w)).work) apart asked)
    where
      is : IsWritten t q write (work_of_home w) (perform t q (Some write) (work_of_home w))
      is = writing_is_seen_law t q write (work_of_home w) there

  -- a read under the right of the node
  pub under_elsewhere : is_open w.node.home.txs t ≡ true → pending_of w.node.home.txs t ≡ None → is_some (right_on w.node.home.shelf q) ≡ true
      → IsUnseen c e n p w (with_home w (under_right t q w.node.home))
  under_elsewhere opened idle right =
      homes_elsewhere_law c e n p w (record (work_of_home w) { home = under_right t q w.node.home })
      (record { config = is.config; node = is.lock.named.0; born = is.lock.named.1; last = is.lock.named.2; alive = is.lock.alive })
      (record {
        uses =
            record {
              held = λ u. is.lock.other_held u p (elsewhere t u p q other);
              waits = λ u. ap (λ (o : Option Pending). wait_on o p) (waits u (same_tx u t) refl);
              bytes = λ u. is.privates.bytes u p;
              runs = λ u. is.privates.runs u p;
            };
        copy = is.copies p;
        right = ap version_of_right (is.other_rights p other);
      })
      (λ disk log old. old)
    where
      is : IsUnderRight t q w.node.home (under_right t q w.node.home)
      is = reading_under_is_seen_law t q w.node.home opened right

      waits : (u : TxId) (b : Bool) → same_tx u t ≡ b → pending_of (under_right t q w.node.home).txs u ≡ pending_of w.node.home.txs u
      waits u true same =
          let at : u ≡ t = tx_equal u t same in
          ap (pending_of (under_right t q w.node.home).txs) at
          ∙ is.lock.waits
          ∙ ap (λ (o : Option Pending). pick (waits_on o q) None o) idle
          ∙ sym (ap (pending_of w.node.home.txs) at ∙ idle)
      waits u false off = is.lock.other_waits u off

-- an access that waits
pub wait_elsewhere : (c : Cluster) (e : Event) (n p : ℕ) (x : Access) (w : Work) → (x.page == p) ≡ false → is_open w.node.home.txs x.tx ≡ true → pending_of w.node.home.txs x.tx ≡ None
    → IsUnseen c e n p w (with_home w (waiting x w.node.home))
wait_elsewhere c e n p x w other opened idle =
    homes_elsewhere_law c e n p w (record (work_of_home w) { home = waiting x w.node.home }) is.life
    (record {
      uses =
          record {
            held = λ u. is.held u p;
            waits = λ u. waits u (same_tx u x.tx) refl;
            bytes = λ u. is.privates.bytes u p;
            runs = λ u. is.privates.runs u p;
          };
      copy = is.copies p;
      right = ap version_of_right (is.rights p);
    })
    (λ disk log old. old)
  where
    is : IsWaiting x w.node.home (waiting x w.node.home)
    is = waiting_is_seen_law x w.node.home opened

    waits : (u : TxId) (b : Bool) → same_tx u x.tx ≡ b → wait_on (pending_of (waiting x w.node.home).txs u) p ≡ wait_on (pending_of w.node.home.txs u) p
    waits u true same =
        let at : u ≡ x.tx = tx_equal u x.tx same in
        ap (λ (v : TxId). wait_on (pending_of (waiting x w.node.home).txs v) p) at
        ∙ ap (λ (o : Option Pending). wait_on o p) is.waits
        ∙ ap (λ (b : Bool). pick b (let o : Option Mode = Some (mode_of_write x.write) in o) None) other
        ∙ sym (ap (λ (v : TxId). wait_on (pending_of w.node.home.txs v) p) at ∙ ap (λ (o : Option Pending). wait_on o p) idle)
    waits u false off = ap (λ (o : Option Pending). wait_on o p) (is.other_waits u off)
