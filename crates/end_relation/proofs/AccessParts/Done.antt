-- An access that is done at once, at its page.
use Rattle.std.proofs.Common.{◌≡◌, refl, ap, sym, subst, ◌∙◌, ℕ, ◌+◌, ◌≤◌, true, false, List, length, Option, Some, None, is_some}
use Rattle.std.specs.Prelude.{IfSome}
use Rattle.pcl_base.specs.Limits.{Sizes}
use Rattle.pcl_base.specs.declared.event.Event.{Event}
use Rattle.pcl_base.specs.declared.lock.Held.{Held}
use Rattle.pcl_base.specs.declared.lock.Kind.{Kind}
use Rattle.pcl_base.specs.declared.lock.Kind.TheVariants as kind
use Rattle.pcl_base.specs.declared.tx.Mode.{Mode}
use Rattle.pcl_base.specs.declared.tx.Mode.TheVariants.{Shared, Exclusive}
use Rattle.pcl_base.specs.declared.tx.TxId.{TxId}
use Rattle.node_rules.specs.AccessRule.{Access, is_allowed, is_held, mode_of_write, perform}
use Rattle.node_rules.specs.BufferRule.{find}
use Rattle.node_rules.specs.InstallRule.{owned_before}
use Rattle.node_rules.specs.NodeState.{partition, number_of}
use Rattle.node_rules.specs.OpenTxs.{held_by, mode_held}
use Rattle.node_rules.specs.OwnerRule.{told}
use Rattle.node_rules.specs.Shelf as rules
use Rattle.node_rules.specs.Shelf.{right_on}
use Rattle.node_rules.specs.Words.{covers}
use Rattle.node_rules.specs.Work.{Work, work_of_home}
use Rattle.home_laws.specs.Homes.{IsHome, IsWithin}
use Rattle.home_laws.specs.Refused.{access_refusal}
use Rattle.home_laws.proofs.Covering.{covers_some}
use Rattle.cluster_rules.specs.Clusters.{Cluster}
use Rattle.page_laws.specs.Moment.Looks.{asked_last}
use Rattle.page_protocol.specs.Homes.{reading, reading_under, writing}
use Rattle.page_protocol.specs.State.{Home, Holding, Reading, Page, IsGranted}
use Rattle.page_protocol.specs.Steps.{Reached, Run, reads, writes_piece, here, then}
use Rattle.page_protocol.proofs.Basics.{upd_same}
use Rattle.page_relation.specs.Homes.{IsOpenAs, held_stand, shared_stand}
use Rattle.page_relation.specs.Work.Events.{IsEntered}
use Rattle.page_relation.specs.Work.Keeping.{IsWorkOf, Leads}
use Rattle.page_relation.specs.Work.Landing.{Acts, trace_of}
use Rattle.page_relation.proofs.WorkParts.Kept.{reached_on, leads_on}
use Rattle.end_relation.proofs.AccessParts.Framed.{framed, taken, owned, may, beside, opened, idle, writable, reader, has_right, reads_only}
use Rattle.end_relation.proofs.AccessParts.Looking.{idle_here}
use Rattle.end_relation.proofs.AccessParts.Reading.{read_related}
use Rattle.end_relation.proofs.AccessParts.Under.{under_step, under_related}
use Rattle.end_relation.proofs.AccessParts.Writing.{write_related}

-- who holds the page and waits for nothing may read it
shared_granted : (k : Kind) → IsGranted (shared_stand k None)
shared_granted kind.Own = tt
shared_granted kind.Registered = tt
shared_granted kind.Right = tt

held_granted : (m : Mode) (k : Kind) → IsGranted (held_stand m k None)
held_granted Exclusive k = tt
held_granted Shared k = shared_granted k

pub granted_as : (l : Option Held) (h : Home) → is_some l ≡ true → IsOpenAs l None h → IsGranted h
granted_as None h some is = absurd (cc)
granted_as (Some l) h some is = subst IsGranted (sym is.1) (held_granted l.mode l.kind)

-- and write it where the lock is exclusive
exclusive_as : (l : Held) (m : Mode) (h : Home) → covers (Some m) Exclusive ≡ true → h ≡ held_stand m l.kind None → h ≡ Holding Exclusive
exclusive_as l Exclusive h e is = is
exclusive_as l Shared h e is = absurd (cc)

pub writer_as : (l : Option Held) (h : Home) → covers (mode_held l) Exclusive ≡ true → IsOpenAs l None h → h ≡ Holding Exclusive
writer_as None h e is = absurd (cc)
writer_as (Some l) h e is = exclusive_as l l.mode h e is.1

reading_entered : (a : Page) (t : TxId) → IsEntered a → IsEntered (reading a t)
unfolding reading
reading_entered a t is = is

writing_entered : (a : Page) (t : TxId) (place : ℕ) (piece : List ℕ) → IsEntered a → IsEntered (writing a t place piece)
unfolding writing
writing_entered a t place piece is = is

under_entered : (a : Page) (t : TxId) → IsEntered a → IsEntered (reading_under a t)
unfolding reading_under
under_entered a t is = is

under_granted : (a : Page) (t : TxId) → IsGranted ((reading_under a t).home t)
unfolding reading_under
under_granted a t = subst IsGranted (sym (upd_same a.home t Reading)) tt

-- who may not read holds nothing
read_free : (l : Option Held) → covers (mode_held l) Shared ≡ false → l ≡ None
read_free None e = refl
read_free (Some l) e = by l.mode e
  where
    by : (m : Mode) → covers (Some m) Shared ≡ false → (let o : Option Held = Some l in o) ≡ None
    by Shared f = absurd (cc)
    by Exclusive f = absurd (cc)

read_mode : (o : Option (ℕ × List ℕ)) → is_some o ≡ false → mode_of_write o ≡ Shared
read_mode None e = refl
read_mode (Some write) e = absurd (cc)

module _ (c : Cluster) (e : Event) (n : ℕ) (acts : Acts c n) (x : Access) (w : Work) (home : IsHome w.node.home) (fine : access_refusal x w.node.home ≡ None) (at : x.tx.node ≡ n)
    (config : w.node.home.config ≡ c.config) (asked : asked_last x.tx (trace_of c e n w) ≡ x.write) (a : Page) (blank : List ℕ) (reached : Reached blank a)
    (related : IsWorkOf c e n x.page (framed x w home fine) a) (entered : IsEntered a) where
  abbrev y : Work
  y = framed x w home fine

  stands : IsOpenAs (held_by y.node.home.txs x.tx x.page) None (a.home x.tx)
  stands = idle_here c e n x.page acts y a related x.tx at (opened x w home fine) (idle x w home fine)

  covered : is_held x w.node.home ≡ true → covers (mode_held (held_by y.node.home.txs x.tx x.page)) (mode_of_write x.write) ≡ true
  covered held = ap (λ (o : Option Held). covers (mode_held o) (mode_of_write x.write)) ((beside x w home fine).locks.held x.tx x.page) ∙ held

  read_leads : (t : TxId) (b : Page) (z : Work) → Reached blank b → IsWorkOf c e n x.page z b → IsEntered b → t.node ≡ n → IsGranted (b.home t)
      → Leads c e n x.page (λ k b. IsEntered b) b (told z (perform t x.page None (work_of_home z)))
  read_leads t b z reach is enters mine granted =
      record {
        page = reading b t;
        run = then here (reads t granted);
        related = read_related c e n x.page acts z b blank reach is t mine;
        known = reading_entered b t enters;
      }

  -- it is held as it has to be
  pub held_leads : is_held x w.node.home ≡ true → Leads c e n x.page (λ k b. IsEntered b) a (told y (perform x.tx x.page x.write (work_of_home y)))
  held_leads held = by x.write refl
    where
      by : (o : Option (ℕ × List ℕ)) → x.write ≡ o → Leads c e n x.page (λ k b. IsEntered b) a (told y (perform x.tx x.page o (work_of_home y)))
      by None is =
          read_leads x.tx a y reached related entered at
          (granted_as (held_by y.node.home.txs x.tx x.page) (a.home x.tx) (covers_some (held_by y.node.home.txs x.tx x.page) (mode_of_write x.write) (covered held)) stands)
      by (Some write) is =
          record {
            page = writing a x.tx write.0 write.1;
            run = then here (writes_piece x.tx write.0 write.1 holds);
            related = write_related c e n x.page acts y a blank reached related x.tx at write holds (writable x w home fine held write is) within (asked ∙ is);
            known = writing_entered a x.tx write.0 write.1 entered;
          }
        where
          holds : a.home x.tx ≡ Holding Exclusive
          holds =
              writer_as (held_by y.node.home.txs x.tx x.page) (a.home x.tx)
              (subst (λ (o : Option (ℕ × List ℕ)). covers (mode_held (held_by y.node.home.txs x.tx x.page)) (mode_of_write o) ≡ true) is (covered held)) stands

          within : write.0 + length write.1 ≤ c.config.size
          within =
              subst (λ (k : Sizes). write.0 + length write.1 ≤ k.size) config
              (subst (λ (o : Option (ℕ × List ℕ)). IfSome o (IsWithin w.node.home.config.size)) is (may x w home fine).inside).1

  -- it is a read under the right of the node
  pub under_leads : is_held x w.node.home ≡ false → is_allowed x (owned x w home fine) w.node.home ≡ true
      → owned_before y.node.view (partition y.node.home.config x.page) (number_of y.node) ≡ false
      → Leads c e n x.page (λ k b. IsEntered b) a (told (reader x w home fine) (perform x.tx x.page None (work_of_home (reader x w home fine))))
  under_leads held allows away =
      leads_on c e n x.page (λ k b. IsEntered b) a (reading_under a x.tx) (told (reader x w home fine) (perform x.tx x.page None (work_of_home (reader x w home fine)))) first
      (read_leads x.tx (reading_under a x.tx) (reader x w home fine) (reached_on blank a (reading_under a x.tx) reached first)
      (under_related c e n x.page acts y a related x.tx at right.0 (opened x w home fine) (idle x w home fine) free right.1 right.2 away) (under_entered a x.tx entered) at
      (under_granted a x.tx))
    where
      right : (r : rules.Right) × (right_on (taken x w home fine).home.shelf x.page ≡ Some r) × (find (taken x w home fine).home.pool x.page ≡ Some r.version)
      right = has_right x w home fine allows

      free : held_by y.node.home.txs x.tx x.page ≡ None
      free =
          read_free (held_by y.node.home.txs x.tx x.page)
          (ap (covers (mode_held (held_by y.node.home.txs x.tx x.page))) (sym (read_mode x.write (reads_only x w home fine allows)))
          ∙ ap (λ (o : Option Held). covers (mode_held o) (mode_of_write x.write)) ((beside x w home fine).locks.held x.tx x.page) ∙ held)

      first : Run a (reading_under a x.tx)
      first =
          then here (under_step c e n x.page acts y a related x.tx at right.0 (opened x w home fine) (idle x w home fine) free right.1 right.2 away)
