-- A read under the right of the node.
use Rattle.std.proofs.Common.{◌≡◌, refl, ap, sym, subst, ◌∙◌, ℕ, Bool, true, false, Option, Some, None, is_some}
use Rattle.pcl_base.specs.declared.event.Event.{Event}
use Rattle.pcl_base.specs.declared.lock.Held.{Held}
use Rattle.pcl_base.specs.declared.lock.Kind.TheVariants as kind
use Rattle.pcl_base.specs.declared.lock.Pending.{Pending}
use Rattle.pcl_base.specs.declared.tx.Mode.TheVariants.{Shared}
use Rattle.pcl_base.specs.declared.tx.TxId.{TxId}
use Rattle.node_rules.specs.AccessRule.{under_right}
use Rattle.node_rules.specs.BufferRule as buffer
use Rattle.node_rules.specs.BufferRule.{find, copy_at, version_of_copy}
use Rattle.node_rules.specs.InstallRule.{owned_before}
use Rattle.node_rules.specs.NodeState.{partition, number_of}
use Rattle.node_rules.specs.OpenTxs.{is_open, held_by, pending_of, waits_on}
use Rattle.node_rules.specs.Shelf as rules
use Rattle.node_rules.specs.Shelf.{right_on}
use Rattle.node_rules.specs.Words.{pick}
use Rattle.node_rules.specs.Work.{Work, with_home}
use Rattle.cluster_rules.specs.Clusters.{Cluster, last_view}
use Rattle.page_laws.specs.Look.Accesses.{IsUnderRight}
use Rattle.page_laws.specs.Look.Ends.{version_of_right}
use Rattle.page_laws.specs.Look.Parts.{SameLife}
use Rattle.page_laws.proofs.LookParts.Accessing.{reading_under_is_seen_law}
use Rattle.page_protocol.specs.Bytes.{Copy}
use Rattle.page_protocol.specs.Homes.{reading_under}
use Rattle.page_protocol.specs.State.{Home, Fresh, Reading, Ended, Page, IsFresh}
use Rattle.page_protocol.specs.Steps.{Step, reads_under}
use Rattle.page_relation.specs.Homes.{wait_on, stand_of, KindFits, image_of}
use Rattle.page_relation.specs.Looks.{copy_in}
use Rattle.page_relation.specs.Work.Keeping.{IsWorkOf}
use Rattle.page_relation.specs.Work.Landing.{Acts}
use Rattle.page_relation.proofs.WorkParts.Spending.{shelf_is}
use Rattle.end_relation.specs.Access.Altered.{MayBecome}
use Rattle.end_relation.proofs.AccessParts.Looking.{apart, rules_apart, slot_of_tx, idle_here, stands_open}
use Rattle.end_relation.proofs.AccessParts.Standing.{StandsElsewhere, one_related}

-- from fresh
pub fresh_may : (h k : Home) → h ≡ Fresh → MayBecome h k
fresh_may h k fresh =
    record {
      asked = λ r e have is. absurd (is.begun (subst IsFresh (sym fresh) tt));
      ended = λ v e is. let bad : Fresh ≡ Ended v e = sym fresh ∙ is in absurd (cc);
    }

-- the version that is found is that of the copy
copy_found : (o : Option buffer.Copy) → (v : ℕ) → version_of_copy o ≡ Some v → (x : Copy) × (copy_in o ≡ Some x) × (x.version ≡ v)
copy_found None v e = absurd (cc)
copy_found (Some y) v e = let same : y.version ≡ v = cc in (record { version = y.version; bytes = y.bytes }, refl, same)

module _ (c : Cluster) (e : Event) (n p : ℕ) (acts : Acts c n) (w : Work) (a : Page) (related : IsWorkOf c e n p w a) (t : TxId) (mine : t.node ≡ n) (r : rules.Right)
    (opened : is_open w.node.home.txs t ≡ true) (idle : pending_of w.node.home.txs t ≡ None) (free : held_by w.node.home.txs t p ≡ None)
    (right : right_on w.node.home.shelf p ≡ Some r) (version : find w.node.home.pool p ≡ Some r.version)
    (not_own : owned_before w.node.view (partition w.node.home.config p) (number_of w.node) ≡ false) where
  abbrev pub under_work : Work
  under_work = with_home w (under_right t p w.node.home)

  abbrev lock : Held
  lock = record { page = p; mode = Shared; kind = kind.Right }

  under_seen : IsUnderRight t p w.node.home (under_right t p w.node.home)
  under_seen = reading_under_is_seen_law t p w.node.home opened (ap (λ (o : Option rules.Right). is_some o) right)

  pub fresh : a.home t ≡ Fresh
  fresh = (subst (λ (l : Option Held). (have : Option ℕ) × (a.home t ≡ stand_of l None have)) free (idle_here c e n p acts w a related t mine opened idle)).1

  under_life : SameLife w.node.home (under_right t p w.node.home)
  under_life =
      record { config = under_seen.config; node = under_seen.lock.named.0; born = under_seen.lock.named.1; last = under_seen.lock.named.2; alive = under_seen.lock.alive }

  under_stands : StandsElsewhere c p w (under_right t p w.node.home) a t Reading
  under_stands =
      record {
        may = fresh_may (a.home t) Reading fresh;
        life = under_life;
        held = λ u off. under_seen.lock.other_held u p (apart t u p off);
        waits = λ u off. ap (λ (o : Option Pending). wait_on o p) (under_seen.lock.other_waits u (rules_apart t u off));
        privates = under_seen.privates;
        copy = under_seen.copies p;
        right = ap version_of_right under_seen.right.now ∙ ap (λ (v : ℕ). Some v) under_seen.right.version ∙ sym (ap version_of_right under_seen.right.there);
        stands =
            stands_open under_work.node (last_view c).epoch p t Reading (Some lock) None (under_seen.lock.alive t ∙ opened) under_seen.lock.here
            (ap (λ (o : Option Pending). wait_on o p) (under_seen.lock.waits ∙ ap (λ (o : Option Pending). pick (waits_on o p) None o) idle)) (None, refl);
        kind = λ old. subst (KindFits owned_now) (sym under_seen.lock.here) (sym (owned_same ∙ not_own));
        image = λ bytes. sym (ap (λ (h : Home). image_of h bytes) fresh);
        reads = λ bad. absurd (cc);
      }
    where
      owned_now : Bool
      owned_now = owned_before under_work.node.view (partition under_work.node.home.config p) (number_of under_work.node)

      owned_same : owned_now ≡ owned_before w.node.view (partition w.node.home.config p) (number_of w.node)
      owned_same = (λ i. owned_before w.node.view (partition (under_life.config i) p) (under_life.node i))

  pub under_step : Step a (reading_under a t)
  under_step =
      let copy = copy_found (copy_at w.node.home.pool p) r.version version in
      reads_under t r.version copy.0 fresh (ap a.right mine ∙ shelf_is c e n p w a r acts right related) (sym (slot_of_tx c e n p acts w a related t mine) ∙ copy.1) copy.2

  pub under_related : IsWorkOf c e n p under_work (reading_under a t)
  unfolding reading_under
  under_related = one_related c e n p acts w a related t mine (under_right t p w.node.home) Reading under_stands
