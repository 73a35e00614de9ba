-- A node that crashes.
use Rattle.std.proofs.Common.{◌≡◌, ◌≢◌, refl, sym, subst, ◌∙◌, ℕ, ◌==◌, ◌&&◌, eqb, Bool, true, false, List, [], ◌∷◌, Option, None, arith}
use Rattle.std.proofs.lemmas.Bool.Decides.{nat_tests}
use Rattle.pcl_base.specs.declared.event.Event.TheVariants as event
use Rattle.pcl_base.specs.declared.reply.Reply.TheVariants as reply
use Rattle.pcl_base.specs.declared.trace.Entry.{Entry}
use Rattle.run_rules.specs.Base.{Base}
use Rattle.node_rules.specs.Words.{pick}
use Rattle.node_rules.specs.DiskCalls.{Stop}
use Rattle.cluster_rules.specs.Clusters.{Cluster, lose}
use Rattle.cluster_rules.specs.Links.{Links, link_at}
use Rattle.cluster_laws.specs.Sound.{IsCluster}
use Rattle.cluster_laws.proofs.LinkParts.Linked.{cleared_links_law}
use Rattle.page_laws.specs.Moment.Looks.{HasPage, with_entry}
use Rattle.page_protocol.specs.Eras.{crashed, crashing, falling}
use Rattle.page_protocol.specs.Invariant.{Inv}
use Rattle.page_protocol.specs.State as machine
use Rattle.page_protocol.specs.State.{Home, Page, current}
use Rattle.page_protocol.specs.Steps.{Run, here, then, crashes, falls, Reached}
use Rattle.page_protocol.proofs.Keeps.{reached_holds}
use Rattle.page_relation.specs.Relation.{IsPageOf}
use Rattle.page_relation.specs.Loss.Laws.{CrashedIsRelated}
use Rattle.page_relation.proofs.LossParts.Lost.{HomeAfter, crashed_closes}
use Rattle.page_relation.proofs.LossParts.Losing.{Left, left_cluster, IsLeft, page_left}
use Rattle.page_relation.proofs.LossParts.Told.{TellsLittle, little_told, reply_adds_none}

-- what a crash leaves of a page, served or not
abbrev pub crash_left : Page → ℕ → Bool → Bool → Left
crash_left a n served dirty =
    record {
      now = a.now;
      hist = a.hist;
      committed = a.committed;
      disk = a.disk;
      log = a.log;
      home = λ t. machine.pick (eqb t.node n) (crashed (a.home t)) (a.home t);
      slot = machine.updn a.slot n None;
      served = served;
      dirty = dirty;
    }

-- the owner that serves has the only dirty copy
pub record Serves (a : Page) (n : ℕ) (served dirty : Bool) : Type 0 where
  pub served_on : a.served ≡ true → (a.owner == n) ≡ false → served ≡ true
  pub serving : served ≡ true → (a.served ≡ true) × ((a.owner == n) ≡ false)
  pub dirty_lost : (m : ℕ) → (m == n) ≡ true → (dirty && m == a.owner) ≡ false
  pub dirty_kept : (m : ℕ) → (m == n) ≡ false → (dirty && m == a.owner) ≡ (a.dirty && m == a.owner)

same_number : (m n o : ℕ) → (m == n) ≡ true → (m == o) ≡ (o == n)
same_number m n o e = by (m == o) (o == n) refl refl
  where
    by : (x y : Bool) → (m == o) ≡ x → (o == n) ≡ y → x ≡ y
    by true true q r = refl
    by false false q r = refl
    by true false q r = absurd (grind (arith, nat_tests, e, q, r))
    by false true q r = absurd (grind (arith, nat_tests, e, q, r))

-- the owner that serves is lost
pub fallen_serves : (a : Page) (n : ℕ) → (a.owner == n) ≡ true → Serves a n false false
fallen_serves a n own =
    record {
      served_on = λ on other. (let bad : true ≡ false = sym own ∙ other in absurd (cc));
      serving = λ on. absurd (cc);
      dirty_lost = λ m e. refl;
      dirty_kept = λ m e. sym (off (a.dirty) (m == a.owner) (λ same. (let bad : true ≡ false = sym (is_lost m same) ∙ e in absurd (cc))));
    }
  where
    is_lost : (m : ℕ) → (m == a.owner) ≡ true → (m == n) ≡ true
    is_lost m same = same_number m a.owner n same ∙ (let is : (n == a.owner) ≡ true = grind (arith, nat_tests, own) in is)

    off : (x y : Bool) → (y ≡ true → ⊥) → (x && y) ≡ false
    off true true f = absurd (f refl)
    off true false f = refl
    off false y f = refl

-- another node is lost, or nobody serves
pub other_serves : (a : Page) (n : ℕ) → (a.served && a.owner == n) ≡ false → (a.dirty ≡ true → a.served ≡ true) → Serves a n a.served a.dirty
other_serves a n apart dirty =
    record {
      served_on = λ on other. on;
      serving = λ on. (on, second a.served (a.owner == n) on apart);
      dirty_lost = λ m e. off a.dirty (m == a.owner) (λ is same. (let bad : false ≡ true = sym (second a.served (a.owner == n) (dirty is) apart) ∙ sym (same_number m n a.owner e) ∙ same in absurd (cc)));
      dirty_kept = λ m e. refl;
    }
  where
    second : (x y : Bool) → x ≡ true → (x && y) ≡ false → y ≡ false
    second true y e f = f
    second false y e f = absurd (cc)

    off : (x y : Bool) → (x ≡ true → y ≡ true → ⊥) → (x && y) ≡ false
    off true true f = absurd (f refl refl)
    off true false f = refl
    off false y f = refl

pub and_second : (x y : Bool) → (x && y) ≡ true → y ≡ true
and_second true y e = e
and_second false y e = absurd (cc)

-- a node that isn't the owner that serves
pub apart_from : (a : Page) (n : ℕ) → (a.served && a.owner == n) ≡ false → a.served ≡ true → n ≢ a.owner
apart_from a n off on same = of a.served (a.owner == n) on (let is : (a.owner == n) ≡ true = grind (arith, nat_tests, same) in is) off
  where
    of : (x y : Bool) → x ≡ true → y ≡ true → (x && y) ≡ false → ⊥
    of true true e f g = absurd (cc)
    of true false e f g = absurd (cc)
    of false y e f g = absurd (cc)

-- where only that node could serve, nobody does
pub not_served : (a : Page) (n : ℕ) → (a.served && a.owner == n) ≡ false → (a.served ≡ true → a.owner ≡ n) → a.served ≡ false
not_served a n other mine = by a.served refl
  where
    by : (b : Bool) → a.served ≡ b → a.served ≡ false
    by true on = absurd (apart_from a n other on (sym (mine on)))
    by false off = off

-- the state of a page once a node is lost, with what stays of it
pub record Loses (a : Page) (d : Cluster) (p n : ℕ) : Type 0 where
  pub page : Page
  pub run : Run a page
  pub related : IsPageOf d p page
  pub hist : page.hist ≡ a.hist
  pub now : page.now ≡ a.now
  pub disk : page.disk ≡ a.disk
  pub off : (a.served ≡ true → a.owner ≡ n) → page.served ≡ false

module _ (blank : List ℕ) (c : Cluster) (p n : ℕ) (ls : Links) (ss : List (Option Stop)) (trace : List Entry) (a : Page) where
  crash_is : (served dirty : Bool) → TellsLittle c.config n c.trace trace → Serves a n served dirty → IsPageOf c p a → IsLeft c p n c.disk trace a (crash_left a n served dirty)
  crash_is served dirty tells serves r =
      record {
        history =
            record {
              now_same = subst (λ (o : Option Base). HasPage o p (current a)) (sym tells.now_same) r.history.now_same;
              below = r.history.below;
              sizes = r.history.sizes;
            };
        stored = r.stored;
        scripts = λ t. r.homes.scripts t ∙ sym (tells.accesses t p);
        homes = λ t. by (a.home t) (t.node == n);
        page_same = λ t other holds. refl;
        hist_same = λ v le. refl;
        slots = λ m. refl;
        served = serves.served_on;
        serving = serves.serving;
        dirty_lost = serves.dirty_lost;
        dirty_kept = serves.dirty_kept;
      }
    where
      by : (h : Home) (b : Bool) → HomeAfter b h (machine.pick b (crashed h) h)
      by h true = crashed_closes h
      by h false = refl

  -- the loss of a node is a crash, before which the authority falls where the node serves
  pub loss_leads : IsCluster c → Reached blank a → IsPageOf c p a → TellsLittle c.config n c.trace trace → ((x y : ℕ) → link_at ls x y ≡ pick (y == n) [] (link_at c.links x y))
      → Loses a (left_cluster c n ls c.disk ss trace) p n
  unfolding crashing falling
  loss_leads i reached r tells cleared = by (a.served && a.owner == n) refl
    where
      inv : Inv blank a
      inv = reached_holds blank a reached

      by : (b : Bool) → (a.served && a.owner == n) ≡ b → Loses a (left_cluster c n ls c.disk ss trace) p n
      by true own =
          record {
            page = crashing (falling a) n;
            run = then (then here falls) (crashes n (λ on. absurd (cc)));
            related = page_left blank c p n ls c.disk ss trace a (crash_left a n false false) i inv
                (crash_is false false tells (fallen_serves a n (and_second a.served (a.owner == n) own)) r) r cleared;
            hist = refl;
            now = refl;
            disk = refl;
            off = λ mine. refl;
          }
      by false other =
          record {
            page = crashing a n;
            run = then here (crashes n (apart_from a n other));
            related = page_left blank c p n ls c.disk ss trace a (crash_left a n a.served a.dirty) i inv
                (crash_is a.served a.dirty tells (other_serves a n other inv.kept_holds.dirty_served) r) r cleared;
            hist = refl;
            now = refl;
            disk = refl;
            off = λ mine. not_served a n other mine;
          }

pub crashed_is_related_law : CrashedIsRelated
unfolding lose
crashed_is_related_law blank c n p a i reached r =
    let lost = loss_leads blank c p n _ _ (with_entry c.trace (event.Crash n) (reply.Crashed ∷ []) []) a i reached r
    (little_told c.config n c.trace (with_entry c.trace (event.Crash n) (reply.Crashed ∷ []) []) (reply_adds_none c.trace (event.Crash n) reply.Crashed refl refl refl))
    (λ x y. cleared_links_law c.links n x y) in
    record { page = lost.page; run = lost.run; related = lost.related }
