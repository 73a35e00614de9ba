-- The views that nodes have seen, step by step.
use Rattle.std.proofs.Common.{◌≡◌, refl, ap, sym, subst, ◌∙◌, ℕ, zero, suc, ◌+◌, ◌<◌, ◌==◌, Bool, true, false, List, [], ◌∷◌, length, map, replicate, slice_index_or, slice_set, Option, Some, None, is_some, option_map, eqb-true, arith}
use Rattle.std.specs.Prelude.{IfSome}
use Rattle.std.specs.List.{AllByRecursion, list_any}
use Rattle.std.proofs.lemmas.Bool.Decides.{nat_tests}
use Rattle.pcl_base.specs.Limits.{Sizes}
use Rattle.pcl_base.specs.declared.event.Event.{Event}
use Rattle.pcl_base.specs.declared.event.Event.TheVariants as event
use Rattle.pcl_base.specs.declared.message.Message.{Message}
use Rattle.pcl_base.specs.declared.reply.Reply.{Reply}
use Rattle.pcl_base.specs.declared.reply.Reply.TheVariants as reply
use Rattle.pcl_base.specs.declared.trace.Entry.{Entry}
use Rattle.run_rules.specs.Words.{pick}
use Rattle.run_rules.specs.Account.{is_lost, lose_if, heard, after_entry}
use Rattle.run_rules.specs.Causes.{is_install, is_installed}
use Rattle.run_rules.specs.Ledger as ledger
use Rattle.run_rules.specs.Ledger.{Ledger, first_ledger, view_at, installed_at, actor}
use Rattle.run_rules.specs.Taking.{install_by, install_epoch}
use Rattle.run_rules.specs.Views.{View, first, since_of, count_from}
use Rattle.rule_laws.proofs.Successors.{first_is_whole_law}
use Rattle.node_rules.specs.NodeState.{NodeState, NodeEvent, number_of, first_node, start_node}
use Rattle.node_rules.specs.NodeState as node
use Rattle.node_laws.proofs.Lists.{set_look}
use Rattle.cluster_rules.specs.Clusters.{Cluster, opening, node_at, view_of_epoch}
use Rattle.cluster_rules.specs.Links.{head_at}
use Rattle.cluster_laws.specs.Handed.{handed_to}
use Rattle.account_relation.specs.Replies.{is_behind}
use Rattle.account_relation.specs.Seen.{IsSeenAt, IsSeenIn, AreSeen, OpeningIsSeen}
use Rattle.account_relation.proofs.Sights.{SameSeen, seen_self, seen_then, tells, heard_seen}
use Rattle.account_relation.proofs.Telling.{quiet_after}

-- ---- looks

again_look : {X : Type 0} (x : X) (k i : ℕ) → slice_index_or (replicate k x) i x ≡ x
again_look x zero i = refl
again_look x (suc k) zero = refl
again_look x (suc k) (suc i) = again_look x k i

again_there : {X : Type 0} (d x : X) (k i : ℕ) → i < k → slice_index_or (replicate k x) i d ≡ x
again_there d x zero i low = absurd (omega (arith, low))
again_there d x (suc k) zero low = refl
again_there d x (suc k) (suc i) low = again_there d x k i (omega (arith, low))

again_length : {X : Type 0} (x : X) (k : ℕ) → length (replicate k x) ≡ k
again_length x zero = refl
again_length x (suc k) = ap suc (again_length x k)

-- another item's place
pub other_place : {X : Type 0} (d : X) (xs : List X) (i j : ℕ) (y : X) → (j == i) ≡ false → slice_index_or (slice_set xs i y) j d ≡ slice_index_or xs j d
other_place d xs i j y other = set_look (λ z. z ≡ slice_index_or xs j d) d xs i j y (λ same. absurd (grind (arith, nat_tests, other, same))) refl

-- what is seen stays seen
pub at_moved : (k : ℕ) (l m : Ledger) (n : ℕ) (v : View) → SameSeen l m → IsSeenAt k l n v → IsSeenAt k m n v
at_moved k l m n v same is =
    record {
      seen = ap (λ (c : Sizes). slice_index_or m.seen n (first c)) same.config ∙ ap (λ vs. slice_index_or vs n (first l.config)) same.seen ∙ is.seen;
      since = λ q low own. ap (λ es. list_any (λ e. e == since_of v q) (slice_index_or es n [])) same.installed ∙ is.since q low own;
    }

pub in_moved : (k : ℕ) (l m : Ledger) (n : ℕ) (o : Option NodeState) → SameSeen l m → IsSeenIn k l n o → IsSeenIn k m n o
in_moved k l m n None same is = tt
in_moved k l m n (Some s) same is = by s.view is
  where
    by : (o : Option View) → IfSome o (IsSeenAt k l n) → IfSome o (IsSeenAt k m n)
    by None is = tt
    by (Some v) is = at_moved k l m n v same is

-- a ledger in which nothing else was seen, of a cluster with these nodes
pub all_moved : (c d : Cluster) (l m : Ledger) → d.config ≡ c.config → SameSeen l m → AreSeen c l → ((n : ℕ) → IsSeenIn c.config.nodes m n (node_at d n)) → AreSeen d m
all_moved c d l m sizes same are nodes =
    record {
      views = ap length same.seen ∙ are.views ∙ ap (λ (x : Sizes). x.nodes) (sym sizes);
      epochs = ap length same.installed ∙ are.epochs ∙ ap (λ (x : Sizes). x.nodes) (sym sizes);
      nodes = λ n. subst (λ (x : Sizes). IsSeenIn x.nodes m n (node_at d n)) (sym sizes) (nodes n);
    }

-- ---- the opening cluster

opened : (P : Option NodeState → Type 0) (c : Sizes) → P None → ((k : ℕ) → P (Some (first_node c k))) → (a k n : ℕ) → P (slice_index_or (map (λ i. Some (first_node c i)) (count_from a k)) n None)
unfolding count_from
opened P c none some a zero n = none
opened P c none some a (suc k) zero = some a
opened P c none some a (suc k) (suc n) = opened P c none some (a + 1) k n

first_seen : (c : Sizes) (n : ℕ) → IsSeenAt c.nodes (first_ledger c) n (first c)
first_seen c n =
    record {
      seen = again_look (first c) c.nodes n;
      since = λ q low own.
          let whole = first_is_whole_law c in
          let from = whole.since_from q low in
          let upto = whole.since_upto q low in
          let one : since_of (first c) q ≡ 1 = omega (arith, from, upto) in
          ap (λ es. list_any (λ e. e == since_of (first c) q) es) (again_there [] (1 ∷ []) c.nodes n (subst (λ k. k < c.nodes) own (whole.owner_known q low)))
          ∙ ap (λ x. list_any (λ e. e == x) (1 ∷ [])) one;
    }

pub opening_is_seen_law : OpeningIsSeen
unfolding opening first_node
opening_is_seen_law c =
    record {
      views = again_length (first c) c.nodes;
      epochs = again_length (1 ∷ []) c.nodes;
      nodes = λ n. opened (IsSeenIn c.nodes (first_ledger c) n) c tt (λ k. first_seen c n) 0 c.nodes n;
    }

-- ---- entries that tell no install

pub lost_seen : (b : Bool) (o : Option ℕ) (l : Ledger) → SameSeen l (lose_if b o l)
unfolding ledger.lose
lost_seen true None l = seen_self l
lost_seen true (Some n) l = record { config = refl; seen = refl; installed = refl }
lost_seen false o l = seen_self l

pub quiet_seen : (x : Entry) (l m : Ledger) → x.sent ≡ [] → AllByRecursion (λ r. tells x.event r ≡ false) x.replies → after_entry x l ≡ Some m → SameSeen l m
quiet_seen x l m none all after =
    subst (SameSeen l) (sym (quiet_after x l m none after)) (seen_then l (heard x l) _ (heard_seen x l all) (lost_seen (is_lost x) (actor x.event) (heard x l)))

pub tells_none : (e : Event) → is_install e ≡ false → (r : Reply) → tells e r ≡ false
tells_none e none (reply.Begun t) = refl
tells_none e none (reply.Committed t) = refl
tells_none e none (reply.Aborted t) = refl
tells_none e none (reply.Value t p v bytes) = refl
tells_none e none (reply.Done t p v) = refl
tells_none e none (reply.Waits t p) = refl
tells_none e none reply.Taken = refl
tells_none e none reply.Held = refl
tells_none e none reply.Dropped = refl
tells_none e none reply.Evicted = refl
tells_none e none reply.Flushed = refl
tells_none e none reply.Crashed = refl
tells_none e none reply.Armed = refl
tells_none e none (reply.Cut n) = refl
tells_none e none (reply.Viewed n) = refl
tells_none e none (reply.Installed n) = none
tells_none e none (reply.Reopened n) = refl
tells_none e none (reply.Serving q) = refl
tells_none e none (reply.Refused x) = refl

pub tells_behind : (e : Event) (r : Reply) → is_behind r ≡ true → tells e r ≡ false
tells_behind e (reply.Begun t) is = refl
tells_behind e (reply.Committed t) is = refl
tells_behind e (reply.Aborted t) is = refl
tells_behind e (reply.Value t p v bytes) is = refl
tells_behind e (reply.Done t p v) is = refl
tells_behind e (reply.Waits t p) is = refl
tells_behind e reply.Taken is = refl
tells_behind e reply.Held is = refl
tells_behind e reply.Dropped is = refl
tells_behind e reply.Evicted is = refl
tells_behind e reply.Flushed is = refl
tells_behind e reply.Crashed is = refl
tells_behind e reply.Armed is = refl
tells_behind e (reply.Cut n) is = refl
tells_behind e (reply.Viewed n) is = refl
tells_behind e (reply.Installed n) is = absurd (cc)
tells_behind e (reply.Reopened n) is = refl
tells_behind e (reply.Serving q) is = refl
tells_behind e (reply.Refused x) is = refl

-- ---- an install

-- the event that is handed where a view is installed
pub record Installs (c : Cluster) (s : NodeState) (ev : NodeEvent) : Type 0 where
  pub view : View
  pub there : view_of_epoch c.views (s.epoch + 1) ≡ Some view
  pub event : ev ≡ node.Install view

pub installs : (c : Cluster) (e : Event) (s : NodeState) (ev : NodeEvent) → is_install e ≡ true → handed_to c s e ≡ Some ev → Installs c s ev
installs c (event.Install m) s ev is h = by (view_of_epoch c.views (s.epoch + 1)) refl h
  where
    by : (o : Option View) → view_of_epoch c.views (s.epoch + 1) ≡ o → option_map node.Install o ≡ Some ev → Installs c s ev
    by None there h = absurd (cc)
    by (Some v) there h = record { view = v; there = there; event = (let same : node.Install v ≡ ev = cc in sym same) }
installs c (event.Begin m) s ev is h = absurd (cc)
installs c (event.Read t p) s ev is h = absurd (cc)
installs c (event.Write t p place bytes) s ev is h = absurd (cc)
installs c (event.Commit t) s ev is h = absurd (cc)
installs c (event.Abort t) s ev is h = absurd (cc)
installs c (event.Deliver from to) s ev is h = absurd (cc)
installs c (event.Evict m p) s ev is h = absurd (cc)
installs c (event.Flush m p) s ev is h = absurd (cc)
installs c (event.Crash m) s ev is h = absurd (cc)
installs c (event.View live owners) s ev is h = absurd (cc)
installs c event.Reopen s ev is h = absurd (cc)
installs c (event.Arm m call kept) s ev is h = absurd (cc)
installs c (event.Cut m) s ev is h = absurd (cc)

-- and only then
pub no_install : (c : Cluster) (e : Event) (s : NodeState) (v : View) → is_install e ≡ false → handed_to c s e ≡ Some (node.Install v) → ⊥
no_install c (event.Install m) s v none h = cc
no_install c (event.Begin m) s v none h = cc
no_install c (event.Read t p) s v none h = cc
no_install c (event.Write t p place bytes) s v none h = cc
no_install c (event.Commit t) s v none h = cc
no_install c (event.Abort t) s v none h = cc
no_install c (event.Deliver from to) s v none h = by (is_some s.view) (head_at c.links from to) h
  where
    by : (b : Bool) (o : Option Message) → pick b (option_map (node.Deliver from) o) None ≡ Some (node.Install v) → ⊥
    by false o h = cc
    by true None h = cc
    by true (Some m) h = cc
no_install c (event.Evict m p) s v none h = cc
no_install c (event.Flush m p) s v none h = cc
no_install c (event.Crash m) s v none h = cc
no_install c (event.View live owners) s v none h = cc
no_install c event.Reopen s v none h = cc
no_install c (event.Arm m call kept) s v none h = cc
no_install c (event.Cut m) s v none h = cc

pub by_install : (e : Event) (o : Option ℕ) (epoch : ℕ) (l : Ledger) → is_install e ≡ true → install_by e o epoch l ≡ install_epoch o epoch l
by_install (event.Install m) o epoch l is = refl
by_install (event.Begin m) o epoch l is = absurd (cc)
by_install (event.Read t p) o epoch l is = absurd (cc)
by_install (event.Write t p place bytes) o epoch l is = absurd (cc)
by_install (event.Commit t) o epoch l is = absurd (cc)
by_install (event.Abort t) o epoch l is = absurd (cc)
by_install (event.Deliver from to) o epoch l is = absurd (cc)
by_install (event.Evict m p) o epoch l is = absurd (cc)
by_install (event.Flush m p) o epoch l is = absurd (cc)
by_install (event.Crash m) o epoch l is = absurd (cc)
by_install (event.View live owners) o epoch l is = absurd (cc)
by_install event.Reopen o epoch l is = absurd (cc)
by_install (event.Arm m call kept) o epoch l is = absurd (cc)
by_install (event.Cut m) o epoch l is = absurd (cc)

pub installed_first : (e : ℕ) (r : Reply) → is_installed e r ≡ true → r ≡ reply.Installed e
installed_first e (reply.Installed f) is = ap reply.Installed (eqb-true f e is)
installed_first e (reply.Begun t) is = absurd (cc)
installed_first e (reply.Committed t) is = absurd (cc)
installed_first e (reply.Aborted t) is = absurd (cc)
installed_first e (reply.Value t p v bytes) is = absurd (cc)
installed_first e (reply.Done t p v) is = absurd (cc)
installed_first e (reply.Waits t p) is = absurd (cc)
installed_first e reply.Taken is = absurd (cc)
installed_first e reply.Held is = absurd (cc)
installed_first e reply.Dropped is = absurd (cc)
installed_first e reply.Evicted is = absurd (cc)
installed_first e reply.Flushed is = absurd (cc)
installed_first e reply.Crashed is = absurd (cc)
installed_first e reply.Armed is = absurd (cc)
installed_first e (reply.Cut n) is = absurd (cc)
installed_first e (reply.Viewed n) is = absurd (cc)
installed_first e (reply.Reopened n) is = absurd (cc)
installed_first e (reply.Serving q) is = absurd (cc)
installed_first e (reply.Refused x) is = absurd (cc)
