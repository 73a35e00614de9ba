-- Clusters that are related stay so where nothing changes, a node crashes, or a view is made.
use Rattle.std.proofs.Common.{◌≡◌, refl, sym, subst, ℕ, ◌-◌, ◌==◌, Bool, false, List, [], ◌∷◌, slice_set, Option, Some, None, Ok}
use Rattle.std.specs.List.{list_any}
use Rattle.pcl_base.specs.declared.event.Event.{Event}
use Rattle.pcl_base.specs.declared.event.Event.TheVariants as event
use Rattle.pcl_base.specs.declared.reply.Reply.TheVariants as reply
use Rattle.pcl_base.specs.declared.reply.Reason.{Reason}
use Rattle.pcl_base.specs.declared.trace.Entry.{Entry}
use Rattle.run_rules.specs.Views.{View, next, reopen}
use Rattle.node_rules.specs.DiskCalls.{Stop}
use Rattle.cluster_rules.specs.Clusters.{Cluster, node_at, is_up, last_view, answer, lose}
use Rattle.cluster_rules.specs.Links.{link_at, clear_into}
use Rattle.node_rules.specs.Words.{pick}
use Rattle.node_laws.proofs.Lists.{all_weaker}
use Rattle.cluster_rules.specs.ClusterStep.{refuse, arm, all_nodes, returning, drops_up, make_view, make_reopened}
use Rattle.cluster_laws.specs.Sound.{IsCluster}
use Rattle.cluster_laws.proofs.Changes.{noted, lost, with_stop}
use Rattle.cluster_laws.proofs.LinkParts.Linked.{cleared_links_law}
use Rattle.page_laws.specs.Moment.Looks.{with_entry, Adds}
use Rattle.page_laws.proofs.MomentParts.Entries.{refused_adds_nothing_law}
use Rattle.page_laws.proofs.MomentParts.Growing.{nothing_tells_law}
use Rattle.page_protocol.specs.Steps.{here}
use Rattle.page_relation.specs.Together.{IsParty, IsRelated}
use Rattle.page_relation.specs.Loss.Laws.{QuietEventsKeepRelated}
use Rattle.page_relation.proofs.LossParts.Beside.{waits_same, asked_left, logs_left, order_left, parties_left, asked_viewed, logs_viewed, order_viewed, parties_viewed}
use Rattle.page_relation.proofs.LossParts.Crashes.{crashed_is_related_law}
use Rattle.page_relation.proofs.LossParts.Pages.{pages_lead}
use Rattle.page_relation.proofs.LossParts.Quiet.{trace_related}
use Rattle.page_relation.proofs.LossParts.Told.{little_told, reply_adds_none}
use Rattle.page_relation.proofs.LossParts.Viewing.{viewed, IsViewed, page_viewed}
use Rattle.page_relation.proofs.LossParts.Views.{as_viewed, is_viewed, is_reopened}

module _ (blank : List ℕ) (c : Cluster) (r : IsRelated blank c) where
  -- other stops, and a trace that tells nothing more
  trace_whole : (ss : List (Option Stop)) (trace : List Entry) → IsCluster (record c { stops = ss; trace = trace }) → Adds c.trace [] trace → IsRelated blank (record c { stops = ss; trace = trace })
  trace_whole ss trace i adds =
      record {
        cluster = i;
        asked = λ t. waits_same c (record c { stops = ss; trace = trace }) t (node_at c t.node) ((nothing_tells_law c.config c.trace trace adds).asked t) (r.asked t);
        logs = r.logs;
        order = record { behind = r.order.behind; rising = r.order.rising };
        parties = λ x y. all_weaker (IsParty c x y) (IsParty (record c { stops = ss; trace = trace }) x y) (λ m is. record { view = is.view; made = is.made; live = is.live; parties = is.parties }) (link_at c.links x y) (r.parties x y);
        pages = pages_lead blank c (record c { stops = ss; trace = trace }) r.pages refl
            (λ p low.
            record {
              page = r.pages.page p;
              run = here;
              related = trace_related c 0 p (r.pages.page p) ss trace (little_told c.config 0 c.trace trace adds) (r.pages.related p low);
            });
      }

  refused_whole : (e : Event) (reason : Reason) → IsRelated blank (refuse e reason c)
  refused_whole e reason =
      trace_whole c.stops (with_entry c.trace e (reply.Refused reason ∷ []) []) (noted e (reply.Refused reason ∷ []) [] None c r.cluster) (refused_adds_nothing_law c.trace e reason [])

  armed_whole : (n call kept : ℕ) → IsRelated blank (arm (event.Arm n call kept) n call kept c)
  armed_whole n call kept =
      trace_whole _ (with_entry c.trace (event.Arm n call kept) (reply.Armed ∷ []) [])
      (noted (event.Arm n call kept) (reply.Armed ∷ []) [] None _ (with_stop n (Some (record { before = call - 1; kept = kept })) c r.cluster))
      (reply_adds_none c.trace (event.Arm n call kept) reply.Armed refl refl refl)

  crashed_whole : (n : ℕ) → IsRelated blank (answer (event.Crash n) reply.Crashed (lose n c))
  unfolding lose
  crashed_whole n =
      record {
        cluster = noted (event.Crash n) (reply.Crashed ∷ []) [] None (lose n c) (lost n c r.cluster);
        asked = asked_left c n (clear_into c.links n) c.disk (slice_set c.stops n None) trace (λ t other. (nothing_tells_law c.config c.trace trace adds).asked t) r.asked;
        logs = logs_left c n (clear_into c.links n) c.disk (slice_set c.stops n None) trace (λ m other. refl) r.logs;
        order = order_left c n (clear_into c.links n) c.disk (slice_set c.stops n None) trace cleared r.order;
        parties = parties_left c n (clear_into c.links n) c.disk (slice_set c.stops n None) trace cleared r.parties;
        pages = pages_lead blank c (answer (event.Crash n) reply.Crashed (lose n c)) r.pages refl
            (λ p low. crashed_is_related_law blank c n p (r.pages.page p) r.cluster (r.pages.reached p low) (r.pages.related p low));
      }
    where
      trace : List Entry
      trace = with_entry c.trace (event.Crash n) (reply.Crashed ∷ []) []

      adds : Adds c.trace [] trace
      adds = reply_adds_none c.trace (event.Crash n) reply.Crashed refl refl refl

      cleared : (x y : ℕ) → link_at (clear_into c.links n) x y ≡ pick (y == n) [] (link_at c.links x y)
      cleared x y = cleared_links_law c.links n x y

  viewed_whole : (ns : List ℕ) (v : View) (trace : List Entry) → IsViewed c ns v trace → Adds c.trace [] trace → IsRelated blank (viewed c ns v trace)
  viewed_whole ns v trace i adds =
      record {
        cluster = i.after;
        asked = asked_viewed c ns v trace i (λ t. (nothing_tells_law c.config c.trace trace adds).asked t) r.asked;
        logs = logs_viewed c ns v trace i r.logs;
        order = order_viewed c ns v trace i r.order;
        parties = parties_viewed c ns v trace i r.parties;
        pages = pages_lead blank c (viewed c ns v trace) r.pages refl
            (λ p low.
            record { page = r.pages.page p; run = here; related = page_viewed c ns v trace p (r.pages.page p) i (little_told c.config 0 c.trace trace adds) (r.pages.related p low) });
      }

  view_whole : (live : List Bool) (owners : List ℕ) (v : View) → next c.config (last_view c) live owners ≡ Ok v → drops_up c v ≡ false → IsRelated blank (make_view false (event.View live owners) v c)
  view_whole live owners v made drops =
      subst (IsRelated blank) (sym (as_viewed c (returning (last_view c) v (all_nodes c)) (event.View live owners) (reply.Viewed v.epoch) v))
      (viewed_whole (returning (last_view c) v (all_nodes c)) v _ (is_viewed c live owners v r.cluster made drops)
      (reply_adds_none c.trace (event.View live owners) (reply.Viewed v.epoch) refl refl refl))

  reopened_whole : (v : View) → reopen c.config (last_view c) ≡ Ok v → list_any (is_up c) (all_nodes c) ≡ false → IsRelated blank (make_reopened false event.Reopen v c)
  reopened_whole v made down =
      subst (IsRelated blank) (sym (as_viewed c (all_nodes c) event.Reopen (reply.Reopened v.epoch) v))
      (viewed_whole (all_nodes c) v _ (is_reopened c v r.cluster made down) (reply_adds_none c.trace event.Reopen (reply.Reopened v.epoch) refl refl refl))

pub quiet_events_keep_related_law : QuietEventsKeepRelated
quiet_events_keep_related_law blank c r =
    record {
      refused = refused_whole blank c r;
      armed = armed_whole blank c r;
      crashed = crashed_whole blank c r;
      viewed = view_whole blank c r;
      reopened = reopened_whole blank c r;
    }
