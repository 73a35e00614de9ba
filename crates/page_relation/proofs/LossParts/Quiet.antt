-- Clusters that differ in their stops and in what their traces tell nothing of.
use Rattle.std.proofs.Common.{refl, sym, subst, ◌∙◌, ℕ, List, [], ◌∷◌, Option}
use Rattle.pcl_base.specs.declared.event.Event.TheVariants as event
use Rattle.pcl_base.specs.declared.reply.Reply.TheVariants as reply
use Rattle.pcl_base.specs.declared.trace.Entry.{Entry}
use Rattle.run_rules.specs.Base.{Base}
use Rattle.node_rules.specs.DiskCalls.{Stop}
use Rattle.cluster_rules.specs.Clusters.{Cluster}
use Rattle.page_protocol.specs.State.{Page, current}
use Rattle.cluster_laws.specs.Era.Eras.{era_at, owner_at}
use Rattle.cluster_laws.specs.Link.Coming.{coming}
use Rattle.page_laws.specs.Moment.Looks.{HasPage, with_entry}
use Rattle.page_laws.proofs.MomentParts.Entries.{refused_adds_nothing_law}
use Rattle.page_relation.specs.Looks.{slot_of, dirty_of, shelf_of}
use Rattle.page_relation.specs.Relation.{IsPageOf}
use Rattle.page_relation.specs.Loss.Laws.{RefusedIsRelated, ArmedIsRelated}
use Rattle.page_relation.proofs.LossParts.Told.{TellsLittle, little_told, reply_adds_none}

-- a page's state through another trace and other stops
pub trace_related : (c : Cluster) (n p : ℕ) (a : Page) (ss : List (Option Stop)) (trace : List Entry) → TellsLittle c.config n c.trace trace → IsPageOf c p a
    → IsPageOf (record c { stops = ss; trace = trace }) p a
unfolding slot_of dirty_of shelf_of era_at owner_at coming
trace_related c n p a ss trace tells r =
    record {
      history =
          record {
            now_same = subst (λ (o : Option Base). HasPage o p (current a)) (sym tells.now_same) r.history.now_same;
            below = r.history.below;
            sizes = r.history.sizes;
          };
      stored = r.stored;
      copies = record { slot_same = r.copies.slot_same; dirty_same = r.copies.dirty_same };
      homes =
          record {
            stands = r.homes.stands;
            kinds = r.homes.kinds;
            scripts = λ t. r.homes.scripts t ∙ sym (tells.accesses t p);
            images = r.homes.images;
            written = r.homes.written;
          };
      nodes = record { shelves = r.nodes.shelves; eras = r.nodes.eras };
      tables =
          record {
            tables = r.tables.tables;
            serving = r.tables.serving;
            era =
                record {
                  epoch = r.tables.era.epoch;
                  low = r.tables.era.low;
                  made = r.tables.era.made;
                  era_there = r.tables.era.era_there;
                  owner_there = r.tables.era.owner_there;
                };
          };
      links = record { say = r.links.say; ordered = r.links.ordered; once = r.links.once };
    }

pub refused_is_related_law : RefusedIsRelated
refused_is_related_law c e reason p a r =
    trace_related c 0 p a c.stops (with_entry c.trace e (reply.Refused reason ∷ []) [])
    (little_told c.config 0 c.trace (with_entry c.trace e (reply.Refused reason ∷ []) []) (refused_adds_nothing_law c.trace e reason [])) r

pub armed_is_related_law : ArmedIsRelated
armed_is_related_law c n call kept p a r =
    trace_related c n p a _ (with_entry c.trace (event.Arm n call kept) (reply.Armed ∷ []) [])
    (little_told c.config n c.trace (with_entry c.trace (event.Arm n call kept) (reply.Armed ∷ []) []) (reply_adds_none c.trace (event.Arm n call kept) reply.Armed refl refl refl)) r
