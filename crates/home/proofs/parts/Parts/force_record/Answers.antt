use Rattle.std.proofs.Common.{ap, ◌∙◌}
use Rattle.pcl_base.specs.declared.trace.Call.TheVariants.{Log}
use Rattle.text_rules.specs.LogRecord.{record_bytes}
use Rattle.home.specs.Parts.{PartsView}
use Rattle.home.proofs.Committing.{publishable_pages}
use Rattle.home.proofs.Recorded.{record_is, record_sound, moved_logs, moved_decided, moved_rooms}
use Rattle.home.proofs.parts.Parts.force_record.Goals as goal

pub record-requires-clause-pages : goal.record-requires-clause-pages
record-requires-clause-pages g c = publishable_pages c.args.self.now.home c.args.tx c.args.pages.now c.requires.home c.requires.waits c.requires.below c.requires.pages

pub encode-requires : goal.encode-requires
encode-requires g c =
    record_sound c.args.self.now.home c.args.tx c.args.pages.now _ _ c.requires.home c.requires.«open» c.requires.waits c.requires.pages c.requires.some (ap (λ (v : PartsView). v.home.config) c.self.view_is) c.in_ok-record.ensures

pub returns-clause-logs : goal.returns-clause-logs
returns-clause-logs g c =
    moved_logs _ _ _ _ _ _ _ _ _ _ _ _ _ (ap (λ (v : PartsView). v.node) c.self.view_is ∙ c.requires.node)
    (c.as_slice.ensures.value ∙ c.in_ok-bytes.ensures ∙ ap record_bytes (record_is c.args.self.now.home c.args.tx c.args.pages.now _ c.in_ok-record.ensures c.requires.pages))
    c.room.ensures.logs (ap (λ f. f Log) c.room.ensures.faults) c.room.ensures.failing c.force.ensures.logs

pub returns-clause-decided : goal.returns-clause-decided
returns-clause-decided g c =
    moved_decided _ _ _ _ _ _ _ _ _ _ _ _ (ap (λ (v : PartsView). v.node) c.self.view_is ∙ c.requires.node)
    (c.as_slice.ensures.value ∙ c.in_ok-bytes.ensures ∙ ap record_bytes (record_is c.args.self.now.home c.args.tx c.args.pages.now _ c.in_ok-record.ensures c.requires.pages))
    c.room.ensures.logs c.room.ensures.stops c.room.ensures.failing c.force.ensures.decided

pub returns-clause-rooms : goal.returns-clause-rooms
returns-clause-rooms g c =
    moved_rooms _ _ _ _ _ _ _ (ap (λ (v : PartsView). v.node) c.self.view_is ∙ c.requires.node)
    (c.as_slice.ensures.value ∙ c.in_ok-bytes.ensures ∙ ap record_bytes (record_is c.args.self.now.home c.args.tx c.args.pages.now _ c.in_ok-record.ensures c.requires.pages))
    c.room.ensures.rooms c.force.ensures.rooms
