-- What a tally counts.
use Rattle.std.specs.Prelude.{◌+◌, ◌^◌, ◌<◌, List, cond, count_by, sum_by, is_some}
use Rattle.pcl_base.specs.declared.reply.Reply.{Reply}
use Rattle.pcl_base.specs.declared.trace.Entry.{Entry}
use Rattle.pcl_base.specs.declared.trace.Sent.{Sent}
use Rattle.text_rules.specs.TraceText.{reply_commits, halt_commits}
use Rattle.text_rules.specs.Totals.{Totals, is_begun, is_value, is_done, is_waiting, is_aborted, is_held, is_dropped, is_refused, is_request, is_grant, is_release, is_revocation, is_return, is_report, has_image}
use Rattle.msg_account.specs.declared.tally.Tally.{Tally}

-- the totals that a tally has counted
abbrev pub counted : Tally → Totals
counted t =
    record {
      events = t.events;
      begun = t.begun;
      values = t.values;
      done = t.done;
      waits = t.waits;
      committed = t.committed;
      aborted = t.aborted;
      held = t.held;
      dropped = t.dropped;
      refused = t.refused;
      halted = t.halted;
      requests = t.requests;
      grants = t.grants;
      releases = t.releases;
      revokes = t.revokes;
      returns = t.returns;
      reports = t.reports;
      images = t.images;
    }

-- two totals together
abbrev pub plus : Totals → Totals → Totals
plus t u =
    record {
      events = t.events + u.events;
      begun = t.begun + u.begun;
      values = t.values + u.values;
      done = t.done + u.done;
      waits = t.waits + u.waits;
      committed = t.committed + u.committed;
      aborted = t.aborted + u.aborted;
      held = t.held + u.held;
      dropped = t.dropped + u.dropped;
      refused = t.refused + u.refused;
      halted = t.halted + u.halted;
      requests = t.requests + u.requests;
      grants = t.grants + u.grants;
      releases = t.releases + u.releases;
      revokes = t.revokes + u.revokes;
      returns = t.returns + u.returns;
      reports = t.reports + u.reports;
      images = t.images + u.images;
    }

-- each count is one of 64 bits
pub record IsCountable (t : Totals) : Type 0 where
  pub events : t.events < 2 ^ 64
  pub begun : t.begun < 2 ^ 64
  pub values : t.values < 2 ^ 64
  pub done : t.done < 2 ^ 64
  pub waits : t.waits < 2 ^ 64
  pub committed : t.committed < 2 ^ 64
  pub aborted : t.aborted < 2 ^ 64
  pub held : t.held < 2 ^ 64
  pub dropped : t.dropped < 2 ^ 64
  pub refused : t.refused < 2 ^ 64
  pub halted : t.halted < 2 ^ 64
  pub requests : t.requests < 2 ^ 64
  pub grants : t.grants < 2 ^ 64
  pub releases : t.releases < 2 ^ 64
  pub revokes : t.revokes < 2 ^ 64
  pub returns : t.returns < 2 ^ 64
  pub reports : t.reports < 2 ^ 64
  pub images : t.images < 2 ^ 64

-- what replies count
abbrev pub of_replies : List Reply → Totals
of_replies rs =
    record {
      events = 0;
      begun = count_by is_begun rs;
      values = count_by is_value rs;
      done = count_by is_done rs;
      waits = count_by is_waiting rs;
      committed = sum_by reply_commits rs;
      aborted = count_by is_aborted rs;
      held = count_by is_held rs;
      dropped = count_by is_dropped rs;
      refused = count_by is_refused rs;
      halted = 0;
      requests = 0;
      grants = 0;
      releases = 0;
      revokes = 0;
      returns = 0;
      reports = 0;
      images = 0;
    }

-- what messages count
abbrev pub of_sends : List Sent → Totals
of_sends ss =
    record {
      events = 0;
      begun = 0;
      values = 0;
      done = 0;
      waits = 0;
      committed = 0;
      aborted = 0;
      held = 0;
      dropped = 0;
      refused = 0;
      halted = 0;
      requests = count_by (λ s. is_request s.note) ss;
      grants = count_by (λ s. is_grant s.note) ss;
      releases = count_by (λ s. is_release s.note) ss;
      revokes = count_by (λ s. is_revocation s.note) ss;
      returns = count_by (λ s. is_return s.note) ss;
      reports = count_by (λ s. is_report s.note) ss;
      images = count_by (λ s. has_image s.note) ss;
    }

-- what an entry counts besides
abbrev pub of_step : Entry → Totals
of_step e =
    record {
      events = 1;
      begun = 0;
      values = 0;
      done = 0;
      waits = 0;
      committed = halt_commits e.halted;
      aborted = 0;
      held = 0;
      dropped = 0;
      refused = 0;
      halted = cond (is_some e.halted) 1 0;
      requests = 0;
      grants = 0;
      releases = 0;
      revokes = 0;
      returns = 0;
      reports = 0;
      images = 0;
    }
