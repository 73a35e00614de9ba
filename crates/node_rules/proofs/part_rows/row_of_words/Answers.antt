use mathlib.Core.Path.{refl}
use Rattle.node_rules.proofs.Opened.{node_rules}
use Rattle.node_rules.proofs.part_rows.row_of_words.Goals as goal

pub returns : goal.returns
unfolding node_rules
returns c =
    record {
      accepts = refl;
      accepts_once = refl;
      reads_in_order = refl;
      ends = refl;
      spends = refl;
      other_version = refl;
      early = refl;
      taken = refl;
      before_the_owner = refl;
      before_the_sender = refl;
      before_the_receiver = refl;
      from_the_lost = refl;
      current = refl;
      stale = refl;
      on_disk = refl;
      nowhere = refl;
      runs_touch = refl;
      runs_join = refl;
      runs_rise = refl;
    }
