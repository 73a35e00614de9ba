use Rattle.std.proofs.Common.{◌≡◌, ◌++◌, take, drop, length}
use Rattle.text_rules.specs.Generator.{Making, new_owners}
use Rattle.schedule_gen.proofs.kept.renew_owners.Given as goal

-- the owners so far are new, and the rest of them is as it was
abbrev pub invariant-loop-place : goal.invariant-loop-place
invariant-loop-place l =
    record {
      as_many : length l.owners ≡ length l.initial.owners;
      rest : drop l.place l.owners ≡ drop l.place l.initial.owners;
      so_far : (s : Making) → s.draws ≡ l.initial.draws → s.live ≡ l.live →
          (new_owners l.lost l.initial.owners s).value ≡ take l.place l.owners ++ (new_owners l.lost (drop l.place l.owners) (record s { draws = l.draws })).value;
      next : (s : Making) → s.draws ≡ l.initial.draws → s.live ≡ l.live →
          (new_owners l.lost l.initial.owners s).next ≡ (new_owners l.lost (drop l.place l.owners) (record s { draws = l.draws })).next;
    }
