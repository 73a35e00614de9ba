-- Memory that is left once a note was made.
use Rattle.std.proofs.Common.{◌≡◌, ◌≤◌, ◌+◌, ℕ, List, ◌∷◌, subst, sym, arith}
use Rattle.std.specs.List.{AllByRecursion}
use Rattle.node_rules.specs.NodeState.{Outgoing}
use Rattle.step_laws.specs.Most.{items_in}
use Rattle.listing_laws.specs.Lists.{one_list}
use Rattle.trace_entries.specs.Notes.{NotesView, HasMemory}

pub memory_left : (v w : NotesView) (o : Outgoing) (os : List Outgoing) → HasMemory v (o ∷ os) → v.room ≤ w.room + 1
    → v.lists ≡ w.lists + one_list o.message.body → w.size ≡ v.size → HasMemory w os
memory_left v w o os h room lists size =
    let notes = h.notes in
    let more = h.lists in
    record {
      notes = omega (arith, notes, room);
      lists = omega (arith, more, lists);
      items = subst (λ (n : ℕ). AllByRecursion (λ (x : Outgoing). items_in x.message.body ≤ n) os) (sym size) h.items.1;
    }
