use Rattle.std.proofs.Common.{◌≡◌, ◌<◌, true, false, [], ◌∷◌, refl, arith}
use Rattle.node_rules.specs.LockTable.{open_table, pages_from}
use Rattle.run_rules.specs.Views.{count_from}
use Rattle.node_rules.specs.NodeState.{first_node}
use Rattle.node_laws.proofs.rows.row_of_tables.Goals as goal

pub returns : goal.returns
unfolding first_node count_from open_table pages_from
returns c =
    record {
      no_own_table = λ s. let e : false ≡ true = s.owned 0 (omega arith) in absurd (cc);
      table_of_another = λ s. let e : true ≡ false = s.owned 1 (omega arith) in absurd (cc);
      page_of_another = λ s. let e : 1 ≡ 0 = (s.tables 0 (omega arith)).entries.0.0.1 in absurd (omega (arith, e));
      page_past_the_end = λ s. let e : 4 < 4 = (s.tables 0 (omega arith)).entries.0.0.0 in absurd (omega (arith, e));
      page_left_out = λ s. let e : 0 ∷ [] ≡ 0 ∷ 2 ∷ [] = (s.tables 0 (omega arith)).pages in absurd (cc);
      flag_left_out = λ s. let e : 1 ≡ 2 = (s.tables 0 (omega arith)).reported in absurd (omega (arith, e));
      holder_of_no_node = λ s. let e : 2 < 2 = (s.tables 0 (omega arith)).entries.0.1.holders.0.0 in absurd (omega (arith, e));
      waiter_of_no_node = λ s. let e : 2 < 2 = (s.tables 0 (omega arith)).entries.0.1.waiting.0.0 in absurd (omega (arith, e));
      right_of_its_own = λ s. absurd ((s.tables 0 (omega arith)).entries.0.1.rights.0.1 refl);
      right_of_no_node = λ s. let e : 2 < 2 = (s.tables 0 (omega arith)).entries.0.1.rights.0.0 in absurd (omega (arith, e));
    }
