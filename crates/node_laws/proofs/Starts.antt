-- Nodes at their start are sound.
use Rattle.std.proofs.Common.{◌≡◌, refl, ap, subst, ◌∙◌, sym, ℕ, zero, suc, ◌+◌, ◌<◌, ◌==◌, true, false, List, length, Option, Some, None, is_some, arith, slice_index, slice_index_or, replicate}
use Rattle.std.specs.Prelude.{IfSome}
use Rattle.std.proofs.lemmas.List.{length-replicate}
use Rattle.pcl_base.specs.Limits.{Sizes}
use Rattle.run_rules.specs.Views.{first, owner_of, count_from}
use Rattle.rule_laws.proofs.Successors.{first_is_whole_law}
use Rattle.node_rules.specs.LockTable.{LockTable, open_table}
use Rattle.node_rules.specs.NodeState.{first_node, start_node}
use Rattle.home_laws.proofs.Opened.{open_home_is_sound_law}
use Rattle.home_laws.proofs.Tests.{number_same}
use Rattle.node_laws.specs.Nodes.{IsTable}
use Rattle.node_laws.specs.Laws.{FirstIsSound, StartIsSound}
use Rattle.node_laws.proofs.Lists.{set_at, set_length}
use Rattle.node_laws.proofs.Tables.{open_is}

repeated : {X : Type 0} (x d : X) (n i : ℕ) → i < n → slice_index_or (replicate n x) i d ≡ x
repeated x d zero i low = absurd (omega (arith, low))
repeated x d (suc n) zero low = refl
repeated x d (suc n) (suc i) low = repeated x d n i (omega (arith, low))

nothing : {X : Type 0} (d : X) (n i : ℕ) → slice_index_or (replicate n d) i d ≡ d
nothing d zero i = refl
nothing d (suc n) zero = refl
nothing d (suc n) (suc i) = nothing d n i

counted : (n a q : ℕ) → q < n → slice_index (count_from a n) q ≡ a + q
unfolding count_from
counted zero a q low = absurd (omega (arith, low))
counted (suc n) a zero low = omega arith
counted (suc n) a (suc q) low = let rest = counted n (a + 1) q (omega (arith, low)) in omega (arith, rest)

abbrev no_tables : ℕ → List (Option LockTable)
no_tables n = replicate n None

room : (n : ℕ) → length (no_tables n) ≡ n
room n = length-replicate n None

owner_first : (c : Sizes) (q : ℕ) → q < c.nodes → owner_of (first c) q ≡ q
owner_first c q low = let is = counted c.nodes 0 q low in omega (arith, is)

pub first_is_sound_law : FirstIsSound
unfolding first_node
first_is_sound_law c me limits low =
    record {
      limits = limits;
      home = open_home_is_sound_law c me 1 limits low;
      rights = tt;
      born = omega arith;
      epoch = (omega arith, omega arith);
      view =
          record {
            whole = first_is_whole_law c;
            epoch = refl;
            live = repeated true false c.nodes me low;
            born = repeated 1 0 c.nodes me low;
          };
      idle = λ none. absurd (cc);
      places = set_length (no_tables c.nodes) me (Some (open_table c me true)) ∙ room c.nodes;
      owned =
          λ q below.
          set_at (λ (o : Option LockTable). is_some o ≡ (owner_of (first c) q == me)) None (no_tables c.nodes) me q (Some (open_table c me true)) (inside me low)
          (λ e. sym (ap (λ (n : ℕ). n == me) (owner_first c q below ∙ e) ∙ number_same me))
          (λ other. ap (λ (o : Option LockTable). is_some o) (nothing None c.nodes q) ∙ sym (ap (λ (n : ℕ). n == me) (owner_first c q below) ∙ other));
      tables =
          λ q below.
          set_at (λ (o : Option LockTable). IfSome o (IsTable c me q)) None (no_tables c.nodes) me q (Some (open_table c me true)) (inside me low)
          (λ e. subst (λ (n : ℕ). IsTable c me n (open_table c me true)) (sym e) (open_is c me me true low))
          (λ other. subst (λ (o : Option LockTable). IfSome o (IsTable c me q)) (sym (nothing None c.nodes q)) tt);
    }
  where
    inside : (q : ℕ) → q < c.nodes → q < length (no_tables c.nodes)
    inside q low = subst (λ (n : ℕ). q < n) (sym (room c.nodes)) low

pub start_is_sound_law : StartIsSound
unfolding start_node
start_is_sound_law c me epoch limits low some few =
    record {
      limits = limits;
      home = open_home_is_sound_law c me epoch limits low;
      rights = tt;
      born = some;
      epoch = (some, few);
      view = tt;
      idle = λ none. refl;
      places = room c.nodes;
      owned = λ q below. ap (λ (o : Option LockTable). is_some o) (nothing None c.nodes q);
      tables = λ q below. subst (λ (o : Option LockTable). IfSome o (IsTable c me q)) (sym (nothing None c.nodes q)) tt;
    }
