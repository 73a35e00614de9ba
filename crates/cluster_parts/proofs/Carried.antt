-- What a node's step makes of the cluster, from what the storage tells.
use Rattle.std.specs.Prelude.{IsSome}
use Rattle.std.proofs.Common.{◌≡◌, refl, ap, sym, subst, ◌∙◌, ℕ, zero, suc, ◌-◌, List, [], ◌∷◌, ◌++◌, length, Option, Some, None, option_map, Result, Ok, Err, slice_index_or, slice_set, arith}
use Rattle.run_rules.specs.Disk.{Disk}
use Rattle.pcl_base.specs.declared.reply.Reply.{Reply}
use Rattle.disk_model.specs.declared.stop.Stop.{Stop}
use Rattle.disk_model.specs.Memory.{Disk as Storage, bytes_in}
use Rattle.node_rules.specs.NodeState.{NodeState, Outgoing}
use Rattle.node_rules.specs.DiskCalls.{Stop as RuleStop, Left, all_done}
use Rattle.node_rules.specs.NodeStep.{Plan}
use Rattle.node_rules.specs.Work.{Goes, Differs as differs}
use Rattle.cluster_rules.specs.Clusters.{lose, stop_at}
use Rattle.cluster_rules.specs.ClusterStep.{later_stop, left_of}
use Rattle.home.specs.CallLaws.{told_on, rule_stop, nearer}
use Rattle.home.specs.Device.{Told, told_by}
use Rattle.node_parts.specs.Outputs.{OutputsView}
use Rattle.node_parts.specs.declared.fault.StepFault.{StepFault}
use Rattle.node_parts.specs.declared.fault.StepFault.TheVariants.{NoMemory, Halted, Differs}
use Rattle.step_ends.specs.Ran.{RanPlan, armed_at, stops_after}
use Rattle.step_ends.proofs.Armed.{put_twice}
use Rattle.cluster_parts.specs.State.{ClusterView, cluster_of, disk_of, rule_stops}
use Rattle.cluster_parts.specs.Laws.{StepsAreTold, changed, standing}
use Rattle.cluster_parts.specs.Steps.{IsStepped, carried}

-- stops as the rules count them
pub look_map : (stops : List (Option Stop)) (n : ℕ) → slice_index_or (rule_stops stops) n None ≡ option_map rule_stop (armed_at stops n)
look_map [] n = refl
look_map (x ∷ xs) zero = refl
look_map (x ∷ xs) (suc n) = look_map xs n

pub set_map : (stops : List (Option Stop)) (n : ℕ) (s : Option Stop) → rule_stops (slice_set stops n s) ≡ slice_set (rule_stops stops) n (option_map rule_stop s)
set_map [] n s = refl
set_map (x ∷ xs) zero s = refl
set_map (x ∷ xs) (suc n) s = ap (λ (l : List (Option RuleStop)). option_map rule_stop x ∷ l) (set_map xs n s)

nearer_is : (k : ℕ) (o : Option Stop) → option_map rule_stop (option_map (λ s. nearer s k) o) ≡ later_stop k (option_map rule_stop o)
nearer_is k None = refl
nearer_is k (Some s) =
    let same : (s.call - k) - 1 ≡ (s.call - 1) - k = omega arith in
    ap (λ (b : ℕ). Some (record { before = b; kept = s.kept })) same

-- the stops once a node has made its calls
after_calls : (stops : List (Option Stop)) (n k : ℕ) → rule_stops (stops_after stops n k) ≡ slice_set (rule_stops stops) n (later_stop k (slice_index_or (rule_stops stops) n None))
after_calls stops n k =
    set_map stops n (option_map (λ s. nearer s k) (armed_at stops n))
    ∙ ap (slice_set (rule_stops stops) n) (nearer_is k (armed_at stops n) ∙ ap (later_stop k) (sym (look_map stops n)))

-- a disk by its parts
disk_is : (s : Storage) (d : Disk) → s.pages ≡ d.pages → bytes_in s.logs ≡ d.logs → disk_of s ≡ d
disk_is s d pages logs =
    ap (λ (ps : List (List ℕ)). record { pages = ps; logs = bytes_in s.logs }) pages
    ∙ ap (λ (ls : List (List ℕ)). record { pages = d.pages; logs = ls }) logs

-- what a storage in memory tells
pub record IsTold (s : Storage) (d : Disk) (armed : List (Option Stop)) : Type 0 where
  pub disk : disk_of s ≡ d
  pub stops : s.stops ≡ armed

pub told_is : (s : Storage) (d : Disk) (stops : List (Option Stop)) → told_by (Some s.pages) (Some (bytes_in s.logs)) (Some s.stops) ≡ told_on d (Some stops) → IsTold s d stops
told_is s d stops told =
    let pages : Some s.pages ≡ Some d.pages = ap (λ (t : Told). t.pages) told in
    let logs : Some (bytes_in s.logs) ≡ Some d.logs = ap (λ (t : Told). t.logs) told in
    let all : Some s.stops ≡ Some stops = ap (λ (t : Told). t.stops) told in
    let same_pages : s.pages ≡ d.pages = cc in
    let same_logs : bytes_in s.logs ≡ d.logs = cc in
    let same_stops : s.stops ≡ stops = cc in
    record { disk = disk_is s d same_pages same_logs; stops = same_stops }

carried_is : (v : ClusterView) (n : ℕ) (s : NodeState) (st : Storage) (p : Plan) → s ≡ p.node → disk_of st ≡ all_done n (disk_of v.storage) p.calls
    → rule_stops st.stops ≡ slice_set (rule_stops v.storage.stops) n (later_stop (length p.calls) (slice_index_or (rule_stops v.storage.stops) n None))
    → cluster_of (changed v n s st) ≡ carried n p (cluster_of v)
carried_is v n s st p node disk stops =
    ap (λ (x : NodeState). record (cluster_of v) { nodes = slice_set v.nodes n (Some x); disk = disk_of st; stops = rule_stops st.stops }) node
    ∙ ap (λ (d : Disk). record (cluster_of v) { nodes = slice_set v.nodes n (Some p.node); disk = d; stops = rule_stops st.stops }) disk
    ∙ ap (λ (ss : List (Option RuleStop)). record (cluster_of v) { nodes = slice_set v.nodes n (Some p.node); disk = all_done n (disk_of v.storage) p.calls; stops = ss }) stops

lost_is : (v : ClusterView) (n : ℕ) (s : NodeState) (st : Storage) (d : Disk) → IsTold st d (slice_set v.storage.stops n None) → lose n (cluster_of (changed v n s st)) ≡ lose n (record (cluster_of v) { disk = d })
unfolding lose
lost_is v n s st d told =
    let stops : slice_set (rule_stops st.stops) n None ≡ slice_set (rule_stops v.storage.stops) n None =
    ap (λ (ss : List (Option Stop)). slice_set (rule_stops ss) n None) told.stops
    ∙ ap (λ (ss : List (Option RuleStop)). slice_set ss n None) (set_map v.storage.stops n None)
    ∙ put_twice (rule_stops v.storage.stops) n None None in
    ap (λ (ns : List (Option NodeState)). record (lose n (cluster_of v)) { nodes = ns; disk = disk_of st; stops = slice_set (rule_stops st.stops) n None }) (put_twice v.nodes n (Some s) None)
    ∙ ap (λ (x : Disk). record (lose n (cluster_of v)) { nodes = slice_set v.nodes n None; disk = x; stops = slice_set (rule_stops st.stops) n None }) told.disk
    ∙ ap (λ (ss : List (Option RuleStop)). record (lose n (cluster_of v)) { nodes = slice_set v.nodes n None; disk = d; stops = ss }) stops

-- the stop of a node, as the rules count it, is armed where it is
armed_there : (o : Option Stop) → IsSome o → IsSome (option_map rule_stop o)
armed_there None armed = absurd (cc)
armed_there (Some s) armed = refl

module _ (v : ClusterView) (n : ℕ) (s t : NodeState) (st : Storage) (before out : OutputsView) where
  planned : (p : Plan) (o : Option Left) → left_of n (disk_of v.storage) p.calls (stop_at (cluster_of v) n) ≡ o → (r : Result (Unit {0}) StepFault) → before.replies ≡ [] → before.sends ≡ []
      → RanPlan n (disk_of v.storage) v.storage.stops p o r (standing s before v.storage) (standing t out st) → IsStepped n (Goes p) r v (changed v n t st) out
  planned p None left (Ok x) replies sends made =
      let told = told_is st (all_done n (disk_of v.storage) p.calls) (stops_after v.storage.stops n (length p.calls)) made.told in
      record {
        unstopped = left;
        cluster = carried_is v n t st p made.node told.disk (ap rule_stops told.stops ∙ after_calls v.storage.stops n (length p.calls));
        replies = made.replies ∙ ap (λ (rs : List Reply). rs ++ p.replies) replies;
        sends = made.sends ∙ ap (λ (os : List Outgoing). os ++ p.sends) sends;
      }
  planned p (Some l) left (Ok x) replies sends bad = absurd bad
  planned p None left (Err (Halted call kept)) replies sends bad = absurd bad
  planned p (Some l) left (Err (Halted call kept)) replies sends halted =
      record {
        left = l;
        stopped = left;
        same_call = halted.same_call;
        same_kept = halted.same_kept;
        cluster = lost_is v n t st l.disk (told_is st l.disk (slice_set v.storage.stops n None) halted.told);
      }
  planned p None left (Err (Differs page expected found)) replies sends bad = absurd bad
  planned p (Some l) left (Err (Differs page expected found)) replies sends bad = absurd bad
  planned p None left (Err NoMemory) replies sends any = tt
  planned p (Some l) left (Err NoMemory) replies sends any = tt

pub steps_are_told_law : StepsAreTold
steps_are_told_law v n s t st before out (Goes p) r replies sends ran =
    planned v n s t st before out p (left_of n (disk_of v.storage) p.calls (option_map rule_stop (armed_at v.storage.stops n)))
    (ap (left_of n (disk_of v.storage) p.calls) (look_map v.storage.stops n)) r replies sends ran
steps_are_told_law v n s t st before out (differs p e f) (Ok x) replies sends bad = absurd bad
steps_are_told_law v n s t st before out (differs p e f) (Err (Halted call kept)) replies sends armed =
    subst (λ (o : Option RuleStop). IsSome o) (sym (look_map v.storage.stops n)) (armed_there (armed_at v.storage.stops n) armed)
steps_are_told_law v n s t st before out (differs p e f) (Err (Differs page expected found)) replies sends same = same
steps_are_told_law v n s t st before out (differs p e f) (Err NoMemory) replies sends any = tt
