use mathlib.Core.Path.{refl}
use Rattle.std.proofs.Common.{ℕ, List, drop, codes, inl, inr, Some, None}
use Rattle.pcl_base.specs.declared.trace.Call.TheVariants as call
use Rattle.run_rules.specs.Disk.{fresh_disk}
use Rattle.node_rules.specs.NodeState.{NodeState, start_node}
use Rattle.node_rules.specs.DiskCalls.{Left}
use Rattle.text_rules.specs.ByteRows.{bytes_of}
use Rattle.frame_rules.specs.ReadFrame.{frame_of}
use Rattle.frame_rules.specs.Serving.{Progress, Going, Ended, Served, by_frame}
use Rattle.frame_rules.specs.ServingRows.{one_node, writes, first_view, begins, writes_one}
use Rattle.frame_rules.proofs.Opened.{frame_rules}
use Rattle.frame_rules.proofs.serving_rows.row_of_halts.Goals as goal

-- what a frame gives to the node over its disk, and the node after it
abbrev pub given : ℕ → NodeState → List ℕ → Served
given number n text = by_frame number n (fresh_disk one_node) (frame_of one_node 0 (drop 4 (bytes_of text)))

abbrev pub node_in : Progress → NodeState
node_in (Going n d) = n
node_in (Ended status d) = start_node one_node 0 0

abbrev pub viewed : Served
viewed = given 1 (start_node one_node 0 0) first_view

abbrev pub begun : Served
begun = given 2 (node_in viewed.progress) begins

abbrev pub written : Served
written = given 3 (node_in begun.progress) writes_one

-- the last line, and what is written with it behind each of the frames
abbrev pub halted : Served
halted = writes one_node (codes "0000000e4568616c74656420666f7263650a") 6

abbrev pub behind_begun : Served
behind_begun = writes one_node (codes "0000001052646f6e6520302e312e31203020300a0000000e4568616c74656420666f7263650a") 6

abbrev pub behind_viewed : Served
behind_viewed = writes one_node (codes "0000000d52626567756e20302e312e310a0000001052646f6e6520302e312e31203020300a0000000e4568616c74656420666f7263650a") 6

-- what the stop of the force leaves
abbrev pub nothing_kept : Left
nothing_kept = record { disk = fresh_disk one_node; call = call.Force; kept = None }

pub returns-clause-force : goal.returns-clause-force
unfolding frame_rules
returns-clause-force c = (
  viewed,
  inl refl,
  (
    behind_viewed,
    (
      begun,
      inl refl,
      (
        behind_begun,
        (
          written,
          inl refl,
          (
            halted,
            (
              halted,
              inr (record {
                halt = record { call = call.Force; kept = None };
                after = fresh_disk one_node;
                line = refl;
                failed =
                    inr (record {
                      stop = record { before = 0; kept = 0 };
                      left = nothing_kept;
                      leaves = refl {a = Some nothing_kept};
                      disk = refl {a = fresh_disk one_node};
                      call = refl {a = call.Force};
                      kept = inl (refl {a = None});
                    });
              }),
              refl,
            ),
            refl,
          ),
        ),
        refl,
      ),
    ),
    refl,
  ),
)

pub returns-clause-log : goal.returns-clause-log
unfolding frame_rules
returns-clause-log c = (
  writes one_node (codes "0000000c4568616c746564206c6f670a") 6,
  inr (record {
    halt = record { call = call.Log; kept = None };
    after = fresh_disk one_node;
    line = refl;
    failed = inl (record { reading = inr refl; count = 0; disk = refl; kept = refl });
  }),
  refl,
)
