-- The rules that a run of one node uses, as one name under which their definitions unfold.
use Rattle.run_rules.specs.Views.{count_from}
use Rattle.node_rules.specs.AccessRule.{make_room, take_slot, take_private, take_frames, perform, access_in, access, bring, granted}
use Rattle.node_rules.specs.BufferRule.{slot_in, private_in, fits, last_to_go, change_slot, place, private, touch, pin, unpin, install, clean, evict, change_private, fill, change, discard, publish}
use Rattle.node_rules.specs.CutRule.{on_disk, records_on_disk, cuttable}
use Rattle.node_rules.specs.DiskCalls.{done}
use Rattle.node_rules.specs.EndRule.{insert_page, written_pages, commit_record, at_version_end, endings, closed, abort, commit}
use Rattle.node_rules.specs.LockRule.{mode_of, ask, takes_change, end_tx, first_upgrade, candidate, gives_right, hold_alone, turn, settle_within, settle}
use Rattle.node_rules.specs.LockTable.{pages_from, open_table, entry_in, entries_with}
use Rattle.node_rules.specs.NodeState.{first_node, cover, runs_at, put_runs}
use Rattle.node_rules.specs.NodeStep.{do_event, nodestep}
use Rattle.node_rules.specs.OpenTxs.{begin, with_serial, lock_on, put_lock, change_open, add, wait, close_tx, end_pages}
use Rattle.node_rules.specs.OwnerRule.{carry_out, settle_page, enter, do_access, tell_end, clean_unserved}
use Rattle.node_rules.specs.Refusals.{refusal}
use Rattle.node_rules.specs.Shelf.{right_on, change_right, end_reader}
use Rattle.node_rules.specs.Work.{for_each, write_back}
use Rattle.cluster_rules.specs.ClusterStep.{node_step, step}
use Rattle.cluster_rules.specs.Clusters.{opening}
use Rattle.cluster_rules.specs.Links.{send_all}
use Rattle.cluster_rules.specs.Run.{run_from, run}

unfoldable pub node_rules : Unit {0}
unfolding count_from make_room take_slot take_private take_frames perform access_in access bring granted slot_in private_in fits last_to_go change_slot place private touch pin unpin install clean evict change_private fill change discard publish on_disk records_on_disk cuttable done insert_page written_pages commit_record at_version_end endings closed abort commit mode_of ask takes_change end_tx first_upgrade candidate gives_right hold_alone turn settle_within settle pages_from open_table entry_in entries_with first_node cover runs_at put_runs do_event nodestep begin with_serial lock_on put_lock change_open add wait close_tx end_pages carry_out settle_page enter do_access tell_end clean_unserved refusal right_on change_right end_reader for_each write_back node_step step opening send_all run_from run
node_rules = tt
