-- All rules as one name, under which their definitions unfold.
use Rattle.run_rules.specs.Account.{one_send, all_sends, heard, after_entry, account_from}
use Rattle.run_rules.specs.Causes.{without_first, change_first}
use Rattle.run_rules.specs.Durable.{first_lost, durable_fault}
use Rattle.run_rules.specs.Fresh.{written_over, all_current}
use Rattle.run_rules.specs.Ledger.{link_at, put_link, lose, view_of_epoch, install}
use Rattle.run_rules.specs.Now.{ran_on, after, first_fault}
use Rattle.run_rules.specs.Redo.{entries_of, ranges_at, reached, redone, greatest, records_in, redo}
use Rattle.run_rules.specs.Running.{worked, raised_from, run_from}
use Rattle.run_rules.specs.Script.{moments_of, moments, script_from}
use Rattle.run_rules.specs.Serial.{serial}
use Rattle.run_rules.specs.Taking.{commit_point, wrote, hear, take}
use Rattle.run_rules.specs.Views.{count_from, since_after, born_after, next, reopen, same_numbers, same_flags, follows}
use Rattle.text_rules.specs.ReadLine.{number_at, spaced_at, pointed_at, tx_at, bytes_of, begin_of, read_of, write_of, commit_of, header_of}
use Rattle.text_rules.specs.ReadEvent.{flags_at, more_owners, owners_of, abort_of, deliver_of, evict_of, flush_of, crash_of, view_of, install_of, reopen_of, arm_of, cut_of, event_of, events_of, schedule_of}
use Rattle.node_rules.specs.AccessRule.{make_room, take_slot, take_private, take_frames, perform, access_in, access, bring, granted, on_grant, kinds_on, on_revoke}
use Rattle.node_rules.specs.BufferRule.{slot_in, private_in, fits, last_to_go, change_slot, place, private, touch, pin, unpin, install as install_of_node_rules_bufferrule, clean, evict, change_private, fill, change, discard, publish}
use Rattle.node_rules.specs.CopyRule.{copy_for}
use Rattle.node_rules.specs.CutRule.{on_disk, records_on_disk, cuttable}
use Rattle.node_rules.specs.DiskCalls.{done, stopped, stopped_in}
use Rattle.node_rules.specs.EndRule.{insert_page, written_pages, commit_record, at_version_end, endings, closed, abort, commit}
use Rattle.node_rules.specs.InstallRule.{redo_page, complete, get_partition, install_partition, install_view, on_report}
use Rattle.node_rules.specs.Judging.{judge}
use Rattle.node_rules.specs.LockRule.{mode_of, ask, takes_change, end_tx, register, returned, reported, reported_right, purge, first_upgrade, candidate, gives_right, hold_alone, revocations, turn, settle_within, settle}
use Rattle.node_rules.specs.LockTable.{pages_from, open_table, entry_in, entries_with}
use Rattle.node_rules.specs.NodeState.{start_node, first_node, cover, runs_at, put_runs}
use Rattle.node_rules.specs.NodeStep.{take_message, do_event, nodestep}
use Rattle.node_rules.specs.OpenTxs.{begin, with_serial, lock_on, put_lock, kind_on, change_open, add, wait, set_kind, close_tx, end_pages}
use Rattle.node_rules.specs.OwnerRule.{carry_out, settle_page, enter, do_access, on_release, tell_end, clean_unserved}
use Rattle.node_rules.specs.Refusals.{refusal}
use Rattle.node_rules.specs.Reports.{locks_in, all_locks, all_waits, report, own_report, gather_locks, gather_rights, gather_waits, gather, missing}
use Rattle.node_rules.specs.Shelf.{right_on, accept, change_right, add_reader, end_reader, spend}
use Rattle.node_rules.specs.StepRows.{last_told}
use Rattle.node_rules.specs.Words.{among}
use Rattle.node_rules.specs.Work.{for_each, write_back}
use Rattle.cluster_rules.specs.ClusterStep.{node_step, step}
use Rattle.cluster_rules.specs.Clusters.{opening, lose as lose_of_cluster_rules_clusters, view_of_epoch as view_of_epoch_of_cluster_rules_clusters, note_of}
use Rattle.cluster_rules.specs.Links.{link_at as link_at_of_cluster_rules_links, put_link as put_link_of_cluster_rules_links, send_all, clear_into}
use Rattle.cluster_rules.specs.Run.{run_from as run_from_of_cluster_rules_run, run}
use Rattle.cluster_rules.specs.Safe.{is_safe, first_unsafe}
use Rattle.std.specs.Fmt.{digits}
use Rattle.hex.specs.Hex.{encode_with, decode_pairs}
use Rattle.replay_rules.specs.Due.{judged, fed, read_from, at_end, due}

unfoldable pub all_rules : Unit {0}
unfolding one_send all_sends heard after_entry account_from without_first change_first first_lost durable_fault written_over all_current link_at put_link lose view_of_epoch install ran_on after first_fault entries_of ranges_at reached redone greatest records_in redo worked raised_from run_from moments_of moments script_from serial commit_point wrote hear take count_from since_after born_after next reopen same_numbers same_flags follows number_at spaced_at pointed_at tx_at bytes_of begin_of read_of write_of commit_of header_of flags_at more_owners owners_of abort_of deliver_of evict_of flush_of crash_of view_of install_of reopen_of arm_of cut_of event_of events_of schedule_of decode_pairs make_room take_slot take_private take_frames perform access_in access bring granted on_grant kinds_on on_revoke slot_in private_in fits last_to_go change_slot place private touch pin unpin install_of_node_rules_bufferrule clean evict change_private fill change discard publish copy_for on_disk records_on_disk cuttable done stopped stopped_in insert_page written_pages commit_record at_version_end endings closed abort commit redo_page complete get_partition install_partition install_view on_report judge mode_of ask takes_change end_tx register returned reported reported_right purge first_upgrade candidate gives_right hold_alone revocations turn settle_within settle pages_from open_table entry_in entries_with start_node first_node cover runs_at put_runs take_message do_event nodestep begin with_serial lock_on put_lock kind_on change_open add wait set_kind close_tx end_pages carry_out settle_page enter do_access on_release tell_end clean_unserved refusal locks_in all_locks all_waits report own_report gather_locks gather_rights gather_waits gather missing right_on accept change_right add_reader end_reader spend last_told among for_each write_back node_step step opening lose_of_cluster_rules_clusters view_of_epoch_of_cluster_rules_clusters note_of link_at_of_cluster_rules_links put_link_of_cluster_rules_links send_all clear_into run_from_of_cluster_rules_run run is_safe first_unsafe digits encode_with judged fed read_from at_end due
all_rules = tt
