use Rattle.std.proofs.Common.{refl}
use Rattle.hex.specs.Hex.{decode_pairs}
use Rattle.text_rules.specs.ReadLine.{number_at, spaced_at, pointed_at, tx_at, bytes_of, begin_of, read_of, write_of, commit_of, header_of}
use Rattle.text_rules.specs.ReadEvent.{flags_at, more_owners, owners_of, abort_of, deliver_of, evict_of, flush_of, crash_of, view_of, install_of, reopen_of, arm_of, cut_of, event_of}
use Rattle.text_rules.proofs.line_rows.row_of_reading.Goals as goal

pub returns-clause-header : goal.returns-clause-header
unfolding decode_pairs number_at spaced_at pointed_at tx_at bytes_of begin_of read_of write_of commit_of flags_at more_owners owners_of abort_of deliver_of evict_of flush_of crash_of view_of install_of reopen_of arm_of cut_of event_of header_of
returns-clause-header c = refl

pub returns-clause-write : goal.returns-clause-write
unfolding decode_pairs number_at spaced_at pointed_at tx_at bytes_of begin_of read_of write_of commit_of flags_at more_owners owners_of abort_of deliver_of evict_of flush_of crash_of view_of install_of reopen_of arm_of cut_of event_of header_of
returns-clause-write c = refl

pub returns-clause-empty : goal.returns-clause-empty
unfolding decode_pairs number_at spaced_at pointed_at tx_at bytes_of begin_of read_of write_of commit_of flags_at more_owners owners_of abort_of deliver_of evict_of flush_of crash_of view_of install_of reopen_of arm_of cut_of event_of header_of
returns-clause-empty c = refl

pub returns-clause-view : goal.returns-clause-view
unfolding decode_pairs number_at spaced_at pointed_at tx_at bytes_of begin_of read_of write_of commit_of flags_at more_owners owners_of abort_of deliver_of evict_of flush_of crash_of view_of install_of reopen_of arm_of cut_of event_of header_of
returns-clause-view c = refl
