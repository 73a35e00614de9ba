use Rattle.std.proofs.Common.{refl}
use Rattle.hex.specs.Hex.{decode_pairs}
use Rattle.text_rules.specs.ReadLine.{number_at, spaced_at, pointed_at, tx_at, bytes_of, begin_of, read_of, write_of, commit_of, header_of}
use Rattle.text_rules.specs.ReadEvent.{flags_at, more_owners, owners_of, abort_of, deliver_of, evict_of, flush_of, crash_of, view_of, install_of, reopen_of, arm_of, cut_of, event_of}
use Rattle.text_rules.proofs.line_rows.row_of_bad_lines.Goals as goal

pub returns-clause-zero : goal.returns-clause-zero
unfolding decode_pairs number_at spaced_at pointed_at tx_at bytes_of begin_of read_of write_of commit_of flags_at more_owners owners_of abort_of deliver_of evict_of flush_of crash_of view_of install_of reopen_of arm_of cut_of event_of header_of
returns-clause-zero c = refl

pub returns-clause-node : goal.returns-clause-node
unfolding decode_pairs number_at spaced_at pointed_at tx_at bytes_of begin_of read_of write_of commit_of flags_at more_owners owners_of abort_of deliver_of evict_of flush_of crash_of view_of install_of reopen_of arm_of cut_of event_of header_of
returns-clause-node c = refl

pub returns-clause-serial : goal.returns-clause-serial
unfolding decode_pairs number_at spaced_at pointed_at tx_at bytes_of begin_of read_of write_of commit_of flags_at more_owners owners_of abort_of deliver_of evict_of flush_of crash_of view_of install_of reopen_of arm_of cut_of event_of header_of
returns-clause-serial c = refl

pub returns-clause-page : goal.returns-clause-page
unfolding decode_pairs number_at spaced_at pointed_at tx_at bytes_of begin_of read_of write_of commit_of flags_at more_owners owners_of abort_of deliver_of evict_of flush_of crash_of view_of install_of reopen_of arm_of cut_of event_of header_of
returns-clause-page c = refl

pub returns-clause-more : goal.returns-clause-more
unfolding decode_pairs number_at spaced_at pointed_at tx_at bytes_of begin_of read_of write_of commit_of flags_at more_owners owners_of abort_of deliver_of evict_of flush_of crash_of view_of install_of reopen_of arm_of cut_of event_of header_of
returns-clause-more c = refl

pub returns-clause-odd : goal.returns-clause-odd
unfolding decode_pairs number_at spaced_at pointed_at tx_at bytes_of begin_of read_of write_of commit_of flags_at more_owners owners_of abort_of deliver_of evict_of flush_of crash_of view_of install_of reopen_of arm_of cut_of event_of header_of
returns-clause-odd c = refl

pub returns-clause-upper : goal.returns-clause-upper
unfolding decode_pairs number_at spaced_at pointed_at tx_at bytes_of begin_of read_of write_of commit_of flags_at more_owners owners_of abort_of deliver_of evict_of flush_of crash_of view_of install_of reopen_of arm_of cut_of event_of header_of
returns-clause-upper c = refl

pub returns-clause-nothing : goal.returns-clause-nothing
unfolding decode_pairs number_at spaced_at pointed_at tx_at bytes_of begin_of read_of write_of commit_of flags_at more_owners owners_of abort_of deliver_of evict_of flush_of crash_of view_of install_of reopen_of arm_of cut_of event_of header_of
returns-clause-nothing c = refl

pub returns-clause-header : goal.returns-clause-header
unfolding decode_pairs number_at spaced_at pointed_at tx_at bytes_of begin_of read_of write_of commit_of flags_at more_owners owners_of abort_of deliver_of evict_of flush_of crash_of view_of install_of reopen_of arm_of cut_of event_of header_of
returns-clause-header c = refl
