-- All definitions as one name, under which they unfold.
use Rattle.run_rules.specs.Account.{one_send, all_sends, heard, after_entry, account_from}
use Rattle.run_rules.specs.Causes.{without_first, change_first}
use Rattle.run_rules.specs.Durable.{first_lost, durable_fault}
use Rattle.run_rules.specs.Fresh.{written_over, all_current}
use Rattle.run_rules.specs.Ledger.{link_at, put_link, lose, view_of_epoch, install}
use Rattle.run_rules.specs.Now.{ran_on, after, first_fault}
use Rattle.run_rules.specs.Redo.{entries_of, ranges_at, reached, redone, greatest, records_in, redo}
use Rattle.run_rules.specs.Running.{worked, raised_from, run_from}
use Rattle.run_rules.specs.Script.{moments_of, moments, script_from}
use Rattle.run_rules.specs.Serial.{serial}
use Rattle.run_rules.specs.Taking.{commit_point, wrote, hear, take}
use Rattle.run_rules.specs.Views.{count_from, since_after, born_after, next, reopen, same_numbers, same_flags, follows}
use Rattle.text_rules.specs.ReadLine.{number_at, spaced_at, pointed_at, tx_at, bytes_of, begin_of, read_of, write_of, commit_of, header_of}

unfoldable pub run_rules : Unit {0}
unfolding one_send all_sends heard after_entry account_from without_first change_first first_lost durable_fault written_over all_current link_at put_link lose view_of_epoch install ran_on after first_fault entries_of ranges_at reached redone greatest records_in redo worked raised_from run_from moments_of moments script_from serial commit_point wrote hear take count_from since_after born_after next reopen same_numbers same_flags follows number_at spaced_at pointed_at tx_at bytes_of begin_of read_of write_of commit_of header_of
run_rules = tt
