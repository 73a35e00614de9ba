use mathlib.Core.Path.{refl}
use Rattle.run_rules.proofs.Opened.{run_rules}
use Rattle.run_rules.proofs.account_rows.row_of_account.Goals as goal

pub returns : goal.returns
unfolding run_rules
returns c =
    record {
      image_with_release = refl;
      lock = refl;
      grant_unasked = refl;
      grant_twice = refl;
      release_twice = refl;
      release_under_right = refl;
      release_before = refl;
      rights = refl;
      revoke_without_writer = refl;
      revoke_without_right = refl;
      revoke_twice = refl;
      answer_twice = refl;
      revoke_for_another = refl;
      revoke_and_grant = refl;
      commit_as_commit = refl;
      abort_as_abort = refl;
      commit_as_abort = refl;
      abort_as_commit = refl;
      answer_unasked = refl;
    }
