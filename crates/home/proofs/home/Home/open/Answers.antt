use Rattle.std.proofs.Common.{◌∙◌, ap, sym, subst, arith}
use Rattle.home_laws.specs.Homes.{IsHome}
use Rattle.home_laws.proofs.Opened.{open_home_is_sound_law}
use Rattle.tx_table.specs.Counts.{wait_count}
use Rattle.home.specs.Parts.{HasMemory}
use Rattle.home.proofs.home.Home.open.Goals as goal

pub invariant_of-result : goal.invariant_of-result
invariant_of-result c =
    let home = c.in_ok-open.ensures.home.0 in (
      subst IsHome (sym home) (open_home_is_sound_law c.args.config.now c.args.me c.args.born c.in_ok-open.ensures.limits c.requires),
      (
        subst (λ h. HasMemory (wait_count h.txs.txs) c.in_ok-open.field-0) (sym home) (record { rights = omega arith; places = omega arith; replies = omega arith }),
        c.in_ok-open.ensures.home.1 ∙ ap (λ h. h.txs.node) (sym home),
      ),
    )
