use Rattle.std.proofs.Common.{◌≡◌, ◌∙◌, true, refl, sym, subst, get_or}
use Rattle.std.specs.List.{All}
use Rattle.pcl_base.specs.declared.tx.TxId.{TxId}
use Rattle.node_rules.specs.OpenTxs.{OpenTxs, is_own}
use Rattle.home_laws.specs.Homes.{AreSerials}
use Rattle.home.specs.Moves.{with_kinds}
use Rattle.home.proofs.Turning.{name_next, name_over, serials_stay}
use Rattle.home.proofs.turns.turn_all.Goals as goal

abbrev first_tx : TxId
first_tx = record { node = 0; born = 0; serial = 0 }

pub turn_locks-requires-clause-own : goal.turn_locks-requires-clause-own
turn_locks-requires-clause-own c = c.loop-name.invariant.own c.loop-name.name-index first_tx c.loop-name-test.true

pub loop-name-preserved : goal.loop-name-preserved
loop-name-preserved c =
    let tx = get_or c.args.names.now c.loop-name.name-index first_tx in
    record {
      rest =
          name_next (with_kinds c.args.config.now c.args.partition c.args.kind) c.loop-name.txs c.turn_locks.new.txs c.args.names.now c.loop-name.name-index first_tx c.loop-name-test.true c.turn_locks.ensures
          ∙ c.loop-name.invariant.rest;
      own = subst (λ (s : OpenTxs). All (λ t. is_own s t ≡ true) c.args.names.now) (sym c.turn_locks.ensures) c.loop-name.invariant.own;
      serials =
          subst (λ (s : OpenTxs). AreSerials 0 s.last s.txs) (sym c.turn_locks.ensures)
          (serials_stay (with_kinds c.args.config.now c.args.partition c.args.kind) (λ x. refl) 0 c.loop-name.txs.last c.loop-name.txs.txs tx.serial c.loop-name.invariant.serials);
    }

pub returns : goal.returns
returns c =
    sym (name_over (with_kinds c.args.config.now c.args.partition c.args.kind) c.loop-name.txs c.args.names.now c.loop-name.name-index c.loop-name-test.false)
    ∙ c.loop-name.invariant.rest
