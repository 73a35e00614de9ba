-- A small home, for computed rows: its transaction writes page 3 and reads page 1 under a right.
use Rattle.std.specs.Prelude.{false, [], ◌∷◌, Some, None}
use Rattle.pcl_base.specs.declared.tx.TxId.{TxId}
use Rattle.pcl_base.specs.declared.tx.Mode.TheVariants.{Shared, Exclusive}
use Rattle.pcl_base.specs.declared.lock.Kind.TheVariants.{Own, Right}
use Rattle.node_rules.specs.NodeState.{HomeState, open_home}
use Rattle.node_rules.specs.StepRows.{two}

-- its transaction, and the next one of its node
abbrev pub first : TxId
first = record { node = 0; born = 1; serial = 1 }

-- the next one
abbrev pub second : TxId
second = record { node = 0; born = 1; serial = 2 }

-- the home
abbrev pub small : HomeState
small =
    record (open_home two 0 1) {
      txs =
          record {
            node = 0;
            born = 1;
            last = 2;
            txs =
                record {
                  serial = 1;
                  pages = record { page = 3; mode = Exclusive; kind = Own } ∷ record { page = 1; mode = Shared; kind = Right } ∷ [];
                  waiting = None;
                }
                ∷ [];
          };
      shelf = record { page = 1; version = 2; readers = first ∷ [] } ∷ [];
      pool =
          record {
            frames = 3;
            size = 8;
            slots =
                record { page = 3; copy = Some (record { version = 4; bytes = 7 ∷ []; dirty = false }); pins = 1 }
                ∷ record { page = 1; copy = Some (record { version = 2; bytes = 8 ∷ []; dirty = false }); pins = 1 }
                ∷ [];
            privates = record { tx = first; page = 3; bytes = Some (9 ∷ []) } ∷ [];
          };
    }
