-- What one moment more adds to a script.
use Rattle.std.proofs.Common.{◌≡◌, sym, ap, ◌∙◌, ℕ, List, [], ◌∷◌, ◌++◌, None}
use Rattle.std.specs.Prelude.{Option}
use Rattle.std.specs.List.{fold}
use Rattle.std.proofs.lemmas.List.{append-nil, append_assoc}
use Rattle.pcl_base.specs.declared.tx.TxId.{TxId}
use Rattle.pcl_base.specs.declared.script.Step.{Step}
use Rattle.run_rules.specs.Script.{Moment, last_write, steps_at, script_from}
use Rattle.run_laws.specs.Laws.{ScriptGrows}

grows_from : (t : TxId) (w : Option (ℕ × List ℕ)) (ms : List Moment) (m : Moment)
    → script_from t w (ms ++ m ∷ []) ≡ script_from t w ms ++ steps_at t (fold (last_write t) w ms) m
unfolding script_from
grows_from t w [] m = append-nil (steps_at t w m)
grows_from t w (x ∷ ms) m =
    ap (λ (steps : List Step). steps_at t w x ++ steps) (grows_from t (last_write t w x) ms m)
    ∙ sym (append_assoc (steps_at t w x) (script_from t (last_write t w x) ms) (steps_at t (fold (last_write t) (last_write t w x) ms) m))

pub script-grows : ScriptGrows
script-grows t ms m = grows_from t None ms m
