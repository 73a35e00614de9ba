use Rattle.std.proofs.Common.{◌≡◌, Some, ap, sym, subst, ◌∙◌, ◌++◌}
use Rattle.node_parts.specs.State.{node_of}
use Rattle.partition_steps.specs.Carried.{CanCarryEach}
use Rattle.install_steps.specs.Births.{trim_calls, trimmed}
use Rattle.install_steps.specs.Calls.{all_calls}
use Rattle.install_steps.proofs.Started.{can_trimmed, halt_comes, never_wants, trim_failed, trimmed_comes, trimmed_made}
use Rattle.install_steps.proofs.Trimming.{logs_trimmed, pages_trimmed}
use Rattle.install_steps.proofs.working.work_off.Goals as goal

pub carry_to_end-requires-clause-plans : goal.carry_to_end-requires-clause-plans
carry_to_end-requires-clause-plans g c =
    subst (λ o. CanCarryEach c.args.parts.now.home.config c.args.parts.now.me o (g.S.Storage.logs c.trim.new.s) c.args.plans.items) (sym c.trim.ensures.pages)
    (subst (λ o. CanCarryEach c.args.parts.now.home.config c.args.parts.now.me (g.S.Storage.pages c.args.s.now) o c.args.plans.items) (sym c.in-Ok.ensures.logs)
    (can_trimmed c.args.parts.now.home.config c.args.parts.now.me c.args.keep (g.S.Storage.pages c.args.s.now) (g.S.Storage.logs c.args.s.now) c.args.plans.items c.requires.may.keeps c.requires.may.can))

pub returns-in-Err-clause-comes : goal.returns-in-Err-clause-comes
returns-in-Err-clause-comes g c = λ d cs stored told. halt_comes (Unit {0}) _ c.in-Err.fault _ c.in-Err.ensures.fault

pub returns-in-Err-clause-made : goal.returns-in-Err-clause-made
returns-in-Err-clause-made g c = λ d stored told. trim_failed (Unit {0}) (Unit {0}) c.args.parts.now.me c.args.keep (all_calls d c.args.plans.items) c.in-Err.fault _ _ c.in-Err.ensures.made

pub returns-in-Ok-clause-comes : goal.returns-in-Ok-clause-comes
returns-in-Ok-clause-comes g c = λ d cs stored told.
    let me = c.args.parts.now.me in
    let keep = c.args.keep in
    let later : g.S.Storage.logs c.trim.new.s ≡ Some (trimmed me keep d).logs = c.in-Ok.ensures.logs ∙ logs_trimmed me keep (g.S.Storage.logs c.args.s.now) d told in
    let pages : g.S.Storage.pages c.trim.new.s ≡ Some (trimmed me keep d).pages = c.trim.ensures.pages ∙ (stored ∙ ap (λ ps. Some ps) (sym (pages_trimmed me keep d))) in
    trimmed_comes c.args.parts.now.home.config me keep (g.S.Storage.pages c.args.s.now) (g.S.Storage.logs c.args.s.now) d (node_of c.args.parts.now) (c.requires.may.keeps d told) (Unit {0}) c.args.plans.items c.args.differs cs
    c.args.out.now c.carry_to_end.new.out c.carry_to_end.result (node_of c.carry_to_end.new.parts) c.requires.may.can
    (c.carry_to_end.ensures.comes (trimmed me keep d) (cs ++ trim_calls keep) pages later)

pub returns-in-Ok-clause-made : goal.returns-in-Ok-clause-made
returns-in-Ok-clause-made g c = λ d stored told.
    let me = c.args.parts.now.me in
    let keep = c.args.keep in
    let later : g.S.Storage.logs c.trim.new.s ≡ Some (trimmed me keep d).logs = c.in-Ok.ensures.logs ∙ logs_trimmed me keep (g.S.Storage.logs c.args.s.now) d told in
    let pages : g.S.Storage.pages c.trim.new.s ≡ Some (trimmed me keep d).pages = c.trim.ensures.pages ∙ (stored ∙ ap (λ ps. Some ps) (sym (pages_trimmed me keep d))) in
    trimmed_made c.args.parts.now.home.config me keep (g.S.Storage.pages c.args.s.now) (g.S.Storage.logs c.args.s.now) d (node_of c.args.parts.now) (c.requires.may.keeps d told) (Unit {0}) c.args.plans.items c.carry_to_end.result _ _ _ c.requires.may.can
    c.in-Ok.ensures.made (never_wants c.carry_to_end.result c.carry_to_end.ensures.fault) (c.carry_to_end.ensures.made (trimmed me keep d) pages later)
