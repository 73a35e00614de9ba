-- One script more is one step of the run.
use Rattle.std.proofs.Common.{subst}
use Rattle.pcl_model.specs.declared.fault.ApplyFault.{ApplyFault}
use Rattle.pcl_model.specs.declared.fault.ApplyFault.TheVariants.{Differs}
use Rattle.pcl_model.specs.Faults.{IsNamed}
use Rattle.run_rules.specs.Running.{run_script}
use Rattle.pcl_model.proofs.SerialLemmas.{AtMost-run, below-AtMost, run_from-ok, run_from-differs}
use Rattle.pcl_model.proofs.serial.run_one.Goals as goal

pub apply-requires-clause-below : goal.apply-requires-clause-below
apply-requires-clause-below c =
    below-AtMost c.args.index c.args.base.now.pages c.args.script.now.steps c.requires.versions c.requires.index

pub returns-in-Ok-clause-ok : goal.returns-in-Ok-clause-ok
returns-in-Ok-clause-ok c rest =
    run_from-ok c.args.index c.args.script.now.steps c.args.base.now.pages c.apply.new.self.pages c.in-Ok.ensures.ok rest

pub returns-in-Ok-clause-versions : goal.returns-in-Ok-clause-versions
returns-in-Ok-clause-versions c =
    AtMost-run c.args.index c.args.base.now.pages c.args.script.now.steps c.apply.new.self.pages c.in-Ok.ensures.ok c.requires.versions

pub returns-in-Err-Differs-clause-fault : goal.returns-in-Err-Differs-clause-fault
returns-in-Err-Differs-clause-fault c rest =
    let named : IsNamed (Differs c.in-Err-Differs.place c.in-Err-Differs._expected) (run_script c.args.base.now.pages c.args.script.now.steps)
    = subst (λ (f : ApplyFault). IsNamed f (run_script c.args.base.now.pages c.args.script.now.steps)) c.in-Err-Differs.field-0-is c.in-Err-Differs.ensures.fault in
    run_from-differs c.args.index c.args.script.now.steps c.args.base.now.pages c.in-Err-Differs.place c.in-Err-Differs._expected named rest
