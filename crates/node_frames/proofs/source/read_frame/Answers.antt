use Rattle.node_frames.proofs.FrontLaws.{read_whole, read_failed}
use Rattle.node_frames.proofs.source.read_frame.Goals as goal

pub returns-in-Err-read_body-clause-read : goal.returns-in-Err-read_body-clause-read
returns-in-Err-read_body-clause-read g c =
    read_failed c.in-Ok-Some.field-0 c.in-Ok-Some.length c.in-Err-read_body.fault c.in-Ok-Some.ensures.read c.in-Ok-Some.field-0-is c.in-Err-read_body.ensures

pub returns-in-Ok-clause-read : goal.returns-in-Ok-clause-read
returns-in-Ok-clause-read g c =
    read_whole c.in-Ok.field-0 c.in-Ok-Some.field-0 c.in-Ok-Some.length c.in-Ok-Some.ensures.read c.in-Ok-Some.field-0-is c.in-Ok.ensures
