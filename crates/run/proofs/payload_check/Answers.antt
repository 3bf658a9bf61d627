use Rattle.utf8.specs.Picks.{flags}
use Rattle.run.specs.Payload.{payload_check}
use Rattle.run.proofs.payload_check.Goals as goal

pub returns-then-is_payload : goal.returns-then-is_payload
unfolding payload_check
returns-then-is_payload c = search flags

pub returns : goal.returns
unfolding payload_check
returns c = search flags
