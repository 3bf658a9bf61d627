use Rattle.utf8.specs.Picks.{flags}
use Rattle.run.specs.Payload.{is_payload}
use Rattle.run.proofs.is_payload.Goals as goal

pub returns-then-from-shift : goal.returns-then-from-shift
unfolding is_payload
returns-then-from-shift c = search flags

pub returns-then-to-from : goal.returns-then-to-from
unfolding is_payload
returns-then-to-from c = search flags

pub returns-then-is_boundary : goal.returns-then-is_boundary
unfolding is_payload
returns-then-is_boundary c = search flags

pub returns : goal.returns
unfolding is_payload
returns c = search flags
