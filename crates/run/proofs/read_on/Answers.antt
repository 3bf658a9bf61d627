use Rattle.run.specs.Steps.{call_roomy}
use Rattle.run.proofs.read_on.Goals as goal

pub shift_what-shifted-requires : goal.shift_what-shifted-requires
shift_what-shifted-requires c = rw c.next_unshifted-x.ensures (call_roomy _ _ c.args.limit _ c.requires)
