use Rattle.std.proofs.Common.{refl}
use Rattle.code.specs.Stops.{code_stops, stop_here, table}
use Rattle.code.specs.Code.{closes, opens}
use Rattle.code.proofs.code.Goals as goal

pub code_by-requires : goal.code_by-requires
unfolding code_stops table stop_here opens closes
code_by-requires c = refl
