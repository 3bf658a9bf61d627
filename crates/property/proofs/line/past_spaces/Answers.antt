use Rattle.std.proofs.Common.{arith}
use Rattle.property.specs.Lines.{'space}
use Rattle.property.specs.Laws.{front_few}
use Rattle.std.specs.Prelude.{true}
use Rattle.property.proofs.line.past_spaces.Goals as goal

pub slice_bounds-result-count : goal.slice_bounds-result-count
slice_bounds-result-count c = omega (arith, front_few 'space true c.args.s.now)

pub slice_bounds-result-start : goal.slice_bounds-result-start
slice_bounds-result-start c = omega (arith, front_few 'space true c.args.s.now)
