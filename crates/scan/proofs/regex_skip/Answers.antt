use Rattle.std.proofs.Common.{sym, ◌∙◌, arith}
use Rattle.scan.specs.Far.{closed-within}
use Rattle.scan.specs.Passes.{regex_past}
use Rattle.scan.proofs.regex_skip.Goals as goal

pub through-requires : goal.through-requires
through-requires c = λ p m e. let h = closed-within c.args.s.now c.args.at p m (regex_past _ _ p m c.args.hashes (sym c.regex_end.ensures ∙ e)) in (omega arith, omega arith)
