use Rattle.std.proofs.Common.{refl, sym, ◌∙◌, arith}
use Rattle.utf8.specs.Chars.{'dquote}
use Rattle.utf8.specs.Utf8.{width_of}
use Rattle.scan.specs.Far.{closed-within}
use Rattle.scan.specs.Passes.{string_past}
use Rattle.scan.proofs.string_skip.Goals as goal

pub through-requires : goal.through-requires
unfolding width_of
through-requires c = λ p m e. let h = closed-within c.args.s.now c.args.at p m (string_past _ _ p m 'dquote refl (sym c.string_end.ensures ∙ e)) in (omega arith, omega arith)
