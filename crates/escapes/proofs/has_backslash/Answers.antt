use Rattle.std.proofs.Common.{sym, ◌∙◌, refl}
use Rattle.utf8.specs.Chars.{'backslash}
use Rattle.escapes.proofs.Laws.{has_next, has_end}
use Rattle.escapes.proofs.has_backslash.Goals as goal

pub loop-b-init : goal.loop-b-init
loop-b-init c = refl

pub loop-b-preserved : goal.loop-b-preserved
loop-b-preserved c = c.loop-b.invariant ∙ has_next 'backslash _ _ c.loop-b.found c.loop-b-test.true

pub returns : goal.returns
returns c = sym (c.loop-b.invariant ∙ has_end 'backslash c.args.s.now c.loop-b.b-index c.loop-b.found c.loop-b-test.false)
