use Rattle.std.proofs.Common.{◌∙◌}
use Rattle.property.proofs.Texts.{semi_other, semi_name}
use Rattle.property.proofs.line.named.Goals as goal

pub returns-in_err-name : goal.returns-in_err-name
returns-in_err-name c first last =
    rw (c.from_residual.ensures) (semi_other c.past_spaces.result.now first last c.in_err-name.ensures.cases ∙ rw c.past_spaces.ensures)

pub returns : goal.returns
returns c first last =
    let e = c.in_ok-name.ensures.cases in
    let n = rw c.past_spaces-2.ensures at (c.known.ensures first last) in
    n ∙ rw c.past_spaces.ensures at (semi_name c.past_spaces.result.now c.in_ok-name.name.now first last e.0 e.1)
