use Rattle.std.proofs.Common.{sym, ◌∙◌}
use Rattle.code.specs.Laws.{slash_turns}
use Rattle.code.proofs.turn.Goals as goal

pub returns-then-c-eq-SLASH : goal.returns-then-c-eq-SLASH
returns-then-c-eq-SLASH c =
    let h = slash_turns _ _ _ c.if-c-eq-SLASH.true _ _ _ in
    (c.slash_turn.ensures.0 ∙ sym h.0, c.slash_turn.ensures.1 ∙ sym h.1)
