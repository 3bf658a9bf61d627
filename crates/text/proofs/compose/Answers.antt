use Rattle.std.proofs.Common.{refl}
use Rattle.text.specs.declared.Piece.TheVariants.{Phrase}
use Rattle.text.specs.Pieces.{composed_all, composed_first, composed_on}
use Rattle.text.proofs.compose.Goals as goal

pub loop-p-init : goal.loop-p-init
loop-p-init c = composed_first _ _ refl

pub loop-p-preserved : goal.loop-p-preserved
loop-p-preserved c =
    let p = c.piece_in-n in
    composed_on _ _ _ _ _ _ _ (Phrase 0) c.loop-p.invariant c.loop-p-test.true c.requires p.ensures.0 p.ensures.1

pub returns : goal.returns
returns c =
    rw (← (composed_all _ _ _ _ _ c.loop-p.invariant refl c.requires c.loop-p-test.false)) c.put.ensures
