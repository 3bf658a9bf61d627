use Rattle.std.proofs.Common.{ℕ, arith, ap, refl, sym, ◌∙◌}
use Rattle.scan.specs.Depth.{deeper}
use Rattle.sheet.specs.Calls.{Onwards, going_start, onwards}
use Rattle.sheet.proofs.alone.read_all.Goals as goal

pub loop-at-init : goal.loop-at-init
loop-at-init c =
    let g = going_start c.args.text.now c.requires.0 c.args.row.now c.requires.1 in
    (refl, (g.0, sym g.1))

pub loop-at-smaller : goal.loop-at-smaller
loop-at-smaller c =
    let w : Onwards c.args.text.now c.loop-at.at c.loop-at.count c.loop-at.row c.loop-at.invariant.1.0 c.turn-r.result c.turn-r.new.row = rw (c.turn-r.ensures.0, c.turn-r.ensures.1) (onwards c.args.text.now c.loop-at.at c.loop-at.count c.loop-at.row c.loop-at.invariant.1.0) in
    let h = w.0 c.if-r.true in omega (arith, h.moves, h.to.within)

pub loop-at-preserved : goal.loop-at-preserved
loop-at-preserved c =
    let w : Onwards c.args.text.now c.loop-at.at c.loop-at.count c.loop-at.row c.loop-at.invariant.1.0 c.turn-r.result c.turn-r.new.row = rw (c.turn-r.ensures.0, c.turn-r.ensures.1) (onwards c.args.text.now c.loop-at.at c.loop-at.count c.loop-at.row c.loop-at.invariant.1.0) in
    let h = w.0 c.if-r.true in
    let i = c.loop-at.invariant in
    (h.to.size ∙ sym i.1.0.size ∙ i.0, (h.to, c.greater-deep.ensures ∙ ap (λ (x : ℕ). deeper x c.turn-r.result.deep) i.1.1 ∙ sym h.deeper-is))

pub returns-else-r : goal.returns-else-r
returns-else-r c =
    let w : Onwards c.args.text.now c.loop-at.at c.loop-at.count c.loop-at.row c.loop-at.invariant.1.0 c.turn-r.result c.turn-r.new.row = rw (c.turn-r.ensures.0, c.turn-r.ensures.1) (onwards c.args.text.now c.loop-at.at c.loop-at.count c.loop-at.row c.loop-at.invariant.1.0) in
    let h = w.1 c.if-r.false in
    let i = c.loop-at.invariant in
    let g = c.greater-deep.ensures ∙ ap (λ (x : ℕ). deeper x c.turn-r.result.deep) i.1.1 in
    rw c.over.ensures (h.how_over, h.count_over, h.row-over, h.below_over, h.size-over, h.spent-over, λ q. g ∙ h.deep-over q, rw g h.low-over)
