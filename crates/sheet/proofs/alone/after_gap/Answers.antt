use Rattle.std.proofs.Common.{refl, ◌∙◌, arith}
use Rattle.sheet.specs.Calls.{after-end, after_error, after_got, after_limit, after_small, delivers}
use Rattle.sheet.specs.Laws.{below_more, entered-fits}
use Rattle.ledger.specs.Written.{kind_small}
use Rattle.sheet.specs.Parts.{part_small}
use Rattle.sheet.proofs.alone.after_gap.Goals as goal

pub overflow_add-total : goal.overflow_add-total
overflow_add-total c = omega (arith, after_small c.args.text.now c.args.at c.args.count c.args.row.now c.requires.0 c.args.p c.args.white c.args.comment c.args.deep c.requires.1 c.token_or_end-x.result c.token_or_end-x.ensures, c.requires.0.spent)

pub overflow_add-total-2 : goal.overflow_add-total-2
overflow_add-total-2 c = omega (arith, after_small c.args.text.now c.args.at c.args.count c.args.row.now c.requires.0 c.args.p c.args.white c.args.comment c.args.deep c.requires.1 c.token_or_end-x.result c.token_or_end-x.ensures, c.requires.0.spent)

pub overflow_add-total-3 : goal.overflow_add-total-3
overflow_add-total-3 c = omega (arith, after_small c.args.text.now c.args.at c.args.count c.args.row.now c.requires.0 c.args.p c.args.white c.args.comment c.args.deep c.requires.1 c.token_or_end-x.result c.token_or_end-x.ensures, c.requires.0.spent)

pub returns-then-total-gt-WORK_LIMIT : goal.returns-then-total-gt-WORK_LIMIT
returns-then-total-gt-WORK_LIMIT c =
    let z = after_limit c.args.text.now c.args.at c.args.count c.args.row.now c.requires.0 c.args.p c.args.white c.args.comment c.args.deep c.requires.1 c.token_or_end-x.result c.token_or_end-x.ensures c.if-total-gt-WORK_LIMIT.true in
    (c.limited.ensures ∙ z.0, z.1)

pub gap_onto-requires : goal.gap_onto-requires
gap_onto-requires c = let g = c.requires.0 in let l = after_small c.args.text.now c.args.at c.args.count c.args.row.now c.requires.0 c.args.p c.args.white c.args.comment c.args.deep c.requires.1 c.token_or_end-x.result c.token_or_end-x.ensures in (g.size, below_more (omega (arith, g.within, g.small)) g.below, omega (arith, l), omega (arith, l))

pub token_onto-requires : goal.token_onto-requires
token_onto-requires c =
    let a = c.args in
    let g = c.requires.0 in
    let y = c.token_or_end-x.result in
    let l = after_small c.args.text.now c.args.at c.args.count c.args.row.now c.requires.0 c.args.p c.args.white c.args.comment c.args.deep c.requires.1 c.token_or_end-x.result c.token_or_end-x.ensures in
    let e = delivers a.text.now a.at a.count a.row.now g a.p a.white a.comment a.deep c.requires.1 y c.token_or_end-x.ensures _ c.in-Got.is in
    let q = part_small a.text.now a.p _ y.at y.advances e in
    let h = entered-fits 55 a.white refl g.below g.size in
    let i = entered-fits 56 a.comment c.gap_onto.ensures h.0 h.1 in
    let r = c.part-adds.ensures in
    (i.1, below_more (omega (arith, l, g.within, g.small)) i.0, omega (arith, c.kind_number.ensures, kind_small c.in-Got.t.kind), rw r (omega (arith, q.0, l)), rw r q.1, rw r q.2)

pub gap_onto-requires-in-End : goal.gap_onto-requires-in-End
gap_onto-requires-in-End c = let g = c.requires.0 in let l = after_small c.args.text.now c.args.at c.args.count c.args.row.now c.requires.0 c.args.p c.args.white c.args.comment c.args.deep c.requires.1 c.token_or_end-x.result c.token_or_end-x.ensures in (g.size, below_more (omega (arith, g.within, g.small)) g.below, omega (arith, l), omega (arith, l))

pub returns-in-Got : goal.returns-in-Got
returns-in-Got c =
    let z = after_got c.args.text.now c.args.at c.args.count c.args.row.now c.requires.0 c.args.p c.args.white c.args.comment c.args.deep c.requires.1 c.token_or_end-x.result c.token_or_end-x.ensures (omega (arith, c.if-total-gt-WORK_LIMIT.false)) _ c.in-Got.is in
    (rw c.greater.ensures z.0, z.1 _ (c.token_onto.ensures ∙ rw (c.part-adds.ensures, c.kind_number.ensures, c.gap_onto.ensures)))

pub returns-in-Error : goal.returns-in-Error
returns-in-Error c =
    let z = after_error c.args.text.now c.args.at c.args.count c.args.row.now c.requires.0 c.args.p c.args.white c.args.comment c.args.deep c.requires.1 c.token_or_end-x.result c.token_or_end-x.ensures (omega (arith, c.if-total-gt-WORK_LIMIT.false)) _ c.in-Error.is in
    (c.over.ensures ∙ z.0, z.1)

pub returns-in-End : goal.returns-in-End
returns-in-End c =
    let z = after-end c.args.text.now c.args.at c.args.count c.args.row.now c.requires.0 c.args.p c.args.white c.args.comment c.args.deep c.requires.1 c.token_or_end-x.result c.token_or_end-x.ensures (omega (arith, c.if-total-gt-WORK_LIMIT.false)) c.in-End.is in
    (c.over-in-End.ensures ∙ z.0, z.1 _ c.gap_onto-in-End.ensures)
