use Rattle.std.proofs.Common.{Bool, ap, sym, ◌∙◌, ℕ}
use Rattle.record.specs.Numbers.{kind_number}
use Rattle.sheet.specs.Parts.{part-is, part_by, sharp_part, token-moves}
use Rattle.sheet.proofs.alone.part.Goals as goal

-- src/alone.rt:107:9
pub sharp-requires : goal.sharp-requires
sharp-requires c = let a = c.args in token-moves a.text.now a.p a.t a.to a.n c.requires

-- src/alone.rt:107:9
pub returns-then-is_next : goal.returns-then-is_next
returns-then-is_next c =
    let a = c.args in
    let e = sym c.is_next.ensures ∙ c.if-is_next.true in
    c.sharp.ensures ∙ ap (λ (k : ℕ). sharp_part k a.t.end a.to a.n) c.kind_number.ensures
    ∙ sym (ap (λ (b : Bool). part_by b (kind_number a.t.kind) a.t.end a.to a.n) e) ∙ sym (part-is a.text.now a.p a.t a.to a.n c.requires)

-- src/alone.rt:101:1
pub returns : goal.returns
returns c =
    let a = c.args in
    let e = sym c.is_next.ensures ∙ c.if-is_next.false in
    sym (ap (λ (b : Bool). part_by b (kind_number a.t.kind) a.t.end a.to a.n) e) ∙ sym (part-is a.text.now a.p a.t a.to a.n c.requires)
