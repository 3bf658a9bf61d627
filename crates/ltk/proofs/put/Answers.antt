use Rattle.std.proofs.Common.{ℕ, List, ◌+◌, ◌-◌, ◌≡◌, ◌∙◌, ap, arith, take}
use Rattle.ltk.specs.Layout.{little}
use Rattle.ltk.specs.Laws.{length-little}
use Rattle.ltk.proofs.Laying.{part_set, first_bytes}
use Rattle.ltk.proofs.put.Goals as goal

pub returns : goal.returns
returns c =
    let a = c.args in
    let bytes : c.copy_from_slice.new.self ≡ little a.k a.n = c.copy_from_slice.ensures.after ∙ ap (λ (l : List ℕ). take a.k l) c.to_le_bytes.ensures ∙ first_bytes a.k a.n c.requires.size in
    part_set a.p (a.p + a.k - a.p) a.out.now c.copy_from_slice.new.self (little a.k a.n) (omega arith) (omega (arith, length-little a.k a.n)) bytes
