-- Nothing is lost by an expansion's numbers: no two answers have the same.
use Rattle.std.specs.Prelude.{◌≡◌, Result, Ok, Err}
use Rattle.std.proofs.Common.{ap}
use Rattle.record.specs.Numbers.{code_number}
use Rattle.numbers.specs.Same.{code-some, held_same, refusal-same}
use Rattle.numbers.specs.Values.{expanded_numbers}
use Rattle.escapes.specs.declared.Part.{Part}
use Rattle.record.specs.declared.Refusal.{Refusal}

pub expanded-same : (a b : Result Part Refusal) → expanded_numbers a ≡ expanded_numbers b → a ≡ b
expanded-same (Ok p) (Ok q) e =
    let h : p.held ≡ q.held = held_same p.held q.held (cc) in
    let i : p.start ≡ q.start = cc in
    let j : p.end ≡ q.end = cc in
    ap Ok (rw (h, i, j))
expanded-same (Ok p) (Err r) e = let h : code_number r.code ≡ 0 = cc in absurd (code-some r.code h)
expanded-same (Err r) (Ok p) e = let h : code_number r.code ≡ 0 = cc in absurd (code-some r.code h)
expanded-same (Err q) (Err r) e = ap Err (refusal-same q r (cc) (cc))
