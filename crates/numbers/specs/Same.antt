-- Nothing is lost by the numbers: no two answers have the same.
-- That of an expansion stands in proofs/Same.antt.
use Rattle.std.specs.Prelude.{ℕ, List, [], ◌++◌, ◌≡◌, refl, Option, Some, None, Result, Ok, Err}
use Rattle.std.proofs.Common.{arith, append-nil, sym, ap, ◌∙◌}
use Rattle.record.specs.Numbers.{code_again, code_number, code_of, codes, kind_again, kind_number, kind_of}
use Rattle.record.specs.declared.Code.{Code}
use Rattle.record.specs.declared.Code.TheVariants.{UnrecognizedToken}
use Rattle.record.specs.declared.Kind.{Kind}
use Rattle.record.specs.declared.Reading.TheVariants.{Kept, Old}
use Rattle.record.specs.declared.Refusal.{Refusal}
use Rattle.record.specs.declared.Token.{Token}
use Rattle.reading.specs.declared.Outcome.{Outcome}
use Rattle.reading.specs.declared.Outcome.TheVariants.{Ended, Refused, Running}
use Rattle.reading.specs.declared.What.{What}
use Rattle.reading.specs.declared.What.TheVariants.{End, Error, Got}
use Rattle.escapes.specs.declared.Held.{Held}
use Rattle.escapes.specs.declared.Held.TheVariants.{Buffer, Text}
use Rattle.sheet.specs.declared.Taken.{Taken}
use Rattle.sheet.specs.declared.Taken.TheVariants.{Refused as NotTaken, Tallied, Whole}
use Rattle.numbers.specs.Values.{answer_numbers, checked_numbers, chosen_numbers, found_numbers, held_number, known_numbers, located_numbers, outcome_numbers, reported_numbers, taken_numbers, token_numbers, told_numbers, what_numbers}
use Rattle.place.specs.declared.Place.{Place}
use Rattle.record.specs.declared.Reading.{Reading}

-- ---- codes, kinds, refusals and tokens
pub code_same : (c d : Code) → code_number c ≡ code_number d → c ≡ d
code_same c d e = sym (code_again c) ∙ ap code_of e ∙ code_again d

-- no refusal has the number 0
pub code-some : (c : Code) → code_number c ≡ 0 → ⊥
unfolding code_of codes
code-some c e =
    let u : c ≡ UnrecognizedToken = sym (code_again c) ∙ ap code_of e in
    let k : code_number c ≡ 1 = ap (λ (d : Code). code_number d) u in
    omega arith

pub kind_same : (j k : Kind) → kind_number j ≡ kind_number k → j ≡ k
kind_same j k e = let h : Some j ≡ Some k = sym (kind_again j) ∙ ap kind_of e ∙ kind_again k in cc

pub refusal-same : (q r : Refusal) → code_number q.code ≡ code_number r.code → q.place ≡ r.place → q ≡ r
refusal-same q r c p = let h = code_same q.code r.code c in rw (h, p)

told_same : (a b : Option ℕ) (xs ys : List ℕ) → told_numbers a ++ xs ≡ told_numbers b ++ ys → (a ≡ b) × (xs ≡ ys)
told_same (Some n) (Some m) xs ys e = let h : n ≡ m = cc in (ap Some h, cc)
told_same (Some n) None xs ys e = let z : ◌≡◌ {A = ℕ} 0 1 = cc in absurd (omega arith)
told_same None (Some m) xs ys e = let z : ◌≡◌ {A = ℕ} 0 1 = cc in absurd (omega arith)
told_same None None xs ys e = (refl, cc)

pub token-same : (t u : Token) → token_numbers t ≡ token_numbers u → t ≡ u
token-same t u e =
    let k : kind_number t.kind ≡ kind_number u.kind = cc in
    let a : t.kind ≡ u.kind = kind_same t.kind u.kind k in
    let b : t.start ≡ u.start = cc in
    let c : t.end ≡ u.end = cc in
    let d : t.payload_start ≡ u.payload_start = cc in
    let f : t.payload_end ≡ u.payload_end = cc in
    let r : told_numbers t.gap_depth ++ told_numbers t.code_depth ≡ told_numbers u.gap_depth ++ told_numbers u.code_depth = cc in
    let g = told_same t.gap_depth u.gap_depth (told_numbers t.code_depth) (told_numbers u.code_depth) r in
    let h = told_same t.code_depth u.code_depth [] [] (append-nil (told_numbers t.code_depth) ∙ g.1 ∙ sym (append-nil (told_numbers u.code_depth))) in
    rw (a, b, c, d, f, g.0, h.0)

pub held_same : (a b : Held) → held_number a ≡ held_number b → a ≡ b
held_same Text Text e = refl
held_same Buffer Buffer e = refl
held_same Text Buffer e = absurd (omega arith)
held_same Buffer Text e = absurd (omega arith)

-- ---- THE THEOREMS, of each enum
pub what_same : (a b : What) → what_numbers a ≡ what_numbers b → a ≡ b
what_same (Got t) (Got u) e = let h : token_numbers t ≡ token_numbers u = cc in ap Got (token-same t u h)
what_same (Got t) (Error r) e = cc
what_same (Got t) End e = cc
what_same (Error r) (Got t) e = cc
what_same (Error q) (Error r) e = ap Error (refusal-same q r (cc) (cc))
what_same (Error r) End e = let h : code_number r.code ≡ 0 = cc in absurd (code-some r.code h)
what_same End (Got t) e = cc
what_same End (Error r) e = let h : code_number r.code ≡ 0 = cc in absurd (code-some r.code h)
what_same End End e = refl

-- Running, too, differs from the rest
pub outcome_same : (a b : Outcome) → outcome_numbers a ≡ outcome_numbers b → a ≡ b
outcome_same Running Running e = refl
outcome_same Running Ended e = cc
outcome_same Running (Refused r) e = cc
outcome_same Ended Running e = cc
outcome_same Ended Ended e = refl
outcome_same Ended (Refused r) e = let h : code_number r.code ≡ 0 = cc in absurd (code-some r.code h)
outcome_same (Refused r) Running e = cc
outcome_same (Refused r) Ended e = let h : code_number r.code ≡ 0 = cc in absurd (code-some r.code h)
outcome_same (Refused q) (Refused r) e = ap Refused (refusal-same q r (cc) (cc))

pub checked-same : (a b : Result Unit Refusal) → checked_numbers a ≡ checked_numbers b → a ≡ b
checked-same (Ok u) (Ok v) e = refl
checked-same (Ok tt) (Err r) e = let h : code_number r.code ≡ 0 = cc in absurd (code-some r.code h)
checked-same (Err r) (Ok tt) e = let h : code_number r.code ≡ 0 = cc in absurd (code-some r.code h)
checked-same (Err q) (Err r) e = ap Err (refusal-same q r (cc) (cc))

pub known_same : (a b : Option Kind) → known_numbers a ≡ known_numbers b → a ≡ b
known_same (Some j) (Some k) e = ap Some (kind_same j k (cc))
known_same (Some j) None e = cc
known_same None (Some k) e = cc
known_same None None e = refl

pub chosen_same : (a b : Option Reading) → chosen_numbers a ≡ chosen_numbers b → a ≡ b
chosen_same (Some Old) (Some Old) e = refl
chosen_same (Some Kept) (Some Kept) e = refl
chosen_same (Some Old) (Some Kept) e = let w : ◌≡◌ {A = ℕ} 0 1 = cc in absurd (omega arith)
chosen_same (Some Kept) (Some Old) e = let w : ◌≡◌ {A = ℕ} 0 1 = cc in absurd (omega arith)
chosen_same (Some rd) None e = cc
chosen_same None (Some rd) e = cc
chosen_same None None e = refl

pub reported-same : (a b : Result Place Refusal) → reported_numbers a ≡ reported_numbers b → a ≡ b
reported-same (Ok p) (Ok q) e =
    let h : p.line ≡ q.line = cc in
    let i : p.column ≡ q.column = cc in
    ap Ok (rw (h, i))
reported-same (Ok p) (Err r) e = let h : code_number r.code ≡ 0 = cc in absurd (code-some r.code h)
reported-same (Err r) (Ok q) e = let h : code_number r.code ≡ 0 = cc in absurd (code-some r.code h)
reported-same (Err q) (Err r) e = ap Err (refusal-same q r (cc) (cc))

pub located-same : (a b : Result ℕ Refusal) → located_numbers a ≡ located_numbers b → a ≡ b
located-same (Ok p) (Ok q) e = ap Ok (cc)
located-same (Ok p) (Err r) e = let h : code_number r.code ≡ 0 = cc in absurd (code-some r.code h)
located-same (Err r) (Ok q) e = let h : code_number r.code ≡ 0 = cc in absurd (code-some r.code h)
located-same (Err q) (Err r) e = ap Err (refusal-same q r (cc) (cc))

pub answer-same : (a b : Result ℕ Refusal) → answer_numbers a ≡ answer_numbers b → a ≡ b
answer-same (Ok n) (Ok m) e = ap Ok (cc)
answer-same (Ok n) (Err r) e = let h : code_number r.code ≡ 0 = cc in absurd (code-some r.code h)
answer-same (Err r) (Ok m) e = let h : code_number r.code ≡ 0 = cc in absurd (code-some r.code h)
answer-same (Err q) (Err r) e = ap Err (refusal-same q r (cc) (cc))

pub found-same : (a b : Option Token) → found_numbers a ≡ found_numbers b → a ≡ b
found-same (Some t) (Some u) e = ap Some (token-same t u e)
found-same (Some t) None e = cc
found-same None (Some u) e = cc
found-same None None e = refl

pub taken-same : (a b : Taken) → taken_numbers a ≡ taken_numbers b → a ≡ b
taken-same Whole Whole e = refl
taken-same Whole (Tallied r) e = let h : code_number r.code ≡ 0 = cc in absurd (code-some r.code h)
taken-same Whole (NotTaken r) e = let z : ◌≡◌ {A = ℕ} 0 1 = cc in absurd (omega arith)
taken-same (Tallied r) Whole e = let h : code_number r.code ≡ 0 = cc in absurd (code-some r.code h)
taken-same (Tallied q) (Tallied r) e = ap Tallied (refusal-same q r (cc) (cc))
taken-same (Tallied q) (NotTaken r) e = let z : ◌≡◌ {A = ℕ} 0 1 = cc in absurd (omega arith)
taken-same (NotTaken r) Whole e = let z : ◌≡◌ {A = ℕ} 0 1 = cc in absurd (omega arith)
taken-same (NotTaken q) (Tallied r) e = let z : ◌≡◌ {A = ℕ} 0 1 = cc in absurd (omega arith)
taken-same (NotTaken q) (NotTaken r) e = ap NotTaken (refusal-same q r (cc) (cc))
