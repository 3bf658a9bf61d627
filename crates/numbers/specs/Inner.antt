-- The same of the enums that the readers and UTF-8's check answer to other parts of the tokenizer. 01 has no numbers for them but 11 and the refusals';
-- the others are given here, in the same way: the refusal and its place first, and no numbers where nothing is answered.
use Rattle.std.specs.Prelude.{ℕ, List, [], ◌∷◌, ◌++◌, ◌≡◌, refl, Option, Some, None, Result, Ok, Err}
use Rattle.std.proofs.Common.{arith, ap}
use Rattle.record.specs.Numbers.{code_number}
use Rattle.scan.specs.Shapes.{Found}
use Rattle.scan.specs.Shapes.{Skip}
use Rattle.scan.specs.declared.Turn.{Turn}
use Rattle.scan.specs.declared.Turn.TheVariants.{Fail, Pass, Stop}
use Rattle.reading.specs.declared.Call.{Call}
use Rattle.numbers.specs.Promised.{Tells, tells}
use Rattle.numbers.specs.Same.{code-some, refusal-same}
use Rattle.numbers.specs.Values.{no_refusal, refusal_numbers, what_numbers}

-- of `utf8::check`: "11, NotUtf8: first byte of the first ill-formed sequence"
abbrev pub utf8_numbers : Result Unit ℕ → List ℕ
utf8_numbers (Ok tt) = no_refusal
utf8_numbers (Err p) = 11 ∷ p ∷ []

-- of `utf8::char_at`: the character and its width in bytes
abbrev pub sight_numbers : Option (ℕ × ℕ) → List ℕ
sight_numbers (Some (c, w)) = c ∷ w ∷ []
sight_numbers None = []

-- `scan::Found`: 1 where what is sought is found, else 0; then the place and the characters passed
abbrev pub seek_numbers : Found → List ℕ
seek_numbers (Ok (p, n)) = 1 ∷ p ∷ n ∷ []
seek_numbers (Err (p, n)) = 0 ∷ p ∷ n ∷ []

-- `scan::Skip`: the place that was come to, and the characters passed
abbrev pub skip_numbers : Skip → List ℕ
skip_numbers (Ok (p, n)) = no_refusal ++ (p ∷ n ∷ [])
skip_numbers (Err (r, p, n)) = refusal_numbers r ++ (p ∷ n ∷ [])

-- `scan::Turn`: where the walk goes on, its state too
abbrev pub turn_numbers : Turn → List ℕ
turn_numbers Stop = []
turn_numbers (Fail r p n) = refusal_numbers r ++ (p ∷ n ∷ [])
turn_numbers (Pass p n b) = no_refusal ++ (p ∷ n ∷ b ∷ [])

-- ---- no two have the same
utf8_same : (a b : Result Unit ℕ) → utf8_numbers a ≡ utf8_numbers b → a ≡ b
utf8_same (Ok u) (Ok v) e = refl
utf8_same (Ok tt) (Err p) e = let z : ◌≡◌ {A = ℕ} 0 11 = cc in absurd (omega arith)
utf8_same (Err p) (Ok tt) e = let z : ◌≡◌ {A = ℕ} 0 11 = cc in absurd (omega arith)
utf8_same (Err p) (Err q) e = ap Err (cc)

sight-same : (a b : Option (ℕ × ℕ)) → sight_numbers a ≡ sight_numbers b → a ≡ b
sight-same (Some (c, w)) (Some (d, v)) e = let x : c ≡ d = cc in let y : w ≡ v = cc in rw (x, y)
sight-same (Some (c, w)) None e = cc
sight-same None (Some (d, v)) e = cc
sight-same None None e = refl

seek-same : (a b : Found) → seek_numbers a ≡ seek_numbers b → a ≡ b
seek-same (Ok (p, n)) (Ok (q, m)) e = let x : p ≡ q = cc in let y : n ≡ m = cc in rw (x, y)
seek-same (Ok (p, n)) (Err (q, m)) e = let z : ◌≡◌ {A = ℕ} 0 1 = cc in absurd (omega arith)
seek-same (Err (p, n)) (Ok (q, m)) e = let z : ◌≡◌ {A = ℕ} 0 1 = cc in absurd (omega arith)
seek-same (Err (p, n)) (Err (q, m)) e = let x : p ≡ q = cc in let y : n ≡ m = cc in rw (x, y)

pub skip-same : (a b : Skip) → skip_numbers a ≡ skip_numbers b → a ≡ b
skip-same (Ok (p, n)) (Ok (q, m)) e = let x : p ≡ q = cc in let y : n ≡ m = cc in rw (x, y)
skip-same (Ok (p, n)) (Err (r, q, m)) e = let h : code_number r.code ≡ 0 = cc in absurd (code-some r.code h)
skip-same (Err (r, p, n)) (Ok (q, m)) e = let h : code_number r.code ≡ 0 = cc in absurd (code-some r.code h)
skip-same (Err (r, p, n)) (Err (t, q, m)) e = let w : r ≡ t = refusal-same r t (cc) (cc) in let x : p ≡ q = cc in let y : n ≡ m = cc in rw (w, x, y)

pub turn-same : (a b : Turn) → turn_numbers a ≡ turn_numbers b → a ≡ b
turn-same Stop Stop e = refl
turn-same Stop (Fail r p n) e = cc
turn-same Stop (Pass p n b) e = cc
turn-same (Fail r p n) Stop e = cc
turn-same (Fail r p n) (Fail t q m) e = let w : r ≡ t = refusal-same r t (cc) (cc) in let x : p ≡ q = cc in let y : n ≡ m = cc in rw (w, x, y)
turn-same (Fail r p n) (Pass q m b) e = cc
turn-same (Pass p n b) Stop e = cc
turn-same (Pass p n b) (Fail r q m) e = cc
turn-same (Pass p n b) (Pass q m d) e = let x : p ≡ q = cc in let y : n ≡ m = cc in let z : b ≡ d = cc in rw (x, y, z)

-- ---- THE PROMISES IN NUMBERS, of every function that answers one of these: its contract r ≡ d is that of the numbers. Those of `scan::Skip` and
-- `scan::Turn` stand in proofs/Inner.antt.
pub utf8_told : (r d : Result Unit ℕ) → Tells utf8_numbers r d
utf8_told r d = tells utf8_numbers utf8_same r d

pub sight-told : (r d : Option (ℕ × ℕ)) → Tells sight_numbers r d
sight-told r d = tells sight_numbers sight-same r d

pub seek-told : (r d : Found) → Tells seek_numbers r d
seek-told r d = tells seek_numbers seek-same r d

-- a call's answer, of every reader of `words` and `tok`
pub call-told : (r d : Call) → r ≡ d → what_numbers r.what ≡ what_numbers d.what
call-told r d e = ap (λ (x : Call). what_numbers x.what) e
