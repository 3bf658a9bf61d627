-- What is put at the start of a buffer that has room for it is what the buffer holds up to where it came.
use Rattle.std.specs.Prelude.{ℕ, ◌+◌, ◌≤◌, List, [], ◌++◌, ◌≡◌, refl, drop, length, take, Option, Some}
use Rattle.std.specs.Option.{unwrap_or}
use Rattle.std.proofs.Common.{arith, le-ltb, length-append}
use Rattle.std.proofs.Math.Seq.{take-append_seam}
use Rattle.text.specs.Bytes.{bytes, join}
use Rattle.text.specs.DigitLaws.{at-most_twenty}
use Rattle.text.specs.Digits.{digits}
use Rattle.text.specs.Lay.{lay}
use Rattle.text.specs.Lines.{refusal_line}
use Rattle.text.specs.NameLaws.{code-short, kind_short}
use Rattle.text.specs.Names.{code_name, kind_name}

module _ (d l : List ℕ) (h : length l ≤ length d) where
  laid : (Some (length l) ≡ (lay d (Some 0) l).to) × (l ++ drop (length l) d ≡ (lay d (Some 0) l).held)
  unfolding lay
  laid = let e = le-ltb (length d) (0 + length l) (omega (arith, h)) in let z : 0 + length l ≡ length l = omega arith in (rw (e, z) refl, rw (e, z) refl)

  pub within : (to : Option ℕ) (out : List ℕ) (n : ℕ) → (to ≡ (lay d (Some 0) l).to) × (out ≡ (lay d (Some 0) l).held) → n ≡ unwrap_or to 0 → (n ≤ length d) × (take n out ≡ l)
  within to out n k e =
      let a : to ≡ Some (length l) = rw (← laid.0) at k.0 in
      let b : out ≡ l ++ drop (length l) d = rw (← laid.1) at k.1 in
      let c : n ≡ length l = rw a at e in
      (omega (arith, c, h), rw (b, c) (take-append_seam l (drop (length l) d)))

pub number-fits : (n : ℕ) → length (digits n) ≤ 128
number-fits n = let h = at-most_twenty n in omega (arith, h)

pub kind-fits : (n : ℕ) → length (kind_name n) ≤ 128
kind-fits n = let h = kind_short n in omega (arith, h)

pub code-fits : (n : ℕ) → length (code_name n) ≤ 128
code-fits n = let h = code-short n in omega (arith, h)

pub refusal-fits : (code place : ℕ) → length (refusal_line code place) ≤ 128
unfolding bytes join refusal_line
refusal-fits code place =
    let a = code-short code in
    let b = at-most_twenty place in
    let c = length-append (code_name code) (bytes " at " ++ (digits place ++ (bytes "\n" ++ []))) in
    let d = length-append (digits place) (bytes "\n" ++ []) in
    omega (arith, a, b, c, d)
