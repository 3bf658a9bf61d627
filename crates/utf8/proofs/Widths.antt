-- What the first bytes of a character tell of it, where they need no closer look: that so many bytes are passed.
use Rattle.std.specs.Prelude.{ℕ, ◌+◌, ◌≤◌, ◌<◌, List, length, get_or}
use Rattle.std.proofs.Common.{sym, ◌∙◌, arith}
use Rattle.utf8.specs.Utf8.{code2, code3, high, low}
use Rattle.utf8.proofs.Laws.{seen}
use Rattle.utf8.specs.Laws.{sight_ascii, sight_in}
use Rattle.utf8.specs.Widths.{Passes, passes-seen, low-plain, high-plain, lead-two, lead_three}

pub passes-one : (s : List ℕ) (at : ℕ) → at < length s → get_or s at 0 < 0x80 → Passes s at 1
passes-one s at l a = passes-seen s at (get_or s at 0) 1 (seen s at (get_or s at 0) 1 (sym (sight_ascii s at l a)))

module _ (s : List ℕ) (at : ℕ) (l : at < length s) where
  pub passes-two : 0xC2 ≤ get_or s at 0 → get_or s at 0 < 0xE0 → 0x80 ≤ get_or s (at + 1) 0 → get_or s (at + 1) 0 ≤ 0xBF → Passes s at 2
  passes-two p q r t =
      let a = get_or s at 0 in
      let b = get_or s (at + 1) 0 in
      let lo = low-plain a (λ e. omega arith) (λ e. omega arith) in
      let hi = high-plain a (λ e. omega arith) (λ e. omega arith) in
      let e = lead-two (low a) (high a) a b (get_or s (at + 2) 0) (get_or s (at + 3) 0) p q (omega (arith, lo)) (omega (arith, hi)) in
      passes-seen s at (code2 a b) 2 (seen s at (code2 a b) 2 (sight_in s at l ∙ sym e))

  pub passes_three : 0xE1 ≤ get_or s at 0 → get_or s at 0 < 0xED → 0x80 ≤ get_or s (at + 1) 0 → get_or s (at + 1) 0 ≤ 0xBF
      → 0x80 ≤ get_or s (at + 2) 0 → get_or s (at + 2) 0 ≤ 0xBF → Passes s at 3
  passes_three p q r t u v =
      let a = get_or s at 0 in
      let b = get_or s (at + 1) 0 in
      let c = get_or s (at + 2) 0 in
      let lo = low-plain a (λ e. omega arith) (λ e. omega arith) in
      let hi = high-plain a (λ e. omega arith) (λ e. omega arith) in
      let e = lead_three (low a) (high a) a b c (get_or s (at + 3) 0) p q (omega (arith, lo)) (omega (arith, hi)) u v in
      passes-seen s at (code3 a b c) 3 (seen s at (code3 a b c) 3 (sight_in s at l ∙ sym e))
