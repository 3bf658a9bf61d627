-- Laws of what the books are kept in, of a token that is placed: its characters, and what it costs.
use Rattle.std.specs.Prelude.{◌+◌, ◌-◌, ◌≤◌, ℕ, cond, List, ◌≡◌, drop, length}
use Rattle.std.proofs.Common.{arith, ◌∙◌, ap, sym, length-drop, drop-drop}
use Rattle.record.specs.declared.Token.{Token}
use Rattle.record.specs.declared.Reading.{Reading}
use Rattle.scan.specs.Far.{Far, far_left, then}
use Rattle.scan.specs.Until.{left}
use Rattle.reading.proofs.CallLaw.{Placed}
use Rattle.reading.specs.Measures.{is_hash, tail_of, wasted, wasted_at}
use Rattle.reading.specs.Sums.{weight, weight-first, weight-drop, wasted-le, cost-le}

-- in every reading
module _ (rd : Reading) where
  -- gap, token and dropped character together
  abbrev pub passed_by : {cs : List ℕ} {at : ℕ} {t : Token} {p n : ℕ} → Placed rd cs at t p n → ℕ
  passed_by {cs} {at} {t} h = h.gapped + (h.width + tail_of rd t.kind (drop h.width (drop h.gapped cs)))

  pub placed_far : (cs : List ℕ) (at : ℕ) (t : Token) (p n : ℕ) (h : Placed rd cs at t p n) → Far cs at (passed_by h) p
  placed_far cs at t p n h = then h.gapped cs at t.start _ p h.gap_far (then h.width (drop h.gapped cs) t.start t.end _ p h.span h.tail)

  pub placed_length : (s : List ℕ) (at : ℕ) (t : Token) (p n : ℕ) (h : Placed rd (left s at) at t p n) → length (left s at) ≡ passed_by h + length (left s p)
  placed_length s at t p n h =
      let f = placed_far (left s at) at t p n h in
      let w : passed_by h ≤ length (left s at) = f.within in
      let e : length (left s p) ≡ length (left s at) - passed_by h = ap length (sym (far_left s at (passed_by h) p f)) ∙ length-drop (passed_by h) (left s at) in
      omega (arith, w, e)

  -- the failed attempt at the token, on the text
  pub placed_cost : (s : List ℕ) (shift at : ℕ) (t : Token) (p n : ℕ) (h : Placed rd (left s at) at t p n)
      → cond (is_hash t.kind) (wasted (drop h.gapped (left s at)) t.start) 0 ≡ cond (is_hash t.kind) (wasted_at s (t.start + shift - shift)) 0
  placed_cost s shift at t p n h =
      let e : t.start + shift - shift ≡ t.start = omega arith in
      rw (e, far_left s at h.gapped t.start h.gap_far)

  -- a call pays from the weight of what it passes
  pub placed_weight : (s : List ℕ) (at : ℕ) (t : Token) (p n m : ℕ) (h : Placed rd (left s at) at t p m) → length (left s at) ≤ n
      → cond (is_hash t.kind) (wasted (drop h.gapped (left s at)) t.start) 0 + weight n (left s p) ≤ weight n (left s at)
  placed_weight s at t p n m h l =
      let cs = left s at in
      let g = h.gapped in
      let k = h.width + tail_of rd t.kind (drop h.width (drop g cs)) in
      let a = cost-le (is_hash t.kind) (wasted (drop g cs) t.start) in
      let b = wasted-le n (drop g cs) t.start (omega (arith, length-drop g cs)) in
      let c = weight-first n (drop g cs) in
      let d = weight-drop n g cs in
      let e = weight-drop n (k - 1) (drop 1 (drop g cs)) in
      let j : 1 + (k - 1) ≡ k = omega (arith, h.some) in
      let q : drop (k - 1) (drop 1 (drop g cs)) ≡ left s p =
      drop-drop (k - 1) 1 (drop g cs) ∙ ap (λ (i : ℕ). drop i (drop g cs)) j ∙ drop-drop k g cs ∙ far_left s at (g + k) p (placed_far cs at t p m h) in
      let f : weight n (left s p) ≤ weight n (drop 1 (drop g cs)) = rw q at e in
      omega (arith, a, b, c, d, f)
