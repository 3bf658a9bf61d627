-- What a token adds, from what its call answers: by its first character. A hash starts an attribute, or an attempt that failed; nothing else does.
use Prim.Native.Nat.{◌+◌, ◌-◌, ◌<◌, ◌≤◌, suc, ℕ}
use native.Mathlib.Omega.{arith}
use Rattle.std.specs.Prelude.{Bool, cond, ◌≡◌, ltb, Ok, Err}
use Rattle.std.proofs.Math.Bool.{false, true}
use mathlib.Core.List.{List, [], ◌∷◌}
use Rattle.std.proofs.Common.{◌∙◌, subst}
use Rattle.std.proofs.Math.Path.{ap, refl, sym}
use Rattle.std.proofs.Math.Dec.{eqb}
use Rattle.std.proofs.Math.ListN.{drop, length}
use borrow.Author.Tests.{le-ltb, lt-ltb}
use Rattle.utf8.specs.Utf8.{width_of}
use Rattle.record.specs.Numbers.{kind_number}
use Rattle.record.specs.Records.{token_of}
use Rattle.record.specs.declared.Kind.TheVariants.{Hash, ShebangAttribute}
use Rattle.record.specs.declared.Reading.TheVariants.{Old}
use Rattle.record.specs.declared.Token.{Token}
use Rattle.scan.specs.Far.{Far, after, far_left, far_one, one_far}
use Rattle.scan.specs.IfNext.{if_next}
use Rattle.scan.specs.Near.{wide}
use Rattle.scan.specs.Until.{left}
use Rattle.reading.specs.Answers.{deliver, more, plain}
use Rattle.reading.specs.Attribute.{attempt, attribute_token, dropped, hash, hash_by}
use Rattle.reading.proofs.CallLaw.{Stands, token-or-end-stands}
use Rattle.reading.specs.CallLaw.{Tried, attempt_tried}
use Rattle.reading.proofs.Calls.{plain-taken}
use Rattle.reading.specs.Calls.{SpanIn, Taken}
use Rattle.reading.specs.Next.{starts, token, token_or_end}
use Rattle.reading.specs.Symbols.{single, singles}
use Rattle.reading.specs.Shapes.{Attempt}
use Rattle.reading.specs.declared.Call.{Call}
use Rattle.reading.specs.declared.What.TheVariants.{End, Got}
use Rattle.sheet.specs.Adds.{between, fails}
use Rattle.sheet.specs.Laws.{span_length}
use Rattle.sheet.specs.Reads.{part_of}
use Rattle.sheet.specs.declared.Part.{Part}

-- a call delivers the token t and goes on to a place after n advances
pub record Delivers (x : Call) (t : Token) (to n : ℕ) : Type 0 where
  pub what_is : x.what ≡ Got t
  pub at-is : x.at ≡ to
  pub spent-is : x.advances ≡ n

delivered : (x : Call) (t : Token) (to n : ℕ) → Delivers x t to n
    → x ≡ record { what = Got t; at = to; advances = n; gap_depth = x.gap_depth; code_depth = x.code_depth }
delivered x t to n z = rw (← z.what_is, ← z.at-is, ← z.spent-is)

-- as the code finds it: the token's call went to `to` after n advances
abbrev pub sharp_part : ℕ → ℕ → ℕ → ℕ → Part
sharp_part kind end to n =
    cond (eqb kind 34) (record { width = 1; dropped = 0; failed = 1 })
    (cond (ltb end to) (record { width = n - 1; dropped = 1; failed = 0 }) (record { width = n; dropped = 0; failed = 0 }))

abbrev pub part_by : Bool → ℕ → ℕ → ℕ → ℕ → Part
part_by true kind end to n = sharp_part kind end to n
part_by false kind end to n = record { width = n; dropped = 0; failed = 0 }

module _ (s : List ℕ) (o : ℕ) (t : Token) (to n : ℕ) where
  -- a token that no hash starts
  plain-part : (c : ℕ) (cs : List ℕ) → left s o ≡ c ∷ cs → eqb c 35 ≡ false → (x : Call) → Taken o (c ∷ cs) x → Delivers x t to n
      → part_of s t ≡ record { width = n; dropped = 0; failed = 0 }
  unfolding part_of fails
  plain-part c cs e q x h z =
      let f : Far (left s o) o n to = rw e (rw (z.at-is, z.spent-is) at h.fair.far) in
      let g : SpanIn o to (Got t) = rw (z.at-is, z.what_is) at h.fair.span in
      let a = g.0 in
      let b = g.1 in
      let d = g.2 in
      let w : length (between s t.start t.end) ≡ n = rw (a, b) (span_length s o n to f) in
      rw (w, d, a, e, q)

  -- an attribute, before the characters ds: one of them is dropped, if there is one
  attribute-part : (m p : ℕ) (ds : List ℕ) → Far (left s o) o (suc m) p → left s p ≡ ds → fails (left s o) o ≡ 0
      → Delivers (more 1 (more m (attribute_token Old o ds p))) t to n → part_of s t ≡ sharp_part (kind_number t.kind) t.end to n
  unfolding part_of more attribute_token dropped after
  attribute-part m p [] f l h z =
      let y : Got (token_of ShebangAttribute o p o p) ≡ Got t = z.what_is in
      let a : t ≡ token_of ShebangAttribute o p o p = cc in
      let b : to ≡ p = sym z.at-is in
      let d : n ≡ 1 + (m + 0) = sym z.spent-is in
      let w = span_length s o (suc m) p f in
      let v : suc m ≡ n = omega arith in
      rw (a, b, w, l, h, le-ltb p p (omega arith), v)
  attribute-part m p (c ∷ ds) f l h z =
      let y : Got (token_of ShebangAttribute o p o p) ≡ Got t = z.what_is in
      let a : t ≡ token_of ShebangAttribute o p o p = cc in
      let b : to ≡ p + width_of c = sym z.at-is in
      let d : n ≡ 1 + (m + 1) = sym z.spent-is in
      let w = span_length s o (suc m) p f in
      let v : suc m ≡ n - 1 = omega arith in
      let k = wide c in
      rw (a, b, w, l, h, lt-ltb p (p + width_of c) (omega arith), v)

  -- an attempt that failed
  hash-part : (c : ℕ) (cs : List ℕ) (m : ℕ) → left s o ≡ c ∷ cs → fails (left s o) o ≡ 1
      → Delivers (more 1 (plain Hash o (o + width_of c) m)) t to n → part_of s t ≡ sharp_part (kind_number t.kind) t.end to n
  unfolding part_of more plain deliver
  hash-part c cs m e h z =
      let y : Got (token_of Hash o (o + width_of c) o o) ≡ Got t = z.what_is in
      let a : t ≡ token_of Hash o (o + width_of c) o o = cc in
      let w = span_length s o 1 (o + width_of c) (rw e (one_far c cs o)) in
      rw (a, w, h)

  sharp_part_lem : (c : ℕ) (cs : List ℕ) → left s o ≡ c ∷ cs → eqb c 35 ≡ true → (x : Attempt) → attempt cs (o + width_of c) ≡ x → Tried cs (o + width_of c) x
      → Delivers (more 1 (hash_by Old o cs (o + width_of c) x)) t to n → part_of s t ≡ sharp_part (kind_number t.kind) t.end to n
  unfolding fails
  sharp_part_lem c cs e q (Ok (p, m)) y h z =
      let f : Far (left s o) o (suc m) p = rw e (far_one c cs o m p h.is) in
      let l : left s p ≡ drop m cs = sym (far_left s o (suc m) p f) ∙ ap (drop (suc m)) e in
      attribute-part m p (drop m cs) f l (rw (e, q, y)) z
  sharp_part_lem c cs e q (Err (p, m)) y h z = hash-part c cs m e (rw (e, q, y)) z

  -- of every token
  pub part-is : Delivers (token_or_end Old (left s o) o) t to n → part_of s t ≡ part_by (if_next 35 (left s o) true false) (kind_number t.kind) t.end to n
  unfolding token_or_end token if_next hash
  part-is z = go (left s o) refl z
    where
      by : (c : ℕ) (cs : List ℕ) → left s o ≡ c ∷ cs → (b : Bool) → eqb c 35 ≡ b
          → Delivers (cond b (more 1 (hash Old o cs (o + width_of c))) (single singles c o (o + width_of c) (starts Old c cs o (o + width_of c)))) t to n
          → part_of s t ≡ part_by (cond b true false) (kind_number t.kind) t.end to n
      by c cs e true q z = sharp_part_lem c cs e q (attempt cs (o + width_of c)) refl (attempt_tried cs (o + width_of c)) z
      by c cs e false q z = plain-part c cs e q _ (plain-taken Old c cs o) z

      go : (l : List ℕ) → left s o ≡ l → Delivers (token_or_end Old l o) t to n
          → part_of s t ≡ part_by (if_next 35 l true false) (kind_number t.kind) t.end to n
      go [] e z = let y : End ≡ Got t = z.what_is in let w : ◌≡◌ {A = ℕ} 0 1 = cc in absurd (omega arith)
      go (c ∷ cs) e z = by c cs e (eqb c 35) refl z

  -- it passes a character
  pub token-moves : Delivers (token_or_end Old (left s o) o) t to n → 0 < n
  token-moves z =
      let h = token-or-end-stands Old (left s o) o in
      let g = subst (λ (x : Call). Stands Old (left s o) o x) (delivered _ t to n z) h in
      omega (arith, g.is.some, g.is.spent)

  -- what it adds is no more than its call passes
  abbrev pub Small : Part → Type 0
  Small x = (x.width ≤ n) × (x.dropped ≤ 1) × (x.failed ≤ 1)

  by_small : (b : Bool) (k : ℕ) → 0 < n → Small (part_by b k t.end to n)
  by_small false k h = (omega arith, omega arith, omega arith)
  by_small true k h = go (eqb k 34) (ltb t.end to)
    where
      go : (u v : Bool) → Small (cond u (record { width = 1; dropped = 0; failed = 1 }) (cond v (record { width = n - 1; dropped = 1; failed = 0 }) (record { width = n; dropped = 0; failed = 0 })))
      go true v = (omega arith, omega arith, omega arith)
      go false true = (omega arith, omega arith, omega arith)
      go false false = (omega arith, omega arith, omega arith)

  pub part_small : Delivers (token_or_end Old (left s o) o) t to n → Small (part_of s t)
  part_small z = rw (part-is z) (by_small (if_next 35 (left s o) true false) (kind_number t.kind) (token-moves z))

  -- and starts there
  pub token-start : Delivers (token_or_end Old (left s o) o) t to n → t.start ≡ o
  token-start z =
      let h = token-or-end-stands Old (left s o) o in
      let g = subst (λ (x : Call). Stands Old (left s o) o x) (delivered _ t to n z) h in
      g.is.start
