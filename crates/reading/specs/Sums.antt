-- Laws of what the books are kept in: places and counts of characters, hashes, failed attempts.
use Rattle.std.specs.Prelude.{◌*◌, ◌+◌, ◌-◌, ◌≤◌, suc, zero, ℕ, Bool, ◌&&◌, cond, false, true, List, [], ◌∷◌, ◌≡◌, refl, eqb, drop, length, take, Ok, Err}
use Rattle.std.proofs.Common.{arith, ◌∙◌, ap, length-take-le}
use Rattle.std.proofs.Math.Seq.{take-length}
use Rattle.utf8.specs.Utf8.{reach, width_of}
use Rattle.scan.specs.Far.{Far, after}
use Rattle.scan.specs.IfNext.{if_next}
use Rattle.reading.specs.Attribute.{attempt, attempt_body, attempt_bracket, attempt_more}
use Rattle.reading.specs.CallLaw.{Tried, attempt_tried}
use Rattle.reading.specs.Measures.{failed_by, hashes, marks, reads_attribute, wasted}
use Rattle.reading.specs.Shapes.{Attempt}

-- the place after m characters is where those characters reach
after-reach : (m : ℕ) (cs : List ℕ) (at : ℕ) → after m cs at ≡ reach (take m cs) at
unfolding after reach
after-reach zero cs at = refl
after-reach (suc m) [] at = refl
after-reach (suc m) (c ∷ cs) at = after-reach m cs (at + width_of c)

pub far_reach : (cs : List ℕ) (at m p : ℕ) → Far cs at m p → p ≡ reach (take m cs) at
far_reach cs at m p f = f.there ∙ after-reach m cs at

pub far_whole : (cs : List ℕ) (at p : ℕ) → Far cs at (length cs) p → p ≡ reach cs at
far_whole cs at p f = far_reach cs at (length cs) p f ∙ ap (λ (l : List ℕ). reach l at) (take-length cs)

pub far_length : (cs : List ℕ) (at m p : ℕ) → Far cs at m p → length (take m cs) ≡ m
far_length cs at m p f = length-take-le m cs f.within

-- what a place may cost: N where #![ is read, 2 at any other hash
unfoldable pub weigh : ℕ → List ℕ → ℕ
weigh n [] = 0
weigh n (c ∷ cs) = cond (reads_attribute (c ∷ cs)) n (cond (eqb c 35) 2 0)

unfoldable pub weight : ℕ → List ℕ → ℕ
weight n [] = 0
weight n (c ∷ cs) = weigh n (c ∷ cs) + weight n cs

pub weight-first : (n : ℕ) (cs : List ℕ) → weight n cs ≡ weigh n cs + weight n (drop 1 cs)
unfolding weight weigh
weight-first n [] = omega arith
weight-first n (c ∷ cs) = refl

pub weight-drop : (n m : ℕ) (cs : List ℕ) → weight n (drop m cs) ≤ weight n cs
unfolding weight
weight-drop n zero cs = omega arith
weight-drop n (suc m) [] = omega arith
weight-drop n (suc m) (c ∷ cs) = let h = weight-drop n m cs in omega arith

marks-le : (cs : List ℕ) → marks cs ≤ hashes cs
unfolding marks hashes reads_attribute
marks-le [] = omega arith
marks-le (c ∷ cs) = go (eqb c 35) (if_next 33 cs (if_next 91 (drop 1 cs) true false) false) refl (marks-le cs)
  where
    go : (t u : Bool) → eqb c 35 ≡ t → marks cs ≤ hashes cs → cond (eqb c 35 && u) 1 0 + marks cs ≤ cond (eqb c 35) 1 0 + hashes cs
    go true true q h = rw q (omega arith)
    go true false q h = rw q (omega arith)
    go false u q h = rw q (omega arith)

pub weight_is : (n : ℕ) (cs : List ℕ) → weight n cs ≡ 2 * (hashes cs - marks cs) + marks cs * n
unfolding weight weigh marks hashes reads_attribute
weight_is n [] = omega arith
weight_is n (c ∷ cs) = go (eqb c 35) (if_next 33 cs (if_next 91 (drop 1 cs) true false) false) refl (marks-le cs) (weight_is n cs)
  where
    go : (t u : Bool) → eqb c 35 ≡ t → marks cs ≤ hashes cs → weight n cs ≡ 2 * (hashes cs - marks cs) + marks cs * n
        → cond (eqb c 35 && u) n (cond (eqb c 35) 2 0) + weight n cs ≡ 2 * (cond (eqb c 35) 1 0 + hashes cs - (cond (eqb c 35 && u) 1 0 + marks cs)) + (cond (eqb c 35 && u) 1 0 + marks cs) * n
    go true true q l h = rw q (omega arith)
    go true false q l h = rw q (omega arith)
    go false u q l h = rw q (omega arith)

-- a failed attempt takes no more than that
failed-le : (cs : List ℕ) (at : ℕ) (x : Attempt) → Tried cs at x → failed_by x ≤ length cs
failed-le cs at (Ok (p, m)) h = omega arith
failed-le cs at (Err (p, m)) h = h.is.within

failed-more : (x : Attempt) → failed_by (attempt_more 1 x) ≤ 1 + failed_by x
failed-more (Ok (p, m)) = omega arith
failed-more (Err (p, m)) = omega arith

short_bracket : (cs : List ℕ) (at : ℕ) → if_next 91 cs true false ≡ false → failed_by (attempt_bracket cs at) ≤ 1
unfolding attempt_bracket if_next
short_bracket [] at e = omega arith
short_bracket (c ∷ cs) at e = go (eqb c 91) refl
  where
    go : (t : Bool) → eqb c 91 ≡ t → failed_by (cond (eqb c 91) (attempt_more 1 (attempt_body cs (at + width_of c))) (Err (at + width_of c, 1))) ≤ 1
    go true q = let z : true ≡ false = rw q at e in let w : ◌≡◌ {A = ℕ} 0 1 = cc in absurd (omega arith)
    go false q = rw q (omega arith)

short-attempt : (cs : List ℕ) (at : ℕ) → if_next 33 cs (if_next 91 (drop 1 cs) true false) false ≡ false → failed_by (attempt cs at) ≤ 2
unfolding attempt if_next
short-attempt [] at e = omega arith
short-attempt (c ∷ cs) at e = go (eqb c 33) refl
  where
    go : (t : Bool) → eqb c 33 ≡ t → failed_by (cond (eqb c 33) (attempt_more 1 (attempt_bracket cs (at + width_of c))) (Err (at + width_of c, 1))) ≤ 2
    go true q =
        let h = short_bracket cs (at + width_of c) (rw q at e) in
        let g = failed-more (attempt_bracket cs (at + width_of c)) in
        rw q (omega arith)
    go false q = rw q (omega arith)

pub wasted-le : (n : ℕ) (cs : List ℕ) (o : ℕ) → length cs ≤ n → wasted cs o ≤ weigh n cs
unfolding wasted weigh reads_attribute
wasted-le n [] o l = omega arith
wasted-le n (c ∷ cs) o l = go (eqb c 35) (if_next 33 cs (if_next 91 (drop 1 cs) true false) false) refl refl
  where
    go : (t u : Bool) → eqb c 35 ≡ t → if_next 33 cs (if_next 91 (drop 1 cs) true false) false ≡ u
        → cond (eqb c 35) (failed_by (attempt cs (o + width_of c))) 0 ≤ cond (eqb c 35 && if_next 33 cs (if_next 91 (drop 1 cs) true false) false) n (cond (eqb c 35) 2 0)
    go true true q v =
        let h = failed-le cs (o + width_of c) _ (attempt_tried cs (o + width_of c)) in
        rw (q, v) (omega arith)
    go true false q v = let h = short-attempt cs (o + width_of c) v in rw (q, v) h
    go false u q v = rw q (omega arith)

pub cost-le : (b : Bool) (w : ℕ) → cond b w 0 ≤ w
cost-le true w = omega arith
cost-le false w = omega arith

pub wasted-most : (cs : List ℕ) (o : ℕ) → wasted cs o ≤ length cs
unfolding wasted
wasted-most [] o = omega arith
wasted-most (c ∷ cs) o =
    let h = failed-le cs (o + width_of c) _ (attempt_tried cs (o + width_of c)) in
    let g = go (eqb c 35) (failed_by (attempt cs (o + width_of c))) in
    omega (arith, h, g)
  where
    go : (b : Bool) (n : ℕ) → cond b n 0 ≤ n
    go true n = omega arith
    go false n = omega arith
