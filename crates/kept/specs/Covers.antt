-- CODE: where it meets neither of its two places, the two readings see the same in it.
use Prim.Native.Nat.{◌+◌, ◌≤◌, suc, zero, ℕ}
use Rattle.std.proofs.Common.{arith, ◌∙◌, ap, length-drop, eqb-true, ne_eqb, Ok, Err}
use Rattle.std.specs.Prelude.{Bool, ◌||◌, cond, true, ◌≡◌, eqb, drop, length}
use Rattle.std.proofs.Math.Bool.{false}
use mathlib.Core.List.{List, [], ◌∷◌}
use Rattle.std.proofs.Math.Path.{refl, sym}
use Rattle.std.proofs.lemmas.Bool.{eqb-false}
use Rattle.utf8.specs.Chars.{'#, 'backslash, 'quote, 'r}
use Rattle.utf8.specs.Utf8.{width_of}
use Rattle.record.specs.declared.Reading.TheVariants.{Kept, Old}
use Rattle.scan.specs.Depth.{cover_depth, deeper, depth_from}
use Rattle.scan.specs.IfNext.{if_next}
use Rattle.scan.specs.Passes.{quote_past}
use Rattle.scan.specs.Runs.{neither}
use Rattle.scan.specs.Seek.{seek, skip_more}
use Rattle.scan.specs.Walk.{walk_from}
use Rattle.scan.specs.Shapes.{Found}
use Rattle.scan.specs.Shapes.{Skip}
use Rattle.scan.specs.declared.Sought.TheVariants.{Quote}
use Rattle.scan.specs.declared.Turn.{Turn}
use Rattle.scan.specs.declared.Turn.TheVariants.{Fail, Pass, Stop}
use Rattle.code.specs.Code.{code_depth_of, code_end, code_last, code_turn, esc_past, esc_skip, one_skip, quote_end, quote_last, quote_skip, r_skip}
use Rattle.kept.specs.Places.{code_meets, code_meets_from, differs, ends_text}

pub no : {A : Type 0} → true ≡ false → A
no e = let w : ◌≡◌ {A = ℕ} 0 1 = cc in absurd (omega arith)

-- ---- quotes
-- what is passed before a cover is passed of the text too
ends_more : (n : ℕ) (cs : List ℕ) (x : Skip) → n ≤ length cs → ends_text cs (skip_more n x) ≡ false → ends_text (drop n cs) x ≡ false
ends_more n cs (Ok (p, m)) h e =
    let d = eqb-false (n + m) (length cs) e in
    ne_eqb m (length (drop n cs)) (λ z. d (omega (arith, z, length-drop n cs)))
ends_more n cs (Err (r, p, m)) h e = refl

end_same : (o : ℕ) (cs : List ℕ) (at : ℕ) → ends_text cs (quote_end Kept o cs at) ≡ false → quote_end Old o cs at ≡ quote_end Kept o cs at
unfolding quote_end quote_last
end_same o [] at e = no e
end_same o (c ∷ cs) at e = refl

one_same : (o : ℕ) (cs : List ℕ) (at : ℕ) → ends_text cs (one_skip Kept o cs at) ≡ false → one_skip Old o cs at ≡ one_skip Kept o cs at
unfolding one_skip
one_same o [] at e = end_same o [] at e
one_same o (c ∷ cs) at e = go (eqb c 'quote) refl
  where
    go : (b : Bool) → eqb c 'quote ≡ b
        → cond (eqb c 'quote) (skip_more 1 (quote_end Old o cs (at + width_of c))) (Ok (at, 0)) ≡ cond (eqb c 'quote) (skip_more 1 (quote_end Kept o cs (at + width_of c))) (Ok (at, 0))
    go true q = rw q (ap (skip_more 1) (end_same o cs (at + width_of c) (ends_more 1 (c ∷ cs) (quote_end Kept o cs (at + width_of c)) (omega arith) (rw q at e))))
    go false q = rw q

esc_same : (o : ℕ) (cs : List ℕ) (at : ℕ) → ends_text cs (esc_skip Kept o cs at) ≡ false → esc_skip Old o cs at ≡ esc_skip Kept o cs at
unfolding esc_skip
esc_same o [] at e = refl
esc_same o (c ∷ cs) at e = ap (skip_more 1) (go (seek Quote cs (at + width_of c)) refl (ends_more 1 (c ∷ cs) (esc_past Kept o cs (seek Quote cs (at + width_of c))) (omega arith) e))
  where
    go : (f : Found) → seek Quote cs (at + width_of c) ≡ f → ends_text cs (esc_past Kept o cs (seek Quote cs (at + width_of c))) ≡ false → esc_past Old o cs f ≡ esc_past Kept o cs f
    go (Ok (p, m)) q h =
        let k = quote_past cs (at + width_of c) p m q in
        let g : ends_text cs (esc_past Kept o cs (Ok (p, m))) ≡ false = rw q at h in
        ap (skip_more (m + 1)) (end_same o (drop (m + 1) cs) (p + 1) (ends_more (m + 1) cs (quote_end Kept o (drop (m + 1) cs) (p + 1)) k.within g))
    go (Err (p, m)) q h = refl

quote_same : (o : ℕ) (cs : List ℕ) (at : ℕ) → ends_text cs (quote_skip Kept o cs at) ≡ false → quote_skip Old o cs at ≡ quote_skip Kept o cs at
unfolding quote_skip
quote_same o [] at e = refl
quote_same o (c ∷ cs) at e = go (eqb c 'backslash) refl
  where
    go : (b : Bool) → eqb c 'backslash ≡ b
        → cond (eqb c 'backslash) (skip_more 1 (esc_skip Old o cs (at + width_of c))) (skip_more 1 (one_skip Old o cs (at + width_of c)))
        ≡ cond (eqb c 'backslash) (skip_more 1 (esc_skip Kept o cs (at + width_of c))) (skip_more 1 (one_skip Kept o cs (at + width_of c)))
    go true q = rw q (ap (skip_more 1) (esc_same o cs (at + width_of c) (ends_more 1 (c ∷ cs) (esc_skip Kept o cs (at + width_of c)) (omega arith) (rw q at e))))
    go false q = rw q (ap (skip_more 1) (one_same o cs (at + width_of c) (ends_more 1 (c ∷ cs) (one_skip Kept o cs (at + width_of c)) (omega arith) (rw q at e))))

-- ---- an r without a hash after it
r_same : (r : ℕ) (cs : List ℕ) (at : ℕ) → if_next '# cs true false ≡ false → r_skip Old r cs at ≡ r_skip Kept r cs at
unfolding r_skip if_next
r_same r [] at e = refl
r_same r (c ∷ cs) at e = go (eqb c '#) refl
  where
    go : (b : Bool) → eqb c '# ≡ b → r_skip Old r (c ∷ cs) at ≡ r_skip Kept r (c ∷ cs) at
    go true q = no (rw q at e)
    go false q = rw q

-- ---- what a character of code does
turn-same : (b c : ℕ) (cs : List ℕ) (at next : ℕ) → differs c cs at next ≡ false → code_turn Old b c cs at next ≡ code_turn Kept b c cs at next
unfolding differs code_turn
turn-same b c cs at next e = go (eqb c 'quote) refl (eqb c 'r) refl
  where
    go : (p : Bool) → eqb c 'quote ≡ p → (q : Bool) → eqb c 'r ≡ q → code_turn Old b c cs at next ≡ code_turn Kept b c cs at next
    go true p q r = let h = eqb-true c 'quote p in let f : quote_skip Old at cs next ≡ quote_skip Kept at cs next = quote_same at cs next (rw p at e) in rw (h, f)
    go false p true r = let h = eqb-true c 'r r in let f : r_skip Old at cs next ≡ r_skip Kept at cs next = r_same at cs next (rw (p, r) at e) in rw (h, f)
    go false p false r = rw (p, r)

-- ---- the walk
module _ (last : ℕ → ℕ → ℕ → Skip) where
  walk_same : (k : ℕ) (cs : List ℕ) (b at n : ℕ) → code_meets_from k cs b at ≡ false → walk_from (code_turn Old) last k cs b at n ≡ walk_from (code_turn Kept) last k cs b at n
  unfolding code_meets_from walk_from
  walk_same zero [] b at n e = refl
  walk_same (suc k) [] b at n e = refl
  walk_same (suc k) (c ∷ cs) b at n e = walk_same k cs b (at + width_of c) (n + 1) e
  walk_same zero (c ∷ cs) b at n e = go (code_turn Old b c cs at (at + width_of c)) refl (λ j b'. walk_same j cs b' (at + width_of c) (n + 1))
    where
      go : (t : Turn) → code_turn Old b c cs at (at + width_of c) ≡ t
          → ((j b' : ℕ) → code_meets_from j cs b' (at + width_of c) ≡ false → walk_from (code_turn Old) last j cs b' (at + width_of c) (n + 1) ≡ walk_from (code_turn Kept) last j cs b' (at + width_of c) (n + 1))
          → walk_from (code_turn Old) last 0 (c ∷ cs) b at n ≡ walk_from (code_turn Kept) last 0 (c ∷ cs) b at n
      go Stop q ih = let f = sym (turn-same b c cs at (at + width_of c) (neither _ _ e).0) ∙ q in rw (q, walk_from) (rw (f, walk_from))
      go (Fail r p m) q ih = let f = sym (turn-same b c cs at (at + width_of c) (neither _ _ e).0) ∙ q in rw (q, walk_from) (rw (f, walk_from))
      go (Pass p m b') q ih =
          let d = neither _ _ e in
          let f = sym (turn-same b c cs at (at + width_of c) d.0) ∙ q in
          rw (q, walk_from) (rw (f, walk_from) (ih m b' (rw (q, code_meets_from) at d.1)))

depth_same : (k : ℕ) (cs : List ℕ) (b at d : ℕ) → code_meets_from k cs b at ≡ false → depth_from (code_turn Old) k cs b at d ≡ depth_from (code_turn Kept) k cs b at d
unfolding code_meets_from depth_from
depth_same zero [] b at d e = refl
depth_same (suc k) [] b at d e = refl
depth_same (suc k) (c ∷ cs) b at d e = depth_same k cs b (at + width_of c) d e
depth_same zero (c ∷ cs) b at d e = go (code_turn Old b c cs at (at + width_of c)) refl (λ j b'. depth_same j cs b' (at + width_of c) (deeper d (cover_depth c cs)))
  where
    go : (t : Turn) → code_turn Old b c cs at (at + width_of c) ≡ t
        → ((j b' : ℕ) → code_meets_from j cs b' (at + width_of c) ≡ false
        → depth_from (code_turn Old) j cs b' (at + width_of c) (deeper d (cover_depth c cs)) ≡ depth_from (code_turn Kept) j cs b' (at + width_of c) (deeper d (cover_depth c cs)))
        → depth_from (code_turn Old) 0 (c ∷ cs) b at d ≡ depth_from (code_turn Kept) 0 (c ∷ cs) b at d
    go Stop q ih = let f = sym (turn-same b c cs at (at + width_of c) (neither _ _ e).0) ∙ q in rw (q, depth_from) (rw (f, depth_from))
    go (Fail r p m) q ih = let f = sym (turn-same b c cs at (at + width_of c) (neither _ _ e).0) ∙ q in rw (q, depth_from) (rw (f, depth_from))
    go (Pass p m b') q ih =
        let g = neither _ _ e in
        let f = sym (turn-same b c cs at (at + width_of c) g.0) ∙ q in
        rw (q, depth_from) (rw (f, depth_from) (ih m b' (rw (q, code_meets_from) at g.1)))

-- THE LAW, of code: it ends in the same place, or is refused alike, and its comments go as deep
pub code_same : (start : ℕ) (cs : List ℕ) (at : ℕ) → code_meets cs at ≡ false → (code_end Old start cs at ≡ code_end Kept start cs at) × (code_depth_of Old cs at ≡ code_depth_of Kept cs at)
code_same start cs at e = (walk_same (code_last start) 0 cs 0 at 0 e, depth_same 0 cs 0 at 0 e)
