-- What each cover passes leads to the place that it answers, and so does the code; a turn opens at most one bracket more.
use Rattle.std.specs.Prelude.{◌+◌, ◌≤◌, ℕ, Bool, false, true, ◌≡◌, eqb, drop, Ok, Err}
use native.Mathlib.Omega.{arith}
use Rattle.std.proofs.Math.Bool.{cond}
use mathlib.Core.List.{List, [], ◌∷◌}
use Rattle.std.proofs.Common.{◌∙◌}
use Rattle.std.proofs.Math.Path.{ap, refl, sym}
use Rattle.utf8.specs.Chars.{'#, '*, '/, 'quote}
use Rattle.utf8.specs.Laws.{Ended, Seen}
use Rattle.utf8.specs.Utf8.{width_of}
use Rattle.record.specs.Records.{refusal}
use Rattle.record.specs.declared.Code.TheVariants.{UnterminatedCharacterLiteral}
use Rattle.record.specs.declared.Refusal.{Refusal}
use Rattle.record.specs.declared.Reading.{Reading}
use Rattle.record.specs.declared.Reading.TheVariants.{Kept, Old}
use Rattle.scan.specs.Depth.{cover_depth, slash_depth}
use Rattle.scan.specs.Far.{Far}
use Rattle.scan.specs.Passes.{Balance, From, Good, Sound, balances, block_sound, from_lost, from_past, from-test, goods, quote_past, regex_sound, seek-at, seek-none, sound_here, sound_lost, sound_more, sound_next, sound_one, sound_test, upto_sound, walk_sound}
use Rattle.scan.specs.Seek.{block_comment, line_skip, seek, skip_more}
use Rattle.scan.specs.Until.{left}
use Rattle.scan.specs.Walk.{turn_of}
use Rattle.scan.specs.Shapes.{Found}
use Rattle.scan.specs.Shapes.{Skip}
use Rattle.scan.specs.declared.Sought.TheVariants.{Hashes, Newline, Quote, Word}
use Rattle.scan.specs.declared.Turn.TheVariants.{Fail, Pass}
use Rattle.code.specs.Code.{body_skip, closing_hashes, code_end, code_last, code_turn, esc_past, esc_skip, hash_past, hash_skip, one_skip, quote_end, quote_last, quote_skip, r_skip, regex_start, slash_skip}

slash_sound : (o : ℕ) (cs : List ℕ) (at : ℕ) → Sound cs at (slash_skip o cs at)
unfolding slash_skip
slash_sound o [] at = sound_here [] at
slash_sound o (c ∷ cs) at =
    let u = upto_sound Newline (c ∷ cs) at in
    let v = sound_one c cs at _ (block_sound o cs (at + width_of c)) in
    search (sound_test, sound_here)

-- what stands after a slash, by the code's own sight of it
module _ (o : ℕ) {s : List ℕ} {at : ℕ} where
  pub slash_on : {k w : ℕ} → Seen s at k w
      → slash_skip o (left s at) at ≡ cond (eqb k '/) (line_skip (left s at) at) (cond (eqb k '*) (skip_more 1 (block_comment o (left s (at + w)) (at + w))) (Ok (at, 0)))
  unfolding slash_skip
  slash_on h = rw (h.next, h.width)

  pub slash_end : Ended s at → slash_skip o (left s at) at ≡ Ok (at, 0)
  unfolding slash_skip
  slash_end e = rw e.none

-- the same with what is passed before it, as the code counts
more-none : (p m : ℕ) → Ok (p, m) ≡ skip_more m (Ok (p, 0))
more-none p m = let e : m + 0 ≡ m = omega arith in rw e

lost_none : (r : Refusal) (p m : ℕ) → Err (r, p, m) ≡ skip_more m (Err (r, p, 0))
lost_none r p m = let e : m + 0 ≡ m = omega arith in rw e

more-more : (n m : ℕ) (x : Skip) → skip_more n (skip_more m x) ≡ skip_more (n + m) x
more-more n m (Ok (p, k)) = let e : n + (m + k) ≡ n + m + k = omega arith in rw e
more-more n m (Err (r, p, k)) = let e : n + (m + k) ≡ n + m + k = omega arith in rw e

more_test : (n : ℕ) (t : Bool) (x y : Skip) → skip_more n (cond t x y) ≡ cond t (skip_more n x) (skip_more n y)
more_test n true x y = refl
more_test n false x y = refl

-- with the backslash and the character after it
abbrev pub esc_passed : Reading → ℕ → List ℕ → Found → Skip
esc_passed rd o cs (Ok (p, m)) = skip_more (m + 3) (quote_end rd o (drop (m + 1) cs) (p + 1))
esc_passed rd o cs (Err (p, m)) = Err (refusal UnterminatedCharacterLiteral o, p, m + 2)

-- at the end of the text
last_sound : (rd : Reading) (o at : ℕ) → Sound [] at (quote_last rd o at)
unfolding quote_last
last_sound Old o at = sound_lost _ [] at
last_sound Kept o at = sound_here [] at

pub last_old : (o at m : ℕ) → skip_more m (quote_last Old o at) ≡ Err (refusal UnterminatedCharacterLiteral o, at, m)
unfolding quote_last
last_old o at m = sym (lost_none _ at m)

pub last-kept : (o at m : ℕ) → skip_more m (quote_last Kept o at) ≡ Ok (at, m)
unfolding quote_last
last-kept o at m = sym (more-none at m)

code-ends : (start b p n : ℕ) → From [] p n (code_last start b p n)
code-ends start b p n = search (from-test, from_past, from_lost)

-- in every reading
module _ (rd : Reading) where
  -- quotes
  end_sound : (o : ℕ) (cs : List ℕ) (at : ℕ) → Sound cs at (quote_end rd o cs at)
  unfolding quote_end
  end_sound o [] at = last_sound rd o at
  end_sound o (x ∷ cs) at = sound_here (x ∷ cs) at

  one_sound : (o : ℕ) (cs : List ℕ) (at : ℕ) → Sound cs at (one_skip rd o cs at)
  unfolding one_skip
  one_sound o [] at = end_sound o [] at
  one_sound o (c ∷ cs) at =
      let u = sound_one c cs at _ (end_sound o cs (at + width_of c)) in
      search (sound_test, sound_here)

  esc_sound : (o : ℕ) (cs : List ℕ) (at : ℕ) → Sound cs at (esc_skip rd o cs at)
  unfolding esc_skip
  esc_sound o [] at = sound_lost _ [] at
  esc_sound o (c ∷ cs) at = sound_one c cs at _ (go (seek Quote cs (at + width_of c)) refl)
    where
      go : (f : Found) → seek Quote cs (at + width_of c) ≡ f → Sound cs (at + width_of c) (esc_past rd o cs f)
      go (Ok (p, m)) e = sound_more (m + 1) cs (at + width_of c) (p + 1) _ (quote_past cs (at + width_of c) p m e) (end_sound o (drop (m + 1) cs) (p + 1))
      go (Err (p, m)) e = record { is = seek-none cs (at + width_of c) p m Quote e }

  quote_sound : (o : ℕ) (cs : List ℕ) (at : ℕ) → Sound cs at (quote_skip rd o cs at)
  unfolding quote_skip
  quote_sound o [] at = sound_lost _ [] at
  quote_sound o (c ∷ cs) at =
      let u = sound_one c cs at _ (esc_sound o cs (at + width_of c)) in
      let v = sound_one c cs at _ (one_sound o cs (at + width_of c)) in
      search sound_test

  pub end_passed : (o c : ℕ) (cs : List ℕ) (at m : ℕ) → skip_more m (quote_end rd o (c ∷ cs) at) ≡ Ok (at, m)
  unfolding quote_end
  end_passed o c cs at m = sym (more-none at m)

  pub end-last : (o at m : ℕ) → skip_more m (quote_end rd o [] at) ≡ skip_more m (quote_last rd o at)
  unfolding quote_end
  end-last o at m = refl

  pub one_passed : (o c : ℕ) (cs : List ℕ) (at : ℕ) → skip_more 1 (one_skip rd o (c ∷ cs) at) ≡ cond (eqb c 'quote) (skip_more 2 (quote_end rd o cs (at + width_of c))) (Ok (at, 1))
  unfolding one_skip
  one_passed o c cs at =
      more_test 1 (eqb c 'quote) (skip_more 1 (quote_end rd o cs (at + width_of c))) (Ok (at, 0))
      ∙ ap (λ (x : Skip). cond (eqb c 'quote) x (Ok (at, 1))) (more-more 1 1 (quote_end rd o cs (at + width_of c)))

  pub esc_passed_lem : (o c : ℕ) (cs : List ℕ) (at : ℕ) → skip_more 1 (esc_skip rd o (c ∷ cs) at) ≡ esc_passed rd o cs (seek Quote cs (at + width_of c))
  unfolding esc_skip
  esc_passed_lem o c cs at = go (seek Quote cs (at + width_of c))
    where
      go : (f : Found) → skip_more 1 (skip_more 1 (esc_past rd o cs f)) ≡ esc_passed rd o cs f
      go (Ok (p, m)) =
          let e : 2 + (m + 1) ≡ m + 3 = omega arith in
          let x = quote_end rd o (drop (m + 1) cs) (p + 1) in
          more-more 1 1 (skip_more (m + 1) x) ∙ more-more 2 (m + 1) x ∙ ap (λ (n : ℕ). skip_more n x) e
      go (Err (p, m)) = let e : 1 + (1 + m) ≡ m + 2 = omega arith in rw e

  -- hashes in code
  pub body_sound : (o m : ℕ) (cs : List ℕ) (p : ℕ) → Sound cs p (body_skip rd o m cs p)
  unfolding body_skip
  body_sound o m [] p = sound_lost _ [] p
  body_sound o m (c ∷ cs) p =
      let u = sound_one c cs p _ (regex_sound o (closing_hashes rd m) cs (p + width_of c)) in
      let v = sound_one c cs p _ (upto_sound Word cs (p + width_of c)) in
      search (sound_test, sound_lost)

  hash_sound : (o : ℕ) (cs : List ℕ) (at : ℕ) → Sound cs at (hash_skip rd o cs at)
  hash_sound o cs at = go (seek Hashes cs at) refl
    where
      go : (r : Found) → seek Hashes cs at ≡ r → Sound cs at (hash_past rd o cs r)
      go (Ok (p, m)) e = sound_more m cs at p _ (seek-at cs at p m Hashes e) (body_sound o m (drop m cs) p)
      go (Err (p, m)) e = record { is = seek-none cs at p m Hashes e }

  r_sound : (r : ℕ) (cs : List ℕ) (at : ℕ) → Sound cs at (r_skip rd r cs at)
  unfolding r_skip
  r_sound r cs at = sound_next '# cs at cs _ _ (hash_sound (regex_start rd r at) cs at) (sound_here cs at)

  pub code_good : (b c : ℕ) (cs : List ℕ) (at next : ℕ) → Good cs next (code_turn rd b c cs at next)
  unfolding code_turn
  code_good b c cs at next = search (goods, quote_sound, r_sound, slash_sound) depth 14

  pub code_balance : (b c : ℕ) (cs : List ℕ) (at next : ℕ) → Balance b (code_turn rd b c cs at next)
  unfolding code_turn
  code_balance b c cs at next = search balances depth 14

  pub code_sound : (start : ℕ) (cs : List ℕ) (at : ℕ) → Sound cs at (code_end rd start cs at)
  code_sound start cs at = walk_sound (code_turn rd) (code_last start) code_good (code-ends start) 0 cs at

  -- a turn that passes leads to its place, and opens at most one bracket more; one that fails leads to its place
  pub code_pass : (b c : ℕ) (cs : List ℕ) (at next p m b' : ℕ) → code_turn rd b c cs at next ≡ Pass p m b' → Far cs next m p × (b' ≤ b + 1)
  code_pass b c cs at next p m b' e = (rw e at (code_good b c cs at next).is, rw e at (code_balance b c cs at next).is)

  pub code-fail : (b c : ℕ) (cs : List ℕ) (at next : ℕ) (r : Refusal) (p m : ℕ) → code_turn rd b c cs at next ≡ Fail r p m → Far cs next m p
  code-fail b c cs at next r p m e = rw e at (code_good b c cs at next).is

  -- what a slash does, and how deep the comment goes that it starts
  pub slash_turns : (b c : ℕ) → c ≡ '/ → (cs : List ℕ) (at next : ℕ) → (code_turn rd b c cs at next ≡ turn_of b (slash_skip at cs next)) × (cover_depth c cs ≡ slash_depth cs)
  unfolding code_turn
  slash_turns b c e cs at next = rw e (refl, refl)
