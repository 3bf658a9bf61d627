-- A refusal in code stands from the start of what is refused up to the cursor.
use Rattle.std.specs.Prelude.{ℕ, ◌+◌, ◌-◌, ◌≤◌, ◌≡◌, refl, drop, Ok, Err}
use native.Mathlib.Omega.{arith}
use mathlib.Core.List.{List, [], ◌∷◌}
use Rattle.utf8.specs.Chars.{'#}
use Rattle.utf8.specs.Utf8.{width_of}
use Rattle.record.specs.declared.Reading.{Reading}
use Rattle.record.specs.declared.Reading.TheVariants.{Kept, Old}
use Rattle.scan.specs.Near.{Near, NearTurn, block_near, far_on, near_lost, near_lower, near_more, near_next, near_past, near_test, near_turns, regex_near, string_near, upto_near, walk_near}
use Rattle.scan.specs.Passes.{quote_past, seek-at, seek-none}
use Rattle.scan.specs.Seek.{seek}
use Rattle.scan.specs.Shapes.{Found}
use Rattle.scan.specs.declared.Sought.TheVariants.{Hashes, Newline, Quote, Word}
use Rattle.code.specs.Code.{body_skip, closing_hashes, code_end, code_last, code_turn, esc_past, esc_skip, hash_past, hash_skip, one_skip, quote_end, quote_last, quote_skip, r_skip, regex_start, slash_skip}

module _ (o : ℕ) where
  slash_near : (cs : List ℕ) (at : ℕ) → o ≤ at → Near o (slash_skip o cs at)
  unfolding slash_skip
  slash_near [] at h = near_past o at 0 h
  slash_near (c ∷ cs) at h =
      let u = upto_near o (c ∷ cs) at h Newline in
      let v = near_more o 1 _ (block_near o cs (at + width_of c) (omega arith)) in
      let w = near_past o at 0 h in
      search near_test

-- at the end of the text
last_near : (rd : Reading) (o at : ℕ) → o ≤ at → Near o (quote_last rd o at)
unfolding quote_last
last_near Old o at h = near_lost o _ o at 0 (omega arith) h
last_near Kept o at h = near_past o at 0 h

-- in every reading
module _ (rd : Reading) where
  module _ (o : ℕ) where
    end_near : (cs : List ℕ) (at : ℕ) → o ≤ at → Near o (quote_end rd o cs at)
    unfolding quote_end
    end_near [] at h = last_near rd o at h
    end_near (c ∷ cs) at h = near_past o at 0 h

    one_near : (cs : List ℕ) (at : ℕ) → o ≤ at → Near o (one_skip rd o cs at)
    unfolding one_skip
    one_near [] at h = end_near [] at h
    one_near (c ∷ cs) at h =
        let u = near_more o 1 _ (end_near cs (at + width_of c) (omega arith)) in
        let w = near_past o at 0 h in
        search near_test

    esc_near : (cs : List ℕ) (at : ℕ) → o ≤ at → Near o (esc_skip rd o cs at)
    unfolding esc_skip
    esc_near [] at h = near_lost o _ o at 0 (omega arith) h
    esc_near (c ∷ cs) at h = near_more o 1 _ (go (seek Quote cs (at + width_of c)) refl)
      where
        go : (f : Found) → seek Quote cs (at + width_of c) ≡ f → Near o (esc_past rd o cs f)
        go (Ok (p, m)) e =
            let g = far_on cs (at + width_of c) (m + 1) (p + 1) (quote_past cs (at + width_of c) p m e) in
            near_more o (m + 1) _ (end_near (drop (m + 1) cs) (p + 1) (omega arith))
        go (Err (p, m)) e =
            let g = far_on cs (at + width_of c) m p (seek-none cs (at + width_of c) p m Quote e) in
            near_lost o _ o p m (omega arith) (omega arith)

    quote_near : (cs : List ℕ) (at : ℕ) → o ≤ at → Near o (quote_skip rd o cs at)
    unfolding quote_skip
    quote_near [] at h = near_lost o _ o at 0 (omega arith) h
    quote_near (c ∷ cs) at h =
        let u = near_more o 1 _ (esc_near cs (at + width_of c) (omega arith)) in
        let v = near_more o 1 _ (one_near cs (at + width_of c) (omega arith)) in
        search near_test

    body_near : (m : ℕ) (cs : List ℕ) (p : ℕ) → o ≤ p → Near o (body_skip rd o m cs p)
    unfolding body_skip
    body_near m [] p h = near_lost o _ o p 0 (omega arith) h
    body_near m (c ∷ cs) p h =
        let u = near_more o 1 _ (regex_near o cs (p + width_of c) (omega arith) (closing_hashes rd m)) in
        let v = near_more o 1 _ (upto_near o cs (p + width_of c) (omega arith) Word) in
        let i : p ≤ p = omega arith in
        search (near_test, near_lost)

    hash_near : (cs : List ℕ) (at : ℕ) → o ≤ at → Near o (hash_skip rd o cs at)
    hash_near cs at h = go (seek Hashes cs at) refl
      where
        go : (f : Found) → seek Hashes cs at ≡ f → Near o (hash_past rd o cs f)
        go (Ok (p, m)) e = let g = far_on cs at m p (seek-at cs at p m Hashes e) in near_more o m _ (body_near m (drop m cs) p (omega arith))
        go (Err (p, m)) e = let g = far_on cs at m p (seek-none cs at p m Hashes e) in near_lost o _ o p m (omega arith) (omega arith)

  -- a regex starts at its letter or at its first hash
  start_near : (rd' : Reading) (r : ℕ) (cs : List ℕ) (at : ℕ) → r ≤ at → Near r (hash_skip rd (regex_start rd' r at) cs at)
  start_near Old r cs at h = near_lower r at _ h (hash_near at cs at (omega arith))
  start_near Kept r cs at h = hash_near r cs at h

  r_near : (r : ℕ) (cs : List ℕ) (at : ℕ) → r ≤ at → Near r (r_skip rd r cs at)
  unfolding r_skip
  r_near r cs at h = near_next r '# cs _ _ (start_near rd r cs at h) (near_past r at 0 h)

  -- what a character of code refuses stands from that character on
  turn_near : (b c : ℕ) (cs : List ℕ) (at : ℕ) → NearTurn at (code_turn rd b c cs at (at + width_of c))
  unfolding code_turn
  turn_near b c cs at =
      let h : at ≤ at + width_of c = omega arith in
      let u = string_near at cs (at + width_of c) h in
      let v = quote_near at cs (at + width_of c) h in
      let w = r_near at cs (at + width_of c) h in
      let x = slash_near at cs (at + width_of c) h in
      search near_turns depth 14

  ends_near : (o b at n : ℕ) → o ≤ at → Near o (code_last o b at n)
  ends_near o b at n h =
      let i : o ≤ o = omega arith in
      search (near_test, near_past, near_lost)

  pub code_near : (o : ℕ) (cs : List ℕ) (at : ℕ) → o ≤ at → Near o (code_end rd o cs at)
  code_near o cs at h = walk_near (code_turn rd) (code_last o) o turn_near (ends_near o) 0 cs at h
