-- THE COUNT OVER THE CHARACTERS SAYS WHAT A GAP HOLDS. 01: "Gaps: whitespace; `//` up to but not including newline or end; nested `/* */`."
use Rattle.std.specs.Prelude.{◌+◌, ℕ, List, ◌≡◌, length, take, Ok}
use Rattle.std.proofs.Common.{arith, length-append, length-take-le}
use Rattle.scan.specs.Far.{Far}
use Rattle.reading.specs.Blank.{Blank, block, line, nothing, white}
use Rattle.reading.proofs.Blanks.{gap-blank}
use Rattle.reading.specs.Gaps.{gap}
use Rattle.reading.specs.Passes.{gap_sound}
use Rattle.sheet.specs.Apart.{comments, whites}
use Rattle.sheet.specs.ApartLaws.{block_counts, line-counts, none-counts, over-front, white_counts}

-- the characters of a gap's comments, their marks among them: the two slashes, or the mark that opens a nested one
abbrev pub of_comments : {rest xs : List ℕ} → Blank rest xs → ℕ
of_comments nothing = 0
of_comments (white c w b) = of_comments b
of_comments (line ys o e b) = 2 + length ys + of_comments b
of_comments (block ys h b) = 2 + length ys + of_comments b

-- and those of its whitespace
abbrev pub of_whitespace : {rest xs : List ℕ} → Blank rest xs → ℕ
of_whitespace nothing = 0
of_whitespace (white c w b) = 1 + of_whitespace b
of_whitespace (line ys o e b) = of_whitespace b
of_whitespace (block ys h b) = of_whitespace b

-- a gap holds nothing else
both : {rest xs : List ℕ} (b : Blank rest xs) → of_whitespace b + of_comments b ≡ length xs
both nothing = omega arith
both (white c w b) = let i = both b in omega (arith, i)
both (line {xs} ys o e b) = let i = both b in omega (arith, i, length-append ys xs)
both (block {xs} ys h b) = let i = both b in omega (arith, i, length-append ys xs)

told : {rest xs : List ℕ} (b : Blank rest xs) → comments xs ≡ of_comments b
told nothing = none-counts
told (white {xs} c w b) = let i = told b in omega (arith, i, white_counts c xs w)
told {rest} (line {xs} ys o e b) = let i = told b in omega (arith, i, line-counts ys xs o (over-front xs rest e))
told (block {xs} ys h b) = let i = told b in omega (arith, i, block_counts ys xs h)

pub told-apart : {rest xs : List ℕ} (b : Blank rest xs) → (comments xs ≡ of_comments b) × (whites xs ≡ of_whitespace b)
unfolding whites
told-apart b = let t = told b in (t, omega (arith, t, both b))

-- of what the gap's reader passes: `gap-blank` says how it is blank
pub gap-told-apart : (cs : List ℕ) (at p m : ℕ) (e : gap cs at ≡ Ok (p, m))
    → (comments (take m cs) ≡ of_comments (gap-blank cs at p m e)) × (whites (take m cs) ≡ of_whitespace (gap-blank cs at p m e))
    × (whites (take m cs) + comments (take m cs) ≡ m)
gap-told-apart cs at p m e =
    let b = gap-blank cs at p m e in
    let f : Far cs at m p = (rw e at (gap_sound cs at)).is in
    let (c, w) = told-apart b in
    (c, w, omega (arith, c, w, both b, length-take-le m cs f.within))
