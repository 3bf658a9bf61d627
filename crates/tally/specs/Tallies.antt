-- The tally of a file: what its lines say of a property, held against the function's answers, code point by code point.
use Rattle.std.specs.Prelude.{ℕ, zero, suc, ◌+◌, ◌-◌, Bool, true, false, cond, ◌&&◌, List, eqb, ltb, length}
use Rattle.property.specs.declared.line.Property.{Property}
use Rattle.property.specs.declared.line.Line.{Line}
use Rattle.property.specs.declared.line.Line.TheVariants.{Nothing, Range, Damaged}
use Rattle.property.specs.Lines.{line_at}
use Rattle.tally.specs.declared.tally.Tally.{Tally}
use Rattle.tally.specs.Answers.{asked, wanted, other, number_of, one}

-- one more than the greatest code point
abbrev pub end : ℕ
end = 0x110000

-- nothing is told, asked or noted yet
abbrev pub fresh_tally : Tally
fresh_tally = record { next = 0; told = 0; yes = 0; first = end; damaged = 0 }

-- the first difference is noted, and no other: where none is, `first` is the end
unfoldable pub noted : ℕ → ℕ → Bool → ℕ
noted first c differs = cond (differs && eqb first end) c first

-- the tally with its next code point, of which the file says `told`
unfoldable pub step_of : Property → Bool → Tally → Tally
step_of p told t =
    record {
      next = t.next + 1;
      told = t.told + one told;
      yes = t.yes + one (asked p t.next);
      first = noted t.first t.next (other (asked p t.next) (wanted p told t.next));
      damaged = t.damaged;
    }

-- with its next n code points
unfoldable pub steps_of : Property → Bool → ℕ → Tally → Tally
steps_of p told zero t = t
steps_of p told (suc n) t = steps_of p told n (step_of p told t)

-- with those up to `to`
abbrev pub up_to : Property → Bool → ℕ → Tally → Tally
up_to p told to t = steps_of p told (to - t.next) t

-- line n cannot be read: the first such is noted
unfoldable pub spoilt_of : ℕ → Tally → Tally
spoilt_of n t =
    cond (eqb t.damaged 0)
    (record { next = t.next; told = t.told; yes = t.yes; first = t.first; damaged = n })
    t

-- line n names the code points from `first` to `last`, and none from those told before to `first`. A property's lines ascend
unfoldable pub with_range : Property → ℕ → ℕ → ℕ → Tally → Tally
with_range p n first last t =
    cond (ltb first t.next) (spoilt_of n t)
    (cond (ltb last first) (spoilt_of n t)
    (cond (ltb last end) (up_to p true (last + 1) (up_to p false first t)) (spoilt_of n t)))

-- the tally with line n. Another property's line says nothing
unfoldable pub with_line : Property → ℕ → Line → Tally → Tally
with_line p n Nothing t = t
with_line p n (Range first last q) t = cond (eqb (number_of q) (number_of p)) (with_range p n first last t) t
with_line p n Damaged t = spoilt_of n t

-- with the lines from a place on, at most k of them, the first of which is line n + 1
unfoldable pub lines_from : ℕ → List ℕ → Property → ℕ → ℕ → Tally → Tally
lines_from zero s p at n t = t
lines_from (suc k) s p at n t =
    elim (ltb at (length s)) [
      | true ↦ lines_from k s p (line_at s at).next (n + 1) (with_line p (n + 1) (line_at s at).line t)
      | false ↦ t
    ]

-- of a file's lines, of which there are no more than bytes
unfoldable pub of_lines : List ℕ → Property → Tally
of_lines s p = lines_from (length s) s p 0 0 fresh_tally

-- of a file: after the last line no code point is named
unfoldable pub tally_of : List ℕ → Property → Tally
tally_of s p = up_to p false end (of_lines s p)

-- THE VERDICT: every line could be read, and no answer differs
abbrev pub agrees_of : Tally → Bool
agrees_of t = eqb t.damaged 0 && eqb t.first end
