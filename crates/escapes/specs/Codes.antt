-- WHICH CODES COME OUT of string expansion, and of the check of a part: what holds of the codes that its definitions name holds of every refusal.
use Prim.Native.Nat.{◌+◌, ◌-◌, suc, zero, ℕ}
use Rattle.std.specs.Prelude.{Ok, Err, Result, ◌≡◌, ltb, length}
use mathlib.Core.List.{List, [], ◌∷◌}
use Rattle.std.proofs.Math.Path.{refl}
use Rattle.utf8.specs.Chars.{'backslash}
use Rattle.utf8.specs.Picks.{by_test}
use Rattle.record.specs.Checks.{checks}
use Rattle.record.specs.Codes.{Refuses, checks-refuse, new_codes, refused_for}
use Rattle.record.specs.Records.{refusal}
use Rattle.record.specs.declared.Code.{Code}
use Rattle.record.specs.declared.Code.TheVariants.{BadRecord, NoRoom, NotUtf8, ShiftTooLarge, TooLong, TrailingBackslash, UnrecognizedEscape, UnterminatedAsciiEscape}
use Rattle.record.specs.declared.Refusal.{Refusal}
use Rattle.escapes.specs.declared.Part.{Part}
use Rattle.escapes.specs.Answers.{Done, applied, checked, expanded, fit, inside, part_check, range_check, side}
use Rattle.escapes.specs.Escapes.{Read, Outcome, ascii_escape, escape, expand, expand_from, gives, has_byte, prepend, refused, stands}
use Rattle.escapes.specs.Laws.{first-bad, first_byte}

-- the codes of an expansion, and all others
abbrev pub expand_codes : List ℕ
expand_codes = 3 ∷ 4 ∷ 11 ∷ 12 ∷ 13 ∷ 14 ∷ 16 ∷ []

abbrev pub never_expand : List ℕ
never_expand = 1 ∷ 2 ∷ 5 ∷ 6 ∷ 7 ∷ 8 ∷ 9 ∷ 10 ∷ 15 ∷ 17 ∷ 18 ∷ 19 ∷ 20 ∷ new_codes

module _ (Q : Code → Type 0) where
  abbrev SaysIn : Read → Type 0
  SaysIn (Ok (v, w)) = Unit {0}
  SaysIn (Err r) = Q r.code

  record Says (x : Read) : Type 0 where
    is : SaysIn x

  abbrev GivesIn : Outcome → Type 0
  GivesIn (gives l) = Unit {0}
  GivesIn (refused r) = Q r.code

  abbrev AnswersIn : Result Part Refusal → Type 0
  AnswersIn (Ok p) = Unit {0}
  AnswersIn (Err r) = Q r.code

  module _ (q3 : Q UnterminatedAsciiEscape) (q4 : Q UnrecognizedEscape) (q11 : Q NotUtf8) (q12 : Q TooLong) (q13 : Q ShiftTooLarge) (q14 : Q NoRoom) (q16 : Q TrailingBackslash) where
    says_byte : (v w : ℕ) → Says (Ok (v, w))
    says_byte v w = record { is = tt }

    says_bad : (code : Code) (place : ℕ) → Q code → Says (Err (refusal code place))
    says_bad code place e = record { is = e }

    ascii_says : (cs : List ℕ) (x : ℕ) → Says (ascii_escape cs x)
    unfolding ascii_escape
    ascii_says [] x = says_bad _ _ q3
    ascii_says (h ∷ []) x = says_bad _ _ q3
    ascii_says (h ∷ l ∷ cs) x = search (by_test Says, says_byte, says_bad)

    escape_says : (cs : List ℕ) (at : ℕ) → Says (escape cs at)
    unfolding escape
    escape_says [] at = says_bad _ _ q16
    escape_says (c ∷ cs) at = search (by_test Says, says_byte, says_bad, ascii_says) depth 12

    stands_says : (b : ℕ) (s : List ℕ) (at : ℕ) → Says (stands b s at)
    unfolding stands
    stands_says b s at = search (by_test Says, says_byte, escape_says)

    prepend-gives : (p : List ℕ) (o : Outcome) → GivesIn o → GivesIn (prepend p o)
    prepend-gives p (gives l) h = tt
    prepend-gives p (refused r) h = h

    from_gives : (k : ℕ) (s : List ℕ) (at : ℕ) → GivesIn (expand_from k s at)
    unfolding expand_from
    from_gives k [] at = tt
    from_gives (suc k) (b ∷ s) at = from_gives k s (at + 1)
    from_gives zero (b ∷ s) at = go (λ k. from_gives k s (at + 1)) (stands b s at) refl (stands_says b s at).is
      where
        go : ((k : ℕ) → GivesIn (expand_from k s (at + 1))) → (x : Read) → stands b s at ≡ x → SaysIn x → GivesIn (expand_from 0 (b ∷ s) at)
        go f (Ok (v, w)) e h = rw (first_byte b s at v w e) (prepend-gives (v ∷ []) (expand_from (w - 1) s (at + 1)) (f (w - 1)))
        go f (Err r) e h = rw (first-bad b s at r e) h

    module _ (s : List ℕ) (idx0 : ℕ) (d : List ℕ) (place : ℕ) where
      fit-answers : (o : Outcome) → GivesIn o → AnswersIn (fit idx0 d place o).answer
      fit-answers (gives l) h = by_test (λ (x : Done). AnswersIn x.answer) (ltb (length d) (place + length l)) _ _ (λ t. q14) (λ t. tt)
      fit-answers (refused r) h = h

      pub applied-answers : AnswersIn (applied s idx0 d place).answer
      unfolding applied expanded expand
      applied-answers = go (checks s idx0) (checks-refuse Q q12 q13 q11 s idx0)
        where
          go : (c : Result Unit Refusal) → Refuses Q c → AnswersIn (checked c (expanded s idx0 d place) d).answer
          go (Ok tt) h = by_test (λ (x : Done). AnswersIn x.answer) (has_byte 'backslash s) _ _ (λ t. fit-answers (expand_from 0 s idx0) (from_gives 0 s idx0)) (λ t. tt)
          go (Err r) h = h.is

-- the check of a part refuses for 20 alone
pub part-codes : (s d : List ℕ) (p : Part) (r : Refusal) → part_check s d p ≡ Err r → r.code ≡ BadRecord
unfolding range_check
part-codes s d p r e = refused_for (inside (length (side p.held s d)) p.start p.end) (refusal BadRecord 0) r e
