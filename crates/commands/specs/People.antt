-- The place in the line for people, beside what the reporter says.
use Rattle.std.specs.Prelude.{ℕ, ◌+◌, List, [], ◌∷◌, ◌≡◌, refl, take, Ok, Err}
use Rattle.std.proofs.Common.{sym, ◌∙◌}
use Rattle.utf8.specs.Utf8.{verdict}
use Rattle.record.specs.Numbers.{code_number}
use Rattle.record.specs.declared.Refusal.{Refusal}
use Rattle.place.specs.Beginning.{beginning_asked}
use Rattle.place.specs.Place.{line_column, reported}
use Rattle.place.specs.Theorems.{told}
use Rattle.place.specs.declared.Place.{Place}
use Rattle.text.specs.Lines.{people_line}
use Rattle.commands.specs.Lists.{refused_lines}

-- ---- THEOREMS: the line for people says a refusal r of the text s to be at the place q, counted from 1
abbrev pub SaidAt : List ℕ → List ℕ → Refusal → Place → Type 0
SaidAt name s r q = refused_lines name s r ≡ name ∷ people_line (q.line + 1) (q.column + 1) (code_number r.code) ∷ []

said_at : (name s : List ℕ) (r : Refusal) (q : Place) → line_column s r.place ≡ q → SaidAt name s r q
unfolding refused_lines
said_at name s r q e = rw e refl

-- 1. "one more than the reporter says"
pub people_reported : (name s : List ℕ) (r : Refusal) (q : Place) → reported s r.place ≡ Ok q → SaidAt name s r q
people_reported name s r q e = said_at name s r q (told s r.place q e).1

-- 2. "for a text that is refused with 11 it is asked about the well_formed_lem beginning": of a text that is ill-formed at p, the bytes before p
pub people_beginning : (name s : List ℕ) (p : ℕ) (r : Refusal) (q : Place) → verdict s ≡ Err p → reported (take p s) r.place ≡ Ok q
    → SaidAt name s r q
people_beginning name s p r q e f = said_at name s r q (sym (beginning_asked s p e r.place) ∙ (told (take p s) r.place q f).1)
