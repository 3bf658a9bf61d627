-- TEXTS, ONE AFTER ANOTHER. 02, E2: "Every total is the sum over the taken texts of a definition that reads each alone".
use Rattle.std.specs.Prelude.{◌+◌, ℕ, Bool, cond, false, true, List, [], ◌∷◌, get_or, length, Result, Ok, Err}
use Rattle.utf8.specs.Utf8.{chars}
use Rattle.record.specs.Checks.{checks}
use Rattle.record.specs.declared.Token.{Token}
use Rattle.scan.specs.Depth.{deeper}
use Rattle.reading.specs.Measures.{attempts}
use Rattle.reading.specs.Run.{Run}
use Rattle.reading.specs.declared.Outcome.{Outcome}
use Rattle.reading.specs.declared.Outcome.TheVariants.{Ended, Refused as Failed, Running}
use Rattle.sheet.specs.Adds.{adds, greatest, story}
use Rattle.sheet.specs.Sheet.{held, taken}
use Rattle.sheet.specs.declared.Taken.{Taken}
use Rattle.sheet.specs.declared.Taken.TheVariants.{Refused, Tallied, Whole}
use Rattle.record.specs.declared.Refusal.{Refusal}

-- what a sheet holds that took the texts, or refused them, one after another
unfoldable pub takes : List (List ℕ) → List ℕ → List ℕ
takes [] sheet = sheet
takes (s ∷ ss) sheet = takes ss (held s sheet)

abbrev pub is_taken : Taken → Bool
is_taken Whole = true
is_taken (Tallied r) = true
is_taken (Refused r) = false

-- those of the texts that it took, in their order
unfoldable pub taken_of : List (List ℕ) → List ℕ → List (List ℕ)
taken_of [] sheet = []
taken_of (s ∷ ss) sheet = cond (is_taken (taken s sheet)) (s ∷ taken_of ss (held s sheet)) (taken_of ss (held s sheet))

-- what texts come to together: a sum over them, or the greatest of them
unfoldable pub together : (ℕ → ℕ → ℕ) → (List ℕ → ℕ) → List (List ℕ) → ℕ
together op f [] = 0
together op f (s ∷ ss) = op (f s) (together op f ss)

abbrev pub sum_of : (List ℕ → ℕ) → List (List ℕ) → ℕ
sum_of f ss = together ◌+◌ f ss

abbrev pub greatest_of : (List ℕ → ℕ) → List (List ℕ) → ℕ
greatest_of f ss = together deeper f ss

-- what a text adds to the number i of a sheet
abbrev pub adds_to : ℕ → List ℕ → ℕ
adds_to i s = get_or (adds s) i 0

-- the characters of a text that reached its end, and what its failed attempts cost: for each delivered Hash the advances of the attempt at its place
abbrev pub chars_by : Outcome → List ℕ → ℕ
chars_by Ended s = length (chars s)
chars_by (Failed r) s = 0
chars_by Running s = 0

unfoldable pub reached : List ℕ → ℕ
reached s = chars_by (story s).how s

-- how deep its comments go, in gaps and in code; 02, E4, as decided: of a text that reached its end
abbrev pub deep_by : Outcome → Run → ℕ
deep_by Ended r = greatest r
deep_by (Failed z) r = 0
deep_by Running r = 0

unfoldable pub depth : List ℕ → ℕ
depth s = deep_by (story s).how (story s)

abbrev pub cost_by : Outcome → List ℕ → List Token → ℕ
cost_by Ended s ts = attempts s 0 ts
cost_by (Failed r) s ts = 0
cost_by Running s ts = 0

unfoldable pub cost : List ℕ → ℕ
cost s = cost_by (story s).how s (story s).tokens

-- whether a text passes the checks, and those of the texts that do
abbrev pub passed_by : Result Unit Refusal → Bool
passed_by (Ok tt) = true
passed_by (Err r) = false

unfoldable pub passing : List (List ℕ) → List (List ℕ)
passing [] = []
passing (s ∷ ss) = cond (passed_by (checks s 0)) (s ∷ passing ss) (passing ss)

-- the same texts in another order
pub data Reordered : List (List ℕ) → List (List ℕ) → Type 0 where
  same : {ss : List (List ℕ)} → Reordered ss ss
  after : {ss rs : List (List ℕ)} (s : List ℕ) → Reordered ss rs → Reordered (s ∷ ss) (s ∷ rs)
  swapped : {ss : List (List ℕ)} (s r : List ℕ) → Reordered (s ∷ r ∷ ss) (r ∷ s ∷ ss)
  twice : {ss rs ts : List (List ℕ)} → Reordered ss rs → Reordered rs ts → Reordered ss ts
