-- What the code cites: what becomes of a file.
use Rattle.std.specs.Prelude.{ℕ, ◌≤◌, ◌<◌, Bool, true, List, [], ◌≡◌, refl, length, Option, Some}
use Rattle.std.proofs.Common.{le-ltb, lt-ltb, ◌∙◌}
use Rattle.std.proofs.Math.Path.{ap}
use Rattle.text.specs.Lay.{lay_all}
use Rattle.commands.specs.Laws.{Is}
use Rattle.commands.specs.Lists.{limit_lines}
use Rattle.sheet.specs.Sheet.{held, taken}
use Rattle.sheet.specs.declared.Taken.{Taken}
use Rattle.filing.specs.Filed.{file_limit, filed_lines, filed_refused, filed_sheet, is_refused, taken_lines}

pub lay-none : (d : List ℕ) (from : Option ℕ) → Is (lay_all d from []) from d
unfolding lay_all
lay-none d from = (refl, refl)

abbrev FiledAs : List ℕ → List ℕ → List ℕ → List ℕ → Bool → Option ℕ → List ℕ → List ℕ → Type 0
FiledAs name s sheet d b r x y = (b ≡ filed_refused s sheet) × Is (lay_all d (Some 0) (filed_lines name s sheet)) r x × (y ≡ filed_sheet s sheet)

module _ (name s sheet d : List ℕ) (r : Option ℕ) (x : List ℕ) where
  pub file_long : file_limit < length s → Is (lay_all d (Some 0) (limit_lines name file_limit)) r x → FiledAs name s sheet d true r x sheet
  unfolding filed_lines filed_refused filed_sheet
  file_long h p = rw (lt-ltb file_limit (length s) h) (refl, p, refl)

  pub file-read : (t : Taken) (b : Bool) (y : List ℕ) → length s ≤ file_limit → t ≡ taken s sheet → y ≡ held s sheet → b ≡ is_refused t → Is (lay_all d (Some 0) (taken_lines name s t)) r x
      → FiledAs name s sheet d b r x y
  unfolding filed_lines filed_refused filed_sheet
  file-read t b y h e f g p = rw (le-ltb file_limit (length s) h) (g ∙ ap is_refused e, rw e at p, f)
