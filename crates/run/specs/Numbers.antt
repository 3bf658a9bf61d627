-- A run over plain numbers: each record is a group of five of them, or of nine.
use Rattle.std.specs.Prelude.{ℕ, List, [], ◌∷◌, ◌++◌, None}
use Rattle.record.specs.Numbers.{kind_number}
use Rattle.record.specs.Records.{told_number}
use Rattle.record.specs.declared.Token.{Token}
use Rattle.run.specs.declared.Group.{Group}
use Rattle.run.specs.declared.Group.TheVariants.{Five, Nine}

-- 01: "kind, start, end, payload start, payload end"
abbrev pub numbers_of : Token → List ℕ
numbers_of t = kind_number t.kind ∷ t.start ∷ t.end ∷ t.payload_start ∷ t.payload_end ∷ []

-- 02, E4: the depth of the gap before it and of its code; two further numbers are not known yet
abbrev pub told_of : Token → List ℕ
told_of t = told_number t.gap_depth ∷ told_number t.code_depth ∷ told_number None ∷ told_number None ∷ []

abbrev pub size_of : Group → ℕ
size_of Five = 5
size_of Nine = 9

abbrev pub group_of : Group → Token → List ℕ
group_of Five t = numbers_of t
group_of Nine t = numbers_of t ++ told_of t

unfoldable pub groups : Group → List Token → List ℕ
groups g [] = []
groups g (t ∷ ts) = group_of g t ++ groups g ts

-- groups of five
abbrev pub group_size : ℕ
group_size = size_of Five

abbrev pub numbers_all : List Token → List ℕ
numbers_all = groups Five
