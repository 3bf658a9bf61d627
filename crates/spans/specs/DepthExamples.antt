-- The request's texts and one more, computed: by the characters alone, and by the reader.
use Rattle.std.specs.Prelude.{ℕ, List, [], ◌∷◌, ◌≡◌, refl}
use Rattle.utf8.specs.Chars.{'*, '/, 'newline}
use Rattle.utf8.specs.Utf8.{width_of}
use Rattle.scan.specs.Depth.{comment_depth, deepest, depth_from, slash_depth, walk_depth}
use Rattle.scan.specs.IfNext.{if_next}
use Rattle.scan.specs.Until.{until}
use Rattle.reading.specs.Blank.{closes, ends, is_mark, line_over, one_line, opens, passes}
use Rattle.reading.specs.Gaps.{comment_turn, gap_turn}
use Rattle.spans.specs.Depths.{Layers, block, line, most, nothing, white}

abbrev 'space : ℕ
'space = 32

-- ---- after the opening mark, and through the closing one
-- /*/**/*/ : the star of the opening mark and the slash after it close nothing
abbrev nested : List ℕ
nested = '/ ∷ '* ∷ '* ∷ '/ ∷ '* ∷ '/ ∷ []

pub nested-most : most 1 nested ≡ 2
unfolding most
nested-most = refl

pub nested-depth : comment_depth nested ≡ 2
unfolding deepest
nested-depth = refl

-- /**/
pub plain-most : most 1 ('* ∷ '/ ∷ []) ≡ 1
unfolding most
plain-most = refl

pub plain-depth : comment_depth ('* ∷ '/ ∷ []) ≡ 1
unfolding deepest
plain-depth = refl

-- /* // /* */ */ : a line comment in it covers nothing
abbrev slashes : List ℕ
slashes = 'space ∷ '/ ∷ '/ ∷ 'space ∷ '/ ∷ '* ∷ 'space ∷ '* ∷ '/ ∷ 'space ∷ '* ∷ '/ ∷ []

pub slashes-most : most 1 slashes ≡ 2
unfolding most
slashes-most = refl

pub slashes-depth : comment_depth slashes ≡ 2
unfolding deepest
slashes-depth = refl

-- ---- gaps
-- /* /* */ */ /* */ : the greatest, not the last
abbrev inner : List ℕ
inner = 'space ∷ '/ ∷ '* ∷ 'space ∷ '* ∷ '/ ∷ 'space ∷ '* ∷ '/ ∷ []

abbrev two : List ℕ
two = '/ ∷ '* ∷ 'space ∷ '/ ∷ '* ∷ 'space ∷ '* ∷ '/ ∷ 'space ∷ '* ∷ '/ ∷ 'space ∷ '/ ∷ '* ∷ 'space ∷ '* ∷ '/ ∷ []

pub gap-two_layers : Layers [] two 2
unfolding most is_mark if_next
gap-two_layers =
    block inner (passes 'space refl (opens (passes 'space refl (closes (passes 'space refl ends)))))
    (white 'space refl (block ('space ∷ '* ∷ '/ ∷ []) (passes 'space refl ends) nothing))

pub gap-two : walk_depth gap_turn two 0 ≡ 2
unfolding depth_from deepest slash_depth gap_turn comment_turn until width_of
gap-two = refl

-- // and a newline
pub gap-line_layers : Layers [] ('/ ∷ '/ ∷ 'newline ∷ []) 0
unfolding one_line line_over
gap-line_layers = line [] refl refl (white 'newline refl nothing)

pub gap-line : walk_depth gap_turn ('/ ∷ '/ ∷ 'newline ∷ []) 0 ≡ 0
unfolding depth_from deepest slash_depth gap_turn comment_turn until width_of
gap-line = refl

-- // /* */ and a newline: a block comment in a line comment is none
pub gap_covered_layers : Layers [] ('/ ∷ '/ ∷ 'space ∷ '/ ∷ '* ∷ 'space ∷ '* ∷ '/ ∷ 'newline ∷ []) 0
unfolding one_line line_over
gap_covered_layers = line ('space ∷ '/ ∷ '* ∷ 'space ∷ '* ∷ '/ ∷ []) refl refl (white 'newline refl nothing)

pub gap_covered : walk_depth gap_turn ('/ ∷ '/ ∷ 'space ∷ '/ ∷ '* ∷ 'space ∷ '* ∷ '/ ∷ 'newline ∷ []) 0 ≡ 0
unfolding depth_from deepest slash_depth gap_turn comment_turn until width_of
gap_covered = refl
