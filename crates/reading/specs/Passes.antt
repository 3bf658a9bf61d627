-- What the gap and an attribute attempt pass leads to the place that they answer.
use Rattle.std.specs.Prelude.{◌+◌, ℕ, List, [], ◌∷◌}
use Rattle.utf8.specs.Utf8.{width_of}
use Rattle.scan.specs.Passes.{Balance, Good, Sound, balances, block_sound, from_past, good_skip, good_stop, good_test, goods, sound_one, upto_sound, walk_sound}
use Rattle.scan.specs.Walk.{walk}
use Rattle.scan.specs.declared.Sought.TheVariants.{Newline}
use Rattle.reading.specs.Attribute.{attribute_last, attribute_turn}
use Rattle.reading.specs.Gaps.{comment_turn, gap, gap_last, gap_turn}

pub attribute_balance : (b c : ℕ) (cs : List ℕ) (at next : ℕ) → Balance b (attribute_turn b c cs at next)
unfolding attribute_turn
attribute_balance b c cs at next = search balances depth 8

comment_good : (o : ℕ) (cs : List ℕ) (at : ℕ) → Good cs at (comment_turn o cs at)
unfolding comment_turn
comment_good o [] at = good_stop [] at
comment_good o (c ∷ cs) at =
    let u = good_skip 0 (c ∷ cs) at _ (upto_sound Newline (c ∷ cs) at) in
    let v = good_skip 0 (c ∷ cs) at _ (sound_one c cs at _ (block_sound o cs (at + width_of c))) in
    search (good_test, good_stop)

pub gap_good : (b c : ℕ) (cs : List ℕ) (at next : ℕ) → Good cs next (gap_turn b c cs at next)
unfolding gap_turn
gap_good b c cs at next = search (goods, comment_good)

pub attribute_good : (b c : ℕ) (cs : List ℕ) (at next : ℕ) → Good cs next (attribute_turn b c cs at next)
unfolding attribute_turn
attribute_good b c cs at next = search goods depth 8

pub gap_sound : (cs : List ℕ) (at : ℕ) → Sound cs at (gap cs at)
unfolding gap
gap_sound cs at = walk_sound gap_turn gap_last gap_good (λ b p n. from_past [] p n) 0 cs at

pub attribute_sound : (cs : List ℕ) (at : ℕ) → Sound cs at (walk attribute_turn attribute_last 1 cs at)
attribute_sound cs at = walk_sound attribute_turn attribute_last attribute_good (λ b p n. from_past [] p n) 1 cs at
