-- Reading characters until a state says that the end is reached. One definition and three laws serve every reader.
use Rattle.std.specs.Prelude.{◌+◌, ℕ, Bool, List, [], ◌∷◌, ◌≡◌, drop, Ok, Err}
use Rattle.std.proofs.Math.Bool.{false, true}
use Rattle.std.proofs.Common.{◌∙◌}
use Rattle.std.proofs.Math.Path.{ap, sym}
use Rattle.utf8.specs.Laws.{Ended, Seen}
use Rattle.utf8.specs.Utf8.{chars, width_of}
use Rattle.scan.specs.Shapes.{Found}

-- the characters that are left from a place on
abbrev pub left : List ℕ → ℕ → List ℕ
left s at = chars (drop at s)

module _ {S : Type 0} (step : S → ℕ → S) (done : S → Bool) where
  -- from the state st, over the characters, at a byte place, with n characters passed. 01: "An advance passes one character. At the end of
  -- text nothing is passed or counted. First sight of a character isn't an advance."
  unfoldable pub until : S → List ℕ → ℕ → ℕ → Found
  until st [] at n = Err (at, n)
  until st (c ∷ cs) at n = elim (done (step st c)) [ true ↦ Ok (at, n) | false ↦ until (step st c) cs (at + width_of c) (n + 1) ]

  -- a turn of the loop, from what the code knows: the step's state st', and whether it is the end, d
  module _ {s : List ℕ} {at k w : ℕ} (h : Seen s at k w) {st st' : S} (p : st' ≡ step st k) {d : Bool} (q : d ≡ done st') (n : ℕ) where
    pub until-on : d ≡ false → until st (chars (drop at s)) at n ≡ until st' (chars (drop (at + w) s)) (at + w) (n + 1)
    unfolding until
    until-on e = let f : done (step st k) ≡ false = ap done (sym p) ∙ sym q ∙ e in rw h.next (rw (f, until) (rw (p, h.width)))

    pub until-at : d ≡ true → until st (chars (drop at s)) at n ≡ Ok (at, n)
    unfolding until
    until-at e = let f : done (step st k) ≡ true = ap done (sym p) ∙ sym q ∙ e in rw h.next (rw (f, until))

  pub until_end : {s : List ℕ} {at : ℕ} → Ended s at → (st : S) (n : ℕ) → until st (chars (drop at s)) at n ≡ Err (at, n)
  unfolding until
  until_end e st n = rw e.none
