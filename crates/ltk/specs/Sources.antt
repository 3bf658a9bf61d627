-- Where records come from: a closure that is asked for the one at an index.
use Rattle.std.specs.Prelude.{ℕ, ◌<◌, ◌≡◌}
use Rattle.ltk.specs.declared.Entry.{Entry}

-- all that it may answer at an index below n is what f has there
abbrev pub GivesBelow : ℕ → (ℕ → Entry → Type 0) → (ℕ → Entry) → Type 0
GivesBelow n gives f = (i : ℕ) → i < n → (e : Entry) → gives i e → e ≡ f i
