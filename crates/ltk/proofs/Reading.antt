-- The pure side of the readers: what the list holds afterwards.
use Rattle.std.proofs.Common.{ℕ, ◌/◌, ◌≤◌, ◌≡◌, List, ◌++◌, map, length, take, drop, ap, ◌∙◌, arith, length-take-le, Result}
use Rattle.std.proofs.lemmas.List.{length-map}
use Rattle.std.proofs.lemmas.List.Edits.{sets}
use Rattle.record.specs.declared.Token.{Token}
use Rattle.record.specs.Records.{over}
use Rattle.record.specs.Stores.{sets_over}
use Rattle.ltk.specs.Ltk.{group_size, numbers_in, flat, token_in, entry_at, entries_of, file_check, read_answer, delivered, read_tokens, read_numbers}
use Rattle.ltk.specs.Laws.{length-listed}
use Rattle.ltk.specs.Faithful.{room-read}
use Rattle.ltk.proofs.Laying.{length-groups}
use Rattle.record.specs.declared.Refusal.{Refusal}

-- what is delivered fits
pub fits-room : (s : List ℕ) (room : ℕ) (a : Result ℕ Refusal) (n : ℕ) → a ≡ read_answer s room → n ≡ delivered a → n ≤ room
unfolding read_answer
fits-room s room a n e d = omega (arith, d, ap delivered e, room-read room (file_check s))

pub numbers_read : (s xs : List ℕ) (a : Result ℕ Refusal) (n : ℕ) → a ≡ read_answer s (length xs / group_size) → n ≡ delivered a
    → sets xs 0 (flat numbers_in (entries_of s n)) ≡ over (read_numbers s (length xs / group_size)) xs
unfolding read_numbers
numbers_read s xs a n e d =
    let h = fits-room s (length xs / group_size) a n e d in
    let l = length-groups (entries_of s n) in
    let k = length-listed (entry_at s) 0 n in
    sets_over (flat numbers_in (entries_of s n)) xs (omega (arith, h, l, k))
    ∙ ap (λ (m : ℕ). over (flat numbers_in (entries_of s m)) xs) (d ∙ ap delivered e)

-- the first n of the list are the file's, and the others stay
pub tokens-read : (s : List ℕ) (xs : List Token) (a : Result ℕ Refusal) (n : ℕ) → a ≡ read_answer s (length xs) → n ≡ delivered a
    → (ys : List Token) → ys ≡ map token_in (entries_of s (length (take n xs))) → ys ++ drop n xs ≡ over (read_tokens s (length xs)) xs
unfolding read_tokens
tokens-read s xs a n e d ys y =
    let m = d ∙ ap delivered e in
    let w = length-take-le n xs (fits-room s (length xs) a n e d) in
    let l = length-map (entries_of s (delivered (read_answer s (length xs)))) token_in ∙ length-listed (entry_at s) 0 (delivered (read_answer s (length xs))) in
    cc (y, m, w, l)
