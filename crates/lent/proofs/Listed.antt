-- The pure side of the callers that lend a whole list: its first records are those that were stored.
use Rattle.std.specs.Prelude.{Result}
use Prim.Native.Nat.{ℕ, ◌+◌, ◌≤◌}
use native.Mathlib.Omega.{arith}
use mathlib.Core.List.{List, [], ◌∷◌, ◌++◌, map}
use mathlib.Core.Path.{◌≡◌, refl, sym, ap, ◌∙◌}
use lib.ListN.{drop, length, length-append, length-map, take}
use Rattle.record.specs.Records.{over}
use Rattle.record.specs.declared.Token.{Token}
use Rattle.reading.specs.declared.Tokenizer.{Tokenizer}
use Rattle.run.specs.Checked.{ran_of, ran_with, whole_run}
use Rattle.run.specs.Numbers.{numbers_all}
use Rattle.run.specs.declared.Ran.{Ran}
use Rattle.ltk.specs.Laws.{length-listed}
use Rattle.ltk.specs.Ltk.{delivered, entries_of, entry_at, entry_of, read_answer, read_tokens, token_in, write_answer, written_bytes}
use Rattle.lent.specs.Copies.{fitted, list_room}
use Rattle.record.specs.declared.Refusal.{Refusal}

take-front : (ts us : List Token) → take (length ts) (ts ++ us) ≡ ts
take-front [] us = refl
take-front (t ∷ ts) us = ap {B = List Token} (λ r. t ∷ r) (take-front ts us)

module _ (ts ys zs : List Token) (e : zs ≡ over ts ys) (k : ℕ) (k-is : k ≡ length ts) where
  pub first-is : take k zs ≡ ts
  first-is = rw (e, k-is) (take-front ts (drop (length ts) ys))

  pub first-within : k ≤ length zs
  first-within =
      let l = ap length e ∙ length-append ts (drop (length ts) ys) in
      omega (arith, l, k-is)

-- ---- a run into a list of as many records
module _ (s : List ℕ) (shift limit : ℕ) (from : Tokenizer) (ys : List Token) (len : length ys ≡ list_room) (r : Ran) (zs : List Token)
    (e : (r ≡ ran_of s shift limit (length ys) from) × (zs ≡ over (whole_run s shift limit (length ys) from).tokens ys)) where
  pub stored_is : r.stored ≡ length (whole_run s shift limit (length ys) from).tokens
  unfolding ran_with
  stored_is = ap (λ (x : Ran). x.stored) e.0

  pub stored-within : r.stored ≤ length zs
  stored-within = first-within (whole_run s shift limit (length ys) from).tokens ys zs e.1 r.stored stored_is

  pub stored-first : take r.stored zs ≡ (whole_run s shift limit list_room from).tokens
  stored-first =
      first-is (whole_run s shift limit (length ys) from).tokens ys zs e.1 r.stored stored_is ∙ ap (λ (k : ℕ). (whole_run s shift limit k from).tokens) len

  pub ran-is : r ≡ ran_of s shift limit list_room from
  ran-is = e.0 ∙ ap (λ (k : ℕ). ran_of s shift limit k from) len

  pub run_copied : (xs us : List ℕ) → us ≡ fitted (numbers_all (take r.stored zs)) xs
      → (r ≡ ran_of s shift limit list_room from) × (us ≡ fitted (numbers_all (whole_run s shift limit list_room from).tokens) xs)
  run_copied xs us f = (ran-is, f ∙ ap (λ (ts : List Token). fitted (numbers_all ts) xs) stored-first)

-- ---- a file read into a list of as many records
length-read : (s : List ℕ) (room : ℕ) → length (read_tokens s room) ≡ delivered (read_answer s room)
unfolding read_tokens
length-read s room = length-map (entries_of s (delivered (read_answer s room))) token_in ∙ length-listed (entry_at s) 0 (delivered (read_answer s room))

module _ (s : List ℕ) (ys : List Token) (len : length ys ≡ list_room) (r : Result ℕ Refusal) (zs : List Token) (e : (r ≡ read_answer s (length ys)) × (zs ≡ over (read_tokens s (length ys)) ys)) (k : ℕ) (k-is : k ≡ delivered r) where
  read_is : k ≡ length (read_tokens s (length ys))
  read_is = k-is ∙ ap delivered e.0 ∙ sym (length-read s (length ys))

  pub read-within : k ≤ length zs
  read-within = first-within (read_tokens s (length ys)) ys zs e.1 k read_is

  pub read_copied : (xs us : List ℕ) → us ≡ fitted (numbers_all (take k zs)) xs → (r ≡ read_answer s list_room) × (us ≡ fitted (numbers_all (read_tokens s list_room)) xs)
  read_copied xs us f = (
    e.0 ∙ ap (read_answer s) len,
    f ∙ ap (λ (ts : List Token). fitted (numbers_all ts) xs) (first-is (read_tokens s (length ys)) ys zs e.1 k read_is ∙ ap (read_tokens s) len),
  )

-- ---- a run's records written
module _ (s : List ℕ) (shift limit : ℕ) (from from₀ : Tokenizer) (start : from ≡ from₀) (ys : List Token) (len : length ys ≡ list_room) where
  abbrev ts : List Token
  ts = (whole_run s shift limit (length ys) from).tokens

  abbrev ts₀ : List Token
  ts₀ = (whole_run s shift limit list_room from₀).tokens

  same-tokens : ts ≡ ts₀
  same-tokens = ap (λ (k : ℕ). (whole_run s shift limit k from).tokens) len ∙ ap (λ (t : Tokenizer). (whole_run s shift limit list_room t).tokens) start

  pub tokens-fit : (zs : List Token) → zs ≡ over ts ys → length zs ≡ length ys → length ts ≤ list_room
  tokens-fit zs e l =
      let w = first-within ts ys zs e (length ts) refl in
      omega (arith, w, l, len)

  pub run-packed : (r : Ran) → r ≡ ran_of s shift limit (length ys) from → (a : Result ℕ Refusal) (fs us : List ℕ) → (a ≡ write_answer (map entry_of ts) (length fs)) × (us ≡ over (written_bytes (map entry_of ts) (length fs)) fs)
      → (r ≡ ran_of s shift limit list_room from₀) × (a ≡ write_answer (map entry_of ts₀) (length fs)) × (us ≡ over (written_bytes (map entry_of ts₀) (length fs)) fs)
  run-packed r e a fs us f = (
    e ∙ ap (λ (k : ℕ). ran_of s shift limit k from) len ∙ ap (λ (t : Tokenizer). ran_of s shift limit list_room t) start,
    f.0 ∙ ap (λ (z : List Token). write_answer (map entry_of z) (length fs)) same-tokens,
    f.1 ∙ ap (λ (z : List Token). over (written_bytes (map entry_of z) (length fs)) fs) same-tokens,
  )
