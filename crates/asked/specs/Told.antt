-- THE THEOREMS: where nothing differs, what is recorded is our answer, 22 and 23 as the Rust's 1. Of a run: five numbers, and then five for each token.
use Rattle.std.specs.Prelude.{◌*◌, ◌≤◌, ℕ, List, [], ◌∷◌, ◌++◌, ◌≡◌, drop, get_or, length, replicate, take, Result, Ok, Err}
use Rattle.std.proofs.Common.{arith, ◌∙◌, ap, sym, take-append-drop, take_at, le-ltb}
use Rattle.std.proofs.Math.Path.{refl}
use Rattle.record.specs.Numbers.{code_number}
use Rattle.record.specs.Records.{over}
use Rattle.record.specs.Rust.{rust_number_lem}
use Rattle.record.specs.declared.Token.{Token}
use Rattle.reading.specs.Answers.{start_state}
use Rattle.reading.specs.Next.{next}
use Rattle.reading.specs.declared.Outcome.{Outcome}
use Rattle.reading.specs.declared.Outcome.TheVariants.{Ended, Refused as Stopped, Running}
use Rattle.run.specs.Checked.{ran_of, ran_with, whole_run, whole_run_with}
use Rattle.run.specs.Numbers.{numbers_all}
use Rattle.run.specs.declared.Ran.{Ran}
use Rattle.run.specs.declared.Group.TheVariants.{Five}
use Rattle.run.proofs.Groups.{all_length}
use Rattle.escapes.specs.Answers.{Done, applied, part_check, part_of}
use Rattle.lent.specs.Copies.{fitted, highest_limit, list_room}
use Rattle.unknown.specs.Map.{rust_outcome, rust_ran}
use Rattle.unknown.specs.Runs.{ran-mapped, whole-mapped}
use Rattle.unknown.specs.Rust as rust
use Rattle.unknown.specs.Theorems.{one-call}
use Rattle.recorded.specs.Recorded.{differ}
use Rattle.recorded.specs.Same.{no_difference}
use Rattle.recorded.specs.declared.Difference.{Difference}
use Rattle.recorded.specs.declared.Difference.TheVariants.{Length, Number, Same}
use Rattle.asked.specs.Answers.{answer_differs, onward}
use Rattle.asked.specs.Calls.{blank-length}
use Rattle.asked.specs.Expansions.{expanded_by, expanded_differs, most_room, paint, stands_by, written}
use Rattle.asked.specs.Texts.{blank, code_of, head_of, listed_differs, most_tokens, numbered_differs, place_of, run_differs, size}
use Rattle.escapes.specs.declared.Part.{Part}
use Rattle.record.specs.declared.Refusal.{Refusal}

both : (d e : Difference) → onward d e ≡ Same → (d ≡ Same) × (e ≡ Same)
both Same e h = (refl, h)
both (Length a b) e h = let z : ◌≡◌ {A = ℕ} 0 1 = cc in absurd (omega arith)
both (Number at a b) e h = let z : ◌≡◌ {A = ℕ} 0 1 = cc in absurd (omega arith)

pub answer-told : (n : ℕ) (recorded first more : List ℕ) → answer_differs n recorded first more ≡ Same → recorded ≡ first ++ more
unfolding answer_differs
answer-told n recorded first more e =
    let b = both (differ 0 (take n recorded) first) (differ n (drop n recorded) more) e in
    let p = no_difference 0 (take n recorded) first b.0 in
    let q = no_difference n (drop n recorded) more b.1 in
    sym (take-append-drop n recorded) ∙ rw (p, q)

-- the number of tokens stands first in what is recorded: so there is read whether they are at most 4,000
pub counted : (recorded : List ℕ) (r : Ran) (list : List ℕ) → run_differs recorded r list ≡ Same → get_or recorded 0 0 ≡ r.stored
unfolding run_differs
counted recorded r list e = ap (λ (l : List ℕ). get_or l 0 0) (answer-told 5 recorded _ (take (size r.stored) list) e)

-- what a run answers, of these tokens
abbrev pub answered : Ran → List Token → List ℕ
answered r ts = head_of r.stored (code_of r.how) (place_of r.how) r.advances r.state.at ++ numbers_all ts

-- over any list that begins with the tokens' numbers
run-told : (recorded : List ℕ) (r : Ran) (ts : List Token) (list more : List ℕ) → r.stored ≡ length ts → length ts ≤ most_tokens → list ≡ numbers_all ts ++ more
    → run_differs recorded r list ≡ Same → recorded ≡ answered r ts
unfolding run_differs size
run-told recorded r ts list more n l i e =
    let f : length (numbers_all ts) ≡ 5 * r.stored = all_length Five ts ∙ ap (λ (k : ℕ). 5 * k) (sym n) in
    let t = take_at (numbers_all ts) more (5 * r.stored) f in
    answer-told 5 recorded _ (numbers_all ts) (rw (le-ltb most_tokens r.stored (omega arith), i, t) at e)

-- the numbers of so many tokens have room
fits : (ts : List Token) → length ts ≤ most_tokens → fitted (numbers_all ts) blank ≡ over (numbers_all ts) blank
unfolding fitted
fits ts l = let n = all_length Five ts in rw (le-ltb (length blank) (length (numbers_all ts)) (omega (arith, n, blank-length)))

-- the same by the codes as they are
abbrev pub rust_code_of : Outcome → ℕ
rust_code_of (Stopped r) = code_number r.code
rust_code_of Ended = 0
rust_code_of Running = 255

abbrev pub rust_answered : Ran → List Token → List ℕ
rust_answered r ts = head_of r.stored (rust_code_of r.how) (place_of r.how) r.advances r.state.at ++ numbers_all ts

answers-same : (r : Ran) (ts : List Token) → answered r ts ≡ rust_answered (rust_ran r) ts
answers-same r ts = go r.how
  where
    go : (how : Outcome) → head_of r.stored (code_of how) (place_of how) r.advances r.state.at ++ numbers_all ts
        ≡ head_of r.stored (rust_code_of (rust_outcome how)) (place_of (rust_outcome how)) r.advances r.state.at ++ numbers_all ts
    go (Stopped z) = rw (rust_number_lem z.code)
    go Ended = refl
    go Running = refl

module _ (s : List ℕ) (shift : ℕ) (recorded : List ℕ) where
  abbrev tokens : ℕ → List Token
  tokens room = (whole_run s shift highest_limit room start_state).tokens

  pub listed-told : length (tokens list_room) ≤ most_tokens → listed_differs s shift recorded ≡ Same
      → recorded ≡ answered (ran_of s shift highest_limit list_room start_state) (tokens list_room)
  unfolding ran_with
  listed-told l e = run-told recorded _ (tokens list_room) _ (drop (length (numbers_all (tokens list_room))) blank) refl l (fits (tokens list_room) l) e

  pub numbered_told : length (tokens most_tokens) ≤ most_tokens → numbered_differs s shift recorded ≡ Same
      → recorded ≡ answered (ran_of s shift highest_limit most_tokens start_state) (tokens most_tokens)
  unfolding ran_with
  numbered_told l e = run-told recorded _ (tokens most_tokens) _ (drop (length (numbers_all (tokens most_tokens))) blank) refl l refl e

  -- ---- and it is what 01's own definition answers, with no map (unknown/specs/Rust)
  as_rust : (room : ℕ) → answered (ran_of s shift highest_limit room start_state) (tokens room)
      ≡ rust_answered (ran_with rust.next s shift highest_limit room start_state) (whole_run_with rust.next s shift highest_limit room start_state).tokens
  as_rust room =
      let r = ran-mapped rust.next next one-call s shift highest_limit room start_state in
      let w = whole-mapped rust.next next one-call s shift highest_limit room start_state in
      rw (r, w) (answers-same (ran_of s shift highest_limit room start_state) (tokens room))

  pub listed_rust : length (tokens list_room) ≤ most_tokens → listed_differs s shift recorded ≡ Same
      → recorded ≡ rust_answered (ran_with rust.next s shift highest_limit list_room start_state) (whole_run_with rust.next s shift highest_limit list_room start_state).tokens
  listed_rust l e = listed-told l e ∙ as_rust list_room

  pub numbered_rust : length (tokens most_tokens) ≤ most_tokens → numbered_differs s shift recorded ≡ Same
      → recorded ≡ rust_answered (ran_with rust.next s shift highest_limit most_tokens start_state) (whole_run_with rust.next s shift highest_limit most_tokens start_state).tokens
  numbered_rust l e = numbered_told l e ∙ as_rust most_tokens

-- and of an expansion: six numbers, and then its bytes
abbrev pub expanded_numbers : List ℕ → List ℕ → Result Part Refusal → List ℕ
expanded_numbers s d (Err r) = code_number r.code ∷ r.place ∷ 0 ∷ 0 ∷ 0 ∷ written d ∷ []
expanded_numbers s d (Ok p) = (0 ∷ 0 ∷ stands_by (part_check s d p) p ∷ p.start ∷ p.end ∷ written d ∷ []) ++ part_of s d p

by_told : (s recorded d : List ℕ) (e : Result Part Refusal) → expanded_by s recorded d e ≡ Same → recorded ≡ expanded_numbers s d e
unfolding expanded_by
by_told s recorded d (Err r) h = answer-told 6 recorded _ [] h
by_told s recorded d (Ok p) h = answer-told 6 recorded _ (part_of s d p) h

-- what is made of the numbers that are asked: idx0, the place and the length of the buffer
abbrev pub made : List ℕ → List ℕ → Done
made s recorded = applied s (get_or recorded 0 0) (take (get_or recorded 2 0) (replicate most_room paint)) (get_or recorded 1 0)

pub expanded-told : (s recorded : List ℕ) → get_or recorded 2 0 ≤ most_room → expanded_differs s recorded ≡ Same
    → drop 3 recorded ≡ expanded_numbers s (made s recorded).buffer (made s recorded).answer
unfolding expanded_differs
expanded-told s recorded l e = by_told s (drop 3 recorded) (made s recorded).buffer (made s recorded).answer (rw (le-ltb most_room (get_or recorded 2 0) l) at e)
