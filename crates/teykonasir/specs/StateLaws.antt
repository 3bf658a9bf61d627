-- Nothing is lost between two calls: the state's numbers are the tokenizer's, both ways, and a run is the call from four zeros.
use Rattle.std.specs.Prelude.{ℕ, zero, suc, ◌+◌, ◌-◌, ◌≤◌, ◌<◌, Bool, cond, List, [], ◌∷◌, ◌≡◌, eqb, get_or, length, Option, Some, None, Result, Ok, Err}
use Rattle.std.proofs.Common.{arith, sym, ap, ◌∙◌}
use Rattle.std.proofs.Math.Bool.{true, false}
use Rattle.std.proofs.Math.Path.{refl}
use Rattle.std.proofs.Math.Dec.{ltb}
use borrow.Author.Tests.{le-ltb}
use Rattle.utf8.specs.Picks.{tests}
use Rattle.utf8.specs.Utf8.{boundary}
use Rattle.record.specs.Checks.{checks}
use Rattle.record.specs.Numbers.{code_number, code_of, codes}
use Rattle.record.specs.Records.{over, refusal}
use Rattle.record.specs.declared.Code.{Code}
use Rattle.record.specs.declared.Code.TheVariants.{UnrecognizedToken, UnterminatedEscape, UnterminatedAsciiEscape, UnrecognizedEscape, UnterminatedStringLiteral, UnterminatedCharacterLiteral, UnterminatedAttribute, UnterminatedCode, ExpectedStringLiteral, UnterminatedBlockComment, NotUtf8, TooLong, ShiftTooLarge, NoRoom, WorkLimit, TrailingBackslash, BadMark, UnknownVersion, BadLength, BadRecord, SheetFull, HalfSymbol, StrayCharacter, UnknownReading, TooDeep, TextMismatch, ChangeListFull, BadEdit, StaleRecords}
use Rattle.record.specs.declared.Reading.{Reading}
use Rattle.record.specs.declared.Reading.TheVariants.{Old}
use Rattle.record.specs.declared.Refusal.{Refusal}
use Rattle.reading.proofs.AnyCall.{run_reading}
use Rattle.reading.specs.Next.{next}
use Rattle.reading.specs.declared.Outcome.{Outcome}
use Rattle.reading.specs.declared.Outcome.TheVariants.{Ended, Refused, Running}
use Rattle.reading.specs.declared.Tokenizer.{Tokenizer}
use Rattle.run.specs.Checked.{ran_of, ran_with, run_if, whole_run_with}
use Rattle.numbers.specs.Leaves.{tell}
use Rattle.teykonasir.specs.Calls.{resume_call, resumed, room_in, run_call}
use Rattle.teykonasir.specs.State.{code_known, done_numbers, refused_at, state_at, state_from, state_numbers, state_of}

-- each refusal's number stands for that refusal
refused_again : (at count place : ℕ) (c : Code) → state_from at count (code_number c) place ≡ state_at at count (Refused (refusal c place))
unfolding code_known code_of codes state_from
refused_again at count place UnrecognizedToken = refl
refused_again at count place UnterminatedEscape = refl
refused_again at count place UnterminatedAsciiEscape = refl
refused_again at count place UnrecognizedEscape = refl
refused_again at count place UnterminatedStringLiteral = refl
refused_again at count place UnterminatedCharacterLiteral = refl
refused_again at count place UnterminatedAttribute = refl
refused_again at count place UnterminatedCode = refl
refused_again at count place ExpectedStringLiteral = refl
refused_again at count place UnterminatedBlockComment = refl
refused_again at count place NotUtf8 = refl
refused_again at count place TooLong = refl
refused_again at count place ShiftTooLarge = refl
refused_again at count place NoRoom = refl
refused_again at count place WorkLimit = refl
refused_again at count place TrailingBackslash = refl
refused_again at count place BadMark = refl
refused_again at count place UnknownVersion = refl
refused_again at count place BadLength = refl
refused_again at count place BadRecord = refl
refused_again at count place SheetFull = refl
refused_again at count place HalfSymbol = refl
refused_again at count place StrayCharacter = refl
refused_again at count place UnknownReading = refl
refused_again at count place TooDeep = refl
refused_again at count place TextMismatch = refl
refused_again at count place ChangeListFull = refl
refused_again at count place BadEdit = refl
refused_again at count place StaleRecords = refl

again : (at count : ℕ) (d : Outcome) (old : List ℕ) → state_of (over (at ∷ count ∷ done_numbers d) old) ≡ state_at at count d
unfolding state_from
again at count Running old = refl
again at count Ended old = refl
again at count (Refused r) old = refused_again at count r.place r.code

-- THE THEOREM. A tokenizer that is stored over any numbers is the one that is read again: nothing is lost. Of one in the old reading: the reading is not
-- among the numbers.
pub state_again : (t : Tokenizer) → t.reading ≡ Old → (old : List ℕ) → state_of (over (state_numbers t) old) ≡ Some t
state_again t o old = again t.at t.count t.done old ∙ ap (λ (rd : Reading). Some (record { at = t.at; count = t.count; done = t.done; reading = rd })) (sym o)

-- ---- and the numbers of the tokenizer that was read are those that stood there
numbered : ℕ → List Code → Bool
numbered k [] = true
numbered k (c ∷ cs) = cond (eqb (code_number c) k) (numbered (suc k) cs) false

number_at : (k : ℕ) (cs : List Code) (i : ℕ) (d : Code) → numbered k cs ≡ true → i < length cs → code_number (get_or cs i d) ≡ k + i
unfolding numbered
number_at k [] i d e h = absurd (omega (arith, h))
number_at k (c ∷ cs) i d e h = here (λ j f g. number_at (suc k) cs j d f g) (eqb (code_number c) k) refl i e h
  where
    none : {A : Type 0} → false ≡ true → A
    none z = let w : ◌≡◌ {A = ℕ} 0 1 = cc in absurd (omega arith)

    here : ((j : ℕ) → numbered (suc k) cs ≡ true → j < length cs → code_number (get_or cs j d) ≡ suc k + j) → (b : Bool) → eqb (code_number c) k ≡ b
        → (i : ℕ) → cond b (numbered (suc k) cs) false ≡ true → i < suc (length cs) → code_number (get_or (c ∷ cs) i d) ≡ k + i
    here on false q i e h = none e
    here on true q zero e h = omega tests
    here on true q (suc i) e h = let n = on i e (omega (arith, h)) in omega (arith, n)

code-back : (n : ℕ) → 1 ≤ n → n < 30 → code_number (code_of n) ≡ n
unfolding code_of codes numbered
code-back n g h = let e = number_at 1 codes (n - 1) BadRecord refl (omega arith) in omega (arith, e)

module _ (a n d p : ℕ) (l : List ℕ) where
  abbrev Back : Option Tokenizer → Type 0
  Back k = (t : Tokenizer) → k ≡ Some t → over (state_numbers t) (a ∷ n ∷ d ∷ p ∷ l) ≡ a ∷ n ∷ d ∷ p ∷ l

  is-back : (o : Outcome) → over (a ∷ n ∷ done_numbers o) (a ∷ n ∷ d ∷ p ∷ l) ≡ a ∷ n ∷ d ∷ p ∷ l → Back (state_at a n o)
  is-back o e t q =
      let f : t ≡ record { at = a; count = n; done = o; reading = Old } = cc in
      ap (λ (u : Tokenizer). over (state_numbers u) (a ∷ n ∷ d ∷ p ∷ l)) f ∙ e

  no-back : Back None
  no-back t q = cc

  code_by : (b c : Bool) → ltb d 1 ≡ b → ltb d 30 ≡ c → Back (refused_at (cond b None (cond c (Some (code_of d)) None)) a n p)
  code_by true c e f = no-back
  code_by false false e f = no-back
  code_by false true e f =
      let g : code_number (code_of d) ≡ d = code-back d (omega tests) (omega tests) in
      is-back (Refused (refusal (code_of d) p)) (ap (λ (x : ℕ). a ∷ n ∷ x ∷ p ∷ l) g)

  back_by : (b c : Bool) → eqb d 0 ≡ b → eqb d 32 ≡ c → Back (cond b (state_at a n Running) (cond c (state_at a n Ended) (refused_at (code_known d) a n p)))
  unfolding code_known
  back_by true c e f =
      let g : 0 ≡ d = omega tests in
      is-back Running (ap (λ (x : ℕ). a ∷ n ∷ x ∷ p ∷ l) g)
  back_by false true e f =
      let g : 32 ≡ d = omega tests in
      is-back Ended (ap (λ (x : ℕ). a ∷ n ∷ x ∷ p ∷ l) g)
  back_by false false e f = code_by (ltb d 1) (ltb d 30) refl refl

-- THE THEOREM, the other way: to store the tokenizer that was read changes no number.
pub numbers_again : (l : List ℕ) → 4 ≤ length l → (t : Tokenizer) → state_of l ≡ Some t → over (state_numbers t) l ≡ l
unfolding state_from
numbers_again [] h = absurd (omega (arith, h))
numbers_again (a ∷ []) h = absurd (omega (arith, h))
numbers_again (a ∷ n ∷ []) h = absurd (omega (arith, h))
numbers_again (a ∷ n ∷ d ∷ []) h = absurd (omega (arith, h))
numbers_again (a ∷ n ∷ d ∷ p ∷ l) h = back_by a n d p l (eqb d 0) (eqb d 32) refl refl

-- ---- the tokenizer that was read is in the old reading, and a run leaves it there
abbrev IsOld : Option Tokenizer → Type 0
IsOld k = (t : Tokenizer) → k ≡ Some t → t.reading ≡ Old

at_old : (a n : ℕ) (o : Outcome) → IsOld (state_at a n o)
at_old a n o t q = let f : t ≡ record { at = a; count = n; done = o; reading = Old } = cc in ap (λ (u : Tokenizer). u.reading) f

pub state_old : (l : List ℕ) (t : Tokenizer) → state_of l ≡ Some t → t.reading ≡ Old
unfolding state_from
state_old l = go (eqb (get_or l 2 0) 0) (eqb (get_or l 2 0) 32) (code_known (get_or l 2 0))
  where
    go : (b c : Bool) (k : Option Code) → IsOld (cond b (state_at (get_or l 0 0) (get_or l 1 0) Running) (cond c (state_at (get_or l 0 0) (get_or l 1 0) Ended) (refused_at k (get_or l 0 0) (get_or l 1 0) (get_or l 3 0))))
    go true c k = at_old _ _ _
    go false true k = at_old _ _ _
    go false false (Some z) = at_old _ _ _
    go false false None = λ t q. cc

ran_reading : (s : List ℕ) (shift limit room : ℕ) (t : Tokenizer) → (ran_of s shift limit room t).state.reading ≡ t.reading
unfolding ran_with whole_run_with
ran_reading s shift limit room t = go (checks s shift) (boundary s t.at) refl
  where
    go : (c : Result Unit Refusal) (b : Bool) → boundary s t.at ≡ b → (run_if c s shift limit room t).state.reading ≡ t.reading
    go (Err r) b q = refl
    go (Ok tt) false q = rw q
    go (Ok tt) true q = rw q (run_reading next s shift limit room t)

-- ---- a run is the call from four zeros: the same result, the same records, the same answer
module _ (s : List ℕ) (shift limit : ℕ) (records answer : List ℕ) where
  abbrev zeros : List ℕ
  zeros = 0 ∷ 0 ∷ 0 ∷ 0 ∷ []

  pub run-from-zeros : ((resume_call s shift limit zeros records answer).result ≡ (run_call s shift limit records answer).result)
      × ((resume_call s shift limit zeros records answer).lent ≡ (run_call s shift limit records answer).lent)
      × ((resume_call s shift limit zeros records answer).numbers ≡ (run_call s shift limit records answer).numbers)
  unfolding resume_call resumed run_call state_from tell
  run-from-zeros = by (ltb (length answer) 4) refl
    where
      by : (b : Bool) → ltb (length answer) 4 ≡ b
          → ((resume_call s shift limit zeros records answer).result ≡ (run_call s shift limit records answer).result)
          × ((resume_call s shift limit zeros records answer).lent ≡ (run_call s shift limit records answer).lent)
          × ((resume_call s shift limit zeros records answer).numbers ≡ (run_call s shift limit records answer).numbers)
      by true e = rw e (refl, refl, refl)
      by false e = rw e (refl, refl, refl)

-- ---- what `state` holds after a call
module _ (s : List ℕ) (shift limit : ℕ) (state records answer : List ℕ) (g : 4 ≤ length answer) (h : 4 ≤ length state) where
  moved : (k : Option Tokenizer) → state_of state ≡ k → resume_call s shift limit state records answer ≡ resumed s shift limit state records answer k
  unfolding resume_call
  moved k e = rw (le-ltb (length answer) 4 g, le-ltb (length state) 4 h, e)

  module _ (t : Tokenizer) (e : state_of state ≡ Some t) where
    -- the tokenizer as the run left it
    pub left_there : state_of (resume_call s shift limit state records answer).state ≡ Some (ran_of s shift limit (room_in records) t).state
    unfolding resumed
    left_there = rw (moved (Some t) e) (state_again (ran_of s shift limit (room_in records) t).state (ran_reading s shift limit (room_in records) t ∙ state_old state t e) state)

    same-there : (ran_of s shift limit (room_in records) t).state ≡ t → (resume_call s shift limit state records answer).state ≡ state
    unfolding resumed
    same-there f = rw (moved (Some t) e) (ap (λ (u : Tokenizer). over (state_numbers u) state) f ∙ numbers_again state h t e)

    -- "after 11, 12 and 13 the state is as it was", and after 20 for a cursor off the text's boundaries
    pub refused_still : (r : Refusal) → checks s shift ≡ Err r → (resume_call s shift limit state records answer).state ≡ state
    unfolding ran_with whole_run_with
    refused_still r c = same-there (rw c)

    pub off_still : checks s shift ≡ (Ok tt) → boundary s t.at ≡ false → (resume_call s shift limit state records answer).state ≡ state
    unfolding ran_with whole_run_with
    off_still c b = same-there (rw (c, b))

  -- and after 20 for numbers that are no tokenizer's
  pub none_still : state_of state ≡ None → (resume_call s shift limit state records answer).state ≡ state
  unfolding resumed
  none_still e = rw (moved None e)
