-- THE PROMISES IN NUMBERS. Beside the contract of each public function that answers an enum: what it says of the answer's numbers. `Tells` is both ways,
-- so the contract and its numbers say the same; where the definition is a few tests, the numbers are written out.
-- Here stand the definitions and some of the promises, in proofs/Promised.antt the others.
use Rattle.std.specs.Prelude.{ℕ, suc, zero, ◌+◌, Bool, List, [], ◌∷◌, ◌++◌, ◌≡◌, eqb, ltb, get_or, length, Option, Some, None, Result, Ok, Err}
use Rattle.std.proofs.Common.{arith, ◌∙◌, le-ltb, ltb-false, ltb-true, ne_eqb}
use Rattle.std.proofs.Math.Bool.{cond, false, true}
use Rattle.std.proofs.Math.Path.{refl, ap}
use Rattle.utf8.specs.Utf8.{verdict}
use Rattle.record.specs.Checks.{check_utf8, text_limit}
use Rattle.record.specs.Numbers.{code_number, kind_of}
use Rattle.record.specs.Readings.{reading_of}
use Rattle.record.specs.Records.{refusal}
use Rattle.record.specs.declared.Code.TheVariants.{TooLong}
use Rattle.record.specs.declared.Refusal.{Refusal}
use Rattle.record.specs.declared.Token.{Token}
use Rattle.run.specs.Payload.{is_payload, payload_check}
use Rattle.escapes.specs.Answers.{inside, part_check, range_check, side}
use Rattle.escapes.specs.Escapes.{Outcome as Expansion, gives, refused}
use Rattle.escapes.specs.declared.Part.{Part}
use Rattle.place.specs.Place.{answered, line_column, located, place_at, reported}
use Rattle.place.specs.Theorems.{refusals, well_formed}
use Rattle.ltk.specs.Faithful.{number_again}
use Rattle.ltk.specs.Layout.{record_place}
use Rattle.ltk.specs.Ltk.{bad, bytes_for, room_for, count_in, entry_at, file_check, judged, numbers_in, read_answer, record_at, token_in}
use Rattle.ltk.specs.declared.Entry.{Entry}
use Rattle.numbers.specs.Same.{code-some, chosen_same, found-same, known_same}
use Rattle.numbers.specs.Values.{answer_numbers, checked_numbers, chosen_numbers, found_numbers, known_numbers, located_numbers, refusal_numbers, reported_numbers, told_numbers}
use Rattle.place.specs.declared.Place.{Place}
use Rattle.record.specs.declared.Reading.{Reading}
use Rattle.record.specs.declared.Kind.{Kind}

-- an answer is the one that is promised exactly if its numbers are
abbrev pub Tells : {A : Type 0} → (A → List ℕ) → A → A → Type 0
Tells numbers r d = (r ≡ d → numbers r ≡ numbers d) × (numbers r ≡ numbers d → r ≡ d)

pub tells : {A : Type 0} (numbers : A → List ℕ) → ((a b : A) → numbers a ≡ numbers b → a ≡ b) → (r d : A) → Tells numbers r d
tells numbers same r d = (λ e. ap numbers e, same r d)

-- ---- the checks. A test of two answers is a test of their numbers
pub numbers_test : {A : Type 0} (numbers : A → List ℕ) (b : Bool) (x y : A) → numbers (cond b x y) ≡ cond b (numbers x) (numbers y)
numbers_test numbers true x y = refl
numbers_test numbers false x y = refl

-- `record::checks`. 01: "Checks go: 12, 13, 11, then reading." and "Places carry the shift, except for 12, 13"
abbrev pub text_numbers : ℕ → Result Unit ℕ → List ℕ
text_numbers shift (Ok tt) = 0 ∷ 0 ∷ []
text_numbers shift (Err p) = 11 ∷ (p + shift) ∷ []

pub text-told : (shift : ℕ) (v : Result Unit ℕ) → checked_numbers (check_utf8 shift v) ≡ text_numbers shift v
text-told shift (Ok tt) = refl
text-told shift (Err p) = refl

-- `run::payload_check`. 01: "its check answers 20"
pub payload-told : (s : List ℕ) (shift : ℕ) (t : Token) (r : Result Unit Refusal) → r ≡ payload_check s shift t
    → checked_numbers r ≡ cond (is_payload s shift t.payload_start t.payload_end) (0 ∷ 0 ∷ []) (20 ∷ 0 ∷ [])
unfolding payload_check
payload-told s shift t r e = rw (e, numbers_test checked_numbers)

-- `escapes::expansion_check`. 01: "empty for a range outside, where its check answers 20"
pub expansion_told : (s d : List ℕ) (p : Part) (r : Result Unit Refusal) → r ≡ part_check s d p
    → checked_numbers r ≡ cond (inside (length (side p.held s d)) p.start p.end) (0 ∷ 0 ∷ []) (20 ∷ 0 ∷ [])
unfolding range_check
expansion_told s d p r e = rw (e, numbers_test checked_numbers)

-- ---- kinds. `record::kind_of`. 01: "Kinds number 0 to 53"
pub kind_told : (n : ℕ) (r : Option Kind) → r ≡ kind_of n → known_numbers r ≡ cond (ltb n 54) (n ∷ []) []
unfolding kind_of
kind_told n r e = ap known_numbers e ∙ go (ltb n 54) refl
  where
    go : (b : Bool) → ltb n 54 ≡ b → known_numbers (kind_of n) ≡ cond b (n ∷ []) []
    go true q =
        let l = ltb-true n 54 q in
        let k = number_again n (omega arith) in
        rw q (ap (λ (j : ℕ). j ∷ []) (rw q at k))
    go false q = rw q

pub kind_tells : (r d : Option Kind) → Tells known_numbers r d
kind_tells r d = tells known_numbers known_same r d

-- ---- readings. `record::reading_of`. 02, E5: 0 is the old one, 1 the kept one, no other number is one
pub reading_told : (n : ℕ) (r : Option Reading) → r ≡ reading_of n → chosen_numbers r ≡ cond (ltb n 2) (n ∷ []) []
unfolding reading_of
reading_told zero r e = rw e
reading_told (suc zero) r e = rw e
reading_told (suc (suc n)) r e =
    rw e (simp (ne_eqb (suc (suc n)) 0 (λ z. omega arith), ne_eqb (suc (suc n)) 1 (λ z. omega arith), le-ltb (suc (suc n)) 2 (omega arith)))

pub reading_tells : (r d : Option Reading) → Tells chosen_numbers r d
reading_tells r d = tells chosen_numbers chosen_same r d

-- ---- an expansion. `escapes::apply_string_escapes`,
-- written out: 11 to 13 by the checks; without a backslash all of the text; else what the expansion refuses, 14 at `idx0` where the buffer is too short,
-- or the buffer's part from the place on
abbrev pub fit_numbers : ℕ → List ℕ → ℕ → Expansion → List ℕ
fit_numbers idx0 d place (gives l) = cond (ltb (length d) (place + length l)) (14 ∷ idx0 ∷ 0 ∷ 0 ∷ 0 ∷ []) (0 ∷ 0 ∷ 1 ∷ place ∷ (place + length l) ∷ [])
fit_numbers idx0 d place (refused r) = refusal_numbers r ++ (0 ∷ 0 ∷ 0 ∷ [])

abbrev pub pass_numbers : Result Unit Refusal → List ℕ → List ℕ
pass_numbers (Ok tt) ns = ns
pass_numbers (Err r) ns = refusal_numbers r ++ (0 ∷ 0 ∷ 0 ∷ [])

-- ---- line and column, and back. `place::line_column` and `place::place_at`,
-- written out: 12, then 11 at the first ill-formed byte, then the values; 13 never comes, since there is no shift
abbrev pub readable_numbers : Result Unit ℕ → List ℕ → List ℕ → List ℕ
readable_numbers (Ok tt) ns none = 0 ∷ 0 ∷ ns
readable_numbers (Err p) ns none = 11 ∷ p ∷ none

module _ (s : List ℕ) where
  pub reported-told : (p : ℕ) (r : Result Place Refusal) → r ≡ reported s p
      → reported_numbers r
      ≡ cond (ltb text_limit (length s)) (12 ∷ 0 ∷ 0 ∷ 0 ∷ []) (readable_numbers (verdict s) ((line_column s p).line ∷ (line_column s p).column ∷ []) (0 ∷ 0 ∷ []))
  unfolding answered reported
  reported-told p r e =
      ap reported_numbers e ∙ ap (λ (c : Result Unit Refusal). reported_numbers (answered c (Ok (line_column s p)) Err)) (refusals s) ∙ go (ltb text_limit (length s)) (verdict s)
    where
      go : (b : Bool) (v : Result Unit ℕ) → reported_numbers (answered (cond b (Err (refusal TooLong 0)) (well_formed v)) (Ok (line_column s p)) Err)
          ≡ cond b (12 ∷ 0 ∷ 0 ∷ 0 ∷ []) (readable_numbers v ((line_column s p).line ∷ (line_column s p).column ∷ []) (0 ∷ 0 ∷ []))
      go true v = refl
      go false (Ok tt) = refl
      go false (Err q) = refl

  pub located-told : (line column : ℕ) (r : Result ℕ Refusal) → r ≡ located s line column
      → located_numbers r ≡ cond (ltb text_limit (length s)) (12 ∷ 0 ∷ 0 ∷ []) (readable_numbers (verdict s) (place_at s line column ∷ []) (0 ∷ []))
  unfolding answered located
  located-told line column r e =
      ap located_numbers e ∙ ap (λ (c : Result Unit Refusal). located_numbers (answered c (Ok (place_at s line column)) Err)) (refusals s) ∙ go (ltb text_limit (length s)) (verdict s)
    where
      go : (b : Bool) (v : Result Unit ℕ) → located_numbers (answered (cond b (Err (refusal TooLong 0)) (well_formed v)) (Ok (place_at s line column)) Err)
          ≡ cond b (12 ∷ 0 ∷ 0 ∷ []) (readable_numbers v (place_at s line column ∷ []) (0 ∷ []))
      go true v = refl
      go false (Ok tt) = refl
      go false (Err q) = refl

-- ---- the LTK file
-- `ltk::check`: "17 comes first, ... with fewer than 9 bytes 19 is next. Then 18, then 19 .., then 20", at byte 0, 9, 3, 9 and the record's start
unfoldable pub judged_numbers : ℕ → ℕ → List Entry → List ℕ
judged_numbers i before [] = 0 ∷ 0 ∷ i ∷ []
judged_numbers i before (e ∷ es) = cond (bad before e) (20 ∷ record_place i ∷ 0 ∷ []) (judged_numbers (i + 1) e.end es)

pub judged-told : (i before : ℕ) (es : List Entry) → answer_numbers (judged i before es) ≡ judged_numbers i before es
unfolding judged judged_numbers
judged-told i before [] = refl
judged-told i before (e ∷ es) = numbers_test answer_numbers (bad before e) _ _ ∙ ap (cond (bad before e) (20 ∷ record_place i ∷ 0 ∷ [])) (judged-told (i + 1) e.end es)

-- the reader: "last, 14 if the list is short"; the writer: "12 for a count of 2^32 or more, 20 .. by the same tests, 14 for a short buffer"
abbrev pub short_numbers : Bool → ℕ → List ℕ → List ℕ
short_numbers short n ns = cond (eqb (get_or ns 0 0) 0) (cond short (14 ∷ 0 ∷ 0 ∷ []) (0 ∷ 0 ∷ n ∷ [])) ns

refused_told : (r : Refusal) (short : Bool) (n : ℕ) → answer_numbers (Err r) ≡ short_numbers short n (answer_numbers (Err r))
refused_told r short n = rw (ne_eqb (code_number r.code) 0 (code-some r.code))

room-told : (room : ℕ) (a : Result ℕ Refusal) → answer_numbers (room_for room a) ≡ short_numbers (ltb room (get_or (answer_numbers a) 2 0)) (get_or (answer_numbers a) 2 0) (answer_numbers a)
room-told room (Ok n) = numbers_test answer_numbers (ltb room n) _ _
room-told room (Err r) = refused_told r (ltb room 0) 0

pub read-answer-told : (file : List ℕ) (room : ℕ) (r : Result ℕ Refusal) → r ≡ read_answer file room
    → answer_numbers r ≡ short_numbers (ltb room (get_or (answer_numbers (file_check file)) 2 0)) (get_or (answer_numbers (file_check file)) 2 0) (answer_numbers (file_check file))
unfolding read_answer
read-answer-told file room r e = ap answer_numbers e ∙ room-told room (file_check file)

pub bytes-told : (room : ℕ) (a : Result ℕ Refusal)
    → answer_numbers (bytes_for room a) ≡ short_numbers (ltb room (record_place (get_or (answer_numbers a) 2 0))) (record_place (get_or (answer_numbers a) 2 0)) (answer_numbers a)
bytes-told room (Ok n) = numbers_test answer_numbers (ltb room (record_place n)) _ _
bytes-told room (Err r) = refused_told r (ltb room (record_place 0)) (record_place 0)

-- `ltk::record_at`: the record's kind, start and end, its payload places equal to its start. 02, E4: "a record read from LTK says "not known""
abbrev pub file_numbers : Entry → List ℕ
file_numbers e = numbers_in e ++ (told_numbers None ++ told_numbers None)

entry-told : (e : Entry) (b : Bool) → ltb 53 e.kind ≡ b → cond b [] (found_numbers (Some (token_in e))) ≡ cond b [] (file_numbers e)
entry-told e true q = refl
entry-told e false q =
    let l = ltb-false 53 e.kind q in
    ap (λ (k : ℕ). k ∷ e.start ∷ e.end ∷ e.start ∷ e.start ∷ (told_numbers None ++ told_numbers None)) (number_again e.kind (omega arith))

pub record_told : (file : List ℕ) (i : ℕ) (r : Option Token) → r ≡ record_at file i
    → found_numbers r
    ≡ cond (ltb i (count_in file)) (cond (ltb (length file) (record_place (i + 1))) [] (cond (ltb 53 (entry_at file i).kind) [] (file_numbers (entry_at file i)))) []
unfolding record_at
record_told file i r e = simp (e, numbers_test found_numbers, entry-told (entry_at file i) (ltb 53 (entry_at file i).kind) refl)

pub record_tells : (r d : Option Token) → Tells found_numbers r d
record_tells r d = tells found_numbers found-same r d
