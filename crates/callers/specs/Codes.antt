-- WHICH CODES COME OUT. Of the reading only 2, 5, 6, 8, 9, 10, 22 and 23: so 1, 3, 4 and 7, 16 to 21 and those from 24 on never come out of a call or a run.
use Rattle.std.specs.Prelude.{ℕ, List, [], ◌∷◌, Err}
use Rattle.std.proofs.Common.{arith, ◌∙◌}
use Rattle.std.proofs.Math.Bool.{false, true}
use Rattle.std.proofs.Math.Path.{◌≡◌, refl, sym}
use Rattle.record.specs.Codes.{Apart, OneOf, among, each, none_of, one_of, refused_for}
use Rattle.record.specs.Numbers.{code_number}
use Rattle.record.specs.Records.{refusal}
use Rattle.record.specs.declared.Code.{Code}
use Rattle.record.specs.declared.Code.TheVariants.{BadRecord}
use Rattle.record.specs.declared.Reading.{Reading}
use Rattle.record.specs.declared.Refusal.{Refusal}
use Rattle.record.specs.declared.Token.{Token}
use Rattle.reading.specs.Next.{next}
use Rattle.reading.specs.Run.{done_by, shift_what}
use Rattle.reading.specs.declared.Outcome.{Outcome}
use Rattle.reading.specs.declared.Outcome.TheVariants.{Ended, Refused, Running}
use Rattle.reading.specs.declared.What.{What}
use Rattle.reading.specs.declared.What.TheVariants.{End, Error, Got}
use Rattle.run.specs.Payload.{is_payload, payload_check}
use Rattle.ledger.proofs.Answered.{next_says}
use Rattle.ledger.specs.Answered.{SaysIn}

-- the codes of the reading
abbrev pub reading_codes : List ℕ
reading_codes = 2 ∷ 5 ∷ 6 ∷ 8 ∷ 9 ∷ 10 ∷ 22 ∷ 23 ∷ []

-- the codes of a single call, and of a run
abbrev pub call_codes : List ℕ
call_codes = 2 ∷ 5 ∷ 6 ∷ 8 ∷ 9 ∷ 10 ∷ 11 ∷ 12 ∷ 13 ∷ 15 ∷ 22 ∷ 23 ∷ []

abbrev pub run_codes : List ℕ
run_codes = 2 ∷ 5 ∷ 6 ∷ 8 ∷ 9 ∷ 10 ∷ 11 ∷ 12 ∷ 13 ∷ 14 ∷ 15 ∷ 22 ∷ 23 ∷ []

-- ---- how a tokenizer that a caller has can be done: it runs, or keeps the end or a code of the reading
abbrev pub DoneBy : Outcome → Type 0
DoneBy Running = Unit {0}
DoneBy Ended = Unit {0}
DoneBy (Refused r) = OneOf reading_codes r.code

-- of a call of the reading
pub reads : (rd : Reading) (cs : List ℕ) (at : ℕ) → SaysIn (λ (t : Token). Unit {0}) (OneOf reading_codes) (next rd cs at).what
unfolding among
reads rd cs at = (next_says rd (λ t. Unit {0}) (OneOf reading_codes) (λ kind o p h. tt) (λ kind o p from to h s. tt) refl refl refl refl refl refl refl refl (λ o p from to. tt) (λ g d t h. h) cs at).is

pub done_by_lem : (shift : ℕ) (w : What) → SaysIn (λ (t : Token). Unit {0}) (OneOf reading_codes) w → DoneBy (done_by (shift_what shift w))
done_by_lem shift (Got t) h = tt
done_by_lem shift (Error r) h = h
done_by_lem shift End h = tt

-- so where no code of the reading is among these, none of them is read
pub not_reading : (ns : List ℕ) → Apart reading_codes ns → (c : Code) → OneOf reading_codes c → OneOf ns c → ⊥
not_reading ns a c h e = let z : false ≡ true = sym (none_of reading_codes ns a c h) ∙ e in let q : ◌≡◌ {A = ℕ} 0 1 = cc in omega arith

-- nor does a call of the reading answer one
pub said-not : (ns : List ℕ) → Apart reading_codes ns → (shift : ℕ) (w : What) (z : Refusal) → SaysIn (λ (t : Token). Unit {0}) (OneOf reading_codes) w → shift_what shift w ≡ Error z → OneOf ns z.code → ⊥
said-not ns a shift (Got t) z h e o = let q : ◌≡◌ {A = ℕ} 0 1 = cc in omega arith
said-not ns a shift (Error r) z h e o = let q : z.code ≡ r.code = cc in not_reading ns a r.code h (rw q at o)
said-not ns a shift End z h e o = let q : ◌≡◌ {A = ℕ} 0 1 = cc in omega arith

-- ---- so a call answers one of these
abbrev pub Said : List ℕ → What → Type 0
Said ns w = SaysIn (λ (t : Token). Unit {0}) (OneOf ns) w

pub wider : (c : Code) → OneOf reading_codes c → OneOf call_codes c
unfolding among each
wider c h = one_of (λ n. among n call_codes) (code_number c) reading_codes refl h

pub shift_said : (shift : ℕ) (w : What) → Said reading_codes w → Said call_codes (shift_what shift w)
shift_said shift (Got t) h = tt
shift_said shift (Error r) h = wider r.code h
shift_said shift End h = tt

pub run-said : (u : What) (how : Outcome) (z : Refusal) → how ≡ done_by u → how ≡ Refused z → Said call_codes u → OneOf call_codes z.code
run-said (Got y) how z h e w = let q : ◌≡◌ {A = ℕ} 0 1 = cc in absurd (omega arith)
run-said (Error x) how z h e w = let q : x ≡ z = cc in rw q at w
run-said End how z h e w = let q : ◌≡◌ {A = ℕ} 0 1 = cc in absurd (omega arith)

-- ---- so 1 (02, E3: it became 22 and 23), 3, 4 and 7 never come out of a call or a run; nor 16 to 20, which are expansion's, the LTK file's and a cursor's
-- off a boundary; nor 21, the sheet's, nor 24 to 29
abbrev pub never_codes : List ℕ
never_codes = 1 ∷ 3 ∷ 4 ∷ 7 ∷ 16 ∷ 17 ∷ 18 ∷ 19 ∷ 20 ∷ 21 ∷ 24 ∷ 25 ∷ 26 ∷ 27 ∷ 28 ∷ 29 ∷ []

-- ---- the check of a payload refuses for 20 alone
pub payload-codes : (s : List ℕ) (shift : ℕ) (t : Token) (r : Refusal) → payload_check s shift t ≡ Err r → r.code ≡ BadRecord
unfolding payload_check
payload-codes s shift t r e = refused_for (is_payload s shift t.payload_start t.payload_end) (refusal BadRecord 0) r e
