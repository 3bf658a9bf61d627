-- The laws of the calls: after n of them nothing differed.
use Prim.Native.Nat.{◌+◌, ◌-◌, ◌/◌, ◌<◌, ◌≤◌, suc, ℕ}
use native.Mathlib.Omega.{arith}
use Rattle.std.specs.Prelude.{Bool, cond, false, true, List, ◌≡◌, refl, length, Ok, Err, Result}
use Rattle.std.proofs.Common.{◌∙◌, ap}
use Rattle.std.proofs.Math.Path.{sym}
use Rattle.std.proofs.lemmas.List.{length-replicate}
use Rattle.record.specs.Numbers.{code_number}
use Rattle.record.specs.Records.{refusal}
use Rattle.record.specs.Rust.{rust_number}
use Rattle.record.specs.declared.Code.TheVariants.{BadRecord}
use Rattle.record.specs.declared.Refusal.{Refusal}
use Rattle.record.specs.declared.Token.{Token}
use Rattle.reading.specs.Answers.{start_state}
use Rattle.reading.specs.declared.Tokenizer.{Tokenizer}
use Rattle.reading.specs.declared.What.TheVariants.{End, Error, Got}
use Rattle.run.specs.Checked.{next_token}
use Rattle.run.specs.Numbers.{group_size}
use Rattle.run.specs.Payload.{is_payload, payload_check}
use Rattle.lent.specs.Copies.{highest_limit}
use Rattle.lent.specs.declared.Called.{Called as Answer}
use Rattle.recorded.specs.declared.Difference.{Difference}
use Rattle.recorded.specs.declared.Difference.TheVariants.{Length, Same}
use Rattle.asked.specs.Answers.{onward}
use Rattle.asked.specs.Texts.{blank, call_differs, called_differs, calls_differ, end_differs, most_tokens, room_for, token_differs}

-- the list of numbers has room for the most tokens
pub blank-length : length blank ≡ room_for
unfolding blank
blank-length = length-replicate {A = ℕ} room_for 9999999999999999999

pub room-tokens : (l : List ℕ) → l ≡ blank → length l / group_size ≡ most_tokens
room-tokens l e = let n : length l ≡ room_for = ap length e ∙ blank-length in rw n

-- what the payload's check tells
passes : (b : Bool) (r : Refusal) → cond {A = Result Unit Refusal} b (Ok tt) (Err r) ≡ Ok tt → b ≡ true
passes true r e = refl
passes false r e = cc

stops : (b : Bool) (r q : Refusal) → cond {A = Result Unit Refusal} b (Ok tt) (Err r) ≡ Err q → b ≡ false
stops true r q e = cc
stops false r q e = refl

module _ (s : List ℕ) (shift : ℕ) (t : Token) where
  pub passed : payload_check s shift t ≡ (Ok tt) → is_payload s shift t.payload_start t.payload_end ≡ true
  unfolding payload_check
  passed e = passes (is_payload s shift t.payload_start t.payload_end) (refusal BadRecord 0) e

  pub not_passed : (r : Refusal) → payload_check s shift t ≡ Err r → is_payload s shift t.payload_start t.payload_end ≡ false
  unfolding payload_check
  not_passed r e = stops (is_payload s shift t.payload_start t.payload_end) (refusal BadRecord 0) r e

module _ (s : List ℕ) (shift : ℕ) (recorded : List ℕ) where
  pub record Called (n : ℕ) (t : Tokenizer) : Type 0 where
    pub few : n ≤ most_tokens
    pub on : called_differs s shift recorded ≡ calls_differ s shift recorded (most_tokens - n) n t

  pub called-start : (t : Tokenizer) → t ≡ start_state → Called 0 t
  called-start t e = record { few = omega arith; on = rw e }

  -- one call more, which answers r
  module _ (n : ℕ) (t : Tokenizer) (r : Answer) (c : Called n t) (l : n < most_tokens)
      (e : (r.what ≡ (next_token s shift highest_limit t).what) × (r.next ≡ (next_token s shift highest_limit t).next)) where
    turn : called_differs s shift recorded ≡ call_differs s shift recorded (calls_differ s shift recorded (most_tokens - (n + 1))) n r.next r.what
    unfolding calls_differ
    turn = let f : most_tokens - n ≡ suc (most_tokens - (n + 1)) = omega arith in rw (e.0, e.1) (rw f at c.on)

    module _ (x : Token) (d : Difference) (w : r.what ≡ Got x) (p : d ≡ token_differs s shift recorded n x) where
      unfoldable after : Difference
      after = calls_differ s shift recorded (most_tokens - (n + 1)) (n + 1) r.next

      onto : called_differs s shift recorded ≡ onward d after
      unfolding after
      onto = rw p (rw w at turn)

      pub called_got : d ≡ Same → Called (n + 1) r.next
      unfolding after
      called_got q = record { few = omega arith; on = rw q at onto }

      pub called-differs : ((f : Difference) → d ≡ onward d f) → d ≡ called_differs s shift recorded
      called-differs q = q after ∙ sym onto

    pub called_error : (f : Refusal) (d : Difference) → r.what ≡ Error f → d ≡ end_differs s shift recorded n (rust_number (code_number f.code)) f.place r.next
        → d ≡ called_differs s shift recorded
    called_error f d w p = p ∙ sym (rw w at turn)

    pub called-end : (d : Difference) → r.what ≡ End → d ≡ end_differs s shift recorded n 0 0 r.next → d ≡ called_differs s shift recorded
    called-end d w p = p ∙ sym (rw w at turn)

  pub called_all : (n : ℕ) (t : Tokenizer) → Called n t → most_tokens ≤ n → Length (length recorded) room_for ≡ called_differs s shift recorded
  unfolding calls_differ
  called_all n t c l = let f : most_tokens - n ≡ 0 = omega arith in sym (rw f at c.on)
