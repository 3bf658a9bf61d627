-- THE SINGLE CALL, IN CASES. What `run::next` answers and leaves, from any tokenizer, in the order in which it looks.
use Rattle.std.specs.Prelude.{ℕ, ◌+◌, Bool, false, true, List, ◌≡◌, refl, ltb, Result, Ok, Err}
use Rattle.std.proofs.Common.{arith, ◌∙◌, ap, sym}
use Rattle.utf8.specs.Utf8.{boundary}
use Rattle.record.specs.Checks.{checks}
use Rattle.record.specs.Records.{refusal}
use Rattle.record.specs.declared.Code.TheVariants.{BadRecord, WorkLimit}
use Rattle.record.specs.declared.Refusal.{Refusal}
use Rattle.record.specs.declared.Token.{Token}
use Rattle.scan.specs.Until.{left}
use Rattle.reading.specs.Next.{next}
use Rattle.reading.specs.Run.{done_by, shift_token, shift_what, step_with}
use Rattle.reading.specs.declared.Call.{Call}
use Rattle.reading.specs.declared.Outcome.{Outcome}
use Rattle.reading.specs.declared.Outcome.TheVariants.{Ended, Refused, Running}
use Rattle.reading.specs.declared.Stepped.{Stepped}
use Rattle.reading.specs.declared.Tokenizer.{Tokenizer}
use Rattle.reading.specs.declared.What.{What}
use Rattle.reading.specs.declared.What.TheVariants.{End, Error, Got}
use Rattle.run.specs.Checked.{next_token, next_token_with}
use Rattle.callers.specs.PublicCalls.{Nexts}

-- a text that passed the checks, and a tokenizer with its cursor on a boundary, done as is said
pub record Stands (s : List ℕ) (shift : ℕ) (done : Outcome) (t : Tokenizer) : Type 0 where
  pub passed : checks s shift ≡ Ok tt
  pub on : boundary s t.at ≡ true
  pub is : t.done ≡ done

-- the call of the reading from where the tokenizer stands
abbrev pub call_of : List ℕ → Tokenizer → Call
call_of s t = next t.reading (left s t.at) t.at

-- an answer that leaves the tokenizer as it is
abbrev pub error_at : Tokenizer → Refusal → Stepped
error_at t z = record { what = Error z; next = t; gap_depth = 0 }

-- an answer that was read
abbrev pub read_by : ℕ → Tokenizer → Call → Stepped
read_by shift t x = record {
  what = shift_what shift x.what;
  next = record { at = x.at; count = t.count + x.advances; done = done_by (shift_what shift x.what); reading = t.reading };
  gap_depth = x.gap_depth;
}

pub data Single (s : List ℕ) (shift limit : ℕ) (t : Tokenizer) (x : Stepped) : Type 0 where
  -- 12, 13, 11: "A public single call repeats the checks,"
  refused : (z : Refusal) → checks s shift ≡ Err z → x ≡ error_at t z → Single s shift limit t x
  -- "then answers 20, nothing changed, for a cursor off its text's boundaries"
  off : checks s shift ≡ (Ok tt) → boundary s t.at ≡ false → x ≡ error_at t (refusal BadRecord 0) → Single s shift limit t x
  -- "Once a run has answered an error or the end, further calls repeat it"
  error_kept : (z : Refusal) → Stands s shift (Refused z) t → x ≡ error_at t z → Single s shift limit t x
  end_kept : Stands s shift Ended t → x ≡ record { what = End; next = t; gap_depth = 0 } → Single s shift limit t x
  -- 15: "when finishing the next call would take total advances above the work limit"
  limited : Stands s shift Running t → ltb limit (t.count + (call_of s t).advances) ≡ true → x ≡ error_at t (refusal WorkLimit (t.at + shift)) → Single s shift limit t x
  -- else the text is read on
  read : Stands s shift Running t → ltb limit (t.count + (call_of s t).advances) ≡ false → x ≡ read_by shift t (call_of s t) → Single s shift limit t x

pub single : (s : List ℕ) (shift limit : ℕ) (t : Tokenizer) → Single s shift limit t (next_token s shift limit t)
unfolding next_token_with step_with
single s shift limit t = go (checks s shift) (boundary s t.at) t.done (ltb limit (t.count + (call_of s t).advances)) refl refl refl refl
  where
    go : (c : Result Unit Refusal) (b : Bool) (d : Outcome) (l : Bool) → checks s shift ≡ c → boundary s t.at ≡ b → t.done ≡ d → ltb limit (t.count + (call_of s t).advances) ≡ l
        → Single s shift limit t (next_token s shift limit t)
    go (Err z) b d l p q r e = refused z p (rw p)
    go (Ok tt) false d l p q r e = off p q (rw (p, q))
    go (Ok tt) true (Refused z) l p q r e = error_kept z (record { passed = p; on = q; is = r }) (rw (p, q, r))
    go (Ok tt) true Ended l p q r e = end_kept (record { passed = p; on = q; is = r }) (rw (p, q, r))
    go (Ok tt) true Running true p q r e = limited (record { passed = p; on = q; is = r }) e (rw (p, q, r, e))
    go (Ok tt) true Running false p q r e = read (record { passed = p; on = q; is = r }) e (rw (p, q, r, e))

-- a token that a single call answers is that of the call of the reading, with the shift
pub record Delivered (s : List ℕ) (shift : ℕ) (t : Tokenizer) (y : Token) : Type 0 where
  pub token : Token
  pub got : (call_of s t).what ≡ Got token
  pub shifted : y ≡ shift_token shift token

shifted_back : (s : List ℕ) (shift : ℕ) (t : Tokenizer) (y : Token) (w : What) → (call_of s t).what ≡ w → shift_what shift w ≡ Got y → Delivered s shift t y
shifted_back s shift t y (Got x) g e = record { token = x; got = g; shifted = cc }
shifted_back s shift t y (Error z) g e = let q : ◌≡◌ {A = ℕ} 0 1 = cc in absurd (omega arith)
shifted_back s shift t y End g e = let q : ◌≡◌ {A = ℕ} 0 1 = cc in absurd (omega arith)

pub delivered : (s : List ℕ) (shift limit : ℕ) (t : Tokenizer) (y : Token) (u : Tokenizer) → Nexts s shift limit t (Got y) u → Delivered s shift t y
delivered s shift limit t y u c = go (single s shift limit t)
  where
    error : (z : Refusal) → next_token s shift limit t ≡ error_at t z → Delivered s shift t y
    error z e = let f : Error z ≡ Got y = sym (c.0 ∙ ap (λ (x : Stepped). x.what) e) in let w : ◌≡◌ {A = ℕ} 0 1 = cc in absurd (omega arith)

    go : Single s shift limit t (next_token s shift limit t) → Delivered s shift t y
    go (refused z k e) = error z e
    go (off k n e) = error _ e
    go (error_kept z k e) = error z e
    go (end_kept k e) = let f : End ≡ Got y = sym (c.0 ∙ ap (λ (x : Stepped). x.what) e) in let w : ◌≡◌ {A = ℕ} 0 1 = cc in absurd (omega arith)
    go (limited k l e) = error _ e
    go (read k l e) = shifted_back s shift t y (call_of s t).what refl (sym (c.0 ∙ ap (λ (x : Stepped). x.what) e))
