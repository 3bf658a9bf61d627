-- What the calls of a run pass, by the definition of a call and by nothing else: no counter is asked. That a run counts so is in proofs/Spent.antt.
use Prim.Native.Nat.{◌+◌, suc, zero, ℕ}
use Rattle.std.specs.Prelude.{cond, List, ◌≡◌}
use Rattle.std.proofs.Math.ListN.{length}
use Rattle.record.specs.declared.Reading.{Reading}
use Rattle.scan.specs.Until.{left}
use Rattle.reading.specs.Next.{next}
use Rattle.reading.specs.Run.{Run}
use Rattle.reading.specs.declared.Outcome.{Outcome}
use Rattle.reading.specs.declared.Outcome.TheVariants.{Ended, Refused, Running}
use Rattle.reading.specs.declared.Tokenizer.{Tokenizer}
use Rattle.ledger.specs.Codes.{is_error}

-- the advances of n calls in a reading, one after the other, from the place at of the text s
unfoldable pub spent : Reading → List ℕ → ℕ → ℕ → ℕ
spent rd s zero at = 0
spent rd s (suc n) at = (next rd (left s at) at).advances + spent rd s n (next rd (left s at) at).at

-- 01: "14 and 15 leave the tokenizer as before that call, with the count through the last delivered answer; any other answer's count includes
-- the final call. 11 to 13 report count 0." The final call counts where it answered the end or an error of the reading.
abbrev pub final_call : Outcome → ℕ
final_call Running = 0
final_call Ended = 1
final_call (Refused r) = cond (is_error r.code) 1 0

-- the count of a run from the tokenizer t
abbrev pub Spends : List ℕ → Tokenizer → Run → Type 0
Spends s t r = r.state.count ≡ t.count + spent t.reading s (length r.tokens + final_call r.how) t.at
