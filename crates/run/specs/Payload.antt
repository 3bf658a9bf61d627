-- A record's payload as a part of the text.
use Rattle.std.specs.Prelude.{ℕ, ◌-◌, Bool, false, cond, List, [], ltb, drop, take, Result, Ok, Err}
use Rattle.utf8.specs.Utf8.{boundary}
use Rattle.record.specs.Records.{refusal}
use Rattle.record.specs.declared.Code.TheVariants.{BadRecord}
use Rattle.record.specs.declared.Token.{Token}
use Rattle.record.specs.declared.Refusal.{Refusal}

-- 01: "If, less the shift, it isn't a range of it on boundaries"
unfoldable pub is_payload : List ℕ → ℕ → ℕ → ℕ → Bool
is_payload s shift from to =
    cond (ltb from shift) false (cond (ltb to from) false (cond (boundary s (from - shift)) (boundary s (to - shift)) false))

-- "its check answers 20 and the part is empty"
unfoldable pub payload_check : List ℕ → ℕ → Token → Result Unit Refusal
payload_check s shift t = cond (is_payload s shift t.payload_start t.payload_end) (Ok tt) (Err (refusal BadRecord 0))

unfoldable pub payload : List ℕ → ℕ → Token → List ℕ
payload s shift t =
    cond (is_payload s shift t.payload_start t.payload_end) (take (t.payload_end - t.payload_start) (drop (t.payload_start - shift) s)) []
