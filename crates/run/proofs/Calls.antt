-- A turn of the loop that stores tokens, by what its call x answers.
use Prim.Native.Nat.{ℕ, ◌+◌, ◌<◌, ◌≤◌}
use mathlib.Core.Bool.{true, false}
use mathlib.Core.List.{List}
use mathlib.Core.Path.{◌≡◌}
use lib.Dec.{ltb}
use borrow.Author.Tests.{lt-ltb, le-ltb}
use Rattle.record.specs.Records.{refusal}
use Rattle.record.specs.declared.Code.TheVariants.{NoRoom, WorkLimit}
use Rattle.record.specs.declared.Reading.{Reading}
use Rattle.record.specs.declared.Refusal.{Refusal}
use Rattle.record.specs.declared.Token.{Token}
use Rattle.scan.specs.Until.{left}
use Rattle.reading.specs.Next.{next}
use Rattle.reading.specs.Run.{shift_token, step_with}
use Rattle.reading.specs.declared.Call.{Call}
use Rattle.reading.specs.declared.Outcome.TheVariants.{Ended, Refused}
use Rattle.reading.specs.declared.What.{What}
use Rattle.reading.specs.declared.What.TheVariants.{End, Error, Got}
use Rattle.run.specs.Pending.{ended, goes, halted, pend_of, running}
use Rattle.run.specs.Room.{Ready, RoomyIn}
use Rattle.run.specs.Steps.{call_roomy}

module _ (rd : Reading) (s : List ℕ) (shift limit at count : ℕ) (x : Call) (e : x ≡ next rd (left s at) at) where
  -- every place of the answer takes the shift
  pub call_fits : Ready s shift (running rd at count) → (w : What) → x.what ≡ w → RoomyIn shift w
  call_fits r w h = (rw (← e, h) at (call_roomy s shift limit (running rd at count) r)).is

  module _ (room n : ℕ) where
    pub pend_over : ltb limit (count + x.advances) ≡ true
        → halted n (Refused (refusal WorkLimit (at + shift))) count (running rd at count) ≡ pend_of s shift limit room n (running rd at count)
    unfolding pend_of step_with
    pend_over q = rw (← e) (rw q)

    module _ (q : ltb limit (count + x.advances) ≡ false) where
      pub pend_got : (t y : Token) → x.what ≡ Got t → y ≡ shift_token shift t → n < room
          → goes n y (running rd x.at (count + x.advances)) ≡ pend_of s shift limit room n (running rd at count)
      unfolding pend_of step_with
      pend_got t y w v h = rw (← e) (rw (q, w, v, lt-ltb n room h))

      pub pend_full : (t : Token) → x.what ≡ Got t → room ≤ n
          → halted n (Refused (refusal NoRoom (t.start + shift))) count (running rd at count) ≡ pend_of s shift limit room n (running rd at count)
      unfolding pend_of step_with
      pend_full t w h = rw (← e) (rw (q, w, le-ltb n room h))

      pub pend_error : (z : Refusal) → x.what ≡ Error z
          → halted n (Refused (refusal z.code (z.place + shift))) (count + x.advances) (record { at = x.at; count = count + x.advances; done = Refused (refusal z.code (z.place + shift)); reading = rd })
          ≡ pend_of s shift limit room n (running rd at count)
      unfolding pend_of step_with
      pend_error z w = rw (← e) (rw (q, w))

      pub pend_end : x.what ≡ End → ended n (record { at = x.at; count = count + x.advances; done = Ended; reading = rd }) x.gap_depth ≡ pend_of s shift limit room n (running rd at count)
      unfolding pend_of step_with
      pend_end w = rw (← e) (rw (q, w))
