-- What a step asks of its text and its shift, so that every place fits.
use Rattle.std.specs.Prelude.{ℕ, ◌+◌, ◌<◌, ◌≤◌, List, length}
use Rattle.reading.specs.declared.Tokenizer.{Tokenizer}
use Rattle.reading.specs.declared.What.{What}
use Rattle.reading.specs.declared.What.TheVariants.{End, Error, Got}
use Rattle.run.specs.declared.Pending.{Pending}

abbrev pub RoomyIn : ℕ → What → Type 0
RoomyIn shift (Got t) =
    (t.start + shift < 0x10000000000000000) × (t.end + shift < 0x10000000000000000) × (t.payload_start + shift < 0x10000000000000000) × (t.payload_end + shift < 0x10000000000000000)
RoomyIn shift (Error r) = r.place + shift < 0x10000000000000000
RoomyIn shift End = Unit {0}

pub record Roomy (shift : ℕ) (w : What) : Type 0 where
  pub is : RoomyIn shift w

-- a text with its shift, and a cursor in it
pub record Ready (s : List ℕ) (shift : ℕ) (t : Tokenizer) : Type 0 where
  pub fits : shift + length s < 0x10000000000000000
  pub within : t.at ≤ length s

-- a token that is stored, and the tokenizer after it
pub record Onward (s : List ℕ) (shift room : ℕ) (p : Pending) : Type 0 where
  pub ready : Ready s shift p.ran.state
  pub space : p.ran.stored < room
