-- 01: "kinds without a payload have both equal to start". Of every token that a call answers and that a run stores, from any tokenizer.
use Rattle.std.specs.Prelude.{ℕ, zero, suc, ◌+◌, ◌<◌, false, true, List, [], ◌∷◌, ◌≡◌, refl, get_or, length}
use Rattle.std.proofs.Common.{arith, sym, ap, ◌∙◌}
use Rattle.record.specs.Codes.{among}
use Rattle.record.specs.Records.{token_of}
use Rattle.record.specs.declared.Code.{Code}
use Rattle.record.specs.declared.Kind.{Kind}
use Rattle.record.specs.declared.Kind.TheVariants.{StringLiteral}
use Rattle.record.specs.declared.Reading.{Reading}
use Rattle.record.specs.declared.Token.{Token}
use Rattle.scan.specs.Until.{left}
use Rattle.reading.specs.Next.{next}
use Rattle.reading.specs.Run.{shift_token}
use Rattle.reading.specs.declared.Tokenizer.{Tokenizer}
use Rattle.reading.specs.declared.What.TheVariants.{Got}
use Rattle.run.specs.Checked.{whole_run}
use Rattle.run.specs.declared.Ran.{Ran}
use Rattle.ledger.proofs.Answered.{next_says}
use Rattle.ledger.specs.Answered.{SaysIn, has_payload}
use Rattle.ledger.specs.Books.{held}
use Rattle.ledger.specs.Order.{Called, called, found}
use Rattle.callers.specs.PublicCalls.{Nexts, RunsFrom}
use Rattle.callers.specs.Single.{delivered}

-- a token whose kind has no payload has both payload places at its start; `has_payload` (ledger/specs/Answered) names the eleven kinds that have one
pub record Bare (t : Token) : Type 0 where
  pub from : has_payload t.kind ≡ false → t.payload_start ≡ t.start
  pub to : has_payload t.kind ≡ false → t.payload_end ≡ t.start

abbrev pub AllBare : List Token → Type 0
AllBare [] = Unit {0}
AllBare (t ∷ ts) = Bare t × AllBare ts

no : {A : Type 0} → true ≡ false → A
no e = let w : ◌≡◌ {A = ℕ} 0 1 = cc in absurd (omega arith)

-- of a kind with a payload nothing is said
has : (kind : Kind) (o p from to : ℕ) → has_payload kind ≡ true → Bare (token_of kind o p from to)
has kind o p from to k = record { from = λ h. no (sym k ∙ h); to = λ h. no (sym k ∙ h) }

string_has : has_payload StringLiteral ≡ true
unfolding among
string_has = refl

-- ---- of a call of the reading
call-bare : (rd : Reading) (cs : List ℕ) (at : ℕ) (t : Token) → (next rd cs at).what ≡ Got t → Bare t
call-bare rd cs at t e =
    let h = next_says rd Bare (λ (c : Code). Unit {0}) (λ kind o p h. record { from = λ _. refl; to = λ _. refl })
    (λ kind o p from to k s. has kind o p from to k) tt tt tt tt tt tt tt tt (λ o p from to. has StringLiteral o p from to string_has) (λ g d t b. record { from = b.from; to = b.to }) cs at in
    let w : SaysIn Bare (λ (c : Code). Unit {0}) (Got t) = rw e at h.is in
    w

shift_bare : (shift : ℕ) (t : Token) → Bare t → Bare (shift_token shift t)
shift_bare shift t b = record { from = λ h. ap (λ (n : ℕ). n + shift) (b.from h); to = λ h. ap (λ (n : ℕ). n + shift) (b.to h) }

all_bare : (rd : Reading) (s : List ℕ) (shift at : ℕ) (ts : List Token) → Called rd s shift at ts → AllBare ts
all_bare rd s shift at [] c = tt
all_bare rd s shift at (x ∷ ts) c =
    let d = c.0 in
    (rw d.shifted (shift_bare shift d.token (call-bare rd (left s at) at d.token d.got)), all_bare rd s shift (next rd (left s at) at).at ts c.1)

-- ---- THE THEOREM, of the records that a run holds, and of the one at an index
pub bare : (s : List ℕ) (shift limit : ℕ) (t : Tokenizer) (before : List Token) (r : Ran) (after : List Token) → RunsFrom s shift limit t before r after → AllBare (held r after)
bare s shift limit t before r after c = rw (found s shift limit before after t r c) (all_bare t.reading s shift t.at (whole_run s shift limit (length before) t).tokens (called s shift limit (length before) t))

pub bare-at : (ts : List Token) (i : ℕ) (d : Token) → AllBare ts → i < length ts → Bare (get_or ts i d)
bare-at [] i d h l = absurd (omega arith)
bare-at (t ∷ ts) zero d h l = h.0
bare-at (t ∷ ts) (suc i) d h l = bare-at ts i d h.1 (omega arith)

-- and of the token that a single call answers
pub bare-next : (s : List ℕ) (shift limit : ℕ) (t : Tokenizer) (y : Token) (u : Tokenizer) → Nexts s shift limit t (Got y) u → Bare y
bare-next s shift limit t y u c =
    let d = delivered s shift limit t y u c in
    rw d.shifted (shift_bare shift d.token (call-bare t.reading (left s t.at) t.at d.token d.got))
