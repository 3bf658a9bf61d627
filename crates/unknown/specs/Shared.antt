-- What the old definition and the new one share answers neither of the finer codes.
use Rattle.std.specs.Prelude.{ℕ, false, true, List, ◌≡◌, refl}
use Rattle.record.specs.Numbers.{code_number}
use Rattle.record.specs.Rust.{is_finer}
use Rattle.record.specs.declared.Code.{Code}
use Rattle.record.specs.declared.Kind.{Kind}
use Rattle.record.specs.declared.Reading.{Reading}
use Rattle.record.specs.declared.Reading.TheVariants.{Old}
use Rattle.record.specs.declared.Token.{Token}
use Rattle.reading.specs.Attribute.{hash}
use Rattle.reading.specs.Gaps.{gap}
use Rattle.reading.specs.Quotes.{escape, lifetimeish, string_literal}
use Rattle.reading.specs.Regex.{r_word}
use Rattle.reading.specs.Symbols.{arrow_code}
use Rattle.reading.specs.Words.{identifierish}
use Rattle.ledger.proofs.Answered.{arrow_code_says, escape_says, gap_loses, hash_says, identifier_says, lifetimeish_says, r_says, string_says}
use Rattle.ledger.specs.Answered.{Loses, Says, has_payload, is_string}

abbrev pub Any : Token → Type 0
Any t = Unit {0}

abbrev pub Coarse : Code → Type 0
Coarse c = is_finer (code_number c) ≡ false

-- the readers that know no reading
module _ (o : ℕ) (cs : List ℕ) (at : ℕ) where
  pub escape-coarse : Says Any Coarse (escape o cs at)
  escape-coarse = escape_says Old Any Coarse (λ kind o p h. tt) (λ kind o p from to h s. tt) refl refl refl refl refl refl o cs at

  pub lifetime_coarse : Says Any Coarse (lifetimeish o cs at)
  lifetime_coarse = lifetimeish_says Old Any Coarse (λ kind o p h. tt) (λ kind o p from to h s. tt) refl refl refl refl refl refl o cs at

  pub string_coarse : Says Any Coarse (string_literal o cs at)
  string_coarse = string_says Old Any Coarse (λ kind o p h. tt) (λ kind o p from to h s. tt) refl refl refl refl refl refl (λ o p from to. tt) o cs at

-- the others
module _ (rd : Reading) (o : ℕ) (cs : List ℕ) (at : ℕ) where
  pub code-coarse : (kind : Kind) → has_payload kind ≡ true → is_string kind ≡ false → Says Any Coarse (arrow_code rd kind o cs at)
  code-coarse kind k s = arrow_code_says rd Any Coarse (λ kind o p h. tt) (λ kind o p from to h s. tt) refl refl refl refl refl refl o cs at kind k s

  pub hash-coarse : Says Any Coarse (hash rd o cs at)
  hash-coarse = hash_says rd Any Coarse (λ kind o p h. tt) (λ kind o p from to h s. tt) refl refl refl refl refl refl o cs at

  pub word_coarse : (front : List ℕ) → Says Any Coarse (identifierish rd front o cs at)
  word_coarse front = identifier_says rd Any Coarse (λ kind o p h. tt) (λ kind o p from to h s. tt) refl refl refl refl refl refl o front cs at

  pub r_coarse : (front : List ℕ) → Says Any Coarse (r_word rd front o cs at)
  r_coarse front = r_says rd Any Coarse (λ kind o p h. tt) (λ kind o p from to h s. tt) refl refl refl refl refl refl o front cs at

pub gap-coarse : (cs : List ℕ) (at : ℕ) → Loses Coarse (gap cs at)
gap-coarse cs at = gap_loses Old Any Coarse (λ kind o p h. tt) (λ kind o p from to h s. tt) refl refl refl refl refl refl cs at

pub ruleset shared = (code-coarse, escape-coarse, lifetime_coarse, string_coarse, word_coarse, r_coarse)
