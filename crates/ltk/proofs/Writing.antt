-- The pure side of the writers: what they answer, and what they store.
use Rattle.std.proofs.Common.{ℕ, ◌+◌, ◌≤◌, ◌<◌, ◌≡◌, Bool, true, false, List, map, length, get_or, ltb, refl, sym, ap, ◌∙◌, arith, lt-ltb, le-ltb, ltb-false, Result, Ok, Err}
use Rattle.std.proofs.lemmas.List.{length-map}
use Rattle.std.proofs.lemmas.List.Edits.{sets}
use Rattle.std.proofs.Math.ListN.{get_or-map}
use Rattle.std.proofs.Math.Seq.{ext_get_or}
use Rattle.record.specs.declared.Token.{Token}
use Rattle.record.specs.Records.{over, refusal, token_of}
use Rattle.record.specs.declared.Kind.TheVariants.{Enum}
use Rattle.record.specs.Stores.{sets_append, sets_over}
use Rattle.record.specs.declared.Code.TheVariants.{TooLong}
use Rattle.ltk.specs.declared.Entry.{Entry}
use Rattle.ltk.specs.Layout.{header_size, count_limit, record_place}
use Rattle.ltk.specs.Ltk.{entry_of, header_bytes, records_bytes, image, judge, listed, delivered, bytes_for, bytes_by, write_answer, written_bytes}
use Rattle.ltk.specs.Laws.{length-listed, at_first, length_header, length-image}
use Rattle.record.specs.declared.Refusal.{Refusal}

-- ---- what fits, where n records passed
module _ (n room : ℕ) where
  pub few_passed : (a : Result ℕ Refusal) → n < count_limit → ((m : ℕ) → a ≡ Ok m → m ≡ n) → delivered a < count_limit
  few_passed (Ok m) h all = omega (arith, all m refl)
  few_passed (Err r) h all = omega arith

  room_of : (m k : ℕ) (t : Bool) → ltb room (record_place m) ≡ t → Ok k ≡ bytes_for room (Ok m) → record_place m ≤ room
  room_of m k true t e = cc (t, e)
  room_of m k false t e = ltb-false _ _ t

  pub image-fits : (a : Result ℕ Refusal) (k : ℕ) → ((m : ℕ) → a ≡ Ok m → m ≡ n) → Ok k ≡ bytes_for room a → record_place n ≤ room
  image-fits (Ok m) k all e = omega (arith, all m refl, room_of m k (ltb room (record_place m)) refl e)
  image-fits (Err r) k all e = cc

-- ---- n records, the one at index i being f i
module _ (f : ℕ → Entry) (n : ℕ) (o : List ℕ) where
  abbrev es : List Entry
  es = listed f 0 n

  len : length es ≡ n
  len = length-listed f 0 n

  pub too_long : count_limit ≤ n → (Err (refusal TooLong 0) ≡ write_answer es (length o)) × (o ≡ over (written_bytes es (length o)) o)
  unfolding write_answer written_bytes
  too_long h =
      let t : ltb (length es) count_limit ≡ false = rw len (le-ltb n count_limit h) in
      (simp t, simp t)

  module _ (h : n < count_limit) (a : Result ℕ Refusal) (a-is : a ≡ judge es) (b : Result ℕ Refusal) (b-is : b ≡ bytes_for (length o) a) where
    pub answered : b ≡ write_answer es (length o)
    unfolding write_answer
    answered =
        let t : ltb (length es) count_limit ≡ true = rw len (lt-ltb n count_limit h) in
        rw t (b-is ∙ ap (λ (x : Result ℕ Refusal). bytes_for (length o) x) a-is)

    bytes-are : written_bytes es (length o) ≡ bytes_by b (image es)
    unfolding written_bytes
    bytes-are = ap (λ (x : Result ℕ Refusal). bytes_by x (image es)) (sym answered)

    pub none : (r : _) → b ≡ Err r → o ≡ over (written_bytes es (length o)) o
    none r e = rw (bytes-are, e)

    pub all : (k : ℕ) → b ≡ Ok k → record_place n ≤ length o → sets (sets o 0 (header_bytes n)) header_size (records_bytes es) ≡ over (written_bytes es (length o)) o
    unfolding image
    all k e fits =
        let l = length-image es in
        let z : 0 + length (header_bytes (length es)) ≡ header_size = omega (arith, length_header (length es)) in
        rw (bytes-are, e)
        (ap (λ (m : ℕ). sets (sets o 0 (header_bytes m)) header_size (records_bytes es)) (sym len)
        ∙ ap (λ (i : ℕ). sets (sets o 0 (header_bytes (length es))) i (records_bytes es)) (sym z)
        ∙ sym (sets_append (header_bytes (length es)) (records_bytes es) o 0)
        ∙ sets_over (image es) o (omega (arith, l, len)))

-- ---- the records of a list of tokens
abbrev no_token : Token
no_token = token_of Enum 0 0 0 0

abbrev pub token_entry : List Token → ℕ → Entry
token_entry ts i = entry_of (get_or ts i no_token)

pub tokens-listed : (ts : List Token) → listed (token_entry ts) 0 (length ts) ≡ map entry_of ts
tokens-listed ts =
    let l = length-listed (token_entry ts) 0 (length ts) in
    ext_get_or (entry_of no_token) (listed (token_entry ts) 0 (length ts)) (map entry_of ts) (l ∙ sym (length-map ts entry_of))
    (λ i h. sym (at_first (token_entry ts) (length ts) i (entry_of no_token) (rw l at h)) ∙ sym (get_or-map entry_of ts i no_token))
