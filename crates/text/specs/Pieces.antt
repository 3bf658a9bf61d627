-- What a line is made of, as the code makes it: phrases, numbers, names.
use Rattle.std.specs.Prelude.{ℕ, suc, ◌+◌, ◌-◌, ◌*◌, ◌≤◌, ◌<◌, List, [], ◌∷◌, ◌++◌, ◌≡◌, drop, get_or, length, take}
use Rattle.std.proofs.Common.{arith, append_assoc, append-nil, sym, ap, ◌∙◌, length-append, take_all, take-suc}
use Rattle.std.proofs.Math.Path.{refl}
use Rattle.std.proofs.Math.ListN.{get_or-eq_default}
use Rattle.std.proofs.Math.Seq.{length-sets, take-append_seam}
use Rattle.std.proofs.lemmas.List.Edits.{sets, sets-eq}
use Rattle.record.specs.Stores.{sets_append}
use Rattle.text.specs.Bytes.{bytes, join}
use Rattle.text.specs.DigitLaws.{at-most_twenty}
use Rattle.text.specs.Digits.{digits}
use Rattle.text.specs.NameLaws.{Named, code-short, ends_from, fits-at, kind_short, named, named-at, right, short, short-at}
use Rattle.text.specs.Names.{code_name, kind_name, same}
use Rattle.text.specs.declared.Piece.{Piece}
use Rattle.text.specs.declared.Piece.TheVariants.{Code, Kind, Number, Phrase, Spaced}

unfoldable pub phrases : List (List ℕ)
phrases =
    bytes " " ∷ bytes "\n" ∷ bytes "end advances " ∷ bytes "error " ∷ bytes " at " ∷ bytes " advances " ∷ bytes "end records " ∷ bytes " payload " ∷ bytes " bytes" ∷ bytes ":" ∷ bytes ": " ∷ bytes " (limit " ∷ bytes ")\n" ∷ bytes " depth " ∷ []

unfoldable pub phrase : ℕ → List ℕ
phrase i = get_or phrases i []

unfoldable pub spaced : ℕ → List ℕ
spaced n = bytes " " ++ digits n

abbrev pub piece_bytes : Piece → List ℕ
piece_bytes (Phrase i) = phrase i
piece_bytes (Number n) = digits n
piece_bytes (Spaced n) = spaced n
piece_bytes (Kind n) = kind_name n
piece_bytes (Code n) = code_name n

unfoldable pub all_bytes : List Piece → List ℕ
all_bytes [] = []
all_bytes (p ∷ ps) = piece_bytes p ++ all_bytes ps

pub phrase-short : (n : ℕ) → length (phrase n) ≤ 29
unfolding bytes phrase phrases short
phrase-short n = short-at 29 phrases n refl

spaced-short : (n : ℕ) → length (spaced n) ≤ 29
unfolding bytes spaced
spaced-short n = let h = at-most_twenty n in omega (arith, h)

-- a space and then the digits
pub spaced-on : (d : List ℕ) (at n to : ℕ) (e : List ℕ) (r : ℕ) (x : List ℕ) → to ≡ at + length (phrase 0) → e ≡ sets d at (phrase 0)
    → r ≡ to + length (digits n) → x ≡ sets e to (digits n) → (r ≡ at + length (spaced n)) × (x ≡ sets d at (spaced n))
unfolding bytes phrase phrases spaced
spaced-on d at n to e r x h k f g = (omega (arith, h, f), g ∙ rw (k, h) (sym (sets_append (bytes " ") (digits n) d at)))

-- no piece is longer than this
pub piece_short : (p : Piece) → length (piece_bytes p) ≤ 29
piece_short (Phrase i) = phrase-short i
piece_short (Number n) = let h = at-most_twenty n in omega (arith, h)
piece_short (Spaced n) = spaced-short n
piece_short (Kind n) = kind_short n
piece_short (Code n) = code-short n

-- ---- the phrases one after another, and where each ends
abbrev phrase_text : List ℕ
phrase_text = join phrases

abbrev phrase_ends : List ℕ
phrase_ends = ends_from 0 phrases

module _ (n at m : ℕ) where
  pub phrase-fits : n < 14 → at + 29 ≤ m → Named phrase_text phrase_ends n (n + 1) × (at + (get_or phrase_ends (n + 1) 0 - get_or phrase_ends n 0) ≤ m)
  unfolding bytes ends_from join phrases right same short
  phrase-fits h = fits-at phrase_text phrase_ends phrases n at m refl refl h

pub phrase-named : (n : ℕ) → n < 14 → named phrase_text phrase_ends n (n + 1) ≡ phrase n
unfolding bytes ends_from join phrase phrases right same
phrase-named n h = (named-at phrase_text phrase_ends phrases n refl h).1

pub phrase-none : (n : ℕ) → 14 ≤ n → phrase n ≡ []
unfolding bytes phrase phrases
phrase-none n h = get_or-eq_default phrases [] h

-- ---- a line is composed, piece by piece: i of them stand in the buffer
all_append : (ps qs : List Piece) → all_bytes (ps ++ qs) ≡ all_bytes ps ++ all_bytes qs
unfolding all_bytes
all_append [] qs = refl
all_append (p ∷ ps) qs = ap (λ (l : List ℕ). piece_bytes p ++ l) (all_append ps qs) ∙ sym (append_assoc (piece_bytes p) (all_bytes ps) (all_bytes qs))

pub record Composed (d : List ℕ) (ps : List Piece) (buffer : List ℕ) (n i : ℕ) : Type 0 where
  pub held : buffer ≡ sets d 0 (all_bytes (take i ps))
  pub count : n ≡ length (all_bytes (take i ps))
  pub wide : length buffer ≡ 256
  pub few : n ≤ 29 * i
  pub begun : i ≤ 8

pub composed_first : (d : List ℕ) (ps : List Piece) → length d ≡ 256 → Composed d ps d 0 0
unfolding all_bytes
composed_first d ps h = record { held = refl; count = refl; wide = h; few = omega arith; begun = omega arith }

pub composed_on : (d : List ℕ) (ps : List Piece) (b : List ℕ) (n i : ℕ) (b' : List ℕ) (n' : ℕ) (z : Piece) → Composed d ps b n i → i < length ps → length ps ≤ 8
    → n' ≡ n + length (piece_bytes (get_or ps i z)) → b' ≡ sets b n (piece_bytes (get_or ps i z)) → Composed d ps b' n' (i + 1)
unfolding all_bytes
composed_on d ps b n i b' n' z w h l e f =
    let q : i + 1 ≡ suc i = omega arith in
    let p = get_or ps i z in
    let a : all_bytes (take (i + 1) ps) ≡ all_bytes (take i ps) ++ piece_bytes p =
    ap (λ (k : ℕ). all_bytes (take k ps)) q ∙ ap all_bytes (take-suc ps i z h) ∙ all_append (take i ps) (p ∷ []) ∙ ap (λ (x : List ℕ). all_bytes (take i ps) ++ x) (append-nil (piece_bytes p)) in
    let s = piece_short p in
    let m = length-append (all_bytes (take i ps)) (piece_bytes p) in
    let v = sets_append (all_bytes (take i ps)) (piece_bytes p) d 0 in
    let u : n ≡ 0 + length (all_bytes (take i ps)) = omega (arith, w.count) in
    record {
      held = f ∙ ap (λ (x : List ℕ). sets x n (piece_bytes p)) w.held ∙ ap (λ (k : ℕ). sets (sets d 0 (all_bytes (take i ps))) k (piece_bytes p)) u ∙ sym v ∙ ap (sets d 0) (sym a);
      count = e ∙ ap (λ (k : ℕ). k + length (piece_bytes p)) w.count ∙ sym m ∙ ap length (sym a);
      wide = ap length f ∙ length-sets b n (piece_bytes p) ∙ w.wide;
      few = omega (arith, e, s, w.few);
      begun = omega arith;
    }

pub composed_all : (d : List ℕ) (ps : List Piece) (b : List ℕ) (n i : ℕ) → Composed d ps b n i → length d ≡ 256 → length ps ≤ 8 → length ps ≤ i → take n b ≡ all_bytes ps
composed_all d ps b n i w k l h =
    let t = take_all i ps h in
    let c : n ≡ length (all_bytes ps) = w.count ∙ ap (λ (x : List Piece). length (all_bytes x)) t in
    let f : b ≡ sets d 0 (all_bytes ps) = w.held ∙ ap (λ (x : List Piece). sets d 0 (all_bytes x)) t in
    let e = sets-eq (all_bytes ps) d 0 (omega (arith, c, k, w.few, w.begun)) in
    ap (take n) (f ∙ e) ∙ ap (λ (m : ℕ). take m (all_bytes ps ++ drop (0 + length (all_bytes ps)) d)) c ∙ take-append_seam (all_bytes ps) (drop (0 + length (all_bytes ps)) d)
