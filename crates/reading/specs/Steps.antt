-- What the code will cite: the definitions over the characters from a place, by the code's own sight of the first one.
use Rattle.std.specs.Prelude.{◌*◌, ◌+◌, ◌-◌, ◌<◌, ◌≤◌, suc, zero, ℕ, Bool, ◌&&◌, ◌||◌, cond, not, ◌≡◌, leb, drop, get_or, Ok, Err}
use Rattle.std.proofs.Common.{add-one, ◌∙◌, ap, drop_of_length-le, drop-cons}
use native.Mathlib.Omega.{arith}
use Rattle.std.proofs.Math.Bool.{false, true}
use mathlib.Core.List.{List, [], ◌∷◌}
use Rattle.std.proofs.Math.Path.{refl, sym}
use Rattle.std.proofs.Math.Dec.{eqb}
use Rattle.std.proofs.Math.ListN.{length}
use borrow.Author.Tests.{eq-eqb, eqb-false, eqb-true, le-leb, lt-leb, ne_eqb}
use Rattle.utf8.specs.Laws.{Ended, Seen}
use Rattle.utf8.specs.Utf8.{width_of}
use Rattle.unicode_xid.specs.Identifier.{is_identifier_start}
use Rattle.unicode_xid.specs.Whitespace.{is_whitespace}
use Rattle.record.specs.declared.Code.TheVariants.{ExpectedStringLiteral, UnterminatedStringLiteral}
use Rattle.record.specs.declared.Refusal.{Refusal}
use Rattle.record.specs.declared.Reading.{Reading}
use Rattle.scan.specs.Depth.{depth_from}
use Rattle.scan.specs.Far.{Far, far_left}
use Rattle.scan.specs.Passes.{seek-at, seek-none}
use Rattle.scan.specs.Readers.{reg_done, reg_step}
use Rattle.scan.specs.Seek.{block_comment, line_skip, seek, skip_more}
use Rattle.scan.specs.Steps.{reg_less}
use Rattle.scan.specs.Until.{left, until}
use Rattle.scan.specs.Walk.{turn_of, walk_from}
use Rattle.scan.specs.declared.Sought.TheVariants.{Hashes, Word}
use Rattle.scan.specs.declared.Turn.TheVariants.{Fail, Pass, Stop}
use Rattle.reading.specs.Answers.{fail, more, refuse, told}
use Rattle.reading.specs.Attribute.{attempt, attribute_token, hash}
use Rattle.reading.specs.CallLaw.{attempt_tried}
use Rattle.reading.specs.Gaps.{comment_turn, gap, gap_depth_of, gap_last, gap_turn}
use Rattle.reading.specs.Next.{next, starts, token, token_or_end}
use Rattle.reading.specs.Passes.{gap_good, gap_sound}
use Rattle.reading.specs.Regex.{hashed, regex_literal, regex_token}
use Rattle.reading.specs.Symbols.{single, singles, stray}
use Rattle.reading.specs.Words.{identifierish, spells, word_token}
use Rattle.reading.specs.declared.Call.{Call}
use Rattle.scan.specs.Shapes.{same_ok}
use Rattle.reading.specs.declared.What.TheVariants.{End}

-- a word's letters, one by one
module _ {s : List ℕ} {at : ℕ} where
  pub spells-on : (k : ℕ) (ks : List ℕ) (p : ℕ) {c w : ℕ} → Seen s at c w → spells (k ∷ ks) (left s at) at p ≡ eqb c k && spells ks (left s (at + w)) (at + w) p
  unfolding spells
  spells-on k ks p h = rw (h.next, h.width)

  pub spells-end : (k : ℕ) (ks : List ℕ) (p : ℕ) → Ended s at → spells (k ∷ ks) (left s at) at p ≡ false
  unfolding spells
  spells-end k ks p h = rw h.none

-- a regex that is closed has its hashes in the text
done_hashes : (h st : ℕ) → reg_done h st ≡ true → h + 1 ≡ st
done_hashes h st e = go (eqb st 0) refl
  where
    go : (t : Bool) → eqb st 0 ≡ t → h + 1 ≡ st
    go true q = let u : false ≡ true = rw q at e in let z : ◌≡◌ {A = ℕ} 0 1 = cc in absurd (omega arith)
    go false q = let u : eqb (st - 1) h ≡ true = rw q at e in omega (arith, eqb-true (st - 1) h u, eqb-false st 0 q)

pub regex_hashes : (h : ℕ) (cs : List ℕ) (st at n p m : ℕ) → st ≤ n → until reg_step (reg_done h) st cs at n ≡ Ok (p, m) → h ≤ m
unfolding until
regex_hashes h [] st at n p m l e = let z : ◌≡◌ {A = ℕ} 0 1 = cc in absurd (omega arith)
regex_hashes h (c ∷ cs) st at n p m l e =
    go (reg_done h (reg_step st c)) refl (regex_hashes h cs (reg_step st c) (at + width_of c) (n + 1) p m (omega (arith, reg_less st c)))
  where
    go : (d : Bool) → reg_done h (reg_step st c) ≡ d → (until reg_step (reg_done h) (reg_step st c) cs (at + width_of c) (n + 1) ≡ Ok (p, m) → h ≤ m) → h ≤ m
    go true q f =
        let u : Ok (at, n) ≡ Ok (p, m) = rw (q, until) at e in
        let r : n ≡ m = (same_ok _ _ _ _ u).1 in
        omega (arith, reg_less st c, done_hashes h (reg_step st c) q)
    go false q f = f (rw (q, until) at e)

-- a call stays in the text, and takes no more than twice the characters that are left
pub record Within (s : List ℕ) (at : ℕ) (x : Call) : Type 0 where
  pub room : x.at ≤ length s
  pub most : x.advances ≤ 2 * length (left s at)

-- the letters of a word, as a loop over them compares them
module _ {s : List ℕ} {at : ℕ} (word : List ℕ) (i p : ℕ) where
  pub spells-same : {c w : ℕ} → Seen s at c w → i < length word → c ≡ get_or word i 0
      → spells (drop i word) (left s at) at p ≡ spells (drop (i + 1) word) (left s (at + w)) (at + w) p
  spells-same {c} {w} h l e = rw (drop-cons word i 0 l, add-one i) (spells-on (get_or word i 0) (drop (suc i) word) p h ∙ rw (eq-eqb c (get_or word i 0) e))

  pub spells-other : {c w : ℕ} → Seen s at c w → i < length word → (c ≡ get_or word i 0 → ⊥) → spells (drop i word) (left s at) at p ≡ false
  spells-other {c} {w} h l e = rw (drop-cons word i 0 l) (spells-on (get_or word i 0) (drop (suc i) word) p h ∙ rw (ne_eqb c (get_or word i 0) e))

  pub spells-short : Ended s at → i < length word → spells (drop i word) (left s at) at p ≡ false
  spells-short h l = rw (drop-cons word i 0 l) (spells-end (get_or word i 0) (drop (suc i) word) p h)

pub spells_all : (word : List ℕ) (i p : ℕ) (cs : List ℕ) (at : ℕ) → length word ≤ i → spells (drop i word) cs at p ≡ eqb at p
unfolding spells
spells_all word i p cs at l = rw (drop_of_length-le word l)

-- after a slash, by the code's own sight of what follows it
module _ (o : ℕ) {s : List ℕ} {at : ℕ} where
  pub comment_on : {k w : ℕ} → Seen s at k w
      → comment_turn o (left s at) at
      ≡ cond (eqb k 47) (turn_of 0 (line_skip (left s at) at)) (cond (eqb k 42) (turn_of 0 (skip_more 1 (block_comment o (left s (at + w)) (at + w)))) Stop)
  unfolding comment_turn
  comment_on h = rw (h.next, h.width)

  pub comment_end_lem : Ended s at → comment_turn o (left s at) at ≡ Stop
  unfolding comment_turn
  comment_end_lem h = rw h.none

-- a turn of the gap
module _ (b c : ℕ) (cs : List ℕ) (at next p m : ℕ) where
  pub gap_pass : (b' : ℕ) → gap_turn b c cs at next ≡ Pass p m b' → Far cs next m p
  gap_pass b' e = (rw e at (gap_good b c cs at next)).is

  pub gap-fail : (r : Refusal) → gap_turn b c cs at next ≡ Fail r p m → Far cs next m p
  gap-fail r e = (rw e at (gap_good b c cs at next)).is

-- the gap's walk has no state
pub gap-state : (k : ℕ) (cs : List ℕ) (b b' at n : ℕ) → walk_from gap_turn gap_last k cs b at n ≡ walk_from gap_turn gap_last k cs b' at n
unfolding walk_from gap_turn
gap-state k [] b b' at n = refl
gap-state zero (c ∷ cs) b b' at n = refl
gap-state (suc k) (c ∷ cs) b b' at n = gap-state k cs b b' (at + width_of c) (n + 1)

pub gap_level : (k : ℕ) (cs : List ℕ) (b b' at d : ℕ) → depth_from gap_turn k cs b at d ≡ depth_from gap_turn k cs b' at d
unfolding depth_from gap_turn
gap_level k [] b b' at d = refl
gap_level zero (c ∷ cs) b b' at d = refl
gap_level (suc k) (c ∷ cs) b b' at d = gap_level k cs b b' (at + width_of c) d

-- a run of spaces below 128, for speed alone: the bytes that it stops at
abbrev pub gap_stop : ℕ → Bool
gap_stop x = leb 128 x || not (is_whitespace x)

pub gap_far : (x : ℕ) → 128 ≤ x → gap_stop x ≡ true
gap_far x h = rw (le-leb 128 x h)

pub gap_near : (x : ℕ) (d : Bool) → x < 128 → not (is_whitespace x) ≡ d → gap_stop x ≡ d
gap_near x d h e = rw (lt-leb 128 x h) e

pub not-false : (d : Bool) → not d ≡ false → d ≡ true
not-false true e = refl
not-false false e = sym e

pub space_none : (x : ℕ) → is_whitespace x ≡ true → x ≡ 47 → ⊥
space_none x w z = let u : false ≡ true = sym (ap is_whitespace z) ∙ w in let v : ◌≡◌ {A = ℕ} 0 1 = cc in omega arith

pub space_turn : (x : ℕ) (cs : List ℕ) (at next : ℕ) → is_whitespace x ≡ true → gap_turn 0 x cs at next ≡ Pass next 0 0
unfolding gap_turn
space_turn x cs at next w =
    rw (ne_eqb x 47 (space_none x w)) (rw w)

-- in every reading
module _ (rd : Reading) where
  module _ {s : List ℕ} {at : ℕ} where
    pub token-on : {c w : ℕ} → Seen s at c w → token_or_end rd (left s at) at ≡ token rd c (left s (at + w)) at (at + w)
    unfolding token_or_end
    token-on h = rw (h.next, h.width)

    pub token_end : Ended s at → token_or_end rd (left s at) at ≡ record { what = End; at = at; advances = 0; gap_depth = 0; code_depth = 0 }
    unfolding token_or_end
    token_end h = rw h.none

  -- a reader, and then another at the place that it came to
  module _ (s : List ℕ) (at p m : ℕ) where
    pub next-gap : gap (left s at) at ≡ Ok (p, m) → next rd (left s at) at ≡ told (gap_depth_of (left s at) at) (more m (token_or_end rd (left s p) p))
    unfolding next
    next-gap e =
        let f : Far (left s at) at m p = (rw e at (gap_sound (left s at) at)).is in
        rw (e, far_left s at m p f)

    pub next_lost : (r : Refusal) → gap (left s at) at ≡ Err (r, p, m) → next rd (left s at) at ≡ fail r p m
    unfolding next
    next_lost r e = rw e

    module _ (whole : List ℕ) (o : ℕ) where
      pub word_at : seek Word (left s at) at ≡ Ok (p, m) → identifierish rd whole o (left s at) at ≡ more m (word_token rd whole o (left s p) p)
      unfolding identifierish
      word_at e = rw (e, far_left s at m p (seek-at (left s at) at p m Word e))

      pub word_none : seek Word (left s at) at ≡ Err (p, m) → identifierish rd whole o (left s at) at ≡ more m (word_token rd whole o (left s p) p)
      unfolding identifierish
      word_none e = rw (e, far_left s at m p (seek-none (left s at) at p m Word e))

      pub regex_at : seek Hashes (left s at) at ≡ Ok (p, m) → regex_literal rd whole o (left s at) at ≡ more m (hashed rd whole o m (left s p) p)
      unfolding regex_literal
      regex_at e = rw (e, far_left s at m p (seek-at (left s at) at p m Hashes e))

      pub regex_never : seek Hashes (left s at) at ≡ Err (p, m) → regex_literal rd whole o (left s at) at ≡ refuse UnterminatedStringLiteral o p m
      unfolding regex_literal
      regex_never e = rw e

    pub hash-closed : (o : ℕ) → attempt (left s at) at ≡ Ok (p, m) → hash rd o (left s at) at ≡ more m (attribute_token rd o (left s p) p)
    unfolding hash
    hash-closed o e =
        let f : Far (left s at) at m p = (rw e at (attempt_tried (left s at) at)).is in
        rw (e, far_left s at m p f)

  -- after r and hashes, by the code's own sight of what follows them
  module _ (whole : List ℕ) (o h : ℕ) {s : List ℕ} {at : ℕ} where
    pub hashed-on : {k w : ℕ} → Seen s at k w
        → hashed rd whole o h (left s at) at
        ≡ cond (eqb k 34) (more 1 (regex_token o h (left s (at + w)) (at + w)))
        (cond (is_identifier_start k) (more 1 (identifierish rd whole o (left s (at + w)) (at + w))) (refuse ExpectedStringLiteral at at 0))
    unfolding hashed
    hashed-on z = rw (z.next, z.width)

    pub hashed-end : Ended s at → hashed rd whole o h (left s at) at ≡ refuse UnterminatedStringLiteral o at 0
    unfolding hashed
    hashed-end z = rw z.none

  -- the dispatch: at a character that the rules name it computes; any other starts a longer symbol, a word or nothing
  pub token-starts : (c : ℕ) (cs : List ℕ) (o next : ℕ) → (c ≡ 35 → ⊥) → (c ≡ 38 → ⊥) → (c ≡ 44 → ⊥) → (c ≡ 62 → ⊥) → (c ≡ 123 → ⊥) → (c ≡ 91 → ⊥) → (c ≡ 40 → ⊥) → (c ≡ 60 → ⊥) → (c ≡ 43 → ⊥) → (c ≡ 63 → ⊥) → (c ≡ 125 → ⊥) → (c ≡ 93 → ⊥) → (c ≡ 41 → ⊥) → (c ≡ 59 → ⊥) → (c ≡ 42 → ⊥)
      → token rd c cs o next ≡ starts rd c cs o next
  unfolding token single singles
  token-starts c cs o next h0 h1 h2 h3 h4 h5 h6 h7 h8 h9 h10 h11 h12 h13 h14 =
      simp (ne_eqb c 35 h0, ne_eqb c 38 h1, ne_eqb c 44 h2, ne_eqb c 62 h3, ne_eqb c 123 h4, ne_eqb c 91 h5, ne_eqb c 40 h6, ne_eqb c 60 h7, ne_eqb c 43 h8, ne_eqb c 63 h9, ne_eqb c 125 h10, ne_eqb c 93 h11, ne_eqb c 41 h12, ne_eqb c 59 h13, ne_eqb c 42 h14)

  pub starts_other : (c : ℕ) (cs : List ℕ) (o next : ℕ) → (c ≡ 33 → ⊥) → (c ≡ 58 → ⊥) → (c ≡ 46 → ⊥) → (c ≡ 61 → ⊥) → (c ≡ 64 → ⊥) → (c ≡ 126 → ⊥) → (c ≡ 96 → ⊥) → (c ≡ 39 → ⊥) → (c ≡ 34 → ⊥) → (c ≡ 47 → ⊥) → (c ≡ 45 → ⊥) → (c ≡ 114 → ⊥)
      → starts rd c cs o next ≡ cond (is_identifier_start c) (more 1 (identifierish rd (c ∷ cs) o cs next)) (stray o)
  unfolding starts
  starts_other c cs o next h0 h1 h2 h3 h4 h5 h6 h7 h8 h9 h10 h11 =
      simp (ne_eqb c 33 h0, ne_eqb c 58 h1, ne_eqb c 46 h2, ne_eqb c 61 h3, ne_eqb c 64 h4, ne_eqb c 126 h5, ne_eqb c 96 h6, ne_eqb c 39 h7, ne_eqb c 34 h8, ne_eqb c 47 h9, ne_eqb c 45 h10, ne_eqb c 114 h11)
