-- Laws of the layout: numbers as bytes and back, records as bytes and back, and what passed tests tell.
use Prim.Native.Nat.{ℕ, zero, suc, ◌+◌, ◌*◌, ◌/◌, ◌%◌, ◌^◌, ◌≤◌, ◌<◌}
use Rattle.std.specs.Prelude.{◌≡◌, Bool, true, false, cond, not, ◌||◌, ◌&&◌, List, [], ◌∷◌, ◌++◌, ltb, leb, length, get_or, take, Result, Ok}
use Rattle.std.proofs.Math.Path.{refl, ap}
use Rattle.std.proofs.Common.{sym, ◌∙◌, append_assoc, length-append, ltb-false, leb-false}
use native.Mathlib.Omega.{arith}
use Rattle.std.proofs.Math.Numerals.{add-one}
use Rattle.std.proofs.Math.ListN.{drop}
use Rattle.std.proofs.Math.Seq.{drop-cons, take-add, drop-drop}
use Rattle.record.specs.Checks.{text_limit}
use Rattle.ltk.specs.declared.Entry.{Entry}
use Rattle.ltk.specs.Layout.{header_size, record_size, record_place, little, number_at}
use Rattle.ltk.specs.Ltk.{entry, record_bytes, header_bytes, flat, records_bytes, image, bad, bad_record, judged, judge, passing, entry_at, listed}
use Rattle.record.specs.declared.Refusal.{Refusal}

-- every number of a list is a byte
abbrev pub Bytes : List ℕ → Type 0
Bytes s = (i : ℕ) → get_or s i 0 < 256

-- ---- numbers
number_cons : (k a : ℕ) (s : List ℕ) (p : ℕ) → number_at k (a ∷ s) (suc p) ≡ number_at k s p
unfolding number_at
number_cons zero a s p = refl
number_cons (suc k) a s p =
    let e : suc p + 1 ≡ suc (p + 1) = omega arith in
    rw (e, number_cons k a s (p + 1))

pub number_on : (k : ℕ) (pre s : List ℕ) (p j : ℕ) → length pre ≡ p → number_at k (pre ++ s) (p + j) ≡ number_at k s j
number_on k [] s p j e =
    let f : p + j ≡ j = omega arith in
    rw f
number_on k (a ∷ pre) s p j e =
    let f : p + j ≡ suc (length pre + j) = omega arith in
    rw f (number_cons k a (pre ++ s) (length pre + j) ∙ number_on k pre s (length pre) j refl)

-- a number below 256 ^ k, from its k bytes
abbrev Fits : ℕ → ℕ → Type 0
Fits zero n = n ≡ 0
Fits (suc k) n = Fits k (n / 256)

pub number_little : (k n : ℕ) (s : List ℕ) → Fits k n → number_at k (little k n ++ s) 0 ≡ n
unfolding number_at little
number_little zero n s h = sym h
number_little (suc k) n s h = omega (arith, number_cons k (n % 256) (little k (n / 256) ++ s) 0 ∙ number_little k (n / 256) s h)

pub length-little : (k n : ℕ) → length (little k n) ≡ k
unfolding little
length-little zero n = refl
length-little (suc k) n = ap suc (length-little k (n / 256))

-- and back
module _ (s : List ℕ) (bytes : Bytes s) where
  low_byte : (b m : ℕ) → b < 256 → ((b + 256 * m) % 256 ≡ b) × ((b + 256 * m) / 256 ≡ m)
  low_byte b m h = (omega arith, omega arith)

  pub little_number : (k p : ℕ) → p + k ≤ length s → little k (number_at k s p) ≡ take k (drop p s)
  unfolding number_at little
  little_number zero p h = refl
  little_number (suc k) p h =
      let e = low_byte (get_or s p 0) (number_at k s (p + 1)) (bytes p) in
      rw (e.0, e.1, little_number k (p + 1) (omega arith), drop-cons s p 0 (omega arith), add-one p)

-- ---- lists by index
module _ (f : ℕ → Entry) where
  pub length-listed : (i n : ℕ) → length (listed f i n) ≡ n
  unfolding listed
  length-listed i zero = refl
  length-listed i (suc n) = ap suc (length-listed (i + 1) n)

  at_listed : (i n j : ℕ) (d : Entry) → j < n → get_or (listed f i n) j d ≡ f (i + j)
  unfolding listed
  at_listed i zero j d h = absurd (omega arith)
  at_listed i (suc n) zero d h =
      let e : i ≡ i + 0 = omega arith in
      ap f e
  at_listed i (suc n) (suc j) d h =
      let e : i + 1 + j ≡ i + suc j = omega arith in
      at_listed (i + 1) n j d (omega arith) ∙ ap f e

  pub at_first : (n j : ℕ) (d : Entry) → j < n → f j ≡ get_or (listed f 0 n) j d
  at_first n j d h =
      let e : 0 + j ≡ j = omega arith in
      sym (at_listed 0 n j d h ∙ ap f e)

-- ---- what passed tests tell
or-false : (a b : Bool) → a || b ≡ false → (a ≡ false) × (b ≡ false)
or-false true b e = (cc, cc)
or-false false b e = (refl, e)

abbrev pub Small : Entry → Type 0
Small e = (e.kind ≤ 53) × (e.start < e.end) × (e.end ≤ text_limit)

pub not-bad : (before : ℕ) (e : Entry) → bad before e ≡ false → Small e × (before ≤ e.start)
not-bad before e h =
    let a = or-false _ _ h in
    let b = or-false _ _ a.0 in
    let c = or-false _ _ b.0 in
    ((ltb-false _ _ c.0, leb-false _ _ c.1, ltb-false _ _ a.1), ltb-false _ _ b.1)

abbrev pub AllSmall : List Entry → Type 0
AllSmall [] = Unit {0}
AllSmall (e ∷ es) = Small e × AllSmall es

and-true : (t u : Bool) → not t && u ≡ true → (t ≡ false) × (u ≡ true)
and-true true u e = (cc, cc)
and-true false u e = (refl, e)

pub passing-small : (before : ℕ) (es : List Entry) → passing before es ≡ true → AllSmall es
unfolding passing
passing-small before [] h = tt
passing-small before (e ∷ es) h =
    let p = and-true (bad before e) (passing e.end es) h in
    ((not-bad before e p.0).0, passing-small e.end es p.1)

pub passing-judged : (i before : ℕ) (es : List Entry) → passing before es ≡ true → judged i before es ≡ Ok (i + length es)
unfolding passing judged
passing-judged i before [] h =
    let e : i ≡ i + 0 = omega arith in
    ap Ok e
passing-judged i before (e ∷ es) h =
    let p = and-true (bad before e) (passing e.end es) h in
    let f : i + 1 + length es ≡ i + suc (length es) = omega arith in
    rw p.0 (passing-judged (i + 1) e.end es p.1 ∙ ap Ok f)

done_by_lem : (t : Bool) (i n : ℕ) (x : Result ℕ Refusal) → cond t (bad_record i) x ≡ Ok n → (t ≡ false) × (x ≡ Ok n)
done_by_lem true i n x e = (cc, cc)
done_by_lem false i n x e = (refl, e)

pub judged_done : (i before : ℕ) (es : List Entry) (n : ℕ) → judged i before es ≡ Ok n → (passing before es ≡ true) × (n ≡ i + length es)
unfolding passing judged
judged_done i before [] n h =
    let e : ◌≡◌ {A = ℕ} i n = cc in
    (refl, omega arith)
judged_done i before (e ∷ es) n h =
    let p = done_by_lem (bad before e) i n (judged (i + 1) e.end es) h in
    let q = judged_done (i + 1) e.end es n p.1 in
    (rw p.0 q.0, omega arith)

-- ---- records as bytes and back
pub length_record : (e : Entry) → length (record_bytes e) ≡ record_size
unfolding record_bytes little
length_record e = refl

pub length_header : (n : ℕ) → length (header_bytes n) ≡ header_size
unfolding header_bytes little
length_header n = refl

pub length_records : (es : List Entry) → length (records_bytes es) ≡ record_size * length es
unfolding flat
length_records [] = refl
length_records (e ∷ es) = length-append (record_bytes e) (records_bytes es) ∙ omega (arith, length_record e, length_records es)

pub length-image : (es : List Entry) → length (image es) ≡ record_place (length es)
unfolding image
length-image es = length-append (header_bytes (length es)) (records_bytes es) ∙ omega (arith, length_header (length es), length_records es)

module _ (e : Entry) (rest : List ℕ) where
  front : length (little 1 e.kind ++ little 4 e.start) ≡ 5
  unfolding little
  front = refl

  kind_back : Small e → number_at 1 (record_bytes e ++ rest) 0 ≡ e.kind
  unfolding record_bytes
  kind_back h = rw (append_assoc, append_assoc) (number_little 1 e.kind _ (omega (arith, h.0)))

  start_back : Small e → number_at 4 (record_bytes e ++ rest) 1 ≡ e.start
  unfolding record_bytes
  start_back h =
      rw (append_assoc, append_assoc)
      (number_on 4 (little 1 e.kind) _ 1 0 (length-little 1 e.kind) ∙ number_little 4 e.start _ (omega (arith, h.1, h.2)))

  end_back : Small e → number_at 4 (record_bytes e ++ rest) 5 ≡ e.end
  unfolding record_bytes
  end_back h =
      rw (append_assoc)
      (number_on 4 (little 1 e.kind ++ little 4 e.start) _ 5 0 front ∙ number_little 4 e.end _ (omega (arith, h.2)))

-- the record e stands at index i
pub entry-back : (e : Entry) (pre rest : List ℕ) (i : ℕ) → length pre ≡ record_place i → Small e → entry_at (pre ++ (record_bytes e ++ rest)) i ≡ e
entry-back e pre rest i l h =
    let z : record_place i + 0 ≡ record_place i = omega arith in
    let t = record_bytes e ++ rest in
    let k = rw z at (number_on 1 pre t (record_place i) 0 l) ∙ kind_back e rest h in
    let o = number_on 4 pre t (record_place i) 1 l ∙ start_back e rest h in
    let f = number_on 4 pre t (record_place i) 5 l ∙ end_back e rest h in
    rw (k, o, f)

pub records_back : (es : List Entry) (pre : List ℕ) (i : ℕ) → length pre ≡ record_place i → AllSmall es
    → listed (entry_at (pre ++ records_bytes es)) i (length es) ≡ es
unfolding flat listed
records_back [] pre i l h = refl
records_back (e ∷ es) pre i l h =
    let a = sym (append_assoc pre (record_bytes e) (records_bytes es)) in
    let n : length (pre ++ record_bytes e) ≡ record_place (i + 1) = length-append pre (record_bytes e) ∙ omega (arith, length_record e) in
    let t = ap (λ (s : List ℕ). listed (entry_at s) (i + 1) (length es)) a ∙ records_back es (pre ++ record_bytes e) (i + 1) n h.1 in
    cc (entry-back e pre (records_bytes es) i l h.0, t)

-- the other way round: the bytes at index i are those of the record there
module _ (s : List ℕ) (bytes : Bytes s) where
  record_back : (i : ℕ) → record_place (i + 1) ≤ length s → record_bytes (entry_at s i) ≡ take record_size (drop (record_place i) s)
  unfolding record_bytes
  record_back i h =
      let p = record_place i in
      let a = little_number s bytes 1 p (omega arith) in
      let b = little_number s bytes 4 (p + 1) (omega arith) in
      let d = little_number s bytes 4 (p + 5) (omega arith) in
      let f = take-add 5 4 (drop p s) in
      let g = take-add 1 4 (drop p s) in
      cc (a, b, d, f, g, drop-drop 5 p s, drop-drop 1 p s)

  pub bytes_back : (k i : ℕ) → record_place (i + k) ≤ length s → records_bytes (listed (entry_at s) i k) ≡ take (record_size * k) (drop (record_place i) s)
  unfolding flat listed
  bytes_back zero i h = refl
  bytes_back (suc k) i h =
      let e : record_size * suc k ≡ record_size + record_size * k = omega arith in
      let f : record_place i + record_size ≡ record_place (i + 1) = omega arith in
      let d = drop-drop record_size (record_place i) s ∙ ap (λ (p : ℕ). drop p s) f in
      rw (e, take-add record_size (record_size * k) (drop (record_place i) s), d)
      (cc (record_back i (omega arith), bytes_back k (i + 1) (omega arith)))
