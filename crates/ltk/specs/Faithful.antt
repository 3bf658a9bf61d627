-- The LTK file is faithful: reading gives what was written, writing gives what was read, and every file is refused or is an image.
use Rattle.std.specs.Prelude.{ℕ, zero, suc, ◌+◌, ◌*◌, ◌≤◌, ◌<◌, ◌≡◌, Bool, true, false, cond, ◌&&◌, ◌⊎◌, ltb, eqb, length, get_or, take, Result, Ok, Err, Some}
use Rattle.std.proofs.Math.Path.{refl, ap}
use Rattle.std.proofs.Common.{sym, ◌∙◌, inl, inr, arith, lt-ltb, le-ltb, eq-eqb, ltb-false, eqb-true}
use mathlib.Core.List.{List, [], ◌∷◌, ◌++◌, map, append_assoc}
use Rattle.std.proofs.lemmas.List.{length-map}
use Rattle.std.proofs.Math.ListN.{get_or-map}
use Rattle.std.proofs.Math.Seq.{take-add, take_all}
use Rattle.utf8.specs.Chars.{'L, 'T, 'K}
use Rattle.utf8.specs.Picks.{by_test}
use Rattle.record.specs.declared.Kind.TheVariants.{Enum}
use Rattle.record.specs.declared.Refusal.{Refusal}
use Rattle.record.specs.declared.Token.{Token}
use Rattle.record.specs.declared.Code.TheVariants.{TooLong, NoRoom}
use Rattle.record.specs.Numbers.{kind_number, kinds, kind_of, kind_again}
use Rattle.record.specs.Records.{refusal, token_of}
use Rattle.ltk.specs.declared.Entry.{Entry}
use Rattle.ltk.specs.Layout.{mark, version, version_place, count_place, header_size, record_size, count_limit, record_place, little, number_at}
use Rattle.ltk.specs.Ltk.{entry_of, kind_in, token_in, header_bytes, records_bytes, image, judged, judge, passing, records_ok, marked, count_in, entry_at, listed, entries_of, entries, file_check, room_for, read_answer, delivered, read_tokens, record_at, bytes_for, write_answer, written_bytes}
use Rattle.ltk.specs.Reasons.{Meets, one_reason, refused_met}
use Rattle.ltk.specs.Laws.{Bytes, Small, AllSmall, number_on, number_little, little_number, length-listed, at_first, passing-small, passing-judged, judged_done, length_header, length-image, records_back, bytes_back}

-- a list that the writer takes: its count fits, and no record of it is bad
pub record Fine (es : List Entry) : Type 0 where
  pub few : length es < count_limit
  pub passes : passing 0 es ≡ true

-- ---- a file that is taken
pub record Taken (s : List ℕ) (n : ℕ) : Type 0 where
  pub mark-is : marked s ≡ true
  pub whole : header_size ≤ length s
  pub version-is : number_at 2 s version_place ≡ version
  pub length-is : length s ≡ record_place (count_in s)
  pub judge-is : judge (entries s) ≡ Ok n

taken_by_lem : (a b c d : Bool) (x : Result ℕ Refusal) (p q r o : Refusal) (n : ℕ) → cond a (cond b (Err p) (cond c (cond d x (Err q)) (Err r))) (Err o) ≡ Ok n
    → (a ≡ true) × (b ≡ false) × (c ≡ true) × (d ≡ true) × (x ≡ Ok n)
taken_by_lem false b c d x p q r o n e = (cc, cc, cc, cc, cc)
taken_by_lem true true c d x p q r o n e = (cc, cc, cc, cc, cc)
taken_by_lem true false false d x p q r o n e = (cc, cc, cc, cc, cc)
taken_by_lem true false true false x p q r o n e = (cc, cc, cc, cc, cc)
taken_by_lem true false true true x p q r o n e = (refl, refl, refl, refl, e)

pub taken : (s : List ℕ) (n : ℕ) → file_check s ≡ Ok n → Taken s n
unfolding file_check
taken s n e =
    let p = taken_by_lem _ _ _ _ _ _ _ _ _ n e in
    record { mark-is = p.0; whole = ltb-false _ _ p.1; version-is = eqb-true _ _ p.2; length-is = eqb-true _ _ p.3; judge-is = p.4 }

takes : (s : List ℕ) (n : ℕ) → Taken s n → file_check s ≡ Ok n
unfolding file_check
takes s n t = simp (t.mark-is, le-ltb _ _ t.whole, eq-eqb _ _ t.version-is, eq-eqb _ _ t.length-is) t.judge-is

-- ---- reading what was written
module _ (es : List Entry) where
  front : length (mark ++ little 2 version) ≡ count_place
  unfolding little
  front = refl

  count_back : length es < count_limit → count_in (image es) ≡ length es
  unfolding image header_bytes
  count_back few =
      ap (λ (s : List ℕ). count_in s) (append_assoc (mark ++ little 2 version) (little 4 (length es)) (records_bytes es))
      ∙ number_on 4 (mark ++ little 2 version) (little 4 (length es) ++ records_bytes es) count_place 0 front
      ∙ number_little 4 (length es) (records_bytes es) (omega arith)

  version-back : number_at 2 (image es) version_place ≡ version
  unfolding image header_bytes number_at little
  version-back = refl

  mark-back : marked (image es) ≡ true
  unfolding image header_bytes
  mark-back = refl

  entries-back : passing 0 es ≡ true → entries_of (image es) (length es) ≡ es
  unfolding image
  entries-back h = records_back es (header_bytes (length es)) 0 (length_header (length es)) (passing-small 0 es h)

-- reading what was written gives the kinds and spans
pub read-written : (es : List Entry) → Fine es → (file_check (image es) ≡ Ok (length es)) × (entries (image es) ≡ es)
read-written es f =
    let c = count_back es f.few in
    let l = length-image es in
    let e = ap (entries_of (image es)) c ∙ entries-back es f.passes in
    let z : 0 + length es ≡ length es = omega arith in
    let j = ap judge e ∙ passing-judged 0 0 es f.passes ∙ ap Ok z in (
      takes (image es) (length es)
          (record { mark-is = mark-back es; whole = omega (arith, l); version-is = version-back es; length-is = l ∙ ap record_place (sym c); judge-is = j }),
      e,
    )

-- ---- writing what was read
and_both : (a b : Bool) → a && b ≡ true → (a ≡ true) × (b ≡ true)
and_both true b e = (refl, e)
and_both false b e = (cc, cc)

mark-read : (s : List ℕ) → 3 ≤ length s → marked s ≡ true → take 3 s ≡ mark
mark-read [] h m = absurd (omega arith)
mark-read (a ∷ []) h m = absurd (omega arith)
mark-read (a ∷ b ∷ []) h m = absurd (omega arith)
mark-read (a ∷ b ∷ c ∷ s) h m =
    let p = and_both (eqb a 'L && eqb b 'T) (eqb c 'K) m in
    let q = and_both (eqb a 'L) (eqb b 'T) p.0 in
    cc (eqb-true a 'L q.0, eqb-true b 'T q.1, eqb-true c 'K p.1)

count_is : (s : List ℕ) (n : ℕ) → Taken s n → n ≡ count_in s
count_is s n t = (judged_done 0 0 (entries s) n t.judge-is).1 ∙ omega (arith, length-listed (entry_at s) 0 (count_in s))

module _ (s : List ℕ) (bytes : Bytes s) (n : ℕ) (t : Taken s n) where
  few : count_in s < count_limit
  unfolding number_at
  few = omega (arith, bytes 5, bytes 6, bytes 7, bytes 8)

  header_read : header_bytes (count_in s) ≡ take header_size s
  unfolding header_bytes
  header_read =
      let h = t.whole in
      let m = mark-read s (omega arith) t.mark-is in
      let v = ap (little 2) (sym t.version-is) ∙ little_number s bytes 2 3 (omega arith) in
      let c = little_number s bytes 4 5 (omega arith) in
      cc (m, v, c, take-add 5 4 s, take-add 3 2 s)

  image-read : image (entries s) ≡ s
  unfolding image
  image-read =
      let l = length-listed (entry_at s) 0 (count_in s) in
      let b = bytes_back s bytes (count_in s) 0 (omega (arith, t.length-is)) in
      rw (l, header_read, b) (sym (take-add header_size (record_size * count_in s) s) ∙ take_all (header_size + record_size * count_in s) s (omega (arith, t.length-is)))

  entries_fine : Fine (entries s)
  entries_fine =
      record { few = rw (length-listed (entry_at s) 0 (count_in s)) few; passes = (judged_done 0 0 (entries s) n t.judge-is).0 }

-- writing what was read gives the bytes
pub written_read : (s : List ℕ) → Bytes s → (n : ℕ) → file_check s ≡ Ok n → (n ≡ count_in s) × Fine (entries s) × (image (entries s) ≡ s)
written_read s bytes n e =
    let t = taken s n e in
    (count_is s n t, entries_fine s bytes n t, image-read s bytes n t)

-- ---- every file
-- refused, since it meets the condition of exactly one refusal, and then no image
pub record Refusing (s : List ℕ) : Type 0 where
  pub why : Refusal
  pub refused : file_check s ≡ Err why
  pub met : Meets s why
  pub only_why : (r : Refusal) → Meets s r → r ≡ why
  pub no-image : (us : List Entry) → Fine us → image us ≡ s → ⊥

-- or the image of one list
pub record Imaging (s : List ℕ) : Type 0 where
  pub records : List Entry
  pub answered : file_check s ≡ Ok (length records)
  pub fine : Fine records
  pub image-is : image records ≡ s
  pub only : (us : List Entry) → Fine us → image us ≡ s → us ≡ records

pub either : (s : List ℕ) → Bytes s → Refusing s ⊎ Imaging s
either s bytes = by (file_check s) refl
  where
    by : (a : Result ℕ Refusal) → file_check s ≡ a → Refusing s ⊎ Imaging s
    by (Err r) e =
        inl
        (record {
          why = r;
          refused = e;
          met = refused_met s r e;
          only_why = λ q m. one_reason s r q (refused_met s r e) m;
          no-image = λ us f i. (let z : ◌≡◌ {A = ℕ} 0 1 = cc ((read-written us f).0, ap file_check i) in absurd (omega arith));
        })
    by (Ok n) e =
        let w = written_read s bytes n e in
        inr
        (record {
          records = entries s;
          answered = e ∙ ap Ok (w.0 ∙ sym (length-listed (entry_at s) 0 (count_in s)));
          fine = w.1;
          image-is = w.2;
          only = λ us f i. sym (read-written us f).1 ∙ ap entries i;
        })

-- ---- the same of the reader's and the writer's tokens
-- a token as the file knows it: kind and span
abbrev pub bare : Token → Token
bare t = token_of t.kind t.start t.end t.start t.start

token_again : (t : Token) → token_in (entry_of t) ≡ bare t
token_again t = rw (kind_again t.kind)

tokens_again : (ts : List Token) → map token_in (map entry_of ts) ≡ map bare ts
tokens_again [] = refl
tokens_again (t ∷ ts) = cc (token_again t, tokens_again ts)

-- each number below 54 is that of the kind that it names: one test over the table
counted : ℕ → ℕ → List ℕ
counted i zero = []
counted i (suc n) = i ∷ counted (i + 1) n

at-counted : (i n j : ℕ) → j < n → get_or (counted i n) j 0 ≡ i + j
unfolding counted
at-counted i zero j h = absurd (omega arith)
at-counted i (suc n) zero h = omega arith
at-counted i (suc n) (suc j) h = omega (arith, at-counted (i + 1) n j (omega arith))

in_order : map kind_number kinds ≡ counted 0 54
unfolding kinds counted
in_order = refl

pub number_again : (n : ℕ) → n ≤ 53 → kind_number (kind_in (kind_of n)) ≡ n
unfolding kind_of
number_again n h =
    rw (lt-ltb n 54 (omega arith))
    (sym (get_or-map kind_number kinds n Enum) ∙ ap (λ (l : List ℕ). get_or l n 0) in_order ∙ at-counted 0 54 n (omega arith) ∙ omega arith)

entry_again : (e : Entry) → Small e → entry_of (token_in e) ≡ e
entry_again e h = rw (number_again e.kind h.0)

entries_again : (es : List Entry) → AllSmall es → map entry_of (map token_in es) ≡ es
entries_again [] h = refl
entries_again (e ∷ es) h = cc (entry_again e h.0, entries_again es h.1)

pub tokens-read : (ts : List Token) (room : ℕ) → length ts < count_limit → records_ok ts ≡ true → length ts ≤ room
    → (read_answer (image (map entry_of ts)) room ≡ Ok (length ts)) × (read_tokens (image (map entry_of ts)) room ≡ map bare ts)
unfolding read_answer read_tokens
tokens-read ts room few ok fits =
    let es = map entry_of ts in
    let l = length-map ts entry_of in
    let f : Fine es = record { few = rw l few; passes = ok } in
    let r = read-written es f in
    let a : read_answer (image es) room ≡ Ok (length ts) = rw (r.0, l) (simp (le-ltb room (length ts) fits)) in
    (a, rw a (ap (map token_in) (ap (entries_of (image es)) (sym l) ∙ entries-back es ok) ∙ tokens_again ts))

-- a list whose records pass is refused for its count or for the buffer alone, and otherwise its image is written
pub passing-answer : (es : List Entry) (room : ℕ) → passing 0 es ≡ true
    → write_answer es room ≡ cond (ltb (length es) count_limit) (bytes_for room (Ok (length es))) (Err (refusal TooLong 0))
unfolding write_answer
passing-answer es room h =
    let z : 0 + length es ≡ length es = omega arith in
    rw (passing-judged 0 0 es h, z)

pub writes : (es : List Entry) (room : ℕ) → Fine es → record_place (length es) ≤ room
    → (write_answer es room ≡ Ok (record_place (length es))) × (written_bytes es room ≡ image es)
unfolding written_bytes
writes es room f h =
    let a : write_answer es room ≡ Ok (record_place (length es)) =
    passing-answer es room f.passes ∙ simp (lt-ltb _ _ f.few, le-ltb _ _ h) in
    (a, rw a)

room_done : (room : ℕ) (a : Result ℕ Refusal) (n : ℕ) → room_for room a ≡ Ok n → a ≡ Ok n
room_done room (Err r) n e = e
room_done room (Ok m) n e = by_test (λ (x : Result ℕ Refusal). x ≡ Ok n → ◌≡◌ {A = Result ℕ Refusal} (Ok m) (Ok n)) (ltb room m) (Err (refusal NoRoom 0)) (Ok m) (λ t f. cc) (λ t f. f) e

-- writing the tokens that were read gives the bytes
pub tokens-written : (s : List ℕ) (room more n : ℕ) → Bytes s → read_answer s room ≡ Ok n → length s ≤ more
    → (write_answer (map entry_of (read_tokens s room)) more ≡ Ok (length s)) × (written_bytes (map entry_of (read_tokens s room)) more ≡ s)
unfolding read_tokens read_answer
tokens-written s room more n bytes e h =
    let w = written_read s bytes n (room_done room (file_check s) n e) in
    let l = length-image (entries s) in
    let k = ap length w.2 in
    let es : map entry_of (read_tokens s room) ≡ entries s =
    ap (λ (a : Result ℕ Refusal). map entry_of (map token_in (entries_of s (delivered a)))) e ∙ ap (λ (m : ℕ). map entry_of (map token_in (entries_of s m))) w.0 ∙ entries_again (entries s) (passing-small 0 (entries s) w.1.passes) in
    let r = writes (entries s) more w.1 (omega (arith, l, k)) in
    rw es (r.0 ∙ ap Ok (sym l ∙ k), r.1 ∙ w.2)

-- what the reader delivers has the file's length, and so a count that fits
pub few_read : (s : List ℕ) (room : ℕ) → Bytes s → (a : Result ℕ Refusal) → a ≡ read_answer s room → delivered a ≤ count_limit
unfolding read_answer
few_read s room bytes (Err r) e = omega arith
few_read s room bytes (Ok n) e =
    let w = written_read s bytes n (room_done room (file_check s) n (sym e)) in
    omega (arith, w.0, w.1.few, length-listed (entry_at s) 0 (count_in s))

-- and fits the list
pub room-read : (room : ℕ) (a : Result ℕ Refusal) → delivered (room_for room a) ≤ room
room-read room (Err r) = omega arith
room-read room (Ok n) =
    by_test (λ (x : Result ℕ Refusal). delivered x ≤ room) (ltb room n) (Err (refusal NoRoom 0)) (Ok n) (λ t. omega arith) (λ t. ltb-false _ _ t)

-- of a file that is well formed, each record can be asked for alone
small_at : (es : List Entry) (i : ℕ) (d : Entry) → AllSmall es → i < length es → Small (get_or es i d)
small_at [] i d h l = absurd (omega arith)
small_at (e ∷ es) zero d h l = h.0
small_at (e ∷ es) (suc i) d h l = small_at es i d h.1 (omega arith)

pub record_found : (s : List ℕ) (n i : ℕ) → file_check s ≡ Ok n → i < n → record_at s i ≡ Some (token_in (entry_at s i))
unfolding record_at
record_found s n i e h =
    let t = taken s n e in
    let c = count_is s n t in
    let l = length-listed (entry_at s) 0 (count_in s) in
    let a = at_first (entry_at s) (count_in s) i (entry_at s i) (omega arith) in
    let k = small_at (entries s) i (entry_at s i) (passing-small 0 (entries s) (judged_done 0 0 (entries s) n t.judge-is).0) (omega arith) in
    let j : (entry_at s i).kind ≤ 53 = (rw (← a) at k).0 in
    let whole : record_place (i + 1) ≤ length s = omega (arith, t.length-is) in
    simp (lt-ltb i (count_in s) (omega arith), le-ltb (length s) (record_place (i + 1)) whole, le-ltb 53 (entry_at s i).kind j)
