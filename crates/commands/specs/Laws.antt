-- What the code cites: lines that are put one after another.
use Prim.Native.Nat.{ℕ, zero, suc, ◌+◌, ◌-◌, ◌*◌, ◌/◌, ◌≤◌, ◌<◌}
use native.Mathlib.Omega.{arith}
use borrow.Author.Tests.{eq-eqb, le-ltb, lt-ltb, ne_eqb}
use Rattle.std.specs.Prelude.{Bool, true, false, ◌&&◌, cond, ◌≡◌, drop, get_or, take, eqb, Option, Some, Result, Ok, Err}
use mathlib.Core.List.{List, [], ◌∷◌, ◌++◌, append-nil, map}
use Rattle.std.proofs.Math.Path.{refl, ap}
use Rattle.std.proofs.Common.{sym, ◌∙◌, drop_of_length-le, length-drop, get_or-drop, take_all}
use Rattle.std.proofs.Math.ListN.{length}
use Rattle.std.proofs.Math.Seq.{drop-drop, drop-nil, take-nil}
use Rattle.text.specs.Lay.{Laid, lay, lay_all}
use Rattle.text.specs.Lines.{depth_line, error_line, header_line, token_line}
use Rattle.std.proofs.Math.Dec.{ltb}
use Rattle.utf8.specs.Picks.{tests}
use Rattle.utf8.specs.Utf8.{boundary}
use Rattle.record.specs.Checks.{checks}
use Rattle.record.specs.Numbers.{code_number}
use Rattle.record.specs.Records.{over, refusal}
use Rattle.record.specs.declared.Code.TheVariants.{BadRecord, TooLong}
use Rattle.record.specs.declared.Reading.{Reading}
use Rattle.record.specs.declared.Token.{Token}
use Rattle.reading.specs.Answers.{start_in}
use Rattle.reading.proofs.AnyCall.{room-from}
use Rattle.reading.specs.Next.{next}
use Rattle.reading.specs.Run.{run_from, run_with, stopped}
use Rattle.reading.specs.declared.Outcome.TheVariants.{Refused}
use Rattle.reading.specs.declared.Tokenizer.{Tokenizer}
use Rattle.run.specs.Checked.{ran_of, ran_with, run_if, whole_run, whole_run_with}
use Rattle.run.specs.declared.Ran.{Ran}
use Rattle.run.specs.Numbers.{groups, numbers_all, size_of}
use Rattle.run.specs.declared.Group.{Group}
use Rattle.run.specs.declared.Group.TheVariants.{Five, Nine}
use Rattle.lent.specs.Copies.{fitted}
use Rattle.commands.specs.Lists.{Left, header_lines, highest, limit_lines, list_err, number_line, number_lines, people_lines, ran_line, record_line, room, text_limit}
use Rattle.commands.specs.Parts.{chunk, chunk_lines, held_lines, last_part, list_last, list_more, list_part, list_part_err, list_tokens, only_in, part_lines, run_last, run_tokens}
use Rattle.record.specs.declared.Refusal.{Refusal}

-- what a call answers and leaves behind is what the definition says
abbrev pub Is : Laid → Option ℕ → List ℕ → Type 0
Is x r d = (r ≡ x.to) × (d ≡ x.held)

pub lay-one : (d : List ℕ) (from : Option ℕ) (l : List ℕ) (r : Option ℕ) (x : List ℕ) → Is (lay d from l) r x → Is (lay_all d from (l ∷ [])) r x
unfolding lay_all
lay-one d from l r x h = h

-- two lines
pub lay-two : (d : List ℕ) (from : Option ℕ) (l m : List ℕ) (c : Option ℕ) (e : List ℕ) (r : Option ℕ) (x : List ℕ)
    → Is (lay d from l) c e → Is (lay e c m) r x → Is (lay_all d from (l ∷ m ∷ [])) r x
unfolding lay_all
lay-two d from l m c e r x h k = rw (← h.0, ← h.1) k

-- lines after lines
pub lay-more : (d : List ℕ) (from : Option ℕ) (ls ms : List (List ℕ)) (c : Option ℕ) (e : List ℕ) (r : Option ℕ) (x : List ℕ)
    → Is (lay_all d from ls) c e → Is (lay_all e c ms) r x → Is (lay_all d from (ls ++ ms)) r x
unfolding lay_all
lay-more d from [] ms c e r x h k = rw (← h.0, ← h.1) k
lay-more d from (l ∷ ls) ms c e r x h k = lay-more (lay d from l).held (lay d from l).to ls ms c e r x h k

-- ---- groups of either size
no-groups : (g : Group) → size_of g * 0 ≡ 0
no-groups Five = refl
no-groups Nine = refl

one_more : (g : Group) (i : ℕ) → size_of g * (i + 1) ≡ size_of g * i + size_of g
one_more Five i = omega arith
one_more Nine i = omega arith

-- the i-th of n groups
pub group_fits : (g : Group) (i n l : ℕ) → i < n → size_of g * n ≤ l → size_of g * i + size_of g ≤ l
group_fits Five i n l h k = omega arith
group_fits Nine i n l h k = omega arith

-- m groups from the one with number a on, of n
rest-fits : (g : Group) (a m n l : ℕ) → a + m ≤ n → size_of g * n ≤ l → (size_of g * a ≤ l) × (size_of g * m ≤ l - size_of g * a)
rest-fits Five a m n l h k = (omega arith, omega arith)
rest-fits Nine a m n l h k = (omega arith, omega arith)

pub held_fits : (g : Group) (n l : ℕ) → n ≤ l / size_of g → size_of g * n ≤ l
held_fits Five n l h = omega arith
held_fits Nine n l h = omega arith

-- a record's line from the numbers that stand from a place on
module _ (p : ℕ) (l : List ℕ) where
  first : get_or (drop p l) 0 0 ≡ get_or l p 0
  first = let e : p + 0 ≡ p = omega arith in get_or-drop p l 0 0 ∙ ap (λ (k : ℕ). get_or l k 0) e

  pub line_five : number_line Five (drop p l) ≡ token_line (get_or l p 0) (get_or l (p + 1) 0) (get_or l (p + 2) 0)
  line_five = rw (first, get_or-drop p l 1 0, get_or-drop p l 2 0) refl

  pub line_nine : number_line Nine (drop p l) ≡ depth_line (get_or l p 0) (get_or l (p + 1) 0) (get_or l (p + 2) 0) (get_or l (p + 5) 0) (get_or l (p + 6) 0)
  line_nine = rw (first, get_or-drop p l 1 0, get_or-drop p l 2 0, get_or-drop p l 5 0, get_or-drop p l 6 0) refl

-- ---- the lines of records: i of n are put
abbrev pub Going : Group → List ℕ → Option ℕ → ℕ → List ℕ → List ℕ → Option ℕ → ℕ → Type 0
Going g d from n l e c i = (i ≤ n) × (lay_all e c (number_lines g (n - i) (drop (size_of g * i) l)) ≡ lay_all d from (number_lines g n l))

module _ (g : Group) (d : List ℕ) (from : Option ℕ) (n : ℕ) (l : List ℕ) where
  pub going-first : Going g d from n l d from 0
  going-first =
      let e : n - 0 ≡ n = omega arith in
      (omega arith, rw (e, no-groups g) refl)

  module _ (e : List ℕ) (c : Option ℕ) (i : ℕ) (o : Going g d from n l e c i) where
    pub going_on : (r : Option ℕ) (x : List ℕ) → i < n → Is (lay e c (number_line g (drop (size_of g * i) l))) r x → Going g d from n l x r (i + 1)
    unfolding lay_all number_lines
    going_on r x h k =
        let a : n - i ≡ suc (n - (i + 1)) = omega arith in
        let t = rw (a, drop-drop (size_of g) (size_of g * i) l) at o.1 in
        (omega arith, rw (one_more g i, k.0, k.1) t)

    pub going-last : n ≤ i → Is (lay_all d from (number_lines g n l)) c e
    unfolding lay_all number_lines
    going-last h =
        let a : n - i ≡ 0 = omega arith in
        let t = rw a at o.1 in
        (ap (λ (x : Laid). x.to) t, ap (λ (x : Laid). x.held) t)

-- ---- a run delivers no more tokens than there is room for
tokens_if : (c : Result Unit Refusal) (s : List ℕ) (shift limit room : ℕ) (t : Tokenizer) → length (run_if c s shift limit room t).tokens ≤ room
unfolding run_with
tokens_if (Ok tt) s shift limit room t = go (boundary s t.at)
  where
    go : (b : Bool) → length (cond b (run_from s shift limit (suc (length s)) room t) (stopped (Refused (refusal BadRecord 0)) t)).tokens ≤ room
    go true = room-from next s shift limit (suc (length s)) room t
    go false = omega arith
tokens_if (Err r) s shift limit room t = omega arith

pub tokens-room : (s : List ℕ) (shift limit room : ℕ) (t : Tokenizer) → length (whole_run s shift limit room t).tokens ≤ room
unfolding whole_run_with
tokens-room s shift limit room t = tokens_if (checks s shift) s shift limit room t

-- ---- records as numbers
pub numbers_length : (g : Group) (ts : List Token) → length (groups g ts) ≡ size_of g * length ts
unfolding groups
numbers_length g [] = sym (no-groups g)
numbers_length Five (t ∷ ts) = let i = numbers_length Five ts in omega arith
numbers_length Nine (t ∷ ts) = let i = numbers_length Nine ts in omega arith

drop_numbers : (g : Group) (k : ℕ) (ts : List Token) (rest : List ℕ) → k ≤ length ts → drop (size_of g * k) (groups g ts ++ rest) ≡ groups g (drop k ts) ++ rest
unfolding groups
drop_numbers g zero ts rest h = ap (λ (m : ℕ). drop m (groups g ts ++ rest)) (no-groups g)
drop_numbers g (suc k) [] rest h = absurd (omega (arith, h))
drop_numbers Five (suc k) (t ∷ ts) rest h =
    let e : 5 * suc k ≡ suc (suc (suc (suc (suc (5 * k))))) = omega arith in
    ap (λ (m : ℕ). drop m (groups Five (t ∷ ts) ++ rest)) e ∙ drop_numbers Five k ts rest (omega (arith, h))
drop_numbers Nine (suc k) (t ∷ ts) rest h =
    let e : 9 * suc k ≡ suc (suc (suc (suc (suc (suc (suc (suc (suc (9 * k))))))))) = omega arith in
    ap (λ (m : ℕ). drop m (groups Nine (t ∷ ts) ++ rest)) e ∙ drop_numbers Nine k ts rest (omega (arith, h))

lines_from : (g : Group) (m : ℕ) (ts : List Token) (rest : List ℕ) → m ≤ length ts → number_lines g m (groups g ts ++ rest) ≡ map (record_line g) (take m ts)
unfolding number_lines groups
lines_from g zero ts rest h = refl
lines_from g (suc m) [] rest h = absurd (omega (arith, h))
lines_from Five (suc m) (t ∷ ts) rest h = ap (λ (ls : List (List ℕ)). record_line Five t ∷ ls) (lines_from Five m ts rest (omega (arith, h)))
lines_from Nine (suc m) (t ∷ ts) rest h = ap (λ (ls : List (List ℕ)). record_line Nine t ∷ ls) (lines_from Nine m ts rest (omega (arith, h)))

-- the lines of k records from the one with number a on, or of fewer where the records end
few_from : (g : Group) (k a : ℕ) (ts : List Token) (rest : List ℕ)
    → number_lines g (cond (ltb k (length ts - a)) k (length ts - a)) (drop (size_of g * a) (groups g ts ++ rest)) ≡ map (record_line g) (take k (drop a ts))
unfolding groups
few_from g k a ts rest = go (ltb k (length ts - a)) refl (ltb (length ts) a) refl
  where
    go : (b : Bool) → ltb k (length ts - a) ≡ b → (m : Bool) → ltb (length ts) a ≡ m
        → number_lines g (cond (ltb k (length ts - a)) k (length ts - a)) (drop (size_of g * a) (groups g ts ++ rest)) ≡ map (record_line g) (take k (drop a ts))
    go true e m f =
        let l = length-drop a ts in
        rw (e, drop_numbers g a ts rest (omega tests)) (lines_from g k (drop a ts) rest (omega (tests, l)))
    go false e true f =
        let z : length ts - a ≡ 0 = omega tests in
        rw (e, z, drop_of_length-le ts {i = a} (omega tests), take-nil {A = Token} k) (lines_from g 0 [] (drop (size_of g * a) (groups g ts ++ rest)) (omega arith))
    go false e false f =
        let l = length-drop a ts in
        rw (e, drop_numbers g a ts rest (omega tests))
        (lines_from g (length ts - a) (drop a ts) rest (omega (arith, l)) ∙ ap (map (record_line g)) (take_all (length ts - a) (drop a ts) (omega (arith, l)) ∙ sym (take_all k (drop a ts) (omega (tests, l)))))

-- the lines of a part's records, as they stand in a list
pub chunk_are : (g : Group) (p : ℕ) (ts : List Token) (old now : List ℕ) (n : ℕ) → now ≡ over (groups g ts) old → n ≡ length ts
    → chunk_lines g p n now ≡ map (record_line g) (take chunk (drop (chunk * p) ts))
unfolding chunk_lines
chunk_are g p ts old now n e k = rw (k, e) (few_from g chunk (chunk * p) ts (drop (length (groups g ts)) old))

pub fits : (ts : List Token) (old : List ℕ) → 5 * length ts ≤ length old → fitted (numbers_all ts) old ≡ over (numbers_all ts) old
unfolding fitted
fits ts old h = let l = numbers_length Five ts in rw (le-ltb (length old) (length (numbers_all ts)) (omega (arith, l, h)))

-- ---- what `chunk_onto` puts
rest-is : (k : ℕ) (l : List ℕ) → take (length l - k) (drop k l) ≡ drop k l
rest-is k l = let m = length-drop k l in take_all (length l - k) (drop k l) (omega (arith, m))

-- groups of k numbers each: those before the one with number a, and m from it on
module _ (g : Group) (a m n k : ℕ) (l : List ℕ) (size : k ≡ size_of g) (few : a + m ≤ n) (held : size_of g * n ≤ length l) where
  pub start_fits : k * a ≤ length l
  start_fits = rw size (rest-fits g a m n (length l) few held).0

  pub rest-held : size_of g * m ≤ length (take (length l - k * a) (drop (k * a) l))
  rest-held = rw (size, rest-is (size_of g * a) l, length-drop (size_of g * a) l) (rest-fits g a m n (length l) few held).1

module _ (g : Group) (p n : ℕ) (l d : List ℕ) (from : Option ℕ) where
  pub chunk-none : n / chunk < p → Is (lay_all d from (chunk_lines g p n l)) from d
  unfolding chunk_lines lay_all number_lines
  chunk-none h =
      let z : n - chunk * p ≡ 0 = omega (arith, h) in
      rw z (refl, refl)

  module _ (k : ℕ) (start : k ≡ size_of g * (chunk * p)) (r : Option ℕ) (x : List ℕ) where
    pub chunk_full : chunk < n - chunk * p → Is (lay_all d from (number_lines g chunk (take (length l - k) (drop k l)))) r x → Is (lay_all d from (chunk_lines g p n l)) r x
    unfolding chunk_lines
    chunk_full h i = rw (lt-ltb chunk (n - chunk * p) h) (rw (rest-is k l, start) at i)

    pub chunk-left : n - chunk * p ≤ chunk → Is (lay_all d from (number_lines g (n - chunk * p) (take (length l - k) (drop k l)))) r x
        → Is (lay_all d from (chunk_lines g p n l)) r x
    unfolding chunk_lines
    chunk-left h i = rw (le-ltb chunk (n - chunk * p) h) (rw (rest-is k l, start) at i)

-- ---- what `part_onto` puts
pub held_none : (g : Group) (p n : ℕ) (l d : List ℕ) (from : Option ℕ) → length l / size_of g < n → Is (lay_all d from (held_lines g p n l)) from d
unfolding held_lines lay_all
held_none g p n l d from h = rw (lt-ltb (length l / size_of g) n h) (refl, refl)

pub held_all : (g : Group) (p n : ℕ) (l : List ℕ) → n ≤ length l / size_of g → held_lines g p n l ≡ chunk_lines g p n l
unfolding held_lines
held_all g p n l h = rw (le-ltb (length l / size_of g) n h)

-- ---- a part from where the header came to
abbrev pub SaidFrom : Group → ℕ → List Token → List ℕ → List (List ℕ) → List ℕ → Option ℕ → List ℕ → Option ℕ → List ℕ → Option ℕ → List ℕ → Bool → Type 0
SaidFrom g p ts last errs d from f r x q y more =
    Left (lay_all d from (part_lines g p ts last)) (lay_all f (Some 0) (only_in (last_part ts) p errs)) r x q y × (more ≡ ltb p (last_part ts))

module _ (g : Group) (p : ℕ) (ts : List Token) (last : List ℕ) (errs : List (List ℕ)) (d : List ℕ) (from : Option ℕ) (f : List ℕ) where
  pub end-part : (n : ℕ) (c : Option ℕ) (e : List ℕ) (r : Option ℕ) (x : List ℕ) (q : Option ℕ) (y : List ℕ) → n ≡ length ts → p ≡ n / chunk
      → Is (lay_all d from (map (record_line g) (take chunk (drop (chunk * p) ts)))) c e → Is (lay e c last) r x → Is (lay_all f (Some 0) errs) q y
      → SaidFrom g p ts last errs d from f r x q y false
  unfolding only_in part_lines
  end-part n c e r x q y k h a b i =
      let z : p ≡ length ts / chunk = h ∙ ap (λ (m : ℕ). m / chunk) k in
      let w = lay-more d from (map (record_line g) (take chunk (drop (chunk * p) ts))) (last ∷ []) c e r x a (lay-one e c _ r x b) in
      rw (eq-eqb p (length ts / chunk) z, le-ltb p (length ts / chunk) (omega (arith, z))) (record { out_to = w.0; out_held = w.1; err-to = i.0; err-held = i.1 }, refl)

  pub mid_part : (n : ℕ) (r : Option ℕ) (x : List ℕ) → n ≡ length ts → (p ≡ n / chunk → ⊥)
      → Is (lay_all d from (map (record_line g) (take chunk (drop (chunk * p) ts)))) r x → SaidFrom g p ts last errs d from f r x (Some 0) f (ltb p (n / chunk))
  unfolding lay_all only_in part_lines
  mid_part n r x k h a =
      let z : p ≡ length ts / chunk → ⊥ = λ e. h (e ∙ ap (λ (m : ℕ). m / chunk) (sym k)) in
      rw (ne_eqb p (length ts / chunk) z, append-nil (map (record_line g) (take chunk (drop (chunk * p) ts)))) (record { out_to = a.0; out_held = a.1; err-to = refl; err-held = refl }, ap (λ (m : ℕ). ltb p (m / chunk)) k)

  -- a listing with no records has one part
  pub only_part : (r : Option ℕ) (x : List ℕ) (q : Option ℕ) (y : List ℕ) → ts ≡ [] → p ≡ 0 → Is (lay d from last) r x → Is (lay_all f (Some 0) errs) q y
      → SaidFrom g p ts last errs d from f r x q y false
  unfolding lay_all only_in part_lines
  only_part r x q y k h b i = rw (k, h) (record { out_to = b.0; out_held = b.1; err-to = i.0; err-held = i.1 }, refl)

  pub no_part : ts ≡ [] → (p ≡ 0 → ⊥) → SaidFrom g p ts last errs d from f from d (Some 0) f false
  unfolding lay_all only_in part_lines
  no_part k h =
      rw (k, drop-nil {A = Token} (chunk * p), ne_eqb p 0 h, le-ltb p 0 (omega arith)) (record { out_to = refl; out_held = refl; err-to = refl; err-held = refl }, refl)

head-is : (headed : Bool) (p : ℕ) (name : List ℕ) → header_lines (headed && eqb p 0) name ≡ only_in 0 p (header_lines headed name)
unfolding header_lines only_in
head-is headed p name = go headed (eqb p 0)
  where
    go : (h b : Bool) → cond (h && b) (name ∷ header_line ∷ []) [] ≡ cond b (cond h (name ∷ header_line ∷ []) []) []
    go true true = refl
    go true false = refl
    go false true = refl
    go false false = refl

pub head-on : (g : Group) (headed : Bool) (name : List ℕ) (p : ℕ) (ts : List Token) (last : List ℕ) (errs : List (List ℕ)) (d : List ℕ) (c : Option ℕ) (e f : List ℕ) (r : Option ℕ) (x : List ℕ) (q : Option ℕ) (y : List ℕ) (m : Bool)
    → Is (lay_all d (Some 0) (header_lines (headed && eqb p 0) name)) c e → SaidFrom g p ts last errs e c f r x q y m
    → Left (lay_all d (Some 0) (only_in 0 p (header_lines headed name) ++ part_lines g p ts last)) (lay_all f (Some 0) (only_in (last_part ts) p errs)) r x q y × (m ≡ ltb p (last_part ts))
head-on g headed name p ts last errs d c e f r x q y m h s =
    let l = s.0 in
    let w = lay-more d (Some 0) (only_in 0 p (header_lines headed name)) (part_lines g p ts last) c e r x (rw (head-is headed p name) at h) (l.out_to, l.out_held) in
    (record { out_to = w.0; out_held = w.1; err-to = l.err-to; err-held = l.err-held }, s.1)

-- ---- a run's lines: the records and then the last line
pub stored-room : (s : List ℕ) (shift limit room : ℕ) (t : Tokenizer) (r : Ran) → r ≡ ran_of s shift limit room t → r.stored ≤ room
unfolding ran_with
stored-room s shift limit room t r e = rw e (tokens-room s shift limit room t)

-- what `records_of` leaves at each size
pub five_of : (rd : Reading) (s old recs : List ℕ) (t : Tokenizer) (ran : Ran) → t ≡ start_in rd → ran ≡ ran_of s 0 highest room t → recs ≡ fitted (numbers_all (whole_run s 0 highest room t).tokens) old
    → 294912 ≡ length old → (ran ≡ ran_of s 0 highest room (start_in rd)) × (recs ≡ over (groups Five (run_tokens rd s)) old)
five_of rd s old recs t ran start is stored wide =
    let l = tokens-room s 0 highest room (start_in rd) in
    (is ∙ ap (ran_of s 0 highest room) start, stored ∙ ap (λ (u : Tokenizer). fitted (numbers_all (whole_run s 0 highest room u).tokens) old) start ∙ fits (run_tokens rd s) old (omega (arith, l, wide)))

pub nine_of : (rd : Reading) (s old recs : List ℕ) (t : Tokenizer) (ran : Ran) → t ≡ start_in rd → ran ≡ ran_of s 0 highest (length old / 9) t
    → recs ≡ over (groups Nine (whole_run s 0 highest (length old / 9) t).tokens) old → 294912 ≡ length old
    → (ran ≡ ran_of s 0 highest room (start_in rd)) × (recs ≡ over (groups Nine (run_tokens rd s)) old)
nine_of rd s old recs t ran start is stored wide =
    let r : length old / 9 ≡ room = omega (arith, wide) in
    (is ∙ rw (r, start) refl, stored ∙ rw (r, start) refl)

-- of either size there is room for a run's records
pub stored-fits : (g : Group) (n l : ℕ) → n ≤ room → 294912 ≡ l → size_of g * n ≤ l
stored-fits Five n l h k = omega arith
stored-fits Nine n l h k = omega arith

pub how_is : (rd : Reading) (s : List ℕ) (t : Tokenizer) (ran : Ran) → t ≡ start_in rd → ran ≡ ran_of s 0 highest room t → ran.how ≡ (ran_of s 0 highest room (start_in rd)).how
how_is rd s t ran start is = ap (λ (r : Ran). r.how) (is ∙ ap (ran_of s 0 highest room) start)

module _ (rd : Reading) (g : Group) (s old recs : List ℕ) (ran : Ran) (is : ran ≡ ran_of s 0 highest room (start_in rd)) (stored : recs ≡ over (groups g (run_tokens rd s)) old) where
  count : ran.stored ≡ length (run_tokens rd s)
  unfolding ran_with
  count = ap (λ (r : Ran). r.stored) is

  chunk_of : (p : ℕ) → chunk_lines g p ran.stored recs ≡ map (record_line g) (take chunk (drop (chunk * p) (run_tokens rd s)))
  chunk_of p = chunk_are g p (run_tokens rd s) old recs ran.stored stored count

  module _ (p : ℕ) (errs : List (List ℕ)) (d : List ℕ) (from : Option ℕ) (f : List ℕ) where
    pub run-last : (c : Option ℕ) (e : List ℕ) (r : Option ℕ) (x : List ℕ) (q : Option ℕ) (y : List ℕ) → p ≡ ran.stored / chunk
        → Is (lay_all d from (chunk_lines g p ran.stored recs)) c e → Is (lay e c (ran_line g ran)) r x → Is (lay_all f (Some 0) errs) q y
        → SaidFrom g p (run_tokens rd s) (run_last rd g s) errs d from f r x q y false
    run-last c e r x q y h a b k = end-part g p (run_tokens rd s) (run_last rd g s) errs d from f ran.stored c e r x q y count h (rw (chunk_of p) at a) (rw is at b) k

    pub run_mid : (r : Option ℕ) (x : List ℕ) → (p ≡ ran.stored / chunk → ⊥) → Is (lay_all d from (chunk_lines g p ran.stored recs)) r x
        → SaidFrom g p (run_tokens rd s) (run_last rd g s) errs d from f r x (Some 0) f (ltb p (ran.stored / chunk))
    run_mid r x h a = mid_part g p (run_tokens rd s) (run_last rd g s) errs d from f ran.stored r x count h (rw (chunk_of p) at a)

-- ---- the command `list`
module _ (rd : Reading) (g : Group) (headed : Bool) (name s : List ℕ) (p : ℕ) (d : List ℕ) (c : Option ℕ) (e f : List ℕ) (r : Option ℕ) (x : List ℕ) (q : Option ℕ) (y : List ℕ) (m : Bool)
    (h : Is (lay_all d (Some 0) (header_lines (headed && eqb p 0) name)) c e) where
  pub list_long : text_limit < length s → SaidFrom g p [] (error_line (code_number TooLong) 0 0) (limit_lines name text_limit) e c f r x q y m
      → Left (lay_all d (Some 0) (list_part rd g p headed name s)) (lay_all f (Some 0) (list_part_err rd p name s)) r x q y × (m ≡ list_more rd p s)
  unfolding list_err list_last list_more list_part list_part_err list_tokens
  list_long l k = rw (lt-ltb text_limit (length s) l) (head-on g headed name p [] (error_line (code_number TooLong) 0 0) (limit_lines name text_limit) d c e f r x q y m h k)

  pub list_run : length s ≤ text_limit → SaidFrom g p (run_tokens rd s) (run_last rd g s) (people_lines name s (ran_of s 0 highest room (start_in rd)).how) e c f r x q y m
      → Left (lay_all d (Some 0) (list_part rd g p headed name s)) (lay_all f (Some 0) (list_part_err rd p name s)) r x q y × (m ≡ list_more rd p s)
  unfolding list_err list_last list_more list_part list_part_err list_tokens
  list_run l k = rw (le-ltb text_limit (length s) l) (head-on g headed name p (run_tokens rd s) (run_last rd g s) (people_lines name s (ran_of s 0 highest room (start_in rd)).how) d c e f r x q y m h k)

-- no listing has more than five parts
pub few_parts : (rd : Reading) (s : List ℕ) → last_part (list_tokens rd s) ≤ 4
unfolding list_tokens
few_parts rd s = go (ltb text_limit (length s))
  where
    go : (b : Bool) → last_part (cond b [] (run_tokens rd s)) ≤ 4
    go true = omega arith
    go false = let h = tokens-room s 0 highest room (start_in rd) in omega (arith, h)
