-- The calls of a text, one after another, are those of its run; and what they enter is what its tokens do.
use Rattle.std.specs.Prelude.{◌*◌, ◌+◌, ◌-◌, ◌<◌, ◌≤◌, suc, zero, ℕ, Bool, cond, true, drop, Ok, Err, Result}
use Rattle.std.proofs.Common.{arith, ◌∙◌, le-ltb, lt-ltb, ltb-false}
use Rattle.std.proofs.Math.Bool.{false}
use mathlib.Core.List.{List, [], ◌∷◌}
use Rattle.std.proofs.Math.Path.{◌≡◌, ap, refl, sym}
use Rattle.std.proofs.Math.Dec.{ltb}
use Rattle.std.proofs.Math.ListN.{length, take}
use Rattle.std.proofs.Math.Seq.{length-take-le, take-length}
use Rattle.utf8.proofs.Laws.{bounded}
use Rattle.utf8.specs.Laws.{valid_whole}
use Rattle.utf8.specs.Utf8.{boundary}
use Rattle.record.specs.Allowed.{allowed}
use Rattle.record.specs.Checks.{checks}
use Rattle.record.specs.Codes.{among}
use Rattle.record.specs.Numbers.{code_number, kind_number}
use Rattle.record.specs.Records.{refusal}
use Rattle.record.specs.declared.Code.{Code}
use Rattle.record.specs.declared.Code.TheVariants.{WorkLimit}
use Rattle.record.specs.declared.Reading.TheVariants.{Old}
use Rattle.record.specs.declared.Refusal.{Refusal}
use Rattle.record.specs.declared.Token.{Token}
use Rattle.scan.specs.Deepens.{least}
use Rattle.scan.specs.Depth.{deeper}
use Rattle.scan.specs.Far.{Far, far_left, fits, lands, short}
use Rattle.scan.specs.Until.{left}
use Rattle.scan.specs.Shapes.{Skip, same_ok}
use Rattle.reading.specs.Answers.{more, told, told_token, told_what}
use Rattle.reading.proofs.CallLaw.{LaidIn, Placed, next-laid}
use Rattle.reading.specs.Gaps.{gap, gap_depth_of}
use Rattle.reading.specs.Measures.{tail_of}
use Rattle.reading.specs.Next.{next, token_or_end}
use Rattle.reading.specs.Passes.{gap_sound}
use Rattle.reading.specs.Run.{Run, also, ending, run_from, run_with, shift_token, step, step_by, step_with, stopped}
use Rattle.reading.proofs.Steps.{call-within}
use Rattle.reading.specs.Steps.{next-gap, next_lost}
use Rattle.reading.proofs.Story.{run_end, run_error, run_got}
use Rattle.reading.proofs.Sums.{placed_far, placed_length}
use Rattle.reading.specs.declared.Call.{Call}
use Rattle.reading.specs.declared.Outcome.{Outcome}
use Rattle.reading.specs.declared.Outcome.TheVariants.{Ended, Refused, Running}
use Rattle.reading.specs.declared.Stepped.{Stepped}
use Rattle.reading.specs.declared.Tokenizer.{Tokenizer}
use Rattle.reading.specs.declared.What.{What}
use Rattle.reading.specs.declared.What.TheVariants.{End, Error, Got}
use Rattle.run.specs.Checked.{whole_run_with}
use Rattle.run.specs.Pending.{running}
use Rattle.ledger.proofs.Answered.{next_says}
use Rattle.ledger.specs.Answered.{SaysIn}
use Rattle.ledger.specs.Levels.{last-told, next_small}
use Rattle.ledger.specs.Small.{gap-small}
use Rattle.sheet.specs.Adds.{between, beyond, depth_over, dropped_after, drops, empty_sheet, enter, entered, failed_in, fails, gap_entered, greatest, in_comments, in_tokens, in_whitespace, sheet_size, story, token_depth, token_entered, work_limit}
use Rattle.sheet.specs.Apart.{apart, apart_by, comments, whites}
use Rattle.sheet.specs.Laws.{Below, below_more, empty_below, empty_length, enter_below, enter-length, fails-le, span_length, up_to_far, whites-comments}
use Rattle.sheet.specs.Parts.{Delivers, token-start}
use Rattle.sheet.specs.Reads.{call_of, part_of, read_of, row_of}
use Rattle.sheet.specs.declared.Read.{Read}

-- with shift 0 every place stays
pub shift_token_lem : (t : Token) → shift_token 0 t ≡ t
shift_token_lem t =
    let a : t.start + 0 ≡ t.start = omega arith in
    let b : t.end + 0 ≡ t.end = omega arith in
    let c : t.payload_start + 0 ≡ t.payload_start = omega arith in
    let d : t.payload_end + 0 ≡ t.payload_end = omega arith in
    rw (a, b, c, d)

shift_refusal : (r : Refusal) → refusal r.code (r.place + 0) ≡ r
shift_refusal r = let a : r.place + 0 ≡ r.place = omega arith in rw a

-- what the parts of two equal answers are
same_blank : {p q w u c v d k : ℕ} → ◌≡◌ {A = Result (ℕ × ℕ × ℕ × ℕ) (Refusal × ℕ)} (Ok (p, w, c, d)) (Ok (q, u, v, k)) → (p ≡ q) × (w ≡ u) × (c ≡ v) × (d ≡ k)
same_blank {p} {q} {w} {u} {c} {v} {d} {k} e =
    let x : ◌≡◌ {A = ℕ × ℕ × ℕ × ℕ} (p, w, c, d) (q, u, v, k) = cc in
    (ap (λ z. z.0) x, ap (λ z. z.1) x, ap (λ z. z.2) x, ap (λ z. z.3) x)

same_open : {r q : Refusal} {m n : ℕ} → ◌≡◌ {A = Result (ℕ × ℕ × ℕ × ℕ) (Refusal × ℕ)} (Err (r, m)) (Err (q, n)) → (r ≡ q) × (m ≡ n)
same_open {r} {q} {m} {n} e = let x : ◌≡◌ {A = Refusal × ℕ} (r, m) (q, n) = cc in (ap (λ z. z.0) x, ap (λ z. z.1) x)

-- ---- the four answers of a call
module _ (s : List ℕ) (at count : ℕ) where
  abbrev pub reads : Call
  reads = next Old (left s at) at

  call-is : call_of s at count ≡ step_by 0 work_limit (running Old at count) reads
  unfolding call_of step_with
  call-is = refl

  -- the call would take the advances above the limit
  pub call_limit : ltb work_limit (count + reads.advances) ≡ true → call_of s at count ≡ record { what = Error (refusal WorkLimit at); next = running Old at count; gap_depth = 0 }
  call_limit q = let a : at + 0 ≡ at = omega arith in call-is ∙ rw (q, a)

  module _ (q : ltb work_limit (count + reads.advances) ≡ false) where
    pub call_got : (t : Token) → reads.what ≡ Got t → call_of s at count ≡ record { what = Got t; next = running Old reads.at (count + reads.advances); gap_depth = reads.gap_depth }
    call_got t e = call-is ∙ rw (q, e, shift_token_lem t)

    pub call_error : (r : Refusal) → reads.what ≡ Error r
        → call_of s at count ≡ record { what = Error r; next = record { at = reads.at; count = count + reads.advances; done = Refused r; reading = Old }; gap_depth = reads.gap_depth }
    call_error r e = call-is ∙ rw (q, e, shift_refusal r)

    pub call-end : reads.what ≡ End
        → call_of s at count ≡ record { what = End; next = record { at = reads.at; count = count + reads.advances; done = Ended; reading = Old }; gap_depth = reads.gap_depth }
    call-end e = call-is ∙ rw (q, e)

    pub read_got : (t : Token) → reads.what ≡ Got t
        → (read_of s at count ≡ record { going = true; at = reads.at; advances = count + reads.advances; deep = token_depth t; how = Running })
        × ((row : List ℕ) → row_of s at count row ≡ token_entered s t (gap_entered (between s at t.start) row))
    unfolding read_of row_of
    read_got t e = (rw (call_got t e), λ row. rw (call_got t e))

    pub read_error : (r : Refusal) → reads.what ≡ Error r
        → (read_of s at count ≡ record { going = false; at = 0; advances = count + reads.advances; deep = 0; how = Refused r }) × ((row : List ℕ) → row_of s at count row ≡ row)
    unfolding read_of row_of
    read_error r e = (rw (call_error r e), λ row. rw (call_error r e))

    pub read-end : reads.what ≡ End
        → (read_of s at count ≡ record { going = false; at = 0; advances = count + reads.advances; deep = reads.gap_depth; how = Ended })
        × ((row : List ℕ) → row_of s at count row ≡ gap_entered (left s at) row)
    unfolding read_of row_of
    read-end e = (rw (call-end e), λ row. rw (call-end e))

  pub read_limit : ltb work_limit (count + reads.advances) ≡ true
      → (read_of s at count ≡ record { going = false; at = 0; advances = count; deep = 0; how = Refused (refusal WorkLimit at) }) × ((row : List ℕ) → row_of s at count row ≡ row)
  unfolding read_of row_of
  read_limit q = (rw (call_limit q), λ row. rw (call_limit q))

  -- ---- after a gap that is told apart
  pub record Gapped (p w c d : ℕ) : Type 0 where
    pub gap_is : gap (left s at) at ≡ Ok (p, w + c)
    pub far : Far (left s at) at (w + c) p
    pub goes_on : reads ≡ told d (more (w + c) (token_or_end Old (left s p) p))
    pub white_is : whites (between s at p) ≡ w
    pub comment_is : comments (between s at p) ≡ c

  pub gapped : (p w c d : ℕ) → apart (left s at) at ≡ Ok (p, w, c, d) → Gapped p w c d
  unfolding apart between
  gapped p w c d e = go (gap (left s at) at) refl e
    where
      go : (x : Skip) → gap (left s at) at ≡ x → apart_by (left s at) x (gap_depth_of (left s at) at) ≡ Ok (p, w, c, d) → Gapped p w c d
      go (Ok (q, m)) g z =
          let y = same_blank z in
          let a : q ≡ p = y.0 in
          let f : Far (left s at) at m p = (rw (g ∙ ap (λ (j : ℕ). Ok (j, m)) a) at (gap_sound (left s at) at)).is in
          let u : whites (take m (left s at)) ≡ w = y.1 in
          let v : comments (take m (left s at)) ≡ c = y.2 in
          let n : gap_depth_of (left s at) at ≡ d = y.3 in
          let k : w + c ≡ m = omega (arith, whites-comments (take m (left s at)), length-take-le m (left s at) f.within, u, v) in
          let b = up_to_far (left s at) at m p f in
          record { gap_is = rw (k, ← a) g; far = rw k f; goes_on = rw (k, ← n) (next-gap Old s at p m (rw (← a) g)); white_is = rw b u; comment_is = rw b v }
      go (Err (r, q, m)) g z = let k : ◌≡◌ {A = ℕ} 0 1 = cc in absurd (omega arith)

  pub gap-entered : (p w c d : ℕ) → Gapped p w c d → (row : List ℕ) → gap_entered (between s at p) row ≡ enter in_comments c (enter in_whitespace w row)
  unfolding gap_entered
  gap-entered p w c d h row = rw (h.white_is, h.comment_is)

  -- a gap up to the end is all that is left
  pub last-entered : (p w c d : ℕ) → Gapped p w c d → reads.what ≡ End → (row : List ℕ) → gap_entered (left s at) row ≡ enter in_comments c (enter in_whitespace w row)
  unfolding between
  last-entered p w c d h e row =
      let l : LaidIn Old (left s at) at reads.at reads.advances End = rw e at (next-laid Old (left s at) at).is in
      let z : ◌≡◌ {A = Skip} (Ok (p, w + c)) (Ok (reads.at, reads.advances)) = sym h.gap_is ∙ l.0 in
      let k : w + c ≡ reads.advances = (same_ok _ _ _ _ z).1 in
      let b : between s at p ≡ left s at = up_to_far (left s at) at (w + c) p h.far ∙ ap (λ (j : ℕ). take j (left s at)) (k ∙ l.1) ∙ take-length (left s at) in
      ap (λ (xs : List ℕ). gap_entered xs row) (sym b) ∙ gap-entered p w c d h row

  -- a gap that is open
  pub opened : (r : Refusal) (m : ℕ) → apart (left s at) at ≡ Err (r, m) → (reads.what ≡ Error r) × (reads.advances ≡ m)
  unfolding apart
  opened r m e = go (gap (left s at) at) refl e
    where
      go : (x : Skip) → gap (left s at) at ≡ x → apart_by (left s at) x (gap_depth_of (left s at) at) ≡ Err (r, m) → (reads.what ≡ Error r) × (reads.advances ≡ m)
      go (Ok (q, n)) g z = let k : ◌≡◌ {A = ℕ} 0 1 = cc in absurd (omega arith)
      go (Err (r', q, n)) g z =
          let y = same_open z in
          let a : r' ≡ r = y.0 in
          let b : n ≡ m = y.1 in
          let h = next_lost Old s at q n r' g in
          (ap (λ (x : Call). x.what) h ∙ ap Error a, ap (λ (x : Call). x.advances) h ∙ b)

-- ---- a token: its characters, and where what is left begins, after what is dropped
module _ (s : List ℕ) (at : ℕ) (t : Token) (e : (next Old (left s at) at).what ≡ Got t) where
  pub laid : Placed Old (left s at) at t (next Old (left s at) at).at (next Old (left s at) at).advances
  laid = rw e at (next-laid Old (left s at) at).is

  to_start : drop laid.gapped (left s at) ≡ left s t.start
  to_start = far_left s at laid.gapped t.start laid.gap_far

  span : Far (left s t.start) t.start laid.width t.end
  span = rw to_start at laid.span

  to_end : drop laid.width (drop laid.gapped (left s at)) ≡ left s t.end
  to_end = ap (drop laid.width) to_start ∙ far_left s t.start laid.width t.end span

  tail-is : tail_of Old t.kind (drop laid.width (drop laid.gapped (left s at))) ≡ drops s t
  tail-is = ap (tail_of Old t.kind) to_end

  pub beyond-is : beyond s t ≡ (next Old (left s at) at).at
  unfolding beyond
  beyond-is = sym (rw to_end at laid.tail.there)

  -- the characters of its gap, its own, and what is dropped: with those that are left they are all
  pub sizes : length (between s at t.start) + length (between s t.start t.end) + drops s t + length (left s (next Old (left s at) at).at) ≡ length (left s at)
  sizes =
      let a = span_length s at laid.gapped t.start laid.gap_far in
      let b = span_length s t.start laid.width t.end span in
      let l = placed_length Old s at t (next Old (left s at) at).at (next Old (left s at) at).advances laid in
      omega (arith, a, b, l, tail-is)

  pub some : 0 < length (between s t.start t.end)
  some = omega (arith, laid.some, span_length s t.start laid.width t.end span)

  -- the cursor passes as many bytes at least
  pub moved : at + (length (between s at t.start) + length (between s t.start t.end) + drops s t) ≤ (next Old (left s at) at).at
  moved =
      let a = span_length s at laid.gapped t.start laid.gap_far in
      let b = span_length s t.start laid.width t.end span in
      let n = lands _ s at (next Old (left s at) at).at (placed_far Old (left s at) at t (next Old (left s at) at).at (next Old (left s at) at).advances laid) in
      omega (arith, a, b, n.gone, tail-is)

-- ---- WHAT HOLDS BEFORE A CALL: the rest of the run, from here, and what it enters on the row
pub record Going (s : List ℕ) (at count : ℕ) (row : List ℕ) : Type 0 where
  pub calls : ℕ
  pub room : ℕ
  pub how_is : (run_from s 0 work_limit calls room (running Old at count)).how ≡ (story s).how
  pub count_is : (run_from s 0 work_limit calls room (running Old at count)).state.count ≡ (story s).state.count
  pub row_is : entered s at (run_from s 0 work_limit calls room (running Old at count)).tokens row ≡ entered s 0 (story s).tokens empty_sheet
  pub deep : ℕ
  pub deep_is : deeper (depth_over (run_from s 0 work_limit calls room (running Old at count)).tokens deep) (run_from s 0 work_limit calls room (running Old at count)).last ≡ greatest (story s)
  pub low : deep ≤ 0x7FFFFFFF
  pub enough : length (left s at) < calls
  pub space : length (left s at) ≤ room
  pub within : at ≤ length s
  pub small : length s ≤ 0x7FFFFFFF
  pub spent : count ≤ work_limit
  pub below : Below (3 * at) row
  pub size : length row ≡ sheet_size

pub going_start : (s : List ℕ) → checks s 0 ≡ (Ok tt) → (row : List ℕ) → row ≡ empty_sheet → (g : Going s 0 0 row) × (g.deep ≡ 0)
unfolding story greatest whole_run_with run_with
going_start s e row r =
    let a = allowed s 0 e in
    let b : boundary s 0 ≡ true = bounded s 0 (omega arith) (valid_whole s a.valid) in
    let n : 0 + length (left s 0) ≤ length s = short s 0 (omega arith) in (
      record {
        calls = suc (length s);
        room = length s;
        how_is = rw (e, b);
        count_is = rw (e, b);
        row_is = rw (r, e, b);
        deep = 0;
        deep_is = rw (e, b);
        low = omega arith;
        enough = omega (arith, n);
        space = omega (arith, n);
        within = omega arith;
        small = a.short;
        spent = omega arith;
        below = rw r empty_below;
        size = rw r empty_length;
      },
      refl,
    )

-- the errors that are tallied: those of the reading, and 15
abbrev pub is_tallied : Code → Bool
is_tallied c = among (code_number c) (2 ∷ 5 ∷ 6 ∷ 8 ∷ 9 ∷ 10 ∷ 15 ∷ 22 ∷ 23 ∷ [])

limit_tallied : is_tallied WorkLimit ≡ true
unfolding among
limit_tallied = refl

abbrev pub TalliedIn : Outcome → Type 0
TalliedIn Ended = Unit {0}
TalliedIn (Refused z) = is_tallied z.code ≡ true
TalliedIn Running = Unit {0}

error_tallied : (cs : List ℕ) (at : ℕ) (r : Refusal) → (next Old cs at).what ≡ Error r → is_tallied r.code ≡ true
unfolding among
error_tallied cs at r e =
    let h = next_says Old (λ (t : Token). Unit {0}) (λ (c : Code). is_tallied c ≡ true) (λ kind o p h. tt) (λ kind o p from to h s. tt) refl refl refl refl refl refl refl refl (λ o p from to. tt) (λ g d t h. h) cs at in
    let w : SaysIn (λ (t : Token). Unit {0}) (λ (c : Code). is_tallied c ≡ true) (Error r) = rw e at h.is in
    w

-- ---- a turn
module _ (s : List ℕ) (at count : ℕ) (row : List ℕ) (g : Going s at count row) where
  abbrev x : Call
  x = next Old (left s at) at

  step_what : {r : Stepped} → call_of s at count ≡ r → (step s 0 work_limit (running Old at count)).what ≡ r.what
  unfolding call_of
  step_what e = ap (λ (z : Stepped). z.what) e

  step-next : {r : Stepped} → call_of s at count ≡ r → (step s 0 work_limit (running Old at count)).next ≡ r.next
  unfolding call_of
  step-next e = ap (λ (z : Stepped). z.next) e

  step-deep : {r : Stepped} → call_of s at count ≡ r → (step s 0 work_limit (running Old at count)).gap_depth ≡ r.gap_depth
  unfolding call_of
  step-deep e = ap (λ (z : Stepped). z.gap_depth) e

  -- there is a call left
  some-call : (P : ℕ → Type 0) → ((k : ℕ) → g.calls ≡ suc k → P (suc k)) → P g.calls
  some-call P f = go g.calls refl
    where
      go : (n : ℕ) → g.calls ≡ n → P n
      go zero e = let h = g.enough in absurd (omega (arith, h, e))
      go (suc k) e = f k e

  gap_below : (xs : List ℕ) {m : ℕ} {l : List ℕ} → Below m l → Below (m + whites xs + comments xs) (gap_entered xs l)
  unfolding gap_entered
  gap_below xs b = enter_below in_comments (comments xs) (enter_below in_whitespace (whites xs) b)

  gap-size : (xs l : List ℕ) → length (gap_entered xs l) ≡ length l
  unfolding gap_entered
  gap-size xs l = enter-length _ _ _ ∙ enter-length _ _ _

  -- how the run stops where it does
  pub record Over (how : Outcome) (n d : ℕ) (row' : List ℕ) : Type 0 where
    pub how_over : how ≡ (story s).how
    pub count_over : n ≡ (story s).state.count
    pub row-over : how ≡ Ended → row' ≡ entered s 0 (story s).tokens empty_sheet
    pub below_over : Below 0x400000000 row'
    pub size-over : length row' ≡ sheet_size
    pub spent-over : n ≤ work_limit
    pub deep-over : how ≡ Ended → d ≡ greatest (story s)
    pub low-over : d ≤ 0x7FFFFFFF
    pub code-over : TalliedIn how

  over_error : (z : Refusal) (u : Tokenizer) (h : ℕ) → call_of s at count ≡ record { what = Error z; next = u; gap_depth = h } → u.count ≤ work_limit → is_tallied z.code ≡ true
      → Over (Refused z) u.count (deeper g.deep 0) row
  over_error z u h e m k =
      let f : run_from s 0 work_limit g.calls g.room (running Old at count) ≡ stopped (Refused z) u =
      some-call (λ n. run_from s 0 work_limit n g.room (running Old at count) ≡ stopped (Refused z) u)
      (λ j _. run_error s 0 work_limit j g.room (running Old at count) z (step_what e) ∙ ap (stopped (Refused z)) (step-next e)) in
      record {
        how_over = sym (ap (λ (r : Run). r.how) f) ∙ g.how_is;
        count_over = sym (ap (λ (r : Run). r.state.count) f) ∙ g.count_is;
        row-over = λ q. let w : ◌≡◌ {A = ℕ} 0 1 = cc in absurd (omega arith);
        below_over = below_more (omega (arith, g.within, g.small)) g.below;
        size-over = g.size;
        spent-over = m;
        deep-over = λ q. let w : ◌≡◌ {A = ℕ} 0 1 = cc in absurd (omega arith);
        low-over = least g.deep 0 0x7FFFFFFF g.low (omega arith);
        code-over = k;
      }

  over-end : (u : Tokenizer) (h : ℕ) → call_of s at count ≡ record { what = End; next = u; gap_depth = h } → u.count ≤ work_limit → h ≤ 0x7FFFFFFF
      → Over Ended u.count (deeper g.deep h) (gap_entered (left s at) row)
  unfolding entered depth_over
  over-end u h e m b =
      let f : run_from s 0 work_limit g.calls g.room (running Old at count) ≡ ending h u =
      some-call (λ n. run_from s 0 work_limit n g.room (running Old at count) ≡ ending h u)
      (λ k _. run_end s 0 work_limit k g.room (running Old at count) (step_what e) ∙ rw (step-next e, step-deep e)) in
      record {
        how_over = sym (ap (λ (r : Run). r.how) f) ∙ g.how_is;
        count_over = sym (ap (λ (r : Run). r.state.count) f) ∙ g.count_is;
        row-over = λ q. rw f at g.row_is;
        below_over = let a = whites-comments (left s at) in
            let b : at + length (left s at) ≤ length s = short s at g.within in
            below_more (omega (arith, a, b, g.small)) (gap_below (left s at) g.below);
        size-over = gap-size (left s at) row ∙ g.size;
        spent-over = m;
        deep-over = λ q. rw f at g.deep_is;
        low-over = least g.deep h 0x7FFFFFFF g.low b;
        code-over = tt;
      }

  end_low : x.what ≡ End → x.gap_depth ≤ 0x7FFFFFFF
  end_low e = let k = fits s at in rw (last-told Old s at e) (omega (arith, gap-small (left s at) at, k, g.small))

  -- a token
  module _ (t : Token) (e : x.what ≡ Got t) where
    token_below : Below (3 * x.at) (token_entered s t (gap_entered (between s at t.start) row))
    unfolding token_entered
    token_below =
        let xs = between s at t.start in
        let b = whites-comments xs in
        let d = fails-le (left s t.start) t.start in
        let h = some s at t e in
        let m = moved s at t e in
        let w = gap_below xs g.below in
        let k = enter_below in_tokens (length (between s t.start t.end)) (enter_below (kind_number t.kind) 1 w) in
        below_more (omega (arith, b, d, h, m)) (enter_below failed_in (fails (left s t.start) t.start) (enter_below dropped_after (drops s t) k))

    token-size : length (token_entered s t (gap_entered (between s at t.start) row)) ≡ sheet_size
    unfolding token_entered
    token-size = enter-length _ _ _ ∙ enter-length _ _ _ ∙ enter-length _ _ _ ∙ enter-length _ _ _ ∙ gap-size _ row ∙ g.size

    -- how deep its gap and its code go
    token-low : token_depth t ≤ 0x7FFFFFFF
    token-low =
        let (a, b, p, q) = next_small Old (left s at) at t e in
        let k = fits s at in
        rw (p, q) (least x.gap_depth x.code_depth 0x7FFFFFFF (omega (arith, a, k, g.small)) (omega (arith, b, k, g.small)))

    on : (q : ltb work_limit (count + x.advances) ≡ false)
        → (i : Going s x.at (count + x.advances) (token_entered s t (gap_entered (between s at t.start) row))) × (i.deep ≡ deeper g.deep (token_depth t))
    unfolding entered depth_over
    on q = go g.calls refl
      where
        l : length (between s at t.start) + length (between s t.start t.end) + drops s t + length (left s x.at) ≡ length (left s at)
        l = sizes s at t e

        h : call_of s at count ≡ record { what = Got t; next = running Old x.at (count + x.advances); gap_depth = x.gap_depth }
        h = call_got s at count q t e

        go : (n : ℕ) → g.calls ≡ n
            → (i : Going s x.at (count + x.advances) (token_entered s t (gap_entered (between s at t.start) row))) × (i.deep ≡ deeper g.deep (token_depth t))
        go zero z = let y = g.enough in absurd (omega (arith, y, z))
        go (suc k) z =
            let m = some s at t e in
            let v = g.space in
            let n = g.enough in
            let f : run_from s 0 work_limit g.calls g.room (running Old at count) ≡ also t (run_from s 0 work_limit k (g.room - 1) (running Old x.at (count + x.advances))) =
            ap (λ (j : ℕ). run_from s 0 work_limit j g.room (running Old at count)) z
            ∙ run_got s 0 work_limit k g.room (running Old at count) t (step_what h) (lt-ltb 0 g.room (omega (arith, l, m, v)))
            ∙ ap (λ (u : Tokenizer). also t (run_from s 0 work_limit k (g.room - 1) u)) (step-next h) in (
              record {
                calls = k;
                room = g.room - 1;
                how_is = sym (ap (λ (r : Run). r.how) f) ∙ g.how_is;
                count_is = sym (ap (λ (r : Run). r.state.count) f) ∙ g.count_is;
                row_is = sym (ap (λ (p : ℕ). entered s p (run_from s 0 work_limit k (g.room - 1) (running Old x.at (count + x.advances))).tokens (token_entered s t (gap_entered (between s at t.start) row))) (beyond-is s at t e))
                    ∙ sym (ap (λ (r : Run). entered s at r.tokens row) f)
                    ∙ g.row_is;
                deep = deeper g.deep (token_depth t);
                deep_is = rw f at g.deep_is;
                low = least g.deep (token_depth t) 0x7FFFFFFF g.low token-low;
                enough = omega (arith, l, m, n, z);
                space = omega (arith, l, m, v);
                within = (call-within Old s at g.within).room;
                small = g.small;
                spent = ltb-false work_limit (count + x.advances) q;
                below = token_below;
                size = token-size;
              },
              refl,
            )

    onward : at < x.at
    onward = omega (arith, moved s at t e, some s at t e)

  -- ---- the two ways of a turn, as the code takes them
  pub record Onto (r : Read) (row' : List ℕ) : Type 0 where
    pub to : Going s r.at r.advances row'
    pub deeper-is : to.deep ≡ deeper g.deep r.deep
    pub moves : at < r.at

  abbrev pub Onwards : Read → List ℕ → Type 0
  Onwards r row' = (r.going ≡ true → Onto r row') × (r.going ≡ false → Over r.how r.advances (deeper g.deep r.deep) row')

  no : {A : Type 0} → false ≡ true → A
  no e = let w : ◌≡◌ {A = ℕ} 0 1 = cc in absurd (omega arith)

  pub onwards : Onwards (read_of s at count) (row_of s at count row)
  unfolding read_of row_of
  onwards = by (ltb work_limit (count + x.advances)) refl
    where
      what : ltb work_limit (count + x.advances) ≡ false → (w : What) → x.what ≡ w → Onwards (read_of s at count) (row_of s at count row)
      what q (Got t) e = let h = call_got s at count q t e in rw h (λ _. (let o = on t e q in record { to = o.0; deeper-is = o.1; moves = onward t e }), λ z. no (sym z))
      what q (Error r) e = let h = call_error s at count q r e in rw h (λ z. no z, λ _. over_error r _ _ h (ltb-false work_limit (count + x.advances) q) (error_tallied (left s at) at r e))
      what q End e = let h = call-end s at count q e in rw h (λ z. no z, λ _. over-end _ _ h (ltb-false work_limit (count + x.advances) q) (end_low e))

      by : (b : Bool) → ltb work_limit (count + x.advances) ≡ b → Onwards (read_of s at count) (row_of s at count row)
      by true q = let h = call_limit s at count q in rw h (λ z. no z, λ _. over_error (refusal WorkLimit at) _ _ h g.spent limit_tallied)
      by false q = what q x.what refl

-- ---- a call as the code takes it: its gap, and then the token, the error or the end, y, at p
module _ (s : List ℕ) (at count : ℕ) (row : List ℕ) (g : Going s at count row) (p w c d : ℕ) (h : Gapped s at count p w c d) (y : Call) (e : y ≡ token_or_end Old (left s p) p) where
  whole : next Old (left s at) at ≡ told d (more (w + c) y)
  whole = h.goes_on ∙ ap (λ (z : Call). told d (more (w + c) z)) (sym e)

  total-is : count + (next Old (left s at) at).advances ≡ count + (w + c + y.advances)
  unfolding more told
  total-is = ap (λ (z : Call). count + z.advances) whole

  pub after_small : w + c + y.advances ≤ 0xFFFFFFFF
  unfolding more told
  after_small =
      let a = (call-within Old s at g.within).most in
      let b : at + length (left s at) ≤ length s = short s at g.within in
      let d : (next Old (left s at) at).advances ≡ w + c + y.advances = ap (λ (z : Call). z.advances) whole in
      omega (arith, a, b, d, g.small)

  pub after_limit : work_limit < count + (w + c + y.advances)
      → (record { going = false; at = 0; advances = count; deep = 0; how = Refused (refusal WorkLimit at) } ≡ read_of s at count) × (row ≡ row_of s at count row)
  after_limit l = let z = read_limit s at count (lt-ltb work_limit (count + (next Old (left s at) at).advances) (omega (arith, l, total-is))) in (sym z.0, sym (z.1 row))

  pub delivers : (t : Token) → y.what ≡ Got t → Delivers (token_or_end Old (left s p) p) t y.at y.advances
  delivers t q = record { what_is = ap (λ (z : Call). z.what) (sym e) ∙ q; at-is = ap (λ (z : Call). z.at) (sym e); spent-is = ap (λ (z : Call). z.advances) (sym e) }

  module _ (l : count + (w + c + y.advances) ≤ work_limit) where
    test : ltb work_limit (count + (next Old (left s at) at).advances) ≡ false
    test = le-ltb work_limit (count + (next Old (left s at) at).advances) (omega (arith, l, total-is))

    what_is : (x : What) → y.what ≡ x → (next Old (left s at) at).what ≡ told_what d y.code_depth x
    unfolding more told
    what_is x q = ap (λ (z : Call). z.what) whole ∙ ap (told_what d y.code_depth) q

    at-is : (next Old (left s at) at).at ≡ y.at
    unfolding more told
    at-is = ap (λ (z : Call). z.at) whole

    deep_is : (next Old (left s at) at).gap_depth ≡ d
    unfolding told
    deep_is = ap (λ (z : Call). z.gap_depth) whole

    pub after_got : (t : Token) → y.what ≡ Got t
        → (record { going = true; at = y.at; advances = count + (w + c + y.advances); deep = deeper d y.code_depth; how = Running } ≡ read_of s at count)
        × ((to : List ℕ) → to ≡ enter failed_in (part_of s t).failed (enter dropped_after (part_of s t).dropped (enter in_tokens (part_of s t).width (enter (kind_number t.kind) 1 (enter in_comments c (enter in_whitespace w row)))))
        → to ≡ row_of s at count row)
    unfolding part_of token_entered
    after_got t q =
        let z = read_got s at count test (told_token d y.code_depth t) (what_is (Got t) q) in
        let b : t.start ≡ p = token-start s p t y.at y.advances (delivers t q) in
        (rw (← total-is, ← at-is) (sym z.0), λ to f. f ∙ sym (z.1 row ∙ rw (b, gap-entered s at count p w c d h row)))

    pub after_error : (r : Refusal) → y.what ≡ Error r
        → (record { going = false; at = 0; advances = count + (w + c + y.advances); deep = 0; how = Refused r } ≡ read_of s at count) × (row ≡ row_of s at count row)
    after_error r q = let z = read_error s at count test r (what_is (Error r) q) in (rw (← total-is) (sym z.0), sym (z.1 row))

    pub after-end : y.what ≡ End
        → (record { going = false; at = 0; advances = count + (w + c + y.advances); deep = d; how = Ended } ≡ read_of s at count)
        × ((to : List ℕ) → to ≡ enter in_comments c (enter in_whitespace w row) → to ≡ row_of s at count row)
    after-end q =
        let z = read-end s at count test (what_is End q) in
        (rw (← total-is, ← deep_is) (sym z.0), λ to f. f ∙ sym (z.1 row ∙ last-entered s at count p w c d h (what_is End q) row))

-- ---- a comment that does not end
module _ (s : List ℕ) (at count : ℕ) (row : List ℕ) (g : Going s at count row) (r : Refusal) (m : ℕ) (e : apart (left s at) at ≡ Err (r, m)) where
  pub open_small : m ≤ 0xFFFFFFFF
  open_small =
      let a = (call-within Old s at g.within).most in
      let b : at + length (left s at) ≤ length s = short s at g.within in
      omega (arith, a, b, (opened s at count r m e).1, g.small)

  pub open_read : (cond (ltb work_limit (count + m)) (record { going = false; at = 0; advances = count; deep = 0; how = Refused (refusal WorkLimit at) }) (record { going = false; at = 0; advances = count + m; deep = 0; how = Refused r }) ≡ read_of s at count)
      × (row ≡ row_of s at count row)
  open_read = go (ltb work_limit (count + m)) refl
    where
      o : ((next Old (left s at) at).what ≡ Error r) × ((next Old (left s at) at).advances ≡ m)
      o = opened s at count r m e

      go : (b : Bool) → ltb work_limit (count + m) ≡ b
          → (cond b (record { going = false; at = 0; advances = count; deep = 0; how = Refused (refusal WorkLimit at) }) (record { going = false; at = 0; advances = count + m; deep = 0; how = Refused r }) ≡ read_of s at count)
          × (row ≡ row_of s at count row)
      go true q = let z = read_limit s at count (rw o.1 q) in (sym z.0, sym (z.1 row))
      go false q = let z = read_error s at count (rw o.1 q) r o.0 in (rw (← o.1) (sym z.0), sym (z.1 row))
