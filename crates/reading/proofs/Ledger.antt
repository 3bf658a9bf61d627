-- THE BOOKS CLOSE. Of every run from a running tokenizer, and so of one from the start of a text; ledger/specs/Books says the same of what
-- `run::run` answers.
use Rattle.std.specs.Prelude.{◌*◌, ◌+◌, ◌-◌, ◌<◌, ◌≤◌, suc, ℕ, List, [], ◌∷◌, ◌≡◌, refl, drop, take, Ok}
use Rattle.std.proofs.Common.{arith, ◌∙◌, sym, take-append-drop, drop-drop}
use Rattle.std.proofs.Math.Path.{ap}
use Rattle.std.proofs.Math.ListN.{length}
use Rattle.std.proofs.Math.Seq.{drop-length, take-length}
use Rattle.utf8.specs.Utf8.{chars, reach}
use Rattle.record.specs.declared.Reading.{Reading}
use Rattle.record.specs.declared.Token.{Token}
use Rattle.scan.specs.Far.{Far, far_left, short}
use Rattle.scan.specs.Until.{left}
use Rattle.reading.specs.Answers.{start_in}
use Rattle.reading.specs.Blank.{Blank}
use Rattle.reading.proofs.Blanks.{gap-blank}
use Rattle.reading.proofs.CallLaw.{Placed}
use Rattle.reading.specs.Gaps.{gap}
use Rattle.reading.specs.Measures.{Tiled, attempts, gap-last, hashes, marks, tail_of, token-next}
use Rattle.reading.specs.Passes.{gap_sound}
use Rattle.reading.specs.Run.{Run, also, run, run_with, shift_token, stopped}
use Rattle.reading.proofs.Story.{Story, again_end, failed, finished, halted, tell, took}
use Rattle.reading.proofs.Sums.{placed_cost, placed_far, placed_length, placed_weight}
use Rattle.reading.specs.Sums.{far_length, far_reach, far_whole, weight, weight_is}
use Rattle.reading.specs.declared.Outcome.TheVariants.{Ended, Running}

-- a token of a run lies between its gap and what is dropped
lay-token : (rd : Reading) (s : List ℕ) (shift at : ℕ) (t : Token) (p n : ℕ) → Placed rd (left s at) at t p n → (ts : List Token) → Tiled rd shift (left s p) p ts
    → Tiled rd shift (left s at) at (shift_token shift t ∷ ts)
lay-token rd s shift at t p n h ts rest =
    let cs = left s at in
    let g = h.gapped in
    let w = h.width in
    let d = tail_of rd t.kind (drop w (drop g cs)) in
    let a : t.start ≡ reach (take g cs) at = far_reach cs at g t.start h.gap_far in
    let b : t.end ≡ reach (take w (drop g cs)) t.start = far_reach (drop g cs) t.start w t.end h.span in
    let c : p ≡ reach (take d (drop w (drop g cs))) t.end = far_reach (drop w (drop g cs)) t.end d p h.tail in
    let q : drop d (drop w (drop g cs)) ≡ left s p =
    drop-drop d w (drop g cs) ∙ drop-drop (w + d) g cs ∙ far_left s at (g + (w + d)) p (placed_far rd cs at t p n h) in
    token-next {cs = cs} {at = at} {t = shift_token shift t} {ts = ts} (take g cs) (take w (drop g cs)) (take d (drop w (drop g cs))) (drop d (drop w (drop g cs)))
    (rw (take-append-drop d (drop w (drop g cs)), take-append-drop w (drop g cs), take-append-drop g cs))
    (rw (far_length cs at g t.start h.gap_far, ← a) h.gap_is)
    (rw (take-append-drop d (drop w (drop g cs)), take-append-drop w (drop g cs)) (gap-blank cs at t.start g h.gap_is))
    (ap (λ (j : ℕ). j + shift) a)
    (rw (← a, ← b))
    (rw (far_length (drop g cs) t.start w t.end h.span) h.some)
    (rw (far_length (drop w (drop g cs)) t.end d p h.tail, take-append-drop d (drop w (drop g cs))))
    (rw (← a, ← b, ← c, q) rest)

-- the last gap, up to the end
all_blank : (cs : List ℕ) (at p : ℕ) → gap cs at ≡ Ok (p, length cs) → Blank [] cs
all_blank cs at p e =
    let h : Blank (drop (length cs) cs) cs = rw (take-length cs) at (gap-blank cs at p (length cs) e) in
    rw (drop-length cs) at h

pub data Settled (r : Run) : Type 0 where
  is_done : r.state.done ≡ r.how → Settled r
  goes_on : (r.how ≡ Ended → ⊥) → r.state.done ≡ Running → Settled r

settle_also : (t : Token) (r : Run) → Settled r → Settled (also t r)
settle_also t r (is_done e) = is_done e
settle_also t r (goes_on n e) = goes_on n e

module _ (rd : Reading) (s : List ℕ) (shift : ℕ) where
  -- (a)
  pub counts : {k at count : ℕ} {r : Run} → Story rd s shift k at count r → r.how ≡ Ended
      → r.state.count ≡ count + length (left s at) + attempts s shift r.tokens
  unfolding attempts
  counts (halted e c ne nr sd) h = absurd (ne h)
  counts (failed p n f e c ne nr sd) h = absurd (ne h)
  counts (finished p g e c nr sd) h = rw (e, c) (omega arith)
  counts {k} {at} {count} {r} (took t p n r' pl st e) h =
      let i = counts st (ap (λ (x : Run). x.how) (sym e) ∙ h) in
      let l = placed_length rd s at t p n pl in
      let z = placed_cost rd s shift at t p n pl in
      let m = pl.spent in
      let c : r.state.count ≡ r'.state.count = ap (λ (x : Run). x.state.count) e in
      rw e (omega (arith, i, l, z, m, c))

  -- (c)
  pub bounds : {k at count : ℕ} {r : Run} (n : ℕ) → Story rd s shift k at count r → length (left s at) ≤ n
      → r.state.count ≤ count + length (left s at) + weight n (left s at)
  bounds n (halted e c ne nr sd) h = omega arith
  bounds n (failed p m f e c ne nr sd) h = omega (arith, f.within)
  bounds n (finished p g e c nr sd) h = omega arith
  bounds {k} {at} {count} {r} n (took t p m r' pl st e) h =
      let l = placed_length rd s at t p m pl in
      let i = bounds n st (omega arith) in
      let c : r.state.count ≡ r'.state.count = ap (λ (x : Run). x.state.count) e in
      let w = placed_weight rd s at t p n m pl h in
      let z = pl.spent in
      omega (arith, l, i, c, w, z)

  -- (b)
  pub tiles : {k at count : ℕ} {r : Run} → Story rd s shift k at count r → r.how ≡ Ended → Tiled rd shift (left s at) at r.tokens
  tiles (halted e c ne nr sd) h = absurd (ne h)
  tiles (failed p n f e c ne nr sd) h = absurd (ne h)
  tiles {k} {at} (finished p g e c nr sd) h =
      let f : Far (left s at) at (length (left s at)) p = (rw g at (gap_sound (left s at) at)).is in
      let z : gap (left s at) at ≡ Ok (reach (left s at) at, length (left s at)) = rw (far_whole (left s at) at p f) at g in
      rw e (gap-last z (all_blank (left s at) at p g))
  tiles {k} {at} {count} {r} (took t p n r' pl st e) h =
      let i = tiles st (ap (λ (x : Run). x.how) (sym e) ∙ h) in
      rw e (lay-token rd s shift at t p n pl r'.tokens i)

  -- the tokenizer afterwards: done as the run says, or going on (after 14 and 15)
  pub settles : {k at count : ℕ} {r : Run} → Story rd s shift k at count r → Settled r
  settles (halted e c ne nr sd) = goes_on ne sd
  settles (failed p n f e c ne nr sd) = is_done sd
  settles (finished p g e c nr sd) = is_done sd
  settles (took t p n r' pl st e) = rw e (settle_also (shift_token shift t) r' (settles st))

  -- calls enough
  pub runs_out : {k at count : ℕ} {r : Run} → Story rd s shift k at count r → length (left s at) < k → r.how ≡ Running → ⊥
  runs_out (halted e c ne nr sd) h q = omega (arith, nr q)
  runs_out (failed p n f e c ne nr sd) h q = nr q
  runs_out (finished p g e c nr sd) h q = nr q
  runs_out {k} {at} {count} {r} (took t p n r' pl st e) h q =
      let l = placed_length rd s at t p n pl in
      let m = pl.some in
      runs_out st (omega (arith, l, m)) (ap (λ (x : Run). x.how) (sym e) ∙ q)

-- From the start of a text s of N characters, in each reading, with any shift, work limit and room.
module _ (rd : Reading) (s : List ℕ) (shift limit room : ℕ) where
  abbrev pub whole : Run
  whole = run s shift limit room (start_in rd)

  -- (a) at the end of a run the advances are N, and for each delivered Hash the advances that the failed attempt at its place takes
  pub advances_at-end : whole.how ≡ Ended → whole.state.count ≡ length (chars s) + attempts s shift whole.tokens
  unfolding run_with
  advances_at-end e = let h = counts rd s shift (tell s shift limit (suc (length s)) room (start_in rd) refl) e in omega (arith, h)

  -- (b) gaps, tokens and dropped characters tile the text
  pub tiled_at-end : whole.how ≡ Ended → Tiled rd shift (chars s) 0 whole.tokens
  unfolding run_with
  tiled_at-end e = tiles rd s shift (tell s shift limit (suc (length s)) room (start_in rd) refl) e

  -- (c) in every run, whatever stops it: N, two for each hash that does not read #![, and N for each that does
  pub advances_bounded : whole.state.count ≤ length (chars s) + 2 * (hashes (chars s) - marks (chars s)) + marks (chars s) * length (chars s)
  unfolding run_with
  advances_bounded =
      let h = bounds rd s shift (length (chars s)) (tell s shift limit (suc (length s)) room (start_in rd) refl) (omega arith) in
      let w = weight_is (length (chars s)) (chars s) in
      omega (arith, h, w)

  -- a run never lacks calls: it stops at the end, at an error, at 14 or at 15
  pub stops : whole.how ≡ Running → ⊥
  unfolding run_with
  stops e =
      let n : 0 + length (chars s) ≤ length s = short s 0 (omega arith) in
      runs_out rd s shift (tell s shift limit (suc (length s)) room (start_in rd) refl) (omega (arith, n)) e

  -- a run that has ended is repeated as it is, by any further run
  pub repeats : (shift' limit' room' : ℕ) → whole.how ≡ Ended → run s shift' limit' room' whole.state ≡ stopped Ended whole.state
  unfolding run_with
  repeats shift' limit' room' e = go (settles rd s shift (tell s shift limit (suc (length s)) room (start_in rd) refl))
    where
      go : Settled whole → run s shift' limit' room' whole.state ≡ stopped Ended whole.state
      go (is_done d) = again_end s shift' limit' room' whole.state (d ∙ e)
      go (goes_on n d) = absurd (n e)
