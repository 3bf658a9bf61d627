-- WHICH OF THE TWO IT IS, of every text: 22 exactly where half a symbol stands at the place that is told, 23 exactly where a character stands there that starts nothing.
use Rattle.std.specs.Prelude.{◌+◌, ◌-◌, ◌≤◌, ℕ, Bool, ◌||◌, cond, false, not, List, [], ◌∷◌, ◌≡◌, eqb, length, Ok, Err}
use Rattle.std.proofs.Common.{arith, ◌∙◌, ap, sym, eqb-true}
use Rattle.std.proofs.Math.Bool.{true}
use Rattle.std.proofs.Math.Path.{refl}
use Rattle.utf8.specs.Chars.{'-, '/, '=, 'at, 'dot, '~}
use Rattle.unicode_xid.specs.Identifier.{is_identifier_start}
use Rattle.unicode_xid.specs.Whitespace.{is_whitespace}
use Rattle.record.specs.Checks.{checks}
use Rattle.record.specs.Codes.{Refuses, among, checks-refuse}
use Rattle.record.specs.Numbers.{code_again, code_number, code_of}
use Rattle.record.specs.Records.{refusal}
use Rattle.record.specs.Rust.{is_finer}
use Rattle.record.specs.declared.Code.{Code}
use Rattle.record.specs.declared.Code.TheVariants.{HalfSymbol, NoRoom, StrayCharacter}
use Rattle.record.specs.declared.Refusal.{Refusal}
use Rattle.record.specs.declared.Token.{Token}
use Rattle.record.specs.declared.Reading.{Reading}
use Rattle.scan.specs.Far.{Far, far_left}
use Rattle.scan.specs.Until.{left}
use Rattle.scan.specs.Shapes.{Skip}
use Rattle.reading.specs.Answers.{more, told as deep, told_what}
use Rattle.reading.specs.Gaps.{gap, gap_depth_of}
use Rattle.reading.specs.Next.{next, token_or_end}
use Rattle.reading.specs.Passes.{gap_sound}
use Rattle.reading.specs.Run.{done_by, shift_what}
use Rattle.reading.specs.Steps.{next-gap, next_lost}
use Rattle.reading.specs.Symbols.{singles}
use Rattle.reading.specs.declared.Call.{Call}
use Rattle.reading.specs.declared.Outcome.{Outcome}
use Rattle.reading.specs.declared.Outcome.TheVariants.{Refused, Running}
use Rattle.reading.specs.declared.Tokenizer.{Tokenizer}
use Rattle.reading.specs.declared.What.{What}
use Rattle.reading.specs.declared.What.TheVariants.{End, Error, Got}
use Rattle.run.specs.Checked.{next_token}
use Rattle.run.specs.declared.Ran.{Ran}
use Rattle.ledger.specs.Answered.{Loses}
use Rattle.ledger.specs.Books.{held}
use Rattle.callers.specs.PublicCalls.{Nexts, RunsFrom}
use Rattle.callers.specs.Repeated.{Calls, Last, answers, full, none, one, repeated}
use Rattle.callers.specs.Single.{Single, call_of, end_kept, error_kept, limited, off, read, refused, single}
use Rattle.unknown.specs.Shared.{Coarse, gap-coarse}
use Rattle.unknown.specs.Starts.{first-told, told}
use Rattle.unknown.specs.Stops.{gap-over, over}
use Rattle.unknown.specs.Unknowns.{firsts, is_half, is_stray, longer, unknown_of}

-- ---- what is told, and what is answered
no : {A : Type 0} → false ≡ true → A
no e = let w : ◌≡◌ {A = ℕ} 0 1 = cc in absurd (omega arith)

-- 99 is told of no characters
not_99 : (a b : Bool) {A : Type 0} → ◌≡◌ {A = ℕ} 99 (cond a 22 (cond b 23 0)) → A
not_99 true b e = absurd (omega (arith, e))
not_99 false true e = absurd (omega (arith, e))
not_99 false false e = absurd (omega (arith, e))

told_so : (p : ℕ) (cs : List ℕ) (r : Refusal) → told p (Error r) ≡ unknown_of cs → is_finer (code_number r.code) ≡ true → (r.place ≡ p) × (code_number r.code ≡ unknown_of cs)
unfolding unknown_of
told_so p cs r e f = go (eqb r.place p) refl
  where
    go : (b : Bool) → eqb r.place p ≡ b → (r.place ≡ p) × (code_number r.code ≡ cond (is_half cs) 22 (cond (is_stray cs) 23 0))
    go true q = (eqb-true r.place p q, rw (f, q) at e)
    go false q = not_99 (is_half cs) (is_stray cs) (rw (f, q) at e)

answer_so : (p : ℕ) (code : Code) (w : What) → told p w ≡ code_number code → is_finer (code_number code) ≡ true → w ≡ Error (refusal code p)
answer_so p code (Got t) e f = no (rw (← e) at f)
answer_so p code (Error r) e f = go (is_finer (code_number r.code)) refl (eqb r.place p) refl
  where
    go : (a : Bool) → is_finer (code_number r.code) ≡ a → (b : Bool) → eqb r.place p ≡ b → Error r ≡ Error (refusal code p)
    go true g true q =
        let u : code_number r.code ≡ code_number code = rw (g, q) at e in
        let v : r.code ≡ code = sym (code_again r.code) ∙ ap code_of u ∙ code_again code in
        let w : r.place ≡ p = eqb-true r.place p q in
        rw (v, w)
    go true g false q = let u : 99 ≡ code_number code = rw (g, q) at e in no (rw (← u) at f)
    go false g b q = let u : 0 ≡ code_number code = rw g at e in no (rw (← u) at f)
answer_so p code End e f = no (rw (← e) at f)

-- ---- a character that starts nothing is no half of a symbol
not-among : (c k : ℕ) (ks : List ℕ) → among k ks ≡ true → among c ks ≡ false → eqb c k ≡ false
not-among c k ks h n = go (eqb c k) refl
  where
    go : (b : Bool) → eqb c k ≡ b → b ≡ false
    go true q = let e = eqb-true c k q in no (sym n ∙ rw (← e) at h)
    go false q = refl

second : (a b w : Bool) → not (a || (b || w)) ≡ true → b ≡ false
second true b w h = no h
second false true w h = no h
second false false w h = refl

pub not_both : (cs : List ℕ) → is_stray cs ≡ true → is_half cs ≡ false
unfolding is_stray is_half among longer
not_both [] h = refl
not_both (c ∷ cs) h =
    let n = second (among c (firsts singles)) (among c longer) (is_whitespace c || is_identifier_start c) h in
    rw (
      not-among c 'dot longer refl n,
      not-among c '~ longer refl n,
      not-among c '- longer refl n,
      not-among c '/ longer refl n,
      not-among c 'at longer refl n,
      not-among c '= longer refl n,
    )

-- depths tell nothing of it
deep-told : (p g d : ℕ) (w : What) → told p (told_what g d w) ≡ told p w
deep-told p g d (Got t) = refl
deep-told p g d (Error r) = refl
deep-told p g d End = refl

-- in every reading
module _ (rd : Reading) where
  -- ---- OF A CALL. Its gap is passed, and a token is to start at p
  module _ (s : List ℕ) (at p m : ℕ) (e : gap (left s at) at ≡ Ok (p, m)) where
    there : told p (next rd (left s at) at).what ≡ unknown_of (left s p)
    unfolding more deep
    there =
        let f : Far (left s at) at m p = (rw e at (gap_sound (left s at) at)).is in
        let o : over (left s p) ≡ true = rw (far_left s at m p f) at (gap-over (left s at) at p m e) in
        let y = token_or_end rd (left s p) p in
        rw (next-gap rd s at p m e) (deep-told p (gap_depth_of (left s at) at) y.code_depth y.what ∙ first-told rd (left s p) p o)

    pub half-there : is_half (left s p) ≡ true → (next rd (left s at) at).what ≡ Error (refusal HalfSymbol p)
    unfolding unknown_of
    half-there h = answer_so p HalfSymbol _ (rw h at there) refl

    pub stray-there : is_stray (left s p) ≡ true → (next rd (left s at) at).what ≡ Error (refusal StrayCharacter p)
    unfolding unknown_of
    stray-there h = let g = not_both (left s p) h in answer_so p StrayCharacter _ (rw (g, h) at there) refl

  -- whichever call answers one of the two: it is that of the characters at the place that is told
  pub told-there : (s : List ℕ) (at : ℕ) (z : Refusal) → (next rd (left s at) at).what ≡ Error z → is_finer (code_number z.code) ≡ true → code_number z.code ≡ unknown_of (left s z.place)
  told-there s at z e f = go (gap (left s at) at) refl (gap-coarse (left s at) at)
    where
      go : (x : Skip) → gap (left s at) at ≡ x → Loses Coarse x → code_number z.code ≡ unknown_of (left s z.place)
      go (Ok (p, m)) q h =
          let t = told_so p (left s p) z (rw e at (there s at p m q)) f in
          t.1 ∙ ap (λ (k : ℕ). unknown_of (left s k)) (sym t.0)
      go (Err (r, p, m)) q h =
          let w : Error r ≡ Error z = sym (ap (λ (x : Call). x.what) (next_lost rd s at p m r q)) ∙ e in
          let v : r ≡ z = cc in
          no (sym (rw v at h.is) ∙ f)

-- ---- OF THE PUBLIC CALLS. The place carries the shift
abbrev pub UnknownAt : List ℕ → ℕ → Refusal → Type 0
UnknownAt s shift z = (shift ≤ z.place) × (code_number z.code ≡ unknown_of (left s (z.place - shift)))

module _ (s : List ℕ) (shift limit : ℕ) where
  from-read : (t : Tokenizer) (w : What) (z : Refusal) → (call_of s t).what ≡ w → shift_what shift w ≡ Error z → is_finer (code_number z.code) ≡ true → UnknownAt s shift z
  from-read t (Got y) z q e f = let u : ◌≡◌ {A = ℕ} 0 1 = cc in absurd (omega arith)
  from-read t (Error r) z q e f =
      let u : refusal r.code (r.place + shift) ≡ z = cc in
      let c : r.code ≡ z.code = ap (λ (x : Refusal). x.code) u in
      let p : r.place + shift ≡ z.place = ap (λ (x : Refusal). x.place) u in
      let n : z.place - shift ≡ r.place = omega (arith, p) in
      (omega (arith, p), rw (← c, n) (told-there t.reading s t.at r q (rw (← c) at f)))
  from-read t End z q e f = let u : ◌≡◌ {A = ℕ} 0 1 = cc in absurd (omega arith)

  -- what `run::next` answers from a tokenizer that runs
  call_unknown : (t : Tokenizer) → t.done ≡ Running → (z : Refusal) → (next_token s shift limit t).what ≡ Error z → is_finer (code_number z.code) ≡ true → UnknownAt s shift z
  call_unknown t d z e f = go (single s shift limit t) (checks-refuse Coarse refl refl refl s shift)
    where
      other : (x : Refusal) → Error x ≡ Error z → Coarse x.code → UnknownAt s shift z
      other x q h = let v : x ≡ z = cc in no (sym (rw v at h) ∙ f)

      go : Single s shift limit t (next_token s shift limit t) → Refuses Coarse (checks s shift) → UnknownAt s shift z
      go (refused x c q) h = other x (rw q at e) (rw c at h.is)
      go (off c n q) h = other _ (rw q at e) refl
      go (error_kept x k q) h = let u : Running ≡ Refused x = sym d ∙ k.is in let n : ◌≡◌ {A = ℕ} 0 1 = cc in absurd (omega arith)
      go (end_kept k q) h = let u = rw q at e in let n : ◌≡◌ {A = ℕ} 0 1 = cc in absurd (omega arith)
      go (limited k l q) h = other _ (rw q at e) refl
      go (read k l q) h = from-read t (call_of s t).what z refl (rw q at e) f

  pub next_unknown : (t : Tokenizer) → t.done ≡ Running → (z : Refusal) (u : Tokenizer) → Nexts s shift limit t (Error z) u → is_finer (code_number z.code) ≡ true → UnknownAt s shift z
  next_unknown t d z u c f = call_unknown t d z (sym c.0) f

  -- a tokenizer that has delivered a token runs
  still : (t : Tokenizer) (y : Token) → (next_token s shift limit t).what ≡ Got y → (next_token s shift limit t).next.done ≡ Running
  still t y e = go (single s shift limit t)
    where
      by : (w : What) → w ≡ Got y → done_by w ≡ Running
      by w q = rw q

      never : {A : Type 0} (x : Refusal) → Error x ≡ Got y → A
      never x q = let n : ◌≡◌ {A = ℕ} 0 1 = cc in absurd (omega arith)

      go : Single s shift limit t (next_token s shift limit t) → (next_token s shift limit t).next.done ≡ Running
      go (refused x c q) = never x (rw q at e)
      go (off c n q) = never _ (rw q at e)
      go (error_kept x k q) = never x (rw q at e)
      go (end_kept k q) = let u : End ≡ Got y = rw q at e in let n : ◌≡◌ {A = ℕ} 0 1 = cc in absurd (omega arith)
      go (limited k l q) = never _ (rw q at e)
      go (read k l q) = rw q (by (shift_what shift (call_of s t).what) (rw q at e))

  runs_on : {t u : Tokenizer} {ts : List Token} → Calls s shift limit t ts u → t.done ≡ Running → u.done ≡ Running
  runs_on none d = d
  runs_on {t = t} (one y e c) d = runs_on c (still t y e)

  last_unknown : (w : What) (how : Outcome) (z : Refusal) → how ≡ done_by w → how ≡ Refused z → w ≡ Error z
  last_unknown (Got y) how z h e = let n : ◌≡◌ {A = ℕ} 0 1 = cc in absurd (omega arith)
  last_unknown (Error x) how z h e = cc
  last_unknown End how z h e = let n : ◌≡◌ {A = ℕ} 0 1 = cc in absurd (omega arith)

  -- and what `run::run` answers
  pub run_unknown : (t : Tokenizer) → t.done ≡ Running → (before : List Token) (r : Ran) (after : List Token) → RunsFrom s shift limit t before r after
      → (z : Refusal) → r.how ≡ Refused z → is_finer (code_number z.code) ≡ true → UnknownAt s shift z
  run_unknown t d before r after c z e f = let k = repeated s shift limit t before r after c in go k.reached (runs_on k.calls d) k.last
    where
      go : (u : Tokenizer) → u.done ≡ Running → Last s shift limit (length before) u (length (held r after)) r.how r.state → UnknownAt s shift z
      go u g (full y w l h q) = let v : z.code ≡ NoRoom = cc in no (rw v at f)
      go u g (answers w h q) = call_unknown u g z (last_unknown (next_token s shift limit u).what r.how z h e) f
