-- Runs of bytes that a reader passes one by one with its state unchanged. They are for speed alone: no rule of 01 speaks of them.
use Rattle.std.specs.Prelude.{◌+◌, ◌-◌, ◌<◌, ◌≤◌, suc, zero, ℕ, Bool, ◌&&◌, ◌||◌, false, not, true, List, [], ◌∷◌, ◌≡◌, refl, eqb, leb, drop, get_or, length}
use Rattle.std.proofs.Math.Decide.{dec_lt}
use Rattle.std.proofs.Common.{arith, ◌∙◌, ap, sym, drop_of_length-le, add-one, le-leb, leb-false, ne_eqb}
use Rattle.std.proofs.Math.Seq.{drop-cons}
use Rattle.std.proofs.lemmas.Bool.{eqb-false, lt-leb}
use Rattle.utf8.specs.Chars.{'#, '*, '/, 'backslash, 'dquote}
use Rattle.utf8.proofs.Laws.{seen}
use Rattle.utf8.specs.Laws.{Seen, sight_ascii}
use Rattle.utf8.specs.Picks.{picks}
use Rattle.unicode_xid.specs.Identifier.{ascii_continue}
use Rattle.unicode_xid.proofs.Ascii.{ascii_continue_lem}
use Rattle.scan.specs.Readers.{com_step, reg_done, reg_step, regex_end, str_done, str_step, string_end}
use Rattle.scan.specs.Seek.{seek, seek_done, seek_step, stop_at}
use Rattle.scan.specs.Until.{left, until, until-on}
use Rattle.scan.specs.declared.Com.TheVariants.{Open}
use Rattle.scan.specs.declared.Sought.{Sought}
use Rattle.scan.specs.declared.Sought.TheVariants.{Hashes, Word}
use Rattle.scan.specs.declared.Str.TheVariants.{Plain}

-- how many bytes stand before the first one to stop at
unfoldable pub run : (ℕ → Bool) → List ℕ → ℕ
run stop [] = 0
run stop (x ∷ s) = elim (stop x) [ true ↦ 0 | false ↦ suc (run stop s) ]

-- one of two characters, or a byte of a longer one
abbrev pub plain_stop : ℕ → ℕ → ℕ → Bool
plain_stop a b x = (eqb x a || eqb x b) || leb 128 x

abbrev pub seek_stop : Sought → ℕ → Bool
seek_stop k x = leb 128 x || stop_at k x

pub seek_far : (k : Sought) (x : ℕ) → 128 ≤ x → seek_stop k x ≡ true
seek_far k x h = rw (le-leb 128 x h)

pub seek_near : (k : Sought) (x : ℕ) (d : Bool) → x < 128 → stop_at k x ≡ d → seek_stop k x ≡ d
seek_near k x d h e = rw (lt-leb 128 x h) e

-- two tests that agree make the same run
pub run-same : (f g : ℕ → Bool) → ((x : ℕ) → f x ≡ g x) → (s : List ℕ) → run f s ≡ run g s
unfolding run
run-same f g h [] = refl
run-same f g h (x ∷ s) = go (f x) refl (run-same f g h s)
  where
    go : (b : Bool) → f x ≡ b → run f s ≡ run g s → run f (x ∷ s) ≡ run g (x ∷ s)
    go true q i = let r : g x ≡ true = sym (h x) ∙ q in rw (q, r, run)
    go false q i = let r : g x ≡ false = sym (h x) ∙ q in rw (q, r, run) (ap suc i)

-- a kind that stops at one character: its run is the one up to that character
pub seek-plain : (k : Sought) (a : ℕ) → ((x : ℕ) → stop_at k x ≡ eqb x a) → (s : List ℕ) → run (plain_stop a a) s ≡ run (seek_stop k) s
seek-plain k a h s = run-same (plain_stop a a) (seek_stop k) (λ x. go (eqb x a) (leb 128 x) (stop_at k x) (h x)) s
  where
    go : (e f g : Bool) → g ≡ e → (e || e) || f ≡ f || g
    go true true g q = refl
    go true false g q = sym q
    go false true g q = refl
    go false false g q = sym q

-- what a test says that the code asks turned round
pub turned_yes : (b : Bool) → not b ≡ true → b ≡ false
turned_yes true e = sym e
turned_yes false e = refl

pub turned-no : (b : Bool) → not b ≡ false → b ≡ true
turned-no true e = refl
turned-no false e = sym e

-- the bytes of a word, and hashes
word_low : (x : ℕ) → ascii_continue x ≡ true → x < 128
word_low x e = go (dec_lt x 128)
  where
    go : Dec (x < 128) → x < 128
    go (yes l) = l
    go (no l) =
        let z : false ≡ true = rw (
          le-leb 97 x (omega arith),
          lt-leb x 122 (omega arith),
          le-leb 65 x (omega arith),
          lt-leb x 90 (omega arith),
          le-leb 48 x (omega arith),
          lt-leb x 57 (omega arith),
          ne_eqb x 95 (omega arith),
        ) at e in
        let w : ◌≡◌ {A = ℕ} 0 1 = cc in
        absurd (omega arith)

pub word_on : (x : ℕ) → ascii_continue x ≡ true → seek_stop Word x ≡ false
word_on x e = let l = word_low x e in rw (lt-leb 128 x l, ← (ascii_continue_lem x l), e)

pub small-letter : (x : ℕ) → leb 97 x && leb x 122 ≡ true → ascii_continue x ≡ true
small-letter x e = rw e

pub word_stop : (x : ℕ) → ascii_continue x ≡ false → seek_stop Word x ≡ true
word_stop x e = go (dec_lt x 128)
  where
    go : Dec (x < 128) → seek_stop Word x ≡ true
    go (yes l) = rw (lt-leb 128 x l, ← (ascii_continue_lem x l), e)
    go (no l) = seek_far Word x (omega arith)

pub hash-on : (x : ℕ) → x ≡ '# → seek_stop Hashes x ≡ false
hash-on x e = rw e

pub hash-stop : (x : ℕ) → (x ≡ '# → ⊥) → seek_stop Hashes x ≡ true
hash-stop x e = rw (ne_eqb x '# e) (go (leb 128 x))
  where
    go : (b : Bool) → b || true ≡ true
    go true = refl
    go false = refl

-- a run, byte by byte
module _ (stop : ℕ → Bool) (s : List ℕ) (at : ℕ) where
  pub run_past : length s ≤ at → run stop (drop at s) ≡ 0
  unfolding run
  run_past h = rw (drop_of_length-le s h)

  pub run-stop : at < length s → stop (get_or s at 0) ≡ true → run stop (drop at s) ≡ 0
  unfolding run
  run-stop h e = rw (drop-cons s at 0 h) (rw (e, run))

  pub run_on : at < length s → stop (get_or s at 0) ≡ false → run stop (drop at s) ≡ suc (run stop (drop (at + 1) s))
  unfolding run
  run_on h e = rw (add-one at, drop-cons s at 0 h) (rw (e, run))

-- what does not change from byte to byte does not change over a run
module _ {A : Type 0} (s : List ℕ) (stop : ℕ → Bool) (f : ℕ → ℕ → A)
    (on : (at n : ℕ) → at < length s → stop (get_or s at 0) ≡ false → f at n ≡ f (at + 1) (n + 1)) where
  over : (k at n : ℕ) → run stop (drop at s) ≡ k → f at n ≡ f (at + k) (n + k)
  over zero at n e = let p : at ≡ at + 0 = omega arith in let q : n ≡ n + 0 = omega arith in rw (← p, ← q)
  over (suc k) at n e = go (dec_lt at (length s)) (stop (get_or s at 0)) refl (over k (at + 1) (n + 1))
    where
      go : Dec (at < length s) → (t : Bool) → stop (get_or s at 0) ≡ t
          → (run stop (drop (at + 1) s) ≡ k → f (at + 1) (n + 1) ≡ f (at + 1 + k) (n + 1 + k))
          → f at n ≡ f (at + suc k) (n + suc k)
      go (no h) t q g = absurd (omega (arith, run_past stop s at (omega arith)))
      go (yes h) true q g = absurd (omega (arith, run-stop stop s at h q))
      go (yes h) false q g =
          let a : at + 1 + k ≡ at + suc k = omega arith in
          let b : n + 1 + k ≡ n + suc k = omega arith in
          on at n h q ∙ rw (a, b) at (g (omega (arith, run_on stop s at h q)))

  pub run-over : (from to n : ℕ) → to ≡ from + run stop (drop from s) → f to (n + (to - from)) ≡ f from n
  run-over from to n e =
      let k : run stop (drop from s) ≡ to - from = omega arith in
      let q : from + (to - from) ≡ to = omega arith in
      sym (rw q at (over (to - from) from n k))

-- a byte below 128 that leaves a reader's state as it is
pub byte_seen : (s : List ℕ) (at : ℕ) → at < length s → get_or s at 0 < 128 → Seen s at (get_or s at 0) 1
byte_seen s at h l = seen s at (get_or s at 0) 1 (sym (sight_ascii s at h l))

module _ {S : Type 0} (step : S → ℕ → S) (done : S → Bool) (st : S) (calm : done st ≡ false) (stop : ℕ → Bool)
    (low : (x : ℕ) → stop x ≡ false → x < 128) (stay : (x : ℕ) → stop x ≡ false → st ≡ step st x) (s : List ℕ) where
  until-run : (from to : ℕ) → to ≡ from + run stop (drop from s) → until step done st (left s to) to (to - from) ≡ until step done st (left s from) from 0
  until-run from to e =
      let q : 0 + (to - from) ≡ to - from = omega arith in
      rw q at (run-over s stop (λ (at n : ℕ). until step done st (left s at) at n)
      (λ at n h e. until-on step done (byte_seen s at h (low _ e)) (stay _ e) (sym calm) n refl) from to 0 e)

-- what a byte is that is not stopped at
pub neither : (x y : Bool) → (x || y) ≡ false → (x ≡ false) × (y ≡ false)
neither true y e = let z : ◌≡◌ {A = ℕ} 0 1 = cc in absurd (omega arith)
neither false y e = (refl, e)

module _ (a b x : ℕ) (e : plain_stop a b x ≡ false) where
  pub plain-low : x < 128
  plain-low = leb-false _ _ (neither (eqb x a || eqb x b) _ e).1

  not_a : x ≡ a → ⊥
  not_a = eqb-false _ _ (neither (eqb x a) _ (neither (eqb x a || eqb x b) _ e).0).0

  not-b : x ≡ b → ⊥
  not-b = eqb-false _ _ (neither (eqb x a) _ (neither (eqb x a || eqb x b) _ e).0).1

-- a byte that starts no mark leaves a comment as it is
pub comment_stays : (d x : ℕ) → plain_stop '* '/ x ≡ false → Open d ≡ com_step (Open d) x
comment_stays d x e = let f = not_a '* '/ x e in let g = not-b '* '/ x e in search picks

-- the readers after a run from their start
module _ (s : List ℕ) (from to : ℕ) where
  pub string_run : (q : ℕ) → to ≡ from + run (plain_stop 'backslash q) (drop from s) → until (str_step q) str_done Plain (left s to) to (to - from) ≡ string_end q (left s from) from
  string_run q =
      until-run (str_step q) str_done Plain refl (plain_stop 'backslash q) (plain-low 'backslash q)
      (λ x e. let f = not_a 'backslash q x e in let g = not-b 'backslash q x e in search picks) s from to

  pub regex_run : (h : ℕ) → to ≡ from + run (plain_stop 'dquote 'dquote) (drop from s) → until reg_step (reg_done h) 0 (left s to) to (to - from) ≡ regex_end h (left s from) from
  regex_run h =
      until-run reg_step (reg_done h) 0 refl (plain_stop 'dquote 'dquote) (plain-low 'dquote 'dquote)
      (λ x e. let f = not_a 'dquote 'dquote x e in search picks) s from to

  pub seek-run : (k : Sought) → to ≡ from + run (seek_stop k) (drop from s) → until (seek_step k) seek_done false (left s to) to (to - from) ≡ seek k (left s from) from
  seek-run k =
      until-run (seek_step k) seek_done false refl (seek_stop k) (λ x e. leb-false _ _ (neither (leb 128 x) _ e).0)
      (λ x e. sym (neither (leb 128 x) _ e).1) s from to
