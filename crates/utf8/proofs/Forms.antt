-- The forms of a character (specs/Forms.antt), written and read, where it takes which code points are scalar values: Laws.antt and RoundTrip.antt
-- rest on it.
use Rattle.std.specs.Prelude.{ℕ, ◌+◌, ◌-◌, ◌*◌, ◌/◌, ◌≤◌, ◌<◌, Bool, cond, List, [], ◌∷◌, ◌++◌, ltb, length, get_or, drop, Option, Some, None, Ok}
use Rattle.std.proofs.Common.{sym, drop-cons, le-leb}
use Rattle.std.proofs.Math.Path.{◌≡◌, refl}
use Rattle.std.proofs.Math.Bool.{true, false}
use native.Mathlib.Omega.{arith}
use Rattle.std.proofs.Math.Dec.{leb}
use Rattle.utf8.specs.Utf8.{low, high, code2, code3, code4, lead, sight, width_of}
use Rattle.utf8.specs.Encode.{is_scalar, tail, encode}
use Rattle.utf8.specs.Picks.{by_test, tests}
use Rattle.std.proofs.lemmas.Bool.{lt-leb}
use Rattle.utf8.specs.Forms.{lead_ascii, within, width_1, width_2, width_3, width_4, low_least, low_3, low_4, high-most, high_3, high_4, encode_1, encode_2, encode_3, encode_4, back_2, back_3, back_4, there_2, there_3, there_4, width_by, low_fits, high_fits, lead_2, lead_3, lead_4, Tail, tails_of}

scalar_low : (c : ℕ) → c < 0xD800 → is_scalar c ≡ true
unfolding is_scalar
scalar_low c h = simp (le-leb c 0xD7FF (omega arith))

scalar_high : (c : ℕ) → 0xE000 ≤ c → c ≤ 0x10FFFF → is_scalar c ≡ true
unfolding is_scalar
scalar_high c g h = simp (lt-leb c 0xD7FF (omega arith), le-leb 0xE000 c g, le-leb c 0x10FFFF h)

-- a scalar value is below the surrogates, or above them and at most 10FFFF
module _ (c : ℕ) (P : Type 0) where
  scalar_by : is_scalar c ≡ true → (c < 0xD800 → P) → (0xE000 ≤ c → c ≤ 0x10FFFF → P) → P
  unfolding is_scalar
  scalar_by e f g = go (leb c 0xD7FF) (leb 0xE000 c) (leb c 0x10FFFF) refl refl refl
    where
      go : (x y z : Bool) → leb c 0xD7FF ≡ x → leb 0xE000 c ≡ y → leb c 0x10FFFF ≡ z → P
      go true y z p q r = f (omega tests)
      go false true true p q r = g (omega tests) (omega tests)
      go false true false p q r = let e' : false ≡ true = rw (p, q, r) at e in let z : ◌≡◌ {A = ℕ} 0 1 = cc in absurd (omega arith)
      go false false z p q r = let e' : false ≡ true = rw (p, q) at e in let z : ◌≡◌ {A = ℕ} 0 1 = cc in absurd (omega arith)

module _ (c : ℕ) (s : List ℕ) where
  sight_1 : c < 0x80 → Some (c, 1) ≡ sight (c ∷ s)
  unfolding sight
  sight_1 h = lead_ascii _ _ _ _ _ _ h

  sight_2 : 0x80 ≤ c → c < 0x800 → Some (c, 2) ≡ sight ((0xC0 + c / 64) ∷ tail c ∷ s)
  unfolding sight
  sight_2 g h =
      lead_2 _ _ (0xC0 + c / 64) (tail c) _ _ c
      (low_fits (0xC0 + c / 64) (tail c) (omega arith) (λ p. omega arith) (λ p. omega arith))
      (high_fits (0xC0 + c / 64) (tail c) (omega arith) (λ p. omega arith) (λ p. omega arith))
      (omega arith) (omega arith) (there_2 c)

  sight_3 : is_scalar c ≡ true → 0x800 ≤ c → c < 0x10000 → Some (c, 3) ≡ sight ((0xE0 + c / 4096) ∷ tail (c / 64) ∷ tail c ∷ s)
  unfolding sight
  sight_3 e g h =
      lead_3 _ _ (0xE0 + c / 4096) (tail (c / 64)) (tail c) _ c
      (low_fits (0xE0 + c / 4096) (tail (c / 64)) (omega arith) (λ p. omega arith) (λ p. omega arith))
      (high_fits (0xE0 + c / 4096) (tail (c / 64)) (omega arith)
      (λ p. scalar_by c (tail (c / 64) ≤ 0x9F) e (λ q. omega arith) (λ q r. omega arith)) (λ p. omega arith))
      (omega arith) (omega arith) (omega arith) (omega arith) (there_3 c)

  sight_4 : is_scalar c ≡ true → 0x10000 ≤ c → Some (c, 4) ≡ sight ((0xF0 + c / 262144) ∷ tail (c / 4096) ∷ tail (c / 64) ∷ tail c ∷ s)
  unfolding sight
  sight_4 e g =
      let m : c ≤ 0x10FFFF = scalar_by c (c ≤ 0x10FFFF) e (λ q. omega arith) (λ q r. r) in
      lead_4 _ _ (0xF0 + c / 262144) (tail (c / 4096)) (tail (c / 64)) (tail c) c
      (low_fits (0xF0 + c / 262144) (tail (c / 4096)) (omega arith) (λ p. omega arith) (λ p. omega arith))
      (high_fits (0xF0 + c / 262144) (tail (c / 4096)) (omega arith) (λ p. omega arith) (λ p. omega arith))
      (omega arith) (omega arith) (omega arith) (omega arith) (omega arith) (omega arith) (there_4 c)

  pub written-seen : is_scalar c ≡ true → sight (encode c ++ s) ≡ Some (c, width_of c)
  written-seen e =
      width_by c (sight (encode c ++ s) ≡ Some (c, width_of c))
      (λ h. rw (← (encode_1 c h), ← (width_1 c h)) (sym (sight_1 h)))
      (λ g h. rw (← (encode_2 c g h), ← (width_2 c g h)) (sym (sight_2 g h)))
      (λ g h.
      let f : 0x80 ≤ c = omega arith in
      rw (← (encode_3 c f g h), ← (width_3 c f g h)) (sym (sight_3 e g h)))
      (λ h.
      let f : 0x80 ≤ c = omega arith in
      let g : 0x800 ≤ c = omega arith in
      rw (← (encode_4 c f g h), ← (width_4 c f g h)) (sym (sight_4 e h)))

-- READ, THEN WRITTEN: what a sight of a character says of the bytes
pub record Form (s : List ℕ) (k w : ℕ) : Type 0 where
  pub width : w ≡ width_of k
  pub room : w ≤ length s
  pub moves : 0 < w
  pub scalar : is_scalar k ≡ true
  pub bytes : encode k ++ drop w s ≡ s
  pub tails : (i : ℕ) → 0 < i → i < w → Tail (get_or s i 0)

abbrev FormedIn : List ℕ → Option (ℕ × ℕ) → Type 0
FormedIn s (Some (k, w)) = Form s k w
FormedIn s None = Unit {0}

record Formed (s : List ℕ) (x : Option (ℕ × ℕ)) : Type 0 where
  is : FormedIn s x

ok-test : (s : List ℕ) (t : Bool) (x y : Option (ℕ × ℕ)) → (t ≡ true → Formed s x) → (t ≡ false → Formed s y) → Formed s (cond t x y)
ok-test s t x y f g = by_test (Formed s) t x y f g

ok_end : (s : List ℕ) → Formed s None
ok_end s = record { is = tt }

-- no surrogate in three bytes, nothing above 10FFFF in four
scalar_3 : (a b c : ℕ) → 0xE0 ≤ a → a < 0xF0 → 0x80 ≤ b → b ≤ high a → 0x80 ≤ c → c ≤ 0xBF → is_scalar (code3 a b c) ≡ true
scalar_3 a b c p q r s t u = go (ltb a 0xEE) refl
  where
    go : (x : Bool) → ltb a 0xEE ≡ x → is_scalar (code3 a b c) ≡ true
    go true e = scalar_low _ (omega (tests, high_3 a (omega tests)))
    go false e = scalar_high _ (omega tests) (omega (tests, high-most a))

scalar_4 : (a b c d : ℕ) → a < 0xF5 → 0x10000 ≤ code4 a b c d → b ≤ high a → c ≤ 0xBF → d ≤ 0xBF → is_scalar (code4 a b c d) ≡ true
scalar_4 a b c d p q r s t = scalar_high _ (omega arith) (omega (arith, high-most a, high_4 a (omega arith)))

module _ (a : ℕ) (s : List ℕ) where
  ok_1 : ltb a 0x80 ≡ true → Formed (a ∷ s) (Some (a, 1))
  ok_1 t =
      let h : a < 0x80 = omega tests in
      record {
        is =
            record {
              width = width_1 a h;
              room = omega arith;
              moves = omega arith;
              scalar = scalar_low a (omega arith);
              bytes = rw (← (encode_1 a h));
              tails = tails_of a s 1 (omega arith) (λ o. absurd (omega arith)) (λ o. absurd (omega arith)) (λ o. absurd (omega arith));
            };
      }

  module _ (t2 : ltb a 0xC2 ≡ false) (t3 : ltb (get_or s 0 0) (low a) ≡ false) (t4 : ltb (high a) (get_or s 0 0) ≡ false) where
    tail_2 : Tail (get_or s 0 0)
    tail_2 = record { least = omega (tests, low_least a); most = omega (tests, high-most a) }

    in_2 : 0 < length s
    in_2 = within s 0 (omega (arith, tail_2))

    ok_2 : ltb a 0xE0 ≡ true → Formed (a ∷ s) (Some (code2 a (get_or s 0 0), 2))
    ok_2 t =
        let b : ℕ = get_or s 0 0 in
        let k : ℕ = code2 a b in
        let g : 0x80 ≤ k = omega tests in
        let h : k < 0x800 = omega (tests, tail_2) in
        let e = back_2 a b (omega tests) tail_2.least tail_2.most in
        record {
          is =
              record {
                width = width_2 k g h;
                room = omega (arith, in_2);
                moves = omega arith;
                scalar = scalar_low k (omega arith);
                bytes = rw (← (encode_2 k g h)) (cc (e.0, e.1, drop-cons s 0 0 in_2));
                tails = tails_of a s 2 (omega arith) (λ o. tail_2) (λ o. absurd (omega arith)) (λ o. absurd (omega arith));
              };
        }

    module _ (t5 : ltb a 0xE0 ≡ false) (t6 : ltb (get_or s 1 0) 0x80 ≡ false) (t7 : ltb 0xBF (get_or s 1 0) ≡ false) where
      tail_3 : Tail (get_or s 1 0)
      tail_3 = record { least = omega tests; most = omega tests }

      in_3 : 1 < length s
      in_3 = within s 1 (omega (arith, tail_3))

      ok_3 : ltb a 0xF0 ≡ true → Formed (a ∷ s) (Some (code3 a (get_or s 0 0) (get_or s 1 0), 3))
      ok_3 t =
          let b : ℕ = get_or s 0 0 in
          let c : ℕ = get_or s 1 0 in
          let k : ℕ = code3 a b c in
          let l : 0xA0 ≤ low a + (a - 0xE0) * 32 = low_3 a (omega tests) in
          let g : 0x800 ≤ k = omega (tests, tail_3) in
          let h : k < 0x10000 = omega (tests, tail_2, tail_3) in
          let e = back_3 a b c (omega tests) tail_2.least tail_2.most tail_3.least tail_3.most in
          record {
            is =
                record {
                  width = width_3 k (omega arith) g h;
                  room = omega (arith, in_3);
                  moves = omega arith;
                  scalar = scalar_3 a b c (omega tests) (omega tests) tail_2.least (omega tests) tail_3.least tail_3.most;
                  bytes = rw (← (encode_3 k (omega arith) g h)) (cc (e.0, e.1, e.2, drop-cons s 0 0 in_2, drop-cons s 1 0 in_3));
                  tails = tails_of a s 3 (omega arith) (λ o. tail_2) (λ o. tail_3) (λ o. absurd (omega arith));
                };
          }

      ok_4 : ltb a 0xF0 ≡ false → ltb (get_or s 2 0) 0x80 ≡ false → ltb 0xBF (get_or s 2 0) ≡ false → ltb a 0xF5 ≡ true
          → Formed (a ∷ s) (Some (code4 a (get_or s 0 0) (get_or s 1 0) (get_or s 2 0), 4))
      ok_4 t8 t9 t10 t =
          let b : ℕ = get_or s 0 0 in
          let c : ℕ = get_or s 1 0 in
          let d : ℕ = get_or s 2 0 in
          let k : ℕ = code4 a b c d in
          let tail-4 : Tail d = record { least = omega tests; most = omega tests } in
          let in-4 : 2 < length s = within s 2 (omega (arith, tail-4)) in
          let l : 0x90 ≤ low a + (a - 0xF0) * 16 = low_4 a (omega tests) in
          let g : 0x10000 ≤ k = omega (tests, tail_3) in
          let e = back_4 a b c d (omega tests) tail_2.least tail_2.most tail_3.least tail_3.most tail-4.least tail-4.most in
          record {
            is =
                record {
                  width = width_4 k (omega arith) (omega arith) g;
                  room = omega (arith, in-4);
                  moves = omega arith;
                  scalar = scalar_4 a b c d (omega tests) g (omega tests) tail_3.most tail-4.most;
                  bytes =
                      rw (← (encode_4 k (omega arith) (omega arith) g))
                      (cc (e.0, e.1, e.2, e.3, drop-cons s 0 0 in_2, drop-cons s 1 0 in_3, drop-cons s 2 0 in-4));
                  tails = tails_of a s 4 (omega arith) (λ o. tail_2) (λ o. tail_3) (λ o. tail-4);
                };
          }

ok : (s : List ℕ) → Formed s (sight s)
unfolding sight lead
ok [] = ok_end []
ok (a ∷ s) = search (ok-test, ok_end, ok_1, ok_2, ok_3, ok_4) depth 26

pub form : (s : List ℕ) (k w : ℕ) → sight s ≡ Some (k, w) → Form s k w
form s k w e = rw e at (ok s).is
