-- The law of a call: its gap, its token, the dropped character and its advances.
use Prim.Native.Nat.{◌+◌, ◌<◌, suc, ℕ}
use Rattle.std.proofs.Common.{arith, ◌∙◌, Ok, Err}
use Rattle.std.specs.Prelude.{Bool, cond, ◌≡◌, drop, length}
use Rattle.std.proofs.Math.Bool.{false, true}
use mathlib.Core.List.{List, [], ◌∷◌}
use Rattle.std.proofs.Math.Path.{refl}
use Rattle.std.proofs.Math.Dec.{eqb}
use Rattle.utf8.specs.Utf8.{width_of}
use Rattle.record.specs.declared.Token.{Token}
use Rattle.record.specs.declared.Reading.{Reading}
use Rattle.scan.specs.Far.{Far, far_none, far_one, one_far, then}
use Rattle.scan.specs.Passes.{Sound}
use Rattle.scan.specs.Shapes.{Skip}
use Rattle.reading.specs.Answers.{deliver, more, plain, told, told_what}
use Rattle.reading.specs.Attribute.{attempt, attribute_token, hash, hash_by}
use Rattle.reading.proofs.Calls.{plain-taken}
use Rattle.reading.specs.Calls.{MovesIn, SpanIn, Taken}
use Rattle.reading.specs.Gaps.{gap, gap_depth_of}
use Rattle.reading.specs.Measures.{is_hash, tail_of, wasted}
use Rattle.reading.specs.Next.{next, next_by, starts, token, token_or_end}
use Rattle.reading.specs.Passes.{gap_sound}
use Rattle.reading.specs.Symbols.{single, singles}
use Rattle.reading.specs.Shapes.{Attempt}
use Rattle.reading.specs.declared.Call.{Call}
use Rattle.reading.specs.declared.What.{What}
use Rattle.reading.specs.declared.What.TheVariants.{End, Error, Got}
use Rattle.reading.specs.CallLaw.{Tried, attempt_tried, nothing, all_gone, tail_far}

-- in every reading
module _ (rd : Reading) where
  -- a token that stands at o, before the cursor p, after n advances: width characters, then what is dropped
  pub record Here (cs : List ℕ) (o : ℕ) (t : Token) (p n : ℕ) : Type 0 where
    pub start : t.start ≡ o
    pub width : ℕ
    pub some : 0 < width
    pub span : Far cs o width t.end
    pub tail : Far (drop width cs) t.end (tail_of rd t.kind (drop width cs)) p
    pub spent : n ≡ width + tail_of rd t.kind (drop width cs) + cond (is_hash t.kind) (wasted cs o) 0

  abbrev StandsIn : List ℕ → ℕ → ℕ → ℕ → What → Type 0
  StandsIn cs o p n (Got t) = Here cs o t p n
  StandsIn cs o p n (Error r) = Far cs o n p
  StandsIn cs o p n End = (cs ≡ []) × (n ≡ 0) × (p ≡ o)

  pub record Stands (cs : List ℕ) (o : ℕ) (x : Call) : Type 0 where
    pub is : StandsIn cs o x.at x.advances x.what

  -- every token but those that a hash starts
  plain_in : (c : ℕ) (cs : List ℕ) (o : ℕ) → eqb c 35 ≡ false → (p n : ℕ) (w : What) → Far (c ∷ cs) o n p → SpanIn o p w → MovesIn n w → StandsIn (c ∷ cs) o p n w
  unfolding wasted
  plain_in c cs o q p n (Got t) f h m = record {
    start = h.0;
    width = n;
    some = m;
    span = rw h.1 f;
    tail = rw (h.2, h.1) (far_none _ p);
    spent = rw (h.2, q, nothing (is_hash t.kind)) (omega arith);
  }
  plain_in c cs o q p n (Error r) f h m = f
  plain_in c cs o q p n End f h m = absurd h

  plain-stands : (c : ℕ) (cs : List ℕ) (o : ℕ) (x : Call) → eqb c 35 ≡ false → Taken o (c ∷ cs) x → Stands (c ∷ cs) o x
  plain-stands c cs o x q h = record { is = plain_in c cs o q x.at x.advances x.what h.fair.far h.fair.span h.moves }

  hash-stands : (c : ℕ) (cs : List ℕ) (o : ℕ) → eqb c 35 ≡ true → Stands (c ∷ cs) o (more 1 (hash rd o cs (o + width_of c)))
  unfolding hash more attribute_token plain deliver wasted
  hash-stands c cs o q = go (attempt cs (o + width_of c)) refl (attempt_tried cs (o + width_of c))
    where
      go : (x : Attempt) → attempt cs (o + width_of c) ≡ x → Tried cs (o + width_of c) (attempt cs (o + width_of c)) → Stands (c ∷ cs) o (more 1 (hash_by rd o cs (o + width_of c) x))
      go (Ok (p, m)) e h =
          let f : Far cs (o + width_of c) m p = (rw e at h).is in
          record {
            is = record {
              start = refl;
              width = suc m;
              some = omega arith;
              span = far_one c cs o m p f;
              tail = tail_far rd (drop m cs) p;
              spent = omega arith;
            };
          }
      go (Err (p, m)) e h = record {
        is = record {
          start = refl;
          width = 1;
          some = omega arith;
          span = one_far c cs o;
          tail = far_none cs (o + width_of c);
          spent = rw (q, e) (omega arith);
        };
      }

  token-stands : (c : ℕ) (cs : List ℕ) (o : ℕ) → Stands (c ∷ cs) o (token rd c cs o (o + width_of c))
  unfolding token
  token-stands c cs o = go (eqb c 35) refl
    where
      go : (t : Bool) → eqb c 35 ≡ t → Stands (c ∷ cs) o (cond (eqb c 35) (more 1 (hash rd o cs (o + width_of c))) (single singles c o (o + width_of c) (starts rd c cs o (o + width_of c))))
      go true q = rw q (hash-stands c cs o q)
      go false q = rw q (plain-stands c cs o _ q (plain-taken rd c cs o))

  pub token-or-end-stands : (cs : List ℕ) (o : ℕ) → Stands cs o (token_or_end rd cs o)
  unfolding token_or_end
  token-or-end-stands [] o = record { is = (refl, refl, refl) }
  token-or-end-stands (c ∷ cs) o = token-stands c cs o

  -- THE LAW OF A CALL. From the place at: a gap, then the token, then what is dropped, and the advances
  pub record Placed (cs : List ℕ) (at : ℕ) (t : Token) (p n : ℕ) : Type 0 where
    pub gapped : ℕ
    pub gap_is : gap cs at ≡ Ok (t.start, gapped)
    pub gap_far : Far cs at gapped t.start
    pub width : ℕ
    pub some : 0 < width
    pub span : Far (drop gapped cs) t.start width t.end
    pub tail : Far (drop width (drop gapped cs)) t.end (tail_of rd t.kind (drop width (drop gapped cs))) p
    pub spent : n ≡ gapped + (width + tail_of rd t.kind (drop width (drop gapped cs))) + cond (is_hash t.kind) (wasted (drop gapped cs) t.start) 0

  abbrev pub LaidIn : List ℕ → ℕ → ℕ → ℕ → What → Type 0
  LaidIn cs at p n (Got t) = Placed cs at t p n
  LaidIn cs at p n (Error r) = Far cs at n p
  LaidIn cs at p n End = (gap cs at ≡ Ok (p, n)) × (n ≡ length cs)

  pub record Laid (cs : List ℕ) (at : ℕ) (x : Call) : Type 0 where
    pub is : LaidIn cs at x.at x.advances x.what

  lay : (cs : List ℕ) (at o m : ℕ) → gap cs at ≡ Ok (o, m) → Far cs at m o → (p n g d : ℕ) (w : What) → StandsIn (drop m cs) o p n w → LaidIn cs at p (m + n) (told_what g d w)
  lay cs at o m e f p n g d (Got t) h = record {
    gapped = m;
    gap_is = rw h.start e;
    gap_far = rw h.start f;
    width = h.width;
    some = h.some;
    span = rw h.start h.span;
    tail = h.tail;
    spent = rw (h.start, h.spent) (omega arith);
  }
  lay cs at o m e f p n g d (Error r) h = then m cs at o n p f h
  lay cs at o m e f p n g d End h =
      let z : m + n ≡ m = omega (arith, h.1) in
      (rw (z, h.2) e, z ∙ all_gone m cs f.within h.0)

  pub next-laid : (cs : List ℕ) (at : ℕ) → Laid cs at (next rd cs at)
  unfolding next more told
  next-laid cs at = go (gap cs at) refl (gap_sound cs at)
    where
      go : (x : Skip) → gap cs at ≡ x → Sound cs at (gap cs at) → Laid cs at (next_by rd cs x (gap_depth_of cs at))
      go (Ok (o, m)) e h =
          let f : Far cs at m o = (rw e at h).is in
          let y = token-or-end-stands (drop m cs) o in
          record { is = lay cs at o m e f (token_or_end rd (drop m cs) o).at (token_or_end rd (drop m cs) o).advances _ _ (token_or_end rd (drop m cs) o).what y.is }
      go (Err (r, p, m)) e h = record { is = (rw e at h).is }
