-- One call: the two definitions step by step, in either reading. What both share answers neither 22 nor 23, so the map leaves it as it is.
use Rattle.std.specs.Prelude.{◌+◌, ℕ, Bool, cond, false, true, ◌≡◌, eqb, drop, Ok, Err}
use mathlib.Core.List.{List, [], ◌∷◌}
use Rattle.std.proofs.Math.Path.{refl}
use Rattle.utf8.specs.Utf8.{width_of}
use Rattle.record.specs.Codes.{among}
use Rattle.record.specs.declared.Kind.{Kind}
use Rattle.record.specs.declared.Reading.{Reading}
use Rattle.scan.specs.IfNext.{if_next}
use Rattle.scan.specs.Shapes.{Skip}
use Rattle.reading.specs.Answers.{deliver, more, plain, refuse, told, told_what}
use Rattle.reading.specs.Gaps.{gap, gap_depth_of}
use Rattle.reading.specs.Next.{next, next_by, starts, token, token_or_end}
use Rattle.reading.specs.Symbols.{arrow_look, bang, colon, dot, equals, half, look, minus, right_arrow, single, singles, stray, tilde}
use Rattle.reading.specs.declared.Call.{Call}
use Rattle.reading.specs.declared.What.{What}
use Rattle.reading.specs.declared.What.TheVariants.{End, Error, Got}
use Rattle.ledger.specs.Answered.{Loses, Says, SaysIn}
use Rattle.unknown.specs.Map.{rust_call, rust_what}
use Rattle.unknown.specs.Shared.{Any, Coarse, code-coarse, gap-coarse, hash-coarse, shared}
use Rattle.unknown.specs.Rust as rust

-- a call by the old definition, and one by the new of which it is the map
pub record Mapped (x y : Call) : Type 0 where
  pub is : x ≡ rust_call y

-- what both definitions share
stays : (w : What) → SaysIn Any Coarse w → w ≡ rust_what w
stays (Got t) h = refl
stays (Error r) h = rw h
stays End h = refl

mapped-stays : (x : Call) → Says Any Coarse x → Mapped x x
mapped-stays x h = record { is = let e = stays x.what h.is in rw (← e) }

-- ---- how the two go together
mapped-test : (t : Bool) (x y v w : Call) → Mapped x v → Mapped y w → Mapped (cond t x y) (cond t v w)
mapped-test true x y v w p q = p
mapped-test false x y v w p q = q

mapped_next : (k : ℕ) (l : List ℕ) (x y v w : Call) → Mapped x v → Mapped y w → Mapped (if_next k l x y) (if_next k l v w)
unfolding if_next
mapped_next k [] x y v w p q = q
mapped_next k (c ∷ l) x y v w p q = mapped-test (eqb c k) x y v w p q

mapped-more : (n : ℕ) (x v : Call) → Mapped x v → Mapped (more n x) (more n v)
unfolding more
mapped-more n x v h = record { is = rw h.is }

mapped-plain : (kind : Kind) (o p n : ℕ) → Mapped (plain kind o p n) (plain kind o p n)
unfolding plain deliver
mapped-plain kind o p n = record { is = refl }

mapped-half : (o at : ℕ) → Mapped (rust.half o at) (half o at)
unfolding rust.half half refuse
mapped-half o at = record { is = refl }

mapped-stray : (o : ℕ) → Mapped (rust.stray o) (stray o)
unfolding rust.stray stray refuse
mapped-stray o = record { is = refl }

ruleset maps = (mapped-test, mapped_next, mapped-more, mapped-plain, mapped-half)

module _ (o : ℕ) (cs : List ℕ) (at : ℕ) where
  bang-mapped : Mapped (bang o cs at) (bang o cs at)
  unfolding bang
  bang-mapped = search maps

  colon-mapped : Mapped (colon o cs at) (colon o cs at)
  unfolding colon
  colon-mapped = search maps

  dot-mapped : Mapped (rust.dot o cs at) (dot o cs at)
  unfolding rust.dot dot
  dot-mapped = search maps

  look-mapped : Mapped (rust.look o cs at) (look o cs at)
  unfolding rust.look look
  look-mapped = search maps

  tilde-mapped : Mapped (rust.tilde o cs at) (tilde o cs at)
  unfolding rust.tilde tilde
  tilde-mapped = search maps

  minus-mapped : Mapped (rust.minus o cs at) (minus o cs at)
  unfolding rust.minus minus
  minus-mapped = search maps

  arrow_look-mapped : Mapped (rust.arrow_look o cs at) (arrow_look o cs at)
  unfolding rust.arrow_look arrow_look
  arrow_look-mapped = search maps

-- ---- the dispatch
single-mapped : (ks : List (ℕ × Kind)) (c o at : ℕ) (x y : Call) → Mapped x y → Mapped (single ks c o at x) (single ks c o at y)
unfolding single
single-mapped [] c o at x y h = h
single-mapped (k ∷ ks) c o at x y h = mapped-test (eqb c k.0) _ _ _ _ (mapped-plain k.1 o at 1) (single-mapped ks c o at x y h)

told_what_lem : (g d : ℕ) (w : What) → told_what g d (rust_what w) ≡ rust_what (told_what g d w)
told_what_lem g d (Got t) = refl
told_what_lem g d (Error r) = refl
told_what_lem g d End = refl

mapped-told : (g : ℕ) (x y : Call) → Mapped x y → Mapped (told g x) (told g y)
unfolding told
mapped-told g x y h = record { is = rw (h.is, told_what_lem g y.code_depth y.what) }

-- in every reading
module _ (rd : Reading) where
  arrow_mapped : (o : ℕ) (cs : List ℕ) (at : ℕ) → Mapped (rust.right_arrow rd o cs at) (right_arrow rd o cs at)
  unfolding rust.right_arrow right_arrow refuse among
  arrow_mapped o [] at = record { is = refl }
  arrow_mapped o (c ∷ cs) at = search (maps, arrow_look-mapped, mapped-stays, code-coarse)

  equals-mapped : (o : ℕ) (cs : List ℕ) (at : ℕ) → Mapped (rust.equals rd o cs at) (equals rd o cs at)
  unfolding rust.equals equals
  equals-mapped o cs at = search (maps, arrow_mapped)

  starts-mapped : (c : ℕ) (cs : List ℕ) (o at : ℕ) → Mapped (rust.starts rd c cs o at) (starts rd c cs o at)
  unfolding rust.starts starts
  starts-mapped c cs o at =
      search (mapped-test, mapped-more, bang-mapped, colon-mapped, dot-mapped, equals-mapped, look-mapped, tilde-mapped, mapped-half, minus-mapped, mapped-stray, mapped-stays, shared) depth 18

  token-mapped : (c : ℕ) (cs : List ℕ) (o at : ℕ) → Mapped (rust.token rd c cs o at) (token rd c cs o at)
  unfolding rust.token token
  token-mapped c cs o at = mapped-test (eqb c 35) _ _ _ _ (mapped-more 1 _ _ (mapped-stays _ (hash-coarse rd o cs at))) (single-mapped singles c o at _ _ (starts-mapped c cs o at))

  or-end-mapped : (cs : List ℕ) (o : ℕ) → Mapped (rust.token_or_end rd cs o) (token_or_end rd cs o)
  unfolding rust.token_or_end token_or_end
  or-end-mapped [] o = record { is = refl }
  or-end-mapped (c ∷ cs) o = token-mapped c cs o (o + width_of c)

  pub next-mapped : (cs : List ℕ) (at : ℕ) → Mapped (rust.next rd cs at) (next rd cs at)
  unfolding rust.next next
  next-mapped cs at = go (gap cs at) (gap-coarse cs at)
    where
      go : (x : Skip) → Loses Coarse x → Mapped (rust.next_by rd cs x (gap_depth_of cs at)) (next_by rd cs x (gap_depth_of cs at))
      go (Ok (p, m)) h = mapped-told _ _ _ (mapped-more m _ _ (or-end-mapped (drop m cs) p))
      go (Err (r, p, m)) h = record { is = rw h.is }
