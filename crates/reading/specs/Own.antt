-- Which word it is, its own characters tell. What stands after it counts only as what follows at once: a `<`, or the code of `use`.
use Rattle.std.specs.Prelude.{◌+◌, ◌<◌, suc, zero, ℕ, Bool, ◌&&◌, false, true, ◌≡◌, eqb, take}
use Rattle.std.proofs.Common.{le_of_suc-le-suc, arith, ap, ne_eqb}
use mathlib.Core.List.{List, [], ◌∷◌}
use Rattle.std.proofs.Math.Path.{refl}
use Rattle.utf8.specs.Utf8.{width_of}
use Rattle.record.specs.declared.Kind.{Kind}
use Rattle.record.specs.declared.Reading.{Reading}
use Rattle.scan.specs.Far.{Far, after}
use Rattle.scan.specs.Near.{wide}
use Rattle.reading.specs.Words.{hashed_underscore, keyword_token, keywords, spells, underscore, use_word, word_token}

and-false : (x : Bool) → (x && false) ≡ false
and-false true = refl
and-false false = refl

-- beyond the place p no word ends at it
spells_late : (ks cs : List ℕ) (at p : ℕ) → p < at → spells ks cs at p ≡ false
unfolding spells
spells_late [] cs at p h = ne_eqb at p (λ z. omega arith)
spells_late (k ∷ ks) [] at p h = refl
spells_late (k ∷ ks) (c ∷ cs) at p h = rw (spells_late ks cs (at + width_of c) p (omega arith)) (and-false (eqb c k))

spells_own : (ks cs : List ℕ) (at n p : ℕ) → Far cs at n p → spells ks cs at p ≡ spells ks (take n cs) at p
unfolding spells after
spells_own [] cs at n p f = refl
spells_own (k ∷ ks) [] at zero p f = refl
spells_own (k ∷ ks) [] at (suc n) p f = refl
spells_own (k ∷ ks) (c ∷ cs) at zero p f = let w = wide c in rw (spells_late ks cs (at + width_of c) p (omega (arith, f.there))) (and-false (eqb c k))
spells_own (k ∷ ks) (c ∷ cs) at (suc n) p f =
    ap (λ (d : Bool). eqb c k && d) (spells_own ks cs (at + width_of c) n p (record { within = le_of_suc-le-suc f.within; there = f.there }))

-- in every reading
module _ (rd : Reading) where
  module _ (cs : List ℕ) (o : ℕ) (rest : List ℕ) (n p : ℕ) (f : Far cs o n p) where
    keyword_own : (ts : List (List ℕ × Kind)) → keyword_token ts cs o rest p ≡ keyword_token ts (take n cs) o rest p
    unfolding keyword_token
    keyword_own [] = refl
    keyword_own (t ∷ ts) = rw (spells_own t.0 cs o n p f, keyword_own ts)

    pub word_own : word_token rd cs o rest p ≡ word_token rd (take n cs) o rest p
    unfolding word_token
    word_own = rw (spells_own underscore cs o n p f, spells_own hashed_underscore cs o n p f, spells_own use_word cs o n p f, keyword_own keywords)
