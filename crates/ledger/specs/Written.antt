-- What the LTK writer finds: a kind's number, and the records in a run's numbers, five a record. That a run's records are never refused for 20 is in
-- proofs/Written.antt.
use Rattle.std.specs.Prelude.{ℕ, ◌+◌, ◌*◌, ◌/◌, ◌≤◌, ◌<◌, Bool, true, false, List, [], ◌∷◌, ◌++◌, map, ◌≡◌, refl, ltb, get_or, Some, None}
use Rattle.std.proofs.Common.{arith, append_assoc, sym, ◌∙◌, length-append, get_or-append-add, ltb-true}
use Rattle.std.proofs.Math.Path.{ap}
use Rattle.std.proofs.Math.ListN.{length}
use Rattle.record.specs.Numbers.{kind_again, kind_number, kind_of}
use Rattle.record.specs.declared.Kind.{Kind}
use Rattle.record.specs.declared.Token.{Token}
use Rattle.run.specs.Numbers.{group_size, groups, numbers_all, numbers_of}
use Rattle.ltk.specs.Layout.{last_kind}
use Rattle.ltk.specs.Ltk.{entries_in, entry_in, entry_of, listed}

-- a kind's number is at most 53: a number above has no kind
pub kind_small : (k : Kind) → kind_number k ≤ last_kind
unfolding kind_of
kind_small k = go (ltb (kind_number k) 54) refl
  where
    go : (b : Bool) → ltb (kind_number k) 54 ≡ b → kind_number k ≤ last_kind
    go true q = let h : kind_number k < 54 = ltb-true (kind_number k) 54 q in omega arith
    go false q = let e : None ≡ Some k = rw q at (kind_again k) in let z : ◌≡◌ {A = ℕ} 0 1 = cc in absurd (omega arith)

-- ---- a run as plain numbers, five a record
pub numbers_length : (ts : List Token) → length (numbers_all ts) ≡ group_size * length ts
unfolding groups
numbers_length [] = refl
numbers_length (t ∷ ts) = let h = numbers_length ts in omega arith

-- the records that the writer finds in a run's numbers are those of its tokens
entries_from : (front : List ℕ) (i : ℕ) (ts : List Token) → length front ≡ group_size * i → listed (entry_in (front ++ numbers_all ts)) i (length ts) ≡ map entry_of ts
unfolding listed groups
entries_from front i [] e = refl
entries_from front i (t ∷ ts) e = rw (here, more (entries_from (front ++ numbers_of t) (i + 1) ts (length-append front (numbers_of t) ∙ omega arith)))
  where
    number : (k j : ℕ) → k ≡ length front + j → get_or (front ++ (numbers_of t ++ numbers_all ts)) k 0 ≡ get_or (numbers_of t ++ numbers_all ts) j 0
    number k j f = rw f (get_or-append-add front (numbers_of t ++ numbers_all ts) j 0)

    here : entry_in (front ++ (numbers_of t ++ numbers_all ts)) i ≡ entry_of t
    here = rw (number (group_size * i) 0 (omega arith), number (group_size * i + 1) 1 (omega arith), number (group_size * i + 2) 2 (omega arith))

    more : listed (entry_in ((front ++ numbers_of t) ++ numbers_all ts)) (i + 1) (length ts) ≡ map entry_of ts
        → listed (entry_in (front ++ (numbers_of t ++ numbers_all ts))) (i + 1) (length ts) ≡ map entry_of ts
    more h = ap (λ (xs : List ℕ). listed (entry_in xs) (i + 1) (length ts)) (sym (append_assoc front (numbers_of t) (numbers_all ts))) ∙ h

pub entries_are : (ts : List Token) → entries_in (numbers_all ts) ≡ map entry_of ts
entries_are ts =
    let n : length (numbers_all ts) / group_size ≡ length ts = omega (arith, numbers_length ts) in
    rw n (entries_from [] 0 ts refl)
