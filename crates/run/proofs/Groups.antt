-- Groups of numbers, one after another, in a lent list.
use Rattle.std.specs.Prelude.{Ok, Err}
use Prim.Native.Nat.{ℕ, suc, ◌+◌, ◌*◌, ◌/◌, ◌<◌, ◌≤◌}
use mathlib.Core.Bool.{true, false}
use native.Mathlib.Omega.{arith}
use mathlib.Core.List.{List, [], ◌∷◌, ◌++◌, append_assoc, append-nil}
use mathlib.Core.Path.{◌≡◌, refl, sym, ap, subst, ◌∙◌}
use lib.ListN.{length, length-append, set}
use lib.Seq.{sets}
use Rattle.utf8.specs.Utf8.{boundary}
use Rattle.record.specs.Checks.{checks}
use Rattle.record.specs.Numbers.{kind_number}
use Rattle.record.specs.Records.{over, refusal, told_number}
use Rattle.record.specs.Stores.{sets_append, sets_over}
use Rattle.record.specs.declared.Code.TheVariants.{BadRecord}
use Rattle.record.specs.declared.Refusal.{Refusal}
use Rattle.record.specs.declared.Token.{Token}
use Rattle.reading.specs.Run.{Run, run, stopped}
use Rattle.reading.specs.declared.Outcome.{Outcome}
use Rattle.reading.specs.declared.Outcome.TheVariants.{Refused, Running}
use Rattle.reading.specs.declared.Tokenizer.{Tokenizer}
use Rattle.run.specs.Checked.{ran_of, ran_with, whole_run, whole_run_with}
use Rattle.run.specs.Numbers.{group_of, groups, numbers_of, size_of, told_of}
use Rattle.run.specs.Pending.{advance_of, begin_of, halted, pend_of, running, runs_as, is_going, taken}
use Rattle.run.specs.Room.{Ready}
use Rattle.run.specs.Steps.{ready_of}
use Rattle.run.specs.declared.Group.{Group}
use Rattle.run.specs.declared.Group.TheVariants.{Five, Nine}
use Rattle.run.specs.declared.Pending.{Pending}
use Rattle.run.specs.declared.Ran.{Ran}
use Rattle.run.proofs.Turns.{Core, core_end, core_start, core_turn, pend_goes, pend_runs}

-- of either size
one_more : (g : Group) (n m : ℕ) → m ≡ size_of g * n → size_of g + m ≡ size_of g * suc n
one_more Five n m e = omega arith
one_more Nine n m e = omega arith

none : (g : Group) → 0 ≡ size_of g * 0
none Five = refl
none Nine = refl

pub size_least : (g : Group) → 5 ≤ size_of g
size_least Five = omega arith
size_least Nine = omega arith

group_length : (g : Group) (t : Token) → length (group_of g t) ≡ size_of g
group_length Five t = refl
group_length Nine t = refl

pub all_length : (g : Group) (ts : List Token) → length (groups g ts) ≡ size_of g * length ts
unfolding groups
all_length g [] = none g
all_length g (t ∷ ts) = length-append (group_of g t) (groups g ts) ∙ rw (group_length g t) (one_more g (length ts) (length (groups g ts)) (all_length g ts))

-- n groups fit, where there is room for them
all_fits : (g : Group) (n l room : ℕ) → room ≡ l / size_of g → n ≤ room → size_of g * n ≤ l
all_fits Five n l room e h = omega arith
all_fits Nine n l room e h = omega arith

pub room_fits : (g : Group) (l room : ℕ) → room ≡ l / size_of g → room ≤ l
room_fits Five l room e = omega arith
room_fits Nine l room e = omega arith

-- and so does one more
pub next_fits : (g : Group) (n l room : ℕ) → room ≡ l / size_of g → n < room → size_of g * n + size_of g ≤ l
next_fits Five n l room e h = omega arith
next_fits Nine n l room e h = omega arith

pub all_more : (g : Group) (ts : List Token) (t : Token) → groups g (ts ++ (t ∷ [])) ≡ groups g ts ++ group_of g t
unfolding groups
all_more g [] t = append-nil (group_of g t)
all_more g (a ∷ ts) t = ap (λ (r : List ℕ). group_of g a ++ r) (all_more g ts t) ∙ sym (append_assoc (group_of g a) (groups g ts) (group_of g t))

-- one group more
pub group_on : (g : Group) (done : List Token) (t : Token) (xs : List ℕ) (n : ℕ) → n ≡ length done
    → sets (sets xs 0 (groups g done)) (size_of g * n) (group_of g t) ≡ sets xs 0 (groups g (done ++ (t ∷ [])))
group_on g done t xs n e =
    let k : size_of g * n ≡ length (groups g done) = ap (λ (k : ℕ). size_of g * k) e ∙ sym (all_length g done) in
    let j : size_of g * n ≡ 0 + length (groups g done) = omega (arith, k) in
    rw (j, all_more g done t) (sym (sets_append (groups g done) (group_of g t) xs 0))

-- five stores are one
pub group_laid : (l : List ℕ) (p : ℕ) (t : Token)
    → set (set (set (set (set l p (kind_number t.kind)) (p + 1) t.start) (p + 2) t.end) (p + 3) t.payload_start) (p + 4) t.payload_end ≡ sets l p (numbers_of t)
group_laid l p t =
    let a : p + 1 ≡ suc p = omega arith in
    let b : p + 2 ≡ suc (suc p) = omega arith in
    let c : p + 3 ≡ suc (suc (suc p)) = omega arith in
    let d : p + 4 ≡ suc (suc (suc (suc p))) = omega arith in
    rw (a, b, c, d)

-- four stores are one
pub told-laid : (l : List ℕ) (p : ℕ) (t : Token)
    → set (set (set (set l p (told_number t.gap_depth)) (p + 1) (told_number t.code_depth)) (p + 2) 18446744073709551615) (p + 3) 18446744073709551615 ≡ sets l p (told_of t)
told-laid l p t =
    let a : p + 1 ≡ suc p = omega arith in
    let b : p + 2 ≡ suc (suc p) = omega arith in
    let c : p + 3 ≡ suc (suc (suc p)) = omega arith in
    rw (a, b, c)

-- five and four are nine
pub nine_laid : (l : List ℕ) (p : ℕ) (t : Token) → sets (sets l p (numbers_of t)) (p + 5) (told_of t) ≡ sets l p (group_of Nine t)
nine_laid l p t = sym (sets_append (numbers_of t) (told_of t) l p)

-- ---- a turn of a run over numbers: they were xs, and are ys
pub record Numbered (g : Group) (s : List ℕ) (shift limit room : ℕ) (t₀ : Tokenizer) (xs : List ℕ) (p : Pending) (ys : List ℕ) : Type 0 where
  pub k : ℕ
  pub done : List Token
  pub core : Core s shift limit room t₀ k p done
  pub list_is : ys ≡ sets xs 0 (groups g done)

module _ (g : Group) (s : List ℕ) (shift limit room : ℕ) (t₀ : Tokenizer) (xs : List ℕ) where
  pub numbered_start : (p : Pending) → p ≡ begin_of s shift limit room t₀ → Numbered g s shift limit room t₀ xs p xs
  unfolding groups
  numbered_start p e = record { k = length s; done = []; core = rw e (core_start s shift limit room t₀); list_is = refl }

  module _ (p : Pending) (ys : List ℕ) (i : Numbered g s shift limit room t₀ xs p ys) where
    pub numbered_turn : is_going p ≡ true → (p' : Pending) (ys' : List ℕ) → p' ≡ advance_of s shift limit room p → ys' ≡ sets ys (size_of g * p.ran.stored) (group_of g (taken p))
        → Numbered g s shift limit room t₀ xs p' ys'
    numbered_turn o p' ys' e f =
        let n = core_turn s shift limit room t₀ i.k p i.done i.core o in
        record {
          k = n.less;
          done = i.done ++ (taken p ∷ []);
          core = rw e n.again;
          list_is = f ∙ ap (λ (y : List ℕ). sets y (size_of g * p.ran.stored) (group_of g (taken p))) i.list_is ∙ group_on g i.done (taken p) xs p.ran.stored i.core.stored_is;
        }

    pub numbered_end : is_going p ≡ false → room ≡ length xs / size_of g
        → (p.ran ≡ ran_of s shift limit room t₀) × (ys ≡ over (groups g (whole_run s shift limit room t₀).tokens) xs)
    numbered_end o e =
        let h = core_end s shift limit room t₀ i.k p i.done i.core o in
        let l = all_length g i.done in
        let f = all_fits g (length i.done) (length xs) room e i.core.fits in
        (h.0, i.list_is ∙ sets_over (groups g i.done) xs (omega (arith, l, f)) ∙ ap (λ (ts : List Token). over (groups g ts) xs) h.1)

-- ---- the loop that asks for a token and stores it, before it asks: n are stored, and the tokenizer is t
pub record Asking (g : Group) (s : List ℕ) (shift limit room : ℕ) (t₀ : Tokenizer) (xs : List ℕ) (n : ℕ) (t : Tokenizer) (ys : List ℕ) : Type 0 where
  pub ready : Ready s shift t
  pub pending : Numbered g s shift limit room t₀ xs (pend_of s shift limit room n t) ys

module _ (g : Group) (s : List ℕ) (shift limit room : ℕ) (t₀ : Tokenizer) (xs : List ℕ) where
  pub asking_start : checks s shift ≡ (Ok tt) → boundary s t₀.at ≡ true → Asking g s shift limit room t₀ xs 0 t₀ xs
  unfolding begin_of
  asking_start e b =
      record {
        ready = ready_of s shift t₀ e b;
        pending = numbered_start g s shift limit room t₀ xs (pend_of s shift limit room 0 t₀) (rw (e, b));
      }

  module _ (n : ℕ) (t : Tokenizer) (ys : List ℕ) (i : Asking g s shift limit room t₀ xs n t ys) (p : Pending) (q : p ≡ pend_of s shift limit room n t) where
    here : Numbered g s shift limit room t₀ xs p ys
    here = rw q i.pending

    stored : p.ran.stored ≡ n
    stored = rw q (pend_goes s shift limit room n t).0

    pub asking_turn : is_going p ≡ true → (ys' : List ℕ) → ys' ≡ sets ys (size_of g * n) (group_of g (taken p))
        → Asking g s shift limit room t₀ xs (n + 1) (running p.ran.state.reading p.ran.state.at p.ran.state.count) ys'
    unfolding advance_of
    asking_turn v ys' f =
        let d : p.ran.state.done ≡ Running = rw q (pend_runs s shift limit room n t (rw q at v)) in
        subst (λ (u : Tokenizer). Asking g s shift limit room t₀ xs (n + 1) u ys') (runs_as p.ran.state d)
        (record {
          ready = (here.core.going_on v).ready;
          pending = numbered_turn g s shift limit room t₀ xs p ys here v (pend_of s shift limit room (n + 1) p.ran.state) ys' (rw stored) (rw stored f);
        })

    pub asking_end : is_going p ≡ false → room ≡ length xs / size_of g → (r : Ran) → r ≡ p.ran
        → (r ≡ ran_of s shift limit room t₀) × (ys ≡ over (groups g (whole_run s shift limit room t₀).tokens) xs)
    asking_end v e r f = let h = numbered_end g s shift limit room t₀ xs p ys here v e in (f ∙ h.0, h.1)

-- ---- a run that the checks refuse, or a cursor off the boundaries: nothing is stored
module _ (g : Group) (s : List ℕ) (shift limit room : ℕ) (t₀ : Tokenizer) (xs : List ℕ) where
  pub refused_run : (r : Refusal) → checks s shift ≡ Err r
      → ((halted 0 (Refused r) 0 t₀).ran ≡ ran_of s shift limit room t₀) × (xs ≡ over (groups g (whole_run s shift limit room t₀).tokens) xs)
  unfolding ran_with whole_run_with groups
  refused_run r e = rw e (refl, refl)

  pub off_run : checks s shift ≡ (Ok tt) → boundary s t₀.at ≡ false
      → ((halted 0 (Refused (refusal BadRecord 0)) t₀.count t₀).ran ≡ ran_of s shift limit room t₀) × (xs ≡ over (groups g (whole_run s shift limit room t₀).tokens) xs)
  unfolding ran_with whole_run_with groups
  off_run e b = rw (e, b) (refl, refl)

  -- .. nor by a run that stops at once, as that of a tokenizer does that has ended or was refused
  pub idle_run : (d : Outcome) → checks s shift ≡ (Ok tt) → boundary s t₀.at ≡ true → run s shift limit room t₀ ≡ stopped d t₀
      → ((halted 0 d t₀.count t₀).ran ≡ ran_of s shift limit room t₀) × (xs ≡ over (groups g (whole_run s shift limit room t₀).tokens) xs)
  unfolding ran_with whole_run_with groups
  idle_run d e b q = rw (e, b) (rw q (refl, refl))
