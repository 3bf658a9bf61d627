use Rattle.std.proofs.Common.{◌≡◌, ℕ, List, ◌∷◌, refl, sym, ap, ◌∙◌, arith}
use Rattle.record.specs.declared.Reading.{Reading}
use Rattle.scan.specs.Until.{left}
use Rattle.reading.specs.Answers.{more}
use Rattle.reading.proofs.Calls.{equals_fair, lifetimeish_fair, r_fair}
use Rattle.reading.specs.Calls.{bang_fair, colon_fair, dot_fair, escape_fair, fair_half, look_fair, minus_fair, string_fair, tilde_fair}
use Rattle.tok.specs.Fits.{fair_fits}
use Rattle.reading.specs.Next.{starts}
use Rattle.reading.specs.Regex.{r_word}
use Rattle.reading.specs.Steps.{starts_other}
use Rattle.reading.specs.declared.Call.{Call}
use Rattle.tok.proofs.next.starts.Goals.{in-33, in-58, in-46, in-61, in-64, in-126, in-96, in-39, in-34, in-47, in-45, in-114}
use Rattle.tok.proofs.next.starts.Goals as goal

-- the first character c is k, and the call x is d
begun : (rd : Reading) (k c : ℕ) (cs : List ℕ) (o next : ℕ) (x d : Call) → c ≡ k → x ≡ d → starts rd k cs o next ≡ more 1 d → more 1 x ≡ starts rd c cs o next
begun rd k c cs o next x d e q f = ap (more 1) q ∙ sym f ∙ ap (λ (j : ℕ). starts rd j cs o next) (sym e)

pub returns-in_default : goal.returns-in_default
returns-in_default c = let r = c.in_default.in_default-own.rest in (rw c.requires at c.other.ensures) ∙ sym (starts_other _ c.args.c (left c.args.s.now c.args.next) c.args.o c.args.next r.0.0.0.0.0.0.0.0.0.0.0.1 r.0.0.0.0.0.0.0.0.0.0.1 r.0.0.0.0.0.0.0.0.0.1 r.0.0.0.0.0.0.0.0.1 r.0.0.0.0.0.0.0.1 r.0.0.0.0.0.0.1 r.0.0.0.0.0.1 r.0.0.0.0.1 r.0.0.0.1 r.0.0.1 r.0.1 r.1)

-- the call that an arm made fits
pub more-requires : goal.more-requires
more-requires c =
    elim c.match-c.branch [
      | in-33 w ↦ omega (arith, fair_fits c.args.s.now c.args.next (w.x-is ∙ w.bang-x.ensures) (bang_fair _ _ _))
      | in-58 w ↦ omega (arith, fair_fits c.args.s.now c.args.next (w.x-is ∙ w.colon-x.ensures) (colon_fair _ _ _))
      | in-46 w ↦ omega (arith, fair_fits c.args.s.now c.args.next (w.x-is ∙ w.dot-x.ensures) (dot_fair _ _ _))
      | in-61 w ↦ omega (arith, fair_fits c.args.s.now c.args.next (w.x-is ∙ w.equals-x.ensures) (equals_fair _ _ _ _))
      | in-64 w ↦ omega (arith, fair_fits c.args.s.now c.args.next (w.x-is ∙ w.look-x.ensures) (look_fair _ _ _))
      | in-126 w ↦ omega (arith, fair_fits c.args.s.now c.args.next (w.x-is ∙ w.tilde-x.ensures) (tilde_fair _ _ _))
      | in-96 w ↦ omega (arith, fair_fits c.args.s.now c.args.next (w.x-is ∙ w.escape-x.ensures) (escape_fair _ _ _))
      | in-39 w ↦ omega (arith, fair_fits c.args.s.now c.args.next (w.x-is ∙ w.lifetimeish-x.ensures) (lifetimeish_fair _ _ _))
      | in-34 w ↦ omega (arith, fair_fits c.args.s.now c.args.next (w.x-is ∙ w.string_literal-x.ensures) (string_fair _ _ _))
      | in-47 w ↦ omega (arith, fair_fits c.args.s.now c.args.next (w.x-is ∙ w.half-x.ensures) (fair_half _ (left c.args.s.now c.args.next) _))
      | in-45 w ↦ omega (arith, fair_fits c.args.s.now c.args.next (w.x-is ∙ w.minus-x.ensures) (minus_fair _ _ _))
      | in-114 w ↦ omega (arith, fair_fits c.args.s.now c.args.next (w.x-is ∙ w.r_word-x.ensures) (r_fair _ _ _ _ _))
    ]

-- with the first character it is what the definition says
pub returns : goal.returns
unfolding starts
returns c =
    let m : more 1 c.match-c.x ≡ starts c.args.rd c.args.c (left c.args.s.now c.args.next) c.args.o c.args.next =
    elim c.match-c.branch [
      | in-33 w ↦ begun _ 33 _ _ _ _ _ _ w.in-33.is (w.x-is ∙ w.bang-x.ensures) refl
      | in-58 w ↦ begun _ 58 _ _ _ _ _ _ w.in-58.is (w.x-is ∙ w.colon-x.ensures) refl
      | in-46 w ↦ begun _ 46 _ _ _ _ _ _ w.in-46.is (w.x-is ∙ w.dot-x.ensures) refl
      | in-61 w ↦ begun _ 61 _ _ _ _ _ _ w.in-61.is (w.x-is ∙ w.equals-x.ensures) refl
      | in-64 w ↦ begun _ 64 _ _ _ _ _ _ w.in-64.is (w.x-is ∙ w.look-x.ensures) refl
      | in-126 w ↦ begun _ 126 _ _ _ _ _ _ w.in-126.is (w.x-is ∙ w.tilde-x.ensures) refl
      | in-96 w ↦ begun _ 96 _ _ _ _ _ _ w.in-96.is (w.x-is ∙ w.escape-x.ensures) refl
      | in-39 w ↦ begun _ 39 _ _ _ _ _ _ w.in-39.is (w.x-is ∙ w.lifetimeish-x.ensures) refl
      | in-34 w ↦ begun _ 34 _ _ _ _ _ _ w.in-34.is (w.x-is ∙ w.string_literal-x.ensures) refl
      | in-47 w ↦ begun _ 47 _ _ _ _ _ _ w.in-47.is (w.x-is ∙ w.half-x.ensures) refl
      | in-45 w ↦ begun _ 45 _ _ _ _ _ _ w.in-45.is (w.x-is ∙ w.minus-x.ensures) refl
      | in-114 w ↦
          let e = c.requires ∙ ap (λ (j : ℕ). j ∷ left c.args.s.now c.args.next) w.in-114.is in
          begun _ 114 _ _ _ _ _ _ w.in-114.is (w.x-is ∙ w.r_word-x.ensures ∙ ap (λ (l : List ℕ). r_word c.args.rd l c.args.o (left c.args.s.now c.args.next) c.args.next) e) refl
    ] in
    c.more.ensures ∙ m
