use Rattle.std.proofs.Common.{ℕ, List, ◌≡◌, refl, sym, ap, ◌∙◌, arith}
use Rattle.record.specs.declared.Kind.{Kind}
use Rattle.record.specs.declared.Reading.{Reading}
use Rattle.scan.specs.Until.{left}
use Rattle.reading.specs.Answers.{more, plain}
use Rattle.reading.specs.Next.{token}
use Rattle.reading.proofs.Steps.{hash-fits}
use Rattle.reading.specs.Steps.{token-starts}
use Rattle.reading.specs.Symbols.{single, singles}
use Rattle.tok.proofs.next.token.Goals.{in-123, in-125, in-38, in-40, in-41, in-42, in-43, in-44, in-59, in-60, in-62, in-63, in-91, in-93}
use Rattle.tok.proofs.next.token.Goals as goal

-- the character c is k, whose kind is d
meant : (rd : Reading) (k c : ℕ) (cs : List ℕ) (o next : ℕ) (x d : Kind) → c ≡ k → x ≡ d → token rd k cs o next ≡ plain d o next 1 → plain x o next 1 ≡ token rd c cs o next
meant rd k c cs o next x d e q f = ap (λ (j : Kind). plain j o next 1) q ∙ sym f ∙ ap (λ (j : ℕ). token rd j cs o next) (sym e)

pub more-requires : goal.more-requires
more-requires c = omega (arith, hash-fits _ c.args.s.now c.args.next c.args.o c.hash.ensures)

pub returns-in-35 : goal.returns-in-35
unfolding token
returns-in-35 c = rw c.in-35.is (c.more.ensures ∙ ap (more 1) c.hash.ensures)

pub returns-in_default : goal.returns-in_default
returns-in_default c = let r = c.in_default.in_default-own.rest in c.starts.ensures ∙ sym (token-starts _ c.args.c (left c.args.s.now c.args.next) c.args.o c.args.next r.0.0.0.0.0.0.0.0.0.0.0.0.0.0.1 r.0.0.0.0.0.0.0.0.0.0.0.0.0.1 r.0.0.0.0.0.0.0.0.0.0.0.0.1 r.0.0.0.0.0.0.0.0.0.0.0.1 r.0.0.0.0.0.0.0.0.0.0.1 r.0.0.0.0.0.0.0.0.0.1 r.0.0.0.0.0.0.0.0.1 r.0.0.0.0.0.0.0.1 r.0.0.0.0.0.0.1 r.0.0.0.0.0.1 r.0.0.0.0.1 r.0.0.0.1 r.0.0.1 r.0.1 r.1)

pub returns : goal.returns
unfolding token single singles
returns c =
    let m : plain c.match-c.kind c.args.o c.args.next 1 ≡ token c.args.rd c.args.c (left c.args.s.now c.args.next) c.args.o c.args.next =
    elim c.match-c.branch [
      | in-38 w ↦ meant _ 38 _ _ _ _ _ _ w.in-38.is w.kind-is refl
      | in-44 w ↦ meant _ 44 _ _ _ _ _ _ w.in-44.is w.kind-is refl
      | in-62 w ↦ meant _ 62 _ _ _ _ _ _ w.in-62.is w.kind-is refl
      | in-123 w ↦ meant _ 123 _ _ _ _ _ _ w.in-123.is w.kind-is refl
      | in-91 w ↦ meant _ 91 _ _ _ _ _ _ w.in-91.is w.kind-is refl
      | in-40 w ↦ meant _ 40 _ _ _ _ _ _ w.in-40.is w.kind-is refl
      | in-60 w ↦ meant _ 60 _ _ _ _ _ _ w.in-60.is w.kind-is refl
      | in-43 w ↦ meant _ 43 _ _ _ _ _ _ w.in-43.is w.kind-is refl
      | in-63 w ↦ meant _ 63 _ _ _ _ _ _ w.in-63.is w.kind-is refl
      | in-125 w ↦ meant _ 125 _ _ _ _ _ _ w.in-125.is w.kind-is refl
      | in-93 w ↦ meant _ 93 _ _ _ _ _ _ w.in-93.is w.kind-is refl
      | in-41 w ↦ meant _ 41 _ _ _ _ _ _ w.in-41.is w.kind-is refl
      | in-59 w ↦ meant _ 59 _ _ _ _ _ _ w.in-59.is w.kind-is refl
      | in-42 w ↦ meant _ 42 _ _ _ _ _ _ w.in-42.is w.kind-is refl
    ] in
    c.plain.ensures ∙ m
