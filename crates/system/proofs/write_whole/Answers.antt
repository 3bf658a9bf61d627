-- What a write took goes from the rest to what was written.
use Rattle.std.proofs.Common.{◌≡◌, ℕ, ◌+◌, ◌-◌, ◌≤◌, List, [], ◌++◌, Option, Result, Ok, Err, length, take, drop, sym, ap, ◌∙◌, subst, arith, append_assoc, append-nil, take-append-drop, length-append}
use Rattle.std.proofs.lemmas.List.{take_rest}
use Rattle.std.proofs.Math.Seq.{take-append_seam}
use Rattle.std.specs.Io.KnownBytes.{Appends}
use Rattle.std.specs.Result.{OnErr}
use Rattle.std.proofs.KnownBytes.{Appends-trans, Appends-kept}
use Rattle.system.proofs.write_whole.Goals as goal

moves_front : (all done rest : List ℕ) (n : ℕ) → all ≡ done ++ rest → all ≡ (done ++ take n rest) ++ take (length rest - n) (drop n rest)
moves_front all done rest n e =
    e ∙ ap (λ l. done ++ l) (sym (take-append-drop n rest)) ∙ sym (append_assoc done (take n rest) (drop n rest)) ∙ ap (λ l. (done ++ take n rest) ++ l) (sym (take_rest rest n))

pub loop-rest-preserved : goal.loop-rest-preserved
loop-rest-preserved g c =
    let (done, split, appended) = c.loop-rest.invariant in
    let rest = c.loop-rest.rest.now in
    let n = c.in_ok-n.n in
    (done ++ take n rest, moves_front _ done rest n split, Appends-trans _ _ _ _ _ appended c.in_ok-n.ensures.bytes)

-- What was written before a fault is the front of the bytes.
front : (all done rest : List ℕ) (a b : Option (List ℕ)) → all ≡ done ++ rest → Appends a b done → (n : ℕ) × (n ≤ length all) × Appends a b (take n all)
front all done rest a b e h =
    let same : take (length done) all ≡ done = ap (take (length done)) e ∙ take-append_seam done rest in
    let fits : length all ≡ length done + length rest = ap length e ∙ length-append done rest in
    (length done, omega (arith, fits), subst (Appends a b) (sym same) h)

holds : {T E P : Type 0} (r : Result T E) → P → OnErr r P
holds (Ok x) p = tt
holds (Err e) p = p

pub returns-in_err-n-clause-err : goal.returns-in_err-n-clause-err
returns-in_err-n-clause-err g c =
    let (done, split, appended) = c.loop-rest.invariant in
    holds c.from_residual.result (front _ done c.loop-rest.rest.now _ _ split (Appends-kept _ _ _ _ appended c.in_err-n.ensures.bytes))

pub returns-then-n-eq0-clause-err : goal.returns-then-n-eq0-clause-err
returns-then-n-eq0-clause-err g c =
    let (done, split, appended) = c.loop-rest.invariant in
    let nothing : take c.in_ok-n.n c.loop-rest.rest.now ≡ [] = ap (λ (k : ℕ). take k c.loop-rest.rest.now) c.if-n-eq0.true in
    let same : done ++ take c.in_ok-n.n c.loop-rest.rest.now ≡ done = ap (λ (l : List ℕ). done ++ l) nothing ∙ append-nil done in
    front _ done c.loop-rest.rest.now _ _ split (subst (Appends _ _) same (Appends-trans _ _ _ _ _ appended c.in_ok-n.ensures.bytes))
