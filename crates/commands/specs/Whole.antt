-- The parts of a listing, one after another, are the whole listing.
use Prim.Native.Nat.{ℕ, zero, suc, ◌+◌, ◌*◌, ◌/◌, ◌≤◌, ◌<◌}
use native.Mathlib.Omega.{arith}
use Rattle.std.proofs.Common.{eq-eqb, ne_eqb, sym, ◌∙◌, take-add, take_all}
use Rattle.std.specs.Prelude.{Bool, true, false, cond, ◌≡◌, ltb, drop, length, take}
use mathlib.Core.List.{List, [], ◌∷◌, ◌++◌, append_assoc, append-nil, map}
use Rattle.std.proofs.Math.Path.{refl, ap}
use Rattle.record.specs.Numbers.{code_number}
use Rattle.record.specs.declared.Code.TheVariants.{TooLong}
use Rattle.record.specs.declared.Reading.{Reading}
use Rattle.record.specs.declared.Token.{Token}
use Rattle.run.specs.declared.Group.{Group}
use Rattle.text.specs.Lines.{error_line}
use Rattle.commands.specs.Lists.{header_lines, list_out, listing, record_line, run_lines, text_limit}
use Rattle.commands.specs.Parts.{chunk, first_parts, last_part, list_last, list_part, list_tokens, only_in, part_lines, run_last, run_tokens}

map-append : (g : Group) (ts us : List Token) → map (record_line g) (ts ++ us) ≡ map (record_line g) ts ++ map (record_line g) us
map-append g [] us = refl
map-append g (t ∷ ts) us = ap (λ (ls : List (List ℕ)). record_line g t ∷ ls) (map-append g ts us)

only_not : (k p : ℕ) (ls : List (List ℕ)) → p < k → only_in k p ls ≡ []
unfolding only_in
only_not k p ls h = rw (ne_eqb p k (λ e. omega (arith, e, h)))

only_after : (k : ℕ) (ls : List (List ℕ)) → only_in 0 (suc k) ls ≡ []
unfolding only_in
only_after k ls = rw (ne_eqb (suc k) 0 (λ e. omega (arith, e)))

only_here : (p : ℕ) (ls : List (List ℕ)) → only_in p p ls ≡ ls
unfolding only_in
only_here p ls = rw (eq-eqb p p refl)

module _ (g : Group) (head : List (List ℕ)) (ts : List Token) (last : List ℕ) where
  abbrev part : ℕ → List (List ℕ)
  part p = only_in 0 p head ++ part_lines g p ts last

  abbrev tail : ℕ → List (List ℕ)
  tail p = only_in (last_part ts) p (last ∷ [])

  next : (n : ℕ) → map (record_line g) (take (n + chunk) ts) ≡ map (record_line g) (take n ts) ++ map (record_line g) (take chunk (drop n ts))
  next n = ap (map (record_line g)) (take-add n chunk ts) ∙ map-append g (take n ts) (take chunk (drop n ts))

  front : (k : ℕ) → k ≤ last_part ts → first_parts (suc k) part ≡ head ++ (map (record_line g) (take (chunk * suc k) ts) ++ tail k)
  unfolding first_parts only_in part_lines
  front zero h = refl
  front (suc k) h =
      let n = chunk * suc k in
      let a = map (record_line g) (take n ts) in
      let b = map (record_line g) (take chunk (drop n ts)) in
      let l = tail (suc k) in
      let e : chunk * suc (suc k) ≡ n + chunk = omega arith in
      let i = front k (omega (arith, h)) ∙ ap (λ (ls : List (List ℕ)). head ++ (a ++ ls)) (only_not (last_part ts) k (last ∷ []) (omega (arith, h))) ∙ ap (λ (ls : List (List ℕ)). head ++ ls) (append-nil a) in
      let j = ap (λ (m : ℕ). map (record_line g) (take m ts)) e ∙ next n in
      ap (λ (ls : List (List ℕ)). first_parts (suc k) part ++ (ls ++ (b ++ l))) (only_after k head)
      ∙ ap (λ (ls : List (List ℕ)). ls ++ (b ++ l)) i
      ∙ append_assoc head a (b ++ l)
      ∙ ap (λ (ls : List (List ℕ)). head ++ ls) (sym (append_assoc a b l))
      ∙ ap (λ (ls : List (List ℕ)). head ++ (ls ++ l)) (sym j)

  -- a head, the records and a last line
  pub all_parts : first_parts (suc (last_part ts)) part ≡ head ++ (map (record_line g) ts ++ (last ∷ []))
  all_parts =
      front (last_part ts) (omega arith)
      ∙ ap (λ (us : List Token). head ++ (map (record_line g) us ++ tail (last_part ts))) (take_all (chunk * suc (last_part ts)) ts (omega arith))
      ∙ ap (λ (ls : List (List ℕ)). head ++ (map (record_line g) ts ++ ls)) (only_here (last_part ts) (last ∷ []))

list_whole : (rd : Reading) (g : Group) (s : List ℕ) → map (record_line g) (list_tokens rd s) ++ (list_last rd g s ∷ []) ≡ listing rd g s
unfolding list_last list_tokens listing run_lines
list_whole rd g s = go (ltb text_limit (length s))
  where
    go : (b : Bool) → map (record_line g) (cond b [] (run_tokens rd s)) ++ (cond b (error_line (code_number TooLong) 0 0) (run_last rd g s) ∷ []) ≡ cond b (error_line (code_number TooLong) 0 0 ∷ []) (map (record_line g) (run_tokens rd s) ++ (run_last rd g s ∷ []))
    go true = refl
    go false = refl

-- THE THEOREM for `list`, in either reading
pub listing_parts : (rd : Reading) (g : Group) (headed : Bool) (name s : List ℕ) → first_parts (suc (last_part (list_tokens rd s))) (λ p. list_part rd g p headed name s) ≡ list_out rd g headed name s
unfolding list_out list_part
listing_parts rd g headed name s = all_parts g (header_lines headed name) (list_tokens rd s) (list_last rd g s) ∙ ap (λ (ls : List (List ℕ)). header_lines headed name ++ ls) (list_whole rd g s)
