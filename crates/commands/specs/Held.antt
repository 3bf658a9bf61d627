-- What a buffer holds into which a part was put that fits: its bytes, and then what was there.
use Rattle.std.specs.Prelude.{ℕ, ◌+◌, ◌-◌, ◌≤◌, Bool, List, [], ◌∷◌, ◌++◌, ◌≡◌, refl, drop, length, take, Some}
use Rattle.std.proofs.Common.{arith, le-ltb, append_assoc, append-nil, sym, ap, ◌∙◌, length-append, length-drop, take-append-drop, drop_at, drop-drop, length-take-le, take_at}
use Rattle.record.specs.declared.Reading.{Reading}
use Rattle.run.specs.declared.Group.{Group}
use Rattle.text.specs.Bytes.{join}
use Rattle.text.specs.Lay.{Laid, lay, lay_all}
use Rattle.commands.specs.Parts.{list_part}
use Rattle.commands.specs.Sizes.{list_part-fits, part_room}

abbrev laid : ℕ → List ℕ → Laid
laid n x = record { to = Some n; held = x }

same : (a b : ℕ) (x y : List ℕ) → a ≡ b → x ≡ y → laid a x ≡ laid b y
same a b x y e f = rw (e, f) refl

lay-fits : (d : List ℕ) (at : ℕ) (l : List ℕ) → at + length l ≤ length d → lay d (Some at) l ≡ laid (at + length l) (take at d ++ l ++ drop (at + length l) d)
unfolding lay
lay-fits d at l h = rw (le-ltb (length d) (at + length l) h) refl

-- the bytes of all lines stand one after another
pub lay-join : (ls : List (List ℕ)) (d : List ℕ) (at : ℕ) → at + length (join ls) ≤ length d
    → lay_all d (Some at) ls ≡ laid (at + length (join ls)) (take at d ++ join ls ++ drop (at + length (join ls)) d)
unfolding join lay_all
lay-join [] d at h =
    let e : at + 0 ≡ at = omega arith in
    sym (same (at + 0) at (take at d ++ [] ++ drop (at + 0) d) d e (ap (λ (k : ℕ). take at d ++ [] ++ drop k d) e ∙ ap (λ (x : List ℕ). x ++ drop at d) (append-nil (take at d)) ∙ take-append-drop at d))
lay-join (l ∷ ls) d at h =
    let j = join ls in
    let a = length-append l j in
    let n = at + length l in
    let front = take at d ++ l in
    let all = front ++ drop n d in
    let t = length-take-le at d (omega (arith, a, h)) in
    let f : length front ≡ n = length-append (take at d) l ∙ ap (λ (k : ℕ). k + length l) t in
    let w : length all ≡ length d = (let x = length-append front (drop n d) in let y = length-drop n d in omega (arith, x, y, f, a, h)) in
    let e : n + length j ≡ at + length (l ++ j) = omega (arith, a) in
    let i = lay-join ls all n (omega (arith, w, a, h)) in
    let k = take_at front (drop n d) n f in
    let g = sym (drop-drop (length j) n all) ∙ ap (drop (length j)) (drop_at front (drop n d) n f) ∙ drop-drop (length j) n d ∙ ap (λ (m : ℕ). drop m d) e in
    ap (λ (x : Laid). lay_all x.held x.to ls) (lay-fits d at l (omega (arith, a, h)))
    ∙ i
    ∙ same (n + length j) (at + length (l ++ j)) (take n all ++ j ++ drop (n + length j) all) (take at d ++ (l ++ j) ++ drop (at + length (l ++ j)) d) e
    (ap (λ (x : List ℕ). x ++ j ++ drop (n + length j) all) k ∙ ap (λ (x : List ℕ). front ++ j ++ x) g ∙ ap (λ (x : List ℕ). x ++ drop (at + length (l ++ j)) d) (append_assoc (take at d) l j))

-- so of `list`, in a buffer as `teyk` has it: nothing is left out
pub list_held : (rd : Reading) (g : Group) (p : ℕ) (headed : Bool) (name s d : List ℕ) → length name ≤ 4096 → part_room ≤ length d
    → lay_all d (Some 0) (list_part rd g p headed name s) ≡ laid (length (join (list_part rd g p headed name s))) (join (list_part rd g p headed name s) ++ drop (length (join (list_part rd g p headed name s))) d)
list_held rd g p headed name s d h k =
    let b = join (list_part rd g p headed name s) in
    let f = list_part-fits rd g p headed name s h in
    let e : 0 + length b ≡ length b = omega arith in
    lay-join (list_part rd g p headed name s) d 0 (omega (arith, f, k))
    ∙ same (0 + length b) (length b) (b ++ drop (0 + length b) d) (b ++ drop (length b) d) e (ap (λ (m : ℕ). b ++ drop m d) e)
