-- Every part of a text's listing, with depths or without, fits a buffer of 524,288 bytes.
use Rattle.std.specs.Prelude.{ℕ, zero, suc, ◌+◌, ◌*◌, ◌/◌, ◌≤◌, ◌<◌, Bool, true, false, cond, List, [], ◌∷◌, ◌++◌, map, ◌≡◌, refl, eqb, ltb, drop, length, take}
use Rattle.std.proofs.Common.{arith, ltb-false, lt-ltb, append_assoc, sym, ap, ◌∙◌, length-append, length-drop}
use Rattle.record.specs.Numbers.{code_number, kind_number}
use Rattle.record.specs.Records.{told_number}
use Rattle.record.specs.declared.Code.TheVariants.{TooLong}
use Rattle.record.specs.declared.Reading.{Reading}
use Rattle.record.specs.declared.Token.{Token}
use Rattle.scan.specs.Far.{short}
use Rattle.scan.specs.Until.{left}
use Rattle.reading.specs.Answers.{start_in}
use Rattle.reading.specs.Next.{next}
use Rattle.reading.specs.declared.Outcome.{Outcome}
use Rattle.reading.specs.declared.Outcome.TheVariants.{Ended, Refused, Running}
use Rattle.run.specs.Checked.{ran_of}
use Rattle.run.specs.declared.Group.{Group}
use Rattle.run.specs.declared.Group.TheVariants.{Five, Nine}
use Rattle.ledger.specs.Levels.{next_small}
use Rattle.ledger.proofs.Order.{ordered}
use Rattle.ledger.specs.Order.{Called, Ordered, called}
use Rattle.text.specs.Bytes.{bytes, join}
use Rattle.text.specs.DigitLaws.{at-most_twenty, length_digits, ten}
use Rattle.text.specs.Digits.{digits, width, width_in}
use Rattle.text.specs.Lines.{depth_line, end_depth_line, end_line, error_line, header_line, token_line}
use Rattle.text.specs.NameLaws.{code-short, kind_short}
use Rattle.text.specs.Names.{code_name, kind_name}
use Rattle.commands.specs.Lists.{final_line, header_lines, highest, last_line, record_line, room, text_limit}
use Rattle.commands.specs.Parts.{chunk, last_part, list_last, list_part, list_tokens, only_in, part_lines, run_last, run_tokens}

-- what `teyk` has room for
abbrev pub part_room : ℕ
part_room = 524288

cond-most : (t : Bool) (a b m : ℕ) → a ≤ m → b ≤ m → cond t a b ≤ m
cond-most true a b m h k = h
cond-most false a b m h k = k

-- a number below ten to the w has at most w digits
width_under : (k w n : ℕ) → n < ten (suc w) → width_in k n ≤ suc w
unfolding ten width_in
width_under zero w n h = omega arith
width_under (suc k) zero n h = rw (lt-ltb n 10 (omega (arith, h))) (omega arith)
width_under (suc k) (suc w) n h =
    let i = width_under k w (n / 10) (omega (arith, h)) in
    cond-most (ltb n 10) 1 (suc (width_in k (n / 10))) (suc (suc w)) (omega arith) (omega (arith, i))

digits-short : (n : ℕ) → n ≤ text_limit → length (digits n) ≤ 5
unfolding ten width
digits-short n h = let a = length_digits n in let b = width_under 20 4 n (omega (arith, h)) in omega (arith, a, b)

token-short : (kind start end : ℕ) → start ≤ text_limit → end ≤ text_limit → length (token_line kind start end) ≤ 42
unfolding bytes join token_line
token-short kind start end h k =
    let a = length-append (kind_name kind) (10 ∷ []) in
    let b = length-append (digits end) (32 ∷ (kind_name kind ++ (10 ∷ []))) in
    let c = length-append (digits start) (32 ∷ (digits end ++ (32 ∷ (kind_name kind ++ (10 ∷ []))))) in
    omega (arith, a, b, c, digits-short start h, digits-short end k, kind_short kind)

depth-short : (kind start end gap code : ℕ) → start ≤ text_limit → end ≤ text_limit → gap ≤ text_limit → code ≤ text_limit → length (depth_line kind start end gap code) ≤ 54
unfolding bytes join depth_line
depth-short kind start end gap code h k m n =
    let e = digits code ++ (10 ∷ []) in
    let d = digits gap ++ (32 ∷ e) in
    let f = kind_name kind ++ (32 ∷ d) in
    let i = digits end ++ (32 ∷ f) in
    let a = length-append (digits code) (10 ∷ []) in
    let b = length-append (digits gap) (32 ∷ e) in
    let c = length-append (kind_name kind) (32 ∷ d) in
    let j = length-append (digits end) (32 ∷ f) in
    let l = length-append (digits start) (32 ∷ i) in
    omega (arith, a, b, c, j, l, digits-short start h, digits-short end k, digits-short gap m, digits-short code n, kind_short kind)

-- ---- the records of a text lie within it, and no comment goes deeper than the text is long
record Fits (t : Token) : Type 0 where
  start_fits : t.start ≤ text_limit
  end_fits : t.end ≤ text_limit
  gap-fits : told_number t.gap_depth ≤ text_limit
  code_fits : told_number t.code_depth ≤ text_limit

abbrev Small : List Token → Type 0
Small [] = Unit {0}
Small (t ∷ ts) = Fits t × Small ts

left-short : (s : List ℕ) (at : ℕ) → length (left s at) ≤ length s
left-short s at = let a = short (drop at s) 0 (omega arith) in let b = length-drop at s in omega (arith, a, b)

module _ (rd : Reading) (s : List ℕ) (few : length s ≤ text_limit) where
  small : (from to at : ℕ) (ts : List Token) → to ≤ text_limit → Ordered from to ts → Called rd s 0 at ts → Small ts
  small from to at [] h o c = tt
  small from to at (t ∷ ts) h o c =
      let d = next_small rd (left s at) at c.0.token c.0.got in
      let l = left-short s at in
      let g : told_number t.gap_depth ≤ text_limit = rw (c.0.shifted, d.2) (omega (arith, d.0, l, few)) in
      let k : told_number t.code_depth ≤ text_limit = rw (c.0.shifted, d.3) (omega (arith, d.1, l, few)) in
      (record { start_fits = omega (arith, h, o.1, o.2); end_fits = omega (arith, h, o.2); gap-fits = g; code_fits = k }, small t.end to (next rd (left s at) at).at ts h o.3 c.1)

small-take : (k : ℕ) (ts : List Token) → Small ts → Small (take k ts)
small-take zero ts s = tt
small-take (suc k) [] s = tt
small-take (suc k) (t ∷ ts) s = (s.0, small-take k ts s.1)

small-drop : (k : ℕ) (ts : List Token) → Small ts → Small (drop k ts)
small-drop zero ts s = s
small-drop (suc k) [] s = tt
small-drop (suc k) (t ∷ ts) s = small-drop k ts s.1

record_short : (g : Group) (t : Token) → Fits t → length (record_line g t) ≤ 54
record_short Five t f = let h = token-short (kind_number t.kind) t.start t.end f.start_fits f.end_fits in omega (arith, h)
record_short Nine t f = depth-short (kind_number t.kind) t.start t.end (told_number t.gap_depth) (told_number t.code_depth) f.start_fits f.end_fits f.gap-fits f.code_fits

lines-short : (g : Group) (ts : List Token) → Small ts → length (join (map (record_line g) ts)) ≤ 54 * length ts
unfolding join
lines-short g [] s = omega arith
lines-short g (t ∷ ts) s =
    let a = length-append (record_line g t) (join (map (record_line g) ts)) in
    let b = record_short g t s.0 in
    let i = lines-short g ts s.1 in
    omega (arith, a, b, i)

take-most : (k : ℕ) (ts : List Token) → length (take k ts) ≤ k
take-most zero ts = omega arith
take-most (suc k) [] = omega arith
take-most (suc k) (t ∷ ts) = let i = take-most k ts in omega (arith, i)

-- ---- the other lines
error_short : (code place advances : ℕ) → length (error_line code place advances) ≤ 90
unfolding bytes error_line join
error_short code place advances =
    let e = digits advances ++ (10 ∷ []) in
    let d = bytes " advances " ++ e in
    let c = digits place ++ d in
    let b = bytes " at " ++ c in
    let l = length-append (digits advances) (10 ∷ []) in
    let m = length-append (digits place) d in
    let n = length-append (code_name code) b in
    omega (arith, l, m, n, at-most_twenty advances, at-most_twenty place, code-short code)

end_short : (advances : ℕ) → length (end_line advances) ≤ 90
unfolding bytes end_line join
end_short advances = let l = length-append (digits advances) (10 ∷ []) in omega (arith, l, at-most_twenty advances)

end-depth-short : (advances depth : ℕ) → length (end_depth_line advances depth) ≤ 90
unfolding bytes end_depth_line join
end-depth-short advances depth =
    let d = bytes " depth " ++ (digits depth ++ (10 ∷ [])) in
    let l = length-append (digits depth) (10 ∷ []) in
    let m = length-append (digits advances) d in
    omega (arith, l, m, at-most_twenty advances, at-most_twenty depth)

final_short : (g : Group) (advances depth : ℕ) → length (final_line g advances depth) ≤ 90
final_short Five advances depth = end_short advances
final_short Nine advances depth = end-depth-short advances depth

last-short : (g : Group) (how : Outcome) (advances depth : ℕ) → length (last_line g how advances depth) ≤ 90
last-short g (Refused r) advances depth = error_short (code_number r.code) r.place advances
last-short g Ended advances depth = final_short g advances depth
last-short g Running advances depth = final_short g advances depth

header_short : (headed : Bool) (name : List ℕ) → length (join (header_lines headed name)) ≤ length name + 2
unfolding bytes header_line header_lines join
header_short true name = let l = length-append name (58 ∷ 10 ∷ []) in omega (arith, l)
header_short false name = omega arith

-- ---- lines after lines
join-append : (ls ms : List (List ℕ)) → join (ls ++ ms) ≡ join ls ++ join ms
unfolding join
join-append [] ms = refl
join-append (l ∷ ls) ms = ap (λ (x : List ℕ). l ++ x) (join-append ls ms) ∙ sym (append_assoc l (join ls) (join ms))

join-length : (ls ms : List (List ℕ)) → length (join (ls ++ ms)) ≡ length (join ls) + length (join ms)
join-length ls ms = ap length (join-append ls ms) ∙ length-append (join ls) (join ms)

only_short : (k p : ℕ) (ls : List (List ℕ)) → length (join (only_in k p ls)) ≤ length (join ls)
unfolding join only_in
only_short k p ls = go (eqb p k)
  where
    go : (b : Bool) → length (join (cond b ls [])) ≤ length (join ls)
    go true = omega arith
    go false = omega arith

one_line_lem : (l : List ℕ) → length (join (l ∷ [])) ≡ length l
unfolding join
one_line_lem l = length-append l [] ∙ omega arith

part-short : (g : Group) (p : ℕ) (ts : List Token) (last : List ℕ) → Small ts → length last ≤ 90 → length (join (part_lines g p ts last)) ≤ 54 * chunk + 90
unfolding part_lines
part-short g p ts last s h =
    let us = take chunk (drop (chunk * p) ts) in
    let a = join-length (map (record_line g) us) (only_in (last_part ts) p (last ∷ [])) in
    let b = lines-short g us (small-take chunk (drop (chunk * p) ts) (small-drop (chunk * p) ts s)) in
    let c = take-most chunk (drop (chunk * p) ts) in
    let d = only_short (last_part ts) p (last ∷ []) in
    let e = one_line_lem last in
    omega (arith, a, b, c, d, e, h)

tokens-small : (rd : Reading) (s : List ℕ) → Small (list_tokens rd s)
unfolding list_tokens
tokens-small rd s = go (ltb text_limit (length s)) refl
  where
    go : (b : Bool) → ltb text_limit (length s) ≡ b → Small (cond b [] (run_tokens rd s))
    go true e = tt
    go false e =
        let h = ltb-false text_limit (length s) e in
        small rd s (omega (arith, h)) _ (length s + 0) _ (run_tokens rd s) (omega (arith, h)) (ordered s 0 highest room (start_in rd)) (called s 0 highest room (start_in rd))

list_last-short : (rd : Reading) (g : Group) (s : List ℕ) → length (list_last rd g s) ≤ 90
unfolding list_last
list_last-short rd g s = go (ltb text_limit (length s))
  where
    go : (b : Bool) → length (cond b (error_line (code_number TooLong) 0 0) (run_last rd g s)) ≤ 90
    go true = error_short (code_number TooLong) 0 0
    go false = let r = ran_of s 0 highest room (start_in rd) in last-short g r.how r.advances r.last_depth

-- THE LAW, in either reading, for every name that `teyk` reads
pub list_part-fits : (rd : Reading) (g : Group) (p : ℕ) (headed : Bool) (name s : List ℕ) → length name ≤ 4096 → length (join (list_part rd g p headed name s)) ≤ part_room
unfolding list_part
list_part-fits rd g p headed name s h =
    let a = join-length (only_in 0 p (header_lines headed name)) (part_lines g p (list_tokens rd s) (list_last rd g s)) in
    let b = only_short 0 p (header_lines headed name) in
    let c = header_short headed name in
    let d = part-short g p (list_tokens rd s) (list_last rd g s) (tokens-small rd s) (list_last-short rd g s) in
    omega (arith, a, b, c, d, h)
