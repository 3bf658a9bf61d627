-- The parts of an LTK file's listing, one after another, are the whole listing.
use Rattle.std.specs.Prelude.{ℕ, suc, Bool, true, false, cond, List, [], ◌∷◌, ◌++◌, map, ◌≡◌, refl, ltb, length, Result, Ok, Err}
use Rattle.std.proofs.Common.{arith, ap, ◌∙◌}
use Rattle.std.proofs.lemmas.List.{length-map}
use Rattle.record.specs.Numbers.{code_number}
use Rattle.record.specs.declared.Code.TheVariants.{TooLong}
use Rattle.record.specs.declared.Token.{Token}
use Rattle.run.specs.declared.Group.TheVariants.{Five}
use Rattle.text.specs.Lines.{refusal_line}
use Rattle.ltk.specs.Laws.{length-listed}
use Rattle.ltk.specs.Ltk.{delivered, entry_at, read_answer, read_entries, read_tokens, token_in}
use Rattle.commands.specs.Lists.{header_lines, record_line, room}
use Rattle.commands.specs.Parts.{first_parts, last_part}
use Rattle.commands.specs.Whole.{all_parts}
use Rattle.files.specs.Files.{file_last, file_limit, file_listing, read_lines, unpack_last, unpack_out, unpack_part, unpack_tokens}
use Rattle.record.specs.declared.Refusal.{Refusal}

pub none : (ts : List Token) → length ts ≡ 0 → ts ≡ []
none [] e = refl
none (t ∷ ts) e = absurd (omega (arith, e))

pub read_length : (file : List ℕ) (k : ℕ) → length (read_tokens file k) ≡ delivered (read_answer file k)
unfolding read_tokens
read_length file k = length-map (read_entries file k) token_in ∙ length-listed (entry_at file) 0 (delivered (read_answer file k))

file-whole : (a : Result ℕ Refusal) (ts : List Token) → length ts ≡ delivered a → map (record_line Five) ts ++ (file_last a ∷ []) ≡ read_lines a ts
file-whole (Ok n) ts e = refl
file-whole (Err r) ts e = rw (none ts e) refl

unpack_whole : (file : List ℕ) → map (record_line Five) (unpack_tokens file) ++ (unpack_last file ∷ []) ≡ cond (ltb file_limit (length file)) (refusal_line (code_number TooLong) 0 ∷ []) (file_listing file)
unfolding file_listing unpack_last unpack_tokens
unpack_whole file = go (ltb file_limit (length file))
  where
    go : (b : Bool) → map (record_line Five) (cond b [] (read_tokens file room)) ++ (cond b (refusal_line (code_number TooLong) 0) (file_last (read_answer file room)) ∷ []) ≡ cond b (refusal_line (code_number TooLong) 0 ∷ []) (read_lines (read_answer file room) (read_tokens file room))
    go true = refl
    go false = file-whole (read_answer file room) (read_tokens file room) (read_length file room)

-- THE THEOREM for `unpack`
pub unpack_parts : (headed : Bool) (name file : List ℕ) → first_parts (suc (last_part (unpack_tokens file))) (λ p. unpack_part p headed name file) ≡ unpack_out headed name file
unfolding unpack_out unpack_part
unpack_parts headed name file = all_parts Five (header_lines headed name) (unpack_tokens file) (unpack_last file) ∙ ap (λ (ls : List (List ℕ)). header_lines headed name ++ ls) (unpack_whole file)
