-- The answers of the check of a file, one law each.
use Rattle.std.specs.Prelude.{Err}
use Prim.Native.Nat.{ℕ, ◌+◌, ◌*◌, ◌≤◌, ◌<◌}
use mathlib.Core.Path.{◌≡◌}
use mathlib.Core.Bool.{true, false}
use mathlib.Core.List.{List}
use lib.ListN.{length}
use borrow.Author.Tests.{lt-ltb, le-ltb, eq-eqb, ne_eqb}
use Rattle.record.specs.declared.Code.TheVariants.{BadMark, UnknownVersion, BadLength}
use Rattle.record.specs.Records.{refusal}
use Rattle.ltk.specs.Layout.{version, version_place, header_size, record_place, number_at}
use Rattle.ltk.specs.Ltk.{marked, count_in, entries_of, judge, file_check}

module _ (s : List ℕ) where
  pub no-mark : marked s ≡ false → Err (refusal BadMark 0) ≡ file_check s
  unfolding file_check
  no-mark m = simp m

  module _ (m : marked s ≡ true) where
    pub short : length s < header_size → Err (refusal BadLength header_size) ≡ file_check s
    unfolding file_check
    short h = simp (m, lt-ltb _ _ h)

    module _ (h : header_size ≤ length s) where
      pub other-version : (number_at 2 s version_place ≡ version → ⊥) → Err (refusal UnknownVersion version_place) ≡ file_check s
      unfolding file_check
      other-version v = simp (m, le-ltb _ _ h, ne_eqb _ _ v)

      module _ (v : number_at 2 s version_place ≡ version) where
        pub other_length : (length s ≡ record_place (count_in s) → ⊥) → Err (refusal BadLength header_size) ≡ file_check s
        unfolding file_check
        other_length l = simp (m, le-ltb _ _ h, eq-eqb _ _ v, ne_eqb _ _ l)

        pub by_records : length s ≡ record_place (count_in s) → judge (entries_of s (count_in s)) ≡ file_check s
        unfolding file_check
        by_records l = simp (m, le-ltb _ _ h, eq-eqb _ _ v, eq-eqb _ _ l)
