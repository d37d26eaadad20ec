-- How names are shown.
use Rattle.std.proofs.Common.{◌≡◌, ℕ, false, List, refl, inl, inr}
use Rattle.std.specs.List.{flat_map, list_any}
use Rattle.std.specs.Str.{chars, IsUtf8, is_utf8}
use Rattle.std.proofs.lemmas.Bool.{cases_Bool}
use Rattle.std.proofs.lemmas.Str.{IsUtf8-from_is_utf8, is_utf8-from_IsUtf8}
use Rattle.pg_aiger_reader.specs.FaultTexts.{is_hidden, escaped, name_text}

pub shown_as_it_is : (bytes : List ℕ) → list_any is_hidden (chars bytes) ≡ false → IsUtf8 bytes → name_text bytes ≡ bytes
shown_as_it_is bytes none text = rw (is_utf8-from_IsUtf8 bytes text, none) refl

pub escaped_for_bytes : (bytes : List ℕ) → ¬ IsUtf8 bytes → name_text bytes ≡ flat_map escaped bytes
escaped_for_bytes bytes none =
    elim (cases_Bool (is_utf8 bytes)) [ inl e ↦ absurd (none (IsUtf8-from_is_utf8 bytes e)) | inr e ↦ rw e refl ]
