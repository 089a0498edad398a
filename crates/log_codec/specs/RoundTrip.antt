-- A record and its 40 bytes determine each other, and so do the settings and their 32.
use Rattle.std.specs.Prelude.{◌≡◌, List, ◌++◌, ℕ, ◌+◌, ◌≤◌, length, take, drop}
use Rattle.std.proofs.lemmas.List.Edits.{sets}
use Rattle.log_codec.specs.Fields.{AreBytes}
use Rattle.log_codec.specs.Headers.{HeaderInRange, decoded_header, encoded_header}
use Rattle.log_codec.specs.Records.{InRange, decoded, encoded}
use Rattle.log_codec.specs.declared.Header.{Header}
use Rattle.log_codec.specs.declared.Record.{Record}

-- a record that was written reads back
abbrev pub ReadsBack : Type 0
ReadsBack = (r : Record) (bytes : List ℕ) (at : ℕ) → InRange r → at + 40 ≤ length bytes → decoded (sets bytes at (encoded r)) at ≡ r

-- 40 bytes that were read are written the same
abbrev pub WritesBack : Type 0
WritesBack = (bytes : List ℕ) (at : ℕ) → AreBytes bytes → at + 40 ≤ length bytes → encoded (decoded bytes at) ≡ take 40 (drop at bytes)

-- writing a record changes its 40 bytes and no other
abbrev pub ChangesOnly : Type 0
ChangesOnly = (r : Record) (bytes : List ℕ) (at : ℕ) → at + 40 ≤ length bytes →
    sets bytes at (encoded r) ≡ take at bytes ++ encoded r ++ drop (at + 40) bytes

-- settings that were written read back
abbrev pub HeaderReadsBack : Type 0
HeaderReadsBack = (h : Header) (bytes : List ℕ) (at : ℕ) → HeaderInRange h → at + 32 ≤ length bytes →
    decoded_header (sets bytes at (encoded_header h)) at ≡ h

-- 32 bytes that were read are written the same
abbrev pub HeaderWritesBack : Type 0
HeaderWritesBack = (bytes : List ℕ) (at : ℕ) → AreBytes bytes → at + 32 ≤ length bytes →
    encoded_header (decoded_header bytes at) ≡ take 32 (drop at bytes)
