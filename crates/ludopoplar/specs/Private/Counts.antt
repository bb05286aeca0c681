-- What the calls that store a count share. Assumes nothing.
use Rattle.std.specs.Prelude.{Result, Ok, Err, ℕ}
use Rattle.text.specs.declared.Refusal.{Refusal}
use Rattle.ludopoplar.specs.Codes.{accepted_code, code_of}

-- the return code of a call that counts, and the count behind its pointer
unfoldable pub counted_code : Result ℕ Refusal → ℕ
counted_code (Ok n) = accepted_code
counted_code (Err refusal) = code_of refusal

unfoldable pub counted_after : Result ℕ Refusal → ℕ → ℕ
counted_after (Ok n) before = n
counted_after (Err refusal) before = before
