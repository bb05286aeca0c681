-- What every call of the C interface returns: 0 where it is accepted, else number × 2^32 + line. Assumes nothing.
use Rattle.std.specs.Prelude.{ℕ, ◌+◌, ◌*◌, ◌^◌}
use Rattle.text.specs.declared.Refusal.{Refusal}

abbrev pub accepted_code : ℕ
accepted_code = 0

unfoldable pub code_of : Refusal → ℕ
code_of r = r.number * 2 ^ 32 + r.line
