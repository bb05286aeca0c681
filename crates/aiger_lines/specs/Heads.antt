-- The header of an AIGER file: its tag, and the numbers M I L O A within the limits. Assumes nothing.
use Rattle.std.specs.Prelude.{Bool, cond, ◌&&◌, List, [], ◌∷◌, ℕ, eqb, get_or}
use Rattle.text.specs.Quoted.{byte}
use Rattle.netlist.specs.Valid.{header_ok}
use Rattle.aiger_lines.specs.declared.Fault.{Fault}
use Rattle.aiger_lines.specs.declared.Fault.TheVariants.{WrongShape, OutOfLimits}
use Rattle.aiger_lines.specs.Fields.{Fields, wrong, fields, fields_of}
use Rattle.aiger_lines.specs.Blocks.{Rows, failed, behind}

-- `a`, the second byte given, `g` and a blank
unfoldable pub has_tag : ℕ → List ℕ → Bool
has_tag second s =
    eqb (get_or s 0 0) (byte "a") && (eqb (get_or s 1 0) second && (eqb (get_or s 2 0) (byte "g") && eqb (get_or s 3 0) (byte " ")))

-- the numbers M I L O A and the place after their line; or its fault
pub data Heading : Type 0 where
  heading : ℕ → ℕ → ℕ → ℕ → ℕ → ℕ → Heading
  misheaded : Fault → Heading

-- the header's numbers keep to the limits
unfoldable pub headed : Fields → Heading
headed wrong = misheaded WrongShape
headed (fields vs q) =
    let m = get_or vs 0 0 in
    let i = get_or vs 1 0 in
    let l = get_or vs 2 0 in
    let o = get_or vs 3 0 in
    let a = get_or vs 4 0 in
    cond (header_ok m i l o a) (heading m i l o a q) (misheaded OutOfLimits)

-- the header of a text whose tag has the second byte given
unfoldable pub head_at : ℕ → List ℕ → Heading
head_at second s = cond (has_tag second s) (headed (fields_of s 4 4)) (misheaded WrongShape)

-- a header, and then what is read from the place after it; the header is line 1
unfoldable pub on_head : Heading → (ℕ → ℕ → ℕ → ℕ → ℕ → ℕ → Rows) → Rows
on_head (heading m i l o a q) body = behind (m ∷ i ∷ l ∷ o ∷ a ∷ []) (body m i l o a q)
on_head (misheaded e) body = failed e 1
