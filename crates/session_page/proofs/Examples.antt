-- The refusals of the request's page, and their neighbours, by the definitions. Assumes nothing.
use Rattle.std.specs.Prelude.{Result, Ok, Err}
use mathlib.Core.Path.{◌≡◌, refl}
use mathlib.Core.List.{List, [], ◌∷◌, ◌++◌, map}
use Prim.Native.Nat.{ℕ}
use lib.ListN.{replicate}
use Rattle.text.specs.Quoted.{bytes}
use Rattle.text.specs.Numbers.{digits_of, digits}
use Rattle.formula.specs.Classes.{class_of, is_word_class, name_bytes}
use Rattle.trace.specs.Verdicts.{all_bits}
use Rattle.rate.specs.Rates.{has_no_rate, per_million, rate_of}
use Rattle.session_text.specs.Fields.{left, right, row}
use Rattle.session_text.specs.Pages.{rejected_from, title, cell, cell_line, cell_lines, rate_fields, last_line, session_page}
use Rattle.session_page.specs.declared.Cause.{Cause}
use Rattle.session_page.specs.LayOut.{refusal_of, is_graph_name, is_printable, lay_out_of}

-- what is lent: name, verdict bytes, and how many bytes for the page
record Case : Type 0 where
  name : List ℕ
  verdicts : List ℕ
  room : ℕ

abbrev lend : List ℕ → List ℕ → ℕ → Case
lend n v r = record { name = n; verdicts = v; room = r }

-- the number of a refusal, or 0 and how many bytes the page has
abbrev told : Result ℕ Cause → List ℕ
told (Ok n) = 0 ∷ n ∷ []
told (Err cause) = (refusal_of cause).number ∷ (refusal_of cause).line ∷ []

abbrev answers : List Case → List (List ℕ)
answers = map (λ c. told (lay_out_of c.name c.verdicts (replicate c.room 7)).answer)

abbrev refusals : List Case
refusals =
    lend (bytes "") (1 ∷ []) 243
    ∷ lend (replicate 25 97) (1 ∷ []) 243
    ∷ lend (bytes "a b") (1 ∷ []) 243
    ∷ lend (bytes "a-b") (1 ∷ []) 243
    ∷ lend (233 ∷ []) (1 ∷ []) 243
    ∷ lend (bytes "G") (2 ∷ []) 243
    -- a verdict byte above 1 behind good ones; 22 before 12
    ∷ lend (bytes "G") (0 ∷ 1 ∷ 255 ∷ []) 0
    ∷ lend (bytes "") [] 0
    -- the bytes beside the letters, the digits and `_`
    ∷ lend (bytes "@") [] 162
    ∷ lend (bytes "[") [] 162
    ∷ lend (bytes "`") [] 162
    ∷ lend (bytes "{") [] 162
    ∷ lend (bytes "/") [] 162
    ∷ lend (bytes ":") [] 162
    ∷ []

refusals_hold : answers refusals ≡ replicate 14 (22 ∷ 0 ∷ [])
unfolding digits_of digits class_of is_word_class name_bytes all_bits has_no_rate per_million rate_of left right row rejected_from title cell cell_line cell_lines rate_fields last_line session_page refusal_of is_graph_name is_printable lay_out_of
refusals_hold = refl

-- one byte too few, and enough
rooms : answers (lend (bytes "G") [] 161 ∷ lend (bytes "G") [] 162 ∷ lend (bytes "AZaz09_") (1 ∷ []) 242 ∷ lend (replicate 24 97) (1 ∷ []) 243 ∷ [])
    ≡ (12 ∷ 0 ∷ []) ∷ (0 ∷ 162 ∷ []) ∷ (12 ∷ 0 ∷ []) ∷ (0 ∷ 243 ∷ []) ∷ []
unfolding digits_of digits class_of is_word_class name_bytes all_bits has_no_rate per_million rate_of left right row rejected_from title cell cell_line cell_lines rate_fields last_line session_page refusal_of is_graph_name is_printable lay_out_of
rooms = refl

-- a longer buffer keeps its surplus
surplus : (lay_out_of (bytes "G") [] (replicate 165 7)).page ≡ session_page (bytes "G") [] ++ (7 ∷ 7 ∷ 7 ∷ [])
unfolding digits_of digits class_of is_word_class name_bytes all_bits has_no_rate per_million rate_of left right row rejected_from title cell cell_line cell_lines rate_fields last_line session_page refusal_of is_graph_name is_printable lay_out_of
surplus = refl
