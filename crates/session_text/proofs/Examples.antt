-- Session pages worked with their bytes written out: the rows of the request's page, and some more. Assumes nothing.
use mathlib.Core.Path.{◌≡◌, refl}
use mathlib.Core.List.{List, [], ◌∷◌, ◌++◌}
use Prim.Native.Nat.{ℕ}
use Rattle.text.specs.Quoted.{bytes}
use Rattle.text.specs.Numbers.{digits_of, digits}
use Rattle.rate.specs.Rates.{has_no_rate, per_million, rate_of}
use Rattle.session_text.specs.Fields.{left, right, row}
use Rattle.session_text.specs.Pages.{rejected_from, title, cell, cell_line, cell_lines, rate_fields, last_line, session_page}

-- the page of a name and verdict bytes, and its lines as they must be
record Case : Type 0 where
  found : List ℕ
  due : List (List ℕ)

abbrev joined_lines : List (List ℕ) → List ℕ
joined_lines [] = []
joined_lines (l ∷ ls) = l ++ joined_lines ls

abbrev founds : List Case → List (List ℕ)
founds [] = []
founds (c ∷ cs) = c.found ∷ founds cs

abbrev dues : List Case → List (List ℕ)
dues [] = []
dues (c ∷ cs) = joined_lines c.due ∷ dues cs

abbrev cases : List Case
cases =
    record {
      found = session_page (bytes "G") (1 ∷ 0 ∷ 0 ∷ []);
      due =
          bytes "G                                3                                              \n"
          ∷ bytes "       1                                                                        \n"
          ∷ bytes "         1 333333         1                                                     \n"
          ∷ [];
    }
    -- no cycle: whole part and remainder are blank
    ∷ record {
      found = session_page (bytes "G") ([]);
      due =
          bytes "G                                0                                              \n"
          ∷ bytes "         0                                                                      \n"
          ∷ [];
    }
    -- none rejected: no line between the first and the last
    ∷ record {
      found = session_page (bytes "G") (0 ∷ 0 ∷ 0 ∷ []);
      due =
          bytes "G                                3                                              \n"
          ∷ bytes "         0      0         0                                                     \n"
          ∷ [];
    }
    -- all of eleven: the second line holds one, and fields touch
    ∷ record {
      found = session_page (bytes "aaaaaaaaaaaaaaaaaaaaaaaa") (1 ∷ 1 ∷ 1 ∷ 1 ∷ 1 ∷ 1 ∷ 1 ∷ 1 ∷ 1 ∷ 1 ∷ 1 ∷ []);
      due =
          bytes "aaaaaaaaaaaaaaaaaaaaaaaa        11                                              \n"
          ∷ bytes "       1       2       3       4       5       6       7       8       9      10\n"
          ∷ bytes "      11                                                                        \n"
          ∷ bytes "        111000000         0                                                     \n"
          ∷ [];
    }
    -- a name that begins with a digit
    ∷ record {
      found = session_page (bytes "7up") (0 ∷ 1 ∷ []);
      due =
          bytes "7up                              2                                              \n"
          ∷ bytes "       2                                                                        \n"
          ∷ bytes "         1 500000         0                                                     \n"
          ∷ [];
    }
    -- ten fill a line
    ∷ record {
      found = session_page (bytes "_9Z") (1 ∷ 1 ∷ 1 ∷ 1 ∷ 1 ∷ 1 ∷ 1 ∷ 1 ∷ 1 ∷ 1 ∷ []);
      due =
          bytes "_9Z                             10                                              \n"
          ∷ bytes "       1       2       3       4       5       6       7       8       9      10\n"
          ∷ bytes "        101000000         0                                                     \n"
          ∷ [];
    }
    ∷ record {
      found = session_page (bytes "x") (0 ∷ 1 ∷ 1 ∷ 0 ∷ 1 ∷ 0 ∷ 0 ∷ []);
      due =
          bytes "x                                7                                              \n"
          ∷ bytes "       2       3       5                                                        \n"
          ∷ bytes "         3 428571         3                                                     \n"
          ∷ [];
    }
    ∷ []

pages_hold : founds cases ≡ dues cases
unfolding digits_of digits has_no_rate per_million rate_of left right row rejected_from title cell cell_line cell_lines rate_fields last_line session_page
pages_hold = refl
