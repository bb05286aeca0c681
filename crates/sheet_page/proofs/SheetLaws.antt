-- The page of an input by the tests that are made of it, and by the parts that the code takes. Assumes nothing.
use Rattle.std.specs.Prelude.{Ok, Err}
use mathlib.Core.Path.{◌≡◌, refl, sym, ap, ap₂, ◌∙◌}
use mathlib.Core.Bool.{Bool, true, false, cond, not}
use mathlib.Core.List.{List}
use Prim.Native.Nat.{ℕ, suc, ◌+◌, ◌-◌, ◌≤◌, ◌<◌}
use native.Mathlib.Omega.{arith}
use borrow.Author.Tests.{lt-leb, le-leb, leb-true}
use borrow.Author.Rules.{part_to_end}
use lib.Dec.{leb}
use lib.ListN.{length, take, drop}
use Rattle.text.specs.Lines.{to_lf}
use Rattle.assertion.specs.Graph.{Bytes}
use Rattle.graph.specs.Reading.{graph_of}
use Rattle.page_text.specs.Parts.{graph_part, trace_part}
use Rattle.page_text.specs.Lines.{refused_line}
use Rattle.page.specs.Pages.{graph_page}
use Rattle.sheet_page.specs.declared.InputFault.{InputFault}
use Rattle.sheet_page.specs.declared.InputFault.TheVariants.{TooLong, NoGraphName}
use Rattle.sheet_page.specs.Sheets.{input_refusal, first_line, after_line, has_name, trace_sheet, sheet_text}
use Rattle.sheet_page.specs.Private.Names.{name_end}
use Rattle.sheet_page.specs.Claims.{Named}
use Rattle.sheet_page.proofs.NameLaws.{first-is, after_is, has_name_lem, name-within, EndsAt}

-- the page of a graph name and the monitor's input
abbrev pub rest_sheet : Bytes → Bytes → Bytes
rest_sheet name rest = graph_page (graph_of (graph_part rest)) (trace_sheet name (trace_part rest))

module _ (input : Bytes) where
  pub long-sheet : 65536 < length input → sheet_text input ≡ refused_line (input_refusal TooLong)
  unfolding sheet_text
  long-sheet h = rw (lt-leb (length input) 65536 h)

  module _ (short : length input ≤ 65536) where
    pub unnamed_sheet : has_name input ≡ false → sheet_text input ≡ refused_line (input_refusal NoGraphName)
    unfolding sheet_text
    unnamed_sheet h = rw (le-leb (length input) 65536 short, h)

    pub line-sheet : has_name input ≡ true → sheet_text input ≡ rest_sheet (first_line input) (after_line input)
    unfolding sheet_text
    line-sheet h = rw (le-leb (length input) 65536 short, h)

    -- what stands before and after the LF, as the code takes it
    pub taken-sheet : {end : ℕ} → EndsAt input end → has_name input ≡ true
        → rest_sheet (take end input) (take (length input - (end + 1)) (drop (end + 1) input)) ≡ sheet_text input
    taken-sheet {end} e h =
        let after : suc (to_lf input) ≡ end + 1 = omega (arith, e.place) in
        let rest : take (length input - (end + 1)) (drop (end + 1) input) ≡ after_line input = part_to_end input (end + 1) ∙ sym (ap (λ (n : ℕ). drop n input) after) in
        ap₂ rest_sheet (ap (λ (n : ℕ). take n input) e.place) rest ∙ sym (line-sheet h)

  pub named-sheet : {name rest : List ℕ} → Named input name rest → sheet_text input ≡ rest_sheet name rest
  named-sheet n = line-sheet n.short (has_name_lem n) ∙ ap₂ rest_sheet (first-is n) (after_is n)

-- ---- by where the name ends
pub record Found (input : Bytes) (end : ℕ) : Type 0 where
  pub short : length input ≤ 65536
  pub ends : EndsAt input end
  pub named : has_name input ≡ true

module _ (input : Bytes) where
  pub name-found : {end : ℕ} → name_end input ≡ Ok end → Found input end
  unfolding name_end
  name-found {end} = go (leb (length input) 65536) refl (has_name input) refl
    where
      go : (a : Bool) → leb (length input) 65536 ≡ a → (b : Bool) → has_name input ≡ b
          → cond (not a) (Err TooLong) (cond (not b) (Err NoGraphName) (Ok (to_lf input))) ≡ Ok end → Found input end
      go true s true h e =
          let same : to_lf input ≡ end = cc in
          record { short = leb-true (length input) 65536 s; ends = record { place = sym same; within = name-within input h }; named = h }
      go true s false h e = let z : ◌≡◌ {A = ℕ} 0 1 = cc in absurd (omega arith)
      go false s b h e = let z : ◌≡◌ {A = ℕ} 0 1 = cc in absurd (omega arith)

  pub faulty-sheet : {fault : InputFault} → name_end input ≡ Err fault → sheet_text input ≡ refused_line (input_refusal fault)
  unfolding name_end sheet_text
  faulty-sheet {fault} = go (leb (length input) 65536) (has_name input)
    where
      go : (a b : Bool) → cond (not a) (Err TooLong) (cond (not b) (Err NoGraphName) (Ok (to_lf input))) ≡ Err fault
          → cond (not a) (refused_line (input_refusal TooLong)) (cond (not b) (refused_line (input_refusal NoGraphName)) (rest_sheet (first_line input) (after_line input)))
          ≡ refused_line (input_refusal fault)
      go true true e = let z : ◌≡◌ {A = ℕ} 0 1 = cc in absurd (omega arith)
      go true false e = let same : NoGraphName ≡ fault = cc in ap (λ (f : InputFault). refused_line (input_refusal f)) same
      go false b e = let same : TooLong ≡ fault = cc in ap (λ (f : InputFault). refused_line (input_refusal f)) same

  -- as the code finds it
  pub end_long : 65536 < length input → Err TooLong ≡ name_end input
  unfolding name_end
  end_long h = rw (lt-leb (length input) 65536 h)

  module _ (short : length input ≤ 65536) where
    pub end_unnamed : has_name input ≡ false → Err NoGraphName ≡ name_end input
    unfolding name_end
    end_unnamed h = rw (le-leb (length input) 65536 short, h)

    pub end_named : {end : ℕ} → EndsAt input end → has_name input ≡ true → Ok end ≡ name_end input
    unfolding name_end
    end_named e h = rw (le-leb (length input) 65536 short, h, e.place)
