-- The page of a graph text, by its build into a buffer that has room for every netlist, and what either file of a netlist
-- is settled by. Assumes nothing.
use Rattle.std.specs.Prelude.{Ok, Err}
use mathlib.Core.Path.{◌≡◌, refl, ap, sym, ◌∙◌}
use mathlib.Core.Bool.{Bool, true, false}
use mathlib.Core.List.{List, ◌++◌}
use Prim.Native.Nat.{ℕ, ◌≤◌}
use native.Mathlib.Omega.{arith}
use lib.ListN.{length, take, drop}
use lib.Seq.{take_at}
use Rattle.netlist.specs.Layout.{size_of}
use Rattle.netlist.specs.Valid.{is_netlist}
use Rattle.assertion.specs.Graph.{Bytes, Graph}
use Rattle.graph.specs.Reading.{Outcome, refused, accepted, graph_of}
use Rattle.circuit.specs.Numbers.{numbers_of}
use Rattle.circuit.proofs.Places.{latch_count_lem, outputs-are, gate_count_lem}
use Rattle.aiger.specs.Format.{file_of}
use Rattle.aiger.proofs.FormatLaws.{trimmed_file}
use Rattle.aiger.proofs.ClaimLaws as aiger
use Rattle.packed.specs.Format.{packed_of}
use Rattle.packed.proofs.FormatLaws.{trimmed_packed}
use Rattle.packed.proofs.ClaimLaws as packed
use Rattle.builder.specs.declared.Cause.{Cause}
use Rattle.builder.specs.Build.{refusal_of, build_of}
use Rattle.builder.specs.Claims.{BuildMeans}
use Rattle.judge.proofs.BuildLaws as judge
use Rattle.judge.proofs.BuildLaws.{numbers-length, graph_end, build_made, made_end, made_demand}
use Rattle.page_text.specs.Lines.{refused_line}
use Rattle.page.specs.Pages.{graph_page}
use Rattle.page.specs.Private.Files.{file_in, file_text}

-- the line of a cause
abbrev pub told : Cause → Bytes
told c = refused_line (refusal_of c)

-- a page is what is made of the graph, or the line of the cause
pub page_end_lem : (print : Graph → Bytes) (o : Outcome) → graph_page o print ≡ graph_end print told o
unfolding graph_page graph_end
page_end_lem print (refused c) = refl
page_end_lem print (accepted g) = refl

-- ---- a netlist's file in either format: surplus is no part of it, and it has at most 65,536 bytes

file_trimmed : (packed : Bool) (net : List ℕ) → file_in packed (take (size_of net) net) ≡ file_in packed net
unfolding file_in file_of packed_of
file_trimmed true net = trimmed_packed net (λ k. false)
file_trimmed false net = trimmed_file net (λ k. false)

pub file-short : (packed : Bool) (net : List ℕ) → is_netlist net ≡ true → length (file_in packed net) ≤ 65536
unfolding file_in packed_of
file-short true net h = omega (arith, (packed.write_means).short net (λ k. false) h)
file-short false net h = (aiger.write_means).short net h

module _ (room : List ℕ) (enough : 8194 ≤ length room) (text : Bytes) where
  pub build_refused : (print : Graph → Bytes) (cause : Cause) → (build_of false text room).answer ≡ Err cause
      → graph_page (graph_of text) print ≡ told cause
  build_refused print cause h = page_end_lem print (graph_of text) ∙ judge.build_refused room enough print told cause text h

  -- ---- what demand 3 says of the numbers that an accepted build leaves
  module _ (means : BuildMeans false text room) (made : ℕ) (h : (build_of false text room).answer ≡ Ok made) where
    pub made_netlist : is_netlist (build_of false text room).net ≡ true
    made_netlist = (made_demand room enough text made h means).netlist

    pub made_file : (packed : Bool) → file_in packed (build_of false text room).net ≡ file_text packed text
    unfolding file_text
    made_file packed =
        let m = build_made room enough text made h in
        let g = m.g in
        let surplus = drop (length (numbers_of g)) room in
        let net = numbers_of g ++ surplus in
        let size : size_of net ≡ length (numbers_of g) = omega (arith, numbers-length g, latch_count_lem g false surplus, outputs-are g false surplus, gate_count_lem g false surplus) in
        let front : take (size_of net) net ≡ numbers_of g = take_at (numbers_of g) surplus (size_of net) (sym size) in
        let print : Graph → Bytes = λ x. file_in packed (numbers_of x) in
        let page : graph_page (graph_of text) print ≡ file_in packed (numbers_of g) = page_end_lem print (graph_of text) ∙ made_end room enough text made h print told in
        rw (page, m.net) (sym (file_trimmed packed net) ∙ ap (file_in packed) front)
