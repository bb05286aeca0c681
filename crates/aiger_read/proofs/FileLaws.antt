-- What is taken is a file of its numbers. Assumes nothing.
use mathlib.Core.Path.{◌≡◌, refl, sym, ap, ap₂, ◌∙◌}
use mathlib.Core.Bool.{true, false}
use mathlib.Core.List.{List, [], ◌∷◌, ◌++◌}
use Prim.Native.Nat.{ℕ, ◌+◌, ◌*◌}
use native.Mathlib.Nat.{zero-add}
use native.Mathlib.Omega.{arith}
use lib.ListN.{replicate, length-replicate}
use Rattle.text.specs.Writer.{joined}
use Rattle.netlist.specs.Literals.{literal_of}
use Rattle.netlist.proofs.ValidLaws.{header}
use Rattle.aiger.specs.Rows.{header_row}
use Rattle.aiger_lines.specs.Blocks.{rows}
use Rattle.aiger_lines.specs.Heads.{head_at}
use Rattle.aiger_lines.proofs.HeadLaws.{HeadAt, head_at_lem}
use Rattle.aiger_lines.proofs.TextLaws.{output_sound}
use Rattle.aiger_lines.proofs.RunLaws.{head_rows}
use Rattle.aiger_lines.proofs.LayoutLaws.{Pieces, net_of, pair_at}
use Rattle.aiger_lines.proofs.NetLaws.{laid, joined-none}
use Rattle.aiger_read.specs.Lines.{undefined}
use Rattle.aiger_read.specs.Files.{body_of, file_read}
use Rattle.aiger_read.specs.Claims.{IsFile}
use Rattle.aiger_read.proofs.TextLaws.{input_sound, latch_sound}
use Rattle.aiger_read.proofs.GateLaws.{whole_pairs, ran}
use Rattle.aiger_read.proofs.BodyLaws.{Body, body_read}
use Rattle.aiger_read.proofs.SoundLaws.{is-file}

module _ (s : List ℕ) (m i l o a r : ℕ) (ks : List ℕ) (b : Body s m i l o a r ks) where
  -- the numbers of gate k
  abbrev gate : ℕ → List ℕ
  gate k = pair_at b.n4 (2 * k)

  pieces : Pieces m i l o a b.latches.N b.outputs.N gate
  pieces =
      record {
        latches = λ k h. (latch_sound s _ _ _ _ _ (literal_of m true) (literal_of (i + 1 + k) false) (rw zero-add at (b.latches.steps k h))).says.two;
        outputs = λ k h. (output_sound _ _ _ _ s _ (literal_of m true) (b.outputs.steps k h)).one;
        gates = λ k h. refl;
      }

  no_inputs : b.n1 ≡ []
  no_inputs = b.inputs.numbers ∙ joined-none b.inputs.N i (λ k h. (input_sound s _ _ _ _ _ (literal_of (1 + k) false) (rw zero-add at (b.inputs.steps k h))).none)

  module _ (h : HeadAt 97 s m i l o a r) where
    gates : b.n4 ≡ joined gate a
    gates =
        let w = header m i l o a h.ok in
        sym (whole_pairs b.n4 a (ran s (i + l + 1) m a w.small (omega (arith, w.sum)) (replicate (2 * a) undefined) a _ _ _ b.n4 _ _ (length-replicate (2 * a) undefined) b.gates).long)

    numbers : ks ≡ joined b.latches.N l ++ (joined b.outputs.N o ++ joined gate a)
    numbers = b.numbers ∙ ap₂ ◌++◌ no_inputs (ap₂ ◌++◌ b.latches.numbers (ap₂ ◌++◌ b.outputs.numbers gates))

    five_file : (ns : List ℕ) → ns ≡ m ∷ i ∷ l ∷ o ∷ a ∷ ks → IsFile s ns
    unfolding header_row
    five_file ns n =
        let all : ns ≡ net_of m i l o a b.latches.N b.outputs.N gate = n ∙ ap (λ (x : List ℕ). m ∷ i ∷ l ∷ o ∷ a ∷ x) numbers in
        rw all (is-file s (net_of m i l o a b.latches.N b.outputs.N gate) h.ok r h.at ks b (laid m i l o a b.latches.N b.outputs.N gate pieces))

-- ---- SOUND

pub sound : (s ns : List ℕ) (free q : ℕ) → file_read s ≡ rows ns free q → IsFile s ns
unfolding file_read
sound s ns free q h =
    head_rows _ (head_at 97 s) (body_of s) ns free q h
    (λ m i l o a r ks x y n. five_file s m i l o a r ks (body_read s m i l o a r ks free q y) (head_at_lem 97 s m i l o a r x) ns n)
