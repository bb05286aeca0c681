-- Records that are taken one after another, as a text. Assumes nothing.
use Prim.Native.Nat.{ℕ, ◌+◌, ◌≤◌}
use mathlib.Core.Path.{◌≡◌, refl, ap, sym, ◌∙◌}
use mathlib.Core.List.{List, [], ◌∷◌, ◌++◌, append_assoc}
use native.Mathlib.Omega.{arith}
use borrow.Author.Tests.{ne_eqb}
use lib.ListN.{length}
use Rattle.assertion.specs.Graph.{Bytes, Graph}
use Rattle.graph.specs.Pieces.{split}
use Rattle.graph.specs.Records.{Record}
use Rattle.graph.specs.Reading.{went, add, accepted, finished, read_lines, nothing, graph_of}
use Rattle.graph.proofs.PieceLaws.{split-some}
use Rattle.graph.proofs.SplitLaws.{split-joined}
use Rattle.graph.proofs.TextLaws.{read_next}
use Rattle.graph.proofs.ModeTextLaws.{short-lines}
use Rattle.graph_print.proofs.Print.{fields_of, line_of, lines_of}
use Rattle.graph_print.proofs.RecordLaws.{Good, record_line}

abbrev pub AllGood : List Record → Type 0
AllGood [] = Unit {0}
AllGood (r ∷ rs) = Good r × AllGood rs

pub good_append : (rs ss : List Record) → AllGood rs → AllGood ss → AllGood (rs ++ ss)
good_append [] ss g h = h
good_append (r ∷ rs) ss g h = (g.0, good_append rs ss g.1 h)

-- a graph, records that it takes one after another, and the graph that they make of it
pub data Takes : Graph → List Record → Graph → Type 0 where
  none : {g : Graph} → Takes g [] g
  more : {g g₂ h : Graph} {r : Record} {rs : List Record} → add g r ≡ went g₂ → Takes g₂ rs h → Takes g (r ∷ rs) h

pub takes-append : {g h k : Graph} {rs ss : List Record} → Takes g rs h → Takes h ss k → Takes g (rs ++ ss) k
takes-append none t = t
takes-append (more e s) t = more e (takes-append s t)

-- ---- lines
pub lines-append : (rs ss : List Record) → lines_of (rs ++ ss) ≡ lines_of rs ++ lines_of ss
unfolding lines_of
lines-append [] ss = refl
lines-append (r ∷ rs) ss =
    ap (λ (s : Bytes). line_of (fields_of r) ++ (10 ∷ s)) (lines-append rs ss) ∙ sym (append_assoc (line_of (fields_of r)) (10 ∷ lines_of rs) (lines_of ss))

takes-read : {g k : Graph} {rs : List Record} → Takes g rs k → AllGood rs → (n : ℕ) → read_lines g n (split 10 (lines_of rs)) ≡ finished k
unfolding read_lines split lines_of
takes-read none h n = refl
takes-read {g} (more {r = r} {rs = rs} e t) h n =
    let l = record_line r h.0 in
    ap (read_lines g n) (split-joined 10 (line_of (fields_of r)) (lines_of rs) ∙ ap (λ (ls : List Bytes). ls ++ split 10 (lines_of rs)) l.one_line)
    ∙ read_next g n (line_of (fields_of r)) (split 10 (lines_of rs)) (split-some 10 (lines_of rs)) (ap (add g) l.read ∙ e)
    ∙ takes-read t h.1 (n + 1)

-- ---- THE LAW OF RECORDS: lines of good records that are taken, with a vertex and within the limit of bytes, are the
-- text of what they make
pub records_read : {g : Graph} (rs : List Record) → AllGood rs → Takes nothing rs g → 1 ≤ length g.vertices → length (lines_of rs) ≤ 32768 → graph_of (lines_of rs) ≡ accepted g
unfolding finished
records_read {g} rs h t v l = rw (short-lines (lines_of rs) l, takes-read t h 1, ne_eqb (length g.vertices) 0 (λ e. omega arith))
