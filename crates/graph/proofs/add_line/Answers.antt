-- `graph::add_line` meets its contract: the record of the line, by its shape. Assumes nothing.
use mathlib.Core.Path.{ap, subst, ◌∙◌}
use Rattle.std.specs.Prelude.{◌≡◌, Option, Some, Result, Ok, ok_or}
use Rattle.std.proofs.lemmas.Result.{err_from_is_err_and}
use Rattle.graph.specs.declared.Fault.{Fault}
use Rattle.graph.specs.declared.Fault.TheVariants.{WrongShape}
use Rattle.graph.specs.declared.Shape.{Shape}
use Rattle.graph.proofs.OptionLaws.{refused_none, taken_some}
use native.Mathlib.Omega.{arith}
use Rattle.graph.specs.Private.Steps.{Placed, added_of}
use Rattle.graph.proofs.LineLaws.{part_length, name-at, name-long, line-wrong, line-mode, line_signal, line-constant, line-vertex, line-edge, edge_at}
use Rattle.graph.proofs.add_line.Goals as goal

-- the shape that is matched is that of the line
shape_is : (o : Option Shape) {r : Result Shape Fault} {x y : Shape} → r ≡ ok_or o WrongShape → r ≡ Ok x → x ≡ y → o ≡ Some y
shape_is o h k q = taken_some o WrongShape h k ∙ ap Some q

pub overflow_add-at : goal.overflow_add-at
overflow_add-at c =
    let i = subst (Placed _) (shape_is c.shape_of.result c.ok_or.ensures.value c.in_ok-shape.was c.in-Signal.is) c.shape_of.ensures.1 in
    omega (arith, i.0.0.0, part_length c.args.text.now c.args.at c.args.end c.requires.2 c.requires.3)

pub add_signal-requires : goal.add_signal-requires
add_signal-requires c =
    let i = subst (Placed _) (shape_is c.shape_of.result c.ok_or.ensures.value c.in_ok-shape.was c.in-Signal.is) c.shape_of.ensures.1 in
    (c.requires.0, i.1, omega (arith, i.0.0.0, part_length c.args.text.now c.args.at c.args.end c.requires.2 c.requires.3, c.requires.4), i.2)

pub overflow_add-at-in-Constant : goal.overflow_add-at-in-Constant
overflow_add-at-in-Constant c =
    let i = subst (Placed _) (shape_is c.shape_of.result c.ok_or.ensures.value c.in_ok-shape.was c.in-Constant.is) c.shape_of.ensures.1 in
    omega (arith, i.0.0.0, part_length c.args.text.now c.args.at c.args.end c.requires.2 c.requires.3)

pub add_constant-requires : goal.add_constant-requires
add_constant-requires c =
    let i = subst (Placed _) (shape_is c.shape_of.result c.ok_or.ensures.value c.in_ok-shape.was c.in-Constant.is) c.shape_of.ensures.1 in
    (c.requires.0, i.1, omega (arith, i.0.0.0, part_length c.args.text.now c.args.at c.args.end c.requires.2 c.requires.3, c.requires.4), i.2)

pub overflow_add-at-in-Vertex : goal.overflow_add-at-in-Vertex
overflow_add-at-in-Vertex c =
    let i = subst (Placed _) (shape_is c.shape_of.result c.ok_or.ensures.value c.in_ok-shape.was c.in-Vertex.is) c.shape_of.ensures.1 in
    omega (arith, i.0, part_length c.args.text.now c.args.at c.args.end c.requires.2 c.requires.3)

pub add_edge-requires : goal.add_edge-requires
add_edge-requires c =
    let i = subst (Placed _) (shape_is c.shape_of.result c.ok_or.ensures.value c.in_ok-shape.was c.in-Edge.is) c.shape_of.ensures.1 in
    (c.requires.0, omega (arith, part_length c.args.text.now c.args.at c.args.end c.requires.2 c.requires.3), i.0.0, i.1.0)

pub returns-in_err-shape : goal.returns-in_err-shape
returns-in_err-shape c =
    let a = c.args in
    let x = c.shape_of in
    let p = err_from_is_err_and c.from_residual.result c.from_residual.ensures.1 in
    let n = refused_none x.result c.ok_or.ensures.value c.in_err-shape.was in
    λ graph h ha. rw (p.1, p.2, n.1) (line-wrong a.text.now graph _ a.at a.end ha c.requires.1 x.result x.ensures a.g.now n.0)

pub returns-in-Moded : goal.returns-in-Moded
returns-in-Moded c =
    let a = c.args in
    let x = c.shape_of in
    λ graph h ha.
    c.add_mode.ensures a.text.now graph h
    ∙ ap (added_of a.text.now a.g.now) (line-mode a.text.now graph _ a.at a.end ha c.requires.1 x.result x.ensures _ (shape_is c.shape_of.result c.ok_or.ensures.value c.in_ok-shape.was c.in-Moded.is))

pub returns-in-Signal : goal.returns-in-Signal
returns-in-Signal c =
    let a = c.args in
    let x = c.shape_of in
    let e = shape_is c.shape_of.result c.ok_or.ensures.value c.in_ok-shape.was c.in-Signal.is in
    let i = subst (Placed _) e x.ensures.1 in
    λ graph h ha.
    c.add_signal.ensures graph h (name-at a.text.now graph _ a.at a.end ha c.requires.1 x.result x.ensures _ i.0.0) (name-long a.text.now graph _ a.at a.end ha c.requires.1 x.result x.ensures _ _ i.0)
    ∙ ap (added_of a.text.now a.g.now) (line_signal a.text.now graph _ a.at a.end ha c.requires.1 x.result x.ensures _ _ _ e)

pub returns-in-Constant : goal.returns-in-Constant
returns-in-Constant c =
    let a = c.args in
    let x = c.shape_of in
    let e = shape_is c.shape_of.result c.ok_or.ensures.value c.in_ok-shape.was c.in-Constant.is in
    let i = subst (Placed _) e x.ensures.1 in
    λ graph h ha.
    c.add_constant.ensures graph h (name-at a.text.now graph _ a.at a.end ha c.requires.1 x.result x.ensures _ i.0.0) (name-long a.text.now graph _ a.at a.end ha c.requires.1 x.result x.ensures _ _ i.0)
    ∙ ap (added_of a.text.now a.g.now) (line-constant a.text.now graph _ a.at a.end ha c.requires.1 x.result x.ensures _ _ _ e)

pub returns-in-Vertex : goal.returns-in-Vertex
returns-in-Vertex c =
    let a = c.args in
    let x = c.shape_of in
    let e = shape_is c.shape_of.result c.ok_or.ensures.value c.in_ok-shape.was c.in-Vertex.is in
    λ graph h ha.
    c.add_vertex.ensures graph h (name-at a.text.now graph _ a.at a.end ha c.requires.1 x.result x.ensures _ (subst (Placed _) e x.ensures.1))
    ∙ ap (added_of a.text.now a.g.now) (line-vertex a.text.now graph _ a.at a.end ha c.requires.1 x.result x.ensures _ e)

pub returns-in-Edge : goal.returns-in-Edge
returns-in-Edge c =
    let a = c.args in
    let x = c.shape_of in
    let e = shape_is c.shape_of.result c.ok_or.ensures.value c.in_ok-shape.was c.in-Edge.is in
    λ graph h ha.
    c.add_edge.ensures graph h (edge_at a.text.now graph _ a.at a.end ha c.requires.1 x.result x.ensures _ _ _ _ _ e)
    ∙ ap (added_of a.text.now a.g.now) (line-edge a.text.now graph _ a.at a.end ha c.requires.1 x.result x.ensures _ _ _ _ _ e)
