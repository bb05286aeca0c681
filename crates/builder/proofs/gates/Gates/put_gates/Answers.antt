-- `put_gates` meets its contract: masks and vertices, and then the edges and the outputs. Assumes nothing.
use Rattle.std.proofs.Common.{◌≡◌, ◌∙◌, refl, ap, length, arith}
use Rattle.builder.specs.Private.Edges.{edges_in, targets, marks}
use Rattle.builder.proofs.AddingLaws.{room-second, room-first}
use Rattle.builder.proofs.TermLaws as laws
use Rattle.builder.proofs.BuildLaws as builds
use Rattle.builder.proofs.EdgeLaws as edge
use Rattle.builder.proofs.gates.Gates.put_gates.Goals as goal

pub gather-requires : goal.gather-requires
gather-requires c =
    let a = c.args in
    let p = c.requires in
    let es = edges_in a.text.now a.g in
    let to : c.fill_columns.new.to ≡ targets es = c.fill_columns.ensures.0 ∙ edge.targets_in a.text.now a.g in
    let many : length c.fill_columns.new.to ≡ length es = ap length to ∙ edge.targets_length es in
    let n : length es ≡ a.g.edges = edge.edges-count a.text.now a.g (omega (arith, p.0.arcs, p.0.edges)) in
    let t = builds.monitor_parts a.checked a.g.signals a.g.vertices es a.l.0 a.self.now.next.0 _ to many refl in
    rw (laws.front 64 a.g.vertices 0 (omega (arith, p.0.vertices))) (room-first t p.4, omega (arith, many, n, p.3), omega (arith, many, n, p.0.edges), refl)

pub judge-requires : goal.judge-requires
judge-requires c =
    let a = c.args in
    let p = c.requires in
    let es = edges_in a.text.now a.g in
    let to : c.fill_columns.new.to ≡ targets es = c.fill_columns.ensures.0 ∙ edge.targets_in a.text.now a.g in
    let mark : c.fill_columns.new.marks ≡ marks es = c.fill_columns.ensures.1 ∙ edge.marks_in a.text.now a.g in
    let many : length c.fill_columns.new.to ≡ length es = ap length to ∙ edge.targets_length es in
    let n : length es ≡ a.g.edges = edge.edges-count a.text.now a.g (omega (arith, p.0.arcs, p.0.edges)) in
    let v = laws.front 64 a.g.vertices 0 (omega (arith, p.0.vertices)) in
    let m = rw v at c.gather.ensures in
    let t = builds.monitor_parts a.checked a.g.signals a.g.vertices es a.l.0 a.self.now.next.0 _ to many m.made.count in
    (p.0, c.gather.auto.reached ∙ v, c.gather.auto.doomed ∙ v, p.1, p.2, ap length mark ∙ edge.marks_length es ∙ n, rw (m.happies, m.condemneds, mark) (room-second t p.4 m.made))

pub returns-clause-made : goal.returns-clause-made
returns-clause-made c =
    let a = c.args in
    let p = c.requires in
    let es = edges_in a.text.now a.g in
    let to : c.fill_columns.new.to ≡ targets es = c.fill_columns.ensures.0 ∙ edge.targets_in a.text.now a.g in
    let mark : c.fill_columns.new.marks ≡ marks es = c.fill_columns.ensures.1 ∙ edge.marks_in a.text.now a.g in
    let many : length c.fill_columns.new.to ≡ length es = ap length to ∙ edge.targets_length es in
    let m = rw (laws.front 64 a.g.vertices 0 (omega (arith, p.0.vertices))) at c.gather.ensures in
    builds.monitor_made a.checked a.g.signals a.g.vertices es a.l.0 to many m.made (rw (m.happies, m.condemneds, mark) at c.judge.ensures.made)
