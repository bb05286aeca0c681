-- `put_numbers` meets its contract: the gates into the back part of the buffer, and then what stands in front. Assumes nothing.
use Rattle.std.proofs.Common.{◌≡◌, ℕ, ◌+◌, ◌*◌, ◌∙◌, ap, length, rules, arith}
use Rattle.builder.specs.Private.Monitor.{gates_in}
use Rattle.builder.proofs.LayoutLaws as layout
use Rattle.builder.proofs.layout.put_numbers.Goals as goal

pub slice_bounds-store_gates-count : goal.slice_bounds-store_gates-count
slice_bounds-store_gates-count c =
    omega (arith, layout.numbers-length c.args.checked c.args.text.now c.args.g c.requires.0, c.requires.1, c.output_count.ensures.0)

pub slice_bounds-store_gates-start : goal.slice_bounds-store_gates-start
slice_bounds-store_gates-start c =
    omega (arith, layout.numbers-length c.args.checked c.args.text.now c.args.g c.requires.0, c.requires.1, c.output_count.ensures.0)

pub store_gates-stored-requires : goal.store_gates-stored-requires
unfolding gates_in
store_gates-stored-requires c =
    let a = c.args in
    let p = c.requires in
    let e = c.after-latch.ensures ∙ ap (λ (v : ℕ). v + a.g.constants) c.after-constant.ensures in
    let f = c.after-first.ensures ∙ ap (λ (v : ℕ). v + 2 * a.g.edges) e in
    (p.0, search rules, search rules, omega (arith, e, p.2), rw (f, e) (omega (arith, p.2)))

pub put_front-requires : goal.put_front-requires
put_front-requires c =
    let a = c.args in
    let p = c.requires in
    let e = c.after-latch.ensures ∙ ap (λ (v : ℕ). v + a.g.constants) c.after-constant.ensures in
    let f = c.after-first.ensures ∙ ap (λ (v : ℕ). v + 2 * a.g.edges) e in
    let m = rw (f, e, c.output_count.ensures.0) at c.store_gates-stored.ensures in
    let n : length c.store_gates-stored.new.happy ≡ a.g.edges = search rules in
    rw (c.output_count.ensures.0, n, layout.asked a.checked a.text.now a.g p.0 a.net.now p.1 m) (layout.still a.checked a.text.now a.g p.0 a.net.now p.1 m, omega (arith, layout.many a.checked a.text.now a.g p.0 a.net.now p.1 m, p.2), search rules)

pub returns : goal.returns
returns c =
    let a = c.args in
    let p = c.requires in
    let e = c.after-latch.ensures ∙ ap (λ (v : ℕ). v + a.g.constants) c.after-constant.ensures in
    let f = c.after-first.ensures ∙ ap (λ (v : ℕ). v + 2 * a.g.edges) e in
    let m = rw (f, e, c.output_count.ensures.0) at c.store_gates-stored.ensures in
    let n : length c.store_gates-stored.new.happy ≡ a.g.edges = search rules in
    let r = rw (c.output_count.ensures.0, n) at c.put_front.ensures in
    (r ∙ layout.all_stored a.checked a.text.now a.g p.0 a.net.now p.1 m, layout.many a.checked a.text.now a.g p.0 a.net.now p.1 m)
