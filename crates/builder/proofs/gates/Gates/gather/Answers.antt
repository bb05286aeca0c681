-- `gather` meets its contract: the masks, and then the chains of the vertices. Assumes nothing.
use Rattle.std.proofs.Common.{◌≡◌, ◌+◌, ◌*◌, ◌∙◌, refl, ap, sym, length, rules, arith}
use lib.ListN.{length-take}
use Rattle.builder.specs.Private.Terms.{Gathers}
use Rattle.builder.proofs.AddingLaws.{room-first, room-second, whole_of}
use Rattle.builder.proofs.TermLaws as laws
use Rattle.builder.proofs.BuildLaws as builds
use Rattle.builder.proofs.gates.Gates.gather.Goals as goal

pub fill-requires : goal.fill-requires
fill-requires c =
    let a = c.args in
    let edges = length a.to.now in
    let t = builds.gather_parts a.to.now (length a.reached.now) edges a.l.0 a.self.now.next.0 _ refl in
    rw length-take (omega (arith, (room-first t c.requires.0).few, builds.mask_length (2 * edges) a.l.0))

pub fill-requires-2 : goal.fill-requires-2
fill-requires-2 c =
    let a = c.args in
    let edges = length a.to.now in
    let t = builds.gather_parts a.to.now (length a.reached.now) edges a.l.0 a.self.now.next.0 _ refl in
    rw length-take (omega (arith, (room-first t c.requires.0).few, builds.mask_length (2 * edges) a.l.0, c.after.ensures))

pub put_masks-requires : goal.put_masks-requires
put_masks-requires c =
    let a = c.args in
    let t = builds.gather_parts a.to.now (length a.reached.now) (length a.to.now) a.l.0 a.self.now.next.0 _ refl in
    (room-first t c.requires.0, c.requires.1)

pub put_vertices-requires : goal.put_vertices-requires
put_vertices-requires c =
    let a = c.args in
    let n = a.self.now.next.0 in
    let m = c.put_masks.ensures.made in
    let t = builds.gather_parts a.to.now (length a.reached.now) (length a.to.now) a.l.0 n _ m.count in
    let hl : length c.fill.new.lits ≡ length a.to.now = search rules in
    let dl : length c.fill-2.new.lits ≡ length a.to.now = search rules in
    let h = laws.filled n (length a.to.now) _ c.fill.ensures hl in
    let d = laws.filled (n + 1) (length a.to.now) _ (rw c.after.ensures at c.fill-2.ensures) dl in
    (rw (h, d) (room-second t c.requires.0 m), hl, dl, c.requires.3)

pub returns-clause-made : goal.returns-clause-made
returns-clause-made c =
    let a = c.args in
    let n = a.self.now.next.0 in
    let m = c.put_masks.ensures.made in
    let t = builds.gather_parts a.to.now (length a.reached.now) (length a.to.now) a.l.0 n _ m.count in
    let hl : length c.fill.new.lits ≡ length a.to.now = search rules in
    let dl : length c.fill-2.new.lits ≡ length a.to.now = search rules in
    let h = laws.filled n (length a.to.now) _ c.fill.ensures hl in
    let d = laws.filled (n + 1) (length a.to.now) _ (rw c.after.ensures at c.fill-2.ensures) dl in
    whole_of t m (rw (h, d) at c.put_vertices.ensures.made)

pub returns-clause-happies : goal.returns-clause-happies
returns-clause-happies c =
    let a = c.args in
    let n = a.self.now.next.0 in
    let g = builds.gather_is a.to.now (length a.reached.now) (length a.to.now) a.l.0 n _ c.put_masks.ensures.made.count in
    let hl : length c.fill.new.lits ≡ length a.to.now = search rules in
    let dl : length c.fill-2.new.lits ≡ length a.to.now = search rules in
    let h = laws.filled n (length a.to.now) _ c.fill.ensures hl in
    let d = laws.filled (n + 1) (length a.to.now) _ (rw c.after.ensures at c.fill-2.ensures) dl in
    (rw (h, d) at c.put_vertices.ensures.happies) ∙ sym (ap (λ (z : Gathers). z.happy) g)

pub returns-clause-condemneds : goal.returns-clause-condemneds
returns-clause-condemneds c =
    let a = c.args in
    let n = a.self.now.next.0 in
    let g = builds.gather_is a.to.now (length a.reached.now) (length a.to.now) a.l.0 n _ c.put_masks.ensures.made.count in
    let hl : length c.fill.new.lits ≡ length a.to.now = search rules in
    let dl : length c.fill-2.new.lits ≡ length a.to.now = search rules in
    let h = laws.filled n (length a.to.now) _ c.fill.ensures hl in
    let d = laws.filled (n + 1) (length a.to.now) _ (rw c.after.ensures at c.fill-2.ensures) dl in
    (rw (h, d) at c.put_vertices.ensures.condemneds) ∙ sym (ap (λ (z : Gathers). z.condemned) g)
