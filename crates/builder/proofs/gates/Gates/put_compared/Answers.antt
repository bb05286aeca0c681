-- `put_compared` meets its contract: the two names looked up. Assumes nothing.
use Rattle.std.proofs.Common.{◌-◌, ◌/◌, ◌%◌}
use Rattle.builder.specs.Private.Machine.{named, compared_by}
use Rattle.builder.proofs.FormulaLaws.{found-bounded}
use Rattle.builder.proofs.gates.Gates.put_compared.Goals as goal

pub put_alike-requires : goal.put_alike-requires
unfolding compared_by
put_alike-requires c =
    let b = found-bounded (named c.args.names.now) c.args.field.now ((c.args.w - 16777216) / 4096) c.requires.0 in
    let d = found-bounded (named c.args.names.now) c.args.field.now (c.args.w % 4096) c.requires.0 in
    rw (c.place_of.ensures, c.place_of-2.ensures, c.width_of.ensures) (b.0, d.0, b.1, c.requires.2)

pub returns-clause-made : goal.returns-clause-made
unfolding compared_by
returns-clause-made c = rw (c.place_of.ensures, c.place_of-2.ensures, c.width_of.ensures) at c.put_alike.ensures.made
