-- `literal_of` meets its contract: a name looked up has a place among the bits. Assumes nothing.
use Rattle.std.proofs.Common.{arith}
use Rattle.builder.specs.Private.Machine.{name_literal, named}
use Rattle.builder.proofs.FormulaLaws.{found-bounded}
use Rattle.builder.proofs.names.Names.literal_of.Goals as goal

pub bit_literal-requires : goal.bit_literal-requires
bit_literal-requires c =
    omega (arith, c.place_of.ensures, (found-bounded (named c.args.self.now) c.args.field.now c.args.w c.requires.0).0, c.requires.1)

pub returns : goal.returns
unfolding name_literal
returns c = rw (← c.place_of.ensures) c.bit_literal.ensures
