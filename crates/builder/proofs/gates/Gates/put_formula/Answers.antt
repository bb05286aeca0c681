-- `put_formula` meets its contract: the words of a formula that is not refused make its gates. Assumes nothing.
use Rattle.std.proofs.Common.{◌∙◌, sym, arith}
use lib.ListN.{length-take}
use Rattle.builder.specs.Private.Machine.{named}
use Rattle.builder.proofs.FormulaLaws.{formed, worded}
use Rattle.builder.proofs.gates.Gates.put_formula.Goals as goal

pub unwrap-read-requires : goal.unwrap-read-requires
unwrap-read-requires c =
    let f = formed (named c.args.names.now) c.args.field.now c.requires.0 in
    rw (c.read.ensures.value, f.1)

pub shared_ref_as_front-put_words : goal.shared_ref_as_front-put_words
shared_ref_as_front-put_words c =
    let w = worded (named c.args.names.now) c.args.field.now c.args.signals c.requires.0 c.requires.1 (sym c.read.ensures.value ∙ c.unwrap-read.ensures) in
    omega (arith, w.few)

pub put_words-requires : goal.put_words-requires
put_words-requires c =
    let w = worded (named c.args.names.now) c.args.field.now c.args.signals c.requires.0 c.requires.1 (sym c.read.ensures.value ∙ c.unwrap-read.ensures) in
    (c.requires.1, rw length-take (omega (arith, w.few)), w.enough, rw (w.gates c.args.self.now.next.0) c.requires.2)

pub returns-clause-made : goal.returns-clause-made
returns-clause-made c =
    let w = worded (named c.args.names.now) c.args.field.now c.args.signals c.requires.0 c.requires.1 (sym c.read.ensures.value ∙ c.unwrap-read.ensures) in
    let e = c.put_words.ensures.made in
    record { gates = rw (w.gates c.args.self.now.next.0) at e.gates; out = e.top ∙ w.top c.args.self.now.next.0 }
