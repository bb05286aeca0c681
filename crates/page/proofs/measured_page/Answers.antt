-- `measured_page` meets its contract: the page is measured over no bytes, and written where there is room. Assumes nothing.
use mathlib.Core.Path.{refl}
use Prim.Native.Nat.{◌<◌}
use native.Mathlib.Omega.{arith}
use lib.ListN.{length}
use Rattle.text.specs.Writer.{top}
use Rattle.page.proofs.PageLaws.{short-page, as_was, whole-page}
use Rattle.page.proofs.measured_page.Goals as goal

pub returns-then-put-out : goal.returns-then-put-out
returns-then-put-out g c = λ page first second.
    short-page page c.args.out.now (omega (arith, c.well_formed)) (first _ _ _ refl c.put.ensures) (omega arith)

pub returns : goal.returns
returns g c = λ page first second.
    let small : length c.args.out.now < top = omega (arith, c.well_formed) in
    let dry = first _ _ _ refl c.put.ensures in
    whole-page page c.args.out.now small dry (omega arith) (second _ _ _ (as_was page c.args.out.now small dry) c.put-2.ensures)
