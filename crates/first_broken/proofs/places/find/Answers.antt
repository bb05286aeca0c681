-- `first_broken::places::find` meets its contract: it goes by what check answers. Assumes nothing.
use mathlib.Core.Path.{sym, ◌∙◌}
use Rattle.first_broken.proofs.RefusalLaws.{ready, few}
use Rattle.first_broken.proofs.PlaceLaws.{found-fine, found-refused, found_first}
use Rattle.first_broken.proofs.places.find.Goals as goal

pub line_of-requires : goal.line_of-requires
line_of-requires c =
    let r = ready _ _ _ (sym c.check-checked.ensures.value ∙ c.in-Ok.is) in
    (r.most, few _ _ r.flywheel, few _ _ r.handle)

pub returns-in-Ok : goal.returns-in-Ok
returns-in-Ok c =
    let e = c.line_of.ensures ∙ found-fine _ _ _ (sym c.check-checked.ensures.value ∙ c.in-Ok.is) in
    record { value = e; first = found_first _ _ _ _ e }

pub returns-in-Err : goal.returns-in-Err
returns-in-Err c =
    let e = c.empty_beginning.ensures ∙ found-refused _ _ _ _ (sym c.check-checked.ensures.value ∙ c.in-Err.is) in
    record { value = e; first = found_first _ _ _ _ e }
