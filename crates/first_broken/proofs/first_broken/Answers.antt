-- `first_broken::first_broken` meets its contract: the part lies in its trace. Assumes nothing.
use native.Mathlib.Omega.{arith}
use Rattle.first_broken.specs.Places.{of_side}
use Rattle.first_broken.proofs.PlaceLaws.{found_within, found-small, cut-here, of_handle, of_flywheel}
use Rattle.first_broken.proofs.first_broken.Goals as goal

pub overflow_add-end : goal.overflow_add-end
overflow_add-end c = omega (arith, found-small _ _ _ c.find-found.result c.find-found.ensures.value)

pub slice_bounds-result-end : goal.slice_bounds-result-end
unfolding of_side
slice_bounds-result-end c =
    let w = rw c.in-Flywheel.is at (found_within _ _ _ c.find-found.result c.find-found.ensures.value) in
    omega (arith, w)

pub returns-in-Flywheel : goal.returns-in-Flywheel
returns-in-Flywheel c =
    let x = c.args in
    let found = c.find-found.result in
    let p = of_flywheel _ _ _ found c.find-found.ensures.value x.flywheel.ref_ptr x.handle.ref_ptr _ _ c.in-Flywheel.is (cut-here x.flywheel.ref_ptr x.flywheel.now found.at found.length) in record { result_value = p.0; first = p.1 }

pub slice_bounds-result-end-in-Handle : goal.slice_bounds-result-end-in-Handle
unfolding of_side
slice_bounds-result-end-in-Handle c =
    let w = rw c.in-Handle.is at (found_within _ _ _ c.find-found.result c.find-found.ensures.value) in
    omega (arith, w)

pub returns-in-Handle : goal.returns-in-Handle
returns-in-Handle c =
    let x = c.args in
    let found = c.find-found.result in
    let p = of_handle _ _ _ found c.find-found.ensures.value x.flywheel.ref_ptr x.handle.ref_ptr _ _ c.in-Handle.is (cut-here x.handle.ref_ptr x.handle.now found.at found.length) in record { result_value = p.0; first = p.1 }
