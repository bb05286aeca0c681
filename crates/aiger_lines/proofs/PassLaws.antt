-- A pass over lines, one by one and block by block: what is stored and where it stands. Assumes nothing.
use Rattle.std.specs.Prelude.{Result, Ok, Err}
use Rattle.std.specs.Result.{MatchResult}
use mathlib.Core.Path.{◌≡◌, refl, sym, ap, ◌∙◌}
use mathlib.Core.List.{List, [], ◌∷◌, ◌++◌}
use Prim.Native.Nat.{ℕ, suc, ◌+◌, ◌-◌, ◌≤◌, ◌<◌}
use native.Mathlib.Nat.{add_assoc, add-zero}
use native.Mathlib.Omega.{arith}
use borrow.Author.Tests.{eq-eqb, ne_eqb}
use lib.ListN.{length, length-append}
use lib.Seq.{sets, length-sets}
use Rattle.text.proofs.WriterLaws.{sets-append}
use Rattle.aiger_lines.specs.declared.Fault.{Fault}
use Rattle.aiger_lines.specs.declared.Fault.TheVariants.{WrongShape}
use Rattle.aiger_lines.specs.declared.Given.{Given}
use Rattle.aiger_lines.specs.declared.Head.{Head}
use Rattle.aiger_lines.specs.declared.Cursor.{Cursor}
use Rattle.aiger_lines.specs.Lines.{Row, row, fault}
use Rattle.aiger_lines.specs.Blocks.{Rows, rows, failed, behind, and_then, on_row, rows_of, end_of}
use Rattle.aiger_lines.specs.Heads.{Heading, heading, misheaded, on_head}
use Rattle.aiger_lines.specs.Private.Steps.{numbers_in, row_in, head_in, line_rows, Took, Within}

-- numbers were stored, and then those of x
pub took-behind : (x : Rows) (ns net after : List ℕ) (place : ℕ) (r : Result Cursor (Fault × ℕ)) → Took x (sets net place ns) after (place + length ns) r → Took (behind ns x) net after place r
unfolding Took behind
took-behind (rows ms free q) ns net after place r t =
    let n : place + length ns + length ms ≡ place + length (ns ++ ms) = rw length-append (add_assoc place (length ns) (length ms)) in
    (t.0 ∙ ap (λ (p : ℕ). Ok (record { free = free; at = q; place = p })) n, t.1 ∙ sets-append ns ms net place)
took-behind (failed e line) ns net after place r t = (t.0, t.1 ∙ length-sets net place ns)

-- the place in the netlist after a pass
abbrev pub place_of : Result Cursor (Fault × ℕ) → ℕ
place_of (Ok c) = c.place
place_of (Err (e, n)) = 0

good-bad : {T F : Type 0} {g : T} {f : F} → ◌≡◌ {A = Result T F} (Ok g) (Err f) → ⊥
good-bad h = let z : ◌≡◌ {A = ℕ} 0 1 = cc in omega arith

-- no cursor is a fault
pub past-failed : {c : Cursor} {f : Fault × ℕ} → ◌≡◌ {A = Result Cursor (Fault × ℕ)} (Ok c) (Err f) → ⊥
past-failed h = let z : ◌≡◌ {A = ℕ} 0 1 = cc in omega arith

pub took_then : (x : Rows) (next : ℕ → ℕ → Rows) (net mid after : List ℕ) (place : ℕ) (first : Result Cursor (Fault × ℕ)) (c : Cursor) (r : Result Cursor (Fault × ℕ))
    → Took x net mid place first → first ≡ Ok c → Took (next c.free c.at) mid after c.place r → Took (and_then x next) net after place r
unfolding Took and_then
took_then (rows ns free q) next net mid after place first c r t h u =
    let e : Ok c ≡ Ok (record { free = free; at = q; place = place + length ns }) = sym h ∙ t.0 in
    let f : c.free ≡ free = ap free_of e in
    let a : c.at ≡ q = ap at_of e in
    let p : c.place ≡ place + length ns = ap place_of e in
    took-behind (next free q) ns net after place r (rw (f, a, p, t.1) at u)
  where
    free_of : Result Cursor (Fault × ℕ) → ℕ
    free_of (Ok d) = d.free
    free_of (Err (e, n)) = 0

    at_of : Result Cursor (Fault × ℕ) → ℕ
    at_of (Ok d) = d.at
    at_of (Err (e, n)) = 0
took_then (failed e line) next net mid after place first c r t h u = absurd (past-failed (sym h ∙ t.0))

pub took-failed : (x : Rows) (next : ℕ → ℕ → Rows) (net mid : List ℕ) (place : ℕ) (first : Result Cursor (Fault × ℕ)) (f : Fault × ℕ)
    → Took x net mid place first → first ≡ Err f → Took (and_then x next) net mid place (Err f)
unfolding Took and_then
took-failed (rows ns free q) next net mid place first f t h = absurd (past-failed (sym t.0 ∙ h))
took-failed (failed e' line) next net mid place first f t h = (sym h ∙ t.0, t.1)

-- ---- the header, and the lines after it

module _ (r : Result Head Fault) (x : Heading) (is : head_in r ≡ x) (body : ℕ → ℕ → ℕ → ℕ → ℕ → ℕ → Rows) (net : List ℕ) where
  pub took-head : (h : Head) (mid after : List ℕ) (end : Result Cursor (Fault × ℕ)) → r ≡ Ok h → mid ≡ sets net 0 (h.variables ∷ h.inputs ∷ h.latches ∷ h.outputs ∷ h.gates ∷ [])
      → Took (body h.variables h.inputs h.latches h.outputs h.gates h.next) mid after 5 end → Took (on_head x body) net after 0 end
  unfolding head_in on_head
  took-head h mid after end e m t =
      let y : x ≡ heading h.variables h.inputs h.latches h.outputs h.gates h.next = sym is ∙ ap head_in e in
      rw y (took-behind (body h.variables h.inputs h.latches h.outputs h.gates h.next) (h.variables ∷ h.inputs ∷ h.latches ∷ h.outputs ∷ h.gates ∷ []) net after 0 end (rw m at t))

  pub took-misheaded : (place : ℕ) (end : Result Cursor (Fault × ℕ)) (f : Fault × ℕ) → end ≡ Err f → (e : Fault) × (r ≡ Err e) × (f ≡ (e, 1)) → Took (on_head x body) net net place end
  unfolding head_in on_head Took
  took-misheaded place end f h w =
      let y : x ≡ misheaded w.0 = sym is ∙ ap head_in w.1 in
      rw y (rw w.2 at h, refl)

-- ---- the end of the text

pub took_end : (s : List ℕ) (line : ℕ) (net : List ℕ) (c : Cursor) → c.at ≡ length s → Took (end_of s line c.free c.at) net net c.place (Ok c)
unfolding end_of Took
took_end s line net c h = rw (eq-eqb c.at (length s) h, add-zero) (refl, refl)

pub took-extra : (s : List ℕ) (line free p : ℕ) (net : List ℕ) (place n : ℕ) → (p ≡ length s → ⊥) → n ≡ line → Took (end_of s line free p) net net place (Err (WrongShape, n))
unfolding end_of Took
took-extra s line free p net place n h e = rw (ne_eqb p (length s) h) (ap (λ (k : ℕ). Err (WrongShape, k)) e, refl)

-- ---- a line

pub row_good : (x : Row) (r : Result Given Fault) (g : Given) → row_in r ≡ x → r ≡ Ok g → x ≡ row (numbers_in g.literals) g.free g.next
unfolding row_in
row_good x r g e h = sym e ∙ ap row_in h

pub row_bad : (x : Row) (r : Result Given Fault) (e : Fault) → row_in r ≡ x → r ≡ Err e → x ≡ fault e
unfolding row_in
row_bad x r e i h = sym i ∙ ap row_in h

-- an answer whose error was mapped
module _ {T E F : Type 0} (r : Result T E) {told : Result T F} (f : E → F) {P : T → Type 0} {Q : E → Type 0} (cases : MatchResult r P Q)
    (good : (g : T) → P g → told ≡ Ok g) (bad : (e : E) → Q e → told ≡ Err (f e)) where
  pub told_good : (g : T) → told ≡ Ok g → r ≡ Ok g
  told_good g h = go r cases
    where
      go : (x : Result T E) → MatchResult x P Q → x ≡ Ok g
      go (Ok m) p = let e : Ok m ≡ Ok g = sym (good m p) ∙ h in cc
      go (Err e) q = absurd (good-bad (sym h ∙ bad e q))

  pub told_bad : (b : F) → told ≡ Err b → (e : E) × (r ≡ Err e) × (b ≡ f e)
  told_bad b h = go r refl cases
    where
      go : (x : Result T E) → r ≡ x → MatchResult x P Q → (e : E) × (r ≡ Err e) × (b ≡ f e)
      go (Ok m) i p = absurd (good-bad (sym (good m p) ∙ h))
      go (Err e) i q = let w : Err (f e) ≡ Err b = sym (bad e q) ∙ h in (e, i, cc)

-- a line by itself
pub line_failed : (x : Row) (r : Result Given Fault) (line : ℕ) (net : List ℕ) (place : ℕ) (end : Result Cursor (Fault × ℕ)) (f : Fault × ℕ)
    → row_in r ≡ x → end ≡ Err f → (e : Fault) × (r ≡ Err e) × (f ≡ (e, line)) → Took (line_rows x line) net net place end
unfolding line_rows Took
line_failed x r line net place end f is h w = rw (row_bad x r w.0 is w.1) (rw w.2 at h, refl)

-- the bound on a place
pub within-past : {n : ℕ} {r : Result Cursor (Fault × ℕ)} {c : Cursor} → Within n r → r ≡ Ok c → c.place ≤ n
unfolding Within
within-past w e = rw e at w

-- ---- the loop over the lines of a block

-- after k lines: what is taken of the rest is taken of the whole
pub record Going (at : ℕ → ℕ → ℕ → Row) (count line f₀ p₀ : ℕ) (net₀ : List ℕ) (place₀ : ℕ) (net : List ℕ) (k : ℕ) (c : Cursor) : Type 0 where
  pub rest : (after : List ℕ) (r : Result Cursor (Fault × ℕ)) → Took (rows_of at (count - k) k (line + k) c.free c.at) net after c.place r → Took (rows_of at count 0 line f₀ p₀) net₀ after place₀ r

module _ (at : ℕ → ℕ → ℕ → Row) (count line : ℕ) (from : Cursor) (net₀ : List ℕ) where
  pub going_start : Going at count line from.free from.at net₀ from.place net₀ 0 from
  going_start =
      let a : count - 0 ≡ count = omega arith in
      let b : line + 0 ≡ line = omega arith in
      record { rest = λ after r t. rw (a, b) at t }

module _ (at : ℕ → ℕ → ℕ → Row) (count line f₀ p₀ : ℕ) (net₀ : List ℕ) (place₀ : ℕ) {net : List ℕ} {k : ℕ} {c : Cursor} (g : Going at count line f₀ p₀ net₀ place₀ net k c) where
  step : k < count → (x : Row) → at k c.free c.at ≡ x → rows_of at (count - k) k (line + k) c.free c.at ≡ on_row x (λ ns f q. behind ns (rows_of at (count - (k + 1)) (k + 1) (line + (k + 1)) f q)) (λ e. failed e (line + k))
  unfolding rows_of
  step more x e =
      let n : count - k ≡ suc (count - (k + 1)) = omega arith in
      let l : line + k + 1 ≡ line + (k + 1) = omega arith in
      rw (n, rows_of, e, l)

  module _ (more : k < count) (net' : List ℕ) (r : Result Cursor (Fault × ℕ)) (t : Took (line_rows (at k c.free c.at) (line + k)) net net' c.place r) where
    pub going_next : (d : Cursor) → r ≡ Ok d → Going at count line f₀ p₀ net₀ place₀ net' (k + 1) d
    unfolding line_rows on_row Took
    going_next d e = go (at k c.free c.at) refl t
      where
        go : (x : Row) → at k c.free c.at ≡ x → Took (line_rows x (line + k)) net net' c.place r → Going at count line f₀ p₀ net₀ place₀ net' (k + 1) d
        go (row ns free q) i u =
            let same : Ok (record { free = free; at = q; place = c.place + length ns }) ≡ Ok d = sym u.0 ∙ e in
            let is : record { free = free; at = q; place = c.place + length ns } ≡ d = cc in
            rw (← is) record { rest = λ after s v. g.rest after s (rw (step more (row ns free q) i) (took-behind (rows_of at (count - (k + 1)) (k + 1) (line + (k + 1)) free q) ns net after c.place s (rw u.1 at v))) }
        go (fault f) i u = absurd (past-failed (sym e ∙ u.0))

    pub going_fault : (f : Fault × ℕ) → r ≡ Err f → Took (rows_of at count 0 line f₀ p₀) net₀ net' place₀ (Err f)
    unfolding line_rows on_row Took
    going_fault f e = go (at k c.free c.at) refl t
      where
        go : (x : Row) → at k c.free c.at ≡ x → Took (line_rows x (line + k)) net net' c.place r → Took (rows_of at count 0 line f₀ p₀) net₀ net' place₀ (Err f)
        go (row ns free q) i u = absurd (past-failed (sym u.0 ∙ e))
        go (fault d) i u = g.rest net' (Err f) (rw (step more (fault d) i) (sym e ∙ u.0, u.1))

  pub going_done : count ≤ k → Took (rows_of at count 0 line f₀ p₀) net₀ net place₀ (Ok c)
  unfolding rows_of Took
  going_done h =
      let n : count - k ≡ 0 = omega arith in
      let d : rows_of at (count - k) k (line + k) c.free c.at ≡ rows [] c.free c.at = rw (n, rows_of) in
      g.rest net (Ok c) (rw (d, add-zero) (refl, refl))
