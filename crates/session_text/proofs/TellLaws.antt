-- Equal pages come only from equal graph names and verdict bytes: each is told by its columns. Assumes nothing.
use mathlib.Core.Path.{◌≡◌, sym, ap, subst, ◌∙◌}
use mathlib.Core.List.{List, [], ◌∷◌}
use Prim.Native.Nat.{ℕ, suc, ◌+◌, ◌-◌, ◌/◌, ◌<◌, ◌≤◌}
use native.Mathlib.Omega.{arith}
use native.Mathlib.Decide.{ℕ_discrete}
use lib.ListN.{length, get_or}
use lib.Seq.{ext_get_or}
use Rattle.session_text.specs.Pages.{rejected_of, session_page}
use Rattle.session_text.specs.Claims.{WordByte, Printable, Right, columns, LastLine, Rejected, InColumns, Tells}
use Rattle.session_text.specs.Claims.WordByte.{capital, small, digit, underscore}
use Rattle.session_text.proofs.FieldLaws.{Unblank, left_tells, right_tells}
use Rattle.session_text.proofs.RejectedLaws.{rejected-are}
use Rattle.session_text.proofs.PageLaws.{in_columns}

-- a blank is no letter, digit or `_`
word_unblank : (b : ℕ) → WordByte b → b ≡ 32 → ⊥
word_unblank b (capital l m) e = omega arith
word_unblank b (small l m) e = omega arith
word_unblank b (digit l m) e = omega arith
word_unblank b (underscore i) e = omega arith

unblank : (name : List ℕ) → ((k : ℕ) → k < length name → WordByte (get_or name k 0)) → Unblank name
unfolding Unblank
unblank [] h = tt
unblank (b ∷ name) h = (word_unblank b (h 0 (omega arith)), unblank name (λ k l. h (suc k) (omega arith)))

-- a cycle that is rejected by some bytes is so by any that have the same rejected cycles
rejected-alike : {v w rejected : List ℕ} → Rejected v rejected → Rejected w rejected → (k : ℕ) → get_or v k 0 ≡ 1 → get_or w k 0 ≡ 1
rejected-alike {v} {w} {rejected} r s k e =
    let p = r.every k e in
    let i : get_or rejected (r.place k) 0 - 1 ≡ k = omega (arith, p.1) in
    ap (λ (n : ℕ). get_or w n 0) (sym i) ∙ s.judged (r.place k) p.0

bit-alike : (a b : ℕ) → a ≤ 1 → b ≤ 1 → (a ≡ 1 → b ≡ 1) → (b ≡ 1 → a ≡ 1) → a ≡ b
bit-alike a b l m f g = go (ℕ_discrete a 1) (ℕ_discrete b 1)
  where
    go : Dec (a ≡ 1) → Dec (b ≡ 1) → a ≡ b
    go (yes e) d = e ∙ sym (f e)
    go (no d) (yes e) = g e ∙ sym e
    go (no d) (no c) = omega (arith, d, c)

-- one page by its columns
module _ (name verdicts rejected name' verdicts' rejected' page : List ℕ) (p : Printable name verdicts) (p' : Printable name' verdicts')
    (r : Rejected verdicts rejected) (r' : Rejected verdicts' rejected')
    (c : InColumns name verdicts rejected page) (c' : InColumns name' verdicts' rejected' page) where
  names : name' ≡ name
  names = left_tells (unblank name' p'.named.words) (unblank name p.named.words) c'.graph-name c.graph-name

  cycles : length verdicts' ≡ length verdicts
  cycles = right_tells c'.cycles c.cycles

  lines : (length rejected' + 9) / 10 ≡ (length rejected + 9) / 10
  lines = omega (arith, c.lines, c'.lines)

  count : length rejected' ≡ length rejected
  count = right_tells (subst (λ (n : ℕ). Right 10 (length rejected') (columns page (1 + n) 0 10)) lines c'.last_line.count) c.last_line.count

  same : rejected' ≡ rejected
  same = ext_get_or 0 rejected' rejected count (λ j h. right_tells (c'.cells j h) (c.cells j (omega (arith, count, h))))

  alike : Rejected verdicts' rejected
  alike = subst (Rejected verdicts') same r'

  pub told : (name' ≡ name) × (verdicts' ≡ verdicts)
  told = (
    names,
    ext_get_or 0 verdicts' verdicts cycles
        (λ k h. bit-alike (get_or verdicts' k 0) (get_or verdicts k 0) (p'.bits k h) (p.bits k (omega (arith, cycles, h))) (rejected-alike alike r k) (rejected-alike r alike k)),
  )

pub page_tells : (name verdicts : List ℕ) → length verdicts ≤ 524288 → Printable name verdicts → Tells name verdicts (session_page name verdicts)
page_tells name verdicts few p name' verdicts' rejected' p' r' c' =
    told name verdicts (rejected_of verdicts) name' verdicts' rejected' (session_page name verdicts) p p' (rejected-are verdicts) r' (in_columns name verdicts p.named.most few) c'
