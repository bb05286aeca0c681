-- The line of an output is read just where its text stands and its number fits, and what a latch says. Assumes nothing.
use mathlib.Core.Path.{◌≡◌, refl, sym, ap, subst}
use mathlib.Core.Bool.{Bool, true, false, cond, ◌&&◌, ◌||◌}
use mathlib.Core.List.{List, [], ◌∷◌}
use Prim.Native.Nat.{ℕ, suc, ◌+◌, ◌≤◌, ◌<◌}
use native.Mathlib.Omega.{arith}
use borrow.Author.Tests.{leb-true, le-leb, lt-leb}
use lib.Dec.{eqb, leb, ltb}
use lib.ListN.{length, get_or}
use Rattle.netlist.proofs.EachLaws.{both}
use Rattle.aiger.specs.Rows.{line, literal_row}
use Rattle.aiger_lines.specs.declared.Fault.{Fault}
use Rattle.aiger_lines.specs.declared.Fault.TheVariants.{WrongShape, OutOfLimits}
use Rattle.aiger_lines.specs.Fields.{Fields, wrong, fields, fields_of, either_of}
use Rattle.aiger_lines.specs.Lines.{Row, row, fault, judged, latch_says, output_at}
use Rattle.aiger_lines.proofs.LineLaws.{fields-length, or-more}
use Rattle.aiger_lines.proofs.PlaceLaws.{At}
use Rattle.aiger_lines.proofs.FieldLaws.{line_of, Small, fields_stand, stand_fields}

-- ---- a line that was read without fault

pub fault-row : {e : Fault} {ns : List ℕ} {f q : ℕ} → fault e ≡ row ns f q → ⊥
fault-row h = let z : ◌≡◌ {A = ℕ} 0 1 = cc in omega arith

pub judged-row : (R : Type 0) (x : Fields) (g : List ℕ → ℕ → Row) (ns : List ℕ) (f q : ℕ) → judged x g ≡ row ns f q → ((vs : List ℕ) (r : ℕ) → x ≡ fields vs r → g vs r ≡ row ns f q → R) → R
unfolding judged
judged-row R wrong g ns f q h k = absurd (fault-row h)
judged-row R (fields vs r) g ns f q h k = k vs r refl h

pub cond-row : (t : Bool) (e : Fault) (ms : List ℕ) (g r : ℕ) (ns : List ℕ) (f q : ℕ) → cond t (row ms g r) (fault e) ≡ row ns f q → (t ≡ true) × (ms ≡ ns) × (g ≡ f) × (r ≡ q)
cond-row true e ms g r ns f q h = (refl, cc, cc, cc)
cond-row false e ms g r ns f q h = absurd (fault-row h)

-- ---- the numbers one by one

pub one : (vs : List ℕ) → length vs ≡ 1 → vs ≡ get_or vs 0 0 ∷ []
one [] h = absurd (omega arith)
one (a ∷ []) h = refl
one (a ∷ b ∷ vs) h = absurd (omega arith)

pub two : (vs : List ℕ) → length vs ≡ 2 → vs ≡ get_or vs 0 0 ∷ get_or vs 1 0 ∷ []
two [] h = absurd (omega arith)
two (a ∷ []) h = absurd (omega arith)
two (a ∷ b ∷ []) h = refl
two (a ∷ b ∷ c ∷ vs) h = absurd (omega arith)

pub three : (vs : List ℕ) → length vs ≡ 3 → vs ≡ get_or vs 0 0 ∷ get_or vs 1 0 ∷ get_or vs 2 0 ∷ []
three [] h = absurd (omega arith)
three (a ∷ []) h = absurd (omega arith)
three (a ∷ b ∷ []) h = absurd (omega arith)
three (a ∷ b ∷ c ∷ []) h = refl
three (a ∷ b ∷ c ∷ d ∷ vs) h = absurd (omega arith)

-- a line of one number more is explicit: there are no suc n numbers
unfoldable pub misformed : Fields → Bool
misformed wrong = true
misformed (fields vs q) = false

-- ---- sound: what a line that was read says of its text and its numbers

pub one_at : (s : List ℕ) (p : ℕ) (vs : List ℕ) (r : ℕ) → fields_of s 0 p ≡ fields vs r → At s p (literal_row (get_or vs 0 0)) r
unfolding literal_row line_of
one_at s p vs r e = subst (λ (l : List ℕ). At s p (line_of l) r) (one vs (fields-length s 0 p vs r e)) (fields_stand s 0 p vs r e).at

pub record OutputRead (s : List ℕ) (last f p : ℕ) (ns : List ℕ) (f' q : ℕ) : Type 0 where
  pub one : length ns ≡ 1
  pub free : f' ≡ f
  pub at : At s p (literal_row (get_or ns 0 0)) q
  pub within : get_or ns 0 0 ≤ last

-- of a latch, its numbers alone
pub record LatchSays (last lit f : ℕ) (ns : List ℕ) (f' : ℕ) : Type 0 where
  pub two : length ns ≡ 2
  pub free : f' ≡ f + cond (leb (get_or ns 1 0) 1) 0 1
  pub next : get_or ns 0 0 ≤ last
  pub reset : (leb (get_or ns 1 0) 1 || (eqb (get_or ns 1 0) lit && ltb f 6)) ≡ true

module _ (f : ℕ) (ns : List ℕ) (f' q : ℕ) where
  pub output_sound : (s : List ℕ) (p last : ℕ) → output_at s last f p ≡ row ns f' q → OutputRead s last f p ns f' q
  unfolding output_at
  output_sound s p last h = judged-row _ (fields_of s 0 p) _ ns f' q h from
    where
      from : (vs : List ℕ) (r : ℕ) → fields_of s 0 p ≡ fields vs r → cond (leb (get_or vs 0 0) last) (row (get_or vs 0 0 ∷ []) f r) (fault OutOfLimits) ≡ row ns f' q → OutputRead s last f p ns f' q
      from vs r e g =
          let c = cond-row (leb (get_or vs 0 0) last) OutOfLimits (get_or vs 0 0 ∷ []) f r ns f' q g in
          let n : get_or ns 0 0 ≡ get_or vs 0 0 = ap (λ (l : List ℕ). get_or l 0 0) (sym c.1) in
          record { one = ap length (sym c.1); free = sym c.2; at = rw (n, ← c.3) (one_at s p vs r e); within = rw n (leb-true (get_or vs 0 0) last c.0) }

  pub says_sound : (last lit next reset r : ℕ) → latch_says last lit f next reset r ≡ row ns f' q
      → LatchSays last lit f ns f' × (get_or ns 0 0 ≡ next) × (get_or ns 1 0 ≡ reset) × (r ≡ q)
  unfolding latch_says
  says_sound last lit next reset r h =
      let fits = leb reset 1 || (eqb reset lit && ltb f 6) in
      let c = cond-row (leb next last && fits) OutOfLimits (next ∷ reset ∷ []) (f + cond (leb reset 1) 0 1) r ns f' q h in
      let t = both (leb next last) fits c.0 in
      let n0 : get_or ns 0 0 ≡ next = ap (λ (l : List ℕ). get_or l 0 0) (sym c.1) in
      let n1 : get_or ns 1 0 ≡ reset = ap (λ (l : List ℕ). get_or l 1 0) (sym c.1) in (
        record { two = ap length (sym c.1); free = rw n1 (sym c.2); next = rw n0 (leb-true next last t.0); reset = rw n1 t.1 },
        n0,
        n1,
        c.3,
      )

-- ---- complete: a line that stands there, with numbers that fit, is read

pub output_complete : (s : List ℕ) (f p q last v : ℕ) → v ≤ last → v < 100000 → At s p (literal_row v) q → output_at s last f p ≡ row (v ∷ []) f q
unfolding output_at literal_row judged Small
output_complete s f p q last v h m a = rw (stand_fields s [] v p q (m, tt) a, le-leb v last h)

pub says_complete : (last lit f next reset q : ℕ) → next ≤ last → (leb reset 1 || (eqb reset lit && ltb f 6)) ≡ true
    → latch_says last lit f next reset q ≡ row (next ∷ reset ∷ []) (f + cond (leb reset 1) 0 1) q
unfolding latch_says
says_complete last lit f next reset q h g = rw (le-leb next last h, g)

-- ---- faulty: an output's line with a number that does not fit; a line without its numbers

-- what is no line of suc n numbers
pub judged-none : (s : List ℕ) (n p : ℕ) (g : List ℕ → ℕ → Row) → ((vs : List ℕ) (r : ℕ) → fields_of s n p ≡ fields vs r → ⊥) → judged (fields_of s n p) g ≡ fault WrongShape
unfolding judged
judged-none s n p g none = go (fields_of s n p) refl
  where
    go : (x : Fields) → fields_of s n p ≡ x → judged x g ≡ fault WrongShape
    go wrong e = refl
    go (fields vs r) e = absurd (none vs r e)

-- nor of one more
pub either-none : (s : List ℕ) (n p : ℕ) (g : List ℕ → ℕ → Row) → ((vs : List ℕ) (r : ℕ) → fields_of s n p ≡ fields vs r → ⊥)
    → ((vs : List ℕ) (r : ℕ) → fields_of s (suc n) p ≡ fields vs r → ⊥) → judged (either_of s n p) g ≡ fault WrongShape
either-none s n p g none nor = go (fields_of s n p) refl
  where
    go : (x : Fields) → fields_of s n p ≡ x → judged (either_of s n p) g ≡ fault WrongShape
    go wrong e = rw (or-more s n p e) (judged-none s (suc n) p g nor)
    go (fields vs r) e = absurd (none vs r e)

-- where no line of one number stands, of two or of three, none is read
module _ (s : List ℕ) (p : ℕ) where
  pub no_one : ((v r : ℕ) → v < 100000 → At s p (line v []) r → ⊥) → (vs : List ℕ) (r : ℕ) → fields_of s 0 p ≡ fields vs r → ⊥
  unfolding Small line_of
  no_one none vs r e =
      let t = fields_stand s 0 p vs r e in
      let is = one vs (fields-length s 0 p vs r e) in
      none (get_or vs 0 0) r (subst Small is t.small).0 (subst (λ (l : List ℕ). At s p (line_of l) r) is t.at)

  pub no_two : ((v w r : ℕ) → (v < 100000) × (w < 100000) → At s p (line v (w ∷ [])) r → ⊥) → (vs : List ℕ) (r : ℕ) → fields_of s 1 p ≡ fields vs r → ⊥
  unfolding Small line_of
  no_two none vs r e =
      let t = fields_stand s 1 p vs r e in
      let is = two vs (fields-length s 1 p vs r e) in
      let few = subst Small is t.small in
      none (get_or vs 0 0) (get_or vs 1 0) r (few.0, few.1.0) (subst (λ (l : List ℕ). At s p (line_of l) r) is t.at)

  pub no_three : ((v w x r : ℕ) → (v < 100000) × (w < 100000) × (x < 100000) → At s p (line v (w ∷ x ∷ [])) r → ⊥) → (vs : List ℕ) (r : ℕ) → fields_of s 2 p ≡ fields vs r → ⊥
  unfolding Small line_of
  no_three none vs r e =
      let t = fields_stand s 2 p vs r e in
      let is = three vs (fields-length s 2 p vs r e) in
      let few = subst Small is t.small in
      none (get_or vs 0 0) (get_or vs 1 0) (get_or vs 2 0) r (few.0, few.1.0, few.1.1.0) (subst (λ (l : List ℕ). At s p (line_of l) r) is t.at)

module _ (s : List ℕ) (f p last : ℕ) where
  pub output-above : (v q : ℕ) → last < v → v < 100000 → At s p (literal_row v) q → output_at s last f p ≡ fault OutOfLimits
  unfolding output_at literal_row judged Small
  output-above v q h m a = rw (stand_fields s [] v p q (m, tt) a, lt-leb v last h)

  pub output-wrong : ((v r : ℕ) → v < 100000 → At s p (literal_row v) r → ⊥) → output_at s last f p ≡ fault WrongShape
  unfolding output_at literal_row
  output-wrong none = judged-none s 0 p _ (no_one s p none)
