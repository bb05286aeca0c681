-- Writers run one after another write one text after another, and what a written buffer holds. Assumes nothing.
use mathlib.Core.Path.{◌≡◌, refl, sym, ap, ap₂, ◌∙◌}
use mathlib.Core.List.{List, [], ◌∷◌, ◌++◌}
use Prim.Native.Nat.{ℕ, zero, suc, ◌+◌, ◌≤◌, ◌<◌}
use native.Mathlib.Nat.{add-zero, zero-add, add-suc, suc-add}
use native.Mathlib.Numerals.{add-one}
use native.Mathlib.Decide.{dec_le}
use native.Mathlib.Omega.{arith}
use lib.ListN.{length, take, drop, set, length-append, length-set}
use lib.Seq.{sets, sets-eq, length-sets, set_out}
use Rattle.text.specs.Writer.{top, past, Wrote, joined}

-- past the end nothing is stored
pub sets-out : (t l : List ℕ) (i : ℕ) → length l ≤ i → sets l i t ≡ l
sets-out [] l i h = refl
sets-out (a ∷ t) l i h = sets-out t (set l i a) (suc i) (rw length-set (omega arith)) ∙ set_out l i a h

pub sets-append : (s t l : List ℕ) (i : ℕ) → sets (sets l i s) (i + length s) t ≡ sets l i (s ++ t)
sets-append [] t l i = rw add-zero
sets-append (a ∷ s) t l i =
    ap (λ (k : ℕ). sets (sets l i (a ∷ s)) k t) (add-suc i (length s) ∙ sym (suc-add i (length s))) ∙ sets-append s t (set l i a) (suc i)

-- the same, from the place that a writer of s returns
sets-past : (s t l : List ℕ) (i : ℕ) → length l ≤ top → sets (sets l i s) (past i (length s)) t ≡ sets l i (s ++ t)
sets-past s t l i h = go (dec_le (i + length s) top)
  where
    go : Dec (i + length s ≤ top) → sets (sets l i s) (past i (length s)) t ≡ sets l i (s ++ t)
    go (yes g) =
        let e : past i (length s) ≡ i + length s = omega arith in
        ap (λ (k : ℕ). sets (sets l i s) k t) e ∙ sets-append s t l i
    go (no g) =
        sets-out t (sets l i s) (past i (length s)) (rw length-sets (omega arith))
        ∙ sym (sets-out t (sets l i s) (i + length s) (rw length-sets (omega arith)))
        ∙ sets-append s t l i

past-past : (i a b : ℕ) → past (past i a) b ≡ past i (a + b)
past-past i a b = omega arith

-- THE COMPOSITION LAW: a writer of s, and then from its place a writer of t, is a writer of s ++ t
pub then : {l m r : List ℕ} {i j k : ℕ} {s t : List ℕ} → Wrote l m i j s → Wrote m r j k t → Wrote l r i k (s ++ t)
then {l} {m} {r} {i} {j} {k} {s} {t} p q =
    record {
      small = p.small;
      place = q.place ∙ rw (p.place, length-append) (past-past i (length s) (length t));
      bytes = q.bytes ∙ rw (p.bytes, p.place) (sets-past s t l i p.small);
    }

-- nothing written
pub none : (l : List ℕ) (i : ℕ) → length l ≤ top → Wrote l l i i []
none l i h = record { small = h; place = omega arith; bytes = refl }

-- one more text of `joined`, as a loop's turn writes it
pub more : (f : ℕ → List ℕ) {l m r : List ℕ} {i j k : ℕ} (n : ℕ) → Wrote l m i j (joined f n) → Wrote m r j k (f n) → Wrote l r i k (joined f (n + 1))
more f n p q = rw add-one (then p q)

-- the same texts, one after the other
pub joined_same : (f g : ℕ → List ℕ) (n : ℕ) → ((k : ℕ) → k < n → f k ≡ g k) → joined f n ≡ joined g n
joined_same f g zero h = refl
joined_same f g (suc n) h = ap₂ ◌++◌ (joined_same f g n (λ k l. h k (omega arith))) (h n (omega arith))

-- the buffer keeps its length
pub kept : {l r : List ℕ} {i k : ℕ} {s : List ℕ} → Wrote l r i k s → length r ≡ length l
kept {l} {r} {i} {k} {s} p = ap length p.bytes ∙ length-sets l i s

-- a writer's place is within a slice just where the text fits, and then it is the place after the text
pub room : {l r : List ℕ} {k : ℕ} {s : List ℕ} → Wrote l r 0 k s → (n : ℕ) → n < top → k ≤ n → (k ≡ length s) × (length s ≤ n)
room p n small h = omega (arith, p.place)

pub no_room : {l r : List ℕ} {k : ℕ} {s : List ℕ} → Wrote l r 0 k s → (n : ℕ) → n < top → n < k → n < length s
no_room p n small h = omega (arith, p.place)

-- where the text fits, the buffer is what it was, with the text in place of as many bytes
pub fits : {l r : List ℕ} {i k : ℕ} {s : List ℕ} → Wrote l r i k s → i + length s ≤ length l → r ≡ take i l ++ s ++ drop (i + length s) l
fits {l} {r} {i} {k} {s} p h = p.bytes ∙ sets-eq s l i h

-- ---- a text is measured by its writer over no bytes, and written where the buffer is long enough

dry : {r out : List ℕ} {k : ℕ} {s : List ℕ} → Wrote [] r 0 k s → r ++ out ≡ out
dry {r} {out} {k} {s} p = rw (p.bytes, sets-out s [] 0 (omega arith))

pub measured : (out s : List ℕ) {d r : List ℕ} {need end : ℕ} → length out < top → Wrote [] d 0 need s → need ≤ length (d ++ out) → Wrote (d ++ out) r 0 end s → (length s ≤ length out) × (end ≡ length s) × (r ≡ s ++ drop (length s) out)
measured out s {d} {r} {need} {end} small p h q =
    let same : d ++ out ≡ out = dry p in
    let h' : need ≤ length out = rw same at h in
    let q' : Wrote out r 0 end s = rw same at q in
    let g : length s ≤ length out = (room p (length out) small h').1 in
    (g, omega (arith, q'.place), rw zero-add at (fits q' (rw zero-add g)))

pub too_long : (out s : List ℕ) {d : List ℕ} {need : ℕ} → length out < top → Wrote [] d 0 need s → length (d ++ out) < need → (length out < length s) × (d ++ out ≡ out)
too_long out s {d} {need} small p h =
    let same : d ++ out ≡ out = dry p in
    let h' : length out < need = rw same at h in
    (no_room p (length out) small h', same)
