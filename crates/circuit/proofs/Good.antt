-- Gates appended one after another: each literal built has its value, and earlier values stay. Assumes nothing.
use Prim.Native.Nat.{ℕ, suc, ◌+◌, ◌<◌}
use mathlib.Core.Path.{◌≡◌, refl, ap, ap₂, subst, sym, ◌∙◌}
use mathlib.Core.Bool.{Bool, true, false, not, ◌&&◌, ◌||◌, beq}
use mathlib.Core.List.{List, [], ◌∷◌, ◌++◌}
use native.Mathlib.Omega.{arith}
use lib.ListN.{length, get_or, length-append, get_or-append}
use lib.Seq.{get_or_at}
use lib.Dec.{leb}
use Rattle.netlist.specs.Literals.{literal_of, variable_of, is_inverted}
use Rattle.netlist.specs.Meaning.{bools, signed, lit_of}
use Rattle.netlist.proofs.LiteralLaws.{variable-literal, inverted-literal}
use Rattle.netlist.proofs.MeaningLaws.{lit-same}
use Rattle.circuit.specs.Gates.{lit, inv, Gate, in_order, gate, Piece, and_of, or_of, xor_of, same_of, after}

-- the value of a literal in one lane
abbrev pub value_of : List Bool → ℕ → Bool
value_of v l = lit_of bools v l

-- each gate adds the value of one more variable
abbrev pub eval_gates : List Bool → List Gate → List Bool
eval_gates v [] = v
eval_gates v (x ∷ xs) = eval_gates (v ++ ((value_of v x.left && value_of v x.right) ∷ [])) xs

-- the literal l is one of the variables that have values, and its value is b
pub record Good (v : List Bool) (l : ℕ) (b : Bool) : Type 0 where
  pub below : variable_of l < length v
  pub value : value_of v l ≡ b

-- a value put at the end
one_stays : (v : List Bool) (x : Bool) {l : ℕ} {b : Bool} → Good v l b → Good (v ++ (x ∷ [])) l b
one_stays v x {l} {b} k =
    record {
      below = omega (arith, k.below, length-append v (x ∷ []));
      value = lit-same bools (v ++ (x ∷ [])) v l (get_or-append v (x ∷ []) false (variable_of l) k.below) ∙ k.value;
    }

-- earlier values stay, whatever gates come
pub stays : (xs : List Gate) {v : List Bool} {l : ℕ} {b : Bool} → Good v l b → Good (eval_gates v xs) l b
stays [] k = k
stays (x ∷ xs) {v} k = stays xs (one_stays v (value_of v x.left && value_of v x.right) k)

pub eval_append : (xs ys : List Gate) (v : List Bool) → eval_gates v (xs ++ ys) ≡ eval_gates (eval_gates v xs) ys
eval_append [] ys v = refl
eval_append (x ∷ xs) ys v = eval_append xs ys (v ++ ((value_of v x.left && value_of v x.right) ∷ []))

pub eval_length : (xs : List Gate) (v : List Bool) → length (eval_gates v xs) ≡ length v + length xs
eval_length [] v = omega arith
eval_length (x ∷ xs) v =
    omega (
      arith,
      eval_length xs (v ++ ((value_of v x.left && value_of v x.right) ∷ [])),
      length-append v ((value_of v x.left && value_of v x.right) ∷ []),
    )

not-not : (b : Bool) → not (not b) ≡ b
not-not true = refl
not-not false = refl

-- a literal by its variable and its sign
value_by : (v : List Bool) (l : ℕ) → value_of v l ≡ signed bools (is_inverted l) (get_or v (variable_of l) false)
unfolding lit_of
value_by v l = refl

value-literal : (v : List Bool) (n : ℕ) (t : Bool) → value_of v (literal_of n t) ≡ signed bools t (get_or v n false)
value-literal v n t = value_by v (literal_of n t) ∙ ap₂ (λ (s : Bool) (i : ℕ). signed bools s (get_or v i false)) (inverted-literal n t) (variable-literal n t)

signed-not : (t b : Bool) → signed bools (not t) b ≡ not (signed bools t b)
unfolding signed
signed-not true b = sym (not-not b)
signed-not false b = refl

-- the variable n, and its inverse
pub good_at : (v : List Bool) (n : ℕ) (b : Bool) → n < length v → get_or v n false ≡ b → Good v (literal_of n false) b
unfolding signed
good_at v n b h e = record { below = rw (variable-literal n false) h; value = value-literal v n false ∙ e }

pub inverted : {v : List Bool} (n : ℕ) {b : Bool} → Good v (literal_of n false) b → Good v (literal_of n true) (not b)
inverted {v} n {b} k =
    record {
      below = rw (variable-literal n true) (rw (variable-literal n false) at k.below);
      value = value-literal v n true ∙ signed-not false (get_or v n false) ∙ ap not (sym (value-literal v n false) ∙ k.value);
    }

-- the inverse of a literal
pub inverse : {v : List Bool} {l : ℕ} {b : Bool} → Good v l b → Good v (inv l) (not b)
unfolding inv
inverse {v} {l} {b} k =
    record {
      below = rw (variable-literal (variable_of l) (not (is_inverted l))) k.below;
      value = value-literal v (variable_of l) (not (is_inverted l)) ∙ signed-not (is_inverted l) (get_or v (variable_of l) false) ∙ ap not (sym (value_by v l) ∙ k.value);
    }

-- the next gate's literal, and its inverse
and_comm : (a b : Bool) → a && b ≡ b && a
and_comm true true = refl
and_comm true false = refl
and_comm false true = refl
and_comm false false = refl

gate-value : (v : List Bool) (a b : ℕ) → value_of v (gate a b).left && value_of v (gate a b).right ≡ value_of v a && value_of v b
unfolding gate
gate-value v a b = by (leb b a)
  where
    by : (t : Bool) → value_of v (in_order t a b).left && value_of v (in_order t a b).right ≡ value_of v a && value_of v b
    by true = refl
    by false = and_comm (value_of v b) (value_of v a)

pub gate_good : {v : List Bool} {a b : ℕ} {x y : Bool} (n : ℕ) → length v ≡ n → Good v a x → Good v b y → Good (eval_gates v (gate a b ∷ [])) (lit n) (x && y)
gate_good {v} {a} {b} {x} {y} n e p q =
    let z : Bool = value_of v (gate a b).left && value_of v (gate a b).right in
    good_at (v ++ (z ∷ [])) n (x && y) (omega (arith, length-append v (z ∷ [])))
    (get_or_at v z [] false n e ∙ gate-value v a b ∙ ap₂ ◌&&◌ p.value q.value)

-- a way to make a literal of two, and what it computes
abbrev pub Makes : (ℕ → ℕ → ℕ → Piece) → (Bool → Bool → Bool) → Type 0
Makes op f =
    (v : List Bool) (a b : ℕ) (x y : Bool) (n : ℕ) → length v ≡ n → Good v a x → Good v b y
    → Good (eval_gates v (op n a b).gates) (op n a b).out (f x y)

pub and_makes : Makes and_of ◌&&◌
and_makes v a b x y n e p q = gate_good n e p q

pub neither : (x y : Bool) → not (not x && not y) ≡ x || y
neither true y = refl
neither false y = not-not y

pub or_makes : Makes or_of ◌||◌
or_makes v a b x y n e p q = rw (neither x y) at (inverted n (gate_good n e (inverse p) (inverse q)))

differs : (x y : Bool) → not (x && y) && not (not x && not y) ≡ not (beq x y)
differs true true = refl
differs true false = refl
differs false true = refl
differs false false = refl

-- one gate after another: what holds of the values after the first is what the second starts from
pub gate-length : (v : List Bool) (x : Gate) (n : ℕ) → length v ≡ n → length (eval_gates v (x ∷ [])) ≡ suc n
gate-length v x n e = omega (arith, length-append v ((value_of v x.left && value_of v x.right) ∷ []))

pub xor_makes : Makes xor_of (λ x y. not (beq x y))
xor_makes v a b x y n e p q =
    subst (λ (z : Bool). Good (eval_gates v (xor_of n a b).gates) (xor_of n a b).out z) (differs x y)
    (gate_good (suc (suc n)) e₂ (inverse (stays (second ∷ []) both)) (inverse none))
  where
    first : Gate
    first = gate a b

    second : Gate
    second = gate (inv a) (inv b)

    v₁ : List Bool
    v₁ = eval_gates v (first ∷ [])

    e₁ : length v₁ ≡ suc n
    e₁ = gate-length v first n e

    e₂ : length (eval_gates v₁ (second ∷ [])) ≡ suc (suc n)
    e₂ = gate-length v₁ second (suc n) e₁

    both : Good v₁ (lit n) (x && y)
    both = gate_good n e p q

    none : Good (eval_gates v₁ (second ∷ [])) (lit (suc n)) (not x && not y)
    none = gate_good (suc n) e₁ (inverse (stays (first ∷ []) p)) (inverse (stays (first ∷ []) q))

pub same_makes : Makes same_of beq
same_makes v a b x y n e p q =
    subst (λ (z : Bool). Good (eval_gates v (same_of n a b).gates) (same_of n a b).out z) (not-not (beq x y)) (inverse (xor_makes v a b x y n e p q))

-- operands first, then their operator
pub after_makes : (op : ℕ → ℕ → ℕ → Piece) (f : Bool → Bool → Bool) → Makes op f → (v : List Bool) (n : ℕ) (p q : Piece) (x y : Bool) → length v ≡ n
    → Good (eval_gates v p.gates) p.out x → Good (eval_gates (eval_gates v p.gates) q.gates) q.out y
    → Good (eval_gates v (after op n p q).gates) (after op n p q).out (f x y)
after_makes op f m v n p q x y e a b =
    let r : Piece = op (n + length p.gates + length q.gates) p.out q.out in
    subst (λ (w : List Bool). Good w r.out (f x y))
    (sym (eval_append p.gates (q.gates ++ r.gates) v ∙ eval_append q.gates r.gates (eval_gates v p.gates)))
    (m (eval_gates (eval_gates v p.gates) q.gates) p.out q.out x y (n + length p.gates + length q.gates)
    (omega (arith, eval_length p.gates v, eval_length q.gates (eval_gates v p.gates)))
    (stays q.gates a) b)
