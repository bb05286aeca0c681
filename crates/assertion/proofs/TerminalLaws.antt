-- `is_terminal` says whether an edge is terminal; and, once for all edges, whether each is or the marked ones
-- alone. Assumes nothing.
use mathlib.Core.Path.{◌≡◌, refl, sym, subst}
use mathlib.Core.Bool.{Bool, true, false, not, ◌||◌}
use mathlib.Core.List.{List, [], ◌∷◌, Memᴰ}
use lib.Dec.{T}
use Prim.Native.Nat.{ℕ}
use native.Mathlib.Omega.{arith}
use Rattle.assertion.specs.Lists.{any}
use Rattle.assertion.specs.declared.Mode.{Mode}
use Rattle.assertion.specs.declared.Mode.TheVariants.{Unsaid, Terminal, Strong}
use Rattle.assertion.specs.Graph.{Edge, Graph, is_terminal}
use Rattle.assertion.specs.Paths.{TerminalEdge}
use Rattle.assertion.specs.Paths.TerminalEdge.{by_mode, by_mark, unmarked}
use Rattle.assertion.proofs.ListLaws.{any_intro}

abbrev marks : Edge → Bool
marks e = e.marked

-- no edge of the list is marked exactly where the test over the list fails
none-marked : (es : List Edge) → any marks es ≡ false → (f : Edge) → Memᴰ f es → f.marked ≡ false
none-marked es h f m = by f.marked refl
  where
    by : (b : Bool) → f.marked ≡ b → b ≡ false
    by true k = absurd (subst T h (any_intro marks m (subst T (sym k) tt)))
    by false k = refl

marked-none : (es : List Edge) → ((f : Edge) → Memᴰ f es → f.marked ≡ false) → any marks es ≡ false
marked-none [] h = refl
marked-none (e ∷ es) h = rw (h e (Memᴰ.head refl)) (marked-none es (λ f m. h f (Memᴰ.tail m)))

-- ---- by the mode
-- each edge is terminal, whether marked or not
unfoldable pub each : Mode → List Edge → Bool
each Unsaid es = not (any marks es)
each Terminal es = false
each Strong es = true

pub terminal-marked : (g : Graph) (e : Edge) → each g.mode g.edges ≡ false → is_terminal g e ≡ e.marked
unfolding is_terminal each
terminal-marked g e h = by g.mode refl h
  where
    or-false : (a : Bool) → (a || false) ≡ a
    or-false true = refl
    or-false false = refl

    by : (m : Mode) → g.mode ≡ m → each m g.edges ≡ false → is_terminal g e ≡ e.marked
    by Unsaid k n = rw (is_terminal, k, n) (or-false e.marked)
    by Terminal k n = rw (is_terminal, k)
    by Strong k n = let z : ◌≡◌ {A = ℕ} 0 1 = cc in absurd (omega arith)

pub terminal-each : (g : Graph) (e : Edge) → each g.mode g.edges ≡ true → is_terminal g e ≡ true
unfolding is_terminal each
terminal-each g e h = by g.mode refl h
  where
    or-true : (a : Bool) → (a || true) ≡ true
    or-true true = refl
    or-true false = refl

    by : (m : Mode) → g.mode ≡ m → each m g.edges ≡ true → is_terminal g e ≡ true
    by Unsaid k n = rw (is_terminal, k, n) (or-true e.marked)
    by Terminal k n = let z : ◌≡◌ {A = ℕ} 0 1 = cc in absurd (omega arith)
    by Strong k n = rw (is_terminal, k)

-- ---- the three reasons
pub for_reason : (g : Graph) (e : Edge) → TerminalEdge g e → is_terminal g e ≡ true
unfolding is_terminal each
for_reason g e (by_mode k) = rw k
for_reason g e (by_mark l) = by g.mode refl
  where
    by : (m : Mode) → g.mode ≡ m → is_terminal g e ≡ true
    by Unsaid k = rw (is_terminal, k, l)
    by Terminal k = rw (is_terminal, k, l)
    by Strong k = rw (is_terminal, k)
for_reason g e (unmarked k n) = terminal-each g e (rw (each, k, marked-none g.edges n))

pub reason : (g : Graph) (e : Edge) → is_terminal g e ≡ true → TerminalEdge g e
unfolding is_terminal
reason g e h = by g.mode e.marked (any marks g.edges) refl refl refl
  where
    by : (m : Mode) (b c : Bool) → g.mode ≡ m → e.marked ≡ b → any marks g.edges ≡ c → TerminalEdge g e
    by m true c k l n = by_mark l
    by Unsaid false true k l n = let z : is_terminal g e ≡ false = rw (is_terminal, k, l, n) in let w : ◌≡◌ {A = ℕ} 0 1 = cc in absurd (omega arith)
    by Unsaid false false k l n = unmarked k (none-marked g.edges n)
    by Terminal false c k l n = let z : is_terminal g e ≡ false = rw (is_terminal, k, l) in let w : ◌≡◌ {A = ℕ} 0 1 = cc in absurd (omega arith)
    by Strong false c k l n = by_mode k
