-- An assertion graph, and a formula judged on one cycle and one setting. Assumes nothing.
use Rattle.std.specs.Prelude.{ℕ, zero, suc, ◌+◌, ◌-◌, ◌*◌, Bool, true, false, not, ◌&&◌, ◌||◌, List, [], ◌∷◌, get_or, eqb}
use Rattle.std.specs.Bool.{beq}
use Rattle.assertion.specs.Lists.{any}
use Rattle.assertion.specs.declared.Mode.{Mode}
use Rattle.assertion.specs.declared.Mode.TheVariants.{Unsaid, Terminal, Strong}

-- bytes of the text: a name, or a formula as it is written
abbrev pub Bytes : Type 0
Bytes = List ℕ

-- "A name then stands for a run of inputs or latches, lowest bit first": of the signal bits or of the constant
-- bits, from the place of the lowest on
pub data Run : Type 0 where
  signals_from constants_from : ℕ → Run

-- a formula over signal bits and constant bits, each by its place from 0: those of the first name in the graph
-- text, lowest first, then those of the next. `alike` is `==`, which "compares two names of equal width and
-- stands as one operand"; `name[n]` "is one bit", and so needs no case.
pub data Expr : Type 0 where
  truth : Bool → Expr
  signal constant : ℕ → Expr
  neg : Expr → Expr
  conj disj xor same : Expr → Expr → Expr
  alike : Run → Run → (width : ℕ) → Expr

-- an edge: its vertices by their places, from 0; whether it has the mark `t`; its two formulas, as trees
-- and as they are written
pub record Edge : Type 0 where
  pub from : ℕ
  pub to : ℕ
  pub marked : Bool
  pub antecedent : Expr
  pub consequent : Expr
  pub antecedent_text : Bytes
  pub consequent_text : Bytes

-- "Let `S` and `K` take a second field, a width": a name of signals or constants, and how many bits it
-- stands for
pub record Name : Type 0 where
  pub name : Bytes
  pub width : ℕ

-- what the text says of terminal edges; the names of the signals, the constants and the vertices, and the
-- edges, in the order of the text; vertex 0 is the start
pub record Graph : Type 0 where
  pub mode : Mode
  pub signals : List Name
  pub constants : List Name
  pub vertices : List Bytes
  pub edges : List Edge

-- how many bits these names stand for
unfoldable pub bits_of : List Name → ℕ
bits_of [] = 0
bits_of (n ∷ ns) = n.width + bits_of ns

unfoldable pub signal_bits : Graph → ℕ
signal_bits g = bits_of g.signals

unfoldable pub constant_bits : Graph → ℕ
constant_bits g = bits_of g.constants

-- Which edges are terminal. "A graph in which no edge is `t` shall be judged as if each were .. a first line
-- `M`, tab, `terminal` keeps the old rule", by which they are the edges with the mark; "`M`, tab, `strong`
-- makes each edge terminal."
unfoldable pub is_terminal : Graph → Edge → Bool
is_terminal g e = elim g.mode [ Unsaid ↦ e.marked || not (any (λ f. f.marked) g.edges) | Terminal ↦ e.marked | Strong ↦ true ]

-- ---- formulas
-- a cycle is its bytes, `0` or `1`: input 1 is init, and then come the signal bits
abbrev pub Cycle : Type 0
Cycle = List ℕ

-- a setting gives each constant bit 0 or 1
abbrev pub Setting : Type 0
Setting = List Bool

-- input i of a cycle, i from 0
unfoldable pub input : Cycle → ℕ → Bool
input c i = eqb (get_or c i 48) 49

unfoldable pub is_init : Cycle → Bool
is_init c = input c 0

-- bit n of a run; the lowest is bit 0
unfoldable pub bit_holds : Setting → Cycle → Run → ℕ → Bool
bit_holds σ c (signals_from i) n = input c (suc (i + n))
bit_holds σ c (constants_from j) n = get_or σ (j + n) false

-- two runs are alike in each of w bits from bit n on
unfoldable pub alike_from : Setting → Cycle → Run → Run → ℕ → ℕ → Bool
alike_from σ c a b n zero = true
alike_from σ c a b n (suc w) = beq (bit_holds σ c a n) (bit_holds σ c b n) && alike_from σ c a b (suc n) w

-- `!` is not, `&` both, `|` at least one, `^` just one, `=` both alike, `==` alike in each bit
unfoldable pub holds : Setting → Cycle → Expr → Bool
holds σ c (truth b) = b
holds σ c (signal i) = input c (suc i)
holds σ c (constant j) = get_or σ j false
holds σ c (neg a) = not (holds σ c a)
holds σ c (conj a b) = holds σ c a && holds σ c b
holds σ c (disj a b) = holds σ c a || holds σ c b
holds σ c (xor a b) = not (beq (holds σ c a) (holds σ c b))
holds σ c (same a b) = beq (holds σ c a) (holds σ c b)
holds σ c (alike a b w) = alike_from σ c a b 0 w

-- how many operators between two operands a formula has; `!` is not counted. "`==` costs 3 gates a bit .. then
-- width − 1 more .. and counts as that many operators".
unfoldable pub operators : Expr → ℕ
operators (truth b) = 0
operators (signal i) = 0
operators (constant j) = 0
operators (neg a) = operators a
operators (conj a b) = operators a + operators b + 1
operators (disj a b) = operators a + operators b + 1
operators (xor a b) = operators a + operators b + 1
operators (same a b) = operators a + operators b + 1
operators (alike a b w) = 4 * w - 1
