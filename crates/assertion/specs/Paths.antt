-- What demand 3 counts: cycles that some setting and some rejecting path condemn, and cycles in which a rule was
-- at stake. Nothing here knows of latches, gates, tokens or a tally. `T b` says that the test b passes. Assumes
-- nothing.
use Rattle.std.specs.Prelude.{ℕ, ◌+◌, ◌<◌, ◌≡◌, Bool, true, false, not, ◌&&◌, ◌||◌, cond, length, T, eqb}
use mathlib.Core.List.{List, [], ◌∷◌, ◌++◌, Memᴰ}
use Rattle.assertion.specs.Lists.{any, lists, From}
use Rattle.assertion.specs.declared.Mode.TheVariants.{Unsaid, Strong}
use Rattle.assertion.specs.Graph.{Run, signals_from, constants_from, signal, constant, alike, Edge, Graph, constant_bits, Cycle, Setting, is_terminal, is_init, bit_holds, holds}

-- ---- the latest init
-- A cycle's latest init is the last cycle up to it, itself included, whose init is `1`. Of the cycles
-- since start, in call order: those from the latest init to the last, both included; none where no
-- cycle's init is `1`.
abbrev pub since_init : List Cycle → List Cycle
since_init [] = []
since_init (c ∷ cs) = cond (any is_init cs) (since_init cs) (cond (is_init c) (c ∷ cs) [])

-- the same read back: the cycle `first` is an init, no cycle after it is one, and `since_init` starts there
pub record Latest (cs : List Cycle) : Type 0 where
  pub before : List Cycle
  pub first : Cycle
  pub later : List Cycle
  pub whole : cs ≡ before ++ (first ∷ later)
  pub starts_init : is_init first ≡ true
  pub latest : any is_init later ≡ false
  pub since : since_init cs ≡ first ∷ later

-- ---- paths
-- A path is a list of edges: the first leaves the vertex v, each further one leaves the vertex to which
-- the edge before it goes.
abbrev pub leaves : ℕ → List Edge → Bool
leaves v [] = true
leaves v (e ∷ p) = eqb e.from v && leaves e.to p

-- the last edge is terminal
abbrev pub ends_terminal : Graph → List Edge → Bool
ends_terminal g [] = false
ends_terminal g (e ∷ []) = is_terminal g e
ends_terminal g (e ∷ f ∷ p) = ends_terminal g (f ∷ p)

-- Each edge is judged on its own cycle's inputs and the setting: the first edge on the first cycle, and
-- so on.
abbrev pub antecedents_true : Setting → List Edge → List Cycle → Bool
antecedents_true σ [] w = true
antecedents_true σ (e ∷ p) [] = true
antecedents_true σ (e ∷ p) (c ∷ w) = holds σ c e.antecedent && antecedents_true σ p w

-- at least one consequent is false
abbrev pub consequent_false : Setting → List Edge → List Cycle → Bool
consequent_false σ [] w = false
consequent_false σ (e ∷ p) [] = false
consequent_false σ (e ∷ p) (c ∷ w) = not (holds σ c e.consequent) || consequent_false σ p w

-- p is a rejecting path of g over the cycles w, from the latest init to the cycle asked about, under the
-- setting σ. Vertex 0 is the start.
pub record RejectingPath (g : Graph) (σ : Setting) (w : List Cycle) (p : List Edge) : Type 0 where
  pub of_graph : From p g.edges
  pub one-a-cycle : length p ≡ length w
  pub joined : T (leaves 0 p)
  pub terminal : T (ends_terminal g p)
  pub antecedents : T (antecedents_true σ p w)
  pub consequent : T (consequent_false σ p w)

-- the last of these cycles is rejected: some setting, the same in all cycles, and some path condemn it
pub record Rejected (g : Graph) (cycles : List Cycle) : Type 0 where
  pub setting : Setting
  pub a-bit-each : length setting ≡ constant_bits g
  pub path : List Edge
  pub rejects : RejectingPath g setting (since_init cycles) path

-- document 02, No. 7: "some path from the latest init, ending on a terminal edge, meet all antecedents": a
-- rejecting path without a word on consequents
pub record CheckingPath (g : Graph) (σ : Setting) (w : List Cycle) (p : List Edge) : Type 0 where
  pub of_graph : From p g.edges
  pub one-a-cycle : length p ≡ length w
  pub joined : T (leaves 0 p)
  pub terminal : T (ends_terminal g p)
  pub antecedents : T (antecedents_true σ p w)

-- in the last of these cycles a rule was at stake: "a cycle counts exactly when some setting and some path"
-- are such
pub record Checked (g : Graph) (cycles : List Cycle) : Type 0 where
  pub setting : Setting
  pub a-bit-each : length setting ≡ constant_bits g
  pub path : List Edge
  pub checks : CheckingPath g setting (since_init cycles) path

-- ---- the same, computed: every setting and every list of as many edges as cycles is tried
unfoldable pub rejects_along : Graph → Setting → List Cycle → List Edge → Bool
rejects_along g σ w p = leaves 0 p && (ends_terminal g p && (antecedents_true σ p w && consequent_false σ p w))

unfoldable pub rejected_under : Graph → Setting → List Cycle → Bool
rejected_under g σ cs = any (rejects_along g σ (since_init cs)) (lists (length (since_init cs)) g.edges)

unfoldable pub is_rejected : Graph → List Cycle → Bool
is_rejected g cs = any (λ σ. rejected_under g σ cs) (lists (constant_bits g) (false ∷ true ∷ []))

unfoldable pub checks_along : Graph → Setting → List Cycle → List Edge → Bool
checks_along g σ w p = leaves 0 p && (ends_terminal g p && antecedents_true σ p w)

unfoldable pub checked_under : Graph → Setting → List Cycle → Bool
checked_under g σ cs = any (checks_along g σ (since_init cs)) (lists (length (since_init cs)) g.edges)

unfoldable pub is_checked : Graph → List Cycle → Bool
is_checked g cs = any (λ σ. checked_under g σ cs) (lists (constant_bits g) (false ∷ true ∷ []))

-- ---- counting
-- one byte a cycle, for the cycles cs that come after the cycles seen: 1 where the test passes on all cycles up to
-- and with that one, else 0
abbrev pub bytes_of : (List Cycle → Bool) → List Cycle → List Cycle → List ℕ
bytes_of test seen [] = []
bytes_of test seen (c ∷ cs) = cond (test (seen ++ (c ∷ []))) 1 0 ∷ bytes_of test (seen ++ (c ∷ [])) cs

-- 1 rejected or 0 accepted; a cycle counts once, however many rejecting paths it has
abbrev pub verdicts : Graph → List Cycle → List Cycle → List ℕ
verdicts g seen cs = bytes_of (is_rejected g) seen cs

abbrev pub sum : List ℕ → ℕ
sum [] = 0
sum (x ∷ xs) = x + sum xs

-- how many of the cycles are rejected
unfoldable pub count_rejected : Graph → List Cycle → ℕ
count_rejected g cs = sum (verdicts g [] cs)

-- in how many of them a rule was at stake; here too a cycle counts once
unfoldable pub count_checked : Graph → List Cycle → ℕ
count_checked g cs = sum (bytes_of (is_checked g) [] cs)

-- ---- an edge is terminal for one of three reasons
pub data TerminalEdge (g : Graph) (e : Edge) : Type 0 where
  by_mode : g.mode ≡ Strong → TerminalEdge g e
  by_mark : e.marked ≡ true → TerminalEdge g e
  unmarked : g.mode ≡ Unsaid → ((f : Edge) → Memᴰ f g.edges → f.marked ≡ false) → TerminalEdge g e

-- ---- THE CLAIM on these definitions: the computed tests find a terminal edge, and a setting and a path of either
-- kind, exactly where there are some; a cycle that has some counts once; `since_init` goes back to the latest init;
-- and `==` holds exactly where the two names are alike in each bit
pub record PathsMean : Type 0 where
  pub terminal : (g : Graph) (e : Edge) → is_terminal g e ≡ true → TerminalEdge g e
  pub terminals : (g : Graph) (e : Edge) → TerminalEdge g e → is_terminal g e ≡ true
  pub found : (g : Graph) (cs : List Cycle) → is_rejected g cs ≡ true → Rejected g cs
  pub finds : (g : Graph) (cs : List Cycle) → Rejected g cs → is_rejected g cs ≡ true
  pub checked-found : (g : Graph) (cs : List Cycle) → is_checked g cs ≡ true → Checked g cs
  pub checked-finds : (g : Graph) (cs : List Cycle) → Checked g cs → is_checked g cs ≡ true
  -- each verdict byte is of all cycles up to and with its own; of no cycles none is counted; of one cycle more that one
  -- counts, and once, exactly where its test passes
  pub bytes : (g : Graph) (seen : List Cycle) (c : Cycle) (cs : List Cycle)
      → verdicts g seen (c ∷ cs) ≡ cond (is_rejected g (seen ++ (c ∷ []))) 1 0 ∷ verdicts g (seen ++ (c ∷ [])) cs
  pub none : (g : Graph) → (count_rejected g [] ≡ 0) × (count_checked g [] ≡ 0)
  pub rejected-more : (g : Graph) (cs : List Cycle) (c : Cycle) → count_rejected g (cs ++ (c ∷ [])) ≡ count_rejected g cs + cond (is_rejected g (cs ++ (c ∷ []))) 1 0
  pub checked-more : (g : Graph) (cs : List Cycle) (c : Cycle) → count_checked g (cs ++ (c ∷ [])) ≡ count_checked g cs + cond (is_checked g (cs ++ (c ∷ []))) 1 0
  pub latest : (cs : List Cycle) → any is_init cs ≡ true → Latest cs
  pub before-init : (cs : List Cycle) → any is_init cs ≡ false → since_init cs ≡ []
  pub signal_bit : (σ : Setting) (c : Cycle) (i n : ℕ) → bit_holds σ c (signals_from i) n ≡ holds σ c (signal (i + n))
  pub constant-bit : (σ : Setting) (c : Cycle) (j n : ℕ) → bit_holds σ c (constants_from j) n ≡ holds σ c (constant (j + n))
  pub each-bit : (σ : Setting) (c : Cycle) (a b : Run) (w : ℕ) → holds σ c (alike a b w) ≡ true → (n : ℕ) → n < w → bit_holds σ c a n ≡ bit_holds σ c b n
  pub alike-bits : (σ : Setting) (c : Cycle) (a b : Run) (w : ℕ) → ((n : ℕ) → n < w → bit_holds σ c a n ≡ bit_holds σ c b n) → holds σ c (alike a b w) ≡ true
