-- The pieces of the monitor over the arrays that the code holds. Assumes nothing.
use Rattle.std.specs.Prelude.{Option, Some, None, ℕ, zero, suc, ◌+◌, Bool, true, false, cond, List, [], ◌∷◌, ◌++◌, length, eqb}
use Rattle.netlist.specs.Literals.{literal_of}
use Rattle.netlist.specs.declared.literals.Literal.{Literal}
use Rattle.circuit.specs.Gates.{lit, inv, Gate, gate, Piece, or_of}
use Rattle.circuit.specs.Build.{Bits, init, or_from, or_all}

-- the masks of k latches; l is the variable of the first
abbrev pub mask_gates : ℕ → ℕ → List Gate
mask_gates l zero = []
mask_gates l (suc k) = gate (lit l) (literal_of init true) ∷ mask_gates (suc l) k

-- every second literal, k of them; n is the variable of the first
abbrev pub every_other : ℕ → ℕ → List ℕ
every_other n zero = []
every_other n (suc k) = lit n ∷ every_other (suc (suc n)) k

-- the literals whose key is v, in order
abbrev pub terms_of : ℕ → List ℕ → List ℕ → List ℕ
terms_of v [] ls = []
terms_of v (k ∷ ks) [] = []
terms_of v (k ∷ ks) (l ∷ ls) = cond (eqb k v) (l ∷ terms_of v ks ls) (terms_of v ks ls)

-- an OR chain that goes on behind the terms that make a literal, where there were any
abbrev pub or_on : Option Literal → ℕ → List ℕ → Piece
or_on (Some so) n ts = or_from n so.0 ts
or_on None n ts = or_all n ts

-- one term more
abbrev pub or_term : Option Literal → ℕ → ℕ → Piece
or_term (Some so) n t = or_of n so.0 t
or_term None n t = record { gates = []; out = t }

-- an OR chain in which init stands first, or does not
abbrev pub or_begun : Bool → ℕ → List ℕ → Piece
or_begun true n ts = or_from n (lit init) ts
or_begun false n ts = or_all n ts

-- the gates of a vertex: the keys are the vertices to which the edges go
unfoldable pub vertex_happy : ℕ → List ℕ → List ℕ → ℕ → Piece
vertex_happy n tos hs v = or_begun (eqb v 0) n (terms_of v tos hs)

unfoldable pub vertex_condemned : ℕ → List ℕ → List ℕ → ℕ → Piece
vertex_condemned n tos ds v = or_all n (terms_of v tos ds)

pub record Gathered : Type 0 where
  pub gates : List Gate
  pub happy : ℕ
  pub condemned : ℕ

unfoldable pub vertex_of : ℕ → List ℕ → List ℕ → List ℕ → ℕ → Gathered
vertex_of n tos hs ds v =
    let h = vertex_happy n tos hs v in
    let d = vertex_condemned (n + length h.gates) tos ds v in
    record { gates = h.gates ++ d.gates; happy = h.out; condemned = d.out }

pub record Gathers : Type 0 where
  pub gates : List Gate
  pub happy : List ℕ
  pub condemned : List ℕ

-- the vertices v, v + 1, .., k of them
abbrev pub vertices_of : ℕ → List ℕ → List ℕ → List ℕ → ℕ → ℕ → Gathers
vertices_of n tos hs ds v zero = record { gates = []; happy = []; condemned = [] }
vertices_of n tos hs ds v (suc k) =
    let g = vertex_of n tos hs ds v in
    let r = vertices_of (n + length g.gates) tos hs ds (suc v) k in
    record { gates = g.gates ++ r.gates; happy = g.happy ∷ r.happy; condemned = g.condemned ∷ r.condemned }

-- accept is the inverse of the OR chain over the terminal edges, whose key is 1
unfoldable pub accept_of : ℕ → List ℕ → List ℕ → Piece
accept_of n marks cs = let p = or_all n (terms_of 1 marks cs) in record { gates = p.gates; out = inv p.out }

-- alive of an edge, where its key is 1: one gate and its inverse; else none, and 0
unfoldable pub alive_of : Bool → ℕ → ℕ → ℕ → Piece
alive_of true n h d = or_of n d h
alive_of false n h d = record { gates = []; out = literal_of 0 false }

-- alive of edges, one after another; hs and ds are their literals
abbrev pub alives_of : ℕ → List ℕ → List ℕ → List ℕ → Bits
alives_of n [] hs ds = record { gates = []; outs = [] }
alives_of n (k ∷ ks) [] ds = record { gates = []; outs = [] }
alives_of n (k ∷ ks) (h ∷ hs) [] = record { gates = []; outs = [] }
alives_of n (k ∷ ks) (h ∷ hs) (d ∷ ds) =
    let p = alive_of (eqb k 1) n h d in
    let r = alives_of (n + length p.gates) ks hs ds in
    record { gates = p.gates ++ r.gates; outs = p.out ∷ r.outs }

-- checked: all of these, and then the OR chain over the terminal edges
unfoldable pub checked_of : ℕ → List ℕ → List ℕ → List ℕ → Piece
checked_of n marks hs ds =
    let a = alives_of n marks hs ds in
    let j = or_all (n + length a.gates) (terms_of 1 marks a.outs) in
    record { gates = a.gates ++ j.gates; out = j.out }

-- accept, and checked behind it where it is asked for
pub record Ends : Type 0 where
  pub gates : List Gate
  pub accept : ℕ
  pub second : Option ℕ

unfoldable pub ends_of : Bool → ℕ → List ℕ → List ℕ → List ℕ → Ends
ends_of true n marks hs ds =
    let a = accept_of n marks ds in
    let c = checked_of (n + length a.gates) marks hs ds in
    record { gates = a.gates ++ c.gates; accept = a.out; second = Some c.out }
ends_of false n marks hs ds = let a = accept_of n marks ds in record { gates = a.gates; accept = a.out; second = None }

abbrev pub happy_gates : ℕ → ℕ → ℕ → ℕ → List Gate
happy_gates m a c h = gate a h ∷ gate (lit m) c ∷ gate (lit m) (inv c) ∷ []

abbrev pub condemned_gates : ℕ → ℕ → ℕ → ℕ → List Gate
condemned_gates m q a d = gate a d ∷ gate (inv q) (inv (lit m)) ∷ []

-- the five gates of an edge
unfoldable pub tokens_of : ℕ → ℕ → ℕ → ℕ → ℕ → List Gate
tokens_of m a c h d = happy_gates m a c h ++ condemned_gates (m + 3) (lit (m + 2)) a d
