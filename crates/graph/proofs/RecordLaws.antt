-- Laws of a line's record, for the code that goes by places. Assumes nothing.
use Rattle.std.specs.Prelude.{Some, None}
use Prim.Native.Nat.{ℕ, suc, ◌+◌, ◌-◌, ◌≤◌, ◌<◌}
use mathlib.Core.Path.{◌≡◌, refl, ap, ◌∙◌}
use mathlib.Core.Bool.{true, false}
use mathlib.Core.List.{List, [], ◌∷◌}
use native.Mathlib.Omega.{arith}
use native.Mathlib.Decide.{dec_lt}
use borrow.Author.Tests.{eq-eqb, ne_eqb}
use lib.ListN.{length, take, drop}
use lib.Seq.{length-take-le}
use Rattle.formula.specs.Classes.{is_name}
use Rattle.formula.proofs.NameLaws.{name-long}
use Rattle.text.specs.Quoted.{bytes}
use Rattle.assertion.specs.Graph.{Bytes}
use Rattle.assertion.specs.declared.Mode.TheVariants.{Terminal, Strong}
use Rattle.graph.specs.Pieces.{split, up_to, end_at, piece_at, same}
use Rattle.graph.specs.Records.{shapeless, moded, width_of, sized, named, marked, edged, of_fields, record_of}
use Rattle.graph.specs.Meaning.{IsWidth}
use Rattle.graph.specs.Held.{field_start, field_length}
use Rattle.graph.specs.Private.Steps.{viewed, NameOf}
use Rattle.graph.specs.declared.Shape.TheVariants.{Moded, Signal, Constant, Vertex, Edge}
use Rattle.graph.proofs.PieceLaws.{piece_take, split-cut, split-last, split_end, split-some, part-rest}
use Rattle.graph.proofs.EdgeLaws.{up_to-inside}

-- the word of an `M` line
module _ (line word : Bytes) where
  pub moded-terminal : same word (bytes "terminal") ≡ true → viewed line (Some (Moded Terminal)) ≡ moded word
  unfolding viewed moded
  moded-terminal s = rw s

  pub moded-strong : same word (bytes "terminal") ≡ false → same word (bytes "strong") ≡ true → viewed line (Some (Moded Strong)) ≡ moded word
  unfolding viewed moded
  moded-strong s t = rw (s, t)

  pub moded-not : same word (bytes "terminal") ≡ false → same word (bytes "strong") ≡ false → viewed line None ≡ moded word
  unfolding viewed moded
  moded-not s t = rw (s, t)

-- `S` or `K`, a name and its width
module _ (line : Bytes) (at n w : ℕ) {kind field : Bytes} (hk : kind ≡ piece_at 9 line 0) (hf : field ≡ take n (drop at line)) where
  pub sized-not : is_name field ≡ false → viewed line None ≡ sized (piece_at 9 line 0) (take n (drop at line)) w
  unfolding viewed sized
  sized-not e = rw (← hk, ← hf, e)

  module _ (e : is_name field ≡ true) where
    pub sized-zero : w ≡ 0 → viewed line None ≡ sized (piece_at 9 line 0) (take n (drop at line)) w
    unfolding viewed sized
    sized-zero z = rw (← hk, ← hf, e, eq-eqb w 0 z)

    module _ (some : w ≡ 0 → ⊥) where
      pub sized_signal : same kind (83 ∷ []) ≡ true → viewed line (Some (Signal at n w)) ≡ sized (piece_at 9 line 0) (take n (drop at line)) w
      unfolding viewed sized
      sized_signal s = rw (← hk, ← hf, e, ne_eqb w 0 some, s)

      pub sized-constant : same kind (83 ∷ []) ≡ false → same kind (75 ∷ []) ≡ true → viewed line (Some (Constant at n w)) ≡ sized (piece_at 9 line 0) (take n (drop at line)) w
      unfolding viewed sized
      sized-constant s k = rw (← hk, ← hf, e, ne_eqb w 0 some, s, k)

      pub sized-none : same kind (83 ∷ []) ≡ false → same kind (75 ∷ []) ≡ false → viewed line None ≡ sized (piece_at 9 line 0) (take n (drop at line)) w
      unfolding viewed sized
      sized-none s k = rw (← hk, ← hf, e, ne_eqb w 0 some, s, k)

pub width_fits : {w : ℕ} → (w ≡ 0 → ⊥) → w ≤ 16 → IsWidth w
width_fits h l = record { some = omega (arith, h); most = l }

-- a name has 15 bytes at most
pub name-short : (line : Bytes) (at n : ℕ) → NameOf line at n → {field : Bytes} → field ≡ take n (drop at line) → is_name field ≡ true → n ≤ 15
unfolding field_length
name-short line at n h {field} f e = by (dec_lt 15 n)
  where
    long : length field ≡ n
    long =
        let s = drop (field_start line 1) line in
        let l : n ≤ length s = omega (arith, h.1, up_to-inside 9 s) in
        rw (f, h.0.1) (length-take-le n s l)

    by : Dec (15 < n) → n ≤ 15
    by (yes l) = let k = name-long field (omega (arith, l, long)) in let z : ◌≡◌ {A = ℕ} 0 1 = cc in absurd (omega arith)
    by (no l) = omega arith

module _ (line : Bytes) (at : ℕ) {kind field : Bytes} (hk : kind ≡ piece_at 9 line 0) (hf : field ≡ drop at line) where
  pub named-mode : same kind (77 ∷ []) ≡ true → moded field ≡ named (piece_at 9 line 0) (drop at line)
  unfolding named
  named-mode m = rw (← hk, ← hf, m)

  module _ (m : same kind (77 ∷ []) ≡ false) where
    pub named-vertex : same kind (86 ∷ []) ≡ true → is_name field ≡ true → viewed line (Some (Vertex at)) ≡ named (piece_at 9 line 0) (drop at line)
    unfolding viewed named
    named-vertex v e = rw (← hk, ← hf, m, v, e)

    pub named-not : same kind (86 ∷ []) ≡ true → is_name field ≡ false → viewed line None ≡ named (piece_at 9 line 0) (drop at line)
    unfolding viewed named
    named-not v e = rw (← hk, ← hf, m, v, e)

-- no width
pub named-sized : (line : Bytes) (at : ℕ) {kind : Bytes} → kind ≡ piece_at 9 line 0 → at ≤ length line → same kind (77 ∷ []) ≡ false → same kind (86 ∷ []) ≡ false → sized (piece_at 9 line 0) (take (length line - at) (drop at line)) 1 ≡ named (piece_at 9 line 0) (drop at line)
unfolding named
named-sized line at hk l m v = rw (part-rest line at l, ← hk, m, v)

module _ (line : Bytes) (f t m a c : ℕ) {mark : Bytes} (hm : mark ≡ piece_at 9 line m) where
  pub marked-terminal : same mark (116 ∷ []) ≡ true → viewed line (Some (Edge f t true a c)) ≡ marked (piece_at 9 line f) (piece_at 9 line t) (piece_at 9 line m) (piece_at 9 line a) (piece_at 9 line c)
  unfolding viewed marked
  marked-terminal s = rw (← hm, s)

  pub marked_other : same mark (116 ∷ []) ≡ false → same mark (45 ∷ []) ≡ true → viewed line (Some (Edge f t false a c)) ≡ marked (piece_at 9 line f) (piece_at 9 line t) (piece_at 9 line m) (piece_at 9 line a) (piece_at 9 line c)
  unfolding viewed marked
  marked_other s u = rw (← hm, s, u)

  pub marked-not : same mark (116 ∷ []) ≡ false → same mark (45 ∷ []) ≡ false → viewed line None ≡ marked (piece_at 9 line f) (piece_at 9 line t) (piece_at 9 line m) (piece_at 9 line a) (piece_at 9 line c)
  unfolding viewed marked
  marked-not s u = rw (← hm, s, u)

module _ (line f t m a c : Bytes) {kind : Bytes} (hk : kind ≡ piece_at 9 line 0) where
  pub edged-kind : same kind (69 ∷ []) ≡ false → viewed line None ≡ edged (piece_at 9 line 0) f t m a c
  unfolding viewed edged
  edged-kind s = rw (← hk, s)

  module _ (s : same kind (69 ∷ []) ≡ true) {from : Bytes} (hf : from ≡ f) where
    pub edged-from : is_name from ≡ false → viewed line None ≡ edged (piece_at 9 line 0) f t m a c
    unfolding viewed edged
    edged-from n = rw (← hk, s, ← hf, n)

    module _ (n : is_name from ≡ true) {to : Bytes} (ht : to ≡ t) where
      pub edged-to : is_name to ≡ false → viewed line None ≡ edged (piece_at 9 line 0) f t m a c
      unfolding viewed edged
      edged-to u = rw (← hk, s, ← hf, n, ← ht, u)

      pub edged-all : is_name to ≡ true → marked f t m a c ≡ edged (piece_at 9 line 0) f t m a c
      unfolding edged
      edged-all u = rw (← hk, s, ← hf, n, ← ht, u)

-- seven fields or more
more : (k f t m a c : Bytes) (l : List Bytes) → (l ≡ [] → ⊥) → shapeless ≡ of_fields (k ∷ f ∷ t ∷ m ∷ a ∷ c ∷ l)
unfolding of_fields
more k f t m a c [] h = absurd (h refl)
more k f t m a c (x ∷ xs) h = refl

-- the start of field 1, and of the field after one
pub field-one : (line : Bytes) {e : ℕ} → e ≡ end_at 9 line 0 → e + 1 ≡ field_start line 1
unfolding field_start
field-one line n = rw n

pub field_next : (line : Bytes) (k : ℕ) {p e : ℕ} → p ≡ field_start line k → e ≡ end_at 9 line p → e + 1 ≡ field_start line (suc k)
unfolding field_start
field_next line k h n = rw (n, h)

-- how long a field is, by its end
pub field-long : (line : Bytes) (k : ℕ) {p e : ℕ} → p ≡ field_start line k → e ≡ end_at 9 line p → e - p ≡ field_length line k
unfolding field_length end_at
field-long line k {p} {e} h n =
    let u : e - p ≡ up_to 9 (drop p line) = omega (arith, n) in
    u ∙ ap (λ (q : ℕ). up_to 9 (drop q line)) h

-- where a field ends, as the code finds it
abbrev pub Cut : Bytes → ℕ → ℕ → Type 0
Cut line p e = (e ≡ end_at 9 line p) × (p ≤ e) × (e ≤ length line)

module _ (line : Bytes) {e0 : ℕ} (h0 : Cut line 0 e0) where
  pub fields_1 : e0 ≡ length line → viewed line None ≡ record_of line
  unfolding viewed record_of of_fields
  fields_1 z = rw (split-last 9 line 0 e0 h0.0 (omega arith))

  module _ (n0 : e0 ≡ length line → ⊥) {e1 : ℕ} (h1 : Cut line (e0 + 1) e1) where
    cut0 : split 9 line ≡ piece_at 9 line 0 ∷ split 9 (drop (e0 + 1) line)
    cut0 = split-cut 9 line 0 e0 h0.0 (omega arith)

    pub fields_2 : e1 ≡ length line → record_of line ≡ named (piece_at 9 line 0) (drop (e0 + 1) line)
    unfolding record_of of_fields
    fields_2 z = rw (cut0, split-last 9 line (e0 + 1) e1 h1.0 (omega arith))

    module _ (n1 : e1 ≡ length line → ⊥) {e2 : ℕ} (h2 : Cut line (e1 + 1) e2) where
      cut1 : split 9 line ≡ piece_at 9 line 0 ∷ piece_at 9 line (e0 + 1) ∷ split 9 (drop (e1 + 1) line)
      cut1 = cut0 ∙ ap (λ (l : List Bytes). piece_at 9 line 0 ∷ l) (split-cut 9 line (e0 + 1) e1 h1.0 (omega arith))

      pub fields_3 : e2 ≡ length line → {w : ℕ} → w ≡ width_of (take (length line - (e1 + 1)) (drop (e1 + 1) line)) → sized (piece_at 9 line 0) (take (e1 - (e0 + 1)) (drop (e0 + 1) line)) w ≡ record_of line
      unfolding record_of of_fields
      fields_3 z q = rw (cut1, split-last 9 line (e1 + 1) e2 h2.0 (omega arith), piece_take 9 line (e0 + 1) e1 h1.0, q, part-rest line (e1 + 1) (omega arith))

      module _ (n2 : e2 ≡ length line → ⊥) {e3 : ℕ} (h3 : Cut line (e2 + 1) e3) where
        cut2 : split 9 line ≡ piece_at 9 line 0 ∷ piece_at 9 line (e0 + 1) ∷ piece_at 9 line (e1 + 1) ∷ split 9 (drop (e2 + 1) line)
        cut2 = cut1 ∙ ap (λ (l : List Bytes). piece_at 9 line 0 ∷ piece_at 9 line (e0 + 1) ∷ l) (split-cut 9 line (e1 + 1) e2 h2.0 (omega arith))

        pub fields_4 : e3 ≡ length line → viewed line None ≡ record_of line
        unfolding viewed record_of of_fields
        fields_4 z = rw (cut2, split-last 9 line (e2 + 1) e3 h3.0 (omega arith))

        module _ (n3 : e3 ≡ length line → ⊥) {e4 : ℕ} (h4 : Cut line (e3 + 1) e4) where
          cut3 : split 9 line ≡ piece_at 9 line 0 ∷ piece_at 9 line (e0 + 1) ∷ piece_at 9 line (e1 + 1) ∷ piece_at 9 line (e2 + 1) ∷ split 9 (drop (e3 + 1) line)
          cut3 = cut2 ∙ ap (λ (l : List Bytes). piece_at 9 line 0 ∷ piece_at 9 line (e0 + 1) ∷ piece_at 9 line (e1 + 1) ∷ l) (split-cut 9 line (e2 + 1) e3 h3.0 (omega arith))

          pub fields_5 : e4 ≡ length line → viewed line None ≡ record_of line
          unfolding viewed record_of of_fields
          fields_5 z = rw (cut3, split-last 9 line (e3 + 1) e4 h4.0 (omega arith))

          module _ (n4 : e4 ≡ length line → ⊥) {e5 : ℕ} (h5 : Cut line (e4 + 1) e5) where
            cut4 : split 9 line ≡ piece_at 9 line 0 ∷ piece_at 9 line (e0 + 1) ∷ piece_at 9 line (e1 + 1) ∷ piece_at 9 line (e2 + 1) ∷ piece_at 9 line (e3 + 1) ∷ split 9 (drop (e4 + 1) line)
            cut4 = cut3 ∙ ap (λ (l : List Bytes). piece_at 9 line 0 ∷ piece_at 9 line (e0 + 1) ∷ piece_at 9 line (e1 + 1) ∷ piece_at 9 line (e2 + 1) ∷ l) (split-cut 9 line (e3 + 1) e4 h4.0 (omega arith))

            pub fields_6 : e5 ≡ length line → record_of line ≡ edged (piece_at 9 line 0) (piece_at 9 line (e0 + 1)) (piece_at 9 line (e1 + 1)) (piece_at 9 line (e2 + 1)) (piece_at 9 line (e3 + 1)) (piece_at 9 line (e4 + 1))
            unfolding record_of of_fields
            fields_6 z = rw (cut4, split_end 9 line (e4 + 1) e5 h5.0 (omega arith))

            pub fields_7 : (e5 ≡ length line → ⊥) → viewed line None ≡ record_of line
            unfolding viewed record_of of_fields
            fields_7 n5 =
                rw (cut4, split-cut 9 line (e4 + 1) e5 h5.0 (omega arith)) (more _ _ _ _ _ _ (split 9 (drop (e5 + 1) line)) (split-some 9 (drop (e5 + 1) line)))
