-- The lines of signals and constants, and their words. Assumes nothing.
use Prim.Native.Nat.{ℕ, zero, suc, ◌+◌, ◌-◌, ◌≤◌, ◌<◌}
use mathlib.Core.Path.{◌≡◌, refl, sym, ap, ◌∙◌}
use mathlib.Core.List.{List, [], ◌∷◌, ◌++◌, append_assoc}
use native.Mathlib.Nat.{add-zero}
use native.Mathlib.Numerals.{add-one}
use native.Mathlib.Omega.{arith}
use native.Mathlib.Decide.{dec_lt}
use lib.ListN.{length, get_or, take, drop, replicate, length-append, take-append-drop, get_or-append}
use lib.Seq.{drop-drop, drop-cons, length-take-le, take_all}
use Rattle.assertion.specs.Graph.{Bytes, Name, bits_of}
use Rattle.graph.specs.Pieces.{split, up_to, end_at, piece_at}
use Rattle.graph.specs.Reading.{mode_lines}
use Rattle.graph.specs.Meaning.{IsWidth, EachWidth}
use Rattle.graph.specs.Held.{line_start, line_of, field_at, symbol_word, symbols_of, filled}
use Rattle.graph.specs.Claims.{breaks, widths_of, SymbolAt}
use Rattle.graph.specs.declared.CheckedGraph.{CheckedGraph}
use Rattle.graph.proofs.BreakLaws.{line-inside, breaks-from}
use Rattle.graph.proofs.EdgeLineLaws.{starts-line}
use Rattle.graph.proofs.FieldLaws.{SymbolFields, end_byte}
use Rattle.graph.proofs.ArrayLaws.{symbol_at, symbols-length, symbols-first}
use Rattle.graph.proofs.BitLaws.{bits-append}

-- ---- names on their lines: those from line n on, of which the first m are signals
abbrev pub kind_at : ℕ → ℕ → ℕ
kind_at zero i = 75
kind_at (suc m) zero = 83
kind_at (suc m) (suc i) = kind_at m i

abbrev pub SymbolLines : Bytes → ℕ → ℕ → List Name → Type 0
SymbolLines text n m [] = Unit {0}
SymbolLines text n m (x ∷ xs) = SymbolFields (line_of text n) (kind_at m 0) x.name x.width × SymbolLines text (n + 1) (m - 1) xs

kind_signal : (m i : ℕ) → i < m → kind_at m i ≡ 83
kind_signal zero i h = absurd (omega arith)
kind_signal (suc m) zero h = refl
kind_signal (suc m) (suc i) h = kind_signal m i (omega arith)

kind-constant : (m i : ℕ) → m ≤ i → kind_at m i ≡ 75
kind-constant zero i h = refl
kind-constant (suc m) zero h = absurd (omega arith)
kind-constant (suc m) (suc i) h = kind-constant m i (omega arith)

kind-next : (m i : ℕ) → kind_at (m - 1) i ≡ kind_at m (suc i)
kind-next zero i = refl
kind-next (suc m) i = let z : suc m - 1 ≡ m = omega arith in rw z

module _ (text : Bytes) where
  -- one more, of the kind that is due
  lines_more : (n m : ℕ) (xs : List Name) (x : Name) → SymbolLines text n m xs → SymbolFields (line_of text (n + length xs)) (kind_at m (length xs)) x.name x.width → SymbolLines text n m (xs ++ (x ∷ []))
  lines_more n m [] x h k = (rw (add-zero n) at k, tt)
  lines_more n m (y ∷ xs) x h k =
      let z : n + suc (length xs) ≡ n + 1 + length xs = omega arith in
      (h.0, lines_more (n + 1) (m - 1) xs x h.1 (rw (z, ← kind-next m (length xs)) at k))

  -- the same names, of which more are signals than there are
  lines_raised : (n m k : ℕ) (xs : List Name) → length xs ≤ m → length xs ≤ k → SymbolLines text n m xs → SymbolLines text n k xs
  lines_raised n m k [] h l s = tt
  lines_raised n m k (x ∷ xs) h l s =
      let a : kind_at m 0 ≡ kind_at k 0 = kind_signal m 0 (omega arith) ∙ sym (kind_signal k 0 (omega arith)) in
      (rw a at s.0, lines_raised (n + 1) (m - 1) (k - 1) xs (omega arith) (omega arith) s.1)

  pub signal_lines : (n : ℕ) (xs : List Name) (x : Name) → SymbolLines text n (length xs) xs → SymbolFields (line_of text (n + length xs)) 83 x.name x.width → SymbolLines text n (length (xs ++ (x ∷ []))) (xs ++ (x ∷ []))
  signal_lines n xs x h k =
      let l = length-append xs (x ∷ []) in
      lines_more n (length (xs ++ (x ∷ []))) xs x (lines_raised n (length xs) (length (xs ++ (x ∷ []))) xs (omega arith) (omega (arith, l)) h) (rw (kind_signal (length (xs ++ (x ∷ []))) (length xs) (omega (arith, l))) k)

  pub constant-lines : (n m : ℕ) (xs : List Name) (x : Name) → m ≤ length xs → SymbolLines text n m xs → SymbolFields (line_of text (n + length xs)) 75 x.name x.width → SymbolLines text n m (xs ++ (x ∷ []))
  constant-lines n m xs x h s k = lines_more n m xs x s (rw (kind-constant m (length xs) h) k)

  lines_at : (n m : ℕ) (xs : List Name) (i : ℕ) (d : Name) → SymbolLines text n m xs → i < length xs → SymbolFields (line_of text (n + i)) (kind_at m i) (get_or xs i d).name (get_or xs i d).width
  lines_at n m [] i d h l = absurd (omega arith)
  lines_at n m (x ∷ xs) zero d h l = rw (add-zero n) h.0
  lines_at n m (x ∷ xs) (suc i) d h l =
      let z : n + 1 + i ≡ n + suc i = omega arith in
      rw (← z, ← kind-next m i) (lines_at (n + 1) (m - 1) xs i d h.1 (omega arith))

  -- ---- their words
  symbols-at : (n p : ℕ) (xs : List Name) (i : ℕ) (d : Name) → i < length xs → get_or (symbols_of text n p xs) i 0 ≡ symbol_at text (n + i) (p + bits_of (take i xs)) (get_or xs i d).width
  unfolding symbols_of bits_of
  symbols-at n p [] i d l = absurd (omega arith)
  symbols-at n p (x ∷ xs) zero d l = rw (add-zero n, add-zero p)
  symbols-at n p (x ∷ xs) (suc i) d l =
      let z : n + 1 + i ≡ n + suc i = omega arith in
      let y : p + x.width + bits_of (take i xs) ≡ p + (x.width + bits_of (take i xs)) = omega arith in
      rw (← z, ← y) (symbols-at (n + 1) (p + x.width) xs i d (omega arith))

  widths-are : (n p : ℕ) (xs : List Name) (i : ℕ) → EachWidth xs → widths_of (take i (symbols_of text n p xs)) ≡ bits_of (take i xs)
  unfolding symbols_of bits_of symbol_word
  widths-are n p [] zero w = refl
  widths-are n p [] (suc i) w = refl
  widths-are n p (x ∷ xs) zero w = refl
  widths-are n p (x ∷ xs) (suc i) w =
      omega (arith, widths-are (n + 1) (p + x.width) xs i w.1, w.0.most)

each_at : (xs : List Name) (i : ℕ) (d : Name) → EachWidth xs → i < length xs → IsWidth (get_or xs i d).width
each_at [] i d h l = absurd (omega arith)
each_at (x ∷ xs) zero d h l = h.0
each_at (x ∷ xs) (suc i) d h l = each_at xs i d h.1 (omega arith)

-- the bits before a name of a list that another follows
bits_in_lem : (ss cs : List Name) (i : ℕ) (d : Name) → i < length ss → bits_of (take i (ss ++ cs)) + (get_or (ss ++ cs) i d).width ≤ bits_of ss
unfolding bits_of
bits_in_lem [] cs i d h = absurd (omega arith)
bits_in_lem (x ∷ ss) cs zero d h = omega arith
bits_in_lem (x ∷ ss) cs (suc i) d h = omega (arith, bits_in_lem ss cs i d (omega arith))

bits-past : (ss cs : List Name) (i : ℕ) → length ss ≤ i → bits_of ss ≤ bits_of (take i (ss ++ cs))
unfolding bits_of
bits-past [] cs i h = omega arith
bits-past (x ∷ ss) cs zero h = absurd (omega arith)
bits-past (x ∷ ss) cs (suc i) h = omega (arith, bits-past ss cs i (omega arith))

-- ---- arrays
take_within : {A : Type 0} (xs ys : List A) (i : ℕ) → i ≤ length xs → take i (xs ++ ys) ≡ take i xs
take_within xs ys zero h = refl
take_within [] ys (suc i) h = absurd (omega arith)
take_within (x ∷ xs) ys (suc i) h = ap (◌∷◌ x) (take_within xs ys i (omega arith))

-- ---- a line within its text
breaks-append : (x y : Bytes) → breaks (x ++ y) ≡ breaks x + breaks y
breaks-append [] y = omega arith
breaks-append (b ∷ x) y = omega (arith, breaks-append x y)

line_between : (text : Bytes) (n : ℕ) → line_start text (suc n) ≤ length text → text ≡ take (line_start text n) text ++ (line_of text n ++ (10 ∷ drop (line_start text (suc n)) text))
unfolding line_start line_of piece_at end_at
line_between text n h =
    let at = line_start text n in
    let u = up_to 10 (drop at text) in
    let l : at + u < length text = omega arith in
    sym (take-append-drop at text)
    ∙ ap (λ (x : Bytes). take at text ++ x)
    (sym (take-append-drop u (drop at text))
    ∙ ap (λ (x : Bytes). take u (drop at text) ++ x) (drop-drop u at text ∙ drop-cons text (at + u) 0 l ∙ ap (λ (b : ℕ). b ∷ drop (suc (at + u)) text) (end_byte 10 text at l) ∙ rw (← add-one (at + u))))

-- ---- one name of all
module _ (text : Bytes) (lines : ℕ) (inside : line_start text lines ≤ length text) (over : split 10 (drop (line_start text lines) text) ≡ [] ∷ []) where
  pub every-line : 0 < lines → breaks text ≡ lines
  unfolding line_start
  every-line h = let b : breaks (drop (line_start text 0 + 0) text) ≡ lines - 0 = breaks-from text lines inside over 0 0 h (omega arith) in omega (arith, b)

  before-breaks : (n : ℕ) → n < lines → breaks (take (line_start text n) text) ≡ n
  unfolding line_start
  before-breaks n h =
      let at = line_start text n in
      let a : breaks (drop (at + 0) text) ≡ lines - n = breaks-from text lines inside over n 0 h (omega arith) in
      let b : breaks (drop (line_start text 0 + 0) text) ≡ lines - 0 = breaks-from text lines inside over 0 0 (omega arith) (omega arith) in
      let c : breaks (take at text ++ drop at text) ≡ breaks text = ap breaks (take-append-drop at text) in
      let z : at + 0 ≡ at = omega arith in
      omega (arith, rw z at a, b, c, breaks-append (take at text) (drop at text))

  module _ (ss cs : List Name) (wide : EachWidth (ss ++ cs)) (n : ℕ) (own : SymbolLines text n (length ss) (ss ++ cs)) (short : n + length (ss ++ cs) ≤ lines) (g : CheckedGraph) (start : mode_lines g.mode ≡ n) (bits : g.signals ≡ bits_of ss) (names : g.names ≡ filled 69 0 (symbols_of text n 0 (ss ++ cs))) (i : ℕ) (l : i < length (ss ++ cs)) where
    abbrev none : Name
    none = record { name = []; width = 0 }

    abbrev x : Name
    x = get_or (ss ++ cs) i none

    abbrev ys : List ℕ
    ys = symbols_of text n 0 (ss ++ cs)

    many : i < length ys
    many = rw (symbols-length text n 0 (ss ++ cs)) l

    place_is : widths_of (take i g.names) ≡ bits_of (take i (ss ++ cs))
    unfolding filled
    place_is = rw (names, take_within ys (replicate (69 - length ys) 0) i (omega (arith, many))) (widths-are text n 0 (ss ++ cs) i wide)

    word-is : get_or g.names i 0 ≡ symbol_at text (n + i) (bits_of (take i (ss ++ cs))) x.width
    unfolding filled
    word-is = rw (names, get_or-append ys (replicate (69 - length ys) 0) 0 i many) (symbols-at text n 0 (ss ++ cs) i none l ∙ rw (zero-add (bits_of (take i (ss ++ cs)))))
      where
        zero-add : (k : ℕ) → 0 + k ≡ k
        zero-add k = omega arith

    fields : SymbolFields (line_of text (n + i)) (kind_at (length ss) i) x.name x.width
    fields = lines_at text n (length ss) (ss ++ cs) i none own l

    line-ends : line_start text (suc (n + i)) ≤ length text
    line-ends = line-inside text lines inside over (suc (n + i)) (omega arith)

    line-starts : line_start text (n + i) ≤ length text
    line-starts = line-inside text lines inside over (n + i) (omega arith)

    pub symbol-is : SymbolAt text g i
    unfolding field_at
    symbol-is =
        let at = line_start text (n + i) in
        let rest : Bytes = 10 ∷ drop (line_start text (suc (n + i))) text in
        let f = fields in
        let o = each_at (ss ++ cs) i none wide l in
        let b : length (take at text) ≡ at = length-take-le at text line-starts in
        record {
          kind = kind_at (length ss) i;
          before = take at text;
          name = x.name;
          field = f.field;
          after = drop (line_start text (suc (n + i))) text;
          width = x.width;
          bytes = line_between text (n + i) line-ends ∙ ap (λ (y : Bytes). take at text ++ (y ++ rest)) f.are ∙ ap (λ (y : Bytes). take at text ++ (kind_at (length ss) i ∷ 9 ∷ y)) (append_assoc x.name f.field rest);
          starts = starts-line text (n + i) line-starts;
          own_line = before-breaks (n + i) (omega arith) ∙ rw start;
          is_name = f.is_name;
          width_is = f.width;
          word = word-is ∙ rw (f.start, f.long, place_is, b);
          signal_kind = λ s. elim (dec_lt i (length ss)) [
            | yes k ↦ (kind_signal (length ss) i k, rw (place_is, bits) (bits_in_lem ss cs i none k))
            | no k ↦ absurd (omega (arith, bits-past ss cs i (omega arith), place_is, bits))
          ];
          constant-kind = λ s. elim (dec_lt i (length ss)) [
            | yes k ↦ absurd (omega (arith, bits_in_lem ss cs i none k, place_is, bits, o.some))
            | no k ↦ kind-constant (length ss) i (omega arith)
          ];
        }

-- the bits of all names
pub all-widths : (text : Bytes) (n : ℕ) (ss cs : List Name) → EachWidth (ss ++ cs) → {c : ℕ} → length (ss ++ cs) ≡ c → widths_of (take c (filled 69 0 (symbols_of text n 0 (ss ++ cs)))) ≡ bits_of ss + bits_of cs
all-widths text n ss cs wide {c} e =
    let ys = symbols_of text n 0 (ss ++ cs) in
    let t : take c (ss ++ cs) ≡ ss ++ cs = take_all c (ss ++ cs) (omega arith) in
    let u : take c (filled 69 0 ys) ≡ take c ys = symbols-first text n 0 (ss ++ cs) c e ∙ sym (take_all c ys (omega (arith, symbols-length text n 0 (ss ++ cs)))) in
    ap widths_of u ∙ widths-are text n 0 (ss ++ cs) c wide ∙ ap bits_of t ∙ bits-append ss cs
