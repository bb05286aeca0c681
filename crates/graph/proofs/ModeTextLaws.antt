-- Laws of `M` lines in a text: the first line decides the mode, a later one is refused, and the other lines are
-- judged as without it. Assumes nothing.
use Rattle.graph.specs.declared.CheckedGraph.{CheckedGraph}
use Rattle.std.specs.Prelude.{is_some, Result, Ok, Err}
use Prim.Native.Nat.{ℕ, suc, ◌+◌, ◌≤◌, ◌<◌}
use mathlib.Core.Path.{◌≡◌, refl, sym, ap, subst, ◌∙◌}
use mathlib.Core.Bool.{Bool, true, false}
use mathlib.Core.List.{List, [], ◌∷◌, ◌++◌, append_assoc}
use native.Mathlib.Nat.{add-zero}
use native.Mathlib.Omega.{arith}
use borrow.Author.Tests.{lt-ltb, le-ltb}
use lib.Dec.{ltb, leb}
use lib.ListN.{length, get_or, drop, length-append}
use Rattle.text.specs.Quoted.{bytes}
use Rattle.formula.specs.Classes.{pick}
use Rattle.assertion.specs.Graph.{Bytes, Edge, Graph, signal_bits, constant_bits}
use Rattle.assertion.specs.declared.Mode.{Mode}
use Rattle.assertion.specs.declared.Mode.TheVariants.{Unsaid}
use Rattle.graph.specs.Pieces.{place_of, onto, split, look_up, look_up_name}
use Rattle.graph.specs.Records.{Record, shapeless, mode, signal, constant, vertex, edge, of_fields, record_of}
use Rattle.graph.specs.Reading.{Step, fault, went, mode_lines, add_mode, sized_name, add_signal, add_constant, add_vertex, edge_of, unless_faulty, judge_edge, add_edge, add, names_of, judged_formula, lower, refused, accepted, finished, read_lines, nothing, fault_number, refusal_of, graph_of}
use Rattle.graph.specs.Claims.{breaks}
use Rattle.text.specs.Lines.{StartsLine}
use Rattle.graph.specs.ModeClaims.{ModeWord, ModeLine, FirstLine, RefusedAfter}
use Rattle.graph.specs.ModeClaims.ModeWord.{terminal, strong}
use Rattle.text.specs.Lines.StartsLine.{first, next}
use Rattle.graph.specs.ModeClaims.FirstLine.{says, silent}
use Rattle.graph.specs.ModeClaims.RefusedAfter.{here, earlier}
use Rattle.graph.specs.Private.Steps.{records_of}
use Rattle.graph.specs.declared.Fault.{Fault}
use Rattle.graph.specs.declared.Fault.TheVariants.{WrongShape, WrongOrder, TooMany, NameRepeated, UnknownVertex}
use Rattle.graph.specs.Held.{answer_of, read_of}
use Rattle.graph.specs.declared.Cause.{Cause}
use Rattle.graph.specs.declared.Cause.TheVariants.{TextTooLong, FaultyLine}
use Rattle.graph.proofs.PieceLaws.{split-some}
use Rattle.graph.proofs.SplitLaws.{split-joined, split-whole, split-breaks, first_piece, whole-without}
use Rattle.graph.proofs.ModeLineLaws.{mode-from, mode_said, line_said, line-not, Line, good_or_bad}
use Rattle.graph.proofs.ModeLineLaws.Line.{good, bad}
use Rattle.graph.proofs.HeldLaws.{finished-some, plus_mode, plus_signal, plus_constant, plus_vertex, plus_edge}
use Rattle.graph.proofs.TextLaws.{read_some, read_next}

-- ---- a text of whole lines, and what follows it
-- its lines ls; a text that goes on after it has these lines and the others
pub record Lines (before : Bytes) : Type 0 where
  pub ls : List Bytes
  pub alone : split 10 before ≡ ls ++ ([] ∷ [])
  pub further : (rest : Bytes) → split 10 (before ++ rest) ≡ ls ++ split 10 rest
  pub count : length ls ≡ breaks before
  pub some : (before ≡ [] → ⊥) → 1 ≤ length ls

pub lines_of : (before : Bytes) → StartsLine before → Lines before
unfolding split
lines_of before (first e) = rw e (record { ls = []; alone = refl; further = λ rest. refl; count = refl; some = λ h. absurd (h refl) })
lines_of before (next lines e) =
    let n : length (split 10 before) ≡ suc (breaks before) = split-breaks before in
    let a : split 10 before ≡ split 10 lines ++ ([] ∷ []) = rw e (split-joined 10 lines []) in
    let l : length (split 10 before) ≡ length (split 10 lines) + 1 = rw a (length-append (split 10 lines) ([] ∷ [])) in
    let c : length (split 10 lines) ≡ breaks before = omega (arith, n, l) in
    record {
      ls = split 10 lines;
      alone = a;
      further = λ rest. rw (e, append_assoc lines (10 ∷ []) rest) (split-joined 10 lines rest);
      count = c;
      some = λ h. rw (split-breaks lines) (omega arith);
    }

-- ---- one record
-- a step that went on leads to a graph of which this holds
pub data Leads (P : Graph → Type 0) : Step → Type 0 where
  stopped : (f : Fault) → Leads P (fault f)
  led : (g : Graph) → P g → Leads P (went g)

leads_to : {P : Graph → Type 0} {g : Graph} → Leads P (went g) → P g
leads_to (led g h) = h

module _ {P : Graph → Type 0} where
  pick_leads : (t : Bool) {x y : Step} → Leads P x → Leads P y → Leads P (pick t x y)
  pick_leads true h k = h
  pick_leads false h k = k

  -- three tests
  tested : (a b c : Bool) (f1 f2 f3 : Fault) (g : Graph) → P g → Leads P (pick a (fault f1) (pick b (fault f2) (pick c (fault f3) (went g))))
  tested a b c f1 f2 f3 g h = pick_leads a (stopped f1) (pick_leads b (stopped f2) (pick_leads c (stopped f3) (led g h)))

  module _ (g : Graph) where
    signal_leads : (n : Bytes) (w : ℕ) → P (plus_signal g n w) → Leads P (add_signal g n w)
    unfolding add_signal
    signal_leads n w h = tested (ltb 0 (length g.constants + length g.vertices + length g.edges)) (ltb 63 (signal_bits g + w)) (is_some (look_up_name n (names_of g))) WrongOrder TooMany NameRepeated (plus_signal g n w) h

    constant_leads : (n : Bytes) (w : ℕ) → P (plus_constant g n w) → Leads P (add_constant g n w)
    unfolding add_constant
    constant_leads n w h = tested (ltb 0 (length g.vertices + length g.edges)) (ltb 6 (constant_bits g + w)) (is_some (look_up_name n (names_of g))) WrongOrder TooMany NameRepeated (plus_constant g n w) h

    vertex_leads : (n : Bytes) → P (plus_vertex g n) → Leads P (add_vertex g n)
    unfolding add_vertex
    vertex_leads n h = tested (ltb 0 (length g.edges)) (leb 64 (length g.vertices)) (is_some (look_up n g.vertices)) WrongOrder TooMany NameRepeated (plus_vertex g n) h

    fine_leads : (j : Result Unit Fault) (e : Edge) → P (plus_edge g e) → Leads P (unless_faulty j g e)
    unfolding unless_faulty
    fine_leads (Ok tt) e h = led (plus_edge g e) h
    fine_leads (Err k) e h = stopped k

    edge_leads : (f t : Bytes) (m : Bool) (a c : Bytes) → ((e : Edge) → P (plus_edge g e)) → Leads P (add_edge g f t m a c)
    unfolding add_edge judge_edge
    edge_leads f t m a c h =
        let e = edge_of g (place_of f g.vertices) (place_of t g.vertices) m a c in
        pick_leads (leb 128 (length g.edges)) (stopped TooMany)
        (pick_leads (is_some (look_up f g.vertices))
        (pick_leads (is_some (look_up t g.vertices)) (fine_leads (lower (judged_formula (names_of g) a) (judged_formula (names_of g) c)) e (h e)) (stopped UnknownVertex))
        (stopped UnknownVertex))

    mode_leads : (m : Mode) → P (plus_mode g m) → Leads P (add_mode g m)
    unfolding add_mode
    mode_leads m h =
        pick_leads (ltb 0 (mode_lines g.mode + length g.signals + length g.constants + length g.vertices + length g.edges)) (stopped WrongOrder) (led (plus_mode g m) h)

    record_leads : (r : Record) → ((m : Mode) → r ≡ mode m → Leads P (add_mode g m)) → ((n : Bytes) (w : ℕ) → P (plus_signal g n w)) → ((n : Bytes) (w : ℕ) → P (plus_constant g n w)) → ((n : Bytes) → P (plus_vertex g n)) → ((e : Edge) → P (plus_edge g e)) → Leads P (add g r)
    unfolding add
    record_leads shapeless h s c v e = stopped WrongShape
    record_leads (mode m) h s c v e = h m refl
    record_leads (signal n w) h s c v e = signal_leads n w (s n w)
    record_leads (constant n w) h s c v e = constant_leads n w (c n w)
    record_leads (vertex n) h s c v e = vertex_leads n (v n)
    record_leads (edge f t m a b) h s c v e = edge_leads f t m a b e

-- a line that was taken counts
pub line-counts : (g : Graph) (l : Bytes) {more : Graph} → add g (record_of l) ≡ went more → 1 ≤ records_of more
line-counts g l {more} e =
    leads_to
    (subst (Leads (λ x. 1 ≤ records_of x)) e
    (record_leads g (record_of l)
    (λ m k. mode_leads g m (let z = mode_said l k in omega arith))
    (λ n w. omega (arith, length-append g.signals (sized_name n w ∷ [])))
    (λ n w. omega (arith, length-append g.constants (sized_name n w ∷ [])))
    (λ n. omega (arith, length-append g.vertices (n ∷ [])))
    (λ x. omega (arith, length-append g.edges (x ∷ [])))))

-- a mode after any line
pub mode-refused : (g : Graph) (m : Mode) → 1 ≤ records_of g → add_mode g m ≡ fault WrongOrder
unfolding add_mode
mode-refused g m h =
    let n = mode_lines g.mode + length g.signals + length g.constants + length g.vertices + length g.edges in
    let l : 0 < n = omega arith in
    rw (lt-ltb 0 n l)

-- a line that is no mode, or comes after a line, keeps the mode
pub line_keeps : (g : Graph) (l : Bytes) {more : Graph} → ((m : Mode) → record_of l ≡ mode m → 1 ≤ records_of g) → add g (record_of l) ≡ went more → more.mode ≡ g.mode
line_keeps g l {more} h e =
    leads_to {P = λ x. x.mode ≡ g.mode} (subst (Leads (λ x. x.mode ≡ g.mode)) e (record_leads g (record_of l) (λ m k. subst (Leads (λ x. x.mode ≡ g.mode)) (sym (mode-refused g m (h m k))) (stopped WrongOrder)) (λ n w. refl) (λ n w. refl) (λ n. refl) (λ x. refl)))

-- ---- the lines read one after the other
-- lines before others, whichever follow: one of them is refused, or the others are read after them
pub data Prefix (g : Graph) (n : ℕ) (ls : List Bytes) : Type 0 where
  stops : (f : Fault) (m : ℕ) → m < n + length ls → ((rest : List Bytes) → (rest ≡ [] → ⊥) → read_lines g n (ls ++ rest) ≡ refused (FaultyLine f m)) → Prefix g n ls
  goes : (more : Graph) → ((rest : List Bytes) → (rest ≡ [] → ⊥) → read_lines g n (ls ++ rest) ≡ read_lines more (n + length ls) rest) → (1 ≤ records_of g + length ls → 1 ≤ records_of more) → Prefix g n ls

pub joined-some : (ls rest : List Bytes) → (rest ≡ [] → ⊥) → (ls ++ rest ≡ [] → ⊥)
joined-some [] rest h e = h e
joined-some (l ∷ ls) rest h e = let z : ◌≡◌ {A = ℕ} 0 1 = cc in omega arith

pub prefix : (g : Graph) (n : ℕ) (ls : List Bytes) → Prefix g n ls
prefix g n [] = goes g (λ rest h. rw (add-zero n)) (λ k. omega arith)
prefix g n (l ∷ ls) = by (add g (record_of l)) refl (λ more. prefix more (n + 1) ls)
  where
    next_of : (more : Graph) → add g (record_of l) ≡ went more → Prefix more (n + 1) ls → Prefix g n (l ∷ ls)
    next_of more e (stops f m s a) = stops f m (omega (arith, s)) (λ rest h. read_next g n l (ls ++ rest) (joined-some ls rest h) e ∙ a rest h)
    next_of more e (goes last a c) =
        let z : n + 1 + length ls ≡ n + suc (length ls) = omega arith in
        goes last (λ rest h. read_next g n l (ls ++ rest) (joined-some ls rest h) e ∙ a rest h ∙ ap (λ (k : ℕ). read_lines last k rest) z) (λ k. let s = line-counts g l e in c (omega arith))

    by : (s : Step) → add g (record_of l) ≡ s → ((more : Graph) → Prefix more (n + 1) ls) → Prefix g n (l ∷ ls)
    by (fault f) e ih = stops f n (omega arith) (λ rest h. read_some g n l (ls ++ rest) (joined-some ls rest h) e)
    by (went more) e ih = next_of more e (ih more)

ended-mode : (g : Graph) {last : Graph} → finished g ≡ accepted last → last.mode ≡ g.mode
ended-mode g e = sym (ap (λ (x : Graph). x.mode) (finished-some g e).0)

-- ---- the lines after the first keep the mode
lines_keep : (g : Graph) (n : ℕ) (ls : List Bytes) {last : Graph} → 1 ≤ records_of g → read_lines g n ls ≡ accepted last → last.mode ≡ g.mode
unfolding read_lines
lines_keep g n [] h e = ended-mode g e
lines_keep g n ([] ∷ []) h e = ended-mode g e
lines_keep g n ((b ∷ bs) ∷ []) h e = let z : ◌≡◌ {A = ℕ} 0 1 = cc in absurd (omega arith)
lines_keep g n (l ∷ x ∷ ls) {last} h e = by (add g (record_of l)) refl e (λ more k w. lines_keep more (n + 1) (x ∷ ls) k w)
  where
    by : (s : Step) → add g (record_of l) ≡ s → elim s [ fault f ↦ refused (FaultyLine f n) | went more ↦ read_lines more (n + 1) (x ∷ ls) ] ≡ accepted last → ((more : Graph) → 1 ≤ records_of more → read_lines more (n + 1) (x ∷ ls) ≡ accepted last → last.mode ≡ more.mode) → last.mode ≡ g.mode
    by (fault f) a k ih = let z : ◌≡◌ {A = ℕ} 0 1 = cc in absurd (omega arith)
    by (went more) a k ih = ih more (line-counts g l a) k ∙ line_keeps g l (λ m w. h) a

-- ---- a text and its first line
pub short-lines : (text : Bytes) → length text ≤ 32768 → graph_of text ≡ read_lines nothing 1 (split 10 text)
unfolding graph_of
short-lines text h = rw (le-ltb 32768 (length text) h)

pub accepted-lines : (text : Bytes) {last : Graph} → graph_of text ≡ accepted last → read_lines nothing 1 (split 10 text) ≡ accepted last
unfolding graph_of
accepted-lines text {last} e = by (ltb 32768 (length text)) e
  where
    by : (t : Bool) → pick t (refused TextTooLong) (read_lines nothing 1 (split 10 text)) ≡ accepted last → read_lines nothing 1 (split 10 text) ≡ accepted last
    by true k = let z : ◌≡◌ {A = ℕ} 0 1 = cc in absurd (omega arith)
    by false k = k

-- an `M` line, and the lines of a text that it begins
word_line : (word : Bytes) → ((left right : Bytes) → word ≡ left ++ (10 ∷ right) → ⊥) → (left right : Bytes) → ◌≡◌ {A = Bytes} (77 ∷ 9 ∷ word) (left ++ (10 ∷ right)) → ⊥
word_line word h [] right e = let z : ◌≡◌ {A = ℕ} 77 10 = ap (λ (x : Bytes). get_or x 0 0) e in omega arith
word_line word h (a ∷ []) right e = let z : ◌≡◌ {A = ℕ} 9 10 = ap (λ (x : Bytes). get_or x 1 0) e in omega arith
word_line word h (a ∷ b ∷ left) right e = h left right (ap (drop 2) e)

pub mode_lines_lem : (word after : Bytes) → ((left right : Bytes) → word ≡ left ++ (10 ∷ right) → ⊥) → split 10 (77 ∷ 9 ∷ (word ++ (10 ∷ after))) ≡ (77 ∷ 9 ∷ word) ∷ split 10 after
mode_lines_lem word after h = split-joined 10 (77 ∷ 9 ∷ word) after ∙ ap (λ (l : List Bytes). l ++ split 10 after) (split-whole 10 (77 ∷ 9 ∷ word) (word_line word h))

pub word-plain : {word : Bytes} {m : Mode} → ModeWord word m → (left right : Bytes) → word ≡ left ++ (10 ∷ right) → ⊥
unfolding split onto
word-plain terminal left right e = whole-without 10 (bytes "terminal") refl left right e
word-plain strong left right e = whole-without 10 (bytes "strong") refl left right e

-- a first line that is a good record, but no mode
no_mode : (text l x : Bytes) (ls : List Bytes) → split 10 text ≡ l ∷ x ∷ ls → ((m : Mode) → record_of l ≡ mode m → ⊥) → (record_of l ≡ shapeless → ⊥) → FirstLine text Unsaid
no_mode text l x ls e h k = silent none
  where
    none : (word after : Bytes) → ModeLine text [] word after → ⊥
    none word after w = by (good_or_bad word)
      where
        same_line : 77 ∷ 9 ∷ word ≡ l
        same_line = ap (λ (q : List Bytes). get_or q 0 []) (sym (mode_lines_lem word after w.one_line) ∙ ap (split 10) (sym w.bytes) ∙ e)

        by : Line (77 ∷ 9 ∷ word) → ⊥
        by (good m q) = h m (rw (← same_line) q)
        by (bad q) = k (rw (← same_line) q)

-- what the first line says
pub data Kind (l : Bytes) : Type 0 where
  moding : (m : Mode) → record_of l ≡ mode m → Kind l
  shapeless-line : record_of l ≡ shapeless → Kind l
  plain : ((m : Mode) → record_of l ≡ mode m → ⊥) → (record_of l ≡ shapeless → ⊥) → Kind l

kind_of : (l : Bytes) (r : Record) → record_of l ≡ r → Kind l
kind_of l shapeless e = shapeless-line e
kind_of l (mode m) e = moding m e
kind_of l (signal n w) e = plain (λ m q. let z : ◌≡◌ {A = ℕ} 0 1 = cc in omega arith) (λ q. let z : ◌≡◌ {A = ℕ} 0 1 = cc in omega arith)
kind_of l (constant n w) e = plain (λ m q. let z : ◌≡◌ {A = ℕ} 0 1 = cc in omega arith) (λ q. let z : ◌≡◌ {A = ℕ} 0 1 = cc in omega arith)
kind_of l (vertex n) e = plain (λ m q. let z : ◌≡◌ {A = ℕ} 0 1 = cc in omega arith) (λ q. let z : ◌≡◌ {A = ℕ} 0 1 = cc in omega arith)
kind_of l (edge f t b a c) e = plain (λ m q. let z : ◌≡◌ {A = ℕ} 0 1 = cc in omega arith) (λ q. let z : ◌≡◌ {A = ℕ} 0 1 = cc in omega arith)

pub first-mode : (m : Mode) → add nothing (mode m) ≡ went (plus_mode nothing m)
unfolding add add_mode mode_lines
first-mode m = refl

first_says : (text l x : Bytes) (ls : List Bytes) → split 10 text ≡ l ∷ x ∷ ls → (more : Graph) → add nothing (record_of l) ≡ went more → Kind l → FirstLine text more.mode
unfolding add
first_says text l x ls e more w (shapeless-line k) =
    let a : add nothing (record_of l) ≡ fault WrongShape = ap (add nothing) k in
    let z : ◌≡◌ {A = ℕ} 0 1 = cc in
    absurd (omega arith)
first_says text l x ls e more w (moding m k) =
    let f = mode-from l k in
    let p = first_piece 10 text e in
    let a : add nothing (record_of l) ≡ went (plus_mode nothing m) = ap (add nothing) k ∙ first-mode m in
    let q : plus_mode nothing m ≡ more = cc in
    rw (← q)
    (says f.0 p.0 m f.2
    (record { bytes = p.1 ∙ ap (λ (y : Bytes). y ++ (10 ∷ p.0)) f.1; starts = first refl; one_line = word-plain f.2 }))
first_says text l x ls e more w (plain h k) = rw (line_keeps nothing l (λ m q. absurd (h m q)) w) (no_mode text l x ls e h k)

nothing_ends : {last : Graph} → finished nothing ≡ accepted last → ⊥
unfolding finished
nothing_ends h = let z : ◌≡◌ {A = ℕ} 0 1 = cc in omega arith

-- THE LAW of the first line
pub first_line_is : (text : Bytes) {last : Graph} → graph_of text ≡ accepted last → FirstLine text last.mode
unfolding read_lines
first_line_is text {last} e = by (split 10 text) refl (accepted-lines text e)
  where
    step : (l x : Bytes) (ls : List Bytes) → split 10 text ≡ l ∷ x ∷ ls → (s : Step) → add nothing (record_of l) ≡ s → elim s [ fault f ↦ refused (FaultyLine f 1) | went more ↦ read_lines more (1 + 1) (x ∷ ls) ] ≡ accepted last → FirstLine text last.mode
    step l x ls k (fault f) a h = let z : ◌≡◌ {A = ℕ} 0 1 = cc in absurd (omega arith)
    step l x ls k (went more) a h = rw (lines_keep more (1 + 1) (x ∷ ls) (line-counts nothing l a) h) (first_says text l x ls k more a (kind_of l (record_of l) refl))

    by : (ps : List Bytes) → split 10 text ≡ ps → read_lines nothing 1 ps ≡ accepted last → FirstLine text last.mode
    by [] k h = absurd (split-some 10 text k)
    by ([] ∷ []) k h = absurd (nothing_ends h)
    by ((b ∷ bs) ∷ []) k h = let z : ◌≡◌ {A = ℕ} 0 1 = cc in absurd (omega arith)
    by (l ∷ x ∷ ls) k h = step l x ls k (add nothing (record_of l)) refl h

-- ---- a line after others
pub refused-outcome : (text : Bytes) {cause : Cause} → graph_of text ≡ refused cause → {r : Result CheckedGraph Cause} → r ≡ read_of text → r ≡ Err cause
unfolding read_of answer_of
refused-outcome text h e = rw (e, h)

pub numbered : (f : Fault) {n m : ℕ} → n ≡ m → refusal_of (FaultyLine f n) ≡ record { number = fault_number f; line = m }
unfolding refusal_of
numbered f e = rw e

-- lines after whole lines: refused with this fault, unless what stands before them is
module _ {text before : Bytes} (rest : Bytes) (starts : StartsLine before) (bytes-are : text ≡ before ++ rest) (short : length text ≤ 32768) where
  abbrev its : Lines before
  its = lines_of before starts

  before-short : length before ≤ 32768
  before-short = omega (arith, ap length bytes-are, length-append before rest)

  pub read : graph_of text ≡ read_lines nothing 1 (its.ls ++ split 10 rest)
  read = short-lines text short ∙ ap (read_lines nothing 1) (ap (split 10) bytes-are ∙ its.further rest)

  pub rest-refused : (f : Fault) → ((more : Graph) (n : ℕ) → (1 ≤ length its.ls → 1 ≤ records_of more) → read_lines more n (split 10 rest) ≡ refused (FaultyLine f n)) → {r : Result CheckedGraph Cause} → r ≡ read_of text → RefusedAfter before (fault_number f) r
  rest-refused f h {r} e = by (prefix nothing 1 its.ls)
    where
      none : ◌≡◌ {A = List Bytes} ([] ∷ []) [] → ⊥
      none q = let z : ◌≡◌ {A = ℕ} 0 1 = cc in omega arith

      by : Prefix nothing 1 its.ls → RefusedAfter before (fault_number f) r
      by (stops k m s a) = earlier k m (omega (arith, s, its.count)) (short-lines before before-short ∙ ap (read_lines nothing 1) its.alone ∙ a ([] ∷ []) none) (refused-outcome text (read ∙ a (split 10 rest) (split-some 10 rest)) e)
      by (goes more a c) =
          let n : 1 + length its.ls ≡ breaks before + 1 = omega (arith, its.count) in
          here (FaultyLine f (1 + length its.ls)) (refused-outcome text (read ∙ a (split 10 rest) (split-some 10 rest) ∙ h more (1 + length its.ls) (λ k. c (omega arith))) e) (numbered f n)

pub mode_again : {text before word after : Bytes} {m : Mode} → ModeLine text before word after → ModeWord word m → (before ≡ [] → ⊥) → length text ≤ 32768 → {r : Result CheckedGraph Cause} → r ≡ read_of text → RefusedAfter before 3 r
unfolding add fault_number
mode_again {before = before} {word = word} {after = after} {m = m} w q some short e =
    rest-refused (77 ∷ 9 ∷ (word ++ (10 ∷ after))) w.starts w.bytes short WrongOrder
    (λ more n k. rw (mode_lines_lem word after w.one_line)
    (read_some more n (77 ∷ 9 ∷ word) (split 10 after) (split-some 10 after) (ap (add more) (line_said q) ∙ mode-refused more m (k ((lines_of before w.starts).some some)))))
    e

pub word-wrong : {text before word after : Bytes} → ModeLine text before word after → ((m : Mode) → ModeWord word m → ⊥) → length text ≤ 32768 → {r : Result CheckedGraph Cause} → r ≡ read_of text → RefusedAfter before 2 r
unfolding add fault_number
word-wrong {word = word} {after = after} w q short e =
    rest-refused (77 ∷ 9 ∷ (word ++ (10 ∷ after))) w.starts w.bytes short WrongShape
    (λ more n k. rw (mode_lines_lem word after w.one_line) (read_some more n (77 ∷ 9 ∷ word) (split 10 after) (split-some 10 after) (ap (add more) (line-not word q))))
    e

pub word-missing : {text before : Bytes} (after : Bytes) → StartsLine before → text ≡ before ++ (77 ∷ 10 ∷ after) → length text ≤ 32768 → {r : Result CheckedGraph Cause} → r ≡ read_of text → RefusedAfter before 2 r
unfolding add fault_number record_of of_fields split onto
word-missing after starts b short e =
    rest-refused (77 ∷ 10 ∷ after) starts b short WrongShape (λ more n k. read_some more n (77 ∷ []) (split 10 after) (split-some 10 after) refl) e

lf_refused : (more : Graph) (n : ℕ) (rest : Bytes) → split 10 (77 ∷ rest) ≡ (77 ∷ rest) ∷ [] → read_lines more n (split 10 (77 ∷ rest)) ≡ refused (FaultyLine WrongShape n)
unfolding read_lines
lf_refused more n rest e = rw e

pub lf_missing : {text before : Bytes} (rest : Bytes) → StartsLine before → text ≡ before ++ (77 ∷ rest) → ((left right : Bytes) → rest ≡ left ++ (10 ∷ right) → ⊥) → length text ≤ 32768 → {r : Result CheckedGraph Cause} → r ≡ read_of text → RefusedAfter before 2 r
unfolding fault_number
lf_missing rest starts b without short e =
    rest-refused (77 ∷ rest) starts b short WrongShape (λ more n k. lf_refused more n rest (split-whole 10 (77 ∷ rest) none)) e
  where
    none : (left right : Bytes) → ◌≡◌ {A = Bytes} (77 ∷ rest) (left ++ (10 ∷ right)) → ⊥
    none [] right q = let z : ◌≡◌ {A = ℕ} 77 10 = ap (λ (x : Bytes). get_or x 0 0) q in omega arith
    none (a ∷ left) right q = without left right (ap (drop 1) q)
