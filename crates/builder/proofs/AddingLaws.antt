-- Gates stored one after another are stored as one list; a loop that stores them: all are left, some are
-- stored, none is left. Assumes nothing.
use mathlib.Core.Path.{◌≡◌, refl, ap, ◌∙◌}
use mathlib.Core.List.{List, [], ◌∷◌, ◌++◌}
use Prim.Native.Nat.{ℕ, ◌+◌, ◌-◌, ◌*◌, ◌≤◌}
use native.Mathlib.Omega.{arith}
use lib.ListN.{length, length-append}
use lib.Seq.{sets, length-sets}
use Rattle.text.proofs.WriterLaws.{sets-append}
use Rattle.circuit.specs.Gates.{Gate}
use Rattle.circuit.specs.Numbers.{operands}
use Rattle.builder.specs.Private.Adding.{Added, Room, Going, Splits}
use Rattle.builder.specs.declared.gates.Gates.{Gates}

pub words-length : (xs : List Gate) → length (operands xs) ≡ 2 * length xs
words-length [] = refl
words-length (x ∷ xs) = omega (arith, words-length xs)

pub words_append : (xs ys : List Gate) → operands (xs ++ ys) ≡ operands xs ++ operands ys
words_append [] ys = refl
words_append (x ∷ xs) ys = ap (λ (l : List ℕ). x.left ∷ x.right ∷ l) (words_append xs ys)

-- stored in two runs
two_runs : (f : ℕ) (l : List ℕ) (n k : ℕ) (s t : List Gate) → f ≤ n → k ≡ n + length s → sets (sets l (2 * (n - f)) (operands s)) (2 * (k - f)) (operands t) ≡ sets l (2 * (n - f)) (operands (s ++ t))
two_runs f l n k s t h e =
    let p : 2 * (k - f) ≡ 2 * (n - f) + length (operands s) = omega (arith, words-length s) in
    rw (p, words_append) (sets-append (operands s) (operands t) l (2 * (n - f)))

-- THE COMPOSITION LAW
pub then : {s t u : Gates} {a b : List Gate} → Added s t a → Added t u b → Added s u (a ++ b)
then {s} {t} {u} {a} {b} p q =
    record {
      first = q.first ∙ p.first;
      from = p.from;
      count = rw length-append (omega (arith, p.count, q.count));
      words = q.words ∙ rw (p.words, p.first) (two_runs s.first.0 s.out.now s.next.0 t.next.0 a b p.from p.count);
    }

pub none : (s : Gates) → s.first.0 ≤ s.next.0 → Added s s []
none s h = record { first = refl; from = h; count = omega arith; words = refl }

-- ---- a loop that writes gates: all are left, some are stored, none is left

pub begin : (s : Gates) (whole : List Gate) → s.first.0 ≤ s.next.0 → Going s s whole whole
begin s whole h = record { first = refl; from = h; on = h; count = refl; words = refl }

pub go : {s t u : Gates} {whole rest now later : List Gate} → Going s t whole rest → Splits rest now later → Added t u now → Going s u whole later
go {s} {t} {u} {whole} {rest} {now} {later} o e p =
    record {
      first = p.first ∙ o.first;
      from = o.from;
      on = omega (arith, p.from, p.count, o.first);
      count = omega (arith, p.count, o.count, ap length e.is, length-append now later);
      words = rw (p.words, o.first) (two_runs s.first.0 t.out.now t.next.0 u.next.0 now later o.on p.count) ∙ rw e.is at o.words;
    }

pub done : {s t : Gates} {whole rest : List Gate} → Going s t whole rest → rest ≡ [] → Added s t whole
done {s} {t} {whole} {rest} o e = record { first = o.first; from = o.from; count = omega (arith, o.count, ap length e); words = rw e at o.words }

-- what is left has room
pub going_room : {s t : Gates} {whole rest now later : List Gate} → Going s t whole rest → Splits rest now later → Room s (length whole) → Room t (length now)
going_room {s} {t} {whole} {rest} {now} {later} o e r =
    let h : length rest ≡ length now + length later = ap length e.is ∙ length-append now later in
    record {
      from = omega (arith, o.on, o.first);
      few = omega (arith, o.count, r.few, h);
    }

-- the buffer keeps its length
pub kept : {s t : Gates} {a : List Gate} → Added s t a → length t.out.now ≡ length s.out.now
kept {s} {t} {a} p = ap length p.words ∙ length-sets s.out.now (2 * (s.next.0 - s.first.0)) (operands a)

-- ---- room for gates in two parts, for the first and then for the second

pub room-first : {s : Gates} {all now later : List Gate} → Splits all now later → Room s (length all) → Room s (length now)
room-first {s} {all} {now} {later} e r =
    let h : length all ≡ length now + length later = ap length e.is ∙ length-append now later in
    record { from = r.from; few = omega (arith, r.few, h) }

pub room-second : {s t : Gates} {all now later : List Gate} → Splits all now later → Room s (length all) → Added s t now → Room t (length later)
room-second {s} {t} {all} {now} {later} e r p =
    let h : length all ≡ length now + length later = ap length e.is ∙ length-append now later in
    record {
      from = omega (arith, r.from, p.count, p.first);
      few = omega (arith, r.few, p.count, h);
    }

pub whole_of : {s t u : Gates} {all now later : List Gate} → Splits all now later → Added s t now → Added t u later → Added s u all
whole_of e p q = rw e.is (then p q)
