-- The readers' steps, as laws of the grammar: what one step of a reader stores and answers fits one step
-- of the grammar. Assumes nothing.
use mathlib.Core.Path.{◌≡◌, refl, ap, sym, subst, ◌∙◌}
use mathlib.Core.Bool.{Bool, true, false}
use mathlib.Core.List.{List, [], ◌∷◌, ◌++◌}
use Rattle.std.specs.Prelude.{Option, Some, None}
use Prim.Native.Nat.{ℕ, zero, suc, ◌+◌, ◌*◌, ◌-◌, ◌≤◌, ◌<◌, max}
use native.Mathlib.Omega.{arith}
use native.Mathlib.Decide.{dec_lt}
use lib.Dec.{eqb}
use lib.ListN.{length, get_or, drop, set, length-append, get_or-eq_default}
use lib.Seq.{sets}
use borrow.Author.Tests.{lt-ltb, le-ltb, eqb-true}
use Rattle.text.proofs.WriterLaws.{sets-append}
use Rattle.formula.proofs.Runs.{run_step}
use Rattle.formula.proofs.ByteLaws.{letter_word, start-name}
use Rattle.formula.specs.declared.Start.{Start}
use Rattle.formula.specs.declared.Start.TheVariants.{Not, Group, Bit, Name, Nothing}
use Rattle.formula.specs.declared.readers.Read.{Read}
use Rattle.formula.specs.Classes.{pick, class_of, strength_of, is_letter, start_of, run}
use Rattle.formula.specs.Grammar.{
  Tree,
  bit,
  not,
  group,
  join,
  Got,
  failed,
  got,
  and_then,
  name_of,
  closed,
  operand_of,
  expression_of,
  rest_of,
  depth_of,
}
use Rattle.formula.specs.Reading.{byte_word, postfix}
use Rattle.formula.specs.Private.Readers.{Bounds, RestBounds, deeper_of, beside_of, closed_of, counted_of, Reads}

-- One step of the grammar.

pub operand_not : (f : ℕ) (s : List ℕ) (at : ℕ) → start_of (get_or s at 0) ≡ Not →
    operand_of (suc f) s at ≡ and_then (operand_of f s (at + 1)) (λ e to. got (not e) to)
unfolding operand_of
operand_not f s at h = rw (h, operand_of)

pub operand_group : (f : ℕ) (s : List ℕ) (at : ℕ) → start_of (get_or s at 0) ≡ Group →
    operand_of (suc f) s at ≡ and_then (expression_of f s 0 (at + 1)) (closed s)
unfolding operand_of
operand_group f s at h = rw (h, operand_of)

pub operand_bit : (f : ℕ) (s : List ℕ) (at : ℕ) → start_of (get_or s at 0) ≡ Bit →
    operand_of (suc f) s at ≡ got (bit (get_or s at 0)) (at + 1)
unfolding operand_of
operand_bit f s at h = rw (h, operand_of)

pub operand_name : (f : ℕ) (s : List ℕ) (at : ℕ) → start_of (get_or s at 0) ≡ Name →
    operand_of (suc f) s at ≡ name_of s at (run (drop at s))
unfolding operand_of
operand_name f s at h = rw (h, operand_of)

pub operand_nothing : (f : ℕ) (s : List ℕ) (at : ℕ) → start_of (get_or s at 0) ≡ Nothing → operand_of f s at ≡ failed
unfolding operand_of
operand_nothing zero s at h = refl
operand_nothing (suc f) s at h = rw (h, operand_of)

pub rest_stops : (f : ℕ) (s : List ℕ) (k : ℕ) (e : Tree) (at : ℕ) → strength_of (get_or s at 0) ≤ k → rest_of f s k e at ≡ got e at
unfolding rest_of
rest_stops zero s k e at h = refl
rest_stops (suc f) s k e at h = rw (le-ltb _ _ h, rest_of)

and_then_assoc : (g : Got) (h : Tree → ℕ → Got) (k : Tree → ℕ → Got) → and_then g (λ e to. and_then (h e to) k) ≡ and_then (and_then g h) k
unfolding and_then
and_then_assoc failed h k = refl
and_then_assoc (got e to) h k = refl

pub rest_goes : (f : ℕ) (s : List ℕ) (k : ℕ) (e : Tree) (at : ℕ) → k < strength_of (get_or s at 0) →
    rest_of (suc f) s k e at
    ≡ and_then (and_then (expression_of f s (strength_of (get_or s at 0)) (at + 1)) (λ e2 to. got (join (get_or s at 0) e e2) to)) (rest_of f s k)
unfolding rest_of and_then
rest_goes f s k e at h = rw (lt-ltb _ _ h, rest_of) (and_then_assoc (expression_of f s (strength_of (get_or s at 0)) (at + 1)) (λ e2 to. got (join (get_or s at 0) e e2) to) (rest_of f s k))

-- A byte that is read is within the text.

abbrev begins : Start → ℕ
begins Not = 1
begins Group = 1
begins Bit = 1
begins Name = 1
begins Nothing = 0

pub inside : (s : List ℕ) (at : ℕ) → 0 < get_or s at 0 → at < length s
inside s at h = elim (dec_lt at (length s)) [ yes l ↦ l | no n ↦ absurd (past n) ]
  where
    past : (at < length s → ⊥) → ⊥
    past n =
        let l : length s ≤ at = omega arith in
        omega (arith, get_or-eq_default s 0 l)

zero_begins : (b : ℕ) → 0 < begins (start_of b) → 0 < b
unfolding start_of class_of is_letter
zero_begins zero h = h
zero_begins (suc b) h = omega arith

pub starts : (s : List ℕ) (at : ℕ) (x : Start) → start_of (get_or s at 0) ≡ x → 0 < begins x → at < length s
starts s at x e h = inside s at (zero_begins (get_or s at 0) (subst (λ (y : Start). 0 < begins y) (sym e) h))

zero_strength : (b : ℕ) → 0 < strength_of b → 0 < b
unfolding strength_of
zero_strength zero h = h
zero_strength (suc b) h = omega arith

pub joins : (s : List ℕ) (at k : ℕ) → k < strength_of (get_or s at 0) → at < length s
joins s at k h = inside s at (zero_strength (get_or s at 0) (omega arith))

-- A name that starts with a letter has a byte.

pub named : (s : List ℕ) (at : ℕ) → start_of (get_or s at 0) ≡ Name → 0 < run (drop at s)
named s at h =
    let b = get_or s at 0 in
    omega (arith, run_step s at (starts s at Name h (omega arith)) (letter_word (class_of b) (start-name b h)))

-- A form by its fields.

abbrev pub form : ℕ → ℕ → ℕ → Read
form next count depth = record { next = next; count = count; depth = depth }

pub fields : {r : Read} {next count depth : ℕ} → Some r ≡ Some (form next count depth) → (next ≡ r.next) × (count ≡ r.count) × (depth ≡ r.depth)
fields {r} {next} {count} {depth} h =
    let e : form next count depth ≡ r = cc in
    (ap (λ (x : Read). x.next) e, ap (λ (x : Read). x.count) e, ap (λ (x : Read). x.depth) e)

pub not-none : {A : Type 0} {r : Read} → Some r ≡ None → A
not-none h = let z : ◌≡◌ {A = ℕ} 0 1 = cc in absurd (omega arith)

pub not_some : {A : Type 0} {r : Read} → None ≡ Some r → A
not_some h = let z : ◌≡◌ {A = ℕ} 0 1 = cc in absurd (omega arith)

-- One more word.

module _ (before out out2 ws : List ℕ) (n to d b : ℕ) (q r : Read) where
  one_more_lem : q ≡ form to (n + length ws) d → r ≡ counted_of q → out2 ≡ set out q.count (byte_word b) → out ≡ sets before n ws →
      (Some r ≡ Some (form to (n + length (ws ++ (byte_word b ∷ []))) d)) × (out2 ≡ sets before n (ws ++ (byte_word b ∷ [])))
  one_more_lem hq hr ho h =
      let l : n + length ws + 1 ≡ n + length (ws ++ (byte_word b ∷ [])) = omega (arith, length-append ws (byte_word b ∷ [])) in (
        ap Some (hr ∙ ap counted_of hq ∙ ap (λ (k : ℕ). form to k d) l),
        ho
            ∙ ap (λ (x : Read). set out x.count (byte_word b)) hq
            ∙ ap (λ (x : List ℕ). set x (n + length ws) (byte_word b)) h
            ∙ sets-append ws (byte_word b ∷ []) before n,
      )

-- What the readers answer fits what the grammar gives.

fails : (before : List ℕ) (n : ℕ) (out : List ℕ) (g : Got) → Reads before n out None g → g ≡ failed
unfolding Reads
fails before n out failed rd = refl
fails before n out (got e to) rd = not_some rd.0

fails_then : (g : Got) (k : Tree → ℕ → Got) → g ≡ failed → and_then g k ≡ failed
unfolding and_then
fails_then g k h = ap (λ (x : Got). and_then x k) h

pub reads-none : (before : List ℕ) (n : ℕ) (out : List ℕ) (g : Got) → g ≡ failed → Reads before n out None g
unfolding Reads
reads-none before n out g h = subst (Reads before n out None) (sym h) refl

module _ (before : List ℕ) (n : ℕ) (out out2 : List ℕ) (inner q r : Read) where
  pub reads-not : (g : Got) → Reads before n out (Some inner) g → q ≡ deeper_of inner → r ≡ counted_of q → out2 ≡ set out q.count (byte_word 33) →
      Reads before n out2 (Some r) (and_then g (λ e to. got (not e) to))
  unfolding Reads and_then depth_of postfix
  reads-not failed rd hq hr ho = not-none rd
  reads-not (got e to) rd hq hr ho =
      let i : inner ≡ form to (n + length (postfix e)) (depth_of e) = cc rd.0 in
      one_more_lem before out out2 (postfix e) n to (depth_of e + 1) 33 q r (hq ∙ ap deeper_of i) hr ho rd.1

  pub reads-join : (g : Got) (left : List ℕ) (count : ℕ) (e : Tree) (b d : ℕ) → Reads left count out (Some inner) g →
      left ≡ sets before n (postfix e) → count ≡ n + length (postfix e) → d ≡ depth_of e →
      q ≡ beside_of inner d → r ≡ counted_of q → out2 ≡ set out q.count (byte_word b) →
      Reads before n out2 (Some r) (and_then g (λ e2 to. got (join b e e2) to))
  unfolding Reads and_then depth_of postfix
  reads-join failed left count e b d rd hl hc hd hq hr ho = not-none rd
  reads-join (got e2 to) left count e b d rd hl hc hd hq hr ho =
      let i : inner ≡ form to (count + length (postfix e2)) (depth_of e2) = cc rd.0 in
      let l : count + length (postfix e2) ≡ n + length (postfix e ++ postfix e2) = omega (arith, length-append (postfix e) (postfix e2)) in
      let k : q ≡ form to (n + length (postfix e ++ postfix e2)) (max (depth_of e) (depth_of e2)) =
      hq
      ∙ ap (λ (x : Read). beside_of x d) i
      ∙ ap (λ (x : ℕ). form to (count + length (postfix e2)) (max x (depth_of e2))) hd
      ∙ ap (λ (x : ℕ). form to x (max (depth_of e) (depth_of e2))) l in
      let w : out ≡ sets before n (postfix e ++ postfix e2) =
      rd.1
      ∙ ap (λ (x : List ℕ). sets x count (postfix e2)) hl
      ∙ ap (λ (x : ℕ). sets (sets before n (postfix e)) x (postfix e2)) hc
      ∙ sets-append (postfix e) (postfix e2) before n in
      one_more_lem before out out2 (postfix e ++ postfix e2) n to (max (depth_of e) (depth_of e2)) b q r k hr ho w

-- a form in brackets, where its closing one stands
closed_as : Option Read → Option Read
closed_as None = None
closed_as (Some q) = Some (deeper_of q)

module _ (s before : List ℕ) (n : ℕ) (out : List ℕ) (inner : Read) (c : Option Read) (is : c ≡ closed_of s inner) where
  reads-closed : (g : Got) → Reads before n out (Some inner) g → Reads before n out (closed_as c) (and_then g (closed s))
  unfolding Reads and_then closed depth_of postfix closed_as
  reads-closed failed rd = not-none rd
  reads-closed (got e to) rd =
      let i : inner ≡ form to (n + length (postfix e)) (depth_of e) = cc rd.0 in
      go (eqb (get_or s to 0) 41) (is ∙ ap (closed_of s) i)
    where
      go : (t : Bool) → c ≡ pick t (Some (form (to + 1) (n + length (postfix e)) (depth_of e))) None → Reads before n out (closed_as c) (pick t (got (group e) (to + 1)) failed)
      go true h = (ap closed_as h, rd.1)
      go false h = ap closed_as h

pub reads-bit : (out out2 : List ℕ) (r : Read) (at n b : ℕ) → r ≡ form (at + 1) (n + 1) 0 → out2 ≡ set out n (byte_word b) →
    Reads out n out2 (Some r) (got (bit b) (at + 1))
unfolding Reads depth_of postfix
reads-bit out out2 r at n b hr ho = (ap Some hr, ho)

-- The readers' contracts, step by step: `Holds` is what a reader from `at` says of every bound on the
-- depth of calls that is large enough.

abbrev pub Holds : ℕ → (ℕ → Got) → List ℕ → ℕ → List ℕ → Option Read → Type 0
Holds need reader before n out r = (f : ℕ) → need ≤ f → Reads before n out r (reader f)

module _ (s : List ℕ) (at : ℕ) (before : List ℕ) (n : ℕ) (out2 : List ℕ) where
  abbrev Operand : Option Read → Type 0
  Operand r = Holds (2 * (length s - at)) (λ f. operand_of f s at) before n out2 r

  -- a reader that calls none at its first step
  pub leaf : (r : Option Read) (g : Got) → ((f : ℕ) → operand_of (suc f) s at ≡ g) → at < length s → Reads before n out2 r g → Operand r
  leaf r g e h rd zero l = absurd (omega arith)
  leaf r g e h rd (suc f) l = rw (e f) rd

  pub nothing : start_of (get_or s at 0) ≡ Nothing → Operand None
  unfolding Reads
  nothing e f l = rw (operand_nothing f s at e)

  module _ (out : List ℕ) where
    module _ (e : start_of (get_or s at 0) ≡ Not) where
      abbrev Negated : Option Read → Type 0
      Negated inner = Holds (2 * (length s - (at + 1))) (λ f. operand_of f s (at + 1)) before n out inner

      pub step_not : (inner q r : Read) → Negated (Some inner) → q ≡ deeper_of inner → r ≡ counted_of q → out2 ≡ set out q.count (byte_word 33) → Operand (Some r)
      step_not inner q r rd hq hr ho zero l = absurd (omega (arith, starts s at Not e (omega arith)))
      step_not inner q r rd hq hr ho (suc f) l =
          rw (operand_not f s at e) (reads-not before n out out2 inner q r (operand_of f s (at + 1)) (rd f (omega (arith, starts s at Not e (omega arith)))) hq hr ho)

      pub step_not-none : Negated None → Operand None
      step_not-none rd zero l = absurd (omega (arith, starts s at Not e (omega arith)))
      step_not-none rd (suc f) l = rw (operand_not f s at e) (reads-none before n out2 _ (fails_then (operand_of f s (at + 1)) _ (fails before n out _ (rd f (omega (arith, starts s at Not e (omega arith)))))))

    module _ (e : start_of (get_or s at 0) ≡ Group) where
      abbrev Grouped : Option Read → Type 0
      Grouped inner = Holds (2 * (length s - (at + 1)) + 1) (λ f. expression_of f s 0 (at + 1)) before n out inner

      step_closed : (inner : Read) (c : Option Read) → c ≡ closed_of s inner → Grouped (Some inner) → out2 ≡ out → Operand (closed_as c)
      step_closed inner c is rd ho zero l = absurd (omega (arith, starts s at Group e (omega arith)))
      step_closed inner c is rd ho (suc f) l =
          rw (operand_group f s at e, ho) (reads-closed s before n out inner c is (expression_of f s 0 (at + 1)) (rd f (omega (arith, starts s at Group e (omega arith)))))

      pub step_group : (inner q r : Read) → closed_of s inner ≡ Some q → Grouped (Some inner) → r ≡ deeper_of q → out2 ≡ out → Operand (Some r)
      unfolding closed_as
      step_group inner q r is rd hr ho f l = rw hr (step_closed inner (Some q) (sym is) rd ho f l)

      pub step_unclosed : (inner : Read) → closed_of s inner ≡ None → Grouped (Some inner) → out2 ≡ out → Operand None
      unfolding closed_as
      step_unclosed inner is rd ho f l = step_closed inner None (sym is) rd ho f l

      pub step_group-none : Grouped None → Operand None
      step_group-none rd zero l = absurd (omega (arith, starts s at Group e (omega arith)))
      step_group-none rd (suc f) l = rw (operand_group f s at e) (reads-none before n out2 _ (fails_then (expression_of f s 0 (at + 1)) _ (fails before n out _ (rd f (omega (arith, starts s at Group e (omega arith)))))))

-- What a reader says of a form `left` that has been read, with what follows it.
abbrev pub Follows : List ℕ → ℕ → List ℕ → Read → List ℕ → Option Read → Type 0
Follows s k out left out2 r =
    (f : ℕ) (g : Got) (before : List ℕ) (n : ℕ) → 2 * (length s - left.next) ≤ f → Reads before n out (Some left) g → Reads before n out2 r (and_then g (rest_of f s k))

module _ (s : List ℕ) (k at : ℕ) (before : List ℕ) (n : ℕ) (out out2 : List ℕ) where
  abbrev Expression : Option Read → Type 0
  Expression r = Holds (2 * (length s - at) + 1) (λ f. expression_of f s k at) before n out2 r

  pub step_expression : (left : Read) (r : Option Read) → Holds (2 * (length s - at)) (λ f. operand_of f s at) before n out (Some left) → at ≤ left.next →
      Follows s k out left out2 r → Expression r
  unfolding expression_of
  step_expression left r rd lo more zero l = absurd (omega arith)
  step_expression left r rd lo more (suc f) l = more f (operand_of f s at) before n (omega arith) (rd f (omega arith))

  pub step_expression-none : Holds (2 * (length s - at)) (λ f. operand_of f s at) before n out None → Expression None
  unfolding expression_of
  step_expression-none rd zero l = absurd (omega arith)
  step_expression-none rd (suc f) l = reads-none before n out2 _ (fails_then (operand_of f s at) _ (fails before n out _ (rd f (omega arith))))

module _ (s : List ℕ) (k : ℕ) (left : Read) (out : List ℕ) where
  pub step_stop : strength_of (get_or s left.next 0) ≤ k → Follows s k out left out (Some left)
  unfolding Reads and_then
  step_stop h f failed before n l rd = rd
  step_stop h f (got e to) before n l rd =
      let t : to ≡ left.next = (fields rd.0).0 in
      let h2 : strength_of (get_or s to 0) ≤ k = rw t h in
      rw (rest_stops f s k e to h2) rd

  module _ (out1 : List ℕ) (h : k < strength_of (get_or s left.next 0)) where
    abbrev Right : Option Read → Type 0
    Right right = Holds (2 * (length s - (left.next + 1)) + 1) (λ f. expression_of f s (strength_of (get_or s left.next 0)) (left.next + 1)) out left.count out1 right

    go_none : Right None → (f : ℕ) (e : Tree) (before : List ℕ) (n : ℕ) → 2 * (length s - left.next) ≤ f → Reads before n out1 None (rest_of f s k e left.next)
    go_none rd zero e before n l = absurd (omega (arith, joins s left.next k h))
    go_none rd (suc f) e before n l =
        let b = get_or s left.next 0 in
        let g = expression_of f s (strength_of b) (left.next + 1) in
        rw (rest_goes f s k e left.next h)
        (reads-none before n out1 _ (fails_then (and_then g (λ e2 to. got (join b e e2) to)) (rest_of f s k) (fails_then g _ (fails out left.count out1 g (rd f (omega (arith, joins s left.next k h)))))))

    pub step_none : Right None → Follows s k out left out1 None
    unfolding Reads and_then
    step_none rd f failed before n l rl = refl
    step_none rd f (got e to) before n l rl = rw (fields rl.0).0 (go_none rd f e before n l)

    module _ (out2 out3 : List ℕ) (right q both : Read) (r : Option Read) where
      go_on : Right (Some right) → q ≡ beside_of right left.depth → both ≡ counted_of q → out2 ≡ set out1 q.count (byte_word (get_or s left.next 0)) →
          left.next < both.next → Follows s k out2 both out3 r →
          (f : ℕ) (e : Tree) (before : List ℕ) (n : ℕ) → 2 * (length s - left.next) ≤ f → out ≡ sets before n (postfix e) → left.count ≡ n + length (postfix e) → left.depth ≡ depth_of e →
          Reads before n out3 r (rest_of f s k e left.next)
      go_on rd hq hb ho lo more zero e before n l ht hc hd = absurd (omega (arith, joins s left.next k h))
      go_on rd hq hb ho lo more (suc f) e before n l ht hc hd =
          let g = expression_of f s (strength_of (get_or s left.next 0)) (left.next + 1) in
          rw (rest_goes f s k e left.next h)
          (more f (and_then g (λ e2 to. got (join (get_or s left.next 0) e e2) to)) before n (omega (arith, joins s left.next k h))
          (reads-join before n out1 out2 right q both g out left.count e (get_or s left.next 0) left.depth (rd f (omega (arith, joins s left.next k h))) ht hc hd hq hb ho))

      pub step_go : Right (Some right) → q ≡ beside_of right left.depth → both ≡ counted_of q → out2 ≡ set out1 q.count (byte_word (get_or s left.next 0)) →
          left.next < both.next → Follows s k out2 both out3 r → Follows s k out left out3 r
      unfolding Reads and_then
      step_go rd hq hb ho lo more f failed before n l rl = not-none rl
      step_go rd hq hb ho lo more f (got e to) before n l rl =
          let w = fields rl.0 in
          rw w.0 (go_on rd hq hb ho lo more f e before n l rl.1 (sym w.1) (sym w.2))

-- Bounds.

pub bounds_rest : (len at n : ℕ) (left : Read) (r : Option Read) → Bounds len at n (Some left) → RestBounds len left r → Bounds len at n r
bounds_rest len at n left None b c = tt
bounds_rest len at n left (Some r) b c = omega arith

-- a form that a byte closes ends within the text
pub closed-within : (s : List ℕ) (inner q : Read) → closed_of s inner ≡ Some q → (inner.next < length s) × (q ≡ form (inner.next + 1) inner.count inner.depth)
closed-within s inner q h = go (eqb (get_or s inner.next 0) 41) refl h
  where
    go : (t : Bool) → eqb (get_or s inner.next 0) 41 ≡ t → pick t (Some (form (inner.next + 1) inner.count inner.depth)) None ≡ Some q → (inner.next < length s) × (q ≡ form (inner.next + 1) inner.count inner.depth)
    go true e k = (inside s inner.next (omega (arith, eqb-true (get_or s inner.next 0) 41 e)), cc)
    go false e k = not_some k
