-- `is_rejected` and `is_checked`, which try every setting and every list of edges, say whether a path of their
-- kind exists. Assumes nothing.
use mathlib.Core.Path.{◌≡◌, refl, subst, sym}
use mathlib.Core.Logic.{◌↔◌}
use mathlib.Core.Bool.{Bool, true, false, ◌&&◌}
use mathlib.Core.List.Memᴰ
use mathlib.Core.List.{List, [], ◌∷◌}
use lib.ListN.{length}
use lib.Dec.{T}
use Rattle.assertion.specs.Lists.{any, lists, From}
use Rattle.assertion.specs.Graph.{Edge, Graph, constant_bits, Cycle, Setting, bit_holds, holds}
use Rattle.assertion.specs.Paths.{since_init, leaves, ends_terminal, antecedents_true, consequent_false, RejectingPath, Rejected, rejects_along, rejected_under, is_rejected, CheckingPath, Checked, checks_along, checked_under, is_checked, PathsMean}
use Rattle.assertion.proofs.ListLaws.{and_intro, and_left, and_right, lists_intro, lists_elim}
use Rattle.assertion.proofs.TerminalLaws.{reason, for_reason}
use Rattle.assertion.proofs.AlikeLaws.{alike-each}
use Rattle.assertion.proofs.SinceLaws.{since_none, since-some}
use Rattle.assertion.proofs.CountLaws.{none-counted, rejected-more, checked-more}

-- a setting is a list of the two bits
pub bits : (σ : Setting) → From σ (false ∷ true ∷ [])
bits [] = tt
bits (false ∷ σ) = (Memᴰ.head refl, bits σ)
bits (true ∷ σ) = (Memᴰ.tail (Memᴰ.head refl), bits σ)

-- ---- a kind of path P, and a test that finds it along a list of edges: some setting and some list of as many edges
-- as cycles pass it exactly where there is such a path
module _ (g : Graph) (along : Setting → List Cycle → List Edge → Bool) (P : Setting → List Cycle → List Edge → Type 0)
    (into : (σ : Setting) (w : List Cycle) (p : List Edge) → From p g.edges → length p ≡ length w → T (along σ w p) → P σ w p)
    (out : (σ : Setting) (w : List Cycle) (p : List Edge) → P σ w p → From p g.edges × (length p ≡ length w) × T (along σ w p)) where
  some-path : (σ : Setting) (w : List Cycle) → T (any (along σ w) (lists (length w) g.edges)) ↔ ((p : List Edge) × P σ w p)
  some-path σ w = (there, back)
    where
      there : T (any (along σ w) (lists (length w) g.edges)) → (p : List Edge) × P σ w p
      there t = let r = lists_elim (along σ w) (length w) g.edges t in (r.0, into σ w r.0 r.1 r.2 r.3)

      back : (p : List Edge) × P σ w p → T (any (along σ w) (lists (length w) g.edges))
      back q = let r = out σ w q.0 q.1 in lists_intro (along σ w) (length w) g.edges q.0 r.0 r.1 r.2

  abbrev tried : List Cycle → Setting → Bool
  tried w σ = any (along σ w) (lists (length w) g.edges)

  some-setting : (w : List Cycle) → T (any (tried w) (lists (constant_bits g) (false ∷ true ∷ []))) → (σ : Setting) × (length σ ≡ constant_bits g) × (p : List Edge) × P σ w p
  some-setting w t =
      let r = lists_elim (tried w) (constant_bits g) (false ∷ true ∷ []) t in
      let q = (some-path r.0 w).0 r.3 in
      (r.0, r.2, q.0, q.1)

  setting-some : (w : List Cycle) (σ : Setting) → length σ ≡ constant_bits g → (p : List Edge) → P σ w p → T (any (tried w) (lists (constant_bits g) (false ∷ true ∷ [])))
  setting-some w σ h p q = lists_intro (tried w) (constant_bits g) (false ∷ true ∷ []) σ (bits σ) h ((some-path σ w).1 (p, q))

-- ---- the two kinds
module _ (g : Graph) (σ : Setting) (w : List Cycle) (p : List Edge) where
  checking_into : From p g.edges → length p ≡ length w → T (checks_along g σ w p) → CheckingPath g σ w p
  unfolding checks_along
  checking_into f l t =
      let y = and_right (leaves 0 p) (ends_terminal g p && antecedents_true σ p w) t in
      record {
        of_graph = f;
        one-a-cycle = l;
        joined = and_left (leaves 0 p) (ends_terminal g p && antecedents_true σ p w) t;
        terminal = and_left (ends_terminal g p) (antecedents_true σ p w) y;
        antecedents = and_right (ends_terminal g p) (antecedents_true σ p w) y;
      }

  checking_out : CheckingPath g σ w p → From p g.edges × (length p ≡ length w) × T (checks_along g σ w p)
  unfolding checks_along
  checking_out q =
      (q.of_graph, q.one-a-cycle, and_intro (leaves 0 p) _ q.joined (and_intro (ends_terminal g p) _ q.terminal q.antecedents))

  rejecting_into : From p g.edges → length p ≡ length w → T (rejects_along g σ w p) → RejectingPath g σ w p
  unfolding rejects_along
  rejecting_into f l t =
      let y = and_right (leaves 0 p) (ends_terminal g p && (antecedents_true σ p w && consequent_false σ p w)) t in
      let z = and_right (ends_terminal g p) (antecedents_true σ p w && consequent_false σ p w) y in
      record {
        of_graph = f;
        one-a-cycle = l;
        joined = and_left (leaves 0 p) (ends_terminal g p && (antecedents_true σ p w && consequent_false σ p w)) t;
        terminal = and_left (ends_terminal g p) (antecedents_true σ p w && consequent_false σ p w) y;
        antecedents = and_left (antecedents_true σ p w) (consequent_false σ p w) z;
        consequent = and_right (antecedents_true σ p w) (consequent_false σ p w) z;
      }

  rejecting_out : RejectingPath g σ w p → From p g.edges × (length p ≡ length w) × T (rejects_along g σ w p)
  unfolding rejects_along
  rejecting_out q = (
    q.of_graph,
    q.one-a-cycle,
    and_intro (leaves 0 p) _ q.joined
        (and_intro (ends_terminal g p) _ q.terminal (and_intro (antecedents_true σ p w) _ q.antecedents q.consequent)),
  )

pub under : (g : Graph) (σ : Setting) (cs : List Cycle) → T (rejected_under g σ cs) ↔ ((p : List Edge) × RejectingPath g σ (since_init cs) p)
unfolding rejected_under
under g σ cs = some-path g (rejects_along g) (RejectingPath g) (rejecting_into g) (rejecting_out g) σ (since_init cs)

rejected-finds : (g : Graph) (cs : List Cycle) → Rejected g cs → T (is_rejected g cs)
unfolding is_rejected rejected_under
rejected-finds g cs q =
    setting-some g (rejects_along g) (RejectingPath g) (rejecting_into g) (rejecting_out g) (since_init cs) q.setting q.a-bit-each q.path q.rejects

rejected-found : (g : Graph) (cs : List Cycle) → T (is_rejected g cs) → Rejected g cs
unfolding is_rejected rejected_under
rejected-found g cs t =
    let r = some-setting g (rejects_along g) (RejectingPath g) (rejecting_into g) (rejecting_out g) (since_init cs) t in
    record { setting = r.0; a-bit-each = r.1; path = r.2; rejects = r.3 }

checked-finds : (g : Graph) (cs : List Cycle) → Checked g cs → T (is_checked g cs)
unfolding is_checked checked_under
checked-finds g cs q =
    setting-some g (checks_along g) (CheckingPath g) (checking_into g) (checking_out g) (since_init cs) q.setting q.a-bit-each q.path q.checks

checked-found : (g : Graph) (cs : List Cycle) → T (is_checked g cs) → Checked g cs
unfolding is_checked checked_under
checked-found g cs t =
    let r = some-setting g (checks_along g) (CheckingPath g) (checking_into g) (checking_out g) (since_init cs) t in
    record { setting = r.0; a-bit-each = r.1; path = r.2; checks = r.3 }

passes : (b : Bool) → T b → b ≡ true
passes true t = refl
passes false t = absurd t

pub paths_mean : PathsMean
unfolding bit_holds holds
paths_mean =
    record {
      terminal = reason;
      terminals = for_reason;
      found = λ g cs e. rejected-found g cs (subst T (sym e) tt);
      finds = λ g cs r. passes (is_rejected g cs) (rejected-finds g cs r);
      checked-found = λ g cs e. checked-found g cs (subst T (sym e) tt);
      checked-finds = λ g cs r. passes (is_checked g cs) (checked-finds g cs r);
      bytes = λ g seen c cs. refl;
      none = none-counted;
      rejected-more = rejected-more;
      checked-more = checked-more;
      latest = since-some;
      before-init = since_none;
      signal_bit = λ σ c i n. refl;
      constant-bit = λ σ c j n. refl;
      each-bit = λ σ c a b w. (alike-each σ c a b w).0;
      alike-bits = λ σ c a b w. (alike-each σ c a b w).1;
    }
