-- `since_init` read back: the cycles from the latest init on. Assumes nothing.
use mathlib.Core.Path.{◌≡◌, refl, ap, subst, sym, ◌∙◌}
use mathlib.Core.Bool.{Bool, true, false, ◌||◌, cond}
use mathlib.Core.List.{List, [], ◌∷◌}
use lib.Dec.{T}
use Rattle.assertion.specs.Lists.{any}
use Rattle.assertion.specs.Graph.{Cycle, is_init}
use Rattle.assertion.specs.Paths.{since_init, Latest}

pub since_none : (cs : List Cycle) → any is_init cs ≡ false → since_init cs ≡ []
since_none [] e = refl
since_none (c ∷ cs) e = by (is_init c) (any is_init cs) e
  where
    by : (a b : Bool) → a || b ≡ false → cond b (since_init cs) (cond a (c ∷ cs) []) ≡ []
    by true b q = absurd (subst T q tt)
    by false true q = absurd (subst T q tt)
    by false false q = refl

pub since-some : (cs : List Cycle) → any is_init cs ≡ true → Latest cs
since-some [] e = absurd (subst T (sym e) tt)
since-some (c ∷ cs) e = by (any is_init cs) refl (λ k. since-some cs k)
  where
    or-true : (a : Bool) → a || false ≡ true → a ≡ true
    or-true true q = refl
    or-true false q = q

    by : (b : Bool) → any is_init cs ≡ b → (any is_init cs ≡ true → Latest cs) → Latest (c ∷ cs)
    by true k f =
        let r = f k in
        record {
          before = c ∷ r.before;
          first = r.first;
          later = r.later;
          whole = ap (◌∷◌ c) r.whole;
          starts_init = r.starts_init;
          latest = r.latest;
          since = ap (λ (b : Bool). cond b (since_init cs) (cond (is_init c) (c ∷ cs) [])) k ∙ r.since;
        }
    by false k f =
        let i : is_init c ≡ true = or-true (is_init c) (rw k at e) in
        record { before = []; first = c; later = cs; whole = refl; starts_init = i; latest = k; since = rw (k, i) }
