-- What the claims of add and turn give the calls that are named after them. Assumes nothing.
use Rattle.std.specs.Prelude.{Option, Some, None, Result, Ok, Err}
use mathlib.Core.Path.{◌≡◌, refl, ap, ◌∙◌}
use mathlib.Core.List.{List}
use Prim.Native.Nat.{ℕ, ◌+◌, ◌*◌, ◌^◌, ◌<◌}
use native.Mathlib.Omega.{arith}
use Rattle.text.specs.declared.Refusal.{Refusal}
use Rattle.bench_turns.specs.declared.Cause.{Cause}
use Rattle.bench_turns.specs.Refusals.{refusal_of}
use Rattle.bench_turns.specs.Add.{AddEnd, add_end, add_of}
use Rattle.bench_turns.specs.Turn.{TurnEnd, turn_end, turn_of}
use Rattle.bench_turns.specs.Session.{Bench, bench_of, after}
use Rattle.bench_turns.proofs.MeansLaws.{add-means, turn_means, turn_claims}
use Rattle.ludopoplar.specs.Codes.{code_of}
use Rattle.ludopoplar.specs.Benches.{AddCallEnd, add_call_end, add_code, add_call, TurnCallEnd, turn_call_end, turn_as, turn_call, CallAdds, CallTurns}
use Rattle.ludopoplar.proofs.NumberLaws.{bench-refuses}

-- no refusal has the code 0
some-code : (cause : Cause) → code_of (refusal_of cause) ≡ 0 → ⊥
unfolding code_of
some-code cause e = let n = bench-refuses cause in omega arith

-- ---- a new cycle
only-waiting : (r : Result Unit Cause) → add_code r ≡ 0 → r ≡ Ok tt
unfolding add_code
only-waiting (Ok tt) e = refl
only-waiting (Err cause) e = absurd (some-code cause e)

pub call_adds : (nets latches queues bench : List ℕ) (machine : ℕ) (cycle : List ℕ) (end : AddCallEnd) → end ≡ add_call nets latches queues bench machine cycle
    → CallAdds nets (bench_of latches queues bench) machine cycle end.code (bench_of latches end.queues end.bench)
unfolding add_call add_code code_of after
call_adds nets latches queues bench machine cycle end is =
    rw is
    (add-means nets (bench_of latches queues bench) machine cycle _ _ (λ t. ap add_code t) (only-waiting (add_of nets latches queues bench machine cycle).answer) (λ cause t. ap add_code t))

-- ---- a turn
module _ (l v q b : List ℕ) (served word second : ℕ) where
  abbrev ended : Result (Option (ℕ × ℕ × ℕ)) Cause → TurnCallEnd
  ended r = turn_as r l v q b served word second

  abbrev Idles : Result (Option (ℕ × ℕ × ℕ)) Cause → Type 0
  Idles r = ((ended r).code ≡ 0) × ((ended r).served ≡ 8)

  abbrev Steps : Result (Option (ℕ × ℕ × ℕ)) Cause → ℕ → ℕ → ℕ → Type 0
  Steps r m w s = ((ended r).code ≡ 0) × ((ended r).served ≡ m) × (m < 8) × ((ended r).word ≡ w) × ((ended r).second ≡ s)

  only-served : (r : Result (Option (ℕ × ℕ × ℕ)) Cause) (m w s : ℕ) → Steps r m w s → r ≡ Ok (Some (m, w, s))
  unfolding turn_as
  only-served (Ok None) m w s (c, n, small, f, g) = absurd (omega arith)
  only-served (Ok (Some (n, x, y))) m w s (c, e, small, f, g) = rw (e, f, g) refl
  only-served (Err cause) m w s (c, e, small, f, g) = absurd (some-code cause c)

  -- whatever is answered, the buffers are those of the turn
  buffers : (P : Bench → List ℕ → Type 0) (r : Result (Option (ℕ × ℕ × ℕ)) Cause) → P (bench_of l q b) v → P (bench_of (ended r).latches (ended r).queues (ended r).bench) (ended r).values
  unfolding turn_as
  buffers P (Ok None) p = p
  buffers P (Ok (Some (m, w, s))) p = p
  buffers P (Err cause) p = p

pub call_turns : (nets latches values queues bench : List ℕ) (served word second : ℕ) (end : TurnCallEnd) → end ≡ turn_call nets latches values queues bench served word second
    → CallTurns nets (bench_of latches queues bench) values end.code end.served end.word end.second (bench_of end.latches end.queues end.bench) end.values
unfolding turn_call turn_as code_of after
call_turns nets latches values queues bench served word second end is =
    let e = turn_of nets latches values queues bench in
    let r = e.answer in
    let z = ended e.latches e.values e.queues e.bench served word second in
    let I = Idles e.latches e.values e.queues e.bench served word second r in
    let S = Steps e.latches e.values e.queues e.bench served word second r in
    let own = (turn_claims nets latches values queues bench e refl).0 in
    rw is
    (buffers e.latches e.values e.queues e.bench served word second (λ c after. CallTurns nets (bench_of latches queues bench) values (z r).code (z r).served (z r).word (z r).second c after) r
    (turn_means nets (bench_of latches queues bench) values I S (λ number line. (z r).code ≡ number * 2 ^ 32 + line)
    (λ t. (ap (λ (o : Result (Option (ℕ × ℕ × ℕ)) Cause). (z o).code) t, ap (λ (o : Result (Option (ℕ × ℕ × ℕ)) Cause). (z o).served) t))
    (λ m w s t. (ap (λ (o : Result (Option (ℕ × ℕ × ℕ)) Cause). (z o).code) t, ap (λ (o : Result (Option (ℕ × ℕ × ℕ)) Cause). (z o).served) t, (own.serves m w s t).next.machine, ap (λ (o : Result (Option (ℕ × ℕ × ℕ)) Cause). (z o).word) t, ap (λ (o : Result (Option (ℕ × ℕ × ℕ)) Cause). (z o).second) t))
    (only-served e.latches e.values e.queues e.bench served word second r)
    (λ cause t. ap (λ (o : Result (Option (ℕ × ℕ × ℕ)) Cause). (z o).code) t)))

-- ---- what a new cycle answered, as code and buffers
pub add-waiting : (r : Result Unit Cause) → r ≡ Ok tt → 0 ≡ add_code r
unfolding add_code
add-waiting r told = rw told refl

pub add-refused : (r : Result Unit Cause) (cause : Cause) → r ≡ Err cause → (x : Refusal) → x ≡ refusal_of cause → (code : ℕ) → code ≡ code_of x → code ≡ add_code r
unfolding add_code
add-refused r cause told x ex code ec = rw (told, ec, ex) refl

pub add-ends : (nets latches queues bench : List ℕ) (machine : ℕ) (cycle : List ℕ) (r : Result Unit Cause) (q b : List ℕ) → add_end r q b ≡ add_of nets latches queues bench machine cycle
    → (code : ℕ) → code ≡ add_code r → add_call_end code q b ≡ add_call nets latches queues bench machine cycle
unfolding add_call
add-ends nets latches queues bench machine cycle r q b e code ec =
    ap (λ (z : ℕ). add_call_end z q b) ec ∙ ap (λ (z : AddEnd). add_call_end (add_code z.answer) z.queues z.bench) e

-- ---- what a turn answered
module _ (r : Result (Option (ℕ × ℕ × ℕ)) Cause) (l v q b : List ℕ) (served word second : ℕ) where
  pub turn_idle : (answer : Option (ℕ × ℕ × ℕ)) → r ≡ Ok answer → answer ≡ None → turn_call_end 0 l v q b 8 word second ≡ turn_as r l v q b served word second
  unfolding turn_as
  turn_idle answer told none = rw (told, none) refl

  pub turn_served : (m w c : ℕ) (answer : Option (ℕ × ℕ × ℕ)) → r ≡ Ok answer → answer ≡ Some (m, w, c) → turn_call_end 0 l v q b m w c ≡ turn_as r l v q b served word second
  unfolding turn_as
  turn_served m w c answer told some = rw (told, some) refl

  pub turn_refused : (cause : Cause) → r ≡ Err cause → (x : Refusal) → x ≡ refusal_of cause → (code : ℕ) → code ≡ code_of x
      → turn_call_end code l v q b served word second ≡ turn_as r l v q b served word second
  unfolding turn_as
  turn_refused cause told x ex code ec = rw (told, ec, ex) refl

pub turn_ends : (nets latches values queues bench : List ℕ) (served word second : ℕ) (r : Result (Option (ℕ × ℕ × ℕ)) Cause) (l v q b : List ℕ) → turn_end r l v q b ≡ turn_of nets latches values queues bench
    → (end : TurnCallEnd) → end ≡ turn_as r l v q b served word second → end ≡ turn_call nets latches values queues bench served word second
unfolding turn_call
turn_ends nets latches values queues bench served word second r l v q b e end ee =
    ee ∙ ap (λ (z : TurnEnd). turn_as z.answer z.latches z.values z.queues z.bench served word second) e
