-- Document 02, No. 13: the calls of a bench. A new cycle has no result; a turn's results are the machine that was stepped,
-- or 8 where nothing waits, and its output words, which an idle turn leaves as they were. Assumes nothing.
use Rattle.std.specs.Prelude.{Option, Some, None, Result, Ok, Err, ◌≡◌, List, ℕ, ◌+◌, ◌*◌, ◌^◌, ◌<◌}
use Rattle.bench_turns.specs.declared.Cause.{Cause}
use Rattle.bench_turns.specs.Refusals.{refusal_of}
use Rattle.bench_turns.specs.Add.{add_of}
use Rattle.bench_turns.specs.Turn.{turn_of}
use Rattle.bench_turns.specs.Session.{Bench}
use Rattle.bench_turns.specs.Answers.{AddMeans, TurnMeans}
use Rattle.ludopoplar.specs.Codes.{accepted_code, code_of}

-- ---- a new cycle
pub record AddCallEnd : Type 0 where
  pub code : ℕ
  pub queues : List ℕ
  pub bench : List ℕ

abbrev pub add_call_end : ℕ → List ℕ → List ℕ → AddCallEnd
add_call_end c q b = record { code = c; queues = q; bench = b }

unfoldable pub add_code : Result Unit Cause → ℕ
add_code (Ok tt) = accepted_code
add_code (Err cause) = code_of (refusal_of cause)

unfoldable pub add_call : List ℕ → List ℕ → List ℕ → List ℕ → ℕ → List ℕ → AddCallEnd
add_call nets latches queues bench machine cycle =
    let e = add_of nets latches queues bench machine cycle in
    add_call_end (add_code e.answer) e.queues e.bench

-- ---- a turn
pub record TurnCallEnd : Type 0 where
  pub code : ℕ
  pub latches : List ℕ
  pub values : List ℕ
  pub queues : List ℕ
  pub bench : List ℕ
  pub served : ℕ
  pub word : ℕ
  pub second : ℕ

abbrev pub turn_call_end : ℕ → List ℕ → List ℕ → List ℕ → List ℕ → ℕ → ℕ → ℕ → TurnCallEnd
turn_call_end c l v q b m w s = record { code = c; latches = l; values = v; queues = q; bench = b; served = m; word = w; second = s }

unfoldable pub turn_as : Result (Option (ℕ × ℕ × ℕ)) Cause → List ℕ → List ℕ → List ℕ → List ℕ → ℕ → ℕ → ℕ → TurnCallEnd
turn_as (Ok None) l v q b served word second = turn_call_end accepted_code l v q b 8 word second
turn_as (Ok (Some (machine, first, checked))) l v q b served word second = turn_call_end accepted_code l v q b machine first checked
turn_as (Err cause) l v q b served word second = turn_call_end (code_of (refusal_of cause)) l v q b served word second

unfoldable pub turn_call : List ℕ → List ℕ → List ℕ → List ℕ → List ℕ → ℕ → ℕ → ℕ → TurnCallEnd
turn_call nets latches values queues bench served word second =
    let e = turn_of nets latches values queues bench in
    turn_as e.answer e.latches e.values e.queues e.bench served word second

-- ---- what the contracts claim of what they return and leave, as add and turn claim it of their answers: an accepted call returns
-- 0, a refused one number × 2^32 + line
abbrev pub CallAdds : List ℕ → Bench → ℕ → List ℕ → ℕ → Bench → Type 0
CallAdds nets b machine cycle code c = AddMeans nets b machine cycle (code ≡ 0) (λ number line. code ≡ number * 2 ^ 32 + line) c

-- with these results
abbrev pub CallTurns : List ℕ → Bench → List ℕ → ℕ → ℕ → ℕ → ℕ → Bench → List ℕ → Type 0
CallTurns nets b values code served word second c after =
    TurnMeans nets b values ((code ≡ 0) × (served ≡ 8)) (λ m w v. (code ≡ 0) × (served ≡ m) × (m < 8) × (word ≡ w) × (second ≡ v)) (λ number line. code ≡ number * 2 ^ 32 + line) c after
