-- What the clauses of write and read give the calls that are named after them. Assumes nothing.
use Rattle.std.specs.Prelude.{Result, Ok, Err}
use mathlib.Core.Path.{◌≡◌, refl, ap, ap₂, ◌∙◌}
use mathlib.Core.List.{List, ◌++◌}
use Prim.Native.Nat.{ℕ, ◌<◌}
use native.Mathlib.Omega.{arith}
use lib.ListN.{length, get_or, drop}
use Rattle.aiger.specs.Write as write
use Rattle.aiger.specs.Write.{WriteEnd}
use Rattle.aiger.proofs.WriteLaws.{no_netlist, too_short, written}
use Rattle.aiger_file.specs.declared.Cause.{Cause}
use Rattle.aiger_file.specs.Read as read
use Rattle.aiger_file.specs.Read.{ReadEnd, read_end, read_of}
use Rattle.aiger_file.specs.Claims.{IsFile, ReadMeans}
use Rattle.ludopoplar.specs.Codes.{code_of}
use Rattle.ludopoplar.specs.Circuits as circuits
use Rattle.ludopoplar.specs.Circuits.{Filled, filled, write_with, read_call}
use Rattle.ludopoplar.specs.FileClaims.{CallWrites, CallReads}
use Rattle.ludopoplar.proofs.NumberLaws.{numbered}

-- ---- write, of whichever file
pub writes : (file net before : List ℕ) (was : ℕ) (end : Filled) → end ≡ write_with (write.write_as file net before) was → CallWrites file net before was end
unfolding write_with circuits.write_as code_of write.refusal_of
writes file net before was end is =
    record {
      ends = λ c b n. (refl, refl, refl);
      written = λ h l. is ∙ ap (λ (e : WriteEnd). write_with e was) (written file net before h l);
      not-netlist = λ h. is ∙ ap (λ (e : WriteEnd). write_with e was) (no_netlist file net before h);
      short = λ h l. is ∙ ap (λ (e : WriteEnd). write_with e was) (too_short file net before h l);
    }

-- ---- read
module _ (means : ReadMeans) (text before : List ℕ) (each : (k : ℕ) → get_or text k 0 < 256) (was : ℕ) (end : Filled) (is : end ≡ read_call text before was) where
  -- what the call ends with, by what read answers and leaves
  ends : (e : ReadEnd) → read_of text before ≡ e → end ≡ circuits.read_as e.answer e.net was
  unfolding read_call
  ends e h = is ∙ ap (λ (x : ReadEnd). circuits.read_as x.answer x.net was) h

  refused : (cause : Cause) → read_of text before ≡ read_end (Err cause) before → end ≡ filled (code_of (read.refusal_of cause)) before was
  unfolding circuits.read_as
  refused cause h = ends (read_end (Err cause) before) h

  only_as : (a : Result ℕ Cause) → (read_of text before).answer ≡ a → end.code ≡ 0
      → (net : List ℕ) × IsFile text net × (end ≡ filled 0 (net ++ drop (length net) before) (length net))
  unfolding circuits.read_as code_of
  only_as (Ok n) h z =
      let e : read_of text before ≡ read_end (Ok n) (read_of text before).net = ap (λ (a : Result ℕ Cause). read_end a (read_of text before).net) h in
      let x = means.only text before n (read_of text before).net each e in
      let read : end ≡ filled 0 (read_of text before).net n = ends (read_end (Ok n) (read_of text before).net) e in
      (x.0, x.1, read ∙ ap₂ (filled 0) (x.4 ∙ ap (λ (k : ℕ). x.0 ++ drop k before) x.3) x.3)
  only_as (Err cause) h z =
      let c : end.code ≡ code_of (read.refusal_of cause) = ap (λ (f : Filled). f.code) (refused cause (means.kept text before cause h)) in
      absurd (omega (arith, numbered.read-numbered cause))

  pub reads : CallReads text before was end
  unfolding circuits.read_as code_of read.refusal_of
  reads =
      record {
        ends = λ c b n. (refl, refl, refl);
        taken = λ net f l. ends _ (means.takes text net before f l);
        short = λ net f l. ends _ (means.short text net before f l);
        waits = λ w. ends _ (means.waits text before w);
        long = λ l. ends _ (means.long text before l);
        only = only_as (read_of text before).answer refl;
        refused = λ cause h. refused cause (means.kept text before cause h);
      }
