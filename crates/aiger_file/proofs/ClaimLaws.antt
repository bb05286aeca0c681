-- THE CLAIM, from the claims of the two readers: which of them answers, that exactly the files in the two forms are
-- taken, and that both forms of a netlist read alike. Assumes nothing.
use Rattle.std.specs.Prelude.{Result, Ok, Err}
use mathlib.Core.Path.{◌≡◌, refl, sym, ap, ap₂, ◌∙◌}
use mathlib.Core.Bool.{Bool, true, false, true≢false}
use mathlib.Core.List.{List, ◌++◌}
use mathlib.Core.Logic.{◌⊎◌, inl, inr}
use Prim.Native.Nat.{ℕ, ◌<◌, ◌≤◌}
use native.Mathlib.Omega.{arith}
use native.Mathlib.Decide.{dec_lt}
use borrow.Author.Tests.{le-leb}
use lib.ListN.{length, get_or, take, drop}
use Rattle.text.specs.Quoted.{byte, bytes}
use Rattle.netlist.specs.Layout.{size_of}
use Rattle.netlist.specs.Valid.{is_netlist}
use Rattle.gate_order.specs.Order.{PlacedAs, Stuck}
use Rattle.aiger.specs.Rows.{header_row}
use Rattle.aiger.specs.Format.{file_with, file_of}
use Rattle.aiger.proofs.FormatLaws.{trimmed_size, trimmed_file, trimmed_length, trimmed_netlist}
use Rattle.packed.specs.Format.{packed_header, packed_with, packed_of}
use Rattle.packed.proofs.FormatLaws.{trimmed_packed}
use Rattle.aiger_lines.specs.declared.Fault.{Fault}
use Rattle.aiger_lines.specs.declared.Fault.TheVariants.{WrongShape, OutOfLimits}
use Rattle.aiger_lines.specs.Heads.{has_tag, head_at, on_head}
use Rattle.aiger_lines.proofs.HeadLaws.{tag_at}
use Rattle.aiger_read.specs.declared.Cause.{Cause as TextCause}
use Rattle.aiger_read.specs.declared.Cause.TheVariants as text
use Rattle.aiger_read.specs.Files.{file_read}
use Rattle.aiger_read.specs.Read.{read_end as text_end, max_text, read_as as text_read_as, read_of as text_read_of, refusal_of as text_refusal_of}
use Rattle.aiger_read.specs.Claims.{file_to, file_by, IsFile as IsText, ReadMeans as TextMeans}
use Rattle.aiger_read.proofs.ClaimLaws.{read-means as text-means}
use Rattle.packed_read.specs.declared.Cause.{Cause as PackedCause}
use Rattle.packed_read.specs.declared.Cause.TheVariants as pack
use Rattle.packed_read.specs.Read.{read_end as packed_end, read_of as packed_read_of, refusal_of as packed_refusal_of}
use Rattle.packed_read.specs.Claims.{IsPacked, PackedMeans}
use Rattle.packed_read.proofs.ClaimLaws.{read-means as packed-means}
use Rattle.aiger_file.specs.declared.Cause.{Cause}
use Rattle.aiger_file.specs.declared.Cause.TheVariants.{TextTooLong, ShortBuffer, FaultyLine, FaultyRun, WaitingGates}
use Rattle.aiger_file.specs.Read.{refusal_of, text_cause, packed_cause, text_outcome, packed_outcome, ReadEnd, read_end, text_read_end, packed_read_end, read_of}
use Rattle.aiger_file.specs.Claims.{Form, ascii, packed, written_in, IsFile, text-file, packed-file, IsWaiting, Refuses, ReadMeans}
use Rattle.aiger_file.proofs.KeptLaws.{kept}

-- ---- which reader answers

module _ (s buf : List ℕ) where
  by_packed : has_tag (byte "i") s ≡ true → read_of s buf ≡ packed_read_end (packed_read_of s buf)
  unfolding read_of
  by_packed h = rw h

  by_text : has_tag (byte "i") s ≡ false → read_of s buf ≡ text_read_end (text_read_of s buf)
  unfolding read_of
  by_text h = rw h

  by_form : {R : Type 0} → (has_tag (byte "i") s ≡ true → R) → (has_tag (byte "i") s ≡ false → R) → R
  by_form {R} f g = go (has_tag (byte "i") s) refl
    where
      go : (t : Bool) → has_tag (byte "i") s ≡ t → R
      go true h = f h
      go false h = g h

  other_word : ((more : List ℕ) → s ≡ bytes "aig " ++ more → ⊥) → read_of s buf ≡ text_read_end (text_read_of s buf)
  other_word none = by_form (λ h. absurd (none (drop 4 s) (tag_at (byte "i") s h).text)) by_text

packed-word : (net : List ℕ) (explicit : ℕ → Bool) → has_tag (byte "i") (packed_with net explicit) ≡ true
unfolding has_tag packed_with packed_header
packed-word net explicit = refl

written-word : (net : List ℕ) (explicit : ℕ → Bool) → has_tag (byte "i") (file_with net explicit) ≡ false
unfolding has_tag file_with header_row
written-word net explicit = refl

text-word : {s loose : List ℕ} → IsText s loose → has_tag (byte "i") s ≡ false
unfolding has_tag file_by file_to header_row
text-word f = ap (has_tag (byte "i")) f.is

-- no text is a file in both forms
apart : (s loose other : List ℕ) (explicit : ℕ → Bool) → IsText s loose → s ≡ packed_with other explicit → ⊥
apart s loose other explicit f e = true≢false (sym (packed-word other explicit) ∙ sym (ap (has_tag (byte "i")) e) ∙ text-word f)

-- ---- the answers of each form among those of either

text-numbered : (cause : TextCause) → refusal_of (text_cause cause) ≡ text_refusal_of cause
unfolding refusal_of text_cause text_refusal_of
text-numbered text.TextTooLong = refl
text-numbered text.ShortBuffer = refl
text-numbered (text.FaultyLine WrongShape line) = refl
text-numbered (text.FaultyLine OutOfLimits line) = refl
text-numbered text.WaitingGates = refl

packed-numbered : (cause : PackedCause) → refusal_of (packed_cause cause) ≡ packed_refusal_of cause
unfolding refusal_of packed_cause packed_refusal_of
packed-numbered pack.TextTooLong = refl
packed-numbered pack.ShortBuffer = refl
packed-numbered (pack.FaultyLine WrongShape line) = refl
packed-numbered (pack.FaultyLine OutOfLimits line) = refl
packed-numbered (pack.FaultyRun WrongShape) = refl
packed-numbered (pack.FaultyRun OutOfLimits) = refl

-- the two parts of an end
abbrev answer : ReadEnd → Result ℕ Cause
answer e = e.answer

abbrev left : ReadEnd → List ℕ
left e = e.net

module _ (s buf : List ℕ) where
  text-taken : (n : ℕ) (after : List ℕ) → read_of s buf ≡ text_read_end (text_read_of s buf) → text_read_of s buf ≡ text_end (Ok n) after → read_of s buf ≡ read_end (Ok n) after
  unfolding text_read_end text_outcome
  text-taken n after e h = e ∙ rw h

  text-refused : (cause : TextCause) (after : List ℕ) → read_of s buf ≡ text_read_end (text_read_of s buf) → text_read_of s buf ≡ text_end (Err cause) after → read_of s buf ≡ read_end (Err (text_cause cause)) after
  unfolding text_read_end text_outcome
  text-refused cause after e h = e ∙ rw h

  packed-taken : (n : ℕ) (after : List ℕ) → read_of s buf ≡ packed_read_end (packed_read_of s buf) → packed_read_of s buf ≡ packed_end (Ok n) after → read_of s buf ≡ read_end (Ok n) after
  unfolding packed_read_end packed_outcome
  packed-taken n after e h = e ∙ rw h

  packed-refused : (cause : PackedCause) (after : List ℕ) → read_of s buf ≡ packed_read_end (packed_read_of s buf) → packed_read_of s buf ≡ packed_end (Err cause) after → read_of s buf ≡ read_end (Err (packed_cause cause)) after
  unfolding packed_read_end packed_outcome
  packed-refused cause after e h = e ∙ rw h

-- what is read as numbers was so by the reader of the form
text-numbers : (n : ℕ) (a : Result ℕ TextCause) → text_outcome a ≡ Ok n → a ≡ Ok n
unfolding text_outcome
text-numbers n (Ok m) h = cc
text-numbers n (Err cause) h = cc

packed-numbers : (n : ℕ) (a : Result ℕ PackedCause) → packed_outcome a ≡ Ok n → a ≡ Ok n
unfolding packed_outcome
packed-numbers n (Ok m) h = cc
packed-numbers n (Err cause) h = cc

-- and gates that wait are told by that of the text form alone
text-waits : (a : Result ℕ TextCause) → text_outcome a ≡ Err WaitingGates → a ≡ Err text.WaitingGates
unfolding text_outcome text_cause
text-waits (Ok n) h = cc
text-waits (Err text.TextTooLong) h = cc
text-waits (Err text.ShortBuffer) h = cc
text-waits (Err (text.FaultyLine fault line)) h = cc
text-waits (Err text.WaitingGates) h = refl

packed-waits : (a : Result ℕ PackedCause) → packed_outcome a ≡ Err WaitingGates → true ≡ false
unfolding packed_outcome packed_cause
packed-waits (Ok n) h = cc
packed-waits (Err pack.TextTooLong) h = cc
packed-waits (Err pack.ShortBuffer) h = cc
packed-waits (Err (pack.FaultyLine fault line)) h = cc
packed-waits (Err (pack.FaultyRun fault)) h = cc

-- ---- a text of neither word

neither : (s buf : List ℕ) → ((more : List ℕ) → s ≡ bytes "aig " ++ more → ⊥) → ((more : List ℕ) → s ≡ bytes "aag " ++ more → ⊥) → length s ≤ 65536 → Refuses s buf (FaultyLine WrongShape 1)
unfolding text_read_end text_outcome text_cause text_read_of text_read_as file_read head_at on_head
neither s buf packs texts l = go (has_tag (byte "a") s) refl
  where
    go : (t : Bool) → has_tag (byte "a") s ≡ t → Refuses s buf (FaultyLine WrongShape 1)
    go true h = absurd (texts (drop 4 s) (tag_at (byte "a") s h).text)
    go false h = other_word s buf packs ∙ rw (le-leb (length s) max_text l, h)

-- THE CLAIM, from those of the two readers
module _ (p : PackedMeans) (t : TextMeans) where
  of_packed : {s net : List ℕ} → IsPacked s net → IsFile s net
  of_packed f = packed-file f.explicit f.netlist f.exact f.is

  takes : (s net buf : List ℕ) → IsFile s net → length net ≤ length buf → read_of s buf ≡ read_end (Ok (length net)) (net ++ drop (length net) buf)
  takes s net buf (text-file loose f g) l = text-taken s buf _ _ (by_text s buf (text-word f)) (t.takes s loose net buf f g l)
  takes s net buf (packed-file explicit h e is) l =
      packed-taken s buf _ _ (by_packed s buf (ap (has_tag (byte "i")) is ∙ packed-word net explicit))
      (p.takes s net buf (record { netlist = h; exact = e; explicit = explicit; is = is }) l)

  short : (s net buf : List ℕ) → IsFile s net → length buf < length net → Refuses s buf ShortBuffer
  unfolding text_cause packed_cause
  short s net buf (text-file loose f g) l = text-refused s buf text.ShortBuffer buf (by_text s buf (text-word f)) (t.short s loose net buf f g l)
  short s net buf (packed-file explicit h e is) l =
      packed-refused s buf pack.ShortBuffer buf (by_packed s buf (ap (has_tag (byte "i")) is ∙ packed-word net explicit))
      (p.short s net buf (record { netlist = h; exact = e; explicit = explicit; is = is }) l)

  waits : (s buf : List ℕ) → IsWaiting s → Refuses s buf WaitingGates
  unfolding text_cause
  waits s buf w = text-refused s buf text.WaitingGates buf (by_text s buf (text-word w.file)) (t.waits s w.loose buf w.file w.stuck)

  only : (s buf : List ℕ) (n : ℕ) (after : List ℕ) → ((k : ℕ) → get_or s k 0 < 256) → read_of s buf ≡ read_end (Ok n) after
      → (net : List ℕ) × IsFile s net × (is_netlist net ≡ true) × (n ≡ length net) × (after ≡ net ++ drop n buf)
  unfolding text_read_end packed_read_end
  only s buf n after each h =
      by_form s buf
      (λ tag.
      let e = sym (by_packed s buf tag) ∙ h in
      let x = p.only s buf n after each (ap₂ packed_end (packed-numbers n _ (ap answer e)) (ap left e)) in
      (x.0, of_packed x.1, x.1.netlist, x.2, x.3))
      (λ tag.
      let e = sym (by_text s buf tag) ∙ h in
      let x = t.only s buf n after (ap₂ text_end (text-numbers n _ (ap answer e)) (ap left e)) in
      (x.1, text-file x.0 x.2 x.3, (t.means s x.0 x.1 x.2 x.3).0, x.4, x.5))

  stuck : (s buf after : List ℕ) → read_of s buf ≡ read_end (Err WaitingGates) after → IsWaiting s
  unfolding text_read_end packed_read_end
  stuck s buf after h =
      by_form s buf
      (λ tag. absurd (true≢false (packed-waits _ (ap answer (sym (by_packed s buf tag) ∙ h)))))
      (λ tag.
      let e = sym (by_text s buf tag) ∙ h in
      let x = t.stuck s buf after (ap₂ text_end (text-waits _ (ap answer e)) (ap left e)) in
      record { loose = x.0; file = x.1; stuck = x.2 })

  long : (s buf : List ℕ) → 65536 < length s → Refuses s buf TextTooLong
  unfolding text_cause packed_cause
  long s buf l =
      by_form s buf
      (λ e. packed-refused s buf pack.TextTooLong buf (by_packed s buf e) (p.long s buf l))
      (λ e. text-refused s buf text.TextTooLong buf (by_text s buf e) (t.long s buf l))

  abbrev Faulty : List ℕ → List ℕ → Type 0
  Faulty s buf = ((fault : Fault) × (line : ℕ) × Refuses s buf (FaultyLine fault line)) ⊎ ((fault : Fault) × Refuses s buf (FaultyRun fault))

  other : (s buf : List ℕ) → ((k : ℕ) → get_or s k 0 < 256) → length s ≤ 65536 → ((net : List ℕ) → IsFile s net → ⊥) → (IsWaiting s → ⊥) → Faulty s buf
  unfolding text_cause packed_cause
  other s buf each l none free =
      by_form s buf
      (λ e. in_packed e (p.other s buf each l (λ net f. none net (of_packed f))))
      (λ e.
      let x = t.other s buf l (λ loose f. no_text loose f (t.either s loose f)) in
      inl (x.0, x.1, text-refused s buf (text.FaultyLine x.0 x.1) buf (by_text s buf e) x.2))
    where
      in_packed : has_tag (byte "i") s ≡ true
          → ((fault : Fault) × (line : ℕ) × (packed_read_of s buf ≡ packed_end (Err (pack.FaultyLine fault line)) buf)) ⊎ ((fault : Fault) × (packed_read_of s buf ≡ packed_end (Err (pack.FaultyRun fault)) buf))
          → Faulty s buf
      in_packed e (inl x) = inl (x.0, x.1, packed-refused s buf (pack.FaultyLine x.0 x.1) buf (by_packed s buf e) x.2)
      in_packed e (inr x) = inr (x.0, packed-refused s buf (pack.FaultyRun x.0) buf (by_packed s buf e) x.1)

      no_text : (loose : List ℕ) → IsText s loose → ((net : List ℕ) × PlacedAs loose net) ⊎ Stuck loose → ⊥
      no_text loose f (inl x) = none x.0 (text-file loose f x.1)
      no_text loose f (inr x) = free (record { loose = loose; file = f; stuck = x })

  -- ---- what was written

  back : (form : Form) (net buf : List ℕ) → is_netlist net ≡ true → size_of net ≤ length buf
      → read_of (written_in form net) buf ≡ read_end (Ok (size_of net)) (take (size_of net) net ++ drop (size_of net) buf)
  unfolding written_in file_of packed_of
  back packed net buf h l = packed-taken _ buf _ _ (by_packed _ buf (packed-word net (λ _. false))) (p.back net buf h l)
  back ascii net buf h l = text-taken _ buf _ _ (by_text _ buf (written-word net (λ _. false))) (t.back net buf h l)

  -- the surplus of a netlist is not written
  no_room : (form : Form) (net buf : List ℕ) → is_netlist net ≡ true → length buf < size_of net → Refuses (written_in form net) buf ShortBuffer
  unfolding written_in file_of packed_of text_cause
  no_room packed net buf h l =
      short _ (take (size_of net) net) buf
      (packed-file (λ _. false) (trimmed_netlist net h) (trimmed_length net h ∙ sym (trimmed_size net)) (sym (trimmed_packed net (λ _. false))))
      (rw (trimmed_length net h) l)
  no_room ascii net buf h l =
      text-refused _ buf text.ShortBuffer buf (by_text _ buf (written-word net (λ _. false)))
      (ap (λ s. text_read_of s buf) (sym (trimmed_file net (λ _. false)))
      ∙ t.before-short (take (size_of net) net) buf (λ _. false) (trimmed_netlist net h) (trimmed_length net h ∙ sym (trimmed_size net)) (rw (trimmed_length net h) l))

  either : (form shape : Form) (net buf : List ℕ) → is_netlist net ≡ true → read_of (written_in form net) buf ≡ read_of (written_in shape net) buf
  either form shape net buf h = go (dec_lt (length buf) (size_of net))
    where
      go : Dec (length buf < size_of net) → read_of (written_in form net) buf ≡ read_of (written_in shape net) buf
      go (yes l) = no_room form net buf h l ∙ sym (no_room shape net buf h l)
      go (no l) = back form net buf h (omega arith) ∙ sym (back shape net buf h (omega arith))

  same : (form shape : Form) (net other : List ℕ) → is_netlist net ≡ true → is_netlist other ≡ true → written_in form net ≡ written_in shape other → take (size_of net) net ≡ take (size_of other) other
  unfolding written_in file_of packed_of
  same packed packed net other h g e = p.same net other h g e
  same ascii ascii net other h g e = t.same net other h g e
  same packed ascii net other h g e =
      absurd (true≢false (sym (packed-word net (λ _. false)) ∙ ap (has_tag (byte "i")) e ∙ written-word other (λ _. false)))
  same ascii packed net other h g e =
      absurd (true≢false (sym (packed-word other (λ _. false)) ∙ sym (ap (has_tag (byte "i")) e) ∙ written-word net (λ _. false)))

  means : ReadMeans
  unfolding has_tag written_in file_of packed_of refusal_of packed_cause
  means =
      record {
        ends = λ r n. (refl, refl);
        numbered = λ line. (refl, refl, refl, refl, refl, refl, refl);
        word = λ more buf n after. packed-taken (bytes "aig " ++ more) buf n after (by_packed _ buf refl);
        word-told = λ more buf cause after h. (packed_cause cause, packed-refused (bytes "aig " ++ more) buf cause after (by_packed _ buf refl) h, packed-numbered cause);
        run-told = λ more buf fault after. packed-refused (bytes "aig " ++ more) buf (pack.FaultyRun fault) after (by_packed _ buf refl);
        taken = λ s buf n after none. text-taken s buf n after (other_word s buf none);
        told = λ s buf cause after none h. (text_cause cause, text-refused s buf cause after (other_word s buf none) h, text-numbered cause);
        neither = neither;
        takes = takes;
        short = short;
        waits = waits;
        only = only;
        stuck = stuck;
        long = long;
        other = other;
        kept = kept;
        plain = λ net. (refl, refl);
        written = λ net. (refl, refl);
        back = back;
        either = either;
        same = same;
        apart = apart;
      }

pub read-means : ReadMeans
read-means = means packed-means text-means
