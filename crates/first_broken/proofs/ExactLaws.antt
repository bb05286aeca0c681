-- The clauses `checks` and `first` leave nothing open: an answer of which one holds is what the definition gives, and of
-- what is handed back two answers of which one holds are the same. Assumes nothing.
use Rattle.std.specs.Prelude.{Result, Ok, Err}
use mathlib.Core.Path.{◌≡◌, refl, sym, ap, ◌∙◌}
use mathlib.Core.Bool.{Bool, true, false}
use mathlib.Core.Logic.{⊎_elim}
use mathlib.Core.List.{List, [], ◌∷◌, ◌++◌, append_assoc}
use Prim.Native.Nat.{ℕ, zero, suc, ◌+◌, ◌<◌}
use native.Mathlib.Omega.{arith}
use lib.Dec.{leb}
use borrow.Author.Tests.{leb-true, leb-false}
use lib.ListN.{length, get_or, take, drop, length-append}
use lib.Seq.{take_at, drop_at}
use Rattle.trace.specs.Traces.{is_cycle, fault_of, cycles_of}
use Rattle.trace.specs.Claims.{Cycles, lines_of, FirstWrong}
use Rattle.trace.proofs.TraceLaws.{cycle-length}
use Rattle.trace.proofs.LineLaws.{trace-means}
use Rattle.first_broken.specs.declared.refusal.Cause.{Cause}
use Rattle.first_broken.specs.declared.refusal.Cause.TheVariants.{WrongVerdicts}
use Rattle.first_broken.specs.declared.places.Side.TheVariants.{Flywheel, Handle}
use Rattle.first_broken.specs.declared.places.Found.{Found}
use Rattle.first_broken.specs.Refusals.{Measurement, check_of, is_judged}
use Rattle.first_broken.specs.Places.{found_of}
use Rattle.first_broken.specs.Claims.{IsTrace, CheckMeans, RefusedFor, LineAt, BrokenFirst, FoundIn, StandsIn}
use Rattle.first_broken.specs.Claims.CheckMeans.{too_long, wrong-width, flywheel_line, handle_line, wrong-verdicts, fine}
use Rattle.first_broken.specs.Claims.BrokenFirst.{flywheel_broke, handle_broke, neither_broke, refused}
use Rattle.first_broken.proofs.RefusalLaws.{flywheel_long, handle_long, no_width, too_wide, flywheel_wrong, handle_wrong, flywheel_unjudged, handle_unjudged, nothing-wrong, judged, is_judged_lem}
use Rattle.first_broken.proofs.PlaceLaws.{found_first}

-- ---- a trace has one list of cycles, or one first wrong line
module _ (width : ℕ) where
  -- s does not begin with a cycle and its LF
  abbrev Wrong : List ℕ → Type 0
  Wrong s = (c more : List ℕ) → is_cycle width c ≡ true → s ≡ c ++ (10 ∷ more) → ⊥

  after_line_lem : (c s : List ℕ) → is_cycle width c ≡ true → drop (width + 1) (c ++ (10 ∷ s)) ≡ s
  after_line_lem c s i =
      let l = cycle-length width c i in
      rw (← append_assoc c (10 ∷ []) s) (drop_at (c ++ (10 ∷ [])) s (width + 1) (rw length-append (omega arith)))

  -- lines of cycles up to where none follows are as many, however they are counted
  meet : (b d : List (List ℕ)) (r q : List ℕ) → Cycles width b → Cycles width d → lines_of b ++ r ≡ lines_of d ++ q → Wrong r → Wrong q → length b ≡ length d
  unfolding Cycles lines_of
  meet [] [] r q hb hd e wr wq = refl
  meet [] (c ∷ d) r q hb hd e wr wq = absurd (wr c (lines_of d ++ q) hd.0 (e ∙ append_assoc c (10 ∷ lines_of d) q))
  meet (c ∷ b) [] r q hb hd e wr wq = absurd (wq c (lines_of b ++ r) hb.0 (sym e ∙ append_assoc c (10 ∷ lines_of b) r))
  meet (c ∷ b) (x ∷ d) r q hb hd e wr wq =
      let left = append_assoc c (10 ∷ lines_of b) r in
      let right = append_assoc x (10 ∷ lines_of d) q in
      let whole : c ++ (10 ∷ (lines_of b ++ r)) ≡ x ++ (10 ∷ (lines_of d ++ q)) = sym left ∙ e ∙ right in
      let tails : lines_of b ++ r ≡ lines_of d ++ q = sym (after_line_lem c (lines_of b ++ r) hb.0) ∙ ap (drop (width + 1)) whole ∙ after_line_lem x (lines_of d ++ q) hd.0 in
      ap suc (meet b d r q hb.1 hd.1 tails wr wq)

  wrong-none : Wrong []
  wrong-none c more i e = omega (arith, simp length-append at (ap length e))

  append-nil : (s : List ℕ) → s ++ [] ≡ s
  append-nil [] = refl
  append-nil (x ∷ s) = ap (λ (l : List ℕ). x ∷ l) (append-nil s)

  -- nothing is left behind as many lines as there are
  shorter : (b d : List (List ℕ)) (r : List ℕ) → Cycles width b → Cycles width d → length b ≡ length d → lines_of b ++ r ≡ lines_of d ++ [] → 0 < length r → ⊥
  unfolding Cycles lines_of
  shorter [] [] r hb hd m e s = let z = ap length e in omega arith
  shorter [] (c ∷ d) r hb hd m e s = omega arith
  shorter (c ∷ b) [] r hb hd m e s = omega arith
  shorter (c ∷ b) (x ∷ d) r hb hd m e s =
      let left = append_assoc c (10 ∷ lines_of b) r in
      let right = append_assoc x (10 ∷ lines_of d) [] in
      let tails : lines_of b ++ r ≡ lines_of d ++ [] = sym (after_line_lem c (lines_of b ++ r) hb.0) ∙ ap (drop (width + 1)) (sym left ∙ e ∙ right) ∙ after_line_lem x (lines_of d ++ []) hd.0 in
      shorter b d r hb.1 hd.1 (omega arith) tails s

  module _ (t : List ℕ) where
    cycles_unique : (cs : List (List ℕ)) → IsTrace width t cs → cycles_of width t ≡ cs
    cycles_unique cs is = ((trace-means width t).lines cs is.right is.lines).1

    faultless : (cs : List (List ℕ)) → IsTrace width t cs → fault_of width t ≡ 0
    faultless cs is = ((trace-means width t).lines cs is.right is.lines).0

    -- the first wrong line is the one that is told
    first-wrong : (k : ℕ) → FirstWrong width k t → suc k ≡ fault_of width t
    first-wrong k w = go (fault_of width t) refl
      where
        go : (n : ℕ) → fault_of width t ≡ n → suc k ≡ n
        go zero e =
            let whole = (trace-means width t).whole e in
            let cs = cycles_of width t in
            let eq : lines_of w.before ++ w.rest ≡ lines_of cs ++ [] = sym w.apart ∙ whole.0 ∙ sym (append-nil (lines_of cs)) in
            let m = meet w.before cs w.rest [] w.right whole.1 eq w.wrong wrong-none in
            absurd (shorter w.before cs w.rest w.right whole.1 m eq w.some)
        go (suc n) e =
            let v = (trace-means width t).first n e in
            let m = meet w.before v.before w.rest v.rest w.right v.right (sym w.apart ∙ v.apart) w.wrong v.wrong in
            ap suc (sym w.count ∙ m ∙ v.count)

-- ---- the check
module _ (width : ℕ) (f h : Measurement) where
  pub check_exact : (answer : Result Unit Cause) → CheckMeans width f h (RefusedFor answer) (answer ≡ Ok tt) → answer ≡ check_of width f h
  check_exact answer (too_long r l) = r.0 ∙ ⊎_elim (λ a. (flywheel_long width f h a).0) (λ b. (handle_long width f h b).0) l
  check_exact answer (wrong-width r s w) = r.0 ∙ ⊎_elim (λ a. (no_width width f h s a).0) (λ b. (too_wide width f h s b).0) w
  check_exact answer (flywheel_line k r s w) = r.0 ∙ (flywheel_wrong width f h s (suc k) (first-wrong width f.trace k w) (λ q. omega arith)).0
  check_exact answer (handle_line k cs r s t w) = r.0 ∙ (handle_wrong width f h s (faultless width f.trace cs t) (suc k) (first-wrong width h.trace k w) (λ q. omega arith)).0
  check_exact answer (wrong-verdicts cs ds r s t u n) = r.0 ∙ go (is_judged width f) refl (is_judged width h) refl
    where
      go : (a : Bool) → is_judged width f ≡ a → (b : Bool) → is_judged width h ≡ b → Err WrongVerdicts ≡ check_of width f h
      go false e b d = (flywheel_unjudged width f h s (faultless width f.trace cs t) (faultless width h.trace ds u) e).0
      go true e false d = (handle_unjudged width f h s (faultless width f.trace cs t) (faultless width h.trace ds u) d).0
      go true e true d = absurd (n (rw (cycles_unique width f.trace cs t) at (judged width f e)) (rw (cycles_unique width h.trace ds u) at (judged width h d)))
  check_exact answer (fine cs ds p s t u j k) =
      p ∙ (nothing-wrong width f h s (faultless width f.trace cs t) (faultless width h.trace ds u)
      (is_judged_lem width f (rw (← cycles_unique width f.trace cs t) at j)) (is_judged_lem width h (rw (← cycles_unique width h.trace ds u) at k))).0

-- ---- the part
module _ (width : ℕ) where
  -- what stands at place n of two lists that are the same
  place : (n : ℕ) (b d : List (List ℕ)) (x y : List ℕ) (p q : List (List ℕ)) → length b ≡ n → length d ≡ n → b ++ (x ∷ p) ≡ d ++ (y ∷ q) → (length (lines_of b) ≡ length (lines_of d)) × (x ≡ y)
  place n b d x y p q lb ld e =
      let front : b ≡ d = sym (take_at b (x ∷ p) n lb) ∙ ap (take n) e ∙ take_at d (y ∷ q) n ld in
      let back : x ∷ p ≡ y ∷ q = sym (drop_at b (x ∷ p) n lb) ∙ ap (drop n) e ∙ drop_at d (y ∷ q) n ld in
      (ap (λ (l : List (List ℕ)). length (lines_of l)) front, ap (λ (l : List (List ℕ)). get_or l 0 []) back)

  -- cycle n has one place and one line
  line_unique : (n : ℕ) (t : List ℕ) (at to : ℕ) (l m : List ℕ) → LineAt width n t at l → LineAt width n t to m → (at ≡ to) × (l ≡ m)
  line_unique n t at to l m a b =
      let e = sym (cycles_unique width t _ a.whole) ∙ cycles_unique width t _ b.whole in
      let s = place n a.before b.before l m a.after b.after a.count b.count e in
      (sym a.place ∙ s.0 ∙ b.place, s.1)

-- two answers tell the same line at the same place of the same trace
pub data Same (F G H I : ℕ → List ℕ → Type 0) : Type 0 where
  same_flywheel : (at : ℕ) (line : List ℕ) → F at line → G at line → Same F G H I
  same_handle : (at : ℕ) (line : List ℕ) → H at line → I at line → Same F G H I

fine-refused : (cause : Cause) → ◌≡◌ {A = Result Unit Cause} (Ok tt) (Err cause) → ⊥
fine-refused cause e = let z : ◌≡◌ {A = ℕ} 0 1 = cc in omega arith

order : (n m : ℕ) → (n < m → ⊥) → (m < n → ⊥) → n ≡ m
order n m a b = go (leb (suc n) m) refl (leb (suc m) n) refl
  where
    go : (s : Bool) → leb (suc n) m ≡ s → (t : Bool) → leb (suc m) n ≡ t → n ≡ m
    go true e t d = absurd (a (leb-true (suc n) m e))
    go false e true d = absurd (b (leb-true (suc m) n d))
    go false e false d = let x = leb-false (suc n) m e in let y = leb-false (suc m) n d in omega arith

module _ (width : ℕ) (f h : Measurement) (F G H I : ℕ → List ℕ → Type 0) where
  pub part-exact : BrokenFirst width f h F H → BrokenFirst width f h G I → Same F G H I
  part-exact (flywheel_broke n at l p w c r none) (flywheel_broke m to k q v d s nil) =
      let e = order n m (λ a. let z = (nil n a).0 in omega arith) (λ a. let z = (none m a).0 in omega arith) in
      let u = line_unique width n f.trace at to l k w (rw (← e) at v) in
      same_flywheel at l p (rw (← u.0, ← u.1) at q)
  part-exact (flywheel_broke n at l p w c r none) (handle_broke m to k q v d s x nil) =
      let e = order n m (λ a. let z = (nil n a).0 in omega arith) (λ a. let z = (none m a).1 in omega arith) in
      absurd (let z : get_or f.verdicts n 0 ≡ 0 = rw e x in omega arith)
  part-exact (flywheel_broke n at l p w c r none) (neither_broke q d nil) = absurd (let z = (nil n).0 in omega arith)
  part-exact (flywheel_broke n at l p w c r none) (refused cause q d) = absurd (fine-refused cause (sym c ∙ d))
  part-exact (handle_broke n at l p w c r y none) (flywheel_broke m to k q v d s nil) =
      let e = order n m (λ a. let z = (nil n a).1 in omega arith) (λ a. let z = (none m a).0 in omega arith) in
      absurd (let z : get_or f.verdicts m 0 ≡ 0 = rw (← e) y in omega arith)
  part-exact (handle_broke n at l p w c r y none) (handle_broke m to k q v d s x nil) =
      let e = order n m (λ a. let z = (nil n a).1 in omega arith) (λ a. let z = (none m a).1 in omega arith) in
      let u = line_unique width n h.trace at to l k w (rw (← e) at v) in
      same_handle at l p (rw (← u.0, ← u.1) at q)
  part-exact (handle_broke n at l p w c r y none) (neither_broke q d nil) = absurd (let z = (nil n).1 in omega arith)
  part-exact (handle_broke n at l p w c r y none) (refused cause q d) = absurd (fine-refused cause (sym c ∙ d))
  part-exact (neither_broke p c none) (flywheel_broke m to k q v d s nil) = absurd (let z = (none m).0 in omega arith)
  part-exact (neither_broke p c none) (handle_broke m to k q v d s x nil) = absurd (let z = (none m).1 in omega arith)
  part-exact (neither_broke p c none) (neither_broke q d nil) = same_flywheel 0 [] p q
  part-exact (neither_broke p c none) (refused cause q d) = absurd (fine-refused cause (sym c ∙ d))
  part-exact (refused cause p c) (flywheel_broke m to k q v d s nil) = absurd (fine-refused cause (sym d ∙ c))
  part-exact (refused cause p c) (handle_broke m to k q v d s x nil) = absurd (fine-refused cause (sym d ∙ c))
  part-exact (refused cause p c) (neither_broke q d nil) = absurd (fine-refused cause (sym d ∙ c))
  part-exact (refused cause p c) (refused other q d) = same_flywheel 0 [] p q

-- the clause of find alone gives its equality
pub find_exact : (width : ℕ) (f h : Measurement) (answer : Found) → BrokenFirst width f h (FoundIn answer Flywheel) (FoundIn answer Handle) → answer ≡ found_of width f h
find_exact width f h answer b = go (part-exact width f h _ _ _ _ b (found_first width f h (found_of width f h) refl))
  where
    go : Same (FoundIn answer Flywheel) (FoundIn (found_of width f h) Flywheel) (FoundIn answer Handle) (FoundIn (found_of width f h) Handle) → answer ≡ found_of width f h
    go (same_flywheel at line p q) = p ∙ sym q
    go (same_handle at line p q) = p ∙ sym q

-- two answers of which the clause of first_broken holds stand in one place and are the same bytes
module _ (width : ℕ) (f h : Measurement) (fp hp p q : ℕ × ℕ) (s t : List ℕ) where
  pub first-exact : BrokenFirst width f h (StandsIn p s fp) (StandsIn p s hp) → BrokenFirst width f h (StandsIn q t fp) (StandsIn q t hp)
      → (p.0 ≡ q.0) × (p.1 ≡ q.1) × (s ≡ t)
  first-exact x y = go (part-exact width f h _ _ _ _ x y)
    where
      go : Same (StandsIn p s fp) (StandsIn q t fp) (StandsIn p s hp) (StandsIn q t hp) → (p.0 ≡ q.0) × (p.1 ≡ q.1) × (s ≡ t)
      go (same_flywheel at line a b) = (a.block ∙ sym b.block, a.offset ∙ sym b.offset, a.same ∙ sym b.same)
      go (same_handle at line a b) = (a.block ∙ sym b.block, a.offset ∙ sym b.offset, a.same ∙ sym b.same)
