-- What the unjoined children of a reached piece hold makes one stack with what it holds; no frame goes before its children
-- are joined, and what joins comes back.
use Rattle.std.proofs.Common.{◌≡◌, ℕ, suc, ◌+◌, ◌<◌, ◌≤◌, List, [], ◌∷◌, length, Option, refl, sym, ap, ◌∙◌, subst, arith, inl, inr}
use Rattle.std.specs.Prelude.{◌-◌, ◌⊎◌, ◌≢◌, Bool, true, false, ℤ, ⊤}
use Rattle.cm_syntax.specs.declared.stmt.Program.{Program}
use Rattle.cm_syntax.specs.Fault.{IsSoundProgram}
use Rattle.cm_syntax.specs.Lending.{IsAccepted}
use Rattle.cm_syntax.specs.Label.{silent, syncs, ends}
use Rattle.cm_syntax.specs.Cell.{is_held, may_write}
use Rattle.cm_syntax.specs.Stack.{Stack, Destination, StackSum}
use Rattle.cm_syntax.specs.Rest.{Control}
use Rattle.cm_syntax.specs.Step.{step, depth}
use Rattle.cm_syntax.proofs.CellLaw.{cell_comm, cell_alone, not_held, held_left, held_parts}
use Rattle.cm_meaning.specs.End.{End, Done, Trapped, Spent}
use Rattle.cm_meaning.specs.Piece as pieces
use Rattle.cm_meaning.specs.Piece.{IsDone, runs_out, Answer, awaited, told, printed, child, HasNote, here, deeper}
use Rattle.cm_meaning.specs.Meaning.{Limits, Ask, Note, Piece, Goes, Reached, Stops, begun, main_ask}
use Rattle.cm_meaning.specs.Activation.{base}
use Rattle.cm_meaning.specs.Leads.{Collects, Counts, AreDone, joined_piece}
use Rattle.cm_meaning.specs.Shift.{Shifts, stays, comes, goes, ShiftsCalls}
use Rattle.cm_meaning.specs.Loan.{floor_of, floor, HasUnjoined, loan, IsLoan, Loans, IsWithChild, IsOneStack}
use Rattle.cm_meaning.proofs.SumLaw.{same as same_sum, under_more, under_sum}
use Rattle.cm_meaning.proofs.SettledLaw.{Moves, good_law}
use Rattle.cm_meaning.proofs.LoanLaw.{loans_under, joined_loans}
use Rattle.cm_meaning.proofs.ForkMeaning.{floor_low}
use Rattle.cm_meaning.proofs.GuardPieceLaw.{put, put_calls}
use Rattle.cm_meaning.proofs.AskLaw.{Every, Stays, every_joined, every_goes, every_ask}
use Rattle.cm_meaning.proofs.ExistenceLaw.{at_most}
use Rattle.cm_meaning.proofs.SomeEndLaw.{reached_joins}
use Rattle.cm_meaning.proofs.ShiftLaw.{shift}
use Rattle.cm_meaning.proofs.CheckedLaw.{Fine, reached_fine}

-- what the children hold is one stack
pub same_loans : (b n c m : ℕ) (log : List Note) (o u : Stack) → Loans b n log o → Loans c m log u → o ≡ u
same_loans b n c m [] o u e f = e ∙ sym f
same_loans b n c m (printed v ∷ log) o u e f = same_loans b n c m log o u e f
same_loans b n c m (child d at x true q r ∷ log) o u e f = same_loans b n c m log o u e f
same_loans b n c m (child d at x false q r ∷ log) o u e f = same_sum e.2 (subst (λ z. StackSum (loan x q r) z u) (sym (same_loans b n c m log e.0 f.0 e.1 f.1)) f.2)

-- a word of it is with some child
child_with : (b n : ℕ) (log : List Note) (o : Stack) (d s i : ℕ) → Loans b n log o → is_held (o.words d s i) ≡ true → IsWithChild log d s i
child_with b n [] o d s i e h = absurd (not_held (o.words d s i) (ap (λ z. z.words d s i) e) h)
child_with b n (printed v ∷ log) o d s i e h = let w = child_with b n log o d s i e h in (w.0, w.1, w.2, w.3, w.4, deeper w.5, w.6)
child_with b n (child k at x true q r ∷ log) o d s i e h = let w = child_with b n log o d s i e h in (w.0, w.1, w.2, w.3, w.4, deeper w.5, w.6)
child_with b n (child k at x false q r ∷ log) o d s i e h = elim (held_parts ((loan x q r).words d s i) (e.0.words d s i) (o.words d s i) (e.2.words d s i) h) [
  | inl p ↦ (k, at, x, q, r, here, p)
  | inr p ↦ let w = child_with b n log e.0 d s i e.1 p in (w.0, w.1, w.2, w.3, w.4, deeper w.5, w.6)
]

-- and what a child holds is in it
with_child : {log : List Note} {k at : ℕ} {x : Destination} {q : Ask} {r : Answer Control Stack Destination} → HasNote Control Stack Destination log (child k at x false q r) → (b n : ℕ) (o : Stack) (d s i : ℕ) → Loans b n log o
    → is_held ((loan x q r).words d s i) ≡ true → is_held (o.words d s i) ≡ true
with_child {x = x} {q = q} {r = r} here b n o d s i e h = held_left ((loan x q r).words d s i) (e.0.words d s i) (o.words d s i) (e.2.words d s i) h
with_child (deeper {m = printed v} y) b n o d s i e h = with_child y b n o d s i e h
with_child (deeper {m = child k own y true p a} z) b n o d s i e h = with_child z b n o d s i e h
with_child (deeper {m = child k own y false p a} z) b n o d s i e h =
    held_left (e.0.words d s i) ((loan y p a).words d s i) (o.words d s i) (cell_comm ((loan y p a).words d s i) (e.0.words d s i) (o.words d s i) (e.2.words d s i)) (with_child z b n e.0 d s i e.1 h)

pub words_with : (b n : ℕ) (log : List Note) (o : Stack) (d s i : ℕ) → Loans b n log o → (is_held (o.words d s i) ≡ true → IsWithChild log d s i) × (IsWithChild log d s i → is_held (o.words d s i) ≡ true)
words_with b n log o d s i e = (child_with b n log o d s i e, λ w. with_child w.5 b n o d s i e w.6)

-- each unjoined child is of such a frame
unjoined_loan : {log : List Note} {d at : ℕ} {x : Destination} {q : Ask} {r : Answer Control Stack Destination} → HasNote Control Stack Destination log (child d at x false q r) → (b n : ℕ) (o : Stack) → Loans b n log o → IsLoan b n d (loan x q r)
unjoined_loan here b n o e = e.3
unjoined_loan (deeper {m = printed v} i) b n o e = unjoined_loan i b n o e
unjoined_loan (deeper {m = child k own y true p a} i) b n o e = unjoined_loan i b n o e
unjoined_loan (deeper {m = child k own y false p a} i) b n o e = unjoined_loan i b n e.0 e.1

-- a child that is joined is Done
abbrev JoinedIsDone : (depth : ℕ) (joined : Bool) → Ask → Answer Control Stack Destination → Type 0
JoinedIsDone d false q r = ⊤
JoinedIsDone d true q awaited = ⊥
JoinedIsDone d true q (told e w) = IsDone e

done_stays : Stays JoinedIsDone
done_stays = record { joins = λ d q out v m w a. tt; hears = by; gives = λ d q out v m w rest a. tt }
  where
    by : (d : ℕ) (j : Bool) (q : Ask) (e : End) (w : Stack) → JoinedIsDone d j q awaited → JoinedIsDone d j q (told e w)
    by d false q e w a = tt
    by d true q e w a = absurd a

-- so the joined ones are counted
abbrev some_count : (log : List Note) → Every JoinedIsDone log → (m : ℕ) × Counts log m
some_count [] a = (0, pieces.none)
some_count (printed v ∷ log) a = let k = some_count log a in (k.0, pieces.past k.1)
some_count (child d at x false q r ∷ log) a = let k = some_count log a.1 in (k.0, pieces.skipped k.1)
some_count (child d at x true q awaited ∷ log) a = absurd a.0
some_count (child d at x true q (told (Trapped out t m) w) ∷ log) a = absurd a.0
some_count (child d at x true q (told Spent w) ∷ log) a = absurd a.0
some_count (child d at x true q (told (Done out v m) w) ∷ log) a = let k = some_count log a.1 in (k.0 + m, pieces.counted k.1)

-- and no count is less
least_count : {n : ℕ} {log : List Note} → Counts log n → (a : Every JoinedIsDone log) → (some_count log a).0 ≤ n
least_count pieces.none a = omega arith
least_count (pieces.past k) a = least_count k a
least_count (pieces.skipped k) a = least_count k a.1
least_count (pieces.counted {log = log} {j = false} {n = n} {m = m} k) a = with_it (some_count log a.1).0 n (least_count k a.1)
  where
    with_it : (s n : ℕ) → s ≤ n → s ≤ n + m
    with_it s n l = omega (arith, l)
least_count (pieces.counted {log = log} {j = true} {n = n} {m = m} k) a = with_it (some_count log a.1).0 n (least_count k a.1)
  where
    with_it : (s n : ℕ) → s ≤ n → s + m ≤ n + m
    with_it s n l = omega (arith, l)

module _ (program : Program) (page : ℕ) (input : List ℤ) where
  abbrev Joins : (d : ℕ) (log : List Note) (h : Stack) (later : List Note) (g : Stack) → Type 0
  Joins d log h later g = Collects program page input d log h later g

  -- what joins is Done
  joined_done : {d k own : ℕ} {y : Destination} {q : Ask} {r : Answer Control Stack Destination} {log later : List Note} {h g : Stack} → Joins d log h later g → HasNote Control Stack Destination log (child k own y false q r) → k ≡ d
      → (out : List ℤ) × (v : Option ℤ) × (n : ℕ) × (w : Stack) × (r ≡ told (Done out v n) w)
  joined_done pieces.none i e = elim i [ ]
  joined_done (pieces.past j) (deeper i) e = joined_done j i e
  joined_done (pieces.before j) (deeper i) e = joined_done j i e
  joined_done (pieces.other ne j) here e = absurd (ne e)
  joined_done (pieces.other ne j) (deeper i) e = joined_done j i e
  joined_done (pieces.taken {m = m} {out = out} {v = v} {w = w} s j) here e = (out, v, m, w, refl)
  joined_done (pieces.taken s j) (deeper i) e = joined_done j i e

  -- and nothing is left
  none_left : {d k own : ℕ} {y : Destination} {q : Ask} {r : Answer Control Stack Destination} {log later : List Note} {h g : Stack} → Joins d log h later g → HasNote Control Stack Destination later (child k own y false q r) → k ≢ d
  none_left pieces.none i = elim i [ ]
  none_left (pieces.past j) (deeper i) = none_left j i
  none_left (pieces.before j) (deeper i) = none_left j i
  none_left (pieces.other ne j) here = ne
  none_left (pieces.other ne j) (deeper i) = none_left j i
  none_left (pieces.taken s j) (deeper i) = none_left j i

  joined_are_done : (first : Ask) (p : Piece) → Reached program page input (begun first) p → Every JoinedIsDone p.log
  joined_are_done first p r = every_ask program page input (begun first) JoinedIsDone (λ p q r a g. every_goes program page input JoinedIsDone done_stays (λ d q. tt) g a) p tt r

module _ (program : Program) (input : List ℤ) (limits : Limits) (sound : IsSoundProgram program) (accepted : IsAccepted program) (p : Piece)
    (r : Reached program limits.page input (begun (main_ask program limits)) p) where
  fine : Fine program input limits sound accepted p
  fine = reached_fine program input limits sound accepted p r

  abbrev c : Control
  c = p.control

  -- ---- one stack

  pub one_stack : IsOneStack p.control p.held p.log
  one_stack = record {
    loans = fine.loans;
    one = fine.middle;
    owes = fine.owes;
    sum = fine.inner;
    frames = record {
      words = λ d s i l m. ap may_write (sym (cell_alone (fine.middle.words d s i) (fine.outside.words d s i) (fine.whole.words d s i) (fine.sum.words d s i) (fine.under.words d s i l))) ∙ fine.typed_.words d s i (live d m);
      references = λ d s l m. ap may_write (sym (cell_alone (fine.middle.references d s) (fine.outside.references d s) (fine.whole.references d s) (fine.sum.references d s) (fine.under.references d s l))) ∙ fine.typed_.references d s (live d m);
      below = under_sum fine.inner fine.settled.below (under_more (floor_low (length c.calls) c.rest) (loans_under (base c) (floor c) p.log fine.loans fine.owes));
    };
  }
    where
      live : (d : ℕ) → d < length c.calls → d < length (put fine.around c).calls
      live d l = subst (λ z. d < length z) (sym (put_calls fine.around c)) l

  -- ---- frames

  pub below_floor : (d : ℕ) → HasUnjoined d p.log → (base c ≤ d) × (d < floor c)
  below_floor d u = let l = unjoined_loan u.4 (base c) (floor c) fine.loans fine.owes in (l.from, l.to)

  pub floor_rises : (d : Control) (g : Stack) → step program limits.page input c p.held ≡ silent d g → floor c ≤ floor d
  floor_rises d g e =
      let m : Moves c p.held (silent d g) = subst (Moves c p.held) e (good_law program limits.page input c p.held fine.settled).moves in
      m.0

  pub none_gone : (f : ℕ) (d : Control) (g : Stack) → step program limits.page input c p.held ≡ silent d g → c.calls ≡ f ∷ d.calls → HasUnjoined (length d.calls) p.log → ⊥
  none_gone f d g e is u = by (subst (ShiftsCalls c) e (shift program limits.page input c p.held))
    where
      l : length d.calls < floor c
      l = (below_floor (length d.calls) u).1

      n : length c.calls ≡ suc (length d.calls)
      n = ap length is

      by : Shifts c d → ⊥
      by (stays s) = let m = ap length s.0 in omega (arith, m, n)
      by (comes k ws q i m) = let o = ap length i in omega (arith, o, n)
      by (goes k i m) = let o : floor c ≡ length c.calls - 1 = ap (floor_of (length c.calls)) m in omega (arith, l, n, o)

  pub none_ended : (v : Option ℤ) (d : ℕ) → step program limits.page input c p.held ≡ ends v → HasUnjoined d p.log → ⊥
  none_ended v d e u =
      let l = below_floor d u in
      let m : Moves c p.held (ends v) = subst (Moves c p.held) e (good_law program limits.page input c p.held fine.settled).moves in
      let n = m.1 in
      let a = l.0 in
      let b = l.1 in
      omega (arith, a, b, n)

  -- ---- joins

  -- where the children are Done they join, or the ticks are spent
  pub some_join : (t : Control) → step program limits.page input c p.held ≡ syncs t → AreDone (depth c) p.log
      → (later : List Note) × (g : Stack) × Collects program limits.page input (depth c) p.log p.held later g
      × (Goes program limits.page input p (joined_piece p t g later) ⊎ (Stops program limits.page input p.start p.own c p.held p.log runs_out × ((m : ℕ) → Counts later m → p.start < p.own + m)))
  some_join t e are =
      let j = reached_joins program input limits sound accepted p (depth c) r are in
      let a = every_joined program limits.page input JoinedIsDone done_stays j.2 (joined_are_done program limits.page input (main_ask program limits) p r) in
      let k = some_count j.0 a in
      (j.0, j.1, j.2, elim (at_most (p.own + k.0) p.start) [ inl fit ↦ inl (pieces.joining e j.2 k.1 fit) | inr over ↦ inr (pieces.by_sync e j.2 k.1 over, λ m n. let l = least_count n a in omega (arith, l, over)) ])

  pub joins_back : (t : Control) (later : List Note) (g loans one : Stack) → step program limits.page input c p.held ≡ syncs t → Collects program limits.page input (depth c) p.log p.held later g
      → Loans (base c) (floor c) p.log loans → StackSum p.held loans one
      → AreDone (depth c) p.log × (HasUnjoined (depth c) later → ⊥) × ((left : Stack) × Loans (base c) (depth c) later left × StackSum g left one)
  joins_back t later g loans one e j l s = (λ own y q a i. joined_done program limits.page input j i refl, λ u. none_left program limits.page input j u.4 refl, joined_loans program limits.page input j (base c) (floor c) loans one m.1 l s)
    where
      m : Moves c p.held (syncs t)
      m = subst (Moves c p.held) e (good_law program limits.page input c p.held fine.settled).moves
