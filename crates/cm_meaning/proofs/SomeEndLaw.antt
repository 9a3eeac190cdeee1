-- From each reached piece of a checked program the rules lead to an end: its awaited children are told one, and then it
-- takes step after step. What the children hold is joined with what the piece holds, so where they are Done they join.
use Rattle.std.proofs.Common.{◌≡◌, ℕ, zero, suc, ◌+◌, ◌-◌, ◌<◌, ◌≤◌, List, [], ◌∷◌, refl, sym, ◌∙◌, subst, arith, inl, inr}
use Rattle.std.specs.Prelude.{Bool, true, false, ℤ, Option, ⊤}
use Rattle.cm_syntax.specs.declared.stmt.Program.{Program}
use Rattle.cm_syntax.specs.Fault.{IsSoundProgram}
use Rattle.cm_syntax.specs.Lending.{IsAccepted}
use Rattle.cm_syntax.specs.Label.{silent, ticks, prints, spawns, syncs, traps, ends, stuck}
use Rattle.cm_syntax.specs.Stack.{Stack, Destination, StackSum, SharesBack, settle}
use Rattle.cm_syntax.specs.Rest.{Control}
use Rattle.cm_syntax.specs.Step.{Move, step, depth, inside}
use Rattle.cm_meaning.specs.End.{End, Done, Trapped, Spent}
use Rattle.cm_meaning.specs.Piece as pieces
use Rattle.cm_meaning.specs.Piece.{IsDone, Own, Sum, going, trapped, spent, add_end, Answer, awaited, told, printed, child, HasNote, here, deeper, none, past, before, other, taken, by_return, by_trap, by_tick, by_sync, by_child, silently, ticking, showing, joining, parting, hearing, stops, goes, then, its_child}
use Rattle.cm_meaning.specs.Meaning.{Limits, Ask, Piece, Fork, Goes, Reached, Stops, AllDone, begun, main_ask}
use Rattle.cm_meaning.specs.Leads.{Hears, Collects, Counts, AreDone, joined_piece}
use Rattle.cm_meaning.specs.Law.{LowersWeight}
use Rattle.cm_meaning.specs.Weight.{weight}
use Rattle.cm_meaning.specs.Loan.{loan, Loans}
use Rattle.cm_meaning.proofs.WeightLaw.{lowers}
use Rattle.cm_meaning.proofs.SumLaw.{comm, assoc}
use Rattle.cm_meaning.proofs.LoanLaw.{Log}
use Rattle.cm_meaning.proofs.ForkLaw as fork
use Rattle.cm_meaning.proofs.ForkMeaning.{laws}
use Rattle.cm_meaning.proofs.ExistenceLaw as existence
use Rattle.cm_meaning.proofs.ExistenceLaw.{at_most, equal_or}
use Rattle.cm_meaning.proofs.PieceRow.{end_of, decides}
use Rattle.cm_meaning.proofs.CheckedLaw.{never_stuck, reached_fine}

abbrev Told : Log → Type 0
Told = pieces.AllTold Control Stack Destination

abbrev so : Log → Sum
so = pieces.log_sum Control Stack Destination

abbrev piece_of : (start own : ℕ) → Control → Stack → Log → Piece
piece_of = pieces.piece Control Stack Destination

-- where all children are Done, those of one frame are
are_done : (d : ℕ) (log : Log) → AllDone log → AreDone d log
are_done d [] all own y p r n = elim n [ ]
are_done d (child k at x j q (told (Done out v m) w) ∷ log) all own y p r here = (out, v, m, w, refl)
are_done d (child k at x j q (told (Trapped out v m) w) ∷ log) all own y p r n = absurd all.0
are_done d (child k at x j q (told Spent w) ∷ log) all own y p r n = absurd all.0
are_done d (child k at x j q awaited ∷ log) all own y p r n = absurd all
are_done d (child k at x j q (told (Done out v m) w) ∷ log) all own y p r (deeper n) = are_done d log all.1 own y p r n
are_done d (printed v ∷ log) all own y p r (deeper n) = are_done d log all own y p r n

module _ (program : Program) (page : ℕ) (input : List ℤ) where
  -- what Done children of a frame hold can be joined in
  joins : (d b n : ℕ) (log : Log) (h o u : Stack) → AreDone d log → Loans b n log o → StackSum h o u → (later : Log) × (g : Stack) × Collects program page input d log h later g
  joins d b n [] h o u are l s = ([], h, none)
  joins d b n (printed v ∷ log) h o u are l s = let r = joins d b n log h o u (λ own x q a i. are own x q a (deeper i)) l s in (_, r.1, past r.2)
  joins d b n (child k at x true q a ∷ log) h o u are l s = let r = joins d b n log h o u (λ own x q a i. are own x q a (deeper i)) l s in (_, r.1, before r.2)
  joins d b n (child k at x false q a ∷ log) h o u are l s = elim (equal_or k d) [
    | inr differs ↦
        let y = assoc l.2 (comm s) in
        let r = joins d b n log h l.0 y.0 (λ own x q a i. are own x q a (deeper i)) l.1 (comm y.1) in
        (_, r.1, other differs r.2)
    | inl same ↦ by a (are at x q a (subst (λ z. HasNote Control Stack Destination (child k at x false q a ∷ log) (child z at x false q a)) same here)) l.2 same (λ i s. joins d b n log i l.0 u (λ own x q a i. are own x q a (deeper i)) l.1 s)
  ]
    where
      by : (r : Answer Control Stack Destination) → ((out : List ℤ) × (v : Option ℤ) × (m : ℕ) × (w : Stack) × (r ≡ told (Done out v m) w)) → StackSum (loan x q r) l.0 o → k ≡ d
          → ((i : Stack) → StackSum i l.0 u → (later : Log) × (g : Stack) × Collects program page input d log i later g)
          → (later : Log) × (g : Stack) × Collects program page input d (child k at x false q r ∷ log) h later g
      by awaited e t same more = cc e.4
      by (told (Trapped out i m) w) e t same more = cc e.4
      by (told Spent w) e t same more = cc e.4
      by (told (Done out v m) w) e t same more =
          let y = assoc (comm t) (comm s) in
          let r = more y.0 (comm y.2) in
          let j : Collects program page input d (child d at x false q (told (Done out v m) w) ∷ log) h (child d at x true q (told (Done out v m) w) ∷ r.0) r.1 = taken (comm y.1) r.2 in
          (_, r.1, subst (λ z. Collects program page input d (child z at x false q (told (Done out v m) w) ∷ log) h (child d at x true q (told (Done out v m) w) ∷ r.0) r.1) (sym same) j)

  abbrev Ends : Piece → Type 0
  Ends p = (e : End) × (w : Stack) × Fork program page input p e w

  before_rule : {p q : Piece} → Goes program page input p q → Ends q → Ends p
  before_rule g e = (e.0, e.1, goes g e.2)

  -- at its own end, with all answers
  stopped : {start own : ℕ} {c : Control} {h : Stack} {log : Log} {o : Own} → Told log → Stops program page input start own c h log o → Ends (piece_of start own c h log)
  stopped {start = start} {own = own} {h = h} {log = log} {o = o} t s = let e = end_of start own (so log) o in
      (e, h, stops s t (decides start own (so log) o) (fork.given_itself Control Stack Destination StackSum SharesBack settle depth (step program page input) inside (laws program page input) e h))

  -- zero or more answers are told
  data HearsAll : Log → Log → Type 0 where
    done : {log : Log} → HearsAll log log
    next : {log more later : Log} → Hears program page input log more → HearsAll more later → HearsAll log later

  under : {n : _} {log later : Log} → HearsAll log later → HearsAll (n ∷ log) (n ∷ later)
  under done = done
  under (next y l) = next (deeper y) (under l)

  all_heard : (log : Log) → ((d own : ℕ) (x : Destination) (j : Bool) (q : Ask) (r : Answer Control Stack Destination) → HasNote Control Stack Destination log (child d own x j q r) → Ends (begun q)) → (later : Log) × HearsAll log later × Told later
  all_heard [] f = ([], done, tt)
  all_heard (printed v ∷ log) f = let a = all_heard log (λ d own x j q r i. f d own x j q r (deeper i)) in (printed v ∷ a.0, under a.1, a.2)
  all_heard (child d own x j q (told e w) ∷ log) f = let a = all_heard log (λ d own x j q r i. f d own x j q r (deeper i)) in (child d own x j q (told e w) ∷ a.0, under a.1, a.2)
  all_heard (child d own x j q awaited ∷ log) f =
      let a = all_heard log (λ d own x j q r i. f d own x j q r (deeper i)) in
      let e = f d own x j q awaited here in
      (child d own x j q (told e.0 e.1) ∷ a.0, next (pieces.this e.2) (under a.1), a.2)

-- so many ticks are left at most, where all children are Done
abbrev Left : (start own left : ℕ) → Sum → Type 0
Left start own left (going out n) = start ≤ own + n + left
Left start own left _ = ⊤

left_child : (start own left at n : ℕ) (out : List ℤ) (e : End) → start ≤ own + n + left → Left start own left (add_end (going out n) at e)
left_child start own left at n out (Done p v q) l = omega (arith, l)
left_child start own left at n out (Trapped p v q) l = tt
left_child start own left at n out Spent l = tt

left_enough : (start own : ℕ) (z : Sum) → Left start own start z
left_enough start own (going out n) = omega arith
left_enough start own (trapped out k n) = tt
left_enough start own spent = tt

one_less : (left : ℕ) → 0 < left → (l : ℕ) × (left ≡ suc l)
one_less zero l = absurd (omega (arith, l))
one_less (suc n) l = (n, refl)

module _ (program : Program) (input : List ℤ) (limits : Limits) (sound : IsSoundProgram program) (accepted : IsAccepted program) where
  abbrev Comes : Piece → Type 0
  Comes = Reached program limits.page input (begun (main_ask program limits))

  abbrev Finds : Piece → Type 0
  Finds = Ends program limits.page input

  abbrev law : fork.Laws Control Stack Destination StackSum SharesBack settle depth (step program limits.page input) inside
  law = laws program limits.page input

  -- the Done children of a frame join
  pub reached_joins : (p : Piece) (d : ℕ) → Comes p → AreDone d p.log → (later : Log) × (g : Stack) × Collects program limits.page input d p.log p.held later g
  reached_joins p d r are = let f = reached_fine program input limits sound accepted p r in joins program limits.page input d _ _ p.log p.held f.loans f.middle are f.owes f.inner

  -- at a sync the piece goes on with their words, where the ticks fit
  pub children_join : (p : Piece) (t : Control) → Comes p → step program limits.page input p.control p.held ≡ syncs t → AreDone (depth p.control) p.log
      → (later : Log) × (g : Stack) × Collects program limits.page input (depth p.control) p.log p.held later g × ((m : ℕ) → Counts later m → p.own + m ≤ p.start → Goes program limits.page input p (joined_piece p t g later))
  children_join p t r e are = let j = reached_joins p (depth p.control) r are in (j.0, j.1, j.2, λ m k l. joining e j.2 k l)

  -- ---- an end

  abbrev Goal : (left bound : ℕ) → Type 0
  Goal left bound = (start own : ℕ) (c : Control) (h : Stack) (log : Log) → Comes (piece_of start own c h log) → Told log → Left start own left (so log) → weight program c < bound → Finds (piece_of start own c h log)

  module _ (left bound start own : ℕ) (c : Control) (h : Stack) (log : Log) (r : Comes (piece_of start own c h log)) (told_ : Told log) (light : weight program c < suc bound)
      (fewer : (l : ℕ) → left ≡ suc l → (b : ℕ) → Goal l b) (again : Goal left bound) where
    -- all Done: the piece takes its next step
    by_step : (out : List ℤ) (n : ℕ) → so log ≡ going out n → Counts log n → AllDone log → start ≤ own + n + left → (x : Move) → step program limits.page input c h ≡ x → LowersWeight program c x → Finds (piece_of start own c h log)
    by_step out n is k all l (silent t g) e w = before_rule program limits.page input (silently e) (again start own t g log (then r (silently e)) told_ (subst (Left start own left) (sym is) l) (omega (arith, w, light)))
    by_step out n is k all l (prints v t g) e w =
        before_rule program limits.page input (showing e) (again start own t g (printed v ∷ log) (then r (showing e)) told_ (subst (λ z. Left start own left (pieces.add_number z v)) (sym is) l) (omega (arith, w, light)))
    by_step out n is k all l (ticks t g) e w = elim (at_most start (own + n)) [
      | inl over ↦ stopped program limits.page input told_ (by_tick e k over)
      | inr fit ↦
          let p = one_less left (omega (arith, fit, l)) in
          before_rule program limits.page input (ticking e k fit) (fewer p.0 p.1 (suc (weight program t)) start (suc own) t g log (then r (ticking e k fit)) told_ (subst (Left start (suc own) p.0) (sym is) (let q = p.1 in omega (arith, l, q))) (omega arith))
    ]
    by_step out n is k all l (spawns call lent x t g) e w =
        let part = then r (parting e k) in
        let y = again (start - (own + n)) 0 call lent [] (its_child part here) tt (omega (arith, l)) (let a = w.0 in omega (arith, a, light)) in
        before_rule program limits.page input (parting e k) (before_rule program limits.page input (hearing (pieces.this y.2)) (again start own t g _ (then part (hearing (pieces.this y.2))) told_
        (subst (λ z. Left start own left (add_end z own y.0)) (sym is) (left_child start own left own n out y.0 l)) (let a = w.1 in omega (arith, a, light))))
    by_step out n is k all l (syncs t) e w =
        let j = reached_joins (piece_of start own c h log) (depth c) r (are_done (depth c) log all) in
        let same : so j.0 ≡ going out n = fork.joined_sofar Control Stack Destination StackSum SharesBack settle depth (step program limits.page input) inside law j.2 ∙ is in
        let heard = existence.joined_told Control Stack Destination StackSum SharesBack settle depth (step program limits.page input) inside law j.2 told_ in
        let count : Counts j.0 n = (subst (existence.Complete Control Stack Destination StackSum SharesBack settle depth (step program limits.page input) inside law j.0) same (existence.complete Control Stack Destination StackSum SharesBack settle depth (step program limits.page input) inside law j.0 heard)).0 in
        elim (at_most (own + n) start) [
          | inl fit ↦ before_rule program limits.page input (joining e j.2 count fit) (again start own t j.1 j.0 (then r (joining e j.2 count fit)) heard (subst (Left start own left) (sym same) l) (omega (arith, w, light)))
          | inr over ↦ stopped program limits.page input told_ (by_sync e j.2 count over)
        ]
    by_step out n is k all l (traps t) e w = stopped program limits.page input told_ (by_trap e)
    by_step out n is k all l (ends v) e w = stopped program limits.page input told_ (by_return e)
    by_step out n is k all l stuck e w = absurd (never_stuck program input limits sound accepted (piece_of start own c h log) r e)

    by_sum : (z : Sum) → so log ≡ z → existence.Complete Control Stack Destination StackSum SharesBack settle depth (step program limits.page input) inside law log z → Left start own left z → Finds (piece_of start own c h log)
    by_sum (going out n) is k l = by_step out n is k.0 k.1 l (step program limits.page input c h) refl (lowers program limits.page input c h)
    by_sum (trapped out t n) is k l = stopped program limits.page input told_ (by_child k)
    by_sum spent is k l = stopped program limits.page input told_ (by_child k)

  by_weight : (left : ℕ) → ((l : ℕ) → left ≡ suc l → (bound : ℕ) → Goal l bound) → (bound : ℕ) → Goal left bound
  by_weight left fewer zero start own c h log r t l light = absurd (omega (arith, light))
  by_weight left fewer (suc bound) start own c h log r t l light =
      by_sum left bound start own c h log r t light fewer (by_weight left fewer bound) (so log) refl (existence.complete Control Stack Destination StackSum SharesBack settle depth (step program limits.page input) inside law log t) l

  by_left : (left bound : ℕ) → Goal left bound
  by_left zero bound = by_weight zero (λ l e. absurd (omega (arith, e))) bound
  by_left (suc left) bound = by_weight (suc left) (λ l e. subst (λ k. (bound : ℕ) → Goal k bound) (down left l e) (by_left left)) bound
    where
      down : (left l : ℕ) → suc left ≡ suc l → left ≡ l
      down left l e = omega (arith, e)

  -- where all answers are told
  told_end : (p : Piece) → Comes p → Told p.log → Finds p
  told_end p r t = by_left p.start (suc (weight program p.control)) p.start p.own p.control p.held p.log r t (left_enough p.start p.own (so p.log)) (omega arith)

  heard_end : {start own : ℕ} {c : Control} {h : Stack} {log later : Log} → HearsAll program limits.page input log later → Comes (piece_of start own c h log) → Told later → Finds (piece_of start own c h log)
  heard_end done r t = told_end _ r t
  heard_end (next y l) r t = before_rule program limits.page input (hearing y) (heard_end l (then r (hearing y)) t)

  pub some_end : (p : Piece) → Comes p → Finds p
  some_end p r = let a = all_heard program limits.page input p.log (λ d own x j q a i. told_end (begun q) (its_child r i) tt) in heard_end a.1 r a.2
