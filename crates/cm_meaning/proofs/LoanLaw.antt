-- What a piece's children hold of its words, and what comes back with their answers.
use Rattle.std.proofs.Common.{◌≡◌, ℕ, suc, ◌<◌, ◌≤◌, List, [], ◌∷◌, length, Option, None, Some, refl, sym, ap, ◌∙◌, subst, arith, inl, inr}
use Rattle.std.specs.Prelude.{◌-◌, ◌⊎◌, ◌≢◌, Bool, true, false, ◌==◌, ◌&&◌, if◌then◌else◌, ℤ, ⊤, slice_get}
use Rattle.cm_syntax.specs.declared.stmt.Program.{Program}
use Rattle.cm_syntax.specs.Label.{silent, ticks, prints, spawns, syncs, traps, ends, stuck}
use Rattle.cm_syntax.specs.Cell.{Cell, absent, is_held, settle_cell, CellSum, may_write}
use Rattle.cm_syntax.specs.Stack.{Stack, Destination, empty_stack, settle, StackSum, SharesBack, IsUnder}
use Rattle.cm_syntax.specs.Rest.{Item, end, Hand, idle, holds, returned, entering, framing, Control}
use Rattle.cm_syntax.specs.Step.{Move, step, depth, inside}
use Rattle.cm_syntax.proofs.CellLaw.{cell_comm, cell_alone, cell_nothing, held_whole, value_held, not_held, whole_left, held_left, held_parts, settle_or}
use Rattle.cm_meaning.specs.End.{Done}
use Rattle.cm_meaning.specs.Elision.{serial}
use Rattle.cm_meaning.specs.Piece.{printed, child, Collects, none, past, before, other, taken, Hears, GivesBack, this, deeper}
use Rattle.cm_meaning.specs.Meaning.{Ask, Note, Fork, begun, Comes, serial_step}
use Rattle.cm_meaning.specs.Activation.{base, IsSettled}
use Rattle.cm_meaning.specs.Loan.{loan, Loans}
use Rattle.cm_meaning.specs.TypedState.{IsPresent, back, at_hand, at_join, Outer, Running, Ready, TypedState}
use Rattle.cm_meaning.proofs.SumLaw.{comm, assoc, same, alone_, under_nothing, under_more, under_sum, settle_under, back_sum, back_settle, back_under}
use Rattle.cm_meaning.proofs.SettledLaw.{Moves, good_law}
use Rattle.cm_meaning.proofs.GrowthLaw.{Grows, grows_before, arguments_move, outer_moves}
use Rattle.cm_meaning.proofs.TypedFramesLaw.{Wider, wider_grows, wider_frames, frames_of, state}
use Rattle.cm_meaning.proofs.WiderLaw.{Wide, wide_run}
use Rattle.cm_meaning.proofs.GuardLaw.{Access, reads, writes, Serves}
use Rattle.cm_meaning.proofs.ForkLaw as fork
use Rattle.cm_meaning.proofs.ForkMeaning.{laws, fork_means}

abbrev pub Log : Type 0
Log = List Note

-- ---- loans

-- unjoined children of calls before this depth hold the word
abbrev pub LentTo : Log → (n e t j : ℕ) → Type 0
LentTo [] n e t j = ⊥
LentTo (printed v ∷ log) n e t j = LentTo log n e t j
LentTo (child d at x true q r ∷ log) n e t j = LentTo log n e t j
LentTo (child d at x false q r ∷ log) n e t j = ((d < n) × (is_held ((loan x q r).words e t j) ≡ true)) ⊎ LentTo log n e t j

-- A word is lent where some share of it is outside of the piece or with such a child. It is gone where its value is
-- outside, or some share with such a child, and no share is here.
abbrev pub Away : (outside held : Stack) → Log → Access → (n e t j : ℕ) → Type 0
Away outside held log writes n e t j = (is_held (outside.words e t j) ≡ true) ⊎ LentTo log n e t j
Away outside held log reads n e t j = (Serves reads (outside.words e t j) ⊎ LentTo log n e t j) × (is_held (held.words e t j) ≡ true → ⊥)

-- what is gone is lent
pub gone_lent : (outside held : Stack) (log : Log) (access : Access) (n e t j : ℕ) → Away outside held log access n e t j → Away outside held log writes n e t j
gone_lent outside held log writes n e t j a = a
gone_lent outside held log reads n e t j a = elim a.0 [ inl s ↦ inl (value_held (outside.words e t j) s.0 s.1) | inr p ↦ inr p ]

-- where children hold less and what is held here stays, less is away
pub away_less : (outside h g : Stack) (log later : Log) (n m e t j : ℕ) → (LentTo later m e t j → LentTo log n e t j)
    → (Away outside g later writes m e t j → is_held (h.words e t j) ≡ true → is_held (g.words e t j) ≡ true) → (access : Access) → Away outside g later access m e t j → Away outside h log access n e t j
away_less outside h g log later n m e t j f k writes a = elim a [ inl p ↦ inl p | inr p ↦ inr (f p) ]
away_less outside h g log later n m e t j f k reads a = ((elim a.0 [ inl p ↦ inl p | inr p ↦ inr (f p) ]), λ i. a.1 (k (gone_lent outside g later reads m e t j a) i))

pub loans_under : (b n : ℕ) (log : Log) (o : Stack) → Loans b n log o → IsUnder n o
loans_under b n [] o e = subst (λ z. IsUnder n z) (sym e) (under_nothing n)
loans_under b n (printed v ∷ log) o e = loans_under b n log o e
loans_under b n (child d at x true q r ∷ log) o e = loans_under b n log o e
loans_under b n (child d at x false q r ∷ log) o e = under_sum e.2 (under_more e.3.to e.3.under) (loans_under b n log e.0 e.1)

pub loans_bare : (b n : ℕ) (log : Log) (o : Stack) → Loans b n log o → (e t : ℕ) → o.references e t ≡ absent
loans_bare b n [] o l e t = ap (λ z. z.references e t) l
loans_bare b n (printed v ∷ log) o l e t = loans_bare b n log o l e t
loans_bare b n (child d at x true q r ∷ log) o l e t = loans_bare b n log o l e t
loans_bare b n (child d at x false q r ∷ log) o l e t =
    cell_alone ((loan x q r).references e t) (l.0.references e t) (o.references e t) (l.2.references e t) (loans_bare b n log l.0 l.1 e t) ∙ l.3.bare e t

pub loans_more : (b n m : ℕ) (log : Log) (o : Stack) → n ≤ m → Loans b n log o → Loans b m log o
loans_more b n m [] o l e = e
loans_more b n m (printed v ∷ log) o l e = loans_more b n m log o l e
loans_more b n m (child d at x true q r ∷ log) o l e = loans_more b n m log o l e
loans_more b n m (child d at x false q r ∷ log) o l e =
    (e.0, loans_more b n m log e.0 l e.1, e.2, record { from = e.3.from; to = (let a = e.3.to in omega (arith, a, l)); under = e.3.under; bare = e.3.bare })

-- a word of the loans is with some child
pub loans_lent : (b n : ℕ) (log : Log) (o : Stack) → Loans b n log o → (e t j : ℕ) → is_held (o.words e t j) ≡ true → LentTo log n e t j
loans_lent b n [] o l e t j h = absurd (not_held (o.words e t j) (ap (λ z. z.words e t j) l) h)
loans_lent b n (printed v ∷ log) o l e t j h = loans_lent b n log o l e t j h
loans_lent b n (child d at x true q r ∷ log) o l e t j h = loans_lent b n log o l e t j h
loans_lent b n (child d at x false q r ∷ log) o l e t j h = elim (held_parts ((loan x q r).words e t j) (l.0.words e t j) (o.words e t j) (l.2.words e t j) h) [
  | inl p ↦ inl (l.3.to, p)
  | inr p ↦ inr (loans_lent b n log l.0 l.1 e t j p)
]

pub lent_loans : (b n m : ℕ) (log : Log) (o : Stack) → Loans b n log o → (e t j : ℕ) → LentTo log m e t j → is_held (o.words e t j) ≡ true
lent_loans b n m [] o l e t j h = absurd h
lent_loans b n m (printed v ∷ log) o l e t j h = lent_loans b n m log o l e t j h
lent_loans b n m (child d at x true q r ∷ log) o l e t j h = lent_loans b n m log o l e t j h
lent_loans b n m (child d at x false q r ∷ log) o l e t j (inl h) = held_left ((loan x q r).words e t j) (l.0.words e t j) (o.words e t j) (l.2.words e t j) h.1
lent_loans b n m (child d at x false q r ∷ log) o l e t j (inr h) =
    let p = lent_loans b n m log l.0 l.1 e t j h in
    held_left (l.0.words e t j) ((loan x q r).words e t j) (o.words e t j) (cell_comm ((loan x q r).words e t j) (l.0.words e t j) (o.words e t j) (l.2.words e t j)) p

pub lent_more : (n m : ℕ) (log : Log) (e t j : ℕ) → n ≤ m → LentTo log n e t j → LentTo log m e t j
lent_more n m [] e t j l h = h
lent_more n m (printed v ∷ log) e t j l h = lent_more n m log e t j l h
lent_more n m (child d at x true q r ∷ log) e t j l h = lent_more n m log e t j l h
lent_more n m (child d at x false q r ∷ log) e t j l (inl h) = inl ((let a = h.0 in omega (arith, a, l)), h.1)
lent_more n m (child d at x false q r ∷ log) e t j l (inr h) = inr (lent_more n m log e t j l h)

-- all children are of calls below the highest
pub lent_high : (b n m : ℕ) (log : Log) (o : Stack) → Loans b n log o → (e t j : ℕ) → LentTo log m e t j → LentTo log n e t j
lent_high b n m [] o l e t j h = h
lent_high b n m (printed v ∷ log) o l e t j h = lent_high b n m log o l e t j h
lent_high b n m (child d at x true q r ∷ log) o l e t j h = lent_high b n m log o l e t j h
lent_high b n m (child d at x false q r ∷ log) o l e t j (inl h) = inl (l.3.to, h.1)
lent_high b n m (child d at x false q r ∷ log) o l e t j (inr h) = inr (lent_high b n m log l.0 l.1 e t j h)

-- ---- joins

module _ (program : Program) (page : ℕ) (input : List ℤ) where
  abbrev pub Meets : ℕ → Log → Stack → Log → Stack → Type 0
  Meets = Collects Control Stack Destination StackSum SharesBack settle depth (step program page input)

  abbrev pub Learns : Log → Log → Type 0
  Learns = Hears Control Stack Destination StackSum SharesBack settle depth (step program page input)

  pub joined_loans : {d : ℕ} {log later : Log} {h g : Stack} → Meets d log h later g → (b n : ℕ) (o t : Stack) → n ≤ suc d → Loans b n log o → StackSum h o t → (p : Stack) × Loans b d later p × StackSum g p t
  joined_loans none b n o t l e s = (o, e, s)
  joined_loans (past j) b n o t l e s = joined_loans j b n o t l e s
  joined_loans (before j) b n o t l e s = joined_loans j b n o t l e s
  joined_loans (other ne j) b n o t l e s =
      let r = assoc e.2 (comm s) in
      let q = joined_loans j b n e.0 r.0 l e.1 (comm r.1) in
      let p = assoc q.2 (comm r.2) in
      (p.0, (q.0, q.1, comm p.1, record { from = e.3.from; to = (let a = e.3.to in omega (arith, a, l, ne)); under = e.3.under; bare = e.3.bare }), p.2)
  joined_loans (taken u j) b n o t l e s =
      let r = assoc (comm e.2) (comm s) in
      let i = same u (comm r.1) in
      joined_loans j b n e.0 t l e.1 (subst (λ z. StackSum z e.0 t) (sym i) (comm r.2))

  pub joined_references : {d : ℕ} {log later : Log} {h g : Stack} → Meets d log h later g → (b n : ℕ) (o : Stack) → Loans b n log o → (e t : ℕ) → g.references e t ≡ h.references e t
  joined_references none b n o l e t = refl
  joined_references (past j) b n o l e t = joined_references j b n o l e t
  joined_references (before j) b n o l e t = joined_references j b n o l e t
  joined_references (other ne j) b n o l e t = joined_references j b n l.0 l.1 e t
  joined_references (taken {x = x} {v = v} {w = w} {h = h} {i = i} u j) b n o l e t =
      joined_references j b n l.0 l.1 e t ∙ cell_alone (h.references e t) ((settle x v w).references e t) (i.references e t) (u.references e t) (l.3.bare e t)

  pub joined_under : {d : ℕ} {log later : Log} {h g : Stack} → Meets d log h later g → (b n m : ℕ) (o : Stack) → suc d ≤ m → Loans b n log o → IsUnder m h → IsUnder m g
  joined_under none b n m o l e u = u
  joined_under (past j) b n m o l e u = joined_under j b n m o l e u
  joined_under (before j) b n m o l e u = joined_under j b n m o l e u
  joined_under (other ne j) b n m o l e u = joined_under j b n m e.0 l e.1 u
  joined_under (taken s j) b n m o l e u = joined_under j b n m e.0 l e.1 (under_sum s u (under_more l e.3.under))

  pub joined_lent : {d : ℕ} {log later : Log} {h g : Stack} → Meets d log h later g → (n e t j : ℕ) → LentTo later n e t j → LentTo log n e t j
  joined_lent none n e t j l = l
  joined_lent (past m) n e t j l = joined_lent m n e t j l
  joined_lent (before m) n e t j l = joined_lent m n e t j l
  joined_lent (other ne m) n e t j (inl l) = inl l
  joined_lent (other ne m) n e t j (inr l) = inr (joined_lent m n e t j l)
  joined_lent (taken s m) n e t j l = inr (joined_lent m n e t j l)

  -- what was held is held
  pub joined_held : {d : ℕ} {log later : Log} {h g : Stack} → Meets d log h later g → (e t j : ℕ) → is_held (h.words e t j) ≡ true → is_held (g.words e t j) ≡ true
  joined_held none e t j i = i
  joined_held (past m) e t j i = joined_held m e t j i
  joined_held (before m) e t j i = joined_held m e t j i
  joined_held (other ne m) e t j i = joined_held m e t j i
  joined_held (taken {x = x} {v = v} {w = w} {h = h} {i = k} s m) e t j i = joined_held m e t j (held_left (h.words e t j) ((settle x v w).words e t j) (k.words e t j) (s.words e t j) i)

  -- the call's own children hold nothing any more
  pub joined_own : {d : ℕ} {log later : Log} {h g : Stack} → Meets d log h later g → (e t j : ℕ) → LentTo later (suc d) e t j → LentTo log d e t j
  joined_own none e t j l = l
  joined_own (past m) e t j l = joined_own m e t j l
  joined_own (before m) e t j l = joined_own m e t j l
  joined_own (other ne m) e t j (inl l) = inl ((let a = l.0 in omega (arith, a, ne)), l.1)
  joined_own (other ne m) e t j (inr l) = inr (joined_own m e t j l)
  joined_own (taken s m) e t j l = inr (joined_own m e t j l)

  -- ---- shares that come back early

  abbrev pub Back : Log → Stack → Log → Stack → Type 0
  Back = GivesBack Control Stack Destination StackSum SharesBack settle depth (step program page input)

  -- what comes back is lent no more
  pub record CameBack (b n : ℕ) (later : Log) (h g o : Stack) : Type 0 where
    pub back : Stack
    pub loans : Stack
    pub joined : StackSum h back g
    pub under : IsUnder n back
    pub bare : (e t : ℕ) → back.references e t ≡ absent
    pub owes : Loans b n later loans
    pub parted : StackSum back loans o

  pub back_loans : {log later : Log} {h g : Stack} → Back log h later g → (b n : ℕ) (o : Stack) → Loans b n log o → CameBack b n later h g o
  back_loans (this {x = x} {v = v} {back = came} y s) b n o e =
      let z = back_settle x v y in
      let u = back_under z e.3.under in
      let r = assoc (back_sum z) e.2 in
      record {
        back = came;
        loans = r.0;
        joined = s;
        under = under_more e.3.to u.0;
        bare = λ e t. (z.references e t).0;
        owes = (e.0, e.1, r.1, record { from = e.3.from; to = e.3.to; under = u.1; bare = λ d t. (z.references d t).1 ∙ e.3.bare d t });
        parted = r.2;
      }
  back_loans (deeper {n = printed v} y) b n o e = let i = back_loans y b n o e in record { back = i.back; loans = i.loans; joined = i.joined; under = i.under; bare = i.bare; owes = i.owes; parted = i.parted }
  back_loans (deeper {n = child d at x true q r} y) b n o e = let i = back_loans y b n o e in record { back = i.back; loans = i.loans; joined = i.joined; under = i.under; bare = i.bare; owes = i.owes; parted = i.parted }
  back_loans (deeper {n = child d at x false q r} y) b n o e =
      let i = back_loans y b n e.0 e.1 in
      let z = assoc i.parted (comm e.2) in
      record { back = i.back; loans = z.0; joined = i.joined; under = i.under; bare = i.bare; owes = (i.loans, i.owes, comm z.1, e.3); parted = z.2 }

  pub back_lent : {log later : Log} {h g : Stack} → Back log h later g → (n e t j : ℕ) → LentTo later n e t j → LentTo log n e t j
  back_lent (this {x = x} {v = v} {given = given} {back = came} {rest = rest} y s) n e t j (inl l) =
      inl (l.0, held_left ((settle x v rest).words e t j) (came.words e t j) ((settle x v given).words e t j) ((comm (back_sum (back_settle x v y))).words e t j) l.1)
  back_lent (this y s) n e t j (inr l) = inr l
  back_lent (deeper {n = printed v} y) n e t j l = back_lent y n e t j l
  back_lent (deeper {n = child d at x true q r} y) n e t j l = back_lent y n e t j l
  back_lent (deeper {n = child d at x false q r} y) n e t j (inl l) = inl l
  back_lent (deeper {n = child d at x false q r} y) n e t j (inr l) = inr (back_lent y n e t j l)

-- ---- a stack on which more is set

module _ (program : Program) (u g : Stack) where
  running_wider : (calls : List ℕ) (a : Rattle.cm_meaning.specs.TypedState.AtHand) (k : List Item) → Grows (length calls) u g → Running program u true calls a k → Running program g true calls a k
  running_wider [] a k m r = r
  running_wider (f ∷ calls) a (end ∷ k) m r = (r.0, r.1, (r.2.0, outer_moves program u g true calls (back r.0.gives) k (grows_before (length calls) u g m) r.2.1))
  running_wider (f ∷ calls) a k m r = outer_moves program u g true (f ∷ calls) a k m r

  ready_wider : (calls : List ℕ) (hand : Hand) (k : List Item) → Grows (length calls) u g → Ready program u true calls hand k → Ready program g true calls hand k
  ready_wider calls (entering f ws) k m r = (r.0, r.1, arguments_move program u g calls ws _ m.words r.2, r.3, outer_moves program u g true calls (back r.0.gives) k m r.4)
  ready_wider calls (framing f ws) k m r = (r.0, r.1, arguments_move program u g calls ws _ m.words r.2, r.3, outer_moves program u g true calls (back r.0.gives) k m r.4)
  ready_wider calls idle k m r = running_wider calls (at_hand idle) k m r
  ready_wider calls (holds v) k m r = running_wider calls (at_hand (holds v)) k m r
  ready_wider calls (returned v) k m r = running_wider calls (at_hand (returned v)) k m r

  pub typed_wider : (c : Control) → Wider (length c.calls) u g → TypedState program true c u → TypedState program true c g
  typed_wider c w t = state program true c.calls c.account c.hand c.rest g (wider_frames program c.calls u g w (frames_of program true c u t)) (ready_wider c.calls c.hand c.rest (wider_grows (length c.calls) (length c.calls) u g w) t.rest)

-- ---- answers

-- the same words come back that were lent; what was lent whole may have another value
pub record Returned (lent w : Stack) : Type 0 where
  pub words : (e t j : ℕ) → (w.words e t j ≡ lent.words e t j) ⊎ ((may_write (lent.words e t j) ≡ true) × IsPresent (w.words e t j))
  pub references : (e t : ℕ) → w.references e t ≡ lent.references e t

pub returned_held : (lent w : Stack) → Returned lent w → (e t j : ℕ) → is_held (w.words e t j) ≡ true → is_held (lent.words e t j) ≡ true
returned_held lent w r e t j h = elim (r.words e t j) [ inl q ↦ ap is_held (sym q) ∙ h | inr q ↦ held_whole (lent.words e t j) q.0 ]

settled_or : (q : Bool) (c : Cell ℤ) (v : ℤ) → ((if q then settle_cell c v else c) ≡ c) ⊎ ((may_write c ≡ true) × IsPresent (if q then settle_cell c v else c))
settled_or false c v = inl refl
settled_or true c v = elim (settle_or c v) [ inl e ↦ inl e | inr e ↦ inr (e.0, subst IsPresent (sym e.1) tt) ]

returned_joined : (a b c : Stack) → Returned a b → Returned b c → Returned a c
returned_joined a b c r s = record {
  words = λ e t j. elim (s.words e t j) [
    | inl q ↦ elim (r.words e t j) [ inl p ↦ inl (q ∙ p) | inr p ↦ inr (p.0, subst IsPresent (sym q) p.1) ]
    | inr q ↦ elim (r.words e t j) [ inl p ↦ inr (ap may_write (sym p) ∙ q.0, q.1) | inr p ↦ inr (p.0, q.1) ]
  ];
  references = λ e t. s.references e t ∙ r.references e t;
}

settle_returned : (x : Destination) (v : Option ℤ) (w : Stack) → Returned w (settle x v w)
settle_returned None v w = record { words = λ e t j. inl refl; references = λ e t. refl }
settle_returned (Some x) None w = record { words = λ e t j. inl refl; references = λ e t. refl }
settle_returned (Some x) (Some v) w = record { words = λ e t j. settled_or (e == x.depth && (t == x.slot && j == 0)) (w.words e t j) v; references = λ e t. refl }

-- where the lent words are taken out of a whole, those that came back are put in
pub put_back : (n : ℕ) (lent w z u : Stack) → IsUnder n lent → Returned lent w → StackSum lent z u → (g : Stack) × StackSum w z g × Wider n u g
put_back n lent w z u low r s = (g, sum, record { words = wide; references = λ e t. refl })
  where
    -- a word that changed was lent whole
    new : (e t j : ℕ) → (c : Cell ℤ) × CellSum (w.words e t j) (z.words e t j) c × ((c ≡ u.words e t j) ⊎ ((e < n) × IsPresent c))
    new e t j = elim (r.words e t j) [
      | inl q ↦ (u.words e t j, subst (λ a. CellSum a (z.words e t j) (u.words e t j)) (sym q) (s.words e t j), inl refl)
      | inr q ↦ (
        w.words e t j,
        subst (λ a. CellSum (w.words e t j) a (w.words e t j)) (sym (whole_left (lent.words e t j) (z.words e t j) (u.words e t j) (s.words e t j) q.0).1) (cell_nothing (w.words e t j)),
        inr (before_depth e t j (held_whole (lent.words e t j) q.0), q.1),
      )
    ]
      where
        before_depth : (e t j : ℕ) → is_held (lent.words e t j) ≡ true → e < n
        before_depth e t j h = by (Rattle.std.specs.Prelude.nat_lt e n) refl
          where
            by : (b : Bool) → Rattle.std.specs.Prelude.nat_lt e n ≡ b → e < n
            by true q = Rattle.std.proofs.lemmas.Bool.ltb-true e n q
            by false q = absurd (not_held (lent.words e t j) (low.words e t j (let a = Rattle.std.proofs.lemmas.Bool.ltb-false e n q in omega (arith, a))) h)

    g : Stack
    g = record { words = λ e t j. (new e t j).0; references = u.references }

    sum : StackSum w z g
    sum = record { words = λ e t j. (new e t j).1; references = λ e t. subst (λ a. CellSum a (z.references e t) (u.references e t)) (sym (r.references e t)) (s.references e t) }

    wide : (e t j : ℕ) → (g.words e t j ≡ u.words e t j) ⊎ ((e < n) × IsPresent (g.words e t j))
    wide e t j = (new e t j).2

module _ (program : Program) (page : ℕ) (input : List ℤ) where
  ended_by : {v : Option ℤ} (h : Stack) (y : Move) → serial Control Stack Destination (step program page input) inside h y ≡ ends v → y ≡ ends v
  ended_by h (ends w) e = e
  ended_by h (silent t g) e = cc e
  ended_by h (ticks t g) e = cc e
  ended_by h (prints w t g) e = cc e
  ended_by h (spawns call lent x t g) e = cc e
  ended_by h (syncs t) e = cc e
  ended_by h (traps k) e = cc e
  ended_by h stuck e = cc e

  -- what an ask's Done end gives back
  pub given_back : (q : Ask) (x : Destination) (out : List ℤ) (v : Option ℤ) (m : ℕ) (w : Stack) → IsSettled q.call q.lent → IsUnder (base q.call) q.lent → Fork program page input (begun q) (Done out v m) w → Returned q.lent (settle x v w) × IsUnder (base q.call) (settle x v w)
  unfolding laws
  given_back q x out v m w settled low f =
      (returned_joined q.lent w (settle x v w) (record { words = λ e t j. word_ e t j; references = λ e t. reference_ e t }) (settle_returned x v w), settle_under x v w_under)
    where
      says : Rattle.cm_meaning.specs.Meaning.EndsAs program page input q.call q.lent q.start (Done out v m) w
      says = fork_means program page input q (Done out v m) w settled f

      framed : (k : Stack) × Comes program page input q.call q.lent out m says.0 k × StackSum w empty_stack k × (base says.0 ≡ base q.call) × IsSettled says.0 w
      framed = fork.framed Control Stack Destination StackSum SharesBack settle depth (step program page input) inside (laws program page input) says.1 empty_stack q.lent settled (alone_ q.lent) (under_nothing (base q.call))

      at_end : Moves says.0 w (ends v)
      at_end = subst (λ z. Moves says.0 w z) (ended_by w (step program page input says.0 w) says.2) (good_law program page input says.0 w framed.4).moves

      w_under : IsUnder (base q.call) w
      w_under = subst (λ z. IsUnder z w) framed.3 at_end.0

      wide : Wide (base q.call) q.lent w
      wide = wide_run program page input says.1 settled

      place : (e : ℕ) → (e < base q.call) ⊎ (base q.call ≤ e)
      place e = by (Rattle.std.specs.Prelude.nat_lt e (base q.call)) refl
        where
          by : (b : Bool) → Rattle.std.specs.Prelude.nat_lt e (base q.call) ≡ b → (e < base q.call) ⊎ (base q.call ≤ e)
          by true p = inl (Rattle.std.proofs.lemmas.Bool.ltb-true e (base q.call) p)
          by false p = inr (let a = Rattle.std.proofs.lemmas.Bool.ltb-false e (base q.call) p in omega (arith, a))

      word_ : (e t j : ℕ) → (w.words e t j ≡ q.lent.words e t j) ⊎ ((may_write (q.lent.words e t j) ≡ true) × IsPresent (w.words e t j))
      word_ e t j = elim (place e) [
        | inl l ↦ wide.words e t j l
        | inr l ↦ inl (w_under.words e t j l ∙ sym (low.words e t j l))
      ]

      reference_ : (e t : ℕ) → w.references e t ≡ q.lent.references e t
      reference_ e t = elim (place e) [ inl l ↦ wide.references e t l | inr l ↦ w_under.references e t l ∙ sym (low.references e t l) ]
