-- A run with a spawn and a sync, whose child's words are joined in.
use Rattle.std.proofs.Common.{◌≡◌, ℕ, zero, suc, ◌+◌, ◌≤◌, List, [], ◌∷◌, Option, None, Some, refl, sym, ap, ◌∙◌, subst, arith, inl, inr}
use Rattle.std.proofs.lemmas.Bool.{ltb-true}
use Rattle.std.proofs.lemmas.Bool.Decides.{eqb_tells}
use Rattle.std.specs.Prelude.{◌-◌, Bool, true, false, ◌==◌, nat_lt, if◌then◌else◌, ℤ, pos}
use Rattle.cm_syntax.specs.declared.stmt.Program.{Program}
use Rattle.cm_syntax.specs.Label.{silent, ticks, prints, spawns, syncs, traps, ends, stuck}
use Rattle.cm_syntax.specs.Cell.{Cell, CellSum, may_write, settle_cell}
use Rattle.cm_syntax.specs.Stack.{Stack, Scalar, Destination, Argument, word, empty_stack, write_word, lent_stack, StackSum, SharesBack, IsUnder, settle, push_frame, pop_frame}
use Rattle.cm_syntax.specs.Rest.{Control}
use Rattle.cm_syntax.specs.Step.{Move, step, depth}
use Rattle.cm_meaning.specs.End.{End, Done}
use Rattle.cm_meaning.specs.Meaning.{Ask, Fork, Piece, Note}
use Rattle.cm_meaning.specs.Piece.{piece, child, told, awaited, none, counted, Collects, taken, silently, ticking, parting, joining, hearing, this, goes}
use Rattle.cm_syntax.proofs.CellLaw.{settle_sum}
use Rattle.cm_meaning.proofs.SumLaw.{comm}
use Rattle.cm_meaning.proofs.PieceRow.{Found, found, follow, followed, allowed_from, end_found, Is}

-- a frame that comes and goes leaves what was below
pub pushed_popped : (n : ℕ) (a : Stack) (ws : List Argument) → IsUnder n a → pop_frame (push_frame a n ws) n ≡ a
pushed_popped n a ws u i = record { words = λ d s j. word_ d s j i; references = λ d s. reference_ d s i }
  where
    word_ : (d s j : ℕ) → (pop_frame (push_frame a n ws) n).words d s j ≡ a.words d s j
    word_ d s j = elim (eqb_tells d n) [
      | inl one ↦ let x : (d == n) ≡ true = one.0 in rw x (sym (u.words d s j (omega (arith, one.1))))
      | inr ne ↦ let x : (d == n) ≡ false = ne.0 in rw x refl
    ]

    reference_ : (d s : ℕ) → (pop_frame (push_frame a n ws) n).references d s ≡ a.references d s
    reference_ d s = elim (eqb_tells d n) [
      | inl one ↦ let x : (d == n) ≡ true = one.0 in rw x (sym (u.references d s (omega (arith, one.1))))
      | inr ne ↦ let x : (d == n) ≡ false = ne.0 in rw x refl
    ]

-- a value comes into a word that one of two joined stacks holds
pub settled_sum : (x : Scalar) (v : ℤ) (a b c : Stack) → StackSum a b c → may_write (a.words x.depth x.slot 0) ≡ true → StackSum (settle (Some x) (Some v) a) b (settle (Some x) (Some v) c)
settled_sum x v a b c o held = record { words = λ d s i. word_ d s i; references = o.references }
  where
    cell : (p q r : Cell ℤ) → CellSum p q r → may_write p ≡ true → CellSum (settle_cell p v) q (settle_cell r v)
    cell p q r e k = settle_sum p q r v e k

    at_ : (d s i : ℕ) → d ≡ x.depth → s ≡ x.slot → i ≡ 0 → may_write (a.words d s i) ≡ true
    at_ d s i e f g = ap (λ q. may_write (a.words q s i)) e ∙ ap (λ q. may_write (a.words x.depth q i)) f ∙ ap (λ q. may_write (a.words x.depth x.slot q)) g ∙ held

    word_ : (d s i : ℕ) → CellSum ((settle (Some x) (Some v) a).words d s i) (b.words d s i) ((settle (Some x) (Some v) c).words d s i)
    word_ d s i = elim (eqb_tells d x.depth) [
      | inr ne ↦ let p : (d == x.depth) ≡ false = ne.0 in rw p (o.words d s i)
      | inl one ↦ elim (eqb_tells s x.slot) [
        | inr ne ↦ let p : (d == x.depth) ≡ true = one.0 in let q : (s == x.slot) ≡ false = ne.0 in rw (p, q) (o.words d s i)
        | inl two ↦ elim (eqb_tells i 0) [
          | inr ne ↦ let p : (d == x.depth) ≡ true = one.0 in let q : (s == x.slot) ≡ true = two.0 in let r : (i == 0) ≡ false = ne.0 in rw (p, q, r) (o.words d s i)
          | inl three ↦ let p : (d == x.depth) ≡ true = one.0 in let q : (s == x.slot) ≡ true = two.0 in let r : (i == 0) ≡ true = three.0 in
              rw (p, q, r) (cell (a.words d s i) (b.words d s i) (c.words d s i) (o.words d s i) (at_ d s i one.1 two.1 three.1))
        ]
      ]
    ]

-- of `cilk int main() { int x; x = spawn f(4); ..`: the stack before the spawn, and the destination
abbrev pub before : Stack
before = write_word (push_frame empty_stack 0 []) 0 0 0 (pos 0)

abbrev pub x : Scalar
x = record { depth = 0; slot = 0 }

-- what is lent there is below the child's frame
pub low : IsUnder 1 (lent_stack before (Some x) (word (pos 4) ∷ []))
low = record {
  words = λ d s i l. elim (eqb_tells d 0) [ inl one ↦ absurd (none_ d l one.1) | inr ne ↦ let p : (d == 0) ≡ false = ne.0 in rw p refl ];
  references = λ d s l. refl;
}
  where
    none_ : (d : ℕ) → 1 ≤ d → d ≡ 0 → ⊥
    none_ d l e = omega (arith, l, e)

module _ (program : Program) (page : ℕ) (input : List ℤ) where
  abbrev Forks : Piece → End → Stack → Type 0
  Forks = Fork program page input

  abbrev piece_of : (start own : ℕ) → Control → Stack → List Note → Piece
  piece_of = piece Control Stack Destination

  abbrev stepped : Control → Stack → Move
  stepped = step program page input

  abbrev asked : (start : ℕ) → Control → Stack → Ask
  asked start call lent = record { start = start; call = call; lent = lent }

  -- ---- up to the first spawn

  -- the state behind a spawn
  pub record Spawned : Type 0 where
    pub depth_ : ℕ
    pub own : ℕ
    pub call : Control
    pub lent : Stack
    pub destination : Destination
    pub later : Control
    pub kept : Stack

  abbrev spawned_ : (depth own : ℕ) → Control → Stack → Destination → Control → Stack → Spawned
  spawned_ d own call lent x t g = record { depth_ = d; own = own; call = call; lent = lent; destination = x; later = t; kept = g }

  abbrev lead_on : ((own : ℕ) → Control → Stack → Option Spawned) → (start own d : ℕ) → Move → Option Spawned
  lead_on go start own d (silent t g) = go own t g
  lead_on go start own d (ticks t g) = if nat_lt own start then go (suc own) t g else None
  lead_on go start own d (spawns call lent x t g) = Some (spawned_ d own call lent x t g)
  lead_on go start own d _ = None

  abbrev pub lead : (steps : ℕ) → (start own : ℕ) → Control → Stack → Option Spawned
  lead zero start own c h = None
  lead (suc s) start own c h = lead_on (lead s start) start own (depth c) (stepped c h)

  -- its piece, whose child isn't heard of yet
  abbrev pub behind : (start : ℕ) → Spawned → Piece
  behind start z = piece_of start z.own z.later z.kept (child z.depth_ z.own z.destination false (asked (start - z.own) z.call z.lent) awaited ∷ [])

  no_spawn : {A : Type 0} (z : Spawned) → None ≡ Some z → A
  no_spawn z k = cc k

  lead_at : (go : (own : ℕ) → Control → Stack → Option Spawned) (start own d : ℕ) (m x : Move) (z : Spawned) → m ≡ x → lead_on go start own d m ≡ Some z → lead_on go start own d x ≡ Some z
  lead_at go start own d m x z q k = subst (λ y. lead_on go start own d y ≡ Some z) q k

  same_spawn : (x y : Spawned) → Some x ≡ Some y → x ≡ y
  same_spawn x y k = ap (λ z. elim z [ None ↦ x | Some q ↦ q ]) k

  -- what is allowed behind the spawn is allowed from the start
  pub led : (s start own : ℕ) (c : Control) (h : Stack) (z : Spawned) {d : End} {w : Stack} → lead s start own c h ≡ Some z → Forks (behind start z) d w → Forks (piece_of start own c h []) d w
  led zero start own c h z a f = no_spawn z a
  led (suc s) start own c h z {d = d} {w = w} a f = by (stepped c h) refl (λ t g k. led s start own t g z k f) (λ t g k. led s start (suc own) t g z k f)
    where
      plus : (n : ℕ) → n + 0 ≡ n
      plus n = omega arith

      ticked : (t : Control) (g : Stack) → stepped c h ≡ ticks t g → (b : Bool) → nat_lt own start ≡ b → (if b then lead s start (suc own) t g else None) ≡ Some z → (lead s start (suc own) t g ≡ Some z → Forks (piece_of start (suc own) t g []) d w) → Forks (piece_of start own c h []) d w
      ticked t g q true l k go = let m = ltb-true own start l in goes (ticking q none (omega (arith, m))) (go k)
      ticked t g q false l k go = no_spawn z k

      by : (m : Move) → stepped c h ≡ m → ((t : Control) (g : Stack) → lead s start own t g ≡ Some z → Forks (piece_of start own t g []) d w) → ((t : Control) (g : Stack) → lead s start (suc own) t g ≡ Some z → Forks (piece_of start (suc own) t g []) d w) → Forks (piece_of start own c h []) d w
      by (silent t g) q go tick_ = goes (silently q) (go t g (lead_at (lead s start) start own (depth c) (stepped c h) (silent t g) z q a))
      by (ticks t g) q go tick_ = ticked t g q (nat_lt own start) refl (lead_at (lead s start) start own (depth c) (stepped c h) (ticks t g) z q a) (tick_ t g)
      by (spawns call lent x t g) q go tick_ =
          let same : z ≡ spawned_ (depth c) own call lent x t g = sym (same_spawn _ z (lead_at (lead s start) start own (depth c) (stepped c h) (spawns call lent x t g) z q a)) in
          let one : Forks (behind start (spawned_ (depth c) own call lent x t g)) d w = subst (λ y. Forks (behind start y) d w) same f in
          goes (parting q none) (subst (λ y. Forks (piece_of start own t g (child (depth c) own x false (asked (start - y) call lent) awaited ∷ [])) d w) (sym (plus own)) one)
      by (prints v t g) q go tick_ = no_spawn z (lead_at (lead s start) start own (depth c) (stepped c h) (prints v t g) z q a)
      by (syncs t) q go tick_ = no_spawn z (lead_at (lead s start) start own (depth c) (stepped c h) (syncs t) z q a)
      by (traps k) q go tick_ = no_spawn z (lead_at (lead s start) start own (depth c) (stepped c h) (traps k) z q a)
      by (ends v) q go tick_ = no_spawn z (lead_at (lead s start) start own (depth c) (stepped c h) (ends v) z q a)
      by stuck q go tick_ = no_spawn z (lead_at (lead s start) start own (depth c) (stepped c h) stuck z q a)

  -- ---- the join

  -- what a child holds that only returns: what it was lent
  abbrev back : Spawned → List Argument → Stack
  back z ws = pop_frame (push_frame z.lent 1 ws) 1

  -- the log behind the join
  abbrev joined_log : (start : ℕ) → Spawned → Scalar → List Argument → End → List Note
  joined_log start z x ws e = child z.depth_ z.own (Some x) true (record { start = start - z.own; call = z.call; lent = z.lent }) (told e (back z ws)) ∷ []

  -- A spawn, its child that only returns a value, a silent step, the sync, and the rest of the run.
  pub joined_once : (start : ℕ) (c b t : Control) (h whole : Stack) (z : Spawned) (x : Scalar) (v : ℤ) (ws : List Argument) (m : ℕ) (e : End)
      → lead 250 start 0 c h ≡ Some z → z.destination ≡ Some x → StackSum z.lent z.kept whole → IsUnder 1 z.lent → may_write (z.lent.words x.depth x.slot 0) ≡ true
      → follow program page input 250 (start - z.own) 0 z.call z.lent [] ≡ found (Done [] (Some v) m) (back z ws)
      → step program page input z.later z.kept ≡ silent b z.kept → step program page input b z.kept ≡ syncs t → depth b ≡ z.depth_
      → z.own + (0 + m) ≤ start
      → (f : Found) → follow program page input 250 start z.own t (settle (Some x) (Some v) whole) (joined_log start z x ws (Done [] (Some v) m)) ≡ f → end_found program page input f ≡ Some e
      → (w : Stack) × Forks (piece_of start 0 c h []) e w
  joined_once start c b t h whole z x v ws m e lead_ dest sum low held run one sync same fits f rest end_ =
      (later.0, led 250 start 0 c h z lead_ (subst (λ y. Forks (waiting y) e later.0) (sym dest) asked_))
    where
      ask : Ask
      ask = record { start = start - z.own; call = z.call; lent = z.lent }

      done_ : End
      done_ = Done [] (Some v) m

      later : (w : Stack) × Forks (piece_of start z.own t (settle (Some x) (Some v) whole) (joined_log start z x ws (Done [] (Some v) m))) e w
      later = allowed_from program page input 250 start z.own t (settle (Some x) (Some v) whole) (joined_log start z x ws (Done [] (Some v) m)) e f rest tt refl end_

      waiting : Destination → Piece
      waiting y = piece_of start z.own z.later z.kept (child z.depth_ z.own y false (record { start = start - z.own; call = z.call; lent = z.lent }) awaited ∷ [])

      child_end : Forks (piece_of (start - z.own) 0 z.call z.lent []) (Done [] (Some v) m) (back z ws)
      child_end = subst (λ y. Is program page input y (piece_of (start - z.own) 0 z.call z.lent [])) run (followed program page input 250 (start - z.own) 0 z.call z.lent [] tt refl)

      joined : StackSum z.kept (settle (Some x) (Some v) (back z ws)) (settle (Some x) (Some v) whole)
      joined = subst (λ y. StackSum z.kept (settle (Some x) (Some v) y) (settle (Some x) (Some v) whole)) (sym (pushed_popped 1 z.lent ws low)) (comm (settled_sum x v z.lent z.kept whole sum held))

      collected : Collects Control Stack Destination StackSum SharesBack settle depth (step program page input) (depth b) (child z.depth_ z.own (Some x) false (record { start = start - z.own; call = z.call; lent = z.lent }) (told (Done [] (Some v) m) (back z ws)) ∷ []) z.kept (joined_log start z x ws (Done [] (Some v) m)) (settle (Some x) (Some v) whole)
      collected = subst (λ y. Collects Control Stack Destination StackSum SharesBack settle depth (step program page input) y (child z.depth_ z.own (Some x) false (record { start = start - z.own; call = z.call; lent = z.lent }) (told (Done [] (Some v) m) (back z ws)) ∷ []) z.kept (joined_log start z x ws (Done [] (Some v) m)) (settle (Some x) (Some v) whole)) (sym same) (taken joined none)

      asked_ : Forks (waiting (Some x)) e later.0
      asked_ = goes (hearing (this child_end)) (goes (silently one) (goes (joining sync collected (counted none) fits) later.1))
