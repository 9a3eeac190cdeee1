-- A run of a piece that prints, spawns and joins a child that holds no words.
use Rattle.std.proofs.Common.{◌≡◌, ℕ, zero, suc, ◌+◌, ◌≤◌, List, [], ◌∷◌, Option, None, Some, refl, sym, ap, subst, arith}
use Rattle.std.proofs.lemmas.Bool.{ltb-true}
use Rattle.std.specs.Prelude.{◌-◌, Bool, true, false, nat_lt, if◌then◌else◌, ℤ}
use Rattle.cm_syntax.specs.declared.stmt.Program.{Program}
use Rattle.cm_syntax.specs.Label.{silent, ticks, prints, spawns, syncs, traps, ends, stuck}
use Rattle.cm_syntax.specs.Stack.{Stack, Destination, StackSum, SharesBack, IsUnder, settle, push_frame, pop_frame}
use Rattle.cm_syntax.specs.Rest.{Control}
use Rattle.cm_syntax.specs.Step.{Move, step, depth}
use Rattle.cm_meaning.specs.End.{End, Done}
use Rattle.cm_meaning.specs.Meaning.{Ask, Fork, Piece, Note}
use Rattle.cm_meaning.specs.Piece.{piece, printed, child, told, awaited, none, past, counted, Counts, Collects, taken, silently, ticking, showing, parting, joining, hearing, this, goes}
use Rattle.cm_meaning.proofs.SumLaw.{comm}
use Rattle.cm_meaning.proofs.PieceRow.{Found, found, follow, followed, allowed_from, end_found, is_fine, joined_count, counts_joined, Is}
use Rattle.cm_meaning.proofs.JoinRow.{pushed_popped}

module _ (program : Program) (page : ℕ) (input : List ℤ) where
  abbrev Forks : Piece → End → Stack → Type 0
  Forks = Fork program page input

  abbrev piece_of : (start own : ℕ) → Control → Stack → List Note → Piece
  piece_of = piece Control Stack Destination

  abbrev stepped : Control → Stack → Move
  stepped = step program page input

  -- a piece without its ticks at the start
  pub record Place : Type 0 where
    pub own : ℕ
    pub control : Control
    pub held : Stack
    pub log : List Note

  abbrev pub place : (own : ℕ) → Control → Stack → List Note → Place
  place own c h log = record { own = own; control = c; held = h; log = log }

  -- up to the next spawn or sync
  abbrev walk_on : ((own : ℕ) → Control → Stack → List Note → Option Place) → (start own : ℕ) → Control → Stack → List Note → Move → Option Place
  walk_on go start own c h log (silent t g) = go own t g log
  walk_on go start own c h log (ticks t g) = if nat_lt (own + joined_count log) start then go (suc own) t g log else None
  walk_on go start own c h log (prints v t g) = go own t g (printed v ∷ log)
  walk_on go start own c h log (spawns call lent x t g) = Some (place own c h log)
  walk_on go start own c h log (syncs t) = Some (place own c h log)
  walk_on go start own c h log _ = None

  abbrev pub walk : (steps : ℕ) → (start own : ℕ) → Control → Stack → List Note → Option Place
  walk zero start own c h log = None
  walk (suc s) start own c h log = walk_on (walk s start) start own c h log (stepped c h)

  no_place : {A : Type 0} (z : Place) → None ≡ Some z → A
  no_place z k = cc k

  same_place : (x y : Place) → Some x ≡ Some y → x ≡ y
  same_place x y k = ap (λ z. elim z [ None ↦ x | Some q ↦ q ]) k

  -- what is allowed there is allowed before
  pub walked : (s start own : ℕ) (c : Control) (h : Stack) (log : List Note) (z : Place) {d : End} {w : Stack} → is_fine log ≡ true → walk s start own c h log ≡ Some z → Forks (piece_of start z.own z.control z.held z.log) d w → Forks (piece_of start own c h log) d w
  walked zero start own c h log z j a f = no_place z a
  walked (suc s) start own c h log z {d = d} {w = w} j a f =
      by (stepped c h) refl (λ t g k. walked s start own t g log z j k f) (λ t g k. walked s start (suc own) t g log z j k f) (λ v t g k. walked s start own t g (printed v ∷ log) z j k f)
    where
      at : (m : Move) → stepped c h ≡ m → walk_on (walk s start) start own c h log m ≡ Some z
      at m q = subst (λ y. walk_on (walk s start) start own c h log y ≡ Some z) q a

      here_ : Some (place own c h log) ≡ Some z → Forks (piece_of start own c h log) d w
      here_ k = subst (λ y. Forks (piece_of start y.own y.control y.held y.log) d w) (sym (same_place (place own c h log) z k)) f

      ticked : (t : Control) (g : Stack) → stepped c h ≡ ticks t g → (b : Bool) → nat_lt (own + joined_count log) start ≡ b → (if b then walk s start (suc own) t g log else None) ≡ Some z
          → (walk s start (suc own) t g log ≡ Some z → Forks (piece_of start (suc own) t g log) d w) → Forks (piece_of start own c h log) d w
      ticked t g q true l k go = goes (ticking q (counts_joined log j) (ltb-true (own + joined_count log) start l)) (go k)
      ticked t g q false l k go = no_place z k

      by : (m : Move) → stepped c h ≡ m → ((t : Control) (g : Stack) → walk s start own t g log ≡ Some z → Forks (piece_of start own t g log) d w) → ((t : Control) (g : Stack) → walk s start (suc own) t g log ≡ Some z → Forks (piece_of start (suc own) t g log) d w)
          → ((v : ℤ) (t : Control) (g : Stack) → walk s start own t g (printed v ∷ log) ≡ Some z → Forks (piece_of start own t g (printed v ∷ log)) d w) → Forks (piece_of start own c h log) d w
      by (silent t g) q go tick_ print_ = goes (silently q) (go t g (at _ q))
      by (ticks t g) q go tick_ print_ = ticked t g q (nat_lt (own + joined_count log) start) refl (at _ q) (tick_ t g)
      by (prints v t g) q go tick_ print_ = goes (showing q) (print_ v t g (at _ q))
      by (spawns call lent x t g) q go tick_ print_ = here_ (at _ q)
      by (syncs t) q go tick_ print_ = here_ (at _ q)
      by (traps k) q go tick_ print_ = no_place z (at _ q)
      by (ends v) q go tick_ print_ = no_place z (at _ q)
      by stuck q go tick_ print_ = no_place z (at _ q)

  abbrev asked : (start : ℕ) → Control → Stack → Ask
  asked start call lent = record { start = start; call = call; lent = lent }

  -- a child of main's first frame that gives no value back: awaited, told, and joined
  abbrev waiting : (start own : ℕ) → (call : Control) → (lent : Stack) → Note
  waiting start own call lent = child 0 own None false (asked start call lent) awaited

  abbrev answered : (start own : ℕ) → (call : Control) → (lent : Stack) → (joined : Bool) → End → Stack → Note
  answered start own call lent j e w = child 0 own None j (asked start call lent) (told e w)

  -- what a child holds that only prints: what it was lent
  abbrev pub after_frame : Stack → Stack
  after_frame lent = pop_frame (push_frame lent 1 []) 1

  -- A spawn of a child that only prints, what main does beside it up to its sync, and the rest of the run. Between the
  -- spawn and the sync main prints one number.
  pub joined_prints : (start : ℕ) (c call t u : Control) (h lent kept : Stack) (z y : Place) (out : List ℤ) (m : ℕ) (v : ℤ) (e : End)
      → walk 250 start 0 c h [] ≡ Some z → is_fine z.log ≡ true → joined_count z.log ≡ 0 → stepped z.control z.held ≡ spawns call lent None t kept → depth z.control ≡ 0
      → StackSum lent kept z.held → IsUnder 1 lent → follow program page input 250 (start - (z.own + 0)) 0 call lent [] ≡ found (Done out None m) (after_frame lent)
      → walk 250 start z.own t kept (answered (start - (z.own + 0)) z.own call lent false (Done out None m) (after_frame lent) ∷ z.log) ≡ Some y
      → y.log ≡ printed v ∷ answered (start - (z.own + 0)) z.own call lent false (Done out None m) (after_frame lent) ∷ z.log → y.held ≡ kept → stepped y.control y.held ≡ syncs u → depth y.control ≡ 0
      → Collects Control Stack Destination StackSum SharesBack settle depth stepped 0 z.log z.held z.log z.held
      → y.own + m ≤ start
      → (f : Found) → follow program page input 250 start y.own u z.held (printed v ∷ answered (start - (z.own + 0)) z.own call lent true (Done out None m) (after_frame lent) ∷ z.log) ≡ f → end_found program page input f ≡ Some e
      → Rattle.cm_meaning.specs.Piece.AllTold Control Stack Destination z.log
      → (w : Stack) × Forks (piece_of start 0 c h []) e w
  joined_prints start c call t u h lent kept z y out m v e first fine count spawn depth_z sum low run second log_is same sync depth_y older fits f rest end_ told_ =
      (later.0, walked 250 start 0 c h [] z refl first (goes (parting spawn counted_) at_spawn))
    where
      left : ℕ
      left = start - (z.own + 0)

      counted_ : Counts Control Stack Destination z.log 0
      counted_ = subst (Counts Control Stack Destination z.log) count (counts_joined z.log fine)

      log_ : Bool → List Note
      log_ j = printed v ∷ answered left z.own call lent j (Done out None m) (after_frame lent) ∷ z.log

      later : (w : Stack) × Forks (piece_of start y.own u z.held (log_ true)) e w
      later = allowed_from program page input 250 start y.own u z.held (log_ true) e f rest told_ fine end_

      joined : StackSum kept (settle None None (after_frame lent)) z.held
      joined = subst (λ s. StackSum kept s z.held) (sym (pushed_popped 1 lent [] low)) (comm sum)

      collected : Collects Control Stack Destination StackSum SharesBack settle depth stepped 0 (log_ false) kept (log_ true) z.held
      collected = past (taken joined older)

      counted_later : Counts Control Stack Destination (log_ true) m
      counted_later = subst (Counts Control Stack Destination (log_ true)) plain (past (counted counted_))
        where
          plain : 0 + m ≡ m
          plain = omega arith

      at_sync : Forks (piece_of start y.own y.control y.held y.log) e later.0
      at_sync = subst (λ l. Forks (piece_of start y.own y.control y.held l) e later.0) (sym log_is)
          (goes (joining sync (subst (λ d. Collects Control Stack Destination StackSum SharesBack settle depth stepped d (log_ false) y.held (log_ true) z.held) (sym depth_y)
          (subst (λ s. Collects Control Stack Destination StackSum SharesBack settle depth stepped 0 (log_ false) s (log_ true) z.held) (sym same) collected)) counted_later fits) later.1)

      child_end : Forks (piece_of left 0 call lent []) (Done out None m) (after_frame lent)
      child_end = subst (λ q. Is program page input q (piece_of left 0 call lent [])) run (followed program page input 250 left 0 call lent [] tt refl)

      at_told : Forks (piece_of start z.own t kept (answered left z.own call lent false (Done out None m) (after_frame lent) ∷ z.log)) e later.0
      at_told = walked 250 start z.own t kept (answered left z.own call lent false (Done out None m) (after_frame lent) ∷ z.log) y fine second at_sync

      at_spawn : Forks (piece_of start z.own t kept (child (depth z.control) z.own None false (asked left call lent) awaited ∷ z.log)) e later.0
      at_spawn = subst (λ d. Forks (piece_of start z.own t kept (child d z.own None false (asked left call lent) awaited ∷ z.log)) e later.0) (sym depth_z) (goes (hearing (this child_end)) at_told)
