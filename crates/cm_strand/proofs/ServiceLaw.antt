-- At a service: the state whose step arrives there, and the events of services that go on.
use Rattle.std.proofs.Common.{◌≡◌, ℕ, ◌<◌, ◌≤◌, ◌^◌, List, [], ◌∷◌, length, Option, Some, refl, sym, ap, ◌∙◌, subst, arith, inl, inr}
use Rattle.std.specs.Prelude.{ℤ, ◌⊎◌, FitsSigned}
use Rattle.std.specs.Int.{w32, cast_signed}
use Rattle.std.proofs.lemmas.Int.{to_z-of_z}
use Rattle.cm_syntax.specs.Trap.{Trap}
use Rattle.cm_syntax.specs.Label.{silent, ticks, prints, spawns, syncs, traps, ends, stuck}
use Rattle.cm_syntax.specs.Stack.{Stack, Destination}
use Rattle.cm_syntax.specs.declared.stmt.Program.{Program}
use Rattle.cm_syntax.specs.Rest.{Control}
use Rattle.cm_syntax.specs.Step.{top, step}
use Rattle.cm_meaning.specs.Activation.{end_count}
use Rattle.cm_isa.specs.Machine.{Machine}
use Rattle.cm_isa.specs.Address.{InstructionAt}
use Rattle.cm_isa.specs.Operation.{ecall}
use Rattle.cm_isa.specs.Run.{replied_machine}
use Rattle.cm_meaning.specs.Piece.{printed}
use Rattle.cm_meaning.specs.Meaning.{Note, Piece, begun, Goes, Reached}
use Rattle.cm_strand.specs.Piece.{piece}
use Rattle.cm_gen.specs.Standing.{Frame}
use Rattle.cm_gen.specs.StandsFor.{Spot, ExactAt, Traps, Spawns, Reply, passed}
use Rattle.cm_gen.specs.FrameWord.{pointer_of, AreFrames, Holds, bits}
use Rattle.cm_gen.specs.Moment.{AtService, at_print, at_reply, at_spawn, at_sync, at_spent, at_trap, at_end, Settles}
use Rattle.cm_gen.specs.StandsFor.{IsResult}
use Rattle.cm_strand.specs.Running.{RunsCilk}
use Rattle.cm_strand.specs.Owned.{Claim}
use Rattle.cm_strand.specs.Walk.{Walk}
use Rattle.cm_strand.specs.Standing.{Belongs, AreUsed, AreOpen, none, here, below, Placed, Lies, IsGoing}
use Rattle.cm_meaning.specs.Leads.{Leads}
use Rattle.cm_meaning.specs.Shift.{KeepsCalls}
use Rattle.cm_strand.proofs.KnownLaw.{CallsKept, KnownFacts}
use Rattle.cm_strand.proofs.FactLaw.{CodeFacts}
use Rattle.cm_syntax.specs.Trap as kind
use Rattle.cm_meaning.specs.Piece as pieces
use Rattle.cm_isa.specs.declared.convention.TheConstants as reg
use Rattle.cm_gen.specs.declared.form.Form.TheVariants.{Cilk}
use Rattle.cm_strand.specs.Strand.{Request, going, Scope, Strand, machine_of, Balances, hole_count}
use Rattle.cm_strand.specs.Turn.{print, reply, pass, IsElsewhere}
use Rattle.cm_meaning.proofs.LeadLaw.{both_lead, one_rule}
use Rattle.cm_strand.proofs.FormLaw.{cilk_runs, missing}
use Rattle.cm_strand.proofs.ShapeLaw.{counts, scope_deep, none_of, collects_none}
use Rattle.cm_strand.proofs.TravelLaw.{Carried, Comes, travel, steady}
use Rattle.cm_strand.proofs.CarriedLaw.{Now, Stands, Behind, runs_of, carried_of, standing, reached_by, few_left, formed_of}

-- a scope's children, with one note more
pub used_more : (scopes : List Scope) (count more : ℕ) (n : Note) (notes : List Note) → count ≤ more → AreUsed scopes count notes → AreUsed scopes more (n ∷ notes)
used_more [] count more n notes small u = tt
used_more (s ∷ scopes) count more n notes small u =
    (let below = u.0 in omega (arith, small, below), (u.1.0, u.1.1, u.1.2, u.1.3, pieces.HasNote.deeper u.1.4), used_more scopes count more n notes small u.2)

module _ (program : Program) (page : ℕ) (input : List ℤ) (image : List ℕ) (spot : Spot) (left : ℕ) (c : Control) (h : Stack) (m : Machine) where
  abbrev pub At : Type 0
  At = AtService program Cilk page input (InstructionAt image) spot left c h m

  -- the number of a service
  abbrev number_at : At → ℕ
  number_at (at_print v d g is serves value fits same exact) = 1
  number_at (at_reply n d g is (inl said) same exact) = 2
  number_at (at_reply n d g is (inr said) same exact) = 3
  number_at (at_spawn call lent x d g is cilk alike arrives) = 4
  number_at (at_sync d is cilk serves same exact) = 5
  number_at (at_spent d g is spent_ serves l) = 6
  number_at (at_trap kind.Divide is serves l) = 7
  number_at (at_trap kind.Index is serves l) = 8
  number_at (at_trap kind.Stack is serves l) = 9
  number_at (at_trap kind.Input is serves l) = 2
  number_at (at_end v is serves r l w) = 0

  number_is : (a : At) → m.registers reg.SERVICE ≡ number_at a
  number_is (at_print v d g is serves value fits same exact) = serves.number_is
  number_is (at_reply n d g is (inl said) same exact) = said.0.number_is
  number_is (at_reply n d g is (inr said) same exact) = said.0.number_is
  number_is (at_spawn call lent x d g is cilk alike arrives) = arrives.serves.number_is
  number_is (at_sync d is cilk serves same exact) = serves.number_is
  number_is (at_spent d g is spent_ serves l) = serves.number_is
  number_is (at_trap kind.Divide is serves l) = serves.number_is
  number_is (at_trap kind.Index is serves l) = serves.number_is
  number_is (at_trap kind.Stack is serves l) = serves.number_is
  number_is (at_trap kind.Input is serves l) = serves.0.number_is
  number_is (at_end v is serves r l w) = serves.number_is

  other : (a : At) (n : ℕ) → m.registers reg.SERVICE ≡ n → (number_at a ≡ n → ⊥) → ⊥
  other a n e differs = differs (sym (number_is a) ∙ e)

  -- only services 0 to 9 are asked for
  pub few_services : At → m.registers reg.SERVICE ≤ 9
  few_services (at_reply n d g is (inl said) same exact) = let e = said.0.number_is in omega (arith, e)
  few_services (at_reply n d g is (inr said) same exact) = let e = said.0.number_is in omega (arith, e)
  few_services (at_print v d g is serves value fits same exact) = let e = serves.number_is in omega (arith, e)
  few_services (at_spawn call lent x d g is cilk alike arrives) = let e = arrives.serves.number_is in omega (arith, e)
  few_services (at_sync d is cilk serves same exact) = let e = serves.number_is in omega (arith, e)
  few_services (at_spent d g is spent_ serves l) = let e = serves.number_is in omega (arith, e)
  few_services (at_trap kind.Divide is serves l) = let e = serves.number_is in omega (arith, e)
  few_services (at_trap kind.Index is serves l) = let e = serves.number_is in omega (arith, e)
  few_services (at_trap kind.Stack is serves l) = let e = serves.number_is in omega (arith, e)
  few_services (at_trap kind.Input is serves l) = let e = serves.0.number_is in omega (arith, e)
  few_services (at_end v is serves r l w) = let e = serves.number_is in omega (arith, e)

  -- a number of the input is replied, or there is none
  pub heard_input : At → m.registers reg.SERVICE ≡ 2 → ((n : ℕ) × Reply program Cilk page input (InstructionAt image) m n) ⊎ Traps program Cilk page input (InstructionAt image) kind.Input m
  heard_input (at_reply n d g is said same exact) e = inl (n, said)
  heard_input (at_trap kind.Input is serves l) e = inr serves
  heard_input (at_trap kind.Divide is serves l) e = absurd (other (at_trap kind.Divide is serves l) 2 e (λ x. omega (arith, x)))
  heard_input (at_trap kind.Index is serves l) e = absurd (other (at_trap kind.Index is serves l) 2 e (λ x. omega (arith, x)))
  heard_input (at_trap kind.Stack is serves l) e = absurd (other (at_trap kind.Stack is serves l) 2 e (λ x. omega (arith, x)))
  heard_input a e = absurd (other a 2 e (λ x. omega (arith, x)))

  pub record Printing : Type 0 where
    pub value : ℤ
    pub to : Control
    pub held : Stack
    pub is : step program page input c h ≡ prints value to held
    pub value_is : m.registers reg.VALUE ≡ bits value
    pub fits : FitsSigned w32 value
    pub same : to.calls ≡ c.calls
    pub exact : ExactAt program Cilk page input (InstructionAt image) spot left to held (passed m)

  pub printing : At → m.registers reg.SERVICE ≡ 1 → Printing
  printing (at_print v d g is serves value fits same exact) e = record { value = v; to = d; held = g; is = is; value_is = value; fits = fits; same = same; exact = exact }
  printing (at_reply n d g is (inl said) same exact) e = absurd (other (at_reply n d g is (inl said) same exact) 1 e (λ x. omega (arith, x)))
  printing (at_reply n d g is (inr said) same exact) e = absurd (other (at_reply n d g is (inr said) same exact) 1 e (λ x. omega (arith, x)))
  printing (at_trap kind.Divide is serves l) e = absurd (other (at_trap kind.Divide is serves l) 1 e (λ x. omega (arith, x)))
  printing (at_trap kind.Index is serves l) e = absurd (other (at_trap kind.Index is serves l) 1 e (λ x. omega (arith, x)))
  printing (at_trap kind.Stack is serves l) e = absurd (other (at_trap kind.Stack is serves l) 1 e (λ x. omega (arith, x)))
  printing (at_trap kind.Input is serves l) e = absurd (other (at_trap kind.Input is serves l) 1 e (λ x. omega (arith, x)))
  printing a e = absurd (other a 1 e (λ x. omega (arith, x)))

  -- a service that replies with a number of the input, or their count
  pub record Replying : Type 0 where
    pub number : ℕ
    pub to : Control
    pub held : Stack
    pub is : step program page input c h ≡ silent to held
    pub said : Reply program Cilk page input (InstructionAt image) m number
    pub same : to.calls ≡ c.calls
    pub exact : ExactAt program Cilk page input (InstructionAt image) spot left to held (replied_machine m (Some number))

  pub record Spawning : Type 0 where
    pub call : Control
    pub lent : Stack
    pub destination : Destination
    pub to : Control
    pub held : Stack
    pub is : step program page input c h ≡ spawns call lent destination to held
    pub arrives : Spawns program Cilk page input (InstructionAt image) spot left call lent destination to held m

  pub spawning : At → m.registers reg.SERVICE ≡ 4 → Spawning
  spawning (at_spawn call lent x d g is cilk alike arrives) e = record { call = call; lent = lent; destination = x; to = d; held = g; is = is; arrives = arrives }
  spawning (at_reply n d g is (inl said) same exact) e = absurd (other (at_reply n d g is (inl said) same exact) 4 e (λ x. omega (arith, x)))
  spawning (at_reply n d g is (inr said) same exact) e = absurd (other (at_reply n d g is (inr said) same exact) 4 e (λ x. omega (arith, x)))
  spawning (at_trap kind.Divide is serves l) e = absurd (other (at_trap kind.Divide is serves l) 4 e (λ x. omega (arith, x)))
  spawning (at_trap kind.Index is serves l) e = absurd (other (at_trap kind.Index is serves l) 4 e (λ x. omega (arith, x)))
  spawning (at_trap kind.Stack is serves l) e = absurd (other (at_trap kind.Stack is serves l) 4 e (λ x. omega (arith, x)))
  spawning (at_trap kind.Input is serves l) e = absurd (other (at_trap kind.Input is serves l) 4 e (λ x. omega (arith, x)))
  spawning a e = absurd (other a 4 e (λ x. omega (arith, x)))

  pub record Syncing : Type 0 where
    pub to : Control
    pub is : step program page input c h ≡ syncs to
    pub cilk : RunsCilk program c.calls
    pub same : to.calls ≡ c.calls
    pub exact : ExactAt program Cilk page input (InstructionAt image) spot left to h (passed m)

  pub syncing : At → m.registers reg.SERVICE ≡ 5 → Syncing
  syncing (at_sync d is cilk serves same exact) e = record { to = d; is = is; cilk = cilk_runs program c.calls cilk; same = same; exact = exact }
  syncing (at_reply n d g is (inl said) same exact) e = absurd (other (at_reply n d g is (inl said) same exact) 5 e (λ x. omega (arith, x)))
  syncing (at_reply n d g is (inr said) same exact) e = absurd (other (at_reply n d g is (inr said) same exact) 5 e (λ x. omega (arith, x)))
  syncing (at_trap kind.Divide is serves l) e = absurd (other (at_trap kind.Divide is serves l) 5 e (λ x. omega (arith, x)))
  syncing (at_trap kind.Index is serves l) e = absurd (other (at_trap kind.Index is serves l) 5 e (λ x. omega (arith, x)))
  syncing (at_trap kind.Stack is serves l) e = absurd (other (at_trap kind.Stack is serves l) 5 e (λ x. omega (arith, x)))
  syncing (at_trap kind.Input is serves l) e = absurd (other (at_trap kind.Input is serves l) 5 e (λ x. omega (arith, x)))
  syncing a e = absurd (other a 5 e (λ x. omega (arith, x)))

  -- the number of a trap's service
  abbrev pub trap_number : Trap → ℕ
  trap_number kind.Divide = 7
  trap_number kind.Index = 8
  trap_number kind.Stack = 9
  trap_number kind.Input = 2

  traps_at : (k : Trap) → Traps program Cilk page input (InstructionAt image) k m → m.registers reg.SERVICE ≡ trap_number k
  traps_at kind.Divide t = t.number_is
  traps_at kind.Index t = t.number_is
  traps_at kind.Stack t = t.number_is
  traps_at kind.Input t = t.0.number_is

  one_trap : (j k : Trap) → m.registers reg.SERVICE ≡ trap_number j → m.registers reg.SERVICE ≡ trap_number k → j ≡ k
  one_trap kind.Divide kind.Divide a b = refl
  one_trap kind.Index kind.Index a b = refl
  one_trap kind.Stack kind.Stack a b = refl
  one_trap kind.Input kind.Input a b = refl
  one_trap j k a b = absurd (omega (arith, a, b))

  pub record Trapping (k : Trap) : Type 0 where
    pub is : step program page input c h ≡ traps k
    pub left_is : m.registers reg.TICKS ≡ left

  no_number : length input < 2 ^ 31 → (n : ℕ) (k : Trap) → Reply program Cilk page input (InstructionAt image) m n → Traps program Cilk page input (InstructionAt image) k m → ⊥
  no_number few n kind.Input (inl a) t = missing input few t.1 a.1 (m.registers reg.VALUE) t.2 t.3 t.4 a.2
  no_number few n kind.Input (inr b) t = let f = t.0.number_is in let g = b.0.number_is in omega (arith, f, g)
  no_number few n kind.Divide (inl a) t = let f = t.number_is in let g = a.0.number_is in omega (arith, f, g)
  no_number few n kind.Divide (inr b) t = let f = t.number_is in let g = b.0.number_is in omega (arith, f, g)
  no_number few n kind.Index (inl a) t = let f = t.number_is in let g = a.0.number_is in omega (arith, f, g)
  no_number few n kind.Index (inr b) t = let f = t.number_is in let g = b.0.number_is in omega (arith, f, g)
  no_number few n kind.Stack (inl a) t = let f = t.number_is in let g = a.0.number_is in omega (arith, f, g)
  no_number few n kind.Stack (inr b) t = let f = t.number_is in let g = b.0.number_is in omega (arith, f, g)

  other_trap : (n : ℕ) (k : Trap) → (n < 2) ⊎ ((2 < n) × (n < 7)) → m.registers reg.SERVICE ≡ n → m.registers reg.SERVICE ≡ trap_number k → ⊥
  other_trap n kind.Divide (inl l) a b = omega (arith, l, a, b)
  other_trap n kind.Divide (inr l) a b = let f = l.1 in omega (arith, f, a, b)
  other_trap n kind.Index (inl l) a b = omega (arith, l, a, b)
  other_trap n kind.Index (inr l) a b = let f = l.1 in omega (arith, f, a, b)
  other_trap n kind.Stack (inl l) a b = omega (arith, l, a, b)
  other_trap n kind.Stack (inr l) a b = let f = l.1 in omega (arith, f, a, b)
  other_trap n kind.Input (inl l) a b = omega (arith, l, a, b)
  other_trap n kind.Input (inr l) a b = let f = l.0 in omega (arith, f, a, b)

  pub trapping : length input < 2 ^ 31 → At → (k : Trap) → Traps program Cilk page input (InstructionAt image) k m → Trapping k
  trapping few (at_trap j is serves l) k t = record { is = is ∙ ap (λ i. traps i) (one_trap j k (traps_at j serves) (traps_at k t)); left_is = l }
  trapping few (at_reply n d g is said same exact) k t = absurd (no_number few n k said t)
  trapping few (at_print v d g is serves value fits same exact) k t = absurd (other_trap 1 k (inl (omega arith)) serves.number_is (traps_at k t))
  trapping few (at_spawn call lent x d g is cilk alike arrives) k t = absurd (other_trap 4 k (inr (omega arith, omega arith)) arrives.serves.number_is (traps_at k t))
  trapping few (at_sync d is cilk serves same exact) k t = absurd (other_trap 5 k (inr (omega arith, omega arith)) serves.number_is (traps_at k t))
  trapping few (at_spent d g is spent_ serves l) k t = absurd (other_trap 6 k (inr (omega arith, omega arith)) serves.number_is (traps_at k t))
  trapping few (at_end v is serves r l w) k t = absurd (other_trap 0 k (inl (omega arith)) serves.number_is (traps_at k t))

  pub record Spending : Type 0 where
    pub to : Control
    pub held : Stack
    pub is : step program page input c h ≡ ticks to held
    pub none_left : left ≡ 0
    pub left_is : m.registers reg.TICKS ≡ left

  pub spending : At → m.registers reg.SERVICE ≡ 6 → Spending
  spending (at_spent d g is spent_ serves l) e = record { to = d; held = g; is = is; none_left = spent_; left_is = l }
  spending (at_reply n d g is (inl said) same exact) e = absurd (other (at_reply n d g is (inl said) same exact) 6 e (λ x. omega (arith, x)))
  spending (at_reply n d g is (inr said) same exact) e = absurd (other (at_reply n d g is (inr said) same exact) 6 e (λ x. omega (arith, x)))
  spending (at_trap kind.Divide is serves l) e = absurd (other (at_trap kind.Divide is serves l) 6 e (λ x. omega (arith, x)))
  spending (at_trap kind.Index is serves l) e = absurd (other (at_trap kind.Index is serves l) 6 e (λ x. omega (arith, x)))
  spending (at_trap kind.Stack is serves l) e = absurd (other (at_trap kind.Stack is serves l) 6 e (λ x. omega (arith, x)))
  spending (at_trap kind.Input is serves l) e = absurd (other (at_trap kind.Input is serves l) 6 e (λ x. omega (arith, x)))
  spending a e = absurd (other a 6 e (λ x. omega (arith, x)))

  pub record Ending : Type 0 where
    pub value : Option ℤ
    pub is : step program page input c h ≡ ends value
    pub result : IsResult value (m.registers reg.RESULT)
    pub left_is : m.registers reg.TICKS ≡ left
    pub holds : Holds program page c.calls spot.frames h m.words

  pub ending_ : At → m.registers reg.SERVICE ≡ 0 → Ending
  ending_ (at_end v is serves r l w) e = record { value = v; is = is; result = r; left_is = l; holds = w }
  ending_ (at_reply n d g is (inl said) same exact) e = absurd (other (at_reply n d g is (inl said) same exact) 0 e (λ x. omega (arith, x)))
  ending_ (at_reply n d g is (inr said) same exact) e = absurd (other (at_reply n d g is (inr said) same exact) 0 e (λ x. omega (arith, x)))
  ending_ (at_trap kind.Divide is serves l) e = absurd (other (at_trap kind.Divide is serves l) 0 e (λ x. omega (arith, x)))
  ending_ (at_trap kind.Index is serves l) e = absurd (other (at_trap kind.Index is serves l) 0 e (λ x. omega (arith, x)))
  ending_ (at_trap kind.Stack is serves l) e = absurd (other (at_trap kind.Stack is serves l) 0 e (λ x. omega (arith, x)))
  ending_ (at_trap kind.Input is serves l) e = absurd (other (at_trap kind.Input is serves l) 0 e (λ x. omega (arith, x)))
  ending_ a e = absurd (other a 0 e (λ x. omega (arith, x)))

module _ (program : Program) (page limit : ℕ) (input : List ℤ) (image : List ℕ) (first : Piece) (request : Request)
    (code : CodeFacts program page limit input image) (facts : KnownFacts program page limit input first)
    (asked : Reached program page input first (begun request.ask)) where
  -- a strand at a service, with the piece whose step arrives there
  pub record Served (old : Spot) (s : Strand) (p : Piece) : Type 0 where
    pub spot : Spot
    pub walk : Walk old spot
    pub left : ℕ
    pub own : ℕ
    pub control : Control
    pub held : Stack
    pub leads : Leads program page input p (piece p.start own control held p.log)
    pub carried : Now program page limit input image first request s spot left (piece p.start own control held p.log)
    pub frames : AreFrames program page control.calls spot.frames
    pub at : AtService program Cilk page input (InstructionAt image) spot left control held (machine_of s)
    pub step_keeps : CallsKept control (step program page input control held)

  pub served : (given : Claim) (s : Strand) (spot : Spot) (p : Piece) → Stands program page limit input image first request given s spot p → s.course ≡ going
      → InstructionAt image s.counter ecall → Served spot s p
  served given s spot p x e there =
      by (code.settles spot x.left p.control p.held (machine_of s) (few_left program page limit input image first request code facts asked given s spot p x)
      (formed_of program page limit input image first request code facts asked p x.from) r.frames r.stands there)
    where
      r : IsGoing program page input image request s spot x.left p
      r = runs_of program page limit input image first request given s spot p x e

      by : Settles program Cilk page input (InstructionAt image) spot x.left p.control p.held (machine_of s) → Served spot s p
      by g = so g.service
        where
          t : Comes program page limit input image first facts request asked s.scopes s.log spot g.spot g.later p.start g.to g.held p.log (piece p.start p.own p.control p.held p.log)
          t = travel program page limit input image first facts request asked s.scopes s.log spot g.spot x.left g.later p.start p.own p.control g.to p.held g.held p.log
              g.passes (carried_of program page limit input image first request given s spot p x e)

          reached_ : Reached program page input first (piece p.start t.own g.to g.held p.log)
          reached_ = reached_by program page limit input image first request asked _ t.carried.from

          so : AtService program Cilk page input (InstructionAt image) g.spot g.later g.to g.held (machine_of s) ⊎ (step program page input g.to g.held ≡ stuck) → Served spot s p
          so (inr stuck_) = absurd (facts.never_stuck (piece p.start t.own g.to g.held p.log) reached_ stuck_)
          so (inl at) = record {
            spot = g.spot;
            walk = t.walk;
            left = g.later;
            own = t.own;
            control = g.to;
            held = g.held;
            leads = t.leads;
            carried = t.carried;
            frames = g.frames;
            at = at;
            step_keeps = facts.calls_kept _ reached_;
          }

  -- ---- a print

  signed : (v : ℤ) (n : ℕ) → FitsSigned w32 v → n ≡ bits v → cast_signed w32 n ≡ v
  signed v n fits e = ap (cast_signed w32) e ∙ to_z-of_z w32 v fits

  pub prints_number : (given : Claim) (s : Strand) (spot : Spot) (p : Piece) → Stands program page limit input image first request given s spot p → s.course ≡ going
      → InstructionAt image s.counter ecall → s.registers reg.SERVICE ≡ 1
      → Behind program page limit input image first request given spot (print s (cast_signed w32 (s.registers reg.VALUE))) p
  prints_number given s spot p x e there one = record {
    spot = y.spot;
    walk = y.walk;
    to = to_;
    leads = both_lead program page input p q_ to_ y.leads (one_rule program page input q_ to_ rule);
    stands = standing program page limit input image first request given after y.spot y.left to_ carried e x.start_is x.few x.balances (inl z.exact)
        (subst (λ k. AreFrames program page k y.spot.frames) (sym z.same) y.frames);
  }
    where
      y : Served spot s p
      y = served given s spot p x e there

      z : Printing program page input image y.spot y.left y.control y.held (machine_of s)
      z = printing program page input image y.spot y.left y.control y.held (machine_of s) y.at one

      q_ : Piece
      q_ = piece p.start y.own y.control y.held p.log

      to_ : Piece
      to_ = piece p.start y.own z.to z.held (printed z.value ∷ p.log)

      after : Strand
      after = print s (cast_signed w32 (s.registers reg.VALUE))

      rule : Goes program page input q_ to_
      rule = pieces.Goes.showing z.is

      keeps : KeepsCalls y.control z.to
      keeps = subst (CallsKept y.control) z.is y.step_keeps

      carried : Now program page limit input image first request after y.spot y.left to_
      carried = record {
        from = both_lead program page input (begun request.ask) q_ to_ y.carried.from (one_rule program page input q_ to_ rule);
        ticks_are = y.carried.ticks_are;
        shows = (signed z.value (s.registers reg.VALUE) z.fits z.value_is, y.carried.shows);
        opens = subst (λ k. AreOpen program page s.scopes k y.spot.frames) (sym z.same) y.carried.opens;
        scopes_used = used_more s.scopes (hole_count s.log) (hole_count s.log) (printed z.value) p.log (omega arith) y.carried.scopes_used;
        placed = subst (λ k. Placed program page s.scopes k y.spot.frames s.log p.log) (sym z.same) y.carried.placed;
        rooted = subst (λ k. Lies k y.spot.frames request.ask.call.calls request.spot.frames) (sym z.same) y.carried.rooted;
        base = let b = y.carried.base in let f = ap length z.same in let g = keeps.1 in omega (arith, b, f, g);
      }

  -- ---- replies, and a sync without children

  one_reply : (m : Machine) (n k : ℕ) → Reply program Cilk page input (InstructionAt image) m n → Reply program Cilk page input (InstructionAt image) m k → n ≡ k
  one_reply m n k (inl a) (inl b) = a.3 ∙ ap bits (some_is (sym a.2 ∙ b.2)) ∙ sym b.3
    where
      some_is : {u v : ℤ} → ◌≡◌ {A = Option ℤ} (Some u) (Some v) → u ≡ v
      some_is e = cc
  one_reply m n k (inl a) (inr b) = let f = a.0.number_is in let g = b.0.number_is in absurd (omega (arith, f, g))
  one_reply m n k (inr a) (inl b) = let f = a.0.number_is in let g = b.0.number_is in absurd (omega (arith, f, g))
  one_reply m n k (inr a) (inr b) = a.1 ∙ sym b.1

  reply_number : (m : Machine) (n : ℕ) → Reply program Cilk page input (InstructionAt image) m n → (m.registers reg.SERVICE ≡ 2) ⊎ (m.registers reg.SERVICE ≡ 3)
  reply_number m n (inl a) = inl a.0.number_is
  reply_number m n (inr b) = inr b.0.number_is

  -- a state that goes on behind a service by one rule, with the log as it was
  passes_on : (given : Claim) (s after : Strand) (spot : Spot) (p : Piece) (y : Served spot s p) (d : Control) (g : Stack) → s.course ≡ going
      → s.start ≡ p.start → p.start < 2 ^ 32 → Balances given s.words s.log → after.log ≡ s.log → after.scopes ≡ s.scopes → after.course ≡ s.course
      → after.start ≡ s.start → after.words ≡ s.words
      → Goes program page input (piece p.start y.own y.control y.held p.log) (piece p.start y.own d g p.log) → KeepsCalls y.control d
      → ExactAt program Cilk page input (InstructionAt image) y.spot y.left d g (machine_of after)
      → Behind program page limit input image first request given spot after p
  passes_on given s after spot p y d g e start few balances log scopes course begin words goes keeps exact = record {
    spot = y.spot;
    walk = y.walk;
    to = piece p.start y.own d g p.log;
    leads = both_lead program page input p _ _ y.leads (one_rule program page input _ _ goes);
    stands = standing program page limit input image first request given after y.spot y.left (piece p.start y.own d g p.log)
        (subst (λ k. Carried program page input image request k after.log y.spot y.left (piece p.start y.own d g p.log)) (sym scopes)
        (subst (λ k. Carried program page input image request s.scopes k y.spot y.left (piece p.start y.own d g p.log)) (sym log)
        (steady program page limit input image first facts request asked s.scopes s.log y.spot y.left y.left p.start y.own y.own y.control d y.held g p.log goes keeps
        y.carried.ticks_are y.carried)))
        (course ∙ e) (begin ∙ start) few
        (subst (λ k. Balances given k after.log) (sym words) (subst (λ k. Balances given s.words k) (sym log) balances))
        (inl exact) (subst (λ k. AreFrames program page k y.spot.frames) (sym keeps.0) y.frames);
  }

  pub replies_word : (given : Claim) (s : Strand) (spot : Spot) (p : Piece) (word : ℕ) → Stands program page limit input image first request given s spot p → s.course ≡ going
      → InstructionAt image s.counter ecall → Reply program Cilk page input (InstructionAt image) (machine_of s) word
      → Behind program page limit input image first request given spot (reply s (Some word)) p
  replies_word given s spot p word x e there said = by y.at
    where
      y : Served spot s p
      y = served given s spot p x e there

      differs : (n : ℕ) → s.registers reg.SERVICE ≡ n → (n ≡ 2 → ⊥) → (n ≡ 3 → ⊥) → ⊥
      differs n is two three = either (reply_number (machine_of s) word said)
        where
          either : (s.registers reg.SERVICE ≡ 2) ⊎ (s.registers reg.SERVICE ≡ 3) → ⊥
          either (inl a) = two (sym is ∙ a)
          either (inr b) = three (sym is ∙ b)

      by : At program page input image y.spot y.left y.control y.held (machine_of s) → Behind program page limit input image first request given spot (reply s (Some word)) p
      by (at_print v d g is serves value fits same exact) = absurd (differs 1 serves.number_is (λ x. omega (arith, x)) (λ x. omega (arith, x)))
      by (at_spawn call lent z d g is cilk alike arrives) = absurd (differs 4 arrives.serves.number_is (λ x. omega (arith, x)) (λ x. omega (arith, x)))
      by (at_sync d is cilk serves same exact) = absurd (differs 5 serves.number_is (λ x. omega (arith, x)) (λ x. omega (arith, x)))
      by (at_spent d g is spent_ serves l) = absurd (differs 6 serves.number_is (λ x. omega (arith, x)) (λ x. omega (arith, x)))
      by (at_trap kind.Divide is serves l) = absurd (differs 7 serves.number_is (λ x. omega (arith, x)) (λ x. omega (arith, x)))
      by (at_trap kind.Index is serves l) = absurd (differs 8 serves.number_is (λ x. omega (arith, x)) (λ x. omega (arith, x)))
      by (at_trap kind.Stack is serves l) = absurd (differs 9 serves.number_is (λ x. omega (arith, x)) (λ x. omega (arith, x)))
      by (at_trap kind.Input is serves l) = absurd (gone said)
        where
          gone : Reply program Cilk page input (InstructionAt image) (machine_of s) word → ⊥
          gone (inl a) = missing input facts.count_fits serves.1 a.1 (s.registers reg.VALUE) serves.2 serves.3 serves.4 a.2
          gone (inr b) = let f = serves.0.number_is in let g = b.0.number_is in omega (arith, f, g)
      by (at_end v is serves r l w) = absurd (differs 0 serves.number_is (λ x. omega (arith, x)) (λ x. omega (arith, x)))
      by (at_reply n d g is answer same exact) = passes_on given s (reply s (Some word)) spot p y d g e x.start_is x.few x.balances refl refl refl refl refl
          (pieces.Goes.silently is) (same, kept)
          (subst (λ k. ExactAt program Cilk page input (InstructionAt image) y.spot y.left d g (replied_machine (machine_of s) (Some k))) (one_reply (machine_of s) n word answer said) exact)
        where
          kept : end_count d.rest ≡ end_count y.control.rest
          kept = let k = subst (CallsKept y.control) is y.step_keeps in let l = ap length same in omega (arith, k, l)

  -- the innermost scope isn't that of the running frame
  pub no_scope_here : (scopes : List Scope) (calls : List ℕ) (frames : List Frame) (n : ℕ) → AreOpen program page scopes calls frames
      → IsElsewhere scopes (pointer_of frames) → Belongs scopes n (top calls) → ⊥
  no_scope_here _ calls frames n none elsewhere b = absurd b
  no_scope_here _ _ _ n (here at deep low cilk o) elsewhere b = elsewhere at
  no_scope_here [] _ _ n (below {calls = calls} {frames = frames} o) elsewhere b = absurd b
  no_scope_here (s ∷ scopes) _ _ n (below {calls = calls} {frames = frames} o) elsewhere b =
      let h = scope_deep program page (s ∷ scopes) calls frames n (length calls) o b in omega (arith, h)

  pub syncs_alone : (given : Claim) (s : Strand) (spot : Spot) (p : Piece) → Stands program page limit input image first request given s spot p → s.course ≡ going
      → InstructionAt image s.counter ecall → s.registers reg.SERVICE ≡ 5 → IsElsewhere s.scopes (s.registers reg.FP)
      → Behind program page limit input image first request given spot (pass s) p
  syncs_alone given s spot p x e there five elsewhere =
      passes_on given s (pass s) spot p y z.to y.held e x.start_is x.few x.balances refl refl refl refl refl rule keeps z.exact
    where
      y : Served spot s p
      y = served given s spot p x e there

      z : Syncing program page input image y.spot y.left y.control y.held (machine_of s)
      z = syncing program page input image y.spot y.left y.control y.held (machine_of s) y.at five

      keeps : KeepsCalls y.control z.to
      keeps = subst (CallsKept y.control) z.is y.step_keeps

      rule : Goes program page input (piece p.start y.own y.control y.held p.log) (piece p.start y.own z.to y.held p.log)
      rule = pieces.Goes.joining z.is
          (collects_none program page input (top y.control.calls) p.log y.held
          (none_of program page s.scopes y.control.calls y.spot.frames (top y.control.calls) s.log p.log y.carried.shows y.carried.placed
          (λ n. no_scope_here s.scopes y.control.calls y.spot.frames n y.carried.opens (subst (IsElsewhere s.scopes) z.exact.pointer_is elsewhere))))
          (counts program page s.log p.log y.carried.shows) (let t = y.carried.ticks_are in omega (arith, t))

  -- ---- which services

  pub asks_known : (given : Claim) (s : Strand) (spot : Spot) (p : Piece) → Stands program page limit input image first request given s spot p → s.course ≡ going
      → InstructionAt image s.counter ecall → s.registers reg.SERVICE ≤ 9
  asks_known given s spot p x e there =
      let y = served given s spot p x e there in few_services program page input image y.spot y.left y.control y.held (machine_of s) y.at

  pub hears_input : (given : Claim) (s : Strand) (spot : Spot) (p : Piece) → Stands program page limit input image first request given s spot p → s.course ≡ going
      → InstructionAt image s.counter ecall → s.registers reg.SERVICE ≡ 2
      → ((n : ℕ) × Reply program Cilk page input (InstructionAt image) (machine_of s) n) ⊎ Traps program Cilk page input (InstructionAt image) kind.Input (machine_of s)
  hears_input given s spot p x e there two =
      let y = served given s spot p x e there in heard_input program page input image y.spot y.left y.control y.held (machine_of s) y.at two
