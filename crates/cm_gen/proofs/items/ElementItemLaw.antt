-- The laws of what follows an index: an element of a row is loaded, a number of the input is asked for; another index traps.
use Rattle.cm_gen.proofs.patterns.LeavesLaw.{SameRegisters, same_after, same_leaves, same_replied}
use Rattle.cm_gen.proofs.frames.CellLaw.{held_value}
use Rattle.std.proofs.Common.{◌≡◌, ℕ, ◌+◌, ◌*◌, List, [], ◌∷◌, length, Some, refl, sym, ap, ◌∙◌, subst, arith, inl, length-append}
use Rattle.std.proofs.Common.{get_or}
use Rattle.std.proofs.lemmas.Option.{slice_get-get_or}
use Rattle.std.proofs.lemmas.List.Elements.{Contains-get_or}
use Rattle.std.specs.Prelude.{Bool, true, false, if◌then◌else◌, ℤ, pos, FitsSigned, slice_get, Contains}
use Rattle.std.specs.Int.{w32}
use Rattle.cm_isa.specs.Alu.{offset}
use Rattle.cm_isa.specs.Action.{follow}
use Rattle.cm_isa.specs.Operation.{Operation}
use Rattle.cm_isa.specs.Machine.{Machine, Code, reads}
use Rattle.cm_isa.specs.Run.{replied_machine}
use Rattle.cm_isa.specs.declared.convention.TheConstants as reg
use Rattle.cm_syntax.specs.declared.stmt.Program.{Program}
use Rattle.cm_syntax.specs.Operator.{natural}
use Rattle.cm_syntax.specs.Trap as kind
use Rattle.cm_syntax.specs.Label.{silent, traps}
use Rattle.cm_syntax.specs.Cell.{value_in}
use Rattle.cm_syntax.specs.Stack.{Reference, Stack}
use Rattle.cm_syntax.specs.Rest.{Item, element, read, Hand, holds, control}
use Rattle.cm_syntax.specs.Step.{Move, is_index, when_readable, give_input, item_step}
use Rattle.cm_meaning.proofs.TypedFramesLaw.{IsPlain}
use Rattle.cm_gen.specs.declared.form.Form.{Form}
use Rattle.cm_gen.specs.Assembler.{lw}
use Rattle.cm_gen.specs.Code.{service}
use Rattle.cm_gen.specs.Expression.{base, locate_code, element_code}
use Rattle.cm_gen.specs.Standing.{LeadsTo, slots_here, Coded}
use Rattle.cm_gen.specs.FrameWord.{bits, reference_address, row_of}
use Rattle.cm_gen.specs.StandsFor.{Spot, hears, Placed, ExactAt, LeadsFrom}
use Rattle.cm_gen.specs.Formed.{Formed}
use Rattle.cm_gen.proofs.patterns.WordLaw as words
use Rattle.cm_gen.proofs.patterns.StepLaw.{comes_on, load_word}
use Rattle.cm_gen.proofs.patterns.PatternLaw.{sets_by_one, service_runs}
use Rattle.cm_gen.proofs.patterns.StandingLaw.{leads_map, straight_end, IsCodeAt, code_at, code_front, code_back}
use Rattle.cm_gen.proofs.items.StateLaw.{exact_same, leads_to, gives_value, by_present, by_slice, with_value}
use Rattle.cm_gen.proofs.states.FactLaw.{IsWithin, opened, row_within, some_calls}
use Rattle.cm_gen.proofs.patterns.BaseLaw.{index_is, IsRow, is_row, at_base, locate_runs, locate_traps}

module _ (program : Program) (form : Form) (page limit : ℕ) (input : List ℤ) (code : Code) where
  module _ (spot : Spot) (left : ℕ) (calls : List ℕ) (account : ℕ) (hand : Hand) (k : List Item) (h : Stack) (m : Machine) where
    abbrev exact : Hand → List Item → Type 0
    exact now l = ExactAt program form page input code spot left (control calls account now l) h m

    abbrev placed : Hand → List Item → Type 0
    placed now l = Placed program form page input code now l calls spot.frames m.registers m.counter

    abbrev coded : List Item → (p : ℕ) → Type 0
    coded l p = Coded program form page code l calls spot.frames p

    abbrev leads : Move → Type 0
    leads move = LeadsFrom program form page input code spot left calls h move m

    -- an element
    module _ (a : ℕ) (v : ℤ) (r : Reference) (row : value_in (row_of program page calls h a) ≡ Some r) (within : IsWithin program page limit calls r)
        (small : (d s i : ℕ) (w : ℤ) → value_in (h.words d s i) ≡ Some w → FitsSigned w32 w)
        (x : exact (holds v) (element a ∷ k)) (here : placed (holds v) (element a ∷ k)) where
      abbrev locates : List Operation
      locates = locate_code (slots_here program calls) a

      abbrev is : IsRow program page calls spot.frames r
      is = is_row program page calls spot.frames r x.frames within

      at : IsCodeAt code m.counter (element_code (slots_here program calls) a)
      at = code_at code (element_code (slots_here program calls) a) (coded k) m.counter (let e = length-append locates (lw reg.VALUE reg.VALUE (pos 0) ∷ []) in omega (arith, e)) here.2

      element_loads : is_index v r.length ≡ true → leads (when_readable (h.words r.depth r.slot (r.start + natural v)) (λ w. silent (control calls account (holds w) k) h))
      element_loads index = by_present program form page input code (h.words r.depth r.slot (r.start + natural v)) _ (λ w e.
          let size = length-append locates (lw reg.VALUE reg.VALUE (pos 0) ∷ []) in
          let number = index_is v r.length here.1 index in
          let less = number.1 in
          let address = is.address (natural v) less in
          let below = is.below in
          let aligned = is.aligned in
          let ends = within.ends in
          let target = reference_address program page calls spot.frames r + 4 * natural v in
          let first = locate_runs program page code calls spot.frames h a r v m (at_base program form page input code spot left (control calls account (holds v) (element a ∷ k)) h m x) row is here.0 here.1 index (code_front code locates (lw reg.VALUE reg.VALUE (pos 0) ∷ []) at) in
          let s = first.0 in
          let does = first.2 in
          let place = does.counter in
          let there : reads (m.words target) ≡ Some (bits w) = ap (λ a. reads (m.words a)) address ∙ held_value program page calls spot.frames h m.words r.depth r.slot (r.start + natural v) w x.slots is.live (omega (arith, ends, less)) e in
          let here_too : reads (s.words target) ≡ Some (bits w) = ap (λ z. reads (z target)) does.words ∙ there in
          let load = code_back code locates (lw reg.VALUE reg.VALUE (pos 0) ∷ []) place at in
          let room = load.below in
          let found : offset (s.registers reg.VALUE) (pos 0) ≡ target = ap (λ z. offset z (pos 0)) does.value ∙ words.offset_up target 0 (omega (arith, below, less)) ∙ omega arith in
          let second = sets_by_one code (lw reg.VALUE reg.VALUE (pos 0)) refl reg.VALUE (bits w) s refl (omega (arith, room)) load.there.0 (rw found (load_word reg.VALUE target (bits w) s (omega (arith, aligned)) here_too)) in
          let t = second.0 in
          let sets = second.2 in
          let end = sets.counter in
          let same : SameRegisters m.registers t.registers = same_after (same_leaves refl does) (same_leaves refl sets) in
          gives_value program form page input code x tt k w (length (base (slots_here program calls) a) + 3 + 1) t (m.counter + 4 * length (element_code (slots_here program calls) a))
          (comes_on code (length (base (slots_here program calls) a) + 3) 1 m s t first.1 second.1) same (sets.words ∙ does.words) (omega (arith, end, place, size)) sets.value (small r.depth r.slot (r.start + natural v) w e) x.kept refl
          (straight_end code (element_code (slots_here program calls) a) (coded k) m.counter here.2))

      element_traps : is_index v r.length ≡ false → leads (traps kind.Index)
      element_traps index =
          let trap = locate_traps program page code calls spot.frames h a r v m (at_base program form page input code spot left (control calls account (holds v) (element a ∷ k)) h m x) row is here.0 here.1 index (code_front code locates (lw reg.VALUE reg.VALUE (pos 0) ∷ []) at) in
          leads_to program form page input code _ trap.0 trap.1 (record { there = trap.2; number_is = trap.3 }, trap.4 ∙ x.left_is)

      element_by : (b : Bool) → is_index v r.length ≡ b → leads (if b then when_readable (h.words r.depth r.slot (r.start + natural v)) (λ w. silent (control calls account (holds w) k) h) else traps kind.Index)
      element_by true index = element_loads index
      element_by false index = element_traps index

    pub element_law : (a : ℕ) → IsPlain hand → Formed program page limit (control calls account hand (element a ∷ k)) h
        → exact hand (element a ∷ k) → placed hand (element a ∷ k) → leads (item_step program page input (control calls account hand (element a ∷ k)) h (element a) k)
    element_law a plain formed x here =
        let some = some_calls program page limit (opened program page limit calls account hand (element a) k h plain tt formed) in
        with_value program form page input code hand _ x here (λ v x here. by_slice program form page input code calls h a _ (λ r row.
        element_by a v r row (row_within program page limit calls account hand (element a ∷ k) h a r formed some row) formed.small x here (is_index v r.length) refl))

    -- a number of the input: the service replies with it, and traps where there is none
    read_at : (v : ℤ) → exact (holds v) (read ∷ k) → placed (holds v) (read ∷ k) → IsCodeAt code m.counter (service (pos 2))
    read_at v x here = code_at code (service (pos 2)) (coded k) m.counter (omega arith) here.2

    read_hears : (v z : ℤ) → is_index v (length input) ≡ true → slice_get input (natural v) ≡ Some z → FitsSigned w32 z → exact (holds v) (read ∷ k) → placed (holds v) (read ∷ k)
        → leads (silent (control calls account (holds z) k) h)
    read_hears v z index found fits x here =
        let at = read_at v x here in
        let below = at.below in
        let ran = service_runs code 2 m (omega arith) x.zero_is at in
        let t = ran.0 in
        let does = ran.2 in
        let place = does.counter in
        let u = replied_machine t (Some (bits z)) in
        let next : follow t.counter ≡ m.counter + 4 * length (service (pos 2)) = omega (arith, below, place) in
        let asked : t.registers reg.VALUE ≡ natural v = does.kept reg.VALUE refl ∙ here.0 ∙ (index_is v (length input) here.1 index).0 in
        let same = same_replied t (bits z) (same_leaves refl does) in
        leads_to program form page input code 1 t ran.1 (hears (bits z) (inl (record { there = ran.3; number_is = does.value }, z, ap (slice_get input) asked ∙ found, refl))
        (exact_same program form page input code x tt (holds z) tt k u same does.words x.kept refl
        (leads_map code (coded k) (Placed program form page input code (holds z) k calls spot.frames u.registers) u.counter
        (subst (LeadsTo code (coded k)) (sym next) (straight_end code (service (pos 2)) (coded k) m.counter here.2))
        (λ q g. (refl, fits, g)))))

    read_traps : (v : ℤ) → is_index v (length input) ≡ false → exact (holds v) (read ∷ k) → placed (holds v) (read ∷ k) → leads (traps kind.Input)
    read_traps v index x here =
        let ran = service_runs code 2 m (omega arith) x.zero_is (read_at v x here) in
        leads_to program form page input code 1 ran.0 ran.1 ((record { there = ran.3; number_is = ran.2.value }, v, ran.2.kept reg.VALUE refl ∙ here.0, here.1, index), ran.2.kept reg.TICKS refl ∙ x.left_is)

    read_by : (numbers : (z : ℤ) → Contains input z → FitsSigned w32 z) (v : ℤ) (b : Bool) → is_index v (length input) ≡ b → exact (holds v) (read ∷ k) → placed (holds v) (read ∷ k)
        → leads (if b then give_input program page input (control calls account hand (read ∷ k)) h (slice_get input (natural v)) k else traps kind.Input)
    read_by numbers v false index x here = read_traps v index x here
    read_by numbers v true index x here =
        let less = (index_is v (length input) here.1 index).1 in
        let z = get_or input (natural v) (pos 0) in
        let found = slice_get-get_or input (natural v) (pos 0) less in
        subst (λ o. leads (give_input program page input (control calls account hand (read ∷ k)) h o k)) (sym found) (read_hears v z index found (numbers z (Contains-get_or input (natural v) (pos 0) less)) x here)

    pub read_law : ((z : ℤ) → Contains input z → FitsSigned w32 z) → exact hand (read ∷ k) → placed hand (read ∷ k) → leads (item_step program page input (control calls account hand (read ∷ k)) h read k)
    read_law numbers x here = with_value program form page input code hand _ x here (λ v x here. read_by numbers v (is_index v (length input)) refl x here)
