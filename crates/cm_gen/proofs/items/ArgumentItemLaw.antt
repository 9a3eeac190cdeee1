-- The laws of the arguments of a call: a value goes into one temporary, and a slice into two.
use Rattle.cm_gen.proofs.patterns.LeavesLaw.{SameRegisters, same_self, same_after, same_leaves}
use Rattle.std.proofs.Common.{◌≡◌, ℕ, ◌+◌, ◌*◌, ◌^◌, ◌<◌, List, [], ◌∷◌, ◌++◌, length, Some, refl, sym, ap, ◌∙◌, subst, arith, append_assoc, length-append}
use Rattle.std.proofs.Math.Nat.{le-max_left}
use Rattle.std.specs.Prelude.{max, ℤ, pos, ◌+ℤ◌, slice_get}
use Rattle.std.specs.Int.{w32, cast_unsigned}
use Rattle.cm_isa.specs.Alu.{int, word as word_of, offset}
use Rattle.cm_isa.specs.Action.{follow}
use Rattle.cm_isa.specs.Machine.{Machine, Mapped, Code, machine_with, with_word}
use Rattle.cm_gen.specs.Returns.{GoesTo}
use Rattle.cm_isa.specs.Register.{with_register}
use Rattle.cm_isa.specs.declared.convention.TheConstants as reg
use Rattle.cm_syntax.specs.declared.expr.Expr.{Expr}
use Rattle.cm_syntax.specs.declared.expr.Arg.{Arg}
use Rattle.cm_syntax.specs.declared.expr.Arg.TheVariants as argument
use Rattle.cm_syntax.specs.declared.expr.Call.{Row_of-Arg, more_of-Arg}
use Rattle.cm_syntax.specs.declared.expr.Mark.{Mark}
use Rattle.cm_syntax.specs.declared.stmt.Slot.{Slot}
use Rattle.cm_syntax.specs.declared.stmt.Slot.TheVariants as slot
use Rattle.cm_syntax.specs.declared.stmt.Program.{Program}
use Rattle.cm_syntax.specs.Frame.{arguments_words, arguments_temporaries}
use Rattle.cm_syntax.specs.Label.{silent}
use Rattle.cm_syntax.specs.Cell.{value_in}
use Rattle.cm_syntax.specs.Stack.{Reference, Stack, Argument, word, slice}
use Rattle.cm_syntax.specs.Rest.{Purpose, Item, evaluate, arguments, pass, Hand, idle, holds, control}
use Rattle.cm_syntax.specs.Step.{scalar_slice, item_step}
use Rattle.cm_meaning.specs.Activation.{end_count}
use Rattle.cm_meaning.specs.Typing.{TypedArguments}
use Rattle.cm_meaning.proofs.TypedFramesLaw.{IsPlain}
use Rattle.cm_gen.specs.declared.form.Form.{Form}
use Rattle.cm_gen.specs.Assembler.{addi}
use Rattle.cm_gen.specs.Code.{load_number, store_slot}
use Rattle.cm_gen.specs.Part.{Part, straight}
use Rattle.cm_gen.specs.Expression.{slot_offset, temporary_offset, load_address, base, keep_word, keep_slice, keep_scalar, expression_code, arguments_code, pass_code}
use Rattle.cm_gen.specs.Statement.{enter_code}
use Rattle.cm_gen.specs.Standing.{LeadsTo, StandsThen, Frame, arguments_size, used, slots_here, form_here, Coded}
use Rattle.cm_gen.specs.FrameWord.{bits, word_number, temporary_number, word_address, reference_address, AreFrames, Holds, HasTemporary, Kept, HasOwn, row_of}
use Rattle.cm_gen.specs.Formed.{HasRoom, RestFits, Formed}
use Rattle.cm_gen.specs.StandsFor.{Spot, Placed, ExactAt, LeadsFrom}
use Rattle.cm_gen.proofs.patterns.WordLaw as words
use Rattle.cm_gen.proofs.patterns.StepLaw.{comes_on}
use Rattle.cm_gen.proofs.frames.MappedWordLaw.{with_word_same}
use Rattle.cm_gen.proofs.patterns.PatternLaw.{sets_by_one, load_number_runs, store_slot_some}
use Rattle.cm_gen.proofs.patterns.StandingLaw.{parted, straight_end, IsCodeAt, code_at, code_front, code_back}
use Rattle.cm_gen.proofs.items.StateLaw.{exact_with, leads_on, goes_on, by_slice, with_value, coded_of}
use Rattle.cm_gen.proofs.frames.FrameWordLaw.{slots_top, temporary_word, other_word, kept_temporary}
use Rattle.cm_gen.proofs.states.FactLaw.{opened, some_end, row_within, slots_are}
use Rattle.cm_gen.proofs.patterns.BaseLaw.{load_address_runs, slot_offset_is, IsRow, is_row, base_runs}
use Rattle.cm_gen.proofs.patterns.TemporaryLaw.{IsAtFrame, temporary_address, keep_runs, at_frame}
use Rattle.cm_gen.proofs.items.WriteLaw.{puts_temporary}
use Rattle.cm_gen.proofs.states.ValueFitsLaw.{natural_fits}

-- where registers and words are as they were, the code within a function goes on
at_moved : (program : Program) (page : ℕ) {calls : List ℕ} {frames : List Frame} {ends : ℕ} {h : Stack} {m t : Machine} → IsAtFrame program page calls frames ends h m → SameRegisters m.registers t.registers → t.words ≡ m.words
    → IsAtFrame program page calls frames ends h t
at_moved program page {calls = calls} {frames = frames} {ends = ends} {h = h} x same words = record {
  base = record {
    shape = x.base.shape;
    slots = subst (λ w. Holds program page calls frames h w) (sym words) x.base.slots;
    zero_is = same.zero_is ∙ x.base.zero_is;
    pointer_is = same.pointer ∙ x.base.pointer_is;
  };
  own = subst (λ w. HasOwn program page ends calls frames w) (sym words) x.own;
}

-- the argument that is an address is of a scalar
of_scalar : (program : Program) (slots : List Slot) (set : List ℕ) (parameters : List Slot) (x : Mark ℕ) {n : _} (more : Row_of-Arg ℕ n)
    → TypedArguments program.functions slots set parameters (more_of-Arg (argument.Address x) more) → slice_get slots x.name ≡ Some slot.Scalar
of_scalar program slots set [] x more typed = absurd typed
of_scalar program slots set (slot.Scalar ∷ ps) x more typed = absurd typed
of_scalar program slots set (slot.Array n ∷ ps) x more typed = absurd typed
of_scalar program slots set (slot.Slice ∷ ps) x more typed = typed.0.1

module _ (program : Program) (form : Form) (page limit : ℕ) (input : List ℤ) (code : Code) where
  module _ (spot : Spot) (left f : ℕ) (calls : List ℕ) (account : ℕ) (k : List Item) (h : Stack) (m : Machine) where
    abbrev exact : Hand → List Item → Type 0
    exact hand l = ExactAt program form page input code spot left (control (f ∷ calls) account hand l) h m

    abbrev coded : List Item → (p : ℕ) → Type 0
    coded l p = Coded program form page code l (f ∷ calls) spot.frames p

    abbrev slots : List Slot
    slots = slots_here program (f ∷ calls)

    abbrev leads : List Item → Type 0
    leads l = LeadsFrom program form page input code spot left (f ∷ calls) h (silent (control (f ∷ calls) account idle l) h) m

    -- the code of the arguments to come, and of the call
    abbrev behind : (u : Purpose) (g : ℕ) {n : _} (row : Row_of-Arg ℕ n) (w : ℕ) → List Part
    behind u g row w = arguments_code slots row (used k) w ++ enter_code (form_here program form (f ∷ calls)) slots u g

    -- ---- a value

    pass_by : (u : Purpose) (g : ℕ) (ws : List Argument) (v : ℤ) {n : _} (more : Row_of-Arg ℕ n) → RestFits program page (pass u g ws more ∷ k) (f ∷ calls) → 0 < end_count k
        → exact (holds v) (pass u g ws more ∷ k) → Placed program form page input code (holds v) (pass u g ws more ∷ k) (f ∷ calls) spot.frames m.registers m.counter
        → leads (arguments u g (word v ∷ ws) more ∷ k)
    pass_by u g ws v more fits some x here =
        let w = arguments_size ws in
        let j = used k + w in
        let is = keep_word slots j in
        let rest = behind u g more (w + 1) in
        let c = parted code (straight is) rest (coded k) m.counter (subst (λ l. StandsThen code l (coded k) m.counter) (append_assoc (straight is) (arguments_code slots more (used k) (w + 1)) (enter_code (form_here program form (f ∷ calls)) slots u g)) here.2) in
        let size : w + 1 ≡ arguments_size (word v ∷ ws) = omega arith in
        let count = max (j + 1 + arguments_words more) (arguments_temporaries more (j + 1)) in
        let most = le-max_left (j + 1 + arguments_words more) (arguments_temporaries more (j + 1)) in
        let less : j < count = omega (arith, most) in
        let old = kept_temporary program page (pass u g ws more ∷ k) f calls spot.frames h m.words j count (bits v) fits x.frames (omega arith) fits.0.0 less x.kept in
        let last = puts_temporary program form page input code x tt (arguments u g (word v ∷ ws) more ∷ k) j count reg.VALUE (bits v) m fits.0.0 less some (same_self m.registers) refl refl here.0
        (code_at code is (StandsThen code rest (coded k)) m.counter (store_slot_some reg.VALUE (temporary_offset slots j)) c)
        (subst (λ n. LeadsTo code (StandsThen code (behind u g more n) (coded k)) (m.counter + 4 * length is)) size (straight_end code is (StandsThen code rest (coded k)) m.counter c))
        ((with_word_same m.words (temporary_address program page f calls spot.frames j) (bits v), here.1, old.0), old.1)
        refl in
        leads_on program form page input code last.0 last.1 last.2 last.3

    value_by : (u : Purpose) (g : ℕ) (ws : List Argument) (hand : Hand) → IsPlain hand → (e : Expr ℕ) {n : _} (more : Row_of-Arg ℕ n)
        → exact hand (arguments u g ws (more_of-Arg (argument.Value e) more) ∷ k) → coded (arguments u g ws (more_of-Arg (argument.Value e) more) ∷ k) m.counter
        → leads (evaluate e ∷ pass u g ws more ∷ k)
    value_by u g ws hand plain e more x c =
        let w = arguments_size ws in
        let first = expression_code slots e (used k + w) in
        let second = pass_code slots more (used k) w in
        let enters = enter_code (form_here program form (f ∷ calls)) slots u g in
        goes_on program form page input code x plain (evaluate e ∷ pass u g ws more ∷ k) x.kept refl
        (parted code first (second ++ enters) (coded k) m.counter (subst (λ l. StandsThen code l (coded k) m.counter) (append_assoc first second enters) c))

    -- ---- a slice

    -- a word in a temporary lasts where another one is stored
    temporary_lasts : (i j count v z : ℕ) (w : Mapped) → AreFrames program page (f ∷ calls) spot.frames → HasRoom program page (f ∷ calls) count → i < j → j < count → HasTemporary program page (f ∷ calls) spot.frames w i z
        → HasTemporary program page (f ∷ calls) spot.frames (with_word w (temporary_address program page f calls spot.frames j) v) i z
    temporary_lasts i j count v z w shape room before less there =
        other_word program page (f ∷ calls) spot.frames w (length calls) (temporary_number slots j) (length calls) (temporary_number slots i) v shape
        (temporary_word program page f calls j count room less) (temporary_word program page f calls i count room (omega (arith, before, less))) (λ e same. omega (arith, before, same)) ∙ there

    -- both words of a slice are stored
    slice_stored : (u : Purpose) (g : ℕ) (ws : List Argument) (hand : Hand) → IsPlain hand → (r : Reference) {n o : _} (row : Row_of-Arg ℕ n) (more : Row_of-Arg ℕ o) (count steps : ℕ) (t : Machine)
        → exact hand (arguments u g ws row ∷ k) → RestFits program page (arguments u g ws row ∷ k) (f ∷ calls) → HasRoom program page (f ∷ calls) count → used k + arguments_size ws + 1 < count
        → GoesTo code steps m t → SameRegisters m.registers t.registers → IsAtFrame program page (f ∷ calls) spot.frames (end_count k) h t
        → t.words ≡ with_word (with_word m.words (temporary_address program page f calls spot.frames (used k + arguments_size ws)) (reference_address program page (f ∷ calls) spot.frames r))
        (temporary_address program page f calls spot.frames (used k + arguments_size ws + 1)) r.length
        → LeadsTo code (StandsThen code (behind u g more (arguments_size ws + 2)) (coded k)) t.counter
        → leads (arguments u g (slice r ∷ ws) more ∷ k)
    slice_stored u g ws hand plain r row more count steps t x fits room less comes same at words next =
        let j = used k + arguments_size ws in
        let l = arguments u g ws row ∷ k in
        let a = reference_address program page (f ∷ calls) spot.frames r in
        let w = with_word m.words (temporary_address program page f calls spot.frames j) a in
        let v = with_word w (temporary_address program page f calls spot.frames (j + 1)) r.length in
        let first = kept_temporary program page l f calls spot.frames h m.words j count a fits x.frames (omega arith) room (omega (arith, less)) x.kept in
        let second = kept_temporary program page l f calls spot.frames h w (j + 1) count r.length fits x.frames (omega arith) room less first in
        let size : arguments_size ws + 2 ≡ arguments_size (slice r ∷ ws) = omega arith in
        leads_on program form page input code steps t comes (exact_with program form page input code x plain idle tt (arguments u g (slice r ∷ ws) more ∷ k) h t same refl at.base.slots
        (subst (λ w. Kept program page (arguments u g (slice r ∷ ws) more ∷ k) (f ∷ calls) spot.frames h w) (sym words) (
          (
            temporary_lasts j (j + 1) count r.length a w x.frames room (omega arith) less (with_word_same m.words (temporary_address program page f calls spot.frames j) a),
            with_word_same w (temporary_address program page f calls spot.frames (j + 1)) r.length,
            second.0,
          ),
          second.1,
        ))
        at.own
        (subst (λ n. LeadsTo code (StandsThen code (behind u g more n) (coded k)) t.counter) size next))

    -- a slice in LEFT and VALUE is stored
    both_stored : (u : Purpose) (g : ℕ) (ws : List Argument) (hand : Hand) → IsPlain hand → (r : Reference) {n o : _} (row : Row_of-Arg ℕ n) (more : Row_of-Arg ℕ o) (count steps : ℕ) (t : Machine)
        → exact hand (arguments u g ws row ∷ k) → RestFits program page (arguments u g ws row ∷ k) (f ∷ calls) → HasRoom program page (f ∷ calls) count → used k + arguments_size ws + 1 < count → 0 < end_count k
        → GoesTo code steps m t → SameRegisters m.registers t.registers → t.words ≡ m.words → t.registers reg.LEFT ≡ reference_address program page (f ∷ calls) spot.frames r → t.registers reg.VALUE ≡ r.length
        → let is = store_slot reg.LEFT (temporary_offset slots (used k + arguments_size ws)) ++ store_slot reg.VALUE (temporary_offset slots (used k + arguments_size ws + 1)) in IsCodeAt code t.counter is
        → LeadsTo code (StandsThen code (behind u g more (arguments_size ws + 2)) (coded k)) (t.counter + 4 * length is)
        → leads (arguments u g (slice r ∷ ws) more ∷ k)
    both_stored u g ws hand plain r row more count steps t x fits room less some comes same words address number here next =
        let j = used k + arguments_size ws in
        let second = store_slot reg.LEFT (temporary_offset slots j) in
        let third = store_slot reg.VALUE (temporary_offset slots (j + 1)) in
        let sizes = length-append second third in
        let at = at_moved program page (at_frame program form page input code spot left _ h m x) same words in
        let kept = keep_runs program page code f calls spot.frames (end_count k) h j count reg.LEFT t at some room (omega (arith, less)) refl (code_front code second third here) in
        let one = kept.2 in
        let place = one.leaves.counter in
        let again = keep_runs program page code f calls spot.frames (end_count k) h (j + 1) count reg.VALUE kept.0 one.at some room less refl (code_back code second third place here) in
        let two = again.2 in
        let place_u = two.leaves.counter in
        let a = temporary_address program page f calls spot.frames j in
        let b = temporary_address program page f calls spot.frames (j + 1) in
        let end : t.counter + 4 * length (second ++ third) ≡ again.0.counter = omega (arith, place, place_u, sizes) in
        slice_stored u g ws hand plain r row more count (steps + length second + length third) again.0 x fits room less
        (comes_on code (steps + length second) (length third) m kept.0 again.0 (comes_on code steps (length second) m t kept.0 comes kept.1) again.1)
        (same_after (same_after same (same_leaves refl one.leaves)) (same_leaves refl two.leaves)) two.at
        (two.leaves.words ∙ ap (with_word kept.0.words b) (one.leaves.kept reg.VALUE refl ∙ number) ∙ ap (λ w. with_word w b r.length) (one.leaves.words ∙ ap (λ w. with_word w a (t.registers reg.LEFT)) words ∙ ap (with_word m.words a) address))
        (subst (LeadsTo code (StandsThen code (behind u g more (arguments_size ws + 2)) (coded k))) end next)

    slice_by : (u : Purpose) (g : ℕ) (ws : List Argument) (hand : Hand) → IsPlain hand → (a : Mark ℕ) (r : Reference) {n o : _} (row : Row_of-Arg ℕ n) (more : Row_of-Arg ℕ o) (count : ℕ)
        → exact hand (arguments u g ws row ∷ k) → RestFits program page (arguments u g ws row ∷ k) (f ∷ calls) → HasRoom program page (f ∷ calls) count → used k + arguments_size ws + 1 < count → 0 < end_count k
        → value_in (row_of program page (f ∷ calls) h a.name) ≡ Some r → IsRow program page (f ∷ calls) spot.frames r
        → StandsThen code ((straight (keep_slice slots a.name (used k + arguments_size ws)) ++ arguments_code slots more (used k) (arguments_size ws + 2)) ++ enter_code (form_here program form (f ∷ calls)) slots u g) (coded k) m.counter
        → leads (arguments u g (slice r ∷ ws) more ∷ k)
    slice_by u g ws hand plain a r row more count x fits room less some row_is is c =
        let j = used k + arguments_size ws in
        let all = keep_slice slots a.name j in
        let first = base slots a.name in
        let moves = addi reg.VALUE reg.HELP (pos 0) ∷ [] in
        let second = store_slot reg.LEFT (temporary_offset slots j) in
        let third = store_slot reg.VALUE (temporary_offset slots (j + 1)) in
        let rest = behind u g more (arguments_size ws + 2) in
        let parts = parted code (straight all) rest (coded k) m.counter
        (subst (λ l. StandsThen code l (coded k) m.counter) (append_assoc (straight all) (arguments_code slots more (used k) (arguments_size ws + 2)) (enter_code (form_here program form (f ∷ calls)) slots u g)) c) in
        let sized = length-append first (moves ++ (second ++ third)) in
        let here = code_at code all (StandsThen code rest (coded k)) m.counter (omega (arith, sized)) parts in
        let at = at_frame program form page input code spot left _ h m x in
        let ran = base_runs program page code (f ∷ calls) spot.frames h a.name r m at.base row_is (code_front code first (moves ++ (second ++ third)) here) in
        let s = ran.0 in
        let does = ran.2 in
        let place = does.counter in
        let here_s = code_back code first (moves ++ (second ++ third)) place here in
        let small = is.small in
        let below = here_s.below in
        let value : word_of (int (s.registers reg.HELP) +ℤ int (cast_unsigned w32 (pos 0))) ≡ r.length = ap (λ n. word_of (int n +ℤ int (cast_unsigned w32 (pos 0)))) does.value.1 ∙ same_word r.length (omega (arith, small)) in
        let moved = sets_by_one code (addi reg.VALUE reg.HELP (pos 0)) refl reg.VALUE r.length s refl (omega (arith, below)) here_s.there.0
        (ap (λ v. Some (machine_with s (with_register s.registers reg.VALUE v) (follow s.counter))) value) in
        let t = moved.0 in
        let sets = moved.2 in
        let place_t = sets.counter in
        let here_t = code_back code moves (second ++ third) place_t here_s in
        let same_s : SameRegisters m.registers s.registers = same_leaves refl does in
        let end : m.counter + 4 * length all ≡ t.counter + 4 * length (second ++ third) = omega (arith, place, place_t, sized) in
        both_stored u g ws hand plain r row more count (length first + 1) t x fits room less some (comes_on code (length first) 1 m s t ran.1 moved.1)
        (same_after same_s (same_leaves refl sets)) (sets.words ∙ does.words) (sets.kept reg.LEFT refl ∙ does.value.0) sets.value here_t
        (subst (LeadsTo code (StandsThen code rest (coded k))) end (straight_end code all (StandsThen code rest (coded k)) m.counter parts))
      where
        same_word : (n : ℕ) → n < 2 ^ 32 → word_of (int n +ℤ int (cast_unsigned w32 (pos 0))) ≡ n
        same_word n few = words.word-add n 0 few (omega arith) ∙ omega (arith, few)

    -- behind the address of a scalar in its temporary: the number of words, 1, comes into the next one
    number_stored : (u : Purpose) (g : ℕ) (ws : List Argument) (hand : Hand) → IsPlain hand → (r : Reference) {n o : _} (row : Row_of-Arg ℕ n) (more : Row_of-Arg ℕ o) (count steps : ℕ) (s : Machine)
        → exact hand (arguments u g ws row ∷ k) → RestFits program page (arguments u g ws row ∷ k) (f ∷ calls) → HasRoom program page (f ∷ calls) count → used k + arguments_size ws + 1 < count → 0 < end_count k
        → r.length ≡ 1 → GoesTo code steps m s → SameRegisters m.registers s.registers → IsAtFrame program page (f ∷ calls) spot.frames (end_count k) h s
        → s.words ≡ with_word m.words (temporary_address program page f calls spot.frames (used k + arguments_size ws)) (reference_address program page (f ∷ calls) spot.frames r)
        → let is = load_number reg.VALUE (pos 1) ++ store_slot reg.VALUE (temporary_offset slots (used k + arguments_size ws + 1)) in IsCodeAt code s.counter is
        → LeadsTo code (StandsThen code (behind u g more (arguments_size ws + 2)) (coded k)) (s.counter + 4 * length is)
        → leads (arguments u g (slice r ∷ ws) more ∷ k)
    number_stored u g ws hand plain r row more count steps s x fits room less some one_word comes same at words here next =
        let j = used k + arguments_size ws + 1 in
        let third = load_number reg.VALUE (pos 1) in
        let fourth = store_slot reg.VALUE (temporary_offset slots j) in
        let sizes = length-append third fourth in
        let few = store_slot_some reg.VALUE (temporary_offset slots j) in
        let below = here.below in
        let ran = load_number_runs code reg.VALUE (pos 1) s refl at.base.zero_is (natural_fits 1 (omega arith)) (omega (arith, below, sizes, few)) (code_front code third fourth here).there in
        let v = ran.0 in
        let puts = ran.2 in
        let place = puts.counter in
        let same_v = same_leaves refl puts in
        let again = keep_runs program page code f calls spot.frames (end_count k) h j count reg.VALUE v (at_moved program page at same_v puts.words) some room less refl (code_back code third fourth place here) in
        let two = again.2 in
        let place_u = two.leaves.counter in
        let a = temporary_address program page f calls spot.frames j in
        let end : s.counter + 4 * length (third ++ fourth) ≡ again.0.counter = omega (arith, place, place_u, sizes) in
        slice_stored u g ws hand plain r row more count (steps + length third + length fourth) again.0 x fits room less
        (comes_on code (steps + length third) (length fourth) m v again.0 (comes_on code steps (length third) m s v comes ran.1) again.1)
        (same_after (same_after same same_v) (same_leaves refl two.leaves)) two.at
        (two.leaves.words ∙ ap (with_word v.words a) (puts.value ∙ sym one_word) ∙ ap (λ w. with_word w a r.length) (puts.words ∙ words))
        (subst (LeadsTo code (StandsThen code (behind u g more (arguments_size ws + 2)) (coded k))) end next)

    address_by : (u : Purpose) (g : ℕ) (ws : List Argument) (hand : Hand) → IsPlain hand → (s : Mark ℕ) {n o : _} (row : Row_of-Arg ℕ n) (more : Row_of-Arg ℕ o) (count : ℕ)
        → exact hand (arguments u g ws row ∷ k) → RestFits program page (arguments u g ws row ∷ k) (f ∷ calls) → HasRoom program page (f ∷ calls) count → used k + arguments_size ws + 1 < count → 0 < end_count k
        → slice_get slots s.name ≡ Some slot.Scalar
        → StandsThen code ((straight (keep_scalar slots s.name (used k + arguments_size ws)) ++ arguments_code slots more (used k) (arguments_size ws + 2)) ++ enter_code (form_here program form (f ∷ calls)) slots u g) (coded k) m.counter
        → leads (arguments u g (slice (scalar_slice (length calls) s.name) ∷ ws) more ∷ k)
    address_by u g ws hand plain x row more count y fits room less some kind c =
        let j = used k + arguments_size ws in
        let r = scalar_slice (length calls) x.name in
        let o = slot_offset slots x.name in
        let all = keep_scalar slots x.name j in
        let first = load_address reg.LEFT o in
        let second = store_slot reg.LEFT (temporary_offset slots j) in
        let last = load_number reg.VALUE (pos 1) ++ store_slot reg.VALUE (temporary_offset slots (j + 1)) in
        let rest = behind u g more (arguments_size ws + 2) in
        let parts = parted code (straight all) rest (coded k) m.counter
        (subst (λ l. StandsThen code l (coded k) m.counter) (append_assoc (straight all) (arguments_code slots more (used k) (arguments_size ws + 2)) (enter_code (form_here program form (f ∷ calls)) slots u g)) c) in
        let sized = length-append first (second ++ last) in
        let sizes = length-append second last in
        let some_code = store_slot_some reg.LEFT (temporary_offset slots j) in
        let here = code_at code all (StandsThen code rest (coded k)) m.counter (omega (arith, sized, sizes, some_code)) parts in
        let at = at_frame program form page input code spot left _ h m y in
        let off = slot_offset_is program page f calls spot.frames x.name slot.Scalar y.frames kind in
        let pointer = y.pointer_is in
        let most = here.below in
        let ran = load_address_runs code reg.LEFT o _ m refl refl (subst (λ p. p < 2 ^ 32) (sym pointer) off.0.fits) off.1 (ap (λ p. offset p o) pointer ∙ off.0.address) (omega (arith, most)) (code_front code first (second ++ last) here).there in
        let t = ran.0 in
        let sets = ran.2 in
        let place_t = sets.counter in
        let here_t = code_back code first (second ++ last) place_t here in
        let same_t = same_leaves refl sets in
        let kept = keep_runs program page code f calls spot.frames (end_count k) h j count reg.LEFT t (at_moved program page at same_t sets.words) some room (omega (arith, less)) refl (code_front code second last here_t) in
        let one = kept.2 in
        let place_s = one.leaves.counter in
        let a = temporary_address program page f calls spot.frames j in
        let address : t.registers reg.LEFT ≡ reference_address program page (f ∷ calls) spot.frames r = sets.value ∙ ap (λ l. word_address spot.frames (length calls) (word_number l x.name 0)) (sym (slots_top program page f calls)) in
        let end : m.counter + 4 * length all ≡ kept.0.counter + 4 * length last = omega (arith, place_t, place_s, sized, sizes) in
        number_stored u g ws hand plain r row more count (length first + length second) kept.0 y fits room less some refl
        (comes_on code (length first) (length second) m t kept.0 ran.1 kept.1) (same_after same_t (same_leaves refl one.leaves)) one.at
        (one.leaves.words ∙ ap (λ w. with_word w a (t.registers reg.LEFT)) sets.words ∙ ap (with_word m.words a) address)
        (code_back code second last place_s here_t)
        (subst (LeadsTo code (StandsThen code rest (coded k))) end (straight_end code all (StandsThen code rest (coded k)) m.counter parts))

  -- ---- the laws

  -- a value at hand that is an argument
  pub pass_law : (u : Purpose) (g : ℕ) (ws : List Argument) {n : _} (more : Row_of-Arg ℕ n) (spot : Spot) (left : ℕ) (calls : List ℕ) (account : ℕ) (hand : Hand) (k : List Item) (h : Stack) (m : Machine) → IsPlain hand
      → Formed program page limit (control calls account hand (pass u g ws more ∷ k)) h
      → ExactAt program form page input code spot left (control calls account hand (pass u g ws more ∷ k)) h m
      → Placed program form page input code hand (pass u g ws more ∷ k) calls spot.frames m.registers m.counter
      → LeadsFrom program form page input code spot left calls h (item_step program page input (control calls account hand (pass u g ws more ∷ k)) h (pass u g ws more) k) m
  pass_law u g ws more spot left [] account hand k h m none formed x here = absurd formed.fits.0.0
  pass_law u g ws more spot left (f ∷ calls) account hand k h m none formed x here =
      with_value program form page input code hand _ x here (λ v x here.
      pass_by spot left f calls account k h m u g ws v more formed.fits (some_end program page limit (f ∷ calls) account hand (pass u g ws more) k h none tt formed) x here)

  -- an argument that is to come
  pub argument_law : (u : Purpose) (g : ℕ) (ws : List Argument) (first : Arg ℕ) {n : _} (more : Row_of-Arg ℕ n) (spot : Spot) (left : ℕ) (calls : List ℕ) (account : ℕ) (hand : Hand) (k : List Item) (h : Stack) (m : Machine) → IsPlain hand
      → Formed program page limit (control calls account hand (arguments u g ws (more_of-Arg first more) ∷ k)) h
      → ExactAt program form page input code spot left (control calls account hand (arguments u g ws (more_of-Arg first more) ∷ k)) h m
      → Placed program form page input code hand (arguments u g ws (more_of-Arg first more) ∷ k) calls spot.frames m.registers m.counter
      → LeadsFrom program form page input code spot left calls h
      (item_step program page input (control calls account hand (arguments u g ws (more_of-Arg first more) ∷ k)) h (arguments u g ws (more_of-Arg first more)) k) m
  argument_law u g ws first more spot left [] account hand k h m none formed x here = absurd formed.fits.0.0
  argument_law u g ws (argument.Value e) more spot left (f ∷ calls) account hand k h m none formed x here =
      value_by spot left f calls account k h m u g ws hand none e more x (coded_of program form page limit input code hand (arguments u g ws (more_of-Arg (argument.Value e) more) ∷ k) (f ∷ calls) spot.frames m.registers m.counter none here)
  argument_law u g ws (argument.Slice a) more spot left (f ∷ calls) account hand k h m none formed x here =
      by_slice program form page input code (f ∷ calls) h a.name _ (λ r row.
      let j = used k + arguments_size ws in
      let most = le-max_left (j + (2 + arguments_words more)) (max j (arguments_temporaries more (j + 2))) in
      slice_by spot left f calls account k h m u g ws hand none a r (more_of-Arg (argument.Slice a) more) more _ x formed.fits formed.fits.0.0 (omega (arith, most))
      (some_end program page limit (f ∷ calls) account hand (arguments u g ws (more_of-Arg (argument.Slice a) more)) k h none tt formed) row
      (is_row program page (f ∷ calls) spot.frames r x.frames (row_within program page limit (f ∷ calls) account hand _ h a.name r formed (omega arith) row))
      (coded_of program form page limit input code hand (arguments u g ws (more_of-Arg (argument.Slice a) more) ∷ k) (f ∷ calls) spot.frames m.registers m.counter none here))
  argument_law u g ws (argument.Address s) more spot left (f ∷ calls) account hand k h m none formed x here =
      let j = used k + arguments_size ws in
      let most = le-max_left (j + (2 + arguments_words more)) (max j (arguments_temporaries more (j + 2))) in
      let o = opened program page limit (f ∷ calls) account hand (arguments u g ws (more_of-Arg (argument.Address s) more)) k h none tt formed in
      let kind = ap (λ l. slice_get l s.name) (slots_are program page limit o) ∙ of_scalar program o.function.slots o.set _ s more o.inner.1.2 in
      address_by spot left f calls account k h m u g ws hand none s (more_of-Arg (argument.Address s) more) more _ x formed.fits formed.fits.0.0 (omega (arith, most))
      (some_end program page limit (f ∷ calls) account hand (arguments u g ws (more_of-Arg (argument.Address s) more)) k h none tt formed) kind
      (coded_of program form page limit input code hand (arguments u g ws (more_of-Arg (argument.Address s) more) ∷ k) (f ∷ calls) spot.frames m.registers m.counter none here)
