-- Runs of a machine join and split, are determined by the replies, and are runs over more words too.
use Rattle.std.proofs.Common.{◌≡◌, ℕ, ◌%◌, List, [], ◌∷◌, ◌++◌, length, Option, None, Some, refl, sym, ap, ◌∙◌, subst, arith, inl, inr}
use Rattle.std.proofs.lemmas.Bool.Decides.{eqb_tells}
use Rattle.std.proofs.lemmas.Option.{none-some, same_Some}
use Rattle.std.specs.Prelude.{Bool, true, false, ◌==◌, if◌then◌else◌, is_some, ◌↔◌}
use Rattle.cm_isa.specs.Operation.{Operation, ecall}
use Rattle.cm_isa.specs.Register.{with_result}
use Rattle.cm_isa.specs.Action.{Size, Action, Sets, Passes, Goes, Links, Loads, Stores, Serves, Breaks, action_at}
use Rattle.cm_isa.specs.Effect.{Change, load_change, store_change, action_change, is_aligned}
use Rattle.cm_isa.specs.Machine.{WordMap, Mapped, Machine, Code, StepsTo, with_word, with_write, word_address, word_cell, mapped_cell, next_machine, machine_after, Stored, unmapped, writable, read_only, reads, writes, readable_words, writable_words}
use Rattle.cm_isa.specs.Run.{call_of, replied_machine, Label, silent, call, LabelledStep, Runs, replies, word_or, with_more, machine_with_more, StaysReadable, Extends}
use Rattle.cm_isa.specs.declared.execution.FaultKind.{FaultKind}
use Rattle.cm_isa.specs.declared.execution.FaultKind.TheVariants as faults
use Rattle.cm_isa.specs.declared.execution.Next.{Next}
use Rattle.cm_isa.specs.declared.execution.Next.TheVariants.{At, Service, PageFault, Fault}

module _ (code : Code) where
  -- runs one after another
  pub runs_join : (ls ks : List Label) (m n last : Machine) → Runs code ls m n → Runs code ks n last → Runs code (ls ++ ks) m last
  runs_join [] ks m n last first second = subst (λ q. Runs code ks q last) (sym first) second
  runs_join (l ∷ ls) ks m n last first second = (first.0, first.1, runs_join ls ks first.0 n last first.2 second)

  pub runs_split : (ls ks : List Label) (m last : Machine) → Runs code (ls ++ ks) m last → (n : Machine) × Runs code ls m n × Runs code ks n last
  runs_split [] ks m last run = (m, refl, run)
  runs_split (l ∷ ls) ks m last run =
      let rest = runs_split ls ks run.0 last run.2 in
      (rest.0, (run.0, run.1, rest.1), rest.2)

-- ---- one run for each list of replies

-- at most one instruction is at each address
abbrev pub IsOne : Code → Type 0
IsOne code = (address : ℕ) (i j : Operation) → code address i → code address j → i ≡ j

module _ (code : Code) (one : IsOne code) where
  step_is_one : (m a b : Machine) → StepsTo code m a → StepsTo code m b → a ≡ b
  step_is_one m a b first second =
      same_Some a b (sym first.effect ∙ ap (λ (i : Operation). machine_after i m) (one m.counter first.instruction second.instruction first.there second.there) ∙ second.effect)

  -- no instruction step goes on from an `ecall`
  pub call_is_no_step : (m a : Machine) → StepsTo code m a → code m.counter ecall → ⊥
  call_is_no_step m a step asks =
      none-some a (sym (ap (λ (i : Operation). machine_after i m) (one m.counter step.instruction ecall step.there asks)) ∙ step.effect)

  pub runs_are_one : (ls ks : List Label) (m a b : Machine) → Runs code ls m a → Runs code ks m b → length ls ≡ length ks → replies ls ≡ replies ks → (ls ≡ ks) × (a ≡ b)
  runs_are_one [] [] m a b first second size same = (refl, sym first ∙ second)
  runs_are_one [] (k ∷ ks) m a b first second size same = absurd (omega (arith, size))
  runs_are_one (l ∷ ls) [] m a b first second size same = absurd (omega (arith, size))
  runs_are_one (silent ∷ ls) (silent ∷ ks) m a b first second size same =
      let next = step_is_one m second.0 first.0 second.1 first.1 in
      let rest = runs_are_one ls ks first.0 a b first.2 (subst (λ q. Runs code ks q b) next second.2) (omega (arith, size)) same in
      (ap (λ labels. silent ∷ labels) rest.0, rest.1)
  runs_are_one (silent ∷ ls) (call d ∷ ks) m a b first second size same = absurd (call_is_no_step m first.0 first.1 second.1.0)
  runs_are_one (call c ∷ ls) (silent ∷ ks) m a b first second size same = absurd (call_is_no_step m second.0 second.1 first.1.0)
  runs_are_one (call c ∷ ls) (call d ∷ ks) m a b first second size same =
      let reply : c.reply ≡ d.reply = heads c.reply d.reply (replies ls) (replies ks) same in
      let more : replies ls ≡ replies ks = tails c.reply d.reply (replies ls) (replies ks) same in
      let calls : c ≡ d = first.1.1 ∙ ap (call_of m) reply ∙ sym second.1.1 in
      let next : second.0 ≡ first.0 = second.1.2 ∙ ap (replied_machine m) (sym reply) ∙ sym first.1.2 in
      let rest = runs_are_one ls ks first.0 a b first.2 (subst (λ q. Runs code ks q b) next second.2) (omega (arith, size)) more in
      (both calls rest.0, rest.1)
    where
      heads : (x y : Option ℕ) (xs ys : List (Option ℕ)) → x ∷ xs ≡ y ∷ ys → x ≡ y
      heads x y xs ys e = cc

      tails : (x y : Option ℕ) (xs ys : List (Option ℕ)) → x ∷ xs ≡ y ∷ ys → xs ≡ ys
      tails x y xs ys e = cc

      both : c ≡ d → ls ≡ ks → call c ∷ ls ≡ call d ∷ ks
      both e f = cc

-- ---- more words

-- an own word is one with more words
owns_with_more : (s t : Stored) (w : ℕ) → writes s ≡ Some w → writes (word_or s t) ≡ Some w
owns_with_more unmapped t w e = absurd (none-some w e)
owns_with_more (writable v) t w e = e
owns_with_more (read_only v) t w e = absurd (none-some w e)

-- a word that is put beside more words
write_with_more : (words more : Mapped) (write : Option (ℕ × ℕ)) → with_write (with_more words more) write ≡ with_more (with_write words write) more
write_with_more words more None = refl
write_with_more words more (Some write) = λ i a. at a i
  where
    at : (a : ℕ) → with_word (with_more words more) write.0 write.1 a ≡ with_more (with_word words write.0 write.1) more a
    at a = elim (a == write.0) as (λ b. (if b then writable write.1 else word_or (words a) (more a)) ≡ word_or (if b then writable write.1 else words a) (more a)) [ true ↦ refl | false ↦ refl ]

fault_is_no_address : (kind : FaultKind) (a address : ℕ) → Fault kind a ≡ At address → ⊥
fault_is_no_address kind a address e = cc

-- where a machine goes on, and with more words as well
next_beside : (next : Next) (result : Option ℕ) (rd : ℕ) (write : Option (ℕ × ℕ)) (m last : Machine) (more : Mapped) → next_machine next result rd write m ≡ Some last
    → ((address : ℕ) × (next ≡ At address)) × (next_machine next result rd write (machine_with_more m more) ≡ Some (machine_with_more last more))
next_beside (At address) result rd write m last more e =
    let made = same_Some _ last e in (
      (address, refl),
      ap (λ words. Some (record { registers = with_result m.registers rd result; counter = address; words = words })) (write_with_more m.words more write)
          ∙ ap (λ (q : Machine). Some (machine_with_more q more)) made,
    )
next_beside Service result rd write m last more e = absurd (none-some last e)
next_beside (PageFault a) result rd write m last more e = absurd (none-some last e)
next_beside (Fault kind a) result rd write m last more e = absurd (none-some last e)

-- the word of an access that goes on
access_beside : (one two : Option ℕ) (a address : ℕ) (f : Option ℕ → Change) → ((w : ℕ) → one ≡ Some w → two ≡ Some w) → (f None).next ≡ Fault faults.Place a → (f one).next ≡ At address → f two ≡ f one
access_beside one two a address f more fails e = by_word one refl
  where
    by_word : (word : Option ℕ) → one ≡ word → f two ≡ f one
    by_word (Some w) is = ap f (more w is ∙ sym is)
    by_word None is = absurd (fault_is_no_address faults.Place a address (sym fails ∙ ap (λ (word : Option ℕ). (f word).next) (sym is) ∙ e))

-- a word that may be read may be read beside
reads_with_more : (s t : Stored) (w : ℕ) → ((v : ℕ) → s ≡ read_only v → reads t ≡ Some v) → reads s ≡ Some w → reads (word_or s t) ≡ Some w
reads_with_more unmapped t w stays e = absurd (none-some w e)
reads_with_more (writable v) t w stays e = e
reads_with_more (read_only v) t w stays e = stays v refl ∙ e

choice_with_more : (b : Bool) (c d other : Change) (address : ℕ) → (d.next ≡ At address → c ≡ d) → (if b then d else other).next ≡ At address → (if b then c else other) ≡ (if b then d else other)
choice_with_more true c d other address same e = same e
choice_with_more false c d other address same e = refl

change_beside : (words more : Mapped) → StaysReadable words more → (asks : Action) (pc address : ℕ)
    → (action_change (mapped_cell (readable_words words)) (mapped_cell (writable_words words)) asks pc).next ≡ At address
    → action_change (mapped_cell (readable_words (with_more words more))) (mapped_cell (writable_words (with_more words more))) asks pc ≡ action_change (mapped_cell (readable_words words)) (mapped_cell (writable_words words)) asks pc
change_beside words more stays (Sets v) pc address e = refl
change_beside words more stays Passes pc address e = refl
change_beside words more stays (Goes t) pc address e = refl
change_beside words more stays (Links t) pc address e = refl
change_beside words more stays (Loads size sign a) pc address e =
    let p = word_address a in
    choice_with_more (is_aligned size a) _ _ _ address
    (access_beside (readable_words words p) (readable_words (with_more words more) p) a address (λ word. load_change (word_cell word p) size sign a pc) (λ w k. reads_with_more (words p) (more p) w (stays p) k) refl) e
change_beside words more stays (Stores size a v) pc address e =
    let p = word_address a in
    choice_with_more (is_aligned size a) _ _ _ address
    (access_beside (writable_words words p) (writable_words (with_more words more) p) a address (λ word. store_change (word_cell word p) size a v pc) (λ w k. owns_with_more (words p) (more p) w k) refl) e
change_beside words more stays Serves pc address e = refl
change_beside words more stays Breaks pc address e = refl

-- ---- the mapped words stay as many

-- the word that is put, if one is, takes the place of one that was there
abbrev IsMappedWrite : WordMap → Option (ℕ × ℕ) → Type 0
IsMappedWrite words (Some write) = is_some (words write.0) ≡ true
IsMappedWrite words None = Unit {0}

choice_is_mapped : (words : WordMap) (b : Bool) (c d : Change) → IsMappedWrite words c.write → IsMappedWrite words d.write → IsMappedWrite words (if b then c else d).write
choice_is_mapped words true c d first second = first
choice_is_mapped words false c d first second = second

load_is_mapped : (words : WordMap) (word : Option ℕ) (p : ℕ) (size : Size) (sign : Bool) (a pc : ℕ) → IsMappedWrite words (load_change (word_cell word p) size sign a pc).write
load_is_mapped words (Some w) p size sign a pc = tt
load_is_mapped words None p size sign a pc = tt

store_is_mapped : (words : WordMap) (word : Option ℕ) (p : ℕ) → words p ≡ word → (size : Size) (a v pc : ℕ) → IsMappedWrite words (store_change (word_cell word p) size a v pc).write
store_is_mapped words (Some w) p is size a v pc = ap is_some is
store_is_mapped words None p is size a v pc = tt

change_is_mapped : (words all : WordMap) (asks : Action) (pc : ℕ) → IsMappedWrite words (action_change (mapped_cell all) (mapped_cell words) asks pc).write
change_is_mapped words all (Sets v) pc = tt
change_is_mapped words all Passes pc = tt
change_is_mapped words all (Goes t) pc = choice_is_mapped words (t % 4 == 0) _ _ tt tt
change_is_mapped words all (Links t) pc = choice_is_mapped words (t % 4 == 0) _ _ tt tt
change_is_mapped words all (Loads size sign a) pc = choice_is_mapped words (is_aligned size a) _ _ (load_is_mapped words (all (word_address a)) (word_address a) size sign a pc) tt
change_is_mapped words all (Stores size a v) pc = choice_is_mapped words (is_aligned size a) _ _ (store_is_mapped words (words (word_address a)) (word_address a) refl size a v pc) tt
change_is_mapped words all Serves pc = tt
change_is_mapped words all Breaks pc = tt

write_is_mapped : (words : Mapped) (write : Option (ℕ × ℕ)) → IsMappedWrite (writable_words words) write → (a : ℕ) → is_some (writable_words (with_write words write) a) ≡ is_some (writable_words words a)
write_is_mapped words None there a = refl
write_is_mapped words (Some write) there a = elim (eqb_tells a write.0) [
  | inl h ↦ rw h.0 (sym (ap (λ b. is_some (writable_words words b)) h.1 ∙ there))
  | inr h ↦ rw h.0 refl
]

next_keeps_map : (next : Next) (result : Option ℕ) (rd : ℕ) (write : Option (ℕ × ℕ)) (m last : Machine) → IsMappedWrite (writable_words m.words) write → next_machine next result rd write m ≡ Some last
    → (a : ℕ) → is_some (writable_words last.words a) ≡ is_some (writable_words m.words a)
next_keeps_map (At address) result rd write m last there e a = ap (λ (q : Machine). is_some (writable_words q.words a)) (sym (same_Some _ last e)) ∙ write_is_mapped m.words write there a
next_keeps_map Service result rd write m last there e a = absurd (none-some last e)
next_keeps_map (PageFault b) result rd write m last there e a = absurd (none-some last e)
next_keeps_map (Fault kind b) result rd write m last there e a = absurd (none-some last e)

module _ (code : Code) where
  -- no step changes what may only be read
  put_keeps_fixed : (words : Mapped) (write : Option (ℕ × ℕ)) → IsMappedWrite (writable_words words) write → (a w : ℕ) → (with_write words write a ≡ read_only w) ↔ (words a ≡ read_only w)
  put_keeps_fixed words None there a w = ((λ e. e), (λ e. e))
  put_keeps_fixed words (Some write) there a w = elim (eqb_tells a write.0) [
    | inl h ↦ rw h.0 ((λ e. absurd (own_fixed e)), (λ e. absurd (not_owned (sym there ∙ ap (λ b. is_some (writable_words words b)) (sym h.1) ∙ ap (λ c. is_some (writes c)) e))))
    | inr h ↦ rw h.0 ((λ e. e), (λ e. e))
  ]
    where
      own_fixed : writable write.1 ≡ read_only w → ⊥
      own_fixed e = cc e

      not_owned : true ≡ false → ⊥
      not_owned e = cc e

  next_keeps_fixed : (next : Next) (result : Option ℕ) (rd : ℕ) (write : Option (ℕ × ℕ)) (m last : Machine) → IsMappedWrite (writable_words m.words) write → next_machine next result rd write m ≡ Some last
      → (a w : ℕ) → (last.words a ≡ read_only w) ↔ (m.words a ≡ read_only w)
  next_keeps_fixed (At address) result rd write m last there e a w = subst (λ (q : Machine). (q.words a ≡ read_only w) ↔ (m.words a ≡ read_only w)) (same_Some _ last e) (put_keeps_fixed m.words write there a w)
  next_keeps_fixed Service result rd write m last there e a w = absurd (none-some last e)
  next_keeps_fixed (PageFault b) result rd write m last there e a w = absurd (none-some last e)
  next_keeps_fixed (Fault kind b) result rd write m last there e a w = absurd (none-some last e)

  labelled_keeps_fixed : (l : Label) (m n : Machine) → LabelledStep code l m n → (a w : ℕ) → (n.words a ≡ read_only w) ↔ (m.words a ≡ read_only w)
  labelled_keeps_fixed silent m n step a w =
      let i = step.instruction in
      let asks = action_at i m.registers m.counter in
      let change = action_change (mapped_cell (readable_words m.words)) (mapped_cell (writable_words m.words)) asks m.counter in
      next_keeps_fixed change.next change.result i.rd change.write m n (change_is_mapped (writable_words m.words) (readable_words m.words) asks m.counter) step.effect a w
  labelled_keeps_fixed (call c) m n step a w = subst (λ (q : Machine). (q.words a ≡ read_only w) ↔ (m.words a ≡ read_only w)) (sym step.2) ((λ e. e), (λ e. e))

  pub runs_keep_fixed : (ls : List Label) (m last : Machine) (a w : ℕ) → Runs code ls m last → (last.words a ≡ read_only w) ↔ (m.words a ≡ read_only w)
  runs_keep_fixed [] m last a w run = subst (λ (q : Machine). (q.words a ≡ read_only w) ↔ (m.words a ≡ read_only w)) run ((λ e. e), (λ e. e))
  runs_keep_fixed (l ∷ ls) m last a w run =
      let one = labelled_keeps_fixed l m run.0 run.1 a w in
      let rest = runs_keep_fixed ls run.0 last a w run.2 in
      ((λ e. one.0 (rest.0 e)), (λ e. rest.1 (one.1 e)))

  step_beside : (m n : Machine) (more : Mapped) → StaysReadable m.words more → StepsTo code m n → StepsTo code (machine_with_more m more) (machine_with_more n more)
  step_beside m n more stays step =
      let i = step.instruction in
      let asks = action_at i m.registers m.counter in
      let change = action_change (mapped_cell (readable_words m.words)) (mapped_cell (writable_words m.words)) asks m.counter in
      let goes = next_beside change.next change.result i.rd change.write m n more step.effect in
      let same = change_beside m.words more stays asks m.counter goes.0.0 goes.0.1 in
      record {
        instruction = i;
        there = step.there;
        effect = ap (λ (c : Change). next_machine c.next c.result i.rd c.write (machine_with_more m more)) same ∙ goes.1;
      }

  labelled_beside : (l : Label) (m n : Machine) (more : Mapped) → StaysReadable m.words more → LabelledStep code l m n → LabelledStep code l (machine_with_more m more) (machine_with_more n more)
  labelled_beside silent m n more stays step = step_beside m n more stays step
  labelled_beside (call c) m n more stays step = (step.0, step.1, ap (λ (q : Machine). machine_with_more q more) step.2)

  -- the same steps with more words
  pub runs_beside : (ls : List Label) (m last : Machine) (more : Mapped) → StaysReadable m.words more → Runs code ls m last → Runs code ls (machine_with_more m more) (machine_with_more last more)
  runs_beside [] m last more stays run = ap (λ (q : Machine). machine_with_more q more) run
  runs_beside (l ∷ ls) m last more stays run = (
    machine_with_more run.0 more,
    labelled_beside l m run.0 more stays run.1,
    runs_beside ls run.0 last more (λ a w e. stays a w ((labelled_keeps_fixed l m run.0 run.1 a w).0 e)) run.2,
  )

  labelled_keeps_map : (l : Label) (m n : Machine) → LabelledStep code l m n → (a : ℕ) → is_some (writable_words n.words a) ≡ is_some (writable_words m.words a)
  labelled_keeps_map silent m n step a =
      let i = step.instruction in
      let asks = action_at i m.registers m.counter in
      let change = action_change (mapped_cell (readable_words m.words)) (mapped_cell (writable_words m.words)) asks m.counter in
      next_keeps_map change.next change.result i.rd change.write m n (change_is_mapped (writable_words m.words) (readable_words m.words) asks m.counter) step.effect a
  labelled_keeps_map (call c) m n step a = ap (λ (q : Machine). is_some (writable_words q.words a)) step.2

  -- the mapped addresses stay as they are
  pub runs_keep_map : (ls : List Label) (m last : Machine) → Runs code ls m last → (a : ℕ) → is_some (writable_words last.words a) ≡ is_some (writable_words m.words a)
  runs_keep_map [] m last run a = ap (λ (q : Machine). is_some (writable_words q.words a)) (sym run)
  runs_keep_map (l ∷ ls) m last run a = runs_keep_map ls run.0 last run.2 a ∙ labelled_keeps_map l m run.0 run.1 a

-- a larger map is a map with more words
pub larger_has_more : (small large : Mapped) → Extends small large → with_more small large ≡ large
larger_has_more small large extends = λ i a. by_word a (small a) refl i
  where
    by_word : (a : ℕ) (word : Stored) → small a ≡ word → word_or word (large a) ≡ large a
    by_word a unmapped is = refl
    by_word a (writable w) is = sym (extends.keeps_writable a w is)
    by_word a (read_only w) is = refl
