-- Instructions, page faults, and ends with no strand in the deque keep the state.
use Rattle.std.proofs.Common.{◌≡◌, ℕ, ◌+◌, ◌-◌, ◌<◌, Bool, List, [], ◌∷◌, ◌++◌, Option, Some, None, refl, sym, ap, ◌∙◌, subst, arith, length, take, drop, length-append, length-drop, length-take-le}
use Rattle.cm_core.specs.Table.{weigh}
use Rattle.cm_core.specs.State.{Home, State, Strand, Task, Worker, chain_of, depositing, home_scope, innermost, over, page_counts, running}
use Rattle.cm_core.specs.Event.{finished, orphaned, page_added, stepped, with_body}
use Rattle.cm_core.specs.Valid.{DequeFits, HomeFits, IsAlone, IsFront, Location, MapFits, OwnsAll, TaskFits, UnstolenAt, Valid, ValidIn, arriving_bit, base, worker_weight}
use Rattle.cm_core.proofs.OneLaw.{one_valid}
use Rattle.cm_core.proofs.TableLaw.{front_more, sum_append, sum_cut, sum_front}

-- a strand that has no open scope
pub alone_scopes : (chain : ℕ → List ℕ) (scopes : List ℕ) (home : Option Home) → IsAlone (page_counts chain scopes home) → scopes ≡ []
alone_scopes chain [] home a = refl
alone_scopes chain (n ∷ []) home a = absurd a
alone_scopes chain (n ∷ m ∷ scopes) home a = absurd a

-- the weight behind a front, where pages are added
pub weigh_behind : (h : ℕ → ℕ) (first pages more : List ℕ) → IsFront first pages → weigh h (drop (length first) (pages ++ more)) ≡ weigh h (drop (length first) pages) + weigh h more
weigh_behind h first pages more f =
    let a = sum_front h first pages f in let b = sum_front h first (pages ++ more) (front_more first pages more f) in let c = sum_append h pages more in omega (arith, a, b, c)

module _ {Body Ended : Type 0} {BodyFits : List ℕ → Body → Type 0} {P V : ℕ} where
  module _ {s : State Body Ended} {location : ℕ → Location} (valid : Valid BodyFits P V s location) (w : ℕ) (within : w < P) where
    abbrev me : Worker Body Ended
    me = s.workers w

    -- what fits the worker's task
    pub fits_as : (x : Task Body Ended) → me.task ≡ x → TaskFits BodyFits V s location w me.pages me.store me.deque x
    fits_as x e = subst (TaskFits BodyFits V s location w me.pages me.store me.deque) e (valid.fits w)

    pub unstolen_as : (x : Task Body Ended) → me.task ≡ x → UnstolenAt s.count me.deque x
    unstolen_as x e = subst (UnstolenAt s.count me.deque) e (valid.unstolen w)

    -- the weight of the worker's pages, with its task named
    pub weighs_as : (x : Task Body Ended) → me.task ≡ x → (h : ℕ → ℕ)
        → worker_weight h s.chain me ≡ weigh h me.store + weigh h (drop (length (chain_of s.chain (base x))) me.pages)
    weighs_as x e h = ap (λ x. weigh h me.store + weigh h (drop (length (chain_of s.chain (base x))) me.pages)) e

    pub arrives_as : (x : Task Body Ended) → me.task ≡ x → (n : ℕ) → arriving_bit n me.task ≡ arriving_bit n x
    arrives_as x e n = ap (arriving_bit n) e

    -- an instruction
    pub goes_valid : (t : Strand Body) → me.task ≡ running t → (b : Body) (words : ℕ → ℕ) (stopped : Bool) → BodyFits (page_counts s.chain t.scopes t.home) b
        → ValidIn BodyFits P V (stepped s w t b words stopped)
    goes_valid t e b words stopped okay = (
      location,
      one_valid valid w within words stopped (record me { task = running (with_body t b) })
          (let z = fits_as (running t) e in (z.0, record { young = z.1.young; place = z.1.place; home = z.1.home; owns = z.1.owns; okay = okay; all = z.1.all }, z.2, z.3))
          (λ n. sym (arrives_as (running t) e n)) (λ h. sym (weighs_as (running t) e h)) (unstolen_as (running t) e),
    )

    -- a page fault
    pub page_valid : (t : Strand Body) → me.task ≡ running t → (page : ℕ) (store : List ℕ) → me.store ≡ page ∷ store → ValidIn BodyFits P V (page_added s w)
    page_valid t e page store d = (
      location,
      one_valid valid w within s.words s.stopped
          (record me { pages = me.pages ++ drop (length me.store - 1) me.store; store = take (length me.store - 1) me.store })
          (subst (TaskFits BodyFits V s location w (me.pages ++ drop (length me.store - 1) me.store) (take (length me.store - 1) me.store) me.deque) (sym e) (
            record {
              begins = front_more (chain_of s.chain (innermost t.scopes t.home)) me.pages (drop (length me.store - 1) me.store) z.0.begins;
              whole = let a = z.0.whole in let b = length-append me.pages (drop (length me.store - 1) me.store) in
                  let c = length-drop (length me.store - 1) me.store in let g = length-take-le (length me.store - 1) me.store (omega arith) in
                  let l = ap length d in omega (arith, a, b, c, g, l);
            },
            z.1,
            z.2,
            z.3,
          ))
          (λ n. refl)
          (λ h. let a = weighs_as (running t) e h in
          let b = ap (λ x. weigh h (take (length me.store - 1) me.store) + weigh h (drop (length (chain_of s.chain (base x))) (me.pages ++ drop (length me.store - 1) me.store))) e in
          let c = weigh_behind h (chain_of s.chain (innermost t.scopes t.home)) me.pages (drop (length me.store - 1) me.store) z.0.begins in
          let g = sum_cut h (length me.store - 1) me.store in omega (arith, a, b, c, g))
          (valid.unstolen w),
    )
      where
        z : TaskFits BodyFits V s location w me.pages me.store me.deque (running t)
        z = fits_as (running t) e

    -- an end with no strand in the deque
    pub orphan_valid : (t : Strand Body) → me.task ≡ running t → t.scopes ≡ [] → (h : Home) → t.home ≡ Some h → me.deque ≡ [] → (e : Ended)
        → ValidIn BodyFits P V (orphaned s w h e)
    orphan_valid t e none h at alone end = (
      location,
      one_valid valid w within s.words s.stopped (record me { task = depositing h end })
          (let z = fits_as (running t) e in
          (subst (λ o. MapFits V s.chain o me.pages me.store) inner z.0, alone, (t.number, z.1.young, subst (HomeFits s t.number) at z.1.home, z.1.place, subst (OwnsAll s t.number) none z.1.all)))
          (λ n. sym (arrives_as (running t) e n))
          (λ h. let a = weighs_as (running t) e h in let b = ap (λ o. weigh h me.store + weigh h (drop (length (chain_of s.chain o)) me.pages)) inner in sym (a ∙ b))
          tt,
    )
      where
        inner : innermost t.scopes t.home ≡ Some h.scope
        inner = ap (λ l. innermost l t.home) none ∙ ap home_scope at

    pub finish_valid : (t : Strand Body) → me.task ≡ running t → t.scopes ≡ [] → t.home ≡ None → (e : Ended)
        → ValidIn BodyFits P V (finished s w e)
    finish_valid t e none at end = (
      location,
      one_valid valid w within s.words s.stopped (record me { task = over end })
          (let z = fits_as (running t) e in (z.0.whole, bare me.deque (subst (λ o. DequeFits BodyFits s location w t.number o me.deque) at z.3)))
          (λ n. sym (arrives_as (running t) e n))
          (λ h. let a = weighs_as (running t) e h in let b = ap (λ o. weigh h me.store + weigh h (drop (length (chain_of s.chain o)) me.pages)) inner in sym (a ∙ b))
          tt,
    )
      where
        inner : innermost t.scopes t.home ≡ None
        inner = ap (λ l. innermost l t.home) none ∙ ap home_scope at

        bare : (deque : List (Strand Body)) → DequeFits BodyFits s location w t.number None deque → deque ≡ []
        bare [] l = refl
        bare (p ∷ deque) l = absurd l.0
