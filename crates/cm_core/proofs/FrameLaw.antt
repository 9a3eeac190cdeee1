-- What is said of strands, workers and scopes that a turn doesn't touch stays true.
use Rattle.std.proofs.Common.{◌≡◌, ℕ, ◌+◌, ◌<◌, ◌≤◌, ◌≢◌, ◌⊎◌, List, [], ◌∷◌, Option, Some, None, refl, sym, ap, ◌∙◌, subst, arith, inl, inr, length}
use Rattle.std.specs.Prelude.{⊤}
use Rattle.std.proofs.lemmas.Bool.{cases_lt}
use Rattle.cm_core.specs.State.{Home, Phase, State, Strand, Task, active, arriving, chain_of, closed, collecting, depositing, home_scope, idle, innermost, joining, leaving, mapping, out, over, page_counts, running, suspended}
use Rattle.cm_core.specs.Valid.{AreActive, DequeFits, HomeFits, IsFront, IsIn, IsJoining, IsLive, IsOut, IsSuspended, Location, MapFits, Owns, OwnsAll, PhaseFits, StrandFits, TaskFits, at_scope, at_worker}

-- the innermost scope is there
abbrev pub IsThere : (scopes : ℕ) → Option ℕ → Type 0
IsThere scopes None = ⊤
IsThere scopes (Some n) = n < scopes

module _ {Body Ended : Type 0} where
  -- the second state says the same of what the strands with these numbers own and wait for
  -- Q names the strands whose places are as they were, and R those whose scopes have their phases as they were
  pub record Frame (s s' : State Body Ended) (Q R : ℕ → Type 0) : Type 0 where
    pub strands : s.strands ≤ s'.strands
    pub scopes : s.scopes ≤ s'.scopes
    pub chain : (n : ℕ) → n < s.scopes → s'.chain n ≡ s.chain n
    pub owner : (n : ℕ) → n < s.scopes → s'.owner n ≡ s.owner n
    pub outer : (n : ℕ) → n < s.scopes → s'.outer n ≡ s.outer n
    pub phase : (n : ℕ) → n < s.scopes → R (s.owner n) → s'.phase n ≡ s.phase n
    pub live : (n : ℕ) → n < s.scopes → IsLive (s'.phase n) → IsLive (s.phase n)
    -- a new scope has none of these owners
    pub fresh : (n c : ℕ) → s.scopes ≤ n → n < s'.scopes → Q c → s'.owner n ≢ c
    pub places : (n i c hole : ℕ) → n < s.scopes → Q c → s.places n i ≡ out hole c → s'.places n i ≡ out hole c

  module _ {s s' : State Body Ended} {Q R : ℕ → Type 0} (f : Frame s s' Q R) where
    out_frame : (c : ℕ) (h : Home) → Q c → IsOut s c h → IsOut s' c h
    out_frame c h q o = (let a = f.scopes in let b = o.0 in omega (arith, a, b), o.1, (o.2.0, f.places h.scope h.place c o.2.0 o.0 q o.2.1))

    pub all_frame : (number : ℕ) (scopes : List ℕ) → Q number → OwnsAll s number scopes → OwnsAll s' number scopes
    all_frame number scopes q all m l a o = by (cases_lt m s.scopes)
      where
        by : (m < s.scopes) ⊎ (s.scopes ≤ m) → IsIn scopes m
        by (inl b) = all m b (f.live m b a) (sym (f.owner m b) ∙ o)
        by (inr b) = absurd (f.fresh m number b l q o)

    pub home_frame : (c : ℕ) (h : Option Home) → Q c → HomeFits s c h → HomeFits s' c h
    home_frame c None q o = o
    home_frame c (Some h) q o = out_frame c h q o

    pub owns_frame : (number : ℕ) (scopes : List ℕ) (home : Option Home) → Owns s.scopes s.owner s.outer number scopes home → Owns s'.scopes s'.owner s'.outer number scopes home
    owns_frame number [] home o = o
    owns_frame number (n ∷ scopes) home o =
        (let a = f.scopes in let b = o.0 in omega (arith, a, b), f.owner n o.0 ∙ o.1, f.outer n o.0 ∙ o.2, owns_frame number scopes home o.3)

    pub chain_frame : (o : Option ℕ) → IsThere s.scopes o → chain_of s'.chain o ≡ chain_of s.chain o
    chain_frame None i = refl
    chain_frame (Some n) i = f.chain n i

    home_there : (c : ℕ) (h : Option Home) → HomeFits s c h → IsThere s.scopes (home_scope h)
    home_there c None o = o
    home_there c (Some h) o = o.0

    pub innermost_there : (number : ℕ) (scopes : List ℕ) (home : Option Home) → Owns s.scopes s.owner s.outer number scopes home → HomeFits s number home → IsThere s.scopes (innermost scopes home)
    innermost_there number [] home o h = home_there number home h
    innermost_there number (n ∷ scopes) home o h = o.0

    pub counts_frame : (number : ℕ) (scopes : List ℕ) (home : Option Home) → Owns s.scopes s.owner s.outer number scopes home → HomeFits s number home → page_counts s'.chain scopes home ≡ page_counts s.chain scopes home
    counts_frame number [] home o h = ap (λ l. length l ∷ []) (chain_frame (home_scope home) (home_there number home h))
    counts_frame number (n ∷ scopes) home o h = ap (λ l. length l ∷ page_counts s'.chain scopes home) (f.chain n o.0) ∙ ap (λ l. length (s.chain n) ∷ l) (counts_frame number scopes home o.3 h)

    pub active_frame : (number : ℕ) (scopes : List ℕ) (home : Option Home) → R number → Owns s.scopes s.owner s.outer number scopes home → AreActive s.phase scopes → AreActive s'.phase scopes
    active_frame number [] home q o g = g
    active_frame number (n ∷ scopes) home q o g = (f.phase n o.0 (subst R (sym o.1) q) ∙ g.0, active_frame number scopes home q o.3 g.1)

    pub joining_frame : (number : ℕ) (scopes : List ℕ) (home : Option Home) → R number → Owns s.scopes s.owner s.outer number scopes home → IsJoining s.phase scopes → IsJoining s'.phase scopes
    joining_frame number [] home q o g = g
    joining_frame number (n ∷ scopes) home q o g = (f.phase n o.0 (subst R (sym o.1) q) ∙ g.0, active_frame number scopes home q o.3 g.1)

    behind_frame : (m number : ℕ) (scopes : List ℕ) (home : Option Home) → R number → Owns s.scopes s.owner s.outer number scopes home → IsSuspended s.phase m scopes → IsSuspended s'.phase m scopes
    behind_frame m number [] home q o g = g
    behind_frame m number (n ∷ scopes) home q o g = (g.0, active_frame number scopes home q o.3 g.1)

    module _ (BodyFits : List ℕ → Body → Type 0) (V : ℕ) (location location' : ℕ → Location) where
      pub strand_frame : (p p' : Location) (t : Strand Body) → Q t.number → location' t.number ≡ p' → StrandFits BodyFits s location p t → StrandFits BodyFits s' location' p' t
      strand_frame p p' t q e z = record {
        young = let a = f.strands in let b = z.young in omega (arith, a, b);
        place = e;
        home = home_frame t.number t.home q z.home;
        owns = owns_frame t.number t.scopes t.home z.owns;
        okay = subst (λ l. BodyFits l t.body) (sym (counts_frame t.number t.scopes t.home z.owns z.home)) z.okay;
        all = all_frame t.number t.scopes q z.all;
      }

      pub deque_frame : (w number : ℕ) (home : Option Home) (deque : List (Strand Body)) → ((k : ℕ) → k < number → location k ≡ at_worker w → Q k × R k × (location' k ≡ at_worker w))
          → DequeFits BodyFits s location w number home deque → DequeFits BodyFits s' location' w number home deque
      deque_frame w number home [] q l = l
      deque_frame w number home (t ∷ deque) q l =
          let r = q t.number l.1 l.2.place in
          let a = l.1 in (
            l.0,
            l.1,
            strand_frame (at_worker w) (at_worker w) t r.0 r.2 l.2,
            active_frame t.number t.scopes t.home r.1 l.2.owns l.3,
            deque_frame w t.number t.home deque (λ k less e. q k (omega (arith, less, a)) e) l.4,
          )

      pub maps_frame : (o : Option ℕ) (pages store : List ℕ) → IsThere s.scopes o → MapFits V s.chain o pages store → MapFits V s'.chain o pages store
      maps_frame o pages store i m = record { begins = subst (λ l. IsFront l pages) (sym (chain_frame o i)) m.begins; whole = m.whole }

      -- a worker that the turn doesn't touch
      pub task_frame : (w : ℕ) (pages store : List ℕ) (deque : List (Strand Body)) (task : Task Body Ended) → ((k : ℕ) → k < s.strands → location k ≡ at_worker w → Q k × R k × (location' k ≡ at_worker w))
          → TaskFits BodyFits V s location w pages store deque task → TaskFits BodyFits V s' location' w pages store deque task
      task_frame w pages store deque idle q z = z
      task_frame w pages store deque (mapping t) q z = let r = q t.number z.3.young z.3.place in
          (z.0, z.1, z.2, strand_frame (at_worker w) (at_worker w) t r.0 r.2 z.3, active_frame t.number t.scopes t.home r.1 z.3.owns z.4, z.5)
      task_frame w pages store deque (running t) q z = let r = q t.number z.1.young z.1.place in let y = z.1.young in (
        maps_frame (innermost t.scopes t.home) pages store (innermost_there t.number t.scopes t.home z.1.owns z.1.home) z.0,
        strand_frame (at_worker w) (at_worker w) t r.0 r.2 z.1,
        active_frame t.number t.scopes t.home r.1 z.1.owns z.2,
        deque_frame w t.number t.home deque (λ k less e. q k (omega (arith, less, y)) e) z.3,
      )
      task_frame w pages store deque (depositing h e) q z = let c = z.2 in let r = q c.0 c.1 c.3 in
          (maps_frame (Some h.scope) pages store c.2.0 z.0, z.1, (c.0, (let a = f.strands in let b = c.1 in omega (arith, a, b)), out_frame c.0 h r.0 c.2, r.2, all_frame c.0 [] r.0 c.4))
      task_frame w pages store deque (arriving n) q z = (maps_frame (Some n) pages store z.2 z.0, z.1, let a = f.scopes in let b = z.2 in omega (arith, a, b))
      task_frame w pages store deque (leaving n) q z = (z.0, z.1, (let a = f.scopes in let b = z.2 in omega (arith, a, b)), ap (λ l. length store + length l) (f.chain n z.2) ∙ z.3)
      task_frame w pages store deque (collecting t) q z = let r = q t.number z.1.young z.1.place in let y = z.1.young in (
        maps_frame (innermost t.scopes t.home) pages store (innermost_there t.number t.scopes t.home z.1.owns z.1.home) z.0,
        strand_frame (at_worker w) (at_worker w) t r.0 r.2 z.1,
        joining_frame t.number t.scopes t.home r.1 z.1.owns z.2,
        deque_frame w t.number t.home deque (λ k less e. q k (omega (arith, less, y)) e) z.3,
      )
      task_frame w pages store deque (over e) q z = z

      -- a parked strand
      pub phase_frame : (n : ℕ) (g : Phase Body) → ((k : ℕ) → k < s.strands → location k ≡ at_scope n → Q k × R k × (location' k ≡ at_scope n))
          → PhaseFits BodyFits s location n g → PhaseFits BodyFits s' location' n g
      phase_frame n active q z = z
      phase_frame n (suspended t) q z = let r = q t.number z.0.young z.0.place in
          (strand_frame (at_scope n) (at_scope n) t r.0 r.2 z.0, behind_frame n t.number t.scopes t.home r.1 z.0.owns z.1)
      phase_frame n joining q z = z
      phase_frame n closed q z = z
