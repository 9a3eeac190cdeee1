-- Paths in walks that stand one after another.
use Rattle.std.proofs.Common.{List, [], ◌∷◌, ◌++◌, inl, inr}
use Rattle.std.specs.Prelude.{◌⊎◌, ⊤}
use Rattle.cm_syntax.specs.Walk.{Event, GoesOn, Comes, Leads}

-- a path leads over all of these events
abbrev pub IsOpen : List Event → Type 0
IsOpen [] = ⊤
IsOpen (e ∷ walk) = GoesOn e × IsOpen walk

-- a path leads from such an event to the end of these events
abbrev pub Departs : (From : Event → Type 0) → List Event → Type 0
Departs From [] = ⊥
Departs From (e ∷ walk) = (From e × IsOpen walk) ⊎ Departs From walk

pub open_joined : (front rest : List Event) → IsOpen front → IsOpen rest → IsOpen (front ++ rest)
open_joined [] rest h i = i
open_joined (e ∷ front) rest h i = (h.0, open_joined front rest h.1 i)

pub open_parts : (front rest : List Event) → IsOpen (front ++ rest) → IsOpen front × IsOpen rest
open_parts [] rest h = (tt, h)
open_parts (e ∷ front) rest h =
    let parts = open_parts front rest h.1 in
    ((h.0, parts.0), parts.1)

module _ (To : Event → Type 0) where
  pub comes_front : (front rest : List Event) → Comes To front → Comes To (front ++ rest)
  comes_front [] rest h = absurd h
  comes_front (e ∷ front) rest (inl h) = inl h
  comes_front (e ∷ front) rest (inr h) = inr (h.0, comes_front front rest h.1)

  pub comes_rest : (front rest : List Event) → IsOpen front → Comes To rest → Comes To (front ++ rest)
  comes_rest [] rest h i = i
  comes_rest (e ∷ front) rest h i = inr (h.0, comes_rest front rest h.1 i)

  pub comes_parts : (front rest : List Event) → Comes To (front ++ rest) → Comes To front ⊎ (IsOpen front × Comes To rest)
  comes_parts [] rest h = inr (tt, h)
  comes_parts (e ∷ front) rest (inl h) = inl (inl h)
  comes_parts (e ∷ front) rest (inr h) = elim (comes_parts front rest h.1) [ inl i ↦ inl (inr (h.0, i)) | inr i ↦ inr ((h.0, i.0), i.1) ]

module _ (From : Event → Type 0) where
  pub departs_front : (front rest : List Event) → Departs From front → IsOpen rest → Departs From (front ++ rest)
  departs_front [] rest h i = absurd h
  departs_front (e ∷ front) rest (inl h) i = inl (h.0, open_joined front rest h.1 i)
  departs_front (e ∷ front) rest (inr h) i = inr (departs_front front rest h i)

  pub departs_rest : (front rest : List Event) → Departs From rest → Departs From (front ++ rest)
  departs_rest [] rest h = h
  departs_rest (e ∷ front) rest h = inr (departs_rest front rest h)

  pub departs_parts : (front rest : List Event) → Departs From (front ++ rest) → (Departs From front × IsOpen rest) ⊎ Departs From rest
  departs_parts [] rest h = inr h
  departs_parts (e ∷ front) rest (inl h) =
      let parts = open_parts front rest h.1 in
      inl (inl (h.0, parts.0), parts.1)
  departs_parts (e ∷ front) rest (inr h) = elim (departs_parts front rest h) [ inl i ↦ inl (inr i.0, i.1) | inr i ↦ inr i ]

module _ (From To : Event → Type 0) where
  pub leads_front : (front rest : List Event) → Leads From To front → Leads From To (front ++ rest)
  leads_front [] rest h = absurd h
  leads_front (e ∷ front) rest (inl h) = inl (h.0, comes_front To front rest h.1)
  leads_front (e ∷ front) rest (inr h) = inr (leads_front front rest h)

  pub leads_rest : (front rest : List Event) → Leads From To rest → Leads From To (front ++ rest)
  leads_rest [] rest h = h
  leads_rest (e ∷ front) rest h = inr (leads_rest front rest h)

  pub leads_over : (front rest : List Event) → Departs From front → Comes To rest → Leads From To (front ++ rest)
  leads_over [] rest h i = absurd h
  leads_over (e ∷ front) rest (inl h) i = inl (h.0, comes_rest To front rest h.1 i)
  leads_over (e ∷ front) rest (inr h) i = inr (leads_over front rest h i)

  -- a path stands in the one part, in the other, or leads from the one into the other
  pub leads_parts : (front rest : List Event) → Leads From To (front ++ rest) →
      Leads From To front ⊎ (Leads From To rest ⊎ (Departs From front × Comes To rest))
  leads_parts [] rest h = inr (inl h)
  leads_parts (e ∷ front) rest (inl h) =
      elim (comes_parts To front rest h.1) [ inl i ↦ inl (inl (h.0, i)) | inr i ↦ inr (inr (inl (h.0, i.0), i.1)) ]
  leads_parts (e ∷ front) rest (inr h) =
      elim (leads_parts front rest h) [ inl i ↦ inl (inr i) | inr i ↦ elim i [ inl j ↦ inr (inl j) | inr j ↦ inr (inr (inr j.0, j.1)) ] ]
