-- The paths that are made of the parts' are those of the walks, both ways.
use Rattle.std.proofs.Common.{List, [], ◌∷◌, ◌++◌, inl, inr, refl, subst, sym}
use Rattle.std.proofs.lemmas.List.{append-nil}
use Rattle.std.specs.Prelude.{◌⊎◌}
use Rattle.cm_syntax.specs.Walk.{Event, Order, nothing, event, next, choice, turns, Repeats, no_turn, a_turn, Walks, Comes, Leads}
use Rattle.cm_lend.specs.Part.{Passes, Enters, Leaves, Holds}
use Rattle.cm_lend.proofs.WalkLaw.{IsOpen, Departs, open_joined, open_parts, comes_front, comes_rest, comes_parts, departs_front, departs_rest, departs_parts, leads_front, leads_rest, leads_over, leads_parts}

-- ---- each is a path of some walk

-- a walk with a property
abbrev pub HasWalk : Order → (List Event → Type 0) → Type 0
HasWalk o P = (walk : List Event) × Walks o walk × P walk

one_turn : (turn : Order) (walk : List Event) → Walks turn walk → Walks (turns turn) walk
one_turn turn walk h = a_turn {first = walk} {rest = []} (sym (append-nil walk)) h no_turn

two_turns : (turn : Order) (x y : List Event) → Walks turn x → Walks turn y → Walks (turns turn) (x ++ y)
two_turns turn x y h i = a_turn {first = x} {rest = y} refl h (one_turn turn y i)

pub a_walk : (o : Order) → (walk : List Event) × Walks o walk
a_walk nothing = ([], refl)
a_walk (event e) = (e ∷ [], refl)
a_walk (next first second) =
    let x = a_walk first in
    let y = a_walk second in
    (x.0 ++ y.0, (x.0, y.0, refl, x.1, y.1))
a_walk (choice one other) =
    let x = a_walk one in
    (x.0, inl x.1)
a_walk (turns turn) = ([], no_turn)

pub pass_walk : (o : Order) → Passes o → HasWalk o IsOpen
pass_walk nothing h = ([], refl, tt)
pass_walk (event e) h = (e ∷ [], refl, (h, tt))
pass_walk (next first second) h =
    let x = pass_walk first h.0 in
    let y = pass_walk second h.1 in
    (x.0 ++ y.0, (x.0, y.0, refl, x.1, y.1), open_joined x.0 y.0 x.2 y.2)
pass_walk (choice one other) (inl h) =
    let x = pass_walk one h in
    (x.0, inl x.1, x.2)
pass_walk (choice one other) (inr h) =
    let x = pass_walk other h in
    (x.0, inr x.1, x.2)
pass_walk (turns turn) h = ([], no_turn, tt)

pub enter_walk : (To : Event → Type 0) (o : Order) → Enters To o → HasWalk o (Comes To)
enter_walk To nothing h = absurd h
enter_walk To (event e) h = (e ∷ [], refl, inl h)
enter_walk To (next first second) (inl h) =
    let x = enter_walk To first h in
    let y = a_walk second in
    (x.0 ++ y.0, (x.0, y.0, refl, x.1, y.1), comes_front To x.0 y.0 x.2)
enter_walk To (next first second) (inr h) =
    let x = pass_walk first h.0 in
    let y = enter_walk To second h.1 in
    (x.0 ++ y.0, (x.0, y.0, refl, x.1, y.1), comes_rest To x.0 y.0 x.2 y.2)
enter_walk To (choice one other) (inl h) =
    let x = enter_walk To one h in
    (x.0, inl x.1, x.2)
enter_walk To (choice one other) (inr h) =
    let x = enter_walk To other h in
    (x.0, inr x.1, x.2)
enter_walk To (turns turn) h =
    let x = enter_walk To turn h in
    (x.0, one_turn turn x.0 x.1, x.2)

pub leave_walk : (From : Event → Type 0) (o : Order) → Leaves From o → HasWalk o (Departs From)
leave_walk From nothing h = absurd h
leave_walk From (event e) h = (e ∷ [], refl, inl (h, tt))
leave_walk From (next first second) (inl h) =
    let x = leave_walk From first h.0 in
    let y = pass_walk second h.1 in
    (x.0 ++ y.0, (x.0, y.0, refl, x.1, y.1), departs_front From x.0 y.0 x.2 y.2)
leave_walk From (next first second) (inr h) =
    let x = a_walk first in
    let y = leave_walk From second h in
    (x.0 ++ y.0, (x.0, y.0, refl, x.1, y.1), departs_rest From x.0 y.0 y.2)
leave_walk From (choice one other) (inl h) =
    let x = leave_walk From one h in
    (x.0, inl x.1, x.2)
leave_walk From (choice one other) (inr h) =
    let x = leave_walk From other h in
    (x.0, inr x.1, x.2)
leave_walk From (turns turn) h =
    let x = leave_walk From turn h in
    (x.0, one_turn turn x.0 x.1, x.2)

pub hold_walk : (From To : Event → Type 0) (o : Order) → Holds From To o → HasWalk o (Leads From To)
hold_walk From To nothing h = absurd h
hold_walk From To (event e) h = absurd h
hold_walk From To (next first second) (inl h) =
    let x = hold_walk From To first h in
    let y = a_walk second in
    (x.0 ++ y.0, (x.0, y.0, refl, x.1, y.1), leads_front From To x.0 y.0 x.2)
hold_walk From To (next first second) (inr (inl h)) =
    let x = a_walk first in
    let y = hold_walk From To second h in
    (x.0 ++ y.0, (x.0, y.0, refl, x.1, y.1), leads_rest From To x.0 y.0 y.2)
hold_walk From To (next first second) (inr (inr h)) =
    let x = leave_walk From first h.0 in
    let y = enter_walk To second h.1 in
    (x.0 ++ y.0, (x.0, y.0, refl, x.1, y.1), leads_over From To x.0 y.0 x.2 y.2)
hold_walk From To (choice one other) (inl h) =
    let x = hold_walk From To one h in
    (x.0, inl x.1, x.2)
hold_walk From To (choice one other) (inr h) =
    let x = hold_walk From To other h in
    (x.0, inr x.1, x.2)
hold_walk From To (turns turn) (inl h) =
    let x = hold_walk From To turn h in
    (x.0, one_turn turn x.0 x.1, x.2)
hold_walk From To (turns turn) (inr h) =
    let x = leave_walk From turn h.0 in
    let y = enter_walk To turn h.1 in
    (x.0 ++ y.0, two_turns turn x.0 y.0 x.1 y.1, leads_over From To x.0 y.0 x.2 y.2)

-- ---- each path of a walk is one of these

pub walk_passes : (o : Order) (walk : List Event) → Walks o walk → IsOpen walk → Passes o
walk_passes nothing walk w h = tt
walk_passes (event e) walk w h =
    let i = subst IsOpen w h in
    i.0
walk_passes (next first second) walk w h =
    let parts = open_parts w.0 w.1 (subst IsOpen w.2 h) in
    (walk_passes first w.0 w.3 parts.0, walk_passes second w.1 w.4 parts.1)
walk_passes (choice one other) walk (inl w) h = inl (walk_passes one walk w h)
walk_passes (choice one other) walk (inr w) h = inr (walk_passes other walk w h)
walk_passes (turns turn) walk w h = tt

-- of turns: a path comes to the event in one of them
repeat_enters : (To : Event → Type 0) {P : List Event → Type 0} (A : Type 0) → ((walk : List Event) → P walk → Comes To walk → A) →
    {walk : List Event} → Repeats P walk → Comes To walk → A
repeat_enters To A is no_turn h = absurd h
repeat_enters To A is (a_turn {first = x} {rest = y} e p more) h =
    elim (comes_parts To x y (subst (Comes To) e h)) [ inl i ↦ is x p i | inr i ↦ repeat_enters To A is more i.1 ]

pub walk_enters : (To : Event → Type 0) (o : Order) (walk : List Event) → Walks o walk → Comes To walk → Enters To o
walk_enters To nothing walk w h = subst (Comes To) w h
walk_enters To (event e) walk w h =
    let i = subst (Comes To) w h in
    elim i [ inl j ↦ j | inr j ↦ absurd j.1 ]
walk_enters To (next first second) walk w h =
    elim (comes_parts To w.0 w.1 (subst (Comes To) w.2 h)) [
      | inl i ↦ inl (walk_enters To first w.0 w.3 i)
      | inr i ↦ inr (walk_passes first w.0 w.3 i.0, walk_enters To second w.1 w.4 i.1)
    ]
walk_enters To (choice one other) walk (inl w) h = inl (walk_enters To one walk w h)
walk_enters To (choice one other) walk (inr w) h = inr (walk_enters To other walk w h)
walk_enters To (turns turn) walk w h = repeat_enters To (Enters To turn) (walk_enters To turn) w h

repeat_leaves : (From : Event → Type 0) {P : List Event → Type 0} (A : Type 0) → ((walk : List Event) → P walk → Departs From walk → A) →
    {walk : List Event} → Repeats P walk → Departs From walk → A
repeat_leaves From A is no_turn h = absurd h
repeat_leaves From A is (a_turn {first = x} {rest = y} e p more) h =
    elim (departs_parts From x y (subst (Departs From) e h)) [ inl i ↦ is x p i.0 | inr i ↦ repeat_leaves From A is more i ]

pub walk_leaves : (From : Event → Type 0) (o : Order) (walk : List Event) → Walks o walk → Departs From walk → Leaves From o
walk_leaves From nothing walk w h = subst (Departs From) w h
walk_leaves From (event e) walk w h =
    let i = subst (Departs From) w h in
    elim i [ inl j ↦ j.0 | inr j ↦ absurd j ]
walk_leaves From (next first second) walk w h =
    elim (departs_parts From w.0 w.1 (subst (Departs From) w.2 h)) [
      | inl i ↦ inl (walk_leaves From first w.0 w.3 i.0, walk_passes second w.1 w.4 i.1)
      | inr i ↦ inr (walk_leaves From second w.1 w.4 i)
    ]
walk_leaves From (choice one other) walk (inl w) h = inl (walk_leaves From one walk w h)
walk_leaves From (choice one other) walk (inr w) h = inr (walk_leaves From other walk w h)
walk_leaves From (turns turn) walk w h = repeat_leaves From (Leaves From turn) (walk_leaves From turn) w h

-- a path of turns stands in one of them, or leads from one into a later one
repeat_holds : (From To : Event → Type 0) {P : List Event → Type 0} (H L E : Type 0) →
    ((walk : List Event) → P walk → Leads From To walk → H) →
    ((walk : List Event) → P walk → Departs From walk → L) →
    ((walk : List Event) → P walk → Comes To walk → E) →
    {walk : List Event} → Repeats P walk → Leads From To walk → H ⊎ (L × E)
repeat_holds From To H L E holds parts enters no_turn h = absurd h
repeat_holds From To H L E holds parts enters (a_turn {first = x} {rest = y} e p more) h =
    elim (leads_parts From To x y (subst (Leads From To) e h)) [
      | inl i ↦ inl (holds x p i)
      | inr i ↦ elim i [
        | inl j ↦ repeat_holds From To H L E holds parts enters more j
        | inr j ↦ inr (parts x p j.0, repeat_enters To E enters more j.1)
      ]
    ]

pub walk_holds : (From To : Event → Type 0) (o : Order) (walk : List Event) → Walks o walk → Leads From To walk → Holds From To o
walk_holds From To nothing walk w h = subst (Leads From To) w h
walk_holds From To (event e) walk w h =
    let i = subst (Leads From To) w h in
    elim i [ inl j ↦ absurd j.1 | inr j ↦ absurd j ]
walk_holds From To (next first second) walk w h =
    elim (leads_parts From To w.0 w.1 (subst (Leads From To) w.2 h)) [
      | inl i ↦ inl (walk_holds From To first w.0 w.3 i)
      | inr i ↦ elim i [
        | inl j ↦ inr (inl (walk_holds From To second w.1 w.4 j))
        | inr j ↦ inr (inr (walk_leaves From first w.0 w.3 j.0, walk_enters To second w.1 w.4 j.1))
      ]
    ]
walk_holds From To (choice one other) walk (inl w) h = inl (walk_holds From To one walk w h)
walk_holds From To (choice one other) walk (inr w) h = inr (walk_holds From To other walk w h)
walk_holds From To (turns turn) walk w h =
    repeat_holds From To (Holds From To turn) (Leaves From turn) (Enters To turn) (walk_holds From To turn)
    (walk_leaves From turn) (walk_enters To turn) w h
