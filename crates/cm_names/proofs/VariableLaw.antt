-- The table of the visible variables, name by name.
use Rattle.std.proofs.Common.{◌≡◌, Bool, true, false, cond, if◌then◌else◌, List, [], ◌∷◌, ◌++◌, reverse, Option, None, Some, unwrap_or, IsSome, MatchOption, refl, sym, ap, subst, ◌∙◌}
use Rattle.std.specs.Prelude.{option_map}
use Rattle.std.proofs.lemmas.List.{reverse-append}
use Rattle.indexmap.specs.IndexMap.{get, WritesThrough}
use Rattle.cm_syntax.specs.declared.name.Name.{Name}
use Rattle.cm_syntax.specs.Text.{is_same}
use Rattle.cm_syntax.specs.Resolution.{lookup}
use Rattle.cm_syntax.proofs.lexing.Spelling.{is_same-equal}
use Rattle.cm_names.specs.declared.variable.Variable.{Variable}
use Rattle.cm_names.specs.declared.variable.Variables.{Variables}
use Rattle.cm_names.specs.Visible.{Sight, Shows, kept_of, of_name, stack_of, top, below_top}

-- the nearest variable of a name is the one that the name stands for
pub top_of_name : (visible : Sight) (x : Name) → top (of_name visible x) ≡ option_map kept_of (lookup visible x)
top_of_name [] x = refl
top_of_name (v ∷ visible) x = by_test (is_same v.name x) (top_of_name visible x)
  where
    by_test : (b : Bool) → top (of_name visible x) ≡ option_map kept_of (lookup visible x) →
        top (if b then kept_of v ∷ of_name visible x else of_name visible x) ≡ option_map kept_of (cond b (Some v) (lookup visible x))
    by_test true h = refl
    by_test false h = h

pub shown : (variables : Variables) (visible : Sight) (x : Name) (found : Option Variable) → Shows variables visible →
    found ≡ top (stack_of variables x) → found ≡ option_map kept_of (lookup visible x)
shown variables visible x found h is = is ∙ (ap top (h.each x) ∙ top_of_name visible x)

-- the new table has this stack of a name, and of the others what the old one has
pub record Writes (old new : Variables) (name : Name) (stack : List Variable) : Type 0 where
  pub each : (x : Name) → get is_same new.stacks x ≡ cond (is_same name x) (Some stack) (get is_same old.stacks x)

pub writes : (old new : Variables) (name : Name) (before after : List Variable) → Some before ≡ get is_same old.stacks name →
    WritesThrough is_same (is_same name) old.stacks after new.stacks → Writes old new name after
writes old new name before after had h = record { each = (h.3 (subst IsSome had refl)).0 }

of_writes : (old new : Variables) (name x : Name) (stack : List Variable) (to : List Variable → List Variable) → Writes old new name stack →
    reverse stack ≡ to (stack_of old name) → stack_of new x ≡ (if is_same name x then to (stack_of old x) else stack_of old x)
of_writes old new name x stack to h is = by_test (is_same name x) refl
  where
    by_test : (b : Bool) → is_same name x ≡ b → stack_of new x ≡ (if b then to (stack_of old x) else stack_of old x)
    by_test true e =
        ap (λ g. reverse (unwrap_or g [])) (h.each x ∙ ap (λ b. cond b (Some stack) (get is_same old.stacks x)) e) ∙
        (is ∙ ap (λ y. to (stack_of old y)) (is_same-equal name x e))
    by_test false e = ap (λ g. reverse (unwrap_or g [])) (h.each x ∙ ap (λ b. cond b (Some stack) (get is_same old.stacks x)) e)

-- a variable on the stack of a name
pub pushed : (old new : Variables) (name x : Name) (v : Variable) (before after : List Variable) → Some before ≡ get is_same old.stacks name →
    after ≡ before ++ v ∷ [] → Writes old new name after →
    stack_of new x ≡ (if is_same name x then v ∷ stack_of old x else stack_of old x)
pushed old new name x v before after had is h =
    of_writes old new name x after (λ stack. v ∷ stack) h
    (ap reverse is ∙ (reverse-append before (v ∷ []) ∙ ap (λ g. v ∷ reverse (unwrap_or g [])) had))

-- a stack of a name without its nearest variable
pub popped : (old new : Variables) (name x : Name) (before after : List Variable) → Some before ≡ get is_same old.stacks name →
    reverse after ≡ below_top (reverse before) → Writes old new name after →
    stack_of new x ≡ (if is_same name x then below_top (stack_of old x) else stack_of old x)
popped old new name x before after had is h =
    of_writes old new name x after below_top h (is ∙ ap (λ g. below_top (reverse (unwrap_or g []))) had)

-- what `pop` leaves of a list
pub without_last : (before after : List Variable) (taken : Option Variable) →
    MatchOption taken ((before ≡ []) × (after ≡ [])) (λ last. before ≡ after ++ last ∷ []) → reverse after ≡ below_top (reverse before)
without_last before after None h = ap reverse h.1 ∙ sym (ap (λ stack. below_top (reverse stack)) h.0)
without_last before after (Some last) h = sym (ap (λ stack. below_top (reverse stack)) h ∙ ap below_top (reverse-append after (last ∷ [])))
