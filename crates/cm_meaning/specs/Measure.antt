-- What a run takes of the stack: the account, and the two numbers by which the pages of a parallel run are bounded.
use Rattle.std.specs.Prelude.{◌≡◌, ℕ, ◌+◌, ◌*◌, ◌-◌, ◌/◌, ◌≤◌, if◌then◌else◌, ℤ, Option, None, Some, List, [], ◌∷◌, slice_get}
use Rattle.cm_syntax.specs.declared.stmt.Function.{Function}
use Rattle.cm_syntax.specs.declared.stmt.Program.{Program}
use Rattle.cm_syntax.specs.Frame.{frame_words}
use Rattle.cm_syntax.specs.Stack.{Stack, empty_stack}
use Rattle.cm_syntax.specs.Rest.{Control}
use Rattle.cm_syntax.specs.Step.{call_bytes}
use Rattle.cm_meaning.specs.Meaning.{Limits, Piece, Comes, Reached, begun, main_ask, first_control}

-- the bytes of a function's frame
abbrev pub frame_bytes_in : Option (Function ℕ) → ℕ
frame_bytes_in None = 0
frame_bytes_in (Some function) = 4 * frame_words function

-- 1 for a function that is marked `cilk`
abbrev pub cilk_count_in : Option (Function ℕ) → ℕ
cilk_count_in None = 0
cilk_count_in (Some function) = if function.cilk then 1 else 0

-- the frame bytes of a chain of calls together
abbrev pub frame_bytes : Program → (calls : List ℕ) → ℕ
frame_bytes program [] = 0
frame_bytes program (f ∷ calls) = frame_bytes_in (slice_get program.functions f) + frame_bytes program calls

-- how many calls of a chain are of functions marked `cilk`
abbrev pub cilk_frames : Program → (calls : List ℕ) → ℕ
cilk_frames program [] = 0
cilk_frames program (f ∷ calls) = cilk_count_in (slice_get program.functions f) + cilk_frames program calls

-- The account of a chain of calls: the bytes of the stack, less the frame bytes of each call, and less a page for each
-- call of a function marked `cilk`.
abbrev pub account_of : Program → Limits → (calls : List ℕ) → ℕ
account_of program limits [] = limits.stack * limits.page
account_of program limits (f ∷ calls) = account_of program limits calls - call_bytes program limits.page [] f

-- the greatest value that a measure of the live calls has in the run of the elision
pub record IsGreatest (program : Program) (input : List ℤ) (limits : Limits) (measure : (calls : List ℕ) → ℕ) (n : ℕ)
    : Type 0 where
  pub bound : (out : List ℤ) (used : ℕ) (t : Control) (g : Stack)
      → Comes program limits.page input (first_control program limits) empty_stack out used t g → used ≤ limits.ticks
      → measure t.calls ≤ n
  pub met : (out : List ℤ) × (used : ℕ) × (t : Control) × (g : Stack)
      × Comes program limits.page input (first_control program limits) empty_stack out used t g × (used ≤ limits.ticks)
      × (measure t.calls ≡ n)

-- so many bytes in pages, rounded up
abbrev pub pages_of : (page bytes : ℕ) → ℕ
pages_of page bytes = (bytes + (page - 1)) / page

-- the pages of the greatest sum of frame bytes of live calls
abbrev pub IsSerialPages : Program → (input : List ℤ) → Limits → ℕ → Type 0
IsSerialPages program input limits n =
    (bytes : ℕ) × IsGreatest program input limits (frame_bytes program) bytes × (n ≡ pages_of limits.page bytes)

-- the greatest number of live frames of functions marked `cilk`
abbrev pub IsCilkDepth : Program → (input : List ℤ) → Limits → ℕ → Type 0
IsCilkDepth program input limits n = IsGreatest program input limits (cilk_frames program) n

-- ---- reached pieces

-- the frame bytes of the live calls of each reached piece of a program take at most so many pages
abbrev pub FitPages : Program → (input : List ℤ) → Limits → ℕ → Type 0
FitPages program input limits n = (p : Piece) → Reached program limits.page input (begun (main_ask program limits)) p
    → frame_bytes program p.control.calls ≤ n * limits.page

-- each reached piece has at most so many live frames of functions marked `cilk`
abbrev pub FitDepth : Program → (input : List ℤ) → Limits → ℕ → Type 0
FitDepth program input limits n = (p : Piece) → Reached program limits.page input (begun (main_ask program limits)) p
    → cilk_frames program p.control.calls ≤ n
