-- Several spans of places.
use Rattle.std.specs.Prelude.{ℕ, Bool, false, ◌||◌, List, [], ◌∷◌}
use Rattle.cm_words.specs.Held.{in_span}
use Rattle.cm_words.specs.declared.region.Span.{Span}

-- the place i is in one of the spans
abbrev pub in_spans : List Span → ℕ → Bool
in_spans [] i = false
in_spans (span ∷ spans) i = in_span span.first span.count i || in_spans spans i
